-- What a collection has copied, step after step.
use Rattle.std.proofs.Common.{◌≡◌, ◌⊎◌, inl, inr, ℕ, true, List, [], ◌∷◌, ◌++◌, Option, None, Some, is_some, refl, sym, ap, ◌∙◌, append_assoc}
use Rattle.std.specs.Prelude.{not, ◌==◌}
use Rattle.std.specs.List.{AllByRecursion}
use Rattle.std.proofs.lemmas.List.{append-nil}
use Rattle.graph_model.specs.declared.id.Id.{Id}
use Rattle.log_records.specs.declared.Record.{Record}
use Rattle.log_records.specs.declared.Record.TheVariants.{Update, Base, Fix, Undo, Commit, End, Copy, Scan, Flip, Collected}
use Rattle.graph_words.specs.Places.{Places, address_of}
use Rattle.graph_words.proofs.Seal.Places.{address_of-append_right}
use Rattle.collection_words.specs.Completed.{without}
use Rattle.collection_words.specs.Placed.{HaveOwnNames}
use Rattle.collection_words.specs.Placing.{Placing, moved_by, moved_by_all, placing_of, put_at}
use Rattle.heap_model.specs.Core.{Core}
use Rattle.limit_laws.proofs.Copies.Disturbed.{kept_some, own_apart, put_some, some_none}
use Rattle.limit_laws.proofs.Copies.Scans.{AreKept, address_cases}
use Rattle.limit_laws.proofs.Copies.Steps.{NewIn}
use Rattle.limit_laws.proofs.Events.Kinds.{IsNoFlip, IsOfTransaction}

-- records of transactions move no object
pub moved_own : (p : Placing) (rs : List Record) → AllByRecursion IsOfTransaction rs → moved_by_all p rs ≡ p
moved_own p [] all = refl
moved_own p (Copy from to words ∷ rs) all = absurd all.0
moved_own p (Scan page writes ∷ rs) all = absurd all.0
moved_own p (Flip copies ∷ rs) all = absurd all.0
moved_own p (Collected ∷ rs) all = absurd all.0
moved_own p (Update t object field was word ∷ rs) all = moved_own p rs all.1
moved_own p (Base t address words ∷ rs) all = moved_own p rs all.1
moved_own p (Fix t object field word ∷ rs) all = moved_own p rs all.1
moved_own p (Undo t object field word ∷ rs) all = moved_own p rs all.1
moved_own p (Commit t ∷ rs) all = moved_own p rs all.1
moved_own p (End t ∷ rs) all = moved_own p rs all.1

-- Records other than flips add the same objects to whichever are current, by what remains.
pub record IsApart (P R : Places) (rs : List Record) : Type 0 where
  pub places : (moved_by_all (placing_of P R) rs).places ≡ P ++ (moved_by_all (placing_of [] R) rs).places
  pub remaining : (moved_by_all (placing_of P R) rs).remaining ≡ (moved_by_all (placing_of [] R) rs).remaining

pub parted : (P R : Places) (rs : List Record) → AllByRecursion IsNoFlip rs → IsApart P R rs
parted P R [] all = record { places = sym (append-nil P); remaining = refl }
parted P R (Copy from to words ∷ rs) all =
    let new = put_at R from to in
    let rest = without R from in
    let here = parted (P ++ new) rest rs all.1 in
    let there = parted new rest rs all.1 in
    record {
      places = here.places ∙ append_assoc P new (moved_by_all (placing_of [] rest) rs).places ∙ ap (λ (ps : Places). P ++ ps) (sym there.places);
      remaining = here.remaining ∙ sym there.remaining;
    }
parted P R (Collected ∷ rs) all = let rest = parted P [] rs all.1 in record { places = rest.places; remaining = rest.remaining }
parted P R (Flip copies ∷ rs) all = absurd all.0
parted P R (Update t object field was word ∷ rs) all = let rest = parted P R rs all.1 in record { places = rest.places; remaining = rest.remaining }
parted P R (Base t address words ∷ rs) all = let rest = parted P R rs all.1 in record { places = rest.places; remaining = rest.remaining }
parted P R (Fix t object field word ∷ rs) all = let rest = parted P R rs all.1 in record { places = rest.places; remaining = rest.remaining }
parted P R (Undo t object field word ∷ rs) all = let rest = parted P R rs all.1 in record { places = rest.places; remaining = rest.remaining }
parted P R (Commit t ∷ rs) all = let rest = parted P R rs all.1 in record { places = rest.places; remaining = rest.remaining }
parted P R (End t ∷ rs) all = let rest = parted P R rs all.1 in record { places = rest.places; remaining = rest.remaining }
parted P R (Scan page writes ∷ rs) all = let rest = parted P R rs all.1 in record { places = rest.places; remaining = rest.remaining }

-- what they add remained
pub new_left : (p : Placing) (rs : List Record) → AllByRecursion IsNoFlip rs → (id : Id) (at : ℕ) → address_of (moved_by_all p rs).places id ≡ Some at → (address_of p.places id ≡ Some at) ⊎ (is_some (address_of p.remaining id) ≡ true)
new_left p [] all id at is = inl is
new_left p (Copy from to words ∷ rs) all id at is = elim (new_left (moved_by p (Copy from to words)) rs all.1 id at is) [
  | inl before ↦ elim (address_cases p.places (put_at p.remaining from to) id at before) [
    | inl old ↦ inl old
    | inr new ↦ inr (put_some p.remaining from to id at new)
  ]
  | inr later ↦ inr (kept_some p.remaining (λ q. not (q.1 == from)) id later)
]
new_left p (Collected ∷ rs) all id at is = elim (new_left (moved_by p Collected) rs all.1 id at is) [ inl before ↦ inl before | inr never ↦ absurd (cc never) ]
new_left p (Flip copies ∷ rs) all id at is = absurd all.0
new_left p (Update t object field was word ∷ rs) all id at is = new_left p rs all.1 id at is
new_left p (Base t address words ∷ rs) all id at is = new_left p rs all.1 id at is
new_left p (Fix t object field word ∷ rs) all id at is = new_left p rs all.1 id at is
new_left p (Undo t object field word ∷ rs) all id at is = new_left p rs all.1 id at is
new_left p (Commit t ∷ rs) all id at is = new_left p rs all.1 id at is
new_left p (End t ∷ rs) all id at is = new_left p rs all.1 id at is
new_left p (Scan page writes ∷ rs) all id at is = new_left p rs all.1 id at is

-- What they add to a core is kept: so is what they add to whichever objects, by the same that remain.
pub more_kept : (K : Id → Type 0) (e : Core) (P : Places) (rs : List Record) → AllByRecursion IsNoFlip rs → HaveOwnNames (e.places ++ e.remaining) → NewIn K e rs → AreKept K P → AreKept K (moved_by_all (placing_of P e.remaining) rs).places
more_kept K e P rs plain own new old id at is =
    let N = (moved_by_all (placing_of [] e.remaining) rs).places in
    let there = ap (λ (ps : Places). address_of ps id) (sym (parted P e.remaining rs plain).places) ∙ is in
    elim (address_cases P N id at there) [
      | inl before ↦ old id at before
      | inr added ↦
          let left = from_none (new_left (placing_of [] e.remaining) rs plain id at added) in
          let gone = not_here (address_of e.places id) refl left in
          let here = ap (λ (ps : Places). address_of ps id) ((parted e.places e.remaining rs plain).places) ∙ address_of-append_right e.places N id gone ∙ added in
          elim (new id at here) [
            | inl was ↦ let clash = sym gone ∙ was in absurd (cc clash)
            | inr kept ↦ kept.0
          ]
    ]
  where
    from_none : (None ≡ Some at) ⊎ (is_some (address_of e.remaining id) ≡ true) → is_some (address_of e.remaining id) ≡ true
    from_none (inl never) = absurd (cc never)
    from_none (inr left) = left

    not_here : (o : Option ℕ) → address_of e.places id ≡ o → is_some (address_of e.remaining id) ≡ true → address_of e.places id ≡ None
    not_here None is left = is
    not_here (Some x) is left = absurd (some_none (own_apart e.places e.remaining id x own is) left)

-- and no more remains
pub same_left : (P Q R : Places) (rs : List Record) → AllByRecursion IsNoFlip rs → (moved_by_all (placing_of P R) rs).remaining ≡ (moved_by_all (placing_of Q R) rs).remaining
same_left P Q R rs plain = (parted P R rs plain).remaining ∙ sym (parted Q R rs plain).remaining
