-- What is current after a flip was copied since, or became stable since.
use Rattle.std.proofs.Common.{◌≡◌, ◌⊎◌, inl, inr, ℕ, Bool, true, false, List, [], ◌∷◌, ◌++◌, filter, None, Some, is_some, refl, sym, ap, ◌∙◌}
use Rattle.std.specs.Prelude.{◌||◌, ◌==◌, not, if◌then◌else◌}
use Rattle.std.specs.List.{AllByRecursion}
use Rattle.std.proofs.Math.Bool.{or-false}
use Rattle.std.proofs.lemmas.Bool.{or_from}
use Rattle.std.proofs.lemmas.List.{append-nil}
use Rattle.std.proofs.lemmas.List.Elements.{filter-append}
use Rattle.std.proofs.lemmas.List.Folds.{list_any-append}
use Rattle.graph_model.specs.declared.id.Id.{Id}
use Rattle.graph_model.specs.Graph.{is_same_id}
use Rattle.graph_model.specs.Transaction.{Transaction}
use Rattle.log_records.specs.declared.Record.{Record}
use Rattle.log_machine.proofs.ListLaws.{AllByRecursion-map}
use Rattle.graph_words.specs.Places.{Places, address_of}
use Rattle.graph_words.proofs.Places.Addresses.{address_of-head, some_address}
use Rattle.collection_words.specs.Placing.{moved_by_all, placing_of}
use Rattle.heap_model.specs.Core.{Core, placing}
use Rattle.limit_laws.specs.Copies.{is_made_by}
use Rattle.limit_laws.proofs.Copies.Disturbed.{some_later}
use Rattle.limit_laws.proofs.Copies.Followed.{new_left, parted}
use Rattle.limit_laws.proofs.Copies.Running.{IsPlaced}
use Rattle.limit_laws.proofs.Copies.Steps.{moved_fewer}
use Rattle.limit_laws.proofs.Events.Kinds.{IsNoFlip}

-- Lists.

-- what holds of each object that has a place holds of all places
pub all_named : (Q : Id → Type 0) (ps : Places) → ((id : Id) → is_some (address_of ps id) ≡ true → Q id) → AllByRecursion (λ (p : Id × ℕ). Q p.0) ps
all_named Q [] each = tt
all_named Q (p ∷ ps) each = (each p.0 (ap is_some (address_of-head p ps)), all_named Q ps (λ id is. each id (some_later (is_same_id p.0 id) p.1 (address_of ps id) is)))

keeps_all : (f : Id × ℕ → Bool) (ps : Places) → AllByRecursion (λ p. f p ≡ true) ps → filter f ps ≡ ps
keeps_all f [] all = refl
keeps_all f (p ∷ ps) all = ap (λ b. if b then p ∷ filter f ps else filter f ps) all.0 ∙ ap (λ (qs : Places). p ∷ qs) (keeps_all f ps all.1)

pub keeps_none : (f : Id × ℕ → Bool) (ps : Places) → AllByRecursion (λ p. f p ≡ false) ps → filter f ps ≡ []
keeps_none f [] all = refl
keeps_none f (p ∷ ps) all = ap (λ b. if b then p ∷ filter f ps else filter f ps) all.0 ∙ keeps_none f ps all.1

keeps_alike : (f h : Id × ℕ → Bool) (ps : Places) → AllByRecursion (λ p. f p ≡ h p) ps → filter f ps ≡ filter h ps
keeps_alike f h [] all = refl
keeps_alike f h (p ∷ ps) all = ap (λ b. if b then p ∷ filter f ps else filter f ps) all.0 ∙ ap (λ (qs : Places). if h p then p ∷ qs else qs) (keeps_alike f h ps all.1)

or_true : (b : Bool) → (b || true) ≡ true
or_true true = refl
or_true false = refl

-- Events.

-- Which transactions an event seals: these made all that it adds to the current objects, and nothing that was current or remained.
pub record Seals (e : Core) (sealed later : List Transaction) (more : Places) : Type 0 where
  pub ts : List Transaction
  pub seals : later ≡ sealed ++ ts
  pub made : AllByRecursion (λ (p : Id × ℕ). is_made_by ts p.0 ≡ true) more
  pub others : (id : Id) → IsPlaced (placing e) id → is_made_by ts id ≡ false

-- one that seals none
pub seals_none : (e : Core) (sealed : List Transaction) → Seals e sealed sealed []
seals_none e sealed = record { ts = []; seals = sym (append-nil sealed); made = tt; others = λ id is. refl }

-- By the transactions that were sealed since a flip: what is current and was not made by them was copied, and they made nothing that remains.
pub record IsCounted (copied : Places) (ts : List Transaction) (e : Core) : Type 0 where
  pub others : filter (λ p. not (is_made_by ts p.0)) e.places ≡ copied
  pub old : (id : Id) → is_some (address_of e.remaining id) ≡ true → is_made_by ts id ≡ false

-- none were at first
pub counted_first : (e : Core) → IsCounted e.places [] e
counted_first e = record {
  others = keeps_all (λ p. not (is_made_by [] p.0)) e.places (all_named (λ id. not (is_made_by [] id) ≡ true) e.places (λ id is. refl));
  old = λ id left. refl;
}

-- An event keeps it.
module _ (e f : Core) (copied : Places) (ts sealed later : List Transaction) (records : List Record) (plain : AllByRecursion IsNoFlip records) (more : Places)
    (stands : f.places ≡ (moved_by_all (placing e) records).places ++ more) (left : f.remaining ≡ (moved_by_all (placing e) records).remaining) (seals : Seals e sealed later more) (counted : IsCounted copied ts e) where
  abbrev new : Places
  new = (moved_by_all (placing_of [] e.remaining) records).places

  abbrev is_other : Id × ℕ → Bool
  is_other p = not (is_made_by (ts ++ seals.ts) p.0)

  both : (id : Id) → is_made_by (ts ++ seals.ts) id ≡ (is_made_by ts id || is_made_by seals.ts id)
  both id = list_any-append (λ (t : Transaction). t.number == id.t) ts seals.ts

  -- neither made what remained
  not_made : (id : Id) → is_some (address_of e.remaining id) ≡ true → is_made_by (ts ++ seals.ts) id ≡ false
  not_made id is = both id ∙ or_from (is_made_by ts id) (is_made_by seals.ts id) (counted.old id is) (seals.others id (inr is))

  -- so neither made what the records copy
  copied_others : AllByRecursion (λ p. is_other p ≡ true) new
  copied_others = all_named (λ id. not (is_made_by (ts ++ seals.ts) id) ≡ true) new (λ id is.
      let at = some_address (address_of new id) is in
      ap not (not_made id (remained id at.0 (new_left (placing_of [] e.remaining) records plain id at.0 at.1))))
    where
      remained : (id : Id) (at : ℕ) → (None ≡ Some at) ⊎ (is_some (address_of e.remaining id) ≡ true) → is_some (address_of e.remaining id) ≡ true
      remained id at (inl never) = absurd (cc never)
      remained id at (inr is) = is

  old_alike : AllByRecursion (λ p. is_other p ≡ not (is_made_by ts p.0)) e.places
  old_alike = all_named (λ id. not (is_made_by (ts ++ seals.ts) id) ≡ not (is_made_by ts id)) e.places (λ id is.
      ap not (both id ∙ ap (λ b. is_made_by ts id || b) (seals.others id (inl is)) ∙ or-false (is_made_by ts id)))

  more_made : AllByRecursion (λ p. is_other p ≡ false) more
  more_made = AllByRecursion-map (λ (p : Id × ℕ). is_made_by seals.ts p.0 ≡ true) (λ p. is_other p ≡ false) more (λ p made. ap not (both p.0 ∙ ap (λ b. is_made_by ts p.0 || b) made ∙ or_true (is_made_by ts p.0))) seals.made

  pub counted_next : IsCounted (moved_by_all (placing_of copied e.remaining) records).places (ts ++ seals.ts) f
  counted_next = record {
    others =
        ap (filter is_other) (stands ∙ ap (λ (ps : Places). ps ++ more) (parted e.places e.remaining records plain).places)
        ∙ filter-append is_other (e.places ++ new) more
        ∙ ap (λ (qs : Places). filter is_other (e.places ++ new) ++ qs) (keeps_none is_other more more_made)
        ∙ append-nil (filter is_other (e.places ++ new))
        ∙ filter-append is_other e.places new
        ∙ ap (λ (qs : Places). qs ++ filter is_other new) (keeps_alike is_other (λ p. not (is_made_by ts p.0)) e.places old_alike ∙ counted.others)
        ∙ ap (λ (qs : Places). copied ++ qs) (keeps_all is_other new copied_others)
        ∙ sym (parted copied e.remaining records plain).places;
    old = λ id is. not_made id (moved_fewer (placing e) records plain id (ap (λ (ps : Places). is_some (address_of ps id)) (sym left) ∙ is));
  }
