-- A flip leaves words that give births.
use Rattle.std.proofs.Common.{◌≡◌, ◌⊎◌, ℕ, ◌+◌, ◌<◌, ◌≤◌, inl, inr, List, [], ◌∷◌, ◌++◌, Some, refl, sym, ap, ◌∙◌, subst, arith}
use Rattle.std.specs.Prelude.{Contains, not, slice_index}
use Rattle.std.specs.FinSet.{contains}
use Rattle.heap_words.specs.declared.Header.TheVariants.{Forward}
use Rattle.heap_words.specs.Header.{header}
use Rattle.heap_spaces.specs.Collection.{Collection}
use Rattle.graph_model.specs.declared.id.Id.{Id}
use Rattle.object_layout.specs.Layout.{birth_at, id_at, id_of}
use Rattle.object_layout.specs.CollectionWalk.{AreAmong}
use Rattle.object_layout.proofs.LayoutLaws.{object_header}
use Rattle.object_layout.proofs.ObjectLaws.{end_to_end_apart}
use Rattle.object_layout.proofs.WalkLaws.{Contains-head, Contains-rest}
use Rattle.stability_tracker.proofs.ListLaws.{Contains-from_filter}
use Rattle.log_machine.specs.Collecting.{other_base}
use Rattle.log_machine.specs.Machine.{State, space_words}
use Rattle.log_machine.proofs.ListLaws.{AllByRecursion-append}
use Rattle.graph_words.specs.Places.{Places, addresses}
use Rattle.graph_words.specs.Stands.{AreNamedByBirth}
use Rattle.graph_words.proofs.Places.Addresses.{named_at}
use Rattle.graph_words.proofs.Stands.TakenBack.{renamed}
use Rattle.collection_words.specs.Completed.{moves_from, places_from, taken_at, taken_by}
use Rattle.collection_words.specs.Flipped.{HasBegun, IsFlipping, flipped_words}
use Rattle.collection_words.specs.LaidOut.{AreOldEndToEnd}
use Rattle.collection_words.specs.Placed.{HaveOwnNames}
use Rattle.collection_words.proofs.Flip.Laid.{old_ends, start_kind}
use Rattle.collection_words.proofs.Flip.Parted.{chosen_made, chosen_taken, flip_parts}
use Rattle.collection_words.proofs.Flip.Words.{flip_kept}
use Rattle.collection_words.proofs.Laid.Names.{names_own}
use Rattle.collection_words.proofs.Laid.Sources.{here_ends}
use Rattle.collection_words.proofs.Laid.Within.{start_within}
use Rattle.collection_words.proofs.Moves.Sources.{move_source}
use Rattle.walk_laws.specs.Births.{HasOriginals}
use Rattle.walk_laws.specs.Heap.{TellsBirths}
use Rattle.walk_laws.proofs.Birth.Born.{named_births}
use Rattle.walk_laws.proofs.Birth.Copied.{rest_all}
use Rattle.walk_laws.proofs.Birth.Scanned.{first_all}

-- Births stay where objects stood.

-- the birth of an object is no header of another
birth_apart : {s : State} {places chosen remaining : Places} {words : List ℕ} → IsFlipping s places chosen remaining words → (at : ℕ) → Contains (addresses places) at → Contains (addresses chosen) (at + 1) → ⊥
birth_apart {s} {places} {words = words} flip at has next =
    let here = start_within flip.laid at has in
    let other = flip.starts (at + 1) next in
    let there = start_within flip.laid (at + 1) other in
    elim (end_to_end_apart words s.base (addresses places) (s.base + s.used) at here.fields (at + 1) there.fields (here_ends flip.laid) has here.object other there.object) [
      | inl same ↦ omega arith
      | inr (inl before) ↦ omega arith
      | inr (inr behind) ↦ omega arith
    ]

stood_birth : {s : State} {places chosen remaining : Places} {words : List ℕ} → IsFlipping s places chosen remaining words → (at : ℕ) → Contains (addresses places) at
    → birth_at (flipped_words s words (addresses chosen)) at ≡ birth_at words at
stood_birth {s} {places} {chosen} {words = words} flip at has =
    let to = other_base s in
    let here = start_within flip.laid at has in
    let above = here.above in
    let below = here.below in
    let taken = chosen_taken flip in
    let room = flip.spaced.room in
    let place : (at + 1 < to) ⊎ (to + taken_by words (addresses chosen) ≤ at + 1) = elim flip.spaced.first [ inl low ↦ inl (omega arith) | inr high ↦ inr (omega arith) ] in
    flip_kept words (addresses chosen) words to (at + 1) (birth_apart flip at has) place

-- Names.

put_names : (words others : List ℕ) (ps : Places) (to : ℕ) → ((at there : ℕ) → Contains (moves_from words (addresses ps) to) (at, there) → birth_at others there ≡ birth_at words at) → AreNamedByBirth ps words
    → AreNamedByBirth (places_from words ps to) others
put_names words others [] to same names = tt
put_names words others (p ∷ ps) to same names = (
  ap id_of (same p.1 to (Contains-head (p.1, to) (moves_from words (addresses ps) (to + taken_at words p.1)))) ∙ names.0,
  put_names words others ps (to + taken_at words p.1) (λ at there has. same at there (Contains-rest (p.1, to) (moves_from words (addresses ps) (to + taken_at words p.1)) (at, there) has)) names.1,
)

left_place : {s n : State} {k : Collection} {places chosen remaining : Places} {words : List ℕ} → HasBegun s n k places chosen remaining words → (at : ℕ) → Contains (addresses remaining) at → Contains (addresses places) at
left_place {k = k} {places = places} begun at has =
    (Contains-from_filter (λ (a : ℕ). not (contains k.moved a)) (addresses places) at (subst (λ (xs : List ℕ). Contains xs at) begun.left has)).0

flip_names : {s n : State} {k : Collection} {places chosen remaining : Places} {words : List ℕ} → IsFlipping s places chosen remaining words → HasBegun s n k places chosen remaining words
    → AreNamedByBirth (chosen ++ remaining) words → AreNamedByBirth (places_from words chosen (other_base s) ++ remaining) (flipped_words s words (addresses chosen))
flip_names {s} {n} {k} {places} {chosen} {remaining} {words} flip begun names =
    let to = other_base s in
    let others = flipped_words s words (addresses chosen) in
    let Named : Id × ℕ → Type 0 = λ p. id_at words p.1 ≡ p.0 in
    let here = put_names words others chosen to (λ at there move.
    let object = start_within flip.laid at (flip.starts at (move_source words (addresses chosen) to at there move)) in
    (chosen_made flip at there object.fields object.object move).birth) (first_all Named chosen remaining names) in
    let left = renamed remaining words others (λ at has. stood_birth flip at (left_place begun at has)) (rest_all Named chosen remaining names) in
    AllByRecursion-append (λ p. id_at others p.1 ≡ p.0) (places_from words chosen to) remaining here left

-- The from-space's births.

one_forward : (a b : ℕ) → Some (Forward a) ≡ Some (Forward b) → a ≡ b
one_forward a b same = cc

-- the copy of an object has its birth
flip_kept_birth : {s n : State} {k : Collection} {places chosen remaining : Places} {words : List ℕ} → IsFlipping s places chosen remaining words → HasBegun s n k places chosen remaining words → HaveOwnNames places
    → (at to : ℕ) → Contains (addresses places) at → header (slice_index (flipped_words s words (addresses chosen)) at) ≡ Some (Forward to)
    → birth_at (flipped_words s words (addresses chosen)) to ≡ birth_at (flipped_words s words (addresses chosen)) at
flip_kept_birth {s} {n} {k} {places} {chosen} {remaining} {words} flip begun own at to has leads =
    let others = flipped_words s words (addresses chosen) in
    let one = named_at places at (names_own places own) has in
    elim ((flip_parts flip begun.flipped).each one.0 at one.1) [
      | inl copied ↦ ap (birth_at others) (sym (one_forward copied.to to (sym copied.forward ∙ leads))) ∙ copied.same.birth ∙ sym (stood_birth flip at has)
      | inr stayed ↦ let clash = sym leads ∙ (object_header others at stayed.fields stayed.same.is).0 in cc
    ]

flip_originals : {s n : State} {k : Collection} {places chosen remaining : Places} {words : List ℕ} → IsFlipping s places chosen remaining words → HasBegun s n k places chosen remaining words
    → AreAmong k.moved (addresses places) → HaveOwnNames places → AreNamedByBirth places words → HasOriginals n (flipped_words s words (addresses chosen)) (Some k)
flip_originals {s} {n} {k} {places} {chosen} {remaining} {words} flip begun among own names =
    let others = flipped_words s words (addresses chosen) in
    let olds = addresses places in
    let base = begun.flipped.base in
    let size : space_words n.pages ≡ space_words s.pages = ap space_words begun.flipped.pages in
    let back : s.base ≡ other_base n = elim flip.spaced.first [ inl low ↦ omega arith | inr high ↦ omega arith ] in
    let used = begun.words_left in
    let end : s.base + s.used ≡ other_base n + k.used = omega arith in
    let ends = old_ends words others s.base olds (s.base + s.used) (λ at m has object. (start_kind flip begun at m has object (contains k.moved at) refl).1) (here_ends flip.laid) in
    let births = named_births places words own names in (
      olds,
      subst (λ (x : ℕ). AreOldEndToEnd others x olds (other_base n + k.used)) back (subst (AreOldEndToEnd others s.base olds) end ends),
      record {
        own_births = λ a b one other equal. births a b one other (sym (stood_birth flip a one) ∙ equal ∙ stood_birth flip b other);
        kept = λ at to has leads. flip_kept_birth flip begun own at to has leads;
        moved = among;
      },
    )

-- A flip leaves words that give births.
pub flip_births : {s n : State} {k : Collection} {places chosen remaining : Places} {words : List ℕ} → IsFlipping s places chosen remaining words → HasBegun s n k places chosen remaining words
    → AreAmong k.moved (addresses places) → HaveOwnNames places → AreNamedByBirth places words → AreNamedByBirth (chosen ++ remaining) words
    → TellsBirths n (places_from words chosen (other_base s)) remaining (flipped_words s words (addresses chosen))
flip_births {s} {n} {k} {places} {chosen} {remaining} {words} flip begun among own names parted = record {
  names = flip_names flip begun parted;
  originals = subst (HasOriginals n (flipped_words s words (addresses chosen))) (sym begun.run) (flip_originals flip begun among own names);
}
