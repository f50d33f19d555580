-- Names by address keep the objects of both spaces apart, and are old.
use Rattle.std.proofs.Common.{◌≡◌, ◌⊎◌, ℕ, ◌+◌, ◌-◌, ◌<◌, ◌≤◌, inl, inr, Bool, true, false, List, [], ◌++◌, Option, None, Some, sym, ap, ◌∙◌, subst, arith}
use Rattle.std.specs.Prelude.{Contains, filter}
use Rattle.std.proofs.lemmas.Bool.{cases_lt}
use Rattle.std.proofs.lemmas.List.{map-append}
use Rattle.std.proofs.lemmas.List.Elements.{Contains-append_cases}
use Rattle.heap_spaces.specs.Collection.{Collection}
use Rattle.graph_model.specs.Graph.{root}
use Rattle.graph_model.specs.declared.id.Id.{Id}
use Rattle.object_layout.specs.Walk.{IsFilled, used_words}
use Rattle.object_layout.specs.CollectionWalk.{IsWalkedBeside}
use Rattle.object_layout.proofs.ObjectLaws.{end_to_end_begins}
use Rattle.object_layout.proofs.WalkLaws.{object_take_end}
use Rattle.object_layout.proofs.WalkedLaws.{KeepApart, end_to_end_object}
use Rattle.stability_tracker.proofs.ListLaws.{Contains-from_filter}
use Rattle.log_machine.specs.Machine.{State, space_words}
use Rattle.log_machine.specs.Collecting.{other_base}
use Rattle.log_machine.specs.Sound.{IsSpaced}
use Rattle.graph_words.specs.Places.{AreOld, IsOld, made_by}
use Rattle.graph_words.proofs.Stands.Walked.{addresses-named_places, named_places_each}
use Rattle.collection_words.specs.Completed.{in_other_space}
use Rattle.collection_words.proofs.Laid.Old.{current_not_other, old_in_other, other_bounds}
use Rattle.collection_words.proofs.Laid.Underway.{underway}
use Rattle.walk_laws.specs.Births.{is_uncopied}
use Rattle.walk_laws.specs.Heap.{AreSpaces, address_name_beside, current_starts, distance, from_space_in, left_starts, places_by}
use Rattle.walk_laws.proofs.Walk.Laid.{walked_underway}

-- an address lies in the current space, or in the other
abbrev pub LiesInEither : State → ℕ → Type 0
LiesInEither s at = ((s.base ≤ at) × (at < s.base + space_words s.pages)) ⊎ (in_other_space s at ≡ true)

distance_here : (s : State) (at : ℕ) (b : Bool) → b ≡ false → distance s at b ≡ at - s.base
distance_here s at b is = ap (distance s at) is

distance_there : (s : State) (at : ℕ) (b : Bool) → b ≡ true → distance s at b ≡ space_words s.pages + (at - other_base s)
distance_there s at b is = ap (distance s at) is

-- how far they stand distinguishes two such addresses
distance_one : (s : State) → IsSpaced s → (a b : ℕ) → LiesInEither s a → LiesInEither s b → distance s a (in_other_space s a) ≡ distance s b (in_other_space s b) → a ≡ b
distance_one s spaced a b (inl (low, high)) (inl (low', high')) same =
    let one = distance_here s a (in_other_space s a) (current_not_other s spaced a low high) in
    let other = distance_here s b (in_other_space s b) (current_not_other s spaced b low' high') in omega arith
distance_one s spaced a b (inl (low, high)) (inr there') same =
    let one = distance_here s a (in_other_space s a) (current_not_other s spaced a low high) in
    let other = distance_there s b (in_other_space s b) there' in absurd (omega arith)
distance_one s spaced a b (inr there) (inl (low', high')) same =
    let one = distance_there s a (in_other_space s a) there in
    let other = distance_here s b (in_other_space s b) (current_not_other s spaced b low' high') in absurd (omega arith)
distance_one s spaced a b (inr there) (inr there') same =
    let one = distance_there s a (in_other_space s a) there in
    let other = distance_there s b (in_other_space s b) there' in
    let bounds = other_bounds s a there in
    let bounds' = other_bounds s b there' in omega (arith, bounds.0, bounds'.0)

-- so do their names
pub address_apart : (s : State) (starts : List ℕ) → IsSpaced s → ((at : ℕ) → Contains starts at → LiesInEither s at) → KeepApart (address_name_beside s) starts
address_apart s starts spaced lie a b one other same = distance_one s spaced a b (lie a one) (lie b other) (ap (λ (id : Id). id.k) same)

-- that of the base is the root's
pub address_base : (s : State) → IsSpaced s → s.base < s.base + space_words s.pages → address_name_beside s s.base ≡ root
address_base s spaced room =
    let here = distance_here s s.base (in_other_space s s.base) (current_not_other s spaced s.base (omega arith) room) in
    let none : s.base - s.base ≡ 0 = omega arith in ap (made_by 0) (here ∙ none)

address_old : (s : State) (next at : ℕ) → IsSpaced s → s.base < s.base + space_words s.pages → 1 ≤ next → LiesInEither s at → IsOld next (address_name_beside s at)
address_old s next at spaced room first (inl (low, high)) = elim (cases_lt s.base at) [
  | inl above ↦ let far = distance_here s at (in_other_space s at) (current_not_other s spaced at low high) in inr (omega (arith, far), omega arith)
  | inr here ↦ let same : at ≡ s.base = omega arith in inl (ap (address_name_beside s) same ∙ address_base s spaced room)
]
address_old s next at spaced room first (inr there) = let far = distance_there s at (in_other_space s at) there in inr (omega (arith, far), omega arith)

-- Of the objects of a walk.

filled_lies : (s : State) (words starts : List ℕ) → IsSpaced s → IsFilled words s.base s.used starts → (at : ℕ) → Contains starts at → LiesInEither s at
filled_lies s words starts spaced filled at has =
    let used = used_words words s.base s.used in
    let from = end_to_end_begins used s.base starts (s.base + s.used) at filled.objects has in
    let there = end_to_end_object used s.base starts (s.base + s.used) at filled.objects has in
    let end = object_take_end words (s.base + s.used) at there.0 there.1 in
    let room = spaced.room in inl (from, omega arith)

-- each lies in one of the spaces
pub walked_lies : (s : State) (words : List ℕ) → AreSpaces s words → (o : Option Collection) → s.collection ≡ o → (walked : IsWalkedBeside words s.base s.used (from_space_in s o)) → (at : ℕ)
    → Contains (current_starts words s.base s.used (from_space_in s o) walked ++ left_starts words s.base s.used (from_space_in s o) walked) at → LiesInEither s at
walked_lies s words spaces None none walked at has =
    elim (Contains-append_cases walked.starts [] at has) [ inl here ↦ filled_lies s words walked.starts spaces.spaced walked.filled at here | inr there ↦ absurd (none_there there) ]
  where
    none_there : Contains [] at → ⊥
    none_there (k, within, is) = omega arith
walked_lies s words spaces (Some k) run walked at has =
    let lefts = filter (is_uncopied k) walked.olds in
    elim (Contains-append_cases walked.starts lefts at has) [
      | inl here ↦ filled_lies s words walked.starts spaces.spaced walked.filled at here
      | inr there ↦
          let name : ℕ → Id = λ a. root in
          let is = underway (walked_underway s k words run spaces walked (places_by name walked.starts) (places_by name lefts) (addresses-named_places name walked.starts) (addresses-named_places name lefts)) in
          let back = subst (λ (xs : List ℕ). Contains xs at) (sym (addresses-named_places name lefts) ∙ is.from.left) there in
          let old = Contains-from_filter (is_uncopied k) is.from.starts at back in inr (old_in_other is at old.0)
    ]

filled_room : (s : State) (words starts : List ℕ) → IsSpaced s → IsFilled words s.base s.used starts → s.base < s.base + space_words s.pages
filled_room s words starts spaced filled =
    let end = object_take_end words (s.base + s.used) s.base 4 filled.root.length in
    let room = spaced.room in omega arith

-- the current space has words
pub walked_room : (s : State) (words : List ℕ) → AreSpaces s words → (o : Option Collection) → (walked : IsWalkedBeside words s.base s.used (from_space_in s o)) → s.base < s.base + space_words s.pages
walked_room s words spaces None walked = filled_room s words walked.starts spaces.spaced walked.filled
walked_room s words spaces (Some k) walked = filled_room s words walked.starts spaces.spaced walked.filled

-- Names by address are old.
pub walked_old : (s : State) (words : List ℕ) (next : ℕ) → AreSpaces s words → 1 ≤ next → (o : Option Collection) → s.collection ≡ o → (walked : IsWalkedBeside words s.base s.used (from_space_in s o))
    → AreOld next (places_by (address_name_beside s) (current_starts words s.base s.used (from_space_in s o) walked) ++ places_by (address_name_beside s) (left_starts words s.base s.used (from_space_in s o) walked))
walked_old s words next spaces first o run walked =
    let name = address_name_beside s in
    let current = current_starts words s.base s.used (from_space_in s o) walked in
    let left = left_starts words s.base s.used (from_space_in s o) walked in
    subst (AreOld next) (map-append (λ at. (name at, at)) current left)
    (named_places_each (λ p. IsOld next p.0) name (current ++ left) (λ at has. address_old s next at spaces.spaced (walked_room s words spaces o walked) first (walked_lies s words spaces o run walked at has)))
