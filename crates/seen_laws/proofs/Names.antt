-- Names of the objects of a heap by their addresses, also of those that remain in the from-space.
use Rattle.std.proofs.Common.{◌≡◌, ℕ, ◌+◌, suc, inl, inr, List, [], ◌∷◌, ◌++◌, Some, refl, sym, ap, ◌∙◌, subst, arith}
use Rattle.std.specs.Prelude.{Contains, if◌then◌else◌}
use Rattle.std.proofs.lemmas.Bool.{cases_order, eq-eqb, ne_eqb}
use Rattle.std.proofs.lemmas.List.{append-nil}
use Rattle.std.proofs.lemmas.Option.{same_Some}
use Rattle.heap_spaces.specs.Collection.{Collection}
use Rattle.graph_model.specs.declared.id.Id.{Id}
use Rattle.object_layout.proofs.WalkLaws.{Contains-cases, Contains-head, Contains-none, Contains-rest}
use Rattle.log_machine.specs.Machine.{State}
use Rattle.graph_words.specs.Places.{Places, address_of, addresses}
use Rattle.graph_words.proofs.Places.Addresses.{address_of-Contains, address_of-cases, name_at-NamesPlaces, none_or_some}
use Rattle.graph_words.proofs.Places.Names.{NamesPlaces, name_at}
use Rattle.graph_words.proofs.Seal.Places.{address_of-append_left, address_of-append_right}
use Rattle.collection_words.specs.Placed.{Ascend}
use Rattle.collection_words.proofs.Copy.Ascending.{ascend_low}
use Rattle.collection_words.proofs.Copy.Named.{left_ascend}
use Rattle.collection_words.proofs.Laid.Followed.{place_current}
use Rattle.collection_words.proofs.Laid.Old.{old_in_other}
use Rattle.collection_words.proofs.Laid.Sources.{IsCollecting, here_ends, left_object}
use Rattle.seen_laws.specs.Heap.{IsHeap}
use Rattle.seen_laws.proofs.Kept.{heap_cases}

-- these names are those of the objects at their addresses
abbrev pub AreNames : (ℕ → Id) → Places → Type 0
AreNames name places = (id : Id) (at : ℕ) → address_of places id ≡ Some at → name at ≡ id

first_name : (p : Id × ℕ) (ps : Places) (at : ℕ) → p.1 ≡ at → name_at (p ∷ ps) at ≡ p.0
first_name p ps at same = ap (λ b. if b then p.0 else name_at ps at) (eq-eqb p.1 at same)

other_name : (p : Id × ℕ) (ps : Places) (at : ℕ) → (p.1 ≡ at → ⊥) → name_at (p ∷ ps) at ≡ name_at ps at
other_name p ps at other = ap (λ b. if b then p.0 else name_at ps at) (ne_eqb p.1 at other)

-- objects whose addresses ascend are named by them
pub ascend_names : (low : ℕ) (ps : Places) → Ascend low (addresses ps) → NamesPlaces (name_at ps) ps
ascend_names low [] up id at is = cc
ascend_names low (p ∷ ps) up id at is = elim (address_of-cases p ps id at is) [
  | inl here ↦ first_name p ps at here.1 ∙ here.0
  | inr later ↦
      let far = ascend_low (suc p.1) (addresses ps) at up.1 (address_of-Contains ps id at later) in
      other_name p ps at (λ same. omega arith) ∙ ascend_names (suc p.1) ps up.1 id at later
]

-- an address among the first of places has its name from them
name_left : (ps qs : Places) (at : ℕ) → Contains (addresses ps) at → name_at (ps ++ qs) at ≡ name_at ps at
name_left [] qs at has = absurd (Contains-none at has)
name_left (p ∷ ps) qs at has = elim (cases_order p.1 at) [
  | inl same ↦ first_name p (ps ++ qs) at same ∙ sym (first_name p ps at same)
  | inr beside ↦
      let other : p.1 ≡ at → ⊥ = λ same. elim beside [ inl less ↦ omega arith | inr more ↦ omega arith ] in
      elim (Contains-cases p.1 (addresses ps) at has) [
        | inl here ↦ absurd (other here)
        | inr later ↦ other_name p (ps ++ qs) at other ∙ name_left ps qs at later ∙ sym (other_name p ps at other)
      ]
]

-- and another one from those after
name_right : (ps qs : Places) (at : ℕ) → (Contains (addresses ps) at → ⊥) → name_at (ps ++ qs) at ≡ name_at qs at
name_right [] qs at apart = refl
name_right (p ∷ ps) qs at apart =
    other_name p (ps ++ qs) at (λ same. apart (subst (λ (x : ℕ). Contains (addresses (p ∷ ps)) x) same (Contains-head p.1 (addresses ps))))
    ∙ name_right ps qs at (λ has. apart (Contains-rest p.1 (addresses ps) at has))

-- the objects of a heap in a collection are named so
collecting_names : {s : State} {k : Collection} {places remaining : Places} {words : List ℕ} → IsCollecting s k places remaining words → AreNames (name_at (places ++ remaining)) (places ++ remaining)
collecting_names {s} {places = places} {remaining = remaining} {words = words} is id at there = elim (none_or_some (address_of places id)) [
  | inl none ↦
      let stays : address_of remaining id ≡ Some at = sym (address_of-append_right places remaining id none) ∙ there in
      let object = left_object is.from at (address_of-Contains remaining id at stays) in
      name_right places remaining at (λ has. let clash = sym (place_current is.spaced is.laid at has) ∙ old_in_other is at object.start in cc)
      ∙ ascend_names _ remaining (left_ascend is) id at stays
  | inr here ↦
      let same : here.0 ≡ at = same_Some here.0 at (sym (address_of-append_left places remaining id here.0 here.1) ∙ there) in
      let placed : address_of places id ≡ Some at = here.1 ∙ ap Some same in
      name_left places remaining at (address_of-Contains places id at placed)
      ∙ name_at-NamesPlaces words s.base places (s.base + s.used) (here_ends is.laid) id at placed
]

-- The objects of a heap are named by their addresses, also those that remain.
pub heap_names : {s : State} {places remaining : Places} {words : List ℕ} → IsHeap s places remaining words → AreNames (name_at (places ++ remaining)) (places ++ remaining)
heap_names {s} {places} {remaining} {words} heap = elim (heap_cases heap) [
  | inl none ↦
      let all : places ≡ places ++ remaining = sym (append-nil places) ∙ ap (λ (ps : Places). places ++ ps) (sym none.1) in
      subst (λ (ps : Places). AreNames (name_at ps) ps) all (name_at-NamesPlaces words s.base places (s.base + s.used) (here_ends heap.laid))
  | inr run ↦ collecting_names run.1
]
