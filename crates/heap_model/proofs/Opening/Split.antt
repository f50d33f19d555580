-- Objects of both spaces as one list, and which of them stand in the current space.
use Rattle.std.proofs.Common.{◌≡◌, ℕ, Bool, true, false, List, [], ◌∷◌, ◌++◌, Option, None, Some, refl, ap, ◌∙◌, cond, subst}
use Rattle.std.specs.Prelude.{Contains, filter, not}
use Rattle.std.proofs.lemmas.Bool.{cond-true, cond-false}
use Rattle.std.proofs.lemmas.List.{append-nil}
use Rattle.std.proofs.lemmas.List.Elements.{filter-append}
use Rattle.heap_spaces.specs.Collection.{Collection}
use Rattle.graph_model.specs.declared.id.Id.{Id}
use Rattle.object_layout.proofs.WalkLaws.{Contains-head, Contains-rest, Contains-none}
use Rattle.stability_tracker.proofs.ListLaws.{Contains-from_filter}
use Rattle.log_machine.proofs.ListLaws.{AllByRecursion-append}
use Rattle.log_machine.specs.Machine.{State}
use Rattle.graph_words.specs.Places.{AreOld, IsOld, Places, addresses}
use Rattle.collection_words.specs.Completed.{in_other_space}
use Rattle.collection_words.specs.LaidOut.{IsLaidOut}
use Rattle.collection_words.proofs.Laid.Followed.{place_current}
use Rattle.collection_words.proofs.Laid.Old.{old_in_other}
use Rattle.collection_words.proofs.Laid.Sources.{collecting}
use Rattle.walk_laws.specs.Births.{is_uncopied}
use Rattle.walk_laws.specs.Heap.{AreSpaces}
use Rattle.walk_laws.proofs.Graph.Beside.{none_left}
use Rattle.heap_model.specs.Opening.{current_in, remaining_in}

-- Places by a test of addresses.

all_pass : (test : ℕ → Bool) (ps : Places) → ((at : ℕ) → Contains (addresses ps) at → test at ≡ true) → filter (λ p. test p.1) ps ≡ ps
all_pass test [] each = refl
all_pass test (p ∷ ps) each =
    cond-true (test p.1) (p ∷ filter (λ q. test q.1) ps) (filter (λ q. test q.1) ps) (each p.1 (Contains-head p.1 (addresses ps)))
    ∙ ap (λ (qs : Places). p ∷ qs) (all_pass test ps (λ at has. each at (Contains-rest p.1 (addresses ps) at has)))

none_pass : (test : ℕ → Bool) (ps : Places) → ((at : ℕ) → Contains (addresses ps) at → test at ≡ false) → filter (λ p. test p.1) ps ≡ []
none_pass test [] each = refl
none_pass test (p ∷ ps) each =
    cond-false (test p.1) (p ∷ filter (λ q. test q.1) ps) (filter (λ q. test q.1) ps) (each p.1 (Contains-head p.1 (addresses ps)))
    ∙ none_pass test ps (λ at has. each at (Contains-rest p.1 (addresses ps) at has))

old_by : (next : ℕ) (test : ℕ → Bool) (p : Id × ℕ) (ps : Places) (b : Bool) → IsOld next p.0 → AreOld next (filter (λ q. test q.1) ps)
    → AreOld next (cond b (p ∷ filter (λ q. test q.1) ps) (filter (λ q. test q.1) ps))
old_by next test p ps true one rest = (one, rest)
old_by next test p ps false one rest = rest

-- old names stay old where places are left out
old_pass : (next : ℕ) (test : ℕ → Bool) (ps : Places) → AreOld next ps → AreOld next (filter (λ p. test p.1) ps)
old_pass next test [] old = tt
old_pass next test (p ∷ ps) old = old_by next test p ps (test p.1) old.0 (old_pass next test ps old.1)

-- Both spaces.

-- These places of one list are the current ones, and those that remain.
pub record AreSplit (s : State) (all places remaining : Places) : Type 0 where
  pub current : current_in (Some s) all ≡ places
  pub left : remaining_in (Some s) all ≡ remaining

-- where objects are laid out their addresses give their spaces
pub laid_split : (s : State) (places remaining : Places) (words : List ℕ) → AreSpaces s words → IsLaidOut s places remaining words → AreSplit s (places ++ remaining) places remaining
laid_split s places remaining words spaces laid =
    let here : (at : ℕ) → Contains (addresses places) at → in_other_space s at ≡ false = place_current spaces.spaced laid in
    record {
      current =
          filter-append (λ p. not (in_other_space s p.1)) places remaining
          ∙ ap (λ (qs : Places). qs ++ filter (λ p. not (in_other_space s p.1)) remaining) (all_pass (λ at. not (in_other_space s at)) places (λ at has. ap not (here at has)))
          ∙ ap (λ (qs : Places). places ++ qs) (none_pass (λ at. not (in_other_space s at)) remaining (λ at has. ap not (there s.collection refl at has)))
          ∙ append-nil places;
      left =
          filter-append (λ p. in_other_space s p.1) places remaining
          ∙ ap (λ (qs : Places). qs ++ filter (λ p. in_other_space s p.1) remaining) (none_pass (λ at. in_other_space s at) places here)
          ∙ all_pass (λ at. in_other_space s at) remaining (there s.collection refl);
    }
  where
    there : (o : Option Collection) → s.collection ≡ o → (at : ℕ) → Contains (addresses remaining) at → in_other_space s at ≡ true
    there None none at has = absurd (Contains-none at (subst (λ (ps : Places). Contains (addresses ps) at) (none_left s places remaining words none laid) has))
    there (Some k) run at has =
        let is = collecting k run spaces.spaced spaces.long laid in
        old_in_other is at (Contains-from_filter (is_uncopied k) is.from.starts at (subst (λ (xs : List ℕ). Contains xs at) is.from.left has)).0

-- old names are old in both spaces
pub split_old : (next : ℕ) (s : State) (all : Places) → AreOld next all → AreOld next (current_in (Some s) all ++ remaining_in (Some s) all)
split_old next s all old =
    AllByRecursion-append (λ p. IsOld next p.0) (current_in (Some s) all) (remaining_in (Some s) all)
    (old_pass next (λ at. not (in_other_space s at)) all old) (old_pass next (λ at. in_other_space s at) all old)
