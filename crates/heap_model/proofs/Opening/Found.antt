-- A graph that is found in what a shaped log leaves.
use Rattle.std.proofs.Common.{ℕ, Bool, true, List, [], ◌++◌, Some, refl, sym, subst}
use Rattle.std.specs.Prelude.{IsTrue}
use Rattle.graph_model.specs.Graph.{Graph}
use Rattle.log_machine.specs.Machine.{State}
use Rattle.object_layout.specs.Layout.{IsSeen}
use Rattle.graph_words.specs.Places.{AreOld, Places}
use Rattle.walk_laws.specs.Heap.{AreSpaces, HoldsBorn, HoldsGraph, HoldsWhole, TellsBirths}
use Rattle.seen_laws.specs.Heap.{IsHeap}
use Rattle.seen_laws.proofs.Births.{back_births, over_born}
use Rattle.heap_model.specs.Image.{StoredHeap, words_of, IsShapedLog}
use Rattle.heap_model.specs.Opening.{IsFound, current_in, remaining_in}
use Rattle.heap_model.proofs.Opening.Rolled.{shaped_spaces}
use Rattle.heap_model.proofs.Opening.Split.{laid_split, split_old}

-- the words of both spaces, with what is laid out in them
pub spaces_heap : {state : State} {places remaining : Places} {words : List ℕ} {g : Graph} → AreSpaces state words → HoldsGraph state places remaining words g → IsHeap state places remaining words
spaces_heap spaces holds = record { spaced = spaces.spaced; long = spaces.long; laid = holds.laid }

-- a graph whose objects are named by births is seen in the words
pub born_seen : {state : State} {next : ℕ} {places remaining : Places} {words : List ℕ} {g : Graph} → AreSpaces state words → HoldsBorn state next places remaining words g → IsSeen words state.base g
born_seen {state} {next} {places} {remaining} {words} {g} spaces born =
    let heap = spaces_heap spaces born.holds in
    over_born [] heap tt born.holds.stands ((back_births [] heap tt).1 born.tells.names)

module _ (stored : StoredHeap) (shaped : IsShapedLog stored) where
  -- What stands in the words of both spaces is found at places of one list.
  pub found_of : (born : Bool) (places remaining : Places) (g : Graph) → HoldsWhole shaped.state places remaining (words_of stored) g → AreOld shaped.state.next (places ++ remaining)
      → (IsTrue born → TellsBirths shaped.state places remaining (words_of stored)) → IsFound stored shaped born (places ++ remaining) g
  found_of born places remaining g whole old births =
      let words = words_of stored in
      let state = shaped.state in
      let split = laid_split state places remaining words (shaped_spaces stored shaped) whole.holds.laid in
      let all = places ++ remaining in
      record {
        whole = subst (λ (ps : Places). HoldsWhole state ps (remaining_in (Some state) all) words g) (sym split.current)
            (subst (λ (ps : Places). HoldsWhole state places ps words g) (sym split.left) whole);
        old = old;
        births = λ by_birth. subst (λ (ps : Places). TellsBirths state ps (remaining_in (Some state) all) words) (sym split.current)
            (subst (λ (ps : Places). TellsBirths state places ps words) (sym split.left) (births by_birth));
      }

  -- what is found by births is such
  pub found_born : (places : Places) (g : Graph) (found : IsFound stored shaped true places g)
      → HoldsBorn shaped.state shaped.state.next (current_in (Some shaped.state) places) (remaining_in (Some shaped.state) places) (words_of stored) g
  found_born places g found = record { holds = found.whole.holds; old = split_old shaped.state.next shaped.state places found.old; tells = found.births refl }

  -- and is seen in the words
  pub found_seen : (places : Places) (g : Graph) → IsFound stored shaped true places g → IsSeen (words_of stored) shaped.state.base g
  found_seen places g found = born_seen (shaped_spaces stored shaped) (found_born places g found)
