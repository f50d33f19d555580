-- A core that was opened on a shaped log is reached, whatever graph stands in its words, under whatever names.
use Rattle.std.proofs.Common.{◌≡◌, ℕ, ◌+◌, ◌≤◌, inl, Bool, List, [], ◌∷◌, ◌++◌, length, Option, Some, None, refl, sym, ap, ◌∙◌, subst, arith}
use Rattle.std.specs.Prelude.{IsTrue, sum_by}
use Rattle.std.proofs.lemmas.List.{append-nil}
use Rattle.std.proofs.lemmas.List.Sums.{sum_by-cons}
use Rattle.std.specs.FinMap.{get}
use Rattle.std.specs.FinMap as finmap
use Rattle.graph_model.specs.declared.val.Val.{Val}
use Rattle.graph_model.specs.Graph.{Graph}
use Rattle.graph_model.proofs.Whole.Names.{AreBelow}
use Rattle.graph_model.specs.ClosedGraph.{IsUnused}
use Rattle.graph_model.specs.History.{nothing_yet, sessions}
use Rattle.log_records.specs.declared.Record.{Record}
use Rattle.log_machine.specs.Machine.{State, owed, settled, start, undo_of}
use Rattle.log_machine.proofs.MapLaws.{each_empty}
use Rattle.log_machine.proofs.StateLaws.{leads_after_all}
use Rattle.log_machine.proofs.TakenBackLaws.{taken_back-settled}
use Rattle.log_machine.specs.declared.UndoEntry.{UndoEntry}
use Rattle.commit_order.proofs.PlaceLaws.{nothing_plain, nothing_two_phase}
use Rattle.graph_words.specs.Places.{Places}
use Rattle.graph_words.specs.Stands.{StandsCommitted}
use Rattle.collection_words.specs.LaidOut.{AreHeapWords}
use Rattle.collection_words.specs.Writes.{AreBacked}
use Rattle.collection_words.specs.Completed.{completed, completed_places}
use Rattle.walk_laws.specs.Heap.{HoldsGraph, TellsBirths}
use Rattle.seen_laws.proofs.Births.{completed_old}
use Rattle.heap_model.proofs.Opening.Lists.{holds_lists, tells_lists}
use Rattle.heap_model.proofs.Opening.Split.{split_old}
use Rattle.graph_words.proofs.Stands.Closed.{stands_closed, placed_below}
use Rattle.heap_model.proofs.Opening.Rolled.{next_is, commits_are, rolled_reached, rolled_fit, rolled_good, rolled_room, rolled_words-is, settled_reserve, shaped_spaces}
use Rattle.heap_model.specs.CoreTold.{IsTold}
use Rattle.heap_model.specs.Core.{kept_for}
use Rattle.heap_model.specs.Image.{StoredHeap, origin_of, words_of, IsShapedLog, records_in, state_in}
use Rattle.heap_model.specs.Opening.{current_in, remaining_in, rolled_back, rolled_words, next_of, commits_of, opened, IsFound}
use Rattle.core_laws.specs.Valid.{IsActive, RunsLocked, IsValid, IsReached}

-- where each object is below a number, none is of a transaction from it on
pub below_unused : (g : Graph) (next n : ℕ) → AreBelow g next → next ≤ n → IsUnused g n
below_unused g next n below more id maker = none_there (get g id) refl where
  none_there : (o : Option (List Val)) → get g id ≡ o → get g id ≡ None
  none_there None is = is
  none_there (Some vs) is = absurd (omega (arith, below id (vs, is), maker))

no_entry : {X : Type 0} (xs : List X) (y : X) (ys : List X) → [] ≡ xs ++ y ∷ ys → ⊥
no_entry [] y ys is = cc
no_entry (x ∷ xs) y ys is = cc

-- nothing is kept where no transaction is active
none_kept : (undo : ℕ → List UndoEntry) (ss : List ℕ) → sum_by (λ s. kept_for undo (nothing_yet.active s)) ss ≡ 0
none_kept undo [] = refl
none_kept undo (s ∷ ss) =
    let more = sum_by-cons (λ s. kept_for undo (nothing_yet.active s)) s ss in
    let rest = none_kept undo ss in
    omega arith

module _ (stored : StoredHeap) (shaped : IsShapedLog stored) (gates : ℕ → ℕ) (born : Bool) (places : Places) (g : Graph) (found : IsFound stored shaped born places g) where
  abbrev now : List ℕ
  now = rolled_words stored

  abbrev last : State
  last = settled shaped.state

  -- the objects of the current space, and those that remain in the other
  abbrev current : Places
  current = current_in (Some shaped.state) places

  abbrev left : Places
  left = remaining_in (Some shaped.state) places

  -- the graph stands in the words after the opening
  opened_holds : HoldsGraph last current left now g
  opened_holds =
      subst (λ (ws : List ℕ). HoldsGraph last current left ws g) (sym (rolled_words-is stored shaped))
      (holds_lists shaped.state finmap.empty shaped.state.commits shaped.state.next current left (words_of stored) g found.whole.holds)

  opened_heap : AreHeapWords last current left now
  opened_heap =
      let spaces = shaped_spaces stored shaped in
      record {
        spaced = record { first = spaces.spaced.first; room = spaces.spaced.room; within = spaces.spaced.within };
        long = ap length (rolled_words-is stored shaped) ∙ spaces.long;
        small = spaces.small;
        laid = opened_holds.laid;
      }

  opened_tells : IsTrue born → TellsBirths last current left now
  opened_tells by_birth =
      subst (λ (ws : List ℕ). TellsBirths last current left ws) (sym (rolled_words-is stored shaped))
      (tells_lists shaped.state finmap.empty shaped.state.commits shaped.state.next current left (words_of stored) (found.births by_birth))

  opened_told : IsTold (origin_of stored).state born current left g (commits_of stored + 0) (records_in (rolled_back stored)) now last
  opened_told =
      let count = commits_are stored shaped in
      record {
        good = rolled_good stored shaped;
        reached = rolled_reached stored shaped;
        count = omega arith;
        heap = opened_heap;
        fit = rolled_fit stored shaped;
        backed = each_empty (λ q us. AreBacked current now us);
        stands = subst (λ (ws : List ℕ). StandsCommitted (completed_places last current left now) g ws last.base (last.used + owed last)) (sym (taken_back-settled last (completed last current left now) refl)) opened_holds.stands;
        old = (completed_old last.next last current left now).1 (split_old shaped.state.next shaped.state places found.old);
        births = opened_tells;
      }

  -- what a core that was opened says of its places
  abbrev Tells : Option State → List Record → Type 0
  Tells state records = IsTold (origin_of stored).state born (current_in state places) (remaining_in state places) g (commits_of stored + 0) records now last

  core_told : Tells (state_in stored) (records_in (rolled_back stored))
  core_told = subst (λ (o : Option State). Tells o (records_in (rolled_back stored))) (sym shaped.reached) opened_told

  -- the core is valid
  pub opened_valid : IsValid (opened stored gates born places g)
  opened_valid =
      let to = leads_after_all (start stored.super.pages stored.super.first) shaped.state (records_in stored) shaped.reached in
      let next = next_is stored shaped in
      let some_first = shaped.limits.some_first in
      let small_first = shaped.limits.small_first in
      let grows = to.grows in
      let fits = to.next_in_range (omega arith) in
      let room = rolled_room stored shaped in
      let none = settled_reserve shaped.state in
      let kept = none_kept (undo_of (settled shaped.state)) sessions in
      record {
        unfailed = refl;
        certain = refl;
        in_sessions = λ session t is. cc;
        in_range = record { some_pages = shaped.limits.some_pages; few_pages = shaped.limits.few_pages; some_first = omega arith };
        next_fits = omega arith;
        numbered = λ session. tt;
        disk = record {
          commits = 0;
          sealed_first = omega arith;
          acknowledged_last = omega arith;
          state = settled shaped.state;
          places = current;
          remaining = left;
          told = opened_told;
          first_known = omega arith;
          has_room = omega arith;
        };
        behind = settled shaped.state;
        told = subst (λ (rs : List Record). Tells (state_in stored) rs) (sym (append-nil (records_in (rolled_back stored)))) core_told;
        next_known = omega arith;
        losers = each_empty (λ q us. IsActive nothing_yet q);
        writers = λ session. tt;
        room = omega arith;
      }

  -- no transaction to come can give a name that an object has
  opened_unused : (n : ℕ) → next_of stored ≤ n → IsUnused g n
  opened_unused n more =
      let next = next_is stored shaped in
      let grows = (leads_after_all (start stored.super.pages stored.super.first) shaped.state (records_in stored) shaped.reached).grows in
      let some_first = shaped.limits.some_first in
      below_unused g shaped.state.next n
      (placed_below (current ++ left) g shaped.state.next found.whole.placed (split_old shaped.state.next shaped.state places found.old) (omega arith)) (omega arith)

  opened_locked : RunsLocked g (next_of stored) []
  opened_locked = record {
    plain = nothing_plain g (stands_closed found.whole.holds.stands found.whole.placed_in_completed);
    two_phase = nothing_two_phase g;
    fails = λ before e after is. absurd (no_entry before e after is);
    begun_below = λ n there. absurd (omega (arith, there.1));
    unused = opened_unused;
  }

  -- A core that was opened on a shaped log is reached.
  pub opened_reached : IsReached (opened stored gates born places g)
  opened_reached = record { sound = inl opened_valid; locked = opened_locked }
