-- The passes of workers, one for each, make one history.
use Rattle.std.proofs.Common.{◌≡◌, ◌⊎◌, inl, inr, ◌+◌, ◌<◌, ℕ, zero, suc, List, [], length, map, replicate, cond, MatchResult, Result, Err, Some, slice_get, refl, ap, ◌∙◌, subst, arith, eq-eqb}
use Rattle.std.specs.List.{AllByRecursion}
use Rattle.std.specs.declared.alloc.AllocError.{AllocError}
use Rattle.std.proofs.lemmas.List.{length-map, length-replicate}
use Rattle.std.proofs.lemmas.Option.{slice_get-map, slice_get_within}
use Rattle.std.specs.Option.{option_map}
use Rattle.disk_model.specs.declared.disk.Disk.{Ghosts}
use Rattle.graph_model.specs.declared.reply.Entry.{Entry}
use Rattle.graph_model.proofs.Whole.Closed.{slice_get-replicate}
use Rattle.heap_workers.specs.declared.worker.Worker.{Worker}
use Rattle.heap_workers.specs.Playing.{Played, IsBegun, IsUnfinished}
use Rattle.script_text.specs.declared.line.Line.{Line}
use Rattle.script_workers.specs.Workers.{worker_events, IsOfScript}
use Rattle.shared_heap.specs.declared.shared.SharedHeap.{SharedHeap}
use Rattle.shared_heap.specs.declared.turned.Turned.{Turned}
use Rattle.shared_heap.specs.Shared.{IsPass}
use Rattle.turn_lock.specs.declared.pass.Pass.{Pass}
use Rattle.turn_lock.specs.Merging.{Rise, entries_of}
use Rattle.turn_lock.specs.Passes.{mine_of, pass_numbers, turns_of}
use Rattle.turn_lock.specs.Turning.{EachOnce, StandIn, places, times, total}
use Rattle.turn_lock.proofs.Counts.{once_same}
use Rattle.thread_play.specs.Stationed.{HasPart, ArePlayed}
use Rattle.thread_play.specs.Worked.{IsCutAt, IsPart, IsWorked}
use Rattle.thread_play.proofs.Lists.{get_map, there_is, all_each, all_both, all_firsts, all_map, total_at, total_map}
use Rattle.thread_play.proofs.Parts.{nothing_begun}

module _ {D : Type 0} {g : Ghosts D} (shared : SharedHeap D g) (end : Result (Unit {0}) AllocError) (workers : List Worker) (passes : List (Pass (Turned D g) Entry)) (played : ArePlayed shared end workers passes) where
  -- all passes are back, of which each is one of the shared heap's
  pub each_back : AllByRecursion (IsPass shared) passes
  each_back = all_each (IsPass shared) passes (λ i pass at. (played.pass_is i pass at).0)

  pub all_back : (number : ℕ) → number < 34 → 0 < total (λ p. times number (pass_numbers p)) passes
  all_back number lt =
      let at = there_is passes number (omega (arith, played.count, lt)) in
      let own : times number (pass_numbers at.0) ≡ 1 = ap (times number) (played.pass_is number at.0 at.1).1 ∙ ap (λ b. cond b 1 0 + 0) (eq-eqb number number refl) in
      omega (arith, own, total_at (λ p. times number (pass_numbers p)) passes number at.0 at.1)

  -- what is one pass's of the history is what its worker has sent of the script
  pub worked : (tries : ℕ) (lines : List Line) (before : ℕ) (history : List Entry) → length workers ≡ 34 → ((i : ℕ) (worker : Worker) → slice_get workers i ≡ Some worker → IsOfScript tries lines (i + 1) worker)
      → AllByRecursion (λ p. StandIn history (mine_of p)) passes → EachOnce (λ k. total (λ p. times k (places (mine_of p))) passes) before (length history) → IsWorked tries lines before history end
  worked tries lines before history count each stand once = record {
    mine = map mine_of passes;
    count = length-map passes mine_of ∙ played.count;
    stand = all_map (λ placed. StandIn history placed × Rise 0 placed) mine_of passes
        (all_both (λ p. StandIn history (mine_of p)) (λ p. Rise 0 (mine_of p)) passes stand (all_each (λ p. Rise 0 (mine_of p)) passes (λ i pass at. (played.pass_is i pass at).0.rises)));
    once = once_same (λ k. total (λ p. times k (places (mine_of p))) passes) (λ k. total (λ placed. times k (places placed)) (map mine_of passes)) before (length history) once
        (λ k. total_map (λ placed. times k (places placed)) mine_of passes);
    part = λ i placed at.
        let here = get_map mine_of passes i placed at in
        let worker = there_is workers i (omega (arith, slice_get_within passes i here.0 here.1, played.count, count)) in
        let of = each i worker.0 worker.1 in
        let has : HasPart end worker.0 (entries_of (mine_of here.0)) = played.part i here.0 worker.0 here.1 worker.1 in
        let own : IsPart tries lines end (i + 1) (entries_of (mine_of here.0)) =
        subst (λ l. MatchResult end (λ _. Played tries l (entries_of (mine_of here.0))) (λ _. IsBegun tries l (entries_of (mine_of here.0)))) of.events_are
        (subst (λ (n : ℕ). MatchResult end (λ _. Played n worker.0.events.items (entries_of (mine_of here.0))) (λ _. IsBegun n worker.0.events.items (entries_of (mine_of here.0)))) of.tries_are has) in
        subst (λ p. IsPart tries lines end (i + 1) (entries_of p)) here.2 own;
    ran_out = λ err. elim (played.ran_out err) as (λ _. AllByRecursion (λ placed. placed ≡ []) (map mine_of passes) ⊎ IsCutAt tries lines (map mine_of passes)) [
      | inl none ↦ inl (all_map (λ placed. placed ≡ []) mine_of passes (all_firsts (λ p. mine_of p ≡ []) (λ p. turns_of p ≡ 0) passes none))
      | inr one ↦ inr (
          let of = each one.number one.worker one.worker_at in
          record {
            place = one.number;
            placed = mine_of one.pass;
            at = slice_get-map mine_of passes one.number ∙ ap (option_map mine_of) one.pass_at;
            unfinished = subst (λ l. IsUnfinished tries l (entries_of (mine_of one.pass))) of.events_are
                (subst (λ (n : ℕ). IsUnfinished n one.worker.events.items (entries_of (mine_of one.pass))) of.tries_are one.unfinished);
          })
    ];
  }

all_copies : {X : Type 0} (P : X → Type 0) (n : ℕ) (x : X) → P x → AllByRecursion P (replicate n x)
all_copies P zero x holds = tt
all_copies P (suc n) x holds = (holds, all_copies P n x holds)

none_placed : (n place : ℕ) → total (λ (placed : List (ℕ × Entry)). times place (places placed)) (replicate n []) ≡ 0
none_placed zero place = refl
none_placed (suc n) place = omega (arith, none_placed n place)

-- If memory ran out before any event, the history has none after its beginning.
pub nothing_worked : (tries : ℕ) (lines : List Line) (history : List Entry) (e : AllocError) → 0 < tries → IsWorked tries lines (length history) history (Err e)
nothing_worked tries lines history e some =
    let none : List (ℕ × Entry) = [] in record {
      mine = replicate 34 none;
      count = length-replicate 34 none;
      stand = all_copies (λ placed. StandIn history placed × Rise 0 placed) 34 none (tt, tt);
      once = record { inside = λ place low high. absurd (omega arith); below = λ place lt. none_placed 34 place; above = λ place le. none_placed 34 place };
      part = λ i placed at. subst (λ p. IsBegun tries (worker_events (i + 1) lines) (entries_of p)) (slice_get-replicate 34 i none placed at) (nothing_begun tries (worker_events (i + 1) lines) some);
      ran_out = λ err. inl (all_copies (λ placed. placed ≡ []) 34 none refl);
    }
