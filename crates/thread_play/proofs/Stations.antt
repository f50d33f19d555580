-- Passes that were given to workers and came back.
use Rattle.std.proofs.Common.{◌≡◌, ◌+◌, ◌-◌, ◌<◌, ◌++◌, ℕ, List, [], ◌∷◌, All, length, get_or, map, Result, Some, slice_get, inl, inr, sym, ap, ◌∙◌, subst, arith}
use Rattle.std.specs.Prelude.{◌↔◌, IsOk, IsErr}
use Rattle.std.specs.declared.alloc.AllocError.{AllocError}
use Rattle.std.proofs.lemmas.Option.{same_Some, get_or_from_slice_get, slice_get-get_or, slice_get_within}
use Rattle.std.proofs.lemmas.Result.{MatchResult-from_err}
use Rattle.std.proofs.lemmas.List.{length-map, length-reverse}
use Rattle.disk_model.specs.declared.disk.Disk.{Ghosts}
use Rattle.graph_model.specs.declared.reply.Entry.{Entry}
use Rattle.heap_workers.specs.declared.station.Station.{Station}
use Rattle.heap_workers.specs.declared.worker.Worker.{Worker}
use Rattle.heap_workers.specs.Playing.{Played, IsBegun, IsUnfinished, calls_made}
use Rattle.shared_heap.specs.declared.caller.Caller.{Caller}
use Rattle.shared_heap.specs.declared.shared.SharedHeap.{SharedHeap}
use Rattle.shared_heap.specs.declared.turned.Turned.{Turned}
use Rattle.shared_heap.specs.Shared.{IsPass, MaySend}
use Rattle.shared_heap.specs.Workers.{HasPass, HasSent}
use Rattle.turn_lock.specs.declared.pass.Pass.{Pass}
use Rattle.turn_lock.specs.Merging.{entries_of}
use Rattle.turn_lock.specs.Passes.{mine_of, pass_numbers, turns_of}
use Rattle.thread_play.specs.Stationed.{AreWorkers, HasPart, IsUnused, AreNew, ArePlayed, AreStations, RanOut, passes_back}
use Rattle.thread_play.proofs.Lists.{all_each, get_reverse_map, get_map_from_end}
use Rattle.thread_play.proofs.Parts.{calls_ok, calls_err, err_part, ends_found, not_both, nothing_begun, played_is_begun, part_of_all, unfinished_is_begun}

module _ {D : Type 0} {g : Ghosts D} (shared : SharedHeap D g) where
  -- If nothing was sent, each pass has the beginning of its worker's part.
  pub unplayed : (end : Result (Unit {0}) AllocError) (workers : List Worker) (passes : List (Pass (Turned D g) Entry)) → IsErr end → AreNew shared passes → ArePlayed shared end workers passes
  unplayed end workers passes refused new = record {
    count = new.count;
    pass_is = λ i pass at. let unused = new.each i pass at in (unused.pass_is, unused.numbers);
    part = λ i pass worker at of.
        MatchResult-from_err end (λ _. Played worker.tries worker.events.items (entries_of (mine_of pass))) (λ _. IsBegun worker.tries worker.events.items (entries_of (mine_of pass))) refused
        (λ _. subst (λ (mine : List (ℕ × Entry)). IsBegun worker.tries worker.events.items (entries_of mine)) (sym (new.each i pass at).none) (nothing_begun worker.tries worker.events.items worker.some_try));
    answered = λ ok. absurd (not_both end ok refused);
    ran_out = λ err. inl (all_each (λ pass. (mine_of pass ≡ []) × (turns_of pass ≡ 0)) passes (λ i pass at. let unused = new.each i pass at in (unused.none, unused.no_turn)));
  }

  module _ (workers : List Worker) (passes : List (Pass (Turned D g) Entry)) (stations : List (Station (Caller D g))) (new : AreNew shared passes) (are : AreStations shared workers passes stations) where
    -- there are as many stations
    pub stations_count : length stations ≡ 34
    stations_count = omega (arith, new.count, ap length are.passes_are, length-reverse (map (λ (s : Station (Caller D g)). s.calls.pass) stations), length-map stations (λ (s : Station (Caller D g)). s.calls.pass))

    -- what stands at a place from the end
    at_place : (i : ℕ) (station : Station (Caller D g)) → i < 34 → slice_get stations (33 - i) ≡ Some station → (slice_get passes i ≡ Some station.calls.pass) × (slice_get workers i ≡ Some station.worker) × IsUnused shared i station.calls.pass
    at_place i station lt at =
        let within : i < length stations = omega (arith, lt, stations_count) in
        let here : slice_get stations (length stations - 1 - i) ≡ Some station = ap (λ (n : ℕ). slice_get stations (n - 1 - i)) stations_count ∙ at in
        let pass : slice_get passes i ≡ Some station.calls.pass = ap (λ l. slice_get l i) are.passes_are ∙ get_map_from_end (λ (s : Station (Caller D g)). s.calls.pass) stations i station within here in
        let worker : slice_get workers i ≡ Some station.worker = ap (λ l. slice_get l i) are.workers_are ∙ get_map_from_end (λ (s : Station (Caller D g)). s.worker) stations i station within here in
        (pass, worker, new.each i station.calls.pass pass)

    -- each worker may send its events with its pass
    pub stations_ready : AreWorkers workers → All HasPass stations
    stations_ready of j d lt =
        let station : Station (Caller D g) = get_or stations j d in
        let here : slice_get stations (33 - (33 - j)) ≡ Some station = ap (slice_get stations) (omega (arith, lt, stations_count)) ∙ slice_get-get_or stations j d lt in
        let at = at_place (33 - j) station (omega arith) here in
        let heap : station.calls.heap.now ≡ shared = are.heap_is j d lt in
        record {
          pass = subst (λ (s : SharedHeap D g). IsPass s station.calls.pass) (sym heap) at.2.pass_is;
          events = subst (λ (label : ℕ). All (MaySend label) station.worker.events.items) (sym at.2.label) (of.each (33 - j) station.worker at.1);
        }

    -- the passes of stations that have worked
    module _ (after : List (Station (Caller D g))) (back : List (Pass (Turned D g) Entry)) (end : Result (Unit {0}) AllocError) (as_many : length after ≡ length stations)
        (sent : (i : ℕ) (d : Station (Caller D g)) → i < length stations → HasSent (get_or stations i d) (get_or after i d)) (given : back ≡ passes_back after) (ends : IsOk end ↔ All (λ s. IsOk s.end) after) where
      -- a station before and after its work
      went : (j : ℕ) (now : Station (Caller D g)) → slice_get after j ≡ Some now → (old : Station (Caller D g)) × (slice_get stations j ≡ Some old) × HasSent old now
      went j now there =
          let within : j < length stations = omega (arith, slice_get_within after j now there, as_many) in
          let is : get_or after j now ≡ now = get_or_from_slice_get after j now now there in
          (get_or stations j now, slice_get-get_or stations j now within, subst (λ (s : Station (Caller D g)). HasSent (get_or stations j now) s) is (sent j now within))

      -- what its pass then has of its own
      own_part : (i : ℕ) (old now : Station (Caller D g)) → IsUnused shared i old.calls.pass → (has : HasSent old now) → entries_of (mine_of now.calls.pass) ≡ has.part
      own_part i old now unused has = has.mine ∙ ap (λ (l : List Entry). l ++ has.part) (ap entries_of unused.none)

      -- each of its turns added an entry, but the last one where it ran out of memory
      own_turns : (i : ℕ) (old now : Station (Caller D g)) → IsUnused shared i old.calls.pass → HasSent old now → turns_of now.calls.pass ≡ calls_made now.end (entries_of (mine_of now.calls.pass))
      own_turns i old now unused has =
          subst (λ (l : List Entry). turns_of now.calls.pass ≡ calls_made now.end l) (sym (own_part i old now unused has))
          (omega (arith, has.turns, unused.no_turn))

      -- the station of a pass that came back, before and after its work
      came : (i : ℕ) (pass : Pass (Turned D g) Entry) → slice_get back i ≡ Some pass
          → (old : Station (Caller D g)) × (now : Station (Caller D g)) × (i < 34) × (slice_get stations (33 - i) ≡ Some old) × (now.calls.pass ≡ pass) × HasSent old now × (old.calls.heap.now ≡ shared) × (IsOk end → IsOk now.end)
      came i pass at =
          let from = get_reverse_map (λ (s : Station (Caller D g)). s.calls.pass) after i pass (subst (λ l. slice_get l i ≡ Some pass) given at) in
          let now : Station (Caller D g) = from.0 in
          let lt : i < 34 = omega (arith, from.1, as_many, stations_count) in
          let there : slice_get after (33 - i) ≡ Some now = ap (λ (n : ℕ). slice_get after (n - 1 - i)) (sym (as_many ∙ stations_count)) ∙ from.2 in
          let old = went (33 - i) now there in (
            old.0,
            now,
            lt,
            old.1,
            from.3,
            old.2,
            let heap = are.heap_is (33 - i) now (omega (arith, stations_count)) in subst (λ (s : Station (Caller D g)). s.calls.heap.now ≡ shared) (get_or_from_slice_get stations (33 - i) old.0 now old.1) heap,
            λ ok. let all = ends.0 ok (33 - i) now (omega (arith, as_many, stations_count)) in subst (λ (s : Station (Caller D g)). IsOk s.end) (get_or_from_slice_get after (33 - i) now now there) all,
          )

      -- where a pass came back, of which no turn ran out of memory if none did
      each_answered : IsOk end → (i : ℕ) (pass : Pass (Turned D g) Entry) → slice_get back i ≡ Some pass → turns_of pass ≡ length (mine_of pass)
      each_answered ok i pass at =
          let c = came i pass at in
          let turns = own_turns i c.0 c.1 (at_place i c.0 c.2 c.3).2 c.5 in
          let count : calls_made c.1.end (entries_of (mine_of c.1.calls.pass)) ≡ length (mine_of c.1.calls.pass) =
          calls_ok c.1.end (entries_of (mine_of c.1.calls.pass)) (c.7 ok) ∙ length-map (mine_of c.1.calls.pass) (λ (p : ℕ × Entry). p.1) in
          subst (λ (p : Pass (Turned D g) Entry). turns_of p ≡ length (mine_of p)) c.4 (turns ∙ count)

      -- a worker that ran out of memory
      one_ran_out : (j : ℕ) (now : Station (Caller D g)) → slice_get after j ≡ Some now → IsErr now.end → RanOut workers back
      one_ran_out j now there err =
          let i = 33 - j in
          let within : j < length after = slice_get_within after j now there in
          let long : length after ≡ 34 = as_many ∙ stations_count in
          let back_at : length after - 1 - i ≡ j = omega (arith, within, long) in
          let old = went j now there in
          let place = at_place i old.0 (omega arith) (ap (slice_get stations) (omega (arith, within, long)) ∙ old.1) in
          let turns = own_turns i old.0 now place.2 old.2 in
          let part : entries_of (mine_of now.calls.pass) ≡ old.2.part = own_part i old.0 now place.2 old.2 in
          let last : IsUnfinished old.0.worker.tries old.0.worker.events.items old.2.part =
          err_part (Played old.0.worker.tries old.0.worker.events.items old.2.part) now.end err old.2.played in
          record {
            number = i;
            pass = now.calls.pass;
            pass_at = subst (λ l. slice_get l i ≡ Some now.calls.pass) (sym given)
                (get_map_from_end (λ (s : Station (Caller D g)). s.calls.pass) after i now (omega (arith, within, long)) (ap (slice_get after) back_at ∙ there));
            worker = old.0.worker;
            worker_at = place.1;
            unanswered = turns ∙ calls_err now.end (entries_of (mine_of now.calls.pass)) err ∙ ap (λ (n : ℕ). n + 1) (length-map (mine_of now.calls.pass) (λ (p : ℕ × Entry). p.1));
            unfinished = subst (IsUnfinished old.0.worker.tries old.0.worker.events.items) (sym part) last;
          }

      some_ran_out : IsErr end → RanOut workers back
      some_ran_out err = elim (ends_found (λ (s : Station (Caller D g)). s.end) after) as (λ _. RanOut workers back) [
        | inl all ↦ absurd (not_both end (ends.1 all) err)
        | inr found ↦ one_ran_out found.0 found.1 found.2 found.3
      ]

      pub all_played : ArePlayed shared end workers back
      all_played = record {
        count = omega (arith, ap length given, length-reverse (map (λ (s : Station (Caller D g)). s.calls.pass) after), length-map after (λ (s : Station (Caller D g)). s.calls.pass), as_many, stations_count);
        pass_is = λ i pass at.
            let c = came i pass at in
            let heap : c.1.calls.heap.now ≡ shared = ap (λ w. w.heap) c.5.whose_is ∙ c.6 in
            let unused = (at_place i c.0 c.2 c.3).2 in
            let same : IsPass shared c.1.calls.pass × (pass_numbers c.1.calls.pass ≡ i ∷ []) = (subst (λ (s : SharedHeap D g). IsPass s c.1.calls.pass) heap c.5.pass, ap (λ w. w.numbers) c.5.whose_is ∙ unused.numbers) in
            subst (λ (p : Pass (Turned D g) Entry). IsPass shared p × (pass_numbers p ≡ i ∷ [])) c.4 same;
        part = λ i pass worker at of.
            let c = came i pass at in
            let place = at_place i c.0 c.2 c.3 in
            let own : c.0.worker ≡ worker = same_Some c.0.worker worker (sym place.1 ∙ of) in
            let none : entries_of (mine_of c.0.calls.pass) ≡ [] = ap entries_of place.2.none in
            let mine : entries_of (mine_of c.1.calls.pass) ≡ c.5.part = c.5.mine ∙ ap (λ (l : List Entry). l ++ c.5.part) none in
            let tries = c.0.worker.tries in
            let events = c.0.worker.events.items in
            let has : HasPart end c.0.worker c.5.part = part_of_all c.1.end end c.7 (played_is_begun tries events c.5.part) (unfinished_is_begun tries events c.5.part) c.5.played in
            let of_pass : HasPart end c.0.worker (entries_of (mine_of c.1.calls.pass)) = subst (HasPart end c.0.worker) (sym mine) has in
            subst (λ (w : Worker). HasPart end w (entries_of (mine_of pass))) own (subst (λ (p : Pass (Turned D g) Entry). HasPart end c.0.worker (entries_of (mine_of p))) c.4 of_pass);
        answered = λ ok. all_each (λ pass. turns_of pass ≡ length (mine_of pass)) back (each_answered ok);
        ran_out = λ err. inr (some_ran_out err);
      }
