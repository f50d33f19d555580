-- The fields of the disk in memory agree with its record after each change.
use Rattle.std.proofs.Common.{◌≡◌, ℕ, ◌+◌, ◌-◌, ◌*◌, ◌<◌, ◌≤◌, false, List, [], ◌∷◌, ◌++◌, length, get_or, drop, map, sym, ap, subst, ◌∙◌, cond, eqb, arith, length-append}
use Rattle.std.specs.Prelude.{Vec}
use Rattle.std.specs.declared.alloc.Global.{Global}
use Rattle.std.specs.Vec.{vec_capacity}
use Rattle.std.specs.List.{All}
use Rattle.std.proofs.lemmas.Bool.{ne_eqb}
use Rattle.std.proofs.lemmas.List.{map_push, length-map, length-drop}
use Rattle.std.proofs.lemmas.List.Elements.{All-nil, All-push}
use Rattle.disk_model.specs.declared.memory.Call.{Call}
use Rattle.disk_model.specs.declared.memory.Call.TheVariants.{Wrote}
use Rattle.disk_model.specs.declared.memory.MemoryDisk.TheInside.{Inside}
use Rattle.disk_model.specs.Disk.{overwrite}
use Rattle.disk_model.specs.Memory.{Memory, Change, Write, cost, changed, with_write, contents_of, now_of, is_within, after, settled_as, settled, Contents}
use Rattle.disk_model.specs.Range.{range_of, Fits}
use Rattle.disk_model.specs.Record.{change_of, IsInPool, view_of, pending_of, IsFaithful}
use Rattle.disk_model.proofs.Images.{length-overwrite}
use Rattle.disk_model.proofs.Kept.{contents_of-nil, contents_of-push, changes-write, pending-push, pending_none, in_pool_write, fit_write, tied_write}

-- what a write changes of the fields
pub record Writes (a b : Inside) (at : ℕ) (piece : List ℕ) : Type 0 where
  pub newest : b.newest.items ≡ overwrite a.newest.items at piece
  pub synced : b.synced.items ≡ a.synced.items
  pub calls : b.calls.items ≡ a.calls.items ++ Wrote at (length a.pool.items) (length piece) ∷ []
  pub pool : b.pool.items ≡ a.pool.items ++ piece
  pub from : b.pending_from ≡ a.pending_from
  pub room : b.room ≡ a.room - cost (length piece)
  pub first : b.first.value.items ≡ a.first.value.items
  pub pick : b.pick ≡ a.pick
  pub rest : record (view_of b) { changes = []; room = 0 } ≡ record (view_of a) { changes = []; room = 0 }
  pub calls_capacity : vec_capacity a.calls ≤ vec_capacity b.calls
  pub pool_capacity : vec_capacity a.pool ≤ vec_capacity b.pool

module _ (a b : Inside) (at : ℕ) (piece : List ℕ) (kept : IsFaithful a) (writes : Writes a b at piece) where
  changes_written : map (change_of b.pool.items) b.calls.items ≡ map (change_of a.pool.items) a.calls.items ++ Write at piece ∷ []
  changes_written =
      ap (λ pool. map (change_of pool) b.calls.items) writes.pool
      ∙ ap (map (change_of (a.pool.items ++ piece))) writes.calls
      ∙ changes-write a.pool.items piece a.calls.items at kept.in_pool

  pub view_written : view_of b ≡ with_write (view_of a) at piece
  view_written =
      let now = map (change_of a.pool.items) a.calls.items ++ Write at piece ∷ [] in
      let left = a.room - cost (length piece) in
      ap (λ (cs : List Change). record (view_of b) { changes = cs }) changes_written
      ∙ ap (λ (r : ℕ). record (view_of b) { changes = now; room = r }) writes.room
      ∙ ap (λ (d : Memory). record d { changes = now; room = left }) writes.rest

  now_written : now_of (view_of b) ≡ after a.pick (now_of (view_of a)) (Write at piece)
  now_written =
      let e = contents_of-push a.pick a.first.value.items (map (change_of a.pool.items) a.calls.items) (Write at piece) in
      let w = changes_written in
      let f = writes.first in
      let p = writes.pick in
      cc

  pub kept_written : at + length piece ≤ length a.newest.items → cost (length piece) ≤ a.room → IsFaithful b
  kept_written fits room =
      let n = now_written in
      let pending : pending_of b ≡ pending_of a ++ (at, length piece) ∷ [] =
      ap (λ from. map range_of (drop from b.calls.items)) writes.from
      ∙ ap (λ calls. map range_of (drop a.pending_from calls)) writes.calls
      ∙ pending-push a.pending_from a.calls.items (Wrote at (length a.pool.items) (length piece)) kept.from in
      let size : length b.newest.items ≡ length a.newest.items = ap length writes.newest ∙ length-overwrite a.newest.items at piece fits in
      let calls : length b.calls.items ≡ length a.calls.items + 1 = ap length writes.calls ∙ length-append a.calls.items _ in
      let whole : b.whole ≡ a.whole = ap (λ (d : Memory). d.whole) writes.rest in
      let pool : length b.pool.items ≡ length a.pool.items + length piece = ap length writes.pool ∙ length-append a.pool.items piece in
      record {
        newest = writes.newest ∙ ap (λ image. overwrite image at piece) kept.newest ∙ sym (ap (λ (s : Contents). s.newest) n);
        synced = writes.synced ∙ kept.synced ∙ sym (ap (λ (s : Contents). s.synced) n);
        pending = pending ∙ ap (λ rs. rs ++ (at, length piece) ∷ []) kept.pending ∙ sym (ap (λ (s : Contents). s.pending) n);
        from = omega (arith, writes.from, kept.from);
        size = ap length writes.synced ∙ kept.size ∙ sym size;
        tied = λ k out. ap (λ image. get_or image k 0) writes.synced ∙ tied_write (pending_of a) a.synced.items a.newest.items piece at fits kept.tied k (ap (λ rs. is_within rs k) (sym pending) ∙ out) ∙ ap (λ image. get_or image k 0) (sym writes.newest);
        fit = subst (All (Fits (length b.newest.items))) (sym pending) (fit_write (length a.newest.items) (length b.newest.items) (pending_of a) at (length piece) size fits kept.fit);
        in_pool = subst (λ cs. All (IsInPool (length b.pool.items)) cs) (sym writes.calls) (subst (λ pool. All (IsInPool (length pool)) (a.calls.items ++ Wrote at (length a.pool.items) (length piece) ∷ [])) (sym writes.pool) (in_pool_write a.pool.items piece a.calls.items at kept.in_pool));
        pool_room = omega (arith, kept.pool_room, writes.room, writes.pool_capacity);
        calls_room = omega (arith, kept.calls_room, writes.room, writes.calls_capacity);
        ending_room = λ _. omega (arith, kept.calls_room, writes.room, writes.calls_capacity);
        whole_pool = omega (arith, kept.whole_pool, whole, writes.pool_capacity);
        whole_calls = omega (arith, kept.whole_calls, whole, writes.calls_capacity);
      }

-- what a sync or a restart changes of the fields, where something is pending: image is what it leaves
pub record Settles (a b : Inside) (call : Call) (image : List ℕ) : Type 0 where
  pub newest : b.newest.items ≡ image
  pub synced : b.synced.items ≡ image
  pub calls : b.calls.items ≡ a.calls.items ++ call ∷ []
  pub pool : b.pool ≡ a.pool
  pub from : b.pending_from ≡ length b.calls.items
  pub room : b.room ≡ a.room
  pub first : b.first.value.items ≡ a.first.value.items
  pub pick : b.pick ≡ a.pick
  pub rest : record (view_of b) { changes = [] } ≡ record (view_of a) { changes = [] }
  pub calls_capacity : vec_capacity a.calls ≤ vec_capacity b.calls

module _ (a b : Inside) (call : Call) (image : List ℕ) (kept : IsFaithful a) (settles : Settles a b call image) where
  changes_settled : map (change_of b.pool.items) b.calls.items ≡ map (change_of a.pool.items) a.calls.items ++ change_of a.pool.items call ∷ []
  changes_settled =
      ap (λ (pool : Vec ℕ Global). map (change_of pool.items) b.calls.items) settles.pool
      ∙ ap (map (change_of a.pool.items)) settles.calls
      ∙ map_push (change_of a.pool.items) a.calls.items call

  view_changed : view_of b ≡ changed (view_of a) (change_of a.pool.items call)
  view_changed =
      let now = map (change_of a.pool.items) a.calls.items ++ change_of a.pool.items call ∷ [] in
      ap (λ (cs : List Change). record (view_of b) { changes = cs }) changes_settled
      ∙ ap (λ (d : Memory). record d { changes = now }) settles.rest

  is_pending : a.pending_from < length a.calls.items → 0 < length (now_of (view_of a)).pending
  is_pending lt =
      omega (arith, ap length kept.pending, length-map (drop a.pending_from a.calls.items) range_of, length-drop a.pending_from a.calls.items)

  pub view_settled : a.pending_from < length a.calls.items → view_of b ≡ settled (view_of a) (change_of a.pool.items call)
  view_settled lt =
      let some : eqb (length (now_of (view_of a)).pending) 0 ≡ false = ne_eqb _ _ (λ e. absurd (omega (arith, is_pending lt, e))) in
      view_changed ∙ sym (ap (λ none. cond none (view_of a) (changed (view_of a) (change_of a.pool.items call))) some)

  now_settled : after a.pick (now_of (view_of a)) (change_of a.pool.items call) ≡ settled_as image → now_of (view_of b) ≡ settled_as image
  now_settled leaves =
      let e = contents_of-push a.pick a.first.value.items (map (change_of a.pool.items) a.calls.items) (change_of a.pool.items call) in
      let w = changes_settled in
      let f = settles.first in
      let p = settles.pick in
      cc

  pub kept_settled : a.pending_from < length a.calls.items → IsInPool (length a.pool.items) call → after a.pick (now_of (view_of a)) (change_of a.pool.items call) ≡ settled_as image → IsFaithful b
  kept_settled lt in_ leaves =
      let n = now_settled leaves in
      let none : pending_of b ≡ [] = pending_none b.pending_from b.calls.items (omega (arith, settles.from)) in
      let calls : length b.calls.items ≡ length a.calls.items + 1 = ap length settles.calls ∙ length-append a.calls.items (call ∷ []) in
      let pool = settles.pool in
      let whole : b.whole ≡ a.whole = ap (λ (d : Memory). d.whole) settles.rest in
      record {
        newest = settles.newest ∙ sym (ap (λ (s : Contents). s.newest) n);
        synced = settles.synced ∙ sym (ap (λ (s : Contents). s.synced) n);
        pending = none ∙ sym (ap (λ (s : Contents). s.pending) n);
        from = omega (arith, settles.from);
        size = ap length (settles.synced ∙ sym settles.newest);
        tied = λ k out. ap (λ bytes. get_or bytes k 0) (settles.synced ∙ sym settles.newest);
        fit = subst (All (Fits (length b.newest.items))) (sym none) (All-nil (Fits (length b.newest.items)));
        in_pool = subst (λ (pool : Vec ℕ Global). All (IsInPool (length pool.items)) b.calls.items) (sym pool) (subst (All (IsInPool (length a.pool.items))) (sym settles.calls) (All-push (IsInPool (length a.pool.items)) a.calls.items call kept.in_pool in_));
        pool_room = subst (λ (pool : Vec ℕ Global). length pool.items + b.room ≤ vec_capacity pool) (sym pool) (omega (arith, kept.pool_room, settles.room));
        calls_room = omega (arith, kept.ending_room lt, settles.room, settles.calls_capacity);
        ending_room = λ more. absurd (omega (arith, more, settles.from));
        whole_pool = subst (λ (pool : Vec ℕ Global). b.whole ≤ vec_capacity pool) (sym pool) (omega (arith, kept.whole_pool, whole));
        whole_calls = omega (arith, kept.whole_calls, whole, settles.calls_capacity);
      }

-- a disk that was just made
pub kept_made : (a : Inside) (bytes : List ℕ) → a.first.value.items ≡ bytes → a.newest.items ≡ bytes → a.synced.items ≡ bytes → a.calls.items ≡ [] → a.pool.items ≡ [] → a.pending_from ≡ 0 → a.room ≡ a.whole → a.whole ≤ vec_capacity a.pool → a.whole ≤ 32 * vec_capacity a.calls + 31 → IsFaithful a
kept_made a bytes first newest synced calls pool from free pool_room calls_room =
    let n : now_of (view_of a) ≡ settled_as bytes =
    ap (λ cs. contents_of a.pick a.first.value.items (map (change_of a.pool.items) cs)) calls
    ∙ ap (λ image. contents_of a.pick image []) first
    ∙ contents_of-nil a.pick bytes in
    let none : pending_of a ≡ [] = ap (λ cs. map range_of (drop a.pending_from cs)) calls ∙ pending_none a.pending_from [] (omega arith) in
    let empty = ap length calls in
    let bare = ap length pool in
    record {
      newest = newest ∙ sym (ap (λ (s : Contents). s.newest) n);
      synced = synced ∙ sym (ap (λ (s : Contents). s.synced) n);
      pending = none ∙ sym (ap (λ (s : Contents). s.pending) n);
      from = omega (arith, from);
      size = ap length (synced ∙ sym newest);
      tied = λ k out. ap (λ image. get_or image k 0) (synced ∙ sym newest);
      fit = subst (All (Fits (length a.newest.items))) (sym none) (All-nil (Fits (length a.newest.items)));
      in_pool = subst (All (IsInPool (length a.pool.items))) (sym calls) (All-nil (IsInPool (length a.pool.items)));
      pool_room = omega (arith, bare, free, pool_room);
      calls_room = omega (arith, empty, free, calls_room);
      ending_room = λ more. absurd (omega (arith, more, from, empty));
      whole_pool = pool_room;
      whole_calls = calls_room;
    }
