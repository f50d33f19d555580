-- An event after the scan that precedes it. The log has room for the scan's records and the event's own together; that it has room for
-- the scan's alone follows once both were appended, so they are appended to a larger log first.
use Rattle.std.proofs.Common.{◌≡◌, ℕ, ◌+◌, ◌≤◌, false, List, ◌++◌, Option, Some, sym, ap, ◌∙◌, subst, arith, append_assoc}
use Rattle.graph_model.specs.declared.id.Id.{Id}
use Rattle.graph_model.specs.Transaction.{Transaction, held}
use Rattle.graph_model.specs.History.{Account}
use Rattle.graph_model.specs.Plain.{view}
use Rattle.log_records.specs.declared.Record.{Record}
use Rattle.log_machine.specs.Machine.{State, undo_of}
use Rattle.gated_log.specs.Log.{records_of}
use Rattle.graph_words.specs.Places.{address_of}
use Rattle.collection_words.specs.LaidOut.{is_gray_field}
use Rattle.collection_words.specs.Placing.{moved_by_all}
use Rattle.heap_model.specs.Core.{Core, all_records, call_barrier, ground, held_barrier, moved, need, placing, reserved, undo_behind, undo_with, used}
use Rattle.heap_model.proofs.Step.Goes.{used-append}
use Rattle.heap_model.proofs.Step.Moved.{moved_is}
use Rattle.heap_model.proofs.Step.Room.{need-parts}
use Rattle.core_laws.proofs.Collecting.Black.{black_held}
use Rattle.core_laws.proofs.Collecting.Room.{appended, room_behind}
use Rattle.core_laws.proofs.Step.Granted.{HasRoom}
use Rattle.core_laws.specs.Valid.{Agrees, DiskAgrees}

-- A larger log.

-- a core whose log has that many more bytes
abbrev pub roomy : Core → ℕ → Core
roomy c more = record c { room = c.room + more }

-- it agrees with its history too
pub agrees_roomy : (a : Account) (c : Core) (more : ℕ) → Agrees a c → Agrees a (roomy c more)
agrees_roomy a c more h =
    let has_room = h.disk.has_room in
    let room = h.room in
    record {
      unfailed = h.unfailed;
      certain = h.certain;
      in_sessions = h.in_sessions;
      in_range = h.in_range;
      next_fits = h.next_fits;
      numbered = h.numbered;
      disk = record {
        commits = h.disk.commits;
        sealed_first = h.disk.sealed_first;
        acknowledged_last = h.disk.acknowledged_last;
        state = h.disk.state;
        places = h.disk.places;
        remaining = h.disk.remaining;
        told = h.disk.told;
        first_known = h.disk.first_known;
        has_room = omega arith;
      };
      behind = h.behind;
      told = h.told;
      next_known = h.next_known;
      losers = h.losers;
      writers = h.writers;
      room = omega arith;
    }

-- and so does the core itself, if all fits into its log
pub agrees_fitting : (a : Account) (c : Core) (more : ℕ) → (h : Agrees a (roomy c more)) → DiskAgrees a c → used c + reserved (undo_of h.behind) a ≤ c.room → Agrees a c
agrees_fitting a c more h disk fits = record {
  unfailed = h.unfailed;
  certain = h.certain;
  in_sessions = h.in_sessions;
  in_range = h.in_range;
  next_fits = h.next_fits;
  numbered = h.numbered;
  disk = disk;
  behind = h.behind;
  told = h.told;
  next_known = h.next_known;
  losers = h.losers;
  writers = h.writers;
  room = fits;
}

-- The barrier and the event.

-- the core with these records of a collection after all pending ones, and its objects where they move them
abbrev pub behind : Core → List Record → Core
behind c rs = appended c rs (moved_by_all (placing c) rs).places (moved_by_all (placing c) rs).remaining

-- and with these after them
abbrev pub behind_both : Core → List Record → List Record → Core
behind_both c rs own = record (behind c rs) { pending = (c.pending ++ rs) ++ own }

-- where the records of a barrier leave a core that agrees with its history, and an event after it does so too, the log has room for both
pub call_behind : (a b : Account) (c : Core) (rs own : List Record) → Agrees a c
    → ((more : ℕ) → Agrees a (roomy c more) → HasRoom (roomy c more) rs a → Agrees a (moved (roomy c more) rs))
    → ((more : ℕ) → Agrees a (roomy c more) → Agrees a (behind (roomy c more) rs) → HasRoom (behind (roomy c more) rs) own b → Agrees b (behind_both (roomy c more) rs own))
    → HasRoom c (rs ++ own) b → DiskAgrees b c → Agrees b (behind_both c rs own)
call_behind a b c rs own h kept go room disk =
    let p = moved_by_all (placing c) rs in
    let more = used c + need c.pending rs + reserved (undo_behind c (all_records c ++ rs)) a in
    let large = agrees_roomy a c more h in
    let scanned : Agrees a (behind (roomy c more) rs) = subst (Agrees a) (moved_is (roomy c more) rs) (kept more large (omega arith)) in
    let own_room = room_behind c rs p.places p.remaining own b room in
    let done = go more large scanned (omega (arith, own_room)) in
    let front = used-append c rs in
    let after = used-append (behind c rs) own in
    let parts = need-parts c.pending rs own in
    let all : all_records (behind_both c rs own) ≡ all_records c ++ (rs ++ own) =
    sym (append_assoc (records_of c.batches) (c.pending ++ rs) own) ∙ ap (λ (l : List Record). l ++ own) (sym (append_assoc (records_of c.batches) c.pending rs)) ∙ append_assoc (all_records c) rs own in
    let known = ap (λ (l : List Record). reserved (undo_behind c l) b) (sym all) ∙ ap (λ (o : Option State). reserved (undo_with o) b) done.told.reached in
    agrees_fitting b (behind_both c rs own) more done disk (omega (arith, room, front, after, parts, known))

-- What a call reads or writes is not gray after its barrier.
pub black_call : (a : Account) (c : Core) (h : Agrees a c) (s : ℕ) (t : Transaction) → a.active s ≡ Some t → (hd i : ℕ) (id : Id) → held (view c.g0 a t).registers hd ≡ Some id
    → (b : Agrees a (behind c (call_barrier (ground c) c.g0 a (a.active s) hd i))) → (at : ℕ) → address_of (behind c (call_barrier (ground c) c.g0 a (a.active s) hd i)).places id ≡ Some at
    → is_gray_field b.behind.collection at i ≡ false
black_call a c h s t e hd i id holds =
    let P : Core → Type 0 = λ d. (b : Agrees a d) → (at : ℕ) → address_of d.places id ≡ Some at → is_gray_field b.behind.collection at i ≡ false in
    subst (λ (o : Option Transaction). P (behind c (call_barrier (ground c) c.g0 a o hd i))) (sym e)
    (subst (λ (o : Option Id). P (behind c (held_barrier (ground c) o i))) (sym holds)
    (subst P (moved_is c (held_barrier (ground c) (Some id) i)) (black_held a c h id i)))
