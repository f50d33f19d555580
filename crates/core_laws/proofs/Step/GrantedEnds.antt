-- An abort of one session, a force and a flush that are granted leave a core that agrees with its history.
use Rattle.std.proofs.Common.{◌≡◌, ◌≢◌, ℕ, ◌+◌, ◌≤◌, max, List, [], ◌++◌, length, take, Option, Some, None, refl, sym, ◌∙◌, subst, arith}
use Rattle.std.proofs.lemmas.List.{append-nil}
use Rattle.std.proofs.Math.Seq.{take-length}
use Rattle.graph_model.specs.declared.event.Event.TheVariants.{Abort, Force, Flush}
use Rattle.graph_model.specs.declared.reply.Reply.TheVariants.{Aborted, Durable, Flushed}
use Rattle.graph_model.specs.History.{Account, account_after}
use Rattle.graph_model.specs.Transaction.{Transaction, serial}
use Rattle.commit_order.specs.Heard.{Heard}
use Rattle.commit_order.proofs.OrderLaws.{IsOrdered}
use Rattle.log_records.specs.declared.Record.{Record}
use Rattle.log_machine.proofs.AbortLaws.{abort_words}
use Rattle.log_machine.specs.Machine.{State, undo_of, with_entries, turned, taken_back, abort_records}
use Rattle.log_machine.proofs.MachineLaws.{undo_beside}
use Rattle.log_machine.proofs.MapLaws.{each_other}
use Rattle.log_machine.proofs.StateLaws.{each_at}
use Rattle.collection_words.specs.Writes.{AreBacked}
use Rattle.gated_log.specs.Log.{records_of, batches_bytes, pending_batch, with_batch}
use Rattle.heap_model.specs.Core.{Core, log_start, all_records, all_words, used, Transfer, Lands, Stores, made, transfers, done}
use Rattle.heap_model.proofs.Step.Goes.{told_sound}
use Rattle.heap_model.proofs.Step.Transfers.{all_made}
use Rattle.heap_model.proofs.Step.Room.{need-abort_records, forced-with_batch, records_of-with_batch, length-with_batch}
use Rattle.heap_model.specs.CoreTold.{IsTold, IsNumbered}
use Rattle.core_laws.proofs.Sessions.Apart.{own_apart}
use Rattle.core_laws.proofs.Step.Goes.{words_with, writing_of, number_below, numbered_as, known_on, goes_on}
use Rattle.core_laws.proofs.Step.Granted.{HasRoom, reserved_told}
use Rattle.core_laws.proofs.Sessions.Stays.{stays_abort}
use Rattle.core_laws.proofs.Step.Reserved.{reserve_reserved}
use Rattle.core_laws.proofs.Sessions.Actives.{each_session, sessions_with, writer_by, ended_actives, same_actives, ended_reserved}
use Rattle.core_laws.proofs.Step.Sound.{agrees_entry}
use Rattle.core_laws.proofs.Step.Told.{abort_told}
use Rattle.core_laws.specs.Valid.{IsActive, IsWriter, Agrees}

-- An abort.

module _ (a : Account) (c : Core) (h : Agrees a c) {numbers : List ℕ} {heard : Heard} (o : IsOrdered c.g0 numbers a heard) (s : ℕ) (t : Transaction) (e : a.active s ≡ Some t) where
  -- the records that take the writes of the transaction back
  abbrev ends : List Record
  ends = abort_records t.number (undo_of h.behind t.number)

  -- the state after them
  abbrev last : State
  last = turned h.behind t.number (with_entries h.behind.undo t.number []) 0

  -- what the history says then
  abbrev aborted : Account
  aborted = account_after a (record { event = Abort s; reply = Aborted })

  end_told : IsTold (log_start c) c.born c.places c.remaining (serial c.g0 a.sealed) (c.before + length a.sealed) (all_records c ++ ends) (words_with c ends) last
  end_told = abort_told c.pages c.first_number c.born c.places c.remaining (serial c.g0 a.sealed) (c.before + length a.sealed) t.number (all_records c) (all_words c) h.behind h.told h.in_range.some_pages h.in_range.few_pages (numbered_as a c s t e h) (own_apart a c h o s t e)

  end_words : words_with c ends ≡ taken_back (undo_of h.behind t.number) (all_words c)
  end_words = abort_words t.number (undo_of h.behind t.number) (all_words c)

  -- what would take it back leads to current objects
  end_backed : AreBacked c.places (all_words c) (undo_of h.behind t.number)
  end_backed = each_at (λ q us. AreBacked c.places (all_words c) us) h.behind.undo t.number tt h.told.backed

  -- the others see what they saw
  end_others : (r : ℕ) → r ≢ s → IsWriter c.places c.remaining c.g0 a (a.active r) (words_with c ends) last
  end_others r other =
      subst (λ ws. IsWriter c.places c.remaining c.g0 a (a.active r) ws last) (sym end_words)
      (writer_by c.places c.remaining c.g0 a (a.active r) _ _ (λ u also.
      let beside = o.beside r s u t other also e in
      stays_abort (writing_of a c r u also h) h.told.heap t.number beside.differ end_backed (told_sound h.told) (own_apart a c h o s t e)))

  -- what takes the transaction back has room in what is kept for it
  end_room : HasRoom c ends aborted
  end_room =
      let session = h.in_sessions s t e in
      let kept = reserved_told c ends aborted end_told in
      let less = ended_reserved (undo_of h.behind) (undo_of last) a s t session e
      (λ r u other also. undo_beside h.behind.undo t.number u.number [] (let beside = o.beside r s u t other also e in beside.differ)) in
      let fits = need-abort_records c.pending t.number (undo_of h.behind t.number) in
      let room = h.room in
      omega arith

  end_agrees : Agrees aborted (record c { pending = c.pending ++ ends })
  end_agrees =
      let P : ℕ → Option Transaction → Type 0 = λ r x. IsWriter c.places c.remaining c.g0 aborted x (words_with c ends) last in
      let below = (number_below a c s t e h).1 in
      let known = h.next_known in
      let kept = reserved_told c ends aborted end_told in
      let room = end_room in
      goes_on a c aborted ends c.places c.remaining h (record {
        unfailed = h.unfailed;
        certain = h.certain;
        acknowledged = refl;
        in_sessions = sessions_with a s None (λ u never. absurd (cc never)) h.in_sessions;
        next_fits = h.next_fits;
        numbered = each_session (λ r x. IsNumbered (c.first + a.begun) x) a.active s None tt (λ r other. h.numbered r);
        later = [];
        sealed = sym (append-nil a.sealed);
        behind = last;
        told = end_told;
        next_known = omega arith;
        losers = each_other (λ q us. IsActive aborted q) h.behind.undo t.number (λ q us is other. ended_actives a aborted s t e refl q other (h.losers q us is));
        writers = each_session P a.active s None tt end_others;
        room = omega arith;
      })

-- the log has room for an abort
pub abort_room : (a : Account) (c : Core) {numbers : List ℕ} {heard : Heard} (o : IsOrdered c.g0 numbers a heard) (s : ℕ) (t : Transaction) (more : List Record) → (h : Agrees a c) → a.active s ≡ Some t
    → more ≡ abort_records t.number (undo_of h.behind t.number) → HasRoom c more (account_after a (record { event = Abort s; reply = Aborted }))
abort_room a c o s t more h e is = subst (λ rs. HasRoom c rs (account_after a (record { event = Abort s; reply = Aborted }))) (sym is) (end_room a c h o s t e)

-- a transaction is taken back
pub abort_agrees : (a : Account) (c : Core) {numbers : List ℕ} {heard : Heard} (o : IsOrdered c.g0 numbers a heard) (s : ℕ) (t : Transaction) (more : List Record) → (h : Agrees a c) → a.active s ≡ Some t
    → more ≡ abort_records t.number (undo_of h.behind t.number)
    → Agrees (account_after a (record { event = Abort s; reply = Aborted })) (record c { pending = c.pending ++ more })
abort_agrees a c o s t more h e is =
    let b : Account = account_after a (record { event = Abort s; reply = Aborted }) in
    subst (λ (rs : List Record). Agrees b (record c { pending = c.pending ++ rs })) (sym is) (end_agrees a c h o s t e)

-- A force.

-- batches with all records encode all that was sealed
pub all_on_disk : (a : Account) (c : Core) (bs : List (List Record)) → (h : Agrees a c) → records_of bs ≡ all_records c
    → IsTold (log_start c) c.born c.places c.remaining (serial c.g0 (take (length a.sealed) a.sealed)) (c.before + length a.sealed) (records_of bs) (all_words c) h.behind
all_on_disk a c bs h same =
    let now = subst (λ (rs : List Record). IsTold (log_start c) c.born c.places c.remaining (serial c.g0 a.sealed) (c.before + length a.sealed) rs (all_words c) h.behind) (sym same) h.told in
    subst (λ (ts : List Transaction). IsTold (log_start c) c.born c.places c.remaining (serial c.g0 ts) (c.before + length a.sealed) (records_of bs) (all_words c) h.behind) (sym (take-length a.sealed)) now

-- batches with all records agree with what was sealed, however much of that is acknowledged
force_all : (a : Account) (c : Core) (bs : List (List Record)) (acknowledged entries : ℕ) → Agrees a c → records_of bs ≡ all_records c
    → length (batches_bytes bs) + 1 + length (pending_batch []) ≡ used c → acknowledged ≤ length a.sealed
    → Agrees (record a { acknowledged = acknowledged; entries = entries }) (record c { batches = bs; words = all_words c; pending = [] })
force_all a c bs acknowledged entries h same size last =
    let b : Account = record a { acknowledged = acknowledged; entries = entries } in
    let room = h.room in
    let fits = reserve_reserved a h.behind h.in_sessions (told_sound h.told) h.losers in
    let records = append-nil (records_of bs) ∙ same in
    record {
      unfailed = h.unfailed;
      certain = h.certain;
      in_sessions = h.in_sessions;
      in_range = h.in_range;
      next_fits = h.next_fits;
      numbered = h.numbered;
      disk = record {
        commits = length a.sealed;
        sealed_first = omega arith;
        acknowledged_last = last;
        state = h.behind;
        places = c.places;
        remaining = c.remaining;
        told = all_on_disk a c bs h same;
        first_known = known_on a c h;
        has_room = omega arith;
      };
      behind = h.behind;
      told = subst (λ (rs : List Record). IsTold (log_start c) c.born c.places c.remaining (serial c.g0 a.sealed) (c.before + length a.sealed) rs (all_words c) h.behind) (sym records) h.told;
      next_known = h.next_known;
      losers = λ q us is. same_actives a b refl q (h.losers q us is);
      writers = h.writers;
      room = omega arith;
    }

force_waiting : (a : Account) (c : Core) (acknowledged entries : ℕ) → Agrees a c → acknowledged ≤ length a.sealed
    → Agrees (record a { acknowledged = acknowledged; entries = entries }) (made c Lands)
force_waiting a c acknowledged entries h last =
    subst (Agrees (record a { acknowledged = acknowledged; entries = entries })) (sym (forced-with_batch c))
    (force_all a c (with_batch c.batches c.pending) acknowledged entries h (records_of-with_batch c.batches c.pending) (length-with_batch c.batches c.pending) last)

-- all pending records are forced to the disk, and nothing is answered yet
landed_agrees : (a : Account) (c : Core) → Agrees a c → Agrees a (made c Lands)
landed_agrees a c h =
    let first = h.disk.sealed_first in
    let last = h.disk.acknowledged_last in
    force_waiting a c a.acknowledged a.entries h (omega arith)

-- all pending records are forced to the disk
pub force_agrees : (a : Account) (c : Core) → Agrees a c → Agrees (account_after a (record { event = Force; reply = Durable (length a.sealed) })) (done c Force)
force_agrees a c h =
    let first = h.disk.sealed_first in
    let last = h.disk.acknowledged_last in
    force_waiting a c (max a.acknowledged (length a.sealed)) (a.entries + 1) h (omega arith)

-- A flush.

-- storing a page changes nothing that the history says
stored_agrees : (a : Account) (c : Core) (p lsn : ℕ) → Agrees a c → Agrees a (made c (Stores p lsn))
stored_agrees a c p lsn h = record {
  unfailed = h.unfailed;
  certain = h.certain;
  in_sessions = h.in_sessions;
  in_range = h.in_range;
  next_fits = h.next_fits;
  numbered = h.numbered;
  disk = h.disk;
  behind = h.behind;
  told = h.told;
  next_known = h.next_known;
  losers = h.losers;
  writers = h.writers;
  room = h.room;
}

-- no transfer does
pub made_agrees : (a : Account) (c : Core) (t : Transfer) → Agrees a c → Agrees a (made c t)
made_agrees a c Lands h = landed_agrees a c h
made_agrees a c (Stores p lsn) h = stored_agrees a c p lsn h

-- a page is flushed
pub flush_agrees : (a : Account) (c : Core) (p : ℕ) → Agrees a c → Agrees (account_after a (record { event = Flush p; reply = Flushed p })) (done c (Flush p))
flush_agrees a c p h =
    let left = all_made (Agrees a) (made_agrees a) c (transfers c (Flush p)) h in
    subst (λ (o : Option ℕ). Agrees (record a { failed = o; entries = a.entries + 1 }) (done c (Flush p))) (sym h.unfailed) (agrees_entry a (done c (Flush p)) (a.entries + 1) left)
