-- What is kept of the log is enough to take a transaction's writes back.
use Rattle.std.proofs.Common.{◌≡◌, ℕ, ◌+◌, ◌<◌, ◌≤◌, Bool, true, false, None, Some, Result, Ok, Err, List, length, reverse, refl, sym, ap, ◌∙◌, subst, arith, inl, inr}
use Rattle.std.specs.Prelude.{◌↔◌, IsErr, OnOk, nat_lt, if◌then◌else◌}
use Rattle.std.specs.List.{AllByRecursion}
use Rattle.std.proofs.lemmas.Bool.Decides.{nat_tests}
use Rattle.std.proofs.lemmas.Bool.{ltb-false}
use Rattle.std.proofs.lemmas.List.{reverse-reverse}
use Rattle.std.proofs.lemmas.List.Elements.{recursion_from_All}
use Rattle.gated_log.specs.declared.log.Log.{Log}
use Rattle.gated_log.specs.LogRoom.{used_bytes, need_bytes}
use Rattle.gated_log.specs.LogState.{log_tail, buffer_size, log_room, log_used, log_used_with, log_need}
use Rattle.log_records.specs.Record.{spellings}
use Rattle.log_machine.specs.declared.UndoEntry.{UndoEntry}
use Rattle.log_machine.specs.Machine.{field_at, abort_records, end_bytes}
use Rattle.log_machine.proofs.AbortLaws.{abort_length}
use Rattle.log_machine.proofs.ListLaws.{AllByRecursion-reverse}
use Rattle.graph_model.specs.declared.reply.Refusal.TheVariants.{LogFull}
use Rattle.heap_memory.specs.Refusals.{no_room}
use Rattle.heap_spaces.specs.Spaces.{SpacesState, IsSpaces, open_words, with_taken}
use Rattle.heap_engine.specs.Reserve.{WroteBelow}

-- a space begins below the end of the addresses that a reference can have
pub base_below : (s : SpacesState) → IsSpaces s → s.base < 2097152
base_below s is = elim is.first [ inl low ↦ omega arith | inr high ↦ let few = is.few in omega arith ]

used_more : (tail buffer k : ℕ) → used_bytes tail (buffer + k) ≤ used_bytes tail buffer + (k + 5)
used_more tail buffer k = grind (arith, nat_tests)

used_need : (tail buffer k : ℕ) → used_bytes tail (buffer + k) ≤ used_bytes tail buffer + need_bytes buffer k
used_need tail buffer k = grind (arith, nat_tests)

need_few : (buffer k : ℕ) → need_bytes buffer k ≤ k + 5
need_few buffer k = grind (arith, nat_tests)

-- that many bytes take no more of the log than they need
pub used_with_need : (log : Log) (k : ℕ) → log_used_with log k ≤ log_used log + log_need log k
used_with_need log k = used_need (log_tail log) (buffer_size log) k

-- and they need at most a batch's bytes besides
pub need_little : (log : Log) (k : ℕ) → log_need log k ≤ k + 5
need_little log k = need_few (buffer_size log) k

-- the log has room for the records that take these writes back, and for what is kept for other transactions
pub abort_room : (log : Log) (number others : ℕ) (undo : List UndoEntry) → log_used log + (others + end_bytes (length undo)) ≤ log_room log
    → log_used_with log (length (spellings (abort_records number undo))) + others ≤ log_room log
abort_room log number others undo kept =
    let size : length (spellings (abort_records number undo)) + 5 ≡ end_bytes (length undo) = abort_length number undo in
    let more = used_more (log_tail log) (buffer_size log) (length (spellings (abort_records number undo))) in
    omega arith

-- the writes in the other order
pub turned_below : (end : ℕ) (us undo : List UndoEntry) → reverse us ≡ undo → WroteBelow end undo → AllByRecursion (λ (u : UndoEntry). field_at u.object u.field < end) us
turned_below end us undo is below =
    let P = λ (u : UndoEntry). field_at u.object u.field < end in
    let back : reverse undo ≡ us = ap reverse (sym is) ∙ reverse-reverse us in
    subst (λ (xs : List UndoEntry). AllByRecursion P xs) back (AllByRecursion-reverse P undo (recursion_from_All P undo below))

-- the log has room where nothing is refused
pub room_left : (log : Log) (need reserved : ℕ) → no_room log need reserved ≡ None → log_used log + need + reserved ≤ log_room log
room_left log need reserved is = left (nat_lt (log_room log) (log_used log + need + reserved)) refl is
  where
    left : (b : Bool) → nat_lt (log_room log) (log_used log + need + reserved) ≡ b → (if b then Some (LogFull (log_used log) need reserved) else None) ≡ None → log_used log + need + reserved ≤ log_room log
    left true test is = absurd (cc is)
    left false test is = ltb-false (log_room log) (log_used log + need + reserved) test

-- words that are free can be taken
pub taken_is : {A E : Type 0} (r : Result A E) (old new : SpacesState) (n m : ℕ) → (IsErr r ↔ (open_words old < m)) → OnOk r (new ≡ with_taken old m) → m ≡ n → n ≤ open_words old
    → new ≡ with_taken old n
taken_is (Ok a) old new n m err taken same room = taken ∙ ap (with_taken old) same
taken_is (Err e) old new n m err taken same room = let less = err.0 refl in absurd (omega arith)
