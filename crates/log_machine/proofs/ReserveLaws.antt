-- The log's bytes that are kept, record by record.
use Rattle.std.proofs.Common.{◌≡◌, ℕ, ◌+◌, ◌≤◌, Some, List, [], ◌∷◌, refl, sym, ap, ◌∙◌, arith}
use Rattle.std.specs.Ordering.{nat_cmp}
use Rattle.std.specs.FinMap.{FinMap, remove}
use Rattle.std.proofs.lemmas.Option.{option_and_then_some, cond_some}
use Rattle.log_records.specs.declared.Record.{Record}
use Rattle.log_records.specs.declared.Record.TheVariants.{Update, Base, Fix, Undo, Commit, End, Copy, Scan, Flip, Collected}
use Rattle.log_machine.specs.declared.UndoEntry.{UndoEntry}
use Rattle.log_machine.specs.Machine.{State, undo_in, undo_of, with_entries, turned, row_after, after, undo_bytes, reserve, start}
use Rattle.log_machine.specs.Entries.{sum_over, bytes_over}
use Rattle.log_machine.proofs.MapLaws.{sum-insert, sum-remove, remove_absent, entries_empty}
use Rattle.log_machine.proofs.MachineLaws.{standing, told_if, newest_told}
use Rattle.log_machine.specs.Sound.{NoneEmpty, AreLosers}
use Rattle.log_machine.proofs.CollectingLaws.{collects}
use Rattle.log_machine.proofs.AbortLaws.{none_standing, none_empty}
use Rattle.log_machine.specs.UndoEntry.{undo_entry}

-- the bytes that are kept for a transaction with these writes: none where there is none
abbrev pub bytes_for : List UndoEntry → ℕ
bytes_for [] = 0
bytes_for (u ∷ us) = undo_bytes (u ∷ us)

bytes_of : (undo : FinMap nat_cmp (List UndoEntry)) (t : ℕ) (us : List UndoEntry) → NoneEmpty undo → undo_in undo t ≡ us → bytes_over undo ≡ bytes_for us + bytes_over (remove undo t)
bytes_of undo t [] some own = ap bytes_over (sym (remove_absent undo t (none_standing undo t some own))) ∙ omega arith
bytes_of undo t (u ∷ us) some own = sum-remove undo_bytes undo t (u ∷ us) (standing undo t u us own)

-- one transaction's bytes and the others'
pub bytes_split : (undo : FinMap nat_cmp (List UndoEntry)) (t : ℕ) → NoneEmpty undo → bytes_over undo ≡ bytes_for (undo_in undo t) + bytes_over (remove undo t)
bytes_split undo t some = bytes_of undo t (undo_in undo t) some refl

-- with other writes of one transaction
pub bytes_with : (undo : FinMap nat_cmp (List UndoEntry)) (t : ℕ) (us : List UndoEntry) → bytes_over (with_entries undo t us) ≡ bytes_for us + bytes_over (remove undo t)
bytes_with undo t [] = omega arith
bytes_with undo t (u ∷ us) = sum-insert undo_bytes undo t (u ∷ us)

pub reserve-split : (s : State) (t : ℕ) → AreLosers s → reserve s ≡ bytes_for (undo_of s t) + bytes_over (remove s.undo t)
reserve-split s t sound = bytes_split s.undo t (none_empty s sound)

pub reserve-with : (s : State) (t : ℕ) (us : List UndoEntry) (more : ℕ) → reserve (turned s t (with_entries s.undo t us) more) ≡ bytes_for us + bytes_over (remove s.undo t)
reserve-with s t us more = bytes_with s.undo t us

-- nothing is kept before the first record
pub reserve-start : (pages first : ℕ) → reserve (start pages first) ≡ 0
reserve-start pages first = ap (λ es. sum_over undo_bytes es) (entries_empty (List UndoEntry))

-- one more write keeps at most the bytes of an end and of one write
bytes_more : (u : UndoEntry) (us : List UndoEntry) → bytes_for (u ∷ us) ≤ bytes_for us + 29
bytes_more u [] = omega arith
bytes_more u (w ∷ ws) = omega arith

bytes_less : (u : UndoEntry) (us : List UndoEntry) → bytes_for us ≤ bytes_for (u ∷ us)
bytes_less u [] = omega arith
bytes_less u (w ∷ ws) = omega arith

reserve_row : (s n : State) (r : Record) → AreLosers s → row_after s r ≡ Some n → reserve n ≤ reserve s + 29
reserve_row s n (Update t object field was word) sound e =
    let write : UndoEntry = undo_entry object field was in
    let told = cond_some _ _ _ e in
    let before = reserve-split s t sound in
    let after = reserve-with s t (write ∷ undo_of s t) 0 in
    let more = bytes_more write (undo_of s t) in
    let same = ap reserve told.1 in
    omega arith
reserve_row s n (Base t address words) sound e = let told = cond_some _ _ _ e in let same = ap reserve told.1 in omega arith
reserve_row s n (Fix t object field word) sound e = let told = cond_some _ _ _ e in let same = ap reserve told.1 in omega arith
reserve_row s n (Undo t object field word) sound e =
    let write : UndoEntry = undo_entry object field word in
    option_and_then_some (λ rest. Some (turned s t (with_entries s.undo t rest) 0)) _ n e (λ rest newest is.
    let before = reserve-split s t sound in
    let after = reserve-with s t rest 0 in
    let less = bytes_less write rest in
    let was = ap bytes_for (newest_told (undo_of s t) write rest newest) in
    let state : turned s t (with_entries s.undo t rest) 0 ≡ n = cc is in
    let same = ap reserve state in
    omega arith)
reserve_row s n (Commit t) sound e =
    let before = reserve-split s t sound in
    let after = reserve-with s t [] 1 in
    let state : turned s t (with_entries s.undo t []) 1 ≡ n = cc e in
    let same = ap reserve state in
    omega arith
reserve_row s n (End t) sound e = let told = cond_some _ _ _ e in let same = ap reserve told.1 in omega arith
reserve_row s n (Copy from to words) sound e = let same = (collects s n (Copy from to words) e).bytes in omega arith
reserve_row s n (Scan page writes) sound e = let same = (collects s n (Scan page writes) e).bytes in omega arith
reserve_row s n (Flip copies) sound e = let same = (collects s n (Flip copies) e).bytes in omega arith
reserve_row s n Collected sound e = let same = (collects s n Collected e).bytes in omega arith

-- one more record keeps at most that many bytes more
pub reserve-after : (s n : State) (r : Record) → AreLosers s → after s r ≡ Some n → reserve n ≤ reserve s + 29
reserve-after s n r sound e = let told = told_if _ _ _ e in reserve_row s n r sound told.1
