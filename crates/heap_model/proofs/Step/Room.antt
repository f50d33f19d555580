-- Laws of the log's room: what records take, and when the log has room for an event.
use Rattle.std.proofs.Common.{◌≡◌, sym, ℕ, ◌+◌, ◌≤◌, Bool, true, false, cond, List, [], ◌∷◌, ◌++◌, length, Some, None, refl, ap, ◌∙◌, arith, append_assoc, length-append}
use Rattle.std.specs.Prelude.{nat_lt, fold}
use Rattle.std.specs.Int.{w32, to_le_bytes}
use Rattle.std.proofs.lemmas.Bool.{le-ltb, ltb-false}
use Rattle.std.proofs.lemmas.List.{append-nil}
use Rattle.std.proofs.lemmas.Grind.{flat_map-append}
use Rattle.graph_model.specs.declared.reply.Refusal.{Refusal}
use Rattle.graph_model.specs.declared.reply.Refusal.TheVariants.{LogFull}
use Rattle.log_records.specs.declared.Record.{Record}
use Rattle.log_machine.specs.declared.UndoEntry.{UndoEntry}
use Rattle.log_machine.specs.Machine.{put_record, abort_records, undo_bytes}
use Rattle.log_machine.proofs.AbortLaws.{abort_length}
use Rattle.log_records.specs.Record.{spelling, spellings}
use Rattle.gated_log.specs.Log.{framed, batch, batches_bytes, records_of, pending_batch, with_batch}
use Rattle.heap_model.specs.Core.{Core, Lands, all_words, batch_of, need, full_log, landed, made}

-- the records of batches with one more
pub records_of-append : (bs : List (List Record)) (b : List Record) → records_of (bs ++ b ∷ []) ≡ records_of bs ++ b
records_of-append bs b = flat_map-append (λ records. records) bs (b ∷ []) ∙ ap (λ rs. records_of bs ++ rs) (append-nil b)

length_framed : (rs : List Record) → length (framed rs) ≡ 4 + length (spellings rs)
length_framed rs = length-append (to_le_bytes w32 (length (spellings rs))) (spellings rs)

length_pending_batch : (r : Record) (rs : List Record) → length (pending_batch (r ∷ rs)) ≡ length (spellings (r ∷ rs)) + 5
length_pending_batch r rs =
    let all = length-append (framed (r ∷ rs)) (0 ∷ []) in
    let front = length_framed (r ∷ rs) in
    omega arith

length_spellings : (rs more : List Record) → length (spellings (rs ++ more)) ≡ length (spellings rs) + length (spellings more)
length_spellings rs more = ap (λ (l : List ℕ). length l) (flat_map-append spelling rs more) ∙ length-append (spellings rs) (spellings more)

-- records after the pending ones take what they need
pub length-pending_batch-append : (pending more : List Record) → length (pending_batch (pending ++ more)) ≡ length (pending_batch pending) + need pending more
length-pending_batch-append [] [] = omega arith
length-pending_batch-append [] (r ∷ rs) = length_pending_batch r rs ∙ omega arith
length-pending_batch-append (p ∷ ps) [] = ap (λ (l : List Record). length (pending_batch l)) (append-nil (p ∷ ps)) ∙ omega arith
length-pending_batch-append (p ∷ ps) (r ∷ rs) =
    let all = length_pending_batch p (ps ++ (r ∷ rs)) in
    let front = length_pending_batch p ps in
    let parts = length_spellings (p ∷ ps) (r ∷ rs) in
    omega arith

-- records take what the first of them and then the others take
pub need-parts : (pending first second : List Record) → need pending (first ++ second) ≡ need pending first + need (pending ++ first) second
need-parts pending first second =
    let whole = length-pending_batch-append pending (first ++ second) in
    let front = length-pending_batch-append pending first in
    let behind = length-pending_batch-append (pending ++ first) second in
    let same = ap (λ (l : List Record). length (pending_batch l)) (append_assoc pending first second) in
    omega arith

length_batches : (bs : List (List Record)) (b : List Record) → length (batches_bytes (bs ++ b ∷ [])) ≡ length (batches_bytes bs) + (5 + length (spellings b))
length_batches bs b =
    let all = ap (λ (l : List ℕ). length l) (flat_map-append batch bs (b ∷ [])) in
    let parts = length-append (batches_bytes bs) (batches_bytes (b ∷ [])) in
    let last = length-append (batch b) [] in
    let front = length_framed b in
    omega arith

-- records that are forced take no more than they did while they were pending
pub length-forced : (bs : List (List Record)) (r : Record) (rs : List Record)
    → length (batches_bytes (bs ++ (r ∷ rs) ∷ [])) + 1 + length (pending_batch []) ≡ length (batches_bytes bs) + 1 + length (pending_batch (r ∷ rs))
length-forced bs r rs = let all = length_batches bs (r ∷ rs) in let waiting = length_pending_batch r rs in omega arith

-- a log with that much room isn't full
pub full_log-none : (room used more kept : ℕ) → used + more + kept ≤ room → full_log room used more kept ≡ None
full_log-none room used more kept le = ap (λ b. cond b (Some (LogFull used more kept)) None) (le-ltb room (used + more + kept) le)

no_room : (b : Bool) (why : Refusal) → cond b (Some why) None ≡ None → b ≡ false
no_room true why e = cc
no_room false why e = refl

-- a log that isn't full has that much room
pub full_log-room : (room used more kept : ℕ) → full_log room used more kept ≡ None → used + more + kept ≤ room
full_log-room room used more kept e = ltb-false room (used + more + kept) (no_room (nat_lt room (used + more + kept)) (LogFull used more kept) e)

-- what the records take that take writes back and end their transaction, with a batch's gate and length where none is pending
pub need-abort_records : (pending : List Record) (t : ℕ) (us : List UndoEntry) → need pending (abort_records t us) ≤ undo_bytes us
need-abort_records [] t [] = omega (arith, abort_length t [])
need-abort_records [] t (u ∷ us) = omega (arith, abort_length t (u ∷ us))
need-abort_records (p ∷ ps) t [] = omega (arith, abort_length t [])
need-abort_records (p ∷ ps) t (u ∷ us) = omega (arith, abort_length t (u ∷ us))

force_batch : (c : Core) (p : List Record) → c.pending ≡ p → landed c (batch_of p) ≡ record c { batches = with_batch c.batches p; words = fold put_record c.words p; pending = [] }
force_batch c [] e = ap (λ (q : List Record). record c { pending = q }) e
force_batch c (r ∷ rs) e = refl

-- what a force leaves
pub forced-with_batch : (c : Core) → made c Lands ≡ record c { batches = with_batch c.batches c.pending; words = all_words c; pending = [] }
forced-with_batch c = force_batch c c.pending refl

-- the records of batches with the pending ones
pub records_of-with_batch : (bs : List (List Record)) (p : List Record) → records_of (with_batch bs p) ≡ records_of bs ++ p
records_of-with_batch bs [] = sym (append-nil (records_of bs))
records_of-with_batch bs (r ∷ rs) = records_of-append bs (r ∷ rs)

-- and the bytes that they take
pub length-with_batch : (bs : List (List Record)) (p : List Record) → length (batches_bytes (with_batch bs p)) + 1 + length (pending_batch []) ≡ length (batches_bytes bs) + 1 + length (pending_batch p)
length-with_batch bs [] = refl
length-with_batch bs (r ∷ rs) = length-forced bs r rs
