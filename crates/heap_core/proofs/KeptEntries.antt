-- The events that need no memory find room for their entries.
use Rattle.std.proofs.Common.{◌≡◌, ℕ, ◌+◌, ◌<◌, ◌≤◌, inl, inr, max, List, [], ◌∷◌, ◌++◌, length, Option, None, Some, refl, ap, ◌∙◌, arith}
use Rattle.std.specs.Prelude.{◌⊎◌, IsSome, sum_by}
use Rattle.std.proofs.lemmas.Bool.Decides.{nat_tests}
use Rattle.std.proofs.lemmas.List.Sums.{sum_by-cons}
use Rattle.graph_model.specs.declared.event.Event.{Event}
use Rattle.graph_model.specs.declared.event.Event.TheVariants.{Begin, Root, New, Put, Clear, Link, Drop, Get, Same, Len, Seal, Abort, Force, Flip, Scan, Flush}
use Rattle.graph_model.specs.declared.reply.Entry.{Entry}
use Rattle.graph_model.specs.declared.reply.Reply.{Reply}
use Rattle.graph_model.specs.History.{Account, account, account_after, acknowledged, sessions}
use Rattle.graph_model.proofs.Runs.History.{account-append}
use Rattle.txn_table.specs.Table.{TransactionState, TableState, transaction_of, new_table}
use Rattle.heap_memory.specs.Memory.{Memory}
use Rattle.heap_engine.specs.declared.engine.Engine.{Engine}
use Rattle.heap_engine.specs.Ending.{SealsAlone, NeedsNoMemory, Ends}
use Rattle.heap_engine.specs.EngineState.{memory}
use Rattle.heap_engine.specs.Reserve.{one_if, active_count}
use Rattle.heap_engine.proofs.ReserveLaws.{count_ended, total_none}
use Rattle.heap_core.specs.Ending.{IsReady, kept_entries, entries_kept}

one_few : (o : Option TransactionState) → one_if o ≤ 1
one_few None = omega arith
one_few (Some t) = omega arith

count_few : (table : TableState) (ss : List ℕ) → sum_by (λ s. one_if (transaction_of table s)) ss ≤ length ss
count_few table [] = omega arith
count_few table (s ∷ ss) = omega (arith, one_few (transaction_of table s), count_few table ss, sum_by-cons (λ q. one_if (transaction_of table q)) s ss)

kept_few : (active acked sealed : ℕ) → active ≤ 32 → kept_entries active acked sealed ≤ 65
kept_few active acked sealed few = grind (arith, nat_tests)

-- for no more than these
pub entries_few : (m : Memory) (history : List Entry) → entries_kept m history ≤ 65
unfolding sessions
entries_few m history = kept_few (active_count m.table) (acknowledged history) m.sealed (count_few m.table sessions)

-- for none where no transaction is active and none was sealed
pub kept_none : (m : Memory) (next : ℕ) → m.table ≡ new_table next → m.sealed ≡ 0 → entries_kept m [] ≡ 0
kept_none m next table sealed =
    let active : active_count m.table ≡ 0 = ap (λ (t : TableState). active_count t) table ∙ total_none one_if next refl in
    (λ i. kept_entries (active i) 0 (sealed i))

some_ended : (active acked sealed less : ℕ) → less + 1 ≡ active → kept_entries less acked sealed + 2 ≤ kept_entries active acked sealed
some_ended active acked sealed less is = omega (arith, ap (λ n. kept_entries n acked sealed) is)

some_sealed : (active acked sealed less : ℕ) → less + 1 ≡ active → kept_entries less acked (sealed + 1) + 1 ≤ kept_entries active acked sealed
some_sealed active acked sealed less is = grind (arith, nat_tests)

all_acked : (active acked sealed : ℕ) → acked < sealed → kept_entries active (max acked sealed) sealed + 1 ≤ kept_entries active acked sealed
all_acked active acked sealed less = grind (arith, nat_tests)

active_some : (e : Engine) (s : ℕ) (o : Option TransactionState) → transaction_of e.table s ≡ o → IsSome o → 1 ≤ active_count e.table
active_some e s None is some = absurd (cc some)
active_some e s (Some t) is some = omega (arith, count_ended e.table s t (e.sound.each s t is).session is)

sealed_some : (m : Memory) (o : Option TransactionState) → SealsAlone m o → IsSome o
sealed_some m None alone = absurd alone
sealed_some m (Some t) alone = refl

pending_one : (active acked sealed : ℕ) → acked < sealed → 1 ≤ kept_entries active acked sealed
pending_one active acked sealed less = grind (arith, nat_tests)

-- there is room for the entry of one of them
pub ready_one : (e : Engine) (history : List Entry) (event : Event) → IsReady (memory e) history event → 1 ≤ entries_kept (memory e) history
ready_one e history (Abort s) ready = omega (arith, active_some e s (transaction_of e.table s) refl ready)
ready_one e history (Seal s) ready = omega (arith, active_some e s (transaction_of e.table s) refl (sealed_some (memory e) (transaction_of e.table s) ready))
ready_one e history Force ready = pending_one (active_count e.table) (acknowledged history) e.sealed ready
ready_one e history (Begin s) ready = absurd ready
ready_one e history (Root s h) ready = absurd ready
ready_one e history (New s h len) ready = absurd ready
ready_one e history (Put s h i v) ready = absurd ready
ready_one e history (Clear s h i) ready = absurd ready
ready_one e history (Link s h i h2) ready = absurd ready
ready_one e history (Drop s h) ready = absurd ready
ready_one e history (Get s h i h2) ready = absurd ready
ready_one e history (Same s h h2) ready = absurd ready
ready_one e history (Len s h) ready = absurd ready
ready_one e history Flip ready = absurd ready
ready_one e history Scan ready = absurd ready
ready_one e history (Flush p) ready = absurd ready

acked_with : (history : List Entry) (event : Event) (reply : Reply) → acknowledged (history ++ record { event = event; reply = reply } ∷ []) ≡ (account_after (account history) (record { event = event; reply = reply })).acknowledged
acked_with history event reply = ap (λ (a : Account). a.acknowledged) (account-append history (record { event = event; reply = reply }))

-- and it leaves enough for the others
pub ready_left : (old new : Memory) (history : List Entry) (event : Event) (reply : Reply) → IsReady old history event → Ends old new event reply
    → entries_kept new (history ++ record { event = event; reply = reply } ∷ []) + 1 ≤ entries_kept old history
ready_left old new history (Abort s) reply ready ends =
    let is = ends ready in
    let acked : acknowledged (history ++ record { event = Abort s; reply = reply } ∷ []) ≡ acknowledged history =
    acked_with history (Abort s) reply ∙ ap (λ (r : Reply). (account_after (account history) (record { event = Abort s; reply = r })).acknowledged) is.0 in
    let sealed : new.sealed ≡ old.sealed = omega (arith, is.1.sealed) in
    let less = some_ended (active_count old.table) (acknowledged history) old.sealed (active_count new.table) is.1.active in
    let all : entries_kept new (history ++ record { event = Abort s; reply = reply } ∷ []) ≡ kept_entries (active_count new.table) (acknowledged history) old.sealed = λ i. kept_entries (active_count new.table) (acked i) (sealed i) in
    omega (arith, less, all)
ready_left old new history (Seal s) reply ready ends =
    let is = ends ready in
    let acked : acknowledged (history ++ record { event = Seal s; reply = reply } ∷ []) ≡ acknowledged history =
    acked_with history (Seal s) reply ∙ ap (λ (r : Reply). (account_after (account history) (record { event = Seal s; reply = r })).acknowledged) is.0 in
    let less = some_sealed (active_count old.table) (acknowledged history) old.sealed (active_count new.table) is.1.active in
    let all : entries_kept new (history ++ record { event = Seal s; reply = reply } ∷ []) ≡ kept_entries (active_count new.table) (acknowledged history) (old.sealed + 1) = λ i. kept_entries (active_count new.table) (acked i) (is.1.sealed i) in
    omega (arith, less, all)
ready_left old new history Force reply ready ends =
    let acked : acknowledged (history ++ record { event = Force; reply = reply } ∷ []) ≡ max (acknowledged history) old.sealed =
    acked_with history Force reply ∙ ap (λ (r : Reply). (account_after (account history) (record { event = Force; reply = r })).acknowledged) ends.0 in
    let less = all_acked (active_count old.table) (acknowledged history) old.sealed ready in
    let all : entries_kept new (history ++ record { event = Force; reply = reply } ∷ []) ≡ kept_entries (active_count old.table) (max (acknowledged history) old.sealed) old.sealed = λ i. kept_entries (active_count (ends.1 i)) (acked i) (ends.2 i) in
    omega (arith, less, all)
ready_left old new history (Begin s) reply ready ends = absurd ready
ready_left old new history (Root s h) reply ready ends = absurd ready
ready_left old new history (New s h len) reply ready ends = absurd ready
ready_left old new history (Put s h i v) reply ready ends = absurd ready
ready_left old new history (Clear s h i) reply ready ends = absurd ready
ready_left old new history (Link s h i h2) reply ready ends = absurd ready
ready_left old new history (Drop s h) reply ready ends = absurd ready
ready_left old new history (Get s h i h2) reply ready ends = absurd ready
ready_left old new history (Same s h h2) reply ready ends = absurd ready
ready_left old new history (Len s h) reply ready ends = absurd ready
ready_left old new history Flip reply ready ends = absurd ready
ready_left old new history Scan reply ready ends = absurd ready
ready_left old new history (Flush p) reply ready ends = absurd ready

-- such an event needs no memory in the engine
pub ready_needs : (m : Memory) (history : List Entry) (event : Event) → IsReady m history event → NeedsNoMemory m event
ready_needs m history (Abort s) ready = tt
ready_needs m history (Seal s) ready = ready
ready_needs m history Force ready = tt
ready_needs m history (Begin s) ready = absurd ready
ready_needs m history (Root s h) ready = absurd ready
ready_needs m history (New s h len) ready = absurd ready
ready_needs m history (Put s h i v) ready = absurd ready
ready_needs m history (Clear s h i) ready = absurd ready
ready_needs m history (Link s h i h2) ready = absurd ready
ready_needs m history (Drop s h) ready = absurd ready
ready_needs m history (Get s h i h2) ready = absurd ready
ready_needs m history (Same s h h2) ready = absurd ready
ready_needs m history (Len s h) ready = absurd ready
ready_needs m history Flip ready = absurd ready
ready_needs m history Scan ready = absurd ready
ready_needs m history (Flush p) ready = absurd ready

-- Where room was made there is room for an entry, and it leaves enough.
pub room_one : (e : Engine) (history : List Entry) (event : Event) (room : ℕ) → entries_kept (memory e) history ≤ room → (65 < room) ⊎ IsReady (memory e) history event → 0 < room
room_one e history event room kept (inl more) = omega arith
room_one e history event room kept (inr ready) = omega (arith, ready_one e history event ready)

pub room_left : (old : Engine) (new : Memory) (history : List Entry) (event : Event) (reply : Reply) (room : ℕ) → entries_kept (memory old) history ≤ room + 1 → (65 < room + 1) ⊎ IsReady (memory old) history event
    → Ends (memory old) new event reply → entries_kept new (history ++ record { event = event; reply = reply } ∷ []) ≤ room
room_left old new history event reply room kept (inl more) ends = omega (arith, entries_few new (history ++ record { event = event; reply = reply } ∷ []))
room_left old new history event reply room kept (inr ready) ends = omega (arith, ready_left (memory old) new history event reply ready ends)

-- an event that runs out of memory had none ready
pub room_lacking : (m new : Memory) (history : List Entry) (event : Event) (room : ℕ) → (NeedsNoMemory m event → ⊥) → (65 < room) ⊎ IsReady m history event → entries_kept new history ≤ room
room_lacking m new history event room lacks (inl more) = omega (arith, entries_few new history)
room_lacking m new history event room lacks (inr ready) = absurd (lacks (ready_needs m history event ready))
