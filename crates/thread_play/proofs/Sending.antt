-- Each worker of a script has events that the pass of its place may send.
use Rattle.std.proofs.Common.{◌≡◌, ◌+◌, ◌<◌, ◌≤◌, ◌==◌, ◌++◌, ℕ, zero, suc, true, false, List, [], ◌∷◌, length, cond, filter, nat_lt, slice_get, slice_index, Some, refl, sym, ap, ◌∙◌, subst, arith}
use Rattle.std.proofs.lemmas.Bool.{lt-ltb, ltb-false, ltb-true}
use Rattle.std.proofs.lemmas.List.Elements.{All-from_recursion}
use Rattle.std.specs.List.{AllByRecursion}
use Rattle.graph_model.specs.declared.event.Event.{Event}
use Rattle.graph_model.specs.declared.event.Event.TheVariants.{Force}
use Rattle.graph_model.specs.History.{IsSession, AreOfSession, IsOfSession, session_of}
use Rattle.graph_model.specs.Kinds.{Kind, Collects, Saves, kind_of}
use Rattle.heap_workers.specs.declared.worker.Worker.{Worker}
use Rattle.script_text.specs.declared.line.Line.{Line}
use Rattle.script_text.specs.declared.line.Line.TheVariants.{One, Commit}
use Rattle.script_text.specs.Line.{events}
use Rattle.script_workers.specs.Workers.{worker_of, worker_of_kind, worker_of_event, worker_events, IsFor, IsOfScript}
use Rattle.shared_heap.specs.Shared.{MaySendKind, MaySend}
use Rattle.turn_lock.specs.Turning.{numbers_from}
use Rattle.thread_play.specs.Stationed.{label_at, AreWorkers}

-- the label is 0 from the collector's place on
label_none : (i : ℕ) → 32 ≤ i → label_at i ≡ 0
label_none i le =
    elim (nat_lt i 32) as (λ b. nat_lt i 32 ≡ b → cond b (i + 1) 0 ≡ 0) [
      | true ↦ λ is. absurd (let lt : i < 32 = ltb-true i 32 is in omega arith)
      | false ↦ λ is. refl
    ] refl

label_session : (i : ℕ) → i < 32 → label_at i ≡ i + 1
label_session i lt = ap (λ b. cond b (i + 1) 0) (lt-ltb i 32 lt)

-- the labels as the program lists them
session_at : (rest : List ℕ) (n low i : ℕ) → i < n → slice_index (numbers_from low n ++ rest) i ≡ low + i
session_at rest zero low i lt = absurd (omega arith)
session_at rest (suc n) low zero lt = omega arith
session_at rest (suc n) low (suc i) lt = omega (arith, session_at rest n (suc low) i (omega arith))

none_at : (n low i : ℕ) → n ≤ i → slice_index (numbers_from low n ++ 0 ∷ 0 ∷ []) i ≡ 0
none_at zero low zero le = refl
none_at zero low (suc zero) le = refl
none_at zero low (suc (suc i)) le = refl
none_at (suc n) low zero le = absurd (omega arith)
none_at (suc n) low (suc i) le = none_at n (suc low) i (omega arith)

pub labels_at : (i : ℕ) → slice_index (numbers_from 1 32 ++ 0 ∷ 0 ∷ []) i ≡ label_at i
labels_at i =
    elim (nat_lt i 32) as (λ b. nat_lt i 32 ≡ b → slice_index (numbers_from 1 32 ++ 0 ∷ 0 ∷ []) i ≡ cond b (i + 1) 0) [
      | true ↦ λ is. omega (arith, session_at (0 ∷ 0 ∷ []) 32 1 i (ltb-true i 32 is))
      | false ↦ λ is. none_at 32 1 i (ltb-false i 32 is)
    ] refl

session_sent : (i s : ℕ) → s ≡ i + 1 → IsSession s → IsSession (label_at i) × (s ≡ label_at i)
session_sent i s own session =
    let is : s ≡ label_at i = own ∙ sym (label_session i (omega (arith, own, session.1))) in
    (subst IsSession is session, is)

-- an event that a worker makes is one that the pass of its place may send
may_send : (i : ℕ) (event : Event) → IsFor (i + 1) event → IsOfSession event → MaySend (label_at i) event
may_send i Force own session = tt
may_send i event own session = by (kind_of event) (session_of event) own session
  where
    by : (kind : Kind) (s : ℕ) → worker_of_kind kind s ≡ i + 1 → AreOfSession s kind → MaySendKind (label_at i) kind s
    by Collects s own session = label_none i (omega (arith, own))
    by Saves s own session = label_none i (omega (arith, own))
    by kind s own session = session_sent i s own session

may_send_all : (i : ℕ) (made : List Event) → AllByRecursion (IsFor (i + 1)) made → AllByRecursion IsOfSession made → AllByRecursion (MaySend (label_at i)) made
may_send_all i [] own sessions = tt
may_send_all i (event ∷ made) own sessions = (may_send i event own.0 sessions.0, may_send_all i made own.1 sessions.1)

-- the events of one worker are among those of the script
worker_sessions : (number : ℕ) (lines : List Line) → AllByRecursion IsOfSession (events lines) → AllByRecursion IsOfSession (worker_events number lines)
worker_sessions number [] sessions = tt
worker_sessions number (One event ∷ lines) sessions =
    elim (worker_of_event event == number) as (λ b. AllByRecursion IsOfSession (events (cond b (One event ∷ filter (λ line. worker_of line == number) lines) (filter (λ line. worker_of line == number) lines)))) [
      | true ↦ (sessions.0, worker_sessions number lines sessions.1)
      | false ↦ worker_sessions number lines sessions.1
    ]
worker_sessions number (Commit s ∷ lines) sessions =
    elim (s == number) as (λ b. AllByRecursion IsOfSession (events (cond b (Commit s ∷ filter (λ line. worker_of line == number) lines) (filter (λ line. worker_of line == number) lines)))) [
      | true ↦ (sessions.0, (tt, worker_sessions number lines sessions.1.1))
      | false ↦ worker_sessions number lines sessions.1.1
    ]

pub are_workers : (tries : ℕ) (lines : List Line) (workers : List Worker) → length workers ≡ 34 → ((i : ℕ) (worker : Worker) → slice_get workers i ≡ Some worker → IsOfScript tries lines (i + 1) worker)
    → AllByRecursion IsOfSession (events lines) → AreWorkers workers
are_workers tries lines workers count each sessions = record {
  count = count;
  each = λ i worker at. let of = each i worker at in
      All-from_recursion (MaySend (label_at i)) worker.events.items
      (may_send_all i worker.events.items of.own (subst (AllByRecursion IsOfSession) (sym of.events_are) (worker_sessions (i + 1) lines sessions)));
}
