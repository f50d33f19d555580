-- The aborts that end a run, session by session.
use Rattle.std.proofs.Common.{length, Some, ◌≡◌, ◌≢◌, ℕ, zero, suc, ◌+◌, ◌≤◌, List, [], ◌∷◌, ◌++◌, Option, None, refl, sym, ap, ◌∙◌, arith, append_assoc, ◌<◌, ◌-◌}
use Rattle.std.proofs.lemmas.List.{append-nil}
use Rattle.std.specs.List.{AllByRecursion, flat_map, range_with_len}
use Rattle.graph_model.specs.declared.event.Event.{Event}
use Rattle.graph_model.specs.declared.event.Event.TheVariants.{Seal, Abort, Force}
use Rattle.graph_model.specs.declared.reply.Entry.{Entry}
use Rattle.graph_model.specs.declared.reply.Refusal.{Refusal}
use Rattle.graph_model.specs.Plain.{reply_of}
use Rattle.graph_model.specs.declared.reply.Refusal.TheVariants.{DiskFault, Stopped}
use Rattle.graph_model.specs.declared.reply.Reply.{Reply}
use Rattle.graph_model.specs.declared.reply.Reply.TheVariants.{Begun, Sealed, Aborted, Durable, Flipped, Collecting, Scanned, Collected, Idle, Flushed, Clean, Refused}
use Rattle.graph_model.specs.History.{sessions, Account, account, account_after, session_of, done, answered, cut_short, with_call}
use Rattle.graph_model.proofs.Runs.History.{account-append}
use Rattle.graph_model.specs.Transaction.{Transaction}
use Rattle.heap_model.specs.Core.{core_refusal, Core, answer, after}
use Rattle.heap_model.proofs.Run.Calls.{after_history}
use Rattle.heap_model.specs.CoreRuns.{after_events}
use Rattle.heap_model.specs.Ending.{abort_of, aborting}
use Rattle.log_machine.proofs.ListLaws.{AllByRecursion-append}
use Rattle.core_laws.proofs.Sessions.Actives.{active_other}
use Rattle.core_laws.specs.Active.{active_in}

-- Other sessions.

done_other : (a : Account) (event : Event) (reply : Reply) (r : ℕ) → r ≢ session_of event → (done a event reply).active r ≡ a.active r
done_other a event (Begun n) r other = active_other a.active (session_of event) _ r other
done_other a event (Sealed n) r other = active_other a.active (session_of event) None r other
done_other a event Aborted r other = active_other a.active (session_of event) None r other
done_other a event (Durable n) r other = refl
done_other a event (Flipped objects words) r other = refl
done_other a event Collecting r other = refl
done_other a event (Scanned page objects words) r other = refl
done_other a event (Collected used) r other = refl
done_other a event Idle r other = refl
done_other a event (Flushed page) r other = refl
done_other a event (Clean page) r other = refl
done_other a event (Refused why) r other = refl
done_other a event reply r other = active_other a.active (session_of event) (with_call (a.active (session_of event)) event) r other

cut_other : (a : Account) (event : Event) (r : ℕ) → (cut_short a event).active r ≡ a.active r
cut_other a (Seal s) r = refl
cut_other a event r = refl

answered_other : (a : Account) (event : Event) (reply : Reply) (r : ℕ) → r ≢ session_of event → (answered a event reply).active r ≡ a.active r
answered_other a event (Refused DiskFault) r other = cut_other a event r
answered_other a event (Refused Stopped) r other = cut_other a event r
answered_other a event reply r other = done_other a event reply r other

-- an entry leaves the transactions of all sessions but that of its event
pub entry_other : (a : Account) (e : Entry) (r : ℕ) → r ≢ session_of e.event → (account_after a e).active r ≡ a.active r
entry_other a e r other = answered_other a e.event e.reply r other

-- so does an event, granted or refused
pub after_other : (c : Core) (event : Event) (r : ℕ) → r ≢ session_of event → active_in (after c event) r ≡ active_in c r
after_other c event r other =
    let entry : Entry = record { event = event; reply = answer c event } in
    ap (λ (l : List Entry). (account l).active r) (after_history c event)
    ∙ ap (λ (a : Account). a.active r) (account-append c.history entry)
    ∙ entry_other (account c.history) entry r other

refused_other : (a : Account) (event : Event) (why : Refusal) (r : ℕ) → (answered a event (Refused why)).active r ≡ a.active r
refused_other a event DiskFault r = cut_other a event r
refused_other a event Stopped r = cut_other a event r
refused_other a event why r = refl

forced_other : (a : Account) (o : Option Refusal) (n r : ℕ) → (account_after a (record { event = Force; reply = reply_of o (Durable n) })).active r ≡ a.active r
forced_other a None n r = refl
forced_other a (Some why) n r = refused_other a Force why r

-- a force leaves the transactions of all sessions
pub force_other : (c : Core) (r : ℕ) → active_in (after c Force) r ≡ active_in c r
force_other c r =
    let entry : Entry = record { event = Force; reply = answer c Force } in
    ap (λ (l : List Entry). (account l).active r) (after_history c Force)
    ∙ ap (λ (a : Account). a.active r) (account-append c.history entry)
    ∙ forced_other (account c.history) (core_refusal c Force) (length (account c.history).sealed) r

-- and so do events, one after another
pub events_other : (c : Core) (events : List Event) (r : ℕ) → AllByRecursion (λ e. r ≢ session_of e) events → active_in (after_events c events) r ≡ active_in c r
events_other c [] r others = refl
events_other c (event ∷ events) r others = events_other (after c event) events r others.1 ∙ after_other c event r others.0

-- Aborts.

-- the aborts of that many sessions from this one on, ascending: of those that have a transaction
abbrev pub aborts : Core → ℕ → ℕ → List Event
aborts c from n = flat_map (λ s. abort_of s (active_in c s)) (range_with_len from n)

-- they are what they are where these sessions have these transactions
pub aborts_same : (c d : Core) (from n : ℕ) → ((s : ℕ) → from ≤ s → active_in d s ≡ active_in c s) → aborts d from n ≡ aborts c from n
aborts_same c d from zero same = refl
aborts_same c d from (suc n) same =
    ap (λ o. abort_of from o ++ aborts d (from + 1) n) (same from (omega arith)) ∙ ap (λ l. abort_of from (active_in c from) ++ l) (aborts_same c d (from + 1) n (λ s low. same s (omega arith)))

-- the last of them
pub aborts_last : (c : Core) (from n : ℕ) → aborts c from (suc n) ≡ aborts c from n ++ abort_of (from + n) (active_in c (from + n))
aborts_last c from zero =
    append-nil (abort_of from (active_in c from)) ∙ ap (λ s. abort_of s (active_in c s)) (omega arith)
aborts_last c from (suc n) =
    ap (λ l. abort_of from (active_in c from) ++ l) (aborts_last c (from + 1) n ∙ ap (λ s. aborts c (from + 1) n ++ abort_of s (active_in c s)) (omega arith))
    ∙ sym (append_assoc (abort_of from (active_in c from)) (aborts c (from + 1) n) (abort_of (from + suc n) (active_in c (from + suc n))))

-- so does that of one session, if it has a transaction
pub abort_all : (P : Event → Type 0) (s : ℕ) (o : Option Transaction) → P (Abort s) → AllByRecursion P (abort_of s o)
abort_all P s None p = tt
abort_all P s (Some t) p = (p, tt)

-- what holds of the abort of each of these sessions holds of all of them
pub aborts_all : (P : Event → Type 0) (c : Core) (from n : ℕ) → ((s : ℕ) → from ≤ s → s < from + n → P (Abort s)) → AllByRecursion P (aborts c from n)
aborts_all P c from zero each = tt
aborts_all P c from (suc n) each =
    AllByRecursion-append P (abort_of from (active_in c from)) (aborts c (from + 1) n) (abort_all P from (active_in c from) (each from (omega arith) (omega arith)))
    (aborts_all P c (from + 1) n (λ s low high. each s (omega arith) (omega arith)))

-- What is still to be aborted.

-- the aborts of the sessions from this one on
abbrev pub aborting_from : ℕ → Core → List Event
aborting_from s c = aborts c s (33 - s)

-- What was aborted so far.

-- the aborts of the first n sessions
abbrev pub aborting_until : ℕ → Core → List Event
aborting_until n c = aborts c 1 n

-- of one more session
pub until_next : (n : ℕ) (c : Core) → aborting_until (n + 1) c ≡ aborting_until n c ++ abort_of (n + 1) (active_in c (n + 1))
until_next n c =
    let one : n + 1 ≡ suc n = omega arith in
    ap (aborts c 1) one ∙ aborts_last c 1 n ∙ ap (λ s. aborting_until n c ++ abort_of s (active_in c s)) (omega arith)

-- they are those of all sessions in the end
pub until_last : (c : Core) → aborting_until 32 c ≡ aborting c
unfolding sessions
until_last c = refl

-- they leave the transactions of the others
pub until_active : (n : ℕ) (c : Core) (s : ℕ) → n < s → active_in (after_events c (aborting_until n c)) s ≡ active_in c s
until_active n c s more = events_other c (aborting_until n c) s (aborts_all (λ e. s ≢ session_of e) c 1 n (λ r low high same. omega arith))

-- so the next session aborts if it has a transaction then
pub until_then : (n : ℕ) (c : Core) → aborting_until (n + 1) c ≡ aborting_until n c ++ abort_of (n + 1) (active_in (after_events c (aborting_until n c)) (n + 1))
until_then n c = until_next n c ∙ ap (λ o. aborting_until n c ++ abort_of (n + 1) o) (sym (until_active n c (n + 1) (omega arith)))

rest_of : (c : Core) (from n more : ℕ) → aborts c from (n + more) ≡ aborts c from n ++ aborts c (from + n) more
rest_of c from zero more = let none : zero + more ≡ more = omega arith in ap (aborts c from) none ∙ ap (λ s. aborts c s more) (omega arith)
rest_of c from (suc n) more =
    let first = abort_of from (active_in c from) in
    let next : suc n + more ≡ suc (n + more) = omega arith in
    ap (aborts c from) next
    ∙ ap (λ l. first ++ l) (rest_of c (from + 1) n more ∙ ap (λ s. aborts c (from + 1) n ++ aborts c s more) (omega arith))
    ∙ sym (append_assoc first (aborts c (from + 1) n) (aborts c (from + suc n) more))

-- all aborts are those so far and then those that are still to be made
pub aborting_parts : (n : ℕ) (c : Core) → n ≤ 32 → aborting c ≡ aborting_until n c ++ aborting_from (n + 1) (after_events c (aborting_until n c))
aborting_parts n c le =
    let all : 32 ≡ n + (33 - (n + 1)) = omega arith in
    sym (until_last c)
    ∙ ap (aborts c 1) all
    ∙ rest_of c 1 n (33 - (n + 1))
    ∙ ap (λ l. aborting_until n c ++ l)
    (ap (λ s. aborts c s (33 - (n + 1))) (omega arith)
    ∙ sym (aborts_same c (after_events c (aborting_until n c)) (n + 1) (33 - (n + 1)) (λ s low. until_active n c s (omega arith))))
