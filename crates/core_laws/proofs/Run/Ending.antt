-- Laws of the events that end a run.
use Rattle.std.proofs.Common.{◌≡◌, ◌≢◌, inl, inr, ℕ, zero, suc, ◌+◌, ◌≤◌, List, [], ◌∷◌, ◌++◌, length, Option, Some, None, refl, sym, ap, ◌∙◌, subst, arith, length-append}
use Rattle.std.specs.List.{AllByRecursion}
use Rattle.std.proofs.lemmas.Bool.{cases_eq}
use Rattle.graph_model.specs.declared.event.Event.{Event}
use Rattle.graph_model.specs.declared.event.Event.TheVariants.{Abort, Force}
use Rattle.graph_model.specs.declared.reply.Entry.{Entry}
use Rattle.graph_model.specs.declared.reply.Refusal.{Refusal}
use Rattle.graph_model.specs.declared.reply.Reply.TheVariants.{Aborted}
use Rattle.graph_model.specs.Transaction.{Transaction}
use Rattle.graph_model.specs.History.{Account, AreInSessions, IsSession, account, account_after, session_of, IsOfSession}
use Rattle.graph_model.proofs.Runs.History.{account-append}
use Rattle.graph_model.specs.Plain.{call_refusal, call_conflict, model_refusal, first_of_two, reply_of}
use Rattle.log_records.specs.declared.Record.{Record}
use Rattle.log_machine.proofs.ListLaws.{AllByRecursion-append}
use Rattle.heap_model.specs.Core.{Core, ground, next_number, room_refusal, words_refusal, log_refusal, core_refusal, granted_by, answer, with_entry, after_refusal, after}
use Rattle.heap_model.proofs.Step.Calls.{after_events-append}
use Rattle.heap_model.proofs.Step.Room.{forced-with_batch}
use Rattle.heap_model.proofs.Run.Calls.{after_history}
use Rattle.heap_model.specs.CoreRuns.{after_events}
use Rattle.heap_model.specs.Ending.{abort_of, force_of, aborting, forcing, ending, all_events}
use Rattle.core_laws.specs.Active.{active_in}
use Rattle.core_laws.proofs.Run.Aborting.{force_other, after_other, events_other, aborts, aborts_same, abort_all, aborts_all, aborting_until, until_last, until_then}
use Rattle.core_laws.specs.Ended.{IsUnfailed, AreGranted, HasEnded}
use Rattle.core_laws.proofs.Run.Calls.{reached_after, unfailed_after, reached_events, unfailed_events, valid_events}
use Rattle.core_laws.proofs.Run.Events.{force_granted}
use Rattle.core_laws.proofs.Sessions.Actives.{active_same}
use Rattle.core_laws.proofs.Step.Sound.{sound_valid}
use Rattle.core_laws.proofs.Step.Events.{unfailed_refusal, log_abort}
use Rattle.core_laws.specs.Valid.{IsReached}

-- How many they are.

abort_few : (s : ℕ) (o : Option Transaction) → length (abort_of s o) ≤ 1
abort_few s None = omega arith
abort_few s (Some t) = omega arith

aborts_few : (c : Core) (from n : ℕ) → length (aborts c from n) ≤ n
aborts_few c from zero = omega arith
aborts_few c from (suc n) =
    let all = length-append (abort_of from (active_in c from)) (aborts c (from + 1) n) in
    omega (arith, all, abort_few from (active_in c from), aborts_few c (from + 1) n)

force_few : (waiting : List Record) → length (force_of waiting) ≤ 1
force_few [] = omega arith
force_few (r ∷ rs) = omega arith

-- one for each session and a force at most
pub ending_few : (c : Core) → length (ending c) ≤ 33
ending_few c =
    let d = after_events c (aborting c) in
    let same = ap (λ (l : List Event). length l) (until_last c) in
    omega (arith, same, aborts_few c 1 32, force_few d.pending, length-append (aborting c) (forcing d))

-- so there are at most 33 more of them than were asked for
pub all_few : (stop : Option ℕ) (c : Core) (events : List Event) → length (all_events stop c events) ≤ length events + 33
all_few None c events = omega (arith, length-append events (ending (after_events c events)), ending_few (after_events c events))
all_few (Some n) c events = omega arith

-- What they call.

-- Of which sessions they are.

force_of_session : (waiting : List Record) → AllByRecursion IsOfSession (force_of waiting)
force_of_session [] = tt
force_of_session (r ∷ rs) = (tt, tt)

-- the aborts so far are of sessions
pub until_of_session : (n : ℕ) (c : Core) → n ≤ 32 → AllByRecursion IsOfSession (aborting_until n c)
until_of_session n c le = aborts_all IsOfSession c 1 n (λ s low high. (low, omega arith))

-- so are all of them
pub aborting_of_session : (c : Core) → AllByRecursion IsOfSession (aborting c)
aborting_of_session c = subst (AllByRecursion IsOfSession) (until_last c) (until_of_session 32 c (omega arith))

-- and all events that end a run
pub ending_of_session : (c : Core) → AllByRecursion IsOfSession (ending c)
ending_of_session c =
    let d = after_events c (aborting c) in
    AllByRecursion-append IsOfSession (aborting c) (forcing d) (aborting_of_session c) (force_of_session d.pending)

-- so are all of them, if those that were asked for are
pub all_of_session : (stop : Option ℕ) (c : Core) (events : List Event) → AllByRecursion IsOfSession events → AllByRecursion IsOfSession (all_events stop c events)
all_of_session None c events all = AllByRecursion-append IsOfSession events (ending (after_events c events)) all (ending_of_session (after_events c events))
all_of_session (Some n) c events all = all

-- That they are granted.

-- an active transaction may be aborted, whatever the others do
pub abort_granted : (c : Core) (s : ℕ) (t : Transaction) → IsReached c → IsUnfailed c → active_in c s ≡ Some t → core_refusal c (Abort s) ≡ None
abort_granted c s t reached unfailed some =
    let a = account c.history in
    let log = log_abort c s t (sound_valid c reached.sound unfailed) reached.locked some in
    let asks : model_refusal (next_number c) c.g0 a (Abort s) ≡ None =
    ap (λ (o : Option Transaction). first_of_two (call_refusal c.g0 a o (Abort s)) (call_conflict c.g0 a o (Abort s))) some in
    let room : words_refusal c (Abort s) ≡ None = ap (λ (o : Option Transaction). room_refusal (ground c) c.g0 a o (Abort s)) some in
    unfailed_refusal c (Abort s) unfailed
    ∙ ap (λ (o : Option Refusal). first_of_two o (first_of_two (words_refusal c (Abort s)) (log_refusal c (Abort s)))) asks
    ∙ ap (λ (o : Option Refusal). first_of_two o (log_refusal c (Abort s))) room
    ∙ log

-- and leaves its session without one
pub abort_idle : (c : Core) (s : ℕ) (t : Transaction) → IsReached c → IsUnfailed c → active_in c s ≡ Some t → active_in (after c (Abort s)) s ≡ None
abort_idle c s t reached unfailed some =
    let a = account c.history in
    let entry : Entry = record { event = Abort s; reply = answer c (Abort s) } in
    ap (λ (l : List Entry). (account l).active s) (after_history c (Abort s))
    ∙ ap (λ (b : Account). b.active s) (account-append c.history entry)
    ∙ ap (λ (o : Option Refusal). (account_after a (record { event = Abort s; reply = reply_of o Aborted })).active s) (abort_granted c s t reached unfailed some)
    ∙ active_same a.active s None

-- events that are granted, one after another
pub granted_append : (c : Core) (before behind : List Event) → AreGranted c before → AreGranted (after_events c before) behind → AreGranted c (before ++ behind)
granted_append c [] behind first second = second
granted_append c (event ∷ before) behind first second = (first.0, granted_append (after c event) before behind first.1 second)

granted_from : (n s : ℕ) (o : Option Transaction) (c : Core) → active_in c s ≡ o → 1 ≤ s → s + suc n ≤ 33 → IsReached c → IsUnfailed c
    → ((d : Core) → IsReached d → IsUnfailed d → AreGranted d (aborts d (s + 1) n)) → AreGranted c (abort_of s o ++ aborts c (s + 1) n)
granted_from n s None c is low high reached unfailed rest = rest c reached unfailed
granted_from n s (Some t) c is low high reached unfailed rest =
    let one : IsOfSession (Abort s) = (low, omega arith) in
    let d = after c (Abort s) in
    let same = aborts_same c d (s + 1) n (λ r more. after_other c (Abort s) r (λ equal. omega arith)) in
    (abort_granted c s t reached unfailed is, subst (AreGranted d) same (rest d (reached_after c (Abort s) reached one) (unfailed_after c (Abort s) reached unfailed one)))

aborts_granted : (n s : ℕ) (c : Core) → 1 ≤ s → s + n ≤ 33 → IsReached c → IsUnfailed c → AreGranted c (aborts c s n)
aborts_granted zero s c low high reached unfailed = tt
aborts_granted (suc n) s c low high reached unfailed =
    granted_from n s (active_in c s) c refl low high reached unfailed (λ d r u. aborts_granted n (s + 1) d (omega arith) (omega arith) r u)

force_now : (c : Core) (waiting : List Record) → IsReached c → IsUnfailed c → AreGranted c (force_of waiting)
force_now c [] reached unfailed = tt
force_now c (r ∷ rs) reached unfailed = (force_granted c (sound_valid c reached.sound unfailed), tt)

-- all aborts that end a run are granted
pub aborting_granted : (c : Core) → IsReached c → IsUnfailed c → AreGranted c (aborting c)
aborting_granted c reached unfailed = subst (AreGranted c) (until_last c) (aborts_granted 32 1 c (omega arith) (omega arith) reached unfailed)

-- and so are all events that end a run
pub ending_granted : (c : Core) → IsReached c → IsUnfailed c → AreGranted c (ending c)
ending_granted c reached unfailed =
    let d = after_events c (aborting c) in
    granted_append c (aborting c) (forcing d) (aborting_granted c reached unfailed)
    (force_now d d.pending (reached_events c (aborting c) reached (aborting_of_session c)) (unfailed_events c (aborting c) reached unfailed (aborting_of_session c)))

-- What they leave.

abort_of_idle : (c : Core) (s : ℕ) (o : Option Transaction) → active_in c s ≡ o → IsReached c → IsUnfailed c → active_in (after_events c (abort_of s o)) s ≡ None
abort_of_idle c s None is reached unfailed = is
abort_of_idle c s (Some t) is reached unfailed = abort_idle c s t reached unfailed is

-- the sessions that were aborted so far have no transaction
pub until_idle : (n : ℕ) (c : Core) → n ≤ 32 → IsReached c → IsUnfailed c → (s : ℕ) → 1 ≤ s → s ≤ n → active_in (after_events c (aborting_until n c)) s ≡ None
until_idle zero c le reached unfailed s low high = absurd (omega arith)
until_idle (suc n) c le reached unfailed s low high =
    let all = until_of_session n c (omega arith) in
    let d = after_events c (aborting_until n c) in
    let last = n + 1 in
    let more = abort_of last (active_in d last) in
    let one : suc n ≡ n + 1 = omega arith in
    let steps : after_events c (aborting_until (suc n) c) ≡ after_events d more =
    ap (λ (k : ℕ). after_events c (aborting_until k c)) one ∙ ap (after_events c) (until_then n c) ∙ after_events-append c (aborting_until n c) more in
    ap (λ (x : Core). active_in x s) steps ∙ elim (cases_eq s last) [
      | inl same ↦
          let own = abort_of_idle d last (active_in d last) refl (reached_events c (aborting_until n c) reached all) (unfailed_events c (aborting_until n c) reached unfailed all) in
          subst (λ (r : ℕ). active_in (after_events d more) r ≡ None) (sym same) own
      | inr other ↦
          events_other d more s (abort_all (λ e. s ≢ session_of e) last (active_in d last) other)
          ∙ until_idle n c (omega arith) reached unfailed s low (omega arith)
    ]

within : (a : Account) (s : ℕ) (o : Option Transaction) → a.active s ≡ o → AreInSessions a → (IsSession s → o ≡ None) → o ≡ None
within a s None is all idle = refl
within a s (Some t) is all idle = idle (all s t is)

-- no session has one after all of them
pub aborting_leaves : (c : Core) → IsReached c → IsUnfailed c → (s : ℕ) → active_in (after_events c (aborting c)) s ≡ None
aborting_leaves c reached unfailed s =
    let d = after_events c (aborting c) in
    let valid = valid_events c (aborting c) reached unfailed (aborting_of_session c) in
    within (account d.history) s (active_in d s) refl valid.in_sessions (λ session.
    let low = session.0 in
    let high = session.1 in
    subst (λ (l : List Event). active_in (after_events c l) s ≡ None) (until_last c) (until_idle 32 c (omega arith) reached unfailed s low high))

forced_all : (c : Core) (o : Option Refusal) → o ≡ None → (with_entry (after_refusal o c Force) Force (reply_of o (granted_by c Force))).pending ≡ []
forced_all c None is = ap (λ (x : Core). x.pending) (forced-with_batch c)
forced_all c (Some why) is = cc

-- a force leaves no pending record
pub force_leaves : (c : Core) → IsReached c → IsUnfailed c → (after c Force).pending ≡ []
force_leaves c reached unfailed = forced_all c (core_refusal c Force) (force_granted c (sound_valid c reached.sound unfailed))

force_idle : (c : Core) (waiting : List Record) → ((s : ℕ) → active_in c s ≡ None) → (s : ℕ) → active_in (after_events c (force_of waiting)) s ≡ None
force_idle c [] idle s = idle s
force_idle c (r ∷ rs) idle s = force_other c s ∙ idle s

force_settles : (c : Core) (waiting : List Record) → c.pending ≡ waiting → IsReached c → IsUnfailed c → (after_events c (force_of waiting)).pending ≡ []
force_settles c [] is reached unfailed = is
force_settles c (r ∷ rs) is reached unfailed = force_leaves c reached unfailed

-- the events that end a run leave it so
pub ending_ends : (c : Core) → IsReached c → IsUnfailed c → HasEnded (after_events c (ending c))
ending_ends c reached unfailed =
    let all = aborting_of_session c in
    let d = after_events c (aborting c) in
    subst HasEnded (sym (after_events-append c (aborting c) (forcing d))) (record {
      idle = force_idle d d.pending (aborting_leaves c reached unfailed);
      settled = force_settles d d.pending refl (reached_events c (aborting c) reached all) (unfailed_events c (aborting c) reached unfailed all);
    })
