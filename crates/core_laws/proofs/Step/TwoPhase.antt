-- Each step of a core refuses conflicts, answers by what the transaction sees, and begins transactions anew: its history is one of plain
-- replies under strict two-phase locking.
use Rattle.std.specs.Prelude.{if◌then◌else◌}
use Rattle.std.proofs.Common.{◌≡◌, ◌≢◌, inl, inr, ℕ, ◌+◌, ◌<◌, ◌≤◌, Bool, true, false, List, [], ◌∷◌, ◌++◌, Option, Some, None, refl, sym, ap, ◌∙◌, subst, arith}
use Rattle.std.specs.List.{Contains}
use Rattle.std.specs.Option.{option_to_list}
use Rattle.std.proofs.lemmas.Option.{same_Some}
use Rattle.std.proofs.lemmas.List.Elements.{Contains-append_cases}
use Rattle.graph_model.specs.declared.event.Event.{Event}
use Rattle.graph_model.specs.declared.event.Event.TheVariants.{Begin, Seal, Abort, Force, Flip, Scan, Flush}
use Rattle.graph_model.specs.declared.reply.Entry.{Entry}
use Rattle.graph_model.specs.declared.reply.Refusal.{Refusal}
use Rattle.graph_model.specs.declared.reply.Refusal.TheVariants.{DiskFault, Stopped}
use Rattle.graph_model.specs.declared.reply.Reply.{Reply}
use Rattle.graph_model.specs.declared.reply.Reply.TheVariants.{Begun, Sealed, Aborted, Durable, Flushed, Clean, Refused}
use Rattle.graph_model.specs.Graph.{Graph}
use Rattle.graph_model.specs.Transaction.{Transaction, IsCall, call}
use Rattle.graph_model.specs.History.{Account, AreInSessions, account, answered, account_after, cut_short, session_of}
use Rattle.graph_model.specs.Replies.{IsCallReply}
use Rattle.graph_model.proofs.Runs.History.{account-append}
use Rattle.graph_model.proofs.Refusals.Busy.{free_law}
use Rattle.graph_model.specs.Locking.{lock_of, busy_holder, IsFree}
use Rattle.graph_model.specs.Plain.{view, event_refusal, busy_with, call_conflict, call_reply, conflict_refusal, first_of_two, model_refusal, refusal_of, reply_of}
use Rattle.graph_model.proofs.Refusals.Plain.{call_reply-IsCallReply, granted-call}
use Rattle.commit_order.proofs.CallLaws.{Contains-option}
use Rattle.commit_order.proofs.OrderLaws.{numbers-append}
use Rattle.commit_order.proofs.PlaceLaws.{EachEntry-append, plain_append, two_phase_append}
use Rattle.commit_order.specs.SerialOrder.{EndsWithFailure, RefusesConflicts, AnswersByView, begun_number, numbers_begun}
use Rattle.heap_spaces.specs.Collection.{Collection}
use Rattle.log_records.specs.declared.Record.{Record}
use Rattle.log_machine.specs.Machine.{State}
use Rattle.heap_model.specs.Collecting.{flip_reply, next_page, scan_reply, scan_reply_in}
use Rattle.heap_model.specs.Core.{Core, ground, next_number, own_records, words_refusal, log_refusal, core_refusal, granted_by, answer, is_dirty, IsCutShort, IsStep}
use Rattle.heap_model.proofs.Run.Calls.{calls-unfailed, failed_refusal, same_step, step_history}
use Rattle.core_laws.proofs.Step.Forms.{call_plain, granted_plain}
use Rattle.core_laws.specs.Valid.{RunsLocked}

-- A step's reply.

-- a reply of a call was not refused
granted_if : (o : Option Refusal) (reply : Reply) → IsCallReply (reply_of o reply) → o ≡ None
granted_if None reply is = refl
granted_if (Some why) reply is = absurd is

none_failed : (failed : Option ℕ) (o : Option Refusal) → refusal_of failed o ≡ None → o ≡ None
none_failed None o is = is
none_failed (Some entry) o is = cc

first_none : (o p : Option Refusal) → first_of_two o p ≡ None → (o ≡ None) × (p ≡ None)
first_none None p is = (refl, is)
first_none (Some why) p is = cc

-- an event that the core does not refuse the model does not
pub model_granted : (c : Core) (event : Event) → core_refusal c event ≡ None
    → (event_refusal (next_number c) c.g0 (account c.history) event ≡ None) × (conflict_refusal c.g0 (account c.history) event ≡ None)
model_granted c event is =
    let a = account c.history in
    let model = model_refusal (next_number c) c.g0 a event in
    let alive = none_failed a.failed (first_of_two model (first_of_two (words_refusal c event) (log_refusal c event))) is in
    let first = first_none model (first_of_two (words_refusal c event) (log_refusal c event)) alive in
    first_none (event_refusal (next_number c) c.g0 a event) (conflict_refusal c.g0 a event) first.0

not_busy : (o : Option ℕ) → busy_with o ≡ None → o ≡ None
not_busy None is = refl
not_busy (Some holder) is = cc

-- a call that gives way to none finds the object free that it needs
pub free_call : (g0 : Graph) (a : Account) (t : Transaction) (event : Event) → AreInSessions a → call_conflict g0 a (Some t) event ≡ None → IsFree g0 a t.number (lock_of (view g0 a t).registers event)
free_call g0 a t event within is =
    let lock = lock_of (view g0 a t).registers event in
    free_law g0 a t.number lock within (not_busy (busy_holder g0 a t.number lock) is)

-- a flush is not answered as a call
flush_no_call : (p : ℕ) (dirty : Bool) → IsCallReply (if dirty then Flushed p else Clean p) → ⊥
flush_no_call p true is = is
flush_no_call p false is = is

-- nor is a flip
flip_no_call : (records : List Record) → IsCallReply (flip_reply records) → ⊥
flip_no_call [] is = is
flip_no_call (r ∷ rs) is = is

-- nor a scan
scan_no_call : (o : Option State) (records : List Record) → IsCallReply (scan_reply o records) → ⊥
scan_no_call None records is = is
scan_no_call (Some s) records is = by s.collection (next_page s.collection) is
  where
    by : (run : Option Collection) (page : Option ℕ) → IsCallReply (scan_reply_in s records run page) → ⊥
    by None page is = is
    by (Some k) None is = is
    by (Some k) (Some page) is = is

-- a granted event that is answered as a call is one
call_of : (c : Core) (event : Event) → IsCallReply (granted_by c event) → IsCall event
call_of c (Begin s) is = is
call_of c (Seal s) is = is
call_of c (Abort s) is = is
call_of c Force is = is
call_of c Flip is = flip_no_call (own_records c Flip) is
call_of c Scan is = scan_no_call (ground c).state (own_records c Scan) is
call_of c (Flush p) is = flush_no_call p (is_dirty c p) is
call_of c event is = tt

same_begun : (n m : ℕ) → Begun n ≡ Begun m → n ≡ m
same_begun n m is = cc

not_begun : (reply : Reply) (n : ℕ) → IsCallReply reply → reply ≢ Begun n
not_begun (Begun m) n never is = never
not_begun reply n call is = cc

flush_not_begun : (p n : ℕ) (dirty : Bool) → (if dirty then Flushed p else Clean p) ≢ Begun n
flush_not_begun p n true is = cc
flush_not_begun p n false is = cc

flip_not_begun : (records : List Record) (n : ℕ) → flip_reply records ≢ Begun n
flip_not_begun [] n is = cc
flip_not_begun (r ∷ rs) n is = cc

scan_not_begun : (o : Option State) (records : List Record) (n : ℕ) → scan_reply o records ≢ Begun n
scan_not_begun None records n is = cc
scan_not_begun (Some s) records n is = by s.collection (next_page s.collection) is
  where
    by : (run : Option Collection) (page : Option ℕ) → scan_reply_in s records run page ≢ Begun n
    by None page is = cc
    by (Some k) None is = cc
    by (Some k) (Some page) is = cc

-- only a begin is answered with a number
begun_next : (c : Core) (event : Event) (n : ℕ) → granted_by c event ≡ Begun n → n ≡ next_number c
begun_next c (Begin s) n is = sym (same_begun (next_number c) n is)
begun_next c (Seal s) n is = cc
begun_next c (Abort s) n is = cc
begun_next c Force n is = cc
begun_next c Flip n is = absurd (flip_not_begun (own_records c Flip) n is)
begun_next c Scan n is = absurd (scan_not_begun (ground c).state (own_records c Scan) n is)
begun_next c (Flush p) n is = absurd (flush_not_begun p n (is_dirty c p) is)
begun_next c event n is =
    let a = account c.history in
    absurd (not_begun (granted_by c event) n (call_reply-IsCallReply c.g0 a (a.active (session_of event)) event) is)

begun_if : (o : Option Refusal) (reply : Reply) (n : ℕ) → reply_of o reply ≡ Begun n → reply ≡ Begun n
begun_if None reply n is = is
begun_if (Some why) reply n is = cc

-- What is required of each entry.

-- a call that was answered was not refused, and found what it needs free
answer_free : (c : Core) (event : Event) → AreInSessions (account c.history) → RefusesConflicts c.g0 c.history (record { event = event; reply = answer c event })
answer_free c event within t own =
    let a = account c.history in
    let alive = granted_if (core_refusal c event) (granted_by c event) own.answered in
    let free = (model_granted c event alive).1 in
    free_call c.g0 a t event within (ap (λ (o : Option Transaction). call_conflict c.g0 a o event) (sym own.active) ∙ free)

-- and had the reply of what its transaction saw
answer_viewed : (c : Core) (event : Event) → AnswersByView c.g0 c.history (record { event = event; reply = answer c event })
answer_viewed c event t own =
    let a = account c.history in
    let reply = granted_by c event in
    let alive = granted_if (core_refusal c event) reply own.answered in
    let same : answer c event ≡ reply = ap (λ (o : Option Refusal). reply_of o reply) alive in
    let is = call_of c event (subst IsCallReply same own.answered) in
    same ∙ granted_plain c event (call_plain event is) ∙ granted-call (next_number c) c.g0 a event is ∙ ap (λ (o : Option Transaction). call_reply c.g0 a o event) own.active

-- a transaction that begins has the next number
answer_begun : (c : Core) (event : Event) (n : ℕ) → answer c event ≡ Begun n → n ≡ next_number c
answer_begun c event n is = begun_next c event n (begun_if (core_refusal c event) (granted_by c event) n is)

-- once the disk has failed or stopped everything is refused for that
answer_failed : (c : Core) (event : Event) → EndsWithFailure c.history (record { event = event; reply = answer c event })
answer_failed c event n failed = ap (λ (o : Option Refusal). reply_of o (granted_by c event)) (failed_refusal c event n failed)

-- The history with one more entry.

-- What an entry adds to a history that runs so.
record IsNext (g0 : Graph) (first : ℕ) (history : List Entry) (e : Entry) : Type 0 where
  locked : RefusesConflicts g0 history e
  answered : AnswersByView g0 history e
  begun : (n : ℕ) → e.reply ≡ Begun n → n ≡ first + (account history).begun
  failed : EndsWithFailure history e

-- what is counted of a history that continues

cut_grows : (a : Account) (event : Event) → a.begun ≤ (cut_short a event).begun
cut_grows a (Seal s) = omega arith
cut_grows a event = omega arith

refused_grows : (a : Account) (event : Event) (why : Refusal) → a.begun ≤ (answered a event (Refused why)).begun
refused_grows a event DiskFault = cut_grows a event
refused_grows a event Stopped = cut_grows a event
refused_grows a event why = omega arith

begun_grows : (a : Account) (event : Event) (reply : Reply) → a.begun ≤ (answered a event reply).begun
begun_grows a event (Begun n) = omega arith
begun_grows a event (Sealed n) = omega arith
begun_grows a event Aborted = omega arith
begun_grows a event (Durable n) = omega arith
begun_grows a event (Flushed page) = omega arith
begun_grows a event (Clean page) = omega arith
begun_grows a event (Refused why) = refused_grows a event why
begun_grows a event reply = omega arith

-- a number that begins is counted
begun_counted : (a : Account) (e : Entry) (n : ℕ) → e.reply ≡ Begun n → (account_after a e).begun ≡ a.begun + 1
begun_counted a e n is = ap (λ (r : Reply). (account_after a (record { event = e.event; reply = r })).begun) is

told_number : (reply : Reply) (n : ℕ) → begun_number reply ≡ Some n → reply ≡ Begun n
told_number (Begun m) n is = ap Begun (same_Some m n is)
told_number reply n is = cc

number_below : (g0 : Graph) (first : ℕ) (history : List Entry) (e : Entry) → RunsLocked g0 first history → IsNext g0 first history e → (n : ℕ)
    → Contains (numbers_begun (history ++ e ∷ [])) n → n < first + (account (history ++ e ∷ [])).begun
number_below g0 first history e runs next n there =
    let a = account history in
    let said : (account (history ++ e ∷ [])).begun ≡ (account_after a e).begun = ap (λ (b : Account). b.begun) (account-append history e) in
    elim (Contains-append_cases (numbers_begun history) (option_to_list (begun_number e.reply)) n (subst (λ ns. Contains ns n) (numbers-append history e) there)) [
      | inl before ↦ omega (arith, runs.begun_below n before, begun_grows a e.event e.reply)
      | inr now ↦
          let is = told_number e.reply n (Contains-option (begun_number e.reply) n now) in
          omega (arith, next.begun n is, begun_counted a e n is)
    ]

-- a history that runs under two-phase locking does so with one more entry
runs_on : (g0 : Graph) (first : ℕ) (history : List Entry) (e : Entry) → RunsLocked g0 first history → IsNext g0 first history e → RunsLocked g0 first (history ++ e ∷ [])
runs_on g0 first history e runs next = record {
  plain = plain_append g0 history e next.answered
      (λ n is. (λ there. absurd (omega (arith, runs.begun_below n there, next.begun n is)), runs.unused n (omega (arith, next.begun n is)))) runs.plain;
  two_phase = two_phase_append g0 history e next.locked runs.two_phase;
  fails = EachEntry-append EndsWithFailure history e runs.fails next.failed;
  begun_below = number_below g0 first history e runs next;
  unused = runs.unused;
}

cut_reply : (c : Core) (event : Event) (reply : Reply) → IsCutShort c event reply → (IsCallReply reply → ⊥) × ((n : ℕ) → reply ≢ Begun n)
cut_reply c event reply cut = elim cut.told [
  | inl is ↦ (λ call. subst IsCallReply is call, λ n begun. let no = sym is ∙ begun in cc)
  | inr is ↦ (λ call. subst IsCallReply is call, λ n begun. let no = sym is ∙ begun in cc)
]

step_next : (c d : Core) (event : Event) (reply : Reply) → AreInSessions (account c.history) → IsStep c event reply d → IsNext c.g0 c.first c.history (record { event = event; reply = reply })
step_next c d event reply within (inl whole) =
    subst (λ (r : Reply). IsNext c.g0 c.first c.history (record { event = event; reply = r })) (sym whole.0)
    (record { locked = answer_free c event within; answered = answer_viewed c event; begun = answer_begun c event; failed = answer_failed c event })
step_next c d event reply within (inr cut) =
    let never = cut_reply c event reply cut.0 in
    record {
      locked = λ t own. absurd (never.0 own.answered);
      answered = λ t own. absurd (never.0 own.answered);
      begun = λ n is. absurd (never.1 n is);
      failed = λ n failed. let alive = calls-unfailed c event cut.0.some in cc;
    }

-- A step leaves a history that runs under strict two-phase locking.
pub step_locked : (c d : Core) (event : Event) (reply : Reply) → AreInSessions (account c.history) → RunsLocked c.g0 c.first c.history → IsStep c event reply d → RunsLocked d.g0 d.first d.history
step_locked c d event reply within runs step =
    let same = same_step c d event reply step in
    let P : Graph → ℕ → Type 0 = λ g n. RunsLocked g n d.history in
    subst (λ g. P g d.first) (sym same.g0) (subst (P c.g0) (sym same.first)
    (subst (RunsLocked c.g0 c.first) (sym (step_history c d event reply step)) (runs_on c.g0 c.first c.history _ runs (step_next c d event reply within step))))
