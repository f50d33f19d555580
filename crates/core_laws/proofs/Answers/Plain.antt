-- A core answers as a plain heap does, one without a log or a disk, unless room is lacking or a page is to be stored: its refusals are those
-- of the plain heap, in their order, and after them those for a page that isn't there and for lack of room.
use Rattle.std.proofs.Common.{◌≡◌, ℕ, Option, None, Some, refl, sym, ap, ◌∙◌}
use Rattle.graph_model.specs.declared.event.Event.{Event}
use Rattle.graph_model.specs.declared.reply.Refusal.{Refusal}
use Rattle.graph_model.specs.History.{account}
use Rattle.graph_model.specs.Plain.{first_of_two, model_refusal, refusal_of, refusal, granted, reply_of, plain_reply}
use Rattle.heap_model.specs.Core.{Core, next_number, words_refusal, log_refusal, core_refusal, granted_by, answer}
use Rattle.core_laws.proofs.Step.Forms.{granted_plain}
use Rattle.core_laws.specs.Theorems.{AnswersTheorem}

first_alone : (o : Option Refusal) → first_of_two o None ≡ o
first_alone None = refl
first_alone (Some why) = refl

-- what is refused stays so with further reasons after the first ones
stays_refused : (failed : Option ℕ) (model room : Option Refusal) (why : Refusal) → refusal_of failed model ≡ Some why → refusal_of failed (first_of_two model room) ≡ Some why
stays_refused None None room why is = cc
stays_refused None (Some first) room why is = is
stays_refused (Some entry) model room why is = is

-- where nothing else is a reason, lack of room is
only_room : (failed : Option ℕ) (model room : Option Refusal) → refusal_of failed model ≡ None → refusal_of failed (first_of_two model room) ≡ room
only_room None None room is = refl
only_room None (Some why) room is = cc
only_room (Some entry) model room is = cc

-- A core answers what a plain heap of the same opening and history answers, where neither memory's spaces nor the log lack room. A flush is
-- answered by what is stored, which a plain heap does not know.
pub answer_plain : AnswersTheorem
answer_plain c event other words log =
    let a = account c.history in
    let model = model_refusal (next_number c) c.g0 a event in
    let same : core_refusal c event ≡ refusal (next_number c) c.g0 a event =
    ap (λ (o : Option Refusal). refusal_of a.failed (first_of_two model (first_of_two o (log_refusal c event)))) words
    ∙ ap (λ (o : Option Refusal). refusal_of a.failed (first_of_two model o)) log
    ∙ ap (refusal_of a.failed) (first_alone model) in
    ap (λ (o : Option Refusal). reply_of o (granted_by c event)) same ∙ ap (reply_of (refusal (next_number c) c.g0 a event)) (granted_plain c event other)

-- What the plain heap refuses the core refuses for the same reason, whether room is lacking or not. That holds for a flush too.
pub refused_plain : (c : Core) (event : Event) (why : Refusal) → refusal (next_number c) c.g0 (account c.history) event ≡ Some why → answer c event ≡ plain_reply c.first c.g0 (account c.history) event
refused_plain c event why is =
    let a = account c.history in
    let model = model_refusal (next_number c) c.g0 a event in
    ap (λ (o : Option Refusal). reply_of o (granted_by c event)) (stays_refused a.failed model (first_of_two (words_refusal c event) (log_refusal c event)) why is)
    ∙ sym (ap (λ (o : Option Refusal). reply_of o (granted (next_number c) c.g0 a event)) is)

-- What the plain heap does not refuse the core refuses only where there is no page that a flush names, or for lack of room: of words
-- first, and then of the log.
pub refused_room : (c : Core) (event : Event) → refusal (next_number c) c.g0 (account c.history) event ≡ None → core_refusal c event ≡ first_of_two (words_refusal c event) (log_refusal c event)
refused_room c event is =
    let a = account c.history in
    only_room a.failed (model_refusal (next_number c) c.g0 a event) (first_of_two (words_refusal c event) (log_refusal c event)) is
