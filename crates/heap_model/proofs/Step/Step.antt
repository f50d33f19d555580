-- Why a core refuses an event is no fault of the disk.
use Rattle.std.proofs.Common.{ℕ, ◌-◌, ◌*◌, Bool, true, false, cond, Option, Some, None}
use Rattle.graph_model.specs.declared.event.Event.{Event}
use Rattle.graph_model.specs.declared.event.Event.TheVariants.{New, Seal, Flush}
use Rattle.graph_model.specs.declared.reply.Refusal.{Refusal}
use Rattle.graph_model.specs.declared.reply.Refusal.TheVariants.{NoSuchPage, VolatileFull, Exhausted, LogFull}
use Rattle.graph_model.specs.Graph.{Graph}
use Rattle.graph_model.specs.Transaction.{Transaction}
use Rattle.graph_model.specs.History.{Account, account, session_of}
use Rattle.graph_model.specs.Plain.{view, model_refusal, first_of_two, refusal_of}
use Rattle.graph_model.proofs.Refusals.Plain.{HasNoFault, model_no_fault}
use Rattle.log_machine.specs.Machine.{owed, State}
use Rattle.heap_model.specs.Core.{Core, Ground, ground, next_number, used, need, space_refusal, seal_need, page_refusal, room_refusal, words_refusal, log_refusal, core_refusal}

full_no_fault : (b : Bool) (used more kept : ℕ) → HasNoFault (cond b (Some (LogFull used more kept)) None)
full_no_fault true used more kept = tt
full_no_fault false used more kept = tt

area_no_fault : (b : Bool) (used : ℕ) → HasNoFault (cond b (Some (VolatileFull used)) None)
area_no_fault true used = tt
area_no_fault false used = tt

space_no_fault : (b : Bool) (need free kept : ℕ) → HasNoFault (cond b (Some (Exhausted need free kept)) None)
space_no_fault true need free kept = tt
space_no_fault false need free kept = tt

state_no_fault : (o : Option State) (need : ℕ) → HasNoFault (space_refusal o need)
state_no_fault None need = tt
state_no_fault (Some s) need = space_no_fault _ need (64 * s.pages - s.used) (owed s)

room_no_fault : (g : Ground) (g0 : Graph) (a : Account) (o : Option Transaction) (event : Event) → HasNoFault (room_refusal g g0 a o event)
room_no_fault g g0 a (Some t) (New s h len) = area_no_fault _ _
room_no_fault g g0 a (Some t) (Seal s) = state_no_fault g.state (seal_need g t.number (view g0 a t))
room_no_fault g g0 a o event = tt

page_no_fault : (b : Bool) → HasNoFault (cond b None (Some NoSuchPage))
page_no_fault true = tt
page_no_fault false = tt

pages_no_fault : (pages : ℕ) (event : Event) → HasNoFault (page_refusal pages event)
pages_no_fault pages (Flush p) = page_no_fault _
pages_no_fault pages event = tt

first_no_fault : (first second : Option Refusal) → HasNoFault first → HasNoFault second → HasNoFault (first_of_two first second)
first_no_fault None second h k = k
first_no_fault (Some why) second h k = h

failed_no_fault : (failed : Option ℕ) (first second : Option Refusal) → HasNoFault first → HasNoFault second → HasNoFault (refusal_of failed (first_of_two first second))
failed_no_fault None first second h k = first_no_fault first second h k
failed_no_fault (Some entry) first second h k = tt

-- no refusal of the core comes from the disk
pub core_refusal-HasNoFault : (c : Core) (event : Event) → HasNoFault (core_refusal c event)
core_refusal-HasNoFault c event =
    let a = account c.history in
    let plain = model_refusal (next_number c) c.g0 a event in
    failed_no_fault a.failed plain (first_of_two (words_refusal c event) (log_refusal c event))
    (model_no_fault (next_number c) c.g0 a event)
    (first_no_fault (words_refusal c event) (log_refusal c event) (first_no_fault (page_refusal c.pages event) (room_refusal (ground c) c.g0 a (a.active (session_of event)) event) (pages_no_fault c.pages event) (room_no_fault (ground c) c.g0 a (a.active (session_of event)) event)) (full_no_fault _ _ _ _))
