-- A step answers an end as one that is done, if there is something to end.
use Rattle.std.proofs.Common.{inl, inr, ⊎_elim, [], Option, refl, ap, ◌∙◌}
use Rattle.graph_model.specs.declared.event.Event.{Event}
use Rattle.graph_model.specs.declared.reply.Refusal.{Refusal}
use Rattle.graph_model.specs.declared.reply.Reply.{Reply}
use Rattle.graph_model.specs.Plain.{reply_of}
use Rattle.heap_model.specs.Core.{Core, IsStep, granted_by}
use Rattle.core_laws.specs.Valid.{IsReached}
use Rattle.limit_laws.proofs.LogRoom.Ends.{ends_law}
use Rattle.limit_laws.specs.Room.{IsEnd}
use Rattle.heap_core.specs.Ending.{EndsAsTold}

pub ends_as_told : (d next : Core) (event : Event) (answered : Reply) → IsReached d → IsEnd d event → IsStep d event answered next → EndsAsTold d event answered
ends_as_told d next event answered reached end step = ⊎_elim
    (λ whole. inl (whole.0 ∙ ap (λ (o : Option Refusal). reply_of o (granted_by d event)) (ends_law d d [] event reached tt refl end)))
    (λ cut. inr cut.0)
    step
