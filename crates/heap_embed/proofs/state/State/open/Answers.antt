use Rattle.std.proofs.Common.{sym, ◌∙◌, refl, inr}
use Rattle.heap_embed.proofs.Answering.{not_done}
use Rattle.heap_embed.proofs.state.State.open.Goals as goal

pub returns-in-Err-open-clause-opened : goal.returns-in-Err-open-clause-opened
returns-in-Err-open-clause-opened c is = absurd (not_done c.in-Err-open.e (sym c.from.ensures ∙ is))

pub returns-in-Err-open-clause-refused : goal.returns-in-Err-open-clause-refused
returns-in-Err-open-clause-refused c not =
    inr (record {
      disk = c.in-Ok.disk.disk;
      handed = c.in-Ok.ensures.hands;
      closed = c.in-Err-open.disk;
      now_closed = refl;
      error = c.in-Err-open.e;
      says = c.from.ensures;
      image = c.in-Err-open.ensures.refused;
    })
