use Rattle.std.proofs.Common.{◌<◌, sym, subst}
use Rattle.std.proofs.lemmas.Bool.{lt-ltb}
use Rattle.heap_engine.proofs.Room.{base_below}
use Rattle.heap_engine.proofs.engine.Engine.root.Goals as goal

pub set_handle-requires : goal.set_handle-requires
set_handle-requires c = lt-ltb c.base.result 2097152 (subst (λ n. n < 2097152) (sym c.base.ensures.base) (base_below _ c.base.ensures.sound))
