use Rattle.std.proofs.Common.{arith}
use Rattle.volatile_area.proofs.AreaLaws.{made_few}
use Rattle.volatile_area.proofs.area.Area.made.Goals as goal

pub overflow_cast-result : goal.overflow_cast-result
overflow_cast-result c =
    let few = made_few _ c.self.invariant.sound in
    let words = c.self.invariant.sound.few in
    omega arith
