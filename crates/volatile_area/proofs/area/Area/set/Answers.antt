use Rattle.volatile_area.proofs.Kept.{kept_with_field}
use Rattle.volatile_area.proofs.area.Area.set.Goals as goal

pub invariant_of-self : goal.invariant_of-self
invariant_of-self c =
    kept_with_field c.self.inside.starts.items _ c.args.self.now c.args.object c.args.field c.args.word c.self.invariant c.self.view_is c.requires.there c.requires.meant
