-- The search of the starts finds exactly the starts.
use Rattle.std.proofs.Common.{Bool, ◌↔◌, sym, subst}
use Rattle.std.specs.Prelude.{Contains, IsTrue}
use Rattle.volatile_area.specs.Area.{starts_of, area_of}
use Rattle.volatile_area.proofs.Kept.{found_start}
use Rattle.volatile_area.proofs.area.Area.is_object.Goals as goal

pub returns : goal.returns
returns c =
    let kept = c.self.inside in
    let Told : Bool → Type 0 = λ b. IsTrue b ↔ Contains (starts_of c.args.self.now) c.args.at in
    subst Told (sym c.is_ok.ensures.value)
    (found_start kept.starts.items (area_of kept.transaction kept.starts.items kept.words.items) c.args.self.now c.deref.result.now c.args.at c.binary_search.result
    c.self.invariant c.self.view_is c.deref.ensures.value c.binary_search.ensures.position)
