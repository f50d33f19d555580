-- The object's header gives its length.
use Rattle.std.proofs.Common.{◌≡◌, ◌/◌, Some, ◌∙◌, ap, sym, arith}
use Rattle.std.specs.Prelude.{slice_index}
use Rattle.std.proofs.lemmas.List.{get_or_read}
use Rattle.object_layout.proofs.LayoutLaws.{length-field_words}
use Rattle.volatile_area.specs.Area.{area_of}
use Rattle.volatile_area.proofs.Kept.{stands_at, StandsAt}
use Rattle.volatile_area.proofs.area.Area.length.Goals.{After-self, After-index}
use Rattle.volatile_area.proofs.area.Area.length.Goals as goal

-- the object stands in the words that are kept
object : (c : After-self) → StandsAt (area_of c.self.inside.transaction c.self.inside.starts.items c.self.inside.words.items) c.args.self.now c.args.object
object c =
    let kept = c.self.inside in
    stands_at kept.starts.items (area_of kept.transaction kept.starts.items kept.words.items) c.args.self.now c.args.object c.self.invariant c.self.view_is c.requires

-- its header is the word that was read
header : (c : After-index) → c.index.result.now ≡ slice_index c.self.inside.words.items c.args.object
header c =
    let kept = c.self.inside in
    let within = (stands_at kept.starts.items (area_of kept.transaction kept.starts.items kept.words.items) c.args.self.now c.args.object c.self.invariant c.self.view_is c.requires).within in
    get_or_read kept.words.items c.args.object c.index.result.now (omega arith) c.index.ensures 0

pub index-requires : goal.index-requires
index-requires c =
    let within = (object (goal.at.index-requires c).After-self).within in
    omega (arith, c.self.inside.words.ok.0)

pub overflow_cast-result : goal.overflow_cast-result
overflow_cast-result c =
    let small = (object (goal.at.overflow_cast-result c).After-self).small in
    omega (arith, header (goal.at.overflow_cast-result c).After-index)

pub returns-clause-object : goal.returns-clause-object
returns-clause-object c =
    (object (goal.at.returns-clause-object c).After-self).object ∙ ap (λ w. Some (w / 4)) (sym (header (goal.at.returns-clause-object c).After-index))

pub returns-clause-length : goal.returns-clause-length
returns-clause-length c =
    let stands = (object (goal.at.returns-clause-length c).After-self).object in
    ap (λ w. w / 4) (header (goal.at.returns-clause-length c).After-index)
    ∙ sym (length-field_words c.args.self.now.words c.args.object _ stands)

pub returns-clause-few : goal.returns-clause-few
returns-clause-few c =
    let small = (object (goal.at.returns-clause-few c).After-self).small in
    omega (arith, header (goal.at.returns-clause-few c).After-index)
