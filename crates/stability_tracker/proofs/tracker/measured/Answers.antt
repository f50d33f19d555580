-- Each object that is measured is one of those.
use Rattle.std.proofs.Common.{◌≡◌, ◌++◌, ◌∷◌, ℕ, List, ap, sym, ◌∙◌, subst}
use Rattle.std.specs.Prelude.{Contains}
use Rattle.std.proofs.lemmas.List.Elements.{All-contains, Contains-append_right}
use Rattle.object_layout.proofs.WalkLaws.{Contains-head}
use Rattle.volatile_area.specs.Area.{starts_of}
use Rattle.stability_tracker.proofs.tracker.measured.Goals as goal

pub length-requires : goal.length-requires
length-requires c =
    let object = c.in-Some.object.now in
    let so_far = c.loop-object.indices.items in
    let keys : so_far ++ object ∷ c.next.new.self ≡ c.args.objects.now.keys = ap (λ xs. so_far ++ xs) (sym c.in-Some.ensures.steps) ∙ c.loop-object.invariant.split in
    let Has : List ℕ → Type 0 = λ xs. Contains xs object in
    All-contains (Contains (starts_of c.args.volatile.now)) c.args.objects.now.keys object c.requires.there
    (subst Has keys (Contains-append_right so_far (object ∷ c.next.new.self) object (Contains-head object c.next.new.self)))
