-- The object's header and birth stand in the area.
use Rattle.std.proofs.Common.{◌≡◌, length, ap, arith}
use Rattle.volatile_area.proofs.AreaLaws.{area_object}
use Rattle.sealing.proofs.records.base.Goals as goal

pub bounds-words-at : goal.bounds-words-at
bounds-words-at c =
    let object = area_object c.args.area.now c.args.object c.words.ensures.sound c.requires.there in
    let within = object.1.within in
    let same : length c.words.result.now ≡ length c.args.area.now.words = ap length c.words.ensures.words in
    omega (arith, within, same)

pub bounds-words-at-2 : goal.bounds-words-at-2
bounds-words-at-2 c =
    let object = area_object c.args.area.now c.args.object c.words.ensures.sound c.requires.there in
    let within = object.1.within in
    let same : length c.words-2.result.now ≡ length c.args.area.now.words = ap length c.words-2.ensures.words in
    omega (arith, within, same)
