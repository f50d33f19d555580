use Rattle.std.proofs.Common.{◌-◌, refl, arith}
use Rattle.std.proofs.lemmas.List.{get_or_read_under}
use Rattle.page_cache.proofs.DirtyLaws.{lists_less}
use Rattle.page_cache.proofs.dirty.DirtyPages.remove.Goals as goal

pub returns-clause-removed : goal.returns-clause-removed
returns-clause-removed c before after is dirty clean others =
    let list = c.args.self.now in
    let last = c.index-last.result.now in
    let place = c.index-place.result.now in
    let below = list.below (list.count - 1) (omega (arith, c.requires.place)) in
    let last_is = get_or_read_under list.listed.items (list.count - 1) list.listed.len last 0 c.index-last.ensures (omega (arith, c.requires.place, list.within)) (omega arith) in
    let place_is = get_or_read_under list.places.items c.args.p list.places.len place 0 c.index-place.ensures c.requires.page (omega arith) in
    lists_less before after list _ c.args.p refl c.requires.page is others place last (omega (arith, c.requires.place))
    last_is place_is refl refl
    (omega (arith, place_is, c.requires.place, list.within)) (omega (arith, last_is, below)) dirty clean
