use Rattle.std.proofs.Common.{◌/◌, ◌%◌, ℕ, List, length, map, set, ap, sym, subst, ◌∙◌, arith}
use Rattle.std.proofs.lemmas.List.{map-set}
use Rattle.heap_spaces.specs.PageTable.{AreGroups, PageNumbers, numbers_in, rooms_of}
use Rattle.heap_spaces.proofs.GroupLaws.{group-at, group-within, items, pages-length, place-within}
use Rattle.heap_spaces.proofs.TableLaws.{put-at, put-groups, rooms-put}
use Rattle.heap_spaces.proofs.page_table.PageTable.put.Goals as goal

pub index_mut-requires : goal.index_mut-requires
index_mut-requires c =
    let all = c.self.inside.groups.items in
    let table = c.args.self.now in
    let page = c.args.page in
    let within = place-within all table page c.self.view_is c.requires in
    let is = group-at all (page / 64) c.index_mut-group.result.now (group-within all table page c.self.view_is c.requires) c.index_mut-group.ensures.value in
    omega (arith, within, ap (length {A = ℕ}) is)

pub invariant_of-self : goal.invariant_of-self
invariant_of-self c =
    let all = c.self.inside.groups.items in
    let page = c.args.page in
    let n = c.args.number in
    let is = group-at all (page / 64) c.index_mut-group.result.now (group-within all c.args.self.now page c.self.view_is c.requires) c.index_mut-group.ensures.value in
    let changed = map-set items all (page / 64) _ ∙ ap (λ (g : List ℕ). set (map items all) (page / 64) (set g (page % 64) n)) (sym is) in
    subst AreGroups (sym changed) (put-groups (map items all) (page / 64) (page % 64) n c.self.invariant)

pub returns-clause-put : goal.returns-clause-put
returns-clause-put c =
    let all = c.self.inside.groups.items in
    let table = c.args.self.now in
    let page = c.args.page in
    let n = c.args.number in
    let view = c.self.view_is in
    let within = place-within all table page view c.requires in
    let is = group-at all (page / 64) c.index_mut-group.result.now (group-within all table page view c.requires) c.index_mut-group.ensures.value in
    let changed = map-set items all (page / 64) _ ∙ ap (λ (g : List ℕ). set (map items all) (page / 64) (set g (page % 64) n)) (sym is) in
    λ j. record {
      numbers = (ap numbers_in changed ∙ put-at (map items all) page n c.self.invariant within ∙ ap (λ (s : PageNumbers). set s.numbers page n) view) j;
      room = (ap rooms_of changed ∙ rooms-put (map items all) (page / 64) (page % 64) n ∙ ap (λ (s : PageNumbers). s.room) view) j;
    }

pub returns-clause-within : goal.returns-clause-within
returns-clause-within c =
    let all = c.self.inside.groups.items in
    let table = c.args.self.now in
    omega (arith, group-within all table c.args.page c.self.view_is c.requires, pages-length all table c.self.view_is c.self.invariant.each)
