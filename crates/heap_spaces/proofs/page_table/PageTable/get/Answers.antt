use Rattle.std.proofs.Common.{rules, ◌≤◌, ◌/◌, ◌%◌, ℕ, List, [], length, map, get_or, ap, sym, ◌∙◌, inl, inr, arith}
use Rattle.std.proofs.lemmas.List.{get_or_past}
use Rattle.std.proofs.lemmas.Bool.{cases_lt}
use Rattle.heap_spaces.specs.PageTable.{PageNumbers}
use Rattle.heap_spaces.proofs.GroupLaws.{group-in, items, room-of}
use Rattle.heap_spaces.proofs.TableLaws.{group-past, number-at}
use Rattle.heap_spaces.proofs.page_table.PageTable.get.Goals as goal

pub returns-in-Some-clause-number : goal.returns-in-Some-clause-number
returns-in-Some-clause-number c =
    let all = c.self.inside.groups.items in
    let page = c.args.page in
    let here = group-in all c.deref.result.now (page / 64) c.in-Some.group.now c.deref.ensures.value (search rules) (search rules) in
    c.number_in.ensures
    ∙ ap (λ (l : List ℕ). get_or l (page % 64) 0) (c.deref-in-Some.ensures.value ∙ sym here.1)
    ∙ sym (number-at (map items all) page c.self.invariant)
    ∙ ap (λ (s : PageNumbers). get_or s.numbers page 0) c.self.view_is

pub returns-in-Some-clause-there : goal.returns-in-Some-clause-there
returns-in-Some-clause-there c some =
    let all = c.self.inside.groups.items in
    let k = c.args.page / 64 in
    let group = c.in-Some.group.now in
    let here = group-in all c.deref.result.now k group c.deref.ensures.value (search rules) (search rules) in
    let room = room-of all c.args.self.now k c.self.view_is in
    elim (cases_lt (c.args.page % 64) (length group.items)) [
      | inl within ↦ omega (arith, room, within, ap (length {A = ℕ}) here.1)
      | inr past ↦ absurd (some (c.number_in.ensures ∙ ap (λ (l : List ℕ). get_or l (c.args.page % 64) 0) c.deref-in-Some.ensures.value ∙ get_or_past group.items (c.args.page % 64) 0 past))
    ]

pub returns-in-None-clause-number : goal.returns-in-None-clause-number
returns-in-None-clause-number c =
    let all = c.self.inside.groups.items in
    let page = c.args.page in
    let behind : length c.deref.result.now ≤ page / 64 = search rules in
    let past : length all ≤ page / 64 = omega (arith, behind, ap length c.deref.ensures.value) in
    sym (get_or_past [] (page % 64) 0 (omega arith))
    ∙ ap (λ (l : List ℕ). get_or l (page % 64) 0) (sym (group-past items all (page / 64) past))
    ∙ sym (number-at (map items all) page c.self.invariant)
    ∙ ap (λ (s : PageNumbers). get_or s.numbers page 0) c.self.view_is
