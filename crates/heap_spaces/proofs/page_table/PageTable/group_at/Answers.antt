use Rattle.std.proofs.Common.{rules, ◌≡◌, ◌≤◌, ◌*◌, ◌+◌, ◌^◌, ℕ, List, [], length, map, get_or, ap, sym, ◌∙◌, arith, Vec, Global}
use Rattle.std.proofs.lemmas.List.{get_or_past, length-map}
use Rattle.heap_spaces.specs.PageTable.{AreGroups, PageNumbers}
use Rattle.heap_spaces.proofs.GroupLaws.{group-in, items, pages-length, room-of, table_of}
use Rattle.heap_spaces.proofs.TableLaws.{group-few, group-past, number-is}
use Rattle.heap_spaces.proofs.page_table.PageTable.group_at.Goals as goal

-- how many pages there are at most
all_few : (all : List (Vec ℕ Global)) (t : PageNumbers) → table_of all ≡ t → AreGroups (map items all) → length t.numbers ≤ 2 ^ 26
all_few all t is sound = omega (arith, sound.few, length-map all items, pages-length all t is sound.each)

pub returns-in-Some-clause-there : goal.returns-in-Some-clause-there
returns-in-Some-clause-there c =
    let all = c.self.inside.groups.items in
    let here = group-in all c.deref.result.now c.args.group c.in-Some.numbers.now c.deref.ensures.value (search rules) (search rules) in
    ap (length {A = ℕ}) (c.as_slice.ensures.value ∙ sym here.1) ∙ sym (room-of all c.args.self.now c.args.group c.self.view_is)

pub returns-in-Some-clause-few : goal.returns-in-Some-clause-few
returns-in-Some-clause-few c =
    let all = c.self.inside.groups.items in
    let k = c.args.group in
    let here = group-in all c.deref.result.now k c.in-Some.numbers.now c.deref.ensures.value (search rules) (search rules) in
    omega (arith, ap (length {A = ℕ}) (c.as_slice.ensures.value ∙ sym here.1), group-few (get_or (map items all) k []) (c.self.invariant.each k))

pub returns-in-Some-clause-numbers : goal.returns-in-Some-clause-numbers
returns-in-Some-clause-numbers c i low =
    let all = c.self.inside.groups.items in
    let k = c.args.group in
    let here = group-in all c.deref.result.now k c.in-Some.numbers.now c.deref.ensures.value (search rules) (search rules) in
    ap (λ (s : PageNumbers). get_or s.numbers (64 * k + i) 0) (sym c.self.view_is)
    ∙ number-is (map items all) k i c.self.invariant.each low
    ∙ ap (λ (l : List ℕ). get_or l i 0) (here.1 ∙ sym c.as_slice.ensures.value)

pub returns-in-Some-clause-within : goal.returns-in-Some-clause-within
returns-in-Some-clause-within c some =
    let all = c.self.inside.groups.items in
    let here = group-in all c.deref.result.now c.args.group c.in-Some.numbers.now c.deref.ensures.value (search rules) (search rules) in
    omega (arith, here.0, pages-length all c.args.self.now c.self.view_is c.self.invariant.each)

pub returns-in-Some-clause-all : goal.returns-in-Some-clause-all
returns-in-Some-clause-all c = all_few c.self.inside.groups.items c.args.self.now c.self.view_is c.self.invariant

pub returns-in-None-clause-numbers : goal.returns-in-None-clause-numbers
returns-in-None-clause-numbers c i low =
    let all = c.self.inside.groups.items in
    let k = c.args.group in
    let behind : length c.deref.result.now ≤ k = search rules in
    let past : length all ≤ k = omega (arith, behind, ap length c.deref.ensures.value) in
    ap (λ (s : PageNumbers). get_or s.numbers (64 * k + i) 0) (sym c.self.view_is)
    ∙ number-is (map items all) k i c.self.invariant.each low
    ∙ ap (λ (l : List ℕ). get_or l i 0) (group-past items all k past)
    ∙ get_or_past [] i 0 (omega arith)

pub returns-in-None-clause-all : goal.returns-in-None-clause-all
returns-in-None-clause-all c = all_few c.self.inside.groups.items c.args.self.now c.self.view_is c.self.invariant
