-- One more copy is planned.
use Rattle.std.proofs.Common.{◌≡◌, ℕ, ◌+◌, ◌-◌, ◌<◌, ◌++◌, ◌∷◌, [], List, length, take, drop, get_or, sym, ap, ◌∙◌, arith, refl}
use Rattle.std.proofs.lemmas.Grind.{get_or_default_zero}
use Rattle.std.proofs.lemmas.List.{get_or-append_right, length-append}
use Rattle.heap_spaces.specs.declared.collection.CopiedObject.{CopiedObject}
use Rattle.log_records.specs.declared.Record.TheVariants.{Copy}
use Rattle.page_scanner.specs.Plan.{copy_records}
use Rattle.page_scanner.specs.declared.plan.Plan.{Plan}
use Rattle.page_scanner.proofs.Copies.{few-copies, records_grown}
use Rattle.page_scanner.proofs.Plans.{plan_more}
use Rattle.page_scanner.proofs.plan.Plan.append.Goals as goal

pub add-requires : goal.add-requires
add-requires g c =
    let p = c.args.self.now in
    let few = few-copies p.copies.items p.words.items c.requires.plan.filled in
    omega (arith, few, c.requires.plan.small, c.requires.plan.listed, c.requires.plan.counted)

pub returns-clause-copies : goal.returns-clause-copies
returns-clause-copies g c told =
    let p = c.args.self.now in
    let words : List ℕ = p.words.items in
    let content = g.W.Words.content c.args.words.now in
    let k : CopiedObject = record { from = c.args.from; to = c.args.to; header = c.index-header.result.now; words = c.args.size } in
    let found = c.in_ok-append_to.ensures.run in
    let run = take (c.args.from + c.args.size - c.args.from) (drop c.args.from content) in
    let these = c.in_ok-append_to.ensures.these told in
    let all : length words + length found.0 ≡ length words + length run =
    sym (length-append words found.0) ∙ ap (λ (l : List ℕ). length l) (sym found.1 ∙ these) ∙ length-append words run in
    let size : length run ≡ c.args.size = omega (arith, found.2, all) in
    let copies = ap (λ (q : Plan). q.copies.items) c.note_source.ensures.noted ∙ c.in_ok-push.ensures.items in
    let grown = ap (λ (q : Plan). q.words.items) c.note_source.ensures.noted ∙ these in
    let count : c.args.from + c.args.size - c.args.from ≡ c.args.size = omega arith in
    records_grown p.copies.items _ words _ k run c.requires.plan.filled size copies grown
    ∙ ap (λ (n : ℕ). copy_records p ++ Copy c.args.from c.args.to (take n (drop c.args.from content)) ∷ []) count

pub returns-clause-plan : goal.returns-clause-plan
returns-clause-plan g c =
    let p = c.args.self.now in
    let words : List ℕ = p.words.items in
    let found = c.in_ok-append_to.ensures.run in
    let run = found.0 in
    let word = c.index-header.result.now in
    let place = c.len-place.result in
    let k : CopiedObject = record { from = c.args.from; to = c.args.to; header = word; words = c.args.size } in
    let size : length run ≡ c.args.size = omega (arith, found.2) in
    let some : 0 < length run = omega (arith, size, c.requires.some) in
    let here : place ≡ length words = omega (arith, c.len-place.ensures, p.words.ok) in
    let first_place : place - length words ≡ 0 = omega (arith, here) in
    let header : word ≡ get_or run 0 0 =
    c.index-header.ensures
    ∙ ap (λ (l : List ℕ). get_or l place word) found.1
    ∙ get_or-append_right words run (length words) place word refl (omega (arith, here))
    ∙ ap (λ i. get_or run i word) first_place
    ∙ get_or_default_zero run 0 word some in
    let copies = ap (λ (q : Plan). q.copies.items) c.note_source.ensures.noted ∙ c.in_ok-push.ensures.items in
    let grown = ap (λ (q : Plan). q.words.items) c.note_source.ensures.noted ∙ found.1 in
    let counted = ap (λ (q : Plan). q.size) c.note_source.ensures.noted in
    let sources = ap (λ (q : Plan). q.sources) c.note_source.ensures.noted in
    let first = ap (λ (q : Plan). q.first) c.note_source.ensures.noted in
    let going = ap (λ (q : Plan). q.destinations) c.note_source.ensures.noted in
    plan_more p _ k run c.requires.plan c.requires.some size header copies grown
    (ap (λ n. n + c.args.size) counted)
    (omega (arith, counted, c.requires.small))
    (going ∙ c.in_ok-add.ensures)
    sources c.note_source.ensures.placed first
