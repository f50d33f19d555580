-- The next object gets the words after those of the objects before.
use Rattle.std.proofs.Common.{◌≡◌, ◌+◌, ◌++◌, ◌∷◌, [], ◌<◌, ◌≤◌, ◌^◌, take, get_or, length, zip, sym, ap, ◌∙◌, subst, arith}
use Rattle.std.specs.Prelude.{All}
use Rattle.std.proofs.lemmas.List.{take_more, take_all}
use Rattle.std.proofs.lemmas.List.Sums.{sum_by-append, sum_by-cons}
use Rattle.stability_tracker.specs.Promotion.{need}
use Rattle.graph_words.specs.Promotion.{words_taken}
use Rattle.sealing.proofs.Addresses.{addresses, addresses_more, zip-addresses, length-addresses, addresses_small}
use Rattle.sealing.proofs.moves.addresses_of.Goals.{After-length, After-loop-object}
use Rattle.sealing.proofs.moves.addresses_of.Goals as goal

needed : (c : After-length) → need c.args.area.now (take (c.loop-object.object-index + 1) c.args.objects.now)
    ≡ need c.args.area.now (take c.loop-object.object-index c.args.objects.now) + (2 + c.length.result)
needed c =
    let taken = words_taken c.args.area.now in
    let xs = c.args.objects.now in
    let i = c.loop-object.object-index in
    let own : taken (get_or xs i 0) ≡ 2 + c.length.result = ap (λ n. 2 + n) (sym c.length.ensures.length) in
    let last : need c.args.area.now (get_or xs i 0 ∷ []) ≡ taken (get_or xs i 0) + 0 = sum_by-cons taken (get_or xs i 0) [] in
    let both = ap (need c.args.area.now) (take_more xs i 0 c.loop-object-test.true) ∙ sum_by-append taken (take i xs) (get_or xs i 0 ∷ []) in
    omega (arith, own, last, both)

pub loop-object-preserved : goal.loop-object-preserved
loop-object-preserved c =
    let area = c.args.area.now in
    let xs = c.args.objects.now in
    let i = c.loop-object.object-index in
    let more = needed c in
    let next = c.loop-object.invariant.next in
    record {
      so_far = c.in_ok-push.ensures.items ∙ ap (λ ns. ns ++ c.loop-object.next ∷ []) c.loop-object.invariant.so_far
          ∙ ap (λ n. addresses area (take i xs) c.args.address ++ n ∷ []) next
          ∙ sym (ap (λ ys. addresses area ys c.args.address) (take_more xs i 0 c.loop-object-test.true) ∙ addresses_more area (take i xs) (get_or xs i 0) c.args.address);
      next = omega (arith, more, next);
    }

all : (c : After-loop-object) → length c.args.objects.now ≤ c.loop-object.object-index → c.loop-object.addresses.items ≡ addresses c.args.area.now c.args.objects.now c.args.address
all c end = c.loop-object.invariant.so_far ∙ ap (λ xs. addresses c.args.area.now xs c.args.address) (take_all c.loop-object.object-index c.args.objects.now end)

pub returns-clause-moves : goal.returns-clause-moves
returns-clause-moves c =
    ap (zip c.args.objects.now) (all (goal.at.returns-clause-moves c).After-loop-object c.loop-object-test.false) ∙ zip-addresses c.args.area.now c.args.objects.now c.args.address

pub returns-clause-small : goal.returns-clause-small
returns-clause-small c =
    subst (λ ns. All (λ n. n < 2 ^ 21) ns) (sym (all (goal.at.returns-clause-small c).After-loop-object c.loop-object-test.false))
    (addresses_small c.args.area.now c.args.objects.now c.args.address (2 ^ 21) c.requires.room)

pub returns-clause-count : goal.returns-clause-count
returns-clause-count c =
    ap length (all (goal.at.returns-clause-count c).After-loop-object c.loop-object-test.false) ∙ length-addresses c.args.area.now c.args.objects.now c.args.address
