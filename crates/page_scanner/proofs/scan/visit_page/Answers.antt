-- One gray object after another is visited.
use Rattle.std.proofs.Common.{◌≡◌, ℕ, ◌+◌, ◌-◌, ◌≤◌, ◌<◌, List, Some, None, Err, ap, ◌∙◌, refl, sym, subst, arith}
use Rattle.std.specs.FinSet.{contains}
use Rattle.object_layout.specs.Read.{IsRead}
use Rattle.page_scanner.specs.Plan.{planned, ArePageBits}
use Rattle.page_scanner.specs.Scan.{is_gray, visit, visit_all}
use Rattle.object_layout.proofs.ReadLaws.{not_read, read_on}
use Rattle.page_scanner.proofs.Errors.{failure_on, handed_on}
use Rattle.page_scanner.proofs.Loops.{visit_on, visit_past, visit_stop, visit_end}
use Rattle.page_scanner.proofs.scan.visit_page.Goals as goal

pub loop-place-init : goal.loop-place-init
loop-place-init g c =
    let first = c.args.plan.now.first in
    let k = c.args.collection.now in
    let place = c.next_gray-place.result in
    let q = planned c.args.plan.now in
    let bits : ArePageBits c.gray_bits-gray.result k first = λ i low. c.gray_bits-gray.ensures i low ∙ ap (λ a. contains k.gray (a + i)) (sym c.requires.page) in
    record {
      read = not_read _ _ _ _ _ _ _ g.met.W.Words.keeps_itself;
      plan = c.requires.plan;
      first = refl;
      low = c.next_gray-place.ensures.low;
      few = omega arith;
      gray = c.next_gray-place.ensures.gray k bits;
      visited = λ told.
          visit_past c.args.spaces.now k (g.W.Words.content c.args.words.now) q first 64 place c.next_gray-place.ensures.low
          (λ i before. c.next_gray-place.ensures.passed k bits i (omega arith) before);
    }

pub returns-in_err-visit-clause-damaged : goal.returns-in_err-visit-clause-damaged
returns-in_err-visit-clause-damaged g c told is =
    let words = g.W.Words.content c.args.words.now in
    let at = c.args.plan.now.first + c.loop-place.place in
    let left = 64 - c.loop-place.place in
    let some : 0 < left = omega arith in
    let Damages : List ℕ → Type 0 = λ ws. visit c.args.spaces.now c.args.collection.now ws (planned c.loop-place.plan) at ≡ None in
    let stop : Damages words =
    subst Damages (c.loop-place.invariant.read.same_words told) (c.in_err-visit.ensures.damaged told (ap Err (handed_on c.from_residual.result _ c.from_residual.ensures.1 is))) in
    c.loop-place.invariant.visited told ∙ visit_stop c.args.spaces.now c.args.collection.now words (planned c.loop-place.plan) at left some stop

pub returns-in_err-visit-clause-read : goal.returns-in_err-visit-clause-read
returns-in_err-visit-clause-read g c =
    subst (IsRead g.W.Words.tells g.W.Words.extent g.W.Words.content g.W.Words.keeps g.W.Words.faults g.W.Words.stops c.args.words.now c.visit.new.words)
    (failure_on c.from_residual.result _ c.from_residual.ensures.1)
    (read_on _ _ _ _ _ _ _ _ _ _ g.met.W.Words.keeps_on c.loop-place.invariant.read c.in_err-visit.ensures.read)

pub returns-clause-visited : goal.returns-clause-visited
returns-clause-visited g c told =
    let words = g.W.Words.content c.args.words.now in
    let at = c.args.plan.now.first + c.loop-place.place in
    let left = 64 - c.loop-place.place in
    let none : left ≡ 0 = omega arith in
    c.loop-place.invariant.visited told ∙ visit_end c.args.spaces.now c.args.collection.now words (planned c.loop-place.plan) at left none

pub loop-place-preserved : goal.loop-place-preserved
loop-place-preserved g c =
    let first = c.args.plan.now.first in
    let k = c.args.collection.now in
    let place = c.loop-place.place in
    let found = c.next_gray-place-in-loop-place.ensures in
    let next = c.next_gray-place-in-loop-place.result in
    let q = planned c.visit.new.self in
    let same : c.visit.new.self.first ≡ first = c.in_ok-visit.ensures.first ∙ c.loop-place.invariant.first in
    let bits : ArePageBits c.gray_bits-gray.result k c.visit.new.self.first =
    λ i low. c.gray_bits-gray.ensures i low ∙ ap (λ a. contains k.gray (a + i)) (sym c.requires.page ∙ sym same) in
    record {
      read = read_on _ _ _ _ _ _ _ _ _ _ g.met.W.Words.keeps_on c.loop-place.invariant.read c.in_ok-visit.ensures.read;
      plan = c.in_ok-visit.ensures.plan;
      first = same;
      low = found.low;
      few = let more = c.in_ok-visit.ensures.few in let before = c.loop-place.invariant.few in let from = found.from in omega (arith, more, before, from);
      gray = λ low. ap (λ a. is_gray k q (a + next)) (sym same) ∙ found.gray k bits low;
      visited = λ told.
          let words = g.W.Words.content c.args.words.now in
          let at = first + place in
          let some : 0 < 64 - place = omega arith in
          let within : next - (place + 1) ≤ 64 - place - 1 = omega (arith, found.low) in
          let to : first + place + 1 + (next - (place + 1)) ≡ first + next = omega (arith, found.from) in
          let left : 64 - place - 1 - (next - (place + 1)) ≡ 64 - next = omega (arith, found.from) in
          let Visited : List ℕ → Type 0 = λ ws. visit c.args.spaces.now k ws (planned c.loop-place.plan) at ≡ Some q in
          let one : Visited words = subst Visited (c.loop-place.invariant.read.same_words told) (c.in_ok-visit.ensures.visited told) in
          let passed = λ (i : ℕ) (before : i < next - (place + 1)).
          let on : first + place + 1 + i ≡ c.visit.new.self.first + (place + 1 + i) = omega (arith, same) in
          ap (is_gray k q) on ∙ found.passed k bits (place + 1 + i) (omega arith) (omega (arith, before)) in
          c.loop-place.invariant.visited told
          ∙ visit_on c.args.spaces.now k words (planned c.loop-place.plan) q at (64 - place) some one
          ∙ visit_past c.args.spaces.now k words q (at + 1) (64 - place - 1) (next - (place + 1)) within passed
          ∙ (λ i. visit_all c.args.spaces.now k words q (to i) (left i));
    }
