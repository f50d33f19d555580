use Rattle.std.proofs.Common.{◌≡◌, ◌<◌, ◌++◌, [], ◌∷◌, ap₂, ◌∙◌, subst, sym, List, ℕ}
use Rattle.turn_lock.specs.TwinPasses.{pass_numbers}
use Rattle.turn_lock.specs.Turning.{times}
use Rattle.twin_ledger.proofs.Mirrors.{ready, eight_numbers}
use Rattle.twin_ledger.proofs.threads.post_eight.Goals as goal

pub post_by_eight-pass-requires-clause-left : goal.post_by_eight-pass-requires-clause-left
post_by_eight-pass-requires-clause-left g c κs within = let made = c.in_ok-lock.ensures.passes in let found = c.all_eight-left.ensures in
    ((ready (made 0 _ found.one.0), ready (made 1 _ found.one.1)), (ready (made 2 _ found.two.0), ready (made 3 _ found.two.1)))

pub post_by_eight-pass-requires-clause-right : goal.post_by_eight-pass-requires-clause-right
post_by_eight-pass-requires-clause-right g c κs within = let made = c.in_ok-lock.ensures.passes in let found = c.all_eight-left.ensures in
    ((ready (made 4 _ found.three.0), ready (made 5 _ found.three.1)), (ready (made 6 _ found.four.0), ready (made 7 _ found.four.1)))

pub close-requires-clause-all : goal.close-requires-clause-all
close-requires-clause-all g c =
    let made = c.in_ok-lock.ensures.passes in let found = c.all_eight-left.ensures in
    let two : (a b c d : List ℕ) → a ≡ c → b ≡ d → a ++ b ≡ c ++ d = λ a b c d x y. ap₂ (λ p q. p ++ q) x y in
    let one_two = two _ _ _ _ (made 0 _ found.one.0).number_is (made 1 _ found.one.1).number_is in
    let three_four = two _ _ _ _ (made 2 _ found.two.0).number_is (made 3 _ found.two.1).number_is in
    let five_six = two _ _ _ _ (made 4 _ found.three.0).number_is (made 5 _ found.three.1).number_is in
    let seven_eight = two _ _ _ _ (made 6 _ found.four.0).number_is (made 7 _ found.four.1).number_is in
    let numbers : pass_numbers c.post_by_eight-pass.result ≡ 0 ∷ 1 ∷ 2 ∷ 3 ∷ 4 ∷ 5 ∷ 6 ∷ 7 ∷ [] = c.post_by_eight-pass.ensures.numbers ∙ two _ _ _ _ (two _ _ _ _ one_two three_four) (two _ _ _ _ five_six seven_eight) in
    λ n h. subst (λ l. 0 < times n l) (sym numbers) (eight_numbers n (subst (λ k. n < k) c.in_ok-lock.ensures.lock.2 h))
