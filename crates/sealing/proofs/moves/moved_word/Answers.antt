-- What was searched for is found where it stands.
use Rattle.std.proofs.Common.{◌≡◌, ◌≢◌, ℕ, inl, inr, ◌<◌, Equal, Err, Some, get_or, length, zip, sym, ap, ◌∙◌, arith}
use Rattle.std.proofs.lemmas.List.Sorted.{searched}
use Rattle.std.proofs.lemmas.Map.Keys.{below_from_sorted, non_decreasing_from_sorted}
use Rattle.std.proofs.lemmas.Bool.{cases_lt}
use Rattle.std.specs.Ordering.{nat_cmp}
use Rattle.heap_words.specs.declared.Word.TheVariants.{Volatile}
use Rattle.heap_words.specs.Word.{meaning}
use Rattle.graph_words.specs.Promotion.{moved_meant, stable_or}
use Rattle.sealing.proofs.Found.{moved_at, moved_nowhere}
use Rattle.sealing.proofs.moves.moved_word.Goals.{In-Some-Volatile}
use Rattle.sealing.proofs.moves.moved_word.Goals as goal

-- numbers that compare as equal are one
one_number : (x y : ℕ) → nat_cmp x y ≡ Equal → x ≡ y
one_number x y same = grind arith

meant : (c : In-Some-Volatile) → meaning c.args.word ≡ Some (Volatile c.in-Some-Volatile.at)
meant c = sym c.decode.ensures.read ∙ c.in-Some-Volatile.is ∙ ap Some c.in-Some-Volatile.field-0-is

pub returns-in-Ok : goal.returns-in-Ok
returns-in-Ok c =
    let xs = c.args.objects.now in
    let moves = zip xs c.args.addresses.now in
    let i = c.in-Ok.i in
    let at = c.in-Some-Volatile.at in
    let is = one_number (get_or xs i 0) at (c.in-Ok.ensures.ok 0) in
    let first : (j : ℕ) → j < i → get_or xs j 0 ≢ at = λ j low same.
    let less = below_from_sorted xs j i 0 c.requires.ascend low c.in-Ok.ensures.bound in omega (arith, less, same, is) in
    c.encode.ensures ∙ sym (ap (moved_meant moves c.args.word) (meant (goal.at.returns-in-Ok c).In-Some-Volatile)
    ∙ ap (stable_or c.args.word) (moved_at xs c.args.addresses.now i at c.in-Ok.ensures.bound c.requires.count is first))

pub returns-in-Err : goal.returns-in-Err
returns-in-Err c =
    let xs = c.args.objects.now in
    let moves = zip xs c.args.addresses.now in
    let i = c.in-Err.field-0 in
    let at = c.in-Some-Volatile.at in
    let around = searched xs at (Err i) c.in-Err.ensures.position (λ i j low within. non_decreasing_from_sorted xs c.requires.ascend i j 0 low within) in
    let none : (j : ℕ) → j < length xs → get_or xs j 0 ≢ at = λ j within same. elim (cases_lt j i) [
      | inl low ↦ let less = around.1 j low in omega (arith, less, same)
      | inr high ↦ let more = around.2 j high within in omega (arith, more, same)
    ] in
    sym (ap (moved_meant moves c.args.word) (meant (goal.at.returns-in-Err c).In-Some-Volatile)
    ∙ ap (stable_or c.args.word) (moved_nowhere xs c.args.addresses.now at c.requires.count none))
