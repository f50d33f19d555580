use Rattle.std.proofs.Common.{◌≡◌, ◌<◌, ◌+◌, ◌^◌, ℕ, List, length, ◌%◌, false, sym, ap, ◌∙◌, arith, refl, ◌∷◌, []}
use Rattle.std.specs.Prelude.{◌==◌, slice_index}
use Rattle.std.proofs.lemmas.Bool.{true≢false, eqb-true}
use Rattle.std.proofs.lemmas.Grind.{get_or_default_zero}
use Rattle.std.proofs.lemmas.List.{length-append, length-map}
use Rattle.page_scanner.specs.declared.destinations.Move.{Move}
use Rattle.page_scanner.specs.declared.destinations.TheConstants.{BUCKETS}
use Rattle.page_scanner.proofs.Chains.{AreMade, made_now, made_before, chained_more}
use Rattle.page_scanner.proofs.destinations.Destinations.add.Goals.{then-is_empty+in_ok-resize, else-is_empty}
use Rattle.page_scanner.proofs.destinations.Destinations.add.Goals as goal

-- a vector that is not empty has an item
some_heads : (items : List ℕ) (n : ℕ) → length items ≡ n → false ≡ (n == 0) → length items ≡ 0 → ⊥
some_heads items n all some none =
    let zero : n ≡ 0 = omega (arith, all, none) in
    true≢false (sym (some ∙ ap (λ (k : ℕ). k == 0) zero))

pub invariant_of-self-in_err-push : goal.invariant_of-self-in_err-push
invariant_of-self-in_err-push c =
    let moves = c.self.inside.moves.items in
    let heads = c.self.inside.heads in
    let made : AreMade c.if-is_empty.self-inside.moves.items c.if-is_empty.self-inside.heads.items =
    elim c.if-is_empty.branch [
      | then-is_empty+in_ok-resize w ↦
          let none = eqb-true _ 0 (sym w.if-is_empty.ensures) in
          rw w.self-inside-is (made_now moves heads.items _ _ c.self.invariant (omega (arith, none, heads.ok)) none w.in_ok-resize.ensures.items)
      | else-is_empty w ↦
          rw w.self-inside-is (made_before moves heads.items c.self.invariant (some_heads heads.items _ (sym heads.ok.0) w.if-is_empty.ensures))
    ] in
    rw c.in_err-push.ensures.items made.chained

pub invariant_of-self-2 : goal.invariant_of-self-2
invariant_of-self-2 c =
    let moves = c.self.inside.moves.items in
    let heads = c.self.inside.heads in
    let before = c.if-is_empty.self-inside in
    let m : Move = record { from = c.args.from; to = c.args.to; earlier = c.index-earlier.result.now } in
    let made : AreMade before.moves.items before.heads.items =
    elim c.if-is_empty.branch [
      | then-is_empty+in_ok-resize w ↦
          let none = eqb-true _ 0 (sym w.if-is_empty.ensures) in
          rw w.self-inside-is (made_now moves heads.items _ _ c.self.invariant (omega (arith, none, heads.ok)) none w.in_ok-resize.ensures.items)
      | else-is_empty w ↦
          rw w.self-inside-is (made_before moves heads.items c.self.invariant (some_heads heads.items _ (sym heads.ok.0) w.if-is_empty.ensures))
    ] in
    let same : before.moves.items ≡ moves =
    elim c.if-is_empty.branch [ then-is_empty+in_ok-resize w ↦ rw w.self-inside-is refl | else-is_empty w ↦ rw w.self-inside-is refl ] in
    let few : length before.moves.items + 1 < 2 ^ 32 =
    let all = ap (λ (l : List (ℕ × ℕ)). length l) c.self.view_is in
    let count = ap (λ (l : List Move). length l) same in
    omega (arith, c.requires, all, count, length-map {B = ℕ × ℕ} moves (λ (k : Move). (k.from, k.to))) in
    let items = c.in_ok-push.ensures.items in
    let all : length c.push.new.self.items ≡ length before.moves.items + 1 = ap (λ (l : List Move). length l) items ∙ length-append before.moves.items (m ∷ []) in
    let count : c.len.result ≡ length before.moves.items + 1 = omega (arith, c.len.ensures, c.push.new.self.ok, all) in
    let bucket = c.bucket_of-bucket in
    let inside : bucket.result < length before.heads.items = omega (arith, bucket.ensures.few, made.all) in
    let first : m.earlier ≡ slice_index before.heads.items (c.args.from % BUCKETS) =
    c.index-earlier.ensures
    ∙ get_or_default_zero before.heads.items bucket.result m.earlier inside
    ∙ ap (λ b. slice_index before.heads.items b) bucket.ensures.bucket in
    rw (count, items, bucket.ensures.bucket) (chained_more before.moves.items before.heads.items m made.chained made.all few first)
