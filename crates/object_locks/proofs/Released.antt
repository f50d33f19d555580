-- What is left when a transaction releases its holdings one after another.
use Rattle.std.proofs.Common.{◌≡◌, ◌≢◌, ℕ, ◌-◌, ◌<◌, ◌==◌, Bool, true, false, cond, refl, sym, ap, ◌∙◌, arith}
use Rattle.std.specs.Prelude.{◌&&◌, not}
use Rattle.std.specs.Ordering.{eq_by_cmp}
use Rattle.std.specs.FinSet.{contains, remove, len, contains-remove, contains-retain, contains-empty, len-remove, empty_of_len, same_set}
use Rattle.std.proofs.lemmas.Bool.{true≢false, eqb-true, eqb-false}
use Rattle.object_locks.specs.declared.holding.Holding.{Holding}
use Rattle.object_locks.specs.Holdings.{Holdings, holding_cmp, without}
use Rattle.object_locks.specs.Table.{HasNone}
use Rattle.object_locks.proofs.Orders.{holding_total, holding_exact}
use Rattle.object_locks.proofs.Sets.{equal_if}

not_empty : (held : Holdings) (h : Holding) → contains held h ≡ true → len held ≢ 0
not_empty held h there none =
    true≢false (sym there ∙ ap (λ s. contains s h) (empty_of_len held none) ∙ contains-empty holding_cmp h)

-- one holding fewer
pub fewer : (held : Holdings) (h : Holding) → contains held h ≡ true → len (remove held h) < len held
fewer held h there =
    let some = not_empty held h there in
    let one_less = len-remove holding_total held h ∙ ap (λ b. cond b (len held - 1) (len held)) there in
    omega arith

left_by : (b x : Bool) → (b ≡ true → ⊥) → (not b && x) ≡ x
left_by true x apart = absurd (apart refl)
left_by false x apart = refl

-- what others hold stays
pub others_stay : (held : Holdings) (x h : Holding) (t : ℕ) → x.transaction ≡ t → h.transaction ≢ t → contains (remove held x) h ≡ contains held h
others_stay held x h t of_t other =
    contains-remove holding_total held x h
    ∙ left_by (eq_by_cmp holding_cmp h x) _ (λ tie. other (ap (λ (y : Holding). y.transaction) (holding_exact h x (equal_if _ tie)) ∙ of_t))

and_true : (x : Bool) → x ≡ (x && true)
and_true true = refl
and_true false = refl

and_false : (x : Bool) → false ≡ (x && false)
and_false true = refl
and_false false = refl

-- in the end the transaction holds nothing, and the others hold what they held
pub all_gone : (old held : Holdings) (t : ℕ) → HasNone held t → ((h : Holding) → h.transaction ≢ t → contains held h ≡ contains old h) → held ≡ without old t
all_gone old held t none others = same_set holding_total holding_exact held (without old t) (λ q.
    elim (q.transaction == t) as (λ b. (q.transaction == t) ≡ b → contains held q ≡ (contains old q && not b)) [
      | true ↦ λ of_t. nothing (contains held q) (λ there. none q (eqb-true q.transaction t of_t, there)) ∙ and_false _
      | false ↦ λ other. others q (eqb-false q.transaction t other) ∙ and_true _
    ] refl
    ∙ sym (contains-retain old (λ h. not (h.transaction == t)) q (λ x tie. ap (λ (y : Holding). not (y.transaction == t)) (sym (holding_exact q x tie)))))
  where
    nothing : (b : Bool) → (b ≡ true → ⊥) → b ≡ false
    nothing true f = absurd (f refl)
    nothing false f = refl
