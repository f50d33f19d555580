-- The objects break off at the base, if it has no root, or where the loop found none.
use Rattle.std.proofs.Common.{◌≡◌, ℕ, List, ◌+◌, ◌∙◌, ap, sym, subst, take, arith}
use Rattle.object_layout.specs.Layout.{object_at}
use Rattle.object_layout.specs.Walk.{AreEndToEnd, IsRootAt, BreaksAt, at_root, behind}
use Rattle.object_layout.proofs.space.find_starts.Goals as goal

pub returns-then-branch-clause-fault : goal.returns-then-branch-clause-fault
returns-then-branch-clause-fault g c told at used whole failed =
    let words = g.W.Words.content c.args.words.now in
    let base = c.args.base in
    let same = c.in_ok-is_root_at.ensures.read.same_words told in
    let found = c.end_to_end.ensures.fault told at failed in
    let root : IsRootAt (take c.args.end words) base = (c.in_ok-is_root_at.ensures.root told).0 c.if-branch.true in
    let Root : ℕ → Type 0 = λ e. IsRootAt (take e words) base in
    let Objects : List ℕ → Type 0 = λ ws. AreEndToEnd (take c.args.end ws) base found.0 at in
    let Ends : ℕ → Type 0 = λ e. AreEndToEnd (take e words) base found.0 at in
    behind found.0 (subst Root whole root) (subst Ends whole (subst Objects same found.1)) (omega (arith, found.2, whole))
    (ap (λ e. object_at (take e words) at) (sym whole) ∙ ap (λ ws. object_at (take c.args.end ws) at) (sym same) ∙ found.3)

pub returns-else-branch-clause-fault : goal.returns-else-branch-clause-fault
returns-else-branch-clause-fault g c told at used whole failed =
    let words = g.W.Words.content c.args.words.now in
    let base = c.args.base in
    let Root : ℕ → Type 0 = λ e. IsRootAt (take e words) base in
    let none : IsRootAt (take (base + used) words) base → ⊥ =
    λ root. let clash = sym c.if-branch.false ∙ (c.in_ok-is_root_at.ensures.root told).1 (subst Root (sym whole) root) in cc in
    let named : base ≡ at = cc in
    subst (BreaksAt words base used) named (at_root none)
