-- The sessions that have a transaction are counted one after another.
use Rattle.std.specs.Prelude.{◌≡◌, ℕ, ◌+◌, ◌-◌, ◌<◌, ◌≤◌, is_some, if◌then◌else◌}
use Rattle.std.proofs.Common.{zero, suc, refl, sym, ap, subst, ◌∙◌, arith}
use Rattle.graph_model.specs.History.{account}
use Rattle.heap_core.specs.declared.in_memory.HeapCore.{HeapCore}
use Rattle.heap_core.specs.Refinement.{IsCoreInMemory}
use Rattle.heap_embed.specs.Figures.{active_upto}
use Rattle.heap_model.specs.Core.{Core}

-- those below this session are counted
pub record AreCounted (core : HeapCore) (count s : ℕ) : Type 0 where
  pub begun : 1 ≤ s
  pub few : count < s
  pub counted : (c : Core) → IsCoreInMemory c core → count ≡ active_upto c (s - 1)

pub one_more : (c : Core) (s : ℕ) → 1 ≤ s → active_upto c s ≡ active_upto c (s - 1) + (if is_some ((account c.history).active s) then 1 else 0)
one_more c zero begun = absurd (omega (arith, begun))
one_more c (suc s) begun =
    let same : suc s - 1 ≡ s = omega arith in
    subst (λ n. active_upto c (suc s) ≡ active_upto c n + (if is_some ((account c.history).active (suc s)) then 1 else 0)) (sym same) refl

pub all_counted : (core : HeapCore) (count s : ℕ) → s ≡ 33 → AreCounted core count s → (c : Core) → IsCoreInMemory c core → count ≡ active_upto c 32
all_counted core count s last are c is = let all : s - 1 ≡ 32 = omega arith in are.counted c is ∙ ap (active_upto c) all
