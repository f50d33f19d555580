-- The events that end a run, by what the heap says of itself.
use Rattle.std.proofs.Common.{◌≡◌, ◌≢◌, ℕ, Bool, true, false, List, [], ◌∷◌, Option, Some, None, refl}
use Rattle.std.specs.Prelude.{◌↔◌, is_some, IsTrue}
use Rattle.graph_model.specs.declared.event.Event.TheVariants.{Abort, Force}
use Rattle.graph_model.specs.Transaction.{Transaction}
use Rattle.log_records.specs.declared.Record.{Record}
use Rattle.heap_model.specs.Ending.{abort_of, force_of}

-- no transaction is active
pub abort_of-none : (s : ℕ) (o : Option Transaction) → is_some o ≡ false → abort_of s o ≡ []
abort_of-none s None is = refl
abort_of-none s (Some t) is = cc

-- one is
pub abort_of-some : (s : ℕ) (o : Option Transaction) → is_some o ≡ true → abort_of s o ≡ Abort s ∷ []
abort_of-some s None is = cc
abort_of-some s (Some t) is = refl

-- nothing is pending
pub force_of-none : (waiting : List Record) (b : Bool) → (IsTrue b ↔ (waiting ≢ [])) → b ≡ false → force_of waiting ≡ []
force_of-none [] b said is = refl
force_of-none (r ∷ rs) b said is = let waits : b ≡ true = said.1 (λ e. cc) in cc

-- something does
pub force_of-some : (waiting : List Record) (b : Bool) → (IsTrue b ↔ (waiting ≢ [])) → b ≡ true → force_of waiting ≡ Force ∷ []
force_of-some [] b said is = absurd (said.0 is refl)
force_of-some (r ∷ rs) b said is = refl
