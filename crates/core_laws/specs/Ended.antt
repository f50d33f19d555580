-- How a run of events ends: no session has a transaction, and no record is pending.
use Rattle.std.proofs.Common.{◌≡◌, List, [], ◌∷◌, None, ℕ}
use Rattle.graph_model.specs.declared.event.Event.{Event}
use Rattle.graph_model.specs.History.{account}
use Rattle.heap_model.specs.Core.{Core, after, core_refusal}
use Rattle.core_laws.specs.Active.{active_in}

-- The disk has not failed.
abbrev pub IsUnfailed : Core → Type 0
IsUnfailed c = (account c.history).failed ≡ None

-- Each of these events is granted where the disk does not fail.
abbrev pub AreGranted : Core → List Event → Type 0
AreGranted c [] = Unit {0}
AreGranted c (event ∷ events) = (core_refusal c event ≡ None) × AreGranted (after c event) events

-- No transaction is active, and no record is pending.
pub record HasEnded (c : Core) : Type 0 where
  pub idle : (s : ℕ) → active_in c s ≡ None
  pub settled : c.pending ≡ []
