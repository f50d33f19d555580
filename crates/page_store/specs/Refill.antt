-- What a crash leaves while new bytes are put behind a gate.
use Rattle.std.specs.Prelude.{◌≡◌, ◌⊎◌, ℕ, ◌+◌, List}
use Rattle.gate_slot.specs.Gate.{IsOpen, closed, SameButGate, IsFilling}

-- nothing yet; or the open gate is being closed; or the bytes are being written behind the closed gate
abbrev pub IsRefilling : ℕ → List ℕ → List ℕ → List ℕ → Type 0
IsRefilling gate body old new = (new ≡ old) ⊎ ((IsOpen gate old × SameButGate gate old new) ⊎ IsFilling gate (gate + 1) body (closed gate old) (closed gate old) new)
