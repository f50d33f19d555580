-- Laws of mirrors.
use Rattle.std.proofs.Common.{◌∙◌, ℕ, Bool, List, ◌++◌, [], ap, sym, append_assoc, append-nil}
use Rattle.twin_ledger.specs.Mirrored.{IsGrown}

pub is_grown_itself : (copied : List ℕ) (failed : Bool) → IsGrown copied failed copied failed
is_grown_itself copied failed = record { more = ([], sym (append-nil copied)); still = λ e. e }

pub is_grown_on : (a : List ℕ) (f : Bool) (b : List ℕ) (g : Bool) (c : List ℕ) (h : Bool) → IsGrown a f b g → IsGrown b g c h → IsGrown a f c h
is_grown_on a f b g c h x y = record { more = (x.more.0 ++ y.more.0, y.more.1 ∙ (ap (λ l. l ++ y.more.0) x.more.1 ∙ append_assoc a x.more.0 y.more.0)); still = λ e. y.still (x.still e) }
