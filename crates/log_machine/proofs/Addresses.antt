-- The addresses that a record writes are those of its effect, whatever words stood there before.
use Rattle.std.proofs.Common.{◌≡◌, ℕ, List, [], ◌∷◌, refl, sym, subst}
use Rattle.std.specs.Prelude.{map}
use Rattle.std.specs.List.{AllByRecursion}
use Rattle.log_records.specs.declared.Record.{Record}
use Rattle.log_records.specs.declared.Record.TheVariants.{Update, Base, Fix, Undo, Commit, End, Copy, Scan, Flip, Collected}
use Rattle.log_machine.specs.Machine.{effect, addresses}

pub effect-addresses : (before : List ℕ) (rec : Record) → map (λ w. w.0) (effect before rec) ≡ addresses rec
effect-addresses before (Update t object field was word) = refl
effect-addresses before (Base t address words) = refl
effect-addresses before (Fix t object field word) = refl
effect-addresses before (Undo t object field word) = refl
effect-addresses before (Commit t) = refl
effect-addresses before (End t) = refl
effect-addresses before (Copy from to words) = refl
effect-addresses before (Scan page writes) = refl
effect-addresses before (Flip copies) = refl
effect-addresses before Collected = refl

-- what a record writes is the same whatever words stood there before
pub effect_any : (before other : List ℕ) (rec : Record) → effect before rec ≡ effect other rec
effect_any before other (Update t object field was word) = refl
effect_any before other (Base t address words) = refl
effect_any before other (Fix t object field word) = refl
effect_any before other (Undo t object field word) = refl
effect_any before other (Commit t) = refl
effect_any before other (End t) = refl
effect_any before other (Copy from to words) = refl
effect_any before other (Scan page writes) = refl
effect_any before other (Flip copies) = refl
effect_any before other Collected = refl

-- what holds of each address holds of that of each write
pub each_write : (P : ℕ → Type 0) (writes : List (ℕ × ℕ)) → AllByRecursion P (map (λ w. w.0) writes) → AllByRecursion (λ w. P w.0) writes
each_write P [] all = tt
each_write P (w ∷ ws) all = (all.0, each_write P ws all.1)

pub each_address : (P : ℕ → Type 0) (writes : List (ℕ × ℕ)) → AllByRecursion (λ w. P w.0) writes → AllByRecursion P (map (λ w. w.0) writes)
each_address P [] all = tt
each_address P (w ∷ ws) all = (all.0, each_address P ws all.1)

-- so it does of a record's
pub effect_writes : (P : ℕ → Type 0) (before : List ℕ) (rec : Record) → AllByRecursion P (addresses rec) → AllByRecursion (λ w. P w.0) (effect before rec)
effect_writes P before rec all = each_write P (effect before rec) (subst (λ l. AllByRecursion P l) (sym (effect-addresses before rec)) all)
