-- Where a record writes, and what memory it needs.
use Rattle.std.specs.Prelude.{ℕ, ◌<◌, List}
use Rattle.std.specs.List.{AllByRecursion}
use Rattle.log_records.specs.declared.Record.{Record}
use Rattle.log_records.specs.declared.Record.TheVariants.{Update, Base, Fix, Undo, Commit, End, Copy, Scan, Flip, Collected}
use Rattle.log_machine.specs.Machine.{addresses}

-- a record writes only words below an address
abbrev pub WritesBelow : ℕ → Record → Type 0
WritesBelow end rec = AllByRecursion (λ a. a < end) (addresses rec)

-- so do these
abbrev pub EachWritesBelow : ℕ → List Record → Type 0
EachWritesBelow end records = AllByRecursion (WritesBelow end) records

-- a record adds a write that may be taken back
abbrev pub AddsEntry : Record → Type 0
AddsEntry (Update t object field was word) = Unit {0}
AddsEntry (Base t address words) = ⊥
AddsEntry (Fix t object field word) = ⊥
AddsEntry (Undo t object field word) = ⊥
AddsEntry (Commit t) = ⊥
AddsEntry (End t) = ⊥
AddsEntry (Copy from to words) = ⊥
AddsEntry (Scan page writes) = ⊥
AddsEntry (Flip copies) = ⊥
AddsEntry Collected = ⊥

-- a record copies objects
abbrev pub CopiesObjects : Record → Type 0
CopiesObjects (Update t object field was word) = ⊥
CopiesObjects (Base t address words) = ⊥
CopiesObjects (Fix t object field word) = ⊥
CopiesObjects (Undo t object field word) = ⊥
CopiesObjects (Commit t) = ⊥
CopiesObjects (End t) = ⊥
CopiesObjects (Copy from to words) = Unit {0}
CopiesObjects (Scan page writes) = ⊥
CopiesObjects (Flip copies) = Unit {0}
CopiesObjects Collected = ⊥

-- a record is one of a transaction
abbrev pub IsOfTransaction : Record → Type 0
IsOfTransaction (Copy from to words) = ⊥
IsOfTransaction (Scan page writes) = ⊥
IsOfTransaction (Flip copies) = ⊥
IsOfTransaction Collected = ⊥
IsOfTransaction rec = Unit {0}

-- a record lets the spaces change their roles
abbrev pub ChangesRoles : Record → Type 0
ChangesRoles (Flip copies) = Unit {0}
ChangesRoles rec = ⊥

-- the state after a record takes memory
abbrev pub TakesMemory : Record → Type 0
TakesMemory (Update t object field was word) = Unit {0}
TakesMemory (Copy from to words) = Unit {0}
TakesMemory (Flip copies) = Unit {0}
TakesMemory rec = ⊥
