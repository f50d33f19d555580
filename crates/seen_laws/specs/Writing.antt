-- Where records write while a collection runs: in the current space, and forwarding words in the from-space.
use Rattle.std.specs.Prelude.{◌≡◌, ◌⊎◌, ℕ, ◌+◌, ◌<◌, ◌≤◌, true}
use Rattle.std.specs.List.{AllByRecursion, flat_map}
use Rattle.heap_words.specs.declared.Header.TheVariants.{Forward}
use Rattle.heap_words.specs.Header.{header_bits}
use Rattle.log_records.specs.declared.Record.{Record}
use Rattle.log_records.specs.declared.Record.TheVariants.{Update, Base, Fix, Undo, Commit, End, Copy, Scan, Flip, Collected}
use Rattle.log_machine.specs.Machine.{State, addresses, copy_writes, field_at, space_words, writes_of}
use Rattle.log_machine.specs.Collecting.{with_roles_changed}
use Rattle.collection_words.specs.Completed.{in_other_space}

-- A used word of the current space.
pub record IsUsedWord (s : State) (at : ℕ) : Type 0 where
  pub above : s.base ≤ at
  pub below : at < s.base + s.used

-- A word of the current space that is not used.
pub record IsFreeWord (s : State) (at : ℕ) : Type 0 where
  pub above : s.base + s.used ≤ at
  pub below : at < s.base + space_words s.pages

-- A write puts a forwarding word into the from-space, which leads to a copy.
pub record IsForwarding (s : State) (write : ℕ × ℕ) : Type 0 where
  pub to : ℕ
  pub old : in_other_space s write.0 ≡ true
  pub word : write.1 ≡ header_bits (Forward to)
  pub leads : IsFreeWord s to

-- what a copy writes: words that were not used, and a forwarding word
abbrev pub IsCopyWrite : State → ℕ × ℕ → Type 0
IsCopyWrite s write = IsFreeWord s write.0 ⊎ IsForwarding s write

-- Where a record of each kind writes; a flip does it as the spaces are when they have changed their roles.
abbrev pub WritesInPlace : State → Record → Type 0
WritesInPlace s (Update t object field was word) = IsUsedWord s (field_at object field)
WritesInPlace s (Base t address words) = AllByRecursion (IsFreeWord s) (addresses (Base t address words))
WritesInPlace s (Fix t object field word) = IsUsedWord s (field_at object field)
WritesInPlace s (Undo t object field word) = IsUsedWord s (field_at object field)
WritesInPlace s (Commit t) = Unit {0}
WritesInPlace s (End t) = Unit {0}
WritesInPlace s (Copy from to words) = AllByRecursion (IsCopyWrite s) (copy_writes from to words)
WritesInPlace s (Scan page writes) = AllByRecursion (λ w. IsUsedWord s w.0) writes
WritesInPlace s (Flip copies) = AllByRecursion (IsCopyWrite (with_roles_changed s)) (flat_map writes_of copies)
WritesInPlace s Collected = Unit {0}

-- a word is a forwarding word
abbrev pub IsForwardingWord : ℕ → Type 0
IsForwardingWord w = (to : ℕ) × (w ≡ header_bits (Forward to))
