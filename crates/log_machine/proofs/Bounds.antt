-- What records do to the state, in parts.
use Rattle.std.specs.Prelude.{◌≡◌, ◌+◌, ◌≤◌, List, true, cond}
use Rattle.std.specs.List.{AllByRecursion}
use Rattle.std.specs.Ordering.{nat_cmp}
use Rattle.std.specs.FinMap.{FinMap}
use Rattle.log_records.specs.declared.Record.{Record}
use Rattle.log_machine.specs.declared.UndoEntry.{UndoEntry}
use Rattle.log_machine.proofs.Entries.{IsEntry}
use Rattle.log_machine.specs.Machine.{State, number_of, is_number_or_none, next_with, is_commit}
use Rattle.log_machine.specs.Entries.{EachKeyed}
use Rattle.log_machine.specs.Sound.{AreLosers, IsSpaced}

-- their undos have spellings
abbrev pub HaveSpellings : FinMap nat_cmp (List UndoEntry) → Type 0
HaveSpellings undo = EachKeyed (λ t entries. AllByRecursion IsEntry entries) undo

-- The writes that may be taken back are such that records can take them back.
pub record CanRollBack (s : State) : Type 0 where
  pub sound : AreLosers s
  pub entries : HaveSpellings s.undo

-- What one record does to the state, whatever it is.
pub record Turns (s : State) (r : Record) (n : State) : Type 0 where
  pub number : is_number_or_none (number_of r) ≡ true
  pub pages : n.pages ≡ s.pages
  pub spaced : IsSpaced s → IsSpaced n
  pub commits : n.commits ≡ s.commits + cond (is_commit r) 1 0
  pub next : n.next ≡ next_with s.next (number_of r)

-- What records do to the state, whatever they are.
pub record Leads (s n : State) : Type 0 where
  pub pages : n.pages ≡ s.pages
  pub spaced : IsSpaced s → IsSpaced n
  pub grows : s.next ≤ n.next
  pub next_in_range : s.next ≤ 4294967295 → n.next ≤ 4294967295
