-- What holds of every state that records reach.
use Rattle.std.specs.Prelude.{◌≡◌, ◌≢◌, ◌⊎◌, ℕ, ◌+◌, ◌<◌, ◌≤◌, List, [], true, MatchOption}
use Rattle.std.specs.List.{AllByRecursion}
use Rattle.std.specs.Ordering.{nat_cmp}
use Rattle.std.specs.FinMap.{FinMap}
use Rattle.heap_spaces.specs.Collection.{Collection}
use Rattle.log_machine.specs.declared.UndoEntry.{UndoEntry}
use Rattle.log_machine.specs.UndoEntry.{LiesInside}
use Rattle.log_machine.specs.Machine.{State, space_words, words_in, owed, is_number}
use Rattle.log_machine.specs.Entries.{EachKeyed}
use Rattle.heap_words.specs.declared.TheConstants.{STABLE_WORDS}

-- A transaction whose writes may be taken back, and these.
pub record IsLoser (s : State) (t : ℕ) (entries : List UndoEntry) : Type 0 where
  pub some : entries ≢ []
  pub number : is_number t ≡ true
  pub known : t < s.next
  pub inside : AllByRecursion (LiesInside s.base s.used) entries  -- each is a write of a used word

-- no transaction has an empty list
abbrev pub NoneEmpty : FinMap nat_cmp (List UndoEntry) → Type 0
NoneEmpty undo = EachKeyed (λ t entries. entries ≢ []) undo

-- each of the transactions whose writes may be taken back is a loser
abbrev pub AreLosers : State → Type 0
AreLosers s = EachKeyed (IsLoser s) s.undo

-- What a collection has copied are words of the from-space, which is a space.
pub record IsWithin (pages : ℕ) (k : Collection) : Type 0 where
  pub copied : k.copied ≤ k.used
  pub used : k.used ≤ space_words pages

-- How the spaces of every state are: the current one is one of the two, and it has room for what a collection has still to copy.
pub record IsSpaced (s : State) : Type 0 where
  pub first : (s.base ≡ 0) ⊎ (s.base ≡ space_words s.pages)
  pub room : s.used + owed s ≤ space_words s.pages
  pub within : MatchOption s.collection (Unit {0}) (IsWithin s.pages)

-- What holds of every state that records reach.
pub record IsConsistent (s : State) : Type 0 where
  pub sound : AreLosers s
  pub addresses : words_in s.pages ≤ STABLE_WORDS  -- a reference has room for each address
  pub spaced : IsSpaced s
