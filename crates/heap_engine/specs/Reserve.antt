-- What the working state keeps for its transactions, and what is known of them.
use Rattle.std.specs.Prelude.{◌≡◌, ℕ, ◌+◌, ◌<◌, ◌^◌, nat_lt, Bool, true, List, [], All, sum_by, Option, None, Some}
use Rattle.std.specs.List.{AllPass}
use Rattle.graph_model.specs.History.{sessions, IsSession}
use Rattle.log_machine.specs.declared.UndoEntry.{UndoEntry}
use Rattle.log_machine.specs.Machine.{field_at}
use Rattle.log_machine.specs.Translation.{translated_list}
use Rattle.txn_table.specs.declared.place.Place.{Place}
use Rattle.txn_table.specs.declared.place.Place.TheVariants.{Stable, Volatile}
use Rattle.txn_table.specs.Table.{TransactionState, TableState, transaction_of}
use Rattle.heap_memory.specs.Memory.{reserved}
use Rattle.heap_words.specs.declared.TheConstants.{STABLE_WORDS, VOLATILE_WORDS}

abbrev pub one_if : Option TransactionState → ℕ
one_if None = 0
one_if (Some t) = 1

-- how many transactions are active
abbrev pub active_count : TableState → ℕ
active_count table = sum_by (λ s. one_if (transaction_of table s)) sessions

-- the writes of a transaction that may be taken back, the newest first, if there is one
abbrev pub undo_if : Option TransactionState → List UndoEntry
undo_if None = []
undo_if (Some t) = t.undo

-- these writes wrote words below an address
abbrev pub WroteBelow : ℕ → List UndoEntry → Type 0
WroteBelow end undo = All (λ u. field_at u.object u.field < end) undo

-- what each session's transaction wrote, if it has one, lies in that many words after objects have moved
abbrev pub GoAlongBelow : ℕ → List (ℕ × ℕ) → TableState → Type 0
GoAlongBelow end pairs table = (s : ℕ) → WroteBelow end (translated_list pairs (undo_if (transaction_of table s)))

-- a field's word can refer to the object at a place, if there is one
abbrev pub can_refer : Option Place → Bool
can_refer None = true
can_refer (Some (Stable at)) = nat_lt at STABLE_WORDS
can_refer (Some (Volatile at)) = nat_lt at VOLATILE_WORDS

-- it can refer to what each handle holds
abbrev pub HoldPlaces : List (Option Place) → Type 0
HoldPlaces handles = AllPass can_refer handles

-- What is known of the transaction of a session, if there are `size` words, and this is the next transaction's number.
pub record IsSoundTransaction (size next s : ℕ) (t : TransactionState) : Type 0 where
  pub session : IsSession s
  pub number : t.number < next
  pub inside : WroteBelow size t.undo  -- what it wrote lies in the words
  pub held : HoldPlaces t.handles

-- What is known of all of them, if this many bytes are kept for their ends, and this many were sealed.
pub record AreSound (table : TableState) (size bytes sealed : ℕ) : Type 0 where
  pub each : (s : ℕ) (t : TransactionState) → transaction_of table s ≡ Some t → IsSoundTransaction size table.next s t
  pub kept : bytes ≡ reserved table
  pub counted : sealed + active_count table < table.next
  pub numbered : table.next < 2 ^ 32
