-- Strict two-phase locking: which objects a transaction holds, and what conflicts with that. There is no lock table here.
use Rattle.std.specs.Prelude.{◌≡◌, ◌≢◌, ℕ, ◌≤◌, ◌==◌, Bool, true, false, not, ◌&&◌, List, [], ◌∷◌, ◌++◌, Option, None, Some, filter_map, min, if◌then◌else◌}
use Rattle.std.specs.List.{Contains, list_any}
use Rattle.std.specs.Option.{option_map, option_to_list}
use Rattle.graph_model.specs.declared.id.Id.{Id}
use Rattle.graph_model.specs.declared.event.Event.{Event}
use Rattle.graph_model.specs.declared.event.Event.TheVariants.{Put, Clear, Link, Get}
use Rattle.graph_model.specs.Graph.{Graph, is_same_id}
use Rattle.graph_model.specs.Transaction.{Registers, View, Transaction, held, call, fresh_view, serial}
use Rattle.graph_model.specs.History.{Account, sessions}

-- How an object is held: shared with others that read it, or exclusively.
pub data Mode : Type 0 where
  Shared : Mode
  Exclusive : Mode

-- an object, and how it is held
abbrev pub Lock : Type 0
Lock = Id × Mode

-- this object, held in this mode
abbrev pub in_mode : Mode → Id → Lock
in_mode mode id = (id, mode)

-- a lock of this mode on what handle h holds, if it holds an object
abbrev pub lock_on : Registers → ℕ → Mode → Option Lock
lock_on registers h mode = option_map (in_mode mode) (held registers h)

-- The lock that a call needs: it reads or writes a field of the object that its first handle holds. Other calls need none.
abbrev pub lock_of : Registers → Event → Option Lock
lock_of registers (Put s h i n) = lock_on registers h Exclusive
lock_of registers (Clear s h i) = lock_on registers h Exclusive
lock_of registers (Link s h i h2) = lock_on registers h Exclusive
lock_of registers (Get s h i h2) = lock_on registers h Shared
lock_of registers event = None

-- the locks that these calls need, one after another
abbrev pub locks_of_calls : View → ℕ → List Event → List Lock
locks_of_calls view t [] = []
locks_of_calls view t (c ∷ cs) = option_to_list (lock_of view.registers c) ++ locks_of_calls (call view t c).view t cs

-- the locks of a transaction that runs on this graph
abbrev pub locks_of : Graph → Transaction → List Lock
locks_of g t = locks_of_calls (fresh_view g) t.number t.calls

-- Transaction n is active and holds the object in this mode: it has made a call that needs this lock.
pub record HoldsLock (g0 : Graph) (a : Account) (n : ℕ) (id : Id) (mode : Mode) : Type 0 where
  pub session : ℕ
  pub transaction : Transaction
  pub active : a.active session ≡ Some transaction
  pub number : transaction.number ≡ n
  pub lock : Contains (locks_of (serial g0 a.sealed) transaction) (id, mode)

-- two modes in which one object is held conflict unless both are shared
abbrev pub modes_conflict : Mode → Mode → Bool
modes_conflict Shared Shared = false
modes_conflict Shared Exclusive = true
modes_conflict Exclusive mode = true

abbrev pub Conflict : Mode → Mode → Type 0
Conflict mode other = modes_conflict mode other ≡ true

-- Another active transaction holds what conflicts with this lock of transaction n.
pub record IsInTheWay (g0 : Graph) (a : Account) (n : ℕ) (lock : Lock) (other : ℕ) : Type 0 where
  pub differs : other ≢ n
  pub mode : Mode
  pub holds : HoldsLock g0 a other lock.0 mode
  pub conflicts : Conflict mode lock.1

-- no other active transaction holds what conflicts with the lock of transaction n, if it needs one
abbrev pub IsFree : Graph → Account → ℕ → Option Lock → Type 0
IsFree g0 a n None = Unit {0}
IsFree g0 a n (Some lock) = (other : ℕ) → IsInTheWay g0 a n lock other → ⊥

-- Of the transactions in the way of a lock, this one has the least number.
pub record IsBusy (g0 : Graph) (a : Account) (n : ℕ) (lock : Lock) (holder : ℕ) : Type 0 where
  pub in_the_way : IsInTheWay g0 a n lock holder
  pub least : (other : ℕ) → IsInTheWay g0 a n lock other → holder ≤ other

-- whether a lock of another transaction conflicts with this one
abbrev pub locks_conflict : Lock → Lock → Bool
locks_conflict lock held = is_same_id held.0 lock.0 && modes_conflict held.1 lock.1

-- whether a transaction that runs on this graph has a lock that conflicts with one of transaction n
abbrev pub stands_in_the_way : Graph → ℕ → Lock → Transaction → Bool
stands_in_the_way g n lock t = not (t.number == n) && list_any (locks_conflict lock) (locks_of g t)

-- its number, if there is one and it has
abbrev pub holder_in_the_way : Graph → ℕ → Lock → Option Transaction → Option ℕ
holder_in_the_way g n lock None = None
holder_in_the_way g n lock (Some t) = if stands_in_the_way g n lock t then Some t.number else None

-- the numbers of all that have one
abbrev pub holders_in_the_way : Graph → Account → ℕ → Lock → List ℕ
holders_in_the_way g0 a n lock = filter_map (λ s. holder_in_the_way (serial g0 a.sealed) n lock (a.active s)) sessions

-- the lesser of a number and another that may be there
abbrev pub lesser : ℕ → Option ℕ → ℕ
lesser n None = n
lesser n (Some m) = min n m

-- the least of these numbers
abbrev pub least : List ℕ → Option ℕ
least [] = None
least (n ∷ ns) = Some (lesser n (least ns))

-- the least of the numbers of those with a lock that conflicts with one of transaction n, if it needs one
abbrev pub busy_holder : Graph → Account → ℕ → Option Lock → Option ℕ
busy_holder g0 a n None = None
busy_holder g0 a n (Some lock) = least (holders_in_the_way g0 a n lock)
