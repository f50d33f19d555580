-- Events by kind: what differs by that alone is told by it, and need not name each event.
use Rattle.std.specs.Prelude.{ℕ, Option, None, Some}
use Rattle.graph_model.specs.declared.event.Event.{Event}
use Rattle.graph_model.specs.declared.event.Event.TheVariants.{Begin, Root, New, Put, Clear, Link, Drop, Get, Same, Len, Seal, Abort, Force, Flip, Scan, Flush}

-- What an event does: it begins a transaction, is a call of one, ends one, is a part of a collection, or saves what the heap has, on its disk.
pub data Kind : Type 0 where
  Begins : Kind
  Calls : Kind
  Ends : Kind
  Collects : Kind
  Saves : Kind

-- the kind of each event
abbrev pub kind_of : Event → Kind
kind_of (Begin s) = Begins
kind_of (Root s h) = Calls
kind_of (New s h len) = Calls
kind_of (Put s h i v) = Calls
kind_of (Clear s h i) = Calls
kind_of (Link s h i h2) = Calls
kind_of (Drop s h) = Calls
kind_of (Get s h i h2) = Calls
kind_of (Same s h h2) = Calls
kind_of (Len s h) = Calls
kind_of (Seal s) = Ends
kind_of (Abort s) = Ends
kind_of Force = Saves
kind_of Flip = Collects
kind_of Scan = Collects
kind_of (Flush p) = Saves

-- events of this kind are calls of transactions
abbrev pub AreCalls : Kind → Type 0
AreCalls Calls = Unit {0}
AreCalls kind = ⊥

-- events of this kind are of no session
abbrev pub AreOfNone : Kind → Type 0
AreOfNone Collects = Unit {0}
AreOfNone Saves = Unit {0}
AreOfNone kind = ⊥

-- the handle and the field of a call that reads or writes a field of what its handle holds; all other events have none
abbrev pub used_field : Event → Option (ℕ × ℕ)
used_field (Put s h i v) = Some (h, i)
used_field (Clear s h i) = Some (h, i)
used_field (Link s h i h2) = Some (h, i)
used_field (Get s h i h2) = Some (h, i)
used_field event = None
