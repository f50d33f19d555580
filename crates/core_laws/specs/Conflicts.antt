-- Calls that other transactions hinder.
use Rattle.std.proofs.Common.{◌≡◌, ℕ, Some}
use Rattle.graph_model.specs.declared.event.Event.{Event}
use Rattle.graph_model.specs.Graph.{Graph}
use Rattle.graph_model.specs.Transaction.{Transaction}
use Rattle.graph_model.specs.History.{Account, session_of}
use Rattle.graph_model.specs.Locking.{Lock, lock_of, IsInTheWay, IsBusy}
use Rattle.graph_model.specs.Plain.{view}

-- A call gives way to this holder, which is the least of those in the way of the lock that it needs.
pub record GivesWay (g0 : Graph) (a : Account) (event : Event) (holder : ℕ) : Type 0 where
  pub transaction : Transaction
  pub active : a.active (session_of event) ≡ Some transaction
  pub lock : Lock
  pub needs : lock_of (view g0 a transaction).registers event ≡ Some lock
  pub busy : IsBusy g0 a transaction.number lock holder

-- Another transaction is in the way of a call.
pub record IsHindered (g0 : Graph) (a : Account) (event : Event) : Type 0 where
  pub transaction : Transaction
  pub active : a.active (session_of event) ≡ Some transaction
  pub lock : Lock
  pub needs : lock_of (view g0 a transaction).registers event ≡ Some lock
  pub other : ℕ
  pub in_the_way : IsInTheWay g0 a transaction.number lock other
