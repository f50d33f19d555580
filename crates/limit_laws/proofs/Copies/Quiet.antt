-- Events of no session.
use Rattle.std.proofs.Common.{◌≡◌, ℕ, Bool, true, false, List, [], ◌∷◌, Option, None, Some, refl, ap}
use Rattle.std.specs.Prelude.{if◌then◌else◌}
use Rattle.graph_model.specs.declared.event.Event.{Event}
use Rattle.graph_model.specs.declared.event.Event.TheVariants.{Seal, Force, Flip, Scan, Flush}
use Rattle.graph_model.specs.declared.reply.Refusal.{Refusal}
use Rattle.graph_model.specs.declared.reply.Refusal.TheVariants.{DiskFault, Stopped}
use Rattle.graph_model.specs.declared.reply.Reply.TheVariants as reply
use Rattle.graph_model.specs.History.{Account, account, account_after, session_of, AreOfSession, IsOfSession}
use Rattle.graph_model.specs.Kinds.{Kind, Collects, Saves, kind_of, AreOfNone}
use Rattle.heap_spaces.specs.Collection.{Collection}
use Rattle.log_records.specs.declared.Record.{Record}
use Rattle.log_machine.specs.Machine.{State}
use Rattle.collection_words.specs.Placing.{moved_by_all}
use Rattle.heap_model.specs.Collecting.{flip_reply, next_page, scan_reply, scan_reply_in}
use Rattle.heap_model.specs.Core.{Core, done, event_records, granted_by, ground, is_dirty, moved, own_records, placing, transfers}
use Rattle.heap_model.proofs.Step.Transfers.{placing_made}
use Rattle.heap_model.proofs.Step.Moved.{moved_is}
use Rattle.limit_laws.specs.Copies.{IsOfNone}

-- The account.

-- An account has the sessions and the sealed transactions of another one.
pub record IsStill (a b : Account) : Type 0 where
  pub active : b.active ≡ a.active
  pub sealed : b.sealed ≡ a.sealed

-- after a refusal
pub still_refused : (a : Account) (event : Event) (why : Refusal) → IsOfNone event → IsStill a (account_after a (record { event = event; reply = reply.Refused why }))
still_refused a (Seal s) DiskFault is = absurd is
still_refused a (Seal s) Stopped is = absurd is
still_refused a event DiskFault is = record { active = refl; sealed = refl }
still_refused a event Stopped is = record { active = refl; sealed = refl }
still_refused a event why is = record { active = refl; sealed = refl }

still_flush : (a : Account) (p : ℕ) (dirty : Bool) → IsStill a (account_after a (record { event = Flush p; reply = if dirty then reply.Flushed p else reply.Clean p }))
still_flush a p true = record { active = refl; sealed = refl }
still_flush a p false = record { active = refl; sealed = refl }

still_flip : (a : Account) (rs : List Record) → IsStill a (account_after a (record { event = Flip; reply = flip_reply rs }))
still_flip a [] = record { active = refl; sealed = refl }
still_flip a (r ∷ rs) = record { active = refl; sealed = refl }

still_scan_in : (a : Account) (s : State) (rs : List Record) (o : Option Collection) (page : Option ℕ) → IsStill a (account_after a (record { event = Scan; reply = scan_reply_in s rs o page }))
still_scan_in a s rs None page = record { active = refl; sealed = refl }
still_scan_in a s rs (Some k) None = record { active = refl; sealed = refl }
still_scan_in a s rs (Some k) (Some page) = record { active = refl; sealed = refl }

still_scan : (a : Account) (o : Option State) (rs : List Record) → IsStill a (account_after a (record { event = Scan; reply = scan_reply o rs }))
still_scan a None rs = record { active = refl; sealed = refl }
still_scan a (Some s) rs = still_scan_in a s rs s.collection (next_page s.collection)

-- and after an answer to an event of no session
pub still_granted : (c : Core) (event : Event) → IsOfNone event → IsStill (account c.history) (account_after (account c.history) (record { event = event; reply = granted_by c event }))
still_granted c Force is = record { active = refl; sealed = refl }
still_granted c Flip is = still_flip (account c.history) (own_records c Flip)
still_granted c Scan is = still_scan (account c.history) (ground c).state (own_records c Scan)
still_granted c (Flush p) is = still_flush (account c.history) p (is_dirty c p)
still_granted c event is = absurd is

-- The placing.

place_moved : (c : Core) (rs : List Record) → placing (moved c rs) ≡ moved_by_all (placing c) rs
place_moved c rs = ap placing (moved_is c rs)

-- an event of no session leaves objects where its records move them
pub place_done : (c : Core) (event : Event) → IsOfNone event → placing (done c event) ≡ moved_by_all (placing c) (event_records c event)
place_done c Force is = placing_made c (transfers c Force)
place_done c (Flush p) is = placing_made c (transfers c (Flush p))
place_done c Flip is = place_moved c (own_records c Flip)
place_done c Scan is = place_moved c (own_records c Scan)
place_done c event is = absurd is

-- an event of no session is one of a session, or of none
pub of_none : (event : Event) → IsOfNone event → IsOfSession event
of_none event is = by (session_of event) (kind_of event) is
  where
    by : (s : ℕ) (kind : Kind) → AreOfNone kind → AreOfSession s kind
    by s Collects is = tt
    by s Saves is = tt
    by s kind is = absurd is
