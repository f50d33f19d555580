-- What the transfers of an event change and what they leave.
use Rattle.std.specs.Prelude.{fold, Contains, if◌then◌else◌}
use Rattle.std.specs.List.{AllByRecursion}
use Rattle.std.proofs.Common.{◌≡◌, ◌≢◌, ◌⊎◌, arith, inl, inr, ℕ, ◌+◌, zero, suc, lit<, Bool, true, false, List, [], ◌∷◌, ◌++◌, refl, sym, ap, ◌∙◌}
use Rattle.std.proofs.lemmas.List.{append-nil}
use Rattle.graph_model.specs.declared.event.Event.{Event}
use Rattle.graph_model.specs.declared.event.Event.TheVariants.{Force, Flip, Scan, Flush}
use Rattle.graph_model.specs.declared.reply.Reply.{Reply}
use Rattle.graph_model.specs.Kinds.{Saves, kind_of}
use Rattle.gated_log.specs.Log.{records_of, with_batch}
use Rattle.log_records.specs.declared.Record.{Record}
use Rattle.heap_model.specs.Core.{Core, Transfer, Lands, Stores, all_records, batch_of, barrier_records, calls_of, done, force_calls, landed, made, noted, own_records, placing, stages_from, store_calls, storing, transfers, with_entry}
use Rattle.heap_model.specs.CoreCrash.{IsOnDisk}
use Rattle.heap_model.proofs.Step.Moved.{moved_history}
use Rattle.heap_model.proofs.Step.Room.{records_of-append}

-- what each transfer keeps, any number of them keep
pub all_made : (P : Core → Type 0) → ((d : Core) (t : Transfer) → P d → P (made d t)) → (c : Core) (ts : List Transfer) → P c → P (fold made c ts)
all_made P keeps c [] holds = holds
all_made P keeps c (t ∷ ts) holds = all_made P keeps (made c t) ts (keeps c t holds)

-- only an event that saves what the heap has makes some
pub no_transfers : (c : Core) (event : Event) → kind_of event ≢ Saves → transfers c event ≡ []
no_transfers c Force other = absurd (other refl)
no_transfers c (Flush p) other = absurd (other refl)
no_transfers c event other = refl

-- one that makes none leaves what it notes
pub done_noted : (c : Core) (event : Event) → transfers c event ≡ [] → done c event ≡ noted c event
done_noted c event none = ap (fold made (noted c event)) none

-- The history, and the places of objects.

landed_history : (c : Core) (waits : List (List Record)) → (landed c waits).history ≡ c.history
landed_history c [] = refl
landed_history c (next ∷ waits) = refl

pub made_history : (c : Core) (t : Transfer) → (made c t).history ≡ c.history
made_history c Lands = landed_history c (batch_of c.pending)
made_history c (Stores p lsn) = refl

noted_history : (c : Core) (event : Event) → (noted c event).history ≡ c.history
noted_history c Force = refl
noted_history c (Flush p) = refl
noted_history c Flip = moved_history c (own_records c Flip)
noted_history c Scan = moved_history c (own_records c Scan)
noted_history c event = moved_history c (barrier_records c event)

-- an event says nothing to the history until it is answered
pub done_history : (c : Core) (event : Event) → (done c event).history ≡ c.history
done_history c event = all_made (λ d. d.history ≡ c.history) (λ d t is. made_history d t ∙ is) (noted c event) (transfers c event) (noted_history c event)

landed_entry : (c : Core) (waits : List (List Record)) (event : Event) (reply : Reply) → landed (with_entry c event reply) waits ≡ with_entry (landed c waits) event reply
landed_entry c [] event reply = refl
landed_entry c (next ∷ waits) event reply = refl

made_entry : (c : Core) (t : Transfer) (event : Event) (reply : Reply) → made (with_entry c event reply) t ≡ with_entry (made c t) event reply
made_entry c Lands event reply = landed_entry c (batch_of c.pending) event reply
made_entry c (Stores p lsn) event reply = refl

-- an event may be answered before its transfers or behind them
pub all_made_entry : (c : Core) (ts : List Transfer) (event : Event) (reply : Reply) → fold made (with_entry c event reply) ts ≡ with_entry (fold made c ts) event reply
all_made_entry c [] event reply = refl
all_made_entry c (t ∷ ts) event reply = ap (λ (d : Core). fold made d ts) (made_entry c t event reply) ∙ all_made_entry (made c t) ts event reply

landed_placing : (c : Core) (waits : List (List Record)) → placing (landed c waits) ≡ placing c
landed_placing c [] = refl
landed_placing c (next ∷ waits) = refl

pub made_placing : (c : Core) (t : Transfer) → placing (made c t) ≡ placing c
made_placing c Lands = landed_placing c (batch_of c.pending)
made_placing c (Stores p lsn) = refl

-- objects stay where they are
pub placing_made : (c : Core) (ts : List Transfer) → placing (fold made c ts) ≡ placing c
placing_made c ts = all_made (λ d. placing d ≡ placing c) (λ d t is. made_placing d t ∙ is) c ts refl

-- The records.

landed_records : (c : Core) (p : List Record) → c.pending ≡ p → all_records (landed c (batch_of p)) ≡ all_records c
landed_records c [] is = refl
landed_records c (r ∷ rs) is = append-nil (records_of (c.batches ++ (r ∷ rs) ∷ [])) ∙ records_of-append c.batches (r ∷ rs) ∙ ap (λ (l : List Record). records_of c.batches ++ l) (sym is)

made_records : (c : Core) (t : Transfer) → all_records (made c t) ≡ all_records c
made_records c Lands = landed_records c c.pending refl
made_records c (Stores p lsn) = refl

-- none is lost, whether it is pending or on the disk
pub records_made : (c : Core) (ts : List Transfer) → all_records (fold made c ts) ≡ all_records c
records_made c ts = all_made (λ d. all_records d ≡ all_records c) (λ d t is. made_records d t ∙ is) c ts refl

-- The stored pages.

-- the transfers that store no page
abbrev pub IsLanding : Transfer → Type 0
IsLanding Lands = Unit {0}
IsLanding (Stores p lsn) = ⊥

-- what landings keep, any number of them keep
pub all_landed : (P : Core → Type 0) → ((d : Core) → P d → P (made d Lands)) → (c : Core) (ts : List Transfer) → AllByRecursion IsLanding ts → P c → P (fold made c ts)
all_landed P keeps c [] all holds = holds
all_landed P keeps c (Lands ∷ ts) all holds = all_landed P keeps (made c Lands) ts all.1 (keeps c holds)
all_landed P keeps c (Stores p lsn ∷ ts) all holds = absurd all.0

-- none at all store none
pub none_stored : (ts : List Transfer) → ts ≡ [] → AllByRecursion IsLanding ts
none_stored [] none = tt
none_stored (t ∷ ts) none = absurd (cc none)

-- The log on the disk.

stage_first : (bs : List (List Record)) (waits : List (List Record)) → Contains (stages_from bs waits) bs
stage_first bs [] = (0, lit< tt, refl)
stage_first bs (next ∷ waits) = (0, omega arith, refl)

-- the batches that were forced are on the disk
pub stage_now : (c : Core) → IsOnDisk c c.batches
stage_now c = stage_first c.batches (batch_of c.pending)

stage_second : (bs : List (List Record)) (p : List Record) → Contains (stages_from bs (batch_of p)) (with_batch bs p)
stage_second bs [] = (0, lit< tt, refl)
stage_second bs (r ∷ rs) = (1, lit< tt, refl)

-- or the pending records as one more
pub stage_landed : (c : Core) → IsOnDisk c (with_batch c.batches c.pending)
stage_landed c = stage_second c.batches c.pending

stage_of : (bs : List (List Record)) (p : List Record) (all : List (List Record)) → Contains (stages_from bs (batch_of p)) all → (all ≡ bs) ⊎ (all ≡ with_batch bs p)
stage_of bs [] all (zero, low, is) = inl (sym is)
stage_of bs [] all (suc k, low, is) = absurd (omega (arith, low))
stage_of bs (r ∷ rs) all (zero, low, is) = inl (sym is)
stage_of bs (r ∷ rs) all (suc zero, low, is) = inr (sym is)
stage_of bs (r ∷ rs) all (suc (suc k), low, is) = absurd (omega (arith, low))

-- and nothing else
pub stage_is : (c : Core) (all : List (List Record)) → IsOnDisk c all → (all ≡ c.batches) ⊎ (all ≡ with_batch c.batches c.pending)
stage_is c all on = stage_of c.batches c.pending all on

-- How many calls they make.

landed_gates : (c : Core) (waits : List (List Record)) → (landed c waits).gates ≡ c.gates
landed_gates c [] = refl
landed_gates c (next ∷ waits) = refl

-- what lands leaves the gates of pages
pub gates_landed : (c : Core) → (made c Lands).gates ≡ c.gates
gates_landed c = landed_gates c (batch_of c.pending)

-- to store a page takes the calls of a store, after those of a force where the page is ahead of the log on the disk
pub calls_storing : (c : Core) (dirty ahead : Bool) (p lsn : ℕ) → calls_of c (storing dirty ahead p lsn) ≡ (if dirty then (if ahead then force_calls c.pending else 0) + store_calls (c.gates p) else 0)
calls_storing c true true p lsn =
    let gates = ap (λ (f : ℕ → ℕ). store_calls (f p)) (gates_landed c) in
    omega (arith, gates)
calls_storing c true false p lsn = omega arith
calls_storing c false ahead p lsn = refl
