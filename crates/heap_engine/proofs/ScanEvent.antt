-- The event that scans the next page: which page that is, its records and its answers.
use Rattle.std.proofs.Common.{◌≡◌, ℕ, ◌/◌, ◌<◌, List, Option, None, Some, Result, Ok, refl, sym, ap, ◌∙◌, subst, arith}
use Rattle.std.specs.Prelude.{IfOk}
use Rattle.heap_spaces.specs.Collection.{Collection}
use Rattle.heap_spaces.specs.Spaces.{SpacesState, IsSpaces}
use Rattle.flip_copy.proofs.CopiesLaws.{used_within}
use Rattle.graph_model.specs.declared.reply.Refusal.{Refusal}
use Rattle.graph_model.specs.declared.reply.Reply.{Reply}
use Rattle.graph_model.specs.declared.reply.Reply.TheVariants.{Scanned, Collected, Refused}
use Rattle.graph_model.specs.Plain.{reply_of}
use Rattle.log_records.specs.declared.Record.{Record}
use Rattle.heap_memory.specs.Memory.{Memory}
use Rattle.heap_memory.specs.Collecting.{IsNextPage, page_records, scan_event_records, spaces_behind, collection_behind}
use Rattle.heap_memory.specs.Leaves.{Leaves, Scans}
use Rattle.heap_memory.specs.Refusals.{records_room, scan_refusal}
use Rattle.heap_memory.specs.Replies.{scan_reply, scan_reply_of}
use Rattle.heap_engine.specs.Barrier.{IsSoundIn}

-- the collection that runs
running : (runs : Option Collection) (page : ℕ) → IsNextPage runs (Some page) → (k : Collection) × (runs ≡ Some k)
running None page next = absurd (cc next)
running (Some k) page next = (k, refl)

-- the page is one of the current space's
pub page_low : (spaces : SpacesState) (runs : Option Collection) (page : ℕ) → IsSpaces spaces → IsSoundIn spaces runs → IsNextPage runs (Some page) → page < 67108864
page_low spaces None page is sound next = absurd (cc next)
page_low spaces (Some k) page is sound next =
    let within = used_within spaces is in
    let below = (sound k refl).gray next.at next.gray in
    let here : next.at / 64 ≡ page = next.here in
    omega (arith, within, below, here)

module _ (m : Memory) (page : ℕ) (next : IsNextPage m.collection (Some page)) (records : List Record) (are : records ≡ page_records m page) where
  -- the event has the page's records
  pub page_event : records ≡ scan_event_records m m.collection (Some page)
  page_event = are ∙ sym (ap (λ (runs : Option Collection). scan_event_records m runs (Some page)) (running m.collection page next).1)

  -- and is refused where the log has no room for them
  pub page_refused : (why : Option Refusal) → why ≡ records_room m records → why ≡ scan_refusal m (Some page)
  page_refused why is = is ∙ ap (records_room m) page_event

  -- what it leaves
  pub page_scans : (new : Memory) → Leaves m new records m.table m.locks (spaces_behind m.spaces records) (collection_behind m.collection records) m.sealed → Scans m new (Some page)
  page_scans new left = record {
    next_page = next;
    left = subst (λ (rs : List Record). Leaves m new rs m.table m.locks (spaces_behind m.spaces rs) (collection_behind m.collection rs) m.sealed) page_event left;
  }

-- an answer by the refusal
pub answers_refused : (refusal : Option Refusal) (why : Refusal) (answer reply : Reply) → refusal ≡ Some why → answer ≡ Refused why → answer ≡ reply_of refusal reply
answers_refused refusal why answer reply is told = told ∙ sym (ap (λ (r : Option Refusal). reply_of r reply) is)

-- What the scan of a page answers.

pub answered : {E : Type 0} (result : Result Reply E) (reply wanted : Reply) → result ≡ Ok reply → IfOk result (λ told. told ≡ wanted) → reply ≡ wanted
answered result reply wanted is told = let P : Result Reply _ → Type 0 = λ r. IfOk r (λ x. x ≡ wanted) in subst P is told

by_page : (m : Memory) (refusal : Option Refusal) (runs : Option Collection) (page p objects words : ℕ) → Scanned p objects words ≡ reply_of refusal (scan_reply_of m runs (Some page)) → p ≡ page
by_page m (Some why) runs page p objects words is = absurd (cc is)
by_page m None None page p objects words is = absurd (cc is)
by_page m None (Some k) page p objects words is = cc is

-- no other page
pub scanned_page : (m : Memory) (page p objects words : ℕ) → Scanned p objects words ≡ reply_of (scan_refusal m (Some page)) (scan_reply m (Some page)) → p ≡ page
scanned_page m page p objects words is = by_page m (scan_refusal m (Some page)) m.collection page p objects words is

by_end : (m : Memory) (refusal : Option Refusal) (runs : Option Collection) (page used : ℕ) → Collected used ≡ reply_of refusal (scan_reply_of m runs (Some page)) → ⊥
by_end m (Some why) runs page used is = cc is
by_end m None None page used is = cc is
by_end m None (Some k) page used is = cc is

-- and no end of the collection
pub scanned_no_end : (m : Memory) (page used : ℕ) → Collected used ≡ reply_of (scan_refusal m (Some page)) (scan_reply m (Some page)) → ⊥
scanned_no_end m page used is = by_end m (scan_refusal m (Some page)) m.collection page used is
