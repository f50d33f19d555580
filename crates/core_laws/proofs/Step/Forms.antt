-- What events append and place, by their form, and what holds where they are not refused.
use Rattle.std.proofs.Common.{◌≡◌, ◌≢◌, ℕ, ◌+◌, ◌^◌, ◌<◌, ◌≤◌, Bool, true, false, cond, [], ◌++◌, Option, Some, None, is_some, refl, ◌∙◌, subst, arith}
use Rattle.std.specs.Prelude.{nat_le}
use Rattle.std.proofs.lemmas.Bool.{leb-false, ltb-false}
use Rattle.graph_model.specs.declared.id.Id.{Id}
use Rattle.graph_model.specs.declared.event.Event.{Event}
use Rattle.graph_model.specs.declared.event.Event.TheVariants.{New, Put, Clear, Link, Seal, Abort, Force, Flip, Scan, Flush}
use Rattle.graph_model.specs.declared.reply.Refusal.{Refusal}
use Rattle.graph_model.specs.declared.reply.Refusal.TheVariants.{Range, VolatileFull}
use Rattle.graph_model.specs.Graph.{Graph}
use Rattle.graph_model.specs.Kinds.{Kind, Calls, kind_of, AreCalls, used_field}
use Rattle.graph_model.specs.Transaction.{View, Transaction, Registers, IsCall, held, reference_to}
use Rattle.graph_model.specs.History.{Account, account, session_of}
use Rattle.graph_model.specs.Plain.{no_int, field_refusal, put_refusal, link_refusal, call_refusal, granted}
use Rattle.core_laws.specs.Theorems.{IsOfTransactions}
use Rattle.heap_model.specs.Core.{Core, Ground, ground, next_number, call_records, kind_records, records_for, field_barrier, barrier_records, behind_barrier, own_records, event_places, area_refusal, page_refusal, granted_by, done}
use Rattle.graph_words.specs.Places.{Places, IsVisible, area_used}
use Rattle.heap_model.proofs.Step.Granted.{IsQuiet}
use Rattle.heap_model.proofs.Step.Handles.{HoldAllAtHand, held_at_hand}

-- the calls that write
abbrev pub is_write : Event → Bool
is_write (Put s h i v) = true
is_write (Clear s h i) = true
is_write (Link s h i h2) = true
is_write event = false

no_records : (g : Ground) (g0 : Graph) (a : Account) (o : Option Transaction) (event : Event) → IsCall event → is_write event ≡ false → call_records g g0 a o event ≡ []
no_records g g0 a None event is quiet = refl
no_records g g0 a (Some t) (Put s h i v) is quiet = cc
no_records g g0 a (Some t) (Clear s h i) is quiet = cc
no_records g g0 a (Some t) (Link s h i h2) is quiet = cc
no_records g g0 a (Some t) (Seal s) is quiet = absurd is
no_records g g0 a (Some t) (Abort s) is quiet = absurd is
no_records g g0 a (Some t) event is quiet = refl

kind_records-call : (g : Ground) (g0 : Graph) (a : Account) (o : Option Transaction) (event : Event) (kind : Kind) → AreCalls kind → kind_records g g0 a o event kind ≡ call_records g g0 a o event
kind_records-call g g0 a o event Calls is = refl
kind_records-call g g0 a o event kind is = absurd is

-- the records of a call are those of its session's transaction
pub call_records-event : (g : Ground) (g0 : Graph) (a : Account) (event : Event) → IsCall event → records_for g g0 a event ≡ call_records g g0 a (a.active (session_of event)) event
call_records-event g g0 a Flip is = absurd is
call_records-event g g0 a Scan is = absurd is
call_records-event g g0 a event is = kind_records-call g g0 a (a.active (session_of event)) event (kind_of event) is

-- a call that writes nothing appends no record of its own
pub quiet_records : (c : Core) (event : Event) → IsCall event → is_write event ≡ false → own_records c event ≡ []
quiet_records c event is quiet =
    let g = ground (behind_barrier c event) in
    call_records-event g c.g0 (account c.history) event is ∙ no_records g c.g0 (account c.history) ((account c.history).active (session_of event)) event is quiet

-- the events before which a page may be scanned
abbrev pub has_barrier : Event → Bool
has_barrier event = is_some (used_field event)

-- before any other one none is
pub no_barrier : (c : Core) (event : Event) → has_barrier event ≡ false → barrier_records c event ≡ []
no_barrier c event none = by (used_field event) none
  where
    by : (used : Option (ℕ × ℕ)) → is_some used ≡ false → field_barrier (ground c) c.g0 (account c.history) ((account c.history).active (session_of event)) used ≡ []
    by None none = refl
    by (Some used) none = absurd (cc none)

-- a call places no object in the current space
pub call_places : (c : Core) (event : Event) → IsCall event → event_places c event ≡ []
call_places c (Seal s) is = absurd is
call_places c event is = refl

-- the calls that make an object
abbrev pub is_new : Event → Bool
is_new (New s h len) = true
is_new event = false

-- a call that neither writes nor makes an object leaves the graph
pub quiet_call : (v : View) (t : ℕ) (event : Event) → is_write event ≡ false → is_new event ≡ false → IsQuiet v t event
quiet_call v t (New s h len) quiet old = cc
quiet_call v t (Put s h i n) quiet old = cc
quiet_call v t (Clear s h i) quiet old = cc
quiet_call v t (Link s h i h2) quiet old = cc
quiet_call v t event quiet old = record { graph = refl; made = refl }

-- a core with an event's own records after the pending ones
abbrev pub with_own : Core → Core → Event → Core
with_own b c event = record b { pending = b.pending ++ own_records c event; places = b.places ++ event_places b event }

-- what a call does: its own records are pending, after those of the barrier
pub done_records : (c : Core) (event : Event) → IsCall event → done c event ≡ with_own (behind_barrier c event) c event
done_records c Force is = absurd is
done_records c Flip is = absurd is
done_records c Scan is = absurd is
done_records c (Flush p) is = absurd is
done_records c event is = refl

-- it asks for no page
pub call_no_page : (pages : ℕ) (event : Event) → IsCall event → page_refusal pages event ≡ None
call_no_page pages (Flush p) is = absurd is
call_no_page pages event is = refl

-- it is no flush
pub no_flush : (event : Event) → IsCall event → (p : ℕ) → event ≢ Flush p
no_flush event is p same = subst IsCall same is

-- a call is an event of the transactions
pub call_plain : (event : Event) → IsCall event → IsOfTransactions event
call_plain Flip is = is
call_plain Scan is = is
call_plain (Flush p) is = is
call_plain event is = tt

-- what an event of the transactions that isn't refused is answered by the core, and by a plain heap
pub granted_plain : (c : Core) (event : Event) → IsOfTransactions event → granted_by c event ≡ granted (next_number c) c.g0 (account c.history) event
granted_plain c Flip of = absurd of
granted_plain c Scan of = absurd of
granted_plain c (Flush p) of = absurd of
granted_plain c event of = refl

-- neither of two tests refuses
pub two_tests : (b d : Bool) (x y : Refusal) → cond b (Some x) (cond d (Some y) None) ≡ None → (b ≡ false) × (d ≡ false)
two_tests true d x y e = cc
two_tests false true x y e = cc
two_tests false false x y e = (refl, refl)

-- a session without a transaction
pub not_active : (o : Option Transaction) → is_some o ≡ false → o ≡ None
not_active None e = refl
not_active (Some t) e = cc

-- a call that isn't refused has a transaction
pub has_transaction : (g0 : Graph) (a : Account) (o : Option Transaction) (event : Event) → call_refusal g0 a o event ≡ None → (t : Transaction) × (o ≡ Some t)
has_transaction g0 a None event e = cc
has_transaction g0 a (Some t) event e = (t, refl)

test_room : (b : Bool) (why : Refusal) → cond b (Some why) None ≡ None → b ≡ false
test_room true why e = cc
test_room false why e = refl

-- the area has room for an object that isn't refused
pub area_fits : (v : View) (t len : ℕ) → area_refusal v t len ≡ None → area_used v.graph t v.made + 2 + len ≤ 4096
area_fits v t len e = let room = ltb-false 4096 (area_used v.graph t v.made + 2 + len) (test_room _ (VolatileFull (area_used v.graph t v.made)) e) in omega arith

test_none : (b : Bool) (why : Refusal) (o : Option Refusal) → cond b (Some why) o ≡ None → (b ≡ false) × (o ≡ None)
test_none true why o e = cc
test_none false why o e = (refl, e)

-- a put that isn't refused is within its bounds
pub put_bounds : (g : Graph) (o : Option Id) (i v : ℕ) → put_refusal g o i v ≡ None → (v < 2 ^ 62) × (field_refusal g o i ≡ None)
put_bounds g None i v e = cc
put_bounds g (Some id) i v e =
    let first = test_none (nat_le no_int v) Range (field_refusal g (Some id) i) e in
    (leb-false no_int v first.0, first.1)

-- a reference to what a handle holds can be seen
pub reference_visible : (places : Places) (t made : ℕ) (registers : Registers) (h : ℕ) (o : Option Id) → HoldAllAtHand places t made registers → held registers h ≡ o → IsVisible places t made (reference_to o)
reference_visible places t made registers h None all is = tt
reference_visible places t made registers h (Some id) all is = held_at_hand places t made registers h id all is

-- a link that isn't refused is within its bounds
pub link_field : (g : Graph) (o : Option Id) (i : ℕ) (p : Option Id) → link_refusal g o i p ≡ None → field_refusal g o i ≡ None
link_field g o i None e = cc
link_field g o i (Some id) e = e
