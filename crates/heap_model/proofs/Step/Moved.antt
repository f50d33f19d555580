-- What records of a collection leave of a core.
use Rattle.std.proofs.Common.{◌≡◌, ℕ, List, [], ◌∷◌, ◌++◌, Option, None, Some, refl, sym, ap, ◌∙◌, subst}
use Rattle.std.specs.Prelude.{if◌then◌else◌}
use Rattle.std.proofs.lemmas.List.{append-nil}
use Rattle.graph_model.specs.declared.event.Event.{Event}
use Rattle.graph_model.specs.declared.id.Id.{Id}
use Rattle.graph_model.specs.Graph.{Graph}
use Rattle.graph_model.specs.Transaction.{Transaction, held}
use Rattle.graph_model.specs.Kinds.{used_field}
use Rattle.graph_model.specs.History.{Account, account, session_of}
use Rattle.graph_model.specs.Plain.{view}
use Rattle.heap_spaces.specs.Collection.{Collection}
use Rattle.log_records.specs.declared.Record.{Record}
use Rattle.log_machine.specs.Machine.{State}
use Rattle.graph_words.specs.Places.{address_of}
use Rattle.collection_words.specs.Placing.{moved_by_all}
use Rattle.read_barrier.specs.Barrier.{barrier_page_of}
use Rattle.heap_model.specs.Collecting.{barrier_at, is_gray_in, page_records}
use Rattle.heap_model.specs.Core.{Core, Ground, all_records, barrier_records, behind_barrier, call_barrier, field_barrier, ground, held_barrier, moved, placing, state_behind}

-- they are pending after those that there are, and objects are where they move them
pub moved_is : (c : Core) (rs : List Record)
    → moved c rs ≡ record c { pending = c.pending ++ rs; places = (moved_by_all (placing c) rs).places; remaining = (moved_by_all (placing c) rs).remaining }
moved_is c [] = ap (λ (p : List Record). record c { pending = p }) (sym (append-nil c.pending))
moved_is c (r ∷ rs) = refl

-- what is said of a core apart from its pending records and its places is said of it then
pub moved_keeps : (P : Core → Type 0) (c : Core) (rs : List Record)
    → P (record c { pending = c.pending ++ rs; places = (moved_by_all (placing c) rs).places; remaining = (moved_by_all (placing c) rs).remaining }) → P (moved c rs)
moved_keeps P c rs holds = subst P (sym (moved_is c rs)) holds

pub moved_history : (c : Core) (rs : List Record) → (moved c rs).history ≡ c.history
moved_history c rs = ap (λ (d : Core). d.history) (moved_is c rs)

-- The barrier.

-- what holds of no records, and of those before any field of what any handle holds, holds of those of an event's barrier
pub barrier_by : (P : List Record → Type 0) (c : Core) (event : Event) → P [] → ((o : Option Transaction) (h i : ℕ) → P (call_barrier (ground c) c.g0 (account c.history) o h i)) → P (barrier_records c event)
barrier_by P c event none some = by (used_field event)
  where
    by : (used : Option (ℕ × ℕ)) → P (field_barrier (ground c) c.g0 (account c.history) ((account c.history).active (session_of event)) used)
    by None = none
    by (Some (h, i)) = some ((account c.history).active (session_of event)) h i

-- Without a collection.

-- no page is scanned before a field is read or written
none_of : (s : State) (words : List ℕ) (o : Option ℕ) (i : ℕ) → s.collection ≡ None → barrier_at (Some s) words o i ≡ []
none_of s words None i none = refl
none_of s words (Some at) i none =
    let page = barrier_page_of at i in ap (λ b. if b then page_records s words page else []) (ap (λ (o : Option Collection). is_gray_in o page) none)

none_held : (g : Ground) (s : State) (o : Option Id) (i : ℕ) → g.state ≡ Some s → s.collection ≡ None → held_barrier g o i ≡ []
none_held g s None i is none = refl
none_held g s (Some id) i is none = ap (λ (o : Option State). barrier_at o g.words (address_of g.places id) i) is ∙ none_of s g.words (address_of g.places id) i none

none_called : (g : Ground) (s : State) (g0 : Graph) (a : Account) (o : Option Transaction) (h i : ℕ) → g.state ≡ Some s → s.collection ≡ None → call_barrier g g0 a o h i ≡ []
none_called g s g0 a None h i is none = refl
none_called g s g0 a (Some t) h i is none = none_held g s (held (view g0 a t).registers h) i is none

pub barrier_none : (c : Core) (s : State) → state_behind c (all_records c) ≡ Some s → s.collection ≡ None → (event : Event) → barrier_records c event ≡ []
barrier_none c s is none event = barrier_by (λ rs. rs ≡ []) c event refl (λ o h i. none_called (ground c) s c.g0 (account c.history) o h i is none)

-- an event is made on the core itself
pub behind_none : (c : Core) (event : Event) → barrier_records c event ≡ [] → behind_barrier c event ≡ c
behind_none c event none = ap (moved c) none
