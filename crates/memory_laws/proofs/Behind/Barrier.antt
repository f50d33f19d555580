-- Memory plans the scans that the core plans: before a field of the object that a handle holds is read or written, and where a page is next.
use Rattle.std.proofs.Common.{◌≡◌, ℕ, Bool, List, [], Option, None, Some, refl, sym, ap, ◌∙◌}
use Rattle.std.specs.Prelude.{if◌then◌else◌, unwrap_or}
use Rattle.graph_model.specs.declared.event.Event.{Event}
use Rattle.graph_model.specs.declared.id.Id.{Id}
use Rattle.graph_model.specs.History.{Account, account}
use Rattle.graph_model.specs.Plain.{view}
use Rattle.graph_model.specs.Transaction.{Transaction, held}
use Rattle.heap_spaces.specs.Collection.{Collection}
use Rattle.heap_spaces.specs.Spaces.{SpacesState}
use Rattle.log_records.specs.declared.Record.{Record}
use Rattle.log_machine.specs.Machine.{State, spaces_of}
use Rattle.read_barrier.specs.Barrier.{barrier_page_of}
use Rattle.graph_words.specs.Places.{address_of, index_of}
use Rattle.heap_model.specs.Collecting as core
use Rattle.heap_model.specs.Core.{Core, all_words, barrier_records, behind_barrier, call_barrier, ground, held_barrier}
use Rattle.core_laws.specs.Valid.{IsValid}
use Rattle.heap_memory.specs.Memory.{Memory}
use Rattle.heap_memory.specs.Collecting as memory
use Rattle.heap_memory.specs.Leaves.{Leaves}
use Rattle.memory_laws.specs.CoreMemory.{IsMemory, place_in, standing_place}
use Rattle.memory_laws.proofs.Behind.Passed.{barrier_passed}
use Rattle.memory_laws.proofs.Behind.Sessions.{carried_out}
use Rattle.memory_laws.proofs.Kept.Parts.{Works}
use Rattle.memory_laws.proofs.Step.Appended.{collection_here, spaces_here}

-- both say the same of a collection
gray_same : (o : Option Collection) (page : ℕ) → memory.is_gray_in o page ≡ core.is_gray_in o page
gray_same None page = refl
gray_same (Some k) page = refl

plan_same : (spaces : SpacesState) (words : List ℕ) (page : ℕ) (o : Option Collection) → memory.page_records_of spaces words page o ≡ core.page_records_of spaces words page o
plan_same spaces words page None = refl
plan_same spaces words page (Some k) = refl

module _ (m : Memory) (c : Core) (valid : IsValid c) (is : Works m (account c.history) c) where
  -- what the history says
  abbrev a : Account
  a = account c.history

  -- the state after all records
  abbrev behind : State
  behind = valid.behind

  -- the scan of a page
  pub page_same : (page : ℕ) → memory.page_records m page ≡ core.page_records behind (all_words c) page
  page_same page =
      ap (λ (x : SpacesState). unwrap_or (memory.page_records_of x m.words page m.collection) []) (spaces_here m m c valid is)
      ∙ ap (λ (ws : List ℕ). unwrap_or (memory.page_records_of (spaces_of behind) ws page m.collection) []) is.words
      ∙ ap (λ (o : Option Collection). unwrap_or (memory.page_records_of (spaces_of behind) (all_words c) page o) []) (collection_here m m c valid is)
      ∙ ap (λ (o : Option (List Record)). unwrap_or o []) (plan_same (spaces_of behind) (all_words c) page behind.collection)

  -- that before a field of an object of the current space
  stable_same : (at i : ℕ) → memory.barrier_records m at i ≡ core.barrier_of behind (all_words c) at i
  stable_same at i =
      let page = barrier_page_of at i in
      ap (λ (b : Bool). if b then memory.page_records m page else []) (ap (λ (o : Option Collection). memory.is_gray_in o page) (collection_here m m c valid is) ∙ gray_same behind.collection page)
      ∙ ap (λ (rs : List Record). if core.is_gray_in behind.collection page then rs else []) (page_same page)

  placed_same : (o : Option ℕ) (index i : ℕ) → memory.place_barrier m (standing_place o index) i ≡ core.barrier_at (Some behind) (all_words c) o i
  placed_same None index i = refl
  placed_same (Some at) index i = stable_same at i

  -- and that before a field of the object that a handle holds
  pub barrier_same : (s : ℕ) (t : Transaction) (h i : ℕ) (id : Id) → a.active s ≡ Some t → held (view c.g0 a t).registers h ≡ Some id
      → memory.place_barrier m (place_in c.places (view c.g0 a t).graph id) i ≡ call_barrier (ground c) c.g0 a (a.active s) h i
  barrier_same s t h i id active holds =
      placed_same (address_of c.places id) (index_of (view c.g0 a t).graph id) i
      ∙ ap (λ (o : Option State). core.barrier_at o (all_words c) (address_of c.places id) i) (sym valid.told.reached)
      ∙ ap (λ (o : Option Id). held_barrier (ground c) o i) (sym holds)
      ∙ ap (λ (o : Option Transaction). call_barrier (ground c) c.g0 a o h i) (sym active)

-- Memory in which the records of an event's barrier were carried out is that of the core after the barrier.
pub barrier_memory : (m n : Memory) (c : Core) (valid : IsValid c) → IsMemory m (account c.history) c → (event : Event)
    → Leaves m n (barrier_records c event) m.table m.locks (memory.spaces_behind m.spaces (barrier_records c event)) (memory.collection_behind m.collection (barrier_records c event)) m.sealed
    → IsMemory n (account c.history) (behind_barrier c event)
barrier_memory m n c valid is event left = carried_out m n c valid is (barrier_records c event) (barrier_passed (account c.history) c valid event) left
