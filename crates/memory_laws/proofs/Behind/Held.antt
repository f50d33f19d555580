-- What an event that reads or writes a field of the object that a handle holds finds after its barrier.
use Rattle.std.proofs.Common.{◌≡◌, ℕ, ◌<◌, List, length, Option, Some, None, Ok, false, refl, sym, ap, ◌∙◌, subst}
use Rattle.graph_model.specs.declared.event.Event.{Event}
use Rattle.graph_model.specs.declared.id.Id.{Id}
use Rattle.graph_model.specs.Graph.{fields}
use Rattle.graph_model.specs.History.{Account, account}
use Rattle.graph_model.specs.Plain.{view}
use Rattle.graph_model.specs.Transaction.{Transaction}
use Rattle.heap_spaces.specs.Collection.{Collection}
use Rattle.log_records.specs.declared.Record.{Record}
use Rattle.txn_table.specs.declared.place.Place.{Place}
use Rattle.graph_words.specs.Places.{address_of}
use Rattle.collection_words.specs.LaidOut.{is_gray_field}
use Rattle.heap_model.specs.Core.{Core, barrier_records, call_barrier, ground, held_barrier, moved}
use Rattle.heap_model.proofs.Step.Moved.{moved_is}
use Rattle.core_laws.proofs.Collecting.Black.{black_held}
use Rattle.core_laws.proofs.Collecting.Events.{barrier_kept}
use Rattle.core_laws.proofs.Step.Granted.{HasRoom}
use Rattle.core_laws.specs.Valid.{Agrees, IsValid, RunsLocked}
use Rattle.heap_memory.specs.Memory.{Memory, own, held_place, fields_held}
use Rattle.heap_memory.specs.Collecting.{place_barrier}
use Rattle.heap_memory.specs.Refusals.{field_refusal}
use Rattle.memory_laws.specs.CoreMemory.{IsMemory}
use Rattle.memory_laws.proofs.Behind.Barrier.{barrier_same}
use Rattle.memory_laws.proofs.Behind.Passed.{HavePassed, barrier_passed}
use Rattle.memory_laws.proofs.Behind.Sessions.{core_behind, memory_behind, works_behind}
use Rattle.memory_laws.proofs.Kept.Held.{IsBlack}
use Rattle.memory_laws.proofs.Kept.Parts.{Works, works_of}
use Rattle.memory_laws.proofs.Step.Appended.{some_one}
use Rattle.memory_laws.proofs.Step.Held.{IsHeld, held_within, is_held}

-- an object that is gray is so in each field
gray_alike : (o : Option Collection) (at i j : ℕ) → is_gray_field o at i ≡ is_gray_field o at j
gray_alike None at i j = refl
gray_alike (Some k) at i j = refl

module _ (m : Memory) (c : Core) (valid : IsValid c) (runs : RunsLocked c.g0 c.first c.history) (is : IsMemory m (account c.history) c) (s : ℕ) (t : Transaction) (active : (account c.history).active s ≡ Some t)
    (event : Event) (h i : ℕ) (form : barrier_records c event ≡ call_barrier (ground c) c.g0 (account c.history) ((account c.history).active s) h i) (p : Place) (there : held_place (own m s) h ≡ Ok p) where
  -- what the history says
  abbrev a : Account
  a = account c.history

  -- the records of the barrier
  abbrev records : List Record
  records = barrier_records c event

  -- the core after it, and memory with the effect of its records
  abbrev d : Core
  d = core_behind c records

  abbrev mid : Memory
  mid = memory_behind m records

  works : Works m a c
  works = works_of m a c is

  -- what the handle holds
  one : IsHeld c.places (view c.g0 a t) t.number h p
  one = is_held m c valid runs works s t active h p there

  -- memory plans the same scan
  pub same_barrier : place_barrier m p i ≡ records
  same_barrier = ap (λ (q : Place). place_barrier m q i) (sym one.place) ∙ barrier_same m c valid works s t h i one.id active one.holds ∙ sym form

  pub passed : HavePassed c valid.behind records
  passed = barrier_passed a c valid event

  pub works_there : Works mid a d
  works_there = works_behind m c valid works records passed

  -- Where the log has room for the records.
  module _ (room : HasRoom c records a) where
    pub valid_there : IsValid d
    valid_there = subst (Agrees a) (moved_is c records) (barrier_kept a c valid event room)

    -- the handle holds the same object there
    pub held_there : IsHeld d.places (view c.g0 a t) t.number h p
    held_there = is_held mid d valid_there runs works_there s t active h p there

    same_held : one.id ≡ held_there.id
    same_held = some_one one.id held_there.id (sym one.holds ∙ held_there.holds)

    -- a field that is not refused is one of it
    pub within_there : field_refusal (length (fields_held m (own m s) (held_place (own m s) h))) i ≡ None → i < length (fields (view c.g0 a t).graph held_there.id)
    within_there granted =
        subst (λ (id : Id). i < length (fields (view c.g0 a t).graph id)) same_held (held_within m c valid runs works s t active h i p there one granted)

    -- and it is not gray
    abbrev IsNotGray : Core → Type 0
    IsNotGray e = (b : Agrees a e) → (at : ℕ) → address_of e.places held_there.id ≡ Some at → is_gray_field b.behind.collection at i ≡ false

    pub black_there : IsBlack d.places valid_there.behind.collection held_there.id
    black_there at place j =
        let is_form : records ≡ held_barrier (ground c) (Some held_there.id) i =
        form ∙ ap (λ (o : Option Transaction). call_barrier (ground c) c.g0 a o h i) active ∙ ap (λ (o : Option Id). held_barrier (ground c) o i) held_there.holds in
        let moved_so = subst (λ (rs : List Record). IsNotGray (moved c rs)) (sym is_form) (black_held a c valid held_there.id i) in
        gray_alike valid_there.behind.collection at j i ∙ subst IsNotGray (moved_is c records) moved_so valid_there at place
