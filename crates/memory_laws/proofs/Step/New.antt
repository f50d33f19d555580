-- A call that makes an object is answered as the core answers it, and leaves memory as the core is then.
use Rattle.std.proofs.Common.{◌≡◌, ℕ, ◌+◌, List, [], length, map, Option, Some, Result, Ok, Err, refl, sym, ap, ◌∙◌}
use Rattle.std.specs.Prelude.{IfOk, slice_set}
use Rattle.std.specs.Option.{option_map}
use Rattle.std.proofs.lemmas.List.{map-set}
use Rattle.graph_model.specs.declared.id.Id.{Id}
use Rattle.graph_model.specs.declared.event.Event.{Event}
use Rattle.graph_model.specs.declared.event.Event.TheVariants.{New}
use Rattle.graph_model.specs.declared.reply.Refusal.{Refusal}
use Rattle.graph_model.specs.declared.reply.Reply.{Reply}
use Rattle.graph_model.specs.declared.reply.Reply.TheVariants.{Done, Refused}
use Rattle.graph_model.specs.Graph.{Graph}
use Rattle.graph_model.specs.Transaction.{View, Registers, make}
use Rattle.graph_model.specs.History.{Account, account}
use Rattle.graph_model.specs.Plain.{view, reply_of}
use Rattle.graph_model.proofs.Refusals.Plain.{call_reply-done}
use Rattle.log_machine.specs.declared.UndoEntry.{UndoEntry}
use Rattle.log_machine.specs.Machine.{State, undo_of}
use Rattle.volatile_area.specs.Area.{AreaState}
use Rattle.txn_table.specs.declared.place.Place.{Place}
use Rattle.txn_table.specs.declared.place.Place.TheVariants.{Stable, Volatile}
use Rattle.graph_words.specs.Area.{HasMade, area_words}
use Rattle.graph_words.proofs.Area.Words.{length-area_words}
use Rattle.graph_words.proofs.Area.State.{new_area}
use Rattle.graph_words.specs.Places.{Places, IsAtHand, made_by, place_of}
use Rattle.graph_words.proofs.Stands.Own.{with_new, new_index, new_places}
use Rattle.heap_model.specs.Core.{Core, area_in, core_refusal}
use Rattle.core_laws.proofs.Step.Goes.{writing_of}
use Rattle.core_laws.specs.Valid.{IsValid}
use Rattle.heap_model.proofs.Step.Handles.{HoldAllAtHand}
use Rattle.core_laws.proofs.Step.Forms.{quiet_records}
use Rattle.heap_memory.specs.Memory.{Memory, own, place_word}
use Rattle.heap_memory.specs.Refusals.{new_refusal}
use Rattle.heap_memory.specs.Leaves.{Makes, with_made}
use Rattle.memory_laws.specs.CoreMemory.{place_in, kept, IsMemory}
use Rattle.memory_laws.proofs.Does.{Does}
use Rattle.memory_laws.proofs.Kept.Beside.{handles_same}
use Rattle.memory_laws.proofs.Kept.Held.{place_in_word, place_in-apart}
use Rattle.memory_laws.proofs.Kept.Parts.{Works, turns_of, works_of}
use Rattle.memory_laws.proofs.Step.Answered.{does}
use Rattle.memory_laws.proofs.Step.Appended.{Passes, mine, no_lock, passes, quiet_goes, stays}

-- places whose words are one are one
one_word : (p q : Place) → place_word p ≡ place_word q → p ≡ q
one_word (Stable at) (Stable other) e = let same : at ≡ other = cc e in ap Stable same
one_word (Volatile at) (Volatile other) e = let same : at ≡ other = cc e in ap Volatile same
one_word (Stable at) (Volatile other) e = cc e
one_word (Volatile at) (Stable other) e = cc e

-- all that is at hand stands where it did before the new object
new_place_in : (places : Places) (g : Graph) (t made len : ℕ) (id : Id) → IsAtHand places t made id → place_in places (with_new g t made len) id ≡ place_in places g id
new_place_in places g t made len id at_hand =
    one_word (place_in places (with_new g t made len) id) (place_in places g id)
    (place_in_word places (with_new g t made len) id ∙ new_places places g t made len id at_hand ∙ sym (place_in_word places g id))

-- so all handles hold what they held
new_handles : (places : Places) (g : Graph) (t made len : ℕ) (rs : Registers) → HoldAllAtHand places t made rs
    → map (option_map (place_in places (with_new g t made len))) rs ≡ map (option_map (place_in places g)) rs
new_handles places g t made len rs all = handles_same places t made (place_in places (with_new g t made len)) (place_in places g) (new_place_in places g t made len) rs all

-- the new object stands after the words of the area
new_stands_in : (places : Places) (g : Graph) (t made len : ℕ) → HasMade places g t made
    → place_in places (with_new g t made len) (made_by t (made + 1)) ≡ Volatile (length (area_words (place_of places g) g t made))
new_stands_in places g t made len has =
    place_in-apart places (with_new g t made len) (made_by t (made + 1)) (has.apart (made + 1))
    ∙ ap Volatile (new_index g t made len ∙ sym (length-area_words (place_of places g) g t made))

-- what is kept of a transaction that has made one more object
kept_made : (places : Places) (v : View) (t : ℕ) (undo : List UndoEntry) (h len : ℕ) → HasMade places v.graph t v.made → HoldAllAtHand places t v.made v.registers
    → kept places (make v t h len).view t undo ≡ with_made (kept places v t undo) h len
kept_made places v t undo h len has all =
    let g = with_new v.graph t v.made len in
    let id = made_by t (v.made + 1) in
    let f = option_map (place_in places g) in
    let area = area_in places v t in
    let handles : map f (slice_set v.registers h (Some id)) ≡ slice_set (map (option_map (place_in places v.graph)) v.registers) h (Some (Volatile (length area.words))) =
    map-set f v.registers h (Some id)
    ∙ ap (λ (os : List (Option Place)). slice_set os h (Some (place_in places g id))) (new_handles places v.graph t v.made len v.registers all)
    ∙ ap (λ (p : Place). slice_set (map (option_map (place_in places v.graph)) v.registers) h (Some p)) (new_stands_in places v.graph t v.made len has) in
    ap (λ (os : List (Option Place)). record { number = t; handles = os; undo = undo; area = area_in places (make v t h len).view t }) handles
    ∙ ap (λ (made : AreaState). record (with_made (kept places v t undo) h len) { area = made }) (new_area has len)

module _ (m n : Memory) (c : Core) (valid : IsValid c) (is : IsMemory m (account c.history) c) (s : ℕ) where
  -- what the history says
  abbrev a : Account
  a = account c.history

  -- the state after all records
  abbrev behind : State
  behind = valid.behind

  -- the words and the sessions are the core's
  works : Works m a c
  works = works_of m a c is

  -- what it leaves is the memory of the core then
  made_goes : (h len : ℕ) → Makes m n s h len → Passes n c (New s h len)
  made_goes h len makes =
      let t = mine m n c valid works s makes.transaction makes.was in
      let v = view c.g0 a t.0 in
      let w = writing_of a c s t.0 t.1 valid in
      let undo = undo_of behind t.0.number in
      let none = quiet_records c (New s h len) tt refl in
      passes m n c valid is (New s h len) [] makes.left none
      (quiet_goes m n c valid works s t.0 (New s h len) m.locks (with_made makes.transaction h len) t.1 tt refl none (turns_of makes.left)
      (ap (λ y. with_made y h len) t.2 ∙ sym (kept_made c.places v t.0.number undo h len w.made w.handles)) (no_lock m n c valid works s t.0 (New s h len) t.1 refl))

  -- a call that makes an object is answered as the core answers it, and the object is in the area then
  pub new_does : {E : Type 0} (h len : ℕ) → core_refusal c (New s h len) ≡ new_refusal (own m s) h len → (result : Result Reply E) → IfOk result (λ reply. reply ≡ reply_of (new_refusal (own m s) h len) Done)
      → (result ≡ Ok Done → Makes m n s h len) → ((why : Refusal) → result ≡ Ok (Refused why) → n ≡ m)
      → IfOk result (λ reply. Does c (New s h len) reply n)
  new_does h len same (Err e) replied made_it stayed = tt
  new_does h len same (Ok reply) replied made_it stayed =
      let event : Event = New s h len in
      does c event (new_refusal (own m s) h len) Done reply n same replied (λ e. call_reply-done c.g0 a (a.active s) event tt)
      (λ e done_it. made_goes h len (made_it (ap Ok done_it)))
      (λ why e. stays m n c valid is (stayed why (ap Ok e)))
