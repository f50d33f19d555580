-- What the handles of a session's transaction hold in memory: the places of objects at hand, whose fields memory has.
use Rattle.std.proofs.Common.{◌≡◌, ◌<◌, ℕ, Bool, true, false, cond, List, length, map, Option, Some, None, Result, Ok, Err, refl, sym, ap, ◌∙◌, subst}
use Rattle.std.specs.Prelude.{nat_le, slice_index, slice_index_or}
use Rattle.std.specs.Option.{option_map}
use Rattle.std.proofs.lemmas.Bool.{leb-false}
use Rattle.std.proofs.lemmas.List.{get_or-map}
use Rattle.graph_model.specs.declared.id.Id.{Id}
use Rattle.graph_model.specs.declared.val.Val.TheVariants.{Null}
use Rattle.graph_model.specs.declared.reply.Refusal.{Refusal}
use Rattle.graph_model.specs.declared.reply.Refusal.TheVariants.{BadField}
use Rattle.graph_model.specs.Graph.{fields}
use Rattle.graph_model.specs.declared.event.Event.{Event}
use Rattle.graph_model.specs.Locking.{Mode, Shared, IsFree, in_mode, lock_on, lock_of}
use Rattle.graph_model.specs.Transaction.{Transaction, View, held, serial}
use Rattle.graph_model.specs.History.{Account, account, session_of}
use Rattle.graph_model.proofs.Runs.History.{length-registers-run}
use Rattle.graph_model.specs.Plain.{view, first_of_two, call_conflict}
use Rattle.log_machine.specs.Machine.{State, undo_of}
use Rattle.heap_words.specs.Word.{meaning}
use Rattle.txn_table.specs.declared.place.Place.{Place}
use Rattle.txn_table.specs.Table.{TransactionState}
use Rattle.graph_words.specs.Places.{Places, IsAtHand, place_of, word_of, bits_of}
use Rattle.heap_model.specs.Core.{Core, area_in, core_refusal}
use Rattle.commit_order.proofs.OrderLaws.{two_phase_ordered}
use Rattle.core_laws.proofs.Sessions.Apart.{value_at_hand}
use Rattle.core_laws.proofs.Sessions.Whole.{meaning_here}
use Rattle.heap_model.proofs.Step.Handles.{held_at_hand}
use Rattle.core_laws.proofs.Step.Goes.{writing_of}
use Rattle.core_laws.proofs.Step.TwoPhase.{free_call, model_granted}
use Rattle.core_laws.specs.Valid.{IsValid, RunsLocked}
use Rattle.heap_memory.specs.Memory.{Memory, own, fields_at, held_in, held_or, held_place, fields_held}
use Rattle.heap_memory.specs.Refusals.{and_then, field_refusal}
use Rattle.heap_memory.specs.Replies.{meant_held}
use Rattle.memory_laws.specs.CoreMemory.{place_in, kept, kept_of}
use Rattle.memory_laws.proofs.Kept.Held.{IsBlack, held_in-kept, fields_at_hand, length-fields_at_hand}
use Rattle.memory_laws.proofs.Kept.Parts.{Works}
use Rattle.memory_laws.proofs.Step.Appended.{some_one, mine, own_kept, ground_in}

-- A handle of a transaction that sees this holds an object at hand, which stands at that place.
pub record IsHeld (places : Places) (v : View) (t h : ℕ) (p : Place) : Type 0 where
  pub id : Id
  pub holds : held v.registers h ≡ Some id
  pub place : place_in places v.graph id ≡ p
  pub at_hand : IsAtHand places t v.made id

-- what is held in memory is the place of what is held
mapped : (f : Id → Place) (o : Option Id) (p : Place) → option_map f o ≡ Some p → (id : Id) × (o ≡ Some id) × (f id ≡ p)
mapped f None p e = cc e
mapped f (Some id) p e = (id, refl, some_one (f id) p e)

-- a handle that holds a place holds something
or_ok : (o : Option Place) (p : Place) → held_or o ≡ Ok p → o ≡ Some p
or_ok None p e = cc e
or_ok (Some q) p e = let same : q ≡ p = cc e in ap (λ (r : Place). Some r) same

-- where a handle holds a place there is a transaction
pub held_some : (o : Option TransactionState) (h : ℕ) (p : Place) → held_place o h ≡ Ok p → (x : TransactionState) × (o ≡ Some x) × (held_in x h ≡ Some p)
held_some None h p e = cc e
held_some (Some x) h p e = (x, refl, or_ok (held_in x h) p e)

-- what isn't refused for a place has it
pub got_place : (r : Result Place Refusal) (next : Place → Option Refusal) → and_then r next ≡ None → (p : Place) × (r ≡ Ok p) × (next p ≡ None)
got_place (Err why) next e = cc e
got_place (Ok p) next e = (p, refl, e)

-- where there is no first reason of two there is neither
pub both_none : (o p : Option Refusal) → first_of_two o p ≡ None → (o ≡ None) × (p ≡ None)
both_none None p e = (refl, e)
both_none (Some why) p e = cc e

-- where a test gives no reason it fails
pub test_none : (b : Bool) (why : Refusal) (o : Option Refusal) → cond b (Some why) o ≡ None → (b ≡ false) × (o ≡ None)
test_none true why o e = cc e
test_none false why o e = (refl, e)

-- a field that isn't refused is one of `count`
pub below_count : (count i : ℕ) → field_refusal count i ≡ None → i < count
below_count count i e = leb-false count i (test_none (nat_le count i) BadField None e).0

module _ (m : Memory) (c : Core) (valid : IsValid c) (runs : RunsLocked c.g0 c.first c.history) (is : Works m (account c.history) c) (s : ℕ) where
  -- what the history says
  abbrev a : Account
  a = account c.history

  -- the state after all records
  abbrev behind : State
  behind = valid.behind

  -- the core's transaction is in memory
  pub own_is : (t : Transaction) → a.active s ≡ Some t → own m s ≡ Some (kept c.places (view c.g0 a t) t.number (undo_of behind t.number))
  own_is t e = own_kept m m c valid is s ∙ ap (λ (o : Option Transaction). kept_of (ground_in c c.places behind) c.g0 a o) e

  -- where a handle holds a place the core has an active transaction
  pub held_active : (h : ℕ) (p : Place) → held_place (own m s) h ≡ Ok p → (t : Transaction) × (a.active s ≡ Some t)
  held_active h p there =
      let x = held_some (own m s) h p there in
      let t = mine m m c valid is s x.0 x.1 in
      (t.0, t.1)

  -- and it is that of an object at hand
  pub is_held : (t : Transaction) → a.active s ≡ Some t → (h : ℕ) (p : Place) → held_place (own m s) h ≡ Ok p → IsHeld c.places (view c.g0 a t) t.number h p
  is_held t e h p there =
      let v = view c.g0 a t in
      let undo = undo_of behind t.number in
      let known : held_place (Some (kept c.places v t.number undo)) h ≡ Ok p = ap (λ (o : Option TransactionState). held_place o h) (sym (own_is t e)) ∙ there in
      let long = length-registers-run (serial c.g0 a.sealed) t in
      let got = mapped (place_in c.places v.graph) (held v.registers h) p (sym (held_in-kept c.places v t.number undo h long) ∙ or_ok (held_in (kept c.places v t.number undo) h) p known) in
      record { id = got.0; holds = got.1; place = got.2; at_hand = held_at_hand c.places t.number v.made v.registers h got.0 (writing_of a c s t e valid).handles got.1 }

  -- its fields are read at its place
  fields_there : (t : Transaction) → a.active s ≡ Some t → (h : ℕ) (p : Place) → held_place (own m s) h ≡ Ok p → (one : IsHeld c.places (view c.g0 a t) t.number h p)
      → fields_held m (own m s) (held_place (own m s) h) ≡ fields_at m.words (area_in c.places (view c.g0 a t) t.number) (place_in c.places (view c.g0 a t).graph one.id)
  fields_there t e h p there one =
      ap (λ (r : Result Place Refusal). fields_held m (own m s) r) there
      ∙ ap (λ (o : Option TransactionState). fields_held m o (Ok p)) (own_is t e)
      ∙ ap (fields_at m.words (area_in c.places (view c.g0 a t) t.number)) (sym one.place)

  -- there are as many as the transaction sees
  pub length-held_fields : (t : Transaction) → a.active s ≡ Some t → (h : ℕ) (p : Place) → held_place (own m s) h ≡ Ok p → (one : IsHeld c.places (view c.g0 a t) t.number h p)
      → length (fields_held m (own m s) (held_place (own m s) h)) ≡ length (fields (view c.g0 a t).graph one.id)
  length-held_fields t e h p there one =
      ap (λ (ws : List ℕ). length ws) (fields_there t e h p there one) ∙ length-fields_at_hand m c valid runs is s t e one.id one.at_hand

  -- where no other transaction holds the object exclusively, and it isn't gray, their words are those of the values
  pub held_fields : (t : Transaction) → a.active s ≡ Some t → (h : ℕ) (p : Place) → held_place (own m s) h ≡ Ok p → (one : IsHeld c.places (view c.g0 a t) t.number h p)
      → IsFree c.g0 a t.number (Some (one.id, Shared)) → IsBlack c.places behind.collection one.id
      → fields_held m (own m s) (held_place (own m s) h) ≡ map (bits_of (place_of c.places (view c.g0 a t).graph)) (fields (view c.g0 a t).graph one.id)
  held_fields t e h p there one free black = fields_there t e h p there one ∙ fields_at_hand m c valid runs is s t e one.id one.at_hand free black

  -- a field of it that isn't refused is one of the object
  pub held_within : (t : Transaction) → a.active s ≡ Some t → (h i : ℕ) (p : Place) → held_place (own m s) h ≡ Ok p → (one : IsHeld c.places (view c.g0 a t) t.number h p)
      → field_refusal (length (fields_held m (own m s) (held_place (own m s) h))) i ≡ None → i < length (fields (view c.g0 a t).graph one.id)
  held_within t e h i p there one granted =
      below_count (length (fields (view c.g0 a t).graph one.id)) i (ap (λ (n : ℕ). field_refusal n i) (sym (length-held_fields t e h p there one)) ∙ granted)

  -- what its word means is where the value refers to, if no other transaction holds the object exclusively and it isn't gray
  pub held_meaning : (t : Transaction) → a.active s ≡ Some t → (h i : ℕ) (p : Place) → held_place (own m s) h ≡ Ok p → (one : IsHeld c.places (view c.g0 a t) t.number h p)
      → i < length (fields (view c.g0 a t).graph one.id) → IsFree c.g0 a t.number (Some (one.id, Shared)) → IsBlack c.places behind.collection one.id
      → meant_held m s h i ≡ Some (word_of (place_of c.places (view c.g0 a t).graph) (slice_index_or (fields (view c.g0 a t).graph one.id) i Null))
  held_meaning t e h i p there one within free black =
      let v = view c.g0 a t in
      let w = writing_of a c s t e valid in
      ap (λ (ws : List ℕ). meaning (slice_index ws i)) (held_fields t e h p there one free black)
      ∙ ap meaning (get_or-map (bits_of (place_of c.places v.graph)) (fields v.graph one.id) i Null 0 within)
      ∙ meaning_here w (slice_index_or (fields v.graph one.id) i Null)
      (value_at_hand a c valid (two_phase_ordered c.g0 c.history runs.plain runs.two_phase) s t e one.id one.at_hand i free (λ at place. black at place i))

  -- a call that isn't refused finds free what it needs
  pub call_free : (t : Transaction) → a.active s ≡ Some t → (event : Event) → session_of event ≡ s → core_refusal c event ≡ None → IsFree c.g0 a t.number (lock_of (view c.g0 a t).registers event)
  call_free t e event one granted =
      free_call c.g0 a t event valid.in_sessions (ap (λ (o : Option Transaction). call_conflict c.g0 a o event) (sym (ap a.active one ∙ e)) ∙ (model_granted c event granted).1)

  -- so the object that its handle holds is free, if that is what it needs
  pub held_free : (t : Transaction) → a.active s ≡ Some t → (event : Event) → session_of event ≡ s → core_refusal c event ≡ None → (h : ℕ) (mode : Mode)
      → lock_of (view c.g0 a t).registers event ≡ lock_on (view c.g0 a t).registers h mode → (id : Id) → held (view c.g0 a t).registers h ≡ Some id → IsFree c.g0 a t.number (Some (id, mode))
  held_free t e event one granted h mode needs id holds =
      subst (IsFree c.g0 a t.number) (needs ∙ ap (option_map (in_mode mode)) holds) (call_free t e event one granted)
