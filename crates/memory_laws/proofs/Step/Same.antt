-- A comparison and a length are answered as the core answers them, and change nothing.
use Rattle.std.proofs.Common.{◌≡◌, ◌≢◌, inl, inr, ℕ, Bool, true, false, cond, List, [], length, Option, Some, None, Ok, refl, sym, ap, ◌∙◌, eq-eqb, eqb-true}
use Rattle.graph_model.specs.declared.id.Id.{Id}
use Rattle.graph_model.specs.declared.event.Event.{Event}
use Rattle.graph_model.specs.declared.event.Event.TheVariants.{Same, Len}
use Rattle.graph_model.specs.declared.reply.Reply.{Reply}
use Rattle.graph_model.specs.declared.reply.Reply.TheVariants as answer
use Rattle.graph_model.specs.Graph.{Graph, is_same_id}
use Rattle.graph_model.specs.Locking.{lock_of}
use Rattle.graph_model.proofs.Whole.Graph.{same_or_other, same_id, itself}
use Rattle.graph_model.specs.Transaction.{Registers, Transaction, View, IsCall, held, fields_of, call}
use Rattle.graph_model.specs.Transaction as plain
use Rattle.graph_model.specs.History.{Account, account, session_of}
use Rattle.graph_model.specs.Plain.{view, call_reply, reply_of}
use Rattle.log_machine.specs.Machine.{undo_of}
use Rattle.txn_table.specs.declared.place.Place.{Place}
use Rattle.txn_table.specs.declared.place.Place.TheVariants.{Stable, Volatile}
use Rattle.graph_words.specs.Area.{HasMade}
use Rattle.graph_words.specs.Places.{Places, IsAtHand, index_of}
use Rattle.graph_words.specs.Stands.{Stands}
use Rattle.graph_words.proofs.Stands.Objects.{place_of-one}
use Rattle.collection_words.specs.Completed.{future}
use Rattle.collection_words.proofs.Heap.Front.{at_hand_front}
use Rattle.heap_model.specs.Core.{Core, all_words, core_refusal}
use Rattle.core_laws.proofs.Sessions.Whole.{address_here, whole, whole_made}
use Rattle.core_laws.proofs.Step.Goes.{writing_of}
use Rattle.core_laws.specs.Valid.{IsValid, RunsLocked}
use Rattle.core_laws.proofs.Step.Forms.{quiet_records}
use Rattle.heap_memory.specs.Memory.{Memory, own, place_word, is_same_place, held_place}
use Rattle.heap_memory.specs.Refusals.{and_then, same_refusal, len_refusal}
use Rattle.heap_memory.specs.Replies.{same_reply_of, same_reply, len_reply}
use Rattle.memory_laws.specs.CoreMemory.{place_in, standing_place, kept, IsMemory}
use Rattle.memory_laws.proofs.Does.{Does}
use Rattle.memory_laws.proofs.Kept.Held.{place_in_word}
use Rattle.memory_laws.proofs.Kept.Parts.{Works, turns_of, works_of}
use Rattle.memory_laws.proofs.Step.Answered.{does}
use Rattle.memory_laws.proofs.Step.Appended.{Passes, call_leaves, no_lock, nothing_left, own_at, passes, reached_still}
use Rattle.memory_laws.proofs.Step.Held.{IsHeld, got_place, own_is, held_active, is_held, length-held_fields}

-- places that test alike are one
one_place : (p q : Place) → is_same_place p q ≡ true → p ≡ q
one_place (Stable at) (Stable other) e = ap Stable (eqb-true at other e)
one_place (Volatile at) (Volatile other) e = ap Volatile (eqb-true at other e)
one_place (Stable at) (Volatile other) e = cc e
one_place (Volatile at) (Stable other) e = cc e

-- a place tests like itself
itself_place : (p : Place) → is_same_place p p ≡ true
itself_place (Stable at) = eq-eqb at at refl
itself_place (Volatile at) = eq-eqb at at refl

-- other places do not test alike
other_place : (p q : Place) (b : Bool) → is_same_place p q ≡ b → p ≢ q → b ≡ false
other_place p q true e other = absurd (other (one_place p q e))
other_place p q false e other = refl

-- nor do other objects
other_id : (id q : Id) (b : Bool) → is_same_id id q ≡ b → id ≢ q → b ≡ false
other_id id q true e other = absurd (other (same_id id q e))
other_id id q false e other = refl

-- places of objects at hand are one where the objects are
places_same : {t made : ℕ} {places : Places} {g : Graph} {words : List ℕ} {base used : ℕ} → Stands t made places g words base used → HasMade places g t made
    → (id q : Id) → IsAtHand places t made id → IsAtHand places t made q → is_same_id id q ≡ is_same_place (place_in places g id) (place_in places g q)
places_same {places = places} {g = g} stands has id q here there = elim (same_or_other id q) [
  | inl same ↦
      ap (is_same_id id) (sym same) ∙ itself id ∙ sym (itself_place (place_in places g id)) ∙ ap (λ (r : Id). is_same_place (place_in places g id) (place_in places g r)) same
  | inr other ↦
      let apart = λ (one : place_in places g id ≡ place_in places g q). other (place_of-one stands has id q here there (sym (place_in_word places g id) ∙ ap place_word one ∙ place_in_word places g q)) in
      other_id id q (is_same_id id q) refl other ∙ sym (other_place (place_in places g id) (place_in places g q) (is_same_place (place_in places g id) (place_in places g q)) refl apart)
]

module _ (m : Memory) (c : Core) (valid : IsValid c) (runs : RunsLocked c.g0 c.first c.history) (is : IsMemory m (account c.history) c) (s : ℕ) where
  -- what the history says
  abbrev b : Account
  b = account c.history

  -- the words and the sessions are the core's
  works : Works m b c
  works = works_of m b c is

  -- a call that changes nothing leaves memory as the core is then
  tells : (event : Event) (t : Transaction) → b.active s ≡ Some t → IsCall event → session_of event ≡ s → own_at c event ≡ [] → ((v : View) (u : ℕ) → (call v u event).view ≡ v)
      → ((rs : Registers) → lock_of rs event ≡ None) → Passes m c event
  tells event t e called_it one silent sees free =
      let v = view c.g0 b t in
      let undo = undo_of valid.behind t.number in
      passes m m c valid is event [] (nothing_left m) silent
      (call_leaves m m c valid works s t event [] valid.behind m.table m.locks (kept c.places v t.number undo) e called_it one silent (turns_of (nothing_left m))
      (own_is m c valid runs works s t e) (λ r other. refl) refl (reached_still m m c valid works) refl refl (λ r u other also. refl)
      (ap (λ (w : View). kept c.places w t.number undo) (sym (sees v t.number))) (no_lock m m c valid works s t event e (free v.registers)))

  -- What a comparison that isn't refused finds.
  record AreCompared (h h2 : ℕ) : Type 0 where
    t : Transaction
    active : b.active s ≡ Some t
    p : Place
    q : Place
    here : held_place (own m s) h ≡ Ok p
    there : held_place (own m s) h2 ≡ Ok q
    one : IsHeld c.places (view c.g0 b t) t.number h p
    other : IsHeld c.places (view c.g0 b t) t.number h2 q

  -- a comparison that is not refused finds these
  are_compared : (h h2 : ℕ) → same_refusal m s h h2 ≡ None → AreCompared h h2
  are_compared h h2 e =
      let first = got_place (held_place (own m s) h) (λ p. and_then (held_place (own m s) h2) (λ q. None)) e in
      let second = got_place (held_place (own m s) h2) (λ q. None) first.2 in
      let t = held_active m c valid runs works s h first.0 first.1 in
      record {
        t = t.0;
        active = t.1;
        p = first.0;
        q = second.0;
        here = first.1;
        there = second.1;
        one = is_held m c valid runs works s t.0 t.1 h first.0 first.1;
        other = is_held m c valid runs works s t.0 t.1 h2 second.0 second.1;
      }

  -- it is answered as the core answers it
  compared : (h h2 : ℕ) → AreCompared h h2 → call_reply c.g0 b (b.active s) (Same s h h2) ≡ same_reply m s h h2
  compared h h2 both =
      let v = view c.g0 b both.t in
      let w = writing_of b c s both.t both.active valid in
      let one = both.one in
      let other = both.other in
      ap (λ (o : Option Transaction). call_reply c.g0 b o (Same s h h2)) both.active
      ∙ ap (λ (o : Option Id). plain.same_reply o (held v.registers h2)) one.holds
      ∙ ap (plain.same_reply (Some one.id)) other.holds
      ∙ ap (λ (x : Bool). cond x answer.Yes answer.No) (places_same w.stands (whole_made w) one.id other.id (at_hand_front c.places (future valid.behind (all_words c) c.remaining) both.t.number v.made one.id one.at_hand) (at_hand_front c.places (future valid.behind (all_words c) c.remaining) both.t.number v.made other.id other.at_hand)
      ∙ ap (λ o. is_same_place (standing_place o (index_of v.graph one.id)) (place_in (whole w) v.graph other.id)) (address_here w one.id one.at_hand)
      ∙ ap (λ o. is_same_place (place_in c.places v.graph one.id) (standing_place o (index_of v.graph other.id))) (address_here w other.id other.at_hand))
      ∙ ap (λ (p : Place). same_reply_of (Ok p) (Ok (place_in c.places v.graph other.id))) one.place
      ∙ ap (λ (q : Place). same_reply_of (Ok both.p) (Ok q)) other.place
      ∙ ap (λ r. same_reply_of r (Ok both.q)) (sym both.here)
      ∙ ap (same_reply_of (held_place (own m s) h)) (sym both.there)

  -- a comparison is answered as the core answers it, and changes nothing
  pub same_does : (h h2 : ℕ) → core_refusal c (Same s h h2) ≡ same_refusal m s h h2 → (reply : Reply) → reply ≡ reply_of (same_refusal m s h h2) (same_reply m s h h2)
      → Does c (Same s h h2) reply m
  same_does h h2 same reply replied =
      does c (Same s h h2) (same_refusal m s h h2) (same_reply m s h h2) reply m same replied (λ e. compared h h2 (are_compared h h2 e))
      (λ e done_it. let both = are_compared h h2 e in tells (Same s h h2) both.t both.active tt refl (quiet_records c (Same s h h2) tt refl) (λ v t. refl) (λ rs. refl))
      (λ why e. is)

  -- a length is answered as the core answers it, and changes nothing
  pub len_does : (h : ℕ) → core_refusal c (Len s h) ≡ len_refusal m s h → (reply : Reply) → reply ≡ reply_of (len_refusal m s h) (len_reply m s h) → Does c (Len s h) reply m
  len_does h same reply replied =
      let found = λ (e : len_refusal m s h ≡ None). got_place (held_place (own m s) h) (λ p. None) e in
      let active = λ (e : len_refusal m s h ≡ None). held_active m c valid runs works s h (found e).0 (found e).1 in
      does c (Len s h) (len_refusal m s h) (len_reply m s h) reply m same replied
      (λ e.
      let got = found e in
      let t = active e in
      let one = is_held m c valid runs works s t.0 t.1 h got.0 got.1 in
      ap (λ (o : Option Transaction). call_reply c.g0 b o (Len s h)) t.1
      ∙ ap (λ (o : Option Id). answer.Length (length (fields_of (view c.g0 b t.0).graph o))) one.holds
      ∙ ap answer.Length (sym (length-held_fields m c valid runs works s t.0 t.1 h got.0 got.1 one)))
      (λ e done_it. let t = active e in tells (Len s h) t.0 t.1 tt refl (quiet_records c (Len s h) tt refl) (λ v u. refl) (λ rs. refl))
      (λ why e. is)
