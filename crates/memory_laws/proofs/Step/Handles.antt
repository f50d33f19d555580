-- A root and a drop are answered as the core answers them, and leave memory as the core is then.
use Rattle.std.proofs.Common.{◌≡◌, ℕ, List, [], Option, Some, None, refl, sym, ap, ◌∙◌}
use Rattle.std.specs.Prelude.{slice_set}
use Rattle.std.specs.Option.{option_map}
use Rattle.std.proofs.lemmas.List.{map-set}
use Rattle.graph_model.specs.declared.id.Id.{Id}
use Rattle.graph_model.specs.declared.event.Event.{Event}
use Rattle.graph_model.specs.declared.event.Event.TheVariants.{Root, Drop}
use Rattle.graph_model.specs.declared.reply.Refusal.{Refusal}
use Rattle.graph_model.specs.declared.reply.Reply.{Reply}
use Rattle.graph_model.specs.declared.reply.Reply.TheVariants as answer
use Rattle.graph_model.specs.Graph.{root}
use Rattle.graph_model.specs.Locking.{lock_of}
use Rattle.graph_model.specs.Transaction.{Registers, Transaction, View, IsCall, call}
use Rattle.graph_model.specs.History.{Account, account, session_of}
use Rattle.graph_model.specs.Plain.{view, reply_of}
use Rattle.graph_model.proofs.Refusals.Plain.{call_reply-done}
use Rattle.heap_spaces.specs.Spaces.{SpacesState}
use Rattle.log_machine.specs.declared.UndoEntry.{UndoEntry}
use Rattle.log_machine.specs.Machine.{State, undo_of}
use Rattle.txn_table.specs.declared.place.Place.{Place}
use Rattle.graph_words.specs.Places.{Places}
use Rattle.heap_model.specs.Core.{Core, core_refusal}
use Rattle.core_laws.proofs.Sessions.Whole.{rooted}
use Rattle.core_laws.proofs.Step.Goes.{writing_of}
use Rattle.core_laws.specs.Valid.{IsValid}
use Rattle.core_laws.proofs.Step.Forms.{quiet_records}
use Rattle.heap_memory.specs.Memory.{Memory, own, root_place}
use Rattle.heap_memory.specs.Refusals.{handle_refusal}
use Rattle.heap_memory.specs.Leaves.{SetsHandle, with_handle}
use Rattle.memory_laws.specs.CoreMemory.{place_in, kept, IsMemory}
use Rattle.memory_laws.proofs.Does.{Does}
use Rattle.memory_laws.proofs.Kept.Held.{place_in-placed}
use Rattle.memory_laws.proofs.Kept.Parts.{Works, turns_of, works_of}
use Rattle.memory_laws.proofs.Step.Answered.{does}
use Rattle.memory_laws.proofs.Step.Appended.{Passes, mine, no_lock, own_at, passes, quiet_goes, spaces_are, stays}

-- what is kept of a transaction one of whose handles holds another object, or nothing
pub kept_set : (places : Places) (v : View) (t : ℕ) (undo : List UndoEntry) (h : ℕ) (o : Option Id) (p : Option Place) → p ≡ option_map (place_in places v.graph) o
    → with_handle (kept places v t undo) h p ≡ kept places (record v { registers = slice_set v.registers h o }) t undo
kept_set places v t undo h o p is =
    ap (with_handle (kept places v t undo) h) is
    ∙ ap (λ (hs : List (Option Place)). record (kept places v t undo) { handles = hs }) (sym (map-set (option_map (place_in places v.graph)) v.registers h o))

module _ (m n : Memory) (c : Core) (valid : IsValid c) (is : IsMemory m (account c.history) c) (s : ℕ) where
  -- what the history says
  abbrev a : Account
  a = account c.history

  -- the state after all records
  abbrev behind : State
  behind = valid.behind

  -- the words and the sessions are the core's
  works : Works m a c
  works = works_of m a c is

  -- a call that writes nothing, after which a handle holds this
  set_goes : (event : Event) (h : ℕ) (o : Option Id) (p : Option Place) → IsCall event → session_of event ≡ s → own_at c event ≡ []
      → ((v : View) (t : ℕ) → (call v t event).view ≡ record v { registers = slice_set v.registers h o })
      → ((t : Transaction) → a.active s ≡ Some t → p ≡ option_map (place_in c.places (view c.g0 a t).graph) o) → ((rs : Registers) → lock_of rs event ≡ None) → SetsHandle m n s h p
      → Passes n c event
  set_goes event h o p called_it one silent sees place free sets =
      let t = mine m n c valid works s sets.transaction sets.was in
      let v = view c.g0 a t.0 in
      let undo = undo_of behind t.0.number in
      passes m n c valid is event [] sets.left silent
      (quiet_goes m n c valid works s t.0 event m.locks (with_handle sets.transaction h p) t.1 called_it one silent (turns_of sets.left)
      (ap (λ y. with_handle y h p) t.2 ∙ kept_set c.places v t.0.number undo h o p (place t.0 t.1) ∙ ap (λ (w : View). kept c.places w t.0.number undo) (sym (sees v t.0.number)))
      (no_lock m n c valid works s t.0 event t.1 (free v.registers)))

  -- the root stands at the first word of the current space
  root_stands : (t : Transaction) → a.active s ≡ Some t → Some (root_place m) ≡ option_map (place_in c.places (view c.g0 a t).graph) (Some root)
  root_stands t e =
      let w = writing_of a c s t e valid in
      ap (λ (p : Place). Some p) (sym (place_in-placed c.places (view c.g0 a t).graph root m.spaces.base (rooted w valid.told.heap ∙ ap (λ (x : SpacesState). Some x.base) (sym (spaces_are m n c valid is)))))

  -- a root is answered as the core answers it, and a handle holds the root then
  pub root_does : (h : ℕ) → core_refusal c (Root s h) ≡ handle_refusal (own m s) h → (reply : Reply) → reply ≡ reply_of (handle_refusal (own m s) h) answer.Done
      → (reply ≡ answer.Done → SetsHandle m n s h (Some (root_place m))) → ((why : Refusal) → reply ≡ answer.Refused why → n ≡ m) → Does c (Root s h) reply n
  root_does h same reply replied set stayed =
      does c (Root s h) (handle_refusal (own m s) h) answer.Done reply n same replied (λ e. call_reply-done c.g0 a (a.active s) (Root s h) tt)
      (λ e done_it. set_goes (Root s h) h (Some root) (Some (root_place m)) tt refl (quiet_records c (Root s h) tt refl) (λ v t. refl) root_stands (λ rs. refl) (set done_it))
      (λ why e. stays m n c valid is (stayed why e))

  -- a drop is answered as the core answers it, and a handle holds nothing then
  pub drop_does : (h : ℕ) → core_refusal c (Drop s h) ≡ handle_refusal (own m s) h → (reply : Reply) → reply ≡ reply_of (handle_refusal (own m s) h) answer.Done
      → (reply ≡ answer.Done → SetsHandle m n s h None) → ((why : Refusal) → reply ≡ answer.Refused why → n ≡ m) → Does c (Drop s h) reply n
  drop_does h same reply replied set stayed =
      does c (Drop s h) (handle_refusal (own m s) h) answer.Done reply n same replied (λ e. call_reply-done c.g0 a (a.active s) (Drop s h) tt)
      (λ e done_it. set_goes (Drop s h) h None None tt refl (quiet_records c (Drop s h) tt refl) (λ v t. refl) (λ t e. refl) (λ rs. refl) (set done_it))
      (λ why e. stays m n c valid is (stayed why e))
