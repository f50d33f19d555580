-- What a transaction has locked is current: it had the object at hand, and none at hand remains in the from-space.
use Rattle.std.proofs.Common.{◌≡◌, ℕ, ◌+◌, inl, inr, List, Option, None, Some, refl, sym, ap, ◌∙◌, subst}
use Rattle.std.specs.Option.{option_map, option_to_list}
use Rattle.graph_model.specs.declared.event.Event.{Event}
use Rattle.graph_model.specs.declared.event.Event.TheVariants.{Put, Clear, Link, Get}
use Rattle.graph_model.specs.declared.id.Id.{Id}
use Rattle.graph_model.specs.Graph.{Graph}
use Rattle.graph_model.specs.Locking.{Exclusive, Lock, Mode, Shared, in_mode, lock_of, locks_of}
use Rattle.graph_model.specs.Transaction.{Transaction, View, fresh_view, held, run}
use Rattle.commit_order.proofs.LockingLaws.{locks_of_calls-append}
use Rattle.log_machine.specs.Machine.{State, owed}
use Rattle.log_machine.proofs.ListLaws.{AllByRecursion-append}
use Rattle.graph_words.specs.Places.{IsAtHand, Places, address_of}
use Rattle.collection_words.specs.Completed.{completed_places}
use Rattle.collection_words.proofs.Laid.Names.{own_names}
use Rattle.heap_model.proofs.Step.Handles.{held_at_hand}
use Rattle.core_laws.proofs.Collecting.Carried.{own_rest}
use Rattle.core_laws.proofs.Sessions.Actives.{after_call}
use Rattle.core_laws.specs.Valid.{AreUnlocked, IsWriting}

module _ {places remaining : Places} {v : View} {t : ℕ} {locks : List Lock} {words : List ℕ} {state : State} (w : IsWriting places remaining v t locks words state) where
  abbrev whole : Places
  whole = completed_places state places remaining words

  -- an object at hand does not remain
  pub hand_gone : (id : Id) → IsAtHand places t v.made id → address_of remaining id ≡ None
  hand_gone id (inl there) =
      let own = own_names whole _ state.base whole (state.base + (state.used + owed state)) w.stands.ends w.stands.names in
      own_rest words places remaining (state.base + state.used) own id there
  hand_gone id (inr own) = ap (λ (n : ℕ). address_of remaining (record { t = n; k = id.k })) own.maker ∙ w.apart id.k

  lock_gone : (h : ℕ) (mode : Mode) (o : Option Id) → held v.registers h ≡ o → AreUnlocked remaining (option_to_list (option_map (in_mode mode) o))
  lock_gone h mode None holds = tt
  lock_gone h mode (Some id) holds = (hand_gone id (held_at_hand places t v.made v.registers h id w.handles holds), tt)

  -- nor does what a call locks
  pub call_gone : (event : Event) → AreUnlocked remaining (option_to_list (lock_of v.registers event))
  call_gone (Put s h i n) = lock_gone h Exclusive (held v.registers h) refl
  call_gone (Clear s h i) = lock_gone h Exclusive (held v.registers h) refl
  call_gone (Link s h i h2) = lock_gone h Exclusive (held v.registers h) refl
  call_gone (Get s h i h2) = lock_gone h Shared (held v.registers h) refl
  call_gone event = tt

-- with one more call no locked object remains
pub unlocked_on : (places remaining : Places) (g : Graph) (t : Transaction) (event : Event) (words : List ℕ) (state : State) → IsWriting places remaining (run g t) t.number (locks_of g t) words state
    → AreUnlocked remaining (locks_of g (after_call t event))
unlocked_on places remaining g t event words state w =
    subst (AreUnlocked remaining) (sym (locks_of_calls-append (fresh_view g) t.number t.calls event))
    (AllByRecursion-append (λ (l : Lock). address_of remaining l.0 ≡ None) (locks_of g t) (option_to_list (lock_of (run g t).registers event)) w.unlocked (call_gone w event))
