-- A seal is answered as the core answers it, and leaves memory as the core is then.
use Rattle.std.proofs.Common.{◌≡◌, ◌≢◌, inl, inr, ℕ, ◌+◌, List, [], ◌∷◌, ◌++◌, length, Option, Some, None, Result, Ok, Err, refl, sym, ap, ◌∙◌, subst, arith, length-append}
use Rattle.std.specs.Prelude.{IfOk}
use Rattle.std.specs.Option.{option_to_list}
use Rattle.graph_model.specs.declared.event.Event.TheVariants.{Seal}
use Rattle.graph_model.specs.declared.reply.Refusal.{Refusal}
use Rattle.graph_model.specs.declared.reply.Reply.{Reply}
use Rattle.graph_model.specs.declared.reply.Reply.TheVariants.{Sealed, Refused}
use Rattle.graph_model.specs.Graph.{Graph}
use Rattle.graph_model.specs.Locking.{Exclusive}
use Rattle.graph_model.specs.Transaction.{Transaction, View, fresh_view, run, serial}
use Rattle.graph_model.specs.History.{Account, account, account_after}
use Rattle.graph_model.proofs.Runs.History.{serial-append}
use Rattle.graph_model.specs.Plain.{view, reply_of}
use Rattle.commit_order.specs.Heard.{heard_in}
use Rattle.commit_order.proofs.LockingLaws.{IsExclusive, RunAlike, locks_of-other, runs_alike}
use Rattle.commit_order.proofs.OrderLaws.{IsOrdered, two_phase_ordered}
use Rattle.commit_order.specs.SerialOrder.{numbers_begun}
use Rattle.log_records.specs.declared.Record.{Record}
use Rattle.log_machine.specs.declared.UndoEntry.{UndoEntry}
use Rattle.log_machine.proofs.ListLaws.{AllByRecursion-map}
use Rattle.log_machine.specs.Machine.{spaces_of, State, field_at, undo_of}
use Rattle.volatile_area.specs.Area.{AreaState}
use Rattle.heap_spaces.specs.Spaces.{SpacesState, with_taken}
use Rattle.object_locks.specs.Holdings.{without}
use Rattle.txn_table.specs.Table.{TransactionState, transaction_of, with_ended}
use Rattle.txn_table.proofs.TableLaws.{with_ended_same, with_ended_other}
use Rattle.graph_words.specs.Places.{address_of, Places, made_by}
use Rattle.graph_words.specs.Promotion.{Field, promoted_need, seal_records, written_fields}
use Rattle.graph_words.proofs.Seal.Places.{address_of-append_left}
use Rattle.heap_model.specs.Core.{Core, ground, all_records, all_words, state_behind, area_in, seal_of, seal_need, sealed_places, space_refusal, room_refusal, call_records, event_records, event_places, core_refusal}
use Rattle.core_laws.proofs.Sessions.Apart.{own_away}
use Rattle.core_laws.proofs.Step.Goes.{writing_of}
use Rattle.core_laws.proofs.Sessions.OtherWrites.{IsAway, others_at, undo_other}
use Rattle.core_laws.proofs.Seal.Cases.{old_or_new, reached, stays_beside}
use Rattle.core_laws.proofs.Seal.Told as seal
use Rattle.core_laws.proofs.Seal.Words.{fields_written}
use Rattle.core_laws.proofs.Sessions.Actives.{each_session}
use Rattle.core_laws.specs.Valid.{IsValid, RunsLocked}
use Rattle.heap_memory.specs.Memory.{Memory}
use Rattle.heap_memory.specs.Refusals.{sealing_records, sealing_need, seal_refusal}
use Rattle.heap_memory.specs.Leaves.{Leaves, IsAsItWas, Seals}
use Rattle.memory_laws.specs.CoreMemory.{kept, kept_of, AreHeld, IsMemory}
use Rattle.memory_laws.proofs.Does.{Does}
use Rattle.memory_laws.proofs.Kept.Locks.{held_sealed}
use Rattle.core_laws.proofs.Step.Events.{may_go}
use Rattle.graph_words.proofs.Places.Addresses.{none_or_some}
use Rattle.graph_words.proofs.Promotion.Alike.{AgreeIn, need_same}
use Rattle.graph_model.specs.declared.id.Id.{Id}
use Rattle.memory_laws.proofs.Step.Answered.{as_it_was, Goes, does}
use Rattle.memory_laws.proofs.Kept.Parts.{Works, turns_of, works_of}
use Rattle.memory_laws.proofs.Step.Appended.{appended, collection_here, ground_in, mine, own_kept, passes, spaces_are}
use Rattle.memory_laws.proofs.Kept.Beside.{GoesOn, kept_on}

-- What a seal finds.
module _ (c : Core) (valid : IsValid c) (runs : RunsLocked c.g0 c.first c.history) (s : ℕ) (t : Transaction) (e : (account c.history).active s ≡ Some t)
    (space : space_refusal (ground c).state (seal_need (ground c) t.number (view c.g0 (account c.history) t)) ≡ None) where
  -- what the history says
  abbrev a : Account
  a = account c.history

  -- the state after all records
  abbrev behind : State
  behind = valid.behind

  -- the order of the transactions
  abbrev order : IsOrdered c.g0 (numbers_begun c.history) a (heard_in c.history)
  order = two_phase_ordered c.g0 c.history runs.plain runs.two_phase

  -- what the transaction sees
  abbrev v : View
  v = view c.g0 a t

  -- all words
  abbrev now : List ℕ
  now = all_words c

  -- its writes that may be taken back
  abbrev undo : List UndoEntry
  undo = undo_of behind t.number

  -- its area
  abbrev area : AreaState
  area = area_in c.places v t.number

  -- the state after the seal
  abbrev last : State
  last = seal.last a c valid order s t e

  -- the objects that stand in the space then
  abbrev later : Places
  later = c.places ++ seal.placed a c valid order s t e

  -- what the history says then
  abbrev sealed : Account
  sealed = account_after a (record { event = Seal s; reply = Sealed (length a.sealed + 1) })

  -- all words are like those that the transaction sees in the fields that it wrote
  agree : AgreeIn (seal.own_words a c valid order s t e) now (written_fields undo)
  agree =
      let Away : Field → Type 0 = λ f. IsAway behind t.number (field_at f.0 f.1) in
      AllByRecursion-map Away (λ f. _) (written_fields undo) (λ f away. inl (sym (others_at behind t.number now (field_at f.0 f.1) away)))
      (fields_written (IsAway behind t.number) undo (own_away a c valid order s t e))

  -- so the promotion takes as many words
  asked_same : promoted_need area now undo ≡ seal.asked a c valid order s t e
  asked_same = need_same area (seal.own_words a c valid order s t e) now undo agree

  -- the core's records are those of the seal
  appends : event_records c (Seal s) ≡ seal_of (ground c) t.number v
  appends = ap (λ (o : Option Transaction). call_records (ground c) c.g0 a o (Seal s)) e

  -- all records lead to the state after it
  seal_reaches : state_behind c (all_records c ++ event_records c (Seal s)) ≡ Some last
  seal_reaches = ap (λ (rs : List Record). state_behind c (all_records c ++ rs)) (appends ∙ seal.seal_is a c valid order s t e) ∙ reached a c valid order s t e space

  -- and so are its places
  places_then : event_places c (Seal s) ≡ seal.placed a c valid order s t e
  places_then = ap (sealed_places (ground c) c.g0 a) e ∙ seal.places_are a c valid order s t e

  -- the graph that the seal leaves
  left_then : serial c.g0 sealed.sealed ≡ v.graph
  left_then = ap (λ (o : Option Transaction). serial c.g0 (a.sealed ++ option_to_list o)) e ∙ serial-append c.g0 a.sealed t

  -- What another session's transaction sees then.
  module _ (r : ℕ) (u : Transaction) (apart : s ≢ r) (also : a.active r ≡ Some u) where
    -- it has another number
    differ : t.number ≢ u.number
    differ = (order.beside s r t u apart e also).differ

    -- it runs alike on what the seal leaves
    alike : RunAlike t.number (IsExclusive (serial c.g0 a.sealed) t) (fresh_view (serial c.g0 a.sealed)) (fresh_view v.graph) u.number u.calls
    alike = runs_alike (serial c.g0 a.sealed) t u order.closed (λ same. differ (sym same)) (order.unused s t e) (order.beside s r t u apart e also).apart

    -- and sees there what it saw
    goes_on : GoesOn c.places later (view c.g0 a u) (run v.graph u) u.number
    goes_on =
        let w = writing_of a c r u also valid in
        let stays = stays_beside a c valid order s t e space r u apart also in
        record {
          has = w.made;
          handles = w.handles;
          registers = sym alike.views.registers;
          made = sym alike.views.made;
          grown = λ id at there. address_of-append_left c.places (seal.placed a c valid order s t e) id at there;
          apart = stays.made.apart;
          own = λ k first few. sym (alike.views.objects (made_by u.number k) (λ same. differ (sym same))
              (λ holds. locks_of-other (serial c.g0 a.sealed) t u.number (made_by u.number k) Exclusive order.closed differ (order.unused r u also) holds refl));
        }

    -- all that is kept of it stays
    kept_beside : kept later (view c.g0 sealed u) u.number (undo_of last u.number) ≡ kept c.places (view c.g0 a u) u.number (undo_of behind u.number)
    kept_beside =
        ap (λ (g : Graph). kept later (run g u) u.number (undo_of last u.number)) left_then
        ∙ ap (kept later (run v.graph u) u.number) (undo_other behind t.number u.number [] 0 differ)
        ∙ kept_on c.places later (view c.g0 a u) (run v.graph u) u.number goes_on (undo_of behind u.number)

  -- what does not stand in the space then did not before
  none_before : (id : Id) → address_of later id ≡ None → address_of c.places id ≡ None
  none_before id none = elim (none_or_some (address_of c.places id)) [
    | inl before ↦ before
    | inr old ↦ let clash = sym none ∙ address_of-append_left c.places (seal.placed a c valid order s t e) id old.0 old.1 in cc
  ]

  -- only objects that the transaction made come to stand in the space
  others_stand : (id : Id) → id.t ≢ t.number → address_of later id ≡ address_of c.places id
  others_stand id other =
      elim (none_or_some (address_of later id)) [
        | inl none ↦ none ∙ sym (none_before id none)
        | inr there ↦ elim (old_or_new a c valid order s t e space id there.0 there.1) [
          | inl old ↦ there.1 ∙ sym old
          | inr maker ↦ absurd (other maker)
        ]
      ]

  -- what is kept of each other session's transaction stays
  kept_then : (r : ℕ) → r ≢ s → (o : Option Transaction) → a.active r ≡ o → kept_of (ground_in c c.places behind) c.g0 a o ≡ kept_of (ground_in c later last) c.g0 sealed o
  kept_then r other None also = refl
  kept_then r other (Some u) also = ap (λ (y : TransactionState). Some y) (sym (kept_beside r u (λ same. other (sym same)) also))

  module _ (m n : Memory) (is : IsMemory m a c) where
    -- the words and the sessions are the core's
    works : Works m a c
    works = works_of m a c is

    -- the records in memory are the core's
    sealing_same : (x : TransactionState) → x ≡ kept c.places v t.number undo → sealing_records m x ≡ event_records c (Seal s)
    sealing_same x same =
        ap (sealing_records m) same ∙ ap (λ (ws : List ℕ). seal_records area ws undo (m.spaces.base + m.spaces.used)) is.words
        ∙ ap (λ (spaces : SpacesState). seal_records area now undo (spaces.base + spaces.used)) (spaces_are m n c valid is)
        ∙ sym (ap (λ (o : Option State). seal_of (record { places = c.places; remaining = c.remaining; words = now; state = o }) t.number v) valid.told.reached)
        ∙ sym appends

    -- and what it takes of the space
    taking_same : (x : TransactionState) → x ≡ kept c.places v t.number undo → with_taken m.spaces (sealing_need m x) ≡ spaces_of last
    taking_same x same =
        ap (λ (y : TransactionState). with_taken m.spaces (sealing_need m y)) same ∙ ap (λ (ws : List ℕ). with_taken m.spaces (promoted_need area ws undo)) is.words
        ∙ ap (λ (spaces : SpacesState). with_taken spaces (promoted_need area now undo)) (spaces_are m n c valid is)
        ∙ ap (with_taken (spaces_of behind)) asked_same

    -- a seal leaves memory as the core is then
    sealed_goes : (seals : Seals m n s) → seals.transaction ≡ kept c.places v t.number undo → Goes n c (Seal s)
    sealed_goes seals same =
        let x = seals.transaction in
        let table = with_ended m.table s in
        let taken = with_taken m.spaces (sealing_need m x) in
        let locks = without m.locks t.number in
        let number : x.number ≡ t.number = ap (λ (y : TransactionState). y.number) same in
        let left = subst (λ (q : ℕ). Leaves m n (event_records c (Seal s)) table (without m.locks q) taken m.collection (m.sealed + 1)) number
        (subst (λ (rs : List Record). Leaves m n rs table (without m.locks x.number) taken m.collection (m.sealed + 1)) (sealing_same x same) seals.left) in
        let P : ℕ → Option Transaction → Type 0 = λ r o. transaction_of table r ≡ kept_of (ground_in c later last) c.g0 sealed o in
        let each = each_session P a.active s None (with_ended_same m.table s)
        (λ r other. with_ended_other m.table s r other ∙ own_kept m n c valid works r ∙ kept_then r other (a.active r) refl) in
        let there = λ (r : ℕ). each r ∙ ap (λ (ps : Places). kept_of (ground_in c (c.places ++ ps) last) c.g0 sealed (sealed.active r)) (sym places_then) in
        let count : m.sealed + 1 ≡ length sealed.sealed =
        omega (arith, is.sessions.sealed, ap (λ (o : Option Transaction). length (a.sealed ++ option_to_list o)) e, length-append a.sealed (t ∷ [])) in
        let held = subst (λ (ps : Places). AreHeld locks (c.places ++ ps) c.g0 sealed) (sym places_then)
        (held_sealed c.g0 c.history m.locks c.places later s (length a.sealed + 1) t runs.plain runs.two_phase e others_stand is.sessions.locks) in
        passes m n c valid is (Seal s) (event_records c (Seal s)) left refl
        (appended m n c valid works sealed (event_records c (Seal s)) (c.places ++ event_places c (Seal s)) table locks taken m.collection (m.sealed + 1) last (turns_of left) seal_reaches (taking_same x same)
        (collection_here m n c valid works) there held is.sessions.next count)

module _ (m n : Memory) (c : Core) (valid : IsValid c) (runs : RunsLocked c.g0 c.first c.history) (is : IsMemory m (account c.history) c) (s : ℕ) where
  -- a seal is answered as the core answers it, and the session has no transaction then
  pub seal_does : {E : Type 0} → core_refusal c (Seal s) ≡ seal_refusal m s → (result : Result Reply E) → IfOk result (λ reply. reply ≡ reply_of (seal_refusal m s) (Sealed (m.sealed + 1)))
      → ((number : ℕ) → result ≡ Ok (Sealed number) → Seals m n s) → ((why : Refusal) → result ≡ Ok (Refused why) → IsAsItWas m n) → IfOk result (λ reply. Does c (Seal s) reply n)
  seal_does same (Err e) replied sealed_it stayed = tt
  seal_does same (Ok reply) replied sealed_it stayed =
      does c (Seal s) (seal_refusal m s) (Sealed (m.sealed + 1)) reply n same replied (λ e. ap (λ (k : ℕ). Sealed (k + 1)) (sym is.sessions.sealed))
      (λ e done_it.
      let seals = sealed_it (m.sealed + 1) (ap Ok done_it) in
      let t = mine m n c valid (works_of m (account c.history) c is) s seals.transaction seals.was in
      sealed_goes c valid runs s t.0 t.1 (ap (λ (o : Option Transaction). room_refusal (ground c) c.g0 (account c.history) o (Seal s)) (sym t.1) ∙ (may_go c (Seal s) valid.unfailed (same ∙ e)).words)
      m n is seals t.2)
      (λ why e. as_it_was m n c is (stayed why (ap Ok e)))
