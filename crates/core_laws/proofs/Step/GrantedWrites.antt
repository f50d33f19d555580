-- A write of one session that is granted leaves a core that agrees with its history.
use Rattle.std.proofs.Common.{◌≡◌, ◌≢◌, inl, inr, ℕ, Bool, false, ◌+◌, ◌<◌, List, [], ◌∷◌, ◌++◌, length, get_or, Option, Some, None, is_some, refl, sym, ap, ◌∙◌, subst, arith}
use Rattle.std.specs.List.{AllByRecursion, Contains}
use Rattle.std.specs.Option.{option_to_list, option_map}
use Rattle.std.proofs.lemmas.List.{append-nil}
use Rattle.std.proofs.lemmas.List.Elements.{Contains-push}
use Rattle.graph_model.specs.declared.event.Event.{Event}
use Rattle.graph_model.specs.declared.id.Id.{Id}
use Rattle.graph_model.specs.declared.val.Val.{Val}
use Rattle.graph_model.specs.Graph.{Graph, fields, with_field}
use Rattle.graph_model.specs.History.{Account, with_call}
use Rattle.graph_model.proofs.Runs.History.{run-append}
use Rattle.graph_model.specs.Locking.{Exclusive, in_mode, lock_on, lock_of, locks_of, IsFree}
use Rattle.graph_model.specs.Plain.{view, field_refusal}
use Rattle.graph_model.proofs.Refusals.Granted.{holds_field}
use Rattle.graph_model.specs.Transaction.{Transaction, View, held, put_value, call, fresh_view, run, serial}
use Rattle.commit_order.specs.Heard.{Heard}
use Rattle.commit_order.proofs.LockingLaws.{locks_of_calls-append}
use Rattle.commit_order.proofs.OrderLaws.{IsOrdered}
use Rattle.log_records.specs.declared.Record.{Record}
use Rattle.log_machine.specs.Apart.{others_taken_back}
use Rattle.log_machine.specs.Machine.{State, field_at, owed, undo_of, put_record, with_word}
use Rattle.log_machine.proofs.MachineLaws.{undo_with}
use Rattle.log_machine.proofs.MapLaws.{each_insert}
use Rattle.log_machine.specs.declared.UndoEntry.{UndoEntry}
use Rattle.graph_words.specs.Area.{HasMade}
use Rattle.graph_words.specs.Places.{Places, IsOwn, IsVisible, address_of}
use Rattle.graph_words.proofs.Places.Addresses.{some_address}
use Rattle.graph_words.specs.Stands.{Stands, AreWritten, AreOfFields}
use Rattle.graph_words.proofs.Seal.Places.{address_of-append_left}
use Rattle.collection_words.specs.Completed.{completed, completed_places, future}
use Rattle.collection_words.specs.LaidOut.{AreHeapWords, is_gray_field}
use Rattle.collection_words.specs.Writes.{IsHereWrite}
use Rattle.collection_words.proofs.Heap.Front.{visible_front}
use Rattle.collection_words.proofs.Heap.Write.{heap_write}
use Rattle.graph_words.proofs.Stands.Own.{own_write_stands, own_write_made, own_write_written}
use Rattle.graph_words.proofs.Stands.Write.{write_stands, write_made, write_written}
use Rattle.graph_words.proofs.Stands.Visible.{length-with_field}
use Rattle.heap_model.specs.Core.{Core, log_start, all_records, all_words, view_records}
use Rattle.heap_model.proofs.Step.Granted.{stable_records, own_records}
use Rattle.heap_model.proofs.Step.Handles.{ReadsVisible, held_at_hand, call_at_hand}
use Rattle.heap_model.proofs.Opening.Told.{of_fields_kept, word_in, entry_of, update_of, written}
use Rattle.heap_model.specs.CoreTold.{HoldsAtHand, IsTold}
use Rattle.core_laws.proofs.Sessions.Apart.{apart_with, away_field, free_shared, object_now, value_now, word_now}
use Rattle.core_laws.proofs.Step.Goes.{words_with, writing_of, number_below, numbered_as, goes_on}
use Rattle.core_laws.proofs.Step.Granted.{HasRoom, reserved_told, quiet_goes, locked_on}
use Rattle.core_laws.proofs.Sessions.Stays.{stays_write}
use Rattle.core_laws.proofs.Sessions.OtherWrites.{IsAway, others_own_write}
use Rattle.core_laws.proofs.Sessions.Actives.{each_session, writer_by, after_call, called, called_active, called_sessions, called_numbered, called_actives}
use Rattle.core_laws.proofs.Sessions.Unlocked.{unlocked_on}
use Rattle.core_laws.proofs.Sessions.Whole.{rooted, same_word, whole_made}
use Rattle.core_laws.proofs.Step.Told.{IsWriteAt, here, was_whole, write_told}
use Rattle.core_laws.specs.Valid.{IsActive, AreLockedWrites, IsWriting, IsWriter, Agrees}

-- What the transaction sees.

-- a write into an object that the transaction made
own_write_writing : (places remaining : Places) (g : Graph) (t : Transaction) (event : Event) (now : List ℕ) (state : State) (id : Id) (i : ℕ) (x : Val) → AreHeapWords state places remaining now
    → ReadsVisible places t.number (run g t).made (run g t) event → IsWriting places remaining (run g t) t.number (locks_of g t) now state
    → IsOwn t.number (run g t).made id → IsVisible places t.number (run g t).made x → (call (run g t) t.number event).view.graph ≡ with_field (run g t).graph id i x
    → (call (run g t) t.number event).view.made ≡ (run g t).made → IsWriting places remaining (call (run g t) t.number event).view t.number (locks_of g (after_call t event)) now state
own_write_writing places remaining g t event now state id i x heap reads w own seen graph made =
    let v = run g t in
    let n = t.number in
    let all = completed_places state places remaining now in
    let words = others_taken_back state n (completed state places remaining now) in
    let back = sym graph in
    let same = sym made in
    let handles = call_at_hand places n v.made v (ap is_some (rooted w heap)) w.handles event reads made in
    record {
      stands = subst (λ m. Stands n m all (call v n event).view.graph words state.base (state.used + owed state)) same
          (subst (λ k. Stands n v.made all k words state.base (state.used + owed state)) back (own_write_stands w.stands (whole_made w) id i x own));
      made = subst (λ m. HasMade places (call v n event).view.graph n m) same (subst (λ k. HasMade places k n v.made) back (own_write_made w.made id i x own seen));
      apart = w.apart;
      written = subst (λ k. AreWritten all k (undo_of state n)) back (own_write_written (whole_made w) (undo_of state n) w.written id i x own);
      fields = subst (λ k. AreOfFields places k (undo_of state n)) back
          (of_fields_kept places v.graph (with_field v.graph id i x) (undo_of state n) (λ q at is. length-with_field v.graph id i x q) w.fields);
      locked = locked_on places g t event (undo_of state n) w.locked;
      unlocked = unlocked_on places remaining g t event now state w;
      handles = subst (λ m. AllByRecursion (HoldsAtHand places n m) (call v n event).view.registers) same handles;
    }

-- a write into an object that stands in the current space
stable_write_writing : (pages first_number : ℕ) (born : Bool) (places remaining : Places) (g : Graph) (k : ℕ) (records : List Record) (now : List ℕ) (t : Transaction) (event : Event) (state : State) (id : Id) (at i : ℕ) (x : Val)
    → (one : IsWriteAt pages first_number born places remaining g (run g t) k t.number (locks_of g t) records now state id at i x) → IsAway state t.number (field_at at i)
    → ReadsVisible places t.number (run g t).made (run g t) event → (call (run g t) t.number event).view.graph ≡ with_field (run g t).graph id i x → (call (run g t) t.number event).view.made ≡ (run g t).made
    → Contains (locks_of g (after_call t event)) (id, Exclusive)
    → IsWriting places remaining (call (run g t) t.number event).view t.number (locks_of g (after_call t event)) (put_record now (update_of places (run g t).graph t.number id at i x))
    (written state t.number (entry_of places (run g t).graph id at i))
stable_write_writing pages first_number born places remaining g k records now t event state id at i x one away reads graph made lock =
    let v = run g t in
    let n = t.number in
    let w = one.writing in
    let back = sym graph in
    let same = sym made in
    let handles = call_at_hand places n v.made v (ap is_some (rooted w one.told.heap)) w.handles event reads made in
    let all = completed_places state places remaining now in
    let whole = completed state places remaining now in
    let entry = entry_of places v.graph id at i in
    let later = written state n entry in
    let undo : undo_of later n ≡ entry ∷ undo_of state n = undo_with state.undo n (entry ∷ undo_of state n) in
    let with : List ℕ = put_record now (update_of places v.graph n id at i x) in
    let left = heap_write one.told.heap (here pages first_number born places remaining g v k n (locks_of g t) records now state id at i x one) in
    let there = address_of-append_left places (future state now remaining) id at one.place in
    let ends = state.used + owed state in
    let others : others_taken_back later n (completed later places remaining with) ≡ with_word (others_taken_back state n whole) at i (word_in all v.graph x) =
    ap (others_taken_back later n) left.same
    ∙ others_own_write state n (entry ∷ undo_of state n) whole at i (word_in places v.graph x) away
    ∙ ap (with_word (others_taken_back state n whole) at i) (sym (same_word w x one.seen)) in
    record {
      stands = subst (λ m. Stands n m (completed_places later places remaining with) (call v n event).view.graph (others_taken_back later n (completed later places remaining with)) state.base ends) same
          (subst (λ k. Stands n v.made (completed_places later places remaining with) k (others_taken_back later n (completed later places remaining with)) state.base ends) back
          (subst (λ ps. Stands n v.made ps (with_field v.graph id i x) (others_taken_back later n (completed later places remaining with)) state.base ends) (sym left.there)
          (subst (λ ws. Stands n v.made all (with_field v.graph id i x) ws state.base ends) (sym others)
          (write_stands w.stands id at i x there one.within (visible_front places (future state now remaining) n v.made x one.seen)))));
      made = subst (λ m. HasMade places (call v n event).view.graph n m) same (subst (λ k. HasMade places k n v.made) back (write_made w.made id at i x one.place));
      apart = w.apart;
      written = subst (λ ps. AreWritten ps (call v n event).view.graph (undo_of later n)) (sym left.there)
          (subst (AreWritten all (call v n event).view.graph) (sym undo) (subst (λ k. AreWritten all k (entry ∷ undo_of state n)) back
          (write_written all v.graph (undo_of state n) w.written id at i x there entry refl refl)));
      fields = subst (AreOfFields places (call v n event).view.graph) (sym undo) (subst (λ k. AreOfFields places k (entry ∷ undo_of state n)) back
          (of_fields_kept places v.graph (with_field v.graph id i x) (entry ∷ undo_of state n) (λ q to is. length-with_field v.graph id i x q)
          (record { id = id; object = one.place; field = one.within }, w.fields)));
      locked = subst (AreLockedWrites places (locks_of g (after_call t event))) (sym undo)
          (record { id = id; object = one.place; lock = lock }, locked_on places g t event (undo_of state n) w.locked);
      unlocked = unlocked_on places remaining g t event now state w;
      handles = subst (λ m. AllByRecursion (HoldsAtHand places n m) (call v n event).view.registers) same handles;
    }

-- the call needs the lock of what its handle holds
lock_after : (g : Graph) (t : Transaction) (event : Event) (hd : ℕ) (id : Id) → lock_of (run g t).registers event ≡ lock_on (run g t).registers hd Exclusive → held (run g t).registers hd ≡ Some id
    → Contains (locks_of g (after_call t event)) (id, Exclusive)
lock_after g t event hd id is holds =
    let one : lock_of (run g t).registers event ≡ Some (id, Exclusive) = is ∙ ap (option_map (in_mode Exclusive)) holds in
    let all : locks_of g (after_call t event) ≡ locks_of g t ++ (id, Exclusive) ∷ [] =
    locks_of_calls-append (fresh_view g) t.number t.calls event ∙ ap (λ o. locks_of g t ++ option_to_list o) one in
    subst (λ ls. Contains ls (id, Exclusive)) (sym all) (Contains-push (locks_of g t) (id, Exclusive))

-- What is required of a write.

-- A write of a value into field i of what a handle holds, by the transaction of a session: no other one holds that object.
record IsWrite (a : Account) (c : Core) (s : ℕ) (t : Transaction) (event : Event) (hd i : ℕ) (v : Val) : Type 0 where
  agrees : Agrees a c
  active : a.active s ≡ Some t
  graph : (call (view c.g0 a t) t.number event).view.graph ≡ put_value (view c.g0 a t).graph (held (view c.g0 a t).registers hd) i v
  made : (call (view c.g0 a t) t.number event).view.made ≡ (view c.g0 a t).made
  seen : IsVisible c.places t.number (view c.g0 a t).made v
  lock : lock_of (view c.g0 a t).registers event ≡ lock_on (view c.g0 a t).registers hd Exclusive
  free : (id : Id) → held (view c.g0 a t).registers hd ≡ Some id → IsFree c.g0 a t.number (Some (id, Exclusive))
  reads : ReadsVisible c.places t.number (view c.g0 a t).made (view c.g0 a t) event
  black : (id : Id) → held (view c.g0 a t).registers hd ≡ Some id → (at : ℕ) → address_of c.places id ≡ Some at → is_gray_field agrees.behind.collection at i ≡ false

-- A write into an object that stands in the current space.

-- a write of a field of an object that no other transaction holds is one that the records can encode
pub writes_at : (a : Account) (c : Core) (h : Agrees a c) {numbers : List ℕ} {heard : Heard} (o : IsOrdered c.g0 numbers a heard) (s : ℕ) (t : Transaction) (e : a.active s ≡ Some t) (id : Id) (at i : ℕ) (v : Val)
    → address_of c.places id ≡ Some at → i < length (fields (view c.g0 a t).graph id) → IsVisible c.places t.number (view c.g0 a t).made v → IsFree c.g0 a t.number (Some (id, Exclusive)) → is_gray_field h.behind.collection at i ≡ false
    → IsWriteAt c.pages c.first_number c.born c.places c.remaining (serial c.g0 a.sealed) (view c.g0 a t) (c.before + length a.sealed) t.number (locks_of (serial c.g0 a.sealed) t) (all_records c) (all_words c) h.behind id at i v
writes_at a c h o s t e id at i v place within seen free black =
    let shared = free_shared c.g0 a t.number id free in
    let entry = entry_of c.places (view c.g0 a t).graph id at i in
    record {
      told = h.told;
      number = numbered_as a c s t e h;
      apart = apart_with a c h o s t e id at i place within free entry refl refl;
      writing = writing_of a c s t e h;
      place = place;
      object = object_now a c h o s t e id at place;
      within = within;
      seen = seen;
      black = black;
      old = value_now a c h o s t e id at i place within shared black;
      was = word_now a c h o s t e id at i place within shared black;
    }

module _ (a : Account) (c : Core) {numbers : List ℕ} {heard : Heard} (o : IsOrdered c.g0 numbers a heard) (s : ℕ) (t : Transaction) (event : Event) (hd i : ℕ) (v : Val) (w : IsWrite a c s t event hd i v) (id : Id) (at : ℕ)
    (holds : held (view c.g0 a t).registers hd ≡ Some id) (within : i < length (fields (view c.g0 a t).graph id)) (place : address_of c.places id ≡ Some at) where
  -- what the sealed transactions left
  abbrev base : Graph
  base = serial c.g0 a.sealed

  -- what the transaction sees
  abbrev seen : View
  seen = view c.g0 a t

  -- the record of the write
  abbrev records : List Record
  records = update_of c.places seen.graph t.number id at i v ∷ []

  -- what it replaces
  abbrev entry : UndoEntry
  entry = entry_of c.places seen.graph id at i

  -- the state after it
  abbrev later : State
  later = written w.agrees.behind t.number entry

  -- no other transaction has written the field
  field_away : IsAway w.agrees.behind t.number (field_at at i)
  field_away = away_field a c w.agrees o s t w.active id at i place within (free_shared c.g0 a t.number id (w.free id holds))

  stable_at : IsWriteAt c.pages c.first_number c.born c.places c.remaining base seen (c.before + length a.sealed) t.number (locks_of base t) (all_records c) (all_words c) w.agrees.behind id at i v
  stable_at = writes_at a c w.agrees o s t w.active id at i v place within w.seen (w.free id holds) (w.black id holds at place)

  stable_here : IsHereWrite c.places (all_words c) at i (word_in c.places seen.graph v)
  stable_here = here c.pages c.first_number c.born c.places c.remaining base seen (c.before + length a.sealed) t.number (locks_of base t) (all_records c) (all_words c) w.agrees.behind id at i v stable_at

  stable_was : get_or (completed w.agrees.behind c.places c.remaining (all_words c)) (field_at at i) 0 ≡ entry.was
  stable_was = was_whole c.pages c.first_number c.born c.places c.remaining base seen (c.before + length a.sealed) t.number (locks_of base t) (all_records c) (all_words c) w.agrees.behind id at i v stable_at

  stable_told : IsTold (log_start c) c.born c.places c.remaining base (c.before + length a.sealed) (all_records c ++ records) (words_with c records) later
  stable_told = write_told c.pages c.first_number c.born c.places c.remaining base seen (c.before + length a.sealed) t.number (locks_of base t) (all_records c) (all_words c) w.agrees.behind id at i v stable_at

  -- the transaction sees what it wrote
  stable_own : IsWriter c.places c.remaining c.g0 (called a s event) (with_call (a.active s) event) (words_with c records) later
  stable_own =
      let graph : (call seen t.number event).view.graph ≡ with_field seen.graph id i v = w.graph ∙ ap (λ (p : Option Id). put_value seen.graph p i v) holds in
      let now = stable_write_writing c.pages c.first_number c.born c.places c.remaining base (c.before + length a.sealed) (all_records c) (all_words c) t event w.agrees.behind id at i v
      stable_at field_away w.reads graph w.made (lock_after base t event hd id w.lock holds) in
      subst (λ x. IsWriter c.places c.remaining c.g0 (called a s event) (with_call x event) (words_with c records) later) (sym w.active)
      (subst (λ x. IsWriting c.places c.remaining x t.number (locks_of base (after_call t event)) (words_with c records) later) (sym (run-append base t event)) now)

  -- the others see what they saw
  stable_others : (r : ℕ) → r ≢ s → IsWriter c.places c.remaining c.g0 a (a.active r) (words_with c records) later
  stable_others r other =
      writer_by c.places c.remaining c.g0 a (a.active r) (words_with c records) later (λ u also.
      let beside = o.beside r s u t other also w.active in
      stays_write (writing_of a c r u also w.agrees) w.agrees.told.heap t.number beside.differ entry (word_in c.places seen.graph v) stable_here stable_was stable_at.apart)

  stable_goes : HasRoom c records (called a s event) → Agrees (called a s event) (record c { pending = c.pending ++ records })
  stable_goes room =
      let h = w.agrees in
      let b = called a s event in
      let P : ℕ → Option Transaction → Type 0 = λ r x. IsWriter c.places c.remaining c.g0 b x (words_with c records) later in
      let below = (number_below a c s t w.active h).1 in
      let known = h.next_known in
      let kept = reserved_told c records b stable_told in
      let here : IsActive b t.number = record { session = s; transaction = after_call t event; active = called_active a s event t w.active; number = refl } in
      goes_on a c b records c.places c.remaining h (record {
        unfailed = h.unfailed;
        certain = h.certain;
        acknowledged = refl;
        in_sessions = called_sessions a s event h.in_sessions;
        next_fits = h.next_fits;
        numbered = called_numbered a s event (c.first + a.begun) h.numbered;
        later = [];
        sealed = sym (append-nil a.sealed);
        behind = later;
        told = stable_told;
        next_known = omega arith;
        losers = each_insert (λ q us. IsActive b q) h.behind.undo t.number (entry ∷ undo_of h.behind t.number) here (λ q us is. called_actives a s event q (h.losers q us is));
        writers = each_session P a.active s (with_call (a.active s) event) stable_own stable_others;
        room = omega arith;
      })

-- A write into an object that the transaction made.

own_goes : (a : Account) (c : Core) (s : ℕ) (t : Transaction) (event : Event) (hd i : ℕ) (v : Val) (id : Id) → IsWrite a c s t event hd i v
    → held (view c.g0 a t).registers hd ≡ Some id → IsOwn t.number (view c.g0 a t).made id → Agrees (called a s event) (record c { pending = c.pending ++ [] })
own_goes a c s t event hd i v id w holds own =
    let seen = view c.g0 a t in
    let writing = writing_of a c s t w.active w.agrees in
    let graph : (call seen t.number event).view.graph ≡ with_field seen.graph id i v = w.graph ∙ ap (λ (p : Option Id). put_value seen.graph p i v) holds in
    quiet_goes a c s t event w.agrees w.active
    (own_write_writing c.places c.remaining (serial c.g0 a.sealed) t event (all_words c) w.agrees.behind id i v w.agrees.told.heap w.reads writing own w.seen graph w.made)

-- A write into either.

-- a call that writes a value into a field of an object that no other transaction holds
pub write_agrees : (a : Account) (c : Core) {numbers : List ℕ} {heard : Heard} (o : IsOrdered c.g0 numbers a heard) (s : ℕ) (t : Transaction) (event : Event) (hd i : ℕ) (v : Val) (more : List Record)
    → (h : Agrees a c) → a.active s ≡ Some t
    → (call (view c.g0 a t) t.number event).view.graph ≡ put_value (view c.g0 a t).graph (held (view c.g0 a t).registers hd) i v
    → (call (view c.g0 a t) t.number event).view.made ≡ (view c.g0 a t).made → IsVisible c.places t.number (view c.g0 a t).made v
    → field_refusal (view c.g0 a t).graph (held (view c.g0 a t).registers hd) i ≡ None
    → lock_of (view c.g0 a t).registers event ≡ lock_on (view c.g0 a t).registers hd Exclusive
    → ((id : Id) → held (view c.g0 a t).registers hd ≡ Some id → IsFree c.g0 a t.number (Some (id, Exclusive)))
    → ReadsVisible c.places t.number (view c.g0 a t).made (view c.g0 a t) event
    → ((id : Id) → held (view c.g0 a t).registers hd ≡ Some id → (at : ℕ) → address_of c.places id ≡ Some at → is_gray_field h.behind.collection at i ≡ false) → more ≡ view_records c.places t.number (view c.g0 a t) hd i v → HasRoom c more (called a s event)
    → Agrees (called a s event) (record c { pending = c.pending ++ more })
write_agrees a c o s t event hd i v more h e graph made visible granted lock free reads black is room =
    let seen = view c.g0 a t in
    let b = called a s event in
    let w : IsWrite a c s t event hd i v = record { agrees = h; active = e; graph = graph; made = made; seen = visible; lock = lock; free = free; reads = reads; black = black } in
    let writing = writing_of a c s t e h in
    let field = holds_field seen hd i granted in
    let id = field.0 in
    let holds = field.1.holds in
    let G : List Record → Type 0 = λ rs. Agrees b (record c { pending = c.pending ++ rs }) in
    elim (held_at_hand c.places t.number seen.made seen.registers hd id writing.handles holds) [
      | inl there ↦
          let place = some_address (address_of c.places id) there in
          let one = is ∙ stable_records c.places t.number seen hd i v id place.0 holds place.1 in
          subst G (sym one) (stable_goes a c o s t event hd i v w id place.0 holds field.1.within place.1 (subst (λ rs. HasRoom c rs b) one room))
      | inr own ↦
          subst G (sym (is ∙ own_records c.places t.number seen.made seen hd i v id holds writing.made own)) (own_goes a c s t event hd i v id w holds own)
    ]
