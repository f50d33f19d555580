-- Active transactions came to what they have overwritten references to: each value that may be put back was once in an object that they have
-- locked.
use Rattle.std.proofs.Common.{◌≡◌, ◌≢◌, ℕ, ◌+◌, List, [], ◌∷◌, ◌++◌, length, map, Option, None, Some, refl, sym, ap, ◌∙◌, subst, arith}
use Rattle.std.specs.Prelude.{slice_index, slice_index_or}
use Rattle.std.specs.Option.{option_map}
use Rattle.std.specs.List.{AllByRecursion, flat_map}
use Rattle.std.proofs.lemmas.List.{append-nil}
use Rattle.std.proofs.lemmas.Option.{same_Some}
use Rattle.graph_model.specs.declared.event.Event.{Event}
use Rattle.graph_model.specs.declared.event.Event.TheVariants.{Begin, Put, Clear, Link, Seal, Abort, Force, Flip, Scan, Flush}
use Rattle.graph_model.specs.declared.id.Id.{Id}
use Rattle.graph_model.specs.declared.val.Val.{Val}
use Rattle.graph_model.specs.declared.val.Val.TheVariants.{Null, Int}
use Rattle.graph_model.specs.Graph.{Graph, fields}
use Rattle.graph_model.specs.History.{Account, account, session_of, with_call}
use Rattle.graph_model.specs.Locking.{Exclusive, in_mode, lock_of}
use Rattle.graph_model.specs.Plain.{view}
use Rattle.graph_model.specs.Transaction.{IsCall, Transaction, View, held, reference_to, run, serial}
use Rattle.graph_model.proofs.Whole.Closed.{slice_get_reference}
use Rattle.commit_order.specs.Heard.{heard_in}
use Rattle.commit_order.specs.SerialOrder.{numbers_begun}
use Rattle.commit_order.proofs.OrderLaws.{IsOrdered, two_phase_ordered}
use Rattle.heap_words.specs.declared.Word.{Word}
use Rattle.heap_words.specs.declared.Word.TheVariants as word
use Rattle.heap_words.specs.Word.{meaning}
use Rattle.heap_words.proofs.WordLaws.{bits-meaning}
use Rattle.log_records.specs.declared.Record.{Record}
use Rattle.log_records.specs.declared.Record.TheVariants.{Update, Commit}
use Rattle.log_machine.specs.declared.UndoEntry.{UndoEntry}
use Rattle.log_machine.specs.Machine.{State, abort_records, after_all, field_at}
use Rattle.log_machine.proofs.ListLaws.{AllByRecursion-append, AllByRecursion-map}
use Rattle.log_machine.specs.UndoEntry.{undo_entry}
use Rattle.volatile_area.specs.Area.{AreaState}
use Rattle.graph_words.specs.Places.{Places, address_of, addresses, bits_of, place_of}
use Rattle.graph_words.specs.Promotion.{Field, Move, base_of, fix_meant, fix_of, moves_of, promotion_records, seal_records, written_fields}
use Rattle.graph_words.proofs.Seal.Places.{address_of-append_left}
use Rattle.collection_words.specs.LaidOut.{LeadsHere}
use Rattle.collection_words.specs.Placing.{Placing, moved_by_all}
use Rattle.collection_words.specs.Writes.{IsHereWrite}
use Rattle.collection_words.proofs.Copy.Named.{named, own_front}
use Rattle.heap_model.proofs.Run.Calls.{same_done}
use Rattle.heap_model.specs.Core.{Core, all_words, area_in, barrier_records, behind_barrier, call_records, done, event_records, ground, next_number, next_word, own_records, placing, room_refusal, undo_with, update, view_records, write_records}
use Rattle.heap_model.proofs.Step.Moved.{moved_is}
use Rattle.core_laws.proofs.Sessions.Actives.{called, each_session}
use Rattle.core_laws.proofs.Step.Events.{IsGranted, call_account}
use Rattle.core_laws.proofs.Step.Forms.{has_transaction}
use Rattle.core_laws.proofs.Step.Goes.{number_below}
use Rattle.core_laws.specs.Valid.{Agrees, IsActive, IsValid, RunsLocked}
use Rattle.limit_laws.specs.Copies.{IsOfNone}
use Rattle.limit_laws.proofs.Copies.Edges.{StandApart, value_refers}
use Rattle.limit_laws.proofs.Copies.Entries.{EachEntry, OfUpdate, each_after}
use Rattle.limit_laws.proofs.Copies.Followed.{parted}
use Rattle.limit_laws.proofs.Copies.Granted.{said_of}
use Rattle.limit_laws.proofs.Copies.Led.{both_hold}
use Rattle.limit_laws.proofs.Copies.Moves.{core_call}
use Rattle.limit_laws.proofs.Copies.Own.{own_all}
use Rattle.limit_laws.proofs.Copies.Past.{IsPast, past_locked, past_more, past_sealed, with_one}
use Rattle.limit_laws.proofs.Copies.Quiet.{place_done, still_granted}
use Rattle.limit_laws.proofs.Copies.Seals.{sealed_to}
use Rattle.limit_laws.proofs.Events.Kinds.{IsNoFlip, IsOfCollection, IsOfScan, barrier_of_scan, no_flip_scan, scan_goes_on}
use Rattle.limit_laws.proofs.Progress.Scans.{no_flips}

-- Of a transaction with this number: what the word of a write refers to it came to.
abbrev pub IsEntryPast : Account → Graph → Places → ℕ → UndoEntry → Type 0
IsEntryPast a sealed places q u = (r : ℕ) (t : Transaction) → a.active r ≡ Some t → t.number ≡ q → (at : ℕ) → meaning u.was ≡ Some (word.Stable at) → (y : Id) → address_of places y ≡ Some at → IsPast sealed t y

-- so it is of each write that may be taken back
abbrev pub KeepsPast : Account → Core → State → Type 0
KeepsPast a e s = EachEntry (IsEntryPast a (serial e.g0 a.sealed) e.places) s

-- Which records update nothing.

abbrev pub IsNoUpdate : Record → Type 0
IsNoUpdate (Update t object field was word) = ⊥
IsNoUpdate rec = Unit {0}

no_update : (P : ℕ → UndoEntry → Type 0) (rec : Record) → IsNoUpdate rec → OfUpdate P rec
no_update P (Update t object field was word) is = absurd is
no_update P rec is = tt

scan_update : (P : ℕ → UndoEntry → Type 0) (rec : Record) → IsOfScan rec → OfUpdate P rec
scan_update P (Update t object field was word) is = absurd is
scan_update P rec is = tt

collection_update : (rec : Record) → IsOfCollection rec → IsNoUpdate rec
collection_update (Update t object field was word) is = is
collection_update rec is = tt

bases_none : (area : AreaState) (moves ms : List Move) → AllByRecursion IsNoUpdate (map (base_of area moves) ms)
bases_none area moves [] = tt
bases_none area moves (m ∷ ms) = (tt, bases_none area moves ms)

one_fix : (t : ℕ) (moves : List Move) (f : Field) (w : ℕ) (meant : Option Word) → AllByRecursion IsNoUpdate (fix_meant t moves f w meant)
one_fix t moves f w None = tt
one_fix t moves f w (Some word.Null) = tt
one_fix t moves f w (Some (word.Int n)) = tt
one_fix t moves f w (Some (word.Stable at)) = tt
one_fix t moves f w (Some (word.Volatile at)) = (tt, tt)

fixes_none : (t : ℕ) (words : List ℕ) (moves : List Move) (fs : List Field) → AllByRecursion IsNoUpdate (flat_map (fix_of t words moves) fs)
fixes_none t words moves [] = tt
fixes_none t words moves (f ∷ fs) =
    let w = slice_index words (field_at f.0 f.1) in
    AllByRecursion-append IsNoUpdate (fix_meant t moves f w (meaning w)) (flat_map (fix_of t words moves) fs) (one_fix t moves f w (meaning w)) (fixes_none t words moves fs)

seal_none : (area : AreaState) (words : List ℕ) (undo : List UndoEntry) (address : ℕ) → AllByRecursion IsNoUpdate (seal_records area words undo address)
seal_none area words undo address =
    let moves = moves_of area words undo address in
    let t = area.transaction in
    AllByRecursion-append IsNoUpdate (promotion_records area words undo address) (Commit t ∷ [])
    (AllByRecursion-append IsNoUpdate (map (base_of area moves) moves) (flat_map (fix_of t words moves) (written_fields undo)) (bases_none area moves moves) (fixes_none t words moves (written_fields undo)))
    (tt, tt)

abort_none : (t : ℕ) (undo : List UndoEntry) → AllByRecursion IsNoUpdate (abort_records t undo)
abort_none t [] = (tt, tt)
abort_none t (u ∷ us) = (tt, abort_none t us)

-- Events.

-- What becomes of what transactions came to, and which writes are new.
module _ (a b : Account) (e f : Core) (h : Agrees a e) (n : State) (records : List Record) (plain : AllByRecursion IsNoFlip records) (follows : after_all h.behind records ≡ Some n) (apart : StandApart f.places)
    (keeps : (id : Id) (at : ℕ) → address_of e.places id ≡ Some at → address_of f.places id ≡ Some at)
    (past : (q : ℕ) → IsActive a q → (r : ℕ) (t : Transaction) → b.active r ≡ Some t → t.number ≡ q → (y : Id) → ((r0 : ℕ) (t0 : Transaction) → a.active r0 ≡ Some t0 → t0.number ≡ q → IsPast (serial e.g0 a.sealed) t0 y) → IsPast (serial f.g0 b.sealed) t y)
    (news : AllByRecursion (OfUpdate (IsEntryPast b (serial f.g0 b.sealed) f.places)) records) (was : KeepsPast a e h.behind) where
  -- what stands now where the word of an old write leads stood there before
  stood : (u : UndoEntry) → IsHereWrite e.places (all_words e) u.object u.field u.was → (at : ℕ) → meaning u.was ≡ Some (word.Stable at) → (y : Id) → address_of f.places y ≡ Some at → address_of e.places y ≡ Some at
  stood u here at means y there =
      let leads = subst (LeadsHere (addresses e.places)) means here.leads in
      let old = named e.places at (own_front e.places e.remaining (own_all a e h)) leads in
      subst (λ (x : Id). address_of e.places x ≡ Some at) (apart old.0 y at (keeps old.0 at old.1) there) old.1

  pub past_next : KeepsPast b f n
  past_next =
      let P = IsEntryPast b (serial f.g0 b.sealed) f.places in
      each_after P h.behind n records plain follows news (λ q us is.
      both_hold (λ u. IsHereWrite e.places (all_words e) u.object u.field u.was) (IsEntryPast a (serial e.g0 a.sealed) e.places q) (P q) us
      (λ u here old r t active number at means y there. past q (h.losers q us is) r t active number y (λ r0 t0 active0 number0. old r0 t0 active0 number0 at means y (stood u here at means y there)))
      (h.told.backed q us is) (was q us is))

-- Where objects stood they stand after records other than flips.

moved_keeps : (e : Core) (rs : List Record) → AllByRecursion IsNoFlip rs → (more : Places) (id : Id) (at : ℕ) → address_of e.places id ≡ Some at → address_of ((moved_by_all (placing e) rs).places ++ more) id ≡ Some at
moved_keeps e rs plain more id at there =
    address_of-append_left (moved_by_all (placing e) rs).places more id at
    (ap (λ (ps : Places). address_of ps id) (parted e.places e.remaining rs plain).places ∙ address_of-append_left e.places _ id at there)

module _ (e : Core) (valid : IsValid e) (runs : RunsLocked e.g0 e.first e.history) (n : State) where
  abbrev a : Account
  a = account e.history

  ordered : IsOrdered e.g0 (numbers_begun e.history) (account e.history) (heard_in e.history)
  ordered = two_phase_ordered e.g0 e.history runs.plain runs.two_phase

  -- a transaction whose number an active one has is that one
  same_number : (r q : ℕ) (t u : Transaction) → (account e.history).active r ≡ Some t → (account e.history).active q ≡ Some u → r ≢ q → t.number ≡ u.number → ⊥
  same_number r q t u one other apart same = (ordered.beside r q t u apart one other).differ same

  -- An event of no session.
  pub none_past : (event : Event) → IsOfNone event → AllByRecursion IsNoFlip (event_records e event) → AllByRecursion IsNoUpdate (event_records e event) → after_all valid.behind (event_records e event) ≡ Some n → StandApart (done e event).places
      → KeepsPast (account e.history) e valid.behind → KeepsPast (said_of e event) (done e event) n
  none_past event is plain none follows apart was =
      let b = said_of e event in
      let f = done e event in
      let still = still_granted e event is in
      let graph : serial f.g0 b.sealed ≡ serial e.g0 a.sealed = ap (λ (x : Graph). serial x b.sealed) (same_done e event).g0 ∙ ap (serial e.g0) still.sealed in
      past_next a b e f valid n (event_records e event) plain follows apart
      (λ id at there. ap (λ (p : Placing). address_of p.places id) (place_done e event is) ∙ ap (λ (ps : Places). address_of ps id) (sym (append-nil (moved_by_all (placing e) (event_records e event)).places)) ∙ moved_keeps e (event_records e event) plain [] id at there)
      (λ q active r t now number y old. subst (λ (x : Graph). IsPast x t y) (sym graph) (old r t (ap (λ x. x r) (sym still.active) ∙ now) number))
      (AllByRecursion-map IsNoUpdate (OfUpdate (IsEntryPast b (serial f.g0 b.sealed) f.places)) (event_records e event) (no_update (IsEntryPast b (serial f.g0 b.sealed) f.places)) none) was

  -- A begin: its number is of no transaction that wrote.
  begin_past : (s : ℕ) → after_all valid.behind (event_records e (Begin s)) ≡ Some n → StandApart (done e (Begin s)).places → KeepsPast (account e.history) e valid.behind → KeepsPast (said_of e (Begin s)) (done e (Begin s)) n
  begin_past s follows apart was =
      let fresh : Option Transaction = Some (record { number = next_number e; calls = [] }) in
      past_next a (said_of e (Begin s)) e (done e (Begin s)) valid n [] tt follows apart (λ id at there. address_of-append_left e.places [] id at there)
      (λ q active r t now number y old.
      let P : ℕ → Option Transaction → Type 0 = λ i o. o ≡ Some t → IsPast (serial e.g0 a.sealed) t y in
      each_session P a.active s fresh
      (λ new.
      let mine : next_number e ≡ t.number = ap (λ (x : Transaction). x.number) (same_Some (record { number = next_number e; calls = [] }) t new) in
      let below = (number_below a e active.session active.transaction active.active valid).1 in
      let also = active.number in
      absurd (omega arith))
      (λ i other is. old i t is number) r now)
      tt was

  -- An abort.
  abort_past : (s : ℕ) → AllByRecursion IsNoFlip (event_records e (Abort s)) → after_all valid.behind (event_records e (Abort s)) ≡ Some n → StandApart (done e (Abort s)).places
      → KeepsPast (account e.history) e valid.behind → KeepsPast (said_of e (Abort s)) (done e (Abort s)) n
  abort_past s plain follows apart was =
      let b = said_of e (Abort s) in
      let Q = IsEntryPast b (serial e.g0 b.sealed) (done e (Abort s)).places in
      past_next a b e (done e (Abort s)) valid n (event_records e (Abort s)) plain follows apart (λ id at there. address_of-append_left e.places [] id at there)
      (λ q active r t now number y old.
      let P : ℕ → Option Transaction → Type 0 = λ i o. o ≡ Some t → IsPast (serial e.g0 a.sealed) t y in
      each_session P a.active s None (λ never. absurd (cc never)) (λ i other is. old i t is number) r now)
      (AllByRecursion-map IsNoUpdate (OfUpdate Q) (event_records e (Abort s)) (no_update Q) (none (a.active s))) was
    where
      none : (o : Option Transaction) → AllByRecursion IsNoUpdate (call_records (ground e) e.g0 (account e.history) o (Abort s))
      none None = tt
      none (Some t) = abort_none t.number (undo_with (ground e).state t.number)

  -- A seal: what it leaves of others is as it was.
  seal_past : (s : ℕ) → IsGranted e (Seal s) → AllByRecursion IsNoFlip (event_records e (Seal s)) → after_all valid.behind (event_records e (Seal s)) ≡ Some n → StandApart (done e (Seal s)).places
      → KeepsPast (account e.history) e valid.behind → KeepsPast (said_of e (Seal s)) (done e (Seal s)) n
  seal_past s may plain follows apart was =
      let b = said_of e (Seal s) in
      let f = done e (Seal s) in
      let t = has_transaction e.g0 a (a.active s) (Seal s) may.asks in
      let space = ap (λ (x : Option Transaction). room_refusal (ground e) e.g0 a x (Seal s)) (sym t.1) ∙ may.words in
      let to = sealed_to e valid n s (length a.sealed + 1) t.0 t.1 ordered space follows in
      let Q = IsEntryPast b (serial f.g0 b.sealed) f.places in
      past_next a b e f valid n (event_records e (Seal s)) plain follows apart (λ id at there. address_of-append_left e.places _ id at there)
      (λ q active r u now number y old.
      let also = to.others r u now in
      let beside = ordered.beside s r t.0 u also.0 t.1 also.1 in
      subst (λ (x : Graph). IsPast x u y) (sym to.graph)
      (past_sealed (serial e.g0 a.sealed) t.0 u y ordered.closed (λ same. beside.differ (sym same)) (ordered.unused s t.0 t.1) beside.apart (old r u also.1 number)))
      (AllByRecursion-map IsNoUpdate (OfUpdate Q) (event_records e (Seal s)) (no_update Q) (none (a.active s))) was
    where
      none : (o : Option Transaction) → AllByRecursion IsNoUpdate (call_records (ground e) e.g0 (account e.history) o (Seal s))
      none None = tt
      none (Some t) = seal_none (area_in (ground e).places (view e.g0 a t) t.number) (ground e).words (undo_with (ground e).state t.number) (next_word (ground e).state)

  -- Calls.

  -- the write that a call makes
  entry_new : (event : Event) (t1 : Transaction) (places : Places) → (account e.history).active (session_of event) ≡ Some t1 → StandApart places → (z : Id) (i at : ℕ) → lock_of (run (serial e.g0 (account e.history).sealed) t1).registers event ≡ Some (z, Exclusive)
      → IsEntryPast (called (account e.history) (session_of event) event) (serial e.g0 (account e.history).sealed) places t1.number
      (undo_entry at i (bits_of (place_of places (run (serial e.g0 (account e.history).sealed) t1).graph) (slice_index_or (fields (run (serial e.g0 (account e.history).sealed) t1).graph z) i Null)))
  entry_new event t1 places active apart z i at0 lock r t now number at means y there =
      let g = serial e.g0 a.sealed in
      let v = run g t1 in
      let value = slice_index_or (fields v.graph z) i Null in
      let refers = value_refers places v.graph apart value at y (bits-meaning (bits_of (place_of places v.graph) value) (word.Stable at) means).1 there in
      let past = past_locked g t1 event z y i lock (slice_get_reference (fields v.graph z) i y refers) in
      let P : ℕ → Option Transaction → Type 0 = λ q o. o ≡ Some t → IsPast g t y in
      each_session P a.active (session_of event) (with_call (a.active (session_of event)) event)
      (λ own. subst (λ (x : Transaction). IsPast g x y) (same_Some (with_one t1 event) t (sym (ap (λ o. with_call o event) active) ∙ own)) past)
      (λ q other is. absurd (same_number q (session_of event) t t1 is active other number)) r now

  write_news : (P : ℕ → UndoEntry → Type 0) (places : Places) (t : ℕ) (v : View) (hd i : ℕ) (x : Val)
      → ((z : Id) (at : ℕ) → held v.registers hd ≡ Some z → P t (undo_entry at i (bits_of (place_of places v.graph) (slice_index_or (fields v.graph z) i Null))))
      → AllByRecursion (OfUpdate P) (view_records places t v hd i x)
  write_news P places t v hd i x each = by (held v.registers hd) refl
    where
      at_place : (z : Id) (w : Word) → held v.registers hd ≡ Some z → AllByRecursion (OfUpdate P) (update (place_of places v.graph) t w (fields v.graph z) i x)
      at_place z (word.Stable at) is = (each z at is, tt)
      at_place z word.Null is = tt
      at_place z (word.Int m) is = tt
      at_place z (word.Volatile index) is = tt

      by : (o : Option Id) → held v.registers hd ≡ o → AllByRecursion (OfUpdate P) (write_records (place_of places v.graph) t v.graph o i x)
      by None is = tt
      by (Some z) is = at_place z (place_of places v.graph z) is

  locked_by : (o : Option Id) (z : Id) → o ≡ Some z → option_map (in_mode Exclusive) o ≡ Some (z, Exclusive)
  locked_by o z is = ap (option_map (in_mode Exclusive)) is

  call_news : (event : Event) → IsCall event → (o : Option Transaction) → (account e.history).active (session_of event) ≡ o → StandApart (behind_barrier e event).places
      → AllByRecursion (OfUpdate (IsEntryPast (called (account e.history) (session_of event) event) (serial e.g0 (account e.history).sealed) (behind_barrier e event).places)) (call_records (ground (behind_barrier e event)) e.g0 (account e.history) o event)
  call_news (Begin s) is o active apart = absurd is
  call_news (Seal s) is o active apart = absurd is
  call_news (Abort s) is o active apart = absurd is
  call_news Force is o active apart = absurd is
  call_news Flip is o active apart = absurd is
  call_news Scan is o active apart = absurd is
  call_news (Flush p) is o active apart = absurd is
  call_news event is None active apart = tt
  call_news (Put s hd i x) is (Some t) active apart =
      let event = Put s hd i x in
      let places = (behind_barrier e event).places in
      write_news (IsEntryPast (called a s event) (serial e.g0 a.sealed) places) places t.number (view e.g0 a t) hd i (Int x)
      (λ z at holds. entry_new event t places active apart z i at (locked_by (held (view e.g0 a t).registers hd) z holds))
  call_news (Clear s hd i) is (Some t) active apart =
      let event = Clear s hd i in
      let places = (behind_barrier e event).places in
      write_news (IsEntryPast (called a s event) (serial e.g0 a.sealed) places) places t.number (view e.g0 a t) hd i Null
      (λ z at holds. entry_new event t places active apart z i at (locked_by (held (view e.g0 a t).registers hd) z holds))
  call_news (Link s hd i h2) is (Some t) active apart =
      let event = Link s hd i h2 in
      let places = (behind_barrier e event).places in
      write_news (IsEntryPast (called a s event) (serial e.g0 a.sealed) places) places t.number (view e.g0 a t) hd i (reference_to (held (view e.g0 a t).registers h2))
      (λ z at holds. entry_new event t places active apart z i at (locked_by (held (view e.g0 a t).registers hd) z holds))
  call_news event is (Some t) active apart = tt

  own_is : (event : Event) → IsCall event → own_records e event ≡ call_records (ground (behind_barrier e event)) e.g0 (account e.history) ((account e.history).active (session_of event)) event
  own_is (Begin s) is = absurd is
  own_is (Seal s) is = absurd is
  own_is (Abort s) is = absurd is
  own_is Force is = absurd is
  own_is Flip is = absurd is
  own_is Scan is = absurd is
  own_is (Flush p) is = absurd is
  own_is event is = refl

  call_past : (event : Event) → IsCall event → AllByRecursion IsNoFlip (event_records e event) → after_all valid.behind (event_records e event) ≡ Some n → StandApart (done e event).places → KeepsPast (account e.history) e valid.behind
      → KeepsPast (called (account e.history) (session_of event) event) (done e event) n
  call_past event is plain follows apart was =
      let rs = barrier_records e event in
      let there = moved_by_all (placing e) rs in
      let f : Core = record e { pending = (e.pending ++ rs) ++ own_records e event; places = there.places ++ []; remaining = there.remaining } in
      let b = called a (session_of event) event in
      let before = AllByRecursion-map IsOfScan IsNoFlip rs no_flip_scan (barrier_of_scan e event) in
      let places : f.places ≡ (behind_barrier e event).places = append-nil there.places ∙ ap (λ (x : Core). x.places) (sym (moved_is e rs)) in
      let stands = subst (λ (x : Core). StandApart x.places) (core_call e event is) apart in
      let P = IsEntryPast b (serial e.g0 a.sealed) f.places in
      let own =
      subst (λ (ps : Places). AllByRecursion (OfUpdate (IsEntryPast b (serial e.g0 a.sealed) ps)) (own_records e event)) (sym places)
      (subst (AllByRecursion (OfUpdate (IsEntryPast b (serial e.g0 a.sealed) (behind_barrier e event).places))) (sym (own_is event is))
      (call_news event is (a.active (session_of event)) refl (subst StandApart places stands))) in
      subst (λ (x : Core). KeepsPast b x n) (sym (core_call e event is))
      (past_next a b e f valid n (event_records e event) plain follows stands (moved_keeps e rs before [])
      (λ q active r t now number y old.
      let Q : ℕ → Option Transaction → Type 0 = λ i o. o ≡ Some t → IsPast (serial e.g0 a.sealed) t y in
      each_session Q a.active (session_of event) (with_call (a.active (session_of event)) event) (own_past event (a.active (session_of event)) refl t y q number old) (λ i other is. old i t is number) r now)
      (AllByRecursion-append (OfUpdate P) rs (own_records e event) (AllByRecursion-map IsOfScan (OfUpdate P) rs (scan_update P) (barrier_of_scan e event)) own) was)
    where
      own_past : (event : Event) (o : Option Transaction) → (account e.history).active (session_of event) ≡ o → (t : Transaction) (y : Id) (q : ℕ) → t.number ≡ q
          → ((r0 : ℕ) (t0 : Transaction) → (account e.history).active r0 ≡ Some t0 → t0.number ≡ q → IsPast (serial e.g0 (account e.history).sealed) t0 y) → with_call o event ≡ Some t → IsPast (serial e.g0 (account e.history).sealed) t y
      own_past event None active t y q number old now = absurd (cc now)
      own_past event (Some t1) active t y q number old now =
          let same = same_Some (with_one t1 event) t now in
          subst (λ (x : Transaction). IsPast (serial e.g0 (account e.history).sealed) x y) same
          (past_more (serial e.g0 (account e.history).sealed) t1 event y (old (session_of event) t1 active (ap (λ (x : Transaction). x.number) same ∙ number)))

  -- each event but a flip
  pub event_past : (event : Event) → event ≢ Flip → IsGranted e event → after_all valid.behind (event_records e event) ≡ Some n → StandApart (done e event).places → KeepsPast (account e.history) e valid.behind → KeepsPast (said_of e event) (done e event) n
  event_past Flip other may follows apart was = absurd (other refl)
  event_past Force other may follows apart was = none_past Force tt tt tt follows apart was
  event_past (Flush p) other may follows apart was = none_past (Flush p) tt tt tt follows apart was
  event_past Scan other may follows apart was = none_past Scan tt (no_flips e Scan other) (AllByRecursion-map IsOfCollection IsNoUpdate (event_records e Scan) collection_update (scan_goes_on e)) follows apart was
  event_past (Begin s) other may follows apart was = begin_past s follows apart was
  event_past (Abort s) other may follows apart was = abort_past s (no_flips e (Abort s) other) follows apart was
  event_past (Seal s) other may follows apart was = seal_past s may (no_flips e (Seal s) other) follows apart was
  event_past event other may follows apart was =
      subst (λ (x : Account). KeepsPast x (done e event) n) (sym (call_account (next_number e) e.g0 a event tt)) (call_past event tt (no_flips e event other) follows apart was)
