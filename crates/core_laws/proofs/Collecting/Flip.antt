-- A flip: the objects that active transactions name are copied, and the core agrees with its history.
use Rattle.std.proofs.Common.{◌≡◌, ℕ, ◌+◌, true, List, [], ◌∷◌, ◌++◌, Option, Some, None, is_some, refl, sym, ap, ◌∙◌, subst, arith}
use Rattle.std.specs.Prelude.{Contains, MatchOption, unwrap_or, ◌<◌}
use Rattle.std.specs.List.{list_any}
use Rattle.std.specs.FinMap.{FinMap, entries, get, remove}
use Rattle.std.specs.Ordering.{nat_cmp}
use Rattle.std.proofs.lemmas.List.{append-nil}
use Rattle.graph_model.specs.declared.id.Id.{Id}
use Rattle.graph_model.specs.Graph.{fields}
use Rattle.graph_model.specs.Transaction.{Transaction, serial}
use Rattle.graph_model.specs.History.{Account}
use Rattle.graph_model.specs.Locking.{locks_of}
use Rattle.graph_model.specs.Plain.{view}
use Rattle.log_records.specs.declared.Record.{Record}
use Rattle.log_records.specs.Record.{IsRecord}
use Rattle.log_machine.specs.declared.UndoEntry.{UndoEntry}
use Rattle.log_machine.specs.Apart.{others_taken_back}
use Rattle.log_machine.specs.Collecting.{collecting_after, pairs_of}
use Rattle.log_machine.specs.Machine.{State, after_all, all_taken_back, losing, owed, spaces_of, taken_back, undo_of}
use Rattle.log_machine.specs.Translation.{translated_list}
use Rattle.log_machine.proofs.FlipLaws.{get_translated, some_mapped}
use Rattle.log_machine.proofs.ListLaws.{AllByRecursion-map}
use Rattle.log_machine.proofs.MapLaws.{each_remove}
use Rattle.graph_words.specs.Places.{Places, address_of, addresses, made_by}
use Rattle.graph_words.specs.Stands.{AreNamedByBirth, Stands, StandsCommitted}
use Rattle.graph_words.proofs.Places.Addresses.{some_address}
use Rattle.graph_words.proofs.Stands.Field.{IsField}
use Rattle.collection_words.specs.Completed.{StandsCompleted, completed, completed_places}
use Rattle.collection_words.specs.LaidOut.{AreHeapWords, IsFromSpace, IsLaidOut, LeadsHere}
use Rattle.collection_words.specs.Placed.{HaveOwnNames}
use Rattle.collection_words.specs.Placing.{Placing, moved_by, moved_by_all, placing_of}
use Rattle.collection_words.specs.Writes.{AreBacked, IsHereWrite}
use Rattle.collection_words.proofs.Copy.Named.{named}
use Rattle.collection_words.proofs.Flip.Parted.{flip_parts}
use Rattle.collection_words.proofs.Laid.Names.{own_names}
use Rattle.collection_words.proofs.Laid.Sources.{here_ends}
use Rattle.collection_words.proofs.Laid.TakenBack.{each_taken_back-list}
use Rattle.collection_words.proofs.Laid.Write.{as_field}
use Rattle.flip_copy.specs.Copied.{flip_record, with_base}
use Rattle.flip_copy.specs.Flipped.{AreRooted}
use Rattle.flip_copy.proofs.FlipLaws.{planned_collects}
use Rattle.flip_copy.proofs.ObjectWordsLaws.{Contains-with_base}
use Rattle.flip_laws.specs.Flip.{AreEntriesOf, CanFlip, copies_of, copy_places, entries_behind, left_places}
use Rattle.flip_laws.specs.Flip as flip
use Rattle.flip_laws.proofs.Backed.{flip_backed}
use Rattle.flip_laws.proofs.Born.{flip_births}
use Rattle.flip_laws.proofs.Heap.{flip_keeps, flip_underway, plain_stands, root_goes}
use Rattle.flip_laws.proofs.Lists.{ascend_ends}
use Rattle.flip_laws.proofs.Placed.{flip_placed}
use Rattle.flip_laws.proofs.Roots.{entry_rooted, flip_begun, flip_flipping, flip_planned}
use Rattle.flip_laws.proofs.Written.{volatile_entries}
use Rattle.seen_laws.proofs.States.{backed_all, others, sealed_stands, viewed_stands, writes_of_all}
use Rattle.heap_model.specs.Collecting.{is_entry_at, is_reference_to, is_root, roots_of}
use Rattle.heap_model.specs.Core.{Core, all_words, moved}
use Rattle.heap_model.proofs.Step.Goes.{told_sound}
use Rattle.core_laws.proofs.Collecting.Carried.{AreCarried, IsCarried, KeepsCurrent, none_parted, none_same}
use Rattle.core_laws.proofs.Collecting.Entries.{all_at, known_entries, own_entries, part_entries, remove_translated, undo_translated, writes_translated}
use Rattle.core_laws.proofs.Collecting.Roots.{any_in, entry_object, entry_was, handles_stay, held_root, locked_root, locks_stay, passing_ascend, passing_among, passing_has, referred_root, strictly, values_stay, written_root}
use Rattle.core_laws.proofs.Collecting.Told.{IsLeft, IsSeen, carried_agrees}
use Rattle.core_laws.proofs.Step.Goes.{words_with}
use Rattle.core_laws.proofs.Step.Granted.{HasRoom}
use Rattle.core_laws.specs.Valid.{Agrees, IsWriter, IsWriting}

module _ (a : Account) (c : Core) (h : Agrees a c) (none : h.behind.collection ≡ None) where
  -- what the records say before it
  abbrev s : State
  s = h.behind

  -- where its roots stand
  abbrev pub roots : List ℕ
  roots = roots_of c.places (undo_of s) c.g0 a

  -- its record, and the state after it
  abbrev pub rec : Record
  rec = flip_record (spaces_of s) (all_words c) roots

  abbrev pub last : State
  last = flip.state_behind s (all_words c) roots

  -- where the copies stand, and the objects that remain
  abbrev pub currents : Places
  currents = copy_places s (all_words c) roots c.places

  abbrev pub rest : Places
  rest = left_places s (all_words c) roots c.places

  abbrev pairs : List (ℕ × ℕ)
  pairs = pairs_of (copies_of s (all_words c) roots)

  heap : AreHeapWords s c.places c.remaining (all_words c)
  heap = h.told.heap

  -- nothing remains before it
  empty : c.remaining ≡ []
  empty = subst (λ o. MatchOption o (c.remaining ≡ []) (λ k. IsFromSpace s k c.places c.remaining (all_words c))) none heap.laid.from

  laid : IsLaidOut s c.places [] (all_words c)
  laid = subst (λ (ps : Places). IsLaidOut s c.places ps (all_words c)) empty heap.laid

  -- the committed graph, and the writes that may be taken back
  abbrev all : List UndoEntry
  all = writes_of_all (losing s)

  all_entries : AreEntriesOf s all
  all_entries = part_entries s s.undo (λ q us is. is)

  backed : AreBacked c.places (all_words c) all
  backed = backed_all s c.places (all_words c) h.told.backed

  committed : StandsCompleted 0 0 c.places [] (serial c.g0 a.sealed) all (all_words c) s
  committed = subst (λ (ps : Places). StandsCompleted 0 0 c.places ps (serial c.g0 a.sealed) all (all_words c) s) empty (sealed_stands s c.places c.remaining (all_words c) h.told.stands)

  own : HaveOwnNames c.places
  own = own_names c.places (all_words c) s.base c.places (s.base + s.used) (here_ends laid) (plain_stands s c.places (all_words c) all none committed).names

  -- What transactions name is a root.

  -- an object that an active transaction wrote, or to which a word refers that a write of it has replaced
  entry_root : (q : ℕ) (us : List UndoEntry) → get s.undo q ≡ Some us → (u : UndoEntry) → Contains us u → (at : ℕ) → Contains (addresses c.places) at → is_entry_at at u ≡ true → Contains roots at
  entry_root q us is u has at start names =
      let one = h.losers q us is in
      let object = named c.places at own start in
      let got : undo_of s q ≡ us = ap (λ (o : Option (List UndoEntry)). unwrap_or o []) is in
      let known : Contains (undo_of s one.transaction.number) u =
      subst (λ (r : ℕ). Contains (undo_of s r) u) (sym one.number) (subst (λ (vs : List UndoEntry). Contains vs u) (sym got) has) in
      passing_has (is_root (undo_of s) c.g0 a) c.places object.0 at object.1
      (written_root (undo_of s) c.g0 a one.session one.transaction one.active (h.in_sessions one.session one.transaction one.active) (object.0, at) u known names)

  -- so each entry is of roots
  rooted : AreRooted (all_words c) (with_base s.base roots) s
  rooted q us is u has =
      let here = all_at (λ (x : UndoEntry). IsHereWrite c.places (all_words c) x.object x.field x.was) us u (h.told.backed q us is) has in
      record {
        object = Contains-with_base s.base roots u.object (entry_root q us is u has u.object here.is.start (entry_object u));
        field = λ n object. let same : here.is.fields ≡ n = cc (sym here.is.stands ∙ object) in subst (λ (m : ℕ). u.field < m) same here.is.within;
        was = λ at means. Contains-with_base s.base roots at (entry_root q us is u has at (subst (LeadsHere (addresses c.places)) means here.leads) (entry_was u at means));
      }

  -- A flip can be made from these roots.
  pub can : CanFlip s c.places (all_words c) roots
  can = record {
    consistent = record { sound = told_sound h.told; addresses = heap.small; spaced = heap.spaced };
    none = none;
    long = heap.long;
    laid = laid;
    ascending = strictly s.base roots (passing_ascend (is_root (undo_of s) c.g0 a) s.base c.places (ascend_ends (all_words c) s.base (addresses c.places) (s.base + s.used) (here_ends laid)));
    among = λ at has. passing_among (is_root (undo_of s) c.g0 a) c.places at has;
    rooted = rooted;
    written = volatile_entries all none laid (AllByRecursion-map (λ (u : UndoEntry). IsHereWrite c.places (all_words c) u.object u.field u.was) (λ u. IsField (all_words c) (addresses c.places) u.object u.field) all (λ u one. as_field one.is) backed) all_entries committed;
  }

  -- What goes along.

  root_stays : (id : Id) → ((at : ℕ) → address_of c.places id ≡ Some at → Contains roots at) → is_some (address_of c.places id) ≡ true → is_some (address_of currents id) ≡ true
  root_stays id root there =
      let was = some_address (address_of c.places id) there in
      ap is_some (root_goes can id was.0 was.1 (Contains-with_base s.base roots was.0 (root was.0 was.1)))

  keeps : (r : ℕ) (t : Transaction) → a.active r ≡ Some t → KeepsCurrent c.places currents (view c.g0 a t) t.number (locks_of (serial c.g0 a.sealed) t)
  keeps r t active =
      let v = view c.g0 a t in
      let session = h.in_sessions r t active in
      record {
        made = λ k low high. values_stay c.places currents (fields v.graph (made_by t.number k)) (λ id refers. root_stays id (λ at there. passing_has (is_root (undo_of s) c.g0 a) c.places id at there
            (referred_root (undo_of s) c.g0 a r t active session (id, at)
            (any_in (λ (j : ℕ). list_any (is_reference_to id) (fields v.graph (made_by t.number j))) 1 v.made k low (omega (arith, high)) refers))));
        held = handles_stay c.places currents v.registers (λ id holds. root_stays id (λ at there. passing_has (is_root (undo_of s) c.g0 a) c.places id at there
            (held_root (undo_of s) c.g0 a r t active session (id, at) holds)));
        locked = locks_stay c.places currents (locks_of (serial c.g0 a.sealed) t) (λ id locks. root_stays id (λ at there. passing_has (is_root (undo_of s) c.g0 a) c.places id at there
            (locked_root (undo_of s) c.g0 a r t active session (id, at) locks)));
      }

  carried_list : (us : List UndoEntry) → AreEntriesOf s us → AreCarried c.places currents us (translated_list pairs us)
  carried_list [] are = tt
  carried_list (u ∷ us) are = (
    record { field = refl; object = λ id placed. root_goes can id u.object placed (entry_rooted can u are.0).object },
    carried_list us are.1,
  )

  pub carried : IsCarried s last c.places c.remaining currents rest
  carried = record {
    fewer = λ id gone. none_same c.places (currents ++ rest) id (flip_parts (flip_flipping can) (flip_begun can).flipped).same (none_parted c.places c.remaining id gone).0;
    keys = λ q vs is. let was = some_mapped (translated_list pairs) (get s.undo q) vs (sym (get_translated pairs s.undo q) ∙ is) in (was.0, was.1);
    entries = λ t. subst (AreCarried c.places currents (undo_of s t)) (sym (undo_translated pairs s.undo t)) (carried_list (undo_of s t) (known_entries s t));
    next = refl;
    commits = refl;
  }

  -- What stands after it.

  abbrev behind : List ℕ
  behind = words_with c (rec ∷ [])

  -- writes that are taken back one after another are one list, translated along
  others_there : (t : ℕ) (now : List ℕ) → others_taken_back last t now ≡ taken_back (entries_behind s (all_words c) roots (writes_of_all (others s t))) now
  others_there t now =
      each_taken_back-list (entries (remove last.undo t)) now
      ∙ ap (λ (m : FinMap nat_cmp (List UndoEntry)). taken_back (writes_of_all (entries m)) now) (remove_translated pairs s.undo t)
      ∙ ap (λ (us : List UndoEntry). taken_back us now) (writes_translated pairs (remove s.undo t))

  all_there : (now : List ℕ) → all_taken_back last now ≡ taken_back (entries_behind s (all_words c) roots all) now
  all_there now = each_taken_back-list (entries last.undo) now ∙ ap (λ (us : List UndoEntry). taken_back us now) (writes_translated pairs s.undo)

  pub left : IsLeft s last c.born c.places c.remaining currents rest (serial c.g0 a.sealed) (all_words c) behind
  left =
      let is = flip_underway can in
      let there = flip_keeps all can all_entries committed in
      record {
        heap = record { spaced = is.spaced; long = is.long; small = is.small; laid = is.laid };
        backed = λ q vs is_there.
            let was = some_mapped (translated_list pairs) (get s.undo q) vs (sym (get_translated pairs s.undo q) ∙ is_there) in
            subst (AreBacked currents behind) was.2 (flip_backed can own was.0 (own_entries s q was.0 was.1) (h.told.backed q was.0 was.1));
        births = λ by_birth tells. flip_births can own (subst (λ (ps : Places). AreNamedByBirth ps (all_words c)) (ap (λ (ps : Places). c.places ++ ps) empty ∙ append-nil c.places) tells.names);
        stands = subst (λ (ws : List ℕ). StandsCommitted (completed_places last currents rest behind) (serial c.g0 a.sealed) ws last.base (last.used + owed last))
            (sym (all_there (completed last currents rest behind))) there;
      }

  -- what a transaction sees
  seen_of : (r : ℕ) (t : Transaction) → a.active r ≡ Some t → IsWriting c.places c.remaining (view c.g0 a t) t.number (locks_of (serial c.g0 a.sealed) t) (all_words c) s
      → IsSeen last currents rest behind c.g0 a c.places (Some t)
  seen_of r t active w =
      let v = view c.g0 a t in
      let us = writes_of_all (others s t.number) in
      let are : AreEntriesOf s us = part_entries s (remove s.undo t.number) (each_remove (λ q vs. get s.undo q ≡ Some vs) s.undo t.number (λ q vs is. is)) in
      let stood = subst (λ (ps : Places). StandsCompleted t.number v.made c.places ps v.graph us (all_words c) s) empty (viewed_stands s t.number v.made c.places c.remaining (all_words c) w.stands) in
      let there = flip_keeps us can are stood in (
        keeps r t active,
        subst (λ (ws : List ℕ). Stands t.number v.made (completed_places last currents rest behind) v.graph ws last.base (last.used + owed last))
            (sym (others_there t.number (completed last currents rest behind))) there,
      )

  seen_by : (r : ℕ) (o : Option Transaction) → a.active r ≡ o → IsWriter c.places c.remaining c.g0 a o (all_words c) s → IsSeen last currents rest behind c.g0 a c.places o
  seen_by r None active w = tt
  seen_by r (Some t) active w = seen_of r t active w

  pub seen : (r : ℕ) → IsSeen last currents rest behind c.g0 a c.places (a.active r)
  seen r = seen_by r (a.active r) refl (h.writers r)

  -- its record can follow
  pub follows : collecting_after s rec ≡ Some last
  follows = planned_collects s (all_words c) roots (copies_of s (all_words c) roots) (flip_planned can)

  -- and places the copies
  pub placed : moved_by_all (placing_of c.places c.remaining) (rec ∷ []) ≡ placing_of currents rest
  placed = ap (λ (ps : Places). moved_by (placing_of c.places ps) rec) empty ∙ flip_placed can own

  -- The record of a flip can follow. After it a core agrees with its history as before, whose objects are where the record moves them, if the
  -- record machine lets the record follow as one of a collection, it has a spelling, and the log has room for it.
  pub flip_agrees : IsRecord rec → after_all s (rec ∷ []) ≡ collecting_after s rec → HasRoom c (rec ∷ []) a → Agrees a (moved c (rec ∷ []))
  flip_agrees good row room =
      let step = carried_agrees a c h last currents rest (rec ∷ []) (good, tt) (row ∙ follows) carried left seen room in
      subst (λ (p : Placing). Agrees a (record c { pending = c.pending ++ rec ∷ []; places = p.places; remaining = p.remaining })) (sym placed) step
