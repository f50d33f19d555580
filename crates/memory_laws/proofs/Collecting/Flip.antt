-- A flip is refused as the core refuses it, answered as the core answers it, and leaves memory as the core is then.
use Rattle.std.proofs.Common.{◌≡◌, inl, inr, ℕ, ◌+◌, ◌*◌, ◌≤◌, true, List, [], ◌∷◌, ◌++◌, length, map, Option, None, Some, is_some, refl, sym, ap, ◌∙◌, subst, append_assoc, arith}
use Rattle.std.specs.Prelude.{Contains, if◌then◌else◌, option_and_then}
use Rattle.std.specs.List.{list_any}
use Rattle.std.specs.Option.{option_map}
use Rattle.std.proofs.lemmas.Option.{same_Some}
use Rattle.gated_log.specs.Log.{records_of}
use Rattle.gated_log.specs.LogState.{log_need}
use Rattle.graph_model.specs.declared.event.Event.TheVariants.{Flip}
use Rattle.graph_model.specs.declared.id.Id.{Id}
use Rattle.graph_model.specs.declared.val.Val.{Val}
use Rattle.graph_model.specs.declared.val.Val.TheVariants.{Ref}
use Rattle.graph_model.specs.declared.reply.Entry.{Entry}
use Rattle.graph_model.specs.declared.reply.Refusal.{Refusal}
use Rattle.graph_model.specs.declared.reply.Reply.{Reply}
use Rattle.graph_model.specs.declared.reply.Reply.TheVariants as answer
use Rattle.graph_model.specs.Graph.{fields, is_same_id}
use Rattle.graph_model.specs.History.{Account, account, account_after}
use Rattle.graph_model.specs.Locking.{Lock, Mode, locks_of}
use Rattle.graph_model.specs.Plain.{call_conflict, first_of_two, reply_of, view}
use Rattle.graph_model.specs.Transaction.{Registers, Transaction, View, serial}
use Rattle.graph_model.proofs.Whole.Graph.{itself}
use Rattle.heap_spaces.specs.Collection.{Collection}
use Rattle.heap_spaces.specs.Copying.{begun, with_copies}
use Rattle.heap_spaces.specs.Spaces.{SpacesState, flipped, with_copied}
use Rattle.log_records.specs.declared.copies.ObjectCopy.{ObjectCopy}
use Rattle.log_records.specs.declared.Record.{Record}
use Rattle.log_records.specs.declared.Record.TheVariants as logged
use Rattle.log_records.specs.Record.{spellings}
use Rattle.log_machine.specs.Collecting.{pairs_of}
use Rattle.log_machine.specs.Machine.{State, after_all, spaces_of, undo_of}
use Rattle.log_machine.proofs.MachineLaws.{after_all-append2}
use Rattle.relocation.specs.Relocation.{moved_to, translated_word}
use Rattle.object_locks.specs.declared.holding.Holding.{Holding}
use Rattle.object_locks.specs.Holdings.{Holdings, rekeyed}
use Rattle.txn_table.specs.declared.place.Place.{Place}
use Rattle.txn_table.specs.Roots.{AreRoots}
use Rattle.txn_table.specs.Table.{TableState, TransactionState, transaction_of}
use Rattle.txn_table.specs.Translation.{GoesAlong, HasGoneAlong, HaveGoneAlong, translated_handle}
use Rattle.graph_words.specs.Area.{HasMade}
use Rattle.graph_words.specs.Places.{IsAtHand, IsVisible, Places, address_of, bits_of, made_by, place_of}
use Rattle.graph_words.proofs.Area.Made.{made_visible, own_apart}
use Rattle.graph_words.proofs.Places.Addresses.{none_or_some, some_address}
use Rattle.collection_words.specs.Placing.{Placing}
use Rattle.flip_copy.specs.Copied.{flip_record, moved_objects, root_copies, copied_size}
use Rattle.flip_copy.proofs.FlipKept.{flip_spaces, flip_undo}
use Rattle.flip_copy.proofs.ObjectWordsLaws.{Contains-with_base}
use Rattle.flip_laws.specs.Flip.{CanFlip, copies_of}
use Rattle.flip_laws.proofs.Heap.{root_goes}
use Rattle.page_scanner.proofs.After.{after_all_collecting}
use Rattle.heap_model.specs.Collecting as core
use Rattle.heap_model.specs.Collecting.{holds, is_held, is_locked_by, is_reference_to, is_root, refers_to}
use Rattle.heap_model.specs.Core.{Core, all_records, all_words, area_in, core_refusal, done, event_records, granted_by, ground, kept_for, log_refusal, log_start, moved, need, own_records, reserved, room_refusal, state_behind, undo_behind, undo_with, words_refusal}
use Rattle.heap_model.specs.CoreTold.{HoldsAtHand}
use Rattle.object_layout.proofs.WalkLaws.{Contains-head, Contains-rest}
use Rattle.core_laws.proofs.Collecting.Carried.{carried_length, none_joined, none_parted}
use Rattle.core_laws.proofs.Collecting.Entries.{all_at}
use Rattle.core_laws.proofs.Collecting.Events.{flip_kept}
use Rattle.core_laws.proofs.Collecting.Flip as flip
use Rattle.core_laws.proofs.Collecting.Roots.{any_in, any_of, held_root, named_root, or_left, or_right, passing_has, referred_root}
use Rattle.core_laws.proofs.Sessions.Whole.{meaning_here}
use Rattle.core_laws.proofs.Step.Events.{log_has_room, may_go, unfailed_refusal}
use Rattle.core_laws.proofs.Step.Goes.{writing_of}
use Rattle.core_laws.proofs.Step.Granted.{HasRoom}
use Rattle.core_laws.proofs.Step.Reserved.{reserved_same}
use Rattle.core_laws.specs.Valid.{Agrees, IsValid, IsWriting}
use Rattle.heap_memory.specs.Memory as memory
use Rattle.heap_memory.specs.Memory.{Memory}
use Rattle.heap_memory.specs.Collecting as collecting
use Rattle.heap_memory.specs.Leaves.{Flips, IsAsItWas, Leaves}
use Rattle.heap_memory.specs.Refusals.{flip_refusal, records_room}
use Rattle.heap_memory.specs.Replies.{flip_reply}
use Rattle.memory_laws.specs.CoreMemory.{AreHeld, AreSessions, IsHeld, IsMemory, kept, kept_of, mode_of, place_in}
use Rattle.memory_laws.proofs.Collecting.Areas.{area_goes, value_goes}
use Rattle.memory_laws.proofs.Collecting.Locks.{held_along}
use Rattle.memory_laws.proofs.Collecting.Roots.{roots_same}
use Rattle.memory_laws.proofs.Does.{Does}
use Rattle.memory_laws.proofs.Kept.Held.{place_in-apart, place_in-placed}
use Rattle.memory_laws.proofs.Kept.Log.{need_all}
use Rattle.memory_laws.proofs.Kept.Parts.{Works, disk_left, whole_of, works_of}
use Rattle.memory_laws.proofs.Refusal.LogRoom.{full_for, reserved_now}
use Rattle.memory_laws.proofs.Refusal.Room.{still_room}
use Rattle.memory_laws.proofs.Step.Answered.{Goes, as_it_was, does, memory_told}
use Rattle.memory_laws.proofs.Step.Appended.{collection_here, ground_in, own_kept, some_one, spaces_here, stays}

-- what a list of handles holds after a change of each
map_handles : (f : Option Place → Option Place) (b d : Option Id → Option Place) (os : Registers) → ((o : Option Id) → Contains os o → f (b o) ≡ d o) → map f (map b os) ≡ map d os
map_handles f b d [] each = refl
map_handles f b d (o ∷ os) each =
    ap (λ (p : Option Place). p ∷ map f (map b os)) (each o (Contains-head o os)) ∙ ap (λ (ps : List (Option Place)). d o ∷ ps) (map_handles f b d os (λ q has. each q (Contains-rest o os q has)))

-- an object at hand that is not current was made by the transaction
maker_of : (places : Places) (t made : ℕ) (id : Id) → IsAtHand places t made id → address_of places id ≡ None → id.t ≡ t
maker_of places t made id (inl there) none = let clash = sym there ∙ ap is_some none in absurd (cc clash)
maker_of places t made id (inr own) none = own.maker

-- a session's transaction that went along is the one that is wanted
goes_or_none : (pairs : List (ℕ × ℕ)) (old new want : Option TransactionState) → GoesAlong pairs old new → (old ≡ None → want ≡ None)
    → ((x y : TransactionState) → old ≡ Some x → HasGoneAlong pairs x y → Some y ≡ want) → new ≡ want
goes_or_none pairs None None want along none some = sym (none refl)
goes_or_none pairs None (Some y) want along none some = absurd along
goes_or_none pairs (Some x) None want along none some = absurd along
goes_or_none pairs (Some x) (Some y) want along none some = some x y refl along

module _ (m : Memory) (c : Core) (valid : IsValid c) (is : IsMemory m (account c.history) c) where
  -- what the history says
  abbrev a : Account
  a = account c.history

  -- the state after all records
  abbrev s : State
  s = valid.behind

  works : Works m a c
  works = works_of m a c is

  -- the core's roots
  abbrev roots : List ℕ
  roots = core.roots_of c.places (undo_of s) c.g0 a

  -- What a flip appends, where such a collection runs or none.
  flips_in : (o : Option Collection) → s.collection ≡ o → own_records c Flip ≡ core.flip_records_in s (all_words c) roots o
  flips_in o run =
      ap (λ (x : Option State). core.flip_records x (all_words c) (core.roots_of c.places (undo_with x) c.g0 a)) valid.told.reached
      ∙ ap (core.flip_records_in s (all_words c) roots) run

  runs_in : (o : Option Collection) → s.collection ≡ o → m.collection ≡ o
  runs_in o run = collection_here m m c valid works ∙ run

  -- Where no collection runs.
  module _ (none : s.collection ≡ None) where
    can : CanFlip s c.places (all_words c) roots
    can = flip.can a c valid none

    -- the copies, and the record
    abbrev copies : List ObjectCopy
    copies = copies_of s (all_words c) roots

    abbrev rec : Record
    rec = flip_record (spaces_of s) (all_words c) roots

    abbrev last : State
    last = flip.last a c valid none

    abbrev currents : Places
    currents = flip.currents a c valid none

    abbrev rest : Places
    rest = flip.rest a c valid none

    abbrev pairs : List (ℕ × ℕ)
    pairs = pairs_of copies

    -- what memory copies from its roots
    copies_same : (found : List ℕ) → AreRoots m.table m.locks found → collecting.flip_copies m found ≡ copies
    copies_same found are =
        ap (λ (x : SpacesState). root_copies x m.words found) (spaces_here m m c valid works)
        ∙ ap (λ (ws : List ℕ). root_copies (spaces_of s) ws found) is.words
        ∙ ap (root_copies (spaces_of s) (all_words c)) (roots_same m c valid works found are can.ascending)

    follows : after_all s (rec ∷ []) ≡ Some last
    follows = after_all_collecting s last (rec ∷ []) (ap (λ o. option_and_then (λ (x : State). Some x) o) (flip.follows a c valid none))

    reached : state_behind c (all_records c ++ rec ∷ []) ≡ Some last
    reached = after_all-append2 (log_start c) s (all_records c) (rec ∷ []) valid.told.reached ∙ follows

    -- as much is kept for the ends of transactions
    kept_alike : (o : Option Transaction) → kept_for (undo_of s) o ≡ kept_for (undo_of last) o
    kept_alike None = refl
    kept_alike (Some t) =
        let long = carried_length c.places currents (undo_of s t.number) (undo_of last t.number) ((flip.carried a c valid none).entries t.number) in
        ap (λ (n : ℕ). 10 + 19 * n) (sym long)

    kept_same : (b : Account) → reserved (undo_behind c (all_records c ++ rec ∷ [])) b ≡ reserved (undo_of s) b
    kept_same b =
        ap (λ (o : Option State). reserved (undo_with o) b) reached
        ∙ sym (reserved_same (undo_of s) (undo_of last) b b (λ r. kept_alike (b.active r)))

    log_same : log_refusal c Flip ≡ records_room m (rec ∷ [])
    log_same =
        let appends : event_records c Flip ≡ rec ∷ [] = flips_in None none in
        full_for m c valid is Flip (log_need m.log (length (spellings (rec ∷ [])))) (memory.reserved m.table)
        (ap (need c.pending) appends ∙ sym (need_all m.log c.batches c.pending rec [] is.log))
        (ap (λ (l : List Record). reserved (undo_behind c (all_records c ++ l)) a) appends ∙ kept_same a ∙ sym (reserved_now m c valid is))

  -- Refusals.

  free : (o : Option Transaction) → call_conflict c.g0 a o Flip ≡ None
  free None = refl
  free (Some t) = refl

  roomy : (o : Option Transaction) → room_refusal (ground c) c.g0 a o Flip ≡ None
  roomy None = refl
  roomy (Some t) = refl

  abbrev refused_in : List ℕ → Option Collection → Option Refusal
  refused_in found o = if is_some o then None else records_room m (collecting.flip_records m found)

  log_in : (found : List ℕ) → AreRoots m.table m.locks found → (o : Option Collection) → s.collection ≡ o → log_refusal c Flip ≡ refused_in found o
  log_in found are None run =
      log_same run ∙ ap (λ (cs : List ObjectCopy). records_room m (logged.Flip cs ∷ [])) (sym (copies_same run found are))
  log_in found are (Some k) run = still_room c Flip valid (λ undo. refl) (flips_in (Some k) run)

  -- memory refuses a flip as the core does
  pub flip_refused : (found : List ℕ) → AreRoots m.table m.locks found → core_refusal c Flip ≡ flip_refusal m found
  flip_refused found are =
      let log = log_refusal c Flip in
      unfailed_refusal c Flip valid.unfailed
      ∙ ap (λ (o : Option Refusal). first_of_two (first_of_two None o) (first_of_two (words_refusal c Flip) log)) (free (a.active 0))
      ∙ ap (λ (o : Option Refusal). first_of_two (first_of_two None o) log) (roomy (a.active 0))
      ∙ log_in found are s.collection refl
      ∙ ap (refused_in found) (sym (runs_in s.collection refl))

  -- Answers.

  abbrev reply_in : List ℕ → Option Collection → Reply
  reply_in found o = if is_some o then answer.Collecting else answer.Flipped (length (collecting.flip_copies m found)) (copied_size (collecting.flip_copies m found))

  answers_in : (found : List ℕ) → AreRoots m.table m.locks found → (o : Option Collection) → s.collection ≡ o → granted_by c Flip ≡ reply_in found o
  answers_in found are None run =
      ap core.flip_reply (flips_in None run) ∙ ap (λ (cs : List ObjectCopy). answer.Flipped (length cs) (copied_size cs)) (sym (copies_same run found are))
  answers_in found are (Some k) run = ap core.flip_reply (flips_in (Some k) run)

  pub flip_answers : (found : List ℕ) → AreRoots m.table m.locks found → granted_by c Flip ≡ flip_reply m found
  flip_answers found are = answers_in found are s.collection refl ∙ ap (reply_in found) (sym (runs_in s.collection refl))

  -- What it leaves.

  module _ (none : s.collection ≡ None) (room : HasRoom c (rec none ∷ []) a) where
    -- the core after the record
    abbrev d : Core
    d = record c { pending = c.pending ++ rec none ∷ []; places = currents none; remaining = rest none }

    d_is : moved c (rec none ∷ []) ≡ d
    d_is = ap (λ (p : Placing). record c { pending = c.pending ++ rec none ∷ []; places = p.places; remaining = p.remaining }) (flip.placed a c valid none)

    right : Agrees a d
    right =
        let list = flips_in None none in
        subst (Agrees a) (ap (moved c) list ∙ d_is) (flip_kept a c valid (subst (λ (rs : List Record). HasRoom c rs a) (sym list) room))

    -- Objects.

    -- a current object that is a root goes where its address goes
    goes : (id : Id) (at : ℕ) → address_of c.places id ≡ Some at → is_root (undo_of s) c.g0 a (id, at) ≡ true → address_of (currents none) id ≡ Some (moved_to (pairs none) at)
    goes id at place root = root_goes (can none) id at place (Contains-with_base s.base roots at (passing_has (is_root (undo_of s) c.g0 a) c.places id at place root))

    -- none that was not there is there
    gone : (id : Id) → address_of c.places id ≡ None → address_of c.remaining id ≡ None → address_of (currents none) id ≡ None
    gone id none_current none_left =
        (none_parted (currents none) (rest none) id ((flip.carried a c valid none).fewer id (none_joined c.places c.remaining id none_current none_left))).0

    module _ (r : ℕ) (u : Transaction) (active : a.active r ≡ Some u) where
      -- what it sees
      abbrev v : View
      v = view c.g0 a u

      w : IsWriting c.places c.remaining v u.number (locks_of (serial c.g0 a.sealed) u) (all_words c) s
      w = writing_of a c r u active valid

      there : HasMade (currents none) v.graph u.number v.made
      there = (writing_of a d r u active right).made

      -- what it made is in no space
      own_gone : (id : Id) → id.t ≡ u.number → address_of c.places id ≡ None → address_of (currents none) id ≡ None
      own_gone id maker none_current = gone id none_current (ap (λ (n : ℕ). address_of c.remaining (record { t = n; k = id.k })) maker ∙ w.apart id.k)

      -- Handles.
      handle : (o : Option Id) → Contains v.registers o → translated_handle (pairs none) (option_map (place_in c.places v.graph) o) ≡ option_map (place_in (currents none) v.graph) o
      handle None has = refl
      handle (Some id) has = elim (all_at (HoldsAtHand c.places u.number v.made) v.registers (Some id) w.handles has) [
        | inl here ↦
            let place = some_address (address_of c.places id) here in
            let root = held_root (undo_of s) c.g0 a r u active (valid.in_sessions r u active) (id, place.0) (any_of (is_held id) v.registers (Some id) has (itself id)) in
            ap (λ (p : Place). translated_handle (pairs none) (Some p)) (place_in-placed c.places v.graph id place.0 place.1)
            ∙ ap (λ (p : Place). Some p) (sym (place_in-placed (currents none) v.graph id (moved_to (pairs none) place.0) (goes id place.0 place.1 root)))
        | inr own ↦
            let none_current = own_apart w.made own in
            ap (λ (p : Place). translated_handle (pairs none) (Some p)) (place_in-apart c.places v.graph id none_current)
            ∙ ap (λ (p : Place). Some p) (sym (place_in-apart (currents none) v.graph id (own_gone id own.maker none_current)))
      ]

      -- The area.
      value : (k : ℕ) → 1 ≤ k → k ≤ v.made → (x : Val) → Contains (fields v.graph (made_by u.number k)) x
          → translated_word (pairs none) (bits_of (place_of c.places v.graph) x) ≡ bits_of (place_of (currents none) v.graph) x
      value k low high x has =
          let seen = all_at (IsVisible c.places u.number v.made) (fields v.graph (made_by u.number k)) x (made_visible w.made k low high) has in
          value_goes c.places (currents none) v.graph (pairs none) x (meaning_here w x seen)
          (λ id same at place.
          let has_it = subst (Contains (fields v.graph (made_by u.number k))) same has in
          let here = any_of (is_reference_to id) (fields v.graph (made_by u.number k)) (Ref id) has_it (itself id) in
          goes id at place (referred_root (undo_of s) c.g0 a r u active (valid.in_sessions r u active) (id, at)
          (any_in (λ (j : ℕ). list_any (is_reference_to id) (fields v.graph (made_by u.number j))) 1 v.made k low (omega (arith, high)) here)))
          (λ id same none_current. own_gone id (maker_of c.places u.number v.made id (subst (IsVisible c.places u.number v.made) same seen) none_current) none_current)

      -- what is kept of it goes along
      kept_along : (new : TransactionState) → HasGoneAlong (pairs none) (kept c.places v u.number (undo_of s u.number)) new → new ≡ kept (currents none) v u.number (undo_of (last none) u.number)
      kept_along new along =
          let handles : new.handles ≡ map (option_map (place_in (currents none) v.graph)) v.registers = along.handles ∙ map_handles (translated_handle (pairs none)) (option_map (place_in c.places v.graph)) (option_map (place_in (currents none) v.graph)) v.registers handle in
          let undo : new.undo ≡ undo_of (last none) u.number = along.undo ∙ sym (flip_undo s (copies none) u.number) in
          let area : new.area ≡ area_in (currents none) v u.number = area_goes w.made there (pairs none) new.area along.area along.sound value in
          λ i. record { number = along.number i; handles = handles i; undo = undo i; area = area i }

    -- Transactions.

    along_kept : (table : TableState) → HaveGoneAlong (pairs none) m.table table → (r : ℕ) (o : Option Transaction) → a.active r ≡ o → transaction_of table r ≡ kept_of (ground_in c (currents none) (last none)) c.g0 a o
    along_kept table along r o active =
        let known : transaction_of m.table r ≡ kept_of (ground_in c c.places s) c.g0 a o = own_kept m m c valid works r ∙ ap (kept_of (ground_in c c.places s) c.g0 a) active in
        by_transaction table r o active (subst (λ (x : Option TransactionState). GoesAlong (pairs none) x (transaction_of table r)) known (along.sessions r))
      where
        by_transaction : (table : TableState) (r : ℕ) (o : Option Transaction) → a.active r ≡ o → GoesAlong (pairs none) (kept_of (ground_in c c.places s) c.g0 a o) (transaction_of table r)
            → transaction_of table r ≡ kept_of (ground_in c (currents none) (last none)) c.g0 a o
        by_transaction table r None active along = goes_or_none (pairs none) None (transaction_of table r) None along (λ e. refl) (λ x y e gone. absurd (cc e))
        by_transaction table r (Some u) active along =
            goes_or_none (pairs none) (Some (kept c.places (view c.g0 a u) u.number (undo_of s u.number))) (transaction_of table r) _ along (λ e. absurd (cc e))
            (λ x y e gone. ap (λ (z : TransactionState). Some z) (kept_along r u active y (subst (λ (z : TransactionState). HasGoneAlong (pairs none) z y) (sym (some_one _ x e)) gone)))

    -- Locks.

    -- an object that an active transaction has locked is a root
    locked_one : (r : ℕ) (u : Transaction) → a.active r ≡ Some u → (id : Id) (at : ℕ) (mode : Mode) → Contains (locks_of (serial c.g0 a.sealed) u) (id, mode) → is_root (undo_of s) c.g0 a (id, at) ≡ true
    locked_one r u active id at mode lock =
        let locks = locks_of (serial c.g0 a.sealed) u in
        let v = view c.g0 a u in
        let locked : is_locked_by locks id ≡ true = any_of (λ (l : Lock). is_same_id l.0 id) locks (id, mode) lock (itself id) in
        named_root (undo_of s) c.g0 a r u active (valid.in_sessions r u active) (id, at)
        (or_right (holds v.registers id) _ (or_right (refers_to v u.number id) _ (or_left (is_locked_by locks id) _ locked)))

    lock_root : (h : Holding) (x : IsHeld c.places c.g0 a h) → address_of (currents none) x.id ≡ Some (moved_to (pairs none) h.key.address)
    lock_root h x = goes x.id h.key.address x.place (locked_one x.session x.transaction x.active x.id h.key.address (mode_of h.mode) x.lock)

    locks_then : AreHeld (rekeyed (pairs none) m.locks) (currents none) c.g0 a
    locks_then =
        held_along m.locks c.places (currents none) c.g0 a (pairs none) is.sessions.locks lock_root (λ h x.
        elim (none_or_some (address_of c.places x.id)) [
          | inl gone_before ↦
              let w = writing_of a c x.session x.transaction x.active valid in
              let left = all_at (λ (l : Lock). address_of c.remaining l.0 ≡ None) (locks_of (serial c.g0 a.sealed) x.transaction) (x.id, mode_of h.mode) w.unlocked x.lock in
              let clash = sym (gone x.id gone_before left) ∙ x.place in
              absurd (cc clash)
          | inr was ↦
              let root = locked_one x.session x.transaction x.active x.id was.0 (mode_of h.mode) x.lock in
              (was.0, was.1, same_Some h.key.address (moved_to (pairs none) was.0) (sym x.place ∙ goes x.id was.0 was.1 root))
        ])

    -- All of it.

    module _ (n : Memory) (found : List ℕ) (flips : Flips m n found) where
      same : collecting.flip_copies m found ≡ copies none
      same = copies_same none found flips.named

      moved_so : HaveGoneAlong (pairs none) m.table n.table
      moved_so = subst (λ (cs : List ObjectCopy). HaveGoneAlong (pairs_of cs) m.table n.table) same flips.moved

      abbrev LeavesSo : List ObjectCopy → Type 0
      LeavesSo cs =
          Leaves m n (logged.Flip cs ∷ []) n.table (rekeyed (pairs_of cs) m.locks) (with_copied (flipped m.spaces) (copied_size cs)) (Some (with_copies (begun m.spaces.used) (moved_objects cs))) m.sealed

      left : LeavesSo (copies none)
      left = subst LeavesSo same flips.left

      sessions_then : AreSessions n.spaces n.collection n.table n.locks n.sealed (ground d) c.g0 c.first a
      sessions_then =
          let here = spaces_here m m c valid works in
          let behind : state_behind c (all_records d) ≡ Some (last none) = ap (state_behind c) (sym (append_assoc (records_of c.batches) c.pending (rec none ∷ []))) ∙ reached none in
          record {
            state = last none;
            reached = behind;
            spaces = left.spaces ∙ ap (λ (x : SpacesState). with_copied (flipped x) (copied_size (copies none))) here ∙ sym (flip_spaces s (copies none));
            collection = left.collection ∙ ap (λ (x : SpacesState). Some (with_copies (begun x.used) (moved_objects (copies none)))) here;
            transactions = λ r. along_kept n.table moved_so r (a.active r) refl
                ∙ ap (λ (o : Option State). kept_of (record { places = currents none; remaining = rest none; words = all_words d; state = o }) c.g0 a (a.active r)) (sym behind);
            locks = subst (λ (ls : Holdings). AreHeld ls (currents none) c.g0 a) (sym left.locks) locks_then;
            next = moved_so.next ∙ is.sessions.next;
            sealed = left.sealed ∙ is.sessions.sealed;
          }

      flipped_memory : IsMemory n a (done c Flip)
      flipped_memory =
          let now = whole_of n a d (disk_left m n a c (rec none ∷ []) (currents none) (rest none) is left) sessions_then in
          subst (IsMemory n a) (sym (ap (moved c) (flips_in None none) ∙ d_is)) now

  -- A flip that is granted.

  adds : (found : List ℕ) (o : Option Collection) → (let entry : Entry = record { event = Flip; reply = reply_in found o } in account_after a entry) ≡ record a { entries = a.entries + 1 }
  adds found None = refl
  adds found (Some k) = refl

  flip_goes : (n : Memory) (found : List ℕ) → AreRoots m.table m.locks found → IsMemory n a (done c Flip) → Goes n c Flip
  flip_goes n found are now =
      subst (λ (reply : Reply). let entry : Entry = record { event = Flip; reply = reply } in IsMemory n (account_after a entry) (done c Flip)) (sym (flip_answers found are))
      (subst (λ (b : Account). IsMemory n b (done c Flip)) (sym (adds found m.collection)) (memory_told n a (done c Flip) a.acknowledged (a.entries + 1) now))

  left_by : (n : Memory) (found : List ℕ) → AreRoots m.table m.locks found → core_refusal c Flip ≡ None → (o : Option Collection) → s.collection ≡ o → (reply : Reply) → reply ≡ reply_in found o
      → ((objects words : ℕ) → reply ≡ answer.Flipped objects words → (rs : List ℕ) × Flips m n rs) → (reply ≡ answer.Collecting → n ≡ m) → IsMemory n a (done c Flip)
  left_by n found are granted None run reply replied by_copies idle =
      let flips = by_copies _ _ replied in
      let may = may_go c Flip valid.unfailed granted in
      let room = log_has_room c Flip may.log in
      flipped_memory run (subst (λ (rs : List Record). HasRoom c rs a) (flips_in None run) room) n flips.0 flips.1
  left_by n found are granted (Some k) run reply replied by_copies idle =
      subst (λ (rs : List Record). IsMemory n a (moved c rs)) (sym (flips_in (Some k) run)) (stays m n c valid is (idle replied))

  -- a flip is answered as the core answers it, and the collection has begun then
  pub flip_does : (n : Memory) (found : List ℕ) → AreRoots m.table m.locks found → core_refusal c Flip ≡ flip_refusal m found → (reply : Reply) → reply ≡ reply_of (flip_refusal m found) (flip_reply m found)
      → ((objects words : ℕ) → reply ≡ answer.Flipped objects words → (rs : List ℕ) × Flips m n rs) → (reply ≡ answer.Collecting → n ≡ m) → ((why : Refusal) → reply ≡ answer.Refused why → IsAsItWas m n)
      → Does c Flip reply n
  flip_does n found are same reply replied by_copies idle stayed =
      does c Flip (flip_refusal m found) (flip_reply m found) reply n same replied (λ e. flip_answers found are)
      (λ e given.
      let known : reply ≡ reply_in found s.collection = given ∙ ap (reply_in found) (runs_in s.collection refl) in
      flip_goes n found are (left_by n found are (same ∙ e) s.collection refl reply known by_copies idle))
      (λ why e. as_it_was m n c is (stayed why e))
