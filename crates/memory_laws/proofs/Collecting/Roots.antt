-- The roots of a flip in memory are the core's: what tables and locks name there is what active transactions name.
use Rattle.std.proofs.Common.{◌≡◌, ℕ, ◌+◌, ◌≤◌, true, List, Option, None, Some, refl, sym, ap, ◌∙◌, subst, arith}
use Rattle.std.specs.Prelude.{Contains, ◌==◌}
use Rattle.std.specs.List.{list_any}
use Rattle.std.specs.List.Sorted.{IsStrictlyIncreasing}
use Rattle.std.specs.Option.{option_map}
use Rattle.std.specs.FinSet as set
use Rattle.std.proofs.lemmas.Bool.{eq-eqb, eqb-true}
use Rattle.std.proofs.lemmas.Option.{slice_get-get_or}
use Rattle.graph_model.specs.declared.id.Id.{Id}
use Rattle.graph_model.specs.declared.val.Val.{Val}
use Rattle.graph_model.specs.declared.val.Val.TheVariants.{Null, Int, Ref}
use Rattle.graph_model.specs.Graph.{fields, is_same_id}
use Rattle.graph_model.specs.History.{Account, account, sessions}
use Rattle.graph_model.specs.Locking.{Lock, locks_of}
use Rattle.graph_model.specs.Plain.{view}
use Rattle.graph_model.specs.Transaction.{Transaction, View, serial}
use Rattle.graph_model.proofs.Whole.Graph.{itself, same_id}
use Rattle.heap_words.specs.declared.Word.{Word}
use Rattle.heap_words.specs.declared.Word.TheVariants as word
use Rattle.heap_words.specs.Word.{meaning}
use Rattle.object_layout.specs.Layout.{field_words}
use Rattle.log_machine.specs.declared.UndoEntry.{UndoEntry}
use Rattle.log_machine.specs.Machine.{State, undo_of}
use Rattle.log_machine.proofs.StateLaws.{each_at}
use Rattle.object_locks.specs.declared.holding.Holding.{Holding}
use Rattle.stability_tracker.proofs.ListLaws.{same_rising}
use Rattle.volatile_area.specs.Area.{AreaState, starts_of}
use Rattle.txn_table.specs.declared.place.Place.{Place}
use Rattle.txn_table.specs.declared.place.Place.TheVariants.{Stable}
use Rattle.txn_table.specs.Table.{TransactionState, transaction_of}
use Rattle.txn_table.specs.Roots.{AreRoots, IsRoot, Names}
use Rattle.txn_table.specs.Roots.IsRoot.{locked as root_locked, named as root_named}
use Rattle.txn_table.specs.Roots.Names.{held as names_held, referred as names_referred, written as names_written, replaced as names_replaced}
use Rattle.graph_words.specs.Places.{IsOwn, IsVisible, address_of, addresses, bits_of, index_of, made_by, place_of, standing, word_of}
use Rattle.graph_words.proofs.Area.Made.{made_visible}
use Rattle.graph_words.proofs.Area.Starts.{area_starts}
use Rattle.graph_words.proofs.Area.State.{own_words, starts_of-area_of}
use Rattle.graph_words.proofs.Area.Words.{area_starts_Contains, area_starts_got}
use Rattle.graph_words.proofs.Stands.Visible.{place_of-placed}
use Rattle.collection_words.specs.Completed.{completed_places, future}
use Rattle.collection_words.specs.LaidOut.{LeadsHere}
use Rattle.collection_words.specs.Placed.{HaveOwnNames}
use Rattle.collection_words.specs.Writes.{AreBacked, IsHereWrite}
use Rattle.collection_words.proofs.Copy.Named.{named, own_front}
use Rattle.collection_words.proofs.Laid.Names.{own_names}
use Rattle.heap_model.specs.Collecting.{holds, is_entry_at, is_held, is_locked_by, is_named, is_reference_to, is_root, names_object, refers_at, refers_to, roots_of}
use Rattle.heap_model.specs.Core.{Core, all_words, area_in}
use Rattle.core_laws.proofs.Collecting.Entries.{all_at}
use Rattle.core_laws.proofs.Collecting.Roots.{any_in, any_of, entry_was, held_root, named_root, or_left, or_right, passing_has, referred_root, written_root}
use Rattle.core_laws.proofs.Sessions.Whole.{meaning_here}
use Rattle.core_laws.proofs.Step.Goes.{writing_of}
use Rattle.core_laws.specs.Valid.{IsValid, IsWriting}
use Rattle.heap_memory.specs.Memory.{Memory}
use Rattle.memory_laws.specs.CoreMemory.{IsHeld, kept, kept_of, mode_of, place_in, standing_place}
use Rattle.memory_laws.proofs.Collecting.Lists.{any_found, of_map, one_of, passing_named, range_found, to_map}
use Rattle.memory_laws.proofs.Kept.Held.{place_in-placed}
use Rattle.memory_laws.proofs.Kept.Parts.{Works}
use Rattle.memory_laws.proofs.Refusal.Locks.{mode_back, mode_in}
use Rattle.memory_laws.proofs.Step.Appended.{ground_in, mine, own_kept, some_one}

-- what stands at an address has it
stable_at : (o : Option ℕ) (index at : ℕ) → standing_place o index ≡ Stable at → o ≡ Some at
stable_at None index at is = absurd (cc is)
stable_at (Some x) index at is = let same : x ≡ at = cc is in ap (λ (y : ℕ). Some y) same

word_at : (o : Option ℕ) (index at : ℕ) → standing o index ≡ word.Stable at → o ≡ Some at
word_at None index at is = absurd (cc is)
word_at (Some x) index at is = let same : x ≡ at = cc is in ap (λ (y : ℕ). Some y) same

-- a word refers to what stands at an address
refers_is : (at : ℕ) (meant : Option Word) → refers_at at meant ≡ true → meant ≡ Some (word.Stable at)
refers_is at None is = absurd (cc is)
refers_is at (Some word.Null) is = absurd (cc is)
refers_is at (Some (word.Int n)) is = absurd (cc is)
refers_is at (Some (word.Volatile i)) is = absurd (cc is)
refers_is at (Some (word.Stable x)) is = ap (λ (y : ℕ). Some (word.Stable y)) (eqb-true x at is)

held_is : (id : Id) (o : Option Id) → is_held id o ≡ true → o ≡ Some id
held_is id None is = absurd (cc is)
held_is id (Some q) is = ap (λ (x : Id). Some x) (same_id q id is)

reference_is : (id : Id) (x : Val) → is_reference_to id x ≡ true → x ≡ Ref id
reference_is id Null is = absurd (cc is)
reference_is id (Int n) is = absurd (cc is)
reference_is id (Ref q) is = ap Ref (same_id q id is)

module _ (m : Memory) (c : Core) (valid : IsValid c) (is : Works m (account c.history) c) where
  -- what the history says
  abbrev a : Account
  a = account c.history

  -- the state after all records
  abbrev behind : State
  behind = valid.behind

  abbrev undo : ℕ → List UndoEntry
  undo = undo_of behind

  -- the core's roots
  abbrev pub core_roots : List ℕ
  core_roots = roots_of c.places undo c.g0 a

  -- names
  own : HaveOwnNames c.places
  own =
      let whole = completed_places behind c.places c.remaining (all_words c) in
      let stands = valid.told.stands in
      own_front c.places (future behind (all_words c) c.remaining) (own_names whole _ behind.base whole (behind.base + (behind.used + _)) stands.ends stands.names)

  -- an entry is of a field of a current object, and leads to such
  entry_here : (t : ℕ) (u : UndoEntry) → Contains (undo t) u → IsHereWrite c.places (all_words c) u.object u.field u.was
  entry_here t u has =
      all_at (λ (x : UndoEntry). IsHereWrite c.places (all_words c) x.object x.field x.was) (undo t) u
      (each_at (λ q us. AreBacked c.places (all_words c) us) behind.undo t tt valid.told.backed) has

  -- an object that passes the test is a root
  root_at : (id : Id) (at : ℕ) → address_of c.places id ≡ Some at → is_root undo c.g0 a (id, at) ≡ true → Contains core_roots at
  root_at id at place passes = passing_has (is_root undo c.g0 a) c.places id at place passes

  -- What a transaction of a session names.
  module _ (s : ℕ) (t : Transaction) (active : a.active s ≡ Some t) where
    -- what it sees
    abbrev v : View
    v = view c.g0 a t

    abbrev locks : List Lock
    locks = locks_of (serial c.g0 a.sealed) t

    writing : IsWriting c.places c.remaining v t.number locks (all_words c) behind
    writing = writing_of a c s t active valid

    -- what is kept of it, and its area
    abbrev mine_kept : TransactionState
    mine_kept = kept c.places v t.number (undo t.number)

    abbrev area : AreaState
    area = area_in c.places v t.number

    own_it : (k : ℕ) → 1 ≤ k → k ≤ v.made → IsOwn t.number v.made (made_by t.number k)
    own_it k low high = record { maker = refl; first = low; last = high }

    seen_at : (k : ℕ) → 1 ≤ k → k ≤ v.made → (x : Val) → Contains (fields v.graph (made_by t.number k)) x → IsVisible c.places t.number v.made x
    seen_at k low high x has = all_at (IsVisible c.places t.number v.made) (fields v.graph (made_by t.number k)) x (made_visible writing.made k low high) has

    -- In memory, so in the core.

    by_value : (k : ℕ) → 1 ≤ k → k ≤ v.made → (x : Val) → Contains (fields v.graph (made_by t.number k)) x → (at : ℕ) → word_of (place_of c.places v.graph) x ≡ word.Stable at → Contains core_roots at
    by_value k low high Null has at means = absurd (cc means)
    by_value k low high (Int n) has at means = absurd (cc means)
    by_value k low high (Ref id) has at means =
        let place = word_at (address_of c.places id) (index_of v.graph id) at means in
        let here = any_of (is_reference_to id) (fields v.graph (made_by t.number k)) (Ref id) has (itself id) in
        root_at id at place (referred_root undo c.g0 a s t active (valid.in_sessions s t active) (id, at)
        (any_in (λ (j : ℕ). list_any (is_reference_to id) (fields v.graph (made_by t.number j))) 1 v.made k low (omega (arith, high)) here))

    by_field : (object w at : ℕ) → Contains (starts_of area) object → Contains (field_words area.words object) w → meaning w ≡ Some (word.Stable at) → Contains core_roots at
    by_field object w at starts has means =
        let from = subst (λ (xs : List ℕ). Contains xs object) (starts_of-area_of writing.made) starts in
        let got = area_starts_got v.graph t.number v.made from.0 object (slice_get-get_or (area_starts v.graph t.number v.made) from.0 object from.1 ∙ ap (λ (x : ℕ). Some x) from.2) in
        let k = from.0 + 1 in
        let high : k ≤ v.made = omega (arith, got.0) in
        let low : 1 ≤ k = omega arith in
        let words = ap (field_words area.words) (sym got.1) ∙ own_words writing.made (made_by t.number k) (own_it k low high) in
        let found = of_map (bits_of (place_of c.places v.graph)) (fields v.graph (made_by t.number k)) w (subst (λ (ws : List ℕ). Contains ws w) words has) in
        let said = sym (meaning_here writing found.0 (seen_at k low high found.0 found.1)) ∙ ap meaning found.2 ∙ means in
        by_value k low high found.0 found.1 at (some_one (word_of (place_of c.places v.graph) found.0) (word.Stable at) said)

    by_register : (o : Option Id) (at : ℕ) → Contains v.registers o → option_map (place_in c.places v.graph) o ≡ Some (Stable at) → Contains core_roots at
    by_register None at has means = absurd (cc means)
    by_register (Some id) at has means =
        let place = stable_at (address_of c.places id) (index_of v.graph id) at (some_one (place_in c.places v.graph id) (Stable at) means) in
        root_at id at place (held_root undo c.g0 a s t active (valid.in_sessions s t active) (id, at) (any_of (is_held id) v.registers (Some id) has (itself id)))

    by_entry : (u : UndoEntry) (at : ℕ) → Contains (undo t.number) u → Contains (addresses c.places) at → is_entry_at at u ≡ true → Contains core_roots at
    by_entry u at has start names =
        let object = named c.places at own start in
        root_at object.0 at object.1 (written_root undo c.g0 a s t active (valid.in_sessions s t active) (object.0, at) u has names)

    named_there : (at : ℕ) → Names mine_kept at → Contains core_roots at
    named_there at (names_held has) = let found = of_map (option_map (place_in c.places v.graph)) v.registers (Some (Stable at)) has in by_register found.0 at found.1 found.2
    named_there at (names_referred object w starts has means) = by_field object w at starts has means
    named_there at (names_written u has object) =
        by_entry u at has (subst (Contains (addresses c.places)) object (entry_here t.number u has).is.start) (or_left (u.object == at) _ (eq-eqb u.object at object))
    named_there at (names_replaced u has means) = by_entry u at has (subst (LeadsHere (addresses c.places)) means (entry_here t.number u has).leads) (entry_was u at means)

    -- In the core, so in memory.

    there : transaction_of m.table s ≡ Some mine_kept
    there = own_kept m m c valid is s ∙ ap (λ (o : Option Transaction). kept_of (ground_in c c.places behind) c.g0 a o) active

    in_memory : (at : ℕ) → Names mine_kept at → IsRoot m.table m.locks at
    in_memory at names = root_named s mine_kept there names

    module _ (id : Id) (at : ℕ) (place : address_of c.places id ≡ Some at) where
      core_held : holds v.registers id ≡ true → IsRoot m.table m.locks at
      core_held holds_it =
          let found = any_found (is_held id) v.registers holds_it in
          let has = subst (Contains v.registers) (held_is id found.0 found.2) found.1 in
          in_memory at (names_held (subst (λ (p : Place). Contains mine_kept.handles (Some p)) (place_in-placed c.places v.graph id at place)
          (to_map (option_map (place_in c.places v.graph)) v.registers (Some id) has)))

      core_referred : refers_to v t.number id ≡ true → IsRoot m.table m.locks at
      core_referred refers =
          let found = range_found (λ (j : ℕ). list_any (is_reference_to id) (fields v.graph (made_by t.number j))) 1 v.made refers in
          let k = found.0 in
          let low = found.1 in
          let high : k ≤ v.made = omega (arith, found.2) in
          let value = any_found (is_reference_to id) (fields v.graph (made_by t.number k)) found.3 in
          let has = subst (Contains (fields v.graph (made_by t.number k))) (reference_is id value.0 value.2) value.1 in
          let own_k = own_it k low high in
          let object = index_of v.graph (made_by t.number k) in
          let w = bits_of (place_of c.places v.graph) (Ref id) in
          let starts = subst (λ (xs : List ℕ). Contains xs object) (sym (starts_of-area_of writing.made)) (area_starts_Contains v.graph t.number v.made (made_by t.number k) own_k) in
          let within = subst (λ (ws : List ℕ). Contains ws w) (sym (own_words writing.made (made_by t.number k) own_k)) (to_map (bits_of (place_of c.places v.graph)) (fields v.graph (made_by t.number k)) (Ref id) has) in
          let means = meaning_here writing (Ref id) (seen_at k low high (Ref id) has) ∙ ap (λ (x : Word). Some x) (place_of-placed c.places v.graph id at place) in
          in_memory at (names_referred object w starts within means)

      core_locked : is_locked_by locks id ≡ true → IsRoot m.table m.locks at
      core_locked locked =
          let found = any_found (λ (lock : Lock). is_same_id lock.0 id) locks locked in
          let mode = mode_in found.0.1 in
          let lock : found.0 ≡ (id, mode_of mode) = ap (λ (q : Id). (q, found.0.1)) (same_id found.0.0 id found.2) ∙ ap (λ x. (id, x)) (sym (mode_back found.0.1)) in
          let h : Holding = record { key = record { address = at }; transaction = t.number; mode = mode } in
          let x : IsHeld c.places c.g0 a h = record { session = s; transaction = t; active = active; number = refl; id = id; place = place; lock = subst (Contains locks) lock found.1 } in
          root_locked (h, (is.sessions.locks h).1 x, refl)

      core_written : list_any (is_entry_at at) (undo t.number) ≡ true → IsRoot m.table m.locks at
      core_written writes =
          let found = any_found (is_entry_at at) (undo t.number) writes in
          let u = found.0 in
          one_of (u.object == at) (refers_at at (meaning u.was)) (IsRoot m.table m.locks at) found.2
          (λ object. in_memory at (names_written u found.1 (eqb-true u.object at object)))
          (λ was. in_memory at (names_replaced u found.1 (refers_is at (meaning u.was) was)))

      core_names : names_object v t.number (undo t.number) locks (id, at) ≡ true → IsRoot m.table m.locks at
      core_names names =
          let R = IsRoot m.table m.locks at in
          one_of (holds v.registers id) _ R names core_held (λ second.
          one_of (refers_to v t.number id) _ R second core_referred (λ third.
          one_of (is_locked_by locks id) (list_any (is_entry_at at) (undo t.number)) R third core_locked core_written))

  -- Both.

  locked_there : (at : ℕ) (h : Holding) → set.contains m.locks h ≡ true → h.key.address ≡ at → Contains core_roots at
  locked_there at h has key =
      let x = (is.sessions.locks h).0 has in
      let locks = locks_of (serial c.g0 a.sealed) x.transaction in
      let place = x.place ∙ ap (λ (y : ℕ). Some y) key in
      let locked : is_locked_by locks x.id ≡ true = any_of (λ (lock : Lock). is_same_id lock.0 x.id) locks (x.id, mode_of h.mode) x.lock (itself x.id) in
      let v = view c.g0 a x.transaction in
      root_at x.id at place (named_root undo c.g0 a x.session x.transaction x.active (valid.in_sessions x.session x.transaction x.active) (x.id, at)
      (or_right (holds v.registers x.id) _ (or_right (refers_to v x.transaction.number x.id) _ (or_left (is_locked_by locks x.id) _ locked))))

  to_core : (at : ℕ) → IsRoot m.table m.locks at → Contains core_roots at
  to_core at (root_locked locked) = locked_there at locked.0 locked.1 locked.2
  to_core at (root_named s x has names) =
      let t = mine m m c valid is s x has in
      named_there s t.0 t.1 at (subst (λ (y : TransactionState). Names y at) t.2 names)

  by_session : (id : Id) (at : ℕ) → address_of c.places id ≡ Some at → (s : ℕ) (o : Option Transaction) → a.active s ≡ o → is_named undo c.g0 a o (id, at) ≡ true → IsRoot m.table m.locks at
  by_session id at place s None active names = absurd (cc names)
  by_session id at place s (Some t) active names = core_names s t active id at place names

  to_memory : (at : ℕ) → Contains core_roots at → IsRoot m.table m.locks at
  to_memory at has =
      let found = passing_named (is_root undo c.g0 a) c.places at own has in
      let named_by = any_found (λ (r : ℕ). is_named undo c.g0 a (a.active r) (found.0, at)) sessions found.2 in
      by_session found.0 at found.1 named_by.0 (a.active named_by.0) refl named_by.2

  -- Roots in memory are the core's, if these ascend.
  pub roots_same : (roots : List ℕ) → AreRoots m.table m.locks roots → IsStrictlyIncreasing core_roots → roots ≡ core_roots
  roots_same roots are rising =
      same_rising roots core_roots are.ascending rising (λ at has. to_core at ((are.each at).0 has)) (λ at has. (are.each at).1 (to_memory at has))
