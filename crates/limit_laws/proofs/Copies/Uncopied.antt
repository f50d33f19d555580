-- No transaction has overwritten a reference to what a flip does not copy: each sees those of the objects that it has locked as the sealed ones left
-- them.
use Rattle.std.proofs.Common.{◌≡◌, ◌⊎◌, inl, inr, ℕ, ◌<◌, Bool, true, false, List, [], ◌∷◌, ◌++◌, length, length-set, None, Some, is_some, refl, sym, ap, ◌∙◌, subst, arith}
use Rattle.std.specs.Prelude.{◌==◌, Contains, slice_get, slice_index, slice_index_or, slice_set}
use Rattle.std.specs.FinMap.{remove}
use Rattle.std.proofs.lemmas.Bool.{eqb-false, eqb-true}
use Rattle.std.proofs.lemmas.List.{get_or-set_other, get_or-set_same}
use Rattle.std.proofs.lemmas.Option.{same_Some, slice_get-get_or, slice_get_within}
use Rattle.object_layout.proofs.WalkLaws.{Contains-head, Contains-rest}
use Rattle.object_layout.specs.Layout.{object_at}
use Rattle.graph_model.specs.declared.id.Id.{Id}
use Rattle.graph_model.specs.declared.val.Val.TheVariants.{Null, Ref}
use Rattle.graph_model.specs.Graph.{fields}
use Rattle.graph_model.specs.History.{Account, account}
use Rattle.graph_model.specs.Locking.{Exclusive, locks_of}
use Rattle.graph_model.specs.Transaction.{Transaction, run}
use Rattle.commit_order.specs.Heard.{heard_in}
use Rattle.commit_order.specs.SerialOrder.{numbers_begun}
use Rattle.commit_order.proofs.OrderLaws.{IsOrdered, two_phase_ordered}
use Rattle.heap_words.specs.declared.Word.TheVariants as word
use Rattle.heap_words.specs.Word.{bits, meaning}
use Rattle.heap_words.proofs.WordLaws.{meaning-bits}
use Rattle.log_machine.specs.declared.UndoEntry.{UndoEntry}
use Rattle.log_machine.specs.Machine.{State, field_at, losing, taken_back, with_word}
use Rattle.log_machine.proofs.MapLaws.{each_entry, each_other}
use Rattle.log_machine.proofs.Spaced.{spaced_ends}
use Rattle.graph_words.specs.Places.{address_of, bits_of, place_of}
use Rattle.graph_words.proofs.Seal.Places.{address_of-append_left}
use Rattle.graph_words.proofs.Stands.Objects.{stands_field, stands_one}
use Rattle.graph_words.proofs.Stands.Visible.{place_of-placed}
use Rattle.collection_words.specs.Completed.{completed, completed_in, future}
use Rattle.collection_words.specs.Placing.{Placing, moved_by_all}
use Rattle.collection_words.proofs.Laid.Within.{placed_within}
use Rattle.flip_laws.specs.Flip.{IsEntryOf}
use Rattle.flip_laws.proofs.Heap.{root_goes}
use Rattle.flip_laws.proofs.Roots.{entry_rooted}
use Rattle.seen_laws.specs.Heap.{IsHeap, IsUnwritten}
use Rattle.seen_laws.proofs.Kept.{none_wrote, unwritten_word}
use Rattle.seen_laws.proofs.Reading.{object_here}
use Rattle.seen_laws.proofs.States.{backed_all, others, sealed_stands, viewed_stands, writes_of_all}
use Rattle.heap_model.specs.Core.{Core, all_words, placing}
use Rattle.core_laws.proofs.Collecting.Entries.{all_at, part_entries}
use Rattle.core_laws.proofs.Collecting.Flip as flip
use Rattle.core_laws.proofs.Sessions.Apart.{away_field, free_shared, own_free, same_length}
use Rattle.core_laws.proofs.Step.Goes.{writing_of}
use Rattle.core_laws.specs.Valid.{IsValid, RunsLocked}
use Rattle.limit_laws.specs.Copies.{sealed_graph}
use Rattle.limit_laws.proofs.Copies.Disturbed.{some_none}
use Rattle.limit_laws.proofs.Copies.Edges.{value_refers}

-- A word from which writes are taken back is as it was, or is the word of one of them.
back_word : (us : List UndoEntry) (words : List ℕ) (x : ℕ) → x < length words → (slice_index (taken_back us words) x ≡ slice_index words x) ⊎ ((u : UndoEntry) × Contains us u × (slice_index (taken_back us words) x ≡ u.was))
back_word [] words x within = inl refl
back_word (u ∷ us) words x within =
    let next = with_word words u.object u.field u.was in
    let long = length-set words (field_at u.object u.field) u.was in
    by (x == field_at u.object u.field) refl (back_word us next x (omega arith))
  where
    by : (b : Bool) → (x == field_at u.object u.field) ≡ b
        → (slice_index (taken_back us (with_word words u.object u.field u.was)) x ≡ slice_index (with_word words u.object u.field u.was) x) ⊎ ((v : UndoEntry) × Contains us v × (slice_index (taken_back us (with_word words u.object u.field u.was)) x ≡ v.was))
        → (slice_index (taken_back us (with_word words u.object u.field u.was)) x ≡ slice_index words x) ⊎ ((v : UndoEntry) × Contains (u ∷ us) v × (slice_index (taken_back us (with_word words u.object u.field u.was)) x ≡ v.was))
    by b is (inr later) = inr (later.0, Contains-rest u us later.0 later.1, later.2)
    by true is (inl same) =
        let here = eqb-true x (field_at u.object u.field) is in
        inr (u, Contains-head u us, same ∙ ap (λ (i : ℕ). slice_index (slice_set words i u.was) x) (sym here) ∙ get_or-set_same words x u.was 0 within)
    by false is (inl same) = inl (same ∙ get_or-set_other words (field_at u.object u.field) x u.was 0 (eqb-false x (field_at u.object u.field) is))

module _ (c : Core) (valid : IsValid c) (runs : RunsLocked c.g0 c.first c.history) (none : valid.behind.collection ≡ None) where
  abbrev a : Account
  a = account c.history

  abbrev s : State
  s = valid.behind

  abbrev us : List UndoEntry
  us = writes_of_all (losing valid.behind)

  abbrev behind : Placing
  behind = moved_by_all (placing c) (flip.rec (account c.history) c valid none ∷ [])

  ordered : IsOrdered c.g0 (numbers_begun c.history) (account c.history) (heard_in c.history)
  ordered = two_phase_ordered c.g0 c.history runs.plain runs.two_phase

  -- the object to which the word of a write refers is copied
  overwritten_copied : (u : UndoEntry) → Contains (writes_of_all (losing valid.behind)) u → (y : Id) (at : ℕ) → address_of c.places y ≡ Some at → meaning u.was ≡ Some (word.Stable at)
      → is_some (address_of (moved_by_all (placing c) (flip.rec (account c.history) c valid none ∷ [])).places y) ≡ true
  overwritten_copied u has y at there means =
      let entry = all_at (IsEntryOf s) us u (part_entries s s.undo (λ q vs is. is)) has in
      let can = flip.can a c valid none in
      ap (λ (p : Placing). is_some (address_of p.places y)) (flip.placed a c valid none) ∙ ap is_some (root_goes can y at there ((entry_rooted can u entry).was at means))

  -- so the word that refers to an object that is not copied was not written
  raw_word : (y : Id) (to x : ℕ) → address_of (moved_by_all (placing c) (flip.rec (account c.history) c valid none ∷ [])).places y ≡ None → address_of c.places y ≡ Some to → x < length (all_words c)
      → slice_index (taken_back (writes_of_all (losing valid.behind)) (all_words c)) x ≡ bits (word.Stable to) → slice_index (all_words c) x ≡ bits (word.Stable to)
  raw_word y to x left there within refers = elim (back_word us (all_words c) x within) [
    | inl same ↦ sym same ∙ refers
    | inr wrote ↦
        let place = placed_within valid.told.heap.laid y to there in
        let low = place.below in
        let high = spaced_ends s valid.told.heap.spaced in
        let small = valid.told.heap.small in
        let means = ap meaning (sym wrote.2 ∙ refers) ∙ meaning-bits (word.Stable to) (omega arith) in
        absurd (some_none left (overwritten_copied wrote.0 wrote.1 y to there means))
  ]

  pub seen_refers : (r : ℕ) (t : Transaction) → (account c.history).active r ≡ Some t → (z y : Id) (i at to : ℕ) → Contains (locks_of (sealed_graph c) t) (z, Exclusive) → address_of c.places z ≡ Some at → address_of c.places y ≡ Some to
      → address_of (moved_by_all (placing c) (flip.rec (account c.history) c valid none ∷ [])).places y ≡ None → slice_get (fields (sealed_graph c) z) i ≡ Some (Ref y) → slice_get (fields (run (sealed_graph c) t).graph z) i ≡ Some (Ref y)
  seen_refers r t active z y i at to lock there stands left refers =
      let g = sealed_graph c in
      let v = run g t in
      let W = all_words c in
      let later = future s W c.remaining in
      let P = c.places ++ later in
      let x = field_at at i in
      let in_all = λ (id : Id) (b : ℕ) (is : address_of c.places id ≡ Some b). address_of-append_left c.places later id b is in
      let sealed = sealed_stands s c.places c.remaining W valid.told.stands in
      let w = writing_of a c r t active valid in
      let seen = viewed_stands s t.number v.made c.places c.remaining W w.stands in
      let within = slice_get_within (fields g z) i (Ref y) refers in
      let long = same_length a c valid ordered r t active z at there in
      let less : i < length (fields v.graph z) = subst (λ (n : ℕ). i < n) (sym long) within in
      let away = away_field a c valid ordered r t active z at i there less (free_shared c.g0 a t.number z (own_free a c valid ordered r t active z lock)) in
      let alone = none_wrote (others s t.number) x (each_entry (λ q vs. IsUnwritten vs x) (remove s.undo t.number) (each_other (λ q vs. IsUnwritten vs x) s.undo t.number away)) in
      let whole : completed s c.places c.remaining W ≡ W = ap (completed_in s c.places c.remaining W) none in
      let value = slice_index_or (fields g z) i Null in
      let is_y : value ≡ Ref y = same_Some value (Ref y) (sym (slice_get-get_or (fields g z) i Null within) ∙ refers) in
      let word_y : bits_of (place_of P g) value ≡ bits (word.Stable to) = ap (bits_of (place_of P g)) is_y ∙ ap bits (place_of-placed P g y to (in_all y to stands)) in
      let back = ap (λ (ws : List ℕ). slice_index (taken_back us ws) x) (sym whole) ∙ stands_field sealed z at i (in_all z at there) within ∙ word_y in
      let place = placed_within valid.told.heap.laid z at there in
      let size : place.fields ≡ length (fields g z) = object_size z at there place.fields place.object in
      let low = place.below in
      let high = spaced_ends s valid.told.heap.spaced in
      let total = valid.told.heap.long in
      let raw = raw_word y to x left stands (omega arith) back in
      let mine = sym (stands_field seen z at i (in_all z at there) less) ∙ unwritten_word (writes_of_all (others s t.number)) (completed s c.places c.remaining W) x alone ∙ ap (λ (ws : List ℕ). slice_index ws x) whole ∙ raw in
      slice_get-get_or (fields v.graph z) i Null less ∙ ap Some (value_refers P v.graph (stands_one sealed) (slice_index_or (fields v.graph z) i Null) to y mine (in_all y to stands))
    where
      object_size : (z : Id) (at : ℕ) → address_of c.places z ≡ Some at → (n : ℕ) → object_at (all_words c) at ≡ Some n → n ≡ length (fields (sealed_graph c) z)
      object_size z at there n object =
          let heap : IsHeap s c.places c.remaining (all_words c) = record { spaced = valid.told.heap.spaced; long = valid.told.heap.long; laid = valid.told.heap.laid } in
          same_Some n (length (fields (sealed_graph c) z))
          (sym object ∙ object_here us heap (backed_all s c.places (all_words c) valid.told.backed) (sealed_stands s c.places c.remaining (all_words c) valid.told.stands) z at there)
