-- What a seal within a collection leaves of others: their words, what they have written, and names.
use Rattle.std.proofs.Common.{◌≡◌, ◌⊎◌, ℕ, ◌<◌, ◌≤◌, ◌+◌, inl, inr, List, [], ◌∷◌, ◌++◌, map, None, Some, is_some, sym, ap, ◌∙◌, subst, arith}
use Rattle.std.specs.Prelude.{fold, slice_index}
use Rattle.std.proofs.lemmas.List.Sums.{fold-append}
use Rattle.std.specs.FinMap.{get}
use Rattle.graph_model.specs.Graph.{Graph}
use Rattle.graph_model.specs.declared.id.Id.{Id}
use Rattle.graph_model.specs.declared.val.Val.{Val}
use Rattle.graph_model.specs.declared.val.Val.TheVariants.{Int, Null, Ref}
use Rattle.log_machine.specs.declared.UndoEntry.{UndoEntry}
use Rattle.log_machine.specs.Machine.{put_record}
use Rattle.log_machine.proofs.ListLaws.{AllByRecursion-append, AllByRecursion-map}
use Rattle.object_layout.specs.Layout.{id_at}
use Rattle.graph_words.specs.Area.{HasMade}
use Rattle.graph_words.specs.Places.{AreOld, IsOld, IsOwn, IsVisible, made_by, Places, address_of, index_of}
use Rattle.graph_words.specs.Promotion.{Move, base_of, written_fields}
use Rattle.graph_words.specs.Stands.{AreOfFields, AreWritten, IsOfField, IsWritten}
use Rattle.graph_words.proofs.Area.Fields.{write_at}
use Rattle.graph_words.proofs.Places.Addresses.{address_of-one, none_or_some, some_address}
use Rattle.graph_words.proofs.Places.Moves.{moved_of, moved_to}
use Rattle.graph_words.proofs.Promotion.Fix.{fixes, fixes_beside}
use Rattle.graph_words.proofs.Seal.Places.{address_of-append_left, address_of-append_right}
use Rattle.graph_words.proofs.Seal.Stands.{all_of_map}
use Rattle.collection_words.specs.Completed.{future}
use Rattle.collection_words.specs.Writes.{AreBacked, IsHereWrite}
use Rattle.collection_words.proofs.Copy.Named.{named, own_front}
use Rattle.collection_words.proofs.Laid.Within.{start_within}
use Rattle.seal_laws.specs.Seal.{AreWrittenWithin, CanSealWithin, IsBesideFields, IsSeenThen, IsSeenWithin, Seal, all, area, asked, free_then, later_places, later_words, next_free, placed, placed_then, records_then, seen_then, whole, seen_behind, seen_by}
use Rattle.seal_laws.proofs.Based.{based-before, based-behind}
use Rattle.seal_laws.proofs.Fixed.{put_entries}
use Rattle.seal_laws.proofs.Found.{is_promoting, need_is, promotion}
use Rattle.seal_laws.proofs.Left.{placed_is, seal_backed, seal_beside, seal_laid, words_are}
use Rattle.seal_laws.proofs.Promoting.{all_there, behind, currents, here, moves_here, moves_there, need, placed_here, promoted_at, same_left, there, whole_there, none_front, not_some}
use Rattle.seal_laws.proofs.Relocated.{placed_behind, promotion_relocates}

-- Words.

module _ (c : Seal) (can : CanSealWithin c) where
  -- a word that is not free, and no field that the transaction wrote, stays
  pub word_kept : (x : ℕ) → (x < next_free c) ⊎ (next_free c + asked c ≤ x) → IsBesideFields c x → slice_index (later_words c) x ≡ slice_index c.words x
  word_kept x apart beside =
      let p = promotion c in
      let need = need_is c can in
      ap (λ (ws : List ℕ). slice_index ws x) (sym (words_are c can) ∙ sym (put_entries c.t (seen_then c) (behind p) (moves_here p) (written_fields c.undo)))
      ∙ fixes_beside c.t (seen_then c) (behind p) (moves_here p) (written_fields c.undo) x beside
      ∙ elim apart [
        | inl before ↦ based-before (area c) p.starts (here p) c.words x before
        | inr after ↦ based-behind (area c) p.starts (here p) c.words x (omega arith)
      ]

  -- so it does in the completed words
  pub whole_kept : (x : ℕ) → x < free_then c → IsBesideFields c x → slice_index (fold put_record (whole c) (records_then c)) x ≡ slice_index (whole c) x
  whole_kept x before beside =
      let p = promotion c in
      let moves = moves_there p in
      ap (λ (ws : List ℕ). slice_index ws x) (fold-append put_record (whole c) (map (base_of (area c) moves) moves) (fixes c.t (seen_then c) moves (written_fields c.undo)))
      ∙ fixes_beside c.t (seen_then c) (whole_there p) moves (written_fields c.undo) x beside
      ∙ based-before (area c) p.starts (free_then c) (whole c) x before

  -- Writes.

  none_then : (id : Id) → address_of (later_places c ++ c.remaining) id ≡ None → address_of (all c ++ placed_then c) id ≡ None
  none_then id none =
      let p = promotion c in
      not_some (address_of (all_there p) id) (address_of (currents p ++ p.remaining) id) (same_left p id)
      (ap (λ (ps : Places). address_of ((c.places ++ ps) ++ c.remaining) id) (placed_is c can) ∙ none)

  -- what a write that may be taken back is of stood in the used words before the seal
  write_low : (us : List UndoEntry) (at i : ℕ) → AreBacked c.places c.words us → IsWritten us at i → at < free_then c
  write_low us at i backed written =
      let write = write_at (λ u. IsHereWrite c.places c.words u.object u.field u.was) us at i backed written in
      let within = start_within can.sees.underway.laid write.0.object write.1.is.start in
      let below = within.below in
      let same = write.2 in omega arith

  -- fields that lead to objects of others are among those that were written after the seal, if they are after that of the completed words
  pub written_kept : (us : List UndoEntry) (g : Graph) → AreBacked c.places c.words us → AreWritten (all c ++ placed_then c) g us → AreWrittenWithin (later_places c) c.remaining g us
  written_kept us g backed written id target at i there got none = elim (none_or_some (address_of c.places id)) [
    | inr old ↦
        let here : address_of c.places id ≡ Some at = old.1 ∙ sym (address_of-append_left c.places (placed c) id old.0 old.1) ∙ there in
        let then = address_of-append_left (all c) (placed_then c) id at (address_of-append_left c.places (future c.state c.words c.remaining) id at here) in
        written id target at i then got (none_then target none)
    | inl out ↦
        let p = promotion c in
        let is = is_promoting c can in
        let new = ap (λ (ps : Places). address_of ps id) (placed_is c can) ∙ sym (address_of-append_right c.places (placed c) id out) ∙ there in
        let one = promoted_at p is (here p) id at new in
        let goes = moved_to p.area p.starts (free_then c) (index_of p.g id) one.has in
        let above = goes.1.above in
        let then = placed_behind p is id goes.0 one.own goes.1.is in
        let low = write_low us goes.0 i backed (written id target goes.0 i then got (none_then target none)) in
        absurd (omega arith)
  ]

  field_kept : (g : Graph) (u : UndoEntry) → IsOfField (all c ++ placed_then c) g u → IsHereWrite c.places c.words u.object u.field u.was → IsOfField (later_places c) g u
  field_kept g u one write =
      let p = promotion c in
      let is = is_promoting c can in
      let id = named c.places u.object (own_front c.places c.remaining is.own) write.is.start in
      let then = address_of-append_left (all c) (placed_then c) id.0 u.object (address_of-append_left c.places (future c.state c.words c.remaining) id.0 u.object id.1) in
      let same = address_of-one (whole_there p) c.state.base (all_there p) (there p + need p) u.object id.0 one.id (promotion_relocates p is).here then one.object in
      record {
        id = one.id;
        object = ap (address_of (later_places c)) (sym same) ∙ address_of-append_left c.places (placed c) id.0 u.object id.1;
        field = one.field;
      }

  -- writes are of fields of current objects after the seal, if they are of fields after that of the completed words
  pub fields_kept : (us : List UndoEntry) (g : Graph) → AreBacked c.places c.words us → AreOfFields (all c ++ placed_then c) g us → AreOfFields (later_places c) g us
  fields_kept [] g backed all = tt
  fields_kept (u ∷ us) g backed all = (field_kept g u all.0 backed.0, fields_kept us g backed.1 all.1)

  -- Objects.

  -- what has a place after a seal had it before, or the sealed transaction made it: among the current objects
  pub current_or_made : (id : Id) (at : ℕ) → address_of (later_places c) id ≡ Some at → (address_of c.places id ≡ Some at) ⊎ IsOwn c.t c.made id
  current_or_made id at there = elim (none_or_some (address_of c.places id)) [
    | inl none ↦
        let new = ap (λ (ps : Places). address_of ps id) (placed_is c can) ∙ sym (address_of-append_right c.places (placed c) id none) ∙ there in
        inr (promoted_at (promotion c) (is_promoting c can) (next_free c) id at new).own
    | inr old ↦ inl (old.1 ∙ sym (address_of-append_left c.places (placed c) id old.0 old.1) ∙ there)
  ]

  -- and among the objects of the completed words
  pub all_or_made : (id : Id) (at : ℕ) → address_of (all c ++ placed_then c) id ≡ Some at → (address_of (all c) id ≡ Some at) ⊎ IsOwn c.t c.made id
  all_or_made id at there = elim (none_or_some (address_of (all c) id)) [
    | inl none ↦ inr (promoted_at (promotion c) (is_promoting c can) (free_then c) id at (sym (address_of-append_right (all c) (placed_then c) id none) ∙ there)).own
    | inr old ↦ inl (old.1 ∙ sym (address_of-append_left (all c) (placed_then c) id old.0 old.1) ∙ there)
  ]

  still_at_hand : (u made : ℕ) (v : Val) → IsVisible c.places u made v → IsVisible (later_places c) u made v
  still_at_hand u made Null sees = tt
  still_at_hand u made (Int n) sees = sees
  still_at_hand u made (Ref id) (inl there) = let at = some_address (address_of c.places id) there in inl (ap is_some (address_of-append_left c.places (placed c) id at.0 at.1))
  still_at_hand u made (Ref id) (inr own) = inr own

  none_later : (id : Id) → address_of (all c ++ placed_then c) id ≡ None → address_of (later_places c) id ≡ None
  none_later id none =
      let p = promotion c in
      let left = not_some (address_of (currents p ++ p.remaining) id) (address_of (all_there p) id) (sym (same_left p id)) none in
      none_front (later_places c) c.remaining id (ap (λ (ps : Places). address_of ((c.places ++ ps) ++ c.remaining) id) (sym (placed_is c can)) ∙ left)

  -- what a transaction that continues made leads to current objects after the seal, or to its own
  pub made_kept : (u made : ℕ) (g h : Graph) → HasMade c.places g u made → HasMade (all c ++ placed_then c) h u made
      → ((k : ℕ) → 1 ≤ k → k ≤ made → get h (made_by u k) ≡ get g (made_by u k)) → HasMade (later_places c) h u made
  made_kept u made g h has then same = record {
    each = λ k first last.
        let one = has.each k first last in
        record {
          values = one.values;
          is = same k first last ∙ one.is;
          short = one.short;
          visible = AllByRecursion-map (IsVisible c.places u made) (IsVisible (later_places c) u made) one.values (still_at_hand u made) one.visible;
        };
    apart = λ k. none_later (made_by u k) (then.apart k);
    few = then.few;
  }

  -- So what another transaction saw it sees after the seal, if it does so in the completed words.
  pub view_kept : (u made : ℕ) (g h : Graph) (undo before after : List UndoEntry) → IsSeenWithin (seen_by c u made g undo before) → AreBacked c.places c.words after
      → ((k : ℕ) → 1 ≤ k → k ≤ made → get h (made_by u k) ≡ get g (made_by u k)) → IsSeenThen c u made h undo after → IsSeenWithin (seen_behind c u made h undo after)
  view_kept u made g h undo before after sees backed same then = record {
    underway = seal_laid c can;
    stands = seal_beside c can after u made h backed then.stands;
    has = made_kept u made g h sees.has then.has same;
    none_left = sees.none_left;
    written = written_kept undo h sees.backed then.written;
    of_fields = fields_kept undo h sees.backed then.of_fields;
    backed = seal_backed c can undo sees.backed;
    others_backed = seal_backed c can after backed;
  }

  -- Names.

  old_on : (next later : ℕ) (id : Id) → next ≤ later → IsOld next id → IsOld later id
  old_on next later id more (inl is) = inl is
  old_on next later id more (inr old) = let below = old.1 in inr (old.0, omega arith)

  placed_old : (later : ℕ) → c.t < later → AreOld later (placed_here (promotion c))
  placed_old later below =
      let p = promotion c in
      let is = is_promoting c can in
      all_of_map (λ (q : Id × ℕ). IsOld later q.0) (λ (m : Move). (id_at (area c).words m.0, m.1)) (moves_here p) (λ m has.
      let given = moved_of (area c) p.starts (here p) m is.are.distinct has in
      let one = is.each m.0 given.0 in
      let maker = one.own.maker in
      let mine : IsOld later one.id = inr (one.own.first, omega arith) in
      subst (IsOld later) (sym one.name) mine)

  -- no transaction from a later number on can give one of the names
  pub names_old : (next later : ℕ) → AreOld next c.places → AreOld next c.remaining → c.t < later → next ≤ later → AreOld later (later_places c ++ c.remaining)
  names_old next later old left below more =
      let Old : Id × ℕ → Type 0 = λ q. IsOld later q.0 in
      let on = λ (ps : Places) (is : AreOld next ps). AllByRecursion-map (λ q. IsOld next q.0) Old ps (λ q one. old_on next later q.0 more one) is in
      AllByRecursion-append Old (later_places c) c.remaining
      (AllByRecursion-append Old c.places (placed c) (on c.places old) (subst (AreOld later) (placed_is c can) (placed_old later below))) (on c.remaining left)
