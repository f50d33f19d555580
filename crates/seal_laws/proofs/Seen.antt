-- The words as a sealed transaction sees them, and the completed words as it sees them.
use Rattle.std.proofs.Common.{◌≡◌, ℕ, ◌<◌, ◌+◌, inl, inr, true, false, List, [], ◌∷◌, ◌++◌, length, Option, None, Some, is_some, refl, sym, ap, ◌∙◌, subst, arith}
use Rattle.std.specs.Prelude.{Contains, slice_index}
use Rattle.std.specs.List.{AllByRecursion}
use Rattle.std.proofs.lemmas.Option.{get_or_from_slice_get, same_Some, slice_get_within}
use Rattle.heap_words.specs.declared.Header.TheVariants.{Length}
use Rattle.heap_words.specs.Header.{birth_bits, header_bits}
use Rattle.heap_words.specs.declared.Word.{Word}
use Rattle.heap_words.specs.declared.Word.TheVariants as word
use Rattle.heap_words.specs.Word.{is_volatile, meaning, refers_to_volatile}
use Rattle.heap_words.proofs.WordLaws.{is_volatile-bits}
use Rattle.graph_model.specs.Graph.{fields}
use Rattle.graph_model.specs.declared.id.Id.{Id}
use Rattle.graph_model.specs.declared.val.Val.{Val}
use Rattle.graph_model.specs.declared.val.Val.TheVariants.{Int, Null, Ref}
use Rattle.log_machine.specs.Machine.{field_at}
use Rattle.log_machine.proofs.ListLaws.{AllByRecursion-map}
use Rattle.object_layout.specs.Layout.{object_at}
use Rattle.object_layout.specs.Walk.{IsInside}
use Rattle.object_layout.proofs.WalkLaws.{Contains-head, Contains-rest}
use Rattle.graph_words.specs.Area.{HasMade, area_of}
use Rattle.graph_words.specs.Places.{IsAtHand, IsOwn, IsVisible, Places, address_of, addresses, bits_of, made_by, place_of}
use Rattle.graph_words.specs.Promotion.{Field, promoted_need, written_fields}
use Rattle.graph_words.specs.Stands.{AreOfFields, AreWritten, IsOfField}
use Rattle.graph_words.proofs.Area.Fields.{write_at, written_from_field}
use Rattle.graph_words.proofs.Area.Made.{made_visible}
use Rattle.graph_words.proofs.Area.Write.{area_words-same}
use Rattle.graph_words.proofs.Places.Addresses.{address_of-Contains, none_or_some, own_made, some_address}
use Rattle.graph_words.proofs.Places.Lists.{AllByRecursion-get}
use Rattle.graph_words.proofs.Promotion.Alike.{AgreeIn, AreAlike, need_same}
use Rattle.graph_words.proofs.Seal.Places.{address_of-append_left, address_of-append_right}
use Rattle.graph_words.proofs.Stands.Objects.{stands_field, stands_object, visible_meaning}
use Rattle.graph_words.proofs.Stands.Visible.{map_bits_of-same, place_of-apart, place_of-placed}
use Rattle.collection_words.specs.Completed.{completed, followed, future}
use Rattle.collection_words.specs.LaidOut.{MayLeadBack}
use Rattle.collection_words.specs.Placed.{HaveOwnNames}
use Rattle.collection_words.specs.Writes.{AreBacked, IsCurrentField, IsHereWrite}
use Rattle.collection_words.proofs.Copy.Laid.{inside_leads}
use Rattle.collection_words.proofs.Copy.Named.{RefersTo, current, followed_plain, forwarded, left, refers, refers_followed}
use Rattle.collection_words.proofs.Copy.Stands.{completed_own}
use Rattle.collection_words.proofs.Laid.Completed.{completed_ends, completed_object, move_made}
use Rattle.collection_words.proofs.Laid.Followed.{move_placed}
use Rattle.collection_words.proofs.Laid.Old.{old_in_other}
use Rattle.collection_words.proofs.Laid.Sources.{all_places}
use Rattle.collection_words.proofs.Laid.TakenBack.{IsTakenBack, completed_taken_back}
use Rattle.collection_words.proofs.Laid.Underway.{underway}
use Rattle.collection_words.proofs.Moves.Sources.{put_same}
use Rattle.seal_laws.specs.Seal.{IsSeenWithin, Seal, all, area, asked, seen, seen_then, used_then}
use Rattle.seal_laws.proofs.Based.{ends_below}
use Rattle.seal_laws.proofs.Fixed.{backed_behind}
use Rattle.seal_laws.proofs.Promoting.{not_some}

-- Places.

module _ (c : Seal) (can : IsSeenWithin c) where
  -- the same objects have places in the completed words
  all_same : (id : Id) → is_some (address_of (all c) id) ≡ is_some (address_of (c.places ++ c.remaining) id)
  all_same id =
      ap (λ (ps : Places). is_some (address_of ps id)) (all_places (underway can.underway).laid) ∙ put_same c.words (c.places ++ c.remaining) c.state.base id

  -- no place is that of an object that the transaction made
  pub made_apart : (id : Id) → IsOwn c.t c.made id → address_of (c.places ++ c.remaining) id ≡ None
  made_apart id own =
      ap (address_of (c.places ++ c.remaining)) (own_made c.t c.made id own)
      ∙ address_of-append_right c.places c.remaining (made_by c.t id.k) (can.has.apart id.k) ∙ can.none_left id.k

  at_hand_then : (id : Id) → IsAtHand c.places c.t c.made id → IsAtHand (all c) c.t c.made id
  at_hand_then id (inl there) =
      let at = some_address (address_of c.places id) there in inl (ap is_some (address_of-append_left c.places (future c.state c.words c.remaining) id at.0 at.1))
  at_hand_then id (inr own) = inr own

  -- what is seen of the current objects is seen of all
  pub visible_then : (v : Val) → IsVisible c.places c.t c.made v → IsVisible (all c) c.t c.made v
  visible_then Null sees = tt
  visible_then (Int n) sees = sees
  visible_then (Ref id) sees = at_hand_then id sees

  -- and what the transaction made is
  pub has_then : HasMade (all c) c.g c.t c.made
  has_then = record {
    each = λ k first last.
        let one = can.has.each k first last in
        record { values = one.values; is = one.is; short = one.short; visible = AllByRecursion-map (IsVisible c.places c.t c.made) (IsVisible (all c) c.t c.made) one.values visible_then one.visible };
    apart = λ k.
        not_some (address_of (all c) (made_by c.t k)) (address_of (c.places ++ c.remaining) (made_by c.t k)) (all_same (made_by c.t k))
        (address_of-append_right c.places c.remaining (made_by c.t k) (can.has.apart k) ∙ can.none_left k);
    few = can.has.few;
  }

  stands_then : (id : Id) → IsAtHand c.places c.t c.made id → place_of (all c) c.g id ≡ place_of c.places c.g id
  stands_then id (inl there) =
      let at = some_address (address_of c.places id) there in
      place_of-placed (all c) c.g id at.0 (address_of-append_left c.places (future c.state c.words c.remaining) id at.0 at.1) ∙ sym (place_of-placed c.places c.g id at.0 at.1)
  stands_then id (inr own) =
      let k = own_made c.t c.made id own in
      place_of-apart (all c) c.g id (ap (address_of (all c)) k ∙ has_then.apart id.k) ∙ sym (place_of-apart c.places c.g id (ap (address_of c.places) k ∙ can.has.apart id.k))

  -- So its area is given by the current places alone.
  pub area_same : area_of (place_of (all c) c.g) c.g c.t c.made ≡ area c
  area_same =
      ap (λ ws. record { transaction = c.t; made = c.made; words = ws }) (area_words-same (place_of c.places c.g) (place_of (all c) c.g) c.g c.g c.t c.made (λ k first last.
      let vs = fields c.g (made_by c.t k) in
      ap (λ ws. header_bits (Length (length vs)) ∷ birth_bits c.t k ∷ ws)
      (map_bits_of-same c.places c.t c.made (place_of c.places c.g) (place_of (all c) c.g) stands_then vs (made_visible can.has k first last))))

  -- The words as it sees them.

  pub taken : IsTakenBack c.state c.collection c.places c.remaining c.words c.others
  taken = completed_taken_back c.others (underway can.underway) can.others_backed

  pub own : HaveOwnNames (c.places ++ c.remaining)
  own = completed_own c.others (underway can.underway) can.stands

  refers_stable : (w : ℕ) (id : Id) → RefersTo c.state c.places c.remaining (seen c) w id → is_volatile w ≡ false
  refers_stable w id (current at means there) = ap refers_to_volatile means
  refers_stable w id (forwarded from to means other forward there) = ap refers_to_volatile means
  refers_stable w id (left from means there) = ap refers_to_volatile means

  -- a word that may lead back is alike when it is followed
  alike_followed : (w : ℕ) → MayLeadBack (addresses c.places) taken.is.from.starts (meaning w) → AreAlike w (followed c.state (seen c) c.remaining w)
  alike_followed w may = elim (refers taken.is own taken.is.from w (meaning w) refl (old_in_other taken.is) may) [
    | inl plain ↦ inl (sym (followed_plain c.state (seen c) c.remaining w plain))
    | inr to ↦
        let before = refers_followed taken.is own w to.0 to.1 in
        let lies = ends_below (completed c.state c.places c.remaining (seen c)) c.state.base (addresses (c.places ++ future c.state (seen c) c.remaining)) (c.state.base + used_then c) before.to
        (completed_ends taken.is) (address_of-Contains (c.places ++ future c.state (seen c) c.remaining) to.0 before.to before.there) in
        let below = lies.2 in
        let top = can.stands.below in
        let small : before.to < 2097152 = omega arith in
        inr (refers_stable w to.0 to.1, ap is_volatile before.is ∙ is_volatile-bits (word.Stable before.to) small)
  ]

  -- Fields.

  own_backed : AreBacked c.places (seen c) c.undo
  own_backed = backed_behind c.others (underway can.underway) can.others_backed c.undo can.backed

  field_in : (words : List ℕ) → AreBacked c.places words c.undo → (f : Field) → Contains (written_fields c.undo) f → IsCurrentField c.places words f.0 f.1
  field_in words backed f has =
      let write = write_at (λ u. IsHereWrite c.places words u.object u.field u.was) c.undo f.0 f.1 backed (written_from_field c.undo f has) in
      subst (λ (x : ℕ). IsCurrentField c.places words x f.1) write.2 (subst (IsCurrentField c.places words write.0.object) write.3 write.1.is)

  -- each that the transaction wrote is one of a current object
  pub own_field : (f : Field) → Contains (written_fields c.undo) f → IsCurrentField c.places c.words f.0 f.1
  own_field f has = field_in c.words can.backed f has

  seen_field : (f : Field) → IsCurrentField c.places (seen c) f.0 f.1 → slice_index (seen_then c) (field_at f.0 f.1) ≡ followed c.state (seen c) c.remaining (slice_index (seen c) (field_at f.0 f.1))
  seen_field f one =
      ap (λ (ws : List ℕ). slice_index ws (field_at f.0 f.1)) (sym taken.same)
      ∙ (move_made taken.is f.0 f.0 one.fields (move_placed taken.is.laid f.0 one.start) one.stands).fields f.1 one.within

  field_alike : (f : Field) → Contains (written_fields c.undo) f → AreAlike (slice_index (seen c) (field_at f.0 f.1)) (slice_index (seen_then c) (field_at f.0 f.1))
  field_alike f has =
      let one = field_in (seen c) own_backed f has in
      subst (AreAlike (slice_index (seen c) (field_at f.0 f.1))) (sym (seen_field f one))
      (alike_followed (slice_index (seen c) (field_at f.0 f.1)) (taken.is.from.back f.0 one.start one.fields f.1 one.stands one.within))

  all_of : (P : Field → Type 0) (fs : List Field) → ((f : Field) → Contains fs f → P f) → AllByRecursion P fs
  all_of P [] each = tt
  all_of P (f ∷ fs) each = (each f (Contains-head f fs), all_of P fs (λ g has. each g (Contains-rest f fs g has)))

  -- the words are alike where it has written
  pub agree : AgreeIn (seen_then c) (seen c) (written_fields c.undo)
  agree = all_of _ (written_fields c.undo) field_alike

  -- as many words are asked for
  pub asked_same : promoted_need (area c) (seen_then c) c.undo ≡ asked c
  asked_same = sym (need_same (area c) (seen_then c) (seen c) c.undo agree)

  -- What it has written.

  pub of_fields_then : AreOfFields (all c) c.g c.undo
  of_fields_then = AllByRecursion-map (IsOfField c.places c.g) (IsOfField (all c) c.g) c.undo
      (λ u one. record { id = one.id; object = address_of-append_left c.places (future c.state c.words c.remaining) one.id u.object one.object; field = one.field }) can.of_fields

  inside_plain : (starts : List ℕ) (meant : Option Word) → IsInside starts meant → refers_to_volatile meant ≡ false
  inside_plain starts None inside = absurd inside
  inside_plain starts (Some word.Null) inside = refl
  inside_plain starts (Some (word.Int n)) inside = refl
  inside_plain starts (Some (word.Stable at)) inside = refl
  inside_plain starts (Some (word.Volatile at)) inside = absurd inside

  alike_plain : (w v : ℕ) → AreAlike w v → is_volatile w ≡ false → is_volatile v ≡ false
  alike_plain w v (inl same) plain = ap is_volatile (sym same) ∙ plain
  alike_plain w v (inr both) plain = both.1

  -- no field of what remains leads to an object of an area
  left_plain : (id : Id) (to i : ℕ) → address_of c.places id ≡ None → address_of (all c) id ≡ Some to → i < length (fields c.g id) → is_volatile (slice_index (seen_then c) (field_at to i)) ≡ false
  left_plain id to i none there within =
      let V = completed c.state c.places c.remaining (seen c) in
      let from = taken.is.from in
      let stands : address_of (c.places ++ future c.state (seen c) c.remaining) id ≡ Some to = ap (λ (ps : Places). address_of (c.places ++ ps) id) taken.future ∙ there in
      let object = completed_object taken.is id to stands in
      let has = address_of-Contains c.remaining id object.at (sym (address_of-append_right c.places c.remaining id none) ∙ object.put.stood) in
      let w = slice_index (seen c) (field_at object.at i) in
      let long : object.fields ≡ length (fields c.g id) =
      same_Some object.fields (length (fields c.g id)) (sym object.made.is ∙ ap (λ (ws : List ℕ). object_at ws to) taken.same ∙ stands_object can.stands id to there) in
      let inside = from.inside object.at has object.fields i object.made.was (omega arith) in
      let word : slice_index (seen_then c) (field_at to i) ≡ followed c.state (seen c) c.remaining w =
      ap (λ (ws : List ℕ). slice_index ws (field_at to i)) (sym taken.same) ∙ object.made.fields i (omega arith) in
      ap is_volatile word
      ∙ alike_plain w (followed c.state (seen c) c.remaining w) (alike_followed w (inside_leads (addresses c.places) from.starts (meaning w) inside)) (inside_plain from.starts (meaning w) inside)

  pub written_then : AreWritten (all c) c.g c.undo
  written_then id target at i there got none = elim (none_or_some (address_of c.places id)) [
    | inl out ↦
        let inside = slice_get_within (fields c.g id) i (Ref target) got in
        let sees = AllByRecursion-get (IsVisible (all c) c.t c.made) (fields c.g id) i (Ref target) (can.stands.visible id at there) got in
        let stood = stands_field can.stands id at i there inside ∙ ap (bits_of (place_of (all c) c.g)) (get_or_from_slice_get (fields c.g id) i (Ref target) Null got) in
        let volatile : is_volatile (slice_index (seen_then c) (field_at at i)) ≡ true =
        ap is_volatile stood ∙ ap refers_to_volatile (visible_meaning can.stands has_then (Ref target) sees ∙ ap Some (place_of-apart (all c) c.g target none)) in
        let plain = left_plain id at i out there inside in cc
    | inr old ↦
        let here : address_of c.places id ≡ Some at = old.1 ∙ sym (address_of-append_left c.places (future c.state c.words c.remaining) id old.0 old.1) ∙ there in
        can.written id target at i here got (not_some (address_of (c.places ++ c.remaining) target) (address_of (all c) target) (sym (all_same target)) none)
  ]
