-- The completed words after a promotion are those with the promoted objects after all others, relocated: what is promoted goes before what
-- remains.
use Rattle.std.proofs.Common.{◌≡◌, ℕ, ◌<◌, ◌+◌, inl, inr, List, ◌++◌, map, length, get_or, None, Some, is_some, refl, sym, ap, ◌∙◌, subst, arith}
use Rattle.std.specs.Prelude.{Contains, slice_index}
use Rattle.std.proofs.lemmas.List.{length-map}
use Rattle.std.proofs.lemmas.Option.{same_Some}
use Rattle.heap_words.specs.Header.{header}
use Rattle.heap_words.specs.declared.Word.TheVariants as word
use Rattle.heap_words.specs.Word.{bits, is_stable, meaning}
use Rattle.graph_model.specs.declared.id.Id.{Id}
use Rattle.object_layout.specs.Layout.{field_words, object_at}
use Rattle.object_layout.specs.Walk.{AreEndToEnd}
use Rattle.log_machine.specs.Machine.{field_at, owed}
use Rattle.graph_words.specs.Places.{IsOwn, Places, address_of, addresses, index_of}
use Rattle.graph_words.specs.Promotion.{Move, moved, moved_word, moves_to, promoted_places}
use Rattle.graph_words.proofs.Places.Addresses.{address_of-Contains, none_or_some}
use Rattle.graph_words.proofs.Places.Moved.{moved_word-moved, moved_word-plain}
use Rattle.graph_words.proofs.Places.Moves.{moved_to}
use Rattle.graph_words.proofs.Seal.Places.{address_of-append_left, address_of-append_right, address_of-promoted, addresses-promoted}
use Rattle.collection_words.specs.Completed.{IsMade, followed, future}
use Rattle.collection_words.specs.LaidOut.{MayLeadBack}
use Rattle.collection_words.specs.Relocated.{HasMoved, IsRelocatedObject, IsRelocatedWord}
use Rattle.collection_words.proofs.Copy.Laid.{inside_leads}
use Rattle.collection_words.proofs.Copy.Named.{RefersTo, current, followed_plain, forwarded, left, refers, refers_followed}
use Rattle.collection_words.proofs.Copy.Words.{kept_made}
use Rattle.collection_words.proofs.Laid.Completed.{completed_ends, completed_object}
use Rattle.collection_words.proofs.Laid.Followed.{followed_here}
use Rattle.collection_words.proofs.Laid.Old.{old_in_other, other_bounds}
use Rattle.collection_words.proofs.Laid.Sources.{all_places, left_object}
use Rattle.collection_words.proofs.Laid.Within.{start_within}
use Rattle.collection_words.proofs.Moves.Ends.{addresses-append}
use Rattle.collection_words.proofs.Moves.Sources.{put_same}
use Rattle.collection_words.proofs.Relocated.Writes.{IsRelocation}
use Rattle.seal_laws.proofs.Based.{based-before, based_ends, based_object, based_word, ends_below, length-based}
use Rattle.seal_laws.proofs.Laid.{kept_here, kept_left, kept_old, moved_leads, new_small, promoted_laid}
use Rattle.seal_laws.proofs.Promoting.{IsOwnWord, IsPromotedAt, IsPromoting, Promoting, all_behind, all_there, alls, behind, currents, fits_here, fits_there, here, moves_here, moves_there, need, next, none_placed, own_behind_all, placed_here, placed_there, promoted_at, same_objects, there, whole, whole_behind, whole_there, none_front, not_some}

-- Words.

-- a word refers to the same object after the promotion
still_refers : (p : Promoting) → IsPromoting p → (w : ℕ) (q : Id) → RefersTo p.s p.places p.remaining p.words w q → RefersTo (next p) (currents p) p.remaining (behind p) w q
still_refers p is w q (current at means stands) = current at means (address_of-append_left p.places (placed_here p) q at stands)
still_refers p is w q (forwarded old to means other forward stands) =
    let bounds = other_bounds p.s old other in
    forwarded old to means other (ap header (kept_old p is old bounds.0 bounds.1) ∙ forward) (address_of-append_left p.places (placed_here p) q to stands)
still_refers p is w q (left old means stands) = left old means stands

-- a word that may lead back is followed to where its object stands
old_word : (p : Promoting) → (is : IsPromoting p) → (w : ℕ) → MayLeadBack (addresses p.places) is.is.from.starts (meaning w)
    → IsRelocatedWord (all_there p) (all_behind p) (followed p.s p.words p.remaining w) (followed (next p) (behind p) p.remaining w)
old_word p is w may = elim (refers is.is is.own is.is.from w (meaning w) refl (old_in_other is.is) may) [
  | inl plain ↦
      let before = followed_plain p.s p.words p.remaining w plain in
      inl (ap is_stable before ∙ plain, followed_plain (next p) (behind p) p.remaining w plain ∙ sym before)
  | inr to ↦
      let before = refers_followed is.is is.own w to.0 to.1 in
      let after = refers_followed (promoted_laid p is) (own_behind_all p is) w to.0 (still_refers p is w to.0 to.1) in
      inr (record {
        id = to.0;
        at = before.to;
        to = after.to;
        moved = record { before = address_of-append_left (alls p) (placed_there p) to.0 before.to before.there; after = after.there };
        was = before.is;
        is = after.is;
      })
]

-- What is promoted.

-- it is none of the objects of the completed words
none_whole : (p : Promoting) → IsPromoting p → (id : Id) → IsOwn p.t p.made id → address_of (alls p) id ≡ None
none_whole p is id own =
    not_some (address_of (alls p) id) (address_of (p.places ++ p.remaining) id)
    (ap (λ (ps : Places). is_some (address_of ps id)) (all_places is.is.laid) ∙ put_same p.words (p.places ++ p.remaining) p.s.base id) (is.apart id own)

placed_at : (p : Promoting) → IsPromoting p → (address : ℕ) (id : Id) (new : ℕ) → IsOwn p.t p.made id → moved (moves_to p.area p.starts address) (index_of p.g id) ≡ Some new
    → address_of (promoted_places p.area (moves_to p.area p.starts address)) id ≡ Some new
placed_at p is address id new own goes = address_of-promoted p.area p.g p.t p.made p.starts address id is.each own ∙ goes

-- it has its place after all others
pub placed_behind : (p : Promoting) → IsPromoting p → (id : Id) (new : ℕ) → IsOwn p.t p.made id → moved (moves_there p) (index_of p.g id) ≡ Some new → address_of (all_there p) id ≡ Some new
placed_behind p is id new own goes = address_of-append_right (alls p) (placed_there p) id (none_whole p is id own) ∙ placed_at p is (there p) id new own goes

placed_current : (p : Promoting) → IsPromoting p → (id : Id) (new : ℕ) → IsOwn p.t p.made id → moved (moves_here p) (index_of p.g id) ≡ Some new → address_of (currents p) id ≡ Some new
placed_current p is id new own goes =
    address_of-append_right p.places (placed_here p) id (none_front p.places p.remaining id (is.apart id own)) ∙ placed_at p is (here p) id new own goes

-- or after the current ones
pub placed_before : (p : Promoting) → IsPromoting p → (id : Id) (new : ℕ) → IsOwn p.t p.made id → moved (moves_here p) (index_of p.g id) ≡ Some new → address_of (all_behind p) id ≡ Some new
placed_before p is id new own goes = address_of-append_left (currents p) (future (next p) (behind p) p.remaining) id new (placed_current p is id new own goes)

-- a reference to it is updated
pub new_led : (p : Promoting) → IsPromoting p → (at old new w v : ℕ) → Contains p.starts at → moved (moves_there p) at ≡ Some old → moved (moves_here p) at ≡ Some new → w ≡ bits (word.Stable old)
    → v ≡ bits (word.Stable new) → IsRelocatedWord (all_there p) (all_behind p) w v
new_led p is at old new w v has goes goes' was will =
    let one = is.each at has in
    inr (record {
      id = one.id;
      at = old;
      to = new;
      moved = record {
        before = placed_behind p is one.id old one.own (ap (moved (moves_there p)) one.index ∙ goes);
        after = placed_before p is one.id new one.own (ap (moved (moves_here p)) one.index ∙ goes');
      };
      was = was;
      is = will;
    })

-- a word of a promoted object is updated
new_word : (p : Promoting) → (is : IsPromoting p) → (w : ℕ) → IsOwnWord p.places p.starts w
    → IsRelocatedWord (all_there p) (all_behind p) (moved_word (moves_there p) w) (followed (next p) (behind p) p.remaining (moved_word (moves_here p) w))
new_word p is w (inl (plain, leads)) =
    let f' = followed (next p) (behind p) p.remaining in
    let stays = followed_here is.is.spaced is.is.laid p.words w leads in
    let led = subst (λ (x : ℕ). IsRelocatedWord (all_there p) (all_behind p) x (f' w)) stays (old_word p is w (inl leads)) in
    subst (λ (x : ℕ). IsRelocatedWord (all_there p) (all_behind p) x (f' (moved_word (moves_here p) w))) (sym (moved_word-plain (moves_there p) w plain))
    (subst (λ (x : ℕ). IsRelocatedWord (all_there p) (all_behind p) w (f' x)) (sym (moved_word-plain (moves_here p) w plain)) led)
new_word p is w (inr (at, means, has)) =
    let laid = promoted_laid p is in
    let old = moved_to p.area p.starts (there p) at has in
    let new = new_small p is at has in
    let stays = followed_here laid.spaced laid.laid (behind p) (moved_word (moves_here p) w) (moved_leads p is w (inr (at, means, has))) in
    new_led p is at old.0 new.0 (moved_word (moves_there p) w) (followed (next p) (behind p) p.remaining (moved_word (moves_here p) w)) has old.1.is new.1
    (moved_word-moved (moves_there p) w at old.0 means old.1.is) (stays ∙ moved_word-moved (moves_here p) w at new.0 means new.1)

-- Objects.

-- An object that is current or remains: it is as it was, and its fields may lead back.
record IsSource (p : Promoting) (starts : List ℕ) (at : ℕ) : Type 0 where
  fields : ℕ
  made : IsMade (λ w. w) p.words (behind p) at at fields
  back : (i : ℕ) → i < fields → MayLeadBack (addresses p.places) starts (meaning (slice_index p.words (field_at at i)))

source_of : (p : Promoting) → (is : IsPromoting p) → (id : Id) (at : ℕ) → address_of (p.places ++ p.remaining) id ≡ Some at → IsSource p is.is.from.starts at
source_of p is id at stood = elim (none_or_some (address_of p.places id)) [
  | inl none ↦
      let has = address_of-Contains p.remaining id at (sym (address_of-append_right p.places p.remaining id none) ∙ stood) in
      let object = left_object is.is.from at has in
      record {
        fields = object.fields;
        made = kept_left p is at object.fields has object.object;
        back = λ i below.
            inside_leads (addresses p.places) is.is.from.starts (meaning (slice_index p.words (field_at at i))) (is.is.from.inside at has object.fields i object.object below);
      }
  | inr old ↦
      let here : address_of p.places id ≡ Some at = old.1 ∙ sym (address_of-append_left p.places p.remaining id old.0 old.1) ∙ stood in
      let has = address_of-Contains p.places id at here in
      let object = start_within is.is.laid at has in
      record {
        fields = object.fields;
        made = kept_here p is at object.fields has object.object;
        back = λ i below. is.is.from.back at has object.fields i object.object below;
      }
]

-- it stands at the same address after the promotion
same_source : (p : Promoting) → IsPromoting p → (id : Id) (at to : ℕ) → address_of (p.places ++ p.remaining) id ≡ Some at → address_of (currents p ++ p.remaining) id ≡ Some to → at ≡ to
same_source p is id at to stood stands = elim (none_or_some (address_of p.places id)) [
  | inl none ↦
      let new = address_of-append_right p.places (placed_here p) id none ∙ none_placed p is (here p) id at stood in
      same_Some at to (sym stood ∙ address_of-append_right p.places p.remaining id none ∙ sym (address_of-append_right (currents p) p.remaining id new) ∙ stands)
  | inr old ↦
      same_Some at to (sym stood ∙ address_of-append_left p.places p.remaining id old.0 old.1
      ∙ sym (address_of-append_left (currents p) p.remaining id old.0 (address_of-append_left p.places (placed_here p) id old.0 old.1)) ∙ stands)
]

-- an object of the completed words stays when what is promoted goes after it
pub kept_whole : (p : Promoting) → IsPromoting p → (id : Id) (at n : ℕ) → address_of (alls p) id ≡ Some at → object_at (whole p) at ≡ Some n → IsMade (λ w. w) (whole p) (whole_there p) at at n
kept_whole p is id at n stands object =
    let lies = ends_below (whole p) p.s.base (addresses (alls p)) (there p) at (completed_ends is.is) (address_of-Contains (alls p) id at stands) in
    let same = same_Some lies.0 n (sym lies.1 ∙ object) in
    let below = lies.2 in
    kept_made (whole p) (whole_there p) at n object (length-based p.area p.starts (there p) (whole p))
    (λ j few. based-before p.area p.starts (there p) (whole p) (at + j) (omega arith))

old_object : (p : Promoting) → IsPromoting p → (id : Id) (at to : ℕ) → address_of (alls p) id ≡ Some at → address_of (all_behind p) id ≡ Some to
    → IsRelocatedObject (all_there p) (all_behind p) (whole_there p) (whole_behind p) at to
old_object p is id at to stood stands =
    let P = all_there p in
    let P' = all_behind p in
    let f = followed p.s p.words p.remaining in
    let f' = followed (next p) (behind p) p.remaining in
    let before = completed_object is.is id at stood in
    let after = completed_object (promoted_laid p is) id to stands in
    let one : before.at ≡ after.at = same_source p is id before.at after.at before.put.stood after.put.stood in
    let made : IsMade f' (behind p) (whole_behind p) before.at to after.fields = subst (λ (x : ℕ). IsMade f' (behind p) (whole_behind p) x to after.fields) (sym one) after.made in
    let source = source_of p is id before.at before.put.stood in
    let kept = kept_whole p is id at before.fields stood before.made.is in
    let long : source.fields ≡ before.fields = same_Some source.fields before.fields (sym source.made.was ∙ before.made.was) in
    let size : after.fields ≡ source.fields = same_Some after.fields source.fields (sym made.was ∙ source.made.is) in
    record {
      fields = before.fields;
      was = kept.is;
      is = made.is ∙ ap Some (size ∙ long);
      birth = made.birth ∙ source.made.birth ∙ sym (kept.birth ∙ before.made.birth);
      led = λ i below.
          let led = old_word p is (slice_index p.words (field_at before.at i)) (source.back i (omega arith)) in
          let was : slice_index (whole_there p) (field_at at i) ≡ f (slice_index p.words (field_at before.at i)) = kept.fields i below ∙ before.made.fields i below in
          let new : slice_index (whole_behind p) (field_at to i) ≡ f' (slice_index p.words (field_at before.at i)) = made.fields i (omega arith) ∙ ap f' (source.made.fields i (omega arith)) in
          subst (λ (x : ℕ). IsRelocatedWord P P' x (slice_index (whole_behind p) (field_at to i))) (sym was) (subst (IsRelocatedWord P P' (f (slice_index p.words (field_at before.at i)))) (sym new) led);
    }

new_object : (p : Promoting) → IsPromoting p → (id : Id) (at to : ℕ) → IsPromotedAt p (there p) id at → address_of (all_behind p) id ≡ Some to
    → IsRelocatedObject (all_there p) (all_behind p) (whole_there p) (whole_behind p) at to
new_object p is id at to one stands =
    let P = all_there p in
    let P' = all_behind p in
    let f' = followed (next p) (behind p) p.remaining in
    let index = index_of p.g id in
    let has = one.has in
    let ws = field_words p.area.words index in
    let goes = new_small p is index has in
    let new = goes.0 in
    let here_fits = fits_here p is in
    let there_fits = fits_there p is in
    let after = completed_object (promoted_laid p is) id to stands in
    let stood = address_of-append_left (currents p) p.remaining id new (placed_current p is id new one.own goes.1) in
    let same : after.at ≡ new = same_Some after.at new (sym after.put.stood ∙ stood) in
    let made : IsMade f' (behind p) (whole_behind p) new to after.fields = subst (λ (x : ℕ). IsMade f' (behind p) (whole_behind p) x to after.fields) same after.made in
    let before = based_object is.are (there p) (whole p) there_fits index at has one.goes in
    let now = based_object is.are (here p) p.words here_fits index new has goes.1 in
    let long = length-map ws (moved_word (moves_there p)) in
    let long' = length-map ws (moved_word (moves_here p)) in
    let size : after.fields ≡ length (map (moved_word (moves_here p)) ws) = same_Some after.fields (length (map (moved_word (moves_here p)) ws)) (sym made.was ∙ now.object) in
    record {
      fields = length ws;
      was = before.object ∙ ap Some long;
      is = made.is ∙ ap Some (size ∙ long');
      birth = made.birth ∙ now.birth_word ∙ sym before.birth_word;
      led = λ i below.
          let w = get_or ws i 0 in
          let led = new_word p is w (is.leads index i has below) in
          let was : slice_index (whole_there p) (field_at at i) ≡ moved_word (moves_there p) w = based_word is.are (there p) (whole p) there_fits index at i has one.goes below in
          let will : slice_index (whole_behind p) (field_at to i) ≡ f' (moved_word (moves_here p) w) =
          made.fields i (omega arith) ∙ ap f' (based_word is.are (here p) p.words here_fits index new i has goes.1 below) in
          subst (λ (x : ℕ). IsRelocatedWord P P' x (slice_index (whole_behind p) (field_at to i))) (sym was) (subst (IsRelocatedWord P P' (moved_word (moves_there p) w)) (sym will) led);
    }

promoted_object : (p : Promoting) → IsPromoting p → (id : Id) (at to : ℕ) → HasMoved (all_there p) (all_behind p) id at to
    → IsRelocatedObject (all_there p) (all_behind p) (whole_there p) (whole_behind p) at to
promoted_object p is id at to moves = elim (none_or_some (address_of (alls p) id)) [
  | inl none ↦
      let one = promoted_at p is (there p) id at (sym (address_of-append_right (alls p) (placed_there p) id none) ∙ moves.before) in
      new_object p is id at to one moves.after
  | inr old ↦
      let stood : address_of (alls p) id ≡ Some at = old.1 ∙ sym (address_of-append_left (alls p) (placed_there p) id old.0 old.1) ∙ moves.before in
      old_object p is id at to stood moves.after
]

-- All of them.

there_ends : (p : Promoting) → IsPromoting p → AreEndToEnd (whole_there p) p.s.base (addresses (all_there p)) (there p + need p)
there_ends p is =
    let starts : addresses (all_there p) ≡ addresses (alls p) ++ map (λ (m : Move). m.1) (moves_there p) =
    addresses-append (alls p) (placed_there p) ∙ ap (λ xs. addresses (alls p) ++ xs) (addresses-promoted p.area (moves_there p)) in
    subst (λ xs. AreEndToEnd (whole_there p) p.s.base xs (there p + need p)) (sym starts)
    (based_ends is.are (there p) (whole p) p.s.base (addresses (alls p)) (fits_there p is) (completed_ends is.is))

-- The objects of the completed words are relocated by a promotion, from end to end.
pub promotion_relocates : (p : Promoting) → IsPromoting p
    → IsRelocation (all_there p) (all_behind p) (whole_there p) (whole_behind p) p.s.base (there p + need p) p.s.base (p.s.base + ((next p).used + owed (next p)))
promotion_relocates p is = record {
  here = there_ends p is;
  there = completed_ends (promoted_laid p is);
  is = record { same = same_objects p; each = promoted_object p is };
}
