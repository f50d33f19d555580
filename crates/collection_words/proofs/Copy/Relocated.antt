-- The completed words after a copy are those before, with their objects relocated.
use Rattle.std.proofs.Common.{◌≡◌, ◌≢◌, ℕ, ◌+◌, ◌<◌, ◌≤◌, inl, inr, List, [], ◌∷◌, ◌++◌, Some, is_some, refl, sym, ap, ◌∙◌, subst, arith}
use Rattle.std.specs.Prelude.{slice_index}
use Rattle.std.specs.List.{AllByRecursion}
use Rattle.std.proofs.lemmas.Option.{same_Some}
use Rattle.heap_words.specs.declared.Header.TheVariants.{Forward}
use Rattle.heap_words.specs.declared.Word.TheVariants as word
use Rattle.heap_words.specs.Header.{header}
use Rattle.heap_words.specs.Word.{is_stable, meaning}
use Rattle.heap_words.proofs.HeaderLaws.{header-header_bits}
use Rattle.heap_spaces.specs.Collection.{Collection}
use Rattle.graph_model.proofs.Whole.Graph.{same_or_other}
use Rattle.graph_model.specs.declared.id.Id.{Id}
use Rattle.object_layout.proofs.LayoutLaws.{object_header}
use Rattle.log_machine.specs.Collecting.{other_base}
use Rattle.log_machine.specs.Machine.{State, field_at, owed, words_in}
use Rattle.graph_words.specs.Places.{Places, address_of, addresses}
use Rattle.graph_words.proofs.Places.Addresses.{address_of-Contains, address_of-head, none_or_some, placed_as}
use Rattle.graph_words.proofs.Seal.Places.{address_of-append_left, address_of-append_right}
use Rattle.collection_words.specs.Completed.{IsMade, completed, followed, future, without}
use Rattle.collection_words.specs.Copying.{words_after_copy, with_place}
use Rattle.collection_words.specs.LaidOut.{MayLeadBack}
use Rattle.collection_words.specs.Relocated.{HasMoved, HaveSameIds, IsRelocatedObject, IsRelocatedWord}
use Rattle.collection_words.specs.Placed.{HaveOwnNames}
use Rattle.collection_words.proofs.Copy.Ascending.{only_at}
use Rattle.collection_words.proofs.Copy.Laid.{copied_laid, copied_state, inside_leads}
use Rattle.collection_words.proofs.Copy.Moved.{behind_there, gone, gone_other, gone_own, gone_there, without_other}
use Rattle.collection_words.proofs.Copy.Named.{RefersTo, apart_of, current, followed_plain, forwarded, left, left_ascend, refers, refers_followed}
use Rattle.collection_words.proofs.Copy.Words.{IsCopying, copied_forward, copied_here, copied_left, copied_made, copied_old, copy_room}
use Rattle.collection_words.proofs.Laid.Completed.{completed_ends, completed_object}
use Rattle.collection_words.proofs.Laid.Old.{old_in_other, other_bounds}
use Rattle.collection_words.proofs.Laid.Sources.{all_places, left_object}
use Rattle.collection_words.proofs.Laid.Within.{start_within}
use Rattle.collection_words.proofs.Moves.Sources.{put_same}
use Rattle.collection_words.proofs.Relocated.Writes.{IsRelocation}

-- the object that is copied alone stands where it stood
pub copying_only : {s : State} {k : Collection} {places remaining : Places} {words : List ℕ} {id : Id} {from : ℕ} → IsCopying s k places remaining words id from → AllByRecursion (λ p. p.1 ≡ from → p.0 ≡ id) remaining
copying_only {s} {remaining = remaining} {id = id} {from = from} copying = only_at remaining (other_base s) id from (left_ascend copying.is) copying.left

-- names are their own after the copy
pub copied_own : {s : State} {k : Collection} {places remaining : Places} {words : List ℕ} {id : Id} {from : ℕ} → IsCopying s k places remaining words id from
    → HaveOwnNames (with_place s places id ++ without remaining from)
copied_own {s} {places = places} {remaining = remaining} {id = id} {from = from} copying = gone_own places remaining id from (s.base + s.used) copying.own (copying_only copying) copying.left

-- Words.

current_new : {s : State} {k : Collection} {places remaining : Places} {words : List ℕ} {id : Id} {from : ℕ} → IsCopying s k places remaining words id from
    → address_of (with_place s places id) id ≡ Some (s.base + s.used)
current_new {s} {places = places} {remaining = remaining} {id = id} {from = from} copying =
    address_of-append_right places ((id, s.base + s.used) ∷ []) id (apart_of places remaining id from copying.own copying.left) ∙ address_of-head (id, s.base + s.used) []

forward_new : {s : State} {k : Collection} {places remaining : Places} {words : List ℕ} {id : Id} {from : ℕ} → IsCopying s k places remaining words id from → words_in s.pages ≤ 2097152
    → header (slice_index (words_after_copy s words from) from) ≡ Some (Forward (s.base + s.used))
forward_new {s} {words = words} copying limit =
    let room = copy_room copying in
    let fits = room.fits in
    let long = copying.is.long in
    let small : s.base + s.used < 2097152 = omega arith in
    ap header (copied_forward copying room) ∙ header-header_bits (Forward (s.base + s.used)) small

-- a word refers to the same object after the copy
copied_refers : {s : State} {k : Collection} {places remaining : Places} {words : List ℕ} {id : Id} {from : ℕ} → IsCopying s k places remaining words id from → words_in s.pages ≤ 2097152 → (w : ℕ) (q : Id)
    → RefersTo s places remaining words w q → RefersTo (copied_state s k words from) (with_place s places id) (without remaining from) (words_after_copy s words from) w q
copied_refers {s} {places = places} {id = id} copying limit w q (current at means there) = current at means (address_of-append_left places ((id, s.base + s.used) ∷ []) q at there)
copied_refers {s} {places = places} {words = words} {id = id} {from = from} copying limit w q (forwarded old to means other forward there) =
    let room = copy_room copying in
    let bounds = other_bounds s old other in
    let apart : old ≢ from = λ same. let clash = sym forward ∙ ap (λ (x : ℕ). header (slice_index words x)) same ∙ (object_header words from room.fields room.object).0 in cc in
    forwarded old to means other (ap header (copied_old copying room old bounds.0 bounds.1 apart) ∙ forward) (address_of-append_left places ((id, s.base + s.used) ∷ []) q to there)
copied_refers {s} {k} {places} {remaining} {words} {id} {from} copying limit w q (left old means there) = elim (same_or_other q id) [
  | inl same ↦
      let here : old ≡ from = same_Some old from (sym there ∙ ap (address_of remaining) same ∙ copying.left) in
      let start = (left_object copying.is.from from (address_of-Contains remaining id from copying.left)).start in
      forwarded from (s.base + s.used) (means ∙ ap (λ (x : ℕ). Some (word.Stable x)) here) (old_in_other copying.is from start) (forward_new copying limit) (ap (address_of (with_place s places id)) same ∙ current_new copying)
  | inr other ↦ left old means (without_other remaining from id q (copying_only copying) other ∙ there)
]

-- and is followed to where that stands
copied_word : {s : State} {k : Collection} {places remaining : Places} {words : List ℕ} {id : Id} {from : ℕ} (copying : IsCopying s k places remaining words id from) → words_in s.pages ≤ 2097152 → (w : ℕ)
    → MayLeadBack (addresses places) copying.is.from.starts (meaning w)
    → IsRelocatedWord (places ++ future s words remaining) (with_place s places id ++ future (copied_state s k words from) (words_after_copy s words from) (without remaining from))
    (followed s words remaining w) (followed (copied_state s k words from) (words_after_copy s words from) (without remaining from) w)
copied_word {s} {k} {places} {remaining} {words} {id} {from} copying limit w may =
    let n = copied_state s k words from in
    let others = words_after_copy s words from in
    elim (refers copying.is copying.own copying.is.from w (meaning w) refl (old_in_other copying.is) may) [
      | inl plain ↦
          let before = followed_plain s words remaining w plain in
          inl (ap is_stable before ∙ plain, followed_plain n others (without remaining from) w plain ∙ sym before)
      | inr to ↦
          let before = refers_followed copying.is copying.own w to.0 to.1 in
          let after = refers_followed (copied_laid copying limit) (copied_own copying) w to.0 (copied_refers copying limit w to.0 to.1) in
          inr (record { id = to.0; at = before.to; to = after.to; moved = record { before = before.there; after = after.there }; was = before.is; is = after.is })
    ]

-- Objects.

-- An object that is where it was, or copied: what its fields may lead to.
record IsSource (s : State) (k : Collection) (places remaining : Places) (words others starts : List ℕ) (at to : ℕ) : Type 0 where
  fields : ℕ
  made : IsMade (λ w. w) words others at to fields
  back : (i : ℕ) → i < fields → MayLeadBack (addresses places) starts (meaning (slice_index words (field_at at i)))

source_other : {s : State} {k : Collection} {places remaining : Places} {words : List ℕ} {id : Id} {from : ℕ} (copying : IsCopying s k places remaining words id from) (q : Id) (at : ℕ) → q ≢ id
    → address_of (places ++ remaining) q ≡ Some at → IsSource s k places remaining words (words_after_copy s words from) copying.is.from.starts at at
source_other {s} {k} {places} {remaining} {words} {id} {from} copying q at other stood =
    let room = copy_room copying in
    let is = copying.is in
    elim (none_or_some (address_of places q)) [
      | inl none ↦
          let behind : address_of remaining q ≡ Some at = sym (address_of-append_right places remaining q none) ∙ stood in
          let has = address_of-Contains remaining q at behind in
          let object = left_object is.from at has in
          let apart : at ≢ from = λ same. other (placed_as (λ p. p.1 ≡ from → p.0 ≡ id) remaining q at (copying_only copying) behind same) in
          record {
            fields = object.fields;
            made = copied_left copying room at object.fields has apart object.object;
            back = λ i below. inside_leads (addresses places) is.from.starts (meaning (slice_index words (field_at at i))) (is.from.inside at has object.fields i object.object below);
          }
      | inr there ↦
          let here : address_of places q ≡ Some at = there.1 ∙ sym (address_of-append_left places remaining q there.0 there.1) ∙ stood in
          let has = address_of-Contains places q at here in
          let object = start_within is.laid at has in
          record {
            fields = object.fields;
            made = copied_here copying room at object.fields has object.object;
            back = λ i below. is.from.back at has object.fields i object.object below;
          }
    ]

source_new : {s : State} {k : Collection} {places remaining : Places} {words : List ℕ} {id : Id} {from : ℕ} (copying : IsCopying s k places remaining words id from)
    → IsSource s k places remaining words (words_after_copy s words from) copying.is.from.starts from (s.base + s.used)
source_new {s} {k} {places} {remaining} {words} {id} {from} copying =
    let room = copy_room copying in
    record {
      fields = room.fields;
      made = copied_made copying room;
      back = λ i below. inside_leads (addresses places) copying.is.from.starts (meaning (slice_index words (field_at from i)))
          (copying.is.from.inside from (address_of-Contains remaining id from copying.left) room.fields i room.object below);
    }

source_moved : {s : State} {k : Collection} {places remaining : Places} {words : List ℕ} {id : Id} {from : ℕ} (copying : IsCopying s k places remaining words id from) (q : Id) (at to : ℕ)
    → address_of (places ++ remaining) q ≡ Some at → address_of (with_place s places id ++ without remaining from) q ≡ Some to
    → IsSource s k places remaining words (words_after_copy s words from) copying.is.from.starts at to
source_moved {s} {k} {places} {remaining} {words} {id} {from} copying q at to stood stands =
    let others = words_after_copy s words from in
    let starts = copying.is.from.starts in
    elim (same_or_other q id) [
      | inl same ↦
          let here : from ≡ at = same_Some from at (sym (behind_there places remaining id from copying.own copying.left) ∙ ap (address_of (places ++ remaining)) (sym same) ∙ stood) in
          let there : s.base + s.used ≡ to =
          same_Some (s.base + s.used) to (sym (gone_there places remaining id from (s.base + s.used) copying.own copying.left) ∙ ap (address_of (gone places remaining id from (s.base + s.used))) (sym same) ∙ stands) in
          subst (IsSource s k places remaining words others starts at) there (subst (λ (x : ℕ). IsSource s k places remaining words others starts x (s.base + s.used)) here (source_new copying))
      | inr other ↦
          let there : at ≡ to = same_Some at to (sym stood ∙ sym (gone_other places remaining id from (s.base + s.used) q (copying_only copying) other) ∙ stands) in
          subst (IsSource s k places remaining words others starts at) there (source_other copying q at other stood)
    ]

copied_object : {s : State} {k : Collection} {places remaining : Places} {words : List ℕ} {id : Id} {from : ℕ} (copying : IsCopying s k places remaining words id from) → words_in s.pages ≤ 2097152 → (q : Id) (at to : ℕ)
    → HasMoved (places ++ future s words remaining) (with_place s places id ++ future (copied_state s k words from) (words_after_copy s words from) (without remaining from)) q at to
    → IsRelocatedObject (places ++ future s words remaining) (with_place s places id ++ future (copied_state s k words from) (words_after_copy s words from) (without remaining from))
    (completed s places remaining words) (completed (copied_state s k words from) (with_place s places id) (without remaining from) (words_after_copy s words from)) at to
copied_object {s} {k} {places} {remaining} {words} {id} {from} copying limit q at to moved =
    let n = copied_state s k words from in
    let others = words_after_copy s words from in
    let P = places ++ future s words remaining in
    let P' = with_place s places id ++ future n others (without remaining from) in
    let V = completed s places remaining words in
    let V' = completed n (with_place s places id) (without remaining from) others in
    let f' = followed n others (without remaining from) in
    let before = completed_object copying.is q at moved.before in
    let after = completed_object (copied_laid copying limit) q to moved.after in
    let source = source_moved copying q before.at after.at before.put.stood after.put.stood in
    let long : source.fields ≡ before.fields = same_Some source.fields before.fields (sym source.made.was ∙ before.made.was) in
    let size : after.fields ≡ source.fields = same_Some after.fields source.fields (sym after.made.was ∙ source.made.is) in
    record {
      fields = before.fields;
      was = before.made.is;
      is = after.made.is ∙ ap Some (size ∙ long);
      birth = after.made.birth ∙ source.made.birth ∙ sym before.made.birth;
      led = λ i below.
          let led = copied_word copying limit (slice_index words (field_at before.at i)) (source.back i (omega arith)) in
          let new : slice_index V' (field_at to i) ≡ f' (slice_index words (field_at before.at i)) = after.made.fields i (omega arith) ∙ ap f' (source.made.fields i (omega arith)) in
          subst (λ (x : ℕ). IsRelocatedWord P P' x (slice_index V' (field_at to i))) (sym (before.made.fields i below)) (subst (IsRelocatedWord P P' (followed s words remaining (slice_index words (field_at before.at i)))) (sym new) led);
    }

copied_same : {s : State} {k : Collection} {places remaining : Places} {words : List ℕ} {id : Id} {from : ℕ} (copying : IsCopying s k places remaining words id from) → words_in s.pages ≤ 2097152
    → HaveSameIds (places ++ future s words remaining) (with_place s places id ++ future (copied_state s k words from) (words_after_copy s words from) (without remaining from))
copied_same {s} {k} {places} {remaining} {words} {id} {from} copying limit q =
    let others = words_after_copy s words from in
    let to = s.base + s.used in
    let all : is_some (address_of (places ++ remaining) q) ≡ is_some (address_of (gone places remaining id from to) q) = elim (same_or_other q id) [
      | inl same ↦
          ap (λ (x : Id). is_some (address_of (places ++ remaining) x)) same
          ∙ ap is_some (behind_there places remaining id from copying.own copying.left)
          ∙ sym (ap is_some (gone_there places remaining id from to copying.own copying.left))
          ∙ ap (λ (x : Id). is_some (address_of (gone places remaining id from to) x)) (sym same)
      | inr other ↦ ap is_some (sym (gone_other places remaining id from to q (copying_only copying) other))
    ] in
    ap (λ (ps : Places). is_some (address_of ps q)) (all_places copying.is.laid)
    ∙ put_same words (places ++ remaining) s.base q
    ∙ all
    ∙ sym (put_same others (gone places remaining id from to) s.base q)
    ∙ sym (ap (λ (ps : Places). is_some (address_of ps q)) (all_places (copied_laid copying limit).laid))

-- The objects of the completed words are relocated by a copy, from end to end.
pub copy_relocates : {s : State} {k : Collection} {places remaining : Places} {words : List ℕ} {id : Id} {from : ℕ} (copying : IsCopying s k places remaining words id from) → words_in s.pages ≤ 2097152
    → IsRelocation (places ++ future s words remaining) (with_place s places id ++ future (copied_state s k words from) (words_after_copy s words from) (without remaining from))
    (completed s places remaining words) (completed (copied_state s k words from) (with_place s places id) (without remaining from) (words_after_copy s words from))
    s.base (s.base + (s.used + owed s)) s.base (s.base + ((copied_state s k words from).used + owed (copied_state s k words from)))
copy_relocates copying limit = record {
  here = completed_ends copying.is;
  there = completed_ends (copied_laid copying limit);
  is = record { same = copied_same copying limit; each = copied_object copying limit };
}
