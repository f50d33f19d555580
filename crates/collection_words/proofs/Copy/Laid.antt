-- The words after a copy are laid out.
use Rattle.std.proofs.Common.{◌≡◌, ◌≢◌, ◌⊎◌, ℕ, ◌+◌, ◌<◌, ◌≤◌, ◌&&◌, inl, inr, Bool, true, false, not, List, [], ◌∷◌, ◌++◌, length, Option, None, Some, refl, sym, ap, ◌∙◌, subst, arith}
use Rattle.std.specs.Prelude.{Contains, filter, slice_index, if◌then◌else◌}
use Rattle.std.specs.FinSet.{contains, insert}
use Rattle.std.proofs.lemmas.Bool.{and_from, cases_order, eq-eqb, le-leb, ne_eqb}
use Rattle.std.proofs.lemmas.List.Elements.{Contains-append_cases, Contains-append_left, Contains-append_right}
use Rattle.std.proofs.lemmas.Option.{same_Some}
use Rattle.heap_words.specs.declared.Header.TheVariants.{Forward}
use Rattle.heap_words.specs.declared.Word.{Word}
use Rattle.heap_words.specs.declared.Word.TheVariants as word
use Rattle.heap_words.specs.Header.{header}
use Rattle.heap_words.specs.Word.{meaning}
use Rattle.heap_words.proofs.HeaderLaws.{header-header_bits}
use Rattle.heap_spaces.specs.Collection.{Collection, owed_by}
use Rattle.graph_model.specs.declared.id.Id.{Id}
use Rattle.object_layout.specs.Layout.{led, object_at}
use Rattle.object_layout.specs.Walk.{AreEndToEnd, IsFilled, IsInside}
use Rattle.object_layout.proofs.ObjectLaws.{end_to_end_push}
use Rattle.object_layout.proofs.WalkLaws.{Contains-cases, Contains-head, Contains-none, Contains-rest}
use Rattle.log_machine.specs.Collecting.{can_hold, can_move, copied_while, copy_after, other_base, with_copy, with_moved}
use Rattle.log_machine.specs.Machine.{State, field_at, owed, space_words, words_in}
use Rattle.log_machine.specs.Sound.{IsSpaced}
use Rattle.graph_words.specs.Places.{Places, addresses}
use Rattle.graph_words.proofs.Places.Addresses.{address_of-Contains}
use Rattle.collection_words.specs.Completed.{IsMade, without}
use Rattle.collection_words.specs.Copying.{words_after_copy, next_copy, words_to_copy, with_place}
use Rattle.collection_words.specs.LaidOut.{StandsOrForwards, IsFromSpace, LeadsHere, MayLeadBack, is_gray_field, old_length}
use Rattle.collection_words.proofs.Copy.Ascending.{addresses_without, filter_twice, other_than}
use Rattle.collection_words.proofs.Copy.Words.{CopyRoom, IsCopying, copied_forward, copied_here, copied_left, copied_made, copied_old, copy_room, length-copied}
use Rattle.collection_words.proofs.Laid.Filled.{filled_by, filling}
use Rattle.collection_words.proofs.Laid.Old.{collection_within, old_in_other, old_length-object, old_within, other_bounds}
use Rattle.collection_words.proofs.Laid.Sources.{IsCollecting, left_object}
use Rattle.collection_words.proofs.Laid.Within.{start_within}
use Rattle.collection_words.proofs.Laid.Write.{old_ends_same, unmoved_left}
use Rattle.collection_words.proofs.Moves.Ends.{addresses-append, taken_object, taken_same}
use Rattle.collection_words.proofs.Steps.Addresses.{contains-new, contains-other}
use Rattle.stability_tracker.proofs.ListLaws.{Contains-from_filter}

-- the collection and the state after the copy of an object
abbrev pub copied_collection : State → Collection → List ℕ → ℕ → Collection
copied_collection s k words from = with_moved k (next_copy s words from)

abbrev pub copied_state : State → Collection → List ℕ → ℕ → State
copied_state s k words from = with_copy s k (next_copy s words from)

-- The row.

-- The copy can follow.
pub copy_row : {s : State} {k : Collection} {places remaining : Places} {words : List ℕ} {id : Id} {from : ℕ} → IsCopying s k places remaining words id from
    → copy_after s (next_copy s words from) ≡ Some (copied_state s k words from)
copy_row {s} {k} {places} {remaining} {words} {id} {from} copying =
    let room = copy_room copying in
    let is = copying.is in
    let size = room.size in
    let left = left_object is.from from (address_of-Contains remaining id from copying.left) in
    let lies = old_within words (other_base s) is.from.starts (other_base s + k.used) from is.from.chain left.start in
    let same = same_Some lies.fields room.fields (sym lies.long ∙ old_length-object words from room.fields room.object) in
    let ends = lies.below in
    let sum = is.from.sum in
    let rest = room.rest in
    let free = room.room in
    let long = length (words_to_copy words from) in
    let moves : can_move s k from long ≡ true =
    and_from _ _
    (and_from _ _ (and_from _ _ (le-leb 2 long (omega arith)) (and_from _ _ (le-leb (other_base s) from room.above) (le-leb (from + long) (other_base s + k.used) (omega arith))))
    (le-leb (k.copied + long) k.used (omega arith)))
    (ap not left.unmoved) in
    let holds : can_hold s (s.base + s.used) long ≡ true = and_from _ _ (eq-eqb (s.base + s.used) (s.base + s.used) refl) (le-leb (s.used + long) (space_words s.pages) (omega arith)) in
    ap (copied_while s (next_copy s words from)) is.run
    ∙ ap (λ b. if b then Some (copied_state s k words from) else None) (and_from _ _ moves holds)

-- Its spaces.

copied_spaced : {s : State} {k : Collection} {places remaining : Places} {words : List ℕ} {id : Id} {from : ℕ} → IsCopying s k places remaining words id from → IsSpaced (copied_state s k words from)
copied_spaced {s} {k} copying =
    let room = copy_room copying in
    let size = room.size in
    let rest = room.rest in
    let sum = copying.is.from.sum in
    let space = copying.is.spaced.room in
    let owes = ap owed_by copying.is.run in
    record { first = copying.is.spaced.first; room = omega arith; within = record { copied = omega arith; used = (collection_within copying.is).used } }

-- as many words are used and owed as before
pub copied_total : {s : State} {k : Collection} {places remaining : Places} {words : List ℕ} {id : Id} {from : ℕ} → IsCopying s k places remaining words id from
    → (copied_state s k words from).used + owed (copied_state s k words from) ≡ s.used + owed s
copied_total {s} {k} copying =
    let room = copy_room copying in
    let size = room.size in
    let rest = room.rest in
    let sum = copying.is.from.sum in
    let owes = ap owed_by copying.is.run in omega arith

-- What is current.

ends_kept : (words others : List ℕ) (from : ℕ) (starts : List ℕ) (end : ℕ) → ((at n : ℕ) → Contains starts at → object_at words at ≡ Some n → object_at others at ≡ Some n) → AreEndToEnd words from starts end
    → AreEndToEnd others from starts end
ends_kept words others from [] end each ends = ends
ends_kept words others from (a ∷ rest) end each (n, same, object, more) =
    (n, same, each a n (Contains-head a rest) object, ends_kept words others (a + 2 + n) rest end (λ at m has. each at m (Contains-rest a rest at has)) more)

-- an address of the places after the copy is one from before, or the copy's
pub place_cases : (s : State) (places : Places) (id : Id) (at : ℕ) → Contains (addresses (with_place s places id)) at → Contains (addresses places) at ⊎ (at ≡ s.base + s.used)
place_cases s places id at has = elim (Contains-append_cases (addresses places) ((s.base + s.used) ∷ []) at (subst (λ xs. Contains xs at) (addresses-append places ((id, s.base + s.used) ∷ [])) has)) [
  | inl here ↦ inl here
  | inr last ↦ elim (Contains-cases (s.base + s.used) [] at last) [ inl same ↦ inr (sym same) | inr none ↦ absurd (Contains-none at none) ]
]

pub place_before : (s : State) (places : Places) (id : Id) (at : ℕ) → Contains (addresses places) at → Contains (addresses (with_place s places id)) at
place_before s places id at has =
    subst (λ xs. Contains xs at) (sym (addresses-append places ((id, s.base + s.used) ∷ []))) (Contains-append_left (addresses places) ((s.base + s.used) ∷ []) at has)

pub place_new : (s : State) (places : Places) (id : Id) → Contains (addresses (with_place s places id)) (s.base + s.used)
place_new s places id =
    subst (λ xs. Contains xs (s.base + s.used)) (sym (addresses-append places ((id, s.base + s.used) ∷ [])))
    (Contains-append_right (addresses places) ((s.base + s.used) ∷ []) (s.base + s.used) (Contains-head (s.base + s.used) []))

copied_filled : {s : State} {k : Collection} {places remaining : Places} {words : List ℕ} {id : Id} {from : ℕ} → IsCopying s k places remaining words id from
    → IsFilled (words_after_copy s words from) s.base (copied_state s k words from).used (addresses (with_place s places id))
copied_filled {s} {k} {places} {remaining} {words} {id} {from} copying =
    let room = copy_room copying in
    let others = words_after_copy s words from in
    let size = room.size in
    let all = filling words s.base s.used (addresses places) copying.is.laid.filled in
    let root = copied_here copying room s.base 4 all.first all.root in
    let ends = end_to_end_push others s.base (addresses places) (s.base + s.used) room.fields
    (ends_kept words others s.base (addresses places) (s.base + s.used) (λ at n has object. (copied_here copying room at n has object).is) all.ends) (copied_made copying room).is in
    let end : s.base + s.used + 2 + room.fields ≡ s.base + (copied_state s k words from).used = omega arith in
    filled_by others s.base (copied_state s k words from).used (addresses (with_place s places id)) (record {
      ends = subst (λ xs. AreEndToEnd others s.base xs (s.base + (copied_state s k words from).used)) (sym (addresses-append places ((id, s.base + s.used) ∷ [])))
          (subst (AreEndToEnd others s.base (addresses places ++ (s.base + s.used) ∷ [])) end ends);
      first = place_before s places id s.base all.first;
      root = root.is;
      birth = root.birth ∙ all.birth;
    })

-- What leads where.

leads_more : (s : State) (places : Places) (id : Id) (meant : Option Word) → LeadsHere (addresses places) meant → LeadsHere (addresses (with_place s places id)) meant
leads_more s places id None here = absurd here
leads_more s places id (Some word.Null) here = tt
leads_more s places id (Some (word.Int n)) here = tt
leads_more s places id (Some (word.Volatile index)) here = tt
leads_more s places id (Some (word.Stable at)) here = place_before s places id at here

may_lead_more : (s : State) (places : Places) (id : Id) (starts : List ℕ) (meant : Option Word) → MayLeadBack (addresses places) starts meant → MayLeadBack (addresses (with_place s places id)) starts meant
may_lead_more s places id starts meant (inl here) = inl (leads_more s places id meant here)
may_lead_more s places id starts meant (inr back) = inr back

-- what leads into the from-space may lead back
pub inside_leads : (starts old_starts : List ℕ) (meant : Option Word) → IsInside old_starts meant → MayLeadBack starts old_starts meant
inside_leads starts old_starts None inside = absurd inside
inside_leads starts old_starts (Some word.Null) inside = inl tt
inside_leads starts old_starts (Some (word.Int n)) inside = inl tt
inside_leads starts old_starts (Some (word.Volatile index)) inside = absurd inside
inside_leads starts old_starts (Some (word.Stable at)) inside = inr (at, refl, inside)

-- The from-space.

old_other : {s : State} {k : Collection} {places remaining : Places} {words : List ℕ} {id : Id} {from : ℕ} (copying : IsCopying s k places remaining words id from) (room : CopyRoom s k places remaining words from)
    (at : ℕ) → Contains copying.is.from.starts at → at ≢ from → (b : Bool) → contains k.moved at ≡ b → StandsOrForwards words (addresses places) at b
    → StandsOrForwards (words_after_copy s words from) (addresses (with_place s places id)) at b × (old_length (words_after_copy s words from) at ≡ old_length words at)
old_other {s} {k} {places} {remaining} {words} {id} {from} copying room at has other true moved (to, forward, here) =
    let others = words_after_copy s words from in
    let bounds = other_bounds s at (old_in_other copying.is at has) in
    let head = ap header (copied_old copying room at bounds.0 bounds.1 other) ∙ forward in
    let there = start_within copying.is.laid to here in
    let kept = copied_here copying room to there.fields here there.object in
    let was : old_length words at ≡ Some there.fields = ap (λ h. object_at words (led at h)) forward ∙ there.object in
    let is : old_length others at ≡ Some there.fields = ap (λ h. object_at others (led at h)) head ∙ kept.is in
    ((to, head, place_before s places id to here), is ∙ sym was)
old_other {s} {k} {places} {remaining} {words} {id} {from} copying room at has other false unmoved (n, object) =
    let others = words_after_copy s words from in
    let kept = copied_left copying room at n (unmoved_left copying.is.from at has unmoved) other object in
    ((n, kept.is), old_length-object others at n kept.is ∙ sym (old_length-object words at n object))

old_gone : {s : State} {k : Collection} {places remaining : Places} {words : List ℕ} {id : Id} {from : ℕ} (copying : IsCopying s k places remaining words id from) (room : CopyRoom s k places remaining words from)
    → s.base + s.used < 2097152
    → StandsOrForwards (words_after_copy s words from) (addresses (with_place s places id)) from true × (old_length (words_after_copy s words from) from ≡ old_length words from)
old_gone {s} {k} {places} {remaining} {words} {id} {from} copying room small =
    let others = words_after_copy s words from in
    let to = s.base + s.used in
    let head = ap header (copied_forward copying room) ∙ header-header_bits (Forward to) small in
    let is : old_length others from ≡ Some room.fields = ap (λ h. object_at others (led from h)) head ∙ (copied_made copying room).is in
    ((to, head, place_new s places id), is ∙ sym (old_length-object words from room.fields room.object))

pub old_each : {s : State} {k : Collection} {places remaining : Places} {words : List ℕ} {id : Id} {from : ℕ} (copying : IsCopying s k places remaining words id from) (room : CopyRoom s k places remaining words from)
    → s.base + s.used < 2097152 → (at : ℕ) → Contains copying.is.from.starts at
    → StandsOrForwards (words_after_copy s words from) (addresses (with_place s places id)) at (contains (insert k.moved from) at) × (old_length (words_after_copy s words from) at ≡ old_length words at)
old_each {s} {k} {places} {remaining} {words} {id} {from} copying room small at has =
    let others = words_after_copy s words from in
    let Both : ℕ → Bool → Type 0 = λ x b. StandsOrForwards others (addresses (with_place s places id)) x b × (old_length others x ≡ old_length words x) in
    elim (cases_order at from) [
      | inl same ↦ subst (λ (x : ℕ). Both x (contains (insert k.moved from) x)) (sym same) (subst (Both from) (sym (contains-new k.moved from)) (old_gone copying room small))
      | inr beside ↦
          let other : at ≢ from = λ same. elim beside [ inl less ↦ omega arith | inr more ↦ omega arith ] in
          subst (Both at) (sym (contains-other k.moved from at other)) (old_other copying room at has other (contains k.moved at) refl (copying.is.from.forwarded at has))
    ]

left_test : (k : Collection) (from at : ℕ) → (other_than from at && not (contains k.moved at)) ≡ not (contains (insert k.moved from) at)
left_test k from at = elim (cases_order at from) [
  | inl same ↦
      ap (λ b. not b && not (contains k.moved at)) (eq-eqb at from same)
      ∙ sym (ap not (ap (λ (x : ℕ). contains (insert k.moved from) x) same ∙ contains-new k.moved from))
  | inr beside ↦
      let other : at ≢ from = λ same. elim beside [ inl less ↦ omega arith | inr more ↦ omega arith ] in
      ap (λ b. not b && not (contains k.moved at)) (ne_eqb at from other) ∙ sym (ap not (contains-other k.moved from at other))
]

-- what remains then remained, and is another object
pub still_left : (remaining : Places) (from at : ℕ) → Contains (addresses (without remaining from)) at → Contains (addresses remaining) at × (at ≢ from)
still_left remaining from at has =
    let kept = Contains-from_filter (other_than from) (addresses remaining) at (subst (λ xs. Contains xs at) (addresses_without remaining from) has) in
    (kept.0, λ same. let clash = sym kept.1 ∙ ap not (eq-eqb at from same) in cc)

gray_before : (k : Collection) (to at : ℕ) → contains (insert k.gray to) at ≡ false → (at ≢ to) × (contains k.gray at ≡ false)
gray_before k to at black =
    let other : at ≢ to = λ same. let clash = sym black ∙ ap (λ (x : ℕ). contains (insert k.gray to) x) same ∙ contains-new k.gray to in cc in
    (other, sym (contains-other k.gray to at other) ∙ black)

-- the words of an object that stands where one stood, which was copied there or not
made_words : (P : ℕ → Type 0) (words others : List ℕ) (at to m : ℕ) (made : IsMade (λ w. w) words others at to m) (n i : ℕ) → object_at others to ≡ Some n → i < n
    → ((object : object_at words at ≡ Some n) → P (slice_index words (field_at at i))) → P (slice_index others (field_at to i))
made_words P words others at to m made n i object below holds =
    let same = same_Some m n (sym made.is ∙ object) in
    subst P (sym (made.fields i (omega arith))) (holds (made.was ∙ ap Some same))

copied_from : {s : State} {k : Collection} {places remaining : Places} {words : List ℕ} {id : Id} {from : ℕ} → IsCopying s k places remaining words id from → s.base + s.used < 2097152
    → IsFromSpace (copied_state s k words from) (copied_collection s k words from) (with_place s places id) (without remaining from) (words_after_copy s words from)
copied_from {s} {k} {places} {remaining} {words} {id} {from} copying small =
    let room = copy_room copying in
    let is = copying.is in
    let others = words_after_copy s words from in
    let to = s.base + s.used in
    let here = addresses (with_place s places id) in
    let each = old_each copying room small in
    record {
      starts = is.from.starts;
      chain = old_ends_same words others (other_base s) is.from.starts (other_base s + k.used) (λ at has. (each at has).1) is.from.chain;
      forwarded = λ at has. (each at has).0;
      left = addresses_without remaining from ∙ ap (filter (other_than from)) is.from.left
          ∙ filter_twice (other_than from) (λ at. not (contains k.moved at)) (λ at. not (contains (insert k.moved from) at)) is.from.starts (left_test k from);
      sum =
          let size = room.size in
          let rest = room.rest in
          let sum = is.from.sum in
          let same = taken_same words others (addresses (without remaining from)) (λ at has.
          let still = still_left remaining from at has in
          let object = left_object is.from at still.0 in
          let kept = copied_left copying room at object.fields still.0 still.1 object.object in
          taken_object others at object.fields kept.is ∙ sym (taken_object words at object.fields object.object)) in
          omega arith;
      grays = λ at gray. elim (cases_order at to) [
        | inl same ↦ subst (λ (x : ℕ). Contains here x) (sym same) (place_new s places id)
        | inr beside ↦
            let other : at ≢ to = λ same. elim beside [ inl less ↦ omega arith | inr more ↦ omega arith ] in
            place_before s places id at (is.from.grays at (sym (contains-other k.gray to at other) ∙ gray))
      ];
      back = λ at has n i object below. elim (place_cases s places id at has) [
        | inl before ↦
            let there = start_within is.laid at before in
            made_words (λ w. MayLeadBack here is.from.starts (meaning w)) words others at at there.fields (copied_here copying room at there.fields before there.object) n i object below
            (λ was. may_lead_more s places id is.from.starts (meaning (slice_index words (field_at at i))) (is.from.back at before n i was below))
        | inr new ↦
            let object_new : object_at others to ≡ Some n = ap (object_at others) (sym new) ∙ object in
            subst (λ (x : ℕ). MayLeadBack here is.from.starts (meaning (slice_index others (field_at x i)))) (sym new)
            (made_words (λ w. MayLeadBack here is.from.starts (meaning w)) words others from to room.fields (copied_made copying room) n i object_new below
            (λ was. inside_leads here is.from.starts (meaning (slice_index words (field_at from i))) (is.from.inside from (address_of-Contains remaining id from copying.left) n i was below)))
      ];
      inside = λ at has n i object below.
          let still = still_left remaining from at has in
          let left = left_object is.from at still.0 in
          made_words (λ w. IsInside is.from.starts (meaning w)) words others at at left.fields (copied_left copying room at left.fields still.0 still.1 left.object) n i object below
          (λ was. is.from.inside at still.0 n i was below);
    }

-- The words after a copy are laid out, with the object among the current ones.
pub copied_laid : {s : State} {k : Collection} {places remaining : Places} {words : List ℕ} {id : Id} {from : ℕ} → IsCopying s k places remaining words id from → words_in s.pages ≤ 2097152
    → IsCollecting (copied_state s k words from) (copied_collection s k words from) (with_place s places id) (without remaining from) (words_after_copy s words from)
copied_laid {s} {k} {places} {remaining} {words} {id} {from} copying limit =
    let room = copy_room copying in
    let is = copying.is in
    let others = words_after_copy s words from in
    let to = s.base + s.used in
    let fits = room.fits in
    let whole = is.long in
    let space = copied_from copying (omega arith) in
    record {
      run = refl;
      spaced = copied_spaced copying;
      long = length-copied s words from ∙ is.long;
      laid = record {
        filled = copied_filled copying;
        here = λ at has n i object below not_gray.
            let black = gray_before k to at not_gray in
            elim (place_cases s places id at has) [
              | inl before ↦
                  let there = start_within is.laid at before in
                  made_words (λ w. LeadsHere (addresses (with_place s places id)) (meaning w)) words others at at there.fields (copied_here copying room at there.fields before there.object) n i object below
                  (λ was. leads_more s places id (meaning (slice_index words (field_at at i))) (is.laid.here at before n i was below (ap (λ o. is_gray_field o at i) is.run ∙ black.1)))
              | inr new ↦ absurd (black.0 new)
            ];
        from = space;
      };
      from = space;
    }
