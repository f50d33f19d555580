-- A write into a field of a current object, of a word that leads here: the words stay laid out, and it is the same write of the completed words.
use Rattle.std.proofs.Common.{◌≡◌, ◌≢◌, ℕ, suc, ◌+◌, ◌<◌, ◌≤◌, inl, inr, Bool, true, false, not, List, [], ◌∷◌, ◌++◌, get_or, Some, refl, sym, ap, ◌∙◌, subst, arith, length-set}
use Rattle.std.specs.Prelude.{Contains, MatchOption, slice_index}
use Rattle.std.specs.FinSet.{contains}
use Rattle.std.proofs.lemmas.Bool.{cases_order}
use Rattle.std.proofs.lemmas.List.{get_or-set_other, get_or-set_same}
use Rattle.std.proofs.lemmas.List.Elements.{Contains-append_cases}
use Rattle.std.proofs.lemmas.Option.{same_Some}
use Rattle.heap_words.specs.Header.{header}
use Rattle.heap_words.specs.Word.{meaning}
use Rattle.heap_spaces.specs.Collection.{Collection}
use Rattle.object_layout.specs.Layout.{led, object_at}
use Rattle.object_layout.specs.Walk.{IsFilled, IsInside}
use Rattle.object_layout.proofs.LayoutLaws.{object_header}
use Rattle.object_layout.proofs.ObjectLaws.{object_set}
use Rattle.object_layout.proofs.WalkLaws.{Contains-head, Contains-rest}
use Rattle.stability_tracker.proofs.ListLaws.{Contains-filter}
use Rattle.log_machine.specs.Collecting.{other_base}
use Rattle.log_machine.specs.Machine.{State, field_at, space_words, with_word}
use Rattle.graph_words.specs.Places.{Places, addresses}
use Rattle.graph_words.proofs.Area.Field.{birth_with_word, ends_with_word, object_with_word}
use Rattle.graph_words.proofs.Stands.Field.{IsField}
use Rattle.collection_words.specs.Completed.{completed, followed, followed_words, in_other_space, moves_from, taken_at}
use Rattle.collection_words.specs.LaidOut.{AreOldEndToEnd, StandsOrForwards, IsFromSpace, IsLaidOut, LeadsHere, MayLeadBack, old_length}
use Rattle.collection_words.specs.Writes.{IsCurrentField, IsHereWrite}
use Rattle.collection_words.proofs.Laid.Completed.{completed-before, completed-behind, completed_put, length-completed}
use Rattle.collection_words.proofs.Laid.Filled.{filled_by, filling}
use Rattle.collection_words.proofs.Laid.Followed.{followed_here, followed_same, move_kind, move_placed}
use Rattle.collection_words.proofs.Laid.Old.{apart_spaces, left_within, old_in_other, old_length-object, other_bounds}
use Rattle.collection_words.proofs.Laid.Sources.{IsCollecting, all_fit, all_taken, here_ends, source_object}
use Rattle.collection_words.proofs.Laid.Within.{start_within}
use Rattle.collection_words.proofs.Moves.Ends.{addresses-append, taken_object, taken_same}
use Rattle.collection_words.proofs.Moves.Sources.{move_source}
use Rattle.collection_words.proofs.Words.Cover.{followed_get, head_or, head_same, move_one, moves_same, putting_is}
use Rattle.collection_words.proofs.Words.Put.{putting-at}

-- such a field is a field of the words
pub as_field : {places : Places} {words : List ℕ} {object field : ℕ} → IsCurrentField places words object field → IsField words (addresses places) object field
as_field is = record { start = is.start; fields = is.fields; stands = is.stands; within = is.within }

-- and the other way round
pub of_field : {places : Places} {words : List ℕ} {object field : ℕ} → IsField words (addresses places) object field → IsCurrentField places words object field
of_field is = record { start = is.start; fields = is.fields; stands = is.stands; within = is.within }

-- the field lies in the used words
pub write_within : {s : State} {places remaining : Places} {words : List ℕ} {object field word : ℕ} → IsLaidOut s places remaining words → IsHereWrite places words object field word
    → (s.base ≤ object) × (field_at object field < s.base + s.used)
write_within {object = object} laid write =
    let within = start_within laid object write.is.start in
    let same = same_Some within.fields write.is.fields (sym within.object ∙ write.is.stands) in
    let below = write.is.within in
    let close = within.below in
    (within.above, omega arith)

-- it is no word of the other space
pub write_current : {s : State} {k : Collection} {places remaining : Places} {words : List ℕ} {object field word : ℕ} → IsCollecting s k places remaining words → IsHereWrite places words object field word
    → (at : ℕ) → other_base s ≤ at → at < other_base s + space_words s.pages → field_at object field ≢ at
write_current {s} {object = object} {field = field} is write at above below =
    let within = write_within is.laid write in
    let first = within.0 in
    let last = within.1 in
    let room = is.spaced.room in
    apart_spaces s is.spaced (field_at object field) at (omega arith) (omega arith) above below

-- What stays.

-- an object of places, or one that remains, stays
pub write_object : {s : State} {k : Collection} {places remaining : Places} {words : List ℕ} {object field word : ℕ} → IsCollecting s k places remaining words → IsHereWrite places words object field word
    → (at n : ℕ) → Contains (addresses (places ++ remaining)) at → object_at words at ≡ Some n → object_at (with_word words object field word) at ≡ Some n
write_object {s} {places = places} {remaining = remaining} {words = words} {object = object} {field = field} {word = word} is write at n has there =
    elim (Contains-append_cases (addresses places) (addresses remaining) at (subst (λ (xs : List ℕ). Contains xs at) (addresses-append places remaining) has)) [
      | inl here ↦ object_with_word words s.base (addresses places) (s.base + s.used) object field word at n (here_ends is.laid) (as_field write.is) here there
      | inr back ↦
          let left = left_within is at back in
          let close = left.below in
          object_set words (field_at object field) word at n (write_current is write at left.above (omega arith)) there
    ]

-- and takes as many words
pub write_taken : {s : State} {k : Collection} {places remaining : Places} {words : List ℕ} {object field word : ℕ} → IsCollecting s k places remaining words → IsHereWrite places words object field word
    → (at : ℕ) → Contains (addresses (places ++ remaining)) at → taken_at (with_word words object field word) at ≡ taken_at words at
write_taken {words = words} {object = object} {field = field} {word = word} is write at has =
    let there = source_object is at has in
    taken_object (with_word words object field word) at there.0 (write_object is write at there.0 has there.1) ∙ sym (taken_object words at there.0 there.1)

-- a word that is not the field's
pub write_other : (words : List ℕ) (object field word i : ℕ) → field_at object field ≢ i → slice_index (with_word words object field word) i ≡ slice_index words i
write_other words object field word i other = get_or-set_other words (field_at object field) i word 0 (λ same. other (sym same))

-- the words of the from-space
pub write_old : {s : State} {k : Collection} {places remaining : Places} {words : List ℕ} {object field word : ℕ} → IsCollecting s k places remaining words → IsHereWrite places words object field word
    → (at : ℕ) → in_other_space s at ≡ true → slice_index (with_word words object field word) at ≡ slice_index words at
write_old {s} {words = words} {object = object} {field = field} {word = word} is write at other =
    let bounds = other_bounds s at other in write_other words object field word at (write_current is write at bounds.0 bounds.1)

-- what remains goes to the same places
write_moves : {s : State} {k : Collection} {places remaining : Places} {words : List ℕ} {object field word : ℕ} → IsCollecting s k places remaining words → IsHereWrite places words object field word
    → (to : ℕ) → moves_from (with_word words object field word) (addresses (places ++ remaining)) to ≡ moves_from words (addresses (places ++ remaining)) to
write_moves {places = places} {remaining = remaining} {words = words} {object = object} {field = field} {word = word} is write to =
    moves_same words (with_word words object field word) (addresses (places ++ remaining)) to (write_taken is write)

-- what remains is among all
pub has_left : (places remaining : Places) (at : ℕ) → Contains (addresses remaining) at → Contains (addresses (places ++ remaining)) at
has_left [] remaining at has = has
has_left (p ∷ ps) remaining at has = Contains-rest p.1 (addresses (ps ++ remaining)) at (has_left ps remaining at has)

-- words are followed to the same places
pub write_followed : {s : State} {k : Collection} {places remaining : Places} {words : List ℕ} {object field word : ℕ} → IsCollecting s k places remaining words → IsHereWrite places words object field word
    → (w : ℕ) → followed s (with_word words object field word) remaining w ≡ followed s words remaining w
write_followed {s} {places = places} {remaining = remaining} {words = words} {object = object} {field = field} {word = word} is write w =
    followed_same s words (with_word words object field word) remaining w (write_old is write)
    (moves_same words (with_word words object field word) (addresses remaining) (s.base + s.used) (λ at has. write_taken is write at (has_left places remaining at has)))

-- The words stay laid out.

pub write_filled : {s : State} {places remaining : Places} {words : List ℕ} {object field word : ℕ} → IsLaidOut s places remaining words → IsHereWrite places words object field word
    → IsFilled (with_word words object field word) s.base s.used (addresses places)
write_filled {s} {places} {words = words} {object = object} {field = field} {word = word} laid write =
    let all = filling words s.base s.used (addresses places) laid.filled in
    filled_by (with_word words object field word) s.base s.used (addresses places) (record {
      ends = ends_with_word words s.base (addresses places) (s.base + s.used) object field word all.ends (as_field write.is);
      first = all.first;
      root = object_with_word words s.base (addresses places) (s.base + s.used) object field word s.base 4 all.ends (as_field write.is) all.first all.root;
      birth = birth_with_word words s.base (addresses places) (s.base + s.used) object field word s.base all.ends (as_field write.is) all.first ∙ all.birth;
    })

-- what holds of the words of an object's fields holds of them after the write, if it holds of the word that is written
pub write_fields : {s : State} {places remaining : Places} {words : List ℕ} {object field word : ℕ} (P : ℕ → Type 0) → IsLaidOut s places remaining words → IsHereWrite places words object field word
    → (at n i : ℕ) → object_at words at ≡ Some n → i < n → P (slice_index words (field_at at i)) → P word → P (slice_index (with_word words object field word) (field_at at i))
write_fields {words = words} {object = object} {field = field} {word = word} P laid write at n i there below was new =
    let long = (object_header words at n there).1 in
    let place = field_at object field in
    elim (cases_order place (field_at at i)) [
      | inl same ↦ subst P (sym (ap (slice_index (with_word words object field word)) (sym same) ∙ get_or-set_same words place word 0 (omega arith))) new
      | inr (inl less) ↦ subst P (sym (write_other words object field word (field_at at i) (λ same. omega arith))) was
      | inr (inr more) ↦ subst P (sym (write_other words object field word (field_at at i) (λ same. omega arith))) was
    ]

-- an object of places had its length before
pub write_length : {s : State} {places remaining : Places} {words : List ℕ} {object field word : ℕ} → IsLaidOut s places remaining words → IsHereWrite places words object field word
    → (at n : ℕ) → Contains (addresses places) at → object_at (with_word words object field word) at ≡ Some n → object_at words at ≡ Some n
write_length {s} {places} {words = words} {object = object} {field = field} {word = word} laid write at n has there =
    let was = start_within laid at has in
    let same = object_with_word words s.base (addresses places) (s.base + s.used) object field word at was.fields (here_ends laid) (as_field write.is) has was.object in
    was.object ∙ sym same ∙ there

-- objects of the from-space stay end to end where their lengths do
pub old_ends_same : (words others : List ℕ) (from : ℕ) (starts : List ℕ) (end : ℕ) → ((at : ℕ) → Contains starts at → old_length others at ≡ old_length words at) → AreOldEndToEnd words from starts end
    → AreOldEndToEnd others from starts end
old_ends_same words others from [] end same ends = ends
old_ends_same words others from (a ∷ rest) end same (n, equal, long, more) =
    (n, equal, same a (Contains-head a rest) ∙ long, old_ends_same words others (a + 2 + n) rest end (λ at has. same at (Contains-rest a rest at has)) more)

-- an object of the from-space that is forwarded to one of places, or that is whole, is so after the write
write_forwarded : {s : State} {k : Collection} {places remaining : Places} {words : List ℕ} {object field word : ℕ} → IsCollecting s k places remaining words → IsHereWrite places words object field word
    → (at : ℕ) → in_other_space s at ≡ true → (b : Bool) → (b ≡ false → Contains (addresses remaining) at) → StandsOrForwards words (addresses places) at b
    → StandsOrForwards (with_word words object field word) (addresses places) at b × (old_length (with_word words object field word) at ≡ old_length words at)
write_forwarded {s} {places = places} {remaining = remaining} {words = words} {object = object} {field = field} {word = word} is write at other true left (to, forward, has) =
    let others = with_word words object field word in
    let head = ap header (write_old is write at other) ∙ forward in
    let there = start_within is.laid to has in
    let length_was : old_length words at ≡ Some there.fields = ap (λ h. object_at words (led at h)) forward ∙ there.object in
    let kept = object_with_word words s.base (addresses places) (s.base + s.used) object field word to there.fields (here_ends is.laid) (as_field write.is) has there.object in
    let length_is : old_length others at ≡ Some there.fields = ap (λ h. object_at others (led at h)) head ∙ kept in
    ((to, head, has), length_is ∙ sym length_was)
write_forwarded {s} {places = places} {remaining = remaining} {words = words} {object = object} {field = field} {word = word} is write at other false left (n, there) =
    let others = with_word words object field word in
    let kept = write_object is write at n (has_left places remaining at (left refl)) there in
    ((n, kept), old_length-object others at n kept ∙ sym (old_length-object words at n there))

-- a start that was not copied remains
pub unmoved_left : {s : State} {k : Collection} {places remaining : Places} {words : List ℕ} (from : IsFromSpace s k places remaining words) (at : ℕ) → Contains from.starts at → contains k.moved at ≡ false
    → Contains (addresses remaining) at
unmoved_left {k = k} from at has unmoved =
    subst (λ (xs : List ℕ). Contains xs at) (sym from.left) (Contains-filter (λ (a : ℕ). not (contains k.moved a)) from.starts at has (ap not unmoved))

write_from : {s : State} {k : Collection} {places remaining : Places} {words : List ℕ} {object field word : ℕ} → IsCollecting s k places remaining words → IsHereWrite places words object field word
    → IsFromSpace s k places remaining (with_word words object field word)
write_from {s} {k} {places} {remaining} {words} {object} {field} {word} is write =
    let others = with_word words object field word in
    let from = is.from in
    let each : (at : ℕ) → Contains from.starts at → StandsOrForwards others (addresses places) at (contains k.moved at) × (old_length others at ≡ old_length words at) =
    λ at has. write_forwarded is write at (old_in_other is at has) (contains k.moved at) (λ unmoved. unmoved_left from at has unmoved) (from.forwarded at has) in
    record {
      starts = from.starts;
      chain = old_ends_same words others (other_base s) from.starts (other_base s + k.used) (λ at has. (each at has).1) from.chain;
      forwarded = λ at has. (each at has).0;
      left = from.left;
      sum = ap (λ (n : ℕ). k.copied + n) (taken_same words others (addresses remaining) (λ at has. write_taken is write at (has_left places remaining at has))) ∙ from.sum;
      grays = from.grays;
      back = λ at has n i there below.
          let was = write_length is.laid write at n has there in
          write_fields (λ w. MayLeadBack (addresses places) from.starts (meaning w)) is.laid write at n i was below (from.back at has n i was below) (inl write.leads);
      inside = λ at has n i there below.
          let lies = left_within is at has in
          let close = lies.below in
          let same = same_Some lies.fields n (sym (write_object is write at lies.fields (has_left places remaining at has) lies.object) ∙ there) in
          let apart = write_current is write (field_at at i) (let above = lies.above in omega arith) (omega arith) in
          subst (λ (w : ℕ). IsInside from.starts (meaning w)) (sym (write_other words object field word (field_at at i) apart)) (from.inside at has n i (lies.object ∙ ap Some same) below);
    }

-- so are all of them
pub write_laid : {s : State} {k : Collection} {places remaining : Places} {words : List ℕ} {object field word : ℕ} → IsCollecting s k places remaining words → IsHereWrite places words object field word
    → IsCollecting s k places remaining (with_word words object field word)
write_laid {s} {k} {places} {remaining} {words} {object} {field} {word} is write =
    let others = with_word words object field word in
    let from = write_from is write in
    record {
      run = is.run;
      spaced = is.spaced;
      long = length-set words (field_at object field) word ∙ is.long;
      laid = record {
        filled = write_filled is.laid write;
        here = λ at has n i there below not_gray.
            let was = write_length is.laid write at n has there in
            write_fields (λ w. LeadsHere (addresses places) (meaning w)) is.laid write at n i was below (is.laid.here at has n i was below not_gray) write.leads;
        from = subst (λ o. MatchOption o (remaining ≡ []) (λ k. IsFromSpace s k places remaining others)) (sym is.run) from;
      };
      from = from;
    }

-- The completed words.

-- the word of an object that goes somewhere, after the write
written_word : {s : State} {k : Collection} {places remaining : Places} {words : List ℕ} {object field word : ℕ} → IsCollecting s k places remaining words → IsHereWrite places words object field word
    → (at there j : ℕ) → Contains (moves_from words (addresses (places ++ remaining)) s.base) (at, there) → j < taken_at words at
    → slice_index (with_word (completed s places remaining words) object field word) (there + j)
    ≡ get_or (followed_words (followed s (with_word words object field word) remaining) (with_word words object field word) at) j 0
written_word {s} {places = places} {remaining = remaining} {words = words} {object = object} {field = field} {word = word} is write at there j move within =
    let others = with_word words object field word in
    let V = completed s places remaining words in
    let f = followed s words remaining in
    let f' = followed s others remaining in
    let all = addresses (places ++ remaining) in
    let has = move_source words all s.base at there move in
    let was = source_object is at has in
    let size = taken_object words at was.0 was.1 in
    let now = write_object is write at was.0 has was.1 in
    let size' = taken_object others at was.0 now in
    let new = followed_get f' others at was.0 j now (omega arith) in
    let old = ap (λ ws. get_or ws (there + j) 0) (completed_put is) ∙ putting-at f words all words s.base at there j move (all_fit is) within ∙ followed_get f words at was.0 j was.1 within in
    let place : Contains (moves_from words all s.base) (object, object) = move_placed is.laid object write.is.start in
    let many = taken_object words object write.is.fields write.is.stands in
    let bound = write.is.within in
    elim (cases_order (field_at object field) (there + j)) [
      | inl same ↦
          let one = move_one words all s.base object object at there (suc (suc field)) j place move (omega arith) within (omega arith) in
          let here : field_at object field ≡ at + j = let index = one.1 in let equal = one.0 in omega arith in
          let long = (object_header words object write.is.fields write.is.stands).1 in
          let size_V = length-completed s places remaining words in
          ap (slice_index (with_word V object field word)) (sym same)
          ∙ get_or-set_same V (field_at object field) word 0 (omega arith)
          ∙ sym (followed_here is.spaced is.laid others word write.leads)
          ∙ ap f' (sym (get_or-set_same words (field_at object field) word 0 (omega arith)) ∙ ap (slice_index others) here)
          ∙ ap (λ (i : ℕ). head_or f' i (slice_index others (at + j))) one.1
          ∙ sym new
      | inr beside ↦
          let apart : field_at object field ≢ there + j = λ same. elim beside [ inl less ↦ omega arith | inr more ↦ omega arith ] in
          let apart_there : field_at object field ≢ at + j = λ same.
          elim (move_kind is.laid at there move) [
            | inl here ↦ let equal = here.1 in apart (omega arith)
            | inr back ↦
                let lies = left_within is at (move_source words (addresses remaining) (s.base + s.used) at there back) in
                let many_left = taken_object words at lies.fields lies.object in
                let above = lies.above in
                let below = lies.below in write_current is write (at + j) (omega arith) (omega arith) same
          ] in
          write_other V object field word (there + j) apart
          ∙ old
          ∙ head_same j (slice_index words (at + j)) f f' (λ w. sym (write_followed is write w))
          ∙ ap (head_or f' j) (sym (write_other words object field word (at + j) apart_there))
          ∙ sym new
    ]

-- The write of a word that leads here, into a field of a current object, is that write of the completed words.
pub completed_write : {s : State} {k : Collection} {places remaining : Places} {words : List ℕ} {object field word : ℕ} → IsCollecting s k places remaining words → IsHereWrite places words object field word
    → completed s places remaining (with_word words object field word) ≡ with_word (completed s places remaining words) object field word
completed_write {s} {k} {places} {remaining} {words} {object} {field} {word} is write =
    let others = with_word words object field word in
    let V = completed s places remaining words in
    let all = addresses (places ++ remaining) in
    let now = write_laid is write in
    let bounds = write_within is.laid write in
    let first = bounds.0 in
    let last = bounds.1 in
    let taken = all_taken now in
    completed_put now
    ∙ putting_is (followed s others remaining) others all others (with_word V object field word) s.base
    (length-set V (field_at object field) word ∙ length-completed s places remaining words ∙ sym (length-set words (field_at object field) word))
    (λ i below. write_other V object field word i (λ same. omega arith) ∙ completed-before is i below ∙ sym (write_other words object field word i (λ same. omega arith)))
    (λ i above. write_other V object field word i (λ same. omega arith) ∙ completed-behind is i (omega arith) ∙ sym (write_other words object field word i (λ same. omega arith)))
    (all_fit now)
    (λ at there j move within.
    let move_was = subst (λ m. Contains m (at, there)) (write_moves is write s.base) move in
    let size = write_taken is write at (move_source words all s.base at there move_was) in
    written_word is write at there j move_was (omega arith))
