-- The words after a flip are laid out: all copies are gray, and the others remain.
use Rattle.std.proofs.Common.{◌≡◌, ℕ, ◌+◌, ◌*◌, ◌<◌, inl, inr, Bool, true, false, not, List, [], ◌∷◌, Option, None, Some, refl, sym, ap, ◌∙◌, subst, arith}
use Rattle.std.specs.Prelude.{Contains, MatchOption, filter, slice_index, if◌then◌else◌}
use Rattle.std.specs.FinSet.{contains}
use Rattle.std.proofs.lemmas.Option.{same_Some}
use Rattle.heap_words.specs.declared.Header.TheVariants.{Forward}
use Rattle.heap_words.specs.declared.Word.{Word}
use Rattle.heap_words.specs.declared.Word.TheVariants as word
use Rattle.heap_words.specs.Header.{header}
use Rattle.heap_words.specs.Word.{meaning, refers_to_volatile}
use Rattle.heap_words.proofs.HeaderLaws.{header-header_bits}
use Rattle.heap_spaces.specs.Collection.{Collection, owed_by}
use Rattle.object_layout.specs.Layout.{led, object_at}
use Rattle.object_layout.specs.Walk.{AreEndToEnd, IsInside}
use Rattle.object_layout.proofs.LayoutLaws.{object_header}
use Rattle.object_layout.proofs.WalkLaws.{Contains-cases, Contains-head, Contains-none, Contains-rest}
use Rattle.stability_tracker.proofs.ListLaws.{Contains-filter, Contains-from_filter}
use Rattle.log_machine.specs.Collecting.{other_base}
use Rattle.log_machine.specs.Machine.{State, field_at, space_words}
use Rattle.log_machine.specs.Sound.{IsWithin}
use Rattle.log_machine.proofs.WordsLaws.{length-put_all}
use Rattle.graph_words.specs.Places.{Places, addresses}
use Rattle.collection_words.specs.Completed.{IsMade, moves_from, places_from, taken_at, taken_by}
use Rattle.collection_words.specs.Flipped.{HasBegun, IsFlipping, flipped_words}
use Rattle.collection_words.specs.LaidOut.{AreOldEndToEnd, StandsOrForwards, IsFromSpace, IsUnderway, LeadsHere, MayLeadBack, is_gray_field, old_length}
use Rattle.collection_words.proofs.Flip.Parted.{chosen_apart, chosen_fit, chosen_made, chosen_taken, stayed_made}
use Rattle.collection_words.proofs.Flip.Words.{flip_forward, flipping}
use Rattle.collection_words.proofs.Laid.Filled.{AreFilling, filled_by, filling}
use Rattle.collection_words.proofs.Laid.Old.{old_length-object}
use Rattle.collection_words.proofs.Laid.Sources.{here_ends, here_taken}
use Rattle.collection_words.proofs.Laid.Within.{start_within}
use Rattle.collection_words.proofs.Moves.Ends.{move_within, taken_object, taken_same}
use Rattle.collection_words.proofs.Moves.Sources.{move_source}
use Rattle.collection_words.proofs.Words.Objects.{placed_ends}

-- Moves.

move_of : (words xs : List ℕ) (to at : ℕ) → Contains xs at → (there : ℕ) × Contains (moves_from words xs to) (at, there)
move_of words [] to at has = absurd (Contains-none at has)
move_of words (x ∷ xs) to at has = elim (Contains-cases x xs at has) [
  | inl here ↦ (to, subst (λ (y : ℕ). Contains (moves_from words (x ∷ xs) to) (y, to)) here (Contains-head (x, to) (moves_from words xs (to + taken_at words x))))
  | inr later ↦ let rest = move_of words xs (to + taken_at words x) at later in (rest.0, Contains-rest (x, to) (moves_from words xs (to + taken_at words x)) (at, rest.0) rest.1)
]

pub move_to : (words : List ℕ) (ps : Places) (to there : ℕ) → Contains (addresses (places_from words ps to)) there → (at : ℕ) × Contains (moves_from words (addresses ps) to) (at, there)
move_to words [] to there has = absurd (Contains-none there has)
move_to words (p ∷ ps) to there has = elim (Contains-cases to (addresses (places_from words ps (to + taken_at words p.1))) there has) [
  | inl here ↦ (p.1, subst (λ (y : ℕ). Contains (moves_from words (addresses (p ∷ ps)) to) (p.1, y)) here (Contains-head (p.1, to) (moves_from words (addresses ps) (to + taken_at words p.1))))
  | inr later ↦ let rest = move_to words ps (to + taken_at words p.1) there later in (rest.0, Contains-rest (p.1, to) (moves_from words (addresses ps) (to + taken_at words p.1)) (rest.0, there) rest.1)
]

move_place : (words : List ℕ) (ps : Places) (to at there : ℕ) → Contains (moves_from words (addresses ps) to) (at, there) → Contains (addresses (places_from words ps to)) there
move_place words [] to at there has = absurd (Contains-none (at, there) has)
move_place words (p ∷ ps) to at there has = elim (Contains-cases (p.1, to) (moves_from words (addresses ps) (to + taken_at words p.1)) (at, there) has) [
  | inl here ↦ subst (λ (y : ℕ). Contains (addresses (places_from words (p ∷ ps) to)) y) (ap (λ (m : ℕ × ℕ). m.1) here) (Contains-head to (addresses (places_from words ps (to + taken_at words p.1))))
  | inr later ↦ Contains-rest to (addresses (places_from words ps (to + taken_at words p.1))) there (move_place words ps (to + taken_at words p.1) at there later)
]

split_one : (words : List ℕ) (x m n t : ℕ) (xs ys : List ℕ) (b : Bool) → taken_by words xs ≡ m → taken_by words ys ≡ n → m + n ≡ t
    → taken_by words (if b then x ∷ xs else xs) + taken_by words (if not b then x ∷ ys else ys) ≡ taken_at words x + t
split_one words x m n t xs ys true one other sum = omega arith
split_one words x m n t xs ys false one other sum = omega arith

taken_split : (words : List ℕ) (p : ℕ → Bool) (xs : List ℕ) → taken_by words (filter p xs) + taken_by words (filter (λ at. not (p at)) xs) ≡ taken_by words xs
taken_split words p [] = refl
taken_split words p (x ∷ xs) =
    split_one words x (taken_by words (filter p xs)) (taken_by words (filter (λ at. not (p at)) xs)) (taken_by words xs) (filter p xs) (filter (λ at. not (p at)) xs) (p x) refl refl (taken_split words p xs)

pub old_ends : (words others : List ℕ) (from : ℕ) (starts : List ℕ) (end : ℕ) → ((at n : ℕ) → Contains starts at → object_at words at ≡ Some n → old_length others at ≡ Some n) → AreEndToEnd words from starts end
    → AreOldEndToEnd others from starts end
old_ends words others from [] end each ends = ends
old_ends words others from (a ∷ rest) end each (n, same, object, more) =
    (n, same, each a n (Contains-head a rest) object, old_ends words others (a + 2 + n) rest end (λ at m has. each at m (Contains-rest a rest at has)) more)

-- The from-space.

-- a start is forwarded to its copy, or stays
pub start_kind : {s n : State} {k : Collection} {places chosen remaining : Places} {words : List ℕ} → IsFlipping s places chosen remaining words → HasBegun s n k places chosen remaining words
    → (at m : ℕ) → Contains (addresses places) at → object_at words at ≡ Some m → (b : Bool) → contains k.moved at ≡ b
    → StandsOrForwards (flipped_words s words (addresses chosen)) (addresses (places_from words chosen (other_base s))) at b × (old_length (flipped_words s words (addresses chosen)) at ≡ Some m)
start_kind {s} {n} {k} {places} {chosen} {remaining} {words} flip begun at m has object true moved =
    let to = other_base s in
    let others = flipped_words s words (addresses chosen) in
    let is_chosen = subst (λ xs. Contains xs at) (sym begun.moved) (Contains-filter (λ (a : ℕ). contains k.moved a) (addresses places) at has moved) in
    let move = move_of words (addresses chosen) to at is_chosen in
    let within = (move_within words (addresses chosen) to at move.0 move.1).1 in
    let size = taken_object words at m object in
    let fits = chosen_fit flip in
    let long = flip.long in
    let limit = flip.small in
    let whole = (object_header words at m object).1 in
    let small : move.0 < 2097152 = omega arith in
    let head = ap header (flip_forward words (addresses chosen) words s.base to at move.0 flip.up (chosen_apart flip) move.1 (omega arith)) ∙ header-header_bits (Forward move.0) small in
    ((move.0, head, move_place words chosen to at move.0 move.1), ap (λ h. object_at others (led at h)) head ∙ (chosen_made flip at move.0 m object move.1).is)
start_kind {s} {n} {k} {places} {chosen} {remaining} {words} flip begun at m has object false unmoved =
    let others = flipped_words s words (addresses chosen) in
    let never : Contains (addresses chosen) at → ⊥ = λ is.
    let kept = Contains-from_filter (λ (a : ℕ). contains k.moved a) (addresses places) at (subst (λ xs. Contains xs at) begun.moved is) in
    let clash = sym unmoved ∙ kept.1 in cc in
    let made = stayed_made flip at m has object never in
    ((m, made.is), old_length-object others at m made.is)

leads_back : (starts old_starts : List ℕ) (meant : Option Word) → LeadsHere old_starts meant → MayLeadBack starts old_starts meant
leads_back starts old_starts None here = absurd here
leads_back starts old_starts (Some word.Null) here = inl tt
leads_back starts old_starts (Some (word.Int i)) here = inl tt
leads_back starts old_starts (Some (word.Volatile i)) here = inl tt
leads_back starts old_starts (Some (word.Stable at)) here = inr (at, refl, here)

leads_inside : (starts : List ℕ) (meant : Option Word) → LeadsHere starts meant → refers_to_volatile meant ≡ false → IsInside starts meant
leads_inside starts None here plain = absurd here
leads_inside starts (Some word.Null) here plain = tt
leads_inside starts (Some (word.Int i)) here plain = tt
leads_inside starts (Some (word.Volatile i)) here plain = cc
leads_inside starts (Some (word.Stable at)) here plain = here

flip_from : {s n : State} {k : Collection} {places chosen remaining : Places} {words : List ℕ} → s.collection ≡ None → IsFlipping s places chosen remaining words → HasBegun s n k places chosen remaining words
    → IsFromSpace n k (places_from words chosen (other_base s)) remaining (flipped_words s words (addresses chosen))
flip_from {s} {n} {k} {places} {chosen} {remaining} {words} none flip begun =
    let to = other_base s in
    let others = flipped_words s words (addresses chosen) in
    let starts = addresses places in
    let base = begun.flipped.base in
    let size : space_words n.pages ≡ space_words s.pages = ap space_words begun.flipped.pages in
    let back : other_base n ≡ s.base = elim flip.spaced.first [ inl low ↦ omega arith | inr high ↦ omega arith ] in
    let used = begun.words_left in
    let end : s.base + s.used ≡ other_base n + k.used = omega arith in
    let left_is : (at : ℕ) → Contains (addresses remaining) at → Contains starts at × (contains k.moved at ≡ false) = λ at has.
    let kept = Contains-from_filter (λ (a : ℕ). not (contains k.moved a)) starts at (subst (λ xs. Contains xs at) begun.left has) in
    (kept.0, unmoved (contains k.moved at) kept.1) in
    let stay : (at m : ℕ) → Contains (addresses remaining) at → object_at words at ≡ Some m → IsMade (λ w. w) words others at at m = λ at m has object.
    stayed_made flip at m (left_is at has).0 object (λ is.
    let kept = Contains-from_filter (λ (a : ℕ). contains k.moved a) starts at (subst (λ xs. Contains xs at) begun.moved is) in
    let clash = sym (left_is at has).1 ∙ kept.1 in cc) in
    record {
      starts = starts;
      chain = subst (λ (x : ℕ). AreOldEndToEnd others x starts (other_base n + k.used)) (sym back)
          (subst (AreOldEndToEnd others s.base starts) end
          (old_ends words others s.base starts (s.base + s.used) (λ at m has object. (start_kind flip begun at m has object (contains k.moved at) refl).1) (here_ends flip.laid)));
      forwarded = λ at has. let object = start_within flip.laid at has in (start_kind flip begun at object.fields has object.object (contains k.moved at) refl).0;
      left = begun.left;
      sum =
          let same = taken_same words others (addresses remaining) (λ at has.
          let object = start_within flip.laid at (left_is at has).0 in
          let made = stay at object.fields has object.object in
          taken_object others at object.fields made.is ∙ sym (taken_object words at object.fields object.object)) in
          let split = taken_split words (λ at. contains k.moved at) starts in
          let copied = begun.copied in
          omega (arith, same, ap (taken_by words) begun.moved, ap (taken_by words) begun.left, here_taken flip.laid);
      grays = begun.grays;
      back = λ there has m i object below.
          let move = move_to words chosen to there has in
          let start = flip.starts move.0 (move_source words (addresses chosen) to move.0 there move.1) in
          let source = start_within flip.laid move.0 start in
          let made = chosen_made flip move.0 there source.fields source.object move.1 in
          let same = same_Some source.fields m (sym made.is ∙ object) in
          subst (λ (w : ℕ). MayLeadBack (addresses (places_from words chosen to)) starts (meaning w)) (sym (made.fields i (omega arith)))
          (leads_back (addresses (places_from words chosen to)) starts (meaning (slice_index words (field_at move.0 i))) (flip.laid.here move.0 start source.fields i source.object (omega arith) (ap (λ o. is_gray_field o move.0 i) none)));
      inside = λ at has m i object below.
          let start = (left_is at has).0 in
          let source = start_within flip.laid at start in
          let made = stay at source.fields has source.object in
          let same = same_Some source.fields m (sym made.is ∙ object) in
          subst (λ (w : ℕ). IsInside starts (meaning w)) (sym (made.fields i (omega arith)))
          (leads_inside starts (meaning (slice_index words (field_at at i))) (flip.laid.here at start source.fields i source.object (omega arith) (ap (λ o. is_gray_field o at i) none))
          (begun.plain at has source.fields i source.object (omega arith)));
    }
  where
    unmoved : (b : Bool) → not b ≡ true → b ≡ false
    unmoved true is = absurd (cc is)
    unmoved false is = refl

-- The words after a flip are laid out.
pub flip_laid : {s n : State} {k : Collection} {places chosen remaining : Places} {words : List ℕ} → s.collection ≡ None → IsFlipping s places chosen remaining words → HasBegun s n k places chosen remaining words
    → IsUnderway n k (places_from words chosen (other_base s)) remaining (flipped_words s words (addresses chosen))
flip_laid {s} {n} {k} {places} {chosen} {remaining} {words} none flip begun =
    let to = other_base s in
    let others = flipped_words s words (addresses chosen) in
    let currents = places_from words chosen to in
    let from = flip_from none flip begun in
    let base = begun.flipped.base in
    let pages = begun.flipped.pages in
    let used = begun.used in
    let taken = chosen_taken flip in
    let room = flip.spaced.room in
    let copied = begun.copied in
    let left_words = begun.words_left in
    let owes = ap owed_by begun.run in
    let all = filling words s.base s.used (addresses places) flip.laid.filled in
    let first = chosen_made flip s.base to 4 all.root begun.first in
    let ends = placed_ends words others chosen to (λ at there move.
    let source = start_within flip.laid at (flip.starts at (move_source words (addresses chosen) to at there move)) in
    (source.fields, source.object, (chosen_made flip at there source.fields source.object move).is)) in
    let end : to + taken_by words (addresses chosen) ≡ n.base + n.used = omega arith in
    record {
      run = begun.run;
      spaced = record {
        first = elim flip.spaced.first [ inl low ↦ inr (omega arith) | inr high ↦ inl (omega arith) ];
        room = omega arith;
        within = subst (λ o. MatchOption o (Unit {0}) (IsWithin n.pages)) (sym begun.run) (record { copied = omega arith; used = omega arith });
      };
      long = length-put_all (flipping words (addresses chosen) to) words ∙ flip.long ∙ ap (λ (p : ℕ). 128 * p) (sym pages);
      small = let limit = flip.small in omega arith;
      laid = record {
        filled = filled_by others n.base n.used (addresses currents) (subst (λ (x : ℕ). AreFilling others x n.used (addresses currents)) (sym base) (record {
          ends = subst (AreEndToEnd others to (addresses currents)) (let same : to + taken_by words (addresses chosen) ≡ to + n.used = omega arith in same) ends;
          first = move_place words chosen to s.base to begun.first;
          root = first.is;
          birth = first.birth ∙ all.birth;
        }));
        here = λ at has m i object below not_gray. let clash = sym not_gray ∙ ap (λ o. is_gray_field o at i) begun.run ∙ begun.gray at has in cc;
        from = subst (λ o. MatchOption o (remaining ≡ []) (λ c. IsFromSpace n c currents remaining others)) (sym begun.run) from;
      };
    }
