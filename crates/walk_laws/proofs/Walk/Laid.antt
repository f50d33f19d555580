-- Where the walk of both spaces passes the words are laid out, under any names.
use Rattle.std.proofs.Common.{◌≡◌, ℕ, Bool, true, false, List, ◌++◌, [], inl, Option, Some, refl, sym, ap, subst, arith}
use Rattle.std.specs.Prelude.{Contains, MatchOption, filter}
use Rattle.std.specs.FinSet.{contains}
use Rattle.std.proofs.lemmas.List.{append-nil}
use Rattle.heap_words.specs.declared.Word.{Word}
use Rattle.heap_words.specs.Word.{meaning}
use Rattle.heap_spaces.specs.Collection.{Collection}
use Rattle.object_layout.specs.Walk.{IsFilled, IsInside}
use Rattle.object_layout.specs.CollectionWalk.{FromSpace, IsCollectionWalked, from_end, is_moved, open_to}
use Rattle.object_layout.proofs.OldStarts.{chained_object}
use Rattle.stability_tracker.proofs.ListLaws.{Contains-from_filter}
use Rattle.log_machine.specs.Machine.{State}
use Rattle.log_machine.specs.Collecting.{other_base}
use Rattle.graph_words.specs.Places.{Places, addresses}
use Rattle.collection_words.specs.Completed.{taken_by}
use Rattle.collection_words.specs.LaidOut.{EachField, StandsOrForwards, IsFromSpace, IsLaidOut, IsUnderway, LeadsHere, MayLeadBack, is_gray_field}
use Rattle.walk_laws.specs.Births.{is_uncopied}
use Rattle.walk_laws.specs.Heap.{AreSpaces}
use Rattle.walk_laws.proofs.Walk.Fields.{each_inside, inside_back, inside_here}
use Rattle.walk_laws.proofs.Walk.Olds.{chain_counted, chain_ends, met_object}

-- the from-space of a collection
abbrev pub emptied : State → Collection → FromSpace
emptied s k = record { base = other_base s; collection = k }

field_here : (starts olds : List ℕ) (gray : Bool) (meant : Option Word) → gray ≡ false → IsInside (starts ++ open_to gray olds) meant → LeadsHere starts meant
field_here starts olds true meant is inside = cc
field_here starts olds false meant is inside = inside_here starts meant (subst (λ (xs : List ℕ). IsInside xs meant) (append-nil starts) inside)

field_back : (starts olds : List ℕ) (gray : Bool) (meant : Option Word) → IsInside (starts ++ open_to gray olds) meant → MayLeadBack starts olds meant
field_back starts olds true meant inside = inside_back starts olds meant inside
field_back starts olds false meant inside = inl (field_here starts olds false meant refl inside)

forwarded_old : (s : State) (k : Collection) (words : List ℕ) (walked : IsCollectionWalked words s.base s.used (emptied s k)) (at : ℕ) → Contains walked.olds at
    → StandsOrForwards words walked.starts at (contains k.moved at)
forwarded_old s k words walked at has =
    let from = emptied s k in
    let met = chained_object _ from.base walked.olds (from_end from) at walked.old_filled.objects has in
    (met_object words walked.starts (from_end from) at met.0 (is_moved from at) met.1).forwarded

-- what is said of the objects of a walk holds of those of places with the same addresses
walked_from : (s : State) (k : Collection) (words : List ℕ) (walked : IsCollectionWalked words s.base s.used (emptied s k)) (places remaining : Places) → addresses places ≡ walked.starts
    → addresses remaining ≡ filter (is_uncopied k) walked.olds → IsFromSpace s k places remaining words
walked_from s k words walked places remaining here left =
    let from = emptied s k in
    let starts = walked.starts in
    let olds = walked.olds in
    let back = λ (P : List ℕ → Type 0) (p : P starts). subst P (sym here) p in
    let counted = chain_counted words starts from from.base olds (from_end from) walked.old_filled.objects in
    record {
      starts = olds;
      chain = chain_ends words starts from from.base olds (from_end from) walked.old_filled.objects;
      forwarded = back (λ xs. (at : ℕ) → Contains olds at → StandsOrForwards words xs at (contains k.moved at)) (forwarded_old s k words walked);
      left = left;
      sum = omega (arith, counted, walked.old_filled.sum, ap (taken_by words) left);
      grays = back (λ xs. (at : ℕ) → contains k.gray at ≡ true → Contains xs at) walked.grays;
      back = back (λ xs. (at : ℕ) → Contains xs at → EachField words at (λ i w. MayLeadBack xs olds (meaning w)))
          (λ at has n i object below. field_back starts olds (contains k.gray at) _ (each_inside words _ at (walked.inside at has) n i object below));
      inside = λ at has.
          let old = Contains-from_filter (is_uncopied k) olds at (subst (λ (xs : List ℕ). Contains xs at) left has) in
          each_inside words olds at (walked.old_inside at old.0);
    }

-- The words are laid out.
pub walked_laid : (s : State) (k : Collection) (words : List ℕ) → s.collection ≡ Some k → (walked : IsCollectionWalked words s.base s.used (emptied s k)) (places remaining : Places)
    → addresses places ≡ walked.starts → addresses remaining ≡ filter (is_uncopied k) walked.olds → IsLaidOut s places remaining words
walked_laid s k words run walked places remaining here left =
    let starts = walked.starts in
    let Gray : Option Collection → Type 0 = λ o. (at : ℕ) → Contains starts at → EachField words at (λ i w. is_gray_field o at i ≡ false → LeadsHere starts (meaning w)) in
    let black : Gray (Some k) = λ at has n i object below not_gray. field_here starts walked.olds (contains k.gray at) _ not_gray (each_inside words _ at (walked.inside at has) n i object below) in
    record {
      filled = subst (IsFilled words s.base s.used) (sym here) walked.filled;
      here = subst (λ (xs : List ℕ). (at : ℕ) → Contains xs at → EachField words at (λ i w. is_gray_field s.collection at i ≡ false → LeadsHere xs (meaning w))) (sym here) (subst Gray (sym run) black);
      from = subst (λ o. MatchOption o (remaining ≡ []) (λ k. IsFromSpace s k places remaining words)) (sym run) (walked_from s k words walked places remaining here left);
    }

-- A collection is under way.
pub walked_underway : (s : State) (k : Collection) (words : List ℕ) → s.collection ≡ Some k → AreSpaces s words → (walked : IsCollectionWalked words s.base s.used (emptied s k)) (places remaining : Places)
    → addresses places ≡ walked.starts → addresses remaining ≡ filter (is_uncopied k) walked.olds → IsUnderway s k places remaining words
walked_underway s k words run spaces walked places remaining here left =
    record { run = run; spaced = spaces.spaced; long = spaces.long; small = spaces.small; laid = walked_laid s k words run walked places remaining here left }
