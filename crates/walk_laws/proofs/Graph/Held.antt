-- Where the walk passes a graph stands, under any names that keep the objects apart.
use Rattle.std.proofs.Common.{◌≡◌, ℕ, suc, ◌+◌, ◌≤◌, false, List, [], ◌∷◌, ◌++◌, Option, None, Some, refl, sym, ap, ◌∙◌, subst, arith}
use Rattle.std.specs.Prelude.{Contains, MatchOption, filter}
use Rattle.std.proofs.lemmas.List.{append-nil, map-append}
use Rattle.std.proofs.lemmas.List.Elements.{Contains-append_left}
use Rattle.heap_words.specs.Word.{meaning}
use Rattle.heap_spaces.specs.Collection.{Collection, owed_by}
use Rattle.graph_model.specs.Graph.{Graph, root}
use Rattle.graph_model.specs.declared.id.Id.{Id}
use Rattle.object_layout.specs.Walk.{AreEndToEnd, IsFilled, IsWalked}
use Rattle.object_layout.specs.CollectionWalk.{IsCollectionWalked, IsWalkedBeside}
use Rattle.object_layout.proofs.WalkedLaws.{KeepApart, gathered}
use Rattle.stability_tracker.proofs.ListLaws.{Contains-from_filter}
use Rattle.log_machine.specs.Machine.{State, owed}
use Rattle.log_machine.specs.Collecting.{other_base}
use Rattle.log_machine.proofs.StateLaws.{spaced_more}
use Rattle.graph_words.specs.Places.{Places, address_of, addresses}
use Rattle.graph_words.specs.Stands.{ArePlaced, StandsCommitted}
use Rattle.graph_words.proofs.Stands.Walked.{address_of-named_places, addresses-named_places, gathered_placed, walked_stands}
use Rattle.collection_words.specs.Completed.{StandsCompleted, completed}
use Rattle.collection_words.specs.LaidOut.{EachField, IsFromSpace, IsLaidOut, LeadsHere, is_gray_field}
use Rattle.collection_words.specs.Placed.{Ascend, HaveOwnNames}
use Rattle.collection_words.proofs.Copy.Ascending.{ascend_chain, ascend_filter, ascend_from}
use Rattle.collection_words.proofs.Laid.Completed.{completed_none, places_none}
use Rattle.collection_words.proofs.Laid.Filled.{filling}
use Rattle.collection_words.proofs.Laid.Followed.{place_current}
use Rattle.collection_words.proofs.Laid.Old.{old_in_other}
use Rattle.collection_words.proofs.Laid.Sources.{IsCollecting, here_ends}
use Rattle.collection_words.proofs.Laid.Underway.{underway}
use Rattle.walk_laws.specs.Births.{is_uncopied}
use Rattle.walk_laws.specs.Heap.{AreSpaces, HoldsWhole, current_starts, from_space_in, left_starts, places_by}
use Rattle.walk_laws.proofs.Walk.Fields.{each_inside, inside_here, inside_plain}
use Rattle.walk_laws.proofs.Walk.Laid.{emptied, walked_underway}
use Rattle.walk_laws.proofs.Graph.Stands.{apart_own, ascend_once, graph_of, laid_stands, once_append}
use Rattle.walk_laws.proofs.Walk.Walked.{ArePlain}

-- Without a collection.

-- a graph that stands in the words stands in the completed ones
pub stands_completed : (s : State) (places : Places) (words : List ℕ) (g : Graph) → s.collection ≡ None → StandsCommitted places g words s.base s.used → StandsCompleted 0 0 places [] g [] words s
stands_completed s places words g none stands =
    let none_owed : s.used ≡ s.used + owed s = omega (arith, ap owed_by none) in
    subst (λ (ps : Places). StandsCommitted ps g (completed s places [] words) s.base (s.used + owed s)) (sym (places_none s places words))
    (subst (λ (ws : List ℕ). StandsCommitted places g ws s.base (s.used + owed s)) (sym (completed_none s places [] words none))
    (subst (λ (n : ℕ). StandsCommitted places g words s.base n) none_owed stands))

laid_none : (s : State) (words : List ℕ) (name : ℕ → Id) → s.collection ≡ None → (walked : IsWalked words s.base s.used) → IsLaidOut s (places_by name walked.starts) [] words
laid_none s words name none walked =
    let starts = walked.starts in
    let here = sym (addresses-named_places name starts) in
    let nothing : Places = [] in
    record {
      filled = subst (IsFilled words s.base s.used) here walked.filled;
      here = subst (λ (xs : List ℕ). (at : ℕ) → Contains xs at → EachField words at (λ i w. is_gray_field s.collection at i ≡ false → LeadsHere xs (meaning w))) here
          (λ at has n i object below black. inside_here starts _ (each_inside words starts at (walked.inside at has) n i object below));
      from = subst (λ o. MatchOption o (nothing ≡ nothing) (λ k. IsFromSpace s k (places_by name starts) nothing words)) (sym none) refl;
    }

-- the used words end within what a reference can reach
used_top : {s : State} {words : List ℕ} → AreSpaces s words → s.base + s.used ≤ 2097152
used_top {s} spaces = let room = spaced_more s (owed s) spaces.spaced spaces.spaced.room in let small = spaces.small in omega (arith, room, small)

held_none : (s : State) (words : List ℕ) (name : ℕ → Id) → s.collection ≡ None → AreSpaces s words → (walked : IsWalked words s.base s.used) → name s.base ≡ root → KeepApart name walked.starts
    → HoldsWhole s (places_by name walked.starts) [] words (gathered name words walked.starts)
held_none s words name none spaces walked named apart =
    let places = places_by name walked.starts in
    let g = gathered name words walked.starts in
    let placed = gathered_placed name words walked.starts apart in
    record {
      holds = record {
        laid = laid_none s words name none walked;
        stands = stands_completed s places words g none (walked_stands name words s.base s.used walked (used_top spaces) named apart);
      };
      placed = subst (λ (ps : Places). ArePlaced ps g) (sym (append-nil places)) placed;
      placed_in_completed = subst (λ (ps : Places). ArePlaced ps g) (sym (places_none s places words)) placed;
    }

-- Within one.

ascend_ends : (words : List ℕ) (from : ℕ) (starts : List ℕ) (end : ℕ) → AreEndToEnd words from starts end → Ascend from starts
ascend_ends words from [] end ends = tt
ascend_ends words from (at ∷ rest) end (n, same, object, more) = (omega (arith, same), ascend_from (at + 2 + n) (suc at) rest (omega arith) (ascend_ends words (at + 2 + n) rest end more))

-- objects of the one space are none of the other
pub spaces_apart : {s : State} {k : Collection} {places remaining : Places} {words : List ℕ} (is : IsCollecting s k places remaining words) (at : ℕ) → Contains (addresses places) at → Contains (addresses remaining) at → ⊥
spaces_apart {s} {k} is at here there =
    let old = Contains-from_filter (is_uncopied k) is.from.starts at (subst (λ (xs : List ℕ). Contains xs at) is.from.left there) in
    let clash = sym (place_current is.spaced is.laid at here) ∙ old_in_other is at old.0 in cc

-- names that keep the objects of both spaces apart are their own
walked_own : {s : State} {k : Collection} {words : List ℕ} (name : ℕ → Id) (starts lefts : List ℕ) → IsCollecting s k (places_by name starts) (places_by name lefts) words → KeepApart name (starts ++ lefts)
    → HaveOwnNames (places_by name starts ++ places_by name lefts)
walked_own {s} {k} {words} name starts lefts is apart =
    let here = addresses-named_places name starts in
    let there = addresses-named_places name lefts in
    let up = ascend_ends words s.base starts (s.base + s.used) (subst (λ (xs : List ℕ). AreEndToEnd words s.base xs (s.base + s.used)) here (here_ends is.laid)) in
    let up_left = subst (Ascend (other_base s)) (sym is.from.left ∙ there) (ascend_filter (is_uncopied k) (other_base s) is.from.starts (ascend_chain words (other_base s) is.from.starts (other_base s + k.used) is.from.chain)) in
    let once = once_append starts lefts (ascend_once s.base starts up) (ascend_once (other_base s) lefts up_left) (λ at one other.
    spaces_apart is at (subst (λ (xs : List ℕ). Contains xs at) (sym here) one) (subst (λ (xs : List ℕ). Contains xs at) (sym there) other)) in
    subst HaveOwnNames (map-append (λ at. (name at, at)) starts lefts) (apart_own name (starts ++ lefts) once apart)

held_some : (s : State) (k : Collection) (words : List ℕ) (name : ℕ → Id) → s.collection ≡ Some k → AreSpaces s words → (walked : IsCollectionWalked words s.base s.used (emptied s k)) → name s.base ≡ root
    → KeepApart name (walked.starts ++ filter (is_uncopied k) walked.olds)
    → (g : Graph) × HoldsWhole s (places_by name walked.starts) (places_by name (filter (is_uncopied k) walked.olds)) words g
held_some s k words name run spaces walked named apart =
    let starts = walked.starts in
    let lefts = filter (is_uncopied k) walked.olds in
    let places = places_by name starts in
    let here = addresses-named_places name starts in
    let is = underway (walked_underway s k words run spaces walked places (places_by name lefts) here (addresses-named_places name lefts)) in
    let plain : ArePlain places words = λ at has n i object below.
    inside_plain _ _ (each_inside words _ at (walked.inside at (subst (λ (xs : List ℕ). Contains xs at) here has)) n i object below) in
    let first = (filling words s.base s.used starts walked.filled).first in
    let apart_here : KeepApart name starts = λ a b one other. apart a b (Contains-append_left starts lefts a one) (Contains-append_left starts lefts b other) in
    let rooted = ap (address_of places) (sym named) ∙ address_of-named_places name starts s.base apart_here first in
    (graph_of s places (places_by name lefts) words, laid_stands is spaces.small plain (walked_own name starts lefts is apart) rooted)

-- Either way.

-- A graph stands.
pub walked_held : (s : State) (words : List ℕ) (name : ℕ → Id) → AreSpaces s words → name s.base ≡ root → (o : Option Collection) → s.collection ≡ o → (walked : IsWalkedBeside words s.base s.used (from_space_in s o))
    → KeepApart name (current_starts words s.base s.used (from_space_in s o) walked ++ left_starts words s.base s.used (from_space_in s o) walked)
    → (g : Graph) × HoldsWhole s (places_by name (current_starts words s.base s.used (from_space_in s o) walked)) (places_by name (left_starts words s.base s.used (from_space_in s o) walked)) words g
walked_held s words name spaces named None none walked apart =
    (gathered name words walked.starts, held_none s words name none spaces walked named (subst (KeepApart name) (append-nil walked.starts) apart))
walked_held s words name spaces named (Some k) run walked apart = held_some s k words name run spaces walked named apart
