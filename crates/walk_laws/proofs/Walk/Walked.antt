-- The walk of both spaces passes where the words are laid out, and no field leads to a volatile object.
use Rattle.std.proofs.Common.{◌≡◌, ℕ, ◌+◌, Bool, true, false, List, [], ◌++◌, Option, None, Some, refl, sym, ap, ◌∙◌, subst, arith}
use Rattle.std.specs.Prelude.{Contains, slice_index}
use Rattle.std.specs.FinSet.{contains}
use Rattle.std.proofs.lemmas.List.{append-nil}
use Rattle.std.proofs.lemmas.List.Elements.{Contains-append_left}
use Rattle.heap_words.specs.declared.Word.{Word}
use Rattle.heap_words.specs.declared.Word.TheVariants as word
use Rattle.heap_words.specs.Word.{meaning}
use Rattle.heap_spaces.specs.Collection.{Collection}
use Rattle.graph_model.specs.Graph.{Graph}
use Rattle.object_layout.specs.Layout.{object_at, whole_length}
use Rattle.object_layout.specs.Walk.{IsInside, KeepsInside}
use Rattle.object_layout.specs.CollectionWalk.{IsCollectionWalked, open_to}
use Rattle.log_machine.specs.Machine.{State, field_at}
use Rattle.log_machine.specs.Collecting.{other_base}
use Rattle.graph_words.specs.Places.{Places, addresses}
use Rattle.graph_words.proofs.Stands.Seen.{stands_inside}
use Rattle.collection_words.specs.Completed.{StandsCompleted, completed, followed, followed_by, future, moves_from, taken_by}
use Rattle.collection_words.specs.LaidOut.{EachField, StandsOrForwards, is_gray_field}
use Rattle.collection_words.proofs.Laid.Completed.{move_made}
use Rattle.collection_words.proofs.Laid.Followed.{move_placed}
use Rattle.collection_words.proofs.Laid.Sources.{IsCollecting}
use Rattle.collection_words.proofs.Laid.Write.{unmoved_left}
use Rattle.collection_words.proofs.Moves.Ends.{addresses-append}
use Rattle.walk_laws.proofs.Walk.Fields.{IsNotVolatile, back_inside, each_inside, here_inside, inside_plain, keeps_inside}
use Rattle.walk_laws.proofs.Walk.Laid.{emptied}
use Rattle.walk_laws.proofs.Walk.Olds.{chain_counted, chain_met}

-- No field of a current object leads to a volatile one.
abbrev pub ArePlain : Places → List ℕ → Type 0
ArePlain places words = (at : ℕ) → Contains (addresses places) at → EachField words at (λ i w. IsNotVolatile (meaning w))

-- a volatile word is followed to itself
followed_volatile : (s : State) (words : List ℕ) (remaining : Places) (w index : ℕ) → meaning w ≡ Some (word.Volatile index) → followed s words remaining w ≡ w
followed_volatile s words remaining w index is = ap (followed_by s words (moves_from words (addresses remaining) (s.base + s.used)) w) is

-- that is so where a committed graph stands
pub committed_plain : {s : State} {k : Collection} {places remaining : Places} {words : List ℕ} (g : Graph) → IsCollecting s k places remaining words → StandsCompleted 0 0 places remaining g [] words s
    → ArePlain places words
committed_plain {s} {places = places} {remaining = remaining} {words = words} g is stands at has n i object below index volatile =
    let V = completed s places remaining words in
    let future_places = future s words remaining in
    let starts = addresses (places ++ future_places) in
    let placed = subst (λ (xs : List ℕ). Contains xs at) (sym (addresses-append places future_places)) (Contains-append_left (addresses places) (addresses future_places) at has) in
    let made = move_made is at at n (move_placed is.laid at has) object in
    let word_same : slice_index V (field_at at i) ≡ slice_index words (field_at at i) =
    made.fields i below ∙ followed_volatile s words remaining (slice_index words (field_at at i)) index volatile in
    let inside = each_inside V starts at (stands_inside stands at placed) n i made.is below in
    inside_plain starts _ inside index (ap meaning word_same ∙ volatile)

-- The walk.

field_targets : (starts olds : List ℕ) (gray : Bool) (meant : Option Word) → (gray ≡ true → IsInside (starts ++ olds) meant) → (gray ≡ false → IsInside starts meant)
    → IsInside (starts ++ open_to gray olds) meant
field_targets starts olds true meant back here = back refl
field_targets starts olds false meant back here = subst (λ (xs : List ℕ). IsInside xs meant) (sym (append-nil starts)) (here refl)

-- each field of a current object leads to current ones or to the from-space's
pub current_inside : {s : State} {k : Collection} {places remaining : Places} {words : List ℕ} (is : IsCollecting s k places remaining words) → ArePlain places words
    → (at : ℕ) → Contains (addresses places) at → EachField words at (λ i w. IsInside (addresses places ++ is.from.starts) (meaning w))
current_inside {places = places} is plain at has n i object below = back_inside (addresses places) is.from.starts _ (is.from.back at has n i object below) (plain at has n i object below)

current_keeps : {s : State} {k : Collection} {places remaining : Places} {words : List ℕ} (is : IsCollecting s k places remaining words) → ArePlain places words
    → (at : ℕ) → Contains (addresses places) at → KeepsInside words (addresses places ++ open_to (contains k.gray at) is.from.starts) at
current_keeps {k = k} {places = places} {words = words} is plain at has =
    keeps_inside words _ at (λ n i object below. field_targets (addresses places) is.from.starts (contains k.gray at) _
    (λ gray. current_inside is plain at has n i object below)
    (λ black. here_inside (addresses places) _ (is.laid.here at has n i object below (ap (λ o. is_gray_field o at i) is.run ∙ black)) (plain at has n i object below)))

forwarded_none : (words starts : List ℕ) (at : ℕ) (moved : Bool) → moved ≡ true → StandsOrForwards words starts at moved → object_at words at ≡ None
forwarded_none words starts at true was (to, leads, has) = ap (whole_length words at) leads
forwarded_none words starts at false was stands = cc

no_object : (o : Option ℕ) (n : ℕ) → o ≡ None → o ≡ Some n → ⊥
no_object o n none is = cc

old_each : {s : State} {k : Collection} {places remaining : Places} {words : List ℕ} (is : IsCollecting s k places remaining words) (at : ℕ) → Contains is.from.starts at
    → (moved : Bool) → contains k.moved at ≡ moved → EachField words at (λ i w. IsInside is.from.starts (meaning w))
old_each {k = k} {places = places} {words = words} is at has true moved n i object below =
    absurd (no_object (object_at words at) n (forwarded_none words (addresses places) at (contains k.moved at) moved (is.from.forwarded at has)) object)
old_each is at has false unmoved n i object below = is.from.inside at (unmoved_left is.from at has unmoved) n i object below

-- The walk passes.
pub laid_walked : {s : State} {k : Collection} {places remaining : Places} {words : List ℕ} → IsCollecting s k places remaining words → ArePlain places words
    → IsCollectionWalked words s.base s.used (emptied s k)
laid_walked {s} {k} {places} {remaining} {words} is plain =
    let from = emptied s k in
    let starts = addresses places in
    let olds = is.from.starts in
    let objects = chain_met words starts from (other_base s) olds is.from.chain is.from.forwarded in
    let counted = chain_counted words starts from (other_base s) olds (other_base s + k.used) objects in
    record {
      starts = starts;
      olds = olds;
      filled = is.laid.filled;
      old_filled = record { objects = objects; sum = omega (arith, counted, is.from.sum, ap (taken_by words) is.from.left) };
      grays = is.from.grays;
      inside = current_keeps is plain;
      old_inside = λ at has. keeps_inside words olds at (old_each is at has (contains k.moved at) refl);
    }
