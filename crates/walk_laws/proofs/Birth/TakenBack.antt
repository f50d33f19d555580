-- Births after writes that are taken back.
use Rattle.std.proofs.Common.{◌≡◌, ℕ, ◌+◌, ◌<◌, ◌≤◌, inl, inr, Bool, true, false, List, [], ◌∷◌, ◌++◌, Option, None, Some, refl, sym, ap, ◌∙◌, subst, arith}
use Rattle.std.specs.Prelude.{Contains, slice_index}
use Rattle.std.specs.FinSet.{contains}
use Rattle.std.proofs.lemmas.Bool.{and_from, le-leb, lt-ltb}
use Rattle.std.proofs.lemmas.List.{append-nil}
use Rattle.std.proofs.lemmas.List.Elements.{Contains-append_cases, Contains-append_left}
use Rattle.heap_words.specs.declared.Header.TheVariants.{Forward}
use Rattle.heap_words.specs.Header.{header}
use Rattle.heap_spaces.specs.Collection.{Collection}
use Rattle.object_layout.specs.Layout.{birth_at, led, object_at}
use Rattle.object_layout.proofs.LayoutLaws.{object_header}
use Rattle.log_machine.specs.declared.UndoEntry.{UndoEntry}
use Rattle.log_machine.specs.Machine.{State, space_words, taken_back, with_word}
use Rattle.log_machine.specs.Collecting.{other_base}
use Rattle.log_machine.proofs.ListLaws.{AllByRecursion-map}
use Rattle.graph_words.specs.Places.{Places, addresses}
use Rattle.graph_words.specs.Stands.{AreNamedByBirth}
use Rattle.graph_words.proofs.Area.Field.{birth_taken_back}
use Rattle.graph_words.proofs.Stands.Field.{IsField}
use Rattle.graph_words.proofs.Stands.TakenBack.{renamed}
use Rattle.collection_words.specs.Completed.{in_other_space}
use Rattle.collection_words.specs.LaidOut.{AreOldEndToEnd, StandsOrForwards, IsLaidOut, old_length}
use Rattle.collection_words.specs.Writes.{AreBacked, IsHereWrite}
use Rattle.collection_words.proofs.Laid.Old.{collection_within, old_in_other, old_length-object, old_within}
use Rattle.collection_words.proofs.Laid.Sources.{IsCollecting, collecting, here_ends, left_object}
use Rattle.collection_words.proofs.Laid.TakenBack.{backed_left}
use Rattle.collection_words.proofs.Laid.Within.{start_within}
use Rattle.collection_words.proofs.Laid.Write.{as_field, has_left, old_ends_same, unmoved_left, write_laid, write_object, write_old}
use Rattle.collection_words.proofs.Moves.Ends.{addresses-append}
use Rattle.walk_laws.specs.Births.{HasOriginals}
use Rattle.walk_laws.specs.Heap.{AreSpaces, TellsBirths}
use Rattle.walk_laws.proofs.Graph.Beside.{none_left}
use Rattle.walk_laws.proofs.Birth.Born.{olds_once}

-- Names.

-- those of current objects stay
current_birth : (s : State) (places remaining : Places) (words : List ℕ) (us : List UndoEntry) → IsLaidOut s places remaining words → AreBacked places words us → (at : ℕ) → Contains (addresses places) at
    → birth_at (taken_back us words) at ≡ birth_at words at
current_birth s places remaining words us laid backed at has =
    birth_taken_back us words s.base (addresses places) (s.base + s.used) at (here_ends laid)
    (AllByRecursion-map (λ u. IsHereWrite places words u.object u.field u.was) (λ u. IsField words (addresses places) u.object u.field) us (λ u write. as_field write.is) backed) has

-- so do the words of the from-space
old_word : (us : List UndoEntry) {s : State} {k : Collection} {places remaining : Places} {words : List ℕ} → IsCollecting s k places remaining words → AreBacked places words us → (at : ℕ) → in_other_space s at ≡ true
    → slice_index (taken_back us words) at ≡ slice_index words at
old_word [] is backed at other = refl
old_word (u ∷ us) is backed at other = old_word us (write_laid is backed.0) (backed_left is u us backed) at other ∙ write_old is backed.0 at other

-- the birth of an object there is one of them
other_birth : (s : State) (at : ℕ) → other_base s ≤ at → at + 1 < other_base s + space_words s.pages → in_other_space s (at + 1) ≡ true
other_birth s at above below = and_from _ _ (le-leb (other_base s) (at + 1) (omega arith)) (lt-ltb (at + 1) (other_base s + space_words s.pages) below)

old_birth : (us : List UndoEntry) {s : State} {k : Collection} {places remaining : Places} {words : List ℕ} (is : IsCollecting s k places remaining words) → AreBacked places words us → (at : ℕ) → Contains is.from.starts at
    → birth_at (taken_back us words) at ≡ birth_at words at
old_birth us {s} {k} {words = words} is backed at has =
    let lies = old_within words (other_base s) is.from.starts (other_base s + k.used) at is.from.chain has in
    let below = lies.below in
    let space = (collection_within is).used in
    old_word us is backed (at + 1) (other_birth s at lies.above (omega arith))

left_start : {s : State} {k : Collection} {places remaining : Places} {words : List ℕ} (is : IsCollecting s k places remaining words) → (at : ℕ) → Contains (addresses remaining) at → Contains is.from.starts at
left_start is at has = (left_object is.from at has).start

-- the names that births give stay
names_back : (s : State) (places remaining : Places) (words : List ℕ) (us : List UndoEntry) → AreSpaces s words → IsLaidOut s places remaining words → AreBacked places words us → (o : Option Collection) → s.collection ≡ o
    → AreNamedByBirth (places ++ remaining) words → AreNamedByBirth (places ++ remaining) (taken_back us words)
names_back s places remaining words us spaces laid backed None none names =
    let left = none_left s places remaining words none laid in
    let same : places ≡ places ++ remaining = sym (append-nil places) ∙ ap (λ (ps : Places). places ++ ps) (sym left) in
    subst (λ (ps : Places). AreNamedByBirth ps (taken_back us words)) same
    (renamed places words (taken_back us words) (current_birth s places remaining words us laid backed) (subst (λ (ps : Places). AreNamedByBirth ps words) (sym same) names))
names_back s places remaining words us spaces laid backed (Some k) run names =
    let is = collecting k run spaces.spaced spaces.long laid in
    renamed (places ++ remaining) words (taken_back us words) (λ at has.
    elim (Contains-append_cases (addresses places) (addresses remaining) at (subst (λ (xs : List ℕ). Contains xs at) (addresses-append places remaining) has)) [
      | inl here ↦ current_birth s places remaining words us laid backed at here
      | inr there ↦ old_birth us is backed at (left_start is at there)
    ]) names

-- The from-space's objects.

here_among : (places remaining : Places) (at : ℕ) → Contains (addresses places) at → Contains (addresses (places ++ remaining)) at
here_among places remaining at has = subst (λ (xs : List ℕ). Contains xs at) (sym (addresses-append places remaining)) (Contains-append_left (addresses places) (addresses remaining) at has)

-- an object there has as many fields after a write
write_length : {s : State} {k : Collection} {places remaining : Places} {words : List ℕ} {object field word : ℕ} (is : IsCollecting s k places remaining words) → IsHereWrite places words object field word
    → (at : ℕ) → Contains is.from.starts at → (moved : Bool) → contains k.moved at ≡ moved → StandsOrForwards words (addresses places) at moved → old_length (with_word words object field word) at ≡ old_length words at
write_length {places = places} {remaining = remaining} {words = words} {object} {field} {word} is write at has true was (to, leads, current) =
    let others = with_word words object field word in
    let there = start_within is.laid to current in
    let kept = write_object is write to there.fields (here_among places remaining to current) there.object in
    ap (λ h. object_at others (led at h)) (ap header (write_old is write at (old_in_other is at has)) ∙ leads)
    ∙ kept
    ∙ sym (ap (λ h. object_at words (led at h)) leads ∙ there.object)
write_length {places = places} {remaining = remaining} {words = words} {object} {field} {word} is write at has false unmoved (n, stands) =
    let others = with_word words object field word in
    let kept = write_object is write at n (has_left places remaining at (unmoved_left is.from at has unmoved)) stands in
    old_length-object others at n kept ∙ sym (old_length-object words at n stands)

lengths_back : (us : List UndoEntry) {s : State} {k : Collection} {places remaining : Places} {words : List ℕ} → IsCollecting s k places remaining words → AreBacked places words us → (olds : List ℕ)
    → AreOldEndToEnd words (other_base s) olds (other_base s + k.used) → AreOldEndToEnd (taken_back us words) (other_base s) olds (other_base s + k.used)
lengths_back [] is backed olds ends = ends
lengths_back (u ∷ us) {s} {k} {places} {remaining} {words} is backed olds ends =
    let others = with_word words u.object u.field u.was in
    let same = olds_once words (other_base s) olds is.from.starts (other_base s + k.used) ends is.from.chain in
    let kept : (at : ℕ) → Contains olds at → old_length others at ≡ old_length words at =
    λ at has. let start = subst (λ (xs : List ℕ). Contains xs at) same has in write_length is backed.0 at start (contains k.moved at) refl (is.from.forwarded at start) in
    lengths_back us (write_laid is backed.0) (backed_left is u us backed) olds (old_ends_same words others (other_base s) olds (other_base s + k.used) kept ends)

pub forward_one : (words starts : List ℕ) (at to : ℕ) (moved : Bool) → header (slice_index words at) ≡ Some (Forward to) → StandsOrForwards words starts at moved → Contains starts to
forward_one words starts at to true leads (other, is, has) = let same : other ≡ to = one (sym is ∙ leads) in subst (Contains starts) same has
  where
    one : Some (Forward other) ≡ Some (Forward to) → other ≡ to
    one equal = cc
forward_one words starts at to false leads (n, stands) = let clash = sym leads ∙ (object_header words at n stands).0 in cc

-- the from-space still gives all births
originals_back : (s : State) (places remaining : Places) (words : List ℕ) (us : List UndoEntry) → AreSpaces s words → IsLaidOut s places remaining words → AreBacked places words us → (o : Option Collection) → s.collection ≡ o
    → HasOriginals s words o → HasOriginals s (taken_back us words) o
originals_back s places remaining words us spaces laid backed None none has = tt
originals_back s places remaining words us spaces laid backed (Some k) run (olds, ends, told) =
    let is = collecting k run spaces.spaced spaces.long laid in
    let back = taken_back us words in
    let same = olds_once words (other_base s) olds is.from.starts (other_base s + k.used) ends is.from.chain in
    let start : (at : ℕ) → Contains olds at → Contains is.from.starts at = λ at has. subst (λ (xs : List ℕ). Contains xs at) same has in
    let birth : (at : ℕ) → Contains olds at → birth_at back at ≡ birth_at words at = λ at has. old_birth us is backed at (start at has) in (
      olds,
      lengths_back us is backed olds ends,
      record {
        own_births = λ a b one other equal. told.own_births a b one other (sym (birth a one) ∙ equal ∙ birth b other);
        kept = λ at to has leads.
            let led_words = sym (ap header (old_word us is backed at (old_in_other is at (start at has)))) ∙ leads in
            let current = forward_one words (addresses places) at to (contains k.moved at) led_words (is.from.forwarded at (start at has)) in
            current_birth s places remaining words us laid backed to current ∙ told.kept at to has led_words ∙ sym (birth at has);
        moved = told.moved;
      },
    )

-- Births are known after the writes.
pub births_back : (s : State) (places remaining : Places) (words : List ℕ) (us : List UndoEntry) → AreSpaces s words → IsLaidOut s places remaining words → AreBacked places words us
    → TellsBirths s places remaining words → TellsBirths s places remaining (taken_back us words)
births_back s places remaining words us spaces laid backed tells = record {
  names = names_back s places remaining words us spaces laid backed s.collection refl tells.names;
  originals = originals_back s places remaining words us spaces laid backed s.collection refl tells.originals;
}
