-- A graph stands after a flip from roots as it stood before.
use Rattle.std.proofs.Common.{◌≡◌, ℕ, ◌+◌, List, [], ◌∷◌, ◌++◌, Option, None, Some, is_some, refl, sym, ap, ◌∙◌, subst, arith}
use Rattle.std.specs.Prelude.{Contains, unwrap_or, if◌then◌else◌}
use Rattle.std.specs.FinSet.{contains}
use Rattle.std.proofs.lemmas.Bool.{eq-eqb}
use Rattle.std.proofs.lemmas.List.{append-nil}
use Rattle.heap_words.specs.declared.Word.{Word}
use Rattle.heap_words.specs.declared.Word.TheVariants as word
use Rattle.heap_words.specs.Word.{meaning}
use Rattle.heap_spaces.specs.Collection.{owed_by}
use Rattle.graph_model.specs.Graph.{Graph, root}
use Rattle.graph_model.specs.declared.id.Id.{Id}
use Rattle.relocation.specs.Relocation.{destination, moved_to}
use Rattle.log_machine.specs.declared.UndoEntry.{UndoEntry}
use Rattle.log_machine.specs.Collecting.{other_base, pairs_of}
use Rattle.log_machine.specs.Machine.{State, owed, taken_back}
use Rattle.graph_words.specs.Places.{Places, address_of, addresses}
use Rattle.graph_words.specs.Stands.{Stands}
use Rattle.graph_words.proofs.Area.Field.{AreFields}
use Rattle.graph_words.proofs.Places.Addresses.{some_address}
use Rattle.flip_copy.specs.Copied.{with_base}
use Rattle.flip_copy.proofs.ObjectWordsLaws as flip_words
use Rattle.collection_words.specs.Completed.{StandsCompleted, completed, moves_from, taken_at}
use Rattle.collection_words.specs.Flipped.{HaveParted, LedAlong, WentAlong, WereTranslated}
use Rattle.collection_words.specs.LaidOut.{IsUnderway}
use Rattle.collection_words.specs.Placed.{HaveOwnNames}
use Rattle.collection_words.proofs.Copy.Ascending.{put_destination}
use Rattle.collection_words.proofs.Copy.Named.{named}
use Rattle.collection_words.proofs.Flip.Entries.{flip_stands}
use Rattle.collection_words.proofs.Flip.Laid.{flip_laid}
use Rattle.collection_words.proofs.Flip.Parted.{flip_parts}
use Rattle.collection_words.proofs.Flip.Relocated.{IsFlip}
use Rattle.collection_words.proofs.Laid.Completed.{completed_none}
use Rattle.collection_words.proofs.Laid.Names.{own_names}
use Rattle.collection_words.proofs.Laid.Sources.{here_ends}
use Rattle.collection_words.proofs.Laid.Underway.{underway}
use Rattle.collection_words.proofs.Laid.Within.{start_within}
use Rattle.collection_words.proofs.Moves.Sources.{put_same}
use Rattle.flip_laws.specs.Flip.{AreEntriesOf, CanFlip, collection_begun, copies_of, copy_places, entries_behind, left_places, root_places, state_behind, words_behind}
use Rattle.flip_laws.proofs.Parts.{front_own, parts_own, passing_place}
use Rattle.flip_laws.proofs.Roots.{entry_rooted, flip_begun, flip_flipping, pairs_are, root_moved, root_start, roots_copied, with_base-first, words_are}

-- Names.

-- no two of the copies and of the objects that remain have one name
pub flip_own : (s : State) (places : Places) (words roots : List ℕ) → HaveOwnNames places → HaveOwnNames (copy_places s words roots places ++ left_places s words roots places)
flip_own s places words roots own =
    front_own words (root_places s words roots places) (left_places s words roots places) (other_base s) (parts_own (λ at. contains (collection_begun s words roots).moved at) places own)

-- Objects that went along.

-- a root object of that name stands where its address goes
pub root_goes : {s : State} {places : Places} {words roots : List ℕ} → CanFlip s places words roots → (id : Id) (at : ℕ) → address_of places id ≡ Some at → Contains (with_base s.base roots) at
    → address_of (copy_places s words roots places) id ≡ Some (moved_to (pairs_of (copies_of s words roots)) at)
root_goes {s} {places} {words} {roots} can id at placed has =
    let to = other_base s in
    let chosen = root_places s words roots places in
    let there = passing_place (λ a. contains (collection_begun s words roots).moved a) places id at placed (root_moved can at has) in
    let goes = put_destination words chosen s.base to id at (flip_flipping can).up there in
    let some = some_address (address_of (copy_places s words roots places) id) (put_same words chosen to id ∙ ap is_some there) in
    let moved : moved_to (pairs_of (copies_of s words roots)) at ≡ some.0 =
    ap (λ (ps : List (ℕ × ℕ)). moved_to ps at) (pairs_are can) ∙ ap (λ (o : Option ℕ). unwrap_or o at) (sym goes ∙ some.1) in
    some.1 ∙ ap Some (sym moved)

pub went_along : {s : State} {places : Places} {words roots : List ℕ} → CanFlip s places words roots → HaveOwnNames places → (at : ℕ) → Contains (with_base s.base roots) at
    → WentAlong (pairs_of (copies_of s words roots)) places (copy_places s words roots places) at
went_along {places = places} can own at has =
    let object = named places at own (root_start can at has) in (object.0, object.1, root_goes can object.0 at object.1 has)

led_along : {s : State} {places : Places} {words roots : List ℕ} → CanFlip s places words roots → HaveOwnNames places → (meant : Option Word)
    → ((at : ℕ) → meant ≡ Some (word.Stable at) → Contains (with_base s.base roots) at) → LedAlong (pairs_of (copies_of s words roots)) places (copy_places s words roots places) meant
led_along can own None each = tt
led_along can own (Some word.Null) each = tt
led_along can own (Some (word.Int n)) each = tt
led_along can own (Some (word.Volatile index)) each = tt
led_along can own (Some (word.Stable at)) each = went_along can own at (each at refl)

-- The objects of undo entries went along, and what these would put back leads to such.
pub flip_translated : {s : State} {places : Places} {words roots : List ℕ} → CanFlip s places words roots → HaveOwnNames places → (us : List UndoEntry) → AreEntriesOf s us
    → WereTranslated (pairs_of (copies_of s words roots)) places (copy_places s words roots places) us
flip_translated can own [] are = tt
flip_translated can own (u ∷ us) are =
    let rooted = entry_rooted can u are.0 in
    ((went_along can own u.object rooted.object, led_along can own (meaning u.was) rooted.was), flip_translated can own us are.1)

-- they are of fields of objects
entry_fields : {s : State} {places : Places} {words roots : List ℕ} → CanFlip s places words roots → (us : List UndoEntry) → AreEntriesOf s us → AreFields words (addresses places) us
entry_fields can [] are = tt
entry_fields can (u ∷ us) are =
    let rooted = entry_rooted can u are.0 in
    let start = root_start can u.object rooted.object in
    let object = start_within can.laid u.object start in
    (record { start = start; fields = object.fields; stands = object.object; within = rooted.field object.fields object.object }, entry_fields can us are.1)

-- The graph.

-- The words after the record are laid out.
pub flip_underway : {s : State} {places : Places} {words roots : List ℕ} → CanFlip s places words roots
    → IsUnderway (state_behind s words roots) (collection_begun s words roots) (copy_places s words roots places) (left_places s words roots places) (words_behind s words roots)
flip_underway {s} {places} {words} {roots} can =
    subst (IsUnderway (state_behind s words roots) (collection_begun s words roots) (copy_places s words roots places) (left_places s words roots places)) (words_are can)
    (flip_laid can.none (flip_flipping can) (flip_begun can))

-- A graph that stands in words without a collection stands in the used words.
pub plain_stands : (s : State) (places : Places) (words : List ℕ) {t made : ℕ} {g : Graph} (us : List UndoEntry) → s.collection ≡ None → StandsCompleted t made places [] g us words s
    → Stands t made places g (taken_back us words) s.base s.used
plain_stands s places words {t} {made} {g} us none stands =
    let used : s.used + owed s ≡ s.used = omega (arith, ap owed_by none) in
    subst (λ (m : ℕ). Stands t made places g (taken_back us words) s.base m) used
    (subst (λ (ws : List ℕ). Stands t made places g (taken_back us ws) s.base (s.used + owed s)) (completed_none s places [] words none)
    (subst (λ (ps : Places). Stands t made ps g (taken_back us (completed s places [] words)) s.base (s.used + owed s)) (append-nil places) stands))

-- the root goes to the front of the other space
base_goes : {s : State} {places : Places} {words roots : List ℕ} → CanFlip s places words roots → moved_to (pairs_of (copies_of s words roots)) s.base ≡ other_base s
base_goes {s} {places} {words} {roots} can =
    let to = other_base s in
    let head = with_base-first s.base roots in
    let rest = destination (moves_from words head.0 (to + taken_at words s.base)) s.base in
    ap (λ (ps : List (ℕ × ℕ)). moved_to ps s.base) (pairs_are can)
    ∙ ap (λ (xs : List ℕ). moved_to (moves_from words xs to) s.base) (roots_copied can ∙ head.1)
    ∙ ap (λ b. unwrap_or (if b then Some to else rest) s.base) (eq-eqb s.base s.base refl)

-- The graph stands after a flip from roots.
pub flip_keeps : {s : State} {places : Places} {words roots : List ℕ} {t made : ℕ} {g : Graph} (us : List UndoEntry) → CanFlip s places words roots → AreEntriesOf s us → StandsCompleted t made places [] g us words s
    → StandsCompleted t made (copy_places s words roots places) (left_places s words roots places) g (entries_behind s words roots us) (words_behind s words roots) (state_behind s words roots)
flip_keeps {s} {places} {words} {roots} us can are stands =
    let n = state_behind s words roots in
    let currents = copy_places s words roots places in
    let remaining = left_places s words roots places in
    let flipping = flip_flipping can in
    let begun = flip_begun can in
    let stood = plain_stands s places words us can.none stands in
    let own = own_names places words s.base places (s.base + s.used) (here_ends can.laid) stood.names in
    let is = flip_underway can in
    let flip : IsFlip s n (collection_begun s words roots) places currents remaining words (words_behind s words roots) = record {
      none = can.none;
      laid = can.laid;
      own = own;
      is = underway is;
      own_there = flip_own s places words roots own;
      parted = subst (HaveParted n places currents remaining words) (words_are can) (flip_parts flipping begun.flipped);
    } in
    let first = root_goes can root s.base stood.root_place (flip_words.with_base-first s.base roots) ∙ ap Some (base_goes can) in
    flip_stands (pairs_of (copies_of s words roots)) us flip is.small first (flip_translated can own us are) (entry_fields can us are) stood
