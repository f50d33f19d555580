-- The walk of the completed words passes, where all fields lead to objects of the two spaces.
use Rattle.std.proofs.Common.{◌≡◌, ℕ, ◌+◌, ◌<◌, ◌≤◌, ◌==◌, inl, inr, Bool, true, false, List, [], ◌∷◌, ◌++◌, take, Option, None, Some, unwrap_or, refl, sym, ap, ◌∙◌, subst, arith, eq-eqb}
use Rattle.std.specs.Prelude.{Contains, slice_index, if◌then◌else◌}
use Rattle.std.specs.FinSet.{contains}
use Rattle.std.proofs.lemmas.List.Elements.{Contains-append_cases, Contains-append_left, Contains-append_right}
use Rattle.std.proofs.lemmas.Option.{same_Some}
use Rattle.heap_words.specs.declared.Word.{Word}
use Rattle.heap_words.specs.declared.Word.TheVariants as word
use Rattle.heap_words.specs.Header.{header}
use Rattle.heap_words.specs.Word.{bits, meaning}
use Rattle.heap_words.proofs.WordLaws.{meaning-bits}
use Rattle.heap_spaces.specs.Collection.{Collection}
use Rattle.graph_model.specs.declared.id.Id.{Id}
use Rattle.relocation.specs.Relocation.{destination, moved_to}
use Rattle.object_layout.specs.Layout.{object_at}
use Rattle.object_layout.specs.Walk.{IsFilled, IsInside, IsWalked, KeepsInside}
use Rattle.object_layout.proofs.LayoutLaws.{object_header}
use Rattle.object_layout.proofs.WalkLaws.{Contains-cases, Contains-head, Contains-none, Contains-rest, object_take_end}
use Rattle.object_layout.proofs.WalkedLaws.{end_to_end_object}
use Rattle.log_machine.specs.Machine.{State, field_at, owed, words_in}
use Rattle.graph_words.specs.Places.{Places, addresses}
use Rattle.collection_words.specs.Completed.{completed, end_of, followed, followed_by, future, moves_from, places_from, taken_at}
use Rattle.collection_words.specs.LaidOut.{StandsOrForwards, LeadsHere}
use Rattle.collection_words.proofs.Flip.Laid.{move_to}
use Rattle.collection_words.proofs.Laid.Completed.{completed_ends, move_made}
use Rattle.collection_words.proofs.Laid.Filled.{filled_by, filling}
use Rattle.collection_words.proofs.Laid.Followed.{followed_here, move_placed}
use Rattle.collection_words.proofs.Laid.Old.{old_in_other}
use Rattle.collection_words.proofs.Laid.Sources.{IsCollecting, all_fit, all_places, all_taken, source_object}
use Rattle.collection_words.proofs.Laid.Write.{unmoved_left}
use Rattle.collection_words.proofs.Moves.Ends.{addresses-append}
use Rattle.collection_words.proofs.Moves.Sources.{move_source}
use Rattle.collection_words.proofs.Relocated.Fronts.{ends_front}
use Rattle.walk_laws.proofs.Walk.Fields.{inside_more, keeps_inside}
use Rattle.walk_laws.proofs.Walk.Walked.{ArePlain, current_inside}

-- Where objects are put.

picked_there : (words : List ℕ) (p : Id × ℕ) (ps : Places) (to at : ℕ) (b : Bool) → (p.1 == at) ≡ b → (Contains (addresses ps) at → Contains (addresses (places_from words ps (to + taken_at words p.1))) (moved_to (moves_from words (addresses ps) (to + taken_at words p.1)) at))
    → Contains (addresses (p ∷ ps)) at
    → Contains (addresses (places_from words (p ∷ ps) to)) (unwrap_or (if b then Some to else destination (moves_from words (addresses ps) (to + taken_at words p.1)) at) at)
picked_there words p ps to at true same later has = Contains-head to (addresses (places_from words ps (to + taken_at words p.1)))
picked_there words p ps to at false other later has = elim (Contains-cases p.1 (addresses ps) at has) [
  | inl here ↦ let clash = sym other ∙ eq-eqb p.1 at here in cc
  | inr behind ↦ Contains-rest to (addresses (places_from words ps (to + taken_at words p.1))) _ (later behind)
]

-- where an object goes is a place
moved_there : (words : List ℕ) (ps : Places) (to at : ℕ) → Contains (addresses ps) at → Contains (addresses (places_from words ps to)) (moved_to (moves_from words (addresses ps) to) at)
moved_there words [] to at has = absurd (Contains-none at has)
moved_there words (p ∷ ps) to at has = picked_there words p ps to at (p.1 == at) refl (moved_there words ps (to + taken_at words p.1) at) has

-- The addresses of the completed words.

-- all objects there: the current ones and those to come
abbrev pub all_starts : State → Places → Places → List ℕ → List ℕ
all_starts s places remaining words = addresses (places ++ future s words remaining)

here_all : (s : State) (places remaining : Places) (words : List ℕ) (b : ℕ) → Contains (addresses places) b → Contains (all_starts s places remaining words) b
here_all s places remaining words b has =
    subst (λ (xs : List ℕ). Contains xs b) (sym (addresses-append places (future s words remaining))) (Contains-append_left (addresses places) (addresses (future s words remaining)) b has)

later_all : (s : State) (places remaining : Places) (words : List ℕ) (b : ℕ) → Contains (addresses (future s words remaining)) b → Contains (all_starts s places remaining words) b
later_all s places remaining words b has =
    subst (λ (xs : List ℕ). Contains xs b) (sym (addresses-append places (future s words remaining))) (Contains-append_right (addresses places) (addresses (future s words remaining)) b has)

-- they end within the words
pub completed_top : {s : State} {k : Collection} {places remaining : Places} {words : List ℕ} → IsCollecting s k places remaining words → words_in s.pages ≤ 2097152
    → s.base + (s.used + owed s) ≤ 2097152
completed_top is small = omega (arith, all_fit is, all_taken is, is.long)

start_small : {s : State} {k : Collection} {places remaining : Places} {words : List ℕ} → IsCollecting s k places remaining words → words_in s.pages ≤ 2097152
    → (at : ℕ) → Contains (all_starts s places remaining words) at → at < 2097152
start_small {s} {places = places} {remaining = remaining} {words = words} is small at has =
    let V = completed s places remaining words in
    let end = s.base + (s.used + owed s) in
    let there = end_to_end_object (take end V) s.base (all_starts s places remaining words) end at (ends_front V end s.base (all_starts s places remaining words) end (omega arith) (completed_ends is)) has in
    let close = object_take_end V end at there.0 there.1 in
    let top = completed_top is small in omega arith

-- Words that are followed.

end_here : {s : State} {k : Collection} {places remaining : Places} {words : List ℕ} (is : IsCollecting s k places remaining words) (b : ℕ) → Contains is.from.starts b
    → (moved : Bool) → contains k.moved b ≡ moved → StandsOrForwards words (addresses places) b moved
    → Contains (all_starts s places remaining words) (end_of (moves_from words (addresses remaining) (s.base + s.used)) b (header (slice_index words b)))
end_here {s} {places = places} {remaining = remaining} {words = words} is b has true moved (to, leads, current) =
    subst (λ h. Contains (all_starts s places remaining words) (end_of (moves_from words (addresses remaining) (s.base + s.used)) b h)) (sym leads) (here_all s places remaining words to current)
end_here {s} {places = places} {remaining = remaining} {words = words} is b has false unmoved (n, object) =
    subst (λ h. Contains (all_starts s places remaining words) (end_of (moves_from words (addresses remaining) (s.base + s.used)) b h)) (sym (object_header words b n object).0)
    (later_all s places remaining words _ (moved_there words remaining (s.base + s.used) b (unmoved_left is.from b has unmoved)))

stable_inside : {s : State} {k : Collection} {places remaining : Places} {words : List ℕ} → IsCollecting s k places remaining words → words_in s.pages ≤ 2097152 → (to : ℕ)
    → Contains (all_starts s places remaining words) to → IsInside (all_starts s places remaining words) (meaning (bits (word.Stable to)))
stable_inside {s} {places = places} {remaining = remaining} {words = words} is small to has =
    subst (IsInside (all_starts s places remaining words)) (sym (meaning-bits (word.Stable to) (start_small is small to has))) has

-- a word that leads to the objects of the two spaces is followed to one that leads to those of the completed words
pub followed_inside : {s : State} {k : Collection} {places remaining : Places} {words : List ℕ} (is : IsCollecting s k places remaining words) → words_in s.pages ≤ 2097152 → (w : ℕ) (meant : Option Word)
    → meaning w ≡ meant → IsInside (addresses places ++ is.from.starts) meant → IsInside (all_starts s places remaining words) (meaning (followed s words remaining w))
followed_inside {s} {k} {places} {remaining} {words} is small w meant means inside = each meant means inside
  where
    moves : List (ℕ × ℕ)
    moves = moves_from words (addresses remaining) (s.base + s.used)

    Goal : ℕ → Type 0
    Goal v = IsInside (all_starts s places remaining words) (meaning v)

    stays : (m : Word) → meaning w ≡ Some m → followed_by s words moves w (Some m) ≡ w → IsInside (all_starts s places remaining words) (Some m) → Goal (followed s words remaining w)
    stays m is_m same inside_m =
        subst Goal (sym (ap (followed_by s words moves w) is_m ∙ same)) (subst (IsInside (all_starts s places remaining words)) (sym is_m) inside_m)

    each : (m : Option Word) → meaning w ≡ m → IsInside (addresses places ++ is.from.starts) m → Goal (followed s words remaining w)
    each None is_m in_m = absurd in_m
    each (Some word.Null) is_m in_m = stays word.Null is_m refl tt
    each (Some (word.Int n)) is_m in_m = stays (word.Int n) is_m refl tt
    each (Some (word.Volatile index)) is_m in_m = absurd in_m
    each (Some (word.Stable b)) is_m in_m = elim (Contains-append_cases (addresses places) is.from.starts b in_m) [
      | inl here ↦
          let leads = subst (LeadsHere (addresses places)) (sym is_m) here in
          subst Goal (sym (followed_here is.spaced is.laid words w leads)) (subst (IsInside (all_starts s places remaining words)) (sym is_m) (here_all s places remaining words b here))
      | inr old ↦
          let to = end_of moves b (header (slice_index words b)) in
          let leads : followed s words remaining w ≡ bits (word.Stable to) =
          ap (followed_by s words moves w) is_m ∙ ap (λ c. if c then bits (word.Stable to) else w) (old_in_other is b old) in
          subst Goal (sym leads) (stable_inside is small to (end_here is b old (contains k.moved b) refl (is.from.forwarded b old)))
    ]

-- The walk of the completed words.

-- the objects fill what is used and owed
pub completed_filled : {s : State} {k : Collection} {places remaining : Places} {words : List ℕ} → IsCollecting s k places remaining words
    → IsFilled (completed s places remaining words) s.base (s.used + owed s) (all_starts s places remaining words)
completed_filled {s} {places = places} {remaining = remaining} {words = words} is =
    let all = filling words s.base s.used (addresses places) is.laid.filled in
    let made = move_made is s.base s.base 4 (move_placed is.laid s.base all.first) all.root in
    filled_by (completed s places remaining words) s.base (s.used + owed s) (all_starts s places remaining words)
    (record { ends = completed_ends is; first = here_all s places remaining words s.base all.first; root = made.is; birth = made.birth ∙ all.birth })

source_inside : {s : State} {k : Collection} {places remaining : Places} {words : List ℕ} (is : IsCollecting s k places remaining words) → ArePlain places words
    → (at n i : ℕ) → Contains (addresses (places ++ remaining)) at → object_at words at ≡ Some n → i < n
    → IsInside (addresses places ++ is.from.starts) (meaning (slice_index words (field_at at i)))
source_inside {places = places} {remaining = remaining} is plain at n i has object below =
    elim (Contains-append_cases (addresses places) (addresses remaining) at (subst (λ (xs : List ℕ). Contains xs at) (addresses-append places remaining) has)) [
      | inl here ↦ current_inside is plain at here n i object below
      | inr back ↦
          inside_more is.from.starts (addresses places ++ is.from.starts) _ (Contains-append_right (addresses places) is.from.starts) (is.from.inside at back n i object below)
    ]

pub completed_keeps : {s : State} {k : Collection} {places remaining : Places} {words : List ℕ} → IsCollecting s k places remaining words → words_in s.pages ≤ 2097152 → ArePlain places words
    → (to : ℕ) → Contains (all_starts s places remaining words) to → KeepsInside (completed s places remaining words) (all_starts s places remaining words) to
completed_keeps {s} {places = places} {remaining = remaining} {words = words} is small plain to has =
    let V = completed s places remaining words in
    let put = move_to words (places ++ remaining) s.base to (subst (λ (ps : Places). Contains (addresses ps) to) (all_places is.laid) has) in
    let at = put.0 in
    let source = move_source words (addresses (places ++ remaining)) s.base at to put.1 in
    let object = source_object is at source in
    let made = move_made is at to object.0 put.1 object.1 in
    keeps_inside V (all_starts s places remaining words) to (λ n i there below.
    let same = same_Some object.0 n (sym made.is ∙ there) in
    let within : i < object.0 = omega (arith, below, same) in
    subst (λ (w : ℕ). IsInside (all_starts s places remaining words) (meaning w)) (sym (made.fields i within))
    (followed_inside is small (slice_index words (field_at at i)) _ refl (source_inside is plain at object.0 i source object.1 within)))

-- It passes.
abbrev pub completed_walked : {s : State} {k : Collection} {places remaining : Places} {words : List ℕ} → IsCollecting s k places remaining words → words_in s.pages ≤ 2097152 → ArePlain places words
    → IsWalked (completed s places remaining words) s.base (s.used + owed s)
completed_walked {s} {places = places} {remaining = remaining} {words = words} is small plain =
    record { starts = all_starts s places remaining words; filled = completed_filled is; inside = completed_keeps is small plain }
