-- The copies of a flip part the objects: the chosen ones are copied, and the others stay.
use Rattle.std.proofs.Common.{◌≡◌, ◌⊎◌, ℕ, suc, ◌+◌, ◌<◌, ◌≤◌, inl, inr, Bool, true, false, cond, List, [], ◌∷◌, ◌++◌, length, get_or, Some, is_some, refl, sym, ap, ◌∙◌, subst, arith}
use Rattle.std.specs.Prelude.{Contains, slice_index}
use Rattle.std.proofs.lemmas.Bool.{and_from, le-leb, lt-ltb}
use Rattle.std.proofs.lemmas.Option.{same_Some}
use Rattle.heap_words.specs.declared.Header.TheVariants.{Forward}
use Rattle.heap_words.specs.Header.{header}
use Rattle.heap_words.proofs.HeaderLaws.{header-header_bits}
use Rattle.graph_model.specs.Graph.{is_same_id}
use Rattle.graph_model.specs.declared.id.Id.{Id}
use Rattle.object_layout.specs.Layout.{object_at}
use Rattle.object_layout.specs.Walk.{AreEndToEnd}
use Rattle.object_layout.proofs.ObjectLaws.{end_to_end_apart, end_to_end_begins}
use Rattle.object_layout.proofs.WalkLaws.{Contains-cases, Contains-head, Contains-none, Contains-rest}
use Rattle.log_machine.specs.Collecting.{other_base}
use Rattle.log_machine.specs.Machine.{State, field_at, space_words}
use Rattle.log_machine.proofs.WordsLaws.{length-put_all}
use Rattle.graph_words.specs.Places.{Places, address_of, addresses}
use Rattle.graph_words.proofs.Places.Addresses.{address_of-Contains, some_address}
use Rattle.graph_words.proofs.Stands.Objects.{word_at_field}
use Rattle.collection_words.specs.Completed.{IsMade, moves_from, places_from, taken_at, taken_by}
use Rattle.collection_words.specs.Copying.{words_to_copy}
use Rattle.collection_words.specs.Flipped.{HasFlipped, HasStayed, HaveParted, IsFlipping, WasCopied, flipped_words}
use Rattle.collection_words.specs.Placed.{Ascend}
use Rattle.collection_words.proofs.Copy.Ascending.{ascend_low}
use Rattle.collection_words.proofs.Copy.Words.{kept_made}
use Rattle.collection_words.proofs.Flip.Words.{LieApart, flip_forward, flip_kept, flip_new, flipping}
use Rattle.collection_words.proofs.Laid.Sources.{here_ends}
use Rattle.collection_words.proofs.Laid.Within.{start_within}
use Rattle.collection_words.proofs.Moves.Ends.{move_within, taken_object}
use Rattle.collection_words.proofs.Moves.Sources.{put_same, put_source}
use Rattle.collection_words.proofs.Relocated.Fronts.{ends_order}
use Rattle.collection_words.proofs.Words.Objects.{object_like}

-- Room.

ascend_raise : (less low : ℕ) (xs : List ℕ) → Ascend less xs → ((x : ℕ) → Contains xs x → low ≤ x) → Ascend low xs
ascend_raise less low [] up above = tt
ascend_raise less low (x ∷ xs) up above = (above x (Contains-head x xs), up.1)

in_rest : (a r : ℕ) (rest rs : List ℕ) → a ≤ r → Ascend (suc r) rs → ((x : ℕ) → Contains rs x → Contains (a ∷ rest) x) → (x : ℕ) → Contains rs x → Contains rest x
in_rest a r rest rs below up inside x has =
    let above = ascend_low (suc r) rs x up has in
    elim (Contains-cases a rest x (inside x has)) [ inl here ↦ absurd (omega arith) | inr later ↦ later ]

-- some of the objects that stand end to end take no more words than all
pub taken_some : (words : List ℕ) (from : ℕ) (starts : List ℕ) (end : ℕ) (roots : List ℕ) → AreEndToEnd words from starts end → Ascend from roots → ((r : ℕ) → Contains roots r → Contains starts r)
    → from + taken_by words roots ≤ end
taken_some words from [] end [] ends up inside = omega arith
taken_some words from [] end (r ∷ rs) ends up inside = absurd (Contains-none r (inside r (Contains-head r rs)))
taken_some words from (a ∷ rest) end [] (n, same, object, more) up inside = let later = ends_order words (a + 2 + n) rest end more in omega arith
taken_some words from (a ∷ rest) end (r ∷ rs) (n, same, object, more) up inside =
    let size = taken_object words a n object in
    let low = up.0 in
    let rest_inside = in_rest a r rest rs (omega arith) up.1 (λ x has. inside x (Contains-rest r rs x has)) in
    elim (Contains-cases a rest r (inside r (Contains-head r rs))) [
      | inl here ↦
          let equal : taken_at words a ≡ taken_at words r = ap (taken_at words) here in
          let later = taken_some words (a + 2 + n) rest end rs more (ascend_raise (suc r) (a + 2 + n) rs up.1 (λ x has. end_to_end_begins words (a + 2 + n) rest end x more (rest_inside x has))) rest_inside in
          omega arith
      | inr behind ↦
          let above = end_to_end_begins words (a + 2 + n) rest end r more behind in
          let later = taken_some words (a + 2 + n) rest end (r ∷ rs) more (above, up.1) (λ x has. elim (Contains-cases r rs x has) [
            | inl first ↦ subst (λ (y : ℕ). Contains rest y) first behind
            | inr other ↦ rest_inside x other
          ]) in
          omega arith
    ]

pub chosen_taken : {s : State} {places chosen remaining : Places} {words : List ℕ} → IsFlipping s places chosen remaining words → taken_by words (addresses chosen) ≤ s.used
chosen_taken {s} {places} {chosen} {words = words} flip =
    let all = taken_some words s.base (addresses places) (s.base + s.used) (addresses chosen) (here_ends flip.laid) flip.up flip.starts in omega arith

-- a used word is none of those that the copies take
used_apart : {s : State} {places chosen remaining : Places} {words : List ℕ} → IsFlipping s places chosen remaining words → (i : ℕ) → s.base ≤ i → i < s.base + s.used
    → (i < other_base s) ⊎ (other_base s + taken_by words (addresses chosen) ≤ i)
used_apart {s} flip i above below =
    let taken = chosen_taken flip in
    let room = flip.spaced.room in
    elim flip.spaced.first [ inl low ↦ inl (omega arith) | inr high ↦ inr (omega arith) ]

pub chosen_apart : {s : State} {places chosen remaining : Places} {words : List ℕ} → IsFlipping s places chosen remaining words → LieApart (addresses chosen) (other_base s) (other_base s + taken_by words (addresses chosen))
chosen_apart flip r has =
    let within = start_within flip.laid r (flip.starts r has) in
    let below = within.below in used_apart flip r within.above (omega arith)

pub chosen_fit : {s : State} {places chosen remaining : Places} {words : List ℕ} → IsFlipping s places chosen remaining words → other_base s + taken_by words (addresses chosen) ≤ length words
chosen_fit {s} flip =
    let taken = chosen_taken flip in
    let room = flip.spaced.room in
    let long = flip.long in omega arith

-- Objects.

pub chosen_made : {s : State} {places chosen remaining : Places} {words : List ℕ} → IsFlipping s places chosen remaining words → (at there n : ℕ) → object_at words at ≡ Some n
    → Contains (moves_from words (addresses chosen) (other_base s)) (at, there) → IsMade (λ w. w) words (flipped_words s words (addresses chosen)) at there n
chosen_made {s} {chosen = chosen} {words = words} flip at there n object move =
    let to = other_base s in
    let others = flipped_words s words (addresses chosen) in
    let size = taken_object words at n object in
    let fits = chosen_fit flip in
    let each : (j : ℕ) → j < 2 + n → slice_index others (there + j) ≡ get_or (words_to_copy words at) j 0 =
    λ j few. flip_new words (addresses chosen) words to at there j (chosen_apart flip) move (omega arith) fits in
    let within = (move_within words (addresses chosen) to at there move).1 in
    let long = length-put_all (flipping words (addresses chosen) to) words in
    let here : there + 0 ≡ there = omega arith in
    record {
      was = object;
      is = object_like words others at there n object (ap (slice_index others) (sym here) ∙ each 0 (omega arith)) (omega arith);
      birth = each 1 (omega arith);
      fields = λ i below.
          let place : field_at there i ≡ there + suc (suc i) = omega arith in
          ap (slice_index others) place ∙ each (suc (suc i)) (omega arith) ∙ sym (word_at_field words at n i object below);
    }

chosen_copied : {s n : State} {places chosen remaining : Places} {words : List ℕ} → IsFlipping s places chosen remaining words → HasFlipped s n → (id : Id) (at : ℕ) → address_of places id ≡ Some at
    → address_of chosen id ≡ Some at → WasCopied n (places_from words chosen (other_base s)) words (flipped_words s words (addresses chosen)) id at
chosen_copied {s} {n} {places} {chosen} {remaining} {words} flip flipped id at placed is =
    let to = other_base s in
    let some = some_address (address_of (places_from words chosen to) id) (put_same words chosen to id ∙ ap is_some is) in
    let source = put_source words chosen to id some.0 some.1 in
    let same : source.0 ≡ at = same_Some source.0 at (sym source.1.stood ∙ is) in
    let move = subst (λ (x : ℕ). Contains (moves_from words (addresses chosen) to) (x, some.0)) same source.1.move in
    let object = start_within flip.laid at (address_of-Contains places id at placed) in
    let above = object.above in
    let below = object.below in
    let room = flip.spaced.room in
    let pages = flipped.pages in
    let base = flipped.base in
    let fits = chosen_fit flip in
    let long = flip.long in
    let limit = flip.small in
    let within = (move_within words (addresses chosen) to at some.0 move).1 in
    let small : some.0 < 2097152 = omega arith in
    let size : space_words n.pages ≡ space_words s.pages = ap space_words pages in
    let back : other_base n ≡ s.base = elim flip.spaced.first [ inl low ↦ omega arith | inr high ↦ omega arith ] in
    record {
      to = some.0;
      fields = object.fields;
      current = some.1;
      old = and_from _ _ (le-leb (other_base n) at (omega arith)) (lt-ltb at (other_base n + space_words n.pages) (omega arith));
      forward = ap header (flip_forward words (addresses chosen) words s.base to at some.0 flip.up (chosen_apart flip) move (omega arith)) ∙ header-header_bits (Forward some.0) small;
      same = chosen_made flip at some.0 object.fields object.object move;
    }

-- an object that is not chosen stays
pub stayed_made : {s : State} {places chosen remaining : Places} {words : List ℕ} → IsFlipping s places chosen remaining words → (at n : ℕ) → Contains (addresses places) at → object_at words at ≡ Some n
    → (Contains (addresses chosen) at → ⊥) → IsMade (λ w. w) words (flipped_words s words (addresses chosen)) at at n
stayed_made {s} {places} {chosen} {words = words} flip at n has object never =
    let to = other_base s in
    let within = start_within flip.laid at has in
    let same = same_Some within.fields n (sym within.object ∙ object) in
    let above = within.above in
    let below = within.below in
    kept_made words (flipped_words s words (addresses chosen)) at n object (length-put_all (flipping words (addresses chosen) to) words) (λ j few.
    flip_kept words (addresses chosen) words to (at + j) (λ chosen_too.
    let start = flip.starts (at + j) chosen_too in
    let there = start_within flip.laid (at + j) start in
    elim (end_to_end_apart words s.base (addresses places) (s.base + s.used) at n (at + j) there.fields (here_ends flip.laid) has object start there.object) [
      | inl one ↦ never (subst (λ (x : ℕ). Contains (addresses chosen) x) (sym one) chosen_too)
      | inr (inl before) ↦ omega arith
      | inr (inr behind) ↦ omega arith
    ]) (used_apart flip (at + j) (omega arith) (omega arith)))

other_stayed : {s : State} {places chosen remaining : Places} {words : List ℕ} → IsFlipping s places chosen remaining words → (id : Id) (at : ℕ) → address_of places id ≡ Some at
    → address_of remaining id ≡ Some at → (Contains (addresses chosen) at → ⊥) → HasStayed remaining words (flipped_words s words (addresses chosen)) id at
other_stayed {places = places} flip id at placed is never =
    let has = address_of-Contains places id at placed in
    let object = start_within flip.laid at has in
    record { fields = object.fields; left = is; same = stayed_made flip at object.fields has object.object never }

both_some : (chosen remaining : Places) (words : List ℕ) (to : ℕ) (id : Id) → is_some (address_of (chosen ++ remaining) id) ≡ is_some (address_of (places_from words chosen to ++ remaining) id)
both_some [] remaining words to id = refl
both_some (p ∷ ps) remaining words to id = either (is_same_id p.0 id) (both_some ps remaining words (to + taken_at words p.1) id)
  where
    either : (b : Bool) → is_some (address_of (ps ++ remaining) id) ≡ is_some (address_of (places_from words ps (to + taken_at words p.1) ++ remaining) id)
        → is_some (cond b (Some p.1) (address_of (ps ++ remaining) id)) ≡ is_some (cond b (Some to) (address_of (places_from words ps (to + taken_at words p.1) ++ remaining) id))
    either true same = refl
    either false same = same

-- The copies of a flip part the objects of places.
pub flip_parts : {s n : State} {places chosen remaining : Places} {words : List ℕ} → IsFlipping s places chosen remaining words → HasFlipped s n
    → HaveParted n places (places_from words chosen (other_base s)) remaining words (flipped_words s words (addresses chosen))
flip_parts {s} {n} {places} {chosen} {remaining} {words} flip flipped = record {
  same = λ id. flip.same id ∙ both_some chosen remaining words (other_base s) id;
  each = λ id at placed. elim (flip.parts id at placed) [
    | inl is ↦ inl (chosen_copied flip flipped id at placed is)
    | inr other ↦ inr (other_stayed flip id at placed other.0 other.1)
  ];
}
