-- The words after the records of promoted objects: these stand one after the other from an address on, and no other word changes.
use Rattle.std.proofs.Common.{inl, inr, ◌≡◌, ℕ, ◌<◌, ◌≤◌, ◌+◌, List, [], ◌∷◌, ◌++◌, map, length, get_or, take, drop, Some, refl, sym, ap, ◌∙◌, arith}
use Rattle.std.specs.Prelude.{Contains, fold, slice_index}
use Rattle.std.proofs.lemmas.List.{get_or-map, length-map, length-take-le}
use Rattle.heap_words.specs.declared.Header.TheVariants.{Length}
use Rattle.heap_words.specs.Header.{header_bits}
use Rattle.log_machine.specs.Machine.{field_at, put_record}
use Rattle.log_machine.proofs.WordsFrom.{put_from-before, put_from-behind}
use Rattle.log_machine.proofs.WordsLaws.{length-put_records}
use Rattle.object_layout.specs.Layout.{birth_at, field_words, object_at}
use Rattle.object_layout.specs.Walk.{AreEndToEnd}
use Rattle.object_layout.proofs.WalkLaws.{Contains-cases, Contains-none}
use Rattle.volatile_area.specs.Area.{AreaState}
use Rattle.graph_words.specs.Promotion.{Move, base_of, moved, moved_word, promoted_words, moves_to, words_taken}
use Rattle.graph_words.proofs.Places.Moves.{AreDistinct, moved_of, words_needed}
use Rattle.graph_words.proofs.Seal.Stands.{ends_append, ends_moved}
use Rattle.graph_words.proofs.Stands.Objects.{word_at_field}
use Rattle.graph_words.proofs.Stands.ReadBack.{IsObjectAt, object_from_words}
use Rattle.graph_words.proofs.Stands.Run.{length-moved_words, put_at, put_bases}
use Rattle.collection_words.proofs.Copy.Words.{kept_made}
use Rattle.collection_words.proofs.Relocated.Fronts.{ends_order}

-- the words with these objects of an area from an address on
abbrev pub based : AreaState → List ℕ → ℕ → List ℕ → List ℕ
based area starts address now = fold put_record now (map (base_of area (moves_to area starts address)) (moves_to area starts address))

-- there are as many
pub length-based : (area : AreaState) (starts : List ℕ) (address : ℕ) (now : List ℕ) → length (based area starts address now) ≡ length now
length-based area starts address now = length-put_records (map (base_of area (moves_to area starts address)) (moves_to area starts address)) now

bases-before : (area : AreaState) (moves : List Move) (starts : List ℕ) (address : ℕ) (now : List ℕ) (x : ℕ) → x < address
    → get_or (fold put_record now (map (base_of area moves) (moves_to area starts address))) x 0 ≡ get_or now x 0
bases-before area moves [] address now x before = refl
bases-before area moves (at ∷ rest) address now x before =
    bases-before area moves rest (address + words_taken area at) (put_record now (base_of area moves (at, address))) x (omega arith)
    ∙ put_from-before now address x (promoted_words area moves at) before

bases-behind : (area : AreaState) (moves : List Move) (starts : List ℕ) (address : ℕ) (now : List ℕ) (x : ℕ) → address + words_needed area starts ≤ x
    → get_or (fold put_record now (map (base_of area moves) (moves_to area starts address))) x 0 ≡ get_or now x 0
bases-behind area moves [] address now x behind = refl
bases-behind area moves (at ∷ rest) address now x behind =
    let long = length-moved_words area moves at in
    bases-behind area moves rest (address + words_taken area at) (put_record now (base_of area moves (at, address))) x (omega arith)
    ∙ put_from-behind now address x (promoted_words area moves at) (omega arith)

-- a word before the address stays
pub based-before : (area : AreaState) (starts : List ℕ) (address : ℕ) (now : List ℕ) (x : ℕ) → x < address → slice_index (based area starts address now) x ≡ slice_index now x
based-before area starts address now x before = bases-before area (moves_to area starts address) starts address now x before

-- and one past these objects
pub based-behind : (area : AreaState) (starts : List ℕ) (address : ℕ) (now : List ℕ) (x : ℕ) → address + words_needed area starts ≤ x
    → slice_index (based area starts address now) x ≡ slice_index now x
based-behind area starts address now x behind = bases-behind area (moves_to area starts address) starts address now x behind

-- Objects of an area that can be put elsewhere: none is among them twice, and the header of each gives its length.
pub record AreWhole (area : AreaState) (starts : List ℕ) : Type 0 where
  pub distinct : AreDistinct starts
  pub few : (at : ℕ) → Contains starts at → length (field_words area.words at) < 511
  pub header : (at : ℕ) → Contains starts at → slice_index area.words at ≡ header_bits (Length (length (field_words area.words at)))

-- each of them stands where it goes
pub based_object : {area : AreaState} {starts : List ℕ} → AreWhole area starts → (address : ℕ) (now : List ℕ) → address + words_needed area starts ≤ length now → (at new : ℕ) → Contains starts at
    → moved (moves_to area starts address) at ≡ Some new
    → IsObjectAt (based area starts address now) new (birth_at area.words at) (map (moved_word (moves_to area starts address)) (field_words area.words at))
based_object {area} {starts} are address now fits at new has there =
    let moves = moves_to area starts address in
    let ws = map (moved_word moves) (field_words area.words at) in
    let long : length ws ≡ length (field_words area.words at) = length-map (field_words area.words at) (moved_word moves) in
    let run : take (words_taken area at) (drop new (based area starts address now)) ≡ promoted_words area moves at =
    ap (λ xs. take (words_taken area at) (drop new xs)) (put_bases area moves starts address now fits)
    ∙ put_at area moves starts address (take address now) (drop (address + words_needed area starts) now) at new (length-take-le address now (omega arith)) there in
    object_from_words (based area starts address now) new (birth_at area.words at) ws (omega (arith, long, are.few at has))
    (ap (λ n. take (2 + n) (drop new (based area starts address now))) long ∙ run
    ∙ ap (λ h. h ∷ birth_at area.words at ∷ ws) (are.header at has ∙ ap (λ n. header_bits (Length n)) (sym long)))

-- with its fields after the move
pub based_word : {area : AreaState} {starts : List ℕ} → AreWhole area starts → (address : ℕ) (now : List ℕ) → address + words_needed area starts ≤ length now → (at new i : ℕ) → Contains starts at
    → moved (moves_to area starts address) at ≡ Some new → i < length (field_words area.words at)
    → slice_index (based area starts address now) (field_at new i) ≡ moved_word (moves_to area starts address) (get_or (field_words area.words at) i 0)
based_word {area} {starts} are address now fits at new i has there within =
    let moves = moves_to area starts address in
    let others = based area starts address now in
    let object = based_object are address now fits at new has there in
    let long = length-map (field_words area.words at) (moved_word moves) in
    word_at_field others new (length (map (moved_word moves) (field_words area.words at))) i object.object (omega arith)
    ∙ ap (λ ws. get_or ws i 0) object.fields_words ∙ get_or-map (moved_word moves) (field_words area.words at) i 0 0 within

-- Objects end to end.

-- objects stay end to end where the words before their end stay
pub ends_kept : (words others : List ℕ) (from : ℕ) (starts : List ℕ) (end : ℕ) → length others ≡ length words → ((x : ℕ) → x < end → slice_index others x ≡ slice_index words x)
    → AreEndToEnd words from starts end → AreEndToEnd others from starts end
ends_kept words others from [] end long same ends = ends
ends_kept words others from (at ∷ rest) end long same (n, here, object, more) =
    let later = ends_order words (at + 2 + n) rest end more in
    (n, here, (kept_made words others at n object long (λ j few. same (at + j) (omega arith))).is, ends_kept words others (at + 2 + n) rest end long same more)

-- each ends where they end, or before
pub ends_below : (words : List ℕ) (from : ℕ) (starts : List ℕ) (end at : ℕ) → AreEndToEnd words from starts end → Contains starts at → (n : ℕ) × (object_at words at ≡ Some n) × (at + 2 + n ≤ end)
ends_below words from [] end at ends has = absurd (Contains-none at has)
ends_below words from (a ∷ rest) end at (n, same, object, more) has = elim (Contains-cases a rest at has) [
  | inl here ↦
      let later = ends_order words (a + 2 + n) rest end more in
      (n, ap (object_at words) (sym here) ∙ object, omega arith)
  | inr behind ↦ ends_below words (a + 2 + n) rest end at more behind
]

-- the objects that follow those that end at the address
pub based_ends : {area : AreaState} {starts : List ℕ} → AreWhole area starts → (address : ℕ) (now : List ℕ) (from : ℕ) (xs : List ℕ) → address + words_needed area starts ≤ length now
    → AreEndToEnd now from xs address
    → AreEndToEnd (based area starts address now) from (xs ++ map (λ (m : Move). m.1) (moves_to area starts address)) (address + words_needed area starts)
based_ends {area} {starts} are address now from xs fits ends =
    let others = based area starts address now in
    let moves = moves_to area starts address in
    ends_append others from xs (map (λ (m : Move). m.1) moves) address (address + words_needed area starts)
    (ends_kept now others from xs address (length-based area starts address now) (λ x before. based-before area starts address now x before) ends)
    (ends_moved area others starts address (λ m has.
    let there = moved_of area starts address m are.distinct has in
    (based_object are address now fits m.0 m.1 there.0 there.1).object ∙ ap Some (length-map (field_words area.words m.0) (moved_word moves))))
