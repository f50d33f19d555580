-- An object is read back where its words were put, and where its words are known from those of other words.
use Rattle.std.proofs.Common.{◌≡◌, ℕ, ◌<◌, ◌≤◌, ◌+◌, ◌*◌, List, ◌∷◌, length, map, take, drop, get_or, Some, sym, ap, ◌∙◌, arith}
use Rattle.std.specs.Prelude.{slice_index}
use Rattle.std.proofs.lemmas.List.{length-take, length-drop, length-map, get_or-take, get_or-drop, get_or-map, drop-take, drop-drop, ext_get_or, length-take-le}
use Rattle.heap_words.specs.declared.Header.TheVariants.{Length}
use Rattle.heap_words.specs.Header.{header_bits}
use Rattle.heap_words.proofs.HeaderLaws.{bits-header}
use Rattle.object_layout.specs.Layout.{object_at, field_words, birth_at, words_of}
use Rattle.object_layout.proofs.LayoutLaws.{object_from_header, object_header, object_small}

-- An object stands at an address, with these fields and this birth.
pub record IsObjectAt (words : List ℕ) (at birth : ℕ) (fields : List ℕ) : Type 0 where
  pub object : object_at words at ≡ Some (length fields)
  pub birth_word : birth_at words at ≡ birth
  pub fields_words : field_words words at ≡ fields

-- an object stands where its words do
pub object_from_words : (words : List ℕ) (at birth : ℕ) (fields : List ℕ) → length fields < 511
    → take (2 + length fields) (drop at words) ≡ header_bits (Length (length fields)) ∷ birth ∷ fields → IsObjectAt words at birth fields
object_from_words words at birth fields small is =
    let n = length fields in
    let long : length (take (2 + n) (drop at words)) ≡ 2 + n = ap length is ∙ omega arith in
    let within : at + 2 + n ≤ length words = omega (arith, long, length-take (2 + n) (drop at words), length-drop at words) in
    let first : slice_index words at ≡ 4 * n + 1 =
    ap (λ i. get_or words i 0) (omega arith) ∙ sym (get_or-drop at words 0 0) ∙ sym (get_or-take (2 + n) (drop at words) 0 0 (omega arith)) ∙ ap (λ ws. get_or ws 0 0) is in
    let second : birth_at words at ≡ birth =
    sym (get_or-drop at words 1 0) ∙ sym (get_or-take (2 + n) (drop at words) 1 0 (omega arith)) ∙ ap (λ ws. get_or ws 1 0) is in
    let object = object_from_header words at n first small within in
    record {
      object = object;
      birth_word = second;
      fields_words = ap (words_of words at) object ∙ ap (take n) (sym (drop-drop 2 at words)) ∙ sym (drop-take 2 n (drop at words)) ∙ ap (drop 2) is;
    }

-- Objects in other words.

-- the words of an object in other words: the same header and birth, and its fields changed
pub record IsChangedTo (change : ℕ → ℕ) (words others : List ℕ) (at n : ℕ) : Type 0 where
  pub same : length others ≡ length words
  pub header_same : get_or others at 0 ≡ get_or words at 0
  pub birth_same : get_or others (at + 1) 0 ≡ get_or words (at + 1) 0
  pub fields_changed : (i : ℕ) → i < n → get_or others (at + 2 + i) 0 ≡ change (get_or words (at + 2 + i) 0)

changed_fields : (change : ℕ → ℕ) (words others : List ℕ) (at n : ℕ) → at + 2 + n ≤ length words → IsChangedTo change words others at n
    → take n (drop (at + 2) others) ≡ map change (take n (drop (at + 2) words))
changed_fields change words others at n within is =
    let same = is.same in
    let here : length (take n (drop (at + 2) others)) ≡ n = length-take-le n (drop (at + 2) others) (omega (arith, length-drop (at + 2) others)) in
    let there : length (take n (drop (at + 2) words)) ≡ n = length-take-le n (drop (at + 2) words) (omega (arith, length-drop (at + 2) words)) in
    ext_get_or 0 (take n (drop (at + 2) others)) (map change (take n (drop (at + 2) words)))
    (here ∙ sym there ∙ sym (length-map (take n (drop (at + 2) words)) change))
    (λ i less.
    get_or-take n (drop (at + 2) others) i 0 (omega arith)
    ∙ get_or-drop (at + 2) others i 0
    ∙ is.fields_changed i (omega arith)
    ∙ ap change (sym (get_or-drop (at + 2) words i 0) ∙ sym (get_or-take n (drop (at + 2) words) i 0 (omega arith)))
    ∙ sym (get_or-map change (take n (drop (at + 2) words)) i 0 0 (omega arith)))

-- such an object stands there, with the fields changed
pub changed_object : (change : ℕ → ℕ) (words others : List ℕ) (at n : ℕ) → object_at words at ≡ Some n → IsChangedTo change words others at n → object_at others at ≡ Some n
changed_object change words others at n object is =
    let parts = object_header words at n object in
    let same = is.same in
    let told = (bits-header (slice_index words at) (Length n) parts.0).1 in
    object_from_header others at n (is.header_same ∙ told) (object_small words at n object) (omega (arith, parts.1))

-- and these are its field words
pub changed_field_words : (change : ℕ → ℕ) (words others : List ℕ) (at n : ℕ) → object_at words at ≡ Some n → IsChangedTo change words others at n
    → field_words others at ≡ map change (field_words words at)
changed_field_words change words others at n object is =
    ap (words_of others at) (changed_object change words others at n object is)
    ∙ changed_fields change words others at n (object_header words at n object).1 is
    ∙ ap (map change) (sym (ap (words_of words at) object))
