-- Laws of the words of an area: where the objects of the transaction stand in them, and what a write and a new object change.
use Rattle.std.proofs.Common.{Contains, List, Some, ap, arith, get_or, inl, inr, length, length-append, map, refl, slice_get, subst, suc, sym, zero, ℕ, ◌*◌, ◌++◌, ◌+◌, ◌-◌, ◌<◌, ◌∙◌, ◌∷◌, ◌≡◌, ◌≤◌}
use Rattle.std.proofs.lemmas.Bool.{cases_lt}
use Rattle.std.proofs.lemmas.List.{length-map, length_push}
use Rattle.std.proofs.lemmas.List.Elements.{Contains-get_or}
use Rattle.std.proofs.lemmas.Option.{slice_get-get_or}
use Rattle.heap_words.specs.Header.{birth_bits, header_bits}
use Rattle.heap_words.specs.declared.Header.TheVariants.{Length}
use Rattle.heap_words.specs.declared.Word.{Word}
use Rattle.graph_model.specs.Graph.{Graph, fields}
use Rattle.graph_model.specs.declared.id.Id.{Id}
use Rattle.object_layout.specs.Layout.{birth_at, field_words, object_at}
use Rattle.object_layout.proofs.ObjectLaws.{birth_at_append, birth_at_behind, end_to_end_append, end_to_end_push, field_words_append, field_words_behind, object_append, object_behind}
use Rattle.object_layout.specs.Walk.{AreEndToEnd}
use Rattle.graph_words.proofs.Area.Starts.{area_starts}
use Rattle.graph_words.specs.Area.{area_words, object_words}
use Rattle.graph_words.proofs.Places.Lists.{got_of_push}
use Rattle.graph_words.proofs.Area.Made.{made_own}
use Rattle.graph_words.specs.Places.{IsOwn, area_used, bits_of, index_of, made_by, size_of}
use Rattle.graph_words.proofs.Places.Addresses.{index_of-next, own_made}

-- Lengths.

-- an object has as many words as it takes
pub length-object_words : (place : Id → Word) (g : Graph) (id : Id) → length (object_words place g id) ≡ size_of g id
length-object_words place g id = omega (arith, length-map (fields g id) (bits_of place))

-- the area has as many words as its objects take
pub length-area_words : (place : Id → Word) (g : Graph) (t n : ℕ) → length (area_words place g t n) ≡ area_used g t n
length-area_words place g t zero = refl
length-area_words place g t (suc n) =
    length-append (area_words place g t n) (object_words place g (made_by t (suc n)))
    ∙ ap (λ x. x + length (object_words place g (made_by t (suc n)))) (length-area_words place g t n)
    ∙ ap (λ x. area_used g t n + x) (length-object_words place g (made_by t (suc n)))

-- each object has its start
pub length-area_starts : (g : Graph) (t n : ℕ) → length (area_starts g t n) ≡ n
length-area_starts g t zero = refl
length-area_starts g t (suc n) = omega (arith, length_push (area_starts g t n) (area_used g t n), length-area_starts g t n)

-- The objects.

-- the first n objects that transaction t made have lengths that headers can hold
abbrev pub AreShort : Graph → ℕ → ℕ → Type 0
AreShort g t n = (k : ℕ) → 1 ≤ k → k ≤ n → length (fields g (made_by t k)) ≤ 510

fewer_short : (g : Graph) (t n : ℕ) → AreShort g t (suc n) → AreShort g t n
fewer_short g t n short k first last = short k first (omega arith)

header_of : (place : Id → Word) (g : Graph) (id : Id) → object_words place g id ≡ (4 * length (map (bits_of place) (fields g id)) + 1) ∷ birth_bits id.t id.k ∷ map (bits_of place) (fields g id)
header_of place g id = ap (λ n. (4 * n + 1) ∷ birth_bits id.t id.k ∷ map (bits_of place) (fields g id)) (sym (length-map (fields g id) (bits_of place)))

short_words : (place : Id → Word) (g : Graph) (id : Id) → length (fields g id) ≤ 510 → length (map (bits_of place) (fields g id)) < 511
short_words place g id short = omega (arith, length-map (fields g id) (bits_of place))

-- an object whose words stand after others stands there
pub object_words_behind : (place : Id → Word) (g : Graph) (id : Id) (words : List ℕ) → length (fields g id) ≤ 510
    → object_at (words ++ object_words place g id) (length words) ≡ Some (length (fields g id))
object_words_behind place g id words short =
    ap (λ new. object_at (words ++ new) (length words)) (header_of place g id)
    ∙ object_behind words (birth_bits id.t id.k) (map (bits_of place) (fields g id)) (short_words place g id short)
    ∙ ap Some (length-map (fields g id) (bits_of place))

fields_behind : (place : Id → Word) (g : Graph) (id : Id) (words : List ℕ) → length (fields g id) ≤ 510
    → field_words (words ++ object_words place g id) (length words) ≡ map (bits_of place) (fields g id)
fields_behind place g id words short =
    ap (λ new. field_words (words ++ new) (length words)) (header_of place g id)
    ∙ field_words_behind words (birth_bits id.t id.k) (map (bits_of place) (fields g id)) (short_words place g id short)

here_index : (place : Id → Word) (g : Graph) (t n k : ℕ) → k ≡ suc n → index_of g (made_by t k) ≡ length (area_words place g t n)
here_index place g t n k same = ap (λ x. index_of g (made_by t x)) same ∙ index_of-next g t n ∙ sym (length-area_words place g t n)

-- each object stands at its index
pub area_object : (place : Id → Word) (g : Graph) (t n : ℕ) → AreShort g t n → (k : ℕ) → 1 ≤ k → k ≤ n
    → object_at (area_words place g t n) (index_of g (made_by t k)) ≡ Some (length (fields g (made_by t k)))
area_object place g t zero short k first last = absurd (omega arith)
area_object place g t (suc n) short k first last = elim (cases_lt n k) [
  | inl newest ↦
      let same : k ≡ suc n = omega arith in
      ap (object_at (area_words place g t (suc n))) (here_index place g t n k same)
      ∙ object_words_behind place g (made_by t (suc n)) (area_words place g t n) (short (suc n) (omega arith) (omega arith))
      ∙ ap (λ x. Some (length (fields g (made_by t x)))) (sym same)
  | inr before ↦
      object_append (area_words place g t n) (object_words place g (made_by t (suc n))) (index_of g (made_by t k)) (length (fields g (made_by t k)))
      (area_object place g t n (fewer_short g t n short) k first before)
]

-- with its birth
pub area_birth : (place : Id → Word) (g : Graph) (t n : ℕ) → AreShort g t n → (k : ℕ) → 1 ≤ k → k ≤ n → birth_at (area_words place g t n) (index_of g (made_by t k)) ≡ birth_bits t k
area_birth place g t zero short k first last = absurd (omega arith)
area_birth place g t (suc n) short k first last = elim (cases_lt n k) [
  | inl newest ↦
      let same : k ≡ suc n = omega arith in
      ap (birth_at (area_words place g t (suc n))) (here_index place g t n k same)
      ∙ birth_at_behind (area_words place g t n) (header_bits (Length (length (fields g (made_by t (suc n)))))) (birth_bits t (suc n)) (map (bits_of place) (fields g (made_by t (suc n))))
      ∙ ap (birth_bits t) (sym same)
  | inr before ↦
      birth_at_append (area_words place g t n) (object_words place g (made_by t (suc n))) (index_of g (made_by t k)) (length (fields g (made_by t k)))
      (area_object place g t n (fewer_short g t n short) k first before)
      ∙ area_birth place g t n (fewer_short g t n short) k first before
]

-- and the words of its values
pub area_fields : (place : Id → Word) (g : Graph) (t n : ℕ) → AreShort g t n → (k : ℕ) → 1 ≤ k → k ≤ n
    → field_words (area_words place g t n) (index_of g (made_by t k)) ≡ map (bits_of place) (fields g (made_by t k))
area_fields place g t zero short k first last = absurd (omega arith)
area_fields place g t (suc n) short k first last = elim (cases_lt n k) [
  | inl newest ↦
      let same : k ≡ suc n = omega arith in
      ap (field_words (area_words place g t (suc n))) (here_index place g t n k same)
      ∙ fields_behind place g (made_by t (suc n)) (area_words place g t n) (short (suc n) (omega arith) (omega arith))
      ∙ ap (λ x. map (bits_of place) (fields g (made_by t x))) (sym same)
  | inr before ↦
      field_words_append (area_words place g t n) (object_words place g (made_by t (suc n))) (index_of g (made_by t k)) (length (fields g (made_by t k)))
      (area_object place g t n (fewer_short g t n short) k first before)
      ∙ area_fields place g t n (fewer_short g t n short) k first before
]

-- The objects of an area stand end to end from its first word on.
pub area_ends : (place : Id → Word) (g : Graph) (t n : ℕ) → AreShort g t n → AreEndToEnd (area_words place g t n) 0 (area_starts g t n) (area_used g t n)
area_ends place g t zero short = refl
area_ends place g t (suc n) short =
    let id = made_by t (suc n) in
    let long : length (area_words place g t n) ≡ area_used g t n = length-area_words place g t n in
    let object : object_at (area_words place g t (suc n)) (area_used g t n) ≡ Some (length (fields g id)) =
    ap (object_at (area_words place g t (suc n))) (sym long) ∙ object_words_behind place g id (area_words place g t n) (short (suc n) (omega arith) (omega arith)) in
    let end : area_used g t n + 2 + length (fields g id) ≡ area_used g t n + size_of g id = omega arith in
    subst (λ (x : ℕ). AreEndToEnd (area_words place g t (suc n)) 0 (area_starts g t (suc n)) x) end
    (end_to_end_push (area_words place g t (suc n)) 0 (area_starts g t n) (area_used g t n) (length (fields g id))
    (end_to_end_append (area_words place g t n) (object_words place g id) 0 (area_starts g t n) (area_used g t n) (area_ends place g t n (fewer_short g t n short))) object)

-- the start at a place is the index of that object
pub area_starts_got : (g : Graph) (t n i at : ℕ) → slice_get (area_starts g t n) i ≡ Some at → (i < n) × (index_of g (made_by t (i + 1)) ≡ at)
area_starts_got g t zero i at is = cc
area_starts_got g t (suc n) i at is = elim (got_of_push (area_starts g t n) (area_used g t n) i at is) [
  | inl there ↦ let before = area_starts_got g t n i at there in (omega arith, before.1)
  | inr last ↦
      let here : i ≡ n = last.0 ∙ length-area_starts g t n in
      let next : i + 1 ≡ suc n = omega arith in
      (omega arith, ap (λ k. index_of g (made_by t k)) next ∙ index_of-next g t n ∙ last.1)
]

-- each start is the index of an object that was made
pub area_starts_own : (g : Graph) (t n at : ℕ) → Contains (area_starts g t n) at → (id : Id) × IsOwn t n id × (index_of g id ≡ at)
area_starts_own g t n at (i, within, is) =
    let got = area_starts_got g t n i at (slice_get-get_or (area_starts g t n) i at within ∙ ap Some is) in
    (made_by t (i + 1), made_own t n (i + 1) (omega arith) (omega arith), got.1)

-- and the index of each is a start
pub area_starts_Contains : (g : Graph) (t n : ℕ) (id : Id) → IsOwn t n id → Contains (area_starts g t n) (index_of g id)
area_starts_Contains g t n id own =
    let first = own.first in
    let last = own.last in
    let i = id.k - 1 in
    let within : i < length (area_starts g t n) = omega (arith, length-area_starts g t n) in
    let next : i + 1 ≡ id.k = omega arith in
    let at = get_or (area_starts g t n) i 0 in
    let got = area_starts_got g t n i at (slice_get-get_or (area_starts g t n) i 0 within) in
    subst (λ (x : ℕ). Contains (area_starts g t n) x) (sym got.1 ∙ ap (λ k. index_of g (made_by t k)) next ∙ ap (index_of g) (sym (own_made t n id own)))
    (Contains-get_or (area_starts g t n) i 0 within)
