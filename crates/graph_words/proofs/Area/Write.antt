-- What writes and new objects change of the words of an area.
use Rattle.std.proofs.Common.{List, Some, [], ap, arith, inl, inr, length, length-set, map, refl, replicate, slice_set, subst, suc, sym, unwrap_or, zero, ℕ, ◌++◌, ◌+◌, ◌-◌, ◌<◌, ◌∙◌, ◌∷◌, ◌≡◌, ◌≢◌, ◌≤◌}
use Rattle.std.proofs.lemmas.Bool.{cases_lt}
use Rattle.std.proofs.lemmas.List.{length-replicate, map-set, set-append_left, set-append_right}
use Rattle.std.specs.FinMap.{insert}
use Rattle.heap_words.specs.Header.{birth_bits, header_bits}
use Rattle.heap_words.specs.declared.Header.TheVariants.{Length}
use Rattle.heap_words.specs.declared.Word.{Word}
use Rattle.graph_model.specs.Graph.{Graph, fields, with_field}
use Rattle.graph_model.proofs.Whole.Graph.{fields-insert, fields-insert_other}
use Rattle.graph_model.specs.declared.id.Id.{Id}
use Rattle.graph_model.specs.declared.val.Val.{Val}
use Rattle.graph_model.specs.declared.val.Val.TheVariants.{Null}
use Rattle.log_machine.specs.Machine.{field_at}
use Rattle.graph_words.specs.Area.{HasMade, area_words, object_words}
use Rattle.graph_words.proofs.Area.Words.{length-area_words}
use Rattle.graph_words.proofs.Area.Made.{made_other, made_visible}
use Rattle.graph_words.specs.Places.{IsOwn, Places, address_of, bits_of, index_of, made_by, place_of}
use Rattle.graph_words.proofs.Places.Addresses.{index_of-next, made_within, own_made}
use Rattle.graph_words.proofs.Stands.Own.{new_kept_made, new_places, with_new}
use Rattle.graph_words.proofs.Stands.Visible.{map_bits_of-same, nulls_bits, place_of-with_field}

-- Words that stay.

-- the words of an area stay where those of each of its objects do
pub area_words-same : (place other : Id → Word) (g h : Graph) (t n : ℕ) → ((k : ℕ) → 1 ≤ k → k ≤ n → object_words other h (made_by t k) ≡ object_words place g (made_by t k))
    → area_words other h t n ≡ area_words place g t n
area_words-same place other g h t zero same = refl
area_words-same place other g h t (suc n) same =
    ap (λ ws. ws ++ object_words other h (made_by t (suc n))) (area_words-same place other g h t n (λ k first last. same k first (omega arith)))
    ∙ ap (λ ws. area_words place g t n ++ ws) (same (suc n) (omega arith) (omega arith))

object_words-fields : (place : Id → Word) (g h : Graph) (id : Id) → fields h id ≡ fields g id → object_words place h id ≡ object_words place g id
object_words-fields place g h id same = ap (λ vs. header_bits (Length (length vs)) ∷ birth_bits id.t id.k ∷ map (bits_of place) vs) same

-- a write into another object changes no word
pub area_words-other : (place : Id → Word) (g : Graph) (t n : ℕ) (id : Id) (vs : List Val) → ((k : ℕ) → 1 ≤ k → k ≤ n → made_by t k ≢ id) → area_words place (insert g id vs) t n ≡ area_words place g t n
area_words-other place g t n id vs others = area_words-same place place g (insert g id vs) t n
    (λ k first last. object_words-fields place g (insert g id vs) (made_by t k) (fields-insert_other g id (made_by t k) vs (others k first last)))

-- A word that is written.

set_object_words : (place : Id → Word) (g : Graph) (id : Id) (i : ℕ) (v : Val) → object_words place (with_field g id i v) id ≡ slice_set (object_words place g id) (2 + i) (bits_of place v)
set_object_words place g id i v =
    let next : suc (suc i) ≡ 2 + i = omega arith in
    let birth = birth_bits id.t id.k in
    ap (λ vs. header_bits (Length (length vs)) ∷ birth ∷ map (bits_of place) vs) (fields-insert g id (slice_set (fields g id) i v))
    ∙ ap (λ n. header_bits (Length n) ∷ birth ∷ map (bits_of place) (slice_set (fields g id) i v)) (length-set (fields g id) i v)
    ∙ ap (λ ws. header_bits (Length (length (fields g id))) ∷ birth ∷ ws) (map-set (bits_of place) (fields g id) i v)
    ∙ ap (λ j. slice_set (object_words place g id) j (bits_of place v)) next

no_earlier : (t k n : ℕ) → n < k → (j : ℕ) → 1 ≤ j → j ≤ n → made_by t j ≢ made_by t k
no_earlier t k n later j first last same = let index = ap (λ (x : Id). x.k) same in omega arith

-- a write into an object of the area writes one word
pub area_words-set : (place : Id → Word) (g : Graph) (t n k i : ℕ) (v : Val) → 1 ≤ k → k ≤ n → i < length (fields g (made_by t k))
    → area_words place (with_field g (made_by t k) i v) t n ≡ slice_set (area_words place g t n) (field_at (index_of g (made_by t k)) i) (bits_of place v)
area_words-set place g t zero k i v first last within = absurd (omega arith)
area_words-set place g t (suc n) k i v first last within =
    let id = made_by t k in
    let h = with_field g id i v in
    let new = made_by t (suc n) in
    let w = bits_of place v in
    let before = area_words place g t n in
    let p = field_at (index_of g id) i in
    elim (cases_lt n k) [
      | inl newest ↦
          let same : k ≡ suc n = omega arith in
          let index : index_of g id ≡ length before = ap (λ x. index_of g (made_by t x)) same ∙ index_of-next g t n ∙ sym (length-area_words place g t n) in
          let far : 2 + i ≡ p - length before = omega arith in
          ap (λ ws. ws ++ object_words place h new) (area_words-other place g t n id (slice_set (fields g id) i v) (no_earlier t k n newest))
          ∙ ap (λ x. before ++ object_words place (with_field g (made_by t x) i v) new) same
          ∙ ap (λ ws. before ++ ws) (set_object_words place g new i v)
          ∙ ap (λ j. before ++ slice_set (object_words place g new) j w) far
          ∙ sym (set-append_right before (object_words place g new) (length before) p w refl (omega arith))
      | inr earlier ↦
          let ends = made_within g t k n first earlier in
          let inside : p < length before = omega (arith, length-area_words place g t n) in
          ap (λ ws. ws ++ object_words place h new) (area_words-set place g t n k i v first earlier within)
          ∙ ap (λ ws. slice_set before p w ++ ws) (object_words-fields place g h new
          (fields-insert_other g id new (slice_set (fields g id) i v) (λ same. let index = ap (λ (x : Id). x.k) same in omega arith)))
          ∙ sym (set-append_left before (object_words place g new) p w inside)
    ]

-- The area of a transaction.

-- A write into an object that the transaction made writes the word of the value into its field.
pub own_write_area_words : (places : Places) (g : Graph) (t made : ℕ) (id : Id) (i : ℕ) (v : Val) → IsOwn t made id → i < length (fields g id)
    → area_words (place_of places (with_field g id i v)) (with_field g id i v) t made
    ≡ slice_set (area_words (place_of places g) g t made) (field_at (index_of g id) i) (bits_of (place_of places g) v)
own_write_area_words places g t made id i v own within =
    let place = place_of places g in
    let Written : Id → Type 0 = λ x. i < length (fields g x)
    → area_words place (with_field g x i v) t made ≡ slice_set (area_words place g t made) (field_at (index_of g x) i) (bits_of place v) in
    ap (λ f. area_words f (with_field g id i v) t made) (place_of-with_field places g id i v)
    ∙ subst Written (sym (own_made t made id own)) (area_words-set place g t made id.k i v own.first own.last) within

-- A write into an object that stands in the space changes no word of the area.
pub write_area_words : {t made : ℕ} {places : Places} {g : Graph} → HasMade places g t made → (id : Id) (at i : ℕ) (v : Val) → address_of places id ≡ Some at
    → area_words (place_of places (with_field g id i v)) (with_field g id i v) t made ≡ area_words (place_of places g) g t made
write_area_words {t} {made} {places} {g} has id at i v is =
    ap (λ f. area_words f (with_field g id i v) t made) (place_of-with_field places g id i v)
    ∙ area_words-other (place_of places g) g t made id (slice_set (fields g id) i v) (λ k first last. made_other has k id at is)

new_object_words : (places : Places) (g : Graph) (t made len : ℕ)
    → object_words (place_of places (with_new g t made len)) (with_new g t made len) (made_by t (made + 1)) ≡ header_bits (Length len) ∷ birth_bits t (made + 1) ∷ replicate len 0
new_object_words places g t made len =
    let place = place_of places (with_new g t made len) in
    let birth = birth_bits t (made + 1) in
    ap (λ vs. header_bits (Length (length vs)) ∷ birth ∷ map (bits_of place) vs) (fields-insert g (made_by t (made + 1)) (replicate len Null))
    ∙ ap (λ n. header_bits (Length n) ∷ birth ∷ map (bits_of place) (replicate len Null)) (length-replicate len Null)
    ∙ ap (λ ws. header_bits (Length len) ∷ birth ∷ ws) (nulls_bits place len)

old_object_words : {t made : ℕ} {places : Places} {g : Graph} → HasMade places g t made → (len k : ℕ) → 1 ≤ k → k ≤ made
    → object_words (place_of places (with_new g t made len)) (with_new g t made len) (made_by t k) ≡ object_words (place_of places g) g (made_by t k)
old_object_words {t} {made} {places} {g} has len k first last =
    let id = made_by t k in
    object_words-fields (place_of places (with_new g t made len)) g (with_new g t made len) id (ap (λ o. unwrap_or o []) (new_kept_made g t made len k last))
    ∙ ap (λ ws. header_bits (Length (length (fields g id))) ∷ birth_bits t k ∷ ws)
    (map_bits_of-same places t made (place_of places g) (place_of places (with_new g t made len)) (new_places places g t made len) (fields g id) (made_visible has k first last))

-- A new object's words stand after those of the others: its header, its birth and zeros.
pub new_area_words : {t made : ℕ} {places : Places} {g : Graph} → HasMade places g t made → (len : ℕ)
    → area_words (place_of places (with_new g t made len)) (with_new g t made len) t (made + 1)
    ≡ area_words (place_of places g) g t made ++ header_bits (Length len) ∷ birth_bits t (made + 1) ∷ replicate len 0
new_area_words {t} {made} {places} {g} has len =
    let h = with_new g t made len in
    let next : made + 1 ≡ suc made = omega arith in
    ap (area_words (place_of places h) h t) next
    ∙ ap (λ ws. ws ++ object_words (place_of places h) h (made_by t (suc made))) (area_words-same (place_of places g) (place_of places h) g h t made (old_object_words has len))
    ∙ ap (λ k. area_words (place_of places g) g t made ++ object_words (place_of places h) h (made_by t k)) (sym next)
    ∙ ap (λ ws. area_words (place_of places g) g t made ++ ws) (new_object_words places g t made len)
