-- Objects that stand elsewhere, or where they were, with their words.
use Rattle.std.proofs.Common.{◌≡◌, ℕ, suc, ◌<◌, List, [], ◌∷◌, length, get_or, Some, refl, sym, ap, ◌∙◌, arith}
use Rattle.std.specs.Prelude.{slice_index}
use Rattle.heap_words.specs.declared.Header.TheVariants.{Length}
use Rattle.heap_words.proofs.HeaderLaws.{bits-header}
use Rattle.object_layout.specs.Layout.{birth_at, field_words, object_at}
use Rattle.object_layout.proofs.LayoutLaws.{length-field_words, object_header}
use Rattle.graph_words.proofs.Stands.Objects.{word_at_field}
use Rattle.collection_words.specs.Completed.{IsMade}
use Rattle.collection_words.specs.Copying.{words_to_copy}

-- an object has its own words
pub made_same : (words : List ℕ) (at n : ℕ) → object_at words at ≡ Some n → IsMade (λ w. w) words words at at n
made_same words at n is = record { was = is; is = is; birth = refl; fields = λ i below. refl }

-- what was made of what was made
pub made_then : (words moved others : List ℕ) (a b c n : ℕ) → IsMade (λ w. w) words moved a b n → IsMade (λ w. w) moved others b c n → IsMade (λ w. w) words others a c n
made_then words moved others a b c n one two = record { was = one.was; is = two.is; birth = two.birth ∙ one.birth; fields = λ i below. two.fields i below ∙ one.fields i below }

list_same : (xs ys : List ℕ) → length xs ≡ length ys → ((i : ℕ) → i < length xs → get_or xs i 0 ≡ get_or ys i 0) → xs ≡ ys
list_same [] [] long each = refl
list_same [] (y ∷ ys) long each = absurd (omega (arith, long))
list_same (x ∷ xs) [] long each = absurd (omega (arith, long))
list_same (x ∷ xs) (y ∷ ys) long each =
    ap (λ (z : ℕ). z ∷ xs) (each 0 (omega arith))
    ∙ ap (λ (l : List ℕ). y ∷ l) (list_same xs ys (omega (arith, long)) (λ i below. each (suc i) (omega (arith, below))))

-- its fields
pub made_fields : (words moved : List ℕ) (a b n : ℕ) → IsMade (λ w. w) words moved a b n → field_words moved b ≡ field_words words a
made_fields words moved a b n made =
    let there = length-field_words moved b n made.is in
    let here = length-field_words words a n made.was in
    list_same (field_words moved b) (field_words words a) (there ∙ sym here) (λ i below.
    let inside : i < n = omega (arith, below, there) in
    sym (word_at_field moved b n i made.is inside) ∙ made.fields i inside ∙ word_at_field words a n i made.was inside)

-- all its words
pub made_words : (words moved : List ℕ) (a b n : ℕ) → IsMade (λ w. w) words moved a b n → words_to_copy moved b ≡ slice_index words a ∷ birth_at words a ∷ field_words words a
made_words words moved a b n made =
    let there = (bits-header (slice_index moved b) (Length n) (object_header moved b n made.is).0).1 in
    let here = (bits-header (slice_index words a) (Length n) (object_header words a n made.was).0).1 in
    ap (λ (h : ℕ). h ∷ birth_at moved b ∷ field_words moved b) (there ∙ sym here)
    ∙ ap (λ (w : ℕ). slice_index words a ∷ w ∷ field_words moved b) made.birth
    ∙ ap (λ (ws : List ℕ). slice_index words a ∷ birth_at words a ∷ ws) (made_fields words moved a b n made)
