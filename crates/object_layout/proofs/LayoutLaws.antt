-- Laws of objects in words.
use Rattle.std.proofs.Common.{◌≡◌, ℕ, ◌+◌, ◌*◌, ◌<◌, ◌≤◌, List, length, Option, None, Some, is_some, refl, sym, ap, ◌∙◌, arith}
use Rattle.std.specs.Prelude.{slice_index, if◌then◌else◌}
use Rattle.std.proofs.lemmas.Bool.{le-leb}
use Rattle.std.proofs.lemmas.List.{length-take, length-drop, get_or_past}
use Rattle.heap_words.specs.declared.Header.{Header}
use Rattle.heap_words.specs.declared.Header.TheVariants.{Length, Forward}
use Rattle.heap_words.specs.Header.{header}
use Rattle.heap_words.proofs.HeaderLaws.{header-header_bits, bits-header, header_zero}
use Rattle.object_layout.specs.Layout.{whole_length, object_at, words_of, field_words, led, standing, stand}

-- an object stands where its header does, if its words are all there
pub object_from_header : (words : List ℕ) (at n : ℕ) → slice_index words at ≡ 4 * n + 1 → n < 511 → at + 2 + n ≤ length words → object_at words at ≡ Some n
object_from_header words at n is small within =
    ap (λ w. whole_length words at (header w)) is
    ∙ ap (whole_length words at) (header-header_bits (Length n) small)
    ∙ ap (λ b. if b then Some n else None) (le-leb (at + 2 + n) (length words) within)

whole_parts : (words : List ℕ) (at n : ℕ) (h : Option Header) → whole_length words at h ≡ Some n → (h ≡ Some (Length n)) × (at + 2 + n ≤ length words)
whole_parts words at n None is = cc
whole_parts words at n (Some (Forward b)) is = cc
whole_parts words at n (Some (Length m)) is = grind arith

-- an object has a header of its length, and its words are all there
pub object_header : (words : List ℕ) (at n : ℕ) → object_at words at ≡ Some n → (header (slice_index words at) ≡ Some (Length n)) × (at + 2 + n ≤ length words)
object_header words at n is = whole_parts words at n (header (slice_index words at)) is

-- an object has at most 510 fields
pub object_small : (words : List ℕ) (at n : ℕ) → object_at words at ≡ Some n → n < 511
object_small words at n is = (bits-header (slice_index words at) (Length n) (object_header words at n is).0).0

-- an object has as many field words as its length says
pub length-field_words : (words : List ℕ) (at n : ℕ) → object_at words at ≡ Some n → length (field_words words at) ≡ n
length-field_words words at n is =
    let within = (object_header words at n is).1 in
    ap (λ o. length (words_of words at o)) is ∙ omega (arith, length-take {A = ℕ}, length-drop {A = ℕ})

-- an object stands at its own address
pub stand_object : (words : List ℕ) (at n : ℕ) → object_at words at ≡ Some n → stand words at ≡ Some at
stand_object words at n is =
    ap (λ h. standing words (led at h)) (object_header words at n is).0
    ∙ ap (λ o. if is_some o then Some at else None) is

standing_parts : (at b : ℕ) (o : Option ℕ) → (if is_some o then Some at else None) ≡ Some b → (n : ℕ) × (at ≡ b) × (o ≡ Some n)
standing_parts at b None is = cc
standing_parts at b (Some n) is = (n, cc, refl)

-- if an address names an object, one stands there
pub object_stand : (words : List ℕ) (at b : ℕ) → stand words at ≡ Some b → (n : ℕ) × (object_at words b ≡ Some n)
object_stand words at b is =
    let a = led at (header (slice_index words at)) in
    let parts = standing_parts a b (object_at words a) is in
    (parts.0, ap (object_at words) (sym parts.1) ∙ parts.2)

-- no address past the words names an object
pub stand_past : (words : List ℕ) (at : ℕ) → length words ≤ at → stand words at ≡ None
stand_past words at past =
    let nothing : header (slice_index words at) ≡ None = ap header (get_or_past words at 0 past) ∙ header_zero in
    ap (λ h. standing words (led at h)) nothing ∙ ap (λ h. if is_some (whole_length words at h) then Some at else None) nothing
