-- The area of a transaction that has gone along with objects that moved has the words of what it made, where objects stand then.
use Rattle.std.proofs.Common.{◌≡◌, inl, inr, ℕ, ◌+◌, ◌-◌, ◌<◌, ◌≤◌, List, [], ◌∷◌, length, get_or, map, Option, Some, None, refl, sym, ap, ◌∙◌, subst, arith}
use Rattle.std.specs.Prelude.{Contains, slice_index}
use Rattle.std.proofs.lemmas.Bool.{cases_eq, cases_lt}
use Rattle.std.proofs.lemmas.Grind.{same_number_lists}
use Rattle.std.proofs.lemmas.Option.{slice_get-get_or}
use Rattle.graph_model.specs.declared.id.Id.{Id}
use Rattle.graph_model.specs.declared.val.Val.{Val}
use Rattle.graph_model.specs.declared.val.Val.TheVariants.{Null, Int, Ref}
use Rattle.graph_model.specs.Graph.{Graph, fields}
use Rattle.heap_words.specs.declared.Header.TheVariants.{Length}
use Rattle.heap_words.specs.Header.{header_bits}
use Rattle.heap_words.specs.Word.{bits, meaning}
use Rattle.heap_words.proofs.HeaderLaws.{bits-header}
use Rattle.relocation.specs.Relocation.{moved_to, translated_by, translated_word}
use Rattle.object_layout.specs.Layout.{birth_at, field_words, object_at}
use Rattle.object_layout.specs.Walk.{AreEndToEnd}
use Rattle.object_layout.proofs.LayoutLaws.{length-field_words, object_header}
use Rattle.object_layout.proofs.WalkLaws.{Contains-head, Contains-rest}
use Rattle.log_machine.specs.Machine.{field_at}
use Rattle.volatile_area.specs.Area.{AreaState, IsArea, IsTranslated, starts_of}
use Rattle.graph_words.specs.Area.{HasMade, area_of, area_words}
use Rattle.graph_words.specs.Places.{Places, IsOwn, address_of, area_used, bits_of, index_of, made_by, place_of, standing, word_of}
use Rattle.graph_words.proofs.Area.Made.{made_short}
use Rattle.graph_words.proofs.Area.Starts.{area_starts}
use Rattle.graph_words.proofs.Area.State.{own_words, starts_of-area_of}
use Rattle.graph_words.proofs.Area.Words.{area_birth, area_ends, area_starts_got, length-area_words}
use Rattle.graph_words.proofs.Stands.Objects.{word_at_field}

-- Words in which the same objects stand end to end are the same words.

-- both have the same object at an address
record AreAlike (ws vs : List ℕ) (at : ℕ) : Type 0 where
  fields : field_words ws at ≡ field_words vs at
  birth : birth_at ws at ≡ birth_at vs at

header_is : (words : List ℕ) (at n : ℕ) → object_at words at ≡ Some n → slice_index words at ≡ header_bits (Length n)
header_is words at n is = (bits-header (slice_index words at) (Length n) (object_header words at n is).0).1

one_alike : (ws vs : List ℕ) (at n j : ℕ) → object_at ws at ≡ Some n → object_at vs at ≡ Some n → AreAlike ws vs at → at ≤ j → j < at + 2 + n → get_or ws j 0 ≡ get_or vs j 0
one_alike ws vs at n j here there alike low high = elim (cases_eq j at) [
  | inl first ↦ ap (λ (k : ℕ). get_or ws k 0) first ∙ header_is ws at n here ∙ sym (header_is vs at n there) ∙ ap (λ (k : ℕ). get_or vs k 0) (sym first)
  | inr behind ↦ elim (cases_eq j (at + 1)) [
    | inl second ↦ ap (λ (k : ℕ). get_or ws k 0) second ∙ alike.birth ∙ ap (λ (k : ℕ). get_or vs k 0) (sym second)
    | inr later ↦
        let i : ℕ = j - (at + 2) in
        let place : j ≡ field_at at i = omega (arith, low, behind, later) in
        let within : i < n = omega (arith, low, behind, later, high) in
        ap (λ (k : ℕ). get_or ws k 0) place ∙ word_at_field ws at n i here within ∙ ap (λ (fs : List ℕ). get_or fs i 0) alike.fields
        ∙ sym (word_at_field vs at n i there within) ∙ ap (λ (k : ℕ). get_or vs k 0) (sym place)
  ]
]

all_alike : (ws vs : List ℕ) (from : ℕ) (starts : List ℕ) (end other : ℕ) → AreEndToEnd ws from starts end → AreEndToEnd vs from starts other → ((at : ℕ) → Contains starts at → AreAlike ws vs at)
    → (j : ℕ) → from ≤ j → j < end → get_or ws j 0 ≡ get_or vs j 0
all_alike ws vs from [] end other first second alike j low high = absurd (omega (arith, first, low, high))
all_alike ws vs from (at ∷ rest) end other first second alike j low high =
    let n = first.0 in
    let here = alike at (Contains-head at rest) in
    let same : second.0 ≡ n = sym (length-field_words vs at second.0 second.2) ∙ ap (λ (l : List ℕ). length l) (sym here.fields) ∙ length-field_words ws at n first.2 in
    elim (cases_lt j (at + 2 + n)) [
      | inl within ↦ one_alike ws vs at n j first.2 (second.2 ∙ ap (λ (k : ℕ). Some k) same) here (omega (arith, first.1, low)) within
      | inr behind ↦
          all_alike ws vs (at + 2 + n) rest end other first.3 (subst (λ (k : ℕ). AreEndToEnd vs (at + 2 + k) rest other) same second.3) (λ x has. alike x (Contains-rest at rest x has)) j behind high
    ]

-- Values.

-- the word of a value that was read where objects stood is translated to its word where they stand
pub value_goes : (places currents : Places) (g : Graph) (pairs : List (ℕ × ℕ)) (x : Val) → meaning (bits_of (place_of places g) x) ≡ Some (word_of (place_of places g) x)
    → ((id : Id) → x ≡ Ref id → (at : ℕ) → address_of places id ≡ Some at → address_of currents id ≡ Some (moved_to pairs at))
    → ((id : Id) → x ≡ Ref id → address_of places id ≡ None → address_of currents id ≡ None) → translated_word pairs (bits_of (place_of places g) x) ≡ bits_of (place_of currents g) x
value_goes places currents g pairs Null means goes stays = ap (translated_by pairs (bits_of (place_of places g) Null)) means
value_goes places currents g pairs (Int n) means goes stays = ap (translated_by pairs (bits_of (place_of places g) (Int n))) means
value_goes places currents g pairs (Ref id) means goes stays = ap (translated_by pairs (bits_of (place_of places g) (Ref id))) means ∙ by_place (address_of places id) refl
  where
    by_place : (o : Option ℕ) → address_of places id ≡ o → translated_by pairs (bits (standing o (index_of g id))) (Some (standing o (index_of g id))) ≡ bits (standing (address_of currents id) (index_of g id))
    by_place None none = ap (λ (o : Option ℕ). bits (standing o (index_of g id))) (sym (stays id refl none))
    by_place (Some at) there = ap (λ (o : Option ℕ). bits (standing o (index_of g id))) (sym (goes id refl at there))

map_goes : (f : ℕ → ℕ) (b d : Val → ℕ) (xs : List Val) → ((x : Val) → Contains xs x → f (b x) ≡ d x) → map f (map b xs) ≡ map d xs
map_goes f b d [] each = refl
map_goes f b d (x ∷ xs) each =
    ap (λ (y : ℕ). y ∷ map f (map b xs)) (each x (Contains-head x xs)) ∙ ap (λ (l : List ℕ). d x ∷ l) (map_goes f b d xs (λ y has. each y (Contains-rest x xs y has)))

-- The area.

pub area_goes : {places currents : Places} {g : Graph} {t made : ℕ} → HasMade places g t made → HasMade currents g t made → (pairs : List (ℕ × ℕ)) (new : AreaState)
    → IsTranslated pairs (area_of (place_of places g) g t made) new → IsArea new
    → ((k : ℕ) → 1 ≤ k → k ≤ made → (x : Val) → Contains (fields g (made_by t k)) x → translated_word pairs (bits_of (place_of places g) x) ≡ bits_of (place_of currents g) x)
    → new ≡ area_of (place_of currents g) g t made
area_goes {places} {currents} {g} {t} {made} has there pairs new translated sound each =
    let old = area_of (place_of places g) g t made in
    let ws = area_words (place_of currents g) g t made in
    let starts : starts_of new ≡ area_starts g t made = translated.objects.starts ∙ starts_of-area_of has in
    let long : length new.words ≡ length ws = translated.objects.used ∙ length-area_words (place_of places g) g t made ∙ sym (length-area_words (place_of currents g) g t made) in
    let ends = subst (λ (xs : List ℕ). AreEndToEnd new.words 0 xs (length new.words)) starts sound.objects in
    let alike : (at : ℕ) → Contains (area_starts g t made) at → AreAlike new.words ws at = λ at within.
    let got = area_starts_got g t made within.0 at (slice_get-get_or (area_starts g t made) within.0 at within.1 ∙ ap (λ (x : ℕ). Some x) within.2) in
    let k = within.0 + 1 in
    let low : 1 ≤ k = omega arith in
    let high : k ≤ made = omega (arith, got.0) in
    let own : IsOwn t made (made_by t k) = record { maker = refl; first = low; last = high } in
    let start = subst (λ (xs : List ℕ). Contains xs at) (sym (starts_of-area_of has)) within in
    record {
      fields =
          translated.fields at start
          ∙ ap (λ (x : ℕ). map (translated_word pairs) (field_words old.words x)) (sym got.1)
          ∙ ap (map (translated_word pairs)) (own_words has (made_by t k) own)
          ∙ map_goes (translated_word pairs) (bits_of (place_of places g)) (bits_of (place_of currents g)) (fields g (made_by t k)) (each k low high)
          ∙ sym (own_words there (made_by t k) own)
          ∙ ap (field_words ws) got.1;
      birth =
          translated.objects.births at start
          ∙ ap (birth_at old.words) (sym got.1)
          ∙ area_birth (place_of places g) g t made (λ j first last. made_short has j first last) k low high
          ∙ sym (area_birth (place_of currents g) g t made (λ j first last. made_short has j first last) k low high)
          ∙ ap (birth_at ws) got.1;
    } in
    let words : new.words ≡ ws = same_number_lists new.words ws long (λ j within.
    all_alike new.words ws 0 (area_starts g t made) (length new.words) (area_used g t made) ends (area_ends (place_of currents g) g t made (λ i first last. made_short has i first last)) alike j (omega arith) within) in
    λ i. record { transaction = translated.objects.transaction i; made = translated.objects.made i; words = words i }
