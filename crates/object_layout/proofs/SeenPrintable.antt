-- A graph that is seen in words is printable: its numbers are those of words, and no more objects are met than there are words.
use Rattle.std.proofs.Common.{◌≡◌, ℕ, zero, suc, ◌^◌, ◌<◌, ◌≤◌, ◌↔◌, true, false, inl, inr, List, [], ◌∷◌, length, map, Option, Some, None, eqb, unwrap_or, refl, sym, ap, ◌∙◌, arith}
use Rattle.std.specs.Prelude.{slice_get}
use Rattle.std.specs.Option.{option_and_then}
use Rattle.std.specs.List.{AllByRecursion, IsDistinct, list_any}
use Rattle.std.proofs.lemmas.Bool.{eqb-true, ne_eqb, or_cases}
use Rattle.std.proofs.lemmas.List.Elements.{recursion_from_All}
use Rattle.std.proofs.lemmas.Map.Steps.{length-le_from_distinct_below}
use Rattle.heap_words.specs.declared.Word.{Word}
use Rattle.heap_words.specs.declared.Word.TheVariants as word
use Rattle.heap_words.specs.Word.{meaning}
use Rattle.heap_words.proofs.WordLaws.{bits-meaning}
use Rattle.graph_model.specs.declared.id.Id.{Id}
use Rattle.graph_model.specs.declared.val.Val.{Val}
use Rattle.graph_model.specs.declared.val.Val.TheVariants.{Int}
use Rattle.graph_model.specs.Graph.{Graph, is_same_id, fields}
use Rattle.graph_model.proofs.Whole.Graph.{itself}
use Rattle.graph_model.specs.Canon.{Reached, numbered, canon}
use Rattle.graph_model.proofs.Canon.Numbers.{numbered-Reached, numbered-IsDistinct}
use Rattle.graph_model.specs.ClosedGraph.{IsWhole}
use Rattle.graph_model.proofs.Canon.Isomorphism.{AreIsomorphic}
use Rattle.graph_model.proofs.Canon.Matches.{match_there}
use Rattle.graph_model.specs.Printable.{IsPrintable}
use Rattle.graph_model.proofs.Text.Printable.{text_tells_isomorphism}
use Rattle.graph_model.specs.Text.{canon_text}
use Rattle.object_layout.specs.Layout.{object_at, field_words, stand, referred, as_ref, value, IsMet, at_start, along, IsSeenAs}
use Rattle.object_layout.proofs.LayoutLaws.{object_header, object_stand}
use Rattle.object_layout.proofs.SeenLaws.{NamesOne, seen_match, seen_whole}

referred_object : (words : List ℕ) (meant : Option Word) (target : ℕ) → referred words meant ≡ Some target → (n : ℕ) × (object_at words target ≡ Some n)
referred_object words None target is = cc
referred_object words (Some word.Null) target is = cc
referred_object words (Some (word.Int n)) target is = cc
referred_object words (Some (word.Volatile k)) target is = cc
referred_object words (Some (word.Stable b)) target is = object_stand words b target is

-- where something is met an object stands
pub met_object : (words : List ℕ) (start at : ℕ) → IsMet words start at → (n : ℕ) × (object_at words at ≡ Some n)
met_object words start at (at_start is) = object_stand words start at is
met_object words start at (along i w target met here leads) = referred_object words (meaning w) at leads

met_within : (words : List ℕ) (start at : ℕ) → IsMet words start at → at < length words
met_within words start at met =
    let object = met_object words start at met in
    let ends = (object_header words at object.0 object.1).1 in omega arith

-- what is reached in a graph that is seen is met
pub reached_met : (name : ℕ → Id) (words : List ℕ) (start : ℕ) (g : Graph) (id : Id) → IsSeenAs name words start g → Reached g id → (at : ℕ) × IsMet words start at × (name at ≡ id)
reached_met name words start g id seen reached =
    let there = match_there (NamesOne name name words start) g g id (seen_match name name words start g g seen seen) reached in
    ((there.1).0, (there.1).1, (there.1).2)

reference_number : (name : ℕ → Id) (o : Option ℕ) (n : ℕ) → option_and_then (as_ref name) o ≡ Some (Int n) → ⊥
reference_number name None n is = cc
reference_number name (Some at) n is = cc

value_number : (name : ℕ → Id) (words : List ℕ) (w n : ℕ) (meant : Option Word) → meaning w ≡ meant → value name words meant ≡ Some (Int n) → n < 2 ^ 62
value_number name words w n None means is = cc
value_number name words w n (Some word.Null) means is = cc
value_number name words w n (Some (word.Int m)) means is =
    let small = (bits-meaning w (word.Int m) means).0 in
    let same : m ≡ n = cc in omega arith
value_number name words w n (Some (word.Volatile k)) means is = cc
value_number name words w n (Some (word.Stable b)) means is = absurd (reference_number name (stand words b) n is)

field_number : (name : ℕ → Id) (words ws : List ℕ) (vs : List Val) (i n : ℕ) → map (λ w. value name words (meaning w)) ws ≡ map Some vs → slice_get vs i ≡ Some (Int n) → n < 2 ^ 62
field_number name words [] [] i n are is = cc
field_number name words [] (v ∷ vs) i n are is = cc
field_number name words (w ∷ ws) [] i n are is = cc
field_number name words (w ∷ ws) (v ∷ vs) zero n are is =
    let here : value name words (meaning w) ≡ Some (Int n) = cc in value_number name words w n (meaning w) refl here
field_number name words (w ∷ ws) (v ∷ vs) (suc i) n are is =
    let rest : map (λ x. value name words (meaning x)) ws ≡ map Some vs = cc in field_number name words ws vs i n rest is

-- the numbers in what is reached are below 2 ^ 62
pub seen_numbers : (name : ℕ → Id) (words : List ℕ) (start : ℕ) (g : Graph) → IsSeenAs name words start g
    → (id : Id) (i n : ℕ) → Reached g id → slice_get (fields g id) i ≡ Some (Int n) → n < 2 ^ 62
seen_numbers name words start g seen id i n reached is =
    let met = reached_met name words start g id seen reached in
    let known = seen.known met.0 met.1 in
    let same : fields g id ≡ known.fields = ap (fields g) (sym met.2) ∙ ap (λ o. unwrap_or o []) known.is in
    field_number name words (field_words words met.0) known.fields i n known.values (ap (λ vs. slice_get vs i) (sym same) ∙ is)

-- these places have these names, one by one, and are met
abbrev ArePlacesOf : (ℕ → Id) → List ℕ → ℕ → List ℕ → List Id → Type 0
ArePlacesOf name words start [] [] = Unit {0}
ArePlacesOf name words start (at ∷ ats) (id ∷ ids) = (IsMet words start at × (name at ≡ id)) × ArePlacesOf name words start ats ids
ArePlacesOf name words start ats ids = ⊥

places_of : (name : ℕ → Id) (words : List ℕ) (start : ℕ) (g : Graph) (ids : List Id) → IsSeenAs name words start g → AllByRecursion (Reached g) ids → (ats : List ℕ) × ArePlacesOf name words start ats ids
places_of name words start g [] seen all = ([], tt)
places_of name words start g (id ∷ ids) seen all =
    let met = reached_met name words start g id seen all.0 in
    let rest = places_of name words start g ids seen all.1 in
    (met.0 ∷ rest.0, ((met.1, met.2), rest.1))

same_many : (name : ℕ → Id) (words : List ℕ) (start : ℕ) (ats : List ℕ) (ids : List Id) → ArePlacesOf name words start ats ids → length ats ≡ length ids
same_many name words start [] [] are = refl
same_many name words start [] (id ∷ ids) are = absurd are
same_many name words start (at ∷ ats) [] are = absurd are
same_many name words start (at ∷ ats) (id ∷ ids) are = ap suc (same_many name words start ats ids are.1)

places_differ : (name : ℕ → Id) (words : List ℕ) (start at : ℕ) (ats : List ℕ) (id : Id) (ids : List Id) → name at ≡ id → ArePlacesOf name words start ats ids
    → AllByRecursion (λ x. is_same_id id x ≡ false) ids → AllByRecursion (λ b. eqb at b ≡ false) ats
places_differ name words start at [] id [] named are other = tt
places_differ name words start at [] id (x ∷ ids) named are other = absurd are
places_differ name words start at (b ∷ ats) id [] named are other = absurd are
places_differ name words start at (b ∷ ats) id (x ∷ ids) named are other = (
  ne_eqb at b (λ same. let clash = sym other.0 ∙ ap (is_same_id id) (sym (are.0).1 ∙ ap name (sym same) ∙ named) ∙ itself id in cc),
  places_differ name words start at ats id ids named are.1 other.1,
)

places_distinct : (name : ℕ → Id) (words : List ℕ) (start : ℕ) (ats : List ℕ) (ids : List Id) → ArePlacesOf name words start ats ids → IsDistinct is_same_id ids → IsDistinct eqb ats
unfolding IsDistinct
places_distinct name words start [] [] are distinct = tt
places_distinct name words start [] (id ∷ ids) are distinct = absurd are
places_distinct name words start (at ∷ ats) [] are distinct = absurd are
places_distinct name words start (at ∷ ats) (id ∷ ids) are distinct = (
  places_differ name words start at ats id ids (are.0).1 are.1 distinct.0,
  places_distinct name words start ats ids are.1 distinct.1,
)

places_within : (name : ℕ → Id) (words : List ℕ) (start : ℕ) (ats : List ℕ) (ids : List Id) (q : ℕ) → ArePlacesOf name words start ats ids → list_any (eqb q) ats ≡ true → q < length words
places_within name words start [] [] q are is = cc
places_within name words start [] (id ∷ ids) q are is = absurd are
places_within name words start (at ∷ ats) [] q are is = absurd are
places_within name words start (at ∷ ats) (id ∷ ids) q are is = elim (or_cases (eqb q at) (list_any (eqb q) ats) is) [
  | inl here ↦ let same = eqb-true q at here in let within = met_within words start at (are.0).0 in omega arith
  | inr later ↦ places_within name words start ats ids q are.1 later
]

-- no more objects are reached than there are words
pub seen_count : (name : ℕ → Id) (words : List ℕ) (start : ℕ) (g : Graph) → IsSeenAs name words start g → length (numbered g) ≤ length words
seen_count name words start g seen =
    let places = places_of name words start g (numbered g) seen (recursion_from_All (Reached g) (numbered g) (numbered-Reached g)) in
    let few = length-le_from_distinct_below places.0 (length words) (places_distinct name words start places.0 (numbered g) places.1 (numbered-IsDistinct g))
    (λ q. places_within name words start places.0 (numbered g) q places.1) in
    let same = same_many name words start places.0 (numbered g) places.1 in
    omega arith

-- A graph that is seen in words is printable.
pub seen_printable : (name : ℕ → Id) (words : List ℕ) (start : ℕ) (g : Graph) → IsSeenAs name words start g → length words < 2 ^ 64 → IsPrintable g
seen_printable name words start g seen few =
    let count = seen_count name words start g seen in
    record {
      numbers = λ id i n reached is. let small = seen_numbers name words start g seen id i n reached is in omega arith;
      objects = omega arith;
    }

-- The text of a graph that is seen in words is that of the whole printable graphs that are isomorphic to it, and of no others.
pub seen_text_tells : (name : ℕ → Id) (words : List ℕ) (start : ℕ) (g h : Graph) → IsSeenAs name words start g → length words < 2 ^ 64 → IsWhole h → IsPrintable h
    → (canon_text (canon g) ≡ canon_text (canon h)) ↔ AreIsomorphic g h
seen_text_tells name words start g h seen few whole printable =
    text_tells_isomorphism g h (seen_whole name words start g seen) whole (seen_printable name words start g seen few) printable
