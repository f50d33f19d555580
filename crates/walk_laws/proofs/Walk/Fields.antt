-- What is said of the fields of an object by their words or by their addresses.
use Rattle.std.proofs.Common.{◌≡◌, ◌⊎◌, inl, inr, ℕ, zero, suc, ◌<◌, List, [], ◌∷◌, ◌++◌, length, get_or, Option, None, Some, refl, sym, ap, ◌∙◌, subst, arith}
use Rattle.std.specs.Prelude.{Contains, slice_get, slice_index}
use Rattle.std.proofs.lemmas.List.Elements.{Contains-append_cases, Contains-append_left, Contains-append_right}
use Rattle.heap_words.specs.declared.Word.{Word}
use Rattle.heap_words.specs.declared.Word.TheVariants as word
use Rattle.heap_words.specs.Word.{meaning}
use Rattle.object_layout.specs.Layout.{field_words, object_at, words_of}
use Rattle.object_layout.specs.Walk.{IsInside, KeepsInside}
use Rattle.object_layout.proofs.LayoutLaws.{length-field_words}
use Rattle.log_machine.specs.Machine.{field_at}
use Rattle.graph_words.proofs.Stands.Objects.{word_at_field}
use Rattle.collection_words.specs.LaidOut.{EachField, LeadsHere, MayLeadBack}

get_there : (xs : List ℕ) (i : ℕ) → i < length xs → slice_get xs i ≡ Some (get_or xs i 0)
get_there [] i below = absurd (omega arith)
get_there (x ∷ xs) zero below = refl
get_there (x ∷ xs) (suc i) below = get_there xs i (omega arith)

got_within : (xs : List ℕ) (i w : ℕ) → slice_get xs i ≡ Some w → (i < length xs) × (get_or xs i 0 ≡ w)
got_within [] i w is = cc
got_within (x ∷ xs) zero w is = (omega arith, cc)
got_within (x ∷ xs) (suc i) w is = let later = got_within xs i w is in (omega (arith, later.0), later.1)

-- fields that keep inside do so at each address
pub each_inside : (words may : List ℕ) (at : ℕ) → KeepsInside words may at → EachField words at (λ i w. IsInside may (meaning w))
each_inside words may at keeps n i object below =
    let place = word_at_field words at n i object below in
    let long = length-field_words words at n object in
    keeps i (slice_index words (field_at at i)) (get_there (field_words words at) i (omega arith) ∙ ap Some (sym place))

no_word : (words : List ℕ) (at i w : ℕ) (o : Option ℕ) → o ≡ None → slice_get (words_of words at o) i ≡ Some w → ⊥
no_word words at i w None none is = cc
no_word words at i w (Some n) none is = cc

object_or_none : (o : Option ℕ) → (o ≡ None) ⊎ ((n : ℕ) × (o ≡ Some n))
object_or_none None = inl refl
object_or_none (Some n) = inr (n, refl)

-- and the other way round
pub keeps_inside : (words may : List ℕ) (at : ℕ) → EachField words at (λ i w. IsInside may (meaning w)) → KeepsInside words may at
keeps_inside words may at each i w is = elim (object_or_none (object_at words at)) [
  | inl none ↦ absurd (no_word words at i w (object_at words at) none is)
  | inr there ↦
      let got = got_within (field_words words at) i w is in
      let long = length-field_words words at there.0 there.1 in
      let below : i < there.0 = omega (arith, got.0) in
      subst (λ (x : ℕ). IsInside may (meaning x)) (word_at_field words at there.0 i there.1 below ∙ got.1) (each there.0 i there.1 below)
]

-- Where fields lead.

-- a field that keeps inside current objects leads here
pub inside_here : (starts : List ℕ) (meant : Option Word) → IsInside starts meant → LeadsHere starts meant
inside_here starts None inside = absurd inside
inside_here starts (Some word.Null) inside = tt
inside_here starts (Some (word.Int n)) inside = tt
inside_here starts (Some (word.Volatile index)) inside = absurd inside
inside_here starts (Some (word.Stable b)) inside = inside

-- one that may keep inside those of the from-space too may lead back
pub inside_back : (starts olds : List ℕ) (meant : Option Word) → IsInside (starts ++ olds) meant → MayLeadBack starts olds meant
inside_back starts olds None inside = absurd inside
inside_back starts olds (Some word.Null) inside = inl tt
inside_back starts olds (Some (word.Int n)) inside = inl tt
inside_back starts olds (Some (word.Volatile index)) inside = absurd inside
inside_back starts olds (Some (word.Stable b)) inside = elim (Contains-append_cases starts olds b inside) [ inl here ↦ inl here | inr old ↦ inr (b, refl, old) ]

-- Fields that lead to no volatile object.

-- a word of this meaning leads to none
abbrev pub IsNotVolatile : Option Word → Type 0
IsNotVolatile meant = (index : ℕ) → meant ≡ Some (word.Volatile index) → ⊥

pub here_inside : (starts : List ℕ) (meant : Option Word) → LeadsHere starts meant → IsNotVolatile meant → IsInside starts meant
here_inside starts None leads plain = absurd leads
here_inside starts (Some word.Null) leads plain = tt
here_inside starts (Some (word.Int n)) leads plain = tt
here_inside starts (Some (word.Volatile index)) leads plain = absurd (plain index refl)
here_inside starts (Some (word.Stable b)) leads plain = leads

-- what keeps inside some objects keeps inside more
pub inside_more : (xs ys : List ℕ) (meant : Option Word) → ((b : ℕ) → Contains xs b → Contains ys b) → IsInside xs meant → IsInside ys meant
inside_more xs ys None more inside = inside
inside_more xs ys (Some word.Null) more inside = tt
inside_more xs ys (Some (word.Int n)) more inside = tt
inside_more xs ys (Some (word.Volatile index)) more inside = inside
inside_more xs ys (Some (word.Stable b)) more inside = more b inside

pub back_inside : (starts olds : List ℕ) (meant : Option Word) → MayLeadBack starts olds meant → IsNotVolatile meant → IsInside (starts ++ olds) meant
back_inside starts olds meant (inl here) plain = inside_more starts (starts ++ olds) meant (Contains-append_left starts olds) (here_inside starts meant here plain)
back_inside starts olds meant (inr (from, leads, has)) plain = subst (IsInside (starts ++ olds)) (sym leads) (Contains-append_right starts olds from has)

-- a volatile word keeps inside nothing
pub inside_plain : (starts : List ℕ) (meant : Option Word) → IsInside starts meant → IsNotVolatile meant
inside_plain starts meant inside index is = subst (IsInside starts) is inside
