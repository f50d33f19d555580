-- The fields of an object, as they are read.
use Rattle.std.proofs.Common.{◌≡◌, ℕ, suc, ◌+◌, ◌<◌, ◌≤◌, List, [], ◌∷◌, length, take, drop, get_or, Option, None, Some, refl, sym, ap, ◌∙◌, subst, arith}
use Rattle.std.proofs.Math.Seq.{drop-cons}
use Rattle.object_layout.specs.Layout.{object_at, words_of, field_words}
use Rattle.object_layout.proofs.LayoutLaws.{length-field_words, object_small}

-- an object has few fields
pub few_fields : (words : List ℕ) (at : ℕ) → length (field_words words at) ≤ 510
few_fields words at = by_length (object_at words at) refl
  where
    by_length : (o : Option ℕ) → object_at words at ≡ o → length (field_words words at) ≤ 510
    by_length None is = subst (λ (x : ℕ). x ≤ 510) (sym (ap (λ o. length (words_of words at o)) is)) (omega arith)
    by_length (Some n) is = let few = object_small words at n is in let all = length-field_words words at n is in omega (arith, few, all)

-- where no object stands, there are none
pub fields_none : (words : List ℕ) (at : ℕ) → None ≡ object_at words at → [] ≡ field_words words at
fields_none words at is = ap (words_of words at) is

-- an object never has more
pub fields_over : (words : List ℕ) (at n : ℕ) → Some n ≡ object_at words at → 510 < n → [] ≡ field_words words at
fields_over words at n is many = let few = object_small words at n (sym is) in absurd (omega (arith, few, many))

-- a run of words is its first word and the rest
pub run_next : (words : List ℕ) (from n w : ℕ) → from < length words → w ≡ get_or words from 0 → take (suc n) (drop from words) ≡ w ∷ take n (drop (from + 1) words)
run_next words from n w within is =
    let next : suc from ≡ from + 1 = omega arith in
    ap (take (suc n)) (drop-cons words from 0 within)
    ∙ ap (λ x. x ∷ take n (drop (suc from) words)) (sym is)
    ∙ ap (λ k. w ∷ take n (drop k words)) next
