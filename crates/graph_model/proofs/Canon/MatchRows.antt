-- Laws of rows of fields that match.
use Rattle.std.proofs.Common.{◌≡◌, ℕ, zero, suc, ◌↔◌, Bool, true, false, List, [], ◌∷◌, length, replicate, Some, refl, sym, ap, ◌∙◌, subst}
use Rattle.std.specs.Prelude.{slice_get, slice_set, slice_index_or}
use Rattle.std.proofs.lemmas.Option.{same_Some}
use Rattle.graph_model.specs.declared.id.Id.{Id}
use Rattle.graph_model.specs.declared.val.Val.{Val}
use Rattle.graph_model.specs.declared.val.Val.TheVariants.{Null, Int, Ref}
use Rattle.graph_model.specs.Graph.{is_same_id}
use Rattle.graph_model.proofs.Whole.Graph.{same_id, itself}
use Rattle.graph_model.specs.Isomorphism.{MatchValues, MatchRows}

-- values match by a wider relation
pub values_wider : (R S : Id → Id → Type 0) (v w : Val) → ((a b : Id) → R a b → S a b) → MatchValues R v w → MatchValues S v w
values_wider R S Null Null wider match = tt
values_wider R S (Int n) (Int k) wider match = match
values_wider R S (Ref a) (Ref b) wider match = wider a b match
values_wider R S Null (Int k) wider match = absurd match
values_wider R S Null (Ref b) wider match = absurd match
values_wider R S (Int n) Null wider match = absurd match
values_wider R S (Int n) (Ref b) wider match = absurd match
values_wider R S (Ref a) Null wider match = absurd match
values_wider R S (Ref a) (Int k) wider match = absurd match

-- so do rows
pub rows_wider : (R S : Id → Id → Type 0) (vs ws : List Val) → ((a b : Id) → R a b → S a b) → MatchRows R vs ws → MatchRows S vs ws
rows_wider R S [] [] wider match = tt
rows_wider R S [] (w ∷ ws) wider match = absurd match
rows_wider R S (v ∷ vs) [] wider match = absurd match
rows_wider R S (v ∷ vs) (w ∷ ws) wider match = (values_wider R S v w wider match.0, rows_wider R S vs ws wider match.1)

-- rows that match are as long
pub rows_length : (R : Id → Id → Type 0) (vs ws : List Val) → MatchRows R vs ws → length vs ≡ length ws
rows_length R [] [] match = refl
rows_length R [] (w ∷ ws) match = absurd match
rows_length R (v ∷ vs) [] match = absurd match
rows_length R (v ∷ vs) (w ∷ ws) match = ap suc (rows_length R vs ws match.1)

-- each field matches, and null past the last
pub rows_at : (R : Id → Id → Type 0) (vs ws : List Val) (i : ℕ) → MatchRows R vs ws → MatchValues R (slice_index_or vs i Null) (slice_index_or ws i Null)
rows_at R [] [] i match = tt
rows_at R [] (w ∷ ws) i match = absurd match
rows_at R (v ∷ vs) [] i match = absurd match
rows_at R (v ∷ vs) (w ∷ ws) zero match = match.0
rows_at R (v ∷ vs) (w ∷ ws) (suc i) match = rows_at R vs ws i match.1

-- rows match where values that match are written
pub rows_set : (R : Id → Id → Type 0) (vs ws : List Val) (i : ℕ) (x y : Val) → MatchValues R x y → MatchRows R vs ws → MatchRows R (slice_set vs i x) (slice_set ws i y)
rows_set R [] [] i x y xy match = tt
rows_set R [] (w ∷ ws) i x y xy match = absurd match
rows_set R (v ∷ vs) [] i x y xy match = absurd match
rows_set R (v ∷ vs) (w ∷ ws) zero x y xy match = (xy, match.1)
rows_set R (v ∷ vs) (w ∷ ws) (suc i) x y xy match = (match.0, rows_set R vs ws i x y xy match.1)

-- null fields match
pub rows_null : (R : Id → Id → Type 0) (n : ℕ) → MatchRows R (replicate n Null) (replicate n Null)
rows_null R zero = tt
rows_null R (suc n) = (tt, rows_null R n)

value_reference : (R : Id → Id → Type 0) (v w : Val) (a : Id) → MatchValues R v w → v ≡ Ref a → (b : Id) × R a b × (w ≡ Ref b)
value_reference R Null w a match is = cc
value_reference R (Int n) w a match is = cc
value_reference R (Ref x) Null a match is = absurd match
value_reference R (Ref x) (Int n) a match is = absurd match
value_reference R (Ref x) (Ref b) a match is = let same : x ≡ a = cc in (b, subst (λ (y : Id). R y b) same match, refl)

-- where a field is a reference the other is one to an object that matches
pub rows_reference : (R : Id → Id → Type 0) (vs ws : List Val) (i : ℕ) (a : Id) → MatchRows R vs ws → slice_get vs i ≡ Some (Ref a) → (b : Id) × R a b × (slice_get ws i ≡ Some (Ref b))
rows_reference R [] ws i a match is = cc
rows_reference R (v ∷ vs) [] i a match is = absurd match
rows_reference R (v ∷ vs) (w ∷ ws) (suc i) a match is = rows_reference R vs ws i a match.1 is
rows_reference R (v ∷ vs) (w ∷ ws) zero a match is =
    let other = value_reference R v w a match.0 (same_Some v (Ref a) is) in (other.0, other.1, ap Some other.2)

values_turned : (R : Id → Id → Type 0) (v w : Val) → MatchValues R v w → MatchValues (λ a b. R b a) w v
values_turned R Null Null match = tt
values_turned R (Int n) (Int k) match = sym match
values_turned R (Ref a) (Ref b) match = match
values_turned R Null (Int k) match = absurd match
values_turned R Null (Ref b) match = absurd match
values_turned R (Int n) Null match = absurd match
values_turned R (Int n) (Ref b) match = absurd match
values_turned R (Ref a) Null match = absurd match
values_turned R (Ref a) (Int k) match = absurd match

-- rows match the other way round
pub rows_turned : (R : Id → Id → Type 0) (vs ws : List Val) → MatchRows R vs ws → MatchRows (λ a b. R b a) ws vs
rows_turned R [] [] match = tt
rows_turned R [] (w ∷ ws) match = absurd match
rows_turned R (v ∷ vs) [] match = absurd match
rows_turned R (v ∷ vs) (w ∷ ws) match = (values_turned R v w match.0, rows_turned R vs ws match.1)

values_both : (R : Id → Id → Type 0) (P Q : Id → Type 0) (v w : Val) → ((a : Id) → v ≡ Ref a → P a) → ((b : Id) → w ≡ Ref b → Q b) → MatchValues R v w → MatchValues (λ a b. P a × Q b × R a b) v w
values_both R P Q Null Null one other match = tt
values_both R P Q (Int n) (Int k) one other match = match
values_both R P Q (Ref a) (Ref b) one other match = (one a refl, other b refl, match)
values_both R P Q Null (Int k) one other match = absurd match
values_both R P Q Null (Ref b) one other match = absurd match
values_both R P Q (Int n) Null one other match = absurd match
values_both R P Q (Int n) (Ref b) one other match = absurd match
values_both R P Q (Ref a) Null one other match = absurd match
values_both R P Q (Ref a) (Int k) one other match = absurd match

-- rows match by what is known besides of the objects that they refer to
pub rows_both : (R : Id → Id → Type 0) (P Q : Id → Type 0) (vs ws : List Val) → ((i : ℕ) (a : Id) → slice_get vs i ≡ Some (Ref a) → P a)
    → ((i : ℕ) (b : Id) → slice_get ws i ≡ Some (Ref b) → Q b) → MatchRows R vs ws → MatchRows (λ a b. P a × Q b × R a b) vs ws
rows_both R P Q [] [] one other match = tt
rows_both R P Q [] (w ∷ ws) one other match = absurd match
rows_both R P Q (v ∷ vs) [] one other match = absurd match
rows_both R P Q (v ∷ vs) (w ∷ ws) one other match = (
  values_both R P Q v w (λ a is. one zero a (ap Some is)) (λ b is. other zero b (ap Some is)) match.0,
  rows_both R P Q vs ws (λ i. one (suc i)) (λ i. other (suc i)) match.1,
)

tests_same : (a b x y : Id) (t u : Bool) → (a ≡ x) ↔ (b ≡ y) → is_same_id a x ≡ t → is_same_id b y ≡ u → t ≡ u
tests_same a b x y true true one is is' = refl
tests_same a b x y false false one is is' = refl
tests_same a b x y true false one is is' =
    let clash = sym is' ∙ ap (is_same_id b) (sym (one.0 (same_id a x is))) ∙ itself b in cc
tests_same a b x y false true one is is' =
    let clash = sym is ∙ ap (is_same_id a) (sym (one.1 (same_id b y is'))) ∙ itself a in cc

-- ids that are one exactly where others are test as these do
pub tests_alike : (a b x y : Id) → (a ≡ x) ↔ (b ≡ y) → is_same_id a x ≡ is_same_id b y
tests_alike a b x y one = tests_same a b x y (is_same_id a x) (is_same_id b y) one refl refl
