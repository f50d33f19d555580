-- The map of the numbers as it grows.
use Rattle.std.proofs.Common.{◌≡◌, ℕ, ◌+◌, ◌<◌, ◌≤◌, Bool, true, false, cond, not, List, [], ◌∷◌, ◌++◌, length, Option, Some, None, unwrap_or, refl, sym, ap, ◌∙◌, arith}
use Rattle.std.specs.Prelude.{nat_eq, ◌||◌, position, slice_get, IfSome, if◌then◌else◌}
use Rattle.std.specs.List.{list_any, position_or_len, IsDistinct}
use Rattle.std.specs.Ordering.{nat_cmp, eq_by_cmp, is_eq}
use Rattle.std.specs.FinMap.{nat_cmp-IsAntisymmetric}
use Rattle.std.specs.declared.cmp.Ordering.{Ordering}
use Rattle.std.specs.declared.cmp.Ordering.TheVariants.{Less, Equal, Greater}
use Rattle.std.proofs.lemmas.Bool.{eqb-true, eq-eqb, lt-ltb, le-ltb, or_parts}
use Rattle.std.proofs.lemmas.Cmp.{nat_cmp_total, nat_eq_equiv, tied_itself}
use Rattle.std.proofs.lemmas.List.Folds.{list_any-append, position_or_len_push}
use Rattle.std.proofs.lemmas.Option.{slice_get_within}
use Rattle.std.proofs.lemmas.Map.Keys.{IsDistinct-push}
use Rattle.std.proofs.lemmas.Map.Steps.{length-le_from_distinct_below}
use Rattle.graph_print.proofs.NumberLaws.{same_place}
use Rattle.graph_print.specs.Numbering.{IsNumbering}
use Rattle.graph_print.specs.Order.{with_place, place_number}

absent_place : (p : ℕ → Bool) (xs : List ℕ) → list_any p xs ≡ false → position_or_len p xs ≡ length xs
absent_place p [] is = refl
absent_place p (x ∷ xs) is =
    let parts = or_parts (p x) (list_any p xs) is in
    ap (λ t. cond (not t) (1 + position_or_len p xs) 0) parts.0 ∙ ap (λ n. 1 + n) (absent_place p xs parts.1) ∙ omega arith

-- a place that has no number
pub no_number : (p : ℕ → Bool) (xs : List ℕ) → list_any p xs ≡ false → position p xs ≡ None
no_number p xs is =
    let last = absent_place p xs is in
    ap (λ t. cond t (Some (position_or_len p xs)) None) (le-ltb (position_or_len p xs) (length xs) (omega arith))

-- a place that has one
pub a_number : (p : ℕ → Bool) (xs : List ℕ) → list_any p xs ≡ true → position p xs ≡ Some (position_or_len p xs)
a_number p xs is = ap (λ t. cond t (Some (position_or_len p xs)) None) (lt-ltb (position_or_len p xs) (length xs) (same_place p xs [] is).1)

any_told : (p : ℕ → Bool) (xs : List ℕ) (n : ℕ) (t : Bool) → list_any p xs ≡ t → position p xs ≡ Some n → t ≡ true
any_told p xs n true is told = refl
any_told p xs n false is told = let clash = sym (no_number p xs is) ∙ told in cc

-- a number that the map has is one
pub told_any : (p : ℕ → Bool) (xs : List ℕ) (n : ℕ) → position p xs ≡ Some n → list_any p xs ≡ true
told_any p xs n told = any_told p xs n (list_any p xs) refl told

any_none : (p : ℕ → Bool) (xs : List ℕ) (t : Bool) → list_any p xs ≡ t → position p xs ≡ None → t ≡ false
any_none p xs false is told = refl
any_none p xs true is told = let clash = sym (a_number p xs is) ∙ told in cc

-- if the map has none there is none
pub none_any : (p : ℕ → Bool) (xs : List ℕ) → position p xs ≡ None → list_any p xs ≡ false
none_any p xs told = any_none p xs (list_any p xs) refl told

-- a new place gets the next number
pub push_number : (p : ℕ → Bool) (xs : List ℕ) (x : ℕ) → list_any p xs ≡ false → p x ≡ true → position p (xs ++ x ∷ []) ≡ Some (length xs)
push_number p xs x none here =
    let any : list_any p (xs ++ x ∷ []) ≡ true = list_any-append p xs (x ∷ []) ∙ ap (λ t. t || (p x || false)) none ∙ ap (λ t. t || false) here in
    a_number p (xs ++ x ∷ []) any
    ∙ ap Some (position_or_len_push p xs x
    ∙ ap (λ t. cond t (length xs + cond (p x) 0 1) (position_or_len p xs)) (eq-eqb (position_or_len p xs) (length xs) (absent_place p xs none))
    ∙ ap (λ t. length xs + cond t 0 1) here
    ∙ omega arith)

push_kept : (p : ℕ → Bool) (xs : List ℕ) (x : ℕ) (t : Bool) → list_any p xs ≡ t → p x ≡ false → position p (xs ++ x ∷ []) ≡ position p xs
push_kept p xs x true is other =
    a_number p (xs ++ x ∷ []) (list_any-append p xs (x ∷ []) ∙ ap (λ t. t || (p x || false)) is)
    ∙ ap Some (same_place p xs (x ∷ []) is).0
    ∙ sym (a_number p xs is)
push_kept p xs x false is other =
    no_number p (xs ++ x ∷ []) (list_any-append p xs (x ∷ []) ∙ ap (λ t. t || (p x || false)) is ∙ ap (λ t. t || false) other)
    ∙ sym (no_number p xs is)

is_equal : (r : Ordering) → is_eq r ≡ true → r ≡ Equal
is_equal Less is = cc
is_equal Equal is = refl
is_equal Greater is = cc

apart_eq : (a q : ℕ) (t : Bool) → nat_eq q a ≡ t → eq_by_cmp nat_cmp a q ≡ false → t ≡ false
apart_eq a q false is apart = refl
apart_eq a q true is apart =
    let same = eqb-true q a is in
    let clash = sym apart ∙ ap (eq_by_cmp nat_cmp a) same ∙ ap is_eq (tied_itself nat_cmp_total a) in cc

push_told : (places : List ℕ) (at q : ℕ) (t : Bool) (o : Option ℕ) → list_any (nat_eq at) places ≡ false → eq_by_cmp nat_cmp at q ≡ t → o ≡ position (nat_eq q) places
    → cond t (Some (length places)) o ≡ position (nat_eq q) (places ++ at ∷ [])
push_told places at q true o new is told =
    let same : at ≡ q = nat_cmp-IsAntisymmetric at q (is_equal (nat_cmp at q) is) in
    let none : list_any (nat_eq q) places ≡ false = ap (λ x. list_any (nat_eq x) places) (sym same) ∙ new in
    sym (push_number (nat_eq q) places at none (eq-eqb q at (sym same)))
push_told places at q false o new is told =
    told ∙ sym (push_kept (nat_eq q) places at (list_any (nat_eq q) places) refl (apart_eq at q (nat_eq q at) refl is))

small_push : (places : List ℕ) (at q : ℕ) → ((x : ℕ) → list_any (nat_eq x) places ≡ true → x < 4294967296) → at < 4294967296 → list_any (nat_eq q) (places ++ at ∷ []) ≡ true → q < 4294967296
small_push places at q small fits is = pick (list_any (nat_eq q) places) (nat_eq q at) refl refl (sym (list_any-append (nat_eq q) places (at ∷ [])) ∙ is)
  where
    pick : (t u : Bool) → list_any (nat_eq q) places ≡ t → nat_eq q at ≡ u → (t || (u || false)) ≡ true → q < 4294967296
    pick true u here same any = small q here
    pick false true here same any = let one = eqb-true q at same in omega arith
    pick false false here same any = cc

-- the map of one place
pub numbering_first : (at : ℕ) (numbers : ℕ → Option ℕ) → at < 4294967296 → ((q : ℕ) → numbers q ≡ cond (eq_by_cmp nat_cmp at q) (Some 0) None) → IsNumbering (at ∷ []) numbers
unfolding IsDistinct
numbering_first at numbers fits tells = record {
  apart = IsDistinct-push nat_eq_equiv [] at tt refl;
  small = λ q is. small_push [] at q (λ x none. cc) fits is;
  told = λ q. tells q ∙ push_told [] at q (eq_by_cmp nat_cmp at q) None refl refl refl;
}

-- the map with one more place
pub numbering_push : (places : List ℕ) (old new : ℕ → Option ℕ) (at : ℕ) → IsNumbering places old → at < 4294967296 → old at ≡ None
    → ((q : ℕ) → new q ≡ cond (eq_by_cmp nat_cmp at q) (Some (length places)) (old q)) → IsNumbering (places ++ at ∷ []) new
numbering_push places old new at numbering fits none tells =
    let absent = none_any (nat_eq at) places (sym (numbering.told at) ∙ none) in
    record {
      apart = IsDistinct-push nat_eq_equiv places at numbering.apart absent;
      small = λ q is. small_push places at q numbering.small fits is;
      told = λ q. tells q ∙ push_told places at q (eq_by_cmp nat_cmp at q) (old q) absent refl (numbering.told q);
    }

-- there are at most as many places as addresses
pub few_places : (places : List ℕ) (numbers : ℕ → Option ℕ) → IsNumbering places numbers → length places ≤ 4294967296
few_places places numbers numbering = length-le_from_distinct_below places 4294967296 numbering.apart numbering.small

-- a place that has a number is not numbered again
pub place_stays : (places : List ℕ) (at n : ℕ) → position (nat_eq at) places ≡ Some n → (places ≡ with_place places (Some at)) × (n ≡ place_number places at)
place_stays places at n told = (
  ap (λ t. if t then places else places ++ at ∷ []) (sym (told_any (nat_eq at) places n told)),
  sym (ap (λ o. unwrap_or o 0) told),
)

-- a place that has none gets the next
pub place_added : (places : List ℕ) (at : ℕ) → position (nat_eq at) places ≡ None → (places ++ at ∷ [] ≡ with_place places (Some at)) × (length places ≡ place_number (places ++ at ∷ []) at)
place_added places at told =
    let absent = none_any (nat_eq at) places told in (
      ap (λ t. if t then places else places ++ at ∷ []) (sym absent),
      sym (ap (λ o. unwrap_or o 0) (push_number (nat_eq at) places at absent (eq-eqb at at refl))),
    )

-- a number below those that are given is below 2^32
pub few_some : (places : List ℕ) (numbers : ℕ → Option ℕ) (n : ℕ) (o : Option ℕ) → IsNumbering places numbers → o ≡ slice_get places n → IfSome o (λ at. n < 4294967296)
few_some places numbers n None numbering is = tt
few_some places numbers n (Some at) numbering is =
    let within = slice_get_within places n at (sym is) in
    let few = few_places places numbers numbering in omega arith
