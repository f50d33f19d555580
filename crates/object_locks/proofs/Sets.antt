-- A tree of keys as the set that contracts see.
use Rattle.std.proofs.Common.{◌≡◌, Bool, true, false, cond, List, [], ◌∷◌, Some, None, Less, Equal, Greater, refl, sym, ap, ◌∙◌, subst}
use Rattle.std.specs.Prelude.{◌&&◌, ◌||◌, not}
use Rattle.std.specs.List.{list_any, find, filter, AllByRecursion}
use Rattle.std.specs.List.Sorted.{IsStrictlySortedBy}
use Rattle.std.specs.Ordering.{eq_by_cmp, is_eq, is_gt}
use Rattle.std.specs.declared.cmp.Ordering.{Ordering}
use Rattle.std.specs.Cmp.{IsTotalOrder}
use Rattle.std.specs.BTreeSet.{BTreeSet, Updates, contains as contains_key}
use Rattle.std.specs.FinSet.{IsAntisymmetric, insert, remove, from_list, contains-from_list, contains-insert, contains-remove, same_set}
use Rattle.std.proofs.lemmas.Cmp.{eq_by_cmp_equiv, tied_itself}
use Rattle.std.proofs.lemmas.Bool.{true≢false}

-- two tests agree if each implies the other
pub same_bool : (a b : Bool) → (a ≡ true → b ≡ true) → (b ≡ true → a ≡ true) → a ≡ b
same_bool true true f g = refl
same_bool true false f g = sym (f refl)
same_bool false true f g = g refl
same_bool false false f g = refl

or_cond : (b x : Bool) → cond b true x ≡ (b || x)
or_cond true x = refl
or_cond false x = refl

and_cond : (b x : Bool) → cond b false x ≡ (not b && x)
and_cond true x = refl
and_cond false x = refl

pub one_of : (a b : Bool) (P : Type 0) → (a || b) ≡ true → (a ≡ true → P) → (b ≡ true → P) → P
one_of true b P e f g = f refl
one_of false b P e f g = g e

pub or_right : (a b : Bool) → b ≡ true → (a || b) ≡ true
or_right true b e = refl
or_right false b e = e

pub or_left : (a b : Bool) → a ≡ true → (a || b) ≡ true
or_left true b e = refl
or_left false b e = cc

pub equal_if : (r : Ordering) → is_eq r ≡ true → r ≡ Equal
equal_if Less e = cc
equal_if Equal e = refl
equal_if Greater e = cc

module _ {K : Type 0} {R : K → K → Ordering} (o : IsTotalOrder R) (exact : IsAntisymmetric R) where
  same_key : (x y : K) → eq_by_cmp R x y ≡ true → x ≡ y
  same_key x y e = exact x y (equal_if (R x y) e)

  itself : (x : K) → eq_by_cmp R x x ≡ true
  itself x = ap is_eq (tied_itself o x)

  turned : (x y : K) → eq_by_cmp R x y ≡ eq_by_cmp R y x
  turned x y = (eq_by_cmp_equiv o).symm x y

  -- one more key
  pub from_list-insert : (s n : BTreeSet K) (k : K) → Updates R s n k true → from_list {R = R} n.keys ≡ insert (from_list s.keys) k
  from_list-insert s n k updates = same_set o exact _ _ (λ q.
      contains-from_list o n.keys q
      ∙ updates.0 q
      ∙ or_cond (eq_by_cmp R k q) _
      ∙ ap (λ b. b || list_any (eq_by_cmp R q) s.keys) (turned k q)
      ∙ ap (λ b. eq_by_cmp R q k || b) (sym (contains-from_list o s.keys q))
      ∙ sym (contains-insert o (from_list s.keys) k q))

  -- one key fewer
  pub from_list-remove : (s n : BTreeSet K) (k : K) → Updates R s n k false → from_list {R = R} n.keys ≡ remove (from_list s.keys) k
  from_list-remove s n k updates = same_set o exact _ _ (λ q.
      contains-from_list o n.keys q
      ∙ updates.0 q
      ∙ and_cond (eq_by_cmp R k q) _
      ∙ ap (λ b. not b && list_any (eq_by_cmp R q) s.keys) (turned k q)
      ∙ ap (λ b. not (eq_by_cmp R q k) && b) (sym (contains-from_list o s.keys q))
      ∙ sym (contains-remove o (from_list s.keys) k q))

  -- a key that is added and removed again
  pub came_and_went : (s n m : BTreeSet K) (k : K) → Updates R s n k true → Updates R n m k false → contains_key R s k ≡ false → (q : K) → contains_key R m q ≡ contains_key R s q
  came_and_went s n m k added taken new q =
      taken.0 q
      ∙ elim (eq_by_cmp R k q) as (λ b. eq_by_cmp R k q ≡ b → cond b false (contains_key R n q) ≡ contains_key R s q) [
        | true ↦ λ tie. subst (λ (x : K). false ≡ contains_key R s x) (same_key k q tie) (sym new)
        | false ↦ λ apart. added.2 q apart
      ] refl

  pub from_list-same : (s n m : BTreeSet K) (k : K) → Updates R s n k true → Updates R n m k false → contains_key R s k ≡ false → from_list {R = R} m.keys ≡ from_list s.keys
  from_list-same s n m k added taken new = same_set o exact _ _ (λ q.
      contains-from_list o m.keys q ∙ came_and_went s n m k added taken new q ∙ sym (contains-from_list o s.keys q))

  equal_not_gt : (x y : K) → eq_by_cmp R x y ≡ true → is_gt (R x y) ≡ false
  equal_not_gt x y tie = ap is_gt (equal_if (R x y) tie)

  -- what a search of a part of the keys that finds nothing says of a key there
  pub find-none : (p q : K → Bool) (ks : List K) → find p (filter q ks) ≡ None → (h : K) → list_any (eq_by_cmp R h) ks ≡ true → q h ≡ true → p h ≡ false
  find-none p q [] e h there in_part = cc
  find-none p q (k ∷ ks) e h there in_part =
      elim (q k) as (λ b. q k ≡ b → find p (cond b (k ∷ filter q ks) (filter q ks)) ≡ None → p h ≡ false) [
        | true ↦ λ qk.
            elim (p k) as (λ b. p k ≡ b → cond b (Some k) (find p (filter q ks)) ≡ None → p h ≡ false) [
              | true ↦ λ pk none. cc
              | false ↦ λ pk none. one_of (eq_by_cmp R h k) _ (p h ≡ false) there (λ tie. ap p (same_key h k tie) ∙ pk) (λ rest. find-none p q ks none h rest in_part)
            ] refl
        | false ↦ λ qk none.
            one_of (eq_by_cmp R h k) _ (p h ≡ false) there (λ tie. absurd (true≢false (sym in_part ∙ ap q (same_key h k tie) ∙ qk))) (λ rest. find-none p q ks none h rest in_part)
      ] refl e

  -- what it finds is there, and is the least
  pub record Finds (p q : K → Bool) (ks : List K) (x : K) : Type 0 where
    pub there : list_any (eq_by_cmp R x) ks ≡ true
    pub passes : p x ≡ true
    pub least : (h : K) → list_any (eq_by_cmp R h) ks ≡ true → q h ≡ true → p h ≡ true → is_gt (R x h) ≡ false

  later : (k h : K) (ks : List K) → AllByRecursion (λ y. R k y ≡ Less) ks → list_any (eq_by_cmp R h) ks ≡ true → is_gt (R k h) ≡ false
  later k h [] all there = cc
  later k h (y ∷ ks) all there =
      one_of (eq_by_cmp R h y) _ (is_gt (R k h) ≡ false) there (λ tie. ap is_gt (ap (R k) (same_key h y tie) ∙ all.0)) (later k h ks all.1)

  finds_head : (p q : K → Bool) (k : K) (ks : List K) (x : K) → AllByRecursion (λ y. R k y ≡ Less) ks → p k ≡ true → Some k ≡ Some x → Finds p q (k ∷ ks) x
  finds_head p q k ks x below pk is =
      let P : K → Type 0 = λ y. Finds p q (k ∷ ks) y in
      let same : k ≡ x = cc in
      subst P same (record {
        there = or_left (eq_by_cmp R k k) _ (itself k);
        passes = pk;
        least = λ h there in_part passes. one_of (eq_by_cmp R h k) _ (is_gt (R k h) ≡ false) there (λ tie. equal_not_gt k h (turned k h ∙ tie)) (later k h ks below);
      })

  finds_later : (p q : K → Bool) (k : K) (ks : List K) (x : K) → (q k ≡ true → p k ≡ true → ⊥) → Finds p q ks x → Finds p q (k ∷ ks) x
  finds_later p q k ks x not_k found = record {
    there = or_right (eq_by_cmp R x k) _ found.there;
    passes = found.passes;
    least = λ h there in_part passes. one_of (eq_by_cmp R h k) _ (is_gt (R x h) ≡ false) there
        (λ tie. absurd (not_k (sym (ap q (same_key h k tie)) ∙ in_part) (sym (ap p (same_key h k tie)) ∙ passes)))
        (λ rest. found.least h rest in_part passes);
  }

  pub find-some : (p q : K → Bool) (ks : List K) (x : K) → IsStrictlySortedBy R ks → find p (filter q ks) ≡ Some x → Finds p q ks x
  unfolding IsStrictlySortedBy
  find-some p q [] x sorted e = cc
  find-some p q (k ∷ ks) x sorted e =
      elim (q k) as (λ b. q k ≡ b → find p (cond b (k ∷ filter q ks) (filter q ks)) ≡ Some x → Finds p q (k ∷ ks) x) [
        | true ↦ λ qk.
            elim (p k) as (λ b. p k ≡ b → cond b (Some k) (find p (filter q ks)) ≡ Some x → Finds p q (k ∷ ks) x) [
              | true ↦ λ pk is. finds_head p q k ks x sorted.0 pk is
              | false ↦ λ pk is. finds_later p q k ks x (λ in_part passes. true≢false (sym passes ∙ pk)) (find-some p q ks x sorted.1 is)
            ] refl
        | false ↦ λ qk is. finds_later p q k ks x (λ in_part passes. true≢false (sym in_part ∙ qk)) (find-some p q ks x sorted.1 is)
      ] refl e

  -- a key of the list that passes the test
  pub any_witness : (p : K → Bool) (ks : List K) → list_any p ks ≡ true → (k : K) × (list_any (eq_by_cmp R k) ks ≡ true) × (p k ≡ true)
  any_witness p [] e = cc
  any_witness p (k ∷ ks) e =
      one_of (p k) (list_any p ks) _ e
      (λ here. (k, or_left (eq_by_cmp R k k) _ (itself k), here))
      (λ there. let w = any_witness p ks there in (w.0, or_right (eq_by_cmp R w.0 k) _ w.1, w.2))

  -- one that is there and passes the test
  pub any_of : (p : K → Bool) (ks : List K) (k : K) → list_any (eq_by_cmp R k) ks ≡ true → p k ≡ true → list_any p ks ≡ true
  any_of p [] k there e = cc
  any_of p (x ∷ ks) k there e =
      one_of (eq_by_cmp R k x) _ (list_any p (x ∷ ks) ≡ true) there (λ tie. or_left (p x) _ (sym (ap p (same_key k x tie)) ∙ e)) (λ rest. or_right (p x) _ (any_of p ks k rest e))
