-- The copies of a flip are found by where their objects stood.
use Rattle.std.proofs.Common.{◌≡◌, ℕ, ◌+◌, ◌<◌, zero, suc, Bool, true, false, cond, List, [], ◌∷◌, length, drop, Option, Some, refl, sym, ap, ◌∙◌, subst, arith}
use Rattle.std.specs.Prelude.{◌==◌, option_and_then, slice_get}
use Rattle.std.specs.Map.{lookup}
use Rattle.std.specs.BTreeMap.{is_at}
use Rattle.std.specs.Ordering.{nat_cmp, is_eq}
use Rattle.std.proofs.lemmas.Bool.{eq-eqb, eqb-true}
use Rattle.log_records.specs.declared.copies.ObjectCopy.{ObjectCopy}
use Rattle.log_machine.specs.Collecting.{copy_of}
use Rattle.log_machine.specs.CopyIndex.{AreIndexed, StandInside}
use Rattle.log_machine.proofs.MapLaws.{tied, itself}

same_of : (k q : ℕ) (a b : Bool) → is_eq (nat_cmp k q) ≡ a → (k == q) ≡ b → a ≡ b
same_of k q true true e f = refl
same_of k q false false e f = refl
same_of k q true false e f = absurd (cc (eq-eqb k q (tied k q e), f))
same_of k q false true e f = let same = eqb-true k q f in absurd (cc (itself k, same, e))

-- two numbers are tied where they are equal
pub same_number : (k q : ℕ) → is_eq (nat_cmp k q) ≡ (k == q)
same_number k q = same_of k q _ _ refl refl

dropped : (all : List ObjectCopy) (n : ℕ) → length all ≡ n → drop n all ≡ []
dropped [] zero long = refl
dropped [] (suc n) long = refl
dropped (copy ∷ copies) zero long = absurd (omega arith)
dropped (copy ∷ copies) (suc n) long = dropped copies n (omega arith)

-- where nothing is found there is no copy
pub indexed_none : (all : List ObjectCopy) (places : List (ℕ × ℕ)) (n : ℕ) → places ≡ [] → length all ≡ n → AreIndexed all (drop n all) places
indexed_none all places n none long from =
    ap (λ es. option_and_then (λ place. slice_get all place) (lookup (is_at (nat_cmp from)) es)) none
    ∙ ap (λ ks. copy_of ks from) (sym (dropped all n long))

placed : (all : List ObjectCopy) (copies : List ObjectCopy) (copy : ObjectCopy) (place q : ℕ) (b : Bool) (o : Option ℕ) → slice_get all place ≡ Some copy → option_and_then (λ i. slice_get all i) o ≡ copy_of copies q
    → option_and_then (λ i. slice_get all i) (cond b (Some place) o) ≡ cond b (Some copy) (copy_of copies q)
placed all copies copy place q true o here rest = here
placed all copies copy place q false o here rest = rest

split_at : (all : List ObjectCopy) (place : ℕ) (copy : ObjectCopy) → slice_get all place ≡ Some copy → drop place all ≡ copy ∷ drop (place + 1) all
split_at [] place copy e = absurd (cc e)
split_at (k ∷ ks) zero copy e = let same : k ≡ copy = cc e in ap (λ x. x ∷ ks) same
split_at (k ∷ ks) (suc place) copy e =
    let later : suc (place + 1) ≡ suc place + 1 = omega arith in
    split_at ks place copy e ∙ ap (λ n. copy ∷ drop n (k ∷ ks)) later

-- with the place of the copy before them
pub indexed_more : (all : List ObjectCopy) (old new : List (ℕ × ℕ)) (place : ℕ) (copy : ObjectCopy) → slice_get all place ≡ Some copy → AreIndexed all (drop (place + 1) all) old
    → ((q : ℕ) → lookup (is_at (nat_cmp q)) new ≡ cond (is_at (nat_cmp copy.from) q) (Some place) (lookup (is_at (nat_cmp q)) old)) → AreIndexed all (drop place all) new
indexed_more all old new place copy here rest changes from =
    ap (λ o. option_and_then (λ i. slice_get all i) o) (changes from)
    ∙ ap (λ b. option_and_then (λ i. slice_get all i) (cond b (Some place) (lookup (is_at (nat_cmp from)) old))) (same_number copy.from from)
    ∙ placed all (drop (place + 1) all) copy place from (copy.from == from) _ here (rest from)
    ∙ ap (λ ks. copy_of ks from) (sym (split_at all place copy here))

-- where an object's copy stands
inside_at : (copies : List ObjectCopy) (copy : ObjectCopy) (from : ℕ) (b : Bool) (found : ObjectCopy) → copy.to < 2097152 → (copy_of copies from ≡ Some found → found.to < 2097152) → cond b (Some copy) (copy_of copies from) ≡ Some found → found.to < 2097152
inside_at copies copy from true found here rest e = let same : copy ≡ found = cc e in subst (λ (c : ObjectCopy). c.to < 2097152) same here
inside_at copies copy from false found here rest e = rest e

pub copy_inside : (copies : List ObjectCopy) (from : ℕ) (found : ObjectCopy) → StandInside copies → copy_of copies from ≡ Some found → found.to < 2097152
copy_inside [] from found all e = absurd (cc e)
copy_inside (copy ∷ copies) from found all e =
    inside_at copies copy from (copy.from == from) found (all 0 copy (omega arith)) (copy_inside copies from found (λ k d lt. all (suc k) d (omega arith))) e
