-- A collection that takes back the copies that it kept last is as it was before them.
use Rattle.std.proofs.Common.{◌≡◌, ℕ, suc, ◌+◌, ◌==◌, ◌||◌, ◌&&◌, Bool, true, false, not, List, [], ◌∷◌, map, Option, None, Some, refl, sym, ap, ◌∙◌, subst, arith}
use Rattle.std.specs.Prelude.{Contains}
use Rattle.std.specs.List.{list_any}
use Rattle.std.specs.Option.{option_map}
use Rattle.std.specs.Cmp.{nat_cmp_total, unsigned_tied, nat_eq_equiv}
use Rattle.std.specs.Ordering.{nat_cmp}
use Rattle.std.specs.FinSet.{FinSet, contains, insert, contains-insert}
use Rattle.std.proofs.lemmas.Bool.{false≢true}
use Rattle.std.proofs.lemmas.List.Concat.{flat_map_single}
use Rattle.std.proofs.lemmas.Map.Views.{exact_unsigned_eq}
use Rattle.std.proofs.lemmas.Option.{same_Some}
use Rattle.heap_spaces.specs.declared.collection.CopiedObject.{CopiedObject}
use Rattle.heap_spaces.specs.Addresses.{with_all}
use Rattle.heap_spaces.specs.Collection.{Collection}
use Rattle.heap_spaces.specs.Copying.{with_copies, AreNew}
use Rattle.heap_spaces.proofs.AddressLaws.{same_addresses}
use Rattle.heap_engine.specs.Barrier.{AreNewTo, words_of}

-- an address is put into a set
pub inserted_at : (s : FinSet nat_cmp) (at q : ℕ) → contains (insert s at) q ≡ ((at == q) || contains s q)
inserted_at s at q = contains-insert nat_cmp_total s at q ∙ ap (λ b. b || contains s q) (unsigned_tied q at ∙ nat_eq_equiv.symm q at)

-- an address that is none of these is not put in with them
others_stay : (s : FinSet nat_cmp) (f : CopiedObject → ℕ) (copies : List CopiedObject) (q : ℕ) → list_any (λ c. f c == q) copies ≡ false → contains (with_all s (map f copies)) q ≡ contains s q
others_stay s f [] q none = refl
others_stay s f (c ∷ copies) q none = cases (f c == q) refl none (others_stay (insert s (f c)) f copies q)
  where
    cases : (b : Bool) → (f c == q) ≡ b → (b || list_any (λ c. f c == q) copies) ≡ false → (list_any (λ c. f c == q) copies ≡ false → contains (with_all (insert s (f c)) (map f copies)) q ≡ contains (insert s (f c)) q)
        → contains (with_all (insert s (f c)) (map f copies)) q ≡ contains s q
    cases true test none rest = absurd (false≢true (sym none))
    cases false test none rest = rest none ∙ inserted_at s (f c) q ∙ ap (λ b. b || contains s q) test

-- one that is among them is that of a copy
among : (f : CopiedObject → ℕ) (copies : List CopiedObject) (q : ℕ) → list_any (λ c. f c == q) copies ≡ true → (c : CopiedObject) × Contains copies c × (f c ≡ q)
among f [] q any = absurd (cc any)
among f (c ∷ copies) q any = cases (f c == q) refl any (among f copies q)
  where
    cases : (b : Bool) → (f c == q) ≡ b → (b || list_any (λ c. f c == q) copies) ≡ true → (list_any (λ c. f c == q) copies ≡ true → (d : CopiedObject) × Contains copies d × (f d ≡ q))
        → (d : CopiedObject) × Contains (c ∷ copies) d × (f d ≡ q)
    cases true test any rest = (c, (0, omega arith, refl), exact_unsigned_eq (f c) q test)
    cases false test any rest = let d = rest any in (d.0, (suc d.1.0, omega (arith, d.1.1), d.1.2), d.2)

-- the addresses that were put in are taken out
taken_out : (s new : FinSet nat_cmp) (f : CopiedObject → ℕ) (copies : List CopiedObject) → ((c : CopiedObject) → Contains copies c → contains s (f c) ≡ false)
    → ((q : ℕ) → contains new q ≡ (contains (with_all s (map f copies)) q && not (list_any (λ c. f c == q) copies))) → new ≡ s
taken_out s new f copies fresh is = same_addresses new s (λ q. cases q (list_any (λ c. f c == q) copies) refl)
  where
    cases : (q : ℕ) (b : Bool) → list_any (λ c. f c == q) copies ≡ b → contains new q ≡ contains s q
    cases q true any =
        let c = among f copies q any in
        is q ∙ ap (λ b. contains (with_all s (map f copies)) q && not b) any ∙ none (contains (with_all s (map f copies)) q) ∙ sym (ap (contains s) (sym c.2) ∙ fresh c.0 c.1)
      where
        none : (b : Bool) → (b && false) ≡ false
        none true = refl
        none false = refl
    cases q false any =
        is q ∙ ap (λ b. contains (with_all s (map f copies)) q && not b) any ∙ whole (contains (with_all s (map f copies)) q) ∙ others_stay s f copies q any
      where
        whole : (b : Bool) → (b && true) ≡ b
        whole true = refl
        whole false = refl

-- What is known of copies that are taken back.
pub record TakesBack (old new : Collection) (copies : List CopiedObject) : Type 0 where
  pub used : new.used ≡ old.used
  pub copied : new.copied + words_of copies ≡ old.copied
  pub moved : (q : ℕ) → contains new.moved q ≡ (contains old.moved q && not (list_any (λ (c : CopiedObject). c.from == q) copies))
  pub gray : (q : ℕ) → contains new.gray q ≡ (contains old.gray q && not (list_any (λ (c : CopiedObject). c.to == q) copies))

back_to : (k new : Collection) (copies : List CopiedObject) → AreNew k copies → TakesBack (with_copies k copies) new copies → new ≡ k
back_to k new copies fresh back =
    let count : new.copied ≡ k.copied = omega (arith, back.copied) in
    let moved = taken_out k.moved new.moved (λ (c : CopiedObject). c.from) copies fresh.from back.moved in
    let single = flat_map_single (λ (c : CopiedObject). c.to) copies in
    let gray = taken_out k.gray new.gray (λ (c : CopiedObject). c.to) copies fresh.to
    (λ q. back.gray q ∙ ap (λ xs. contains (with_all k.gray xs) q && not (list_any (λ (c : CopiedObject). c.to == q) copies)) single) in
    λ i. record { used = back.used i; copied = count i; moved = moved i; gray = gray i }

-- the collection is as it was before it kept them
pub all_back : (before : Option Collection) (now : Option Collection) (old new : Collection) (copies : List CopiedObject) → AreNewTo copies before → now ≡ Some old → now ≡ option_map (λ k. with_copies k copies) before
    → TakesBack old new copies → Some new ≡ before
all_back None now old new copies fresh is kept back = absurd (cc (is, kept))
all_back (Some k) now old new copies fresh is kept back =
    let same : with_copies k copies ≡ old = same_Some _ _ (sym kept ∙ is) in
    ap Some (back_to k new copies fresh (subst (λ (c : Collection). TakesBack c new copies) (sym same) back))
