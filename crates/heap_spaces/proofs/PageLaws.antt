-- Pages of bits, and the addresses that they name.
use Rattle.std.proofs.Common.{◌≡◌, ◌≢◌, ℕ, zero, suc, ◌+◌, ◌*◌, ◌/◌, ◌%◌, ◌^◌, ◌<◌, ◌≤◌, ◌==◌, ◌||◌, ◌&&◌, true, false, not, cond, List, [], length, get_or, set, get_or-set_same, get_or-set_other, refl, sym, ap, ◌∙◌, inl, inr, arith}
use Rattle.std.proofs.lemmas.Bool.{false≢true, cases_lt, cases_eq}
use Rattle.std.proofs.lemmas.Nat.{shr-shr}
use Rattle.std.proofs.lemmas.Nat.Bits.{bit_at-zero, bit_at_above}
use Rattle.std.proofs.lemmas.Map.Views.{exact_unsigned_eq}
use Rattle.std.proofs.Math.ListN.{get_or-eq_default}
use Rattle.std.specs.Cmp.{nat_cmp_total, unsigned_tied, nat_eq_equiv}
use Rattle.std.specs.Ordering.{nat_cmp, eq_by_cmp}
use Rattle.std.specs.FinSet.{empty, contains, insert, remove, contains-empty, contains-insert, contains-remove}
use Rattle.heap_spaces.specs.Collection.{page_of}
use Rattle.heap_spaces.specs.Addresses.{is_set, is_named, named_below, named, without_page, HasPages}
use Rattle.heap_spaces.proofs.AddressLaws.{same_addresses, page_removed}

differ : (a b : ℕ) → a ≢ b → eq_by_cmp nat_cmp a b ≡ false
differ a b apart =
    unsigned_tied a b
    ∙ elim (a == b) as (λ v. (a == b) ≡ v → v ≡ false) [
      | true ↦ λ e. absurd (apart (exact_unsigned_eq a b e))
      | false ↦ λ e. refl
    ] refl

same : (a b : ℕ) → a ≡ b → eq_by_cmp nat_cmp a b ≡ true
same a b e = ap (λ x. eq_by_cmp nat_cmp x b) e ∙ unsigned_tied b b ∙ nat_eq_equiv.refl b

-- no address from the bound on is among those below it
beyond : (pages : List ℕ) (n q : ℕ) → n ≤ q → contains (named_below pages n) q ≡ false
unfolding named_below
beyond pages zero q le = contains-empty nat_cmp q
beyond pages (suc n) q le =
    let rest : contains (named_below pages n) q ≡ false = beyond pages n q (omega arith) in
    let apart : q ≢ n = omega arith in
    elim (is_named pages n) as (λ b. contains (cond b (insert (named_below pages n) n) (named_below pages n)) q ≡ false) [
      | true ↦ contains-insert nat_cmp_total (named_below pages n) n q ∙ (λ i. differ q n apart i || rest i)
      | false ↦ rest
    ]

-- and those before it are there as the pages name them
before : (pages : List ℕ) (n q : ℕ) → q < n → contains (named_below pages n) q ≡ is_named pages q
unfolding named_below
before pages zero q lt = absurd (omega arith)
before pages (suc n) q lt =
    elim (is_named pages n) as (λ b. is_named pages n ≡ b → contains (cond b (insert (named_below pages n) n) (named_below pages n)) q ≡ is_named pages q) [
      | true ↦ λ e.
          contains-insert nat_cmp_total (named_below pages n) n q
          ∙ elim (cases_eq q n) [
            | inl is ↦ ap (λ b. b || contains (named_below pages n) q) (same q n is) ∙ sym e ∙ ap (is_named pages) (sym is)
            | inr apart ↦ ap (λ b. b || contains (named_below pages n) q) (differ q n apart) ∙ before pages n q (omega (arith, apart))
          ]
      | false ↦ λ e.
          elim (cases_eq q n) [
            | inl is ↦ beyond pages n q (omega (arith, is)) ∙ sym e ∙ ap (is_named pages) (sym is)
            | inr apart ↦ before pages n q (omega (arith, apart))
          ]
    ] refl

-- 0 has no bit
pub none_set : (place : ℕ) → is_set 0 place ≡ false
none_set place = ap (λ b. b == 1) (bit_at-zero place)

-- where a page has no bit, it names none of its addresses
pub none_named : (pages : List ℕ) (q : ℕ) → get_or pages (page_of q) 0 ≡ 0 → is_named pages q ≡ false
unfolding is_named
none_named pages q e = ap (λ bits. is_set bits (q % 64)) e ∙ none_set (q % 64)

-- whether an address is in the set that pages name
pub seen : (pages : List ℕ) (q : ℕ) → contains (named pages) q ≡ is_named pages q
unfolding named
seen pages q =
    elim (cases_lt q (64 * length pages)) [
      | inl lt ↦ before pages (64 * length pages) q lt
      | inr ge ↦
          let past : length pages ≤ page_of q = omega arith in
          beyond pages (64 * length pages) q ge ∙ sym (none_named pages q (get_or-eq_default pages 0 past))
    ]

-- no page names no address
pub none_of_none : named [] ≡ empty
unfolding named named_below
none_of_none = refl

-- pages with the same numbers name the same addresses
pub same_named : (pages other : List ℕ) → ((p : ℕ) → get_or pages p 0 ≡ get_or other p 0) → named pages ≡ named other
unfolding is_named
same_named pages other each = same_addresses _ _ (λ q. seen pages q ∙ ap (λ bits. is_set bits (q % 64)) (each (page_of q)) ∙ sym (seen other q))

-- an address of a page whose number is put
pub named_in : (pages : List ℕ) (p bits q : ℕ) → p < length pages → page_of q ≡ p → is_named (set pages p bits) q ≡ is_set bits (q % 64)
unfolding is_named
named_in pages p bits q lt here = ap (λ v. is_set (get_or (set pages p bits) v 0) (q % 64)) here ∙ ap (λ v. is_set v (q % 64)) (get_or-set_same pages p bits 0 lt)

-- and one of another page
pub named_out : (pages : List ℕ) (p bits q : ℕ) → page_of q ≢ p → is_named (set pages p bits) q ≡ is_named pages q
unfolding is_named
named_out pages p bits q apart = ap (λ v. is_set v (q % 64)) (get_or-set_other pages p (page_of q) bits 0 apart)

-- a page that names an address
pub named_here : (pages : List ℕ) (p q : ℕ) → page_of q ≡ p → is_set (get_or pages p 0) (q % 64) ≡ is_named pages q
unfolding is_named
named_here pages p q here = ap (λ v. is_set (get_or pages v 0) (q % 64)) (sym here)

-- whether an address is named when the bit of another one, or its own, has changed
changed : (pages : List ℕ) (at bits : ℕ) → page_of at < length pages
    → ((i : ℕ) → i < 64 → i ≢ at % 64 → is_set bits i ≡ is_set (get_or pages (page_of at) 0) i)
    → (q : ℕ) → q ≢ at → is_named (set pages (page_of at) bits) q ≡ is_named pages q
changed pages at bits lt others q apart =
    elim (cases_eq (page_of q) (page_of at)) [
      | inl here ↦
          let place : q % 64 ≢ at % 64 = λ e. apart (omega (arith, e, here)) in
          named_in pages (page_of at) bits q lt here ∙ others (q % 64) (omega arith) place ∙ named_here pages (page_of at) q here
      | inr there ↦ named_out pages (page_of at) bits q there
    ]

-- an address whose bit is cleared
pub removed : (pages : List ℕ) (at bits : ℕ) → page_of at < length pages → is_set bits (at % 64) ≡ false
    → ((i : ℕ) → i < 64 → i ≢ at % 64 → is_set bits i ≡ is_set (get_or pages (page_of at) 0) i)
    → named (set pages (page_of at) bits) ≡ remove (named pages) at
removed pages at bits lt here others = same_addresses _ _ each
  where
    each : (q : ℕ) → contains (named (set pages (page_of at) bits)) q ≡ contains (remove (named pages) at) q
    each q =
        seen (set pages (page_of at) bits) q
        ∙ elim (cases_eq q at) [
          | inl is ↦
              ap (is_named (set pages (page_of at) bits)) is
              ∙ named_in pages (page_of at) bits at lt refl
              ∙ here
              ∙ sym (ap (λ b. not b && contains (named pages) q) (same q at is))
          | inr apart ↦ changed pages at bits lt others q apart ∙ sym (seen pages q) ∙ sym (ap (λ b. not b && contains (named pages) q) (differ q at apart))
        ]
        ∙ sym (contains-remove nat_cmp_total (named pages) at q)

-- an address in a page that has none is none of them
pub removed_none : (pages : List ℕ) (at : ℕ) → get_or pages (page_of at) 0 ≡ 0 → named pages ≡ remove (named pages) at
removed_none pages at none = same_addresses _ _ each
  where
    each : (q : ℕ) → contains (named pages) q ≡ contains (remove (named pages) at) q
    each q =
        elim (cases_eq q at) [
          | inl is ↦
              seen pages q
              ∙ none_named pages q (ap (λ n. get_or pages (page_of n) 0) is ∙ none)
              ∙ sym (ap (λ b. not b && contains (named pages) q) (same q at is))
          | inr apart ↦ sym (ap (λ b. not b && contains (named pages) q) (differ q at apart))
        ]
        ∙ sym (contains-remove nat_cmp_total (named pages) at q)

-- a page that is cleared
pub cleared : (pages : List ℕ) (page : ℕ) → page < length pages → named (set pages page 0) ≡ without_page (named pages) page
cleared pages page lt =
    page_removed (named pages) (named (set pages page 0)) page
    (λ q apart. seen (set pages page 0) q ∙ named_out pages page 0 q apart ∙ sym (seen pages q))
    (λ q here. seen (set pages page 0) q ∙ named_in pages page 0 q lt here ∙ none_set (q % 64))

-- and one that has none
pub cleared_none : (pages : List ℕ) (page : ℕ) → get_or pages page 0 ≡ 0 → named pages ≡ without_page (named pages) page
cleared_none pages page none =
    page_removed (named pages) (named pages) page
    (λ q apart. refl)
    (λ q here. seen pages q ∙ none_named pages q (ap (λ n. get_or pages n 0) here ∙ none))

-- the bits of a number that is shifted
pub shifted : (bits place i : ℕ) → is_set (bits / 2 ^ place) i ≡ is_set bits (place + i)
shifted bits place i = ap (λ x. x % 2 == 1) (shr-shr bits place i)

-- a bit that is set is one of the number's 64
pub within : (bits i : ℕ) → bits < 2 ^ 64 → is_set bits i ≡ true → i < 64
within bits i small here =
    elim (cases_lt i 64) [
      | inl lt ↦ lt
      | inr ge ↦ absurd (false≢true (sym (ap (λ b. b == 1) (bit_at_above bits 64 i small ge)) ∙ here))
    ]

-- whether a page names an address, by its place
pub bits_named : (pages : List ℕ) (page place : ℕ) → place < 64 → contains (named pages) (64 * page + place) ≡ is_set (get_or pages page 0) place
unfolding is_named
bits_named pages page place lt =
    let there : page_of (64 * page + place) ≡ page = omega arith in
    let spot : (64 * page + place) % 64 ≡ place = omega arith in
    seen pages (64 * page + place) ∙ (λ i. is_set (get_or pages (there i) 0) (spot i))

-- an address of a page by its place
pub named_at : (pages : List ℕ) (page place : ℕ) → place < 64 → is_set (get_or pages page 0) place ≡ true → contains (named pages) (64 * page + place) ≡ true
named_at pages page place lt here = bits_named pages page place lt ∙ here

-- no bit of a page's is before the first one from a place on
pub least_in : (pages : List ℕ) (p low place q : ℕ) → ((i : ℕ) → low ≤ i → i < place → is_set (get_or pages p 0) i ≡ false) → place < 64 → contains (named pages) q ≡ true → 64 * p + low ≤ q → 64 * p + place ≤ q
least_in pages p low place q none lt here from =
    elim (cases_lt q (64 * p + place)) [
      | inl before ↦
          let there : page_of q ≡ p = omega arith in
          absurd (false≢true (sym (none (q % 64) (omega arith) (omega arith)) ∙ named_here pages p q there ∙ sym (seen pages q) ∙ here))
      | inr ge ↦ ge
    ]

-- an address of a page that has no bit from a place on
pub none_in : (pages : List ℕ) (p low q : ℕ) → ((i : ℕ) → low ≤ i → is_set (get_or pages p 0) i ≡ false) → page_of q ≡ p → 64 * p + low ≤ q → contains (named pages) q ≡ false
none_in pages p low q none there from = seen pages q ∙ sym (named_here pages p q there) ∙ none (q % 64) (omega arith)

-- and one of a page before the first that has any
pub none_first : (pages : List ℕ) (first q : ℕ) → HasPages pages first → q < 64 * first → contains (named pages) q ≡ false
none_first pages first q sound before = seen pages q ∙ none_named pages q (sound.none (page_of q) (omega arith))
