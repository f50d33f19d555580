-- Addresses that wait, and the sets that they are added to.
use Rattle.std.proofs.Common.{◌≡◌, ◌≢◌, ℕ, zero, suc, ◌%◌, ◌<◌, ◌==◌, ◌||◌, ◌&&◌, max, bit_or, Bool, true, false, List, length, get_or, set, refl, sym, ap, ◌∙◌, arith}
use Rattle.std.proofs.lemmas.Bool.{false≢true}
use Rattle.std.proofs.lemmas.Nat.Bits.{bit_at_or, bit_at-lt}
use Rattle.std.proofs.lemmas.Map.Views.{exact_unsigned_eq}
use Rattle.std.specs.Int.{bit_at}
use Rattle.std.specs.Cmp.{nat_eq_equiv}
use Rattle.std.specs.FinSet.{contains}
use Rattle.heap_spaces.specs.Addresses.{is_named, is_set, named}
use Rattle.heap_spaces.specs.Collection.{page_of}
use Rattle.heap_spaces.proofs.AddressLaws.{or-false}
use Rattle.heap_spaces.proofs.PageLaws.{seen, named_in, named_out, named_here, none_set}

either : (x y : ℕ) → x < 2 → y < 2 → (max x y == 1) ≡ (x == 1 || y == 1)
either zero zero low other = refl
either zero (suc zero) low other = refl
either (suc zero) zero low other = refl
either (suc zero) (suc zero) low other = refl
either zero (suc (suc y)) low other = absurd (omega arith)
either (suc zero) (suc (suc y)) low other = absurd (omega arith)
either (suc (suc x)) y low other = absurd (omega arith)

-- the bits of two numbers together
or_set : (a b i : ℕ) → is_set (bit_or a b) i ≡ (is_set a i || is_set b i)
or_set a b i = ap (λ v. v == 1) (bit_at_or a b i) ∙ either (bit_at a i) (bit_at b i) (bit_at-lt a i) (bit_at-lt b i)

apart_from : (a b : ℕ) → (a == b) ≡ false → a ≢ b
apart_from a b e is = false≢true (sym e ∙ ap (λ x. x == b) is ∙ nat_eq_equiv.refl b)

none_more : (b here : Bool) (i : ℕ) → (b || (here && is_set 0 i)) ≡ b
none_more b true i = ap (λ v. b || v) (none_set i) ∙ or-false b
none_more b false i = or-false b

-- without bits no address waits
pub none_waits : (b : Bool) (bits i : ℕ) (here : Bool) → bits ≡ 0 → b ≡ (b || (here && is_set bits i))
none_waits b bits i here none = sym (ap (λ v. b || (here && is_set v i)) none ∙ none_more b here i)

-- a page that gets the bits of those that wait besides its own
pub all_added : (pages : List ℕ) (page more : ℕ) → page < length pages
    → (q : ℕ) → contains (named (set pages page (bit_or (get_or pages page 0) more))) q ≡ (contains (named pages) q || (page_of q == page && is_set more (q % 64)))
all_added pages page more lt q =
    seen (set pages page both) q
    ∙ elim (page_of q == page) as (λ b. (page_of q == page) ≡ b → is_named (set pages page both) q ≡ (contains (named pages) q || (b && is_set more (q % 64)))) [
      | true ↦ λ e.
          let here = exact_unsigned_eq (page_of q) page e in
          named_in pages page both q lt here
          ∙ or_set (get_or pages page 0) more (q % 64)
          ∙ ap (λ b. b || is_set more (q % 64)) (named_here pages page q here ∙ sym (seen pages q))
      | false ↦ λ e. named_out pages page both q (apart_from (page_of q) page e) ∙ sym (seen pages q) ∙ sym (or-false (contains (named pages) q))
    ] refl
  where
    both : ℕ
    both = bit_or (get_or pages page 0) more
