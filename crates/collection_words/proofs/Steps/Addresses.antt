-- Sets of addresses: what is in them when one more is, or when those of a page are not.
use Rattle.std.proofs.Common.{◌≡◌, ◌≢◌, ℕ, ◌==◌, ◌||◌, ◌&&◌, Bool, true, false, not, refl, sym, ap, ◌∙◌}
use Rattle.std.specs.Cmp.{nat_cmp_total, unsigned_tied, ranked}
use Rattle.std.specs.declared.cmp.Ordering.TheVariants.{Equal}
use Rattle.std.specs.Ordering.{nat_cmp, eq_by_cmp}
use Rattle.std.specs.FinSet.{FinSet, contains, insert, contains-insert, contains-retain}
use Rattle.std.proofs.lemmas.Bool.{eq-eqb, ne_eqb}
use Rattle.heap_spaces.specs.Addresses.{without_page}
use Rattle.heap_spaces.specs.Collection.{page_of}

tied : (q at : ℕ) (b : Bool) → (q == at) ≡ b → eq_by_cmp nat_cmp q at ≡ b
tied q at b is = unsigned_tied q at ∙ is

-- an address that was put into a set is in it
pub contains-new : (set : FinSet nat_cmp) (at : ℕ) → contains (insert set at) at ≡ true
contains-new set at = contains-insert nat_cmp_total set at at ∙ ap (λ b. b || contains set at) (tied at at true (eq-eqb at at refl))

-- and so is what was
pub contains-other : (set : FinSet nat_cmp) (at q : ℕ) → q ≢ at → contains (insert set at) q ≡ contains set q
contains-other set at q other = contains-insert nat_cmp_total set at q ∙ ap (λ b. b || contains set q) (tied q at false (ne_eqb q at other))

-- what is in a set without the addresses of a page
pub contains-without : (set : FinSet nat_cmp) (page q : ℕ) → contains (without_page set page) q ≡ (contains set q && not (page_of q == page))
contains-without set page q = contains-retain set (λ at. not (page_of at == page)) q (λ x same. ap (λ (a : ℕ). not (page_of a == page)) (sym (ranked q x Equal (sym same))))
