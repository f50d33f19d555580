-- Sets of word addresses.
use Rattle.std.specs.Prelude.{◌≡◌, ℕ, zero, suc, ◌*◌, ◌%◌, ◌<◌, ◌==◌, Bool, not, cond, List, [], ◌∷◌, length, slice_index}
use Rattle.std.specs.Int.{bit_at}
use Rattle.std.specs.Ordering.{nat_cmp}
use Rattle.std.specs.FinSet.{FinSet, empty, insert, retain}
use Rattle.heap_spaces.specs.Collection.{page_of}

-- the set with the addresses of a list besides
abbrev pub with_all : FinSet nat_cmp → List ℕ → FinSet nat_cmp
with_all set [] = set
with_all set (at ∷ ats) = with_all (insert set at) ats

-- the set without the addresses that lie in a page
abbrev pub without_page : FinSet nat_cmp → ℕ → FinSet nat_cmp
without_page set page = retain set (λ at. not (page_of at == page))

-- As they lie in memory, each page is a number, in which there is a bit for each of its words.

-- the bit at a place is set
abbrev pub is_set : ℕ → ℕ → Bool
is_set bits place = bit_at bits place == 1

-- the pages name an address
unfoldable pub is_named : List ℕ → ℕ → Bool
is_named pages at = is_set (slice_index pages (page_of at)) (at % 64)

-- the addresses below a bound that pages name
unfoldable pub named_below : List ℕ → ℕ → FinSet nat_cmp
named_below pages zero = empty
named_below pages (suc n) = cond (is_named pages n) (insert (named_below pages n) n) (named_below pages n)

-- the addresses that pages name
unfoldable pub named : List ℕ → FinSet nat_cmp
named pages = named_below pages (64 * length pages)

-- A set of addresses, as contracts see it.
pub record AddressState : Type 0 where
  pub set : FinSet nat_cmp  -- the addresses
  pub room : List ℕ  -- for how many pages of each group there is memory

-- The pages before the first one have no address.
pub record HasPages (pages : List ℕ) (first : ℕ) : Type 0 where
  pub none : (page : ℕ) → page < first → slice_index pages page ≡ 0
