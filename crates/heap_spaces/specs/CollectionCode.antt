-- How a collection is stored, so that it can be what contracts see of a struct.
use Rattle.std.specs.Prelude.{ℕ, List}
use Rattle.std.specs.Coded.{Coded, code_by, coded×, coded_list, coded_ℕ}
use Rattle.std.specs.Ordering.{nat_cmp}
use Rattle.std.specs.FinSet.{FinSet}
use Rattle.std.specs.FinSet as set
use Rattle.std.proofs.Common.{refl}
use Rattle.heap_spaces.specs.Addresses.{AddressState}
use Rattle.heap_spaces.specs.Collection.{Collection}
use Rattle.heap_spaces.specs.PageTable.{PageNumbers}

abbrev pub addresses_code : Coded (FinSet nat_cmp)
addresses_code = set.code coded_ℕ

abbrev pub page_numbers_code : Coded PageNumbers
page_numbers_code = code_by (List ℕ × List ℕ) (coded× (coded_list coded_ℕ) (coded_list coded_ℕ)) (λ s. (s.numbers, s.room)) (λ p. record { numbers = p.0; room = p.1 }) (λ _. refl)

abbrev pub address_state_code : Coded AddressState
address_state_code = code_by (FinSet nat_cmp × List ℕ) (coded× addresses_code (coded_list coded_ℕ)) (λ s. (s.set, s.room)) (λ p. record { set = p.0; room = p.1 }) (λ _. refl)

abbrev pub collection_code : Coded Collection
collection_code =
    code_by (ℕ × (ℕ × (FinSet nat_cmp × FinSet nat_cmp))) (coded× coded_ℕ (coded× coded_ℕ (coded× addresses_code addresses_code))) (λ k. (k.used, (k.copied, (k.moved, k.gray))))
    (λ p. record { used = p.0; copied = p.1.0; moved = p.1.1.0; gray = p.1.1.1 }) (λ _. refl)
