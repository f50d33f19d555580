-- How copies are stored, so that they can be what contracts see of a struct.
use Rattle.std.specs.Prelude.{ℕ, List}
use Rattle.std.specs.Coded.{Coded, code_by, coded×, coded_ℕ, coded_list}
use Rattle.std.proofs.Common.{refl}
use Rattle.log_records.specs.declared.copies.ObjectCopy.{ObjectCopy}

abbrev pub copy_code : Coded ObjectCopy
copy_code =
    code_by (ℕ × (ℕ × List ℕ)) (coded× coded_ℕ (coded× coded_ℕ (coded_list coded_ℕ))) (λ k. (k.from, (k.to, k.words))) (λ p. record { from = p.0; to = p.1.0; words = p.1.1 }) (λ _. refl)

abbrev pub copies_code : Coded (List ObjectCopy)
copies_code = coded_list copy_code
