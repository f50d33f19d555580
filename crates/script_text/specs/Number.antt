-- Decimal numbers as scripts and command lines spell them.
use Rattle.std.specs.Prelude.{ℕ, ◌+◌, ◌-◌, ◌*◌, ◌^◌, List, length, Bool, ◌&&◌, nat_lt, nat_le, fold, Option, None, Some, if◌then◌else◌}
use Rattle.std.specs.Char.{is_ascii_digit}
use Rattle.std.specs.List.{list_all}

-- the value of decimal digits that follow those of a number
abbrev pub value_from : ℕ → List ℕ → ℕ
value_from n digits = fold (λ n digit. n * 10 + (digit - 48)) n digits

-- the value of decimal digits
abbrev pub value : List ℕ → ℕ
value digits = value_from 0 digits

-- from 1 to 20 decimal digits
abbrev pub are_digits : List ℕ → Bool
are_digits digits = nat_lt 0 (length digits) && nat_le (length digits) 20 && list_all is_ascii_digit digits

-- the number below 2 ^ 64 that 1 to 20 decimal digits spell
abbrev pub number : List ℕ → Option ℕ
number digits =
    if are_digits digits && nat_lt (value digits) (2 ^ 64) then Some (value digits) else None
