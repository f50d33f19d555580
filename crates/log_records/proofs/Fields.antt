-- A number that was read from the front of bytes is spelled there.
use Rattle.std.proofs.Common.{◌≡◌, ℕ, ◌+◌, ◌<◌, ◌≤◌, List, ◌++◌, length, get_or, take, drop, cond, Result, Ok, Err, is_ok, OnOk, sym, ap, ◌∙◌, arith, inl, inr}
use Rattle.std.specs.Int.{w16, w32, w64, to_le_bytes}
use Rattle.std.proofs.lemmas.Bool.{cases_lt}
use Rattle.std.proofs.lemmas.List.{take-append-drop, length-take, length-take-le, get_or-take, get_or_past, get_or-drop}
use Rattle.std.proofs.lemmas.Nat.{le_bytes_2, le_bytes_4, le_bytes_8}
use Rattle.byteorder.specs.Endian.{little_number}

abbrev pub IsBytes : List ℕ → Type 0
IsBytes bytes = (i : ℕ) → get_or bytes i 0 < 256

-- so are those from a place on
pub IsBytes-drop : (from : ℕ) (bytes : List ℕ) → IsBytes bytes → IsBytes (drop from bytes)
IsBytes-drop from bytes fits i = rw (get_or-drop from bytes i 0) (fits (from + i))

IsBytes-take : (size : ℕ) (bytes : List ℕ) → IsBytes bytes → IsBytes (take size bytes)
IsBytes-take size bytes fits i = elim (cases_lt i size) [
  | inl lt ↦ rw (get_or-take size bytes i 0 lt) (fits i)
  | inr le ↦ rw (get_or_past (take size bytes) i 0 (omega (arith, length-take size bytes))) (omega arith)
]

module _ (bytes : List ℕ) (n : ℕ) (fits : IsBytes bytes) where
  byte : (size i : ℕ) → i < size → get_or (take size bytes) i 0 ≡ get_or bytes i 0
  byte size i lt = get_or-take size bytes i 0 lt

  spelled : (size : ℕ) (spelling : List ℕ) → spelling ≡ take size bytes → bytes ≡ spelling ++ drop size bytes
  spelled size spelling is = rw is (sym (take-append-drop size bytes))

  pub spelled_2 : 2 ≤ length bytes → n ≡ little_number 2 bytes → bytes ≡ to_le_bytes w16 n ++ drop 2 bytes
  spelled_2 large read =
      spelled 2 _ (le_bytes_2 (take 2 bytes) n (length-take-le 2 bytes large) (IsBytes-take 2 bytes fits) (omega (arith, read, byte 2 0 (omega arith), byte 2 1 (omega arith))))

  pub spelled_4 : 4 ≤ length bytes → n ≡ little_number 4 bytes → bytes ≡ to_le_bytes w32 n ++ drop 4 bytes
  spelled_4 large read =
      spelled 4 _ (le_bytes_4 (take 4 bytes) n (length-take-le 4 bytes large) (IsBytes-take 4 bytes fits) (omega (arith, read, byte 4 0 (omega arith), byte 4 1 (omega arith), byte 4 2 (omega arith), byte 4 3 (omega arith))))

  pub spelled_8 : 8 ≤ length bytes → n ≡ little_number 8 bytes → bytes ≡ to_le_bytes w64 n ++ drop 8 bytes
  spelled_8 large read =
      spelled 8 _ (le_bytes_8 (take 8 bytes) n (length-take-le 8 bytes large) (IsBytes-take 8 bytes fits)
      (omega (arith, read, byte 8 0 (omega arith), byte 8 1 (omega arith), byte 8 2 (omega arith), byte 8 3 (omega arith), byte 8 4 (omega arith), byte 8 5 (omega arith), byte 8 6 (omega arith), byte 8 7 (omega arith))))

pub appended : {E : Type 0} (r : Result (Unit {0}) E) (old new more spelled : List ℕ) → new ≡ cond (is_ok r) (old ++ more) old → more ≡ spelled → OnOk r (new ≡ old ++ spelled)
appended (Ok x) old new more spelled e is = e ∙ ap (λ (l : List ℕ). old ++ l) is
appended (Err f) old new more spelled e is = tt
