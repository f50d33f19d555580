-- Objects end to end are so in the front of the words that ends where they do.
use Rattle.std.proofs.Common.{◌≡◌, ℕ, ◌+◌, ◌≤◌, List, [], ◌∷◌, take, Some, sym, ap, ◌∙◌, arith}
use Rattle.std.specs.Prelude.{Contains}
use Rattle.std.proofs.lemmas.Option.{same_Some}
use Rattle.std.proofs.lemmas.List.{get_or-take}
use Rattle.object_layout.specs.Layout.{object_at, birth_at}
use Rattle.object_layout.specs.Walk.{AreEndToEnd}
use Rattle.object_layout.proofs.ObjectLaws.{object_in_take}
use Rattle.object_layout.proofs.WalkLaws.{object_take, object_take_end}
use Rattle.object_layout.proofs.WalkedLaws.{end_to_end_object}

-- where they end is not before where they begin
pub ends_order : (words : List ℕ) (from : ℕ) (starts : List ℕ) (end : ℕ) → AreEndToEnd words from starts end → from ≤ end
ends_order words from [] end ends = omega arith
ends_order words from (at ∷ rest) end (n, same, object, more) = let later = ends_order words (at + 2 + n) rest end more in omega arith

-- they are end to end in each front that has all of them
pub ends_front : (words : List ℕ) (front from : ℕ) (starts : List ℕ) (end : ℕ) → end ≤ front → AreEndToEnd words from starts end → AreEndToEnd (take front words) from starts end
ends_front words front from [] end within ends = ends
ends_front words front from (at ∷ rest) end within (n, same, object, more) =
    let later = ends_order words (at + 2 + n) rest end more in
    (n, same, object_in_take words front at n object (omega arith), ends_front words front (at + 2 + n) rest end within more)

-- each of them is an object of that front
pub front_object : (words : List ℕ) (from : ℕ) (starts : List ℕ) (end at n : ℕ) → AreEndToEnd words from starts end → Contains starts at → object_at words at ≡ Some n
    → object_at (take end words) at ≡ Some n
front_object words from starts end at n ends has is =
    let there = end_to_end_object (take end words) from starts end at (ends_front words end from starts end (omega arith) ends) has in
    there.1 ∙ ap Some (same_Some there.0 n (sym (object_take words end at there.0 there.1) ∙ is))

-- with its birth
pub front_birth : (words : List ℕ) (end at n : ℕ) → object_at (take end words) at ≡ Some n → birth_at (take end words) at ≡ birth_at words at
front_birth words end at n is = let close = object_take_end words end at n is in get_or-take end words (at + 1) 0 (omega arith)
