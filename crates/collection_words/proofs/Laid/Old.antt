-- Objects of the from-space: where they lie, and that the current space has none of their words.
use Rattle.std.proofs.Common.{◌≡◌, ◌≢◌, ℕ, ◌+◌, ◌<◌, ◌≤◌, inl, inr, Bool, true, false, List, [], ◌∷◌, Some, refl, sym, ap, ◌∙◌, subst, arith}
use Rattle.std.specs.Prelude.{Contains, MatchOption}
use Rattle.std.proofs.lemmas.Bool.{and_parts, and_from, le-leb, leb-true, lt-ltb, ltb-true}
use Rattle.std.proofs.lemmas.Option.{same_Some}
use Rattle.heap_spaces.specs.Collection.{Collection}
use Rattle.object_layout.specs.Layout.{led, object_at}
use Rattle.object_layout.proofs.LayoutLaws.{object_header}
use Rattle.object_layout.proofs.WalkLaws.{Contains-cases, Contains-none}
use Rattle.log_machine.specs.Collecting.{other_base}
use Rattle.log_machine.specs.Machine.{State, space_words}
use Rattle.log_machine.specs.Sound.{IsSpaced, IsWithin}
use Rattle.graph_words.specs.Places.{Places, addresses}
use Rattle.collection_words.specs.Completed.{in_other_space}
use Rattle.collection_words.specs.LaidOut.{AreOldEndToEnd, old_length}
use Rattle.collection_words.proofs.Laid.Sources.{IsCollecting, left_object}

-- An object of a run of the from-space lies in it.
pub record LiesInRun (words : List ℕ) (from end at : ℕ) : Type 0 where
  pub fields : ℕ
  pub long : old_length words at ≡ Some fields
  pub above : from ≤ at
  pub below : at + 2 + fields ≤ end

old_order : (words : List ℕ) (from : ℕ) (starts : List ℕ) (end : ℕ) → AreOldEndToEnd words from starts end → from ≤ end
old_order words from [] end ends = omega arith
old_order words from (at ∷ rest) end (n, same, long, more) = let later = old_order words (at + 2 + n) rest end more in omega arith

-- so does each
pub old_within : (words : List ℕ) (from : ℕ) (starts : List ℕ) (end at : ℕ) → AreOldEndToEnd words from starts end → Contains starts at → LiesInRun words from end at
old_within words from [] end at ends has = absurd (Contains-none at has)
old_within words from (a ∷ rest) end at (n, same, long, more) has = elim (Contains-cases a rest at has) [
  | inl here ↦
      let later = old_order words (a + 2 + n) rest end more in
      record { fields = n; long = ap (old_length words) (sym here) ∙ long; above = omega arith; below = omega arith }
  | inr behind ↦
      let one = old_within words (a + 2 + n) rest end at more behind in
      let above = one.above in
      record { fields = one.fields; long = one.long; above = omega arith; below = one.below }
]

-- an object that is not forwarded has its own length
pub old_length-object : (words : List ℕ) (at n : ℕ) → object_at words at ≡ Some n → old_length words at ≡ Some n
old_length-object words at n is = ap (λ h. object_at words (led at h)) (object_header words at n is).0 ∙ is

-- An object that remains lies in the from-space's words.
pub record LiesBehind (s : State) (words : List ℕ) (at : ℕ) : Type 0 where
  pub fields : ℕ
  pub object : object_at words at ≡ Some fields
  pub above : other_base s ≤ at
  pub below : at + 2 + fields ≤ other_base s + space_words s.pages

-- the words of the from-space that are copied, and these are words of a space
pub collection_within : {s : State} {k : Collection} {places remaining : Places} {words : List ℕ} → IsCollecting s k places remaining words → IsWithin s.pages k
collection_within {s} is = subst (λ o. MatchOption o (Unit {0}) (IsWithin s.pages)) is.run is.spaced.within

-- so it does
pub left_within : {s : State} {k : Collection} {places remaining : Places} {words : List ℕ} → IsCollecting s k places remaining words → (at : ℕ) → Contains (addresses remaining) at → LiesBehind s words at
left_within {s} {k} {words = words} is at has =
    let left = left_object is.from at has in
    let lies = old_within words (other_base s) is.from.starts (other_base s + k.used) at is.from.chain left.start in
    let same = same_Some lies.fields left.fields (sym lies.long ∙ old_length-object words at left.fields left.object) in
    let space = (collection_within is).used in
    let close = lies.below in
    record { fields = left.fields; object = left.object; above = lies.above; below = omega arith }

-- each start of it lies in the other space
pub old_in_other : {s : State} {k : Collection} {places remaining : Places} {words : List ℕ} (is : IsCollecting s k places remaining words) (at : ℕ) → Contains is.from.starts at → in_other_space s at ≡ true
old_in_other {s} {k} {words = words} is at has =
    let lies = old_within words (other_base s) is.from.starts (other_base s + k.used) at is.from.chain has in
    let space = (collection_within is).used in
    let close = lies.below in
    and_from _ _ (le-leb (other_base s) at lies.above) (lt-ltb at (other_base s + space_words s.pages) (omega arith))

-- no word of the current space is one of the other
pub apart_spaces : (s : State) → IsSpaced s → (at from : ℕ) → s.base ≤ at → at < s.base + space_words s.pages → other_base s ≤ from → from < other_base s + space_words s.pages → at ≢ from
apart_spaces s spaced at from above below above' below' same = elim spaced.first [ inl low ↦ omega arith | inr high ↦ omega arith ]

none_other : (s : State) (at : ℕ) → (in_other_space s at ≡ true → ⊥) → in_other_space s at ≡ false
none_other s at never = each (in_other_space s at) never
  where
    each : (b : Bool) → (b ≡ true → ⊥) → b ≡ false
    each true never = absurd (never refl)
    each false never = refl

-- the bounds of an address of the other space
pub other_bounds : (s : State) (at : ℕ) → in_other_space s at ≡ true → (other_base s ≤ at) × (at < other_base s + space_words s.pages)
other_bounds s at is = let parts = and_parts _ _ is in (leb-true _ _ parts.0, ltb-true _ _ parts.1)

-- an address of the current space is none of the other
pub current_not_other : (s : State) → IsSpaced s → (at : ℕ) → s.base ≤ at → at < s.base + space_words s.pages → in_other_space s at ≡ false
current_not_other s spaced at above below =
    none_other s at (λ is. let bounds = other_bounds s at is in apart_spaces s spaced at at above below bounds.0 bounds.1 refl)
