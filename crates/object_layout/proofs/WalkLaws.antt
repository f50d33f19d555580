-- Laws of the walk: objects of a space are objects of the words, the fault is unique, and a walk that passes has none.
use Rattle.std.proofs.Common.{◌≡◌, ℕ, zero, suc, ◌+◌, ◌<◌, ◌≤◌, ◌⊎◌, inl, inr, List, [], ◌∷◌, length, take, drop, Option, None, Some, refl, sym, ap, ◌∙◌, subst, arith}
use Rattle.std.specs.Prelude.{Contains, if◌then◌else◌}
use Rattle.std.proofs.lemmas.Bool.{le-leb, cases_order}
use Rattle.std.proofs.lemmas.List.{get_or-take, length-take}
use Rattle.std.proofs.lemmas.Option.{same_Some}
use Rattle.heap_words.specs.Header.{header}
use Rattle.object_layout.specs.Layout.{whole_length, object_at, words_of, field_words}
use Rattle.object_layout.proofs.LayoutLaws.{object_header}
use Rattle.object_layout.specs.Walk.{used_words, AreEndToEnd, KeepsInside, IsFilled, IsWalked, BreaksAt, at_root, behind, IsWalkFault, breaks, leads_out}

-- the head of a list is in it
pub Contains-head : {X : Type 0} (x : X) (xs : List X) → Contains (x ∷ xs) x
Contains-head x xs = (0, omega arith, refl)

-- and what is in its rest
pub Contains-rest : {X : Type 0} (x : X) (xs : List X) (y : X) → Contains xs y → Contains (x ∷ xs) y
Contains-rest x xs y (k, within, is) = (suc k, omega arith, is)

-- and nothing else
pub Contains-cases : {X : Type 0} (x : X) (xs : List X) (y : X) → Contains (x ∷ xs) y → (x ≡ y) ⊎ Contains xs y
Contains-cases x xs y (zero, within, is) = inl is
Contains-cases x xs y (suc k, within, is) = inr (k, omega arith, is)

-- nothing is in the empty list
pub Contains-none : {X : Type 0} (y : X) → Contains [] y → ⊥
Contains-none y (k, within, is) = omega arith

-- an object of a prefix of the words is one of the words
pub object_take : (words : List ℕ) (end at n : ℕ) → object_at (take end words) at ≡ Some n → object_at words at ≡ Some n
object_take words end at n is =
    let parts = object_header (take end words) at n is in
    let shorter : length (take end words) ≤ length words = omega (arith, length-take {A = ℕ}) in
    let within : at + 2 + n ≤ end = omega (arith, length-take end words) in
    ap (λ w. whole_length words at (header w)) (sym (get_or-take end words at 0 (omega arith)))
    ∙ ap (whole_length words at) parts.0
    ∙ ap (λ b. if b then Some n else None) (le-leb (at + 2 + n) (length words) (omega arith))

-- and ends in that prefix
pub object_take_end : (words : List ℕ) (end at n : ℕ) → object_at (take end words) at ≡ Some n → at + 2 + n ≤ end
object_take_end words end at n is = let parts = object_header (take end words) at n is in omega (arith, length-take end words)

-- the object at an address of a prefix has the same field words there
pub field_words_take : (words : List ℕ) (end at n : ℕ) → object_at (take end words) at ≡ Some n → field_words words at ≡ take n (drop (at + 2) words)
field_words_take words end at n is = ap (words_of words at) (object_take words end at n is)

-- two runs of objects from one address on are one, if no object stands where they end
pub end_to_end_one : (words : List ℕ) (from : ℕ) (xs ys : List ℕ) (end stop : ℕ) → AreEndToEnd words from xs end → AreEndToEnd words from ys stop
    → object_at words end ≡ None → object_at words stop ≡ None → (xs ≡ ys) × (end ≡ stop)
end_to_end_one words from [] [] end stop one other none none' = (refl, sym one ∙ other)
end_to_end_one words from [] (b ∷ ys) end stop one (m, same', object', more') none none' =
    let clash = sym none ∙ ap (object_at words) (sym one ∙ sym same') ∙ object' in cc
end_to_end_one words from (a ∷ xs) [] end stop (n, same, object, more) other none none' =
    let clash = sym none' ∙ ap (object_at words) (sym other ∙ sym same) ∙ object in cc
end_to_end_one words from (a ∷ xs) (b ∷ ys) end stop (n, same, object, more) (m, same', object', more') none none' =
    let one : a ≡ b = same ∙ sym same' in
    let long : n ≡ m = same_Some n m (sym object ∙ ap (object_at words) one ∙ object') in
    let Rest : ℕ → Type 0 = λ x. AreEndToEnd words x ys stop in
    let rest = end_to_end_one words (a + 2 + n) xs ys end stop more (subst Rest (omega arith) more') none none' in
    (cc, rest.1)

-- no object ends past the end of a space's used words
used_end : (words : List ℕ) (base used : ℕ) → object_at (used_words words base used) (base + used) ≡ None
used_end words base used = none_at (object_at (used_words words base used) (base + used)) (λ n is. let ends = object_take_end words (base + used) (base + used) n is in omega arith)
  where
    none_at : (o : Option ℕ) → ((n : ℕ) → o ≡ Some n → ⊥) → o ≡ None
    none_at None no_object = refl
    none_at (Some n) no_object = absurd (no_object n refl)

-- a space is filled in one way only
pub filled_one : (words : List ℕ) (base used : ℕ) (xs ys : List ℕ) → IsFilled words base used xs → IsFilled words base used ys → xs ≡ ys
filled_one words base used xs ys one other =
    (end_to_end_one (used_words words base used) base xs ys (base + used) (base + used) one.objects other.objects (used_end words base used) (used_end words base used)).0

-- objects that fill a space don't break off
pub filled_breaks : (words : List ℕ) (base used : ℕ) (starts : List ℕ) (at : ℕ) → IsFilled words base used starts → BreaksAt words base used at → ⊥
filled_breaks words base used starts at filled (at_root no_root) = no_root filled.root
filled_breaks words base used starts at filled (behind xs root objects before none) =
    let end = (end_to_end_one (used_words words base used) base starts xs (base + used) at filled.objects objects (used_end words base used) none).1 in omega arith

-- they break off at one address
pub breaks_one : (words : List ℕ) (base used a b : ℕ) → BreaksAt words base used a → BreaksAt words base used b → a ≡ b
breaks_one words base used a b (at_root no_root) (at_root no_root') = refl
breaks_one words base used a b (at_root no_root) (behind xs root objects before none) = absurd (no_root root)
breaks_one words base used a b (behind xs root objects before none) (at_root no_root) = absurd (no_root root)
breaks_one words base used a b (behind xs root objects before none) (behind ys root' objects' before' none') =
    (end_to_end_one (used_words words base used) base xs ys a b objects objects' none none').1

-- a walk that passes has no fault
pub walked_fault : (words : List ℕ) (base used at : ℕ) → IsWalked words base used → IsWalkFault words base used at → ⊥
walked_fault words base used at walked (breaks off) = filled_breaks words base used walked.starts at walked.filled off
walked_fault words base used at walked (leads_out starts filled has out first) =
    let same = filled_one words base used walked.starts starts walked.filled filled in
    let Inside : List ℕ → Type 0 = λ xs. (a : ℕ) → Contains xs a → KeepsInside words xs a in
    out (subst Inside same walked.inside at has)

-- a walk has one first fault
pub fault_one : (words : List ℕ) (base used a b : ℕ) → IsWalkFault words base used a → IsWalkFault words base used b → a ≡ b
fault_one words base used a b (breaks off) (breaks off') = breaks_one words base used a b off off'
fault_one words base used a b (breaks off) (leads_out starts filled has out first) = absurd (filled_breaks words base used starts a filled off)
fault_one words base used a b (leads_out starts filled has out first) (breaks off) = absurd (filled_breaks words base used starts b filled off)
fault_one words base used a b (leads_out xs filled has out first) (leads_out ys filled' has' out' first') =
    let same = filled_one words base used xs ys filled filled' in
    let First : List ℕ → Type 0 = λ zs. (x : ℕ) → Contains zs x → x < b → KeepsInside words zs x in
    let Out : List ℕ → Type 0 = λ zs. Contains zs b × (KeepsInside words zs b → ⊥) in
    let earlier = subst First (sym same) first' in
    let led = subst Out (sym same) (has', out') in
    elim (cases_order a b) [
      | inl equal ↦ equal
      | inr (inl below) ↦ absurd (out (earlier a has below))
      | inr (inr above) ↦ absurd (led.1 (first b led.0 above))
    ]
