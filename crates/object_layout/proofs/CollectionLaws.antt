-- Laws of the walk of a collection's spaces: the from-space is filled in one way only, the fault is unique, and a walk that passes has none.
use Rattle.std.proofs.Common.{◌≡◌, ℕ, ◌+◌, ◌≤◌, inl, inr, Bool, true, false, List, [], ◌∷◌, Option, None, Some, refl, sym, ap, ◌∙◌, subst, arith, get_or}
use Rattle.std.specs.Ordering.{nat_cmp}
use Rattle.std.specs.FinSet.{FinSet}
use Rattle.std.proofs.lemmas.Bool.{cases_order}
use Rattle.std.proofs.lemmas.Option.{same_Some}
use Rattle.heap_words.specs.Header.{header}
use Rattle.object_layout.specs.Walk.{IsFilled, BreaksAt}
use Rattle.heap_spaces.specs.Collection.{Collection}
use Rattle.object_layout.specs.CollectionWalk.{FromSpace, from_end, copy_length, ending, old_object, is_moved, old_object_at, AreChained, AreOldObjects, words_moved, IsOldFilled, AreAmong, targets, AllKeepInside, IsCollectionWalked, OldBreaksAt, IsOldFault, old_breaks, old_sum, IsFirstStray, IsFirstOut, IsCollectionFault, breaks_off, old_fails, gray_strays, field_leads_out, old_field_leads_out, IsWalkedBeside, IsWalkFaultBeside}
use Rattle.object_layout.proofs.WalkLaws.{object_take_end, filled_one, filled_breaks, breaks_one, walked_fault, fault_one}

-- Objects end to end.

-- two chains from one address on are one, if no object stands where they end
pub chained_one : (object : ℕ → Option ℕ) (from : ℕ) (xs ys : List ℕ) (end stop : ℕ) → AreChained object from xs end → AreChained object from ys stop
    → object end ≡ None → object stop ≡ None → (xs ≡ ys) × (end ≡ stop)
chained_one object from [] [] end stop one other none none' = (refl, sym one ∙ other)
chained_one object from [] (b ∷ ys) end stop one (m, same', is', more') none none' =
    let clash = sym none ∙ ap object (sym one ∙ sym same') ∙ is' in cc
chained_one object from (a ∷ xs) [] end stop (n, same, is, more) other none none' =
    let clash = sym none' ∙ ap object (sym other ∙ sym same) ∙ is in cc
chained_one object from (a ∷ xs) (b ∷ ys) end stop (n, same, is, more) (m, same', is', more') none none' =
    let one : a ≡ b = same ∙ sym same' in
    let long : n ≡ m = same_Some n m (sym is ∙ ap object one ∙ is') in
    let Rest : ℕ → Type 0 = λ x. AreChained object x ys stop in
    let rest = chained_one object (a + 2 + n) xs ys end stop more (subst Rest (omega arith) more') none none' in
    (cc, rest.1)

ending_end : (end at : ℕ) (o : Option ℕ) (n : ℕ) → ending end at o ≡ Some n → at + 2 + n ≤ end
ending_end end at None n is = cc
ending_end end at (Some m) n is = grind arith

old_end_at : (words starts : List ℕ) (end at : ℕ) (moved : Bool) (n : ℕ) → old_object words starts end at moved ≡ Some n → at + 2 + n ≤ end
old_end_at words starts end at true n is = ending_end end at (copy_length words starts (header (get_or words at 0))) n is
old_end_at words starts end at false n is = object_take_end words end at n is

-- an object of the from-space ends within its used words
pub old_object_end : (words starts : List ℕ) (from : FromSpace) (at n : ℕ) → old_object_at words starts from at ≡ Some n → at + 2 + n ≤ from_end from
old_object_end words starts from at n is = old_end_at words starts (from_end from) at (is_moved from at) n is

none_at : (o : Option ℕ) → ((n : ℕ) → o ≡ Some n → ⊥) → o ≡ None
none_at None no_object = refl
none_at (Some n) no_object = absurd (no_object n refl)

-- so none stands at their end
pub old_none : (words starts : List ℕ) (from : FromSpace) → old_object_at words starts from (from_end from) ≡ None
old_none words starts from =
    none_at (old_object_at words starts from (from_end from)) (λ n is. let ends = old_object_end words starts from (from_end from) n is in omega arith)

-- the from-space is filled in one way
pub olds_one : (words starts : List ℕ) (from : FromSpace) (xs ys : List ℕ) → AreOldObjects words starts from xs (from_end from)
    → AreOldObjects words starts from ys (from_end from) → xs ≡ ys
olds_one words starts from xs ys one other =
    let none = old_none words starts from in
    (chained_one (old_object_at words starts from) from.base xs ys (from_end from) (from_end from) one other none none).0

-- objects that fill the from-space don't break off
pub olds_break : (words starts : List ℕ) (from : FromSpace) (olds : List ℕ) (at : ℕ) → AreOldObjects words starts from olds (from_end from) → OldBreaksAt words starts from at → ⊥
olds_break words starts from olds at filled off =
    let same = (chained_one (old_object_at words starts from) from.base olds off.olds (from_end from) at filled off.objects (old_none words starts from) off.none).1 in
    let before = off.before in
    omega arith

-- if the copied words add up too, the from-space has no fault
pub old_filled_fault : (words starts : List ℕ) (from : FromSpace) (olds : List ℕ) (at : ℕ) → IsOldFilled words starts from olds → IsOldFault words starts from at → ⊥
old_filled_fault words starts from olds at filled (old_breaks off) = olds_break words starts from olds at filled.objects off
old_filled_fault words starts from olds at filled (old_sum others objects differ) =
    differ (ap (words_moved words starts from) (olds_one words starts from others olds objects filled.objects) ∙ filled.sum)

-- it has one
pub old_fault_one : (words starts : List ℕ) (from : FromSpace) (a b : ℕ) → IsOldFault words starts from a → IsOldFault words starts from b → a ≡ b
old_fault_one words starts from a b (old_breaks one) (old_breaks other) =
    (chained_one (old_object_at words starts from) from.base one.olds other.olds a b one.objects other.objects one.none other.none).1
old_fault_one words starts from a b (old_breaks one) (old_sum olds objects differ) = absurd (olds_break words starts from olds a objects one)
old_fault_one words starts from a b (old_sum olds objects differ) (old_breaks other) = absurd (olds_break words starts from olds b objects other)
old_fault_one words starts from a b (old_sum olds objects differ) (old_sum olds' objects' differ') = refl

-- The first of several.

pub stray_one : (gray : FinSet nat_cmp) (starts : List ℕ) (a b : ℕ) → IsFirstStray gray starts a → IsFirstStray gray starts b → a ≡ b
stray_one gray starts a b one other = elim (cases_order a b) [
  | inl same ↦ same
  | inr (inl below) ↦ absurd (one.stray (other.first a one.gray_there below))
  | inr (inr above) ↦ absurd (other.stray (one.first b other.gray_there above))
]

pub out_one : (words : List ℕ) (may : ℕ → List ℕ) (starts : List ℕ) (a b : ℕ) → IsFirstOut words may starts a → IsFirstOut words may starts b → a ≡ b
out_one words may starts a b one other = elim (cases_order a b) [
  | inl same ↦ same
  | inr (inl below) ↦ absurd (one.out (other.first a one.has below))
  | inr (inr above) ↦ absurd (other.out (one.first b other.has above))
]

-- The rules one after another, if the current space is filled by these objects, and the from-space by those.

-- What fails after the first two rules.
data FailsBehind (words starts olds : List ℕ) (k : Collection) : ℕ → Type 0 where
  stray : {at : ℕ} → IsFirstStray k.gray starts at → FailsBehind words starts olds k at
  field : {at : ℕ} → AreAmong k.gray starts → IsFirstOut words (targets k starts olds) starts at → FailsBehind words starts olds k at
  old_field : {at : ℕ} → AreAmong k.gray starts → AllKeepInside words (targets k starts olds) starts → IsFirstOut words (λ a. olds) olds at
      → FailsBehind words starts olds k at

no_stray : (gray : FinSet nat_cmp) (starts : List ℕ) (at : ℕ) → AreAmong gray starts → IsFirstStray gray starts at → ⊥
no_stray gray starts at among one = one.stray (among at one.gray_there)

none_out : (words : List ℕ) (may : ℕ → List ℕ) (starts : List ℕ) (at : ℕ) → AllKeepInside words may starts → IsFirstOut words may starts at → ⊥
none_out words may starts at all one = one.out (all at one.has)

behind_one : (words starts olds : List ℕ) (k : Collection) (a b : ℕ) → FailsBehind words starts olds k a → FailsBehind words starts olds k b → a ≡ b
behind_one words starts olds k a b (stray one) (stray other) = stray_one k.gray starts a b one other
behind_one words starts olds k a b (stray one) (field among other) = absurd (no_stray k.gray starts a among one)
behind_one words starts olds k a b (stray one) (old_field among all other) = absurd (no_stray k.gray starts a among one)
behind_one words starts olds k a b (field among one) (stray other) = absurd (no_stray k.gray starts b among other)
behind_one words starts olds k a b (field among one) (field among' other) = out_one words (targets k starts olds) starts a b one other
behind_one words starts olds k a b (field among one) (old_field among' all other) = absurd (none_out words (targets k starts olds) starts a all one)
behind_one words starts olds k a b (old_field among all one) (stray other) = absurd (no_stray k.gray starts b among other)
behind_one words starts olds k a b (old_field among all one) (field among' other) = absurd (none_out words (targets k starts olds) starts b all other)
behind_one words starts olds k a b (old_field among all one) (old_field among' all' other) = out_one words (λ x. olds) olds a b one other

-- The same faults, by which of the first two rules hold.
data FailsAt (words : List ℕ) (base used : ℕ) (from : FromSpace) : ℕ → Type 0 where
  first : {at : ℕ} → BreaksAt words base used at → FailsAt words base used from at
  second : {at : ℕ} (starts : List ℕ) → IsFilled words base used starts → IsOldFault words starts from at → FailsAt words base used from at
  later : {at : ℕ} (starts olds : List ℕ) → IsFilled words base used starts → IsOldFilled words starts from olds
      → FailsBehind words starts olds from.collection at → FailsAt words base used from at

fails_at : (words : List ℕ) (base used : ℕ) (from : FromSpace) (at : ℕ) → IsCollectionFault words base used from at → FailsAt words base used from at
fails_at words base used from at (breaks_off off) = first off
fails_at words base used from at (old_fails starts filled fault) = second starts filled fault
fails_at words base used from at (gray_strays starts olds filled old one) = later starts olds filled old (stray one)
fails_at words base used from at (field_leads_out starts olds filled old among one) = later starts olds filled old (field among one)
fails_at words base used from at (old_field_leads_out starts olds filled old among all one) = later starts olds filled old (old_field among all one)

at_one : (words : List ℕ) (base used : ℕ) (from : FromSpace) (a b : ℕ) → FailsAt words base used from a → FailsAt words base used from b → a ≡ b
at_one words base used from a b (first off) (first off') = breaks_one words base used a b off off'
at_one words base used from a b (first off) (second starts filled fault) = absurd (filled_breaks words base used starts a filled off)
at_one words base used from a b (first off) (later starts olds filled old fails) = absurd (filled_breaks words base used starts a filled off)
at_one words base used from a b (second starts filled fault) (first off) = absurd (filled_breaks words base used starts b filled off)
at_one words base used from a b (second xs filled fault) (second ys filled' fault') =
    let Fault : List ℕ → Type 0 = λ zs. IsOldFault words zs from a in
    old_fault_one words ys from a b (subst Fault (filled_one words base used xs ys filled filled') fault) fault'
at_one words base used from a b (second xs filled fault) (later ys olds filled' old fails) =
    let Fault : List ℕ → Type 0 = λ zs. IsOldFault words zs from a in
    absurd (old_filled_fault words ys from olds a old (subst Fault (filled_one words base used xs ys filled filled') fault))
at_one words base used from a b (later starts olds filled old fails) (first off) = absurd (filled_breaks words base used starts b filled off)
at_one words base used from a b (later xs olds filled old fails) (second ys filled' fault) =
    let Fault : List ℕ → Type 0 = λ zs. IsOldFault words zs from b in
    absurd (old_filled_fault words xs from olds b old (subst Fault (filled_one words base used ys xs filled' filled) fault))
at_one words base used from a b (later xs olds filled old fails) (later ys olds' filled' old' fails') =
    let Old : List ℕ → Type 0 = λ zs. IsOldFilled words zs from olds in
    let Fails : List ℕ → Type 0 = λ zs. FailsBehind words zs olds from.collection a in
    let same = filled_one words base used xs ys filled filled' in
    let moved = subst Old same old in
    let Behind : List ℕ → Type 0 = λ zs. FailsBehind words ys zs from.collection a in
    behind_one words ys olds' from.collection a b (subst Behind (olds_one words ys from olds olds' moved.objects old'.objects) (subst Fails same fails)) fails'

-- a walk of a collection's spaces has one first fault
pub collection_fault_one : (words : List ℕ) (base used : ℕ) (from : FromSpace) (a b : ℕ) → IsCollectionFault words base used from a → IsCollectionFault words base used from b → a ≡ b
collection_fault_one words base used from a b one other = at_one words base used from a b (fails_at words base used from a one) (fails_at words base used from b other)

no_later : (words starts olds : List ℕ) (k : Collection) (at : ℕ) → AreAmong k.gray starts → AllKeepInside words (targets k starts olds) starts
    → AllKeepInside words (λ a. olds) olds → FailsBehind words starts olds k at → ⊥
no_later words starts olds k at among inside old_inside (stray one) = no_stray k.gray starts at among one
no_later words starts olds k at among inside old_inside (field among' one) = none_out words (targets k starts olds) starts at inside one
no_later words starts olds k at among inside old_inside (old_field among' all one) = none_out words (λ a. olds) olds at old_inside one

-- none, if it passes
pub collection_walked_fault : (words : List ℕ) (base used : ℕ) (from : FromSpace) (at : ℕ) → IsCollectionWalked words base used from → IsCollectionFault words base used from at → ⊥
collection_walked_fault words base used from at walked fault = none_fails (fails_at words base used from at fault)
  where
    none_fails : FailsAt words base used from at → ⊥
    none_fails (first off) = filled_breaks words base used walked.starts at walked.filled off
    none_fails (second xs filled fault) =
        let Fault : List ℕ → Type 0 = λ zs. IsOldFault words zs from at in
        old_filled_fault words walked.starts from walked.olds at walked.old_filled (subst Fault (filled_one words base used xs walked.starts filled walked.filled) fault)
    none_fails (later xs olds filled old fails) =
        let same = filled_one words base used xs walked.starts filled walked.filled in
        let Old : List ℕ → Type 0 = λ zs. IsOldFilled words zs from olds in
        let Fails : List ℕ → Type 0 = λ zs. FailsBehind words zs olds from.collection at in
        let moved = subst Old same old in
        let Behind : List ℕ → Type 0 = λ zs. FailsBehind words walked.starts zs from.collection at in
        no_later words walked.starts walked.olds from.collection at walked.grays walked.inside walked.old_inside
        (subst Behind (olds_one words walked.starts from olds walked.olds moved.objects walked.old_filled.objects) (subst Fails same fails))

-- The walk of the heap's spaces, whether a collection runs or not.

-- it has one first fault
pub beside_fault_one : (words : List ℕ) (base used : ℕ) (from : Option FromSpace) (a b : ℕ) → IsWalkFaultBeside words base used from a → IsWalkFaultBeside words base used from b → a ≡ b
beside_fault_one words base used None a b one other = fault_one words base used a b one other
beside_fault_one words base used (Some from) a b one other = collection_fault_one words base used from a b one other

-- and none if it passes
pub beside_walked_fault : (words : List ℕ) (base used : ℕ) (from : Option FromSpace) (at : ℕ) → IsWalkedBeside words base used from → IsWalkFaultBeside words base used from at → ⊥
beside_walked_fault words base used None at walked fault = walked_fault words base used at walked fault
beside_walked_fault words base used (Some from) at walked fault = collection_walked_fault words base used from at walked fault
