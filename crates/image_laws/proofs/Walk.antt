-- The walk of the words passes, or it fails first at an address.
use Rattle.std.proofs.Common.{◌≡◌, ◌⊎◌, inl, inr, ℕ, zero, suc, ◌+◌, ◌<◌, ◌≤◌, Bool, true, false, List, [], ◌∷◌, ◌++◌, length, get_or, Option, None, Some, refl, sym, ap, ◌∙◌, subst, arith}
use Rattle.std.specs.Prelude.{Contains, slice_index, nat_le, if◌then◌else◌}
use Rattle.std.specs.Cmp.{Equal-is}
use Rattle.heap_words.specs.Header.{header}
use Rattle.std.specs.Ordering.{nat_cmp, eq_by_cmp}
use Rattle.std.specs.FinMap.{nat_cmp-IsAntisymmetric}
use Rattle.std.specs.FinSet.{FinSet, contains, items, contains-items}
use Rattle.std.proofs.lemmas.Bool.{cases_lt, cases_order, leb-true}
use Rattle.std.proofs.lemmas.Map.Views.{Contains-from_any}
use Rattle.std.proofs.lemmas.Option.{same_Some}
use Rattle.heap_words.specs.declared.Word.{Word}
use Rattle.heap_words.specs.declared.Word.TheVariants as word
use Rattle.heap_words.specs.Word.{meaning}
use Rattle.object_layout.specs.Layout.{object_at, field_words, birth_at}
use Rattle.object_layout.specs.Walk.{used_words, AreEndToEnd, IsRootAt, IsInside, AreInside, AreAscending, IsFilled, IsWalked, BreaksAt, at_root, behind, IsWalkFault, breaks, leads_out}
use Rattle.object_layout.specs.CollectionWalk.{FromSpace, from_end, ending, copy_length, old_object, is_moved, old_object_at, AreOldObjects, words_moved, IsOldFilled, AreAmong, targets, AllKeepInside, IsCollectionWalked, IsOldFault, old_breaks, old_sum, IsFirstStray, IsFirstOut, IsCollectionFault, breaks_off, old_fails, gray_strays, field_leads_out, old_field_leads_out, IsWalkedBeside, IsWalkFaultBeside}
use Rattle.object_layout.proofs.WalkLaws.{Contains-rest, Contains-cases, Contains-none, object_take_end}
use Rattle.object_layout.proofs.Starts.{end_to_end_push, end_to_end_ascend}
use Rattle.object_layout.proofs.OldStarts.{chained_push, chained_ascend, KeepSoFar, so_far_more, so_far_all, so_far_out}

-- Tests.

-- two numbers are one, or not
pub same_or_not : (a b : ℕ) → (a ≡ b) ⊎ (a ≡ b → ⊥)
same_or_not a b = elim (cases_order a b) [
  | inl same ↦ inl same
  | inr (inl less) ↦ inr (λ same. omega arith)
  | inr (inr more) ↦ inr (λ same. omega arith)
]

-- an option has something, or nothing
pub some_or_none : {A : Type 0} (o : Option A) → ((x : A) × (o ≡ Some x)) ⊎ (o ≡ None)
some_or_none None = inr refl
some_or_none (Some x) = inl (x, refl)

-- a test passes, or fails
pub true_or_false : (b : Bool) → (b ≡ true) ⊎ (b ≡ false)
true_or_false true = inl refl
true_or_false false = inr refl

-- a number is in a list, or not
pub has_or_not : (xs : List ℕ) (x : ℕ) → Contains xs x ⊎ (Contains xs x → ⊥)
has_or_not [] x = inr (Contains-none x)
has_or_not (y ∷ ys) x = elim (same_or_not y x) [
  | inl same ↦ inl (0, omega arith, same)
  | inr other ↦ elim (has_or_not ys x) [
    | inl has ↦ inl (Contains-rest y ys x has)
    | inr none ↦ inr (λ has. elim (Contains-cases y ys x has) [ inl is ↦ other is | inr later ↦ none later ])
  ]
]

-- Fields.

-- a field leads where it may, or not
inside_or_not : (starts : List ℕ) (meant : Option Word) → IsInside starts meant ⊎ (IsInside starts meant → ⊥)
inside_or_not starts None = inr (λ inside. inside)
inside_or_not starts (Some word.Null) = inl tt
inside_or_not starts (Some (word.Int n)) = inl tt
inside_or_not starts (Some (word.Stable b)) = has_or_not starts b
inside_or_not starts (Some (word.Volatile k)) = inr (λ inside. inside)

-- one field in front of others
inside_more : (starts ws : List ℕ) (w : ℕ) → IsInside starts (meaning w) → AreInside starts ws → AreInside starts (w ∷ ws)
inside_more starts ws w here rest zero v is = subst (λ (x : ℕ). IsInside starts (meaning x)) (same_Some w v is) here
inside_more starts ws w here rest (suc i) v is = rest i v is

-- all of them lead where they may, or not
all_inside_or_not : (starts ws : List ℕ) → AreInside starts ws ⊎ (AreInside starts ws → ⊥)
all_inside_or_not starts [] = inl (λ i w is. cc)
all_inside_or_not starts (w ∷ ws) = elim (inside_or_not starts (meaning w)) [
  | inr out ↦ inr (λ all. out (all 0 w refl))
  | inl here ↦ elim (all_inside_or_not starts ws) [
    | inl rest ↦ inl (inside_more starts ws w here rest)
    | inr none ↦ inr (λ all. none (λ i. all (suc i)))
  ]
]

module _ (words : List ℕ) (may : ℕ → List ℕ) (starts : List ℕ) (ascend : AreAscending starts) where
  -- of the objects from one place on, where those before it keep to where they may lead
  out_from : (left count : ℕ) → left + count ≡ length starts → KeepSoFar words may starts count → AllKeepInside words may starts ⊎ ((at : ℕ) × IsFirstOut words may starts at)
  out_from zero count all so_far = inl (so_far_all words may starts count (omega arith) so_far)
  out_from (suc left) count all so_far =
      let at = get_or starts count 0 in
      elim (all_inside_or_not (may at) (field_words words at)) [
        | inl keeps ↦ out_from left (count + 1) (omega arith) (so_far_more words may starts count so_far keeps)
        | inr out ↦ inr (at, so_far_out words may starts count ascend (omega arith) so_far out)
      ]

  -- each object's fields lead where they may, or there is a first one of which one does not
  keep_or_out : AllKeepInside words may starts ⊎ ((at : ℕ) × IsFirstOut words may starts at)
  keep_or_out = out_from (length starts) 0 (omega arith) (λ k none. absurd (omega arith))

-- Objects end to end.

module _ (object : ℕ → Option ℕ) (end : ℕ) (Chain : List ℕ → ℕ → Type 0)
    (push : (starts : List ℕ) (at n : ℕ) → Chain starts at → object at ≡ Some n → Chain (starts ++ at ∷ []) (at + 2 + n))
    (ends : (at n : ℕ) → object at ≡ Some n → at + 2 + n ≤ end) where
  -- where they break off
  record IsBroken : Type 0 where
    at : ℕ
    starts : List ℕ
    chain : Chain starts at
    before : at < end
    none : object at ≡ None

  -- they go up to the end, or break off before
  chain_or_break : (left : ℕ) (starts : List ℕ) (at : ℕ) → at ≤ end → end ≤ left + at → Chain starts at → ((all : List ℕ) × Chain all end) ⊎ IsBroken
  chain_or_break zero starts at within near chain = inl (starts, subst (Chain starts) (omega arith) chain)
  chain_or_break (suc left) starts at within near chain = elim (cases_lt at end) [
    | inr whole ↦ inl (starts, subst (Chain starts) (omega arith) chain)
    | inl before ↦ elim (some_or_none (object at)) [
      | inr none ↦ inr (record { at = at; starts = starts; chain = chain; before = before; none = none })
      | inl (n, is) ↦ chain_or_break left (starts ++ at ∷ []) (at + 2 + n) (ends at n is) (omega arith) (push starts at n chain is)
    ]
  ]

-- The current space.

-- a space has this object as its root, or not
root_or_not : (words : List ℕ) (at : ℕ) → IsRootAt words at ⊎ (IsRootAt words at → ⊥)
root_or_not words at = elim (some_or_none (object_at words at)) [
  | inr none ↦ inr (λ root. let never : None ≡ Some 4 = sym none ∙ root.length in cc never)
  | inl (n, is) ↦ elim (same_or_not n 4) [
    | inr other ↦ inr (λ root. other (same_Some n 4 (sym is ∙ root.length)))
    | inl four ↦ elim (same_or_not (birth_at words at) 0) [
      | inr born ↦ inr (λ root. born root.birth)
      | inl unborn ↦ inl (record { length = is ∙ ap Some four; birth = unborn })
    ]
  ]
]

module _ (words : List ℕ) (base used : ℕ) where
  -- a space is filled by objects, or they break off
  pub filled_or_breaks : ((starts : List ℕ) × IsFilled words base used starts) ⊎ ((at : ℕ) × BreaksAt words base used at)
  filled_or_breaks = elim (root_or_not (used_words words base used) base) [
    | inr none ↦ inr (base, at_root none)
    | inl root ↦
        let uw = used_words words base used in
        let Chain : List ℕ → ℕ → Type 0 = λ starts at. AreEndToEnd uw base starts at in
        let push : (starts : List ℕ) (at n : ℕ) → Chain starts at → object_at uw at ≡ Some n → Chain (starts ++ at ∷ []) (at + 2 + n) = λ starts at n chain is. end_to_end_push uw base starts at n chain is in
        let ends : (at n : ℕ) → object_at uw at ≡ Some n → at + 2 + n ≤ base + used = λ at n is. object_take_end words (base + used) at n is in
        elim (chain_or_break (object_at uw) (base + used) Chain push ends used [] base (omega arith) (omega arith) refl) [
          | inl (all, chain) ↦ inl (all, record { root = root; objects = chain })
          | inr broken ↦ inr (broken.at, behind broken.starts root broken.chain broken.before broken.none)
        ]
  ]

  -- the walk of one space passes, or fails first somewhere
  pub walked_or_fault : IsWalked words base used ⊎ ((at : ℕ) × IsWalkFault words base used at)
  walked_or_fault = elim filled_or_breaks [
    | inr (at, off) ↦ inr (at, breaks off)
    | inl (starts, filled) ↦
        let ascend = end_to_end_ascend (used_words words base used) base starts (base + used) filled.objects in
        elim (keep_or_out words (λ at. starts) starts ascend) [
          | inl inside ↦ inl (record { starts = starts; filled = filled; inside = inside })
          | inr (at, out) ↦ inr (at, leads_out starts filled out.has out.out out.first)
        ]
  ]

-- The from-space.

-- a copied object ends there
ending_end : (end at n : ℕ) (o : Option ℕ) → ending end at o ≡ Some n → at + 2 + n ≤ end
ending_end end at n None is = cc
ending_end end at n (Some m) is = passed (nat_le (at + 2 + m) end) refl is
  where
    passed : (b : Bool) → nat_le (at + 2 + m) end ≡ b → (if b then Some m else None) ≡ Some n → at + 2 + n ≤ end
    passed true le same = let long = same_Some m n same in let within = leb-true (at + 2 + m) end le in omega arith
    passed false le same = cc

-- an object of the from-space ends within its used words
old_end : (words starts : List ℕ) (end at n : ℕ) (moved : Bool) → old_object words starts end at moved ≡ Some n → at + 2 + n ≤ end
old_end words starts end at n true is = ending_end end at n (copy_length words starts (header (slice_index words at))) is
old_end words starts end at n false is = object_take_end words end at n is

-- Gray addresses.

-- below a bound each gray address is the start of an object, or there is a least one that is not
stray_below : (gray : FinSet nat_cmp) (starts : List ℕ) (bound : ℕ) → ((at : ℕ) → at < bound → contains gray at ≡ true → Contains starts at) ⊎ ((at : ℕ) × IsFirstStray gray starts at)
stray_below gray starts zero = inl (λ at less is. absurd (omega (arith, less)))
stray_below gray starts (suc n) = elim (stray_below gray starts n) [
  | inr found ↦ inr found
  | inl so_far ↦ elim (true_or_false (contains gray n)) [
    | inr white ↦ inl (λ at less is. elim (cases_order at n) [
      | inl same ↦ let never : true ≡ false = sym is ∙ ap (contains gray) same ∙ white in cc never
      | inr (inl below) ↦ so_far at below is
      | inr (inr above) ↦ absurd (omega (arith, less, above))
    ])
    | inl here ↦ elim (has_or_not starts n) [
      | inl has ↦ inl (λ at less is. elim (cases_order at n) [
        | inl same ↦ subst (Contains starts) (sym same) has
        | inr (inl below) ↦ so_far at below is
        | inr (inr above) ↦ absurd (omega (arith, less, above))
      ])
      | inr none ↦ inr (n, record { gray_there = here; stray = none; first = λ before is less. so_far before less is })
    ]
  ]
]

-- a number past each of a list
past : List ℕ → ℕ
past [] = 0
past (x ∷ xs) = x + 1 + past xs

below_past : (xs : List ℕ) (x : ℕ) → Contains xs x → x < past xs
unfolding past
below_past [] x has = absurd (Contains-none x has)
below_past (y ∷ ys) x has = elim (Contains-cases y ys x has) [
  | inl same ↦ omega arith
  | inr later ↦ let less = below_past ys x later in omega arith
]

tied : (x y : ℕ) → eq_by_cmp nat_cmp x y ≡ true → x ≡ y
tied x y is = nat_cmp-IsAntisymmetric x y ((Equal-is (nat_cmp x y)).0 is)

-- each gray address is the start of an object, or there is a least one that is not
pub among_or_stray : (gray : FinSet nat_cmp) (starts : List ℕ) → AreAmong gray starts ⊎ ((at : ℕ) × IsFirstStray gray starts at)
among_or_stray gray starts = elim (stray_below gray starts (past (items gray))) [
  | inr found ↦ inr found
  | inl so_far ↦ inl (λ at is. so_far at (below_past (items gray) at (Contains-from_any tied at (items gray) (sym (contains-items gray at) ∙ is))) is)
]

-- Both spaces.

module _ (words : List ℕ) (base used : ℕ) (from : FromSpace) where
  -- the from-space is filled by objects, as many copied as are counted, or fails first somewhere
  pub old_or_fault : (starts : List ℕ) → ((olds : List ℕ) × IsOldFilled words starts from olds) ⊎ ((at : ℕ) × IsOldFault words starts from at)
  old_or_fault starts =
      let object : ℕ → Option ℕ = old_object_at words starts from in
      let Chain : List ℕ → ℕ → Type 0 = λ olds at. AreOldObjects words starts from olds at in
      let push : (olds : List ℕ) (at n : ℕ) → Chain olds at → object at ≡ Some n → Chain (olds ++ at ∷ []) (at + 2 + n) = λ olds at n chain is. chained_push object from.base olds at n chain is in
      let ends : (at n : ℕ) → object at ≡ Some n → at + 2 + n ≤ from_end from = λ at n is. old_end words starts (from_end from) at n (is_moved from at) is in
      elim (chain_or_break object (from_end from) Chain push ends from.collection.used [] from.base (omega arith) (omega arith) refl) [
        | inr broken ↦ inr (broken.at, old_breaks (record { olds = broken.starts; objects = broken.chain; before = broken.before; none = broken.none }))
        | inl (olds, chain) ↦ elim (same_or_not (words_moved words starts from olds) from.collection.copied) [
          | inl counted ↦ inl (olds, record { objects = chain; sum = counted })
          | inr other ↦ inr (from.base, old_sum olds chain other)
        ]
      ]

  -- the fields of both, where all objects stand
  fields_or_fault : (starts olds : List ℕ) → IsFilled words base used starts → IsOldFilled words starts from olds → AreAmong from.collection.gray starts
      → IsCollectionWalked words base used from ⊎ ((at : ℕ) × IsCollectionFault words base used from at)
  fields_or_fault starts olds filled old grays =
      let ascend = end_to_end_ascend (used_words words base used) base starts (base + used) filled.objects in
      let old_ascend = chained_ascend (old_object_at words starts from) from.base olds (from_end from) old.objects in
      elim (keep_or_out words (targets from.collection starts olds) starts ascend) [
        | inr (at, out) ↦ inr (at, field_leads_out starts olds filled old grays out)
        | inl inside ↦ elim (keep_or_out words (λ at. olds) olds old_ascend) [
          | inr (at, out) ↦ inr (at, old_field_leads_out starts olds filled old grays inside out)
          | inl old_inside ↦ inl (record { starts = starts; olds = olds; filled = filled; old_filled = old; grays = grays; inside = inside; old_inside = old_inside })
        ]
      ]

  -- the walk of both spaces passes, or fails first somewhere
  pub both_or_fault : IsCollectionWalked words base used from ⊎ ((at : ℕ) × IsCollectionFault words base used from at)
  both_or_fault = elim (filled_or_breaks words base used) [
    | inr (at, off) ↦ inr (at, breaks_off off)
    | inl (starts, filled) ↦ elim (old_or_fault starts) [
      | inr (at, fault) ↦ inr (at, old_fails starts filled fault)
      | inl (olds, old) ↦ elim (among_or_stray from.collection.gray starts) [
        | inr (at, stray) ↦ inr (at, gray_strays starts olds filled old stray)
        | inl grays ↦ fields_or_fault starts olds filled old grays
      ]
    ]
  ]

-- the walk of the heap's spaces passes, or fails first somewhere
pub beside_or_fault : (words : List ℕ) (base used : ℕ) (from : Option FromSpace) → IsWalkedBeside words base used from ⊎ ((at : ℕ) × IsWalkFaultBeside words base used from at)
beside_or_fault words base used None = walked_or_fault words base used
beside_or_fault words base used (Some from) = both_or_fault words base used from
