-- What is in lists of roots, and which transaction names it.
use Rattle.std.proofs.Common.{◌≡◌, ℕ, ◌+◌, ◌<◌, ◌≤◌, ◌⊎◌, ◌↔◌, eqb, inl, inr, List, [], ◌∷◌, ◌++◌, length, get_or, reverse, Option, None, Some, refl, sym, ap, ◌∙◌, subst, arith}
use Rattle.std.specs.Prelude.{Contains, is_some}
use Rattle.std.proofs.lemmas.Bool.{cases_eq}
use Rattle.std.specs.List.{flat_map, dedup}
use Rattle.std.specs.List.Sorted.{IsPermutation, IsSorted}
use Rattle.std.specs.Ordering.{nat_cmp}
use Rattle.std.proofs.lemmas.List.Concat.{flat_map-cons}
use Rattle.std.proofs.lemmas.List.Elements.{Contains-append_left, Contains-append_right, Contains-append_cases}
use Rattle.std.proofs.lemmas.List.Kept.{Contains-dedup_nat, Contains-from_dedup}
use Rattle.std.proofs.lemmas.List.Sorted.{IsPermutation-sym, IsPermutation-reverse, Contains-permutation}
use Rattle.std.proofs.lemmas.Map.Keys.{IsStrictlyIncreasing-dedup}
use Rattle.heap_words.specs.declared.Word.{Word}
use Rattle.heap_words.specs.declared.Word.TheVariants as word
use Rattle.heap_words.specs.Word.{meaning}
use Rattle.object_layout.specs.Layout.{field_words}
use Rattle.object_layout.proofs.WalkLaws.{Contains-head, Contains-rest, Contains-cases, Contains-none}
use Rattle.object_locks.specs.Holdings.{Holdings, IsLocked, AreLocked}
use Rattle.log_machine.specs.declared.UndoEntry.{UndoEntry}
use Rattle.volatile_area.specs.Area.{starts_of}
use Rattle.txn_table.specs.declared.place.Place.{Place}
use Rattle.txn_table.specs.declared.place.Place.TheVariants.{Stable, Volatile}
use Rattle.txn_table.specs.Table.{TransactionState, TableState}
use Rattle.txn_table.specs.Slots.{table_of}
use Rattle.txn_table.proofs.SlotLaws.{slot_says, has_slot}
use Rattle.txn_table.specs.Roots.{Names, IsRoot, AreRoots, AddsNamed, held_by, referred_by, referred_in, referred_from, named_by}
use Rattle.txn_table.specs.Roots.Names.{held, referred, written, replaced}
use Rattle.txn_table.specs.Roots.IsRoot.{locked, named}

-- Who adds what is there.

in_flat_map : {X : Type 0} (f : X → List ℕ) (xs : List X) (a : ℕ) → Contains (flat_map f xs) a → (x : X) × Contains xs x × Contains (f x) a
in_flat_map f [] a has = absurd (Contains-none a has)
in_flat_map f (x ∷ xs) a has = elim (Contains-append_cases (f x) (flat_map f xs) a (subst (λ (ys : List ℕ). Contains ys a) (flat_map-cons f x xs) has)) [
  | inl here ↦ (x, Contains-head x xs, here)
  | inr later ↦ let there = in_flat_map f xs a later in (there.0, Contains-rest x xs there.0 there.1, there.2)
]

to_flat_map : {X : Type 0} (f : X → List ℕ) (xs : List X) (x : X) (a : ℕ) → Contains xs x → Contains (f x) a → Contains (flat_map f xs) a
to_flat_map f [] x a has is = absurd (Contains-none x has)
to_flat_map f (y ∷ xs) x a has is = subst (λ (ys : List ℕ). Contains ys a) (sym (flat_map-cons f y xs)) (elim (Contains-cases y xs x has) [
  | inl here ↦ Contains-append_left (f y) (flat_map f xs) a (subst (λ z. Contains (f z) a) (sym here) is)
  | inr later ↦ Contains-append_right (f y) (flat_map f xs) a (to_flat_map f xs x a later is)
])

only_one : (a b : ℕ) → Contains (a ∷ []) b → a ≡ b
only_one a b has = elim (Contains-cases a [] b has) [ inl here ↦ here | inr later ↦ absurd (Contains-none b later) ]

by_handle : (h : Option Place) (a : ℕ) → Contains (held_by h) a → h ≡ Some (Stable a)
by_handle None a has = absurd (Contains-none a has)
by_handle (Some (Stable b)) a has = ap (λ x. Some (Stable x)) (only_one b a has)
by_handle (Some (Volatile i)) a has = absurd (Contains-none a has)

by_meaning : (m : Option Word) (a : ℕ) → Contains (referred_by m) a → m ≡ Some (word.Stable a)
by_meaning None a has = absurd (Contains-none a has)
by_meaning (Some word.Null) a has = absurd (Contains-none a has)
by_meaning (Some (word.Int n)) a has = absurd (Contains-none a has)
by_meaning (Some (word.Stable b)) a has = ap (λ x. Some (word.Stable x)) (only_one b a has)
by_meaning (Some (word.Volatile i)) a has = absurd (Contains-none a has)

of_meaning : (m : Option Word) (a : ℕ) → m ≡ Some (word.Stable a) → Contains (referred_by m) a
of_meaning m a is = subst (λ (o : Option Word). Contains (referred_by o) a) (sym is) (Contains-head a [])

reversed : (us : List UndoEntry) (u : UndoEntry) → Contains (reverse us) u → Contains us u
reversed us u has = Contains-permutation (reverse us) us u (IsPermutation-sym us (reverse us) (IsPermutation-reverse us)) has

-- the addresses that a transaction names were added to these
pub adds_named : (t : TransactionState) (entries : List UndoEntry) (old new : List ℕ) → t.undo ≡ reverse entries
    → new ≡ ((old ++ flat_map held_by t.handles) ++ flat_map (referred_from t.area.words) (starts_of t.area)) ++ flat_map named_by entries → AddsNamed t old new
adds_named t entries old new undo is a = (λ has. from (subst (λ (ys : List ℕ). Contains ys a) is has), λ either. subst (λ (ys : List ℕ). Contains ys a) (sym is) (into either))
  where
    A : List ℕ
    A = flat_map held_by t.handles

    B : List ℕ
    B = flat_map (referred_from t.area.words) (starts_of t.area)

    C : List ℕ
    C = flat_map named_by entries

    entry : (u : UndoEntry) → Contains entries u → Contains t.undo u
    entry u has = subst (λ (us : List UndoEntry). Contains us u) (sym undo) (Contains-permutation entries (reverse entries) u (IsPermutation-reverse entries) has)

    back : (u : UndoEntry) → Contains t.undo u → Contains entries u
    back u has = reversed entries u (subst (λ (us : List UndoEntry). Contains us u) undo has)

    by_entry : Contains (flat_map named_by entries) a → Names t a
    by_entry has =
        let u = in_flat_map named_by entries a has in
        elim (Contains-cases u.0.object (referred_in u.0.was) a u.2) [
          | inl object ↦ written u.0 (entry u.0 u.1) object
          | inr word ↦ replaced u.0 (entry u.0 u.1) (by_meaning (meaning u.0.was) a word)
        ]

    by_field : Contains (flat_map (referred_from t.area.words) (starts_of t.area)) a → Names t a
    by_field has =
        let o = in_flat_map (referred_from t.area.words) (starts_of t.area) a has in
        let w = in_flat_map referred_in (field_words t.area.words o.0) a o.2 in
        referred o.0 w.0 o.1 w.1 (by_meaning (meaning w.0) a w.2)

    by_held : Contains (flat_map held_by t.handles) a → Names t a
    by_held has =
        let h = in_flat_map held_by t.handles a has in
        held (subst (Contains t.handles) (by_handle h.0 a h.2) h.1)

    from : Contains (((old ++ A) ++ B) ++ C) a → Contains old a ⊎ Names t a
    from has = elim (Contains-append_cases ((old ++ A) ++ B) C a has) [
      | inr last ↦ inr (by_entry last)
      | inl others ↦ elim (Contains-append_cases (old ++ A) B a others) [
        | inr second ↦ inr (by_field second)
        | inl rest ↦ elim (Contains-append_cases old A a rest) [ inl before ↦ inl before | inr first ↦ inr (by_held first) ]
      ]
    ]

    in_A : Contains A a → Contains (((old ++ A) ++ B) ++ C) a
    in_A has = Contains-append_left ((old ++ A) ++ B) C a (Contains-append_left (old ++ A) B a (Contains-append_right old A a has))

    in_B : Contains B a → Contains (((old ++ A) ++ B) ++ C) a
    in_B has = Contains-append_left ((old ++ A) ++ B) C a (Contains-append_right (old ++ A) B a has)

    in_C : Contains C a → Contains (((old ++ A) ++ B) ++ C) a
    in_C has = Contains-append_right ((old ++ A) ++ B) C a has

    named : Names t a → Contains (((old ++ A) ++ B) ++ C) a
    named (held has) = in_A (to_flat_map held_by t.handles (Some (Stable a)) a has (Contains-head a []))
    named (referred object w starts has is) =
        in_B (to_flat_map (referred_from t.area.words) (starts_of t.area) object a starts (to_flat_map referred_in (field_words t.area.words object) w a has (of_meaning (meaning w) a is)))
    named (written u has is) = in_C (to_flat_map named_by entries u a (back u has) (subst (Contains (named_by u)) is (Contains-head u.object (referred_in u.was))))
    named (replaced u has is) = in_C (to_flat_map named_by entries u a (back u has) (Contains-rest u.object (referred_in u.was) a (of_meaning (meaning u.was) a is)))

    into : (Contains old a ⊎ Names t a) → Contains (((old ++ A) ++ B) ++ C) a
    into (inl before) = Contains-append_left ((old ++ A) ++ B) C a (Contains-append_left (old ++ A) B a (Contains-append_left old A a before))
    into (inr names) = named names

-- One slot after another.

-- The transaction of one of the first slots names the object.
pub record IsNamedBefore (slots : List (Option TransactionState)) (k a : ℕ) : Type 0 where
  pub place : ℕ
  pub transaction : TransactionState
  pub before : place < k
  pub there : get_or slots place None ≡ Some transaction
  pub names : Names transaction a

-- these are the locked ones and those that the first slots' transactions name
abbrev pub AreUpto : Holdings → List (Option TransactionState) → ℕ → List ℕ → Type 0
AreUpto locks slots k roots = (a : ℕ) → Contains roots a ↔ (IsLocked locks a ⊎ IsNamedBefore slots k a)

pub upto_none : (locks : Holdings) (slots : List (Option TransactionState)) (roots : List ℕ) → AreLocked locks roots → AreUpto locks slots 0 roots
upto_none locks slots roots all a = (λ has. inl ((all.each a).0 has), λ either. elim either [ inl is ↦ (all.each a).1 is | inr one ↦ absurd (omega (arith, one.before)) ])

further : (slots : List (Option TransactionState)) (k a : ℕ) → IsNamedBefore slots k a → IsNamedBefore slots (k + 1) a
further slots k a one = record { place = one.place; transaction = one.transaction; before = omega (arith, one.before); there = one.there; names = one.names }

pub upto_some : (locks : Holdings) (slots : List (Option TransactionState)) (k : ℕ) (t : TransactionState) (old new : List ℕ) → AreUpto locks slots k old → get_or slots k None ≡ Some t → AddsNamed t old new
    → AreUpto locks slots (k + 1) new
upto_some locks slots k t old new upto there adds a = (
  λ has. elim ((adds a).0 has) [
    | inl before ↦ elim ((upto a).0 before) [ inl is ↦ inl is | inr one ↦ inr (further slots k a one) ]
    | inr names ↦ inr (record { place = k; transaction = t; before = omega arith; there = there; names = names })
  ],
  λ either. (adds a).1 (elim either [
    | inl is ↦ inl ((upto a).1 (inl is))
    | inr one ↦ by_place one
  ]),
)
  where
    by_place : IsNamedBefore slots (k + 1) a → Contains old a ⊎ Names t a
    by_place one = elim (cases_eq one.place k) [
      | inl here ↦
          let same : Some one.transaction ≡ Some t = sym one.there ∙ ap (λ i. get_or slots i None) here ∙ there in
          let alike : one.transaction ≡ t = cc in
          inr (subst (λ (u : TransactionState). Names u a) alike one.names)
      | inr earlier ↦
          let before = one.before in
          inl ((upto a).1 (inr (record { place = one.place; transaction = one.transaction; before = omega arith; there = one.there; names = one.names })))
    ]

pub upto_empty : (locks : Holdings) (slots : List (Option TransactionState)) (k : ℕ) (roots : List ℕ) → AreUpto locks slots k roots → get_or slots k None ≡ None → AreUpto locks slots (k + 1) roots
upto_empty locks slots k roots upto empty a = (
  λ has. elim ((upto a).0 has) [ inl is ↦ inl is | inr one ↦ inr (further slots k a one) ],
  λ either. (upto a).1 (elim either [ inl is ↦ inl is | inr one ↦ inr (by_place one) ]),
)
  where
    by_place : IsNamedBefore slots (k + 1) a → IsNamedBefore slots k a
    by_place one = elim (cases_eq one.place k) [
      | inl here ↦
          let clash : Some one.transaction ≡ None = sym one.there ∙ ap (λ i. get_or slots i None) here ∙ empty in
          absurd (cc)
      | inr earlier ↦
          let before = one.before in
          record { place = one.place; transaction = one.transaction; before = omega arith; there = one.there; names = one.names }
    ]

-- sorted and without repeats they are the roots
pub are_roots : (next : ℕ) (slots : List (Option TransactionState)) (now : TableState) (locks : Holdings) (k : ℕ) (found sorted : List ℕ) → table_of next slots ≡ now → length slots ≤ k → AreUpto locks slots k found
    → IsPermutation found sorted → IsSorted nat_cmp sorted → AreRoots now locks (dedup eqb sorted)
are_roots next slots now locks k found sorted same all upto moved in_order = record {
  ascending = IsStrictlyIncreasing-dedup sorted in_order;
  each = λ a. (
    λ has. root a ((upto a).0 (Contains-permutation sorted found a (IsPermutation-sym found sorted moved) (Contains-from_dedup eqb sorted a has))),
    λ is. Contains-dedup_nat sorted a (Contains-permutation found sorted a moved ((upto a).1 (of_root a is))),
  );
}
  where
    root : (a : ℕ) → (IsLocked locks a ⊎ IsNamedBefore slots k a) → IsRoot now locks a
    root a (inl is) = locked is
    root a (inr one) = named (one.place + 1) one.transaction (slot_says next slots now (one.place + 1) one.place same refl ∙ one.there) one.names

    of_root : (a : ℕ) → IsRoot now locks a → IsLocked locks a ⊎ IsNamedBefore slots k a
    of_root a (locked is) = inl is
    of_root a (named s t is names) =
        let slot = has_slot next slots now s same (ap is_some is) in
        let place : slot.0 + 1 ≡ s = omega (arith, slot.1) in
        inr (record { place = slot.0; transaction = t; before = omega (arith, slot.2); there = sym (slot_says next slots now s slot.0 same place) ∙ is; names = names })
