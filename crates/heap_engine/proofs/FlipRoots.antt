-- There are roots of each table and its locks: their addresses can be put in order.
use Rattle.std.proofs.Common.{◌≡◌, ℕ, zero, suc, ◌+◌, ◌<◌, ◌≤◌, ◌⊎◌, inl, inr, ◌==◌, Bool, true, false, List, [], ◌∷◌, ◌++◌, map, reverse, Option, None, Some, nat_lt, refl, sym, ap, ◌∙◌, subst, arith}
use Rattle.std.specs.Prelude.{◌↔◌, Contains, slice_index, if◌then◌else◌}
use Rattle.std.specs.List.{flat_map}
use Rattle.std.specs.List.Sorted.{IsStrictlyIncreasing}
use Rattle.std.specs.FinSet.{items, contains-items}
use Rattle.std.proofs.lemmas.Bool.{cases_eq, ltb-true, ltb-false, eqb-true, eqb-false}
use Rattle.std.proofs.lemmas.Cmp.{eq_by_cmp_equiv}
use Rattle.std.proofs.lemmas.List.{reverse-reverse}
use Rattle.std.proofs.lemmas.Map.Views.{Contains-from_any, list_any-from_Contains, tells_apart}
use Rattle.object_layout.proofs.WalkLaws.{Contains-head, Contains-rest, Contains-cases, Contains-none}
use Rattle.object_locks.specs.declared.holding.Holding.{Holding}
use Rattle.object_locks.specs.Holdings.{Holdings, IsLocked}
use Rattle.object_locks.proofs.HoldingOrder.{holding_total, holding_exact}
use Rattle.txn_table.specs.Table.{TransactionState, TableState, transaction_of}
use Rattle.txn_table.specs.Roots.{Names, IsRoot, AreRoots, AddsNamed, held_by, referred_from, named_by}
use Rattle.txn_table.specs.Roots.IsRoot.{locked, named}
use Rattle.txn_table.proofs.RootsLaws.{adds_named}
use Rattle.volatile_area.specs.Area.{starts_of}
use Rattle.heap_engine.specs.Reserve.{AreSound}

-- Addresses in order.

-- an address put among those that ascend
put_in : ℕ → List ℕ → List ℕ
put_in a [] = a ∷ []
put_in a (x ∷ xs) = if nat_lt a x then a ∷ x ∷ xs else if a == x then x ∷ xs else x ∷ put_in a xs

ordered : List ℕ → List ℕ
ordered [] = []
ordered (x ∷ xs) = put_in x (ordered xs)

-- they ascend from this one on
abbrev AscendFrom : ℕ → List ℕ → Type 0
AscendFrom low [] = Unit {0}
AscendFrom low (x ∷ xs) = (low ≤ x) × AscendFrom (x + 1) xs

put_ascends : (low a : ℕ) (xs : List ℕ) → low ≤ a → AscendFrom low xs → AscendFrom low (put_in a xs)
unfolding put_in
put_ascends low a [] order ascend = (order, tt)
put_ascends low a (x ∷ xs) order ascend = less (nat_lt a x) refl (put_ascends (x + 1) a xs)
  where
    same : (b : Bool) → (a == x) ≡ b → x ≤ a → (x + 1 ≤ a → AscendFrom (x + 1) xs → AscendFrom (x + 1) (put_in a xs)) → AscendFrom low (if b then x ∷ xs else x ∷ put_in a xs)
    same true test over rest = ascend
    same false test over rest = let differ = eqb-false a x test in (ascend.0, rest (omega (arith, differ)) ascend.1)

    less : (b : Bool) → nat_lt a x ≡ b → (x + 1 ≤ a → AscendFrom (x + 1) xs → AscendFrom (x + 1) (put_in a xs)) → AscendFrom low (if b then a ∷ x ∷ xs else if a == x then x ∷ xs else x ∷ put_in a xs)
    less true test rest = let below = ltb-true a x test in (order, (omega (arith, below), ascend.1))
    less false test rest = same (a == x) refl (ltb-false a x test) rest

ordered_ascends : (xs : List ℕ) → AscendFrom 0 (ordered xs)
unfolding ordered
ordered_ascends [] = tt
ordered_ascends (x ∷ xs) = put_ascends 0 x (ordered xs) (omega arith) (ordered_ascends xs)

increasing : (low : ℕ) (xs : List ℕ) → AscendFrom low xs → IsStrictlyIncreasing xs
increasing low [] ascend k within = absurd (omega arith)
increasing low (x ∷ []) ascend k within = absurd (omega arith)
increasing low (x ∷ y ∷ ys) ascend zero within = omega (arith, ascend.1.0)
increasing low (x ∷ y ∷ ys) ascend (suc k) within =
    let next : suc (k + 1) ≡ suc k + 1 = omega arith in
    subst (λ (j : ℕ). slice_index (x ∷ y ∷ ys) (suc k) < slice_index (x ∷ y ∷ ys) j) next (increasing (x + 1) (y ∷ ys) ascend.1 k (omega arith))

-- what is among them
put_has : (a b : ℕ) (xs : List ℕ) → Contains (put_in a xs) b ↔ ((a ≡ b) ⊎ Contains xs b)
unfolding put_in
put_has a b [] = (Contains-cases a [] b, λ either. elim either [ inl is ↦ subst (Contains (a ∷ [])) is (Contains-head a []) | inr has ↦ absurd (Contains-none b has) ])
put_has a b (x ∷ xs) = less (nat_lt a x) refl (put_has a b xs)
  where
    before : Contains (a ∷ x ∷ xs) b ↔ ((a ≡ b) ⊎ Contains (x ∷ xs) b)
    before = (Contains-cases a (x ∷ xs) b, λ either. elim either [ inl is ↦ subst (Contains (a ∷ x ∷ xs)) is (Contains-head a (x ∷ xs)) | inr has ↦ Contains-rest a (x ∷ xs) b has ])

    there : a ≡ x → Contains (x ∷ xs) b ↔ ((a ≡ b) ⊎ Contains (x ∷ xs) b)
    there is = (λ has. inr has, λ either. elim either [ inl other ↦ subst (Contains (x ∷ xs)) (sym is ∙ other) (Contains-head x xs) | inr has ↦ has ])

    behind : (Contains (put_in a xs) b ↔ ((a ≡ b) ⊎ Contains xs b)) → Contains (x ∷ put_in a xs) b ↔ ((a ≡ b) ⊎ Contains (x ∷ xs) b)
    behind rest = (
      λ has. elim (Contains-cases x (put_in a xs) b has) [
        | inl is ↦ inr (subst (Contains (x ∷ xs)) is (Contains-head x xs))
        | inr later ↦ elim (rest.0 later) [ inl is ↦ inl is | inr old ↦ inr (Contains-rest x xs b old) ]
      ],
      λ either. elim either [
        | inl is ↦ Contains-rest x (put_in a xs) b (rest.1 (inl is))
        | inr has ↦ elim (Contains-cases x xs b has) [
          | inl is ↦ subst (Contains (x ∷ put_in a xs)) is (Contains-head x (put_in a xs))
          | inr later ↦ Contains-rest x (put_in a xs) b (rest.1 (inr later))
        ]
      ],
    )

    same : (t : Bool) → (a == x) ≡ t → (Contains (put_in a xs) b ↔ ((a ≡ b) ⊎ Contains xs b)) → Contains (if t then x ∷ xs else x ∷ put_in a xs) b ↔ ((a ≡ b) ⊎ Contains (x ∷ xs) b)
    same true test rest = there (eqb-true a x test)
    same false test rest = behind rest

    less : (t : Bool) → nat_lt a x ≡ t → (Contains (put_in a xs) b ↔ ((a ≡ b) ⊎ Contains xs b))
        → Contains (if t then a ∷ x ∷ xs else if a == x then x ∷ xs else x ∷ put_in a xs) b ↔ ((a ≡ b) ⊎ Contains (x ∷ xs) b)
    less true test rest = before
    less false test rest = same (a == x) refl rest

ordered_has : (xs : List ℕ) (b : ℕ) → Contains (ordered xs) b ↔ Contains xs b
unfolding ordered
ordered_has [] b = (λ has. has, λ has. has)
ordered_has (x ∷ xs) b =
    let rest = ordered_has xs b in
    let here = put_has x b (ordered xs) in (
      λ has. elim (here.0 has) [ inl is ↦ subst (Contains (x ∷ xs)) is (Contains-head x xs) | inr later ↦ Contains-rest x xs b (rest.0 later) ],
      λ has. here.1 (elim (Contains-cases x xs b has) [ inl is ↦ inl is | inr later ↦ inr (rest.1 later) ]),
    )

-- The locked ones.

address_of : Holding → ℕ
address_of h = h.key.address

mapped_from : (hs : List Holding) (a : ℕ) → Contains (map address_of hs) a → (h : Holding) × Contains hs h × (h.key.address ≡ a)
unfolding address_of
mapped_from [] a has = absurd (Contains-none a has)
mapped_from (h ∷ hs) a has = elim (Contains-cases (address_of h) (map address_of hs) a has) [
  | inl is ↦ (h, Contains-head h hs, is)
  | inr later ↦ let there = mapped_from hs a later in (there.0, Contains-rest h hs there.0 there.1, there.2)
]

mapped_to : (hs : List Holding) (h : Holding) (a : ℕ) → Contains hs h → h.key.address ≡ a → Contains (map address_of hs) a
unfolding address_of
mapped_to [] h a has is = absurd (Contains-none h has)
mapped_to (x ∷ hs) h a has is = elim (Contains-cases x hs h has) [
  | inl here ↦ subst (Contains (map address_of (x ∷ hs))) (ap address_of here ∙ is) (Contains-head (address_of x) (map address_of hs))
  | inr later ↦ Contains-rest (address_of x) (map address_of hs) a (mapped_to hs h a later is)
]

locked_are : (held : Holdings) (a : ℕ) → Contains (map address_of (items held)) a ↔ IsLocked held a
locked_are held a = (
  λ has.
      let h = mapped_from (items held) a has in
      (h.0, contains-items held h.0 ∙ list_any-from_Contains (eq_by_cmp_equiv holding_total) h.0 (items held) h.1, h.2),
  λ lock. mapped_to (items held) lock.0 a (Contains-from_any (tells_apart holding_exact) lock.0 (items held) (sym (contains-items held lock.0) ∙ lock.1)) lock.2,
)

-- The sessions, one after another.

-- The transaction of an earlier session names the object.
record IsNamedBefore (table : TableState) (k a : ℕ) : Type 0 where
  session : ℕ
  transaction : TransactionState
  before : session < k
  has : transaction_of table session ≡ Some transaction
  names : Names transaction a

abbrev AreUpto : TableState → Holdings → ℕ → List ℕ → Type 0
AreUpto table held k found = (a : ℕ) → Contains found a ↔ (IsLocked held a ⊎ IsNamedBefore table k a)

later : (table : TableState) (k a : ℕ) → IsNamedBefore table k a → IsNamedBefore table (suc k) a
later table k a one = record { session = one.session; transaction = one.transaction; before = omega (arith, one.before); has = one.has; names = one.names }

upto_more : (table : TableState) (held : Holdings) (k : ℕ) (t : TransactionState) (old new : List ℕ) → AreUpto table held k old → transaction_of table k ≡ Some t → AddsNamed t old new → AreUpto table held (suc k) new
upto_more table held k t old new upto is adds a = (
  λ has. elim ((adds a).0 has) [
    | inl before ↦ elim ((upto a).0 before) [ inl lock ↦ inl lock | inr one ↦ inr (later table k a one) ]
    | inr names ↦ inr (record { session = k; transaction = t; before = omega arith; has = is; names = names })
  ],
  λ either. (adds a).1 (elim either [ inl lock ↦ inl ((upto a).1 (inl lock)) | inr one ↦ by_session one ]),
)
  where
    by_session : IsNamedBefore table (suc k) a → Contains old a ⊎ Names t a
    by_session one = elim (cases_eq one.session k) [
      | inl here ↦
          let same : Some one.transaction ≡ Some t = sym one.has ∙ ap (transaction_of table) here ∙ is in
          let alike : one.transaction ≡ t = cc in
          inr (subst (λ (u : TransactionState). Names u a) alike one.names)
      | inr earlier ↦ inl ((upto a).1 (inr (record { session = one.session; transaction = one.transaction; before = omega (arith, one.before, earlier); has = one.has; names = one.names })))
    ]

upto_same : (table : TableState) (held : Holdings) (k : ℕ) (found : List ℕ) → AreUpto table held k found → transaction_of table k ≡ None → AreUpto table held (suc k) found
upto_same table held k found upto none a = (
  λ has. elim ((upto a).0 has) [ inl lock ↦ inl lock | inr one ↦ inr (later table k a one) ],
  λ either. (upto a).1 (elim either [ inl lock ↦ inl lock | inr one ↦ inr (by_session one) ]),
)
  where
    by_session : IsNamedBefore table (suc k) a → IsNamedBefore table k a
    by_session one = elim (cases_eq one.session k) [
      | inl here ↦ let clash : Some one.transaction ≡ None = sym one.has ∙ ap (transaction_of table) here ∙ none in absurd (cc)
      | inr earlier ↦ record { session = one.session; transaction = one.transaction; before = omega (arith, one.before, earlier); has = one.has; names = one.names }
    ]

upto_all : (table : TableState) (held : Holdings) (k : ℕ) → (found : List ℕ) × AreUpto table held k found
upto_all table held zero = (map address_of (items held), λ a. (λ has. inl ((locked_are held a).0 has), λ either. elim either [ inl lock ↦ (locked_are held a).1 lock | inr one ↦ absurd (omega (arith, one.before)) ]))
upto_all table held (suc k) = cases (transaction_of table k) refl (upto_all table held k)
  where
    cases : (o : Option TransactionState) → transaction_of table k ≡ o → ((found : List ℕ) × AreUpto table held k found) → (found : List ℕ) × AreUpto table held (suc k) found
    cases None is old = (old.0, upto_same table held k old.0 old.1 is)
    cases (Some t) is old =
        let new = ((old.0 ++ flat_map held_by t.handles) ++ flat_map (referred_from t.area.words) (starts_of t.area)) ++ flat_map named_by (reverse t.undo) in
        (new, upto_more table held k t old.0 new old.1 is (adds_named t (reverse t.undo) old.0 new (sym (reverse-reverse t.undo)) refl))

-- the roots
pub some_roots : (table : TableState) (held : Holdings) (size bytes sealed : ℕ) → AreSound table size bytes sealed → (roots : List ℕ) × AreRoots table held roots
some_roots table held size bytes sealed sound =
    let all = upto_all table held 33 in (
      ordered all.0,
      record {
        ascending = increasing 0 (ordered all.0) (ordered_ascends all.0);
        each = λ a. (λ has. root a ((all.1 a).0 ((ordered_has all.0 a).0 has)), λ is. (ordered_has all.0 a).1 ((all.1 a).1 (of_root a is)));
      },
    )
  where
    root : (a : ℕ) → (IsLocked held a ⊎ IsNamedBefore table 33 a) → IsRoot table held a
    root a (inl is) = locked is
    root a (inr one) = named one.session one.transaction one.has one.names

    of_root : (a : ℕ) → IsRoot table held a → IsLocked held a ⊎ IsNamedBefore table 33 a
    of_root a (locked is) = inl is
    of_root a (named s t has names) = inr (record { session = s; transaction = t; before = omega (arith, (sound.each s t has).session); has = has; names = names })
