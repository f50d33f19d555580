-- The numbers of pages, and where they lie.
use Rattle.std.proofs.Common.{◌≡◌, ◌≢◌, ℕ, zero, suc, ◌+◌, ◌*◌, ◌-◌, ◌/◌, ◌%◌, ◌^◌, ◌<◌, ◌≤◌, List, [], ◌∷◌, ◌++◌, length, get_or, set, get_or-set_same, get_or-set_other, map, replicate, length-append, length-set, refl, sym, subst, ap, ◌∙◌, ◌⊎◌, inl, inr, arith}
use Rattle.std.proofs.lemmas.List.{get_or-append-add, get_or_append_left, get_or-replicate, get_or_past, set-append_left, set-append_right}
use Rattle.std.proofs.lemmas.Bool.{cases_lt, cases_eq}
use Rattle.heap_spaces.specs.PageTable.{AreGroups, HasRoom, IsGroup, group_numbers, numbers_in, rooms_of}

-- a group has 64 numbers
group-length : (g : List ℕ) → IsGroup g → length (group_numbers g) ≡ 64
group-length [] is = refl
group-length (n ∷ ns) (inl e) = absurd (omega (arith, e))
group-length (n ∷ ns) (inr e) = e

-- they are those in memory
group-read : (g : List ℕ) (i : ℕ) → i < 64 → get_or (group_numbers g) i 0 ≡ get_or g i 0
group-read [] i lt = get_or-replicate 64 i 0 0 lt ∙ sym (get_or_past [] i 0 (omega arith))
group-read (n ∷ ns) i lt = refl

-- a group has memory for all of its pages, or none
abbrev pub Each : List (List ℕ) → Type 0
Each gs = (k : ℕ) → IsGroup (get_or gs k [])

pub numbers-length : (gs : List (List ℕ)) → Each gs → length (numbers_in gs) ≡ 64 * length gs
numbers-length [] each = refl
numbers-length (g ∷ gs) each = omega (arith, length-append (group_numbers g) (numbers_in gs), group-length g (each 0), numbers-length gs (λ k. each (suc k)))

-- the number at a place of a group
pub number-is : (gs : List (List ℕ)) (k i : ℕ) → Each gs → i < 64 → get_or (numbers_in gs) (64 * k + i) 0 ≡ get_or (get_or gs k []) i 0
number-is [] k i each lt =
    get_or_past [] (64 * k + i) 0 (omega arith)
    ∙ sym (get_or_past [] i 0 (omega arith))
    ∙ ap (λ (g : List ℕ). get_or g i 0) (sym (get_or_past [] k [] (omega arith)))
number-is (g ∷ gs) zero i each lt =
    let here : 64 * 0 + i ≡ i = omega arith in
    ap (λ n. get_or (group_numbers g ++ numbers_in gs) n 0) here ∙ get_or_append_left (group_numbers g) (numbers_in gs) 0 i (omega (arith, lt, group-length g (each 0))) ∙ group-read g i lt
number-is (g ∷ gs) (suc k) i each lt =
    let behind : 64 * suc k + i ≡ length (group_numbers g) + (64 * k + i) = omega (arith, group-length g (each 0)) in
    ap (λ n. get_or (group_numbers g ++ numbers_in gs) n 0) behind
    ∙ get_or-append-add (group_numbers g) (numbers_in gs) (64 * k + i) 0
    ∙ number-is gs k i (λ j. each (suc j)) lt

-- a page's number is found in its group
pub number-at : (gs : List (List ℕ)) (page : ℕ) → AreGroups gs → get_or (numbers_in gs) page 0 ≡ get_or (get_or gs (page / 64) []) (page % 64) 0
number-at gs page sound =
    let place : page ≡ 64 * (page / 64) + page % 64 = omega arith in
    ap (λ n. get_or (numbers_in gs) n 0) place ∙ number-is gs (page / 64) (page % 64) sound.each (omega arith)

group-put : (g : List ℕ) (i n : ℕ) → i < length g → group_numbers (set g i n) ≡ set (group_numbers g) i n
group-put [] i n lt = absurd (omega arith)
group-put (x ∷ xs) zero n lt = refl
group-put (x ∷ xs) (suc i) n lt = refl

put-is : (gs : List (List ℕ)) (k i n : ℕ) → Each gs → i < length (get_or gs k []) → numbers_in (set gs k (set (get_or gs k []) i n)) ≡ set (numbers_in gs) (64 * k + i) n
put-is [] k i n each lt =
    let none : length (get_or {A = List ℕ} [] k []) ≡ 0 = ap (length {A = ℕ}) (get_or_past {X = List ℕ} [] k [] (omega arith)) in
    absurd (omega (arith, none))
put-is (g ∷ gs) zero i n each lt =
    let within : i < length (group_numbers g) = most g lt in
    let here : i ≡ 64 * 0 + i = omega arith in
    ap (λ l. l ++ numbers_in gs) (group-put g i n lt)
    ∙ sym (set-append_left (group_numbers g) (numbers_in gs) i n within)
    ∙ ap (λ p. set (group_numbers g ++ numbers_in gs) p n) here
  where
    most : (g : List ℕ) → i < length g → i < length (group_numbers g)
    most [] lt = absurd (omega arith)
    most (x ∷ xs) lt = lt
put-is (g ∷ gs) (suc k) i n each lt =
    let behind : 64 * suc k + i - 64 ≡ 64 * k + i = omega arith in
    ap (λ l. group_numbers g ++ l) (put-is gs k i n (λ j. each (suc j)) lt ∙ ap (λ p. set (numbers_in gs) p n) (sym behind))
    ∙ sym (set-append_right (group_numbers g) (numbers_in gs) 64 (64 * suc k + i) n (group-length g (each 0)) (omega arith))

-- a number that is put
pub put-at : (gs : List (List ℕ)) (page n : ℕ) → AreGroups gs → page % 64 < length (get_or gs (page / 64) []) → numbers_in (set gs (page / 64) (set (get_or gs (page / 64) []) (page % 64) n)) ≡ set (numbers_in gs) page n
put-at gs page n sound lt =
    let place : 64 * (page / 64) + page % 64 ≡ page = omega arith in
    put-is gs (page / 64) (page % 64) n sound.each lt ∙ ap (λ p. set (numbers_in gs) p n) place

-- takes no memory
pub rooms-put : (gs : List (List ℕ)) (k i n : ℕ) → rooms_of (set gs k (set (get_or gs k []) i n)) ≡ rooms_of gs
rooms-put [] zero i n = refl
rooms-put [] (suc k) i n = refl
rooms-put (g ∷ gs) zero i n = ap (λ l. l ∷ rooms_of gs) (length-set g i n)
rooms-put (g ∷ gs) (suc k) i n = ap (λ l. length g ∷ l) (rooms-put gs k i n)

-- the room of a group
pub room-is : (gs : List (List ℕ)) (k : ℕ) → get_or (rooms_of gs) k 0 ≡ length (get_or gs k [])
room-is [] zero = refl
room-is [] (suc k) = refl
room-is (g ∷ gs) zero = refl
room-is (g ∷ gs) (suc k) = room-is gs k

pub put-groups : (gs : List (List ℕ)) (k i n : ℕ) → AreGroups gs → AreGroups (set gs k (set (get_or gs k []) i n))
put-groups gs k i n sound = record {
  few = omega (arith, length-set gs k (set (get_or gs k []) i n), sound.few);
  each = λ j.
      let long : length (get_or gs j []) ≡ length (get_or (set gs k (set (get_or gs k []) i n)) j []) =
      sym (room-is gs j) ∙ ap (λ (r : List ℕ). get_or r j 0) (sym (rooms-put gs k i n)) ∙ room-is (set gs k (set (get_or gs k []) i n)) j
      in
      subst (λ l. (l ≡ 0) ⊎ (l ≡ 64)) long (sound.each j);
}

-- the groups by what is stored of them
pub group-is : {A : Type 0} (f : A → List ℕ) (l : List A) (k : ℕ) (x : A) → k < length l → get_or (map f l) k [] ≡ f (get_or l k x)
group-is f [] k x lt = absurd (omega arith)
group-is f (y ∷ ys) zero x lt = refl
group-is f (y ∷ ys) (suc k) x lt = group-is f ys k x (omega arith)

-- and none that is not there
pub group-past : {A : Type 0} (f : A → List ℕ) (l : List A) (k : ℕ) → length l ≤ k → get_or (map f l) k [] ≡ []
group-past f [] zero ge = refl
group-past f [] (suc k) ge = refl
group-past f (y ∷ ys) zero ge = absurd (omega arith)
group-past f (y ∷ ys) (suc k) ge = group-past f ys k (omega arith)

-- a group that has memory is there
pub group-there : {A : Type 0} (f : A → List ℕ) (l : List A) (k i : ℕ) → i < length (get_or (map f l) k []) → k < length l
group-there f l k i within =
    elim (cases_lt k (length l)) [
      | inl lt ↦ lt
      | inr ge ↦
          let none : length (get_or (map f l) k []) ≡ 0 = ap (length {A = ℕ}) (group-past f l k ge) in
          absurd (omega (arith, within, none))
    ]

-- one group more, which has no memory
empty-behind : (gs : List (List ℕ)) (k : ℕ) → get_or (gs ++ [] ∷ []) k [] ≡ get_or gs k []
empty-behind [] zero = refl
empty-behind [] (suc k) = refl
empty-behind (g ∷ gs) zero = refl
empty-behind (g ∷ gs) (suc k) = empty-behind gs k

pub push-groups : (gs : List (List ℕ)) → AreGroups gs → length gs < 2 ^ 20 → AreGroups (gs ++ [] ∷ [])
push-groups gs sound few = record {
  few = omega (arith, length-append gs ([] ∷ []), few);
  each = λ k. subst IsGroup (sym (empty-behind gs k)) (sound.each k);
}

pub push-rooms : (gs : List (List ℕ)) (k : ℕ) → get_or (rooms_of (gs ++ [] ∷ [])) k 0 ≡ get_or (rooms_of gs) k 0
push-rooms gs k = room-is (gs ++ [] ∷ []) k ∙ ap (length {A = ℕ}) (empty-behind gs k) ∙ sym (room-is gs k)

-- tables whose groups have the same numbers
alike : (gs hs : List (List ℕ)) → AreGroups gs → AreGroups hs → ((k i : ℕ) → i < 64 → get_or (get_or gs k []) i 0 ≡ get_or (get_or hs k []) i 0) → (p : ℕ) → get_or (numbers_in gs) p 0 ≡ get_or (numbers_in hs) p 0
alike gs hs sound other each p = number-at gs p sound ∙ each (p / 64) (p % 64) (omega arith) ∙ sym (number-at hs p other)

pub push-numbers : (gs : List (List ℕ)) → AreGroups gs → length gs < 2 ^ 20 → (p : ℕ) → get_or (numbers_in (gs ++ [] ∷ [])) p 0 ≡ get_or (numbers_in gs) p 0
push-numbers gs sound few = alike (gs ++ [] ∷ []) gs (push-groups gs sound few) sound (λ k i lt. ap (λ (g : List ℕ). get_or g i 0) (empty-behind gs k))

-- a group that gets memory
abbrev pub zeros : List ℕ
zeros = replicate 64 0

fill-group : (gs : List (List ℕ)) (k j : ℕ) → k < length gs → (j ≡ k → get_or (set gs k zeros) j [] ≡ zeros) × (j ≢ k → get_or (set gs k zeros) j [] ≡ get_or gs j [])
fill-group gs k j lt = (λ is. ap (λ n. get_or (set gs k zeros) n []) is ∙ get_or-set_same gs k zeros [] lt, λ apart. get_or-set_other gs k j zeros [] apart)

pub fill-groups : (gs : List (List ℕ)) (k : ℕ) → AreGroups gs → k < length gs → AreGroups (set gs k zeros)
fill-groups gs k sound lt = record {
  few = omega (arith, length-set gs k zeros, sound.few);
  each = λ j.
      elim (cases_eq j k) [
        | inl is ↦ subst IsGroup (sym ((fill-group gs k j lt).0 is)) (inr refl)
        | inr apart ↦ subst IsGroup (sym ((fill-group gs k j lt).1 apart)) (sound.each j)
      ];
}

pub fill-numbers : (gs : List (List ℕ)) (k : ℕ) → AreGroups gs → k < length gs → get_or gs k [] ≡ [] → (p : ℕ) → get_or (numbers_in (set gs k zeros)) p 0 ≡ get_or (numbers_in gs) p 0
fill-numbers gs k sound lt none = alike (set gs k zeros) gs (fill-groups gs k sound lt) sound each
  where
    each : (j i : ℕ) → i < 64 → get_or (get_or (set gs k zeros) j []) i 0 ≡ get_or (get_or gs j []) i 0
    each j i low =
        elim (cases_eq j k) [
          | inl is ↦
              ap (λ (g : List ℕ). get_or g i 0) ((fill-group gs k j lt).0 is)
              ∙ get_or-replicate 64 i 0 0 low
              ∙ sym (get_or_past [] i 0 (omega arith))
              ∙ ap (λ (g : List ℕ). get_or g i 0) (sym none ∙ ap (λ n. get_or gs n []) (sym is))
          | inr apart ↦ ap (λ (g : List ℕ). get_or g i 0) ((fill-group gs k j lt).1 apart)
        ]

pub fill-room : (gs : List (List ℕ)) (k p : ℕ) → k < length gs → p / 64 ≡ k → HasRoom (rooms_of (set gs k zeros)) p
fill-room gs k p lt is =
    let long : get_or (rooms_of (set gs k zeros)) (p / 64) 0 ≡ 64 = room-is (set gs k zeros) (p / 64) ∙ ap (length {A = ℕ}) ((fill-group gs k (p / 64) lt).0 is) in
    omega (arith, long)

fill-apart : (gs : List (List ℕ)) (k j : ℕ) → k < length gs → j ≢ k → get_or (rooms_of (set gs k zeros)) j 0 ≡ get_or (rooms_of gs) j 0
fill-apart gs k j lt apart = room-is (set gs k zeros) j ∙ ap (length {A = ℕ}) ((fill-group gs k j lt).1 apart) ∙ sym (room-is gs j)

pub fill-grows : (gs : List (List ℕ)) (k p : ℕ) → k < length gs → HasRoom (rooms_of gs) p → HasRoom (rooms_of (set gs k zeros)) p
fill-grows gs k p lt room =
    elim (cases_eq (p / 64) k) [
      | inl is ↦ fill-room gs k p lt is
      | inr apart ↦ omega (arith, fill-apart gs k (p / 64) lt apart, room)
    ]

-- no other page gets any
pub fill-only : (gs : List (List ℕ)) (k p : ℕ) → k < length gs → HasRoom (rooms_of (set gs k zeros)) p → HasRoom (rooms_of gs) p ⊎ (p / 64 ≡ k)
fill-only gs k p lt room =
    elim (cases_eq (p / 64) k) [
      | inl is ↦ inr is
      | inr apart ↦ inl (omega (arith, fill-apart gs k (p / 64) lt apart, room))
    ]

pub group-few : (g : List ℕ) → IsGroup g → length g ≤ 64
group-few g (inl e) = omega (arith, e)
group-few g (inr e) = omega (arith, e)

-- a group with any memory has it for all of its pages
pub group-full : (g : List ℕ) → IsGroup g → length g ≢ 0 → length g ≡ 64
group-full g (inl e) some = absurd (some e)
group-full g (inr e) some = e
