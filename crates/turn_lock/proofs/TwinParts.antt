-- A step of one turn is a step of its part of the table, and the other part stays as it is.
use Rattle.std.proofs.Common.{◌≡◌, ℕ, zero, suc, ◌+◌, ◌<◌, ◌≤◌, ◌%◌, List, [], ◌∷◌, ◌++◌, map, max, length, take, drop, get_or, set, sym, refl, ap, ◌∙◌, subst, arith}
use mathlib.Core.Option.{none, some, some-injective, some-ne-none}
use mathlib.Core.Option as maybe
use lib.ListN.{get_elem?}
use Rattle.atomic_table.specs.Table.{State, Me, Act, keeps, takes, gives, chain, stepped, put_back, rest, carried_after, Valid, Allows}
use Rattle.atomic_table.proofs.Lists.{set_again, set_here}
use Rattle.turn_lock.proofs.Acts.{AllowsAs}
use Rattle.turn_lock.proofs.Counts.{at_within}
use Rattle.turn_lock.specs.declared.twin_view.Cell.{Cell}
use Rattle.turn_lock.specs.declared.twin_view.Cell.TheVariants.{OfValue, OfDevice}
use Rattle.turn_lock.specs.declared.twin_view.TwinView.{TwinView}
use Rattle.turn_lock.specs.Twin.{value_home, device_home, device_part, value_side, device_side, Together}
use Rattle.turn_lock.specs.TwinSteps.{with_value, with_device}
use Rattle.turn_lock.proofs.TwinActs.{value_part, up, down, Plain, PlainDown, value_me, device_me}

abbrev W64 : ℕ
W64 = 18446744073709551616

module _ {A B : Type 0} where
  pub map_set : (f : A → B) (xs : List A) (i : ℕ) (v : A) → map f (set xs i v) ≡ set (map f xs) i (f v)
  map_set f [] i v = refl
  map_set f (x ∷ xs) zero v = refl
  map_set f (x ∷ xs) (suc i) v = ap (λ l. f x ∷ l) (map_set f xs i v)

  pub at_map : (f : A → B) (xs : List A) (i : ℕ) (a : A) → get_elem? xs i ≡ some a → get_elem? (map f xs) i ≡ some (f a)
  at_map f [] i a e = absurd (some-ne-none a (sym e))
  at_map f (x ∷ xs) zero a e = ap (λ y. some (f y)) (some-injective x a e)
  at_map f (x ∷ xs) (suc i) a e = at_map f xs i a e

module _ {A : Type 0} where
  take_set : (n i : ℕ) (xs : List A) (v : A) → i < n → take n (set xs i v) ≡ set (take n xs) i v
  take_set zero i xs v h = absurd (omega arith)
  take_set (suc n) i [] v h = refl
  take_set (suc n) zero (x ∷ xs) v h = refl
  take_set (suc n) (suc i) (x ∷ xs) v h = ap (λ l. x ∷ l) (take_set n i xs v (omega arith))

  take_set_past : (n i : ℕ) (xs : List A) (v : A) → n ≤ i → take n (set xs i v) ≡ take n xs
  take_set_past zero i xs v h = refl
  take_set_past (suc n) i [] v h = refl
  take_set_past (suc n) zero (x ∷ xs) v h = absurd (omega (arith, h))
  take_set_past (suc n) (suc i) (x ∷ xs) v h = ap (λ l. x ∷ l) (take_set_past n i xs v (omega (arith, h)))

  drop_set : (n i : ℕ) (xs : List A) (v : A) → i < n → drop n (set xs i v) ≡ drop n xs
  drop_set zero i xs v h = absurd (omega arith)
  drop_set (suc n) i [] v h = refl
  drop_set (suc n) zero (x ∷ xs) v h = refl
  drop_set (suc n) (suc i) (x ∷ xs) v h = drop_set n i xs v (omega arith)

  drop_set_one : (xs : List A) (v : A) → drop 1 (set xs 1 v) ≡ set (drop 1 xs) 0 v
  drop_set_one [] v = refl
  drop_set_one (x ∷ xs) v = refl

  at_take : (n i : ℕ) (xs : List A) (d : A) → i < n → get_or (take n xs) i d ≡ get_or xs i d
  at_take zero i xs d h = absurd (omega arith)
  at_take (suc n) i [] d h = refl
  at_take (suc n) zero (x ∷ xs) d h = refl
  at_take (suc n) (suc i) (x ∷ xs) d h = at_take n i xs d (omega arith)

  length_set : (xs : List A) (i : ℕ) (v : A) → length (set xs i v) ≡ length xs
  length_set [] i v = refl
  length_set (x ∷ xs) zero v = refl
  length_set (x ∷ xs) (suc i) v = ap suc (length_set xs i v)

  set_twice : (xs : List A) (i : ℕ) (a b : A) → set (set xs i a) i b ≡ set xs i b
  set_twice [] i a b = refl
  set_twice (x ∷ xs) zero a b = refl
  set_twice (x ∷ xs) (suc i) a b = ap (λ l. x ∷ l) (set_twice xs i a b)

module _ {A V : Type 0} (R : State A V → Type 0) where
  same_state : (ws ws' : List ℕ) (hs hs' : List (maybe.Option A)) (vs vs' : List V) → ws ≡ ws' → hs ≡ hs' → vs ≡ vs' → R record { words = ws; homes = hs; views = vs } → R record { words = ws'; homes = hs'; views = vs' }
  same_state ws ws' hs hs' vs vs' a b c r = subst (λ (x : List ℕ × List (maybe.Option A) × List V). R record { words = x.0; homes = x.1; views = x.2 }) (λ i. (a i, b i, c i)) r

module _ {A B : Type 0} where
  -- the value's slot is at home with this given
  pub value_at : (hs : List (maybe.Option (Cell A B))) (a : A) → get_elem? (map value_home (take 1 hs)) 0 ≡ some (some a) → get_elem? hs 0 ≡ some (some (OfValue a))
  value_at [] a e = absurd (some-ne-none (some a) (sym e))
  value_at (none ∷ hs) a e = absurd (some-ne-none a (sym (some-injective none (some a) e)))
  value_at (some (OfValue b) ∷ hs) a e = ap (λ (y : A). some (some (OfValue y))) (some-injective b a (some-injective (some b) (some a) e))
  value_at (some (OfDevice b) ∷ hs) a e = absurd (some-ne-none a (sym (some-injective none (some a) e)))

  one_home : (hs : List (maybe.Option (Cell A B))) → length hs ≡ 2 → length (map value_home (take 1 hs)) ≡ 1
  one_home [] e = absurd (omega (arith, e))
  one_home (h ∷ hs) e = refl

  other_home : (hs : List (maybe.Option (Cell A B))) → length hs ≡ 2 → length (map device_home (drop 1 hs)) ≡ 1
  other_home [] e = absurd (omega (arith, e))
  other_home (h ∷ []) e = absurd (omega (arith, e))
  other_home (h ∷ k ∷ []) e = refl
  other_home (h ∷ k ∷ l ∷ hs) e = absurd (omega (arith, e))

module _ {V W X : Type 0} where
  abbrev pub value_of : TwinView V W X → V
  value_of v = v.value

  abbrev pub device_of : TwinView V W X → W
  device_of v = v.device

  same_devices : (views : List (TwinView V W X)) (id : ℕ) (v : TwinView V W X) (w : V) (m : X) → get_elem? views id ≡ some v → map device_of (set views id (with_value v w m)) ≡ map device_of views
  same_devices views id v w m at = map_set device_of views id (with_value v w m) ∙ set_again (map device_of views) id v.device (at_map device_of views id v at)

  same_values : (views : List (TwinView V W X)) (id : ℕ) (v : TwinView V W X) (w : W) (m : X) → get_elem? views id ≡ some v → map value_of (set views id (with_device v w m)) ≡ map value_of views
  same_values views id v w m at = map_set value_of views id (with_device v w m) ∙ set_again (map value_of views) id v.value (at_map value_of views id v at)

module _ {A B V W X : Type 0} (R : State A V → Type 0) (Q : State B W → Type 0) where
  -- what an act of the value's turn does to the table, of each kind
  outcome : (s : State (Cell A B) (TwinView V W X)) (id : ℕ) (me : Me (Cell A B) (TwinView V W X)) (i n : ℕ) (w : V) (m : X) → i < 3 → get_elem? s.views id ≡ some me.0 → Q (device_side s)
      → (a : Act A) → Plain me.1 a → Valid (map value_home (take 1 s.homes)) (value_part me.1) a → R (stepped (value_side s) i n id (value_part me.1) w a)
      → Valid s.homes me.1 (up a) × R (value_side (stepped s i n id me.1 (with_value me.0 w m) (up a))) × Q (device_side (stepped s i n id me.1 (with_value me.0 w m) (up a)))
  outcome s id me i n w m low at q keeps plain valid r = (
    tt,
    same_state R (set (take 3 s.words) i n) (take 3 (set s.words i n)) (map value_home (take 1 s.homes)) (map value_home (take 1 s.homes)) (set (map value_of s.views) id w) (map value_of (set s.views id (with_value me.0 w m)))
        (sym (take_set 3 i s.words n low)) refl (sym (map_set value_of s.views id (with_value me.0 w m))) r,
    same_state Q (drop 3 s.words ++ 0 ∷ []) (drop 3 (set s.words i n) ++ 0 ∷ []) (map device_home (drop 1 s.homes)) (map device_home (drop 1 s.homes)) (map device_of s.views) (map device_of (set s.views id (with_value me.0 w m)))
        (ap (λ (ws : List ℕ). ws ++ 0 ∷ []) (sym (drop_set 3 i s.words n low))) refl (sym (same_devices s.views id me.0 w m at)) q,
  )
  outcome s id me i n w m low at q (takes zero x) plain valid r = (
    value_at s.homes x valid,
    same_state R (set (take 3 s.words) i n) (take 3 (set s.words i n)) (set (map value_home (take 1 s.homes)) 0 none) (map value_home (take 1 (set s.homes 0 none))) (set (map value_of s.views) id w) (map value_of (set s.views id (with_value me.0 w m)))
        (sym (take_set 3 i s.words n low)) (sym (ap (map value_home) (take_set 1 0 s.homes none (omega arith)) ∙ map_set value_home (take 1 s.homes) 0 none)) (sym (map_set value_of s.views id (with_value me.0 w m))) r,
    same_state Q (drop 3 s.words ++ 0 ∷ []) (drop 3 (set s.words i n) ++ 0 ∷ []) (map device_home (drop 1 s.homes)) (map device_home (drop 1 (set s.homes 0 none))) (map device_of s.views) (map device_of (set s.views id (with_value me.0 w m)))
        (ap (λ (ws : List ℕ). ws ++ 0 ∷ []) (sym (drop_set 3 i s.words n low))) (sym (ap (map device_home) (drop_set 1 0 s.homes none (omega arith)))) (sym (same_devices s.views id me.0 w m at)) q,
  )
  outcome s id me i n w m low at q (takes (suc k) x) plain valid r = absurd (omega (arith, plain))
  outcome s id me i n w m low at q gives plain valid r =
      let x = plain.0 in let top = plain.2 in
      let home : put_back s.homes me.1 ≡ set s.homes 0 (some (OfValue x)) = ap (put_back s.homes) top in
      let back : put_back (map value_home (take 1 s.homes)) (value_part me.1) ≡ set (map value_home (take 1 s.homes)) 0 (some x) = ap (λ (c : List (ℕ × Cell A B)). put_back (map value_home (take 1 s.homes)) (value_part c)) top in (
        tt,
        same_state R (set (take 3 s.words) i n) (take 3 (set s.words i n)) (put_back (map value_home (take 1 s.homes)) (value_part me.1)) (map value_home (take 1 (put_back s.homes me.1))) (set (map value_of s.views) id w) (map value_of (set s.views id (with_value me.0 w m)))
            (sym (take_set 3 i s.words n low)) (back ∙ sym (ap (λ hs. map value_home (take 1 hs)) home ∙ (ap (map value_home) (take_set 1 0 s.homes (some (OfValue x)) (omega arith)) ∙ map_set value_home (take 1 s.homes) 0 (some (OfValue x)))))
            (sym (map_set value_of s.views id (with_value me.0 w m))) r,
        same_state Q (drop 3 s.words ++ 0 ∷ []) (drop 3 (set s.words i n) ++ 0 ∷ []) (map device_home (drop 1 s.homes)) (map device_home (drop 1 (put_back s.homes me.1))) (map device_of s.views) (map device_of (set s.views id (with_value me.0 w m)))
            (ap (λ (ws : List ℕ). ws ++ 0 ∷ []) (sym (drop_set 3 i s.words n low))) (sym (ap (λ hs. map device_home (drop 1 hs)) home ∙ ap (map device_home) (drop_set 1 0 s.homes (some (OfValue x)) (omega arith)))) (sym (same_devices s.views id me.0 w m at)) q,
      )
  outcome s id me i n w m low at q (chain a b) plain valid r = absurd plain

  -- A step that the value's rule allows is allowed by both rules together, where its caller says what it does to what ties them.
  pub value_allows : (says : Act A → Type 0) (Ties : State (Cell A B) (TwinView V W X) → Type 0) (id : ℕ) (me : Me (Cell A B) (TwinView V W X)) (i : ℕ) (f : ℕ → ℕ) (then : ℕ → Me A V → Type 0) (tells : ℕ → Me (Cell A B) (TwinView V W X) → Type 0)
      → i < 3 → ((a : Act A) → says a → Plain me.1 a) → AllowsAs says R 1 id (value_me me) i f then
      → ((s : State (Cell A B) (TwinView V W X)) → Together R Q Ties s → get_elem? s.views id ≡ some me.0 → (w : V) (a : Act A) → says a → Valid (value_side s).homes (value_part me.1) a → then (get_or s.words i 0) (w, carried_after (value_part me.1) a)
      → (m : X) × Ties (stepped s i (f (get_or s.words i 0)) id me.1 (with_value me.0 w m) (up a)) × tells (get_or s.words i 0) (with_value me.0 w m, carried_after me.1 (up a)))
      → Allows (Together R Q Ties) 2 id me i f tells
  value_allows says Ties id me i f then tells low plain law tie s k two at small =
      let is : get_or (take 3 s.words) i 0 ≡ get_or s.words i 0 = at_take 3 i s.words 0 low in
      let t = law (value_side s) k.turn (one_home s.homes two) (at_map value_of s.views id me.0 at) (subst (λ (n : ℕ). n < W64) (sym is) small) in
      let new : ℕ = f (get_or s.words i 0) in
      let so = subst (λ (n : ℕ). then n (t.0, carried_after (value_part me.1) t.1)) is t.5 in
      let m = tie s k at t.0 t.1 t.2 t.3 so in
      let o = outcome s id me i new t.0 m.0 low at k.other t.1 (plain t.1 t.2) t.3 (subst (λ (n : ℕ). R (stepped (value_side s) i (f n) id (value_part me.1) t.0 t.1)) is t.4) in (
        with_value me.0 t.0 m.0,
        up t.1,
        o.0,
        record { turn = o.1; other = o.2; five = length_set s.words i new ∙ k.five; ties = m.1 },
        m.2,
      )

-- what stands where in five words
words_down : (ws : List ℕ) (i n : ℕ) → length ws ≡ 5 → i < 2 → drop 3 (set ws (3 + i) n) ++ 0 ∷ [] ≡ set (drop 3 ws ++ 0 ∷ []) i n
words_down [] i n h low = absurd (omega (arith, h))
words_down (a ∷ []) i n h low = absurd (omega (arith, h))
words_down (a ∷ b ∷ []) i n h low = absurd (omega (arith, h))
words_down (a ∷ b ∷ c ∷ []) i n h low = absurd (omega (arith, h))
words_down (a ∷ b ∷ c ∷ d ∷ []) i n h low = absurd (omega (arith, h))
words_down (a ∷ b ∷ c ∷ d ∷ e ∷ []) zero n h low = refl
words_down (a ∷ b ∷ c ∷ d ∷ e ∷ []) (suc zero) n h low = refl
words_down (a ∷ b ∷ c ∷ d ∷ e ∷ []) (suc (suc i)) n h low = absurd (omega (arith, low))
words_down (a ∷ b ∷ c ∷ d ∷ e ∷ g ∷ ws) i n h low = absurd (omega (arith, h))

found_down : (ws : List ℕ) (i : ℕ) → length ws ≡ 5 → i < 2 → get_or (drop 3 ws ++ 0 ∷ []) i 0 ≡ get_or ws (3 + i) 0
found_down [] i h low = absurd (omega (arith, h))
found_down (a ∷ []) i h low = absurd (omega (arith, h))
found_down (a ∷ b ∷ []) i h low = absurd (omega (arith, h))
found_down (a ∷ b ∷ c ∷ []) i h low = absurd (omega (arith, h))
found_down (a ∷ b ∷ c ∷ d ∷ []) i h low = absurd (omega (arith, h))
found_down (a ∷ b ∷ c ∷ d ∷ e ∷ []) zero h low = refl
found_down (a ∷ b ∷ c ∷ d ∷ e ∷ []) (suc zero) h low = refl
found_down (a ∷ b ∷ c ∷ d ∷ e ∷ []) (suc (suc i)) h low = absurd (omega (arith, low))
found_down (a ∷ b ∷ c ∷ d ∷ e ∷ g ∷ ws) i h low = absurd (omega (arith, h))

-- a raise of the device's front leaves its words
front_down : (ws : List ℕ) → length ws ≡ 5 → (get_or (drop 3 ws ++ 0 ∷ []) 2 0 ≡ 0) × (set (drop 3 ws ++ 0 ∷ []) 2 0 ≡ drop 3 ws ++ 0 ∷ [])
front_down [] h = absurd (omega (arith, h))
front_down (a ∷ []) h = absurd (omega (arith, h))
front_down (a ∷ b ∷ []) h = absurd (omega (arith, h))
front_down (a ∷ b ∷ c ∷ []) h = absurd (omega (arith, h))
front_down (a ∷ b ∷ c ∷ d ∷ []) h = absurd (omega (arith, h))
front_down (a ∷ b ∷ c ∷ d ∷ e ∷ []) h = (refl, refl)
front_down (a ∷ b ∷ c ∷ d ∷ e ∷ g ∷ ws) h = absurd (omega (arith, h))

module _ {A B : Type 0} where
  -- the device's slot is at home with this given
  pub device_at : (hs : List (maybe.Option (Cell A B))) (b : B) → get_elem? (map device_home (drop 1 hs)) 0 ≡ some (some b) → get_elem? hs 1 ≡ some (some (OfDevice b))
  device_at [] b e = absurd (some-ne-none (some b) (sym e))
  device_at (h ∷ []) b e = absurd (some-ne-none (some b) (sym e))
  device_at (h ∷ none ∷ hs) b e = absurd (some-ne-none b (sym (some-injective none (some b) e)))
  device_at (h ∷ some (OfDevice c) ∷ hs) b e = ap (λ (y : B). some (some (OfDevice y))) (some-injective c b (some-injective (some c) (some b) e))
  device_at (h ∷ some (OfValue a) ∷ hs) b e = absurd (some-ne-none b (sym (some-injective none (some b) e)))

module _ {A B V W X : Type 0} (R : State A V → Type 0) (Q : State B W → Type 0) where
  outcome_down : (s : State (Cell A B) (TwinView V W X)) (id : ℕ) (me : Me (Cell A B) (TwinView V W X)) (i n : ℕ) (w : W) (m : X) → i < 2 → length s.words ≡ 5 → get_elem? s.views id ≡ some me.0 → R (value_side s)
      → (a : Act B) → PlainDown a → Valid (map device_home (drop 1 s.homes)) (device_part me.1) a → Q (stepped (device_side s) i n id (device_part me.1) w a)
      → Valid s.homes me.1 (down a) × R (value_side (stepped s (3 + i) n id me.1 (with_device me.0 w m) (down a))) × Q (device_side (stepped s (3 + i) n id me.1 (with_device me.0 w m) (down a)))
  outcome_down s id me i n w m low five at r keeps plain valid q = (
    tt,
    same_state R (take 3 s.words) (take 3 (set s.words (3 + i) n)) (map value_home (take 1 s.homes)) (map value_home (take 1 s.homes)) (map value_of s.views) (map value_of (set s.views id (with_device me.0 w m)))
        (sym (take_set_past 3 (3 + i) s.words n (omega arith))) refl (sym (same_values s.views id me.0 w m at)) r,
    same_state Q (set (drop 3 s.words ++ 0 ∷ []) i n) (drop 3 (set s.words (3 + i) n) ++ 0 ∷ []) (map device_home (drop 1 s.homes)) (map device_home (drop 1 s.homes)) (set (map device_of s.views) id w) (map device_of (set s.views id (with_device me.0 w m)))
        (sym (words_down s.words i n five low)) refl (sym (map_set device_of s.views id (with_device me.0 w m))) q,
  )
  outcome_down s id me i n w m low five at r (takes zero y) plain valid q = (
    device_at s.homes y valid,
    same_state R (take 3 s.words) (take 3 (set s.words (3 + i) n)) (map value_home (take 1 s.homes)) (map value_home (take 1 (set s.homes 1 none))) (map value_of s.views) (map value_of (set s.views id (with_device me.0 w m)))
        (sym (take_set_past 3 (3 + i) s.words n (omega arith))) (sym (ap (map value_home) (take_set_past 1 1 s.homes none (omega arith)))) (sym (same_values s.views id me.0 w m at)) r,
    same_state Q (set (drop 3 s.words ++ 0 ∷ []) i n) (drop 3 (set s.words (3 + i) n) ++ 0 ∷ []) (set (map device_home (drop 1 s.homes)) 0 none) (map device_home (drop 1 (set s.homes 1 none))) (set (map device_of s.views) id w) (map device_of (set s.views id (with_device me.0 w m)))
        (sym (words_down s.words i n five low)) (sym (ap (map device_home) (drop_set_one s.homes none) ∙ map_set device_home (drop 1 s.homes) 0 none)) (sym (map_set device_of s.views id (with_device me.0 w m))) q,
  )
  outcome_down s id me i n w m low five at r (takes (suc k) y) plain valid q = absurd (omega (arith, plain))
  outcome_down s id me i n w m low five at r gives plain valid q = absurd plain
  outcome_down s id me i n w m low five at r (chain a b) plain valid q = absurd plain

  -- the same as value_allows, of the device's ticket and of its look
  pub device_allows : (says : Act B → Type 0) (Ties : State (Cell A B) (TwinView V W X) → Type 0) (id : ℕ) (me : Me (Cell A B) (TwinView V W X)) (i : ℕ) (f : ℕ → ℕ) (then : ℕ → Me B W → Type 0) (tells : ℕ → Me (Cell A B) (TwinView V W X) → Type 0)
      → i < 2 → ((a : Act B) → says a → PlainDown a) → AllowsAs says Q 1 id (device_me me) i f then
      → ((s : State (Cell A B) (TwinView V W X)) → Together R Q Ties s → get_elem? s.views id ≡ some me.0 → (w : W) (a : Act B) → says a → Valid (device_side s).homes (device_part me.1) a → then (get_or s.words (3 + i) 0) (w, carried_after (device_part me.1) a)
      → (m : X) × Ties (stepped s (3 + i) (f (get_or s.words (3 + i) 0)) id me.1 (with_device me.0 w m) (down a)) × tells (get_or s.words (3 + i) 0) (with_device me.0 w m, carried_after me.1 (down a)))
      → Allows (Together R Q Ties) 2 id me (3 + i) f tells
  device_allows says Ties id me i f then tells low plain law tie s k two at small =
      let is = found_down s.words i k.five low in
      let t = law (device_side s) k.other (other_home s.homes two) (at_map device_of s.views id me.0 at) (subst (λ (n : ℕ). n < W64) (sym is) small) in
      let new : ℕ = f (get_or s.words (3 + i) 0) in
      let so = subst (λ (n : ℕ). then n (t.0, carried_after (device_part me.1) t.1)) is t.5 in
      let m = tie s k at t.0 t.1 t.2 t.3 so in
      let o = outcome_down s id me i new t.0 m.0 low k.five at k.turn t.1 (plain t.1 t.2) t.3 (subst (λ (n : ℕ). Q (stepped (device_side s) i (f n) id (device_part me.1) t.0 t.1)) is t.4) in (
        with_device me.0 t.0 m.0,
        down t.1,
        o.0,
        record { turn = o.1; other = o.2; five = length_set s.words (3 + i) new ∙ k.five; ties = m.1 },
        m.2,
      )

  -- The device is put back in one step of the table, which is a raise with no new front and then a pass of the turn on its part.
  pub device_puts : (Ties : State (Cell A B) (TwinView V W X) → Type 0) (id : ℕ) (me : Me (Cell A B) (TwinView V W X)) (b : B) (under : List (ℕ × Cell A B)) (Ready : Me B W → Type 0) (then : ℕ → Me B W → Type 0) (tells : ℕ → Me (Cell A B) (TwinView V W X) → Type 0) → me.1 ≡ (1, OfDevice b) ∷ under
      → AllowsAs (λ a. a ≡ keeps) Q 1 id (device_me me) 2 (λ n. max n 0) (λ _. Ready)
      → ((w : W) → Ready (w, device_part me.1) → AllowsAs (λ a. a ≡ gives) Q 1 id (w, device_part me.1) 1 (λ n. (n + 1) % W64) then)
      → ((s : State (Cell A B) (TwinView V W X)) → Together R Q Ties s → get_elem? s.views id ≡ some me.0 → (w : W) → then (get_or s.words 4 0) (w, device_part under)
      → (m : X) × Ties (stepped s 4 ((get_or s.words 4 0 + 1) % W64) id me.1 (with_device me.0 w m) gives) × tells (get_or s.words 4 0) (with_device me.0 w m, rest me.1))
      → Allows (Together R Q Ties) 2 id me 4 (λ n. (n + 1) % W64) tells
  device_puts Ties id me b under Ready then tells top raise pass tie s k two at small =
      let new : ℕ = (get_or s.words 4 0 + 1) % W64 in
      let five = k.five in
      let none_front = front_down s.words five in
      let seat : get_elem? (map device_of s.views) id ≡ some me.0.device = at_map device_of s.views id me.0 at in
      let t = raise (device_side s) k.other (other_home s.homes two) seat (subst (λ (n : ℕ). n < W64) (sym none_front.0) (let p : 0 < 18446744073709551616 = omega arith in p)) in
      let mid : State B W = record { words = drop 3 s.words ++ 0 ∷ []; homes = map device_home (drop 1 s.homes); views = set (map device_of s.views) id t.0 } in
      let raised : Q mid = same_state Q (set (drop 3 s.words ++ 0 ∷ []) 2 (max (get_or (drop 3 s.words ++ 0 ∷ []) 2 0) 0)) (drop 3 s.words ++ 0 ∷ []) (map device_home (drop 1 s.homes)) (map device_home (drop 1 s.homes)) (set (map device_of s.views) id t.0) (set (map device_of s.views) id t.0)
      (ap (λ n. set (drop 3 s.words ++ 0 ∷ []) 2 (max n 0)) none_front.0 ∙ none_front.1) refl refl (subst (λ (a : Act B). Q (stepped (device_side s) 2 (max (get_or (drop 3 s.words ++ 0 ∷ []) 2 0) 0) id (device_part me.1) t.0 a)) t.2 t.4) in
      let ready : Ready (t.0, device_part me.1) = subst (λ (a : Act B). Ready (t.0, carried_after (device_part me.1) a)) t.2 t.5 in
      let is = found_down s.words 1 five (omega arith) in
      let u = pass t.0 ready mid raised (other_home s.homes two) (set_here (map device_of s.views) id t.0 (at_within (map device_of s.views) id me.0.device seat)) (subst (λ (n : ℕ). n < W64) (sym is) small) in
      let passed : Q (stepped mid 1 new id (device_part me.1) u.0 gives) = subst (λ (n : ℕ). Q (stepped mid 1 ((n + 1) % W64) id (device_part me.1) u.0 gives)) is (subst (λ (a : Act B). Q (stepped mid 1 ((get_or mid.words 1 0 + 1) % W64) id (device_part me.1) u.0 a)) u.2 u.4) in
      let so : then (get_or s.words 4 0) (u.0, rest (device_part me.1)) = subst (λ (n : ℕ). then n (u.0, rest (device_part me.1))) is (subst (λ (a : Act B). then (get_or mid.words 1 0) (u.0, carried_after (device_part me.1) a)) u.2 u.5) in
      let under_is : rest (device_part me.1) ≡ device_part under = ap (λ (c : List (ℕ × Cell A B)). rest (device_part c)) top in
      let m = tie s k at u.0 (subst (λ (c : List (ℕ × B)). then (get_or s.words 4 0) (u.0, c)) under_is so) in
      let home : put_back s.homes me.1 ≡ set s.homes 1 (some (OfDevice b)) = ap (put_back s.homes) top in
      let back : put_back (map device_home (drop 1 s.homes)) (device_part me.1) ≡ set (map device_home (drop 1 s.homes)) 0 (some b) = ap (λ (c : List (ℕ × Cell A B)). put_back (map device_home (drop 1 s.homes)) (device_part c)) top in (
        with_device me.0 u.0 m.0,
        gives,
        tt,
        record {
          turn = same_state R (take 3 s.words) (take 3 (set s.words 4 new)) (map value_home (take 1 s.homes)) (map value_home (take 1 (put_back s.homes me.1))) (map value_of s.views) (map value_of (set s.views id (with_device me.0 u.0 m.0)))
              (sym (take_set_past 3 4 s.words new (omega arith))) (sym (ap (λ hs. map value_home (take 1 hs)) home ∙ ap (map value_home) (take_set_past 1 1 s.homes (some (OfDevice b)) (omega arith)))) (sym (same_values s.views id me.0 u.0 m.0 at)) k.turn;
          other = same_state Q (set (drop 3 s.words ++ 0 ∷ []) 1 new) (drop 3 (set s.words 4 new) ++ 0 ∷ []) (put_back (map device_home (drop 1 s.homes)) (device_part me.1)) (map device_home (drop 1 (put_back s.homes me.1)))
              (set (set (map device_of s.views) id t.0) id u.0) (map device_of (set s.views id (with_device me.0 u.0 m.0)))
              (sym (words_down s.words 1 new five (omega arith)))
              (back ∙ sym (ap (λ hs. map device_home (drop 1 hs)) home ∙ (ap (map device_home) (drop_set_one s.homes (some (OfDevice b))) ∙ map_set device_home (drop 1 s.homes) 0 (some (OfDevice b)))))
              (set_twice (map device_of s.views) id t.0 u.0 ∙ sym (map_set device_of s.views id (with_device me.0 u.0 m.0))) passed;
          five = length_set s.words 4 new ∙ five;
          ties = m.1;
        },
        m.2,
      )
