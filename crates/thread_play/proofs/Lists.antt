-- Lists, read by index and from their end.
use Rattle.std.proofs.Common.{◌≡◌, ◌+◌, ◌-◌, ◌<◌, ◌≤◌, ◌++◌, ℕ, zero, suc, List, [], ◌∷◌, length, map, reverse, take, drop, Some, slice_get, sym, refl, ap, ◌∙◌, arith, append_assoc}
use Rattle.std.proofs.lemmas.Option.{none-some, same_Some, slice_get_within, slice_get-get_or, get_or_from_slice_get, slice_get-map}
use Rattle.std.proofs.lemmas.List.{get_or-reverse, length-reverse, length-map, map-append, reverse-append}
use Rattle.std.specs.Option.{option_map}
use Rattle.std.specs.List.{AllByRecursion}
use Rattle.turn_lock.specs.Turning.{total}

-- An item of a reversed list stands as far from the other end.
pub get_reverse : {X : Type 0} (xs : List X) (i : ℕ) (x : X) → slice_get (reverse xs) i ≡ Some x → (i < length xs) × (slice_get xs (length xs - 1 - i) ≡ Some x)
get_reverse xs i x at =
    let within : i < length xs = omega (arith, slice_get_within (reverse xs) i x at, length-reverse xs) in
    (within, slice_get-get_or xs (length xs - 1 - i) x (omega arith) ∙ ap Some (sym (get_or-reverse xs i x within) ∙ get_or_from_slice_get (reverse xs) i x x at))

pub get_from_end : {X : Type 0} (xs : List X) (i : ℕ) (x : X) → i < length xs → slice_get xs (length xs - 1 - i) ≡ Some x → slice_get (reverse xs) i ≡ Some x
get_from_end xs i x within at = slice_get-get_or (reverse xs) i x (omega (arith, within, length-reverse xs)) ∙ ap Some (get_or-reverse xs i x within ∙ get_or_from_slice_get xs (length xs - 1 - i) x x at)

pub get_map : {X Y : Type 0} (f : X → Y) (xs : List X) (i : ℕ) (y : Y) → slice_get (map f xs) i ≡ Some y → (x : X) × (slice_get xs i ≡ Some x) × (f x ≡ y)
get_map f [] i y at = absurd (none-some y at)
get_map f (x ∷ xs) zero y at = (x, refl, same_Some (f x) y at)
get_map f (x ∷ xs) (suc i) y at = get_map f xs i y at

-- the same where each item was mapped
pub get_reverse_map : {X Y : Type 0} (f : X → Y) (xs : List X) (i : ℕ) (y : Y) → slice_get (reverse (map f xs)) i ≡ Some y → (x : X) × (i < length xs) × (slice_get xs (length xs - 1 - i) ≡ Some x) × (f x ≡ y)
get_reverse_map f xs i y at =
    let back = get_reverse (map f xs) i y at in
    let long : length (map f xs) ≡ length xs = length-map xs f in
    let here = get_map f xs (length xs - 1 - i) y (ap (λ (n : ℕ). slice_get (map f xs) (n - 1 - i)) (sym long) ∙ back.1) in
    (here.0, omega (arith, back.0, long), here.1, here.2)

pub get_map_from_end : {X Y : Type 0} (f : X → Y) (xs : List X) (i : ℕ) (x : X) → i < length xs → slice_get xs (length xs - 1 - i) ≡ Some x → slice_get (reverse (map f xs)) i ≡ Some (f x)
get_map_from_end f xs i x within at =
    let long : length (map f xs) ≡ length xs = length-map xs f in
    get_from_end (map f xs) i (f x) (omega (arith, within, long))
    (ap (λ (n : ℕ). slice_get (map f xs) (n - 1 - i)) long ∙ slice_get-map f xs (length xs - 1 - i) ∙ ap (option_map f) at)

pub reverse_map_last : {X Y : Type 0} (f : X → Y) (xs : List X) (x : X) → reverse (map f (xs ++ x ∷ [])) ≡ f x ∷ reverse (map f xs)
reverse_map_last f xs x = ap reverse (map-append f xs (x ∷ [])) ∙ reverse-append (map f xs) (f x ∷ [])

pub reverse_map_first : {X Y : Type 0} (f : X → Y) (x : X) (xs : List X) → reverse (map f (x ∷ xs)) ≡ reverse (map f xs) ++ f x ∷ []
reverse_map_first f x xs = reverse-append (f x ∷ []) (map f xs)

-- An item was taken from the end of one list and put at the end of another.
pub taken_last : {X Y : Type 0} (f : X → Y) (all before now : List Y) (xs ys : List X) (x : X) → all ≡ before ++ reverse (map f xs) → before ≡ now ++ f x ∷ [] → ys ≡ xs ++ x ∷ [] → all ≡ now ++ reverse (map f ys)
taken_last f all before now xs ys x all_is before_is ys_is =
    all_is ∙ ap (λ l. l ++ reverse (map f xs)) before_is ∙ append_assoc now (f x ∷ []) (reverse (map f xs)) ∙ ap (λ l. now ++ l) (sym (ap (λ l. reverse (map f l)) ys_is ∙ reverse_map_last f xs x))

take_front : {X : Type 0} (xs ys : List X) → take (length xs) (xs ++ ys) ≡ xs
take_front [] ys = refl
take_front (x ∷ xs) ys = ap (λ l. x ∷ l) (take_front xs ys)

-- A list of which each item was written is what was written.
pub written_back : {X : Type 0} (new old : List X) (n : ℕ) → n ≡ length new → take n (new ++ drop (length new) old) ≡ new
written_back new old n is = ap (λ (k : ℕ). take k (new ++ drop (length new) old)) is ∙ take_front new (drop (length new) old)

pub there_is : {X : Type 0} (xs : List X) (i : ℕ) → i < length xs → (x : X) × (slice_get xs i ≡ Some x)
there_is [] i lt = absurd (omega arith)
there_is (x ∷ xs) zero lt = (x, refl)
there_is (x ∷ xs) (suc i) lt = there_is xs i (omega arith)

-- what holds of each item
pub all_each : {X : Type 0} (P : X → Type 0) (xs : List X) → ((i : ℕ) (x : X) → slice_get xs i ≡ Some x → P x) → AllByRecursion P xs
all_each P [] each = tt
all_each P (x ∷ xs) each = (each 0 x refl, all_each P xs (λ i y at. each (suc i) y at))

pub all_both : {X : Type 0} (P Q : X → Type 0) (xs : List X) → AllByRecursion P xs → AllByRecursion Q xs → AllByRecursion (λ x. P x × Q x) xs
all_both P Q [] p q = tt
all_both P Q (x ∷ xs) p q = ((p.0, q.0), all_both P Q xs p.1 q.1)

pub all_firsts : {X : Type 0} (P Q : X → Type 0) (xs : List X) → AllByRecursion (λ x. P x × Q x) xs → AllByRecursion P xs
all_firsts P Q [] both = tt
all_firsts P Q (x ∷ xs) both = (both.0.0, all_firsts P Q xs both.1)

pub all_map : {X Y : Type 0} (P : Y → Type 0) (f : X → Y) (xs : List X) → AllByRecursion (λ x. P (f x)) xs → AllByRecursion P (map f xs)
all_map P f [] all = tt
all_map P f (x ∷ xs) all = (all.0, all_map P f xs all.1)

pub total_at : {X : Type 0} (f : X → ℕ) (xs : List X) (i : ℕ) (x : X) → slice_get xs i ≡ Some x → f x ≤ total f xs
total_at f [] i x at = absurd (none-some x at)
total_at f (y ∷ xs) zero x at = omega (arith, ap f (same_Some y x at))
total_at f (y ∷ xs) (suc i) x at = omega (arith, total_at f xs i x at)

pub total_map : {X Y : Type 0} (f : Y → ℕ) (h : X → Y) (xs : List X) → total f (map h xs) ≡ total (λ x. f (h x)) xs
total_map f h [] = refl
total_map f h (x ∷ xs) = ap (λ (n : ℕ). f (h x) + n) (total_map f h xs)
