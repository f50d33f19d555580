-- Numbers stay as they are while more are given.
use Rattle.std.proofs.Common.{◌≡◌, ℕ, zero, suc, ◌+◌, ◌<◌, inl, inr, Bool, true, false, cond, not, List, [], ◌∷◌, ◌++◌, length, take, Option, Some, None, unwrap_or, refl, sym, ap, ◌∙◌, subst, arith, append_assoc}
use Rattle.std.specs.Prelude.{nat_eq, ◌||◌, slice_get, position, if◌then◌else◌}
use Rattle.std.specs.List.{list_any, position_or_len}
use Rattle.std.proofs.lemmas.List.{map-append, take_more, take-append-le, append-nil}
use Rattle.std.proofs.lemmas.List.Folds.{list_any-append}
use Rattle.std.proofs.lemmas.Option.{same_Some, slice_get_within, get_or_from_slice_get}
use Rattle.std.proofs.lemmas.Bool.{eq-eqb, lt-ltb, cases_order}
use Rattle.heap_words.specs.declared.Word.{Word}
use Rattle.heap_words.specs.declared.Word.TheVariants as word
use Rattle.heap_words.specs.Word.{meaning}
use Rattle.graph_model.specs.Canon.{Object}
use Rattle.object_layout.specs.Layout.{field_words, stand, referred}
use Rattle.graph_print.specs.Order.{with_place, with_places, target, targets, IsOrder, first, next, place_number, shown_place, shown_word, row}
use Rattle.graph_print.proofs.Rows0.{rows}

-- the place has a number
abbrev pub IsNumbered : List ℕ → ℕ → Type 0
IsNumbered places at = list_any (nat_eq at) places ≡ true

any_front : (p : ℕ → Bool) (xs ys : List ℕ) → list_any p xs ≡ true → list_any p (xs ++ ys) ≡ true
any_front p xs ys is = list_any-append p xs ys ∙ ap (λ t. t || list_any p ys) is

-- the first place at which a test passes stays the first
pub same_place : (p : ℕ → Bool) (xs ys : List ℕ) → list_any p xs ≡ true → (position_or_len p (xs ++ ys) ≡ position_or_len p xs) × (position_or_len p xs < length xs)
same_place p [] ys is = cc
same_place p (x ∷ xs) ys is = pick (p x) (λ first. same_place p xs ys (sym (ap (λ t. t || list_any p xs) first) ∙ is))
  where
    pick : (t : Bool) → (t ≡ false → (position_or_len p (xs ++ ys) ≡ position_or_len p xs) × (position_or_len p xs < length xs))
        → (cond (not t) (1 + position_or_len p (xs ++ ys)) 0 ≡ cond (not t) (1 + position_or_len p xs) 0) × (cond (not t) (1 + position_or_len p xs) 0 < suc (length xs))
    pick true rest = (refl, omega arith)
    pick false rest = let later = rest refl in (ap (λ n. 1 + n) later.0, omega (arith, later.1))

number_value : (p : ℕ → Bool) (xs ys : List ℕ) → list_any p xs ≡ true → unwrap_or (position p (xs ++ ys)) 0 ≡ position_or_len p xs
number_value p xs ys is =
    let same = same_place p xs ys is in
    let within : position_or_len p (xs ++ ys) < length (xs ++ ys) = (same_place p (xs ++ ys) [] (any_front p xs ys is)).1 in
    ap (λ t. unwrap_or (cond t (Some (position_or_len p (xs ++ ys))) None) 0) (lt-ltb (position_or_len p (xs ++ ys)) (length (xs ++ ys)) within) ∙ same.0

-- a number stays when more places are numbered
pub number_stays : (places more : List ℕ) (at : ℕ) → IsNumbered places at → place_number (places ++ more) at ≡ place_number places at
number_stays places more at is =
    number_value (nat_eq at) places more is
    ∙ sym (number_value (nat_eq at) places [] is)
    ∙ ap (λ ps. place_number ps at) (append-nil places)

added_grows : (t : Bool) (places : List ℕ) (at : ℕ) → (more : List ℕ) × ((if t then places else places ++ at ∷ []) ≡ places ++ more)
added_grows true places at = ([], sym (append-nil places))
added_grows false places at = (at ∷ [], refl)

place_grows : (places : List ℕ) (o : Option ℕ) → (more : List ℕ) × (with_place places o ≡ places ++ more)
place_grows places None = ([], sym (append-nil places))
place_grows places (Some at) = added_grows (list_any (nat_eq at) places) places at

-- places are only added after those that are numbered
pub places_grow : (places : List ℕ) (os : List (Option ℕ)) → (more : List ℕ) × (with_places places os ≡ places ++ more)
places_grow places [] = ([], sym (append-nil places))
places_grow places (o ∷ os) =
    let one = place_grows places o in
    let rest = places_grow (with_place places o) os in
    (one.0 ++ rest.0, rest.1 ∙ ap (λ ps. ps ++ rest.0) one.1 ∙ append_assoc places one.0 rest.0)

-- what has a number keeps it
pub numbered_stays : (places more : List ℕ) (at : ℕ) → IsNumbered places at → IsNumbered (places ++ more) at
numbered_stays places more at is = any_front (nat_eq at) places more is

added_numbered : (t : Bool) (places : List ℕ) (at : ℕ) → list_any (nat_eq at) places ≡ t → IsNumbered (if t then places else places ++ at ∷ []) at
added_numbered true places at is = is
added_numbered false places at is =
    list_any-append (nat_eq at) places (at ∷ [])
    ∙ ap (λ t. t || (nat_eq at at || false)) is
    ∙ ap (λ t. t || false) (eq-eqb at at refl)

-- a place that was just numbered has a number
pub place_numbered : (places : List ℕ) (at : ℕ) → IsNumbered (with_place places (Some at)) at
place_numbered places at = added_numbered (list_any (nat_eq at) places) places at refl

-- the fields that have these words lead to what has a number
abbrev pub AreNumbered : List ℕ → List ℕ → List ℕ → Type 0
AreNumbered words places ws = (i w t : ℕ) → slice_get ws i ≡ Some w → target words w ≡ Some t → IsNumbered places t

-- they do so once they are visited
pub targets_numbered : (words places ws : List ℕ) → AreNumbered words (with_places places (targets words ws)) ws
targets_numbered words places [] i w t is leads = cc
targets_numbered words places (x ∷ ws) zero w t is leads =
    let here : target words x ≡ Some t = ap (target words) (same_Some x w is) ∙ leads in
    let more = places_grow (with_place places (target words x)) (targets words ws) in
    let Has : List ℕ → Type 0 = λ ps. IsNumbered ps t in
    let Placed : Option ℕ → Type 0 = λ o. IsNumbered (with_place places o) t in
    subst Has (sym more.1) (numbered_stays (with_place places (target words x)) more.0 t (subst Placed (sym here) (place_numbered places t)))
targets_numbered words places (x ∷ ws) (suc i) w t is leads = targets_numbered words (with_place places (target words x)) ws i w t is leads

shown_stays : (places more : List ℕ) (o : Option ℕ) → ((t : ℕ) → o ≡ Some t → IsNumbered places t) → shown_place (places ++ more) o ≡ shown_place places o
shown_stays places more None known = refl
shown_stays places more (Some t) known = ap Object (number_stays places more t (known t refl))

word_stays : (words places more : List ℕ) (meant : Option Word) → ((t : ℕ) → referred words meant ≡ Some t → IsNumbered places t)
    → shown_word words (places ++ more) meant ≡ shown_word words places meant
word_stays words places more None known = refl
word_stays words places more (Some word.Null) known = refl
word_stays words places more (Some (word.Int n)) known = refl
word_stays words places more (Some (word.Stable b)) known = shown_stays places more (stand words b) known
word_stays words places more (Some (word.Volatile k)) known = refl

-- a row stays as it is
pub row_stays : (words places more ws : List ℕ) → AreNumbered words places ws → row words (places ++ more) ws ≡ row words places ws
row_stays words places more [] known = refl
row_stays words places more (w ∷ ws) known =
    ap (λ s. s ∷ row words (places ++ more) ws) (word_stays words places more (meaning w) (λ t leads. known zero w t refl leads))
    ∙ ap (λ r. shown_word words places (meaning w) ∷ r) (row_stays words places more ws (λ i. known (suc i)))

-- one more field of a row
pub row_push : (words places ws : List ℕ) (w : ℕ) → AreNumbered words places ws
    → row words (with_place places (target words w)) (ws ++ w ∷ []) ≡ row words places ws ++ shown_word words (with_place places (target words w)) (meaning w) ∷ []
row_push words places ws w known =
    let more = place_grows places (target words w) in
    map-append (λ x. shown_word words (with_place places (target words w)) (meaning x)) ws (w ∷ [])
    ∙ ap (λ r. r ++ shown_word words (with_place places (target words w)) (meaning w) ∷ []) (ap (λ ps. row words ps ws) more.1 ∙ row_stays words places more.0 ws known)

-- one more field to visit
pub places_push : (places : List ℕ) (os : List (Option ℕ)) (o : Option ℕ) → with_places places (os ++ o ∷ []) ≡ with_place (with_places places os) o
places_push places [] o = refl
places_push places (x ∷ os) o = places_push (with_place places x) os o

-- the objects that were visited lead to what has a number
abbrev pub AreClosed : List ℕ → List ℕ → ℕ → Type 0
AreClosed words places count = (k at : ℕ) → k < count → slice_get places k ≡ Some at → AreNumbered words places (field_words words at)

front_get : (xs ys : List ℕ) (k x : ℕ) → k < length xs → slice_get (xs ++ ys) k ≡ Some x → slice_get xs k ≡ Some x
front_get [] ys k x within is = absurd (omega arith)
front_get (y ∷ xs) ys zero x within is = is
front_get (y ∷ xs) ys (suc k) x within is = front_get xs ys k x (omega arith) is

pub order_closed : (words : List ℕ) (start count : ℕ) (places : List ℕ) → IsOrder words start count places → AreClosed words places count
order_closed words start count places (first is) k at less here = absurd (omega arith)
order_closed words start count places (next {count = before} {places = ps} a order is whole) k at less here =
    let os = targets words (field_words words a) in
    let more = places_grow ps os in
    let inside = slice_get_within ps before a is in
    let there : slice_get ps k ≡ Some at = front_get ps more.0 k at (omega arith) (ap (λ xs. slice_get xs k) (sym more.1) ∙ here) in
    elim (cases_order k before) [
      | inl same ↦
          let one : a ≡ at = same_Some a at (sym is ∙ ap (slice_get ps) (sym same) ∙ there) in
          subst (λ (x : ℕ). AreNumbered words (with_places ps os) (field_words words x)) one (targets_numbered words ps (field_words words a))
      | inr (inl below) ↦ λ i w t got leads.
          subst (λ (xs : List ℕ). IsNumbered xs t) (sym more.1) (numbered_stays ps more.0 t (order_closed words start before ps order k at below there i w t got leads))
      | inr (inr above) ↦ absurd (omega arith)
    ]

rows_stay : (words places more ats : List ℕ) → ((k at : ℕ) → slice_get ats k ≡ Some at → AreNumbered words places (field_words words at))
    → rows words (places ++ more) ats ≡ rows words places ats
rows_stay words places more [] known = refl
rows_stay words places more (at ∷ ats) known =
    ap (λ r. r ∷ rows words (places ++ more) ats) (row_stays words places more (field_words words at) (known zero at refl))
    ∙ ap (λ rs. row words places (field_words words at) ∷ rs) (rows_stay words places more ats (λ k. known (suc k)))

take_get : (xs : List ℕ) (n k x : ℕ) → slice_get (take n xs) k ≡ Some x → (k < n) × (slice_get xs k ≡ Some x)
take_get [] zero k x is = cc
take_get [] (suc n) k x is = cc
take_get (y ∷ xs) zero k x is = cc
take_get (y ∷ xs) (suc n) zero x is = (omega arith, is)
take_get (y ∷ xs) (suc n) (suc k) x is = let rest = take_get xs n k x is in (omega arith, rest.1)

take_next : (xs : List ℕ) (n x : ℕ) → slice_get xs n ≡ Some x → take (n + 1) xs ≡ take n xs ++ x ∷ []
take_next xs n x is =
    take_more xs n 0 (slice_get_within xs n x is) ∙ ap (λ y. take n xs ++ y ∷ []) (get_or_from_slice_get xs n x 0 is)

-- one more row
pub rows_push : (words : List ℕ) (start count : ℕ) (places : List ℕ) (at : ℕ) → IsOrder words start count places → slice_get places count ≡ Some at
    → let after = with_places places (targets words (field_words words at)) in
    rows words after (take (count + 1) after) ≡ rows words places (take count places) ++ row words after (field_words words at) ∷ []
rows_push words start count places at order is =
    let os = targets words (field_words words at) in
    let after = with_places places os in
    let more = places_grow places os in
    let inside = slice_get_within places count at is in
    let front : take (count + 1) after ≡ take count places ++ at ∷ [] =
    ap (take (count + 1)) more.1 ∙ take-append-le (count + 1) places more.0 (omega arith) ∙ take_next places count at is in
    let closed = order_closed words start count places order in
    ap (rows words after) front
    ∙ map-append (λ x. row words after (field_words words x)) (take count places) (at ∷ [])
    ∙ ap (λ rs. rs ++ row words after (field_words words at) ∷ [])
    (ap (λ ps. rows words ps (take count places)) more.1
    ∙ rows_stay words places more.0 (take count places) (λ k x got. let one = take_get places count k x got in closed k x one.0 one.1))
