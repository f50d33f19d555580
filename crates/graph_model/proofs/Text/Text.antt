-- The text of a canon determines the canon: two canons with one text are one, where their numbers are below 2 ^ 64.
use Rattle.std.proofs.Common.{◌≡◌, ℕ, ◌+◌, ◌^◌, ◌%◌, ◌<◌, ◌≤◌, List, [], ◌∷◌, ◌++◌, length, codes, decimal, refl, sym, ap, ◌∙◌, arith, append_assoc}
use Rattle.std.specs.List.{AllByRecursion}
use Rattle.std.proofs.lemmas.Fmt.{decimal_by_steps, decimal_nonempty, decimal_injective}
use Rattle.std.proofs.lemmas.List.{append_cancel_left}
use Rattle.graph_model.specs.Canon.{Shown, Nothing, Number, Object}
use Rattle.graph_model.proofs.Text.Short.{IsShort, AreShort}
use Rattle.graph_model.specs.Text.{field_text, fields_text, rows_text, canon_text}

-- a decimal digit
abbrev IsDigit : ℕ → Type 0
IsDigit d = (48 ≤ d) × (d < 58)

-- what begins with a byte that comes before the digits
abbrev EndsDigits : List ℕ → Type 0
EndsDigits [] = ⊥
EndsDigits (c ∷ cs) = c < 48

digits_push : (ds : List ℕ) (d : ℕ) → AllByRecursion IsDigit ds → IsDigit d → AllByRecursion IsDigit (ds ++ d ∷ [])
digits_push [] d all digit = (digit, tt)
digits_push (x ∷ ds) d all digit = (all.0, digits_push ds d all.1 digit)

decimal_digits : (n : ℕ) → n < 2 ^ 64 → AllByRecursion IsDigit (decimal n)
decimal_digits = decimal_by_steps (λ _ ds. AllByRecursion IsDigit ds)
    (λ n small. ((omega arith, omega arith), tt))
    (λ n ds large all. digits_push ds (48 + n % 10) all (omega arith, omega arith))

same_head : (c d : ℕ) (xs ys : List ℕ) → c ∷ xs ≡ d ∷ ys → c ≡ d
same_head c d xs ys same = cc

same_tail : (c d : ℕ) (xs ys : List ℕ) → c ∷ xs ≡ d ∷ ys → xs ≡ ys
same_tail c d xs ys same = cc

digits_end : (xs ys s t : List ℕ) → AllByRecursion IsDigit xs → AllByRecursion IsDigit ys → EndsDigits s → EndsDigits t → xs ++ s ≡ ys ++ t → (xs ≡ ys) × (s ≡ t)
digits_end [] [] s t all all' ends ends' same = (refl, same)
digits_end [] (y ∷ ys) [] t all all' ends ends' same = absurd ends
digits_end [] (y ∷ ys) (c ∷ s) t all all' ends ends' same = let one = same_head c y s (ys ++ t) same in absurd (omega arith)
digits_end (x ∷ xs) [] s [] all all' ends ends' same = absurd ends'
digits_end (x ∷ xs) [] s (c ∷ t) all all' ends ends' same = let one = same_head x c (xs ++ s) t same in absurd (omega arith)
digits_end (x ∷ xs) (y ∷ ys) s t all all' ends ends' same =
    let rest = digits_end xs ys s t all.1 all'.1 ends ends' (same_tail x y (xs ++ s) (ys ++ t) same) in
    (ap (λ c. c ∷ xs) (same_head x y (xs ++ s) (ys ++ t) same) ∙ ap (λ cs. y ∷ cs) rest.0, rest.1)

numbers_end : (n m : ℕ) (s t : List ℕ) → n < 2 ^ 64 → m < 2 ^ 64 → EndsDigits s → EndsDigits t → decimal n ++ s ≡ decimal m ++ t → (n ≡ m) × (s ≡ t)
numbers_end n m s t small small' ends ends' same =
    let parts = digits_end (decimal n) (decimal m) s t (decimal_digits n small) (decimal_digits m small') ends ends' same in
    (decimal_injective n m small small' parts.0, parts.1)

no_digit : (ds : List ℕ) (c : ℕ) (s t : List ℕ) → 0 < length ds → AllByRecursion IsDigit ds → ds ++ s ≡ c ∷ t → IsDigit c
no_digit [] c s t some all same = absurd (omega arith)
no_digit (d ∷ ds) c s t some all same = let one = same_head d c (ds ++ s) t same in (omega arith, omega arith)

-- a number's text does not begin with any other byte than a digit
decimal_begins : (n c : ℕ) (s t : List ℕ) → n < 2 ^ 64 → decimal n ++ s ≡ c ∷ t → IsDigit c
decimal_begins n c s t small = no_digit (decimal n) c s t (decimal_nonempty n small) (decimal_digits n small)

-- what a field shows after the blank
abbrev token : Shown → List ℕ
token Nothing = 45 ∷ []
token (Number n) = decimal n
token (Object n) = 64 ∷ decimal n

token_same : (f g : Shown) (s t : List ℕ) → IsShort f → IsShort g → EndsDigits s → EndsDigits t → token f ++ s ≡ token g ++ t → (f ≡ g) × (s ≡ t)
token_same Nothing Nothing s t short short' ends ends' same = (refl, same_tail 45 45 s t same)
token_same Nothing (Number m) s t short short' ends ends' same = let digit = decimal_begins m 45 t s short' (sym same) in absurd (omega arith)
token_same Nothing (Object m) s t short short' ends ends' same = let one = same_head 45 64 s (decimal m ++ t) same in absurd (omega arith)
token_same (Number n) Nothing s t short short' ends ends' same = let digit = decimal_begins n 45 s t short same in absurd (omega arith)
token_same (Number n) (Number m) s t short short' ends ends' same = let parts = numbers_end n m s t short short' ends ends' same in (ap Number parts.0, parts.1)
token_same (Number n) (Object m) s t short short' ends ends' same = let digit = decimal_begins n 64 s (decimal m ++ t) short same in absurd (omega arith)
token_same (Object n) Nothing s t short short' ends ends' same = let one = same_head 64 45 (decimal n ++ s) t same in absurd (omega arith)
token_same (Object n) (Number m) s t short short' ends ends' same = let digit = decimal_begins m 64 t (decimal n ++ s) short' (sym same) in absurd (omega arith)
token_same (Object n) (Object m) s t short short' ends ends' same =
    let parts = numbers_end n m s t short short' ends ends' (same_tail 64 64 (decimal n ++ s) (decimal m ++ t) same) in (ap Object parts.0, parts.1)

field_blank : (f : Shown) → field_text f ≡ 32 ∷ token f
field_blank Nothing = refl
field_blank (Number n) = refl
field_blank (Object n) = refl

-- what follows a row's fields
fields_then : (f : Shown) (fs : List Shown) (s : List ℕ) → fields_text (f ∷ fs) ++ s ≡ 32 ∷ (token f ++ (fields_text fs ++ s))
fields_then f fs s = append_assoc (field_text f) (fields_text fs) s ∙ ap (λ cs. cs ++ (fields_text fs ++ s)) (field_blank f)

row_ends : (fs : List Shown) (s : List ℕ) → EndsDigits (fields_text fs ++ 10 ∷ s)
row_ends [] s = omega arith
row_ends (Nothing ∷ fs) s = omega arith
row_ends (Number n ∷ fs) s = omega arith
row_ends (Object n ∷ fs) s = omega arith

fields_same : (fs gs : List Shown) (s t : List ℕ) → AllByRecursion IsShort fs → AllByRecursion IsShort gs → fields_text fs ++ 10 ∷ s ≡ fields_text gs ++ 10 ∷ t → (fs ≡ gs) × (s ≡ t)
fields_same [] [] s t all all' same = (refl, same_tail 10 10 s t same)
fields_same [] (g ∷ gs) s t all all' same = let one = same_head 10 32 s _ (same ∙ fields_then g gs (10 ∷ t)) in absurd (omega arith)
fields_same (f ∷ fs) [] s t all all' same = let one = same_head 32 10 _ t (sym (fields_then f fs (10 ∷ s)) ∙ same) in absurd (omega arith)
fields_same (f ∷ fs) (g ∷ gs) s t all all' same =
    let behind = same_tail 32 32 _ _ (sym (fields_then f fs (10 ∷ s)) ∙ same ∙ fields_then g gs (10 ∷ t)) in
    let one = token_same f g _ _ all.0 all'.0 (row_ends fs s) (row_ends gs t) behind in
    let rest = fields_same fs gs s t all.1 all'.1 one.1 in
    (ap (λ x. x ∷ fs) one.0 ∙ ap (λ xs. g ∷ xs) rest.0, rest.1)

rows_same : (n : ℕ) (rows others : List (List Shown)) → AllByRecursion (AllByRecursion IsShort) rows → AllByRecursion (AllByRecursion IsShort) others → length rows ≡ length others
    → rows_text n rows ≡ rows_text n others → rows ≡ others
rows_same n [] [] all all' count same = refl
rows_same n [] (o ∷ others) all all' count same = absurd (omega arith)
rows_same n (r ∷ rows) [] all all' count same = absurd (omega arith)
rows_same n (r ∷ rows) (o ∷ others) all all' count same =
    let front = decimal n ++ codes ":" in
    let behind = append_cancel_left front (fields_text r ++ 10 ∷ rows_text (n + 1) rows) (fields_text o ++ 10 ∷ rows_text (n + 1) others)
    (sym (append_assoc front (fields_text r) (10 ∷ rows_text (n + 1) rows)) ∙ same ∙ append_assoc front (fields_text o) (10 ∷ rows_text (n + 1) others)) in
    let one = fields_same r o (rows_text (n + 1) rows) (rows_text (n + 1) others) all.0 all'.0 behind in
    let shorter : length rows ≡ length others = omega arith in
    ap (λ x. x ∷ rows) one.0 ∙ ap (λ xs. o ∷ xs) (rows_same (n + 1) rows others all.1 all'.1 shorter one.1)

-- canons with one text are one
pub canon_text_injective : (rows others : List (List Shown)) → AreShort rows → AreShort others → canon_text rows ≡ canon_text others → rows ≡ others
canon_text_injective rows others short short' same =
    let behind = append_cancel_left (codes "graph ") (decimal (length rows) ++ 10 ∷ rows_text 0 rows) (decimal (length others) ++ 10 ∷ rows_text 0 others)
    (sym (append_assoc (codes "graph ") (decimal (length rows)) (10 ∷ rows_text 0 rows)) ∙ same ∙ append_assoc (codes "graph ") (decimal (length others)) (10 ∷ rows_text 0 others)) in
    let parts = numbers_end (length rows) (length others) (10 ∷ rows_text 0 rows) (10 ∷ rows_text 0 others) short.count short'.count (omega arith) (omega arith) behind in
    rows_same 0 rows others short.fields short'.fields parts.0 (same_tail 10 10 (rows_text 0 rows) (rows_text 0 others) parts.1)
