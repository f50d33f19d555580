-- Two graphs whose reached objects match one to one, field for field, have one canon.
use Rattle.std.proofs.Common.{◌≡◌, ℕ, zero, suc, ◌+◌, Bool, true, false, cond, not, List, [], ◌∷◌, ◌++◌, length, map, Option, Some, None, unwrap_or, refl, sym, ap, ◌∙◌, subst, arith}
use Rattle.std.specs.Prelude.{nat_lt, ◌||◌, slice_get, position, if◌then◌else◌}
use Rattle.std.specs.List.{list_any, position_or_len}
use Rattle.std.specs.FinMap.{len}
use Rattle.std.proofs.lemmas.Option.{same_Some}
use Rattle.graph_model.specs.declared.id.Id.{Id}
use Rattle.graph_model.specs.declared.val.Val.{Val}
use Rattle.graph_model.specs.declared.val.Val.TheVariants.{Null, Int, Ref}
use Rattle.graph_model.specs.Graph.{Graph, is_same_id, root, fields}
use Rattle.graph_model.specs.Canon.{Reached, at_root, along, with_target, with_targets, visit, numbered, Number, Object, shown, canon}
use Rattle.graph_model.specs.ClosedGraph.{IsWhole}
use Rattle.graph_model.specs.Isomorphism.{MatchValues, MatchRows}
use Rattle.graph_model.proofs.Canon.Match.{IsMatch}
use Rattle.graph_model.proofs.Canon.NumberedRows.{rows_of}
use Rattle.graph_model.proofs.Canon.Visits.{enough_turns}

-- lists of ids that match, one by one
abbrev MatchIds : (Id → Id → Type 0) → List Id → List Id → Type 0
MatchIds R [] [] = Unit {0}
MatchIds R (x ∷ xs) (y ∷ ys) = R x y × MatchIds R xs ys
MatchIds R xs ys = ⊥

match_any : (R : Id → Id → Type 0) (g h : Graph) (a b : Id) (xs ys : List Id) → IsMatch R g h → R a b → MatchIds R xs ys
    → list_any (is_same_id a) xs ≡ list_any (is_same_id b) ys
match_any R g h a b [] [] m ab all = refl
match_any R g h a b [] (y ∷ ys) m ab all = absurd all
match_any R g h a b (x ∷ xs) [] m ab all = absurd all
match_any R g h a b (x ∷ xs) (y ∷ ys) m ab all =
    ap (λ t. t || list_any (is_same_id a) xs) (m.one_to_one a b x y ab all.0)
    ∙ ap (λ t. is_same_id b y || t) (match_any R g h a b xs ys m ab all.1)

match_push : (R : Id → Id → Type 0) (a b : Id) (xs ys : List Id) → R a b → MatchIds R xs ys → MatchIds R (xs ++ a ∷ []) (ys ++ b ∷ [])
match_push R a b [] [] ab all = (ab, tt)
match_push R a b [] (y ∷ ys) ab all = absurd all
match_push R a b (x ∷ xs) [] ab all = absurd all
match_push R a b (x ∷ xs) (y ∷ ys) ab all = (all.0, match_push R a b xs ys ab all.1)

match_added : (R : Id → Id → Type 0) (t : Bool) (a b : Id) (xs ys : List Id) → R a b → MatchIds R xs ys
    → MatchIds R (if t then xs else xs ++ a ∷ []) (if t then ys else ys ++ b ∷ [])
match_added R true a b xs ys ab all = all
match_added R false a b xs ys ab all = match_push R a b xs ys ab all

match_target : (R : Id → Id → Type 0) (g h : Graph) (v w : Val) (xs ys : List Id) → IsMatch R g h → MatchValues R v w → MatchIds R xs ys
    → MatchIds R (with_target xs v) (with_target ys w)
match_target R g h Null Null xs ys m vw all = all
match_target R g h (Int n) (Int k) xs ys m vw all = all
match_target R g h (Ref a) (Ref b) xs ys m vw all =
    let Added : Bool → Type 0 = λ t. MatchIds R (with_target xs (Ref a)) (if t then ys else ys ++ b ∷ []) in
    subst Added (match_any R g h a b xs ys m vw all) (match_added R (list_any (is_same_id a) xs) a b xs ys vw all)
match_target R g h Null (Int k) xs ys m vw all = absurd vw
match_target R g h Null (Ref b) xs ys m vw all = absurd vw
match_target R g h (Int n) Null xs ys m vw all = absurd vw
match_target R g h (Int n) (Ref b) xs ys m vw all = absurd vw
match_target R g h (Ref a) Null xs ys m vw all = absurd vw
match_target R g h (Ref a) (Int k) xs ys m vw all = absurd vw

match_targets : (R : Id → Id → Type 0) (g h : Graph) (vs ws : List Val) (xs ys : List Id) → IsMatch R g h → MatchRows R vs ws → MatchIds R xs ys
    → MatchIds R (with_targets xs vs) (with_targets ys ws)
match_targets R g h [] [] xs ys m rows all = all
match_targets R g h [] (w ∷ ws) xs ys m rows all = absurd rows
match_targets R g h (v ∷ vs) [] xs ys m rows all = absurd rows
match_targets R g h (v ∷ vs) (w ∷ ws) xs ys m rows all =
    match_targets R g h vs ws (with_target xs v) (with_target ys w) m rows.1 (match_target R g h v w xs ys m rows.0 all)

-- next ids that match, or neither
abbrev MatchNext : (Id → Id → Type 0) → Option Id → Option Id → Type 0
MatchNext R None None = Unit {0}
MatchNext R (Some a) (Some b) = R a b
MatchNext R a b = ⊥

match_get : (R : Id → Id → Type 0) (xs ys : List Id) (i : ℕ) → MatchIds R xs ys → MatchNext R (slice_get xs i) (slice_get ys i)
match_get R [] [] i all = tt
match_get R [] (y ∷ ys) i all = absurd all
match_get R (x ∷ xs) [] i all = absurd all
match_get R (x ∷ xs) (y ∷ ys) zero all = all.0
match_get R (x ∷ xs) (y ∷ ys) (suc i) all = match_get R xs ys i all.1

match_rows : (R : Id → Id → Type 0) (g h : Graph) (a b : Id) → IsMatch R g h → R a b → MatchRows R (fields g a) (fields h b)
match_rows R g h a b m ab =
    let objects = m.objects a b ab in
    let Here : List Val → Type 0 = λ vs. MatchRows R vs (fields h b) in
    let There : List Val → Type 0 = λ ws. MatchRows R objects.one ws in
    subst Here (sym (ap (λ o. unwrap_or o []) objects.here)) (subst There (sym (ap (λ o. unwrap_or o []) objects.there)) objects.rows)

match_visit : (R : Id → Id → Type 0) (g h : Graph) (turns i : ℕ) (x y : Option Id) (xs ys : List Id) → IsMatch R g h → MatchNext R x y → MatchIds R xs ys
    → MatchIds R (visit g turns i x xs) (visit h turns i y ys)
match_visit R g h zero i x y xs ys m next all = all
match_visit R g h (suc turns) i None None xs ys m next all = all
match_visit R g h (suc turns) i None (Some b) xs ys m next all = absurd next
match_visit R g h (suc turns) i (Some a) None xs ys m next all = absurd next
match_visit R g h (suc turns) i (Some a) (Some b) xs ys m next all =
    let more = match_targets R g h (fields g a) (fields h b) xs ys m (match_rows R g h a b m next) all in
    match_visit R g h turns (i + 1) _ _ _ _ m (match_get R _ _ (i + 1) more) more

match_place : (R : Id → Id → Type 0) (g h : Graph) (a b : Id) (xs ys : List Id) → IsMatch R g h → R a b → MatchIds R xs ys
    → (position_or_len (is_same_id a) xs ≡ position_or_len (is_same_id b) ys) × (length xs ≡ length ys)
match_place R g h a b [] [] m ab all = (refl, refl)
match_place R g h a b [] (y ∷ ys) m ab all = absurd all
match_place R g h a b (x ∷ xs) [] m ab all = absurd all
match_place R g h a b (x ∷ xs) (y ∷ ys) m ab all =
    let rest = match_place R g h a b xs ys m ab all.1 in (
      ap (λ t. cond (not t) (1 + position_or_len (is_same_id a) xs) 0) (m.one_to_one a b x y ab all.0)
          ∙ ap (λ n. cond (not (is_same_id b y)) (1 + n) 0) rest.0,
      ap suc rest.1,
    )

match_position : (R : Id → Id → Type 0) (g h : Graph) (a b : Id) (xs ys : List Id) → IsMatch R g h → R a b → MatchIds R xs ys
    → position (is_same_id a) xs ≡ position (is_same_id b) ys
match_position R g h a b xs ys m ab all =
    let place = match_place R g h a b xs ys m ab all in
    ap (λ p. cond (nat_lt p (length xs)) (Some p) None) place.0 ∙ ap (λ n. let p = position_or_len (is_same_id b) ys in cond (nat_lt p n) (Some p) None) place.1

match_shown : (R : Id → Id → Type 0) (g h : Graph) (v w : Val) (xs ys : List Id) → IsMatch R g h → MatchValues R v w → MatchIds R xs ys → shown xs v ≡ shown ys w
match_shown R g h Null Null xs ys m vw all = refl
match_shown R g h (Int n) (Int k) xs ys m vw all = ap Number vw
match_shown R g h (Ref a) (Ref b) xs ys m vw all = ap (λ o. Object (unwrap_or o 0)) (match_position R g h a b xs ys m vw all)
match_shown R g h Null (Int k) xs ys m vw all = absurd vw
match_shown R g h Null (Ref b) xs ys m vw all = absurd vw
match_shown R g h (Int n) Null xs ys m vw all = absurd vw
match_shown R g h (Int n) (Ref b) xs ys m vw all = absurd vw
match_shown R g h (Ref a) Null xs ys m vw all = absurd vw
match_shown R g h (Ref a) (Int k) xs ys m vw all = absurd vw

match_row : (R : Id → Id → Type 0) (g h : Graph) (vs ws : List Val) (xs ys : List Id) → IsMatch R g h → MatchRows R vs ws → MatchIds R xs ys → map (shown xs) vs ≡ map (shown ys) ws
match_row R g h [] [] xs ys m rows all = refl
match_row R g h [] (w ∷ ws) xs ys m rows all = absurd rows
match_row R g h (v ∷ vs) [] xs ys m rows all = absurd rows
match_row R g h (v ∷ vs) (w ∷ ws) xs ys m rows all =
    ap (λ s. s ∷ map (shown xs) vs) (match_shown R g h v w xs ys m rows.0 all) ∙ ap (λ ss. shown ys w ∷ ss) (match_row R g h vs ws xs ys m rows.1 all)

match_rows_of : (R : Id → Id → Type 0) (g h : Graph) (xs ys ks js : List Id) → IsMatch R g h → MatchIds R xs ys → MatchIds R ks js → rows_of g xs ks ≡ rows_of h ys js
match_rows_of R g h xs ys [] [] m all some = refl
match_rows_of R g h xs ys [] (b ∷ js) m all some = absurd some
match_rows_of R g h xs ys (a ∷ ks) [] m all some = absurd some
match_rows_of R g h xs ys (a ∷ ks) (b ∷ js) m all some =
    ap (λ r. r ∷ rows_of g xs ks) (match_row R g h (fields g a) (fields h b) xs ys m (match_rows R g h a b m some.0) all)
    ∙ ap (λ rs. map (shown ys) (fields h b) ∷ rs) (match_rows_of R g h xs ys ks js m all some.1)

row_target : (R : Id → Id → Type 0) (vs ws : List Val) (i : ℕ) (a : Id) → MatchRows R vs ws → slice_get vs i ≡ Some (Ref a) → (b : Id) × R a b
row_target R [] ws i a rows is = cc
row_target R (v ∷ vs) [] i a rows is = absurd rows
row_target R (v ∷ vs) (w ∷ ws) (suc i) a rows is = row_target R vs ws i a rows.1 is
row_target R (v ∷ vs) (Null ∷ ws) zero a rows is = let Matched : Val → Type 0 = λ x. MatchValues R x Null in absurd (subst Matched (same_Some v (Ref a) is) rows.0)
row_target R (v ∷ vs) (Int n ∷ ws) zero a rows is = let Matched : Val → Type 0 = λ x. MatchValues R x (Int n) in absurd (subst Matched (same_Some v (Ref a) is) rows.0)
row_target R (v ∷ vs) (Ref b ∷ ws) zero a rows is = let Matched : Val → Type 0 = λ x. MatchValues R x (Ref b) in (b, subst Matched (same_Some v (Ref a) is) rows.0)

row_source : (R : Id → Id → Type 0) (vs ws : List Val) (i : ℕ) (b : Id) → MatchRows R vs ws → slice_get ws i ≡ Some (Ref b) → (a : Id) × R a b
row_source R [] [] i b rows is = cc
row_source R [] (w ∷ ws) i b rows is = absurd rows
row_source R (v ∷ vs) [] i b rows is = cc
row_source R (v ∷ vs) (w ∷ ws) (suc i) b rows is = row_source R vs ws i b rows.1 is
row_source R (Null ∷ vs) (w ∷ ws) zero b rows is = let Matched : Val → Type 0 = λ x. MatchValues R Null x in absurd (subst Matched (same_Some w (Ref b) is) rows.0)
row_source R (Int n ∷ vs) (w ∷ ws) zero b rows is = let Matched : Val → Type 0 = λ x. MatchValues R (Int n) x in absurd (subst Matched (same_Some w (Ref b) is) rows.0)
row_source R (Ref a ∷ vs) (w ∷ ws) zero b rows is = let Matched : Val → Type 0 = λ x. MatchValues R (Ref a) x in (a, subst Matched (same_Some w (Ref b) is) rows.0)

-- what is reached in the one graph matches some object of the other
pub match_there : (R : Id → Id → Type 0) (g h : Graph) (a : Id) → IsMatch R g h → Reached g a → (b : Id) × R a b
match_there R g h a m at_root = (root, m.roots)
match_there R g h a m (along {id = x} i target reached is) =
    let there = match_there R g h x m reached in
    row_target R (fields g x) (fields h there.0) i a (match_rows R g h x there.0 m there.1) is

-- and the other way round
pub match_here : (R : Id → Id → Type 0) (g h : Graph) (b : Id) → IsMatch R g h → Reached h b → (a : Id) × R a b
match_here R g h b m at_root = (root, m.roots)
match_here R g h b m (along {id = y} i target reached is) =
    let here = match_here R g h y m reached in
    row_source R (fields g here.0) (fields h y) i b (match_rows R g h here.0 y m here.1) is

-- graphs whose objects match have all that is reached
pub match_whole : (R : Id → Id → Type 0) (g h : Graph) → IsMatch R g h → IsWhole g × IsWhole h
match_whole R g h m = (
  λ a reached. let there = match_there R g h a m reached in let objects = m.objects a there.0 there.1 in (objects.one, objects.here),
  λ b reached. let here = match_here R g h b m reached in let objects = m.objects here.0 b here.1 in (objects.other, objects.there),
)

-- graphs whose objects match have one canon
pub canon_match : (R : Id → Id → Type 0) (g h : Graph) → IsMatch R g h → canon g ≡ canon h
canon_match R g h m =
    let whole = match_whole R g h m in
    let turns = len g + len h in
    let all = match_visit R g h turns 0 (Some root) (Some root) (root ∷ []) (root ∷ []) m m.roots (m.roots, tt) in
    let Here : List Id → Type 0 = λ xs. MatchIds R xs (visit h turns 0 (Some root) (root ∷ [])) in
    let There : List Id → Type 0 = λ ys. MatchIds R (numbered g) ys in
    let numbers = subst There (enough_turns h turns whole.1 (omega arith)) (subst Here (enough_turns g turns whole.0 (omega arith)) all) in
    match_rows_of R g h (numbered g) (numbered h) (numbered g) (numbered h) m numbers numbers
