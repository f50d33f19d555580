-- The numbering of a canon is one: all that is reached, each once, the root first, breadth first; and its rows go by number.
use Rattle.std.proofs.Common.{◌≡◌, ℕ, zero, suc, ◌+◌, ◌<◌, ◌≤◌, Bool, true, false, cond, get_or, unwrap_or, List, [], ◌∷◌, ◌++◌, length, map, take, Option, Some, None, Contains, option_map, refl, sym, ap, ◌∙◌, arith}
use Rattle.std.specs.Prelude.{slice_get, nat_lt}
use Rattle.std.specs.List.{AllByRecursion, IsDistinct, position_or_len}
use Rattle.std.specs.FinMap.{len}
use Rattle.std.proofs.lemmas.List.{map-append, take-append-le, take_all}
use Rattle.std.proofs.lemmas.List.Elements.{All-contains}
use Rattle.std.proofs.lemmas.Bool.{lt-ltb}
use Rattle.std.proofs.lemmas.List.Sums.{position_or_len_is}
use Rattle.std.proofs.lemmas.Option.{same_Some, slice_get-map, slice_get_within, slice_get-get_or, get_or_from_slice_get}
use Rattle.graph_model.specs.declared.id.Id.{Id}
use Rattle.graph_model.specs.declared.val.Val.{Val}
use Rattle.graph_model.specs.declared.val.Val.TheVariants.{Ref}
use Rattle.graph_model.specs.Graph.{Graph, is_same_id, root, fields}
use Rattle.graph_model.specs.Canon.{Reached, at_root, along, with_targets, visit, numbered, Object, shown, canon}
use Rattle.graph_model.proofs.Canon.Numbers.{numbered-Reached, numbered-IsDistinct}
use Rattle.graph_model.proofs.Whole.Graph.{same_id, itself}
use Rattle.graph_model.specs.ClosedGraph.{IsWhole}
use Rattle.graph_model.specs.Numbering.{with_rows, IsNumbering}
use Rattle.graph_model.proofs.Canon.Visits.{AreVisited, visited_next, at_first, no_more}
use Rattle.graph_model.proofs.Runs.Over.{IsNumbered, targets_grow, visit_grows, none_past, numbered_over}

-- the root has the number 0
pub numbered_first : (g : Graph) → slice_get (numbered g) 0 ≡ Some root
numbered_first g = let all = visit_grows g (len g) 0 (Some root) (root ∷ []) in ap (λ ids. slice_get ids 0) all.1

-- what is reached has a number
pub reached_numbered : (g : Graph) (id : Id) → IsWhole g → Reached g id → IsNumbered (numbered g) id
reached_numbered g id whole at_root = (0, numbered_first g)
reached_numbered g id whole (along {id = x} i target reached leads) =
    let has = reached_numbered g x whole reached in
    numbered_over g whole has.0 x (slice_get_within (numbered g) has.0 x has.1) has.1 i target leads

contains_number : (ids : List Id) (k : ℕ) (id : Id) → slice_get ids k ≡ Some id → Contains ids id
contains_number ids k id is = (k, slice_get_within ids k id is, get_or_from_slice_get ids k id id is)

-- what has a number is reached
pub number_reached : (g : Graph) (k : ℕ) (id : Id) → slice_get (numbered g) k ≡ Some id → Reached g id
number_reached g k id is = All-contains (Reached g) (numbered g) id (numbered-Reached g) (contains_number (numbered g) k id is)

not_behind : (x id : Id) (xs : List Id) (k : ℕ) → AllByRecursion (λ y. is_same_id x y ≡ false) xs → slice_get xs k ≡ Some id → x ≡ id → ⊥
not_behind x id [] k all is same = cc
not_behind x id (y ∷ xs) zero all is same = let clash = sym all.0 ∙ ap (is_same_id x) (same_Some y id is ∙ sym same) ∙ itself x in cc
not_behind x id (y ∷ xs) (suc k) all is same = not_behind x id xs k all.1 is same

distinct_once : (ids : List Id) (i j : ℕ) (id : Id) → IsDistinct is_same_id ids → slice_get ids i ≡ Some id → slice_get ids j ≡ Some id → i ≡ j
unfolding IsDistinct
distinct_once [] i j id distinct one other = cc
distinct_once (x ∷ xs) zero zero id distinct one other = refl
distinct_once (x ∷ xs) zero (suc j) id distinct one other = absurd (not_behind x id xs j distinct.0 other (same_Some x id one))
distinct_once (x ∷ xs) (suc i) zero id distinct one other = absurd (not_behind x id xs i distinct.0 one (same_Some x id other))
distinct_once (x ∷ xs) (suc i) (suc j) id distinct one other = ap suc (distinct_once xs i j id distinct.1 one other)

-- an id has one number
pub number_once : (g : Graph) (i j : ℕ) (id : Id) → slice_get (numbered g) i ≡ Some id → slice_get (numbered g) j ≡ Some id → i ≡ j
number_once g i j id = distinct_once (numbered g) i j id (numbered-IsDistinct g)

rows_push : (ids : List Id) (rows : List (List Val)) (vs : List Val) → with_rows ids (rows ++ vs ∷ []) ≡ with_targets (with_rows ids rows) vs
rows_push ids [] vs = refl
rows_push ids (us ∷ rows) vs = rows_push (with_targets ids us) rows vs

take_next : (ids : List Id) (i : ℕ) (id : Id) → slice_get ids i ≡ Some id → take (suc i) ids ≡ take i ids ++ id ∷ []
take_next [] i id is = cc
take_next (x ∷ ids) zero id is = ap (λ y. y ∷ []) (same_Some x id is)
take_next (x ∷ ids) (suc i) id is = ap (λ xs. x ∷ xs) (take_next ids i id is)

-- the numbered ids are those that the rows before this one refer to
abbrev AreMetBy : Graph → ℕ → List Id → Type 0
AreMetBy g i ids = ids ≡ with_rows (root ∷ []) (map (fields g) (take i ids))

met_next : (g : Graph) (i : ℕ) (id : Id) (ids : List Id) → slice_get ids i ≡ Some id → AreMetBy g i ids → AreMetBy g (i + 1) (with_targets ids (fields g id))
met_next g i id ids is met =
    let more = targets_grow ids (fields g id) in
    let within = slice_get_within ids i id is in
    let next : i + 1 ≡ suc i = omega arith in
    let enough : suc i ≤ length ids = omega arith in
    let front : take (i + 1) (with_targets ids (fields g id)) ≡ take i ids ++ id ∷ [] =
    ap (λ n. take n (with_targets ids (fields g id))) next
    ∙ ap (take (suc i)) more.1
    ∙ take-append-le (suc i) ids more.0 enough
    ∙ take_next ids i id is in
    ap (λ xs. with_targets xs (fields g id)) met
    ∙ sym (rows_push (root ∷ []) (map (fields g) (take i ids)) (fields g id))
    ∙ ap (with_rows (root ∷ [])) (sym (map-append (fields g) (take i ids) (id ∷ [])))
    ∙ ap (λ xs. with_rows (root ∷ []) (map (fields g) xs)) (sym front)

met_all : (g : Graph) (i : ℕ) (ids : List Id) → slice_get ids i ≡ None → AreMetBy g i ids → ids ≡ with_rows (root ∷ []) (map (fields g) ids)
met_all g i ids none met = met ∙ ap (λ xs. with_rows (root ∷ []) (map (fields g) xs)) (take_all i ids (none_past ids i none))

visit_met : (g : Graph) (turns i : ℕ) (next : Option Id) (ids : List Id) → IsWhole g → AreVisited g ids → slice_get ids i ≡ next → len g ≤ i + turns
    → AreMetBy g i ids → let all = visit g turns i next ids in all ≡ with_rows (root ∷ []) (map (fields g) all)
visit_met g zero i None ids whole all is enough met = met_all g i ids is met
visit_met g zero i (Some id) ids whole all is enough met = absurd (no_more g i id ids whole all is (omega arith))
visit_met g (suc turns) i None ids whole all is enough met = met_all g i ids is met
visit_met g (suc turns) i (Some id) ids whole all is enough met =
    visit_met g turns (i + 1) _ _ whole (visited_next g ids i id is all) refl (omega arith) (met_next g i id ids is met)

-- The canon's numbering is one: it has what is reached and nothing else, each once, the root first, in breadth-first order.
pub numbered-IsNumbering : (g : Graph) → IsWhole g → IsNumbering g (numbered g)
numbered-IsNumbering g whole = record {
  first = numbered_first g;
  exactly = λ id. (
    All-contains (Reached g) (numbered g) id (numbered-Reached g),
    λ reached. let has = reached_numbered g id whole reached in contains_number (numbered g) has.0 id has.1,
  );
  once = number_once g;
  breadth_first = visit_met g (len g) 0 (Some root) (root ∷ []) whole (at_first g) refl (omega arith) refl;
}

-- The rows of the canon are in the order of the numbers: row k has the fields of the object whose number is k.
pub canon_row : (g : Graph) (k : ℕ) → slice_get (canon g) k ≡ option_map (λ id. map (shown (numbered g)) (fields g id)) (slice_get (numbered g) k)
canon_row g k = slice_get-map (λ id. map (shown (numbered g)) (fields g id)) (numbered g) k

test_before : (g : Graph) (k m : ℕ) (id x : Id) (t : Bool) → is_same_id id x ≡ t → m < k → slice_get (numbered g) k ≡ Some id → slice_get (numbered g) m ≡ Some x → t ≡ false
test_before g k m id x false test before is there = refl
test_before g k m id x true test before is there =
    let one : k ≡ m = number_once g k m id is (there ∙ ap Some (sym (same_id id x test))) in absurd (omega arith)

-- the place of an id among the numbered is its number
pub place_of_number : (g : Graph) (k : ℕ) (id : Id) → slice_get (numbered g) k ≡ Some id → position_or_len (is_same_id id) (numbered g) ≡ k
place_of_number g k id is =
    let within = slice_get_within (numbered g) k id is in
    position_or_len_is (is_same_id id) (numbered g) k id (omega arith)
    (λ m before. let there : m < length (numbered g) = omega arith in
    test_before g k m id (get_or (numbered g) m id) _ refl before is (slice_get-get_or (numbered g) m id there))
    (λ _. ap (is_same_id id) (get_or_from_slice_get (numbered g) k id id is) ∙ itself id)

-- A reference is shown as the number of its object.
pub shown_reference : (g : Graph) (k : ℕ) (id : Id) → slice_get (numbered g) k ≡ Some id → shown (numbered g) (Ref id) ≡ Object k
shown_reference g k id is =
    let within = slice_get_within (numbered g) k id is in
    ap (λ p. Object (unwrap_or (cond (nat_lt p (length (numbered g))) (Some p) None) 0)) (place_of_number g k id is)
    ∙ ap (λ t. Object (unwrap_or (cond t (Some k) None) 0)) (lt-ltb k (length (numbered g)) within)
