-- Laws of the visits of a canon: when all turns are made, what each numbered object refers to has a number.
use Rattle.std.proofs.Common.{◌≡◌, ℕ, zero, suc, ◌+◌, ◌≤◌, ◌<◌, inl, inr, Bool, true, false, List, [], ◌∷◌, ◌++◌, length, Option, Some, None, refl, sym, ap, ◌∙◌, subst, arith, append-nil, append_assoc}
use Rattle.std.specs.Prelude.{◌||◌, slice_get, if◌then◌else◌}
use Rattle.std.specs.List.{list_any}
use Rattle.std.specs.FinMap.{len}
use Rattle.std.proofs.lemmas.Bool.{cases_order}
use Rattle.std.proofs.lemmas.Option.{same_Some, slice_get_within}
use Rattle.graph_model.specs.declared.id.Id.{Id}
use Rattle.graph_model.specs.declared.val.Val.{Val}
use Rattle.graph_model.specs.declared.val.Val.TheVariants.{Null, Int, Ref}
use Rattle.graph_model.specs.Graph.{Graph, is_same_id, root, fields}
use Rattle.graph_model.specs.Canon.{with_target, with_targets, visit, numbered}
use Rattle.graph_model.proofs.Whole.Graph.{same_id}
use Rattle.graph_model.specs.ClosedGraph.{IsWhole}
use Rattle.graph_model.proofs.Canon.Visits.{AreVisited, visited_next, at_first, no_more}

-- an id has a number
abbrev pub IsNumbered : List Id → Id → Type 0
IsNumbered ids id = (k : ℕ) × (slice_get ids k ≡ Some id)

-- the objects that these fields refer to have numbers
abbrev pub AreNumbered : List Id → List Val → Type 0
AreNumbered ids vs = (j : ℕ) (target : Id) → slice_get vs j ≡ Some (Ref target) → IsNumbered ids target

added_grows : (t : Bool) (ids : List Id) (id : Id) → (rest : List Id) × ((if t then ids else ids ++ id ∷ []) ≡ ids ++ rest)
added_grows true ids id = ([], sym (append-nil ids))
added_grows false ids id = (id ∷ [], refl)

target_grows : (ids : List Id) (v : Val) → (rest : List Id) × (with_target ids v ≡ ids ++ rest)
target_grows ids Null = ([], sym (append-nil ids))
target_grows ids (Int n) = ([], sym (append-nil ids))
target_grows ids (Ref id) = added_grows (list_any (is_same_id id) ids) ids id

-- what is numbered with fields continues from what was numbered
pub targets_grow : (ids : List Id) (vs : List Val) → (rest : List Id) × (with_targets ids vs ≡ ids ++ rest)
targets_grow ids [] = ([], sym (append-nil ids))
targets_grow ids (v ∷ vs) =
    let one = target_grows ids v in
    let more = targets_grow (with_target ids v) vs in
    (one.0 ++ more.0, more.1 ∙ ap (λ xs. xs ++ more.0) one.1 ∙ append_assoc ids one.0 more.0)

-- so do visits
pub visit_grows : (g : Graph) (turns i : ℕ) (next : Option Id) (ids : List Id) → (rest : List Id) × (visit g turns i next ids ≡ ids ++ rest)
visit_grows g zero i next ids = ([], sym (append-nil ids))
visit_grows g (suc turns) i None ids = ([], sym (append-nil ids))
visit_grows g (suc turns) i (Some id) ids =
    let more = with_targets ids (fields g id) in
    let one = targets_grow ids (fields g id) in
    let later = visit_grows g turns (i + 1) (slice_get more (i + 1)) more in
    (one.0 ++ later.0, later.1 ∙ ap (λ xs. xs ++ later.0) one.1 ∙ append_assoc ids one.0 later.0)

get_front : (ids rest : List Id) (k : ℕ) → k < length ids → slice_get (ids ++ rest) k ≡ slice_get ids k
get_front [] rest k within = absurd (omega arith)
get_front (x ∷ ids) rest zero within = refl
get_front (x ∷ ids) rest (suc k) within = get_front ids rest k (omega arith)

number_stays : (ids rest : List Id) (id : Id) → IsNumbered ids id → IsNumbered (ids ++ rest) id
number_stays ids rest id (k, is) = (k, get_front ids rest k (slice_get_within ids k id is) ∙ is)

numbers_stay : (ids : List Id) (vs : List Val) (id : Id) → IsNumbered ids id → IsNumbered (with_targets ids vs) id
numbers_stay ids vs id has =
    let more = targets_grow ids vs in
    subst (λ (xs : List Id). IsNumbered xs id) (sym more.1) (number_stays ids more.0 id has)

number_behind : (x id : Id) (xs : List Id) → IsNumbered xs id → IsNumbered (x ∷ xs) id
number_behind x id xs (k, is) = (suc k, is)

number_cases : (x id : Id) (xs : List Id) (t : Bool) → is_same_id id x ≡ t → (t || list_any (is_same_id id) xs) ≡ true
    → (list_any (is_same_id id) xs ≡ true → IsNumbered xs id) → IsNumbered (x ∷ xs) id
number_cases x id xs true same some later = (zero, ap Some (sym (same_id id x same)))
number_cases x id xs false other some later = number_behind x id xs (later some)

any_number : (ids : List Id) (id : Id) → list_any (is_same_id id) ids ≡ true → IsNumbered ids id
any_number [] id is = cc
any_number (x ∷ xs) id is = number_cases x id xs (is_same_id id x) refl is (any_number xs id)

push_number : (ids : List Id) (id : Id) → IsNumbered (ids ++ id ∷ []) id
push_number [] id = (zero, refl)
push_number (x ∷ xs) id = let later = push_number xs id in (suc later.0, later.1)

added_number : (t : Bool) (ids : List Id) (id : Id) → list_any (is_same_id id) ids ≡ t → IsNumbered (if t then ids else ids ++ id ∷ []) id
added_number true ids id is = any_number ids id is
added_number false ids id is = push_number ids id

-- what fields refer to has a number once it was numbered
targets_numbered : (ids : List Id) (vs : List Val) → AreNumbered (with_targets ids vs) vs
targets_numbered ids [] j target is = cc
targets_numbered ids (v ∷ vs) (suc j) target is = targets_numbered (with_target ids v) vs j target is
targets_numbered ids (v ∷ vs) zero target is =
    let new = added_number (list_any (is_same_id target) ids) ids target refl in
    let here = subst (λ (x : Val). IsNumbered (with_target ids x) target) (sym (same_Some v (Ref target) is)) new in
    numbers_stay (with_target ids v) vs target here

-- of the numbered the first ones were gone over: what they refer to has a number
abbrev pub GoneOver : Graph → ℕ → List Id → Type 0
GoneOver g i ids = (k : ℕ) (id : Id) → k < i → slice_get ids k ≡ Some id → AreNumbered ids (fields g id)

over_next : (g : Graph) (i : ℕ) (id : Id) (ids : List Id) → slice_get ids i ≡ Some id → GoneOver g i ids → GoneOver g (i + 1) (with_targets ids (fields g id))
over_next g i id ids is over k x before here j target leads =
    let more = targets_grow ids (fields g id) in
    let within = slice_get_within ids i id is in
    let old : slice_get ids k ≡ Some x = sym (get_front ids more.0 k (omega arith)) ∙ ap (λ xs. slice_get xs k) (sym more.1) ∙ here in
    elim (cases_order k i) [
      | inl same ↦
          let one : x ≡ id = same_Some x id (sym old ∙ ap (slice_get ids) same ∙ is) in
          targets_numbered ids (fields g id) j target (ap (λ y. slice_get (fields g y) j) (sym one) ∙ leads)
      | inr (inl below) ↦ numbers_stay ids (fields g id) target (over k x below old j target leads)
      | inr (inr above) ↦ absurd (omega arith)
    ]

-- no id has a number past the last
pub none_past : (ids : List Id) (i : ℕ) → slice_get ids i ≡ None → length ids ≤ i
none_past [] i none = omega arith
none_past (x ∷ ids) zero none = cc
none_past (x ∷ ids) (suc i) none = let rest = none_past ids i none in omega arith

all_over : (g : Graph) (i : ℕ) (ids : List Id) → slice_get ids i ≡ None → GoneOver g i ids → GoneOver g (length ids) ids
all_over g i ids none over k id before = let past = none_past ids i none in over k id (omega arith)

-- once enough turns are made all that is numbered was gone over
visit_over : (g : Graph) (turns i : ℕ) (next : Option Id) (ids : List Id) → IsWhole g → AreVisited g ids → slice_get ids i ≡ next → len g ≤ i + turns
    → GoneOver g i ids → let all = visit g turns i next ids in GoneOver g (length all) all
visit_over g zero i None ids whole all is enough over = all_over g i ids is over
visit_over g zero i (Some id) ids whole all is enough over = absurd (no_more g i id ids whole all is (omega arith))
visit_over g (suc turns) i None ids whole all is enough over = all_over g i ids is over
visit_over g (suc turns) i (Some id) ids whole all is enough over =
    visit_over g turns (i + 1) _ _ whole (visited_next g ids i id is all) refl (omega arith) (over_next g i id ids is over)

-- what is numbered in the end was gone over
pub numbered_over : (g : Graph) → IsWhole g → GoneOver g (length (numbered g)) (numbered g)
numbered_over g whole = visit_over g (len g) 0 (Some root) (root ∷ []) whole (at_first g) refl (omega arith) (λ k id none. absurd (omega arith))
