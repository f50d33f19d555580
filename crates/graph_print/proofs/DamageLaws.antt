-- Damage is reported at one address only, and at none if a graph is seen.
use Rattle.std.proofs.Common.{◌≡◌, ℕ, zero, suc, ◌<◌, inl, inr, List, [], ◌∷◌, map, Option, Some, None, refl, sym, ap, ◌∙◌, subst, arith}
use Rattle.std.specs.Prelude.{slice_get, IsSome}
use Rattle.std.specs.Option.{option_and_then}
use Rattle.std.proofs.lemmas.Option.{same_Some}
use Rattle.std.proofs.lemmas.Bool.{cases_order}
use Rattle.heap_words.specs.declared.Word.{Word}
use Rattle.heap_words.specs.declared.Word.TheVariants as word
use Rattle.heap_words.specs.Word.{meaning}
use Rattle.graph_model.specs.declared.id.Id.{Id}
use Rattle.graph_model.specs.declared.val.Val.{Val}
use Rattle.graph_model.specs.Graph.{Graph}
use Rattle.object_layout.specs.Layout.{field_words, stand, as_ref, value, IsSeenAs}
use Rattle.graph_print.specs.Order.{with_places, targets, IsWholeField, AreWhole, IsOrder, first, next, IsDamage, no_root, no_object}
use Rattle.graph_print.proofs.OrderLaws.{order_met, met_get}

-- the order is unique at each count
pub order_one : (words : List ℕ) (start c d : ℕ) (p q : List ℕ) → c ≡ d → IsOrder words start c p → IsOrder words start d q → p ≡ q
order_one words start c d p q same (first {at = a} is) (first {at = b} is') = ap (λ x. x ∷ []) (same_Some a b (sym is ∙ is'))
order_one words start c d p q same (first is) (next at order is' whole) = absurd (omega arith)
order_one words start c d p q same (next at order is whole) (first is') = absurd (omega arith)
order_one words start c d p q same (next {count = n} {places = ps} a order is whole) (next {count = m} {places = qs} b order' is' whole') =
    let counts : n ≡ m = omega arith in
    let places = order_one words start n m ps qs counts order order' in
    let one : a ≡ b = same_Some a b (sym is ∙ ap (slice_get ps) counts ∙ ap (λ xs. slice_get xs m) places ∙ is') in
    ap (λ xs. with_places xs (targets words (field_words words a))) places ∙ ap (λ x. with_places qs (targets words (field_words words x))) one

-- an object that an order has visited
pub record WasVisited (words : List ℕ) (start count : ℕ) : Type 0 where
  pub places : List ℕ
  pub at : ℕ
  pub order : IsOrder words start count places
  pub is : slice_get places count ≡ Some at
  pub whole : AreWhole words (field_words words at)

-- an order has visited each object before its count
pub order_visited : (words : List ℕ) (start c d : ℕ) (p : List ℕ) → IsOrder words start c p → d < c → WasVisited words start d
order_visited words start c d p (first is) less = absurd (omega arith)
order_visited words start c d p (next {count = n} {places = ps} at order is whole) less = elim (cases_order d n) [
  | inl same ↦ let Visited : ℕ → Type 0 = λ k. WasVisited words start k in subst Visited (sym same) (record { places = ps; at = at; order = order; is = is; whole = whole })
  | inr (inl below) ↦ order_visited words start n d ps order below
  | inr (inr above) ↦ absurd (omega arith)
]

-- where an order has reached an object stands
pub order_root : (words : List ℕ) (start count : ℕ) (places : List ℕ) → IsOrder words start count places → (at : ℕ) × (stand words start ≡ Some at)
order_root words start count places (first {at = at} is) = (at, is)
order_root words start count places (next {count = n} {places = ps} at order is whole) = order_root words start n ps order

visited_whole : (words : List ℕ) (start c d : ℕ) (p q : List ℕ) (at : ℕ) → IsOrder words start c p → slice_get p c ≡ Some at → IsOrder words start d q → c < d → AreWhole words (field_words words at)
visited_whole words start c d p q at order is later less =
    let visited = order_visited words start d c q later less in
    let places = order_one words start c c p visited.places refl order visited.order in
    let one : visited.at ≡ at = same_Some visited.at at (sym visited.is ∙ ap (λ xs. slice_get xs c) (sym places) ∙ is) in
    subst (λ (x : ℕ). AreWhole words (field_words words x)) one visited.whole

-- once all are visited there is no damage
pub complete_damage : (words : List ℕ) (start count : ℕ) (places : List ℕ) (at : ℕ) → IsOrder words start count places → slice_get places count ≡ None → IsDamage words start at → ⊥
complete_damage words start count places at order over (no_root none) =
    let root = order_root words start count places order in let clash = sym none ∙ root.1 in cc
complete_damage words start count places at order over (no_object {count = d} {places = q} x order' is out) =
    elim (cases_order d count) [
      | inl same ↦
          let same_places = order_one words start d count q places same order' order in
          let clash = sym over ∙ ap (λ xs. slice_get xs count) (sym same_places) ∙ ap (slice_get q) (sym same) ∙ is in cc
      | inr (inl less) ↦ out (visited_whole words start d count q places at order' is order less)
      | inr (inr more) ↦
          let visited = order_visited words start d count q order' more in
          let same_places = order_one words start count count places visited.places refl order visited.order in
          let clash = sym over ∙ ap (λ xs. slice_get xs count) same_places ∙ visited.is in cc
    ]

some_place : (name : ℕ → Id) (o : Option ℕ) (v : Val) → option_and_then (as_ref name) o ≡ Some v → IsSome o
some_place name None v is = cc
some_place name (Some b) v is = refl

value_whole : (name : ℕ → Id) (words : List ℕ) (meant : Option Word) (v : Val) → value name words meant ≡ Some v → IsWholeField words meant
value_whole name words None v is = cc
value_whole name words (Some word.Null) v is = tt
value_whole name words (Some (word.Int n)) v is = tt
value_whole name words (Some (word.Stable b)) v is = some_place name (stand words b) v is
value_whole name words (Some (word.Volatile k)) v is = cc

values_whole : (name : ℕ → Id) (words ws : List ℕ) (vs : List Val) → map (λ w. value name words (meaning w)) ws ≡ map Some vs → AreWhole words ws
values_whole name words [] vs is i w here = cc
values_whole name words (x ∷ ws) [] is i w here = cc
values_whole name words (x ∷ ws) (v ∷ vs) is zero w here =
    let same : value name words (meaning x) ≡ Some v = cc in
    subst (λ (y : ℕ). IsWholeField words (meaning y)) (same_Some x w here) (value_whole name words (meaning x) v same)
values_whole name words (x ∷ ws) (v ∷ vs) is (suc i) w here =
    let rest : map (λ y. value name words (meaning y)) ws ≡ map Some vs = cc in values_whole name words ws vs rest i w here

-- if a graph is seen there is none
pub seen_damage : (name : ℕ → Id) (words : List ℕ) (start : ℕ) (g : Graph) (at : ℕ) → IsSeenAs name words start g → IsDamage words start at → ⊥
seen_damage name words start g at seen (no_root none) = let clash = sym none ∙ seen.stands in cc
seen_damage name words start g at seen (no_object {count = c} {places = p} x order is out) =
    let known = seen.known at (met_get words start p c at (order_met words start c p order) is) in
    out (values_whole name words (field_words words at) known.fields known.values)
