-- Laws of the objects that a transaction has made, as its graph has them.
use Rattle.std.proofs.Common.{List, None, Some, [], ap, arith, length, refl, subst, sym, unwrap_or, ℕ, ◌∙◌, ◌≡◌, ◌≢◌, ◌≤◌}
use Rattle.std.specs.FinMap.{get}
use Rattle.std.specs.List.{AllByRecursion}
use Rattle.graph_model.specs.Graph.{Graph, fields}
use Rattle.graph_model.specs.declared.id.Id.{Id}
use Rattle.graph_model.specs.declared.val.Val.{Val}
use Rattle.graph_words.specs.Area.{HasMade}
use Rattle.graph_words.specs.Places.{IsOwn, IsVisible, Places, address_of, made_by}
use Rattle.graph_words.proofs.Places.Addresses.{own_made}

the_fields : (g : Graph) (id : Id) (vs : List Val) → get g id ≡ Some vs → fields g id ≡ vs
the_fields g id vs is = ap (λ o. unwrap_or o []) is

-- one that was made is in the graph
pub made_get : {places : Places} {g : Graph} {t made : ℕ} → HasMade places g t made → (k : ℕ) → 1 ≤ k → k ≤ made → get g (made_by t k) ≡ Some (fields g (made_by t k))
made_get {g = g} {t = t} has k first last = let one = has.each k first last in one.is ∙ ap Some (sym (the_fields g (made_by t k) one.values one.is))

-- with a length that a header can hold
pub made_short : {places : Places} {g : Graph} {t made : ℕ} → HasMade places g t made → (k : ℕ) → 1 ≤ k → k ≤ made → length (fields g (made_by t k)) ≤ 510
made_short {g = g} {t = t} has k first last = let one = has.each k first last in let short = one.short in omega (arith, ap length (the_fields g (made_by t k) one.values one.is))

-- and values that are seen
pub made_visible : {places : Places} {g : Graph} {t made : ℕ} → HasMade places g t made → (k : ℕ) → 1 ≤ k → k ≤ made → AllByRecursion (IsVisible places t made) (fields g (made_by t k))
made_visible {places} {g} {t} {made} has k first last =
    let one = has.each k first last in
    subst (AllByRecursion (IsVisible places t made)) (sym (the_fields g (made_by t k) one.values one.is)) one.visible

-- The same of an object that names its maker.

-- it is in the graph
pub own_get : {places : Places} {g : Graph} {t made : ℕ} {id : Id} → HasMade places g t made → IsOwn t made id → get g id ≡ Some (fields g id)
own_get {g = g} {t} {made} {id} has own = subst (λ (x : Id). get g x ≡ Some (fields g x)) (sym (own_made t made id own)) (made_get has id.k own.first own.last)

-- with a length that a header can hold
pub own_short : {places : Places} {g : Graph} {t made : ℕ} {id : Id} → HasMade places g t made → IsOwn t made id → length (fields g id) ≤ 510
own_short {g = g} {t} {made} {id} has own = subst (λ (x : Id). length (fields g x) ≤ 510) (sym (own_made t made id own)) (made_short has id.k own.first own.last)

-- and values that are seen
pub own_visible : {places : Places} {g : Graph} {t made : ℕ} {id : Id} → HasMade places g t made → IsOwn t made id → AllByRecursion (IsVisible places t made) (fields g id)
own_visible {places} {g} {t} {made} {id} has own =
    subst (λ (x : Id). AllByRecursion (IsVisible places t made) (fields g x)) (sym (own_made t made id own)) (made_visible has id.k own.first own.last)

-- it does not stand in the space
pub own_apart : {places : Places} {g : Graph} {t made : ℕ} {id : Id} → HasMade places g t made → IsOwn t made id → address_of places id ≡ None
own_apart {places} {g} {t} {made} {id} has own = ap (address_of places) (own_made t made id own) ∙ has.apart id.k

-- so it is none that does
pub own_other : {places : Places} {g : Graph} {t made : ℕ} {id : Id} → HasMade places g t made → IsOwn t made id → (q : Id) (at : ℕ) → address_of places q ≡ Some at → q ≢ id
own_other {places} has own q at is same = let clash = sym (own_apart has own) ∙ ap (address_of places) (sym same) ∙ is in cc

-- none that was made is one that stands in the space
pub made_other : {places : Places} {g : Graph} {t made : ℕ} → HasMade places g t made → (k : ℕ) (id : Id) (at : ℕ) → address_of places id ≡ Some at → made_by t k ≢ id
made_other {places} has k id at is same = let clash = sym (has.apart k) ∙ ap (address_of places) same ∙ is in cc

-- the kth is one of those that were made
pub made_own : (t made k : ℕ) → 1 ≤ k → k ≤ made → IsOwn t made (made_by t k)
made_own t made k first last = record { maker = refl; first = first; last = last }
