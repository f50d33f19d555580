-- Laws of the places of objects in a graph that changes, and of the values that a transaction sees.
use Rattle.std.proofs.Common.{List, None, Some, [], ap, arith, inl, inr, is_some, length, length-set, map, refl, replicate, slice_set, suc, sym, zero, ℕ, ◌+◌, ◌-◌, ◌<◌, ◌∙◌, ◌∷◌, ◌≡◌, ◌≢◌, ◌≤◌}
use Rattle.std.proofs.Math.Path.{fun_ext}
use Rattle.std.specs.FinMap.{insert}
use Rattle.std.specs.List.{AllByRecursion}
use Rattle.heap_words.specs.Word.{bits}
use Rattle.heap_words.specs.declared.Word.{Word}
use Rattle.heap_words.specs.declared.Word.TheVariants as word
use Rattle.graph_model.specs.Graph.{Graph, fields, with_field}
use Rattle.graph_model.proofs.Whole.Graph.{fields-insert, fields-insert_other, fields_by_insert}
use Rattle.graph_model.specs.declared.id.Id.{Id}
use Rattle.graph_model.specs.declared.val.Val.{Val}
use Rattle.graph_model.specs.declared.val.Val.TheVariants.{Int, Null, Ref}
use Rattle.log_machine.proofs.ListLaws.{AllByRecursion-map}
use Rattle.graph_words.specs.Places.{IsAtHand, IsVisible, Places, address_of, area_used, bits_of, index_of, made_by, place_of, size_of, standing}
use Rattle.graph_words.proofs.Places.Addresses.{some_address}

-- The places of objects.

-- an object that has an address stands there
pub place_of-placed : (places : Places) (g : Graph) (id : Id) (at : ℕ) → address_of places id ≡ Some at → place_of places g id ≡ word.Stable at
place_of-placed places g id at is = ap (λ o. standing o (index_of g id)) is

-- another at its index
pub place_of-apart : (places : Places) (g : Graph) (id : Id) → address_of places id ≡ None → place_of places g id ≡ word.Volatile (index_of g id)
place_of-apart places g id is = ap (λ o. standing o (index_of g id)) is

-- as many words are taken by as many objects of the same lengths
pub area_used-same : (g h : Graph) (t n : ℕ) → ((k : ℕ) → 1 ≤ k → k ≤ n → length (fields h (made_by t k)) ≡ length (fields g (made_by t k))) → area_used h t n ≡ area_used g t n
area_used-same g h t zero same = refl
area_used-same g h t (suc n) same =
    let before = area_used-same g h t n (λ k first few. same k first (omega arith)) in
    let here = same (suc n) (omega arith) (omega arith) in omega arith

-- an object has the same index where those before it have the same lengths
pub index_of-same : (g h : Graph) (id : Id) → ((k : ℕ) → 1 ≤ k → k < id.k → length (fields h (made_by id.t k)) ≡ length (fields g (made_by id.t k))) → index_of h id ≡ index_of g id
index_of-same g h id same = area_used-same g h id.t (id.k - 1) (λ k first few. same k first (omega arith))

-- an object of the same index stands where it did
pub place_of-same_index : (places : Places) (g h : Graph) (id : Id) → index_of h id ≡ index_of g id → place_of places h id ≡ place_of places g id
place_of-same_index places g h id same = ap (standing (address_of places id)) same

-- where lengths stay all objects stand where they did
pub place_of-same_lengths : (places : Places) (g h : Graph) → ((id : Id) → length (fields h id) ≡ length (fields g id)) → place_of places h ≡ place_of places g
place_of-same_lengths places g h same =
    fun_ext (λ id. place_of-same_index places g h id (index_of-same g h id (λ k first few. same (made_by id.t k))))

-- a write changes no length
pub length-with_field : (g : Graph) (id : Id) (i : ℕ) (v : Val) (q : Id) → length (fields (with_field g id i v) q) ≡ length (fields g q)
length-with_field g id i v q = fields_by_insert (λ us. length us ≡ length (fields g q)) g id q (slice_set (fields g id) i v)
    (λ same. length-set (fields g id) i v ∙ ap (λ x. length (fields g x)) (sym same)) (λ other. refl)

-- so all objects stand where they did
pub place_of-with_field : (places : Places) (g : Graph) (id : Id) (i : ℕ) (v : Val) → place_of places (with_field g id i v) ≡ place_of places g
place_of-with_field places g id i v = place_of-same_lengths places g (with_field g id i v) (length-with_field g id i v)

-- and the area's words are as many
pub area_used-with_field : (g : Graph) (id : Id) (i : ℕ) (v : Val) (t n : ℕ) → area_used (with_field g id i v) t n ≡ area_used g t n
area_used-with_field g id i v t n = area_used-same g (with_field g id i v) t n (λ k first few. length-with_field g id i v (made_by t k))

made_apart : (t k n : ℕ) → k < n → made_by t k ≢ made_by t n
made_apart t k n less same = let index = ap (λ (x : Id). x.k) same in omega arith

-- one more object leaves what those before take
pub area_used-insert : (g : Graph) (t made : ℕ) (vs : List Val) (n : ℕ) → n ≤ made → area_used (insert g (made_by t (made + 1)) vs) t n ≡ area_used g t n
area_used-insert g t made vs n few = area_used-same g (insert g (made_by t (made + 1)) vs) t n
    (λ k first less. ap length (fields-insert_other g (made_by t (made + 1)) (made_by t k) vs (made_apart t k (made + 1) (omega arith))))

-- and takes its own words after them
pub area_used-new : (g : Graph) (t made : ℕ) (vs : List Val) → area_used (insert g (made_by t (made + 1)) vs) t (made + 1) ≡ area_used g t made + (2 + length vs)
area_used-new g t made vs =
    let next : made + 1 ≡ suc made = omega arith in
    let h = insert g (made_by t (made + 1)) vs in
    ap (area_used h t) next
    ∙ ap (λ x. x + size_of h (made_by t (suc made))) (area_used-insert g t made vs made (omega arith))
    ∙ ap (λ x. area_used g t made + size_of h (made_by t x)) (sym next)
    ∙ ap (λ us. area_used g t made + (2 + length us)) (fields-insert g (made_by t (made + 1)) vs)

-- What a transaction sees.

-- an object at hand stands in the space, where nothing was made
pub committed_address : (places : Places) (id : Id) → IsAtHand places 0 0 id → (at : ℕ) × (address_of places id ≡ Some at)
committed_address places id (inl there) = some_address (address_of places id) there
committed_address places id (inr own) = let first = own.first in let last = own.last in absurd (omega arith)

-- an object that stands in the space is at hand
pub placed_at_hand : (places : Places) (t made : ℕ) (id : Id) (at : ℕ) → address_of places id ≡ Some at → IsAtHand places t made id
placed_at_hand places t made id at is = inl (ap is_some is)

-- what is at hand where nothing was made is at hand
pub committed_at_hand : (places : Places) (t made : ℕ) (id : Id) → IsAtHand places 0 0 id → IsAtHand places t made id
committed_at_hand places t made id at_hand = let there = committed_address places id at_hand in placed_at_hand places t made id there.0 there.1

-- and stays so when more is made
pub more_at_hand : (places : Places) (t made more : ℕ) → made ≤ more → (id : Id) → IsAtHand places t made id → IsAtHand places t more id
more_at_hand places t made more longer id (inl there) = inl there
more_at_hand places t made more longer id (inr own) = let last = own.last in inr (record { maker = own.maker; first = own.first; last = omega arith })

-- a value is seen here and there, where the objects at hand here are so there
pub visible_on : (places : Places) (t made u more : ℕ) → ((id : Id) → IsAtHand places t made id → IsAtHand places u more id) → (v : Val) → IsVisible places t made v → IsVisible places u more v
visible_on places t made u more on Null seen = tt
visible_on places t made u more on (Int n) seen = seen
visible_on places t made u more on (Ref id) seen = on id seen

-- what is seen where nothing was made is seen
pub committed_visible : (places : Places) (t made : ℕ) (vs : List Val) → AllByRecursion (IsVisible places 0 0) vs → AllByRecursion (IsVisible places t made) vs
committed_visible places t made vs seen =
    AllByRecursion-map (IsVisible places 0 0) (IsVisible places t made) vs (visible_on places 0 0 t made (committed_at_hand places t made)) seen

-- and stays so when more is made
pub more_visible : (places : Places) (t made more : ℕ) (vs : List Val) → made ≤ more → AllByRecursion (IsVisible places t made) vs → AllByRecursion (IsVisible places t more) vs
more_visible places t made more vs longer seen =
    AllByRecursion-map (IsVisible places t made) (IsVisible places t more) vs (visible_on places t made t more (more_at_hand places t made more longer)) seen

-- values are seen when one of them is written
pub set_visible : (places : Places) (t made : ℕ) (vs : List Val) (i : ℕ) (v : Val) → IsVisible places t made v → AllByRecursion (IsVisible places t made) vs
    → AllByRecursion (IsVisible places t made) (slice_set vs i v)
set_visible places t made [] i v one seen = tt
set_visible places t made (u ∷ vs) zero v one seen = (one, seen.1)
set_visible places t made (u ∷ vs) (suc i) v one seen = (seen.0, set_visible places t made vs i v one seen.1)

-- null values are seen
pub nulls_visible : (places : Places) (t made n : ℕ) → AllByRecursion (IsVisible places t made) (replicate n Null)
nulls_visible places t made zero = tt
nulls_visible places t made (suc n) = (tt, nulls_visible places t made n)

-- their words are 0
pub nulls_bits : (place : Id → Word) (n : ℕ) → map (bits_of place) (replicate n Null) ≡ replicate n 0
nulls_bits place zero = refl
nulls_bits place (suc n) = ap (λ ws. 0 ∷ ws) (nulls_bits place n)

-- what is at hand stands in the same places
abbrev pub StandsAsBefore : Places → ℕ → ℕ → (Id → Word) → (Id → Word) → Type 0
StandsAsBefore places t made place other = (id : Id) → IsAtHand places t made id → other id ≡ place id

-- a value that is seen has one word then
pub bits_of-same : (places : Places) (t made : ℕ) (place other : Id → Word) → StandsAsBefore places t made place other → (v : Val) → IsVisible places t made v → bits_of other v ≡ bits_of place v
bits_of-same places t made place other same Null seen = refl
bits_of-same places t made place other same (Int n) seen = refl
bits_of-same places t made place other same (Ref id) seen = ap bits (same id seen)

-- the same for several
pub map_bits_of-same : (places : Places) (t made : ℕ) (place other : Id → Word) → StandsAsBefore places t made place other → (vs : List Val) → AllByRecursion (IsVisible places t made) vs
    → map (bits_of other) vs ≡ map (bits_of place) vs
map_bits_of-same places t made place other same [] seen = refl
map_bits_of-same places t made place other same (v ∷ vs) seen =
    ap (λ w. w ∷ map (bits_of other) vs) (bits_of-same places t made place other same v seen.0)
    ∙ ap (λ ws. bits_of place v ∷ ws) (map_bits_of-same places t made place other same vs seen.1)
