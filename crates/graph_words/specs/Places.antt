-- Where the objects of a graph stand: at an address of the current space, or at an index of the area of the transaction that made them.
use Rattle.std.proofs.Common.{zero, suc}
use Rattle.std.specs.Prelude.{◌≡◌, ◌⊎◌, ℕ, ◌+◌, ◌-◌, ◌^◌, ◌<◌, ◌≤◌, List, [], ◌∷◌, length, map, Option, None, Some, is_some, true, if◌then◌else◌}
use Rattle.std.specs.List.{AllByRecursion}
use Rattle.heap_words.specs.declared.Word.{Word}
use Rattle.heap_words.specs.declared.Word.TheVariants as word
use Rattle.heap_words.specs.Word.{bits}
use Rattle.graph_model.specs.declared.id.Id.{Id}
use Rattle.graph_model.specs.declared.val.Val.{Val}
use Rattle.graph_model.specs.declared.val.Val.TheVariants.{Null, Int, Ref}
use Rattle.graph_model.specs.Graph.{Graph, is_same_id, fields, root}

-- the objects that stand in the current space, each with its address, ascending by address
abbrev pub Places : Type 0
Places = List (Id × ℕ)

-- these addresses
abbrev pub addresses : Places → List ℕ
addresses places = map (λ p. p.1) places

-- the address at which an object stands, if it is one of these
abbrev pub address_of : Places → Id → Option ℕ
address_of [] id = None
address_of (p ∷ ps) id = if is_same_id p.0 id then Some p.1 else address_of ps id

-- the words that an object takes: a header, a birth and its fields
abbrev pub size_of : Graph → Id → ℕ
size_of g id = 2 + length (fields g id)

-- the kth object that transaction t made
abbrev pub made_by : ℕ → ℕ → Id
made_by t k = record { t = t; k = k }

-- the root, or an object made by a transaction whose number is below the next one
abbrev pub IsOld : ℕ → Id → Type 0
IsOld next id = (id ≡ root) ⊎ ((1 ≤ id.k) × (id.t < next))

-- each of these objects is so
abbrev pub AreOld : ℕ → Places → Type 0
AreOld next places = AllByRecursion (λ p. IsOld next p.0) places

-- the words that the first n objects of transaction t take
abbrev pub area_used : Graph → ℕ → ℕ → ℕ
area_used g t zero = 0
area_used g t (suc n) = area_used g t n + size_of g (made_by t (suc n))

-- the index of an object in the area of the transaction that made it: they lie there end to end, in the order of their making
abbrev pub index_of : Graph → Id → ℕ
index_of g id = area_used g id.t (id.k - 1)

-- where an object stands by its address, if it has one, and by its index
abbrev pub standing : Option ℕ → ℕ → Word
standing (Some address) index = word.Stable address
standing None index = word.Volatile index

-- where an object of a graph stands
abbrev pub place_of : Places → Graph → Id → Word
place_of places g id = standing (address_of places id) (index_of g id)

-- what the word of a value means, where objects stand at these places
abbrev pub word_of : (Id → Word) → Val → Word
word_of place Null = word.Null
word_of place (Int n) = word.Int n
word_of place (Ref id) = place id

-- the word of a value
abbrev pub bits_of : (Id → Word) → Val → ℕ
bits_of place v = bits (word_of place v)

-- an object that transaction t made, which has made that many
pub record IsOwn (t made : ℕ) (id : Id) : Type 0 where
  pub maker : id.t ≡ t
  pub first : 1 ≤ id.k
  pub last : id.k ≤ made

-- an object that stands in the current space, or one that the transaction made
abbrev pub IsAtHand : Places → ℕ → ℕ → Id → Type 0
IsAtHand places t made id = (is_some (address_of places id) ≡ true) ⊎ IsOwn t made id

-- a value that a field can have which the transaction sees: its references lead to objects at hand
abbrev pub IsVisible : Places → ℕ → ℕ → Val → Type 0
IsVisible places t made Null = Unit {0}
IsVisible places t made (Int n) = n < 2 ^ 62
IsVisible places t made (Ref id) = IsAtHand places t made id
