-- The root object alone in the words: what is seen of it, and that its walk passes.
use Rattle.std.proofs.Common.{◌≡◌, ℕ, ◌+◌, ◌*◌, ◌^◌, ◌<◌, ◌≤◌, List, [], ◌∷◌, length, take, drop, Some, ap, arith, lit<}
use Rattle.std.specs.Prelude.{slice_index}
use Rattle.graph_model.specs.declared.val.Val.{Val}
use Rattle.graph_model.specs.declared.val.Val.TheVariants.{Null, Int, Ref}
use Rattle.graph_model.specs.Graph.{root}
use Rattle.object_layout.specs.Layout.{object_at, words_of, field_words}
use Rattle.object_layout.proofs.LayoutLaws.{object_from_header}

-- the word of a value of a root that is the only object: a reference can only lead to the root
abbrev pub IsRootWord : ℕ → ℕ → Val → Type 0
IsRootWord at w Null = w ≡ 0
IsRootWord at w (Int n) = (n < 2 ^ 62) × (w ≡ 4 * n + 1)
IsRootWord at w (Ref id) = (at < 2097152) × (id ≡ root) × (w ≡ 4 * at + 2)

-- the same for several, in order
abbrev pub AreRootWords : ℕ → List ℕ → List Val → Type 0
AreRootWords at [] [] = Unit {0}
AreRootWords at (w ∷ ws) (v ∷ vs) = IsRootWord at w v × AreRootWords at ws vs
AreRootWords at ws vs = ⊥

-- The root object stands at an address: its header, its birth and its four fields.
pub record StandsAlone (words : List ℕ) (at : ℕ) (vs : List Val) : Type 0 where
  pub header : slice_index words at ≡ 17
  pub birth : slice_index words (at + 1) ≡ 0
  pub within : at + 6 ≤ length words
  pub fields : AreRootWords at (take 4 (drop (at + 2) words)) vs

-- it is an object
pub root_object : (words : List ℕ) (at : ℕ) (vs : List Val) → StandsAlone words at vs → object_at words at ≡ Some 4
root_object words at vs alone = let within = alone.within in object_from_header words at 4 alone.header (lit< tt) (omega arith)

-- with these field words
pub root_field_words : (words : List ℕ) (at : ℕ) (vs : List Val) → StandsAlone words at vs → field_words words at ≡ take 4 (drop (at + 2) words)
root_field_words words at vs alone = ap (words_of words at) (root_object words at vs alone)
