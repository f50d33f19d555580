-- A space that is filled, stated for all words instead of the used ones.
use Rattle.std.proofs.Common.{◌≡◌, ℕ, ◌+◌, List, [], ◌∷◌, Some, sym, ◌∙◌, subst, arith}
use Rattle.std.specs.Prelude.{Contains}
use Rattle.object_layout.specs.Layout.{birth_at, object_at}
use Rattle.object_layout.specs.Walk.{AreEndToEnd, IsFilled, used_words}
use Rattle.object_layout.proofs.WalkLaws.{Contains-head, object_take, object_take_end}
use Rattle.graph_words.proofs.Area.Field.{end_to_end_whole}
use Rattle.collection_words.proofs.Relocated.Fronts.{ends_front, front_birth, front_object}

-- Objects stand end to end from the base on, the root first.
pub record AreFilling (words : List ℕ) (base used : ℕ) (starts : List ℕ) : Type 0 where
  pub ends : AreEndToEnd words base starts (base + used)
  pub first : Contains starts base
  pub root : object_at words base ≡ Some 4
  pub birth : birth_at words base ≡ 0

root_first : (words : List ℕ) (base used : ℕ) (starts : List ℕ) → object_at (used_words words base used) base ≡ Some 4 → AreEndToEnd (used_words words base used) base starts (base + used)
    → Contains starts base
root_first words base used [] root objects = let close = object_take_end words (base + used) base 4 root in absurd (omega arith)
root_first words base used (a ∷ rest) root (n, same, object, more) = subst (λ (x : ℕ). Contains (a ∷ rest) x) same (Contains-head a rest)

-- objects that fill the used words do so in all words
pub filling : (words : List ℕ) (base used : ℕ) (starts : List ℕ) → IsFilled words base used starts → AreFilling words base used starts
filling words base used starts filled = record {
  ends = end_to_end_whole words (base + used) base starts (base + used) filled.objects;
  first = root_first words base used starts filled.root.length filled.objects;
  root = object_take words (base + used) base 4 filled.root.length;
  birth = sym (front_birth words (base + used) base 4 filled.root.length) ∙ filled.root.birth;
}

-- and the other way round
pub filled_by : (words : List ℕ) (base used : ℕ) (starts : List ℕ) → AreFilling words base used starts → IsFilled words base used starts
filled_by words base used starts all =
    let root = front_object words base starts (base + used) base 4 all.ends all.first all.root in
    record {
      root = record { length = root; birth = front_birth words (base + used) base 4 root ∙ all.birth };
      objects = ends_front words (base + used) base starts (base + used) (omega arith) all.ends;
    }
