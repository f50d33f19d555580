-- Laws of images that differ in one part alone.
use Rattle.std.proofs.Common.{ℕ, ◌≤◌, List, refl, sym, ◌∙◌, arith}
use Rattle.disk_model.specs.Disk.{SameOutside}

-- what was not touched
pub untouched : (from end : ℕ) (image : List ℕ) → SameOutside from end image image
untouched from end image = record { size = refl; before = λ i low. refl; behind = λ i high. refl }

-- a larger part
pub outside_within : (from end low high : ℕ) (old new : List ℕ) → low ≤ from → end ≤ high → SameOutside from end old new → SameOutside low high old new
outside_within from end low high old new begins ends same = record {
  size = same.size;
  before = λ i less. same.before i (omega (arith, less, begins));
  behind = λ i more. same.behind i (omega (arith, more, ends));
}

-- one change after another
pub outside_then : (from end : ℕ) (old mid new : List ℕ) → SameOutside from end old mid → SameOutside from end mid new → SameOutside from end old new
outside_then from end old mid new first second = record {
  size = second.size ∙ first.size;
  before = λ i less. second.before i less ∙ first.before i less;
  behind = λ i more. second.behind i more ∙ first.behind i more;
}

-- two images that were one
pub outside_between : (from end : ℕ) (old one other : List ℕ) → SameOutside from end old one → SameOutside from end old other → SameOutside from end one other
outside_between from end old one other first second = record {
  size = second.size ∙ sym first.size;
  before = λ i less. second.before i less ∙ sym (first.before i less);
  behind = λ i more. second.behind i more ∙ sym (first.behind i more);
}
