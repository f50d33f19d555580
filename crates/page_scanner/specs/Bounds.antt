-- How much a scan does, and where.
use Rattle.std.specs.Prelude.{◌≡◌, ℕ, ◌+◌, ◌*◌, ◌≤◌, ◌<◌, true, List, [], ◌∷◌, length}
use Rattle.std.specs.FinSet.{contains}
use Rattle.heap_spaces.specs.Collection.{Collection}
use Rattle.heap_spaces.specs.Spaces.{SpacesState}
use Rattle.object_layout.specs.Layout.{field_words}
use Rattle.log_records.specs.declared.Record.{Record}
use Rattle.page_scanner.specs.Scan.{Planned, records_of}
use Rattle.heap_words.specs.declared.TheConstants.{PAGE_WORDS}

-- the addresses of writes ascend, from one address on and below another
abbrev pub AreRising : ℕ → List (ℕ × ℕ) → ℕ → Type 0
AreRising from [] end = from ≤ end
AreRising from (w ∷ ws) end = (from ≤ w.0) × AreRising (w.0 + 1) ws end

-- The gray objects are apart from one another, and lie in the used words of the current space.
pub record AreGrayApart (spaces : SpacesState) (k : Collection) (words : List ℕ) : Type 0 where
  pub inside : (a : ℕ) → contains k.gray a ≡ true → a + 2 + length (field_words words a) ≤ spaces.base + spaces.used
  pub apart : (a b : ℕ) → contains k.gray a ≡ true → contains k.gray b ≡ true → a < b → a + 2 + length (field_words words a) ≤ b

-- A scan of a page copies at most 576 objects, and gives a new word to as many fields at most: their addresses ascend, from the page's
-- first word on.
pub record IsSmall (page : ℕ) (q : Planned) : Type 0 where
  pub copies : length q.copies ≤ 576
  pub writes : length q.writes ≤ 576
  pub rising : AreRising (PAGE_WORDS * page) q.writes (PAGE_WORDS * page + 576)

-- records of such a scan
abbrev pub AreSmall : ℕ → List Record → Type 0
AreSmall page records = (q : Planned) × (records ≡ records_of page q) × IsSmall page q
