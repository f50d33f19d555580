-- The scan of a page as it is planned, and how it lies in memory: the words of all copies stand one after another.
use Rattle.std.specs.Prelude.{◌≡◌, ℕ, ◌<◌, ◌≤◌, List, [], ◌∷◌, ◌++◌, length, map, take, drop, slice_index}
use Rattle.heap_spaces.specs.declared.collection.CopiedObject.{CopiedObject}
use Rattle.log_records.specs.declared.copies.ObjectCopy.{ObjectCopy}
use Rattle.log_records.specs.declared.Record.{Record}
use Rattle.log_records.specs.declared.Record.TheVariants.{Scan}
use Rattle.log_records.specs.Record.{copy_record, spellings}

-- What the scan of a page does.
pub record ScanState : Type 0 where
  pub copies : List ObjectCopy  -- the copies, in their order
  pub page : ℕ
  pub writes : List (ℕ × ℕ)  -- the fields that are redirected, each by its address and its new word

-- its records: the copies, and the scan
abbrev pub records_in : ScanState → List Record
records_in scan = map copy_record scan.copies ++ Scan scan.page scan.writes ∷ []

-- the copies of these objects, whose words stand one after another
abbrev pub copies_of : List CopiedObject → List ℕ → List ObjectCopy
copies_of [] words = []
copies_of (c ∷ cs) words = record { from = c.from; to = c.to; words = take c.words words } ∷ copies_of cs (drop c.words words)

-- these are all the words of these objects, one after another, of which each has some, and its header first
abbrev pub HaveWords : List CopiedObject → List ℕ → Type 0
HaveWords [] words = words ≡ []
HaveWords (c ∷ cs) words = (0 < c.words) × (c.words ≤ length words) × (c.header ≡ slice_index (take c.words words) 0) × HaveWords cs (drop c.words words)

-- what a record writes, if it is one of a scan
abbrev pub scan_writes : Record → List (ℕ × ℕ)
scan_writes (Scan page writes) = writes
scan_writes rec = []

-- A planned scan as it lies in memory: the words are those of its copies, no more than the largest space has, the bytes spell the records of its copies,
-- and the record is that of its page.
pub record IsScanOf (copies : List CopiedObject) (words bytes : List ℕ) (page : ℕ) (scan : Record) : Type 0 where
  pub filled : HaveWords copies words
  pub spelled : bytes ≡ spellings (map copy_record (copies_of copies words))
  pub small : length words ≤ 1048576
  pub scans : scan ≡ Scan page (scan_writes scan)
