-- The scan that an event makes before it reads or writes a field, as it is planned.
use Rattle.std.specs.Prelude.{◌≡◌, ℕ, ◌+◌, ◌-◌, ◌^◌, ◌≤◌, ◌<◌, ◌==◌, ◌&&◌, nat_lt, nat_le, length, Bool, true, false, List, [], ◌∷◌, Option, None, Some, fold, sum_by, unwrap_or, slice_get, if◌then◌else◌}
use Rattle.std.specs.Option.{option_map}
use Rattle.std.specs.FinSet.{contains}
use Rattle.heap_words.specs.declared.Header.TheVariants.{Forward}
use Rattle.heap_words.specs.Header.{header_bits}
use Rattle.heap_spaces.specs.declared.collection.CopiedObject.{CopiedObject}
use Rattle.heap_spaces.specs.Collection.{Collection, owed_by}
use Rattle.heap_spaces.specs.Copying.{with_copies, with_scanned, AreNew}
use Rattle.heap_spaces.specs.Spaces.{SpacesState, space_words}
use Rattle.log_records.specs.declared.Record.{Record}
use Rattle.log_records.specs.declared.Record.TheVariants.{Copy, Scan}
use Rattle.log_records.specs.Record.{spellings}
use Rattle.log_machine.specs.Effect.{EachWritesBelow}
use Rattle.page_scanner.specs.PageScan.{ScanState, records_in}
use Rattle.heap_memory.specs.Memory.{Memory}
use Rattle.heap_memory.specs.Collecting.{copied_in, spaces_behind, collection_behind}

-- The records.

-- these are the records of the scan of a page: copies of objects, and the scan after them, with few enough writes that their count has 16 bits
abbrev pub is_page_scan : ℕ → List Record → Bool
is_page_scan page (Scan scanned writes ∷ []) = scanned == page && nat_lt (length writes) 65536
is_page_scan page (Copy from to words ∷ records) = nat_le (length words) 512 && is_page_scan page records
is_page_scan page records = false

-- the same if a page is scanned, and otherwise there are none
abbrev pub is_scan_of : Option ℕ → List Record → Bool
is_scan_of (Some page) records = is_page_scan page records
is_scan_of None [] = true
is_scan_of None (rec ∷ records) = false

-- the records of a scan that is planned_records, if there is one
abbrev pub planned_records : Option ScanState → List Record
planned_records None = []
planned_records (Some scan) = records_in scan

-- the page that it scans
abbrev pub page_in : Option ScanState → Option ℕ
page_in scan = option_map (λ (s : ScanState). s.page) scan

-- The words.

-- the word at an address when these words stand from another one on
abbrev pub copied_word : ℕ → List ℕ → ℕ → ℕ → ℕ
copied_word to words at word = if nat_lt at to then word else unwrap_or (slice_get words (at - to)) word

-- the word at an address when one is put at its own
abbrev pub write_at : ℕ → ℕ → ℕ × ℕ → ℕ
write_at at word write = if write.0 == at then write.1 else word

-- the word at an address after a record of a scan, if this one stands there before it
abbrev pub word_with : ℕ → ℕ → Record → ℕ
word_with at word (Copy from to words) = if from == at then header_bits (Forward to) else copied_word to words at word
word_with at word (Scan page writes) = fold (write_at at) word writes
word_with at word rec = word

-- the word at an address after records of a scan, if this one stands there before them
abbrev pub word_after : ℕ → ℕ → List Record → ℕ
word_after at word records = fold (word_with at) word records

-- The copies.

-- how many words these copies have
abbrev pub words_of : List CopiedObject → ℕ
words_of copies = sum_by (λ (c : CopiedObject). c.words) copies

-- a collection, if one runs, has still to copy as many words as these copies have
abbrev pub CanKeep : Option Collection → List CopiedObject → Type 0
CanKeep None copies = Unit {0}
CanKeep (Some k) copies = k.copied + words_of copies ≤ k.used

-- the collection, if one runs, has kept these copies
abbrev pub HasKept : List CopiedObject → Option Collection → Type 0
HasKept copies now = (before : Option Collection) × (now ≡ option_map (λ k. with_copies k copies) before)

-- these copies are of objects that the collection had not copied before, to addresses that were not gray
abbrev pub AreNewTo : List CopiedObject → Option Collection → Type 0
AreNewTo copies None = Unit {0}
AreNewTo copies (Some k) = AreNew k copies

-- the collection when a page has been scanned, if one was
abbrev pub scanned_by : Collection → Option ℕ → Collection
scanned_by k None = k
scanned_by k (Some page) = with_scanned k page

-- What is known of a collection that runs: no more is copied than there was to copy, which a space had room for, and gray objects start in the
-- words that are taken.
pub record IsSoundCollection (spaces : SpacesState) (k : Collection) : Type 0 where
  pub copied : k.copied ≤ k.used
  pub used : k.used ≤ space_words spaces.pages
  pub gray : (at : ℕ) → contains k.gray at ≡ true → at < spaces.base + spaces.used

-- the same, if one runs
abbrev pub IsSoundIn : SpacesState → Option Collection → Type 0
IsSoundIn spaces runs = (k : Collection) → runs ≡ Some k → IsSoundCollection spaces k

-- The records of a scan can be carried out on what is kept in memory: there is room for what they copy, they write words that exist, and
-- what is known of a collection is known after them.
pub record CanScan (m : Memory) (records : List Record) : Type 0 where
  pub keeps : CanKeep m.collection (copied_in records)
  pub owed : words_of (copied_in records) ≤ m.spaces.owed
  pub fresh : AreNewTo (copied_in records) m.collection
  pub below : EachWritesBelow (length m.words) records
  pub few : length (spellings records) < 2 ^ 24
  pub sound : IsSoundIn (spaces_behind m.spaces records) (collection_behind m.collection records)
  pub owes : (spaces_behind m.spaces records).owed ≡ owed_by (collection_behind m.collection records)
