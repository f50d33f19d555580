-- A collection beside the transactions: the records that its events and the barrier plan, and the spaces and the collection after them.
use Rattle.std.specs.Prelude.{◌≡◌, ℕ, List, [], ◌∷◌, fold, unwrap_or, length, Option, None, Some, if◌then◌else◌}
use Rattle.std.specs.Option.{option_map}
use Rattle.std.specs.FinSet.{empty}
use Rattle.flip_copy.specs.Copied.{root_copies, flip_record}
pub use Rattle.heap_model.specs.Collecting.{is_gray_in, page_records_of, copied_by, copied_in, words_copied}
use Rattle.heap_spaces.specs.Collection.{Collection}
use Rattle.heap_spaces.specs.Copying.{with_copies, with_scanned, IsLeastGrayPage}
use Rattle.heap_spaces.specs.Spaces.{SpacesState, with_copied, with_none_owed}
use Rattle.log_records.specs.declared.copies.ObjectCopy.{ObjectCopy}
use Rattle.log_records.specs.declared.Record.{Record}
use Rattle.log_records.specs.declared.Record.TheVariants.{Copy, Scan, Collected}
use Rattle.read_barrier.specs.Barrier.{barrier_page_of}
use Rattle.txn_table.specs.declared.place.Place.{Place}
use Rattle.txn_table.specs.declared.place.Place.TheVariants.{Stable, Volatile}
use Rattle.heap_memory.specs.Memory.{Memory}

-- the records of the scan of a page, and none where it can't be scanned
abbrev pub page_records : Memory → ℕ → List Record
page_records m page = unwrap_or (page_records_of m.spaces m.words page m.collection) []

-- those of the scan that comes before a field of the stable object at an address is read or written
abbrev pub barrier_records : Memory → ℕ → ℕ → List Record
barrier_records m object field =
    if is_gray_in m.collection (barrier_page_of object field) then page_records m (barrier_page_of object field) else []

-- the same of the object at a place: one of a transaction's area has no barrier
abbrev pub place_barrier : Memory → Place → ℕ → List Record
place_barrier m (Stable at) i = barrier_records m at i
place_barrier m (Volatile at) i = []

-- the spaces after a record of a collection that runs, or of a write
abbrev pub spaces_with : SpacesState → Record → SpacesState
spaces_with spaces (Copy from to words) = with_copied spaces (length words)
spaces_with spaces Collected = with_none_owed spaces
spaces_with spaces rec = spaces

-- the spaces after these
abbrev pub spaces_behind : SpacesState → List Record → SpacesState
spaces_behind spaces records = fold spaces_with spaces records

-- the collection after such a record
abbrev pub collection_with : Option Collection → Record → Option Collection
collection_with runs (Copy from to words) = option_map (λ k. with_copies k (copied_by (Copy from to words))) runs
collection_with runs (Scan page writes) = option_map (λ k. with_scanned k page) runs
collection_with runs Collected = None
collection_with runs rec = runs

-- the collection after these
abbrev pub collection_behind : Option Collection → List Record → Option Collection
collection_behind runs records = fold collection_with runs records

-- the copies of a flip from these roots, which begins at the root object
abbrev pub flip_copies : Memory → List ℕ → List ObjectCopy
flip_copies m roots = root_copies m.spaces m.words roots

abbrev pub flip_records : Memory → List ℕ → List Record
flip_records m roots = flip_record m.spaces m.words roots ∷ []

-- the page that is scanned next, and none where nothing is gray
abbrev pub IsNextPage : Option Collection → Option ℕ → Type 0
IsNextPage None next = next ≡ None
IsNextPage (Some k) None = k.gray ≡ empty
IsNextPage (Some k) (Some page) = IsLeastGrayPage k page

-- the records of a scan whose next page is this: its page's, the end of the collection, or none where no collection runs
abbrev pub scan_event_records : Memory → Option Collection → Option ℕ → List Record
scan_event_records m None next = []
scan_event_records m (Some k) None = Collected ∷ []
scan_event_records m (Some k) (Some page) = page_records m page
