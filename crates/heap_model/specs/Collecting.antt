-- A collection beside the transactions: the objects that a flip copies, and the records of a flip, of a scan, and of the scan that comes before
-- a field is read or written.
use Rattle.std.specs.Prelude.{ℕ, ◌*◌, ◌==◌, ◌||◌, List, [], ◌∷◌, Bool, false, length, map, filter, fold, min, sum_by, unwrap_or, Option, None, Some, if◌then◌else◌}
use Rattle.std.specs.List.{list_any, range_with_len}
use Rattle.std.specs.Option.{option_map}
use Rattle.std.specs.FinSet.{contains, items}
use Rattle.graph_model.specs.declared.id.Id.{Id}
use Rattle.graph_model.specs.declared.val.Val.{Val}
use Rattle.graph_model.specs.declared.val.Val.TheVariants.{Ref}
use Rattle.graph_model.specs.declared.reply.Reply.{Reply}
use Rattle.graph_model.specs.declared.reply.Reply.TheVariants as answer
use Rattle.graph_model.specs.Graph.{Graph, fields, is_same_id}
use Rattle.graph_model.specs.Transaction.{View, Transaction, Registers, serial}
use Rattle.graph_model.specs.History.{Account, sessions}
use Rattle.graph_model.specs.Locking.{Lock, locks_of}
use Rattle.graph_model.specs.Plain.{view}
use Rattle.heap_words.specs.declared.Word.{Word}
use Rattle.heap_words.specs.declared.Word.TheVariants.{Stable}
use Rattle.heap_words.specs.Word.{meaning}
use Rattle.heap_spaces.specs.declared.collection.CopiedObject.{CopiedObject}
use Rattle.heap_spaces.specs.Collection.{Collection, page_of}
use Rattle.heap_spaces.specs.Spaces.{SpacesState}
use Rattle.log_records.specs.declared.Record.{Record}
use Rattle.log_records.specs.declared.Record.TheVariants.{Collected}
use Rattle.log_machine.specs.declared.UndoEntry.{UndoEntry}
use Rattle.log_machine.specs.Machine.{State, spaces_of}
use Rattle.graph_words.specs.Places.{Places, made_by}
use Rattle.flip_copy.specs.Copied.{copies_in, flip_record, copied_size}
pub use Rattle.page_scanner.specs.Copied.{copied_by, copied_in}
use Rattle.page_scanner.specs.Scan.{scan_records}
use Rattle.read_barrier.specs.Barrier.{barrier_page_of}
use Rattle.heap_words.specs.declared.TheConstants.{PAGE_WORDS}

-- Roots.

abbrev pub is_held : Id → Option Id → Bool
is_held id None = false
is_held id (Some other) = is_same_id other id

-- one of these handles holds the object
abbrev pub holds : Registers → Id → Bool
holds registers id = list_any (is_held id) registers

abbrev pub is_reference_to : Id → Val → Bool
is_reference_to id (Ref target) = is_same_id target id
is_reference_to id v = false

-- a field of an object that transaction t made refers to the object, even a field of an object that nothing names any more
abbrev pub refers_to : View → ℕ → Id → Bool
refers_to view t id = list_any (λ k. list_any (is_reference_to id) (fields view.graph (made_by t k))) (range_with_len 1 view.made)

-- one of these locks is on the object
abbrev pub is_locked_by : List Lock → Id → Bool
is_locked_by locks id = list_any (λ (lock : Lock). is_same_id lock.0 id) locks

-- a word of this meaning refers to the stable object at an address
abbrev pub refers_at : ℕ → Option Word → Bool
refers_at at (Some (Stable address)) = address == at
refers_at at meant = false

-- a write is of a field of the object at an address, or has replaced a reference to it
abbrev pub is_entry_at : ℕ → UndoEntry → Bool
is_entry_at at u = u.object == at || refers_at at (meaning u.was)

-- a transaction that sees this, with these writes and locks, names an object
abbrev pub names_object : View → ℕ → List UndoEntry → List Lock → Id × ℕ → Bool
names_object view t undo locks p = holds view.registers p.0 || (refers_to view t p.0 || (is_locked_by locks p.0 || list_any (is_entry_at p.1) undo))

-- so does a session's transaction, if it has one
abbrev pub is_named : (ℕ → List UndoEntry) → Graph → Account → Option Transaction → Id × ℕ → Bool
is_named undo g0 a None p = false
is_named undo g0 a (Some t) p = names_object (view g0 a t) t.number (undo t.number) (locks_of (serial g0 a.sealed) t) p

-- an active transaction names an object
abbrev pub is_root : (ℕ → List UndoEntry) → Graph → Account → Id × ℕ → Bool
is_root undo g0 a p = list_any (λ s. is_named undo g0 a (a.active s) p) sessions

-- the addresses of the current objects that active transactions name, ascending as those of places do
abbrev pub roots_of : Places → (ℕ → List UndoEntry) → Graph → Account → List ℕ
roots_of places undo g0 a = map (λ p. p.1) (filter (is_root undo g0 a) places)

-- The scan of a page.

-- whether a gray object starts in a page, where a collection runs
abbrev pub is_gray_in : Option Collection → ℕ → Bool
is_gray_in None page = false
is_gray_in (Some k) page = list_any (contains k.gray) (range_with_len (PAGE_WORDS * page) PAGE_WORDS)

abbrev pub page_records_of : SpacesState → List ℕ → ℕ → Option Collection → Option (List Record)
page_records_of spaces words page None = None
page_records_of spaces words page (Some k) = scan_records spaces k words page

-- the records of the scan of a page, and none where it can't be scanned
abbrev pub page_records : State → List ℕ → ℕ → List Record
page_records s words page = unwrap_or (page_records_of (spaces_of s) words page s.collection) []

-- those of the scan that comes before a field of the object at an address is read or written
abbrev pub barrier_of : State → List ℕ → ℕ → ℕ → List Record
barrier_of s words object field =
    if is_gray_in s.collection (barrier_page_of object field) then page_records s words (barrier_page_of object field) else []

-- the same of an object that may stand in the current space: one of a transaction's area has no barrier
abbrev pub barrier_at : Option State → List ℕ → Option ℕ → ℕ → List Record
barrier_at None words at i = []
barrier_at (Some s) words None i = []
barrier_at (Some s) words (Some at) i = barrier_of s words at i

-- The events of a collection.

abbrev pub flip_records_in : State → List ℕ → List ℕ → Option Collection → List Record
flip_records_in s words roots None = flip_record (spaces_of s) words roots ∷ []
flip_records_in s words roots (Some k) = []

-- the record of a flip from these roots, and none where a collection runs
abbrev pub flip_records : Option State → List ℕ → List ℕ → List Record
flip_records None words roots = []
flip_records (Some s) words roots = flip_records_in s words roots s.collection

-- the least of these
abbrev pub least_of : List ℕ → Option ℕ
least_of [] = None
least_of (x ∷ xs) = Some (fold min x xs)

-- the page that is scanned next, the least in which a gray object starts, and none where nothing is gray
abbrev pub next_page : Option Collection → Option ℕ
next_page None = None
next_page (Some k) = option_map page_of (least_of (items k.gray))

-- the records of a scan whose next page is this: its page's, the end of the collection, or none where no collection runs
abbrev pub scan_records_in : State → List ℕ → Option Collection → Option ℕ → List Record
scan_records_in s words None page = []
scan_records_in s words (Some k) None = Collected ∷ []
scan_records_in s words (Some k) (Some page) = page_records s words page

-- the records of a scan
abbrev pub scan_event_records : Option State → List ℕ → List Record
scan_event_records None words = []
scan_event_records (Some s) words = scan_records_in s words s.collection (next_page s.collection)

-- Answers.

-- how many words the objects have that these records copy
abbrev pub words_copied : List Record → ℕ
words_copied records = sum_by (λ (c : CopiedObject). c.words) (copied_in records)

-- what a flip with these records is answered
abbrev pub flip_reply : List Record → Reply
flip_reply [] = answer.Collecting
flip_reply (rec ∷ more) = answer.Flipped (length (copies_in rec)) (copied_size (copies_in rec))

abbrev pub scan_reply_in : State → List Record → Option Collection → Option ℕ → Reply
scan_reply_in s records None page = answer.Idle
scan_reply_in s records (Some k) None = answer.Collected s.used
scan_reply_in s records (Some k) (Some page) = answer.Scanned page (length (copied_in records)) (words_copied records)

-- what a scan with these records is answered
abbrev pub scan_reply : Option State → List Record → Reply
scan_reply None records = answer.Idle
scan_reply (Some s) records = scan_reply_in s records s.collection (next_page s.collection)
