-- What a list of records says: the words that they leave, which writes may still be taken back, and which records can follow.
use Rattle.std.specs.Prelude.{ℕ, ◌+◌, ◌*◌, ◌==◌, nat_lt, nat_le, List, [], ◌∷◌, ◌++◌, length, replicate, Bool, true, false, not, ◌&&◌, Option, None, Some, fold, map, max, slice_set, count_by, sum_by, unwrap_or, option_and_then, if◌then◌else◌}
use Rattle.std.specs.List.{flat_map, enumerate_from, list_all}
use Rattle.std.specs.Ordering.{nat_cmp}
use Rattle.std.specs.FinMap.{FinMap}
use Rattle.std.specs.FinMap as finmap
use Rattle.log_records.specs.declared.copies.ObjectCopy.{ObjectCopy}
use Rattle.log_records.specs.declared.Record.{Record}
use Rattle.log_records.specs.declared.Record.TheVariants.{Update, Base, Fix, Undo, Commit, End, Copy, Scan, Flip, Collected}
use Rattle.heap_spaces.specs.Collection.{owed_by}
use Rattle.heap_spaces.specs.Spaces.{SpacesState}
use Rattle.heap_words.specs.declared.Header.TheVariants.{Forward}
use Rattle.heap_words.specs.Header.{header_bits, born_in, born_as}
use Rattle.heap_words.specs.Word.{is_stable, is_volatile}
use Rattle.log_machine.specs.declared.UndoEntry.{UndoEntry}
use Rattle.log_machine.specs.Collecting.{collecting_after}
use Rattle.log_machine.specs.UndoEntry.{undo_entry}
pub use Rattle.log_machine.specs.State.{State, space_words}
use Rattle.log_records.specs.declared.TheConstants.{BATCH_BYTES, END_BYTES, PUT_BYTES}

-- The words.

-- how many words the pages of both spaces have
abbrev pub words_in : ℕ → ℕ
words_in pages = 128 * pages

-- the first contents of the words: the root object's header at address 0 and zero everywhere else, its birth and its null fields too
abbrev pub first_contents : ℕ → List ℕ
first_contents pages = slice_set (replicate (words_in pages) 0) 0 17

-- the address of a field of the object at an address
abbrev pub field_at : ℕ → ℕ → ℕ
field_at object field = object + 2 + field

-- what a copy of an object writes: its words, and the address of the copy where the object stood
abbrev pub copy_writes : ℕ → ℕ → List ℕ → List (ℕ × ℕ)
copy_writes from to words = enumerate_from to words ++ (from, header_bits (Forward to)) ∷ []

-- what a copy in a list writes
abbrev pub writes_of : ObjectCopy → List (ℕ × ℕ)
writes_of copy = copy_writes copy.from copy.to copy.words

-- a record's effect on the words before it: the addresses that it writes, each with its word
abbrev pub effect : List ℕ → Record → List (ℕ × ℕ)
effect before (Update t object field was word) = (field_at object field, word) ∷ []
effect before (Base t address words) = enumerate_from address words
effect before (Fix t object field word) = (field_at object field, word) ∷ []
effect before (Undo t object field word) = (field_at object field, word) ∷ []
effect before (Commit t) = []
effect before (End t) = []
effect before (Copy from to words) = copy_writes from to words
effect before (Scan page writes) = writes
effect before (Flip copies) = flat_map writes_of copies
effect before Collected = []

-- the addresses that it writes, which the record alone determines
abbrev pub addresses : Record → List ℕ
addresses (Update t object field was word) = field_at object field ∷ []
addresses (Base t address words) = map (λ w. w.0) (enumerate_from address words)
addresses (Fix t object field word) = field_at object field ∷ []
addresses (Undo t object field word) = field_at object field ∷ []
addresses (Commit t) = []
addresses (End t) = []
addresses (Copy from to words) = map (λ w. w.0) (copy_writes from to words)
addresses (Scan page writes) = map (λ w. w.0) writes
addresses (Flip copies) = map (λ w. w.0) (flat_map writes_of copies)
addresses Collected = []

-- the words with these written at their addresses
abbrev pub put_all : List ℕ → List (ℕ × ℕ) → List ℕ
put_all words writes = fold (λ now w. slice_set now w.0 w.1) words writes

-- the words in which one stands in a field of the object at an address
abbrev pub with_word : List ℕ → ℕ → ℕ → ℕ → List ℕ
with_word words object field word = slice_set words (field_at object field) word

-- the words with a record's effect
abbrev pub put_record : List ℕ → Record → List ℕ
put_record words rec = put_all words (effect words rec)

-- the words when these writes are taken back, the newest first
abbrev pub taken_back : List UndoEntry → List ℕ → List ℕ
taken_back [] words = words
taken_back (u ∷ us) words = taken_back us (with_word words u.object u.field u.was)

-- The state.

-- before the first record, in a heap whose first transaction has this number
abbrev pub start : ℕ → ℕ → State
start pages first = record { pages = pages; base = 0; used = 6; collection = None; undo = finmap.empty; commits = 0; next = first }

-- how many words of the current space are kept for what a collection has still to copy
abbrev pub owed : State → ℕ
owed s = owed_by s.collection

-- its spaces
abbrev pub spaces_of : State → SpacesState
spaces_of s = record { pages = s.pages; base = s.base; used = s.used; owed = owed s }

-- the state when nothing may be taken back any more
abbrev pub settled : State → State
settled s = record s { undo = finmap.empty }

-- the writes of a transaction that may be taken back, the newest first
abbrev pub undo_in : FinMap nat_cmp (List UndoEntry) → ℕ → List UndoEntry
undo_in undo t = unwrap_or (finmap.get undo t) []

abbrev pub undo_of : State → ℕ → List UndoEntry
undo_of s t = undo_in s.undo t

-- the transactions whose writes may be taken back, ascending
abbrev pub losers : State → List ℕ
losers s = finmap.keys s.undo

-- with these as the writes of a transaction that may be taken back
abbrev pub with_entries : FinMap nat_cmp (List UndoEntry) → ℕ → List UndoEntry → FinMap nat_cmp (List UndoEntry)
with_entries undo t [] = finmap.remove undo t
with_entries undo t (u ∷ us) = finmap.insert undo t (u ∷ us)

-- The records.

-- the number of a record's transaction, where it is a transaction's
abbrev pub number_of : Record → Option ℕ
number_of (Update t object field was word) = Some t
number_of (Base t address words) = Some t
number_of (Fix t object field word) = Some t
number_of (Undo t object field word) = Some t
number_of (Commit t) = Some t
number_of (End t) = Some t
number_of (Copy from to words) = None
number_of (Scan page writes) = None
number_of (Flip copies) = None
number_of Collected = None

-- a number that a transaction can have
abbrev pub is_number : ℕ → Bool
is_number t = nat_le 1 t && nat_le t 4294967294

-- such a number, or none
abbrev pub is_number_or_none : Option ℕ → Bool
is_number_or_none None = true
is_number_or_none (Some t) = is_number t

-- the next transaction's number after a record of this one, or of none
abbrev pub next_with : ℕ → Option ℕ → ℕ
next_with next None = next
next_with next (Some t) = max next (t + 1)

-- the field lies in the used words of the current space
abbrev pub lies_inside : State → ℕ → ℕ → Bool
lies_inside s object field = nat_le s.base object && nat_lt (field_at object field) (s.base + s.used)

-- that many words from the address on are the next words of the current space that are not used, and none of them is owed to a collection
abbrev pub is_next_free : State → ℕ → ℕ → Bool
is_next_free s address size = address == s.base + s.used && nat_le (s.used + size + owed s) (space_words s.pages)

-- the birth is that of an object that the transaction made
abbrev pub is_born_in : ℕ → ℕ → Bool
is_born_in t birth = born_in birth == t && nat_le 1 (born_as birth)

-- none of the words is a reference to a volatile object
abbrev pub none_volatile : List ℕ → Bool
none_volatile words = list_all (λ w. not (is_volatile w)) words

-- the object of these words was made by the transaction, and its fields refer to no volatile object
abbrev pub is_promoted_by : ℕ → List ℕ → Bool
is_promoted_by t [] = false
is_promoted_by t (header ∷ []) = false
is_promoted_by t (header ∷ birth ∷ fields) = is_born_in t birth && none_volatile fields

abbrev pub is_same_write : UndoEntry → UndoEntry → Bool
is_same_write u v = u.object == v.object && u.field == v.field && u.was == v.was

-- the writes without the newest, if that is this one
abbrev pub without_newest : List UndoEntry → UndoEntry → Option (List UndoEntry)
without_newest [] write = None
without_newest (u ∷ us) write = if is_same_write u write then Some us else None

abbrev pub has_none : List UndoEntry → Bool
has_none [] = true
has_none (u ∷ us) = false

abbrev pub is_commit : Record → Bool
is_commit (Commit t) = true
is_commit rec = false

-- how many of these records are commits
abbrev pub commits : List Record → ℕ
commits records = count_by is_commit records

-- the state after a record of a transaction that leaves these writes to be taken back
abbrev pub turned : State → ℕ → FinMap nat_cmp (List UndoEntry) → ℕ → State
turned s t undo more = record s { undo = undo; commits = s.commits + more; next = max s.next (t + 1) }

-- the state after a transaction's object has become stable, which has that many words
abbrev pub promoted : State → ℕ → ℕ → State
promoted s t size = record s { used = s.used + size; next = max s.next (t + 1) }

-- the state after one more record, if it can follow, given whether its transaction's number is one
abbrev pub row_after : State → Record → Option State
row_after s (Update t object field was word) =
    if lies_inside s object field
    then Some (turned s t (finmap.insert s.undo t (undo_entry object field was ∷ undo_of s t)) 0) else None
row_after s (Base t address words) =
    if is_next_free s address (length words) && is_promoted_by t words then Some (promoted s t (length words)) else None
row_after s (Fix t object field word) =
    if lies_inside s object field && is_stable word then Some (turned s t s.undo 0) else None
row_after s (Undo t object field word) =
    option_and_then (λ rest. Some (turned s t (with_entries s.undo t rest) 0))
    (without_newest (undo_of s t) (undo_entry object field word))
row_after s (Commit t) = Some (turned s t (finmap.remove s.undo t) 1)
row_after s (End t) = if has_none (undo_of s t) then Some (turned s t s.undo 0) else None
row_after s (Copy from to words) = collecting_after s (Copy from to words)
row_after s (Scan page writes) = collecting_after s (Scan page writes)
row_after s (Flip copies) = collecting_after s (Flip copies)
row_after s Collected = collecting_after s Collected

-- the state after one more record, if it can follow
abbrev pub after : State → Record → Option State
after s rec = if is_number_or_none (number_of rec) then row_after s rec else None

-- the state after these records, if each of them can follow
abbrev pub after_all : State → List Record → Option State
after_all s [] = Some s
after_all s (r ∷ rs) = option_and_then (λ next. after_all next rs) (after s r)

-- What is taken back.

-- a transaction's number, and its writes that may be taken back
abbrev pub Loser : Type 0
Loser = ℕ × List UndoEntry

-- the transactions whose writes may be taken back, ascending, each with these
abbrev pub losing : State → List Loser
losing s = finmap.entries s.undo

-- the words when all these writes are taken back, of one transaction after another
abbrev pub each_taken_back : List Loser → List ℕ → List ℕ
each_taken_back entries words = fold (λ now e. taken_back e.1 now) words entries

-- the words without the writes of transactions that have not ended
abbrev pub all_taken_back : State → List ℕ → List ℕ
all_taken_back s words = each_taken_back (losing s) words

abbrev pub losing_in : Option State → List Loser
losing_in None = []
losing_in (Some s) = losing s

-- the records that take a transaction's writes back, the newest first, and end it
abbrev pub abort_records : ℕ → List UndoEntry → List Record
abort_records t [] = End t ∷ []
abort_records t (u ∷ us) = Undo t u.object u.field u.was ∷ abort_records t us

abbrev pub abort_each : List Loser → List Record
abort_each entries = flat_map (λ e. abort_records e.0 e.1) entries

-- the records that an opening appends: they take back the writes of each transaction that has not ended, ascending
abbrev pub rollback : State → List Record
rollback s = abort_each (losing s)

-- the log's bytes that are kept to take that many writes of a transaction back: a batch, an End, and an Undo for each write
abbrev pub end_bytes : ℕ → ℕ
end_bytes writes = BATCH_BYTES + END_BYTES + PUT_BYTES * writes

-- those for a transaction's writes
abbrev pub undo_bytes : List UndoEntry → ℕ
undo_bytes entries = end_bytes (length entries)

-- the log's bytes that are kept to take all of them back
abbrev pub reserve : State → ℕ
reserve s = sum_by (λ e. undo_bytes e.1) (losing s)
