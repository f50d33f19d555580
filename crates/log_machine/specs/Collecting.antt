-- Which records of a collection can follow, and the state after them.
use Rattle.std.specs.Prelude.{ℕ, ◌+◌, ◌-◌, ◌*◌, ◌==◌, nat_lt, nat_le, List, [], ◌∷◌, map, Bool, true, false, not, ◌&&◌, Option, None, Some, is_some, option_and_then, if◌then◌else◌}
use Rattle.std.specs.List.{list_all}
use Rattle.std.specs.Option.{option_map}
use Rattle.std.specs.Ordering.{nat_cmp}
use Rattle.std.specs.FinMap.{FinMap}
use Rattle.std.specs.FinMap as finmap
use Rattle.std.specs.FinSet.{contains, insert, len}
use Rattle.heap_words.specs.declared.Word.{Word}
use Rattle.heap_words.specs.declared.Word.TheVariants as word
use Rattle.heap_words.specs.Word.{meaning}
use Rattle.log_records.specs.Copied.{copy_header, copy_size}
use Rattle.log_records.specs.declared.copies.ObjectCopy.{ObjectCopy}
use Rattle.log_records.specs.declared.Record.{Record}
use Rattle.log_records.specs.declared.Record.TheVariants.{Update, Base, Fix, Undo, Commit, End, Copy, Scan, Flip, Collected}
use Rattle.heap_spaces.specs.Collection.{Collection, gray_from}
use Rattle.heap_spaces.specs.Addresses.{with_all}
use Rattle.heap_spaces.specs.Copying.{begun, with_scanned}
use Rattle.log_machine.specs.declared.UndoEntry.{UndoEntry}
use Rattle.log_machine.specs.State.{State, space_words}
use Rattle.log_machine.specs.Translation.{translated_list}
use Rattle.heap_words.specs.declared.TheConstants.{PAGE_WORDS}

-- Copies.

-- the address of the first word of the space that is not current: of the from-space, where a collection runs
abbrev pub other_base : State → ℕ
other_base s = space_words s.pages - s.base

-- that many words at an address lie in the used words of the from-space
abbrev pub lies_in_from : State → Collection → ℕ → ℕ → Bool
lies_in_from s k from size = nat_le (other_base s) from && nat_le (from + size) (other_base s + k.used)

-- an object of that many words, at least a header and a birth, at an address of the from-space is left to be copied
abbrev pub can_move : State → Collection → ℕ → ℕ → Bool
can_move s k from size = nat_le 2 size && lies_in_from s k from size && nat_le (k.copied + size) k.used && not (contains k.moved from)

-- that many words from an address on are the next words of the current space that are not used
abbrev pub can_hold : State → ℕ → ℕ → Bool
can_hold s to size = to == s.base + s.used && nat_le (s.used + size) (space_words s.pages)

-- what is said of a collection when an object has been copied
abbrev pub with_moved : Collection → ObjectCopy → Collection
with_moved k copy = record k {
  copied = k.copied + copy_size copy;
  moved = insert k.moved copy.from;
  gray = with_all k.gray (gray_from copy.to (copy_header copy));
}

-- the state when an object has been copied
abbrev pub with_copy : State → Collection → ObjectCopy → State
with_copy s k copy = record s { used = s.used + copy_size copy; collection = Some (with_moved k copy) }

-- the state after a copy of one object, if it can follow in a collection
abbrev pub copied_while : State → ObjectCopy → Option Collection → Option State
copied_while s copy None = None
copied_while s copy (Some k) =
    if can_move s k copy.from (copy_size copy) && can_hold s copy.to (copy_size copy) then Some (with_copy s k copy) else None

abbrev pub copy_after : State → ObjectCopy → Option State
copy_after s copy = copied_while s copy s.collection

-- the state after several, one after another
abbrev pub copies_after : State → List ObjectCopy → Option State
copies_after s [] = Some s
copies_after s (copy ∷ copies) = option_and_then (λ next. copies_after next copies) (copy_after s copy)

-- The flip.

-- where the objects of these copies stood and stand
abbrev pub pairs_of : List ObjectCopy → List (ℕ × ℕ)
pairs_of copies = map (λ copy. (copy.from, copy.to)) copies

-- the copy of the object that stood at an address
abbrev pub copy_of : List ObjectCopy → ℕ → Option ObjectCopy
copy_of [] from = None
copy_of (copy ∷ copies) from = if copy.from == from then Some copy else copy_of copies from

-- a copy has such a field
abbrev pub has_field : ℕ → Option ObjectCopy → Bool
has_field field None = false
has_field field (Some copy) = nat_lt (field + 2) (copy_size copy)

-- a word of this meaning is no reference to a stable object, or one to an object that is copied
abbrev pub follows_copies : List ObjectCopy → Option Word → Bool
follows_copies copies None = true
follows_copies copies (Some word.Null) = true
follows_copies copies (Some (word.Int n)) = true
follows_copies copies (Some (word.Stable address)) = is_some (copy_of copies address)
follows_copies copies (Some (word.Volatile index)) = true

-- an entry can be translated by the copies: its object is copied with that field, and so is what the word leads to that it would put back
abbrev pub can_translate : List ObjectCopy → UndoEntry → Bool
can_translate copies u = has_field u.field (copy_of copies u.object) && follows_copies copies (meaning u.was)

-- so can each entry of each transaction
abbrev pub can_translate_all : List ObjectCopy → FinMap nat_cmp (List UndoEntry) → Bool
can_translate_all copies undo = list_all (λ e. list_all (can_translate copies) e.1) (finmap.entries undo)

-- the entries of all transactions when objects have moved
abbrev pub translated_undo : List (ℕ × ℕ) → FinMap nat_cmp (List UndoEntry) → FinMap nat_cmp (List UndoEntry)
translated_undo pairs undo = finmap.from_entries (map (λ e. (e.0, translated_list pairs e.1)) (finmap.entries undo))

-- the first of these copies is of the object at an address
abbrev pub begins_at : ℕ → List ObjectCopy → Bool
begins_at base [] = false
begins_at base (copy ∷ copies) = copy.from == base

-- the spaces have changed their roles, and nothing is copied yet
abbrev pub with_roles_changed : State → State
with_roles_changed s = record s { base = other_base s; used = 0; collection = Some (begun s.used) }

-- with the entries translated
abbrev pub with_undo : State → FinMap nat_cmp (List UndoEntry) → State
with_undo s undo = record s { undo = undo }

-- the state after a flip, if it can follow where such a collection runs or none
abbrev pub flipped_in : State → List ObjectCopy → Option Collection → Option State
flipped_in s copies (Some k) = None
flipped_in s copies None =
    if begins_at s.base copies && can_translate_all copies s.undo
    then option_map (λ next. with_undo next (translated_undo (pairs_of copies) s.undo)) (copies_after (with_roles_changed s) copies) else None

-- The scan, and the end.

-- a word address lies in the used words of the current space
abbrev pub is_used : State → ℕ → Bool
is_used s at = nat_le s.base at && nat_lt at (s.base + s.used)

-- a word of this meaning is a reference into them
abbrev pub leads_to_used : State → Option Word → Bool
leads_to_used s None = false
leads_to_used s (Some word.Null) = false
leads_to_used s (Some (word.Int n)) = false
leads_to_used s (Some (word.Stable address)) = is_used s address
leads_to_used s (Some (word.Volatile index)) = false

-- a page is one of the current space's
abbrev pub is_current_page : State → ℕ → Bool
is_current_page s page = nat_le s.base (PAGE_WORDS * page) && nat_lt (PAGE_WORDS * page) (s.base + space_words s.pages)

-- a write of a scan puts a reference to a used word into a used word
abbrev pub can_put : State → ℕ × ℕ → Bool
can_put s write = is_used s write.0 && leads_to_used s (meaning write.1)

-- the state after the scan of a page, if it can follow
abbrev pub scanned_in : State → ℕ → List (ℕ × ℕ) → Option Collection → Option State
scanned_in s page writes None = None
scanned_in s page writes (Some k) =
    if is_current_page s page && list_all (can_put s) writes then Some (record s { collection = Some (with_scanned k page) }) else None

-- the state after the end of a collection, if it can follow: nothing is gray
abbrev pub collected_in : State → Option Collection → Option State
collected_in s None = None
collected_in s (Some k) = if len k.gray == 0 then Some (record s { collection = None }) else None

-- the state after a record of a collection, if it can follow; no other record is one
abbrev pub collecting_after : State → Record → Option State
collecting_after s (Copy from to words) = copy_after s (record { from = from; to = to; words = words })
collecting_after s (Scan page writes) = scanned_in s page writes s.collection
collecting_after s (Flip copies) = flipped_in s copies s.collection
collecting_after s Collected = collected_in s s.collection
collecting_after s (Update t object field was word) = None
collecting_after s (Base t address words) = None
collecting_after s (Fix t object field word) = None
collecting_after s (Undo t object field word) = None
collecting_after s (Commit t) = None
collecting_after s (End t) = None
