-- The scan of a page: the fields of the gray objects that start in it are redirected to the current space, and what they lead to is copied.
use Rattle.std.specs.Prelude.{ℕ, zero, suc, ◌+◌, ◌-◌, ◌*◌, ◌==◌, nat_lt, nat_le, List, [], ◌∷◌, ◌++◌, Bool, not, ◌&&◌, ◌||◌, Option, None, Some, is_some, unwrap_or, option_and_then, fold, take, drop, slice_index, if◌then◌else◌}
use Rattle.std.specs.Option.{option_map}
use Rattle.std.specs.FinSet.{contains}
use Rattle.heap_words.specs.declared.Header.{Header}
use Rattle.heap_words.specs.declared.Header.TheVariants.{Forward}
use Rattle.heap_words.specs.declared.Word.{Word}
use Rattle.heap_words.specs.declared.Word.TheVariants as word
use Rattle.heap_words.specs.Header.{header}
use Rattle.heap_words.specs.Word.{bits, meaning}
use Rattle.heap_spaces.specs.Collection.{Collection}
use Rattle.heap_spaces.specs.Spaces.{SpacesState, space_words}
use Rattle.log_records.specs.declared.Record.{Record}
use Rattle.log_records.specs.declared.Record.TheVariants.{Update, Base, Fix, Undo, Commit, End, Copy, Scan, Flip, Collected}
use Rattle.object_layout.specs.Layout.{whole_length, field_words}
use Rattle.heap_words.specs.declared.TheConstants.{STABLE_WORDS, PAGE_WORDS}

-- The words are those before the scan: what a copy will write is in its record.

-- What a scan has planned so far.
pub record Planned : Type 0 where
  pub copies : List Record  -- the copies, in their order
  pub writes : List (ℕ × ℕ)  -- the fields that are led to the current space, each by its address and its new word
  pub size : ℕ  -- how many words the copies have

abbrev pub nothing : Planned
nothing = record { copies = []; writes = []; size = 0 }

-- What the copies say.

-- where the object at an address went, if this record copies it, and otherwise as was found before
abbrev pub going : ℕ → Option ℕ → Record → Option ℕ
going b found (Update t object field was word) = found
going b found (Base t address words) = found
going b found (Fix t object field word) = found
going b found (Undo t object field word) = found
going b found (Commit t) = found
going b found (End t) = found
going b found (Copy from to words) = if from == b then Some to else found
going b found (Scan page writes) = found
going b found (Flip copies) = found
going b found Collected = found

-- where the object at an address goes, if these copy it
abbrev pub copied_to : List Record → ℕ → Option ℕ
copied_to copies b = fold (going b) None copies

-- where the copy at an address comes from, if this record makes it, and otherwise as was found before
abbrev pub coming : ℕ → Option ℕ → Record → Option ℕ
coming at found (Update t object field was word) = found
coming at found (Base t address words) = found
coming at found (Fix t object field word) = found
coming at found (Undo t object field word) = found
coming at found (Commit t) = found
coming at found (End t) = found
coming at found (Copy from to words) = if to == at then Some from else found
coming at found (Scan page writes) = found
coming at found (Flip copies) = found
coming at found Collected = found

-- where the copy at an address comes from, if these make it
abbrev pub copied_from : List Record → ℕ → Option ℕ
copied_from copies at = fold (coming at) None copies

-- The spaces.

-- the address of the from-space's first word
abbrev pub from_base : SpacesState → ℕ
from_base spaces = space_words spaces.pages - spaces.base

-- a word address lies in the from-space
abbrev pub in_from_space : SpacesState → ℕ → Bool
in_from_space spaces at = nat_le (from_base spaces) at && nat_lt at (from_base spaces + space_words spaces.pages)

-- the address of the next word of the current space that no object and no planned copy takes
abbrev pub next_free : SpacesState → Planned → ℕ
next_free spaces q = spaces.base + spaces.used + q.size

-- an object or a planned copy takes the word at an address
abbrev pub is_taken : SpacesState → Planned → ℕ → Bool
is_taken spaces q at = nat_le spaces.base at && nat_lt at (next_free spaces q)

-- A copy.

-- the words of the object at an address that has that many fields
abbrev pub object_words : List ℕ → ℕ → ℕ → List ℕ
object_words words at n = take (2 + n) (drop at words)

-- an object of that many words at an address is one of those of the from-space that are left to be copied
abbrev pub is_left : SpacesState → Collection → ℕ → ℕ → Bool
is_left spaces k b size = nat_le (b + size) (from_base spaces + k.used) && not (contains k.moved b)

-- there is room for a copy of that many words, and as many are still to be copied
abbrev pub has_room : SpacesState → Collection → Planned → ℕ → Bool
has_room spaces k q size = nat_le (k.copied + (q.size + size)) k.used && nat_le (spaces.used + (q.size + size)) (space_words spaces.pages)

-- so the object may be copied
abbrev pub can_copy : SpacesState → Collection → Planned → ℕ → ℕ → Bool
can_copy spaces k q b size = is_left spaces k b size && has_room spaces k q size

-- with a copy of the object at an address that has that many fields
abbrev pub with_copy : SpacesState → List ℕ → Planned → ℕ → ℕ → Planned
with_copy spaces words q b n = record q { copies = q.copies ++ Copy b (next_free spaces q) (object_words words b n) ∷ []; size = q.size + (2 + n) }

-- the same, if an object of that many fields stands there and may be copied
abbrev pub copied : SpacesState → Collection → List ℕ → Planned → ℕ → Option ℕ → Option Planned
copied spaces k words q b None = None
copied spaces k words q b (Some n) = if can_copy spaces k q b (2 + n) then Some (with_copy spaces words q b n) else None

-- A field.

-- a reference to a word address may be put at an address: both are taken
abbrev pub can_write : SpacesState → Planned → ℕ → ℕ → Bool
can_write spaces q at to = is_taken spaces q at && (is_taken spaces q to && nat_lt to STABLE_WORDS)

-- with a reference to a word address put at an address, if it may be
abbrev pub written : SpacesState → Planned → ℕ → ℕ → Option Planned
written spaces q at to = if can_write spaces q at to then Some (record q { writes = q.writes ++ (at, bits (word.Stable to)) ∷ [] }) else None

-- the field at an address is redirected to the copy of the object at `b`, which has such a header and is not copied in this scan so far: to the
-- copy that was made before, or otherwise to one that is planned now
abbrev pub led : SpacesState → Collection → List ℕ → Planned → ℕ → ℕ → Option Header → Option Planned
led spaces k words q at b (Some (Forward to)) = written spaces q at to
led spaces k words q at b h = option_and_then (λ next. written spaces next at (next_free spaces q)) (copied spaces k words q b (whole_length words b h))

-- the same of an object of which it is known where this scan copies it, if it does so far
abbrev pub led_on : SpacesState → Collection → List ℕ → Planned → ℕ → ℕ → Option ℕ → Option Planned
led_on spaces k words q at b (Some to) = written spaces q at to
led_on spaces k words q at b None = led spaces k words q at b (header (slice_index words b))

-- a field of this meaning at an address: if it leads to the from-space, it is updated to the copy
abbrev pub follow : SpacesState → Collection → List ℕ → Planned → ℕ → Option Word → Option Planned
follow spaces k words q at None = Some q
follow spaces k words q at (Some word.Null) = Some q
follow spaces k words q at (Some (word.Int n)) = Some q
follow spaces k words q at (Some (word.Stable b)) = if in_from_space spaces b then led_on spaces k words q at b (copied_to q.copies b) else Some q
follow spaces k words q at (Some (word.Volatile index)) = Some q

-- fields of these words, from an address on, in order
abbrev pub follow_all : SpacesState → Collection → List ℕ → Planned → ℕ → List ℕ → Option Planned
follow_all spaces k words q at [] = Some q
follow_all spaces k words q at (w ∷ ws) = option_and_then (λ next. follow_all spaces k words next (at + 1) ws) (follow spaces k words q at (meaning w))

-- The page.

-- a gray object stands at an address, or one that this scan copies there
abbrev pub is_gray : Collection → Planned → ℕ → Bool
is_gray k q at = contains k.gray at || is_some (copied_from q.copies at)

-- where the words of the object that is to stand at an address are: there, or where it is copied from
abbrev pub source : Planned → ℕ → ℕ
source q at = unwrap_or (copied_from q.copies at) at

-- the fields of the object at an address are followed if it is gray
abbrev pub visit : SpacesState → Collection → List ℕ → Planned → ℕ → Option Planned
visit spaces k words q at = if is_gray k q at then follow_all spaces k words q (at + 2) (field_words words (source q at)) else Some q

-- so are those of the objects at a number of addresses from one on, ascending: an object that is copied there is met too
unfoldable pub visit_all : SpacesState → Collection → List ℕ → Planned → ℕ → ℕ → Option Planned
visit_all spaces k words q at zero = Some q
visit_all spaces k words q at (suc count) = option_and_then (λ next. visit_all spaces k words next (at + 1) count) (visit spaces k words q at)

-- a page is one of the current space's
abbrev pub is_current : SpacesState → ℕ → Bool
is_current spaces page = nat_le spaces.base (PAGE_WORDS * page) && nat_lt (PAGE_WORDS * page) (spaces.base + space_words spaces.pages)

-- what a scan of a page plans, if all of it can follow
abbrev pub scan : SpacesState → Collection → List ℕ → ℕ → Option Planned
scan spaces k words page = if is_current spaces page then visit_all spaces k words nothing (PAGE_WORDS * page) PAGE_WORDS else None

-- the records of what is planned: the copies, and the scan
abbrev pub records_of : ℕ → Planned → List Record
records_of page q = q.copies ++ Scan page q.writes ∷ []

-- the records of the scan of a page, if they can follow
abbrev pub scan_records : SpacesState → Collection → List ℕ → ℕ → Option (List Record)
scan_records spaces k words page = option_map (records_of page) (scan spaces k words page)
