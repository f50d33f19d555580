-- The words after a seal: objects that stood in the space have the same headers and births, and their fields after the move; those that are
-- promoted stand at their new addresses; and no other word of the used ones changes.
use Rattle.std.proofs.Common.{◌≡◌, ◌≢◌, ℕ, ◌<◌, ◌≤◌, ◌+◌, inl, inr, Bool, true, false, List, [], ◌∷◌, ◌++◌, map, length, take, drop, get_or, Some, refl, sym, ap, ◌∙◌, arith}
use Rattle.std.specs.Prelude.{Contains, fold, slice_get, slice_index, slice_index_or}
use Rattle.std.proofs.lemmas.Option.{same_Some, slice_get-get_or}
use Rattle.std.proofs.lemmas.List.{length-map, length-take-le, get_or_append_left, get_or-take}
use Rattle.std.proofs.lemmas.List.Sums.{fold-append}
use Rattle.heap_words.specs.declared.Word.TheVariants as word
use Rattle.heap_words.specs.declared.Header.TheVariants.{Length}
use Rattle.heap_words.specs.Header.{header_bits}
use Rattle.heap_words.specs.Word.{meaning, is_volatile}
use Rattle.graph_model.specs.declared.id.Id.{Id}
use Rattle.graph_model.specs.declared.val.Val.{Val}
use Rattle.graph_model.specs.declared.val.Val.TheVariants.{Null, Int, Ref}
use Rattle.graph_model.specs.Graph.{fields}
use Rattle.log_records.specs.declared.Record.{Record}
use Rattle.log_machine.specs.Machine.{field_at, put_record}
use Rattle.log_machine.proofs.WordsLaws.{length-put_record}
use Rattle.object_layout.specs.Layout.{field_words, birth_at}
use Rattle.graph_words.proofs.Places.Lists.{AllByRecursion-get}
use Rattle.graph_words.specs.Places.{address_of, index_of, IsOwn, IsVisible, bits_of}
use Rattle.graph_words.proofs.Places.Addresses.{none_or_some}
use Rattle.graph_words.proofs.Stands.Objects.{stands_field, stands_field_apart, stands_within, visible_meaning}
use Rattle.graph_words.proofs.Stands.Visible.{place_of-placed}
use Rattle.graph_words.specs.Promotion.{Field, written_fields, words_taken, moved, moved_word, promoted_words, base_of}
use Rattle.graph_words.proofs.Area.Fields.{field_from_written}
use Rattle.graph_words.proofs.Promotion.Fix.{fixes, fixes_beside, fixes_behind, fixes_right, fixes_at}
use Rattle.graph_words.proofs.Places.Moved.{moved_word-plain, volatile_told}
use Rattle.graph_words.proofs.Stands.ReadBack.{IsChangedTo, IsObjectAt, object_from_words}
use Rattle.graph_words.proofs.Area.Made.{own_short}
use Rattle.graph_words.proofs.Stands.Run.{all_moved, put_bases, put_at}
use Rattle.graph_words.proofs.Seal.Sealing.{Sealing, IsSealing, Appends, place, area, moves, need, records, later_words}
use Rattle.graph_words.proofs.Seal.Fields.{written_field, own_length, own_header}

-- records put no word anywhere but in the words
pub length-records : (rs : List Record) (now : List ℕ) → length (fold put_record now rs) ≡ length now
length-records [] now = refl
length-records (r ∷ rs) now = length-records rs (put_record now r) ∙ length-put_record now r

-- the words with the promoted objects
abbrev middle : Sealing → List ℕ
middle c = fold put_record c.words (map (base_of (area c) (moves c)) (moves c))

later_from_middle : (c : Sealing) → later_words c ≡ fold put_record (middle c) (fixes c.t c.words (moves c) (written_fields c.undo))
later_from_middle c = fold-append put_record c.words (map (base_of (area c) (moves c)) (moves c)) (fixes c.t c.words (moves c) (written_fields c.undo))

middle_is : (c : Sealing) → Appends c → middle c ≡ take c.address c.words ++ (all_moved (area c) (moves c) c.starts ++ drop (c.address + need c) c.words)
middle_is c is = put_bases (area c) (moves c) c.starts c.address c.words is.room

-- the words keep their number
pub length-later_words : (c : Sealing) → length (later_words c) ≡ length c.words
length-later_words c = length-records (records c) c.words

middle_front : (c : Sealing) → Appends c → (x : ℕ) → x < c.address → get_or (middle c) x 0 ≡ get_or c.words x 0
middle_front c is x below =
    let room = is.room in
    let long = length-take-le c.address c.words (omega arith) in
    ap (λ ws. get_or ws x 0) (middle_is c is)
    ∙ get_or_append_left (take c.address c.words) (all_moved (area c) (moves c) c.starts ++ drop (c.address + need c) c.words) 0 x (omega arith)
    ∙ get_or-take c.address c.words x 0 below

-- The objects that stood in the space.

-- a word of the used ones stays where it is no field that was written
pub later_beside : (c : Sealing) → Appends c → (x : ℕ) → x < c.address → ((f : Field) → Contains (written_fields c.undo) f → field_at f.0 f.1 ≢ x)
    → get_or (later_words c) x 0 ≡ get_or c.words x 0
later_beside c is x below apart =
    ap (λ ws. get_or ws x 0) (later_from_middle c) ∙ fixes_beside c.t c.words (middle c) (moves c) (written_fields c.undo) x apart ∙ middle_front c is x below

no_header : (c : Sealing) → IsSealing c → (id : Id) (at : ℕ) → address_of c.places id ≡ Some at → (f : Field) → Contains (written_fields c.undo) f → field_at f.0 f.1 ≢ at
no_header c is id at there f has same =
    let one = written_field c is f has in
    elim (stands_field_apart is.stands one.id id f.0 at f.1 one.object there one.within) [
      | inl equal ↦ let place = sym one.object ∙ ap (address_of c.places) equal ∙ there in let at_one = same_Some f.0 at place in omega arith
      | inr (inl before) ↦ omega arith
      | inr (inr behind) ↦ omega arith
    ]

no_birth : (c : Sealing) → IsSealing c → (id : Id) (at : ℕ) → address_of c.places id ≡ Some at → (f : Field) → Contains (written_fields c.undo) f → field_at f.0 f.1 ≢ at + 1
no_birth c is id at there f has same =
    let one = written_field c is f has in
    elim (stands_field_apart is.stands one.id id f.0 at f.1 one.object there one.within) [
      | inl equal ↦ let place = sym one.object ∙ ap (address_of c.places) equal ∙ there in let at_one = same_Some f.0 at place in omega arith
      | inr (inl before) ↦ omega arith
      | inr (inr behind) ↦ omega arith
    ]

volatile_written : (c : Sealing) → IsSealing c → (id : Id) (at i a : ℕ) (v : Val) → address_of c.places id ≡ Some at → slice_get (fields c.g id) i ≡ Some v → IsVisible c.places c.t c.made v
    → meaning (bits_of (place c) v) ≡ Some (word.Volatile a) → Contains (written_fields c.undo) (at, i)
volatile_written c is id at i a Null there got seen meant = absurd (cc (meant, visible_meaning is.stands is.has Null tt))
volatile_written c is id at i a (Int n) there got seen meant = absurd (cc (meant, visible_meaning is.stands is.has (Int n) seen))
volatile_written c is id at i a (Ref target) there got seen meant = elim (none_or_some (address_of c.places target)) [
  | inl none ↦ field_from_written c.undo at i (is.written id target at i there got none)
  | inr old ↦ absurd (cc (meant, visible_meaning is.stands is.has (Ref target) seen ∙ ap Some (place_of-placed c.places c.g target old.0 old.1)))
]

field_changed : (c : Sealing) → Appends c → (id : Id) (at i : ℕ) (volatile : Bool) → address_of c.places id ≡ Some at → i < length (fields c.g id)
    → is_volatile (slice_index c.words (field_at at i)) ≡ volatile → get_or (later_words c) (field_at at i) 0 ≡ moved_word (moves c) (slice_index c.words (field_at at i))
field_changed c is id at i false there within off =
    let lies = stands_within is.sealing.stands id at there in
    let below = lies.below in
    let room = is.room in
    let end = is.end in
    ap (λ ws. get_or ws (field_at at i) 0) (later_from_middle c)
    ∙ fixes_right c.t c.words (middle c) (moves c) (written_fields c.undo) (field_at at i) (omega (arith, length-records (map (base_of (area c) (moves c)) (moves c)) c.words))
    (middle_front c is (field_at at i) (omega arith) ∙ sym (moved_word-plain (moves c) (slice_index c.words (field_at at i)) off))
field_changed c is id at i true there within on =
    let lies = stands_within is.sealing.stands id at there in
    let below = lies.below in
    let room = is.room in
    let end = is.end in
    let v = slice_index_or (fields c.g id) i Null in
    let got : slice_get (fields c.g id) i ≡ Some v = slice_get-get_or (fields c.g id) i Null within in
    let seen = AllByRecursion-get (IsVisible c.places c.t c.made) (fields c.g id) i v (is.sealing.stands.visible id at there) got in
    let told = volatile_told (slice_index c.words (field_at at i)) on in
    let has = volatile_written c is.sealing id at i told.0 v there got seen (ap meaning (sym (stands_field is.sealing.stands id at i there within)) ∙ told.1) in
    let f : Field = (at, i) in
    ap (λ ws. get_or ws (field_at at i) 0) (later_from_middle c)
    ∙ fixes_at c.t c.words (middle c) (moves c) (written_fields c.undo) f has (omega (arith, length-records (map (base_of (area c) (moves c)) (moves c)) c.words)) on

-- an object that stood in the space has its header and birth, and its fields after the move
pub later_changed : (c : Sealing) → Appends c → (id : Id) (at : ℕ) → address_of c.places id ≡ Some at → IsChangedTo (moved_word (moves c)) c.words (later_words c) at (length (fields c.g id))
later_changed c is id at there =
    let lies = stands_within is.sealing.stands id at there in
    let below = lies.below in
    let end = is.end in
    record {
      same = length-later_words c;
      header_same = later_beside c is at (omega arith) (no_header c is.sealing id at there);
      birth_same = later_beside c is (at + 1) (omega arith) (no_birth c is.sealing id at there);
      fields_changed = λ i within. field_changed c is id at i (is_volatile (slice_index c.words (field_at at i))) there within refl;
    }

-- The objects that are promoted.

fields_below : (c : Sealing) → IsSealing c → (x : ℕ) → c.base + c.used ≤ x → (f : Field) → Contains (written_fields c.undo) f → field_at f.0 f.1 < x
fields_below c is x above f has =
    let one = written_field c is f has in
    let within = one.within in
    let lies = stands_within is.stands one.id f.0 one.object in
    let below = lies.below in
    omega arith

later_behind : (c : Sealing) → Appends c → (x : ℕ) → c.address ≤ x → drop x (later_words c) ≡ drop x (middle c)
later_behind c is x above =
    let end = is.end in
    ap (drop x) (later_from_middle c) ∙ fixes_behind c.t c.words (middle c) (moves c) (written_fields c.undo) x (fields_below c is.sealing x (omega arith))

-- at its new address stand the words of an object after the move
pub later_run : (c : Sealing) → Appends c → (at new : ℕ) → moved (moves c) at ≡ Some new → c.address ≤ new
    → take (words_taken (area c) at) (drop new (later_words c)) ≡ promoted_words (area c) (moves c) at
later_run c is at new there above =
    let room = is.room in
    ap (take (words_taken (area c) at)) (later_behind c is new above ∙ ap (drop new) (middle_is c is))
    ∙ put_at (area c) (moves c) c.starts c.address (take c.address c.words) (drop (c.address + need c) c.words) at new
    (length-take-le c.address c.words (omega arith)) there

-- so the object stands there, with its birth and its fields after the move
pub later_object : (c : Sealing) → Appends c → (id : Id) (new : ℕ) → IsOwn c.t c.made id → moved (moves c) (index_of c.g id) ≡ Some new → c.address ≤ new
    → IsObjectAt (later_words c) new (birth_at (area c).words (index_of c.g id)) (map (moved_word (moves c)) (field_words (area c).words (index_of c.g id)))
later_object c is id new own there above =
    let at = index_of c.g id in
    let ws = map (moved_word (moves c)) (field_words (area c).words at) in
    let long : length ws ≡ length (field_words (area c).words at) = length-map (field_words (area c).words at) (moved_word (moves c)) in
    object_from_words (later_words c) new (birth_at (area c).words at) ws (omega (arith, own_length c is.sealing id own, own_short is.sealing.has own))
    (ap (λ n. take (2 + n) (drop new (later_words c))) long ∙ later_run c is at new there above
    ∙ ap (λ h. h ∷ birth_at (area c).words at ∷ ws) (own_header c is.sealing id own ∙ ap (λ n. header_bits (Length n)) (sym long)))
