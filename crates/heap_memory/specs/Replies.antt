-- What an event of a session that is not refused is answered, by what is kept in memory.
use Rattle.std.specs.Prelude.{ℕ, List, length, fold, Option, None, Some, is_some, Result, Ok, Err, slice_index, if◌then◌else◌}
use Rattle.graph_model.specs.declared.reply.Refusal.{Refusal}
use Rattle.graph_model.specs.declared.reply.Reply.{Reply}
use Rattle.graph_model.specs.declared.reply.Reply.TheVariants as answer
use Rattle.heap_words.specs.declared.Word.{Word}
use Rattle.heap_words.specs.declared.Word.TheVariants as word
use Rattle.heap_words.specs.Word.{meaning}
use Rattle.txn_table.specs.declared.place.Place.{Place}
use Rattle.heap_memory.specs.Memory.{Memory, own, is_same_place, held_place, fields_held}
use Rattle.heap_memory.specs.Collecting.{place_barrier, page_records, copied_in, words_copied, flip_copies}
use Rattle.flip_copy.specs.Copied.{copied_size}
use Rattle.heap_spaces.specs.Collection.{Collection}
use Rattle.log_machine.specs.Machine.{put_record}

-- what a read of a word of that meaning is answered
abbrev pub word_reply : Option Word → Reply
word_reply (Some (word.Int n)) = answer.Int n
word_reply (Some (word.Stable at)) = answer.Reference
word_reply (Some (word.Volatile at)) = answer.Reference
word_reply meant = answer.Null

-- what is meant by the word of a field of the object that a handle holds
abbrev pub meant_held : Memory → ℕ → ℕ → ℕ → Option Word
meant_held m s h i = meaning (slice_index (fields_held m (own m s) (held_place (own m s) h)) i)

-- the words after the scan that comes before field i of the object at a place is read or written
abbrev pub words_behind : Memory → Result Place Refusal → ℕ → List ℕ
words_behind m (Ok p) i = fold put_record m.words (place_barrier m p i)
words_behind m (Err why) i = m.words

-- what is meant there by the word of the field of the object that a handle holds
abbrev pub meant_behind : Memory → ℕ → ℕ → ℕ → Option Word
meant_behind m s h i = meant_held (record m { words = words_behind m (held_place (own m s) h) i }) s h i

abbrev pub get_reply : Memory → ℕ → ℕ → ℕ → Reply
get_reply m s h i = word_reply (meant_behind m s h i)

abbrev pub same_reply_of : Result Place Refusal → Result Place Refusal → Reply
same_reply_of (Ok p) (Ok q) = if is_same_place p q then answer.Yes else answer.No
same_reply_of one other = answer.No

-- whether two handles hold one object
abbrev pub same_reply : Memory → ℕ → ℕ → ℕ → Reply
same_reply m s h h2 = same_reply_of (held_place (own m s) h) (held_place (own m s) h2)

-- how many fields the object that a handle holds has
abbrev pub len_reply : Memory → ℕ → ℕ → Reply
len_reply m s h = answer.Length (length (fields_held m (own m s) (held_place (own m s) h)))

-- what a flip from these roots is answered
abbrev pub flip_reply : Memory → List ℕ → Reply
flip_reply m roots = if is_some m.collection then answer.Collecting else answer.Flipped (length (flip_copies m roots)) (copied_size (flip_copies m roots))

abbrev pub scan_reply_of : Memory → Option Collection → Option ℕ → Reply
scan_reply_of m None next = answer.Idle
scan_reply_of m (Some k) None = answer.Collected m.spaces.used
scan_reply_of m (Some k) (Some page) = answer.Scanned page (length (copied_in (page_records m page))) (words_copied (page_records m page))

-- what a scan whose next page is this is answered
abbrev pub scan_reply : Memory → Option ℕ → Reply
scan_reply m next = scan_reply_of m m.collection next

-- The event was not refused.
abbrev pub IsGranted : Reply → Type 0
IsGranted (answer.Refused why) = ⊥
IsGranted reply = Unit {0}
