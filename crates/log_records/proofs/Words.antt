-- The words of a base, read and spelled one after another.
use Rattle.std.proofs.Common.{◌≡◌, ℕ, ◌+◌, ◌*◌, ◌-◌, ◌<◌, ◌≤◌, ◌^◌, List, [], ◌∷◌, ◌++◌, length, get_or, take, drop, Option, Some, refl, sym, ap, ◌∙◌, arith, length-append, append_assoc, length-drop}
use Rattle.std.specs.List.{AllByRecursion, flat_map}
use Rattle.heap_words.specs.Word.{IsFieldWord}
use Rattle.heap_words.specs.declared.Header.{Header}
use Rattle.heap_words.specs.declared.Header.TheVariants.{Length}
use Rattle.heap_words.specs.Header.{header, header_bits}
use Rattle.heap_words.proofs.HeaderLaws.{header-header_bits, bits-header}
use Rattle.std.proofs.lemmas.List.{append-nil, drop-drop, take_at, take_rest}
use Rattle.std.proofs.lemmas.Grind.{flat_map-append}
use Rattle.std.specs.Int.{w32, w64, to_le_bytes}
use Rattle.byteorder.specs.Endian.{little_number}
use Rattle.byteorder.specs.Numbers.{little_number-reads_back}
use Rattle.log_records.specs.declared.Record.{Record}
use Rattle.log_records.specs.declared.Record.TheVariants.{Base}
use Rattle.log_records.specs.Copies.{word_bytes, write_bytes}
use Rattle.log_records.specs.Record.{spelling, IsObjectWords, IsBase, IsRecord}
use Rattle.log_records.proofs.RecordLaws.{length-word_bytes, length-writes, length-Base, one_words, object_small}
use Rattle.log_records.proofs.Fields.{IsBytes, IsBytes-drop, spelled_4, spelled_8}
use Rattle.log_records.proofs.Spelled.{from_place}

-- how many bytes words take, under a name that code can use
pub length_word_bytes : (words : List ℕ) → length (word_bytes words) ≡ 8 * length words
length_word_bytes words = length-word_bytes words

-- and how many writes take
pub length_writes : (writes : List (ℕ × ℕ)) → length (flat_map write_bytes writes) ≡ 12 * length writes
length_writes writes = length-writes writes

-- one more word is spelled after those before it
pub word_bytes-push : (words : List ℕ) (w : ℕ) → word_bytes (words ++ w ∷ []) ≡ word_bytes words ++ to_le_bytes w64 w
word_bytes-push words w = flat_map-append (to_le_bytes w64) words (w ∷ []) ∙ ap (λ (l : List ℕ). word_bytes words ++ l) (append-nil (to_le_bytes w64 w))

-- one more word is read
pub words_on : (bytes words : List ℕ) (i w : ℕ) → IsBytes bytes → 8 * (i + 1) ≤ length bytes → bytes ≡ word_bytes words ++ drop (8 * i) bytes → w ≡ little_number 8 (take (length bytes - 8 * i) (drop (8 * i) bytes))
    → bytes ≡ word_bytes (words ++ w ∷ []) ++ drop (8 * (i + 1)) bytes
words_on bytes words i w fits large so_far read =
    let further : 8 * i + 8 ≡ 8 * (i + 1) = omega arith in
    let next = spelled_8 (drop (8 * i) bytes) w (IsBytes-drop (8 * i) bytes fits) (omega (arith, large, length-drop (8 * i) bytes)) (read ∙ ap (little_number 8) (take_rest bytes (8 * i)))
    ∙ ap (λ (l : List ℕ). to_le_bytes w64 w ++ l) (drop-drop 8 (8 * i) bytes ∙ ap (λ (k : ℕ). drop k bytes) further) in
    so_far
    ∙ ap (λ (l : List ℕ). word_bytes words ++ l) next
    ∙ sym (append_assoc (word_bytes words) (to_le_bytes w64 w) (drop (8 * (i + 1)) bytes))
    ∙ ap (λ (l : List ℕ). l ++ drop (8 * (i + 1)) bytes) (sym (word_bytes-push words w))

-- a header that was read
pub header_read : (w fields : ℕ) (found : Option Header) (h : Header) → found ≡ header w → found ≡ Some h → h ≡ Length fields → (fields < 511) × (w ≡ header_bits (Length fields))
header_read w fields found h read is length = bits-header w (Length fields) (sym read ∙ is ∙ ap (λ x. Some x) length)

-- a header that stands there is found
pub header_stands : (w n : ℕ) (found : Option Header) → n < 511 → found ≡ header w → w ≡ header_bits (Length n) → found ≡ Some (Length n)
header_stands w n found few read is = read ∙ ap header is ∙ header-header_bits (Length n) few

-- one more word fits
pub fit_push : (words : List ℕ) (w : ℕ) → AllByRecursion (λ w. w < 2 ^ 64) words → w < 2 ^ 64 → AllByRecursion (λ w. w < 2 ^ 64) (words ++ w ∷ [])
fit_push [] w fit small = (small, tt)
fit_push (v ∷ vs) w fit small = (fit.0, fit_push vs w fit.1 small)

-- How many words the object has whose words the bytes begin with.
pub record Counts (bytes words : List ℕ) : Type 0 where
  pub n : ℕ
  pub few : n < 511
  pub size : length words ≡ 2 + n
  pub large : 8 * (2 + n) ≤ length bytes
  pub header_is : little_number 8 bytes ≡ header_bits (Length n)

pub object_counts : (bytes words rest : List ℕ) → IsObjectWords words → bytes ≡ word_bytes words ++ rest → Counts bytes words
object_counts bytes [] rest good is = absurd good
object_counts bytes (h ∷ []) rest good is = absurd good
object_counts bytes (h ∷ birth ∷ fields) rest good is =
    let small = object_small (h ∷ birth ∷ fields) good in
    let size : length (h ∷ birth ∷ fields) ≡ 2 + length fields = omega arith in
    record {
      n = length fields;
      few = good.few;
      size = size;
      large = omega (arith, ap (λ (l : List ℕ). length l) is, length-append (word_bytes (h ∷ birth ∷ fields)) rest, length-word_bytes (h ∷ birth ∷ fields));
      header_is = ap (little_number 8) (is ∙ append_assoc (to_le_bytes w64 h) (word_bytes (birth ∷ fields)) rest) ∙ little_number-reads_back 8 h (word_bytes (birth ∷ fields) ++ rest) small.0 ∙ good.tells;
    }

-- the words that were read are an object's
pub object_read : (bytes words rest : List ℕ) (n : ℕ) → n < 511 → length words ≡ 2 + n → little_number 8 bytes ≡ header_bits (Length n) → bytes ≡ word_bytes words ++ rest
    → AllByRecursion (λ w. w < 2 ^ 64) words → AllByRecursion IsFieldWord (drop 2 words) → IsObjectWords words
object_read bytes [] rest n few size header_is read fits good = absurd (omega (arith, size))
object_read bytes (h ∷ []) rest n few size header_is read fits good = absurd (omega (arith, size))
object_read bytes (h ∷ birth ∷ fields) rest n few size header_is read fits good =
    let here = ap (little_number 8) (read ∙ append_assoc (to_le_bytes w64 h) (word_bytes (birth ∷ fields)) rest) ∙ little_number-reads_back 8 h (word_bytes (birth ∷ fields) ++ rest) fits.0 in
    let same : n ≡ length fields = omega (arith, size) in
    record { tells = sym here ∙ header_is ∙ ap (λ (k : ℕ). header_bits (Length k)) same; few = omega (arith, few, same); birth_fits = fits.1.0; field_words = good }

-- and the only object's that the bytes begin with
pub object_once : (bytes words found rest more : List ℕ) (count : ℕ) → IsObjectWords words → bytes ≡ word_bytes words ++ rest → length words ≡ count → length found ≡ count
    → AllByRecursion (λ w. w < 2 ^ 64) found → bytes ≡ word_bytes found ++ more → found ≡ words
object_once bytes words found rest more count good is size size' fits read = (one_words found words more rest (size' ∙ sym size) fits (object_small words good) (sym read ∙ is)).0

-- its fields' words are those of fields
pub object_fields : (words : List ℕ) → IsObjectWords words → AllByRecursion IsFieldWord (drop 2 words)
object_fields [] good = absurd good
object_fields (h ∷ []) good = absurd good
object_fields (h ∷ birth ∷ fields) good = good.field_words

-- Where a base is spelled its fields are read, and its words are spelled after them.
pub record HasBase (bytes : List ℕ) (rec : Record) : Type 0 where
  pub t : ℕ
  pub address : ℕ
  pub words : List ℕ
  pub rest : List ℕ
  pub is : rec ≡ Base t address words
  pub good : IsBase t address words
  pub large : 8 ≤ length bytes
  pub t_read : little_number 4 bytes ≡ t
  pub address_read : little_number 4 (from_place 4 bytes) ≡ address
  pub behind : drop 8 bytes ≡ word_bytes words ++ rest

pub has_base : (rec : Record) (bytes rest : List ℕ) → IsRecord rec → 2 ∷ bytes ≡ spelling rec ++ rest → HasBase bytes rec
has_base (Base t address words) bytes rest good e =
    let same : bytes ≡ to_le_bytes w32 t ++ (to_le_bytes w32 address ++ (word_bytes words ++ rest)) = ap (λ (l : List ℕ). drop 1 l) e in
    record {
      t = t;
      address = address;
      words = words;
      rest = rest;
      is = refl;
      good = good;
      large = omega (arith, ap length same);
      t_read = ap (little_number 4) same ∙ little_number-reads_back 4 t (to_le_bytes w32 address ++ (word_bytes words ++ rest)) good.t_fits;
      address_read = ap (little_number 4) (take_rest bytes 4 ∙ ap (λ (l : List ℕ). drop 4 l) same) ∙ little_number-reads_back 4 address (word_bytes words ++ rest) good.address_fits;
      behind = ap (λ (l : List ℕ). drop 8 l) same;
    }
has_base rec bytes rest good e = absurd (omega (arith, ap (λ (l : List ℕ). get_or l 0 0) e))

-- two numbers that were read are spelled in front of words
pub pair_read : (bytes words rest : List ℕ) (first second : ℕ) → IsBytes bytes → 8 ≤ length bytes → first ≡ little_number 4 bytes → second ≡ little_number 4 (from_place 4 bytes) → drop 8 bytes ≡ word_bytes words ++ rest
    → bytes ≡ to_le_bytes w32 first ++ (to_le_bytes w32 second ++ (word_bytes words ++ rest))
pair_read bytes words rest first second fits large first_read second_read behind =
    spelled_4 bytes first fits (omega (arith, large)) first_read
    ∙ ap (λ (l : List ℕ). to_le_bytes w32 first ++ l) (spelled_4 (drop 4 bytes) second (IsBytes-drop 4 bytes fits) (omega (arith, large, length-drop 4 bytes)) (second_read ∙ ap (little_number 4) (take_rest bytes 4))
    ∙ ap (λ (l : List ℕ). to_le_bytes w32 second ++ l) (drop-drop 4 4 bytes ∙ behind))

-- a base that was read is spelled in front
pub base_read : (bytes words rest : List ℕ) (t address : ℕ) → IsBytes bytes → 8 ≤ length bytes → t ≡ little_number 4 bytes → address ≡ little_number 4 (from_place 4 bytes) → drop 8 bytes ≡ word_bytes words ++ rest
    → 2 ∷ bytes ≡ spelling (Base t address words) ++ rest
base_read bytes words rest t address fits large t_read address_read behind = ap (λ (l : List ℕ). 2 ∷ l) (pair_read bytes words rest t address fits large t_read address_read behind)

-- and takes that many bytes
pub base_front : (bytes words rest : List ℕ) (t address n : ℕ) → n ≡ length words → 2 ∷ bytes ≡ spelling (Base t address words) ++ rest → (take (9 + 8 * n) (2 ∷ bytes) ≡ spelling (Base t address words)) × (9 + 8 * n ≡ length (spelling (Base t address words)))
base_front bytes words rest t address n size is =
    let long : 9 + 8 * n ≡ length (spelling (Base t address words)) = omega (arith, size, length-Base t address words) in
    (ap (λ (l : List ℕ). take (9 + 8 * n) l) is ∙ take_at (spelling (Base t address words)) rest (9 + 8 * n) (sym long), long)
