-- Laws of the records' spelling: bytes begin with the spelling of at most one record.
use Rattle.std.specs.Prelude.{◌≡◌, ℕ, ◌+◌, ◌*◌, ◌^◌, ◌<◌, ◌≤◌, List, [], ◌∷◌, ◌++◌, length, drop, get_or, refl}
use Rattle.std.proofs.Common.{sym, ap, ◌∙◌, arith, length-append, append_assoc}
use Rattle.std.proofs.lemmas.List.{drop_at}
use Rattle.std.specs.Int.{w16, w32, w64, to_le_bytes, bytes_low_first}
use Rattle.std.specs.List.{AllByRecursion, flat_map}
use Rattle.byteorder.specs.Endian.{little_number}
use Rattle.byteorder.specs.Numbers.{little_number-reads_back, length-bytes_low_first}
use Rattle.heap_words.specs.Word.{bits, IsWord, IsFieldWord}
use Rattle.heap_words.specs.declared.Word.{Word}
use Rattle.heap_words.specs.declared.Word.TheVariants.{Null, Int, Stable, Volatile}
use Rattle.log_records.specs.declared.Record.{Record}
use Rattle.log_records.specs.declared.Record.TheVariants.{Update, Base, Fix, Undo, Commit, End, Copy, Scan, Flip, Collected}
use Rattle.log_records.specs.declared.copies.ObjectCopy.{ObjectCopy}
use Rattle.log_records.specs.Copies.{word_bytes, write_bytes, copy_bytes}
use Rattle.log_records.specs.Record.{spelling, spellings, IsObjectWords, IsObjectCopy, IsPut, IsRecord, IsWrite}
use Rattle.log_records.proofs.Lists.{one_list_of}

-- a record takes a byte at least
pub some_spelling : (rec : Record) → 0 < length (spelling rec)
some_spelling (Update t object field was word) = omega arith
some_spelling (Base t address words) = omega arith
some_spelling (Fix t object field word) = omega arith
some_spelling (Undo t object field word) = omega arith
some_spelling (Commit t) = omega arith
some_spelling (End t) = omega arith
some_spelling (Copy from to words) = omega arith
some_spelling (Scan page writes) = omega arith
some_spelling (Flip copies) = omega arith
some_spelling Collected = omega arith

-- so records have no fewer bytes than they are
pub few_spelled : (records : List Record) → length records ≤ length (spellings records)
few_spelled [] = omega arith
few_spelled (r ∷ rs) = omega (arith, some_spelling r, few_spelled rs, length-append (spelling r) (spellings rs))

-- a field's word takes eight bytes
pub field_word_small : (w : ℕ) → IsFieldWord w → w < 256 ^ 8
field_word_small w (word, good, is) = small word good is
  where
    small : (word : Word) → IsWord word → w ≡ bits word → w < 256 ^ 8
    small Null good is = omega (arith, is)
    small (Int n) good is = omega (arith, is, good)
    small (Stable address) good is = omega (arith, is, good)
    small (Volatile index) good is = omega (arith, is, good)

-- bytes begin with one number of n bytes
pub one_number : (n x y : ℕ) (more rest : List ℕ) → x < 256 ^ n → y < 256 ^ n → bytes_low_first 0 n x ++ more ≡ bytes_low_first 0 n y ++ rest → (x ≡ y) × (more ≡ rest)
one_number n x y more rest small small' same = (
  sym (little_number-reads_back n x more small) ∙ ap (little_number n) same ∙ little_number-reads_back n y rest small',
  sym (drop_at (bytes_low_first 0 n x) more n (length-bytes_low_first 0 n x)) ∙ ap (λ (l : List ℕ). drop n l) same ∙ drop_at (bytes_low_first 0 n y) rest n (length-bytes_low_first 0 n y),
)

-- words take eight bytes each
pub length-word_bytes : (words : List ℕ) → length (word_bytes words) ≡ 8 * length words
length-word_bytes [] = refl
length-word_bytes (w ∷ ws) = let more = length-word_bytes ws in omega (arith, length-append (to_le_bytes w64 w) (word_bytes ws))

-- how many bytes a base takes
pub length-Base : (t address : ℕ) (words : List ℕ) → length (spelling (Base t address words)) ≡ 9 + 8 * length words
length-Base t address words = omega (arith, length-word_bytes words)

-- writes take twelve bytes each
pub length-writes : (writes : List (ℕ × ℕ)) → length (flat_map write_bytes writes) ≡ 12 * length writes
length-writes [] = refl
length-writes (w ∷ ws) = let more = length-writes ws in omega (arith, length-append (write_bytes w) (flat_map write_bytes ws), more)

-- how many bytes a copy takes
pub length-copy_bytes : (copy : ObjectCopy) → length (copy_bytes copy) ≡ 8 + 8 * length copy.words
length-copy_bytes copy = omega (arith, length-word_bytes copy.words)

-- bytes begin with one list of that many words
pub one_words : (words words' more rest : List ℕ) → length words ≡ length words' → AllByRecursion (λ w. w < 2 ^ 64) words → AllByRecursion (λ w. w < 2 ^ 64) words' → word_bytes words ++ more ≡ word_bytes words' ++ rest → (words ≡ words') × (more ≡ rest)
one_words [] [] more rest size small small' same = (refl, same)
one_words [] (w' ∷ ws') more rest size small small' same = absurd (omega (arith, size))
one_words (w ∷ ws) [] more rest size small small' same = absurd (omega (arith, size))
one_words (w ∷ ws) (w' ∷ ws') more rest size small small' same =
    let left = append_assoc (to_le_bytes w64 w) (word_bytes ws) more in
    let right = append_assoc (to_le_bytes w64 w') (word_bytes ws') rest in
    let first = one_number 8 w w' (word_bytes ws ++ more) (word_bytes ws' ++ rest) small.0 small'.0 (sym left ∙ same ∙ right) in
    let others = one_words ws ws' more rest (omega (arith, size)) small.1 small'.1 first.1 in
    (cc (first.0, others.0), others.1)

small_fields : (fields : List ℕ) → AllByRecursion IsFieldWord fields → AllByRecursion (λ w. w < 2 ^ 64) fields
small_fields [] good = tt
small_fields (w ∷ ws) good = (field_word_small w good.0, small_fields ws good.1)

-- an object's words take eight bytes each
pub object_small : (words : List ℕ) → IsObjectWords words → AllByRecursion (λ w. w < 2 ^ 64) words
object_small [] good = absurd good
object_small (header ∷ []) good = absurd good
object_small (header ∷ birth ∷ fields) good = (omega (arith, good.tells, good.few), (good.birth_fits, small_fields fields good.field_words))

-- bytes begin with the words of one object
pub one_object : (words words' more rest : List ℕ) → IsObjectWords words → IsObjectWords words' → word_bytes words ++ more ≡ word_bytes words' ++ rest → (words ≡ words') × (more ≡ rest)
one_object [] words' more rest good good' same = absurd good
one_object (header ∷ []) words' more rest good good' same = absurd good
one_object (header ∷ birth ∷ fields) [] more rest good good' same = absurd good'
one_object (header ∷ birth ∷ fields) (header' ∷ []) more rest good good' same = absurd good'
one_object (header ∷ birth ∷ fields) (header' ∷ birth' ∷ fields') more rest good good' same =
    let small = object_small (header ∷ birth ∷ fields) good in
    let small' = object_small (header' ∷ birth' ∷ fields') good' in
    let left = append_assoc (to_le_bytes w64 header) (word_bytes (birth ∷ fields)) more in
    let right = append_assoc (to_le_bytes w64 header') (word_bytes (birth' ∷ fields')) rest in
    let first = one_number 8 header header' (word_bytes (birth ∷ fields) ++ more) (word_bytes (birth' ∷ fields') ++ rest) small.0 small'.0 (sym left ∙ same ∙ right) in
    one_words (header ∷ birth ∷ fields) (header' ∷ birth' ∷ fields') more rest (omega (arith, first.0, good.tells, good'.tells)) small small' same

-- bytes begin with one write
pub one_write : (a b : ℕ × ℕ) (more rest : List ℕ) → IsWrite a → IsWrite b → write_bytes a ++ more ≡ write_bytes b ++ rest → (a ≡ b) × (more ≡ rest)
one_write a b more rest good good' same =
    let first = one_number 4 a.0 b.0 (to_le_bytes w64 a.1 ++ more) (to_le_bytes w64 b.1 ++ rest) good.0 good'.0 same in
    let second = one_number 8 a.1 b.1 more rest (field_word_small a.1 good.1) (field_word_small b.1 good'.1) first.1 in
    (λ i. (first.0 i, second.0 i), second.1)

-- bytes begin with one copy
pub one_copy : (a b : ObjectCopy) (more rest : List ℕ) → IsObjectCopy a → IsObjectCopy b → copy_bytes a ++ more ≡ copy_bytes b ++ rest → (a ≡ b) × (more ≡ rest)
one_copy a b more rest good good' same =
    let from = one_number 4 a.from b.from (to_le_bytes w32 a.to ++ (word_bytes a.words ++ more)) (to_le_bytes w32 b.to ++ (word_bytes b.words ++ rest)) good.from_fits good'.from_fits same in
    let to = one_number 4 a.to b.to (word_bytes a.words ++ more) (word_bytes b.words ++ rest) good.to_fits good'.to_fits from.1 in
    let words = one_object a.words b.words more rest good.object good'.object to.1 in
    (λ i. record { from = from.0 i; to = to.0 i; words = words.0 i }, words.1)

-- bytes begin with the fields of one fix or undo
one_put : (t t' object object' field field' word word' : ℕ) (more rest : List ℕ) → IsPut t object field word → IsPut t' object' field' word'
    → to_le_bytes w32 t ++ (to_le_bytes w32 object ++ (to_le_bytes w16 field ++ (to_le_bytes w64 word ++ more))) ≡ to_le_bytes w32 t' ++ (to_le_bytes w32 object' ++ (to_le_bytes w16 field' ++ (to_le_bytes w64 word' ++ rest)))
    → (t ≡ t') × (object ≡ object') × (field ≡ field') × (word ≡ word') × (more ≡ rest)
one_put t t' object object' field field' word word' more rest good good' same =
    let a = one_number 4 t t' (to_le_bytes w32 object ++ (to_le_bytes w16 field ++ (to_le_bytes w64 word ++ more))) (to_le_bytes w32 object' ++ (to_le_bytes w16 field' ++ (to_le_bytes w64 word' ++ rest))) good.t_fits good'.t_fits same in
    let b = one_number 4 object object' (to_le_bytes w16 field ++ (to_le_bytes w64 word ++ more)) (to_le_bytes w16 field' ++ (to_le_bytes w64 word' ++ rest)) good.object_fits good'.object_fits a.1 in
    let c = one_number 2 field field' (to_le_bytes w64 word ++ more) (to_le_bytes w64 word' ++ rest) good.field_fits good'.field_fits b.1 in
    let d = one_number 8 word word' more rest (field_word_small word good.put_word) (field_word_small word' good'.put_word) c.1 in
    (a.0, b.0, c.0, d.0, d.1)

-- bytes begin with the spelling of one record, which is no prefix of another's
pub one_record : (a b : Record) (more rest : List ℕ) → IsRecord a → IsRecord b → spelling a ++ more ≡ spelling b ++ rest → (a ≡ b) × (more ≡ rest)
one_record (Update t object field was word) (Update t' object' field' was' word') more rest good good' same =
    let front : List ℕ → List ℕ = λ l. drop 1 l in
    let a = one_number 4 t t' (to_le_bytes w32 object ++ (to_le_bytes w16 field ++ (to_le_bytes w64 was ++ (to_le_bytes w64 word ++ more)))) (to_le_bytes w32 object' ++ (to_le_bytes w16 field' ++ (to_le_bytes w64 was' ++ (to_le_bytes w64 word' ++ rest)))) good.t_fits good'.t_fits (ap front same) in
    let b = one_number 4 object object' (to_le_bytes w16 field ++ (to_le_bytes w64 was ++ (to_le_bytes w64 word ++ more))) (to_le_bytes w16 field' ++ (to_le_bytes w64 was' ++ (to_le_bytes w64 word' ++ rest))) good.object_fits good'.object_fits a.1 in
    let c = one_number 2 field field' (to_le_bytes w64 was ++ (to_le_bytes w64 word ++ more)) (to_le_bytes w64 was' ++ (to_le_bytes w64 word' ++ rest)) good.field_fits good'.field_fits b.1 in
    let d = one_number 8 was was' (to_le_bytes w64 word ++ more) (to_le_bytes w64 word' ++ rest) (field_word_small was good.was_word) (field_word_small was' good'.was_word) c.1 in
    let e = one_number 8 word word' more rest (field_word_small word good.new_word) (field_word_small word' good'.new_word) d.1 in
    (cc (a.0, b.0, c.0, d.0, e.0), e.1)
one_record (Base t address words) (Base t' address' words') more rest good good' same =
    let front : List ℕ → List ℕ = λ l. drop 1 l in
    let a = one_number 4 t t' (to_le_bytes w32 address ++ (word_bytes words ++ more)) (to_le_bytes w32 address' ++ (word_bytes words' ++ rest)) good.t_fits good'.t_fits (ap front same) in
    let b = one_number 4 address address' (word_bytes words ++ more) (word_bytes words' ++ rest) good.address_fits good'.address_fits a.1 in
    let c = one_object words words' more rest good.object good'.object b.1 in
    (cc (a.0, b.0, c.0), c.1)
one_record (Fix t object field word) (Fix t' object' field' word') more rest good good' same =
    let one = one_put t t' object object' field field' word word' more rest good good' (ap (λ (l : List ℕ). drop 1 l) same) in
    (cc (one.0, one.1, one.2, one.3), one.4)
one_record (Undo t object field word) (Undo t' object' field' word') more rest good good' same =
    let one = one_put t t' object object' field field' word word' more rest good good' (ap (λ (l : List ℕ). drop 1 l) same) in
    (cc (one.0, one.1, one.2, one.3), one.4)
one_record (Commit t) (Commit t') more rest good good' same =
    let a = one_number 4 t t' more rest good good' (ap (λ (l : List ℕ). drop 1 l) same) in
    (ap (λ (n : ℕ). Commit n) a.0, a.1)
one_record (End t) (End t') more rest good good' same =
    let a = one_number 4 t t' more rest good good' (ap (λ (l : List ℕ). drop 1 l) same) in
    (ap (λ (n : ℕ). End n) a.0, a.1)
one_record (Copy from to words) (Copy from' to' words') more rest good good' same =
    let one = one_copy (record { from = from; to = to; words = words }) (record { from = from'; to = to'; words = words' }) more rest good good' (ap (λ (l : List ℕ). drop 1 l) same) in
    (ap (λ (k : ObjectCopy). Copy k.from k.to k.words) one.0, one.1)
one_record (Scan page writes) (Scan page' writes') more rest good good' same =
    let front : List ℕ → List ℕ = λ l. drop 1 l in
    let a = one_number 4 page page' (to_le_bytes w16 (length writes) ++ (flat_map write_bytes writes ++ more)) (to_le_bytes w16 (length writes') ++ (flat_map write_bytes writes' ++ rest)) good.page_fits good'.page_fits (ap front same) in
    let b = one_number 2 (length writes) (length writes') (flat_map write_bytes writes ++ more) (flat_map write_bytes writes' ++ rest) good.few good'.few a.1 in
    let c = one_list_of write_bytes IsWrite one_write writes writes' more rest b.0 good.each good'.each b.1 in
    (cc (a.0, c.0), c.1)
one_record (Flip copies) (Flip copies') more rest good good' same =
    let front : List ℕ → List ℕ = λ l. drop 1 l in
    let b = one_number 4 (length copies) (length copies') (flat_map copy_bytes copies ++ more) (flat_map copy_bytes copies' ++ rest) good.few good'.few (ap front same) in
    let c = one_list_of copy_bytes IsObjectCopy one_copy copies copies' more rest b.0 good.each good'.each b.1 in
    (ap (λ (ks : List ObjectCopy). Flip ks) c.0, c.1)
one_record Collected Collected more rest good good' same = (refl, ap (λ (l : List ℕ). drop 1 l) same)
one_record a b more rest good good' same = absurd (omega (arith, ap (λ (l : List ℕ). get_or l 0 0) same))

-- bytes are the spellings of one list of records
pub one_list : (first second : List Record) → AllByRecursion IsRecord first → AllByRecursion IsRecord second → spellings first ≡ spellings second → first ≡ second
one_list [] [] good good' same = refl
one_list [] (b ∷ second) good good' same = absurd (omega (arith, ap (λ (l : List ℕ). length l) same, length-append (spelling b) (spellings second), some_spelling b))
one_list (a ∷ first) [] good good' same = absurd (omega (arith, ap (λ (l : List ℕ). length l) same, length-append (spelling a) (spellings first), some_spelling a))
one_list (a ∷ first) (b ∷ second) good good' same =
    let one = one_record a b (spellings first) (spellings second) good.0 good'.0 same in
    let more = one_list first second good.1 good'.1 one.1 in
    ap (λ (r : Record). r ∷ first) one.0 ∙ ap (λ (l : List Record). b ∷ l) more
