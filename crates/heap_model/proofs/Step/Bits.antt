-- Words of 64 bits stay so after records that have spellings.
use Rattle.std.proofs.Common.{◌≡◌, ℕ, zero, suc, ◌+◌, ◌^◌, ◌<◌, List, [], ◌∷◌, Option, None, Some, refl, replicate, arith}
use Rattle.std.specs.Prelude.{fold, slice_set}
use Rattle.std.specs.List.{AllByRecursion, flat_map, enumerate_from}
use Rattle.heap_words.specs.declared.Header.TheVariants.{Forward}
use Rattle.heap_words.specs.Header.{header_bits}
use Rattle.heap_words.specs.declared.Word.{Word}
use Rattle.heap_words.specs.Word.{IsFieldWord, meaning}
use Rattle.heap_words.proofs.WordLaws.{bits-meaning}
use Rattle.log_records.specs.declared.copies.ObjectCopy.{ObjectCopy}
use Rattle.log_records.specs.declared.Record.{Record}
use Rattle.log_records.specs.declared.Record.TheVariants.{Update, Base, Fix, Undo, Commit, End, Copy, Scan, Flip, Collected}
use Rattle.log_records.specs.Record.{IsCopy, IsObjectCopy, IsRecord, IsWrite}
use Rattle.log_records.proofs.RecordLaws.{field_word_small, object_small}
use Rattle.log_machine.specs.Machine.{copy_writes, effect, field_at, first_contents, put_all, put_record, taken_back, with_word, words_in, writes_of}
use Rattle.log_machine.specs.declared.UndoEntry.{UndoEntry}
use Rattle.log_machine.proofs.ListLaws.{AllByRecursion-append}
use Rattle.graph_words.specs.Places.{Places, addresses}
use Rattle.collection_words.specs.LaidOut.{LeadsHere}
use Rattle.collection_words.specs.Writes.{AreBacked}
use Rattle.heap_model.specs.Bits.{AreOf64Bits}

-- each of these writes puts a word of 64 bits
abbrev PutSmall : List (ℕ × ℕ) → Type 0
PutSmall writes = AllByRecursion (λ (w : ℕ × ℕ). w.1 < 2 ^ 64) writes

fit_set : (words : List ℕ) (at w : ℕ) → AreOf64Bits words → w < 2 ^ 64 → AreOf64Bits (slice_set words at w)
fit_set [] at w fit small i = fit i
fit_set (x ∷ xs) zero w fit small zero = small
fit_set (x ∷ xs) zero w fit small (suc i) = fit (suc i)
fit_set (x ∷ xs) (suc at) w fit small zero = fit 0
fit_set (x ∷ xs) (suc at) w fit small (suc i) = fit_set xs at w (λ j. fit (suc j)) small i

fit_zeros : (n : ℕ) → AreOf64Bits (replicate n 0)
fit_zeros zero i = omega arith
fit_zeros (suc n) zero = omega arith
fit_zeros (suc n) (suc i) = fit_zeros n i

-- the first contents do
pub fit_first : (pages : ℕ) → AreOf64Bits (first_contents pages)
fit_first pages = fit_set (replicate (words_in pages) 0) 0 17 (fit_zeros (words_in pages)) (omega arith)

fit_writes : (words : List ℕ) (writes : List (ℕ × ℕ)) → AreOf64Bits words → PutSmall writes → AreOf64Bits (put_all words writes)
fit_writes words [] fit small = fit
fit_writes words (w ∷ ws) fit small = fit_writes (slice_set words w.0 w.1) ws (fit_set words w.0 w.1 fit small.0) small.1

put_object : (at : ℕ) (words : List ℕ) → AllByRecursion (λ w. w < 2 ^ 64) words → PutSmall (enumerate_from at words)
put_object at [] small = tt
put_object at (w ∷ ws) small = (small.0, put_object (at + 1) ws small.1)

put_copy : (from to : ℕ) (words : List ℕ) → IsCopy from to words → PutSmall (copy_writes from to words)
put_copy from to words good =
    let forward : header_bits (Forward to) < 2 ^ 64 = omega (arith, good.to_fits) in
    AllByRecursion-append (λ (w : ℕ × ℕ). w.1 < 2 ^ 64) (enumerate_from to words) ((from, header_bits (Forward to)) ∷ []) (put_object to words (object_small words good.object)) (forward, tt)

put_copies : (copies : List ObjectCopy) → AllByRecursion IsObjectCopy copies → PutSmall (flat_map writes_of copies)
put_copies [] good = tt
put_copies (c ∷ cs) good = AllByRecursion-append (λ (w : ℕ × ℕ). w.1 < 2 ^ 64) (writes_of c) (flat_map writes_of cs) (put_copy c.from c.to c.words good.0) (put_copies cs good.1)

put_fields : (writes : List (ℕ × ℕ)) → AllByRecursion IsWrite writes → PutSmall writes
put_fields [] good = tt
put_fields (w ∷ ws) good = (field_word_small w.1 good.0.1, put_fields ws good.1)

put_small : (words : List ℕ) (rec : Record) → IsRecord rec → PutSmall (effect words rec)
put_small words (Update t object field was word) good = (field_word_small word good.new_word, tt)
put_small words (Base t address object) good = put_object address object (object_small object good.object)
put_small words (Fix t object field word) good = (field_word_small word good.put_word, tt)
put_small words (Undo t object field word) good = (field_word_small word good.put_word, tt)
put_small words (Commit t) good = tt
put_small words (End t) good = tt
put_small words (Copy from to object) good = put_copy from to object good
put_small words (Scan page writes) good = put_fields writes good.each
put_small words (Flip copies) good = put_copies copies good.each
put_small words Collected good = tt

pub fit_record : (words : List ℕ) (rec : Record) → AreOf64Bits words → IsRecord rec → AreOf64Bits (put_record words rec)
fit_record words rec fit good = fit_writes words (effect words rec) fit (put_small words rec good)

-- words of 64 bits stay so after records
pub fit_behind : (words : List ℕ) (records : List Record) → AreOf64Bits words → AllByRecursion IsRecord records → AreOf64Bits (fold put_record words records)
fit_behind words [] fit good = fit
fit_behind words (r ∷ rs) fit good = fit_behind (put_record words r) rs (fit_record words r fit good.0) good.1

-- What is put back are field words.

-- a word that leads to an object, or to none, is one of a field
pub here_word : (starts : List ℕ) (w : ℕ) (meant : Option Word) → meaning w ≡ meant → LeadsHere starts meant → IsFieldWord w
here_word starts w None is leads = absurd leads
here_word starts w (Some m) is leads = let one = bits-meaning w m is in (m, one.0, one.1)

-- words of 64 bits stay so where such writes are taken back
pub fit_back : (places : Places) (words now : List ℕ) (us : List UndoEntry) → AreOf64Bits now → AreBacked places words us → AreOf64Bits (taken_back us now)
fit_back places words now [] fit backed = fit
fit_back places words now (u ∷ us) fit backed =
    let small = field_word_small u.was (here_word (addresses places) u.was (meaning u.was) refl backed.0.leads) in
    fit_back places words (with_word now u.object u.field u.was) us (fit_set now (field_at u.object u.field) u.was fit small) backed.1
