-- The spaces, the collection and the words after the records of a scan.
use Rattle.std.proofs.Common.{◌≡◌, ◌≢◌, ℕ, ◌+◌, ◌-◌, ◌<◌, ◌≤◌, ◌==◌, Bool, true, false, List, [], ◌∷◌, length, Option, None, Some, fold, nat_le, nat_lt, refl, sym, ap, ◌∙◌, subst, arith}
use Rattle.std.specs.Prelude.{slice_get, slice_index, slice_set, sum_by, unwrap_or, if◌then◌else◌}
use Rattle.std.specs.List.{AllByRecursion, enumerate_from}
use Rattle.std.specs.Option.{option_map}
use Rattle.std.specs.Cmp.{nat_eq_equiv}
use Rattle.std.proofs.lemmas.Bool.{eqb-true, false≢true, ltb-false, ltb-true}
use Rattle.std.proofs.lemmas.List.{get_or-set_same, get_or-set_other}
use Rattle.std.proofs.lemmas.Option.{slice_get-get_or, slice_get_past}
use Rattle.std.proofs.lemmas.List.Sums.{sum_by-cons, fold-append}
use Rattle.heap_words.specs.declared.Header.TheVariants.{Forward}
use Rattle.heap_words.specs.Header.{header_bits}
use Rattle.heap_spaces.specs.declared.collection.CopiedObject.{CopiedObject}
use Rattle.heap_spaces.specs.Collection.{Collection}
use Rattle.heap_spaces.specs.Copying.{with_copies, with_scanned}
use Rattle.heap_spaces.specs.Spaces.{SpacesState, with_copied}
use Rattle.log_records.specs.declared.Record.{Record}
use Rattle.log_records.specs.declared.Record.TheVariants.{Copy, Scan}
use Rattle.log_machine.specs.Effect.{WritesBelow, EachWritesBelow}
use Rattle.log_machine.specs.Machine.{put_all, put_record, copy_writes}
use Rattle.log_machine.proofs.Addresses.{each_write}
use Rattle.log_machine.proofs.ListLaws.{AllByRecursion-front}
use Rattle.log_machine.proofs.WordsFrom.{below_at, put_from-before, put_from-at, put_from-behind}
use Rattle.log_machine.proofs.WordsLaws.{length-put_all, length-put_record}
use Rattle.heap_memory.specs.Collecting.{copied_in, words_copied, spaces_behind, collection_behind}
use Rattle.heap_engine.specs.Barrier.{is_page_scan, is_scan_of, copied_word, write_at, word_with, word_after, scanned_by}
use Rattle.heap_engine.proofs.ScanRun.{both_parts, more_words}

-- The spaces.

copied_twice : (spaces : SpacesState) (a b : ℕ) → with_copied (with_copied spaces a) b ≡ with_copied spaces (a + b)
copied_twice spaces a b =
    let used : spaces.used + a + b ≡ spaces.used + (a + b) = omega arith in
    let owed : spaces.owed - a - b ≡ spaces.owed - (a + b) = omega arith in
    λ i. record { pages = spaces.pages; base = spaces.base; used = used i; owed = owed i }

copied_nothing : (spaces : SpacesState) → spaces ≡ with_copied spaces 0
copied_nothing spaces =
    let used : spaces.used ≡ spaces.used + 0 = omega arith in
    let owed : spaces.owed ≡ spaces.owed - 0 = omega arith in
    λ i. record { pages = spaces.pages; base = spaces.base; used = used i; owed = owed i }

page_spaces : (page : ℕ) (records : List Record) (spaces : SpacesState) → is_page_scan page records ≡ true → spaces_behind spaces records ≡ with_copied spaces (words_copied records)
page_spaces page [] spaces is = absurd (cc is)
page_spaces page (Scan scanned writes ∷ []) spaces is = copied_nothing spaces
page_spaces page (Copy from to words ∷ records) spaces is =
    page_spaces page records (with_copied spaces (length words)) (both_parts (nat_le (length words) 512) (is_page_scan page records) is).1
    ∙ copied_twice spaces (length words) (words_copied records)
    ∙ ap (with_copied spaces) (sym (more_words from to words records))
page_spaces page (rec ∷ records) spaces is = absurd (cc is)

-- the words of the copies are taken
pub scan_spaces : (page : Option ℕ) (records : List Record) (spaces : SpacesState) → is_scan_of page records ≡ true → spaces_behind spaces records ≡ with_copied spaces (words_copied records)
scan_spaces None [] spaces is = copied_nothing spaces
scan_spaces None (rec ∷ records) spaces is = absurd (cc is)
scan_spaces (Some page) records spaces is = page_spaces page records spaces is

-- The collection.

copies_nothing : (k : Collection) → k ≡ with_copies k []
copies_nothing k = let count : k.copied ≡ k.copied + 0 = omega arith in λ i. record k { copied = count i }

copies_more : (k : Collection) (c : CopiedObject) (cs : List CopiedObject) → with_copies (with_copies k (c ∷ [])) cs ≡ with_copies k (c ∷ cs)
copies_more k c cs =
    let words : CopiedObject → ℕ = λ o. o.words in
    let count : k.copied + sum_by words (c ∷ []) + sum_by words cs ≡ k.copied + sum_by words (c ∷ cs) = omega (arith, sum_by-cons words c cs) in
    let all = with_copies k (c ∷ cs) in
    λ i. record all { copied = count i }

page_collection : (page : ℕ) (records : List Record) (k : Collection) → is_page_scan page records ≡ true → collection_behind (Some k) records ≡ Some (with_scanned (with_copies k (copied_in records)) page)
page_collection page [] k is = absurd (cc is)
page_collection page (Scan scanned writes ∷ []) k is =
    let here = eqb-true scanned page (both_parts (scanned == page) (nat_lt (length writes) 65536) is).0 in
    λ i. Some (with_scanned (copies_nothing k i) (here i))
page_collection page (Copy from to words ∷ records) k is =
    let one : CopiedObject = record { from = from; to = to; header = slice_index words 0; words = length words } in
    page_collection page records (with_copies k (one ∷ [])) (both_parts (nat_le (length words) 512) (is_page_scan page records) is).1
    ∙ ap (λ (now : Collection). Some (with_scanned now page)) (copies_more k one (copied_in records))
page_collection page (rec ∷ records) k is = absurd (cc is)

-- no collection runs, so that none is scanned
idle_collection : (page : ℕ) (records : List Record) → is_page_scan page records ≡ true → collection_behind None records ≡ None
idle_collection page [] is = absurd (cc is)
idle_collection page (Scan scanned writes ∷ []) is = refl
idle_collection page (Copy from to words ∷ records) is = idle_collection page records (both_parts (nat_le (length words) 512) (is_page_scan page records) is).1
idle_collection page (rec ∷ records) is = absurd (cc is)

-- it has kept the copies, and nothing in the page is gray
pub scan_collection : (page : Option ℕ) (records : List Record) (runs : Option Collection) → is_scan_of page records ≡ true
    → option_map (λ k. scanned_by k page) (option_map (λ k. with_copies k (copied_in records)) runs) ≡ collection_behind runs records
scan_collection None [] None is = refl
scan_collection None [] (Some k) is = ap Some (sym (copies_nothing k))
scan_collection None (rec ∷ records) runs is = absurd (cc is)
scan_collection (Some page) records None is = sym (idle_collection page records is)
scan_collection (Some page) records (Some k) is = sym (page_collection page records k is)

-- The words.

set_word : (now : List ℕ) (at x word : ℕ) → at < length now → slice_index (slice_set now x word) at ≡ (if x == at then word else slice_index now at)
set_word now at x word low = cases (x == at) refl
  where
    cases : (b : Bool) → (x == at) ≡ b → slice_index (slice_set now x word) at ≡ (if b then word else slice_index now at)
    cases true test = ap (λ (y : ℕ). slice_index (slice_set now y word) at) (eqb-true x at test) ∙ get_or-set_same now at word 0 low
    cases false test = let apart : at ≢ x = λ same. false≢true (sym test ∙ ap (λ (y : ℕ). x == y) same ∙ nat_eq_equiv.refl x) in get_or-set_other now x at word 0 apart

written_words : (writes : List (ℕ × ℕ)) (now : List ℕ) (at : ℕ) → at < length now → slice_index (put_all now writes) at ≡ fold (write_at at) (slice_index now at) writes
written_words [] now at low = refl
written_words (w ∷ ws) now at low =
    written_words ws (slice_set now w.0 w.1) at (omega (arith, low, length-put_all (w ∷ []) now))
    ∙ ap (λ (x : ℕ). fold (write_at at) x ws) (set_word now at w.0 w.1 low)

-- words that stand from an address on
run_words : (now : List ℕ) (to at : ℕ) (words : List ℕ) → at < length now → AllByRecursion (λ w. w.0 < length now) (enumerate_from to words)
    → slice_index (put_all now (enumerate_from to words)) at ≡ copied_word to words at (slice_index now at)
run_words now to at words low below = before (nat_lt at to) refl
  where
    inside : (b : Bool) → nat_lt (at - to) (length words) ≡ b → to ≤ at → slice_index (put_all now (enumerate_from to words)) at ≡ unwrap_or (slice_get words (at - to)) (slice_index now at)
    inside false none past =
        let over : length words ≤ at - to = ltb-false (at - to) (length words) none in
        put_from-behind now to at words (omega arith) ∙ sym (ap (λ (o : Option ℕ). unwrap_or o (slice_index now at)) (slice_get_past words (at - to) over))
    inside true some past =
        let within : at - to < length words = ltb-true (at - to) (length words) some in
        let last : to + (length words - 1) < length now = below_at to (length now) (length words - 1) words below (omega arith) in
        let here : to + (at - to) ≡ at = omega arith in
        ap (λ (i : ℕ). slice_index (put_all now (enumerate_from to words)) i) (sym here)
        ∙ put_from-at now to (at - to) words (omega arith) within
        ∙ sym (ap (λ (o : Option ℕ). unwrap_or o (slice_index now at)) (slice_get-get_or words (at - to) 0 within))

    before : (b : Bool) → nat_lt at to ≡ b → slice_index (put_all now (enumerate_from to words)) at ≡ (if b then slice_index now at else unwrap_or (slice_get words (at - to)) (slice_index now at))
    before true test = put_from-before now to at words (ltb-true at to test)
    before false test = inside (nat_lt (at - to) (length words)) refl (ltb-false at to test)

copy_words : (now : List ℕ) (from to at : ℕ) (words : List ℕ) → at < length now → WritesBelow (length now) (Copy from to words) → slice_index (put_record now (Copy from to words)) at ≡ word_with at (slice_index now at) (Copy from to words)
copy_words now from to at words low below =
    let each = each_write (λ a. a < length now) (copy_writes from to words) below in
    let run = enumerate_from to words in
    let front = AllByRecursion-front (λ (w : ℕ × ℕ). w.0 < length now) run ((from, header_bits (Forward to)) ∷ []) each in
    ap (λ (ws : List ℕ). slice_index ws at) (fold-append (λ now w. slice_set now w.0 w.1) now run ((from, header_bits (Forward to)) ∷ []))
    ∙ set_word (put_all now run) at from (header_bits (Forward to)) (omega (arith, low, length-put_all run now))
    ∙ ap (λ (x : ℕ). if from == at then header_bits (Forward to) else x) (run_words now to at words low front)

page_words : (page : ℕ) (records : List Record) (now : List ℕ) (at : ℕ) → is_page_scan page records ≡ true → at < length now → EachWritesBelow (length now) records
    → slice_index (fold put_record now records) at ≡ word_after at (slice_index now at) records
page_words page [] now at is low below = absurd (cc is)
page_words page (Scan scanned writes ∷ []) now at is low below = written_words writes now at low
page_words page (Copy from to words ∷ records) now at is low below =
    let same = length-put_record now (Copy from to words) in
    page_words page records (put_record now (Copy from to words)) at (both_parts (nat_le (length words) 512) (is_page_scan page records) is).1 (omega (arith, low, same)) (subst (λ n. EachWritesBelow n records) (sym same) below.1)
    ∙ ap (λ (x : ℕ). word_after at x records) (copy_words now from to at words low below.0)
page_words page (rec ∷ records) now at is low below = absurd (cc is)

-- the word at an address
pub scan_word : (page : Option ℕ) (records : List Record) (now : List ℕ) (at : ℕ) → is_scan_of page records ≡ true → at < length now → EachWritesBelow (length now) records
    → word_after at (slice_index now at) records ≡ slice_index (fold put_record now records) at
scan_word None [] now at is low below = refl
scan_word None (rec ∷ records) now at is low below = absurd (cc is)
scan_word (Some page) records now at is low below = sym (page_words page records now at is low below)
