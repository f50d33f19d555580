-- Copies whose words stand one after another.
use Rattle.std.proofs.Common.{◌≡◌, ℕ, suc, ◌+◌, ◌*◌, ◌<◌, ◌≤◌, List, [], ◌∷◌, ◌++◌, length, take, drop, map, refl, sym, ap, ◌∙◌, subst, arith, get_or}
use Rattle.std.specs.Prelude.{sum_by}
use Rattle.std.proofs.lemmas.List.{append-nil, length-append, length-take, length-drop, map-append, take-append-le, drop-append-le, take_all, drop_all}
use Rattle.std.proofs.lemmas.Grind.{flat_map-append}
use Rattle.std.proofs.lemmas.List.Sums.{sum_by-cons}
use Rattle.heap_spaces.specs.declared.collection.CopiedObject.{CopiedObject}
use Rattle.log_records.specs.declared.copies.ObjectCopy.{ObjectCopy}
use Rattle.log_records.specs.declared.Record.{Record}
use Rattle.log_records.specs.declared.Record.TheVariants.{Copy, Scan}
use Rattle.log_records.specs.Record.{copy_record, spelling, spellings}
use Rattle.log_records.proofs.RecordLaws.{length-word_bytes}
use Rattle.page_scanner.specs.Copied.{copied_by, copied_in}
use Rattle.page_scanner.specs.PageScan.{ScanState, copies_of, records_in, scan_writes, HaveWords, IsScanOf}

-- one more copy, whose words come after the others
pub copies_more : (cs : List CopiedObject) (ws : List ℕ) (c : CopiedObject) (run : List ℕ) → HaveWords cs ws → length run ≡ c.words
    → copies_of (cs ++ c ∷ []) (ws ++ run) ≡ copies_of cs ws ++ record { from = c.from; to = c.to; words = run } ∷ []
copies_more [] ws c run all size =
    let one : take c.words (ws ++ run) ≡ run = ap (λ (l : List ℕ). take c.words (l ++ run)) all ∙ take_all c.words run (omega (arith, size)) in
    ap (λ (l : List ℕ). record { from = c.from; to = c.to; words = l } ∷ []) one
copies_more (k ∷ ks) ws c run all size =
    let own : take k.words (ws ++ run) ≡ take k.words ws = take-append-le k.words ws run all.1 in
    let left : drop k.words (ws ++ run) ≡ drop k.words ws ++ run = drop-append-le k.words ws run all.1 in
    ap (λ (l : List ℕ). record { from = k.from; to = k.to; words = l } ∷ copies_of (ks ++ c ∷ []) (drop k.words (ws ++ run))) own
    ∙ ap (λ (l : List ℕ). record { from = k.from; to = k.to; words = take k.words ws } ∷ copies_of (ks ++ c ∷ []) l) left
    ∙ ap (λ (l : List ObjectCopy). record { from = k.from; to = k.to; words = take k.words ws } ∷ l) (copies_more ks (drop k.words ws) c run all.3 size)

-- its record comes after theirs
pub records_more : (cs : List CopiedObject) (ws : List ℕ) (c : CopiedObject) (run : List ℕ) → HaveWords cs ws → length run ≡ c.words
    → map copy_record (copies_of (cs ++ c ∷ []) (ws ++ run)) ≡ map copy_record (copies_of cs ws) ++ Copy c.from c.to run ∷ []
records_more cs ws c run all size =
    ap (map copy_record) (copies_more cs ws c run all size) ∙ map-append copy_record (copies_of cs ws) (record { from = c.from; to = c.to; words = run } ∷ [])

-- the same of lists that have grown so
pub records_grown : (cs ks : List CopiedObject) (ws vs : List ℕ) (c : CopiedObject) (run : List ℕ) → HaveWords cs ws → length run ≡ c.words → ks ≡ cs ++ c ∷ [] → vs ≡ ws ++ run
    → map copy_record (copies_of ks vs) ≡ map copy_record (copies_of cs ws) ++ Copy c.from c.to run ∷ []
records_grown cs ks ws vs c run all size copies words = rw (copies, words) (records_more cs ws c run all size)

-- and these are all their words
pub words_more : (cs : List CopiedObject) (ws : List ℕ) (c : CopiedObject) (run : List ℕ) → HaveWords cs ws → 0 < c.words → length run ≡ c.words → c.header ≡ get_or run 0 0
    → HaveWords (cs ++ c ∷ []) (ws ++ run)
words_more [] ws c run all some size header =
    let same : run ≡ ws ++ run = ap (λ (l : List ℕ). l ++ run) (sym all) in
    let one : run ≡ take c.words run = sym (take_all c.words run (omega (arith, size))) in
    let none : drop c.words run ≡ [] = drop_all c.words run (omega (arith, size)) in
    subst (λ (l : List ℕ). HaveWords (c ∷ []) l) same (some, omega (arith, size), header ∙ ap (λ (l : List ℕ). get_or l 0 0) one, none)
words_more (k ∷ ks) ws c run all some size header =
    let own : take k.words (ws ++ run) ≡ take k.words ws = take-append-le k.words ws run all.1 in
    let left : drop k.words (ws ++ run) ≡ drop k.words ws ++ run = drop-append-le k.words ws run all.1 in
    let within = all.1 in (
      all.0,
      omega (arith, within, length-append ws run),
      all.2 ∙ ap (λ (l : List ℕ). get_or l 0 0) (sym own),
      subst (λ (l : List ℕ). HaveWords (ks ++ c ∷ []) l) (sym left) (words_more ks (drop k.words ws) c run all.3 some size header),
    )

-- what the records copy are the objects
pub copied-copies : (cs : List CopiedObject) (ws : List ℕ) → HaveWords cs ws → copied_in (map copy_record (copies_of cs ws)) ≡ cs
copied-copies [] ws all = refl
copied-copies (k ∷ ks) ws all =
    let within = all.1 in
    let size : length (take k.words ws) ≡ k.words = omega (arith, within, length-take {A = ℕ} k.words ws) in
    ap (λ (h : ℕ). record { from = k.from; to = k.to; header = h; words = length (take k.words ws) } ∷ copied_in (map copy_record (copies_of ks (drop k.words ws)))) (sym all.2)
    ∙ ap (λ (n : ℕ). record { from = k.from; to = k.to; header = k.header; words = n } ∷ copied_in (map copy_record (copies_of ks (drop k.words ws)))) size
    ∙ ap (λ (l : List CopiedObject). k ∷ l) (copied-copies ks (drop k.words ws) all.3)

-- and their words are all of them
pub words-all : (cs : List CopiedObject) (ws : List ℕ) → HaveWords cs ws → sum_by (λ (c : CopiedObject). c.words) cs ≡ length ws
words-all [] ws all = ap (λ (l : List ℕ). length l) (sym all)
words-all (k ∷ ks) ws all =
    let within = all.1 in
    let rest = words-all ks (drop k.words ws) all.3 in
    sum_by-cons (λ (c : CopiedObject). c.words) k ks ∙ omega (arith, within, rest, length-drop {A = ℕ} k.words ws)

-- and there are no more objects than words
pub few-copies : (cs : List CopiedObject) (ws : List ℕ) → HaveWords cs ws → length cs ≤ length ws
few-copies [] ws all = omega arith
few-copies (k ∷ ks) ws all =
    let some = all.0 in
    let within = all.1 in
    let rest = few-copies ks (drop k.words ws) all.3 in
    omega (arith, some, within, rest, length-drop {A = ℕ} k.words ws)

-- how many bytes the records take
pub length-copies : (cs : List CopiedObject) (ws : List ℕ) → HaveWords cs ws → length (spellings (map copy_record (copies_of cs ws))) ≡ 9 * length cs + 8 * length ws
length-copies [] ws all = let none : length ws ≡ 0 = ap (λ (l : List ℕ). length l) all in omega (arith, none)
length-copies (k ∷ ks) ws all =
    let within = all.1 in
    let own = take k.words ws in
    let rest = length-copies ks (drop k.words ws) all.3 in
    let spelled : length (spelling (Copy k.from k.to own)) ≡ 9 + 8 * length own = omega (arith, length-word_bytes own) in
    length-append (spelling (Copy k.from k.to own)) (spellings (map copy_record (copies_of ks (drop k.words ws))))
    ∙ omega (arith, within, spelled, rest, length-take {A = ℕ} k.words ws, length-drop {A = ℕ} k.words ws)

-- how many bytes the records of a planned scan take
pub length-records : (cs : List CopiedObject) (ws bytes : List ℕ) (page : ℕ) (scan : Record) → IsScanOf cs ws bytes page scan
    → length (spellings (records_in (record { copies = copies_of cs ws; page = page; writes = scan_writes scan }))) ≡ length bytes + length (spelling scan)
length-records cs ws bytes page scan is =
    let copies = map copy_record (copies_of cs ws) in
    let last : List Record = Scan page (scan_writes scan) ∷ [] in
    let end : length (spellings last) ≡ length (spelling scan) = ap (λ (l : List ℕ). length l) (append-nil (spelling (Scan page (scan_writes scan)))) ∙ ap (λ r. length (spelling r)) (sym is.scans) in
    let front : length (spellings copies) ≡ length bytes = ap (λ (l : List ℕ). length l) (sym is.spelled) in
    ap (λ (l : List ℕ). length l) (flat_map-append spelling copies last) ∙ omega (arith, length-append (spellings copies) (spellings last), front, end)

-- as many copies as objects
pub length-copies_of : (cs : List CopiedObject) (ws : List ℕ) → length (copies_of cs ws) ≡ length cs
length-copies_of [] ws = refl
length-copies_of (k ∷ ks) ws = ap suc (length-copies_of ks (drop k.words ws))

-- the record of the scan copies nothing
pub copied-scan : (scan : ScanState) → copied_in (records_in scan) ≡ copied_in (map copy_record scan.copies)
copied-scan scan =
    flat_map-append copied_by (map copy_record scan.copies) (Scan scan.page scan.writes ∷ []) ∙ append-nil (copied_in (map copy_record scan.copies))
