-- The pages that a record touches, by its ranges of words: they are those of the addresses that it writes.
use Rattle.std.proofs.Common.{◌≡◌, ℕ, zero, suc, ◌+◌, ◌-◌, ◌*◌, ◌<◌, ◌≤◌, Bool, true, false, List, [], ◌∷◌, length, refl, sym, ap, ◌∙◌, arith, inl, inr}
use Rattle.std.specs.Prelude.{◌==◌, ◌||◌, map}
use Rattle.std.specs.List.{enumerate_from, flat_map, list_any}
use Rattle.std.proofs.lemmas.Bool.{cases_Bool, cases_lt, eqb-true, eq-eqb, false≢true, or_cases}
use Rattle.std.proofs.lemmas.List.{ext_get_or, map-append}
use Rattle.std.proofs.lemmas.List.Folds.{list_any-append}
use Rattle.log_records.specs.declared.copies.ObjectCopy.{ObjectCopy}
use Rattle.log_records.specs.declared.Record.{Record}
use Rattle.log_records.specs.declared.Record.TheVariants.{Update, Base, Fix, Undo, Commit, End, Copy, Scan, Flip, Collected}
use Rattle.log_machine.specs.Machine.{addresses}
use Rattle.log_machine.specs.Runs.{copies_runs, runs, write_runs}
use Rattle.log_machine.proofs.Addresses.{effect-addresses}
use Rattle.log_machine.proofs.RunLaws.{run_writes, runs-effect}
use Rattle.page_redo.specs.Pages.{page_of, touched}
use Rattle.page_redo.specs.Ranges.{copy_ranges, pages_at, pages_from, range_pages, ranges}
use Rattle.page_redo.specs.Redo.{raised_to}
use Rattle.page_redo.proofs.PageLaws.{length-raised_to, raised_to-other, raised_to-touched}

-- a page is one of these
abbrev pub is_among : List ℕ → ℕ → Bool
is_among pages p = list_any (λ q. q == p) pages

same_bool : (a b : Bool) → (a ≡ true → b ≡ true) → (b ≡ true → a ≡ true) → a ≡ b
same_bool true true f g = refl
same_bool true false f g = sym (f refl)
same_bool false true f g = g refl
same_bool false false f g = refl

or_left : (a b : Bool) → a ≡ true → (a || b) ≡ true
or_left true b e = refl
or_left false b e = cc

or_right : (a b : Bool) → b ≡ true → (a || b) ≡ true
or_right true b e = refl
or_right false b e = e

-- Pages from one on.

among_told : (first n p : ℕ) → is_among (pages_from first n) p ≡ true → (first ≤ p) × (p < first + n)
among_told first zero p is = absurd (false≢true is)
among_told first (suc n) p is = elim (or_cases (first == p) (is_among (pages_from (first + 1) n) p) is) [
  | inl here ↦ let same = eqb-true first p here in (omega arith, omega arith)
  | inr later ↦ let rest = among_told (first + 1) n p later in let low = rest.0 in let high = rest.1 in (omega arith, omega arith)
]

among_these : (first n p : ℕ) → first ≤ p → p < first + n → is_among (pages_from first n) p ≡ true
among_these first zero p low high = absurd (omega arith)
among_these first (suc n) p low high = elim (cases_lt first p) [
  | inl less ↦ or_right (first == p) (is_among (pages_from (first + 1) n) p) (among_these (first + 1) n p (omega arith) (omega arith))
  | inr same ↦ or_left (first == p) (is_among (pages_from (first + 1) n) p) (eq-eqb first p (omega arith))
]

-- Pages of words one after the other.

abbrev word_pages : ℕ → List ℕ → List ℕ
word_pages address words = map page_of (map (λ (w : ℕ × ℕ). w.0) (enumerate_from address words))

word_told : (address : ℕ) (words : List ℕ) (p : ℕ) → is_among (word_pages address words) p ≡ true → (i : ℕ) × (i < length words) × (page_of (address + i) ≡ p)
word_told address [] p is = absurd (false≢true is)
word_told address (w ∷ ws) p is = elim (or_cases (page_of address == p) (is_among (word_pages (address + 1) ws) p) is) [
  | inl here ↦ let same = eqb-true (page_of address) p here in (0, omega arith, omega arith)
  | inr later ↦ let rest = word_told (address + 1) ws p later in let within = rest.1 in let there = rest.2 in (rest.0 + 1, omega arith, omega arith)
]

word_there : (address : ℕ) (words : List ℕ) (p i : ℕ) → i < length words → page_of (address + i) ≡ p → is_among (word_pages address words) p ≡ true
word_there address [] p i within there = absurd (omega arith)
word_there address (w ∷ ws) p zero within there = or_left (page_of address == p) (is_among (word_pages (address + 1) ws) p) (eq-eqb (page_of address) p (omega arith))
word_there address (w ∷ ws) p (suc i) within there =
    or_right (page_of address == p) (is_among (word_pages (address + 1) ws) p) (word_there (address + 1) ws p i (omega arith) (omega arith))

-- the pages of a range are those of its words
same_range : (address : ℕ) (words : List ℕ) (p : ℕ) → is_among (pages_at address (length words)) p ≡ is_among (word_pages address words) p
same_range address [] p = refl
same_range address (w ∷ ws) p =
    let n = length ws in
    let first = page_of address in
    let count = page_of (address + n) + 1 - first in
    same_bool (is_among (pages_from first count) p) (is_among (word_pages address (w ∷ ws)) p)
    (λ is.
    let told = among_told first count p is in
    let low = told.0 in
    let high = told.1 in
    elim (cases_lt address (64 * p)) [
      | inl behind ↦ word_there address (w ∷ ws) p (64 * p - address) (omega arith) (omega arith)
      | inr before ↦ word_there address (w ∷ ws) p 0 (omega arith) (omega arith)
    ])
    (λ is.
    let told = word_told address (w ∷ ws) p is in
    let within = told.1 in
    let there = told.2 in
    among_these first count p (omega arith) (omega arith))

-- Runs of words, and the ranges that they take.

abbrev size_of : ℕ × List ℕ → ℕ × ℕ
size_of run = (run.0, length run.1)

same_runs : (rs : List (ℕ × List ℕ)) (p : ℕ) → is_among (flat_map range_pages (map size_of rs)) p ≡ is_among (map page_of (map (λ (w : ℕ × ℕ). w.0) (run_writes rs))) p
same_runs [] p = refl
same_runs (r ∷ rs) p =
    let these = enumerate_from r.0 r.1 in
    let others = run_writes rs in
    list_any-append (λ q. q == p) (range_pages (size_of r)) (flat_map range_pages (map size_of rs))
    ∙ ap (λ (b : Bool). b || is_among (flat_map range_pages (map size_of rs)) p) (same_range r.0 r.1 p)
    ∙ ap (λ (b : Bool). is_among (word_pages r.0 r.1) p || b) (same_runs rs p)
    ∙ sym (list_any-append (λ q. q == p) (word_pages r.0 r.1) (map page_of (map (λ (w : ℕ × ℕ). w.0) others)))
    ∙ ap (λ (l : List ℕ). is_among l p) (sym (map-append page_of (map (λ (w : ℕ × ℕ). w.0) these) (map (λ (w : ℕ × ℕ). w.0) others)))
    ∙ ap (λ (l : List ℕ). is_among (map page_of l) p) (sym (map-append (λ (w : ℕ × ℕ). w.0) these others))

write_sizes : (writes : List (ℕ × ℕ)) → map (λ (write : ℕ × ℕ). (write.0, 1)) writes ≡ map size_of (write_runs writes)
write_sizes [] = refl
write_sizes (w ∷ ws) = ap (λ (l : List (ℕ × ℕ)). (w.0, 1) ∷ l) (write_sizes ws)

copy_sizes : (copies : List ObjectCopy) → flat_map copy_ranges copies ≡ map size_of (copies_runs copies)
copy_sizes [] = refl
copy_sizes (k ∷ ks) = ap (λ (l : List (ℕ × ℕ)). (k.to, length k.words) ∷ (k.from, 1) ∷ l) (copy_sizes ks)

-- the ranges of a record are those of its runs
pub ranges-runs : (rec : Record) → ranges rec ≡ map size_of (runs rec)
ranges-runs (Update t object field was word) = refl
ranges-runs (Base t address words) = refl
ranges-runs (Fix t object field word) = refl
ranges-runs (Undo t object field word) = refl
ranges-runs (Commit t) = refl
ranges-runs (End t) = refl
ranges-runs (Copy from to words) = refl
ranges-runs (Scan page writes) = write_sizes writes
ranges-runs (Flip copies) = copy_sizes copies
ranges-runs Collected = refl

-- a page is touched where the record writes at an address of it
pub touches-address : (rec : Record) (p : ℕ) → is_among (touched rec) p ≡ is_among (map page_of (addresses rec)) p
touches-address rec p =
    ap (λ (l : List (ℕ × ℕ)). is_among (flat_map range_pages l) p) (ranges-runs rec)
    ∙ same_runs (runs rec) p
    ∙ ap (λ (ws : List (ℕ × ℕ)). is_among (map page_of (map (λ (w : ℕ × ℕ). w.0) ws)) p) (runs-effect [] rec)
    ∙ ap (λ (l : List ℕ). is_among (map page_of l) p) (effect-addresses [] rec)

-- LSNs.

-- pages that are the same raise the same LSNs
raised_same : (lsn : ℕ) (lsns xs ys : List ℕ) → ((p : ℕ) → is_among xs p ≡ is_among ys p) → raised_to lsn lsns xs ≡ raised_to lsn lsns ys
raised_same lsn lsns xs ys same =
    ext_get_or 0 (raised_to lsn lsns xs) (raised_to lsn lsns ys) (length-raised_to lsn xs lsns ∙ sym (length-raised_to lsn ys lsns)) (λ p lt.
    let within : p < length lsns = omega (arith, length-raised_to lsn xs lsns) in
    elim (cases_Bool (is_among xs p)) [
      | inl some ↦ raised_to-touched lsn p xs lsns within some ∙ sym (raised_to-touched lsn p ys lsns within (sym (same p) ∙ some))
      | inr none ↦ raised_to-other lsn p xs lsns none ∙ sym (raised_to-other lsn p ys lsns (sym (same p) ∙ none))
    ])

-- the LSNs of the pages that a record touches are raised as those of its addresses are
pub raised-touched : (lsn : ℕ) (lsns : List ℕ) (rec : Record) → raised_to lsn lsns (map page_of (addresses rec)) ≡ raised_to lsn lsns (touched rec)
raised-touched lsn lsns rec = raised_same lsn lsns (map page_of (addresses rec)) (touched rec) (λ p. sym (touches-address rec p))
