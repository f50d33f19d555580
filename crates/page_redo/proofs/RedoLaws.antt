-- Laws of redo, whatever the pages hold.
use Rattle.std.proofs.Common.{◌≡◌, ℕ, ◌+◌, ◌<◌, ◌≤◌, Bool, true, cond, List, [], ◌∷◌, ◌++◌, length, get_or, take, refl, sym, ap, ◌∙◌, arith, inl, inr}
use Rattle.std.specs.Prelude.{max, fold}
use Rattle.std.specs.List.{filter}
use Rattle.std.proofs.lemmas.Bool.{cases_Bool, cases_lt, lt-ltb, cond-true, cond-false}
use Rattle.std.proofs.lemmas.List.{get_or_past, get_or-replicate, length-replicate, take_more, length-take-le}
use Rattle.log_records.specs.declared.Record.{Record}
use Rattle.log_machine.specs.Machine.{effect, first_contents, put_all, put_record}
use Rattle.page_redo.specs.Origin.{Origin, heap_origin, next_lsn}
use Rattle.log_machine.proofs.WordsLaws.{length-put_all}
use Rattle.page_redo.specs.Pages.{Pages, pages_in, page_of, lsn_of, first_pages, touched, touches}
use Rattle.page_redo.specs.Redo.{lacks, EachLacks, redo_record, redo_all, redone, words_from, last_lsn}
use Rattle.page_redo.proofs.PageLaws.{length-raised_to, raised_to-touched, raised_to-other}
use Rattle.page_redo.specs.Prefix.{EachHoldsPrefix}

-- records one after another
pub redo_all-append : (lsn : ℕ) (at : Pages) (rs ss : List Record) → redo_all lsn at (rs ++ ss) ≡ redo_all (lsn + length rs) (redo_all lsn at rs) ss
redo_all-append lsn at [] ss = let same : lsn ≡ lsn + length {A = Record} [] = omega arith in ap (λ (n : ℕ). redo_all n at ss) same
redo_all-append lsn at (r ∷ rs) ss =
    let same : lsn + 1 + length rs ≡ lsn + length (r ∷ rs) = omega arith in
    redo_all-append (lsn + 1) (redo_record lsn at r) rs ss ∙ ap (λ (n : ℕ). redo_all n (redo_all (lsn + 1) (redo_record lsn at r) rs) ss) same

-- the records so far, and the one at a place
pub redo_all-more : (lsn : ℕ) (at : Pages) (rs : List Record) (i : ℕ) (r : Record) → i < length rs → r ≡ get_or rs i r → redo_all lsn at (take (i + 1) rs) ≡ redo_record (lsn + i) (redo_all lsn at (take i rs)) r
redo_all-more lsn at rs i r lt is =
    ap (redo_all lsn at) (take_more rs i r lt ∙ ap (λ (x : Record). take i rs ++ x ∷ []) (sym is))
    ∙ redo_all-append lsn at (take i rs) (r ∷ [])
    ∙ ap (λ (n : ℕ). redo_record (lsn + n) (redo_all lsn at (take i rs)) r) (length-take-le i rs (omega arith))

-- the words keep their number
pub words-redo_record : (lsn : ℕ) (at : Pages) (rec : Record) → length (redo_record lsn at rec).words ≡ length at.words
words-redo_record lsn at rec = length-put_all (filter (λ (w : ℕ × ℕ). lacks at lsn (page_of w.0)) (effect at.words rec)) at.words

words-redo_all : (lsn : ℕ) (at : Pages) (rs : List Record) → length (redo_all lsn at rs).words ≡ length at.words
words-redo_all lsn at [] = refl
words-redo_all lsn at (r ∷ rs) = words-redo_all (lsn + 1) (redo_record lsn at r) rs ∙ words-redo_record lsn at r

-- so they do after a whole log
pub length-redone : (o : Origin) (stored : Pages) (records : List Record) → length (redone o stored records).words ≡ length stored.words
length-redone o stored records = words-redo_all o.lsn stored records

pub length-words_from : (o : Origin) (records : List Record) → length (words_from o records) ≡ length o.pages.words
length-words_from o records = length-redone o o.pages records

filter_all : (test : ℕ × ℕ → Bool) (ws : List (ℕ × ℕ)) → ((w : ℕ × ℕ) → test w ≡ true) → filter test ws ≡ ws
filter_all test [] each = refl
filter_all test (w ∷ ws) each = cond-true (test w) (w ∷ filter test ws) (filter test ws) (each w) ∙ ap (λ (l : List (ℕ × ℕ)). w ∷ l) (filter_all test ws each)

-- where each page lacks a record, the words are those with its effect
pub redo_record-words : (lsn : ℕ) (at : Pages) (rec : Record) → EachLacks lsn at → (redo_record lsn at rec).words ≡ put_record at.words rec
redo_record-words lsn at rec lacking = ap (put_all at.words) (filter_all (λ w. lacks at lsn (page_of w.0)) (effect at.words rec) (λ w. lt-ltb (lsn_of at (page_of w.0)) lsn (lacking (page_of w.0))))

-- The LSNs.

pub lsn-redo_record : (lsn : ℕ) (at : Pages) (rec : Record) (p : ℕ) → p < length at.lsns → lsn_of (redo_record lsn at rec) p ≡ max (lsn_of at p) (cond (touches rec p) lsn 0)
lsn-redo_record lsn at rec p lt = elim (cases_Bool (touches rec p)) [
  | inl some ↦ omega (arith, raised_to-touched lsn p (touched rec) at.lsns lt some, cond-true (touches rec p) lsn 0 some)
  | inr none ↦ omega (arith, raised_to-other lsn p (touched rec) at.lsns none, cond-false (touches rec p) lsn 0 none)
]

pub lsns-redo_record : (lsn : ℕ) (at : Pages) (rec : Record) → length (redo_record lsn at rec).lsns ≡ length at.lsns
lsns-redo_record lsn at rec = length-raised_to lsn (touched rec) at.lsns

pub lsns-redo_all : (lsn : ℕ) (at : Pages) (rs : List Record) → length (redo_all lsn at rs).lsns ≡ length at.lsns
lsns-redo_all lsn at [] = refl
lsns-redo_all lsn at (r ∷ rs) = lsns-redo_all (lsn + 1) (redo_record lsn at r) rs ∙ length-raised_to lsn (touched r) at.lsns

-- a page has the greater of its LSN and that of the last record that touches it
pub lsn-redo_all : (lsn : ℕ) (at : Pages) (rs : List Record) (p : ℕ) → p < length at.lsns → lsn_of (redo_all lsn at rs) p ≡ max (lsn_of at p) (last_lsn p lsn rs)
lsn-redo_all lsn at [] p lt = omega arith
lsn-redo_all lsn at (r ∷ rs) p lt =
    omega (arith, lsn-redo_record lsn at r p lt, lsn-redo_all (lsn + 1) (redo_record lsn at r) rs p (omega (arith, length-raised_to lsn (touched r) at.lsns)))

-- no LSN falls
pub lsn-rises : (lsn : ℕ) (at : Pages) (rec : Record) (p : ℕ) → p < length at.lsns → lsn_of at p ≤ lsn_of (redo_record lsn at rec) p
lsn-rises lsn at rec p lt = omega (arith, lsn-redo_record lsn at rec p lt)

pub lsn-rises_all : (lsn : ℕ) (at : Pages) (rs : List Record) (p : ℕ) → p < length at.lsns → lsn_of at p ≤ lsn_of (redo_all lsn at rs) p
lsn-rises_all lsn at rs p lt = omega (arith, lsn-redo_all lsn at rs p lt)

-- nor does that of a page which there is not
pub lsn-rises_any : (lsn : ℕ) (at : Pages) (rs : List Record) (p : ℕ) → lsn_of at p ≤ lsn_of (redo_all lsn at rs) p
lsn-rises_any lsn at rs p = elim (cases_lt p (length at.lsns)) [
  | inl lt ↦ lsn-rises_all lsn at rs p lt
  | inr past ↦ omega (arith, get_or_past at.lsns p 0 past)
]

-- each page lacks what follows
pub EachLacks-next : (lsn : ℕ) (at : Pages) (rec : Record) → EachLacks lsn at → EachLacks (lsn + 1) (redo_record lsn at rec)
EachLacks-next lsn at rec lacking p = elim (cases_lt p (length at.lsns)) [
  | inl lt ↦ elim (cases_Bool (touches rec p)) [
    | inl some ↦ omega (arith, lsn-redo_record lsn at rec p lt, cond-true (touches rec p) lsn 0 some, lacking p)
    | inr none ↦ omega (arith, lsn-redo_record lsn at rec p lt, cond-false (touches rec p) lsn 0 none, lacking p)
  ]
  | inr past ↦ omega (arith, get_or_past (redo_record lsn at rec).lsns p 0 (omega (arith, length-raised_to lsn (touched rec) at.lsns)))
]

-- where each page lacks the first of these records, the words are those with all of them
pub redo_all-words : (lsn : ℕ) (at : Pages) (rs : List Record) → EachLacks lsn at → (redo_all lsn at rs).words ≡ fold put_record at.words rs
redo_all-words lsn at [] lacking = refl
redo_all-words lsn at (r ∷ rs) lacking =
    redo_all-words (lsn + 1) (redo_record lsn at r) rs (EachLacks-next lsn at r lacking)
    ∙ ap (λ (l : List ℕ). fold put_record l rs) (redo_record-words lsn at r lacking)

-- so have stored pages on which a whole log was redone
pub lsn-redone : (o : Origin) (records : List Record) (stored : Pages) (p : ℕ) → EachHoldsPrefix o records stored → p < pages_in o.state.pages → lsn_of (redone o stored records) p ≡ max (lsn_of stored p) (last_lsn p o.lsn records)
lsn-redone o records stored p legal lt = lsn-redo_all o.lsn stored records p (omega (arith, legal.lsns_size))

-- each page lacks all that follows a record that it lacks
pub EachLacks-later : (lsn later : ℕ) (at : Pages) → lsn ≤ later → EachLacks lsn at → EachLacks later at
EachLacks-later lsn later at le lacking p = omega (arith, lacking p)

-- no record's LSN is above that of the last one, and a page that none touches has the LSN 0
pub last_lsn-reached : (p lsn : ℕ) (rs : List Record) → last_lsn p lsn rs < max 1 (length rs + lsn)
last_lsn-reached p lsn [] = omega arith
last_lsn-reached p lsn (r ∷ rs) = elim (cases_Bool (touches r p)) [
  | inl some ↦ omega (arith, cond-true (touches r p) lsn 0 some, last_lsn-reached p (lsn + 1) rs)
  | inr none ↦ omega (arith, cond-false (touches r p) lsn 0 none, last_lsn-reached p (lsn + 1) rs)
]

-- so a page that lacks the record after some others lacks it still once these are redone, whatever the pages hold
pub lacks-redo_all : (lsn : ℕ) (at : Pages) (rs : List Record) (p : ℕ) → lsn_of at p < length rs + lsn → lsn_of (redo_all lsn at rs) p < length rs + lsn
lacks-redo_all lsn at rs p low = elim (cases_lt p (length at.lsns)) [
  | inl lt ↦ omega (arith, lsn-redo_all lsn at rs p lt, last_lsn-reached p lsn rs, low)
  | inr past ↦ omega (arith, get_or_past (redo_all lsn at rs).lsns p 0 (omega (arith, lsns-redo_all lsn at rs)), get_or_past at.lsns p 0 past, low)
]

-- and so do all pages
pub EachLacks-redo_all : (lsn : ℕ) (at : Pages) (rs : List Record) → EachLacks (length rs + lsn) at → EachLacks (length rs + lsn) (redo_all lsn at rs)
EachLacks-redo_all lsn at rs lacking p = lacks-redo_all lsn at rs p (lacking p)

-- so do those after a whole log, if no LSN of the stored pages is above that of its last record
pub EachLacks-redone : (o : Origin) (records : List Record) (stored : Pages) → EachLacks (next_lsn o records) stored → EachLacks (next_lsn o records) (redone o stored records)
EachLacks-redone o records stored lacking = EachLacks-redo_all o.lsn stored records lacking

-- then the words continue with more records as any words do
pub redone_words-append : (o : Origin) (stored : Pages) (records more : List Record) → EachLacks (next_lsn o records) stored → (redone o stored (records ++ more)).words ≡ fold put_record (redone o stored records).words more
redone_words-append o stored records more lacking =
    ap (λ (at : Pages). at.words) (redo_all-append o.lsn stored records more)
    ∙ redo_all-words (o.lsn + length records) (redone o stored records) more (λ p. omega (arith, EachLacks-redone o records stored lacking p))

-- so the words after records continue, where the pages in front of the log lack what follows
pub words_from-append : (o : Origin) (records more : List Record) → EachLacks (next_lsn o records) o.pages → words_from o (records ++ more) ≡ fold put_record (words_from o records) more
words_from-append o records more lacking = redone_words-append o o.pages records more lacking

-- where they lack all of it, the words are those in front of the log with all records
pub words_from-new : (o : Origin) (records : List Record) → EachLacks o.lsn o.pages → words_from o records ≡ fold put_record o.pages.words records
words_from-new o records lacking = redo_all-words o.lsn o.pages records lacking

-- pages that were never stored lack each record
pub first_lsns : (pages p : ℕ) → lsn_of (first_pages pages) p ≡ 0
first_lsns pages p = elim (cases_lt p (pages_in pages)) [
  | inl lt ↦ get_or-replicate (pages_in pages) p 0 0 lt
  | inr past ↦ get_or_past (first_pages pages).lsns p 0 (omega (arith, length-replicate {A = ℕ} (pages_in pages) 0))
]

pub first_pages-lack : (pages lsn : ℕ) → 1 ≤ lsn → EachLacks lsn (first_pages pages)
first_pages-lack pages lsn some p = omega (arith, first_lsns pages p)

-- so the words that records leave of a new heap are those with the effect of each, one after the other
pub heap_words : (pages first : ℕ) (records : List Record) → words_from (heap_origin pages first) records ≡ fold put_record (first_contents pages) records
heap_words pages first records = words_from-new (heap_origin pages first) records (first_pages-lack pages (heap_origin pages first).lsn (omega arith))

-- and they continue with more records
pub heap_words-append : (pages first : ℕ) (records more : List Record) → words_from (heap_origin pages first) (records ++ more) ≡ fold put_record (words_from (heap_origin pages first) records) more
heap_words-append pages first records more =
    words_from-append (heap_origin pages first) records more (first_pages-lack pages (next_lsn (heap_origin pages first) records) (omega arith))

-- each of the pages that may stand beside records lacks the next one, if the first does not have the LSN 0
pub EachLacks-prefixes : (o : Origin) (records : List Record) (at : Pages) → 1 ≤ o.lsn → EachHoldsPrefix o records at → EachLacks (next_lsn o records) at
EachLacks-prefixes o records at some is p = elim (cases_lt p (length at.lsns)) [
  | inl lt ↦ omega (arith, (is.each p (omega (arith, is.lsns_size))).reached)
  | inr past ↦ omega (arith, get_or_past at.lsns p 0 past)
]
