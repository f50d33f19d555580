-- Redo continues: what the pages are when the first n records of a log have been redone.
use Rattle.std.proofs.Common.{◌≡◌, ℕ, ◌+◌, ◌-◌, ◌<◌, ◌≤◌, false, List, [], ◌∷◌, ◌++◌, length, get_or, take, refl, sym, ap, subst, ◌∙◌, arith, inl, inr, ⊎_elim, append_assoc, length-append, ◌⊎◌}
use Rattle.std.specs.Prelude.{map, max, ◌==◌}
use Rattle.std.specs.List.{filter, list_any}
use Rattle.std.proofs.lemmas.Bool.{cases_Bool, cases_lt, lt-ltb, le-ltb}
use Rattle.std.proofs.lemmas.List.{take_at, length-take-le}
use Rattle.log_records.specs.declared.Record.{Record}
use Rattle.log_machine.specs.Machine.{effect, put_all, words_in}
use Rattle.page_redo.specs.Origin.{Origin, next_lsn}
use Rattle.log_machine.proofs.Addresses.{effect-addresses, effect_any}
use Rattle.log_machine.proofs.WordsLaws.{length-put_all}
use Rattle.page_redo.specs.Pages.{Pages, pages_in, page_of, lsn_of, touched, touches}
use Rattle.page_redo.specs.Prefix.{HasAllWords}
use Rattle.page_redo.specs.Redo.{lacks, redo_record, redo_all, words_from}
use Rattle.page_redo.proofs.PageLaws.{put_kept, put_left, put_elsewhere, length-raised_to, raised_to-other, raised_to-touched}
use Rattle.page_redo.proofs.RedoLaws.{length-words_from, redo_all-append, lacks-redo_all, lsn-rises_any}
use Rattle.page_redo.proofs.Touched.{touches-address}

-- how many of a log's records have an LSN up to this one
abbrev pub count_to : Origin → ℕ → ℕ
count_to o lsn = lsn + 1 - o.lsn

-- The first n of these records have been redone: a page whose LSN is not above that of the last has the words of all n, and a page whose
-- LSN is above it is as it was stored; and no record since a page's LSN has changed it.
pub record IsRedoneTo (o : Origin) (records : List Record) (n : ℕ) (at : Pages) : Type 0 where
  pub size : length at.words ≡ words_in o.state.pages
  pub lsns_size : length at.lsns ≡ pages_in o.state.pages
  pub from : (p : ℕ) → p < pages_in o.state.pages → lsn_of o.pages p ≤ lsn_of at p
  pub reached : (p : ℕ) → p < pages_in o.state.pages → lsn_of at p < next_lsn o records
  pub same : (p a : ℕ) → p < pages_in o.state.pages → page_of a ≡ p → get_or at.words a 0 ≡ get_or (words_from o (take (max n (count_to o (lsn_of at p))) records)) a 0
  pub own : (p a : ℕ) → p < pages_in o.state.pages → count_to o (lsn_of at p) ≤ n → page_of a ≡ p → get_or (words_from o (take n records)) a 0 ≡ get_or (words_from o (take (count_to o (lsn_of at p)) records)) a 0

-- the LSN of a page after a record was redone
lsn_after : (lsn : ℕ) (at : Pages) (r : Record) (p : ℕ) → p < length at.lsns → (lsn_of (redo_record lsn at r) p ≡ max (lsn_of at p) lsn) ⊎ ((lsn_of (redo_record lsn at r) p ≡ lsn_of at p) × (touches r p ≡ false))
lsn_after lsn at r p lt = elim (cases_Bool (touches r p)) [
  | inl some ↦ inl (raised_to-touched lsn p (touched r) at.lsns lt some)
  | inr none ↦ inr (raised_to-other lsn p (touched r) at.lsns none, none)
]

module _ (o : Origin) (whole : HasAllWords o) (records : List Record) where
  -- the pages of the origin after the first n records
  abbrev pages_after : ℕ → Pages
  pages_after n = redo_all o.lsn o.pages (take n records)

  -- and their words
  abbrev words_after : ℕ → List ℕ
  words_after n = words_from o (take n records)

  abbrev word_at : ℕ → ℕ → ℕ
  word_at a n = get_or (words_after n) a 0

  module _ (n lsn : ℕ) (r : Record) (at : Pages) (place : lsn ≡ n + o.lsn) (next : pages_after (n + 1) ≡ redo_record lsn (pages_after n) r) (more : n + 1 ≤ length records) (is : IsRedoneTo o records n at) where
    abbrev new : Pages
    new = redo_record lsn at r

    step_lsn : (p : ℕ) → p < pages_in o.state.pages → (lsn_of new p ≡ max (lsn_of at p) lsn) ⊎ ((lsn_of new p ≡ lsn_of at p) × (touches r p ≡ false))
    step_lsn p lt = lsn_after lsn at r p (omega (arith, is.lsns_size))

    -- the record is put on a page with which the log does not have it yet
    put_low : (p a : ℕ) → page_of a ≡ p → lsn_of o.pages p < lsn → word_at a (n + 1) ≡ get_or (put_all (words_after n) (effect (words_after n) r)) a 0
    put_low p a there low =
        let long : length (take n records) ≡ n = length-take-le n records (omega (arith, more)) in
        let lacking : lsn_of (pages_after n) p < lsn = omega (arith, lacks-redo_all o.lsn o.pages (take n records) p (omega (arith, long, place, low)), long, place) in
        ap (λ (ps : Pages). get_or ps.words a 0) next
        ∙ put_kept (lacks (pages_after n) lsn) p a there (lt-ltb (lsn_of (pages_after n) p) lsn lacking) (effect (words_after n) r) (words_after n) (words_after n) refl refl

    -- and not on one that begins with it
    put_high : (p a : ℕ) → page_of a ≡ p → lsn ≤ lsn_of o.pages p → word_at a (n + 1) ≡ word_at a n
    put_high p a there high =
        let has : lsn ≤ lsn_of (pages_after n) p = omega (arith, lsn-rises_any o.lsn o.pages (take n records) p, high) in
        ap (λ (ps : Pages). get_or ps.words a 0) next ∙ put_left (lacks (pages_after n) lsn) p a there (le-ltb (lsn_of (pages_after n) p) lsn has) (effect (words_after n) r) (words_after n)

    -- a record that does not touch a page leaves it
    put_apart : (p a : ℕ) → page_of a ≡ p → touches r p ≡ false → word_at a (n + 1) ≡ word_at a n
    put_apart p a there apart = elim (cases_lt (lsn_of o.pages p) lsn) [
      | inl low ↦
          put_low p a there low
          ∙ put_elsewhere p a there (effect (words_after n) r) (words_after n) (ap (λ (l : List ℕ). list_any (λ q. q == p) (map page_of l)) (effect-addresses (words_after n) r) ∙ sym (touches-address r p) ∙ apart)
      | inr high ↦ put_high p a there high
    ]

    -- the words of a page that lacks the record
    step_low : (p a : ℕ) → p < pages_in o.state.pages → page_of a ≡ p → lsn_of at p < lsn → get_or new.words a 0 ≡ word_at a (n + 1)
    step_low p a lt there low =
        let now : max n (count_to o (lsn_of at p)) ≡ n = omega (arith, place) in
        put_kept (lacks at lsn) p a there (lt-ltb (lsn_of at p) lsn low) (effect at.words r) at.words (words_after n)
        (is.size ∙ sym (length-words_from o (take n records) ∙ whole))
        (is.same p a lt there ∙ ap (word_at a) now)
        ∙ ap (λ (ws : List (ℕ × ℕ)). get_or (put_all (words_after n) ws) a 0) (effect_any at.words (words_after n) r)
        ∙ sym (put_low p a there (omega (arith, is.from p lt, low)))

    -- those of one that has it
    step_high : (p a : ℕ) → p < pages_in o.state.pages → page_of a ≡ p → lsn ≤ lsn_of at p → get_or new.words a 0 ≡ word_at a (max n (count_to o (lsn_of at p)))
    step_high p a lt there high = put_left (lacks at lsn) p a there (le-ltb (lsn_of at p) lsn high) (effect at.words r) at.words ∙ is.same p a lt there

    step_same : (p a : ℕ) → p < pages_in o.state.pages → page_of a ≡ p → get_or new.words a 0 ≡ word_at a (max (n + 1) (count_to o (lsn_of new p)))
    step_same p a lt there = elim (cases_lt (lsn_of at p) lsn) [
      | inl low ↦
          let so : n + 1 ≡ max (n + 1) (count_to o (lsn_of new p)) = ⊎_elim (λ e. omega (arith, e, place, low)) (λ e. omega (arith, e.0, place, low)) (step_lsn p lt) in
          step_low p a lt there low ∙ ap (word_at a) so
      | inr high ↦
          let so : max n (count_to o (lsn_of at p)) ≡ max (n + 1) (count_to o (lsn_of new p)) = ⊎_elim (λ e. omega (arith, e, place, high)) (λ e. omega (arith, e.0, place, high)) (step_lsn p lt) in
          step_high p a lt there high ∙ ap (word_at a) so
    ]

    step_own : (p a : ℕ) → p < pages_in o.state.pages → count_to o (lsn_of new p) ≤ n + 1 → page_of a ≡ p → word_at a (n + 1) ≡ word_at a (count_to o (lsn_of new p))
    step_own p a lt le there = ⊎_elim
        (λ raised. let so : n + 1 ≡ count_to o (lsn_of new p) = omega (arith, raised, place, le) in ap (word_at a) so)
        (λ kept. elim (cases_lt n (count_to o (lsn_of at p))) [
          | inl last ↦ let so : n + 1 ≡ count_to o (lsn_of new p) = omega (arith, kept.0, last, le) in ap (word_at a) so
          | inr before ↦
              put_apart p a there kept.1
              ∙ is.own p a lt before there
              ∙ ap (λ (k : ℕ). word_at a (count_to o k)) (sym kept.0)
        ])
        (step_lsn p lt)

    -- one more record
    pub step : IsRedoneTo o records (n + 1) new
    step = record {
      size = length-put_all (filter (λ (w : ℕ × ℕ). lacks at lsn (page_of w.0)) (effect at.words r)) at.words ∙ is.size;
      lsns_size = length-raised_to lsn (touched r) at.lsns ∙ is.lsns_size;
      from = λ p lt. ⊎_elim (λ e. omega (arith, e, is.from p lt)) (λ e. omega (arith, e.0, is.from p lt)) (step_lsn p lt);
      reached = λ p lt. ⊎_elim (λ e. omega (arith, e, is.reached p lt, place, more)) (λ e. omega (arith, e.0, is.reached p lt)) (step_lsn p lt);
      same = step_same;
      own = step_own;
    }

-- the pages of an origin after one more record
pages_next : (o : Origin) (done : List Record) (r : Record) (rest : List Record) → redo_all o.lsn o.pages (take (length done + 1) (done ++ r ∷ rest)) ≡ redo_record (length done + o.lsn) (redo_all o.lsn o.pages (take (length done) (done ++ r ∷ rest))) r
pages_next o done r rest =
    let same : o.lsn + length done ≡ length done + o.lsn = omega arith in
    ap (λ (l : List Record). redo_all o.lsn o.pages (take (length done + 1) l)) (sym (append_assoc done (r ∷ []) rest))
    ∙ ap (redo_all o.lsn o.pages) (take_at (done ++ r ∷ []) rest (length done + 1) (length-append done (r ∷ [])))
    ∙ redo_all-append o.lsn o.pages done (r ∷ [])
    ∙ ap (λ (k : ℕ). redo_record k (redo_all o.lsn o.pages done) r) same
    ∙ ap (λ (l : List Record). redo_record (length done + o.lsn) (redo_all o.lsn o.pages l) r) (sym (take_at done (r ∷ rest) (length done) refl))

-- The pages of an origin after n + 1 of these records are those after n with one more.
abbrev GoOn : Origin → List Record → ℕ → Record → Type 0
GoOn o all n r = redo_all o.lsn o.pages (take (n + 1) all) ≡ redo_record (n + o.lsn) (redo_all o.lsn o.pages (take n all)) r

pages_next_of : (o : Origin) (done : List Record) (r : Record) (rest all : List Record) (n : ℕ) → done ++ r ∷ rest ≡ all → length done ≡ n → GoOn o all n r
pages_next_of o done r rest all n joined so_far =
    subst (λ (l : List Record). GoOn o l n r) joined (subst (λ (k : ℕ). GoOn o (done ++ r ∷ rest) k r) so_far (pages_next o done r rest))

-- all records more, of which the first has this LSN
pub redone_to_end : (o : Origin) (whole : HasAllWords o) (done rest all : List Record) (n lsn : ℕ) (at : Pages) → lsn ≡ n + o.lsn → done ++ rest ≡ all → length done ≡ n → IsRedoneTo o all n at → IsRedoneTo o all (length all) (redo_all lsn at rest)
redone_to_end o whole done [] all n lsn at place joined so_far is =
    let end : n ≡ length all = omega (arith, ap (λ (l : List Record). length l) joined, length-append done []) in
    subst (λ (k : ℕ). IsRedoneTo o all k at) end is
redone_to_end o whole done (r ∷ rest) all n lsn at place joined so_far is =
    let more : n + 1 ≤ length all = omega (arith, ap (λ (l : List Record). length l) joined, length-append done (r ∷ rest)) in
    let next : redo_all o.lsn o.pages (take (n + 1) all) ≡ redo_record lsn (redo_all o.lsn o.pages (take n all)) r =
    pages_next_of o done r rest all n joined so_far ∙ ap (λ (k : ℕ). redo_record k (redo_all o.lsn o.pages (take n all)) r) (sym place) in
    let one : length (done ++ r ∷ []) ≡ n + 1 = omega (arith, length-append done (r ∷ [])) in
    redone_to_end o whole (done ++ r ∷ []) rest all (n + 1) (lsn + 1) (redo_record lsn at r) (omega (arith, place)) (append_assoc done (r ∷ []) rest ∙ joined) one (step o whole all n lsn r at place next more is)
