-- A record that is put on its pages one after another leaves what redo leaves.
use Rattle.std.proofs.Common.{◌≡◌, ℕ, ◌+◌, ◌*◌, ◌<◌, ◌≤◌, Bool, true, false, List, [], ◌∷◌, length, get_or, refl, sym, ap, subst, ◌∙◌, arith, inl, inr, length-set, get_or-set_same, get_or-set_other}
use Rattle.std.specs.Prelude.{◌==◌, map, None, Some}
use Rattle.std.specs.List.{AllByRecursion, list_any}
use Rattle.std.proofs.lemmas.Bool.{cases_eq, cases_lt, eqb-true, eq-eqb, ne_eqb, false≢true, lt-ltb, le-ltb, or_cases}
use Rattle.std.proofs.lemmas.List.{ext_get_or}
use Rattle.log_machine.proofs.Addresses.{effect-addresses, effect_any}
use Rattle.log_machine.proofs.ListLaws.{AllByRecursion-map}
use Rattle.log_machine.proofs.WordsLaws.{length-put_all}
use Rattle.log_machine.specs.Effect.{WritesBelow}
use Rattle.log_machine.specs.Machine.{addresses, effect, put_all}
use Rattle.log_records.specs.declared.Record.{Record}
use Rattle.page_cache.specs.ByPage.{IsNextOf, on_page, put_page}
use Rattle.page_redo.proofs.PageLaws.{put_kept, put_left, put_elsewhere, raised_to-other, raised_to-touched}
use Rattle.page_redo.proofs.RedoLaws.{lsns-redo_record, words-redo_record}
use Rattle.page_redo.proofs.Touched.{touches-address}
use Rattle.page_redo.specs.Pages.{Pages, page_of, lsn_of, touched, touches}
use Rattle.page_redo.specs.Redo.{EachLacks, lacks, redo_record}

-- The record of an LSN is put on the pages before one, and the others are as they were.
pub record IsPutBefore (lsn : ℕ) (rec : Record) (old : Pages) (from : ℕ) (now : Pages) : Type 0 where
  pub words : length now.words ≡ length old.words
  pub lsns : length now.lsns ≡ length old.lsns
  pub put : (a : ℕ) → page_of a < from → get_or now.words a 0 ≡ get_or (redo_record lsn old rec).words a 0
  pub left : (a : ℕ) → from ≤ page_of a → get_or now.words a 0 ≡ get_or old.words a 0
  pub raised : (p : ℕ) → p < from → lsn_of now p ≡ lsn_of (redo_record lsn old rec) p
  pub kept : (p : ℕ) → from ≤ p → lsn_of now p ≡ lsn_of old p

-- before the first page
pub put_none : (lsn : ℕ) (rec : Record) (old : Pages) → IsPutBefore lsn rec old 0 old
put_none lsn rec old = record { words = refl; lsns = refl; put = λ a lt. absurd (omega arith); left = λ a le. refl; raised = λ p lt. absurd (omega arith); kept = λ p le. refl }

module _ (lsn : ℕ) (rec : Record) (old : Pages) where
  abbrev redone : Pages
  redone = redo_record lsn old rec

  -- redo leaves a page that the record does not touch as it was
  word_elsewhere : (a : ℕ) → touches rec (page_of a) ≡ false → get_or redone.words a 0 ≡ get_or old.words a 0
  word_elsewhere a none =
      let p = page_of a in
      let writes = effect old.words rec in
      elim (cases_lt (lsn_of old p) lsn) [
        | inl less ↦
            put_kept (lacks old lsn) p a refl (lt-ltb (lsn_of old p) lsn less) writes old.words old.words refl refl
            ∙ put_elsewhere p a refl writes old.words (ap (λ (l : List ℕ). list_any (λ q. q == p) (map page_of l)) (effect-addresses old.words rec) ∙ sym (touches-address rec p) ∙ none)
        | inr has ↦ put_left (lacks old lsn) p a refl (le-ltb (lsn_of old p) lsn has) writes old.words
      ]

  -- and one that has it
  word_had : (a : ℕ) → lsn ≤ lsn_of old (page_of a) → get_or redone.words a 0 ≡ get_or old.words a 0
  word_had a has = put_left (lacks old lsn) (page_of a) a refl (le-ltb (lsn_of old (page_of a)) lsn has) (effect old.words rec) old.words

  -- all is put where no page from one on is touched
  pub put_all_pages : (from : ℕ) (now : Pages) → IsPutBefore lsn rec old from now → IsNextOf (touched rec) from None → now ≡ redone
  put_all_pages from now is none =
      let same_words : now.words ≡ redone.words =
      ext_get_or 0 now.words redone.words (is.words ∙ sym (words-redo_record lsn old rec)) (λ a lt. elim (cases_lt (page_of a) from) [
        | inl before ↦ is.put a before
        | inr behind ↦ is.left a behind ∙ sym (word_elsewhere a (none (page_of a) behind))
      ]) in
      let same_lsns : now.lsns ≡ redone.lsns =
      ext_get_or 0 now.lsns redone.lsns (is.lsns ∙ sym (lsns-redo_record lsn old rec)) (λ p lt. elim (cases_lt p from) [
        | inl before ↦ is.raised p before
        | inr behind ↦ is.kept p behind ∙ sym (raised_to-other lsn p (touched rec) old.lsns (none p behind))
      ]) in
      let made : List ℕ → List ℕ → Pages = λ words lsns. record { words = words; lsns = lsns } in
      λ i. made (same_words i) (same_lsns i)

  module _ (from p : ℕ) (now : Pages) (is : IsPutBefore lsn rec old from now) (next : IsNextOf (touched rec) from (Some p)) (within : p < length old.lsns) where
    -- a page between is not touched
    between : (q : ℕ) → from ≤ q → q < p → touches rec q ≡ false
    between q low high = next.2 q low high

    -- the next page has the record already
    pub put_had : lsn ≤ lsn_of now p → IsPutBefore lsn rec old (p + 1) now
    put_had has =
        let has' : lsn ≤ lsn_of old p = omega (arith, has, is.kept p next.0) in
        record {
          words = is.words;
          lsns = is.lsns;
          put = λ a lt. elim (cases_lt (page_of a) from) [
            | inl before ↦ is.put a before
            | inr behind ↦ is.left a behind ∙ sym (elim (cases_lt (page_of a) p) [
              | inl less ↦ word_elsewhere a (between (page_of a) behind less)
              | inr last ↦ let here : p ≡ page_of a = omega arith in word_had a (subst (λ (q : ℕ). lsn ≤ lsn_of old q) here has')
            ])
          ];
          left = λ a le. is.left a (omega (arith, le, next.0));
          raised = λ q lt. elim (cases_lt q from) [
            | inl before ↦ is.raised q before
            | inr behind ↦ is.kept q behind ∙ sym (elim (cases_lt q p) [
              | inl less ↦ raised_to-other lsn q (touched rec) old.lsns (between q behind less)
              | inr last ↦
                  let here : p ≡ q = omega arith in
                  let P : ℕ → Type 0 = λ k. lsn_of redone k ≡ lsn_of old k in
                  subst P here (omega (arith, raised_to-touched lsn p (touched rec) old.lsns within next.1, has'))
            ])
          ];
          kept = λ q le. is.kept q (omega (arith, le, next.0));
        }

    abbrev new : Pages
    new = put_page lsn p now rec

    -- where it lacks it, what the record writes there is put
    word_new : (a : ℕ) → page_of a ≡ p → lsn_of now p < lsn → get_or new.words a 0 ≡ get_or redone.words a 0
    word_new a here less =
        let keep : ℕ → Bool = λ q. q == p in
        let lacking : lsn_of old p < lsn = omega (arith, less, is.kept p next.0) in
        put_kept keep p a here (eq-eqb p p refl) (effect now.words rec) now.words old.words is.words (is.left a (omega (arith, here, next.0)))
        ∙ ap (λ (ws : List (ℕ × ℕ)). get_or (put_all old.words ws) a 0) (effect_any now.words old.words rec)
        ∙ sym (put_kept (lacks old lsn) p a here (lt-ltb (lsn_of old p) lsn lacking) (effect old.words rec) old.words old.words refl refl)

    word_other : (a : ℕ) → (page_of a ≡ p → ⊥) → get_or new.words a 0 ≡ get_or now.words a 0
    word_other a apart =
        let keep : ℕ → Bool = λ q. q == p in
        put_left keep (page_of a) a refl (ne_eqb (page_of a) p apart) (effect now.words rec) now.words

    lsn_new : lsn_of now p < lsn → lsn_of new p ≡ lsn_of redone p
    lsn_new less =
        let lacking : lsn_of old p < lsn = omega (arith, less, is.kept p next.0) in
        let there : p < length now.lsns = omega (arith, within, is.lsns) in
        omega (arith, get_or-set_same now.lsns p lsn 0 there, raised_to-touched lsn p (touched rec) old.lsns within next.1, lacking)

    lsn_other : (q : ℕ) → (q ≡ p → ⊥) → lsn_of new q ≡ lsn_of now q
    lsn_other q apart = get_or-set_other now.lsns p q lsn 0 apart

    pub put_next : lsn_of now p < lsn → IsPutBefore lsn rec old (p + 1) new
    put_next less = record {
      words = length-put_all (on_page p (effect now.words rec)) now.words ∙ is.words;
      lsns = length-set now.lsns p lsn ∙ is.lsns;
      put = λ a lt. elim (cases_eq (page_of a) p) [
        | inl here ↦ word_new a here less
        | inr apart ↦ word_other a apart ∙ elim (cases_lt (page_of a) from) [
          | inl before ↦ is.put a before
          | inr behind ↦ is.left a behind ∙ sym (word_elsewhere a (between (page_of a) behind (omega (arith, apart, lt))))
        ]
      ];
      left = λ a le. word_other a (λ here. absurd (omega (arith, here, le))) ∙ is.left a (omega (arith, le, next.0));
      raised = λ q lt. elim (cases_eq q p) [
        | inl here ↦ subst (λ (k : ℕ). lsn_of new k ≡ lsn_of redone k) (sym here) (lsn_new less)
        | inr apart ↦ lsn_other q apart ∙ elim (cases_lt q from) [
          | inl before ↦ is.raised q before
          | inr behind ↦ is.kept q behind ∙ sym (raised_to-other lsn q (touched rec) old.lsns (between q behind (omega (arith, apart, lt))))
        ]
      ];
      kept = λ q le. lsn_other q (λ here. absurd (omega (arith, here, le))) ∙ is.kept q (omega (arith, le, next.0));
    }

-- Where a record writes.

page_below : (pages : ℕ) (at : List ℕ) (p : ℕ) → AllByRecursion (λ a. a < 64 * pages) at → list_any (λ q. q == p) (map page_of at) ≡ true → p < pages
page_below pages [] p below some = absurd (false≢true some)
page_below pages (a ∷ rest) p below some = elim (or_cases (page_of a == p) (list_any (λ q. q == p) (map page_of rest)) some) [
  | inl here ↦ omega (arith, eqb-true (page_of a) p here, below.0)
  | inr later ↦ page_below pages rest p below.1 later
]

-- the pages that a record touches are those of the words in which it writes
pub touched_below : (pages size : ℕ) (rec : Record) (p : ℕ) → size ≡ 64 * pages → WritesBelow size rec → touches rec p ≡ true → p < pages
touched_below pages size rec p is below some =
    page_below pages (addresses rec) p (subst (λ (n : ℕ). WritesBelow n rec) is below) (sym (touches-address rec p) ∙ some)

-- what is written below an address is written below a later one
pub below_more : (end more : ℕ) (rec : Record) → end ≤ more → WritesBelow end rec → WritesBelow more rec
below_more end more rec le below = AllByRecursion-map (λ a. a < end) (λ a. a < more) (addresses rec) (λ a lt. omega arith) below

-- each page lacks what follows a record that is put on one of them
pub put_lacks : (next lsn p : ℕ) (at : Pages) (rec : Record) → EachLacks next at → lsn < next → p < length at.lsns → EachLacks next (put_page lsn p at rec)
put_lacks next lsn p at rec lacking less within q = elim (cases_eq q p) [
  | inl here ↦ subst (λ (k : ℕ). lsn_of (put_page lsn p at rec) k < next) (sym here) (omega (arith, get_or-set_same at.lsns p lsn 0 within, less))
  | inr apart ↦ omega (arith, get_or-set_other at.lsns p q lsn 0 apart, lacking q)
]

-- and the words keep their number
pub length-put_page : (lsn p : ℕ) (at : Pages) (rec : Record) → length (put_page lsn p at rec).words ≡ length at.words
length-put_page lsn p at rec = length-put_all (on_page p (effect at.words rec)) at.words
