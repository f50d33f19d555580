-- Laws of stored pages: redo makes them the present ones, and what may be stored in their place.
use Rattle.std.proofs.Common.{◌≡◌, ℕ, ◌+◌, ◌*◌, ◌<◌, ◌≤◌, List, [], ◌++◌, length, get_or, take, refl, sym, ap, subst, ◌∙◌, arith, inl, inr, length-set, length-append, length-take, get_or-set_same, get_or-set_other}
use Rattle.std.specs.Prelude.{max}
use Rattle.std.proofs.lemmas.Bool.{cases_eq}
use Rattle.std.proofs.lemmas.List.{ext_get_or, take_all, take_at, take-take, take-append-le, length-replicate}
use Rattle.log_records.specs.declared.Record.{Record}
use Rattle.page_redo.specs.Origin.{Origin, heap_origin, next_lsn, records_below}
use Rattle.log_machine.proofs.WordsLaws.{length-first_contents}
use Rattle.page_redo.specs.Pages.{Pages, pages_in, page_of, page_words, lsn_of, first_pages}
use Rattle.page_redo.proofs.OnePage.{with_page}
use Rattle.page_redo.specs.Redo.{redo_all, redone, words_from}
use Rattle.page_redo.specs.Prefix.{HasAllWords, HoldsPrefix, EachHoldsPrefix, IsPresent}
use Rattle.page_redo.proofs.PageLaws.{page_alike, alike_page, alike_pages, length-with_words, with_words-same, with_words-other}
use Rattle.page_redo.proofs.RedoLaws.{length-words_from, first_lsns, lsn-redo_all, lsns-redo_all}
use Rattle.page_redo.proofs.RedoSteps.{count_to, IsRedoneTo, redone_to_end}

-- Redo.

-- before the first record is redone
from_stored : (o : Origin) (records : List Record) (stored : Pages) → EachHoldsPrefix o records stored → IsRedoneTo o records 0 stored
from_stored o records stored legal = record {
  size = legal.size;
  lsns_size = legal.lsns_size;
  from = λ p lt. (legal.each p lt).from;
  reached = λ p lt. (legal.each p lt).reached;
  same = λ p a lt there.
      let now : count_to o (lsn_of stored p) ≡ max 0 (count_to o (lsn_of stored p)) = omega arith in
      page_alike p a stored.words (words_from o (take (count_to o (lsn_of stored p)) records)) (legal.each p lt).same there
      ∙ ap (λ (k : ℕ). get_or (words_from o (take k records)) a 0) now;
  own = λ p a lt le there.
      let none : 0 ≡ count_to o (lsn_of stored p) = omega (arith, le) in
      ap (λ (k : ℕ). get_or (words_from o (take k records)) a 0) none;
}

-- once all are redone
at_end : (o : Origin) → HasAllWords o → (records : List Record) (at : Pages) → IsRedoneTo o records (length records) at → IsPresent o records at
at_end o all_words records at is =
    let whole : take (length records) records ≡ records = take_all (length records) records (omega arith) in
    let long : (rs : List Record) → length at.words ≡ length (words_from o rs) = λ rs. is.size ∙ sym (length-words_from o rs ∙ all_words) in
    let reached : (p : ℕ) → p < pages_in o.state.pages → count_to o (lsn_of at p) ≤ length records = λ p lt. omega (arith, is.reached p lt) in
    let same_word : (p a : ℕ) → p < pages_in o.state.pages → page_of a ≡ p → get_or at.words a 0 ≡ get_or (words_from o (take (length records) records)) a 0 = λ p a lt there.
    let last : max (length records) (count_to o (lsn_of at p)) ≡ length records = omega (arith, reached p lt) in
    is.same p a lt there ∙ ap (λ (k : ℕ). get_or (words_from o (take k records)) a 0) last in
    record {
      prefixes = record {
        size = is.size;
        lsns_size = is.lsns_size;
        each = λ p lt. record {
          from = is.from p lt;
          reached = is.reached p lt;
          same = alike_page p at.words (words_from o (take (count_to o (lsn_of at p)) records)) (long (take (count_to o (lsn_of at p)) records))
              (λ a there. same_word p a lt there ∙ is.own p a lt (reached p lt) there);
        };
      };
      present = alike_pages o.state.pages at.words (words_from o records) is.size (length-words_from o records ∙ all_words)
          (λ p lt. alike_page p at.words (words_from o records) (long records)
          (λ a there. same_word p a lt there ∙ ap (λ (l : List Record). get_or (words_from o l) a 0) whole));
    }

-- a log that is redone on stored pages makes them the present ones
pub redone-present : (o : Origin) → HasAllWords o → (records : List Record) (stored : Pages) → EachHoldsPrefix o records stored → IsPresent o records (redone o stored records)
redone-present o whole records stored legal = at_end o whole records (redone o stored records) (redone_to_end o whole [] records records 0 o.lsn stored (omega arith) refl refl (from_stored o records stored legal))

-- so it leaves the words of the records
pub redone-words : (o : Origin) → HasAllWords o → (records : List Record) (stored : Pages) → EachHoldsPrefix o records stored → (redone o stored records).words ≡ words_from o records
redone-words o whole records stored legal = (redone-present o whole records stored legal).present

-- redo is repeated without an effect
pub redone-redone : (o : Origin) → HasAllWords o → (records : List Record) (stored : Pages) → EachHoldsPrefix o records stored → redone o (redone o stored records) records ≡ redone o stored records
redone-redone o whole records stored legal =
    let now : Pages = redone o stored records in
    let once = redone-present o whole records stored legal in
    let twice = redone-present o whole records now once.prefixes in
    let same_lsns : (redone o now records).lsns ≡ now.lsns =
    ext_get_or 0 (redone o now records).lsns now.lsns (lsns-redo_all o.lsn now records)
    (λ p lt. let within : p < length stored.lsns = omega (arith, lsns-redo_all o.lsn now records, lsns-redo_all o.lsn stored records) in
    omega (arith, lsn-redo_all o.lsn now records p (omega (arith, lsns-redo_all o.lsn stored records)), lsn-redo_all o.lsn stored records p within)) in
    let made : List ℕ → List ℕ → Pages = λ words lsns. record { words = words; lsns = lsns } in
    ap (λ (l : List ℕ). made l (redone o now records).lsns) (twice.present ∙ sym once.present) ∙ ap (made now.words) same_lsns

-- where more records follow those of present pages, these are the ones that have been redone
from_present : (o : Origin) (records more : List Record) (at : Pages) → IsPresent o records at → IsRedoneTo o (records ++ more) (length records) at
from_present o records more at is =
    let longer = length-append records more in
    let front : take (length records) (records ++ more) ≡ records = take_at records more (length records) refl in
    let now : (a : ℕ) → get_or (words_from o (take (length records) (records ++ more))) a 0 ≡ get_or at.words a 0 = λ a.
    ap (λ (l : List Record). get_or (words_from o l) a 0) front ∙ ap (λ (l : List ℕ). get_or l a 0) (sym is.present) in
    record {
      size = is.prefixes.size;
      lsns_size = is.prefixes.lsns_size;
      from = λ p lt. (is.prefixes.each p lt).from;
      reached = λ p lt. omega (arith, longer, (is.prefixes.each p lt).reached);
      same = λ p a lt there.
          let last : length records ≡ max (length records) (count_to o (lsn_of at p)) = omega (arith, (is.prefixes.each p lt).reached) in
          sym (now a) ∙ ap (λ (k : ℕ). get_or (words_from o (take k (records ++ more))) a 0) last;
      own = λ p a lt le there.
          now a
          ∙ page_alike p a at.words (words_from o (take (count_to o (lsn_of at p)) records)) (is.prefixes.each p lt).same there
          ∙ ap (λ (l : List Record). get_or (words_from o l) a 0) (sym (take-append-le (count_to o (lsn_of at p)) records more le));
    }

-- records that are put on present pages leave present ones
pub present-append : (o : Origin) → HasAllWords o → (records more : List Record) (at : Pages) → IsPresent o records at → IsPresent o (records ++ more) (redo_all (next_lsn o records) at more)
present-append o whole records more at is =
    at_end o whole (records ++ more) (redo_all (next_lsn o records) at more) (redone_to_end o whole records more (records ++ more) (length records) (next_lsn o records) at refl refl refl (from_present o records more at is))

-- a page that no record has changed since it was stored is the present one
pub stored_is_present : (o : Origin) → HasAllWords o → (records : List Record) (stored : Pages) (p : ℕ) → EachHoldsPrefix o records stored → p < pages_in o.state.pages
    → lsn_of stored p ≡ lsn_of (redone o stored records) p → page_words stored.words p ≡ page_words (words_from o records) p
stored_is_present o whole records stored p legal lt same =
    let now = redone-present o whole records stored legal in
    (legal.each p lt).same
    ∙ ap (λ (k : ℕ). page_words (words_from o (records_below o (k + 1) records)) p) same
    ∙ sym (now.prefixes.each p lt).same
    ∙ ap (λ (l : List ℕ). page_words l p) now.present

-- What may be stored.

-- one page may stand beside more records
pub HoldsPrefix-append : (o : Origin) (records more : List Record) (p lsn : ℕ) (page : List ℕ) → HoldsPrefix o records p lsn page → HoldsPrefix o (records ++ more) p lsn page
HoldsPrefix-append o records more p lsn page is = record {
  from = is.from;
  reached = omega (arith, length-append records more, is.reached);
  same = is.same ∙ ap (λ (l : List Record). page_words (words_from o l) p) (sym (take-append-le (count_to o lsn) records more (omega (arith, is.reached))));
}

-- and beside fewer, if these reach its LSN
pub HoldsPrefix-take : (o : Origin) (records : List Record) (n p lsn : ℕ) (page : List ℕ) → HoldsPrefix o records p lsn page → lsn < n + o.lsn → HoldsPrefix o (take n records) p lsn page
HoldsPrefix-take o records n p lsn page is le = record {
  from = is.from;
  reached = omega (arith, length-take n records, is.reached, le);
  same = is.same ∙ ap (λ (l : List Record). page_words (words_from o l) p) (sym (take-take (count_to o lsn) n records (omega (arith, le))));
}

-- and as many as the LSN of the page says
pub HoldsPrefix-own : (o : Origin) (records : List Record) (at : Pages) (p : ℕ) → IsPresent o records at → p < pages_in o.state.pages → HoldsPrefix o records p (lsn_of at p) (page_words (words_from o records) p)
HoldsPrefix-own o records at p is lt = record {
  from = (is.prefixes.each p lt).from;
  reached = (is.prefixes.each p lt).reached;
  same = ap (λ (l : List ℕ). page_words l p) (sym is.present) ∙ (is.prefixes.each p lt).same;
}

-- pages that were never stored may stand beside any records of a log that begins with its heap
pub first_pages-prefixes : (pages first : ℕ) (records : List Record) → EachHoldsPrefix (heap_origin pages first) records (first_pages pages)
first_pages-prefixes pages first records = record {
  size = length-first_contents pages;
  lsns_size = length-replicate (pages_in pages) 0;
  each = λ p lt.
      let none = first_lsns pages p in
      record {
        from = omega arith;
        reached = omega (arith, none);
        same = ap (λ (k : ℕ). page_words (words_from (heap_origin pages first) (records_below (heap_origin pages first) (k + 1) records)) p) (sym none);
      };
}

pub EachHoldsPrefix-append : (o : Origin) (records more : List Record) (at : Pages) → EachHoldsPrefix o records at → EachHoldsPrefix o (records ++ more) at
EachHoldsPrefix-append o records more at is = record {
  size = is.size;
  lsns_size = is.lsns_size;
  each = λ p lt. HoldsPrefix-append o records more p (lsn_of at p) (page_words at.words p) (is.each p lt);
}

pub EachHoldsPrefix-take : (o : Origin) (records : List Record) (n : ℕ) (at : Pages) → EachHoldsPrefix o records at → ((p : ℕ) → p < pages_in o.state.pages → lsn_of at p < n + o.lsn) → EachHoldsPrefix o (take n records) at
EachHoldsPrefix-take o records n at is le = record {
  size = is.size;
  lsns_size = is.lsns_size;
  each = λ p lt. HoldsPrefix-take o records n p (lsn_of at p) (page_words at.words p) (is.each p lt) (le p lt);
}

-- a page that holds as many records as its new LSN says may be stored
pub EachHoldsPrefix-with_page : (o : Origin) (records : List Record) (at : Pages) (p lsn : ℕ) (page : List ℕ) → EachHoldsPrefix o records at → p < pages_in o.state.pages
    → length page ≡ 64 → HoldsPrefix o records p lsn page → EachHoldsPrefix o records (with_page at p lsn page)
EachHoldsPrefix-with_page o records at p lsn page is lt size here =
    let fits : 64 * p + 64 ≤ length at.words = omega (arith, is.size) in
    let P : ℕ → ℕ → List ℕ → Type 0 = HoldsPrefix o records in
    record {
      size = length-with_words p page at.words size fits ∙ is.size;
      lsns_size = length-set at.lsns p lsn ∙ is.lsns_size;
      each = λ q lt'. elim (cases_eq q p) [
        | inl same ↦ subst (λ (i : ℕ). P i (lsn_of (with_page at p lsn page) i) (page_words (with_page at p lsn page).words i)) (sym same)
            (subst (λ (l : List ℕ). P p (lsn_of (with_page at p lsn page) p) l) (sym (with_words-same p page at.words size fits))
            (subst (λ (k : ℕ). P p k page) (sym (get_or-set_same at.lsns p lsn 0 (omega (arith, is.lsns_size)))) here))
        | inr apart ↦
            subst (λ (l : List ℕ). P q (lsn_of (with_page at p lsn page) q) l) (sym (with_words-other p page at.words size fits q apart))
            (subst (λ (k : ℕ). P q k (page_words at.words q)) (sym (get_or-set_other at.lsns p q lsn 0 apart)) (is.each q lt'))
      ];
    }
