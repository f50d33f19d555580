-- Laws of the pages that are stored in an image: a crash while a page is stored leaves pages that redo can begin with.
use Rattle.std.specs.Prelude.{◌==◌, if◌then◌else◌}
use Rattle.std.proofs.Common.{◌≡◌, ◌≢◌, ℕ, ◌<◌, List, sym, ap, subst, ◌∙◌, arith, inl, inr, ⊎_elim}
use Rattle.std.proofs.lemmas.Bool.{cases_eq, eq-eqb, ne_eqb, cond-true, cond-false}
use Rattle.std.proofs.lemmas.List.FromFn.{get_or-map-range_with_len, length-map-range_with_len}
use Rattle.log_records.specs.declared.Record.{Record}
use Rattle.page_redo.specs.Origin.{Origin}
use Rattle.page_redo.specs.Pages.{pages_in, page_words, lsn_of}
use Rattle.page_redo.specs.Prefix.{HoldsPrefix, EachHoldsPrefix}
use Rattle.page_store.specs.Page as store
use Rattle.page_store.proofs.StoreLaws.{length-image_words, image_words-page}
use Rattle.page_store.specs.Page.{page_lsn, image_words, first_words, HasPage, SamePage, IsStoring}
use Rattle.page_cache.specs.Stored.{stored_pages}

-- each of the stored pages has the words of its frame
pub stored_pages-page : (pages log_bytes : ℕ) (image : List ℕ) (p : ℕ) → p < pages_in pages → page_words (stored_pages pages log_bytes image).words p ≡ store.stored_words log_bytes p image
stored_pages-page pages log_bytes image p lt = image_words-page log_bytes image (pages_in pages) p lt

-- and its LSN
pub stored_pages-lsn : (pages log_bytes : ℕ) (image : List ℕ) (p : ℕ) → p < pages_in pages → lsn_of (stored_pages pages log_bytes image) p ≡ page_lsn log_bytes p image
stored_pages-lsn pages log_bytes image p lt = get_or-map-range_with_len (λ p. page_lsn log_bytes p image) 0 (pages_in pages) p p 0 lt (omega arith)

-- once page p is stored, and the others are as they were, the stored pages have the LSNs that they had, but for that of page p
pub flushed_stored : (pages log_bytes p lsn : ℕ) (words old new : List ℕ) → HasPage log_bytes p lsn words new → ((q : ℕ) → q ≢ p → SamePage log_bytes q old new)
    → (q : ℕ) → q < pages_in pages → lsn_of (stored_pages pages log_bytes new) q ≡ (if q == p then lsn else lsn_of (stored_pages pages log_bytes old) q)
flushed_stored pages log_bytes p lsn words old new has same q lt =
    let before : ℕ = lsn_of (stored_pages pages log_bytes old) q in
    let found = stored_pages-lsn pages log_bytes new q lt in
    elim (cases_eq q p) [
      | inl here ↦ found ∙ ap (λ (i : ℕ). page_lsn log_bytes i new) here ∙ has.lsn_is ∙ sym (cond-true (q == p) lsn before (eq-eqb _ _ here))
      | inr apart ↦ found ∙ (same q apart).lsn_is ∙ sym (stored_pages-lsn pages log_bytes old q lt) ∙ sym (cond-false (q == p) lsn before (ne_eqb _ _ apart))
    ]

module _ (o : Origin) (log_bytes : ℕ) (records : List Record) where
  abbrev pages : ℕ
  pages = o.state.pages

  -- what each page of an image holds
  abbrev HoldsIn : ℕ → List ℕ → Type 0
  HoldsIn q image = HoldsPrefix o records q (page_lsn log_bytes q image) (store.stored_words log_bytes q image)

  -- is what the stored pages hold
  pub prefixes-image : (image : List ℕ) → ((q : ℕ) → q < pages_in pages → HoldsIn q image) → EachHoldsPrefix o records (stored_pages pages log_bytes image)
  prefixes-image image each = record {
    size = length-image_words log_bytes image (pages_in pages) ∙ omega arith;
    lsns_size = length-map-range_with_len (λ p. page_lsn log_bytes p image) 0 (pages_in pages);
    each = λ q lt.
        subst (λ (l : List ℕ). HoldsPrefix o records q (lsn_of (stored_pages pages log_bytes image) q) l) (sym (stored_pages-page pages log_bytes image q lt))
        (subst (λ (k : ℕ). HoldsPrefix o records q k (store.stored_words log_bytes q image)) (sym (stored_pages-lsn pages log_bytes image q lt)) (each q lt));
  }

  image-prefixes : (image : List ℕ) → EachHoldsPrefix o records (stored_pages pages log_bytes image) → (q : ℕ) → q < pages_in pages → HoldsIn q image
  image-prefixes image is q lt =
      subst (λ (k : ℕ). HoldsPrefix o records q k (store.stored_words log_bytes q image)) (stored_pages-lsn pages log_bytes image q lt)
      (subst (λ (l : List ℕ). HoldsPrefix o records q (lsn_of (stored_pages pages log_bytes image) q) l) (stored_pages-page pages log_bytes image q lt) (is.each q lt))

  -- a page that an image has holds what it held elsewhere
  has_held : (q lsn : ℕ) (page image : List ℕ) → HasPage log_bytes q lsn page image → HoldsPrefix o records q lsn page → HoldsIn q image
  has_held q lsn page image has holds =
      subst (λ (l : List ℕ). HoldsPrefix o records q (page_lsn log_bytes q image) l) (sym has.words_are)
      (subst (λ (k : ℕ). HoldsPrefix o records q k page) (sym has.lsn_is) holds)

  -- while a page is stored that holds as many records as its LSN says, a crash leaves pages that each hold as many
  pub EachHoldsPrefix-storing : (p lsn : ℕ) (page old new : List ℕ) → EachHoldsPrefix o records (stored_pages pages log_bytes old) → HoldsPrefix o records p lsn page
      → IsStoring log_bytes p lsn page old new → EachHoldsPrefix o records (stored_pages pages log_bytes new)
  EachHoldsPrefix-storing p lsn page old new is here storing = prefixes-image new (λ q lt.
      let before : HoldsIn q old = image-prefixes old is q lt in
      let stays : SamePage log_bytes q old new → HoldsIn q new = λ same. has_held q (page_lsn log_bytes q old) (store.stored_words log_bytes q old) new same before in
      elim (cases_eq q p) [
        | inl same ↦ ⊎_elim
            (λ old_page. stays (subst (λ (i : ℕ). SamePage log_bytes i old new) (sym same) old_page))
            (λ new_page. subst (λ (i : ℕ). HoldsIn i new) (sym same) (has_held p lsn page new new_page here))
            storing.page
        | inr apart ↦ stays (storing.others q apart)
      ])
