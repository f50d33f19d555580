-- The list of dirty pages, when a page is added to it and when one is removed.
use Rattle.std.proofs.Common.{◌≡◌, ◌≢◌, ℕ, zero, suc, ◌+◌, ◌<◌, Bool, true, false, List, ◌∷◌, length, get_or, set, take, refl, sym, ap, subst, ◌∙◌, arith, inl, inr, get_or-set_same, get_or-set_other, get_or-take}
use Rattle.std.specs.List.{filter, range_with_len}
use Rattle.std.proofs.lemmas.Bool.{cases_eq, both_ways, cond-false}
use Rattle.std.proofs.lemmas.List.{length-take-le}
use Rattle.page_redo.proofs.VictimLaws.{filter_one_more}
use Rattle.page_cache.specs.declared.dirty.DirtyPages.{DirtyPages}
use Rattle.page_cache.specs.Dirty.{dirty_count, page_at, page_count, place_of, Lists}

-- two pages of which one alone passes a test are not the same
apart_by : (test : ℕ → Bool) (p q : ℕ) → test p ≡ false → test q ≡ true → q ≢ p
apart_by test p q fails passes same = both_ways (test q) (ap test same ∙ fails) passes

filter_none : (test : ℕ → Bool) (a n : ℕ) → ((q : ℕ) → q < a + n → test q ≡ false) → length (filter test (range_with_len a n)) ≡ 0
filter_none test a zero none = refl
filter_none test a (suc n) none =
    let rest = filter test (range_with_len (a + 1) n) in
    ap length (cond-false (test a) (a ∷ rest) rest (none a (omega arith))) ∙ filter_none test (a + 1) n (λ q lt. none q (omega (arith, lt)))

-- tests that are the same list the same
pub lists_same : (before after : ℕ → Bool) (list : DirtyPages) → ((q : ℕ) → after q ≡ before q) → Lists before list → Lists after list
lists_same before after list same is =
    let tests : before ≡ after = λ i q. sym (same q) i in
    subst (λ (test : ℕ → Bool). Lists test list) tests is

-- as many are listed as there are
pub lists_count : (test : ℕ → Bool) (list : DirtyPages) (pages : ℕ) → page_count list ≡ pages → Lists test list → dirty_count list ≡ length (filter test (range_with_len 0 pages))
lists_count test list pages all is = is.count ∙ ap (λ n. length (filter test (range_with_len 0 n))) all

-- the pages of the list, one after another
pub listed_length : (list : DirtyPages) (pages : List ℕ) → pages ≡ take (dirty_count list) list.listed.items → length pages ≡ dirty_count list
listed_length list pages is = ap length is ∙ length-take-le (dirty_count list) list.listed.items (omega (arith, list.within))

pub listed_page : (list : DirtyPages) (pages : List ℕ) (i : ℕ) → pages ≡ take (dirty_count list) list.listed.items → i < dirty_count list → get_or pages i 0 ≡ page_at list i
listed_page list pages i is lt = ap (λ (l : List ℕ). get_or l i 0) is ∙ get_or-take (dirty_count list) list.listed.items i 0 lt

-- an empty list has the pages that pass a test if none does
pub lists_none : (test : ℕ → Bool) (list : DirtyPages) → dirty_count list ≡ 0 → ((p : ℕ) → p < page_count list → test p ≡ false) → Lists test list
lists_none test list empty none = record {
  passes = λ i lt. absurd (omega (arith, empty, lt));
  place = λ i lt. absurd (omega (arith, empty, lt));
  found = λ p lt is. absurd (both_ways (test p) (none p lt) is);
  count = empty ∙ sym (filter_none test 0 (page_count list) (λ q lt. none q (omega (arith, lt))));
}

module _ (before after : ℕ → Bool) (old new : DirtyPages) (p : ℕ) (pages : page_count new ≡ page_count old) (within : p < page_count old) (is : Lists before old) (others : (q : ℕ) → q ≢ p → after q ≡ before q) where
  -- it has one more page if that is written behind the others
  module _ (count : dirty_count new ≡ dirty_count old + 1) (listed : new.listed.items ≡ set old.listed.items (dirty_count old) p) (places : new.places.items ≡ set old.places.items p (dirty_count old))
      (room : dirty_count old < length old.listed.items) (clean : before p ≡ false) (dirty : after p ≡ true) where
    abbrev end : ℕ
    end = dirty_count old

    end_page : page_at new end ≡ p
    end_page = omega (arith, ap (λ (l : List ℕ). get_or l end 0) listed, get_or-set_same old.listed.items end p 0 room)

    other_page : (i : ℕ) → i ≢ end → page_at new i ≡ page_at old i
    other_page i apart = omega (arith, ap (λ (l : List ℕ). get_or l i 0) listed, get_or-set_other old.listed.items end i p 0 apart)

    end_place : place_of new p ≡ end
    end_place = omega (arith, ap (λ (l : List ℕ). get_or l p 0) places, get_or-set_same old.places.items p end 0 (omega (arith, within)))

    other_place : (q : ℕ) → q ≢ p → place_of new q ≡ place_of old q
    other_place q apart = omega (arith, ap (λ (l : List ℕ). get_or l q 0) places, get_or-set_other old.places.items p q end 0 apart)

    -- a page that was there is another one
    was_other : (i : ℕ) → i < end → page_at old i ≢ p
    was_other i lt = apart_by before p (page_at old i) clean (is.passes i lt)

    pub lists_more : Lists after new
    lists_more = record {
      passes = λ i lt. elim (cases_eq i end) [
        | inl last ↦ ap (λ k. after (page_at new k)) last ∙ ap after end_page ∙ dirty
        | inr apart ↦
            let there : i < end = omega (arith, lt, count, apart) in
            ap after (other_page i apart) ∙ others (page_at old i) (was_other i there) ∙ is.passes i there
      ];
      place = λ i lt. elim (cases_eq i end) [
        | inl last ↦ ap (λ k. place_of new (page_at new k)) last ∙ ap (place_of new) end_page ∙ end_place ∙ sym last
        | inr apart ↦
            let there : i < end = omega (arith, lt, count, apart) in
            ap (place_of new) (other_page i apart) ∙ other_place (page_at old i) (was_other i there) ∙ is.place i there
      ];
      found = λ q lt passes. elim (cases_eq q p) [
        | inl here ↦
            let place : place_of new q ≡ end = ap (place_of new) here ∙ end_place in
            (omega (arith, place, count), ap (page_at new) place ∙ end_page ∙ sym here)
        | inr apart ↦
            let was = is.found q (omega (arith, lt, pages)) (sym (others q apart) ∙ passes) in
            let place = other_place q apart in
            (omega (arith, place, was.0, count), ap (page_at new) place ∙ other_page (place_of old q) (λ e. absurd (omega (arith, e, was.0))) ∙ was.1)
      ];
      count =
          count
          ∙ ap (λ k. k + 1) is.count
          ∙ sym (filter_one_more before after 0 (page_count old) p (omega arith) (omega (arith, within)) clean dirty (λ q apart. sym (others q apart)))
          ∙ ap (λ k. length (filter after (range_with_len 0 k))) (sym pages);
    }

  -- it has one page less if the last one is written in its place
  module _ (k last : ℕ) (count : dirty_count old ≡ dirty_count new + 1) (last_is : last ≡ page_at old (dirty_count new)) (place_is : k ≡ place_of old p) (listed : new.listed.items ≡ set old.listed.items k last) (places : new.places.items ≡ set old.places.items last k)
      (room : k < length old.listed.items) (last_within : last < page_count old) (dirty : before p ≡ true) (clean : after p ≡ false) where
    abbrev rest : ℕ
    rest = dirty_count new

    -- the page stood there
    stood : (k < dirty_count old) × (page_at old k ≡ p)
    stood =
        let here = is.found p within dirty in
        (omega (arith, here.0, place_is), ap (page_at old) place_is ∙ here.1)

    last_place : place_of old last ≡ rest
    last_place = ap (place_of old) last_is ∙ is.place rest (omega (arith, count))

    moved_page : page_at new k ≡ last
    moved_page = omega (arith, ap (λ (l : List ℕ). get_or l k 0) listed, get_or-set_same old.listed.items k last 0 room)

    kept_page : (i : ℕ) → i ≢ k → page_at new i ≡ page_at old i
    kept_page i apart = omega (arith, ap (λ (l : List ℕ). get_or l i 0) listed, get_or-set_other old.listed.items k i last 0 apart)

    moved_place : place_of new last ≡ k
    moved_place = omega (arith, ap (λ (l : List ℕ). get_or l last 0) places, get_or-set_same old.places.items last k 0 (omega (arith, last_within)))

    kept_place : (q : ℕ) → q ≢ last → place_of new q ≡ place_of old q
    kept_place q apart = omega (arith, ap (λ (l : List ℕ). get_or l q 0) places, get_or-set_other old.places.items last q k 0 apart)

    -- where a page moves, it is another one
    last_other : k < rest → last ≢ p
    last_other less same = absurd (omega (arith, less, last_place, ap (place_of old) same, place_is))

    -- and so is each page that stays
    kept_other : (i : ℕ) → i < dirty_count old → i ≢ k → page_at old i ≢ p
    kept_other i lt apart same = apart (sym (is.place i lt) ∙ ap (place_of old) same ∙ sym place_is)

    kept_last : (i : ℕ) → i < rest → page_at old i ≢ last
    kept_last i lt same = absurd (omega (arith, lt, is.place i (omega (arith, lt, count)), ap (place_of old) same, last_place))

    pub lists_less : Lists after new
    lists_less = record {
      passes = λ i lt. elim (cases_eq i k) [
        | inl here ↦
            let less : k < rest = omega (arith, here, lt) in
            ap (λ j. after (page_at new j)) here ∙ ap after moved_page ∙ others last (last_other less) ∙ ap before last_is ∙ is.passes rest (omega (arith, count))
        | inr apart ↦
            let there : i < dirty_count old = omega (arith, lt, count) in
            ap after (kept_page i apart) ∙ others (page_at old i) (kept_other i there apart) ∙ is.passes i there
      ];
      place = λ i lt. elim (cases_eq i k) [
        | inl here ↦ ap (λ j. place_of new (page_at new j)) here ∙ ap (place_of new) moved_page ∙ moved_place ∙ sym here
        | inr apart ↦
            let there : i < dirty_count old = omega (arith, lt, count) in
            ap (place_of new) (kept_page i apart) ∙ kept_place (page_at old i) (kept_last i lt) ∙ is.place i there
      ];
      found = λ q lt passes.
          let other : q ≢ p = apart_by after p q clean passes in
          let was = is.found q (omega (arith, lt, pages)) (sym (others q other) ∙ passes) in
          elim (cases_eq q last) [
            | inl here ↦
                let place : place_of new q ≡ k = ap (place_of new) here ∙ moved_place in
                let before_end : k ≢ rest = λ e. other (here ∙ last_is ∙ ap (page_at old) (sym e) ∙ stood.1) in
                (omega (arith, place, before_end, stood.0, count), ap (page_at new) place ∙ moved_page ∙ sym here)
            | inr apart ↦
                let place = kept_place q apart in
                let before_end : place_of old q ≢ rest = λ e. apart (sym was.1 ∙ ap (page_at old) e ∙ sym last_is) in
                let stays : place_of old q ≢ k = λ e. other (sym was.1 ∙ ap (page_at old) e ∙ stood.1) in
                (omega (arith, place, before_end, was.0, count), ap (page_at new) place ∙ kept_page (place_of old q) stays ∙ was.1)
          ];
      count =
          let one = filter_one_more after before 0 (page_count old) p (omega arith) (omega (arith, within)) clean dirty others in
          let same = ap (λ n. length (filter after (range_with_len 0 n))) pages in
          omega (arith, count, is.count, one, same);
    }
