-- A record is put on its pages, one after another, and records one after another.
use Rattle.std.proofs.Common.{◌≡◌, ◌≢◌, ℕ, ◌+◌, ◌*◌, ◌<◌, ◌≤◌, Bool, true, false, Result, Ok, Err, List, [], ◌∷◌, ◌++◌, length, take, refl, sym, ap, subst, ◌∙◌, inl, inr, arith}
use Rattle.std.specs.Prelude.{nat_lt, IsTrue}
use Rattle.std.proofs.Math.Seq.{take-append-add, take-append_seam}
use Rattle.std.proofs.lemmas.Bool.{cases_lt, cond-true, cond-false, lt-ltb, le-ltb}
use Rattle.std.proofs.lemmas.List.{append-nil, take-append-le, take_all}
use Rattle.disk_model.specs.declared.disk.Disk.{Ghosts}
use Rattle.disk_model.specs.declared.disk.DiskError.{DiskError}
use Rattle.image_plan.specs.declared.plan.Plan.{Plan}
use Rattle.log_records.specs.declared.Record.{Record}
use Rattle.page_cache.proofs.ByPage.{IsPutBefore}
use Rattle.page_cache.specs.CacheState.{cache_pages, cached_lsn}
use Rattle.page_redo.proofs.CarryLaws.{carry-append, carry_calls, puts_below_end, puts_below_next, puts_below_rest, puts_of-append}
use Rattle.page_redo.proofs.RedoLaws.{redo_all-append}
use Rattle.page_redo.specs.Carry.{Carry, carry, page_written, puts_below, puts_of, written}
use Rattle.page_redo.specs.Origin.{Origin}
use Rattle.page_redo.specs.Pages.{Pages, touches}
use Rattle.page_redo.specs.Prefix.{EachHoldsPrefix}
use Rattle.page_redo.specs.Redo.{redo_all, redo_record}
use Rattle.logged_pages.specs.Advancing.{Advances, HasPut, HoldOnTheWay, IsAt, NothingMore, PutsAll}
use Rattle.logged_pages.specs.declared.logged.LoggedPages.{LoggedPages}
use Rattle.logged_pages.specs.State.{cache_of, frames_of, has_failed, pages_in_memory}
use Rattle.logged_pages.proofs.AdvanceLaws.{advances_alike, advances_cut, advances_none, advances_then}
use Rattle.logged_pages.proofs.Middle.{middle_prefixes}

-- there are as many pages as there were
pub as_many : (old new : LoggedPages) (at : Pages) → HasPut old new at → cache_pages (cache_of new) ≡ cache_pages (cache_of old)
as_many old new at put = ap (λ (of : Plan). 2 * of.pages) put.plan

same_calls : (n : ℕ) → n ≤ n
same_calls n = omega arith

module _ {D : Type 0} (g : Ghosts D) (old mid : LoggedPages) (before between : D) (lsn : ℕ) (rec : Record) where
  abbrev pages : ℕ
  pages = cache_pages (cache_of old)

  abbrev frames : ℕ
  frames = frames_of old

  abbrev May : Origin → List Record → Type 0
  May = HoldOnTheWay lsn (pages_in_memory old) (rec ∷ [])

  -- the carry when the record is put on its pages below one
  abbrev so_far : ℕ → Carry → Carry
  so_far from k = carry pages frames k (puts_below from lsn rec)

  calls_so_far : (from : ℕ) (k : Carry) → k.calls ≤ (so_far from k).calls
  calls_so_far from k = carry_calls pages frames (puts_below from lsn rec) k

  module _ (from p : ℕ) (first : Advances g old mid before between (Ok tt) (pages_in_memory mid) (so_far from) May) (le : from ≤ p) (touched : touches rec p ≡ true) (apart : (q : ℕ) → from ≤ q → q < p → touches rec q ≡ false) (within : p < pages) where
    next_is : (k : Carry) → so_far (p + 1) k ≡ written pages frames (so_far from k) (p, lsn)
    next_is k = ap (carry pages frames k) (puts_below_next lsn from p rec le touched apart) ∙ carry-append pages frames k (puts_below from lsn rec) ((p, lsn) ∷ [])

    there : p < cache_pages (cache_of mid)
    there = omega (arith, within, as_many old mid (pages_in_memory mid) first.put)

    -- the next page has the record already
    pub page_had : lsn ≤ cached_lsn (cache_of mid) p → Advances g old mid before between (Ok tt) (pages_in_memory mid) (so_far (p + 1)) May
    page_had has = advances_alike g old mid before between (Ok tt) (pages_in_memory mid) (so_far from) (so_far (p + 1)) May May
        (λ k at.
        let j = so_far from k in
        let here = (first.carry k at).lsns p there in
        sym (next_is k ∙ cond-false (nat_lt (j.lsns p) lsn) (page_written pages frames p lsn j) j (le-ltb (j.lsns p) lsn (omega (arith, here, has)))))
        (λ o all may. may) first

    module _ (put : IsPutBefore lsn rec (pages_in_memory old) from (pages_in_memory mid)) (lacks : cached_lsn (cache_of mid) p < lsn) (new : LoggedPages) (after : D) (result : Result (Unit {0}) DiskError) (at : Pages)
        (second : Advances g mid new between after result at (page_written (cache_pages (cache_of mid)) (frames_of mid) p lsn) NothingMore) where
      one : Advances g mid new between after result at (λ k. written pages frames k (p, lsn)) NothingMore
      one = advances_alike g mid new between after result at (page_written (cache_pages (cache_of mid)) (frames_of mid) p lsn) (λ k. written pages frames k (p, lsn)) NothingMore NothingMore
          (λ k is.
          let few = as_many old mid (pages_in_memory mid) first.put in
          let here = is.lsns p there in
          (λ i. page_written (few i) (first.put.frames i) p lsn k) ∙ sym (cond-true (nat_lt (k.lsns p) lsn) (page_written pages frames p lsn k) k (lt-ltb (k.lsns p) lsn (omega (arith, here, lacks)))))
          (λ o all nothing. nothing) second

      -- or it gets it
      pub page_put : Advances g old new before after result at (so_far (p + 1)) May
      page_put =
          let both = advances_then g old mid new before between after result (pages_in_memory mid) at (so_far from) (λ k. written pages frames k (p, lsn)) May May NothingMore first one (calls_so_far from) (λ k. carry_calls pages frames ((p, lsn) ∷ []) k)
          (λ o all may. may) (λ o all may. tt) (λ o all each may. middle_prefixes o all lsn rec (pages_in_memory old) (pages_in_memory mid) from (may 0) (may 1) put) in
          advances_alike g old new before after result at (λ k. written pages frames (so_far from k) (p, lsn)) (so_far (p + 1)) May May (λ k is. sym (next_is k)) (λ o all may. may) both

  -- all of its pages have it
  pub record_put : (from : ℕ) → Advances g old mid before between (Ok tt) (pages_in_memory mid) (so_far from) May → from ≤ pages → ((q : ℕ) → from ≤ q → touches rec q ≡ false) → pages_in_memory mid ≡ redo_record lsn (pages_in_memory old) rec
      → PutsAll g old mid before between (Ok tt) lsn (rec ∷ [])
  record_put from first le none same =
      let whole : Carry → Carry = λ k. carry pages frames k (puts_of pages lsn (rec ∷ [])) in
      let all = advances_alike g old mid before between (Ok tt) (pages_in_memory mid) (so_far from) whole May May
      (λ k at. sym (ap (carry pages frames k) (append-nil (puts_below pages lsn rec) ∙ puts_below_end lsn from pages rec le (λ q low high. none q low)))) (λ o all may. may) first in
      subst (λ (ps : Pages). Advances g old mid before between (Ok tt) ps whole May) same all

  -- or an error came before that
  pub record_cut : (from : ℕ) (e : DiskError) (at : Pages) → from ≤ pages → Advances g old mid before between (Err e) at (so_far from) May → PutsAll g old mid before between (Err e) lsn (rec ∷ [])
  record_cut from e at le is =
      let rest = puts_below_rest lsn from pages rec le in
      let whole : Carry → Carry = λ k. carry pages frames k (puts_of pages lsn (rec ∷ [])) in
      advances_cut g old mid before between e at (redo_all lsn (pages_in_memory old) (rec ∷ [])) (so_far from) whole May May (calls_so_far from)
      (λ k.
      let split : whole k ≡ carry pages frames (so_far from k) rest.0 = ap (carry pages frames k) (append-nil (puts_below pages lsn rec) ∙ rest.1) ∙ carry-append pages frames k (puts_below from lsn rec) rest.0 in
      omega (arith, ap (λ (j : Carry). j.calls) split, carry_calls pages frames rest.0 (so_far from k)))
      (λ o all may. may) is

-- Records.

module _ {D : Type 0} (g : Ghosts D) (old : LoggedPages) where
  -- without any nothing is done
  pub puts_none : (disk : D) (lsn : ℕ) → has_failed old ≡ false → (IsTrue g.tells → (c : List ℕ) → g.left_since disk (g.moment disk) c → g.may_leave disk c) → PutsAll g old old disk disk (Ok tt) lsn []
  puts_none disk lsn works now = advances_none g old disk (λ k. k) (HoldOnTheWay lsn (pages_in_memory old) []) works now (λ k at. refl)

  -- Some records, and then others.
  module _ (mid : LoggedPages) (before between : D) (lsn : ℕ) (rs more : List Record) where
    abbrev many : ℕ
    many = cache_pages (cache_of old)

    abbrev few : ℕ
    few = frames_of old

    abbrev behind : ℕ
    behind = lsn + length rs

    first_calls : (k : Carry) → k.calls ≤ (carry many few k (puts_of many lsn rs)).calls
    first_calls k = carry_calls many few (puts_of many lsn rs) k

    split : (k : Carry) → carry many few (carry many few k (puts_of many lsn rs)) (puts_of many behind more) ≡ carry many few k (puts_of many lsn (rs ++ more))
    split k = sym (ap (carry many few k) (puts_of-append many lsn rs more) ∙ carry-append many few k (puts_of many lsn rs) (puts_of many behind more))

    abbrev All : Origin → List Record → Type 0
    All = HoldOnTheWay lsn (pages_in_memory old) (rs ++ more)

    first_may : (o : Origin) (all : List Record) → All o all → HoldOnTheWay lsn (pages_in_memory old) rs o all
    first_may o all may i = elim (cases_lt i (length rs)) [
      | inl less ↦ subst (λ (l : List Record). EachHoldsPrefix o all (redo_all lsn (pages_in_memory old) l)) (take-append-le i rs more (omega (arith, less))) (may i)
      | inr past ↦
          let whole : take (length rs) (rs ++ more) ≡ take i rs = take-append_seam rs more ∙ sym (take_all i rs past) in
          subst (λ (l : List Record). EachHoldsPrefix o all (redo_all lsn (pages_in_memory old) l)) whole (may (length rs))
    ]

    then_may : (o : Origin) (all : List Record) → All o all → (i : ℕ) → EachHoldsPrefix o all (redo_all behind (redo_all lsn (pages_in_memory old) rs) (take i more))
    then_may o all may i = subst (EachHoldsPrefix o all) (ap (redo_all lsn (pages_in_memory old)) (take-append-add rs more i) ∙ redo_all-append lsn (pages_in_memory old) rs (take i more)) (may (length rs + i))

    pub puts_both : (new : LoggedPages) (after : D) (result : Result (Unit {0}) DiskError) → PutsAll g old mid before between (Ok tt) lsn rs → PutsAll g mid new between after result behind more → PutsAll g old new before after result lsn (rs ++ more)
    puts_both new after result first second =
        let at = redo_all behind (pages_in_memory mid) more in
        let go : Carry → Carry = λ k. carry many few k (puts_of many lsn rs) in
        let next : Carry → Carry = λ k. carry many few k (puts_of many behind more) in
        let pages_same = as_many old mid (redo_all lsn (pages_in_memory old) rs) first.put in
        let rest = advances_alike g mid new between after result at (λ k. carry (cache_pages (cache_of mid)) (frames_of mid) k (puts_of (cache_pages (cache_of mid)) behind more)) next (HoldOnTheWay behind (pages_in_memory mid) more) (HoldOnTheWay behind (pages_in_memory mid) more)
        (λ k is i. carry (pages_same i) (first.put.frames i) k (puts_of (pages_same i) behind more)) (λ o all may. may) second in
        let both = advances_then g old mid new before between after result (redo_all lsn (pages_in_memory old) rs) at go next All (HoldOnTheWay lsn (pages_in_memory old) rs) (HoldOnTheWay behind (pages_in_memory mid) more) first rest
        first_calls (λ k. carry_calls many few (puts_of many behind more) k) first_may
        (λ o all may i. subst (λ (ps : Pages). EachHoldsPrefix o all (redo_all behind ps (take i more))) (sym first.put.pages) (then_may o all may i))
        (λ o all each may. subst (EachHoldsPrefix o all) (sym first.put.pages) (then_may o all may 0)) in
        let whole : Carry → Carry = λ k. carry many few k (puts_of many lsn (rs ++ more)) in
        let all = advances_alike g old new before after result at (λ k. next (go k)) whole All All (λ k is. split k) (λ o all may. may) both in
        let pages_are : at ≡ redo_all lsn (pages_in_memory old) (rs ++ more) = ap (λ (ps : Pages). redo_all behind ps more) first.put.pages ∙ sym (redo_all-append lsn (pages_in_memory old) rs more) in
        subst (λ (ps : Pages). Advances g old new before after result ps whole All) pages_are all

    -- or an error among the first ones
    pub puts_cut : (e : DiskError) → PutsAll g old mid before between (Err e) lsn rs → PutsAll g old mid before between (Err e) lsn (rs ++ more)
    puts_cut e is = advances_cut g old mid before between e (redo_all lsn (pages_in_memory old) rs) (redo_all lsn (pages_in_memory old) (rs ++ more)) (λ k. carry many few k (puts_of many lsn rs)) (λ k. carry many few k (puts_of many lsn (rs ++ more)))
        (HoldOnTheWay lsn (pages_in_memory old) rs) All first_calls
        (λ k. let one = carry many few k (puts_of many lsn rs) in omega (arith, ap (λ (j : Carry). j.calls) (split k), carry_calls many few (puts_of many behind more) one)) first_may is

  -- one record and then the others
  pub puts_next : (mid new : LoggedPages) (before between after : D) (result : Result (Unit {0}) DiskError) (lsn : ℕ) (r : Record) (rs : List Record) → PutsAll g old mid before between (Ok tt) lsn (r ∷ []) → PutsAll g mid new between after result (lsn + 1) rs
      → PutsAll g old new before after result lsn (r ∷ rs)
  puts_next mid new before between after result lsn r rs first second =
      let next : lsn + 1 ≡ lsn + length (r ∷ []) = omega arith in
      puts_both mid before between lsn (r ∷ []) rs new after result first (subst (λ (n : ℕ). PutsAll g mid new between after result n rs) next second)
