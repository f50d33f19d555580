-- Records that are being put on their pages, in a loop.
use Rattle.std.proofs.Common.{◌≡◌, ℕ, ◌+◌, ◌≤◌, ◌<◌, suc, false, Result, Ok, Err, List, [], ◌∷◌, length, drop, get_or, refl, sym, ap, subst, ◌∙◌, arith}
use Rattle.std.specs.Prelude.{IsTrue}
use Rattle.std.proofs.Math.ListN.{drop_of_length-le}
use Rattle.std.proofs.Math.Seq.{drop-cons}
use Rattle.disk_model.specs.declared.disk.Disk.{Ghosts}
use Rattle.disk_model.specs.declared.disk.DiskError.{DiskError}
use Rattle.gated_log.specs.LogState.{log_count}
use Rattle.image_plan.specs.declared.plan.Plan.{Plan}
use Rattle.image_plan.specs.Plan.{image_size}
use Rattle.log_machine.specs.Effect.{EachWritesBelow, WritesBelow}
use Rattle.log_records.specs.declared.Record.{Record}
use Rattle.page_redo.proofs.RedoLaws.{words-redo_record}
use Rattle.page_redo.specs.Pages.{Pages}
use Rattle.logged_pages.specs.Advancing.{PutsAll}
use Rattle.logged_pages.specs.declared.logged.LoggedPages.{LoggedPages}
use Rattle.logged_pages.specs.State.{LiesWithin, cache_of, has_failed, log_of, next_lsn_in, pages_in_memory}
use Rattle.logged_pages.proofs.PutSteps.{puts_cut, puts_next, puts_none}

-- What puts the other records, from here on, puts all of them. Of the log and the pages no more than that has changed.
pub record IsPutting {D : Type 0} (g : Ghosts D) (old now : LoggedPages) (before here : D) (first : ℕ) (all : List Record) (lsn : ℕ) (left : List Record) : Type 0 where
  pub rest : (new : LoggedPages) (after : D) (result : Result (Unit {0}) DiskError) → PutsAll g now new here after result lsn left → PutsAll g old new before after result first all
  pub works : has_failed now ≡ false
  pub size : length (pages_in_memory now).words ≡ length (pages_in_memory old).words
  pub next : next_lsn_in (log_of now) ≡ next_lsn_in (log_of old)
  pub within : LiesWithin old (g.extent before) → LiesWithin now (g.extent here)
  pub inside : EachWritesBelow (length (pages_in_memory old).words) left
  pub last : lsn + length left ≡ first + length all

module _ {D : Type 0} (g : Ghosts D) (old : LoggedPages) (before : D) (first : ℕ) (all : List Record) where
  -- none is put yet
  pub putting_none : has_failed old ≡ false → EachWritesBelow (length (pages_in_memory old).words) all → IsPutting g old old before before first all first all
  putting_none works inside = record { rest = λ new after result puts. puts; works = works; size = refl; next = refl; within = λ is. is; inside = inside; last = refl }

  module _ (now : LoggedPages) (here : D) (lsn : ℕ) (r : Record) (rs : List Record) (is : IsPutting g old now before here first all lsn (r ∷ rs)) where
    -- the next one can be put
    pub next_known : first + length all ≤ next_lsn_in (log_of old) → lsn < next_lsn_in (log_of now)
    next_known le = omega (arith, is.last, is.next, le)

    pub next_inside : WritesBelow (length (pages_in_memory now).words) r
    next_inside = subst (λ (n : ℕ). WritesBelow n r) (sym is.size) is.inside.0

    -- it is put
    pub putting_next : (new : LoggedPages) (after : D) → PutsAll g now new here after (Ok tt) lsn (r ∷ []) → IsPutting g old new before after first all (lsn + 1) rs
    putting_next new after one = record {
      rest = λ end then result puts. is.rest end then result (puts_next g now new end here after then result lsn r rs one puts);
      works = one.failed;
      size = ap (λ (at : Pages). length at.words) one.put.pages ∙ words-redo_record lsn (pages_in_memory now) r ∙ is.size;
      next = omega (arith, one.put.count, is.next);
      within = λ lies. let there = is.within lies in let same = ap (λ (of : Plan). image_size of.pages of.log_bytes) one.put.plan in omega (arith, there, same, one.disk.extent);
      inside = is.inside.1;
      last = omega (arith, is.last);
    }

    -- or it fails
    pub putting_cut : (new : LoggedPages) (after : D) (e : DiskError) → PutsAll g now new here after (Err e) lsn (r ∷ []) → PutsAll g old new before after (Err e) first all
    putting_cut new after e one = is.rest new after (Err e) (puts_cut g now new here after lsn (r ∷ []) rs e one)

  -- all are put
  pub putting_end : (now : LoggedPages) (here : D) (lsn : ℕ) → IsPutting g old now before here first all lsn [] → (IsTrue g.tells → (c : List ℕ) → g.left_since here (g.moment here) c → g.may_leave here c) → PutsAll g old now before here (Ok tt) first all
  putting_end now here lsn is only_now = is.rest now here (Ok tt) (puts_none g now here lsn is.works only_now)

  -- What is left of a list.
  module _ (now : LoggedPages) (here : D) (i : ℕ) (is : IsPutting g old now before here first all (first + i) (drop i all)) where
    split : (r : Record) → i < length all → r ≡ get_or all i r → drop i all ≡ r ∷ drop (i + 1) all
    split r lt same =
        let next : suc i ≡ i + 1 = omega arith in
        drop-cons all i r lt ∙ (λ j. sym same j ∷ drop (next j) all)

    pub putting_at : (r : Record) → i < length all → r ≡ get_or all i r → IsPutting g old now before here first all (first + i) (r ∷ drop (i + 1) all)
    putting_at r lt same = subst (IsPutting g old now before here first all (first + i)) (split r lt same) is

    pub putting_past : length all ≤ i → IsPutting g old now before here first all (first + i) []
    putting_past past = subst (IsPutting g old now before here first all (first + i)) (drop_of_length-le all past) is
