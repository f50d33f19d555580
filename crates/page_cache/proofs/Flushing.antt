-- A flush puts no page ahead of the log.
use Rattle.std.proofs.Common.{◌≡◌, ◌≢◌, ℕ, ◌+◌, ◌-◌, ◌<◌, ◌≤◌, List, Result, Ok, Err, OnOk, sym, subst, inr, arith}
use Rattle.log_records.specs.declared.Record.{Record}
use Rattle.disk_model.specs.declared.disk.DiskError.{DiskError}
use Rattle.page_redo.specs.Origin.{Origin, records_below}
use Rattle.page_redo.specs.Pages.{Pages, pages_in, page_words, lsn_of}
use Rattle.page_redo.specs.Prefix.{HoldsPrefix, EachHoldsPrefix}
use Rattle.page_redo.proofs.PrefixLaws.{HoldsPrefix-take}
use Rattle.page_store.specs.Page.{HasPage, SamePage, SameButPage, IsStoring}
use Rattle.page_cache.specs.Stored.{stored_pages}
use Rattle.page_cache.proofs.StoredLaws.{EachHoldsPrefix-storing}

module _ (o : Origin) (log_bytes forced : ℕ) (all : List Record) (at : Pages) (is : EachHoldsPrefix o all at) (p : ℕ) (lt : p < pages_in o.state.pages) (logged : lsn_of at p ≤ forced) where
  -- the records that are forced
  abbrev front : List Record
  front = records_below o (forced + 1) all

  -- pages that may stand beside these
  abbrev Legal : List ℕ → Type 0
  Legal image = EachHoldsPrefix o front (stored_pages o.state.pages log_bytes image)

  -- the page holds as many of them as its LSN says
  held : HoldsPrefix o front p (lsn_of at p) (page_words at.words p)
  held = HoldsPrefix-take o all (forced + 1 - o.lsn) p (lsn_of at p) (page_words at.words p) (is.each p lt) (omega (arith, logged))

  -- so a crash while it is stored leaves such pages
  pub still_legal : (lsn : ℕ) (page old new : List ℕ) → lsn ≡ lsn_of at p → page ≡ page_words at.words p → Legal old → IsStoring log_bytes p lsn page old new → Legal new
  still_legal lsn page old new lsn_is page_is legal storing =
      EachHoldsPrefix-storing o log_bytes front p lsn page old new legal
      (subst (λ (k : ℕ). HoldsPrefix o front p k page) (sym lsn_is) (subst (λ (l : List ℕ). HoldsPrefix o front p (lsn_of at p) l) (sym page_is) held)) storing

  -- and once it is stored they are such pages
  pub then_legal : (result : Result (Unit {0}) DiskError) (lsn : ℕ) (page old new : List ℕ) → lsn ≡ lsn_of at p → page ≡ page_words at.words p → Legal old
      → OnOk result (HasPage log_bytes p lsn page new) → ((q : ℕ) → q ≢ p → OnOk result (SamePage log_bytes q old new)) → OnOk result (SameButPage log_bytes p old new) → OnOk result (Legal new)
  then_legal (Ok done) lsn page old new lsn_is page_is legal has same but = still_legal lsn page old new lsn_is page_is legal (record { page = inr has; others = same; outside = but })
  then_legal (Err e) lsn page old new lsn_is page_is legal has same but = tt
