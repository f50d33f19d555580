-- A page that a record is put on is dirty, and the others stay dirty or clean.
use Rattle.std.proofs.Common.{◌≡◌, ◌≢◌, ℕ, ◌<◌, ◌≤◌, true, length, sym, subst, ◌∙◌, refl, arith, inl, inr, get_or-set_same, get_or-set_other}
use Rattle.std.proofs.lemmas.Bool.{cases_eq}
use Rattle.log_records.specs.declared.Record.{Record}
use Rattle.page_redo.proofs.VictimLaws.{differs_same, differs_yes}
use Rattle.page_redo.specs.Pages.{Pages, lsn_of}
use Rattle.page_redo.specs.Victim.{differs}
use Rattle.page_cache.specs.ByPage.{put_page}
use Rattle.page_cache.specs.declared.dirty.DirtyPages.{DirtyPages}
use Rattle.page_cache.specs.Dirty.{Lists}
use Rattle.page_cache.proofs.DirtyLaws.{lists_same}

module _ (stored : ℕ → ℕ) (lsn p : ℕ) (at : Pages) (rec : Record) (within : p < length at.lsns) (ahead : stored p ≤ lsn_of at p) (lacks : lsn_of at p < lsn) where
  abbrev new : Pages
  new = put_page lsn p at rec

  lsn_here : lsn_of new p ≡ lsn
  lsn_here = get_or-set_same at.lsns p lsn 0 within

  lsn_elsewhere : (q : ℕ) → q ≢ p → lsn_of new q ≡ lsn_of at q
  lsn_elsewhere q apart = get_or-set_other at.lsns p q lsn 0 apart

  pub written_dirty : differs (lsn_of new) stored p ≡ true
  written_dirty = differs_yes (lsn_of new) stored p (λ same. absurd (omega (arith, same, lsn_here, ahead, lacks)))

  pub written_others : (q : ℕ) → q ≢ p → differs (lsn_of new) stored q ≡ differs (lsn_of at) stored q
  written_others q apart = differs_same (lsn_of at) stored (lsn_of new) stored q (lsn_elsewhere q apart) refl

  -- no page is older than it was
  pub written_ahead : (q : ℕ) → stored q ≤ lsn_of at q → stored q ≤ lsn_of new q
  written_ahead q before = elim (cases_eq q p) [
    | inl here ↦ subst (λ (k : ℕ). stored k ≤ lsn_of new k) (sym here) (omega (arith, lsn_here, ahead, lacks))
    | inr apart ↦ omega (arith, lsn_elsewhere q apart, before)
  ]

  -- the list stays as it is where the page was dirty already
  pub written_listed : (list : DirtyPages) → differs (lsn_of at) stored p ≡ true → Lists (differs (lsn_of at) stored) list → Lists (differs (lsn_of new) stored) list
  written_listed list dirty is = lists_same (differs (lsn_of at) stored) (differs (lsn_of new) stored) list (λ q. elim (cases_eq q p) [
    | inl here ↦ subst (λ (k : ℕ). differs (lsn_of new) stored k ≡ differs (lsn_of at) stored k) (sym here) (written_dirty ∙ sym dirty)
    | inr apart ↦ written_others q apart
  ]) is
