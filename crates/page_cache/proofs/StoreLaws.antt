-- A page that is stored is clean, and the others stay dirty or clean; where the store fails all stay so.
use Rattle.std.proofs.Common.{◌≡◌, ◌≢◌, ℕ, ◌≤◌, true, Result, Ok, Err, OnOk, OnErr, refl, sym, ap, subst, ◌∙◌, arith, inl, inr}
use Rattle.std.specs.Prelude.{not}
use Rattle.std.specs.Result.{is_ok}
use Rattle.std.proofs.lemmas.Bool.{cases_eq}
use Rattle.disk_model.specs.declared.disk.DiskError.{DiskError}
use Rattle.page_redo.proofs.VictimLaws.{differs_no, differs_same}
use Rattle.page_redo.specs.Victim.{differs}
use Rattle.page_store.specs.declared.frame.Stored.{Stored}
use Rattle.page_store.specs.declared.store.PageStore.{PageStore}
use Rattle.page_store.specs.StoreState.{stored_entry, stored_lsn}

-- the LSN with which a page is stored is part of what is known of it
same_lsn : (old new : PageStore) (q : ℕ) → stored_entry new q ≡ stored_entry old q → stored_lsn new q ≡ stored_lsn old q
same_lsn old new q same = ap (λ (entry : Stored). entry.lsn) same

pub stored_others : (old new : PageStore) (lsns : ℕ → ℕ) (q : ℕ) → stored_entry new q ≡ stored_entry old q → differs lsns (stored_lsn new) q ≡ differs lsns (stored_lsn old) q
stored_others old new lsns q same = differs_same lsns (stored_lsn old) lsns (stored_lsn new) q refl (same_lsn old new q same)

pub stored_clean : (result : Result (Unit {0}) DiskError) (old new : PageStore) (lsns : ℕ → ℕ) (p lsn : ℕ) → lsn ≡ lsns p → OnOk result (stored_lsn new p ≡ lsn) → OnErr result ((q : ℕ) → stored_entry new q ≡ stored_entry old q)
    → differs lsns (stored_lsn old) p ≡ true → differs lsns (stored_lsn new) p ≡ not (is_ok result)
stored_clean (Ok done) old new lsns p lsn is here same dirty = differs_no lsns (stored_lsn new) p (sym (here ∙ is))
stored_clean (Err e) old new lsns p lsn is here same dirty = stored_others old new lsns p (same p) ∙ dirty

-- no page is stored ahead of what it is in memory
pub stored_ahead : (result : Result (Unit {0}) DiskError) (old new : PageStore) (lsns : ℕ → ℕ) (p lsn : ℕ) → lsn ≡ lsns p → OnOk result (stored_lsn new p ≡ lsn) → OnErr result ((q : ℕ) → stored_entry new q ≡ stored_entry old q)
    → ((q : ℕ) → q ≢ p → stored_entry new q ≡ stored_entry old q) → (q : ℕ) → stored_lsn old q ≤ lsns q → stored_lsn new q ≤ lsns q
stored_ahead (Ok done) old new lsns p lsn is here same others q before = elim (cases_eq q p) [
  | inl at ↦ subst (λ (k : ℕ). stored_lsn new k ≤ lsns k) (sym at) (omega (arith, here, is))
  | inr apart ↦ omega (arith, same_lsn old new q (others q apart), before)
]
stored_ahead (Err e) old new lsns p lsn is here same others q before = omega (arith, same_lsn old new q (same q), before)
