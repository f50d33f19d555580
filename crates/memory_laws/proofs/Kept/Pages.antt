-- The LSNs of pages in memory after more records.
use Rattle.std.proofs.Common.{◌≡◌, ℕ, ◌+◌, ◌<◌, max, cond, List, [], ◌∷◌, ◌++◌, length, get_or, sym, ap, ◌∙◌, arith, length-append, append_assoc}
use Rattle.log_records.specs.declared.Record.{Record}
use Rattle.gated_log.specs.Log.{records_of}
use Rattle.gated_log.specs.LogState.{log_count}
use Rattle.page_redo.specs.Pages.{pages_in, touches}
use Rattle.page_redo.specs.Redo.{redo_all, last_lsn}
use Rattle.page_redo.proofs.RedoLaws.{lsn-redo_all}
use Rattle.graph_model.specs.History.{Account}
use Rattle.heap_model.specs.Core.{Core, all_records}
use Rattle.heap_memory.specs.Memory.{Memory}
use Rattle.heap_memory.specs.Leaves.{pages_of}
use Rattle.memory_laws.specs.CoreMemory.{IsMemory}

-- the last of these records, and of more after them, that touches a page
pub last_lsn-append : (p lsn : ℕ) (rs ss : List Record) → last_lsn p lsn (rs ++ ss) ≡ max (last_lsn p lsn rs) (last_lsn p (lsn + length rs) ss)
last_lsn-append p lsn [] ss = let here : lsn ≡ lsn + 0 = omega arith in ap (λ (n : ℕ). last_lsn p n ss) here ∙ omega arith
last_lsn-append p lsn (r ∷ rs) ss =
    let there : lsn + 1 + length rs ≡ lsn + length (r ∷ rs) = omega arith in
    let rest : last_lsn p (lsn + 1) (rs ++ ss) ≡ max (last_lsn p (lsn + 1) rs) (last_lsn p (lsn + length (r ∷ rs)) ss) =
    last_lsn-append p (lsn + 1) rs ss ∙ ap (λ (n : ℕ). max (last_lsn p (lsn + 1) rs) (last_lsn p n ss)) there in
    let first : ℕ = cond (touches r p) lsn 0 in
    omega (arith, rest)

module _ (m n : Memory) {a : Account} (c : Core) (is : IsMemory m a c) where
  -- as many records are in the log as the core has
  count : log_count m.log ≡ length (all_records c)
  count = is.log.count ∙ sym (length-append (records_of c.batches) c.pending)

  -- a page has the LSN of the last record that touches it, with more records too
  pub lsn_appended : (more : List Record) → n.lsns ≡ (redo_all (log_count m.log + 1) (pages_of m) more).lsns → (p : ℕ) → p < pages_in c.pages
      → get_or n.lsns p 0 ≡ max (c.stored_lsns p) (last_lsn p 1 (records_of c.batches ++ (c.pending ++ more)))
  lsn_appended more left p lt =
      let here : get_or n.lsns p 0 ≡ max (get_or m.lsns p 0) (last_lsn p (log_count m.log + 1) more) =
      ap (λ (l : List ℕ). get_or l p 0) left ∙ lsn-redo_all (log_count m.log + 1) (pages_of m) more p (omega (arith, is.pages.number)) in
      let place : log_count m.log + 1 ≡ 1 + length (all_records c) = omega (arith, count) in
      let next : last_lsn p (log_count m.log + 1) more ≡ last_lsn p (1 + length (all_records c)) more = ap (λ (k : ℕ). last_lsn p k more) place in
      let whole : last_lsn p 1 (records_of c.batches ++ (c.pending ++ more)) ≡ max (last_lsn p 1 (all_records c)) (last_lsn p (1 + length (all_records c)) more) =
      ap (last_lsn p 1) (sym (append_assoc (records_of c.batches) c.pending more)) ∙ last_lsn-append p 1 (all_records c) more in
      omega (arith, here, next, whole, is.pages.now p lt)
