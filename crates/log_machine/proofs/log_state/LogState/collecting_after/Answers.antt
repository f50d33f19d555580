use Rattle.std.proofs.Common.{ℕ, List, sym, subst}
use Rattle.log_records.specs.declared.Record.{Record}
use Rattle.log_records.specs.declared.Record.TheVariants.{Copy, Scan, Flip}
use Rattle.log_records.specs.declared.copies.ObjectCopy.{ObjectCopy}
use Rattle.log_machine.specs.Machine.{State, words_in}
use Rattle.log_machine.specs.Effect.{WritesBelow}
use Rattle.log_machine.specs.Sound.{IsConsistent}
use Rattle.log_machine.proofs.Lists.{on_ok}
use Rattle.log_machine.proofs.CollectingWrites.{copy_writes_below, flip_writes_below, scan_writes_below}
use Rattle.log_machine.proofs.log_state.LogState.collecting_after.Goals as goal

pub returns-in-Copy-clause-inside : goal.returns-in-Copy-clause-inside
returns-in-Copy-clause-inside c =
    let s = c.args.self.now in
    let is = subst (λ (s : State). IsConsistent s) c.self.view_is c.self.invariant in
    on_ok c.copy.result (λ e. subst (λ (r : Record). WritesBelow (words_in s.pages) r) (sym c.in-Copy.is)
    (subst (λ (l : List ℕ). WritesBelow (words_in s.pages) (Copy c.in-Copy.from c.in-Copy.to l)) c.as_slice.ensures (copy_writes_below s _ c.in-Copy.from c.in-Copy.to c.as_slice.result.now is e))) c.copy.ensures.ok

pub returns-in-Scan-clause-inside : goal.returns-in-Scan-clause-inside
returns-in-Scan-clause-inside c =
    let s = c.args.self.now in
    let is = subst (λ (s : State). IsConsistent s) c.self.view_is c.self.invariant in
    on_ok c.scan.result (λ e. subst (λ (r : Record). WritesBelow (words_in s.pages) r) (sym c.in-Scan.is)
    (subst (λ (l : List (ℕ × ℕ)). WritesBelow (words_in s.pages) (Scan c.in-Scan.page l)) c.as_slice-in-Scan.ensures.writes (scan_writes_below s _ c.in-Scan.page c.as_slice-in-Scan.result.now is e))) c.scan.ensures.ok

pub returns-in-Flip-clause-inside : goal.returns-in-Flip-clause-inside
returns-in-Flip-clause-inside c =
    let s = c.args.self.now in
    let is = subst (λ (s : State). IsConsistent s) c.self.view_is c.self.invariant in
    on_ok c.flip.result (λ e. subst (λ (r : Record). WritesBelow (words_in s.pages) r) (sym c.in-Flip.is)
    (subst (λ (l : List ObjectCopy). WritesBelow (words_in s.pages) (Flip l)) c.as_slice-in-Flip.ensures.copies (flip_writes_below s _ c.as_slice-in-Flip.result.now is e))) c.flip.ensures.ok
