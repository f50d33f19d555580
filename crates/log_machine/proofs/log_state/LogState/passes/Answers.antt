use Rattle.std.proofs.Common.{◌+◌, ◌<◌, ◌≤◌, ℕ, List, length, sym, subst}
use Rattle.log_records.specs.declared.Record.{Record}
use Rattle.log_machine.specs.Machine.{words_in}
use Rattle.log_machine.specs.Effect.{WritesBelow}
use Rattle.std.specs.List.{enumerate_from}
use Rattle.log_machine.proofs.Addresses.{each_address}
use Rattle.log_machine.proofs.WordsFrom.{from_below}
use Rattle.log_machine.proofs.log_state.LogState.passes.Goals as goal

pub returns-then-is_next_free-clause-inside : goal.returns-then-is_next_free-clause-inside
returns-then-is_next_free-clause-inside c own =
    let free = subst (λ (l : List ℕ). c.in-Base.address + length l ≤ words_in c.args.self.now.pages) c.as_slice.ensures (c.is_next_free.ensures.inside c.if-is_next_free.true) in
    subst (λ (r : Record). WritesBelow (words_in c.args.self.now.pages) r) (sym c.in-Base.is) (each_address (λ a. a < words_in c.args.self.now.pages) (enumerate_from c.in-Base.address c.in-Base.words) (from_below c.in-Base.address (words_in c.args.self.now.pages) c.in-Base.words free))
