use Rattle.std.proofs.Common.{◌≡◌, ◌+◌, ◌≤◌, ℕ, List, length, is_some, true, sym, subst}
use Rattle.log_records.specs.declared.Record.{Record}
use Rattle.log_machine.specs.Machine.{space_words, owed, after}
use Rattle.log_machine.proofs.MachineLaws.{follows_Base}
use Rattle.log_machine.proofs.log_state.LogState.transaction_after.Goals as goal

pub promote-requires-clause-room : goal.promote-requires-clause-room
promote-requires-clause-room c =
    let s = c.args.self.now in
    let follows = subst (λ (r : Record). is_some (after s r) ≡ true) c.in-Base.is (sym c.if-not-can_follow.ensures.follows) in
    let free = follows_Base s c.in-Base.t c.in-Base.address c.in-Base.words follows in
    subst (λ (l : List ℕ). s.used + length l + owed s ≤ space_words s.pages) (sym c.as_slice.ensures) free.1.room
