use Rattle.std.proofs.Common.{◌≡◌, ℕ, length, refl, sym, ap, subst, arith}
use Rattle.logged_pages.specs.State.{pages_in_memory}
use Rattle.log_machine.specs.Translation.{translated_list}
use Rattle.txn_table.specs.Table.{transaction_of}
use Rattle.heap_engine.specs.Reserve.{WroteBelow, GoAlongBelow}
use Rattle.heap_engine.proofs.FlipAlong.{GoAlongUpto, upto_some, upto_idle, upto_all, told_along}
use Rattle.heap_engine.proofs.Tables.{idle}
use Rattle.heap_engine.proofs.engine.Engine.can_go_along.Goals as goal
use Rattle.heap_engine.proofs.engine.Engine.can_go_along.Goals.{else-active-via-then-active+else-not-lie_below, else-active-via-else-active}

pub loop-session-preserved : goal.loop-session-preserved
loop-session-preserved c =
    let table = c.args.self.now.table in
    let pairs = c.args.pairs.now in
    let end = length c.as_slice.result.now in
    let s = c.loop-session.session in
    elim c.else-active.branch [
      | else-active-via-then-active+else-not-lie_below w ↦
          upto_some end pairs table s w.undo.result.now c.loop-session.invariant (c.active.ensures.0 w.if-active.true) w.undo.ensures (w.lie_below.ensures.0 w.if-not-lie_below.false)
      | else-active-via-else-active w ↦ upto_idle end pairs table s c.loop-session.invariant (idle (transaction_of table s) c.active.result c.active.ensures w.if-active.false)
    ]

pub returns : goal.returns
returns c =
    let s = c.args.self.now in
    let pairs = c.args.pairs.now in
    let last : c.loop-session.session ≡ 33 = omega arith in
    let end : length c.as_slice.result.now ≡ length (pages_in_memory s.pages).words = ap length c.as_slice.ensures.words in
    let upto = subst (λ (k : ℕ). GoAlongUpto (length c.as_slice.result.now) pairs s.table k) last c.loop-session.invariant in (
      λ yes.
          subst (λ (n : ℕ). GoAlongBelow n pairs s.table) end
          (upto_all (length c.as_slice.result.now) pairs s.table (length (pages_in_memory s.pages).words) s.reserved s.sealed s.sound upto),
      λ along. refl,
    )

pub returns-then-not-lie_below : goal.returns-then-not-lie_below
returns-then-not-lie_below c =
    let s = c.args.self.now in
    let pairs = c.args.pairs.now in
    let us = c.undo.result.now in
    let end : length c.as_slice.result.now ≡ length (pages_in_memory s.pages).words = ap length c.as_slice.ensures.words in (
      λ no. absurd (cc no),
      λ along.
          let below = told_along (length (pages_in_memory s.pages).words) pairs s.table c.loop-session.session us along (c.active.ensures.0 c.if-active.true) c.undo.ensures in
          let yes = c.lie_below.ensures.1 (subst (λ (n : ℕ). WroteBelow n (translated_list pairs us)) (sym end) below) in
          absurd (cc (yes, c.if-not-lie_below.true)),
    )
