use Rattle.std.proofs.Common.{◌≡◌, ◌+◌, ℕ, List, length, sym, ap, ◌∙◌, subst, arith}
use Rattle.log_machine.specs.declared.UndoEntry.{UndoEntry}
use Rattle.log_machine.specs.Machine.{taken_back}
use Rattle.committed_words.specs.Committed.{words_of}
use Rattle.logged_pages.specs.State.{pages_in_memory}
use Rattle.txn_table.specs.Table.{transaction_of}
use Rattle.heap_engine.specs.Reserve.{undo_if, WroteBelow}
use Rattle.heap_engine.proofs.Tables.{idle, told_undo, inside_of}
use Rattle.heap_engine.proofs.Room.{turned_below}
use Rattle.heap_engine.proofs.SessionsLeft.{IsLeft, left_first, left_more, left_same, left_last}
use Rattle.heap_engine.proofs.engine.Engine.committed_words.Goals as goal
use Rattle.heap_engine.proofs.engine.Engine.committed_words.Goals.{then-active+in_ok-take_back, else-active}

pub take_back-requires : goal.take_back-requires
take_back-requires c =
    let s = c.args.self.now in
    let o = transaction_of s.table c.loop-session.session in
    let is = told_undo o c.undo.result.now (c.active.ensures.0 c.if-active.true) c.undo.ensures in
    let inside = subst (λ n. WroteBelow n (undo_if o)) (sym c.loop-session.invariant.long) (inside_of s.table (length (pages_in_memory s.pages).words) s.reserved s.sealed c.loop-session.session s.sound) in
    turned_below (length (words_of c.loop-session.words)) c.undo.result.now (undo_if o) is inside

pub loop-session-init : goal.loop-session-init
loop-session-init c = left_first c.args.self.now.table (pages_in_memory c.args.self.now.pages).words (words_of c.of-words.result) (c.of-words.ensures ∙ c.as_slice.ensures.words)

pub of-words-requires : goal.of-words-requires
of-words-requires c = omega (arith, ap length c.as_slice.ensures.words, c.args.self.now.few)

pub loop-session-preserved : goal.loop-session-preserved
loop-session-preserved c =
    let s = c.args.self.now in
    let q = c.loop-session.session in
    let o = transaction_of s.table q in
    elim c.if-active.branch [
      | then-active+in_ok-take_back w ↦
          let is = told_undo o w.undo.result.now (c.active.ensures.0 w.if-active.true) w.undo.ensures in
          let now = ap words_of w.words-is ∙ w.in_ok-take_back.ensures.ok ∙ ap (λ (us : List UndoEntry). taken_back us (words_of c.loop-session.words)) is in
          subst (λ (ws : List ℕ). IsLeft s.table (pages_in_memory s.pages).words (q + 1) ws) (sym now) (left_more s.table (pages_in_memory s.pages).words q (words_of c.loop-session.words) c.loop-session.invariant)
      | else-active w ↦
          let none = idle o c.active.result c.active.ensures w.if-active.false in
          subst (λ (ws : List ℕ). IsLeft s.table (pages_in_memory s.pages).words (q + 1) ws) (sym (ap words_of w.words-is)) (left_same s.table (pages_in_memory s.pages).words q (words_of c.loop-session.words) none c.loop-session.invariant)
    ]

pub returns : goal.returns
returns c =
    let s = c.args.self.now in
    let last : c.loop-session.session ≡ 33 = omega arith in
    left_last s.table (pages_in_memory s.pages).words (words_of c.loop-session.words) c.loop-session.session last c.loop-session.invariant
