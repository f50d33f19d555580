-- One more word is read, and follows those that were; after an error those that were stay.
use Rattle.std.proofs.Common.{◌≡◌, ℕ, List, ◌∙◌, ◌+◌, ◌-◌, ◌≤◌, ◌<◌, ap, sym, subst, arith, get_or, length}
use Rattle.object_layout.specs.Read.{HasRunAfter}
use Rattle.object_layout.proofs.ReadLaws.{read_on}
use Rattle.object_layout.proofs.Grown.{run_grown, stay, these_grown}
use Rattle.object_layout.proofs.words.Words.append_to.Goals as goal

pub loop-at-preserved : goal.loop-at-preserved
loop-at-preserved g c =
    let w = c.in_ok-word.word in
    let before : List ℕ = c.reserve.new.self.items in
    let now : List ℕ = c.loop-at.into.items in
    let next : List ℕ = c.push.new.self.items in
    let begins : c.args.from ≤ c.loop-at.at = omega arith in
    record {
      read = read_on _ _ _ _ _ _ _ _ _ _ g.met.Self.Words.keeps_on c.loop-at.invariant.read c.in_ok-word.ensures.read;
      run = run_grown before now next w (c.loop-at.at - c.args.from) (c.loop-at.at + 1 - c.args.from) c.in_ok-push.ensures.items (omega (arith, begins)) c.loop-at.invariant.run;
      these = λ told.
          let words : List ℕ = g.Self.Words.content c.args.self.now in
          let size : length words ≡ g.Self.Words.extent c.args.self.now = g.met.Self.Words.same_size told c.args.self.now in
          let within : c.loop-at.at < length words = omega arith in
          let word : w ≡ get_or words c.loop-at.at 0 = c.in_ok-word.ensures.word told ∙ ap (λ ws. get_or ws c.loop-at.at 0) (c.loop-at.invariant.read.same_words told) in
          these_grown before now next words c.args.from c.loop-at.at w begins within word c.in_ok-push.ensures.items (c.loop-at.invariant.these told);
    }

pub returns-in_err-word-clause-err : goal.returns-in_err-word-clause-err
returns-in_err-word-clause-err g c =
    let n = c.loop-at.at - c.args.from in
    let run = subst (λ (l : List ℕ). HasRunAfter l c.loop-at.into.items n) c.in_ok-reserve.ensures.items c.loop-at.invariant.run in
    stay c.from_residual-in_err-word.result c.args.into.now.items c.loop-at.into.items n (c.args.end - c.args.from) (omega arith) run

pub returns-in_err-push-clause-err : goal.returns-in_err-push-clause-err
returns-in_err-push-clause-err g c =
    let n = c.loop-at.at - c.args.from in
    let before = subst (λ (l : List ℕ). HasRunAfter l c.loop-at.into.items n) c.in_ok-reserve.ensures.items c.loop-at.invariant.run in
    let run = subst (λ (l : List ℕ). HasRunAfter c.args.into.now.items l n) (sym c.in_err-push.ensures.items) before in
    stay c.from_residual-in_err-push.result c.args.into.now.items c.push.new.self.items n (c.args.end - c.args.from) (omega arith) run
