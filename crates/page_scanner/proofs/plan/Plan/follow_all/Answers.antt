-- One field after another is followed.
use Rattle.std.proofs.Common.{◌≡◌, ℕ, ◌+◌, ◌<◌, length, List, Err, None, Some, ap, ◌∙◌, subst, get_or, arith}
use Rattle.heap_words.specs.Word.{meaning}
use Rattle.object_layout.specs.Read.{IsRead}
use Rattle.page_scanner.specs.Plan.{planned}
use Rattle.page_scanner.specs.Scan.{follow}
use Rattle.object_layout.proofs.ReadLaws.{read_on}
use Rattle.page_scanner.proofs.Errors.{failure_on, handed_on}
use Rattle.page_scanner.proofs.Loops.{follow_on, follow_stop}
use Rattle.page_scanner.proofs.plan.Plan.follow_all.Goals as goal

pub returns-in_err-follow-clause-damaged : goal.returns-in_err-follow-clause-damaged
returns-in_err-follow-clause-damaged g c told is =
    let words = g.W.Words.content c.args.words.now in
    let field = c.loop-field.field in
    let size : length words ≡ g.W.Words.extent c.args.words.now = g.met.W.Words.same_size told c.args.words.now in
    let before : field < c.args.n + 2 = omega arith in
    let within : c.args.source + field < length words = omega arith in
    let same = c.loop-field.invariant.read.same_words told in
    let word : c.in_ok-word.word ≡ get_or words (c.args.source + field) 0 = c.in_ok-word.ensures.word told ∙ ap (λ ws. get_or ws (c.args.source + field) 0) same in
    let Stops : List ℕ → Type 0 = λ ws. follow c.args.spaces.now c.args.collection.now ws (planned c.loop-field.self) (c.args.at + field) (meaning c.in_ok-word.word) ≡ None in
    let stop : Stops words =
    subst Stops (c.in_ok-word.ensures.read.same_words told ∙ same)
    (c.in_err-follow.ensures.damaged told (ap Err (handed_on c.from_residual-in_err-follow.result _ c.from_residual-in_err-follow.ensures.1 is))) in
    c.loop-field.invariant.followed told
    ∙ follow_stop c.args.spaces.now c.args.collection.now words (planned c.loop-field.self) c.args.at c.args.source field c.args.n c.in_ok-word.word before within word stop

pub returns-in_err-follow-clause-read : goal.returns-in_err-follow-clause-read
returns-in_err-follow-clause-read g c =
    subst (IsRead g.W.Words.tells g.W.Words.extent g.W.Words.content g.W.Words.keeps g.W.Words.faults g.W.Words.stops c.args.words.now c.follow.new.words)
    (failure_on c.from_residual-in_err-follow.result _ c.from_residual-in_err-follow.ensures.1)
    (read_on _ _ _ _ _ _ _ _ _ _ g.met.W.Words.keeps_on
    (read_on _ _ _ _ _ _ _ _ _ _ g.met.W.Words.keeps_on c.loop-field.invariant.read c.in_ok-word.ensures.read)
    c.in_err-follow.ensures.read)

pub loop-field-preserved : goal.loop-field-preserved
loop-field-preserved g c = record {
  read = read_on _ _ _ _ _ _ _ _ _ _ g.met.W.Words.keeps_on
      (read_on _ _ _ _ _ _ _ _ _ _ g.met.W.Words.keeps_on c.loop-field.invariant.read c.in_ok-word.ensures.read)
      c.in_ok-follow.ensures.read;
  plan = c.in_ok-follow.ensures.plan;
  first = c.in_ok-follow.ensures.first ∙ c.loop-field.invariant.first;
  few = let more = c.in_ok-follow.ensures.few in let before = c.loop-field.invariant.few in omega (arith, more, before);
  followed = λ told.
      let words = g.W.Words.content c.args.words.now in
      let field = c.loop-field.field in
      let size : length words ≡ g.W.Words.extent c.args.words.now = g.met.W.Words.same_size told c.args.words.now in
      let before : field < c.args.n + 2 = omega arith in
      let within : c.args.source + field < length words = omega arith in
      let same = c.loop-field.invariant.read.same_words told in
      let word : c.in_ok-word.word ≡ get_or words (c.args.source + field) 0 = c.in_ok-word.ensures.word told ∙ ap (λ ws. get_or ws (c.args.source + field) 0) same in
      let Follows : List ℕ → Type 0 = λ ws. follow c.args.spaces.now c.args.collection.now ws (planned c.loop-field.self) (c.args.at + field) (meaning c.in_ok-word.word) ≡ Some (planned c.follow.new.self) in
      let one : Follows words = subst Follows (c.in_ok-word.ensures.read.same_words told ∙ same) (c.in_ok-follow.ensures.followed told) in
      c.loop-field.invariant.followed told
      ∙ follow_on c.args.spaces.now c.args.collection.now words (planned c.loop-field.self) (planned c.follow.new.self) c.args.at c.args.source field c.args.n c.in_ok-word.word before within word one;
}
