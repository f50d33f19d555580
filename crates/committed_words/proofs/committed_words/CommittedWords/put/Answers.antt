use Rattle.std.proofs.Common.{◌≡◌, ◌+◌, ◌<◌, length, subst, ap, ◌∙◌, arith}
use Rattle.std.specs.Prelude.{slice_set}
use Rattle.log_machine.specs.Machine.{field_at}
use Rattle.committed_words.specs.LaidOver.{laid_over}
use Rattle.committed_words.specs.Committed.{words_of}
use Rattle.committed_words.proofs.LaidOver.{length-laid_over, laid_over-insert}
use Rattle.committed_words.proofs.committed_words.CommittedWords.put.Goals as goal

pub overflow_add-address : goal.overflow_add-address
overflow_add-address c =
    let s = c.args.self.now in
    let inside : field_at c.args.object c.args.field < length s.words.now = subst (λ n. field_at c.args.object c.args.field < n) (length-laid_over s.words.now s.before_images.entries) c.requires in
    let few : length s.words.now < 4294967296 = s.few in
    omega arith

pub overflow_add-address-2 : goal.overflow_add-address-2
overflow_add-address-2 c =
    let s = c.args.self.now in
    let inside : field_at c.args.object c.args.field < length s.words.now = subst (λ n. field_at c.args.object c.args.field < n) (length-laid_over s.words.now s.before_images.entries) c.requires in
    let few : length s.words.now < 4294967296 = s.few in
    let field = c.from.ensures in
    omega arith

pub returns-clause-ok : goal.returns-clause-ok
returns-clause-ok c =
    let s = c.args.self.now in
    let address : c.args.object + 2 + c.from.result ≡ field_at c.args.object c.args.field = omega (arith, c.from.ensures) in
    ap (λ es. laid_over s.words.now es) c.in_ok-insert.ensures.entries
    ∙ laid_over-insert s.words.now s.before_images.entries _ c.args.word
    ∙ ap (λ i. slice_set (words_of s) i c.args.word) address
