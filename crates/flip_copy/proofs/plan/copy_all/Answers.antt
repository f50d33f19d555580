-- The objects are copied one after another, each to the words after the one before it.
use Rattle.std.proofs.Common.{rules, ◌≡◌, ℕ, ◌+◌, List, length, get_or, Some, Err, take, refl, sym, ap, ◌∙◌, arith}
use Rattle.log_records.specs.declared.copies.ObjectCopy.{ObjectCopy}
use Rattle.object_layout.specs.Layout.{object_at}
use Rattle.object_layout.proofs.ReadLaws.{not_read, read_on}
use Rattle.flip_copy.specs.declared.flip_error.FlipError.TheVariants.{NoObject}
use Rattle.flip_copy.specs.Copied.{object_words_at}
use Rattle.flip_copy.specs.Plan.{HasObjectSize}
use Rattle.flip_copy.proofs.ObjectWordsLaws.{Contains-tail, Contains-drop, root_begins, root_object}
use Rattle.flip_copy.proofs.StepLaws.{copies_begin, copied_begin, copies_push, copied_push, next_behind}
use Rattle.flip_copy.proofs.plan.copy_all.Goals as goal

pub loop-at-init : goal.loop-at-init
loop-at-init g c =
    let here = c.base-behind.ensures.base in
    let there = c.other_base-to.ensures in
    record {
      read = not_read _ _ _ _ _ _ _ g.met.W.Words.keeps_itself;
      within = omega (arith, c.next_free-end.ensures.address);
      room = omega arith;
      are = λ rest are. copies_begin _ _ _ _ _ _ rest c.new-copies.ensures.items here there are;
      copied = λ told. copied_begin _ _ _ _ _ c.new-copies.ensures.items there;
      next = λ told are at has. let begins = root_begins _ _ _ at are has in omega arith;
    }

pub loop-at-preserved : goal.loop-at-preserved
loop-at-preserved g c =
    let words = g.W.Words.content c.args.words.now in
    let ats = c.args.ats.now in
    let i = c.loop-at.at-index in
    let from = get_or ats i 0 in
    let before = c.loop-at.invariant in
    let sizes = c.in_ok-run.ensures.size in
    let copy : ObjectCopy = record { from = from; to = c.loop-at.to; words = c.new-words.result } in
    let long : c.len-size.result ≡ length c.new-words.result = c.len-size.ensures ∙ c.in_ok-run.run'.ok.0 ∙ ap length (sym c.new-words.ensures) in
    let count : c.len-size.result ≡ c.in_ok-run.run'.len = c.len-size.ensures in
    let sized : HasObjectSize copy = record { least = omega (arith, sizes.0); most = omega (arith, sizes.1) } in
    record {
      read = read_on _ _ _ _ _ _ _ _ _ _ g.met.W.Words.keeps_on before.read c.in_ok-run.ensures.read;
      within = omega (arith, sizes.2);
      room = omega (arith, before.room, c.if-from-behind.false);
      are = λ rest are. copies_push _ _ _ _ _ c.len-size.result copy _ _ rest before.are c.in_ok-push.ensures.items c.if-from-behind.false refl sized long are;
      copied = λ told.
          let object : c.new-words.result ≡ object_words_at words from =
          c.new-words.ensures ∙ c.in_ok-run.ensures.object told ∙ ap (λ (ws : List ℕ). object_words_at ws from) (before.read.same_words told) in
          copied_push words c.loop-at.to c.len-size.result i ats copy _ _ c.in_ok-push.ensures.items c.loop-at-test.true
          (ap (λ (ws : List ℕ). record { from = from; to = c.loop-at.to; words = ws }) object) (long ∙ ap length object)
          ∙ before.copied told;
      next = λ told are at has.
          let object : c.new-words.result ≡ object_words_at words from =
          c.new-words.ensures ∙ c.in_ok-run.ensures.object told ∙ ap (λ (ws : List ℕ). object_words_at ws from) (before.read.same_words told) in
          next_behind words c.args.spaces.now ats i c.len-size.result at are c.loop-at-test.true (long ∙ ap length object) has;
    }

pub returns-then-from-behind-clause-objects : goal.returns-then-from-behind-clause-objects
returns-then-from-behind-clause-objects g c told are failed =
    let above = c.loop-at.invariant.next told are (get_or c.args.ats.now c.loop-at.at-index 0) (Contains-tail c.args.ats.now c.loop-at.at-index c.loop-at-test.true) in
    absurd (omega (arith, above, c.if-from-behind.true))

pub returns-in_err-run-clause-objects : goal.returns-in_err-run-clause-objects
returns-in_err-run-clause-objects g c told are failed =
    let ats = c.args.ats.now in
    let i = c.loop-at.at-index in
    let from = get_or ats i 0 in
    let object = root_object _ _ ats from are (Contains-drop ats i from (Contains-tail ats i c.loop-at-test.true)) in
    let same = c.loop-at.invariant.read.same_words told in
    let there : object_at (take c.next_free-end.result (g.W.Words.content c.loop-at.words)) from ≡ Some object.0 =
    ap (λ (e : ℕ). object_at (take e (g.W.Words.content c.loop-at.words)) from) c.next_free-end.ensures.address
    ∙ ap (λ (ws : List ℕ). object_at (take (c.args.spaces.now.base + c.args.spaces.now.used) ws) from) same
    ∙ object.1 in
    let err : c.from_residual.result ≡ Err c.in_err-run.field-0.0 = search rules in
    let same_error : c.in_err-run.field-0.0 ≡ NoObject = cc (sym err ∙ failed) in
    c.object_words.ensures.stands told object.0 there (c.in_err-run.was ∙ ap Err same_error)
