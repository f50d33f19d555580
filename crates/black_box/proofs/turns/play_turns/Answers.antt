use Rattle.std.proofs.Common.{◌≡◌, ◌∙◌, ◌+◌, ◌<◌, List, [], ◌∷◌, ◌++◌, length, length-set, take, get_or, set, get_or-set_other, sym, ap, subst, arith, ◌≢◌}
use Rattle.std.proofs.lemmas.List.{take_all, take_more, take_more_set}
use Rattle.black_box.specs.Stores.{IsSameDisk}
use Rattle.black_box.specs.Tales.{TellTurns}
use Rattle.black_box.specs.declared.turns.Turn.{Turn}
use Rattle.black_box.proofs.Left.{same_after}
use Rattle.black_box.proofs.TurnLaws.{tell_more}
use Rattle.black_box.proofs.turns.play_turns.Goals as goal

pub loop-turn-preserved : goal.loop-turn-preserved
loop-turn-preserved g c =
    let inv = c.loop-turn.invariant in
    let i = c.loop-turn.turn-index in
    let now = c.loop-turn.turns in
    let first = c.args.turns.now in
    let item = c.turn-item.result in
    let turn = get_or now i item in
    let turn' = c.play_turn-disk.new.turn in
    let same = inv.0 in
    let test = c.loop-turn-test.true in
    let within : i < length now = omega arith in
    let untouched : turn ≡ get_or first i item = inv.1 i item (omega arith) in
    let Tell : List (Turn _ _) → List (Turn _ _) → _ → _ → Type 0 = λ ts us begins kept. TellTurns g.S.Source.left g.K.Sink.written begins ts us kept in (
      length-set now i turn' ∙ same,
      λ k d above.
          let other : k ≢ i = omega arith in
          get_or-set_other now i k turn' d other ∙ inv.1 k d (omega arith),
      λ tells source sink play begins stores.
          let so_far = inv.2 tells source sink play begins stores in
          let one = c.play_turn-disk.ensures.tells tells source sink play so_far.0 so_far.1 in
          let more = tell_more g.S.Source.left g.K.Sink.written begins so_far.0 one.0 (take i first) (take i now) turn turn' so_far.2 one.2 in
          let before : take i first ++ turn ∷ [] ≡ take (i + 1) first = ap (λ x. take i first ++ x ∷ []) untouched ∙ sym (take_more first i item test) in
          let after : take i now ++ turn' ∷ [] ≡ take (i + 1) (set now i turn') = sym (take_more_set now i turn' within) in
          (one.0, one.1, subst (λ ts. Tell ts (take (i + 1) (set now i turn')) begins one.0) before (subst (λ us. Tell (take i first ++ turn ∷ []) us begins one.0) after more)),
      λ play.
          let more : 1 + i ≡ i + 1 = omega arith in
          subst (λ n. IsSameDisk g.D.Disk n c.args.disk c.play_turn-disk.result) more (same_after g.D.Disk 1 i c.args.disk c.loop-turn.disk c.play_turn-disk.result (inv.3 play) (c.play_turn-disk.ensures.same_disk play)),
    )

pub returns : goal.returns
returns g c = record {
  same_disk = λ play.
      let test = c.loop-turn-test.false in
      let same = c.loop-turn.invariant.0 in
      let all : c.loop-turn.turn-index ≡ length c.args.turns.now = omega arith in
      subst (λ n. IsSameDisk g.D.Disk n c.args.disk c.loop-turn.disk) all (c.loop-turn.invariant.3 play);
  tell = λ tells source sink play begins stores.
      let i = c.loop-turn.turn-index in
      let now = c.loop-turn.turns in
      let first = c.args.turns.now in
      let same = c.loop-turn.invariant.0 in
      let test = c.loop-turn-test.false in
      let so_far = c.loop-turn.invariant.2 tells source sink play begins stores in
      let whole : take i first ≡ first = take_all i first test in
      let all : take i now ≡ now = take_all i now (omega arith) in (
        so_far.0,
        so_far.1,
        subst (λ ts. TellTurns g.S.Source.left g.K.Sink.written begins ts now so_far.0) whole (subst (λ us. TellTurns g.S.Source.left g.K.Sink.written begins (take i first) us so_far.0) all so_far.2),
      );
}
