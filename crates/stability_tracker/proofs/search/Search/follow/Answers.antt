-- One more word was followed.
use Rattle.std.proofs.Common.{◌++◌, ◌∷◌, [], List, ℕ, take, get_or, sym, subst}
use Rattle.std.proofs.lemmas.List.{take_more}
use Rattle.stability_tracker.specs.declared.search.Search.{Search}
use Rattle.stability_tracker.specs.Search.{WereFollowed}
use Rattle.stability_tracker.proofs.Steps.{follows_past, follows_met}
use Rattle.stability_tracker.proofs.search.Search.follow.Goals.{in-Some+in_ok-meet, in_default}
use Rattle.stability_tracker.proofs.search.Search.follow.Goals as goal

pub loop-word-preserved : goal.loop-word-preserved
loop-word-preserved c =
    let area = c.args.area.now in
    let words = c.args.words.now in
    let i = c.loop-word.word-index in
    let w = get_or words i 0 in
    let old = c.args.self.now in
    let mid = c.loop-word.self in
    let Words : List ℕ → Type 0 = λ ws. WereFollowed area ws old.found.keys old.waiting.items c.match-referred.self.found.keys c.match-referred.self.waiting.items in
    let Now : Search → Type 0 = λ s. WereFollowed area (take i words ++ w ∷ []) old.found.keys old.waiting.items s.found.keys s.waiting.items in
    subst Words (sym (take_more words i 0 c.loop-word-test.true))
    (elim c.match-referred.branch [
      | in-Some+in_ok-meet b ↦
          let to = b.in-Some.ensures.some in
          subst Now (sym b.self-is)
          (follows_met area (take i words) w b.in-Some.at old.found.keys old.waiting.items mid.found.keys mid.waiting.items b.meet.new.self.found.keys b.meet.new.self.waiting.items
          c.loop-word.invariant to.0 to.1 b.in_ok-meet.ensures)
      | in_default b ↦
          subst Now (sym b.self-is)
          (follows_past area (take i words) w old.found.keys old.waiting.items mid.found.keys mid.waiting.items c.loop-word.invariant b.in_default.ensures.none)
    ])
