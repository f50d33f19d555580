use Rattle.std.proofs.Common.{◌≡◌, ◌+◌, length, arith, subst, refl, inl, inr, ⊎_elim, List, Some, None, Ok}
use Rattle.graph_model.specs.Graph.{Graph, new_graph}
use Rattle.script_text.specs.declared.line.Line.{Line}
use Rattle.script_text.specs.Script.{script}
use Rattle.black_box.specs.Stores.{IsSameDisk, Stores}
use Rattle.black_box.specs.Told.{TellsRun, MakesNone}
use Rattle.heap_program.specs.Headline.{made_super}
use Rattle.black_box.proofs.Left.{prints_stored, same_after, same_again, same_run}
use Rattle.black_box.proofs.Runs.{made_none, new_stores, tells_new}
use Rattle.black_box.proofs.turns.plays_then_graph.Goals as goal

pub returns : goal.returns
returns g c = record {
  one_history = λ tells only source sink pages fresh play graph done.
      let d = g.D.Disk in
      let again = c.restart.new.self in
      let left = g.S.Source.left c.args.first.now.source in
      let before = g.K.Sink.written c.args.first.now.sink in
      let after = g.K.Sink.written c.run-status.new.sink in
      let runs = c.run-status.ensures.headline tells only (Some pages) None fresh in
      ⊎_elim
      (λ (none : MakesNone c.run-status.result.0 × (after ≡ before)). (c.run-status.result.0, refl, inl none))
      (λ (told : (read : List Line) × (script left ≡ Ok read) × (kept : Graph) × Stores d kept again × TellsRun new_graph read c.run-status.result.0 before after kept).
      let rest = c.play_turns-disk.ensures.tell tells source sink play told.2 told.3 in (
        c.run-status.result.0,
        refl,
        inr (
          told.0,
          told.1,
          told.2,
          told.4,
          rest.0,
          rest.2,
          (prints_stored d rest.0 c.play_turns-disk.result c.run-printed.result.1 c.run-printed.result.0 g.K.Sink.tells (g.K.Sink.written c.args.text.now) (g.K.Sink.written c.run-printed.new.sink) sink rest.1 (c.run-printed.ensures.graph tells rest.1.only graph) done).0,
        ),
      ))
      (tells_new d pages g.S.Source.tells left c.args.disk c.run-status.result.1 again c.run-status.result.0 g.K.Sink.tells before after source sink runs (c.restart.ensures.left tells) (c.restart.ensures.durable tells));
  same_disk = λ pages fresh play graph.
      let d = g.D.Disk in
      let old = c.args.disk in
      let new = c.run-status.result.1 in
      let again = c.restart.new.self in
      let mid = c.play_turns-disk.result in
      let last = c.run-printed.result.1 in
      let turns = length c.args.turns.now in
      let run = same_run d old new c.run-status.result.0 _ c.run-status.ensures.disk_fault (λ tells. (c.run-status.ensures.image _ fresh).restarts tells) in
      let restart = same_again d new again c.restart.ensures.extent c.restart.ensures.origin c.restart.ensures.restarts in
      let print = same_run d mid last c.run-printed.result.0 _ c.run-printed.ensures.disk_fault (λ tells. (c.run-printed.ensures.image _ graph).restarts tells) in
      let first = same_after d 1 0 old new again run restart in
      let played = same_after d turns (1 + 0) old again mid first (c.play_turns-disk.ensures.same_disk play) in
      let times : 0 + (turns + (1 + 0)) ≡ turns + 1 = omega arith in
      subst (λ n. IsSameDisk d n old last) times (same_after d 0 (turns + (1 + 0)) old mid last played print);
  leaves = λ tells only source sink pages fresh play graph done.
      let d = g.D.Disk in
      let again = c.restart.new.self in
      let status = c.run-status.result.0 in
      let before = g.K.Sink.written c.args.first.now.sink in
      let after = g.K.Sink.written c.run-status.new.sink in
      ⊎_elim
      (λ none. (status, refl, inl (made_none d (made_super pages) c.args.disk c.run-status.result.1 status none.reason, none.nothing sink)))
      (λ (there : (kept : Graph) × Stores d kept again).
      let rest = c.play_turns-disk.ensures.tell tells source sink play there.0 there.1 in (
        status,
        refl,
        inr (prints_stored d rest.0 c.play_turns-disk.result c.run-printed.result.1 c.run-printed.result.0 g.K.Sink.tells (g.K.Sink.written c.args.text.now) (g.K.Sink.written c.run-printed.new.sink) sink rest.1 (c.run-printed.ensures.graph tells rest.1.only graph) done).1,
      ))
      (new_stores d pages _ c.args.disk c.run-status.result.1 again status g.K.Sink.tells before after (c.run-status.ensures.headline tells only (Some pages) None fresh) (c.restart.ensures.left tells) (c.restart.ensures.durable tells));
}
