use Rattle.std.proofs.Common.{refl, None}
use Rattle.black_box.proofs.Left.{same_after, same_again, same_run}
use Rattle.black_box.proofs.Runs.{tells_stored}
use Rattle.black_box.proofs.turns.play_turn.Goals as goal

pub returns : goal.returns
returns g c = record {
  same_disk = λ play.
      let d = g.D.Disk in
      let run = same_run d c.args.disk c.run-status.result.1 c.run-status.result.0 _ c.run-status.ensures.disk_fault (λ tells. (c.run-status.ensures.image _ play).restarts tells) in
      let restart = same_again d c.run-status.result.1 c.restart.new.self c.restart.ensures.extent c.restart.ensures.origin c.restart.ensures.restarts in
      same_after d 1 0 c.args.disk c.run-status.result.1 c.restart.new.self run restart;
  tells = λ tells source sink play begins stores.
      let tale = tells_stored g.D.Disk begins g.S.Source.tells (g.S.Source.left c.args.turn.now.source) c.args.disk c.run-status.result.1 c.restart.new.self c.run-status.result.0 g.K.Sink.tells (g.K.Sink.written c.args.turn.now.sink) (g.K.Sink.written c.run-status.new.sink)
      source sink stores (c.run-status.ensures.headline tells stores.only None None play) (c.restart.ensures.left tells) (c.restart.ensures.durable tells) in
      (tale.0, tale.1, (c.run-status.result.0, refl, tale.2));
}
