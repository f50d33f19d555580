use Rattle.std.proofs.Common.{◌≡◌, inl, inr, ⊎_elim, List, Some, None, Ok, refl, subst, arith}
use Rattle.graph_model.specs.Graph.{Graph, new_graph}
use Rattle.command_words.specs.declared.commands.Command.TheVariants as asked
use Rattle.script_text.specs.declared.line.Line.{Line}
use Rattle.script_text.specs.Script.{script}
use Rattle.heap_program.specs.declared.status.Status.TheVariants as status
use Rattle.heap_program.specs.Commands.{IsEndOf}
use Rattle.heap_program.specs.Headline.{made_super}
use Rattle.heap_program.specs.Refusals.{EndsRefused}
use Rattle.black_box.specs.Stores.{Stores}
use Rattle.black_box.specs.Told.{MakesNone}
use Rattle.black_box.specs.Workers.{TellsWorkers}
use Rattle.black_box.proofs.Ends.{ends_play, rose_later, small_for}
use Rattle.black_box.proofs.Left.{prints_stored, same_after, same_again, same_run, unmade_stores}
use Rattle.black_box.proofs.Runs.{made_none}
use Rattle.black_box.proofs.Workers.{workers_new, workers_store}
use Rattle.black_box.proofs.threads.threads_then_graph.Goals as goal

pub returns : goal.returns
returns g c =
    let d = g.D.Disk in
    let old = c.args.disk in
    let new = c.run-played.result.1 in
    let again = c.restart.new.self in
    let last = c.run-printed.result.1 in
    let played = c.run-played.result.0 in
    let printed = c.run-printed.result.0 in
    let hears = g.K.Sink.tells in
    let before = g.K.Sink.written c.args.lines.now in
    let after = g.K.Sink.written c.run-played.new.sink in
    let text = g.K.Sink.written c.args.text.now in
    let text' = g.K.Sink.written c.run-printed.new.sink in record {
      one_history = λ tells only source sink pages tries play graph done.
          let left = g.S.Source.left c.args.source.now in
          let runs = c.run-played.ensures.threads tells only (Some pages) tries play in
          let leaves = c.restart.ensures.left tells in
          let still = c.restart.ensures.durable tells in
          ⊎_elim
          (λ (none : MakesNone played × (after ≡ before)). inl none)
          (λ (told : (read : List Line) × (script left ≡ Ok read) × (kept : Graph) × Stores d kept again × TellsWorkers new_graph tries read played before after kept).
          inr (told.0, told.1, told.2, told.4, (prints_stored d told.2 again last printed hears text text' sink told.3 (c.run-printed.ensures.graph tells still graph) done).0))
          (workers_new d pages tries g.S.Source.tells left old new again played hears before after source sink runs leaves still);
      same_disk = λ pages tries play graph.
          let run = same_run d old new played _ c.run-played.ensures.disk_fault (λ tells. (c.run-played.ensures.image _ play).restarts tells) in
          let restart = same_again d new again c.restart.ensures.extent c.restart.ensures.origin c.restart.ensures.restarts in
          let print = same_run d again last printed _ c.run-printed.ensures.disk_fault (λ tells. (c.run-printed.ensures.image _ graph).restarts tells) in
          same_after d 0 1 old again last (same_after d 1 0 old new again run restart) print;
      leaves = λ tells only sink pages tries play graph done.
          let still = c.restart.ensures.durable tells in
          ⊎_elim
          (λ none. inl (made_none d (made_super pages) old new played none.reason, none.nothing sink))
          (λ (there : (kept : Graph) × Stores d kept again).
          inr (prints_stored d there.0 again last printed hears text text' sink there.1 (c.run-printed.ensures.graph tells still graph) done).1)
          (workers_store d pages tries _ old new again played hears before after (c.run-played.ensures.threads tells only (Some pages) tries play) (c.restart.ensures.left tells) still);
      keeps = λ tells only sink was pages tries play graph done.
          let leaves = c.restart.ensures.left tells in
          let still = c.restart.ensures.durable tells in
          let there = ⊎_elim
          (λ none. unmade_stores d (made_super pages) old new again played hears before after was none (λ t image le may. (g.met.D.Disk g.world.𝓛 g.world.𝓜 g.world.𝓡 ((λ s x. x), (λ x. x), (λ x. x), λ x. x)).counts_now tells new t image le may) leaves still (λ no_heap.
          let refused = ((c.run-printed.ensures.image asked.Graph graph).refuses tells (λ some. still) refl status.NotHeap no_heap).0 in
          let ended = subst (λ s. EndsRefused status.NotHeap s) done refused in
          cc))
          (λ (there : (kept : Graph) × Stores d kept again). there)
          (workers_store d pages tries _ old new again played hears before after (c.run-played.ensures.threads tells only (Some pages) tries play) leaves still) in
          (prints_stored d there.0 again last printed hears text text' sink there.1 (c.run-printed.ensures.graph tells still graph) done).1;
      ends = λ tells only source pages tries play.
          let run = c.run-played.ensures in
          ends_play (d.extent old) pages _ _ _ _ played (λ is. subst (IsEndOf (asked.Threads (Some pages) tries)) is (run.ends _ play)) ((run.image _ play).sound tells only (λ made. let never : Some (made_super pages) ≡ None = made in cc never))
          (run.script_fault source) (λ is. rose_later _ _ _ (run.read_fault.cause is) c.run-printed.ensures.read_fault.kept) run.write_fault.cause
          (λ is. rose_later _ _ _ (run.disk_fault.cause is) (omega (arith, c.restart.ensures.faults, c.restart.ensures.stops, c.run-printed.ensures.disk_fault.kept)))
          (λ size need is. small_for (d.extent old) pages size need (run.too_small size need is _ play));
    }
