use Rattle.std.proofs.Common.{◌≡◌, inl, ℕ, Option, Some, None, Err, refl, sym, ap, ◌∙◌, subst}
use Rattle.std.specs.Prelude.{IfSome}
use Rattle.command_words.specs.declared.commands.Command.TheVariants as asked
use Rattle.command_words.specs.declared.commands.CommandError.{CommandError}
use Rattle.command_words.specs.declared.commands.CommandError.TheVariants as asking
use Rattle.command_words.specs.declared.commands.Command.{Command}
use Rattle.command_words.specs.Limits.{IsPages, IsWithin}
use Rattle.heap_core.specs.Format.{heap_of}
use Rattle.heap_model.proofs.Opening.Opened.{address_found}
use Rattle.heap_program.specs.Commands.{makes, restarts_of, MeetsNoFault, CanRun}
use Rattle.heap_program.specs.Headline.{made_super, restarts_asked}
use Rattle.heap_program.proofs.CommandLaws.{same_play, same_load, command_not_done, command_not_refused, graph_unread, load_unread, play_ends, unread_ends, format_sound, no_stop, not_made, load_made, words_unread, none_made, none_loaded}
use Rattle.heap_program.proofs.RunLaws.{runs_safely, end_done, restarts_none}
use Rattle.heap_program.proofs.ImageLaws.{answers_own, answers_made, answers_unread}
use Rattle.heap_program.proofs.dispatch.run_alone.Goals as goal

pub returns-in-Err-clause-graph : goal.returns-in-Err-clause-graph
returns-in-Err-clause-graph g c tells only is stored shaped born places graph found =
    let d = g.D.Disk in
    graph_unread d c.args.disk c.in-Err.e _ is (λ (same : c.in-Err.e ≡ asking.Usage). c.in-Err.ensures.usage (ap (λ (x : CommandError). Err x) same)) c.from.result c.from.ensures (λ image since. g.met.D.Disk.only_now tells c.args.disk image since) only stored graph shaped.held g.K.Sink.tells (g.K.Sink.written c.args.sink.now)

pub returns-in-Format-clause-too_small : goal.returns-in-Format-clause-too_small
returns-in-Format-clause-too_small g c size need told which is =
    let same : which ≡ asked.Format c.in-Format.numbers = cc (is, c.in-Ok.ensures.read, c.in-Format.is) in
    let small = c.run_format.ensures.too_small size need told in
    let n = c.in-Format.numbers in
    (heap_of n.pages n.log_bytes n.first, ap makes same, small.2, small.3, small.4)

pub returns-in-Play-clause-too_small : goal.returns-in-Play-clause-too_small
returns-in-Play-clause-too_small g c size need told which is =
    let same : which ≡ asked.Play c.in-Play.fresh c.in-Play.stop = cc (is, c.in-Ok.ensures.read, c.in-Play.is) in
    let small = c.run_play.ensures.too_small size need told in
    (made_super small.0, ap makes same ∙ ap (λ (fresh : Option ℕ). makes (asked.Play fresh c.in-Play.stop)) small.1, small.2, small.3, small.4)

-- the script of a play is read
pub returns-in-Play-clause-unread : goal.returns-in-Play-clause-unread
returns-in-Play-clause-unread g c none = absurd (none (asked.Play c.in-Play.fresh c.in-Play.stop) (c.in-Ok.ensures.read ∙ ap (λ (x : Command). Some x) c.in-Play.is) tt)

pub returns-in-Play-clause-crash_safe : goal.returns-in-Play-clause-crash_safe
returns-in-Play-clause-crash_safe g c tells only fresh stop is =
    let k = g.K.Sink in
    let same = same_play fresh stop c.in-Play.fresh c.in-Play.stop (sym is ∙ c.in-Ok.ensures.read ∙ ap (λ (x : Command). Some x) c.in-Play.is) in
    let within : IfSome c.in-Play.fresh IsPages = (subst IsWithin c.in-Play.is c.in-Ok.ensures.limits).0 in
    let safe = runs_safely g.D.Disk (λ disk image since. g.met.D.Disk.only_now tells disk image since) g.S.Source.tells (g.S.Source.left c.args.source.now) c.in-Play.fresh c.in-Play.stop c.args.disk c.run_play.result.1 c.run_play.result.0
    k.tells (k.written c.args.sink.now) (k.written c.run_play.new.sink) within (c.run_play.ensures.headline tells only) in
    rw (same.0, same.1) safe

pub returns-in-Graph-clause-graph : goal.returns-in-Graph-clause-graph
returns-in-Graph-clause-graph g c tells only is stored shaped born places graph found = c.run_graph.ensures.graph tells only stored shaped born places graph found

pub returns-in-Graph-clause-complete : goal.returns-in-Graph-clause-complete
returns-in-Graph-clause-complete g c tells only which is can script no_source no_sink no_disk =
    let same : which ≡ asked.Graph = cc (is, c.in-Ok.ensures.read, c.in-Graph.is) in
    let shaped = subst (λ (x : Command). CanRun x (g.D.Disk.extent c.args.disk) (g.D.Disk.bytes c.args.disk)) same can in
    let found = address_found shaped.0 shaped.1.log in
    let printed = c.run_graph.ensures.graph tells only shaped.0 shaped.1 _ found.0 found.1 found.2 in
    end_done _ _ c.run_graph.result.0 printed.end c.run_graph.ensures.disk.cause c.run_graph.ensures.sink.cause no_disk no_sink

pub returns-in-Err-clause-ends : goal.returns-in-Err-clause-ends
returns-in-Err-clause-ends g c which is = unread_ends which _ c.in-Err.e c.from.result is (λ (same : c.in-Err.e ≡ asking.Usage). c.in-Err.ensures.usage (ap (λ (x : CommandError). Err x) same)) c.from.ensures

pub returns-in-Format-clause-ends : goal.returns-in-Format-clause-ends
returns-in-Format-clause-ends g c which is =
    let same : which ≡ asked.Format c.in-Format.numbers = cc (is, c.in-Ok.ensures.read, c.in-Format.is) in
    rw same c.run_format.ensures.ends

pub returns-in-Play-clause-ends : goal.returns-in-Play-clause-ends
returns-in-Play-clause-ends g c which is =
    let same : which ≡ asked.Play c.in-Play.fresh c.in-Play.stop = cc (is, c.in-Ok.ensures.read, c.in-Play.is) in
    rw same (play_ends c.in-Play.fresh c.in-Play.stop c.run_play.result.0 c.run_play.ensures.usage)

pub returns-in-Graph-clause-ends : goal.returns-in-Graph-clause-ends
returns-in-Graph-clause-ends g c which is =
    let same : which ≡ asked.Graph = cc (is, c.in-Ok.ensures.read, c.in-Graph.is) in
    rw same c.run_graph.ensures.end

-- ---- a load

pub returns-in-Err-clause-loads : goal.returns-in-Err-clause-loads
returns-in-Err-clause-loads g c tells only seed count fresh is =
    let d = g.D.Disk in
    load_unread d c.args.disk only (λ image since. g.met.D.Disk.only_now tells c.args.disk image since) seed count fresh c.in-Err.e _ is (λ (same : c.in-Err.e ≡ asking.Usage). c.in-Err.ensures.usage (ap (λ (x : CommandError). Err x) same)) c.from.result c.from.ensures
    g.K.Sink.tells (g.K.Sink.written c.args.sink.now)

pub returns-in-Err-clause-prints_load : goal.returns-in-Err-clause-prints_load
returns-in-Err-clause-prints_load g c tells seed count fresh is = inl ((λ done. command_not_done c.in-Err.e (sym c.from.ensures ∙ done)), (λ refused. command_not_refused c.in-Err.e (sym c.from.ensures ∙ refused)), refl)

pub run_load-requires : goal.run_load-requires
run_load-requires g c = let within = subst IsWithin c.in-Load.is c.in-Ok.ensures.limits in record { seeded = within.0; few = within.1; paged = within.2 }

pub returns-in-Load-clause-too_small : goal.returns-in-Load-clause-too_small
returns-in-Load-clause-too_small g c size need told which is =
    let same : which ≡ asked.Load c.in-Load.seed c.in-Load.count c.in-Load.fresh = cc (is, c.in-Ok.ensures.read, c.in-Load.is) in
    let small = c.run_load.ensures.too_small size need told in
    (made_super small.0, ap makes same ∙ ap (λ (fresh : Option ℕ). makes (asked.Load c.in-Load.seed c.in-Load.count fresh)) small.1, small.2, small.3, small.4)

pub returns-in-Load-clause-loads : goal.returns-in-Load-clause-loads
returns-in-Load-clause-loads g c tells only seed count fresh is =
    let k = g.K.Sink in
    let same : asked.Load seed count fresh ≡ asked.Load c.in-Load.seed c.in-Load.count c.in-Load.fresh = cc (is, c.in-Ok.ensures.read, c.in-Load.is) in
    let one = same_load seed count fresh c.in-Load.seed c.in-Load.count c.in-Load.fresh same in
    rw (one.0, one.1, one.2) (c.run_load.ensures.loads tells only)

pub returns-in-Load-clause-prints_load : goal.returns-in-Load-clause-prints_load
returns-in-Load-clause-prints_load g c tells seed count fresh is =
    let same : asked.Load seed count fresh ≡ asked.Load c.in-Load.seed c.in-Load.count c.in-Load.fresh = cc (is, c.in-Ok.ensures.read, c.in-Load.is) in
    let one = same_load seed count fresh c.in-Load.seed c.in-Load.count c.in-Load.fresh same in
    rw (one.0, one.1) (c.run_load.ensures.prints tells)

pub returns-in-Load-clause-ends : goal.returns-in-Load-clause-ends
returns-in-Load-clause-ends g c which is =
    let same : which ≡ asked.Load c.in-Load.seed c.in-Load.count c.in-Load.fresh = cc (is, c.in-Ok.ensures.read, c.in-Load.is) in
    rw same c.run_load.ensures.ends

pub returns-in-Load-clause-complete : goal.returns-in-Load-clause-complete
returns-in-Load-clause-complete g c tells only which is can script no_source no_sink no_disk =
    let same : which ≡ asked.Load c.in-Load.seed c.in-Load.count c.in-Load.fresh = cc (is, c.in-Ok.ensures.read, c.in-Load.is) in
    let able = subst (λ (x : Command). CanRun x (g.D.Disk.extent c.args.disk) (g.D.Disk.bytes c.args.disk)) same can in
    end_done _ _ c.run_load.result.0 (c.run_load.ensures.complete tells only able) c.run_load.ensures.disk_fault.cause c.run_load.ensures.write_fault.cause no_disk no_sink

-- ---- on an image that is damaged at an address it makes the writes and syncs of one opening

pub returns-in-Play-clause-unfaulted : goal.returns-in-Play-clause-unfaulted
returns-in-Play-clause-unfaulted g c which is unstopped none =
    let same : which ≡ asked.Play c.in-Play.fresh c.in-Play.stop = cc (is, c.in-Ok.ensures.read, c.in-Play.is) in
    c.run_play.ensures.unfaulted (no_stop c.in-Play.stop (subst (λ (x : Command). restarts_of x ≡ 0) same unstopped)) (subst (λ (x : Command). MeetsNoFault x c.run_play.result.0) same none)

pub returns-in-Format-clause-unfaulted : goal.returns-in-Format-clause-unfaulted
returns-in-Format-clause-unfaulted g c which is unstopped none =
    let same : which ≡ asked.Format c.in-Format.numbers = cc (is, c.in-Ok.ensures.read, c.in-Format.is) in
    c.run_format.ensures.unfaulted (subst (λ (x : Command). MeetsNoFault x c.run_format.result.0) same none)

pub returns-in-Graph-clause-unfaulted : goal.returns-in-Graph-clause-unfaulted
returns-in-Graph-clause-unfaulted g c which is unstopped none =
    let same : which ≡ asked.Graph = cc (is, c.in-Ok.ensures.read, c.in-Graph.is) in
    c.run_graph.ensures.unfaulted (subst (λ (x : Command). MeetsNoFault x c.run_graph.result.0) same none)

pub returns-in-Load-clause-unfaulted : goal.returns-in-Load-clause-unfaulted
returns-in-Load-clause-unfaulted g c which is unstopped none =
    let same : which ≡ asked.Load c.in-Load.seed c.in-Load.count c.in-Load.fresh = cc (is, c.in-Ok.ensures.read, c.in-Load.is) in
    c.run_load.ensures.unfaulted (subst (λ (x : Command). MeetsNoFault x c.run_load.result.0) same none)

-- ---- on an image that can't be opened

pub returns-in-Err-clause-image : goal.returns-in-Err-clause-image
returns-in-Err-clause-image g c which is =
    let input = words_unread which _ c.in-Err.e is (λ (same : c.in-Err.e ≡ asking.Usage). c.in-Err.ensures.usage (ap (λ (x : CommandError). Err x) same)) in
    rw c.from.ensures (answers_unread g.D.Disk (makes which ≡ None) (restarts_of which) c.args.disk _ _ input refl (λ tells image since. g.met.D.Disk.only_now tells c.args.disk image since))

pub returns-in-Format-clause-image : goal.returns-in-Format-clause-image
returns-in-Format-clause-image g c which is =
    let same : which ≡ asked.Format c.in-Format.numbers = cc (is, c.in-Ok.ensures.read, c.in-Format.is) in
    let sound = format_sound c.in-Format.numbers c.run_format.result.0 c.run_format.ensures.ends in
    rw same (answers_made g.D.Disk 0 c.args.disk _ _ _ _ (λ none. cc none) (λ tells only. sound) (λ unstopped against. absurd (against sound))
    (λ tells. restarts_none 0 _ _ _ (λ done. refl) (c.run_format.ensures.restarts tells)))

pub returns-in-Play-clause-image : goal.returns-in-Play-clause-image
returns-in-Play-clause-image g c which is =
    let same : which ≡ asked.Play c.in-Play.fresh c.in-Play.stop = cc (is, c.in-Ok.ensures.read, c.in-Play.is) in
    rw same (answers_own g.D.Disk (restarts_asked c.in-Play.stop) c.args.disk _ _ _ _ _ (none_made c.in-Play.fresh c.in-Play.stop) (not_made c.in-Play.fresh c.in-Play.stop) c.run_play.ensures.image)

pub returns-in-Graph-clause-image : goal.returns-in-Graph-clause-image
returns-in-Graph-clause-image g c which is =
    let same : which ≡ asked.Graph = cc (is, c.in-Ok.ensures.read, c.in-Graph.is) in
    rw same (answers_own g.D.Disk 0 c.args.disk _ _ _ _ _ (λ here. refl) (λ none. tt) c.run_graph.ensures.image)

pub returns-in-Load-clause-image : goal.returns-in-Load-clause-image
returns-in-Load-clause-image g c which is =
    let same : which ≡ asked.Load c.in-Load.seed c.in-Load.count c.in-Load.fresh = cc (is, c.in-Ok.ensures.read, c.in-Load.is) in
    rw same (answers_own g.D.Disk 0 c.args.disk _ _ _ _ _ (none_loaded c.in-Load.seed c.in-Load.count c.in-Load.fresh) (load_made c.in-Load.seed c.in-Load.count c.in-Load.fresh) c.run_load.ensures.image)
