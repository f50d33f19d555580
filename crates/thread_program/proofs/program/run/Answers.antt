use Rattle.std.proofs.Common.{◌≡◌, ℕ, Option, None, Some, refl, ap, ◌∙◌, subst}
use Rattle.std.specs.Prelude.{IfSome}
use Rattle.command_words.specs.declared.commands.Command.TheVariants as asked
use Rattle.command_words.specs.declared.commands.Command.{Command}
use Rattle.command_words.specs.declared.commands.CommandError.TheVariants as asking
use Rattle.command_words.specs.Limits.{IsPages, IsWithin}
use Rattle.heap_program.specs.Commands.{makes, MeetsNoFault, restarts_of}
use Rattle.heap_program.specs.Headline.{made_super}
use Rattle.heap_program.specs.Playable.{IsReadFrom}
use Rattle.heap_program.proofs.CommandLaws.{graph_unread}
use Rattle.thread_program.proofs.SafeLaws.{runs_safely}
use Rattle.heap_program.proofs.ImageLaws.{answers_own, answers_unread}
use Rattle.thread_program.proofs.program.run.Goals as goal

pub returns-in-Ok-Threads-clause-too_small : goal.returns-in-Ok-Threads-clause-too_small
returns-in-Ok-Threads-clause-too_small g c size need told which is =
    let same : which ≡ asked.Threads c.in-Ok-Threads.fresh c.in-Ok-Threads.tries = cc (is, c.in-Ok-Threads.ensures.read, c.in-Ok-Threads.field-0-is) in
    let small = c.run_threads.ensures.too_small size need told in
    (made_super small.0, ap makes same ∙ ap (λ (fresh : Option ℕ). makes (asked.Threads fresh c.in-Ok-Threads.tries)) small.1, small.2, small.3, small.4)

-- the script of the workers is read
pub returns-in-Ok-Threads-clause-unread : goal.returns-in-Ok-Threads-clause-unread
returns-in-Ok-Threads-clause-unread g c none =
    absurd (none (asked.Threads c.in-Ok-Threads.fresh c.in-Ok-Threads.tries) (c.in-Ok-Threads.ensures.read ∙ ap (λ (x : Command). Some x) c.in-Ok-Threads.field-0-is) tt)

pub returns-in-Ok-Threads-clause-threads_safe : goal.returns-in-Ok-Threads-clause-threads_safe
returns-in-Ok-Threads-clause-threads_safe g c tells only fresh tries is =
    let d = g.D.Disk in
    let k = g.K.Sink in
    let now = (g.met.D.Disk g.world.𝓛 g.world.𝓜 g.world.𝓡 ((λ s x. x), (λ x. x), (λ x. x), λ x. x)).only_now in
    let same : asked.Threads fresh tries ≡ asked.Threads c.in-Ok-Threads.fresh c.in-Ok-Threads.tries = cc (is, c.in-Ok-Threads.ensures.read, c.in-Ok-Threads.field-0-is) in
    let one : fresh ≡ c.in-Ok-Threads.fresh = cc same in
    let two : tries ≡ c.in-Ok-Threads.tries = cc same in
    let within : IfSome c.in-Ok-Threads.fresh IsPages = (subst IsWithin c.in-Ok-Threads.field-0-is c.in-Ok-Threads.ensures.limits).0 in
    let safe = runs_safely d (λ disk image since. now tells disk image since) c.in-Ok-Threads.fresh c.in-Ok-Threads.tries (IsReadFrom g.S.Source.tells (g.S.Source.left c.args.source.now)) c.args.disk c.run_threads.result.1 c.run_threads.result.0
    k.tells (k.written c.args.sink.now) (k.written c.run_threads.new.sink) within (c.run_threads.ensures.headline tells only) in
    rw (one, two) safe

-- words for which there was no memory
pub returns-in-Err-NoMemory-clause-graph : goal.returns-in-Err-NoMemory-clause-graph
returns-in-Err-NoMemory-clause-graph g c tells only is stored shaped born places graph found =
    let now = (g.met.D.Disk g.world.𝓛 g.world.𝓜 g.world.𝓡 ((λ s x. x), (λ x. x), (λ x. x), λ x. x)).only_now in
    graph_unread g.D.Disk c.args.disk asking.NoMemory _ is (λ same. cc) _ refl (λ image since. now tells c.args.disk image since) only stored graph shaped.held g.K.Sink.tells (g.K.Sink.written c.args.sink.now)

-- no fault of the disk is ignored
pub returns-in-Ok-Threads-clause-unfaulted : goal.returns-in-Ok-Threads-clause-unfaulted
returns-in-Ok-Threads-clause-unfaulted g c which is unstopped none =
    let same : which ≡ asked.Threads c.in-Ok-Threads.fresh c.in-Ok-Threads.tries = cc (is, c.in-Ok-Threads.ensures.read, c.in-Ok-Threads.field-0-is) in
    c.run_threads.ensures.unfaulted (subst (λ (x : Command). MeetsNoFault x c.run_threads.result.0) same none)

-- where no heap is made, no pages are asked for
threads_made : (fresh : Option ℕ) (tries : ℕ) → makes (asked.Threads fresh tries) ≡ None → fresh ≡ None
threads_made None tries none = refl
threads_made (Some pages) tries none = cc

none_threads : (fresh : Option ℕ) (tries : ℕ) → fresh ≡ None → makes (asked.Threads fresh tries) ≡ None
none_threads None tries none = refl
none_threads (Some pages) tries none = cc

pub returns-in-Ok-Threads-clause-image : goal.returns-in-Ok-Threads-clause-image
returns-in-Ok-Threads-clause-image g c which is =
    let same : which ≡ asked.Threads c.in-Ok-Threads.fresh c.in-Ok-Threads.tries = cc (is, c.in-Ok-Threads.ensures.read, c.in-Ok-Threads.field-0-is) in
    rw same (answers_own g.D.Disk 0 c.args.disk _ _ _ _ _ (none_threads c.in-Ok-Threads.fresh c.in-Ok-Threads.tries) (threads_made c.in-Ok-Threads.fresh c.in-Ok-Threads.tries) c.run_threads.ensures.image)

-- words for which there was no memory
pub returns-in-Err-NoMemory-clause-image : goal.returns-in-Err-NoMemory-clause-image
returns-in-Err-NoMemory-clause-image g c which is = answers_unread g.D.Disk (makes which ≡ None) (restarts_of which) c.args.disk _ _ tt refl (λ tells image since. (g.met.D.Disk g.world.𝓛 g.world.𝓜 g.world.𝓡 ((λ s x. x), (λ x. x), (λ x. x), λ x. x)).only_now tells c.args.disk image since)
