use Rattle.std.proofs.Common.{List, ℕ, sym, subst}
use Rattle.graph_model.specs.Transaction.{serial}
use Rattle.graph_model.specs.History.{sealed}
use Rattle.object_layout.specs.Layout.{IsSeenAs}
use Rattle.committed_words.specs.Committed.{words_of}
use Rattle.heap_core.proofs.StepCore.{unfailed_valid, no_failure_at}
use Rattle.heap_core.proofs.RefinementGraph.{memory_seen, names_of}
use Rattle.heap_engine.specs.EngineState.{memory}
use Rattle.heap_core.proofs.in_memory.HeapCore.objects.Goals as goal

pub returns-clause-count : goal.returns-clause-count
returns-clause-count c core heap reached =
    let none = no_failure_at c.args.self.now.failed c.requires.unfailed in
    let valid = unfailed_valid core _ heap.memory.failure none reached in
    let gr = serial core.g0 (sealed core.history) in
    c.count.ensures.count (names_of core) gr
    (subst (λ (root : ℕ). IsSeenAs (names_of core) (words_of c.in_ok-words.words) root gr) (sym c.root_address.ensures)
    (subst (λ (ws : List ℕ). IsSeenAs (names_of core) ws (memory c.args.self.now.engine).spaces.base gr) (sym c.in_ok-words.ensures) (memory_seen core c.args.self.now.engine valid reached.locked (heap.engine none))))

pub returns-clause-error : goal.returns-clause-error
returns-clause-error c core heap reached =
    let none = no_failure_at c.args.self.now.failed c.requires.unfailed in
    let valid = unfailed_valid core _ heap.memory.failure none reached in
    let gr = serial core.g0 (sealed core.history) in
    c.count.ensures.error (names_of core) gr
    (subst (λ (root : ℕ). IsSeenAs (names_of core) (words_of c.in_ok-words.words) root gr) (sym c.root_address.ensures)
    (subst (λ (ws : List ℕ). IsSeenAs (names_of core) ws (memory c.args.self.now.engine).spaces.base gr) (sym c.in_ok-words.ensures) (memory_seen core c.args.self.now.engine valid reached.locked (heap.engine none))))
