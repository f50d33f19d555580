-- The graph in memory: the words without what active transactions wrote are those in which the sealed transactions' graph is seen.
use Rattle.std.proofs.Common.{◌≡◌, ℕ, List, [], ◌∷◌, ◌++◌, Option, Some, None, refl, sym, ap, ◌∙◌, subst}
use Rattle.commit_order.proofs.OrderLaws.{two_phase_ordered}
use Rattle.core_laws.proofs.Sessions.TakenBack.{session_undo, taken_by, committed_by_session}
use Rattle.core_laws.specs.Valid.{RunsLocked, IsValid}
use Rattle.graph_model.specs.Graph.{Graph}
use Rattle.graph_model.specs.History.{Account, account, sealed, sessions}
use Rattle.graph_model.specs.Transaction.{Transaction, serial}
use Rattle.log_machine.specs.declared.UndoEntry.{UndoEntry}
use Rattle.log_machine.specs.Machine.{State, undo_of, taken_back, all_taken_back}
use Rattle.object_layout.specs.Layout.{IsSeenAs}
use Rattle.graph_words.proofs.Places.Names.{name_at}
use Rattle.graph_model.specs.declared.id.Id.{Id}
use Rattle.seen_laws.specs.Heap.{IsHeap}
use Rattle.seen_laws.proofs.Names.{heap_names}
use Rattle.seen_laws.proofs.States.{sealed_seen}
use Rattle.heap_model.specs.Core.{Core, Ground, ground, all_words, undo_with}
use Rattle.heap_spaces.specs.Spaces.{SpacesState}
use Rattle.memory_laws.specs.CoreMemory.{IsMemory, kept_of}
use Rattle.memory_laws.proofs.Step.Appended.{spaces_are}
use Rattle.txn_table.specs.Table.{TableState, transaction_of}
use Rattle.heap_engine.specs.declared.engine.Engine.{Engine}
use Rattle.heap_engine.specs.Reserve.{undo_if}
use Rattle.heap_engine.specs.EngineState.{memory, without_writes, committed}

-- of a session's transaction its writes are kept
undo_kept : (g : Ground) (s : State) (g0 : Graph) (a : Account) (o : Option Transaction) → g.state ≡ Some s → undo_if (kept_of g g0 a o) ≡ session_undo (undo_of s) o
undo_kept g s g0 a None is = refl
undo_kept g s g0 a (Some t) is = ap (λ (o : Option State). undo_with o t.number) is

-- so that what is taken back of the sessions in memory is what their transactions wrote
taken_same : (table : TableState) (undo : ℕ → List UndoEntry) (a : Account) → ((s : ℕ) → undo_if (transaction_of table s) ≡ session_undo undo (a.active s)) → (ss now : List ℕ)
    → without_writes table now ss ≡ taken_by undo a ss now
taken_same table undo a same [] now = refl
taken_same table undo a same (s ∷ ss) now =
    taken_same table undo a same ss (taken_back (undo_if (transaction_of table s)) now) ∙ ap (λ (us : List UndoEntry). taken_by undo a ss (taken_back us now)) (same s)

-- what is in memory without it
memory_committed : (c : Core) (w : Engine) → (valid : IsValid c) → RunsLocked c.g0 c.first c.history → IsMemory (memory w) (account c.history) c → committed w ≡ all_taken_back valid.behind (all_words c)
memory_committed c w valid runs is =
    let a = account c.history in
    let undo = undo_of valid.behind in
    taken_same w.table undo a (λ s. ap undo_if (is.sessions.transactions s) ∙ undo_kept (ground c) valid.behind c.g0 a (a.active s) valid.told.reached) sessions (memory w).words
    ∙ ap (taken_by undo a sessions) is.words
    ∙ committed_by_session a c valid (two_phase_ordered c.g0 c.history runs.plain runs.two_phase)

-- the names of a core's objects, those that remain in the space that a collection empties with them, by their addresses
abbrev pub names_of : Core → ℕ → Id
names_of c = name_at (c.places ++ c.remaining)

-- the graph of the sealed transactions is seen in it
pub memory_seen : (c : Core) (w : Engine) → IsValid c → RunsLocked c.g0 c.first c.history → IsMemory (memory w) (account c.history) c
    → IsSeenAs (names_of c) (committed w) (memory w).spaces.base (serial c.g0 (sealed c.history))
memory_seen c w valid runs is =
    let told = valid.told in
    let g = serial c.g0 (sealed c.history) in
    let heap : IsHeap valid.behind c.places c.remaining (all_words c) = record { spaced = told.heap.spaced; long = told.heap.long; laid = told.heap.laid } in
    let seen = sealed_seen valid.behind c.places c.remaining (all_words c) (names_of c) heap told.backed told.stands (heap_names heap) in
    let here : valid.behind.base ≡ (memory w).spaces.base = ap (λ (x : SpacesState). x.base) (sym (spaces_are (memory w) (memory w) c valid is)) in
    subst (λ (ws : List ℕ). IsSeenAs (names_of c) ws (memory w).spaces.base g) (sym (memory_committed c w valid runs is))
    (subst (λ (base : ℕ). IsSeenAs (names_of c) (all_taken_back valid.behind (all_words c)) base g) here seen)
