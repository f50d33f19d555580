use Rattle.std.proofs.Common.{◌≡◌, ℕ, length, List, Option, Some, sym, ap, ◌∙◌, subst, arith}
use Rattle.std.specs.Prelude.{IsSome, IfSome}
use Rattle.gated_log.specs.LogState.{log_room, log_used}
use Rattle.log_machine.specs.Effect.{EachWritesBelow}
use Rattle.log_records.specs.declared.Record.{Record}
use Rattle.log_records.specs.Record.{spellings}
use Rattle.logged_pages.specs.State.{log_of, pages_in_memory}
use Rattle.txn_table.specs.Table.{TransactionState, transaction_of}
use Rattle.volatile_area.specs.Area.{AreaState}
use Rattle.sealing.specs.declared.sealing.Sealing.{Sealing}
use Rattle.heap_memory.specs.Refusals.{sealing_records}
use Rattle.heap_engine.specs.declared.engine.Engine.{Engine}
use Rattle.heap_engine.specs.Seal.{IsFound}
use Rattle.heap_engine.specs.EngineState.{memory}
use Rattle.heap_engine.proofs.Tables.{there, told, kept_own}
use Rattle.heap_engine.proofs.Found.{map_ok, records_are, fields_inside, objects_there, objects_ascend, records_below, records_few}
use Rattle.heap_engine.proofs.engine.Engine.seal_records.Goals as goal

found : (s : Engine) (session : ℕ) (x : Sealing) (area : AreaState) → IsSome (transaction_of s.table session) → IfSome (transaction_of s.table session) (λ t. IsFound (memory s) t x)
    → IfSome (transaction_of s.table session) (λ t. area ≡ t.area)
    → (t : TransactionState) × (transaction_of s.table session ≡ Some t) × IsFound (memory s) t x × (area ≡ t.area)
found s session x area active is ea =
    let o = transaction_of s.table session in
    let t = there o active in
    (t.0, t.1, told o t.0 (λ v. IsFound (memory s) v x) t.1 is, told o t.0 (λ v. area ≡ v.area) t.1 ea)

pub records-requires-clause-inside : goal.records-requires-clause-inside
records-requires-clause-inside c =
    let f = found c.args.self.now c.args.session c.args.sealing.now c.area-area.result.now c.requires.active c.requires.found c.area-area.ensures in
    fields_inside (memory c.args.self.now) f.0 c.args.sealing.now c.as_slice.result.now f.2 c.as_slice.ensures.words (c.args.self.now.sound.each c.args.session f.0 f.1).inside

pub records-requires-clause-there : goal.records-requires-clause-there
records-requires-clause-there c = let f = found c.args.self.now c.args.session c.args.sealing.now c.area-area.result.now c.requires.active c.requires.found c.area-area.ensures in objects_there (memory c.args.self.now) f.0 c.args.sealing.now c.area-area.result.now f.2 f.3

pub records-requires-clause-ascend : goal.records-requires-clause-ascend
records-requires-clause-ascend c = let f = found c.args.self.now c.args.session c.args.sealing.now c.area-area.result.now c.requires.active c.requires.found c.area-area.ensures in objects_ascend (memory c.args.self.now) f.0 c.args.sealing.now f.2

pub returns-clause-records : goal.returns-clause-records
returns-clause-records c =
    let s = c.args.self.now in
    let f = found c.args.self.now c.args.session c.args.sealing.now c.area-area.result.now c.requires.active c.requires.found c.area-area.ensures in
    let same = records_are (memory s) f.0 c.args.sealing.now c.area-area.result.now c.as_slice.result.now c.next_free-address.result f.2 f.3 c.as_slice.ensures.words c.next_free-address.ensures.address in
    map_ok c.records.result _ _ (λ records is. subst (λ (o : Option TransactionState). IfSome o (λ t. records.items ≡ sealing_records (memory s) t)) (sym f.1) (is ∙ same)) c.records.ensures

pub returns-clause-inside : goal.returns-clause-inside
returns-clause-inside c =
    let s = c.args.self.now in
    let f = found c.args.self.now c.args.session c.args.sealing.now c.area-area.result.now c.requires.active c.requires.found c.area-area.ensures in
    let same = records_are (memory s) f.0 c.args.sealing.now c.area-area.result.now c.as_slice.result.now c.next_free-address.result f.2 f.3 c.as_slice.ensures.words c.next_free-address.ensures.address in
    let all = records_below (memory s) f.0 c.args.sealing.now f.2 c.next_free-address.ensures.sound s.sized c.requires.room (c.args.self.now.sound.each c.args.session f.0 f.1).inside in
    map_ok c.records.result _ (λ records. EachWritesBelow (length (pages_in_memory s.pages).words) records.items) (λ records is. subst (λ (rs : List Record). EachWritesBelow (length (pages_in_memory s.pages).words) rs) (sym (is ∙ same)) all) c.records.ensures

pub returns-clause-few : goal.returns-clause-few
returns-clause-few c =
    let s = c.args.self.now in
    let f = found c.args.self.now c.args.session c.args.sealing.now c.area-area.result.now c.requires.active c.requires.found c.area-area.ensures in
    let same = records_are (memory s) f.0 c.args.sealing.now c.area-area.result.now c.as_slice.result.now c.next_free-address.result f.2 f.3 c.as_slice.ensures.words c.next_free-address.ensures.address in
    let few = records_few (memory s) f.0 c.args.sealing.now (log_used (log_of s.pages)) (log_room (log_of s.pages)) f.2 c.next_free-address.ensures.sound c.requires.room (omega (arith, s.room, kept_own s.table (length (pages_in_memory s.pages).words) s.reserved s.sealed c.args.session f.0 s.sound f.1)) (log_of s.pages).small in
    map_ok c.records.result _ _ (λ records is. omega (arith, few, ap (λ (rs : List Record). length (spellings rs)) (is ∙ same))) c.records.ensures
