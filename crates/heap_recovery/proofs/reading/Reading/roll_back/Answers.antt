use Rattle.std.proofs.Common.{◌≡◌, ℕ, ◌+◌, List, length, ap, ◌∙◌, subst, arith}
use Rattle.std.specs.Prelude.{fold}
use Rattle.gated_log.specs.LogState.{log_count}
use Rattle.log_records.specs.declared.Record.{Record}
use Rattle.log_machine.proofs.AbortLaws.{rollback_words}
use Rattle.log_machine.specs.Machine.{State, put_record, losing, rollback, all_taken_back}
use Rattle.log_machine.proofs.WordsLaws.{length-each_taken_back}
use Rattle.page_redo.specs.Pages.{Pages}
use Rattle.page_redo.specs.Redo.{EachLacks, redo_all}
use Rattle.page_redo.proofs.RedoLaws.{redo_all-words}
use Rattle.page_cache.specs.CacheState.{cached}
use Rattle.heap_recovery.proofs.Opening.{roll_fits}
use Rattle.heap_recovery.proofs.reading.Reading.roll_back.Goals as goal

pub append_all-requires : goal.append_all-requires
append_all-requires c = roll_fits c.args.self.now.log c.args.self.now.state c.deref.result.now c.requires.room (c.deref.ensures.value ∙ c.in_ok-records.ensures.records)

-- the records of a rollback take back what was written, where each page lacks them
words_back : (state : State) (old now : Pages) (first : ℕ) (records : List Record) → EachLacks first old → records ≡ rollback state → now ≡ redo_all first old records → now.words ≡ all_taken_back state old.words
words_back state old now first records lacking is redone =
    ap (λ (pages : Pages). pages.words) redone
    ∙ redo_all-words first old records lacking
    ∙ ap (λ (rs : List Record). fold put_record old.words rs) is
    ∙ rollback_words state old.words

pub returns-clause-words : goal.returns-clause-words
returns-clause-words c =
    let old = cached c.args.self.now.cache in
    let first : log_count c.args.self.now.log + 1 ≡ c.next_lsn-first.result = omega (arith, c.next_lsn-first.ensures) in
    let lacking = subst (λ (n : ℕ). EachLacks n old) first c.requires.next in
    words_back c.args.self.now.state old (cached c.redo_all.new.self) c.next_lsn-first.result c.deref-2.result.now lacking (c.deref-2.ensures.value ∙ c.in_ok-records.ensures.records) c.redo_all.ensures.redone

pub invariant_of-self-2-clause-sized : goal.invariant_of-self-2-clause-sized
invariant_of-self-2-clause-sized c =
    let old = cached c.args.self.now.cache in
    let state = c.args.self.now.state in
    let first : log_count c.args.self.now.log + 1 ≡ c.next_lsn-first.result = omega (arith, c.next_lsn-first.ensures) in
    let lacking = subst (λ (n : ℕ). EachLacks n old) first c.requires.next in
    let now = words_back state old (cached c.redo_all.new.self) c.next_lsn-first.result c.deref-2.result.now lacking (c.deref-2.ensures.value ∙ c.in_ok-records.ensures.records) c.redo_all.ensures.redone in
    ap length now ∙ length-each_taken_back (losing state) old.words ∙ c.args.self.now.sized

pub returns-clause-pages : goal.returns-clause-pages
returns-clause-pages c =
    let old = cached c.args.self.now.cache in
    let state = c.args.self.now.state in
    let first = c.next_lsn-first.result in
    let is : first ≡ log_count c.args.self.now.log + 1 = omega (arith, c.next_lsn-first.ensures) in
    let records : c.deref-2.result.now ≡ rollback state = c.deref-2.ensures.value ∙ c.in_ok-records.ensures.records in
    c.redo_all.ensures.redone ∙ ap (redo_all first old) records ∙ ap (λ (n : ℕ). redo_all n old (rollback state)) is
