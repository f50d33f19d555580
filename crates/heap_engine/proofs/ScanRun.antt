-- What the records of a scan do that follow one another.
use Rattle.std.proofs.Common.{◌≡◌, ℕ, ◌+◌, ◌*◌, ◌<◌, ◌≤◌, ◌==◌, ◌||◌, ◌&&◌, Bool, true, false, not, List, [], ◌∷◌, length, None, Some, nat_le, nat_lt, refl, sym, ap, ◌∙◌, subst, arith, length-append}
use Rattle.std.specs.Prelude.{slice_index, if◌then◌else◌}
use Rattle.std.specs.List.{AllByRecursion}
use Rattle.std.specs.Ordering.{nat_cmp}
use Rattle.std.specs.FinSet.{FinSet, contains, insert}
use Rattle.std.proofs.lemmas.Bool.{false≢true, ltb-true}
use Rattle.std.proofs.lemmas.List.Sums.{sum_by-cons}
use Rattle.heap_spaces.specs.declared.collection.CopiedObject.{CopiedObject}
use Rattle.heap_spaces.specs.Collection.{Collection}
use Rattle.log_records.specs.declared.copies.ObjectCopy.{ObjectCopy}
use Rattle.log_records.specs.declared.Record.{Record}
use Rattle.log_records.specs.declared.Record.TheVariants.{Copy, Scan}
use Rattle.log_records.specs.Record.{spelling, spellings}
use Rattle.log_records.proofs.RecordLaws.{length-word_bytes, length-writes}
use Rattle.log_machine.specs.Collecting.{can_move, can_hold, with_moved, with_copy, copied_while as copied_one, collecting_after}
use Rattle.log_machine.specs.Effect.{EachWritesBelow}
use Rattle.log_machine.specs.Machine.{State, words_in}
use Rattle.log_machine.specs.Sound.{IsConsistent}
use Rattle.log_machine.proofs.CollectingWrites.{copy_writes_below, scan_writes_below}
use Rattle.log_machine.proofs.CopyRows.{can_copy_told, within, consistent_copy}
use Rattle.log_machine.proofs.ListLaws.{AllByRecursion-map}
use Rattle.page_scanner.specs.Passing.{collecting_after_all}
use Rattle.page_scanner.proofs.Steps.{two_steps, tested}
use Rattle.heap_memory.specs.Collecting.{copied_in, words_copied}
use Rattle.heap_engine.specs.Barrier.{is_page_scan}
use Rattle.heap_engine.proofs.TakenBack.{inserted_at}

-- a copy stands from one address on and below another
abbrev pub StandsIn : ℕ → ℕ → CopiedObject → Type 0
StandsIn low high c = (low ≤ c.to) × (c.to < high)

-- What the records of a scan do from a state on in which this collection runs.
pub record IsRun (s : State) (k : Collection) (records : List Record) : Type 0 where
  pub kept : k.copied + words_copied records ≤ k.used
  pub fresh : AllByRecursion (λ (c : CopiedObject). contains k.moved c.from ≡ false) (copied_in records)
  pub stand : AllByRecursion (StandsIn (s.base + s.used) (s.base + s.used + words_copied records)) (copied_in records)
  pub below : EachWritesBelow (words_in s.pages) records
  pub bytes : length (spellings records) ≤ 13 * words_copied records + 786439

pub both_parts : (a b : Bool) → (a && b) ≡ true → (a ≡ true) × (b ≡ true)
both_parts true b is = (refl, is)
both_parts false b is = absurd (cc is)

not_so : (b : Bool) → not b ≡ true → b ≡ false
not_so true is = absurd (cc is)
not_so false is = refl

-- what is not in a set with one more is not in the set
not_before : (s : FinSet nat_cmp) (at q : ℕ) → contains (insert s at) q ≡ false → contains s q ≡ false
not_before s at q none = cases (at == q) (contains s q) refl (sym (inserted_at s at q) ∙ none)
  where
    cases : (a b : Bool) → contains s q ≡ b → (a || b) ≡ false → contains s q ≡ false
    cases true b is none = absurd (false≢true (sym none))
    cases false b is none = is ∙ none

pub not_moved : (s : State) (k : Collection) (from to size : ℕ) → (can_move s k from size && can_hold s to size) ≡ true → contains k.moved from ≡ false
not_moved s k from to size can = not_so (contains k.moved from) (both_parts _ _ (both_parts _ _ can).0).1

pub more_words : (from to : ℕ) (words : List ℕ) (records : List Record) → words_copied (Copy from to words ∷ records) ≡ length words + words_copied records
more_words from to words records =
    sum_by-cons (λ (c : CopiedObject). c.words) (record { from = from; to = to; header = slice_index words 0; words = length words }) (copied_in records)

copy_bytes : (from to : ℕ) (words : List ℕ) → length (spelling (Copy from to words)) ≡ 9 + 8 * length words
copy_bytes from to words = omega (arith, length-word_bytes words)

scan_bytes : (page : ℕ) (writes : List (ℕ × ℕ)) → length (spelling (Scan page writes)) ≡ 7 + 12 * length writes
scan_bytes page writes = omega (arith, length-writes writes)

-- The scan, after all copies.
run_scan : (s n : State) (k : Collection) (page scanned : ℕ) (writes : List (ℕ × ℕ)) → IsConsistent s → s.collection ≡ Some k → length writes < 65536
    → collecting_after_all s (Scan scanned writes ∷ []) ≡ Some n → IsRun s k (Scan scanned writes ∷ [])
run_scan s n k page scanned writes consistent own few passes =
    let step = two_steps (λ next. collecting_after_all next []) (collecting_after s (Scan scanned writes)) n passes in
    let size = scan_bytes scanned writes in
    record {
      kept = omega (arith, (within s k consistent.spaced own).copied);
      fresh = tt;
      stand = tt;
      below = (scan_writes_below s step.0 scanned writes consistent step.1, tt);
      bytes = omega (arith, size, few, length-append (spelling (Scan scanned writes)) []);
    }

-- One copy, and the records after it.
run_copy : (s : State) (k : Collection) (from to : ℕ) (words : List ℕ) (records : List Record) → IsConsistent s → s.collection ≡ Some k
    → (can_move s k from (length words) && can_hold s to (length words)) ≡ true
    → IsRun (with_copy s k (record { from = from; to = to; words = words })) (with_moved k (record { from = from; to = to; words = words })) records → IsRun s k (Copy from to words ∷ records)
run_copy s k from to words records consistent own can rest =
    let copy : ObjectCopy = record { from = from; to = to; words = words } in
    let told = can_copy_told s k copy can in
    let fresh : contains k.moved from ≡ false = not_moved s k from to (length words) can in
    let more = more_words from to words records in
    let follows : copied_one s copy s.collection ≡ Some (with_copy s k copy) = ap (copied_one s copy) own ∙ ap (λ t. if t then Some (with_copy s k copy) else None) can in
    let front = told.front in
    let at = told.at in
    record {
      kept = omega (arith, rest.kept, more);
      fresh = (fresh, AllByRecursion-map (λ (c : CopiedObject). contains (insert k.moved from) c.from ≡ false) (λ (c : CopiedObject). contains k.moved c.from ≡ false) (copied_in records) (λ c. not_before k.moved from c.from) rest.fresh);
      stand = (
        (omega arith, omega (arith, more)),
        AllByRecursion-map (StandsIn (s.base + (s.used + length words)) (s.base + (s.used + length words) + words_copied records))
            (StandsIn (s.base + s.used) (s.base + s.used + words_copied (Copy from to words ∷ records))) (copied_in records) (λ c stands. (omega (arith, stands.0), omega (arith, stands.1, more))) rest.stand,
      );
      below = (copy_writes_below s (with_copy s k copy) from to words consistent follows, rest.below);
      bytes = omega (arith, rest.bytes, more, copy_bytes from to words, length-append (spelling (Copy from to words)) (spellings records));
    }

pub scan_run : (s n : State) (k : Collection) (page : ℕ) (records : List Record) → IsConsistent s → s.collection ≡ Some k → is_page_scan page records ≡ true → collecting_after_all s records ≡ Some n → IsRun s k records
scan_run s n k page [] consistent own is passes = absurd (cc is)
scan_run s n k page (Scan scanned writes ∷ []) consistent own is passes =
    run_scan s n k page scanned writes consistent own (ltb-true (length writes) 65536 (both_parts (scanned == page) (nat_lt (length writes) 65536) is).1) passes
scan_run s n k page (Copy from to words ∷ records) consistent own is passes =
    let copy : ObjectCopy = record { from = from; to = to; words = words } in
    let step = two_steps (λ next. collecting_after_all next records) (collecting_after s (Copy from to words)) n passes in
    let can = tested (can_move s k from (length words) && can_hold s to (length words)) (with_copy s k copy) step.0 (sym (ap (copied_one s copy) own) ∙ step.1) in
    let told = can_copy_told s k copy can.0 in
    let rest = subst (λ (m : State). collecting_after_all m records ≡ Some n) (sym can.1) step.2 in
    run_copy s k from to words records consistent own can.0
    (scan_run (with_copy s k copy) n (with_moved k copy) page records (consistent_copy s k copy consistent own told) refl (both_parts (nat_le (length words) 512) (is_page_scan page records) is).1 rest)
scan_run s n k page (rec ∷ records) consistent own is passes = absurd (cc is)
