-- Laws of a log in memory, and of its bytes: they hold one list of batches, or break off at one offset.
use Rattle.std.specs.Prelude.{◌≡◌, ℕ, ◌+◌, ◌^◌, ◌<◌, List, [], ◌∷◌, ◌++◌, length, take, drop, get_or, refl}
use Rattle.std.proofs.Common.{sym, ap, subst, ◌∙◌, arith, append_assoc, length-append}
use Rattle.std.proofs.lemmas.List.{take_at, drop_at}
use Rattle.std.specs.List.{AllByRecursion}
use Rattle.log_records.specs.declared.Record.{Record}
use Rattle.log_records.specs.Record.{spellings, IsRecord}
use Rattle.log_records.proofs.RecordLaws.{one_number, one_list}
use Rattle.gated_log.specs.declared.log.Log.{Log}
use Rattle.gated_log.specs.Log.{batch, batches_bytes, records_of, HoldsBatches, HasBatch, BreaksAt}
use Rattle.gated_log.specs.LogState.{buffer_size, Keeps}

-- how many bytes the buffer has if these records are pending
pub buffer_size-Keeps : (log : Log) (batches : List (List Record)) (pending : List Record) → Keeps log batches pending → buffer_size log ≡ 4 + length (spellings pending)
buffer_size-Keeps log batches pending keeps =
    log.buffer.ok.0 ∙ ap length keeps.items ∙ length-append keeps.head (spellings pending) ∙ ap (λ (k : ℕ). k + length (spellings pending)) keeps.four

-- records in front of others are records
pub good_front : (records more : List Record) → AllByRecursion IsRecord (records ++ more) → AllByRecursion IsRecord records
good_front [] more good = tt
good_front (r ∷ rs) more good = (good.0, good_front rs more good.1)

-- so are those after
pub good_behind : (records more : List Record) → AllByRecursion IsRecord (records ++ more) → AllByRecursion IsRecord more
good_behind [] more good = good
good_behind (r ∷ rs) more good = good_behind rs more good.1

-- bytes begin with one batch
pub one_batch : (first second : List Record) (more rest : List ℕ) → AllByRecursion IsRecord first → AllByRecursion IsRecord second → length (batch first ++ more) < 2 ^ 32
    → batch first ++ more ≡ batch second ++ rest → (first ≡ second) × (more ≡ rest)
one_batch first second more rest good good' short same =
    let size = length-append (spellings first) more in
    let size' = length-append (spellings second) rest in
    let all : length (batch first ++ more) ≡ length (batch second ++ rest) = ap (λ (l : List ℕ). length l) same in
    let lengths = one_number 4 (length (spellings first)) (length (spellings second)) (spellings first ++ more) (spellings second ++ rest) (omega (arith, short, size)) (omega (arith, short, all, size')) (ap (λ (l : List ℕ). drop 1 l) same) in
    let n : length (spellings second) ≡ length (spellings first) = sym lengths.0 in
    let records : spellings first ≡ spellings second =
    sym (take_at (spellings first) more (length (spellings first)) refl) ∙ ap (λ (l : List ℕ). take (length (spellings first)) l) lengths.1 ∙ take_at (spellings second) rest (length (spellings first)) n in
    let behind : more ≡ rest =
    sym (drop_at (spellings first) more (length (spellings first)) refl) ∙ ap (λ (l : List ℕ). drop (length (spellings first)) l) lengths.1 ∙ drop_at (spellings second) rest (length (spellings first)) n in
    (one_list first second good good' records, behind)

-- bytes begin with one list of whole batches, after which no other begins
pub one_front : (first second : List (List Record)) (log x y : List ℕ) → length log < 2 ^ 32 → log ≡ batches_bytes first ++ x → log ≡ batches_bytes second ++ y
    → AllByRecursion IsRecord (records_of first) → AllByRecursion IsRecord (records_of second) → 0 < length x → 0 < length y → ¬ HasBatch x → ¬ HasBatch y → (first ≡ second) × (x ≡ y)
one_front [] [] log x y short is is' good good' some some' none none' = (refl, sym is ∙ is')
one_front [] (b ∷ bs) log x y short is is' good good' some some' none none' =
    absurd (none (record {
      records = b;
      behind = batches_bytes bs ++ y;
      front = sym is ∙ is' ∙ append_assoc (batch b) (batches_bytes bs) y;
      next_gate = omega (arith, some', length-append (batches_bytes bs) y);
      good = good_front b (records_of bs) good';
    }))
one_front (a ∷ rest) [] log x y short is is' good good' some some' none none' =
    absurd (none' (record {
      records = a;
      behind = batches_bytes rest ++ x;
      front = sym is' ∙ is ∙ append_assoc (batch a) (batches_bytes rest) x;
      next_gate = omega (arith, some, length-append (batches_bytes rest) x);
      good = good_front a (records_of rest) good;
    }))
one_front (a ∷ rest) (b ∷ bs) log x y short is is' good good' some some' none none' =
    let left = is ∙ append_assoc (batch a) (batches_bytes rest) x in
    let right = is' ∙ append_assoc (batch b) (batches_bytes bs) y in
    let below : length (batch a ++ (batches_bytes rest ++ x)) < 2 ^ 32 = subst (λ (l : List ℕ). length l < 2 ^ 32) left short in
    let one = one_batch a b (batches_bytes rest ++ x) (batches_bytes bs ++ y) (good_front a (records_of rest) good) (good_front b (records_of bs) good') below (sym left ∙ right) in
    let less : length (batches_bytes rest ++ x) < 2 ^ 32 = omega (arith, below, length-append (batch a) (batches_bytes rest ++ x)) in
    let more = one_front rest bs (batches_bytes rest ++ x) x y less refl one.1 (good_behind a (records_of rest) good) (good_behind b (records_of bs) good') some some' none none' in
    (ap (λ (r : List Record). r ∷ rest) one.0 ∙ ap (λ (l : List (List Record)). b ∷ l) more.0, more.1)

-- no batch begins at a closed gate
pub closed_none : (log : List ℕ) (batches : List (List Record)) → (holds : HoldsBatches log batches) → ¬ HasBatch (holds.gate ∷ holds.rest)
closed_none log batches holds has = holds.shut (ap (λ (l : List ℕ). get_or l 0 0) has.front)

module _ (log : List ℕ) (short : length log < 2 ^ 32) where
  -- a log's bytes hold one list of batches
  pub holds_once : (first second : List (List Record)) → AllByRecursion IsRecord (records_of first) → AllByRecursion IsRecord (records_of second) → HoldsBatches log first → HoldsBatches log second → first ≡ second
  holds_once first second good good' holds holds' =
      (one_front first second log (holds.gate ∷ holds.rest) (holds'.gate ∷ holds'.rest) short holds.bytes holds'.bytes good good' (omega arith) (omega arith) (closed_none log first holds) (closed_none log second holds')).0

  -- a gate that is open is there
  pub some_open : (rest : List ℕ) → get_or rest 0 0 ≡ 1 → 0 < length rest
  some_open [] is_open = absurd (omega (arith, is_open))
  some_open (gate ∷ rest) is_open = omega arith

  -- where they hold batches they break off nowhere
  pub holds_or_breaks : (batches : List (List Record)) (offset : ℕ) → AllByRecursion IsRecord (records_of batches) → HoldsBatches log batches → ¬ BreaksAt log offset
  holds_or_breaks batches offset good holds breaks =
      let one = one_front batches breaks.batches log (holds.gate ∷ holds.rest) breaks.rest short holds.bytes breaks.bytes good breaks.good (omega arith) (some_open breaks.rest breaks.is_open) (closed_none log batches holds) breaks.none in
      holds.shut (ap (λ (l : List ℕ). get_or l 0 0) one.1 ∙ breaks.is_open)

  -- they break off at one offset
  pub breaks_once : (first second : ℕ) → BreaksAt log first → BreaksAt log second → first ≡ second
  breaks_once first second breaks breaks' =
      let one = one_front breaks.batches breaks'.batches log breaks.rest breaks'.rest short breaks.bytes breaks'.bytes breaks.good breaks'.good (some_open breaks.rest breaks.is_open) (some_open breaks'.rest breaks'.is_open) breaks.none breaks'.none in
      breaks.at ∙ ap (λ (l : List (List Record)). length (batches_bytes l)) one.0 ∙ sym breaks'.at
