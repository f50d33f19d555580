-- How a reader of a log continues.
use Rattle.std.proofs.Common.{◌≡◌, ◌≢◌, ℕ, ◌+◌, ◌-◌, ◌^◌, ◌<◌, ◌≤◌, List, [], ◌∷◌, ◌++◌, Option, Some, None, Result, Ok, Err, OnOk, length, vec_len, get_or, take, drop, refl, sym, ◌∙◌, ap, subst, arith, length-append, length-take, length-drop, append_assoc, drop-cons, inl, inr}
use Rattle.std.specs.Prelude.{Bool, IsTrue, min}
use Rattle.std.specs.Int.{w32, from_le_bytes, to_le_bytes}
use Rattle.std.specs.List.{AllByRecursion}
use Rattle.std.proofs.lemmas.Bool.{cases_lt}
use Rattle.std.proofs.lemmas.List.{append-nil, take_at, drop-drop, drop-take, take-take, take-append-drop, take-append-le, drop-append-le, get_or_append_left, get_or-drop, get_or-take, get_or_past, length-take-le}
use Rattle.std.proofs.lemmas.Nat.{le_bytes_4}
use Rattle.disk_model.specs.Disk.{part}
use Rattle.log_records.specs.declared.Record.{Record}
use Rattle.log_records.specs.declared.Record.TheVariants.{Update, Base, Fix, Undo, Commit, End, Copy, Scan, Flip, Collected}
use Rattle.log_records.specs.Record.{spelling, spellings, IsRecord, IsObjectWords}
use Rattle.log_records.proofs.RecordLaws.{some_spelling, one_number, one_record, length-word_bytes, length-writes, length-Base}
use Rattle.gated_log.specs.declared.reading.LogReader.{LogReader}
use Rattle.gated_log.specs.Log.{batch, batches_bytes, records_of, HoldsBatches, HasBatch, BreaksAt}
use Rattle.gated_log.specs.Reader.{held, held_size, untaken, begun_bytes, HasRead, HasGiven, HasGivenAll, IsGiven, IsBegun, IsSameReader}
use Rattle.gated_log.proofs.LogBytes.{batches_bytes-push}
use Rattle.gated_log.proofs.LogReading.{good_push, good_append, spellings-push, records_of-push}

-- The window.

-- of two things that an Ok call ensures
pub on_both : {T E : Type 0} (result : Result T E) (P Q R : Type 0) → OnOk result P → OnOk result Q → (P → Q → R) → OnOk result R
on_both (Ok x) P Q R p q both = both p q
on_both (Err e) P Q R p q both = tt

-- a part of a part
part_in : (image : List ℕ) (at n m room : ℕ) → n + m ≤ room → part image (at + n) m ≡ take m (drop n (part image at room))
part_in image at n m room fits =
    let rest : n + (room - n) ≡ room = omega (arith, fits) in
    let cut : drop n (take room (drop at image)) ≡ take (room - n) (drop n (drop at image)) =
    ap (λ (k : ℕ). drop n (take k (drop at image))) (sym rest) ∙ drop-take n (room - n) (drop at image) in
    ap (λ (l : List ℕ). take m l) (sym (drop-drop n at image)) ∙ sym (ap (λ (l : List ℕ). take m l) cut ∙ take-take m (room - n) (drop n (drop at image)) (omega (arith, fits)))

-- what is read after the window is taken off what was not read
pub filled : (log image : List ℕ) (at room next size len len' : ℕ) (front window : List ℕ) → log ≡ part image at room → next + len + size ≤ room → len' ≡ len + size → window ≡ front ++ part image (at + (next + len)) size
    → window ++ drop (next + (len' - 0)) log ≡ front ++ drop (next + len) log
filled log image at room next size len len' front window is fits longer read =
    let piece : part image (at + (next + len)) size ≡ take size (drop (next + len) log) = part_in image at (next + len) size room fits ∙ ap (λ (l : List ℕ). take size (drop (next + len) l)) (sym is) in
    let far : next + (len' - 0) ≡ next + len + size = omega (arith, longer) in
    ap (λ (l : List ℕ). l ++ drop (next + (len' - 0)) log) (read ∙ ap (λ (l : List ℕ). front ++ l) piece)
    ∙ ap (λ (k : ℕ). (front ++ take size (drop (next + len) log)) ++ drop k log) far
    ∙ ap (λ (l : List ℕ). (front ++ take size (drop (next + len) log)) ++ l) (sym (drop-drop size (next + len) log))
    ∙ append_assoc front (take size (drop (next + len) log)) (drop size (drop (next + len) log))
    ∙ ap (λ (l : List ℕ). front ++ l) (take-append-drop size (drop (next + len) log))

-- a reader that has taken more bytes
pub untaken_on : (r new : LogReader) (n : ℕ) (log : List ℕ) → new.window ≡ r.window → new.taken ≡ r.taken + n → new.next ≡ r.next + n → r.taken + n ≤ vec_len r.window → untaken r log ≡ take n (held r) ++ untaken new log
untaken_on r new n log window taken next inside =
    let behind : drop n (held r) ≡ held new = drop-drop n r.taken r.window.items ∙ ap (λ (k : ℕ). drop k r.window.items) (sym taken) ∙ ap (λ w. drop new.taken w.items) (sym window) in
    let size : vec_len new.window ≡ vec_len r.window = ap (λ w. vec_len w) window in
    let far : r.next + held_size r ≡ new.next + held_size new = omega (arith, taken, next, inside, size) in
    ap (λ (k : ℕ). held r ++ drop k log) far
    ∙ ap (λ (l : List ℕ). l ++ drop (new.next + held_size new) log) (sym (take-append-drop n (held r)) ∙ ap (λ (l : List ℕ). take n (held r) ++ l) behind)
    ∙ append_assoc (take n (held r)) (held new) (drop (new.next + held_size new) log)

pub length-held : (r : LogReader) → length (held r) ≡ held_size r
length-held r = length-drop r.taken r.window.items ∙ ap (λ (k : ℕ). k - r.taken) (sym r.window.ok.0)

pub length-untaken : (r : LogReader) (log : List ℕ) → length log ≤ r.room → length (untaken r log) ≤ r.room - r.next
length-untaken r log short = omega (arith, length-append (held r) (drop (r.next + held_size r) log), length-held r, length-drop (r.next + held_size r) log, short, r.read)

-- a modelled disk with the same bytes holds the same log
pub log_still : (log image now : List ℕ) (at room at' room' : ℕ) → log ≡ part image at room → now ≡ image → at' ≡ at → room' ≡ room → log ≡ part now at' room'
log_still log image now at room at' room' is same place size =
    is ∙ ap (λ (l : List ℕ). part l at room) (sym same) ∙ ap (λ (k : ℕ). part now k room) (sym place) ∙ ap (λ (k : ℕ). part now at' k) (sym size)

pub log_short : (log image : List ℕ) (at room : ℕ) → log ≡ part image at room → length log ≤ room
log_short log image at room is = omega (arith, ap (λ (l : List ℕ). length l) is, length-take room (drop at image))

-- the first bytes of what was not taken are those in memory
pub first_held : (r : LogReader) (log : List ℕ) → 1 ≤ held_size r → get_or (untaken r log) 0 0 ≡ get_or (held r) 0 0
first_held r log some = get_or_append_left (held r) (drop (r.next + held_size r) log) 0 0 (omega (arith, some, length-held r))

pub size_held : (r : LogReader) (log : List ℕ) → 5 ≤ held_size r → take 4 (drop 1 (untaken r log)) ≡ take 4 (drop 1 (held r))
size_held r log some =
    let behind = drop (r.next + held_size r) log in
    ap (λ (l : List ℕ). take 4 l) (drop-append-le 1 (held r) behind (omega (arith, some, length-held r)))
    ∙ take-append-le 4 (drop 1 (held r)) behind (omega (arith, some, length-held r, length-drop 1 (held r)))

pub front_held : (r : LogReader) (log : List ℕ) (n : ℕ) → n ≤ held_size r → take n (untaken r log) ≡ take n (held r)
front_held r log n some = take-append-le n (held r) (drop (r.next + held_size r) log) (omega (arith, some, length-held r))

-- the first byte of what was not taken is the same where more was read
pub first_on : (a b : LogReader) (log : List ℕ) (first : ℕ) → untaken b log ≡ untaken a log → 1 ≤ held_size a → get_or a.window.items a.taken 0 ≡ first → get_or (untaken b log) 0 0 ≡ first
first_on a b log first same some is =
    let here : a.taken + 0 ≡ a.taken = omega arith in
    ap (λ (l : List ℕ). get_or l 0 0) same ∙ first_held a log some ∙ get_or-drop a.taken a.window.items 0 0 ∙ ap (λ (k : ℕ). get_or a.window.items k 0) here ∙ is

-- so a gate that is open is so
pub gate_on : (a b : LogReader) (log : List ℕ) → untaken b log ≡ untaken a log → 1 ≤ held_size a → 1 ≤ held_size b → get_or a.window.items a.taken 0 ≡ 1 → get_or (held b) 0 0 ≡ 1
gate_on a b log same some some' is_open = sym (first_held b log some') ∙ first_on a b log 1 same some is_open

-- The bytes of a batch.

-- the four bytes of a length
pub length_bytes : (bytes head : List ℕ) (n : ℕ) → ((i : ℕ) → get_or bytes i 0 < 256) → 5 ≤ length bytes → head ≡ take 5 bytes
    → n ≡ from_le_bytes w32 (get_or head 1 0 ∷ get_or head 2 0 ∷ get_or head 3 0 ∷ get_or head 4 0 ∷ []) → take 4 (drop 1 bytes) ≡ to_le_bytes w32 n
length_bytes bytes head n fits large is_head is =
    sym (le_bytes_4 (take 4 (drop 1 bytes)) n (length-take-le 4 (drop 1 bytes) (omega (arith, length-drop 1 bytes, large))) fit
    (omega (arith, is, same 0 (omega arith), same 1 (omega arith), same 2 (omega arith), same 3 (omega arith))))
  where
    of_head : (i : ℕ) → i < 5 → get_or head i 0 ≡ get_or bytes i 0
    of_head i lt = ap (λ (l : List ℕ). get_or l i 0) is_head ∙ get_or-take 5 bytes i 0 lt

    of_front : (i : ℕ) → i < 4 → get_or (take 4 (drop 1 bytes)) i 0 ≡ get_or bytes (1 + i) 0
    of_front i lt = get_or-take 4 (drop 1 bytes) i 0 lt ∙ get_or-drop 1 bytes i 0

    same : (i : ℕ) → i < 4 → get_or (take 4 (drop 1 bytes)) i 0 ≡ get_or head (1 + i) 0
    same i lt = of_front i lt ∙ sym (of_head (1 + i) (omega arith))

    fit : (i : ℕ) → get_or (take 4 (drop 1 bytes)) i 0 < 256
    fit i = elim (cases_lt i 4) [
      | inl lt ↦ rw (of_front i lt) (fits (1 + i))
      | inr le ↦ rw (get_or_past (take 4 (drop 1 bytes)) i 0 (omega (arith, length-take 4 (drop 1 bytes)))) (omega arith)
    ]

-- an open gate and those bytes are the front of a batch
pub head_is : (bytes : List ℕ) (n : ℕ) → get_or bytes 0 0 ≡ 1 → take 4 (drop 1 bytes) ≡ to_le_bytes w32 n → 5 ≤ length bytes → bytes ≡ (1 ∷ to_le_bytes w32 n) ++ drop 5 bytes
head_is bytes n is_open size large =
    drop-cons bytes 0 0 (omega (arith, large))
    ∙ ap (λ (b : ℕ). b ∷ drop 1 bytes) is_open
    ∙ ap (λ (l : List ℕ). 1 ∷ l) (sym (take-append-drop 4 (drop 1 bytes)) ∙ ap (λ (l : List ℕ). l ++ drop 4 (drop 1 bytes)) size ∙ ap (λ (l : List ℕ). to_le_bytes w32 n ++ l) (drop-drop 4 1 bytes))

-- a whole batch has its length, and a byte after it
pub batch_room : (bytes : List ℕ) → (has : HasBatch bytes) → 6 + length (spellings has.records) ≤ length bytes
batch_room bytes has =
    let n = length (spellings has.records) in
    let size : length (batch has.records) ≡ 5 + n = omega (arith, length-append (to_le_bytes w32 n) (spellings has.records)) in
    omega (arith, ap (λ (l : List ℕ). length l) has.front, length-append (batch has.records) has.behind, size, has.next_gate)

pub batch_size : (bytes : List ℕ) (n : ℕ) → take 4 (drop 1 bytes) ≡ to_le_bytes w32 n → n < 2 ^ 32 → length bytes < 2 ^ 32 → HasBatch bytes → 6 + n ≤ length bytes
batch_size bytes n size small short has =
    let m = length (spellings has.records) in
    let room = batch_room bytes has in
    let front : take 4 (drop 1 bytes) ≡ to_le_bytes w32 m = ap (λ (l : List ℕ). take 4 (drop 1 l)) has.front in
    let same : to_le_bytes w32 n ++ [] ≡ to_le_bytes w32 m ++ [] = ap (λ (l : List ℕ). l ++ []) (sym size ∙ front) in
    let one = one_number 4 n m [] [] (omega (arith, small)) (omega (arith, room, short)) same in
    omega (arith, room, one.0)

-- the longest records that are no lists are those of the largest objects
object_short : (words : List ℕ) → IsObjectWords words → length words ≤ 512
object_short [] good = absurd good
object_short (header ∷ []) good = absurd good
object_short (header ∷ birth ∷ fields) good = omega (arith, good.few)

pub record_short : (rec : Record) → IsRecord rec → get_or (spelling rec) 0 0 ≢ 8 → get_or (spelling rec) 0 0 ≢ 9 → length (spelling rec) ≤ 4105
record_short (Update t object field was word) good no_scan no_flip = omega arith
record_short (Base t address words) good no_scan no_flip = omega (arith, length-Base t address words, object_short words good.object)
record_short (Fix t object field word) good no_scan no_flip = omega arith
record_short (Undo t object field word) good no_scan no_flip = omega arith
record_short (Commit t) good no_scan no_flip = omega arith
record_short (End t) good no_scan no_flip = omega arith
record_short (Copy from to words) good no_scan no_flip = omega (arith, length-word_bytes words, object_short words good.object)
record_short (Scan page writes) good no_scan no_flip = absurd (no_scan refl)
record_short (Flip copies) good no_scan no_flip = absurd (no_flip refl)
record_short Collected good no_scan no_flip = omega arith

-- a scan has few writes
pub scan_short : (rec : Record) → IsRecord rec → get_or (spelling rec) 0 0 ≡ 8 → length (spelling rec) ≤ 786427
scan_short (Update t object field was word) good is = absurd (omega (arith, is))
scan_short (Base t address words) good is = absurd (omega (arith, is))
scan_short (Fix t object field word) good is = absurd (omega (arith, is))
scan_short (Undo t object field word) good is = absurd (omega (arith, is))
scan_short (Commit t) good is = absurd (omega (arith, is))
scan_short (End t) good is = absurd (omega (arith, is))
scan_short (Copy from to words) good is = absurd (omega (arith, is))
scan_short (Scan page writes) good is = omega (arith, length-writes writes, good.few)
scan_short (Flip copies) good is = absurd (omega (arith, is))
scan_short Collected good is = absurd (omega (arith, is))

-- What is spelled as these records begin, and as others do that take no fewer bytes, continues with those that are left of the others.
pub record LeftOf (first second : List Record) (x y : List ℕ) : Type 0 where
  pub left : List Record
  pub good : AllByRecursion IsRecord left
  pub size : length (spellings second) ≡ length (spellings first) + length (spellings left)
  pub rest : x ≡ spellings left ++ y

left_of : (first second : List Record) (x y : List ℕ) → AllByRecursion IsRecord first → AllByRecursion IsRecord second → spellings first ++ x ≡ spellings second ++ y → length (spellings first) ≤ length (spellings second) → LeftOf first second x y
left_of [] second x y good good' same le = record { left = second; good = good'; size = omega arith; rest = same }
left_of (a ∷ first) [] x y good good' same le = absurd (omega (arith, le, length-append (spelling a) (spellings first), some_spelling a))
left_of (a ∷ first) (b ∷ second) x y good good' same le =
    let one = one_record a b (spellings first ++ x) (spellings second ++ y) good.0 good'.0 (sym (append_assoc (spelling a) (spellings first) x) ∙ same ∙ append_assoc (spelling b) (spellings second) y) in
    let alike : length (spelling a) ≡ length (spelling b) = ap (λ (r : Record). length (spelling r)) one.0 in
    let a_size = length-append (spelling a) (spellings first) in
    let b_size = length-append (spelling b) (spellings second) in
    let more = left_of first second x y good.1 good'.1 one.1 (omega (arith, le, alike, a_size, b_size)) in
    record { left = more.left; good = more.good; size = omega (arith, more.size, alike, a_size, b_size); rest = more.rest }

-- bytes that continue with some record begin with it, as far as they are cut after it
begins_with : (r : Record) (behind bytes : List ℕ) (most : ℕ) → bytes ≡ spelling r ++ behind → length (spelling r) ≤ most → take most bytes ≡ spelling r ++ drop (length (spelling r)) (take most bytes)
begins_with r behind bytes most is le =
    let k = length (spelling r) in
    let front : take k (take most bytes) ≡ spelling r = take-take k most bytes le ∙ ap (λ (l : List ℕ). take k l) is ∙ take_at (spelling r) behind k refl in
    sym (take-append-drop k (take most bytes)) ∙ ap (λ (l : List ℕ). l ++ drop k (take most bytes)) front

-- Where no record begins, there is no whole batch.
pub no_batch : (n left most : ℕ) (begun : List Record) (rest front : List ℕ) (found : Option (Record × ℕ)) → AllByRecursion IsRecord begun → n ≡ length (spellings begun) + left → 0 < left → length (begun_bytes n begun ++ rest) < 2 ^ 32
    → front ≡ take most rest → ((rec : Record) → IsRecord rec → get_or (spelling rec) 0 0 ≡ get_or rest 0 0 → length (spelling rec) ≤ left → length (spelling rec) ≤ most) → ((rec : Record) (more : List ℕ) → IsRecord rec → front ≡ spelling rec ++ more → found ≡ Some (rec, length (spelling rec))) → found ≡ None → n < 2 ^ 32 → ¬ HasBatch (begun_bytes n begun ++ rest)
no_batch n left most begun rest front found good size some short cut enough only none small has =
    let m = length (spellings has.records) in
    let room = batch_room (begun_bytes n begun ++ rest) has in
    let one = one_number 4 n m (spellings begun ++ rest) (spellings has.records ++ has.behind) (omega (arith, small)) (omega (arith, room, short)) (ap (λ (l : List ℕ). drop 1 l) has.front) in
    let rest_of = left_of begun has.records rest has.behind good has.good one.1 (omega (arith, one.0, size)) in
    at_left rest_of.left rest_of.good (omega (arith, rest_of.size, one.0, size)) rest_of.rest
  where
    at_left : (more : List Record) → AllByRecursion IsRecord more → length (spellings more) ≡ left → rest ≡ spellings more ++ has.behind → ⊥
    at_left [] good' same is = absurd (omega (arith, same, some))
    at_left (r ∷ rs) good' same is =
        let next : rest ≡ spelling r ++ (spellings rs ++ has.behind) = is ∙ append_assoc (spelling r) (spellings rs) has.behind in
        let first : get_or rest 0 0 ≡ get_or (spelling r) 0 0 = ap (λ (l : List ℕ). get_or l 0 0) next ∙ get_or_append_left (spelling r) (spellings rs ++ has.behind) 0 0 (omega (arith, some_spelling r)) in
        let fits : length (spelling r) ≤ most = enough r good'.0 (sym first) (omega (arith, same, length-append (spelling r) (spellings rs))) in
        let given = only r (drop (length (spelling r)) (take most rest)) good'.0 (cut ∙ begins_with r (spellings rs ++ has.behind) rest most next fits) in
        let never : None ≡ Some (r, length (spelling r)) = sym none ∙ given in
        cc never

-- there the log breaks off
pub breaks : (log rest : List ℕ) (batches : List (List Record)) (offset : ℕ) → log ≡ batches_bytes batches ++ rest → AllByRecursion IsRecord (records_of batches) → offset ≡ length (batches_bytes batches) → get_or rest 0 0 ≡ 1 → ¬ HasBatch rest → BreaksAt log offset
breaks log rest batches offset is good at is_open none = record { batches = batches; rest = rest; bytes = is; good = good; at = at; is_open = is_open; none = none }

-- What was read.

-- a reader that was only filled has read the same
pub same_read : (tells : Bool) (log : List ℕ) (r new : LogReader) (batches : List (List Record)) (begun : List Record) → IsSameReader r new → (IsTrue tells → untaken new log ≡ untaken r log) → HasRead tells log r batches begun → HasRead tells log new batches begun
same_read tells log r new batches begun same rest read = record {
  good = read.good;
  good_begun = read.good_begun;
  tail = same.tail ∙ read.tail;
  count = same.given ∙ read.count;
  at_gate = λ none.
      let was = read.at_gate (sym same.left ∙ none) in
      record { none = was.none; next = same.next ∙ was.next; bytes = λ told. was.bytes told ∙ ap (λ (l : List ℕ). batches_bytes batches ++ l) (sym (rest told)) };
  in_batch = λ some.
      let was = read.in_batch (omega (arith, some, same.left)) in
      record {
        first = same.first ∙ was.first;
        next = same.next ∙ was.next;
        bytes = λ told.
            was.bytes told ∙ ap (λ (k : ℕ). batches_bytes batches ++ (begun_bytes (length (spellings begun) + k) begun ++ untaken r log)) (sym same.left)
            ∙ ap (λ (l : List ℕ). batches_bytes batches ++ (begun_bytes (length (spellings begun) + new.left) begun ++ l)) (sym (rest told));
      };
}

module _ (tells : Bool) (log : List ℕ) (r new : LogReader) (batches : List (List Record)) where
  -- a batch is begun
  pub begins : HasRead tells log r batches [] → r.left ≡ 0 → new.next ≡ r.next + 5 → new.first ≡ r.given + 1 → new.given ≡ r.given → (0 < new.left → new.tail ≡ r.tail) → (new.left ≡ 0 → new.tail ≡ new.next)
      → (IsTrue tells → untaken r log ≡ (1 ∷ to_le_bytes w32 new.left) ++ untaken new log) → IsBegun tells log new batches
  begins read none next first given inside border front =
      let gate = read.at_gate none in
      let here : IsTrue tells → log ≡ batches_bytes batches ++ ((1 ∷ to_le_bytes w32 new.left) ++ untaken new log) = λ told. gate.bytes told ∙ ap (λ (l : List ℕ). batches_bytes batches ++ l) (front told) in
      let same : new.left ≡ length (spellings []) + new.left = omega arith in
      let empty_batch : length (batches_bytes (batches ++ [] ∷ [])) ≡ length (batches_bytes batches) + 5 = ap (λ (l : List ℕ). length l) (batches_bytes-push batches []) ∙ length-append (batches_bytes batches) (batch []) in
      let no_more : records_of (batches ++ [] ∷ []) ≡ records_of batches = records_of-push batches [] ∙ append-nil (records_of batches) in
      record {
        inside = λ some. record {
          good = read.good;
          good_begun = tt;
          tail = inside some ∙ read.tail;
          count = given ∙ read.count;
          at_gate = λ zero. absurd (omega (arith, some, zero));
          in_batch = λ _. record {
            first = omega (arith, first, read.count);
            next = omega (arith, next, gate.next);
            bytes = λ told. here told ∙ ap (λ (k : ℕ). batches_bytes batches ++ (begun_bytes k [] ++ untaken new log)) same;
          };
        };
        empty = λ zero. record {
          good = subst (λ (l : List Record). AllByRecursion IsRecord l) (sym no_more) read.good;
          good_begun = tt;
          tail = omega (arith, border zero, next, gate.next, empty_batch);
          count = given ∙ read.count ∙ ap (λ (l : List Record). length l + 0) (sym no_more);
          at_gate = λ _. record {
            none = refl;
            next = omega (arith, next, gate.next, empty_batch);
            bytes = λ told.
                here told ∙ ap (λ (k : ℕ). batches_bytes batches ++ (begun_bytes k [] ++ untaken new log)) zero
                ∙ sym (append_assoc (batches_bytes batches) (batch []) (untaken new log)) ∙ ap (λ (l : List ℕ). l ++ untaken new log) (sym (batches_bytes-push batches []));
          };
          in_batch = λ some. absurd (omega (arith, some, zero));
        };
      }

  -- a record is given
  pub gives : (begun : List Record) (rec : Record) (size : ℕ) → HasRead tells log r batches begun → 0 < r.left → IsRecord rec → size ≡ length (spelling rec) → size ≤ r.left → new.next ≡ r.next + size → new.left ≡ r.left - size
      → new.first ≡ r.first → new.given ≡ r.given + 1 → (0 < new.left → new.tail ≡ r.tail) → (new.left ≡ 0 → new.tail ≡ new.next) → (IsTrue tells → untaken r log ≡ spelling rec ++ untaken new log) → IsGiven tells log new batches begun rec
  gives begun rec size read some good is_size fits next left first given inside border front =
      let was = read.in_batch some in
      let longer : length (spellings (begun ++ rec ∷ [])) ≡ length (spellings begun) + size = ap (λ (l : List ℕ). length l) (spellings-push begun rec) ∙ length-append (spellings begun) (spelling rec) ∙ ap (λ (k : ℕ). length (spellings begun) + k) (sym is_size) in
      let more : length (begun ++ rec ∷ []) ≡ length begun + 1 = length-append begun (rec ∷ []) in
      let whole : length (spellings begun) + r.left ≡ length (spellings (begun ++ rec ∷ [])) + new.left = omega (arith, longer, left, fits) in
      let n = length (spellings (begun ++ rec ∷ [])) + new.left in
      let here : IsTrue tells → log ≡ batches_bytes batches ++ (begun_bytes n (begun ++ rec ∷ []) ++ untaken new log) = λ told.
      was.bytes told
      ∙ ap (λ (k : ℕ). batches_bytes batches ++ (begun_bytes k begun ++ untaken r log)) whole
      ∙ ap (λ (l : List ℕ). batches_bytes batches ++ (begun_bytes n begun ++ l)) (front told)
      ∙ ap (λ (l : List ℕ). batches_bytes batches ++ l) (sym (append_assoc (begun_bytes n begun) (spelling rec) (untaken new log)))
      ∙ ap (λ (l : List ℕ). batches_bytes batches ++ (l ++ untaken new log)) (append_assoc (1 ∷ to_le_bytes w32 n) (spellings begun) (spelling rec) ∙ ap (λ (l : List ℕ). (1 ∷ to_le_bytes w32 n) ++ l) (sym (spellings-push begun rec))) in
      let closed : records_of (batches ++ (begun ++ rec ∷ []) ∷ []) ≡ records_of batches ++ (begun ++ rec ∷ []) = records_of-push batches (begun ++ rec ∷ []) in
      let bytes : length (batches_bytes (batches ++ (begun ++ rec ∷ []) ∷ [])) ≡ length (batches_bytes batches) + (5 + length (spellings (begun ++ rec ∷ []))) =
      ap (λ (l : List ℕ). length l) (batches_bytes-push batches (begun ++ rec ∷ [])) ∙ length-append (batches_bytes batches) (batch (begun ++ rec ∷ [])) ∙ ap (λ (k : ℕ). length (batches_bytes batches) + k) (length-append (1 ∷ to_le_bytes w32 (length (spellings (begun ++ rec ∷ [])))) (spellings (begun ++ rec ∷ []))) in
      record {
        passed = batches;
        same = refl;
        first = first ∙ was.first;
        inside = λ some'. record {
          good = read.good;
          good_begun = good_push begun rec read.good_begun good;
          tail = inside some' ∙ read.tail;
          count = omega (arith, given, read.count, more);
          at_gate = λ zero. absurd (omega (arith, some', zero));
          in_batch = λ _. record { first = first ∙ was.first; next = omega (arith, next, was.next, longer); bytes = here };
        };
        border = λ zero.
            let last : n ≡ length (spellings (begun ++ rec ∷ [])) = omega (arith, zero) in
            record {
              good = subst (λ (l : List Record). AllByRecursion IsRecord l) (sym closed) (good_append (records_of batches) (begun ++ rec ∷ []) read.good (good_push begun rec read.good_begun good));
              good_begun = tt;
              tail = omega (arith, border zero, next, was.next, longer, bytes);
              count = omega (arith, given, read.count, more, ap (λ (l : List Record). length l) closed, length-append (records_of batches) (begun ++ rec ∷ []));
              at_gate = λ _. record {
                none = refl;
                next = omega (arith, next, was.next, longer, bytes);
                bytes = λ told.
                    here told
                    ∙ ap (λ (k : ℕ). batches_bytes batches ++ (begun_bytes k (begun ++ rec ∷ []) ++ untaken new log)) last
                    ∙ sym (append_assoc (batches_bytes batches) (batch (begun ++ rec ∷ [])) (untaken new log))
                    ∙ ap (λ (l : List ℕ). l ++ untaken new log) (sym (batches_bytes-push batches (begun ++ rec ∷ [])));
              };
              in_batch = λ some'. absurd (omega (arith, some', zero));
            };
      }

-- so are records, in order
pub given_on : (tells : Bool) (log : List ℕ) (new : LogReader) (batches : List (List Record)) (begun given : List Record) (rec : Record) → given ≡ records_of batches ++ begun → IsGiven tells log new batches begun rec → HasGiven tells log new (given ++ rec ∷ [])
given_on tells log new batches begun given rec are is = elim (cases_lt 0 new.left) [
  | inl some ↦ record { batches = is.passed; begun = begun ++ rec ∷ []; read = is.inside some; are = all }
  | inr none ↦ let zero : new.left ≡ 0 = omega (arith, none) in
      record {
        batches = is.passed ++ (begun ++ rec ∷ []) ∷ [];
        begun = [];
        read = is.border zero;
        are = all ∙ sym (records_of-push is.passed (begun ++ rec ∷ [])) ∙ sym (append-nil (records_of (is.passed ++ (begun ++ rec ∷ []) ∷ [])));
      }
]
  where
    all : given ++ rec ∷ [] ≡ records_of is.passed ++ (begun ++ rec ∷ [])
    all = ap (λ (l : List Record). l ++ rec ∷ []) are ∙ append_assoc (records_of batches) begun (rec ∷ []) ∙ ap (λ (l : List Record). l ++ (begun ++ rec ∷ [])) (sym is.same)

-- Batches without a record may have been passed.
pub record HasPassed (tells : Bool) (log : List ℕ) (r : LogReader) (batches : List (List Record)) (begun : List Record) : Type 0 where
  pub passed : List (List Record)
  pub same : records_of passed ≡ records_of batches
  pub read : HasRead tells log r passed begun

pub begun_on : (tells : Bool) (log : List ℕ) (r : LogReader) (batches passed : List (List Record)) → records_of passed ≡ records_of batches → IsBegun tells log r passed → HasPassed tells log r batches []
begun_on tells log r batches passed same begun = elim (cases_lt 0 r.left) [
  | inl some ↦ record { passed = passed; same = same; read = begun.inside some }
  | inr none ↦ let zero : r.left ≡ 0 = omega (arith, none) in
      record { passed = passed ++ [] ∷ []; same = records_of-push passed [] ∙ append-nil (records_of passed) ∙ same; read = begun.empty zero }
]

pub given_of : (tells : Bool) (log : List ℕ) (r : LogReader) (batches passed : List (List Record)) (begun : List Record) (rec : Record) → records_of passed ≡ records_of batches → IsGiven tells log r passed begun rec → IsGiven tells log r batches begun rec
given_of tells log r batches passed begun rec same is = record {
  passed = is.passed;
  same = is.same ∙ same;
  first = is.first ∙ ap (λ (l : List Record). length l + 1) same;
  inside = is.inside;
  border = is.border;
}

-- at the end all were given
pub all_given : (tells : Bool) (log : List ℕ) (r : LogReader) (batches passed : List (List Record)) (given : List Record) → given ≡ records_of batches ++ [] → records_of passed ≡ records_of batches → r.left ≡ 0 → HasRead tells log r passed [] → (IsTrue tells → HoldsBatches log passed) → HasGivenAll tells log r given
all_given tells log r batches passed given are same zero read holds = record {
  batches = passed;
  read = read;
  border = zero;
  are = are ∙ append-nil (records_of batches) ∙ sym same;
  holds = holds;
}
