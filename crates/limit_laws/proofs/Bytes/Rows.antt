-- What a record of a collection takes in the log, and how many objects it leaves gray.
use Rattle.std.proofs.Common.{◌≡◌, ℕ, ◌+◌, ◌*◌, ◌≤◌, Bool, true, false, List, [], ◌∷◌, ◌++◌, length, Option, None, Some, refl, sym, ap, ◌∙◌, subst, arith, eq-eqb, length-append}
use Rattle.std.specs.Prelude.{if◌then◌else◌, option_and_then, sum_by}
use Rattle.std.specs.List.{AllByRecursion, flat_map}
use Rattle.std.specs.FinSet.{contains, contains-insert, insert, len, len-empty}
use Rattle.std.specs.Ordering.{eq_by_cmp, nat_cmp}
use Rattle.std.specs.Cmp.{nat_cmp_total}
use Rattle.std.proofs.lemmas.List.Sums.{sum_by-cons}
use Rattle.std.proofs.lemmas.Option.{cond_some, option_and_then_some, same_Some}
use Rattle.heap_spaces.specs.Collection.{Collection, page_of}
use Rattle.heap_spaces.specs.Copying.{with_scanned}
use Rattle.log_records.specs.Copies.{copy_bytes}
use Rattle.log_records.specs.declared.copies.ObjectCopy.{ObjectCopy}
use Rattle.log_records.specs.declared.Record.{Record}
use Rattle.log_records.specs.declared.Record.TheVariants.{Update, Base, Fix, Undo, Commit, End, Copy, Scan, Flip, Collected}
use Rattle.log_records.proofs.RecordLaws.{length-copy_bytes, length-word_bytes, length-writes}
use Rattle.log_machine.specs.declared.UndoEntry.{UndoEntry}
use Rattle.log_machine.specs.Collecting.{collected_in, copies_after, copy_after, flipped_in, scanned_in, with_moved, with_roles_changed}
use Rattle.log_machine.specs.Machine.{State, after, after_all, is_number_or_none, number_of, row_after, turned, undo_of, with_entries, without_newest}
use Rattle.log_machine.proofs.CopyRows.{copy_told}
use Rattle.log_machine.proofs.FlipLaws.{flip_told}
use Rattle.log_machine.specs.UndoEntry.{undo_entry}
use Rattle.log_records.specs.Copied.{copied_size, copy_size}
use Rattle.core_laws.proofs.Collecting.Least.{or_second}
use Rattle.limit_laws.specs.Bytes.{begun_by, bytes_of, led_by, left_by, moved_by_record}
use Rattle.limit_laws.proofs.Bytes.Sets.{len_more, subset_less}
use Rattle.limit_laws.proofs.Events.Kinds.{IsCopy}
use Rattle.limit_laws.proofs.Progress.Rows.{retained}

-- What a record takes, and what is left to be taken after it, is no more than its share and what was left before.
abbrev pub Costs : State → Record → State → Type 0
Costs s rec n = bytes_of rec + left_by n.collection ≤ 16 * moved_by_record rec + 12 * led_by rec + 6 * begun_by rec + left_by s.collection

left_some : (o : Option Collection) (k : Collection) → o ≡ Some k → left_by o ≡ 7 * len k.gray + 1
left_some o k is = ap left_by is

-- A copy.

copy_cost : (s n : State) (from to : ℕ) (words : List ℕ) → copy_after s (record { from = from; to = to; words = words }) ≡ Some n
    → (2 ≤ length words) × (left_by n.collection ≤ 7 + left_by s.collection)
copy_cost s n from to words e =
    let told = copy_told s n (record { from = from; to = to; words = words }) e in
    let after = ap (λ (x : State). left_by x.collection) (sym told.is) in
    (told.can.front, omega (arith, after, left_some s.collection told.k told.runs, len_more told.k.gray to))

copies_cost : (s n : State) (copies : List ObjectCopy) → copies_after s copies ≡ Some n → length (flat_map copy_bytes copies) + left_by n.collection ≤ 16 * copied_size copies + left_by s.collection
copies_cost s n [] e = let same = ap (λ (x : State). left_by x.collection) (same_Some s n e) in omega arith
copies_cost s n (copy ∷ copies) e =
    option_and_then_some (λ next. copies_after next copies) (copy_after s copy) n e (λ next one rest.
    let first = copy_cost s next copy.from copy.to copy.words one in
    let few = first.0 in
    let less = first.1 in
    let more = copies_cost next n copies rest in
    omega (arith, length-append (copy_bytes copy) (flat_map copy_bytes copies), length-copy_bytes copy, sum_by-cons (λ (c : ObjectCopy). length c.words) copy copies))

-- Each record.

abbrev pub IsNoScan : Record → Type 0
IsNoScan (Scan page writes) = ⊥
IsNoScan rec = Unit {0}

undone_cost : (s n : State) (t object field word : ℕ) (o : Option (List UndoEntry)) → option_and_then (λ rest. Some (turned s t (with_entries s.undo t rest) 0)) o ≡ Some n → Costs s (Undo t object field word) n
undone_cost s n t object field word None e = absurd (cc e)
undone_cost s n t object field word (Some rest) e = subst (Costs s (Undo t object field word)) (same_Some (turned s t (with_entries s.undo t rest) 0) n e) (omega arith)

ended_cost : (s n : State) (o : Option Collection) → s.collection ≡ o → collected_in s o ≡ Some n → Costs s Collected n
ended_cost s n None run e = absurd (cc e)
ended_cost s n (Some k) run e = subst (Costs s Collected) (cond_some _ _ _ e).1 (omega (arith, left_some s.collection k run))

flip_cost : (s n : State) (copies : List ObjectCopy) → flipped_in s copies s.collection ≡ Some n → Costs s (Flip copies) n
flip_cost s n copies e =
    let told = flip_told s n copies s.collection e in
    let all = copies_cost (with_roles_changed s) told.m copies told.copied in
    let after = ap (λ (x : State). left_by x.collection) (sym told.is) in
    omega (arith, all, after, len-empty nat_cmp)

row_cost : (s n : State) (rec : Record) → IsNoScan rec → row_after s rec ≡ Some n → Costs s rec n
row_cost s n (Update t object field was word) plain e = subst (Costs s (Update t object field was word)) (cond_some _ _ _ e).1 (omega arith)
row_cost s n (Base t address words) plain e = subst (Costs s (Base t address words)) (cond_some _ _ _ e).1 (omega arith)
row_cost s n (Fix t object field word) plain e = subst (Costs s (Fix t object field word)) (cond_some _ _ _ e).1 (omega arith)
row_cost s n (Undo t object field word) plain e = undone_cost s n t object field word (without_newest (undo_of s t) (undo_entry object field word)) e
row_cost s n (Commit t) plain e = subst (Costs s (Commit t)) (same_Some _ n e) (omega arith)
row_cost s n (End t) plain e = subst (Costs s (End t)) (cond_some _ _ _ e).1 (omega arith)
row_cost s n (Copy from to words) plain e =
    let cost = copy_cost s n from to words e in
    let few = cost.0 in
    let less = cost.1 in
    let one = sum_by-cons copy_size (record { from = from; to = to; words = words }) [] in
    omega (arith, length-word_bytes words)
row_cost s n (Scan page writes) plain e = absurd plain
row_cost s n (Flip copies) plain e = flip_cost s n copies e
row_cost s n Collected plain e = ended_cost s n s.collection refl e

-- a scan of a page in which a gray object starts
off_page : (k : Collection) (page g : ℕ) → page_of g ≡ page → contains (with_scanned k page).gray g ≡ false
off_page k page g here = by (contains (with_scanned k page).gray g) refl
  where
    by : (b : Bool) → contains (with_scanned k page).gray g ≡ b → b ≡ false
    by false is = refl
    by true is = let clash = sym (eq-eqb (page_of g) page here) ∙ (retained k page g is).1 in absurd (cc clash)

scan_cost : (s n : State) (page : ℕ) (writes : List (ℕ × ℕ)) (k : Collection) (g : ℕ) (o : Option Collection) → s.collection ≡ o → o ≡ Some k → contains k.gray g ≡ true → page_of g ≡ page
    → scanned_in s page writes o ≡ Some n → Costs s (Scan page writes) n
scan_cost s n page writes k g None run is gray here e = absurd (cc is)
scan_cost s n page writes k g (Some j) run is gray here e =
    let same : j ≡ k = same_Some j k is in
    let there = ap (λ (x : Collection). contains x.gray g) same ∙ gray in
    let fewer = subset_less (with_scanned j page).gray j.gray g (λ q has. (retained j page q has).0) (off_page j page g here) there in
    subst (Costs s (Scan page writes)) (cond_some _ _ _ e).1 (omega (arith, left_some s.collection j run, fewer, length-writes writes))

-- Lists of records.

abbrev pub CostAll : State → List Record → State → Type 0
CostAll s rs n = sum_by bytes_of rs + left_by n.collection ≤ 16 * sum_by moved_by_record rs + 12 * sum_by led_by rs + 6 * sum_by begun_by rs + left_by s.collection

cost_more : (s m n : State) (r : Record) (rs : List Record) → Costs s r m → CostAll m rs n → CostAll s (r ∷ rs) n
cost_more s m n r rs one more = omega (arith, one, more, sum_by-cons bytes_of r rs, sum_by-cons moved_by_record r rs, sum_by-cons led_by r rs, sum_by-cons begun_by r rs)

passed : (b : Bool) (o : Option State) (n : State) → (if b then o else None) ≡ Some n → o ≡ Some n
passed true o n e = e
passed false o n e = cc e

-- records without a scan
pub cost_all : (s n : State) (rs : List Record) → AllByRecursion IsNoScan rs → after_all s rs ≡ Some n → CostAll s rs n
cost_all s n [] plain e = let same = ap (λ (x : State). left_by x.collection) (same_Some s n e) in omega arith
cost_all s n (r ∷ rs) plain e =
    option_and_then_some (λ next. after_all next rs) (after s r) n e (λ next one rest.
    cost_more s next n r rs (row_cost s next r plain.0 (passed (is_number_or_none (number_of r)) (row_after s r) next one)) (cost_all next n rs plain.1 rest))

-- the records of the scan of a page in which a gray object starts: it stays gray while what the page leads to is copied
pub cost_scan : (s n : State) (copies : List Record) (page : ℕ) (writes : List (ℕ × ℕ)) (k : Collection) (g : ℕ) → s.collection ≡ Some k → contains k.gray g ≡ true → page_of g ≡ page
    → AllByRecursion IsCopy copies → after_all s (copies ++ Scan page writes ∷ []) ≡ Some n → CostAll s (copies ++ Scan page writes ∷ []) n
cost_scan s n [] page writes k g run gray here all e =
    option_and_then_some (λ next. after_all next []) (after s (Scan page writes)) n e (λ next one rest.
    cost_more s next n (Scan page writes) [] (scan_cost s next page writes k g s.collection refl run gray here (passed true (row_after s (Scan page writes)) next one)) (cost_all next n [] tt rest))
cost_scan s n (Copy from to words ∷ copies) page writes k g run gray here all e =
    option_and_then_some (λ next. after_all next (copies ++ Scan page writes ∷ [])) (after s (Copy from to words)) n e (λ next one rest.
    let told = copy_told s next (record { from = from; to = to; words = words }) one in
    let same : told.k ≡ k = same_Some told.k k (sym told.runs ∙ run) in
    let runs : next.collection ≡ Some (with_moved told.k (record { from = from; to = to; words = words })) = ap (λ (x : State). x.collection) (sym told.is) in
    let there : contains (insert told.k.gray to) g ≡ true = contains-insert nat_cmp_total told.k.gray to g ∙ or_second (eq_by_cmp nat_cmp g to) (contains told.k.gray g) (ap (λ (x : Collection). contains x.gray g) same ∙ gray) in
    cost_more s next n (Copy from to words) (copies ++ Scan page writes ∷ []) (row_cost s next (Copy from to words) tt one)
    (cost_scan next n copies page writes (with_moved told.k (record { from = from; to = to; words = words })) g runs there here all.1 rest))
cost_scan s n (r ∷ copies) page writes k g run gray here all e = absurd all.0
