-- The records of a scan follow one another.
use Rattle.std.proofs.Common.{◌≡◌, ℕ, ◌+◌, ◌-◌, ◌*◌, ◌≤◌, Bool, true, false, not, List, [], ◌∷◌, ◌++◌, length, drop, Option, None, Some, refl, sym, ap, ◌∙◌, subst, arith}
use Rattle.std.specs.Prelude.{nat_le, nat_lt, ◌==◌, ◌&&◌, ◌||◌, option_and_then, if◌then◌else◌}
use Rattle.std.specs.List.{list_all}
use Rattle.std.specs.Ordering.{nat_cmp}
use Rattle.std.specs.FinSet.{FinSet, contains, insert, contains-insert, contains-retain, nat_cmp-IsAntisymmetric}
use Rattle.std.specs.Cmp.{nat_cmp_total, unsigned_tied, nat_eq_equiv}
use Rattle.std.proofs.lemmas.Bool.{and_from, and_parts, le-leb, leb-true, lt-ltb, ltb-true, eq-eqb}
use Rattle.std.proofs.lemmas.List.{length-take, length-drop}
use Rattle.std.proofs.lemmas.List.Folds.{list_all-append}
use Rattle.std.proofs.lemmas.List.Sums.{fold-append}
use Rattle.heap_words.specs.declared.Word.{Word}
use Rattle.heap_words.specs.declared.Word.TheVariants as word
use Rattle.heap_words.specs.Word.{bits, meaning}
use Rattle.heap_words.proofs.WordLaws.{meaning-bits}
use Rattle.heap_spaces.specs.Collection.{Collection, page_of}
use Rattle.heap_spaces.specs.Addresses.{without_page}
use Rattle.heap_spaces.specs.Copying.{with_scanned}
use Rattle.heap_spaces.specs.Spaces.{space_words}
use Rattle.log_records.specs.declared.copies.ObjectCopy.{ObjectCopy}
use Rattle.log_records.specs.declared.Record.{Record}
use Rattle.log_records.specs.declared.Record.TheVariants.{Copy, Scan}
use Rattle.log_machine.specs.Machine.{State, spaces_of}
use Rattle.log_machine.specs.Collecting.{other_base, is_used, can_move, can_hold, can_put, copied_while, with_copy as with_copied, with_moved, is_current_page, leads_to_used, collecting_after, scanned_in}
use Rattle.object_layout.specs.Layout.{object_at}
use Rattle.object_layout.proofs.LayoutLaws.{object_header}
use Rattle.page_scanner.specs.Scan.{Planned, nothing, going, copied_to, in_from_space, from_base, next_free, object_words, is_left, has_room, can_copy, with_copy, is_taken, can_write, written, is_current, scan, scan_records, records_of}
use Rattle.page_scanner.specs.Passing.{collecting_after_all, IsScanned}
use Rattle.page_scanner.proofs.Steps.{tested, planned_parts, IsKept, kept_scan}

-- where objects go with one more copy
pub going_more : (copies : List Record) (from to : ℕ) (words : List ℕ) (b : ℕ) → copied_to (copies ++ Copy from to words ∷ []) b ≡ (if from == b then Some to else copied_to copies b)
going_more copies from to words b = fold-append (going b) None copies (Copy from to words ∷ [])

after_none : (o : Option State) → option_and_then (λ n. collecting_after_all n []) o ≡ o
after_none None = refl
after_none (Some n) = refl

after_first : (xs : List Record) (r : Record) → ((n : State) → collecting_after_all n (xs ++ r ∷ []) ≡ option_and_then (λ m. collecting_after m r) (collecting_after_all n xs)) → (o : Option State)
    → option_and_then (λ n. collecting_after_all n (xs ++ r ∷ [])) o ≡ option_and_then (λ n. collecting_after n r) (option_and_then (λ n. collecting_after_all n xs) o)
after_first xs r later None = refl
after_first xs r later (Some n) = later n

-- one more record after these
after_more : (s : State) (rs : List Record) (r : Record) → collecting_after_all s (rs ++ r ∷ []) ≡ option_and_then (λ n. collecting_after n r) (collecting_after_all s rs)
after_more s [] r = after_none (collecting_after s r)
after_more s (x ∷ xs) r = after_first xs r (λ n. after_more n xs r) (collecting_after s x)

-- The copies of a plan follow one another, and its writes can follow after them.
record IsFollowing (s : State) (k : Collection) (q : Planned) : Type 0 where
  next : State
  now : Collection
  passes : collecting_after_all s q.copies ≡ Some next
  pages : next.pages ≡ s.pages
  base : next.base ≡ s.base
  used : next.used ≡ s.used + q.size
  runs : next.collection ≡ Some now
  all : now.used ≡ k.used
  copied : now.copied ≡ k.copied + q.size
  moved : (b : ℕ) → contains k.moved b ≡ false → copied_to q.copies b ≡ None → contains now.moved b ≡ false
  puts : list_all (can_put next) q.writes ≡ true

at_first : (s : State) (k : Collection) → s.collection ≡ Some k → IsFollowing s k nothing
at_first s k runs = record {
  next = s;
  now = k;
  passes = refl;
  pages = refl;
  base = refl;
  used = omega arith;
  runs = runs;
  all = refl;
  copied = omega arith;
  moved = λ b none not_copied. none;
  puts = refl;
}

-- a write of a plan passes its test
put_passes : (s n : State) (q : Planned) (at to : ℕ) → n.base ≡ s.base → n.used ≡ s.used + q.size → can_write (spaces_of s) q at to ≡ true → can_put n (at, bits (word.Stable to)) ≡ true
put_passes s n q at to base used can =
    let one = and_parts (is_taken (spaces_of s) q at) (is_taken (spaces_of s) q to && nat_lt to 2097152) can in
    let two = and_parts (is_taken (spaces_of s) q to) (nat_lt to 2097152) one.1 in
    let from_here : (x : ℕ) → is_taken (spaces_of s) q x ≡ true → is_used n x ≡ true = λ x taken.
    let low = and_parts (nat_le s.base x) (nat_lt x (next_free (spaces_of s) q)) taken in
    and_from (nat_le n.base x) (nat_lt x (n.base + n.used)) (le-leb n.base x (let below = leb-true s.base x low.0 in omega arith)) (lt-ltb x (n.base + n.used) (let below = ltb-true x (next_free (spaces_of s) q) low.1 in omega arith)) in
    and_from (is_used n at) (leads_to_used n (meaning (bits (word.Stable to)))) (from_here at one.0)
    (ap (leads_to_used n) (meaning-bits (word.Stable to) (ltb-true to 2097152 two.1)) ∙ from_here to two.0)

following_write : (s : State) (k : Collection) (q r : Planned) (at to : ℕ) → IsFollowing s k q → written (spaces_of s) q at to ≡ Some r → IsFollowing s k r
following_write s k q r at to f is =
    let w : ℕ × ℕ = (at, bits (word.Stable to)) in
    let one = tested (can_write (spaces_of s) q at to) (record q { writes = q.writes ++ w ∷ [] }) r is in
    let put : can_put f.next w ≡ true = put_passes s f.next q at to f.base f.used one.0 in
    subst (IsFollowing s k) one.1 (record {
      next = f.next;
      now = f.now;
      passes = f.passes;
      pages = f.pages;
      base = f.base;
      used = f.used;
      runs = f.runs;
      all = f.all;
      copied = f.copied;
      moved = f.moved;
      puts = list_all-append (can_put f.next) q.writes (w ∷ []) ∙ and_from (list_all (can_put f.next) q.writes) (can_put f.next w && true) f.puts (and_from (can_put f.next w) true put refl);
    })

-- what could be put can be put when more words are used
put_later : (n m : State) (w : ℕ × ℕ) → m.base ≡ n.base → n.used ≤ m.used → can_put n w ≡ true → can_put m w ≡ true
put_later n m w base more can =
    let one = and_parts (is_used n w.0) (leads_to_used n (meaning w.1)) can in
    and_from (is_used m w.0) (leads_to_used m (meaning w.1)) (used_later w.0 one.0) (leads_later (meaning w.1) one.1)
  where
    used_later : (x : ℕ) → is_used n x ≡ true → is_used m x ≡ true
    used_later x used =
        let low = and_parts (nat_le n.base x) (nat_lt x (n.base + n.used)) used in
        and_from (nat_le m.base x) (nat_lt x (m.base + m.used)) (le-leb m.base x (let below = leb-true n.base x low.0 in omega arith)) (lt-ltb x (m.base + m.used) (let below = ltb-true x (n.base + n.used) low.1 in omega arith))

    leads_later : (o : Option Word) → leads_to_used n o ≡ true → leads_to_used m o ≡ true
    leads_later None leads = cc
    leads_later (Some word.Null) leads = cc
    leads_later (Some (word.Int i)) leads = cc
    leads_later (Some (word.Volatile i)) leads = cc
    leads_later (Some (word.Stable b)) leads = used_later b leads

puts_later : (n m : State) (ws : List (ℕ × ℕ)) → m.base ≡ n.base → n.used ≤ m.used → list_all (can_put n) ws ≡ true → list_all (can_put m) ws ≡ true
puts_later n m [] base more all = refl
puts_later n m (w ∷ ws) base more all =
    let one = and_parts (can_put n w) (list_all (can_put n) ws) all in
    and_from (can_put m w) (list_all (can_put m) ws) (put_later n m w base more one.0) (puts_later n m ws base more one.1)

-- an object of a plan has all its words
length-object_words : (words : List ℕ) (at n : ℕ) → object_at words at ≡ Some n → length (object_words words at n) ≡ 2 + n
length-object_words words at n is =
    let within = (object_header words at n is).1 in
    omega (arith, length-take {A = ℕ} (2 + n) (drop at words), length-drop {A = ℕ} at words)

not_true : (t : Bool) → not t ≡ true → t ≡ false
not_true true is = cc
not_true false is = refl

-- an address other than the one that has moved now has not moved
not_moved : (set : FinSet nat_cmp) (from b : ℕ) → (from == b) ≡ false → contains set b ≡ false → contains (insert set from) b ≡ false
not_moved set from b apart none =
    contains-insert nat_cmp_total set from b ∙ ap (λ t. t || contains set b) (unsigned_tied b from ∙ same_test b from ∙ apart) ∙ none
  where
    same_test : (x y : ℕ) → (x == y) ≡ (y == x)
    same_test x y = nat_eq_equiv.symm x y

not_copied : (copies : List Record) (from to : ℕ) (words : List ℕ) (b : ℕ) (t : Bool) → (from == b) ≡ t → copied_to (copies ++ Copy from to words ∷ []) b ≡ None
    → ((from == b) ≡ false) × (copied_to copies b ≡ None)
not_copied copies from to words b true same none =
    let clash = sym (going_more copies from to words b ∙ ap (λ t. if t then Some to else copied_to copies b) same) ∙ none in cc
not_copied copies from to words b false same none =
    (same, sym (going_more copies from to words b ∙ ap (λ t. if t then Some to else copied_to copies b) same) ∙ none)

following_copy : (s : State) (k : Collection) (words : List ℕ) (q : Planned) (b n : ℕ) → IsFollowing s k q → in_from_space (spaces_of s) b ≡ true → copied_to q.copies b ≡ None
    → object_at words b ≡ Some n → can_copy (spaces_of s) k q b (2 + n) ≡ true → IsFollowing s k (with_copy (spaces_of s) words q b n)
following_copy s k words q b n f within none object can =
    let to = next_free (spaces_of s) q in
    let ws = object_words words b n in
    let size : length ws ≡ 2 + n = length-object_words words b n object in
    let copy : ObjectCopy = record { from = b; to = to; words = ws } in
    let next = with_copied f.next f.now copy in
    let low = and_parts (nat_le (from_base (spaces_of s)) b) (nat_lt b (from_base (spaces_of s) + space_words s.pages)) within in
    let whole = and_parts (is_left (spaces_of s) k b (2 + n)) (has_room (spaces_of s) k q (2 + n)) can in
    let left = and_parts (nat_le (b + (2 + n)) (from_base (spaces_of s) + k.used)) (not (contains k.moved b)) whole.0 in
    let fits = and_parts (nat_le (k.copied + (q.size + (2 + n))) k.used) (nat_le (s.used + (q.size + (2 + n))) (space_words s.pages)) whole.1 in
    let other : other_base f.next ≡ from_base (spaces_of s) = ap (λ p. space_words p - f.next.base) f.pages ∙ ap (λ x. space_words s.pages - x) f.base in
    let begins : other_base f.next ≤ b = subst (λ (x : ℕ). x ≤ b) (sym other) (leb-true (from_base (spaces_of s)) b low.0) in
    let ends : b + length ws ≤ other_base f.next + f.now.used =
    let e = leb-true (b + (2 + n)) (from_base (spaces_of s) + k.used) left.0 in let a = f.all in omega (arith, e, a, other, size) in
    let counted : f.now.copied + length ws ≤ f.now.used =
    let e = leb-true (k.copied + (q.size + (2 + n))) k.used fits.0 in let a = f.all in let c = f.copied in omega (arith, e, a, c, size) in
    let stays : not (contains f.now.moved b) ≡ true = ap not (f.moved b (not_true (contains k.moved b) left.1) none) in
    let moves : can_move f.next f.now b (length ws) ≡ true =
    let inside = nat_le (other_base f.next) b && nat_le (b + length ws) (other_base f.next + f.now.used) in
    let whole_there = nat_le 2 (length ws) && inside in
    let one_more = nat_le (f.now.copied + length ws) f.now.used in
    let some : 2 ≤ length ws = omega (arith, size) in
    and_from (whole_there && one_more) (not (contains f.now.moved b))
    (and_from whole_there one_more
    (and_from (nat_le 2 (length ws)) inside (le-leb 2 (length ws) some)
    (and_from (nat_le (other_base f.next) b) (nat_le (b + length ws) (other_base f.next + f.now.used)) (le-leb (other_base f.next) b begins)
    (le-leb (b + length ws) (other_base f.next + f.now.used) ends)))
    (le-leb (f.now.copied + length ws) f.now.used counted))
    stays in
    let place : to ≡ f.next.base + f.next.used = let bb = f.base in let u = f.used in omega (arith, bb, u) in
    let room : f.next.used + length ws ≤ space_words f.next.pages =
    let e = leb-true (s.used + (q.size + (2 + n))) (space_words s.pages) fits.1 in let u = f.used in
    subst (λ (p : ℕ). f.next.used + length ws ≤ space_words p) (sym f.pages) (omega (arith, e, u, size)) in
    let holds : can_hold f.next to (length ws) ≡ true =
    and_from (to == f.next.base + f.next.used) (nat_le (f.next.used + length ws) (space_words f.next.pages)) (eq-eqb to (f.next.base + f.next.used) place)
    (le-leb (f.next.used + length ws) (space_words f.next.pages) room) in
    let follows : collecting_after f.next (Copy b to ws) ≡ Some next =
    ap (copied_while f.next copy) f.runs
    ∙ ap (λ t. if t then Some next else None) (and_from (can_move f.next f.now b (length ws)) (can_hold f.next to (length ws)) moves holds) in
    record {
      next = next;
      now = with_moved f.now copy;
      passes = after_more s q.copies (Copy b to ws) ∙ ap (option_and_then (λ m. collecting_after m (Copy b to ws))) f.passes ∙ follows;
      pages = f.pages;
      base = f.base;
      used = let u = f.used in omega (arith, u, size);
      runs = refl;
      all = f.all;
      copied = let c = f.copied in omega (arith, c, size);
      moved = λ x unmoved fresh.
          let parts = not_copied q.copies b to ws x (b == x) refl fresh in
          not_moved f.now.moved b x parts.0 (f.moved x unmoved parts.1);
      puts = puts_later f.next next q.writes refl (omega arith) f.puts;
    }

following : (s : State) (k : Collection) (words : List ℕ) → IsKept (IsFollowing s k) (spaces_of s) k words
following s k words = record { write = following_write s k; copy = following_copy s k words }

-- an address of a page that was scanned is not gray
none_in_page : (set : FinSet nat_cmp) (page at : ℕ) → page_of at ≡ page → contains (without_page set page) at ≡ false
none_in_page set page at here =
    contains-retain set (λ x. not (page_of x == page)) at (λ x tie. ap (λ y. not (page_of y == page)) (sym (nat_cmp-IsAntisymmetric at x tie)))
    ∙ ap (λ t. contains set at && not t) (eq-eqb (page_of at) page here)
    ∙ ends (contains set at)
  where
    ends : (t : Bool) → (t && not true) ≡ false
    ends true = refl
    ends false = refl

scanned_last : (s : State) (k : Collection) (page : ℕ) (q : Planned) → is_current (spaces_of s) page ≡ true → IsFollowing s k q → IsScanned s page (records_of page q)
scanned_last s k page q current f =
    let here : is_current_page f.next page ≡ true =
    ap (λ b. nat_le b (64 * page) && nat_lt (64 * page) (b + space_words f.next.pages)) f.base
    ∙ ap (λ p. nat_le s.base (64 * page) && nat_lt (64 * page) (s.base + space_words p)) f.pages ∙ current in
    let next = record f.next { collection = Some (with_scanned f.now page) } in
    let follows : collecting_after f.next (Scan page q.writes) ≡ Some next =
    ap (scanned_in f.next page q.writes) f.runs
    ∙ ap (λ t. if t then Some next else None) (and_from (is_current_page f.next page) (list_all (can_put f.next) q.writes) here f.puts) in
    record {
      next = next;
      passes = after_more s q.copies (Scan page q.writes) ∙ ap (option_and_then (λ m. collecting_after m (Scan page q.writes))) f.passes ∙ follows;
      collection = with_scanned f.now page;
      runs = refl;
      none_gray = λ at in_page. none_in_page f.now.gray page at in_page;
    }

-- the records of a scan follow one another, and nothing in the page is gray after them
pub scans : (s : State) (k : Collection) (words : List ℕ) (page : ℕ) (records : List Record) → s.collection ≡ Some k → scan_records (spaces_of s) k words page ≡ Some records → IsScanned s page records
scans s k words page records runs is =
    let plan = planned_parts page (scan (spaces_of s) k words page) records is in
    let kept = kept_scan (IsFollowing s k) (spaces_of s) k words (following s k words) page plan.0 (at_first s k runs) plan.1 in
    subst (IsScanned s page) plan.2 (scanned_last s k page plan.0 kept.0 kept.1)
