-- Laws of a carry: the pages that it puts records on, in which order, and what it keeps.
use Rattle.std.proofs.Common.{◌≡◌, ℕ, zero, suc, ◌+◌, ◌-◌, ◌<◌, ◌≤◌, Bool, true, false, List, [], ◌∷◌, ◌++◌, length, refl, sym, ap, subst, ◌∙◌, arith, inl, inr, append_assoc}
use Rattle.std.specs.Prelude.{◌||◌, nat_lt, fold, map, Option, None, Some, if◌then◌else◌}
use Rattle.std.specs.List.{filter, range_with_len, AllByRecursion}
use Rattle.std.proofs.lemmas.Bool.{cases_Bool, cases_lt, cond-true, cond-false, lt-ltb, le-ltb}
use Rattle.std.proofs.lemmas.List.{append-nil, map-append}
use Rattle.std.proofs.lemmas.List.Elements.{filter-append}
use Rattle.std.proofs.lemmas.List.Sums.{fold-append}
use Rattle.log_records.specs.declared.Record.{Record}
use Rattle.page_redo.specs.Carry.{Carry, carry, landed_to, page_written, puts_below, puts_of, raised_at, stored_in, way_made, written}
use Rattle.page_redo.specs.Pages.{touches}
use Rattle.page_redo.specs.Transfers.{Lands}
use Rattle.page_redo.specs.Victim.{differs, dirty_pages, older, oldest, victim}
use Rattle.page_redo.proofs.VictimLaws.{differs_same, dirty_room, filter_same, victim_dirty, victim_few}

-- The victim depends on the LSNs of the pages that there are.
module _ (pages frames : ℕ) (lsns stored now kept : ℕ → ℕ) (same_lsns : (p : ℕ) → p < pages → lsns p ≡ now p) (same_stored : (p : ℕ) → p < pages → stored p ≡ kept p) where
  dirty_alike : (p : ℕ) → p < pages → differs lsns stored p ≡ differs now kept p
  dirty_alike p lt = differs_same now kept lsns stored p (same_lsns p lt) (same_stored p lt)

  older_alike : (p q : ℕ) → p < pages → q < pages → older lsns p q ≡ older now p q
  older_alike p q one other = λ i. if nat_lt (same_lsns q other i) (same_lsns p one i) then q else p

  older_within : (p q : ℕ) → p < pages → q < pages → older lsns p q < pages
  older_within p q one other = elim (cases_Bool (nat_lt (lsns q) (lsns p))) [
    | inl less ↦ omega (arith, cond-true (nat_lt (lsns q) (lsns p)) q p less, other)
    | inr more ↦ omega (arith, cond-false (nat_lt (lsns q) (lsns p)) q p more, one)
  ]

  fold_alike : (f : ℕ → Bool) (a n p : ℕ) → a + n ≤ pages → p < pages → fold (older lsns) p (filter f (range_with_len a n)) ≡ fold (older now) p (filter f (range_with_len a n))
  fold_alike f a zero p high within = refl
  fold_alike f a (suc n) p high within =
      let rest = filter f (range_with_len (a + 1) n) in
      elim (cases_Bool (f a)) [
        | inl held ↦
            let list = cond-true (f a) (a ∷ rest) rest held in
            ap (fold (older lsns) p) list ∙ fold_alike f (a + 1) n (older lsns p a) (omega arith) (older_within p a within (omega arith))
            ∙ ap (λ (q : ℕ). fold (older now) q rest) (older_alike p a within (omega arith)) ∙ sym (ap (fold (older now) p) list)
        | inr dropped ↦
            let list = cond-false (f a) (a ∷ rest) rest dropped in
            ap (fold (older lsns) p) list ∙ fold_alike f (a + 1) n p (omega arith) within ∙ sym (ap (fold (older now) p) list)
      ]

  oldest_alike : (f : ℕ → Bool) (a n : ℕ) → a + n ≤ pages → oldest lsns (filter f (range_with_len a n)) ≡ oldest now (filter f (range_with_len a n))
  oldest_alike f a zero high = refl
  oldest_alike f a (suc n) high =
      let rest = filter f (range_with_len (a + 1) n) in
      elim (cases_Bool (f a)) [
        | inl held ↦
            let list = cond-true (f a) (a ∷ rest) rest held in
            ap (oldest lsns) list ∙ ap (λ (q : ℕ). Some q) (fold_alike f (a + 1) n a (omega arith) (omega arith)) ∙ sym (ap (oldest now) list)
        | inr dropped ↦
            let list = cond-false (f a) (a ∷ rest) rest dropped in
            ap (oldest lsns) list ∙ oldest_alike f (a + 1) n (omega arith) ∙ sym (ap (oldest now) list)
      ]

  pages_alike : dirty_pages pages lsns stored ≡ dirty_pages pages now kept
  pages_alike = filter_same (differs lsns stored) (differs now kept) 0 pages (λ q low high. dirty_alike q (omega (arith, high)))

  pub victim_same : (p : ℕ) → p < pages → victim pages frames lsns stored p ≡ victim pages frames now kept p
  victim_same p lt =
      let first : oldest lsns (dirty_pages pages lsns stored) ≡ oldest now (dirty_pages pages now kept) =
      oldest_alike (differs lsns stored) 0 pages (omega arith) ∙ ap (oldest now) pages_alike in
      λ i. if dirty_alike p lt i || nat_lt (length (pages_alike i)) frames then None else first i

-- The pages of a record.

-- none is below the first
pub puts_below_none : (lsn : ℕ) (rec : Record) → puts_below 0 lsn rec ≡ []
puts_below_none lsn rec = refl

numbers_more : (a n : ℕ) → range_with_len a (n + 1) ≡ range_with_len a n ++ (a + n) ∷ []
numbers_more a zero = let same : a ≡ a + 0 = omega arith in ap (λ (k : ℕ). k ∷ []) same
numbers_more a (suc n) = let same : a + 1 + n ≡ a + suc n = omega arith in let front : suc n + 1 ≡ suc (n + 1) = omega arith in ap (range_with_len a) front ∙ ap (λ (l : List ℕ). a ∷ l) (numbers_more (a + 1) n ∙ ap (λ (k : ℕ). range_with_len (a + 1) n ++ k ∷ []) same)

-- one page more
below_more : (f : ℕ → Bool) (n : ℕ) → filter f (range_with_len 0 (n + 1)) ≡ filter f (range_with_len 0 n) ++ filter f (n ∷ [])
below_more f n = let here : 0 + n ≡ n = omega arith in ap (filter f) (numbers_more 0 n ∙ ap (λ (k : ℕ). range_with_len 0 n ++ k ∷ []) here) ∙ filter-append f (range_with_len 0 n) (n ∷ [])

-- a page that the record does not touch adds nothing
below_apart : (f : ℕ → Bool) (n : ℕ) → f n ≡ false → filter f (range_with_len 0 (n + 1)) ≡ filter f (range_with_len 0 n)
below_apart f n apart = below_more f n ∙ ap (λ (l : List ℕ). filter f (range_with_len 0 n) ++ l) (cond-false (f n) (n ∷ []) [] apart) ∙ append-nil (filter f (range_with_len 0 n))

below_still : (f : ℕ → Bool) (from n : ℕ) → ((q : ℕ) → from ≤ q → q < from + n → f q ≡ false) → filter f (range_with_len 0 (from + n)) ≡ filter f (range_with_len 0 from)
below_still f from zero none = let same : from + 0 ≡ from = omega arith in ap (λ (k : ℕ). filter f (range_with_len 0 k)) same
below_still f from (suc n) none =
    let same : from + suc n ≡ (from + n) + 1 = omega arith in
    ap (λ (k : ℕ). filter f (range_with_len 0 k)) same ∙ below_apart f (from + n) (none (from + n) (omega arith) (omega arith)) ∙ below_still f from n (λ q low high. none q low (omega arith))

-- nor do pages between
pub puts_below_end : (lsn from end : ℕ) (rec : Record) → from ≤ end → ((q : ℕ) → from ≤ q → q < end → touches rec q ≡ false) → puts_below end lsn rec ≡ puts_below from lsn rec
puts_below_end lsn from end rec le none =
    let same : from + (end - from) ≡ end = omega (arith, le) in
    ap (map (λ p. (p, lsn))) (sym (ap (λ (k : ℕ). filter (touches rec) (range_with_len 0 k)) same) ∙ below_still (touches rec) from (end - from) (λ q low high. none q low (omega (arith, high, same))))

-- the next page that it touches is one more
pub puts_below_next : (lsn from p : ℕ) (rec : Record) → from ≤ p → touches rec p ≡ true → ((q : ℕ) → from ≤ q → q < p → touches rec q ≡ false) → puts_below (p + 1) lsn rec ≡ puts_below from lsn rec ++ (p, lsn) ∷ []
puts_below_next lsn from p rec le touched between =
    let pair : ℕ → ℕ × ℕ = λ q. (q, lsn) in
    ap (map pair) (below_more (touches rec) p ∙ ap (λ (l : List ℕ). filter (touches rec) (range_with_len 0 p) ++ l) (cond-true (touches rec p) (p ∷ []) [] touched))
    ∙ map-append pair (filter (touches rec) (range_with_len 0 p)) (p ∷ [])
    ∙ ap (λ (l : List (ℕ × ℕ)). l ++ (p, lsn) ∷ []) (puts_below_end lsn from p rec le between)

-- and pages from one on come behind those before it
below_rest : (f : ℕ → Bool) (from n : ℕ) → (rest : List ℕ) × (filter f (range_with_len 0 (from + n)) ≡ filter f (range_with_len 0 from) ++ rest)
below_rest f from zero = let same : from + 0 ≡ from = omega arith in ([], ap (λ (k : ℕ). filter f (range_with_len 0 k)) same ∙ sym (append-nil (filter f (range_with_len 0 from))))
below_rest f from (suc n) =
    let same : from + suc n ≡ (from + n) + 1 = omega arith in
    let before = below_rest f from n in (
      before.0 ++ filter f ((from + n) ∷ []),
      ap (λ (k : ℕ). filter f (range_with_len 0 k)) same ∙ below_more f (from + n) ∙ ap (λ (l : List ℕ). l ++ filter f ((from + n) ∷ [])) before.1
          ∙ append_assoc (filter f (range_with_len 0 from)) before.0 (filter f ((from + n) ∷ [])),
    )

pub puts_below_rest : (lsn from end : ℕ) (rec : Record) → from ≤ end → (rest : List (ℕ × ℕ)) × (puts_below end lsn rec ≡ puts_below from lsn rec ++ rest)
puts_below_rest lsn from end rec le =
    let same : from + (end - from) ≡ end = omega (arith, le) in
    let pair : ℕ → ℕ × ℕ = λ q. (q, lsn) in
    let parts = below_rest (touches rec) from (end - from) in
    (map pair parts.0, ap (map pair) (sym (ap (λ (k : ℕ). filter (touches rec) (range_with_len 0 k)) same) ∙ parts.1) ∙ map-append pair (filter (touches rec) (range_with_len 0 from)) parts.0)

-- records one after another
pub puts_of-append : (pages first : ℕ) (xs ys : List Record) → puts_of pages first (xs ++ ys) ≡ puts_of pages first xs ++ puts_of pages (first + length xs) ys
puts_of-append pages first [] ys = let same : first ≡ first + length {A = Record} [] = omega arith in ap (λ (n : ℕ). puts_of pages n ys) same
puts_of-append pages first (x ∷ xs) ys =
    let same : first + 1 + length xs ≡ first + length (x ∷ xs) = omega arith in
    ap (λ (l : List (ℕ × ℕ)). puts_below pages first x ++ l)
    (puts_of-append pages (first + 1) xs ys ∙ ap (λ (n : ℕ). puts_of pages (first + 1) xs ++ puts_of pages n ys) same)
    ∙ sym (append_assoc (puts_below pages first x) (puts_of pages (first + 1) xs) (puts_of pages (first + length (x ∷ xs)) ys))

-- One carry after another.

pub carry-append : (pages frames : ℕ) (k : Carry) (xs ys : List (ℕ × ℕ)) → carry pages frames k (xs ++ ys) ≡ carry pages frames (carry pages frames k xs) ys
carry-append pages frames k xs ys = fold-append (written pages frames) k xs ys

-- What a carry keeps: a relation that each store keeps, and each page that is written.
module _ (P : Carry → Type 0) (pages frames : ℕ) (stores : (v : ℕ) (k : Carry) → P k → P (stored_in v k)) (raises : (p lsn : ℕ) (k : Carry) → P k → P (raised_at p lsn k)) where
  way_keeps : (v : Option ℕ) (k : Carry) → P k → P (way_made v k)
  way_keeps None k holds = holds
  way_keeps (Some v) k holds = stores v k holds

  page_keeps : (p lsn : ℕ) (k : Carry) → P k → P (page_written pages frames p lsn k)
  page_keeps p lsn k holds = raises p lsn (way_made (victim pages frames k.lsns k.stored p) k) (way_keeps (victim pages frames k.lsns k.stored p) k holds)

  written_keeps : (k : Carry) (put : ℕ × ℕ) → P k → P (written pages frames k put)
  written_keeps k put holds = elim (cases_Bool (nat_lt (k.lsns put.0) put.1)) [
    | inl lacks ↦ subst P (sym (cond-true (nat_lt (k.lsns put.0) put.1) (page_written pages frames put.0 put.1 k) k lacks)) (page_keeps put.0 put.1 k holds)
    | inr has ↦ subst P (sym (cond-false (nat_lt (k.lsns put.0) put.1) (page_written pages frames put.0 put.1 k) k has)) holds
  ]

  pub carry_keeps : (puts : List (ℕ × ℕ)) (k : Carry) → P k → P (carry pages frames k puts)
  carry_keeps [] k holds = holds
  carry_keeps (put ∷ puts) k holds = carry_keeps puts (written pages frames k put) (written_keeps k put holds)

-- What lands.

-- either nothing or all that waits
landing : (P : Carry → Type 0) (lsn : ℕ) (k : Carry) → P k → P (record k { forced = k.last; transfers = k.transfers ++ Lands ∷ []; calls = k.calls + 4 }) → P (landed_to lsn k)
landing P lsn k still lands = elim (cases_lt k.forced lsn) [
  | inl less ↦ subst P (sym (cond-true (nat_lt k.forced lsn) (record k { forced = k.last; transfers = k.transfers ++ Lands ∷ []; calls = k.calls + 4 }) k (lt-ltb k.forced lsn less))) lands
  | inr reached ↦ subst P (sym (cond-false (nat_lt k.forced lsn) (record k { forced = k.last; transfers = k.transfers ++ Lands ∷ []; calls = k.calls + 4 }) k (le-ltb k.forced lsn reached))) still
]

-- the number of calls only rises
landed_calls : (n lsn : ℕ) (k : Carry) → n ≤ k.calls → n ≤ (landed_to lsn k).calls
landed_calls n lsn k le = landing (λ j. n ≤ j.calls) lsn k le (omega (arith, le))

pub way_calls : (v : Option ℕ) (k : Carry) → k.calls ≤ (way_made v k).calls
way_calls v k = way_keeps (λ j. k.calls ≤ j.calls) 0 0 (λ v j le. omega (arith, landed_calls k.calls (j.lsns v) j le)) (λ p lsn j le. le) v k (omega arith)

pub carry_calls : (pages frames : ℕ) (puts : List (ℕ × ℕ)) (k : Carry) → k.calls ≤ (carry pages frames k puts).calls
carry_calls pages frames puts k = carry_keeps (λ j. k.calls ≤ j.calls) pages frames (λ v j le. omega (arith, landed_calls k.calls (j.lsns v) j le)) (λ p lsn j le. le) puts k (omega arith)

-- Where each page may be dirty nothing is stored.

victim_idle : (pages frames : ℕ) (lsns stored : ℕ → ℕ) (p : ℕ) → p < pages → pages ≤ frames → victim pages frames lsns stored p ≡ None
victim_idle pages frames lsns stored p lt le = elim (cases_Bool (differs lsns stored p)) [
  | inl dirty ↦ victim_dirty pages lsns stored frames p dirty
  | inr clean ↦ victim_few pages lsns stored frames p (omega (arith, dirty_room pages lsns stored p lt clean, le))
]

written_idle : (pages frames : ℕ) (k : Carry) (put : ℕ × ℕ) → put.0 < pages → pages ≤ frames → (written pages frames k put).calls ≡ k.calls
written_idle pages frames k put lt le = elim (cases_Bool (nat_lt (k.lsns put.0) put.1)) [
  | inl lacks ↦
      ap (λ (j : Carry). j.calls) (cond-true (nat_lt (k.lsns put.0) put.1) (page_written pages frames put.0 put.1 k) k lacks)
      ∙ ap (λ (v : Option ℕ). (way_made v k).calls) (victim_idle pages frames k.lsns k.stored put.0 lt le)
  | inr has ↦ ap (λ (j : Carry). j.calls) (cond-false (nat_lt (k.lsns put.0) put.1) (page_written pages frames put.0 put.1 k) k has)
]

pub carry_idle : (pages frames : ℕ) (puts : List (ℕ × ℕ)) (k : Carry) → pages ≤ frames → AllByRecursion (λ put. put.0 < pages) puts → (carry pages frames k puts).calls ≡ k.calls
carry_idle pages frames [] k le within = refl
carry_idle pages frames (put ∷ puts) k le within = carry_idle pages frames puts (written pages frames k put) le within.1 ∙ written_idle pages frames k put within.0 le

-- puts are on pages that there are
below_pages : (f : ℕ → Bool) (lsn pages a n : ℕ) → a + n ≤ pages → AllByRecursion (λ (put : ℕ × ℕ). put.0 < pages) (map (λ p. (p, lsn)) (filter f (range_with_len a n)))
below_pages f lsn pages a zero high = tt
below_pages f lsn pages a (suc n) high =
    let rest = filter f (range_with_len (a + 1) n) in
    let P : List ℕ → Type 0 = λ l. AllByRecursion (λ (put : ℕ × ℕ). put.0 < pages) (map (λ p. (p, lsn)) l) in
    elim (cases_Bool (f a)) [
      | inl held ↦ subst P (sym (cond-true (f a) (a ∷ rest) rest held)) (omega arith, below_pages f lsn pages (a + 1) n (omega arith))
      | inr dropped ↦ subst P (sym (cond-false (f a) (a ∷ rest) rest dropped)) (below_pages f lsn pages (a + 1) n (omega arith))
    ]

all_both : (P : ℕ × ℕ → Type 0) (xs ys : List (ℕ × ℕ)) → AllByRecursion P xs → AllByRecursion P ys → AllByRecursion P (xs ++ ys)
all_both P [] ys one other = other
all_both P (x ∷ xs) ys one other = (one.0, all_both P xs ys one.1 other)

pub puts_of_pages : (pages lsn : ℕ) (records : List Record) → AllByRecursion (λ put. put.0 < pages) (puts_of pages lsn records)
puts_of_pages pages lsn [] = tt
puts_of_pages pages lsn (r ∷ rs) = all_both (λ put. put.0 < pages) (puts_below pages lsn r) (puts_of pages (lsn + 1) rs) (below_pages (touches r) lsn pages 0 pages (omega arith)) (puts_of_pages pages (lsn + 1) rs)
