-- What is written on one page, and on which page after others something is written.
use Rattle.std.proofs.Common.{◌≡◌, ℕ, zero, suc, ◌+◌, ◌-◌, ◌*◌, ◌<◌, ◌≤◌, Bool, true, false, List, [], ◌∷◌, ◌++◌, length, length-drop, take, drop, set, refl, sym, ap, subst, ◌∙◌, arith, inl, inr}
use Rattle.std.specs.Prelude.{◌==◌, ◌||◌, map, max, min, Option, None, Some}
use Rattle.std.specs.List.{enumerate_from}
use Rattle.std.proofs.Math.Seq.{take-nil, drop-nil}
use Rattle.std.proofs.lemmas.Bool.{cases_lt, eq-eqb, ne_eqb, cond-true, cond-false}
use Rattle.std.proofs.lemmas.List.{map-append, take_all}
use Rattle.std.proofs.lemmas.List.Elements.{filter-append}
use Rattle.std.proofs.lemmas.List.Sums.{fold-append}
use Rattle.log_machine.proofs.Addresses.{effect-addresses, effect_writes}
use Rattle.log_machine.proofs.ListLaws.{AllByRecursion-front, AllByRecursion-behind}
use Rattle.log_machine.proofs.WordsFrom.{below_at}
use Rattle.log_machine.specs.Effect.{WritesBelow}
use Rattle.log_machine.specs.Machine.{effect, put_all}
use Rattle.log_records.specs.declared.copies.ObjectCopy.{ObjectCopy}
use Rattle.log_records.specs.declared.Record.{Record}
use Rattle.log_records.specs.declared.Record.TheVariants.{Scan}
use Rattle.log_records.specs.Record.{copy_record}
use Rattle.page_redo.proofs.Touched.{touches-address}
use Rattle.page_redo.specs.Pages.{page_of, touched}
use Rattle.page_cache.specs.ByPage.{is_among, IsNextOf, on_page}
use Rattle.page_cache.specs.Writing.{AreBelow, pages_of}

-- Words one after the other.

-- where they lie below an address, they end there
pub end_below : (end address : ℕ) (words : List ℕ) → AreBelow end (enumerate_from address words) → 0 < length words → address + length words ≤ end
end_below end address words below some =
    let last : length words - 1 < length words = omega arith in
    omega (arith, below_at address end (length words - 1) words below last)

-- those that lie behind a page
on_page_behind : (p address : ℕ) (words : List ℕ) → 64 * p + 64 ≤ address → on_page p (enumerate_from address words) ≡ []
on_page_behind p address [] behind = refl
on_page_behind p address (w ∷ ws) behind =
    let rest : List (ℕ × ℕ) = on_page p (enumerate_from (address + 1) ws) in
    cond-false (page_of address == p) ((address, w) ∷ rest) rest (ne_eqb _ _ (λ same. absurd (omega (arith, same)))) ∙ on_page_behind p (address + 1) ws (omega arith)

-- those from a place of the page on
on_page_inside : (p address : ℕ) (words : List ℕ) → 64 * p ≤ address → address ≤ 64 * p + 64
    → on_page p (enumerate_from address words) ≡ enumerate_from address (take (64 * p + 64 - address) words)
on_page_inside p address [] low high = ap (enumerate_from address) (sym (take-nil (64 * p + 64 - address)))
on_page_inside p address (w ∷ ws) low high =
    let rest : List (ℕ × ℕ) = on_page p (enumerate_from (address + 1) ws) in
    elim (cases_lt address (64 * p + 64)) [
      | inl here ↦
          let there : page_of address ≡ p = omega arith in
          let more : suc (64 * p + 64 - (address + 1)) ≡ 64 * p + 64 - address = omega arith in
          cond-true (page_of address == p) ((address, w) ∷ rest) rest (eq-eqb _ _ there)
          ∙ ap (λ (l : List (ℕ × ℕ)). (address, w) ∷ l) (on_page_inside p (address + 1) ws (omega arith) (omega arith))
          ∙ ap (λ (n : ℕ). enumerate_from address (take n (w ∷ ws))) more
      | inr end ↦
          let none : 0 ≡ 64 * p + 64 - address = omega arith in
          on_page_behind p address (w ∷ ws) end ∙ ap (λ (n : ℕ). enumerate_from address (take n (w ∷ ws))) none
    ]

-- those from a place before it on
on_page_before : (p address before : ℕ) (words : List ℕ) → address + before ≡ 64 * p → on_page p (enumerate_from address words) ≡ enumerate_from (64 * p) (take 64 (drop before words))
on_page_before p address zero words at =
    let here : address ≡ 64 * p = omega arith in
    let whole : 64 * p + 64 - address ≡ 64 = omega arith in
    on_page_inside p address words (omega arith) (omega arith) ∙ (λ i. enumerate_from (here i) (take (whole i) words))
on_page_before p address (suc before) [] at = ap (enumerate_from (64 * p)) (sym (ap (take 64) (drop-nil (suc before)) ∙ take-nil 64))
on_page_before p address (suc before) (w ∷ ws) at =
    let rest : List (ℕ × ℕ) = on_page p (enumerate_from (address + 1) ws) in
    cond-false (page_of address == p) ((address, w) ∷ rest) rest (ne_eqb _ _ (λ same. absurd (omega (arith, same)))) ∙ on_page_before p (address + 1) before ws (omega arith)

-- a front that is as long as the list, or longer, is the list
take_to : (n m : ℕ) (words : List ℕ) → m ≡ min n (length words) → take n words ≡ take m words
take_to n m words is = elim (cases_lt n (length words)) [
  | inl less ↦ let same : n ≡ m = omega arith in ap (λ (k : ℕ). take k words) same
  | inr all ↦ let size : length words ≤ m = omega arith in take_all n words all ∙ sym (take_all m words size)
]

-- those on the page are the ones from where the page or they begin up to where the page or they end
pub on_page_words : (p address begin end : ℕ) (words : List ℕ) → begin ≡ max (64 * p) address → end ≡ min (64 * p + 64) (address + length words) → address < 64 * p + 64
    → on_page p (enumerate_from address words) ≡ enumerate_from begin (take (end - address - (begin - address)) (drop (begin - address) words))
on_page_words p address begin end words begins ends there =
    let before = begin - address in
    elim (cases_lt address (64 * p)) [
      | inl outside ↦
          let here : 64 * p ≡ begin = omega arith in
          let some : end - address - before ≡ min 64 (length (drop before words)) = omega (arith, length-drop before words) in
          on_page_before p address before words (omega arith)
          ∙ ap (enumerate_from (64 * p)) (take_to 64 (end - address - before) (drop before words) some)
          ∙ ap (λ (a : ℕ). enumerate_from a (take (end - address - before) (drop before words))) here
      | inr inside ↦
          let here : address ≡ begin = omega arith in
          let none : before ≡ 0 = omega arith in
          let some : end - address - before ≡ min (64 * p + 64 - address) (length words) = omega arith in
          on_page_inside p address words inside (omega arith)
          ∙ ap (enumerate_from address) (take_to (64 * p + 64 - address) (end - address - before) words some)
          ∙ (λ i. enumerate_from (here i) (take (end - address - before) (drop (sym none i) words)))
    ]

-- where they end before they or the page begin none is there
pub on_page_none : (p address begin end : ℕ) (words : List ℕ) → begin ≡ max (64 * p) address → end ≡ min (64 * p + 64) (address + length words) → end ≤ begin
    → on_page p (enumerate_from address words) ≡ []
on_page_none p address begin end words begins ends none = elim (cases_lt address (64 * p + 64)) [
  | inl there ↦
      let some : end - address - (begin - address) ≡ 0 = omega arith in
      on_page_words p address begin end words begins ends there ∙ ap (λ (n : ℕ). enumerate_from begin (take n (drop (begin - address) words))) some
  | inr behind ↦ on_page_behind p address words behind
]

-- Records.

-- where a scan's record writes below an address, so do the writes that it lists
pub scan_below : (end : ℕ) (rec : Record) (page : ℕ) (writes : List (ℕ × ℕ)) → rec ≡ Scan page writes → WritesBelow end rec → AreBelow end writes
scan_below end rec page writes is below = effect_writes (λ a. a < end) [] (Scan page writes) (subst (λ (r : Record). WritesBelow end r) is below)

-- what a copy writes lies below an address: its words, and the word that leads to them
pub copy_below : (end : ℕ) (copy : ObjectCopy) → WritesBelow end (copy_record copy) → AreBelow end (enumerate_from copy.to copy.words) × (copy.from < end)
copy_below end copy below =
    let P : ℕ × ℕ → Type 0 = λ w. w.0 < end in
    let forwarding = (copy.from, 4 * copy.to + 2) ∷ [] in
    let all = effect_writes (λ a. a < end) [] (copy_record copy) below in
    (AllByRecursion-front P (enumerate_from copy.to copy.words) forwarding all, (AllByRecursion-behind P (enumerate_from copy.to copy.words) forwarding all).0)

-- Writes one after the other.

pub on_page_append : (p : ℕ) (now : List ℕ) (before more : List (ℕ × ℕ)) → put_all now (on_page p (before ++ more)) ≡ put_all (put_all now (on_page p before)) (on_page p more)
on_page_append p now before more =
    ap (put_all now) (filter-append (λ w. page_of w.0 == p) before more)
    ∙ fold-append (λ (l : List ℕ) (w : ℕ × ℕ). set l w.0 w.1) now (on_page p before) (on_page p more)

-- the pages of more writes
pub pages_append : (before more : List (ℕ × ℕ)) → pages_of (before ++ more) ≡ pages_of before ++ pages_of more
pages_append before more = ap (map page_of) (map-append (λ (w : ℕ × ℕ). w.0) before more) ∙ map-append page_of (map (λ (w : ℕ × ℕ). w.0) before) (map (λ (w : ℕ × ℕ). w.0) more)

-- The next page.

-- none of the words is on a page
none_among : (address : ℕ) (words : List ℕ) (q : ℕ) → ((i : ℕ) → i < length words → page_of (address + i) ≡ q → ⊥) → is_among (pages_of (enumerate_from address words)) q ≡ false
none_among address [] q apart = refl
none_among address (w ∷ ws) q apart =
    let first : (page_of address == q) ≡ false = ne_eqb (page_of address) q (λ same. apart 0 (omega arith) (omega (arith, same))) in
    ap (λ (b : Bool). b || is_among (pages_of (enumerate_from (address + 1) ws)) q) first
    ∙ none_among (address + 1) ws q (λ i lt there. apart (i + 1) (omega arith) (omega (arith, there)))

or_left : (a b : Bool) → a ≡ true → (a || b) ≡ true
or_left true b e = refl
or_left false b e = cc

or_right : (a b : Bool) → b ≡ true → (a || b) ≡ true
or_right true b e = refl
or_right false b e = e

-- one of them is
some_among : (address : ℕ) (words : List ℕ) (q i : ℕ) → i < length words → page_of (address + i) ≡ q → is_among (pages_of (enumerate_from address words)) q ≡ true
some_among address [] q i lt there = absurd (omega arith)
some_among address (w ∷ ws) q zero lt there = or_left (page_of address == q) (is_among (pages_of (enumerate_from (address + 1) ws)) q) (eq-eqb (page_of address) q (omega arith))
some_among address (w ∷ ws) q (suc i) lt there =
    or_right (page_of address == q) (is_among (pages_of (enumerate_from (address + 1) ws)) q) (some_among (address + 1) ws q i (omega arith) (omega arith))

-- the first page from one on in which they lie
pub next_some : (address : ℕ) (words : List ℕ) (from next : ℕ) → 0 < length words → next ≡ max (page_of address) from → next ≤ page_of (address + (length words - 1))
    → IsNextOf (pages_of (enumerate_from address words)) from (Some next)
next_some address words from next some is le =
    let at : ℕ = max address (64 * next) - address in
    let within : at < length words = omega arith in
    let there : page_of (address + at) ≡ next = omega arith in
    let behind : from ≤ next = omega arith in
    (behind, some_among address words next at within there, λ q low high. none_among address words q (λ i lt here. absurd (omega (arith, here))))

pub next_none : (address : ℕ) (words : List ℕ) (from next : ℕ) → next ≡ max (page_of address) from → page_of (address + (length words - 1)) < next → IsNextOf (pages_of (enumerate_from address words)) from None
next_none address words from next is past q low = none_among address words q (λ i lt here. absurd (omega (arith, here)))

-- that of one page
pub next_one : (page from : ℕ) → from ≤ page → IsNextOf (page ∷ []) from (Some page)
next_one page from le = (le, or_left (page == page) false (eq-eqb page page refl), λ q low high. ap (λ (b : Bool). b || false) (ne_eqb page q (λ same. absurd (omega (arith, same)))))

pub next_past : (page from : ℕ) → page < from → IsNextOf (page ∷ []) from None
next_past page from lt q low = ap (λ (b : Bool). b || false) (ne_eqb page q (λ same. absurd (omega (arith, same))))

-- pages that are the same have the same next one
same_next : (pages others : List ℕ) (from : ℕ) (next : Option ℕ) → ((q : ℕ) → is_among pages q ≡ is_among others q) → IsNextOf pages from next → IsNextOf others from next
same_next pages others from None same is = λ q low. sym (same q) ∙ is q low
same_next pages others from (Some p) same is = (is.0, sym (same p) ∙ is.1, λ q low high. sym (same q) ∙ is.2 q low high)

-- the next page that a record touches is that of its writes
pub next_touched : (before : List ℕ) (rec : Record) (from : ℕ) (next : Option ℕ) → IsNextOf (pages_of (effect before rec)) from next → IsNextOf (touched rec) from next
next_touched before rec from next is =
    same_next (pages_of (effect before rec)) (touched rec) from next
    (λ q. ap (λ (l : List ℕ). is_among (map page_of l) q) (effect-addresses before rec) ∙ sym (touches-address rec q)) is
