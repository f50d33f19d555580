-- The scan of a page of a heap can follow.
use Rattle.std.proofs.Common.{◌≡◌, ℕ, zero, suc, ◌+◌, ◌*◌, ◌<◌, ◌≤◌, inl, inr, Bool, true, false, not, List, [], ◌∷◌, ◌++◌, length, Option, None, Some, refl, sym, ap, ◌∙◌, subst, arith}
use Rattle.std.specs.Prelude.{nat_le, nat_lt, ◌==◌, ◌&&◌, ◌||◌, slice_index, is_some, unwrap_or, option_and_then, sum_by, Contains, if◌then◌else◌}
use Rattle.std.specs.List.{AllByRecursion}
use Rattle.std.specs.FinSet.{contains}
use Rattle.std.proofs.lemmas.Bool.{and_from, and_parts, le-leb, lt-ltb, ltb-true, eq-eqb, eqb-true, or_parts, or_from}
use Rattle.std.proofs.lemmas.Option.{same_Some}
use Rattle.std.proofs.lemmas.List.Sums.{sum_by-cons}
use Rattle.heap_words.specs.declared.Header.TheVariants.{Length}
use Rattle.heap_words.specs.declared.Word.{Word}
use Rattle.heap_words.specs.declared.Word.TheVariants as word
use Rattle.heap_words.specs.Header.{header}
use Rattle.heap_words.specs.Word.{bits, meaning}
use Rattle.heap_spaces.specs.Collection.{Collection}
use Rattle.heap_spaces.specs.Spaces.{SpacesState, space_words}
use Rattle.log_records.specs.declared.Record.TheVariants.{Copy, Scan}
use Rattle.log_records.specs.declared.Record.{Record}
use Rattle.log_records.specs.Record.{IsObjectWords, IsWrite, IsRecord}
use Rattle.log_machine.proofs.ListLaws.{AllByRecursion-append}
use Rattle.object_layout.specs.Layout.{whole_length, object_at, field_words}
use Rattle.object_layout.proofs.LayoutLaws.{object_header}
use Rattle.object_layout.proofs.WalkLaws.{Contains-cases, Contains-none}
use Rattle.page_scanner.specs.Scan.{Planned, nothing, copied_to, copied_from, from_base, in_from_space, next_free, is_taken, object_words, is_left, has_room, can_copy, with_copy, can_write, copied, written, led, led_on, follow, follow_all, is_gray, source, visit, visit_all, is_current, scan, scan_records}
use Rattle.page_scanner.specs.Heap.{AreFilling, moved_words, LeadsOn, AllLeadOn, IsForwarded, IsWaiting, IsCollected}
use Rattle.page_scanner.proofs.Following.{going_more}
use Rattle.page_scanner.proofs.Rising.{IsApart, apart_copy, apart_first, coming_more, bounds_planned}
use Rattle.page_scanner.proofs.Steps.{IsKept, kept_scan, planned_parts}

-- Sums over the objects of the from-space.

-- whether an object was copied, before or in the plan
abbrev gone : Collection → Planned → ℕ → Bool
gone k q b = contains k.moved b || is_some (copied_to q.copies b)

abbrev weighed : (ℕ → Bool) → List (ℕ × ℕ) → ℕ
weighed p olds = sum_by (λ o. if p o.0 then o.1 else 0) olds

weighed_cons : (p : ℕ → Bool) (o : ℕ × ℕ) (os : List (ℕ × ℕ)) → weighed p (o ∷ os) ≡ (if p o.0 then o.1 else 0) + weighed p os
weighed_cons p o os = sum_by-cons (λ (x : ℕ × ℕ). if p x.0 then x.1 else 0) o os

weight : (p : ℕ → Bool) (b size : ℕ) → (if p b then size else 0) ≤ size
weight p b size = by_test (p b)
  where
    by_test : (t : Bool) → (if t then size else 0) ≤ size
    by_test true = omega arith
    by_test false = omega arith

-- all of them have as many words as the space is filled with
weighed_all : (p : ℕ → Bool) (from : ℕ) (olds : List (ℕ × ℕ)) (end : ℕ) → AreFilling from olds end → from + weighed p olds ≤ end
weighed_all p from [] end filled = omega (arith, filled)
weighed_all p from (o ∷ os) end (at, some, rest) = let more = weighed_all p (from + o.1) os end rest in let one = weight p o.0 o.1 in let sum = weighed_cons p o os in omega (arith, more, one, sum)

-- one that is not among those that count is there besides
weighed_one : (p : ℕ → Bool) (from : ℕ) (olds : List (ℕ × ℕ)) (end b size : ℕ) → AreFilling from olds end → Contains olds (b, size) → p b ≡ false
    → (from + weighed p olds + size ≤ end) × (from ≤ b) × (b + size ≤ end)
weighed_one p from [] end b size filled has none = absurd (Contains-none (b, size) has)
weighed_one p from (o ∷ os) end b size (at, some, rest) has none = elim (Contains-cases o os (b, size) has) [
  | inl here ↦
      let all = weighed_all p (from + o.1) os end rest in
      let same_at : o.0 ≡ b = ap (λ (x : ℕ × ℕ). x.0) here in
      let same_size : o.1 ≡ size = ap (λ (x : ℕ × ℕ). x.1) here in
      let uncounted : (if p o.0 then o.1 else 0) ≡ 0 = ap (λ t. if t then o.1 else 0) (ap p same_at ∙ none) in
      let sum = weighed_cons p o os in
      (omega (arith, all, same_size, uncounted, sum), omega (arith, at, same_at), omega (arith, all, at, same_at, same_size))
  | inr later ↦
      let one = weight p o.0 o.1 in
      let more = weighed_one p (from + o.1) os end b size rest later none in
      let sum = weighed_cons p o os in
      (omega (arith, more.0, one, sum), omega (arith, more.1), more.2)
]

-- after an address nothing changes
weighed_same : (p r : ℕ → Bool) (from : ℕ) (olds : List (ℕ × ℕ)) (end : ℕ) → AreFilling from olds end → (b : ℕ) → b < from → ((x : ℕ) → (x ≡ b → ⊥) → r x ≡ p x) → weighed r olds ≡ weighed p olds
weighed_same p r from [] end filled b before others = refl
weighed_same p r from (o ∷ os) end (at, some, rest) b before others =
    let apart : o.0 ≡ b → ⊥ = λ same. absurd (omega (arith, at, before, same)) in
    let first : (if r o.0 then o.1 else 0) ≡ (if p o.0 then o.1 else 0) = ap (λ t. if t then o.1 else 0) (others o.0 apart) in
    let more = weighed_same p r (from + o.1) os end rest b (omega (arith, before)) others in
    let sum_p = weighed_cons p o os in
    let sum_r = weighed_cons r o os in
    omega (arith, first, more, sum_p, sum_r)

-- the sum with one more that counts
weighed_more : (p r : ℕ → Bool) (from : ℕ) (olds : List (ℕ × ℕ)) (end b size : ℕ) → AreFilling from olds end → Contains olds (b, size) → p b ≡ false → r b ≡ true
    → ((x : ℕ) → (x ≡ b → ⊥) → r x ≡ p x) → weighed r olds ≡ weighed p olds + size
weighed_more p r from [] end b size filled has none counts others = absurd (Contains-none (b, size) has)
weighed_more p r from (o ∷ os) end b size (at, some, rest) has none counts others = elim (Contains-cases o os (b, size) has) [
  | inl here ↦
      let same_at : o.0 ≡ b = ap (λ (x : ℕ × ℕ). x.0) here in
      let same_size : o.1 ≡ size = ap (λ (x : ℕ × ℕ). x.1) here in
      let before : (if p o.0 then o.1 else 0) ≡ 0 = ap (λ t. if t then o.1 else 0) (ap p same_at ∙ none) in
      let now : (if r o.0 then o.1 else 0) ≡ o.1 = ap (λ t. if t then o.1 else 0) (ap r same_at ∙ counts) in
      let rest_same = weighed_same p r (from + o.1) os end rest b (omega (arith, at, same_at, some)) others in
      let sum_p = weighed_cons p o os in
      let sum_r = weighed_cons r o os in
      omega (arith, before, now, rest_same, same_size, sum_p, sum_r)
  | inr later ↦
      let behind = (weighed_one p (from + o.1) os end b size rest later none).1 in
      let apart : o.0 ≡ b → ⊥ = λ same. absurd (omega (arith, at, some, behind, same)) in
      let first : (if r o.0 then o.1 else 0) ≡ (if p o.0 then o.1 else 0) = ap (λ t. if t then o.1 else 0) (others o.0 apart) in
      let more = weighed_more p r (from + o.1) os end b size rest later none counts others in
      let sum_p = weighed_cons p o os in
      let sum_r = weighed_cons r o os in
      omega (arith, first, more, sum_p, sum_r)
]

or_true : (t : Bool) → (t || true) ≡ true
or_true true = refl
or_true false = refl

-- The plan.

record IsGoing (spaces : SpacesState) (k : Collection) (words : List ℕ) (h : IsCollected spaces k words) (q : Planned) : Type 0 where
  apart : IsApart spaces k words 0 nothing q
  counted : weighed (gone k q) h.olds ≡ k.copied + q.size
  goes : (b to : ℕ) → copied_to q.copies b ≡ Some to → (spaces.base ≤ to) × (to < next_free spaces q)
  comes : (a b : ℕ) → copied_from q.copies a ≡ Some b → (spaces.base ≤ a) × AllLeadOn spaces h.olds (field_words words b)
  spelled : AllByRecursion IsRecord q.copies
  puts : AllByRecursion IsWrite q.writes

-- a step that can follow
record Goes (spaces : SpacesState) (k : Collection) (words : List ℕ) (h : IsCollected spaces k words) (q : Planned) (o : Option Planned) : Type 0 where
  next : Planned
  is : o ≡ Some next
  going : IsGoing spaces k words h next
  more : next_free spaces q ≤ next_free spaces next

stays : (spaces : SpacesState) (k : Collection) (words : List ℕ) (h : IsCollected spaces k words) (q : Planned) → IsGoing spaces k words h q → Goes spaces k words h q (Some q)
stays spaces k words h q g = record { next = q; is = refl; going = g; more = omega arith }

-- there is room for what is taken
room : (spaces : SpacesState) (k : Collection) (words : List ℕ) (h : IsCollected spaces k words) (q : Planned) → IsGoing spaces k words h q → next_free spaces q ≤ 2097152
room spaces k words h q g =
    let all = weighed_all (gone k q) (from_base spaces) h.olds (from_base spaces + k.used) h.filled in
    let counted = g.counted in let r = h.room in let few = h.few in omega (arith, all, counted, r, few)

taken : (spaces : SpacesState) (q : Planned) (at : ℕ) → spaces.base ≤ at → at < next_free spaces q → is_taken spaces q at ≡ true
taken spaces q at low high = and_from (nat_le spaces.base at) (nat_lt at (next_free spaces q)) (le-leb spaces.base at low) (lt-ltb at (next_free spaces q) high)

goes_written : (spaces : SpacesState) (k : Collection) (words : List ℕ) (h : IsCollected spaces k words) (q : Planned) (at to : ℕ) → IsGoing spaces k words h q
    → spaces.base ≤ at → at < next_free spaces q → spaces.base ≤ to → to < next_free spaces q → Goes spaces k words h q (written spaces q at to)
goes_written spaces k words h q at to g at_low at_high to_low to_high =
    let r = room spaces k words h q g in
    let next = record q { writes = q.writes ++ (at, bits (word.Stable to)) ∷ [] } in
    let can : can_write spaces q at to ≡ true =
    and_from (is_taken spaces q at) (is_taken spaces q to && nat_lt to 2097152) (taken spaces q at at_low at_high)
    (and_from (is_taken spaces q to) (nat_lt to 2097152) (taken spaces q to to_low to_high) (lt-ltb to 2097152 (omega (arith, r, to_high)))) in
    record {
      next = next;
      is = ap (λ t. if t then Some next else None) can;
      going = record {
        apart = record { inside = g.apart.inside; apart = g.apart.apart; old = g.apart.old; more = g.apart.more };
        counted = g.counted;
        goes = g.goes;
        comes = g.comes;
        spelled = g.spelled;
        puts = AllByRecursion-append IsWrite q.writes ((at, bits (word.Stable to)) ∷ []) g.puts ((omega (arith, r, at_high), (word.Stable to, omega (arith, r, to_high), refl)), tt);
      };
      more = omega arith;
    }

-- an object of the from-space is copied
going_copied : (spaces : SpacesState) (k : Collection) (words : List ℕ) (h : IsCollected spaces k words) (q : Planned) (b size n : ℕ) → IsGoing spaces k words h q
    → Contains h.olds (b, size) → gone k q b ≡ false → object_at words b ≡ Some n → size ≡ 2 + n → AllLeadOn spaces h.olds (field_words words b)
    → IsObjectWords (object_words words b n) → IsGoing spaces k words h (with_copy spaces words q b n)
going_copied spaces k words h q b size n g has none object whole lead spell = record {
  apart = apart_copy spaces k words 0 nothing q b n g.apart object;
  counted =
      let more = weighed_more (gone k q) (gone k r) (from_base spaces) h.olds (from_base spaces + k.used) b size h.filled has none counts others in
      let counted = g.counted in omega (arith, more, counted, whole);
  goes = λ c to is. goes_more c to (b == c) refl is;
  comes = λ a c is. comes_more a c (next_free spaces q == a) refl is;
  spelled =
      let ends = (weighed_one (gone k q) (from_base spaces) h.olds (from_base spaces + k.used) b size h.filled has none).2 in
      let high = room spaces k words h q g in
      let few = h.few in
      let fits = h.fits in
      AllByRecursion-append IsRecord q.copies (Copy b (next_free spaces q) (object_words words b n) ∷ []) g.spelled
      (record { from_fits = omega (arith, ends, few, fits, whole); to_fits = omega (arith, high); object = spell }, tt);
  puts = g.puts;
}
  where
    r : Planned
    r = with_copy spaces words q b n

    told : (x : ℕ) (t : Bool) → (b == x) ≡ t → copied_to (with_copy spaces words q b n).copies x ≡ (if t then Some (next_free spaces q) else copied_to q.copies x)
    told x t is = going_more q.copies b (next_free spaces q) (object_words words b n) x ∙ ap (λ t. if t then Some (next_free spaces q) else copied_to q.copies x) is

    counts : gone k (with_copy spaces words q b n) b ≡ true
    counts = ap (λ o. contains k.moved b || is_some o) (told b true (eq-eqb b b refl)) ∙ or_true (contains k.moved b)

    others : (x : ℕ) → (x ≡ b → ⊥) → gone k (with_copy spaces words q b n) x ≡ gone k q x
    others x apart = other (b == x) refl
      where
        other : (t : Bool) → (b == x) ≡ t → gone k (with_copy spaces words q b n) x ≡ gone k q x
        other true is = absurd (apart (sym (eqb-true b x is)))
        other false is = ap (λ o. contains k.moved x || is_some o) (told x false is)

    goes_more : (c to : ℕ) (t : Bool) → (b == c) ≡ t → copied_to (with_copy spaces words q b n).copies c ≡ Some to → (spaces.base ≤ to) × (to < next_free spaces (with_copy spaces words q b n))
    goes_more c to true same is = let here : next_free spaces q ≡ to = same_Some (next_free spaces q) to (sym (told c true same) ∙ is) in (omega (arith, here), omega (arith, here))
    goes_more c to false same is = let before = g.goes c to (sym (told c false same) ∙ is) in (before.0, let high = before.1 in omega (arith, high))

    from_told : (a : ℕ) (t : Bool) → (next_free spaces q == a) ≡ t → copied_from (with_copy spaces words q b n).copies a ≡ (if t then Some b else copied_from q.copies a)
    from_told a t is = coming_more q.copies b (next_free spaces q) (object_words words b n) a ∙ ap (λ t. if t then Some b else copied_from q.copies a) is

    comes_more : (a c : ℕ) (t : Bool) → (next_free spaces q == a) ≡ t → copied_from (with_copy spaces words q b n).copies a ≡ Some c → (spaces.base ≤ a) × AllLeadOn spaces h.olds (field_words words c)
    comes_more a c true same is =
        let here : b ≡ c = same_Some b c (sym (from_told a true same) ∙ is) in
        let place = eqb-true (next_free spaces q) a same in
        (omega (arith, place), subst (λ (x : ℕ). AllLeadOn spaces h.olds (field_words words x)) here lead)
    comes_more a c false same is = g.comes a c (sym (from_told a false same) ∙ is)

-- it may be copied
may_copy : (spaces : SpacesState) (k : Collection) (words : List ℕ) (h : IsCollected spaces k words) (q : Planned) (b size n : ℕ) → IsGoing spaces k words h q
    → Contains h.olds (b, size) → gone k q b ≡ false → size ≡ 2 + n → can_copy spaces k q b (2 + n) ≡ true
may_copy spaces k words h q b size n g has none whole =
    let one = weighed_one (gone k q) (from_base spaces) h.olds (from_base spaces + k.used) b size h.filled has none in
    let counted = g.counted in
    let r = h.room in
    let sum = one.0 in
    let ends = one.2 in
    let unmoved = (or_parts (contains k.moved b) (is_some (copied_to q.copies b)) none).0 in
    and_from (is_left spaces k b (2 + n)) (has_room spaces k q (2 + n))
    (and_from (nat_le (b + (2 + n)) (from_base spaces + k.used)) (not (contains k.moved b)) (le-leb (b + (2 + n)) (from_base spaces + k.used) (omega (arith, ends, whole))) (ap not unmoved))
    (and_from (nat_le (k.copied + (q.size + (2 + n))) k.used) (nat_le (spaces.used + (q.size + (2 + n))) (space_words spaces.pages))
    (le-leb (k.copied + (q.size + (2 + n))) k.used (omega (arith, sum, counted, whole)))
    (le-leb (spaces.used + (q.size + (2 + n))) (space_words spaces.pages) (omega (arith, sum, counted, whole, r))))

-- what continues a plan that continues the first continues the first
goes_on : (spaces : SpacesState) (k : Collection) (words : List ℕ) (h : IsCollected spaces k words) (q : Planned) (o : Option Planned) (f : Planned → Option Planned)
    → (one : Goes spaces k words h q o) → Goes spaces k words h one.next (f one.next) → Goes spaces k words h q (option_and_then f o)
goes_on spaces k words h q o f one two =
    record { next = two.next; is = ap (option_and_then f) one.is ∙ two.is; going = two.going; more = let a = one.more in let b = two.more in omega (arith, a, b) }

goes_same : (spaces : SpacesState) (k : Collection) (words : List ℕ) (h : IsCollected spaces k words) (q : Planned) (o p : Option Planned) → o ≡ p → Goes spaces k words h q p
    → Goes spaces k words h q o
goes_same spaces k words h q o p same goes = record { next = goes.next; is = same ∙ goes.is; going = goes.going; more = goes.more }

-- a field leads to an object that was copied before
goes_forwarded : (spaces : SpacesState) (k : Collection) (words : List ℕ) (h : IsCollected spaces k words) (q : Planned) (at b : ℕ) → IsGoing spaces k words h q
    → spaces.base ≤ at → at < next_free spaces q → IsForwarded spaces words b → Goes spaces k words h q (led spaces k words q at b (header (slice_index words b)))
goes_forwarded spaces k words h q at b g low high f =
    let to_low = f.low in
    let to_high = f.high in
    goes_same spaces k words h q (led spaces k words q at b (header (slice_index words b))) (written spaces q at f.to) (ap (led spaces k words q at b) f.leads)
    (goes_written spaces k words h q at f.to g low high to_low (omega (arith, to_high)))

-- or to one that is copied now
goes_copied : (spaces : SpacesState) (k : Collection) (words : List ℕ) (h : IsCollected spaces k words) (q : Planned) (at b size : ℕ) → IsGoing spaces k words h q
    → spaces.base ≤ at → at < next_free spaces q → Contains h.olds (b, size) → gone k q b ≡ false → IsWaiting spaces words h.olds b size
    → Goes spaces k words h q (led spaces k words q at b (header (slice_index words b)))
goes_copied spaces k words h q at b size g low high has none w =
    let n = w.fields in
    let r = with_copy spaces words q b n in
    let stands = (object_header words b n w.stands).0 in
    let next = λ (x : Planned). written spaces x at (next_free spaces q) in
    let length_is : whole_length words b (Some (Length n)) ≡ Some n = sym (ap (whole_length words b) stands) ∙ w.stands in
    let can = may_copy spaces k words h q b size n g has none w.whole in
    let one : Goes spaces k words h q (copied spaces k words q b (whole_length words b (Some (Length n)))) = record {
      next = r;
      is = ap (copied spaces k words q b) length_is ∙ ap (λ t. if t then Some r else None) can;
      going = going_copied spaces k words h q b size n g has none w.stands w.whole w.lead w.spelled;
      more = omega arith;
    } in
    goes_same spaces k words h q (led spaces k words q at b (header (slice_index words b))) (option_and_then next (copied spaces k words q b (whole_length words b (Some (Length n)))))
    (ap (led spaces k words q at b) stands)
    (goes_on spaces k words h q (copied spaces k words q b (whole_length words b (Some (Length n)))) next one
    (goes_written spaces k words h r at (next_free spaces q) one.going low (omega (arith, high)) (omega arith) (omega arith)))

goes_led : (spaces : SpacesState) (k : Collection) (words : List ℕ) (h : IsCollected spaces k words) (q : Planned) (at b size : ℕ) (t : Bool) → contains k.moved b ≡ t → IsGoing spaces k words h q
    → spaces.base ≤ at → at < next_free spaces q → Contains h.olds (b, size) → copied_to q.copies b ≡ None → Goes spaces k words h q (led spaces k words q at b (header (slice_index words b)))
goes_led spaces k words h q at b size true moved g low high has none = goes_forwarded spaces k words h q at b g low high (h.forwarded b size has moved)
goes_led spaces k words h q at b size false moved g low high has none =
    let left : gone k q b ≡ false = or_from (contains k.moved b) (is_some (copied_to q.copies b)) moved (ap is_some none) in
    goes_copied spaces k words h q at b size g low high has left (h.waiting b size has moved)

goes_led_on : (spaces : SpacesState) (k : Collection) (words : List ℕ) (h : IsCollected spaces k words) (q : Planned) (at b size : ℕ) (o : Option ℕ) → copied_to q.copies b ≡ o → IsGoing spaces k words h q
    → spaces.base ≤ at → at < next_free spaces q → Contains h.olds (b, size) → Goes spaces k words h q (led_on spaces k words q at b o)
goes_led_on spaces k words h q at b size (Some to) known g low high has = let place = g.goes b to known in goes_written spaces k words h q at to g low high place.0 place.1
goes_led_on spaces k words h q at b size None known g low high has = goes_led spaces k words h q at b size (contains k.moved b) refl g low high has known

goes_from : (spaces : SpacesState) (k : Collection) (words : List ℕ) (h : IsCollected spaces k words) (q : Planned) (at b : ℕ) (t : Bool) → in_from_space spaces b ≡ t → IsGoing spaces k words h q
    → spaces.base ≤ at → at < next_free spaces q → LeadsOn spaces h.olds (Some (word.Stable b))
    → Goes spaces k words h q (if t then led_on spaces k words q at b (copied_to q.copies b) else Some q)
goes_from spaces k words h q at b true within g low high leads = let old = leads within in goes_led_on spaces k words h q at b old.0 (copied_to q.copies b) refl g low high old.1
goes_from spaces k words h q at b false within g low high leads = stays spaces k words h q g

goes_follow : (spaces : SpacesState) (k : Collection) (words : List ℕ) (h : IsCollected spaces k words) (q : Planned) (at : ℕ) (meant : Option Word) → IsGoing spaces k words h q
    → spaces.base ≤ at → at < next_free spaces q → LeadsOn spaces h.olds meant → Goes spaces k words h q (follow spaces k words q at meant)
goes_follow spaces k words h q at None g low high leads = stays spaces k words h q g
goes_follow spaces k words h q at (Some word.Null) g low high leads = stays spaces k words h q g
goes_follow spaces k words h q at (Some (word.Int n)) g low high leads = stays spaces k words h q g
goes_follow spaces k words h q at (Some (word.Volatile i)) g low high leads = stays spaces k words h q g
goes_follow spaces k words h q at (Some (word.Stable b)) g low high leads = goes_from spaces k words h q at b (in_from_space spaces b) refl g low high leads

goes_follow_all : (spaces : SpacesState) (k : Collection) (words : List ℕ) (h : IsCollected spaces k words) (q : Planned) (at : ℕ) (ws : List ℕ) → IsGoing spaces k words h q
    → spaces.base ≤ at → at + length ws ≤ next_free spaces q → AllLeadOn spaces h.olds ws → Goes spaces k words h q (follow_all spaces k words q at ws)
goes_follow_all spaces k words h q at [] g low high lead = stays spaces k words h q g
goes_follow_all spaces k words h q at (w ∷ ws) g low high lead =
    let one = goes_follow spaces k words h q at (meaning w) g low (omega (arith, high)) lead.0 in
    let more = one.more in
    goes_on spaces k words h q (follow spaces k words q at (meaning w)) (λ next. follow_all spaces k words next (at + 1) ws) one
    (goes_follow_all spaces k words h one.next (at + 1) ws one.going (omega (arith, low)) (omega (arith, high, more)) lead.1)

-- what is gray has fields that lead on
gray_leads : (spaces : SpacesState) (k : Collection) (words : List ℕ) (h : IsCollected spaces k words) (q : Planned) (at : ℕ) (o : Option ℕ) → copied_from q.copies at ≡ o → IsGoing spaces k words h q
    → (contains k.gray at || is_some o) ≡ true → (spaces.base ≤ at) × AllLeadOn spaces h.olds (field_words words (unwrap_or o at))
gray_leads spaces k words h q at (Some b) known g gray = g.comes at b known
gray_leads spaces k words h q at None known g gray =
    let own : contains k.gray at ≡ true = or_none (contains k.gray at) ∙ gray in (h.gray_here at own, h.gray_lead at own)
  where
    or_none : (t : Bool) → t ≡ (t || false)
    or_none true = refl
    or_none false = refl

goes_gray : (spaces : SpacesState) (k : Collection) (words : List ℕ) (h : IsCollected spaces k words) (q : Planned) (at : ℕ) (t : Bool) → is_gray k q at ≡ t → IsGoing spaces k words h q
    → Goes spaces k words h q (if t then follow_all spaces k words q (at + 2) (field_words words (source q at)) else Some q)
goes_gray spaces k words h q at false gray g = stays spaces k words h q g
goes_gray spaces k words h q at true gray g =
    let leads = gray_leads spaces k words h q at (copied_from q.copies at) refl g gray in
    let low = leads.0 in
    let inside = g.apart.inside at gray in
    goes_follow_all spaces k words h q (at + 2) (field_words words (source q at)) g (omega (arith, low)) (omega (arith, inside)) leads.1

goes_visit_all : (spaces : SpacesState) (k : Collection) (words : List ℕ) (h : IsCollected spaces k words) (q : Planned) (at count : ℕ) → IsGoing spaces k words h q
    → Goes spaces k words h q (visit_all spaces k words q at count)
unfolding visit_all
goes_visit_all spaces k words h q at zero g = stays spaces k words h q g
goes_visit_all spaces k words h q at (suc count) g =
    let one = goes_gray spaces k words h q at (is_gray k q at) refl g in
    goes_on spaces k words h q (visit spaces k words q at) (λ next. visit_all spaces k words next (at + 1) count) one (goes_visit_all spaces k words h one.next (at + 1) count one.going)

none_gone : (k : Collection) (olds : List (ℕ × ℕ)) → weighed (gone k nothing) olds ≡ moved_words k olds
none_gone k [] = refl
none_gone k (o ∷ os) =
    let first : (if gone k nothing o.0 then o.1 else 0) ≡ (if contains k.moved o.0 then o.1 else 0) = ap (λ t. if t then o.1 else 0) (or_none (contains k.moved o.0)) in
    let more = none_gone k os in
    let sum_p = weighed_cons (contains k.moved) o os in
    let sum_r = weighed_cons (gone k nothing) o os in
    omega (arith, first, more, sum_p, sum_r)
  where
    or_none : (t : Bool) → (t || false) ≡ t
    or_none true = refl
    or_none false = refl

-- all of a page is visited
run : (spaces : SpacesState) (k : Collection) (words : List ℕ) (page : ℕ) (h : IsCollected spaces k words) → Goes spaces k words h nothing (visit_all spaces k words nothing (64 * page) 64)
run spaces k words page h =
    let apart = apart_first spaces k words h.gray_apart in
    let first : IsGoing spaces k words h nothing = record {
      apart = record { inside = apart.inside; apart = apart.apart; old = omega arith; more = λ a gray. inl gray };
      counted = let same = none_gone k h.olds in let counted = h.counted in omega (arith, same, counted);
      goes = λ b to is. cc;
      comes = λ a b is. cc;
      spelled = tt;
      puts = tt;
    } in
    goes_visit_all spaces k words h nothing (64 * page) 64 first

scan_of_page : (spaces : SpacesState) (k : Collection) (words : List ℕ) (page : ℕ) → is_current spaces page ≡ true → scan spaces k words page ≡ visit_all spaces k words nothing (64 * page) 64
scan_of_page spaces k words page current = ap (λ t. if t then visit_all spaces k words nothing (64 * page) 64 else None) current

-- the scan of a page of a heap can follow
pub total : (spaces : SpacesState) (k : Collection) (words : List ℕ) (page : ℕ) → IsCollected spaces k words → is_current spaces page ≡ true → (q : Planned) × (scan spaces k words page ≡ Some q)
total spaces k words page h current = let goes = run spaces k words page h in (goes.next, scan_of_page spaces k words page current ∙ goes.is)

-- what holds of each plan is kept
nothing_kept : (spaces : SpacesState) (k : Collection) (words : List ℕ) → IsKept (λ q. Unit {0}) spaces k words
nothing_kept spaces k words = record { write = λ q r at to p is. tt; copy = λ q b n p within none object can. tt }

page_small : (spaces : SpacesState) (page : ℕ) → spaces.base + space_words spaces.pages ≤ 2097152 → is_current spaces page ≡ true → page < 4294967296
page_small spaces page few current =
    let below = ltb-true (64 * page) (spaces.base + space_words spaces.pages) (and_parts (nat_le spaces.base (64 * page)) (nat_lt (64 * page) (spaces.base + space_words spaces.pages)) current).1 in
    omega (arith, below, few)

-- its records have a spelling
pub all_spelled : (spaces : SpacesState) (k : Collection) (words : List ℕ) (page : ℕ) (records : List Record) → IsCollected spaces k words → scan_records spaces k words page ≡ Some records → AllByRecursion IsRecord records
all_spelled spaces k words page records h is =
    let plan = planned_parts page (scan spaces k words page) records is in
    let current = (kept_scan (λ q. Unit {0}) spaces k words (nothing_kept spaces k words) page plan.0 tt plan.1).0 in
    let goes = run spaces k words page h in
    let same : goes.next ≡ plan.0 = same_Some goes.next plan.0 (sym (scan_of_page spaces k words page current ∙ goes.is) ∙ plan.1) in
    let few = (bounds_planned spaces k words page plan.0 h.gray_apart plan.1).writes in
    let going = subst (IsGoing spaces k words h) same goes.going in
    let last : IsRecord (Scan page plan.0.writes) = record { page_fits = page_small spaces page h.few current; few = omega (arith, few); each = going.puts } in
    subst (AllByRecursion IsRecord) plan.2 (AllByRecursion-append IsRecord plan.0.copies (Scan page plan.0.writes ∷ []) going.spelled (last, tt))
