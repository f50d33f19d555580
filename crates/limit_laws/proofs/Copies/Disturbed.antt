-- A scan while transactions are active: what it copies is kept, if what gray objects and those that remain refer to is.
use Rattle.std.proofs.Common.{◌≡◌, ◌≢◌, ◌⊎◌, inl, inr, ℕ, zero, suc, ◌+◌, ◌*◌, ◌<◌, ◌≤◌, Bool, true, false, List, [], ◌∷◌, ◌++◌, length, Option, None, Some, is_some, refl, sym, ap, ◌∙◌, subst, arith}
use Rattle.std.specs.Prelude.{◌||◌, Contains, not, map, filter, fold, slice_get, if◌then◌else◌, ◌==◌}
use Rattle.std.specs.List.{AllByRecursion}
use Rattle.std.specs.FinSet.{contains}
use Rattle.std.proofs.lemmas.Bool.{eqb-false, eqb-true}
use Rattle.std.proofs.lemmas.List.Sums.{fold-append}
use Rattle.std.proofs.lemmas.Option.{option_and_then_some, same_Some}
use Rattle.graph_model.specs.declared.id.Id.{Id}
use Rattle.graph_model.specs.declared.val.Val.{Val}
use Rattle.graph_model.specs.declared.val.Val.TheVariants.{Ref}
use Rattle.graph_model.specs.Graph.{Graph, fields, is_same_id}
use Rattle.heap_words.specs.declared.Word.TheVariants as word
use Rattle.heap_words.specs.Word.{bits}
use Rattle.heap_spaces.specs.Collection.{Collection}
use Rattle.log_records.specs.declared.Record.{Record}
use Rattle.log_records.specs.declared.Record.TheVariants.{Copy}
use Rattle.log_records.specs.declared.Record.TheVariants as record_of
use Rattle.log_machine.specs.declared.UndoEntry.{UndoEntry}
use Rattle.log_machine.specs.Collecting.{collecting_after}
use Rattle.log_machine.specs.Machine.{State, field_at, spaces_of}
use Rattle.log_machine.proofs.CopyRows.{copy_told}
use Rattle.object_layout.specs.Layout.{object_at}
use Rattle.object_layout.proofs.WalkLaws.{Contains-head, Contains-rest}
use Rattle.graph_words.specs.Places.{Places, address_of, addresses}
use Rattle.graph_words.proofs.Places.Addresses.{address_of-cases, address_of-head}
use Rattle.graph_words.proofs.Seal.Places.{address_of-append_left, address_of-append_right}
use Rattle.collection_words.specs.Completed.{StandsCompleted, future}
use Rattle.collection_words.specs.LaidOut.{IsUnderway, LeadsHere, is_gray_field}
use Rattle.collection_words.specs.Placed.{HaveOwnNames}
use Rattle.collection_words.specs.Placing.{Placing, moved_by, moved_by_all, placing_of, put_at}
use Rattle.collection_words.specs.Writes.{AreBacked, IsHereWrite}
use Rattle.collection_words.proofs.Copy.Named.{named, own_front}
use Rattle.collection_words.proofs.Copy.Stands.{completed_own}
use Rattle.collection_words.proofs.Laid.Followed.{place_current}
use Rattle.collection_words.proofs.Laid.Old.{old_in_other}
use Rattle.collection_words.proofs.Laid.Sources.{IsCollecting}
use Rattle.collection_words.proofs.Laid.Underway.{underway}
use Rattle.collection_words.proofs.Laid.Within.{placed_within, start_within}
use Rattle.collection_words.proofs.Laid.Write.{unmoved_left}
use Rattle.page_scanner.specs.Passing.{collecting_after_all}
use Rattle.page_scanner.specs.Scan.{Planned, coming, copied_from, is_current, nothing, scan, scan_records, visit_all}
use Rattle.page_scanner.proofs.Steps.{planned_parts}
use Rattle.scan_laws.proofs.Collected.{gray_apart}
use Rattle.scan_laws.proofs.Copied.{IsDone, IsLedWrite, View}
use Rattle.scan_laws.proofs.Made.{made_same}
use Rattle.scan_laws.proofs.Visited.{visits}
use Rattle.seen_laws.specs.Heap.{IsHeap, IsUnwritten}
use Rattle.seen_laws.proofs.Reading.{object_here}
use Rattle.core_laws.proofs.Collecting.Entries.{all_at}
use Rattle.limit_laws.proofs.Copies.Edges.{led_edge}
use Rattle.limit_laws.proofs.Copies.Refers.{AreReferred, scan_refers}
use Rattle.limit_laws.proofs.Copies.Scans.{GoesTo, address_cases, put_to, referred_to}
use Rattle.limit_laws.proofs.Events.Kinds.{IsCopy, planned_copies}

-- Where copies go.

-- past what was used
goes_behind : (s n : State) (copies : List Record) (at : ℕ) → AllByRecursion IsCopy copies → collecting_after_all s copies ≡ Some n → GoesTo at copies → s.base + s.used ≤ at
goes_behind s n [] at all passes goes = absurd goes
goes_behind s n (Copy from to words ∷ rs) at all passes goes =
    option_and_then_some (λ next. collecting_after_all next rs) (collecting_after s (Copy from to words)) n passes (λ next one rest.
    let told = copy_told s next (record { from = from; to = to; words = words }) one in
    let here = told.can.at in
    let base : next.base ≡ s.base = ap (λ (x : State). x.base) (sym told.is) in
    let used : next.used ≡ s.used + length words = ap (λ (x : State). x.used) (sym told.is) in
    elim goes [
      | inl first ↦ omega (arith, here, first)
      | inr later ↦ let low = goes_behind next n rs at all.1 rest later in omega (arith, low, base, used)
    ])
goes_behind s n (r ∷ rs) at all passes goes = absurd all.0

-- a copy that comes from somewhere is one of these
comes_goes : (at : ℕ) (copies : List Record) (found : Option ℕ) (b : ℕ) → AllByRecursion IsCopy copies → fold (coming at) found copies ≡ Some b → (found ≡ Some b) ⊎ GoesTo at copies
comes_goes at [] found b all is = inl is
comes_goes at (Copy from to words ∷ rs) found b all is = by (to == at) refl (comes_goes at rs (if to == at then Some from else found) b all.1 is)
  where
    by : (t : Bool) → (to == at) ≡ t → ((if t then Some from else found) ≡ Some b) ⊎ GoesTo at rs → (found ≡ Some b) ⊎ ((to ≡ at) ⊎ GoesTo at rs)
    by true here either = inr (inl (eqb-true to at here))
    by false here (inl was) = inl was
    by false here (inr later) = inr (inr later)
comes_goes at (r ∷ rs) found b all is = absurd all.0

-- Names.

-- an object has one place alone
pub own_apart : (ps qs : Places) (id : Id) (at : ℕ) → HaveOwnNames (ps ++ qs) → address_of ps id ≡ Some at → address_of qs id ≡ None
own_apart [] qs id at own there = absurd (cc there)
own_apart (p ∷ ps) qs id at own there = elim (address_of-cases p ps id at there) [
  | inl here ↦ none_behind ps qs id (ap (address_of (ps ++ qs)) (sym here.0) ∙ own.0)
  | inr later ↦ own_apart ps qs id at own.1 later
]
  where
    none_behind : (ps qs : Places) (id : Id) → address_of (ps ++ qs) id ≡ None → address_of qs id ≡ None
    none_behind ps qs id none = by (address_of ps id) refl
      where
        by : (o : Option ℕ) → address_of ps id ≡ o → address_of qs id ≡ None
        by None is = sym (address_of-append_right ps qs id is) ∙ none
        by (Some x) is = let clash = sym (address_of-append_left ps qs id x is) ∙ none in absurd (cc clash)

pub some_none : {o : Option ℕ} → o ≡ None → is_some o ≡ true → ⊥
some_none none some = cc (none, some)

pub some_later : (b : Bool) (x : ℕ) (o : Option ℕ) → is_some o ≡ true → is_some (if b then Some x else o) ≡ true
some_later true x o is = refl
some_later false x o is = is

some_either : (b : Bool) (x : ℕ) (o r : Option ℕ) → is_some (if b then Some x else o) ≡ true → (is_some o ≡ true → is_some r ≡ true) → is_some (if b then Some x else r) ≡ true
some_either true x o r is later = refl
some_either false x o r is later = later is

-- what is kept was there
pub kept_some : (ps : Places) (f : Id × ℕ → Bool) (id : Id) → is_some (address_of (filter f ps) id) ≡ true → is_some (address_of ps id) ≡ true
kept_some [] f id is = is
kept_some (p ∷ ps) f id is = by (f p) is (kept_some ps f id)
  where
    by : (b : Bool) → is_some (address_of (if b then p ∷ filter f ps else filter f ps) id) ≡ true → (is_some (address_of (filter f ps) id) ≡ true → is_some (address_of ps id) ≡ true) → is_some (address_of (p ∷ ps) id) ≡ true
    by true is later = some_either (is_same_id p.0 id) p.1 (address_of (filter f ps) id) (address_of ps id) is later
    by false is later = some_later (is_same_id p.0 id) p.1 (address_of ps id) (later is)

-- and so was what is put elsewhere
pub put_some : (ps : Places) (from to : ℕ) (id : Id) (at : ℕ) → address_of (put_at ps from to) id ≡ Some at → is_some (address_of ps id) ≡ true
put_some [] from to id at is = absurd (cc is)
put_some (p ∷ ps) from to id at is = by (p.1 == from) is (put_some ps from to id at)
  where
    by : (b : Bool) → address_of (map (λ q. (q.0, to)) (if b then p ∷ filter (λ q. q.1 == from) ps else filter (λ q. q.1 == from) ps)) id ≡ Some at
        → (address_of (put_at ps from to) id ≡ Some at → is_some (address_of ps id) ≡ true) → is_some (address_of (p ∷ ps) id) ≡ true
    by true is later = elim (address_of-cases (p.0, to) (put_at ps from to) id at is) [
      | inl first ↦ ap is_some (ap (address_of (p ∷ ps)) (sym first.0) ∙ address_of-head p ps)
      | inr rest ↦ some_later (is_same_id p.0 id) p.1 (address_of ps id) (later rest)
    ]
    by false is later = some_later (is_same_id p.0 id) p.1 (address_of ps id) (later is)

-- An object that stands after copies stood there before, or remained and went there.
pub record WentThere (p : Placing) (copies : List Record) (id : Id) (at : ℕ) : Type 0 where
  pub goes : GoesTo at copies
  pub left : is_some (address_of p.remaining id) ≡ true

pub old_or_left : (p : Placing) (copies : List Record) → AllByRecursion IsCopy copies → (id : Id) (at : ℕ) → address_of (moved_by_all p copies).places id ≡ Some at → (address_of p.places id ≡ Some at) ⊎ WentThere p copies id at
old_or_left p [] all id at is = inl is
old_or_left p (Copy from to words ∷ rs) all id at is = elim (old_or_left (moved_by p (Copy from to words)) rs all.1 id at is) [
  | inl before ↦ elim (address_cases p.places (put_at p.remaining from to) id at before) [
    | inl old ↦ inl old
    | inr new ↦ inr (record { goes = inl (put_to p.remaining from to id at new); left = put_some p.remaining from to id at new })
  ]
  | inr later ↦ inr (record { goes = inr later.goes; left = kept_some p.remaining (λ q. not (q.1 == from)) id later.left })
]
old_or_left p (r ∷ rs) all id at is = absurd all.0

-- Writes that may be taken back.

-- none of these writes is of a word, or one is
unwritten_or : (us : List UndoEntry) (x : ℕ) → IsUnwritten us x ⊎ ((u : UndoEntry) × Contains us u × (x ≡ field_at u.object u.field))
unwritten_or [] x = inl tt
unwritten_or (u ∷ us) x = by (x == field_at u.object u.field) refl (unwritten_or us x)
  where
    by : (b : Bool) → (x == field_at u.object u.field) ≡ b → IsUnwritten us x ⊎ ((v : UndoEntry) × Contains us v × (x ≡ field_at v.object v.field))
        → IsUnwritten (u ∷ us) x ⊎ ((v : UndoEntry) × Contains (u ∷ us) v × (x ≡ field_at v.object v.field))
    by true same rest = inr (u, Contains-head u us, eqb-true x (field_at u.object u.field) same)
    by false other (inl rest) = inl (eqb-false x (field_at u.object u.field) other, rest)
    by false other (inr later) = inr (later.0, Contains-rest u us later.0 later.1, later.2)

-- The scan.

-- a graph as a transaction that has made that many objects sees it, where these writes may be taken back
abbrev view_of : ℕ → ℕ → Graph → List UndoEntry → Placing → View
view_of t made g us p = record { t = t; made = made; g = g; us = us; before = p }

-- nothing is copied at first
done_first : (s : State) (k : Collection) (places remaining : Places) (words : List ℕ) (t made : ℕ) (g : Graph) (us : List UndoEntry) (is : IsUnderway s k places remaining words) → AreBacked places words us
    → StandsCompleted t made places remaining g us words s → IsDone s k places (underway is).from.starts words (view_of t made g us (placing_of places remaining)) nothing
done_first s k places remaining words t made g us is backed stands = record {
  next = s;
  now = k;
  currents = places;
  rest = remaining;
  moved = words;
  placed = refl;
  untouched = record { undo = refl; commits = refl; next = refl };
  copied = record { kept = λ id at there. there; fewer = λ id none. none };
  births = λ tells. tells;
  puts = refl;
  passes = refl;
  is = is;
  backed = backed;
  stands = stands;
  pages = refl;
  base = refl;
  used = omega arith;
  olds = old_in_other (underway is);
  goes = λ b to none. absurd (cc none);
  left = λ b n start unmoved none object. (unmoved_left (underway is).from b start unmoved, made_same words b n object);
  heads = λ b start none. refl;
  here = λ at n has object. (has, made_same words at n object);
  comes = λ at b none. absurd (cc none);
  grays = λ at gray. or_none (contains k.gray at) ∙ gray;
  writes = tt;
}
  where
    or_none : (t : Bool) → (t || false) ≡ t
    or_none true = refl
    or_none false = refl

-- A field that was redirected, of an object that was gray or came as a copy. It refers to what it was redirected to, if none of these writes wrote it.
record IsLedFrom (k : Collection) (p : Placing) (copies : List Record) (g : Graph) (us : List UndoEntry) (x : ℕ) (y : Id) : Type 0 where
  z : Id
  object : ℕ
  field : ℕ
  is : x ≡ field_at object field
  stood : ((address_of p.places z ≡ Some object) × (contains k.gray object ≡ true)) ⊎ WentThere p copies z object
  there : address_of (moved_by_all p copies).places z ≡ Some object
  refers : IsUnwritten us x → slice_get (fields g z) field ≡ Some (Ref y)

module _ (s : State) (k : Collection) (places remaining : Places) (words : List ℕ) (is0 : IsUnderway s k places remaining words) (t made : ℕ) (g : Graph) (us : List UndoEntry)
    (q : Planned) (d : IsDone s k places (underway is0).from.starts words (view_of t made g us (placing_of places remaining)) q) (copies : AllByRecursion IsCopy q.copies) where
  is : IsCollecting d.next d.now d.currents d.rest d.moved
  is = underway d.is

  -- a field that was redirected is of a gray object
  led_gray : (write : ℕ × ℕ) → (w : IsLedWrite d.next d.currents d.moved write) → contains d.now.gray w.object ≡ true
  led_gray write w = by (is_gray_field d.next.collection w.object w.field) refl
    where
      by : (b : Bool) → is_gray_field d.next.collection w.object w.field ≡ b → contains d.now.gray w.object ≡ true
      by true gray = sym (ap (λ o. is_gray_field o w.object w.field) is.run) ∙ gray
      by false gray =
          let here = is.laid.here w.object w.is.start w.is.fields w.field w.is.stands w.is.within gray in
          let there = subst (LeadsHere (addresses d.currents)) w.back here in
          absurd (cc (sym (place_current is.spaced is.laid w.from there) ∙ w.old))

  -- one that stood here before was gray then
  old_gray : (z : Id) (at : ℕ) → address_of places z ≡ Some at → contains d.now.gray at ≡ true → contains k.gray at ≡ true
  old_gray z at there gray = by (contains k.gray at) refl (d.grays at gray)
    where
      by : (b : Bool) → contains k.gray at ≡ b → (b || is_some (copied_from q.copies at)) ≡ true → contains k.gray at ≡ true
      by true was either = was
      by false was either =
          let from = some_of (copied_from q.copies at) either in
          let goes = came from.0 (comes_goes at q.copies None from.0 copies from.1) in
          let low = goes_behind s d.next q.copies at copies d.passes goes in
          let within = placed_within is0.laid z at there in
          let high = within.below in
          absurd (omega arith)
        where
          some_of : (o : Option ℕ) → is_some o ≡ true → (x : ℕ) × (o ≡ Some x)
          some_of None never = cc never
          some_of (Some x) is = (x, refl)

          came : (b : ℕ) → (None ≡ Some b) ⊎ GoesTo at q.copies → GoesTo at q.copies
          came b (inl never) = absurd (cc never)
          came b (inr goes) = goes

  -- a current object has as many fields as it has in the graph
  size_of : (z : Id) (at n : ℕ) → address_of d.currents z ≡ Some at → object_at d.moved at ≡ Some n → n ≡ length (fields g z)
  size_of z at n there object =
      let heap : IsHeap d.next d.currents d.rest d.moved = record { spaced = is.spaced; long = is.long; laid = is.laid } in
      same_Some n (length (fields g z)) (sym object ∙ object_here us heap d.backed d.stands z at there)

  -- an object that was copied stands past the words that were used
  behind : (z : Id) (at : ℕ) → WentThere (placing_of places remaining) q.copies z at → s.base + s.used ≤ at
  behind z at went = goes_behind s d.next q.copies at copies d.passes went.goes

  -- the field that was redirected to an object
  led_from : (x at : ℕ) (y : Id) → Contains q.writes (x, bits (word.Stable at)) → address_of (moved_by_all (placing_of places remaining) q.copies).places y ≡ Some at → IsLedFrom k (placing_of places remaining) q.copies g us x y
  led_from x at y write there =
      let p = placing_of places remaining in
      let w = all_at (IsLedWrite d.next d.currents d.moved) q.writes (x, bits (word.Stable at)) d.writes write in
      let names = w.names in
      let same : at ≡ w.to = omega arith in
      let later = future d.next d.moved d.rest in
      let here = ap (λ (c : Placing). address_of c.places y) (sym d.placed) ∙ there in
      let z = named d.currents w.object (own_front d.currents d.rest (completed_own us is d.stands)) w.is.start in
      let size = size_of z.0 w.object w.is.fields z.1 w.is.stands in
      let stands_at = ap (λ (c : Placing). address_of c.places z.0) d.placed ∙ z.1 in
      let gray = led_gray (x, bits (word.Stable at)) w in
      record {
        z = z.0;
        object = w.object;
        field = w.field;
        is = w.at;
        stood = elim (old_or_left p q.copies copies z.0 w.object stands_at) [
          | inl old ↦ inl (old, old_gray z.0 w.object old gray)
          | inr went ↦ inr went
        ];
        there = stands_at;
        refers = λ free. led_edge us is d.stands w (subst (IsUnwritten us) w.at free) z.0 y size (address_of-append_left d.currents later z.0 w.object z.1) (address_of-append_left d.currents later y w.to (here ∙ ap Some same));
      }

-- What a scan copies.

-- Of a word that an active transaction wrote: what it sees there, and that this refers to nothing that remains but to what is kept.
pub record IsSeenAt (K : Id → Type 0) (s : State) (k : Collection) (places remaining : Places) (words : List ℕ) (x : ℕ) : Type 0 where
  pub t : ℕ
  pub made : ℕ
  pub seen : Graph
  pub vs : List UndoEntry
  pub backed : AreBacked places words vs
  pub stands : StandsCompleted t made places remaining seen vs words s
  pub unwritten : IsUnwritten vs x
  pub leads : (z y : Id) (at i : ℕ) → address_of places z ≡ Some at → contains k.gray at ≡ true → x ≡ field_at at i → slice_get (fields seen z) i ≡ Some (Ref y) → is_some (address_of remaining y) ≡ true → K y

-- What gray objects refer to that remains is kept, in the graph that the sealed transactions have left and in what those see that wrote there. What
-- remains has the fields of a graph in which objects that are kept refer to such.
pub record IsLed (K : Id → Type 0) (g sealed : Graph) (s : State) (k : Collection) (places remaining : Places) (words : List ℕ) (us : List UndoEntry) : Type 0 where
  pub closed : (z y : Id) (i : ℕ) → K z → slice_get (fields g z) i ≡ Some (Ref y) → K y
  pub rest : (z : Id) → is_some (address_of remaining z) ≡ true → fields sealed z ≡ fields g z
  pub leads : (z y : Id) (at i : ℕ) → address_of places z ≡ Some at → contains k.gray at ≡ true → slice_get (fields sealed z) i ≡ Some (Ref y) → is_some (address_of remaining y) ≡ true → K y
  pub written : (u : UndoEntry) → Contains us u → IsSeenAt K s k places remaining words (field_at u.object u.field)

module _ (K : Id → Type 0) (g sealed : Graph) (s : State) (k : Collection) (places remaining : Places) (words : List ℕ) (us : List UndoEntry) (is0 : IsUnderway s k places remaining words) (backed : AreBacked places words us)
    (stands : StandsCompleted 0 0 places remaining sealed us words s) (led : IsLed K g sealed s k places remaining words us) (q : Planned) (page : ℕ) (run : visit_all (spaces_of s) k words nothing (64 * page) 64 ≡ Some q)
    (copies : AllByRecursion IsCopy q.copies) (referred : AreReferred q) where
  -- the copies made, as a transaction sees them
  made_by_scan : (t made : ℕ) (h : Graph) (vs : List UndoEntry) → AreBacked places words vs → StandsCompleted t made places remaining h vs words s
      → IsDone s k places (underway is0).from.starts words (view_of t made h vs (placing_of places remaining)) q
  made_by_scan t made h vs own seen =
      (visits s k places remaining words (view_of t made h vs (placing_of places remaining)) nothing q (underway is0) (done_first s k places remaining words t made h vs is0 own seen) (64 * page) 64 run).goes.last

  abbrev p : Placing
  p = placing_of places remaining

  -- no write that may be taken back is of a field of a copy
  apart_new : (at i : ℕ) (u : UndoEntry) → s.base + s.used ≤ at → Contains us u → field_at at i ≢ field_at u.object u.field
  apart_new at i u far has same =
      let here = all_at (λ (v : UndoEntry). IsHereWrite places words v.object v.field v.was) us u backed has in
      let within = start_within is0.laid u.object here.is.start in
      let size : within.fields ≡ here.is.fields = same_Some within.fields here.is.fields (sym within.object ∙ here.is.stands) in
      let high = within.below in
      let less = here.is.within in
      omega arith

  -- an object that went to an address is kept, if those that went below it are
  copied_kept : (bound : ℕ) → ((id : Id) (at : ℕ) → address_of (moved_by_all (placing_of places remaining) q.copies).places id ≡ Some at → at < bound → is_some (address_of remaining id) ≡ true → K id)
      → (id : Id) (at : ℕ) → address_of (moved_by_all (placing_of places remaining) q.copies).places id ≡ Some at → at < suc bound → WentThere (placing_of places remaining) q.copies id at → K id
  copied_kept bound below id at there low went =
      let reference = referred_to q.writes q.copies at referred went.goes in
      let before = reference.2 in
      let d = made_by_scan 0 0 sealed us backed stands in
      let f = led_from s k places remaining words is0 0 0 sealed us q d copies reference.0 at id reference.1 there in
      let field = f.is in
      elim (unwritten_or us reference.0) [
        | inl free ↦ elim f.stood [
          | inl old ↦ led.leads f.z id f.object f.field old.0 old.1 (f.refers free) went.left
          | inr new ↦ led.closed f.z id f.field (below f.z f.object f.there (omega arith) new.left) (ap (λ (vs : List Val). slice_get vs f.field) (sym (led.rest f.z new.left)) ∙ f.refers free)
        ]
        | inr wrote ↦
            let v = led.written wrote.0 wrote.1 in
            let e = made_by_scan v.t v.made v.seen v.vs v.backed v.stands in
            let h = led_from s k places remaining words is0 v.t v.made v.seen v.vs q e copies reference.0 at id reference.1 there in
            elim h.stood [
              | inl old ↦ v.leads h.z id h.object h.field old.0 old.1 (sym wrote.2 ∙ h.is) (h.refers (subst (IsUnwritten v.vs) (sym wrote.2) v.unwritten)) went.left
              | inr new ↦ absurd (apart_new h.object h.field wrote.0 (behind s k places remaining words is0 v.t v.made v.seen v.vs q e copies h.z h.object new) wrote.1 (sym h.is ∙ wrote.2))
            ]
      ]

  new_kept : (bound : ℕ) → (id : Id) (at : ℕ) → address_of (moved_by_all (placing_of places remaining) q.copies).places id ≡ Some at → at < bound → is_some (address_of remaining id) ≡ true → K id
  new_kept zero id at there low left = absurd (omega arith)
  new_kept (suc bound) id at there low left = elim (old_or_left (placing_of places remaining) q.copies copies id at there) [
    | inl old ↦ absurd (some_none (own_apart places remaining id at (completed_own us (underway is0) stands) old) left)
    | inr went ↦ copied_kept bound (new_kept bound) id at there low went
  ]

-- A scan of a page copies nothing but what is kept.
pub scan_new : (K : Id → Type 0) (g sealed : Graph) (s : State) (k : Collection) (places remaining : Places) (words : List ℕ) (us : List UndoEntry) (page : ℕ) (records : List Record) → IsUnderway s k places remaining words → AreBacked places words us
    → StandsCompleted 0 0 places remaining sealed us words s → scan_records (spaces_of s) k words page ≡ Some records → IsLed K g sealed s k places remaining words us
    → (id : Id) (at : ℕ) → address_of (moved_by_all (placing_of places remaining) records).places id ≡ Some at → (address_of places id ≡ Some at) ⊎ (K id × (is_some (address_of remaining id) ≡ true))
scan_new K g sealed s k places remaining words us page records is backed stands planned led id at there =
    let plan = planned_parts page (scan (spaces_of s) k words page) records planned in
    let q = plan.0 in
    let run = in_page (is_current (spaces_of s) page) (visit_all (spaces_of s) k words nothing (64 * page) 64) q plan.1 in
    let p = placing_of places remaining in
    let copies = planned_copies (spaces_of s) k words page q plan.1 in
    let referred = scan_refers (spaces_of s) k words page q (gray_apart (underway is)) run in
    let behind : address_of (moved_by_all p q.copies).places id ≡ Some at =
    ap (λ (x : Placing). address_of x.places id) (sym (fold-append moved_by p q.copies (record_of.Scan page q.writes ∷ []))) ∙ ap (λ (rs : List Record). address_of (moved_by_all p rs).places id) plan.2 ∙ there in
    elim (old_or_left p q.copies copies id at behind) [
      | inl old ↦ inl old
      | inr went ↦ inr (new_kept K g sealed s k places remaining words us is backed stands led q page run copies referred (at + 1) id at behind (omega arith) went.left, went.left)
    ]
  where
    in_page : (t : Bool) (o : Option Planned) (q : Planned) → (if t then o else None) ≡ Some q → o ≡ Some q
    in_page true o q is = is
    in_page false o q is = absurd (cc is)
