-- The fields of gray objects are brought up to date, one after another.
use Rattle.std.proofs.Common.{◌≡◌, ◌≢◌, ◌⊎◌, ℕ, ◌+◌, ◌<◌, ◌≤◌, inl, inr, Bool, true, false, not, List, [], ◌∷◌, ◌++◌, map, Option, None, Some, refl, sym, ap, ◌∙◌, subst, arith}
use Rattle.std.specs.Prelude.{Contains, slice_index, ◌||◌, is_some, option_and_then, if◌then◌else◌}
use Rattle.std.specs.FinSet.{contains}
use Rattle.std.proofs.lemmas.Bool.{and_parts, ne_eqb}
use Rattle.std.proofs.lemmas.List.Elements.{Contains-append_left, Contains-append_right}
use Rattle.std.proofs.lemmas.Option.{same_Some}
use Rattle.heap_words.specs.declared.Header.{Header}
use Rattle.heap_words.specs.declared.Header.TheVariants.{Length, Forward}
use Rattle.heap_words.specs.declared.Word.{Word}
use Rattle.heap_words.specs.declared.Word.TheVariants as word
use Rattle.heap_words.specs.Header.{header}
use Rattle.heap_words.specs.Word.{bits, meaning}
use Rattle.heap_spaces.specs.Collection.{Collection}
use Rattle.object_layout.specs.Layout.{object_at, whole_length}
use Rattle.object_layout.proofs.WalkLaws.{Contains-head}
use Rattle.log_machine.specs.Machine.{State, field_at, spaces_of}
use Rattle.log_machine.proofs.ListLaws.{AllByRecursion-append}
use Rattle.graph_words.specs.Places.{Places, addresses}
use Rattle.collection_words.specs.Completed.{IsMade, in_other_space}
use Rattle.collection_words.specs.LaidOut.{StandsOrForwards, LeadsHere, MayLeadBack}
use Rattle.collection_words.proofs.Laid.Old.{current_not_other, old_in_other}
use Rattle.collection_words.proofs.Laid.Sources.{IsCollecting}
use Rattle.collection_words.proofs.Laid.Within.{start_within}
use Rattle.page_scanner.specs.Scan.{Planned, can_copy, can_write, copied, copied_from, copied_to, follow, in_from_space, is_gray, led, led_on, next_free, object_words, with_copy, written}
use Rattle.scan_laws.proofs.Copied.{IsDone, IsLedWrite, View, coming_more, done_copy, leads_more, no_forward}
use Rattle.scan_laws.proofs.Made.{made_same, made_then}

-- the addresses that are written
abbrev pub named : Planned → List ℕ
named q = map (λ w. w.0) q.writes

-- The plan continues from one to another, and what stands and what is written stays so.
pub record Goes (s : State) (k : Collection) (places : Places) (starts words : List ℕ) (v : View) (q r : Planned) (d : IsDone s k places starts words v q) : Type 0 where
  pub last : IsDone s k places starts words v r
  pub here : (at m : ℕ) → Contains (addresses d.currents) at → object_at d.moved at ≡ Some m → Contains (addresses last.currents) at × IsMade (λ w. w) d.moved last.moved at at m
  pub more : (x : ℕ) → Contains (named q) x → Contains (named r) x
  pub grays : (x : ℕ) → x < next_free (spaces_of s) q → is_gray k r x ≡ true → is_gray k q x ≡ true
  pub size : next_free (spaces_of s) q ≤ next_free (spaces_of s) r

pub stays : (s : State) (k : Collection) (places : Places) (starts words : List ℕ) (v : View) (q r : Planned) (d : IsDone s k places starts words v q) → q ≡ r → Goes s k places starts words v q r d
stays s k places starts words v q r d same =
    subst (λ (p : Planned). Goes s k places starts words v q p d) same (record { last = d; here = λ at m has there. (has, made_same d.moved at m there); more = λ x has. has; grays = λ x low gray. gray; size = omega arith })

abbrev pub goes_on : (s : State) (k : Collection) (places : Places) (starts words : List ℕ) (v : View) (q r p : Planned) (d : IsDone s k places starts words v q) (one : Goes s k places starts words v q r d)
    → Goes s k places starts words v r p one.last → Goes s k places starts words v q p d
goes_on s k places starts words v q r p d one two = record {
  last = two.last;
  here = λ at m has there.
      let a = one.here at m has there in
      let b = two.here at m a.0 a.1.is in
      (b.0, made_then d.moved one.last.moved two.last.moved at at at m a.1 b.1);
  more = λ x has. two.more x (one.more x has);
  grays = λ x low gray. let less = one.size in one.grays x low (two.grays x (omega (arith, low, less)) gray);
  size = let less = one.size in let more = two.size in omega (arith, less, more);
}

-- A field is up to date: it is written, or leads to a current object.
abbrev pub IsLedOn : List (ℕ × ℕ) → List ℕ → ℕ → ℕ → Type 0
IsLedOn writes starts at w = Contains (map (λ x. x.0) writes) at ⊎ LeadsHere starts (meaning w)

-- A field of a current object, with the word that it has.
pub record IsFieldOf (places : Places) (words : List ℕ) (object field w : ℕ) : Type 0 where
  pub start : Contains (addresses places) object
  pub fields : ℕ
  pub stands : object_at words object ≡ Some fields
  pub within : field < fields
  pub has : slice_index words (field_at object field) ≡ w

-- it stays one
pub field_stays : (s : State) (k : Collection) (places : Places) (starts words : List ℕ) (v : View) (q r : Planned) (d : IsDone s k places starts words v q) (g : Goes s k places starts words v q r d)
    → (object field w : ℕ) → IsFieldOf d.currents d.moved object field w → IsFieldOf g.last.currents g.last.moved object field w
field_stays s k places starts words v q r d g object field w f =
    let here = g.here object f.fields f.start f.stands in
    record { start = here.0; fields = f.fields; stands = here.1.is; within = f.within; has = here.1.fields field f.within ∙ f.has }

map_append : (xs ys : List (ℕ × ℕ)) → map (λ w. w.0) (xs ++ ys) ≡ map (λ w. w.0) xs ++ map (λ w. w.0) ys
map_append [] ys = refl
map_append (x ∷ xs) ys = ap (λ (l : List ℕ). x.0 ∷ l) (map_append xs ys)

tested : (t : Bool) (x y : Planned) → (if t then Some x else None) ≡ Some y → (t ≡ true) × (x ≡ y)
tested true x y is = (refl, same_Some x y is)
tested false x y is = absurd (cc is)

-- a result of two steps has one of the first
pub two_steps : (f : Planned → Option Planned) (o : Option Planned) (y : Planned) → option_and_then f o ≡ Some y → (x : Planned) × (o ≡ Some x) × (f x ≡ Some y)
two_steps f None y is = absurd (cc is)
two_steps f (Some x) y is = (x, refl, is)

-- a field is redirected to a copy that stands
pub done_write : (s : State) (k : Collection) (places : Places) (starts words : List ℕ) (v : View) (q r : Planned) (d : IsDone s k places starts words v q) (object field from to w : ℕ)
    → IsFieldOf d.currents d.moved object field w → meaning w ≡ Some (word.Stable from) → Contains starts from → Contains (addresses d.currents) to → header (slice_index d.moved from) ≡ Some (Forward to)
    → written (spaces_of s) q (field_at object field) to ≡ Some r → (g : Goes s k places starts words v q r d) × Contains (named r) (field_at object field)
done_write s k places starts words v q r d object field from to w f meant start current forward is =
    let x = field_at object field in
    let write : ℕ × ℕ = (x, bits (word.Stable to)) in
    let one = tested (can_write (spaces_of s) q x to) (record q { writes = q.writes ++ write ∷ [] }) r is in
    let ledw : IsLedWrite d.next d.currents d.moved write = record {
      object = object;
      field = field;
      from = from;
      to = to;
      at = refl;
      is = record { start = f.start; fields = f.fields; stands = f.stands; within = f.within };
      names = refl;
      leads = current;
      back = ap meaning f.has ∙ meant;
      old = d.olds from start;
      forward = forward;
    } in
    let split = map_append q.writes (write ∷ []) in
    let e : IsDone s k places starts words v (record q { writes = q.writes ++ write ∷ [] }) = record {
      next = d.next;
      now = d.now;
      currents = d.currents;
      rest = d.rest;
      moved = d.moved;
      placed = d.placed;
      untouched = d.untouched;
      copied = d.copied;
      births = d.births;
      puts = d.puts;
      passes = d.passes;
      is = d.is;
      backed = d.backed;
      stands = d.stands;
      pages = d.pages;
      base = d.base;
      used = d.used;
      olds = d.olds;
      goes = d.goes;
      left = d.left;
      heads = d.heads;
      here = d.here;
      comes = d.comes;
      grays = d.grays;
      writes = AllByRecursion-append (IsLedWrite d.next d.currents d.moved) q.writes (write ∷ []) d.writes (ledw, tt);
    } in
    let Both : Planned → Type 0 = λ p. (g : Goes s k places starts words v q p d) × Contains (named p) x in
    subst Both one.1 (
      record { last = e; here = λ at m has there. (has, made_same d.moved at m there); more = λ y has. subst (λ (l : List ℕ). Contains l y) (sym split) (Contains-append_left (named q) (x ∷ []) y has); grays = λ y low gray. gray; size = omega arith },
      subst (λ (l : List ℕ). Contains l x) (sym split) (Contains-append_right (named q) (x ∷ []) x (Contains-head x [])),
    )

-- What is known where a field leads to an object of the from-space.

forwarded_to : (words starts : List ℕ) (b to : ℕ) (t : Bool) → StandsOrForwards words starts b t → header (slice_index words b) ≡ Some (Forward to) → Contains starts to
forwarded_to words starts b to true (there, leads, has) forward = let same : there ≡ to = cc (sym leads ∙ forward) in subst (λ (x : ℕ). Contains starts x) same has
forwarded_to words starts b to false (n, object) forward = absurd (no_forward words b n to object forward)

not_true : (t : Bool) → not t ≡ true → t ≡ false
not_true true is = absurd (cc is)
not_true false is = refl

unmoved_of : (s : State) (k : Collection) (q : Planned) (b size : ℕ) → can_copy (spaces_of s) k q b size ≡ true → contains k.moved b ≡ false
unmoved_of s k q b size can = not_true (contains k.moved b) (and_parts _ _ (and_parts _ _ can).0).1

-- The outcome of a field that is brought up to date.
abbrev pub Led : (s : State) (k : Collection) (places : Places) (starts words : List ℕ) (v : View) (q r : Planned) (d : IsDone s k places starts words v q) → ℕ → Type 0
Led s k places starts words v q r d x = (g : Goes s k places starts words v q r d) × Contains (named r) x

led_copied : (s : State) (k : Collection) (places : Places) (starts words : List ℕ) (v : View) (q r : Planned) (d : IsDone s k places starts words v q) (object field b w : ℕ) (o : Option ℕ)
    → IsFieldOf d.currents d.moved object field w → meaning w ≡ Some (word.Stable b) → Contains starts b → copied_to q.copies b ≡ None → object_at words b ≡ o
    → option_and_then (λ next. written (spaces_of s) next (field_at object field) (next_free (spaces_of s) q)) (copied (spaces_of s) k words q b o) ≡ Some r
    → Led s k places starts words v q r d (field_at object field)
led_copied s k places starts words v q r d object field b w None f meant start none stands is = absurd (cc is)
led_copied s k places starts words v q r d object field b w (Some n) f meant start none stands is =
    let x = field_at object field in
    let free = next_free (spaces_of s) q in
    let p = with_copy (spaces_of s) words q b n in
    let step = two_steps (λ next. written (spaces_of s) next x free) (copied (spaces_of s) k words q b (Some n)) r is in
    let one = tested (can_copy (spaces_of s) k q b (2 + n)) p step.0 step.1 in
    let done = done_copy d b n start (unmoved_of s k q b (2 + n) one.0) none stands in
    let first : Goes s k places starts words v q p d = record {
      last = done.0;
      here = done.3;
      more = λ y has. has;
      grays = λ y low gray.
          let apart : free ≢ y = λ same. omega (arith, low, same) in
          subst (λ o. (contains k.gray y || is_some o) ≡ true) (coming_more q.copies b free (object_words words b n) y ∙ ap (λ t. if t then Some b else copied_from q.copies y) (ne_eqb free y apart)) gray;
      size = omega arith;
    } in
    let put : written (spaces_of s) p x free ≡ Some r = ap (λ (z : Planned). written (spaces_of s) z x free) one.1 ∙ step.2 in
    let last = done_write s k places starts words v p r first.last object field b free w (field_stays s k places starts words v q p d first object field w f) meant start done.1 done.2 put in
    (goes_on s k places starts words v q p r d first last.0, last.1)

led_header : (s : State) (k : Collection) (places remaining : Places) (words : List ℕ) (v : View) (q r : Planned) (is : IsCollecting s k places remaining words) (d : IsDone s k places is.from.starts words v q)
    (object field b w : ℕ) (h : Option Header) → IsFieldOf d.currents d.moved object field w → meaning w ≡ Some (word.Stable b) → Contains is.from.starts b → copied_to q.copies b ≡ None
    → header (slice_index words b) ≡ h → led (spaces_of s) k words q (field_at object field) b h ≡ Some r → Led s k places is.from.starts words v q r d (field_at object field)
led_header s k places remaining words v q r is d object field b w None f meant start none stands out = absurd (cc out)
led_header s k places remaining words v q r is d object field b w (Some (Forward to)) f meant start none stands out =
    let has = forwarded_to words (addresses places) b to (contains k.moved b) (is.from.forwarded b start) stands in
    let within = start_within is.laid to has in
    let current = d.here to within.fields has within.object in
    done_write s k places is.from.starts words v q r d object field b to w f meant start current.0 (ap header (d.heads b start none) ∙ stands) out
led_header s k places remaining words v q r is d object field b w (Some (Length n)) f meant start none stands out =
    led_copied s k places is.from.starts words v q r d object field b w (object_at words b) f meant start none refl
    (ap (λ h. option_and_then (λ next. written (spaces_of s) next (field_at object field) (next_free (spaces_of s) q)) (copied (spaces_of s) k words q b (whole_length words b h))) stands ∙ out)

led_known : (s : State) (k : Collection) (places remaining : Places) (words : List ℕ) (v : View) (q r : Planned) (is : IsCollecting s k places remaining words) (d : IsDone s k places is.from.starts words v q)
    (object field b w : ℕ) (o : Option ℕ) → IsFieldOf d.currents d.moved object field w → meaning w ≡ Some (word.Stable b) → Contains is.from.starts b → copied_to q.copies b ≡ o
    → led_on (spaces_of s) k words q (field_at object field) b o ≡ Some r → Led s k places is.from.starts words v q r d (field_at object field)
led_known s k places remaining words v q r is d object field b w (Some to) f meant start known out =
    let went = d.goes b to known in
    done_write s k places is.from.starts words v q r d object field b to w f meant start went.current went.forward out
led_known s k places remaining words v q r is d object field b w None f meant start known out =
    led_header s k places remaining words v q r is d object field b w (header (slice_index words b)) f meant start known refl out

-- The outcome of a field that is followed: it is written, or leads to a current object.
abbrev pub Followed : (s : State) (k : Collection) (places : Places) (starts words : List ℕ) (v : View) (q r : Planned) (d : IsDone s k places starts words v q) → ℕ → ℕ → Type 0
Followed s k places starts words v q r d x w = (g : Goes s k places starts words v q r d) × IsLedOn r.writes (addresses g.last.currents) x w

-- a field that leads to an object of this space does so when objects are copied
here_still : (s : State) (k : Collection) (places remaining : Places) (words : List ℕ) (v : View) (q : Planned) (is : IsCollecting s k places remaining words) (d : IsDone s k places is.from.starts words v q)
    (w : ℕ) → LeadsHere (addresses places) (meaning w) → LeadsHere (addresses d.currents) (meaning w)
here_still s k places remaining words v q is d w leads =
    leads_more (addresses places) (addresses d.currents) (meaning w) (λ x has. let within = start_within is.laid x has in (d.here x within.fields has within.object).0) leads

-- a reference into this space is none into the from-space
stable_here : (s : State) (k : Collection) (places remaining : Places) (words : List ℕ) (is : IsCollecting s k places remaining words) (b : ℕ) → Contains (addresses places) b → in_from_space (spaces_of s) b ≡ false
stable_here s k places remaining words is b has =
    let within = start_within is.laid b has in
    let below = within.below in
    let room = is.spaced.room in
    current_not_other s is.spaced b within.above (omega (arith, below, room))

follow_stable : (s : State) (k : Collection) (places remaining : Places) (words : List ℕ) (v : View) (q r : Planned) (is : IsCollecting s k places remaining words) (d : IsDone s k places is.from.starts words v q)
    (object field b w : ℕ) (t : Bool) → IsFieldOf d.currents d.moved object field w → meaning w ≡ Some (word.Stable b) → MayLeadBack (addresses places) is.from.starts (Some (word.Stable b))
    → in_from_space (spaces_of s) b ≡ t → (if t then led_on (spaces_of s) k words q (field_at object field) b (copied_to q.copies b) else Some q) ≡ Some r
    → Followed s k places is.from.starts words v q r d (field_at object field) w
follow_stable s k places remaining words v q r is d object field b w true f meant (inl here) within out = absurd (cc (sym within ∙ stable_here s k places remaining words is b here))
follow_stable s k places remaining words v q r is d object field b w true f meant (inr (from, leads, start)) within out =
    let same : from ≡ b = cc (sym leads) in
    let done = led_known s k places remaining words v q r is d object field b w (copied_to q.copies b) f meant (subst (λ (x : ℕ). Contains is.from.starts x) same start) refl out in
    (done.0, inl done.1)
follow_stable s k places remaining words v q r is d object field b w false f meant (inl here) within out =
    let g = stays s k places is.from.starts words v q r d (same_Some q r out) in
    (g, inr (here_still s k places remaining words v r is g.last w (subst (LeadsHere (addresses places)) (sym meant) here)))
follow_stable s k places remaining words v q r is d object field b w false f meant (inr (from, leads, start)) within out =
    let same : from ≡ b = cc (sym leads) in
    absurd (cc (sym (subst (λ (x : ℕ). in_other_space s x ≡ true) same (old_in_other is from start)) ∙ within))

plain : (s : State) (k : Collection) (places remaining : Places) (words : List ℕ) (v : View) (q r : Planned) (is : IsCollecting s k places remaining words) (d : IsDone s k places is.from.starts words v q)
    (x w : ℕ) → LeadsHere (addresses places) (meaning w) → Some q ≡ Some r → Followed s k places is.from.starts words v q r d x w
plain s k places remaining words v q r is d x w leads out =
    let g = stays s k places is.from.starts words v q r d (same_Some q r out) in (g, inr (here_still s k places remaining words v r is g.last w leads))

-- A field is followed.
pub follow_field : (s : State) (k : Collection) (places remaining : Places) (words : List ℕ) (v : View) (q r : Planned) (is : IsCollecting s k places remaining words) (d : IsDone s k places is.from.starts words v q)
    (object field w : ℕ) (meant : Option Word) → IsFieldOf d.currents d.moved object field w → meaning w ≡ meant → MayLeadBack (addresses places) is.from.starts meant
    → follow (spaces_of s) k words q (field_at object field) meant ≡ Some r → Followed s k places is.from.starts words v q r d (field_at object field) w
follow_field s k places remaining words v q r is d object field w None f meant (inl never) out = absurd never
follow_field s k places remaining words v q r is d object field w None f meant (inr (from, leads, start)) out = absurd (cc leads)
follow_field s k places remaining words v q r is d object field w (Some word.Null) f meant back out =
    plain s k places remaining words v q r is d (field_at object field) w (subst (LeadsHere (addresses places)) (sym meant) tt) out
follow_field s k places remaining words v q r is d object field w (Some (word.Int n)) f meant back out =
    plain s k places remaining words v q r is d (field_at object field) w (subst (LeadsHere (addresses places)) (sym meant) tt) out
follow_field s k places remaining words v q r is d object field w (Some (word.Volatile i)) f meant back out =
    plain s k places remaining words v q r is d (field_at object field) w (subst (LeadsHere (addresses places)) (sym meant) tt) out
follow_field s k places remaining words v q r is d object field w (Some (word.Stable b)) f meant back out =
    follow_stable s k places remaining words v q r is d object field b w (in_from_space (spaces_of s) b) f meant back refl out
