-- The gray objects of a page are visited, one after another.
use Rattle.std.proofs.Common.{◌≡◌, ℕ, zero, suc, ◌+◌, ◌<◌, ◌≤◌, inl, inr, Bool, true, false, List, [], ◌∷◌, length, get_or, Option, None, Some, refl, sym, ap, ◌∙◌, subst, arith}
use Rattle.std.specs.Prelude.{Contains, slice_index, ◌||◌, is_some, unwrap_or, if◌then◌else◌}
use Rattle.std.specs.FinSet.{contains}
use Rattle.std.proofs.lemmas.Bool.{cases_order}
use Rattle.heap_words.specs.Word.{meaning}
use Rattle.heap_spaces.specs.Collection.{Collection}
use Rattle.object_layout.specs.Layout.{field_words, object_at}
use Rattle.object_layout.proofs.LayoutLaws.{length-field_words}
use Rattle.log_machine.specs.Machine.{State, field_at, spaces_of}
use Rattle.graph_words.specs.Places.{Places, addresses}
use Rattle.graph_words.proofs.Stands.Objects.{word_at_field}
use Rattle.collection_words.specs.Completed.{IsMade}
use Rattle.collection_words.specs.LaidOut.{MayLeadBack}
use Rattle.collection_words.proofs.Copy.Laid.{inside_leads}
use Rattle.collection_words.proofs.Laid.Sources.{IsCollecting}
use Rattle.collection_words.proofs.Laid.Within.{start_within}
use Rattle.collection_words.proofs.Laid.Write.{unmoved_left}
use Rattle.page_scanner.specs.Scan.{Planned, copied_from, follow, follow_all, is_gray, next_free, source, visit, visit_all}
use Rattle.scan_laws.proofs.Copied.{IsDone, View, leads_more}
use Rattle.scan_laws.proofs.Followed.{Goes, IsFieldOf, IsLedOn, follow_field, goes_on, stays, two_steps}

-- a field that is up to date stays so
led_stays : (s : State) (k : Collection) (places : Places) (starts words : List ℕ) (v : View) (q r : Planned) (d : IsDone s k places starts words v q) (g : Goes s k places starts words v q r d) (x w : ℕ)
    → IsLedOn q.writes (addresses d.currents) x w → IsLedOn r.writes (addresses g.last.currents) x w
led_stays s k places starts words v q r d g x w (inl written) = inl (g.more x written)
led_stays s k places starts words v q r d g x w (inr leads) =
    inr (leads_more (addresses d.currents) (addresses g.last.currents) (meaning w) (λ y has. let within = start_within d.is.laid y has in (g.here y within.fields has within.object).0) leads)

-- Fields of an object, from one on.
pub record AreFields (places current : Places) (starts moved : List ℕ) (object n i : ℕ) (ws : List ℕ) : Type 0 where
  pub start : Contains (addresses current) object
  pub stands : object_at moved object ≡ Some n
  pub many : i + length ws ≡ n
  pub each : (j : ℕ) → j < length ws → slice_index moved (field_at object (i + j)) ≡ get_or ws j 0
  pub back : (j : ℕ) → j < length ws → MayLeadBack (addresses places) starts (meaning (get_or ws j 0))

-- each of them is brought up to date
follow_fields : (s : State) (k : Collection) (places remaining : Places) (words : List ℕ) (v : View) (q r : Planned) (is : IsCollecting s k places remaining words) (d : IsDone s k places is.from.starts words v q)
    (object n i x : ℕ) (ws : List ℕ) → x ≡ field_at object i → object < next_free (spaces_of s) q → AreFields places d.currents is.from.starts d.moved object n i ws → follow_all (spaces_of s) k words q x ws ≡ Some r
    → (g : Goes s k places is.from.starts words v q r d) × ((j : ℕ) → j < length ws → IsLedOn r.writes (addresses g.last.currents) (field_at object (i + j)) (get_or ws j 0))
follow_fields s k places remaining words v q r is d object n i x [] same taken f out = (stays s k places is.from.starts words v q r d (cc out), λ j below. absurd (omega (arith, below)))
follow_fields s k places remaining words v q r is d object n i x (w ∷ ws) same taken f out =
    let step = two_steps (λ next. follow_all (spaces_of s) k words next (x + 1) ws) (follow (spaces_of s) k words q x (meaning w)) r out in
    let many = f.many in
    let first : i + 0 ≡ i = omega arith in
    let field : IsFieldOf d.currents d.moved object i w = record { start = f.start; fields = n; stands = f.stands; within = omega (arith, many); has = ap (λ (y : ℕ). slice_index d.moved (field_at object y)) (sym first) ∙ f.each 0 (omega arith) } in
    let one = follow_field s k places remaining words v q step.0 is d object i w (meaning w) field refl (f.back 0 (omega arith)) (ap (λ (y : ℕ). follow (spaces_of s) k words q y (meaning w)) (sym same) ∙ step.1) in
    let here = one.0.here object n f.start f.stands in
    let next = one.0.size in
    let rest : AreFields places one.0.last.currents is.from.starts one.0.last.moved object n (i + 1) ws = record {
      start = here.0;
      stands = here.1.is;
      many = omega (arith, many);
      each = λ j below.
          let place : i + 1 + j ≡ i + suc j = omega arith in
          here.1.fields (i + 1 + j) (omega (arith, below, many)) ∙ ap (λ (y : ℕ). slice_index d.moved (field_at object y)) place ∙ f.each (suc j) (omega (arith, below));
      back = λ j below. f.back (suc j) (omega (arith, below));
    } in
    let later = follow_fields s k places remaining words v step.0 r is one.0.last object n (i + 1) (x + 1) ws (omega (arith, same)) (omega (arith, taken, next)) rest step.2 in
    (goes_on s k places is.from.starts words v q step.0 r d one.0 later.0, covers later.0 one.1 later.1 first)
  where
    covers : {p : Planned} {e : IsDone s k places is.from.starts words v p} (g : Goes s k places is.from.starts words v p r e) → IsLedOn p.writes (addresses e.currents) (field_at object i) w
        → ((j : ℕ) → j < length ws → IsLedOn r.writes (addresses g.last.currents) (field_at object (i + 1 + j)) (get_or ws j 0)) → i + 0 ≡ i
        → (j : ℕ) → j < length (w ∷ ws) → IsLedOn r.writes (addresses g.last.currents) (field_at object (i + j)) (get_or (w ∷ ws) j 0)
    covers {p} {e} g one later first zero below =
        subst (λ (y : ℕ). IsLedOn r.writes (addresses g.last.currents) (field_at object y) w) (sym first) (led_stays s k places is.from.starts words v p r e g (field_at object i) w one)
    covers {p} {e} g one later first (suc j) below =
        let place : i + 1 + j ≡ i + suc j = omega arith in
        subst (λ (y : ℕ). IsLedOn r.writes (addresses g.last.currents) (field_at object y) (get_or ws j 0)) place (later j (omega (arith, below)))

-- Where a gray object has its words before the scan.
pub record IsSource (places current : Places) (starts words moved : List ℕ) (at b : ℕ) : Type 0 where
  pub start : Contains (addresses current) at
  pub fields : ℕ
  pub made : IsMade (λ w. w) words moved b at fields
  pub back : (j : ℕ) → j < fields → MayLeadBack (addresses places) starts (meaning (slice_index words (field_at b j)))

gray_source : (s : State) (k : Collection) (places remaining : Places) (words : List ℕ) (v : View) (q : Planned) (is : IsCollecting s k places remaining words) (d : IsDone s k places is.from.starts words v q)
    (at : ℕ) (o : Option ℕ) → copied_from q.copies at ≡ o → (contains k.gray at || is_some o) ≡ true → IsSource places d.currents is.from.starts words d.moved at (unwrap_or o at)
gray_source s k places remaining words v q is d at (Some b) known gray =
    let stood = d.comes at b known in
    let left = unmoved_left is.from b stood.start stood.unmoved in
    record {
      start = stood.current;
      fields = stood.fields;
      made = stood.made;
      back = λ j below. inside_leads (addresses places) is.from.starts (meaning (slice_index words (field_at b j))) (is.from.inside b left stood.fields j stood.made.was below);
    }
gray_source s k places remaining words v q is d at None known gray =
    let own : contains k.gray at ≡ true = or_none (contains k.gray at) ∙ gray in
    let has = is.from.grays at own in
    let within = start_within is.laid at has in
    let here = d.here at within.fields has within.object in
    record { start = here.0; fields = within.fields; made = here.1; back = λ j below. is.from.back at has within.fields j within.object below }
  where
    or_none : (t : Bool) → t ≡ (t || false)
    or_none true = refl
    or_none false = refl

-- all fields of the object at an address are up to date
abbrev pub IsCovered : (s : State) (k : Collection) (places : Places) (starts words : List ℕ) (v : View) (q : Planned) → IsDone s k places starts words v q → ℕ → Type 0
IsCovered s k places starts words v q d at =
    Contains (addresses d.currents) at × ((n i : ℕ) → object_at d.moved at ≡ Some n → i < n → IsLedOn q.writes (addresses d.currents) (field_at at i) (slice_index d.moved (field_at at i)))

covered_stays : (s : State) (k : Collection) (places : Places) (starts words : List ℕ) (v : View) (q r : Planned) (d : IsDone s k places starts words v q) (g : Goes s k places starts words v q r d) (at : ℕ)
    → IsCovered s k places starts words v q d at → IsCovered s k places starts words v r g.last at
covered_stays s k places starts words v q r d g at (has, all) =
    let within = start_within d.is.laid at has in
    let here = g.here at within.fields has within.object in (
      here.0,
      λ n i stands below.
          let same : within.fields ≡ n = cc (sym here.1.is ∙ stands) in
          let less : i < within.fields = omega (arith, same, below) in
          subst (IsLedOn r.writes (addresses g.last.currents) (field_at at i)) (sym (here.1.fields i less))
          (led_stays s k places starts words v q r d g (field_at at i) (slice_index d.moved (field_at at i)) (all within.fields i within.object less)),
    )

-- a gray object is visited
visit_gray : (s : State) (k : Collection) (places remaining : Places) (words : List ℕ) (v : View) (q r : Planned) (is : IsCollecting s k places remaining words) (d : IsDone s k places is.from.starts words v q)
    (at : ℕ) → is_gray k q at ≡ true → follow_all (spaces_of s) k words q (at + 2) (field_words words (source q at)) ≡ Some r
    → (g : Goes s k places is.from.starts words v q r d) × IsCovered s k places is.from.starts words v r g.last at × (at < next_free (spaces_of s) q)
visit_gray s k places remaining words v q r is d at gray out =
    let b = source q at in
    let from = gray_source s k places remaining words v q is d at (copied_from q.copies at) refl gray in
    let n = from.fields in
    let long = length-field_words words b n from.made.was in
    let within = start_within d.is.laid at from.start in
    let below = within.below in
    let base = d.base in
    let used = d.used in
    let taken : at < next_free (spaces_of s) q = omega (arith, below, base, used) in
    let fields : AreFields places d.currents is.from.starts d.moved at n 0 (field_words words b) = record {
      start = from.start;
      stands = from.made.is;
      many = omega (arith, long);
      each = λ j less. let small : j < n = omega (arith, less, long) in
          let place : 0 + j ≡ j = omega arith in
          ap (λ (y : ℕ). slice_index d.moved (field_at at y)) place ∙ from.made.fields j small ∙ word_at_field words b n j from.made.was small;
      back = λ j less. let small : j < n = omega (arith, less, long) in
          subst (λ (w : ℕ). MayLeadBack (addresses places) is.from.starts (meaning w)) (word_at_field words b n j from.made.was small) (from.back j small);
    } in
    let start : at + 2 ≡ field_at at 0 = omega arith in
    let done = follow_fields s k places remaining words v q r is d at n 0 (at + 2) (field_words words b) start taken fields out in
    let here = done.0.here at n from.start from.made.is in (
      done.0,
      (
        here.0,
        λ m i stands less.
            let same : n ≡ m = cc (sym here.1.is ∙ stands) in
            let small : i < n = omega (arith, same, less) in
            let word : slice_index done.0.last.moved (field_at at i) ≡ get_or (field_words words b) i 0 = here.1.fields i small ∙ from.made.fields i small ∙ word_at_field words b n i from.made.was small in
            let place : 0 + i ≡ i = omega arith in
            subst (λ (y : ℕ). IsLedOn r.writes (addresses done.0.last.currents) (field_at at y) (slice_index done.0.last.moved (field_at at i))) place
            (subst (IsLedOn r.writes (addresses done.0.last.currents) (field_at at (0 + i))) (sym word) (done.1 i (omega (arith, small, long)))),
      ),
      taken,
    )

-- an address is visited: if the object there is gray, its fields are brought up to date, and no other object up to there becomes gray
visit_one : (s : State) (k : Collection) (places remaining : Places) (words : List ℕ) (v : View) (q r : Planned) (is : IsCollecting s k places remaining words) (d : IsDone s k places is.from.starts words v q)
    (at : ℕ) (t : Bool) → is_gray k q at ≡ t → (if t then follow_all (spaces_of s) k words q (at + 2) (field_words words (source q at)) else Some q) ≡ Some r
    → (g : Goes s k places is.from.starts words v q r d) × (is_gray k q at ≡ true → IsCovered s k places is.from.starts words v r g.last at) × ((x : ℕ) → x ≤ at → is_gray k r x ≡ true → is_gray k q x ≡ true)
visit_one s k places remaining words v q r is d at true gray out =
    let done = visit_gray s k places remaining words v q r is d at gray out in
    let taken = done.2 in
    (done.0, λ again. done.1, λ x low now. done.0.grays x (omega (arith, low, taken)) now)
visit_one s k places remaining words v q r is d at false gray out =
    let same : q ≡ r = cc out in
    (stays s k places is.from.starts words v q r d same, λ again. absurd (cc (sym again ∙ gray)), λ x low now. subst (λ (p : Planned). is_gray k p x ≡ true) (sym same) now)

-- All addresses of a run were visited.
pub record Visits (s : State) (k : Collection) (places : Places) (starts words : List ℕ) (v : View) (q r : Planned) (d : IsDone s k places starts words v q) (at count : ℕ) : Type 0 where
  pub goes : Goes s k places starts words v q r d
  pub covered : (x : ℕ) → at ≤ x → x < at + count → is_gray k r x ≡ true → IsCovered s k places starts words v r goes.last x
  pub before : (x : ℕ) → x < at → is_gray k r x ≡ true → is_gray k q x ≡ true

pub visits : (s : State) (k : Collection) (places remaining : Places) (words : List ℕ) (v : View) (q r : Planned) (is : IsCollecting s k places remaining words) (d : IsDone s k places is.from.starts words v q)
    (at count : ℕ) → visit_all (spaces_of s) k words q at count ≡ Some r → Visits s k places is.from.starts words v q r d at count
unfolding visit_all
visits s k places remaining words v q r is d at zero out =
    let same : q ≡ r = cc out in
    record {
      goes = stays s k places is.from.starts words v q r d same;
      covered = λ x low high gray. absurd (omega (arith, low, high));
      before = λ x low gray. subst (λ (p : Planned). is_gray k p x ≡ true) (sym same) gray;
    }
visits s k places remaining words v q r is d at (suc count) out =
    let step = two_steps (λ next. visit_all (spaces_of s) k words next (at + 1) count) (visit (spaces_of s) k words q at) r out in
    let p = step.0 in
    let one = visit_one s k places remaining words v q p is d at (is_gray k q at) refl step.1 in
    let later = visits s k places remaining words v p r is one.0.last (at + 1) count step.2 in
    record {
      goes = goes_on s k places is.from.starts words v q p r d one.0 later.goes;
      covered = λ x low high gray. elim (cases_order x at) [
        | inl same ↦
            let was = one.2 x (omega (arith, same)) (later.before x (omega (arith, same)) gray) in
            let first = one.1 (subst (λ (y : ℕ). is_gray k q y ≡ true) same was) in
            covered_stays s k places is.from.starts words v p r one.0.last later.goes x (subst (IsCovered s k places is.from.starts words v p one.0.last) (sym same) first)
        | inr (inl less) ↦ absurd (omega (arith, less, low))
        | inr (inr more) ↦ later.covered x (omega (arith, more)) (omega (arith, high)) gray
      ];
      before = λ x low gray. one.2 x (omega (arith, low)) (later.before x (omega (arith, low)) gray);
    }
