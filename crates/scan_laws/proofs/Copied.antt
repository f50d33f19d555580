-- The copies that a scan has planned so far, as they would be made.
use Rattle.std.proofs.Common.{◌≡◌, ◌≢◌, ◌⊎◌, ℕ, suc, ◌+◌, ◌<◌, inl, inr, Bool, true, false, List, [], ◌∷◌, ◌++◌, Option, None, Some, refl, sym, ap, ◌∙◌, subst, arith}
use Rattle.std.specs.Prelude.{Contains, slice_index, ◌==◌, ◌||◌, is_some, option_and_then, if◌then◌else◌}
use Rattle.std.specs.List.{AllByRecursion}
use Rattle.std.specs.FinSet.{contains}
use Rattle.std.proofs.lemmas.Bool.{eq-eqb, eqb-true, cases_order}
use Rattle.std.proofs.lemmas.List.Sums.{fold-append}
use Rattle.heap_words.specs.declared.Header.TheVariants.{Forward}
use Rattle.heap_words.specs.declared.Word.{Word}
use Rattle.heap_words.specs.declared.Word.TheVariants as word
use Rattle.heap_words.specs.Header.{header}
use Rattle.heap_words.specs.Word.{bits, meaning}
use Rattle.heap_words.proofs.HeaderLaws.{header-header_bits}
use Rattle.heap_spaces.specs.Collection.{Collection}
use Rattle.graph_model.specs.Graph.{Graph}
use Rattle.graph_model.specs.declared.id.Id.{Id}
use Rattle.log_records.specs.declared.copies.ObjectCopy.{ObjectCopy}
use Rattle.log_records.specs.declared.Record.{Record}
use Rattle.log_records.specs.declared.Record.TheVariants.{Copy}
use Rattle.object_layout.specs.Layout.{field_words, object_at}
use Rattle.object_layout.proofs.LayoutLaws.{object_header}
use Rattle.log_machine.specs.declared.UndoEntry.{UndoEntry}
use Rattle.log_machine.specs.Collecting.{collecting_after, copy_after, other_base}
use Rattle.log_machine.specs.Machine.{State, field_at, put_all, put_record, spaces_of, writes_of}
use Rattle.log_machine.proofs.ListLaws.{AllByRecursion-map}
use Rattle.graph_words.specs.Places.{Places, address_of, addresses}
use Rattle.graph_words.proofs.Seal.Places.{address_of-append_left}
use Rattle.collection_words.specs.Completed.{IsMade, StandsCompleted, in_other_space, without}
use Rattle.collection_words.specs.Copying.{words_after_copy, next_copy, words_to_copy, with_place}
use Rattle.collection_words.specs.LaidOut.{IsUnderway, LeadsHere}
use Rattle.collection_words.specs.Placing.{Placing, moved_by, moved_by_all, placing_of}
use Rattle.collection_words.specs.Writes.{AreBacked, IsCurrentField, IsHereWrite}
use Rattle.collection_words.proofs.Copy.Ascending.{addresses_without, only_at, other_true}
use Rattle.collection_words.proofs.Copy.Laid.{copied_collection, copied_laid, copied_state, copy_row, place_before, place_new}
use Rattle.collection_words.proofs.Copy.Moved.{behind_there, gone_other}
use Rattle.collection_words.proofs.Copy.Named.{left_ascend, named, own_behind}
use Rattle.collection_words.proofs.Copy.Stands.{completed_own, copy_stands}
use Rattle.collection_words.proofs.Copy.Words.{IsCopying, copied_forward, copied_here, copied_left, copied_made, copied_old, copy_room}
use Rattle.collection_words.proofs.Laid.Old.{other_bounds}
use Rattle.collection_words.proofs.Laid.Underway.{still_underway, underway}
use Rattle.collection_words.proofs.Laid.Within.{start_within}
use Rattle.collection_words.proofs.Placing.{put_one}
use Rattle.collection_words.proofs.Steps.Addresses.{contains-other}
use Rattle.stability_tracker.proofs.ListLaws.{Contains-filter}
use Rattle.page_scanner.specs.Passing.{collecting_after_all}
use Rattle.page_scanner.specs.Scan.{Planned, coming, copied_from, copied_to, going, is_gray, next_free, object_words, with_copy}
use Rattle.walk_laws.specs.Heap.{TellsBirths}
use Rattle.walk_laws.proofs.Birth.Copied.{copy_births}
use Rattle.scan_laws.specs.Scanned.{HaveBeenCopied, IsUntouched, put_records}
use Rattle.scan_laws.proofs.Collected.{object_parts}
use Rattle.scan_laws.proofs.Made.{made_then, made_words}

-- What a transaction sees of a graph, and where objects stand before the scan.
pub record View : Type 0 where
  pub t : ℕ
  pub made : ℕ
  pub g : Graph
  pub us : List UndoEntry
  pub before : Placing

-- A write that redirects a field to the copy of an object of the from-space.
pub record IsLedWrite (s : State) (places : Places) (words : List ℕ) (write : ℕ × ℕ) : Type 0 where
  pub object : ℕ
  pub field : ℕ
  pub from : ℕ
  pub to : ℕ
  pub at : write.0 ≡ field_at object field
  pub is : IsCurrentField places words object field
  pub names : write.1 ≡ bits (word.Stable to)
  pub leads : Contains (addresses places) to
  pub back : meaning (slice_index words (field_at object field)) ≡ Some (word.Stable from)
  pub old : in_other_space s from ≡ true
  pub forward : header (slice_index words from) ≡ Some (Forward to)

-- An object of the from-space went to an address.
pub record WentTo (places : Places) (starts words : List ℕ) (b to : ℕ) : Type 0 where
  pub start : Contains starts b
  pub current : Contains (addresses places) to
  pub forward : header (slice_index words b) ≡ Some (Forward to)

-- An object of the from-space that was left stands at an address with the words that it had there.
pub record StandsMade (k : Collection) (places : Places) (starts words moved : List ℕ) (at b : ℕ) : Type 0 where
  pub start : Contains starts b
  pub unmoved : contains k.moved b ≡ false
  pub current : Contains (addresses places) at
  pub fields : ℕ
  pub made : IsMade (λ w. w) words moved b at fields

-- The state, the places and the words when the planned copies are made.
pub record IsDone (s : State) (k : Collection) (places : Places) (starts words : List ℕ) (v : View) (q : Planned) : Type 0 where
  pub next : State
  pub now : Collection
  pub currents : Places
  pub rest : Places
  pub moved : List ℕ
  pub placed : moved_by_all v.before q.copies ≡ placing_of currents rest
  pub untouched : IsUntouched s next
  pub copied : HaveBeenCopied v.before.places v.before.remaining currents rest
  pub births : TellsBirths s v.before.places v.before.remaining words → TellsBirths next currents rest moved
  pub puts : put_records words q.copies ≡ moved
  pub passes : collecting_after_all s q.copies ≡ Some next
  pub is : IsUnderway next now currents rest moved
  pub backed : AreBacked currents moved v.us
  pub stands : StandsCompleted v.t v.made currents rest v.g v.us moved next
  pub pages : next.pages ≡ s.pages
  pub base : next.base ≡ s.base
  pub used : next.used ≡ s.used + q.size
  pub olds : (b : ℕ) → Contains starts b → in_other_space next b ≡ true
  pub goes : (b to : ℕ) → copied_to q.copies b ≡ Some to → WentTo currents starts moved b to
  pub left : (b n : ℕ) → Contains starts b → contains k.moved b ≡ false → copied_to q.copies b ≡ None → object_at words b ≡ Some n → Contains (addresses rest) b × IsMade (λ w. w) words moved b b n
  pub heads : (b : ℕ) → Contains starts b → copied_to q.copies b ≡ None → slice_index moved b ≡ slice_index words b
  pub here : (at n : ℕ) → Contains (addresses places) at → object_at words at ≡ Some n → Contains (addresses currents) at × IsMade (λ w. w) words moved at at n
  pub comes : (at b : ℕ) → copied_from q.copies at ≡ Some b → StandsMade k currents starts words moved at b
  pub grays : (at : ℕ) → contains now.gray at ≡ true → is_gray k q at ≡ true
  pub writes : AllByRecursion (IsLedWrite next currents moved) q.writes

-- What one more copy keeps.

-- what leads to one of these objects leads to one of more
pub leads_more : (xs ys : List ℕ) (meant : Option Word) → ((x : ℕ) → Contains xs x → Contains ys x) → LeadsHere xs meant → LeadsHere ys meant
leads_more xs ys None more leads = leads
leads_more xs ys (Some word.Null) more leads = tt
leads_more xs ys (Some (word.Int n)) more leads = tt
leads_more xs ys (Some (word.Volatile index)) more leads = tt
leads_more xs ys (Some (word.Stable at)) more leads = more at leads

copy_field : {s : State} {k : Collection} {places remaining : Places} {words : List ℕ} {id : Id} {from : ℕ} → IsCopying s k places remaining words id from → (object field : ℕ)
    → IsCurrentField places words object field → IsCurrentField (with_place s places id) (words_after_copy s words from) object field
copy_field {s} {places = places} {id = id} copying object field is =
    let made = copied_here copying (copy_room copying) object is.fields is.start is.stands in
    record { start = place_before s places id object is.start; fields = is.fields; stands = made.is; within = is.within }

copy_backed : {s : State} {k : Collection} {places remaining : Places} {words : List ℕ} {id : Id} {from : ℕ} → IsCopying s k places remaining words id from → (us : List UndoEntry)
    → AreBacked places words us → AreBacked (with_place s places id) (words_after_copy s words from) us
copy_backed {s} {places = places} {words = words} {id = id} {from = from} copying us backed =
    AllByRecursion-map (λ (u : UndoEntry). IsHereWrite places words u.object u.field u.was) (λ u. IsHereWrite (with_place s places id) (words_after_copy s words from) u.object u.field u.was) us
    (λ u one. record { is = copy_field copying u.object u.field one.is; leads = leads_more (addresses places) (addresses (with_place s places id)) (meaning u.was) (place_before s places id) one.leads }) backed

-- no forwarding word stands where an object remains
pub no_forward : (words : List ℕ) (at n to : ℕ) → object_at words at ≡ Some n → header (slice_index words at) ≡ Some (Forward to) → ⊥
no_forward words at n to is forward = absurd (cc (sym (object_header words at n is).0 ∙ forward))

-- a word of the from-space other than the header of the object stays
copy_old : {s : State} {k : Collection} {places remaining : Places} {words : List ℕ} {id : Id} {from : ℕ} → IsCopying s k places remaining words id from → (b : ℕ) → in_other_space s b ≡ true → b ≢ from
    → slice_index (words_after_copy s words from) b ≡ slice_index words b
copy_old {s} copying b old other = let bounds = other_bounds s b old in copied_old copying (copy_room copying) b bounds.0 bounds.1 other

copy_led : {s : State} {k : Collection} {places remaining : Places} {words : List ℕ} {id : Id} {from : ℕ} → IsCopying s k places remaining words id from → (write : ℕ × ℕ) → IsLedWrite s places words write
    → IsLedWrite (copied_state s k words from) (with_place s places id) (words_after_copy s words from) write
copy_led {s} {k} {places} {words = words} {id = id} {from = from} copying write w =
    let room = copy_room copying in
    let made = copied_here copying room w.object w.is.fields w.is.start w.is.stands in
    let other : w.from ≢ from = λ same. no_forward words from room.fields w.to room.object (ap (λ (x : ℕ). header (slice_index words x)) (sym same) ∙ w.forward) in
    record {
      object = w.object;
      field = w.field;
      from = w.from;
      to = w.to;
      at = w.at;
      is = copy_field copying w.object w.field w.is;
      names = w.names;
      leads = place_before s places id w.to w.leads;
      back = ap meaning (made.fields w.field w.is.within) ∙ w.back;
      old = w.old;
      forward = ap header (copy_old copying w.from w.old other) ∙ w.forward;
    }

-- The planned copy is the next one.

going_more : (copies : List Record) (from to : ℕ) (words : List ℕ) (b : ℕ) → copied_to (copies ++ Copy from to words ∷ []) b ≡ (if from == b then Some to else copied_to copies b)
going_more copies from to words b = fold-append (going b) None copies (Copy from to words ∷ [])

-- where copies come from with one more copy
pub coming_more : (copies : List Record) (from to : ℕ) (words : List ℕ) (at : ℕ) → copied_from (copies ++ Copy from to words ∷ []) at ≡ (if to == at then Some from else copied_from copies at)
coming_more copies from to words at = fold-append (coming at) None copies (Copy from to words ∷ [])

after_none : (o : Option State) → option_and_then (λ n. collecting_after_all n []) o ≡ o
after_none None = refl
after_none (Some n) = refl

after_first : (xs : List Record) (r : Record) → ((n : State) → collecting_after_all n (xs ++ r ∷ []) ≡ option_and_then (λ m. collecting_after m r) (collecting_after_all n xs)) → (o : Option State)
    → option_and_then (λ n. collecting_after_all n (xs ++ r ∷ [])) o ≡ option_and_then (λ n. collecting_after n r) (option_and_then (λ n. collecting_after_all n xs) o)
after_first xs r later None = refl
after_first xs r later (Some n) = later n

-- one more record after these
pub after_more : (s : State) (rs : List Record) (r : Record) → collecting_after_all s (rs ++ r ∷ []) ≡ option_and_then (λ n. collecting_after n r) (collecting_after_all s rs)
after_more s [] r = after_none (collecting_after s r)
after_more s (x ∷ xs) r = after_first xs r (λ n. after_more n xs r) (collecting_after s x)

-- what was found with one more copy
found_cases : (t : Bool) (a : ℕ) (o : Option ℕ) (y : ℕ) → (if t then Some a else o) ≡ Some y → ((t ≡ true) × (a ≡ y)) ⊎ (o ≡ Some y)
found_cases true a o y is = inl (refl, cc)
found_cases false a o y is = inr is

none_cases : (t : Bool) (a : ℕ) (o : Option ℕ) → (if t then Some a else o) ≡ None → (t ≡ false) × (o ≡ None)
none_cases true a o is = absurd (cc is)
none_cases false a o is = (refl, is)

-- what was gray in a plan is gray with one more copy
gray_more : (k : Collection) (at a : ℕ) (t : Bool) (o : Option ℕ) → (contains k.gray at || is_some o) ≡ true → (contains k.gray at || is_some (if t then Some a else o)) ≡ true
gray_more k at a false o gray = gray
gray_more k at a true o gray = or_true (contains k.gray at)
  where
    or_true : (b : Bool) → (b || true) ≡ true
    or_true true = refl
    or_true false = refl

-- With one more copy.
pub done_copy : {s : State} {k : Collection} {places : Places} {starts words : List ℕ} {v : View} {q : Planned} (d : IsDone s k places starts words v q) (b n : ℕ)
    → Contains starts b → contains k.moved b ≡ false → copied_to q.copies b ≡ None → object_at words b ≡ Some n
    → (e : IsDone s k places starts words v (with_copy (spaces_of s) words q b n))
    × (Contains (addresses e.currents) (next_free (spaces_of s) q))
    × (header (slice_index e.moved b) ≡ Some (Forward (next_free (spaces_of s) q)))
    × ((at m : ℕ) → Contains (addresses d.currents) at → object_at d.moved at ≡ Some m → Contains (addresses e.currents) at × IsMade (λ w. w) d.moved e.moved at at m)
done_copy {s} {k} {places} {starts} {words} {v} {q} d b n start unmoved none object =
    let left = d.left b n start unmoved none object in
    let own = completed_own v.us (underway d.is) d.stands in
    let name = named d.rest b (own_behind d.currents d.rest own) left.0 in
    let id = name.0 in
    let copying : IsCopying d.next d.now d.currents d.rest d.moved id b = record { is = underway d.is; own = own; left = name.1 } in
    let room = copy_room copying in
    let to = d.next.base + d.next.used in
    let free = next_free (spaces_of s) q in
    let ws = object_words words b n in
    let base = d.base in
    let used = d.used in
    let place : to ≡ free = omega (arith, base, used) in
    let many : room.fields ≡ n = cc (sym room.object ∙ left.1.is) in
    let second : b + 1 ≡ suc b = omega arith in
    let moves : words_to_copy d.moved b ≡ ws = made_words words d.moved b b n left.1 ∙ ap (λ (y : ℕ). slice_index words b ∷ slice_index words y ∷ field_words words b) second ∙ sym (object_parts words b n object) in
    let copy : ObjectCopy = record { from = b; to = free; words = ws } in
    let same : next_copy d.next d.moved b ≡ copy = ap (λ (x : ℕ). record { from = b; to = x; words = words_to_copy d.moved b }) place ∙ ap (λ (l : List ℕ). record { from = b; to = free; words = l }) moves in
    let others = words_after_copy d.next d.moved b in
    let last = copied_state d.next d.now d.moved b in
    let currents = with_place d.next d.currents id in
    let follows : collecting_after d.next (Copy b free ws) ≡ Some last = ap (copy_after d.next) (sym same) ∙ copy_row copying in
    let within = start_within (copied_laid copying d.is.small).laid to (place_new d.next d.currents id) in
    let low = within.below in
    let far = d.is.spaced.room in
    let small = d.is.small in
    let short = room.room in
    let limit : to < 2097152 = elim d.is.spaced.first [ inl zero ↦ omega (arith, zero, short, small) | inr high ↦ omega (arith, high, short, small) ] in
    let forward : header (slice_index others b) ≡ Some (Forward free) = ap header (copied_forward copying room) ∙ header-header_bits (Forward to) limit ∙ ap (λ (x : ℕ). Some (Forward x)) place in
    let fresh : Contains (addresses currents) free = subst (λ (x : ℕ). Contains (addresses currents) x) place (place_new d.next d.currents id) in
    let kept : (at m : ℕ) → Contains (addresses d.currents) at → object_at d.moved at ≡ Some m → Contains (addresses currents) at × IsMade (λ w. w) d.moved others at at m =
    λ at m has there. (place_before d.next d.currents id at has, copied_here copying room at m has there) in
    let e : IsDone s k places starts words v (with_copy (spaces_of s) words q b n) = record {
      next = last;
      now = copied_collection d.next d.now d.moved b;
      currents = currents;
      rest = without d.rest b;
      moved = others;
      placed = fold-append moved_by v.before q.copies (Copy b free ws ∷ [])
          ∙ ap (λ (p : Placing). moved_by p (Copy b free ws)) d.placed
          ∙ ap (λ (ps : Places). placing_of (d.currents ++ ps) (without d.rest b)) (put_one d.rest (other_base d.next) free id b (left_ascend (underway d.is)) name.1)
          ∙ ap (λ (x : ℕ). placing_of (d.currents ++ (id, x) ∷ []) (without d.rest b)) (sym place);
      untouched = record { undo = d.untouched.undo; commits = d.untouched.commits; next = d.untouched.next };
      copied = record {
        kept = λ x at there. address_of-append_left d.currents ((id, to) ∷ []) x at (d.copied.kept x at there);
        fewer = λ x gone_before.
            let none_now = d.copied.fewer x gone_before in
            let only = only_at d.rest (other_base d.next) id b (left_ascend (underway d.is)) name.1 in
            let apart : x ≢ id = λ same. let there = behind_there d.currents d.rest id b own name.1 in let clash = sym none_now ∙ ap (address_of (d.currents ++ d.rest)) same ∙ there in absurd (cc clash) in
            gone_other d.currents d.rest id b to x only apart ∙ none_now;
      };
      births = λ tells. copy_births copying d.is.small (d.births tells);
      puts = fold-append put_record words q.copies (Copy b free ws ∷ []) ∙ ap (λ (l : List ℕ). put_record l (Copy b free ws)) d.puts ∙ ap (λ (c : ObjectCopy). put_all d.moved (writes_of c)) (sym same);
      passes = after_more s q.copies (Copy b free ws) ∙ ap (option_and_then (λ m. collecting_after m (Copy b free ws))) d.passes ∙ follows;
      is = still_underway d.is.small (copied_laid copying d.is.small);
      backed = copy_backed copying v.us d.backed;
      stands = copy_stands v.us copying d.is.small d.backed d.stands;
      pages = d.pages;
      base = d.base;
      used = let size = room.size in omega (arith, used, size, many);
      olds = d.olds;
      goes = λ x y is. elim (found_cases (b == x) free (copied_to q.copies x) y (sym (going_more q.copies b free ws x) ∙ is)) [
        | inl now ↦
            let here = eqb-true b x now.0 in
            subst (λ (z : ℕ). WentTo currents starts others x z) now.1 (subst (λ (z : ℕ). WentTo currents starts others z free) here (record { start = start; current = fresh; forward = forward }))
        | inr was ↦
            let went = d.goes x y was in
            let other : x ≢ b = λ equal. no_forward d.moved b n y left.1.is (ap (λ (z : ℕ). header (slice_index d.moved z)) (sym equal) ∙ went.forward) in
            record { start = went.start; current = place_before d.next d.currents id y went.current; forward = ap header (copy_old copying x (d.olds x went.start) other) ∙ went.forward }
      ];
      left = λ x m has still fresh_x there.
          let parts = none_cases (b == x) free (copied_to q.copies x) (sym (going_more q.copies b free ws x) ∙ fresh_x) in
          let other : x ≢ b = λ equal. let clash = sym parts.0 ∙ eq-eqb b x (sym equal) in absurd (cc clash) in
          let was = d.left x m has still parts.1 there in (
            subst (λ (l : List ℕ). Contains l x) (sym (addresses_without d.rest b)) (Contains-filter _ (addresses d.rest) x was.0 (other_true b x other)),
            made_then words d.moved others x x x m was.1 (copied_left copying room x m was.0 other was.1.is),
          );
      heads = λ x has fresh_x.
          let parts = none_cases (b == x) free (copied_to q.copies x) (sym (going_more q.copies b free ws x) ∙ fresh_x) in
          let other : x ≢ b = λ equal. let clash = sym parts.0 ∙ eq-eqb b x (sym equal) in absurd (cc clash) in
          copy_old copying x (d.olds x has) other ∙ d.heads x has parts.1;
      here = λ at m has there.
          let was = d.here at m has there in
          let more = kept at m was.0 was.1.is in (more.0, made_then words d.moved others at at at m was.1 more.1);
      comes = λ at x is. elim (found_cases (free == at) b (copied_from q.copies at) x (sym (coming_more q.copies b free ws at) ∙ is)) [
        | inl now ↦
            let here = eqb-true free at now.0 in
            let made = subst (λ (m : ℕ). IsMade (λ w. w) d.moved others b to m) many (copied_made copying room) in
            let made_there = subst (λ (y : ℕ). IsMade (λ w. w) d.moved others b y n) place made in
            subst (λ (z : ℕ). StandsMade k currents starts words others at z) now.1
            (subst (λ (z : ℕ). StandsMade k currents starts words others z b) here (record { start = start; unmoved = unmoved; current = fresh; fields = n; made = made_then words d.moved others b b free n left.1 made_there }))
        | inr was ↦
            let stood = d.comes at x was in
            let more = kept at stood.fields stood.current stood.made.is in
            record { start = stood.start; unmoved = stood.unmoved; current = more.0; fields = stood.fields; made = made_then words d.moved others x at at stood.fields stood.made more.1 }
      ];
      grays = λ at gray. elim (cases_order at to) [
        | inl equal ↦ subst (λ o. (contains k.gray at || is_some o) ≡ true) (sym (coming_more q.copies b free ws at ∙ ap (λ t. if t then Some b else copied_from q.copies at) (eq-eqb free at (sym place ∙ sym equal)))) (or_some (contains k.gray at))
        | inr beside ↦
            let other : at ≢ to = λ equal. elim beside [ inl less ↦ omega (arith, equal, less) | inr more ↦ omega (arith, equal, more) ] in
            let was = d.grays at (sym (contains-other d.now.gray to at other) ∙ gray) in
            subst (λ o. (contains k.gray at || is_some o) ≡ true) (sym (coming_more q.copies b free ws at)) (gray_more k at b (free == at) (copied_from q.copies at) was)
      ];
      writes = AllByRecursion-map (IsLedWrite d.next d.currents d.moved) (IsLedWrite last currents others) q.writes (copy_led copying) d.writes;
    } in
    (e, fresh, forward, kept)
  where
    or_some : (t : Bool) → (t || true) ≡ true
    or_some true = refl
    or_some false = refl
