-- A seal where no collection is under way: what it finds, and that all records encode what it leaves.
use Rattle.std.proofs.Common.{◌≡◌, ◌≢◌, ◌⊎◌, ℕ, ◌+◌, ◌-◌, ◌*◌, ◌<◌, ◌≤◌, true, inl, inr, max, List, [], ◌∷◌, ◌++◌, length, Option, Some, None, refl, sym, ap, ◌∙◌, subst, arith}
use Rattle.std.specs.Prelude.{Contains, IsTrue, MatchOption, fold, slice_index, slice_index_or}
use Rattle.std.specs.List.{AllByRecursion}
use Rattle.std.proofs.lemmas.Bool.{cases_eq}
use Rattle.std.proofs.lemmas.List.Elements.{Contains-append_left}
use Rattle.std.proofs.lemmas.Option.{same_Some}
use Rattle.heap_words.specs.declared.Word.{Word}
use Rattle.heap_words.specs.declared.Word.TheVariants.{Null, Int, Stable, Volatile}
use Rattle.heap_words.specs.Word.{meaning}
use Rattle.heap_spaces.specs.Collection.{Collection}
use Rattle.graph_model.specs.declared.id.Id.{Id}
use Rattle.graph_model.specs.declared.val.Val.TheVariants as val
use Rattle.graph_model.specs.Graph.{fields, root}
use Rattle.graph_model.specs.Transaction.{Transaction, View}
use Rattle.graph_model.specs.History.{Account}
use Rattle.commit_order.specs.Heard.{Heard}
use Rattle.commit_order.proofs.OrderLaws.{IsOrdered}
use Rattle.log_records.specs.declared.Record.{Record}
use Rattle.log_records.specs.Record.{IsRecord}
use Rattle.log_machine.specs.declared.UndoEntry.{UndoEntry}
use Rattle.log_machine.specs.Apart.{others_taken_back}
use Rattle.log_machine.proofs.ListLaws.{AllByRecursion-append, AllByRecursion-map}
use Rattle.log_machine.specs.Machine.{State, start, owed, words_in, after_all, taken_back, all_taken_back, put_record, field_at, is_number}
use Rattle.log_machine.proofs.MachineLaws.{after_all-append2}
use Rattle.log_machine.specs.Sound.{AreLosers}
use Rattle.log_machine.proofs.StateLaws.{all_inside}
use Rattle.log_machine.proofs.WordsLaws.{length-put_records}
use Rattle.log_machine.proofs.Fields.{written}
use Rattle.log_machine.proofs.MapLaws.{each_remove}
use Rattle.object_layout.specs.Layout.{object_at}
use Rattle.object_layout.specs.Walk.{AreEndToEnd, IsFilled}
use Rattle.object_layout.proofs.LayoutLaws.{object_header}
use Rattle.object_layout.proofs.ObjectLaws.{object_same}
use Rattle.object_layout.proofs.WalkLaws.{Contains-head, Contains-rest}
use Rattle.volatile_area.specs.Area.{AreaState}
use Rattle.graph_words.specs.Area.{HasMade}
use Rattle.graph_words.specs.Places.{AreOld, IsVisible, Places, address_of, addresses}
use Rattle.graph_words.specs.Stands.{Stands, StandsCommitted, AreNamedByBirth, AreWritten}
use Rattle.graph_words.proofs.Places.Addresses.{address_of-Contains}
use Rattle.graph_words.proofs.Seal.Places.{address_of-append_left, addresses-append}
use Rattle.graph_words.proofs.Seal.Sealing.{Sealing}
use Rattle.graph_words.proofs.Seal.Stands.{promoted_within}
use Rattle.graph_words.proofs.Seal.Values.{later_cases}
use Rattle.graph_words.proofs.Stands.Objects.{stands_field, stands_object, stands_placed}
use Rattle.graph_words.proofs.Stands.Visible.{committed_at_hand, visible_on}
use Rattle.graph_words.proofs.Stands.Write.{begin_made_next, committed_stands}
use Rattle.collection_words.specs.Completed.{future}
use Rattle.collection_words.specs.LaidOut.{AreHeapWords, IsFromSpace, LeadsHere, is_gray_field}
use Rattle.collection_words.specs.Writes.{AreBacked, IsHereWrite}
use Rattle.collection_words.proofs.Copy.Stands.{root_current}
use Rattle.collection_words.proofs.Heap.Cases.{HasNone, IsPlain, plain}
use Rattle.collection_words.proofs.Heap.Front.{stands_first, visible_leads_all}
use Rattle.collection_words.proofs.Laid.Filled.{filled_by, filling}
use Rattle.collection_words.proofs.Laid.Within.{placed_within}
use Rattle.graph_words.proofs.Stands.TakenBack.{renamed, taken_back_birth}
use Rattle.graph_words.proofs.Promotion.Seal.{CanSeal, is_sealing, sealing, seal_stands, seal_births, seal_old, seal_spelled, seal_follows}
use Rattle.heap_model.specs.Core.{Core, log_start, all_records, all_words}
use Rattle.heap_model.proofs.Step.Bits.{fit_behind}
use Rattle.heap_model.proofs.Step.Goes.{told_sound}
use Rattle.heap_model.proofs.ListLaws.{AllByRecursion-at}
use Rattle.heap_model.proofs.Step.Plain.{as_plain, of_plain, plain_names, plain_tells}
use Rattle.seen_laws.specs.Heap.{AreAllBacked}
use Rattle.heap_model.specs.Bits.{AreOf64Bits}
use Rattle.heap_model.specs.CoreTold.{IsTold}
use Rattle.core_laws.proofs.Sessions.Apart.{away_birth, away_header, object_now, own_away, own_apart}
use Rattle.core_laws.proofs.Step.Goes.{words_with, writing_of, numbered_as}
use Rattle.core_laws.proofs.Sessions.OtherWrites.{IsAway, length-others, others_at, others_records, all_ended}
use Rattle.core_laws.proofs.Seal.Words.{promotion_writes, own_taken_back, free_away, untouched}
use Rattle.core_laws.specs.Valid.{Agrees}
use Rattle.core_laws.proofs.Seal.Told as seal

-- objects stand end to end in other words where each of them does
ends_as : (words others : List ℕ) (from : ℕ) (starts : List ℕ) (end : ℕ) → ((at n : ℕ) → Contains starts at → object_at words at ≡ Some n → object_at others at ≡ Some n) → AreEndToEnd words from starts end
    → AreEndToEnd others from starts end
ends_as words others from [] end same ends = ends
ends_as words others from (at ∷ rest) end same (n, is, object, more) =
    (n, is, same at n (Contains-head at rest) object, ends_as words others (at + 2 + n) rest end (λ q m has. same q m (Contains-rest at rest q has)) more)

-- one of these writes wrote a word
abbrev HasWritten : ℕ → List UndoEntry → Type 0
HasWritten x [] = ⊥
HasWritten x (u ∷ us) = (x ≡ written u) ⊎ HasWritten x us

-- or none did
written_or_not : (us : List UndoEntry) (x : ℕ) → HasWritten x us ⊎ AllByRecursion (λ u. x ≢ written u) us
written_or_not [] x = inr tt
written_or_not (u ∷ us) x = elim (cases_eq x (written u)) [
  | inl same ↦ inl (inl same)
  | inr apart ↦ elim (written_or_not us x) [ inl later ↦ inl (inr later) | inr none ↦ inr (apart, none) ]
]

-- what holds of the address of each write holds of that of one
away_of_written : (P : ℕ → Type 0) (us : List UndoEntry) (x : ℕ) → AllByRecursion (λ u. P (written u)) us → HasWritten x us → P x
away_of_written P [] x all some = absurd some
away_of_written P (u ∷ us) x all (inl here) = subst P (sym here) all.0
away_of_written P (u ∷ us) x all (inr later) = away_of_written P us x all.1 later

-- what leads to the first objects leads to one of all
leads_more : (ps qs : Places) (meant : Option Word) → LeadsHere (addresses ps) meant → LeadsHere (addresses (ps ++ qs)) meant
leads_more ps qs None leads = leads
leads_more ps qs (Some Null) leads = leads
leads_more ps qs (Some (Int n)) leads = leads
leads_more ps qs (Some (Stable at)) leads = subst (λ (xs : List ℕ). Contains xs at) (sym (addresses-append ps qs)) (Contains-append_left (addresses ps) (addresses qs) at leads)
leads_more ps qs (Some (Volatile index)) leads = leads

module _ (a : Account) (c : Core) (h : Agrees a c) {numbers : List ℕ} {heard : Heard} (o : IsOrdered c.g0 numbers a heard) (s : ℕ) (t : Transaction) (e : a.active s ≡ Some t)
    (none : HasNone h.behind c.remaining) (space : seal.HasSpace a c h o s t e) where
  abbrev seen : View
  seen = seal.seen a c h o s t e

  abbrev own_undo : List UndoEntry
  own_undo = seal.own_undo a c h o s t e

  abbrev now : List ℕ
  now = seal.now a c h o s t e

  abbrev own_words : List ℕ
  own_words = seal.own_words a c h o s t e

  abbrev own_area : AreaState
  own_area = seal.own_area a c h o s t e

  abbrev next_free : ℕ
  next_free = seal.next_free a c h o s t e

  abbrev asked : ℕ
  asked = seal.asked a c h o s t e

  abbrev promotion : List Record
  promotion = seal.promotion a c h o s t e

  abbrev records : List Record
  records = seal.records a c h o s t e

  abbrev placed : Places
  placed = seal.placed a c h o s t e

  abbrev last : State
  last = seal.last a c h o s t e

  -- the words as they are committed after the seal
  abbrev pub settled : List ℕ
  settled = fold put_record own_words promotion

  -- the completed words are the words
  pub seal_plain : IsPlain h.behind c.places c.remaining now
  seal_plain = plain h.behind c.places c.remaining now none

  -- what the transaction sees stands in them
  pub own_stands : Stands t.number seen.made c.places seen.graph own_words h.behind.base h.behind.used
  own_stands = as_plain (λ ps ws n. Stands t.number seen.made ps seen.graph (others_taken_back h.behind t.number ws) h.behind.base n) seal_plain (writing_of a c s t e h).stands

  own_written : AreWritten c.places seen.graph own_undo
  own_written = as_plain (λ ps ws n. AreWritten ps seen.graph own_undo) seal_plain (writing_of a c s t e h).written

  sound : AreLosers h.behind
  sound = told_sound h.told

  fits : asked ≤ 64 * h.behind.pages - h.behind.used - owed h.behind
  fits = seal.fits a c h o s t e space

  inside : h.behind.used + owed h.behind ≤ 64 * h.behind.pages
  inside = h.told.heap.spaced.room

  ends : h.behind.base + h.behind.used + asked ≤ words_in h.behind.pages
  ends = seal.ends a c h o s t e space

  room : next_free + asked ≤ length own_words
  room = seal.room a c h o s t e space

  number : is_number t.number ≡ true
  number = numbered_as a c s t e h

  -- it finds what its transaction sees
  pub can : CanSeal c.places seen.graph t.number seen.made own_undo own_words h.behind.base h.behind.used next_free
  can =
      let w = writing_of a c s t e h in
      record {
        stands = own_stands;
        has = w.made;
        written = own_written;
        of_fields = w.fields;
        top = omega (arith, ends, seal.same_pages a c h o s t e space, h.in_range.few_pages);
      }

  -- all records lead to the state after it
  pub reached : after_all (start c.pages c.first_number) (all_records c ++ records) ≡ Some last
  reached = after_all-append2 (start c.pages c.first_number) h.behind (all_records c) records h.told.reached ∙ seal_follows h.behind can (all_inside h.behind t.number sound) number (omega (arith, fits, inside))

  -- the committed words after the seal are those that its transaction sees, with the promotion
  pub settled_words : all_taken_back last (fold put_record now promotion) ≡ settled
  settled_words = all_ended h.behind last t.number (fold put_record now promotion) refl ∙ others_records h.behind t.number now promotion (seal.promotion_away a c h o s t e)

  committed : all_taken_back last (words_with c records) ≡ settled
  committed = ap (all_taken_back last) (seal.words_behind a c h o s t e space) ∙ settled_words

  old_here : AreOld h.behind.next c.places
  old_here = as_plain (λ ps ws n. AreOld h.behind.next ps) seal_plain h.told.old

  births_here : IsTrue c.born → AreNamedByBirth c.places (all_taken_back h.behind now)
  births_here by_birth = plain_names h.behind c.places c.remaining now h.told.heap h.told.backed none (h.told.births by_birth)

  -- where births give the names in the committed words they do so in those that the transaction sees
  births_seen : AreNamedByBirth c.places (all_taken_back h.behind now) → AreNamedByBirth c.places own_words
  births_seen born =
      let w = writing_of a c s t e h in
      let back = sym (own_taken_back h.behind t.number now sound (own_apart a c h o s t e)) in
      renamed c.places (taken_back own_undo own_words) own_words (λ at has. sym (taken_back_birth own_stands own_undo w.fields at has)) (subst (AreNamedByBirth c.places) back born)

  -- The words after it.
  -- all objects that stand then
  abbrev pub later : Places
  later = c.places ++ placed

  -- all words
  abbrev pub then : List ℕ
  then = fold put_record now promotion

  -- the graph stands in the committed ones
  pub settled_stands : StandsCommitted later seen.graph settled h.behind.base (h.behind.used + asked)
  settled_stands = seal_stands can room

  it : Sealing
  it = sealing c.places seen.graph t.number seen.made own_undo own_words h.behind.base h.behind.used next_free

  -- an object stood there before, or it was promoted past all that was used
  later_or_new : (id : Id) (at : ℕ) → address_of later id ≡ Some at → (address_of c.places id ≡ Some at) ⊎ (next_free ≤ at)
  unfolding it
  later_or_new id at there = elim (later_cases it (is_sealing can) id at there) [
    | inl old ↦ inl old
    | inr to ↦ inr (promoted_within it (is_sealing can) id at to).above
  ]

  -- a word that no other transaction has written is the committed one
  then_at : (x : ℕ) → IsAway h.behind t.number x → slice_index then x ≡ slice_index settled x
  then_at x away = sym (others_at h.behind t.number then x away) ∙ ap (λ (ws : List ℕ). slice_index ws x) (others_records h.behind t.number now promotion (seal.promotion_away a c h o s t e))

  head_away : (id : Id) (at : ℕ) → address_of later id ≡ Some at → IsAway h.behind t.number at
  head_away id at there = elim (later_or_new id at there) [ inl old ↦ away_header a c h o t.number id at old | inr above ↦ free_away h.behind t.number at sound above ]

  then_long : length then ≡ length settled
  then_long = length-put_records promotion now ∙ sym (length-others h.behind t.number now) ∙ sym (length-put_records promotion own_words)

  -- each object stands in all words
  pub then_object : (id : Id) (at : ℕ) → address_of later id ≡ Some at → object_at then at ≡ Some (length (fields seen.graph id))
  then_object id at there =
      let n = length (fields seen.graph id) in
      let object = stands_object settled_stands id at there in
      object_same settled then at n object (then_at at (head_away id at there)) (omega (arith, (object_header settled at n object).1, then_long))

  start_object : (at n : ℕ) → Contains (addresses later) at → object_at settled at ≡ Some n → object_at then at ≡ Some n
  start_object at n start object =
      let one = stands_placed settled_stands at start in
      then_object one.0 at one.1 ∙ sym (stands_object settled_stands one.0 at one.1) ∙ object

  filled : IsFilled then h.behind.base (h.behind.used + asked) (addresses later)
  filled =
      let all = filling settled h.behind.base (h.behind.used + asked) (addresses later) (record { root = settled_stands.root_object; objects = settled_stands.ends }) in
      let rooted = root_current h.told.heap.laid (writing_of a c s t e h).stands.root_place in
      filled_by then h.behind.base (h.behind.used + asked) (addresses later) (record {
        ends = ends_as settled then h.behind.base (addresses later) (h.behind.base + (h.behind.used + asked)) start_object all.ends;
        first = all.first;
        root = start_object h.behind.base 4 all.first all.root;
        birth = then_at (h.behind.base + 1) (away_birth a c h o t.number root h.behind.base rooted) ∙ all.birth;
      })

  -- no transaction to come has made one of them
  none_to_come : HasMade later seen.graph (max h.behind.next (t.number + 1)) 0
  none_to_come =
      begin_made_next later seen.graph (max h.behind.next (t.number + 1)) (max h.behind.next (t.number + 1))
      (seal_old can h.behind.next (max h.behind.next (t.number + 1)) old_here (omega arith) (omega arith)) (omega arith) (omega arith)

  committed_leads : (id : Id) (at i : ℕ) → address_of later id ≡ Some at → i < length (fields seen.graph id) → LeadsHere (addresses later) (meaning (slice_index settled (field_at at i)))
  committed_leads id at i there within =
      let value = slice_index_or (fields seen.graph id) i val.Null in
      let N = max h.behind.next (t.number + 1) in
      let seen_value = AllByRecursion-at (IsVisible later 0 0) (fields seen.graph id) i val.Null tt (settled_stands.visible id at there) in
      subst (λ (w : ℕ). LeadsHere (addresses later) (meaning w)) (sym (stands_field settled_stands id at i there within))
      (visible_leads_all (committed_stands settled_stands N 0) none_to_come value (visible_on later 0 0 N 0 (committed_at_hand later N 0) value seen_value))

  field_leads : (id : Id) (at i : ℕ) → address_of later id ≡ Some at → i < length (fields seen.graph id) → LeadsHere (addresses later) (meaning (slice_index then (field_at at i)))
  field_leads id at i there within =
      let x = field_at at i in
      let committed_word = λ (away : IsAway h.behind t.number x). subst (λ (w : ℕ). LeadsHere (addresses later) (meaning w)) (sym (then_at x away)) (committed_leads id at i there within) in
      elim (later_or_new id at there) [
        | inr above ↦ committed_word (free_away h.behind t.number x sound (omega arith))
        | inl old ↦ elim (written_or_not own_undo x) [
          | inl mine ↦ committed_word (away_of_written (IsAway h.behind t.number) own_undo x (own_away a c h o s t e) mine)
          | inr other ↦
              let lies = placed_within h.told.heap.laid id at old in
              let object = object_now a c h o s t e id at old in
              let same = same_Some lies.fields (length (fields seen.graph id)) (sym lies.object ∙ object) in
              let below = lies.below in
              let kept = untouched promotion now x (promotion_writes (λ y. x ≢ y) own_area own_words own_undo next_free (λ y above here. omega arith) other) in
              let leads = h.told.heap.laid.here at (address_of-Contains c.places id at old) (length (fields seen.graph id)) i object within (ap (λ k. is_gray_field k at i) none.none) in
              subst (λ (w : ℕ). LeadsHere (addresses later) (meaning w)) (sym kept) (leads_more c.places placed (meaning (slice_index now x)) leads)
        ]
      ]

  pub heap_behind : AreHeapWords last later c.remaining then
  heap_behind = record {
    spaced = record { first = h.told.heap.spaced.first; room = omega (arith, fits, inside); within = h.told.heap.spaced.within };
    long = length-put_records promotion now ∙ h.told.heap.long;
    small = h.told.heap.small;
    laid = record {
      filled = filled;
      here = λ at start n i there below black.
          let one = stands_placed settled_stands at start in
          let same = same_Some (length (fields seen.graph one.0)) n (sym (then_object one.0 at one.1) ∙ there) in
          field_leads one.0 at i one.1 (omega arith);
      from = subst (λ (m : Option Collection). MatchOption m (c.remaining ≡ []) (λ k. IsFromSpace last k later c.remaining then)) (sym none.none) none.left;
    };
  }

  -- what the others wrote puts back words that lead to such
  backed_behind : AreAllBacked last later then
  backed_behind = each_remove (λ q us. AreBacked later then us) h.behind.undo t.number (λ q us is.
      AllByRecursion-map (λ v. IsHereWrite c.places now v.object v.field v.was) (λ v. IsHereWrite later then v.object v.field v.was) us
      (λ v write.
      let one = stands_first c.places (future h.behind now c.remaining) (writing_of a c s t e h).stands v.object write.is.start in
      let there = address_of-append_left c.places placed one.0 v.object one.1 in
      let same = same_Some (length (fields seen.graph one.0)) write.is.fields (sym (object_now a c h o s t e one.0 v.object one.1) ∙ write.is.stands) in
      let within = write.is.within in
      record {
        is = record { start = address_of-Contains later one.0 v.object there; fields = length (fields seen.graph one.0); stands = then_object one.0 v.object there; within = omega arith };
        leads = leads_more c.places placed (meaning v.was) write.leads;
      })
      (h.told.backed q us is))

  pub behind_none : HasNone last c.remaining
  behind_none = record { none = none.none; left = none.left }

  -- all records encode the graph that it leaves
  pub sealed_told : IsTold (log_start c) c.born later c.remaining seen.graph (c.before + length a.sealed + 1) (all_records c ++ records) (words_with c records) last
  sealed_told =
      let is = plain last later c.remaining then behind_none in
      subst (λ (ws : List ℕ). IsTold (log_start c) c.born later c.remaining seen.graph (c.before + length a.sealed + 1) (all_records c ++ records) ws last) (sym (seal.words_behind a c h o s t e space)) (record {
        good = AllByRecursion-append IsRecord (all_records c) records h.told.good (seal_spelled can number);
        reached = reached;
        count = let count = h.told.count in omega arith;
        heap = heap_behind;
        fit = subst AreOf64Bits (seal.words_behind a c h o s t e space) (fit_behind (all_words c) records h.told.fit (seal_spelled can number));
        backed = backed_behind;
        stands = of_plain (λ ps ws n. StandsCommitted ps seen.graph (all_taken_back last ws) h.behind.base n) is
            (subst (λ ws. StandsCommitted later seen.graph ws h.behind.base (h.behind.used + asked)) (sym settled_words) settled_stands);
        old = of_plain (λ ps ws n. AreOld last.next ps) is (seal_old can h.behind.next (max h.behind.next (t.number + 1)) old_here (omega arith) (omega arith));
        births = λ by_birth. plain_tells last later c.remaining then heap_behind backed_behind behind_none
            (subst (AreNamedByBirth later) (sym settled_words) (seal_births can room (births_seen (births_here by_birth))));
      })
