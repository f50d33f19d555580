-- Transactions side by side write fields of different objects: each holds exclusively what it writes. So what a transaction sees of an
-- object that no other holds exclusively stands in the words.
use Rattle.std.proofs.Common.{◌≡◌, ◌≢◌, inl, inr, ℕ, zero, suc, ◌+◌, ◌<◌, List, [], ◌∷◌, length, map, get_or, Some, None, refl, sym, ap, ◌∙◌, subst, arith, slice_index_or, unwrap_or, false}
use Rattle.std.specs.List.{AllByRecursion, Contains}
use Rattle.std.specs.FinMap.{get}
use Rattle.std.proofs.lemmas.List.{ext_get_or, get_or-map, length-map}
use Rattle.std.proofs.lemmas.Option.{same_Some}
use Rattle.graph_model.specs.declared.id.Id.{Id}
use Rattle.graph_model.specs.declared.val.Val.{Val}
use Rattle.graph_model.specs.declared.val.Val.TheVariants.{Null}
use Rattle.graph_model.specs.Graph.{Graph, fields}
use Rattle.graph_model.specs.Transaction.{Transaction, serial}
use Rattle.graph_model.specs.History.{Account}
use Rattle.graph_model.specs.Locking.{Mode, Shared, Exclusive, Lock, locks_of, Conflict, IsFree}
use Rattle.graph_model.specs.Plain.{view}
use Rattle.graph_model.proofs.Whole.Closed.{length-fields-run}
use Rattle.commit_order.specs.Heard.{Heard}
use Rattle.commit_order.proofs.OrderLaws.{IsOrdered}
use Rattle.object_layout.specs.Layout.{object_at, field_words}
use Rattle.object_layout.proofs.LayoutLaws.{object_header, length-field_words}
use Rattle.object_layout.proofs.ObjectLaws.{object_same}
use Rattle.log_machine.specs.declared.UndoEntry.{UndoEntry}
use Rattle.log_machine.specs.Machine.{State, field_at, undo_of}
use Rattle.log_machine.proofs.Fields.{written, IsApart}
use Rattle.log_machine.specs.Apart.{others_taken_back}
use Rattle.log_machine.proofs.ListLaws.{AllByRecursion-map}
use Rattle.graph_words.specs.Places.{IsAtHand, IsVisible, Places, address_of, bits_of, place_of}
use Rattle.graph_words.specs.Stands.{IsOfField}
use Rattle.graph_words.proofs.Area.Made.{own_visible}
use Rattle.graph_words.proofs.Places.Addresses.{address_of-Contains, some_address}
use Rattle.graph_words.proofs.Seal.Places.{address_of-append_left}
use Rattle.graph_words.proofs.Stands.Objects.{stands_object, stands_one, stands_field_apart, stands_field_one, word_at_field}
use Rattle.collection_words.specs.Completed.{completed, completed_places, future}
use Rattle.collection_words.specs.LaidOut.{is_gray_field}
use Rattle.collection_words.proofs.Heap.Cases.{stands_alike}
use Rattle.collection_words.proofs.Laid.Within.{placed_within}
use Rattle.heap_model.proofs.ListLaws.{AllByRecursion-at}
use Rattle.heap_model.specs.Core.{Core, all_words}
use Rattle.core_laws.specs.Valid.{IsLockedWrite, IsWriting, Agrees}
use Rattle.core_laws.proofs.Step.Goes.{writing_of}
use Rattle.core_laws.proofs.Sessions.OtherWrites.{IsAway, others_at, length-others}
use Rattle.core_laws.proofs.Sessions.Whole.{value_here, whole_made, word_here}

-- Locks.

shared_conflict : (mode : Mode) → Conflict mode Shared → Conflict mode Exclusive
shared_conflict Shared conflict = refl
shared_conflict Exclusive conflict = refl

-- an object that a transaction may hold exclusively is one that it may share
pub free_shared : (g0 : Graph) (a : Account) (n : ℕ) (id : Id) → IsFree g0 a n (Some (id, Exclusive)) → IsFree g0 a n (Some (id, Shared))
free_shared g0 a n id free other way = free other (record { differs = way.differs; mode = way.mode; holds = way.holds; conflicts = shared_conflict way.mode way.conflicts })

-- Writes.

both_hold : {X : Type 0} (P Q R : X → Type 0) (xs : List X) → ((x : X) → P x → Q x → R x) → AllByRecursion P xs → AllByRecursion Q xs → AllByRecursion R xs
both_hold P Q R [] f p q = tt
both_hold P Q R (x ∷ xs) f p q = (f x p.0 q.0, both_hold P Q R xs f p.1 q.1)

at_or_null : (P : Val → Type 0) (vs : List Val) (i : ℕ) → P Null → (i < length vs → P (slice_index_or vs i Null)) → P (slice_index_or vs i Null)
at_or_null P [] i none some = none
at_or_null P (v ∷ vs) zero none some = some (omega arith)
at_or_null P (v ∷ vs) (suc i) none some = at_or_null P vs i none (λ within. some (omega arith))

-- writes to addresses that no other transaction has written are apart from those of the others
pub apart_of : (s : State) (t : ℕ) (us : List UndoEntry) → AllByRecursion (λ u. IsAway s t (written u)) us → IsApart s t us
apart_of s t [] away q vs some other = tt
apart_of s t (u ∷ us) away q vs some other = (away.0 q vs some other, apart_of s t us away.1 q vs some other)

-- Writes that may be taken back, and the active transaction that wrote them.
pub record IsWrittenBy (a : Account) (c : Core) (state : State) (q : ℕ) (vs : List UndoEntry) : Type 0 where
  pub session : ℕ
  pub transaction : Transaction
  pub active : a.active session ≡ Some transaction
  pub number : transaction.number ≡ q
  pub own : vs ≡ undo_of state q
  pub writing : IsWriting c.places c.remaining (view c.g0 a transaction) transaction.number (locks_of (serial c.g0 a.sealed) transaction) (all_words c) state

-- A write of a field of an object that these locks hold exclusively.
record IsHeldField (places : Places) (g : Graph) (locks : List Lock) (v : UndoEntry) : Type 0 where
  id : Id
  object : address_of places id ≡ Some v.object
  within : v.field < length (fields g id)
  lock : Contains locks (id, Exclusive)

module _ (a : Account) (c : Core) (h : Agrees a c) {numbers : List ℕ} {heard : Heard} (o : IsOrdered c.g0 numbers a heard) where
  -- all objects of the completed words
  abbrev all_places : Places
  all_places = completed_places h.behind c.places c.remaining (all_words c)

  -- a current object is one of them
  among_all : (id : Id) (at : ℕ) → address_of c.places id ≡ Some at → address_of all_places id ≡ Some at
  among_all id at is = address_of-append_left c.places (future h.behind (all_words c) c.remaining) id at is

  -- a write of a field of an object that a transaction holds exclusively
  abbrev IsHeldBy : Transaction → UndoEntry → Type 0
  IsHeldBy t v = IsHeldField c.places (serial c.g0 a.sealed) (locks_of (serial c.g0 a.sealed) t) v

  -- a transaction whose writes may be taken back is active, and what it sees stands in the words without the writes of all others
  pub of_another : (q : ℕ) (vs : List UndoEntry) → get h.behind.undo q ≡ Some vs → IsWrittenBy a c h.behind q vs
  of_another q vs some =
      let one = h.losers q vs some in
      record {
        session = one.session;
        transaction = one.transaction;
        active = one.active;
        number = one.number;
        own = sym (ap (λ x. unwrap_or x []) some);
        writing = writing_of a c one.session one.transaction one.active h;
      }

  not_made : (s : ℕ) (t : Transaction) → a.active s ≡ Some t → (id : Id) (at : ℕ) → address_of all_places id ≡ Some at → id.t ≢ t.number
  not_made s t e id at is maker =
      let none = (whole_made (writing_of a c s t e h)).apart id.k in
      let made : address_of all_places id ≡ None = ap (λ n. address_of all_places (record { t = n; k = id.k })) maker ∙ none in
      cc

  -- an object of the completed words has as many fields as any active transaction sees
  pub same_length_all : (s : ℕ) (t : Transaction) → a.active s ≡ Some t → (id : Id) (at : ℕ) → address_of all_places id ≡ Some at
      → length (fields (view c.g0 a t).graph id) ≡ length (fields (serial c.g0 a.sealed) id)
  same_length_all s t e id at is = length-fields-run (serial c.g0 a.sealed) t id (not_made s t e id at is)

  -- so has one that stands in the space
  pub same_length : (s : ℕ) (t : Transaction) → a.active s ≡ Some t → (id : Id) (at : ℕ) → address_of c.places id ≡ Some at
      → length (fields (view c.g0 a t).graph id) ≡ length (fields (serial c.g0 a.sealed) id)
  same_length s t e id at is = same_length_all s t e id at (among_all id at is)

  held_field : (s : ℕ) (t : Transaction) → a.active s ≡ Some t → (v : UndoEntry) → IsOfField c.places (view c.g0 a t).graph v → IsLockedWrite c.places (locks_of (serial c.g0 a.sealed) t) v
      → IsHeldBy t v
  held_field s t e v field locked =
      let same : locked.id ≡ field.id = stands_one h.told.stands locked.id field.id v.object (among_all locked.id v.object locked.object) (among_all field.id v.object field.object) in
      record {
        id = field.id;
        object = field.object;
        within = subst (λ n. v.field < n) (same_length s t e field.id v.object field.object) field.field;
        lock = subst (λ (x : Id). Contains (locks_of (serial c.g0 a.sealed) t) (x, Exclusive)) same locked.lock;
      }

  held_fields : (s : ℕ) (t : Transaction) → a.active s ≡ Some t → AllByRecursion (IsHeldBy t) (undo_of h.behind t.number)
  held_fields s t e =
      let w = writing_of a c s t e h in
      both_hold (IsOfField c.places (view c.g0 a t).graph) (IsLockedWrite c.places (locks_of (serial c.g0 a.sealed) t)) (IsHeldBy t) (undo_of h.behind t.number)
      (held_field s t e) w.fields w.locked

  others_held : (q : ℕ) (vs : List UndoEntry) → get h.behind.undo q ≡ Some vs → (w : IsWrittenBy a c h.behind q vs) → AllByRecursion (IsHeldBy w.transaction) vs
  others_held q vs some w =
      subst (AllByRecursion (IsHeldBy w.transaction)) (ap (undo_of h.behind) w.number ∙ sym w.own) (held_fields w.session w.transaction w.active)

  field_free : (t u : Transaction) (r : ℕ) → a.active r ≡ Some u → u.number ≢ t.number → (id : Id) (at i : ℕ) → address_of all_places id ≡ Some at → i < length (fields (serial c.g0 a.sealed) id)
      → IsFree c.g0 a t.number (Some (id, Shared)) → (v : UndoEntry) → IsHeldBy u v → field_at at i ≢ written v
  field_free t u r also differ id at i is within free v held same =
      let one = stands_field_one h.told.stands id held.id at v.object i v.field is (among_all held.id v.object held.object) within held.within same in
      free u.number (record {
        differs = differ;
        mode = Exclusive;
        holds = record {
          session = r;
          transaction = u;
          active = also;
          number = refl;
          lock = subst (λ (x : Id). Contains (locks_of (serial c.g0 a.sealed) u) (x, Exclusive)) (sym one.0) held.lock;
        };
        conflicts = refl;
      })

  -- no other transaction has written a field that no other holds exclusively
  pub away_field_all : (s : ℕ) (t : Transaction) → a.active s ≡ Some t → (id : Id) (at i : ℕ) → address_of all_places id ≡ Some at → i < length (fields (view c.g0 a t).graph id)
      → IsFree c.g0 a t.number (Some (id, Shared)) → IsAway h.behind t.number (field_at at i)
  away_field_all s t e id at i is within free q vs some other =
      let w = of_another q vs some in
      let long = same_length_all s t e id at is in
      AllByRecursion-map (IsHeldBy w.transaction) (λ v. field_at at i ≢ written v) vs
      (field_free t w.transaction w.session w.active (λ same. other (sym w.number ∙ same)) id at i is (omega arith) free) (others_held q vs some w)

  -- the same of a current object
  pub away_field : (s : ℕ) (t : Transaction) → a.active s ≡ Some t → (id : Id) (at i : ℕ) → address_of c.places id ≡ Some at → i < length (fields (view c.g0 a t).graph id)
      → IsFree c.g0 a t.number (Some (id, Shared)) → IsAway h.behind t.number (field_at at i)
  away_field s t e id at i is within free = away_field_all s t e id at i (among_all id at is) within free

  head_free : (id : Id) (at : ℕ) → address_of all_places id ≡ Some at → (u : Transaction) (v : UndoEntry) → IsHeldBy u v → (at ≢ written v) × (at + 1 ≢ written v)
  head_free id at is u v held = elim (stands_field_apart h.told.stands held.id id v.object at v.field (among_all held.id v.object held.object) is held.within) [
    | inl same ↦
        let place : v.object ≡ at = same_Some v.object at (sym (among_all held.id v.object held.object) ∙ ap (address_of all_places) same ∙ is) in
        (λ here. omega arith, λ here. omega arith)
    | inr (inl before) ↦ (λ here. omega arith, λ here. omega arith)
    | inr (inr later) ↦ (λ here. omega arith, λ here. omega arith)
  ]

  -- no transaction has written the header of an object
  pub away_header_all : (n : ℕ) (id : Id) (at : ℕ) → address_of all_places id ≡ Some at → IsAway h.behind n at
  away_header_all n id at is q vs some other =
      let w = of_another q vs some in
      AllByRecursion-map (IsHeldBy w.transaction) (λ v. at ≢ written v) vs (λ v held. (head_free id at is w.transaction v held).0) (others_held q vs some w)

  -- or its birth
  pub away_birth_all : (n : ℕ) (id : Id) (at : ℕ) → address_of all_places id ≡ Some at → IsAway h.behind n (at + 1)
  away_birth_all n id at is q vs some other =
      let w = of_another q vs some in
      AllByRecursion-map (IsHeldBy w.transaction) (λ v. at + 1 ≢ written v) vs (λ v held. (head_free id at is w.transaction v held).1) (others_held q vs some w)

  -- the same of a current object
  pub away_header : (n : ℕ) (id : Id) (at : ℕ) → address_of c.places id ≡ Some at → IsAway h.behind n at
  away_header n id at is = away_header_all n id at (among_all id at is)

  pub away_birth : (n : ℕ) (id : Id) (at : ℕ) → address_of c.places id ≡ Some at → IsAway h.behind n (at + 1)
  away_birth n id at is = away_birth_all n id at (among_all id at is)

  -- what a transaction holds exclusively no other one holds
  pub own_free : (s : ℕ) (t : Transaction) → a.active s ≡ Some t → (id : Id) → Contains (locks_of (serial c.g0 a.sealed) t) (id, Exclusive) → IsFree c.g0 a t.number (Some (id, Exclusive))
  own_free s t e id lock other way =
      let r = way.holds.session in
      let u = way.holds.transaction in
      let also = way.holds.active in
      let apart : s ≢ r = λ same. way.differs (sym way.holds.number ∙ sym (ap (λ (x : Transaction). x.number) (same_Some t u (sym e ∙ ap a.active same ∙ also)))) in
      (o.beside s r t u apart e also).apart id Exclusive way.mode lock way.holds.lock refl

  -- so no other transaction has written the fields that a transaction has written
  pub own_away : (s : ℕ) (t : Transaction) → a.active s ≡ Some t → AllByRecursion (λ u. IsAway h.behind t.number (written u)) (undo_of h.behind t.number)
  own_away s t e =
      AllByRecursion-map (IsHeldBy t) (λ u. IsAway h.behind t.number (written u)) (undo_of h.behind t.number)
      (λ u held.
      let long = same_length s t e held.id u.object held.object in
      let within = held.within in
      away_field s t e held.id u.object u.field held.object (omega arith) (free_shared c.g0 a t.number held.id (own_free s t e held.id held.lock)))
      (held_fields s t e)

  -- its writes are apart from those of the others
  pub own_apart : (s : ℕ) (t : Transaction) → a.active s ≡ Some t → IsApart h.behind t.number (undo_of h.behind t.number)
  own_apart s t e = apart_of h.behind t.number (undo_of h.behind t.number) (own_away s t e)

  -- with one more, of a field that it may hold exclusively
  pub apart_with : (s : ℕ) (t : Transaction) → a.active s ≡ Some t → (id : Id) (at i : ℕ) → address_of c.places id ≡ Some at → i < length (fields (view c.g0 a t).graph id)
      → IsFree c.g0 a t.number (Some (id, Exclusive)) → (entry : UndoEntry) → entry.object ≡ at → entry.field ≡ i → IsApart h.behind t.number (entry ∷ undo_of h.behind t.number)
  apart_with s t e id at i is within free entry object field =
      let here : field_at at i ≡ written entry = ap (λ n. field_at n i) (sym object) ∙ ap (field_at entry.object) (sym field) in
      apart_of h.behind t.number (entry ∷ undo_of h.behind t.number)
      (subst (IsAway h.behind t.number) here (away_field s t e id at i is within (free_shared c.g0 a t.number id free)), own_away s t e)

  -- What a transaction sees stands in the words.
  -- an object's header
  pub object_now : (s : ℕ) (t : Transaction) → a.active s ≡ Some t → (id : Id) (at : ℕ) → address_of c.places id ≡ Some at
      → object_at (all_words c) at ≡ Some (length (fields (view c.g0 a t).graph id))
  object_now s t e id at is =
      let now = completed h.behind c.places c.remaining (all_words c) in
      let seen = others_taken_back h.behind t.number now in
      let n = length (fields (view c.g0 a t).graph id) in
      let object = stands_object (writing_of a c s t e h).stands id at (among_all id at is) in
      let fits = (object_header seen at n object).1 in
      let long = length-others h.behind t.number now in
      let there = object_same seen now at n object (sym (others_at h.behind t.number now at (away_header t.number id at is))) (omega arith) in
      let within = placed_within h.told.heap.laid id at is in
      let alike = stands_alike h.told.heap at within.fields (address_of-Contains c.places id at is) within.object in
      within.object ∙ sym alike.object ∙ there

  -- as many fields stand there as the transaction sees
  pub length_now : (s : ℕ) (t : Transaction) → a.active s ≡ Some t → (id : Id) (at : ℕ) → address_of c.places id ≡ Some at
      → length (field_words (all_words c) at) ≡ length (fields (view c.g0 a t).graph id)
  length_now s t e id at is = length-field_words (all_words c) at (length (fields (view c.g0 a t).graph id)) (object_now s t e id at is)

  module _ (s : ℕ) (t : Transaction) (e : a.active s ≡ Some t) (id : Id) (at i : ℕ) (is : address_of c.places id ≡ Some at) (within : i < length (fields (view c.g0 a t).graph id))
      (free : IsFree c.g0 a t.number (Some (id, Shared))) (black : is_gray_field h.behind.collection at i ≡ false) where
    -- the value of a field that is not gray, of an object that no other transaction holds exclusively, is seen among the current objects
    pub value_now : IsVisible c.places t.number (view c.g0 a t).made (slice_index_or (fields (view c.g0 a t).graph id) i Null)
    value_now = value_here (writing_of a c s t e h) h.told.heap id at is (object_now s t e id at is) i within (away_field s t e id at i is within free) black

    -- and its word stands in the words
    pub word_now : get_or (all_words c) (field_at at i) 0 ≡ bits_of (place_of c.places (view c.g0 a t).graph) (slice_index_or (fields (view c.g0 a t).graph id) i Null)
    word_now = word_here (writing_of a c s t e h) h.told.heap id at is (object_now s t e id at is) i within (away_field s t e id at i is within free) black

  -- so is that of any field of an object at hand, and of one past its last
  pub value_at_hand : (s : ℕ) (t : Transaction) → a.active s ≡ Some t → (id : Id) → IsAtHand c.places t.number (view c.g0 a t).made id → (i : ℕ) → IsFree c.g0 a t.number (Some (id, Shared))
      → ((at : ℕ) → address_of c.places id ≡ Some at → is_gray_field h.behind.collection at i ≡ false) → IsVisible c.places t.number (view c.g0 a t).made (slice_index_or (fields (view c.g0 a t).graph id) i Null)
  value_at_hand s t e id (inl there) i free black =
      let place = some_address (address_of c.places id) there in
      at_or_null (IsVisible c.places t.number (view c.g0 a t).made) (fields (view c.g0 a t).graph id) i tt (λ within. value_now s t e id place.0 i place.1 within free (black place.0 place.1))
  value_at_hand s t e id (inr own) i free black =
      AllByRecursion-at (IsVisible c.places t.number (view c.g0 a t).made) (fields (view c.g0 a t).graph id) i Null tt (own_visible (writing_of a c s t e h).made own)

  -- all of its fields
  pub fields_now : (s : ℕ) (t : Transaction) → a.active s ≡ Some t → (id : Id) (at : ℕ) → address_of c.places id ≡ Some at → IsFree c.g0 a t.number (Some (id, Shared)) → ((i : ℕ) → is_gray_field h.behind.collection at i ≡ false)
      → field_words (all_words c) at ≡ map (bits_of (place_of c.places (view c.g0 a t).graph)) (fields (view c.g0 a t).graph id)
  fields_now s t e id at is free black =
      let now = all_words c in
      let vs = fields (view c.g0 a t).graph id in
      let word = bits_of (place_of c.places (view c.g0 a t).graph) in
      let long = length_now s t e id at is in
      ext_get_or 0 (field_words now at) (map word vs) (long ∙ sym (length-map vs word)) (λ i lt.
      let within : i < length vs = omega arith in
      sym (word_at_field now at (length vs) i (object_now s t e id at is) within) ∙ word_now s t e id at i is within free (black i) ∙ sym (get_or-map word vs i Null 0 within))
