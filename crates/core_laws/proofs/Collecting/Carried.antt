-- What a step of a collection carries along: the same objects are there after it, and what transactions see, hold and wrote leads to them.
use Rattle.std.proofs.Common.{◌≡◌, ℕ, suc, ◌+◌, ◌<◌, ◌≤◌, inl, inr, true, false, List, [], ◌∷◌, ◌++◌, length, Option, None, Some, is_some, refl, sym, ap, ◌∙◌, subst}
use Rattle.std.specs.Prelude.{MatchOption, unwrap_or}
use Rattle.std.specs.List.{AllByRecursion}
use Rattle.std.specs.FinMap.{get}
use Rattle.std.proofs.lemmas.Option.{same_Some}
use Rattle.graph_model.specs.declared.id.Id.{Id}
use Rattle.graph_model.specs.declared.val.Val.{Val}
use Rattle.graph_model.specs.declared.val.Val.TheVariants.{Null, Int, Ref}
use Rattle.graph_model.specs.Graph.{Graph, fields}
use Rattle.graph_model.specs.Transaction.{View}
use Rattle.graph_model.specs.Locking.{Lock}
use Rattle.log_machine.specs.declared.UndoEntry.{UndoEntry}
use Rattle.log_machine.specs.Apart.{others_taken_back}
use Rattle.log_machine.specs.Machine.{State, owed, undo_of}
use Rattle.graph_words.specs.Places.{Places, IsAtHand, IsVisible, address_of, made_by}
use Rattle.graph_words.specs.Stands.{AreOfFields, IsOfField, IsWritten, Stands}
use Rattle.graph_words.proofs.Area.Fields.{write_at}
use Rattle.graph_words.proofs.Places.Addresses.{address_of-cases, address_of-one, none_or_some, own_made, some_address}
use Rattle.graph_words.proofs.Places.Lists.{AllByRecursion-get, Any-head, Any-rest}
use Rattle.graph_words.proofs.Seal.Places.{address_of-append_left, address_of-append_right}
use Rattle.collection_words.specs.Completed.{completed, completed_places, places_from}
use Rattle.collection_words.specs.Placed.{HaveOwnNames}
use Rattle.collection_words.specs.Relocated.{HaveSameIds}
use Rattle.collection_words.proofs.Laid.Names.{own_names}
use Rattle.collection_words.proofs.Moves.Sources.{put_same}
use Rattle.heap_model.specs.CoreTold.{HoldsAtHand}
use Rattle.core_laws.specs.Valid.{AreLockedWrites, AreUnlocked, IsWriting}

-- Names.

none_of : (o : Option ℕ) → is_some o ≡ false → o ≡ None
none_of None is = refl
none_of (Some at) is = absurd (cc is)

-- an object in neither list is not in their concatenation
pub none_joined : (ps qs : Places) (id : Id) → address_of ps id ≡ None → address_of qs id ≡ None → address_of (ps ++ qs) id ≡ None
none_joined ps qs id one other = address_of-append_right ps qs id one ∙ other

-- and the other way round
pub none_parted : (ps qs : Places) (id : Id) → address_of (ps ++ qs) id ≡ None → (address_of ps id ≡ None) × (address_of qs id ≡ None)
none_parted ps qs id none = elim (none_or_some (address_of ps id)) [
  | inl front ↦ (front, sym (address_of-append_right ps qs id front) ∙ none)
  | inr there ↦ let clash = sym none ∙ address_of-append_left ps qs id there.0 there.1 in cc
]

-- where the same objects are in two lists, one that is not in the first is not in the second
pub none_same : (ps qs : Places) (id : Id) → HaveSameIds ps qs → address_of ps id ≡ None → address_of qs id ≡ None
none_same ps qs id same none = none_of (address_of qs id) (sym (same id) ∙ ap is_some none)

-- no object is in the second list that is not in the first
abbrev pub HasFewer : Places → Places → Type 0
HasFewer ps qs = (id : Id) → address_of ps id ≡ None → address_of qs id ≡ None

-- one of the second list is one of the first
pub was_there : (ps qs : Places) → HasFewer ps qs → (id : Id) (at : ℕ) → address_of qs id ≡ Some at → (was : ℕ) × (address_of ps id ≡ Some was)
was_there ps qs fewer id at is = elim (none_or_some (address_of ps id)) [
  | inl none ↦ let clash = sym (fewer id none) ∙ is in absurd (cc clash)
  | inr there ↦ there
]

-- objects that are put elsewhere are the same
pub same_put : (words : List ℕ) (ps qs : Places) (to : ℕ) → HaveSameIds (ps ++ places_from words qs to) (ps ++ qs)
same_put words ps qs to id = elim (none_or_some (address_of ps id)) [
  | inl front ↦ ap is_some (address_of-append_right ps (places_from words qs to) id front) ∙ put_same words qs to id ∙ sym (ap is_some (address_of-append_right ps qs id front))
  | inr there ↦ ap is_some (address_of-append_left ps (places_from words qs to) id there.0 there.1) ∙ sym (ap is_some (address_of-append_left ps qs id there.0 there.1))
]

-- Writes.

-- A write is of the same field of its object, where that stands then.
pub record IsCarriedEntry (places currents : Places) (u v : UndoEntry) : Type 0 where
  pub field : v.field ≡ u.field
  pub object : (id : Id) → address_of places id ≡ Some u.object → address_of currents id ≡ Some v.object

-- so is each of these, in their order
abbrev pub AreCarried : Places → Places → List UndoEntry → List UndoEntry → Type 0
AreCarried places currents [] [] = Unit {0}
AreCarried places currents [] (v ∷ vs) = ⊥
AreCarried places currents (u ∷ us) [] = ⊥
AreCarried places currents (u ∷ us) (v ∷ vs) = IsCarriedEntry places currents u v × AreCarried places currents us vs

-- as many may be taken back
pub carried_length : (places currents : Places) (us vs : List UndoEntry) → AreCarried places currents us vs → length vs ≡ length us
carried_length places currents [] [] all = refl
carried_length places currents [] (v ∷ vs) all = absurd all
carried_length places currents (u ∷ us) [] all = absurd all
carried_length places currents (u ∷ us) (v ∷ vs) all = ap suc (carried_length places currents us vs all.1)

carried_fields : (places currents : Places) (g : Graph) (us vs : List UndoEntry) → AreCarried places currents us vs → AreOfFields places g us → AreOfFields currents g vs
carried_fields places currents g [] [] all of = tt
carried_fields places currents g [] (v ∷ vs) all of = absurd all
carried_fields places currents g (u ∷ us) [] all of = absurd all
carried_fields places currents g (u ∷ us) (v ∷ vs) all of = (
  record { id = of.0.id; object = all.0.object of.0.id of.0.object; field = subst (λ (i : ℕ). i < length (fields g of.0.id)) (sym all.0.field) of.0.field },
  carried_fields places currents g us vs all.1 of.1,
)

carried_locked : (places currents : Places) (locks : List Lock) (us vs : List UndoEntry) → AreCarried places currents us vs → AreLockedWrites places locks us → AreLockedWrites currents locks vs
carried_locked places currents locks [] [] all held = tt
carried_locked places currents locks [] (v ∷ vs) all held = absurd all
carried_locked places currents locks (u ∷ us) [] all held = absurd all
carried_locked places currents locks (u ∷ us) (v ∷ vs) all held = (
  record { id = held.0.id; object = all.0.object held.0.id held.0.object; lock = held.0.lock },
  carried_locked places currents locks us vs all.1 held.1,
)

-- A write has one of these for it.
abbrev IsCarriedTo : Places → Places → List UndoEntry → UndoEntry → Type 0
IsCarriedTo places currents vs u = (v : UndoEntry) × IsCarriedEntry places currents u v × IsWritten vs v.object v.field

carried_each : (places currents : Places) (us vs : List UndoEntry) → AreCarried places currents us vs → AllByRecursion (IsCarriedTo places currents vs) us
carried_each places currents [] vs all = tt
carried_each places currents (u ∷ us) [] all = absurd all
carried_each places currents (u ∷ us) (v ∷ vs) all = (
  (v, all.0, Any-head (λ (x : UndoEntry). (x.object ≡ v.object) × (x.field ≡ v.field)) v vs (refl, refl)),
  more us (carried_each places currents us vs all.1),
)
  where
    more : (ws : List UndoEntry) → AllByRecursion (IsCarriedTo places currents vs) ws → AllByRecursion (IsCarriedTo places currents (v ∷ vs)) ws
    more [] done = tt
    more (w ∷ ws) done = (
      (done.0.0, done.0.1, Any-rest (λ (x : UndoEntry). (x.object ≡ done.0.0.object) × (x.field ≡ done.0.0.field)) v vs done.0.2),
      more ws done.1,
    )

-- A field that was written is one that is written where its object stands then.
record IsWrittenThere (places currents : Places) (vs : List UndoEntry) (at i : ℕ) : Type 0 where
  id : Id
  there : ℕ
  was : address_of places id ≡ Some at
  is : address_of currents id ≡ Some there
  written : IsWritten vs there i

carried_written : (places currents : Places) (g : Graph) (us vs : List UndoEntry) → AreCarried places currents us vs → AreOfFields places g us → (at i : ℕ) → IsWritten us at i → IsWrittenThere places currents vs at i
carried_written places currents g us vs all of at i written =
    let field = write_at (IsOfField places g) us at i of written in
    let one = write_at (IsCarriedTo places currents vs) us at i (carried_each places currents us vs all) written in
    let v = one.1.0 in
    let was : address_of places field.1.id ≡ Some at = field.1.object ∙ ap Some field.2 in
    record {
      id = field.1.id;
      there = v.object;
      was = was;
      is = one.1.1.object field.1.id (was ∙ sym (ap Some one.2));
      written = subst (λ (j : ℕ). IsWritten vs v.object j) (one.1.1.field ∙ one.3) one.1.2;
    }

-- A step.

-- No other objects are there after a step of a collection, and the writes that may be taken back went along.
pub record IsCarried (s n : State) (places remaining currents rest : Places) : Type 0 where
  pub fewer : HasFewer (places ++ remaining) (currents ++ rest)
  pub keys : (q : ℕ) (vs : List UndoEntry) → get n.undo q ≡ Some vs → (us : List UndoEntry) × (get s.undo q ≡ Some us)
  pub entries : (t : ℕ) → AreCarried places currents (undo_of s t) (undo_of n t)
  pub next : n.next ≡ s.next
  pub commits : n.commits ≡ s.commits

-- an object that a value refers to is current if it was so before
abbrev pub StaysCurrent : Places → Places → Val → Type 0
StaysCurrent places currents Null = Unit {0}
StaysCurrent places currents (Int n) = Unit {0}
StaysCurrent places currents (Ref id) = is_some (address_of places id) ≡ true → is_some (address_of currents id) ≡ true

-- the same of a locked object
abbrev pub IsStillThere : Places → Places → Id → Type 0
IsStillThere places currents id = is_some (address_of places id) ≡ true → is_some (address_of currents id) ≡ true

-- so is what a handle holds
abbrev pub StaysHeld : Places → Places → Option Id → Type 0
StaysHeld places currents o = MatchOption o (Unit {0}) (λ id. is_some (address_of places id) ≡ true → is_some (address_of currents id) ≡ true)

-- What a transaction holds and has locked, and what its objects refer to, is current if it was so before.
pub record KeepsCurrent (places currents : Places) (v : View) (t : ℕ) (locks : List Lock) : Type 0 where
  pub made : (k : ℕ) → 1 ≤ k → k ≤ v.made → AllByRecursion (StaysCurrent places currents) (fields v.graph (made_by t k))
  pub held : AllByRecursion (StaysHeld places currents) v.registers
  pub locked : AllByRecursion (λ (lock : Lock). IsStillThere places currents lock.0) locks

visible_kept : (places currents : Places) (t made : ℕ) (x : Val) → StaysCurrent places currents x → IsVisible places t made x → IsVisible currents t made x
visible_kept places currents t made Null stays seen = tt
visible_kept places currents t made (Int n) stays seen = seen
visible_kept places currents t made (Ref id) stays (inl there) = inl (stays there)
visible_kept places currents t made (Ref id) stays (inr own) = inr own

all_visible : (places currents : Places) (t made : ℕ) (xs : List Val) → AllByRecursion (StaysCurrent places currents) xs → AllByRecursion (IsVisible places t made) xs → AllByRecursion (IsVisible currents t made) xs
all_visible places currents t made [] stay seen = tt
all_visible places currents t made (x ∷ xs) stay seen = (visible_kept places currents t made x stay.0 seen.0, all_visible places currents t made xs stay.1 seen.1)

hand_kept : (places currents : Places) (t made : ℕ) (o : Option Id) → StaysHeld places currents o → HoldsAtHand places t made o → HoldsAtHand currents t made o
hand_kept places currents t made None stays holds = tt
hand_kept places currents t made (Some id) stays (inl there) = inl (stays there)
hand_kept places currents t made (Some id) stays (inr own) = inr own

all_held : (places currents : Places) (t made : ℕ) (os : List (Option Id)) → AllByRecursion (StaysHeld places currents) os → AllByRecursion (HoldsAtHand places t made) os → AllByRecursion (HoldsAtHand currents t made) os
all_held places currents t made [] stay hold = tt
all_held places currents t made (o ∷ os) stay hold = (hand_kept places currents t made o stay.0 hold.0, all_held places currents t made os stay.1 hold.1)

-- Locks.

-- where names are their own, an object of the first places is none of the others
own_apart : (ps qs : Places) → HaveOwnNames (ps ++ qs) → (id : Id) (at : ℕ) → address_of ps id ≡ Some at → address_of qs id ≡ None
own_apart [] qs own id at is = absurd (cc is)
own_apart (p ∷ ps) qs own id at is = elim (address_of-cases p ps id at is) [
  | inl here ↦ ap (address_of qs) (sym here.0) ∙ (none_parted ps qs p.0 own.0).1
  | inr later ↦ own_apart ps qs own.1 id at later
]

-- no object is current and remains
abbrev pub AreDisjoint : Places → Places → Type 0
AreDisjoint ps qs = (id : Id) → is_some (address_of ps id) ≡ true → address_of qs id ≡ None

-- where the completed places have their own names, no current object remains
pub own_rest : (words : List ℕ) (ps qs : Places) (to : ℕ) → HaveOwnNames (ps ++ places_from words qs to) → AreDisjoint ps qs
own_rest words ps qs to own id there =
    let at = some_address (address_of ps id) there in
    let none = own_apart ps (places_from words qs to) own id at.0 at.1 in
    none_of (address_of qs id) (sym (put_same words qs to id) ∙ ap is_some none)

-- so no locked object remains after a step
still_unlocked : (currents rest : Places) → AreDisjoint currents rest → (places remaining : Places) → HasFewer (places ++ remaining) (currents ++ rest) → (locks : List Lock)
    → AllByRecursion (λ (lock : Lock). IsStillThere places currents lock.0) locks → AreUnlocked remaining locks → AreUnlocked rest locks
still_unlocked currents rest apart places remaining fewer [] stay none = tt
still_unlocked currents rest apart places remaining fewer (l ∷ ls) stay none = (
  elim (none_or_some (address_of places l.0)) [
    | inl gone ↦ (none_parted currents rest l.0 (fewer l.0 (none_joined places remaining l.0 gone none.0))).1
    | inr there ↦ apart l.0 (stay.0 (ap is_some there.1))
  ],
  still_unlocked currents rest apart places remaining fewer ls stay.1 none.1,
)

-- an object at hand that is none of these is one that the transaction made
made_here : (there : Places) (t made : ℕ) (id : Id) → IsAtHand there t made id → address_of there id ≡ None → id ≡ made_by t id.k
made_here there t made id (inl is) none = let clash = sym is ∙ ap is_some none in absurd (cc clash)
made_here there t made id (inr own) none = own_made t made id own

-- A transaction sees after a step what it saw before, if that stands there.
pub carried_writing : {s n : State} {places remaining currents rest : Places} {v : View} {t : ℕ} {locks : List Lock} {words others : List ℕ} → (w : IsWriting places remaining v t locks words s)
    → IsCarried s n places remaining currents rest → KeepsCurrent places currents v t locks
    → Stands t v.made (completed_places n currents rest others) v.graph (others_taken_back n t (completed n currents rest others)) n.base (n.used + owed n)
    → IsWriting currents rest v t locks others n
carried_writing {s} {n} {places} {remaining} {currents} {rest} {v} {t} {locks} {words} {others} w carried keeps stands =
    let whole = completed_places s places remaining words in
    let there = completed_places n currents rest others in
    let gone : (k : ℕ) → (address_of currents (made_by t k) ≡ None) × (address_of rest (made_by t k) ≡ None) =
    λ k. none_parted currents rest (made_by t k) (carried.fewer (made_by t k) (none_joined places remaining (made_by t k) (w.made.apart k) (w.apart k))) in
    let before = same_put words places remaining (s.base + s.used) in
    let behind = same_put others currents rest (n.base + n.used) in
    let fewer : HasFewer whole there = λ id gone_before.
    none_of (address_of there id) (behind id ∙ ap is_some (carried.fewer id (none_of (address_of (places ++ remaining) id) (sym (before id) ∙ ap is_some gone_before)))) in
    record {
      stands = stands;
      made = record {
        each = λ k low high.
            let one = w.made.each k low high in
            let stay = subst (AllByRecursion (StaysCurrent places currents)) (ap (λ (o : Option (List Val)). unwrap_or o []) one.is) (keeps.made k low high) in
            record { values = one.values; is = one.is; short = one.short; visible = all_visible places currents t v.made one.values stay one.visible };
        apart = λ k. (gone k).0;
        few = w.made.few;
      };
      apart = λ k. (gone k).1;
      written = λ id target at i place refers none.
          let was = was_there whole there fewer id at place in
          let own = made_here there t v.made target (AllByRecursion-get (IsVisible there t v.made) (fields v.graph id) i (Ref target) (stands.visible id at place) refers) none in
          let apart = none_of (address_of whole (made_by t target.k)) (before (made_by t target.k) ∙ ap is_some (none_joined places remaining (made_by t target.k) (w.made.apart target.k) (w.apart target.k))) in
          let none_before : address_of whole target ≡ None = ap (address_of whole) own ∙ apart in
          let led = carried_written places currents v.graph (undo_of s t) (undo_of n t) (carried.entries t) w.fields was.0 i (w.written id target was.0 i was.1 refers none_before) in
          let one = address_of-one _ s.base whole (s.base + (s.used + owed s)) was.0 led.id id w.stands.ends (address_of-append_left places _ led.id was.0 led.was) was.1 in
          let here = address_of-append_left currents _ led.id led.there led.is in
          let same : led.there ≡ at = same_Some led.there at (sym here ∙ ap (address_of there) one ∙ place) in
          subst (λ (x : ℕ). IsWritten (undo_of n t) x i) same led.written;
      fields = carried_fields places currents v.graph (undo_of s t) (undo_of n t) (carried.entries t) w.fields;
      locked = carried_locked places currents locks (undo_of s t) (undo_of n t) (carried.entries t) w.locked;
      unlocked =
          let own = own_names there _ n.base there (n.base + (n.used + owed n)) stands.ends stands.names in
          still_unlocked currents rest (own_rest others currents rest (n.base + n.used) own) places remaining carried.fewer locks keeps.locked w.unlocked;
      handles = all_held places currents t v.made v.registers keeps.held w.handles;
    }
