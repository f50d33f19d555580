-- Places with more after them: what holds of the objects of the first ones.
use Rattle.std.proofs.Common.{◌≡◌, ℕ, zero, suc, inl, inr, Bool, true, false, cond, List, [], ◌∷◌, ◌++◌, length, Option, None, Some, is_some, refl, sym, ap, ◌∙◌, subst}
use Rattle.std.specs.Prelude.{◌+◌, Contains, slice_index_or}
use Rattle.std.specs.List.{AllByRecursion}
use Rattle.heap_words.specs.declared.Word.{Word}
use Rattle.heap_words.specs.declared.Word.TheVariants as word
use Rattle.heap_words.specs.Word.{bits, meaning}
use Rattle.graph_model.specs.declared.id.Id.{Id}
use Rattle.graph_model.specs.declared.val.Val.{Val}
use Rattle.graph_model.specs.declared.val.Val.TheVariants.{Null, Int, Ref}
use Rattle.graph_model.specs.Graph.{Graph, is_same_id}
use Rattle.log_machine.proofs.ListLaws.{AllByRecursion-map}
use Rattle.log_machine.specs.declared.UndoEntry.{UndoEntry}
use Rattle.graph_words.specs.Area.{HasMade}
use Rattle.object_layout.specs.Walk.{used_words}
use Rattle.graph_words.specs.Places.{IsAtHand, IsVisible, Places, address_of, addresses, bits_of, index_of, made_by, place_of, standing, word_of}
use Rattle.graph_words.specs.Stands.{AreOfFields, IsOfField, Stands}
use Rattle.graph_words.proofs.Places.Addresses.{address_of-Contains, own_made, some_address}
use Rattle.graph_words.proofs.Seal.Places.{address_of-append_left, address_of-append_right}
use Rattle.graph_words.proofs.Stands.Objects.{stands_one, visible_meaning}
use Rattle.graph_words.proofs.Stands.Visible.{place_of-apart, place_of-placed}
use Rattle.collection_words.specs.LaidOut.{LeadsHere}
use Rattle.collection_words.specs.Placed.{HaveOwnNames}
use Rattle.collection_words.proofs.Copy.Named.{named, own_front}
use Rattle.collection_words.proofs.Laid.Names.{own_names}

-- Addresses.

-- an object that has no address in either has none
pub apart_behind : (places more : Places) (id : Id) → address_of places id ≡ None → address_of more id ≡ None → address_of (places ++ more) id ≡ None
apart_behind places more id none also = address_of-append_right places more id none ∙ also

-- What a transaction sees.

-- what is at hand stays so
pub at_hand_front : (places more : Places) (t made : ℕ) (id : Id) → IsAtHand places t made id → IsAtHand (places ++ more) t made id
at_hand_front places more t made id (inl there) =
    let place = some_address (address_of places id) there in inl (ap is_some (address_of-append_left places more id place.0 place.1))
at_hand_front places more t made id (inr own) = inr own

pub visible_front : (places more : Places) (t made : ℕ) (v : Val) → IsVisible places t made v → IsVisible (places ++ more) t made v
visible_front places more t made Null seen = tt
visible_front places more t made (Int n) seen = seen
visible_front places more t made (Ref id) seen = at_hand_front places more t made id seen

-- what it has made is so where none of it is among the places after
pub has_front : {places : Places} {g : Graph} {t made : ℕ} (more : Places) → HasMade places g t made → ((k : ℕ) → address_of more (made_by t k) ≡ None) → HasMade (places ++ more) g t made
has_front {places} {g} {t} {made} more has apart = record {
  each = λ k first last.
      let one = has.each k first last in
      record { values = one.values; is = one.is; short = one.short; visible = AllByRecursion-map (IsVisible places t made) (IsVisible (places ++ more) t made) one.values (visible_front places more t made) one.visible };
  apart = λ k. apart_behind places more (made_by t k) (has.apart k) (apart k);
  few = has.few;
}

-- fields that were written are fields of these objects
pub of_fields_front : (places more : Places) (g : Graph) (us : List UndoEntry) → AreOfFields places g us → AreOfFields (places ++ more) g us
of_fields_front places more g us all =
    AllByRecursion-map (IsOfField places g) (IsOfField (places ++ more) g) us (λ u is. record { id = is.id; object = address_of-append_left places more is.id u.object is.object; field = is.field }) all

-- The words of values.

module _ (places more : Places) (t made : ℕ) (none : (k : ℕ) → address_of places (made_by t k) ≡ None) (also : (k : ℕ) → address_of more (made_by t k) ≡ None) where
  -- an object at hand has the address that it has among the first places
  pub same_address : (id : Id) → IsAtHand places t made id → address_of (places ++ more) id ≡ address_of places id
  same_address id (inl there) = let place = some_address (address_of places id) there in address_of-append_left places more id place.0 place.1 ∙ sym place.1
  same_address id (inr own) =
      let maker = own_made t made id own in
      let here : address_of places id ≡ None = ap (address_of places) maker ∙ none id.k in
      let behind : address_of more id ≡ None = ap (address_of more) maker ∙ also id.k in
      apart_behind places more id here behind ∙ sym here

  -- so a value that is seen has the same word
  pub word_front : (g : Graph) (v : Val) → IsVisible places t made v → word_of (place_of (places ++ more) g) v ≡ word_of (place_of places g) v
  word_front g Null seen = refl
  word_front g (Int n) seen = refl
  word_front g (Ref id) seen = ap (λ o. standing o (index_of g id)) (same_address id seen)

-- Names.

-- what holds of all of them holds of the first ones, and of those after
pub all_front : {X : Type 0} (P : X → Type 0) (xs ys : List X) → AllByRecursion P (xs ++ ys) → AllByRecursion P xs × AllByRecursion P ys
all_front P [] ys all = (tt, all)
all_front P (x ∷ xs) ys all = let rest = all_front P xs ys all.1 in ((all.0, rest.0), rest.1)

-- what holds of each holds of the one at a place, or of what stands for those past the last
pub all_at : {X : Type 0} (P : X → Type 0) (xs : List X) (i : ℕ) (o : X) → P o → AllByRecursion P xs → P (slice_index_or xs i o)
all_at P [] i o none all = none
all_at P (x ∷ xs) zero o none all = all.0
all_at P (x ∷ xs) (suc i) o none all = all_at P xs i o none all.1

-- Where a graph stands.

-- the word of a value that is seen leads to one of its objects, or to none
pub visible_leads_all : {t made : ℕ} {places : Places} {g : Graph} {words : List ℕ} {base used : ℕ} → Stands t made places g words base used → HasMade places g t made
    → (v : Val) → IsVisible places t made v → LeadsHere (addresses places) (meaning (bits_of (place_of places g) v))
visible_leads_all {t} {made} {places} {g} stands has v seen = subst (LeadsHere (addresses places)) (sym (visible_meaning stands has v seen)) (leads v seen)
  where
    leads : (v : Val) → IsVisible places t made v → LeadsHere (addresses places) (Some (word_of (place_of places g) v))
    leads Null seen = tt
    leads (Int n) seen = tt
    leads (Ref id) (inl there) =
        let place = some_address (address_of places id) there in
        subst (λ (w : Word). LeadsHere (addresses places) (Some w)) (sym (place_of-placed places g id place.0 place.1)) (address_of-Contains places id place.0 place.1)
    leads (Ref id) (inr own) =
        let apart : address_of places id ≡ None = ap (address_of places) (own_made t made id own) ∙ has.apart id.k in
        subst (λ (w : Word). LeadsHere (addresses places) (Some w)) (sym (place_of-apart places g id apart)) tt

module _ (places more : Places) {t made : ℕ} {g : Graph} {words : List ℕ} {base used : ℕ} (stands : Stands t made (places ++ more) g words base used) where
  -- no two of the first objects have one name
  pub stands_own : HaveOwnNames places
  stands_own = own_front places more (own_names (places ++ more) (used_words words base used) base (places ++ more) (base + used) stands.ends stands.names)

  -- at each of their starts stands one
  pub stands_first : (at : ℕ) → Contains (addresses places) at → (id : Id) × (address_of places id ≡ Some at)
  stands_first at has = named places at stands_own has

  module _ (has : HasMade (places ++ more) g t made) where
    -- a value whose word leads to the first objects is seen among them
    pub visible_here : (v : Val) → IsVisible (places ++ more) t made v → LeadsHere (addresses places) (meaning (bits_of (place_of (places ++ more) g) v)) → IsVisible places t made v
    visible_here Null seen leads = tt
    visible_here (Int n) seen leads = seen
    visible_here (Ref id) (inr own) leads = inr own
    visible_here (Ref id) (inl there) leads =
        let all = places ++ more in
        let place = some_address (address_of all id) there in
        let word : meaning (bits_of (place_of all g) (Ref id)) ≡ Some (word.Stable place.0) = visible_meaning stands has (Ref id) (inl there) ∙ ap Some (place_of-placed all g id place.0 place.1) in
        let start : Contains (addresses places) place.0 = subst (LeadsHere (addresses places)) word leads in
        let first = stands_first place.0 start in
        let same : first.0 ≡ id = stands_one stands first.0 id place.0 (address_of-append_left places more first.0 place.0 first.1) place.1 in
        inl (subst (λ (q : Id). is_some (address_of places q) ≡ true) same (ap is_some first.1))

    -- and the other way round
    pub visible_leads : (v : Val) → IsVisible places t made v → LeadsHere (addresses places) (meaning (bits_of (place_of (places ++ more) g) v))
    visible_leads v seen = subst (LeadsHere (addresses places)) (sym (visible_meaning stands has v (visible_front places more t made v seen))) (leads v seen)
      where
        leads : (v : Val) → IsVisible places t made v → LeadsHere (addresses places) (Some (word_of (place_of (places ++ more) g) v))
        leads Null seen = tt
        leads (Int n) seen = tt
        leads (Ref id) (inl there) =
            let place = some_address (address_of places id) there in
            subst (λ (w : Word). LeadsHere (addresses places) (Some w)) (sym (place_of-placed (places ++ more) g id place.0 (address_of-append_left places more id place.0 place.1)))
            (address_of-Contains places id place.0 place.1)
        leads (Ref id) (inr own) =
            let apart : address_of (places ++ more) id ≡ None = ap (address_of (places ++ more)) (own_made t made id own) ∙ has.apart id.k in
            subst (λ (w : Word). LeadsHere (addresses places) (Some w)) (sym (place_of-apart (places ++ more) g id apart)) tt
