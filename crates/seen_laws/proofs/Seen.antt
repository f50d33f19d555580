-- The graph of a heap in a collection is seen in its words as they stand.
use Rattle.std.proofs.Common.{◌≡◌, ℕ, ◌+◌, ◌<◌, inl, inr, false, List, ◌++◌, length, map, None, Some, refl, sym, ap, ◌∙◌, subst, arith, ext_get_or}
use Rattle.std.specs.Prelude.{Contains, slice_get, slice_index, slice_index_or, option_and_then}
use Rattle.std.specs.FinMap.{get}
use Rattle.std.proofs.lemmas.List.{get_or-map, length-map}
use Rattle.std.proofs.lemmas.List.Elements.{Contains-append_left}
use Rattle.std.proofs.lemmas.Option.{get_or_from_slice_get, same_Some, slice_get_within}
use Rattle.heap_words.specs.declared.Word.{Word}
use Rattle.heap_words.specs.declared.Word.TheVariants as word
use Rattle.heap_words.specs.Word.{bits, meaning, refers_to_stable}
use Rattle.heap_words.proofs.WordLaws.{meaning-bits}
use Rattle.heap_spaces.specs.Collection.{Collection}
use Rattle.graph_model.specs.Graph.{Graph, fields, root}
use Rattle.graph_model.specs.declared.id.Id.{Id}
use Rattle.graph_model.specs.declared.val.Val.{Val}
use Rattle.graph_model.specs.declared.val.Val.TheVariants.{Int, Null, Ref}
use Rattle.object_layout.specs.Layout.{along, at_start, IsKnown, IsMet, IsSeenAs, as_ref, field_words, referred, stand, value, values}
use Rattle.object_layout.proofs.LayoutLaws.{length-field_words, stand_object}
use Rattle.log_machine.proofs.ListLaws.{AllByRecursion-at}
use Rattle.log_machine.specs.Machine.{State, field_at, owed}
use Rattle.graph_words.specs.Places.{IsVisible, Places, address_of, addresses, bits_of, place_of}
use Rattle.graph_words.specs.Stands.{Stands}
use Rattle.graph_words.proofs.Places.Addresses.{address_of-Contains}
use Rattle.graph_words.proofs.Stands.Objects.{stands_field, stands_get, stands_object, stands_one, word_at_field}
use Rattle.graph_words.proofs.Stands.Seen.{stands_small}
use Rattle.graph_words.proofs.Seal.Places.{address_of-append_left}
use Rattle.graph_words.proofs.Stands.Visible.{committed_address, place_of-placed}
use Rattle.collection_words.specs.Completed.{completed, followed, future}
use Rattle.collection_words.specs.LaidOut.{MayLeadBack}
use Rattle.collection_words.specs.Placed.{HaveOwnNames}
use Rattle.collection_words.proofs.Copy.Named.{followed_plain, named, refers, refers_followed}
use Rattle.collection_words.proofs.Copy.Stands.{root_current}
use Rattle.collection_words.proofs.Laid.Filled.{filling}
use Rattle.collection_words.proofs.Laid.Old.{old_in_other}
use Rattle.collection_words.proofs.Laid.Sources.{IsCollecting, source_object}
use Rattle.collection_words.proofs.Moves.Ends.{addresses-append}
use Rattle.seen_laws.proofs.Names.{AreNames}
use Rattle.seen_laws.proofs.Referred.{field_leads, plain_leads, refers_leads, stored}

-- What is met.

-- the root object stands at the base
base_stored : {s : State} {k : Collection} {places remaining : Places} {words : List ℕ} → IsCollecting s k places remaining words → Contains (addresses (places ++ remaining)) s.base
base_stored {s} {places = places} {remaining = remaining} {words = words} is =
    subst (λ (xs : List ℕ). Contains xs s.base) (sym (addresses-append places remaining))
    (Contains-append_left (addresses places) (addresses remaining) s.base (filling words s.base s.used (addresses places) is.laid.filled).first)

-- an address of an object names it
stored_stand : {s : State} {k : Collection} {places remaining : Places} {words : List ℕ} → IsCollecting s k places remaining words → (at : ℕ) → Contains (addresses (places ++ remaining)) at
    → stand words at ≡ Some at
stored_stand {words = words} is at has = let object = source_object is at has in stand_object words at object.0 object.1

met_field : {s : State} {k : Collection} {places remaining : Places} {words : List ℕ} → IsCollecting s k places remaining words → HaveOwnNames (places ++ remaining) → (at i w target : ℕ)
    → Contains (addresses (places ++ remaining)) at → slice_get (field_words words at) i ≡ Some w → referred words (meaning w) ≡ Some target → Contains (addresses (places ++ remaining)) target
met_field {places = places} {remaining = remaining} {words = words} is own at i w target has got leads =
    let object = source_object is at has in
    let many = length-field_words words at object.0 object.1 in
    let within = slice_get_within (field_words words at) i w got in
    let below : i < object.0 = omega arith in
    let word_is : slice_index words (field_at at i) ≡ w = word_at_field words at object.0 i object.1 below ∙ get_or_from_slice_get (field_words words at) i w 0 got in
    let may = subst (λ (x : ℕ). MayLeadBack (addresses places) is.from.starts (meaning x)) word_is (field_leads is at has object.0 i object.1 below) in
    elim (refers is own is.from w (meaning w) refl (old_in_other is) may) [
      | inl plain ↦ let none = plain_leads words (meaning w) plain in let clash = sym none ∙ leads in cc
      | inr found ↦
          let there = refers_leads is own w found.0 found.1 in
          let same : there.to ≡ target = same_Some there.to target (sym (ap (referred words) there.means ∙ there.stands) ∙ leads) in
          subst (λ (x : ℕ). Contains (addresses (places ++ remaining)) x) same (address_of-Contains (places ++ remaining) found.0 there.to there.there)
    ]

-- all that is met is current or remains
met_stored : {s : State} {k : Collection} {places remaining : Places} {words : List ℕ} → IsCollecting s k places remaining words → HaveOwnNames (places ++ remaining) → (at : ℕ) → IsMet words s.base at
    → Contains (addresses (places ++ remaining)) at
met_stored {s} {places = places} {remaining = remaining} is own at (at_start stands) =
    let has = base_stored is in
    subst (λ (x : ℕ). Contains (addresses (places ++ remaining)) x) (same_Some s.base at (sym (stored_stand is s.base has) ∙ stands)) has
met_stored is own at (along {at = a} i w target met got leads) = met_field is own a i w target (met_stored is own a met) got leads

-- Values.

plain_value : (name : ℕ → Id) (words : List ℕ) (places : Places) (g : Graph) (w : ℕ) (v : Val) → ((at : ℕ) → Contains (addresses places) at → at < 2097152) → IsVisible places 0 0 v
    → w ≡ bits_of (place_of places g) v → refers_to_stable (meaning w) ≡ false → value name words (meaning w) ≡ Some v
plain_value name words places g w Null small seen is plain = ap (λ x. value name words (meaning x)) is ∙ ap (value name words) (meaning-bits word.Null tt)
plain_value name words places g w (Int n) small seen is plain = ap (λ x. value name words (meaning x)) is ∙ ap (value name words) (meaning-bits (word.Int n) seen)
plain_value name words places g w (Ref id) small seen is plain =
    let there = committed_address places id seen in
    let means : meaning w ≡ Some (word.Stable there.0) =
    ap meaning is ∙ ap (λ (x : Word). meaning (bits x)) (place_of-placed places g id there.0 there.1) ∙ meaning-bits (word.Stable there.0) (small there.0 (address_of-Contains places id there.0 there.1)) in
    let clash = sym plain ∙ ap refers_to_stable means in cc

-- a value with the word of a reference to an object is that reference
stable_value : {places : Places} {g : Graph} {words : List ℕ} {base used : ℕ} → Stands 0 0 places g words base used → (v : Val) (id : Id) (to : ℕ) → IsVisible places 0 0 v → address_of places id ≡ Some to
    → bits_of (place_of places g) v ≡ bits (word.Stable to) → v ≡ Ref id
stable_value {places} stands Null id to seen there same =
    let clash = sym (meaning-bits word.Null tt) ∙ ap meaning same ∙ meaning-bits (word.Stable to) (stands_small stands to (address_of-Contains places id to there)) in cc
stable_value {places} stands (Int n) id to seen there same =
    let clash = sym (meaning-bits (word.Int n) seen) ∙ ap meaning same ∙ meaning-bits (word.Stable to) (stands_small stands to (address_of-Contains places id to there)) in cc
stable_value {places} {g} stands (Ref other) id to seen there same =
    let at = committed_address places other seen in
    let small = stands_small stands at.0 (address_of-Contains places other at.0 at.1) in
    let words_are : Some (word.Stable at.0) ≡ Some (word.Stable to) =
    sym (meaning-bits (word.Stable at.0) small)
    ∙ sym (ap (λ (x : Word). meaning (bits x)) (place_of-placed places g other at.0 at.1))
    ∙ ap meaning same
    ∙ meaning-bits (word.Stable to) (stands_small stands to (address_of-Contains places id to there)) in
    let place : at.0 ≡ to = cc words_are in
    ap Ref (stands_one stands other id to (at.1 ∙ ap Some place) there)

-- What is known of a heap in a collection in whose completed words a committed graph stands.
pub record IsCommitted (s : State) (k : Collection) (places remaining : Places) (words : List ℕ) (g : Graph) : Type 0 where
  pub is : IsCollecting s k places remaining words
  pub own : HaveOwnNames (places ++ remaining)
  pub stands : Stands 0 0 (places ++ future s words remaining) g (completed s places remaining words) s.base (s.used + owed s)

-- the value of a word is that of the word which it becomes when it is followed
followed_value : {s : State} {k : Collection} {places remaining : Places} {words : List ℕ} {g : Graph} (name : ℕ → Id) (c : IsCommitted s k places remaining words g) → AreNames name (places ++ remaining) → (w : ℕ) (v : Val)
    → IsVisible (places ++ future s words remaining) 0 0 v → followed s words remaining w ≡ bits_of (place_of (places ++ future s words remaining) g) v
    → MayLeadBack (addresses places) c.is.from.starts (meaning w) → value name words (meaning w) ≡ Some v
followed_value {s} {places = places} {remaining = remaining} {words = words} {g = g} name c names w v seen becomes may =
    let P = places ++ future s words remaining in
    elim (refers c.is c.own c.is.from w (meaning w) refl (old_in_other c.is) may) [
      | inl plain ↦ plain_value name words P g w v (stands_small c.stands) seen (sym (followed_plain s words remaining w plain) ∙ becomes) plain
      | inr found ↦
          let id = found.0 in
          let goes = refers_followed c.is c.own w id found.1 in
          let there = refers_leads c.is c.own w id found.1 in
          let is : v ≡ Ref id = stable_value c.stands v id goes.to seen goes.there (sym becomes ∙ goes.is) in
          ap (value name words) there.means
          ∙ ap (option_and_then (as_ref name)) there.stands
          ∙ ap (λ (x : Id). Some (Ref x)) (names id there.to there.there)
          ∙ ap Some (sym is)
    ]

-- Objects.

-- each object is known under its name
stored_known : {s : State} {k : Collection} {places remaining : Places} {words : List ℕ} {g : Graph} (name : ℕ → Id) (c : IsCommitted s k places remaining words g) → AreNames name (places ++ remaining)
    → (id : Id) (at : ℕ) → address_of (places ++ remaining) id ≡ Some at → IsKnown name words g at
stored_known {s} {places = places} {remaining = remaining} {words = words} {g = g} name c names id at there =
    let P = places ++ future s words remaining in
    let object = stored c.is id at there in
    let vs = fields g id in
    let made = object.made in
    let size : object.fields ≡ length vs = same_Some object.fields (length vs) (sym made.is ∙ stands_object c.stands id object.to object.there) in
    let many = length-field_words words at object.fields made.was in
    let ws = field_words words at in
    record {
      fields = vs;
      is = ap (get g) (names id at there) ∙ stands_get c.stands id object.to object.there;
      values = ext_get_or None (values name words at) (map Some vs) (length-map ws (λ w. value name words (meaning w)) ∙ many ∙ size ∙ sym (length-map vs Some)) (λ i lt.
          let count = length-map ws (λ w. value name words (meaning w)) in
          let below : i < object.fields = omega arith in
          let within : i < length vs = omega arith in
          let v = slice_index_or vs i Null in
          let w = slice_index words (field_at at i) in
          let becomes : followed s words remaining w ≡ bits_of (place_of P g) v = sym (made.fields i below) ∙ stands_field c.stands id object.to i object.there within in
          let seen : IsVisible P 0 0 v = AllByRecursion-at (IsVisible P 0 0) vs i Null within (c.stands.visible id object.to object.there) in
          let may = field_leads c.is at (address_of-Contains (places ++ remaining) id at there) object.fields i made.was below in
          get_or-map (λ w. value name words (meaning w)) ws i 0 None (omega arith)
          ∙ ap (λ x. value name words (meaning x)) (sym (word_at_field words at object.fields i made.was below))
          ∙ followed_value name c names w v seen becomes may
          ∙ sym (get_or-map Some vs i Null None within));
    }

-- The graph is seen, by names of the objects at their addresses, whether they are current or remain.
pub committed_seen : {s : State} {k : Collection} {places remaining : Places} {words : List ℕ} {g : Graph} (name : ℕ → Id) → IsCommitted s k places remaining words g → AreNames name (places ++ remaining)
    → IsSeenAs name words s.base g
committed_seen {s} {places = places} {remaining = remaining} {words = words} name c names = record {
  first = s.base;
  stands = stored_stand c.is s.base (base_stored c.is);
  named = names root s.base (address_of-append_left places remaining root s.base (root_current c.is.laid c.stands.root_place));
  known = λ at met. let object = named (places ++ remaining) at c.own (met_stored c.is c.own at met) in stored_known name c names object.0 at object.1;
  apart = λ a b one other same.
      let here = named (places ++ remaining) a c.own (met_stored c.is c.own a one) in
      let there = named (places ++ remaining) b c.own (met_stored c.is c.own b other) in
      let equal : here.0 ≡ there.0 = sym (names here.0 a here.1) ∙ same ∙ names there.0 b there.1 in
      same_Some a b (sym here.1 ∙ ap (address_of (places ++ remaining)) equal ∙ there.1);
}
