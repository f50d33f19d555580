-- Which object a field leads to in the words of a heap in a collection, as they stand: forwarding words are followed.
use Rattle.std.proofs.Common.{◌≡◌, ℕ, inl, inr, false, List, ◌++◌, Option, None, Some, is_some, refl, sym, ap, ◌∙◌, subst}
use Rattle.std.specs.Prelude.{Contains, if◌then◌else◌}
use Rattle.std.proofs.lemmas.List.Elements.{Contains-append_cases}
use Rattle.std.proofs.lemmas.Option.{same_Some}
use Rattle.heap_words.specs.declared.Word.{Word}
use Rattle.heap_words.specs.declared.Word.TheVariants as word
use Rattle.heap_words.specs.Word.{meaning, refers_to_stable}
use Rattle.heap_spaces.specs.Collection.{Collection}
use Rattle.graph_model.specs.declared.id.Id.{Id}
use Rattle.object_layout.specs.Layout.{led, referred, stand, standing}
use Rattle.object_layout.specs.Walk.{IsInside}
use Rattle.object_layout.proofs.LayoutLaws.{stand_object}
use Rattle.log_machine.specs.Machine.{State}
use Rattle.graph_words.specs.Places.{Places, address_of, addresses}
use Rattle.graph_words.proofs.Places.Addresses.{address_of-Contains, some_address}
use Rattle.graph_words.proofs.Seal.Places.{address_of-append_left, address_of-append_right}
use Rattle.collection_words.specs.Completed.{IsMade, completed, followed, future}
use Rattle.collection_words.specs.LaidOut.{EachField, MayLeadBack}
use Rattle.collection_words.specs.Placed.{HaveOwnNames}
use Rattle.collection_words.proofs.Copy.Named.{RefersTo, apart_of, current, forwarded, left}
use Rattle.collection_words.proofs.Laid.Completed.{completed_object}
use Rattle.collection_words.proofs.Laid.Sources.{IsCollecting, all_places, left_object}
use Rattle.collection_words.proofs.Laid.Within.{start_within}
use Rattle.collection_words.proofs.Moves.Ends.{addresses-append}
use Rattle.collection_words.proofs.Moves.Sources.{put_same}

-- Objects.

-- An object that is current or remains, and where it stands in the completed words.
pub record IsStored (s : State) (places remaining : Places) (words : List ℕ) (id : Id) (at : ℕ) : Type 0 where
  pub to : ℕ
  pub there : address_of (places ++ future s words remaining) id ≡ Some to
  pub fields : ℕ
  pub made : IsMade (followed s words remaining) words (completed s places remaining words) at to fields

-- so is each
pub stored : {s : State} {k : Collection} {places remaining : Places} {words : List ℕ} → IsCollecting s k places remaining words → (id : Id) (at : ℕ) → address_of (places ++ remaining) id ≡ Some at
    → IsStored s places remaining words id at
stored {s} {places = places} {remaining = remaining} {words = words} is id at there =
    let P = places ++ future s words remaining in
    let some = some_address (address_of P id) (ap (λ (ps : Places). is_some (address_of ps id)) (all_places is.laid) ∙ put_same words (places ++ remaining) s.base id ∙ ap is_some there) in
    let object = completed_object is id some.0 some.1 in
    let same : object.at ≡ at = same_Some object.at at (sym object.put.stood ∙ there) in
    record {
      to = some.0;
      there = some.1;
      fields = object.fields;
      made = subst (λ (a : ℕ). IsMade (followed s words remaining) words (completed s places remaining words) a some.0 object.fields) same object.made;
    }

-- Fields.

inside_back : (starts olds : List ℕ) (meant : Option Word) → IsInside olds meant → MayLeadBack starts olds meant
inside_back starts olds None inside = absurd inside
inside_back starts olds (Some word.Null) inside = inl tt
inside_back starts olds (Some (word.Int n)) inside = inl tt
inside_back starts olds (Some (word.Stable at)) inside = inr (at, refl, inside)
inside_back starts olds (Some (word.Volatile index)) inside = absurd inside

-- a field of an object leads to a current object, or to one of the from-space
pub field_leads : {s : State} {k : Collection} {places remaining : Places} {words : List ℕ} (is : IsCollecting s k places remaining words) (at : ℕ) → Contains (addresses (places ++ remaining)) at
    → EachField words at (λ i w. MayLeadBack (addresses places) is.from.starts (meaning w))
field_leads {places = places} {remaining = remaining} is at has n i object below =
    elim (Contains-append_cases (addresses places) (addresses remaining) at (subst (λ (xs : List ℕ). Contains xs at) (addresses-append places remaining) has)) [
      | inl here ↦ is.from.back at here n i object below
      | inr stays ↦ inside_back (addresses places) is.from.starts _ (is.from.inside at stays n i object below)
    ]

-- A word leads to where an object stands.
pub record LeadsTo (places remaining : Places) (words : List ℕ) (w : ℕ) (id : Id) : Type 0 where
  pub from : ℕ
  pub to : ℕ
  pub means : meaning w ≡ Some (word.Stable from)
  pub stands : stand words from ≡ Some to
  pub there : address_of (places ++ remaining) id ≡ Some to

-- so does one that refers to the object
pub refers_leads : {s : State} {k : Collection} {places remaining : Places} {words : List ℕ} → IsCollecting s k places remaining words → HaveOwnNames (places ++ remaining) → (w : ℕ) (id : Id)
    → RefersTo s places remaining words w id → LeadsTo places remaining words w id
refers_leads {places = places} {remaining = remaining} {words = words} is own w id (current at means there) =
    let object = start_within is.laid at (address_of-Contains places id at there) in
    record { from = at; to = at; means = means; stands = stand_object words at object.fields object.object; there = address_of-append_left places remaining id at there }
refers_leads {places = places} {remaining = remaining} {words = words} is own w id (forwarded from to means other forward there) =
    let object = start_within is.laid to (address_of-Contains places id to there) in
    record {
      from = from;
      to = to;
      means = means;
      stands = ap (λ h. standing words (led from h)) forward ∙ ap (λ (o : Option ℕ). if is_some o then Some to else None) object.object;
      there = address_of-append_left places remaining id to there;
    }
refers_leads {places = places} {remaining = remaining} {words = words} is own w id (left from means there) =
    let object = left_object is.from from (address_of-Contains remaining id from there) in
    record {
      from = from;
      to = from;
      means = means;
      stands = stand_object words from object.fields object.object;
      there = address_of-append_right places remaining id (apart_of places remaining id from own there) ∙ there;
    }

-- a word that refers to no stable object leads nowhere
pub plain_leads : (words : List ℕ) (meant : Option Word) → refers_to_stable meant ≡ false → referred words meant ≡ None
plain_leads words None plain = refl
plain_leads words (Some word.Null) plain = refl
plain_leads words (Some (word.Int n)) plain = refl
plain_leads words (Some (word.Stable at)) plain = cc
plain_leads words (Some (word.Volatile index)) plain = refl
