-- Objects of words that are laid out lie in the used words.
use Rattle.std.proofs.Common.{◌≡◌, ℕ, ◌+◌, ◌≤◌, List, Some}
use Rattle.std.specs.Prelude.{Contains}
use Rattle.graph_model.specs.declared.id.Id.{Id}
use Rattle.object_layout.specs.Layout.{object_at}
use Rattle.object_layout.specs.Walk.{used_words}
use Rattle.object_layout.proofs.ObjectLaws.{end_to_end_begins}
use Rattle.object_layout.proofs.WalkLaws.{object_take, object_take_end}
use Rattle.object_layout.proofs.WalkedLaws.{end_to_end_object}
use Rattle.log_machine.specs.Machine.{State}
use Rattle.graph_words.specs.Places.{Places, address_of, addresses}
use Rattle.graph_words.proofs.Places.Addresses.{address_of-Contains}
use Rattle.collection_words.specs.LaidOut.{IsLaidOut}

-- An object stands in the used words, with `fields` fields.
pub record StandsWithin (s : State) (words : List ℕ) (at : ℕ) : Type 0 where
  pub fields : ℕ
  pub object : object_at words at ≡ Some fields
  pub above : s.base ≤ at
  pub below : at + 2 + fields ≤ s.base + s.used

-- so does each that starts at one of the places
pub start_within : {s : State} {places remaining : Places} {words : List ℕ} → IsLaidOut s places remaining words → (at : ℕ) → Contains (addresses places) at → StandsWithin s words at
start_within {s} {places} {words = words} laid at has =
    let there = end_to_end_object (used_words words s.base s.used) s.base (addresses places) (s.base + s.used) at laid.filled.objects has in
    record {
      fields = there.0;
      object = object_take words (s.base + s.used) at there.0 there.1;
      above = end_to_end_begins (used_words words s.base s.used) s.base (addresses places) (s.base + s.used) at laid.filled.objects has;
      below = object_take_end words (s.base + s.used) at there.0 there.1;
    }

-- An object that has a place stands in the used words, without what is owed.
pub placed_within : {s : State} {places remaining : Places} {words : List ℕ} → IsLaidOut s places remaining words → (id : Id) (at : ℕ) → address_of places id ≡ Some at → StandsWithin s words at
placed_within {places = places} laid id at is = start_within laid at (address_of-Contains places id at is)
