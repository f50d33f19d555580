-- What a transaction sees as it makes objects and writes into them: the graph stands in the same words.
use Rattle.std.proofs.Common.{List, Some, [], ap, arith, inl, inr, length-set, replicate, slice_get, slice_set, subst, sym, unwrap_or, ℕ, ◌+◌, ◌-◌, ◌∙◌, ◌≡◌, ◌≤◌}
use Rattle.std.proofs.lemmas.Bool.{cases_lt}
use Rattle.std.proofs.lemmas.List.{length-replicate}
use Rattle.std.specs.FinMap.{get, insert}
use Rattle.std.specs.List.{AllByRecursion}
use Rattle.graph_model.specs.Graph.{Graph, fields, with_field}
use Rattle.graph_model.proofs.Whole.Graph.{get-insert_other, get-insert_same, same_or_other}
use Rattle.graph_model.specs.declared.id.Id.{Id}
use Rattle.graph_model.specs.declared.val.Val.{Val}
use Rattle.graph_model.specs.declared.val.Val.TheVariants.{Null}
use Rattle.log_machine.proofs.Fields.{written}
use Rattle.log_machine.specs.declared.UndoEntry.{UndoEntry}
use Rattle.graph_words.specs.Area.{HasMade, IsMade}
use Rattle.graph_words.proofs.Area.Made.{made_other, own_other, own_short, own_visible}
use Rattle.graph_words.specs.Places.{IsOwn, IsVisible, Places, address_of, area_used, index_of, made_by, place_of}
use Rattle.graph_words.proofs.Places.Addresses.{own_made, some_address}
use Rattle.graph_words.specs.Stands.{AreWritten, Stands, StandsAt}
use Rattle.graph_words.proofs.Stands.Objects.{stands_get, stands_object, stands_words}
use Rattle.graph_words.proofs.Stands.Visible.{StandsAsBefore, area_used-insert, area_used-new, area_used-with_field, map_bits_of-same, more_visible, nulls_visible, place_of-placed, place_of-same_index, place_of-with_field, set_visible}

-- A graph that changes where it does not stand.

-- the same of an object that has not changed, where what is at hand stands in the same places
pub stands_at_kept : {t made : ℕ} {places : Places} {g : Graph} {words : List ℕ} {base used : ℕ} → Stands t made places g words base used → (h : Graph)
    → StandsAsBefore places t made (place_of places g) (place_of places h) → (id : Id) (at : ℕ) → address_of places id ≡ Some at → get h id ≡ get g id → StandsAt (place_of places h) h words id at
stands_at_kept {t} {made} {places} {g} stands h as_before id at is kept = record {
  values = fields g id;
  is = kept ∙ stands_get stands id at is;
  object = stands_object stands id at is;
  fields = stands_words stands id at is ∙ sym (map_bits_of-same places t made (place_of places g) (place_of places h) as_before (fields g id) (stands.visible id at is));
}

-- A graph stands as it did where no object of the space has changed, and what is at hand stands in the same places.
pub stands_kept : {t made : ℕ} {places : Places} {g : Graph} {words : List ℕ} {base used : ℕ} → Stands t made places g words base used → (h : Graph) (more : ℕ) → made ≤ more
    → StandsAsBefore places t made (place_of places g) (place_of places h) → ((id : Id) (at : ℕ) → address_of places id ≡ Some at → get h id ≡ get g id) → Stands t more places h words base used
stands_kept {t} {made} {places} {g} stands h more longer as_before kept = record {
  below = stands.below;
  ends = stands.ends;
  root_object = stands.root_object;
  root_place = stands.root_place;
  names = stands.names;
  each = λ id at is. stands_at_kept stands h as_before id at is (kept id at is);
  visible = λ id at is. subst (λ o. AllByRecursion (IsVisible places t more) (unwrap_or o [])) (sym (kept id at is))
      (more_visible places t made more (fields g id) longer (stands.visible id at is));
}

-- the fields that were written are so still where no object of the space has changed
pub written_kept : (places : Places) (g h : Graph) (undo : List UndoEntry) → AreWritten places g undo → ((id : Id) (at : ℕ) → address_of places id ≡ Some at → get h id ≡ get g id)
    → AreWritten places h undo
written_kept places g h undo written kept id target at i is got none =
    written id target at i is (ap (λ o. slice_get (unwrap_or o []) i) (sym (kept id at is)) ∙ got) none

-- A write into an object of the transaction.

own_kept : {places : Places} {g : Graph} {t made : ℕ} → HasMade places g t made → (own_id : Id) → IsOwn t made own_id → (vs : List Val)
    → (id : Id) (at : ℕ) → address_of places id ≡ Some at → get (insert g own_id vs) id ≡ get g id
own_kept {g = g} has own_id own vs id at is = get-insert_other g own_id id vs (own_other has own id at is)

-- the graph stands in the same words
pub own_write_stands : {t made : ℕ} {places : Places} {g : Graph} {words : List ℕ} {base used : ℕ} → Stands t made places g words base used → HasMade places g t made
    → (id : Id) (i : ℕ) (v : Val) → IsOwn t made id → Stands t made places (with_field g id i v) words base used
own_write_stands {t} {made} {places} {g} stands has id i v own =
    stands_kept stands (with_field g id i v) made (omega arith) (λ q at_hand. ap (λ place. place q) (place_of-with_field places g id i v))
    (own_kept has id own (slice_set (fields g id) i v))

own_each : {places : Places} {g : Graph} {t made : ℕ} → HasMade places g t made → (id : Id) (i : ℕ) (v : Val) → IsOwn t made id → IsVisible places t made v
    → (k : ℕ) → 1 ≤ k → k ≤ made → IsMade places (with_field g id i v) t made k
own_each {places} {g} {t} {made} has id i v own seen k first last = elim (same_or_other (made_by t k) id) [
  | inl same ↦ record {
    values = slice_set (fields g id) i v;
    is = ap (get (with_field g id i v)) same ∙ get-insert_same g id (slice_set (fields g id) i v);
    short = omega (arith, own_short has own, length-set (fields g id) i v);
    visible = set_visible places t made (fields g id) i v seen (own_visible has own);
  }
  | inr other ↦
      let one = has.each k first last in
      record {
        values = one.values;
        is = get-insert_other g id (made_by t k) (slice_set (fields g id) i v) other ∙ one.is;
        short = one.short;
        visible = one.visible;
      }
]

-- what the transaction has made stays
pub own_write_made : {t made : ℕ} {places : Places} {g : Graph} → HasMade places g t made → (id : Id) (i : ℕ) (v : Val) → IsOwn t made id → IsVisible places t made v
    → HasMade places (with_field g id i v) t made
own_write_made {t} {made} {places} {g} has id i v own seen = record {
  each = own_each has id i v own seen;
  apart = has.apart;
  few = let few = has.few in omega (arith, area_used-with_field g id i v t made);
}

-- and so do the fields that were written
pub own_write_written : {t made : ℕ} {places : Places} {g : Graph} → HasMade places g t made → (undo : List UndoEntry) → AreWritten places g undo → (id : Id) (i : ℕ) (v : Val) → IsOwn t made id
    → AreWritten places (with_field g id i v) undo
own_write_written {places = places} {g = g} has undo written id i v own =
    written_kept places g (with_field g id i v) undo written (own_kept has id own (slice_set (fields g id) i v))

-- A new object.

-- the graph with one more object that transaction t has made, of that many null fields
abbrev pub with_new : Graph → ℕ → ℕ → ℕ → Graph
with_new g t made len = insert g (made_by t (made + 1)) (replicate len Null)

-- the objects that stand in the space have not changed
pub new_kept : {places : Places} {g : Graph} {t made : ℕ} → HasMade places g t made → (len : ℕ) (id : Id) (at : ℕ) → address_of places id ≡ Some at → get (with_new g t made len) id ≡ get g id
new_kept {places} {g} {t} {made} has len id at is =
    get-insert_other g (made_by t (made + 1)) id (replicate len Null) (λ same. made_other has (made + 1) id at is (sym same))

-- nor have those that it made before
pub new_kept_made : (g : Graph) (t made len k : ℕ) → k ≤ made → get (with_new g t made len) (made_by t k) ≡ get g (made_by t k)
new_kept_made g t made len k last =
    get-insert_other g (made_by t (made + 1)) (made_by t k) (replicate len Null) (λ same. let index = ap (λ (x : Id). x.k) same in omega arith)

-- the new object's index is what those before take
pub new_index : (g : Graph) (t made len : ℕ) → index_of (with_new g t made len) (made_by t (made + 1)) ≡ area_used g t made
new_index g t made len =
    let before : made + 1 - 1 ≡ made = omega arith in
    ap (area_used (with_new g t made len) t) before ∙ area_used-insert g t made (replicate len Null) made (omega arith)

new_index_own : (g : Graph) (t made len : ℕ) (id : Id) → IsOwn t made id → index_of (with_new g t made len) id ≡ index_of g id
new_index_own g t made len id own =
    let last = own.last in
    let first = own.first in
    let here = own_made t made id own in
    ap (index_of (with_new g t made len)) here ∙ area_used-insert g t made (replicate len Null) (id.k - 1) (omega arith) ∙ ap (index_of g) (sym here)

-- all others at hand stand where they did
pub new_places : (places : Places) (g : Graph) (t made len : ℕ) → StandsAsBefore places t made (place_of places g) (place_of places (with_new g t made len))
new_places places g t made len id (inl there) =
    let place = some_address (address_of places id) there in
    place_of-placed places (with_new g t made len) id place.0 place.1 ∙ sym (place_of-placed places g id place.0 place.1)
new_places places g t made len id (inr own) = place_of-same_index places g (with_new g t made len) id (new_index_own g t made len id own)

-- the graph stands in the same words
pub new_stands : {t made : ℕ} {places : Places} {g : Graph} {words : List ℕ} {base used : ℕ} → Stands t made places g words base used → HasMade places g t made
    → (len : ℕ) → Stands t (made + 1) places (with_new g t made len) words base used
new_stands {t} {made} {places} {g} stands has len = stands_kept stands (with_new g t made len) (made + 1) (omega arith) (new_places places g t made len) (new_kept has len)

new_each : {places : Places} {g : Graph} {t made : ℕ} → HasMade places g t made → (len : ℕ) → len ≤ 510 → (k : ℕ) → 1 ≤ k → k ≤ made + 1 → IsMade places (with_new g t made len) t (made + 1) k
new_each {places} {g} {t} {made} has len small k first last = elim (cases_lt made k) [
  | inl newest ↦
      let same : k ≡ made + 1 = omega arith in
      record {
        values = replicate len Null;
        is = ap (λ x. get (with_new g t made len) (made_by t x)) same ∙ get-insert_same g (made_by t (made + 1)) (replicate len Null);
        short = omega (arith, length-replicate len Null);
        visible = nulls_visible places t (made + 1) len;
      }
  | inr before ↦
      let one = has.each k first before in
      record {
        values = one.values;
        is = new_kept_made g t made len k before ∙ one.is;
        short = one.short;
        visible = more_visible places t made (made + 1) one.values (omega arith) one.visible;
      }
]

-- the transaction has made one more object
pub new_made : {t made : ℕ} {places : Places} {g : Graph} → HasMade places g t made → (len : ℕ) → len ≤ 510 → area_used g t made + 2 + len ≤ 4096
    → HasMade places (with_new g t made len) t (made + 1)
new_made {t} {made} {places} {g} has len small few = record {
  each = new_each has len small;
  apart = has.apart;
  few = omega (arith, area_used-new g t made (replicate len Null), length-replicate len Null);
}

-- the fields that were written are so still
pub new_written : {t made : ℕ} {places : Places} {g : Graph} → HasMade places g t made → (undo : List UndoEntry) → AreWritten places g undo → (len : ℕ)
    → AreWritten places (with_new g t made len) undo
new_written {t} {made} {places} {g} has undo written len = written_kept places g (with_new g t made len) undo written (new_kept has len)
