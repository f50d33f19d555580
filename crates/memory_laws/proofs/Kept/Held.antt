-- What the handles of a transaction hold in memory, and the fields of it: those of the objects that the core's handles hold.
use Rattle.std.proofs.Common.{◌≡◌, inl, inr, ℕ, zero, suc, ◌<◌, true, false, cond, List, [], ◌∷◌, length, map, Option, Some, None, refl, sym, ap, ◌∙◌, subst, arith, Contains, get_or}
use Rattle.std.specs.List.{list_any}
use Rattle.std.specs.Option.{option_map}
use Rattle.std.specs.Prelude.{nat_lt, nat_eq, slice_get, option_and_then}
use Rattle.std.proofs.lemmas.Bool.{ltb-true, eq-eqb}
use Rattle.std.proofs.lemmas.List.Folds.{list_any_at}
use Rattle.std.proofs.lemmas.List.{length-map}
use Rattle.graph_model.specs.declared.id.Id.{Id}
use Rattle.graph_model.specs.Graph.{Graph, fields}
use Rattle.graph_model.specs.History.{account, Account}
use Rattle.graph_model.proofs.Runs.History.{held-past, length-registers-run}
use Rattle.graph_model.specs.Locking.{IsFree, Shared}
use Rattle.graph_model.specs.Plain.{view}
use Rattle.graph_model.specs.Transaction.{Registers, View, Transaction, held, run}
use Rattle.commit_order.proofs.OrderLaws.{two_phase_ordered}
use Rattle.heap_spaces.specs.Collection.{Collection}
use Rattle.object_layout.specs.Layout.{field_words}
use Rattle.volatile_area.specs.Area.{starts_of, AreaState}
use Rattle.log_machine.specs.declared.UndoEntry.{UndoEntry}
use Rattle.txn_table.specs.declared.place.Place.TheVariants.{Stable, Volatile}
use Rattle.txn_table.specs.declared.place.Place.{Place}
use Rattle.graph_words.specs.Area.{HasMade, area_of}
use Rattle.graph_words.proofs.Area.Starts.{area_starts}
use Rattle.graph_words.proofs.Area.Words.{area_starts_Contains}
use Rattle.graph_words.proofs.Area.State.{starts_of-area_of, own_words}
use Rattle.graph_words.proofs.Area.Made.{own_apart}
use Rattle.graph_words.specs.Places.{Places, address_of, index_of, standing, place_of, bits_of, IsAtHand, IsOwn}
use Rattle.graph_words.proofs.Places.Addresses.{some_address}
use Rattle.collection_words.specs.LaidOut.{is_gray_field}
use Rattle.heap_model.specs.Core.{Core, all_words, area_in}
use Rattle.core_laws.proofs.Sessions.Apart.{length_now, fields_now}
use Rattle.core_laws.proofs.Step.Goes.{writing_of}
use Rattle.core_laws.specs.Valid.{IsValid, RunsLocked}
use Rattle.heap_memory.specs.Memory.{place_word, fields_at, held_in, held_or, held_place, Memory}
use Rattle.memory_laws.specs.CoreMemory.{standing_place, place_in, kept}
use Rattle.memory_laws.proofs.Kept.Parts.{Works}

-- the word of a reference to a place is that of the object there
pub standing_word : (o : Option ℕ) (index : ℕ) → place_word (standing_place o index) ≡ standing o index
standing_word (Some address) index = refl
standing_word None index = refl

-- so it is for the place of an object of a graph
pub place_in_word : (places : Places) (g : Graph) (id : Id) → place_word (place_in places g id) ≡ place_of places g id
place_in_word places g id = standing_word (address_of places id) (index_of g id)

-- one that has an address stands there
pub place_in-placed : (places : Places) (g : Graph) (id : Id) (at : ℕ) → address_of places id ≡ Some at → place_in places g id ≡ Stable at
place_in-placed places g id at is = ap (λ o. standing_place o (index_of g id)) is

-- another at its index
pub place_in-apart : (places : Places) (g : Graph) (id : Id) → address_of places id ≡ None → place_in places g id ≡ Volatile (index_of g id)
place_in-apart places g id is = ap (λ o. standing_place o (index_of g id)) is

got_of_map : (f : Id → Place) (rs : Registers) (h : ℕ) → option_and_then (λ o. o) (slice_get (map (option_map f) rs) h) ≡ option_map f (held rs h)
got_of_map f [] h = refl
got_of_map f (None ∷ rs) zero = refl
got_of_map f (Some id ∷ rs) zero = refl
got_of_map f (r ∷ rs) (suc h) = got_of_map f rs h

past : (f : Id → Place) (rs : Registers) (h : ℕ) → length rs ≡ 64 → 63 < h → None ≡ option_map f (held rs h)
past f rs h long above = ap (option_map f) (sym (held-past rs h (omega (arith, long, above))))

-- a handle holds the place of what the core's holds
pub held_in-kept : (places : Places) (v : View) (t : ℕ) (undo : List UndoEntry) (h : ℕ) → length v.registers ≡ 64
    → held_in (kept places v t undo) h ≡ option_map (place_in places v.graph) (held v.registers h)
held_in-kept places v t undo h long = by_test (nat_lt 63 h) refl
  where
    by_test : (b : _) → nat_lt 63 h ≡ b → cond b None (option_and_then (λ o. o) (slice_get (map (option_map (place_in places v.graph)) v.registers) h)) ≡ option_map (place_in places v.graph) (held v.registers h)
    by_test false e = got_of_map (place_in places v.graph) v.registers h
    by_test true e = past (place_in places v.graph) v.registers h long (ltb-true 63 h e)

listed : (xs : List ℕ) (at : ℕ) → Contains xs at → list_any (nat_eq at) xs ≡ true
listed xs at (i, within, is) = list_any_at (nat_eq at) xs i at within (eq-eqb at (get_or xs i at) (sym is))

-- an object that the transaction made is one of its area's
own_listed : {places : Places} {g : Graph} {t made : ℕ} → HasMade places g t made → (id : Id) → IsOwn t made id
    → list_any (nat_eq (index_of g id)) (starts_of (area_of (place_of places g) g t made)) ≡ true
own_listed {places} {g} {t} {made} has id own =
    subst (λ (xs : List ℕ). list_any (nat_eq (index_of g id)) xs ≡ true) (sym (starts_of-area_of has)) (listed (area_starts g t made) (index_of g id) (area_starts_Contains g t made id own))

-- the fields of an object that the transaction made have the words of its values
own_fields_at : {places : Places} {g : Graph} {t made : ℕ} → HasMade places g t made → (words : List ℕ) (id : Id) → IsOwn t made id
    → fields_at words (area_of (place_of places g) g t made) (place_in places g id) ≡ map (bits_of (place_of places g)) (fields g id)
own_fields_at {places} {g} {t} {made} has words id own =
    let area = area_of (place_of places g) g t made in
    ap (fields_at words area) (place_in-apart places g id (own_apart has own))
    ∙ ap (λ b. cond b (field_words area.words (index_of g id)) []) (own_listed has id own)
    ∙ own_words has id own

-- No field of an object is gray, where it stands in the current space.
abbrev pub IsBlack : Places → Option Collection → Id → Type 0
IsBlack places runs id = (at : ℕ) → address_of places id ≡ Some at → (i : ℕ) → is_gray_field runs at i ≡ false

-- the place that a handle holds
pub held_place-kept : (places : Places) (g : Graph) (t : Transaction) (undo : List UndoEntry) (h : ℕ)
    → held_place (Some (kept places (run g t) t.number undo)) h ≡ held_or (option_map (place_in places (run g t).graph) (held (run g t).registers h))
held_place-kept places g t undo h = ap held_or (held_in-kept places (run g t) t.number undo h (length-registers-run g t))

module _ (m : Memory) (c : Core) (valid : IsValid c) (runs : RunsLocked c.g0 c.first c.history) (is : Works m (account c.history) c) (s : ℕ) (t : Transaction)
    (active : (account c.history).active s ≡ Some t) where
  -- what the history says
  abbrev a : Account
  a = account c.history

  -- what the transaction sees
  abbrev v : View
  v = view c.g0 a t

  -- its area
  abbrev area : AreaState
  area = area_in c.places v t.number

  -- the object as the words of memory have it
  stored_at : (id : Id) (at : ℕ) → address_of c.places id ≡ Some at → fields_at m.words area (place_in c.places v.graph id) ≡ field_words (all_words c) at
  stored_at id at place = ap (fields_at m.words area) (place_in-placed c.places v.graph id at place) ∙ ap (λ (ws : List ℕ). field_words ws at) is.words

  -- an object at hand has as many fields in memory as the transaction sees
  pub length-fields_at_hand : (id : Id) → IsAtHand c.places t.number v.made id → length (fields_at m.words area (place_in c.places v.graph id)) ≡ length (fields v.graph id)
  length-fields_at_hand id (inl there) =
      let place = some_address (address_of c.places id) there in
      ap (λ (ws : List ℕ). length ws) (stored_at id place.0 place.1)
      ∙ length_now a c valid (two_phase_ordered c.g0 c.history runs.plain runs.two_phase) s t active id place.0 place.1
  length-fields_at_hand id (inr own) =
      ap (λ (ws : List ℕ). length ws) (own_fields_at (writing_of a c s t active valid).made m.words id own) ∙ length-map (fields v.graph id) (bits_of (place_of c.places v.graph))

  -- where no other transaction holds it exclusively, and it isn't gray, the fields have the words of its values
  pub fields_at_hand : (id : Id) → IsAtHand c.places t.number v.made id → IsFree c.g0 a t.number (Some (id, Shared)) → IsBlack c.places valid.behind.collection id
      → fields_at m.words area (place_in c.places v.graph id) ≡ map (bits_of (place_of c.places v.graph)) (fields v.graph id)
  fields_at_hand id (inl there) free black =
      let place = some_address (address_of c.places id) there in
      stored_at id place.0 place.1 ∙ fields_now a c valid (two_phase_ordered c.g0 c.history runs.plain runs.two_phase) s t active id place.0 place.1 free (black place.0 place.1)
  fields_at_hand id (inr own) free black = own_fields_at (writing_of a c s t active valid).made m.words id own
