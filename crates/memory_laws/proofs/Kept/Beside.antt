-- What is kept of a transaction whose objects at hand stand where they did: it stays where another transaction is sealed.
use Rattle.std.proofs.Common.{◌≡◌, inl, inr, ℕ, ◌≤◌, List, [], ◌∷◌, length, map, Option, Some, None, refl, sym, ap, ◌∙◌, subst, arith}
use Rattle.std.specs.Option.{option_map}
use Rattle.heap_words.specs.declared.Header.TheVariants.{Length}
use Rattle.heap_words.specs.Header.{header_bits, birth_bits}
use Rattle.graph_model.specs.declared.id.Id.{Id}
use Rattle.graph_model.specs.declared.val.Val.{Val}
use Rattle.graph_model.specs.Graph.{fields}
use Rattle.graph_model.specs.Transaction.{Registers, View}
use Rattle.log_machine.specs.declared.UndoEntry.{UndoEntry}
use Rattle.volatile_area.specs.Area.{AreaState}
use Rattle.txn_table.specs.declared.place.Place.{Place}
use Rattle.txn_table.specs.declared.place.Place.TheVariants.{Volatile}
use Rattle.graph_words.specs.Area.{HasMade, area_words, object_words}
use Rattle.graph_words.proofs.Area.Write.{area_words-same}
use Rattle.graph_words.proofs.Area.Made.{made_visible, own_apart}
use Rattle.graph_words.specs.Places.{Places, IsAtHand, IsOwn, address_of, index_of, made_by, place_of, bits_of}
use Rattle.graph_words.proofs.Places.Addresses.{some_address}
use Rattle.graph_words.proofs.Stands.Visible.{StandsAsBefore, index_of-same, map_bits_of-same}
use Rattle.heap_model.specs.Core.{area_in}
use Rattle.heap_model.proofs.Step.Handles.{HoldAllAtHand}
use Rattle.heap_model.specs.CoreTold.{HoldsAtHand}
use Rattle.heap_memory.specs.Memory.{place_word}
use Rattle.memory_laws.specs.CoreMemory.{place_in, kept}
use Rattle.memory_laws.proofs.Kept.Held.{place_in_word, place_in-placed, place_in-apart}

-- a handle holds what it held
one_handle : (places : Places) (t made : ℕ) (f g : Id → Place) → ((id : Id) → IsAtHand places t made id → f id ≡ g id) → (o : Option Id) → HoldsAtHand places t made o → option_map f o ≡ option_map g o
one_handle places t made f g same None holds = refl
one_handle places t made f g same (Some id) holds = ap (λ (p : Place). Some p) (same id holds)

-- where all that is at hand stands where it did, all handles hold what they held
pub handles_same : (places : Places) (t made : ℕ) (f g : Id → Place) → ((id : Id) → IsAtHand places t made id → f id ≡ g id) → (rs : Registers) → HoldAllAtHand places t made rs
    → map (option_map f) rs ≡ map (option_map g) rs
handles_same places t made f g same [] all = refl
handles_same places t made f g same (r ∷ rs) all =
    ap (λ (o : Option Place). o ∷ map (option_map f) rs) (one_handle places t made f g same r all.0)
    ∙ ap (λ (os : List (Option Place)). option_map g r ∷ os) (handles_same places t made f g same rs all.1)

-- A transaction sees w on later places as it saw v on these: it holds what it held, what stood in the space stands there still, and nothing
-- that it made does, whose fields are as before.
pub record GoesOn (places later : Places) (v w : View) (u : ℕ) : Type 0 where
  pub has : HasMade places v.graph u v.made
  pub handles : HoldAllAtHand places u v.made v.registers
  pub registers : w.registers ≡ v.registers
  pub made : w.made ≡ v.made
  pub grown : (id : Id) (at : ℕ) → address_of places id ≡ Some at → address_of later id ≡ Some at
  pub apart : (k : ℕ) → address_of later (made_by u k) ≡ None
  pub own : (k : ℕ) → 1 ≤ k → k ≤ v.made → fields w.graph (made_by u k) ≡ fields v.graph (made_by u k)

module _ (places later : Places) (v w : View) (u : ℕ) (is : GoesOn places later v w u) where
  -- what it made has the same index
  own_index : (id : Id) → IsOwn u v.made id → index_of w.graph id ≡ index_of v.graph id
  own_index id own =
      let last = own.last in
      index_of-same v.graph w.graph id (λ k first less.
      subst (λ (t : ℕ). length (fields w.graph (made_by t k)) ≡ length (fields v.graph (made_by t k))) (sym own.maker) (ap (λ (vs : List Val). length vs) (is.own k first (omega arith))))

  -- and does not stand in the space
  own_later : (id : Id) → id.t ≡ u → address_of later id ≡ None
  own_later id maker = ap (λ (t : ℕ). address_of later (made_by t id.k)) maker ∙ is.apart id.k

  -- what was at hand stands where it did
  same_place : (id : Id) → IsAtHand places u v.made id → place_in later w.graph id ≡ place_in places v.graph id
  same_place id (inl there) =
      let at = some_address (address_of places id) there in
      place_in-placed later w.graph id at.0 (is.grown id at.0 at.1) ∙ sym (place_in-placed places v.graph id at.0 at.1)
  same_place id (inr own) =
      place_in-apart later w.graph id (own_later id own.maker) ∙ ap Volatile (own_index id own) ∙ sym (place_in-apart places v.graph id (own_apart is.has own))

  -- so the words of references to it are as before
  as_before : StandsAsBefore places u v.made (place_of places v.graph) (place_of later w.graph)
  as_before id at_hand = sym (place_in_word later w.graph id) ∙ ap place_word (same_place id at_hand) ∙ place_in_word places v.graph id

  -- and the words of what it made
  same_object : (k : ℕ) → 1 ≤ k → k ≤ v.made → object_words (place_of later w.graph) w.graph (made_by u k) ≡ object_words (place_of places v.graph) v.graph (made_by u k)
  same_object k first last =
      let vs = fields v.graph (made_by u k) in
      ap (λ (ws : List Val). header_bits (Length (length ws)) ∷ birth_bits u k ∷ map (bits_of (place_of later w.graph)) ws) (is.own k first last)
      ∙ ap (λ (ws : List ℕ). header_bits (Length (length vs)) ∷ birth_bits u k ∷ ws)
      (map_bits_of-same places u v.made (place_of places v.graph) (place_of later w.graph) as_before vs (made_visible is.has k first last))

  -- so its area is as before
  same_area : area_in later w u ≡ area_in places v u
  same_area =
      ap (λ (n : ℕ). let area : AreaState = record { transaction = u; made = n; words = area_words (place_of later w.graph) w.graph u n } in area) is.made
      ∙ ap (λ (ws : List ℕ). let area : AreaState = record { transaction = u; made = v.made; words = ws } in area)
      (area_words-same (place_of places v.graph) (place_of later w.graph) v.graph w.graph u v.made same_object)

  -- and all that is kept of it
  pub kept_on : (undo : List UndoEntry) → kept later w u undo ≡ kept places v u undo
  kept_on undo =
      ap (λ (hs : List (Option Place)). record (kept later w u undo) { handles = hs })
      (ap (map (option_map (place_in later w.graph))) is.registers ∙ handles_same places u v.made (place_in later w.graph) (place_in places v.graph) same_place v.registers is.handles)
      ∙ ap (λ (area : AreaState). record (kept places v u undo) { area = area }) same_area
