-- What a collection has copied refers to nothing that remains, but where it is gray.
use Rattle.std.proofs.Common.{◌≡◌, ◌⊎◌, inl, inr, ℕ, ◌+◌, Bool, true, false, List, [], ◌∷◌, ◌++◌, Option, None, Some, is_some, refl, sym, ap, ◌∙◌, subst}
use Rattle.std.specs.Prelude.{slice_get, slice_index_or, if◌then◌else◌}
use Rattle.std.specs.List.{AllByRecursion}
use Rattle.std.specs.FinSet.{contains}
use Rattle.std.proofs.lemmas.Option.{same_Some, slice_get-get_or, slice_get_within}
use Rattle.graph_model.specs.declared.id.Id.{Id}
use Rattle.graph_model.specs.declared.val.Val.{Val}
use Rattle.graph_model.specs.declared.val.Val.TheVariants.{Null, Ref}
use Rattle.graph_model.specs.Canon.{Reached, at_root, along}
use Rattle.graph_model.specs.Graph.{Graph, fields, is_same_id, root}
use Rattle.graph_model.specs.History.{Account}
use Rattle.graph_model.specs.Transaction.{serial}
use Rattle.heap_spaces.specs.Collection.{Collection}
use Rattle.log_records.specs.declared.Record.{Record}
use Rattle.log_machine.specs.Machine.{State, after_all, losing, taken_back}
use Rattle.log_machine.proofs.ListLaws.{AllByRecursion-at}
use Rattle.graph_words.specs.Places.{IsVisible, Places, address_of}
use Rattle.graph_words.proofs.Places.Addresses.{some_address}
use Rattle.graph_words.proofs.Seal.Places.{address_of-append_left, address_of-append_right}
use Rattle.graph_words.proofs.Stands.Visible.{committed_address}
use Rattle.collection_words.specs.Completed.{StandsCompleted, future, places_from, taken_at}
use Rattle.collection_words.specs.LaidOut.{is_gray_field}
use Rattle.collection_words.specs.Placed.{HaveOwnNames}
use Rattle.collection_words.specs.Placing.{moved_by_all, placing_of}
use Rattle.collection_words.proofs.Copy.Stands.{completed_own, root_current}
use Rattle.collection_words.proofs.Laid.Sources.{IsCollecting}
use Rattle.collection_words.proofs.Laid.Underway.{underway}
use Rattle.seen_laws.specs.Heap.{IsHeap}
use Rattle.seen_laws.proofs.Kept.{back}
use Rattle.seen_laws.proofs.Reading.{field_here}
use Rattle.seen_laws.proofs.States.{backed_all, sealed_stands, writes_of_all}
use Rattle.heap_model.specs.Core.{Core, all_words, placing}
use Rattle.core_laws.specs.Valid.{Agrees}
use Rattle.limit_laws.proofs.Copies.Disturbed.{own_apart, some_none}
use Rattle.limit_laws.proofs.Copies.Followed.{new_left, parted}
use Rattle.limit_laws.proofs.Copies.Running.{IsPlaced, all_placed, ran}
use Rattle.limit_laws.proofs.Copies.Scans.{address_cases}
use Rattle.limit_laws.proofs.Copies.Steps.{moved_fewer}
use Rattle.limit_laws.proofs.Copies.References.{GraysRefer}
use Rattle.limit_laws.proofs.Events.Kinds.{IsNoFlip}

-- Places.

named_still : (t : Bool) (x y : ℕ) (o r : Option ℕ) → is_some (if t then Some x else o) ≡ true → (is_some o ≡ true → is_some r ≡ true) → is_some (if t then Some y else r) ≡ true
named_still true x y o r is later = refl
named_still false x y o r is later = later is

-- an object with a place in the completed words that is not current remains
pub future_some : (words : List ℕ) (ps : Places) (to : ℕ) (id : Id) → is_some (address_of (places_from words ps to) id) ≡ true → is_some (address_of ps id) ≡ true
future_some words [] to id is = is
future_some words (p ∷ ps) to id is =
    let next = to + taken_at words p.1 in
    named_still (is_same_id p.0 id) to p.1 (address_of (places_from words ps next) id) (address_of ps id) is (future_some words ps next id)

pub none_of : (o : Option ℕ) → (is_some o ≡ true → ⊥) → o ≡ None
none_of None never = refl
none_of (Some x) never = absurd (never refl)

-- Objects while a collection runs.

module _ (a : Account) (e : Core) (h : Agrees a e) (k : Collection) (run : h.behind.collection ≡ Some k) where
  is : IsCollecting h.behind k e.places e.remaining (all_words e)
  is = let heap = h.told.heap in underway (record { run = run; spaced = heap.spaced; long = heap.long; small = heap.small; laid = heap.laid })

  stands : StandsCompleted 0 0 e.places e.remaining (serial e.g0 a.sealed) (writes_of_all (losing h.behind)) (all_words e) h.behind
  stands = sealed_stands h.behind e.places e.remaining (all_words e) h.told.stands

  own : HaveOwnNames (e.places ++ e.remaining)
  own = completed_own (writes_of_all (losing h.behind)) is stands

  current_left : (id : Id) (at : ℕ) → address_of e.places id ≡ Some at → address_of e.remaining id ≡ None
  current_left id at there = own_apart e.places e.remaining id at own there

  -- one that is not gray refers to nothing that remains, in the graph that the sealed transactions have left
  pub black_left : (z y : Id) (at i : ℕ) → address_of e.places z ≡ Some at → contains k.gray at ≡ false → slice_get (fields (serial e.g0 a.sealed) z) i ≡ Some (Ref y) → address_of e.remaining y ≡ None
  black_left z y at i there black refers =
      let g = serial e.g0 a.sealed in
      let us = writes_of_all (losing h.behind) in
      let left = back us is (backed_all h.behind e.places (all_words e) h.told.backed) stands in
      let heap : IsHeap h.behind e.places e.remaining (taken_back us (all_words e)) = record { spaced = left.is.spaced; long = left.is.long; laid = left.is.laid } in
      let within = slice_get_within (fields g z) i (Ref y) refers in
      let here = field_here [] heap tt left.stands z at i there within (ap (λ o. is_gray_field o at i) run ∙ black) tt in
      let value : slice_index_or (fields g z) i Null ≡ Ref y = same_Some (slice_index_or (fields g z) i Null) (Ref y) (sym (slice_get-get_or (fields g z) i Null within) ∙ refers) in
      let to = committed_address e.places y (subst (IsVisible e.places 0 0) value here.visible) in
      current_left y to.0 to.1

  -- the root is current
  pub root_left : address_of e.remaining root ≡ None
  root_left = current_left root h.behind.base (root_current h.told.heap.laid stands.root_place)

  -- one that is reached in it stands somewhere in the completed words
  reached_some : (id : Id) → Reached (serial e.g0 a.sealed) id → is_some (address_of (e.places ++ future h.behind (all_words e) e.remaining) id) ≡ true
  reached_some id at_root = ap is_some stands.root_place
  reached_some id (along {id = z} i to reached refers) =
      let g = serial e.g0 a.sealed in
      let P = e.places ++ future h.behind (all_words e) e.remaining in
      let there = some_address (address_of P z) (reached_some z reached) in
      let within = slice_get_within (fields g z) i (Ref to) refers in
      let value : slice_index_or (fields g z) i Null ≡ Ref to = same_Some (slice_index_or (fields g z) i Null) (Ref to) (sym (slice_get-get_or (fields g z) i Null within) ∙ refers) in
      let seen = AllByRecursion-at (IsVisible P 0 0) (fields g z) i Null within (stands.visible z there.0 there.1) in
      ap is_some (committed_address P to (subst (IsVisible P 0 0) value seen)).1

  -- so it is current, or remains
  pub reached_placed : (id : Id) → Reached (serial e.g0 a.sealed) id → IsPlaced (placing e) id
  reached_placed id reached =
      let later = future h.behind (all_words e) e.remaining in
      let at = some_address (address_of (e.places ++ later) id) (reached_some id reached) in
      elim (address_cases e.places later id at.0 at.1) [
        | inl here ↦ inl (ap is_some here)
        | inr left ↦ inr (future_some (all_words e) e.remaining (h.behind.base + h.behind.used) id (ap is_some left))
      ]

-- What is copied.

-- By the graph of the flip: what is copied is current; while the collection runs, what is reached is copied or remains, and a copied object that
-- is not gray refers to nothing that remains.
pub record IsClosed (g : Graph) (copied : Places) (e : Core) (s : State) : Type 0 where
  pub current : (id : Id) (at : ℕ) → address_of copied id ≡ Some at → address_of e.places id ≡ Some at
  pub reached : (k : Collection) → s.collection ≡ Some k → (id : Id) → Reached g id → IsPlaced (placing_of copied e.remaining) id
  pub black : (k : Collection) → s.collection ≡ Some k → (z y : Id) (at i : ℕ) → address_of copied z ≡ Some at → contains k.gray at ≡ false → slice_get (fields g z) i ≡ Some (Ref y) → address_of e.remaining y ≡ None

-- after a flip that leaves a core whose graph it is
pub closed_first : (g : Graph) (a : Account) (e : Core) (h : Agrees a e) → serial e.g0 a.sealed ≡ g → IsClosed g e.places e h.behind
closed_first g a e h same = record {
  current = λ id at there. there;
  reached = λ k run id reached. reached_placed a e h k run id (subst (λ (x : Graph). Reached x id) (sym same) reached);
  black = λ k run z y at i there black refers. black_left a e h k run z y at i there black (ap (λ (x : Graph). slice_get (fields x z) i) same ∙ refers);
}

-- An event keeps it.
module _ (g : Graph) (b : Account) (e f : Core) (h : Agrees b f) (s : State) (copied : Places) (records : List Record) (plain : AllByRecursion IsNoFlip records) (follows : after_all s records ≡ Some h.behind)
    (own : HaveOwnNames (e.places ++ e.remaining)) (more : Places) (stands : f.places ≡ (moved_by_all (placing e) records).places ++ more) (remains : f.remaining ≡ (moved_by_all (placing e) records).remaining)
    (rest : (z : Id) → is_some (address_of e.remaining z) ≡ true → fields (serial f.g0 b.sealed) z ≡ fields g z) (grays : GraysRefer g (serial f.g0 b.sealed) e s) (closed : IsClosed g copied e s) where
  abbrev new : Places
  new = (moved_by_all (placing_of [] e.remaining) records).places

  -- what is copied was so, or remained
  was : (id : Id) (at : ℕ) → address_of (moved_by_all (placing_of copied e.remaining) records).places id ≡ Some at
      → (address_of copied id ≡ Some at) ⊎ ((address_of (moved_by_all (placing_of [] e.remaining) records).places id ≡ Some at) × (is_some (address_of e.remaining id) ≡ true))
  was id at there = elim (address_cases copied new id at (ap (λ (ps : Places). address_of ps id) (sym (parted copied e.remaining records plain).places) ∙ there)) [
    | inl old ↦ inl old
    | inr added ↦ inr (added, remained (new_left (placing_of [] e.remaining) records plain id at added))
  ]
    where
      remained : (None ≡ Some at) ⊎ (is_some (address_of e.remaining id) ≡ true) → is_some (address_of e.remaining id) ≡ true
      remained (inl never) = absurd (cc never)
      remained (inr is) = is

  still_current : (id : Id) (at : ℕ) → address_of (moved_by_all (placing_of copied e.remaining) records).places id ≡ Some at → address_of f.places id ≡ Some at
  still_current id at there =
      let here : address_of (e.places ++ new) id ≡ Some at = elim (was id at there) [
        | inl old ↦ address_of-append_left e.places new id at (closed.current id at old)
        | inr added ↦ address_of-append_right e.places new id (none_of (address_of e.places id) (λ has. let to = some_address (address_of e.places id) has in some_none (own_apart e.places e.remaining id to.0 own to.1) added.1)) ∙ added.0
      ] in
      ap (λ (ps : Places). address_of ps id) stands
      ∙ address_of-append_left (moved_by_all (placing e) records).places more id at (ap (λ (ps : Places). address_of ps id) (parted e.places e.remaining records plain).places ∙ here)

  same_left : f.remaining ≡ (moved_by_all (placing_of copied e.remaining) records).remaining
  same_left = remains ∙ (parted e.places e.remaining records plain).remaining ∙ sym (parted copied e.remaining records plain).remaining

  -- what a copied object refers to that is not gray does not remain
  black_still : (k : Collection) → h.behind.collection ≡ Some k → (z y : Id) (at i : ℕ) → address_of (moved_by_all (placing_of copied e.remaining) records).places z ≡ Some at → contains k.gray at ≡ false
      → slice_get (fields g z) i ≡ Some (Ref y) → address_of f.remaining y ≡ None
  black_still k run z y at i there black refers = none_of (address_of f.remaining y) (λ left.
      let j = ran s h.behind records plain follows k run in
      let was_left = moved_fewer (placing e) records plain y (ap (λ (ps : Places). is_some (address_of ps y)) (sym remains) ∙ left) in
      let none = λ (edge : slice_get (fields (serial f.g0 b.sealed) z) i ≡ Some (Ref y)). black_left b f h k run z y at i (still_current z at there) black edge in
      some_none (elim (was z at there) [
        | inl old ↦ by j.0 j.1 old (contains j.0.gray at) refl was_left none
        | inr added ↦ none (ap (λ (vs : List Val). slice_get vs i) (rest z added.1) ∙ refers)
      ]) left)
    where
      by : (j : Collection) → s.collection ≡ Some j → address_of copied z ≡ Some at → (t : Bool) → contains j.gray at ≡ t → is_some (address_of e.remaining y) ≡ true
          → (slice_get (fields (serial f.g0 b.sealed) z) i ≡ Some (Ref y) → address_of f.remaining y ≡ None) → address_of f.remaining y ≡ None
      by j ran old true gray left none = none (grays j ran z y at i (closed.current z at old) gray refers left)
      by j ran old false gray left none = absurd (some_none (closed.black j ran z y at i old gray refers) left)

  pub closed_next : IsClosed g (moved_by_all (placing_of copied e.remaining) records).places f h.behind
  closed_next = record {
    current = still_current;
    reached = λ k run id reached.
        let j = ran s h.behind records plain follows k run in
        subst (λ (ps : Places). IsPlaced (placing_of (moved_by_all (placing_of copied e.remaining) records).places ps) id) (sym same_left) (all_placed s h.behind k (placing_of copied e.remaining) records id plain follows run (closed.reached j.0 j.1 id reached));
    black = black_still;
  }
