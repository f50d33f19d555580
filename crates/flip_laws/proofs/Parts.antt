-- Places by a test of their addresses: those that pass and those that do not.
use Rattle.std.proofs.Common.{◌≡◌, ◌≢◌, ℕ, ◌+◌, inl, inr, Bool, true, false, not, List, [], ◌∷◌, ◌++◌, Option, None, Some, is_some, refl, sym, ap, ◌∙◌}
use Rattle.std.specs.Prelude.{filter, if◌then◌else◌}
use Rattle.std.proofs.lemmas.Option.{same_Some}
use Rattle.graph_model.specs.Graph.{is_same_id}
use Rattle.graph_model.specs.declared.id.Id.{Id}
use Rattle.graph_model.proofs.Whole.Graph.{same_or_other}
use Rattle.graph_words.specs.Places.{Places, address_of, addresses}
use Rattle.graph_words.proofs.Places.Addresses.{address_of-head, address_of-rest}
use Rattle.collection_words.specs.Completed.{places_from, taken_at}
use Rattle.collection_words.specs.Placed.{HaveOwnNames}
use Rattle.collection_words.specs.Relocated.{HaveSameIds}
use Rattle.collection_words.proofs.Copy.Moved.{none_in_rest}

-- those that pass
abbrev pub passing : (ℕ → Bool) → Places → Places
passing f ps = filter (λ p. f p.1) ps

-- and the others
abbrev pub failing : (ℕ → Bool) → Places → Places
failing f ps = filter (λ p. not (f p.1)) ps

-- Addresses.

kept_addresses : (b : Bool) (p : Id × ℕ) (ps : Places) → addresses (if b then p ∷ ps else ps) ≡ (if b then p.1 ∷ addresses ps else addresses ps)
kept_addresses true p ps = refl
kept_addresses false p ps = refl

-- their addresses are those that pass
pub passing_addresses : (f : ℕ → Bool) (ps : Places) → addresses (passing f ps) ≡ filter f (addresses ps)
passing_addresses f [] = refl
passing_addresses f (p ∷ ps) = kept_addresses (f p.1) p (passing f ps) ∙ ap (λ (l : List ℕ). if f p.1 then p.1 ∷ l else l) (passing_addresses f ps)

kept_behind : (b : Bool) (p : Id × ℕ) (ps : Places) (id : Id) (at : ℕ) → p.0 ≢ id → address_of ps id ≡ Some at → address_of (if b then p ∷ ps else ps) id ≡ Some at
kept_behind true p ps id at other is = address_of-rest p ps id other ∙ is
kept_behind false p ps id at other is = is

-- an object whose address passes has it among them
pub passing_place : (f : ℕ → Bool) (ps : Places) (id : Id) (at : ℕ) → address_of ps id ≡ Some at → f at ≡ true → address_of (passing f ps) id ≡ Some at
passing_place f [] id at is passes = absurd (cc is)
passing_place f (p ∷ ps) id at is passes = elim (same_or_other p.0 id) [
  | inl same ↦
      let here : p.1 ≡ at = same_Some p.1 at (sym (ap (address_of (p ∷ ps)) (sym same) ∙ address_of-head p ps) ∙ is) in
      ap (λ b. address_of (if b then p ∷ passing f ps else passing f ps) id) (ap f here ∙ passes)
      ∙ ap (address_of (p ∷ passing f ps)) (sym same)
      ∙ address_of-head p (passing f ps)
      ∙ ap Some here
  | inr other ↦ kept_behind (f p.1) p (passing f ps) id at other (passing_place f ps id at (sym (address_of-rest p ps id other) ∙ is) passes)
]

-- Together they are all.

swapped : (b c : Bool) (x y : ℕ) (o o' : Option ℕ) → is_some o ≡ is_some (if b then Some x else o') → is_some (if c then Some y else o) ≡ is_some (if b then Some x else (if c then Some y else o'))
swapped true true x y o o' same = refl
swapped false true x y o o' same = refl
swapped true false x y o o' same = same
swapped false false x y o o' same = same

put_between : (ps qs : Places) (p : Id × ℕ) (id : Id) → is_some (address_of (ps ++ p ∷ qs) id) ≡ is_some (address_of (p ∷ (ps ++ qs)) id)
put_between [] qs p id = refl
put_between (q ∷ ps) qs p id = swapped (is_same_id p.0 id) (is_same_id q.0 id) p.1 q.1 (address_of (ps ++ p ∷ qs) id) (address_of (ps ++ qs) id) (put_between ps qs p id)

first_same : (b : Bool) (x : ℕ) (o o' : Option ℕ) → is_some o ≡ is_some o' → is_some (if b then Some x else o) ≡ is_some (if b then Some x else o')
first_same true x o o' same = refl
first_same false x o o' same = same

both_kept : (c : Bool) (p : Id × ℕ) (all ps qs : Places) (id : Id) → is_some (address_of all id) ≡ is_some (address_of (ps ++ qs) id)
    → is_some (address_of (p ∷ all) id) ≡ is_some (address_of ((if c then p ∷ ps else ps) ++ (if not c then p ∷ qs else qs)) id)
both_kept true p all ps qs id same = first_same (is_same_id p.0 id) p.1 (address_of all id) (address_of (ps ++ qs) id) same
both_kept false p all ps qs id same = first_same (is_same_id p.0 id) p.1 (address_of all id) (address_of (ps ++ qs) id) same ∙ sym (put_between ps qs p id)

-- the same objects have places
pub parts_same : (f : ℕ → Bool) (ps : Places) → HaveSameIds ps (passing f ps ++ failing f ps)
parts_same f [] id = refl
parts_same f (p ∷ ps) id = both_kept (f p.1) p ps (passing f ps) (failing f ps) id (parts_same f ps id)

-- Names.

none_of : (o : Option ℕ) → is_some o ≡ false → o ≡ None
none_of None is = refl
none_of (Some at) is = absurd (cc is)

other_name : (p q : Id × ℕ) (ps : Places) → address_of (q ∷ ps) p.0 ≡ None → p.0 ≢ q.0
other_name p q ps none same = let clash = sym none ∙ ap (address_of (q ∷ ps)) same ∙ address_of-head q ps in cc

own_between : (ps qs : Places) (p : Id × ℕ) → HaveOwnNames (ps ++ qs) → address_of (ps ++ qs) p.0 ≡ None → HaveOwnNames (ps ++ p ∷ qs)
own_between [] qs p own none = (none, own)
own_between (q ∷ ps) qs p own none = (
  none_of (address_of (ps ++ p ∷ qs) q.0) (put_between ps qs p q.0 ∙ ap is_some (address_of-rest p (ps ++ qs) q.0 (other_name p q (ps ++ qs) none) ∙ own.0)),
  own_between ps qs p own.1 (none_in_rest q (ps ++ qs) p.0 none),
)

own_kept : (c : Bool) (p : Id × ℕ) (ps qs : Places) → HaveOwnNames (ps ++ qs) → address_of (ps ++ qs) p.0 ≡ None → HaveOwnNames ((if c then p ∷ ps else ps) ++ (if not c then p ∷ qs else qs))
own_kept true p ps qs own none = (none, own)
own_kept false p ps qs own none = own_between ps qs p own none

-- no two of them have one name, where no two had
pub parts_own : (f : ℕ → Bool) (ps : Places) → HaveOwnNames ps → HaveOwnNames (passing f ps ++ failing f ps)
parts_own f [] own = tt
parts_own f (p ∷ ps) own =
    own_kept (f p.1) p (passing f ps) (failing f ps) (parts_own f ps own.1)
    (none_of (address_of (passing f ps ++ failing f ps) p.0) (sym (parts_same f ps p.0) ∙ ap is_some own.0))

none_put : (b : Bool) (x y : ℕ) (o o' : Option ℕ) → (o ≡ None → o' ≡ None) → (if b then Some x else o) ≡ None → (if b then Some y else o') ≡ None
none_put true x y o o' later none = absurd (cc none)
none_put false x y o o' later none = later none

front_none : (words : List ℕ) (ps qs : Places) (to : ℕ) (id : Id) → address_of (ps ++ qs) id ≡ None → address_of (places_from words ps to ++ qs) id ≡ None
front_none words [] qs to id none = none
front_none words (p ∷ ps) qs to id none =
    none_put (is_same_id p.0 id) p.1 to (address_of (ps ++ qs) id) (address_of (places_from words ps (to + taken_at words p.1) ++ qs) id) (front_none words ps qs (to + taken_at words p.1) id) none

-- also when the first of them are put elsewhere
pub front_own : (words : List ℕ) (ps qs : Places) (to : ℕ) → HaveOwnNames (ps ++ qs) → HaveOwnNames (places_from words ps to ++ qs)
front_own words [] qs to own = own
front_own words (p ∷ ps) qs to own = (front_none words ps qs (to + taken_at words p.1) p.0 own.0, front_own words ps qs (to + taken_at words p.1) own.1)
