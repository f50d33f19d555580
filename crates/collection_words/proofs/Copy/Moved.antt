-- Places when one object has gone from those that remain to those that are current.
use Rattle.std.proofs.Common.{◌≡◌, ◌≢◌, ℕ, ◌==◌, inl, inr, Bool, true, false, not, [], ◌∷◌, ◌++◌, Option, None, Some, refl, sym, ap, ◌∙◌}
use Rattle.std.specs.Prelude.{if◌then◌else◌}
use Rattle.std.specs.List.{AllByRecursion}
use Rattle.std.proofs.lemmas.Option.{same_Some}
use Rattle.std.proofs.lemmas.Bool.{eqb-true}
use Rattle.graph_model.specs.Graph.{is_same_id}
use Rattle.graph_model.proofs.Whole.Graph.{same_or_other}
use Rattle.graph_model.specs.declared.id.Id.{Id}
use Rattle.graph_words.specs.Places.{Places, address_of}
use Rattle.graph_words.proofs.Places.Addresses.{address_of-head, address_of-rest}
use Rattle.collection_words.specs.Completed.{without}
use Rattle.collection_words.specs.Placed.{HaveOwnNames}
use Rattle.collection_words.proofs.Copy.Ascending.{other_false, other_than}

not_false : (b : Bool) → not b ≡ false → b ≡ true
not_false true is = refl
not_false false is = absurd (cc is)

none_behind : (b : Bool) (at : ℕ) (o : Option ℕ) → (if b then Some at else o) ≡ None → o ≡ None
none_behind true at o none = absurd (cc none)
none_behind false at o none = none

-- what is not among places is not among those after the first
pub none_in_rest : (p : Id × ℕ) (ps : Places) (id : Id) → address_of (p ∷ ps) id ≡ None → address_of ps id ≡ None
none_in_rest p ps id none = none_behind (is_same_id p.0 id) p.1 (address_of ps id) none

-- it does not have the first one's name
pub not_first : (p : Id × ℕ) (ps : Places) (id : Id) (at : ℕ) → address_of ps p.0 ≡ None → address_of ps id ≡ Some at → p.0 ≢ id
not_first p ps id at none is same = let clash = sym none ∙ ap (address_of ps) same ∙ is in cc

-- Without one.

kept_place : (b : Bool) (p : Id × ℕ) (ws ps : Places) (id : Id) → (b ≡ false → p.0 ≢ id) → address_of ws id ≡ address_of ps id → address_of (if b then p ∷ ws else ws) id ≡ address_of (p ∷ ps) id
kept_place true p ws ps id dropped same = ap (λ (o : Option ℕ). if is_same_id p.0 id then Some p.1 else o) same
kept_place false p ws ps id dropped same = same ∙ sym (address_of-rest p ps id (dropped refl))

-- another object stays where it is
pub without_other : (ps : Places) (from : ℕ) (id q : Id) → AllByRecursion (λ p. p.1 ≡ from → p.0 ≡ id) ps → q ≢ id → address_of (without ps from) q ≡ address_of ps q
without_other [] from id q only other = refl
without_other (p ∷ ps) from id q only other =
    kept_place (other_than from p.1) p (without ps from) ps q (λ gone same. other (sym same ∙ only.0 (eqb-true p.1 from (not_false (p.1 == from) gone)))) (without_other ps from id q only.1 other)

kept_none : (b : Bool) (p : Id × ℕ) (ws : Places) (id : Id) → p.0 ≢ id → address_of ws id ≡ None → address_of (if b then p ∷ ws else ws) id ≡ None
kept_none true p ws id other none = address_of-rest p ws id other ∙ none
kept_none false p ws id other none = none

first_other : (p : Id × ℕ) (ps : Places) (id : Id) → address_of (p ∷ ps) id ≡ None → p.0 ≢ id
first_other p ps id none same = let clash = sym none ∙ ap (address_of (p ∷ ps)) (sym same) ∙ address_of-head p ps in cc

-- what is not there is not among fewer
pub without_still : (ps : Places) (from : ℕ) (id : Id) → address_of ps id ≡ None → address_of (without ps from) id ≡ None
without_still [] from id none = refl
without_still (p ∷ ps) from id none = kept_none (other_than from p.1) p (without ps from) id (first_other p ps id none) (without_still ps from id (none_in_rest p ps id none))

-- the one that is taken away is not there
pub without_gone : (ps : Places) (from : ℕ) (id : Id) → HaveOwnNames ps → address_of ps id ≡ Some from → address_of (without ps from) id ≡ None
without_gone [] from id own is = refl
without_gone (p ∷ ps) from id own is = elim (same_or_other p.0 id) [
  | inl same ↦
      let here : p.1 ≡ from = same_Some p.1 from (sym (ap (address_of (p ∷ ps)) (sym same) ∙ address_of-head p ps) ∙ is) in
      ap (λ b. address_of (if b then p ∷ without ps from else without ps from) id) (other_false from p.1 here)
      ∙ without_still ps from id (ap (address_of ps) (sym same) ∙ own.0)
  | inr other ↦ kept_none (other_than from p.1) p (without ps from) id other (without_gone ps from id own.1 (sym (address_of-rest p ps id other) ∙ is))
]

own_kept : (b : Bool) (p : Id × ℕ) (ws : Places) → address_of ws p.0 ≡ None → HaveOwnNames ws → HaveOwnNames (if b then p ∷ ws else ws)
own_kept true p ws none own = (none, own)
own_kept false p ws none own = own

-- names are still their own
pub without_own : (ps : Places) (from : ℕ) → HaveOwnNames ps → HaveOwnNames (without ps from)
without_own [] from own = tt
without_own (p ∷ ps) from own = own_kept (other_than from p.1) p (without ps from) (without_still ps from p.0 own.0) (without_own ps from own.1)

-- Gone to the end of the others.

-- all places when an object is current that remained
abbrev pub gone : Places → Places → Id → ℕ → ℕ → Places
gone places remaining id from to = (places ++ (id, to) ∷ []) ++ without remaining from

-- one that remains is among all
pub behind_there : (places remaining : Places) (id : Id) (at : ℕ) → HaveOwnNames (places ++ remaining) → address_of remaining id ≡ Some at → address_of (places ++ remaining) id ≡ Some at
behind_there [] remaining id at own is = is
behind_there (p ∷ ps) remaining id at own is =
    let later = behind_there ps remaining id at own.1 is in
    address_of-rest p (ps ++ remaining) id (not_first p (ps ++ remaining) id at own.0 later) ∙ later

-- it stands where it has gone
pub gone_there : (places remaining : Places) (id : Id) (from to : ℕ) → HaveOwnNames (places ++ remaining) → address_of remaining id ≡ Some from → address_of (gone places remaining id from to) id ≡ Some to
gone_there [] remaining id from to own is = address_of-head (id, to) (without remaining from)
gone_there (p ∷ ps) remaining id from to own is =
    let later = behind_there ps remaining id from own.1 is in
    address_of-rest p (gone ps remaining id from to) id (not_first p (ps ++ remaining) id from own.0 later) ∙ gone_there ps remaining id from to own.1 is

-- each other one where it was
pub gone_other : (places remaining : Places) (id : Id) (from to : ℕ) (q : Id) → AllByRecursion (λ p. p.1 ≡ from → p.0 ≡ id) remaining → q ≢ id
    → address_of (gone places remaining id from to) q ≡ address_of (places ++ remaining) q
gone_other [] remaining id from to q only other = address_of-rest (id, to) (without remaining from) q (λ same. other (sym same)) ∙ without_other remaining from id q only other
gone_other (p ∷ ps) remaining id from to q only other = ap (λ (o : Option ℕ). if is_same_id p.0 q then Some p.1 else o) (gone_other ps remaining id from to q only other)

-- and names are still their own
pub gone_own : (places remaining : Places) (id : Id) (from to : ℕ) → HaveOwnNames (places ++ remaining) → AllByRecursion (λ p. p.1 ≡ from → p.0 ≡ id) remaining → address_of remaining id ≡ Some from
    → HaveOwnNames (gone places remaining id from to)
gone_own [] remaining id from to own only is = (without_gone remaining from id own is, without_own remaining from own)
gone_own (p ∷ ps) remaining id from to own only is =
    let later = behind_there ps remaining id from own.1 is in
    (gone_other ps remaining id from to p.0 only (not_first p (ps ++ remaining) id from own.0 later) ∙ own.0, gone_own ps remaining id from to own.1 only is)
