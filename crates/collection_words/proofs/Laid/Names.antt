-- Names of objects: where no two are the same, whatever the order.
use Rattle.std.proofs.Common.{◌≡◌, ℕ, ◌+◌, inl, inr, List, [], ◌∷◌, Option, None, Some, is_some, refl, sym, ap, ◌∙◌, arith}
use Rattle.std.specs.List.{AllByRecursion}
use Rattle.std.proofs.lemmas.Option.{same_Some}
use Rattle.object_layout.specs.Walk.{AreEndToEnd}
use Rattle.object_layout.proofs.ObjectLaws.{end_to_end_begins}
use Rattle.log_machine.proofs.ListLaws.{AllByRecursion-map}
use Rattle.graph_words.specs.Places.{Places, address_of, addresses}
use Rattle.graph_words.proofs.Places.Addresses.{address_of-Contains, address_of-head, address_of-rest, none_or_some, placed_as}
use Rattle.collection_words.specs.Completed.{places_from, taken_at}
use Rattle.collection_words.specs.Placed.{HaveOwnNames}
use Rattle.collection_words.proofs.Moves.Sources.{put_same}

-- so each of them stands at its own place
pub names_own : (ps : Places) → HaveOwnNames ps → AllByRecursion (λ p. address_of ps p.0 ≡ Some p.1) ps
names_own [] own = tt
names_own (p ∷ ps) own = (
  address_of-head p ps,
  AllByRecursion-map (λ q. address_of ps q.0 ≡ Some q.1) (λ q. address_of (p ∷ ps) q.0 ≡ Some q.1) ps
      (λ q is. address_of-rest p ps q.0 (λ same. let clash = sym own.0 ∙ ap (address_of ps) same ∙ is in cc) ∙ is) (names_own ps own.1),
)

-- and where they stand end to end, each at its own place, no two have one name
pub own_names : (all : Places) (words : List ℕ) (from : ℕ) (ps : Places) (end : ℕ) → AreEndToEnd words from (addresses ps) end → AllByRecursion (λ p. address_of all p.0 ≡ Some p.1) ps → HaveOwnNames ps
own_names all words from [] end ends named = tt
own_names all words from (p ∷ ps) end (n, same, object, more) named = (
  elim (none_or_some (address_of ps p.0)) [
    | inl none ↦ none
    | inr there ↦
        let later = placed_as (λ q. address_of all q.0 ≡ Some q.1) ps p.0 there.0 named.1 there.1 in
        let equal = same_Some p.1 there.0 (sym named.0 ∙ later) in
        let far = end_to_end_begins words (p.1 + 2 + n) (addresses ps) end there.0 more (address_of-Contains ps p.0 there.0 there.1) in absurd (omega arith)
  ],
  own_names all words (p.1 + 2 + n) ps end more named.1,
)

not_there : (o q : Option ℕ) → is_some o ≡ is_some q → q ≡ None → o ≡ None
not_there None q same none = refl
not_there (Some a) q same none = let clash = same ∙ ap is_some none in cc

-- names are their own wherever the objects are put
pub own_put : (words : List ℕ) (ps : Places) (to : ℕ) → HaveOwnNames ps → HaveOwnNames (places_from words ps to)
own_put words [] to own = tt
own_put words (p ∷ ps) to own = (
  not_there (address_of (places_from words ps (to + taken_at words p.1)) p.0) (address_of ps p.0) (put_same words ps (to + taken_at words p.1) p.0) own.0,
  own_put words ps (to + taken_at words p.1) own.1,
)

-- and the other way round
pub put_own : (words : List ℕ) (ps : Places) (to : ℕ) → HaveOwnNames (places_from words ps to) → HaveOwnNames ps
put_own words [] to own = tt
put_own words (p ∷ ps) to own = (
  not_there (address_of ps p.0) (address_of (places_from words ps (to + taken_at words p.1)) p.0) (sym (put_same words ps (to + taken_at words p.1) p.0)) own.0,
  put_own words ps (to + taken_at words p.1) own.1,
)
