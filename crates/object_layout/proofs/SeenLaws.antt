-- Laws of what is seen in words: it has one canon, and if a walk passes something is seen.
use Rattle.std.proofs.Common.{◌≡◌, ℕ, zero, suc, Bool, true, false, List, [], ◌∷◌, map, Option, Some, None, refl, sym, ap, ◌∙◌, subst}
use Rattle.std.specs.Prelude.{slice_get}
use Rattle.std.specs.Option.{option_and_then}
use Rattle.std.specs.FinMap.{get}
use Rattle.std.proofs.lemmas.Option.{same_Some}
use Rattle.heap_words.specs.declared.Word.{Word}
use Rattle.heap_words.specs.declared.Word.TheVariants as word
use Rattle.heap_words.specs.Word.{meaning}
use Rattle.graph_model.specs.declared.id.Id.{Id}
use Rattle.graph_model.specs.declared.val.Val.{Val}
use Rattle.graph_model.specs.declared.val.Val.TheVariants.{Null, Int, Ref}
use Rattle.graph_model.specs.Graph.{Graph, is_same_id}
use Rattle.graph_model.specs.Canon.{canon}
use Rattle.graph_model.proofs.Whole.Graph.{same_id, itself}
use Rattle.graph_model.specs.ClosedGraph.{IsWhole}
use Rattle.graph_model.specs.Isomorphism.{MatchValues, MatchRows}
use Rattle.graph_model.proofs.Canon.Match.{IsMatch}
use Rattle.graph_model.proofs.Canon.Matches.{canon_match, match_whole}
use Rattle.object_layout.specs.Layout.{field_words, stand, referred, as_ref, value, IsMet, at_start, along, IsSeenAs}

-- two ids that one object has under two namings
abbrev pub NamesOne : (ℕ → Id) → (ℕ → Id) → List ℕ → ℕ → Id → Id → Type 0
NamesOne name other words start x y = (at : ℕ) × IsMet words start at × (name at ≡ x) × (other at ≡ y)

-- the references of a field lead to what is met
abbrev LeadsMet : List ℕ → ℕ → Option Word → Type 0
LeadsMet words start meant = (target : ℕ) → referred words meant ≡ Some target → IsMet words start target

refs_match : (name other : ℕ → Id) (words : List ℕ) (start : ℕ) (o : Option ℕ) (v w : Val) → ((target : ℕ) → o ≡ Some target → IsMet words start target)
    → option_and_then (as_ref name) o ≡ Some v → option_and_then (as_ref other) o ≡ Some w → MatchValues (NamesOne name other words start) v w
refs_match name other words start None v w leads is is' = cc
refs_match name other words start (Some c) v w leads is is' =
    let R = NamesOne name other words start in
    let One : Val → Type 0 = λ x. MatchValues R x w in
    let Other : Val → Type 0 = λ y. MatchValues R (Ref (name c)) y in
    subst One (same_Some (Ref (name c)) v is) (subst Other (same_Some (Ref (other c)) w is') (c, leads c refl, refl, refl))

values_match : (name other : ℕ → Id) (words : List ℕ) (start : ℕ) (meant : Option Word) (v w : Val) → LeadsMet words start meant
    → value name words meant ≡ Some v → value other words meant ≡ Some w → MatchValues (NamesOne name other words start) v w
values_match name other words start (Some word.Null) v w leads is is' =
    let R = NamesOne name other words start in
    let One : Val → Type 0 = λ x. MatchValues R x w in
    let Other : Val → Type 0 = λ y. MatchValues R Null y in
    subst One (same_Some Null v is) (subst Other (same_Some Null w is') tt)
values_match name other words start (Some (word.Int n)) v w leads is is' =
    let R = NamesOne name other words start in
    let One : Val → Type 0 = λ x. MatchValues R x w in
    let Other : Val → Type 0 = λ y. MatchValues R (Int n) y in
    subst One (same_Some (Int n) v is) (subst Other (same_Some (Int n) w is') refl)
values_match name other words start (Some (word.Stable b)) v w leads is is' = refs_match name other words start (stand words b) v w leads is is'
values_match name other words start (Some (word.Volatile k)) v w leads is is' = cc
values_match name other words start None v w leads is is' = cc

rows_match : (name other : ℕ → Id) (words : List ℕ) (start : ℕ) (ws : List ℕ) (vs us : List Val)
    → ((i w : ℕ) → slice_get ws i ≡ Some w → LeadsMet words start (meaning w))
    → map (λ w. value name words (meaning w)) ws ≡ map Some vs → map (λ w. value other words (meaning w)) ws ≡ map Some us
    → MatchRows (NamesOne name other words start) vs us
rows_match name other words start [] [] [] leads is is' = tt
rows_match name other words start [] [] (u ∷ us) leads is is' = cc
rows_match name other words start [] (v ∷ vs) us leads is is' = cc
rows_match name other words start (w ∷ ws) [] us leads is is' = cc
rows_match name other words start (w ∷ ws) (v ∷ vs) [] leads is is' = cc
rows_match name other words start (w ∷ ws) (v ∷ vs) (u ∷ us) leads is is' =
    let here : value name words (meaning w) ≡ Some v = cc in
    let here' : value other words (meaning w) ≡ Some u = cc in
    let rest : map (λ x. value name words (meaning x)) ws ≡ map Some vs = cc in
    let rest' : map (λ x. value other words (meaning x)) ws ≡ map Some us = cc in (
      values_match name other words start (meaning w) v u (leads zero w refl) here here',
      rows_match name other words start ws vs us (λ i. leads (suc i)) rest rest',
    )

one_name : (name other : ℕ → Id) (p q : ℕ) (t u : Bool) → (name p ≡ name q → p ≡ q) → (other p ≡ other q → p ≡ q)
    → is_same_id (name p) (name q) ≡ t → is_same_id (other p) (other q) ≡ u → t ≡ u
one_name name other p q true true apart apart' is is' = refl
one_name name other p q false false apart apart' is is' = refl
one_name name other p q true false apart apart' is is' =
    let same = apart (same_id (name p) (name q) is) in
    let clash = sym is' ∙ ap (λ x. is_same_id (other p) (other x)) (sym same) ∙ itself (other p) in cc
one_name name other p q false true apart apart' is is' =
    let same = apart' (same_id (other p) (other q) is') in
    let clash = sym is ∙ ap (λ x. is_same_id (name p) (name x)) (sym same) ∙ itself (name p) in cc

-- two graphs that are seen from one address match, whatever the names
pub seen_match : (name other : ℕ → Id) (words : List ℕ) (start : ℕ) (g h : Graph) → IsSeenAs name words start g → IsSeenAs other words start h
    → IsMatch (NamesOne name other words start) g h
seen_match name other words start g h one two = record {
  roots = (one.first, at_start one.stands, one.named, ap other (same_Some one.first two.first (sym one.stands ∙ two.stands)) ∙ two.named);
  objects = λ a b (at, met, here, there).
      let known = one.known at met in
      let known' = two.known at met in
      record {
        one = known.fields;
        other = known'.fields;
        here = ap (get g) (sym here) ∙ known.is;
        there = ap (get h) (sym there) ∙ known'.is;
        rows = rows_match name other words start (field_words words at) known.fields known'.fields (λ i w is target leads. along i w target met is leads) known.values known'.values;
      };
  one_to_one = λ a b x y (p, met, here, there) (q, met', here', there').
      ap (λ c. is_same_id c x) (sym here) ∙ ap (is_same_id (name p)) (sym here')
      ∙ one_name name other p q (is_same_id (name p) (name q)) (is_same_id (other p) (other q)) (one.apart p q met met') (two.apart p q met met') refl refl
      ∙ ap (is_same_id (other p)) there' ∙ ap (λ c. is_same_id c y) there;
}

-- All graphs that are seen from one address have one canon, whatever the names.
pub seen_canon : (name other : ℕ → Id) (words : List ℕ) (start : ℕ) (g h : Graph) → IsSeenAs name words start g → IsSeenAs other words start h → canon g ≡ canon h
seen_canon name other words start g h one two = canon_match (NamesOne name other words start) g h (seen_match name other words start g h one two)

-- a graph that is seen has all that is reached in it
pub seen_whole : (name : ℕ → Id) (words : List ℕ) (start : ℕ) (g : Graph) → IsSeenAs name words start g → IsWhole g
seen_whole name words start g seen = (match_whole (NamesOne name name words start) g g (seen_match name name words start g g seen seen)).0
