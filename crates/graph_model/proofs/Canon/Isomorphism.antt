-- Canons decide isomorphism: two whole graphs have one canon exactly where they are isomorphic.
use Rattle.std.proofs.Common.{◌≡◌, ℕ, zero, suc, ◌<◌, ◌↔◌, List, [], ◌∷◌, length, map, Some, option_map, get_or, unwrap_or, refl, sym, ap, ◌∙◌, subst, arith}
use Rattle.std.specs.Prelude.{slice_get}
use Rattle.std.specs.FinMap.{get}
use Rattle.std.proofs.lemmas.List.{length-map}
use Rattle.std.proofs.lemmas.Option.{same_Some, slice_get_within, slice_get-get_or}
use Rattle.graph_model.specs.declared.id.Id.{Id}
use Rattle.graph_model.specs.declared.val.Val.{Val}
use Rattle.graph_model.specs.declared.val.Val.TheVariants.{Null, Int, Ref}
use Rattle.graph_model.specs.Graph.{Graph, root, fields}
use Rattle.graph_model.specs.Canon.{Reached, numbered, Object, shown, canon}
use Rattle.graph_model.specs.ClosedGraph.{IsWhole}
use Rattle.graph_model.specs.Isomorphism.{MatchValues, MatchRows, IsIsomorphism}
use Rattle.graph_model.proofs.Canon.Match.{IsMatch}
use Rattle.graph_model.proofs.Canon.Matches.{canon_match}
use Rattle.graph_model.proofs.Canon.MatchRows.{tests_alike}
use Rattle.graph_model.proofs.Runs.Over.{IsNumbered, AreNumbered, numbered_over}
use Rattle.graph_model.proofs.Canon.Numbering.{numbered_first, reached_numbered, number_reached, number_once, canon_row, shown_reference}

-- there is a one-to-one match of what the roots reach that keeps fields
abbrev pub AreIsomorphic : Graph → Graph → Type 1
AreIsomorphic g h = (R : Id → Id → Type 0) × IsIsomorphism R g h

-- the objects of two graphs that have one number
abbrev pub HaveOneNumber : Graph → Graph → Id → Id → Type 0
HaveOneNumber g h a b = (k : ℕ) × (slice_get (numbered g) k ≡ Some a) × (slice_get (numbered h) k ≡ Some b)

values_match : (g h : Graph) (v w : Val) → ((target : Id) → v ≡ Ref target → IsNumbered (numbered g) target) → ((target : Id) → w ≡ Ref target → IsNumbered (numbered h) target)
    → shown (numbered g) v ≡ shown (numbered h) w → MatchValues (HaveOneNumber g h) v w
values_match g h Null Null one other same = tt
values_match g h (Int n) (Int k) one other same = cc
values_match g h (Ref a) (Ref b) one other same =
    let here = one a refl in
    let there = other b refl in
    let alike : Object here.0 ≡ Object there.0 = sym (shown_reference g here.0 a here.1) ∙ same ∙ shown_reference h there.0 b there.1 in
    let number : here.0 ≡ there.0 = cc in
    (here.0, here.1, ap (slice_get (numbered h)) number ∙ there.1)
values_match g h Null (Int k) one other same = cc
values_match g h Null (Ref b) one other same = cc
values_match g h (Int n) Null one other same = cc
values_match g h (Int n) (Ref b) one other same = cc
values_match g h (Ref a) Null one other same = cc
values_match g h (Ref a) (Int k) one other same = cc

rows_match : (g h : Graph) (vs ws : List Val) → AreNumbered (numbered g) vs → AreNumbered (numbered h) ws → map (shown (numbered g)) vs ≡ map (shown (numbered h)) ws
    → MatchRows (HaveOneNumber g h) vs ws
rows_match g h [] [] one other same = tt
rows_match g h [] (w ∷ ws) one other same = cc
rows_match g h (v ∷ vs) [] one other same = cc
rows_match g h (v ∷ vs) (w ∷ ws) one other same =
    let here : shown (numbered g) v ≡ shown (numbered h) w = cc in
    let rest : map (shown (numbered g)) vs ≡ map (shown (numbered h)) ws = cc in (
      values_match g h v w (λ target is. one zero target (ap Some is)) (λ target is. other zero target (ap Some is)) here,
      rows_match g h vs ws (λ j. one (suc j)) (λ j. other (suc j)) rest,
    )

-- the fields of an object that is reached refer to what has a number
fields_numbered : (g : Graph) (k : ℕ) (a : Id) → IsWhole g → slice_get (numbered g) k ≡ Some a → AreNumbered (numbered g) (fields g a)
fields_numbered g k a whole is = numbered_over g whole k a (slice_get_within (numbered g) k a is) is

number_match : (g h : Graph) (k : ℕ) (a b : Id) → IsWhole g → IsWhole h → canon g ≡ canon h → slice_get (numbered g) k ≡ Some a → slice_get (numbered h) k ≡ Some b
    → MatchRows (HaveOneNumber g h) (fields g a) (fields h b)
number_match g h k a b whole whole' same is is' =
    let row = λ (x : Graph) (id : Id). map (shown (numbered x)) (fields x id) in
    let one : slice_get (canon g) k ≡ Some (row g a) = canon_row g k ∙ ap (option_map (row g)) is in
    let other : slice_get (canon h) k ≡ Some (row h b) = canon_row h k ∙ ap (option_map (row h)) is' in
    rows_match g h (fields g a) (fields h b) (fields_numbered g k a whole is) (fields_numbered h k b whole' is')
    (same_Some (row g a) (row h b) (sym one ∙ ap (λ c. slice_get c k) same ∙ other))

-- a graph whose canon is another's numbers as many
same_count : (g h : Graph) → canon g ≡ canon h → length (numbered g) ≡ length (numbered h)
same_count g h same =
    sym (length-map (numbered g) (λ id. map (shown (numbered g)) (fields g id))) ∙ ap length same ∙ length-map (numbered h) (λ id. map (shown (numbered h)) (fields h id))

-- where canons are one, each number of one graph is one of the other
pub other_number : (g h : Graph) (k : ℕ) (a : Id) → canon g ≡ canon h → slice_get (numbered g) k ≡ Some a → (b : Id) × (slice_get (numbered h) k ≡ Some b)
other_number g h k a same is =
    let within = slice_get_within (numbered g) k a is in
    let there : k < length (numbered h) = omega (arith, same_count g h same) in
    (get_or (numbered h) k root, slice_get-get_or (numbered h) k root there)

each_number : (g h : Graph) (a : Id) → IsWhole g → canon g ≡ canon h → Reached g a → (b : Id) × HaveOneNumber g h a b
each_number g h a whole same reached =
    let has = reached_numbered g a whole reached in
    let other = other_number g h has.0 a same has.1 in
    (other.0, (has.0, has.1, other.1))

turned : (g h : Graph) (b : Id) → (a : Id) × HaveOneNumber h g b a → (a : Id) × HaveOneNumber g h a b
turned g h b (a, (k, is, is')) = (a, (k, is', is))

one_number : (g h : Graph) (a b x y : Id) → HaveOneNumber g h a b → HaveOneNumber g h x y → a ≡ x → b ≡ y
one_number g h a b x y (k, is, is') (m, there, there') same =
    let number : k ≡ m = number_once g k m x (is ∙ ap Some same) there in
    same_Some b y (sym is' ∙ ap (slice_get (numbered h)) number ∙ there')

one_number_back : (g h : Graph) (a b x y : Id) → HaveOneNumber g h a b → HaveOneNumber g h x y → b ≡ y → a ≡ x
one_number_back g h a b x y (k, is, is') (m, there, there') same =
    let number : k ≡ m = number_once h k m y (is' ∙ ap Some same) there' in
    same_Some a x (sym is ∙ ap (slice_get (numbered g)) number ∙ there)

-- where two whole graphs have one canon, the objects that have one number match
pub numbers-IsIsomorphism : (g h : Graph) → IsWhole g → IsWhole h → canon g ≡ canon h → IsIsomorphism (HaveOneNumber g h) g h
numbers-IsIsomorphism g h whole whole' same = record {
  roots = (0, numbered_first g, numbered_first h);
  reached = λ a b (k, is, is'). (number_reached g k a is, number_reached h k b is');
  each = λ a reached. each_number g h a whole same reached;
  each_back = λ b reached. turned g h b (each_number h g b whole' (sym same) reached);
  one_to_one = λ a b x y one other. (one_number g h a b x y one other, one_number_back g h a b x y one other);
  same_fields = λ a b (k, is, is'). number_match g h k a b whole whole' same is is';
}

there_fields : (g : Graph) (id : Id) (vs : List Val) → get g id ≡ Some vs → fields g id ≡ vs
there_fields g id vs is = ap (λ o. unwrap_or o []) is

-- an isomorphism of whole graphs is a match of their objects
isomorphism_match : (R : Id → Id → Type 0) (g h : Graph) → IsWhole g → IsWhole h → IsIsomorphism R g h → IsMatch R g h
isomorphism_match R g h whole whole' iso = record {
  roots = iso.roots;
  objects = λ a b ab.
      let both = iso.reached a b ab in
      let here = whole a both.0 in
      let there = whole' b both.1 in
      let Here : List Val → Type 0 = λ vs. MatchRows R vs there.0 in
      let There : List Val → Type 0 = λ ws. MatchRows R (fields g a) ws in
      record {
        one = here.0;
        other = there.0;
        here = here.1;
        there = there.1;
        rows = subst Here (there_fields g a here.0 here.1) (subst There (there_fields h b there.0 there.1) (iso.same_fields a b ab));
      };
  one_to_one = λ a b x y ab xy. tests_alike a b x y (iso.one_to_one a b x y ab xy);
}

-- Two whole graphs have one canon exactly where they are isomorphic.
pub canon_tells_isomorphism : (g h : Graph) → IsWhole g → IsWhole h → (canon g ≡ canon h) ↔ AreIsomorphic g h
canon_tells_isomorphism g h whole whole' = (
  λ same. (HaveOneNumber g h, numbers-IsIsomorphism g h whole whole' same),
  λ (R, iso). canon_match R g h (isomorphism_match R g h whole whole' iso),
)
