-- Texts decide isomorphism: two whole graphs are printed alike exactly where they are isomorphic.
use Rattle.std.proofs.Common.{◌≡◌, ℕ, zero, suc, ◌^◌, ◌<◌, ◌↔◌, List, [], ◌∷◌, length, map, Option, Some, None, unwrap_or, refl, sym, ap, subst, arith}
use Rattle.std.specs.Prelude.{slice_get}
use Rattle.std.specs.List.{AllByRecursion, position}
use Rattle.std.proofs.lemmas.List.{length-map}
use Rattle.std.proofs.lemmas.List.Elements.{recursion_from_All}
use Rattle.std.proofs.lemmas.List.Quantifiers.{position-Some}
use Rattle.graph_model.specs.declared.id.Id.{Id}
use Rattle.graph_model.specs.declared.val.Val.{Val}
use Rattle.graph_model.specs.declared.val.Val.TheVariants.{Null, Int, Ref}
use Rattle.graph_model.specs.Graph.{Graph, is_same_id, fields}
use Rattle.graph_model.specs.Canon.{Reached, numbered, shown, canon}
use Rattle.graph_model.proofs.Canon.Numbers.{numbered-Reached}
use Rattle.graph_model.specs.ClosedGraph.{IsWhole}
use Rattle.graph_model.proofs.Canon.Isomorphism.{AreIsomorphic, canon_tells_isomorphism}
use Rattle.graph_model.proofs.Canon.NumberedRows.{rows_of}
use Rattle.graph_model.specs.Printable.{IsPrintable}
use Rattle.graph_model.proofs.Text.Short.{IsShort, AreShort}
use Rattle.graph_model.specs.Text.{canon_text}
use Rattle.graph_model.proofs.Text.Text.{canon_text_injective}

place_short : (ids : List Id) (id : Id) (o : Option ℕ) → position (is_same_id id) ids ≡ o → length ids < 2 ^ 64 → unwrap_or o 0 < 2 ^ 64
place_short ids id None is few = omega arith
place_short ids id (Some p) is few = let within = (position-Some (is_same_id id) ids p id is).0 in omega arith

value_short : (ids : List Id) (v : Val) → length ids < 2 ^ 64 → ((n : ℕ) → v ≡ Int n → n < 2 ^ 64) → IsShort (shown ids v)
value_short ids Null few numbers = tt
value_short ids (Int n) few numbers = numbers n refl
value_short ids (Ref id) few numbers = place_short ids id (position (is_same_id id) ids) refl few

row_short : (ids : List Id) (vs : List Val) → length ids < 2 ^ 64 → ((i n : ℕ) → slice_get vs i ≡ Some (Int n) → n < 2 ^ 64) → AllByRecursion IsShort (map (shown ids) vs)
row_short ids [] few numbers = tt
row_short ids (v ∷ vs) few numbers = (value_short ids v few (λ n is. numbers zero n (ap Some is)), row_short ids vs few (λ i. numbers (suc i)))

rows_short : (g : Graph) (numbers ids : List Id) → IsPrintable g → length numbers < 2 ^ 64 → AllByRecursion (Reached g) ids → AllByRecursion (AllByRecursion IsShort) (rows_of g numbers ids)
rows_short g numbers [] printable few all = tt
rows_short g numbers (id ∷ ids) printable few all =
    (row_short numbers (fields g id) few (λ i n. printable.numbers id i n all.0), rows_short g numbers ids printable few all.1)

-- the canon of a printable graph is written out in full
pub canon_short : (g : Graph) → IsPrintable g → AreShort (canon g)
canon_short g printable = record {
  count = subst (λ (n : ℕ). n < 2 ^ 64) (sym (length-map (numbered g) (λ id. map (shown (numbered g)) (fields g id)))) printable.objects;
  fields = rows_short g (numbered g) (numbered g) printable printable.objects (recursion_from_All (Reached g) (numbered g) (numbered-Reached g));
}

-- Two whole graphs are printed alike exactly where they are isomorphic.
pub text_tells_isomorphism : (g h : Graph) → IsWhole g → IsWhole h → IsPrintable g → IsPrintable h → (canon_text (canon g) ≡ canon_text (canon h)) ↔ AreIsomorphic g h
text_tells_isomorphism g h whole whole' printable printable' =
    let tells = canon_tells_isomorphism g h whole whole' in (
      λ same. tells.0 (canon_text_injective (canon g) (canon h) (canon_short g printable) (canon_short h printable') same),
      λ are. ap canon_text (tells.1 are),
    )
