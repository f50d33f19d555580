-- If a walk passes, the graph of its objects is closed: no reference dangles.
use Rattle.std.proofs.Common.{◌≡◌, ℕ, zero, suc, Bool, true, false, cond, List, [], ◌∷◌, map, Option, Some, None, Contains, unwrap_or, refl, sym, ap, ◌∙◌}
use Rattle.std.specs.Prelude.{slice_get}
use Rattle.std.specs.Option.{option_and_then}
use Rattle.std.specs.Ordering.{eq_by_cmp}
use Rattle.std.specs.FinMap.{get, get-empty, get-insert}
use Rattle.std.proofs.lemmas.Option.{same_Some}
use Rattle.heap_words.specs.declared.Word.{Word}
use Rattle.heap_words.specs.declared.Word.TheVariants as word
use Rattle.heap_words.specs.Word.{meaning}
use Rattle.graph_model.specs.declared.id.Id.{Id}
use Rattle.graph_model.specs.declared.val.Val.{Val}
use Rattle.graph_model.specs.declared.val.Val.TheVariants.{Ref}
use Rattle.graph_model.specs.Graph.{Graph, id_cmp, root}
use Rattle.graph_model.proofs.Whole.Graph.{id_cmp_total, tied_ids}
use Rattle.graph_model.specs.ClosedGraph.{IsThere, IsClosed}
use Rattle.object_layout.specs.Layout.{field_words, id_at, as_ref, value, IsSeenAs, IsSeen}
use Rattle.object_layout.specs.Walk.{IsInside, IsWalked, HaveOwnBirths}
use Rattle.object_layout.proofs.WalkLaws.{Contains-head, Contains-rest}
use Rattle.object_layout.proofs.WalkedLaws.{KeepApart, found, values_found, gathered, gathered_get, gathered_seen_as, walked_stand, walked_base, births_apart, base_named}

-- an object of the graph of these is one of these, under its name
record IsOneOf (name : ℕ → Id) (words starts : List ℕ) (id : Id) (vs : List Val) : Type 0 where
  at : ℕ
  has : Contains starts at
  named : name at ≡ id
  values : values_found name words at ≡ vs

one_more : (name : ℕ → Id) (words : List ℕ) (a : ℕ) (rest : List ℕ) (id : Id) (vs : List Val) → IsOneOf name words rest id vs → IsOneOf name words (a ∷ rest) id vs
one_more name words a rest id vs one = record { at = one.at; has = Contains-rest a rest one.at one.has; named = one.named; values = one.values }

one_of_pick : (name : ℕ → Id) (words : List ℕ) (a : ℕ) (rest : List ℕ) (id : Id) (vs : List Val) (t : Bool) (kept : Option (List Val)) → eq_by_cmp id_cmp id (name a) ≡ t
    → cond t (Some (values_found name words a)) kept ≡ Some vs → (kept ≡ Some vs → IsOneOf name words rest id vs) → IsOneOf name words (a ∷ rest) id vs
one_of_pick name words a rest id vs true kept tied is later =
    record { at = a; has = Contains-head a rest; named = sym (tied_ids id (name a) tied); values = same_Some (values_found name words a) vs is }
one_of_pick name words a rest id vs false kept tied is later = one_more name words a rest id vs (later is)

one_of_gathered : (name : ℕ → Id) (words starts : List ℕ) (id : Id) (vs : List Val) → get (gathered name words starts) id ≡ Some vs → IsOneOf name words starts id vs
one_of_gathered name words [] id vs is = let none = sym (get-empty id_cmp id) ∙ is in cc
one_of_gathered name words (a ∷ rest) id vs is =
    one_of_pick name words a rest id vs (eq_by_cmp id_cmp id (name a)) (get (gathered name words rest) id) refl
    (sym (get-insert id_cmp_total (gathered name words rest) (name a) (values_found name words a) id) ∙ is)
    (one_of_gathered name words rest id vs)

-- an object of the walk that a name leads to
abbrev LeadsInside : (ℕ → Id) → List ℕ → Id → Type 0
LeadsInside name starts target = (b : ℕ) × Contains starts b × (name b ≡ target)

inside_target : (name : ℕ → Id) (words : List ℕ) (base used : ℕ) (walked : IsWalked words base used) (meant : Option Word) (target : Id) → IsInside walked.starts meant
    → found (value name words meant) ≡ Ref target → LeadsInside name walked.starts target
inside_target name words base used walked None target inside leads = absurd inside
inside_target name words base used walked (Some word.Null) target inside leads = cc
inside_target name words base used walked (Some (word.Int n)) target inside leads = cc
inside_target name words base used walked (Some (word.Volatile k)) target inside leads = absurd inside
inside_target name words base used walked (Some (word.Stable b)) target inside leads =
    let is : value name words (Some (word.Stable b)) ≡ Some (Ref (name b)) = ap (option_and_then (as_ref name)) (walked_stand words base used b walked inside) in
    let same : Ref (name b) ≡ Ref target = sym (ap found is) ∙ leads in
    (b, inside, cc)

fields_target : (name : ℕ → Id) (words : List ℕ) (base used : ℕ) (walked : IsWalked words base used) (ws : List ℕ) (i : ℕ) (target : Id)
    → ((k w : ℕ) → slice_get ws k ≡ Some w → IsInside walked.starts (meaning w))
    → slice_get (map found (map (λ w. value name words (meaning w)) ws)) i ≡ Some (Ref target) → LeadsInside name walked.starts target
fields_target name words base used walked [] i target inside is = cc
fields_target name words base used walked (w ∷ ws) zero target inside is =
    inside_target name words base used walked (meaning w) target (inside zero w refl) (same_Some (found (value name words (meaning w))) (Ref target) is)
fields_target name words base used walked (w ∷ ws) (suc i) target inside is = fields_target name words base used walked ws i target (λ k. inside (suc k)) is

target_there : (name : ℕ → Id) (words starts : List ℕ) (target : Id) → KeepApart name starts → LeadsInside name starts target → IsThere (gathered name words starts) target
target_there name words starts target apart (b, has, named) =
    (values_found name words b, ap (get (gathered name words starts)) (sym named) ∙ gathered_get name words starts b apart has)

gathered_targets : (name : ℕ → Id) (words : List ℕ) (base used : ℕ) (walked : IsWalked words base used) (id : Id) (i : ℕ) (target : Id) (o : Option (List Val))
    → KeepApart name walked.starts → get (gathered name words walked.starts) id ≡ o → slice_get (unwrap_or o []) i ≡ Some (Ref target)
    → IsThere (gathered name words walked.starts) target
gathered_targets name words base used walked id i target None apart is leads = cc
gathered_targets name words base used walked id i target (Some vs) apart is leads =
    let one = one_of_gathered name words walked.starts id vs is in
    target_there name words walked.starts target apart
    (fields_target name words base used walked (field_words words one.at) i target (walked.inside one.at one.has) (ap (λ us. slice_get us i) one.values ∙ leads))

-- the graph of the objects of a walk is closed
pub gathered-IsClosed : (name : ℕ → Id) (words : List ℕ) (base used : ℕ) (walked : IsWalked words base used) → name base ≡ root → KeepApart name walked.starts
    → IsClosed (gathered name words walked.starts)
gathered-IsClosed name words base used walked named apart = record {
  root_there = target_there name words walked.starts root apart (base, walked_base words base used walked, named);
  targets = λ id i target. gathered_targets name words base used walked id i target (get (gathered name words walked.starts) id) apart refl;
}

-- If a walk passes, a closed graph is seen from its base, if the base has the root's name and the names keep the objects apart.
pub walked_closed_as : (name : ℕ → Id) (words : List ℕ) (base used : ℕ) (walked : IsWalked words base used) → name base ≡ root → KeepApart name walked.starts
    → (g : Graph) × IsSeenAs name words base g × IsClosed g
walked_closed_as name words base used walked named apart =
    (gathered name words walked.starts, gathered_seen_as name words base used walked named apart, gathered-IsClosed name words base used walked named apart)

-- If a walk passes and births differ, a closed graph is seen.
pub walked_closed : (words : List ℕ) (base used : ℕ) (walked : IsWalked words base used) → HaveOwnBirths words walked.starts → (g : Graph) × IsSeen words base g × IsClosed g
walked_closed words base used walked own =
    walked_closed_as (id_at words) words base used walked (base_named words base used walked) (births_apart words walked.starts own)
