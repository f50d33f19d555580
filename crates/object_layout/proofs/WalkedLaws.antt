-- If a walk passes, a graph is seen, under any names that keep the objects apart.
use Rattle.std.proofs.Common.{◌≡◌, ℕ, zero, suc, ◌+◌, inl, inr, Bool, true, false, cond, List, [], ◌∷◌, map, Option, Some, None, unwrap_or, refl, sym, ap, ◌∙◌, subst, arith}
use Rattle.std.specs.Prelude.{slice_get, Contains}
use Rattle.std.specs.Option.{option_and_then}
use Rattle.std.specs.Ordering.{eq_by_cmp}
use Rattle.std.specs.FinMap.{get, empty, insert, get-insert}
use Rattle.std.proofs.lemmas.Option.{same_Some}
use Rattle.std.proofs.lemmas.List.{get_or-take}
use Rattle.heap_words.specs.declared.Word.{Word}
use Rattle.heap_words.specs.declared.Word.TheVariants as word
use Rattle.heap_words.specs.Word.{meaning}
use Rattle.heap_words.specs.Header.{birth_bits}
use Rattle.heap_words.proofs.HeaderLaws.{birth_bits-born}
use Rattle.graph_model.specs.declared.id.Id.{Id}
use Rattle.graph_model.specs.declared.val.Val.{Val}
use Rattle.graph_model.specs.declared.val.Val.TheVariants.{Null, Ref}
use Rattle.graph_model.specs.Graph.{Graph, id_cmp, root}
use Rattle.graph_model.proofs.Whole.Graph.{tied_ids}
use Rattle.graph_model.proofs.Whole.Root.{id_cmp_total, id_cmp_itself}
use Rattle.object_layout.specs.Layout.{object_at, field_words, birth_at, id_of, id_at, stand, referred, as_ref, value, values, IsMet, at_start, along, IsSeenAs, IsSeen}
use Rattle.object_layout.proofs.LayoutLaws.{stand_object}
use Rattle.object_layout.specs.Walk.{used_words, AreEndToEnd, IsInside, IsWalked, HaveOwnBirths}
use Rattle.object_layout.proofs.WalkLaws.{Contains-head, Contains-rest, Contains-cases, Contains-none, object_take, object_take_end}

-- each of these objects stands
pub end_to_end_object : (words : List ℕ) (from : ℕ) (starts : List ℕ) (end at : ℕ) → AreEndToEnd words from starts end → Contains starts at
    → (n : ℕ) × (object_at words at ≡ Some n)
end_to_end_object words from [] end at objects has = absurd (Contains-none at has)
end_to_end_object words from (a ∷ rest) end at (n, same, object, more) has = elim (Contains-cases a rest at has) [
  | inl here ↦ (n, ap (object_at words) (sym here) ∙ object)
  | inr later ↦ end_to_end_object words (a + 2 + n) rest end at more later
]

-- an object of a walk stands at its own address
pub walked_stand : (words : List ℕ) (base used at : ℕ) (walked : IsWalked words base used) → Contains walked.starts at → stand words at ≡ Some at
walked_stand words base used at walked has =
    let object = end_to_end_object (used_words words base used) base walked.starts (base + used) at walked.filled.objects has in
    stand_object words at object.0 (object_take words (base + used) at object.0 object.1)

first_start : (words : List ℕ) (base used : ℕ) (starts : List ℕ) → object_at (used_words words base used) base ≡ Some 4 → AreEndToEnd (used_words words base used) base starts (base + used)
    → Contains starts base
first_start words base used [] root objects = let end = object_take_end words (base + used) base 4 root in absurd (omega arith)
first_start words base used (a ∷ rest) root (n, same, object, more) = subst (λ (x : ℕ). Contains (a ∷ rest) x) same (Contains-head a rest)

-- the root is an object of the walk
pub walked_base : (words : List ℕ) (base used : ℕ) (walked : IsWalked words base used) → Contains walked.starts base
walked_base words base used walked = first_start words base used walked.starts walked.filled.root.length walked.filled.objects

inside_referred : (words : List ℕ) (base used : ℕ) (walked : IsWalked words base used) (meant : Option Word) (target : ℕ)
    → IsInside walked.starts meant → referred words meant ≡ Some target → Contains walked.starts target
inside_referred words base used walked None target inside leads = absurd inside
inside_referred words base used walked (Some word.Null) target inside leads = cc
inside_referred words base used walked (Some (word.Int n)) target inside leads = cc
inside_referred words base used walked (Some (word.Volatile k)) target inside leads = cc
inside_referred words base used walked (Some (word.Stable b)) target inside leads =
    subst (λ (x : ℕ). Contains walked.starts x) (same_Some b target (sym (walked_stand words base used b walked inside) ∙ leads)) inside

-- what is met from the base is an object of the walk
pub walked_met : (words : List ℕ) (base used : ℕ) (walked : IsWalked words base used) (at : ℕ) → IsMet words base at → Contains walked.starts at
walked_met words base used walked at (at_start is) =
    let has = walked_base words base used walked in
    subst (λ (x : ℕ). Contains walked.starts x) (same_Some base at (sym (walked_stand words base used base walked has) ∙ is)) has
walked_met words base used walked at (along {at = a} i w target met is leads) =
    let has = walked_met words base used walked a met in
    inside_referred words base used walked (meaning w) target (walked.inside a has i w is) leads

-- the values of fields of which each has one
abbrev pub found : Option Val → Val
found v = unwrap_or v Null

-- the values of the fields of the object at an address
abbrev pub values_found : (ℕ → Id) → List ℕ → ℕ → List Val
values_found name words at = map found (values name words at)

-- the graph of these objects
abbrev pub gathered : (ℕ → Id) → List ℕ → List ℕ → Graph
gathered name words [] = empty
gathered name words (a ∷ rest) = insert (gathered name words rest) (name a) (values_found name words a)

-- these names keep these objects apart
abbrev pub KeepApart : (ℕ → Id) → List ℕ → Type 0
KeepApart name starts = (a b : ℕ) → Contains starts a → Contains starts b → name a ≡ name b → a ≡ b

gathered_pick : (name : ℕ → Id) (words : List ℕ) (a at : ℕ) (rest : List ℕ) (t : Bool) (kept : Option (List Val)) → eq_by_cmp id_cmp (name at) (name a) ≡ t
    → KeepApart name (a ∷ rest) → Contains (a ∷ rest) at → (Contains rest at → kept ≡ Some (values_found name words at))
    → cond t (Some (values_found name words a)) kept ≡ Some (values_found name words at)
gathered_pick name words a at rest true kept is apart has later =
    ap (λ x. Some (values_found name words x)) (apart a at (Contains-head a rest) has (sym (tied_ids (name at) (name a) is)))
gathered_pick name words a at rest false kept is apart has later = elim (Contains-cases a rest at has) [
  | inl here ↦ let clash = sym is ∙ ap (λ x. eq_by_cmp id_cmp (name at) (name x)) here ∙ id_cmp_itself (name at) in cc
  | inr behind ↦ later behind
]

-- each of them is in it, with these fields
pub gathered_get : (name : ℕ → Id) (words : List ℕ) (starts : List ℕ) (at : ℕ) → KeepApart name starts → Contains starts at
    → get (gathered name words starts) (name at) ≡ Some (values_found name words at)
gathered_get name words [] at apart has = absurd (Contains-none at has)
gathered_get name words (a ∷ rest) at apart has =
    get-insert id_cmp_total (gathered name words rest) (name a) (values_found name words a) (name at)
    ∙ gathered_pick name words a at rest (eq_by_cmp id_cmp (name at) (name a)) _ refl apart has
    (gathered_get name words rest at (λ x y one other. apart x y (Contains-rest a rest x one) (Contains-rest a rest y other)))

inside_value : (name : ℕ → Id) (words : List ℕ) (base used : ℕ) (walked : IsWalked words base used) (meant : Option Word) → IsInside walked.starts meant
    → value name words meant ≡ Some (found (value name words meant))
inside_value name words base used walked None inside = absurd inside
inside_value name words base used walked (Some word.Null) inside = refl
inside_value name words base used walked (Some (word.Int n)) inside = refl
inside_value name words base used walked (Some (word.Volatile k)) inside = absurd inside
inside_value name words base used walked (Some (word.Stable b)) inside =
    let is : value name words (Some (word.Stable b)) ≡ Some (Ref (name b)) = ap (option_and_then (as_ref name)) (walked_stand words base used b walked inside) in
    is ∙ ap Some (sym (ap found is))

all_found : (name : ℕ → Id) (words ws : List ℕ) → ((i w : ℕ) → slice_get ws i ≡ Some w → value name words (meaning w) ≡ Some (found (value name words (meaning w))))
    → map (λ w. value name words (meaning w)) ws ≡ map Some (map found (map (λ w. value name words (meaning w)) ws))
all_found name words [] each = refl
all_found name words (w ∷ ws) each =
    ap (λ v. v ∷ map (λ x. value name words (meaning x)) ws) (each zero w refl)
    ∙ ap (λ vs. Some (found (value name words (meaning w))) ∷ vs) (all_found name words ws (λ i. each (suc i)))

-- If a walk passes, the graph of its objects is seen from its base, if the base has the root's name and the names keep the objects apart.
pub gathered_seen_as : (name : ℕ → Id) (words : List ℕ) (base used : ℕ) (walked : IsWalked words base used) → name base ≡ root → KeepApart name walked.starts
    → IsSeenAs name words base (gathered name words walked.starts)
gathered_seen_as name words base used walked named apart = record {
  first = base;
  stands = walked_stand words base used base walked (walked_base words base used walked);
  named = named;
  known = λ at met.
      let has = walked_met words base used walked at met in
      record {
        fields = values_found name words at;
        is = gathered_get name words walked.starts at apart has;
        values = all_found name words (field_words words at) (λ i w is. inside_value name words base used walked (meaning w) (walked.inside at has i w is));
      };
  apart = λ a b one other. apart a b (walked_met words base used walked a one) (walked_met words base used walked b other);
}

-- So a graph is seen.
pub walked_seen_as : (name : ℕ → Id) (words : List ℕ) (base used : ℕ) (walked : IsWalked words base used) → name base ≡ root → KeepApart name walked.starts
    → (g : Graph) × IsSeenAs name words base g
walked_seen_as name words base used walked named apart = (gathered name words walked.starts, gathered_seen_as name words base used walked named apart)

same_birth : (b c : ℕ) → id_of b ≡ id_of c → b ≡ c
same_birth b c same =
    sym (birth_bits-born b) ∙ ap (λ (x : Id). birth_bits x.t x.k) same ∙ birth_bits-born c

-- births that differ keep objects apart
pub births_apart : (words : List ℕ) (starts : List ℕ) → HaveOwnBirths words starts → KeepApart (id_at words) starts
births_apart words starts own a b one other same = own a b one other (same_birth (birth_at words a) (birth_at words b) same)

-- the base has the root's birth
pub base_named : (words : List ℕ) (base used : ℕ) → IsWalked words base used → id_at words base ≡ root
base_named words base used walked =
    let end = object_take_end words (base + used) base 4 walked.filled.root.length in
    let birth : birth_at words base ≡ 0 = sym (get_or-take (base + used) words (base + 1) 0 (omega arith)) ∙ walked.filled.root.birth in
    ap id_of birth

-- If a walk passes and births differ, a graph is seen.
pub walked_seen : (words : List ℕ) (base used : ℕ) (walked : IsWalked words base used) → HaveOwnBirths words walked.starts → (g : Graph) × IsSeen words base g
walked_seen words base used walked own =
    walked_seen_as (id_at words) words base used walked (base_named words base used walked) (births_apart words walked.starts own)
