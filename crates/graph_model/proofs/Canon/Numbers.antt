-- Laws of the canon: what is numbered is reached from the root, and has one number.
use Rattle.std.proofs.Common.{◌≡◌, ℕ, ◌+◌, zero, suc, Bool, true, false, List, [], ◌∷◌, ◌++◌, Option, Some, None, refl, sym, ap, ◌∙◌}
use Rattle.std.specs.Prelude.{nat_eq, ◌&&◌, slice_get, IfSome, if◌then◌else◌}
use Rattle.std.specs.List.{All, AllByRecursion, IsDistinct, list_any}
use Rattle.std.specs.FinMap.{len}
use Rattle.std.proofs.Math.Dec.{eqb-zero-suc, eqb-suc-zero, eqb-suc-suc}
use Rattle.std.proofs.lemmas.Bool.{or_parts}
use Rattle.std.proofs.lemmas.List.Elements.{All-nil, All-cons, All-push, recursion_from_All}
use Rattle.graph_model.specs.declared.id.Id.{Id}
use Rattle.graph_model.specs.declared.val.Val.{Val}
use Rattle.graph_model.specs.declared.val.Val.TheVariants.{Null, Int, Ref}
use Rattle.graph_model.specs.Graph.{Graph, is_same_id, root, fields}
use Rattle.graph_model.specs.Canon.{Reached, at_root, along, with_target, with_targets, visit, numbered}

-- each reference among the fields leads to what is reached
abbrev pub LeadOn : Graph → List Val → Type 0
LeadOn g vs = (i : ℕ) (target : Id) → slice_get vs i ≡ Some (Ref target) → Reached g target

added-Reached : (g : Graph) (b : Bool) (ids : List Id) (id : Id) → Reached g id → All (Reached g) ids → All (Reached g) (if b then ids else ids ++ id ∷ [])
added-Reached g true ids id reached all = all
added-Reached g false ids id reached all = All-push (Reached g) ids id all reached

with_target-Reached : (g : Graph) (ids : List Id) (v : Val) → ((target : Id) → v ≡ Ref target → Reached g target) → All (Reached g) ids → All (Reached g) (with_target ids v)
with_target-Reached g ids Null leads all = all
with_target-Reached g ids (Int n) leads all = all
with_target-Reached g ids (Ref id) leads all = added-Reached g (list_any (is_same_id id) ids) ids id (leads id refl) all

with_targets-Reached : (g : Graph) (ids : List Id) (vs : List Val) → LeadOn g vs → All (Reached g) ids → All (Reached g) (with_targets ids vs)
with_targets-Reached g ids [] leads all = all
with_targets-Reached g ids (v ∷ vs) leads all =
    with_targets-Reached g (with_target ids v) vs (λ i. leads (suc i))
    (with_target-Reached g ids v (λ target is. leads zero target (ap Some is)) all)

slice_get-Reached : (g : Graph) (ids : List Id) (i : ℕ) → AllByRecursion (Reached g) ids → IfSome (slice_get ids i) (Reached g)
slice_get-Reached g [] i all = tt
slice_get-Reached g (id ∷ ids) zero all = all.0
slice_get-Reached g (id ∷ ids) (suc i) all = slice_get-Reached g ids i all.1

visit-Reached : (g : Graph) (turns i : ℕ) (next : Option Id) (ids : List Id) → IfSome next (Reached g) → All (Reached g) ids → All (Reached g) (visit g turns i next ids)
visit-Reached g zero i next ids reached all = all
visit-Reached g (suc turns) i None ids reached all = all
visit-Reached g (suc turns) i (Some id) ids reached all =
    let more = with_targets ids (fields g id) in
    let all_more = with_targets-Reached g ids (fields g id) (λ k target leads. along k target reached leads) all in
    visit-Reached g turns (i + 1) (slice_get more (i + 1)) more (slice_get-Reached g more (i + 1) (recursion_from_All (Reached g) more all_more)) all_more

-- what is numbered is reached from the root
pub numbered-Reached : (g : Graph) → All (Reached g) (numbered g)
numbered-Reached g = visit-Reached g (len g) 0 (Some root) (root ∷ []) at_root (All-cons (Reached g) root [] at_root (All-nil (Reached g)))

eqb_flip : (a b : ℕ) → nat_eq a b ≡ nat_eq b a
eqb_flip zero zero = refl
eqb_flip zero (suc b) = eqb-zero-suc b ∙ sym (eqb-suc-zero b)
eqb_flip (suc a) zero = eqb-suc-zero a ∙ sym (eqb-zero-suc a)
eqb_flip (suc a) (suc b) = eqb-suc-suc a b ∙ eqb_flip a b ∙ sym (eqb-suc-suc b a)

-- the test of two ids is the same from either side
pub same_flip : (a b : Id) → is_same_id a b ≡ is_same_id b a
same_flip a b = ap (λ (x : Bool). x && nat_eq a.k b.k) (eqb_flip a.t b.t) ∙ ap (λ (x : Bool). nat_eq b.t a.t && x) (eqb_flip a.k b.k)

AllByRecursion-push : (P : Id → Type 0) (ids : List Id) (id : Id) → AllByRecursion P ids → P id → AllByRecursion P (ids ++ id ∷ [])
AllByRecursion-push P [] id all p = (p, tt)
AllByRecursion-push P (x ∷ xs) id all p = (all.0, AllByRecursion-push P xs id all.1 p)

-- an id that is new
IsDistinct-push : (ids : List Id) (id : Id) → list_any (is_same_id id) ids ≡ false → IsDistinct is_same_id ids → IsDistinct is_same_id (ids ++ id ∷ [])
unfolding IsDistinct
IsDistinct-push [] id new distinct = (tt, tt)
IsDistinct-push (x ∷ xs) id new distinct =
    let parts = or_parts (is_same_id id x) (list_any (is_same_id id) xs) new in (
      AllByRecursion-push (λ y. is_same_id x y ≡ false) xs id distinct.0 (same_flip x id ∙ parts.0),
      IsDistinct-push xs id parts.1 distinct.1,
    )

added-IsDistinct : (b : Bool) (ids : List Id) (id : Id) → list_any (is_same_id id) ids ≡ b → IsDistinct is_same_id ids → IsDistinct is_same_id (if b then ids else ids ++ id ∷ [])
added-IsDistinct true ids id is distinct = distinct
added-IsDistinct false ids id is distinct = IsDistinct-push ids id is distinct

with_targets-IsDistinct : (ids : List Id) (vs : List Val) → IsDistinct is_same_id ids → IsDistinct is_same_id (with_targets ids vs)
with_targets-IsDistinct ids [] distinct = distinct
with_targets-IsDistinct ids (Null ∷ vs) distinct = with_targets-IsDistinct ids vs distinct
with_targets-IsDistinct ids (Int n ∷ vs) distinct = with_targets-IsDistinct ids vs distinct
with_targets-IsDistinct ids (Ref id ∷ vs) distinct =
    with_targets-IsDistinct (with_target ids (Ref id)) vs (added-IsDistinct (list_any (is_same_id id) ids) ids id refl distinct)

visit-IsDistinct : (g : Graph) (turns i : ℕ) (next : Option Id) (ids : List Id) → IsDistinct is_same_id ids → IsDistinct is_same_id (visit g turns i next ids)
visit-IsDistinct g zero i next ids distinct = distinct
visit-IsDistinct g (suc turns) i None ids distinct = distinct
visit-IsDistinct g (suc turns) i (Some id) ids distinct =
    let more = with_targets ids (fields g id) in
    visit-IsDistinct g turns (i + 1) (slice_get more (i + 1)) more (with_targets-IsDistinct ids (fields g id) distinct)

-- no id is numbered twice
pub numbered-IsDistinct : (g : Graph) → IsDistinct is_same_id (numbered g)
unfolding IsDistinct
numbered-IsDistinct g = visit-IsDistinct g (len g) 0 (Some root) (root ∷ []) (tt, tt)
