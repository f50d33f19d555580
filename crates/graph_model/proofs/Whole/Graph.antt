-- Laws of ids, and of graphs in which one object is written.
use Rattle.std.proofs.Common.{◌≡◌, ◌≢◌, ◌⊎◌, inl, inr, ℕ, Bool, true, false, cond, List, [], Option, Some, unwrap_or, refl, sym, ap, ◌∙◌, subst}
use Rattle.std.specs.Prelude.{◌&&◌, nat_eq}
use Rattle.std.specs.Cmp.{IsTotalOrder, nat_cmp_total}
use Rattle.std.specs.Ordering.{eq_by_cmp, is_eq, nat_cmp}
use Rattle.std.specs.declared.cmp.Ordering.{Ordering}
use Rattle.std.specs.declared.cmp.Ordering.TheVariants.{Less, Equal, Greater}
use Rattle.std.specs.FinMap.{IsAntisymmetric, get, insert, get-insert, same_map}
use Rattle.std.proofs.lemmas.Bool.{and_parts, eqb-true, eq-eqb}
use Rattle.std.proofs.lemmas.Cmp.{on_total, then_total, tied_itself}
use Rattle.std.proofs.lemmas.Map.Lookups.{exact_pairs, exact_unsigned}
use Rattle.graph_model.specs.declared.id.Id.{Id}
use Rattle.graph_model.specs.declared.val.Val.{Val}
use Rattle.graph_model.specs.Graph.{Graph, id_cmp, is_same_id, fields}

-- ids are ordered totally
pub id_cmp_total : IsTotalOrder id_cmp
id_cmp_total = then_total (on_total (λ (a : Id). a.t) nat_cmp_total) (on_total (λ (a : Id). a.k) nat_cmp_total)

-- ids that compare alike are one
pub id_cmp-IsAntisymmetric : IsAntisymmetric id_cmp
id_cmp-IsAntisymmetric a b h = ap (λ (p : ℕ × ℕ). record { t = p.0; k = p.1 }) (exact_pairs nat_cmp nat_cmp exact_unsigned exact_unsigned (a.t, a.k) (b.t, b.k) h)

-- an id compares alike with itself
pub id_cmp_itself : (id : Id) → eq_by_cmp id_cmp id id ≡ true
id_cmp_itself id = ap is_eq (tied_itself id_cmp_total id)

is_equal : (r : Ordering) → is_eq r ≡ true → r ≡ Equal
is_equal Less is = cc
is_equal Equal is = refl
is_equal Greater is = cc

-- ids for which the test of the order says so are one
pub tied_ids : (x y : Id) → eq_by_cmp id_cmp x y ≡ true → x ≡ y
tied_ids x y is = id_cmp-IsAntisymmetric x y (is_equal (id_cmp x y) is)

one_or_other : (x y : Id) (b : Bool) → eq_by_cmp id_cmp x y ≡ b → (x ≡ y) ⊎ (x ≢ y)
one_or_other x y true is = inl (tied_ids x y is)
one_or_other x y false is = inr (λ e. let clash = sym is ∙ ap (λ z. eq_by_cmp id_cmp z y) e ∙ id_cmp_itself y in cc)

-- two ids are one, or they are not
pub same_or_other : (x y : Id) → (x ≡ y) ⊎ (x ≢ y)
same_or_other x y = one_or_other x y (eq_by_cmp id_cmp x y) refl

-- ids that test alike are one
pub same_id : (a b : Id) → is_same_id a b ≡ true → a ≡ b
same_id a b e =
    let parts = and_parts (nat_eq a.t b.t) (nat_eq a.k b.k) e in
    ap (λ t. record { t = t; k = a.k }) (eqb-true a.t b.t parts.0) ∙ ap (λ k. record { t = b.t; k = k }) (eqb-true a.k b.k parts.1)

-- an id tests alike with itself
pub itself : (a : Id) → is_same_id a a ≡ true
itself a = ap (λ x. x && nat_eq a.k a.k) (eq-eqb a.t a.t refl) ∙ eq-eqb a.k a.k refl

-- what is at an object's name once it has been written
pub get-insert_same : (g : Graph) (id : Id) (vs : List Val) → get (insert g id vs) id ≡ Some vs
get-insert_same g id vs = get-insert id_cmp_total g id vs id ∙ ap (λ b. cond b (Some vs) (get g id)) (id_cmp_itself id)

untied : (q id : Id) (b : Bool) → eq_by_cmp id_cmp q id ≡ b → q ≢ id → b ≡ false
untied q id true is other = absurd (other (tied_ids q id is))
untied q id false is other = refl

-- what is at another name
pub get-insert_other : (g : Graph) (id q : Id) (vs : List Val) → q ≢ id → get (insert g id vs) q ≡ get g q
get-insert_other g id q vs other =
    get-insert id_cmp_total g id vs q ∙ ap (λ b. cond b (Some vs) (get g q)) (untied q id (eq_by_cmp id_cmp q id) refl other)

-- the fields of an object that was just written are those that were written
pub fields-insert : (g : Graph) (id : Id) (vs : List Val) → fields (insert g id vs) id ≡ vs
fields-insert g id vs = ap (λ o. unwrap_or o []) (get-insert_same g id vs)

-- the fields of another object
pub fields-insert_other : (g : Graph) (id q : Id) (vs : List Val) → q ≢ id → fields (insert g id vs) q ≡ fields g q
fields-insert_other g id q vs other = ap (λ o. unwrap_or o []) (get-insert_other g id q vs other)

-- what holds of the fields that were written, and of those of each other object, holds of an object's fields
pub fields_by_insert : (P : List Val → Type 0) (g : Graph) (id q : Id) (vs : List Val) → (q ≡ id → P vs) → (q ≢ id → P (fields g q)) → P (fields (insert g id vs) q)
fields_by_insert P g id q vs written kept =
    elim (same_or_other q id) [
      | inl same ↦ subst P (sym (ap (fields (insert g id vs)) same ∙ fields-insert g id vs)) (written same)
      | inr other ↦ subst P (sym (fields-insert_other g id q vs other)) (kept other)
    ]

-- the same for what is at a name
pub get_by_insert : (P : Option (List Val) → Type 0) (g : Graph) (id q : Id) (vs : List Val) → (q ≡ id → P (Some vs)) → (q ≢ id → P (get g q)) → P (get (insert g id vs) q)
get_by_insert P g id q vs written kept =
    elim (same_or_other q id) [
      | inl same ↦ subst P (sym (ap (get (insert g id vs)) same ∙ get-insert_same g id vs)) (written same)
      | inr other ↦ subst P (sym (get-insert_other g id q vs other)) (kept other)
    ]

twice : (b : Bool) (x y : Option (List Val)) (z : Option (List Val)) → cond b x (cond b y z) ≡ cond b x z
twice true x y z = refl
twice false x y z = refl

-- to write an object twice is to write it the second time
pub insert-insert : (g : Graph) (id : Id) (vs ws : List Val) → insert (insert g id vs) id ws ≡ insert g id ws
insert-insert g id vs ws = same_map id_cmp_total id_cmp-IsAntisymmetric _ _ (λ q.
    get-insert id_cmp_total (insert g id vs) id ws q
    ∙ ap (cond (eq_by_cmp id_cmp q id) (Some ws)) (get-insert id_cmp_total g id vs q)
    ∙ twice (eq_by_cmp id_cmp q id) (Some ws) (Some vs) (get g q)
    ∙ sym (get-insert id_cmp_total g id ws q))

swapped : (a b : Bool) (x y : Option (List Val)) (z : Option (List Val)) → (a ≡ true → b ≡ true → ⊥) → cond a x (cond b y z) ≡ cond b y (cond a x z)
swapped true true x y z apart = absurd (apart refl refl)
swapped true false x y z apart = refl
swapped false b x y z apart = refl

-- two objects may be written in either order
pub insert_comm : (g : Graph) (id other : Id) (vs ws : List Val) → id ≢ other → insert (insert g id vs) other ws ≡ insert (insert g other ws) id vs
insert_comm g id other vs ws apart = same_map id_cmp_total id_cmp-IsAntisymmetric _ _ (λ q.
    get-insert id_cmp_total (insert g id vs) other ws q
    ∙ ap (cond (eq_by_cmp id_cmp q other) (Some ws)) (get-insert id_cmp_total g id vs q)
    ∙ swapped (eq_by_cmp id_cmp q other) (eq_by_cmp id_cmp q id) (Some ws) (Some vs) (get g q) (λ a b. apart (sym (tied_ids q id b) ∙ tied_ids q other a))
    ∙ ap (cond (eq_by_cmp id_cmp q id) (Some vs)) (sym (get-insert id_cmp_total g other ws q))
    ∙ sym (get-insert id_cmp_total (insert g other ws) id vs q))
