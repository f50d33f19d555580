-- Holdings whose objects have moved.
use Rattle.std.proofs.Common.{◌≡◌, ℕ, Bool, true, List, [], ◌∷◌, ◌++◌, map, refl, sym, ap, ◌∙◌}
use Rattle.std.specs.Prelude.{◌||◌}
use Rattle.std.specs.List.{list_any}
use Rattle.std.specs.Ordering.{eq_by_cmp}
use Rattle.std.specs.FinSet.{contains, from_list, items, insert, contains-from_list, contains-items, from_list_push, same_set}
use Rattle.std.proofs.lemmas.List.{map-append}
use Rattle.object_locks.specs.declared.holding.Holding.{Holding}
use Rattle.object_locks.specs.Holdings.{Holdings, holding_cmp, moved_with, rekeyed}
use Rattle.object_locks.proofs.Orders.{holding_total, holding_exact}
use Rattle.object_locks.proofs.Sets.{same_bool, any_witness, any_of}

-- a test of what the keys became
any_map : (f : Holding → Holding) (p : Holding → Bool) (hs : List Holding) → list_any p (map f hs) ≡ list_any (λ h. p (f h)) hs
any_map f p [] = refl
any_map f p (h ∷ hs) = ap (λ b. p (f h) || b) (any_map f p hs)

-- lists with the same holdings become lists with the same holdings
same_moved : (f : Holding → Holding) (hs gs : List Holding) → ((q : Holding) → list_any (eq_by_cmp holding_cmp q) hs ≡ list_any (eq_by_cmp holding_cmp q) gs) → (p : Holding → Bool) → list_any p (map f hs) ≡ true
    → list_any p (map f gs) ≡ true
same_moved f hs gs same p e =
    let w = any_witness holding_total holding_exact (λ h. p (f h)) hs (sym (any_map f p hs) ∙ e) in
    any_map f p gs ∙ any_of holding_total holding_exact (λ h. p (f h)) gs w.0 (sym (same w.0) ∙ w.1) w.2

-- the holdings of a tree, moved, are those that contracts see, moved
pub moved_all : (pairs : List (ℕ × ℕ)) (hs : List Holding) (held : Holdings) → from_list hs ≡ held → from_list {R = holding_cmp} (map (moved_with pairs) hs) ≡ rekeyed pairs held
moved_all pairs hs held is =
    let same : (q : Holding) → list_any (eq_by_cmp holding_cmp q) hs ≡ list_any (eq_by_cmp holding_cmp q) (items held) = λ q.
    sym (contains-from_list holding_total hs q) ∙ ap (λ s. contains s q) is ∙ contains-items held q in
    same_set holding_total holding_exact _ _ (λ q.
    contains-from_list holding_total (map (moved_with pairs) hs) q
    ∙ same_bool _ _
    (same_moved (moved_with pairs) hs (items held) same (eq_by_cmp holding_cmp q))
    (same_moved (moved_with pairs) (items held) hs (λ x. sym (same x)) (eq_by_cmp holding_cmp q))
    ∙ sym (contains-from_list holding_total (map (moved_with pairs) (items held)) q))

-- one more holding
pub moved_more : (pairs : List (ℕ × ℕ)) (hs : List Holding) (h g : Holding) (table : Holdings) → table ≡ from_list (map (moved_with pairs) hs) → g ≡ moved_with pairs h
    → insert table g ≡ from_list (map (moved_with pairs) (hs ++ h ∷ []))
moved_more pairs hs h g table is same =
    ap (λ t. insert t g) is
    ∙ ap (λ x. insert (from_list (map (moved_with pairs) hs)) x) same
    ∙ sym (from_list_push holding_total holding_exact (map (moved_with pairs) hs) (moved_with pairs h))
    ∙ ap (λ gs. from_list gs) (sym (map-append (moved_with pairs) hs (h ∷ [])))
