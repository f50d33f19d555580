-- Laws of finite maps from numbers: what stands at a key after a change, which changes are the same, and sums over the entries.
use Rattle.std.proofs.Common.{◌≡◌, ◌≢◌, ℕ, ◌+◌, Bool, true, false, cond, List, [], ◌∷◌, length, Option, None, Some, Ordering, Less, Equal, Greater, refl, sym, ap, subst, ◌∙◌, arith}
use Rattle.std.specs.Prelude.{T, ◌&&◌}
use Rattle.std.specs.List.{AllByRecursion}
use Rattle.std.specs.Ordering.{nat_cmp, eq_by_cmp, is_eq, is_lt}
use Rattle.std.specs.Cmp.{nat_cmp_total}
use Rattle.std.proofs.lemmas.Cmp.{tied_itself}
use Rattle.std.proofs.lemmas.List.Sums.{sum_by-cons}
use Rattle.std.specs.FinMap.Entries.{below_all, by_order}
use Rattle.std.specs.FinMap.{FinMap, empty, get, insert, remove, entries, entries_sorted, from_sorted, find, put, is_sorted, same_map, get-insert, get-remove, get-empty, get-entries, len-entries, len-empty, empty_of_len, get-from_sorted, entries-from_sorted, entries-insert, nat_cmp-IsAntisymmetric}
use Rattle.log_machine.specs.Entries.{sum_over, EachKeyed}

-- one key ties with another only where it is that
pub tied : (q k : ℕ) → eq_by_cmp nat_cmp q k ≡ true → q ≡ k
tied q k e = grind (arith)

pub itself : (k : ℕ) → eq_by_cmp nat_cmp k k ≡ true
itself k = ap is_eq (tied_itself nat_cmp_total k)

apart_from : (q k : ℕ) (b : Bool) → eq_by_cmp nat_cmp q k ≡ b → q ≢ k → b ≡ false
apart_from q k true e other = absurd (other (tied q k e))
apart_from q k false e other = refl

pub apart : (q k : ℕ) → q ≢ k → eq_by_cmp nat_cmp q k ≡ false
apart q k other = apart_from q k _ refl other

-- a choice inside the same choice
twice : {A : Type 0} (b : Bool) (x y z : A) → cond b x (cond b y z) ≡ cond b x z
twice true x y z = refl
twice false x y z = refl

first_of_both : (a b : Bool) → T (a && b) → T a
first_of_both true b h = tt
first_of_both false b h = absurd h

second_of_both : (a b : Bool) → T (a && b) → T b
second_of_both true b h = h
second_of_both false b h = absurd h

lost : {A : Type 0} (r : Ordering) (x y : Option A) → T (is_lt r) → y ≡ None → cond (is_eq r) x y ≡ None
lost Less x y below none = none
lost Equal x y below none = absurd below
lost Greater x y below none = absurd below

module _ {X : Type 0} where
  -- a key that is not in the rest
  skipped : (q k : ℕ) (rest : List (ℕ × X)) (v : X) (b : Bool) → eq_by_cmp nat_cmp q k ≡ b → find nat_cmp k rest ≡ None → cond b None (cond b (Some v) (find nat_cmp q rest)) ≡ find nat_cmp q rest
  skipped q k rest v true e none = sym none ∙ ap (λ n. find nat_cmp n rest) (sym (tied q k e))
  skipped q k rest v false e none = refl

  pub get_inserted : (m : FinMap nat_cmp X) (k : ℕ) (v : X) → get (insert m k v) k ≡ Some v
  get_inserted m k v = get-insert nat_cmp_total m k v k ∙ ap (λ b. cond b (Some v) (get m k)) (itself k)

  pub get_beside : (m : FinMap nat_cmp X) (k : ℕ) (v : X) (q : ℕ) → q ≢ k → get (insert m k v) q ≡ get m q
  get_beside m k v q other = get-insert nat_cmp_total m k v q ∙ ap (λ b. cond b (Some v) (get m q)) (apart q k other)

  pub get_removed : (m : FinMap nat_cmp X) (k : ℕ) → get (remove m k) k ≡ None
  get_removed m k = get-remove nat_cmp_total m k k ∙ ap (λ b. cond b None (get m k)) (itself k)

  pub get_kept : (m : FinMap nat_cmp X) (k q : ℕ) → q ≢ k → get (remove m k) q ≡ get m q
  get_kept m k q other = get-remove nat_cmp_total m k q ∙ ap (λ b. cond b None (get m q)) (apart q k other)

  pub insert_insert : (m : FinMap nat_cmp X) (k : ℕ) (v w : X) → insert (insert m k v) k w ≡ insert m k w
  insert_insert m k v w = same_map nat_cmp_total nat_cmp-IsAntisymmetric _ _ (λ q.
      get-insert nat_cmp_total (insert m k v) k w q
      ∙ ap (λ x. cond (eq_by_cmp nat_cmp q k) (Some w) x) (get-insert nat_cmp_total m k v q)
      ∙ twice (eq_by_cmp nat_cmp q k) (Some w) (Some v) (get m q)
      ∙ sym (get-insert nat_cmp_total m k w q))

  pub remove_insert : (m : FinMap nat_cmp X) (k : ℕ) (v : X) → remove (insert m k v) k ≡ remove m k
  remove_insert m k v = same_map nat_cmp_total nat_cmp-IsAntisymmetric _ _ (λ q.
      get-remove nat_cmp_total (insert m k v) k q
      ∙ ap (λ x. cond (eq_by_cmp nat_cmp q k) None x) (get-insert nat_cmp_total m k v q)
      ∙ twice (eq_by_cmp nat_cmp q k) None (Some v) (get m q)
      ∙ sym (get-remove nat_cmp_total m k q))

  pub insert_remove : (m : FinMap nat_cmp X) (k : ℕ) (v : X) → insert (remove m k) k v ≡ insert m k v
  insert_remove m k v = same_map nat_cmp_total nat_cmp-IsAntisymmetric _ _ (λ q.
      get-insert nat_cmp_total (remove m k) k v q
      ∙ ap (λ x. cond (eq_by_cmp nat_cmp q k) (Some v) x) (get-remove nat_cmp_total m k q)
      ∙ twice (eq_by_cmp nat_cmp q k) (Some v) None (get m q)
      ∙ sym (get-insert nat_cmp_total m k v q))

  pub remove_remove : (m : FinMap nat_cmp X) (k : ℕ) → remove (remove m k) k ≡ remove m k
  remove_remove m k = same_map nat_cmp_total nat_cmp-IsAntisymmetric _ _ (λ q.
      get-remove nat_cmp_total (remove m k) k q
      ∙ ap (λ x. cond (eq_by_cmp nat_cmp q k) None x) (get-remove nat_cmp_total m k q)
      ∙ twice (eq_by_cmp nat_cmp q k) None None (get m q)
      ∙ sym (get-remove nat_cmp_total m k q))

  -- where a choice changes nothing
  stays : (q k : ℕ) (m : FinMap nat_cmp X) (x : Option X) (b : Bool) → eq_by_cmp nat_cmp q k ≡ b → get m k ≡ x → cond b x (get m q) ≡ get m q
  stays q k m x true e is = sym is ∙ ap (λ n. get m n) (sym (tied q k e))
  stays q k m x false e is = refl

  pub remove_absent : (m : FinMap nat_cmp X) (k : ℕ) → get m k ≡ None → remove m k ≡ m
  remove_absent m k none = same_map nat_cmp_total nat_cmp-IsAntisymmetric _ _ (λ q.
      get-remove nat_cmp_total m k q ∙ stays q k m None (eq_by_cmp nat_cmp q k) refl none)

  pub insert_known : (m : FinMap nat_cmp X) (k : ℕ) (v : X) → get m k ≡ Some v → insert m k v ≡ m
  insert_known m k v some = same_map nat_cmp_total nat_cmp-IsAntisymmetric _ _ (λ q.
      get-insert nat_cmp_total m k v q ∙ stays q k m (Some v) (eq_by_cmp nat_cmp q k) refl some)

  -- The first entry.
  -- what stands at the first key
  pub get_first : (m : FinMap nat_cmp X) (k : ℕ) (v : X) (rest : List (ℕ × X)) → entries m ≡ (k, v) ∷ rest → get m k ≡ Some v
  get_first m k v rest e = get-entries m k ∙ ap (λ es. find nat_cmp k es) e ∙ ap (λ b. cond b (Some v) (find nat_cmp k rest)) (itself k)

  -- no key of a list is one that is below all of them
  find_below : (k : ℕ) (rest : List (ℕ × X)) → T (below_all nat_cmp k rest) → find nat_cmp k rest ≡ None
  find_below k [] below = refl
  find_below k (e ∷ rest) below = lost (nat_cmp k e.0) (Some e.1) (find nat_cmp k rest) (first_of_both _ _ below) (find_below k rest (second_of_both _ _ below))

  -- without the first key the others are left
  pub remove_first : (m : FinMap nat_cmp X) (k : ℕ) (v : X) (rest : List (ℕ × X)) → entries m ≡ (k, v) ∷ rest → entries (remove m k) ≡ rest
  remove_first m k v rest e =
      let sorted : T (below_all nat_cmp k rest && is_sorted nat_cmp rest) = subst (λ es. T (is_sorted nat_cmp es)) e (entries_sorted m) in
      let in_order = second_of_both _ _ sorted in
      let gone = find_below k rest (first_of_both _ _ sorted) in
      let same : remove m k ≡ from_sorted rest = same_map nat_cmp_total nat_cmp-IsAntisymmetric _ _ (λ q.
      get-remove nat_cmp_total m k q
      ∙ ap (λ x. cond (eq_by_cmp nat_cmp q k) None x) (get-entries m q ∙ ap (λ es. find nat_cmp q es) e)
      ∙ skipped q k rest v (eq_by_cmp nat_cmp q k) refl gone
      ∙ sym (get-from_sorted nat_cmp rest q in_order)) in
      ap entries same ∙ entries-from_sorted nat_cmp rest in_order

module _ {X : Type 0} (f : X → ℕ) where
  placed : (k : ℕ) (v : X) (e : ℕ × X) (es put_in_rest : List (ℕ × X)) (r : Ordering) → nat_cmp k e.0 ≡ r → cond (is_eq r) (Some e.1) (find nat_cmp k es) ≡ None
      → (find nat_cmp k es ≡ None → sum_over f put_in_rest ≡ f v + sum_over f es)
      → sum_over f (by_order r ((k, v) ∷ e ∷ es) ((e.0, v) ∷ es) (e ∷ put_in_rest)) ≡ f v + sum_over f (e ∷ es)
  placed k v e es put_in_rest Less is none rest = sum_by-cons (λ (x : ℕ × X). f x.1) (k, v) (e ∷ es)
  placed k v e es put_in_rest Equal is none rest = absurd (cc none)
  placed k v e es put_in_rest Greater is none rest =
      let more = sum_by-cons (λ (x : ℕ × X). f x.1) e put_in_rest in
      let old = sum_by-cons (λ (x : ℕ × X). f x.1) e es in
      let new = rest none in
      omega arith

  -- one more entry
  sum-put : (k : ℕ) (v : X) (es : List (ℕ × X)) → find nat_cmp k es ≡ None → sum_over f (put nat_cmp k v es) ≡ f v + sum_over f es
  sum-put k v [] none = sum_by-cons (λ (x : ℕ × X). f x.1) (k, v) []
  sum-put k v (e ∷ es) none = placed k v e es (put nat_cmp k v es) (nat_cmp k e.0) refl none (λ gone. sum-put k v es gone)

  -- the sum with a key and its value is the sum without that key, and what f says of the value
  pub sum-insert : (m : FinMap nat_cmp X) (k : ℕ) (v : X) → sum_over f (entries (insert m k v)) ≡ f v + sum_over f (entries (remove m k))
  sum-insert m k v =
      ap (λ n. sum_over f (entries n)) (sym (insert_remove m k v))
      ∙ ap (λ es. sum_over f es) (entries-insert nat_cmp_total (remove m k) k v)
      ∙ sum-put k v (entries (remove m k)) (sym (get-entries (remove m k) k) ∙ get_removed m k)

  -- the sum without a key
  pub sum-remove : (m : FinMap nat_cmp X) (k : ℕ) (v : X) → get m k ≡ Some v → sum_over f (entries m) ≡ f v + sum_over f (entries (remove m k))
  sum-remove m k v some = ap (λ n. sum_over f (entries n)) (sym (insert_known m k v some)) ∙ sum-insert m k v

module _ {X : Type 0} (P : ℕ → X → Type 0) where
  pub each_empty : EachKeyed P empty
  each_empty k v some = absurd (cc (get-empty {X = X} nat_cmp k, some))

  removed_at : (m : FinMap nat_cmp X) (k q : ℕ) (v : X) (b : Bool) → EachKeyed P m → cond b None (get m q) ≡ Some v → P q v
  removed_at m k q v true each some = absurd (cc some)
  removed_at m k q v false each some = each q v some

  pub each_remove : (m : FinMap nat_cmp X) (k : ℕ) → EachKeyed P m → EachKeyed P (remove m k)
  each_remove m k each q v some = removed_at m k q v (eq_by_cmp nat_cmp q k) each (sym (get-remove nat_cmp_total m k q) ∙ some)

  inserted_at : (m : FinMap nat_cmp X) (k q : ℕ) (v w : X) (b : Bool) → eq_by_cmp nat_cmp q k ≡ b → P k v → EachKeyed P m → cond b (Some v) (get m q) ≡ Some w → P q w
  inserted_at m k q v w true e here each some = let same : v ≡ w = cc some in subst (λ n. P n w) (sym (tied q k e)) (subst (λ x. P k x) same here)
  inserted_at m k q v w false e here each some = each q w some

  pub each_insert : (m : FinMap nat_cmp X) (k : ℕ) (v : X) → P k v → EachKeyed P m → EachKeyed P (insert m k v)
  each_insert m k v here each q w some = inserted_at m k q v w (eq_by_cmp nat_cmp q k) refl here each (sym (get-insert nat_cmp_total m k v q) ∙ some)

-- no map with an entry is empty, and a map with none is
nothing_of_length : {A : Type 0} (xs : List A) → length xs ≡ 0 → xs ≡ []
nothing_of_length [] e = refl
nothing_of_length (x ∷ xs) e = absurd (omega arith)

pub entries_empty : (X : Type 0) → entries (empty {X = X} {R = nat_cmp}) ≡ []
entries_empty X = nothing_of_length _ (sym (len-entries (empty {X = X} {R = nat_cmp})) ∙ len-empty nat_cmp X)

module _ {X : Type 0} where
  pub empty_of_entries : (m : FinMap nat_cmp X) → entries m ≡ [] → m ≡ empty
  empty_of_entries m e = empty_of_len m (len-entries m ∙ ap length e)

  each_of : (P : ℕ → X → Type 0) (es : List (ℕ × X)) (m : FinMap nat_cmp X) → entries m ≡ es → EachKeyed P m → AllByRecursion (λ e. P e.0 e.1) es
  each_of P [] m is each = tt
  each_of P (e ∷ es) m is each = (each e.0 e.1 (get_first m e.0 e.1 es is), each_of P es (remove m e.0) (remove_first m e.0 e.1 es is) (each_remove P m e.0 each))

  -- what holds of each key and its value holds of each entry
  pub each_entry : (P : ℕ → X → Type 0) (m : FinMap nat_cmp X) → EachKeyed P m → AllByRecursion (λ e. P e.0 e.1) (entries m)
  each_entry P m each = each_of P (entries m) m refl each

  other_at : (P : ℕ → X → Type 0) (m : FinMap nat_cmp X) (k q : ℕ) (v : X) (b : Bool) → eq_by_cmp nat_cmp q k ≡ b → EachKeyed (λ q v. q ≢ k → P q v) m → cond b None (get m q) ≡ Some v → P q v
  other_at P m k q v true e each some = absurd (cc some)
  other_at P m k q v false e each some = each q v some (λ same. cc (e, itself k, same))

  -- and of each entry but one
  pub each_other : (P : ℕ → X → Type 0) (m : FinMap nat_cmp X) (k : ℕ) → EachKeyed (λ q v. q ≢ k → P q v) m → EachKeyed P (remove m k)
  each_other P m k each q v some = other_at P m k q v (eq_by_cmp nat_cmp q k) refl each (sym (get-remove nat_cmp_total m k q) ∙ some)
