-- Laws of closed graphs: transactions keep them closed, which objects are there, and that no object's length changes.
use Rattle.std.proofs.Common.{◌≡◌, ◌≢◌, ◌⊎◌, inl, inr, ℕ, zero, suc, ◌+◌, ◌<◌, ◌≤◌, List, [], ◌∷◌, length, replicate, Option, Some, None, unwrap_or, refl, sym, ap, ◌∙◌, subst, arith}
use Rattle.std.specs.Prelude.{slice_get, slice_set, slice_index_or}
use Rattle.std.specs.FinMap.{empty, get, insert, get-empty}
use Rattle.std.proofs.lemmas.Bool.{cases_lt}
use Rattle.std.proofs.lemmas.List.{length-set}
use Rattle.std.proofs.lemmas.Option.{same_Some}
use Rattle.graph_model.specs.declared.id.Id.{Id}
use Rattle.graph_model.specs.declared.val.Val.{Val}
use Rattle.graph_model.specs.declared.val.Val.TheVariants.{Null, Int, Ref}
use Rattle.graph_model.specs.declared.event.Event.{Event}
use Rattle.graph_model.specs.declared.event.Event.TheVariants.{Root, New, Put, Clear, Link, Drop, Get}
use Rattle.graph_model.specs.Graph.{Graph, id_cmp, root, fields, new_graph}
use Rattle.graph_model.proofs.Whole.Graph.{same_or_other, get-insert_same, get-insert_other, fields_by_insert, get_by_insert}
use Rattle.graph_model.specs.Canon.{at_root, along}
use Rattle.graph_model.specs.Transaction.{Registers, View, Transaction, held, fields_of, put_value, with_referred, next_id, make, write, reference_to, call, after_calls, fresh_view, run}
use Rattle.graph_model.proofs.Runs.History.{held-no_registers}
use Rattle.graph_model.specs.ClosedGraph.{IsThere, IsWhole, IsClosed, IsUnused}
use Rattle.graph_model.proofs.Whole.Names.{SeesClosed, IsNameOf}

-- each reference among these values leads to an object that is there
abbrev LeadTo : Graph → List Val → Type 0
LeadTo g vs = (i : ℕ) (target : Id) → slice_get vs i ≡ Some (Ref target) → IsThere g target

-- where a value was written among others, each of them is that value or stood there
pub slice_get-set_from : {X : Type 0} (xs : List X) (i j : ℕ) (x y : X) → slice_get (slice_set xs i x) j ≡ Some y → (x ≡ y) ⊎ (slice_get xs j ≡ Some y)
slice_get-set_from [] i j x y is = inr is
slice_get-set_from (z ∷ xs) zero zero x y is = inl (same_Some x y is)
slice_get-set_from (z ∷ xs) zero (suc j) x y is = inr is
slice_get-set_from (z ∷ xs) (suc i) zero x y is = inr is
slice_get-set_from (z ∷ xs) (suc i) (suc j) x y is = slice_get-set_from xs i j x y is

-- copies of a value are that value
pub slice_get-replicate : {X : Type 0} (n j : ℕ) (x y : X) → slice_get (replicate n x) j ≡ Some y → x ≡ y
slice_get-replicate zero j x y is = cc
slice_get-replicate (suc n) zero x y is = same_Some x y is
slice_get-replicate (suc n) (suc j) x y is = slice_get-replicate n j x y is

-- what a handle holds once one was set: that, or what it held
pub held-set_from : (rs : Registers) (h j : ℕ) (o : Option Id) (id : Id) → held (slice_set rs h o) j ≡ Some id → (o ≡ Some id) ⊎ (held rs j ≡ Some id)
held-set_from [] h j o id is = inr is
held-set_from (r ∷ rs) zero zero o id is = inl is
held-set_from (r ∷ rs) zero (suc j) o id is = inr is
held-set_from (r ∷ rs) (suc h) zero o id is = inr is
held-set_from (r ∷ rs) (suc h) (suc j) o id is = held-set_from rs h j o id is

held-with_referred_from : (rs : Registers) (h j : ℕ) (v : Val) (id : Id) → held (with_referred rs h v) j ≡ Some id → (v ≡ Ref id) ⊎ (held rs j ≡ Some id)
held-with_referred_from rs h j Null id is = inr is
held-with_referred_from rs h j (Int n) id is = inr is
held-with_referred_from rs h j (Ref x) id is =
    elim (held-set_from rs h j (Some x) id is) [
      | inl now ↦ inl (ap Ref (same_Some x id now))
      | inr was ↦ inr was
    ]

-- a reference to what a handle holds leads there
pub reference_to-Ref : (o : Option Id) (target : Id) → reference_to o ≡ Ref target → o ≡ Some target
reference_to-Ref None target is = cc
reference_to-Ref (Some id) target is = cc

-- a reference that is read stands in the field
pub slice_get_reference : (vs : List Val) (i : ℕ) (target : Id) → slice_index_or vs i Null ≡ Ref target → slice_get vs i ≡ Some (Ref target)
slice_get_reference [] i target is = cc
slice_get_reference (v ∷ vs) zero target is = ap Some is
slice_get_reference (v ∷ vs) (suc i) target is = slice_get_reference vs i target is

-- an object stays when one is written
pub IsThere-insert : (g : Graph) (id q : Id) (vs : List Val) → IsThere g q → IsThere (insert g id vs) q
IsThere-insert g id q vs there = get_by_insert (λ o. (us : List Val) × (o ≡ Some us)) g id q vs (λ same. (vs, refl)) (λ other. there)

-- and is the one that was written, or was there
pub there_insert : (g : Graph) (id q : Id) (vs : List Val) → IsThere (insert g id vs) q → (q ≡ id) ⊎ IsThere g q
there_insert g id q vs there =
    elim (same_or_other q id) [
      | inl same ↦ inl same
      | inr other ↦ inr (there.0, sym (get-insert_other g id q vs other) ∙ there.1)
    ]

IsThere-put_value : (g : Graph) (o : Option Id) (i : ℕ) (x : Val) (q : Id) → IsThere g q → IsThere (put_value g o i x) q
IsThere-put_value g None i x q there = there
IsThere-put_value g (Some id) i x q there = IsThere-insert g id q _ there

there_put_value : (g : Graph) (o : Option Id) (i : ℕ) (x : Val) (q : Id) → ((id : Id) → o ≡ Some id → IsThere g id) → IsThere (put_value g o i x) q → IsThere g q
there_put_value g None i x q holds there = there
there_put_value g (Some id) i x q holds there =
    elim (there_insert g id q _ there) [
      | inl same ↦ subst (IsThere g) (sym same) (holds id refl)
      | inr was ↦ was
    ]

-- an object is there, or there is none of that name
pub there_or_none : (g : Graph) (id : Id) → IsThere g id ⊎ (get g id ≡ None)
there_or_none g id = some_or_none (get g id) where
  some_or_none : (o : Option (List Val)) → ((vs : List Val) × (o ≡ Some vs)) ⊎ (o ≡ None)
  some_or_none None = inr refl
  some_or_none (Some vs) = inl (vs, refl)

-- a closed graph stays closed where an object is written whose references lead to objects that are there
pub IsClosed-insert : (g : Graph) (id : Id) (vs : List Val) → ((i : ℕ) (target : Id) → slice_get vs i ≡ Some (Ref target) → IsThere (insert g id vs) target)
    → IsClosed g → IsClosed (insert g id vs)
IsClosed-insert g id vs leads closed = record {
  root_there = IsThere-insert g id root vs closed.root_there;
  targets = λ q. fields_by_insert (LeadTo (insert g id vs)) g id q vs (λ same. leads) (λ other i target is. IsThere-insert g id target vs (closed.targets q i target is));
}

IsClosed-put_value : (g : Graph) (o : Option Id) (i : ℕ) (x : Val) → ((target : Id) → x ≡ Ref target → IsThere g target) → IsClosed g → IsClosed (put_value g o i x)
IsClosed-put_value g None i x leads closed = closed
IsClosed-put_value g (Some id) i x leads closed =
    IsClosed-insert g id (slice_set (fields g id) i x)
    (λ j target is. IsThere-insert g id target _ (elim (slice_get-set_from (fields g id) i j x (Ref target) is) [
      | inl written ↦ leads target written
      | inr was ↦ closed.targets id j target was
    ]))
    closed

-- in a closed graph all that is reached is there
pub closed_whole : (g : Graph) → IsClosed g → IsWhole g
closed_whole g closed id at_root = closed.root_there
closed_whole g closed id (along {id = from} i target reached is) = closed.targets from i target is

-- what a reference that is read from a field leads to
pub read_there : (g : Graph) (o : Option Id) (i : ℕ) (target : Id) → IsClosed g → slice_index_or (fields_of g o) i Null ≡ Ref target → IsThere g target
read_there g None i target closed is = cc
read_there g (Some id) i target closed is = closed.targets id i target (slice_get_reference (fields g id) i target is)

held_closed : (v : View) (h : ℕ) (o : Option Id) → ((id : Id) → o ≡ Some id → IsThere v.graph id) → SeesClosed v
    → (j : ℕ) (id : Id) → held (slice_set v.registers h o) j ≡ Some id → IsThere v.graph id
held_closed v h o there sees j id is =
    elim (held-set_from v.registers h j o id is) [
      | inl now ↦ there id now
      | inr was ↦ sees.handles j id was
    ]

write_closed : (v : View) (h i : ℕ) (x : Val) → ((target : Id) → x ≡ Ref target → IsThere v.graph target) → SeesClosed v → SeesClosed (write v h i x).view
write_closed v h i x leads sees = record {
  graph = IsClosed-put_value v.graph (held v.registers h) i x leads sees.graph;
  handles = λ j id is. IsThere-put_value v.graph (held v.registers h) i x id (sees.handles j id is);
}

make_closed : (v : View) (t h len : ℕ) → SeesClosed v → SeesClosed (make v t h len).view
make_closed v t h len sees =
    let id = next_id v t in
    record {
      graph = IsClosed-insert v.graph id (replicate len Null) (λ i target is. let clash = slice_get-replicate len i Null (Ref target) is in cc) sees.graph;
      handles = λ j q is. elim (held-set_from v.registers h j (Some id) q is) [
        | inl now ↦ subst (IsThere (insert v.graph id (replicate len Null))) (same_Some id q now) (replicate len Null, get-insert_same v.graph id (replicate len Null))
        | inr was ↦ IsThere-insert v.graph id q (replicate len Null) (sees.handles j q was)
      ];
    }

no_reference : (v : View) (x : Val) → ((target : Id) → x ≢ Ref target) → (target : Id) → x ≡ Ref target → IsThere v.graph target
no_reference v x never target is = absurd (never target is)

-- a call leaves what its transaction sees closed
pub call-SeesClosed : (v : View) (t : ℕ) (c : Event) → SeesClosed v → SeesClosed (call v t c).view
call-SeesClosed v t (Root s h) sees = record {
  graph = sees.graph;
  handles = held_closed v h (Some root) (λ id is. subst (IsThere v.graph) (same_Some root id is) sees.graph.root_there) sees;
}
call-SeesClosed v t (New s h len) sees = make_closed v t h len sees
call-SeesClosed v t (Put s h i n) sees = write_closed v h i (Int n) (no_reference v (Int n) (λ target is. cc)) sees
call-SeesClosed v t (Clear s h i) sees = write_closed v h i Null (no_reference v Null (λ target is. cc)) sees
call-SeesClosed v t (Link s h i h2) sees =
    write_closed v h i (reference_to (held v.registers h2)) (λ target is. sees.handles h2 target (reference_to-Ref (held v.registers h2) target is)) sees
call-SeesClosed v t (Drop s h) sees = record { graph = sees.graph; handles = held_closed v h None (λ id is. cc) sees }
call-SeesClosed v t (Get s h i h2) sees =
    let x = slice_index_or (fields_of v.graph (held v.registers h)) i Null in
    record {
      graph = sees.graph;
      handles = λ j id is. elim (held-with_referred_from v.registers h2 j x id is) [
        | inl now ↦ read_there v.graph (held v.registers h) i id sees.graph now
        | inr was ↦ sees.handles j id was
      ];
    }
call-SeesClosed v t c sees = sees

-- so do calls
pub after_calls-SeesClosed : (v : View) (t : ℕ) (cs : List Event) → SeesClosed v → SeesClosed (after_calls v t cs)
after_calls-SeesClosed v t [] sees = sees
after_calls-SeesClosed v t (c ∷ cs) sees = after_calls-SeesClosed (call v t c).view t cs (call-SeesClosed v t c sees)

-- a transaction that begins holds nothing
pub fresh_view-SeesClosed : (g : Graph) → IsClosed g → SeesClosed (fresh_view g)
fresh_view-SeesClosed g closed = record { graph = closed; handles = λ h id is. let empty = held-no_registers h in cc }

-- a transaction sees a closed graph
pub run-SeesClosed : (g : Graph) (t : Transaction) → IsClosed g → SeesClosed (run g t)
run-SeesClosed g t closed = after_calls-SeesClosed (fresh_view g) t.number t.calls (fresh_view-SeesClosed g closed)

-- a call removes no object
pub IsThere-call : (v : View) (t : ℕ) (c : Event) (q : Id) → IsThere v.graph q → IsThere (call v t c).view.graph q
IsThere-call v t (New s h len) q there = IsThere-insert v.graph (next_id v t) q _ there
IsThere-call v t (Put s h i n) q there = IsThere-put_value v.graph (held v.registers h) i (Int n) q there
IsThere-call v t (Clear s h i) q there = IsThere-put_value v.graph (held v.registers h) i Null q there
IsThere-call v t (Link s h i h2) q there = IsThere-put_value v.graph (held v.registers h) i (reference_to (held v.registers h2)) q there
IsThere-call v t c q there = there

pub IsThere-after_calls : (v : View) (t : ℕ) (cs : List Event) (q : Id) → IsThere v.graph q → IsThere (after_calls v t cs).graph q
IsThere-after_calls v t [] q there = there
IsThere-after_calls v t (c ∷ cs) q there = IsThere-after_calls (call v t c).view t cs q (IsThere-call v t c q there)

pub IsThere-run : (g : Graph) (t : Transaction) (q : Id) → IsThere g q → IsThere (run g t).graph q
IsThere-run g t q there = IsThere-after_calls (fresh_view g) t.number t.calls q there

-- a call has made one more object, or none
pub made-call : (v : View) (t : ℕ) (c : Event) → v.made ≤ (call v t c).view.made
made-call v t (New s h len) = omega arith
made-call v t c = omega arith

pub made-after_calls : (v : View) (t : ℕ) (cs : List Event) → v.made ≤ (after_calls v t cs).made
made-after_calls v t [] = omega arith
made-after_calls v t (c ∷ cs) = omega (arith, made-call v t c, made-after_calls (call v t c).view t cs)

-- The object is one that transaction t made after its first `before` objects, and among its first `made`.
record IsMadeSince (t before made : ℕ) (id : Id) : Type 0 where
  maker : id.t ≡ t
  from : before < id.k
  to : id.k ≤ made

-- what is there after a call: what was there, and what it made
there_call : (v : View) (t : ℕ) (c : Event) (q : Id) → SeesClosed v → IsThere (call v t c).view.graph q → IsThere v.graph q ⊎ IsMadeSince t v.made (call v t c).view.made q
there_call v t (New s h len) q sees there =
    elim (there_insert v.graph (next_id v t) q _ there) [
      | inl same ↦
          let index : q.k ≡ v.made + 1 = ap (λ (id : Id). id.k) same in
          inr (record { maker = ap (λ (id : Id). id.t) same; from = omega arith; to = omega arith })
      | inr was ↦ inl was
    ]
there_call v t (Put s h i n) q sees there = inl (there_put_value v.graph (held v.registers h) i (Int n) q (sees.handles h) there)
there_call v t (Clear s h i) q sees there = inl (there_put_value v.graph (held v.registers h) i Null q (sees.handles h) there)
there_call v t (Link s h i h2) q sees there = inl (there_put_value v.graph (held v.registers h) i (reference_to (held v.registers h2)) q (sees.handles h) there)
there_call v t c q sees there = inl there

there_after_calls : (v : View) (t : ℕ) (cs : List Event) (q : Id) → SeesClosed v → IsThere (after_calls v t cs).graph q
    → IsThere v.graph q ⊎ IsMadeSince t v.made (after_calls v t cs).made q
there_after_calls v t [] q sees there = inl there
there_after_calls v t (c ∷ cs) q sees there =
    let next = (call v t c).view in
    let more = made-after_calls next t cs in
    elim (there_after_calls next t cs q (call-SeesClosed v t c sees) there) [
      | inl now ↦ elim (there_call v t c q sees now) [
        | inl was ↦ inl was
        | inr one ↦ inr (record { maker = one.maker; from = one.from; to = omega (arith, one.to) })
      ]
      | inr later ↦ inr (record { maker = later.maker; from = omega (arith, later.from, made-call v t c); to = later.to })
    ]

-- what is there after a transaction: what was there, and what it made
pub there_run : (g : Graph) (t : Transaction) (q : Id) → IsClosed g → IsThere (run g t).graph q → IsThere g q ⊎ IsNameOf t.number (run g t).made q
there_run g t q closed there =
    elim (there_after_calls (fresh_view g) t.number t.calls q (fresh_view-SeesClosed g closed) there) [
      | inl was ↦ inl was
      | inr one ↦ inr (record { maker = one.maker; from = omega (arith, one.from); to = one.to })
    ]

-- the objects that a transaction made are there
MadeAreThere : View → ℕ → Type 0
MadeAreThere v t = (id : Id) → IsNameOf t v.made id → IsThere v.graph id

named : (t k : ℕ) (id : Id) → id.t ≡ t → id.k ≡ k → id ≡ record { t = t; k = k }
named t k id maker index = ap (λ n. record { t = n; k = id.k }) maker ∙ ap (λ n. record { t = t; k = n }) index

call-MadeAreThere : (v : View) (t : ℕ) (c : Event) → MadeAreThere v t → MadeAreThere (call v t c).view t
unfolding MadeAreThere
call-MadeAreThere v t (New s h len) all id name =
    elim (cases_lt v.made id.k) [
      | inl last ↦
          let index : id.k ≡ v.made + 1 = omega (arith, name.to) in
          subst (IsThere (insert v.graph (next_id v t) (replicate len Null))) (sym (named t (v.made + 1) id name.maker index))
          (replicate len Null, get-insert_same v.graph (next_id v t) (replicate len Null))
      | inr earlier ↦ IsThere-insert v.graph (next_id v t) id _ (all id (record { maker = name.maker; from = name.from; to = earlier }))
    ]
call-MadeAreThere v t (Put s h i n) all id name = IsThere-put_value v.graph (held v.registers h) i (Int n) id (all id name)
call-MadeAreThere v t (Clear s h i) all id name = IsThere-put_value v.graph (held v.registers h) i Null id (all id name)
call-MadeAreThere v t (Link s h i h2) all id name = IsThere-put_value v.graph (held v.registers h) i (reference_to (held v.registers h2)) id (all id name)
call-MadeAreThere v t c all id name = all id name

after_calls-MadeAreThere : (v : View) (t : ℕ) (cs : List Event) → MadeAreThere v t → MadeAreThere (after_calls v t cs) t
after_calls-MadeAreThere v t [] all = all
after_calls-MadeAreThere v t (c ∷ cs) all = after_calls-MadeAreThere (call v t c).view t cs (call-MadeAreThere v t c all)

-- what a transaction made is there
pub made_there : (g : Graph) (t : Transaction) (q : Id) → IsNameOf t.number (run g t).made q → IsThere (run g t).graph q
unfolding MadeAreThere
made_there g t q name =
    let none : MadeAreThere (fresh_view g) t.number = λ id never. absurd (omega (arith, never.from, never.to)) in
    after_calls-MadeAreThere (fresh_view g) t.number t.calls none q name

-- names that another transaction gives stay unused
pub run-IsUnused : (g : Graph) (t : Transaction) (n : ℕ) → IsClosed g → n ≢ t.number → IsUnused g n → IsUnused (run g t).graph n
run-IsUnused g t n closed other unused id maker =
    elim (there_or_none (run g t).graph id) [
      | inl there ↦ elim (there_run g t id closed there) [
        | inl was ↦ let none = unused id maker in let some = was.1 in cc
        | inr name ↦ absurd (other (sym maker ∙ name.maker))
      ]
      | inr none ↦ none
    ]

length-put_value : (g : Graph) (o : Option Id) (i : ℕ) (x : Val) (q : Id) → length (fields (put_value g o i x) q) ≡ length (fields g q)
length-put_value g None i x q = refl
length-put_value g (Some id) i x q =
    fields_by_insert (λ vs. length vs ≡ length (fields g q)) g id q (slice_set (fields g id) i x)
    (λ same. length-set (fields g id) i x ∙ ap (λ r. length (fields g r)) (sym same))
    (λ other. refl)

-- a call changes no object's length; it may make an object
pub length-fields-call : (v : View) (t : ℕ) (c : Event) (q : Id) → q ≢ next_id v t → length (fields (call v t c).view.graph q) ≡ length (fields v.graph q)
length-fields-call v t (New s h len) q other =
    fields_by_insert (λ vs. length vs ≡ length (fields v.graph q)) v.graph (next_id v t) q (replicate len Null) (λ same. absurd (other same)) (λ _. refl)
length-fields-call v t (Put s h i n) q other = length-put_value v.graph (held v.registers h) i (Int n) q
length-fields-call v t (Clear s h i) q other = length-put_value v.graph (held v.registers h) i Null q
length-fields-call v t (Link s h i h2) q other = length-put_value v.graph (held v.registers h) i (reference_to (held v.registers h2)) q
length-fields-call v t c q other = refl

length-fields-after_calls : (v : View) (t : ℕ) (cs : List Event) (q : Id) → q.t ≢ t → length (fields (after_calls v t cs).graph q) ≡ length (fields v.graph q)
length-fields-after_calls v t [] q other = refl
length-fields-after_calls v t (c ∷ cs) q other =
    length-fields-after_calls (call v t c).view t cs q other ∙ length-fields-call v t c q (λ same. other (ap (λ (id : Id). id.t) same))

-- a transaction changes no length of an object that another made
pub length-fields-run : (g : Graph) (t : Transaction) (q : Id) → q.t ≢ t.number → length (fields (run g t).graph q) ≡ length (fields g q)
length-fields-run g t q other = length-fields-after_calls (fresh_view g) t.number t.calls q other

-- the graph of a new heap is closed
pub new_graph-IsClosed : IsClosed new_graph
new_graph-IsClosed = record {
  root_there = (replicate 4 Null, get-insert_same empty root (replicate 4 Null));
  targets = λ id. fields_by_insert (LeadTo new_graph) empty root id (replicate 4 Null)
      (λ same i target is. let clash = slice_get-replicate 4 i Null (Ref target) is in cc)
      (λ other i target is. let nothing = ap (λ o. slice_get (unwrap_or o []) i) (get-empty {X = List Val} id_cmp id) in cc);
}
