-- Whole graphs stay whole: what transactions leave has all that is reached in it.
use Rattle.std.proofs.Common.{◌≡◌, ◌⊎◌, inl, inr, ℕ, List, [], ◌∷◌, Option, Some, None, replicate, refl, sym, subst}
use Rattle.std.specs.Prelude.{slice_get, slice_set, slice_index_or}
use Rattle.std.specs.FinMap.{insert}
use Rattle.std.proofs.lemmas.Option.{same_Some}
use Rattle.graph_model.specs.declared.id.Id.{Id}
use Rattle.graph_model.specs.declared.val.Val.{Val}
use Rattle.graph_model.specs.declared.val.Val.TheVariants.{Null, Int, Ref}
use Rattle.graph_model.specs.declared.event.Event.{Event}
use Rattle.graph_model.specs.declared.event.Event.TheVariants.{Root, New, Put, Clear, Link, Drop, Get}
use Rattle.graph_model.specs.Graph.{Graph, root, fields, new_graph}
use Rattle.graph_model.proofs.Whole.Graph.{get-insert_same, fields_by_insert}
use Rattle.graph_model.specs.Canon.{Reached, at_root, along}
use Rattle.graph_model.specs.Transaction.{Registers, View, Transaction, held, fields_of, put_value, with_referred, next_id, make, write, reference_to, call, after_calls, fresh_view, run, serial}
use Rattle.graph_model.proofs.Runs.History.{held-no_registers}
use Rattle.graph_model.specs.ClosedGraph.{IsThere, IsWhole}
use Rattle.graph_model.proofs.Whole.Closed.{slice_get-set_from, slice_get-replicate, held-set_from, reference_to-Ref, slice_get_reference, IsThere-insert, closed_whole, new_graph-IsClosed}
use Rattle.graph_model.proofs.Runs.InReach.{IsInReach, of_root, of_handle, of_field, SeesWhole}

-- each reference among these values leads to what is in reach
abbrev LeadsInReach : View → List Val → Type 0
LeadsInReach v vs = (i : ℕ) (target : Id) → slice_get vs i ≡ Some (Ref target) → IsInReach v target

-- what is in reach after a step that makes no object was so before
reach_kept : (v w : View) → ((h : ℕ) (id : Id) → held w.registers h ≡ Some id → IsInReach v id) → ((id : Id) → IsInReach v id → LeadsInReach v (fields w.graph id))
    → (id : Id) → IsInReach w id → IsInReach v id
reach_kept v w handles leads id of_root = of_root
reach_kept v w handles leads id (of_handle h is) = handles h id is
reach_kept v w handles leads id (of_field {id = x} i target reach is) = leads x (reach_kept v w handles leads x reach) i target is

-- where a handle was set, it holds what is in reach
set_reach : (v : View) (h : ℕ) (o : Option Id) → ((id : Id) → o ≡ Some id → IsInReach v id) → (j : ℕ) (id : Id) → held (slice_set v.registers h o) j ≡ Some id → IsInReach v id
set_reach v h o reach j id is =
    elim (held-set_from v.registers h j o id is) [
      | inl now ↦ reach id now
      | inr was ↦ of_handle j was
    ]

-- a step that leaves the graph as it is sees it whole
same_graph_whole : (v : View) (registers : Registers) → ((h : ℕ) (id : Id) → held registers h ≡ Some id → IsInReach v id) → SeesWhole v → SeesWhole (record v { registers = registers })
same_graph_whole v registers handles whole id reach =
    whole id (reach_kept v (record v { registers = registers }) handles (λ x there i target is. of_field i target there is) id reach)

referred_reach : (v : View) (h : ℕ) (x : Val) → ((target : Id) → x ≡ Ref target → IsInReach v target) → (j : ℕ) (id : Id) → held (with_referred v.registers h x) j ≡ Some id → IsInReach v id
referred_reach v h Null leads j id is = of_handle j is
referred_reach v h (Int n) leads j id is = of_handle j is
referred_reach v h (Ref target) leads j id is = set_reach v h (Some target) (λ q now. subst (IsInReach v) (same_Some target q now) (leads target refl)) j id is

read_reach : (v : View) (o : Option Id) (i : ℕ) (target : Id) → ((id : Id) → o ≡ Some id → IsInReach v id) → slice_index_or (fields_of v.graph o) i Null ≡ Ref target → IsInReach v target
read_reach v None i target holds is = cc
read_reach v (Some id) i target holds is = of_field i target (holds id refl) (slice_get_reference (fields v.graph id) i target is)

set_leads : (v : View) (at : Id) (i : ℕ) (x : Val) → ((target : Id) → x ≡ Ref target → IsInReach v target) → IsInReach v at → LeadsInReach v (slice_set (fields v.graph at) i x)
set_leads v at i x leads reach j target is =
    elim (slice_get-set_from (fields v.graph at) i j x (Ref target) is) [
      | inl written ↦ leads target written
      | inr was ↦ of_field j target reach was
    ]

written_leads : (v : View) (o : Option Id) (i : ℕ) (x : Val) → ((target : Id) → x ≡ Ref target → IsInReach v target) → (id : Id) → IsInReach v id → LeadsInReach v (fields (put_value v.graph o i x) id)
written_leads v None i x leads id reach = λ j target is. of_field j target reach is
written_leads v (Some at) i x leads id reach =
    fields_by_insert (LeadsInReach v) v.graph at id (slice_set (fields v.graph at) i x)
    (λ same. set_leads v at i x leads (subst (IsInReach v) same reach))
    (λ other j target is. of_field j target reach is)

put_there : (g : Graph) (o : Option Id) (i : ℕ) (x : Val) (q : Id) → IsThere g q → IsThere (put_value g o i x) q
put_there g None i x q there = there
put_there g (Some id) i x q there = IsThere-insert g id q _ there

-- a write of null, a number or a reference to what is in reach sees the graph whole
write_whole : (v : View) (h i : ℕ) (x : Val) → ((target : Id) → x ≡ Ref target → IsInReach v target) → SeesWhole v → SeesWhole (write v h i x).view
write_whole v h i x leads whole id reach =
    put_there v.graph (held v.registers h) i x id
    (whole id (reach_kept v (write v h i x).view (λ j q is. of_handle j is) (written_leads v (held v.registers h) i x leads) id reach))

-- what is in reach once an object was made is that object, or was so before
make_reach : (v : View) (t h len : ℕ) (id : Id) → IsInReach (make v t h len).view id → (id ≡ next_id v t) ⊎ IsInReach v id
make_reach v t h len id of_root = inr of_root
make_reach v t h len id (of_handle j is) =
    elim (held-set_from v.registers h j (Some (next_id v t)) id is) [
      | inl now ↦ inl (sym (same_Some (next_id v t) id now))
      | inr was ↦ inr (of_handle j was)
    ]
make_reach v t h len id (of_field {id = x} i target reach is) =
    let new = next_id v t in
    let before = make_reach v t h len x reach in
    fields_by_insert (λ vs. slice_get vs i ≡ Some (Ref target) → (target ≡ new) ⊎ IsInReach v target) v.graph new x (replicate len Null)
    (λ same leads. let clash = slice_get-replicate len i Null (Ref target) leads in cc)
    (λ other leads. elim before [
      | inl same ↦ absurd (other same)
      | inr there ↦ inr (of_field i target there leads)
    ])
    is

-- a transaction that makes an object sees the graph whole
make_whole : (v : View) (t h len : ℕ) → SeesWhole v → SeesWhole (make v t h len).view
make_whole v t h len whole id reach =
    let new = next_id v t in
    elim (make_reach v t h len id reach) [
      | inl same ↦ subst (IsThere (insert v.graph new (replicate len Null))) (sym same) (replicate len Null, get-insert_same v.graph new (replicate len Null))
      | inr there ↦ IsThere-insert v.graph new id (replicate len Null) (whole id there)
    ]

-- a call leaves what its transaction sees whole
pub call-SeesWhole : (v : View) (t : ℕ) (c : Event) → SeesWhole v → SeesWhole (call v t c).view
call-SeesWhole v t (Root s h) whole =
    same_graph_whole v (slice_set v.registers h (Some root)) (set_reach v h (Some root) (λ id now. subst (IsInReach v) (same_Some root id now) of_root)) whole
call-SeesWhole v t (New s h len) whole = make_whole v t h len whole
call-SeesWhole v t (Put s h i n) whole = write_whole v h i (Int n) (λ target is. cc) whole
call-SeesWhole v t (Clear s h i) whole = write_whole v h i Null (λ target is. cc) whole
call-SeesWhole v t (Link s h i h2) whole =
    write_whole v h i (reference_to (held v.registers h2)) (λ target is. of_handle h2 (reference_to-Ref (held v.registers h2) target is)) whole
call-SeesWhole v t (Drop s h) whole = same_graph_whole v (slice_set v.registers h None) (set_reach v h None (λ id now. cc)) whole
call-SeesWhole v t (Get s h i h2) whole =
    let x = slice_index_or (fields_of v.graph (held v.registers h)) i Null in
    same_graph_whole v (with_referred v.registers h2 x) (referred_reach v h2 x (λ target is. read_reach v (held v.registers h) i target (λ id holds. of_handle h holds) is)) whole
call-SeesWhole v t c whole = whole

-- so do calls
pub after_calls-SeesWhole : (v : View) (t : ℕ) (cs : List Event) → SeesWhole v → SeesWhole (after_calls v t cs)
after_calls-SeesWhole v t [] whole = whole
after_calls-SeesWhole v t (c ∷ cs) whole = after_calls-SeesWhole (call v t c).view t cs (call-SeesWhole v t c whole)

fresh_reach : (g : Graph) (id : Id) → IsInReach (fresh_view g) id → Reached g id
fresh_reach g id of_root = at_root
fresh_reach g id (of_handle h is) = let empty = held-no_registers h in cc
fresh_reach g id (of_field {id = x} i target reach is) = along i target (fresh_reach g x reach) is

-- a transaction that begins on a whole graph sees it whole
pub fresh_view-SeesWhole : (g : Graph) → IsWhole g → SeesWhole (fresh_view g)
fresh_view-SeesWhole g whole id reach = whole id (fresh_reach g id reach)

reached_reach : (v : View) (id : Id) → Reached v.graph id → IsInReach v id
reached_reach v id at_root = of_root
reached_reach v id (along {id = x} i target reached is) = of_field i target (reached_reach v x reached) is

-- where a transaction sees its graph whole, it is
pub sees_whole : (v : View) → SeesWhole v → IsWhole v.graph
sees_whole v whole id reached = whole id (reached_reach v id reached)

-- a transaction on a whole graph leaves it whole
pub run-IsWhole : (g : Graph) (t : Transaction) → IsWhole g → IsWhole (run g t).graph
run-IsWhole g t whole = sees_whole (run g t) (after_calls-SeesWhole (fresh_view g) t.number t.calls (fresh_view-SeesWhole g whole))

-- so do transactions, one after another
pub serial-IsWhole : (g : Graph) (ts : List Transaction) → IsWhole g → IsWhole (serial g ts)
serial-IsWhole g [] whole = whole
serial-IsWhole g (t ∷ ts) whole = serial-IsWhole (run g t).graph ts (run-IsWhole g t whole)

-- the graph of a new heap is whole
pub new_graph-IsWhole : IsWhole new_graph
new_graph-IsWhole = closed_whole new_graph new_graph-IsClosed
