-- What a transaction holds, locks and refers to lies within what it made and a set of objects that has the root and all to which its objects refer.
use Rattle.std.proofs.Common.{◌≡◌, ◌⊎◌, inl, inr, ℕ, List, [], ◌∷◌, Option, Some, None, replicate, refl, sym, ap, subst, arith}
use Rattle.std.specs.Prelude.{Contains, slice_get, slice_set, slice_index_or}
use Rattle.std.specs.Option.{option_map, option_to_list}
use Rattle.std.proofs.lemmas.Option.{same_Some}
use Rattle.std.proofs.lemmas.List.Elements.{Contains-append_cases}
use Rattle.graph_model.specs.declared.id.Id.{Id}
use Rattle.graph_model.specs.declared.val.Val.{Val}
use Rattle.graph_model.specs.declared.val.Val.TheVariants.{Null, Int, Ref}
use Rattle.graph_model.specs.declared.event.Event.{Event}
use Rattle.graph_model.specs.declared.event.Event.TheVariants.{Begin, Root, New, Put, Clear, Link, Drop, Get, Same, Len, Seal, Abort, Force, Flip, Scan, Flush}
use Rattle.graph_model.specs.ClosedGraph.{IsUnused}
use Rattle.graph_model.specs.Graph.{Graph, fields, root}
use Rattle.graph_model.specs.Locking.{Lock, Mode, Shared, Exclusive, in_mode, lock_of, locks_of, locks_of_calls}
use Rattle.graph_model.specs.Transaction.{Transaction, View, after_calls, call, fields_of, fresh_view, held, next_id, put_value, reference_to, run, with_referred}
use Rattle.graph_model.proofs.Runs.History.{held-no_registers}
use Rattle.graph_model.proofs.Whole.Closed.{held-set_from, reference_to-Ref, slice_get-replicate, slice_get-set_from, slice_get_reference}
use Rattle.graph_model.proofs.Whole.Graph.{fields_by_insert}
use Rattle.commit_order.proofs.CallLaws.{Contains-option}

-- What transaction t sees lies within these objects: what its handles hold, and what their fields refer to.
pub record IsWithin (within : Id → Type 0) (v : View) : Type 0 where
  pub handles : (h : ℕ) (id : Id) → held v.registers h ≡ Some id → within id
  pub leads : (z y : Id) (i : ℕ) → within z → slice_get (fields v.graph z) i ≡ Some (Ref y) → within y

module _ (within : Id → Type 0) (t : ℕ) (has_root : within root) (own : (id : Id) → id.t ≡ t → within id) where
  -- Calls.

  set_within : (v : View) → IsWithin within v → (h : ℕ) (o : Option Id) → ((id : Id) → o ≡ Some id → within id) → IsWithin within (record v { registers = slice_set v.registers h o })
  set_within v is h o new = record {
    handles = λ j id now. elim (held-set_from v.registers h j o id now) [
      | inl set ↦ new id set
      | inr was ↦ is.handles j id was
    ];
    leads = is.leads;
  }

  read_within : (v : View) → IsWithin within v → (h : ℕ) (x : Val) → ((y : Id) → x ≡ Ref y → within y) → IsWithin within (record v { registers = with_referred v.registers h x })
  read_within v is h Null new = record { handles = is.handles; leads = is.leads }
  read_within v is h (Int n) new = record { handles = is.handles; leads = is.leads }
  read_within v is h (Ref y) new = set_within v is h (Some y) (λ id same. subst within (same_Some y id same) (new y refl))

  -- what a field that is read refers to
  referred_within : (v : View) → IsWithin within v → (o : Option Id) (i : ℕ) → ((id : Id) → o ≡ Some id → within id) → (y : Id) → slice_index_or (fields_of v.graph o) i Null ≡ Ref y → within y
  referred_within v is None i holds y refers = cc
  referred_within v is (Some id) i holds y refers = is.leads id y i (holds id refl) (slice_get_reference (fields v.graph id) i y refers)

  written_leads : (v : View) → IsWithin within v → (o : Option Id) (i : ℕ) (x : Val) → ((y : Id) → x ≡ Ref y → within y) → (z y : Id) (j : ℕ) → within z → slice_get (fields (put_value v.graph o i x) z) j ≡ Some (Ref y) → within y
  written_leads v is None i x new z y j there refers = is.leads z y j there refers
  written_leads v is (Some at) i x new z y j there refers =
      fields_by_insert (λ vs. slice_get vs j ≡ Some (Ref y) → within y) v.graph at z (slice_set (fields v.graph at) i x)
      (λ same now. elim (slice_get-set_from (fields v.graph at) i j x (Ref y) now) [
        | inl written ↦ new y written
        | inr was ↦ is.leads at y j (subst within same there) was
      ])
      (λ other was. is.leads z y j there was)
      refers

  write_within : (v : View) → IsWithin within v → (h i : ℕ) (x : Val) → ((y : Id) → x ≡ Ref y → within y) → IsWithin within (record v { graph = put_value v.graph (held v.registers h) i x })
  write_within v is h i x new = record { handles = is.handles; leads = written_leads v is (held v.registers h) i x new }

  made_within : (v : View) → IsWithin within v → (h len : ℕ) → IsWithin within (call v t (New 1 h len)).view
  made_within v is h len =
      let new = next_id v t in
      record {
        handles = λ j id now. elim (held-set_from v.registers h j (Some new) id now) [
          | inl set ↦ own id (ap (λ (x : Id). x.t) (sym (same_Some new id set)))
          | inr was ↦ is.handles j id was
        ];
        leads = λ z y i there refers.
            fields_by_insert (λ vs. slice_get vs i ≡ Some (Ref y) → within y) v.graph new z (replicate len Null)
            (λ same now. let clash = slice_get-replicate len i Null (Ref y) now in cc)
            (λ other was. is.leads z y i there was)
            refers;
      }

  call_within : (v : View) (c : Event) → IsWithin within v → IsWithin within (call v t c).view
  call_within v (Root s h) is = set_within v is h (Some root) (λ id same. subst within (same_Some root id same) has_root)
  call_within v (New s h len) is = let made = made_within v is h len in record { handles = made.handles; leads = made.leads }
  call_within v (Put s h i n) is = write_within v is h i (Int n) (λ y never. cc)
  call_within v (Clear s h i) is = write_within v is h i Null (λ y never. cc)
  call_within v (Link s h i h2) is = write_within v is h i (reference_to (held v.registers h2)) (λ y same. is.handles h2 y (reference_to-Ref (held v.registers h2) y same))
  call_within v (Drop s h) is = set_within v is h None (λ id never. cc)
  call_within v (Get s h i h2) is = read_within v is h2 (slice_index_or (fields_of v.graph (held v.registers h)) i Null) (referred_within v is (held v.registers h) i (λ id holds. is.handles h id holds))
  call_within v (Begin s) is = is
  call_within v (Same s h h2) is = is
  call_within v (Len s h) is = is
  call_within v (Seal s) is = is
  call_within v (Abort s) is = is
  call_within v Force is = is
  call_within v Flip is = is
  call_within v Scan is = is
  call_within v (Flush p) is = is

  calls_within : (v : View) (cs : List Event) → IsWithin within v → IsWithin within (after_calls v t cs)
  calls_within v [] is = is
  calls_within v (c ∷ cs) is = calls_within (call v t c).view cs (call_within v c is)

  -- Locks.

  held_in : (o : Option Id) (mode m : Mode) (z : Id) → option_map (in_mode mode) o ≡ Some (z, m) → o ≡ Some z
  held_in None mode m z is = absurd (cc is)
  held_in (Some x) mode m z is = ap (λ (l : Lock). Some l.0) (same_Some (in_mode mode x) (z, m) is)

  lock_within : (v : View) (c : Event) → IsWithin within v → (z : Id) (m : Mode) → lock_of v.registers c ≡ Some (z, m) → within z
  lock_within v (Put s h i n) is z m lock = is.handles h z (held_in (held v.registers h) Exclusive m z lock)
  lock_within v (Clear s h i) is z m lock = is.handles h z (held_in (held v.registers h) Exclusive m z lock)
  lock_within v (Link s h i h2) is z m lock = is.handles h z (held_in (held v.registers h) Exclusive m z lock)
  lock_within v (Get s h i h2) is z m lock = is.handles h z (held_in (held v.registers h) Shared m z lock)
  lock_within v c is z m lock = cc

  locks_within : (v : View) (cs : List Event) → IsWithin within v → (z : Id) (m : Mode) → Contains (locks_of_calls v t cs) (z, m) → within z
  locks_within v [] is z m there = absurd (omega (arith, there.1))
  locks_within v (c ∷ cs) is z m there =
      elim (Contains-append_cases (option_to_list (lock_of v.registers c)) (locks_of_calls (call v t c).view t cs) (z, m) there) [
        | inl here ↦ lock_within v c is z m (Contains-option (lock_of v.registers c) (z, m) here)
        | inr later ↦ locks_within (call v t c).view cs (call_within v c is) z m later
      ]

-- transaction t made the object, or it is one of these
abbrev pub OwnOr : (Id → Type 0) → ℕ → Id → Type 0
OwnOr K t id = (id.t ≡ t) ⊎ K id

-- A transaction that runs on a graph in which none of its objects is.
module _ (K : Id → Type 0) (g : Graph) (t : Transaction) (has_root : K root) (closed : (z y : Id) (i : ℕ) → K z → slice_get (fields g z) i ≡ Some (Ref y) → K y) (unused : IsUnused g t.number) where
  fresh_within : IsWithin (OwnOr K t.number) (fresh_view g)
  fresh_within = record {
    handles = λ h id is. let empty = held-no_registers h in cc;
    leads = λ z y i there refers. elim there [
      | inl own ↦ absurd (no_fields z y i own refers)
      | inr old ↦ inr (closed z y i old refers)
    ];
  }
    where
      no_fields : (z y : Id) (i : ℕ) → z.t ≡ t.number → slice_get (fields g z) i ≡ Some (Ref y) → ⊥
      no_fields z y i own refers = let none = unused z own in cc

  -- what it sees
  pub run_within : IsWithin (OwnOr K t.number) (run g t)
  run_within = calls_within (OwnOr K t.number) t.number (inr has_root) (λ id own. inl own) (fresh_view g) t.calls fresh_within

  -- and what it has locked
  pub run_locks : (z : Id) (m : Mode) → Contains (locks_of g t) (z, m) → OwnOr K t.number z
  run_locks z m there = locks_within (OwnOr K t.number) t.number (inr has_root) (λ id own. inl own) (fresh_view g) t.calls fresh_within z m there
