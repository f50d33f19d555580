-- Laws of one call: what it needs a lock for, what it leaves alone, and when two views answer it alike.
use Rattle.std.proofs.Common.{◌≡◌, ◌≢◌, inl, inr, ℕ, ◌+◌, zero, suc, lit<, arith, List, length, replicate, Option, Some, None, refl, sym, ap, ◌∙◌}
use Rattle.std.specs.Prelude.{slice_set, slice_index_or}
use Rattle.std.specs.List.{Contains}
use Rattle.std.specs.Option.{option_map, option_to_list}
use Rattle.std.specs.FinMap.{insert}
use Rattle.std.proofs.lemmas.List.{length-set}
use Rattle.std.proofs.lemmas.Option.{same_Some}
use Rattle.graph_model.specs.declared.id.Id.{Id}
use Rattle.graph_model.specs.declared.val.Val.{Val}
use Rattle.graph_model.specs.declared.val.Val.TheVariants.{Null, Int}
use Rattle.graph_model.specs.declared.event.Event.{Event}
use Rattle.graph_model.specs.declared.event.Event.TheVariants.{Root, New, Put, Clear, Link, Drop, Get, Same, Len}
use Rattle.graph_model.specs.declared.reply.Reply.TheVariants.{Length}
use Rattle.graph_model.specs.Graph.{Graph, root, fields}
use Rattle.graph_model.proofs.Whole.Graph.{same_or_other, fields-insert, fields-insert_other, fields_by_insert, get-insert_other}
use Rattle.graph_model.specs.ClosedGraph.{IsThere, IsUnused}
use Rattle.graph_model.proofs.Whole.Names.{SeesClosed}
use Rattle.graph_model.specs.Transaction.{Registers, View, held, fields_of, put_value, with_referred, value_reply, same_reply, reference_to, next_id, write, call}
use Rattle.graph_model.specs.Locking.{Mode, Shared, Exclusive, Lock, in_mode, lock_on, lock_of, Conflict}

-- of two modes that conflict, either may come first
pub Conflict-sym : (m n : Mode) → Conflict m n → Conflict n m
Conflict-sym Shared Shared c = c
Conflict-sym Shared Exclusive c = refl
Conflict-sym Exclusive Shared c = refl
Conflict-sym Exclusive Exclusive c = refl

-- one that may be there is in its list
pub Contains-Some : {X : Type 0} (o : Option X) (x : X) → o ≡ Some x → Contains (option_to_list o) x
Contains-Some None x is = cc
Contains-Some (Some y) x is = (0, lit< tt, same_Some y x is)

-- and what is in the list is it
pub Contains-option : {X : Type 0} (o : Option X) (x : X) → Contains (option_to_list o) x → o ≡ Some x
Contains-option None x there = absurd (omega (arith, there.1))
Contains-option (Some y) x (zero, lt, at) = ap Some at
Contains-option (Some y) x (suc k, lt, at) = absurd (omega (arith, lt))

-- the lock of a handle that holds an object
pub lock_on-held : (rs : Registers) (h : ℕ) (mode : Mode) (id : Id) → held rs h ≡ Some id → lock_on rs h mode ≡ Some (id, mode)
lock_on-held rs h mode id is = ap (λ o. option_map (in_mode mode) o) is

-- a field of an object written leaves the others
fields-put_value : (g : Graph) (o : Option Id) (i : ℕ) (x : Val) (q : Id) → (o ≢ Some q) → fields (put_value g o i x) q ≡ fields g q
fields-put_value g None i x q other = refl
fields-put_value g (Some id) i x q other = fields-insert_other g id q _ (λ same. other (ap Some (sym same)))

-- A call changes no object that it needs no exclusive lock for, but for one that it makes.
pub fields-call : (v : View) (t : ℕ) (c : Event) (q : Id) → q.t ≢ t → lock_of v.registers c ≢ Some (q, Exclusive) → fields (call v t c).view.graph q ≡ fields v.graph q
fields-call v t (New s h len) q other free = fields-insert_other v.graph (next_id v t) q _ (λ same. other (ap (λ (id : Id). id.t) same))
fields-call v t (Put s h i n) q other free = fields-put_value v.graph (held v.registers h) i (Int n) q (λ is. free (lock_on-held v.registers h Exclusive q is))
fields-call v t (Clear s h i) q other free = fields-put_value v.graph (held v.registers h) i Null q (λ is. free (lock_on-held v.registers h Exclusive q is))
fields-call v t (Link s h i h2) q other free =
    fields-put_value v.graph (held v.registers h) i (reference_to (held v.registers h2)) q (λ is. free (lock_on-held v.registers h Exclusive q is))
fields-call v t c q other free = refl

unused_insert : (g : Graph) (id : Id) (vs : List Val) (n : ℕ) → id.t ≢ n → IsUnused g n → IsUnused (insert g id vs) n
unused_insert g id vs n other unused q maker = get-insert_other g id q vs (λ same. other (ap (λ (x : Id). x.t) (sym same) ∙ maker)) ∙ unused q maker

-- an object that is there was not made by a transaction whose number is unused
pub there_other : (g : Graph) (n : ℕ) (id : Id) → IsUnused g n → IsThere g id → id.t ≢ n
there_other g n id unused there maker = let none = unused id maker in let some = there.1 in cc

unused_put_value : (g : Graph) (o : Option Id) (i : ℕ) (x : Val) (n : ℕ) → ((id : Id) → o ≡ Some id → IsThere g id) → IsUnused g n → IsUnused (put_value g o i x) n
unused_put_value g None i x n holds unused = unused
unused_put_value g (Some id) i x n holds unused = unused_insert g id _ n (there_other g n id unused (holds id refl)) unused

-- a call uses no name that another transaction gives
pub call-IsUnused : (v : View) (t : ℕ) (c : Event) (n : ℕ) → t ≢ n → SeesClosed v → IsUnused v.graph n → IsUnused (call v t c).view.graph n
call-IsUnused v t (New s h len) n other sees unused = unused_insert v.graph (next_id v t) _ n other unused
call-IsUnused v t (Put s h i x) n other sees unused = unused_put_value v.graph (held v.registers h) i (Int x) n (sees.handles h) unused
call-IsUnused v t (Clear s h i) n other sees unused = unused_put_value v.graph (held v.registers h) i Null n (sees.handles h) unused
call-IsUnused v t (Link s h i h2) n other sees unused = unused_put_value v.graph (held v.registers h) i (reference_to (held v.registers h2)) n (sees.handles h) unused
call-IsUnused v t c n other sees unused = unused

held_of_lock : (rs : Registers) (h : ℕ) (mode : Mode) (id : Id) (m : Mode) → lock_on rs h mode ≡ Some (id, m) → held rs h ≡ Some id
held_of_lock rs h mode id m is = by_object (held rs h) is where
  by_object : (o : Option Id) → option_map (in_mode mode) o ≡ Some (id, m) → o ≡ Some id
  by_object None is = cc
  by_object (Some x) is = ap Some (ap (λ (l : Lock). l.0) (same_Some (x, mode) (id, m) is))

-- what a call needs a lock for is there
pub locked_there : (v : View) (c : Event) (id : Id) (mode : Mode) → SeesClosed v → lock_of v.registers c ≡ Some (id, mode) → IsThere v.graph id
locked_there v (Put s h i n) id mode sees is = sees.handles h id (held_of_lock v.registers h Exclusive id mode is)
locked_there v (Clear s h i) id mode sees is = sees.handles h id (held_of_lock v.registers h Exclusive id mode is)
locked_there v (Link s h i h2) id mode sees is = sees.handles h id (held_of_lock v.registers h Exclusive id mode is)
locked_there v (Get s h i h2) id mode sees is = sees.handles h id (held_of_lock v.registers h Shared id mode is)
locked_there v c id mode sees is = cc

-- Two views of a transaction differ at most in what transaction n made, and in the fields of objects that it holds exclusively.
pub record SeesAlike (n : ℕ) (exclusive : Id → Type 0) (v w : View) : Type 0 where
  pub registers : v.registers ≡ w.registers
  pub made : v.made ≡ w.made
  pub lengths : (q : Id) → q.t ≢ n → length (fields v.graph q) ≡ length (fields w.graph q)
  pub objects : (q : Id) → q.t ≢ n → (exclusive q → ⊥) → fields v.graph q ≡ fields w.graph q

-- the same field written in two views that see alike
alike_written : (n : ℕ) (exclusive : Id → Type 0) (g k : Graph) (o p : Option Id) (i : ℕ) (x y : Val) → o ≡ p → x ≡ y → ((id : Id) → o ≡ Some id → (id.t ≢ n) × (exclusive id → ⊥))
    → ((q : Id) → q.t ≢ n → (exclusive q → ⊥) → fields g q ≡ fields k q) → (q : Id) → q.t ≢ n → (exclusive q → ⊥) → fields (put_value g o i x) q ≡ fields (put_value k p i y) q
alike_written n exclusive g k None p i x y same_object same_value free objects q other not_exclusive =
    objects q other not_exclusive ∙ ap (λ r. fields (put_value k r i y) q) same_object
alike_written n exclusive g k (Some id) p i x y same_object same_value free objects q other not_exclusive =
    let here = free id refl in
    elim (same_or_other q id) [
      | inl same ↦
          ap (fields (put_value g (Some id) i x)) same
          ∙ fields-insert g id (slice_set (fields g id) i x)
          ∙ ap (λ vs. slice_set vs i x) (objects id here.0 here.1)
          ∙ ap (λ z. slice_set (fields k id) i z) same_value
          ∙ sym (fields-insert k id (slice_set (fields k id) i y))
          ∙ ap (fields (put_value k (Some id) i y)) (sym same)
      | inr apart ↦
          fields-insert_other g id q _ apart
          ∙ objects q other not_exclusive
          ∙ sym (fields-insert_other k id q (slice_set (fields k id) i y) apart)
    ]
    ∙ ap (λ r. fields (put_value k r i y) q) same_object

length-put_value : (g : Graph) (o : Option Id) (i : ℕ) (x : Val) (q : Id) → length (fields (put_value g o i x) q) ≡ length (fields g q)
length-put_value g None i x q = refl
length-put_value g (Some id) i x q =
    fields_by_insert (λ vs. length vs ≡ length (fields g q)) g id q (slice_set (fields g id) i x)
    (λ same. length-set (fields g id) i x ∙ ap (λ r. length (fields g r)) (sym same))
    (λ other. refl)

-- what is required of a call, so that two views answer it alike: what it needs a lock for is an object that transaction n did not make
-- and does not hold exclusively
abbrev pub IsUntouched : ℕ → (Id → Type 0) → Registers → Event → Type 0
IsUntouched n exclusive registers c = (id : Id) (mode : Mode) → lock_of registers c ≡ Some (id, mode) → (id.t ≢ n) × (exclusive id → ⊥)

write_alike : (n : ℕ) (exclusive : Id → Type 0) (v w : View) (h i : ℕ) (x y : Val) → x ≡ y → ((id : Id) → held v.registers h ≡ Some id → (id.t ≢ n) × (exclusive id → ⊥))
    → SeesAlike n exclusive v w → SeesAlike n exclusive (write v h i x).view (write w h i y).view
write_alike n exclusive v w h i x y same free alike = record {
  registers = alike.registers;
  made = alike.made;
  lengths = λ q other.
      length-put_value v.graph (held v.registers h) i x q ∙ alike.lengths q other ∙ sym (length-put_value w.graph (held w.registers h) i y q);
  objects = alike_written n exclusive v.graph w.graph (held v.registers h) (held w.registers h) i x y (ap (λ rs. held rs h) alike.registers) same free alike.objects;
}

-- a field that is read in both
alike_read : (n : ℕ) (exclusive : Id → Type 0) (g k : Graph) (o p : Option Id) (i : ℕ) → o ≡ p → ((id : Id) → o ≡ Some id → (id.t ≢ n) × (exclusive id → ⊥))
    → ((q : Id) → q.t ≢ n → (exclusive q → ⊥) → fields g q ≡ fields k q) → slice_index_or (fields_of g o) i Null ≡ slice_index_or (fields_of k p) i Null
alike_read n exclusive g k None p i same free objects = ap (λ r. slice_index_or (fields_of k r) i Null) same
alike_read n exclusive g k (Some id) p i same free objects =
    ap (λ vs. slice_index_or vs i Null) (objects id (free id refl).0 (free id refl).1) ∙ ap (λ r. slice_index_or (fields_of k r) i Null) same

-- the length of an object in both
alike_length : (n : ℕ) (g k : Graph) (o p : Option Id) → o ≡ p → ((id : Id) → o ≡ Some id → id.t ≢ n) → ((q : Id) → q.t ≢ n → length (fields g q) ≡ length (fields k q))
    → length (fields_of g o) ≡ length (fields_of k p)
alike_length n g k None p same other lengths = ap (λ r. length (fields_of k r)) same
alike_length n g k (Some id) p same other lengths = lengths id (other id refl) ∙ ap (λ r. length (fields_of k r)) same

-- the objects held by the handle of a call that needs a lock
on_handle : (n : ℕ) (exclusive : Id → Type 0) (rs : Registers) (h : ℕ) (mode : Mode) → ((id : Id) (m : Mode) → lock_on rs h mode ≡ Some (id, m) → (id.t ≢ n) × (exclusive id → ⊥))
    → (id : Id) → held rs h ≡ Some id → (id.t ≢ n) × (exclusive id → ⊥)
on_handle n exclusive rs h mode free id is = free id mode (lock_on-held rs h mode id is)

-- Two views that see alike still do after a call that touches nothing of what differs.
pub call-SeesAlike : (n : ℕ) (exclusive : Id → Type 0) (v w : View) (t : ℕ) (c : Event) → IsUntouched n exclusive v.registers c → SeesAlike n exclusive v w
    → SeesAlike n exclusive (call v t c).view (call w t c).view
call-SeesAlike n exclusive v w t (Root s h) free alike = record {
  registers = ap (λ rs. slice_set rs h (Some root)) alike.registers;
  made = alike.made;
  lengths = alike.lengths;
  objects = alike.objects;
}
call-SeesAlike n exclusive v w t (New s h len) free alike =
    let name : next_id v t ≡ next_id w t = ap (λ m. record { t = t; k = m + 1 }) alike.made in
    let vs : List Val = replicate len Null in
    record {
      registers = ap (λ rs. slice_set rs h (Some (next_id v t))) alike.registers ∙ ap (λ id. slice_set w.registers h (Some id)) name;
      made = ap (λ m. m + 1) alike.made;
      lengths = λ q other.
          fields_by_insert (λ us. length us ≡ length (fields (insert w.graph (next_id v t) vs) q)) v.graph (next_id v t) q vs
          (λ same. sym (ap (λ r. length (fields (insert w.graph (next_id v t) vs) r)) same ∙ ap (λ (us : List Val). length us) (fields-insert w.graph (next_id v t) vs)))
          (λ apart. alike.lengths q other ∙ sym (ap (λ (us : List Val). length us) (fields-insert_other w.graph (next_id v t) q vs apart)))
          ∙ ap (λ id. length (fields (insert w.graph id vs) q)) name;
      objects = λ q other not_exclusive.
          fields_by_insert (λ us. us ≡ fields (insert w.graph (next_id v t) vs) q) v.graph (next_id v t) q vs
          (λ same. sym (ap (fields (insert w.graph (next_id v t) vs)) same ∙ fields-insert w.graph (next_id v t) vs))
          (λ apart. alike.objects q other not_exclusive ∙ sym (fields-insert_other w.graph (next_id v t) q vs apart))
          ∙ ap (λ id. fields (insert w.graph id vs) q) name;
    }
call-SeesAlike n exclusive v w t (Put s h i x) free alike = write_alike n exclusive v w h i (Int x) (Int x) refl (on_handle n exclusive v.registers h Exclusive free) alike
call-SeesAlike n exclusive v w t (Clear s h i) free alike = write_alike n exclusive v w h i Null Null refl (on_handle n exclusive v.registers h Exclusive free) alike
call-SeesAlike n exclusive v w t (Link s h i h2) free alike =
    write_alike n exclusive v w h i (reference_to (held v.registers h2)) (reference_to (held w.registers h2)) (ap (λ rs. reference_to (held rs h2)) alike.registers)
    (on_handle n exclusive v.registers h Exclusive free) alike
call-SeesAlike n exclusive v w t (Drop s h) free alike = record {
  registers = ap (λ rs. slice_set rs h None) alike.registers;
  made = alike.made;
  lengths = alike.lengths;
  objects = alike.objects;
}
call-SeesAlike n exclusive v w t (Get s h i h2) free alike =
    let same = alike_read n exclusive v.graph w.graph (held v.registers h) (held w.registers h) i (ap (λ rs. held rs h) alike.registers) (on_handle n exclusive v.registers h Shared free) alike.objects in
    record {
      registers = ap (λ rs. with_referred rs h2 (slice_index_or (fields_of v.graph (held v.registers h)) i Null)) alike.registers ∙ ap (λ x. with_referred w.registers h2 x) same;
      made = alike.made;
      lengths = alike.lengths;
      objects = alike.objects;
    }
call-SeesAlike n exclusive v w t c free alike = alike

-- and it is answered alike
pub reply-SeesAlike : (n : ℕ) (exclusive : Id → Type 0) (v w : View) (t : ℕ) (c : Event) → SeesClosed v → IsUnused v.graph n → IsUntouched n exclusive v.registers c → SeesAlike n exclusive v w
    → (call v t c).reply ≡ (call w t c).reply
reply-SeesAlike n exclusive v w t (Get s h i h2) sees unused free alike =
    ap value_reply (alike_read n exclusive v.graph w.graph (held v.registers h) (held w.registers h) i (ap (λ rs. held rs h) alike.registers) (on_handle n exclusive v.registers h Shared free) alike.objects)
reply-SeesAlike n exclusive v w t (Same s h h2) sees unused free alike = ap (λ rs. same_reply (held rs h) (held rs h2)) alike.registers
reply-SeesAlike n exclusive v w t (Len s h) sees unused free alike =
    ap Length (alike_length n v.graph w.graph (held v.registers h) (held w.registers h) (ap (λ rs. held rs h) alike.registers) (λ id is. there_other v.graph n id unused (sees.handles h id is)) alike.lengths)
reply-SeesAlike n exclusive v w t c sees unused free alike = refl
