-- Laws of runs under locks: what a transaction leaves alone, and that one that is sealed changes nothing that another sees.
use Rattle.std.proofs.Common.{◌≡◌, ◌≢◌, ◌⊎◌, inl, inr, ℕ, arith, lit<, List, [], ◌∷◌, ◌++◌, Some, refl, sym, ap, ◌∙◌, append_assoc}
use Rattle.std.specs.List.{Contains}
use Rattle.std.specs.Option.{option_to_list}
use Rattle.std.proofs.lemmas.List.{append-nil}
use Rattle.std.proofs.lemmas.Option.{same_Some}
use Rattle.std.proofs.lemmas.List.Elements.{Contains-append_left, Contains-append_right, Contains-append_cases}
use Rattle.graph_model.specs.declared.id.Id.{Id}
use Rattle.graph_model.specs.declared.event.Event.{Event}
use Rattle.graph_model.specs.Graph.{Graph, fields}
use Rattle.graph_model.proofs.Whole.Graph.{same_or_other}
use Rattle.graph_model.specs.ClosedGraph.{IsClosed, IsUnused}
use Rattle.graph_model.proofs.Whole.Names.{SeesClosed}
use Rattle.graph_model.proofs.Whole.Closed.{call-SeesClosed, fresh_view-SeesClosed, length-fields-run}
use Rattle.graph_model.specs.Transaction.{View, Transaction, call, after_calls, call_replies, fresh_view, run}
use Rattle.graph_model.specs.Locking.{Mode, Shared, Exclusive, Lock, lock_of, locks_of_calls, locks_of, Conflict}
use Rattle.commit_order.proofs.CallLaws.{Conflict-sym, Contains-Some, Contains-option, fields-call, there_other, call-IsUnused, locked_there, SeesAlike, IsUntouched, call-SeesAlike, reply-SeesAlike}

-- the locks with one more call
pub locks_of_calls-append : (v : View) (t : ℕ) (cs : List Event) (c : Event) → locks_of_calls v t (cs ++ c ∷ []) ≡ locks_of_calls v t cs ++ option_to_list (lock_of (after_calls v t cs).registers c)
locks_of_calls-append v t [] c = append-nil _
locks_of_calls-append v t (d ∷ cs) c =
    ap (λ ls. option_to_list (lock_of v.registers d) ++ ls) (locks_of_calls-append (call v t d).view t cs c)
    ∙ sym (append_assoc (option_to_list (lock_of v.registers d)) _ _)

-- Nor do calls, one after another.
pub fields-after_calls : (v : View) (t : ℕ) (cs : List Event) (q : Id) → q.t ≢ t → (Contains (locks_of_calls v t cs) (q, Exclusive) → ⊥)
    → fields (after_calls v t cs).graph q ≡ fields v.graph q
fields-after_calls v t [] q other free = refl
fields-after_calls v t (c ∷ cs) q other free =
    let first = option_to_list (lock_of v.registers c) in
    let rest = locks_of_calls (call v t c).view t cs in
    fields-after_calls (call v t c).view t cs q other (λ there. free (Contains-append_right first rest (q, Exclusive) there))
    ∙ fields-call v t c q other (λ is. free (Contains-append_left first rest (q, Exclusive) (Contains-Some (lock_of v.registers c) (q, Exclusive) is)))

-- A transaction changes no object of others that it does not hold exclusively.
pub fields-run : (g : Graph) (t : Transaction) (q : Id) → q.t ≢ t.number → (Contains (locks_of g t) (q, Exclusive) → ⊥) → fields (run g t).graph q ≡ fields g q
fields-run g t q other free = fields-after_calls (fresh_view g) t.number t.calls q other free

-- An object that a transaction makes is held by no other, since no other can name it.
pub locks_other : (v : View) (t : ℕ) (cs : List Event) (n : ℕ) (id : Id) (mode : Mode) → t ≢ n → SeesClosed v → IsUnused v.graph n → Contains (locks_of_calls v t cs) (id, mode) → id.t ≢ n
locks_other v t [] n id mode other sees unused there = absurd (omega (arith, there.1))
locks_other v t (c ∷ cs) n id mode other sees unused there =
    elim (Contains-append_cases (option_to_list (lock_of v.registers c)) (locks_of_calls (call v t c).view t cs) (id, mode) there) [
      | inl here ↦ there_other v.graph n id unused (locked_there v c id mode sees (Contains-option (lock_of v.registers c) (id, mode) here))
      | inr later ↦ locks_other (call v t c).view t cs n id mode other (call-SeesClosed v t c sees) (call-IsUnused v t c n other sees unused) later
    ]

-- Two runs of the same calls see alike in the end, had the same replies and needed the same locks.
pub record RunAlike (n : ℕ) (exclusive : Id → Type 0) (v w : View) (t : ℕ) (cs : List Event) : Type 0 where
  pub views : SeesAlike n exclusive (after_calls v t cs) (after_calls w t cs)
  pub answers : call_replies v t cs ≡ call_replies w t cs
  pub locks : locks_of_calls v t cs ≡ locks_of_calls w t cs

-- Calls that need no lock on what transaction n holds exclusively run alike in views that see alike.
pub calls_alike : (n : ℕ) (exclusive : Id → Type 0) (v w : View) (t : ℕ) (cs : List Event) → t ≢ n → SeesClosed v → IsUnused v.graph n
    → ((id : Id) (mode : Mode) → Contains (locks_of_calls v t cs) (id, mode) → exclusive id → ⊥) → SeesAlike n exclusive v w → RunAlike n exclusive v w t cs
calls_alike n exclusive v w t [] other sees unused free alike = record { views = alike; answers = refl; locks = refl }
calls_alike n exclusive v w t (c ∷ cs) other sees unused free alike =
    let first = option_to_list (lock_of v.registers c) in
    let rest = locks_of_calls (call v t c).view t cs in
    let untouched : IsUntouched n exclusive v.registers c = λ id mode is. (
      there_other v.graph n id unused (locked_there v c id mode sees is),
      free id mode (Contains-append_left first rest (id, mode) (Contains-Some (lock_of v.registers c) (id, mode) is)),
    ) in
    let more = calls_alike n exclusive (call v t c).view (call w t c).view t cs other (call-SeesClosed v t c sees) (call-IsUnused v t c n other sees unused)
    (λ id mode there. free id mode (Contains-append_right first rest (id, mode) there)) (call-SeesAlike n exclusive v w t c untouched alike) in
    record {
      views = more.views;
      answers = ap (λ r. r ∷ call_replies (call v t c).view t cs) (reply-SeesAlike n exclusive v w t c sees unused untouched alike)
          ∙ ap (λ rs. (call w t c).reply ∷ rs) more.answers;
      locks = ap (λ rs. option_to_list (lock_of rs c) ++ rest) alike.registers ∙ ap (λ ls. option_to_list (lock_of w.registers c) ++ ls) more.locks;
    }

-- no two locks, one of each list, conflict
abbrev pub AreApart : List Lock → List Lock → Type 0
AreApart ls ms = (id : Id) (m n : Mode) → Contains ls (id, m) → Contains ms (id, n) → Conflict m n → ⊥

-- of two lists, either may come first
pub AreApart-sym : (ls ms : List Lock) → AreApart ls ms → AreApart ms ls
AreApart-sym ls ms apart id m n here there conflict = apart id n m there here (Conflict-sym m n conflict)

-- the objects that a transaction holds exclusively when it runs on this graph
abbrev pub IsExclusive : Graph → Transaction → Id → Type 0
IsExclusive g t id = Contains (locks_of g t) (id, Exclusive)

-- A transaction runs alike on a graph and on what another one leaves of it, whose locks do not conflict with its own.
pub runs_alike : (g : Graph) (t u : Transaction) → IsClosed g → u.number ≢ t.number → IsUnused g t.number → AreApart (locks_of g t) (locks_of g u)
    → RunAlike t.number (IsExclusive g t) (fresh_view g) (fresh_view (run g t).graph) u.number u.calls
runs_alike g t u closed other unused apart =
    calls_alike t.number (IsExclusive g t) (fresh_view g) (fresh_view (run g t).graph) u.number u.calls other (fresh_view-SeesClosed g closed) unused
    (λ id mode there exclusive. apart id Exclusive mode exclusive there refl)
    (record {
      registers = refl;
      made = refl;
      lengths = λ q not_its. sym (length-fields-run g t q not_its);
      objects = λ q not_its free. sym (fields-run g t q not_its free);
    })

-- what a transaction holds was not made by another one whose number is unused
pub locks_of-other : (g : Graph) (u : Transaction) (n : ℕ) (id : Id) (mode : Mode) → IsClosed g → u.number ≢ n → IsUnused g n → Contains (locks_of g u) (id, mode) → id.t ≢ n
locks_of-other g u n id mode closed other unused there = locks_other (fresh_view g) u.number u.calls n id mode other (fresh_view-SeesClosed g closed) unused there

exclusive_lock : (lock : Lock) (q : Id) → (lock ≡ (q, Exclusive)) ⊎ (lock ≢ (q, Exclusive))
exclusive_lock (id, Shared) q = inr (λ same. let modes = ap (λ (l : Lock). l.1) same in shared_or_not modes) where
  shared_or_not : Shared ≡ Exclusive → ⊥
  shared_or_not is = cc
exclusive_lock (id, Exclusive) q =
    elim (same_or_other id q) [
      | inl same ↦ inl (ap (λ (x : Id). (x, Exclusive)) same)
      | inr other ↦ inr (λ same. other (ap (λ (l : Lock). l.0) same))
    ]

-- a transaction holds an object exclusively, or does not
pub exclusive_or_not : (ls : List Lock) (q : Id) → Contains ls (q, Exclusive) ⊎ (Contains ls (q, Exclusive) → ⊥)
exclusive_or_not [] q = inr (λ there. absurd (omega (arith, there.1)))
exclusive_or_not (l ∷ ls) q =
    elim (exclusive_lock l q) [
      | inl here ↦ inl (Contains-append_left (l ∷ []) ls (q, Exclusive) (0, lit< tt, here))
      | inr other ↦ elim (exclusive_or_not ls q) [
        | inl later ↦ inl (Contains-append_right (l ∷ []) ls (q, Exclusive) later)
        | inr never ↦ inr (λ there. elim (Contains-append_cases (l ∷ []) ls (q, Exclusive) there) [
          | inl here ↦ other (same_Some l (q, Exclusive) (Contains-option (Some l) (q, Exclusive) here))
          | inr later ↦ never later
        ])
      ]
    ]
