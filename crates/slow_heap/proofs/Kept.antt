-- What the slow heap keeps stays what its history says.
use Rattle.std.proofs.Common.{◌≡◌, ℕ, ◌+◌, ◌≤◌, inl, inr, List, [], ◌∷◌, ◌++◌, length, take, get_or, Option, Some, None, sym, ap, ◌∙◌, subst, arith, length-append}
use Rattle.std.specs.Prelude.{option_to_list}
use Rattle.std.specs.BTreeMap as tree
use Rattle.std.specs.BTreeMap.{BTreeMap}
use Rattle.std.specs.Ordering.{nat_cmp}
use Rattle.std.proofs.lemmas.Grind.{common_steps}
use Rattle.std.proofs.lemmas.Bool.{cases_lt}
use Rattle.std.proofs.Math.Seq.{take-length, get_or-append_seam}
use Rattle.std.proofs.lemmas.List.{take-append-le, get_or_append_left}
use Rattle.graph_model.specs.declared.id.Id.{Id}
use Rattle.graph_model.specs.declared.val.Val.{Val}
use Rattle.graph_model.specs.declared.event.Event.{Event}
use Rattle.graph_model.specs.declared.event.Event.TheVariants.{Seal}
use Rattle.graph_model.specs.declared.reply.Entry.{Entry}
use Rattle.graph_model.specs.declared.reply.Refusal.{Refusal}
use Rattle.graph_model.specs.declared.reply.Reply.{Reply}
use Rattle.graph_model.specs.declared.reply.Reply.TheVariants.{Sealed, Refused}
use Rattle.slow_heap.specs.declared.transaction_view.TransactionView.{TransactionView}
use Rattle.graph_model.specs.Graph.{new_graph}
use Rattle.graph_model.specs.Transaction.{View, Outcome, Transaction, call, run, serial}
use Rattle.graph_model.specs.History.{Account, account, account_after, sealed, session_of, with_active, with_call, makes_call}
use Rattle.graph_model.specs.Replies.{IsCallReply}
use Rattle.graph_model.proofs.Runs.History.{call-IsCallReply, account-append, account_after-call, serial-append}
use Rattle.slow_heap.specs.Objects.{graph_of}
use Rattle.graph_model.proofs.Refusals.Plain.{IsNoFault, account_after-refused}
use Rattle.slow_heap.specs.SlowHeap.{IsSlowHeap, Leaves, seen_by}

-- the objects after each number of sealed transactions
abbrev States : Type 0
States = List (List (Id × List Val))

-- one more entry
pub kept_entry : (h new : List Entry) (e : Entry) (next : ℕ) (active : BTreeMap ℕ Transaction) (states : States)
    → new ≡ h ++ e ∷ [] → IsSlowHeap (account_after (account h) e) next active states → IsSlowHeap (account new) next active states
kept_entry h new e next active states is k =
    let P : Account → Type 0 = λ a. IsSlowHeap a next active states in
    subst P (sym (ap account is ∙ account-append h e)) k

-- one more refusal
pub kept_refused : (a : Account) (next : ℕ) (active : BTreeMap ℕ Transaction) (states : States) (event : Event) (why : Refusal)
    → IsNoFault why → IsSlowHeap a next active states → IsSlowHeap (account_after a (record { event = event; reply = Refused why })) next active states
kept_refused a next active states event why h k =
    let P : Account → Type 0 = λ b. IsSlowHeap b next active states in
    subst P (sym (account_after-refused a event why h)) (record {
      unfailed = k.unfailed;
      numbered = k.numbered;
      own = k.own;
      count = k.count;
      graphs = k.graphs;
    })

-- where the map changes at one session, so does what each session has
updated : (active after : BTreeMap ℕ Transaction) (f : ℕ → Option Transaction) (s : ℕ) (w : Option Transaction) → ((q : ℕ) → tree.get nat_cmp active q ≡ f q) → tree.Updates nat_cmp active after s w
    → (q : ℕ) → tree.get nat_cmp after q ≡ with_active f s w q
updated active after f s w own updates q = grind (arith, common_steps, own q, updates.0 q)

-- a call that was not refused
pub kept_called : (a : Account) (next s : ℕ) (active after : BTreeMap ℕ Transaction) (states : States) (t : Transaction) (event : Event) (reply : Reply)
    → IsSlowHeap a next active states → s ≡ session_of event → a.active s ≡ Some t → IsCallReply reply
    → tree.Updates nat_cmp active after s (Some (record { number = t.number; calls = t.calls ++ event ∷ [] }))
    → IsSlowHeap (account_after a (record { event = event; reply = reply })) next after states
kept_called a next s active after states t event reply k session is told updates =
    let P : Account → Type 0 = λ b. IsSlowHeap b next after states in
    let Q : ℕ → Type 0 = λ r. P (record (makes_call a r event) { entries = a.entries + 1 }) in
    subst P (sym (account_after-call a event reply told)) (subst Q session (record {
      unfailed = k.unfailed;
      numbered = k.numbered;
      own = λ q. updated active after a.active s _ k.own updates q ∙ ap (λ o. with_active a.active s (with_call o event) q) (sym is);
      count = k.count;
      graphs = k.graphs;
    }))

-- what a call was answered that was made
made_reply : (v : View) (n : ℕ) (event : Event) (before after : TransactionView) (reply : Reply) → Leaves before after reply (call v n event) → IsCallReply reply
made_reply v n event before after reply leaves = subst IsCallReply (ap (λ (o : Outcome). o.reply) leaves.outcome) (call-IsCallReply v n event)

-- the same, by what was read and written
pub kept_called_by : (h room new : List Entry) (next s : ℕ) (active after : BTreeMap ℕ Transaction) (states : States) (t more : Transaction) (v : View) (n : ℕ) (event : Event) (before changed : TransactionView) (reply : Reply)
    → IsSlowHeap (account h) next active states → s ≡ session_of event → Some t ≡ tree.get nat_cmp active s → more ≡ record { number = t.number; calls = t.calls ++ event ∷ [] }
    → Leaves before changed reply (call v n event) → tree.Updates nat_cmp active after s (Some more) → room ≡ h → new ≡ room ++ record { event = event; reply = reply } ∷ [] → IsSlowHeap (account new) next after states
kept_called_by h room new next s active after states t more v n event before changed reply k session found is leaves updates held added =
    let e : Entry = record { event = event; reply = reply } in
    kept_entry h new e next after states (added ∙ ap (λ es. es ++ e ∷ []) held)
    (kept_called (account h) next s active after states t event reply k session (sym (k.own s) ∙ sym found) (made_reply v n event before changed reply leaves)
    (subst (λ (u : Transaction). tree.Updates nat_cmp active after s (Some u)) is updates))

-- the graphs with one more transaction
more_graphs : (ts : List Transaction) (t : Transaction) (states : States) (rows : List (Id × List Val))
    → length states ≡ length ts + 1
    → ((j : ℕ) → j ≤ length ts → serial new_graph (take j ts) ≡ graph_of (get_or states j []))
    → (run (serial new_graph ts) t).graph ≡ graph_of rows
    → (j : ℕ) → j ≤ length (ts ++ t ∷ []) → serial new_graph (take j (ts ++ t ∷ [])) ≡ graph_of (get_or (states ++ rows ∷ []) j [])
more_graphs ts t states rows n old new j le =
    elim (cases_lt (length ts) j) [
      | inl gt ↦
          let whole : length (ts ++ t ∷ []) ≡ j = omega (arith, length-append ts (t ∷ [])) in
          let here : length states ≡ j = omega (arith, length-append ts (t ∷ [])) in
          ap (λ m. serial new_graph (take m (ts ++ t ∷ []))) (sym whole)
          ∙ ap (serial new_graph) (take-length (ts ++ t ∷ []))
          ∙ serial-append new_graph ts t
          ∙ new
          ∙ ap graph_of (sym (get_or-append_seam states rows [] []))
          ∙ ap (λ m. graph_of (get_or (states ++ rows ∷ []) m [])) here
      | inr within ↦
          ap (serial new_graph) (take-append-le j ts (t ∷ []) within)
          ∙ old j within
          ∙ ap graph_of (sym (get_or_append_left states (rows ∷ []) [] j (omega arith)))
    ]

-- a transaction that ends
pub kept_sealed : (a : Account) (next n s : ℕ) (active after : BTreeMap ℕ Transaction) (states : States) (t : Transaction) (rows : List (Id × List Val))
    → IsSlowHeap a next active states → a.active s ≡ Some t → (run (serial new_graph a.sealed) t).graph ≡ graph_of rows → tree.Updates nat_cmp active after s None
    → IsSlowHeap (account_after a (record { event = Seal s; reply = Sealed n })) next after (states ++ rows ∷ [])
kept_sealed a next n s active after states t rows k is sees updates =
    let ts : a.sealed ++ option_to_list (a.active s) ≡ a.sealed ++ t ∷ [] = ap (λ o. a.sealed ++ option_to_list o) is in
    let P : List Transaction → Type 0 = λ us. (j : ℕ) → j ≤ length us → serial new_graph (take j us) ≡ graph_of (get_or (states ++ rows ∷ []) j []) in
    record {
      unfailed = k.unfailed;
      numbered = k.numbered;
      own = updated active after a.active s None k.own updates;
      count = length-append states (rows ∷ []) ∙ ap (λ m. m + 1) (k.count ∙ sym (ap length ts ∙ length-append a.sealed (t ∷ [])));
      graphs = subst P (sym ts) (more_graphs a.sealed t states rows k.count k.graphs sees);
    }

-- the same, by what was read and written
pub kept_sealed_by : (h now room new : List Entry) (next n s : ℕ) (active after : BTreeMap ℕ Transaction) (states spare more : States) (t : Transaction) (v : TransactionView) (objects rows : List (Id × List Val))
    → IsSlowHeap (account h) next active states → Some t ≡ tree.get nat_cmp active s → h ≡ now → graph_of rows ≡ serial new_graph (sealed now) → seen_by v ≡ run (graph_of rows) t → objects ≡ v.objects → tree.Updates nat_cmp active after s None
    → spare ≡ states → more ≡ spare ++ objects ∷ [] → room ≡ h → new ≡ room ++ record { event = Seal s; reply = Sealed n } ∷ [] → IsSlowHeap (account new) next after more
kept_sealed_by h now room new next n s active after states spare more t v objects rows k found told left sees own updates kept grown held added =
    let e : Entry = record { event = Seal s; reply = Sealed n } in
    let graph = ap (λ es. (run (serial new_graph (sealed es)) t).graph) told ∙ ap (λ g. (run g t).graph) (sym left) ∙ ap (λ (u : View). u.graph) (sym sees) ∙ ap graph_of (sym own) in
    let P : States → Type 0 = λ ss. IsSlowHeap (account new) next after ss in
    subst P (sym (grown ∙ ap (λ ss. ss ++ objects ∷ []) kept))
    (kept_entry h new e next after (states ++ objects ∷ []) (added ∙ ap (λ es. es ++ e ∷ []) held)
    (kept_sealed (account h) next n s active after states t objects k (sym (k.own s) ∙ sym found) graph updates))
