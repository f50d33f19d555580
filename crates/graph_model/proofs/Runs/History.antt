-- Laws of histories and of what transactions do: one more entry, call or transaction.
use Rattle.std.proofs.Common.{◌≡◌, ℕ, ◌+◌, ◌≤◌, zero, suc, Bool, true, false, List, [], ◌∷◌, ◌++◌, length, replicate, take, Option, Some, None, refl, ap, ◌∙◌, arith}
use Rattle.std.specs.Prelude.{slice_index_or, fold, option_and_then, if◌then◌else◌}
use Rattle.std.proofs.lemmas.List.{length-set, length-replicate, take-append-le}
use Rattle.std.proofs.lemmas.Option.{slice_get_past}
use Rattle.std.proofs.lemmas.List.Sums.{fold-append}
use Rattle.graph_model.specs.declared.id.Id.{Id}
use Rattle.graph_model.specs.declared.event.Event.{Event}
use Rattle.graph_model.specs.declared.event.Event.TheVariants.{Root, New, Drop, Get, Same, Len}
use Rattle.graph_model.specs.declared.reply.Entry.{Entry}
use Rattle.graph_model.specs.declared.reply.Reply.{Reply}
use Rattle.graph_model.specs.declared.reply.Reply.TheVariants.{Begun, Done, Yes, No, Sealed, Aborted, Durable, Flipped, Collecting, Scanned, Collected, Idle, Flushed, Clean, Refused}
use Rattle.graph_model.specs.declared.val.Val.{Val}
use Rattle.graph_model.specs.declared.val.Val.TheVariants.{Null, Int, Ref}
use Rattle.graph_model.specs.Graph.{Graph, is_same_id}
use Rattle.graph_model.specs.Transaction.{Registers, no_registers, View, Transaction, held, fields_of, with_referred, value_reply, same_reply, call, after_calls, call_replies, fresh_view, run, serial}
use Rattle.graph_model.specs.History.{Account, account_after, account, nothing_yet, session_of, makes_call}
use Rattle.graph_model.specs.Replies.{IsCallReply}

-- what a history says with one more entry
pub account-append : (h : List Entry) (e : Entry) → account (h ++ e ∷ []) ≡ account_after (account h) e
account-append h e = fold-append account_after nothing_yet h (e ∷ [])

entries-fold : (a : Account) (h : List Entry) → (fold account_after a h).entries ≡ a.entries + length h
entries-fold a [] = omega arith
entries-fold a (e ∷ h) = let next = entries-fold (account_after a e) h in omega arith

-- a history says how long it is
pub entries-account : (h : List Entry) → (account h).entries ≡ length h
entries-account h = entries-fold nothing_yet h ∙ omega arith

-- the view after one more call
pub after_calls-append : (v : View) (t : ℕ) (cs : List Event) (c : Event) → after_calls v t (cs ++ c ∷ []) ≡ (call (after_calls v t cs) t c).view
after_calls-append v t [] c = refl
after_calls-append v t (d ∷ cs) c = after_calls-append (call v t d).view t cs c

-- the replies with one more call
pub call_replies-append : (v : View) (t : ℕ) (cs : List Event) (c : Event) → call_replies v t (cs ++ c ∷ []) ≡ call_replies v t cs ++ (call (after_calls v t cs) t c).reply ∷ []
call_replies-append v t [] c = refl
call_replies-append v t (d ∷ cs) c = ap (λ rs. (call v t d).reply ∷ rs) (call_replies-append (call v t d).view t cs c)

-- what a transaction sees after one more call
pub run-append : (g : Graph) (t : Transaction) (c : Event) → run g (record { number = t.number; calls = t.calls ++ c ∷ [] }) ≡ (call (run g t) t.number c).view
run-append g t c = after_calls-append (fresh_view g) t.number t.calls c

-- the graph after one more transaction
pub serial-append : (g : Graph) (ts : List Transaction) (t : Transaction) → serial g (ts ++ t ∷ []) ≡ (run (serial g ts) t).graph
serial-append g [] t = refl
serial-append g (u ∷ ts) t = serial-append (run g u).graph ts t

-- the graph after the first k transactions stays when others follow
pub serial-take : (g : Graph) (ts more : List Transaction) (k : ℕ) → k ≤ length ts → serial g (take k (ts ++ more)) ≡ serial g (take k ts)
serial-take g ts more k h = ap (serial g) (take-append-le k ts more h)

-- there is no handle past the last
pub held-past : (rs : Registers) (h : ℕ) → length rs ≤ h → held rs h ≡ None
held-past rs h le = ap (option_and_then (λ id. id)) (slice_get_past rs h le)

held-replicate : (n h : ℕ) → held (replicate n None) h ≡ None
held-replicate zero h = refl
held-replicate (suc n) zero = refl
held-replicate (suc n) (suc h) = held-replicate n h

-- at first no handle holds anything
pub held-no_registers : (h : ℕ) → held no_registers h ≡ None
held-no_registers h = held-replicate 64 h

length-with_referred : (rs : Registers) (h : ℕ) (v : Val) → length (with_referred rs h v) ≡ length rs
length-with_referred rs h Null = refl
length-with_referred rs h (Int n) = refl
length-with_referred rs h (Ref id) = length-set _ _ _

-- a call neither adds nor removes handles
pub length-registers-call : (v : View) (t : ℕ) (c : Event) → length (call v t c).view.registers ≡ length v.registers
length-registers-call v t (Root s h) = length-set _ _ _
length-registers-call v t (New s h len) = length-set _ _ _
length-registers-call v t (Drop s h) = length-set _ _ _
length-registers-call v t (Get s h i h2) = length-with_referred v.registers h2 _
length-registers-call v t c = refl

-- nor do calls
pub length-registers-after_calls : (v : View) (t : ℕ) (cs : List Event) → length (after_calls v t cs).registers ≡ length v.registers
length-registers-after_calls v t [] = refl
length-registers-after_calls v t (c ∷ cs) = length-registers-after_calls (call v t c).view t cs ∙ length-registers-call v t c

-- a transaction has 64 handles
pub length-registers-run : (g : Graph) (t : Transaction) → length (run g t).registers ≡ 64
length-registers-run g t = length-registers-after_calls (fresh_view g) t.number t.calls ∙ length-replicate {A = Option Id} 64 None

value_reply-IsCallReply : (v : Val) → IsCallReply (value_reply v)
value_reply-IsCallReply Null = tt
value_reply-IsCallReply (Int n) = tt
value_reply-IsCallReply (Ref id) = tt

yes_or_no : (b : Bool) → IsCallReply (if b then Yes else No)
yes_or_no true = tt
yes_or_no false = tt

same_reply-IsCallReply : (o p : Option Id) → IsCallReply (same_reply o p)
same_reply-IsCallReply None p = tt
same_reply-IsCallReply (Some id) None = tt
same_reply-IsCallReply (Some id) (Some other) = yes_or_no (is_same_id id other)

-- what a call is answered is such a reply
pub call-IsCallReply : (v : View) (t : ℕ) (c : Event) → IsCallReply (call v t c).reply
call-IsCallReply v t (Get s h i h2) = value_reply-IsCallReply (slice_index_or (fields_of v.graph (held v.registers h)) i Null)
call-IsCallReply v t (Same s h h2) = same_reply-IsCallReply (held v.registers h) (held v.registers h2)
call-IsCallReply v t c = tt

-- an order is an event that asks nothing
abbrev pub IsOrder : Event → Type 0
IsOrder (Get s h i h2) = ⊥
IsOrder (Same s h h2) = ⊥
IsOrder (Len s h) = ⊥
IsOrder event = Unit {0}

-- an order that isn't refused is answered `done`
pub call-reply : (v : View) (t : ℕ) (c : Event) → IsOrder c → (call v t c).reply ≡ Done
call-reply v t (Get s h i h2) order = absurd order
call-reply v t (Same s h h2) order = absurd order
call-reply v t (Len s h) order = absurd order
call-reply v t c order = refl

-- what a history says with one more call that was not refused
pub account_after-call : (a : Account) (event : Event) (reply : Reply) → IsCallReply reply
    → account_after a (record { event = event; reply = reply }) ≡ record (makes_call a (session_of event) event) { entries = a.entries + 1 }
account_after-call a event (Begun n) never = absurd never
account_after-call a event (Sealed n) never = absurd never
account_after-call a event Aborted never = absurd never
account_after-call a event (Durable n) never = absurd never
account_after-call a event (Flipped objects words) never = absurd never
account_after-call a event Collecting never = absurd never
account_after-call a event (Scanned page objects words) never = absurd never
account_after-call a event (Collected used) never = absurd never
account_after-call a event Idle never = absurd never
account_after-call a event (Flushed page) never = absurd never
account_after-call a event (Clean page) never = absurd never
account_after-call a event (Refused why) never = absurd never
account_after-call a event reply is = refl
