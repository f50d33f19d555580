-- What is read of one entry, and of one after another.
use Rattle.std.proofs.Common.{◌≡◌, ℕ, ◌+◌, List, [], ◌∷◌, ◌++◌, Result, Ok, Err, OnOk, refl, sym, subst}
use Rattle.graph_model.specs.declared.reply.Entry.{Entry}
use Rattle.graph_model.specs.declared.reply.Refusal.{Refusal}
use Rattle.graph_model.specs.declared.reply.Reply.{Reply}
use Rattle.graph_model.specs.declared.reply.Reply.TheVariants.{Begun, Sealed, Aborted, Durable, Flipped, Collecting, Scanned, Collected, Idle, Flushed, Clean, Refused}
use Rattle.graph_model.specs.History.{Account, account, account_after, answered, begins, makes_call, session_of}
use Rattle.graph_model.specs.Replies.{IsCallReply}
use Rattle.graph_model.proofs.Runs.History.{account-append, account_after-call}
use Rattle.heap_history.specs.declared.reading.Reading.{Reading}
use Rattle.heap_history.specs.Told.{TellsOf, KeepsReading}

on_ok : {T E : Type 0} (r : Result T E) (P Q : Type 0) → (P → Q) → OnOk r P → OnOk r Q
on_ok (Ok x) P Q f h = f h
on_ok (Err e) P Q f h = tt

-- a count of entries does not matter
recounted : (a : Account) (n : ℕ) (reading : Reading) → TellsOf a reading → TellsOf (record a { entries = n }) reading
recounted a n reading told = record { active = told.active; sealed = told.sealed; in_doubt = told.in_doubt }

-- a transaction that begins
pub begun_keeps : {T E : Type 0} (r : Result T E) (e : Entry) (s n : ℕ) (old new : Reading) → e.reply ≡ Begun n → s ≡ session_of e.event → OnOk r (KeepsReading (λ a. begins a s n) old new) → OnOk r (KeepsReading (λ a. account_after a e) old new)
begun_keeps r e s n old new is session =
    on_ok r _ _ (λ keeps a told.
    let P : Reply → Type 0 = λ reply. TellsOf (record (answered a e.event reply) { entries = a.entries + 1 }) new in
    subst P (sym is) (recounted (begins a (session_of e.event) n) (a.entries + 1) new (subst (λ q. TellsOf (begins a q n) new) session (keeps a told))))

call_reply : (reply : Reply) → ((n : ℕ) → reply ≡ Begun n → ⊥) → ((n : ℕ) → reply ≡ Sealed n → ⊥) → (reply ≡ Aborted → ⊥) → ((n : ℕ) → reply ≡ Durable n → ⊥) → ((objects words : ℕ) → reply ≡ Flipped objects words → ⊥) → (reply ≡ Collecting → ⊥) → ((page objects words : ℕ) → reply ≡ Scanned page objects words → ⊥) → ((used : ℕ) → reply ≡ Collected used → ⊥) → (reply ≡ Idle → ⊥) → ((page : ℕ) → reply ≡ Flushed page → ⊥) → ((page : ℕ) → reply ≡ Clean page → ⊥) → ((why : Refusal) → reply ≡ Refused why → ⊥) → IsCallReply reply
call_reply (Begun n) begun sealed aborted durable flipped collecting scanned collected idle flushed clean refused = begun n refl
call_reply (Sealed n) begun sealed aborted durable flipped collecting scanned collected idle flushed clean refused = sealed n refl
call_reply Aborted begun sealed aborted durable flipped collecting scanned collected idle flushed clean refused = aborted refl
call_reply (Durable n) begun sealed aborted durable flipped collecting scanned collected idle flushed clean refused = durable n refl
call_reply (Flipped objects words) begun sealed aborted durable flipped collecting scanned collected idle flushed clean refused = flipped objects words refl
call_reply Collecting begun sealed aborted durable flipped collecting scanned collected idle flushed clean refused = collecting refl
call_reply (Scanned page objects words) begun sealed aborted durable flipped collecting scanned collected idle flushed clean refused = scanned page objects words refl
call_reply (Collected used) begun sealed aborted durable flipped collecting scanned collected idle flushed clean refused = collected used refl
call_reply Idle begun sealed aborted durable flipped collecting scanned collected idle flushed clean refused = idle refl
call_reply (Flushed page) begun sealed aborted durable flipped collecting scanned collected idle flushed clean refused = flushed page refl
call_reply (Clean page) begun sealed aborted durable flipped collecting scanned collected idle flushed clean refused = clean page refl
call_reply (Refused why) begun sealed aborted durable flipped collecting scanned collected idle flushed clean refused = refused why refl
call_reply reply begun sealed aborted durable flipped collecting scanned collected idle flushed clean refused = tt

-- a call
pub call_keeps : {T E : Type 0} (r : Result T E) (e : Entry) (s : ℕ) (old new : Reading)
    → ((n : ℕ) → e.reply ≡ Begun n → ⊥) → ((n : ℕ) → e.reply ≡ Sealed n → ⊥) → (e.reply ≡ Aborted → ⊥) → ((n : ℕ) → e.reply ≡ Durable n → ⊥) → ((objects words : ℕ) → e.reply ≡ Flipped objects words → ⊥) → (e.reply ≡ Collecting → ⊥) → ((page objects words : ℕ) → e.reply ≡ Scanned page objects words → ⊥) → ((used : ℕ) → e.reply ≡ Collected used → ⊥) → (e.reply ≡ Idle → ⊥) → ((page : ℕ) → e.reply ≡ Flushed page → ⊥) → ((page : ℕ) → e.reply ≡ Clean page → ⊥) → ((why : Refusal) → e.reply ≡ Refused why → ⊥)
    → s ≡ session_of e.event → OnOk r (KeepsReading (λ a. makes_call a s e.event) old new) → OnOk r (KeepsReading (λ a. account_after a e) old new)
call_keeps r e s old new begun sealed aborted durable flipped collecting scanned collected idle flushed clean refused session =
    on_ok r _ _ (λ keeps a told.
    let is = call_reply e.reply begun sealed aborted durable flipped collecting scanned collected idle flushed clean refused in
    subst (λ b. TellsOf b new) (sym (account_after-call a e.event e.reply is))
    (recounted (makes_call a (session_of e.event) e.event) (a.entries + 1) new (subst (λ q. TellsOf (makes_call a q e.event) new) session (keeps a told))))

-- one more entry has been read
pub read_more : (before after : List Entry) (e : Entry) (old new : Reading) → after ≡ before ++ e ∷ [] → KeepsReading (λ a. account_after a e) old new → TellsOf (account before) old → TellsOf (account after) new
read_more before after e old new is keeps told = subst (λ h. TellsOf (account h) new) (sym is) (subst (λ a. TellsOf a new) (sym (account-append before e)) (keeps (account before) told))
