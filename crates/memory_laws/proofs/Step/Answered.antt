-- An event is answered as the core answers it, where it is refused for the same reason.
use Rattle.std.proofs.Common.{◌≡◌, ℕ, ◌+◌, List, [], ◌∷◌, ◌++◌, Option, Some, None, refl, sym, ap, ◌∙◌, subst}
use Rattle.graph_model.specs.declared.event.Event.{Event}
use Rattle.graph_model.specs.declared.reply.Entry.{Entry}
use Rattle.graph_model.specs.declared.reply.Refusal.{Refusal}
use Rattle.graph_model.specs.declared.reply.Reply.{Reply}
use Rattle.graph_model.specs.declared.reply.Reply.TheVariants.{Refused}
use Rattle.graph_model.specs.History.{Account, account, account_after}
use Rattle.graph_model.proofs.Runs.History.{account-append}
use Rattle.graph_model.specs.Plain.{reply_of}
use Rattle.graph_model.proofs.Refusals.Plain.{IsNoFault, HasNoFault, account_after-refused}
use Rattle.heap_model.specs.Core.{Core, core_refusal, granted_by, answer, with_entry, done, after_refusal, after}
use Rattle.heap_model.proofs.Step.Step.{core_refusal-HasNoFault}
use Rattle.heap_model.proofs.Step.Transfers.{done_history}
use Rattle.heap_memory.specs.Leaves.{IsAsItWas}
use Rattle.heap_memory.specs.Memory.{Memory}
use Rattle.memory_laws.specs.CoreMemory.{IsMemory}
use Rattle.memory_laws.proofs.Does.{Does}
use Rattle.memory_laws.proofs.Kept.Locks.{held_alike}
use Rattle.memory_laws.proofs.Kept.Log.{keeps_same}
use Rattle.memory_laws.proofs.Kept.Same.{same_pages, same_sessions}

-- Another history, and one more entry, change nothing of memory.

memory_with : (m : Memory) (a : Account) (c : Core) (event : Event) (reply : Reply) → IsMemory m a c → IsMemory m a (with_entry c event reply)
memory_with m a c event reply h = record {
  log = h.log;
  place = h.place;
  room = h.room;
  words = h.words;
  pages = h.pages;
  sessions = h.sessions;
}

memory_entry : (m : Memory) (c d : Core) (event : Event) (reply : Reply) → d.history ≡ c.history → IsMemory m (account_after (account c.history) (record { event = event; reply = reply })) d
    → IsMemory m (account (with_entry d event reply).history) (with_entry d event reply)
memory_entry m c d event reply same h =
    let entry : Entry = record { event = event; reply = reply } in
    let said : account (d.history ++ entry ∷ []) ≡ account_after (account c.history) entry = account-append d.history entry ∙ ap (λ (l : List Entry). account_after (account l) entry) same in
    let P : Account → Type 0 = λ a. IsMemory m a (with_entry d event reply) in
    subst P (sym said) (memory_with m _ d event reply h)

-- nor do more entries, and more that was acknowledged
pub memory_told : (m : Memory) (a : Account) (c : Core) (acknowledged entries : ℕ) → IsMemory m a c → IsMemory m (record a { acknowledged = acknowledged; entries = entries }) c
memory_told m a c acknowledged entries h = record {
  log = h.log;
  place = h.place;
  room = h.room;
  words = h.words;
  pages = h.pages;
  sessions =
      let is = h.sessions in
      record {
        state = is.state;
        reached = is.reached;
        spaces = is.spaces;
        collection = is.collection;
        transactions = is.transactions;
        locks = held_alike m.locks c.places c.g0 a (record a { acknowledged = acknowledged; entries = entries }) refl refl is.locks;
        next = is.next;
        sealed = is.sealed;
      };
}

memory_refused : (m : Memory) (a : Account) (c : Core) (event : Event) (why : Refusal) → IsNoFault why → IsMemory m a c → IsMemory m (account_after a (record { event = event; reply = Refused why })) c
memory_refused m a c event why sound h =
    let P : Account → Type 0 = λ b. IsMemory m b c in
    subst P (sym (account_after-refused a event why sound)) (memory_told m a c a.acknowledged (a.entries + 1) h)

-- Memory is that of a core which has done an event that its history does not have yet.
abbrev pub Goes : Memory → Core → Event → Type 0
Goes n c event = IsMemory n (account_after (account c.history) (record { event = event; reply = granted_by c event })) (done c event)

either_way : (n : Memory) (c : Core) (event : Event) (o : Option Refusal) → HasNoFault o → (o ≡ None → Goes n c event) → ((why : Refusal) → o ≡ Some why → IsMemory n (account c.history) c)
    → IsMemory n (account (with_entry (after_refusal o c event) event (reply_of o (granted_by c event))).history) (with_entry (after_refusal o c event) event (reply_of o (granted_by c event)))
either_way n c event None sound go stay =
    memory_entry n c (done c event) event _ (done_history c event) (go refl)
either_way n c event (Some why) sound go stay = memory_entry n c c event (Refused why) refl (memory_refused n (account c.history) c event why sound (stay why refl))

memory_after : (n : Memory) (c : Core) (event : Event) (o : Option Refusal) → core_refusal c event ≡ o → (o ≡ None → Goes n c event) → ((why : Refusal) → o ≡ Some why → IsMemory n (account c.history) c)
    → IsMemory n (account (after c event).history) (after c event)
memory_after n c event o is go stay = either_way n c event (core_refusal c event) (core_refusal-HasNoFault c event) (λ e. go (sym is ∙ e)) (λ why e. stay why (sym is ∙ e))

answer_same : (c : Core) (event : Event) (o : Option Refusal) (reply : Reply) → core_refusal c event ≡ o → (o ≡ None → granted_by c event ≡ reply) → reply_of o reply ≡ answer c event
answer_same c event None reply is gives = sym (gives refl) ∙ ap (λ (p : Option Refusal). reply_of p (granted_by c event)) (sym is)
answer_same c event (Some why) reply is gives = ap (λ (p : Option Refusal). reply_of p (granted_by c event)) (sym is)

-- an event is answered as the core answers it where it is refused for the same reason, and leaves memory as the core is then
pub does : (c : Core) (event : Event) (o : Option Refusal) (gives reply : Reply) (n : Memory) → core_refusal c event ≡ o → reply ≡ reply_of o gives
    → (o ≡ None → granted_by c event ≡ gives) → (o ≡ None → reply ≡ gives → Goes n c event)
    → ((why : Refusal) → reply ≡ Refused why → IsMemory n (account c.history) c) → Does c event reply n
does c event o gives reply n is replied gives_is go stay = record {
  replied = replied ∙ answer_same c event o gives is gives_is;
  memory = memory_after n c event o is
      (λ e. go e (replied ∙ ap (λ (p : Option Refusal). reply_of p gives) e))
      (λ why e. stay why (replied ∙ ap (λ (p : Option Refusal). reply_of p gives) e));
}

-- memory in which nothing but what is taken in advance has changed is that of the same core
pub as_it_was : (m n : Memory) (c : Core) → IsMemory m (account c.history) c → IsAsItWas m n → IsMemory n (account c.history) c
as_it_was m n c is same = record {
  log = keeps_same m.log n.log c.batches c.pending same.log is.log;
  place = same.log.place.at ∙ is.place;
  room = same.log.place.room ∙ is.room;
  words = same.words ∙ is.words;
  pages = same_pages m n c same.lsns same.store is.pages;
  sessions = same_sessions m n (account c.history) c same.spaces same.collection same.table same.locks same.sealed is.sessions;
}
