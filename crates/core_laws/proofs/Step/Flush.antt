-- When a flush of a valid core is refused, and what it calls.
use Rattle.std.proofs.Common.{◌≡◌, ℕ, ◌+◌, ◌<◌, ◌≤◌, Bool, true, false, cond, Option, Some, None, refl, ap, ◌∙◌}
use Rattle.std.specs.Prelude.{nat_lt, if◌then◌else◌}
use Rattle.std.proofs.lemmas.Bool.{lt-ltb, le-ltb}
use Rattle.graph_model.specs.declared.event.Event.TheVariants.{Flush}
use Rattle.graph_model.specs.declared.reply.Refusal.{Refusal}
use Rattle.graph_model.specs.declared.reply.Refusal.TheVariants.{NoSuchPage}
use Rattle.graph_model.specs.Graph.{Graph}
use Rattle.graph_model.specs.History.{Account, account}
use Rattle.graph_model.specs.Plain.{call_conflict, first_of_two}
use Rattle.graph_model.specs.Transaction.{Transaction}
use Rattle.page_redo.specs.Pages.{pages_in}
use Rattle.heap_model.specs.Core.{Core, Ground, ground, room_refusal, words_refusal, log_refusal, core_refusal, present_lsn, is_dirty, is_ahead, force_calls, store_calls, calls}
use Rattle.heap_model.proofs.Run.Calls.{calls-granted}
use Rattle.heap_model.proofs.Step.Transfers.{calls_storing}
use Rattle.core_laws.proofs.Step.Events.{unfailed_refusal, log_flush}
use Rattle.core_laws.specs.Valid.{IsValid}

flush_room : (g : Ground) (g0 : Graph) (a : Account) (o : Option Transaction) (p : ℕ) → room_refusal g g0 a o (Flush p) ≡ None
flush_room g g0 a None p = refl
flush_room g g0 a (Some t) p = refl

flush_free : (g0 : Graph) (a : Account) (o : Option Transaction) (p : ℕ) → call_conflict g0 a o (Flush p) ≡ None
flush_free g0 a None p = refl
flush_free g0 a (Some t) p = refl

-- a flush gives way to none, and asks whether there is such a page
flush_asks : (c : Core) (p : ℕ) → IsValid c → core_refusal c (Flush p) ≡ first_of_two (words_refusal c (Flush p)) (log_refusal c (Flush p))
flush_asks c p valid =
    let a = account c.history in
    unfailed_refusal c (Flush p) valid.unfailed
    ∙ ap (λ (o : Option Refusal). first_of_two o (first_of_two (words_refusal c (Flush p)) (log_refusal c (Flush p)))) (flush_free c.g0 a (a.active 0) p)

-- the same, where it is known whether there is
flush_found : (c : Core) (p : ℕ) (there : Bool) → IsValid c → nat_lt p (pages_in c.pages) ≡ there → core_refusal c (Flush p) ≡ cond there None (Some NoSuchPage)
flush_found c p there valid is =
    let a = account c.history in
    let found : Option Refusal = cond there None (Some NoSuchPage) in
    flush_asks c p valid
    ∙ ap (λ (b : Bool). first_of_two (first_of_two (cond b None (Some NoSuchPage)) (room_refusal (ground c) c.g0 a (a.active 0) (Flush p))) (log_refusal c (Flush p))) is
    ∙ ap (λ (o : Option Refusal). first_of_two (first_of_two found o) (log_refusal c (Flush p))) (flush_room (ground c) c.g0 a (a.active 0) p)
    ∙ ap (λ (o : Option Refusal). first_of_two (first_of_two found None) o) (log_flush c p valid)
    ∙ alone there
  where
    alone : (b : Bool) → first_of_two (first_of_two (cond b None (Some NoSuchPage)) None) None ≡ cond b None (Some NoSuchPage)
    alone true = refl
    alone false = refl

-- a flush of a page that is there is not refused
pub flush_granted : (c : Core) (p : ℕ) → IsValid c → p < pages_in c.pages → core_refusal c (Flush p) ≡ None
flush_granted c p valid there = flush_found c p true valid (lt-ltb p (pages_in c.pages) there)

-- any other is
pub flush_refused : (c : Core) (p : ℕ) → IsValid c → pages_in c.pages ≤ p → core_refusal c (Flush p) ≡ Some NoSuchPage
flush_refused c p valid beyond = flush_found c p false valid (le-ltb p (pages_in c.pages) beyond)

-- it calls the disk where the page has changed since it was stored, and forces what waits first where the page is ahead of the log there
pub calls-flushed : (c : Core) (p : ℕ) → IsValid c → p < pages_in c.pages
    → calls c (Flush p) ≡ (if is_dirty c p then (if is_ahead c p then force_calls c.pending else 0) + store_calls (c.gates p) else 0)
calls-flushed c p valid there =
    calls-granted c (Flush p) (flush_granted c p valid there) ∙ calls_storing c (is_dirty c p) (is_ahead c p) p (present_lsn c p)
