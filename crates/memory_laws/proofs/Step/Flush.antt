-- A flush is answered as the core answers it, and leaves memory as the core is then.
use Rattle.std.proofs.Common.{◌≡◌, ℕ, ◌+◌, ◌<◌, ◌≤◌, Bool, true, false, cond, None, Some, refl, sym, ap, ◌∙◌, subst}
use Rattle.std.specs.Prelude.{fold}
use Rattle.graph_model.specs.declared.event.Event.TheVariants.{Flush}
use Rattle.graph_model.specs.declared.reply.Refusal.TheVariants.{NoSuchPage}
use Rattle.graph_model.specs.declared.reply.Reply.{Reply}
use Rattle.graph_model.specs.declared.reply.Reply.TheVariants.{Flushed, Clean, Refused}
use Rattle.graph_model.specs.History.{Account, account, account_after}
use Rattle.page_redo.specs.Pages.{pages_in}
use Rattle.heap_model.specs.Core.{Core, granted_by, present_lsn, is_dirty, is_ahead, made, storing, done}
use Rattle.core_laws.proofs.Step.Flush.{flush_granted, flush_refused}
use Rattle.core_laws.specs.Valid.{IsValid}
use Rattle.heap_memory.specs.Memory.{Memory}
use Rattle.memory_laws.proofs.Step.Answered.{Goes, memory_told, does}
use Rattle.memory_laws.specs.CoreMemory.{IsMemory}
use Rattle.memory_laws.proofs.Does.{Does}

-- an entry of a flush says nothing of transactions, whether its page was dirty or not
flush_adds : (a : Account) (p : ℕ) (dirty : Bool) → account_after a (record { event = Flush p; reply = cond dirty (Flushed p) (Clean p) }) ≡ record a { entries = a.entries + 1 }
flush_adds a p true = refl
flush_adds a p false = refl

-- so memory in which the page is stored is that of the core then
flush_goes : (new : Memory) (c : Core) (p : ℕ) → IsMemory new (account c.history) (done c (Flush p)) → Goes new c (Flush p)
flush_goes new c p is =
    let a = account c.history in
    subst (λ (b : Account). IsMemory new b (done c (Flush p))) (sym (flush_adds a p (is_dirty c p))) (memory_told new a (done c (Flush p)) a.acknowledged (a.entries + 1) is)

-- a flush of no page of the heap is refused
pub flush_no_page : (new : Memory) (c : Core) (p : ℕ) (reply : Reply) → IsValid c → pages_in c.pages ≤ p → IsMemory new (account c.history) c → reply ≡ Refused NoSuchPage → Does c (Flush p) reply new
flush_no_page new c p reply valid past is replied =
    does c (Flush p) (Some NoSuchPage) (granted_by c (Flush p)) reply new (flush_refused c p valid past) replied (λ e. refl) (λ e flushed_it. cc e) (λ why e. is)

-- one of a page that is stored as it is changes nothing
pub flush_clean : (new : Memory) (c : Core) (p : ℕ) (reply : Reply) → IsValid c → p < pages_in c.pages → is_dirty c p ≡ false → IsMemory new (account c.history) c → reply ≡ Clean p
    → Does c (Flush p) reply new
flush_clean new c p reply valid lt clean is replied =
    let same : done c (Flush p) ≡ c = ap (λ (b : Bool). fold made c (storing b (is_ahead c p) p (present_lsn c p))) clean in
    does c (Flush p) None (Clean p) reply new (flush_granted c p valid lt) replied (λ e. ap (λ (b : Bool). cond b (Flushed p) (Clean p)) clean)
    (λ e clean_it. flush_goes new c p (subst (IsMemory new (account c.history)) (sym same) is)) (λ why e. is)

-- and one of a page that has changed stores it
pub flush_done : (new : Memory) (c : Core) (p : ℕ) (reply : Reply) → IsValid c → p < pages_in c.pages → is_dirty c p ≡ true → IsMemory new (account c.history) (done c (Flush p)) → reply ≡ Flushed p
    → Does c (Flush p) reply new
flush_done new c p reply valid lt dirty is replied =
    does c (Flush p) None (Flushed p) reply new (flush_granted c p valid lt) replied (λ e. ap (λ (b : Bool). cond b (Flushed p) (Clean p)) dirty)
    (λ e flushed_it. flush_goes new c p is) (λ why refused. let never : Flushed p ≡ Refused why = sym replied ∙ refused in cc never)
