-- A core's words stay those that its log leaves, and the pages stored beside it may stay there: a step appends records, and only a flush changes
-- a page.
use Rattle.std.specs.Prelude.{fold}
use Rattle.std.specs.List.{AllByRecursion}
use Rattle.std.proofs.Common.{◌≡◌, inl, inr, ℕ, List, [], ◌∷◌, Option, None, Some, sym, ap, ◌∙◌, subst}
use Rattle.graph_model.specs.declared.event.Event.{Event}
use Rattle.graph_model.specs.declared.event.Event.TheVariants.{Force, Flip, Scan, Flush}
use Rattle.graph_model.specs.declared.reply.Refusal.{Refusal}
use Rattle.graph_model.specs.declared.reply.Reply.{Reply}
use Rattle.log_records.specs.declared.Record.{Record}
use Rattle.log_machine.specs.Machine.{put_record}
use Rattle.page_redo.specs.Origin.{heap_origin}
use Rattle.gated_log.specs.Log.{records_of}
use Rattle.page_redo.specs.Pages.{Pages}
use Rattle.page_redo.specs.Prefix.{EachHoldsPrefix}
use Rattle.page_redo.specs.Redo.{words_from}
use Rattle.page_redo.proofs.PrefixLaws.{EachHoldsPrefix-append}
use Rattle.page_redo.proofs.RedoLaws.{heap_words-append}
use Rattle.heap_model.specs.Core.{Core, log_origin, all_words, all_records, answer, core_refusal, with_entry, Transfer, Lands, Stores, batch_of, landed, made, transfers, noted, moved, own_records, barrier_records, done, after_refusal, IsStep}
use Rattle.heap_model.specs.CoreCrash.{HasLogWords, IsLogged, IsSuperOf}
use Rattle.heap_model.specs.Image.{StoredHeap, origin_of}
use Rattle.heap_model.proofs.Step.Moved.{moved_keeps}
use Rattle.heap_model.proofs.Step.Room.{records_of-append}
use Rattle.heap_model.proofs.Step.Transfers.{IsLanding, all_made, all_landed}

-- the log of a core begins where that of its superblock does
pub super_origin : (stored : StoredHeap) (c : Core) → IsSuperOf stored.super c → origin_of stored ≡ log_origin c
super_origin stored c of = ap (λ (pages : ℕ). heap_origin pages stored.super.first) of.pages ∙ ap (heap_origin c.pages) of.first

-- the words after all records are those that all of them leave
pub all_logged : (c : Core) → HasLogWords c → all_words c ≡ words_from (log_origin c) (all_records c)
all_logged c logged = ap (λ (ws : List ℕ). fold put_record ws c.pending) logged ∙ sym (heap_words-append c.pages c.first_number (records_of c.batches) c.pending)

words_landed : (c : Core) (waits : List (List Record)) → HasLogWords c → HasLogWords (landed c waits)
words_landed c [] logged = logged
words_landed c (next ∷ waits) logged =
    ap (λ (ws : List ℕ). fold put_record ws next) logged
    ∙ sym (heap_words-append c.pages c.first_number (records_of c.batches) next)
    ∙ ap (words_from (log_origin c)) (sym (records_of-append c.batches next))

words_made : (c : Core) (t : Transfer) → HasLogWords c → HasLogWords (made c t)
words_made c Lands logged = words_landed c (batch_of c.pending) logged
words_made c (Stores p lsn) logged = logged

words_noted : (c : Core) (event : Event) → HasLogWords c → HasLogWords (noted c event)
words_noted c Force logged = logged
words_noted c (Flush p) logged = logged
words_noted c Flip logged = moved_keeps HasLogWords c (own_records c Flip) logged
words_noted c Scan logged = moved_keeps HasLogWords c (own_records c Scan) logged
words_noted c event logged = moved_keeps HasLogWords c (barrier_records c event) logged

words_done : (c : Core) (event : Event) → HasLogWords c → HasLogWords (done c event)
words_done c event logged = all_made HasLogWords words_made (noted c event) (transfers c event) (words_noted c event logged)

words_after : (why : Option Refusal) (c : Core) (event : Event) → HasLogWords c → HasLogWords (after_refusal why c event)
words_after None c event logged = words_done c event logged
words_after (Some why) c event logged = logged

-- each step leaves the words that the log leaves
pub words_step : (c d : Core) (event : Event) (reply : Reply) → IsStep c event reply d → HasLogWords c → HasLogWords d
words_step c d event reply (inl whole) logged = subst HasLogWords (sym whole.1) (words_after (core_refusal c event) c event logged)
words_step c d event reply (inr cut) logged = subst HasLogWords (sym cut.1) logged

logged_waits : (c : Core) (stored : Pages) (waits : List (List Record)) → IsLogged c stored → IsLogged (landed c waits) stored
logged_waits c stored [] logged = logged
logged_waits c stored (next ∷ waits) logged =
    let all = records_of-append c.batches next in
    record {
      words = words_landed c (next ∷ waits) logged.words;
      prefixes = subst (λ (l : List Record). EachHoldsPrefix (log_origin c) l stored) (sym all) (EachHoldsPrefix-append (log_origin c) (records_of c.batches) next stored logged.prefixes);
      lsns = logged.lsns;
    }

-- what lands keeps the pages that may stand beside the log
pub logged_landed : (c : Core) (stored : Pages) → IsLogged c stored → IsLogged (made c Lands) stored
logged_landed c stored logged = logged_waits c stored (batch_of c.pending) logged

-- so do records of a collection
logged_moved : (c : Core) (stored : Pages) (rs : List Record) → IsLogged c stored → IsLogged (moved c rs) stored
logged_moved c stored rs logged = moved_keeps (λ d. IsLogged d stored) c rs (record { words = logged.words; prefixes = logged.prefixes; lsns = logged.lsns })

-- and all that an event notes
logged_noted : (c : Core) (stored : Pages) (event : Event) → IsLogged c stored → IsLogged (noted c event) stored
logged_noted c stored Force logged = logged
logged_noted c stored (Flush p) logged = logged
logged_noted c stored Flip logged = logged_moved c stored (own_records c Flip) logged
logged_noted c stored Scan logged = logged_moved c stored (own_records c Scan) logged
logged_noted c stored event logged = let b = logged_moved c stored (barrier_records c event) logged in record { words = b.words; prefixes = b.prefixes; lsns = b.lsns }

logged_done : (c : Core) (stored : Pages) (event : Event) → AllByRecursion IsLanding (transfers c event) → IsLogged c stored → IsLogged (done c event) stored
logged_done c stored event none logged =
    all_landed (λ d. IsLogged d stored) (λ d h. logged_landed d stored h) (noted c event) (transfers c event) none (logged_noted c stored event logged)

logged_refusal : (why : Option Refusal) (c : Core) (stored : Pages) (event : Event) → AllByRecursion IsLanding (transfers c event) → IsLogged c stored → IsLogged (after_refusal why c event) stored
logged_refusal None c stored event other logged = logged_done c stored event other logged
logged_refusal (Some why) c stored event other logged = logged

logged_entry : (c : Core) (stored : Pages) (event : Event) (reply : Reply) → IsLogged c stored → IsLogged (with_entry c event reply) stored
logged_entry c stored event reply logged = record { words = logged.words; prefixes = logged.prefixes; lsns = logged.lsns }

-- each step that stores no page keeps it
pub logged_step : (c d : Core) (stored : Pages) (event : Event) (reply : Reply) → AllByRecursion IsLanding (transfers c event) → IsStep c event reply d → IsLogged c stored → IsLogged d stored
logged_step c d stored event reply other (inl whole) logged =
    subst (λ (x : Core). IsLogged x stored) (sym whole.1) (logged_entry (after_refusal (core_refusal c event) c event) stored event (answer c event) (logged_refusal (core_refusal c event) c stored event other logged))
logged_step c d stored event reply other (inr cut) logged = subst (λ (x : Core). IsLogged x stored) (sym cut.1) (logged_entry c stored event reply logged)
