-- What a step answers an event is true of the collection that is under way.
use Rattle.std.proofs.Common.{◌≡◌, ◌≤◌, ℕ, List, [], ◌∷◌, ◌++◌, length, drop, Option, None, Some, ⊎_elim, inl, inr, refl, sym, ap, ◌∙◌, subst, arith, append_assoc}
use Rattle.std.specs.List.{AllByRecursion}
use Rattle.std.proofs.Math.Seq.{drop-append_seam}
use Rattle.std.proofs.lemmas.List.{drop_all}
use Rattle.graph_model.specs.declared.event.Event.{Event}
use Rattle.graph_model.specs.declared.event.Event.TheVariants.{Flip, Scan}
use Rattle.graph_model.specs.declared.reply.Entry.{Entry}
use Rattle.graph_model.specs.declared.reply.Refusal.{Refusal}
use Rattle.graph_model.specs.declared.reply.Reply.{Reply}
use Rattle.graph_model.specs.declared.reply.Reply.TheVariants as reply
use Rattle.graph_model.specs.History.{IsOfSession}
use Rattle.graph_model.specs.Plain.{reply_of}
use Rattle.heap_spaces.specs.Collection.{Collection}
use Rattle.log_records.specs.declared.Record.{Record}
use Rattle.log_machine.specs.Machine.{State}
use Rattle.log_machine.proofs.ListLaws.{AllByRecursion-append}
use Rattle.heap_model.specs.Collecting.{copied_in, next_page, scan_reply, scan_reply_in, words_copied}
use Rattle.heap_model.specs.Core.{Core, IsRun, IsStep, after, after_refusal, every_record, answer, core_refusal, event_records, granted_by, ground, own_records}
use Rattle.heap_model.proofs.Run.Calls.{after_history}
use Rattle.core_laws.specs.Valid.{IsReached}
use Rattle.core_laws.specs.Unseen.{since}
use Rattle.core_laws.proofs.Collecting.Few.{pause_law}
use Rattle.limit_laws.specs.Progress.{BeganNone, BeginsNone}
use Rattle.limit_laws.proofs.Copies.Exact.{exact_law}
use Rattle.limit_laws.proofs.Copies.Garbage.{no_garbage_law}
use Rattle.limit_laws.proofs.Events.Appended.{every_done}
use Rattle.limit_laws.proofs.Runs.{run_entries, run_history, since_run}
use Rattle.heap_core.specs.Collects.{CollectsAsTold, ScansAsTold}

-- What an event appends.

abbrev added : (d : Core) → Event → Option Refusal → List Record
added d event o = drop (length (every_record d)) (every_record (after_refusal o d event))

-- one that is granted appends its records
added_granted : (d : Core) (event : Event) → added d event None ≡ event_records d event
added_granted d event = ap (drop (length (every_record d))) (every_done d event) ∙ drop-append_seam (every_record d) (event_records d event)

-- and one that is refused or cut short none
pub none_added : (d : Core) → drop (length (every_record d)) (every_record d) ≡ []
none_added d = drop_all (length (every_record d)) (every_record d) (omega arith)

few_of : (d : Core) (event : Event) (o : Option Refusal) → length (copied_in (event_records d event)) ≤ 576 → length (copied_in (added d event o)) ≤ 576
few_of d event None most = subst (λ (l : List Record). length (copied_in l) ≤ 576) (sym (added_granted d event)) most
few_of d event (Some why) most = subst (λ (l : List Record). length (copied_in l) ≤ 576) (sym (none_added d)) (omega arith)

-- What it is answered.

abbrev AreTold : ℕ → ℕ → List Record → Type 0
AreTold objects words records = (objects ≡ length (copied_in records)) × (words ≡ words_copied records)

told_in : (s : State) (records : List Record) (o : Option Collection) (next : Option ℕ) (page objects words : ℕ) → scan_reply_in s records o next ≡ reply.Scanned page objects words → AreTold objects words records
told_in s records None next page objects words is = absurd (cc is)
told_in s records (Some k) None page objects words is = absurd (cc is)
told_in s records (Some k) (Some p) page objects words is = (cc is, cc is)

told_by : (o : Option State) (records : List Record) (page objects words : ℕ) → scan_reply o records ≡ reply.Scanned page objects words → AreTold objects words records
told_by None records page objects words is = absurd (cc is)
told_by (Some s) records page objects words is = told_in s records s.collection (next_page s.collection) page objects words is

-- an answer that says what was copied is that of a scan that was granted
told_of : (d : Core) (o : Option Refusal) (page objects words : ℕ) → reply_of o (granted_by d Scan) ≡ reply.Scanned page objects words → AreTold objects words (added d Scan o)
told_of d None page objects words is =
    subst (AreTold objects words) (sym (added_granted d Scan)) (told_by (ground d).state (own_records d Scan) page objects words is)
told_of d (Some why) page objects words is = absurd (cc is)

begins_in : (s : State) (records : List Record) (o : Option Collection) (next : Option ℕ) → BeginsNone (scan_reply_in s records o next)
begins_in s records None next = tt
begins_in s records (Some k) None = tt
begins_in s records (Some k) (Some p) = tt

begins_by : (o : Option State) (records : List Record) → BeginsNone (scan_reply o records)
begins_by None records = tt
begins_by (Some s) records = begins_in s records s.collection (next_page s.collection)

-- it never says that a collection began
begins_none : (d : Core) (o : Option Refusal) → BeginsNone (reply_of o (granted_by d Scan))
begins_none d None = begins_by (ground d).state (own_records d Scan)
begins_none d (Some why) = tt

-- A run with a scan after it.

run_scan : (c d : Core) (events : List Event) → IsRun c events d → IsRun c (events ++ Scan ∷ []) (after d Scan)
run_scan c d [] run = (answer c Scan, after c Scan, inl (refl, refl), ap (λ (x : Core). after x Scan) run)
run_scan c d (event ∷ events) run = (run.0, run.1, run.2, run_scan run.1 d events run.3)

-- no other collection begins in it
alone_scan : (c d : Core) (events : List Event) → IsRun c events d → BeganNone c d → BeganNone c (after d Scan)
alone_scan c d events run alone =
    let entry : Entry = record { event = Scan; reply = answer d Scan } in
    let added = run_entries c d events run in
    let all : (after d Scan).history ≡ c.history ++ (added ++ entry ∷ []) =
    after_history d Scan ∙ ap (λ (h : List Entry). h ++ entry ∷ []) (run_history c d events run) ∙ append_assoc c.history added (entry ∷ []) in
    let since_is : since c (after d Scan) ≡ added ++ entry ∷ [] = ap (drop (length c.history)) all ∙ drop-append_seam c.history (added ++ entry ∷ []) in
    let before : AllByRecursion (λ (e : Entry). BeginsNone e.reply) added = subst (AllByRecursion (λ (e : Entry). BeginsNone e.reply)) (since_run c d events run) alone in
    subst (AllByRecursion (λ (e : Entry). BeginsNone e.reply)) (sym since_is)
    (AllByRecursion-append (λ (e : Entry). BeginsNone e.reply) added (entry ∷ []) before (begins_none d (core_refusal d Scan), tt))

-- the step's answer is the core's, or says that the disk cut it short
answered_scan : (d next : Core) (answered : Reply) (page objects words : ℕ) → IsStep d Scan answered next → answered ≡ reply.Scanned page objects words → answer d Scan ≡ reply.Scanned page objects words
answered_scan d next answered page objects words (inl step) is = sym step.0 ∙ is
answered_scan d next answered page objects words (inr (cut, rest)) is = ⊎_elim (λ told. absurd (cc (told, is))) (λ told. absurd (cc (told, is))) cut.told

answered_end : (d next : Core) (answered : Reply) (used : ℕ) → IsStep d Scan answered next → answered ≡ reply.Collected used → answer d Scan ≡ reply.Collected used
answered_end d next answered used (inl step) is = sym step.0 ∙ is
answered_end d next answered used (inr (cut, rest)) is = ⊎_elim (λ told. absurd (cc (told, is))) (λ told. absurd (cc (told, is))) cut.told

told_of_scan : (d next : Core) (answered : Reply) → IsReached d → IsStep d Scan answered next → ScansAsTold d answered
told_of_scan d next answered reached step = record {
  told = λ page objects words is. told_of d (core_refusal d Scan) page objects words (answered_scan d next answered page objects words step is);
  within = λ c idle way. (
    no_garbage_law idle.first c d idle.events way.events way.objects way.words idle.reached idle.idle idle.sessions idle.run way.flipped way.sessions way.run way.alone,
    no_garbage_law idle.first c (after d Scan) idle.events (way.events ++ Scan ∷ []) way.objects way.words idle.reached idle.idle idle.sessions idle.run way.flipped
        (AllByRecursion-append IsOfSession way.events (Scan ∷ []) way.sessions (tt, tt)) (run_scan (after c Flip) d way.events way.run) (alone_scan (after c Flip) d way.events way.run way.alone),
  );
  exact = λ c used idle way is. exact_law idle.first c d idle.events way.events way.objects way.words used idle.reached idle.idle idle.sessions idle.run way.flipped way.sessions way.run way.alone (answered_end d next answered used step is);
}

-- what a step answers about the collection
pub collects_as_told : (d next : Core) (event : Event) (answered : Reply) → IsReached d → IsStep d event answered next → CollectsAsTold d event answered
collects_as_told d next event answered reached step = record {
  few = λ other. few_of d event (core_refusal d event) (pause_law d event reached other);
  scan = λ scan. told_of_scan d next answered reached (subst (λ (e : Event). IsStep d e answered next) scan step);
}
