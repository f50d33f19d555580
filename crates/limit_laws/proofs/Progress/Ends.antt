-- When all pages were scanned, the next scan ends the collection.
use Rattle.std.proofs.Common.{◌≡◌, inl, ℕ, ◌≤◌, List, [], ◌∷◌, ◌++◌, length, drop, Option, Some, None, refl, sym, ap, ◌∙◌, subst, arith, append_assoc, length-append}
use Rattle.std.specs.List.{AllByRecursion}
use Rattle.std.proofs.lemmas.List.Concat.{flat_map-append}
use Rattle.std.proofs.Math.Seq.{drop-append_seam}
use Rattle.graph_model.specs.declared.event.Event.{Event}
use Rattle.graph_model.specs.declared.event.Event.TheVariants.{Scan}
use Rattle.graph_model.specs.declared.reply.Entry.{Entry}
use Rattle.graph_model.specs.declared.reply.Reply.{Reply}
use Rattle.graph_model.specs.declared.reply.Reply.TheVariants as reply
use Rattle.graph_model.specs.History.{IsOfSession}
use Rattle.graph_model.specs.Plain.{reply_of}
use Rattle.heap_spaces.specs.Collection.{Collection}
use Rattle.log_machine.specs.Machine.{State}
use Rattle.log_machine.proofs.ListLaws.{AllByRecursion-append}
use Rattle.heap_model.specs.Collecting.{copied_in, next_page, scan_reply, scan_reply_in, words_copied}
use Rattle.heap_model.specs.Core.{Core, IsRun, after, answer, core_refusal, granted_by, own_records}
use Rattle.heap_model.proofs.Run.Calls.{after_history}
use Rattle.heap_model.proofs.Step.Calls.{run_step}
use Rattle.core_laws.specs.Unseen.{since}
use Rattle.core_laws.specs.Valid.{IsReached}
use Rattle.limit_laws.specs.Progress.{BeganNone, BeginsNone, EndTheorem, scanned_page, scanned_pages}
use Rattle.limit_laws.proofs.Progress.Pages.{pages_law}
use Rattle.limit_laws.proofs.Runs.{run_entries, run_history, since_run}

-- the entries since c with one more
since_more : (c d e : Core) (events : List Event) (entry : Entry) → IsRun c events d → e.history ≡ d.history ++ entry ∷ [] → since c e ≡ since c d ++ entry ∷ []
since_more c d e events entry run more =
    let es = run_entries c d events run in
    ap (drop (length c.history)) (more ∙ ap (λ (h : List Entry). h ++ entry ∷ []) (run_history c d events run) ∙ append_assoc c.history es (entry ∷ []))
    ∙ drop-append_seam c.history (es ++ entry ∷ [])
    ∙ ap (λ (h : List Entry). h ++ entry ∷ []) (sym (since_run c d events run))

-- one more scan would go past the last page
too_many : (c d : Core) (events : List Event) (page objects words : ℕ) → IsReached c → AllByRecursion IsOfSession events → IsRun c events d → BeganNone c d
    → c.pages ≤ length (scanned_pages (since c d)) → answer d Scan ≡ reply.Scanned page objects words → ⊥
too_many c d events page objects words reached sessions run none all is =
    let e = after d Scan in
    let entry : Entry = record { event = Scan; reply = answer d Scan } in
    let longer = run_step c d e events Scan (answer d Scan) run (inl (refl, refl)) in
    let since_e = since_more c d e events entry run (after_history d Scan) in
    let still = subst (AllByRecursion (λ (x : Entry). BeginsNone x.reply)) (sym since_e)
    (AllByRecursion-append (λ (x : Entry). BeginsNone x.reply) (since c d) (entry ∷ []) none (subst BeginsNone (sym is) tt, tt)) in
    let few = (pages_law c e (events ++ Scan ∷ []) reached (AllByRecursion-append IsOfSession events (Scan ∷ []) sessions (tt, tt)) longer still).few in
    let one : scanned_pages (since c e) ≡ scanned_pages (since c d) ++ page ∷ [] =
    ap scanned_pages since_e ∙ flat_map-append (λ (x : Entry). scanned_page x.reply) (since c d) (entry ∷ []) ∙ ap (λ (r : Reply). scanned_pages (since c d) ++ (scanned_page r ++ [])) is in
    let size = ap (λ (ps : List ℕ). length ps) one ∙ length-append (scanned_pages (since c d)) (page ∷ []) in
    omega arith

granted_answer : (d : Core) (s : State) (k : Collection) (page : Option ℕ) → core_refusal d Scan ≡ None → (o : Option State) → o ≡ Some s → s.collection ≡ Some k → next_page (Some k) ≡ page
    → granted_by d Scan ≡ scan_reply o (own_records d Scan) → answer d Scan ≡ scan_reply_in s (own_records d Scan) (Some k) page
granted_answer d s k page granted o is runs next known =
    ap (λ x. reply_of x (granted_by d Scan)) granted
    ∙ known
    ∙ ap (λ x. scan_reply x (own_records d Scan)) is
    ∙ ap (λ x. scan_reply_in s (own_records d Scan) x (next_page x)) runs
    ∙ ap (scan_reply_in s (own_records d Scan) (Some k)) next

pub end_law : EndTheorem
end_law c d events reached sessions run none collecting all granted = by (next_page (Some collecting.collection)) refl
  where
    by : (page : Option ℕ) → next_page (Some collecting.collection) ≡ page → (used : ℕ) × (answer d Scan ≡ reply.Collected used)
    by None next = (collecting.state.used, granted_answer d collecting.state collecting.collection None granted _ collecting.reached collecting.runs next refl)
    by (Some page) next =
        let is = granted_answer d collecting.state collecting.collection (Some page) granted _ collecting.reached collecting.runs next refl in
        absurd (too_many c d events page (length (copied_in (own_records d Scan))) (words_copied (own_records d Scan)) reached sessions run none all is)
