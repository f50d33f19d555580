-- What a collection takes in the log from its flip on, and how the scan is answered that ends it.
use Rattle.std.proofs.Common.{◌≡◌, inl, inr, ⊎_elim, ℕ, ◌≤◌, List, [], ◌∷◌, ◌++◌, length, drop, Option, None, Some, refl, sym, ap, ◌∙◌, subst, arith, append_assoc}
use Rattle.std.specs.Prelude.{sum_by}
use Rattle.std.specs.List.{AllByRecursion}
use Rattle.std.proofs.Math.Seq.{drop-append_seam}
use Rattle.std.proofs.lemmas.List.{append-nil}
use Rattle.std.proofs.lemmas.List.Sums.{sum_by-append, sum_by-cons}
use Rattle.graph_model.specs.declared.event.Event.{Event}
use Rattle.graph_model.specs.declared.event.Event.TheVariants.{Flip, Scan}
use Rattle.graph_model.specs.declared.reply.Entry.{Entry}
use Rattle.graph_model.specs.declared.reply.Refusal.{Refusal}
use Rattle.graph_model.specs.declared.reply.Reply.{Reply}
use Rattle.graph_model.specs.declared.reply.Reply.TheVariants as reply
use Rattle.graph_model.specs.Graph.{Graph}
use Rattle.graph_model.specs.History.{Account, account, IsOfSession}
use Rattle.graph_model.specs.Plain.{call_conflict, first_of_two, refusal_of, reply_of}
use Rattle.graph_model.specs.Transaction.{Transaction}
use Rattle.heap_spaces.specs.Collection.{Collection}
use Rattle.log_records.specs.declared.Record.{Record}
use Rattle.log_records.specs.declared.Record.TheVariants as record_of
use Rattle.log_machine.specs.Machine.{State}
use Rattle.log_machine.proofs.ListLaws.{AllByRecursion-append}
use Rattle.heap_model.specs.Collecting.{flip_records, flip_records_in, flip_reply, next_page, scan_reply, scan_reply_in}
use Rattle.heap_model.specs.Core.{Core, Ground, IsRun, IsStep, after, after_refusal, every_record, all_words, answer, calls_if, core_refusal, event_records, granted_by, ground, log_refusal, own_records, room_refusal, roots, words_refusal}
use Rattle.core_laws.specs.Unseen.{since}
use Rattle.core_laws.specs.Valid.{IsReached}
use Rattle.limit_laws.specs.Bytes.{appended, begun_by, left_by, left_in}
use Rattle.limit_laws.specs.Progress.{BeganNone, BeginsNone, IsCollecting, scanned_pages}
use Rattle.limit_laws.proofs.Bytes.Runs.{bytes_law}
use Rattle.limit_laws.proofs.Copies.Begun.{flip_begins}
use Rattle.limit_laws.proofs.Events.Appended.{every_done}
use Rattle.limit_laws.proofs.Events.Kinds.{IsNoFlip}
use Rattle.limit_laws.proofs.Progress.Ends.{end_law}
use Rattle.limit_laws.proofs.Progress.Scans.{no_flips}
use Rattle.limit_laws.proofs.Runs.{run_entries, since_run}
use Rattle.heap_program.specs.Limits.{EndsCollection, GoesOn, TakesFewBytes}

-- Records that begin no collection.

no_flip_begun : (rec : Record) → IsNoFlip rec → begun_by rec ≡ 0
no_flip_begun (record_of.Flip copies) is = absurd is
no_flip_begun rec is = refl

none_begun : (rs : List Record) → AllByRecursion IsNoFlip rs → sum_by begun_by rs ≡ 0
none_begun [] all = refl
none_begun (r ∷ rs) all = omega (arith, sum_by-cons begun_by r rs, no_flip_begun r all.0, none_begun rs all.1)

-- From c to d none of those was appended.
record IsAlone (c d : Core) : Type 0 where
  more : List Record
  all : every_record d ≡ every_record c ++ more
  none : AllByRecursion IsNoFlip more

nothing_more : (c : Core) → IsAlone c c
nothing_more c = record { more = []; all = sym (append-nil (every_record c)); none = tt }

-- a flip that is not answered `flipped` has no record
flip_alone : (rs : List Record) → BeginsNone (flip_reply rs) → AllByRecursion IsNoFlip rs
flip_alone [] none = tt
flip_alone (r ∷ rs) none = absurd none

event_alone : (c : Core) (event : Event) (o : Option Refusal) → BeginsNone (reply_of o (granted_by c event)) → IsAlone c (after_refusal o c event)
event_alone c event (Some why) none = nothing_more c
event_alone c Flip None none = record { more = event_records c Flip; all = every_done c Flip; none = flip_alone (own_records c Flip) none }
event_alone c event None none = record { more = event_records c event; all = every_done c event; none = no_flips c event (λ never. cc never) }

step_alone : (c d : Core) (event : Event) (answered : Reply) → IsStep c event answered d → BeginsNone answered → IsAlone c d
step_alone c d event answered step none = ⊎_elim
    (λ whole. let it = event_alone c event (core_refusal c event) (subst BeginsNone whole.0 none) in subst (IsAlone c) (sym whole.1) (record { more = it.more; all = it.all; none = it.none }))
    (λ cut. let it = nothing_more c in subst (IsAlone c) (sym cut.1) (record { more = it.more; all = it.all; none = it.none }))
    step

both_alone : (c m d : Core) → IsAlone c m → IsAlone m d → IsAlone c d
both_alone c m d first second = record {
  more = first.more ++ second.more;
  all = second.all ∙ ap (λ (rs : List Record). rs ++ second.more) first.all ∙ append_assoc (every_record c) first.more second.more;
  none = AllByRecursion-append IsNoFlip first.more second.more first.none second.none;
}

all_alone : (c d : Core) (events : List Event) (run : IsRun c events d) → AllByRecursion (λ (entry : Entry). BeginsNone entry.reply) (run_entries c d events run) → IsAlone c d
all_alone c d [] run none = subst (IsAlone c) (sym run) (nothing_more c)
all_alone c d (event ∷ events) run none = both_alone c run.1 d (step_alone c run.1 event run.0 run.2 none.0) (all_alone run.1 d events run.3 none.1)

-- The flip.

one_begun_in : (s : State) (words rs : List ℕ) (o : Option Collection) → sum_by begun_by (flip_records_in s words rs o) ≤ 1
one_begun_in s words rs None = omega arith
one_begun_in s words rs (Some k) = omega arith

one_begun : (o : Option State) (words rs : List ℕ) → sum_by begun_by (flip_records o words rs) ≤ 1
one_begun None words rs = omega arith
one_begun (Some s) words rs = one_begun_in s words rs s.collection

-- From its flip on, until another begins, a collection takes few bytes.
pub few_bytes : (c d : Core) (events : List Event) (objects words : ℕ) → IsReached c → answer c Flip ≡ reply.Flipped objects words → AllByRecursion IsOfSession events → IsRun (after c Flip) events d
    → BeganNone (after c Flip) d → TakesFewBytes c d
few_bytes c d events objects words reached flipped sessions run alone =
    let f = after c Flip in
    let begun = flip_begins c objects words reached flipped in
    let on = all_alone f d events run (subst (AllByRecursion (λ (entry : Entry). BeginsNone entry.reply)) (since_run f d events run) alone) in
    let own = own_records c Flip in
    let all : every_record d ≡ every_record c ++ (own ++ on.more) = on.all ∙ ap (λ (rs : List Record). rs ++ on.more) begun.all ∙ append_assoc (every_record c) own on.more in
    let is : appended c d ≡ own ++ on.more = ap (drop (length (every_record c))) all ∙ drop-append_seam (every_record c) (own ++ on.more) in
    let left : left_in (ground c).state ≡ 0 = ap left_in begun.valid.told.reached ∙ ap left_by begun.none in
    let cost = bytes_law c d (Flip ∷ events) reached (tt, sessions) (answer c Flip, f, inl (refl, refl), run) in
    omega (arith, cost, left, ap (sum_by begun_by) is, sum_by-append begun_by own on.more, one_begun (ground c).state (all_words c) (roots (ground c) c.g0 (account c.history)), none_begun on.more on.none)

-- The end.

scan_free : (g0 : Graph) (a : Account) (o : Option Transaction) → call_conflict g0 a o Scan ≡ None
scan_free g0 a None = refl
scan_free g0 a (Some t) = refl

scan_room : (g : Ground) (g0 : Graph) (a : Account) (o : Option Transaction) → room_refusal g g0 a o Scan ≡ None
scan_room g g0 a None = refl
scan_room g g0 a (Some t) = refl

-- a scan is refused where the disk failed before, or for lack of room in the log
scan_refusal : (c : Core) → core_refusal c Scan ≡ refusal_of (account c.history).failed (log_refusal c Scan)
scan_refusal c =
    let a = account c.history in
    ap (λ (o : Option Refusal). refusal_of a.failed (first_of_two o (first_of_two (words_refusal c Scan) (log_refusal c Scan)))) (scan_free c.g0 a (a.active 0))
    ∙ ap (λ (o : Option Refusal). refusal_of a.failed (first_of_two o (log_refusal c Scan))) (scan_room (ground c) c.g0 a (a.active 0))

-- it does not call the disk
scan_calls : (o : Option Refusal) (c : Core) → calls_if o c Scan ≡ 0
scan_calls None c = refl
scan_calls (Some why) c = refl

-- so it is answered what the core answers
scan_answer : (d next : Core) (answered : Reply) → IsStep d Scan answered next → answered ≡ answer d Scan
scan_answer d next answered (inl whole) = whole.0
scan_answer d next answered (inr cut) = let some = cut.0.some in absurd (omega (arith, some, scan_calls (core_refusal d Scan) d))

goes_on_in : (s : State) (rs : List Record) (k : Collection) (page : Option ℕ) → GoesOn (scan_reply_in s rs (Some k) page)
goes_on_in s rs k None = tt
goes_on_in s rs k (Some page) = tt

goes_on_by : (o : Option Refusal) (answered : Reply) → GoesOn answered → GoesOn (reply_of o answered)
goes_on_by None answered goes = goes
goes_on_by (Some why) answered goes = tt

-- While a collection runs, a scan goes over a page, or ends it, or is refused.
pub scan_goes_on : (d next : Core) (answered : Reply) → IsCollecting d → IsStep d Scan answered next → GoesOn answered
scan_goes_on d next answered collecting step =
    let s = collecting.state in
    let rs = own_records d Scan in
    let runs = subst (λ (run : Option Collection). GoesOn (scan_reply_in s rs run (next_page run))) (sym collecting.runs) (goes_on_in s rs collecting.collection (next_page (Some collecting.collection))) in
    let granted = subst (λ (o : Option State). GoesOn (scan_reply o rs)) (sym collecting.reached) runs in
    subst GoesOn (sym (scan_answer d next answered step)) (goes_on_by (core_refusal d Scan) (granted_by d Scan) granted)

-- When as many scans went over a page as a space has pages, the next one ends the collection.
pub last_scan : (c d next : Core) (events : List Event) (answered : Reply) → IsReached c → AllByRecursion IsOfSession events → IsRun c events d → BeganNone c d → IsCollecting d
    → c.pages ≤ length (scanned_pages (since c d)) → IsStep d Scan answered next → EndsCollection d answered
last_scan c d next events answered reached sessions run none collecting all step =
    let ends = by (core_refusal d Scan) refl in
    (ends.0, scan_answer d next answered step ∙ ends.1 ∙ ap (λ (o : Option Refusal). reply_of o (reply.Collected ends.0)) (scan_refusal d))
  where
    by : (o : Option Refusal) → core_refusal d Scan ≡ o → (used : ℕ) × (answer d Scan ≡ reply_of (core_refusal d Scan) (reply.Collected used))
    by None is =
        let ends = end_law c d events reached sessions run none collecting all is in
        (ends.0, ends.1 ∙ ap (λ (o : Option Refusal). reply_of o (reply.Collected ends.0)) (sym is))
    by (Some why) is = (0, ap (λ (o : Option Refusal). reply_of o (granted_by d Scan)) is ∙ ap (λ (o : Option Refusal). reply_of o (reply.Collected 0)) (sym is))
