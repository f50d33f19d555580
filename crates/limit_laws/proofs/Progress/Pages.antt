-- A collection goes once through the pages.
use Rattle.std.proofs.Common.{◌≡◌, ◌≢◌, ◌⊎◌, inl, inr, ℕ, zero, suc, ◌+◌, ◌*◌, ◌<◌, ◌≤◌, Bool, true, false, List, [], ◌∷◌, ◌++◌, length, Option, Some, None, refl, sym, ap, ◌∙◌, subst, arith}
use Rattle.std.specs.Prelude.{if◌then◌else◌, slice_index}
use Rattle.std.specs.List.{AllByRecursion}
use Rattle.std.specs.List.Sorted.{IsStrictlyIncreasing}
use Rattle.std.specs.FinSet.{contains}
use Rattle.std.proofs.lemmas.Bool.{cases_lt}
use Rattle.std.proofs.lemmas.Option.{same_Some}
use Rattle.graph_model.specs.declared.event.Event.{Event}
use Rattle.graph_model.specs.declared.event.Event.TheVariants.{Begin, Seal, Abort, Force, Flip, Scan, Flush}
use Rattle.graph_model.specs.declared.reply.Entry.{Entry}
use Rattle.graph_model.specs.declared.reply.Reply.{Reply}
use Rattle.graph_model.specs.declared.reply.Reply.TheVariants as answer
use Rattle.graph_model.specs.History.{Account, account, session_of, IsOfSession}
use Rattle.graph_model.specs.declared.reply.Refusal.{Refusal}
use Rattle.graph_model.specs.Plain.{refusal_of}
use Rattle.graph_model.specs.Replies.{IsCallReply}
use Rattle.graph_model.proofs.Refusals.Plain.{call_reply-IsCallReply}
use Rattle.heap_spaces.specs.Collection.{Collection, page_of}
use Rattle.log_records.specs.declared.Record.{Record}
use Rattle.log_machine.specs.Machine.{State, after_all}
use Rattle.log_machine.proofs.MachineLaws.{after_all-append2}
use Rattle.log_machine.proofs.StateLaws.{leads_after_all}
use Rattle.collection_words.proofs.Laid.Underway.{underway}
use Rattle.collection_words.proofs.Laid.Within.{start_within}
use Rattle.heap_model.specs.Collecting.{flip_reply, next_page, scan_reply, scan_reply_in}
use Rattle.heap_model.specs.Core.{Core, IsRun, IsStep, all_records, event_records, granted_by, is_dirty, log_start, own_records}
use Rattle.heap_model.proofs.Run.Calls.{same_step}
use Rattle.core_laws.proofs.Collecting.Holds.{scan_law}
use Rattle.core_laws.proofs.Run.Events.{step_reached}
use Rattle.core_laws.proofs.Step.Sound.{reached_agrees, sound_valid}
use Rattle.core_laws.specs.Unseen.{since}
use Rattle.core_laws.specs.Valid.{Agrees, IsReached, IsValid}
use Rattle.limit_laws.specs.Progress.{BeginsNone, BeganNone, PagesTheorem, scanned_page, scanned_pages}
use Rattle.limit_laws.proofs.Events.Steps.{IsDone, granted, refused, step_done}
use Rattle.limit_laws.proofs.Progress.Rows.{GrayFrom, base_after_all}
use Rattle.limit_laws.proofs.Progress.Scans.{gray_kept, is_next, no_flips}
use Rattle.limit_laws.proofs.Runs.{run_entries, since_run}

-- Pages that ascend.

-- these pages ascend, from one on and below another
abbrev Rises : ℕ → List ℕ → ℕ → Type 0
Rises from [] end = from ≤ end
Rises from (p ∷ ps) end = (from ≤ p) × Rises (p + 1) ps end

rises_few : (from : ℕ) (ps : List ℕ) (end : ℕ) → Rises from ps end → from + length ps ≤ end
rises_few from [] end rises = omega arith
rises_few from (p ∷ ps) end rises = let first = rises.0 in let rest = rises_few (p + 1) ps end rises.1 in omega arith

rises_all : (from : ℕ) (ps : List ℕ) (end : ℕ) → Rises from ps end → IsStrictlyIncreasing ps
rises_all from [] end rises k low = absurd (omega arith)
rises_all from (p ∷ []) end rises k low = absurd (omega arith)
rises_all from (p ∷ q ∷ ps) end rises zero low = let next = rises.1.0 in omega arith
rises_all from (p ∷ q ∷ ps) end rises (suc k) low =
    let next : suc (k + 1) ≡ suc k + 1 = omega arith in
    subst (λ (j : ℕ). slice_index (p ∷ q ∷ ps) (suc k) < slice_index (p ∷ q ∷ ps) j) next (rises_all (p + 1) (q ∷ ps) end rises.1 k (omega arith))

rises_on : (from mid : ℕ) (ps qs : List ℕ) (end : ℕ) → Rises from ps mid → Rises mid qs end → Rises from (ps ++ qs) end
rises_on from mid [] [] end first second = omega arith
rises_on from mid [] (q ∷ qs) end first second = let next = second.0 in (omega arith, second.1)
rises_on from mid (p ∷ ps) qs end first second = (first.0, rises_on (p + 1) mid ps qs end first.1 second)

-- Steps.

-- After a step nothing is gray in the pages before one, and the pages that it says were scanned lie between.
record IsThrough (s n : State) (from : ℕ) (pages : List ℕ) (top : ℕ) : Type 0 where
  to : ℕ
  gray : GrayFrom (64 * to) n
  base : n.base ≡ s.base
  rises : Rises from pages to
  below : to ≤ top

as_before : (s n : State) (from top : ℕ) → n ≡ s → from ≤ top → GrayFrom (64 * from) s → IsThrough s n from [] top
as_before s n from top is low gray = record { to = from; gray = subst (GrayFrom (64 * from)) (sym is) gray; base = ap (λ (x : State). x.base) is; rises = omega arith; below = low }

-- a reply to a call names no page
call_pages : (reply : Reply) → IsCallReply reply → scanned_page reply ≡ []
call_pages (answer.Scanned page objects words) is = absurd is
call_pages reply is = refl

flush_pages : (p : ℕ) (dirty : Bool) → scanned_page (if dirty then answer.Flushed p else answer.Clean p) ≡ []
flush_pages p true = refl
flush_pages p false = refl

flip_pages : (rs : List Record) → scanned_page (flip_reply rs) ≡ []
flip_pages [] = refl
flip_pages (r ∷ rs) = refl

-- nor does any reply but that to a scan
other_pages : (c : Core) (event : Event) → event ≢ Scan → scanned_page (granted_by c event) ≡ []
other_pages c Scan other = absurd (other refl)
other_pages c Flip other = flip_pages (own_records c Flip)
other_pages c (Flush p) other = flush_pages p (is_dirty c p)
other_pages c (Begin s) other = refl
other_pages c (Seal s) other = refl
other_pages c (Abort s) other = refl
other_pages c Force other = refl
other_pages c event other = let a = account c.history in call_pages _ (call_reply-IsCallReply c.g0 a (a.active (session_of event)) event)

-- an event but a flip and a scan
plain_through : (a : Account) (c : Core) (h : Agrees a c) (n : State) (event : Event) (from top : ℕ) → event ≢ Flip → event ≢ Scan → after_all h.behind (event_records c event) ≡ Some n
    → from ≤ top → GrayFrom (64 * from) h.behind → IsThrough h.behind n from (scanned_page (granted_by c event)) top
plain_through a c h n event from top other more follows low gray =
    subst (λ (ps : List ℕ). IsThrough h.behind n from ps top) (sym (other_pages c event more)) (record {
      to = from;
      gray = gray_kept a c h (64 * from) n event other follows gray;
      base = base_after_all h.behind n (event_records c event) (no_flips c event other) follows;
      rises = omega arith;
      below = low;
    })

-- a flip that begins no collection
flip_through : (a : Account) (c : Core) (h : Agrees a c) (n : State) (from top : ℕ) (rs : List Record) → event_records c Flip ≡ rs → BeginsNone (flip_reply rs) → after_all h.behind rs ≡ Some n
    → from ≤ top → GrayFrom (64 * from) h.behind → IsThrough h.behind n from (scanned_page (flip_reply rs)) top
flip_through a c h n from top [] is none follows low gray = as_before h.behind n from top (sym (same_Some h.behind n follows)) low gray
flip_through a c h n from top (r ∷ rs) is none follows low gray = absurd none

-- A scan.

-- The spaces of a core that is reached end with whole pages: the current one goes from page `first` to the page before `top`.
record HasPages (s : State) (first top : ℕ) : Type 0 where
  begins : 64 * first ≡ s.base
  ends : 64 * top ≡ s.base + 64 * s.pages

-- a flag is not both
not_both : (b : Bool) → b ≡ false → b ≡ true → ⊥
not_both b off on = cc (off, on)

past : (page q : ℕ) → 64 * page ≤ q → (page_of q ≡ page → ⊥) → 64 * (page + 1) ≤ q
past page q low other = elim (cases_lt q (64 * (page + 1))) [
  | inl less ↦ absurd (other (omega arith))
  | inr most ↦ most
]

-- a page was scanned
page_through : (c : Core) (valid : IsValid c) (n : State) (k : Collection) (page from first top : ℕ) → valid.behind.collection ≡ Some k → next_page (Some k) ≡ Some page
    → after_all valid.behind (event_records c Scan) ≡ Some n → HasPages valid.behind first top → GrayFrom (64 * from) valid.behind → IsThrough valid.behind n from (page ∷ []) top
page_through c valid n k page from first top run next follows pages gray =
    let a = account c.history in
    let s = valid.behind in
    let heap = valid.told.heap in
    let collects = underway (record { run = run; spaced = heap.spaced; long = heap.long; small = heap.small; laid = heap.laid }) in
    let least = is_next k page next in
    let here = least.here in
    let within = start_within heap.laid least.at (collects.from.grays least.at least.gray) in
    let high = within.below in
    let low = gray k least.at run least.gray in
    let room = heap.spaced.room in
    let ends = pages.ends in
    let scanned = scan_law c s k page valid valid.told.reached run next in
    let same : n ≡ scanned.state = same_Some n scanned.state
    (sym follows ∙ ap (after_all s) scanned.appended ∙ sym (after_all-append2 (log_start c) s (all_records c) scanned.records valid.told.reached) ∙ scanned.reached) in
    let runs : n.collection ≡ Some scanned.later = ap (λ (x : State). x.collection) same ∙ scanned.runs in
    let above : GrayFrom (64 * page) n = gray_kept a c valid (64 * page) n Scan (λ never. cc never) follows
    (λ j q is has. let one : k ≡ j = same_Some k j (sym run ∙ is) in let below = least.first q (ap (λ (x : Collection). contains x.gray q) one ∙ has) in omega (arith, here, below)) in
    record {
      to = page + 1;
      gray = λ j q is has. past page q (above j q is has) (λ there. not_both (contains scanned.later.gray q) (scanned.black q there) (ap (λ (x : Collection). contains x.gray q) (same_Some scanned.later j (sym runs ∙ is)) ∙ has));
      base = base_after_all s n (event_records c Scan) (no_flips c Scan (λ never. cc never)) follows;
      rises = (omega (arith, here, low), omega arith);
      below = omega (arith, here, high, room, ends);
    }

-- no page was, since none was gray or no collection ran
scan_quiet : (c : Core) (valid : IsValid c) (n : State) (from top : ℕ) → after_all valid.behind (event_records c Scan) ≡ Some n → from ≤ top → GrayFrom (64 * from) valid.behind → IsThrough valid.behind n from [] top
scan_quiet c valid n from top follows low gray = record {
  to = from;
  gray = gray_kept (account c.history) c valid (64 * from) n Scan (λ never. cc never) follows gray;
  base = base_after_all valid.behind n (event_records c Scan) (no_flips c Scan (λ never. cc never)) follows;
  rises = omega arith;
  below = low;
}

scan_through : (c : Core) (valid : IsValid c) (n : State) (from first top : ℕ) (o : Option Collection) (page : Option ℕ) → valid.behind.collection ≡ o → next_page o ≡ page
    → after_all valid.behind (event_records c Scan) ≡ Some n → HasPages valid.behind first top → from ≤ top → GrayFrom (64 * from) valid.behind
    → IsThrough valid.behind n from (scanned_page (scan_reply_in valid.behind (own_records c Scan) o page)) top
scan_through c valid n from first top (Some k) (Some page) run next follows pages low gray = page_through c valid n k page from first top run next follows pages gray
scan_through c valid n from first top (Some k) None run next follows pages low gray = scan_quiet c valid n from top follows low gray
scan_through c valid n from first top None page run next follows pages low gray = scan_quiet c valid n from top follows low gray

-- Each step.

-- an event that is granted
granted_through : (c : Core) (valid : IsValid c) (n : State) (event : Event) (from first top : ℕ) → after_all valid.behind (event_records c event) ≡ Some n → BeginsNone (granted_by c event)
    → HasPages valid.behind first top → from ≤ top → GrayFrom (64 * from) valid.behind → IsThrough valid.behind n from (scanned_page (granted_by c event)) top
granted_through c valid n Flip from first top follows none pages low gray = flip_through (account c.history) c valid n from top (own_records c Flip) refl none follows low gray
granted_through c valid n Scan from first top follows none pages low gray =
    subst (λ (o : Option State). IsThrough valid.behind n from (scanned_page (scan_reply o (own_records c Scan))) top) (sym valid.told.reached)
    (scan_through c valid n from first top valid.behind.collection (next_page valid.behind.collection) refl refl follows pages low gray)
granted_through c valid n event from first top follows none pages low gray =
    plain_through (account c.history) c valid n event from top (λ never. cc never) (λ never. cc never) follows low gray

-- what is granted is granted by a core that has not failed
unfailed : (o : Option ℕ) (why : Option Refusal) → refusal_of o why ≡ None → o ≡ None
unfailed None why is = refl
unfailed (Some entry) why is = cc is

-- what a step of a core that is reached has done
done_through : (c d : Core) (event : Event) (reply : Reply) (reached : IsReached c) (n : State) (from first top : ℕ) → IsDone c d event reply (reached_agrees c reached).behind n → BeginsNone reply
    → HasPages (reached_agrees c reached).behind first top → from ≤ top → GrayFrom (64 * from) (reached_agrees c reached).behind
    → IsThrough (reached_agrees c reached).behind n from (scanned_page reply) top
done_through c d event reply reached n from first top (refused why says is same) none pages low gray =
    subst (λ (r : Reply). IsThrough (reached_agrees c reached).behind n from (scanned_page r) top) (sym says)
    (as_before (reached_agrees c reached).behind n from top same low gray)
done_through c d event reply reached n from first top (granted may says is follows) none pages low gray =
    let valid = sound_valid c reached.sound (unfailed (account c.history).failed _ may) in
    let same : (reached_agrees c reached).behind ≡ valid.behind = same_Some (reached_agrees c reached).behind valid.behind (sym (reached_agrees c reached).told.reached ∙ valid.told.reached) in
    subst (λ (r : Reply). IsThrough (reached_agrees c reached).behind n from (scanned_page r) top) (sym says)
    (subst (λ (x : State). IsThrough x n from (scanned_page (granted_by c event)) top) (sym same)
    (granted_through c valid n event from first top
    (subst (λ (x : State). after_all x (event_records c event) ≡ Some n) same follows)
    (subst BeginsNone says none)
    (subst (λ (x : State). HasPages x first top) same pages) low (subst (GrayFrom (64 * from)) same gray)))

-- a step of a core that is reached
step_through : (c d : Core) (event : Event) (reply : Reply) (reached : IsReached c) (there : IsReached d) (from first top : ℕ) → IsStep c event reply d → BeginsNone reply
    → HasPages (reached_agrees c reached).behind first top → from ≤ top → GrayFrom (64 * from) (reached_agrees c reached).behind
    → IsThrough (reached_agrees c reached).behind (reached_agrees d there).behind from (scanned_page reply) top
step_through c d event reply reached there from first top step none pages low gray =
    done_through c d event reply reached (reached_agrees d there).behind from first top
    (step_done c d event reply (reached_agrees c reached).behind (reached_agrees d there).behind step (reached_agrees c reached).told.reached (reached_agrees d there).told.reached)
    none pages low gray

-- a core and the state after its records have the same pages
behind_pages : (c : Core) (reached : IsReached c) → (reached_agrees c reached).behind.pages ≡ c.pages
behind_pages c reached = (leads_after_all (log_start c) (reached_agrees c reached).behind (all_records c) (reached_agrees c reached).told.reached).pages

-- the spaces keep their pages
same_pages : (c d : Core) (reached : IsReached c) (there : IsReached d) (first top : ℕ) → d.pages ≡ c.pages → (reached_agrees d there).behind.base ≡ (reached_agrees c reached).behind.base
    → HasPages (reached_agrees c reached).behind first top → HasPages (reached_agrees d there).behind first top
same_pages c d reached there first top same base pages =
    let before = behind_pages c reached in
    let now = behind_pages d there in
    let begins = pages.begins in
    let ends = pages.ends in
    record { begins = omega arith; ends = omega arith }

run_through : (c d : Core) (events : List Event) (run : IsRun c events d) → (reached : IsReached c) → AllByRecursion IsOfSession events → (from first top : ℕ)
    → AllByRecursion (λ (entry : Entry). BeginsNone entry.reply) (run_entries c d events run)
    → HasPages (reached_agrees c reached).behind first top → from ≤ top → GrayFrom (64 * from) (reached_agrees c reached).behind → Rises from (scanned_pages (run_entries c d events run)) top
run_through c d [] run reached sessions from first top none pages low gray = low
run_through c d (event ∷ events) run reached sessions from first top none pages low gray =
    let there = step_reached c run.1 event run.0 reached sessions.0 run.2 in
    let step = step_through c run.1 event run.0 reached there from first top run.2 none.0 pages low gray in
    rises_on from step.to (scanned_page run.0) (scanned_pages (run_entries run.1 d events run.3)) top step.rises
    (run_through run.1 d events run.3 there sessions.1 step.to first top none.1 (same_pages c run.1 reached there first top (same_step c run.1 event run.0 run.2).pages step.base pages) step.below step.gray)

-- The theorems.

-- the pages of the current space
first_pages : (s : State) → (s.base ≡ 0) ⊎ (s.base ≡ 64 * s.pages) → (first : ℕ) × HasPages s first (first + s.pages)
first_pages s (inl low) = (0, record { begins = omega (arith, low); ends = omega (arith, low) })
first_pages s (inr high) = (s.pages, record { begins = omega (arith, high); ends = omega (arith, high) })

-- nothing is gray before the current space
gray_first : (a : Account) (c : Core) (h : Agrees a c) (first top : ℕ) → HasPages h.behind first top → GrayFrom (64 * first) h.behind
gray_first a c h first top pages k at runs gray =
    let heap = h.told.heap in
    let collects = underway (record { run = runs; spaced = heap.spaced; long = heap.long; small = heap.small; laid = heap.laid }) in
    let within = start_within heap.laid at (collects.from.grays at gray) in
    let begins = pages.begins in
    omega (arith, within.above, begins)

-- the pages that a run says were scanned ascend, in one space
all_rise : (c d : Core) (events : List Event) → IsReached c → AllByRecursion IsOfSession events → IsRun c events d → BeganNone c d → (first : ℕ) × Rises first (scanned_pages (since c d)) (first + c.pages)
all_rise c d events reached sessions run none =
    let h = reached_agrees c reached in
    let pages = first_pages h.behind h.told.heap.spaced.first in
    let same = since_run c d events run in
    let all = run_through c d events run reached sessions pages.0 pages.0 (pages.0 + h.behind.pages) (subst (AllByRecursion (λ (entry : Entry). BeginsNone entry.reply)) same none) pages.1 (omega arith)
    (gray_first (record (account c.history) { failed = None; in_doubt = None }) c h pages.0 (pages.0 + h.behind.pages) pages.1) in (
      pages.0,
      subst (λ (n : ℕ). Rises pages.0 (scanned_pages (since c d)) (pages.0 + n)) (behind_pages c reached)
          (subst (λ (es : List Entry). Rises pages.0 (scanned_pages es) (pages.0 + h.behind.pages)) (sym same) all),
    )

pub pages_law : PagesTheorem
pages_law c d events reached sessions run none =
    let all = all_rise c d events reached sessions run none in
    record {
      ascending = rises_all all.0 (scanned_pages (since c d)) (all.0 + c.pages) all.1;
      few = omega (arith, rises_few all.0 (scanned_pages (since c d)) (all.0 + c.pages) all.1);
    }
