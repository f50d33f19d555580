-- Transactions do not see collections: with the events of collections taken out, each other event is answered as before.
use Rattle.std.proofs.Common.{◌≡◌, ◌⊎◌, ℕ, ◌+◌, inl, inr, Bool, true, false, List, [], ◌∷◌, ◌++◌, length, Option, Some, None, refl, sym, ap, ◌∙◌, subst, append_assoc}
use Rattle.std.specs.Prelude.{◌-◌, ◌*◌, ◌||◌, not, drop, nat_lt, if◌then◌else◌, MatchOption}
use Rattle.std.specs.List.{AllByRecursion}
use Rattle.std.specs.Option.{option_to_list}
use Rattle.std.proofs.lemmas.List.{append-nil}
use Rattle.std.proofs.Math.Seq.{drop-append_seam}
use Rattle.graph_model.specs.declared.event.Event.{Event}
use Rattle.graph_model.specs.declared.event.Event.TheVariants.{New, Seal, Flip, Scan, Flush}
use Rattle.graph_model.specs.declared.reply.Entry.{Entry}
use Rattle.graph_model.specs.declared.reply.Refusal.{Refusal}
use Rattle.graph_model.specs.declared.reply.Refusal.TheVariants.{Exhausted, LogFull, DiskFault, Stopped}
use Rattle.graph_model.specs.declared.reply.Reply.{Reply}
use Rattle.graph_model.specs.declared.reply.Reply.TheVariants.{Flushed, Clean, Refused}
use Rattle.graph_model.specs.Graph.{Graph}
use Rattle.graph_model.specs.Transaction.{Transaction}
use Rattle.graph_model.specs.History.{Account, account, account_after, session_of}
use Rattle.graph_model.specs.Plain.{view, model_refusal, first_of_two, refusal_of, granted, reply_of}
use Rattle.graph_model.proofs.Runs.History.{account-append}
use Rattle.log_machine.specs.Machine.{State, owed}
use Rattle.log_records.specs.declared.Record.{Record}
use Rattle.heap_spaces.specs.Collection.{Collection}
use Rattle.heap_model.specs.Collecting.{flip_reply, next_page, scan_reply, scan_reply_in}
use Rattle.heap_model.specs.Core.{Core, Ground, ground, next_number, own_records, is_dirty, area_refusal, space_refusal, room_refusal, page_refusal, words_refusal, log_refusal, core_refusal, granted_by, answer, IsStep, IsRun}
use Rattle.heap_model.proofs.Run.Calls.{same_step, step_history}
use Rattle.core_laws.proofs.Step.Forms.{granted_plain}
use Rattle.core_laws.specs.Theorems.{IsOfTransactions}
use Rattle.core_laws.specs.Unseen.{is_of_collection, is_flush, without_collections, of_transactions, IsFaultless, IsUnhindered, WentFreely, since, UnseenTheorem}

-- Refusals.

-- a refusal that is for lack of room, if there is one
abbrev IsForRoom : Option Refusal → Type 0
IsForRoom o = MatchOption o (Unit {0}) (λ why. IsUnhindered (Refused why) → ⊥)

-- a transaction's own lack of room: its area is full
abbrev area_of : Graph → Account → Option Transaction → Event → Option Refusal
area_of g0 a (Some t) (New s h len) = area_refusal (view g0 a t) t.number len
area_of g0 a t event = None

-- refusals of memory's spaces are that of the area, or only for lack of room
abbrev IsAreaOrRoom : Option Refusal → Option Refusal → Type 0
IsAreaOrRoom words area = (words ≡ area) ⊎ ((area ≡ None) × IsForRoom words)

if_full : (full : Bool) (used need kept : ℕ) → IsForRoom (if full then Some (LogFull used need kept) else None)
if_full true used need kept = λ un. un
if_full false used need kept = tt

log_for_room : (c : Core) (event : Event) → IsForRoom (log_refusal c event)
log_for_room c event = if_full _ _ _ _

if_short : (short : Bool) (need free kept : ℕ) → IsForRoom (if short then Some (Exhausted need free kept) else None)
if_short true need free kept = λ un. un
if_short false need free kept = tt

space_for_room : (s : Option State) (need : ℕ) → IsForRoom (space_refusal s need)
space_for_room None need = tt
space_for_room (Some s) need = if_short (nat_lt (64 * s.pages - s.used - owed s) need) need (64 * s.pages - s.used) (owed s)

words_form : (pages : ℕ) (g : Ground) (g0 : Graph) (a : Account) (o : Option Transaction) (event : Event) → is_flush event ≡ false → IsAreaOrRoom (first_of_two (page_refusal pages event) (room_refusal g g0 a o event)) (area_of g0 a o event)
words_form pages g g0 a o (Flush p) flush = absurd (cc flush)
words_form pages g g0 a None event flush = inl refl
words_form pages g g0 a (Some t) (Seal s) flush = inr (refl, space_for_room g.state _)
words_form pages g g0 a (Some t) event flush = inl refl

only_model : (failed : Option ℕ) (model words log area : Option Refusal) (reply : Reply) → IsAreaOrRoom words area → IsForRoom log
    → IsUnhindered (reply_of (refusal_of failed (first_of_two model (first_of_two words log))) reply)
    → refusal_of failed (first_of_two model (first_of_two words log)) ≡ refusal_of failed (first_of_two model area)
only_model (Some entry) model words log area reply form for_room un = refl
only_model None (Some why) words log area reply form for_room un = refl
only_model None None words log area reply (inl same) for_room un = by words log same for_room un
  where
    by : (words log : Option Refusal) → words ≡ area → IsForRoom log → IsUnhindered (reply_of (first_of_two words log) reply) → first_of_two words log ≡ area
    by None None same for_room un = same
    by None (Some why) same for_room un = absurd (for_room un)
    by (Some why) log same for_room un = same
only_model None None words log area reply (inr room) for_room un = by words log room.1 for_room un
  where
    by : (words log : Option Refusal) → IsForRoom words → IsForRoom log → IsUnhindered (reply_of (first_of_two words log) reply) → first_of_two words log ≡ area
    by None None none for_room un = sym room.0
    by None (Some why) none for_room un = absurd (for_room un)
    by (Some why) log never for_room un = absurd (never un)

-- What the history alone answers to an event, where room is not lacking.
abbrev free_reply : ℕ → Graph → Account → Event → Reply
free_reply first g0 a event =
    let next = first + a.begun in
    reply_of (refusal_of a.failed (first_of_two (model_refusal next g0 a event) (area_of g0 a (a.active (session_of event)) event))) (granted next g0 a event)

of_a_transaction : (event : Event) → is_of_collection event ≡ false → is_flush event ≡ false → IsOfTransactions event
of_a_transaction Flip other flush = absurd (cc other)
of_a_transaction Scan other flush = absurd (cc other)
of_a_transaction (Flush p) other flush = absurd (cc flush)
of_a_transaction event other flush = tt

free_answer : (c : Core) (event : Event) → is_of_collection event ≡ false → is_flush event ≡ false → IsUnhindered (answer c event) → answer c event ≡ free_reply c.first c.g0 (account c.history) event
free_answer c event other flush un =
    let a = account c.history in
    let o = a.active (session_of event) in
    let area = area_of c.g0 a o event in
    let same = only_model a.failed (model_refusal (next_number c) c.g0 a event) (words_refusal c event) (log_refusal c event) area (granted_by c event)
    (words_form c.pages (ground c) c.g0 a o event flush) (log_for_room c event) un in
    ap (λ (r : Option Refusal). reply_of r (granted_by c event)) same
    ∙ ap (reply_of (refusal_of a.failed (first_of_two (model_refusal (next_number c) c.g0 a event) area))) (granted_plain c event (of_a_transaction event other flush))

-- Histories.

-- what a history says, but for how many entries it has
abbrev bare : Account → Account
bare a = record a { entries = 0 }

bare_after : (a : Account) (event : Event) (reply : Reply) → IsFaultless reply → bare (account_after a (record { event = event; reply = reply })) ≡ bare (account_after (bare a) (record { event = event; reply = reply }))
bare_after a event (Refused DiskFault) un = absurd un
bare_after a event (Refused Stopped) un = absurd un
bare_after a event reply un = refl

bare_refused : (a : Account) (event : Event) (why : Refusal) → IsFaultless (Refused why) → bare (account_after a (record { event = event; reply = Refused why })) ≡ bare a
bare_refused a event DiskFault un = absurd un
bare_refused a event Stopped un = absurd un
bare_refused a event why un = refl

bare_flip : (a : Account) (o : Option Refusal) (rs : List Record) → IsFaultless (reply_of o (flip_reply rs)) → bare (account_after a (record { event = Flip; reply = reply_of o (flip_reply rs) })) ≡ bare a
bare_flip a (Some why) rs un = bare_refused a Flip why un
bare_flip a None [] un = refl
bare_flip a None (r ∷ rs) un = refl

bare_scanned : (a : Account) (s : State) (rs : List Record) (run : Option Collection) (page : Option ℕ) → bare (account_after a (record { event = Scan; reply = scan_reply_in s rs run page })) ≡ bare a
bare_scanned a s rs None page = refl
bare_scanned a s rs (Some k) None = refl
bare_scanned a s rs (Some k) (Some page) = refl

bare_scan : (a : Account) (o : Option Refusal) (state : Option State) (rs : List Record) → IsFaultless (reply_of o (scan_reply state rs)) → bare (account_after a (record { event = Scan; reply = reply_of o (scan_reply state rs) })) ≡ bare a
bare_scan a (Some why) state rs un = bare_refused a Scan why un
bare_scan a None None rs un = refl
bare_scan a None (Some s) rs un = bare_scanned a s rs s.collection (next_page s.collection)

bare_flush : (a : Account) (p : ℕ) (o : Option Refusal) (dirty : Bool) → IsFaultless (reply_of o (if dirty then Flushed p else Clean p))
    → bare (account_after a (record { event = Flush p; reply = reply_of o (if dirty then Flushed p else Clean p) })) ≡ bare a
bare_flush a p (Some why) dirty un = bare_refused a (Flush p) why un
bare_flush a p None true un = refl
bare_flush a p None false un = refl

-- an event that says nothing about transactions
abbrev is_aside : Event → Bool
is_aside event = is_of_collection event || is_flush event

bare_aside : (c : Core) (event : Event) → is_aside event ≡ true → IsFaultless (answer c event) → bare (account_after (account c.history) (record { event = event; reply = answer c event })) ≡ bare (account c.history)
bare_aside c Flip aside un = bare_flip (account c.history) (core_refusal c Flip) (own_records c Flip) un
bare_aside c Scan aside un = bare_scan (account c.history) (core_refusal c Scan) (ground c).state (own_records c Scan) un
bare_aside c (Flush p) aside un = bare_flush (account c.history) p (core_refusal c (Flush p)) (is_dirty c p) un
bare_aside c event aside un = absurd (cc aside)

-- Steps.

-- a step that no fault cut short is answered as the core answers it
whole_reply : (c d : Core) (event : Event) (reply : Reply) → IsStep c event reply d → IsFaultless reply → reply ≡ answer c event
whole_reply c d event reply (inl whole) un = whole.0
whole_reply c d event reply (inr cut) un = elim cut.0.told [ inl is ↦ absurd (subst IsFaultless is un) | inr is ↦ absurd (subst IsFaultless is un) ]

-- what was not hindered met no fault
no_fault : (reply : Reply) → IsUnhindered reply → IsFaultless reply
no_fault (Refused DiskFault) un = absurd un
no_fault (Refused Stopped) un = absurd un
no_fault reply un = tt

-- what says nothing about transactions went without a fault
aside_free : (event : Event) (reply : Reply) → is_aside event ≡ true → WentFreely event reply → IsFaultless reply
aside_free Flip reply aside free = free
aside_free Scan reply aside free = free
aside_free (Flush p) reply aside free = free
aside_free event reply aside free = absurd (cc aside)

-- and each other event without hindrance
other_free : (event : Event) (reply : Reply) → is_of_collection event ≡ false → is_flush event ≡ false → WentFreely event reply → IsUnhindered reply
other_free Flip reply other flush free = absurd (cc other)
other_free Scan reply other flush free = absurd (cc other)
other_free (Flush p) reply other flush free = absurd (cc flush)
other_free event reply other flush free = free

-- Two cores of one opening whose histories say the same of transactions.
record AreAlike (d e : Core) : Type 0 where
  first : d.first ≡ e.first
  g0 : d.g0 ≡ e.g0
  told : bare (account d.history) ≡ bare (account e.history)

after_step : (c d : Core) (event : Event) (reply : Reply) → IsStep c event reply d → account d.history ≡ account_after (account c.history) (record { event = event; reply = reply })
after_step c d event reply step = ap account (step_history c d event reply step) ∙ account-append c.history (record { event = event; reply = reply })

-- one continues by an event that says nothing about them
aside_left : (d e mid : Core) (event : Event) (reply : Reply) → AreAlike d e → is_aside event ≡ true → IsStep d event reply mid → IsFaultless reply → AreAlike mid e
aside_left d e mid event reply alike aside step un =
    let is = whole_reply d mid event reply step un in
    let same = same_step d mid event reply step in
    record {
      first = same.first ∙ alike.first;
      g0 = same.g0 ∙ alike.g0;
      told = ap bare (after_step d mid event reply step)
          ∙ subst (λ (r : Reply). bare (account_after (account d.history) (record { event = event; reply = r })) ≡ bare (account d.history)) (sym is) (bare_aside d event aside (subst IsFaultless is un))
          ∙ alike.told;
    }

alike_back : (d e : Core) → AreAlike d e → AreAlike e d
alike_back d e alike = record { first = sym alike.first; g0 = sym alike.g0; told = sym alike.told }

-- both answer any other event the same
same_answer : (d e m n : Core) (event : Event) (reply other : Reply) → AreAlike d e → is_of_collection event ≡ false → is_flush event ≡ false → IsStep d event reply m → IsStep e event other n
    → IsUnhindered reply → IsUnhindered other → reply ≡ other
same_answer d e m n event reply other alike not_one flush step beside un un_too =
    let is = whole_reply d m event reply step (no_fault reply un) in
    let is_too = whole_reply e n event other beside (no_fault other un_too) in
    is ∙ free_answer d event not_one flush (subst IsUnhindered is un)
    ∙ ap (λ (first : ℕ). free_reply first d.g0 (bare (account d.history)) event) alike.first
    ∙ ap (λ (g : Graph). free_reply e.first g (bare (account d.history)) event) alike.g0
    ∙ ap (λ (a : Account). free_reply e.first e.g0 a event) alike.told
    ∙ sym (free_answer e event not_one flush (subst IsUnhindered is_too un_too))
    ∙ sym is_too

-- and continue alike
both_on : (d e m n : Core) (event : Event) (reply other : Reply) → AreAlike d e → is_of_collection event ≡ false → is_flush event ≡ false → IsStep d event reply m → IsStep e event other n
    → IsUnhindered reply → IsUnhindered other → AreAlike m n
both_on d e m n event reply other alike not_one flush step beside un un_too =
    let same = same_answer d e m n event reply other alike not_one flush step beside un un_too in
    let left = same_step d m event reply step in
    let right = same_step e n event other beside in
    record {
      first = left.first ∙ alike.first ∙ sym right.first;
      g0 = left.g0 ∙ alike.g0 ∙ sym right.g0;
      told = ap bare (after_step d m event reply step)
          ∙ bare_after (account d.history) event reply (no_fault reply un)
          ∙ ap (λ (a : Account). bare (account_after a (record { event = event; reply = reply }))) alike.told
          ∙ ap (λ (r : Reply). bare (account_after (bare (account e.history)) (record { event = event; reply = r }))) same
          ∙ sym (bare_after (account e.history) event other (no_fault other un_too))
          ∙ sym (ap bare (after_step e n event other beside));
    }

-- Runs.

-- the entries of a run
abbrev run_entries : (c d : Core) (events : List Event) → IsRun c events d → List Entry
run_entries c d [] run = []
run_entries c d (event ∷ events) run = record { event = event; reply = run.0 } ∷ run_entries run.1 d events run.3

run_history : (c d : Core) (events : List Event) (run : IsRun c events d) → d.history ≡ c.history ++ run_entries c d events run
run_history c d [] run = ap (λ (x : Core). x.history) run ∙ sym (append-nil c.history)
run_history c d (event ∷ events) run =
    run_history run.1 d events run.3
    ∙ ap (λ (h : List Entry). h ++ run_entries run.1 d events run.3) (step_history c run.1 event run.0 run.2)
    ∙ append_assoc c.history (record { event = event; reply = run.0 } ∷ []) (run_entries run.1 d events run.3)

since_run : (c d : Core) (events : List Event) (run : IsRun c events d) → since c d ≡ run_entries c d events run
since_run c d events run = ap (drop (length c.history)) (run_history c d events run) ∙ drop-append_seam c.history (run_entries c d events run)

abbrev AllFree : List Entry → Type 0
AllFree entries = AllByRecursion (λ (entry : Entry). WentFreely entry.event entry.reply) entries

-- What two runs come to that began alike.
record CameTo (d e : Core) (xs ys : List Entry) : Type 0 where
  replies : of_transactions xs ≡ of_transactions ys
  alike : AreAlike d e

left_aside : (x : Entry) (xs : List Entry) → is_aside x.event ≡ true → of_transactions (x ∷ xs) ≡ of_transactions xs
left_aside x xs aside = ap (λ (b : Bool). if not b then x ∷ of_transactions xs else of_transactions xs) aside

kept_one : (x : Entry) (xs : List Entry) → is_aside x.event ≡ false → of_transactions (x ∷ xs) ≡ x ∷ of_transactions xs
kept_one x xs other = ap (λ (b : Bool). if not b then x ∷ of_transactions xs else of_transactions xs) other

aside_either : (b d : Bool) → b ≡ true → (b || d) ≡ true
aside_either true d is = refl
aside_either false d is = absurd (cc is)

neither : (b d : Bool) → b ≡ false → d ≡ false → (b || d) ≡ false
neither false d not_one other = other
neither true d not_one other = absurd (cc not_one)

flush_aside : (b d : Bool) → d ≡ true → (b || d) ≡ true
flush_aside true d is = refl
flush_aside false d is = is

-- an event and its reply
abbrev told : Event → Reply → Entry
told event reply = record { event = event; reply = reply }

runs_alike : (events : List Event) (d e m n : Core) → AreAlike d e → (run : IsRun d events m) (beside : IsRun e (without_collections events) n) → AllFree (run_entries d m events run)
    → AllFree (run_entries e n (without_collections events) beside) → CameTo m n (run_entries d m events run) (run_entries e n (without_collections events) beside)
runs_alike [] d e m n alike run beside un un_too =
    record { replies = refl; alike = subst (λ (x : Core). AreAlike x n) (sym run) (subst (AreAlike d) (sym beside) alike) }
runs_alike (event ∷ events) d e m n alike run beside un un_too =
    by (is_of_collection event) refl beside un_too (λ y there others un_others. runs_alike events run.1 y m n there run.3 others un.1 un_others)
  where
    both : (flush : Bool) → is_of_collection event ≡ false → is_flush event ≡ flush → (beside : IsRun e (event ∷ without_collections events) n) → AllFree (run_entries e n (event ∷ without_collections events) beside)
        → ((y : Core) → AreAlike run.1 y → (others : IsRun y (without_collections events) n) → AllFree (run_entries y n (without_collections events) others)
        → CameTo m n (run_entries run.1 m events run.3) (run_entries y n (without_collections events) others))
        → CameTo m n (run_entries d m (event ∷ events) run) (run_entries e n (event ∷ (without_collections events)) beside)
    both true not_one flush beside un_too goes =
        let aside = flush_aside (is_of_collection event) (is_flush event) flush in
        let here = aside_left d e run.1 event run.0 alike aside run.2 (aside_free event run.0 aside un.0) in
        let there = alike_back beside.1 run.1 (aside_left e run.1 beside.1 event beside.0 (alike_back run.1 e here) aside beside.2 (aside_free event beside.0 aside un_too.0)) in
        let more = goes beside.1 there beside.3 un_too.1 in
        record {
          replies = left_aside (told event run.0) (run_entries run.1 m events run.3) aside ∙ more.replies ∙ sym (left_aside (told event beside.0) (run_entries beside.1 n (without_collections events) beside.3) aside);
          alike = more.alike;
        }
    both false not_one flush beside un_too goes =
        let other = neither (is_of_collection event) (is_flush event) not_one flush in
        let free = other_free event run.0 not_one flush un.0 in
        let free_too = other_free event beside.0 not_one flush un_too.0 in
        let same = same_answer d e run.1 beside.1 event run.0 beside.0 alike not_one flush run.2 beside.2 free free_too in
        let there = both_on d e run.1 beside.1 event run.0 beside.0 alike not_one flush run.2 beside.2 free free_too in
        let more = goes beside.1 there beside.3 un_too.1 in
        record {
          replies = kept_one (told event run.0) (run_entries run.1 m events run.3) other
              ∙ ap (λ (l : List Entry). told event run.0 ∷ l) more.replies
              ∙ ap (λ (r : Reply). told event r ∷ of_transactions (run_entries beside.1 n (without_collections events) beside.3)) same
              ∙ sym (kept_one (told event beside.0) (run_entries beside.1 n (without_collections events) beside.3) other);
          alike = more.alike;
        }

    by : (one : Bool) → is_of_collection event ≡ one → (beside : IsRun e (if not one then event ∷ (without_collections events) else (without_collections events)) n) → AllFree (run_entries e n (if not one then event ∷ without_collections events else without_collections events) beside)
        → ((y : Core) → AreAlike run.1 y → (others : IsRun y (without_collections events) n) → AllFree (run_entries y n (without_collections events) others)
        → CameTo m n (run_entries run.1 m events run.3) (run_entries y n (without_collections events) others))
        → CameTo m n (run_entries d m (event ∷ events) run) (run_entries e n (if not one then event ∷ (without_collections events) else (without_collections events)) beside)
    by true one beside un_too goes =
        let aside = aside_either (is_of_collection event) (is_flush event) one in
        let more = goes e (aside_left d e run.1 event run.0 alike aside run.2 (aside_free event run.0 aside un.0)) beside un_too in
        record { replies = left_aside (told event run.0) (run_entries run.1 m events run.3) aside ∙ more.replies; alike = more.alike }
    by false not_one beside un_too goes = both (is_flush event) not_one refl beside un_too goes

-- Events with those of collections among them, at any places, say the same about transactions as without them.
pub unseen_law : UnseenTheorem
unseen_law c b d e events like run beside un un_too =
    let here = since_run c d events run in
    let there = since_run b e (without_collections events) beside in
    let alike : AreAlike c b = record { first = like.first; g0 = like.g0; told = ap (λ (h : List Entry). bare (account h)) like.history } in
    let came = runs_alike events c b d e alike run beside (subst AllFree here un) (subst AllFree there un_too) in
    record {
      replies = ap of_transactions here ∙ came.replies ∙ sym (ap of_transactions there);
      commits = ap (λ (a : Account). a.sealed ++ option_to_list a.in_doubt) came.alike.told;
      acknowledged = ap (λ (a : Account). a.acknowledged) came.alike.told;
    }
