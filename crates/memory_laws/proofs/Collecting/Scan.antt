-- A scan is refused as the core refuses it, answered as the core answers it, and leaves memory as the core is then.
use Rattle.std.proofs.Common.{◌≡◌, ℕ, ◌+◌, List, [], length, Option, None, Some, refl, sym, ap, ◌∙◌, subst}
use Rattle.std.specs.FinSet.{FinSet, len, len-empty}
use Rattle.std.specs.Ordering.{nat_cmp}
use Rattle.graph_model.specs.declared.event.Event.TheVariants.{Scan}
use Rattle.graph_model.specs.declared.reply.Entry.{Entry}
use Rattle.graph_model.specs.declared.reply.Refusal.{Refusal}
use Rattle.graph_model.specs.declared.reply.Reply.{Reply}
use Rattle.graph_model.specs.declared.reply.Reply.TheVariants as answer
use Rattle.graph_model.specs.History.{Account, account, account_after}
use Rattle.graph_model.specs.Plain.{call_conflict, first_of_two, reply_of}
use Rattle.graph_model.specs.Transaction.{Transaction}
use Rattle.heap_spaces.specs.Collection.{Collection}
use Rattle.heap_spaces.specs.Spaces.{SpacesState}
use Rattle.log_records.specs.declared.Record.{Record}
use Rattle.log_machine.specs.Machine.{State}
use Rattle.heap_model.specs.Collecting as core
use Rattle.heap_model.specs.Core.{Core, all_words, core_refusal, done, granted_by, ground, log_refusal, moved, own_records, room_refusal, words_refusal}
use Rattle.core_laws.proofs.Step.Events.{unfailed_refusal}
use Rattle.core_laws.specs.Valid.{IsValid}
use Rattle.heap_memory.specs.Memory.{Memory}
use Rattle.heap_memory.specs.Collecting as memory
use Rattle.heap_memory.specs.Collecting.{IsNextPage, collection_behind, spaces_behind}
use Rattle.heap_memory.specs.Leaves.{IsAsItWas, Scans}
use Rattle.heap_memory.specs.Refusals.{scan_refusal}
use Rattle.heap_memory.specs.Replies.{scan_reply, scan_reply_of}
use Rattle.memory_laws.specs.CoreMemory.{IsMemory}
use Rattle.memory_laws.proofs.Behind.Barrier.{page_same}
use Rattle.memory_laws.proofs.Behind.Passed.{HavePassed, end_passed, none_passed, page_passed}
use Rattle.memory_laws.proofs.Behind.Sessions.{carried_out}
use Rattle.memory_laws.proofs.Collecting.Next.{next_is}
use Rattle.memory_laws.proofs.Does.{Does}
use Rattle.memory_laws.proofs.Kept.Parts.{Works, works_of}
use Rattle.memory_laws.proofs.Refusal.LogRoom.{scan_room}
use Rattle.memory_laws.proofs.Step.Answered.{Goes, as_it_was, does, memory_told}
use Rattle.memory_laws.proofs.Step.Appended.{collection_here, spaces_here, stays}

-- both count alike what records copy
objects_same : (records : List Record) → length (core.copied_in records) ≡ length (memory.copied_in records)
objects_same records = refl

words_same : (records : List Record) → core.words_copied records ≡ memory.words_copied records
words_same records = refl

module _ (m : Memory) (c : Core) (valid : IsValid c) (is : IsMemory m (account c.history) c) where
  -- what the history says
  abbrev a : Account
  a = account c.history

  -- the state after all records
  abbrev behind : State
  behind = valid.behind

  works : Works m a c
  works = works_of m a c is

  -- Records.

  scans_same : (o : Option Collection) (next : Option ℕ) → memory.scan_event_records m o next ≡ core.scan_records_in behind (all_words c) o next
  scans_same None next = refl
  scans_same (Some k) None = refl
  scans_same (Some k) (Some page) = page_same m c valid works page

  -- where the page is next in memory, it is the core's
  next_here : (next : Option ℕ) → IsNextPage m.collection next → IsNextPage behind.collection next
  next_here next is_next = subst (λ (o : Option Collection). IsNextPage o next) (collection_here m m c valid works) is_next

  -- memory plans what the core appends
  pub scan_same : (next : Option ℕ) → IsNextPage m.collection next → memory.scan_event_records m m.collection next ≡ own_records c Scan
  scan_same next is_next =
      ap (λ (o : Option Collection). memory.scan_event_records m o next) (collection_here m m c valid works)
      ∙ scans_same behind.collection next
      ∙ ap (core.scan_records_in behind (all_words c) behind.collection) (next_is behind.collection next (next_here next is_next))
      ∙ ap (λ (o : Option State). core.scan_event_records o (all_words c)) (sym valid.told.reached)

  passed_in : (o : Option Collection) (next : Option ℕ) → behind.collection ≡ o → IsNextPage o next → HavePassed c behind (core.scan_records_in behind (all_words c) o next)
  passed_in None next run is_next = none_passed c behind
  passed_in (Some k) None run is_next = end_passed a c valid k run (ap (λ (set : FinSet nat_cmp). len set) is_next ∙ len-empty nat_cmp)
  passed_in (Some k) (Some page) run is_next = page_passed a c valid page

  pub scan_passes : (next : Option ℕ) → IsNextPage m.collection next → HavePassed c behind (memory.scan_event_records m m.collection next)
  scan_passes next is_next =
      let list = ap (λ (o : Option Collection). memory.scan_event_records m o next) (collection_here m m c valid works) ∙ scans_same behind.collection next in
      subst (HavePassed c behind) (sym list) (passed_in behind.collection next refl (next_here next is_next))

  -- Refusals.

  free : (o : Option Transaction) → call_conflict c.g0 a o Scan ≡ None
  free None = refl
  free (Some t) = refl

  roomy : (o : Option Transaction) → room_refusal (ground c) c.g0 a o Scan ≡ None
  roomy None = refl
  roomy (Some t) = refl

  -- memory refuses a scan as the core does
  pub scan_refused : (next : Option ℕ) → IsNextPage m.collection next → core_refusal c Scan ≡ scan_refusal m next
  scan_refused next is_next =
      let log = log_refusal c Scan in
      unfailed_refusal c Scan valid.unfailed
      ∙ ap (λ (o : Option Refusal). first_of_two (first_of_two None o) (first_of_two (words_refusal c Scan) log)) (free (a.active 0))
      ∙ ap (λ (o : Option Refusal). first_of_two (first_of_two None o) log) (roomy (a.active 0))
      ∙ scan_room m c valid is Scan (memory.scan_event_records m m.collection next) (λ undo. refl) (scan_passes next is_next) (sym (scan_same next is_next))

  -- Answers.

  answered : (o : Option Collection) (next : Option ℕ) → scan_reply_of m o next ≡ core.scan_reply_in behind (core.scan_records_in behind (all_words c) o next) o next
  answered None next = refl
  answered (Some k) None = ap (λ (x : SpacesState). answer.Collected x.used) (spaces_here m m c valid works)
  answered (Some k) (Some page) =
      ap (λ (rs : List Record). answer.Scanned page (length (memory.copied_in rs)) (memory.words_copied rs)) (page_same m c valid works page)
      ∙ sym (let rs = core.page_records behind (all_words c) page in
      ap (λ (n : ℕ). answer.Scanned page n (core.words_copied rs)) (objects_same rs) ∙ ap (λ (n : ℕ). answer.Scanned page (length (memory.copied_in rs)) n) (words_same rs))

  pub scan_answers : (next : Option ℕ) → IsNextPage m.collection next → granted_by c Scan ≡ scan_reply m next
  scan_answers next is_next =
      let here = next_is behind.collection next (next_here next is_next) in
      let reply = λ (o : Option State). core.scan_reply o (core.scan_event_records o (all_words c)) in
      ap reply valid.told.reached
      ∙ ap (λ (page : Option ℕ). core.scan_reply_in behind (core.scan_records_in behind (all_words c) behind.collection page) behind.collection page) (sym here)
      ∙ sym (answered behind.collection next)
      ∙ ap (λ (o : Option Collection). scan_reply_of m o next) (sym (collection_here m m c valid works))

  -- What it leaves.

  -- none of its answers says anything about transactions
  adds : (o : Option Collection) (next : Option ℕ) → (let entry : Entry = record { event = Scan; reply = scan_reply_of m o next } in account_after a entry) ≡ record a { entries = a.entries + 1 }
  adds None next = refl
  adds (Some k) None = refl
  adds (Some k) (Some page) = refl

  module _ (n : Memory) (next : Option ℕ) (is_next : IsNextPage m.collection next) where
    -- memory of the core after the records is that of the core after a scan
    scan_goes : IsMemory n a (done c Scan) → Goes n c Scan
    scan_goes now =
        subst (λ (reply : Reply). let entry : Entry = record { event = Scan; reply = reply } in IsMemory n (account_after a entry) (done c Scan)) (sym (scan_answers next is_next))
        (subst (λ (b : Account). IsMemory n b (done c Scan)) (sym (adds m.collection next)) (memory_told n a (done c Scan) a.acknowledged (a.entries + 1) now))

    scanned : Scans m n next → IsMemory n a (done c Scan)
    scanned scans =
        let planned = memory.scan_event_records m m.collection next in
        subst (λ (rs : List Record). IsMemory n a (moved c rs)) (scan_same next is_next) (carried_out m n c valid is planned (scan_passes next is_next) scans.left)

    -- where no collection runs nothing is appended
    still : m.collection ≡ None → n ≡ m → IsMemory n a (done c Scan)
    still none same =
        let list : [] ≡ own_records c Scan = ap (λ (o : Option Collection). memory.scan_event_records m o next) (sym none) ∙ scan_same next is_next in
        subst (λ (rs : List Record). IsMemory n a (moved c rs)) list (stays m n c valid is same)

    left_by : (o : Option Collection) (q : Option ℕ) → m.collection ≡ o → next ≡ q → (reply : Reply) → reply ≡ scan_reply_of m o q → ((page objects words : ℕ) → reply ≡ answer.Scanned page objects words → Scans m n (Some page))
        → ((used : ℕ) → reply ≡ answer.Collected used → Scans m n None) → (reply ≡ answer.Idle → n ≡ m) → IsMemory n a (done c Scan)
    left_by None q run page reply replied by_page by_end idle = still run (idle replied)
    left_by (Some k) None run page reply replied by_page by_end idle = scanned (subst (Scans m n) (sym page) (by_end m.spaces.used replied))
    left_by (Some k) (Some p) run page reply replied by_page by_end idle = scanned (subst (Scans m n) (sym page) (by_page p _ _ replied))

    -- a scan is answered as the core answers it, and the page is scanned then, or the collection has ended
    pub scan_does : core_refusal c Scan ≡ scan_refusal m next → (reply : Reply) → reply ≡ reply_of (scan_refusal m next) (scan_reply m next)
        → ((page objects words : ℕ) → reply ≡ answer.Scanned page objects words → Scans m n (Some page)) → ((used : ℕ) → reply ≡ answer.Collected used → Scans m n None) → (reply ≡ answer.Idle → n ≡ m)
        → ((why : Refusal) → reply ≡ answer.Refused why → IsAsItWas m n) → Does c Scan reply n
    scan_does same reply replied by_page by_end idle stayed =
        does c Scan (scan_refusal m next) (scan_reply m next) reply n same replied (λ e. scan_answers next is_next)
        (λ e given. scan_goes (left_by m.collection next refl refl reply given by_page by_end idle))
        (λ why e. as_it_was m n c is (stayed why e))
