-- What an engine answers to a call, and leaves of memory, is what the core does.
use Rattle.std.proofs.Common.{◌≡◌, ℕ, ◌+◌, ◌*◌, Option, Some, None, Result, Ok, Err, refl, sym, ap, ◌∙◌, subst}
use Rattle.std.specs.Prelude.{IfOk, List, length, is_some, if◌then◌else◌}
use Rattle.graph_model.specs.declared.event.Event.{Event}
use Rattle.graph_model.specs.declared.event.Event.TheVariants.{Begin, Root, New, Put, Clear, Link, Drop, Get, Same, Len, Seal, Abort, Flip, Scan}
use Rattle.graph_model.specs.declared.reply.Refusal.{Refusal}
use Rattle.graph_model.specs.declared.reply.Reply.{Reply}
use Rattle.graph_model.specs.declared.reply.Reply.TheVariants as answer
use Rattle.graph_model.specs.History.{account}
use Rattle.graph_model.specs.Plain.{reply_of}
use Rattle.graph_model.specs.History.{IsOfSession}
use Rattle.core_laws.specs.Valid.{IsValid, RunsLocked}
use Rattle.flip_copy.specs.Copied.{copied_size}
use Rattle.heap_spaces.specs.Collection.{Collection}
use Rattle.txn_table.specs.Roots.{AreRoots}
use Rattle.memory_laws.proofs.Collecting.Flip.{flip_does, flip_refused}
use Rattle.memory_laws.proofs.Collecting.Scan.{scan_does, scan_refused}
use Rattle.heap_memory.specs.Collecting.{IsNextPage, flip_copies}
use Rattle.heap_memory.specs.Leaves.{IsAsItWas, Begins, SetsHandle, Makes, WritesHeld, Links, Gets, Seals, Aborts, Flips, Scans}
use Rattle.heap_memory.specs.Memory.{Memory, own, root_place}
use Rattle.heap_memory.specs.Refusals.{begin_refusal, handle_refusal, new_refusal, put_refusal, clear_refusal, link_refusal, get_refusal, same_refusal, len_refusal, seal_refusal, end_refusal, flip_refusal, scan_refusal}
use Rattle.heap_memory.specs.Replies.{get_reply, same_reply, len_reply, flip_reply, scan_reply, scan_reply_of, IsGranted}
use Rattle.heap_model.specs.Core.{Core}
use Rattle.memory_laws.specs.CoreMemory.{IsMemory}
use Rattle.memory_laws.proofs.Does.{Does}
use Rattle.memory_laws.proofs.Refusal.Ends.{begin_refused, seal_refused, abort_refused}
use Rattle.memory_laws.proofs.Refusal.Handles.{root_refused, drop_refused, new_refused, get_refused, same_refused, len_refused}
use Rattle.memory_laws.proofs.Refusal.Writes.{put_refused, clear_refused, link_refused}
use Rattle.memory_laws.proofs.Step.Ends.{begin_does, abort_does}
use Rattle.memory_laws.proofs.Step.Handles.{root_does, drop_does}
use Rattle.memory_laws.proofs.Step.New.{new_does}
use Rattle.memory_laws.proofs.Step.Reads.{get_does}
use Rattle.memory_laws.proofs.Step.Same.{same_does, len_does}
use Rattle.memory_laws.proofs.Step.Seal.{seal_does}
use Rattle.memory_laws.proofs.Step.Writes.{put_does, clear_does, link_does}

-- where an event is refused or not, this holds
pub either : (o : Option Refusal) (gives reply : Reply) (P : Type 0) → reply ≡ reply_of o gives → (reply ≡ gives → P) → ((why : Refusal) → reply ≡ answer.Refused why → P) → P
either None gives reply P is granted refused = granted is
either (Some why) gives reply P is granted refused = refused why is

-- what has not changed is as it was
as_was : (m n : Memory) → n ≡ m → IsAsItWas m n
as_was m n is = subst (IsAsItWas m) (sym is) (record {
  log = record { place = record { at = refl; room = refl; tail = refl; forced = refl }; buffer = refl; size = refl; count = refl };
  words = refl;
  lsns = refl;
  store = refl;
  table = refl;
  locks = refl;
  spaces = refl;
  collection = refl;
  sealed = refl;
})

-- An event in memory is answered as the core answers it.
module _ (m n : Memory) (c : Core) (is : IsMemory m (account c.history) c) (valid : IsValid c) (runs : RunsLocked c.g0 c.first c.history) (event : Event) (s : ℕ) where
  abbrev DoesIt : Reply → Event → Type 0
  DoesIt reply event = Does c event reply n

  abbrev DoesOr : {E : Type 0} → Result Reply E → Event → Type 0
  DoesOr result event = IfOk result (λ reply. Does c event reply n)

  begin_result : {E : Type 0} (result : Result Reply E) → IsOfSession (Begin s) → IfOk result (λ reply. reply ≡ reply_of (begin_refusal m s) (answer.Begun m.table.next))
      → ((k : ℕ) → result ≡ Ok (answer.Begun k) → Begins m n s) → ((why : Refusal) → result ≡ Ok (answer.Refused why) → n ≡ m) → DoesOr result (Begin s)
  begin_result (Err e) one replied done stays = tt
  begin_result (Ok reply) one replied done stays =
      begin_does m n c valid runs is s (begin_refused m c valid runs is s one) reply replied (λ k begun. done k (ap Ok begun)) (λ why refused. stays why (ap Ok refused))

  pub begins : {E : Type 0} (result : Result Reply E) → event ≡ Begin s → IsOfSession event → IfOk result (λ reply. reply ≡ reply_of (begin_refusal m s) (answer.Begun m.table.next))
      → ((k : ℕ) → result ≡ Ok (answer.Begun k) → Begins m n s) → ((why : Refusal) → result ≡ Ok (answer.Refused why) → n ≡ m) → DoesOr result event
  begins result form one replied done stays = subst (DoesOr result) (sym form) (begin_result result (subst IsOfSession form one) replied done stays)

  pub roots : (h : ℕ) (reply : Reply) → event ≡ Root s h → reply ≡ reply_of (handle_refusal (own m s) h) answer.Done
      → (reply ≡ answer.Done → SetsHandle m n s h (Some (root_place m))) → ((why : Refusal) → reply ≡ answer.Refused why → n ≡ m) → DoesIt reply event
  roots h reply form replied done stays = subst (DoesIt reply) (sym form) (root_does m n c valid is s h (root_refused m c valid runs is s h) reply replied done stays)

  pub drops : (h : ℕ) (reply : Reply) → event ≡ Drop s h → reply ≡ reply_of (handle_refusal (own m s) h) answer.Done
      → (reply ≡ answer.Done → SetsHandle m n s h None) → ((why : Refusal) → reply ≡ answer.Refused why → n ≡ m) → DoesIt reply event
  drops h reply form replied done stays = subst (DoesIt reply) (sym form) (drop_does m n c valid is s h (drop_refused m c valid runs is s h) reply replied done stays)

  pub makes : {E : Type 0} (h len : ℕ) (result : Result Reply E) → event ≡ New s h len → IfOk result (λ reply. reply ≡ reply_of (new_refusal (own m s) h len) answer.Done)
      → (result ≡ Ok answer.Done → Makes m n s h len) → ((why : Refusal) → result ≡ Ok (answer.Refused why) → n ≡ m) → DoesOr result event
  makes h len result form replied done stays = subst (DoesOr result) (sym form) (new_does m n c valid is s h len (new_refused m c valid runs is s h len) result replied done stays)

  pub puts : {E : Type 0} (h i v : ℕ) (result : Result Reply E) → event ≡ Put s h i v → IfOk result (λ reply. reply ≡ reply_of (put_refusal m s h i v) answer.Done)
      → (result ≡ Ok answer.Done → WritesHeld m n s h i (4 * v + 1)) → ((why : Refusal) → result ≡ Ok (answer.Refused why) → IsAsItWas m n) → DoesOr result event
  puts h i v result form replied done stays = subst (DoesOr result) (sym form) (put_does m n c valid runs is s h i v (put_refused m c valid runs is s h i v) result replied done stays)

  pub clears : {E : Type 0} (h i : ℕ) (result : Result Reply E) → event ≡ Clear s h i → IfOk result (λ reply. reply ≡ reply_of (clear_refusal m s h i) answer.Done)
      → (result ≡ Ok answer.Done → WritesHeld m n s h i 0) → ((why : Refusal) → result ≡ Ok (answer.Refused why) → IsAsItWas m n) → DoesOr result event
  clears h i result form replied done stays = subst (DoesOr result) (sym form) (clear_does m n c valid runs is s h i (clear_refused m c valid runs is s h i) result replied done stays)

  pub links : {E : Type 0} (h i h2 : ℕ) (result : Result Reply E) → event ≡ Link s h i h2 → IfOk result (λ reply. reply ≡ reply_of (link_refusal m s h i h2) answer.Done)
      → (result ≡ Ok answer.Done → Links m n s h i h2) → ((why : Refusal) → result ≡ Ok (answer.Refused why) → IsAsItWas m n) → DoesOr result event
  links h i h2 result form replied done stays = subst (DoesOr result) (sym form) (link_does m n c valid runs is s h i h2 (link_refused m c valid runs is s h i h2) result replied done stays)

  get_result : {E : Type 0} (h i h2 : ℕ) (result : Result Reply E) → IfOk result (λ reply. reply ≡ reply_of (get_refusal m s h i h2) (get_reply m s h i))
      → IfOk result (λ reply. IsGranted reply → Gets m n s h i h2) → ((why : Refusal) → result ≡ Ok (answer.Refused why) → IsAsItWas m n) → DoesOr result (Get s h i h2)
  get_result h i h2 (Err e) replied done stays = tt
  get_result h i h2 (Ok reply) replied done stays =
      get_does m n c valid runs is s h i h2 (get_refused m c valid runs is s h i h2) reply replied done (λ why refused. stays why (ap Ok refused))

  pub gets : {E : Type 0} (h i h2 : ℕ) (result : Result Reply E) → event ≡ Get s h i h2 → IfOk result (λ reply. reply ≡ reply_of (get_refusal m s h i h2) (get_reply m s h i))
      → IfOk result (λ reply. IsGranted reply → Gets m n s h i h2) → ((why : Refusal) → result ≡ Ok (answer.Refused why) → IsAsItWas m n) → DoesOr result event
  gets h i h2 result form replied done stays = subst (DoesOr result) (sym form) (get_result h i h2 result replied done stays)

  pub seals : {E : Type 0} (result : Result Reply E) → event ≡ Seal s → IfOk result (λ reply. reply ≡ reply_of (seal_refusal m s) (answer.Sealed (m.sealed + 1)))
      → ((number : ℕ) → result ≡ Ok (answer.Sealed number) → Seals m n s) → ((why : Refusal) → result ≡ Ok (answer.Refused why) → IsAsItWas m n) → DoesOr result event
  seals result form replied done stays = subst (DoesOr result) (sym form) (seal_does m n c valid runs is s (seal_refused m c valid runs is s) result replied done stays)

  pub aborts : {E : Type 0} (result : Result Reply E) → event ≡ Abort s → IfOk result (λ reply. reply ≡ reply_of (end_refusal (own m s)) answer.Aborted)
      → (result ≡ Ok answer.Aborted → Aborts m n s) → ((why : Refusal) → result ≡ Ok (answer.Refused why) → n ≡ m) → DoesOr result event
  aborts result form replied done stays = subst (DoesOr result) (sym form) (abort_does m n c valid runs is s (abort_refused m c valid runs is s) result replied done (λ why refused. as_was m n (stays why refused)))

module _ (m : Memory) (c : Core) (is : IsMemory m (account c.history) c) (valid : IsValid c) (runs : RunsLocked c.g0 c.first c.history) (event : Event) (s : ℕ) where
  pub compares : (h h2 : ℕ) (reply : Reply) → event ≡ Same s h h2 → reply ≡ reply_of (same_refusal m s h h2) (same_reply m s h h2) → Does c event reply m
  compares h h2 reply form replied = subst (λ e. Does c e reply m) (sym form) (same_does m c valid runs is s h h2 (same_refused m c valid runs is s h h2) reply replied)

  pub counts : (h : ℕ) (reply : Reply) → event ≡ Len s h → reply ≡ reply_of (len_refusal m s h) (len_reply m s h) → Does c event reply m
  counts h reply form replied = subst (λ e. Does c e reply m) (sym form) (len_does m c valid runs is s h (len_refused m c valid runs is s h) reply replied)

-- What a flip and a scan are answered.
module _ (m : Memory) where
  -- a flip from some list of the roots
  abbrev pub AnswersFlip : Reply → Type 0
  AnswersFlip reply = (roots : List ℕ) × AreRoots m.table m.locks roots × (reply ≡ reply_of (flip_refusal m roots) (flip_reply m roots))

  -- a scan of the next page, or the end of the collection
  abbrev pub AnswersScan : Reply → Type 0
  AnswersScan reply = (next : Option ℕ) × IsNextPage m.collection next × (reply ≡ reply_of (scan_refusal m next) (scan_reply m next))

  flip_granted : (roots : List ℕ) (reply : Reply) (P : Type 0) (runs : Option Collection) → m.collection ≡ runs → reply ≡ flip_reply m roots → ((objects words : ℕ) → reply ≡ answer.Flipped objects words → P) → (reply ≡ answer.Collecting → P) → P
  flip_granted roots reply P None none given flipped still = flipped _ _ (given ∙ ap (λ (o : Option Collection). if is_some o then answer.Collecting else answer.Flipped (length (flip_copies m roots)) (copied_size (flip_copies m roots))) none)
  flip_granted roots reply P (Some k) run given flipped still = still (given ∙ ap (λ (o : Option Collection). if is_some o then answer.Collecting else answer.Flipped (length (flip_copies m roots)) (copied_size (flip_copies m roots))) run)

  -- a flip has begun a collection, or one was running, or it was refused
  pub flip_or : (reply : Reply) (P : Type 0) → AnswersFlip reply → ((objects words : ℕ) → reply ≡ answer.Flipped objects words → P) → (reply ≡ answer.Collecting → P) → ((why : Refusal) → reply ≡ answer.Refused why → P) → P
  flip_or reply P replied flipped still refused =
      either (flip_refusal m replied.0) (flip_reply m replied.0) reply P replied.2 (λ given. flip_granted replied.0 reply P m.collection refl given flipped still) refused

  scan_granted : (reply : Reply) (P : Type 0) (runs : Option Collection) (next : Option ℕ) → reply ≡ scan_reply_of m runs next → ((page objects words : ℕ) → reply ≡ answer.Scanned page objects words → P)
      → ((used : ℕ) → reply ≡ answer.Collected used → P) → (reply ≡ answer.Idle → P) → P
  scan_granted reply P None next given scanned collected still = still given
  scan_granted reply P (Some k) None given scanned collected still = collected _ given
  scan_granted reply P (Some k) (Some page) given scanned collected still = scanned page _ _ given

  -- a scan has scanned a page or ended the collection, or none ran, or it was refused
  pub scan_or : (reply : Reply) (P : Type 0) → AnswersScan reply → ((page objects words : ℕ) → reply ≡ answer.Scanned page objects words → P) → ((used : ℕ) → reply ≡ answer.Collected used → P)
      → (reply ≡ answer.Idle → P) → ((why : Refusal) → reply ≡ answer.Refused why → P) → P
  scan_or reply P replied scanned collected still refused =
      either (scan_refusal m replied.0) (scan_reply m replied.0) reply P replied.2 (λ given. scan_granted reply P m.collection replied.0 given scanned collected still) refused

-- a call that must have its memory does not lack it
pub never_lacks : {E : Type 0} (result : Result Reply E) (e : E) (reply : Reply) → result ≡ Err e → result ≡ Ok reply → ⊥
never_lacks result e reply is ok = cc (is, ok)

-- So is one of a collection.
module _ (m n : Memory) (c : Core) (is : IsMemory m (account c.history) c) (valid : IsValid c) (event : Event) where
  abbrev CameTo : {E : Type 0} → Result Reply E → Event → Type 0
  CameTo result event = IfOk result (λ reply. Does c event reply n)

  flip_result : {E : Type 0} (result : Result Reply E) → IfOk result (AnswersFlip m) → ((objects words : ℕ) → result ≡ Ok (answer.Flipped objects words) → (roots : List ℕ) × Flips m n roots)
      → (result ≡ Ok answer.Collecting → n ≡ m) → ((why : Refusal) → result ≡ Ok (answer.Refused why) → IsAsItWas m n) → CameTo result Flip
  flip_result (Err e) replied flipped still stays = tt
  flip_result (Ok reply) replied flipped still stays =
      flip_does m c valid is n replied.0 replied.1 (flip_refused m c valid is replied.0 replied.1) reply replied.2 (λ objects words given. flipped objects words (ap Ok given)) (λ given. still (ap Ok given))
      (λ why given. stays why (ap Ok given))

  pub flips : {E : Type 0} (result : Result Reply E) → event ≡ Flip → IfOk result (AnswersFlip m) → ((objects words : ℕ) → result ≡ Ok (answer.Flipped objects words) → (roots : List ℕ) × Flips m n roots)
      → (result ≡ Ok answer.Collecting → n ≡ m) → ((why : Refusal) → result ≡ Ok (answer.Refused why) → IsAsItWas m n) → CameTo result event
  flips result form replied flipped still stays = subst (CameTo result) (sym form) (flip_result result replied flipped still stays)

  scan_result : {E : Type 0} (result : Result Reply E) → IfOk result (AnswersScan m) → ((page objects words : ℕ) → result ≡ Ok (answer.Scanned page objects words) → Scans m n (Some page))
      → ((used : ℕ) → result ≡ Ok (answer.Collected used) → Scans m n None) → (result ≡ Ok answer.Idle → n ≡ m) → ((why : Refusal) → result ≡ Ok (answer.Refused why) → IsAsItWas m n) → CameTo result Scan
  scan_result (Err e) replied scanned collected still stays = tt
  scan_result (Ok reply) replied scanned collected still stays =
      scan_does m c valid is n replied.0 replied.1 (scan_refused m c valid is replied.0 replied.1) reply replied.2 (λ page objects words given. scanned page objects words (ap Ok given))
      (λ used given. collected used (ap Ok given)) (λ given. still (ap Ok given)) (λ why given. stays why (ap Ok given))

  pub scans : {E : Type 0} (result : Result Reply E) → event ≡ Scan → IfOk result (AnswersScan m) → ((page objects words : ℕ) → result ≡ Ok (answer.Scanned page objects words) → Scans m n (Some page))
      → ((used : ℕ) → result ≡ Ok (answer.Collected used) → Scans m n None) → (result ≡ Ok answer.Idle → n ≡ m) → ((why : Refusal) → result ≡ Ok (answer.Refused why) → IsAsItWas m n) → CameTo result event
  scans result form replied scanned collected still stays = subst (CameTo result) (sym form) (scan_result result replied scanned collected still stays)

-- what follows for the answer of a call that had its memory
pub answered : {E : Type 0} (result : Result Reply E) (x : Reply) (P : Reply → Type 0) → result ≡ Ok x → IfOk result P → P x
answered result x P was holds = subst (λ r. IfOk r P) was holds

-- a call that may be refused was granted or refused
pub granted_or : {E : Type 0} (o : Option Refusal) (gives : Reply) (result : Result Reply E) (x : Reply) (P : Type 0) → result ≡ Ok x → IfOk result (λ reply. reply ≡ reply_of o gives) → (result ≡ Ok gives → P)
    → ((why : Refusal) → result ≡ Ok (answer.Refused why) → P) → P
granted_or o gives result x P was replied granted refused =
    either o gives x P (answered result x (λ reply. reply ≡ reply_of o gives) was replied) (λ done. granted (was ∙ ap Ok done)) (λ why stays. refused why (was ∙ ap Ok stays))

-- so was a read
pub read_or : (reply : Reply) (P : Type 0) → (IsGranted reply → P) → ((why : Refusal) → reply ≡ answer.Refused why → P) → P
read_or (answer.Refused why) P granted refused = refused why refl
read_or reply P granted refused = granted tt
