-- The store of a page of an open heap is the flush of a core, in memory and on the disk.
use Rattle.std.proofs.Common.{◌≡◌, ◌≢◌, ℕ, ◌+◌, ◌*◌, ◌<◌, ◌≤◌, min, max, lit<, Bool, true, false, cond, List, [], ◌∷◌, ◌++◌, Result, Ok, Err, refl, sym, ap, ◌∙◌, subst, append-nil}
use Rattle.std.specs.Prelude.{fold, ◌==◌, nat_lt, OnOk, IsTrue, IsFalse, if◌then◌else◌}
use Rattle.std.proofs.lemmas.Bool.{eqb-true, eqb-false}
use Rattle.disk_model.specs.Disk.{Only}
use Rattle.disk_model.specs.declared.disk.DiskError.{DiskError}
use Rattle.gate_slot.specs.Passing.{Passes}
use Rattle.gated_log.specs.declared.log.Log.{Log}
use Rattle.gated_log.specs.Log.{records_of}
use Rattle.gated_log.proofs.LogLaws.{buffer_size-Keeps}
use Rattle.gated_log.specs.LogState.{buffer_size, log_place, log_room, is_waiting, Keeps}
use Rattle.graph_model.specs.declared.event.Event.TheVariants.{Flush}
use Rattle.graph_model.specs.History.{Account, account}
use Rattle.image_plan.specs.declared.superblock.Super.{Super}
use Rattle.page_redo.specs.Origin.{Origin, heap_origin}
use Rattle.log_records.specs.declared.Record.{Record}
use Rattle.logged_pages.specs.declared.logged.LoggedPages.{LoggedPages}
use Rattle.logged_pages.specs.OnDisk as pages
use Rattle.logged_pages.specs.OnDisk.{batches_if, pending_if, HasStored, Stands}
use Rattle.logged_pages.proofs.DiskLaws.{stands_still}
use Rattle.logged_pages.specs.State.{cache_of, log_of, store_of}
use Rattle.page_cache.specs.CacheState as cache
use Rattle.page_cache.specs.CacheState.{cache_log, cache_pages, cached_lsn, cached_page}
use Rattle.page_cache.specs.Stored.{stored_pages}
use Rattle.page_cache.proofs.StoredLaws.{flushed_stored}
use Rattle.page_redo.specs.Pages.{Pages, pages_in, page_words, lsn_of}
use Rattle.page_redo.specs.Prefix.{EachHoldsPrefix}
use Rattle.page_redo.specs.Redo.{last_lsn}
use Rattle.page_store.specs.declared.frame.Stored.{Stored}
use Rattle.page_store.specs.Gates.{open_gates}
use Rattle.page_store.specs.Page.{HasPage, SamePage}
use Rattle.page_store.specs.StoreState.{store_plan, stored_entry, stored_lsn, has_failed, Knows}
use Rattle.heap_memory.specs.Memory.{Memory}
use Rattle.heap_model.specs.Core.{Core, log_origin, all_records, all_words, present_lsn, is_dirty, is_ahead, Stores, made, landing, storing, transfers, done, force_calls, store_calls, calls_of}
use Rattle.heap_model.specs.CoreCrash.{IsLogged}
use Rattle.heap_model.proofs.Step.Logged.{logged_landed}
use Rattle.heap_model.proofs.Step.Room.{forced-with_batch, records_of-with_batch}
use Rattle.heap_model.proofs.Step.Transfers.{calls_storing}
use Rattle.memory_laws.specs.CoreMemory.{IsMemory}
use Rattle.memory_laws.proofs.Step.Disk.{HasSameWork, forced_memory, stored_memory}
use Rattle.heap_engine.specs.Refinement.{OnDisk, KnowsPages}
use Rattle.heap_engine.proofs.DeviceCalls.{hand_calls}
use Rattle.heap_engine.proofs.OnPages.{bytes, within, lsn, dirty_is, ahead_is, by_super, holds_other}
use Rattle.heap_engine.specs.declared.engine.Engine.{Engine}
use Rattle.heap_engine.specs.EngineState.{memory}

-- What holds where a call came through, by the clauses of that call.
pub when_ok : {T E P : Type 0} (result : Result T E) → ((x : T) → result ≡ Ok x → P) → OnOk result P
when_ok (Ok x) holds = holds x refl
when_ok (Err e) holds = tt

pub its : {T E P : Type 0} (result : Result T E) (x : T) → result ≡ Ok x → OnOk result P → P
its {P = P} result x is holds = let Q : Result _ _ → Type 0 = λ r. OnOk r P in subst Q is holds

-- A force leaves a core with the same numbers, words and records.
record IsForced (c d : Core) : Type 0 where
  pages : d.pages ≡ c.pages
  room : d.room ≡ c.room
  first_number : d.first_number ≡ c.first_number
  stored_lsns : d.stored_lsns ≡ c.stored_lsns
  gates : d.gates ≡ c.gates
  born : d.born ≡ c.born
  records : all_records d ≡ all_records c

-- so it does where it is only made if something is ahead
is_forced : (ahead : Bool) (c : Core) → IsForced c (fold made c (landing ahead))
is_forced true c = subst (IsForced c) (sym (forced-with_batch c)) (record {
  pages = refl;
  room = refl;
  first_number = refl;
  stored_lsns = refl;
  gates = refl;
  born = refl;
  records = append-nil _ ∙ records_of-with_batch c.batches c.pending;
})
is_forced false c = record { pages = refl; room = refl; first_number = refl; stored_lsns = refl; gates = refl; born = refl; records = refl }

-- each page has the LSN that it had
present_forced : (c d : Core) (p : ℕ) → IsForced c d → present_lsn d p ≡ present_lsn c p
present_forced c d p same =
    ap (λ (f : ℕ → ℕ). max (f p) (last_lsn p 1 (all_records d))) same.stored_lsns ∙ ap (λ (rs : List Record). max (c.stored_lsns p) (last_lsn p 1 rs)) same.records

-- and its log begins where it did
origin_forced : (c d : Core) → IsForced c d → log_origin d ≡ log_origin c
origin_forced c d same = ap (λ (pages : ℕ). heap_origin pages d.first_number) same.pages ∙ ap (heap_origin c.pages) same.first_number

-- the stored pages may stay beside the log
logged_if : (ahead : Bool) (c : Core) (stored : Pages) → IsLogged c stored → IsLogged (fold made c (landing ahead)) stored
logged_if true c stored logged = logged_landed c stored logged
logged_if false c stored logged = logged

-- the batches are those that the log keeps then
batches_are : (ahead : Bool) (c : Core) → batches_if ahead c.batches c.pending ≡ (fold made c (landing ahead)).batches
batches_are true c = ap (λ (d : Core). d.batches) (sym (forced-with_batch c))
batches_are false c = refl

-- memory after a force that is only made if something is ahead
memory_if : (ahead : Bool) (m : Memory) (log : Log) (a : Account) (c : Core) → IsMemory m a c → Keeps log (batches_if ahead c.batches c.pending) (pending_if ahead c.pending) → log_place log ≡ log_place m.log → log_room log ≡ log_room m.log
    → IsMemory (record m { log = log }) a (fold made c (landing ahead))
memory_if true m log a c is keeps at room =
    forced_memory m (record m { log = log }) a c is keeps at room (record { words = refl; lsns = refl; table = refl; locks = refl; spaces = refl; collection = refl; sealed = refl }) refl
memory_if false m log a c is keeps at room = record {
  log = keeps;
  place = at ∙ is.place;
  room = room ∙ is.room;
  words = is.words;
  pages = is.pages;
  sessions = is.sessions;
}

-- a store makes calls
pub some_store : (gates : ℕ) → 0 < store_calls gates
some_store gates = by_test (nat_lt gates 2)
  where
    by_test : (b : Bool) → 0 < cond b 4 6
    by_test true = lit< tt
    by_test false = lit< tt

-- the core after pending records are forced if a page is ahead
abbrev ready : Core → ℕ → Core
ready c p = fold made c (landing (is_ahead c p))

-- a store behind it is the last transfer
ready_stored : (c : Core) (p k : ℕ) (ahead : Bool) → fold made c (landing ahead ++ Stores p k ∷ []) ≡ made (fold made c (landing ahead)) (Stores p k)
ready_stored c p k true = refl
ready_stored c p k false = refl

module _ (c : Core) (e : Engine) (p : ℕ) (is : IsMemory (memory e) (account c.history) c) (page : p < cache_pages (cache_of e.pages)) (dirty : IsTrue (cache.is_dirty (cache_of e.pages) p)) where
  own_lsn : cached_lsn (cache_of e.pages) p ≡ present_lsn c p
  own_lsn = lsn c e is p page

  here : p < pages_in c.pages
  here = within c e is p page

  flushed_is : done c (Flush p) ≡ made (ready c p) (Stores p (present_lsn c p))
  flushed_is = ap (λ (b : Bool). fold made c (storing b (is_ahead c p) p (present_lsn c p))) (sym (dirty_is c e is p page) ∙ dirty) ∙ ready_stored c p (present_lsn c p) (is_ahead c p)

  same : IsForced c (ready c p)
  same = is_forced (is_ahead c p) c

  -- What is in memory.
  pub flushed_memory : (new : Memory) → Keeps new.log (batches_if (pages.is_ahead e.pages p) c.batches c.pending) (pending_if (pages.is_ahead e.pages p) c.pending) → log_place new.log ≡ log_place (log_of e.pages)
      → log_room new.log ≡ log_room (log_of e.pages) → HasSameWork (memory e) new → store_plan new.store ≡ store_plan (store_of e.pages) → IsFalse (has_failed new.store) → stored_lsn new.store p ≡ cached_lsn (cache_of e.pages) p
      → ((q : ℕ) → q ≢ p → stored_entry new.store q ≡ stored_entry (store_of e.pages) q) → IsMemory new (account c.history) (done c (Flush p))
  flushed_memory new keeps at room work plan unfailed clean others =
      let a = account c.history in
      let keeps' = subst (λ (b : Bool). Keeps new.log (batches_if b c.batches c.pending) (pending_if b c.pending)) (ahead_is c e is p page) keeps in
      let forced = memory_if (is_ahead c p) (memory e) new.log a c is keeps' at room in
      subst (IsMemory new a) (sym flushed_is)
      (stored_memory (record (memory e) { log = new.log }) new a (ready c p) p (present_lsn c p) forced refl
      (record { words = work.words; lsns = work.lsns; table = work.table; locks = work.locks; spaces = work.spaces; collection = work.collection; sealed = work.sealed })
      plan unfailed (sym (present_forced c (ready c p) p same)) (clean ∙ own_lsn) (λ q apart. ap (λ (x : Stored). x.lsn) (others q apart)))

  -- What is known of the frames.
  module _ (old image : List ℕ) (known : KnowsPages c (memory e) old) (stored : HasStored e.pages p old image) where
    gates_one : (q : ℕ) (b : Bool) → (q == p) ≡ b → open_gates c.room image p ≡ min 2 (open_gates c.room old p + 1) → ((q : ℕ) → q ≢ p → open_gates c.room image q ≡ open_gates c.room old q)
        → open_gates c.room image q ≡ cond b (min 2 ((ready c p).gates q + 1)) ((ready c p).gates q)
    gates_one q true this one others =
        let is = eqb-true q p this in
        let gates : open_gates c.room old p ≡ (ready c p).gates q = known.gates p ∙ ap c.gates (sym is) ∙ sym (ap (λ (f : ℕ → ℕ). f q) same.gates) in
        ap (open_gates c.room image) is ∙ one ∙ ap (λ (n : ℕ). min 2 (n + 1)) gates
    gates_one q false this one others = others q (eqb-false q p this) ∙ known.gates q ∙ sym (ap (λ (f : ℕ → ℕ). f q) same.gates)

    pub flushed_knows : (n : Memory) → Knows n.store image → KnowsPages (done c (Flush p)) n image
    flushed_knows n frames =
        let P : Core → Type 0 = λ d. KnowsPages d n image in
        let log = bytes c e is in
        let one = subst (λ (k : ℕ). open_gates k image p ≡ min 2 (open_gates k old p + 1)) log stored.gates in
        let others = subst (λ (k : ℕ). (q : ℕ) → q ≢ p → open_gates k image q ≡ open_gates k old q) log stored.other_gates in
        subst P (sym flushed_is) (record {
          frames = frames;
          gates = λ q. ap (λ (k : ℕ). open_gates k image q) same.room ∙ gates_one q (q == p) refl one others;
        })

  -- What is on the disk.
  module _ (s : Super) (old image : List ℕ) (may_have_left may_leave : List ℕ → Type 0) (disk : OnDisk s c old may_have_left) (stored : HasStored e.pages p old image) where
    as_core : (P : ℕ → ℕ → List ℕ → Type 0) → P (cache_log (cache_of e.pages)) (cached_lsn (cache_of e.pages) p) (cached_page (cache_of e.pages) p) → P s.log_bytes (present_lsn c p) (page_words (all_words c) p)
    as_core P h =
        let P0 : ℕ → Type 0 = λ n. P n (cached_lsn (cache_of e.pages) p) (cached_page (cache_of e.pages) p) in
        let P1 : ℕ → Type 0 = λ n. P s.log_bytes n (cached_page (cache_of e.pages) p) in
        let P2 : List ℕ → Type 0 = λ ws. P s.log_bytes (present_lsn c p) (page_words ws p) in
        subst P2 is.words (subst P1 own_lsn (subst P0 (bytes c e is ∙ sym disk.of.room) h))

    stored_one : (q : ℕ) (b : Bool) (was : ℕ) → was ≡ (ready c p).stored_lsns q → cond b (present_lsn c p) was ≡ cond b (present_lsn c p) ((ready c p).stored_lsns q)
    stored_one q true was is = refl
    stored_one q false was is = is

    -- after it the disk holds the core with that page stored
    pub flushed_on : (new : LoggedPages) → log_place (log_of new) ≡ log_place (log_of e.pages) → log_room (log_of new) ≡ log_room (log_of e.pages) → store_plan (store_of new) ≡ store_plan (store_of e.pages)
        → Stands (log_origin c) (batches_if (pages.is_ahead e.pages p) c.batches c.pending) new image → Only image may_leave → OnDisk s (done c (Flush p)) image may_leave
    flushed_on new at room plan there only =
        let d = ready c p in
        let logged = logged_if (is_ahead c p) c disk.stored disk.logged in
        let ahead = ahead_is c e is p page in
        let stands = stands_still (log_origin c) (batches_if (pages.is_ahead e.pages p) c.batches c.pending) new e.pages image (sym at) (sym room) (sym plan) there in
        let batches : batches_if (pages.is_ahead e.pages p) c.batches c.pending ≡ d.batches = ap (λ (b : Bool). batches_if b c.batches c.pending) ahead ∙ batches_are (is_ahead c p) c in
        let now = subst (λ (bs : List (List Record)). Stands (log_origin c) bs e.pages image) batches stands in
        let prefixes = by_super c e is s old may_have_left disk (EachHoldsPrefix (log_origin c) (records_of d.batches)) image now.pages in
        let has = as_core (λ n k ws. HasPage n p k ws image) stored.page in
        let others = as_core (λ n k ws. (q : ℕ) → q ≢ p → SamePage n q old image) stored.others in
        let P : Core → Type 0 = λ x. OnDisk s x image may_leave in
        subst P (sym flushed_is) (record {
          of = record { limits = disk.of.limits; pages = disk.of.pages ∙ sym same.pages; room = disk.of.room ∙ sym same.room; first = disk.of.first ∙ sym same.first_number };
          born = same.born ∙ disk.born;
          stored = stored_pages s.pages s.log_bytes image;
          logged = record {
            words = logged.words;
            prefixes = subst (λ (o : Origin). EachHoldsPrefix o (records_of d.batches) (stored_pages s.pages s.log_bytes image)) (sym (origin_forced c d same)) prefixes;
            lsns = λ q lt.
                let was : lsn_of (stored_pages s.pages s.log_bytes old) q ≡ d.stored_lsns q = ap (λ (at : Pages). lsn_of at q) disk.held.pages ∙ logged.lsns q lt in
                flushed_stored s.pages s.log_bytes p (present_lsn c p) (page_words (all_words c) p) old image has others q (subst (λ (n : ℕ). q < pages_in n) (same.pages ∙ sym disk.of.pages) lt)
                ∙ stored_one q (q == p) (lsn_of (stored_pages s.pages s.log_bytes old) q) was;
          };
          held = holds_other c e is s old may_have_left disk image stored.outside d.batches now.log;
          only = only;
        })

  -- How many calls it makes.
  pub calls_are : calls_of c (transfers c (Flush p)) ≡ (if is_ahead c p then force_calls c.pending else 0) + store_calls (c.gates p)
  calls_are =
      calls_storing c (is_dirty c p) (is_ahead c p) p (present_lsn c p)
      ∙ ap (λ (b : Bool). cond b ((if is_ahead c p then force_calls c.pending else 0) + store_calls (c.gates p)) 0) (sym (dirty_is c e is p page) ∙ dirty)

  force_part : (if pages.is_ahead e.pages p then pages.force_calls (is_waiting (log_of e.pages)) else 0) ≡ (if is_ahead c p then force_calls c.pending else 0)
  force_part =
      ap (λ (b : Bool). cond b (pages.force_calls (is_waiting (log_of e.pages))) 0) (ahead_is c e is p page)
      ∙ ap (λ (k : ℕ). cond (is_ahead c p) k 0) (hand_calls (buffer_size (log_of e.pages)) c.pending (buffer_size-Keeps (log_of e.pages) c.batches c.pending is.log))

  store_part : (image : List ℕ) → KnowsPages c (memory e) image → pages.store_calls e.pages p image ≡ store_calls (c.gates p)
  store_part image known = ap store_calls (ap (λ (k : ℕ). open_gates k image p) (bytes c e is) ∙ known.gates p)

  pub flush_passes : (image : List ℕ) (before now : ℕ) (result : Result (Unit {0}) DiskError) → KnowsPages c (memory e) image
      → Passes ((if pages.is_ahead e.pages p then pages.force_calls (is_waiting (log_of e.pages)) else 0) + pages.store_calls e.pages p image) before now result → Passes (calls_of c (transfers c (Flush p))) before now result
  flush_passes image before now result known passes =
      subst (λ (k : ℕ). Passes k before now result) ((λ i. force_part i + store_part image known i) ∙ sym calls_are) passes
