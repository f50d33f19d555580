-- A heap that has just been opened.
use Rattle.std.specs.Prelude.{IsTrue, IsFalse, MatchOption}
use Rattle.std.proofs.Common.{◌≡◌, ℕ, ◌+◌, ◌*◌, ◌<◌, ◌≤◌, max, get_or, Bool, true, false, List, [], length, Option, None, Some, refl, sym, ap, ◌∙◌, subst, arith}
use Rattle.std.specs.FinMap.{get-empty}
use Rattle.std.specs.FinSet as set
use Rattle.std.specs.FinSet.{contains, contains-empty}
use Rattle.std.specs.Ordering.{nat_cmp}
use Rattle.std.proofs.lemmas.List.{append-nil}
use Rattle.disk_model.specs.Disk.{Only}
use Rattle.gated_log.specs.LogState.{log_count}
use Rattle.graph_model.specs.Graph.{Graph}
use Rattle.graph_model.specs.History.{account, nothing_yet}
use Rattle.heap_spaces.specs.Collection.{Collection}
use Rattle.heap_spaces.specs.Spaces.{SpacesState}
use Rattle.log_records.specs.declared.Record.{Record}
use Rattle.log_machine.specs.Machine.{State, settled, spaces_of, start, words_in}
use Rattle.log_machine.specs.Sound.{IsWithin}
use Rattle.log_machine.proofs.StateLaws.{leads_after_all}
use Rattle.log_machine.proofs.WordsLaws.{length-first_contents}
use Rattle.page_redo.specs.Pages.{Pages, pages_in, lsn_of}
use Rattle.page_redo.proofs.PrefixLaws.{redone-words}
use Rattle.page_redo.specs.Redo.{EachLacks, last_lsn}
use Rattle.page_redo.proofs.RedoLaws.{EachLacks-redone, lsns-redo_all, lsn-redo_all}
use Rattle.page_cache.specs.CacheState.{cached, cache_store, cache_frames, cached_lsn, flushed_lsn}
use Rattle.page_redo.specs.Victim.{dirty_pages}
use Rattle.page_redo.proofs.VictimLaws.{dirty_at_most}
use Rattle.page_store.specs.declared.store.PageStore.{PageStore}
use Rattle.page_store.specs.Gates.{open_gates}
use Rattle.page_store.specs.StoreState.{store_plan, stored_lsn, has_failed, Knows}
use Rattle.graph_words.specs.Places.{Places}
use Rattle.collection_words.specs.LaidOut.{IsFromSpace, IsLaidOut}
use Rattle.collection_words.proofs.Laid.Within.{start_within}
use Rattle.heap_model.specs.CoreCrash.{IsLogged}
use Rattle.heap_model.proofs.Opening.Opened.{address_found}
use Rattle.heap_model.proofs.Opening.Rolled.{next_is, commits_are, rolled_reached, redone_words-rolled_back, length-rolled_words, rolled_behind, rolled_prefixes, shaped_spaces}
use Rattle.heap_model.specs.Core.{state_behind}
use Rattle.heap_model.specs.Image.{StoredHeap, origin_of, IsShapedLog, IsLegalLog, Holds, records_in}
use Rattle.heap_model.specs.Opening.{rolled_back, rolled_words, commits_of, opened}
use Rattle.heap_recovery.specs.declared.recovery.Recovered.{Recovered}
use Rattle.heap_recovery.specs.Recovered.{IsRecovered}
use Rattle.heap_memory.specs.Memory.{Memory}
use Rattle.memory_laws.specs.CoreMemory.{AreHeld, IsMemory}
use Rattle.memory_laws.proofs.Step.Appended.{some_one}
use Rattle.object_locks.specs.Holdings.{Holdings, holding_cmp}
use Rattle.txn_table.specs.Table.{TransactionState, TableState, transaction_of, new_table}
use Rattle.heap_engine.specs.declared.engine.Engine.{Engine}
use Rattle.heap_engine.specs.EngineState as state
use Rattle.image_plan.specs.declared.plan.Plan.{Plan}
use Rattle.gated_log.specs.LogState.{log_room}
use Rattle.page_cache.specs.CacheState.{cache_log, cache_pages}
use Rattle.logged_pages.specs.declared.logged.LoggedPages.{LoggedPages}
use Rattle.logged_pages.specs.State.{cache_of, log_of}
use Rattle.page_cache.specs.declared.cache.PageCache.{PageCache}
use Rattle.heap_engine.specs.EngineState.{memory}
use Rattle.disk_model.specs.declared.disk.Disk.{Ghosts}
use Rattle.heap_engine.specs.Refinement.{KnowsPages, IsEngine}
use Rattle.heap_core.specs.Refinement.{DiskHolds, IsCoreOn}
use Rattle.heap_core.specs.declared.in_memory.HeapCore.{HeapCore}
use Rattle.heap_core.proofs.StepCore.{remembers}

-- what was handed on is what the log says once it is rolled back
state_found : (stored : StoredHeap) (found : Recovered) (shaped : IsShapedLog stored) → IsRecovered stored found → found.state ≡ settled shaped.state
state_found stored found shaped recovered = some_one _ _ (sym recovered.state ∙ rolled_reached stored shaped)

-- as many transactions are committed as the log says
pub commits_found : (stored : StoredHeap) (found : Recovered) (shaped : IsShapedLog stored) → IsRecovered stored found → found.state.commits ≡ commits_of stored
commits_found stored found shaped recovered =
    ap (λ (x : State). x.commits) (state_found stored found shaped recovered) ∙ sym (commits_are stored shaped)

-- the words in memory are those after the opening
words_found : (stored : StoredHeap) (found : Recovered) → IsShapedLog stored → IsRecovered stored found
    → (cached found.cache).words ≡ rolled_words stored
words_found stored found shaped recovered = ap (λ (at : Pages). at.words) recovered.cached ∙ redone_words-rolled_back stored shaped

-- the LSNs in memory are those after the opening
lsns_found : (stored : StoredHeap) (found : Recovered) → IsShapedLog stored → IsRecovered stored found
    → length (cached found.cache).lsns ≡ pages_in stored.super.pages
lsns_found stored found shaped recovered =
    ap (λ (at : Pages). length at.lsns) recovered.cached ∙ lsns-redo_all 1 stored.pages (records_in (rolled_back stored)) ∙ shaped.lsns_size

lsn_found : (stored : StoredHeap) (found : Recovered) → IsShapedLog stored → IsRecovered stored found
    → (p : ℕ) → p < pages_in stored.super.pages → lsn_of (cached found.cache) p ≡ max (lsn_of stored.pages p) (last_lsn p 1 (records_in (rolled_back stored)))
lsn_found stored found shaped recovered p lt =
    ap (λ (at : Pages). lsn_of at p) recovered.cached ∙ lsn-redo_all 1 stored.pages (records_in (rolled_back stored)) p (omega (arith, shaped.lsns_size))

-- no page has a record that the log lacks
next_is_new : (stored : StoredHeap) (found : Recovered) → IsShapedLog stored → IsRecovered stored found
    → EachLacks (log_count found.log + 1) (cached found.cache)
next_is_new stored found shaped recovered p =
    let lacking = EachLacks-redone (origin_of stored) (records_in (rolled_back stored)) stored.pages (rolled_behind stored shaped) p in
    let same = ap (λ (at : Pages). lsn_of at p) recovered.cached in
    let count = recovered.log.count in
    omega arith

-- a new table has no transaction
none_begun : (table : TableState) (next : ℕ) → table ≡ new_table next → (s : ℕ) → transaction_of table s ≡ None
none_begun table next is s = ap (λ (t : TableState). transaction_of t s) is ∙ get-empty {X = TransactionState} nat_cmp s

-- where no session has a transaction nothing is locked
none_held : (locks : Holdings) (places : Places) (g : Graph) → locks ≡ set.empty → AreHeld locks places g nothing_yet
none_held locks places g is h = (
  λ there. let never : false ≡ true = sym (contains-empty holding_cmp h) ∙ ap (λ (l : Holdings). set.contains l h) (sym is) ∙ there in cc never,
  λ held. let never = held.active in cc never,
)

-- What a heap just opened keeps in memory: the log and the pages that were found, a space of which the objects' words are taken, the
-- collection that was under way, no transaction, and no lock.
pub record IsFresh (found : Recovered) (m : Memory) : Type 0 where
  pub log : m.log ≡ found.log
  pub words : m.words ≡ (cached found.cache).words
  pub lsns : m.lsns ≡ (cached found.cache).lsns
  pub store : m.store ≡ cache_store found.cache
  pub spaces : m.spaces ≡ spaces_of found.state
  pub collection : m.collection ≡ found.state.collection
  pub table : m.table ≡ new_table found.state.next
  pub locks : m.locks ≡ set.empty
  pub sealed : m.sealed ≡ 0

pub is_fresh : (found : Recovered) (pages : LoggedPages) → log_of pages ≡ found.log → cache_of pages ≡ found.cache → (spaces : SpacesState) (runs : Option Collection) (table first : TableState) (m : Memory)
    → m ≡ state.opened pages spaces runs table.next
    → spaces ≡ spaces_of found.state → runs ≡ found.state.collection → table ≡ record { next = found.state.next; active = first.active } → IsFresh found m
is_fresh found pages log cache spaces runs table first m is space run transactions = record {
  log = ap (λ x. x.log) is ∙ log;
  words = ap (λ x. x.words) is ∙ ap (λ (k : PageCache). (cached k).words) cache;
  lsns = ap (λ x. x.lsns) is ∙ ap (λ (k : PageCache). (cached k).lsns) cache;
  store = ap (λ x. x.store) is ∙ ap (λ (k : PageCache). cache_store k) cache;
  spaces = ap (λ x. x.spaces) is ∙ space;
  collection = ap (λ x. x.collection) is ∙ run;
  table = ap (λ x. x.table) is ∙ ap (λ t. new_table t.next) transactions;
  locks = ap (λ x. x.locks) is;
  sealed = ap (λ x. x.sealed) is;
}

-- what was found is the core of a heap that has just been opened, whatever graph stands in it
fresh_memory : (stored : StoredHeap) (gates : ℕ → ℕ) (born : Bool) (places : Places) (g : Graph) (found : Recovered) (m : Memory) → (shaped : IsShapedLog stored)
    → IsRecovered stored found → IsFresh found m → IsMemory m (account (opened stored gates born places g).history) (opened stored gates born places g)
fresh_memory stored gates born places g found m shaped recovered fresh =
    let c = opened stored gates born places g in
    let same_next = ap (λ (x : State). x.next) (state_found stored found shaped recovered) ∙ sym (next_is stored shaped) in
    let none = append-nil (records_in (rolled_back stored)) in
    record {
      log = rw fresh.log recovered.log;
      place = rw fresh.log recovered.place;
      room = rw fresh.log recovered.room;
      words = fresh.words ∙ words_found stored found shaped recovered;
      pages = record {
        number = ap (λ (l : List ℕ). length l) fresh.lsns ∙ lsns_found stored found shaped recovered;
        now = λ p lt. ap (λ (l : List ℕ). get_or l p 0) fresh.lsns ∙ lsn_found stored found shaped recovered p lt ∙ ap (λ (rs : List Record). max (lsn_of stored.pages p) (last_lsn p 1 rs)) (sym none);
        flushed = λ p lt. ap (λ (x : PageStore). stored_lsn x p) fresh.store ∙ recovered.flushed p lt;
        plan = ap store_plan fresh.store ∙ recovered.plan;
        unfailed = subst (λ (x : PageStore). IsFalse (has_failed x)) (sym fresh.store) recovered.unfailed;
      };
      sessions = record {
        state = settled shaped.state;
        reached = ap (state_behind c) none ∙ rolled_reached stored shaped;
        spaces = fresh.spaces ∙ ap spaces_of (state_found stored found shaped recovered);
        collection = fresh.collection ∙ ap (λ (x : State). x.collection) (state_found stored found shaped recovered);
        transactions = none_begun m.table found.state.next fresh.table;
        locks = none_held m.locks c.places g fresh.locks;
        next = ap (λ t. t.next) fresh.table ∙ omega (arith, same_next);
        sealed = fresh.sealed;
      };
    }

-- What was known of the pages that are stored is known of them.
opened_pages : (stored : StoredHeap) (gates : ℕ → ℕ) (born : Bool) (places : Places) (g : Graph) (found : Recovered) (m : Memory) (image : List ℕ)
    → IsFresh found m → Knows (cache_store found.cache) image → ((p : ℕ) → open_gates stored.super.log_bytes image p ≡ gates p) → KnowsPages (opened stored gates born places g) m image
opened_pages stored gates born places g found m image fresh knows are = record {
  frames = subst (λ (x : PageStore). Knows x image) (sym fresh.store) knows;
  gates = are;
}

-- so the engine that is made of it is that core
pub opened_engine : {D : Type 0} (d : Ghosts D) (stored : StoredHeap) (gates : ℕ → ℕ) (born : Bool) (places : Places) (g : Graph) (found : Recovered) (e : Engine) (disk : D)
    → (shaped : IsShapedLog stored) → IsRecovered stored found → IsFresh found (memory e) → (IsTrue d.tells → Knows (cache_store found.cache) (d.bytes disk))
    → (IsTrue d.tells → (p : ℕ) → open_gates stored.super.log_bytes (d.bytes disk) p ≡ gates p) → IsEngine d (opened stored gates born places g) e disk
opened_engine d stored gates born places g found e disk shaped recovered fresh knows are = record {
  unfailed = refl;
  pages = λ told. opened_pages stored gates born places g found (memory e) (d.bytes disk) fresh (knows told) (are told);
  memory = fresh_memory stored gates born places g found (memory e) shaped recovered fresh;
}

-- and a heap that is made of that engine
pub opened_core : {D : Type 0} (d : Ghosts D) (stored : StoredHeap) (gates : ℕ → ℕ) (born : Bool) (places : Places) (g : Graph) (found : Recovered) (e : Engine) (core : HeapCore) (disk : D)
    → (shaped : IsShapedLog stored) → IsRecovered stored found → IsFresh found (memory e) → (IsTrue d.tells → Knows (cache_store found.cache) (d.bytes disk))
    → (IsTrue d.tells → (p : ℕ) → open_gates stored.super.log_bytes (d.bytes disk) p ≡ gates p) → core.engine ≡ e → core.history.entries ≡ [] → core.before ≡ found.state.commits → core.failed ≡ None
    → IsCoreOn d (opened stored gates born places g) core disk
opened_core d stored gates born places g found e core disk shaped recovered fresh knows are same entries before none =
    let c = opened stored gates born places g in
    let is = opened_engine d stored gates born places g found e disk shaped recovered fresh knows are in
    let here = subst (λ (x : Engine). IsEngine d c x disk) (sym same) is in
    record { history = entries; before = before ∙ commits_found stored found shaped recovered; memory = remembers d c core.engine disk core.failed none here; engine = λ still. here }

-- its words are those that a legal log leaves, beside pages that may stand there
opened_logged : (stored : StoredHeap) → IsLegalLog stored → (gates : ℕ → ℕ) (places : Places) (g : Graph) → IsLogged (opened stored gates true places g) stored.pages
opened_logged stored legal gates places g =
    let prefixes = rolled_prefixes stored legal in
    record {
      words = sym (redone_words-rolled_back stored legal.shaped) ∙ redone-words (origin_of stored) (length-first_contents stored.super.pages) (records_in (rolled_back stored)) stored.pages prefixes;
      prefixes = prefixes;
      lsns = λ p lt. refl;
    }

-- the disk of such a heap holds it
pub opened_disk_holds : (stored : StoredHeap) (gates : ℕ → ℕ) (places : Places) (g : Graph) (new : List ℕ) (may_leave : List ℕ → Type 0) → IsLegalLog stored
    → Holds (rolled_back stored) new → Only new may_leave → DiskHolds stored.super (opened stored gates true places g) new may_leave
opened_disk_holds stored gates places g new may_leave legal held only = record {
  born = refl;
  unfailed = λ none. record {
    of = record { limits = legal.shaped.limits; pages = refl; room = refl; first = refl };
    born = refl;
    stored = stored.pages;
    logged = opened_logged stored legal gates places g;
    held = held;
    only = only;
  };
  failed = λ some. absurd (some refl);
}

-- where as many pages may be dirty as there are, no more are
pub bounded_frames : (cache : PageCache) → cache_frames cache ≡ cache_pages cache → length (dirty_pages (cache_pages cache) (cached_lsn cache) (flushed_lsn cache)) ≤ cache_frames cache
bounded_frames cache frames = omega (arith, frames, dirty_at_most (cache_pages cache) (cached_lsn cache) (flushed_lsn cache))

-- Numbers of every heap that was opened: there is a next transaction, the words are those of both spaces, the log's next record is new to each
-- page, there are pages, which lie behind the log, and what is gray stands in the words that are used.
pub record IsBounded (found : Recovered) : Type 0 where
  pub next : 1 ≤ found.state.next
  pub size : length (cached found.cache).words ≡ words_in found.state.pages
  pub new : EachLacks (log_count found.log + 1) (cached found.cache)
  pub few : found.state.pages ≤ 16384
  pub whole : length (cached found.cache).words ≡ 64 * cache_pages found.cache
  pub many : cache_pages found.cache ≤ 32768
  pub some_pages : 0 < cache_pages found.cache
  pub behind : log_room found.log ≡ cache_log found.cache
  pub gray : (k : Collection) → found.state.collection ≡ Some k → (at : ℕ) → contains k.gray at ≡ true → at < found.state.base + found.state.used
  pub within : (k : Collection) → found.state.collection ≡ Some k → IsWithin found.state.pages k

-- what is gray stands in the used words
gray_within : (s : State) (places remaining : Places) (words : List ℕ) (k : Collection) → s.collection ≡ Some k → IsLaidOut s places remaining words → (at : ℕ) → contains k.gray at ≡ true → at < s.base + s.used
gray_within s places remaining words k run laid at gray =
    let from = subst (λ (o : Option Collection). MatchOption o (remaining ≡ []) (λ x. IsFromSpace s x places remaining words)) run laid.from in
    let within = start_within laid at (from.grays at gray) in
    let below = within.below in
    omega arith

pub opened_bounds : (stored : StoredHeap) (found : Recovered) → IsShapedLog stored → IsRecovered stored found → IsBounded found
opened_bounds stored found shaped recovered =
    let to = leads_after_all (start stored.super.pages stored.super.first) shaped.state (records_in stored) shaped.reached in
    let state = state_found stored found shaped recovered in
    let first = shaped.limits.some_first in
    let grows = to.grows in
    let next = ap (λ (x : State). x.next) state in
    let pages = ap (λ (x : State). x.pages) state ∙ to.pages in
    let few = shaped.limits.few_pages in
    let size = ap length (words_found stored found shaped recovered) ∙ length-rolled_words stored shaped ∙ ap words_in (sym pages) in
    record {
      next = omega arith;
      size = size;
      new = next_is_new stored found shaped recovered;
      few = omega arith;
      whole = omega (arith, size, pages, ap (λ (of : Plan). of.pages) recovered.plan);
      many = omega (arith, few, ap (λ (of : Plan). of.pages) recovered.plan);
      some_pages = omega (arith, shaped.limits.some_pages, ap (λ (of : Plan). of.pages) recovered.plan);
      behind = recovered.room ∙ sym (ap (λ (of : Plan). of.log_bytes) recovered.plan);
      gray = λ k run at gray.
          let graph = address_found stored shaped in
          let laid = graph.2.whole.holds.laid in
          let runs : shaped.state.collection ≡ Some k = sym (ap (λ (x : State). x.collection) state) ∙ run in
          let there = gray_within shaped.state _ _ _ k runs laid at gray in
          let base = ap (λ (x : State). x.base) state in
          let used = ap (λ (x : State). x.used) state in
          omega arith;
      within = λ k run.
          let same = ap (λ (x : State). x.pages) state in
          subst (λ (n : ℕ). IsWithin n k) (sym same)
          (subst (λ (o : Option Collection). MatchOption o (Unit {0}) (IsWithin shaped.state.pages)) (sym (ap (λ (x : State). x.collection) state) ∙ run) (shaped_spaces stored shaped).spaced.within);
    }
