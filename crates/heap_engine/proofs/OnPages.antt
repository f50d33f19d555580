-- The log and the pages of an engine, and an image that holds them, are those of the core that the engine is.
use Rattle.std.proofs.Common.{◌≡◌, ◌⊎◌, ℕ, ◌+◌, ◌*◌, ◌<◌, ◌≤◌, max, inl, inr, Bool, List, ◌∷◌, ◌++◌, length, refl, sym, ap, ◌∙◌, subst, ⊎_elim, arith}
use Rattle.std.specs.Prelude.{nat_lt, not, ◌==◌, ◌&&◌}
use Rattle.std.proofs.lemmas.Bool.{cases_lt, lt-ltb, le-ltb}
use Rattle.disk_model.specs.Disk.{part, SameOutside}
use Rattle.gate_slot.proofs.ImageLaws.{same_part}
use Rattle.gated_log.specs.Log.{records_of, with_batch, HoldsBatches}
use Rattle.gated_log.specs.LogState.{log_place, log_room}
use Rattle.graph_model.specs.History.{account}
use Rattle.image_plan.specs.declared.plan.Plan.{Plan}
use Rattle.image_plan.specs.declared.superblock.Super.{Super}
use Rattle.image_plan.specs.Plan.{log_offset, image_size}
use Rattle.page_redo.specs.Origin.{Origin}
use Rattle.log_machine.proofs.WordsLaws.{length-first_contents}
use Rattle.log_records.specs.declared.Record.{Record}
use Rattle.logged_pages.specs.OnDisk.{is_ahead, IsLeft, IsOnDisk, Stands}
use Rattle.logged_pages.specs.State.{cache_of, log_of, pages_in_memory, store_of, IsBehind}
use Rattle.page_cache.specs.CacheState as cache
use Rattle.page_cache.specs.CacheState.{cache_log, cache_pages, cache_size, cached_lsn, flushed_lsn}
use Rattle.page_cache.specs.Stored.{stored_pages}
use Rattle.page_redo.specs.Pages.{Pages, lsn_of, page_words, pages_in}
use Rattle.page_redo.specs.Prefix.{EachHoldsPrefix, HoldsPrefix}
use Rattle.page_redo.specs.Redo.{last_lsn, redone}
use Rattle.page_redo.proofs.PrefixLaws.{redone-present, HoldsPrefix-own, EachHoldsPrefix-append}
use Rattle.page_redo.proofs.RedoLaws.{lsn-redone}
use Rattle.page_store.specs.StoreState.{Knows, store_plan}
use Rattle.heap_model.specs.Core as core
use Rattle.heap_model.specs.Core.{Core, all_records, all_words, is_dirty, log_origin, present_lsn}
use Rattle.heap_model.specs.CoreCrash as crash
use Rattle.heap_model.specs.CoreCrash.{IsCommitPrefix, IsLogged}
use Rattle.heap_model.specs.Image.{Holds}
use Rattle.heap_model.proofs.Outside.{outside_within}
use Rattle.heap_model.proofs.Step.Logged.{all_logged}
use Rattle.heap_model.proofs.Step.Transfers.{stage_now, stage_landed}
use Rattle.core_laws.proofs.Crash.Image.{crash_law}
use Rattle.core_laws.specs.Valid.{IsSound}
use Rattle.memory_laws.specs.CoreMemory.{IsMemory}
use Rattle.heap_engine.specs.declared.engine.Engine.{Engine}
use Rattle.heap_engine.specs.EngineState.{memory}
use Rattle.heap_engine.specs.Refinement.{IsLeftByStep, OnDisk, SameBehind}

-- a number is past another one, or below the one that follows
past_or_below : (a b : ℕ) → nat_lt a b ≡ not (nat_lt b (a + 1))
past_or_below a b = elim (cases_lt a b) [
  | inl past ↦ lt-ltb a b past ∙ ap not (sym (le-ltb b (a + 1) (omega (arith, past))))
  | inr below ↦ le-ltb a b below ∙ ap not (sym (lt-ltb b (a + 1) (omega (arith, below))))
]

-- Pages that are stored beside a core's log, with all its records redone on them.
module _ (c : Core) (stored : Pages) (logged : IsLogged c stored) where
  legal : EachHoldsPrefix (log_origin c) (all_records c) stored
  legal = EachHoldsPrefix-append (log_origin c) (records_of c.batches) c.pending stored logged.prefixes

  whole : length (all_words c) ≡ length (redone (log_origin c) stored (all_records c)).words
  whole = ap length (all_logged c logged.words ∙ sym (redone-present (log_origin c) (length-first_contents c.pages) (all_records c) stored legal).present)

  -- each page of the core holds the effects of its records up to its LSN
  pub present_prefix : (p : ℕ) → p < pages_in c.pages → HoldsPrefix (log_origin c) (all_records c) p (present_lsn c p) (page_words (all_words c) p)
  present_prefix p lt =
      let o : Origin = log_origin c in
      let all : List Record = all_records c in
      let lsn : lsn_of (redone o stored all) p ≡ present_lsn c p = lsn-redone o all stored p legal lt ∙ ap (λ (n : ℕ). max n (last_lsn p o.lsn all)) (logged.lsns p lt) in
      let own = HoldsPrefix-own o all (redone o stored all) p (redone-present o (length-first_contents c.pages) all stored legal) lt in
      let words = subst (λ (ws : List ℕ). HoldsPrefix o all p (lsn_of (redone o stored all) p) (page_words ws p)) (sym (all_logged c logged.words)) own in
      subst (λ (n : ℕ). HoldsPrefix o all p n (page_words (all_words c) p)) lsn words

  -- so it does where it is in memory
  pub memory_prefixes : (at : Pages) → at.words ≡ all_words c → length at.lsns ≡ pages_in c.pages → ((p : ℕ) → p < pages_in c.pages → lsn_of at p ≡ present_lsn c p) → EachHoldsPrefix (log_origin c) (all_records c) at
  memory_prefixes at words number lsns =
      let o : Origin = log_origin c in
      record {
        size = ap length words ∙ whole ∙ (redone-present o (length-first_contents c.pages) (all_records c) stored legal).prefixes.size;
        lsns_size = number;
        each = λ p lt.
            subst (λ (ws : List ℕ). HoldsPrefix o (all_records c) p (lsn_of at p) (page_words ws p)) (sym words)
            (subst (λ (n : ℕ). HoldsPrefix o (all_records c) p n (page_words (all_words c) p)) (sym (lsns p lt)) (present_prefix p lt));
      }

module _ (c : Core) (e : Engine) (is : IsMemory (memory e) (account c.history) c) where
  -- The pages in memory are those of the core.
  pub bytes : cache_log (cache_of e.pages) ≡ c.room
  bytes = ap (λ (of : Plan). of.log_bytes) is.pages.plan

  pub size : cache_size (cache_of e.pages) ≡ image_size c.pages c.room
  size = ap (λ (of : Plan). image_size of.pages of.log_bytes) is.pages.plan

  pub at : log_place (log_of e.pages) ≡ log_offset
  at = is.place

  pub room : log_room (log_of e.pages) ≡ c.room
  room = is.room

  module _ (p : ℕ) (page : p < cache_pages (cache_of e.pages)) where
    pub within : p < pages_in c.pages
    within = subst (λ (n : ℕ). p < n) (ap (λ (of : Plan). 2 * of.pages) is.pages.plan) page

    pub lsn : cached_lsn (cache_of e.pages) p ≡ present_lsn c p
    lsn = is.pages.now p within

    -- so is whether one has changed
    pub dirty_is : cache.is_dirty (cache_of e.pages) p ≡ is_dirty c p
    dirty_is =
        ap (λ (n : ℕ). not (n == flushed_lsn (cache_of e.pages) p)) lsn
        ∙ ap (λ (n : ℕ). not (present_lsn c p == n)) (is.pages.flushed p within)
        ∙ sym (ap (λ (b : Bool). b && not (present_lsn c p == c.stored_lsns p)) (lt-ltb p (pages_in c.pages) within))

    -- and whether it is ahead of the log
    pub ahead_is : is_ahead e.pages p ≡ core.is_ahead c p
    ahead_is =
        ap (λ (k : ℕ). nat_lt k (cached_lsn (cache_of e.pages) p)) is.log.forced
        ∙ ap (λ (k : ℕ). nat_lt (length (records_of c.batches)) k) lsn
        ∙ past_or_below (length (records_of c.batches)) (present_lsn c p)

  -- What a modelled disk holds.
  module _ (s : Super) (image : List ℕ) (may_leave : List ℕ → Type 0) (disk : OnDisk s c image may_leave) where
    -- each page in memory has the effects of its records
    pub behind : IsBehind (log_origin c) c.batches c.pending e.pages
    behind = record { first = refl; log = is.log; prefixes = memory_prefixes c disk.stored disk.logged (pages_in_memory e.pages) is.words is.pages.number is.pages.now }

    in_log : (P : ℕ → ℕ → Type 0) → P log_offset s.log_bytes → P (log_place (log_of e.pages)) (log_room (log_of e.pages))
    in_log P holds =
        let Q : ℕ → Type 0 = λ n. P n (log_room (log_of e.pages)) in
        subst Q (sym at) (subst (P log_offset) (sym (room ∙ sym disk.of.room)) holds)

    in_core : (P : ℕ → ℕ → Type 0) → P (log_place (log_of e.pages)) (log_room (log_of e.pages)) → P log_offset s.log_bytes
    in_core P holds =
        let Q : ℕ → Type 0 = λ n. P n (log_room (log_of e.pages)) in
        subst (P log_offset) (room ∙ sym disk.of.room) (subst Q at holds)

    -- pages that are stored in an image, by the plan and by the superblock
    pub by_super : (P : Pages → Type 0) (other : List ℕ) → P (stored_pages (store_plan (store_of e.pages)).pages (store_plan (store_of e.pages)).log_bytes other) → P (stored_pages s.pages s.log_bytes other)
    by_super P other holds =
        let by_plan = subst (λ (of : Plan). P (stored_pages of.pages of.log_bytes other)) is.pages.plan holds in
        let Q : ℕ → Type 0 = λ n. P (stored_pages n c.room other) in
        subst (λ (n : ℕ). P (stored_pages s.pages n other)) (sym disk.of.room) (subst Q (sym disk.of.pages) by_plan)

    pub by_plan : (P : Pages → Type 0) (other : List ℕ) → P (stored_pages s.pages s.log_bytes other) → P (stored_pages (store_plan (store_of e.pages)).pages (store_plan (store_of e.pages)).log_bytes other)
    by_plan P other holds =
        let Q : ℕ → Type 0 = λ n. P (stored_pages n c.room other) in
        let by_core = subst Q disk.of.pages (subst (λ (n : ℕ). P (stored_pages s.pages n other)) disk.of.room holds) in
        subst (λ (of : Plan). P (stored_pages of.pages of.log_bytes other)) (sym is.pages.plan) by_core

    -- the log and the pages stand on it
    pub stands : Stands (log_origin c) c.batches e.pages image
    stands = record {
      log = in_log (λ n m. HoldsBatches (part image n m) c.batches) disk.held.log;
      pages = by_plan (EachHoldsPrefix (log_origin c) (records_of c.batches)) image (subst (EachHoldsPrefix (log_origin c) (records_of c.batches)) (sym disk.held.pages) disk.logged.prefixes);
    }

    pub on_disk : Knows (store_of e.pages) image → IsOnDisk (log_origin c) c.batches e.pages image
    on_disk frames = record { stands = stands; frames = frames }

    -- The superblock of an image that is the same beside the log and the pages.
    module _ (other : List ℕ) (outside : SameOutside log_offset (cache_size (cache_of e.pages)) image other) where
      pub holds_other : (bs : List (List Record)) → HoldsBatches (part other (log_place (log_of e.pages)) (log_room (log_of e.pages))) bs
          → Holds (record { super = s; batches = bs; pages = stored_pages s.pages s.log_bytes other }) other
      holds_other bs held = record {
        size = omega (arith, disk.held.size, outside.size);
        super = same_part 0 64 image other outside.size (λ i low high. outside.before i (omega (arith, high))) ∙ disk.held.super;
        log = in_core (λ n m. HoldsBatches (part other n m) bs) held;
        pages = refl;
      }

      pub behind_plan : SameBehind c image other
      behind_plan = outside_within log_offset (cache_size (cache_of e.pages)) 0 (image_size c.pages c.room) image other (omega arith) (omega (arith, size)) outside

    prefix_of : (bs : List (List Record)) (other : List ℕ) → IsSound c → crash.IsOnDisk c bs → SameOutside log_offset (cache_size (cache_of e.pages)) image other → Stands (log_origin c) bs e.pages other → IsCommitPrefix c other
    prefix_of bs other sound on outside there =
        crash_law c (record { super = s; batches = bs; pages = stored_pages s.pages s.log_bytes other }) sound disk.born disk.logged.words (by_super (EachHoldsPrefix (log_origin c) (records_of bs)) other there.pages) on disk.of other
        (holds_other other outside bs there.log)

    -- what a crash leaves of it while the log and the pages are written is a commit prefix, and each byte past the plan is as it was
    pub left_by_step : (other : List ℕ) → IsSound c → IsLeft (log_origin c) c.batches c.pending e.pages image other → IsLeftByStep c image other
    left_by_step other sound left = record {
      commits = ⊎_elim (λ there. prefix_of c.batches other sound (stage_now c) left.outside there) (λ there. prefix_of (with_batch c.batches c.pending) other sound (stage_landed c) left.outside there) left.stands;
      outside = behind_plan other left.outside;
    }
