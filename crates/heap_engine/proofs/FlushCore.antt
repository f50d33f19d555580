-- A flush is a step of the core that an engine is.
use Rattle.std.proofs.Common.{◌≡◌, ℕ, ◌+◌, ◌*◌, ◌<◌, ◌≤◌, Bool, true, false, cond, List, Option, Ok, refl, sym, ap, ◌∙◌, subst, arith}
use Rattle.std.specs.Prelude.{fold}
use Rattle.disk_model.specs.declared.disk.Disk.{Ghosts}
use Rattle.graph_model.specs.declared.event.Event.TheVariants.{Flush}
use Rattle.graph_model.specs.declared.reply.Refusal.{Refusal}
use Rattle.graph_model.specs.declared.reply.Reply.{Reply}
use Rattle.graph_model.specs.History.{account}
use Rattle.image_plan.specs.declared.plan.Plan.{Plan}
use Rattle.image_plan.specs.declared.superblock.Super.{Super}
use Rattle.logged_pages.specs.State.{cache_of}
use Rattle.page_cache.specs.CacheState.{cache_pages}
use Rattle.page_redo.specs.Pages.{pages_in}
use Rattle.core_laws.proofs.Step.Flush.{flush_granted, flush_refused, calls-flushed}
use Rattle.core_laws.proofs.Step.Events.{valid_after}
use Rattle.core_laws.specs.Valid.{IsValid}
use Rattle.heap_memory.specs.Memory.{Memory}
use Rattle.heap_model.specs.Core.{Core, core_refusal, answer, with_entry, present_lsn, is_dirty, is_ahead, made, storing, done, force_calls, store_calls, calls_if, calls, cut, after_refusal, after}
use Rattle.memory_laws.specs.CoreMemory.{IsMemory}
use Rattle.memory_laws.proofs.Does.{Does}
use Rattle.heap_engine.specs.Refinement.{OnDisk, IsLeftByStep, KnowsPages, Steps, StepsOn}
use Rattle.heap_engine.proofs.StoreCore.{some_store}
use Rattle.heap_engine.proofs.DeviceCalls.{stays, none_pass}
use Rattle.heap_engine.proofs.EventCore.{disk_leaves, left_cut, engine_valid, engine_after}
use Rattle.heap_engine.specs.declared.engine.Engine.{Engine}
use Rattle.heap_engine.specs.EngineState.{memory}

-- a page of memory that is not there is not there in the core
pub past : (c : Core) (w : Engine) (p n : ℕ) → IsMemory (memory w) (account c.history) c → n ≡ cache_pages (cache_of w.pages) → n ≤ p → pages_in c.pages ≤ p
past c w p n works is le = subst (λ (k : ℕ). k ≤ p) (is ∙ ap (λ (of : Plan). 2 * of.pages) works.pages.plan) le

pub is_there : (w : Engine) (p n : ℕ) → n ≡ cache_pages (cache_of w.pages) → p < n → p < cache_pages (cache_of w.pages)
is_there w p n is lt = subst (λ (k : ℕ). p < k) is lt

-- What a flush leaves of a core but for its entry: nothing else where it is refused,
pub left_refused : (c : Core) (p : ℕ) → IsValid c → pages_in c.pages ≤ p → after_refusal (core_refusal c (Flush p)) c (Flush p) ≡ c
left_refused c p valid beyond = ap (λ (o : Option Refusal). after_refusal o c (Flush p)) (flush_refused c p valid beyond)

-- the page stored where it is not,
pub left_flushed : (c : Core) (p : ℕ) → IsValid c → p < pages_in c.pages → after_refusal (core_refusal c (Flush p)) c (Flush p) ≡ done c (Flush p)
left_flushed c p valid lt = ap (λ (o : Option Refusal). after_refusal o c (Flush p)) (flush_granted c p valid lt)

-- and nothing else where the page is clean.
pub left_clean : (c : Core) (p : ℕ) → IsValid c → p < pages_in c.pages → is_dirty c p ≡ false → after_refusal (core_refusal c (Flush p)) c (Flush p) ≡ c
left_clean c p valid lt clean = left_flushed c p valid lt ∙ ap (λ (b : Bool). fold made c (storing b (is_ahead c p) p (present_lsn c p))) clean

-- One that is refused makes no calls,
pub refused_calls : (c : Core) (p : ℕ) → IsValid c → pages_in c.pages ≤ p → calls c (Flush p) ≡ 0
refused_calls c p valid beyond = ap (λ (o : Option Refusal). calls_if o c (Flush p)) (flush_refused c p valid beyond)

-- one of a clean page makes none
pub clean_calls : (c : Core) (p : ℕ) → IsValid c → p < pages_in c.pages → is_dirty c p ≡ false → calls c (Flush p) ≡ 0
clean_calls c p valid lt clean = calls-flushed c p valid lt ∙ ap (λ (b : Bool). cond b (cond (is_ahead c p) (force_calls c.pending) 0 + store_calls (c.gates p)) 0) clean

-- and one of a dirty page some
pub dirty_calls : (c : Core) (p : ℕ) → IsValid c → p < pages_in c.pages → is_dirty c p ≡ true → 0 < calls c (Flush p)
dirty_calls c p valid lt dirty =
    let all : calls c (Flush p) ≡ cond (is_ahead c p) (force_calls c.pending) 0 + store_calls (c.gates p) =
    calls-flushed c p valid lt ∙ ap (λ (b : Bool). cond b (cond (is_ahead c p) (force_calls c.pending) 0 + store_calls (c.gates p)) 0) dirty in
    omega (arith, all, some_store (c.gates p))

module _ (c d : Core) (p : ℕ) (left : after_refusal (core_refusal c (Flush p)) c (Flush p) ≡ d) where
  -- memory that knows the pages of what it leaves knows those of the core after it
  pub knows_left : (m : Memory) (image : List ℕ) → KnowsPages d m image → KnowsPages (after c (Flush p)) m image
  knows_left m image knows = let P : Core → Type 0 = λ x. KnowsPages (with_entry x (Flush p) (answer c (Flush p))) m image in
      subst P (sym left) (record { frames = knows.frames; gates = knows.gates })

  -- so does a disk that holds it
  pub disk_left : (s : Super) (image : List ℕ) (leaves : List ℕ → Type 0) → OnDisk s d image leaves → OnDisk s (after c (Flush p)) image leaves
  disk_left s image leaves disk = let P : Core → Type 0 = λ x. OnDisk s (with_entry x (Flush p) (answer c (Flush p))) image leaves in
      subst P (sym left) (record {
        of = record { limits = disk.of.limits; pages = disk.of.pages; room = disk.of.room; first = disk.of.first };
        born = disk.born;
        stored = disk.stored;
        logged = record { words = disk.logged.words; prefixes = disk.logged.prefixes; lsns = disk.logged.lsns };
        held = disk.held;
        only = disk.only;
      })

module _ {D : Type 0} (g : Ghosts D) (p : ℕ) (e : Engine) (disk : D) where
  -- A flush that stores nothing leaves the disk alone.
  module _ (reply : Reply) (does : (c : Core) → IsMemory (memory e) (account c.history) c → IsValid c → Does c (Flush p) reply (memory e)) (left : (c : Core) → IsMemory (memory e) (account c.history) c → IsValid c → after_refusal (core_refusal c (Flush p)) c (Flush p) ≡ c)
      (none : (c : Core) → IsMemory (memory e) (account c.history) c → IsValid c → calls c (Flush p) ≡ 0) where
    pub idle_steps : Steps g (Flush p) e disk e disk (Ok reply)
    idle_steps = record {
      core = λ c is reached.
          let valid = engine_valid g c e disk is reached in
          let came = does c is.memory valid in (
            came.replied,
            engine_after g c (Flush p) reply e disk (valid_after c (Flush p) valid reached.locked tt) came (λ told. knows_left c c p (left c is.memory valid) (memory e) (g.bytes disk) (is.pages told)),
          );
      still = λ c is reached none. refl;
      untouched = λ never. refl;
      kept = λ never. absurd (cc never);
    }

    pub idle_on : ((image : List ℕ) → g.left_since disk (g.moment disk) image → g.may_leave disk image) → StepsOn g (Flush p) e disk e disk (Ok reply)
    idle_on now = record {
      holds = λ s c is reached held. disk_left c c p (left c is.memory (engine_valid g c e disk is reached)) s (g.bytes disk) (g.may_leave disk) held;
      moments = λ s c is reached held.
          stays g.moment g.left_since disk (g.may_leave disk) (IsLeftByStep (cut c (Flush p)) (g.bytes disk)) now
          (λ image left. left_cut c (Flush p) (g.bytes disk) image reached.sound (disk_leaves s c (g.bytes disk) (g.may_leave disk) held reached.sound image left));
      passes = λ c is reached. none_pass (calls c (Flush p)) (g.passed disk) (Ok tt) (none c is.memory (engine_valid g c e disk is reached));
    }
