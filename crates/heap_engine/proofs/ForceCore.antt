-- A force: what it leaves of an engine and on the disk, whole or cut short.
use Rattle.std.proofs.Common.{lit<, ◌<◌, ◌≡◌, ◌≢◌, ◌⊎◌, ℕ, ◌+◌, max, List, [], ◌∷◌, length, Option, None, Result, Ok, Err, refl, sym, ap, ◌∙◌, subst}
use Rattle.disk_model.specs.Disk.{part, Only, SameOutside}
use Rattle.disk_model.specs.declared.disk.DiskError.{DiskError}
use Rattle.gated_log.specs.declared.log.Log.{Log}
use Rattle.gated_log.specs.Log.{with_batch, HoldsBatches}
use Rattle.gated_log.proofs.LogLaws.{buffer_size-Keeps}
use Rattle.gated_log.specs.LogState.{log_place, log_room, IsBufferEmpty, Keeps}
use Rattle.graph_model.specs.declared.event.Event.TheVariants.{Force}
use Rattle.graph_model.specs.declared.reply.Refusal.{Refusal}
use Rattle.graph_model.specs.declared.reply.Reply.{Reply}
use Rattle.graph_model.specs.declared.reply.Reply.TheVariants.{Durable, Refused}
use Rattle.graph_model.specs.History.{account}
use Rattle.core_laws.proofs.Run.Events.{calls-forced, force_granted}
use Rattle.core_laws.specs.Valid.{IsValid}
use Rattle.image_plan.specs.declared.plan.Plan.{Plan}
use Rattle.image_plan.specs.declared.superblock.Super.{Super}
use Rattle.image_plan.specs.Plan.{log_offset}
use Rattle.log_records.specs.declared.Record.{Record}
use Rattle.log_records.specs.Record.{spellings}
use Rattle.logged_pages.specs.State.{log_of, store_of}
use Rattle.page_store.specs.Gates.{open_gates}
use Rattle.page_store.proofs.GateLaws.{gates_behind_log}
use Rattle.page_store.proofs.StoreLaws.{knows_behind_log}
use Rattle.page_store.specs.StoreState.{store_log, Knows}
use Rattle.heap_model.specs.Core.{Core, all_words, core_refusal, answer, with_entry, done, after_refusal, after, force_calls, calls}
use Rattle.heap_model.specs.CoreCrash.{held_of, IsLogged}
use Rattle.heap_model.proofs.Step.Room.{forced-with_batch}
use Rattle.heap_model.proofs.Opening.Held.{held_with}
use Rattle.heap_engine.specs.Refinement.{OnDisk, KnowsPages, WasCutShort}
use Rattle.heap_memory.specs.Memory.{Memory}
use Rattle.memory_laws.specs.CoreMemory.{IsMemory}
use Rattle.memory_laws.proofs.Does.{Does}
use Rattle.memory_laws.proofs.Step.Answered.{does, memory_told}
use Rattle.memory_laws.proofs.Step.Disk.{HasSameWork, forced_memory}
use Rattle.heap_engine.specs.declared.engine.Engine.{Engine}
use Rattle.heap_engine.specs.EngineState.{memory}
use Rattle.heap_engine.proofs.EventCore.{of_same, logged_after, knows_after, cut_short}

-- what waited is on the disk
pub force_does : (m new : Memory) (c : Core) (reply : Reply) → IsValid c → IsMemory m (account c.history) c → Keeps new.log (with_batch c.batches c.pending) []
    → log_place new.log ≡ log_place m.log → log_room new.log ≡ log_room m.log → HasSameWork m new → new.store ≡ m.store → reply ≡ Durable m.sealed
    → Does c Force reply new
force_does m new c reply valid is keeps at room same store replied =
    let a = account c.history in
    let forced = forced_memory m new a c is keeps at room same store in
    does c Force None (Durable m.sealed) reply new (force_granted c valid) replied (λ e. ap Durable (sym is.sessions.sealed))
    (λ e granted. memory_told new a (done c Force) (max a.acknowledged (length a.sealed)) (a.entries + 1) forced)
    (λ why refused. let never : Durable m.sealed ≡ Refused why = sym replied ∙ refused in cc never)

-- the disk after a force
pub disk_forced : (s : Super) (c : Core) (old new : List ℕ) (may_leave' may_leave : List ℕ → Type 0) → IsValid c → OnDisk s c old may_leave' → SameOutside 64 (64 + s.log_bytes) old new
    → HoldsBatches (part new 64 s.log_bytes) (with_batch c.batches c.pending) → Only new may_leave → OnDisk s (after c Force) new may_leave
disk_forced s c old new may_leave' may_leave valid disk outside holds only =
    let forced_now : after_refusal (core_refusal c Force) c Force ≡ record c { batches = with_batch c.batches c.pending; words = all_words c; pending = [] } =
    ap (λ (o : Option Refusal). after_refusal o c Force) (force_granted c valid) ∙ forced-with_batch c in
    let P : Core → Type 0 = λ d. OnDisk s (with_entry d Force (answer c Force)) new may_leave in
    let logged = logged_after c Force disk.stored (tt, tt) disk.logged in
    subst P (sym forced_now) (record {
      of = of_same s c _ disk.of refl refl refl;
      born = disk.born;
      stored = disk.stored;
      logged = subst (λ d. IsLogged (with_entry d Force (answer c Force)) disk.stored) forced_now logged;
      held = held_with (held_of s c disk.stored) (with_batch c.batches c.pending) old new disk.held outside holds;
      only = only;
    })

-- a force of pending records makes calls
pub some_calls : (p : List Record) → p ≢ [] → 0 < force_calls p
some_calls [] some = absurd (some refl)
some_calls (r ∷ rs) some = lit< tt

module _ (c : Core) (w : Engine) (works : IsMemory (memory w) (account c.history) c) where
  in_core : (P : ℕ → ℕ → Type 0) → P (log_place (log_of w.pages)) (log_room (log_of w.pages)) → P log_offset c.room
  in_core P h = subst (P log_offset) works.room (let Q : ℕ → Type 0 = λ n. P n (log_room (log_of w.pages)) in subst Q works.place h)

  bytes : store_log (store_of w.pages) ≡ c.room
  bytes = ap (λ (of : Plan). of.log_bytes) works.pages.plan

  -- a write into the log stores no page
  frames_forced : (old image : List ℕ) → SameOutside (log_place (log_of w.pages)) (log_place (log_of w.pages) + log_room (log_of w.pages)) old image → Knows (store_of w.pages) old → Knows (store_of w.pages) image
  frames_forced old image outside knows =
      let there : SameOutside log_offset (log_offset + c.room) old image = in_core (λ n m. SameOutside n (n + m) old image) outside in
      knows_behind_log (store_of w.pages) old image knows (subst (λ (n : ℕ). SameOutside log_offset (log_offset + n) old image) (sym bytes) there)

  gates_still : (old image : List ℕ) → SameOutside (log_place (log_of w.pages)) (log_place (log_of w.pages) + log_room (log_of w.pages)) old image → (p : ℕ) → open_gates c.room image p ≡ open_gates c.room old p
  gates_still old image outside = gates_behind_log c.room old image (in_core (λ n m. SameOutside n (n + m) old image) outside)

  pub knows_forced : (n : Memory) (old image : List ℕ) → n.store ≡ store_of w.pages → SameOutside (log_place (log_of w.pages)) (log_place (log_of w.pages) + log_room (log_of w.pages)) old image → KnowsPages c (memory w) old
      → KnowsPages (after c Force) n image
  knows_forced n old image store outside pages = knows_after c Force (memory w) n old image (tt, tt) store (frames_forced old image outside pages.frames) (gates_still old image outside) pages

  -- something is pending if a force ends in an error
  force_waits : (result : Result (Unit {0}) DiskError) (e : DiskError) → (IsBufferEmpty (log_of w.pages) → result ≡ Ok tt) → result ≡ Err e → c.pending ≢ []
  force_waits result e waited is none =
      let four : IsBufferEmpty (log_of w.pages) = buffer_size-Keeps (log_of w.pages) c.batches c.pending works.log ∙ ap (λ (p : List Record). 4 + length (spellings p)) none in
      let never : Err e ≡ Ok tt = sym is ∙ waited four in
      cc never

  some_force : (result : Result (Unit {0}) DiskError) (e : DiskError) → IsValid c → (IsBufferEmpty (log_of w.pages) → result ≡ Ok tt) → result ≡ Err e → 0 < calls c Force
  some_force result e valid waited is = subst (λ (n : ℕ). 0 < n) (sym (calls-forced c valid)) (some_calls c.pending (force_waits result e waited is))

  -- and the sessions are those of the core, also where it was cut short
  pub force_cut_short : (new : Engine) (result : Result (Unit {0}) DiskError) (e : DiskError) → IsValid c → (IsBufferEmpty (log_of w.pages) → result ≡ Ok tt) → result ≡ Err e → new.sealed ≡ w.sealed → new.table ≡ w.table → WasCutShort c Force new
  force_cut_short new result e valid waited is sealed table = cut_short c Force w new works (some_force result e valid waited is) sealed table

  -- the disk holds what was forced
  pub forced_on : (s : Super) (old image : List ℕ) (may_have_left may_leave : List ℕ → Type 0) → OnDisk s c old may_have_left → IsValid c
      → HoldsBatches (part image (log_place (log_of w.pages)) (log_room (log_of w.pages))) (with_batch c.batches c.pending)
      → SameOutside (log_place (log_of w.pages)) (log_place (log_of w.pages) + log_room (log_of w.pages)) old image → Only image may_leave → OnDisk s (after c Force) image may_leave
  forced_on s old image may_have_left may_leave disk valid held outside only =
      let in_log : (P : ℕ → ℕ → Type 0) → P (log_place (log_of w.pages)) (log_room (log_of w.pages)) → P log_offset s.log_bytes = λ P h. subst (P log_offset) (sym disk.of.room) (in_core P h) in
      disk_forced s c old image may_have_left may_leave valid disk (in_log (λ n m. SameOutside n (n + m) old image) outside) (in_log (λ n m. HoldsBatches (part image n m) (with_batch c.batches c.pending)) held) only
