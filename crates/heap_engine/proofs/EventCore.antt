-- An event that the disk did not cut short is a step of the core that an engine is.
use Rattle.std.proofs.Common.{◌≡◌, inl, ℕ, ◌<◌, ◌≤◌, Bool, true, false, List, [], Option, Some, None, Result, Ok, Err, is_some, refl, sym, ap, ◌∙◌, subst}
use Rattle.std.specs.List.{AllByRecursion}
use Rattle.std.specs.Prelude.{IsTrue, nat_lt, if◌then◌else◌}
use Rattle.disk_model.specs.declared.disk.Disk.{Ghosts}
use Rattle.disk_model.specs.Moments.{LeavesOnly}
use Rattle.graph_model.specs.declared.event.Event.{Event}
use Rattle.graph_model.specs.declared.event.Event.TheVariants.{Force, Flip, Scan, Flush}
use Rattle.graph_model.specs.declared.reply.Refusal.{Refusal}
use Rattle.graph_model.specs.declared.reply.Refusal.TheVariants.{Stopped}
use Rattle.graph_model.specs.declared.reply.Reply.{Reply}
use Rattle.graph_model.specs.declared.reply.Reply.TheVariants.{Refused}
use Rattle.graph_model.specs.History.{account}
use Rattle.graph_model.specs.History.{IsOfSession}
use Rattle.core_laws.proofs.Crash.Cut.{prefix_cut}
use Rattle.core_laws.proofs.Crash.Image.{crash_law, prefixes_on}
use Rattle.core_laws.proofs.Step.Sound.{sound_valid}
use Rattle.core_laws.proofs.Step.Events.{valid_after}
use Rattle.core_laws.specs.Valid.{RunsLocked, IsValid, IsReached, IsSound}
use Rattle.image_plan.specs.declared.superblock.Super.{Super}
use Rattle.image_plan.specs.Plan.{image_size}
use Rattle.log_records.specs.declared.Record.{Record}
use Rattle.page_redo.specs.Pages.{Pages}
use Rattle.page_store.specs.declared.store.PageStore.{PageStore}
use Rattle.page_store.specs.Gates.{open_gates}
use Rattle.page_store.specs.StoreState.{store_size, Knows}
use Rattle.heap_model.specs.Core.{Core, core_refusal, answer, barrier_records, noted, transfers, done, after_refusal, after, calls, cut, with_entry, moved, own_records}
use Rattle.heap_model.specs.CoreCrash.{held_of, IsLogged, IsSuperOf, IsCommitPrefix}
use Rattle.heap_model.proofs.Step.Logged.{logged_step}
use Rattle.heap_model.proofs.Step.Transfers.{IsLanding, all_landed, done_noted, gates_landed, none_stored, stage_now}
use Rattle.heap_model.proofs.Step.Moved.{moved_is, moved_keeps}
use Rattle.heap_model.proofs.Run.Calls.{same_step}
use Rattle.heap_model.specs.Image.{Holds}
use Rattle.heap_model.proofs.Outside.{untouched}
use Rattle.heap_memory.specs.Leaves.{IsAsItWas}
use Rattle.heap_memory.specs.Memory.{Memory}
use Rattle.memory_laws.specs.CoreMemory.{IsMemory}
use Rattle.memory_laws.proofs.Does.{Does}
use Rattle.memory_laws.proofs.Step.Answered.{as_it_was}
use Rattle.logged_pages.specs.State.{store_of}
use Rattle.heap_engine.specs.declared.engine.Engine.{Engine}
use Rattle.heap_engine.specs.declared.step_error.StepError.{StepError}
use Rattle.heap_engine.specs.declared.step_error.StepError.TheVariants.{NoMemory}
use Rattle.heap_engine.specs.EngineState.{memory, LiesWithin, HasNotFailed}
use Rattle.heap_engine.specs.Refinement.{OnDisk, SameBehind, IsLeftByStep, KnowsPages, WasCutShort, IsEngine, Steps, StepsOn}
use Rattle.txn_table.specs.Table.{TableState, transaction_of}
use Rattle.heap_engine.proofs.DeviceCalls.{stays, quiet_passes}
use Rattle.heap_engine.proofs.SessionsCore.{is_some_own}

-- another history, and other records, are of a heap with the same numbers
pub of_same : (s : Super) (c d : Core) → IsSuperOf s c → d.pages ≡ c.pages → d.room ≡ c.room → d.first_number ≡ c.first_number → IsSuperOf s d
of_same s c d of pages room first_number = record { limits = of.limits; pages = of.pages ∙ sym pages; room = of.room ∙ sym room; first = of.first ∙ sym first_number }

record SameDisk (c d : Core) : Type 0 where
  batches : d.batches ≡ c.batches
  pages : d.pages ≡ c.pages
  room : d.room ≡ c.room
  first_number : d.first_number ≡ c.first_number
  born : d.born ≡ c.born

all_same : (c : Core) → SameDisk c c
all_same c = record { batches = refl; pages = refl; room = refl; first_number = refl; born = refl }

same_moved : (c : Core) (rs : List Record) → SameDisk c (moved c rs)
same_moved c rs = moved_keeps (SameDisk c) c rs (record { batches = refl; pages = refl; room = refl; first_number = refl; born = refl })

same_noted : (c : Core) (event : Event) → SameDisk c (noted c event)
same_noted c Force = all_same c
same_noted c (Flush p) = all_same c
same_noted c Flip = same_moved c (own_records c Flip)
same_noted c Scan = same_moved c (own_records c Scan)
same_noted c event =
    let same = same_moved c (barrier_records c event) in record { batches = same.batches; pages = same.pages; room = same.room; first_number = same.first_number; born = same.born }

same_done : (c : Core) (event : Event) → transfers c event ≡ [] → SameDisk c (done c event)
same_done c event none = subst (SameDisk c) (sym (done_noted c event none)) (same_noted c event)

same_disk : (o : Option Refusal) (c : Core) (event : Event) → transfers c event ≡ [] → SameDisk c (after_refusal o c event)
same_disk (Some why) c event none = all_same c
same_disk None c event none = same_done c event none

-- the names of objects are their births after an event, if they were before
pub born_after : (c : Core) (event : Event) → IsTrue c.born → IsTrue (after c event).born
born_after c event born = (same_step c (after c event) event (answer c event) (inl (refl, refl))).born ∙ born

-- its words are those that its log leaves, if they were before, and stored pages hold as many records as their LSNs say
pub logged_after : (c : Core) (event : Event) (stored : Pages) → AllByRecursion IsLanding (transfers c event) → IsLogged c stored → IsLogged (after c event) stored
logged_after c event stored other logged = logged_step c (after c event) stored event (answer c event) other (inl (refl, refl)) logged

-- what makes no transfer leaves the disk
pub disk_stays : (s : Super) (c : Core) (event : Event) (image : List ℕ) (may_leave : List ℕ → Type 0) → transfers c event ≡ [] → OnDisk s c image may_leave → OnDisk s (after c event) image may_leave
disk_stays s c event image may_leave none disk =
    let same = same_disk (core_refusal c event) c event none in
    record {
      of = of_same s c (after c event) disk.of same.pages same.room same.first_number;
      born = born_after c event disk.born;
      stored = disk.stored;
      logged = logged_after c event disk.stored (none_stored (transfers c event) none) disk.logged;
      held = let P : List (List Record) → Type 0 = λ bs. Holds (record { super = s; batches = bs; pages = disk.stored }) image in subst P (sym same.batches) disk.held;
      only = disk.only;
    }

-- The pages that are stored.

gates_moved : (c : Core) (rs : List Record) → (moved c rs).gates ≡ c.gates
gates_moved c rs = ap (λ (d : Core). d.gates) (moved_is c rs)

gates_noted : (c : Core) (event : Event) → (noted c event).gates ≡ c.gates
gates_noted c Force = refl
gates_noted c (Flush p) = refl
gates_noted c Flip = gates_moved c (own_records c Flip)
gates_noted c Scan = gates_moved c (own_records c Scan)
gates_noted c event = gates_moved c (barrier_records c event)

gates_done : (c : Core) (event : Event) → AllByRecursion IsLanding (transfers c event) → (done c event).gates ≡ c.gates
gates_done c event none = all_landed (λ d. d.gates ≡ c.gates) (λ d is. gates_landed d ∙ is) (noted c event) (transfers c event) none (gates_noted c event)

gates_refusal : (o : Option Refusal) (c : Core) (event : Event) → AllByRecursion IsLanding (transfers c event) → (after_refusal o c event).gates ≡ c.gates
gates_refusal None c event other = gates_done c event other
gates_refusal (Some why) c event other = refl

-- an event whose transfers store none leaves those that are stored
pub knows_after : (c : Core) (event : Event) (m n : Memory) (old image : List ℕ) → AllByRecursion IsLanding (transfers c event) → n.store ≡ m.store → Knows m.store image
    → ((p : ℕ) → open_gates c.room image p ≡ open_gates c.room old p) → KnowsPages c m old → KnowsPages (after c event) n image
knows_after c event m n old image other store knows same pages =
    let room : (after c event).room ≡ c.room = (same_step c (after c event) event (answer c event) (inl (refl, refl))).room in
    record {
      frames = subst (λ (x : PageStore). Knows x image) (sym store) knows;
      gates = λ p. ap (λ (n : ℕ). open_gates n image p) room ∙ same p ∙ pages.gates p ∙ sym (ap (λ (f : ℕ → ℕ). f p) (gates_refusal (core_refusal c event) c event other));
    }

-- other memory with the same store knows the same
pub knows_as : (c : Core) (m n : Memory) (image : List ℕ) → n.store ≡ m.store → KnowsPages c m image → KnowsPages c n image
knows_as c m n image store pages = record {
  frames = subst (λ (x : PageStore). Knows x image) (sym store) pages.frames;
  gates = pages.gates;
}

-- a crash of a disk that holds a core leaves a commit prefix
pub disk_keeps : (s : Super) (c : Core) (image : List ℕ) (may_leave : List ℕ → Type 0) → OnDisk s c image may_leave → IsSound c → (d : List ℕ) → may_leave d → IsCommitPrefix c d
disk_keeps s c image may_leave disk sound d left =
    crash_law c (held_of s c disk.stored) sound disk.born disk.logged.words (prefixes_on c c.batches disk.stored disk.logged (stage_now c)) (stage_now c) disk.of d
    (subst (Holds (held_of s c disk.stored)) (sym (disk.only d left)) disk.held)

-- and the bytes past its plan
pub disk_leaves : (s : Super) (c : Core) (image : List ℕ) (may_leave : List ℕ → Type 0) → OnDisk s c image may_leave → IsSound c → (d : List ℕ) → may_leave d → IsLeftByStep c image d
disk_leaves s c image may_leave disk sound d left = record {
  commits = disk_keeps s c image may_leave disk sound d left;
  outside = subst (SameBehind c image) (sym (disk.only d left)) (untouched 0 (image_size c.pages c.room) image);
}

-- Such an image is left by an event that may be cut short,
pub behind_cut : (c : Core) (event : Event) (old image : List ℕ) → SameBehind c old image → SameBehind (cut c event) old image
behind_cut c event old image same = by (nat_lt 0 (calls c event))
  where
    by : (some : Bool) → SameBehind (if some then with_entry c event (Refused Stopped) else c) old image
    by true = same
    by false = same

-- and the bytes past the plan are the same
pub cut_behind : (c : Core) (event : Event) (old image : List ℕ) → SameBehind (cut c event) old image → SameBehind c old image
cut_behind c event old image = by (nat_lt 0 (calls c event))
  where
    by : (some : Bool) → SameBehind (if some then with_entry c event (Refused Stopped) else c) old image → SameBehind c old image
    by true same = same
    by false same = same

pub left_cut : (c : Core) (event : Event) (old image : List ℕ) → IsSound c → IsLeftByStep c old image → IsLeftByStep (cut c event) old image
left_cut c event old image sound left = record { commits = prefix_cut c event image sound left.commits; outside = behind_cut c event old image left.outside }

-- the sessions of an event that the disk cut short are as they were
pub cut_short : (c : Core) (event : Event) (old new : Engine) → IsMemory (memory old) (account c.history) c → 0 < calls c event → new.sealed ≡ old.sealed → new.table ≡ old.table → WasCutShort c event new
cut_short c event old new is some sealed table = record {
  some = some;
  sealed = sealed ∙ is.sessions.sealed;
  active = λ s. ap (λ (t : TableState). is_some (transaction_of t s)) table ∙ is_some_own (memory old) (account c.history) c is s;
}

-- An event stored no page, and the log and the pages have not failed.
pub record LeavesStored (old new : Engine) : Type 0 where
  pub store : store_of new.pages ≡ store_of old.pages
  pub works : HasNotFailed old → HasNotFailed new

-- so it did where it changed nothing
pub leaves_same : (old new : Engine) → new ≡ old → LeavesStored old new
leaves_same old new same = subst (λ (e : Engine). LeavesStored old e) (sym same) (record { store = refl; works = λ works. works })

-- nothing but memory that was taken in advance is then other
pub same_as_it_was : (old new : Engine) → new ≡ old → IsAsItWas (memory old) (memory new)
same_as_it_was old new same = subst (λ (e : Engine). IsAsItWas (memory old) (memory e)) (sym same) (record {
  log = record { place = record { at = refl; room = refl; tail = refl; forced = refl }; buffer = refl; size = refl; count = refl };
  words = refl;
  lsns = refl;
  store = refl;
  table = refl;
  locks = refl;
  spaces = refl;
  collection = refl;
  sealed = refl;
})

pub leaves_as : (old new : Engine) → IsAsItWas (memory old) (memory new) → (HasNotFailed old → HasNotFailed new) → LeavesStored old new
leaves_as old new same works = record { store = same.store; works = works }

-- they still lie within the disk
pub still_within : (old new : Engine) (extent : ℕ) → LeavesStored old new → LiesWithin old extent → LiesWithin new extent
still_within old new extent leaves within = subst (λ (x : PageStore). store_size x ≤ extent) (sym leaves.store) within

module _ {D : Type 0} (g : Ghosts D) where
  -- an engine is a valid core
  pub engine_valid : (c : Core) (e : Engine) (disk : D) → IsEngine g c e disk → IsReached c → IsValid c
  engine_valid c e disk is reached = sound_valid c reached.sound is.unfailed

  -- an engine that has done an event as a core does is that core after it
  pub engine_after : (c : Core) (event : Event) (reply : Reply) (e : Engine) (disk : D) → IsValid (after c event) → Does c event reply (memory e)
      → (IsTrue g.tells → KnowsPages (after c event) (memory e) (g.bytes disk)) → IsEngine g (after c event) e disk
  engine_after c event reply e disk valid does knows = record { unfailed = valid.unfailed; memory = does.memory; pages = knows }

  -- memory that was taken in advance changes nothing
  pub engine_as : (c : Core) (old new : Engine) (disk : D) → IsAsItWas (memory old) (memory new) → IsEngine g c old disk → IsEngine g c new disk
  engine_as c old new disk same is = record {
    unfailed = is.unfailed;
    memory = as_it_was (memory old) (memory new) c is.memory same;
    pages = λ told. knows_as c (memory old) (memory new) (g.bytes disk) same.store (is.pages told);
  }

  -- The outcome of an event that leaves the disk alone.
  pub record LeavesDisk (event : Event) (old new : Engine) (disk : D) (result : Result Reply StepError) : Type 0 where
    pub inside : LiesWithin old (g.extent disk) → LiesWithin new (g.extent disk)
    pub works : HasNotFailed old → HasNotFailed new
    pub core : Steps g event old disk new disk result
    pub holds : ((image : List ℕ) → g.left_since disk (g.moment disk) image → g.may_leave disk image) → StepsOn g event old disk new disk result

  module _ (event : Event) (old new : Engine) (disk : D) where
    -- at each moment of it a crash leaves what it left before
    alone : ((image : List ℕ) → g.left_since disk (g.moment disk) image → g.may_leave disk image) → (s : Super) (c : Core) → IsReached c → OnDisk s c (g.bytes disk) (g.may_leave disk)
        → LeavesOnly g.moment g.left_since disk disk (IsLeftByStep (cut c event) (g.bytes disk))
    alone now s c reached held =
        stays g.moment g.left_since disk (g.may_leave disk) (IsLeftByStep (cut c event) (g.bytes disk)) now
        (λ image left. left_cut c event (g.bytes disk) image reached.sound (disk_leaves s c (g.bytes disk) (g.may_leave disk) held reached.sound image left))

    -- a call of a session, or a begin
    pub call_leaves : (reply : Reply) → IsOfSession event → ((c : Core) → transfers c event ≡ []) → LeavesStored old new
        → ((c : Core) → IsMemory (memory old) (account c.history) c → IsValid c → RunsLocked c.g0 c.first c.history → Does c event reply (memory new)) → LeavesDisk event old new disk (Ok reply)
    call_leaves reply one moves leaves does = record {
      inside = still_within old new (g.extent disk) leaves;
      works = leaves.works;
      core = record {
        core = λ c is reached.
            let valid = engine_valid c old disk is reached in
            let came = does c is.memory valid reached.locked in
            let later = valid_after c event valid reached.locked one in (
              came.replied,
              engine_after c event reply new disk later came
                  (λ told. let known = is.pages told in knows_after c event (memory old) (memory new) (g.bytes disk) (g.bytes disk) (none_stored (transfers c event) (moves c)) leaves.store known.frames (λ p. refl) known),
            );
        still = λ c is reached none. refl;
        untouched = λ never. refl;
        kept = λ never. absurd (cc never);
      };
      holds = λ now. record {
        holds = λ s c is reached held. disk_stays s c event (g.bytes disk) (g.may_leave disk) (moves c) held;
        moments = λ s c is reached held. alone now s c reached held;
        passes = λ c is reached. quiet_passes c event (g.passed disk) (Ok tt) (moves c);
      };
    }

    -- one that had no memory
    pub lack_leaves : IsAsItWas (memory old) (memory new) → (HasNotFailed old → HasNotFailed new) → LeavesDisk event old new disk (Err NoMemory)
    lack_leaves same works = record {
      inside = still_within old new (g.extent disk) (leaves_as old new same works);
      works = works;
      core = record {
        core = λ c is reached. tt;
        still = λ c is reached none. refl;
        untouched = λ it. refl;
        kept = λ it c is. engine_as c old new disk same is;
      };
      holds = λ now. record {
        holds = λ s c is reached held. tt;
        moments = λ s c is reached held. alone now s c reached held;
        passes = λ c is reached. refl;
      };
    }
