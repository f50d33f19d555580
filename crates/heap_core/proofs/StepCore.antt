-- What an event leaves of an open heap is a step of the core that it is.
use Rattle.std.proofs.Common.{◌≡◌, ◌≢◌, ◌⊎◌, inl, inr, ◌<◌, ℕ, ◌+◌, Bool, List, [], ◌∷◌, ◌++◌, length, Option, Some, None, is_some, refl, sym, ap, ◌∙◌, subst, ⊎_elim}
use Rattle.std.specs.Prelude.{IsTrue, ◌↔◌, MatchOption}
use Rattle.disk_model.specs.declared.disk.Disk.{Ghosts}
use Rattle.gate_slot.specs.Passing.{Passes}
use Rattle.graph_model.specs.declared.event.Event.{Event}
use Rattle.graph_model.specs.declared.reply.Entry.{Entry}
use Rattle.graph_model.specs.declared.reply.Refusal.{Refusal}
use Rattle.graph_model.specs.declared.reply.Refusal.TheVariants.{Failed, DiskFault, Stopped}
use Rattle.graph_model.specs.declared.reply.Reply.{Reply}
use Rattle.graph_model.specs.declared.reply.Reply.TheVariants.{Refused}
use Rattle.graph_model.specs.Transaction.{Transaction}
use Rattle.graph_model.specs.History.{Account, account, account_after, first_failure}
use Rattle.graph_model.proofs.Runs.History.{account-append, entries-account}
use Rattle.graph_model.specs.Plain.{reply_of}
use Rattle.graph_model.proofs.Refusals.Plain.{account_after-refused}
use Rattle.core_laws.proofs.Crash.Cut.{cut_told, cut_leaves, prefix_left}
use Rattle.core_laws.proofs.Step.Sound.{sound_valid}
use Rattle.core_laws.specs.Valid.{IsValid, IsReached}
use Rattle.image_plan.specs.declared.superblock.Super.{Super}
use Rattle.image_plan.specs.Plan.{image_size}
use Rattle.heap_model.specs.Core.{Core, granted_by, answer, with_entry, after, calls_if, calls, cut, IsStep}
use Rattle.heap_model.proofs.Run.Calls.{failed_refusal, failed_after, calls-unfailed, after_history, step_history}
use Rattle.heap_model.proofs.Outside.{outside_between}
use Rattle.heap_core.specs.Causes.{reply_device}
use Rattle.heap_core.specs.declared.in_memory.Failure.{Failure}
use Rattle.heap_core.specs.HeapState.{entry_of}
use Rattle.heap_core.specs.Refinement.{Remembers, DiskHolds}
use Rattle.heap_core.proofs.RefinementLeft.{keeps_refused}
use Rattle.heap_engine.specs.declared.engine.Engine.{Engine}
use Rattle.heap_engine.specs.Refinement.{OnDisk, IsLeftByStep, IsEngine, WasCutShort}
use Rattle.heap_engine.specs.EngineState.{memory}
use Rattle.heap_engine.proofs.DeviceCalls.{none_pass}
use Rattle.heap_engine.proofs.EventCore.{born_after, cut_behind}
use Rattle.heap_engine.proofs.SessionsCore.{is_some_own}

-- no entry is known of a failure where there is none
pub no_failure_at : (failed : Option Failure) → entry_of failed ≡ None → failed ≡ None
no_failure_at None is = refl
no_failure_at (Some failure) is = cc is

pub never_none : (failed : Option Failure) (at : Failure) → failed ≡ Some at → failed ≡ None → ⊥
never_none failed at is none = let never : None ≡ Some at = sym none ∙ is in cc never

-- a heap that has not failed is a valid core
pub unfailed_valid : (c : Core) (failed : Option Failure) → entry_of failed ≡ (account c.history).failed → failed ≡ None → IsReached c → IsValid c
unfailed_valid c failed failure none reached = sound_valid c reached.sound (sym failure ∙ ap entry_of none)

-- Whether records were pending before a failure is asked where there is one.
abbrev pub KnowsPending : Core → Option Failure → Type 0
KnowsPending c failed = MatchOption failed (Unit {0}) (λ failure. IsTrue failure.pending ↔ (c.pending ≢ []))

module _ {D : Type 0} (g : Ghosts D) where
  -- An event was answered as from a core, and the heap remembers what that leaves. Until the disk fails its engine is the core then.
  pub record StepsTo (c : Core) (event : Event) (reply : Reply) (e : Engine) (disk : D) (failed : Option Failure) : Type 0 where
    pub next : Core
    pub step : IsStep c event reply next
    pub memory : Remembers next e failed
    pub engine : failed ≡ None → IsEngine g next e disk

  -- an engine that has not failed remembers all
  pub remembers : (c : Core) (e : Engine) (disk : D) (failed : Option Failure) → failed ≡ None → IsEngine g c e disk → Remembers c e failed
  remembers c e disk failed none is = record {
    failure = ap entry_of none ∙ sym is.unfailed;
    pending = subst (KnowsPending c) (sym none) tt;
    sealed = is.memory.sessions.sealed;
    active = is_some_own (memory e) (account c.history) c is.memory;
  }

  -- an event that the disk did not cut short
  abbrev pub whole_steps : (c : Core) (event : Event) (reply : Reply) (e : Engine) (disk : D) (failed : Option Failure) → failed ≡ None → reply ≡ answer c event → IsEngine g (after c event) e disk → StepsTo c event reply e disk failed
  whole_steps c event reply e disk failed none replied is = record {
    next = after c event;
    step = inl (replied, refl);
    memory = remembers (after c event) e disk failed none is;
    engine = λ still. is;
  }

  pub told_entry : (a : Account) (event : Event) (reply : Reply) → a.failed ≡ None → (reply ≡ Refused DiskFault) ⊎ (reply ≡ Refused Stopped)
      → Some (a.entries + 1) ≡ (account_after a (record { event = event; reply = reply })).failed
  told_entry a event reply none told =
      sym (ap (λ (b : Account). b.failed) (cut_told a event reply told) ∙ (cut_leaves a event).failed ∙ ap (λ (o : Option ℕ). first_failure o (a.entries + 1)) none)

  -- one that it cut short
  abbrev pub cut_steps : (c : Core) (event : Event) (reply : Reply) (e : Engine) (disk : D) (entries : ℕ) (pending : Bool) (failed : Option Failure) → (account c.history).failed ≡ None → WasCutShort c event e
      → (reply ≡ Refused DiskFault) ⊎ (reply ≡ Refused Stopped) → entries ≡ length c.history → failed ≡ Some (record { entry = entries + 1; pending = pending }) → (IsTrue pending ↔ (c.pending ≢ []))
      → StepsTo c event reply e disk failed
  cut_steps c event reply e disk entries pending failed none cut told count is known =
      let a = account c.history in
      let at : Failure = record { entry = entries + 1; pending = pending } in
      let entry : Entry = record { event = event; reply = reply } in
      let said : account (c.history ++ entry ∷ []) ≡ account_after a entry = account-append c.history entry in
      let same = cut_told a event reply told in
      let left = cut_leaves a event in
      record {
        next = with_entry c event reply;
        step = inr (record { some = cut.some; told = told }, refl);
        memory = record {
          failure = ap entry_of is ∙ ap (λ (n : ℕ). Some (n + 1)) (count ∙ sym (entries-account c.history)) ∙ told_entry a event reply none told ∙ ap (λ (b : Account). b.failed) (sym said);
          pending = subst (KnowsPending c) (sym is) known;
          sealed = cut.sealed ∙ ap (λ (l : List Transaction). length l) (sym left.sealed) ∙ ap (λ (b : Account). length b.sealed) (sym same) ∙ ap (λ (b : Account). length b.sealed) (sym said);
          active = λ s. cut.active s ∙ ap (λ (f : ℕ → Option Transaction). is_some (f s)) (sym left.active) ∙ ap (λ (b : Account). is_some (b.active s)) (sym same) ∙ ap (λ (b : Account). is_some (b.active s)) (sym said);
        };
        engine = λ still. absurd (never_none failed at is still);
      }

  -- a heap that has failed refuses everything
  pub failed_steps : (c : Core) (event : Event) (at : Failure) (e : Engine) (disk : D) (failed : Option Failure) → Remembers c e failed → failed ≡ Some at → StepsTo c event (Refused (Failed at.entry)) e disk failed
  failed_steps c event at e disk failed memory is =
      let a = account c.history in
      let fails : a.failed ≡ Some at.entry = sym memory.failure ∙ ap entry_of is in
      let answered : answer c event ≡ Refused (Failed at.entry) = ap (λ (o : Option Refusal). reply_of o (granted_by c event)) (failed_refusal c event at.entry fails) in
      let said : account (after c event).history ≡ record a { entries = a.entries + 1 } =
      ap account (after_history c event) ∙ account-append c.history _ ∙ ap (λ (r : Reply). account_after a (record { event = event; reply = r })) answered ∙ account_after-refused a event (Failed at.entry) tt in
      record {
        next = after c event;
        step = inl (sym answered, refl);
        memory = record {
          failure = memory.failure ∙ ap (λ (b : Account). b.failed) (sym said);
          pending = subst (λ (x : Core). KnowsPending x failed) (sym (failed_after c event at.entry fails)) memory.pending;
          sealed = memory.sealed ∙ ap (λ (b : Account). length b.sealed) (sym said);
          active = λ s. memory.active s ∙ ap (λ (b : Account). is_some (b.active s)) (sym said);
        };
        engine = λ still. absurd (never_none failed at is still);
      }

  -- what is kept of a heap and the entry that its history has got
  pub with_history : (c : Core) (event : Event) (reply : Reply) (e : Engine) (disk : D) (failed : Option Failure) (old new : List Entry) → old ≡ c.history → new ≡ old ++ record { event = event; reply = reply } ∷ []
      → (steps : StepsTo c event reply e disk failed) → new ≡ steps.next.history
  with_history c event reply e disk failed old new was is steps =
      is ∙ ap (λ (l : List Entry). l ++ record { event = event; reply = reply } ∷ []) was ∙ sym (step_history c steps.next event reply steps.step)

-- What the disk holds then.

pub whole_on : (s : Super) (c : Core) (event : Event) (image : List ℕ) (may_leave : List ℕ → Type 0) → (account (after c event).history).failed ≡ None → IsTrue c.born → OnDisk s (after c event) image may_leave
    → DiskHolds s (after c event) image may_leave
whole_on s c event image may_leave none born on = record { born = born_after c event born; unfailed = λ still. on; failed = λ some. absurd (some none) }

pub cut_on : (s : Super) (c : Core) (event : Event) (reply : Reply) (old image : List ℕ) (may_leave : List ℕ → Type 0) (entries : ℕ) → IsTrue c.born → 0 < calls c event → (reply ≡ Refused DiskFault) ⊎ (reply ≡ Refused Stopped)
    → Some entries ≡ (account (with_entry c event reply).history).failed → may_leave image → ((d : List ℕ) → may_leave d → IsLeftByStep (cut c event) old d) → DiskHolds s (with_entry c event reply) image may_leave
cut_on s c event reply old image may_leave entries born some told fails reads left = record {
  born = born;
  unfailed = λ none. let never : None ≡ Some entries = sym none ∙ sym fails in cc;
  failed = λ any d leaves. record {
    commits = prefix_left c event reply d some told (left d leaves).commits;
    outside = outside_between 0 (image_size c.pages c.room) old image d (cut_behind c event old image (left image reads).outside) (cut_behind c event old d (left d leaves).outside);
  };
}

-- the disk of a heap that has failed is left alone
pub failed_on : (s : Super) (c next : Core) (event : Event) (reply : Reply) (entry : ℕ) (image : List ℕ) (may_leave : List ℕ → Type 0) → (account c.history).failed ≡ Some entry → DiskHolds s c image may_leave
    → IsStep c event reply next → DiskHolds s next image may_leave
failed_on s c next event reply entry image may_leave fails holds step =
    let a = account c.history in
    let next_is : next ≡ with_entry c event (Refused (Failed entry)) =
    ⊎_elim (λ whole. whole.1 ∙ failed_after c event entry fails) (λ cut. let never : None ≡ Some entry = sym (calls-unfailed c event cut.0.some) ∙ fails in cc) step in
    let some : a.failed ≢ None = λ none. let never : None ≡ Some entry = sym none ∙ fails in cc in
    let said : account (with_entry c event (Refused (Failed entry))).history ≡ record a { entries = a.entries + 1 } = account-append c.history _ ∙ account_after-refused a event (Failed entry) tt in
    let here : DiskHolds s (with_entry c event (Refused (Failed entry))) image may_leave = record {
      born = holds.born;
      unfailed = λ none. absurd (some (ap (λ (b : Account). b.failed) (sym said) ∙ none));
      failed = λ e d leaves. let left = holds.failed some d leaves in record { commits = keeps_refused c event (Failed entry) d tt left.commits; outside = left.outside };
    } in
    subst (λ (x : Core). DiskHolds s x image may_leave) (sym next_is) here

-- an event that a heap refuses since it has failed calls nothing
pub failed_calls : (c : Core) (event : Event) (entry : ℕ) → (account c.history).failed ≡ Some entry → calls c event ≡ 0
failed_calls c event entry is = ap (λ (o : Option Refusal). calls_if o c event) (failed_refusal c event entry is)

pub failed_passes : (c : Core) (event : Event) (entry before : ℕ) (reply : Reply) → (account c.history).failed ≡ Some entry → Passes (calls c event) before before (reply_device reply)
failed_passes c event entry before reply is = none_pass (calls c event) before (reply_device reply) (failed_calls c event entry is)
