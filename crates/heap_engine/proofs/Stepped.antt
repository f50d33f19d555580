-- What a step promises, of an event that leaves the disk alone: it was granted or refused, or had no memory.
use Rattle.std.specs.Prelude.{IsTrue, IfOk, OnErr}
use Rattle.std.proofs.Common.{◌≡◌, ◌≢◌, ℕ, List, [], Result, Ok, Err, refl, sym, subst}
use Rattle.disk_model.specs.declared.disk.Disk.{Ghosts}
use Rattle.disk_model.specs.Keeps.{KeepsDisk}
use Rattle.disk_model.proofs.KeepsLaws.{keeps_none}
use Rattle.graph_model.specs.declared.event.Event.{Event}
use Rattle.graph_model.specs.declared.reply.Reply.{Reply}
use Rattle.graph_model.specs.History.{account, IsOfSession}
use Rattle.core_laws.specs.Valid.{RunsLocked, IsValid}
use Rattle.logged_pages.specs.State.{store_of}
use Rattle.heap_memory.specs.Leaves.{IsAsItWas}
use Rattle.heap_model.specs.Core.{Core, transfers}
use Rattle.memory_laws.specs.CoreMemory.{IsMemory}
use Rattle.memory_laws.proofs.Does.{Does}
use Rattle.heap_engine.specs.declared.engine.Engine.{Engine}
use Rattle.heap_engine.specs.declared.step_error.StepError.{StepError}
use Rattle.heap_engine.specs.declared.step_error.StepError.TheVariants.{NoMemory, Disk}
use Rattle.heap_engine.specs.NoCall.{MakesNoCall}
use Rattle.heap_engine.specs.EngineState.{memory, LiesWithin, HasNotFailed}
use Rattle.heap_engine.specs.Ending.{NeedsNoMemory, Ends}
use Rattle.heap_engine.specs.Refinement.{Steps, StepsOn}
use Rattle.heap_engine.specs.StepResult.{engine_device, reply_device}
use Rattle.heap_engine.proofs.EventCore.{LeavesStored, call_leaves, lack_leaves}

-- what holds of the answer of a call that has one
pub ok_if : {A E : Type 0} {P : A → Type 0} (result : Result A E) → ((x : A) → result ≡ Ok x → P x) → IfOk result P
ok_if (Ok x) holds = holds x refl
ok_if (Err e) holds = tt

pub same_Ok : {A E : Type 0} (x y : A) → (let a : Result A E = Ok x in a ≡ Ok y) → x ≡ y
same_Ok x y is = cc is

pub never_err : {A E : Type 0} (P : Type 0) (result : Result A E) (y : A) → result ≡ Ok y → OnErr result P
never_err P (Ok x) y is = tt
never_err P (Err e) y is = absurd (cc is)

module _ {D : Type 0} (g : Ghosts D) (event : Event) (old new : Engine) (d : D) where
  -- The clauses of a step that leaves such a disk.
  pub record StepsAside (now : D) (result : Result Reply StepError) : Type 0 where
    pub inside : LiesWithin new (g.extent now)
    pub works : engine_device result ≡ Ok tt → HasNotFailed new
    pub disk : KeepsDisk g d now (engine_device result)
    pub answered : IfOk result (λ reply. reply_device reply ≡ Ok tt)
    pub core : Steps g event old d new now result
    pub holds : IsTrue g.tells → StepsOn g event old d new now result
    pub ends : IfOk result (Ends (memory old) (memory new) event)
    pub memory : NeedsNoMemory (memory old) event → result ≢ Err NoMemory

  module _ (inside : LiesWithin old (g.extent d)) (works : HasNotFailed old) (now : IsTrue g.tells → (image : List ℕ) → g.left_since d (g.moment d) image → g.may_leave d image) where
    -- It was answered.
    pub answered_aside : (reply : Reply) → IsOfSession event → ((c : Core) → transfers c event ≡ []) → LeavesStored old new
        → ((c : Core) → IsMemory (memory old) (account c.history) c → IsValid c → RunsLocked c.g0 c.first c.history → Does c event reply (memory new))
        → reply_device reply ≡ Ok tt → Ends (memory old) (memory new) event reply → StepsAside d (Ok reply)
    answered_aside reply one moves leaves does answered ends =
        let all = call_leaves g event old new d reply one moves leaves does in
        record {
          inside = all.inside inside;
          works = λ fine. all.works works;
          disk = keeps_none g d tt;
          answered = answered;
          core = all.core;
          holds = λ tells. all.holds (now tells);
          ends = ends;
          memory = λ none is. cc is;
        }

    lacked : IsAsItWas (memory old) (memory new) → (HasNotFailed old → HasNotFailed new) → (NeedsNoMemory (memory old) event → ⊥) → StepsAside d (Err NoMemory)
    lacked same still needs =
        let all = lack_leaves g event old new d same still in
        record {
          inside = all.inside inside;
          works = λ fine. all.works works;
          disk = keeps_none g d tt;
          answered = tt;
          core = all.core;
          holds = λ tells. all.holds (now tells);
          ends = tt;
          memory = λ none. absurd (needs none);
        }

    -- It had no memory.
    pub lacked_aside : (result : Result Reply StepError) → result ≡ Err NoMemory → IsAsItWas (memory old) (memory new) → (HasNotFailed old → HasNotFailed new) → (NeedsNoMemory (memory old) event → ⊥) → StepsAside d result
    lacked_aside result is same still needs = subst (StepsAside d) (sym is) (lacked same still needs)

    -- It had the disk in hand, and made no call of it.
    module _ (one : IsOfSession event) (moves : (c : Core) → transfers c event ≡ []) where
      by_result : (result : Result Reply StepError) → MakesNoCall g d new d result → ((x : Reply) → result ≡ Ok x → store_of new.pages ≡ store_of old.pages)
          → ((c : Core) → IsMemory (memory old) (account c.history) c → IsValid c → RunsLocked c.g0 c.first c.history → IfOk result (λ reply. Does c event reply (memory new)))
          → IfOk result (λ reply. reply_device reply ≡ Ok tt) → IfOk result (Ends (memory old) (memory new) event) → OnErr result (IsAsItWas (memory old) (memory new)) → (NeedsNoMemory (memory old) event → result ≢ Err NoMemory)
          → StepsAside d result
      by_result (Ok reply) made store does answered ends err needs = answered_aside reply one moves (record { store = store reply refl; works = λ works. made.works }) does answered ends
      by_result (Err NoMemory) made store does answered ends err needs = lacked err (λ works. made.works) (λ none. needs none refl)
      by_result (Err (Disk e)) made store does answered ends err needs = absurd (cc made.device)

      pub no_call_aside : (later : D) (result : Result Reply StepError) → MakesNoCall g d new later result → ((x : Reply) → result ≡ Ok x → store_of new.pages ≡ store_of old.pages)
          → ((c : Core) → IsMemory (memory old) (account c.history) c → IsValid c → RunsLocked c.g0 c.first c.history → IfOk result (λ reply. Does c event reply (memory new)))
          → IfOk result (λ reply. reply_device reply ≡ Ok tt) → IfOk result (Ends (memory old) (memory new) event) → OnErr result (IsAsItWas (memory old) (memory new)) → (NeedsNoMemory (memory old) event → result ≢ Err NoMemory)
          → StepsAside later result
      no_call_aside later result made store does answered ends err needs =
          let same = subst (λ (x : D). MakesNoCall g d new x result) made.disk made in
          subst (λ (x : D). StepsAside x result) (sym made.disk) (by_result result same store does answered ends err needs)
