-- A round of a program that stands on the heap.
use Rattle.std.proofs.Common.{◌≡◌, ◌⊎◌, true, inl, inr, ⊎_elim, ◌∙◌, ℕ, zero, suc, ◌+◌, ◌<◌, List, [], ◌∷◌, ◌++◌, length, take, get_or, Result, refl, sym, ap, subst, arith}
use Rattle.std.specs.List.{AllByRecursion}
use Rattle.std.proofs.lemmas.List.{take_more}
use Rattle.counts.specs.Count.{Rose}
use Rattle.disk_model.specs.declared.disk.Disk.{Ghosts}
use Rattle.disk_model.specs.declared.disk.DiskError.{DiskError}
use Rattle.disk_model.specs.Disk.{HasCause}
use Rattle.disk_model.specs.Keeps.{KeepsDisk}
use Rattle.disk_model.proofs.KeepsLaws.{rose_since, rose_until}
use Rattle.core_laws.proofs.Opening.Opened.{opened_reached}
use Rattle.core_laws.proofs.Run.Events.{step_reached}
use Rattle.graph_model.specs.declared.event.Event.{Event}
use Rattle.graph_model.specs.declared.reply.Refusal.TheVariants.{DiskFault, Stopped}
use Rattle.graph_model.specs.declared.reply.Reply.{Reply}
use Rattle.graph_model.specs.declared.reply.Reply.TheVariants.{Refused}
use Rattle.graph_model.specs.Graph.{Graph}
use Rattle.graph_model.specs.History.{IsOfSession}
use Rattle.heap_model.specs.Core.{Core, IsStep, after}
use Rattle.heap_model.specs.CoreCrash.{IsCommitPrefix}
use Rattle.heap_model.proofs.Step.Calls.{run_step, after_events-append}
use Rattle.heap_model.proofs.Opening.Opened.{saying_law}
use Rattle.heap_model.specs.CoreRuns.{after_events}
use Rattle.heap_model.specs.Image.{IsLegal, StandsFor}
use Rattle.heap_model.specs.Opening.{IsFound}
use Rattle.heap_model.specs.Theorems.{SaysOn}
use Rattle.graph_model.specs.Canon.{canon}
use Rattle.graph_words.specs.Places.{Places}
use Rattle.page_store.specs.Gates.{open_gates}
use Rattle.heap_core.specs.Causes.{reply_device}
use Rattle.heap_core.specs.declared.heap.Heap.{Heap}
use Rattle.heap_core.specs.HeapState.{heap_disk}
use Rattle.heap_core.specs.Refinement.{IsHeap}
use Rattle.library_tests.specs.Rounds.{Unharmed, opened_on, IsGoing, IsRound}
use Rattle.library_tests.proofs.Going.{KeepsCounts, HasGone}

-- the legal image in what stands for a graph and commits
abbrev pub legal_of : {g : Graph} {k : ℕ} {image : List ℕ} (stands : StandsFor g k image) → IsLegal stands.stored image
legal_of stands = record { log = stands.says.legal; held = stands.held }

-- the graph that stands in what its log leaves, under the names of births
abbrev pub found_of : {g : Graph} {k : ℕ} {image : List ℕ} (stands : StandsFor g k image)
    → (places : Places) × (h : Graph) × IsFound stands.stored stands.says.legal.shaped true places h × (canon h ≡ canon stands.says.seen) × SaysOn h stands.stored
found_of stands = saying_law stands.stored stands.says.legal stands.says.seen stands.says.shows

-- the core that is opened on it
abbrev pub core_of : {g : Graph} {k : ℕ} {image : List ℕ} → StandsFor g k image → Core
core_of stands = let found = found_of stands in opened_on stands found.0 found.1

-- a heap was opened on it
pub going_opened : {g : Graph} {k : ℕ} {image : List ℕ} (unharmed : Type 0) (stands : StandsFor g k image) → IsGoing g k image [] unharmed (core_of stands)
going_opened {image = image} unharmed stands =
    let found = found_of stands in
    record {
      stands = stands;
      places = found.0;
      named = found.1;
      found = found.2;
      same = found.3 ∙ stands.says.graph;
      run = refl;
      all = λ u. refl;
      reached = opened_reached stands.stored stands.says.legal.shaped (open_gates stands.stored.super.log_bytes image) true found.0 found.1 found.2;
    }

-- one more event
going_on : {g : Graph} {k : ℕ} {image : List ℕ} {events : List Event} {before now : Type 0} (c d : Core) (event : Event) (reply : Reply) → IsGoing g k image events before c → IsOfSession event → IsStep c event reply d → (now → before)
    → (now → d ≡ after c event) → IsGoing g k image (events ++ event ∷ []) now d
going_on {events = events} c d event reply going one step sooner whole =
    let start = opened_on going.stands going.places going.named in
    record {
      stands = going.stands;
      places = going.places;
      named = going.named;
      found = going.found;
      same = going.same;
      run = run_step start c d events event reply going.run step;
      all = λ u. whole u ∙ ap (λ (x : Core). after x event) (going.all (sooner u)) ∙ sym (after_events-append start events (event ∷ []));
      reached = step_reached c d event reply going.reached one step;
    }

-- a step in which the disk was not harmed was not cut short
whole_step : (faults faults' stops stops' : ℕ) (c d : Core) (event : Event) (reply : Reply) → HasCause {T = Unit {0}} faults faults' stops stops' (reply_device reply) → (Rose faults faults' ⊎ Rose stops stops' → ⊥) → IsStep c event reply d
    → d ≡ after c event
whole_step faults faults' stops stops' c d event reply cause still (inl made) = made.1
whole_step faults faults' stops stops' c d event reply cause still (inr cut) = ⊎_elim
    (λ (is : reply ≡ Refused DiskFault). absurd (still (inl (cause.failed (ap reply_device is)))))
    (λ (is : reply ≡ Refused Stopped). absurd (still (inr (cause.stopped (ap reply_device is)))))
    cut.0.told

pub of_session_at : (events : List Event) (i : ℕ) (d : Event) → i < length events → AllByRecursion IsOfSession events → IsOfSession (get_or events i d)
of_session_at [] i d lt all = absurd (omega arith)
of_session_at (e ∷ es) zero d lt all = all.0
of_session_at (e ∷ es) (suc i) d lt all = of_session_at es i d (omega arith) all.1

module _ {D : Type 0} {ghosts : Ghosts D} where
  -- A disk that was not harmed up to a later point was not harmed up to an earlier one, nor from there on.
  pub unharmed_until : (start mid end : D) → KeepsCounts ghosts mid end → Unharmed ghosts start end → Unharmed ghosts start mid
  unharmed_until start mid end keeps unharmed harm = unharmed (⊎_elim
      (λ (rose : Rose (ghosts.faults start) (ghosts.faults mid)). inl (rose_until _ _ _ keeps.faults rose))
      (λ (rose : Rose (ghosts.stops start) (ghosts.stops mid)). inr (rose_until _ _ _ keeps.stops rose))
      harm)

  pub unharmed_since : (start mid end : D) → KeepsCounts ghosts start mid → KeepsCounts ghosts mid end → Unharmed ghosts start end → Unharmed ghosts mid end
  unharmed_since start mid end before keeps unharmed harm = unharmed (⊎_elim
      (λ (rose : Rose (ghosts.faults mid) (ghosts.faults end)). inl (rose_since _ _ _ before.faults keeps.faults rose))
      (λ (rose : Rose (ghosts.stops mid) (ghosts.stops end)). inr (rose_since _ _ _ before.stops keeps.stops rose))
      harm)

  pub counts_then : (start mid end : D) → KeepsCounts ghosts start mid → KeepsCounts ghosts mid end → KeepsCounts ghosts start end
  counts_then start mid end before behind = record { faults = omega (arith, before.faults, behind.faults); stops = omega (arith, before.stops, behind.stops) }

  pub counts_of : {T : Type 0} (old new : D) (result : Result T DiskError) → KeepsDisk {T = T} ghosts old new result → KeepsCounts ghosts old new
  counts_of old new result keeps = record { faults = keeps.cause.faults_kept; stops = keeps.cause.stops_kept }

  -- a heap on which one more event was made
  pub gone_on : {g : Graph} {k : ℕ} (events : List Event) (i : ℕ) (d : Event) (start : D) (old new : Heap D ghosts) (reply : Reply) → i < length events → AllByRecursion IsOfSession events
      → (gone : HasGone g k (take i events) start old) → KeepsCounts ghosts start (heap_disk old) → KeepsDisk {T = Unit {0}} ghosts (heap_disk old) (heap_disk new) (reply_device reply)
      → (next : Core) × IsStep gone.core (get_or events i d) reply next × IsHeap gone.super next new → HasGone g k (take (i + 1) events) start new
  gone_on {g} {k} events i d start old new reply lt all gone counts keeps stepped =
      let event = get_or events i d in
      let one = counts_of (heap_disk old) (heap_disk new) (reply_device reply) keeps in
      let going = going_on gone.core stepped.0 event reply gone.going (of_session_at events i d lt all) stepped.1
      (unharmed_until start (heap_disk old) (heap_disk new) one)
      (λ (u : Unharmed ghosts start (heap_disk new)). whole_step _ _ _ _ gone.core stepped.0 event reply keeps.cause (unharmed_since start (heap_disk old) (heap_disk new) counts one u) stepped.1) in
      record {
        super = gone.super;
        core = stepped.0;
        going = subst (λ (es : List Event). IsGoing g k (ghosts.bytes start) es (Unharmed ghosts start (heap_disk new)) stepped.0) (sym (take_more events i d lt)) going;
        is = stepped.2;
      }

  -- a crash leaves a commit prefix
  pub round_ends : {g : Graph} {k : ℕ} {events : List Event} (disk : D) (heap : Heap D ghosts) (left : D) (gone : HasGone g k events disk heap) → KeepsCounts ghosts (heap_disk heap) left → IsCommitPrefix gone.core (ghosts.bytes left)
      → (h : Graph) × (j : ℕ) × IsRound ghosts events disk g k left h j × StandsFor h j (ghosts.bytes left)
  round_ends disk heap left gone since kept =
      let going = gone.going in
      let until = unharmed_until disk (heap_disk heap) left since in (
        _,
        gone.core.before + kept.0,
        record {
          core = gone.core;
          going = record { stands = going.stands; places = going.places; named = going.named; found = going.found; same = going.same; run = going.run; all = λ u. going.all (until u); reached = going.reached };
          first = kept.0;
          stands = kept.1;
          graph = refl;
          count = refl;
        },
        kept.1.stands,
      )
