-- What a run of a load promises, and the summary that it prints.
use Rattle.std.specs.Prelude.{◌≡◌, ◌≢◌, ◌⊎◌, ℕ, List, [], ◌∷◌, ◌++◌, length, count_by, codes, Bool, true, false, IsTrue, Option, None, Some}
use Rattle.std.specs.Fmt.{decimal}
use Rattle.disk_model.specs.declared.disk.Disk.{Ghosts}
use Rattle.graph_model.specs.declared.event.Event.{Event}
use Rattle.graph_model.specs.declared.reply.Entry.{Entry}
use Rattle.graph_model.specs.declared.reply.Reply.{Reply}
use Rattle.graph_model.specs.declared.reply.Reply.TheVariants.{Sealed, Aborted, Collected, Refused}
use Rattle.graph_model.specs.Canon.{canon}
use Rattle.graph_model.specs.History.{sealed}
use Rattle.graph_model.specs.Transaction.{serial}
use Rattle.heap_model.specs.Core.{Core, IsRun}
use Rattle.heap_model.specs.Ending.{all_events}
use Rattle.script_text.specs.Line.{events}
use Rattle.script_text.specs.Load.{load_lines}
use Rattle.heap_program.specs.declared.status.Status.{Status}
use Rattle.heap_program.specs.declared.status.Status.TheVariants as status
use Rattle.heap_program.specs.declared.summary.Summary.{Summary}
use Rattle.heap_program.specs.Commands.{WritesText}
use Rattle.heap_program.specs.Headline.{made_super, made_core, HasMade, IsOfDisk, IsOpened, IsFormatted, IsNotMade, IsNotBegun, IsPlayed}
use Rattle.heap_program.specs.Limits.{KeepsLimits}
use Rattle.heap_program.specs.Stored.{IsStored, stored_core, stored_calls}

-- the replies that a summary counts
abbrev pub is_sealed : Reply → Bool
is_sealed (Sealed n) = true
is_sealed reply = false

abbrev pub is_aborted : Reply → Bool
is_aborted Aborted = true
is_aborted reply = false

-- every refusal, whatever the reason
abbrev pub is_refused : Reply → Bool
is_refused (Refused why) = true
is_refused reply = false

abbrev pub is_collected : Reply → Bool
is_collected (Collected used) = true
is_collected reply = false

-- how many entries of a history have such a reply
abbrev pub replies_in : (Reply → Bool) → List Entry → ℕ
replies_in counts history = count_by (λ (entry : Entry). counts entry.reply) history

-- the outcome of a load: how many events were made, how many of their replies are such, and how many objects the graph has
abbrev pub summary_of : ℕ → ℕ → List Entry → ℕ → Summary
summary_of seed count history objects = record {
  seed = seed;
  count = count;
  events = length history;
  sealed = replies_in is_sealed history;
  aborted = replies_in is_aborted history;
  refused = replies_in is_refused history;
  collected = replies_in is_collected history;
  objects = objects;
}

-- that of a load which led to this core: the graph is that of its sealed transactions
abbrev pub core_summary : ℕ → ℕ → Core → Summary
core_summary seed count c = summary_of seed count c.history (length (canon (serial c.g0 (sealed c.history))))

-- its seven lines
abbrev pub summary_text : Summary → List ℕ
summary_text s =
    codes "load " ++ decimal s.seed ++ codes " " ++ decimal s.count
    ++ 10 ∷ codes "events " ++ decimal s.events
    ++ 10 ∷ codes "sealed " ++ decimal s.sealed
    ++ 10 ∷ codes "aborted " ++ decimal s.aborted
    ++ 10 ∷ codes "refused " ++ decimal s.refused
    ++ 10 ∷ codes "collected " ++ decimal s.collected
    ++ 10 ∷ codes "objects " ++ decimal s.objects
    ++ 10 ∷ []

-- A summary was written, all of it if the run is done, and otherwise a prefix; nothing if the disk or its image ended the run.
pub record WritesSummary (result : Status) (text before after : List ℕ) : Type 0 where
  pub printed : WritesText result text before after
  pub fault : IsOfDisk result → after ≡ before

-- On any disk: a heap was opened, the events of the load and those that end a run were made on it, and a summary of their history was written.
pub record SummarizesRun (seed count : ℕ) (result : Status) (before after : List ℕ) : Type 0 where
  pub first : Core
  pub opened : IsOpened first
  pub core : Core
  pub run : IsRun first (all_events None first (events (load_lines seed count))) core
  pub limits : KeepsLimits first (all_events None first (events (load_lines seed count))) core
  pub written : WritesText result (summary_text (core_summary seed count core)) before after

-- A run that isn't done, and whose output was not refused, wrote nothing, or it wrote that.
abbrev pub SummarizesSome : ℕ → ℕ → Status → List ℕ → List ℕ → Type 0
SummarizesSome seed count result before after = ((result ≢ status.Done) × (result ≢ status.WriteFault) × (after ≡ before)) ⊎ SummarizesRun seed count result before after

module _ {D : Type 0} (g : Ghosts D) where
  -- Events were made on a disk whose heap was opened as the core c, with `at_opening` calls at the opening: what is said of a play without a stop,
  -- but for its lines and its graph.
  abbrev pub MakesRun : ℕ → Core → List Event → D → D → Status → Type 0
  MakesRun at_opening c events start final result = IsPlayed g None at_opening c events start final result false [] []

  -- The events of a load were made, and those that end a run, and the summary of their history was written.
  pub record PlaysLoad (seed count at_opening : ℕ) (c : Core) (start final : D) (result : Status) (told : Bool) (before after : List ℕ) : Type 0 where
    pub played : MakesRun at_opening c (all_events None c (events (load_lines seed count))) start final result
    -- where the summary could not be written, all events were made
    pub made : result ≡ status.WriteFault → HasMade None c played.run.made played.run.behind played.run.core
    pub written : IsTrue told → WritesSummary result (summary_text (core_summary seed count played.run.core)) before after

  -- A heap was made, and a load was played on it.
  pub record LoadsNew (pages seed count : ℕ) (old new : D) (result : Status) (told : Bool) (before after : List ℕ) : Type 0 where
    pub made : D
    pub format : IsFormatted g (made_super pages) old made
    pub plays : PlaysLoad seed count 0 (made_core pages (g.bytes made)) made new result told before after

  -- Either a heap was made and a load was played on it, or none was made; or the load was played on the existing heap, for each graph that
  -- stands in it, or the run did not begin.
  abbrev pub RunsLoad : Option ℕ → ℕ → ℕ → D → D → Status → Bool → List ℕ → List ℕ → Type 0
  RunsLoad (Some pages) seed count old new result told before after =
      IsNotMade g (made_super pages) old new result told before after ⊎ LoadsNew pages seed count old new result told before after
  RunsLoad None seed count old new result told before after =
      IsNotBegun g old new result told before after
      ⊎ ((stored : IsStored (g.bytes old)) → PlaysLoad seed count (stored_calls stored) (stored_core stored) old new result told before after)
