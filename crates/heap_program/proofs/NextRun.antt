-- Two runs join: the next one finds what the last one left.
use Rattle.std.proofs.Common.{◌≡◌, ◌≢◌, ◌⊎◌, inl, inr, ⊎_elim, ℕ, ◌+◌, ◌≤◌, Bool, List, length, take, Option, None, arith, ◌∙◌}
use Rattle.std.specs.Prelude.{IsTrue}
use Rattle.disk_model.specs.declared.disk.Disk.{Ghosts}
use Rattle.disk_model.specs.Disk.{Only}
use Rattle.graph_model.specs.declared.event.Event.{Event}
use Rattle.graph_model.specs.declared.reply.Reply.{Reply}
use Rattle.graph_model.specs.Canon.{canon}
use Rattle.graph_model.specs.History.{commits}
use Rattle.graph_model.specs.Transaction.{serial}
use Rattle.heap_model.specs.Core.{Core}
use Rattle.heap_model.proofs.Opening.Opened.{saying_law}
use Rattle.heap_model.proofs.Opening.Rolled.{commits_are}
use Rattle.script_text.specs.declared.line.Line.{Line}
use Rattle.command_words.specs.declared.commands.Stop.{Stop}
use Rattle.heap_program.specs.declared.status.Status.{Status}
use Rattle.heap_program.specs.declared.status.Status.TheVariants as status
use Rattle.heap_program.specs.Headline.{lasting, OfTold, IsPlayed, IsNotBegun, Runs, PlaysScript}
use Rattle.heap_program.specs.Play.{IsCutBy}
use Rattle.heap_program.specs.Stored.{IsStored, stored_core, stored_calls}

-- Nothing is unsynced, and a heap is there with the graph of the first commits of a core, all that lasts among them.
pub record IsLeftToNext (c : Core) (image : List ℕ) (may_leave : List ℕ → Type 0) : Type 0 where
  pub only : Only image may_leave
  pub count : ℕ
  pub least : lasting c ≤ count
  pub most : count ≤ length (commits c.history)
  pub stored : IsStored image
  pub graph : canon stored.graph ≡ canon (serial c.g0 (take count (commits c.history)))
  pub before : (stored_core stored).before ≡ c.before + count

-- A script was played on the heap that such a run had left.
pub record PlaysNext {D : Type 0} (g : Ghosts D) (c : Core) (stop : Option Stop) (is_script : List Line → Type 0) (start final : D) (result : Status) (told : Bool) (before after : List ℕ) : Type 0 where
  pub left : IsLeftToNext c (g.bytes start) (g.may_leave start)
  pub plays : PlaysScript g stop is_script (stored_calls left.stored) (stored_core left.stored) start final result told before after

-- A run that the disk did not end, and whose last event it did not leave cut short.
module _ {D : Type 0} (g : Ghosts D) (stop : Option Stop) (at_opening : ℕ) (c : Core) (events : List Event) (start mid : D) (result : Status) (told : Bool) (before after : List ℕ) (played : IsPlayed g stop at_opening c events start mid result told before after)
    (other : result ≢ status.DiskFault) (free : mid ≡ played.disk.stopped → (reply : Reply) → IsCutBy reply c played.run.made played.run.core → ⊥) (reads : g.may_leave mid (g.bytes mid)) where
  pub left_to_next : IsLeftToNext played.run.core (g.bytes mid) (g.may_leave mid)
  left_to_next =
      let keeps = played.disk.kept (g.bytes mid) reads in
      let stands = keeps.1.stands in
      let says = stands.says in
      let found = saying_law stands.stored says.legal says.seen says.shows in
      record {
        only = played.settled other free;
        count = keeps.0;
        least = omega (arith, keeps.1.kept, keeps.1.forced);
        most = keeps.1.some;
        stored = record { heap = stands.stored; legal = record { log = says.legal; held = stands.held }; places = found.0; graph = found.1; found = found.2 };
        graph = found.3 ∙ says.graph;
        before = commits_are stands.stored says.legal.shaped ∙ says.count;
      }

  -- What the next run promises of a modelled disk on which nothing is unsynced, it promises of this one, with the heap that was left.
  pub next_run : IsTrue g.tells → (stop' : Option Stop) (is_script : List Line → Type 0) (new : D) (by : Status) (told' : Bool) (first last : List ℕ)
      → OfTold g.tells (g.bytes mid) (g.may_leave mid) (Runs g None stop' is_script mid new by told' first last)
      → IsNotBegun g mid new by told' first last ⊎ PlaysNext g played.run.core stop' is_script mid new by told' first last
  next_run tells stop' is_script new by told' first last run =
      let stored = left_to_next.stored in
      ⊎_elim
      (λ (none : IsNotBegun g mid new by told' first last). inl none)
      (λ (plays : (stored : IsStored (g.bytes mid)) → PlaysScript g stop' is_script (stored_calls stored) (stored_core stored) mid new by told' first last). inr (record { left = left_to_next; plays = plays stored }))
      (run tells left_to_next.only)
