-- Two sessions join: the next one finds what the last one left.
use Rattle.std.proofs.Common.{◌≡◌, ◌≢◌, ℕ, Bool, List, arith, ◌∙◌}
use Rattle.std.specs.Prelude.{IsTrue}
use Rattle.disk_model.specs.declared.disk.Disk.{Ghosts}
use Rattle.disk_model.specs.Disk.{Only}
use Rattle.heap_model.specs.Core.{Core}
use Rattle.heap_model.proofs.Opening.Opened.{saying_law}
use Rattle.heap_model.proofs.Opening.Rolled.{commits_are}
use Rattle.heap_program.specs.declared.status.Status.{Status}
use Rattle.heap_program.specs.declared.status.Status.TheVariants as status
use Rattle.heap_program.specs.Headline.{OfTold}
use Rattle.heap_program.specs.Play.{MadeAll}
use Rattle.heap_program.specs.Stored.{IsStored, stored_core, stored_calls}
use Rattle.heap_program.proofs.NextRun.{IsLeftToNext}
use Rattle.session_program.specs.declared.parts.Next.{Next}
use Rattle.session_program.specs.Served.{IsServed}

-- A session was served on the heap that such a session had left.
pub record ServesNext {D : Type 0} (g : Ghosts D) (c : Core) (tells : Bool) (left rest : List ℕ) (start final : D) (by : Status) (n : Next) (told : Bool) (before after : List ℕ) : Type 0 where
  pub finds : IsLeftToNext c (g.bytes start) (g.may_leave start)
  pub serves : IsServed g (stored_calls finds.stored) tells left rest (stored_core finds.stored) start final by n told before after

-- A session that left nothing unsynced.
module _ {D : Type 0} (g : Ghosts D) (at_opening : ℕ) (tells : Bool) (left rest : List ℕ) (c : Core) (start mid : D) (by : Status) (n : Next) (told : Bool) (before after : List ℕ) (served : IsServed g at_opening tells left rest c start mid by n told before after)
    (reads : g.may_leave mid (g.bytes mid)) where
  left_to_next : Only (g.bytes mid) (g.may_leave mid) → IsLeftToNext served.core (g.bytes mid) (g.may_leave mid)
  left_to_next only =
      let keeps = served.disk.kept (g.bytes mid) reads in
      let stands = keeps.1.stands in
      let says = stands.says in
      let found = saying_law stands.stored says.legal says.seen says.shows in
      record {
        only = only;
        count = keeps.0;
        least = omega (arith, keeps.1.kept, keeps.1.forced);
        most = keeps.1.some;
        stored = record { heap = stands.stored; legal = record { log = says.legal; held = stands.held }; places = found.0; graph = found.1; found = found.2 };
        graph = found.3 ∙ says.graph;
        before = commits_are stands.stored says.legal.shaped ∙ says.count;
      }

  -- a part of a session is done where the next one begins
  pub left_by_part : by ≡ status.Done → IsLeftToNext served.core (g.bytes mid) (g.may_leave mid)
  left_by_part done = left_to_next (served.durable done)

  -- A session that the disk did not end, and whose last event was not cut short.
  module _ (other : by ≢ status.DiskFault) (whole : MadeAll c served.made served.core) where
    pub left_by_session : IsLeftToNext served.core (g.bytes mid) (g.may_leave mid)
    left_by_session = left_to_next (served.settled other whole)

    -- What the next session promises of a modelled disk on which nothing is unsynced, it promises of this one, with the heap that was left.
    pub next_session : IsTrue g.tells → (tells' : Bool) (left' rest' : List ℕ) (new : D) (by' : Status) (n' : Next) (told' : Bool) (first last : List ℕ)
        → OfTold g.tells (g.bytes mid) (g.may_leave mid) ((stored : IsStored (g.bytes mid)) → IsServed g (stored_calls stored) tells' left' rest' (stored_core stored) mid new by' n' told' first last)
        → ServesNext g served.core tells' left' rest' mid new by' n' told' first last
    next_session tells_disk tells' left' rest' new by' n' told' first last serves = record { finds = left_by_session; serves = serves tells_disk left_by_session.only left_by_session.stored }
