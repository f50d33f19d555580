use Rattle.std.proofs.Common.{ℕ, ◌<◌, ◌≤◌}
use Rattle.page_redo.specs.Pages.{lsn_of}
use Rattle.page_cache.proofs.cached.CachedPages.first_past.Given as goal

-- none so far is past it
abbrev pub invariant-loop-p : goal.invariant-loop-p
invariant-loop-p l = (q : ℕ) → q < l.p → lsn_of l.self q ≤ l.lsn
