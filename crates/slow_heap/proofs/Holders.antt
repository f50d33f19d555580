-- The least holder in the way, session by session from the last one on.
use Rattle.std.proofs.Common.{◌≡◌, ℕ, ◌-◌, Option, Some, refl}
use Rattle.std.specs.Prelude.{filter_map}
use Rattle.std.specs.List.{range_with_len}
use Rattle.graph_model.specs.Graph.{Graph}
use Rattle.graph_model.specs.Transaction.{serial}
use Rattle.graph_model.specs.History.{Account, sessions}
use Rattle.graph_model.specs.Locking.{Lock, holder_in_the_way, busy_holder, least}

-- the number of the transaction of this session, if it is in the way
abbrev pub holder_of : Graph → Account → ℕ → Lock → ℕ → Option ℕ
holder_of g0 a n lock s = holder_in_the_way (serial g0 a.sealed) n lock (a.active s)

-- the least of those of the sessions from this one on
abbrev pub least_from : Graph → Account → ℕ → Lock → ℕ → Option ℕ
least_from g0 a n lock s = least (filter_map (holder_of g0 a n lock) (range_with_len s (33 - s)))

-- of all
pub least_from-first : (g0 : Graph) (a : Account) (n : ℕ) (lock : Lock) → least_from g0 a n lock 1 ≡ busy_holder g0 a n (Some lock)
unfolding sessions
least_from-first g0 a n lock = refl
