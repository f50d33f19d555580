-- What the numbers of a command keep to.
use Rattle.std.specs.Prelude.{ℕ, ◌<◌, ◌≤◌, ◌^◌, IfSome, ⊤}
use Rattle.command_words.specs.declared.commands.Command.{Command}
use Rattle.command_words.specs.declared.commands.Command.TheVariants.{Format, Play, Threads, Graph, Load}
use Rattle.command_words.specs.declared.commands.Numbers.{Numbers}
use Rattle.command_words.specs.declared.commands.Stop.{Stop}

pub record AreNumbers (n : Numbers) : Type 0 where
  pub some_page : 1 ≤ n.pages
  pub most_pages : n.pages ≤ 16384
  pub least_log : 64 ≤ n.log_bytes
  pub most_log : n.log_bytes ≤ 1073741824
  pub some_first : 1 ≤ n.first
  pub most_first : n.first < 2 ^ 32

abbrev pub IsPages : ℕ → Type 0
IsPages pages = (1 ≤ pages) × (pages ≤ 16384)

abbrev pub IsStop : Stop → Type 0
IsStop stop = (stop.after < 2 ^ 64) × IfSome stop.again (λ again. again < 2 ^ 64)

-- the numbers of the command are within the limits of the table
abbrev pub IsWithin : Command → Type 0
IsWithin (Format numbers) = AreNumbers numbers
IsWithin (Play fresh stop) = IfSome fresh IsPages × IfSome stop IsStop
IsWithin (Threads fresh tries) = IfSome fresh IsPages × (1 ≤ tries) × (tries ≤ 1000000)
IsWithin Graph = ⊤
IsWithin (Load seed count fresh) = (seed < 2 ^ 31) × (count ≤ 100000) × IfSome fresh IsPages
