-- A call by numbers.
use Rattle.std.specs.Prelude.{◌≡◌, ℕ, ⊤}
use Rattle.disk_model.specs.declared.disk.Disk.{Ghosts}
use Rattle.disk_model.specs.Memory.{Memory}
use Rattle.heap_embed.specs.declared.answer.Answer.{Answer}
use Rattle.heap_embed.specs.declared.answer.Numbers.{Numbers}
use Rattle.heap_embed.specs.declared.ask.Ask.{Ask}
use Rattle.heap_embed.specs.declared.ask.Ask.TheVariants as ask
use Rattle.heap_embed.specs.declared.state.State.{State}
use Rattle.heap_embed.specs.Embedding.{Answers}
use Rattle.heap_embed.specs.Spelling.{spelled}

-- That is asked, and what comes back, with the numbers that are kept, spells the answer.
pub record CallsAs (g : Ghosts Memory) (ask : Ask) (old : State) (code : ℕ) (numbers : Numbers) (new : State) : Type 0 where
  pub answer : Answer
  pub answers : Answers g old ask answer new
  pub coded : (spelled answer).code ≡ code
  pub numbered : (spelled answer).numbers ≡ numbers

-- It asks only for numbers that are known already: those of the last answer, or a figure. That is answered after a call of the host's has failed, too.
abbrev pub IsReading : Ask → Type 0
IsReading (ask.Last i) = ⊤
IsReading (ask.Figure i) = ⊤
IsReading other = ⊥
