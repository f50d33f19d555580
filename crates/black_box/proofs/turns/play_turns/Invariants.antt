use Rattle.std.proofs.Common.{◌≡◌, ℕ, ◌≤◌, length, take, get_or, map, Some, None}
use Rattle.std.specs.Prelude.{IsTrue, string_bytes}
use Rattle.command_words.specs.Command.{command}
use Rattle.command_words.specs.declared.commands.Command.TheVariants as asked
use Rattle.graph_model.specs.Graph.{Graph}
use Rattle.black_box.specs.Stores.{IsSameDisk, Stores}
use Rattle.black_box.specs.Tales.{TellTurns}
use Rattle.black_box.proofs.turns.play_turns.Given as goal

-- the turns so far reported what they did, the others are as they were, and the disk was restarted after each
abbrev pub invariant-loop-turn : goal.invariant-loop-turn
invariant-loop-turn g l =
    (length l.turns ≡ length l.initial.turns) × ((k : ℕ) (d : _) → l.turn-index ≤ k → get_or l.turns k d ≡ get_or l.initial.turns k d)
    × (IsTrue g.D.Disk.tells → IsTrue g.S.Source.tells → IsTrue g.K.Sink.tells → command (map string_bytes l.play) ≡ Some (asked.Play None None)
    → (begins : Graph) → Stores g.D.Disk begins l.fn.disk → (kept : Graph) × Stores g.D.Disk kept l.disk × TellTurns g.S.Source.left g.K.Sink.written begins (take l.turn-index l.initial.turns) (take l.turn-index l.turns) kept)
    × (command (map string_bytes l.play) ≡ Some (asked.Play None None) → IsSameDisk g.D.Disk l.turn-index l.fn.disk l.disk)
