-- A play of the events that a run of workers has printed writes the same again.
use Rattle.std.proofs.Common.{◌≡◌, ◌⊎◌, inl, inr, ℕ, Bool, List, [], ◌++◌, take, None, refl, sym, ap, ◌∙◌, append-nil}
use Rattle.std.specs.Prelude.{IsTrue}
use Rattle.std.specs.Option.{option_to_list}
use Rattle.std.proofs.Math.Seq.{take-append_seam}
use Rattle.disk_model.specs.declared.disk.Disk.{Ghosts}
use Rattle.graph_model.specs.declared.event.Event.{Event}
use Rattle.graph_model.specs.History.{account, sealed, commits}
use Rattle.graph_model.specs.Transaction.{Transaction, serial}
use Rattle.heap_model.specs.Core.{Core}
use Rattle.heap_model.specs.CoreRuns.{after_events}
use Rattle.heap_model.specs.Ending.{all_events}
use Rattle.script_text.specs.declared.line.Line.{Line}
use Rattle.heap_program.specs.declared.status.Status.TheVariants as status
use Rattle.heap_program.specs.Headline.{graph_text, HasMade, StopsOpening, IsPlayed}
use Rattle.heap_program.specs.Play.{MadeAll, lines_text}
use Rattle.thread_program.specs.Together.{IsPlayedTogether}

-- what is printed of a core
abbrev printed : Core → List ℕ
printed c = lines_text c.history ++ graph_text (serial c.g0 (sealed c.history))

-- all events of a play without a stop were made that is done
all_made : (calls : ℕ) (c : Core) (made behind : List Event) (d : Core) → (HasMade None c made behind d ⊎ StopsOpening None calls made) → (behind ≡ []) × MadeAll c made d
all_made calls c made behind d (inl all) = all
all_made calls c made behind d (inr stopped) = absurd stopped

-- Both are done, and the play was asked for the events that the workers' run had made, on a heap that was opened as the same core. What they wrote is the same.
pub played_again : {D B : Type 0} (g : Ghosts D) (h : Ghosts B) (c : Core) (tries : ℕ) (lines : List Line) (calls : ℕ) (start final : D) (told : Bool) (before after : List ℕ) (played : IsPlayedTogether g tries lines calls c start final status.Done told before after)
    → (calls' : ℕ) (start' final' : B) (told' : Bool) (before' after' : List ℕ) → IsPlayed h None calls' c (all_events None c played.runs.made) start' final' status.Done told' before' after' → IsTrue told → IsTrue told'
    → (text : List ℕ) × (after ≡ before ++ text) × (after' ≡ before' ++ text)
played_again g h c tries lines calls start final told before after played calls' start' final' told' before' after' again first second =
    let runs = played.runs in
    let d = again.run.core in
    let ended = all_made calls' c again.run.made again.run.behind d (again.run.done refl) in
    let asked : runs.made ≡ again.run.made =
    sym (runs.again refl) ∙ again.run.parts ∙ ap (λ (l : List Event). again.run.made ++ l) ended.0 ∙ append-nil again.run.made in
    let same : d ≡ runs.core = ended.1 ∙ ap (after_events c) (sym asked) ∙ sym (runs.together.done refl).2 in
    let last : take again.prints.count (commits d.history) ≡ sealed d.history =
    ap (λ (k : ℕ). take k (commits d.history)) (again.prints.all refl) ∙ take-append_seam (sealed d.history) (option_to_list (account d.history).in_doubt) in
    let own : after' ≡ before' ++ printed d =
    (again.prints.written second).whole refl ∙ ap (λ (ts : List Transaction). before' ++ (lines_text d.history ++ graph_text (serial d.g0 ts))) last in
    (printed runs.core, (runs.written first).whole refl, own ∙ ap (λ (x : Core). before' ++ printed x) same)
