-- What is written of a history and its graph.
use Rattle.std.proofs.Common.{◌≡◌, ℕ, List, ◌++◌, None, Result, Ok, Err, refl, ap, ◌∙◌, append_assoc}
use Rattle.graph_model.specs.History.{account, sealed}
use Rattle.graph_model.specs.Transaction.{serial}
use Rattle.heap_model.specs.Core.{Core}
use Rattle.heap_program.specs.declared.output.WriteError.{WriteError}
use Rattle.heap_program.specs.declared.output.WriteError.TheVariants as writing
use Rattle.heap_program.specs.declared.status.Status.TheVariants.{NoMemory, DiskFault}
use Rattle.heap_program.specs.Headline.{graph_text}
use Rattle.heap_program.specs.Output.{WroteText, status_after}
use Rattle.heap_program.specs.Play.{lines_text, WroteFront}
use Rattle.heap_program.specs.StatusOf.{write_status}
use Rattle.heap_program.proofs.Statuses.{written_sound, wrote_all}
use Rattle.heap_program.proofs.Written.{none_written, front_more, then_front, whole_front, wrote_some}
use Rattle.thread_program.specs.Written.{WritesAll}

-- all of a text was written where that gave no error
pub wrote_whole : (r : Result (Unit {0}) WriteError) (before text after : List ℕ) → ((e : WriteError) → r ≡ Err e → ⊥) → WroteText r before text after → after ≡ before ++ text
wrote_whole (Ok done) before text after none wrote = wrote
wrote_whole (Err e) before text after none wrote = absurd (none e refl)

module _ (c : Core) (before : List ℕ) where
  abbrev lines : List ℕ
  lines = lines_text c.history

  abbrev graph : List ℕ
  graph = graph_text (serial c.g0 (sealed c.history))

  -- nothing was written, since memory ran out
  pub writes_nothing : WritesAll c NoMemory before before
  writes_nothing = record { front = none_written before (lines ++ graph); failed = λ failed. ((λ is. cc), none_written before lines); fault = λ is. absurd is; whole = λ is. cc }

  -- an error came among the lines
  pub writes_part : (e : WriteError) (after : List ℕ) → WroteFront before lines after → WritesAll c (write_status e) before after
  writes_part writing.NoMemory after front = record { front = front_more before lines graph after front; failed = λ failed. ((λ is. cc), front); fault = λ is. absurd is; whole = λ is. cc }
  writes_part writing.SinkFailed after front = record { front = front_more before lines graph after front; failed = λ failed. ((λ is. cc), front); fault = λ is. absurd is; whole = λ is. cc }

  -- the disk had failed
  pub writes_lines : (after : List ℕ) → after ≡ before ++ lines → WritesAll c DiskFault before after
  writes_lines after all =
      let front = whole_front before lines after all in
      record { front = front_more before lines graph after front; failed = λ failed. ((λ is. cc), front); fault = λ is. all; whole = λ is. cc }

  -- the graph was to be written after the lines
  pub writes_graph : (r : Result (Unit {0}) WriteError) (between after : List ℕ) → between ≡ before ++ lines → (account c.history).failed ≡ None → WroteText r between graph after → WritesAll c (status_after r) before after
  writes_graph r between after all unfailed wrote = record {
    front = then_front before lines graph between after all (wrote_some r between graph after wrote);
    failed = λ failed. absurd (failed unfailed);
    fault = λ is. absurd (written_sound r is);
    whole = λ is. whole_text before lines graph between after all (wrote_all r between graph after is wrote);
  }
    where
      whole_text : (before first second between after : List ℕ) → between ≡ before ++ first → after ≡ between ++ second → after ≡ before ++ (first ++ second)
      whole_text before first second between after one two = two ∙ ap (λ (l : List ℕ). l ++ second) one ∙ append_assoc before first second
