-- What is written of the lines of a history, and of the text after them.
use Rattle.std.proofs.Common.{◌≡◌, ◌⊎◌, inl, inr, ℕ, List, [], ◌∷◌, ◌++◌, Result, Ok, Err, refl, sym, ap, ◌∙◌, subst, arith, append_assoc}
use Rattle.std.proofs.lemmas.Grind.{flat_map-append}
use Rattle.std.proofs.lemmas.List.{append-nil}
use Rattle.graph_model.specs.declared.event.Event.{Event}
use Rattle.graph_model.specs.declared.reply.Entry.{Entry}
use Rattle.graph_model.specs.declared.reply.Refusal.TheVariants.{DiskFault, Stopped}
use Rattle.graph_model.specs.declared.reply.Reply.{Reply}
use Rattle.graph_model.specs.declared.reply.Reply.TheVariants.{Refused}
use Rattle.graph_model.specs.Text.{line}
use Rattle.heap_program.specs.declared.output.WriteError.{WriteError}
use Rattle.heap_program.specs.declared.output.WriteError.TheVariants as writing
use Rattle.heap_program.specs.declared.play.Halt.{Halt}
use Rattle.heap_program.specs.declared.play.Halt.TheVariants as halt
use Rattle.heap_program.specs.declared.status.Status.{Status}
use Rattle.heap_program.specs.declared.status.Status.TheVariants as status
use Rattle.heap_program.specs.Headline.{IsOfDisk, Writes}
use Rattle.heap_program.specs.Play.{lines_text, ended_by, Wrote, WroteFront, WroteLines}
use Rattle.heap_program.specs.StatusOf.{halt_status, write_halt}
use Rattle.heap_program.proofs.Written.{front_more, then_front, whole_front}

-- What a play wrote since another state of the history: the lines of the entries that came after it.
abbrev pub WroteSince : Result (Unit {0}) Halt → List Entry → List Entry → List ℕ → List ℕ → Type 0
WroteSince result old now before after = (heard : List Entry) × (now ≡ old ++ heard) × Wrote result before heard after

-- nothing was made
pub none_since : (history : List Entry) (before : List ℕ) → WroteSince (Ok tt) history history before before
none_since history before = ([], sym (append-nil history), sym (append-nil before))

-- and memory ran out
pub nothing_since : (history : List Entry) (before : List ℕ) → WroteSince (Err halt.NoMemory) history history before before
nothing_since history before =
    let front : WroteFront before [] before = ([], [], refl, sym (append-nil before)) in
    let lines : WroteLines before [] before = ([], [], [], refl, omega arith, sym (append-nil (before ++ []) ∙ append-nil before)) in
    ([], sym (append-nil history), (front, lines))

-- one event was made
module _ (old now : List Entry) (event : Event) (reply : Reply) (before after : List ℕ) (made : now ≡ old ++ record { event = event; reply = reply } ∷ []) where
  abbrev entry : Entry
  entry = record { event = event; reply = reply }

  one_text : lines_text (entry ∷ []) ≡ line entry
  one_text = append-nil (line entry)

  whole_line : (r : Reply) → after ≡ before ++ lines_text (entry ∷ []) → Wrote (ended_by r) before (entry ∷ []) after
  whole_line (Refused DiskFault) out = out
  whole_line (Refused Stopped) out = out
  whole_line r out = out

  -- its line was written
  pub one_since : after ≡ before ++ line entry → WroteSince (ended_by reply) old now before after
  one_since out = (entry ∷ [], made, whole_line reply (out ∙ ap (λ (l : List ℕ). before ++ l) (sym one_text)))

  some_line : (e : WriteError) → WroteFront before (lines_text (entry ∷ [])) after × WroteLines before (entry ∷ []) after → Wrote (Err (write_halt e)) before (entry ∷ []) after
  some_line writing.NoMemory some = some
  some_line writing.SinkFailed some = some

  -- or a prefix of it
  pub part_since : (e : WriteError) → WroteFront before (line entry) after → WroteSince (Err (write_halt e)) old now before after
  part_since e part =
      let front : WroteFront before (lines_text (entry ∷ [])) after = (part.0, part.1, one_text ∙ part.2, part.3) in
      let lines : WroteLines before (entry ∷ []) after = ([], entry ∷ [], part.0, refl, omega arith, part.3 ∙ ap (λ (l : List ℕ). l ++ part.0) (sym (append-nil before))) in
      (entry ∷ [], made, some_line e (front, lines))

-- More was written after the lines of a play that ended well.
module _ (first second : List Entry) (before between after : List ℕ) (out : between ≡ before ++ lines_text first) where
  both_text : lines_text (first ++ second) ≡ lines_text first ++ lines_text second
  both_text = flat_map-append line first second

  whole_then : after ≡ between ++ lines_text second → after ≡ before ++ lines_text (first ++ second)
  whole_then more = more ∙ ap (λ (l : List ℕ). l ++ lines_text second) out ∙ append_assoc before (lines_text first) (lines_text second) ∙ ap (λ (l : List ℕ). before ++ l) (sym both_text)

  part_then : WroteFront between (lines_text second) after × WroteLines between second after → WroteFront before (lines_text (first ++ second)) after × WroteLines before (first ++ second) after
  part_then more =
      let front = then_front before (lines_text first) (lines_text second) between after out more.0 in
      let w = more.1 in
      let text : before ++ lines_text (first ++ w.0) ≡ between ++ lines_text w.0 =
      ap (λ (l : List ℕ). before ++ l) (flat_map-append line first w.0) ∙ sym (append_assoc before (lines_text first) (lines_text w.0)) ∙ ap (λ (l : List ℕ). l ++ lines_text w.0) (sym out) in
      let lines : WroteLines before (first ++ second) after = (
        first ++ w.0,
        w.1,
        w.2,
        ap (λ (l : List Entry). first ++ l) w.3 ∙ sym (append_assoc first w.0 w.1),
        w.4,
        w.5 ∙ ap (λ (l : List ℕ). l ++ w.2) (sym text),
      ) in
      (subst (λ (l : List ℕ). WroteFront before l after) (sym both_text) front, lines)

  pub wrote_behind : (r : Result (Unit {0}) Halt) → Wrote r between second after → Wrote r before (first ++ second) after
  wrote_behind (Ok done) more = whole_then more
  wrote_behind (Err halt.Stopped) more = whole_then more
  wrote_behind (Err halt.DiskFault) more = whole_then more
  wrote_behind (Err halt.NoMemory) more = part_then more
  wrote_behind (Err halt.WriteFault) more = part_then more

-- A whole play, and then another.
pub then_since : (result : Result (Unit {0}) Halt) (old mid now : List Entry) (before between after : List ℕ) → WroteSince (Ok tt) old mid before between → WroteSince result mid now between after
    → WroteSince result old now before after
then_since result old mid now before between after one two = (
  one.0 ++ two.0,
  two.1 ∙ ap (λ (l : List Entry). l ++ two.0) one.1 ∙ append_assoc old one.0 two.0,
  wrote_behind one.0 two.0 before between after one.2 result two.2,
)

-- Since the history was empty all of its lines were written.
pub all_since : (result : Result (Unit {0}) Halt) (old now : List Entry) (before after : List ℕ) → old ≡ [] → WroteSince result old now before after → Wrote result before now after
all_since result old now before after none wrote =
    let same : wrote.0 ≡ now = sym (wrote.1 ∙ ap (λ (l : List Entry). l ++ wrote.0) none) in
    subst (λ (l : List Entry). Wrote result before l after) same wrote.2

module _ (history : List Entry) (before after : List ℕ) where
  -- all lines, and what was written after them
  pub lines_more : (after' rest : List ℕ) → after ≡ before ++ lines_text history → after' ≡ after ++ rest → WroteLines before history after'
  lines_more after' rest out more = (history, [], rest, sym (append-nil history), omega arith, more ∙ ap (λ (l : List ℕ). l ++ rest) out)

  pub all_part : after ≡ before ++ lines_text history → WroteFront before (lines_text history) after × WroteLines before history after
  all_part out = (whole_front before (lines_text history) after out, lines_more after [] out (sym (append-nil after)))

  -- what was written of the lines by a play that halted
  pub halt_part : (h : Halt) → Wrote (Err h) before history after → WroteFront before (lines_text history) after × WroteLines before history after
  halt_part halt.NoMemory wrote = wrote
  halt_part halt.WriteFault wrote = wrote
  halt_part halt.DiskFault wrote = all_part wrote
  halt_part halt.Stopped wrote = all_part wrote

  -- all of them, if it was the disk
  pub halt_lines : (h : Halt) → Wrote (Err h) before history after → IsOfDisk (halt_status h) → after ≡ before ++ lines_text history
  halt_lines halt.NoMemory wrote fault = absurd fault
  halt_lines halt.WriteFault wrote fault = absurd fault
  halt_lines halt.DiskFault wrote fault = wrote
  halt_lines halt.Stopped wrote fault = wrote

  -- or if it continued
  pub stopped_lines : (r : Result (Unit {0}) Halt) → (r ≡ Ok tt) ⊎ (r ≡ Err halt.Stopped) → Wrote r before history after → after ≡ before ++ lines_text history
  stopped_lines (Ok done) ended wrote = wrote
  stopped_lines (Err halt.Stopped) ended wrote = wrote
  stopped_lines (Err halt.DiskFault) ended wrote = wrote
  stopped_lines (Err halt.NoMemory) (inl is) wrote = cc
  stopped_lines (Err halt.NoMemory) (inr is) wrote = cc
  stopped_lines (Err halt.WriteFault) (inl is) wrote = cc
  stopped_lines (Err halt.WriteFault) (inr is) wrote = cc

  -- what was written of lines alone, as a prefix of the output
  pub some_writes : (by : Status) (text after' : List ℕ) → (by ≡ status.Done → ⊥) → WroteFront before (lines_text history) after' → WroteLines before history after' → (IsOfDisk by → after' ≡ before ++ lines_text history)
      → Writes by history text before after'
  some_writes by text after' not_done front lines whole = record {
    front = front_more before (lines_text history) text after' front;
    lines = lines;
    fault = whole;
    whole = λ is. absurd (not_done is);
  }

  -- all lines were written, and of the text after them all or a prefix
  pub all_writes : (by : Status) (text after' : List ℕ) → (IsOfDisk by → ⊥) → after ≡ before ++ lines_text history → WroteFront after text after' → (by ≡ status.Done → after' ≡ after ++ text) → Writes by history text before after'
  all_writes by text after' sound out front whole = record {
    front = then_front before (lines_text history) text after after' out front;
    lines = lines_more after' front.0 out front.3;
    fault = λ is. absurd (sound is);
    whole = λ is. whole is ∙ ap (λ (l : List ℕ). l ++ text) out ∙ append_assoc before (lines_text history) text;
  }
