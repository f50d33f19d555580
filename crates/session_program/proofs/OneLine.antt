-- One line is answered.
use Rattle.std.proofs.Common.{◌≡◌, inl, ℕ, ◌<◌, Bool, false, List, [], ◌∷◌, ◌++◌, length, Option, Some, Result, Ok, Err, refl, sym, ap, ◌∙◌, subst, arith}
use Rattle.std.specs.Prelude.{IsTrue, ◌==◌, IsErr, IsErrAnd, IsFalse, bytes_eq}
use Rattle.std.proofs.lemmas.List.{append-nil}
use Rattle.disk_model.specs.declared.disk.Disk.{Ghosts}
use Rattle.graph_model.specs.declared.event.Event.{Event}
use Rattle.graph_model.specs.declared.reply.Entry.{Entry}
use Rattle.heap_core.specs.declared.heap.Heap.{Heap}
use Rattle.heap_core.specs.Refinement.{IsCore}
use Rattle.heap_model.specs.Core.{Core}
use Rattle.heap_program.specs.declared.output.WriteError.{WriteError}
use Rattle.heap_program.specs.declared.output.WriteError.TheVariants as writing
use Rattle.heap_program.specs.declared.play.Halt.{Halt}
use Rattle.heap_program.specs.declared.play.Halt.TheVariants as halt
use Rattle.heap_program.specs.Play.{PlaysCore, WroteFront, WroteLines}
use Rattle.heap_program.specs.StatusOf.{write_halt}
use Rattle.heap_program.proofs.Lines.{WroteSince}
use Rattle.heap_program.proofs.PlayCore.{core_none, core_nothing}
use Rattle.heap_program.proofs.Written.{none_written}
use Rattle.script_text.specs.declared.line.Line.{Line}
use Rattle.script_text.specs.Line.{read_text, line_events}
use Rattle.session_program.specs.Lines.{named, fault_of, fault_line, found_events, found_fault, said_against, reopen_line, unfinished_line}
use Rattle.session_program.specs.Session.{Answers, Wrote}

-- what is made of an error
pub error_is : {T E : Type 0} (r : Result T E) (e : E) → IsErr r → IsErrAnd r (λ x. x ≡ e) → r ≡ Err e
error_is (Ok t) e failed is = absurd is
error_is (Err x) e failed is = ap (λ y. Err y) is

-- what is said against a `reopen`, and against another line
pub said_reopen : (number : ℕ) (text : List ℕ) (asked : Bool) → asked ≡ bytes_eq text reopen_line → IsTrue asked → said_against number text ≡ unfinished_line
said_reopen number text asked is so = rw (sym is ∙ so) refl

-- a text of some bytes
pub some_text : (text : List ℕ) → (length text == 0) ≡ false → 0 < length text
some_text [] e = absurd (cc e)
some_text (b ∷ text) e = omega arith

pub empty_text : (text : List ℕ) → length text ≡ 0 → text ≡ []
empty_text [] is = refl
empty_text (b ∷ text) is = absurd (omega arith)

-- what a text names, by what was found in it
pub names : (text : List ℕ) (found : Option Line) → 0 < length text → read_text text ≡ found → named (Some text) ≡ found_events found
names [] found some is = absurd (omega arith)
names (b ∷ text) found some is = ap found_events is

pub faults : (number : ℕ) (text : List ℕ) (found : Option Line) → 0 < length text → read_text text ≡ found → fault_of number (Some text) ≡ found_fault number text found
faults number [] found some is = absurd (omega arith)
faults number (b ∷ text) found some is = ap (found_fault number (b ∷ text)) is

pub wrote_none : (result : Result (Unit {0}) Halt) (before text : List ℕ) → text ≡ [] → Wrote result before text before
wrote_none (Ok done) before text none = sym (ap (λ (l : List ℕ). before ++ l) none ∙ append-nil before)
wrote_none (Err h) before text none = none_written before text

-- nothing was made, and the sink failed
pub stops_since : (history : List Entry) (before : List ℕ) → WroteSince (Err halt.WriteFault) history history before before
stops_since history before =
    let front : WroteFront before [] before = ([], [], refl, sym (append-nil before)) in
    let lines : WroteLines before [] before = ([], [], [], refl, omega arith, sym (append-nil (before ++ []) ∙ append-nil before)) in
    ([], sym (append-nil history), (front, lines))

module _ {D : Type 0} {g : Ghosts D} (c : Core) where
  -- the sink failed before any event was made
  core_stops : (heap : Heap D g) (told : Bool) (before : List ℕ) (e : WriteError) → IsCore c heap → PlaysCore c [] heap told before before (Err (write_halt e))
  core_stops heap told before writing.NoMemory is = core_nothing c [] heap told before is
  core_stops heap told before writing.SinkFailed is = record {
    made = [];
    behind = [];
    parts = refl;
    core = c;
    run = refl;
    ends = inl refl;
    is = is;
    written = λ t. stops_since c.history before;
  }

  module _ (number : ℕ) (text : Option (List ℕ)) (heap : Heap D g) (told : Bool) (before after : List ℕ) where
    -- its events were played
    pub line_played : (line : Line) (result : Result (Unit {0}) Halt) → named text ≡ line_events line → fault_of number text ≡ [] → PlaysCore c (line_events line) heap told before after result
        → Answers c number text heap told before after result
    line_played line result names none plays = record {
      between = before;
      fault = λ t. wrote_none result before (fault_of number text) none;
      plays = subst (λ (l : List Event). PlaysCore c l heap told before after result) (sym names) plays;
    }

    module _ (is : IsCore c heap) where
      -- memory ran out
      pub line_nothing : Answers c number text heap told before before (Err halt.NoMemory)
      line_nothing = record { between = before; fault = λ t. none_written before (fault_of number text); plays = core_nothing c (named text) heap told before is }

      module _ (none : named text ≡ []) where
        -- an empty line
        pub line_empty : fault_of number text ≡ [] → Answers c number text heap told before before (Ok tt)
        line_empty quiet = record {
          between = before;
          fault = λ t. wrote_none (Ok tt) before (fault_of number text) quiet;
          plays = subst (λ (l : List Event). PlaysCore c l heap told before before (Ok tt)) (sym none) (core_none c heap told before is);
        }

        module _ (said : List ℕ) (fault : fault_of number text ≡ said) where
          -- one that is not in the grammar, or too long
          pub line_refused : (IsTrue told → after ≡ before ++ said) → Answers c number text heap told before after (Ok tt)
          line_refused wrote = record {
            between = after;
            fault = λ t. wrote t ∙ ap (λ (l : List ℕ). before ++ l) (sym fault);
            plays = subst (λ (l : List Event). PlaysCore c l heap told after after (Ok tt)) (sym none) (core_none c heap told after is);
          }

          -- and that was not wholly written
          pub line_part : (e : WriteError) → (IsTrue told → WroteFront before said after) → Answers c number text heap told before after (Err (write_halt e))
          line_part e wrote = record {
            between = after;
            fault = λ t. subst (λ (l : List ℕ). WroteFront before l after) (sym fault) (wrote t);
            plays = subst (λ (l : List Event). PlaysCore c l heap told after after (Err (write_halt e))) (sym none) (core_stops heap told after e is);
          }
