-- How answers continue.
use Rattle.std.proofs.Common.{◌≡◌, ℕ, ◌+◌, Bool, List, [], ◌∷◌, ◌++◌, length, map, Option, Some, None, Ok, refl, sym, ap, ◌∙◌, subst, arith, append_assoc}
use Rattle.std.specs.Prelude.{IsTrue, ◌≢◌}
use Rattle.std.specs.List.{AllByRecursion}
use Rattle.std.proofs.lemmas.Grind.{flat_map-append}
use Rattle.std.proofs.lemmas.List.{append-nil, append_cancel_left}
use Rattle.disk_model.specs.declared.disk.Disk.{Ghosts}
use Rattle.graph_model.specs.declared.event.Event.{Event}
use Rattle.graph_model.specs.declared.reply.Entry.{Entry}
use Rattle.graph_model.specs.History.{IsOfSession}
use Rattle.log_machine.proofs.ListLaws.{AllByRecursion-append}
use Rattle.heap_core.specs.declared.heap.Heap.{Heap}
use Rattle.heap_model.specs.Core.{Core, IsRun}
use Rattle.heap_model.specs.CoreRuns.{after_events}
use Rattle.heap_model.specs.Ending.{ending}
use Rattle.heap_model.proofs.Run.Calls.{step_history}
use Rattle.heap_model.proofs.Step.Calls.{after_events-append, whole_run}
use Rattle.heap_program.specs.Play.{MadeAll, PlaysCore, lines_text}
use Rattle.script_text.specs.declared.line.Line.{Line}
use Rattle.script_text.specs.Line.{read_text}
use Rattle.script_text.proofs.ScriptLaws.{text_sessions}
use Rattle.session_program.specs.Lines.{reopen_line, Answered, IsOfItsEvents, asked, heard_of, answers_text, named, found_events, fault_of}
use Rattle.session_program.specs.Session.{HasAnswered, Answers, MayRefuse, RefusesReopens}

found_sessions : (text : List ℕ) (found : Option Line) → read_text text ≡ found → AllByRecursion IsOfSession (found_events found)
found_sessions text None is = tt
found_sessions text (Some line) is = text_sessions text line is

-- the events that a line names are of sessions
pub named_sessions : (text : Option (List ℕ)) → AllByRecursion IsOfSession (named text)
named_sessions None = tt
named_sessions (Some []) = tt
named_sessions (Some (b ∷ text)) = found_sessions (b ∷ text) (read_text (b ∷ text)) refl

pub asked_sessions : (answered : List Answered) → AllByRecursion IsOfSession (asked answered)
asked_sessions [] = tt
asked_sessions (a ∷ answered) = AllByRecursion-append IsOfSession (named a.text) (asked answered) (named_sessions a.text) (asked_sessions answered)

-- the entries of a run are of its events
run_heard : (c d : Core) (events : List Event) → IsRun c events d → (heard : List Entry) × (d.history ≡ c.history ++ heard) × (map (λ e. e.event) heard ≡ events)
run_heard c d [] run = ([], ap (λ (x : Core). x.history) run ∙ sym (append-nil c.history), refl)
run_heard c d (event ∷ events) run =
    let entry : Entry = record { event = event; reply = run.0 } in
    let rest = run_heard run.1 d events run.3 in (
      entry ∷ rest.0,
      rest.1 ∙ ap (λ (l : List Entry). l ++ rest.0) (step_history c run.1 event run.0 run.2) ∙ append_assoc c.history (entry ∷ []) rest.0,
      ap (λ (l : List Event). event ∷ l) rest.2,
    )

-- one more line
pub asked_more : (answered : List Answered) (a : Answered) → asked (answered ++ a ∷ []) ≡ asked answered ++ named a.text
asked_more answered a = flat_map-append (λ (x : Answered). named x.text) answered (a ∷ []) ∙ ap (λ (l : List Event). asked answered ++ l) (append-nil (named a.text))

heard_more : (answered : List Answered) (a : Answered) → heard_of (answered ++ a ∷ []) ≡ heard_of answered ++ a.heard
heard_more answered a = flat_map-append (λ (x : Answered). x.heard) answered (a ∷ []) ∙ ap (λ (l : List Entry). heard_of answered ++ l) (append-nil a.heard)

answers_more : (n m : ℕ) (answered : List Answered) (a : Answered) → m ≡ n + length answered → answers_text n (answered ++ a ∷ []) ≡ answers_text n answered ++ (fault_of m a.text ++ lines_text a.heard)
answers_more n m [] a is =
    let same : n ≡ m = omega arith in
    append-nil (fault_of n a.text ++ lines_text a.heard) ∙ ap (λ (k : ℕ). fault_of k a.text ++ lines_text a.heard) same
answers_more n m (x ∷ answered) a is =
    ap (λ (l : List ℕ). (fault_of n x.text ++ lines_text x.heard) ++ l) (answers_more (n + 1) m answered a (omega arith))
    ∙ sym (append_assoc (fault_of n x.text ++ lines_text x.heard) (answers_text (n + 1) answered) (fault_of m a.text ++ lines_text a.heard))

pub texts_more : (answered : List Answered) (a : Answered) → map (λ (x : Answered). x.text) (answered ++ a ∷ []) ≡ map (λ (x : Answered). x.text) answered ++ a.text ∷ []
texts_more [] a = refl
texts_more (x ∷ answered) a = ap (λ (l : List (Option (List ℕ))). x.text ∷ l) (texts_more answered a)

-- where all events were made they were those that were asked
pub whole_made : {D : Type 0} {g : Ghosts D} (c : Core) (events : List Event) (new : Heap D g) (told : Bool) (before after : List ℕ) → (plays : PlaysCore c events new told before after (Ok tt)) → MadeAll c events plays.core
whole_made c events new told before after plays =
    let same : events ≡ plays.made = plays.parts ∙ ap (λ (l : List Event). plays.made ++ l) plays.ends.0 ∙ append-nil plays.made in
    subst (λ (l : List Event). MadeAll c l plays.core) (sym same) plays.ends.1

-- a line that was not let part the session
pub may_refuse : (c : Core) (now text : List ℕ) → now ≡ text → (now ≡ reopen_line → ending c ≢ []) → MayRefuse c (Some text)
may_refuse c now text same busy is = let e : text ≡ reopen_line = cc is in busy (same ∙ e)

refused_more : (c : Core) (answered : List Answered) (a : Answered) → RefusesReopens c answered → MayRefuse (after_events c (asked answered)) a.text → RefusesReopens c (answered ++ a ∷ [])
refused_more c [] a before may = (may, tt)
refused_more c (x ∷ answered) a before may = (before.0, refused_more (after_events c (named x.text)) answered a before.1 (subst (λ (d : Core). MayRefuse d a.text) (after_events-append c (named x.text) (asked answered)) may))

-- nothing was answered
pub answered_none : (c : Core) (told : Bool) (before : List ℕ) → HasAnswered c [] c told before before
answered_none c told before = record { made = refl; heard = sym (append-nil c.history); own = tt; refused = tt; written = λ t. sym (append-nil before) }

-- One more line was answered.
module _ {D : Type 0} {g : Ghosts D} (c d : Core) (answered : List Answered) (told : Bool) (before between after : List ℕ) (so_far : HasAnswered c answered d told before between)
    (number : ℕ) (count : number ≡ length answered + 1) (text : Option (List ℕ)) (new : Heap D g) (answers : Answers d number text new told between after (Ok tt)) where
  abbrev plays : PlaysCore d (named text) new told answers.between after (Ok tt)
  plays = answers.plays

  pub whole : MadeAll d (named text) plays.core
  whole = whole_made d (named text) new told answers.between after plays

  pub run : (heard : List Entry) × (plays.core.history ≡ d.history ++ heard) × (map (λ e. e.event) heard ≡ named text)
  run = run_heard d plays.core (named text) (subst (IsRun d (named text)) (sym whole) (whole_run d (named text)))

  abbrev pub its : Answered
  its = record { text = text; heard = run.0 }

  abbrev own_text : List ℕ
  own_text = fault_of number text ++ lines_text run.0

  wrote : IsTrue told → after ≡ between ++ own_text
  wrote t =
      let lines = plays.written t in
      let same : lines.0 ≡ run.0 = append_cancel_left d.history lines.0 run.0 (sym lines.1 ∙ run.1) in
      lines.2 ∙ ap (λ (l : List Entry). answers.between ++ lines_text l) same ∙ ap (λ (l : List ℕ). l ++ lines_text run.0) (answers.fault t) ∙ append_assoc between (fault_of number text) (lines_text run.0)

  pub answered_next : MayRefuse d text → HasAnswered c (answered ++ its ∷ []) plays.core told before after
  answered_next may = record {
    made = whole ∙ ap (λ (x : Core). after_events x (named text)) so_far.made ∙ sym (after_events-append c (asked answered) (named text)) ∙ ap (after_events c) (sym (asked_more answered its));
    heard = run.1 ∙ ap (λ (l : List Entry). l ++ run.0) so_far.heard ∙ append_assoc c.history (heard_of answered) run.0 ∙ ap (λ (l : List Entry). c.history ++ l) (sym (heard_more answered its));
    own = AllByRecursion-append IsOfItsEvents answered (its ∷ []) so_far.own (run.2, tt);
    refused = refused_more c answered its so_far.refused (subst (λ (x : Core). MayRefuse x text) so_far.made may);
    written = λ t.
        wrote t ∙ ap (λ (l : List ℕ). l ++ own_text) (so_far.written t) ∙ append_assoc before (answers_text 1 answered) own_text
        ∙ ap (λ (l : List ℕ). before ++ l) (sym (answers_more 1 number answered its (omega arith)));
  }
