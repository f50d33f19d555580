-- Records that encode a graph are a shaped log, and a legal one that says it where births give the names.
use Rattle.std.proofs.Common.{◌≡◌, ℕ, ◌+◌, ◌≤◌, Bool, List, length, Option, refl, sym, ap, ◌∙◌, subst, arith}
use Rattle.std.specs.Prelude.{IsTrue}
use Rattle.graph_model.specs.Graph.{Graph}
use Rattle.image_plan.specs.Super.{IsSuper}
use Rattle.log_machine.specs.declared.UndoEntry.{UndoEntry}
use Rattle.log_machine.specs.Machine.{State, all_taken_back, each_taken_back, losing, losing_in, reserve, taken_back}
use Rattle.log_machine.proofs.WordsLaws.{length-first_contents}
use Rattle.gated_log.specs.Log.{batches_bytes}
use Rattle.page_redo.specs.Prefix.{EachHoldsPrefix}
use Rattle.page_redo.specs.Redo.{words_from}
use Rattle.page_redo.proofs.PrefixLaws.{redone-words}
use Rattle.page_redo.proofs.RedoLaws.{EachLacks-prefixes}
use Rattle.graph_words.specs.Places.{Places}
use Rattle.collection_words.specs.Completed.{StandsCompleted}
use Rattle.collection_words.specs.Writes.{AreBacked}
use Rattle.collection_words.proofs.Laid.TakenBack.{each_taken_back-list}
use Rattle.walk_laws.specs.Heap.{AreSpaces, HoldsBorn, HoldsGraph, TellsBirths}
use Rattle.walk_laws.proofs.Birth.Born.{named_born}
use Rattle.walk_laws.proofs.Birth.TakenBack.{births_back}
use Rattle.walk_laws.proofs.Graph.Beside.{heap_walked}
use Rattle.walk_laws.proofs.Graph.TakenBack.{held_back, spaces_back}
use Rattle.seen_laws.proofs.Births.{completed_old}
use Rattle.seen_laws.proofs.States.{backed_all, sealed_stands, writes_of_all}
use Rattle.heap_model.specs.Bits.{AreOf64Bits}
use Rattle.heap_model.specs.CoreTold.{IsTold}
use Rattle.heap_model.proofs.Step.Bits.{fit_back}
use Rattle.heap_model.proofs.Opening.Found.{born_seen}
use Rattle.heap_model.specs.Image.{StoredHeap, origin_of, redone_words, words_of, IsShapedLog, IsLegalLog, Says, records_in}

-- Records and the words that they leave from the log's origin on encode a graph, and each page that is stored beside them holds those up to
-- its LSN.
module _ (stored : StoredHeap) (born : Bool) (places remaining : Places) (g : Graph) (k : ℕ) (now : List ℕ) (state : State) (limits : IsSuper stored.super)
    (told : IsTold (origin_of stored).state born places remaining g k (records_in stored) now state) (logged : now ≡ words_from (origin_of stored) (records_in stored))
    (prefixes : EachHoldsPrefix (origin_of stored) (records_in stored) stored.pages) (room : length (batches_bytes stored.batches) + 1 + reserve state ≤ stored.super.log_bytes) where
  -- redone on these pages they leave the same words
  told_redone : redone_words stored ≡ now
  told_redone = redone-words (origin_of stored) (length-first_contents stored.super.pages) (records_in stored) stored.pages prefixes ∙ sym logged

  told_words : words_of stored ≡ all_taken_back state now
  told_words = ap (λ (o : Option State). each_taken_back (losing_in o) (redone_words stored)) told.reached ∙ ap (all_taken_back state) told_redone

  -- they are taken back as one list
  abbrev back : List UndoEntry
  back = writes_of_all (losing state)

  pub told_back : words_of stored ≡ taken_back back now
  told_back = told_words ∙ each_taken_back-list (losing state) now

  told_spaces : AreSpaces state now
  told_spaces = record { spaced = told.heap.spaced; long = told.heap.long; small = told.heap.small }

  pub told_backed : AreBacked places now back
  told_backed = backed_all state places now told.backed

  told_completed : StandsCompleted 0 0 places remaining g back now state
  told_completed = sealed_stands state places remaining now told.stands

  -- so they are words of both spaces, in which the graph stands
  pub told_long : AreSpaces state (words_of stored)
  told_long = subst (λ (ws : List ℕ). AreSpaces state ws) (sym told_back) (spaces_back state now back told_spaces)

  pub told_holds : HoldsGraph state places remaining (words_of stored) g
  told_holds =
      subst (λ (ws : List ℕ). HoldsGraph state places remaining ws g) (sym told_back)
      (held_back state places remaining now back g told_spaces told.heap.laid told_backed told_completed state.collection refl)

  -- under the names of births where it did so before
  pub told_born : IsTrue born → HoldsBorn state state.next places remaining (words_of stored) g
  told_born by_birth = record {
    holds = told_holds;
    old = (completed_old state.next state places remaining now).0 told.old;
    tells = subst (λ (ws : List ℕ). TellsBirths state places remaining ws) (sym told_back) (births_back state places remaining now back told_spaces told.heap.laid told_backed (told.births by_birth));
  }

  -- the records are a shaped log
  abbrev pub told_shaped : IsShapedLog stored
  told_shaped = record {
    limits = limits;
    good = told.good;
    state = state;
    reached = told.reached;
    room = room;
    size = prefixes.size;
    lsns_size = prefixes.lsns_size;
    fit = subst AreOf64Bits (sym told_back) (fit_back places now now back told.fit told_backed);
    behind = EachLacks-prefixes (origin_of stored) (records_in stored) stored.pages (omega arith) prefixes;
    walked = heap_walked state places remaining (words_of stored) g told_long told_holds;
  }

  -- a legal one where births give the names
  abbrev pub told_legal : IsTrue born → IsLegalLog stored
  told_legal by_birth = record {
    shaped = told_shaped;
    prefixes = prefixes;
    births = named_born state state.next places remaining (words_of stored) g told_long (told_born by_birth) state.collection refl told_shaped.walked;
  }

  -- and the log says the graph
  pub told_says : IsTrue born → Says g k stored
  told_says by_birth = record { legal = told_legal by_birth; seen = g; shows = born_seen told_long (told_born by_birth); graph = refl; count = told.count }
