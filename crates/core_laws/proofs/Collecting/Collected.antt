-- The end of a collection: nothing is gray, what remains goes, and the core agrees with its history.
use Rattle.std.proofs.Common.{◌≡◌, ℕ, ◌+◌, List, [], ◌∷◌, Option, Some, None, refl, sym, ap, ◌∙◌, subst}
use Rattle.std.specs.FinMap.{entries, remove}
use Rattle.std.specs.FinSet.{len}
use Rattle.std.proofs.lemmas.List.{append-nil}
use Rattle.graph_model.specs.Transaction.{Transaction, serial}
use Rattle.graph_model.specs.History.{Account}
use Rattle.graph_model.specs.Locking.{locks_of}
use Rattle.graph_model.specs.Plain.{view}
use Rattle.heap_spaces.specs.Collection.{Collection}
use Rattle.log_records.specs.declared.Record.TheVariants.{Collected}
use Rattle.log_machine.specs.Collecting.{collecting_after}
use Rattle.log_machine.specs.Machine.{State, after_all, losing, owed}
use Rattle.log_machine.specs.Sound.{IsConsistent}
use Rattle.log_machine.proofs.CollectingLaws.{consistent_collecting}
use Rattle.graph_words.specs.Places.{Places, address_of}
use Rattle.graph_words.specs.Stands.{Stands, StandsCommitted}
use Rattle.collection_words.specs.Completed.{completed, completed_places}
use Rattle.collection_words.proofs.Laid.Sources.{IsCollecting}
use Rattle.collection_words.proofs.Laid.TakenBack.{each_taken_back-list}
use Rattle.collection_words.proofs.Laid.Underway.{underway}
use Rattle.collection_words.proofs.Steps.Collected.{collected_laid, collected_row, collected_stands, collected_state}
use Rattle.walk_laws.proofs.Birth.Scanned.{ended_births}
use Rattle.seen_laws.proofs.States.{backed_all, backed_others, others, sealed_stands, viewed_stands, writes_of_all}
use Rattle.heap_model.specs.Core.{Core, all_words, moved}
use Rattle.heap_model.proofs.Step.Goes.{told_sound}
use Rattle.core_laws.proofs.Collecting.Carried.{IsCarried, none_parted}
use Rattle.core_laws.proofs.Collecting.Scan.{keeps_still, same_carried}
use Rattle.core_laws.proofs.Collecting.Told.{IsLeft, IsSeen, carried_agrees}
use Rattle.core_laws.proofs.Step.Goes.{words_with}
use Rattle.core_laws.proofs.Step.Granted.{HasRoom}
use Rattle.core_laws.specs.Valid.{Agrees, IsWriter, IsWriting}

module _ (a : Account) (c : Core) (h : Agrees a c) (k : Collection) (run : h.behind.collection ≡ Some k) (black : len k.gray ≡ 0) where
  abbrev s : State
  s = h.behind

  abbrev pub last : State
  last = collected_state s

  is : IsCollecting s k c.places c.remaining (all_words c)
  is = underway (record { run = run; spaced = h.told.heap.spaced; long = h.told.heap.long; small = h.told.heap.small; laid = h.told.heap.laid })

  pub follows : collecting_after s Collected ≡ Some last
  follows = collected_row is black

  consistent : IsConsistent last
  consistent = consistent_collecting s last Collected (record { sound = told_sound h.told; addresses = h.told.heap.small; spaced = h.told.heap.spaced }) follows

  abbrev behind : List ℕ
  behind = words_with c (Collected ∷ [])

  pub carried : IsCarried s last c.places c.remaining c.places []
  carried = record {
    fewer = λ id gone. ap (λ (ps : Places). address_of ps id) (append-nil c.places) ∙ (none_parted c.places c.remaining id gone).0;
    keys = λ q vs there. (vs, there);
    entries = same_carried s last c.places c.places refl (λ id at there. there);
    next = refl;
    commits = refl;
  }

  pub left : IsLeft s last c.born c.places c.remaining c.places [] (serial c.g0 a.sealed) (all_words c) behind
  left =
      let there = collected_stands (writes_of_all (losing s)) is black (backed_all s c.places (all_words c) h.told.backed) (sealed_stands s c.places c.remaining (all_words c) h.told.stands) in
      record {
        heap = record { spaced = consistent.spaced; long = h.told.heap.long; small = h.told.heap.small; laid = collected_laid is black };
        backed = h.told.backed;
        births = λ by_birth tells. ended_births s c.places c.remaining (all_words c) tells;
        stands = subst (λ (ws : List ℕ). StandsCommitted (completed_places last c.places [] behind) (serial c.g0 a.sealed) ws last.base (last.used + owed last))
            (sym (each_taken_back-list (losing last) (completed last c.places [] behind))) there;
      }

  -- what a transaction sees
  seen_of : (t : Transaction) → IsWriting c.places c.remaining (view c.g0 a t) t.number (locks_of (serial c.g0 a.sealed) t) (all_words c) s → IsSeen last c.places [] behind c.g0 a c.places (Some t)
  seen_of t w =
      let v = view c.g0 a t in
      let there = collected_stands (writes_of_all (others s t.number)) is black (backed_others s t.number c.places (all_words c) h.told.backed)
      (viewed_stands s t.number v.made c.places c.remaining (all_words c) w.stands) in (
        keeps_still c.places c.places (λ id at same. same) v t.number (locks_of (serial c.g0 a.sealed) t),
        subst (λ (ws : List ℕ). Stands t.number v.made (completed_places last c.places [] behind) v.graph ws last.base (last.used + owed last))
            (sym (each_taken_back-list (entries (remove last.undo t.number)) (completed last c.places [] behind))) there,
      )

  seen_by : (o : Option Transaction) → IsWriter c.places c.remaining c.g0 a o (all_words c) s → IsSeen last c.places [] behind c.g0 a c.places o
  seen_by None w = tt
  seen_by (Some t) w = seen_of t w

  pub seen : (r : ℕ) → IsSeen last c.places [] behind c.g0 a c.places (a.active r)
  seen r = seen_by (a.active r) (h.writers r)

-- A collection with nothing gray can end. After its record a core agrees with its history as before, and nothing remains, if the record
-- machine lets the record follow as one of a collection, and the log has room for it.
pub collected_agrees : (a : Account) (c : Core) (h : Agrees a c) (k : Collection) → h.behind.collection ≡ Some k → len k.gray ≡ 0
    → after_all h.behind (Collected ∷ []) ≡ collecting_after h.behind Collected → HasRoom c (Collected ∷ []) a → Agrees a (moved c (Collected ∷ []))
collected_agrees a c h k run black row room =
    carried_agrees a c h (last a c h k run black) c.places [] (Collected ∷ []) (tt, tt) (row ∙ follows a c h k run black) (carried a c h k run black) (left a c h k run black) (seen a c h k run black) room
