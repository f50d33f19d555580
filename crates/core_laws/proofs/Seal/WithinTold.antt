-- All records encode what a seal leaves while a collection runs.
use Rattle.std.proofs.Common.{◌≡◌, ℕ, ◌+◌, List, [], ◌∷◌, ◌++◌, length, Some, ◌∙◌, subst, arith}
use Rattle.heap_spaces.specs.Collection.{Collection}
use Rattle.graph_model.specs.declared.id.Id.{Id}
use Rattle.graph_model.specs.Transaction.{Transaction, View}
use Rattle.graph_model.specs.History.{Account}
use Rattle.graph_model.specs.Plain.{view}
use Rattle.commit_order.specs.Heard.{Heard}
use Rattle.commit_order.proofs.OrderLaws.{IsOrdered}
use Rattle.log_records.specs.Record.{IsRecord}
use Rattle.log_machine.specs.Machine.{owed}
use Rattle.log_machine.proofs.ListLaws.{AllByRecursion-append, AllByRecursion-behind, AllByRecursion-front}
use Rattle.log_machine.proofs.MachineLaws.{after_all-append2}
use Rattle.log_machine.proofs.MapLaws.{each_remove}
use Rattle.graph_words.specs.Places.{AreOld, IsOld, Places}
use Rattle.graph_words.specs.Promotion.{moves_of, promoted_need, promoted_places, seal_records}
use Rattle.graph_words.specs.Stands.{StandsCommitted}
use Rattle.graph_words.proofs.Promotion.Sealed.{sealed_state}
use Rattle.collection_words.specs.Completed.{completed, future, places_from, taken_at}
use Rattle.collection_words.specs.Writes.{AreBacked}
use Rattle.collection_words.proofs.Laid.Sources.{IsCollecting}
use Rattle.seal_laws.specs.Seal.{CanSealWithin, Seal}
use Rattle.seal_laws.specs.Seal as law
use Rattle.seal_laws.proofs.Beside.{names_old}
use Rattle.seal_laws.proofs.Left.{seal_after, seal_backed, seal_committed, seal_good, seal_laid, seal_tells}
use Rattle.heap_model.specs.Core.{Core, all_records, all_words, log_start}
use Rattle.heap_model.specs.CoreTold.{IsTold}
use Rattle.heap_model.proofs.Step.Bits.{fit_behind}
use Rattle.core_laws.proofs.Seal.Told as seal
use Rattle.core_laws.proofs.Seal.Within.{can, listed_is, within}
use Rattle.core_laws.proofs.Step.Goes.{words_with}
use Rattle.core_laws.specs.Valid.{Agrees}

-- the names of objects are old wherever these go
old_moved : (next : ℕ) (words : List ℕ) (ps : Places) (to : ℕ) → AreOld next ps → AreOld next (places_from words ps to)
old_moved next words [] to old = tt
old_moved next words (p ∷ ps) to old = (old.0, old_moved next words ps (to + taken_at words p.1) old.1)

-- and wherever they came from
old_before : (next : ℕ) (words : List ℕ) (ps : Places) (to : ℕ) → AreOld next (places_from words ps to) → AreOld next ps
old_before next words [] to old = tt
old_before next words (p ∷ ps) to old = (old.0, old_before next words ps (to + taken_at words p.1) old.1)

module _ (a : Account) (c : Core) (h : Agrees a c) {numbers : List ℕ} {heard : Heard} (o : IsOrdered c.g0 numbers a heard) (s : ℕ) (t : Transaction) (e : a.active s ≡ Some t)
    (k : Collection) (run : IsCollecting h.behind k c.places c.remaining (all_words c)) (space : seal.HasSpace a c h o s t e) where
  abbrev seen : View
  seen = view c.g0 a t

  abbrev it : Seal
  it = within c h.behind k seen t.number

  can_it : CanSealWithin it
  can_it = can a c h k run s t e o space

  -- the completed words after the seal
  abbrev whole_then : List ℕ
  whole_then = completed (law.last it) (law.later_places it) c.remaining (law.later_words it)

  -- the objects that remain, where they will stand then
  abbrev to_come : Places
  to_come = future (law.last it) (law.later_words it) c.remaining

  old_then : AreOld (law.last it).next (law.later_places it ++ to_come)
  old_then =
      let next = h.behind.next in
      let Old : ℕ → Id × ℕ → Type 0 = λ n p. IsOld n p.0 in
      let now = future h.behind (all_words c) c.remaining in
      let here = AllByRecursion-front (Old next) c.places now h.told.old in
      let left = old_before next (all_words c) c.remaining (h.behind.base + h.behind.used) (AllByRecursion-behind (Old next) c.places now h.told.old) in
      let then = names_old it can_it next (law.last it).next here left (omega arith) (omega arith) in
      let last = (law.last it).next in
      AllByRecursion-append (Old last) (law.later_places it) to_come (AllByRecursion-front (Old last) (law.later_places it) c.remaining then)
      (old_moved last (law.later_words it) c.remaining ((law.last it).base + (law.last it).used) (AllByRecursion-behind (Old last) (law.later_places it) c.remaining then))

  -- all records encode the graph that a seal of these words leaves
  abbrev Behind : List ℕ → Type 0
  Behind ws =
      let more = seal_records (law.area it) ws it.undo (law.next_free it) in
      let places = c.places ++ promoted_places (law.area it) (moves_of (law.area it) ws it.undo (law.next_free it)) in
      IsTold (log_start c) c.born places c.remaining seen.graph (c.before + length a.sealed + 1) (all_records c ++ more) (words_with c more) (sealed_state h.behind t.number (promoted_need (law.area it) ws it.undo))

  -- so they do for the seal as the laws state it
  pub told_there : Behind (law.seen it)
  told_there =
      let laid = seal_laid it can_it in
      let last = law.last it in
      record {
        good = AllByRecursion-append IsRecord (all_records c) (law.records it) h.told.good (seal_good it can_it);
        reached = after_all-append2 (log_start c) h.behind (all_records c) (law.records it) h.told.reached ∙ seal_after it can_it;
        count = let count = h.told.count in omega arith;
        heap = record { spaced = laid.spaced; long = laid.long; small = laid.small; laid = laid.laid };
        fit = fit_behind (all_words c) (law.records it) h.told.fit (seal_good it can_it);
        backed = each_remove (λ q us. AreBacked (law.later_places it) (law.later_words it) us) h.behind.undo t.number (λ q us some. seal_backed it can_it us (h.told.backed q us some));
        stands = subst (λ ws. StandsCommitted (law.later_places it ++ to_come) seen.graph ws last.base (last.used + owed last)) (listed_is h.behind t.number whole_then) (seal_committed it can_it);
        old = old_then;
        births = λ by_birth. seal_tells it can_it (h.told.births by_birth);
      }

  -- and as the core does it
  pub sealed_told : Behind (seal.own_words a c h o s t e)
  sealed_told = subst Behind (listed_is h.behind t.number (all_words c)) told_there
