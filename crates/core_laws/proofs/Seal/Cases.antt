-- What a seal leaves, whether a collection is under way or not.
use Rattle.std.proofs.Common.{◌≡◌, ◌≢◌, ◌⊎◌, inl, inr, ℕ, ◌+◌, List, ◌++◌, length, Some, sym, subst}
use Rattle.graph_model.specs.declared.id.Id.{Id}
use Rattle.graph_model.specs.Transaction.{Transaction, run}
use Rattle.graph_model.specs.History.{Account}
use Rattle.graph_model.specs.Locking.{locks_of}
use Rattle.graph_model.specs.Plain.{view}
use Rattle.commit_order.specs.Heard.{Heard}
use Rattle.commit_order.proofs.OrderLaws.{IsOrdered}
use Rattle.log_machine.specs.Machine.{after_all}
use Rattle.graph_words.specs.Places.{Places, address_of}
use Rattle.graph_words.specs.Promotion.{moves_of, promoted_places}
use Rattle.collection_words.proofs.Heap.Cases.{heap_cases}
use Rattle.seal_laws.proofs.Beside.{current_or_made}
use Rattle.heap_model.specs.Core.{Core, all_records, all_words, log_start}
use Rattle.heap_model.specs.CoreTold.{IsTold}
use Rattle.core_laws.proofs.Seal.Plain as plain
use Rattle.core_laws.proofs.Seal.PlainOthers as beside
use Rattle.core_laws.proofs.Seal.Told as seal
use Rattle.core_laws.proofs.Seal.Within.{can, listed_is, within}
use Rattle.core_laws.proofs.Seal.WithinOthers as within_beside
use Rattle.core_laws.proofs.Seal.WithinTold as within_told
use Rattle.core_laws.proofs.Step.Goes.{words_with}
use Rattle.core_laws.specs.Valid.{IsWriting, Agrees}

module _ (a : Account) (c : Core) (h : Agrees a c) {numbers : List ℕ} {heard : Heard} (o : IsOrdered c.g0 numbers a heard) (s : ℕ) (t : Transaction) (e : a.active s ≡ Some t)
    (space : seal.HasSpace a c h o s t e) where
  -- the objects that stand in the space after it
  abbrev later : Places
  later = c.places ++ seal.placed a c h o s t e

  -- All records encode the graph that it leaves.
  pub sealed_told : IsTold (log_start c) c.born later c.remaining (view c.g0 a t).graph (c.before + length a.sealed + 1)
      (all_records c ++ seal.records a c h o s t e) (words_with c (seal.records a c h o s t e)) (seal.last a c h o s t e)
  sealed_told = elim (heap_cases h.told.heap) [
    | inl none ↦ plain.sealed_told a c h o s t e none space
    | inr runs ↦ within_told.sealed_told a c h o s t e runs.0 runs.1 space
  ]

  -- they lead to the state after it
  pub reached : after_all (log_start c) (all_records c ++ seal.records a c h o s t e) ≡ Some (seal.last a c h o s t e)
  reached = sealed_told.reached

  -- what stands in the space then stood there before, or the transaction made it
  pub old_or_new : (id : Id) (at : ℕ) → address_of later id ≡ Some at → (address_of c.places id ≡ Some at) ⊎ (id.t ≡ t.number)
  old_or_new id at there = elim (heap_cases h.told.heap) [
    | inl none ↦ beside.old_or_new a c h o s t e none space id at there
    | inr runs ↦
        let it = within c h.behind runs.0 (view c.g0 a t) t.number in
        let same = sym (listed_is h.behind t.number (all_words c)) in
        let there' = subst (λ (ws : List ℕ). address_of (c.places ++ promoted_places (seal.own_area a c h o s t e) (moves_of (seal.own_area a c h o s t e) ws (seal.own_undo a c h o s t e) (seal.next_free a c h o s t e))) id ≡ Some at) same there in
        elim (current_or_made it (can a c h runs.0 runs.1 s t e o space) id at there') [ inl old ↦ inl old | inr own ↦ inr own.maker ]
  ]

  -- What another transaction sees stands after it.
  pub stays_beside : (r : ℕ) (u : Transaction) → s ≢ r → a.active r ≡ Some u → IsWriting later c.remaining (run (view c.g0 a t).graph u) u.number
      (locks_of (view c.g0 a t).graph u) (words_with c (seal.records a c h o s t e)) (seal.last a c h o s t e)
  stays_beside r u apart also = elim (heap_cases h.told.heap) [
    | inl none ↦ beside.stays_beside a c h o s t e none space r u apart also
    | inr runs ↦ within_beside.stays_beside a c h o s t e runs.0 runs.1 space r u apart also
  ]
