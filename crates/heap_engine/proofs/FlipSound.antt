-- What is known of the transactions after they are updated to objects that have moved.
use Rattle.std.proofs.Common.{◌≡◌, ℕ, ◌<◌, Bool, true, false, List, [], ◌∷◌, length, Option, None, Some, refl, sym, ap, ◌∙◌, subst, arith}
use Rattle.std.specs.Prelude.{sum_by, ◌==◌, unwrap_or, if◌then◌else◌}
use Rattle.std.proofs.lemmas.Bool.{lt-ltb, ltb-true}
use Rattle.std.proofs.lemmas.List.{length-map}
use Rattle.std.proofs.lemmas.List.Elements.{All-map, All-weaker, recursion_from_All}
use Rattle.std.specs.List.{AllByRecursion}
use Rattle.graph_model.specs.History.{sessions}
use Rattle.log_machine.specs.Machine.{end_bytes}
use Rattle.log_machine.specs.Translation.{translated_entry, translated_list}
use Rattle.relocation.specs.Relocation.{IsRelocation, destination, moved_to}
use Rattle.txn_table.specs.declared.place.Place.{Place}
use Rattle.txn_table.specs.declared.place.Place.TheVariants.{Stable, Volatile}
use Rattle.txn_table.specs.Table.{TransactionState, TableState, transaction_of}
use Rattle.txn_table.specs.Translation.{translated_handle, HasGoneAlong, GoesAlong, HaveGoneAlong}
use Rattle.heap_memory.specs.Memory.{kept_for_end, reserved}
use Rattle.heap_engine.specs.Reserve.{active_count, one_if, undo_if, WroteBelow, GoAlongBelow, can_refer, HoldPlaces, IsSoundTransaction, AreSound}

-- a word can refer to where an object went
went_low : (pairs : List (ℕ × ℕ)) (from : ℕ) → AllByRecursion (λ pair. pair.1 < 2097152) pairs → from < 2097152 → unwrap_or (destination pairs from) from < 2097152
went_low [] from all low = low
went_low (pair ∷ pairs) from all low = cases (pair.0 == from) (went_low pairs from all.1 low)
  where
    cases : (b : Bool) → unwrap_or (destination pairs from) from < 2097152 → unwrap_or (if b then Some pair.1 else destination pairs from) from < 2097152
    cases true rest = all.0
    cases false rest = rest

still_refers : (pairs : List (ℕ × ℕ)) → IsRelocation pairs → (handle : Option Place) → can_refer handle ≡ true → can_refer (translated_handle pairs handle) ≡ true
still_refers pairs moves None can = refl
still_refers pairs moves (Some (Volatile index)) can = can
still_refers pairs moves (Some (Stable at)) can =
    lt-ltb (moved_to pairs at) 2097152 (went_low pairs at (recursion_from_All (λ (pair : ℕ × ℕ). pair.1 < 2097152) pairs moves.inside) (ltb-true at 2097152 can))

-- One transaction.
sound_gone : (size next s : ℕ) (pairs : List (ℕ × ℕ)) (old new : TransactionState) → IsRelocation pairs → IsSoundTransaction size next s old → HasGoneAlong pairs old new → WroteBelow size (translated_list pairs old.undo)
    → IsSoundTransaction size next s new
sound_gone size next s pairs old new moves sound gone below = record {
  session = sound.session;
  number = subst (λ (n : ℕ). n < next) (sym gone.number) sound.number;
  inside = subst (WroteBelow size) (sym gone.undo) below;
  held = subst HoldPlaces (sym gone.handles)
      (All-map (λ (h : Option Place). can_refer h ≡ true) (translated_handle pairs) old.handles
      (All-weaker (λ (h : Option Place). can_refer h ≡ true) (λ (h : Option Place). can_refer (translated_handle pairs h) ≡ true) (still_refers pairs moves) old.handles sound.held));
}

-- The sums over all of them.

kept_along : (pairs : List (ℕ × ℕ)) (o n : Option TransactionState) → GoesAlong pairs o n → kept_for_end n ≡ kept_for_end o
kept_along pairs None None goes = refl
kept_along pairs None (Some new) goes = absurd goes
kept_along pairs (Some old) None goes = absurd goes
kept_along pairs (Some old) (Some new) goes = ap end_bytes (ap length goes.undo ∙ length-map old.undo (translated_entry pairs))

one_along : (pairs : List (ℕ × ℕ)) (o n : Option TransactionState) → GoesAlong pairs o n → one_if n ≡ one_if o
one_along pairs None None goes = refl
one_along pairs None (Some new) goes = absurd goes
one_along pairs (Some old) None goes = absurd goes
one_along pairs (Some old) (Some new) goes = refl

-- as many bytes are kept
pub reserved_along : (pairs : List (ℕ × ℕ)) (old new : TableState) → HaveGoneAlong pairs old new → reserved new ≡ reserved old
reserved_along pairs old new gone = λ i. sum_by (λ s. kept_along pairs (transaction_of old s) (transaction_of new s) (gone.sessions s) i) sessions

count_along : (pairs : List (ℕ × ℕ)) (old new : TableState) → HaveGoneAlong pairs old new → active_count new ≡ active_count old
count_along pairs old new gone = λ i. sum_by (λ s. one_along pairs (transaction_of old s) (transaction_of new s) (gone.sessions s) i) sessions

-- All of them.
pub sound_along : (old new : TableState) (size bytes sealed : ℕ) (pairs : List (ℕ × ℕ)) → IsRelocation pairs → AreSound old size bytes sealed → HaveGoneAlong pairs old new → GoAlongBelow size pairs old
    → AreSound new size bytes sealed
sound_along old new size bytes sealed pairs moves sound gone below = record {
  each = λ s t is. one s t is (transaction_of old s) refl (subst (GoesAlong pairs (transaction_of old s)) is (gone.sessions s));
  kept = sound.kept ∙ sym (reserved_along pairs old new gone);
  counted = omega (arith, sound.counted, count_along pairs old new gone, gone.next);
  numbered = omega (arith, sound.numbered, gone.next);
}
  where
    one : (s : ℕ) (t : TransactionState) → transaction_of new s ≡ Some t → (o : Option TransactionState) → transaction_of old s ≡ o → GoesAlong pairs o (Some t) → IsSoundTransaction size new.next s t
    one s t is None was goes = absurd goes
    one s t is (Some o) was goes =
        subst (λ (n : ℕ). IsSoundTransaction size n s t) (sym gone.next)
        (sound_gone size old.next s pairs o t moves (sound.each s o was) goes (subst (λ (x : Option TransactionState). WroteBelow size (translated_list pairs (undo_if x))) was (below s)))
