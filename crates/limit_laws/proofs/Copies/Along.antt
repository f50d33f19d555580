-- A flip takes along what active transactions have overwritten references to, so they came to it as before.
use Rattle.std.proofs.Common.{◌≡◌, ℕ, List, [], ◌∷◌, Option, None, Some, refl, sym, ap, ◌∙◌, subst, arith}
use Rattle.std.specs.Prelude.{option_and_then}
use Rattle.std.specs.FinMap.{get}
use Rattle.std.specs.List.{AllByRecursion}
use Rattle.std.proofs.lemmas.Option.{same_Some}
use Rattle.graph_model.specs.declared.event.Event.TheVariants.{Flip}
use Rattle.graph_model.specs.declared.id.Id.{Id}
use Rattle.graph_model.specs.Graph.{Graph}
use Rattle.graph_model.specs.History.{Account, account}
use Rattle.graph_model.specs.Transaction.{serial}
use Rattle.heap_words.specs.declared.Word.{Word}
use Rattle.heap_words.specs.declared.Word.TheVariants as word
use Rattle.heap_words.specs.Word.{bits, meaning}
use Rattle.heap_words.proofs.WordLaws.{bits-meaning}
use Rattle.relocation.specs.Relocation.{moved_to, translated_by, translated_word}
use Rattle.log_records.specs.declared.Record.{Record}
use Rattle.log_machine.specs.declared.UndoEntry.{UndoEntry}
use Rattle.log_machine.specs.Collecting.{pairs_of}
use Rattle.log_machine.specs.Machine.{State, after_all}
use Rattle.log_machine.specs.Translation.{translated_entry, translated_list}
use Rattle.log_machine.proofs.FlipLaws.{get_translated, some_mapped}
use Rattle.graph_words.specs.Places.{Places, address_of, addresses}
use Rattle.collection_words.specs.LaidOut.{LeadsHere}
use Rattle.collection_words.specs.Placing.{Placing, moved_by_all}
use Rattle.collection_words.specs.Writes.{IsHereWrite}
use Rattle.collection_words.proofs.Copy.Named.{named, own_front}
use Rattle.flip_laws.specs.Flip.{AreEntriesOf, IsEntryOf, copies_of}
use Rattle.flip_laws.proofs.Heap.{root_goes}
use Rattle.flip_laws.proofs.Roots.{entry_rooted}
use Rattle.heap_model.proofs.Run.Calls.{same_done}
use Rattle.heap_model.specs.Core.{Core, all_words, done, event_records, placing}
use Rattle.core_laws.proofs.Collecting.Entries.{own_entries}
use Rattle.core_laws.proofs.Collecting.Flip as flip
use Rattle.core_laws.specs.Valid.{IsValid, RunsLocked}
use Rattle.limit_laws.proofs.Copies.Edges.{StandApart}
use Rattle.limit_laws.proofs.Copies.Flips.{flip_is}
use Rattle.limit_laws.proofs.Copies.Granted.{said_of}
use Rattle.limit_laws.proofs.Copies.Overwritten.{IsEntryPast, KeepsPast}
use Rattle.limit_laws.proofs.Copies.Own.{own_all}
use Rattle.limit_laws.proofs.Copies.Past.{IsPast}
use Rattle.limit_laws.proofs.Copies.Quiet.{place_done, still_granted}

-- a translated word refers to where the object went to which the word referred
translated_means : (pairs : List (ℕ × ℕ)) (w at : ℕ) → meaning (translated_word pairs w) ≡ Some (word.Stable at) → (x : ℕ) × (meaning w ≡ Some (word.Stable x)) × (moved_to pairs x ≡ at)
translated_means pairs w at means = by (meaning w) refl
  where
    same : (o : Option Word) → meaning w ≡ o → meaning (translated_by pairs w o) ≡ Some (word.Stable at)
    same o is = ap (λ (x : Option Word). meaning (translated_by pairs w x)) (sym is) ∙ means

    by : (o : Option Word) → meaning w ≡ o → (x : ℕ) × (meaning w ≡ Some (word.Stable x)) × (moved_to pairs x ≡ at)
    by None is = absurd (cc (sym is ∙ same None is))
    by (Some word.Null) is = absurd (cc (sym is ∙ same (Some word.Null) is))
    by (Some (word.Int m)) is = absurd (cc (sym is ∙ same (Some (word.Int m)) is))
    by (Some (word.Volatile index)) is = absurd (cc (sym is ∙ same (Some (word.Volatile index)) is))
    by (Some (word.Stable x)) is =
        let there = (bits-meaning (bits (word.Stable (moved_to pairs x))) (word.Stable at) (same (Some (word.Stable x)) is)).1 in
        (x, is, omega arith)

module _ (c : Core) (valid : IsValid c) (runs : RunsLocked c.g0 c.first c.history) (none : valid.behind.collection ≡ None) (n : State) (follows : after_all valid.behind (event_records c Flip) ≡ Some n) (apart : StandApart (done c Flip).places)
    (was : KeepsPast (account c.history) c valid.behind) where
  abbrev a : Account
  a = account c.history

  abbrev s : State
  s = valid.behind

  abbrev pairs : List (ℕ × ℕ)
  pairs = pairs_of (copies_of valid.behind (all_words c) (flip.roots (account c.history) c valid none))

  last_is : n ≡ flip.last (account c.history) c valid none
  last_is =
      same_Some n (flip.last a c valid none)
      (sym follows ∙ ap (after_all s) (flip_is c valid runs none) ∙ ap (option_and_then (λ next. after_all next [])) (flip.follows a c valid none))

  -- the current objects are the copies
  stand : (done c Flip).places ≡ flip.currents (account c.history) c valid none
  stand =
      ap (λ (p : Placing). p.places) (place_done c Flip tt) ∙ ap (λ (rs : List Record). (moved_by_all (placing c) rs).places) (flip_is c valid runs none)
      ∙ ap (λ (p : Placing). p.places) (flip.placed a c valid none)

  graph : serial (done c Flip).g0 (said_of c Flip).sealed ≡ serial c.g0 (account c.history).sealed
  graph = ap (λ (x : Graph). serial x (said_of c Flip).sealed) (same_done c Flip).g0 ∙ ap (serial c.g0) (still_granted c Flip tt).sealed

  abbrev Behind : ℕ → UndoEntry → Type 0
  Behind q u = IsEntryPast (said_of c Flip) (serial (done c Flip).g0 (said_of c Flip).sealed) (done c Flip).places q u

  one_along : (q : ℕ) (u : UndoEntry) → IsHereWrite c.places (all_words c) u.object u.field u.was → IsEntryOf valid.behind u → IsEntryPast (account c.history) (serial c.g0 (account c.history).sealed) c.places q u
      → IsEntryPast (said_of c Flip) (serial (done c Flip).g0 (said_of c Flip).sealed) (done c Flip).places q (translated_entry pairs u)
  one_along q u here entry past r t active number at means y there =
      let from = translated_means pairs u.was at means in
      let old = named c.places from.0 (own_front c.places c.remaining (own_all a c valid)) (subst (LeadsHere (addresses c.places)) from.1 here.leads) in
      let can = flip.can a c valid none in
      let goes = root_goes can old.0 from.0 old.1 ((entry_rooted can u entry).was from.0 from.1) in
      let same = apart old.0 y at (ap (λ (ps : Places). address_of ps old.0) stand ∙ goes ∙ ap Some from.2) there in
      subst (λ (x : Graph). IsPast x t y) (sym graph) (past r t (ap (λ x. x r) (sym (still_granted c Flip tt).active) ∙ active) number from.0 from.1 y (subst (λ (x : Id). address_of c.places x ≡ Some from.0) same old.1))

  all_along : (q : ℕ) (us : List UndoEntry) → AllByRecursion (λ u. IsHereWrite c.places (all_words c) u.object u.field u.was) us → AreEntriesOf valid.behind us
      → AllByRecursion (IsEntryPast (account c.history) (serial c.g0 (account c.history).sealed) c.places q) us
      → AllByRecursion (IsEntryPast (said_of c Flip) (serial (done c Flip).g0 (said_of c Flip).sealed) (done c Flip).places q) (translated_list pairs us)
  all_along q [] here entries past = tt
  all_along q (u ∷ us) here entries past = (one_along q u here.0 entries.0 past.0, all_along q us here.1 entries.1 past.1)

  pub flip_past : KeepsPast (said_of c Flip) (done c Flip) n
  flip_past = subst (KeepsPast (said_of c Flip) (done c Flip)) (sym last_is) (λ q vs is.
      let from = some_mapped (translated_list pairs) (get s.undo q) vs (sym (get_translated pairs s.undo q) ∙ is) in
      subst (AllByRecursion (Behind q)) from.2 (all_along q from.0 (valid.told.backed q from.0 from.1) (own_entries s q from.0 from.1) (was q from.0 from.1)))
