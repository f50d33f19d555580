-- What a seal leaves within a collection.
use Rattle.std.proofs.Common.{◌≡◌, ◌≢◌, ℕ, ◌<◌, ◌≤◌, ◌+◌, List, [], ◌∷◌, ◌++◌, length, map, Some, is_some, refl, sym, ap, ◌∙◌, subst, arith}
use Rattle.std.specs.Prelude.{fold, slice_set}
use Rattle.std.specs.List.{AllByRecursion, enumerate_from}
use Rattle.std.proofs.lemmas.List.{set_comm}
use Rattle.std.proofs.lemmas.List.Sums.{fold-append}
use Rattle.graph_model.specs.Graph.{Graph}
use Rattle.log_records.specs.declared.Record.TheVariants.{Commit}
use Rattle.log_records.specs.Record.{IsRecord}
use Rattle.log_machine.specs.declared.UndoEntry.{UndoEntry}
use Rattle.log_machine.specs.Machine.{State, after_all, field_at, owed, put_all, put_record, taken_back, with_word}
use Rattle.log_machine.proofs.Fields.{AreApart, written}
use Rattle.log_machine.proofs.ListLaws.{AllByRecursion-map}
use Rattle.log_machine.proofs.StateLaws.{spaced_more}
use Rattle.log_machine.proofs.TakenBackLaws.{taken_back-swap}
use Rattle.log_machine.proofs.WordsLaws.{length-taken_back}
use Rattle.object_layout.specs.Layout.{id_at, id_of}
use Rattle.volatile_area.specs.Area.{AreaState}
use Rattle.graph_words.specs.Places.{Places, address_of}
use Rattle.graph_words.specs.Promotion.{Move, base_of, promoted_words, moves_of, moves_to, promoted_need, promoted_places, promotion_records, seal_records, words_taken, written_fields}
use Rattle.graph_words.specs.Stands.{AreNamedByBirth, Stands, StandsCommitted}
use Rattle.graph_words.proofs.Area.Fields.{write_at, written_from_field}
use Rattle.graph_words.proofs.Places.Addresses.{placed_as, some_address}
use Rattle.graph_words.proofs.Promotion.Alike.{moves_same, records_same}
use Rattle.graph_words.proofs.Promotion.Seal.{CanSeal, seal_births, seal_follows, seal_spelled, seal_stands}
use Rattle.graph_words.proofs.Promotion.Sealed.{sealed_state}
use Rattle.collection_words.specs.Completed.{StandsCompleted, completed, future}
use Rattle.collection_words.specs.LaidOut.{IsUnderway}
use Rattle.collection_words.specs.Writes.{AreBacked, IsHereWrite}
use Rattle.collection_words.proofs.Copy.Stands.{completed_names}
use Rattle.collection_words.proofs.Laid.Completed.{length-completed}
use Rattle.collection_words.proofs.Laid.Underway.{still_underway, underway}
use Rattle.collection_words.proofs.Laid.Write.{write_within}
use Rattle.walk_laws.specs.Heap.{TellsBirths}
use Rattle.seal_laws.specs.Seal.{CanSealWithin, Seal, all, area, asked, free_then, last, later_places, later_words, next_free, placed, placed_then, records, records_then, seen, seen_then, used_then, whole}
use Rattle.seal_laws.proofs.Based.{based}
use Rattle.seal_laws.proofs.Fixed.{each_fix, fix_entries, put_entries}
use Rattle.seal_laws.proofs.Found.{are_fixed, area_then, can_seal, is_promoting, need_is, promotion, undo_inside}
use Rattle.seal_laws.proofs.Promoting.{all_there, currents, moves_there, next, own_behind_all, placed_here}
use Rattle.seal_laws.proofs.Sealed.{final, final_backed, final_births, final_laid, final_put, final_put_there, final_relocates, final_stands, final_there}
use Rattle.seal_laws.proofs.Seen.{agree, area_same, asked_same}

-- Records that write no word which was written before.

set_back : (us : List UndoEntry) (now : List ℕ) (at w : ℕ) → AllByRecursion (λ v. written v < at) us → taken_back us (slice_set now at w) ≡ slice_set (taken_back us now) at w
set_back [] now at w below = refl
set_back (u ∷ us) now at w below =
    let first = below.0 in
    let apart : at ≢ written u = λ same. omega arith in
    ap (taken_back us) (set_comm now at (written u) w u.was apart) ∙ set_back us (with_word now u.object u.field u.was) at w below.1

further : (us : List UndoEntry) (a b : ℕ) → a ≤ b → AllByRecursion (λ v. written v < a) us → AllByRecursion (λ v. written v < b) us
further us a b more below = AllByRecursion-map (λ (v : UndoEntry). written v < a) (λ v. written v < b) us (λ v less. omega arith) below

run_back : (us : List UndoEntry) (ws now : List ℕ) (a : ℕ) → AllByRecursion (λ v. written v < a) us → taken_back us (put_all now (enumerate_from a ws)) ≡ put_all (taken_back us now) (enumerate_from a ws)
run_back us [] now a below = refl
run_back us (w ∷ ws) now a below =
    run_back us ws (slice_set now a w) (a + 1) (further us a (a + 1) (omega arith) below) ∙ ap (λ x. put_all x (enumerate_from (a + 1) ws)) (set_back us now a w below)

bases_back : (us : List UndoEntry) (area : AreaState) (moves : List Move) (starts : List ℕ) (address : ℕ) (now : List ℕ) → AllByRecursion (λ v. written v < address) us
    → taken_back us (fold put_record now (map (base_of area moves) (moves_to area starts address))) ≡ fold put_record (taken_back us now) (map (base_of area moves) (moves_to area starts address))
bases_back us area moves [] address now below = refl
bases_back us area moves (at ∷ rest) address now below =
    let after = address + words_taken area at in
    bases_back us area moves rest after (put_record now (base_of area moves (at, address))) (further us address after (omega arith) below)
    ∙ ap (λ x. fold put_record x (map (base_of area moves) (moves_to area rest after))) (run_back us (promoted_words area moves at) now address below)

module _ (c : Seal) (can : CanSealWithin c) where
  -- The records.

  records_are : records c ≡ seal_records (area c) (seen_then c) c.undo (next_free c)
  records_are = records_same (area c) (seen_then c) (seen c) c.undo (agree c can.sees) (next_free c)

  can_here : CanSeal (all c) c.g c.t c.made c.undo (seen_then c) c.state.base (used_then c) (next_free c)
  can_here = can_seal c can (next_free c) (omega arith)

  can_there : CanSeal (all c) c.g c.t c.made c.undo (seen_then c) c.state.base (used_then c) (free_then c)
  can_there = can_seal c can (free_then c) (omega arith)

  asked_then : promoted_need (area_then c) (seen_then c) c.undo ≡ asked c
  asked_then = ap (λ a. promoted_need a (seen_then c) c.undo) (area_same c can.sees) ∙ asked_same c can.sees

  -- They can follow, one after another.
  pub seal_after : after_all c.state (records c) ≡ Some (last c)
  seal_after =
      let room = can.room in
      let follows = seal_follows c.state can_here (undo_inside c can) can.number (omega (arith, asked_then)) in
      ap (after_all c.state) records_are
      ∙ subst (λ a. after_all c.state (seal_records a (seen_then c) c.undo (next_free c)) ≡ Some (sealed_state c.state c.t (promoted_need a (seen_then c) c.undo))) (area_same c can.sees) follows
      ∙ ap (λ n. Some (sealed_state c.state c.t n)) (asked_same c can.sees)

  -- each has a spelling
  pub seal_good : AllByRecursion IsRecord (records c)
  seal_good =
      subst (AllByRecursion IsRecord) (sym records_are)
      (subst (λ a. AllByRecursion IsRecord (seal_records a (seen_then c) c.undo (next_free c))) (area_same c can.sees) (seal_spelled can_here can.number))

  -- After them.

  pub last_is : next (promotion c) ≡ last c
  last_is = ap (sealed_state c.state c.t) (need_is c can)

  pub placed_is : placed_here (promotion c) ≡ placed c
  placed_is = ap (promoted_places (area c)) (sym (moves_same (area c) (seen_then c) (seen c) c.undo (agree c can.sees) (next_free c)))

  abbrev final_words : List ℕ
  final_words = final (promotion c) (is_promoting c can) (seen_then c) (written_fields c.undo) (are_fixed c can)

  abbrev final_then : List ℕ
  final_then = final_there (promotion c) (is_promoting c can) (seen_then c) (written_fields c.undo) (are_fixed c can)

  pub words_are : final_words ≡ later_words c
  words_are =
      sym (ap (fold put_record c.words) records_are
      ∙ fold-append put_record c.words (promotion_records (area c) (seen_then c) c.undo (next_free c)) (Commit c.t ∷ [])
      ∙ final_put (promotion c) (is_promoting c can) (seen_then c) (written_fields c.undo) (are_fixed c can))

  -- what holds of the state, the places and the words after the promotion holds of those after the seal
  behind_seal : (P : State → Places → List ℕ → Type 0) → P (next (promotion c)) (placed_here (promotion c)) final_words → P (last c) (placed c) (later_words c)
  behind_seal P holds =
      subst (λ s. P s (placed c) (later_words c)) last_is (subst (λ ps. P (next (promotion c)) ps (later_words c)) placed_is (subst (P (next (promotion c)) (placed_here (promotion c))) words_are holds))

  -- The words are laid out.
  pub seal_laid : IsUnderway (last c) c.collection (later_places c) c.remaining (later_words c)
  seal_laid =
      behind_seal (λ s ps ws. IsUnderway s c.collection (c.places ++ ps) c.remaining ws)
      (still_underway can.sees.underway.small (final_laid (promotion c) (is_promoting c can) (seen_then c) (written_fields c.undo) (are_fixed c can)))

  -- and what could be taken back still can
  pub seal_backed : (us : List UndoEntry) → AreBacked c.places c.words us → AreBacked (later_places c) (later_words c) us
  seal_backed us backed =
      behind_seal (λ s ps ws. AreBacked (c.places ++ ps) ws us)
      (final_backed (promotion c) (is_promoting c can) (seen_then c) (written_fields c.undo) (are_fixed c can) us backed)

  -- Births are known, if they were before.
  pub seal_tells : TellsBirths c.state c.places c.remaining c.words → TellsBirths (last c) (later_places c) c.remaining (later_words c)
  seal_tells tells =
      behind_seal (λ s ps ws. TellsBirths s (c.places ++ ps) c.remaining ws)
      (final_births (promotion c) (is_promoting c can) (seen_then c) (written_fields c.undo) (are_fixed c can) tells)

  -- Graphs.

  put_then : fold put_record (whole c) (records_then c) ≡ final_then
  put_then = final_put_there (promotion c) (is_promoting c can) (seen_then c) (written_fields c.undo) (are_fixed c can)

  -- one that stands after the seal of the completed words stands in the completed words after the seal
  pub seal_beside : (us : List UndoEntry) (t made : ℕ) (g : Graph) → AreBacked c.places c.words us
      → Stands t made (all c ++ placed_then c) g (taken_back us (fold put_record (whole c) (records_then c))) c.state.base (used_then c + asked c)
      → StandsCompleted t made (later_places c) c.remaining g us (later_words c) (last c)
  seal_beside us t made g backed stands =
      let P = all_there (promotion c) in
      let one = subst (λ ws. Stands t made P g (taken_back us ws) c.state.base (used_then c + asked c)) put_then stands in
      let two = subst (λ n. Stands t made P g (taken_back us final_then) c.state.base (used_then c + n)) (sym (need_is c can)) one in
      behind_seal (λ s ps ws. StandsCompleted t made (c.places ++ ps) c.remaining g us ws s)
      (final_stands (promotion c) (is_promoting c can) (seen_then c) (written_fields c.undo) (are_fixed c can) us t made g backed two)

  -- The sealed graph.

  others_below : AllByRecursion (λ v. written v < free_then c) c.others
  others_below =
      AllByRecursion-map (λ u. IsHereWrite c.places c.words u.object u.field u.was) (λ v. written v < free_then c) c.others
      (λ u write. let within = write_within (underway can.sees.underway).laid write in let below = within.1 in omega arith) can.sees.others_backed

  fixes_apart : AreApart (fix_entries (seen_then c) (moves_there (promotion c)) (written_fields c.undo)) c.others
  fixes_apart =
      each_fix (λ u. AllByRecursion (λ v. written u ≢ written v) c.others) (seen_then c) (moves_there (promotion c)) (written_fields c.undo) (λ f has at means.
      let write = write_at (λ u. AllByRecursion (λ v. written u ≢ written v) c.others) c.undo f.0 f.1 can.beside (written_from_field c.undo f has) in
      let same : written write.0 ≡ field_at f.0 f.1 = ap (λ (x : ℕ). field_at x write.0.field) write.2 ∙ ap (λ (x : ℕ). field_at f.0 x) write.3 in
      subst (λ (x : ℕ). AllByRecursion (λ v. x ≢ written v) c.others) same write.1)

  -- the records of the seal of the completed words write no word that others wrote
  pub beside_then : fold put_record (seen_then c) (records_then c) ≡ taken_back c.others (fold put_record (whole c) (records_then c))
  beside_then =
      let p = promotion c in
      let es = fix_entries (seen_then c) (moves_there p) (written_fields c.undo) in
      fold-append put_record (seen_then c) (map (base_of (area c) (moves_there p)) (moves_there p)) _
      ∙ put_entries c.t (seen_then c) (based (area c) p.starts (free_then c) (seen_then c)) (moves_there p) (written_fields c.undo)
      ∙ ap (taken_back es) (sym (bases_back c.others (area c) (moves_there p) p.starts (free_then c) (whole c) others_below))
      ∙ taken_back-swap es c.others (based (area c) p.starts (free_then c) (whole c)) fixes_apart
      ∙ ap (taken_back c.others) (sym put_then)

  room_then : c.state.base + used_then c + promoted_need (area_then c) (seen_then c) c.undo ≤ length (seen_then c)
  room_then =
      let room = can.room in
      let more = spaced_more c.state (owed c.state + asked c) can.sees.underway.spaced (omega arith) in
      let long = can.sees.underway.long in
      omega (arith, asked_then, length-taken_back c.others (whole c), length-completed c.state c.places c.remaining c.words)

  -- The sealed graph stands committed after the seal of the completed words.
  pub seal_committed_then : StandsCommitted (all c ++ placed_then c) c.g (taken_back c.others (fold put_record (whole c) (records_then c))) c.state.base (used_then c + asked c)
  seal_committed_then =
      let stands = subst (λ a. StandsCommitted (all c ++ promoted_places a (moves_of a (seen_then c) c.undo (free_then c))) c.g
      (fold put_record (seen_then c) (promotion_records a (seen_then c) c.undo (free_then c))) c.state.base (used_then c + promoted_need a (seen_then c) c.undo)) (area_same c can.sees)
      (seal_stands can_there room_then) in
      let sized = subst (λ n. StandsCommitted (all c ++ placed_then c) c.g (fold put_record (seen_then c) (records_then c)) c.state.base (used_then c + n)) (asked_same c can.sees) stands in
      subst (λ ws. StandsCommitted (all c ++ placed_then c) c.g ws c.state.base (used_then c + asked c)) beside_then sized

  -- so it does in the completed words after the seal
  pub seal_committed : StandsCompleted 0 0 (later_places c) c.remaining c.g c.others (later_words c) (last c)
  seal_committed = seal_beside c.others 0 0 c.g can.sees.others_backed seal_committed_then

  -- Names.

  named_behind : AreNamedByBirth (all_there (promotion c)) (taken_back c.others final_then)
      → AreNamedByBirth (currents (promotion c) ++ future (next (promotion c)) final_words c.remaining)
      (taken_back c.others (completed (next (promotion c)) (currents (promotion c)) c.remaining final_words))
  named_behind named =
      let p = promotion c in
      let P = all_there p in
      let P' = currents p ++ future (next p) final_words c.remaining in
      let before = taken_back c.others final_then in
      let after = taken_back c.others (completed (next p) (currents p) c.remaining final_words) in
      let laid = final_laid p (is_promoting c can) (seen_then c) (written_fields c.undo) (are_fixed c can) in
      let moves = final_relocates p (is_promoting c can) (seen_then c) (written_fields c.undo) (are_fixed c can) c.others can.sees.others_backed in
      AllByRecursion-map (λ q. address_of P' q.0 ≡ Some q.1) (λ q. id_at after q.1 ≡ q.0) P' (λ q there.
      let at = some_address (address_of P q.0) (moves.is.same q.0 ∙ ap is_some there) in
      let object = moves.is.each q.0 at.0 q.1 (record { before = at.1; after = there }) in
      ap id_of object.birth ∙ placed_as (λ r. id_at before r.1 ≡ r.0) P q.0 at.0 named at.1) (completed_names laid.laid (own_behind_all p (is_promoting c can)))

  -- Births give the names, if they did before.
  pub seal_named : AreNamedByBirth (all c) (seen_then c)
      → AreNamedByBirth (later_places c ++ future (last c) (later_words c) c.remaining) (taken_back c.others (completed (last c) (later_places c) c.remaining (later_words c)))
  seal_named named =
      let births = subst (λ a. AreNamedByBirth (all c ++ promoted_places a (moves_of a (seen_then c) c.undo (free_then c)))
      (fold put_record (seen_then c) (promotion_records a (seen_then c) c.undo (free_then c)))) (area_same c can.sees) (seal_births can_there room_then named) in
      let one = subst (AreNamedByBirth (all c ++ placed_then c)) (beside_then ∙ ap (taken_back c.others) put_then) births in
      behind_seal (λ s ps ws. AreNamedByBirth ((c.places ++ ps) ++ future s ws c.remaining) (taken_back c.others (completed s (c.places ++ ps) c.remaining ws))) (named_behind one)
