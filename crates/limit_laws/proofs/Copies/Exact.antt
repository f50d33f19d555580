-- A collection copies just what is reached at its flip, whatever sessions do.
use Rattle.std.proofs.Common.{◌≡◌, inl, inr, ℕ, ◌+◌, Bool, true, false, List, [], ◌∷◌, ◌++◌, drop, filter, length, None, Some, is_some, refl, sym, ap, ◌∙◌, arith}
use Rattle.std.specs.Prelude.{◌==◌, not, if◌then◌else◌}
use Rattle.std.specs.List.{AllByRecursion}
use Rattle.std.proofs.lemmas.Bool.{eq-eqb, or_parts}
use Rattle.std.proofs.lemmas.List.Filters.{sum_by-filter_both}
use Rattle.std.proofs.lemmas.List.Sums.{sum_by-cons}
use Rattle.std.proofs.Math.Seq.{drop-append_seam}
use Rattle.graph_model.specs.declared.event.Event.TheVariants.{Flip}
use Rattle.graph_model.specs.declared.id.Id.{Id}
use Rattle.graph_model.specs.Canon.{Reached, at_root, along}
use Rattle.graph_model.specs.Graph.{Graph, fields}
use Rattle.graph_model.specs.History.{Account, account}
use Rattle.graph_model.specs.Transaction.{Transaction, run, serial}
use Rattle.graph_model.proofs.Whole.Closed.{length-fields-run}
use Rattle.log_machine.specs.Machine.{losing}
use Rattle.object_layout.proofs.LayoutLaws.{length-field_words}
use Rattle.graph_words.specs.Places.{Places, address_of, addresses}
use Rattle.graph_words.proofs.Places.Addresses.{some_address}
use Rattle.collection_words.specs.Completed.{StandsCompleted, future, taken_by}
use Rattle.collection_words.specs.Placing.{Placing, moved_by_all, placing_of}
use Rattle.collection_words.proofs.Copy.Named.{own_front}
use Rattle.collection_words.proofs.Laid.Names.{names_own, own_names}
use Rattle.collection_words.proofs.Laid.Sources.{here_taken}
use Rattle.seen_laws.specs.Heap.{IsHeap}
use Rattle.seen_laws.proofs.Reading.{object_here}
use Rattle.seen_laws.proofs.States.{backed_all, sealed_stands, writes_of_all}
use Rattle.heap_model.specs.Core.{Core, after, all_words, answer, placing}
use Rattle.heap_model.proofs.Run.Calls.{same_run, same_step}
use Rattle.core_laws.proofs.Run.Events.{run_reached}
use Rattle.core_laws.proofs.Step.Sound.{reached_agrees}
use Rattle.core_laws.specs.Valid.{Agrees}
use Rattle.limit_laws.specs.Copies.{ExactTheorem, UsedTheorem, copied_since, is_made_by, sealed_graph, sealed_since, words_of}
use Rattle.limit_laws.proofs.Copies.Closed.{root_left}
use Rattle.limit_laws.proofs.Copies.Disturbed.{some_none}
use Rattle.limit_laws.proofs.Copies.Garbage.{no_garbage_law}
use Rattle.limit_laws.proofs.Copies.Reached.{IsFollowed, copied_is, followed}
use Rattle.limit_laws.proofs.Copies.Running.{IsPlaced}
use Rattle.limit_laws.proofs.Copies.Begun.{EndsWith, end_of_scan}
use Rattle.limit_laws.proofs.Progress.Scans.{nothing_gray}

-- Sizes.

-- transactions change no length of an object that none of them made
length_serial : (g : Graph) (ts : List Transaction) (id : Id) → is_made_by ts id ≡ false → length (fields (serial g ts) id) ≡ length (fields g id)
length_serial g [] id others = refl
length_serial g (t ∷ ts) id others =
    let parts = or_parts (t.number == id.t) (is_made_by ts id) others in
    length_serial (run g t).graph ts id parts.1 ∙ length-fields-run g t id (λ same. let mine = eq-eqb t.number id.t (sym same) in cc (sym mine ∙ parts.0))

serial_on : (g : Graph) (ts us : List Transaction) → serial g (ts ++ us) ≡ serial (serial g ts) us
serial_on g [] us = refl
serial_on g (t ∷ ts) us = serial_on (run g t).graph ts us

-- so these take the words that they took
same_words : (g : Graph) (ts : List Transaction) (ps : Places) → words_of (serial g ts) (filter (λ p. not (is_made_by ts p.0)) ps) ≡ words_of g (filter (λ p. not (is_made_by ts p.0)) ps)
same_words g ts [] = refl
same_words g ts (p ∷ ps) = by (is_made_by ts p.0) refl (same_words g ts ps)
  where
    others : Places
    others = filter (λ q. not (is_made_by ts q.0)) ps

    by : (t : Bool) → is_made_by ts p.0 ≡ t → words_of (serial g ts) others ≡ words_of g others → words_of (serial g ts) (if not t then p ∷ others else others) ≡ words_of g (if not t then p ∷ others else others)
    by true is rest = rest
    by false is rest =
        let now = sum_by-cons (λ (q : Id × ℕ). 2 + length (fields (serial g ts) q.0)) p others in
        let before = sum_by-cons (λ (q : Id × ℕ). 2 + length (fields g q.0)) p others in
        let one = length_serial g ts p.0 is in
        omega arith

-- The current objects take the used words.
module _ (a : Account) (d : Core) (h : Agrees a d) where
  stands : StandsCompleted 0 0 d.places d.remaining (serial d.g0 a.sealed) (writes_of_all (losing h.behind)) (all_words d) h.behind
  stands = sealed_stands h.behind d.places d.remaining (all_words d) h.told.stands

  sizes : (ps : Places) → AllByRecursion (λ p. address_of d.places p.0 ≡ Some p.1) ps → taken_by (all_words d) (addresses ps) ≡ words_of (serial d.g0 a.sealed) ps
  sizes [] named = refl
  sizes (p ∷ ps) named =
      let g = serial d.g0 a.sealed in
      let heap : IsHeap h.behind d.places d.remaining (all_words d) = record { spaced = h.told.heap.spaced; long = h.told.heap.long; laid = h.told.heap.laid } in
      let backed = backed_all h.behind d.places (all_words d) h.told.backed in
      let size = length-field_words (all_words d) p.1 (length (fields g p.0)) (object_here (writes_of_all (losing h.behind)) heap backed stands p.0 p.1 named.0) in
      let rest = sizes ps named.1 in
      omega (arith, size, rest, sum_by-cons (λ (q : Id × ℕ). 2 + length (fields g q.0)) p ps)

  all_used : h.behind.used ≡ words_of (serial d.g0 a.sealed) d.places
  all_used =
      let P = d.places ++ future h.behind (all_words d) d.remaining in
      let own = own_front d.places (future h.behind (all_words d) d.remaining) (own_names P _ h.behind.base P _ stands.ends stands.names) in
      let all = sizes d.places (names_own d.places own) in
      let taken = here_taken h.told.heap.laid in
      omega arith

-- The words in use.

-- are those of what was copied and of what became stable
used_words : (c d : Core) (b : IsFollowed c d) (used : ℕ) → EndsWith (reached_agrees d b.reached).behind used → d.g0 ≡ c.g0 → used ≡ words_of (sealed_graph c) (moved_by_all (placing c) b.more).places + words_of (sealed_graph d) (filter (λ p. is_made_by b.ts p.0) d.places)
used_words c d b used end same =
    let g = sealed_graph d in
    let others = λ (p : Id × ℕ). not (is_made_by b.ts p.0) in
    let graph : g ≡ serial (sealed_graph c) b.ts = ap (λ (x : Graph). serial x (account d.history).sealed) same ∙ ap (serial c.g0) b.since ∙ serial_on c.g0 (account c.history).sealed b.ts in
    let old : words_of g (filter others d.places) ≡ words_of (sealed_graph c) (moved_by_all (placing c) b.more).places =
    ap (λ (x : Graph). words_of x (filter others d.places)) graph ∙ same_words (sealed_graph c) b.ts d.places ∙ ap (words_of (sealed_graph c)) b.counted.others in
    let both = sum_by-filter_both (λ (p : Id × ℕ). is_made_by b.ts p.0) others (λ p. refl) (λ (p : Id × ℕ). 2 + length (fields g p.0)) d.places in
    let all = all_used _ d (reached_agrees d b.reached) in
    let size = end.size in
    omega arith

pub used_law : UsedTheorem
used_law c d events objects words used reached flips of run none is =
    let b = followed c d events objects words reached flips of run none in
    let end = end_of_scan _ d (reached_agrees d b.reached) used is in
    let since : sealed_since c d ≡ b.ts = ap (drop (length (account c.history).sealed)) b.since ∙ drop-append_seam (account c.history).sealed b.ts in
    let opening : d.g0 ≡ c.g0 = (same_run (after c Flip) d events run).g0 ∙ (same_step c (after c Flip) Flip (answer c Flip) (inl (refl, refl))).g0 in
    used_words c d b used end opening
    ∙ ap (λ (ps : Places). words_of (sealed_graph c) ps + words_of (sealed_graph d) (filter (λ p. is_made_by b.ts p.0) d.places)) (sym (copied_is c d b))
    ∙ ap (λ (ts : List Transaction). words_of (sealed_graph c) (copied_since c d) + words_of (sealed_graph d) (filter (λ p. is_made_by ts p.0) d.places)) (sym since)

-- What is copied when nothing is gray.

not_left : (p : Placing) (id : Id) → IsPlaced p id → address_of p.remaining id ≡ None → is_some (address_of p.places id) ≡ true
not_left p id (inl here) none = here
not_left p id (inr left) none = absurd (some_none none left)

module _ (c d : Core) (b : IsFollowed c d) (used : ℕ) (end : EndsWith (reached_agrees d b.reached).behind used) where
  abbrev copies : Placing
  copies = placing_of (moved_by_all (placing c) b.more).places d.remaining

  -- nothing that is reached remains
  none_left : (id : Id) → Reached (sealed_graph c) id → address_of d.remaining id ≡ None
  none_left id at_root = root_left _ d (reached_agrees d b.reached) end.collection end.runs
  none_left id (along {id = z} i to reached refers) =
      let copied = not_left copies z (b.closed.reached end.collection end.runs z reached) (none_left z reached) in
      let at = some_address (address_of copies.places z) copied in
      b.closed.black end.collection end.runs z to at.0 i at.1 (nothing_gray end.collection end.black at.0) refers

  -- so all of it is copied
  all_copied : (id : Id) → Reached (sealed_graph c) id → is_some (address_of (moved_by_all (placing c) b.more).places id) ≡ true
  all_copied id reached = not_left copies id (b.closed.reached end.collection end.runs id reached) (none_left id reached)

-- What a collection copies is just what is reached.
pub exact_law : ExactTheorem
exact_law b c d before events objects words used reached idle sessions first flips of run none is =
    let there = run_reached b c before reached sessions first in
    let copies = followed c d events objects words there flips of run none in
    let end = end_of_scan _ d (reached_agrees d copies.reached) used is in
    record {
      exactly = λ id. (
        λ copied. no_garbage_law b c d before events objects words reached idle sessions first flips of run none id copied,
        λ reaches. ap (λ (ps : Places). is_some (address_of ps id)) (copied_is c d copies) ∙ all_copied c d copies used end id reaches,
      );
      words = used_law c d events objects words used there flips of run none is;
    }
