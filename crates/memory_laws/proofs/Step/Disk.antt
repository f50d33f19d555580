-- What a force and the store of a page leave in memory.
use Rattle.std.proofs.Common.{◌≡◌, ◌≢◌, ℕ, ◌<◌, max, Bool, true, false, cond, List, [], ◌++◌, length, get_or, refl, sym, ap, ◌∙◌, subst, arith}
use Rattle.std.specs.Prelude.{◌==◌, IsFalse}
use Rattle.std.proofs.lemmas.Bool.{eqb-true, eqb-false}
use Rattle.std.proofs.lemmas.List.{append-nil}
use Rattle.gated_log.specs.Log.{records_of, with_batch}
use Rattle.gated_log.specs.declared.log.Log.{Log}
use Rattle.gated_log.specs.LogState.{Keeps, log_place, log_room}
use Rattle.graph_model.specs.History.{Account}
use Rattle.log_records.specs.declared.Record.{Record}
use Rattle.page_redo.specs.Pages.{pages_in}
use Rattle.page_redo.specs.Redo.{last_lsn}
use Rattle.page_store.specs.StoreState.{store_plan, stored_lsn, has_failed}
use Rattle.heap_memory.specs.Memory.{Memory}
use Rattle.heap_model.specs.Core.{Core, Ground, ground, all_records, all_words, present_lsn, state_behind, Lands, Stores, made}
use Rattle.heap_model.proofs.Step.Room.{forced-with_batch, records_of-with_batch}
use Rattle.memory_laws.proofs.Kept.Same.{same_pages, same_sessions}
use Rattle.memory_laws.specs.CoreMemory.{ArePages, AreSessions, IsMemory}

-- Nothing but the log, and what is known of the stored pages, may be other than it was.
pub record HasSameWork (old new : Memory) : Type 0 where
  pub words : new.words ≡ old.words
  pub lsns : new.lsns ≡ old.lsns
  pub table : new.table ≡ old.table
  pub locks : new.locks ≡ old.locks
  pub spaces : new.spaces ≡ old.spaces
  pub collection : new.collection ≡ old.collection
  pub sealed : new.sealed ≡ old.sealed

-- batches with all pending records have all records
pub records_forced : (bs : List (List Record)) (p : List Record) → records_of (with_batch bs p) ++ [] ≡ records_of bs ++ p
records_forced bs p = append-nil (records_of (with_batch bs p)) ∙ records_of-with_batch bs p

-- what was pending is on the disk
pub forced_memory : (m n : Memory) (a : Account) (c : Core) → IsMemory m a c → Keeps n.log (with_batch c.batches c.pending) [] → log_place n.log ≡ log_place m.log → log_room n.log ≡ log_room m.log
    → HasSameWork m n → n.store ≡ m.store → IsMemory n a (made c Lands)
forced_memory m n a c is keeps at room same store =
    let records = records_forced c.batches c.pending in
    let d = record c { batches = with_batch c.batches c.pending; words = all_words c; pending = [] } in
    let here : ground d ≡ ground c = ap (λ rs. record { places = c.places; remaining = c.remaining; words = all_words c; state = state_behind c rs }) records in
    subst (IsMemory n a) (sym (forced-with_batch c)) (record {
      log = keeps;
      place = at ∙ is.place;
      room = room ∙ is.room;
      words = same.words ∙ is.words;
      pages = subst (λ (rs : List Record). ArePages n.lsns n.store c.pages c.room (λ p. max (c.stored_lsns p) (last_lsn p 1 rs)) c.stored_lsns) (sym records)
          (same_pages m n c same.lsns store is.pages);
      sessions = subst (λ (g : Ground). AreSessions n.spaces n.collection n.table n.locks n.sealed g c.g0 c.first a) (sym here)
          (same_sessions m n a c same.spaces same.collection same.table same.locks same.sealed is.sessions);
    })

-- a page that is stored has the LSN that it had
still_present : (c : Core) (p lsn q : ℕ) → lsn ≡ present_lsn c p → (b : Bool) → (q == p) ≡ b → present_lsn c q ≡ max (cond b lsn (c.stored_lsns q)) (last_lsn q 1 (all_records c))
still_present c p lsn q is true e = let here = ap (present_lsn c) (eqb-true q p e) in omega (arith, is, here)
still_present c p lsn q is false e = refl

-- it is known to be stored with that one, and each other page with the one that it was stored with
known_stored : (m n : Memory) (a : Account) (c : Core) (p lsn : ℕ) → IsMemory m a c → stored_lsn n.store p ≡ lsn
    → ((q : ℕ) → q ≢ p → stored_lsn n.store q ≡ stored_lsn m.store q) → (q : ℕ) → q < pages_in c.pages → (b : Bool) → (q == p) ≡ b → stored_lsn n.store q ≡ cond b lsn (c.stored_lsns q)
known_stored m n a c p lsn is stored others q within true e = ap (stored_lsn n.store) (eqb-true q p e) ∙ stored
known_stored m n a c p lsn is stored others q within false e = others q (eqb-false q p e) ∙ is.pages.flushed q within

-- a page was stored as it is
pub stored_memory : (m n : Memory) (a : Account) (c : Core) (p lsn : ℕ) → IsMemory m a c → n.log ≡ m.log → HasSameWork m n → store_plan n.store ≡ store_plan m.store → IsFalse (has_failed n.store)
    → lsn ≡ present_lsn c p → stored_lsn n.store p ≡ lsn → ((q : ℕ) → q ≢ p → stored_lsn n.store q ≡ stored_lsn m.store q) → IsMemory n a (made c (Stores p lsn))
stored_memory m n a c p lsn is log same plan unfailed present stored others = record {
  log = subst (λ (l : Log). Keeps l c.batches c.pending) (sym log) is.log;
  place = ap log_place log ∙ is.place;
  room = ap log_room log ∙ is.room;
  words = same.words ∙ is.words;
  pages = record {
    number = ap (λ (l : List ℕ). length l) same.lsns ∙ is.pages.number;
    now = λ q within. ap (λ (l : List ℕ). get_or l q 0) same.lsns ∙ is.pages.now q within ∙ still_present c p lsn q present (q == p) refl;
    flushed = λ q within. known_stored m n a c p lsn is stored others q within (q == p) refl;
    plan = plan ∙ is.pages.plan;
    unfailed = unfailed;
  };
  sessions = same_sessions m n a c same.spaces same.collection same.table same.locks same.sealed is.sessions;
}
