-- What the other active transactions see after a seal where no collection is under way.
use Rattle.std.proofs.Common.{◌≡◌, ◌≢◌, ◌⊎◌, inl, inr, ℕ, ◌+◌, ◌<◌, ◌++◌, List, get_or, Some, sym, subst, arith}
use Rattle.std.specs.Prelude.{fold}
use Rattle.std.specs.List.{AllByRecursion}
use Rattle.graph_model.specs.declared.id.Id.{Id}
use Rattle.graph_model.specs.Transaction.{Transaction}
use Rattle.graph_model.specs.History.{Account}
use Rattle.graph_model.specs.Locking.{locks_of}
use Rattle.graph_model.specs.Plain.{view}
use Rattle.commit_order.specs.Heard.{Heard}
use Rattle.commit_order.proofs.OrderLaws.{IsOrdered}
use Rattle.log_machine.specs.declared.UndoEntry.{UndoEntry}
use Rattle.log_machine.proofs.Fields.{written}
use Rattle.log_machine.specs.Apart.{others_taken_back}
use Rattle.log_machine.specs.Machine.{put_record, undo_of}
use Rattle.graph_words.specs.Places.{Places, address_of}
use Rattle.graph_words.proofs.Promotion.Seal.{is_sealing, sealing}
use Rattle.graph_words.proofs.Seal.Places.{address_of-append_left}
use Rattle.graph_words.proofs.Seal.Values.{later_cases}
use Rattle.graph_words.proofs.Seal.Words.{length-records}
use Rattle.graph_words.specs.Stands.{Stands, StandsCommitted, AreWritten, AreOfFields}
use Rattle.collection_words.specs.Completed.{future}
use Rattle.collection_words.proofs.Heap.Cases.{HasNone, IsPlain, plain}
use Rattle.heap_model.specs.Core.{Core}
use Rattle.heap_model.proofs.Step.Goes.{told_sound}
use Rattle.heap_model.proofs.Step.Plain.{as_plain, of_plain}
use Rattle.core_laws.proofs.Step.Goes.{words_with, writing_of}
use Rattle.core_laws.proofs.Seal.Others as others
use Rattle.core_laws.proofs.Seal.Others.{IsSealed, Sealed, Sees}
use Rattle.core_laws.proofs.Seal.Plain as here
use Rattle.core_laws.proofs.Seal.Told as seal
use Rattle.core_laws.proofs.Seal.Words.{promotion_writes, untouched}
use Rattle.core_laws.specs.Valid.{IsWriting, Agrees}

module _ (a : Account) (c : Core) (h : Agrees a c) {numbers : List ℕ} {heard : Heard} (o : IsOrdered c.g0 numbers a heard) (s : ℕ) (t : Transaction) (e : a.active s ≡ Some t)
    (none : HasNone h.behind c.remaining) (space : seal.HasSpace a c h o s t e) where
  abbrev now : List ℕ
  now = seal.now a c h o s t e

  -- the objects that stand in the space after the seal
  abbrev later : Places
  later = c.places ++ seal.placed a c h o s t e

  -- and all words
  abbrev then : List ℕ
  then = fold put_record now (seal.promotion a c h o s t e)

  abbrev words : Sealed
  words = record {
    places = c.places;
    words = now;
    used = h.behind.used;
    later_places = later;
    later_words = then;
    later_used = h.behind.used + seal.asked a c h o s t e;
  }

  -- what stands in the space then stood there before, or the sealed transaction made it
  pub old_or_new : (id : Id) (at : ℕ) → address_of later id ≡ Some at → (address_of c.places id ≡ Some at) ⊎ (id.t ≡ t.number)
  old_or_new id at there =
      let it = sealing c.places (view c.g0 a t).graph t.number (view c.g0 a t).made (seal.own_undo a c h o s t e) (seal.own_words a c h o s t e) h.behind.base h.behind.used (seal.next_free a c h o s t e) in
      elim (later_cases it (is_sealing (here.can a c h o s t e none space)) id at there) [ inl old ↦ inl old | inr to ↦ inr to.own.maker ]

  -- a used word that the transaction did not write stays
  stays : (x : ℕ) → x < h.behind.base + h.behind.used → AllByRecursion (λ v. x ≢ written v) (undo_of h.behind t.number) → get_or then x 0 ≡ get_or now x 0
  stays x below other =
      untouched (seal.promotion a c h o s t e) now x
      (promotion_writes (λ y. x ≢ y) (seal.own_area a c h o s t e) (seal.own_words a c h o s t e) (seal.own_undo a c h o s t e) (seal.next_free a c h o s t e) (λ y above same. omega arith) other)

  is_sealed : IsSealed c h.behind (seal.last a c h o s t e) t.number (view c.g0 a t).graph words
  is_sealed = record {
    among = λ id at there. address_of-append_left c.places (future h.behind now c.remaining) id at there;
    grown = λ id at there. address_of-append_left c.places (seal.placed a c h o s t e) id at there;
    old_or_new = old_or_new;
    long = length-records (seal.promotion a c h o s t e) now;
    stays = stays;
    settled = subst (λ ws. StandsCommitted later (view c.g0 a t).graph ws h.behind.base (h.behind.used + seal.asked a c h o s t e))
        (sym (here.settled_words a c h o s t e none space)) (here.settled_stands a c h o s t e none space);
    sound = told_sound (here.sealed_told a c h o s t e none space);
  }

  module _ (r : ℕ) (u : Transaction) (apart : s ≢ r) (also : a.active r ≡ Some u) where
    before_plain : IsPlain h.behind c.places c.remaining now
    before_plain = plain h.behind c.places c.remaining now none

    behind_plain : IsPlain (seal.last a c h o s t e) later c.remaining then
    behind_plain = plain (seal.last a c h o s t e) later c.remaining then (here.behind_none a c h o s t e none space)

    -- what another transaction sees stands in the words
    sees : Sees h.behind (view c.g0 a u) u.number (undo_of h.behind u.number) c.places now h.behind.used
    sees =
        let w = writing_of a c r u also h in
        record {
          stands = as_plain (λ ps ws n. Stands u.number (view c.g0 a u).made ps (view c.g0 a u).graph (others_taken_back h.behind u.number ws) h.behind.base n) before_plain w.stands;
          has = w.made;
          written = as_plain (λ ps ws n. AreWritten ps (view c.g0 a u).graph (undo_of h.behind u.number)) before_plain w.written;
          of_fields = w.fields;
        }

    -- so it stands after the seal
    pub stays_beside : IsWriting later c.remaining (others.behind a c h o s t e (seal.asked a c h o s t e) r u apart also) u.number
        (locks_of (view c.g0 a t).graph u) (words_with c (seal.records a c h o s t e)) (seal.last a c h o s t e)
    stays_beside =
        let last = seal.last a c h o s t e in
        let asked = seal.asked a c h o s t e in
        let behind = others.behind a c h o s t e asked r u apart also in
        let w = writing_of a c r u also h in
        let then_sees = others.sees_beside a c h o s t e asked r u apart also words is_sealed sees w.locked in
        let own = sym (others.same_undo a c h o s t e asked r u apart also) in
        subst (λ (ws : List ℕ). IsWriting later c.remaining behind u.number (locks_of (view c.g0 a t).graph u) ws last) (sym (seal.words_behind a c h o s t e space)) (record {
          stands = of_plain (λ ps ws n. Stands u.number behind.made ps behind.graph (others_taken_back last u.number ws) last.base n) behind_plain then_sees.stands;
          made = then_sees.has;
          apart = w.apart;
          written = of_plain (λ ps ws n. AreWritten ps behind.graph (undo_of last u.number)) behind_plain (subst (λ (us : List UndoEntry). AreWritten later behind.graph us) own then_sees.written);
          fields = subst (λ (us : List UndoEntry). AreOfFields later behind.graph us) own then_sees.of_fields;
          locked = others.locked_beside a c h o s t e asked r u apart also (seal.placed a c h o s t e);
          unlocked = others.unlocked_beside a c h o s t e asked r u apart also;
          handles = others.handles_beside a c h o s t e asked r u apart also (seal.placed a c h o s t e);
        })
