-- What the other active transactions see after a seal while a collection runs: it stands after the seal of the completed words, so it
-- stands in the completed words after the seal.
use Rattle.std.proofs.Common.{◌≡◌, ◌≢◌, inl, inr, ℕ, ◌+◌, List, ◌++◌, Some, sym, ◌∙◌, ap, subst, arith}
use Rattle.std.specs.Prelude.{fold}
use Rattle.std.specs.List.{AllByRecursion}
use Rattle.heap_spaces.specs.Collection.{Collection}
use Rattle.graph_model.specs.Transaction.{Transaction, View, serial}
use Rattle.graph_model.specs.History.{Account}
use Rattle.graph_model.specs.Locking.{locks_of}
use Rattle.graph_model.specs.Plain.{view}
use Rattle.commit_order.specs.Heard.{Heard}
use Rattle.commit_order.proofs.OrderLaws.{IsOrdered}
use Rattle.log_machine.specs.declared.UndoEntry.{UndoEntry}
use Rattle.log_machine.proofs.Fields.{written}
use Rattle.log_machine.proofs.ListLaws.{AllByRecursion-map}
use Rattle.log_machine.proofs.MapLaws.{each_remove}
use Rattle.log_machine.specs.Machine.{State, field_at, owed, put_record, undo_of}
use Rattle.graph_words.specs.Places.{Places}
use Rattle.graph_words.specs.Promotion.{moves_of, promoted_need, promoted_places, seal_records}
use Rattle.graph_words.specs.Stands.{AreOfFields, AreWritten, Stands, StandsCommitted}
use Rattle.graph_words.proofs.Area.Fields.{write_at, written_from_field}
use Rattle.graph_words.proofs.Promotion.Sealed.{sealed_state}
use Rattle.graph_words.proofs.Seal.Places.{address_of-append_left}
use Rattle.graph_words.proofs.Seal.Words.{length-records}
use Rattle.collection_words.specs.Completed.{completed, future}
use Rattle.collection_words.specs.Writes.{AreBacked, IsHereWrite}
use Rattle.collection_words.proofs.Laid.Sources.{IsCollecting}
use Rattle.seal_laws.specs.Seal.{CanSealWithin, IsBesideFields, IsSeenThen, IsSeenWithin, Seal, seen_behind, seen_by}
use Rattle.seal_laws.specs.Seal as law
use Rattle.seal_laws.proofs.Beside.{all_or_made, view_kept, whole_kept}
use Rattle.seal_laws.proofs.Left.{seal_committed_then}
use Rattle.seal_laws.proofs.Seen.{written_then}
use Rattle.heap_model.specs.Core.{Core, all_words}
use Rattle.heap_model.proofs.Step.Goes.{told_sound}
use Rattle.core_laws.proofs.Sessions.Whole.{whole_fields, whole_made}
use Rattle.core_laws.proofs.Seal.Others as others
use Rattle.core_laws.proofs.Seal.Others.{IsSealed, Sealed, Sees}
use Rattle.core_laws.proofs.Seal.Told as seal
use Rattle.core_laws.proofs.Seal.Within.{can, listed, listed_all, listed_is, seen_within, within}
use Rattle.core_laws.proofs.Seal.WithinTold.{told_there}
use Rattle.core_laws.proofs.Step.Goes.{words_with, writing_of}
use Rattle.core_laws.specs.Valid.{AreLockedWrites, IsLockedWrite, IsWriting, Agrees}

module _ (a : Account) (c : Core) (h : Agrees a c) {numbers : List ℕ} {heard : Heard} (o : IsOrdered c.g0 numbers a heard) (s : ℕ) (t : Transaction) (e : a.active s ≡ Some t)
    (k : Collection) (run : IsCollecting h.behind k c.places c.remaining (all_words c)) (space : seal.HasSpace a c h o s t e) where
  abbrev it : Seal
  it = within c h.behind k (view c.g0 a t) t.number

  can_it : CanSealWithin it
  can_it = can a c h k run s t e o space

  -- the completed words, and those after their seal
  abbrev words : Sealed
  words = record {
    places = law.all it;
    words = law.whole it;
    used = law.used_then it;
    later_places = law.all it ++ law.placed_then it;
    later_words = fold put_record (law.whole it) (law.records_then it);
    later_used = law.used_then it + law.asked it;
  }

  beside_fields : (x : ℕ) → AllByRecursion (λ v. x ≢ written v) it.undo → IsBesideFields it x
  beside_fields x other f has same =
      let write = write_at (λ v. x ≢ written v) it.undo f.0 f.1 other (written_from_field it.undo f has) in
      let there : written write.0 ≡ field_at f.0 f.1 = ap (λ (y : ℕ). field_at y write.0.field) write.2 ∙ ap (λ (y : ℕ). field_at f.0 y) write.3 in
      write.1 (sym (there ∙ same))

  is_sealed : IsSealed c h.behind (law.last it) t.number (view c.g0 a t).graph words
  is_sealed = record {
    among = λ id at there. there;
    grown = λ id at there. address_of-append_left (law.all it) (law.placed_then it) id at there;
    old_or_new = λ id at there. elim (all_or_made it can_it id at there) [ inl old ↦ inl old | inr own ↦ inr own.maker ];
    long = length-records (law.records_then it) (law.whole it);
    stays = λ x below other. whole_kept it can_it x (omega arith) (beside_fields x other);
    settled = subst (λ ws. StandsCommitted words.later_places (view c.g0 a t).graph ws h.behind.base words.later_used)
        (listed_is h.behind t.number words.later_words) (seal_committed_then it can_it);
    sound = told_sound (told_there a c h o s t e k run space);
  }

  module _ (r : ℕ) (u : Transaction) (apart : s ≢ r) (also : a.active r ≡ Some u) where
    abbrev before : View
    before = view c.g0 a u

    abbrev behind : View
    behind = others.behind a c h o s t e (law.asked it) r u apart also

    abbrev its_undo : List UndoEntry
    its_undo = undo_of h.behind u.number

    -- what the others have written before, and after the seal
    abbrev earlier_others : List UndoEntry
    earlier_others = listed h.behind u.number

    abbrev later_others : List UndoEntry
    later_others = listed (law.last it) u.number

    -- what another transaction sees stands in the completed words
    sees : Sees h.behind before u.number its_undo words.places words.words words.used
    sees =
        let w = writing_of a c r u also h in
        record { stands = w.stands; has = whole_made w; written = w.written; of_fields = whole_fields w }

    locked : AreLockedWrites words.places (locks_of (serial c.g0 a.sealed) u) its_undo
    locked =
        let ls = locks_of (serial c.g0 a.sealed) u in
        AllByRecursion-map (IsLockedWrite c.places ls) (IsLockedWrite words.places ls) its_undo
        (λ v one. record { id = one.id; object = address_of-append_left c.places (future h.behind (all_words c) c.remaining) one.id v.object one.object; lock = one.lock })
        (writing_of a c r u also h).locked

    -- so it stands after the seal of the completed words
    seen_then : IsSeenThen it u.number behind.made behind.graph its_undo later_others
    seen_then =
        let then = others.sees_beside a c h o s t e (law.asked it) r u apart also words is_sealed sees locked in
        record {
          stands = subst (λ ws. Stands u.number behind.made words.later_places behind.graph ws h.behind.base words.later_used) (sym (listed_is (law.last it) u.number words.later_words)) then.stands;
          has = then.has;
          written = then.written;
          of_fields = then.of_fields;
        }

    -- it has made as many objects
    seen_before : IsSeenWithin (seen_by it u.number behind.made before.graph its_undo earlier_others)
    seen_before =
        subst (λ (m : ℕ). IsSeenWithin (seen_by it u.number m before.graph its_undo earlier_others)) (others.alike a c h o s t e (law.asked it) r u apart also).views.made
        (seen_within a c h k run r u also)

    backed : AreBacked c.places (all_words c) later_others
    backed =
        let left = each_remove (λ q us. AreBacked c.places (all_words c) us) h.behind.undo t.number h.told.backed in
        listed_all (λ v. IsHereWrite c.places (all_words c) v.object v.field v.was) (law.last it) u.number (λ q vs some other. left q vs some)

    -- and after the seal
    seen_later : IsSeenWithin (seen_behind it u.number behind.made behind.graph its_undo later_others)
    seen_later =
        let made = (others.alike a c h o s t e (law.asked it) r u apart also).views.made in
        view_kept it can_it u.number behind.made before.graph behind.graph its_undo earlier_others later_others seen_before backed
        (λ i first final. others.its_own a c h o s t e (law.asked it) r u apart also i first (omega arith)) seen_then

    -- what it sees and has written stands in the completed words after the seal of these words
    abbrev Behind : List ℕ → Type 0
    Behind ws =
        let more = seal_records (law.area it) ws it.undo (law.next_free it) in
        let places = c.places ++ promoted_places (law.area it) (moves_of (law.area it) ws it.undo (law.next_free it)) in
        IsWriting places c.remaining behind u.number (locks_of (view c.g0 a t).graph u) (words_with c more) (sealed_state h.behind t.number (promoted_need (law.area it) ws it.undo))

    stays_there : Behind (law.seen it)
    stays_there =
        let last : State = law.last it in
        let later : Places = law.later_places it in
        let all : Places = later ++ future (law.last it) (law.later_words it) c.remaining in
        let own = sym (others.same_undo a c h o s t e (law.asked it) r u apart also) in
        record {
          stands = subst (λ ws. Stands u.number behind.made all behind.graph ws last.base (last.used + owed last))
              (listed_is last u.number (completed last later c.remaining (law.later_words it))) seen_later.stands;
          made = seen_later.has;
          apart = seen_later.none_left;
          written = subst (λ (us : List UndoEntry). AreWritten all behind.graph us) own (written_then (seen_behind it u.number behind.made behind.graph its_undo later_others) seen_later);
          fields = subst (λ (us : List UndoEntry). AreOfFields later behind.graph us) own seen_later.of_fields;
          locked = others.locked_beside a c h o s t e (law.asked it) r u apart also (law.placed it);
          unlocked = others.unlocked_beside a c h o s t e (law.asked it) r u apart also;
          handles = others.handles_beside a c h o s t e (law.asked it) r u apart also (law.placed it);
        }

    -- so it does after the seal as the core does it
    pub stays_beside : Behind (seal.own_words a c h o s t e)
    stays_beside = subst Behind (listed_is h.behind t.number (all_words c)) stays_there
