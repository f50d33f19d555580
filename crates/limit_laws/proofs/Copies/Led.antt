-- What holds of a core while a collection is under way: what it may still copy is kept.
use Rattle.std.proofs.Common.{◌≡◌, ◌⊎◌, ℕ, ◌<◌, true, List, [], ◌∷◌, length, Option, Some, is_some, sym, ap, ◌∙◌, subst}
use Rattle.std.specs.Prelude.{Contains, slice_get, unwrap_or}
use Rattle.std.specs.List.{AllByRecursion}
use Rattle.std.specs.FinMap.{remove}
use Rattle.std.specs.FinSet.{contains}
use Rattle.std.proofs.lemmas.Option.{same_Some, slice_get_within}
use Rattle.graph_model.specs.declared.id.Id.{Id}
use Rattle.graph_model.specs.declared.val.Val.TheVariants.{Ref}
use Rattle.graph_model.specs.Graph.{Graph, fields}
use Rattle.graph_model.specs.History.{Account}
use Rattle.graph_model.specs.Locking.{Exclusive, locks_of}
use Rattle.graph_model.specs.Plain.{view}
use Rattle.graph_model.specs.Transaction.{Transaction, run, serial}
use Rattle.commit_order.specs.Heard.{Heard}
use Rattle.commit_order.proofs.OrderLaws.{IsOrdered}
use Rattle.heap_spaces.specs.Collection.{Collection}
use Rattle.log_records.specs.declared.Record.{Record}
use Rattle.log_machine.specs.declared.UndoEntry.{UndoEntry}
use Rattle.log_machine.specs.Machine.{Loser, State, field_at, losing, spaces_of, undo_of}
use Rattle.log_machine.proofs.Fields.{written}
use Rattle.log_machine.proofs.ListLaws.{AllByRecursion-append}
use Rattle.log_machine.proofs.MapLaws.{each_entry, each_other}
use Rattle.graph_words.specs.Places.{address_of}
use Rattle.graph_words.proofs.Seal.Places.{address_of-append_left}
use Rattle.graph_words.proofs.Stands.Objects.{stands_field_one}
use Rattle.collection_words.specs.Completed.{future}
use Rattle.collection_words.specs.Placing.{moved_by_all}
use Rattle.collection_words.specs.Writes.{AreBacked, IsHereWrite}
use Rattle.page_scanner.specs.Scan.{scan_records}
use Rattle.seen_laws.specs.Heap.{IsHeap, IsUnwritten}
use Rattle.seen_laws.proofs.Kept.{none_wrote}
use Rattle.seen_laws.proofs.Reading.{object_here}
use Rattle.seen_laws.proofs.States.{backed_all, backed_others, others, sealed_stands, viewed_stands, writes_of_all}
use Rattle.heap_model.specs.Core.{Core, all_words, placing}
use Rattle.core_laws.proofs.Collecting.Entries.{all_at}
use Rattle.core_laws.proofs.Sessions.Apart.{own_away, same_length}
use Rattle.core_laws.proofs.Sessions.OtherWrites.{IsAway}
use Rattle.core_laws.proofs.Step.Goes.{writing_of}
use Rattle.core_laws.specs.Valid.{Agrees, IsLockedWrite}
use Rattle.limit_laws.proofs.Copies.Disturbed.{IsSeenAt, scan_new}

-- By what an account says: what remains has the fields that it had at the flip, and gray objects refer to nothing that remains but to what is kept,
-- in the graph that the sealed transactions have left and in what those see that have locked them exclusively.
pub record KeepsLed (K : Id → Type 0) (g : Graph) (a : Account) (e : Core) (s : State) : Type 0 where
  pub rest : (z : Id) → is_some (address_of e.remaining z) ≡ true → fields (serial e.g0 a.sealed) z ≡ fields g z
  pub leads : (k : Collection) → s.collection ≡ Some k → (z y : Id) (at i : ℕ) → address_of e.places z ≡ Some at → contains k.gray at ≡ true → slice_get (fields (serial e.g0 a.sealed) z) i ≡ Some (Ref y)
      → is_some (address_of e.remaining y) ≡ true → K y
  pub seen : (k : Collection) → s.collection ≡ Some k → (r : ℕ) (t : Transaction) (z y : Id) (at i : ℕ) → a.active r ≡ Some t → Contains (locks_of (serial e.g0 a.sealed) t) (z, Exclusive) → address_of e.places z ≡ Some at
      → contains k.gray at ≡ true → slice_get (fields (run (serial e.g0 a.sealed) t).graph z) i ≡ Some (Ref y) → is_some (address_of e.remaining y) ≡ true → K y

-- Such a core, whose transactions run under strict two-phase locking. What is kept refers to such in the graph of the flip.
pub record HasLed (K : Id → Type 0) (g : Graph) (a : Account) (e : Core) (h : Agrees a e) : Type 0 where
  pub closed : (z y : Id) (i : ℕ) → K z → slice_get (fields g z) i ≡ Some (Ref y) → K y
  pub numbers : List ℕ
  pub heard : Heard
  pub ordered : IsOrdered e.g0 numbers a heard
  pub led : KeepsLed K g a e h.behind

-- An event leaves it so, and what remained with the fields that it had.
pub record StaysLed (K : Id → Type 0) (g : Graph) (b : Account) (e f : Core) (n : State) : Type 0 where
  pub rest : (z : Id) → is_some (address_of e.remaining z) ≡ true → fields (serial f.g0 b.sealed) z ≡ fields g z
  pub led : KeepsLed K g b f n

-- Entries.

all_entries : (P : UndoEntry → Type 0) (es : List Loser) → AllByRecursion (λ (e : Loser). AllByRecursion P e.1) es → AllByRecursion P (writes_of_all es)
all_entries P [] all = tt
all_entries P (e ∷ es) all = AllByRecursion-append P e.1 (writes_of_all es) all.0 (all_entries P es all.1)

pub both_hold : (P Q R : UndoEntry → Type 0) (us : List UndoEntry) → ((u : UndoEntry) → P u → Q u → R u) → AllByRecursion P us → AllByRecursion Q us → AllByRecursion R us
both_hold P Q R [] f p q = tt
both_hold P Q R (u ∷ us) f p q = (f u p.0 q.0, both_hold P Q R us f p.1 q.1)

module _ (K : Id → Type 0) (g : Graph) (a : Account) (e : Core) (h : Agrees a e) (has : HasLed K g a e h) (k : Collection) (run_is : h.behind.collection ≡ Some k) where
  heap : IsHeap h.behind e.places e.remaining (all_words e)
  heap = record { spaced = h.told.heap.spaced; long = h.told.heap.long; laid = h.told.heap.laid }

  backed : AreBacked e.places (all_words e) (writes_of_all (losing h.behind))
  backed = backed_all h.behind e.places (all_words e) h.told.backed

  -- a field that an active transaction wrote is one of the object that it locked
  one_field : (r : ℕ) (t : Transaction) → a.active r ≡ Some t → (u : UndoEntry) → IsHereWrite e.places (all_words e) u.object u.field u.was → (held : IsLockedWrite e.places (locks_of (serial e.g0 a.sealed) t) u)
      → (z : Id) (at i : ℕ) → address_of e.places z ≡ Some at → i < length (fields (run (serial e.g0 a.sealed) t).graph z) → field_at u.object u.field ≡ field_at at i → z ≡ held.id
  one_field r t active u here held z at i there within same =
      let sealed = serial e.g0 a.sealed in
      let us = writes_of_all (losing h.behind) in
      let stands = sealed_stands h.behind e.places e.remaining (all_words e) h.told.stands in
      let later = future h.behind (all_words e) e.remaining in
      let size = same_Some here.is.fields (length (fields sealed held.id)) (sym here.is.stands ∙ object_here us heap backed stands held.id u.object held.object) in
      let less : u.field < length (fields sealed held.id) = subst (λ (n : ℕ). u.field < n) size here.is.within in
      let long = same_length a e h has.ordered r t active z at there in
      (stands_field_one stands z held.id at u.object i u.field (address_of-append_left e.places later z at there) (address_of-append_left e.places later held.id u.object held.object)
      (subst (λ (n : ℕ). i < n) long within) less (sym same)).0

  -- what the transaction sees there
  seen_at : (r : ℕ) (t : Transaction) → a.active r ≡ Some t → (u : UndoEntry) → IsHereWrite e.places (all_words e) u.object u.field u.was → IsLockedWrite e.places (locks_of (serial e.g0 a.sealed) t) u
      → IsAway h.behind t.number (written u) → IsSeenAt K h.behind k e.places e.remaining (all_words e) (field_at u.object u.field)
  seen_at r t active u here held away =
      let v = view e.g0 a t in
      let w = writing_of a e r t active h in
      let x = field_at u.object u.field in
      record {
        t = t.number;
        made = v.made;
        seen = v.graph;
        vs = writes_of_all (others h.behind t.number);
        backed = backed_others h.behind t.number e.places (all_words e) h.told.backed;
        stands = viewed_stands h.behind t.number v.made e.places e.remaining (all_words e) w.stands;
        unwritten = none_wrote (others h.behind t.number) x (each_entry (λ q us. IsUnwritten us x) (remove h.behind.undo t.number) (each_other (λ q us. IsUnwritten us x) h.behind.undo t.number away));
        leads = λ z y at i there gray same refers left.
            let one = one_field r t active u here held z at i there (slice_get_within (fields v.graph z) i (Ref y) refers) same in
            has.led.seen k run_is r t z y at i active (subst (λ (id : Id). Contains (locks_of (serial e.g0 a.sealed) t) (id, Exclusive)) (sym one) held.lock) there gray refers left;
      }

  -- of each write that may be taken back
  all_seen : AllByRecursion (λ (u : UndoEntry). IsSeenAt K h.behind k e.places e.remaining (all_words e) (field_at u.object u.field)) (writes_of_all (losing h.behind))
  all_seen =
      let P : UndoEntry → Type 0 = λ u. IsSeenAt K h.behind k e.places e.remaining (all_words e) (field_at u.object u.field) in
      let B : UndoEntry → Type 0 = λ u. IsHereWrite e.places (all_words e) u.object u.field u.was in
      all_entries P (losing h.behind) (each_entry (λ q us. AllByRecursion P us) h.behind.undo (λ q us is.
      let one = h.losers q us is in
      let t = one.transaction in
      let w = writing_of a e one.session t one.active h in
      let mine : undo_of h.behind t.number ≡ us = ap (undo_of h.behind) one.number ∙ ap (λ (o : Option (List UndoEntry)). unwrap_or o []) is in
      let L = IsLockedWrite e.places (locks_of (serial e.g0 a.sealed) t) in
      let A : UndoEntry → Type 0 = λ u. IsAway h.behind t.number (written u) in
      let H : UndoEntry → Type 0 = λ u. L u × A u in
      let held = both_hold L A H (undo_of h.behind t.number) (λ u l w. (l, w)) w.locked (own_away a e h has.ordered one.session t one.active) in
      both_hold B H P us (λ u here both. seen_at one.session t one.active u here both.0 both.1) (h.told.backed q us is) (subst (AllByRecursion H) mine held)))

  -- so a scan of a page leaves nothing in the current space but what was there, or is kept and remained
  pub page_new : (page : ℕ) (records : List Record) → scan_records (spaces_of h.behind) k (all_words e) page ≡ Some records
      → (id : Id) (at : ℕ) → address_of (moved_by_all (placing e) records).places id ≡ Some at → (address_of e.places id ≡ Some at) ⊎ (K id × (is_some (address_of e.remaining id) ≡ true))
  page_new page records planned =
      let P : UndoEntry → Type 0 = λ u. IsSeenAt K h.behind k e.places e.remaining (all_words e) (field_at u.object u.field) in
      let us = writes_of_all (losing h.behind) in
      scan_new K g (serial e.g0 a.sealed) h.behind k e.places e.remaining (all_words e) us page records
      (record { run = run_is; spaced = h.told.heap.spaced; long = h.told.heap.long; small = h.told.heap.small; laid = h.told.heap.laid })
      backed (sealed_stands h.behind e.places e.remaining (all_words e) h.told.stands) planned
      (record { closed = has.closed; rest = has.led.rest; leads = has.led.leads k run_is; written = λ u there. all_at P us u all_seen there })
