-- The transactions before and after a change of the table.
use Rattle.std.proofs.Common.{◌≡◌, ℕ, ◌+◌, ◌*◌, ◌<◌, ◌≤◌, ◌^◌, inl, inr, Bool, true, false, List, ◌∷◌, length, nat_cmp, reverse, Option, None, Some, refl, sym, ap, ◌∙◌, subst, arith}
use Rattle.std.specs.Prelude.{◌↔◌, IsTrue, IsSome, IfSome, is_some, drop}
use Rattle.std.specs.FinMap.{get-empty}
use Rattle.std.proofs.lemmas.Bool.{cases_eq}
use Rattle.std.proofs.lemmas.Option.{same_Some}
use Rattle.std.proofs.lemmas.List.Elements.{All-cons, All-set, All-replicate}
use Rattle.graph_model.specs.History.{IsSession}
use Rattle.log_machine.specs.declared.UndoEntry.{UndoEntry}
use Rattle.log_machine.specs.Machine.{field_at, end_bytes}
use Rattle.txn_table.specs.declared.place.Place.{Place}
use Rattle.txn_table.specs.Table.{TransactionState, TableState, new_table, new_transaction, transaction_of, with_transaction, with_begun, with_ended, Changes}
use Rattle.txn_table.proofs.TableLaws.{changes_is, changes_same, with_transaction_twice, with_transaction_known, with_transaction_same, with_transaction_other, with_begun_same, with_begun_other, with_ended_same, with_ended_other}
use Rattle.heap_memory.specs.Memory.{kept_for_end, reserved}
use Rattle.heap_memory.specs.Refusals.{handle_refusal}
use Rattle.heap_memory.specs.Leaves.{with_handle}
use Rattle.volatile_area.specs.Area.{AreaState}
use Rattle.heap_engine.specs.Reserve.{active_count, one_if, WroteBelow, can_refer, IsSoundTransaction, AreSound, undo_if}
use Rattle.heap_engine.proofs.ReserveLaws.{total_none, reserved_begun, reserved_ended, reserved_more, count_begun, count_ended, count_same}

-- the transaction that there is
pub there : (o : Option TransactionState) → IsSome o → (t : TransactionState) × (o ≡ Some t)
there (Some t) some = (t, refl)
there None some = absurd (cc some)

-- there is none where a test says so
pub idle : (o : Option TransactionState) (b : Bool) → IsTrue b ↔ IsSome o → b ≡ false → o ≡ None
idle None b test no_one = refl
idle (Some t) b test no_one = let clash = test.1 refl in absurd (cc (clash, no_one))

-- what is said of it
pub told : (o : Option TransactionState) (t : TransactionState) (P : TransactionState → Type 0) → o ≡ Some t → IfSome o P → P t
told o t P is said = subst (λ (p : Option TransactionState). IfSome p P) is said

pub say : (o : Option TransactionState) (t : TransactionState) (P : TransactionState → Type 0) → o ≡ Some t → P t → IfSome o P
say o t P is holds = subst (λ (p : Option TransactionState). IfSome p P) (sym is) holds

-- What a change made of a session's transaction.
pub record IsTurned (old new : TableState) (s : ℕ) (change : TransactionState → TransactionState) : Type 0 where
  pub transaction : TransactionState
  pub was : transaction_of old s ≡ Some transaction
  pub now : transaction_of new s ≡ Some (change transaction)
  pub is : new ≡ with_transaction old s (change transaction)

pub turned : (old new : TableState) (s : ℕ) (change : TransactionState → TransactionState) → IsSome (transaction_of old s) → Changes old new s change → IsTurned old new s change
turned old new s change some changed =
    let t = there (transaction_of old s) some in
    record {
      transaction = t.0;
      was = t.1;
      now = changes_same old new s change t.0 changed t.1;
      is = changes_is old new s change t.0 changed t.1;
    }

-- there is one afterwards
pub still_active : (old new : TableState) (s : ℕ) (change : TransactionState → TransactionState) → IsSome (transaction_of old s) → Changes old new s change → IsSome (transaction_of new s)
still_active old new s change some changed = ap is_some (turned old new s change some changed).now

-- a write that is put to the others and taken off again changes nothing
pub taken_off : (old mid new : TableState) (s : ℕ) (entry : UndoEntry) → IsSome (transaction_of old s) → Changes old mid s (λ t. record t { undo = entry ∷ t.undo })
    → Changes mid new s (λ t. record t { undo = drop 1 t.undo }) → new ≡ old
taken_off old mid new s entry some pushed popped =
    let push : TransactionState → TransactionState = λ t. record t { undo = entry ∷ t.undo } in
    let pop : TransactionState → TransactionState = λ t. record t { undo = drop 1 t.undo } in
    let d = turned old mid s push some pushed in
    let e = turned mid new s pop (ap is_some d.now) popped in
    let t = d.transaction in
    let between : Some e.transaction ≡ Some (push t) = sym e.was ∙ d.now in
    let back : pop e.transaction ≡ t = ap pop (same_Some _ _ between) in
    e.is ∙ (λ i. with_transaction (d.is i) s (back i)) ∙ with_transaction_twice old s (push t) t ∙ with_transaction_known old s t d.was

-- a handle that may be named is one of a transaction
pub granted : (o : Option TransactionState) (h : ℕ) → handle_refusal o h ≡ None → IsSome o
granted None h is = absurd (cc is)
granted (Some t) h is = refl

-- What is known of the transactions.

-- of none where none is active
pub sound_new : (table : TableState) (size : ℕ) → table ≡ new_table table.next → 1 ≤ table.next → table.next < 2 ^ 32 → AreSound table size 0 0
sound_new table size is first small = record {
  each = λ s t has. let none = ap (λ (x : TableState). transaction_of x s) is ∙ get-empty nat_cmp s in absurd (cc (has, none));
  kept = sym (ap reserved is ∙ total_none kept_for_end table.next refl);
  counted = omega (arith, ap (λ (x : TableState). active_count x) is, total_none one_if table.next refl);
  numbered = small;
}

-- of the same ones, in as many words, where as many bytes are kept
pub sound_same : (table other : TableState) (size long bytes now sealed : ℕ) → AreSound table size bytes sealed → other ≡ table → long ≡ size → now ≡ bytes → AreSound other long now sealed
sound_same table other size long bytes now sealed sound is as_long as_many =
    subst (λ (x : TableState). AreSound x long now sealed) (sym is) (subst (λ n. AreSound table n now sealed) (sym as_long) (subst (λ n. AreSound table size n sealed) (sym as_many) sound))

-- of those where one began
new_sound : (size next s : ℕ) → IsSession s → IsSoundTransaction size (next + 1) s (new_transaction next)
new_sound size next s session = record {
  session = session;
  number = omega arith;
  inside = λ k d within. absurd (omega arith);
  held = All-replicate (λ x. can_refer x ≡ true) 64 None refl;
}

-- a later number is next
still_sound : (size next s : ℕ) (t : TransactionState) → IsSoundTransaction size next s t → IsSoundTransaction size (next + 1) s t
still_sound size next s t sound = record { session = sound.session; number = omega (arith, sound.number); inside = sound.inside; held = sound.held }

pub sound_begun : (table : TableState) (size bytes sealed s : ℕ) → AreSound table size bytes sealed → IsSession s → transaction_of table s ≡ None → table.next + 1 < 2 ^ 32
    → AreSound (with_begun table s) size (bytes + end_bytes 0) sealed
sound_begun table size bytes sealed s sound session idle small = record {
  each = λ q t has. elim (cases_eq q s) [
    | inl here ↦
        let own : Some (new_transaction table.next) ≡ Some t = sym (ap (transaction_of (with_begun table s)) here ∙ with_begun_same table s) ∙ has in
        let new = subst (λ (u : TransactionState). IsSoundTransaction size (table.next + 1) s u) (same_Some _ _ own) (new_sound size table.next s session) in
        subst (λ (n : ℕ). IsSoundTransaction size (table.next + 1) n t) (sym here) new
    | inr other ↦ still_sound size table.next q t (sound.each q t (sym (with_begun_other table s q other) ∙ has))
  ];
  kept = ap (λ n. n + end_bytes 0) sound.kept ∙ sym (reserved_begun table s session idle);
  counted = omega (arith, sound.counted, count_begun table s session idle);
  numbered = small;
}

-- where one was changed
pub sound_with : (table : TableState) (size bytes now sealed s more : ℕ) (t u : TransactionState) → AreSound table size bytes sealed → transaction_of table s ≡ Some t → IsSoundTransaction size table.next s u
    → length u.undo ≡ length t.undo + more → now ≡ bytes + 19 * more → AreSound (with_transaction table s u) size now sealed
sound_with table size bytes now sealed s more t u sound has own long kept =
    let session = (sound.each s t has).session in
    record {
      each = λ q v is. elim (cases_eq q s) [
        | inl here ↦
            let is_u : Some u ≡ Some v = sym (ap (transaction_of (with_transaction table s u)) here ∙ with_transaction_same table s u) ∙ is in
            let new = subst (λ (w : TransactionState). IsSoundTransaction size table.next s w) (same_Some _ _ is_u) own in
            subst (λ (n : ℕ). IsSoundTransaction size table.next n v) (sym here) new
        | inr other ↦ sound.each q v (sym (with_transaction_other table s u q other) ∙ is)
      ];
      kept = omega (arith, kept, sound.kept, reserved_more table s t u more session has long);
      counted = omega (arith, sound.counted, count_same table s t u session has);
      numbered = sound.numbered;
    }

-- by a change that leaves its number
pub sound_changed : (old new : TableState) (size bytes now sealed s more : ℕ) (change : TransactionState → TransactionState) → AreSound old size bytes sealed → IsSome (transaction_of old s)
    → Changes old new s change → ((t : TransactionState) → transaction_of old s ≡ Some t → IsSoundTransaction size old.next s t → IsSoundTransaction size old.next s (change t))
    → ((t : TransactionState) → length (change t).undo ≡ length t.undo + more) → now ≡ bytes + 19 * more → AreSound new size now sealed
sound_changed old new size bytes now sealed s more change sound some changed own long kept =
    let d = turned old new s change some changed in
    let t = d.transaction in
    subst (λ (table : TableState). AreSound table size now sealed) (sym d.is)
    (sound_with old size bytes now sealed s more t (change t) sound d.was (own t d.was (sound.each s t d.was)) (long t) kept)

-- so that a handle holds something else
pub sound_handle : (old new : TableState) (size bytes sealed s h : ℕ) (o : Option Place) → AreSound old size bytes sealed → IsSome (transaction_of old s)
    → Changes old new s (λ t. with_handle t h o) → can_refer o ≡ true → AreSound new size bytes sealed
sound_handle old new size bytes sealed s h o sound some changed meant =
    sound_changed old new size bytes bytes sealed s 0 (λ t. with_handle t h o) sound some changed
    (λ t is own. record { session = own.session; number = own.number; inside = own.inside; held = All-set (λ x. can_refer x ≡ true) t.handles h o meant own.held }) (λ t. omega arith) (omega arith)

-- its area
pub sound_area : (old new : TableState) (size bytes sealed s : ℕ) (area : AreaState → AreaState) → AreSound old size bytes sealed → IsSome (transaction_of old s)
    → Changes old new s (λ t. record t { area = area t.area }) → AreSound new size bytes sealed
sound_area old new size bytes sealed s area sound some changed =
    sound_changed old new size bytes bytes sealed s 0 (λ t. record t { area = area t.area }) sound some changed
    (λ t is own. record { session = own.session; number = own.number; inside = own.inside; held = own.held }) (λ t. omega arith) (omega arith)

-- or its writes, by one more
pub sound_write : (old new : TableState) (size bytes sealed s : ℕ) (entry : UndoEntry) → AreSound old size bytes sealed → IsSome (transaction_of old s)
    → Changes old new s (λ t. record t { undo = entry ∷ t.undo }) → field_at entry.object entry.field < size → AreSound new size (bytes + 19) sealed
sound_write old new size bytes sealed s entry sound some changed here =
    sound_changed old new size bytes (bytes + 19) sealed s 1 (λ t. record t { undo = entry ∷ t.undo }) sound some changed
    (λ t is own. record {
      session = own.session;
      number = own.number;
      inside = All-cons (λ (u : UndoEntry). field_at u.object u.field < size) entry t.undo here own.inside;
      held = own.held;
    }) (λ t. omega arith) (omega arith)

-- or has ended, and may have been sealed
pub sound_ended : (table : TableState) (size bytes rest sealed now s : ℕ) (t : TransactionState) → AreSound table size bytes sealed → transaction_of table s ≡ Some t
    → rest + end_bytes (length t.undo) ≡ bytes → now ≤ sealed + 1 → AreSound (with_ended table s) size rest now
sound_ended table size bytes rest sealed now s t sound has kept few =
    let session = (sound.each s t has).session in
    record {
      each = λ q v is. elim (cases_eq q s) [
        | inl here ↦ let none = ap (transaction_of (with_ended table s)) here ∙ with_ended_same table s in absurd (cc (is, none))
        | inr other ↦ sound.each q v (sym (with_ended_other table s q other) ∙ is)
      ];
      kept = omega (arith, kept, sound.kept, reserved_ended table s t session has);
      counted = omega (arith, sound.counted, count_ended table s t session has);
      numbered = sound.numbered;
    }

-- what is kept for its end is among what is kept
pub kept_own : (table : TableState) (size bytes sealed s : ℕ) (t : TransactionState) → AreSound table size bytes sealed → transaction_of table s ≡ Some t → end_bytes (length t.undo) ≤ bytes
kept_own table size bytes sealed s t sound has =
    let ended = reserved_ended table s t (sound.each s t has).session has in
    omega (arith, ended, sound.kept)

-- what the session's transaction wrote, if it has one, lies in the words
pub inside_of : (table : TableState) (size bytes sealed s : ℕ) → AreSound table size bytes sealed → WroteBelow size (undo_if (transaction_of table s))
inside_of table size bytes sealed s sound = cases (transaction_of table s) refl
  where
    cases : (o : Option TransactionState) → transaction_of table s ≡ o → WroteBelow size (undo_if o)
    cases None is = λ k d within. absurd (omega arith)
    cases (Some t) is = (sound.each s t is).inside

-- its writes, the newest last
pub told_undo : (o : Option TransactionState) (us : List UndoEntry) → IsSome o → IfSome o (λ t. reverse us ≡ t.undo) → reverse us ≡ undo_if o
told_undo None us some is = absurd (cc some)
told_undo (Some t) us some is = is
