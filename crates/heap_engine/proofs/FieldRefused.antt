-- What a read or write of a field of an object in the current space is answered.
use Rattle.std.proofs.Common.{◌≡◌, ℕ, ◌<◌, Bool, true, false, Option, Some, None, length, refl, sym, ap, ◌∙◌, arith}
use Rattle.std.specs.Prelude.{IsSome, IfSome, nat_le, if◌then◌else◌}
use Rattle.std.proofs.lemmas.Bool.{leb-true}
use Rattle.graph_model.specs.Plain.{busy_with, first_of_two, reply_of}
use Rattle.graph_model.specs.declared.reply.Refusal.{Refusal}
use Rattle.graph_model.specs.declared.reply.Refusal.TheVariants.{BadField}
use Rattle.graph_model.specs.declared.reply.Reply.{Reply}
use Rattle.object_layout.specs.Layout.{field_words}
use Rattle.object_locks.specs.Holder.{holder_of}
use Rattle.object_locks.specs.declared.holding.Mode.TheVariants.{Shared, Exclusive}
use Rattle.txn_table.specs.declared.place.Place.TheVariants.{Stable}
use Rattle.heap_memory.specs.Memory.{Memory, own}
use Rattle.heap_memory.specs.Refusals.{asked, field_refusal, read_refusal_of, records_room, write_refusal, write_refusal_of, write_room}
use Rattle.heap_memory.specs.Collecting.{barrier_records}
use Rattle.heap_engine.proofs.Tables.{there, told}

there_is : (count i : ℕ) → i < count → field_refusal count i ≡ None
there_is count i low = by_test (nat_le count i) refl
  where
    by_test : (b : Bool) → nat_le count i ≡ b → (if b then Some BadField else None) ≡ None
    by_test true is = let past = leb-true count i is in absurd (omega arith)
    by_test false is = refl

-- what is left where the field is there and no one holds the object
second : (first busy room : Option Refusal) → first ≡ None → busy ≡ None → first_of_two first (first_of_two busy room) ≡ room
second first busy room none free = (λ i. first_of_two (none i) (first_of_two (free i) room))

-- what a read of a field is answered that is there, in an object that no one else holds: the refusal for lack of room, if there is one
pub read_answer : (m : Memory) (session object field number : ℕ) (why : Option Refusal) (answer reply : Reply) → IsSome (own m session) → IfSome (own m session) (λ t. number ≡ t.number)
    → field < length (field_words m.words object) → busy_with (holder_of m.locks (asked number Shared object)) ≡ None → records_room m (barrier_records m object field) ≡ why → answer ≡ reply_of why reply
    → answer ≡ reply_of (read_refusal_of m (own m session) (Stable object) field) reply
read_answer m session object field number why answer reply some numbered low free room is =
    let t = there (own m session) some in
    let same = told (own m session) t.0 (λ u. number ≡ u.number) t.1 numbered in
    let none = ap (λ n. busy_with (holder_of m.locks (asked n Shared object))) (sym same) ∙ free in
    let left : read_refusal_of m (Some t.0) (Stable object) field ≡ why = second _ _ _ (there_is (length (field_words m.words object)) field low) none ∙ room in
    is ∙ ap (λ o. reply_of o reply) (sym (ap (λ o. read_refusal_of m o (Stable object) field) t.1 ∙ left))

-- and a write
pub write_answer : (m : Memory) (session object field number : ℕ) (why : Option Refusal) (answer reply : Reply) → IsSome (own m session) → IfSome (own m session) (λ t. number ≡ t.number)
    → field < length (field_words m.words object) → busy_with (holder_of m.locks (asked number Exclusive object)) ≡ None → write_room m (Stable object) field ≡ why → answer ≡ reply_of why reply
    → answer ≡ reply_of (write_refusal m session (Stable object) field) reply
write_answer m session object field number why answer reply some numbered low free room is =
    let t = there (own m session) some in
    let same = told (own m session) t.0 (λ u. number ≡ u.number) t.1 numbered in
    let none = ap (λ n. busy_with (holder_of m.locks (asked n Exclusive object))) (sym same) ∙ free in
    let left : write_refusal_of m (Some t.0) (Stable object) field ≡ why = second _ _ _ (there_is (length (field_words m.words object)) field low) none ∙ room in
    is ∙ ap (λ o. reply_of o reply) (sym (ap (λ o. write_refusal_of m o (Stable object) field) t.1 ∙ left))
