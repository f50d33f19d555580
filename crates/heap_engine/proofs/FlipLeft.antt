-- What a planned flip asks for, and what it leaves.
use Rattle.std.proofs.Common.{◌≡◌, ℕ, ◌+◌, ◌*◌, ◌-◌, ◌<◌, ◌≤◌, ◌==◌, ◌||◌, Bool, true, false, inl, inr, List, [], ◌∷◌, length, Option, None, Some, is_some, refl, sym, ap, ◌∙◌, subst, arith, length-append}
use Rattle.std.specs.Prelude.{if◌then◌else◌}
use Rattle.std.specs.List.{AllByRecursion, flat_map, enumerate_from}
use Rattle.std.specs.Ordering.{nat_cmp}
use Rattle.std.specs.FinSet.{FinSet, contains, insert, contains-empty}
use Rattle.std.proofs.lemmas.Bool.{eqb-true, false≢true}
use Rattle.heap_words.specs.declared.Header.TheVariants.{Forward}
use Rattle.heap_words.specs.Header.{header_bits}
use Rattle.heap_spaces.specs.Addresses.{with_all}
use Rattle.heap_spaces.specs.Collection.{Collection, gray_from, owed_by}
use Rattle.heap_spaces.specs.Copying.{begun, with_copies}
use Rattle.heap_spaces.specs.Spaces.{SpacesState, IsSpaces, flipped, with_copied}
use Rattle.heap_spaces.specs.declared.collection.CopiedObject.{CopiedObject}
use Rattle.log_records.specs.declared.copies.ObjectCopy.{ObjectCopy}
use Rattle.log_records.specs.declared.Record.TheVariants.{Flip}
use Rattle.log_records.specs.Copies.{copy_bytes}
use Rattle.log_records.specs.Record.{spelling}
use Rattle.log_records.proofs.RecordLaws.{length-copy_bytes}
use Rattle.log_machine.specs.Collecting.{pairs_of}
use Rattle.log_machine.specs.Effect.{EachWritesBelow}
use Rattle.log_machine.specs.Machine.{words_in, writes_of}
use Rattle.log_machine.proofs.Addresses.{each_address}
use Rattle.log_machine.proofs.ListLaws.{AllByRecursion-append}
use Rattle.log_machine.proofs.WordsFrom.{from_below}
use Rattle.flip_copy.specs.Copied.{moved_objects, copied_size}
use Rattle.flip_copy.specs.Plan.{HasObjectSize, StoodInOrder, StandEndToEnd, AreCopiesOf}
use Rattle.flip_copy.proofs.CopiesLaws.{size_more, moved_size, ordered_size, count_least, planned_size}
use Rattle.graph_model.specs.declared.reply.Reply.TheVariants.{Collecting}
use Rattle.graph_model.specs.Plain.{reply_of}
use Rattle.heap_engine.specs.Barrier.{IsSoundCollection, IsSoundIn}
use Rattle.heap_memory.specs.Memory.{Memory}
use Rattle.heap_memory.specs.Leaves.{Leaves, Flips}
use Rattle.heap_memory.specs.Collecting.{flip_copies}
use Rattle.heap_memory.specs.Refusals.{flip_refusal}
use Rattle.heap_memory.specs.Replies.{flip_reply}
use Rattle.object_locks.specs.Holdings.{rekeyed}
use Rattle.txn_table.specs.Roots.{AreRoots}
use Rattle.txn_table.specs.Translation.{HaveGoneAlong}
use Rattle.heap_engine.proofs.TakenBack.{inserted_at}

-- The record.

copies_bytes : (copies : List ObjectCopy) → length (flat_map copy_bytes copies) ≡ 8 * length copies + 8 * copied_size copies
copies_bytes [] = refl
copies_bytes (copy ∷ copies) =
    let more = copies_bytes copies in
    let size = size_more copy copies in
    omega (arith, length-append (copy_bytes copy) (flat_map copy_bytes copies), length-copy_bytes copy, more, size)

-- it has at most that many bytes
pub flip_bytes : (spaces : SpacesState) (copies : List ObjectCopy) → IsSpaces spaces → AreCopiesOf spaces copies → length (spelling (Flip copies)) ≤ 12582917
flip_bytes spaces copies is are =
    let bytes = copies_bytes copies in
    let size = planned_size spaces copies are in
    let count = count_least copies are.sized in
    omega (arith, bytes, size, count, is.few, is.room)

copies_below : (end from stop to : ℕ) (copies : List ObjectCopy) → AllByRecursion HasObjectSize copies → StoodInOrder from stop copies → StandEndToEnd to copies → stop ≤ end → to + copied_size copies ≤ end
    → AllByRecursion (λ w. w.0 < end) (flat_map writes_of copies)
copies_below end from stop to [] sized ordered together stood fits = tt
copies_below end from stop to (copy ∷ copies) sized ordered together stood fits =
    let size = size_more copy copies in
    let least = sized.0.least in
    let rest = ordered_size (copy.from + length copy.words) stop copies ordered.1 in
    AllByRecursion-append (λ (w : ℕ × ℕ). w.0 < end) (writes_of copy) (flat_map writes_of copies)
    (AllByRecursion-append (λ (w : ℕ × ℕ). w.0 < end) (enumerate_from copy.to copy.words) ((copy.from, header_bits (Forward copy.to)) ∷ [])
    (from_below copy.to end copy.words (omega (arith, together.0, size, fits))) (omega (arith, rest, stood, least), tt))
    (copies_below end (copy.from + length copy.words) stop (to + length copy.words) copies sized.1 ordered.1 together.1 stood (omega (arith, fits, size)))

-- it writes words that there are
pub flip_below : (spaces : SpacesState) (copies : List ObjectCopy) (end : ℕ) → IsSpaces spaces → AreCopiesOf spaces copies → end ≡ words_in spaces.pages → EachWritesBelow end (Flip copies ∷ [])
flip_below spaces copies end is are long =
    let size = planned_size spaces copies are in
    let first = is.first in
    let stop : spaces.base + spaces.used ≤ end = elim first [ inl low ↦ omega (arith, low, is.room, long) | inr high ↦ omega (arith, high, is.room, long) ] in
    let fits : (flipped spaces).base + copied_size copies ≤ end = omega (arith, size, is.room, long) in
    (each_address (λ a. a < end) (flat_map writes_of copies) (copies_below end spaces.base (spaces.base + spaces.used) (flipped spaces).base copies are.sized are.ordered are.together stop fits), tt)

-- The spaces and the collection.

gray_below : (copies : List ObjectCopy) (s : FinSet nat_cmp) (to bound at : ℕ) → AllByRecursion HasObjectSize copies → StandEndToEnd to copies → to + copied_size copies ≤ bound → (contains s at ≡ true → at < bound)
    → contains (with_all s (flat_map (λ (c : CopiedObject). gray_from c.to c.header) (moved_objects copies))) at ≡ true → at < bound
gray_below [] s to bound at sized together fits before is = before is
gray_below (copy ∷ copies) s to bound at sized together fits before is =
    let size = size_more copy copies in
    let least = sized.0.least in
    gray_below copies (insert s copy.to) (to + length copy.words) bound at sized.1 together.1 (omega (arith, fits, size)) here is
  where
    cases : (b : Bool) → (copy.to == at) ≡ b → (b || contains s at) ≡ true → at < bound
    cases true same in_it = let size = size_more copy copies in let least = sized.0.least in let at_it = eqb-true copy.to at same in omega (arith, at_it, together.0, fits, size, least)
    cases false other in_it = before in_it

    here : contains (insert s copy.to) at ≡ true → at < bound
    here in_it = cases (copy.to == at) refl (sym (inserted_at s copy.to at) ∙ in_it)

-- what is known of the collection that has begun
pub flip_sound : (spaces now : SpacesState) (copies : List ObjectCopy) (runs : Option Collection) → IsSpaces spaces → AreCopiesOf spaces copies → now ≡ with_copied (flipped spaces) (copied_size copies)
    → runs ≡ Some (with_copies (begun spaces.used) (moved_objects copies)) → IsSoundIn now runs
flip_sound spaces now copies runs is are same begins k own =
    let size = planned_size spaces copies are in
    let moved = moved_size copies in
    let begun_is : Some (with_copies (begun spaces.used) (moved_objects copies)) ≡ Some k = sym begins ∙ own in
    let sound : IsSoundCollection (with_copied (flipped spaces) (copied_size copies)) (with_copies (begun spaces.used) (moved_objects copies)) = record {
      copied = omega (arith, size, moved);
      used = omega (arith, is.room);
      gray = λ at gray. gray_below copies (begun spaces.used).gray (flipped spaces).base ((flipped spaces).base + (0 + copied_size copies)) at are.sized are.together (omega arith)
          (λ none. absurd (false≢true (sym (contains-empty nat_cmp at) ∙ none))) gray;
    } in
    subst (λ (s : SpacesState). IsSoundCollection s k) (sym same) (subst (λ (c : Collection). IsSoundCollection (with_copied (flipped spaces) (copied_size copies)) c) (cc) sound)

-- what it owes is kept free
pub flip_owes : (spaces now : SpacesState) (copies : List ObjectCopy) (runs : Option Collection) → now ≡ with_copied (flipped spaces) (copied_size copies) → runs ≡ Some (with_copies (begun spaces.used) (moved_objects copies))
    → now.owed ≡ owed_by runs
flip_owes spaces now copies runs same begins =
    let moved = moved_size copies in
    let owed = ap (λ (s : SpacesState). s.owed) same in
    let kept : spaces.used - copied_size copies ≡ owed_by (Some (with_copies (begun spaces.used) (moved_objects copies))) = omega (arith, moved) in
    owed ∙ kept ∙ sym (ap owed_by begins)

-- it has kept the copies
pub flip_begins : (spaces : SpacesState) (copies : List ObjectCopy) (moved : List CopiedObject) (first new : Collection) (used : ℕ) → first ≡ begun used → used ≡ spaces.used → moved ≡ moved_objects copies
    → new ≡ with_copies first moved → Some new ≡ Some (with_copies (begun spaces.used) (moved_objects copies))
flip_begins spaces copies moved first new used begins as_many are kept = λ i. Some ((kept ∙ (λ j. with_copies ((begins ∙ ap begun as_many) j) (are j))) i)

-- What is answered where a collection runs.
pub flip_waits : (m : Memory) (roots : List ℕ) → is_some m.collection ≡ true → Collecting ≡ reply_of (flip_refusal m roots) (flip_reply m roots)
flip_waits m roots runs = ap (λ (b : Bool). reply_of (if b then None else flip_refusal (record m { collection = None }) roots) (if b then Collecting else flip_reply (record m { collection = None }) roots)) (sym runs)

-- the flip of these copies
pub flips_with : (old new : Memory) (roots : List ℕ) (copies : List ObjectCopy) → copies ≡ flip_copies old roots → old.collection ≡ None → AreRoots old.table old.locks roots → HaveGoneAlong (pairs_of copies) old.table new.table
    → Leaves old new (Flip copies ∷ []) new.table (rekeyed (pairs_of copies) old.locks) (with_copied (flipped old.spaces) (copied_size copies)) (Some (with_copies (begun old.spaces.used) (moved_objects copies))) old.sealed
    → Flips old new roots
flips_with old new roots copies are idle named gone left = record {
  idle = idle;
  named = named;
  moved = subst (λ (cs : List ObjectCopy). HaveGoneAlong (pairs_of cs) old.table new.table) are gone;
  left =
      subst (λ (cs : List ObjectCopy). Leaves old new (Flip cs ∷ []) new.table (rekeyed (pairs_of cs) old.locks) (with_copied (flipped old.spaces) (copied_size cs)) (Some (with_copies (begun old.spaces.used) (moved_objects cs))) old.sealed)
      are left;
}
