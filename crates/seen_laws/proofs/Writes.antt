-- No record writes a word of the from-space but forwarding words.
use Rattle.std.proofs.Common.{◌≡◌, ℕ, ◌+◌, ◌≤◌, inl, inr, Bool, true, false, List, [], ◌∷◌, length, Option, None, Some, refl, sym, ap, ◌∙◌, subst, arith}
use Rattle.std.specs.Prelude.{◌-◌, ◌&&◌, nat_le, nat_lt, option_and_then, if◌then◌else◌}
use Rattle.std.specs.List.{AllByRecursion, enumerate_from, flat_map, list_all}
use Rattle.std.proofs.lemmas.Bool.{and_from, and_parts, le-leb, leb-true, lt-ltb, ltb-true}
use Rattle.std.proofs.lemmas.Option.{cond_some, option_and_then_some}
use Rattle.heap_words.specs.declared.Header.TheVariants.{Forward}
use Rattle.heap_words.specs.Header.{header_bits}
use Rattle.heap_words.specs.Word.{meaning}
use Rattle.heap_spaces.specs.Collection.{Collection}
use Rattle.log_records.specs.declared.Record.{Record}
use Rattle.log_records.specs.declared.Record.TheVariants.{Update, Base, Fix, Undo, Commit, End, Copy, Scan, Flip, Collected}
use Rattle.log_records.specs.declared.copies.ObjectCopy.{ObjectCopy}
use Rattle.log_machine.specs.UndoEntry.{LiesInside, undo_entry}
use Rattle.log_machine.specs.Collecting.{can_put, collecting_after, copies_after, copy_after, is_used, leads_to_used, other_base, scanned_in, with_roles_changed}
use Rattle.log_machine.specs.Machine.{State, after, field_at, is_number_or_none, lies_inside, number_of, row_after, settled, space_words, turned, undo_of, with_entries, without_newest, writes_of}
use Rattle.log_machine.specs.Sound.{IsConsistent}
use Rattle.log_machine.specs.declared.UndoEntry.{UndoEntry}
use Rattle.log_machine.proofs.Addresses.{each_address}
use Rattle.log_machine.proofs.CopyRows.{consistent_copied, copy_told, within}
use Rattle.log_machine.proofs.FlipLaws.{consistent_roles, flip_copies}
use Rattle.log_machine.proofs.ListLaws.{AllByRecursion-append, AllByRecursion-map}
use Rattle.log_machine.proofs.MachineLaws.{free_told, inside_told, newest_told}
use Rattle.log_machine.proofs.StateLaws.{all_inside}
use Rattle.collection_words.specs.Completed.{in_other_space}
use Rattle.seen_laws.specs.Writing.{IsCopyWrite, IsFreeWord, IsUsedWord, WritesInPlace}

-- Words that records of transactions write.

-- what follows if a test passes follows
pub passed : (b : Bool) (o : Option State) (n : State) → (if b then o else None) ≡ Some n → o ≡ Some n
passed true o n e = e
passed false o n e = cc e

-- a field that lies inside is a used word
used_field : (s : State) (u : UndoEntry) → LiesInside s.base s.used u → IsUsedWord s (field_at u.object u.field)
used_field s u lies = let above = lies.above in let below = lies.below in record { above = omega arith; below = omega arith }

told_field : (s : State) (object field was : ℕ) → lies_inside s object field ≡ true → IsUsedWord s (field_at object field)
told_field s object field was inside = used_field s (undo_entry object field was) (inside_told s object field was inside)

-- words from the next free one on are free, where the space has room for them
free_words : (s : State) (address : ℕ) (words : List ℕ) → s.base + s.used ≤ address → address + length words ≤ s.base + space_words s.pages → AllByRecursion (λ w. IsFreeWord s w.0) (enumerate_from address words)
free_words s address [] above room = tt
free_words s address (w ∷ ws) above room = (record { above = above; below = omega arith }, free_words s (address + 1) ws (omega arith) (omega arith))

undone_field : (s n : State) (t object field word : ℕ) (o : Option (List UndoEntry)) → IsConsistent s → without_newest (undo_of s t) (undo_entry object field word) ≡ o
    → option_and_then (λ rest. Some (turned s t (with_entries s.undo t rest) 0)) o ≡ Some n → IsUsedWord s (field_at object field)
undone_field s n t object field word None is newest e = cc e
undone_field s n t object field word (Some rest) is newest e =
    let u : UndoEntry = undo_entry object field word in
    let inside = subst (λ (us : List UndoEntry). AllByRecursion (LiesInside s.base s.used) us) (newest_told (undo_of s t) u rest newest) (all_inside s t is.sound) in
    used_field s u inside.0

-- Records of a collection.

-- a copy
copy_writes_in : (s n : State) (copy : ObjectCopy) → IsConsistent s → copy_after s copy ≡ Some n → AllByRecursion (IsCopyWrite s) (writes_of copy)
copy_writes_in s n copy is e =
    let told = copy_told s n copy e in
    let inside = within s told.k is.spaced told.runs in
    let front = told.can.front in
    let at = told.can.at in
    let room = told.can.room in
    let low = told.can.low in
    let high = told.can.high in
    let used = inside.used in
    let words_free = AllByRecursion-map (λ (w : ℕ × ℕ). IsFreeWord s w.0) (IsCopyWrite s) (enumerate_from copy.to copy.words) (λ w free. inl free) (free_words s copy.to copy.words (omega arith) (omega arith)) in
    let old : in_other_space s copy.from ≡ true = and_from _ _ (le-leb (other_base s) copy.from low) (lt-ltb copy.from (other_base s + space_words s.pages) (omega arith)) in
    AllByRecursion-append (IsCopyWrite s) (enumerate_from copy.to copy.words) ((copy.from, header_bits (Forward copy.to)) ∷ []) words_free
    (inr (record { to = copy.to; old = old; word = refl; leads = record { above = omega arith; below = omega arith } }), tt)

-- A state has the spaces of another one, of which it uses as much or more.
record HasUsedMore (s n : State) : Type 0 where
  base : n.base ≡ s.base
  pages : n.pages ≡ s.pages
  more : s.used ≤ n.used

earlier_free : (s n : State) (at : ℕ) → HasUsedMore s n → IsFreeWord n at → IsFreeWord s at
earlier_free s n at more free =
    let base = more.base in
    let used = more.more in
    let above = free.above in
    let below = free.below in
    let size : space_words n.pages ≡ space_words s.pages = ap space_words more.pages in
    record { above = omega arith; below = omega arith }

earlier_write : (s n : State) (w : ℕ × ℕ) → HasUsedMore s n → IsCopyWrite n w → IsCopyWrite s w
earlier_write s n w more (inl free) = inl (earlier_free s n w.0 more free)
earlier_write s n w more (inr forward) =
    let same : in_other_space n w.0 ≡ in_other_space s w.0 =
    ap (λ (b : ℕ). nat_le (space_words n.pages - b) w.0 && nat_lt w.0 (space_words n.pages - b + space_words n.pages)) more.base
    ∙ ap (λ (p : ℕ). nat_le (space_words p - s.base) w.0 && nat_lt w.0 (space_words p - s.base + space_words p)) more.pages in
    inr (record { to = forward.to; old = sym same ∙ forward.old; word = forward.word; leads = earlier_free s n forward.to more forward.leads })

-- several copies
copies_write_in : (first s n : State) (copies : List ObjectCopy) → HasUsedMore first s → IsConsistent s → copies_after s copies ≡ Some n → AllByRecursion (IsCopyWrite first) (flat_map writes_of copies)
copies_write_in first s n [] more is e = tt
copies_write_in first s n (copy ∷ copies) more is e =
    option_and_then_some (λ next. copies_after next copies) (copy_after s copy) n e (λ next one rest.
    let told = copy_told s next copy one in
    let base : next.base ≡ first.base = ap (λ (x : State). x.base) (sym told.is) ∙ more.base in
    let pages : next.pages ≡ first.pages = ap (λ (x : State). x.pages) (sym told.is) ∙ more.pages in
    let used : next.used ≡ s.used + length copy.words = ap (λ (x : State). x.used) (sym told.is) in
    let before = more.more in
    AllByRecursion-append (IsCopyWrite first) (writes_of copy) (flat_map writes_of copies)
    (AllByRecursion-map (IsCopyWrite s) (IsCopyWrite first) (writes_of copy) (λ w is_one. earlier_write first s w more is_one) (copy_writes_in s next copy is one))
    (copies_write_in first next n copies (record { base = base; pages = pages; more = omega arith }) (consistent_copied s next copy is one) rest))

-- a scan
scan_writes_in : (s : State) (writes : List (ℕ × ℕ)) → list_all (can_put s) writes ≡ true → AllByRecursion (λ w. IsUsedWord s w.0) writes
scan_writes_in s [] all = tt
scan_writes_in s (w ∷ ws) all =
    let parts = and_parts (can_put s w) (list_all (can_put s) ws) all in
    let put = and_parts (is_used s w.0) (leads_to_used s (meaning w.1)) parts.0 in
    let used = and_parts (nat_le s.base w.0) (nat_lt w.0 (s.base + s.used)) put.0 in
    (record { above = leb-true s.base w.0 used.0; below = ltb-true w.0 (s.base + s.used) used.1 }, scan_writes_in s ws parts.1)

scan_told : (s n : State) (page : ℕ) (writes : List (ℕ × ℕ)) (c : Option Collection) → scanned_in s page writes c ≡ Some n → AllByRecursion (λ w. IsUsedWord s w.0) writes
scan_told s n page writes None e = absurd (cc e)
scan_told s n page writes (Some k) e = scan_writes_in s writes (and_parts _ _ (cond_some _ _ _ e).0).1

-- A record of a collection that can follow writes in place.
pub collection_writes : (s n : State) (rec : Record) → IsConsistent s → collecting_after s rec ≡ Some n → WritesInPlace s rec
collection_writes s n (Update t object field was word) is e = absurd (cc e)
collection_writes s n (Base t address words) is e = absurd (cc e)
collection_writes s n (Fix t object field word) is e = absurd (cc e)
collection_writes s n (Undo t object field word) is e = absurd (cc e)
collection_writes s n (Commit t) is e = absurd (cc e)
collection_writes s n (End t) is e = absurd (cc e)
collection_writes s n (Copy from to words) is e = copy_writes_in s n (record { from = from; to = to; words = words }) is e
collection_writes s n (Scan page writes) is e = scan_told s n page writes s.collection e
collection_writes s n (Flip copies) is e =
    let found = flip_copies s n copies s.collection e in
    copies_write_in (with_roles_changed s) (settled (with_roles_changed s)) found.0 copies (record { base = refl; pages = refl; more = omega arith }) (consistent_roles s is) found.1
collection_writes s n Collected is e = tt

-- Either.

row_writes : (s n : State) (rec : Record) → IsConsistent s → row_after s rec ≡ Some n → WritesInPlace s rec
row_writes s n (Update t object field was word) is e = told_field s object field was (cond_some _ _ _ e).0
row_writes s n (Base t address words) is e =
    let free = free_told s address (length words) (and_parts _ _ (cond_some _ _ _ e).0).0 in
    let at = free.at in
    let room = free.room in
    each_address (IsFreeWord s) (enumerate_from address words) (free_words s address words (omega arith) (omega arith))
row_writes s n (Fix t object field word) is e = told_field s object field 0 (and_parts _ _ (cond_some _ _ _ e).0).0
row_writes s n (Undo t object field word) is e = undone_field s n t object field word _ is refl e
row_writes s n (Commit t) is e = tt
row_writes s n (End t) is e = tt
row_writes s n (Copy from to words) is e = collection_writes s n (Copy from to words) is e
row_writes s n (Scan page writes) is e = collection_writes s n (Scan page writes) is e
row_writes s n (Flip copies) is e = collection_writes s n (Flip copies) is e
row_writes s n Collected is e = collection_writes s n Collected is e

-- Each record that can follow writes in place.
pub transaction_writes : (s n : State) (rec : Record) → IsConsistent s → after s rec ≡ Some n → WritesInPlace s rec
transaction_writes s n rec is e = row_writes s n rec is (passed (is_number_or_none (number_of rec)) (row_after s rec) n e)
