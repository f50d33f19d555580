-- Words of the from-space stay after a record that can follow, but for headers where it puts forwarding words.
use Rattle.std.proofs.Common.{◌≡◌, ◌≢◌, ◌⊎◌, ℕ, ◌+◌, ◌-◌, inl, inr, true, List, [], ◌∷◌, length, set, Option, None, Some, refl, sym, ap, ◌∙◌, subst, arith, length-set, get_or-set_same, get_or-set_other}
use Rattle.std.specs.Prelude.{◌&&◌, nat_le, nat_lt, slice_index, option_and_then}
use Rattle.std.specs.List.{AllByRecursion}
use Rattle.std.proofs.lemmas.Bool.{cases_lt, cases_order}
use Rattle.std.proofs.lemmas.List.{get_or_past}
use Rattle.std.proofs.lemmas.Option.{cond_some}
use Rattle.heap_spaces.specs.Collection.{Collection}
use Rattle.log_records.specs.declared.Record.{Record}
use Rattle.log_records.specs.declared.Record.TheVariants.{Update, Base, Fix, Undo, Commit, End, Copy, Scan, Flip, Collected}
use Rattle.log_records.specs.declared.copies.ObjectCopy.{ObjectCopy}
use Rattle.log_machine.specs.Collecting.{collected_in, collecting_after, copies_after, flipped_in, pairs_of, scanned_in, translated_undo, with_roles_changed, with_undo}
use Rattle.log_machine.specs.Machine.{State, after, effect, is_number_or_none, number_of, put_all, put_record, row_after, settled, space_words, turned, with_entries}
use Rattle.log_machine.specs.Sound.{IsConsistent, IsSpaced}
use Rattle.log_machine.specs.declared.UndoEntry.{UndoEntry}
use Rattle.log_machine.proofs.Addresses.{each_write}
use Rattle.log_machine.proofs.CopyRows.{copies_told, copy_told}
use Rattle.log_machine.proofs.FlipLaws.{consistent_roles, some_mapped}
use Rattle.log_machine.proofs.ListLaws.{AllByRecursion-map}
use Rattle.log_machine.proofs.MachineLaws.{told_if}
use Rattle.collection_words.specs.Completed.{in_other_space}
use Rattle.collection_words.proofs.Laid.Old.{apart_spaces, other_bounds}
use Rattle.seen_laws.specs.Writing.{IsCopyWrite, IsForwardingWord, IsFreeWord, IsUsedWord, WritesInPlace}
use Rattle.seen_laws.proofs.Writes.{collection_writes, passed, transaction_writes}

-- The spaces after a record.

-- a state has the spaces of another
abbrev HasSpaces : State → State → Type 0
HasSpaces s n = (n.base ≡ s.base) × (n.pages ≡ s.pages)

undone_spaces : (s n : State) (t : ℕ) (o : Option (List UndoEntry)) → option_and_then (λ rest. Some (turned s t (with_entries s.undo t rest) 0)) o ≡ Some n → HasSpaces s n
undone_spaces s n t None e = cc e
undone_spaces s n t (Some rest) e = let same : turned s t (with_entries s.undo t rest) 0 ≡ n = cc e in subst (HasSpaces s) same (refl, refl)

scan_spaces : (s n : State) (page : ℕ) (writes : List (ℕ × ℕ)) (c : Option Collection) → scanned_in s page writes c ≡ Some n → HasSpaces s n
scan_spaces s n page writes None e = absurd (cc e)
scan_spaces s n page writes (Some k) e = subst (HasSpaces s) (cond_some _ _ _ e).1 (refl, refl)

end_spaces : (s n : State) (c : Option Collection) → collected_in s c ≡ Some n → HasSpaces s n
end_spaces s n None e = absurd (cc e)
end_spaces s n (Some k) e = subst (HasSpaces s) (cond_some _ _ _ e).1 (refl, refl)

flip_spaces : (s n : State) (copies : List ObjectCopy) (c : Option Collection) → flipped_in s copies c ≡ Some n → HasSpaces (with_roles_changed s) n
flip_spaces s n copies (Some k) e = absurd (cc e)
flip_spaces s n copies None e =
    let told = told_if _ _ _ e in
    let found = some_mapped (λ (next : State). with_undo next (translated_undo (pairs_of copies) s.undo)) (copies_after (with_roles_changed s) copies) n told.1 in
    let all = copies_told (with_roles_changed s) found.0 copies found.1 in
    subst (HasSpaces (with_roles_changed s)) found.2 (all.base, all.pages)

other_same : (s n : State) (at : ℕ) → HasSpaces s n → in_other_space n at ≡ in_other_space s at
other_same s n at same =
    ap (λ (b : ℕ). nat_le (space_words n.pages - b) at && nat_lt at (space_words n.pages - b + space_words n.pages)) same.0
    ∙ ap (λ (p : ℕ). nat_le (space_words p - s.base) at && nat_lt at (space_words p - s.base + space_words p)) same.1

-- Words that stay.

-- a write leaves the word at an address, or makes it a forwarding word
abbrev LeavesOrForwards : ℕ → ℕ × ℕ → Type 0
LeavesOrForwards at w = (w.0 ≢ at) ⊎ IsForwardingWord w.1

-- the word at an address stays, or is a forwarding word
abbrev pub IsStill : List ℕ → List ℕ → ℕ → Type 0
IsStill words others at = (slice_index others at ≡ slice_index words at) ⊎ IsForwardingWord (slice_index others at)

still_once : (now : List ℕ) (at : ℕ) (w : ℕ × ℕ) → LeavesOrForwards at w → IsStill now (set now w.0 w.1) at
still_once now at w (inl other) = inl (get_or-set_other now w.0 at w.1 0 (λ same. other (sym same)))
still_once now at w (inr forward) = elim (cases_order w.0 at) [
  | inl same ↦ elim (cases_lt at (length now)) [
    | inl inside ↦
        let is : slice_index (set now w.0 w.1) at ≡ w.1 = ap (slice_index (set now w.0 w.1)) (sym same) ∙ get_or-set_same now w.0 w.1 0 (omega arith) in
        inr (subst IsForwardingWord (sym is) forward)
    | inr past ↦ inl (get_or_past (set now w.0 w.1) at 0 (omega (arith, length-set now w.0 w.1)) ∙ sym (get_or_past now at 0 past))
  ]
  | inr (inl less) ↦ inl (get_or-set_other now w.0 at w.1 0 (λ same. omega arith))
  | inr (inr more) ↦ inl (get_or-set_other now w.0 at w.1 0 (λ same. omega arith))
]

still : (writes : List (ℕ × ℕ)) (now : List ℕ) (at : ℕ) → AllByRecursion (LeavesOrForwards at) writes → IsStill now (put_all now writes) at
still [] now at all = inl refl
still (w ∷ ws) now at all = elim (still ws (set now w.0 w.1) at all.1) [
  | inl same ↦ elim (still_once now at w all.0) [
    | inl before ↦ inl (same ∙ before)
    | inr forward ↦ inr (subst IsForwardingWord (sym same) forward)
  ]
  | inr forward ↦ inr forward
]

-- The words of the from-space.

used_apart : (s : State) → IsSpaced s → (at x : ℕ) → in_other_space s at ≡ true → IsUsedWord s x → x ≢ at
used_apart s spaced at x other used =
    let bounds = other_bounds s at other in
    let room = spaced.room in
    let below = used.below in apart_spaces s spaced x at used.above (omega arith) bounds.0 bounds.1

free_apart : (s : State) → IsSpaced s → (at x : ℕ) → in_other_space s at ≡ true → IsFreeWord s x → x ≢ at
free_apart s spaced at x other free =
    let bounds = other_bounds s at other in
    let above = free.above in apart_spaces s spaced x at (omega arith) free.below bounds.0 bounds.1

copy_leaves : (s : State) → IsSpaced s → (at : ℕ) → in_other_space s at ≡ true → (w : ℕ × ℕ) → IsCopyWrite s w → LeavesOrForwards at w
copy_leaves s spaced at other w (inl free) = inl (free_apart s spaced at w.0 other free)
copy_leaves s spaced at other w (inr forward) = inr (forward.to, forward.word)

-- the spaces whose from-space a record leaves: after a flip they have changed their roles
abbrev roles : State → Record → State
roles s (Update t object field was word) = s
roles s (Base t address words) = s
roles s (Fix t object field word) = s
roles s (Undo t object field word) = s
roles s (Commit t) = s
roles s (End t) = s
roles s (Copy from to words) = s
roles s (Scan page writes) = s
roles s (Flip copies) = settled (with_roles_changed s)
roles s Collected = s

place_leaves : (s : State) (rec : Record) (words : List ℕ) (at : ℕ) → IsConsistent s → WritesInPlace s rec → in_other_space (roles s rec) at ≡ true → AllByRecursion (LeavesOrForwards at) (effect words rec)
place_leaves s (Update t object field was word) now at is place other = (inl (used_apart s is.spaced at _ other place), tt)
place_leaves s (Base t address words) now at is place other =
    AllByRecursion-map (λ (w : ℕ × ℕ). IsFreeWord s w.0) (LeavesOrForwards at) _ (λ w free. inl (free_apart s is.spaced at w.0 other free)) (each_write (IsFreeWord s) _ place)
place_leaves s (Fix t object field word) now at is place other = (inl (used_apart s is.spaced at _ other place), tt)
place_leaves s (Undo t object field word) now at is place other = (inl (used_apart s is.spaced at _ other place), tt)
place_leaves s (Commit t) now at is place other = tt
place_leaves s (End t) now at is place other = tt
place_leaves s (Copy from to words) now at is place other = AllByRecursion-map (IsCopyWrite s) (LeavesOrForwards at) _ (copy_leaves s is.spaced at other) place
place_leaves s (Scan page writes) now at is place other = AllByRecursion-map (λ (w : ℕ × ℕ). IsUsedWord s w.0) (LeavesOrForwards at) writes (λ w used. inl (used_apart s is.spaced at w.0 other used)) place
place_leaves s (Flip copies) now at is place other =
    let n = settled (with_roles_changed s) in
    AllByRecursion-map (IsCopyWrite n) (LeavesOrForwards at) _ (copy_leaves n (consistent_roles s is).spaced at other) (AllByRecursion-map (IsCopyWrite (with_roles_changed s)) (IsCopyWrite n) _ settle place)
  where
    settle : (w : ℕ × ℕ) → IsCopyWrite (with_roles_changed s) w → IsCopyWrite (settled (with_roles_changed s)) w
    settle w (inl free) = inl (record { above = free.above; below = free.below })
    settle w (inr forward) = inr (record { to = forward.to; old = forward.old; word = forward.word; leads = record { above = forward.leads.above; below = forward.leads.below } })
place_leaves s Collected now at is place other = tt

collection_roles : (s n : State) (rec : Record) → collecting_after s rec ≡ Some n → HasSpaces (roles s rec) n
collection_roles s n (Update t object field was word) e = absurd (cc e)
collection_roles s n (Base t address words) e = absurd (cc e)
collection_roles s n (Fix t object field word) e = absurd (cc e)
collection_roles s n (Undo t object field word) e = absurd (cc e)
collection_roles s n (Commit t) e = absurd (cc e)
collection_roles s n (End t) e = absurd (cc e)
collection_roles s n (Copy from to words) e = subst (HasSpaces s) (copy_told s n (record { from = from; to = to; words = words }) e).is (refl, refl)
collection_roles s n (Scan page writes) e = scan_spaces s n page writes s.collection e
collection_roles s n (Flip copies) e = flip_spaces s n copies s.collection e
collection_roles s n Collected e = end_spaces s n s.collection e

row_roles : (s n : State) (rec : Record) → row_after s rec ≡ Some n → HasSpaces (roles s rec) n
row_roles s n (Update t object field was word) e = subst (HasSpaces s) (cond_some _ _ _ e).1 (refl, refl)
row_roles s n (Base t address words) e = subst (HasSpaces s) (cond_some _ _ _ e).1 (refl, refl)
row_roles s n (Fix t object field word) e = subst (HasSpaces s) (cond_some _ _ _ e).1 (refl, refl)
row_roles s n (Undo t object field word) e = undone_spaces s n t _ e
row_roles s n (Commit t) e = subst (HasSpaces s) (same_state _ n e) (refl, refl)
  where
    same_state : (m n : State) → Some m ≡ Some n → m ≡ n
    same_state m n is = cc is
row_roles s n (End t) e = subst (HasSpaces s) (cond_some _ _ _ e).1 (refl, refl)
row_roles s n (Copy from to words) e = collection_roles s n (Copy from to words) e
row_roles s n (Scan page writes) e = collection_roles s n (Scan page writes) e
row_roles s n (Flip copies) e = collection_roles s n (Flip copies) e
row_roles s n Collected e = collection_roles s n Collected e

-- A word of what is the from-space after a record stays, or is a forwarding word.
pub transaction_still : (s n : State) (rec : Record) (words : List ℕ) (at : ℕ) → IsConsistent s → after s rec ≡ Some n → in_other_space n at ≡ true → IsStill words (put_record words rec) at
transaction_still s n rec words at is e other =
    let row = passed (is_number_or_none (number_of rec)) (row_after s rec) n e in
    still (effect words rec) words at (place_leaves s rec words at is (transaction_writes s n rec is e) (sym (other_same (roles s rec) n at (row_roles s n rec row)) ∙ other))

pub collection_still : (s n : State) (rec : Record) (words : List ℕ) (at : ℕ) → IsConsistent s → collecting_after s rec ≡ Some n → in_other_space n at ≡ true → IsStill words (put_record words rec) at
collection_still s n rec words at is e other =
    still (effect words rec) words at (place_leaves s rec words at is (collection_writes s n rec is e) (sym (other_same (roles s rec) n at (collection_roles s n rec e)) ∙ other))
