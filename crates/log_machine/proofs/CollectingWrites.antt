-- The records of a collection that can follow write words of the pages.
use Rattle.std.proofs.Common.{◌≡◌, ℕ, ◌+◌, ◌<◌, ◌≤◌, true, List, [], ◌∷◌, Option, None, Some, refl, sym, ap, ◌∙◌, subst, arith}
use Rattle.std.specs.Prelude.{nat_le, nat_lt}
use Rattle.std.specs.List.{AllByRecursion, enumerate_from, flat_map, list_all}
use Rattle.std.proofs.lemmas.Bool.{ltb-true, and_parts}
use Rattle.std.proofs.lemmas.Option.{option_and_then_some, cond_some}
use Rattle.heap_words.specs.declared.Header.TheVariants.{Forward}
use Rattle.heap_words.specs.Header.{header_bits}
use Rattle.heap_words.specs.Word.{meaning}
use Rattle.log_records.specs.declared.copies.ObjectCopy.{ObjectCopy}
use Rattle.log_records.specs.declared.Record.TheVariants.{Copy, Scan, Flip}
use Rattle.heap_spaces.specs.Collection.{Collection}
use Rattle.log_machine.specs.Machine.{State, words_in, writes_of, settled}
use Rattle.log_machine.specs.Effect.{WritesBelow}
use Rattle.log_machine.specs.Sound.{IsConsistent}
use Rattle.log_machine.specs.Collecting.{is_used, leads_to_used, copy_after, copies_after, can_put, scanned_in, flipped_in, with_roles_changed}
use Rattle.log_machine.proofs.ListLaws.{AllByRecursion-append}
use Rattle.log_machine.proofs.Addresses.{each_address}
use Rattle.log_machine.proofs.WordsFrom as words
use Rattle.log_machine.proofs.Spaced.{spaced_ends}
use Rattle.log_machine.proofs.CopyRows.{from_below, to_below, copy_told, consistent_copied}
use Rattle.log_machine.proofs.FlipLaws.{flip_copies, consistent_roles}

-- a copy
one_writes : (s n : State) (copy : ObjectCopy) → IsConsistent s → copy_after s copy ≡ Some n → AllByRecursion (λ w. w.0 < words_in s.pages) (writes_of copy)
one_writes s n copy is e =
    AllByRecursion-append (λ (w : ℕ × ℕ). w.0 < words_in s.pages) (enumerate_from copy.to copy.words) ((copy.from, header_bits (Forward copy.to)) ∷ [])
    (words.from_below copy.to (words_in s.pages) copy.words (to_below s n copy is e)) (from_below s n copy is e, tt)

pub copy_writes_below : (s n : State) (from to : ℕ) (words : List ℕ) → IsConsistent s → copy_after s (record { from = from; to = to; words = words }) ≡ Some n → WritesBelow (words_in s.pages) (Copy from to words)
copy_writes_below s n from to words is e =
    let copy : ObjectCopy = record { from = from; to = to; words = words } in
    each_address (λ a. a < words_in s.pages) (writes_of copy) (one_writes s n copy is e)

-- several
copies_write : (pages : ℕ) (s n : State) (copies : List ObjectCopy) → s.pages ≡ pages → IsConsistent s → copies_after s copies ≡ Some n → AllByRecursion (λ w. w.0 < words_in pages) (flat_map writes_of copies)
copies_write pages s n [] same is e = tt
copies_write pages s n (copy ∷ copies) same is e =
    option_and_then_some (λ next. copies_after next copies) (copy_after s copy) n e (λ next first rest.
    AllByRecursion-append (λ (w : ℕ × ℕ). w.0 < words_in pages) (writes_of copy) (flat_map writes_of copies)
    (subst (λ p. AllByRecursion (λ (w : ℕ × ℕ). w.0 < words_in p) (writes_of copy)) same (one_writes s next copy is first))
    (copies_write pages next n copies (ap (λ (x : State). x.pages) (sym (copy_told s next copy first).is) ∙ same) (consistent_copied s next copy is first) rest))

pub flip_writes_below : (s n : State) (copies : List ObjectCopy) → IsConsistent s → flipped_in s copies s.collection ≡ Some n → WritesBelow (words_in s.pages) (Flip copies)
flip_writes_below s n copies is e =
    let found = flip_copies s n copies s.collection e in
    each_address (λ a. a < words_in s.pages) (flat_map writes_of copies) (copies_write s.pages (settled (with_roles_changed s)) found.0 copies refl (consistent_roles s is) found.1)

-- a scan
scan_each : (s : State) (writes : List (ℕ × ℕ)) → s.base + s.used ≤ words_in s.pages → list_all (can_put s) writes ≡ true → AllByRecursion (λ w. w.0 < words_in s.pages) writes
scan_each s [] ends all = tt
scan_each s (w ∷ ws) ends all =
    let parts = and_parts (can_put s w) (list_all (can_put s) ws) all in
    let put = and_parts (is_used s w.0) (leads_to_used s (meaning w.1)) parts.0 in
    let used = and_parts (nat_le s.base w.0) (nat_lt w.0 (s.base + s.used)) put.0 in
    let below : w.0 < s.base + s.used = ltb-true w.0 (s.base + s.used) used.1 in
    (omega arith, scan_each s ws ends parts.1)

scan_in : (s n : State) (page : ℕ) (writes : List (ℕ × ℕ)) (c : Option Collection) → IsConsistent s → scanned_in s page writes c ≡ Some n → AllByRecursion (λ w. w.0 < words_in s.pages) writes
scan_in s n page writes None is e = absurd (cc e)
scan_in s n page writes (Some k) is e = let told = cond_some _ _ _ e in scan_each s writes (spaced_ends s is.spaced) (and_parts _ _ told.0).1

pub scan_writes_below : (s n : State) (page : ℕ) (writes : List (ℕ × ℕ)) → IsConsistent s → scanned_in s page writes s.collection ≡ Some n → WritesBelow (words_in s.pages) (Scan page writes)
scan_writes_below s n page writes is e = each_address (λ a. a < words_in s.pages) writes (scan_in s n page writes s.collection is e)
