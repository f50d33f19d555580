-- Copies as they are spelled one after another over bytes.
use Rattle.std.proofs.Common.{◌≡◌, ℕ, ◌+◌, ◌≤◌, List, [], ◌∷◌, ◌++◌, length, take, drop, map, sym, ap, ◌∙◌, arith, append_assoc, length-append}
use Rattle.std.proofs.lemmas.List.{append-nil, map-append, take_at, length-take-le, length-drop}
use Rattle.std.proofs.lemmas.Grind.{flat_map-append}
use borrow.Rule.Slice.PartMut.{put_mid, post_of, same_len_mid}
use Rattle.log_records.specs.declared.copies.ObjectCopy.{ObjectCopy}
use Rattle.log_records.specs.declared.Record.{Record}
use Rattle.log_records.specs.Record.{copy_record, spelling, spellings}

-- with one more copy
pub spelled_more : (before : List ObjectCopy) (copy : ObjectCopy)
    → spellings (map copy_record (before ++ copy ∷ [])) ≡ spellings (map copy_record before) ++ spelling (copy_record copy)
spelled_more before copy =
    ap (λ (rs : List Record). spellings rs) (map-append copy_record before (copy ∷ []))
    ∙ flat_map-append spelling (map copy_record before) (copy_record copy ∷ [])
    ∙ ap (λ (l : List ℕ). spellings (map copy_record before) ++ l) (append-nil (spelling (copy_record copy)))

-- the bytes before a copy, its own, and those after it
pub spelled_at : (before rest : List ObjectCopy) (copy : ObjectCopy)
    → length (spellings (map copy_record (before ++ copy ∷ rest))) ≡ length (spellings (map copy_record before)) + (length (spelling (copy_record copy)) + length (spellings (map copy_record rest)))
spelled_at before rest copy =
    ap (λ (rs : List Record). length (spellings rs)) (map-append copy_record before (copy ∷ rest))
    ∙ ap (λ (l : List ℕ). length l) (flat_map-append spelling (map copy_record before) (copy_record copy ∷ map copy_record rest))
    ∙ omega (arith, length-append (spellings (map copy_record before)) (spellings (copy_record copy ∷ map copy_record rest)), length-append (spelling (copy_record copy)) (spellings (map copy_record rest)))

-- where bytes are replaced by as many, they are as many as before
pub length-replaced : (at n : ℕ) (bytes own : List ℕ) → at + n ≤ length bytes → length own ≡ n → length (put_mid at n bytes own) ≡ length bytes
length-replaced at n bytes own within size =
    let left : n ≤ length (drop at bytes) = omega (arith, within, length-drop {A = ℕ} at bytes) in
    same_len_mid at n bytes own (size ∙ sym (length-take-le n (drop at bytes) left))

-- and the new ones stand after those that were before them
pub take-replaced : (at n : ℕ) (bytes own : List ℕ) → at + n ≤ length bytes → length own ≡ n → take (at + n) (put_mid at n bytes own) ≡ take at bytes ++ own
take-replaced at n bytes own within size =
    let front : length (take at bytes) ≡ at = length-take-le at bytes (omega (arith, within)) in
    let all : length (take at bytes ++ own) ≡ at + n = omega (arith, front, size, length-append (take at bytes) own) in
    ap (λ (l : List ℕ). take (at + n) l) (sym (append_assoc (take at bytes) own (post_of at n bytes)))
    ∙ take_at (take at bytes ++ own) (post_of at n bytes) (at + n) all
