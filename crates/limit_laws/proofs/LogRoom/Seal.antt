-- The records of a seal that moves nothing: at most one for each field that was written, and the commit.
use Rattle.std.proofs.Common.{◌≡◌, ℕ, ◌+◌, ◌*◌, ◌≤◌, true, false, Bool, List, [], ◌∷◌, ◌++◌, map, Option, None, Some, length, refl, ap, arith, cond, length-append}
use Rattle.std.specs.Prelude.{slice_index}
use Rattle.std.specs.List.{flat_map}
use Rattle.std.specs.FinMap.{FinMap, entries, from_entries, insert, len, len-empty, len-entries, len-insert, contains_key}
use Rattle.std.proofs.lemmas.Grind.{flat_map-append}
use Rattle.std.proofs.lemmas.List.{length-map}
use Rattle.heap_words.specs.declared.Word.{Word}
use Rattle.heap_words.specs.declared.Word.TheVariants as word
use Rattle.heap_words.specs.Word.{meaning}
use Rattle.log_records.specs.declared.Record.{Record}
use Rattle.log_records.specs.declared.Record.TheVariants.{Commit}
use Rattle.log_records.specs.Record.{spelling, spellings}
use Rattle.log_machine.specs.declared.UndoEntry.{UndoEntry}
use Rattle.log_machine.specs.Machine.{field_at, undo_bytes}
use Rattle.volatile_area.specs.Area.{AreaState}
use Rattle.graph_words.proofs.Area.Fields.{field_cmp_total}
use Rattle.graph_words.specs.Promotion.{Field, Move, field_cmp, field_of, base_of, fix_meant, fix_of, moves_of, moves_to, promoted_by, promoted_places, seal_records, written_fields}

-- How many fields are written.

abbrev marked : UndoEntry → Field × Unit {0}
marked u = (field_of u, tt {0})

one_more : (m : FinMap field_cmp (Unit {0})) (f : Field) (x : Unit {0}) → len (insert m f x) ≤ len m + 1
one_more m f x = by (contains_key m f) (len-insert field_cmp_total m f x)
  where
    by : (b : Bool) → len (insert m f x) ≡ cond b (len m) (len m + 1) → len (insert m f x) ≤ len m + 1
    by true is = omega arith
    by false is = omega arith

-- a map of these entries has no more keys than there are entries
few_keys : (us : List UndoEntry) → len (from_entries {R = field_cmp} (map marked us)) ≤ length us
few_keys [] = omega (arith, len-empty field_cmp (Unit {0}))
few_keys (u ∷ us) = omega (arith, few_keys us, one_more (from_entries {R = field_cmp} (map marked us)) (field_of u) tt)

-- fewer fields are written than there are writes, or as many
pub few_fields : (undo : List UndoEntry) → length (written_fields undo) ≤ length undo
few_fields undo =
    let all = from_entries {R = field_cmp} (map marked undo) in
    omega (arith, few_keys undo, len-entries all, length-map (entries all) (λ (e : Field × Unit {0}). e.0))

-- What they take.

fix_small : (t : ℕ) (moves : List Move) (f : Field) (w : ℕ) (meant : Option Word) → length (spellings (fix_meant t moves f w meant)) ≤ 19
fix_small t moves f w None = omega arith
fix_small t moves f w (Some word.Null) = omega arith
fix_small t moves f w (Some (word.Int n)) = omega arith
fix_small t moves f w (Some (word.Stable at)) = omega arith
fix_small t moves f w (Some (word.Volatile at)) = omega arith

fixes_small : (t : ℕ) (words : List ℕ) (moves : List Move) (fs : List Field) → length (spellings (flat_map (fix_of t words moves) fs)) ≤ 19 * length fs
fixes_small t words moves [] = omega arith
fixes_small t words moves (f ∷ fs) =
    let w = slice_index words (field_at f.0 f.1) in
    let one = fix_small t moves f w (meaning w) in
    let more = fixes_small t words moves fs in
    let parts = ap (λ (l : List ℕ). length l) (flat_map-append spelling (fix_of t words moves f) (flat_map (fix_of t words moves) fs)) in
    omega (arith, one, more, parts, length-append (spellings (fix_of t words moves f)) (spellings (flat_map (fix_of t words moves) fs)))

none_moved : (area : AreaState) (starts : List ℕ) (address : ℕ) → promoted_places area (moves_to area starts address) ≡ [] → starts ≡ []
none_moved area [] address none = refl
none_moved area (at ∷ rest) address none = absurd (cc none)

-- a seal that gives no object a place promotes none
pub none_promoted : (area : AreaState) (words : List ℕ) (undo : List UndoEntry) (address : ℕ) → promoted_places area (moves_of area words undo address) ≡ [] → promoted_by area words undo ≡ []
none_promoted area words undo address none = none_moved area (promoted_by area words undo) address none

-- its records
pub seal_fixes : (area : AreaState) (words : List ℕ) (undo : List UndoEntry) (address : ℕ) → promoted_by area words undo ≡ []
    → seal_records area words undo address ≡ flat_map (fix_of area.transaction words []) (written_fields undo) ++ Commit area.transaction ∷ []
seal_fixes area words undo address none =
    ap (λ starts. (map (λ m. base_of area (moves_to area starts address) m) (moves_to area starts address) ++ flat_map (fix_of area.transaction words (moves_to area starts address)) (written_fields undo)) ++ Commit area.transaction ∷ []) none

-- they take no more than what is kept to take the writes back
pub seal_small : (area : AreaState) (words : List ℕ) (undo : List UndoEntry) (address : ℕ) → promoted_by area words undo ≡ []
    → length (spellings (seal_records area words undo address)) + 5 ≤ undo_bytes undo
seal_small area words undo address none =
    let fixes = flat_map (fix_of area.transaction words []) (written_fields undo) in
    let all = ap (λ (rs : List Record). length (spellings rs)) (seal_fixes area words undo address none) in
    let parts = ap (λ (l : List ℕ). length l) (flat_map-append spelling fixes (Commit area.transaction ∷ [])) in
    omega (arith, all, parts, length-append (spellings fixes) (spellings (Commit area.transaction ∷ [])), fixes_small area.transaction words [] (written_fields undo), few_fields undo)
