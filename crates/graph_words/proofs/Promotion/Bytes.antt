-- How many bytes of the log the records of a seal take.
use Rattle.std.proofs.Common.{◌≡◌, ℕ, ◌+◌, ◌*◌, Bool, cond, List, [], ◌∷◌, ◌++◌, length, map, Option, None, Some, refl, ap, ◌∙◌, arith}
use Rattle.std.specs.Prelude.{count_by, slice_index}
use Rattle.std.proofs.lemmas.List.{length-append}
use Rattle.std.proofs.lemmas.List.Concat.{flat_map-append}
use Rattle.std.proofs.lemmas.List.Sums.{sum_by-cons}
use Rattle.heap_words.specs.declared.Word.{Word}
use Rattle.heap_words.specs.declared.Word.TheVariants.{Null, Int, Stable, Volatile}
use Rattle.heap_words.specs.Word.{meaning, is_volatile, refers_to_volatile}
use Rattle.log_records.specs.declared.Record.{Record}
use Rattle.log_records.specs.declared.Record.TheVariants.{Commit}
use Rattle.log_records.specs.Record.{spelling, spellings}
use Rattle.log_records.proofs.RecordLaws.{length-Base}
use Rattle.log_machine.specs.declared.UndoEntry.{UndoEntry}
use Rattle.log_machine.specs.Machine.{field_at}
use Rattle.volatile_area.specs.Area.{AreaState}
use Rattle.graph_words.specs.Promotion.{Field, Move, written_fields, words_taken, moves_to, promoted_words, base_of, fix_meant, fix_of, promoted_by, promoted_need, moves_of, seal_records}
use Rattle.graph_words.proofs.Places.Moves.{words_needed, needed-sum}
use Rattle.graph_words.proofs.Promotion.Fix.{fixes}
use Rattle.graph_words.proofs.Stands.Run.{length-moved_words}

-- whether a field's word refers to an object of an area
abbrev pub is_volatile_in : List ℕ → Field → Bool
is_volatile_in words f = is_volatile (slice_index words (field_at f.0 f.1))

length-spellings : (rs more : List Record) → length (spellings (rs ++ more)) ≡ length (spellings rs) + length (spellings more)
length-spellings rs more = ap length (flat_map-append spelling rs more) ∙ length-append (spellings rs) (spellings more)

-- each object's record takes nine bytes, and eight for each word
pub length-base_records : (area : AreaState) (moves : List Move) (starts : List ℕ) (address : ℕ)
    → length (spellings (map (base_of area moves) (moves_to area starts address))) ≡ 9 * length starts + 8 * words_needed area starts
length-base_records area moves [] address = refl
length-base_records area moves (at ∷ rest) address =
    let first = length-Base area.transaction address (promoted_words area moves at) in
    let later = length-base_records area moves rest (address + words_taken area at) in
    let taken = length-moved_words area moves at in
    let both = length-append (spelling (base_of area moves (at, address))) (spellings (map (base_of area moves) (moves_to area rest (address + words_taken area at)))) in
    omega arith

fix_bytes : (t : ℕ) (moves : List Move) (f : Field) (w : ℕ) (meant : Option Word) → length (spellings (fix_meant t moves f w meant)) ≡ 19 * cond (refers_to_volatile meant) 1 0
fix_bytes t moves f w None = refl
fix_bytes t moves f w (Some Null) = refl
fix_bytes t moves f w (Some (Int n)) = refl
fix_bytes t moves f w (Some (Stable a)) = refl
fix_bytes t moves f w (Some (Volatile at)) = refl

-- each record of a field that is put right takes nineteen
pub length-fixes : (t : ℕ) (words : List ℕ) (moves : List Move) (fs : List Field) → length (spellings (fixes t words moves fs)) ≡ 19 * count_by (is_volatile_in words) fs
length-fixes t words moves [] = refl
length-fixes t words moves (f ∷ fs) =
    let w = slice_index words (field_at f.0 f.1) in
    let first = fix_bytes t moves f w (meaning w) in
    let later = length-fixes t words moves fs in
    let both = length-spellings (fix_of t words moves f) (fixes t words moves fs) in
    let counted = sum_by-cons (λ (g : Field). cond (is_volatile_in words g) 1 0) f fs in
    omega arith

-- those of a seal take that many bytes for its objects, their words and its fields, and five for the commit
pub length-seal_records : (area : AreaState) (words : List ℕ) (undo : List UndoEntry) (address : ℕ)
    → length (spellings (seal_records area words undo address))
    ≡ 9 * length (promoted_by area words undo) + 8 * promoted_need area words undo + 19 * count_by (is_volatile_in words) (written_fields undo) + 5
length-seal_records area words undo address =
    let moves = moves_of area words undo address in
    let bases = map (base_of area moves) moves in
    let rights = fixes area.transaction words moves (written_fields undo) in
    let one = length-base_records area moves (promoted_by area words undo) address in
    let two = length-fixes area.transaction words moves (written_fields undo) in
    let same = needed-sum area (promoted_by area words undo) in
    let inner = length-spellings bases rights in
    let outer : length (spellings (seal_records area words undo address)) ≡ length (spellings (bases ++ rights)) + 5 = length-spellings (bases ++ rights) (Commit area.transaction ∷ []) in
    omega arith
