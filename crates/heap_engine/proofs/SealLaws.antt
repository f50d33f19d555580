-- What the records of a seal write, and how many bytes they take.
use Rattle.std.proofs.Common.{ℕ, ◌+◌, ◌*◌, ◌<◌, ◌≤◌, Bool, true, false, cond, List, [], ◌∷◌, ◌++◌, length, map, get_or, Option, None, Some, subst, arith}
use Rattle.std.specs.Prelude.{◌^◌, All, Contains}
use Rattle.std.specs.Cmp.{IsTotalOrder}
use Rattle.std.specs.declared.cmp.Ordering.{Ordering}
use Rattle.std.specs.FinMap.{from_entries, entries, contains_key, len, len-empty, len-insert, len-entries}
use Rattle.std.specs.List.{AllByRecursion, enumerate_from, flat_map}
use Rattle.std.proofs.lemmas.List.{length-map, get_or_default}
use Rattle.std.proofs.lemmas.List.Elements.{recursion_from_All}
use Rattle.std.proofs.lemmas.List.Sums.{count_by-le-length}
use Rattle.heap_words.specs.declared.Word.{Word}
use Rattle.heap_words.specs.declared.Word.TheVariants.{Null, Int, Stable, Volatile}
use Rattle.heap_words.specs.Word.{meaning}
use Rattle.log_records.specs.declared.Record.TheVariants.{Commit}
use Rattle.log_records.specs.Record.{spellings}
use Rattle.log_machine.specs.declared.UndoEntry.{UndoEntry}
use Rattle.log_machine.specs.Machine.{field_at}
use Rattle.log_machine.specs.Effect.{WritesBelow, EachWritesBelow}
use Rattle.log_machine.proofs.Addresses.{each_address}
use Rattle.log_machine.proofs.ListLaws.{AllByRecursion-append}
use Rattle.log_machine.proofs.WordsFrom.{from_below}
use Rattle.volatile_area.specs.Area.{AreaState, starts_of}
use Rattle.stability_tracker.proofs.PromotionLaws.{promoted_start}
use Rattle.graph_words.specs.Promotion.{Field, Move, field_of, field_cmp, written_fields, words_in_fields, words_taken, moves_to, promoted_words, base_of, fix_meant, fix_of, promoted_by, promoted_need, moves_of, seal_records}
use Rattle.graph_words.proofs.Area.Fields.{field_cmp_total, written_from_field}
use Rattle.graph_words.proofs.Places.Moves.{words_needed, needed-sum}
use Rattle.graph_words.proofs.Stands.Run.{length-moved_words}
use Rattle.graph_words.proofs.Promotion.Bytes.{is_volatile_in, length-seal_records}
use Rattle.heap_engine.specs.Reserve.{WroteBelow}

-- the fields that writes wrote lie where these did
pub written_below : (end : ℕ) (undo : List UndoEntry) → WroteBelow end undo → All (λ f. field_at f.0 f.1 < end) (written_fields undo)
written_below end undo below k d within =
    let f : Field = get_or (written_fields undo) k d in
    let w = written_from_field undo f (k, within, get_or_default (written_fields undo) k f d within) in
    let here = subst (λ (v : UndoEntry). field_at v.object v.field < end) w.3 (below w.0 w.1 w.2) in
    omega (arith, here, w.4.0, w.4.1)

-- what is promoted stands in the area
pub promoted_there : (area : AreaState) (words : List ℕ) (undo : List UndoEntry) → All (Contains (starts_of area)) (promoted_by area words undo)
promoted_there area words undo k d within =
    let at = get_or (promoted_by area words undo) k d in
    promoted_start area (words_in_fields words (written_fields undo)) at (k, within, get_or_default (promoted_by area words undo) k at d within)

-- Where the records write.

bases_below : (area : AreaState) (moves : List Move) (starts : List ℕ) (address end : ℕ) → address + words_needed area starts ≤ end
    → EachWritesBelow end (map (base_of area moves) (moves_to area starts address))
bases_below area moves [] address end fits = tt
bases_below area moves (at ∷ rest) address end fits =
    let long = length-moved_words area moves at in
    (each_address (λ a. a < end) (enumerate_from address (promoted_words area moves at)) (from_below address end (promoted_words area moves at) (omega arith)), bases_below area moves rest (address + words_taken area at) end (omega arith))

fix_below : (t : ℕ) (moves : List Move) (f : Field) (w : ℕ) (meant : Option Word) (end : ℕ) → field_at f.0 f.1 < end → EachWritesBelow end (fix_meant t moves f w meant)
fix_below t moves f w None end below = tt
fix_below t moves f w (Some Null) end below = tt
fix_below t moves f w (Some (Int n)) end below = tt
fix_below t moves f w (Some (Stable a)) end below = tt
fix_below t moves f w (Some (Volatile at)) end below = ((below, tt), tt)

fixes_below : (t : ℕ) (words : List ℕ) (moves : List Move) (fs : List Field) (end : ℕ) → AllByRecursion (λ (f : Field). field_at f.0 f.1 < end) fs
    → EachWritesBelow end (flat_map (fix_of t words moves) fs)
fixes_below t words moves [] end below = tt
fixes_below t words moves (f ∷ fs) end below =
    let w = get_or words (field_at f.0 f.1) 0 in
    AllByRecursion-append (WritesBelow end) (fix_of t words moves f) (flat_map (fix_of t words moves) fs)
    (fix_below t moves f w (meaning w) end below.0)
    (fixes_below t words moves fs end below.1)

-- those of a seal write below the words' end, where what is promoted lies there
pub seal_below : (area : AreaState) (words : List ℕ) (undo : List UndoEntry) (address end : ℕ) → WroteBelow end undo → address + promoted_need area words undo ≤ end
    → EachWritesBelow end (seal_records area words undo address)
seal_below area words undo address end below fits =
    let moves = moves_of area words undo address in
    let bases = map (base_of area moves) moves in
    let fixes = flat_map (fix_of area.transaction words moves) (written_fields undo) in
    let same = needed-sum area (promoted_by area words undo) in
    AllByRecursion-append (WritesBelow end) (bases ++ fixes) (Commit area.transaction ∷ [])
    (AllByRecursion-append (WritesBelow end) bases fixes
    (bases_below area moves (promoted_by area words undo) address end (omega arith))
    (fixes_below area.transaction words moves (written_fields undo) end (recursion_from_All (λ (f : Field). field_at f.0 f.1 < end) (written_fields undo) (written_below end undo below))))
    (tt, tt)

-- How many bytes they take.

objects_need : (area : AreaState) (starts : List ℕ) → 2 * length starts ≤ words_needed area starts
objects_need area [] = omega arith
objects_need area (at ∷ rest) = let more = objects_need area rest in omega arith

one_more : (b : Bool) (n k : ℕ) → n ≤ k → cond b n (n + 1) ≤ k + 1
one_more true n k fits = omega arith
one_more false n k fits = omega arith

few_entries : {K X : Type 0} {R : K → K → Ordering} (o : IsTotalOrder R) (es : List (K × X)) → len (from_entries {R = R} es) ≤ length es
few_entries {K} {X} {R} o [] = omega (arith, len-empty R X)
few_entries {R = R} o (e ∷ es) =
    let rest = few_entries o es in
    let more = len-insert o (from_entries {R = R} es) e.0 e.1 in
    let least = one_more (contains_key (from_entries {R = R} es) e.0) (len (from_entries {R = R} es)) (length es) rest in
    omega (arith, more, least)

-- no more fields were written than there are writes
fields_few : (undo : List UndoEntry) → length (written_fields undo) ≤ length undo
fields_few undo =
    let marked : List (Field × Unit {0}) = map (λ u. (field_of u, tt {0})) undo in
    let table = from_entries {R = field_cmp} marked in
    let few = few_entries field_cmp_total marked in
    let mark : UndoEntry → Field × Unit {0} = λ u. (field_of u, tt {0}) in
    let key : Field × Unit {0} → Field = λ e. e.0 in
    let long = length-map (entries table) key in
    omega (arith, few, long, len-entries table, length-map undo mark)

-- those of a seal take few bytes, where its objects take few words
pub seal_few : (area : AreaState) (words : List ℕ) (undo : List UndoEntry) (address : ℕ) → promoted_need area words undo ≤ 2 ^ 20 → 19 * length undo < 2 ^ 32
    → length (spellings (seal_records area words undo address)) < 2 ^ 32 + 2 ^ 24
seal_few area words undo address small writes =
    let bytes = length-seal_records area words undo address in
    let same = needed-sum area (promoted_by area words undo) in
    let objects = objects_need area (promoted_by area words undo) in
    let fields = fields_few undo in
    let fixes = count_by-le-length (is_volatile_in words) (written_fields undo) in
    omega arith
