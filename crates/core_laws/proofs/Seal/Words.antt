-- The records of a seal where others have written too: they write no word that another transaction wrote.
use Rattle.std.proofs.Common.{◌≡◌, ◌≢◌, ℕ, ◌+◌, ◌≤◌, List, [], ◌∷◌, map, get_or, Option, None, Some, refl, sym, ap, ◌∙◌, subst, arith}
use Rattle.std.specs.Prelude.{fold, slice_index}
use Rattle.std.specs.List.{AllByRecursion, enumerate_from}
use Rattle.std.specs.FinMap.{entries, remove}
use Rattle.std.proofs.lemmas.List.{get_or-set_other}
use Rattle.heap_words.specs.declared.Word.{Word}
use Rattle.heap_words.specs.declared.Word.TheVariants.{Null, Int, Stable, Volatile}
use Rattle.heap_words.specs.Word.{meaning}
use Rattle.log_records.specs.declared.Record.{Record}
use Rattle.log_machine.specs.declared.UndoEntry.{UndoEntry}
use Rattle.log_machine.proofs.Fields.{written, AreApart, IsApart}
use Rattle.log_machine.specs.Apart.{others_taken_back}
use Rattle.log_machine.proofs.TakenBackLaws.{taken_back-swap, all_taken_back-first}
use Rattle.log_machine.proofs.ListLaws.{AllByRecursion-append, AllByRecursion-map}
use Rattle.log_machine.proofs.Addresses.{effect_writes}
use Rattle.log_machine.specs.Machine.{State, Loser, effect, addresses, field_at, put_all, put_record, undo_of, taken_back, each_taken_back, all_taken_back}
use Rattle.log_machine.proofs.MapLaws.{each_entry, each_other}
use Rattle.log_machine.specs.Sound.{AreLosers}
use Rattle.log_machine.specs.UndoEntry.{LiesInside}
use Rattle.volatile_area.specs.Area.{AreaState}
use Rattle.graph_words.proofs.Area.Fields.{written_from_field, write_at}
use Rattle.graph_words.proofs.Promotion.Fix.{fixes}
use Rattle.graph_words.proofs.Places.Lists.{AllByRecursion-from_get, Contains-get}
use Rattle.graph_words.specs.Promotion.{Field, Move, base_of, fix_meant, fix_of, moves_of, moves_to, promoted_words, promoted_by, promotion_records, words_taken, written_fields}
use Rattle.core_laws.proofs.Sessions.OtherWrites.{IsAway}

-- Where records write.

-- each word that these records write stands at such an address
abbrev pub WriteAt : (ℕ → Type 0) → List Record → Type 0
WriteAt P rs = AllByRecursion (λ r. AllByRecursion P (addresses r)) rs

untouched_all : (writes : List (ℕ × ℕ)) (now : List ℕ) (x : ℕ) → AllByRecursion (λ w. x ≢ w.0) writes → get_or (put_all now writes) x 0 ≡ get_or now x 0
untouched_all [] now x other = refl
untouched_all (w ∷ ws) now x other = untouched_all ws (put_all now (w ∷ [])) x other.1 ∙ get_or-set_other now w.0 x w.1 0 other.0

-- a word that records do not write stays
pub untouched : (rs : List Record) (now : List ℕ) (x : ℕ) → WriteAt (λ y. x ≢ y) rs → get_or (fold put_record now rs) x 0 ≡ get_or now x 0
untouched [] now x other = refl
untouched (r ∷ rs) now x other = untouched rs (put_record now r) x other.1 ∙ untouched_all (effect now r) now x (effect_writes (λ y. x ≢ y) now r other.0)

run_writes : (P : ℕ → Type 0) (from at : ℕ) (ws : List ℕ) → from ≤ at → ((x : ℕ) → from ≤ x → P x) → AllByRecursion P (map (λ w. w.0) (enumerate_from at ws))
run_writes P from at [] above free = tt
run_writes P from at (w ∷ ws) above free = (free at above, run_writes P from (at + 1) ws (omega arith) free)

bases_write : (P : ℕ → Type 0) (area : AreaState) (moves : List Move) (from : ℕ) (starts : List ℕ) (address : ℕ) → from ≤ address → ((x : ℕ) → from ≤ x → P x)
    → WriteAt P (map (base_of area moves) (moves_to area starts address))
bases_write P area moves from [] address above free = tt
bases_write P area moves from (at ∷ rest) address above free = (
  run_writes P from address (promoted_words area moves at) above free,
  bases_write P area moves from rest (address + words_taken area at) (omega arith) free,
)

fix_writes : (P : ℕ → Type 0) (t : ℕ) (moves : List Move) (f : Field) (w : ℕ) (meant : Option Word) → P (field_at f.0 f.1) → WriteAt P (fix_meant t moves f w meant)
fix_writes P t moves f w None there = tt
fix_writes P t moves f w (Some Null) there = tt
fix_writes P t moves f w (Some (Int n)) there = tt
fix_writes P t moves f w (Some (Stable a)) there = tt
fix_writes P t moves f w (Some (Volatile at)) there = ((there, tt), tt)

fixes_write : (P : ℕ → Type 0) (t : ℕ) (words : List ℕ) (moves : List Move) (fs : List Field) → AllByRecursion (λ f. P (field_at f.0 f.1)) fs → WriteAt P (fixes t words moves fs)
fixes_write P t words moves [] all = tt
fixes_write P t words moves (f ∷ fs) all =
    let w = slice_index words (field_at f.0 f.1) in
    AllByRecursion-append (λ r. AllByRecursion P (addresses r)) (fix_of t words moves f) (fixes t words moves fs)
    (fix_writes P t moves f w (meaning w) all.0) (fixes_write P t words moves fs all.1)

-- what holds of the address of each write holds of that of each field that was written
pub fields_written : (P : ℕ → Type 0) (undo : List UndoEntry) → AllByRecursion (λ v. P (written v)) undo → AllByRecursion (λ f. P (field_at f.0 f.1)) (written_fields undo)
fields_written P undo all =
    AllByRecursion-from_get (λ f. P (field_at f.0 f.1)) (written_fields undo)
    (λ i f got.
    let write = write_at (λ v. P (written v)) undo f.0 f.1 all (written_from_field undo f (Contains-get (written_fields undo) i f got)) in
    let there : written write.0 ≡ field_at f.0 f.1 = λ j. field_at (write.2 j) (write.3 j) in
    subst P there write.1)

-- A promotion writes from its first address on, and fields that its transaction wrote.
pub promotion_writes : (P : ℕ → Type 0) (area : AreaState) (words : List ℕ) (undo : List UndoEntry) (address : ℕ) → ((x : ℕ) → address ≤ x → P x) → AllByRecursion (λ v. P (written v)) undo
    → WriteAt P (promotion_records area words undo address)
promotion_writes P area words undo address free all =
    let moves = moves_of area words undo address in
    AllByRecursion-append (λ r. AllByRecursion P (addresses r)) (map (base_of area moves) moves) (fixes area.transaction words moves (written_fields undo))
    (bases_write P area moves address (promoted_by area words undo) address (omega arith) free)
    (fixes_write P area.transaction words moves (written_fields undo) (fields_written P undo all))

-- What is taken back.

each_then : (us : List UndoEntry) (es : List Loser) (now : List ℕ) → AllByRecursion (λ e. AreApart us e.1) es → taken_back us (each_taken_back es now) ≡ each_taken_back es (taken_back us now)
each_then us [] now apart = refl
each_then us (e ∷ es) now apart = each_then us es (taken_back e.1 now) apart.1 ∙ ap (λ x. each_taken_back es x) (taken_back-swap us e.1 now apart.0)

-- all writes are taken back where those of all others are, and then a transaction's own
pub own_taken_back : (s : State) (t : ℕ) (now : List ℕ) → AreLosers s → IsApart s t (undo_of s t) → taken_back (undo_of s t) (others_taken_back s t now) ≡ all_taken_back s now
own_taken_back s t now sound apart =
    let Apart : ℕ → List UndoEntry → Type 0 = λ q vs. AreApart (undo_of s t) vs in
    each_then (undo_of s t) (entries (remove s.undo t)) now (each_entry Apart (remove s.undo t) (each_other Apart s.undo t apart)) ∙ sym (all_taken_back-first s t now sound apart)

-- no transaction has written a word past those that are used
pub free_away : (s : State) (t x : ℕ) → AreLosers s → s.base + s.used ≤ x → IsAway s t x
free_away s t x sound above q vs some other =
    AllByRecursion-map (LiesInside s.base s.used) (λ v. x ≢ written v) vs (λ v inside same. let below = inside.below in omega arith) (sound q vs some).inside
