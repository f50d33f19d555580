-- Laws of the records of a seal: they have spellings, and each can follow those before it.
use Rattle.std.proofs.Common.{◌≡◌, ℕ, ◌<◌, ◌≤◌, ◌^◌, ◌+◌, List, [], ◌∷◌, length, map, Option, None, Some, sym, ap, ◌∙◌, arith}
use Rattle.std.specs.Prelude.{Contains, slice_index}
use Rattle.std.specs.List.{AllByRecursion}
use Rattle.std.proofs.lemmas.List.{length-map}
use Rattle.heap_words.specs.declared.Header.TheVariants.{Length}
use Rattle.heap_words.specs.declared.Word.{Word}
use Rattle.heap_words.specs.declared.Word.TheVariants.{Null, Int, Stable, Volatile}
use Rattle.heap_words.specs.Header.{header_bits, born_in, born_as}
use Rattle.heap_words.specs.Word.{meaning}
use Rattle.log_records.specs.Record.{IsRecord}
use Rattle.log_machine.specs.Machine.{field_at}
use Rattle.log_machine.proofs.ListLaws.{AllByRecursion-append}
use Rattle.object_layout.specs.Layout.{field_words, birth_at}
use Rattle.object_layout.proofs.WalkLaws.{Contains-head, Contains-rest}
use Rattle.volatile_area.specs.Area.{AreaState}
use Rattle.graph_words.proofs.Places.Moves.{words_needed}
use Rattle.graph_words.specs.Promotion.{Field, Move, words_taken, moves_to, moved_word, base_of, fix_of, fix_meant}
use Rattle.graph_words.proofs.Places.Moved.{IsMoved, moved_word-settled, moved_words-field_words}
use Rattle.graph_words.proofs.Promotion.Fix.{fixes}

-- An object of an area that can be promoted: its transaction made it, and each object that its fields refer to moves too.
pub record IsPromotable (area : AreaState) (moves : List Move) (at : ℕ) : Type 0 where
  pub few : length (field_words area.words at) < 511
  pub header : slice_index area.words at ≡ header_bits (Length (length (field_words area.words at)))
  pub birth_fits : birth_at area.words at < 2 ^ 64
  pub own : born_in (birth_at area.words at) ≡ area.transaction
  pub first : 1 ≤ born_as (birth_at area.words at)
  pub goes : AllByRecursion (IsMoved moves) (field_words area.words at)

-- A field that can be put right: it lies below an address, and the object that its word refers to moves.
pub record IsFixable (words : List ℕ) (moves : List Move) (base end : ℕ) (f : Field) : Type 0 where
  pub above : base ≤ f.0
  pub below : field_at f.0 f.1 < end
  pub small : f.1 < 2 ^ 16
  pub goes : IsMoved moves (slice_index words (field_at f.0 f.1))

-- Spellings.

base_spelled : (area : AreaState) (moves : List Move) (at new : ℕ) → area.transaction < 2 ^ 32 → new < 2 ^ 32 → IsPromotable area moves at → IsRecord (base_of area moves (at, new))
base_spelled area moves at new t_fits fits is = record {
  t_fits = t_fits;
  address_fits = fits;
  object = record {
    tells = is.header ∙ ap (λ n. header_bits (Length n)) (sym (length-map (field_words area.words at) (moved_word moves)));
    few = omega (arith, is.few, length-map (field_words area.words at) (moved_word moves));
    birth_fits = is.birth_fits;
    field_words = moved_words-field_words moves (field_words area.words at) is.goes;
  };
}

-- the records of the objects have spellings
pub bases_spelled : (area : AreaState) (moves : List Move) (starts : List ℕ) (address : ℕ) → area.transaction < 2 ^ 32 → address + words_needed area starts ≤ 2097152
    → ((at : ℕ) → Contains starts at → IsPromotable area moves at) → AllByRecursion IsRecord (map (base_of area moves) (moves_to area starts address))
bases_spelled area moves [] address t_fits fits each = tt
bases_spelled area moves (at ∷ rest) address t_fits fits each = (
  base_spelled area moves at address t_fits (omega arith) (each at (Contains-head at rest)),
  bases_spelled area moves rest (address + words_taken area at) t_fits (omega arith) (λ a has. each a (Contains-rest at rest a has)),
)

fix_spelled : (t : ℕ) (words : List ℕ) (moves : List Move) (base end : ℕ) (f : Field) (meant : Option Word) → t < 2 ^ 32 → end ≤ 2 ^ 32 → IsFixable words moves base end f
    → AllByRecursion IsRecord (fix_meant t moves f (slice_index words (field_at f.0 f.1)) meant)
fix_spelled t words moves base end f None t_fits fits is = tt
fix_spelled t words moves base end f (Some Null) t_fits fits is = tt
fix_spelled t words moves base end f (Some (Int n)) t_fits fits is = tt
fix_spelled t words moves base end f (Some (Stable a)) t_fits fits is = tt
fix_spelled t words moves base end f (Some (Volatile at)) t_fits fits is =
    let below = is.below in (
      record {
        t_fits = t_fits;
        object_fits = omega arith;
        field_fits = is.small;
        put_word = (moved_word-settled moves (slice_index words (field_at f.0 f.1)) is.goes).word;
      },
      tt,
    )

-- so have those of the fields
pub fixes_spelled : (t : ℕ) (words : List ℕ) (moves : List Move) (base end : ℕ) (fs : List Field) → t < 2 ^ 32 → end ≤ 2 ^ 32
    → ((f : Field) → Contains fs f → IsFixable words moves base end f) → AllByRecursion IsRecord (fixes t words moves fs)
fixes_spelled t words moves base end [] t_fits fits each = tt
fixes_spelled t words moves base end (f ∷ fs) t_fits fits each =
    AllByRecursion-append IsRecord (fix_of t words moves f) (fixes t words moves fs)
    (fix_spelled t words moves base end f (meaning (slice_index words (field_at f.0 f.1))) t_fits fits (each f (Contains-head f fs)))
    (fixes_spelled t words moves base end fs t_fits fits (λ g has. each g (Contains-rest f fs g has)))
