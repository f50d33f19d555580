-- Objects that were put end to end: each has its header and birth, and its fields made others.
use Rattle.std.proofs.Common.{◌≡◌, ℕ, suc, ◌+◌, ◌≤◌, List, [], ◌∷◌, length, get_or, Some, None, refl, sym, ap, ◌∙◌, subst, arith}
use Rattle.std.specs.Prelude.{Contains, slice_index, if◌then◌else◌}
use Rattle.std.proofs.lemmas.Bool.{le-leb}
use Rattle.std.proofs.lemmas.List.{get_or-map}
use Rattle.heap_words.specs.Header.{header}
use Rattle.object_layout.specs.Layout.{object_at, whole_length, field_words}
use Rattle.object_layout.specs.Walk.{AreEndToEnd}
use Rattle.object_layout.proofs.LayoutLaws.{object_header, length-field_words}
use Rattle.object_layout.proofs.WalkLaws.{Contains-head, Contains-rest}
use Rattle.log_machine.specs.Machine.{put_all, field_at}
use Rattle.log_machine.proofs.WordsLaws.{length-put_all}
use Rattle.graph_words.specs.Places.{Places, addresses}
use Rattle.graph_words.proofs.Stands.Objects.{word_at_field}
use Rattle.collection_words.specs.Completed.{IsMade, taken_at, taken_by, moves_from, places_from}
use Rattle.collection_words.proofs.Moves.Ends.{move_within, taken_object}
use Rattle.collection_words.proofs.Words.Put.{putting, putting-at}

-- an object with the header of another has its length, where its words are all there
pub object_like : (words others : List ℕ) (at to n : ℕ) → object_at words at ≡ Some n → slice_index others to ≡ slice_index words at → to + 2 + n ≤ length others → object_at others to ≡ Some n
object_like words others at to n is same within =
    ap (λ (w : ℕ). whole_length others to (header w)) same
    ∙ ap (whole_length others to) (object_header words at n is).0
    ∙ ap (λ b. if b then Some n else None) (le-leb (to + 2 + n) (length others) within)

-- so is each object that was put end to end with others
pub putting-object : (follow : ℕ → ℕ) (words starts now : List ℕ) (from at to n : ℕ) → Contains (moves_from words starts from) (at, to) → from + taken_by words starts ≤ length now
    → object_at words at ≡ Some n → IsMade follow words (put_all now (putting follow words starts from)) at to n
putting-object follow words starts now from at to n has fits is =
    let others = put_all now (putting follow words starts from) in
    let size = taken_object words at n is in
    let within = (move_within words starts from at to has).1 in
    let long = length-put_all (putting follow words starts from) now in
    let first : to + 0 ≡ to = omega arith in
    let head : slice_index others to ≡ slice_index words at = ap (λ (x : ℕ). get_or others x 0) (sym first) ∙ putting-at follow words starts now from at to 0 has fits (omega arith) in
    record {
      was = is;
      is = object_like words others at to n is head (omega arith);
      birth = putting-at follow words starts now from at to 1 has fits (omega arith);
      fields = λ i below.
          let place : field_at to i ≡ to + suc (suc i) = omega arith in
          let many = length-field_words words at n is in
          ap (λ (x : ℕ). get_or others x 0) place
          ∙ putting-at follow words starts now from at to (suc (suc i)) has fits (omega arith)
          ∙ get_or-map follow (field_words words at) i 0 0 (omega arith)
          ∙ ap follow (sym (word_at_field words at n i is below));
    }

-- objects stand end to end where each of them stands
pub placed_ends : (words others : List ℕ) (ps : Places) (to : ℕ) → ((at there : ℕ) → Contains (moves_from words (addresses ps) to) (at, there) → (n : ℕ) × (object_at words at ≡ Some n) × (object_at others there ≡ Some n))
    → AreEndToEnd others to (addresses (places_from words ps to)) (to + taken_by words (addresses ps))
placed_ends words others [] to each = omega arith
placed_ends words others (p ∷ ps) to each =
    let first = each p.1 to (Contains-head (p.1, to) (moves_from words (addresses ps) (to + taken_at words p.1))) in
    let size = taken_object words p.1 first.0 first.1 in
    let next : to + taken_at words p.1 ≡ to + 2 + first.0 = omega arith in
    let end : to + taken_at words p.1 + taken_by words (addresses ps) ≡ to + taken_by words (addresses (p ∷ ps)) = omega arith in
    let later = placed_ends words others ps (to + taken_at words p.1) (λ at there has. each at there (Contains-rest (p.1, to) (moves_from words (addresses ps) (to + taken_at words p.1)) (at, there) has)) in (
      first.0,
      refl,
      first.2,
      subst (λ (x : ℕ). AreEndToEnd others x (addresses (places_from words ps (to + taken_at words p.1))) (to + taken_by words (addresses (p ∷ ps)))) next
          (subst (AreEndToEnd others (to + taken_at words p.1) (addresses (places_from words ps (to + taken_at words p.1)))) end later),
    )
