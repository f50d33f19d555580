-- A seal's records depend on the words that refer to objects of an area, and on no other.
use Rattle.std.proofs.Common.{◌≡◌, ◌⊎◌, inl, inr, ℕ, false, List, [], ◌∷◌, ◌++◌, map, Option, None, Some, refl, sym, ap, ◌∙◌}
use Rattle.std.specs.Prelude.{slice_index, ◌||◌}
use Rattle.std.specs.List.{AllByRecursion}
use Rattle.heap_words.specs.declared.Word.{Word}
use Rattle.heap_words.specs.declared.Word.TheVariants.{Null, Int, Stable, Volatile}
use Rattle.heap_words.specs.Word.{meaning, is_volatile, refers_to_volatile}
use Rattle.log_records.specs.declared.Record.TheVariants.{Commit}
use Rattle.log_machine.specs.declared.UndoEntry.{UndoEntry}
use Rattle.log_machine.specs.Machine.{field_at}
use Rattle.stability_tracker.specs.Promotion.{need, refers, some_refers}
use Rattle.stability_tracker.proofs.PromotionLaws.{promoted_alike}
use Rattle.volatile_area.specs.Area.{AreaState}
use Rattle.graph_words.specs.Promotion.{Field, Move, base_of, fix_meant, moves_of, moves_to, promoted_by, promoted_need, promotion_records, seal_records, words_in_fields, written_fields}
use Rattle.graph_words.proofs.Promotion.Fix.{fixes}
use Rattle.graph_words.proofs.Promotion.Nothing.{none_meant}

-- two words that a seal takes alike: they are the same, or neither refers to an object of an area
abbrev pub AreAlike : ℕ → ℕ → Type 0
AreAlike w v = (w ≡ v) ⊎ ((is_volatile w ≡ false) × (is_volatile v ≡ false))

-- these words and the others are alike in these fields
abbrev pub AgreeIn : List ℕ → List ℕ → List Field → Type 0
AgreeIn words others fs = AllByRecursion (λ f. AreAlike (slice_index others (field_at f.0 f.1)) (slice_index words (field_at f.0 f.1))) fs

refers_none : (at : ℕ) (meant : Option Word) → refers_to_volatile meant ≡ false → refers at meant ≡ false
refers_none at None off = refl
refers_none at (Some Null) off = refl
refers_none at (Some (Int n)) off = refl
refers_none at (Some (Stable a)) off = refl
refers_none at (Some (Volatile a)) off = absurd (cc off)

refers_alike : (at w v : ℕ) → AreAlike w v → refers at (meaning w) ≡ refers at (meaning v)
refers_alike at w v (inl same) = ap (λ x. refers at (meaning x)) same
refers_alike at w v (inr off) = refers_none at (meaning w) off.0 ∙ sym (refers_none at (meaning v) off.1)

fields_alike : (at : ℕ) (words others : List ℕ) (fs : List Field) → AgreeIn words others fs → some_refers at (words_in_fields others fs) ≡ some_refers at (words_in_fields words fs)
fields_alike at words others [] same = refl
fields_alike at words others (f ∷ fs) same =
    let first = refers_alike at (slice_index others (field_at f.0 f.1)) (slice_index words (field_at f.0 f.1)) same.0 in
    let rest = fields_alike at words others fs same.1 in
    λ i. first i || rest i

fix_alike : (t : ℕ) (moves : List Move) (f : Field) (w v : ℕ) → AreAlike w v → fix_meant t moves f w (meaning w) ≡ fix_meant t moves f v (meaning v)
fix_alike t moves f w v (inl same) = ap (λ x. fix_meant t moves f x (meaning x)) same
fix_alike t moves f w v (inr off) = none_meant t moves f w (meaning w) off.0 ∙ sym (none_meant t moves f v (meaning v) off.1)

fixes_alike : (t : ℕ) (words others : List ℕ) (moves : List Move) (fs : List Field) → AgreeIn words others fs → fixes t others moves fs ≡ fixes t words moves fs
fixes_alike t words others moves [] same = refl
fixes_alike t words others moves (f ∷ fs) same =
    let first = fix_alike t moves f (slice_index others (field_at f.0 f.1)) (slice_index words (field_at f.0 f.1)) same.0 in
    let rest = fixes_alike t words others moves fs same.1 in
    λ i. first i ++ rest i

module _ (area : AreaState) (words others : List ℕ) (undo : List UndoEntry) (same : AgreeIn words others (written_fields undo)) where
  -- they give the same objects for a seal to promote
  pub promoted_same : promoted_by area others undo ≡ promoted_by area words undo
  promoted_same = promoted_alike area (words_in_fields others (written_fields undo)) (words_in_fields words (written_fields undo)) (λ at. fields_alike at words others (written_fields undo) same)

  -- as many words that these take
  pub need_same : promoted_need area others undo ≡ promoted_need area words undo
  need_same = ap (need area) promoted_same

  -- where they move
  pub moves_same : (address : ℕ) → moves_of area others undo address ≡ moves_of area words undo address
  moves_same address = ap (λ starts. moves_to area starts address) promoted_same

  -- the same records of the promotion
  pub promotion_same : (address : ℕ) → promotion_records area others undo address ≡ promotion_records area words undo address
  promotion_same address =
      let moves = moves_of area words undo address in
      ap (λ ms. map (base_of area ms) ms ++ fixes area.transaction others ms (written_fields undo)) (moves_same address)
      ∙ ap (λ rs. map (base_of area moves) moves ++ rs) (fixes_alike area.transaction words others moves (written_fields undo) same)

  -- and of the seal
  pub records_same : (address : ℕ) → seal_records area others undo address ≡ seal_records area words undo address
  records_same address = ap (λ rs. rs ++ Commit area.transaction ∷ []) (promotion_same address)
