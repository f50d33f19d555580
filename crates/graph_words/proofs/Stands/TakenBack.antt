-- When writes are taken back, objects stay where they are, with their lengths and births: the writes wrote fields alone.
use Rattle.std.proofs.Common.{Contains, List, [], ap, ℕ, ◌+◌, ◌∙◌, ◌∷◌, ◌≡◌}
use Rattle.graph_model.specs.Graph.{Graph}
use Rattle.object_layout.specs.Layout.{birth_at, id_of}
use Rattle.object_layout.specs.Walk.{used_words}
use Rattle.object_layout.proofs.WalkLaws.{Contains-head, Contains-rest}
use Rattle.log_machine.proofs.ListLaws.{AllByRecursion-map}
use Rattle.log_machine.specs.Machine.{taken_back}
use Rattle.log_machine.specs.declared.UndoEntry.{UndoEntry}
use Rattle.graph_words.proofs.Area.Field.{AreFields, birth_taken_back, end_to_end_whole, field_whole}
use Rattle.graph_words.specs.Places.{Places, addresses}
use Rattle.graph_words.specs.Stands.{AreNamedByBirth, AreOfFields, IsOfField, Stands}
use Rattle.graph_words.proofs.Stands.Field.{IsField}
use Rattle.graph_words.proofs.Stands.Write.{stands_IsField}

-- What was written.

-- these are fields of the objects that stand in the used words
pub write_fields_used : {t made : ℕ} {places : Places} {g : Graph} {words : List ℕ} {base used : ℕ} → Stands t made places g words base used → (undo : List UndoEntry) → AreOfFields places g undo
    → AreFields (used_words words base used) (addresses places) undo
write_fields_used {places = places} {g = g} {words = words} {base = base} {used = used} stands undo all =
    AllByRecursion-map (IsOfField places g) (λ u. IsField (used_words words base used) (addresses places) u.object u.field) undo
    (λ u wrote. stands_IsField stands wrote.id u.object u.field wrote.object wrote.field) all

-- and of those of all words
pub write_fields_whole : {t made : ℕ} {places : Places} {g : Graph} {words : List ℕ} {base used : ℕ} → Stands t made places g words base used → (undo : List UndoEntry) → AreOfFields places g undo
    → AreFields words (addresses places) undo
write_fields_whole {places = places} {words = words} {base = base} {used = used} stands undo all =
    AllByRecursion-map (λ u. IsField (used_words words base used) (addresses places) u.object u.field) (λ u. IsField words (addresses places) u.object u.field) undo
    (λ u is. field_whole words (base + used) (addresses places) u.object u.field is) (write_fields_used stands undo all)

-- Words that are taken back.

-- and its birth
pub taken_back_birth : {t made : ℕ} {places : Places} {g : Graph} {words : List ℕ} {base used : ℕ} → Stands t made places g words base used → (undo : List UndoEntry) → AreOfFields places g undo
    → (at : ℕ) → Contains (addresses places) at → birth_at (taken_back undo words) at ≡ birth_at words at
taken_back_birth {places = places} {words = words} {base = base} {used = used} stands undo all at has =
    birth_taken_back undo words base (addresses places) (base + used) at (end_to_end_whole words (base + used) base (addresses places) (base + used) stands.ends)
    (write_fields_whole stands undo all) has

-- Births that give names.

-- places are named by birth in all words with the same births
pub renamed : (places : Places) (words others : List ℕ) → ((at : ℕ) → Contains (addresses places) at → birth_at others at ≡ birth_at words at) → AreNamedByBirth places words → AreNamedByBirth places others
renamed [] words others same born = tt
renamed (p ∷ ps) words others same born = (
  ap id_of (same p.1 (Contains-head p.1 (addresses ps))) ∙ born.0,
  renamed ps words others (λ at has. same at (Contains-rest p.1 (addresses ps) at has)) born.1,
)
