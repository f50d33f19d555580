-- The records of a promotion: objects that a transaction made become stable, and fields come to refer to them.
use Rattle.std.specs.Prelude.{◌≡◌, ℕ, ◌+◌, List, [], ◌∷◌, length, map, true}
use Rattle.std.specs.List.{flat_map}
use Rattle.log_records.specs.declared.Record.{Record}
use Rattle.log_records.specs.declared.Record.TheVariants.{Update, Base, Fix, Undo, Commit, End, Copy, Scan, Flip, Collected}
use Rattle.heap_words.specs.Word.{is_stable}
use Rattle.log_machine.specs.Machine.{State, lies_inside}

-- a record makes an object of this transaction stable, or lets a field refer to one
abbrev pub IsPromotion : ℕ → Record → Type 0
IsPromotion t (Update q object field was word) = ⊥
IsPromotion t (Base q address words) = q ≡ t
IsPromotion t (Fix q object field word) = q ≡ t
IsPromotion t (Undo q object field word) = ⊥
IsPromotion t (Commit q) = ⊥
IsPromotion t (End q) = ⊥
IsPromotion t (Copy from to words) = ⊥
IsPromotion t (Scan page writes) = ⊥
IsPromotion t (Flip copies) = ⊥
IsPromotion t Collected = ⊥

-- the words of objects, end to end
abbrev pub end_to_end : List (List ℕ) → List ℕ
end_to_end objects = flat_map (λ o. o) objects

-- the records that make objects of these words stable, end to end from an address on
abbrev pub base_records : ℕ → ℕ → List (List ℕ) → List Record
base_records t address [] = []
base_records t address (o ∷ os) = Base t address o ∷ base_records t (address + length o) os

-- a word that a field is to have: the object's address, the number of its field, the word
abbrev pub FieldWord : Type 0
FieldWord = ℕ × ℕ × ℕ

-- the records that put these words into fields
abbrev pub fix_records : ℕ → List FieldWord → List Record
fix_records t fixes = map (λ f. Fix t f.0 f.1 f.2) fixes

-- a Fix with this word can follow: its field lies in the used words, and the word refers to a stable object
abbrev pub CanFix : State → FieldWord → Type 0
CanFix s f = (lies_inside s f.0 f.1 ≡ true) × (is_stable f.2 ≡ true)

-- the state when that many more words are used
abbrev pub with_used : State → ℕ → State
with_used s size = record s { used = s.used + size }
