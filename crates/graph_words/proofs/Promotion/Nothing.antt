-- A seal that promotes nothing: its one record is the commit.
use Rattle.std.proofs.Common.{◌≡◌, ℕ, false, Option, None, inl, inr, List, [], ◌∷◌, ◌++◌, map, Some, refl, sym, ap, ◌∙◌, arith}
use Rattle.std.specs.Prelude.{Contains, slice_index, slice_index_or}
use Rattle.std.proofs.lemmas.Option.{slice_get-get_or}
use Rattle.heap_words.specs.declared.Word.{Word}
use Rattle.heap_words.specs.declared.Word.TheVariants.{Null, Int, Stable, Volatile}
use Rattle.heap_words.specs.declared.Word.TheVariants as word
use Rattle.graph_model.specs.declared.val.Val.{Val}
use Rattle.graph_model.specs.declared.val.Val.TheVariants as val
use Rattle.graph_model.specs.Graph.{Graph, fields}
use Rattle.heap_words.specs.Word.{meaning, is_volatile, refers_to_volatile}
use Rattle.log_records.specs.declared.Record.TheVariants.{Commit}
use Rattle.log_machine.specs.declared.UndoEntry.{UndoEntry}
use Rattle.log_machine.specs.Machine.{field_at}
use Rattle.object_layout.proofs.WalkLaws.{Contains-head, Contains-rest}
use Rattle.volatile_area.specs.Area.{AreaState}
use Rattle.stability_tracker.proofs.PromotionLaws.{promoted_none}
use Rattle.graph_words.proofs.Places.Lists.{AllByRecursion-get, got_of_map, Contains-get}
use Rattle.graph_words.specs.Promotion.{Field, Move, written_fields, words_in_fields, promoted_by, moves_of, moves_to, base_of, fix_meant, seal_records}
use Rattle.graph_words.specs.Places.{Places, IsVisible, address_of, bits_of}
use Rattle.graph_words.proofs.Places.Addresses.{some_address}
use Rattle.graph_words.proofs.Stands.Visible.{place_of-placed}
use Rattle.graph_words.proofs.Stands.Objects.{stands_field}
use Rattle.graph_words.proofs.Promotion.Seal.{CanSeal, sealing, is_sealing}
use Rattle.graph_words.proofs.Seal.Sealing.{Sealing, IsSealing, place}
use Rattle.graph_words.proofs.Seal.Fields.{written_field}
use Rattle.graph_words.proofs.Seal.Values.{not_volatile}
use Rattle.graph_words.proofs.Promotion.Fix.{fixes}

-- no word in these fields refers to an object of an area
abbrev pub AreSettled : List ℕ → List Field → Type 0
AreSettled words fields = (f : Field) → Contains fields f → is_volatile (slice_index words (field_at f.0 f.1)) ≡ false

not_settled : (w at : ℕ) → is_volatile w ≡ false → meaning w ≡ Some (Volatile at) → ⊥
not_settled w at off meant = cc (off, ap refers_to_volatile meant)

-- no object is promoted where no written field refers to one
pub promoted_by_none : (area : AreaState) (words : List ℕ) (undo : List UndoEntry) → AreSettled words (written_fields undo) → promoted_by area words undo ≡ []
promoted_by_none area words undo settled = promoted_none area (words_in_fields words (written_fields undo)) (λ i w at got meant start.
    let f = got_of_map (λ (f : Field). slice_index words (field_at f.0 f.1)) (written_fields undo) i w got in
    not_settled w at (ap is_volatile (sym f.2) ∙ settled f.0 (Contains-get (written_fields undo) i f.0 f.1)) meant)

-- so none moves
pub moves_none : (area : AreaState) (words : List ℕ) (undo : List UndoEntry) (address : ℕ) → AreSettled words (written_fields undo) → moves_of area words undo address ≡ []
moves_none area words undo address settled = ap (λ starts. moves_to area starts address) (promoted_by_none area words undo settled)

-- a word that refers to no object of an area is not put right
pub none_meant : (t : ℕ) (moves : List Move) (f : Field) (w : ℕ) (meant : Option Word) → refers_to_volatile meant ≡ false → fix_meant t moves f w meant ≡ []
none_meant t moves f w None off = refl
none_meant t moves f w (Some Null) off = refl
none_meant t moves f w (Some (Int n)) off = refl
none_meant t moves f w (Some (Stable at)) off = refl
none_meant t moves f w (Some (Volatile at)) off = absurd (cc off)

-- and no field is put right
pub fixes_none : (t : ℕ) (words : List ℕ) (moves : List Move) (fs : List Field) → AreSettled words fs → fixes t words moves fs ≡ []
fixes_none t words moves [] settled = refl
fixes_none t words moves (f ∷ fs) settled =
    let w = slice_index words (field_at f.0 f.1) in
    ap (λ rs. rs ++ fixes t words moves fs) (none_meant t moves f w (meaning w) (settled f (Contains-head f fs)))
    ∙ fixes_none t words moves fs (λ g has. settled g (Contains-rest f fs g has))

-- A seal of a transaction that has written no reference to an object of its own is its commit alone.
pub seal_none : (area : AreaState) (words : List ℕ) (undo : List UndoEntry) (address : ℕ) → AreSettled words (written_fields undo)
    → seal_records area words undo address ≡ Commit area.transaction ∷ []
seal_none area words undo address settled =
    let moves = moves_of area words undo address in
    ap (λ rs. (rs ++ fixes area.transaction words moves (written_fields undo)) ++ Commit area.transaction ∷ []) (ap (map (base_of area moves)) (moves_none area words undo address settled))
    ∙ ap (λ rs. rs ++ Commit area.transaction ∷ []) (fixes_none area.transaction words moves (written_fields undo) settled)

value_settled : (c : Sealing) → IsSealing c → c.made ≡ 0 → (v : Val) → IsVisible c.places c.t c.made v → is_volatile (bits_of (place c) v) ≡ false
value_settled c is none (val.Null) seen = not_volatile c is val.Null tt word.Null refl refl
value_settled c is none (val.Int n) seen = not_volatile c is (val.Int n) seen (word.Int n) refl refl
value_settled c is none (val.Ref id) (inl there) =
    let at = some_address (address_of c.places id) there in
    not_volatile c is (val.Ref id) (inl there) (word.Stable at.0) (place_of-placed c.places c.g id at.0 at.1) refl
value_settled c is none (val.Ref id) (inr own) = let first = own.first in let last = own.last in absurd (omega arith)

-- and so is one that has made no object
pub none_made_settled : {places : Places} {g : Graph} {t made : ℕ} {undo : List UndoEntry} {words : List ℕ} {base used address : ℕ} → CanSeal places g t made undo words base used address
    → made ≡ 0 → AreSettled words (written_fields undo)
none_made_settled {places} {g} {t} {made} {undo} {words} {base} {used} {address} can none f has =
    let c = sealing places g t made undo words base used address in
    let is = is_sealing can in
    let there = written_field c is f has in
    let v = slice_index_or (fields g there.id) f.1 val.Null in
    let got = slice_get-get_or (fields g there.id) f.1 val.Null there.within in
    ap is_volatile (stands_field can.stands there.id f.0 f.1 there.object there.within)
    ∙ value_settled c is none v (AllByRecursion-get (IsVisible places t made) (fields g there.id) f.1 v (can.stands.visible there.id f.0 there.object) got)
