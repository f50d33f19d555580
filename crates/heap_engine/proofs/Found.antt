-- What a seal has found out is that of its transaction.
use Rattle.std.proofs.Common.{◌≡◌, ℕ, ◌+◌, ◌<◌, ◌≤◌, inl, inr, List, [], ◌∷◌, ◌++◌, length, map, reverse, Option, None, Some, Result, Ok, Err, nat_cmp, sym, ap, ◌∙◌, subst, arith}
use Rattle.std.specs.Prelude.{◌^◌, All, Contains, IfSome, IfOk}
use Rattle.std.specs.List.{flat_map}
use Rattle.std.specs.List.Sorted.{IsStrictlySortedBy}
use Rattle.std.proofs.lemmas.Map.Keys.{sorted_from_strictly_increasing}
use Rattle.log_records.specs.declared.Record.{Record}
use Rattle.log_records.specs.declared.Record.TheVariants.{Commit}
use Rattle.log_records.specs.Record.{spellings}
use Rattle.log_machine.specs.declared.UndoEntry.{UndoEntry}
use Rattle.log_machine.specs.Machine.{field_at, words_in, end_bytes}
use Rattle.log_machine.specs.Effect.{EachWritesBelow}
use Rattle.volatile_area.specs.Area.{AreaState, starts_of}
use Rattle.stability_tracker.specs.Promotion.{need}
use Rattle.stability_tracker.proofs.PromotionLaws.{promoted_increase}
use Rattle.graph_words.specs.Promotion.{Field, written_fields, words_in_fields, moves_to, base_of, fix_of, promoted_by}
use Rattle.heap_spaces.specs.Spaces.{SpacesState, IsSpaces, open_words}
use Rattle.sealing.specs.declared.sealing.Sealing.{Sealing}
use Rattle.txn_table.specs.Table.{TransactionState}
use Rattle.heap_memory.specs.Memory.{Memory}
use Rattle.heap_memory.specs.Refusals.{sealing_records}
use Rattle.heap_engine.specs.Reserve.{WroteBelow}
use Rattle.heap_engine.specs.Seal.{IsFound}
use Rattle.heap_engine.proofs.SealLaws.{written_below, promoted_there, seal_below, seal_few}

-- what follows of a value that was made
pub map_ok : {A E : Type 0} (r : Result A E) (P Q : A → Type 0) → ((a : A) → P a → Q a) → IfOk r P → IfOk r Q
map_ok (Ok a) P Q f p = f a p
map_ok (Err e) P Q f p = tt

-- the fields that were written lie in the words
pub written_inside : (words others : List ℕ) (us undo : List UndoEntry) → reverse us ≡ undo → others ≡ words → WroteBelow (length words) undo
    → All (λ f. field_at f.0 f.1 < length others) (written_fields (reverse us))
written_inside words others us undo is same below =
    let P = λ (ws : List ℕ) (vs : List UndoEntry). All (λ f. field_at f.0 f.1 < length ws) (written_fields vs) in
    subst (λ (ws : List ℕ). P ws (reverse us)) (sym same) (subst (λ (vs : List UndoEntry). P words vs) (sym is) (written_below (length words) undo below))

-- what is found of the writes, the words and the area of a transaction
pub found_is : {E : Type 0} (r : Result Sealing E) (m : Memory) (o : Option TransactionState) (area : AreaState) (words : List ℕ) (us : List UndoEntry)
    → IfSome o (λ t. area ≡ t.area) → IfSome o (λ t. reverse us ≡ t.undo) → words ≡ m.words
    → IfOk r (λ s. s.fields.keys ≡ written_fields (reverse us)) → IfOk r (λ s. s.objects.items ≡ promoted_by area words (reverse us)) → IfOk r (λ s. s.need ≡ need area s.objects.items)
    → IfOk r (λ found. IfSome o (λ t. IsFound m t found))
found_is (Err e) m o area words us ea eu ew fields objects needs = tt
found_is (Ok s) m None area words us ea eu ew fields objects needs = tt
found_is (Ok s) m (Some t) area words us ea eu ew fields objects needs =
    let same : s.objects.items ≡ promoted_by t.area m.words t.undo = objects ∙ (λ i. promoted_by (ea i) (ew i) (eu i)) in
    record {
      fields = fields ∙ ap written_fields eu;
      objects = same;
      need = needs ∙ (λ i. need (ea i) (same i));
    }

-- the records that are made if these objects are promoted, and these fields are updated
abbrev pub records_by : AreaState → List ℕ → List ℕ → List Field → ℕ → List Record
records_by area words objects fields address =
    let moves = moves_to area objects address in
    (map (base_of area moves) moves ++ flat_map (fix_of area.transaction words moves) fields) ++ Commit area.transaction ∷ []

-- they are those of the transaction's seal
pub records_are : (m : Memory) (t : TransactionState) (found : Sealing) (area : AreaState) (words : List ℕ) (address : ℕ) → IsFound m t found → area ≡ t.area → words ≡ m.words
    → address ≡ m.spaces.base + m.spaces.used → records_by area words found.objects.items found.fields.keys address ≡ sealing_records m t
records_are m t found area words address is ea ew en = λ i. records_by (ea i) (ew i) (is.objects i) (is.fields i) (en i)

-- What the making of these asks.

pub fields_inside : (m : Memory) (t : TransactionState) (found : Sealing) (words : List ℕ) → IsFound m t found → words ≡ m.words → WroteBelow (length m.words) t.undo
    → All (λ f. field_at f.0 f.1 < length words) found.fields.keys
fields_inside m t found words is ew below =
    let P = λ (ws : List ℕ) (fs : List Field). All (λ f. field_at f.0 f.1 < length ws) fs in
    subst (λ (ws : List ℕ). P ws found.fields.keys) (sym ew) (subst (λ (fs : List Field). P m.words fs) (sym is.fields) (written_below (length m.words) t.undo below))

pub objects_there : (m : Memory) (t : TransactionState) (found : Sealing) (area : AreaState) → IsFound m t found → area ≡ t.area → All (Contains (starts_of area)) found.objects.items
objects_there m t found area is ea =
    let P = λ (a : AreaState) (xs : List ℕ). All (Contains (starts_of a)) xs in
    subst (λ (a : AreaState). P a found.objects.items) (sym ea) (subst (λ (xs : List ℕ). P t.area xs) (sym is.objects) (promoted_there t.area m.words t.undo))

pub objects_ascend : (m : Memory) (t : TransactionState) (found : Sealing) → IsFound m t found → IsStrictlySortedBy nat_cmp found.objects.items
objects_ascend m t found is =
    subst (λ (xs : List ℕ). IsStrictlySortedBy nat_cmp xs) (sym is.objects)
    (sorted_from_strictly_increasing (promoted_by t.area m.words t.undo) (promoted_increase t.area (words_in_fields m.words (written_fields t.undo))))

-- What they are like.

room_behind : (spaces : SpacesState) (n size : ℕ) → IsSpaces spaces → size ≡ words_in spaces.pages → n ≤ open_words spaces → spaces.base + spaces.used + n ≤ size
room_behind spaces n size sound sized room = elim sound.first [
  | inl first ↦ let within = sound.room in omega arith
  | inr second ↦ let within = sound.room in omega arith
]

pub records_below : (m : Memory) (t : TransactionState) (found : Sealing) → IsFound m t found → IsSpaces m.spaces → length m.words ≡ words_in m.spaces.pages → found.need ≤ open_words m.spaces
    → WroteBelow (length m.words) t.undo → EachWritesBelow (length m.words) (sealing_records m t)
records_below m t found is sound sized room below =
    let fits = room_behind m.spaces found.need (length m.words) sound sized room in
    seal_below t.area m.words t.undo (m.spaces.base + m.spaces.used) (length m.words) below (omega (arith, is.need))

pub records_few : (m : Memory) (t : TransactionState) (found : Sealing) (used room : ℕ) → IsFound m t found → IsSpaces m.spaces → found.need ≤ open_words m.spaces
    → used + end_bytes (length t.undo) ≤ room → room < 2 ^ 32 → length (spellings (sealing_records m t)) < 2 ^ 32 + 2 ^ 24
records_few m t found used room is sound has kept small =
    let few = sound.few in
    seal_few t.area m.words t.undo (m.spaces.base + m.spaces.used) (omega (arith, is.need)) (omega arith)
