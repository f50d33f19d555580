-- The law of a seal: the graph stands after its records, what was promoted at new addresses, and these records can be written and followed.
use Rattle.std.proofs.Common.{◌≡◌, ℕ, ◌<◌, ◌≤◌, ◌*◌, zero, suc, ◌+◌, true, List, [], ◌∷◌, ◌++◌, map, length, Some, refl, sym, ap, subst, arith}
use Rattle.std.specs.Prelude.{Contains, fold, slice_get, slice_index}
use Rattle.std.specs.List.{AllByRecursion}
use Rattle.graph_model.specs.Graph.{Graph}
use Rattle.log_records.specs.declared.Record.TheVariants.{Commit}
use Rattle.log_records.specs.Record.{IsRecord}
use Rattle.log_machine.specs.declared.UndoEntry.{UndoEntry}
use Rattle.log_machine.specs.Machine.{State, owed, field_at, is_number, put_record, after_all}
use Rattle.log_machine.specs.UndoEntry.{LiesInside}
use Rattle.log_machine.proofs.ListLaws.{AllByRecursion-append, AllByRecursion-map}
use Rattle.log_machine.proofs.MachineLaws.{number_small}
use Rattle.volatile_area.specs.Area.{AreaState}
use Rattle.stability_tracker.specs.Promotion.{promoted}
use Rattle.stability_tracker.proofs.PromotionLaws.{promoted_start, promoted_named, promoted_along, promoted_increase}
use Rattle.graph_words.specs.Places.{Places, place_of, AreOld}
use Rattle.graph_words.specs.Area.{HasMade, area_of}
use Rattle.graph_words.specs.Stands.{Stands, StandsCommitted, AreWritten, IsOfField, AreOfFields, AreNamedByBirth}
use Rattle.graph_words.proofs.Stands.Objects.{stands_inside}
use Rattle.graph_words.specs.Promotion.{Field, base_of, written_fields, words_in_fields, promoted_by, promoted_need, moves_of, promotion_records, seal_records, promoted_places}
use Rattle.graph_words.proofs.Promotion.Sealed.{sealed_state}
use Rattle.graph_words.proofs.Promotion.Fix.{fixes}
use Rattle.graph_words.proofs.Places.Moves.{distinct_increasing, needed-sum}
use Rattle.graph_words.proofs.Promotion.Records.{bases_spelled, fixes_spelled}
use Rattle.graph_words.proofs.Promotion.Follow.{Grows, grows_on, fixable_on, grows_bases, grows_fixes, sealed_follows}
use Rattle.graph_words.proofs.Seal.Sealing.{Sealing, IsSealing, Appends, ArePromoted, area, moves, need, records, later_places, later_words}
use Rattle.graph_words.proofs.Seal.Fields.{promotable, fixable}
use Rattle.graph_words.proofs.Seal.Stands.{later_stands}
use Rattle.graph_words.proofs.Seal.Names.{later_births, later_old_names}

-- What a seal that gives the words from an address on finds: the graph stands in the words as its transaction sees it, and a reference has
-- room for each address of what it promotes.
pub record CanSeal (places : Places) (g : Graph) (t made : ℕ) (undo : List UndoEntry) (words : List ℕ) (base used address : ℕ) : Type 0 where
  pub stands : Stands t made places g words base used
  pub has : HasMade places g t made
  pub written : AreWritten places g undo
  pub of_fields : AreOfFields places g undo
  pub top : address + promoted_need (area_of (place_of places g) g t made) words undo ≤ 2097152

-- What is promoted.

got_map : {X Y : Type 0} (f : X → Y) (xs : List X) (x : X) → Contains xs x → (i : ℕ) × (slice_get (map f xs) i ≡ Some (f x))
got_map f [] x (k, within, is) = absurd (omega arith)
got_map f (y ∷ xs) x (zero, within, is) = (zero, ap (λ z. Some (f z)) is)
got_map f (y ∷ xs) x (suc k, within, is) = let rest = got_map f xs x (k, omega arith, is) in (suc rest.0, rest.1)

-- what is reached from the written fields is what a seal has to promote
pub promoted_is : (area : AreaState) (words : List ℕ) (undo : List UndoEntry) → ArePromoted area words (written_fields undo) (promoted_by area words undo)
promoted_is area words undo =
    let written = words_in_fields words (written_fields undo) in
    record {
      own = λ at has. promoted_start area written at has;
      distinct = distinct_increasing (promoted area written) (promoted_increase area written);
      named = λ f at has meant start.
          let got = got_map (λ (f : Field). slice_index words (field_at f.0 f.1)) (written_fields undo) f has in
          promoted_named area written got.0 (slice_index words (field_at f.0 f.1)) at got.1 meant start;
      along = λ from i w at has got meant start. promoted_along area written from i w at has got meant start;
    }

-- a seal with what it promotes
abbrev pub sealing : Places → Graph → ℕ → ℕ → List UndoEntry → List ℕ → ℕ → ℕ → ℕ → Sealing
sealing places g t made undo words base used address =
    record {
      places = places;
      g = g;
      t = t;
      made = made;
      undo = undo;
      words = words;
      base = base;
      used = used;
      starts = promoted_by (area_of (place_of places g) g t made) words undo;
      address = address;
    }

-- what is needed is the same in both words
pub needs : (places : Places) (g : Graph) (t made : ℕ) (undo : List UndoEntry) (words : List ℕ) (base used address : ℕ)
    → promoted_need (area_of (place_of places g) g t made) words undo ≡ need (sealing places g t made undo words base used address)
needs places g t made undo words base used address = needed-sum (area_of (place_of places g) g t made) (promoted_by (area_of (place_of places g) g t made) words undo)

-- where a seal finds this, the laws of what it promotes hold
pub is_sealing : {places : Places} {g : Graph} {t made : ℕ} {undo : List UndoEntry} {words : List ℕ} {base used address : ℕ} → CanSeal places g t made undo words base used address
    → IsSealing (sealing places g t made undo words base used address)
is_sealing {places} {g} {t} {made} {undo} {words} {base} {used} {address} can = record {
  stands = can.stands;
  has = can.has;
  written = can.written;
  of_fields = can.of_fields;
  promotion = promoted_is (area_of (place_of places g) g t made) words undo;
  top = subst (λ n. address + n ≤ 2097152) (needs places g t made undo words base used address) can.top;
}

-- and those of what it leaves where it gives the words after those that are used, if there are as many
pub appends : {places : Places} {g : Graph} {t made : ℕ} {undo : List UndoEntry} {words : List ℕ} {base used : ℕ} → CanSeal places g t made undo words base used (base + used)
    → base + used + promoted_need (area_of (place_of places g) g t made) words undo ≤ length words → Appends (sealing places g t made undo words base used (base + used))
appends {places} {g} {t} {made} {undo} {words} {base} {used} can room = record {
  sealing = is_sealing can;
  end = refl;
  room = subst (λ n. base + used + n ≤ length words) (needs places g t made undo words base used (base + used)) room;
}

-- The graph.

-- The graph stands after a seal as it is committed: objects of the space where they stood, those that are promoted at their new addresses.
pub seal_stands : {places : Places} {g : Graph} {t made : ℕ} {undo : List UndoEntry} {words : List ℕ} {base used : ℕ} → CanSeal places g t made undo words base used (base + used)
    → let area = area_of (place_of places g) g t made in
    base + used + promoted_need area words undo ≤ length words
    → StandsCommitted (places ++ promoted_places area (moves_of area words undo (base + used))) g (fold put_record words (promotion_records area words undo (base + used))) base
    (used + promoted_need area words undo)
seal_stands {places} {g} {t} {made} {undo} {words} {base} {used} can room =
    let c = sealing places g t made undo words base used (base + used) in
    subst (λ n. StandsCommitted (later_places c) g (later_words c) base (used + n)) (sym (needs places g t made undo words base used (base + used))) (later_stands c (appends can room))

-- births give the names of objects, if they did before
pub seal_births : {places : Places} {g : Graph} {t made : ℕ} {undo : List UndoEntry} {words : List ℕ} {base used : ℕ} → CanSeal places g t made undo words base used (base + used)
    → let area = area_of (place_of places g) g t made in
    base + used + promoted_need area words undo ≤ length words → AreNamedByBirth places words
    → AreNamedByBirth (places ++ promoted_places area (moves_of area words undo (base + used))) (fold put_record words (promotion_records area words undo (base + used)))
seal_births {places} {g} {t} {made} {undo} {words} {base} {used} can room named = later_births (sealing places g t made undo words base used (base + used)) (appends can room) named

-- no transaction from a number above on can give one of them
pub seal_old : {places : Places} {g : Graph} {t made : ℕ} {undo : List UndoEntry} {words : List ℕ} {base used address : ℕ} → CanSeal places g t made undo words base used address
    → (next later : ℕ) → AreOld next places → t < later → next ≤ later
    → let area = area_of (place_of places g) g t made in AreOld later (places ++ promoted_places area (moves_of area words undo address))
seal_old {places} {g} {t} {made} {undo} {words} {base} {used} {address} can next later old below more =
    later_old_names (sealing places g t made undo words base used address) (is_sealing can) next later old below more

-- The records.

-- each record of a seal has a spelling
pub seal_spelled : {places : Places} {g : Graph} {t made : ℕ} {undo : List UndoEntry} {words : List ℕ} {base used address : ℕ} → CanSeal places g t made undo words base used address
    → is_number t ≡ true → AllByRecursion IsRecord (seal_records (area_of (place_of places g) g t made) words undo address)
seal_spelled {places} {g} {t} {made} {undo} {words} {base} {used} {address} can number =
    let c = sealing places g t made undo words base used address in
    let is = is_sealing can in
    let inside = AllByRecursion-map (IsOfField places g) (LiesInside base used) undo (stands_inside can.stands) can.of_fields in
    let below = can.stands.below in
    let small = number_small t number in
    AllByRecursion-append IsRecord (records c) (Commit t ∷ [])
    (AllByRecursion-append IsRecord (map (base_of (area c) (moves c)) (moves c)) (fixes t words (moves c) (written_fields undo))
    (bases_spelled (area c) (moves c) c.starts address (omega arith) is.top (promotable c is (omega arith)))
    (fixes_spelled t words (moves c) base (base + used) (written_fields undo) (omega arith) (omega arith) (fixable c is base used inside)))
    (omega arith, tt)

-- the records of the promotion can follow where the words that are used end, if all that was written lies in these
pub promotion_grows : (s : State) {places : Places} {g : Graph} {t made : ℕ} {undo : List UndoEntry} {words : List ℕ} {base used : ℕ}
    → CanSeal places g t made undo words base used (s.base + s.used) → AllByRecursion (LiesInside s.base s.used) undo → is_number t ≡ true
    → s.used + promoted_need (area_of (place_of places g) g t made) words undo + owed s ≤ 64 * s.pages
    → Grows s t (promoted_need (area_of (place_of places g) g t made) words undo) (promotion_records (area_of (place_of places g) g t made) words undo (s.base + s.used))
promotion_grows s {places} {g} {t} {made} {undo} {words} {base} {used} can inside number room =
    let c = sealing places g t made undo words base used (s.base + s.used) in
    let is = is_sealing can in
    let small = number_small t number in
    let same = needs places g t made undo words base used (s.base + s.used) in
    let bases = grows_bases s (area c) (moves c) c.starts (s.base + s.used) refl number (subst (λ n. s.used + n + owed s ≤ 64 * s.pages) same room) (promotable c is (omega arith)) in
    let n = bases.state in
    let kept = bases.grown.base in
    let more = bases.grown.used in
    let fixes_follow = grows_fixes n t words (moves c) (written_fields undo) number
    (λ f has. fixable_on words (moves c) s.base (s.base + s.used) n.base (n.base + n.used) f kept (omega arith) (fixable c is s.base s.used inside f has)) in
    let whole : need c + 0 ≡ promoted_need (area c) words undo = omega (arith, same) in
    subst (λ m. Grows s t m (records c)) whole (grows_on s t (need c) 0 (map (base_of (area c) (moves c)) (moves c)) (fixes t words (moves c) (written_fields undo)) bases fixes_follow)

-- each can follow those before it, and after them the transaction is committed and what it promoted is used
pub seal_follows : (s : State) {places : Places} {g : Graph} {t made : ℕ} {undo : List UndoEntry} {words : List ℕ} {base used : ℕ}
    → CanSeal places g t made undo words base used (s.base + s.used) → AllByRecursion (LiesInside s.base s.used) undo → is_number t ≡ true
    → s.used + promoted_need (area_of (place_of places g) g t made) words undo + owed s ≤ 64 * s.pages
    → let area = area_of (place_of places g) g t made in
    after_all s (seal_records area words undo (s.base + s.used)) ≡ Some (sealed_state s t (promoted_need area words undo))
seal_follows s {places} {g} {t} {made} {undo} {words} can inside number room =
    let area = area_of (place_of places g) g t made in
    sealed_follows s t (promoted_need area words undo) (promotion_records area words undo (s.base + s.used)) number (promotion_grows s can inside number room)
