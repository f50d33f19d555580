-- The records of a planned scan can be carried out.
use Rattle.std.proofs.Common.{◌≡◌, ℕ, ◌+◌, ◌-◌, ◌<◌, ◌≤◌, ◌==◌, ◌||◌, ◌&&◌, not, Bool, true, false, List, [], ◌∷◌, length, Option, None, Some, refl, sym, ap, ◌∙◌, subst, arith, lit<}
use Rattle.std.specs.Prelude.{Contains}
use Rattle.std.specs.List.{AllByRecursion, flat_map}
use Rattle.std.specs.declared.cmp.Ordering.TheVariants.{Equal}
use Rattle.std.specs.FinSet.{FinSet, contains, insert, contains-retain, nat_cmp-IsAntisymmetric}
use Rattle.std.specs.Ordering.{nat_cmp}
use Rattle.std.proofs.lemmas.Bool.{eqb-true}
use Rattle.std.proofs.lemmas.Option.{same_Some}
use Rattle.heap_spaces.specs.declared.collection.CopiedObject.{CopiedObject}
use Rattle.heap_spaces.specs.Addresses.{with_all, without_page}
use Rattle.heap_spaces.specs.Collection.{Collection, owed_by, gray_from, page_of}
use Rattle.heap_spaces.specs.Copying.{with_copies, with_scanned}
use Rattle.heap_spaces.specs.Spaces.{SpacesState, IsSpaces, with_copied}
use Rattle.log_records.specs.declared.Record.{Record}
use Rattle.log_machine.specs.Machine.{State, spaces_of, start, words_in}
use Rattle.log_machine.specs.Effect.{EachWritesBelow}
use Rattle.log_machine.specs.Sound.{IsLoser, IsConsistent}
use Rattle.log_machine.proofs.ListLaws.{AllByRecursion-at}
use Rattle.log_machine.proofs.MapLaws.{each_empty}
use Rattle.page_scanner.specs.Scan.{scan_records}
use Rattle.page_scanner.specs.Passing.{IsScanned}
use Rattle.heap_memory.specs.Memory.{Memory}
use Rattle.heap_memory.specs.Collecting.{copied_in, words_copied, collection_behind}
use Rattle.heap_engine.specs.Barrier.{CanKeep, AreNewTo, IsSoundCollection, IsSoundIn, CanScan}
use Rattle.heap_engine.proofs.ScanBehind.{scan_spaces, scan_collection}
use Rattle.heap_engine.proofs.ScanRecords.{scan_shaped}
use Rattle.heap_engine.proofs.ScanRun.{StandsIn, IsRun, scan_run}
use Rattle.heap_engine.proofs.TakenBack.{inserted_at}

-- What is known of memory before an event.
pub record IsKnown (m : Memory) : Type 0 where
  pub spaces : IsSpaces m.spaces
  pub sized : length m.words ≡ words_in m.spaces.pages
  pub owed : m.spaces.owed ≡ owed_by m.collection
  pub sound : IsSoundIn m.spaces m.collection

-- no record can always be carried out
pub none_ready : (m : Memory) → m.spaces.owed ≡ owed_by m.collection → IsSoundIn m.spaces m.collection → CanScan m []
none_ready m owes sound = record {
  keeps = kept m.collection sound;
  owed = omega arith;
  fresh = none m.collection;
  below = tt;
  few = lit< tt;
  sound = sound;
  owes = owes;
}
  where
    kept : (runs : Option Collection) → IsSoundIn m.spaces runs → CanKeep runs []
    kept None sound = tt
    kept (Some k) sound = let copied = (sound k refl).copied in omega arith

    none : (runs : Option Collection) → AreNewTo [] runs
    none None = tt
    none (Some k) = record { from = λ c among. absurd (omega (arith, among.1)); to = λ c among. absurd (omega (arith, among.1)) }

-- the records of a scan follow one another from each state with these spaces on in which that collection runs
abbrev pub Passes : SpacesState → Collection → ℕ → List Record → Type 0
Passes spaces k page records = (s : State) → spaces_of s ≡ spaces → s.collection ≡ Some k → IsScanned s page records

-- the state of a heap with these spaces in which that collection runs
abbrev state_of : SpacesState → Collection → State
state_of spaces k = record (start spaces.pages 1) { base = spaces.base; used = spaces.used; collection = Some k }

module _ (m : Memory) (k : Collection) (known : IsKnown m) (runs : m.collection ≡ Some k) where
  sound : IsSoundCollection m.spaces k
  sound = known.sound k runs

  owing : m.spaces.owed ≡ k.used - k.copied
  owing = known.owed ∙ ap owed_by runs

  consistent : IsConsistent (state_of m.spaces k)
  consistent =
      let few = known.spaces.few in
      let room = known.spaces.room in
      record {
        sound = each_empty (IsLoser (state_of m.spaces k));
        addresses = omega arith;
        spaced = record { first = known.spaces.first; room = omega (arith, owing); within = record { copied = sound.copied; used = sound.used } };
      }

  run : (page : ℕ) (records : List Record) → scan_records m.spaces k m.words page ≡ Some records → Passes m.spaces k page records → IsRun (state_of m.spaces k) k records
  run page records is passes =
      let e = owing in
      let same : m.spaces ≡ spaces_of (state_of m.spaces k) = λ i. record { pages = m.spaces.pages; base = m.spaces.base; used = m.spaces.used; owed = e i } in
      let scanned = passes (state_of m.spaces k) (sym same) refl in
      scan_run (state_of m.spaces k) scanned.next k page records consistent refl (scan_shaped m.spaces k m.words page records is) scanned.passes

-- what is put into a set of addresses below another lies there
put_below : (b : ℕ) (s : FinSet nat_cmp) (xs : List ℕ) → ((q : ℕ) → contains s q ≡ true → q < b) → AllByRecursion (λ x. x < b) xs → (q : ℕ) → contains (with_all s xs) q ≡ true → q < b
put_below b s [] below all = below
put_below b s (x ∷ xs) below all = put_below b (insert s x) xs (λ q has. one q (x == q) refl (sym (inserted_at s x q) ∙ has)) all.1
  where
    one : (q : ℕ) (t : Bool) → (x == q) ≡ t → (t || contains s q) ≡ true → q < b
    one q true test has = subst (λ (y : ℕ). y < b) (eqb-true x q test) all.0
    one q false test has = below q has

tos_below : (low high : ℕ) (copies : List CopiedObject) → AllByRecursion (StandsIn low high) copies → AllByRecursion (λ x. x < high) (flat_map (λ (c : CopiedObject). gray_from c.to c.header) copies)
tos_below low high [] all = tt
tos_below low high (c ∷ copies) all = (all.0.1, tos_below low high copies all.1)

in_both : (a b : Bool) → (a && b) ≡ true → a ≡ true
in_both true b is = refl
in_both false b is = is

without_below : (b page : ℕ) (s : FinSet nat_cmp) → ((q : ℕ) → contains s q ≡ true → q < b) → (q : ℕ) → contains (without_page s page) q ≡ true → q < b
without_below b page s below q has =
    let alike = λ (x : ℕ) (tie : nat_cmp q x ≡ Equal). ap (λ y. not (page_of y == page)) (sym (nat_cmp-IsAntisymmetric q x tie)) in
    below q (in_both (contains s q) (not (page_of q == page)) (sym (contains-retain s (λ at. not (page_of at == page)) q alike) ∙ has))

module _ (m : Memory) (k : Collection) (known : IsKnown m) (runs : m.collection ≡ Some k) (page : ℕ) (records : List Record) (is : scan_records m.spaces k m.words page ≡ Some records) (passes : Passes m.spaces k page records) where
  does : IsRun (state_of m.spaces k) k records
  does = run m k known runs page records is passes

  new_from : (c : CopiedObject) → Contains (copied_in records) c → contains k.moved c.from ≡ false
  new_from c among =
      let at = AllByRecursion-at (λ (o : CopiedObject). contains k.moved o.from ≡ false) (copied_in records) among.0 c among.1 does.fresh in
      subst (λ (o : CopiedObject). contains k.moved o.from ≡ false) among.2 at

  new_to : (c : CopiedObject) → Contains (copied_in records) c → contains k.gray c.to ≡ false
  new_to c among =
      let low = m.spaces.base + m.spaces.used in
      let high = low + words_copied records in
      let at = AllByRecursion-at (StandsIn low high) (copied_in records) among.0 c among.1 does.stand in
      let stands = subst (StandsIn low high) among.2 at in
      cases (contains k.gray c.to) refl stands.0
    where
      cases : (b : Bool) → contains k.gray c.to ≡ b → m.spaces.base + m.spaces.used ≤ c.to → contains k.gray c.to ≡ false
      cases true has past = let below = (sound m k known runs).gray c.to has in absurd (omega (arith, below))
      cases false has past = has

  sound_now : IsSoundCollection (with_copied m.spaces (words_copied records)) (with_scanned (with_copies k (copied_in records)) page)
  sound_now =
      let low = m.spaces.base + m.spaces.used in
      let high = low + words_copied records in
      let all = with_copies k (copied_in records) in
      let before : (q : ℕ) → contains k.gray q ≡ true → q < high = λ q has. let below = (sound m k known runs).gray q has in omega (arith, below) in
      let put = put_below high k.gray (flat_map (λ (c : CopiedObject). gray_from c.to c.header) (copied_in records)) before (tos_below low high (copied_in records) does.stand) in
      record {
        copied = does.kept;
        used = (sound m k known runs).used;
        gray = λ q has. let below = without_below high page all.gray put q has in omega (arith, below);
      }

  page_known : CanScan m records
  page_known =
      let kept = does.kept in
      let owes = owing m k known runs in
      let shaped = scan_shaped m.spaces k m.words page records is in
      let spaces = scan_spaces (Some page) records m.spaces shaped in
      let collection : collection_behind m.collection records ≡ Some (with_scanned (with_copies k (copied_in records)) page) =
      ap (λ o. collection_behind o records) runs ∙ sym (scan_collection (Some page) records (Some k) shaped) in
      record {
        keeps = subst (λ o. CanKeep o (copied_in records)) (sym runs) kept;
        owed = omega (arith, kept, owes);
        fresh = subst (AreNewTo (copied_in records)) (sym runs) (record { from = new_from; to = new_to });
        below = subst (λ n. EachWritesBelow n records) (sym known.sized) does.below;
        few = let bytes = does.bytes in let used = (sound m k known runs).used in let few = known.spaces.few in omega arith;
        sound = λ j has.
            let same : with_scanned (with_copies k (copied_in records)) page ≡ j = same_Some _ _ (sym collection ∙ has) in
            subst (λ (s : SpacesState). IsSoundCollection s j) (sym spaces) (subst (IsSoundCollection (with_copied m.spaces (words_copied records))) same sound_now);
        owes = ap (λ (s : SpacesState). s.owed) spaces ∙ omega (arith, kept, owes) ∙ sym (ap owed_by collection);
      }

-- The records of a page.
pub page_ready : (m : Memory) (k : Collection) (page : ℕ) (records : List Record) → IsKnown m → m.collection ≡ Some k → scan_records m.spaces k m.words page ≡ Some records → Passes m.spaces k page records → CanScan m records
page_ready m k page records known runs is passes = page_known m k known runs page records is passes
