-- The spaces and the collection in memory after records of a collection are those of the state after them.
use Rattle.std.proofs.Common.{◌≡◌, ℕ, ◌+◌, ◌-◌, ◌≤◌, List, [], ◌∷◌, Option, None, Some, refl, ap, ◌∙◌, subst, arith}
use Rattle.std.specs.List.{AllByRecursion}
use Rattle.std.specs.FinSet.{len}
use Rattle.std.specs.Prelude.{◌==◌, slice_index, length}
use Rattle.std.specs.Option.{option_map}
use Rattle.std.proofs.lemmas.Option.{option_and_then_some}
use Rattle.heap_spaces.specs.Collection.{Collection, owed_by}
use Rattle.heap_spaces.specs.Copying.{with_copies, with_scanned}
use Rattle.heap_spaces.specs.Spaces.{SpacesState}
use Rattle.log_records.specs.declared.copies.ObjectCopy.{ObjectCopy}
use Rattle.log_records.specs.declared.Record.{Record}
use Rattle.log_records.specs.declared.Record.TheVariants.{Update, Base, Fix, Undo, Commit, End, Copy, Scan, Flip, Collected}
use Rattle.log_machine.specs.Collecting.{can_put, collected_in, collecting_after, is_current_page, scanned_in, with_copy}
use Rattle.log_machine.specs.Machine.{State, owed, spaces_of}
use Rattle.log_machine.proofs.CopyRows.{copy_told, one_copied}
use Rattle.log_machine.proofs.ListLaws.{AllByRecursion-append}
use Rattle.page_scanner.specs.Passing.{collecting_after_all}
use Rattle.page_scanner.specs.Scan.{Planned, can_write, scan, scan_records}
use Rattle.page_scanner.proofs.Steps.{kept_scan, planned_parts, tested}
use Rattle.std.specs.List.{list_all}
use Rattle.std.specs.Prelude.{◌&&◌}
use Rattle.heap_memory.specs.Collecting.{collection_behind, copied_by, spaces_behind, spaces_with}

-- The records of scans.

-- a record of a scan, or the end of a collection
abbrev pub IsOfScan : Record → Type 0
IsOfScan (Copy from to words) = Unit {0}
IsOfScan (Scan page writes) = Unit {0}
IsOfScan Collected = Unit {0}
IsOfScan rec = ⊥

-- all that a plan copies is such
abbrev CopiesAlone : Planned → Type 0
CopiesAlone q = AllByRecursion IsOfScan q.copies

-- so the records of the scan of a page are
pub scan_of : (spaces : SpacesState) (k : Collection) (words : List ℕ) (page : ℕ) (records : List Record) → scan_records spaces k words page ≡ Some records → AllByRecursion IsOfScan records
scan_of spaces k words page records planned =
    let plan = planned_parts page (scan spaces k words page) records planned in
    let kept = kept_scan CopiesAlone spaces k words (record {
      write = λ q r at to alone is. subst CopiesAlone (tested (can_write spaces q at to) _ r is).1 alone;
      copy = λ q b n alone within none object can. AllByRecursion-append IsOfScan q.copies (_ ∷ []) alone (tt, tt);
    }) page plan.0 tt plan.1 in
    subst (AllByRecursion IsOfScan) plan.2 (AllByRecursion-append IsOfScan plan.0.copies (Scan page plan.0.writes ∷ []) kept.1 (tt, tt))

-- One record.

-- The spaces and the collection after a record are those of a state.
pub record AreBehind (s n : State) (records : List Record) : Type 0 where
  pub spaces : spaces_behind (spaces_of s) records ≡ spaces_of n
  pub collection : collection_behind s.collection records ≡ n.collection

copied_behind : (s n : State) (from to : ℕ) (words : List ℕ) → collecting_after s (Copy from to words) ≡ Some n → AreBehind s n (Copy from to words ∷ [])
copied_behind s n from to words follows =
    let copy : ObjectCopy = record { from = from; to = to; words = words } in
    let told = copy_told s n copy follows in
    let kept : owed s - length words ≡ told.k.used - (told.k.copied + length words) = ap (λ (o : Option Collection). owed_by o - length words) told.runs ∙ omega arith in
    let behind : AreBehind s (with_copy s told.k copy) (Copy from to words ∷ []) = record {
      spaces = ap (λ (x : ℕ). let spaces : SpacesState = record { pages = s.pages; base = s.base; used = s.used + length words; owed = x } in spaces) kept;
      collection = ap (λ (o : Option Collection). option_map (λ k. with_copies k (copied_by (Copy from to words))) o) told.runs
          ∙ ap (λ (k : Collection). Some k) (one_copied told.k (record { from = from; to = to; header = slice_index words 0; words = length words }) words refl);
    } in
    subst (λ (x : State). AreBehind s x (Copy from to words ∷ [])) told.is behind

scanned_behind : (s n : State) (page : ℕ) (writes : List (ℕ × ℕ)) (o : Option Collection) → s.collection ≡ o → scanned_in s page writes o ≡ Some n → AreBehind s n (Scan page writes ∷ [])
scanned_behind s n page writes None run follows = absurd (cc follows)
scanned_behind s n page writes (Some k) run follows =
    let last = record s { collection = Some (with_scanned k page) } in
    let told = tested (is_current_page s page && list_all (can_put s) writes) last n follows in
    let behind : AreBehind s last (Scan page writes ∷ []) = record {
      spaces = ap (λ (o : Option Collection). let spaces : SpacesState = record { pages = s.pages; base = s.base; used = s.used; owed = owed_by o } in spaces) run;
      collection = ap (λ (o : Option Collection). option_map (λ k. with_scanned k page) o) run;
    } in
    subst (λ (x : State). AreBehind s x (Scan page writes ∷ [])) told.1 behind

ended_behind : (s n : State) (o : Option Collection) → collected_in s o ≡ Some n → AreBehind s n (Collected ∷ [])
ended_behind s n None follows = absurd (cc follows)
ended_behind s n (Some k) follows =
    let last = record s { collection = None } in
    let behind : AreBehind s last (Collected ∷ []) = record { spaces = refl; collection = refl } in
    subst (λ (x : State). AreBehind s x (Collected ∷ [])) (tested (len k.gray == 0) last n follows).1 behind

record_behind : (s n : State) (rec : Record) → IsOfScan rec → collecting_after s rec ≡ Some n → AreBehind s n (rec ∷ [])
record_behind s n (Copy from to words) of follows = copied_behind s n from to words follows
record_behind s n (Scan page writes) of follows = scanned_behind s n page writes s.collection refl follows
record_behind s n Collected of follows = ended_behind s n s.collection follows
record_behind s n (Flip copies) of follows = absurd of
record_behind s n (Update t object field was word) of follows = absurd of
record_behind s n (Base t address words) of follows = absurd of
record_behind s n (Fix t object field word) of follows = absurd of
record_behind s n (Undo t object field word) of follows = absurd of
record_behind s n (Commit t) of follows = absurd of
record_behind s n (End t) of follows = absurd of

-- Several.

pub none_behind : (s : State) → AreBehind s s []
none_behind s = record { spaces = refl; collection = refl }

pub all_behind : (s n : State) (records : List Record) → AllByRecursion IsOfScan records → collecting_after_all s records ≡ Some n → AreBehind s n records
all_behind s n [] of follows = let same : s ≡ n = cc follows in subst (λ (x : State). AreBehind s x []) same (none_behind s)
all_behind s n (r ∷ rs) of follows =
    option_and_then_some (λ next. collecting_after_all next rs) (collecting_after s r) n follows (λ next first rest.
    let one = record_behind s next r of.0 first in
    let more = all_behind next n rs of.1 rest in
    record {
      spaces = ap (λ (x : SpacesState). spaces_behind x rs) one.spaces ∙ more.spaces;
      collection = ap (λ (o : Option Collection). collection_behind o rs) one.collection ∙ more.collection;
    })

-- Records of scans take words of the space that is current, which stays so.

pub record HaveGrown (old new : SpacesState) : Type 0 where
  pub base : new.base ≡ old.base
  pub used : old.used ≤ new.used

grown_by : (spaces : SpacesState) (rec : Record) → HaveGrown spaces (spaces_with spaces rec)
grown_by spaces (Copy from to words) = record { base = refl; used = omega arith }
grown_by spaces Collected = record { base = refl; used = omega arith }
grown_by spaces rec = record { base = refl; used = omega arith }

pub spaces_grow : (spaces : SpacesState) (records : List Record) → HaveGrown spaces (spaces_behind spaces records)
spaces_grow spaces [] = record { base = refl; used = omega arith }
spaces_grow spaces (r ∷ rs) =
    let one = grown_by spaces r in
    let more = spaces_grow (spaces_with spaces r) rs in
    record { base = more.base ∙ one.base; used = omega (arith, one.used, more.used) }
