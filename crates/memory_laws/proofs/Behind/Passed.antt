-- What records of a collection that runs leave of a valid core: the state after them, and where its objects are.
use Rattle.std.proofs.Common.{◌≡◌, ℕ, true, false, Bool, List, [], ◌∷◌, ◌++◌, Option, None, Some, refl, sym, ap, ◌∙◌, subst}
use Rattle.std.specs.Prelude.{unwrap_or, if◌then◌else◌, option_and_then}
use Rattle.std.specs.FinSet.{len}
use Rattle.graph_model.specs.declared.event.Event.{Event}
use Rattle.graph_model.specs.declared.id.Id.{Id}
use Rattle.graph_model.specs.Graph.{Graph}
use Rattle.graph_model.specs.Transaction.{Transaction, held}
use Rattle.graph_model.specs.History.{Account, account}
use Rattle.graph_model.specs.Plain.{view}
use Rattle.heap_spaces.specs.Collection.{Collection}
use Rattle.log_records.specs.declared.Record.{Record}
use Rattle.log_records.specs.declared.Record.TheVariants.{Collected}
use Rattle.log_machine.specs.Machine.{State, after_all, spaces_of}
use Rattle.graph_words.specs.Places.{address_of}
use Rattle.collection_words.specs.Placing.{Placing, moved_by_all}
use Rattle.collection_words.proofs.Steps.Collected.{collected_state}
use Rattle.page_scanner.specs.Scan.{scan_records}
use Rattle.page_scanner.proofs.After.{after_all_collecting}
use Rattle.read_barrier.specs.Barrier.{barrier_page_of}
use Rattle.heap_model.specs.Collecting.{barrier_at, is_gray_in, page_records, page_records_of}
use Rattle.heap_model.specs.Core.{Core, Ground, all_words, barrier_records, call_barrier, ground, held_barrier, placing}
use Rattle.heap_model.proofs.Step.Moved.{barrier_by}
use Rattle.core_laws.proofs.Collecting.Carried.{none_parted}
use Rattle.core_laws.proofs.Collecting.Collected.{follows}
use Rattle.core_laws.proofs.Collecting.Scan.{keep}
use Rattle.core_laws.specs.Valid.{Agrees}
use Rattle.memory_laws.proofs.Behind.Spaces.{AreBehind, all_behind, none_behind, scan_of}

-- The records can follow. After them objects that were current stand where they did, no others are there but such as remained, and the same writes
-- may be taken back.
pub record HavePassed (c : Core) (s : State) (records : List Record) : Type 0 where
  pub next : State
  pub passes : after_all s records ≡ Some next
  pub spaces : AreBehind s next records
  pub undo : next.undo ≡ s.undo
  pub kept : (id : Id) (at : ℕ) → address_of c.places id ≡ Some at → address_of (moved_by_all (placing c) records).places id ≡ Some at
  pub fewer : (id : Id) → address_of (c.places ++ c.remaining) id ≡ None → address_of (moved_by_all (placing c) records).places id ≡ None

pub none_passed : (c : Core) (s : State) → HavePassed c s []
none_passed c s = record {
  next = s;
  passes = refl;
  spaces = none_behind s;
  undo = refl;
  kept = λ id at there. there;
  fewer = λ id none. (none_parted c.places c.remaining id none).0;
}

-- The scan of a page.

scan_passed : (a : Account) (c : Core) (h : Agrees a c) (k : Collection) → h.behind.collection ≡ Some k → (page : ℕ) (records : List Record) → scan_records (spaces_of h.behind) k (all_words c) page ≡ Some records
    → HavePassed c h.behind records
scan_passed a c h k run page records planned =
    let left = keep a c h k run page records planned in
    record {
      next = left.next;
      passes = after_all_collecting h.behind left.next records left.passes;
      spaces = all_behind h.behind left.next records (scan_of (spaces_of h.behind) k (all_words c) page records planned) left.passes;
      undo = left.untouched.undo;
      kept = λ id at there. ap (λ (p : Placing). address_of p.places id) left.placed ∙ left.copied.kept id at there;
      fewer = λ id none. ap (λ (p : Placing). address_of p.places id) left.placed ∙ (none_parted left.currents left.rest id (left.copied.fewer id none)).0;
    }

page_step : (a : Account) (c : Core) (h : Agrees a c) (page : ℕ) (o : Option Collection) → h.behind.collection ≡ o → (p : Option (List Record)) → page_records_of (spaces_of h.behind) (all_words c) page o ≡ p
    → HavePassed c h.behind (unwrap_or p [])
page_step a c h page None run None planned = none_passed c h.behind
page_step a c h page None run (Some records) planned = absurd (cc planned)
page_step a c h page (Some k) run None planned = none_passed c h.behind
page_step a c h page (Some k) run (Some records) planned = scan_passed a c h k run page records planned

pub page_passed : (a : Account) (c : Core) (h : Agrees a c) (page : ℕ) → HavePassed c h.behind (page_records h.behind (all_words c) page)
page_passed a c h page = page_step a c h page h.behind.collection refl (page_records_of (spaces_of h.behind) (all_words c) page h.behind.collection) refl

-- The end of a collection.

pub end_passed : (a : Account) (c : Core) (h : Agrees a c) (k : Collection) → h.behind.collection ≡ Some k → len k.gray ≡ 0 → HavePassed c h.behind (Collected ∷ [])
end_passed a c h k run black =
    let last = collected_state h.behind in
    let one = ap (λ o. option_and_then (λ (n : State). Some n) o) (follows a c h k run black) in
    record {
      next = last;
      passes = after_all_collecting h.behind last (Collected ∷ []) one;
      spaces = all_behind h.behind last (Collected ∷ []) (tt, tt) one;
      undo = refl;
      kept = λ id at there. there;
      fewer = λ id none. (none_parted c.places c.remaining id none).0;
    }

-- The barrier.

if_either : (Q : List Record → Type 0) (b : Bool) (records : List Record) → Q [] → Q records → Q (if b then records else [])
if_either Q true records none some = some
if_either Q false records none some = none

at_either : (Q : List Record → Type 0) (s : State) (words : List ℕ) (o : Option ℕ) (i : ℕ) → Q [] → ((page : ℕ) → Q (page_records s words page)) → Q (barrier_at (Some s) words o i)
at_either Q s words None i none some = none
at_either Q s words (Some at) i none some =
    let page = barrier_page_of at i in if_either Q (is_gray_in s.collection page) (page_records s words page) none (some page)

held_either : (Q : List Record → Type 0) (g : Ground) (s : State) → g.state ≡ Some s → (o : Option Id) (i : ℕ) → Q [] → ((page : ℕ) → Q (page_records s g.words page)) → Q (held_barrier g o i)
held_either Q g s is None i none some = none
held_either Q g s is (Some id) i none some =
    subst (λ (o : Option State). Q (barrier_at o g.words (address_of g.places id) i)) (sym is) (at_either Q s g.words (address_of g.places id) i none some)

call_either : (Q : List Record → Type 0) (g : Ground) (s : State) → g.state ≡ Some s → (g0 : Graph) (a : Account) (o : Option Transaction) (h i : ℕ) → Q [] → ((page : ℕ) → Q (page_records s g.words page))
    → Q (call_barrier g g0 a o h i)
call_either Q g s is g0 a None h i none some = none
call_either Q g s is g0 a (Some t) h i none some = held_either Q g s is (held (view g0 a t).registers h) i none some

-- the records of an event's barrier are those of the scan of a page, or there are none
pub barrier_either : (Q : List Record → Type 0) (c : Core) (s : State) → (ground c).state ≡ Some s → (event : Event) → Q [] → ((page : ℕ) → Q (page_records s (all_words c) page)) → Q (barrier_records c event)
barrier_either Q c s is event none some = barrier_by Q c event none (λ o h i. call_either Q (ground c) s is c.g0 (account c.history) o h i none some)

pub barrier_passed : (a : Account) (c : Core) (h : Agrees a c) (event : Event) → HavePassed c h.behind (barrier_records c event)
barrier_passed a c h event = barrier_either (HavePassed c h.behind) c h.behind h.told.reached event (none_passed c h.behind) (page_passed a c h)
