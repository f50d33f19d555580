-- Laws of faults: an image has one at most, and none if it is no heap or is shaped; a rollback keeps one that is at an address.
use Rattle.std.proofs.Common.{◌≡◌, inl, inr, ⊎_elim, ℕ, zero, suc, ◌+◌, ◌-◌, ◌<◌, ◌≤◌, ◌^◌, List, [], ◌∷◌, ◌++◌, length, length-append, take, None, Some, true, is_some, refl, sym, ap, ◌∙◌, subst, arith}
use Rattle.std.proofs.lemmas.Bool.{cases_order}
use Rattle.std.specs.List.{AllByRecursion}
use Rattle.std.specs.Prelude.{Option}
use Rattle.disk_model.specs.Disk.{SameOutside}
use Rattle.gate_slot.proofs.ImageLaws.{length_part}
use Rattle.gated_log.specs.Log.{BreaksAt, HoldsBatches, batches_bytes, with_batch}
use Rattle.gated_log.proofs.LogLaws.{holds_once, holds_or_breaks, breaks_once}
use Rattle.image_plan.specs.declared.superblock.Super.{Super}
use Rattle.image_plan.specs.Plan.{log_offset}
use Rattle.image_plan.proofs.SuperLaws.{one_super}
use Rattle.log_records.specs.declared.Record.{Record}
use Rattle.log_records.specs.Record.{IsRecord}
use Rattle.log_machine.specs.Machine.{settled, State, after_all, losing_in, all_taken_back, each_taken_back, rollback, abort_each, reserve}
use Rattle.log_machine.specs.declared.UndoEntry.{UndoEntry}
use Rattle.log_machine.proofs.MapLaws.{entries_empty}
use Rattle.log_machine.proofs.MachineLaws.{after_all-append2}
use Rattle.page_redo.specs.Origin.{Origin}
use Rattle.log_machine.specs.Replay.{IsFirstUnshaped}
use Rattle.log_machine.proofs.ReplayLaws.{none_follow}
use Rattle.log_machine.proofs.AbortLaws.{rollback_reaches, rollback_good}
use Rattle.log_machine.proofs.TakenBackLaws.{taken_back-rollback}
use Rattle.log_machine.proofs.ListLaws.{AllByRecursion-append}
use Rattle.log_machine.proofs.Bounds.{CanRollBack}
use Rattle.log_machine.proofs.StateLaws.{can_roll_back}
use Rattle.page_redo.specs.Pages.{Pages}
use Rattle.page_redo.specs.Redo.{EachLacks, redone}
use Rattle.page_redo.proofs.RedoLaws.{EachLacks-later, redone_words-append}
use Rattle.page_cache.specs.CacheState.{IsFirstPast}
use Rattle.object_layout.specs.CollectionWalk.{FromSpace, IsWalkFaultBeside}
use Rattle.object_layout.proofs.CollectionLaws.{beside_walked_fault, beside_fault_one}
use Rattle.walk_laws.specs.Heap.{IsStateWalked, from_space}
use Rattle.heap_model.specs.Core.{need}
use Rattle.heap_model.proofs.Opening.Rolled.{rollback_need, settled_from, settled_reserve}
use Rattle.heap_model.proofs.Step.Room.{records_of-with_batch, length-with_batch, length-pending_batch-append}
use Rattle.heap_model.specs.Image.{StoredHeap, origin_of, records_in, state_in, next_lsn_of, redone_words, words_of, log_part, IsShaped}
use Rattle.heap_model.specs.Opening.{rollback_in, rollback_of, rolled_back, opening_calls, IsLater}
use Rattle.heap_recovery.specs.declared.at.At.{At}
use Rattle.heap_recovery.specs.declared.at.At.TheVariants.{Batch, Rec, Reserve, Page, Address}
use Rattle.heap_recovery.specs.declared.error.RecoverError.{RecoverError}
use Rattle.heap_recovery.specs.declared.error.RecoverError.TheVariants.{NoMemory, NotHeap, Damaged, Disk}
use Rattle.heap_recovery.specs.Faults.{stored_in, HasSuper, IsNoHeap, HoldsLog, IsReplayed, HasRoom, IsReadable, IsFaultAt, IsToldOf, IsErrorOrOutside, ComesBeforeWrites, IsLogLeft, IsLeftOf}

-- What an image holds is one thing.

-- the numbers of an image are one heap's
pub one_numbers : (s r : Super) (image : List ℕ) → HasSuper s image → HasSuper r image → s ≡ r
one_numbers s r image one other = one_super s r one.limits other.limits (sym one.super ∙ other.super)

-- a log is short
short_log : (s : Super) (image : List ℕ) → HasSuper s image → length (log_part s image) < 2 ^ 32
short_log s image has =
    let size = has.size in
    let small = has.limits.small_log in
    let long = length_part image log_offset s.log_bytes (omega arith) in
    omega arith

-- an image's log holds one list of batches
one_batches : (stored other : StoredHeap) (image : List ℕ) → HoldsLog stored image → HoldsLog other image → stored.super ≡ other.super → stored.batches ≡ other.batches
one_batches stored other image mine its same =
    let there = subst (λ (x : Super). HoldsBatches (log_part x image) other.batches) (sym same) its.held in
    holds_once (log_part stored.super image) (short_log stored.super image mine.super) stored.batches other.batches mine.good its.good mine.held there

-- so it holds one heap
pub one_stored : (stored other : StoredHeap) (image : List ℕ) → HoldsLog stored image → HoldsLog other image → stored ≡ other
one_stored stored other image mine its =
    let super : stored.super ≡ other.super = one_numbers stored.super other.super image mine.super its.super in
    let batches = one_batches stored other image mine its super in
    let pages : stored.pages ≡ other.pages = sym mine.pages ∙ ap (λ (x : Super). stored_in x image) super ∙ its.pages in
    λ i. record { super = super i; batches = batches i; pages = pages i }

-- and what is said of another that it holds is said of this one
pub as_held : (P : StoredHeap → Type 0) (stored other : StoredHeap) (image : List ℕ) → HoldsLog stored image → HoldsLog other image → P other → P stored
as_held P stored other image mine its there = subst P (one_stored other stored image its mine) there

-- it breaks off nowhere
pub log_unbroken : (stored : StoredHeap) (image : List ℕ) (offset : ℕ) → HoldsLog stored image → IsFaultAt (Batch offset) image → ⊥
log_unbroken stored image offset log (r, has, breaks) =
    let there = subst (λ (x : Super). BreaksAt (log_part x image) offset) (one_numbers r stored.super image has log.super) breaks in
    holds_or_breaks (log_part stored.super image) (short_log stored.super image log.super) stored.batches offset log.good log.held there

-- a longer front begins with a shorter one
take_front : (a b : ℕ) (rs : List Record) → a ≤ b → take a (take b rs) ≡ take a rs
take_front zero b rs le = refl
take_front (suc a) zero rs le = absurd (omega (arith, le))
take_front (suc a) (suc b) [] le = refl
take_front (suc a) (suc b) (r ∷ rs) le = ap (λ (l : List Record). r ∷ l) (take_front a b rs (omega arith))

-- a record after the first that can't follow is not the first
never_later : (o : Origin) (rs : List Record) (a b : ℕ) → a < b → IsFirstUnshaped o.lsn o.state rs a → IsFirstUnshaped o.lsn o.state rs b → ⊥
never_later o rs a b less first other =
    let Stuck : List Record → Type 0 = λ l. after_all o.state l ≡ None in
    let Goes : List Record → Type 0 = λ l. is_some (after_all o.state l) ≡ true in
    let front : IsFirstUnshaped o.lsn o.state (take (b - o.lsn) rs) a = record {
      before = subst Goes (sym (take_front (a - o.lsn) (b - o.lsn) rs (omega (arith, less)))) first.before;
      stuck = subst Stuck (sym (take_front (a + 1 - o.lsn) (b - o.lsn) rs (omega (arith, less)))) first.stuck;
    } in
    let none = none_follow o.lsn o.state (take (b - o.lsn) rs) a front in
    let never = sym (ap is_some none) ∙ other.before in
    cc never

-- one record is the first that can't follow
pub one_unshaped : (o : Origin) (rs : List Record) (a b : ℕ) → IsFirstUnshaped o.lsn o.state rs a → IsFirstUnshaped o.lsn o.state rs b → a ≡ b
one_unshaped o rs a b first other = elim (cases_order a b) [
  | inl same ↦ same
  | inr (inl less) ↦ absurd (never_later o rs a b less first other)
  | inr (inr more) ↦ absurd (never_later o rs b a more other first)
]

-- an image's log leaves one state
pub one_state : (stored other : StoredHeap) (m n : State) (image : List ℕ) → IsReplayed stored m image → IsReplayed other n image → m ≡ n
one_state stored other m n image mine its =
    let there = as_held (λ (x : StoredHeap). state_in x ≡ Some n) stored other image mine.log its.log its.reached in
    let both : Some m ≡ Some n = sym mine.reached ∙ there in
    cc both

-- where all records follow one another none is reported
pub replayed_unstuck : (stored : StoredHeap) (state : State) (image : List ℕ) (lsn : ℕ) → IsReplayed stored state image → IsFaultAt (Rec lsn) image → ⊥
replayed_unstuck stored state image lsn replayed (other, log, first) =
    let stuck = none_follow (origin_of other).lsn (origin_of other).state (records_in other) lsn first in
    let reached = as_held (λ (x : StoredHeap). state_in x ≡ Some state) other stored image log replayed.log replayed.reached in
    let never : None ≡ Some state = sym stuck ∙ reached in
    cc never

-- where there is room for the rollback no lack of it is reported
pub room_enough : (stored : StoredHeap) (state : State) (image : List ℕ) → HasRoom stored state image → IsFaultAt Reserve image → ⊥
room_enough stored state image roomy (other, n, replayed, lack) =
    let kept = ap reserve (one_state stored other state n image roomy.replayed replayed) in
    let there = as_held (λ (x : StoredHeap). x.super.log_bytes < length (batches_bytes x.batches) + 1 + reserve n) stored other image roomy.replayed.log replayed.log lack in
    let enough = roomy.room in
    omega arith

-- one page is the first that is past a record
one_first : (lsn : ℕ) (at : Pages) (p q : ℕ) → IsFirstPast lsn p at → IsFirstPast lsn q at → p ≡ q
one_first lsn at p q first other = elim (cases_order p q) [
  | inl same ↦ same
  | inr (inl less) ↦ absurd (omega (arith, other.before p less, first.past))
  | inr (inr more) ↦ absurd (omega (arith, first.before q more, other.past))
]

-- what is reported of the pages is reported of those that are stored beside the image's log
first_ahead : (stored : StoredHeap) (image : List ℕ) (page : ℕ) → HoldsLog stored image → IsFaultAt (Page page) image → IsFirstPast (next_lsn_of stored - 1) page stored.pages
first_ahead stored image page log (other, n, roomy, first) = as_held (λ (x : StoredHeap). IsFirstPast (next_lsn_of x - 1) page x.pages) stored other image log roomy.replayed.log first

-- where no page is ahead none is reported
pub pages_behind : (stored : StoredHeap) (state : State) (image : List ℕ) (page : ℕ) → IsReadable stored state image → IsFaultAt (Page page) image → ⊥
pages_behind stored state image page readable fault =
    let first = first_ahead stored image page readable.roomy.replayed.log fault in
    omega (arith, first.past, readable.behind page)

-- what is reported of the words is reported of those that the log leaves
pub readable_walk : (stored : StoredHeap) (state : State) (image : List ℕ) (address : ℕ) → IsReadable stored state image → IsFaultAt (Address address) image
    → IsWalkFaultBeside (words_of stored) state.base state.used (from_space state) address
readable_walk stored state image address readable (other, n, its, fault) =
    let R : State → Type 0 = λ x. IsWalkFaultBeside (words_of stored) x.base x.used (from_space x) address in
    let there = as_held (λ (x : StoredHeap). IsWalkFaultBeside (words_of x) n.base n.used (from_space n) address) stored other image readable.roomy.replayed.log its.roomy.replayed.log fault in
    subst R (sym (one_state stored other state n image readable.roomy.replayed its.roomy.replayed)) there

-- A fault is the image's only one.

-- an image with a fault has numbers
pub fault_super : (at : At) (image : List ℕ) → IsFaultAt at image → (s : Super) × HasSuper s image
fault_super (Batch offset) image (s, has, breaks) = (s, has)
fault_super (Rec lsn) image (stored, log, first) = (stored.super, log.super)
fault_super Reserve image (stored, state, replayed, lack) = (stored.super, replayed.log.super)
fault_super (Page page) image (stored, state, roomy, first) = (stored.super, roomy.replayed.log.super)
fault_super (Address address) image (stored, state, readable, fault) = (stored.super, readable.roomy.replayed.log.super)

-- so what is no heap has none
pub no_heap_fault : (at : At) (image : List ℕ) → IsNoHeap image → IsFaultAt at image → ⊥
no_heap_fault at image none fault = let found = fault_super at image fault in none found.0 found.1

-- an image whose log can be read has a fault at an address, or none
pub readable_fault : (stored : StoredHeap) (state : State) (image : List ℕ) (at : At) → IsReadable stored state image → IsFaultAt at image
    → (address : ℕ) × (at ≡ Address address) × IsWalkFaultBeside (words_of stored) state.base state.used (from_space state) address
readable_fault stored state image (Batch offset) readable fault = absurd (log_unbroken stored image offset readable.roomy.replayed.log fault)
readable_fault stored state image (Rec lsn) readable fault = absurd (replayed_unstuck stored state image lsn readable.roomy.replayed fault)
readable_fault stored state image Reserve readable fault = absurd (room_enough stored state image readable.roomy fault)
readable_fault stored state image (Page page) readable fault = absurd (pages_behind stored state image page readable fault)
readable_fault stored state image (Address address) readable fault = (address, refl, readable_walk stored state image address readable fault)

-- it is some heap's
pub readable_heap : (stored : StoredHeap) (state : State) (image : List ℕ) → IsReadable stored state image → IsNoHeap image → ⊥
readable_heap stored state image readable none = none stored.super readable.roomy.replayed.log.super

-- and has no fault that comes before writes
pub readable_late : (stored : StoredHeap) (state : State) (image : List ℕ) (at : At) → IsReadable stored state image → IsFaultAt at image → ComesBeforeWrites (Damaged at) → ⊥
readable_late stored state image at readable fault before =
    let found = readable_fault stored state image at readable fault in
    let P : At → Type 0 = λ x. ComesBeforeWrites (Damaged x) in
    subst P found.1 before

-- a walk that passes leaves none
pub walked_whole : (stored : StoredHeap) (state : State) (image : List ℕ) (at : At) → IsReadable stored state image → IsStateWalked state (words_of stored) → IsFaultAt at image → ⊥
walked_whole stored state image at readable walked fault =
    let found = readable_fault stored state image at readable fault in
    beside_walked_fault (words_of stored) state.base state.used (from_space state) found.0 walked found.2

-- a shaped image holds its log
pub shaped_log : (stored : StoredHeap) (image : List ℕ) → IsShaped stored image → HoldsLog stored image
shaped_log stored image shaped = record {
  super = record { limits = shaped.log.limits; super = shaped.held.super; size = shaped.held.size };
  held = shaped.held.log;
  pages = shaped.held.pages;
  good = shaped.log.good;
}

-- which can be read
pub shaped_readable : (stored : StoredHeap) (image : List ℕ) (shaped : IsShaped stored image) → IsReadable stored shaped.log.state image
shaped_readable stored image shaped = record {
  roomy = record { replayed = record { log = shaped_log stored image shaped; reached = shaped.log.reached }; room = shaped.log.room };
  behind = shaped.log.behind;
}

-- it has no fault
pub shaped_whole : (stored : StoredHeap) (image : List ℕ) (at : At) → IsShaped stored image → IsFaultAt at image → ⊥
shaped_whole stored image at shaped = walked_whole stored shaped.log.state image at (shaped_readable stored image shaped) shaped.log.walked

-- An image has one fault at most.
pub one_fault : (image : List ℕ) (at other : At) → IsFaultAt at image → IsFaultAt other image → at ≡ other
one_fault image (Batch a) (Batch b) (s, has, breaks) (r, has', breaks') =
    let P : Super → Type 0 = λ x. BreaksAt (log_part x image) b in
    ap Batch (breaks_once (log_part s image) (short_log s image has) a b breaks (subst P (one_numbers r s image has' has) breaks'))
one_fault image (Batch a) (Rec b) fault (stored, log, first) = absurd (log_unbroken stored image a log fault)
one_fault image (Batch a) Reserve fault (stored, m, replayed, lack) = absurd (log_unbroken stored image a replayed.log fault)
one_fault image (Batch a) (Page b) fault (stored, m, roomy, first) = absurd (log_unbroken stored image a roomy.replayed.log fault)
one_fault image (Batch a) (Address b) fault (stored, m, readable, walk) = absurd (log_unbroken stored image a readable.roomy.replayed.log fault)
one_fault image (Rec a) (Batch b) (stored, log, first) other = absurd (log_unbroken stored image b log other)
one_fault image (Rec a) (Rec b) (stored, log, first) (other, its, there) =
    let mine = as_held (λ (x : StoredHeap). IsFirstUnshaped (origin_of x).lsn (origin_of x).state (records_in x) b) stored other image log its there in
    ap Rec (one_unshaped (origin_of stored) (records_in stored) a b first mine)
one_fault image (Rec a) Reserve fault (stored, m, replayed, lack) = absurd (replayed_unstuck stored m image a replayed fault)
one_fault image (Rec a) (Page b) fault (stored, m, roomy, first) = absurd (replayed_unstuck stored m image a roomy.replayed fault)
one_fault image (Rec a) (Address b) fault (stored, m, readable, walk) = absurd (replayed_unstuck stored m image a readable.roomy.replayed fault)
one_fault image Reserve (Batch b) (stored, m, replayed, lack) other = absurd (log_unbroken stored image b replayed.log other)
one_fault image Reserve (Rec b) (stored, m, replayed, lack) other = absurd (replayed_unstuck stored m image b replayed other)
one_fault image Reserve Reserve fault other = refl
one_fault image Reserve (Page b) fault (stored, m, roomy, first) = absurd (room_enough stored m image roomy fault)
one_fault image Reserve (Address b) fault (stored, m, readable, walk) = absurd (room_enough stored m image readable.roomy fault)
one_fault image (Page a) (Batch b) (stored, m, roomy, first) other = absurd (log_unbroken stored image b roomy.replayed.log other)
one_fault image (Page a) (Rec b) (stored, m, roomy, first) other = absurd (replayed_unstuck stored m image b roomy.replayed other)
one_fault image (Page a) Reserve (stored, m, roomy, first) other = absurd (room_enough stored m image roomy other)
one_fault image (Page a) (Page b) (stored, m, roomy, first) other =
    ap Page (one_first (next_lsn_of stored - 1) stored.pages a b first (first_ahead stored image b roomy.replayed.log other))
one_fault image (Page a) (Address b) fault (stored, m, readable, walk) = absurd (pages_behind stored m image a readable fault)
one_fault image (Address a) (Batch b) (stored, m, readable, walk) other = absurd (log_unbroken stored image b readable.roomy.replayed.log other)
one_fault image (Address a) (Rec b) (stored, m, readable, walk) other = absurd (replayed_unstuck stored m image b readable.roomy.replayed other)
one_fault image (Address a) Reserve (stored, m, readable, walk) other = absurd (room_enough stored m image readable.roomy other)
one_fault image (Address a) (Page b) (stored, m, readable, walk) other = absurd (pages_behind stored m image b readable other)
one_fault image (Address a) (Address b) (stored, m, readable, walk) other = ap Address (beside_fault_one (words_of stored) m.base m.used (from_space m) a b walk (readable_walk stored m image b readable other))

-- What an error reports.

-- of what is no heap an error reports that, or nothing
pub told_not_heap : (e : RecoverError) (image : List ℕ) → IsToldOf e image → IsNoHeap image → IsErrorOrOutside NotHeap e
told_not_heap NoMemory image told none = inr tt
told_not_heap NotHeap image told none = inl refl
told_not_heap (Damaged at) image told none = absurd (no_heap_fault at image none told)
told_not_heap (Disk e) image told none = inr tt

-- of what is damaged it reports where, or nothing
pub told_damaged : (e : RecoverError) (image : List ℕ) (at : At) → IsToldOf e image → IsFaultAt at image → IsErrorOrOutside (Damaged at) e
told_damaged NoMemory image at told fault = inr tt
told_damaged NotHeap image at told fault = absurd (no_heap_fault at image told fault)
told_damaged (Damaged other) image at told fault = inl (ap (λ (x : At). Damaged x) (one_fault image other at told fault))
told_damaged (Disk e) image at told fault = inr tt

-- A rollback keeps a fault at an address.

module _ (stored : StoredHeap) (state : State) (image : List ℕ) (is : IsReadable stored state image) where
  abbrev rs : List Record
  rs = records_in stored

  abbrev from : State
  from = (origin_of stored).state

  abbrev log : HoldsLog stored image
  log = is.roomy.replayed.log

  reached : after_all from rs ≡ Some state
  reached = is.roomy.replayed.reached

  can : CanRollBack state
  can = can_roll_back stored.super.pages stored.super.first state rs log.super.limits.some_pages log.super.limits.few_pages log.good reached

  taken : rollback_of stored ≡ rollback state
  taken = ap rollback_in reached

  rolled_records : records_in (rolled_back stored) ≡ rs ++ rollback state
  rolled_records = records_of-with_batch stored.batches (rollback_of stored) ∙ ap (λ (l : List Record). rs ++ l) taken

  rolled_reached : after_all from (records_in (rolled_back stored)) ≡ Some (settled state)
  rolled_reached = ap (λ (l : List Record). after_all from l) rolled_records ∙ after_all-append2 from state rs (rollback state) reached ∙ rollback_reaches state can.sound

  -- it leaves the words as they are
  rolled_words : words_of (rolled_back stored) ≡ words_of stored
  rolled_words =
      ap (λ (o : Option State). each_taken_back (losing_in o) (redone_words (rolled_back stored))) rolled_reached
      ∙ ap (λ (l : List Record). all_taken_back (settled state) (redone (origin_of stored) stored.pages l).words) rolled_records
      ∙ ap (all_taken_back (settled state)) (redone_words-append (origin_of stored) stored.pages rs (rollback state) is.behind)
      ∙ taken_back-rollback state (redone_words stored)
      ∙ sym (ap (λ (o : Option State). each_taken_back (losing_in o) (redone_words stored)) reached)

  -- its records have spellings
  pub rolled_spelled : AllByRecursion IsRecord (records_in (rolled_back stored))
  rolled_spelled = subst (λ (l : List Record). AllByRecursion IsRecord l) (sym rolled_records) (AllByRecursion-append IsRecord rs (rollback state) log.good (rollback_good state can))

  rolled_room : length (batches_bytes (rolled_back stored).batches) + 1 ≤ stored.super.log_bytes
  rolled_room =
      let few = rollback_need state in
      let same = ap (need []) taken in
      let room = is.roomy.room in
      let whole = length-with_batch stored.batches (rollback_of stored) in
      let more = length-pending_batch-append [] (rollback_of stored) in
      omega arith

  -- no page is ahead of them
  rolled_behind : EachLacks (next_lsn_of (rolled_back stored)) stored.pages
  rolled_behind =
      let more : length (records_in (rolled_back stored)) ≡ length rs + length (rollback state) = ap length rolled_records ∙ length-append rs (rollback state) in
      EachLacks-later (next_lsn_of stored) (next_lsn_of (rolled_back stored)) stored.pages (omega (arith, more)) is.behind

  -- An image that holds the heap rolled back
  module _ (new : List ℕ) (holds : HoldsLog (rolled_back stored) new) where
    -- can be read
    pub rolled_readable : IsReadable (rolled_back stored) (settled state) new
    rolled_readable =
        let room = rolled_room in
        let none = settled_reserve state in
        record { roomy = record { replayed = record { log = holds; reached = rolled_reached }; room = omega arith }; behind = rolled_behind }

    -- and has a fault at an address where the image has it
    pub rolled_fault : (address : ℕ) → IsFaultAt (Address address) image → IsFaultAt (Address address) new
    rolled_fault address fault =
        let walk = readable_walk stored state image address is fault in (
          rolled_back stored,
          settled state,
          rolled_readable,
          subst (λ (from : Option FromSpace). IsWalkFaultBeside (words_of (rolled_back stored)) state.base state.used from address) (sym (settled_from state))
              (subst (λ (ws : List ℕ). IsWalkFaultBeside ws state.base state.used (from_space state) address) (sym rolled_words) walk),
        )

  -- One that holds the same heap can be read as this one is,
  kept_readable : (new : List ℕ) → HoldsLog stored new → IsReadable stored state new
  kept_readable new holds = record { roomy = record { replayed = record { log = holds; reached = reached }; room = is.roomy.room }; behind = is.behind }

  -- with the same fault at an address.
  kept_fault : (new : List ℕ) (address : ℕ) → HoldsLog stored new → IsFaultAt (Address address) image → IsFaultAt (Address address) new
  kept_fault new address holds fault = (stored, state, kept_readable new holds, readable_walk stored state image address is fault)

  -- What an opening may make of the heap is such a fault's too.
  later_fault : (later : StoredHeap) (new : List ℕ) (address : ℕ) → IsLater stored later → HoldsLog later new → IsFaultAt (Address address) image → IsFaultAt (Address address) new
  later_fault later new address (inl same) holds fault = kept_fault new address (subst (λ (x : StoredHeap). HoldsLog x new) same holds) fault
  later_fault later new address (inr same) holds fault = rolled_fault new (subst (λ (x : StoredHeap). HoldsLog x new) same holds) address fault

  -- What an opening leaves of an image whose log can be read has the fault that the image has.
  pub left_fault : (at : At) → IsFaultAt at image → (new : List ℕ) → IsLogLeft stored image new → IsFaultAt at new
  left_fault at fault new (later, is_later, holds, outside) =
      let found = readable_fault stored state image at is fault in
      let there = subst (λ (x : At). IsFaultAt x image) found.1 fault in
      subst (λ (x : At). IsFaultAt x new) (sym found.1) (later_fault later new found.0 is_later holds there)

  -- in a log that is rolled back nothing is left to be taken back
  rolled_again : rolled_back (rolled_back stored) ≡ rolled_back stored
  rolled_again =
      let none : rollback_of (rolled_back stored) ≡ [] = ap rollback_in rolled_reached ∙ ap abort_each (entries_empty (List UndoEntry)) in
      λ i. record { super = stored.super; batches = with_batch (rolled_back stored).batches (none i); pages = stored.pages }

  -- So it can be read too, and an opening of it makes nothing else of it.
  left_next : (later : StoredHeap) (new : List ℕ) → IsLater stored later → HoldsLog later new → (next : State) × IsReadable later next new × ((newer : StoredHeap) → IsLater later newer → IsLater stored newer)
  left_next later new (inl same) holds =
      let mine = subst (λ (x : StoredHeap). HoldsLog x new) same holds in
      let P : StoredHeap → Type 0 = λ x. (next : State) × IsReadable x next new × ((newer : StoredHeap) → IsLater x newer → IsLater stored newer) in
      subst P (sym same) (state, kept_readable new mine, λ newer is_newer. is_newer)
  left_next later new (inr same) holds =
      let mine = subst (λ (x : StoredHeap). HoldsLog x new) same holds in
      let P : StoredHeap → Type 0 = λ x. (next : State) × IsReadable x next new × ((newer : StoredHeap) → IsLater x newer → IsLater stored newer) in
      subst P (sym same) (settled state, rolled_readable new mine, λ newer is_newer. inr (⊎_elim (λ one. one) (λ one. one ∙ rolled_again) is_newer))

-- each byte is as it was where nothing was written
pub same_outside : (low high : ℕ) (image : List ℕ) → SameOutside low high image image
same_outside low high image = record { size = refl; before = λ i less. refl; behind = λ i more. refl }

outside_then : (low high : ℕ) (old mid new : List ℕ) → SameOutside low high old mid → SameOutside low high mid new → SameOutside low high old new
outside_then low high old mid new first second = record {
  size = second.size ∙ first.size;
  before = λ i less. second.before i less ∙ first.before i less;
  behind = λ i more. second.behind i more ∙ first.behind i more;
}

-- What only reads leaves of an image whose log can be read is one that an opening leaves of it,
pub left_same : (stored : StoredHeap) (state : State) (image : List ℕ) → IsReadable stored state image → IsLogLeft stored image image
left_same stored state image readable = (stored, inl refl, readable.roomy.replayed.log, same_outside log_offset (log_offset + stored.super.log_bytes) image)

-- an opening changes no number of a heap
later_super : (stored later : StoredHeap) → IsLater stored later → later.super ≡ stored.super
later_super stored later (inl same) = ap (λ (x : StoredHeap). x.super) same
later_super stored later (inr same) = ap (λ (x : StoredHeap). x.super) same

-- and what an opening leaves of that, one leaves of the image.
pub left_again : (old mid new : List ℕ) → IsLeftOf old mid → IsLeftOf mid new → IsLeftOf old new
left_again old mid new (stored, state, readable, (later, is_later, holds, outside)) (other, n, again, then_left) =
    let next = left_next stored state old readable later mid is_later holds in
    let last = as_held (λ (x : StoredHeap). IsLogLeft x mid new) later other mid holds again.roomy.replayed.log then_left in
    let s = stored.super in
    let there = subst (λ (x : Super). SameOutside log_offset (log_offset + x.log_bytes) mid new) (later_super stored later is_later) last.3 in
    (stored, state, readable, (last.0, next.2 last.0 last.1, last.2, outside_then log_offset (log_offset + s.log_bytes) old mid new outside there))

-- a fault stays over several openings
pub left_of_fault : (old new : List ℕ) (at : At) → IsFaultAt at old → IsLeftOf old new → IsFaultAt at new
left_of_fault old new at fault (stored, state, readable, left) = left_fault stored state old readable at fault new left

-- what is read of an image has one number of calls
pub one_opening : (stored other : StoredHeap) (m n : State) (image : List ℕ) → IsReadable stored m image → IsReadable other n image → opening_calls other ≡ opening_calls stored
one_opening stored other m n image one its = ap opening_calls (one_stored other stored image its.roomy.replayed.log one.roomy.replayed.log)
