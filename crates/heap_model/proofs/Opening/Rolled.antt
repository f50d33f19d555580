-- Laws of an opening: the batches after it are a legal log that says the same graph and commits, and the core that it opens is reached.
use Rattle.std.proofs.Common.{◌≡◌, ℕ, ◌+◌, ◌≤◌, List, [], ◌∷◌, ◌++◌, length, length-append, Some, refl, sym, ap, ◌∙◌, subst, arith}
use Rattle.std.specs.List.{AllByRecursion}
use Rattle.std.specs.Prelude.{sum_by, fold, Option}
use Rattle.graph_model.specs.Graph.{Graph}
use Rattle.log_records.specs.declared.Record.{Record}
use Rattle.log_records.specs.Record.{spellings, IsRecord}
use Rattle.log_machine.specs.declared.UndoEntry.{UndoEntry}
use Rattle.log_machine.specs.Machine.{settled, State, Loser, start, after_all, put_record, words_in, all_taken_back, each_taken_back, losing_in, losing, abort_each, rollback, reserve, undo_bytes}
use Rattle.log_machine.proofs.ListLaws.{AllByRecursion-append}
use Rattle.log_machine.proofs.MapLaws.{entries_empty}
use Rattle.page_redo.specs.Origin.{next_lsn, commits_in}
use Rattle.log_machine.proofs.MachineLaws.{after_all-append2}
use Rattle.log_machine.proofs.StateLaws.{can_roll_back}
use Rattle.log_machine.proofs.Bounds.{CanRollBack}
use Rattle.log_machine.proofs.AbortLaws.{rollback_reaches, rollback_words, rollback_fits, rollback_good}
use Rattle.log_machine.proofs.TakenBackLaws.{taken_back-rollback}
use Rattle.page_redo.specs.Prefix.{EachHoldsPrefix}
use Rattle.page_redo.proofs.PrefixLaws.{EachHoldsPrefix-append}
use Rattle.page_redo.specs.Redo.{EachLacks, redone}
use Rattle.page_redo.proofs.RedoLaws.{EachLacks-later, redone_words-append, length-redone}
use Rattle.gated_log.specs.Log.{batches_bytes}
use Rattle.object_layout.specs.Layout.{IsSeen}
use Rattle.object_layout.specs.CollectionWalk.{FromSpace, IsWalkedBeside}
use Rattle.log_machine.proofs.StateLaws.{spaced_after_all}
use Rattle.std.specs.FinMap as finmap
use Rattle.walk_laws.specs.Births.{AreBornBeside}
use Rattle.walk_laws.specs.Heap.{AreSpaces, IsStateWalked, from_space}
use Rattle.heap_model.proofs.Opening.Lists.{from_space_lists}
use Rattle.heap_model.specs.Bits.{AreOf64Bits}
use Rattle.heap_model.specs.Core.{need}
use Rattle.heap_model.proofs.Step.Room.{records_of-with_batch, length-with_batch, length-pending_batch-append}
use Rattle.heap_model.specs.Image.{StoredHeap, origin_of, redone_words, words_of, IsShapedLog, IsLegalLog, Shows, Says, records_in}
use Rattle.heap_model.specs.Opening.{rollback_in, rollback_of, rolled_back, rolled_words, next_in, next_of, commits_of}

need_most : (rs : List Record) → need [] rs ≤ length (spellings rs) + 5
need_most [] = omega arith
need_most (r ∷ rs) = omega arith

need_some : (s : State) (es : List Loser) → losing s ≡ es → need [] (abort_each es) ≤ reserve s
need_some s [] is = omega arith
need_some s (e ∷ es) is =
    let fits = rollback_fits s (λ none. let never : e ∷ es ≡ [] = sym is ∙ none in cc) in
    let most = need_most (abort_each (e ∷ es)) in
    let same = ap (λ l. length (spellings (abort_each l))) is in
    omega arith

-- the records that take writes back need no more than is kept for them
pub rollback_need : (s : State) → need [] (rollback s) ≤ reserve s
rollback_need s = need_some s (losing s) refl

-- no writes that may be taken back keep no bytes
pub settled_reserve : (s : State) → reserve (settled s) ≡ 0
settled_reserve s = ap (λ (es : List Loser). sum_by (λ e. undo_bytes e.1) es) (entries_empty (List UndoEntry))

-- The batches after an opening.

-- the space that a collection empties is the same where no writes may be taken back
pub settled_from : (s : State) → from_space (settled s) ≡ from_space s
settled_from s = from_space_lists s finmap.empty s.commits s.next

module _ (stored : StoredHeap) (shaped : IsShapedLog stored) where
  abbrev rs : List Record
  rs = records_in stored

  abbrev taken : List Record
  taken = rollback shaped.state

  can : CanRollBack shaped.state
  can = can_roll_back stored.super.pages stored.super.first shaped.state rs shaped.limits.some_pages shaped.limits.few_pages shaped.good shaped.reached

  -- the records that an opening appends, where the state is known
  pub rollback_is : rollback_of stored ≡ rollback shaped.state
  rollback_is = ap rollback_in shaped.reached

  -- the number of the next transaction
  pub next_is : next_of stored ≡ shaped.state.next
  next_is = ap next_in shaped.reached

  rolled_records : records_in (rolled_back stored) ≡ rs ++ taken
  rolled_records = records_of-with_batch stored.batches (rollback_of stored) ∙ ap (λ (l : List Record). rs ++ l) rollback_is

  -- after it no write may be taken back
  pub rolled_reached : after_all (start stored.super.pages stored.super.first) (records_in (rolled_back stored)) ≡ Some (settled shaped.state)
  rolled_reached =
      ap (λ (l : List Record). after_all (start stored.super.pages stored.super.first) l) rolled_records
      ∙ after_all-append2 (start stored.super.pages stored.super.first) shaped.state rs taken shaped.reached
      ∙ rollback_reaches shaped.state can.sound

  -- the words as the log leaves them of the pages
  abbrev now : List ℕ
  now = redone_words stored

  -- the words without the writes of transactions that have not ended, where the state is known
  pub words_of-is : words_of stored ≡ all_taken_back shaped.state now
  words_of-is = ap (λ (o : Option State). each_taken_back (losing_in o) now) shaped.reached

  -- the words after the opening are these
  pub rolled_words-is : rolled_words stored ≡ words_of stored
  rolled_words-is = ap (fold put_record now) rollback_is ∙ rollback_words shaped.state now ∙ sym words_of-is

  -- redone on the pages, the log after the opening gives them too
  pub redone_words-rolled_back : redone_words (rolled_back stored) ≡ rolled_words stored
  redone_words-rolled_back =
      ap (λ (l : List Record). (redone (origin_of stored) stored.pages l).words) rolled_records
      ∙ redone_words-append (origin_of stored) stored.pages rs taken shaped.behind
      ∙ ap (fold put_record now) (sym rollback_is)

  -- and no writes are left to be taken back from it
  pub words_of-rolled_back : words_of (rolled_back stored) ≡ words_of stored
  words_of-rolled_back =
      ap (λ (o : Option State). each_taken_back (losing_in o) (redone_words (rolled_back stored))) rolled_reached
      ∙ ap (all_taken_back (settled shaped.state)) (redone_words-rolled_back ∙ ap (fold put_record now) rollback_is)
      ∙ taken_back-rollback shaped.state now
      ∙ sym words_of-is

  -- there are as many as both spaces have
  pub length-rolled_words : length (rolled_words stored) ≡ words_in stored.super.pages
  length-rolled_words = ap length (sym redone_words-rolled_back) ∙ length-redone (origin_of stored) stored.pages (records_in (rolled_back stored)) ∙ shaped.size

  -- no page is ahead of the log after the opening
  pub rolled_behind : EachLacks (next_lsn (origin_of stored) (records_in (rolled_back stored))) stored.pages
  rolled_behind =
      let more : length (records_in (rolled_back stored)) ≡ length rs + length taken = ap length rolled_records ∙ length-append rs taken in
      EachLacks-later (next_lsn (origin_of stored) rs) (next_lsn (origin_of stored) (records_in (rolled_back stored))) stored.pages (omega (arith, more)) shaped.behind

  -- the commits, where the state is known
  pub commits_are : commits_of stored ≡ shaped.state.commits
  commits_are = ap commits_in shaped.reached

  -- they stay
  pub rolled_commits : commits_of (rolled_back stored) ≡ commits_of stored
  rolled_commits = ap commits_in rolled_reached ∙ sym commits_are

  -- each record has a spelling
  pub rolled_good : AllByRecursion IsRecord (records_in (rolled_back stored))
  rolled_good = subst (λ (l : List Record). AllByRecursion IsRecord l) (sym rolled_records) (AllByRecursion-append IsRecord rs taken shaped.good (rollback_good shaped.state can))

  -- the log has room for the records that it appends
  pub rolled_fits : length (batches_bytes stored.batches) + 1 + need [] (rollback_of stored) ≤ stored.super.log_bytes
  rolled_fits =
      let few = rollback_need shaped.state in
      let same = ap (need []) rollback_is in
      let room = shaped.room in
      omega arith

  -- and for the batch that they make
  pub rolled_room : length (batches_bytes (rolled_back stored).batches) + 1 ≤ stored.super.log_bytes
  rolled_room =
      let whole = length-with_batch stored.batches (rollback_of stored) in
      let more = length-pending_batch-append [] (rollback_of stored) in
      let fits = rolled_fits in
      omega arith

  -- the words that are walked are those of both spaces
  pub shaped_spaces : AreSpaces shaped.state (words_of stored)
  shaped_spaces =
      let spaced = spaced_after_all stored.super.pages stored.super.first shaped.state rs shaped.limits.some_pages shaped.reached in
      let same = spaced.0 in
      let few = shaped.limits.few_pages in
      record { spaced = spaced.1; long = ap length (sym rolled_words-is) ∙ length-rolled_words ∙ ap words_in (sym same); small = omega arith }

  pub rolled_walked : IsStateWalked (settled shaped.state) (words_of (rolled_back stored))
  rolled_walked =
      subst (λ (ws : List ℕ). IsStateWalked (settled shaped.state) ws) (sym words_of-rolled_back)
      (subst (λ (from : Option FromSpace). IsWalkedBeside (words_of stored) shaped.state.base shaped.state.used from) (sym (settled_from shaped.state)) shaped.walked)

  -- each word has 64 bits
  pub rolled_fit : AreOf64Bits (rolled_words stored)
  rolled_fit = subst AreOf64Bits (sym rolled_words-is) shaped.fit

  -- so they are a shaped log
  abbrev pub rolled_shaped : IsShapedLog (rolled_back stored)
  rolled_shaped =
      let room = rolled_room in
      let none = settled_reserve shaped.state in
      record {
        limits = shaped.limits;
        good = rolled_good;
        state = settled shaped.state;
        reached = rolled_reached;
        room = omega arith;
        size = shaped.size;
        lsns_size = shaped.lsns_size;
        behind = rolled_behind;
        fit = subst AreOf64Bits (sym words_of-rolled_back) shaped.fit;
        walked = rolled_walked;
      }

-- the walk passes in words, and births are what they must be
abbrev Walks : ℕ → List ℕ → ℕ → ℕ → Option FromSpace → Type 0
Walks next words base used from = (walked : IsWalkedBeside words base used from) × AreBornBeside next words base used from walked

module _ (stored : StoredHeap) (legal : IsLegalLog stored) where
  pub rolled_walks : Walks legal.shaped.state.next (words_of (rolled_back stored)) legal.shaped.state.base legal.shaped.state.used (from_space (settled legal.shaped.state))
  rolled_walks =
      let state = legal.shaped.state in
      subst (λ (ws : List ℕ). Walks state.next ws state.base state.used (from_space (settled state))) (sym (words_of-rolled_back stored legal.shaped))
      (subst (λ (from : Option FromSpace). Walks state.next (words_of stored) state.base state.used from) (sym (settled_from state)) (legal.shaped.walked, legal.births))

  -- each page holds as many of its records as its LSN says
  pub rolled_prefixes : EachHoldsPrefix (origin_of stored) (records_in (rolled_back stored)) stored.pages
  rolled_prefixes =
      subst (λ (l : List Record). EachHoldsPrefix (origin_of stored) l stored.pages) (sym (rolled_records stored legal.shaped))
      (EachHoldsPrefix-append (origin_of stored) (records_in stored) (rollback legal.shaped.state) stored.pages legal.prefixes)

  -- the batches after an opening of a legal log are a legal log
  abbrev pub rolled_legal : IsLegalLog (rolled_back stored)
  rolled_legal =
      let shaped = rolled_shaped stored legal.shaped in
      record {
        shaped = record {
          limits = shaped.limits;
          good = shaped.good;
          state = shaped.state;
          reached = shaped.reached;
          room = shaped.room;
          size = shaped.size;
          lsns_size = shaped.lsns_size;
          behind = shaped.behind;
          fit = shaped.fit;
          walked = rolled_walks.0;
        };
        prefixes = rolled_prefixes;
        births = rolled_walks.1;
      }

  -- in which the same graphs are seen
  pub rolled_shows : (g : Graph) → Shows stored legal g → Shows (rolled_back stored) rolled_legal g
  rolled_shows g shows = subst (λ ws. IsSeen ws legal.shaped.state.base g) (sym (words_of-rolled_back stored legal.shaped)) shows

-- after an opening a log says what it said
pub rolled_says : (g : Graph) (k : ℕ) (stored : StoredHeap) → Says g k stored → Says g k (rolled_back stored)
rolled_says g k stored says = record {
  legal = rolled_legal stored says.legal;
  seen = says.seen;
  shows = rolled_shows stored says.legal says.seen says.shows;
  graph = says.graph;
  count = says.count;
}
