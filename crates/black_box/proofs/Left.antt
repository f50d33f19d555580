-- What a run leaves on the disk: a heap, and a graph in it.
use Rattle.std.proofs.Common.{◌≡◌, inl, inr, ℕ, ◌+◌, zero, suc, ◌≤◌, true, Bool, List, [], ◌++◌, slice_index, refl, sym, ap, ◌∙◌, subst, arith}
use Rattle.std.proofs.lemmas.List.{get_or-take}
use Rattle.std.specs.Prelude.{IsTrue}
use Rattle.counts.specs.Count.{counted, raised}
use Rattle.disk_model.specs.declared.disk.Disk.{Ghosts}
use Rattle.disk_model.specs.Disk.{Only}
use Rattle.gate_slot.specs.Gate.{IsGateClosed}
use Rattle.graph_model.specs.Canon.{canon}
use Rattle.graph_model.specs.Graph.{Graph}
use Rattle.graph_model.specs.Text.{canon_text}
use Rattle.graph_words.specs.Places.{Places}
use Rattle.image_plan.specs.declared.superblock.Super.{Super}
use Rattle.heap_core.specs.Format.{IsFormatting}
use Rattle.heap_model.specs.Core.{Core}
use Rattle.heap_model.specs.CoreCrash.{IsCommitPrefix}
use Rattle.heap_model.specs.Image.{StoredHeap, IsShaped, IsLegalLog, Holds, Shows}
use Rattle.heap_model.specs.Opening.{IsFound, rolled_back}
use Rattle.heap_model.proofs.Opening.Opened.{legal_shows, saying_law, says_found}
use Rattle.heap_recovery.specs.Faults.{IsNoHeap}
use Rattle.heap_program.specs.declared.status.Status.{Status}
use Rattle.heap_program.specs.declared.status.Status.TheVariants as status
use Rattle.heap_program.specs.Causes.{RunsDisk}
use Rattle.heap_program.specs.Commands.{PrintsGraph}
use Rattle.heap_program.specs.Headline.{IsNotMade, RestartsDisk}
use Rattle.heap_program.specs.Stored.{IsStored}
use Rattle.heap_program.proofs.RefusalLaws.{at_end}
use Rattle.black_box.specs.Stores.{IsSameDisk, Stores, StoresWritten}
use Rattle.black_box.specs.Told.{text_of}
use Rattle.heap_model.specs.NewHeap.{new_heap}

-- an image whose gate is closed is no heap
closed_no_heap : (image : List ℕ) → IsGateClosed 0 image → IsNoHeap image
closed_no_heap image closed s has = closed (sym (get_or-take 64 image 0 0 (omega arith)) ∙ ap (λ (l : List ℕ). slice_index l 0) has.super)

-- a disk that was to be restarted at no time was not
not_restarted : (result : Status) (before now : ℕ) → RestartsDisk 0 result before now → now ≡ before
not_restarted result before now runs =
    let most = runs.most in
    let none : runs.times ≡ 0 = omega arith in
    runs.told ∙ ap (λ n. counted n before) none

-- counted on
counted_again : (n m x : ℕ) → counted n (counted m x) ≡ counted (n + m) x
counted_again zero m x = let same : m ≡ 0 + m = omega arith in ap (λ k. counted k x) same
counted_again (suc n) m x = let same : suc (n + m) ≡ suc n + m = omega arith in ap raised (counted_again n m x) ∙ ap (λ k. counted k x) same

module _ {D : Type 0} (g : Ghosts D) where
  -- The disk that was handed in.

  pub same_run : (old new : D) (result : Status) (failed : Type 0) → RunsDisk g old new failed → (IsTrue g.tells → RestartsDisk 0 result (g.restarts old) (g.restarts new)) → IsSameDisk g 0 old new
  same_run old new result failed runs restarts = record { extent = runs.extent; origin = runs.origin; restarts = λ tells. not_restarted result (g.restarts old) (g.restarts new) (restarts tells) }

  pub same_again : (old new : D) → g.extent new ≡ g.extent old → g.origin new ≡ g.origin old → (IsTrue g.tells → g.restarts new ≡ raised (g.restarts old)) → IsSameDisk g 1 old new
  same_again old new extent origin restarts = record { extent = extent; origin = origin; restarts = restarts }

  pub same_after : (n m : ℕ) (old mid new : D) → IsSameDisk g m old mid → IsSameDisk g n mid new → IsSameDisk g (n + m) old new
  same_after n m old mid new first rest = record {
    extent = rest.extent ∙ first.extent;
    origin = rest.origin ∙ first.origin;
    restarts = λ tells. rest.restarts tells ∙ ap (counted n) (first.restarts tells) ∙ counted_again n m (g.restarts old);
  }

  -- The graph that is read from a disk, whatever is found there.
  abbrev pub PrintsEach : D → D → Status → Bool → List ℕ → List ℕ → Type 0
  PrintsEach old new result told text text' =
      (stored : StoredHeap) → (shaped : IsShaped stored (g.bytes old)) → (born : Bool) (places : Places) (graph : Graph) → IsFound stored shaped.log born places graph
      → PrintsGraph g stored graph old new result told text text'

  -- a disk with a legal log stores the graph that the log shows
  pub legal_stores : (disk : D) (stored : StoredHeap) (legal : IsLegalLog stored) (seen : Graph) → Shows stored legal seen → Holds stored (g.bytes disk) → Only (g.bytes disk) (g.may_leave disk)
      → (graph : Graph) × Stores g graph disk × (canon graph ≡ canon seen)
  legal_stores disk stored legal seen shows held only =
      let found = saying_law stored legal seen shows in (
        found.1,
        record {
          stored = record { heap = stored; legal = record { log = legal; held = held }; places = found.0; graph = found.1; found = found.2 };
          is = refl;
          only = only;
        },
        found.3,
      )

  -- so does one with an image of a commit prefix
  pub prefix_stores : (disk : D) (c : Core) → IsCommitPrefix c (g.bytes disk) → Only (g.bytes disk) (g.may_leave disk) → (graph : Graph) × Stores g graph disk
  prefix_stores disk c kept only =
      let stands = kept.1.stands in
      let left = legal_stores disk stands.stored stands.says.legal stands.says.seen stands.says.shows stands.held only in
      (left.0, left.1)

  -- what is printed of a stored graph is its text, and the disk stores it still
  pub prints_stored : (graph : Graph) (old new : D) (result : Status) (told : Bool) (text text' : List ℕ) → IsTrue told → Stores g graph old → PrintsEach old new result told text text' → result ≡ status.Done
      → (text' ≡ text ++ text_of graph) × StoresWritten g new text text'
  prints_stored graph old new result told text text' sink stores prints done =
      let it = stores.stored in
      let log = it.legal.log in
      let shaped : IsShaped it.heap (g.bytes old) = record { log = log.shaped; held = it.legal.held } in
      let printed = prints it.heap shaped true it.places it.graph it.found in
      let held = printed.holds done in
      let says = (says_found it.heap log it.places it.graph it.found).left in
      let left = legal_stores new (rolled_back it.heap) says.legal says.seen says.shows held.0 held.1 in
      let wrote = (printed.written sink).whole done in (
        wrote ∙ ap (λ (x : Graph). text ++ text_of x) stores.is,
        (left.0, left.1, wrote ∙ ap (λ cs. text ++ canon_text cs) (sym (left.2 ∙ says.graph))),
      )

  -- the heap that was there before a format, or the new one, is there after a crash, if there is a heap at all
  formatting_stores : (s : Super) (old again : D) → IsStored (g.bytes old) → IsFormatting s (g.bytes old) (g.bytes again) → Only (g.bytes again) (g.may_leave again) → (IsNoHeap (g.bytes again) → ⊥) → (graph : Graph) × Stores g graph again
  formatting_stores s old again was (inl closed) only heap = absurd (heap (closed_no_heap (g.bytes again) closed))
  formatting_stores s old again was (inr (inl same)) only heap =
      let there : IsStored (g.bytes again) = subst IsStored (sym same) was in
      (there.graph, record { stored = there; is = refl; only = only })
  formatting_stores s old again was (inr (inr legal)) only heap =
      let shown = legal_shows (new_heap s) legal.log in
      let left = legal_stores again (new_heap s) legal.log shown.0 shown.1 legal.held only in
      (left.0, left.1)

  -- so it is where a run made no heap
  pub unmade_stores : (s : Super) (old new again : D) (result : Status) (told : Bool) (before after : List ℕ) → IsStored (g.bytes old) → IsNotMade g s old new result told before after
      → ((t : ℕ) (image : List ℕ) → t ≤ g.moment new → g.may_leave new image → g.left_since new t image) → g.may_leave new (g.bytes again) → Only (g.bytes again) (g.may_leave again) → (IsNoHeap (g.bytes again) → ⊥)
      → (graph : Graph) × Stores g graph again
  unmade_stores s old new again result told before after was unmade counts leaves only heap =
      formatting_stores s old again was (at_end g old new (IsFormatting s (g.bytes old)) unmade.moments counts (g.bytes again) leaves) only heap
