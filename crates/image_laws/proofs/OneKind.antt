-- Each image is of one kind: it is read as an opening reads it, and where one step fails that is its first fault.
use Rattle.std.proofs.Common.{◌⊎◌, inl, inr, ℕ, ◌+◌, ◌-◌, ◌≤◌, List, length, take, refl, sym, ◌∙◌, subst, arith}
use Rattle.std.proofs.lemmas.Bool.{cases_lt}
use Rattle.std.proofs.lemmas.List.FromFn.{length-map-range_with_len}
use Rattle.gate_slot.proofs.ImageLaws.{length_part}
use Rattle.gated_log.specs.Log.{batches_bytes}
use Rattle.image_plan.specs.declared.superblock.Super.{Super}
use Rattle.image_plan.specs.Plan.{log_offset, image_size}
use Rattle.image_plan.proofs.SuperLaws.{one_super}
use Rattle.log_records.specs.declared.Record.{Record}
use Rattle.log_machine.specs.Machine.{State, reserve}
use Rattle.page_redo.specs.Pages.{pages_in}
use Rattle.page_store.specs.Page.{page_lsn}
use Rattle.page_store.proofs.StoreLaws.{length-image_words}
use Rattle.walk_laws.specs.Heap.{from_space}
use Rattle.heap_model.specs.Image.{StoredHeap, origin_of, records_in, next_lsn_of, words_of, log_part}
use Rattle.heap_recovery.specs.declared.at.At.{At}
use Rattle.heap_recovery.specs.declared.at.At.TheVariants.{Batch, Rec, Reserve, Page, Address}
use Rattle.heap_recovery.specs.Faults.{HasSuper, IsNoHeap, HoldsLog, IsReplayed, HasRoom, IsReadable, IsFaultAt, stored_in}
use Rattle.heap_recovery.proofs.FaultLaws.{one_fault, no_heap_fault, shaped_whole}
use Rattle.image_laws.specs.Kinds.{AreBytes, IsDamaged, IsShapedImage, IsOfOneKind, no_heap, damaged, shaped}
use Rattle.image_laws.proofs.Batches.{log_or_breaks}
use Rattle.image_laws.proofs.Fit.{stored_fit, left_fit, part_bytes}
use Rattle.image_laws.proofs.Pages.{behind_or_past}
use Rattle.image_laws.proofs.Records.{follow_or_stuck}
use Rattle.image_laws.proofs.Super.{super_or_none, le_or_not}
use Rattle.image_laws.proofs.Walk.{beside_or_fault}

-- an image has the numbers of a heap, or is no heap's
heap_or_none : (image : List ℕ) → ((s : Super) × HasSuper s image) ⊎ IsNoHeap image
heap_or_none image = elim (super_or_none (take 64 image)) [
  | inr none ↦ inr (λ s has. none s has.limits has.super)
  | inl (s, good, is) ↦ elim (le_or_not (image_size s.pages s.log_bytes) (length image)) [
    | inl size ↦ inl (s, record { limits = good; super = is; size = size })
    | inr short ↦ inr (λ r has.
        let same = one_super r s has.limits good (sym has.super ∙ is) in
        short (subst (λ (x : Super). image_size x.pages x.log_bytes ≤ length image) same has.size))
  ]
]

-- what is said of an image that is a heap's
abbrev IsDamagedOrShaped : List ℕ → Type 0
IsDamagedOrShaped image = ((at : At) × IsFaultAt at image) ⊎ IsShapedImage image

module _ (image : List ℕ) (fits : AreBytes image) (s : Super) (has : HasSuper s image) where
  -- the heap that the image holds where its log holds these batches
  abbrev with_log : List (List Record) → StoredHeap
  with_log batches = record { super = s; batches = batches; pages = stored_in s image }

  -- the walk of the words of a log that can be read
  readable_kind : (batches : List (List Record)) (state : State) → IsReadable (with_log batches) state image → IsDamagedOrShaped image
  readable_kind batches state readable =
      let stored = with_log batches in
      let replayed = readable.roomy.replayed in
      elim (beside_or_fault (words_of stored) state.base state.used (from_space state)) [
        | inr (at, fault) ↦ inl (Address at, (stored, state, readable, fault))
        | inl walked ↦ inr (record {
          stored = stored;
          shaped = record {
            log = record {
              limits = has.limits;
              good = replayed.log.good;
              state = state;
              reached = replayed.reached;
              room = readable.roomy.room;
              size = length-image_words s.log_bytes image (pages_in s.pages) ∙ omega arith;
              lsns_size = length-map-range_with_len (λ p. page_lsn s.log_bytes p image) 0 (pages_in s.pages);
              behind = readable.behind;
              fit = left_fit stored state has.limits replayed.log.good replayed.reached (stored_fit s.log_bytes (pages_in s.pages) image fits);
              walked = walked;
            };
            held = record { size = has.size; super = has.super; log = replayed.log.held; pages = refl };
          };
        })
      ]

  -- its pages beside its log
  roomy_kind : (batches : List (List Record)) (state : State) → HasRoom (with_log batches) state image → IsDamagedOrShaped image
  roomy_kind batches state roomy =
      let stored = with_log batches in
      elim (behind_or_past (next_lsn_of stored - 1) stored.pages) [
        | inr (page, first) ↦ inl (Page page, (stored, state, roomy, first))
        | inl behind ↦ readable_kind batches state (record { roomy = roomy; behind = λ p. (let last = behind p in omega (arith, last)) })
      ]

  -- the room for a rollback
  replayed_kind : (batches : List (List Record)) (state : State) → IsReplayed (with_log batches) state image → IsDamagedOrShaped image
  replayed_kind batches state replayed =
      elim (cases_lt s.log_bytes (length (batches_bytes batches) + 1 + reserve state)) [
        | inl lack ↦ inl (Reserve, (with_log batches, state, replayed, lack))
        | inr room ↦ roomy_kind batches state (record { replayed = replayed; room = room })
      ]

  -- its records
  logged_kind : (batches : List (List Record)) → HoldsLog (with_log batches) image → IsDamagedOrShaped image
  logged_kind batches log =
      let stored = with_log batches in
      elim (follow_or_stuck (origin_of stored) (records_in stored)) [
        | inr (lsn, first) ↦ inl (Rec lsn, (stored, log, first))
        | inl (state, reached) ↦ replayed_kind batches state (record { log = log; reached = reached })
      ]

  -- its log
  heap_kind : IsDamagedOrShaped image
  heap_kind =
      let log = log_part s image in
      let size = has.size in
      let small = has.limits.small_log in
      let some = has.limits.some_log in
      let long = length_part image log_offset s.log_bytes (omega arith) in
      elim (log_or_breaks log (part_bytes image log_offset s.log_bytes fits) (omega arith) (omega arith)) [
        | inr (offset, breaks) ↦ inl (Batch offset, (s, has, breaks))
        | inl (batches, good, held) ↦ logged_kind batches (record { super = has; held = held; pages = refl; good = good })
      ]

unshaped_heap : (image : List ℕ) → IsNoHeap image → ¬ IsShapedImage image
unshaped_heap image none is = none is.stored.super (record { limits = is.shaped.log.limits; super = is.shaped.held.super; size = is.shaped.held.size })

unshaped_fault : (image : List ℕ) → IsDamaged image → ¬ IsShapedImage image
unshaped_fault image damage is = shaped_whole is.stored image damage.at is.shaped damage.fault

-- each image is of one kind, and of one alone
pub one_kind : (image : List ℕ) → AreBytes image → IsOfOneKind image
one_kind image fits = elim (heap_or_none image) [
  | inr none ↦ no_heap none (λ at fault. no_heap_fault at image none fault) (unshaped_heap image none)
  | inl (s, has) ↦ elim (heap_kind image fits s has) [
    | inl (at, fault) ↦
        let damage : IsDamaged image = record { at = at; fault = fault; only = λ other is. one_fault image other at is fault } in
        damaged damage (λ none. no_heap_fault at image none fault) (unshaped_fault image damage)
    | inr is ↦ shaped is (λ none. unshaped_heap image none is) (λ at fault. shaped_whole is.stored image at is.shaped fault)
  ]
]
