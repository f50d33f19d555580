-- The words of an image's pages have 64 bits, and so have those that its log leaves.
use Rattle.std.proofs.Common.{◌≡◌, inl, inr, ℕ, zero, suc, ◌+◌, ◌<◌, ◌^◌, List, [], ◌∷◌, ◌++◌, drop, Option, None, Some, refl, sym, ap, ◌∙◌, subst, arith}
use Rattle.std.specs.Prelude.{fold, replicate}
use Rattle.std.specs.List.{AllByRecursion}
use Rattle.std.specs.Option.{option_map_or}
use Rattle.byteorder.specs.Endian.{little_number}
use Rattle.disk_model.specs.Disk.{part}
use Rattle.image_plan.specs.Super.{IsSuper}
use Rattle.log_records.specs.declared.Record.{Record}
use Rattle.log_records.specs.Record.{IsRecord}
use Rattle.log_machine.specs.Machine.{State, put_record, effect, all_taken_back, each_taken_back, losing_in, rollback, settled}
use Rattle.log_machine.proofs.AbortLaws.{rollback_good}
use Rattle.log_machine.proofs.Bounds.{CanRollBack}
use Rattle.log_machine.proofs.MapLaws.{entries_empty}
use Rattle.log_machine.proofs.StateLaws.{can_roll_back}
use Rattle.log_machine.proofs.TakenBackLaws.{taken_back-rollback}
use Rattle.log_machine.specs.declared.UndoEntry.{UndoEntry}
use Rattle.page_redo.specs.Pages.{Pages, page_of}
use Rattle.page_redo.specs.Redo.{lacks, redo_record, redo_all}
use Rattle.page_redo.proofs.PageLaws.{put_kept, put_left}
use Rattle.page_store.specs.declared.frame.Frame.{Frame}
use Rattle.page_store.specs.declared.frame.Frame.TheVariants.{First, Second}
use Rattle.page_store.specs.Frame.{spelled_words, frame_words, bytes_of, counting}
use Rattle.page_store.specs.Page.{image_words, stored_words, first_words, frame_of, frame_place}
use Rattle.heap_model.specs.Bits.{AreOf64Bits}
use Rattle.heap_model.specs.Image.{StoredHeap, records_in, state_in, redone_words, words_of}
use Rattle.heap_model.proofs.Step.Bits.{fit_record, fit_behind}
use Rattle.image_laws.proofs.Bytes.{IsBytes, front_bytes, from_bytes}
use Rattle.image_laws.proofs.Walk.{true_or_false}

-- Pages as they are stored.

number_fits : (bytes : List ℕ) → IsBytes bytes → little_number 8 bytes < 2 ^ 64
number_fits bytes fits = omega (arith, fits 0, fits 1, fits 2, fits 3, fits 4, fits 5, fits 6, fits 7)

-- words that bytes spell
spelled_fit : (n : ℕ) (bytes : List ℕ) → IsBytes bytes → AreOf64Bits (spelled_words n bytes)
unfolding spelled_words
spelled_fit zero bytes fits at = omega arith
spelled_fit (suc n) bytes fits zero = number_fits bytes fits
spelled_fit (suc n) bytes fits (suc at) = spelled_fit n (drop 8 bytes) (from_bytes 8 bytes fits) at

zeros_fit : (n : ℕ) → AreOf64Bits (replicate n 0)
zeros_fit zero at = omega arith
zeros_fit (suc n) zero = omega arith
zeros_fit (suc n) (suc at) = zeros_fit n at

first_fit : (p : ℕ) → AreOf64Bits (first_words p)
first_fit zero zero = omega arith
first_fit zero (suc at) = zeros_fit 63 at
first_fit (suc p) at = zeros_fit 64 at

frame_fit : (frame : List ℕ) → IsBytes frame → AreOf64Bits (frame_words frame)
frame_fit frame fits = spelled_fit 64 (drop 16 frame) (from_bytes 16 frame fits)

pub part_bytes : (image : List ℕ) (at n : ℕ) → IsBytes image → IsBytes (part image at n)
part_bytes image at n fits = front_bytes n (drop at image) (from_bytes at image fits)

append_fit : (xs ys : List ℕ) → AreOf64Bits xs → AreOf64Bits ys → AreOf64Bits (xs ++ ys)
append_fit [] ys fit more at = more at
append_fit (x ∷ xs) ys fit more zero = fit 0
append_fit (x ∷ xs) ys fit more (suc at) = append_fit xs ys (λ i. fit (suc i)) more at

counted_fit : (stood first second : List ℕ) (counts : Option Frame) → AreOf64Bits stood → IsBytes first → IsBytes second
    → AreOf64Bits (option_map_or (λ frame. frame_words (bytes_of first second frame)) counts stood)
counted_fit stood first second None fit one other = fit
counted_fit stood first second (Some First) fit one other = frame_fit first one
counted_fit stood first second (Some Second) fit one other = frame_fit second other

page_fit : (log_bytes p : ℕ) (image : List ℕ) → IsBytes image → AreOf64Bits (stored_words log_bytes p image)
page_fit log_bytes p image fits =
    let first = frame_of log_bytes p image First in
    let second = frame_of log_bytes p image Second in
    counted_fit (first_words p) first second (counting first second) (first_fit p) (part_bytes image (frame_place log_bytes p First) 528 fits) (part_bytes image (frame_place log_bytes p Second) 528 fits)

pub stored_fit : (log_bytes n : ℕ) (image : List ℕ) → IsBytes image → AreOf64Bits (image_words log_bytes n image)
unfolding image_words
stored_fit log_bytes zero image fits at = omega arith
stored_fit log_bytes (suc n) image fits at = append_fit (image_words log_bytes n image) (stored_words log_bytes n image) (stored_fit log_bytes n image fits) (page_fit log_bytes n image fits) at

-- Redo.

redo_fit : (lsn : ℕ) (at : Pages) (rec : Record) → AreOf64Bits at.words → IsRecord rec → AreOf64Bits (redo_record lsn at rec).words
redo_fit lsn at rec fit good a = elim (true_or_false (lacks at lsn (page_of a))) [
  | inl lacking ↦
      let small = fit_record at.words rec fit good a in
      let same = put_kept (lacks at lsn) (page_of a) a refl lacking (effect at.words rec) at.words at.words refl refl in
      subst (λ (w : ℕ). w < 2 ^ 64) (sym same) small
  | inr has ↦ subst (λ (w : ℕ). w < 2 ^ 64) (sym (put_left (lacks at lsn) (page_of a) a refl has (effect at.words rec) at.words)) (fit a)
]

pub redone_fit : (lsn : ℕ) (at : Pages) (records : List Record) → AreOf64Bits at.words → AllByRecursion IsRecord records → AreOf64Bits (redo_all lsn at records).words
redone_fit lsn at [] fit good = fit
redone_fit lsn at (r ∷ rs) fit good = redone_fit (lsn + 1) (redo_record lsn at r) rs (redo_fit lsn at r fit good.0) good.1

-- Rollback.

-- words without what may be taken back are those after the records of the rollback
back_fit : (s : State) → CanRollBack s → (now : List ℕ) → AreOf64Bits now → AreOf64Bits (all_taken_back s now)
back_fit s can now fit =
    let behind = fold put_record now (rollback s) in
    let nothing : all_taken_back (settled s) behind ≡ behind = ap (λ es. each_taken_back es behind) (entries_empty (List UndoEntry)) in
    subst AreOf64Bits (sym nothing ∙ taken_back-rollback s now) (fit_behind now (rollback s) fit (rollback_good s can))

-- The words that an image's log leaves.
pub left_fit : (stored : StoredHeap) (state : State) → IsSuper stored.super → AllByRecursion IsRecord (records_in stored) → state_in stored ≡ Some state → AreOf64Bits stored.pages.words → AreOf64Bits (words_of stored)
left_fit stored state limits good reached fit =
    let can = can_roll_back stored.super.pages stored.super.first state (records_in stored) limits.some_pages limits.few_pages good reached in
    let redone = redone_fit 1 stored.pages (records_in stored) fit good in
    let is : all_taken_back state (redone_words stored) ≡ words_of stored = ap (λ (o : Option State). each_taken_back (losing_in o) (redone_words stored)) (sym reached) in
    subst AreOf64Bits is (back_fit state can (redone_words stored) redone)
