-- A pass of a lock with two turns that was just made, and the slots of a table once both are taken.
use Rattle.std.proofs.Common.{◌≡◌, ℕ, zero, suc, ◌+◌, ◌<◌, Bool, false, List, [], ◌∷◌, length, ap, sym, refl, ◌∙◌, arith, Option, Some, None, slice_index_or, slice_set}
use Rattle.turn_lock.specs.declared.twin_view.Cell.{Cell}
use Rattle.turn_lock.specs.declared.twin_view.Cell.TheVariants.{OfValue, OfDevice}
use Rattle.turn_lock.specs.declared.twin_lock.TwinLock.{TwinLock}
use Rattle.turn_lock.specs.declared.twin_pass.TwinPass.{TwinPass}
use Rattle.turn_lock.specs.declared.twin_view.Counted.{Counted}
use Rattle.turn_lock.specs.Tied.{Seen, no_entries, none_stood, no_front, turns_of, any_follows}
use Rattle.turn_lock.specs.TwinSteps.{twin_left, twin_dealt}
use Rattle.turn_lock.specs.TwinPasses.{first_of, first_device_of, IsNew, uncounted}
use Rattle.turn_lock.proofs.Keeps.{dealing, deals_next, deals_number}

not_none : (k : ℕ) (l : List ℕ) → l ≡ k ∷ [] → l ≡ [] → ⊥
not_none k l is none = let n : suc 0 ≡ 0 = ap length (sym is ∙ none) in omega arith

module _ {T D : Type 0} where
  -- the value in a slot
  abbrev pub cell_value : T → Cell (Option T) (Option D) → T
  cell_value d (OfValue (Some x)) = x
  cell_value d (OfValue None) = d
  cell_value d (OfDevice y) = d

  -- the device in a slot
  abbrev pub cell_device : D → Cell (Option T) (Option D) → D
  cell_device d (OfDevice (Some y)) = y
  cell_device d (OfDevice None) = d
  cell_device d (OfValue x) = d

-- both slots are empty once both values are taken
pub both_taken : (l : List Bool) (k : ℕ) → k < 2 → slice_index_or (slice_set (slice_set l 0 false) 1 false) k false ≡ false
both_taken [] zero h = refl
both_taken [] (suc k) h = refl
both_taken (x ∷ []) zero h = refl
both_taken (x ∷ []) (suc k) h = refl
both_taken (x ∷ y ∷ l) zero h = refl
both_taken (x ∷ y ∷ l) (suc zero) h = refl
both_taken (x ∷ y ∷ l) (suc (suc k)) h = absurd (omega (arith, h))

module _ {T D E : Type 0} (entries : T → List E) (stood : T → ℕ) (front : E → ℕ) (empty_turns : T → ℕ) (follows : T → T → Type 0) (lock : TwinLock T D E) (passes : ℕ) where
  -- the first seat once the passes below k have their numbers
  abbrev pub twin_dealing : ℕ → Seen T E (Counted D) ℕ
  twin_dealing k = record { value = dealing entries stood front empty_turns follows (first_of lock) passes k; device = dealing no_entries none_stood no_front turns_of any_follows (first_device_of lock) passes k; more = record { own = None; down = None; saw = Some (first_device_of lock); parts = []; owes = 0 } }

  pub twin_deals_next : (k : ℕ) → k < passes → twin_left (twin_dealing k) ≡ twin_dealing (k + 1)
  twin_deals_next k h = λ i. record {
    value = deals_next entries stood front empty_turns follows (first_of lock) passes k h i;
    device = deals_next no_entries none_stood no_front turns_of any_follows (first_device_of lock) passes k h i;
    more = record { own = None; down = None; saw = Some (first_device_of lock); parts = []; owes = 0 };
  }

  pub twin_new_pass : (y : TwinPass T D E) (k label : ℕ) → k < passes → y.seat.table_id ≡ lock.table.shared.table_id → y.seat.me ≡ (twin_dealt (twin_dealing k), []) → y.label ≡ label → IsNew lock k label (entries (first_of lock)) y
  twin_new_pass y k label h table me label_is =
      let n = ap (λ m. m.0.value.numbers) me ∙ deals_number entries stood front empty_turns follows (first_of lock) passes k h in
      let d = ap (λ m. m.0.device.numbers) me ∙ deals_number no_entries none_stood no_front turns_of any_follows (first_device_of lock) passes k h in record {
        of_lock = record {
          lock_is = table;
          first_is = ap (λ m. m.0.value.first) me;
          first_device_is = ap (λ m. m.0.device.first) me;
          number = not_none k y.seat.me.0.value.numbers n;
          numbers_are = d ∙ sym n;
        };
        at_rest = record { value = ap (λ m. m.0.value.stage) me; device = ap (λ m. m.0.device.stage) me; slots = ap (λ m. m.1) me };
        label_is = label_is;
        number_is = n;
        seen = ap (λ m. m.0.value.seen) me;
        parts = ap (λ m. m.0.value.parts) me;
        mine = ap (λ m. m.0.value.mine) me;
        turns = ap (λ m. m.0.value.turns) me;
        turns_with_device = ap (λ m. m.0.device.turns) me;
        front = ap (λ m. m.0.value.front) me;
        own = ap (λ m. m.0.more.own) me;
        down = ap (λ m. uncounted m.0.more.down) me;
        saw = ap (λ m. uncounted m.0.more.saw) me;
        devices = ap (λ m. m.0.more.parts) me;
        owes = ap (λ m. m.0.more.owes) me;
      }

  pub twin_new_of : (a : T) → first_of lock ≡ a → (k label : ℕ) (pass : TwinPass T D E) → IsNew lock k label (entries (first_of lock)) pass → IsNew lock k label (entries a) pass
  twin_new_of a same k label pass h = Rattle.std.proofs.Common.subst (λ v. IsNew lock k label (entries v) pass) same h
