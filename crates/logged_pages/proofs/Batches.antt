-- The batches of a log and its pending records, forced or not.
use Rattle.std.proofs.Common.{◌≡◌, ℕ, ◌≤◌, Bool, true, false, List, [], ◌++◌, refl, sym, ap, ◌∙◌, inl, inr, arith}
use Rattle.std.specs.Prelude.{nat_lt, ◌||◌, if◌then◌else◌}
use Rattle.std.proofs.lemmas.Bool.{cases_lt, lt-ltb, le-ltb}
use Rattle.std.proofs.lemmas.List.{append-nil}
use Rattle.gated_log.specs.Log.{records_of, with_batch}
use Rattle.gated_log.specs.LogState.{log_forced}
use Rattle.log_records.specs.declared.Record.{Record}
use Rattle.logged_pages.specs.Advancing.{was_forced}
use Rattle.logged_pages.specs.declared.logged.LoggedPages.{LoggedPages}
use Rattle.logged_pages.specs.OnDisk.{batches_if, pending_if}
use Rattle.logged_pages.specs.State.{log_of}
use Rattle.logged_pages.proofs.DiskLaws.{records_of-with_batch}

-- no record is lost, whether it is forced or not
pub all_if : (f : Bool) (batches : List (List Record)) (pending : List Record) → records_of (batches_if f batches pending) ++ pending_if f pending ≡ records_of batches ++ pending
all_if true batches pending = append-nil (records_of (with_batch batches pending)) ∙ records_of-with_batch batches pending
all_if false batches pending = refl

-- what was forced before is not forced again
batches_both : (f g : Bool) (batches : List (List Record)) (pending : List Record) → batches_if g (batches_if f batches pending) (pending_if f pending) ≡ (if f || g then with_batch batches pending else batches)
batches_both true true batches pending = refl
batches_both true false batches pending = refl
batches_both false true batches pending = refl
batches_both false false batches pending = refl

pending_both : (f g : Bool) (pending : List Record) → pending_if g (pending_if f pending) ≡ (if f || g then [] else pending)
pending_both true true pending = refl
pending_both true false pending = refl
pending_both false true pending = refl
pending_both false false pending = refl

any_forced : (a m c : ℕ) → a ≤ m → m ≤ c → nat_lt a c ≡ (nat_lt a m || nat_lt m c)
any_forced a m c low high = elim (cases_lt a m) [
  | inl first ↦ lt-ltb a c (omega arith) ∙ sym (ap (λ (b : Bool). b || nat_lt m c) (lt-ltb a m first))
  | inr same ↦
      let is : a ≡ m = omega arith in
      ap (λ (n : ℕ). nat_lt n c) is ∙ sym (ap (λ (b : Bool). b || nat_lt m c) (le-ltb a m same))
]

batches_as : (f : Bool) (batches : List (List Record)) (pending : List Record) → batches_if f batches pending ≡ (if f then with_batch batches pending else batches)
batches_as true batches pending = refl
batches_as false batches pending = refl

pending_as : (f : Bool) (pending : List Record) → pending_if f pending ≡ (if f then [] else pending)
pending_as true pending = refl
pending_as false pending = refl

module _ (old mid new : LoggedPages) (first : log_forced (log_of old) ≤ log_forced (log_of mid)) (second : log_forced (log_of mid) ≤ log_forced (log_of new)) where
  either : was_forced old new ≡ (was_forced old mid || was_forced mid new)
  either = any_forced (log_forced (log_of old)) (log_forced (log_of mid)) (log_forced (log_of new)) first second

  pub batches_then : (batches : List (List Record)) (pending : List Record) → batches_if (was_forced mid new) (batches_if (was_forced old mid) batches pending) (pending_if (was_forced old mid) pending) ≡ batches_if (was_forced old new) batches pending
  batches_then batches pending =
      batches_both (was_forced old mid) (was_forced mid new) batches pending
      ∙ sym (ap (λ (f : Bool). if f then with_batch batches pending else batches) either)
      ∙ sym (batches_as (was_forced old new) batches pending)

  pub pending_then : (pending : List Record) → pending_if (was_forced mid new) (pending_if (was_forced old mid) pending) ≡ pending_if (was_forced old new) pending
  pending_then pending =
      pending_both (was_forced old mid) (was_forced mid new) pending
      ∙ sym (ap (λ (f : Bool). if f then [] else pending) either)
      ∙ sym (pending_as (was_forced old new) pending)
