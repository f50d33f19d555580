-- Where nothing is to be done before a heap is closed.
use Rattle.std.proofs.Common.{◌≡◌, ◌≢◌, ℕ, ◌+◌, ◌-◌, ◌≤◌, Bool, false, true, List, [], ◌∷◌, ◌++◌, length, Option, None, Some, refl, sym, ap, ◌∙◌, arith, length-append}
use Rattle.std.specs.Prelude.{IsTrue, IsFalse, is_some}
use Rattle.core_laws.specs.Active.{active_in}
use Rattle.core_laws.proofs.Run.Aborting.{aborting_until, aborting_from, aborting_parts, until_next}
use Rattle.graph_model.specs.declared.event.Event.{Event}
use Rattle.graph_model.specs.declared.event.Event.TheVariants.{Abort}
use Rattle.graph_model.specs.Transaction.{Transaction}
use Rattle.log_records.specs.declared.Record.{Record}
use Rattle.heap_model.specs.Core.{Core}
use Rattle.heap_model.specs.CoreRuns.{after_events}
use Rattle.heap_model.specs.Ending.{abort_of, aborting, force_of, forcing, ending}

is_none : (o : Option Transaction) → is_some o ≡ false → o ≡ None
is_none None e = refl
is_none (Some t) e = absurd (cc e)

is_there : (o : Option Transaction) → is_some o ≡ true → (t : Transaction) × (o ≡ Some t)
is_there None e = absurd (cc e)
is_there (Some t) e = (t, refl)

module _ (c : Core) (s : ℕ) (low : 1 ≤ s) (has : Bool) (is : has ≡ is_some (active_in c s)) where
  next : (s - 1) + 1 ≡ s
  next = omega arith

  -- one more session has no transaction
  pub none_more : IsFalse has → aborting_until (s - 1) c ≡ [] → aborting_until ((s + 1) - 1) c ≡ []
  none_more none_there before =
      let same : (s + 1) - 1 ≡ (s - 1) + 1 = omega arith in
      let none : active_in c s ≡ None = is_none (active_in c s) (sym is ∙ none_there) in
      ap (λ (n : ℕ). aborting_until n c) same ∙ until_next (s - 1) c ∙ ap (λ (l : List Event). l ++ abort_of ((s - 1) + 1) (active_in c ((s - 1) + 1))) before
      ∙ ap (λ (n : ℕ). abort_of n (active_in c n)) next ∙ ap (λ (o : Option Transaction). abort_of s o) none

  -- this one has one
  pub some_there : s ≤ 32 → IsTrue has → aborting c ≢ []
  some_there high there none =
      let some = is_there (active_in c s) (sym is ∙ there) in
      let before = aborting_until (s - 1) c in
      let behind = aborting_from (s + 1) (after_events c (aborting_until s c)) in
      let parts : aborting_until s c ≡ before ++ Abort s ∷ [] =
      ap (λ (n : ℕ). aborting_until n c) (sym next) ∙ until_next (s - 1) c ∙ ap (λ (n : ℕ). before ++ abort_of n (active_in c n)) next ∙ ap (λ (o : Option Transaction). before ++ abort_of s o) some.1 in
      let whole : aborting c ≡ aborting_until s c ++ behind = aborting_parts s c high in
      let size : length (aborting c) ≡ 0 = ap (λ (l : List Event). length l) none in
      let sum : length (aborting c) ≡ length (aborting_until s c ++ behind) = ap (λ (l : List Event). length l) whole in
      let one : length (aborting_until s c) ≡ length (before ++ Abort s ∷ []) = ap (λ (l : List Event). length l) parts in
      absurd (omega (arith, size, sum, one, length-append (aborting_until s c) behind, length-append before (Abort s ∷ [])))

front_none : (a b : List Event) → a ++ b ≡ [] → a ≡ []
front_none [] b e = refl
front_none (x ∷ a) b e = absurd (cc e)

force_none : (l : List Record) → force_of l ≡ [] → l ≡ []
force_none [] e = refl
force_none (r ∷ l) e = absurd (cc e)

no_force : (l : List Record) → (l ≢ [] → ⊥) → force_of l ≡ []
no_force [] never = refl
no_force (r ∷ l) never = absurd (never (λ e. cc e))

module _ (c : Core) where
  -- nothing is to be done
  pub ending_none : aborting c ≡ [] → (c.pending ≢ [] → ⊥) → ending c ≡ []
  ending_none none never = ap (λ (l : List Event). l ++ forcing (after_events c l)) none ∙ no_force c.pending never

  -- something is, if a session has a transaction
  pub ending_aborts : aborting c ≢ [] → ending c ≢ []
  ending_aborts some e = some (front_none (aborting c) (forcing (after_events c (aborting c))) e)

  -- or if records are pending
  pub ending_forces : c.pending ≢ [] → ending c ≢ []
  ending_forces some e =
      let none : aborting c ≡ [] = front_none (aborting c) (forcing (after_events c (aborting c))) e in
      some (force_none c.pending (sym (ap (λ (l : List Event). l ++ forcing (after_events c l)) none) ∙ e))
