-- Whose events a worker gets from a script, and lists of workers.
use Rattle.std.proofs.Common.{◌≡◌, ◌==◌, ℕ, zero, suc, true, false, List, [], ◌∷◌, ◌++◌, length, Some, slice_get, refl, sym, subst, eqb-true}
use Rattle.std.proofs.lemmas.Option.{none-some}
use Rattle.std.specs.Prelude.{filter, cond}
use Rattle.std.specs.List.{AllByRecursion}
use Rattle.graph_model.specs.declared.event.Event.{Event}
use Rattle.graph_model.specs.declared.event.Event.TheVariants.{Force}
use Rattle.script_text.specs.declared.line.Line.{Line}
use Rattle.script_text.specs.declared.line.Line.TheVariants.{One, Commit}
use Rattle.script_text.specs.Line.{events}
use Rattle.script_workers.specs.Workers.{worker_of, worker_of_event, worker_events, IsFor}

-- an event that stands alone is for its worker
event_own : (event : Event) → IsFor (worker_of_event event) event
event_own Force = tt
event_own event = refl

-- A worker has no events but its own.
pub events_own : (number : ℕ) (lines : List Line) → AllByRecursion (IsFor number) (worker_events number lines)
events_own number [] = tt
events_own number (One event ∷ lines) =
    elim (worker_of_event event == number) as (λ b. (worker_of_event event == number) ≡ b → AllByRecursion (IsFor number) (events (cond b (One event ∷ filter (λ line. worker_of line == number) lines) (filter (λ line. worker_of line == number) lines)))) [
      | true ↦ λ is. (subst (λ n. IsFor n event) (eqb-true _ _ is) (event_own event), events_own number lines)
      | false ↦ λ _. events_own number lines
    ] refl
events_own number (Commit s ∷ lines) =
    elim (s == number) as (λ b. (s == number) ≡ b → AllByRecursion (IsFor number) (events (cond b (Commit s ∷ filter (λ line. worker_of line == number) lines) (filter (λ line. worker_of line == number) lines)))) [
      | true ↦ λ is. (eqb-true _ _ is, (tt, events_own number lines))
      | false ↦ λ _. events_own number lines
    ] refl

each_at : {X : Type 0} (P : ℕ → X → Type 0) (xs : List X) (y : X) → ((i : ℕ) (x : X) → slice_get xs i ≡ Some x → P i x) → P (length xs) y → (i : ℕ) (x : X) → slice_get (xs ++ y ∷ []) i ≡ Some x → P i x
each_at P [] y each last zero x at = let same : y ≡ x = cc in subst (P 0) same last
each_at P [] y each last (suc i) x at = absurd (none-some x at)
each_at P (z ∷ zs) y each last zero x at = each 0 x at
each_at P (z ∷ zs) y each last (suc i) x at = each_at (λ j. P (suc j)) zs y (λ j w here. each (suc j) w here) last i x at

-- what holds of each item and of one more holds of all
pub each_more : {X : Type 0} (P : ℕ → X → Type 0) (xs : List X) (y : X) → ((i : ℕ) (x : X) → slice_get xs i ≡ Some x → P i x) → (n : ℕ) → length xs ≡ n → P n y → (ys : List X) → ys ≡ xs ++ y ∷ []
    → (i : ℕ) (x : X) → slice_get ys i ≡ Some x → P i x
each_more P xs y each n len last ys is i x at = each_at P xs y each (subst (λ m. P m y) (sym len) last) i x (subst (λ l. slice_get l i ≡ Some x) is at)
