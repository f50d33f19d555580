-- A stop of the disk leaves the line of the event in which it came.
use Rattle.std.proofs.Common.{◌≡◌, ◌≢◌, ◌⊎◌, inl, inr, ⊎_elim, ℕ, ◌<◌, Bool, List, [], ◌∷◌, ◌++◌, None, refl}
use Rattle.std.specs.Prelude.{IsTrue}
use Rattle.counts.specs.Count.{counted}
use Rattle.disk_model.specs.declared.disk.Disk.{Ghosts}
use Rattle.graph_model.specs.declared.event.Event.{Event}
use Rattle.heap_model.specs.Core.{Core}
use Rattle.heap_program.specs.declared.status.Status.TheVariants as status
use Rattle.heap_program.specs.Headline.{IsPlayed}
use Rattle.heap_program.specs.Play.{lines_text}

some_made : (made : List Event) → (made ≡ []) ⊎ (made ≢ [])
some_made [] = inl refl
some_made (event ∷ made) = inr (λ is. cc)

-- Of a run without a stop that ends with status 6 on a disk that met its first stop in it: events were made, and the lines of all of them were written,
-- or the disk was stopped in the opening, with calls left.
pub stop_has_its_line : {D : Type 0} (g : Ghosts D) (at_opening : ℕ) (c : Core) (events : List Event) (start final : D) (told : Bool) (before after : List ℕ) (played : IsPlayed g None at_opening c events start final status.DiskFault told before after)
    → g.stops start ≡ 0 → g.stops final ≢ 0
    → ((played.run.made ≢ []) × (IsTrue told → after ≡ before ++ lines_text played.run.core.history)) ⊎ ((calls : ℕ) × (calls < at_opening) × (g.passed final ≡ counted calls (g.passed start)))
stop_has_its_line g at_opening c events start final told before after played none met = ⊎_elim
    (λ (empty : played.run.made ≡ []). ⊎_elim
    (λ (still : g.stops final ≡ 0). absurd (met still))
    (λ (opening : (calls : ℕ) × (calls < at_opening) × (g.passed final ≡ counted calls (g.passed start))). inr opening)
    (played.no_first_stop refl empty none))
    (λ (some : played.run.made ≢ []). inl (some, λ t. (played.prints.written t).fault tt))
    (some_made played.run.made)
