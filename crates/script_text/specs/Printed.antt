-- The numbers that a printed event spells.
use Rattle.std.proofs.Common.{ℕ, ◌-◌, ◌^◌, ◌<◌, List, [], ◌∷◌}
use Rattle.std.specs.List.{AllByRecursion}
use Rattle.graph_model.specs.declared.event.Event.{Event}
use Rattle.graph_model.specs.declared.event.Event.TheVariants.{Root, New, Put, Clear, Link, Drop, Get, Same, Len, Flush}
use Rattle.script_text.specs.Line.{numbers}

-- the numbers that follow an event's verb
abbrev pub spelled_numbers : Event → List ℕ
spelled_numbers (Root s h) = h ∷ []
spelled_numbers (New s h len) = h ∷ len ∷ []
spelled_numbers (Put s h i v) = h ∷ i ∷ v ∷ []
spelled_numbers (Clear s h i) = h ∷ i ∷ []
spelled_numbers (Link s h i h2) = h ∷ i ∷ h2 ∷ []
spelled_numbers (Drop s h) = h ∷ []
spelled_numbers (Get s h i h2) = h ∷ i ∷ h2 ∷ []
spelled_numbers (Same s h h2) = h ∷ h2 ∷ []
spelled_numbers (Len s h) = h ∷ []
spelled_numbers (Flush p) = p ∷ []
spelled_numbers event = []

-- A script can spell these numbers: they are below 2 ^ 64.
abbrev pub AreSpellable : List ℕ → Type 0
AreSpellable ns = AllByRecursion (λ n. n < 2 ^ 64) ns
