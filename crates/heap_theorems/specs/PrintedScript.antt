-- Printed events as a script.
use Rattle.std.proofs.Common.{ℕ, List, [], ◌∷◌, ◌++◌}
use Rattle.std.specs.List.{flat_map}
use Rattle.graph_model.specs.declared.event.Event.{Event}
use Rattle.graph_model.specs.History.{IsOfSession}
use Rattle.graph_model.specs.Text.{event_text}
use Rattle.script_text.specs.Printed.{spelled_numbers, AreSpellable}

-- the text of events, each on a line of its own
abbrev pub printed_script : List Event → List ℕ
printed_script events = flat_map (λ event. event_text event ++ 10 ∷ []) events

-- An event that a script can ask for: of a session or of none, with numbers that it can spell.
abbrev pub IsPrintedEvent : Event → Type 0
IsPrintedEvent event = IsOfSession event × AreSpellable (spelled_numbers event)
