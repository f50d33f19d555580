-- What a worker sends.
use Rattle.std.specs.Prelude.{◌≡◌, ◌⊎◌, ℕ, ◌+◌, ◌<◌, Bool, true, false, MatchBool, nat_lt, List, [], ◌∷◌, ◌++◌, length, Result, Ok, Err}
use Rattle.std.specs.List.{AllByRecursion}
use Rattle.graph_model.specs.declared.event.Event.{Event}
use Rattle.graph_model.specs.declared.event.Event.TheVariants.{Abort}
use Rattle.graph_model.specs.declared.reply.Entry.{Entry}
use Rattle.graph_model.specs.declared.reply.Reply.{Reply}
use Rattle.graph_model.specs.declared.reply.Reply.TheVariants.{Refused}
use Rattle.graph_model.specs.declared.reply.Refusal.TheVariants.{Busy, Failed, DiskFault, Stopped}
use Rattle.graph_model.specs.History.{session_of}

-- nothing is sent after this answer: the heap has failed
abbrev pub ends : Reply → Bool
ends (Refused (Failed entry)) = true
ends (Refused DiskFault) = true
ends (Refused Stopped) = true
ends reply = false

-- other transactions hold conflicting locks on the object of this event, which is of a session
abbrev pub is_busy : Event → Reply → Bool
is_busy event (Refused (Busy holder)) = nat_lt 0 (session_of event)
is_busy event reply = false

-- the event was made, and answered `busy`
pub record IsBusyTo (event : Event) (entry : Entry) : Type 0 where
  pub event_is : entry.event ≡ event
  pub busy : is_busy event entry.reply ≡ true

-- An event is made: it is answered `busy` fewer than `tries` times and then otherwise, or `tries` times and then its session's transaction is aborted.
pub record Makes (tries : ℕ) (event : Event) (busy : List Entry) (last : Entry) : Type 0 where
  pub again : AllByRecursion (IsBusyTo event) busy
  pub last_is : ((length busy < tries) × (last.event ≡ event) × (is_busy event last.reply ≡ false)) ⊎ ((length busy ≡ tries) × (last.event ≡ Abort (session_of event)))

-- This part of a history is what a worker sends of its events, with the answers: each is made, in their order, and nothing after an answer that ends it.
abbrev pub Played : ℕ → List Event → List Entry → Type 0
Played tries [] part = part ≡ []
Played tries (event ∷ events) part =
    (busy : List Entry) × (last : Entry) × (rest : List Entry) × (part ≡ busy ++ last ∷ rest) × Makes tries event busy last × MatchBool (ends last.reply) (rest ≡ []) (Played tries events rest)

-- a part that begins so
abbrev pub IsBegun : ℕ → List Event → List Entry → Type 0
IsBegun tries events part = (more : List Entry) × Played tries events (part ++ more)

-- a part that begins so, and goes on
abbrev pub IsUnfinished : ℕ → List Event → List Entry → Type 0
IsUnfinished tries events part = (next : Entry) × IsBegun tries events (part ++ next ∷ [])

-- How many calls a worker made that ended so: each was answered by an entry of its part, but the last one where memory ran out.
abbrev pub calls_made : {E : Type 0} → Result (Unit {0}) E → List Entry → ℕ
calls_made (Ok done) part = length part
calls_made (Err e) part = length part + 1

-- the event may be asked, and so may the abort of its session's transaction
pub record MayMake (takes : Event → Type 0) (event : Event) : Type 0 where
  pub asked : takes event
  pub abort : 0 < session_of event → takes (Abort (session_of event))
