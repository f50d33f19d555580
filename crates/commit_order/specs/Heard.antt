-- What the calls of each transaction were answered, as a history has it.
use Rattle.std.specs.Prelude.{ℕ, ◌==◌, List, [], ◌∷◌, ◌++◌, Option, None, Some, fold, if◌then◌else◌}
use Rattle.std.specs.Option.{option_to_list, option_map}
use Rattle.graph_model.specs.declared.event.Event.{Event}
use Rattle.graph_model.specs.declared.event.Event.TheVariants.{Seal}
use Rattle.graph_model.specs.declared.reply.Entry.{Entry}
use Rattle.graph_model.specs.declared.reply.Refusal.TheVariants.{DiskFault, Stopped}
use Rattle.graph_model.specs.declared.reply.Reply.{Reply}
use Rattle.graph_model.specs.declared.reply.Reply.TheVariants.{Begun, Done, Null, Int, Reference, Yes, No, Length, Sealed, Aborted, Durable, Flipped, Collecting, Scanned, Collected, Idle, Flushed, Clean, Refused}
use Rattle.graph_model.specs.History.{session_of}

-- The replies to the calls of transactions.
pub record Heard : Type 0 where
  pub active : ℕ → Option (List Reply)  -- of each session's transaction so far
  pub sealed : List (List Reply)  -- of those whose seal was answered `sealed`, in that order
  pub in_doubt : Option (List Reply)  -- of the one whose seal the disk cut short

-- nothing was answered
abbrev pub nothing_heard : Heard
nothing_heard = record { active = λ s. None; sealed = []; in_doubt = None }

-- the sessions' replies where session s has these
abbrev pub with_replies : (ℕ → Option (List Reply)) → ℕ → Option (List Reply) → ℕ → Option (List Reply)
with_replies active s own session = if session == s then own else active session

-- a transaction's replies with one more
abbrev pub with_reply : Reply → List Reply → List Reply
with_reply reply own = own ++ reply ∷ []

-- what a call's reply adds
abbrev pub hear_call : Heard → ℕ → Reply → Heard
hear_call heard s reply = record heard { active = with_replies heard.active s (option_map (with_reply reply) (heard.active s)) }

-- the replies to the calls of a session's transaction are complete
abbrev pub hear_seal : Heard → ℕ → Heard
hear_seal heard s = record heard { active = with_replies heard.active s None; sealed = heard.sealed ++ option_to_list (heard.active s) }

-- so are those of a transaction whose seal the disk cut short
abbrev pub hear_cut : Heard → Event → Heard
hear_cut heard (Seal s) = record heard { in_doubt = heard.active s }
hear_cut heard event = heard

-- what an event's reply adds: the last seven are replies to calls, which were not refused
abbrev pub hear : Heard → Event → Reply → Heard
hear heard event (Begun n) = record heard { active = with_replies heard.active (session_of event) (Some []) }
hear heard event (Sealed n) = hear_seal heard (session_of event)
hear heard event Aborted = record heard { active = with_replies heard.active (session_of event) None }
hear heard event (Durable n) = heard
hear heard event (Flipped objects words) = heard
hear heard event Collecting = heard
hear heard event (Scanned page objects words) = heard
hear heard event (Collected used) = heard
hear heard event Idle = heard
hear heard event (Flushed page) = heard
hear heard event (Clean page) = heard
hear heard event (Refused DiskFault) = hear_cut heard event
hear heard event (Refused Stopped) = hear_cut heard event
hear heard event (Refused why) = heard
hear heard event Done = hear_call heard (session_of event) Done
hear heard event Null = hear_call heard (session_of event) Null
hear heard event (Int v) = hear_call heard (session_of event) (Int v)
hear heard event Reference = hear_call heard (session_of event) Reference
hear heard event Yes = hear_call heard (session_of event) Yes
hear heard event No = hear_call heard (session_of event) No
hear heard event (Length n) = hear_call heard (session_of event) (Length n)

-- all that a history says about the replies
abbrev pub heard_in : List Entry → Heard
heard_in history = fold (λ heard entry. hear heard entry.event entry.reply) nothing_heard history

-- the replies to the calls of each commit: of the sealed transactions, in the order of their seals, and then of the one whose seal the
-- disk cut short
abbrev pub replies_of_commits : List Entry → List (List Reply)
replies_of_commits history = (heard_in history).sealed ++ option_to_list (heard_in history).in_doubt
