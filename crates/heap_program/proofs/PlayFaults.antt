-- A play whose last event the disk cut short.
use Rattle.std.proofs.Common.{◌≡◌, inl, inr, List, [], ◌∷◌, ◌++◌, length, drop, refl, sym, ap, ◌∙◌, subst, arith, length-append}
use Rattle.std.proofs.lemmas.List.{drop_at}
use Rattle.graph_model.specs.declared.event.Event.{Event}
use Rattle.graph_model.specs.declared.reply.Entry.{Entry}
use Rattle.graph_model.specs.declared.reply.Refusal.TheVariants.{DiskFault, Stopped}
use Rattle.graph_model.specs.declared.reply.Reply.{Reply}
use Rattle.graph_model.specs.declared.reply.Reply.TheVariants.{Refused}
use Rattle.graph_model.proofs.Refusals.Plain.{IsSoundReply}
use Rattle.heap_model.specs.Core.{Core, answer, after}
use Rattle.heap_model.proofs.Step.Calls.{after_events-append}
use Rattle.heap_model.proofs.Run.Calls.{step_history}
use Rattle.heap_model.specs.CoreRuns.{after_events}
use Rattle.heap_program.specs.Play.{MadeAll, IsCutBy}
use Rattle.heap_program.proofs.PlayEvent.{answer_sound}

-- Histories that are the same have the same last entry.
last_same : (xs ys : List Entry) (x y : Entry) → xs ++ x ∷ [] ≡ ys ++ y ∷ [] → x ≡ y
last_same xs ys x y same =
    let sizes : length (xs ++ x ∷ []) ≡ length (ys ++ y ∷ []) = ap (λ (l : List Entry). length l) same in
    let left = length-append xs (x ∷ []) in
    let right = length-append ys (y ∷ []) in
    let size : length ys ≡ length xs = omega arith in
    let ends : x ∷ [] ≡ y ∷ [] = sym (drop_at xs (x ∷ []) (length xs) refl) ∙ ap (λ (l : List Entry). drop (length xs) l) same ∙ drop_at ys (y ∷ []) (length xs) size in
    cc

no_last : (before : List Event) (event : Event) → [] ≡ before ++ event ∷ [] → ⊥
no_last [] event is = cc
no_last (e ∷ before) event is = cc

-- where no event was made, none was cut short
pub none_cut : (reply : Reply) (c d : Core) → IsCutBy reply c [] d → ⊥
none_cut reply c d cut = no_last cut.before cut.event cut.parts

module _ (said : Reply) (c d : Core) (made : List Event) (cut : IsCutBy said c made d) where
  abbrev before : Core
  before = after_events c cut.before

  abbrev own : Entry
  own = record { event = cut.event; reply = said }

  cut_history : d.history ≡ before.history ++ own ∷ []
  cut_history = step_history before d cut.event said (inr (cut.cut, cut.reached))

  -- a last event that was cut short was answered what no other event is, so not all events were made
  pub cut_not_whole : (IsSoundReply said → ⊥) → MadeAll c made d → ⊥
  cut_not_whole unsound whole =
      let reached : d ≡ after before cut.event = whole ∙ ap (λ (l : List Event). after_events c l) cut.parts ∙ after_events-append c cut.before (cut.event ∷ []) in
      let entry : Entry = record { event = cut.event; reply = answer before cut.event } in
      let history : d.history ≡ before.history ++ entry ∷ [] = step_history before d cut.event (answer before cut.event) (inl (refl, reached)) in
      let same : entry ≡ own = last_same before.history before.history entry own (sym history ∙ cut_history) in
      let reply : answer before cut.event ≡ said = ap (λ (e : Entry). e.reply) same in
      unsound (subst IsSoundReply reply (answer_sound before cut.event))

  -- and it was answered so alone
  pub cut_reply : (told : Reply) → IsCutBy told c made d → told ≡ said
  cut_reply told again =
      let other = after_events c again.before in
      let entry : Entry = record { event = again.event; reply = told } in
      let history : d.history ≡ other.history ++ entry ∷ [] = step_history other d again.event told (inr (again.cut, again.reached)) in
      let same : entry ≡ own = last_same other.history before.history entry own (sym history ∙ cut_history) in
      ap (λ (e : Entry). e.reply) same

-- Where it was answered `diskfault` or `stopped`, the disk did not do what it was asked in all events.
pub fault_not_whole : (c d : Core) (made : List Event) → IsCutBy (Refused DiskFault) c made d → MadeAll c made d → ⊥
fault_not_whole c d made cut whole = cut_not_whole (Refused DiskFault) c d made cut (λ sound. sound) whole

pub stop_not_whole : (c d : Core) (made : List Event) → IsCutBy (Refused Stopped) c made d → MadeAll c made d → ⊥
stop_not_whole c d made cut whole = cut_not_whole (Refused Stopped) c d made cut (λ sound. sound) whole

-- and it was answered one of them alone
pub fault_not_stopped : (c d : Core) (made : List Event) → IsCutBy (Refused DiskFault) c made d → IsCutBy (Refused Stopped) c made d → ⊥
fault_not_stopped c d made cut stopped = let same = cut_reply (Refused DiskFault) c d made cut (Refused Stopped) stopped in cc
