-- What one turn makes of a pass's entries.
use Rattle.std.proofs.Common.{◌≡◌, ℕ, List, [], ◌∷◌, ◌++◌, length, Result, Ok, Err, sym, ap, ◌∙◌, subst, arith, append-nil}
use Rattle.std.specs.Prelude.{MatchResult}
use Rattle.std.specs.declared.alloc.AllocError.{AllocError}
use Rattle.graph_model.specs.declared.event.Event.{Event}
use Rattle.graph_model.specs.declared.event.Event.TheVariants.{Force}
use Rattle.graph_model.specs.declared.reply.Entry.{Entry}
use Rattle.graph_model.specs.declared.reply.Reply.{Reply}
use Rattle.graph_model.specs.History.{IsSession, session_of, AreOfSession, IsOfSession}
use Rattle.graph_model.specs.Kinds.{Kind, Collects, Saves, kind_of}
use Rattle.shared_heap.specs.Shared.{MaySendKind, MaySend}
use Rattle.turn_lock.specs.Turning.{IsBeginning, StandIn, added}
use Rattle.turn_lock.specs.Merging.{Rise}
use Rattle.turn_lock.proofs.TurnLaws.{begins_more, added_one, added_none, rise_added}

-- what a pass may send is of a session, or of none
pub sent_of_session : (label : ℕ) (event : Event) → MaySend label event → IsOfSession event
sent_of_session label Force may = tt
sent_of_session label event may = by (kind_of event) (session_of event) may
  where
    by : (kind : Kind) (s : ℕ) → MaySendKind label kind s → AreOfSession s kind
    by Collects s may = tt
    by Saves s may = tt
    by kind s may = subst IsSession (sym may.1) may.0

-- What a call leaves its pass.
pub record Leaves (event : Event) (seen seen' : List Entry) (mine mine' : List (ℕ × Entry)) (result : Result Reply AllocError) : Type 0 where
  pub rises : Rise 0 mine'
  pub seen_on : IsBeginning seen seen'
  pub answered : MatchResult result (λ reply. (before : List Entry) × IsBeginning seen before × (seen' ≡ before ++ record { event = event; reply = reply } ∷ []) × (mine' ≡ mine ++ (length before, record { event = event; reply = reply }) ∷ [])) (λ _. mine' ≡ mine)

pub leaves : (event : Event) (seen at seen' : List Entry) (mine mine' : List (ℕ × Entry)) (result : Result Reply AllocError)
    → MatchResult result (λ reply. seen' ≡ at ++ record { event = event; reply = reply } ∷ []) (λ _. seen' ≡ at)
    → IsBeginning seen at → StandIn at mine → Rise 0 mine → mine' ≡ mine ++ added at seen' → Leaves event seen seen' mine mine' result
leaves event seen at seen' mine mine' (Ok reply) more begins stand rise is =
    let entry : Entry = record { event = event; reply = reply } in
    record {
      rises = subst (Rise 0) (sym is) (rise_added 0 at seen' mine entry (omega arith) rise stand more);
      seen_on = subst (IsBeginning seen) (sym more) (begins_more seen at (entry ∷ []) begins);
      answered = (at, begins, more, is ∙ ap (λ l. mine ++ l) (ap (added at) more ∙ added_one at entry));
    }
leaves event seen at seen' mine mine' (Err e) same begins stand rise is =
    let still : mine' ≡ mine = is ∙ ap (λ l. mine ++ l) (ap (added at) same ∙ added_none at) ∙ append-nil mine in
    record { rises = subst (Rise 0) (sym still) rise; seen_on = subst (IsBeginning seen) (sym same) begins; answered = still }

-- the same of equal histories
pub recorded_on : (event : Event) (a b x y : List Entry) (result : Result Reply AllocError) → b ≡ y → x ≡ a
    → MatchResult result (λ reply. y ≡ x ++ record { event = event; reply = reply } ∷ []) (λ _. y ≡ x)
    → MatchResult result (λ reply. b ≡ a ++ record { event = event; reply = reply } ∷ []) (λ _. b ≡ a)
recorded_on event a b x y (Ok reply) by xa r = by ∙ r ∙ ap (λ (l : List Entry). l ++ record { event = event; reply = reply } ∷ []) xa
recorded_on event a b x y (Err e) by xa r = by ∙ r ∙ xa
