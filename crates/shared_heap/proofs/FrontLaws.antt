-- What entries acknowledge is the greatest number that one of them does.
use Rattle.std.proofs.Common.{◌≡◌, ℕ, zero, suc, ◌≤◌, List, [], ◌∷◌, drop, fold, max, refl, arith}
use Rattle.graph_model.specs.declared.event.Event.{Event}
use Rattle.graph_model.specs.declared.event.Event.TheVariants.{Seal}
use Rattle.graph_model.specs.declared.reply.Entry.{Entry}
use Rattle.graph_model.specs.declared.reply.Refusal.TheVariants.{DiskFault, Stopped}
use Rattle.graph_model.specs.declared.reply.Reply.{Reply}
use Rattle.graph_model.specs.declared.reply.Reply.TheVariants.{Begun, Sealed, Aborted, Durable, Flushed, Clean, Refused}
use Rattle.graph_model.specs.History.{Account, account_after, nothing_yet, done, cut_short, answered, acknowledged}
use Rattle.shared_heap.specs.Follows.{acknowledges}
use Rattle.turn_lock.specs.Turning.{greatest}

-- of one entry
abbrev pub front_of_entry : Entry → ℕ
front_of_entry entry = acknowledges entry.reply

cut_front : (a : Account) (event : Event) → (cut_short a event).acknowledged ≡ max a.acknowledged 0
cut_front a (Seal s) = omega arith
cut_front a event = omega arith

done_front : (a : Account) (event : Event) (reply : Reply) → (done a event reply).acknowledged ≡ max a.acknowledged (acknowledges reply)
done_front a event (Begun n) = omega arith
done_front a event (Sealed n) = omega arith
done_front a event Aborted = omega arith
done_front a event (Durable n) = refl
done_front a event (Flushed page) = omega arith
done_front a event (Clean page) = omega arith
done_front a event (Refused why) = omega arith
done_front a event reply = omega arith

answered_front : (a : Account) (event : Event) (reply : Reply) → (answered a event reply).acknowledged ≡ max a.acknowledged (acknowledges reply)
answered_front a event (Refused DiskFault) = cut_front a event
answered_front a event (Refused Stopped) = cut_front a event
answered_front a event reply = done_front a event reply

fold_front : (a : Account) (history : List Entry) → (fold account_after a history).acknowledged ≡ max a.acknowledged (greatest front_of_entry history)
fold_front a [] = omega arith
fold_front a (entry ∷ entries) = omega (arith, fold_front (account_after a entry) entries, answered_front a entry.event entry.reply)

-- What was acknowledged is the greatest number that an entry acknowledges.
pub acknowledged_greatest : (history : List Entry) → greatest front_of_entry history ≡ acknowledged history
acknowledged_greatest history = omega (arith, fold_front nothing_yet history)

greatest_drop : (n : ℕ) (history : List Entry) → greatest front_of_entry (drop n history) ≤ greatest front_of_entry history
greatest_drop zero history = omega arith
greatest_drop (suc n) [] = omega arith
greatest_drop (suc n) (entry ∷ entries) = omega (arith, greatest_drop n entries)

-- no more is acknowledged by the last entries than by all
pub front_within : (n : ℕ) (history : List Entry) → greatest front_of_entry (drop n history) ≤ acknowledged history
front_within n history = omega (arith, greatest_drop n history, acknowledged_greatest history)
