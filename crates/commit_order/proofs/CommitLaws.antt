-- The replies of commits: those of the sealed transactions, and then of the one whose seal the disk cut short.
use Rattle.std.proofs.Common.{◌≡◌, ◌≢◌, ℕ, ◌+◌, List, [], ◌∷◌, ◌++◌, Option, None, Some, refl, sym, ap, ◌∙◌, subst, append_assoc}
use Rattle.std.specs.Option.{option_map, option_to_list}
use Rattle.std.proofs.lemmas.List.{append-nil}
use Rattle.graph_model.specs.declared.event.Event.{Event}
use Rattle.graph_model.specs.declared.event.Event.TheVariants.{Seal}
use Rattle.graph_model.specs.declared.reply.Entry.{Entry}
use Rattle.graph_model.specs.declared.reply.Refusal.TheVariants.{Failed, DiskFault, Stopped}
use Rattle.graph_model.specs.declared.reply.Reply.{Reply}
use Rattle.graph_model.specs.declared.reply.Reply.TheVariants.{Begun, Sealed, Aborted, Durable, Flipped, Collecting, Scanned, Collected, Idle, Flushed, Clean, Refused}
use Rattle.graph_model.specs.Graph.{Graph}
use Rattle.graph_model.specs.Transaction.{Transaction, replies, serial, serial_replies}
use Rattle.graph_model.specs.History.{Account, account, account_after, session_of, first_failure, cut_short}
use Rattle.graph_model.proofs.Runs.History.{account-append}
use Rattle.commit_order.specs.Heard.{Heard, hear_cut, hear, heard_in}
use Rattle.commit_order.specs.SerialOrder.{EachEntry, EndsWithFailure, numbers_begun, IsTwoPhase, HasPlainReplies, SerialOrderTheorem}
use Rattle.commit_order.proofs.OrderLaws.{IsOrdered, nothing_ordered, ordered_append, heard-append, two_phase_ordered, serial_replies-append}

-- The transaction in doubt had the replies that it would have after the sealed ones, and there is none while the disk has not failed.
record IsDoubted (g0 : Graph) (a : Account) (heard : Heard) : Type 0 where
  told : heard.in_doubt ≡ option_map (replies (serial g0 a.sealed)) a.in_doubt
  certain : a.failed ≡ None → a.in_doubt ≡ None

failed_now : (first : Option ℕ) (entry : ℕ) → first_failure first entry ≡ None → ⊥
failed_now None entry is = cc
failed_now (Some n) entry is = cc

-- the disk fails or stops in an event
cut_doubted : (g0 : Graph) (numbers : List ℕ) (a : Account) (heard : Heard) (event : Event) → IsOrdered g0 numbers a heard → IsDoubted g0 a heard → IsDoubted g0 (cut_short a event) (hear_cut heard event)
cut_doubted g0 numbers a heard (Seal s) o d = record { told = o.active s; certain = λ unfailed. absurd (failed_now a.failed (a.entries + 1) unfailed) }
cut_doubted g0 numbers a heard event o d = record { told = d.told; certain = λ unfailed. absurd (failed_now a.failed (a.entries + 1) unfailed) }

unfailed_if : (o : Option ℕ) (reply : Reply) → ((n : ℕ) → o ≡ Some n → reply ≡ Refused (Failed n)) → ((n : ℕ) → reply ≢ Refused (Failed n)) → o ≡ None
unfailed_if None reply failed never = refl
unfailed_if (Some n) reply failed never = absurd (never n (failed n refl))

sealed_not_failed : (n m : ℕ) → Sealed n ≢ Refused (Failed m)
sealed_not_failed n m is = cc

-- One more entry.
entry_doubted : (g0 : Graph) (numbers : List ℕ) (a : Account) (heard : Heard) (event : Event) (reply : Reply) → ((n : ℕ) → a.failed ≡ Some n → reply ≡ Refused (Failed n)) → IsOrdered g0 numbers a heard → IsDoubted g0 a heard
    → IsDoubted g0 (account_after a (record { event = event; reply = reply })) (hear heard event reply)
entry_doubted g0 numbers a heard event (Begun n) failed o d = record { told = d.told; certain = d.certain }
entry_doubted g0 numbers a heard event (Sealed n) failed o d =
    let certain = d.certain (unfailed_if a.failed (Sealed n) failed (sealed_not_failed n)) in
    let more = a.sealed ++ option_to_list (a.active (session_of event)) in
    record {
      told = d.told ∙ ap (option_map (replies (serial g0 a.sealed))) certain ∙ sym (ap (option_map (replies (serial g0 more))) certain);
      certain = d.certain;
    }
entry_doubted g0 numbers a heard event Aborted failed o d = record { told = d.told; certain = d.certain }
entry_doubted g0 numbers a heard event (Durable n) failed o d = record { told = d.told; certain = d.certain }
entry_doubted g0 numbers a heard event (Flipped objects words) failed o d = record { told = d.told; certain = d.certain }
entry_doubted g0 numbers a heard event Collecting failed o d = record { told = d.told; certain = d.certain }
entry_doubted g0 numbers a heard event (Scanned page objects words) failed o d = record { told = d.told; certain = d.certain }
entry_doubted g0 numbers a heard event (Collected used) failed o d = record { told = d.told; certain = d.certain }
entry_doubted g0 numbers a heard event Idle failed o d = record { told = d.told; certain = d.certain }
entry_doubted g0 numbers a heard event (Flushed page) failed o d = record { told = d.told; certain = d.certain }
entry_doubted g0 numbers a heard event (Clean page) failed o d = record { told = d.told; certain = d.certain }
entry_doubted g0 numbers a heard event (Refused DiskFault) failed o d = let cut = cut_doubted g0 numbers a heard event o d in record { told = cut.told; certain = cut.certain }
entry_doubted g0 numbers a heard event (Refused Stopped) failed o d = let cut = cut_doubted g0 numbers a heard event o d in record { told = cut.told; certain = cut.certain }
entry_doubted g0 numbers a heard event (Refused why) failed o d = record { told = d.told; certain = d.certain }
entry_doubted g0 numbers a heard event reply failed o d = record { told = d.told; certain = d.certain }

doubted_append : (g0 : Graph) (before : List Entry) (e : Entry) → EndsWithFailure before e → IsOrdered g0 (numbers_begun before) (account before) (heard_in before) → IsDoubted g0 (account before) (heard_in before)
    → IsDoubted g0 (account (before ++ e ∷ [])) (heard_in (before ++ e ∷ []))
doubted_append g0 before e failed o d =
    subst (λ a. IsDoubted g0 a (heard_in (before ++ e ∷ []))) (sym (account-append before e))
    (subst (IsDoubted g0 (account_after (account before) e)) (sym (heard-append before e))
    (entry_doubted g0 (numbers_begun before) (account before) (heard_in before) e.event e.reply failed o d))

doubted_rest : (g0 : Graph) (history before rest : List Entry) → HasPlainReplies g0 history → IsTwoPhase g0 history → EachEntry EndsWithFailure history → history ≡ before ++ rest → IsOrdered g0 (numbers_begun before) (account before) (heard_in before)
    → IsDoubted g0 (account before) (heard_in before) → IsDoubted g0 (account history) (heard_in history)
doubted_rest g0 history before [] plain two_phase ends is o d =
    subst (λ h. IsDoubted g0 (account h) (heard_in h)) (sym (is ∙ append-nil before)) d
doubted_rest g0 history before (e ∷ rest) plain two_phase ends is o d =
    doubted_rest g0 history (before ++ e ∷ []) rest plain two_phase ends (is ∙ sym (append_assoc before (e ∷ []) rest))
    (ordered_append g0 before e (two_phase.locked before e rest is) (plain.answered before e rest is) (plain.numbered before e rest is) o)
    (doubted_append g0 before e (ends before e rest is) o d)

two_phase_doubted : (g0 : Graph) (history : List Entry) → HasPlainReplies g0 history → IsTwoPhase g0 history → EachEntry EndsWithFailure history → IsDoubted g0 (account history) (heard_in history)
two_phase_doubted g0 history plain two_phase ends =
    doubted_rest g0 history [] history plain two_phase ends refl (nothing_ordered g0 plain.closed) (record { told = refl; certain = λ unfailed. refl })

-- the replies of transactions and of one that may be after them
serial_replies-last : (g : Graph) (ts : List Transaction) (o : Option Transaction)
    → serial_replies g ts ++ option_to_list (option_map (replies (serial g ts)) o) ≡ serial_replies g (ts ++ option_to_list o)
serial_replies-last g ts None = append-nil (serial_replies g ts) ∙ ap (serial_replies g) (sym (append-nil ts))
serial_replies-last g ts (Some t) = sym (serial_replies-append g ts t)

-- Strict two-phase locking gives commit order, where replies are plain.
pub serial_order : SerialOrderTheorem
serial_order g0 history plain two_phase =
    let o = two_phase_ordered g0 history plain two_phase in
    let a = account history in
    record {
      certain = o.sealed;
      active = o.active;
      committed = λ ends. ap (λ l. l ++ option_to_list (heard_in history).in_doubt) o.sealed
          ∙ ap (λ p. serial_replies g0 a.sealed ++ option_to_list p) (two_phase_doubted g0 history plain two_phase ends).told
          ∙ serial_replies-last g0 a.sealed a.in_doubt;
    }
