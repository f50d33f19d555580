-- Why a heap has failed that workers have shared.
use Rattle.std.proofs.Common.{◌≡◌, ◌≢◌, ◌⊎◌, inl, inr, ℕ, ◌+◌, ◌≤◌, List, [], ◌∷◌, ◌++◌, Option, Some, None, Ok, refl, sym, ap, ◌∙◌, arith, append-nil, append_assoc}
use Rattle.std.specs.List.{AllByRecursion}
use Rattle.disk_model.specs.declared.disk.Disk.{Ghosts}
use Rattle.disk_model.specs.declared.disk.DiskError.TheVariants as device
use Rattle.disk_model.proofs.KeepsLaws.{rose_since}
use Rattle.graph_model.specs.declared.event.Event.{Event}
use Rattle.graph_model.specs.declared.event.Event.TheVariants.{Seal}
use Rattle.graph_model.specs.declared.reply.Entry.{Entry}
use Rattle.graph_model.specs.declared.reply.Refusal.TheVariants.{DiskFault, Stopped}
use Rattle.graph_model.specs.declared.reply.Reply.{Reply}
use Rattle.graph_model.specs.declared.reply.Reply.TheVariants.{Begun, Sealed, Aborted, Durable, Refused}
use Rattle.graph_model.specs.History.{Account, account, account_after, cut_short, first_failure}
use Rattle.graph_model.proofs.Runs.History.{account-append}
use Rattle.heap_core.specs.declared.heap.Heap.{Heap}
use Rattle.heap_core.specs.Causes.{reply_device}
use Rattle.heap_core.specs.HeapState.{heap_disk}
use Rattle.heap_program.specs.Causes.{DiskRose}
use Rattle.heap_program.proofs.Causes.{reply_rose}
use Rattle.thread_play.specs.Follows.{IsCaused, IsUncut}

-- What rose after some calls has risen since before them, if it has not fallen.
pub rose_from : (f s m n f' s' : ℕ) → f ≤ m → s ≤ n → m + n ≤ f' + s' → DiskRose m n f' s' → DiskRose f s f' s'
rose_from f s m n f' s' fm sn kept up = rose_since (f + s) (m + n) (f' + s') (omega (arith, fm, sn)) kept up

module _ {D : Type 0} {g : Ghosts D} (first now : Heap D g) where
  abbrev rose : Type 0
  rose = DiskRose (g.faults (heap_disk first)) (g.stops (heap_disk first)) (g.faults (heap_disk now)) (g.stops (heap_disk now))

  -- an entry that reports a failure has its cause, and no other is a failure
  one_caused : (a : Account) (event : Event) (reply : Reply) → IsCaused first now (record { event = event; reply = reply }) → a.failed ≡ None → ((account_after a (record { event = event; reply = reply })).failed ≡ None) ⊎ rose
  one_caused a event (Refused DiskFault) caused unfailed = inr (reply_rose g (heap_disk first) (heap_disk now) (Refused DiskFault) device.Failed caused refl)
  one_caused a event (Refused Stopped) caused unfailed = inr (reply_rose g (heap_disk first) (heap_disk now) (Refused Stopped) device.Stopped caused refl)
  one_caused a event (Refused why) caused unfailed = inl unfailed
  one_caused a event (Begun n) caused unfailed = inl unfailed
  one_caused a event (Sealed n) caused unfailed = inl unfailed
  one_caused a event Aborted caused unfailed = inl unfailed
  one_caused a event (Durable n) caused unfailed = inl unfailed
  one_caused a event reply caused unfailed = inl unfailed

  -- So a history continues to a failure only if a count of the disk's failures and stops rose.
  pub failed_caused : (history since : List Entry) → AllByRecursion (IsCaused first now) since → (account history).failed ≡ None → (account (history ++ since)).failed ≢ None → rose
  failed_caused history [] caused unfailed failed = absurd (failed (ap (λ (l : List Entry). (account l).failed) (append-nil history) ∙ unfailed))
  failed_caused history (entry ∷ since) caused unfailed failed =
      let same : history ++ entry ∷ since ≡ (history ++ entry ∷ []) ++ since = sym (append_assoc history (entry ∷ []) since) in
      elim (one_caused (account history) entry.event entry.reply caused.0 unfailed) [
        | inl still ↦ failed_caused (history ++ entry ∷ []) since caused.1 (ap (λ (a : Account). a.failed) (account-append history entry) ∙ still)
            (λ none. failed (ap (λ (l : List Entry). (account l).failed) same ∙ none))
        | inr up ↦ up
      ]

first_some : (o : Option ℕ) (n : ℕ) → first_failure o n ≡ None → ⊥
first_some None n is = cc
first_some (Some m) n is = cc

cut_first : (a : Account) (event : Event) → (cut_short a event).failed ≡ first_failure a.failed (a.entries + 1)
cut_first a (Seal s) = refl
cut_first a event = refl

-- a history that has not failed continues only after entries that report no fault
one_uncut : (a : Account) (event : Event) (reply : Reply) → (account_after a (record { event = event; reply = reply })).failed ≡ None → (reply_device reply ≡ Ok tt) × (a.failed ≡ None)
one_uncut a event (Refused DiskFault) is = absurd (first_some a.failed (a.entries + 1) (sym (cut_first a event) ∙ is))
one_uncut a event (Refused Stopped) is = absurd (first_some a.failed (a.entries + 1) (sym (cut_first a event) ∙ is))
one_uncut a event (Refused why) is = (refl, is)
one_uncut a event (Begun n) is = (refl, is)
one_uncut a event (Sealed n) is = (refl, is)
one_uncut a event Aborted is = (refl, is)
one_uncut a event (Durable n) is = (refl, is)
one_uncut a event reply is = (refl, is)

-- and so each of them tells none
pub unfailed_uncut : (history since : List Entry) → (account (history ++ since)).failed ≡ None → ((account history).failed ≡ None) × AllByRecursion IsUncut since
unfailed_uncut history [] is = (sym (ap (λ (l : List Entry). (account l).failed) (append-nil history)) ∙ is, tt)
unfailed_uncut history (entry ∷ since) is =
    let same : history ++ entry ∷ since ≡ (history ++ entry ∷ []) ++ since = sym (append_assoc history (entry ∷ []) since) in
    let rest = unfailed_uncut (history ++ entry ∷ []) since (sym (ap (λ (l : List Entry). (account l).failed) same) ∙ is) in
    let here = one_uncut (account history) entry.event entry.reply (sym (ap (λ (a : Account). a.failed) (account-append history entry)) ∙ rest.0) in
    (here.1, (here.0, rest.1))
