-- What a crash leaves in an event that the disk may cut short: a commit prefix of the core that it leaves then.
use Rattle.std.proofs.Common.{◌≡◌, ◌⊎◌, inl, inr, ℕ, ◌+◌, ◌<◌, ◌≤◌, Bool, true, false, List, [], ◌∷◌, ◌++◌, length, take, Option, None, refl, sym, ap, ◌∙◌, subst, arith, length-append}
use Rattle.std.specs.Prelude.{nat_lt, if◌then◌else◌}
use Rattle.std.specs.Option.{option_to_list}
use Rattle.std.proofs.lemmas.Bool.{lt-ltb, ltb-true}
use Rattle.std.proofs.lemmas.List.{append-nil, take-append-le}
use Rattle.graph_model.specs.declared.event.Event.{Event}
use Rattle.graph_model.specs.declared.event.Event.TheVariants.{Seal}
use Rattle.graph_model.specs.declared.reply.Entry.{Entry}
use Rattle.graph_model.specs.declared.reply.Refusal.{Refusal}
use Rattle.graph_model.specs.declared.reply.Refusal.TheVariants.{DiskFault, Stopped}
use Rattle.graph_model.specs.declared.reply.Reply.{Reply}
use Rattle.graph_model.specs.declared.reply.Reply.TheVariants.{Refused}
use Rattle.graph_model.specs.Plain.{reply_of}
use Rattle.graph_model.specs.Transaction.{Transaction, serial}
use Rattle.graph_model.specs.History.{Account, account, account_after, first_failure, cut_short, commits, acknowledged}
use Rattle.graph_model.proofs.Runs.History.{account-append}
use Rattle.heap_model.specs.Core.{Core, granted_by, with_entry, calls, cut, IsStep}
use Rattle.heap_model.specs.CoreCrash.{IsSuperOf, IsCommitPrefix, HasAtLeast}
use Rattle.heap_model.specs.Image.{StandsFor}
use Rattle.heap_model.specs.Opening.{next_of}
use Rattle.heap_model.proofs.Run.Calls.{after_history, calls-moves, calls-unfailed, same_step}
use Rattle.core_laws.proofs.Crash.Grow.{commits_grow, has_at_least_by, has_at_least_on}
use Rattle.core_laws.proofs.Step.Sound.{sound_valid}
use Rattle.core_laws.specs.Valid.{IsSound}

abbrev committed : Account → List Transaction
committed a = a.sealed ++ option_to_list a.in_doubt

-- An image that stands for a commit prefix of a core does so of one whose history has more commits, and acknowledges no more.
pub prefix_on : (c : Core) (history : List Entry) (more : List Transaction) (image : List ℕ) → commits history ≡ commits c.history ++ more → acknowledged history ≡ acknowledged c.history
    → IsCommitPrefix c image → IsCommitPrefix (record c { history = history }) image
prefix_on c history more image all told kept =
    let k = kept.0 in
    let first = kept.1 in
    let P : List Transaction → Type 0 = λ ts. (stands : StandsFor (serial c.g0 ts) (c.before + k) image) × IsSuperOf stands.stored.super c × (c.first ≤ next_of stands.stored) in
    let same : take k (commits history) ≡ take k (commits c.history) = ap (take k) all ∙ take-append-le k (commits c.history) more first.some in
    let there = subst P (sym same) (first.stands, first.of, first.next) in (
      k,
      record {
        stands = there.0;
        of = record { limits = there.1.limits; pages = there.1.pages; room = there.1.room; first = there.1.first };
        next = there.2;
        kept = subst (λ (n : ℕ). n ≤ k) (sym told) first.kept;
        forced = first.forced;
        some = omega (arith, first.some, ap length all, length-append (commits c.history) more);
      },
    )

-- The history.

-- what a history says of an event that the disk cut short, by a fault or a stop
pub cut_told : (a : Account) (event : Event) (reply : Reply) → (reply ≡ Refused DiskFault) ⊎ (reply ≡ Refused Stopped) → account_after a (record { event = event; reply = reply }) ≡ record (cut_short a event) { entries = a.entries + 1 }
cut_told a event reply (inl told) = ap (λ (r : Reply). account_after a (record { event = event; reply = r })) told
cut_told a event reply (inr told) = ap (λ (r : Reply). account_after a (record { event = event; reply = r })) told

-- apart from what is in doubt that is the failure alone
pub record IsCut (a b : Account) : Type 0 where
  pub active : b.active ≡ a.active
  pub sealed : b.sealed ≡ a.sealed
  pub acknowledged : b.acknowledged ≡ a.acknowledged
  pub failed : b.failed ≡ first_failure a.failed (a.entries + 1)

pub cut_leaves : (a : Account) (event : Event) → IsCut a (cut_short a event)
cut_leaves a (Seal s) = record { active = refl; sealed = refl; acknowledged = refl; failed = refl }
cut_leaves a event = record { active = refl; sealed = refl; acknowledged = refl; failed = refl }

-- so its history says that
cut_account : (history : List Entry) (event : Event) (reply : Reply) → (reply ≡ Refused DiskFault) ⊎ (reply ≡ Refused Stopped)
    → account (history ++ record { event = event; reply = reply } ∷ []) ≡ record (cut_short (account history) event) { entries = (account history).entries + 1 }
cut_account history event reply told = account-append history (record { event = event; reply = reply }) ∙ cut_told (account history) event reply told

cut_commits : (history : List Entry) (event : Event) (reply : Reply) → (reply ≡ Refused DiskFault) ⊎ (reply ≡ Refused Stopped) → commits (history ++ record { event = event; reply = reply } ∷ []) ≡ committed (cut_short (account history) event)
cut_commits history event reply told = ap committed (cut_account history event reply told)

cut_acknowledged : (history : List Entry) (event : Event) (reply : Reply) → (reply ≡ Refused DiskFault) ⊎ (reply ≡ Refused Stopped) → acknowledged (history ++ record { event = event; reply = reply } ∷ []) ≡ acknowledged history
cut_acknowledged history event reply told = ap (λ (a : Account). a.acknowledged) (cut_account history event reply told) ∙ (cut_leaves (account history) event).acknowledged

-- the events that seal nothing
abbrev pub SealsNothing : Event → Type 0
SealsNothing (Seal s) = ⊥
SealsNothing event = Unit {0}

-- leave no commit in doubt
unsealed_commits : (a : Account) (event : Event) → SealsNothing event → committed (cut_short a event) ≡ committed a
unsealed_commits a (Seal s) none = absurd none
unsealed_commits a event none = refl

-- where none was, a seal adds the transaction of its session
doubted : (a : Account) (event : Event) → a.in_doubt ≡ None → (more : List Transaction) × (committed (cut_short a event) ≡ committed a ++ more)
doubted a (Seal s) certain =
    let doubt = option_to_list (a.active s) in
    (doubt, ap (λ (l : List Transaction). l ++ doubt) (sym (append-nil a.sealed) ∙ ap (λ (o : Option Transaction). a.sealed ++ option_to_list o) (sym certain)))
doubted a event certain = ([], sym (append-nil (committed a)))

-- An image at a moment of an event.

-- what stands for a commit prefix of a sound core does so of the one that is left if the event is cut short
pub prefix_cut : (c : Core) (event : Event) (image : List ℕ) → IsSound c → IsCommitPrefix c image → IsCommitPrefix (cut c event) image
prefix_cut c event image sound kept = by (nat_lt 0 (calls c event)) refl
  where
    by : (some : Bool) → nat_lt 0 (calls c event) ≡ some → IsCommitPrefix (if some then with_entry c event (Refused Stopped) else c) image
    by false is = kept
    by true is =
        let valid = sound_valid c sound (calls-unfailed c event (ltb-true 0 (calls c event) is)) in
        let more = doubted (account c.history) event valid.certain in
        prefix_on c (c.history ++ record { event = event; reply = Refused Stopped } ∷ []) more.0 image (cut_commits c.history event (Refused Stopped) (inr refl) ∙ more.1) (cut_acknowledged c.history event (Refused Stopped) (inr refl)) kept

-- it was acknowledged as many
pub acknowledged_cut : (c : Core) (event : Event) → acknowledged (cut c event).history ≡ acknowledged c.history
acknowledged_cut c event = by (nat_lt 0 (calls c event))
  where
    by : (some : Bool) → acknowledged (if some then with_entry c event (Refused Stopped) else c).history ≡ acknowledged c.history
    by true = cut_acknowledged c.history event (Refused Stopped) (inr refl)
    by false = refl

-- where the event seals nothing the two are the same
pub cut_same : (c : Core) (event : Event) (image : List ℕ) → SealsNothing event → IsCommitPrefix (cut c event) image → IsCommitPrefix c image
cut_same c event image none = by (nat_lt 0 (calls c event))
  where
    by : (some : Bool) → IsCommitPrefix (if some then with_entry c event (Refused Stopped) else c) image → IsCommitPrefix c image
    by false kept = kept
    by true kept =
        let d = with_entry c event (Refused Stopped) in
        prefix_on d c.history [] image (sym (cut_commits c.history event (Refused Stopped) (inr refl) ∙ unsealed_commits (account c.history) event none) ∙ sym (append-nil (commits d.history))) (sym (cut_acknowledged c.history event (Refused Stopped) (inr refl))) kept

-- once it is cut short, by a fault or a stop, the image stands for a commit prefix of what is left
pub prefix_left : (c : Core) (event : Event) (reply : Reply) (image : List ℕ) → 0 < calls c event → (reply ≡ Refused DiskFault) ⊎ (reply ≡ Refused Stopped) → IsCommitPrefix (cut c event) image → IsCommitPrefix (with_entry c event reply) image
prefix_left c event reply image some told kept =
    let d = with_entry c event (Refused Stopped) in
    let here = subst (λ (b : Bool). IsCommitPrefix (if b then d else c) image) (lt-ltb 0 (calls c event) some) kept in
    let new = c.history ++ record { event = event; reply = reply } ∷ [] in
    prefix_on d new [] image (cut_commits c.history event reply told ∙ sym (cut_commits c.history event (Refused Stopped) (inr refl)) ∙ sym (append-nil (commits d.history)))
    (cut_acknowledged c.history event reply told ∙ sym (cut_acknowledged c.history event (Refused Stopped) (inr refl))) here

-- Whether it was cut short or not.

-- an event that was granted has committed what is in doubt where it is cut short
granted_seals : (c d : Core) (event : Event) (reply : Reply) → IsSound c → IsStep c event reply d → reply ≡ granted_by c event → d.history ≡ c.history ++ record { event = event; reply = reply } ∷ []
    → (more : List Transaction) × (commits d.history ≡ committed (cut_short (account c.history) event) ++ more)
granted_seals c d (Seal s) reply sound step granted is =
    let a = account c.history in
    (option_to_list a.in_doubt, ap commits is ∙ ap committed (account-append c.history (record { event = Seal s; reply = reply })) ∙ ap (λ (r : Reply). committed (account_after a (record { event = Seal s; reply = r }))) granted)
granted_seals c d event reply sound step granted is =
    let more = commits_grow c d (event ∷ []) sound (reply, d, step, refl) in
    (more.0, more.1)

-- a step leaves a core with all the commits that one has which is cut short
step_commits : (c d : Core) (event : Event) (reply : Reply) → IsSound c → 0 < calls c event → IsStep c event reply d → (more : List Transaction) × (commits d.history ≡ committed (cut_short (account c.history) event) ++ more)
step_commits c d event reply sound some (inr cut) =
    ([], ap (λ (x : Core). commits x.history) cut.1 ∙ cut_commits c.history event reply cut.0.told ∙ sym (append-nil (committed (cut_short (account c.history) event))))
step_commits c d event reply sound some (inl whole) =
    let granted : reply ≡ granted_by c event = whole.0 ∙ ap (λ (o : Option Refusal). reply_of o (granted_by c event)) (calls-moves c event some).1 in
    granted_seals c d event reply sound (inl whole) granted (ap (λ (x : Core). x.history) whole.1 ∙ after_history c event ∙ ap (λ (r : Reply). c.history ++ record { event = event; reply = r } ∷ []) (sym whole.0))

-- so what an image has at a moment of an event it has after it
pub has_cut : (c d : Core) (event : Event) (reply : Reply) (least : ℕ) (image : List ℕ) → IsSound c → IsStep c event reply d → HasAtLeast (cut c event) least image → HasAtLeast d least image
has_cut c d event reply least image sound step = by (nat_lt 0 (calls c event)) refl
  where
    by : (some : Bool) → nat_lt 0 (calls c event) ≡ some → HasAtLeast (if some then with_entry c event (Refused Stopped) else c) least image → HasAtLeast d least image
    by false is has = has_at_least_on c d (event ∷ []) least image sound (reply, d, step, refl) has
    by true is has =
        let same = same_step c d event reply step in
        let more = step_commits c d event reply sound (ltb-true 0 (calls c event) is) step in
        let stopped = with_entry c event (Refused Stopped) in
        has_at_least_by stopped d more.0 least image same.g0 same.before (more.1 ∙ ap (λ (l : List Transaction). l ++ more.0) (sym (cut_commits c.history event (Refused Stopped) (inr refl)))) has
