-- How what transactions hold changes from one entry of a history to the next: a call adds its lock, an end releases all locks of its
-- transaction, and nothing else changes them.
use Rattle.std.proofs.Common.{◌≡◌, ◌≢◌, ◌⊎◌, inl, inr, ℕ, List, [], ◌∷◌, ◌++◌, Option, Some, None, refl, sym, ap, ◌∙◌, subst, arith}
use Rattle.std.specs.Prelude.{◌↔◌, if◌then◌else◌}
use Rattle.std.specs.List.{Contains}
use Rattle.std.specs.Option.{option_to_list}
use Rattle.std.proofs.lemmas.Bool.{cases_eq, eq-eqb, ne_eqb}
use Rattle.std.proofs.lemmas.Option.{same_Some}
use Rattle.std.proofs.lemmas.List.Elements.{Contains-append_left, Contains-append_right, Contains-append_cases}
use Rattle.graph_model.specs.declared.id.Id.{Id}
use Rattle.graph_model.specs.declared.event.Event.{Event}
use Rattle.graph_model.specs.declared.reply.Entry.{Entry}
use Rattle.graph_model.specs.declared.reply.Reply.TheVariants.{Begun, Sealed, Aborted}
use Rattle.graph_model.specs.Graph.{Graph}
use Rattle.graph_model.specs.Transaction.{Transaction, fresh_view, run, serial}
use Rattle.graph_model.specs.History.{Account, account, session_of, with_active, with_call, makes_call}
use Rattle.graph_model.proofs.Runs.History.{account-append, account_after-call, serial-append}
use Rattle.graph_model.specs.Plain.{view}
use Rattle.graph_model.specs.Locking.{Mode, Lock, lock_of, locks_of, HoldsLock}
use Rattle.commit_order.proofs.CallLaws.{Contains-Some, Contains-option}
use Rattle.commit_order.proofs.LockingLaws.{locks_of_calls-append, runs_alike}
use Rattle.commit_order.proofs.OrderLaws.{changed, two_phase_ordered}
use Rattle.commit_order.specs.SerialOrder.{IsCallOf, IsTwoPhase, HasPlainReplies}

-- in b transaction n holds what it holds in a and this lock, if there is one, and the others hold what they hold in a
abbrev pub AddsLock : Graph → Account → Account → ℕ → Option Lock → Type 0
AddsLock g0 a b n lock = (m : ℕ) (id : Id) (mode : Mode) → HoldsLock g0 b m id mode ↔ (HoldsLock g0 a m id mode ⊎ ((m ≡ n) × (lock ≡ Some (id, mode))))

-- in b transaction n holds nothing, and the others hold what they hold in a
abbrev pub Releases : Graph → Account → Account → ℕ → Type 0
Releases g0 a b n = (m : ℕ) (id : Id) (mode : Mode) → HoldsLock g0 b m id mode ↔ ((m ≢ n) × HoldsLock g0 a m id mode)

-- in b all hold what they hold in a
abbrev pub HoldAlike : Graph → Account → Account → Type 0
HoldAlike g0 a b = (m : ℕ) (id : Id) (mode : Mode) → HoldsLock g0 b m id mode ↔ HoldsLock g0 a m id mode

own_session : (active : ℕ → Option Transaction) (s : ℕ) (x : Option Transaction) → with_active active s x s ≡ x
own_session active s x = ap (λ b. if b then x else active s) (eq-eqb s s refl)

other_session : (active : ℕ → Option Transaction) (s : ℕ) (x : Option Transaction) (r : ℕ) → (r ≢ s) → with_active active s x r ≡ active r
other_session active s x r other = ap (λ b. if b then x else active r) (ne_eqb r s other)

-- Where the same transactions are active and sealed, all hold what they held: entries that are refused, and those that bring the log to the
-- disk, change neither.
pub same_holds : (g0 : Graph) (a b : Account) → b.active ≡ a.active → b.sealed ≡ a.sealed → HoldAlike g0 a b
same_holds g0 a b active sealed =
    let P : List Transaction → Type 0 = λ ts. HoldAlike g0 a (record b { sealed = ts }) in
    let Q : (ℕ → Option Transaction) → Type 0 = λ f. HoldAlike g0 a (record b { active = f; sealed = a.sealed }) in
    subst P (sym sealed) (subst Q (sym active) (λ m id mode. (
      λ holds. record { session = holds.session; transaction = holds.transaction; active = holds.active; number = holds.number; lock = holds.lock },
      λ holds. record { session = holds.session; transaction = holds.transaction; active = holds.active; number = holds.number; lock = holds.lock },
    )))

-- A call adds the lock that it needs.
pub adds_lock : (g0 : Graph) (a : Account) (s : ℕ) (t : Transaction) (event : Event) → a.active s ≡ Some t → AddsLock g0 a (makes_call a s event) t.number (lock_of (view g0 a t).registers event)
adds_lock g0 a s t event is m id mode =
    let next : Transaction = record { number = t.number; calls = t.calls ++ event ∷ [] } in
    let now : with_call (a.active s) event ≡ Some next = ap (λ o. with_call o event) is in
    let g = serial g0 a.sealed in
    let lock = lock_of (view g0 a t).registers event in
    let more = locks_of_calls-append (fresh_view g) t.number t.calls event in (
      λ holds. elim (changed a.active s (with_call (a.active s) event) holds.session holds.transaction holds.active) [
        | inl own ↦
            let u : next ≡ holds.transaction = same_Some next holds.transaction (sym now ∙ own.1) in
            let number : m ≡ t.number = sym holds.number ∙ sym (ap (λ (x : Transaction). x.number) u) in
            let there = subst (λ ls. Contains ls (id, mode)) (ap (locks_of g) (sym u) ∙ more) holds.lock in
            elim (Contains-append_cases (locks_of g t) (option_to_list lock) (id, mode) there) [
              | inl before ↦ inl (record { session = s; transaction = t; active = is; number = sym number; lock = before })
              | inr new ↦ inr (number, Contains-option lock (id, mode) new)
            ]
        | inr other ↦ inl (record { session = holds.session; transaction = holds.transaction; active = other.1; number = holds.number; lock = holds.lock })
      ],
      λ either. elim either [
        | inl holds ↦ elim (cases_eq holds.session s) [
          | inl own ↦
              let u : holds.transaction ≡ t = same_Some holds.transaction t (sym holds.active ∙ ap a.active own ∙ is) in
              record {
                session = s;
                transaction = next;
                active = own_session a.active s (with_call (a.active s) event) ∙ now;
                number = sym (ap (λ (x : Transaction). x.number) u) ∙ holds.number;
                lock = subst (λ ls. Contains ls (id, mode)) (sym more)
                    (Contains-append_left (locks_of g t) (option_to_list lock) (id, mode) (subst (λ x. Contains (locks_of g x) (id, mode)) u holds.lock));
              }
          | inr other ↦ record {
            session = holds.session;
            transaction = holds.transaction;
            active = other_session a.active s (with_call (a.active s) event) holds.session other ∙ holds.active;
            number = holds.number;
            lock = holds.lock;
          }
        ]
        | inr new ↦ record {
          session = s;
          transaction = next;
          active = own_session a.active s (with_call (a.active s) event) ∙ now;
          number = sym new.0;
          lock = subst (λ ls. Contains ls (id, mode)) (sym more) (Contains-append_right (locks_of g t) (option_to_list lock) (id, mode) (Contains-Some lock (id, mode) new.1));
        }
      ],
    )

pub call_holds : (g0 : Graph) (history : List Entry) (e : Entry) (t : Transaction) → IsCallOf history e t
    → AddsLock g0 (account history) (account (history ++ e ∷ [])) t.number (lock_of (view g0 (account history) t).registers e.event)
call_holds g0 history e t own =
    let a = account history in
    let lock = lock_of (view g0 a t).registers e.event in
    let added = adds_lock g0 a (session_of e.event) t e.event own.active in
    let P : Account → Type 0 = λ b. AddsLock g0 a b t.number lock in
    subst P (sym (account-append history e ∙ account_after-call a e.event e.reply own.answered)) (λ m id mode. (
      λ holds. (added m id mode).0 (record { session = holds.session; transaction = holds.transaction; active = holds.active; number = holds.number; lock = holds.lock }),
      λ either. let holds = (added m id mode).1 either in record { session = holds.session; transaction = holds.transaction; active = holds.active; number = holds.number; lock = holds.lock },
    ))

-- A transaction that begins holds nothing, and changes nothing of what others hold.
pub begin_holds : (g0 : Graph) (history : List Entry) (event : Event) (n : ℕ) → (account history).active (session_of event) ≡ None
    → HoldAlike g0 (account history) (account (history ++ record { event = event; reply = Begun n } ∷ []))
begin_holds g0 history event n none =
    let a = account history in
    let s = session_of event in
    let e : Entry = record { event = event; reply = Begun n } in
    let t : Transaction = record { number = n; calls = [] } in
    subst (HoldAlike g0 a) (sym (account-append history e)) (λ m id mode. (
      λ holds. elim (changed a.active s (Some t) holds.session holds.transaction holds.active) [
        | inl own ↦ let nothing = subst (λ x. Contains (locks_of (serial g0 a.sealed) x) (id, mode)) (sym (same_Some t holds.transaction own.1)) holds.lock in absurd (omega (arith, nothing.1))
        | inr other ↦ record { session = holds.session; transaction = holds.transaction; active = other.1; number = holds.number; lock = holds.lock }
      ],
      λ holds. record {
        session = holds.session;
        transaction = holds.transaction;
        active = other_session a.active s (Some t) holds.session (λ own. let some = sym holds.active ∙ ap a.active own ∙ none in cc) ∙ holds.active;
        number = holds.number;
        lock = holds.lock;
      },
    ))

-- A transaction that is aborted releases all that it holds, and of nothing else.
pub abort_holds : (g0 : Graph) (history : List Entry) (event : Event) (t : Transaction) → HasPlainReplies g0 history → IsTwoPhase g0 history → (account history).active (session_of event) ≡ Some t
    → Releases g0 (account history) (account (history ++ record { event = event; reply = Aborted } ∷ [])) t.number
abort_holds g0 history event t plain two_phase is =
    let a = account history in
    let s = session_of event in
    let o = two_phase_ordered g0 history plain two_phase in
    let e : Entry = record { event = event; reply = Aborted } in
    let P : Account → Type 0 = λ b. Releases g0 a b t.number in
    subst P (sym (account-append history e)) (λ m id mode. (
      λ holds. elim (changed a.active s None holds.session holds.transaction holds.active) [
        | inl gone ↦ cc
        | inr other ↦ (
          λ same. (o.beside holds.session s holds.transaction t other.0 other.1 is).differ (holds.number ∙ same),
          record { session = holds.session; transaction = holds.transaction; active = other.1; number = holds.number; lock = holds.lock },
        )
      ],
      λ both. let holds = both.1 in record {
        session = holds.session;
        transaction = holds.transaction;
        active = other_session a.active s None holds.session
            (λ own. both.0 (sym holds.number ∙ ap (λ (x : Transaction). x.number) (same_Some holds.transaction t (sym holds.active ∙ ap a.active own ∙ is)))) ∙ holds.active;
        number = holds.number;
        lock = holds.lock;
      },
    ))

-- So does one that is sealed: on what it leaves the others hold what they held.
pub seal_holds : (g0 : Graph) (history : List Entry) (event : Event) (k : ℕ) (t : Transaction) → HasPlainReplies g0 history → IsTwoPhase g0 history → (account history).active (session_of event) ≡ Some t
    → Releases g0 (account history) (account (history ++ record { event = event; reply = Sealed k } ∷ [])) t.number
seal_holds g0 history event k t plain two_phase is =
    let a = account history in
    let s = session_of event in
    let o = two_phase_ordered g0 history plain two_phase in
    let g = serial g0 a.sealed in
    let e : Entry = record { event = event; reply = Sealed k } in
    let after : serial g0 (a.sealed ++ option_to_list (a.active s)) ≡ (run g t).graph = ap (λ x. serial g0 (a.sealed ++ option_to_list x)) is ∙ serial-append g0 a.sealed t in
    let alike = λ (r : ℕ) (u : Transaction) (other : s ≢ r) (also : a.active r ≡ Some u).
    let b = o.beside s r t u other is also in (runs_alike g t u o.closed (λ same. b.differ (sym same)) (o.unused s t is) b.apart).locks ∙ ap (λ h. locks_of h u) (sym after) in
    let P : Account → Type 0 = λ b. Releases g0 a b t.number in
    subst P (sym (account-append history e)) (λ m id mode. (
      λ holds. elim (changed a.active s None holds.session holds.transaction holds.active) [
        | inl gone ↦ cc
        | inr other ↦ (
          λ same. (o.beside holds.session s holds.transaction t other.0 other.1 is).differ (holds.number ∙ same),
          record {
            session = holds.session;
            transaction = holds.transaction;
            active = other.1;
            number = holds.number;
            lock = subst (λ ls. Contains ls (id, mode)) (sym (alike holds.session holds.transaction (λ own. other.0 (sym own)) other.1)) holds.lock;
          },
        )
      ],
      λ both.
          let holds = both.1 in
          let apart : holds.session ≢ s = λ own. both.0 (sym holds.number ∙ ap (λ (x : Transaction). x.number) (same_Some holds.transaction t (sym holds.active ∙ ap a.active own ∙ is))) in
          record {
            session = holds.session;
            transaction = holds.transaction;
            active = other_session a.active s None holds.session apart ∙ holds.active;
            number = holds.number;
            lock = subst (λ ls. Contains ls (id, mode)) (alike holds.session holds.transaction (λ own. apart (sym own)) holds.active) holds.lock;
          },
    ))
