-- Strict two-phase locking gives commit order: the proof, one entry after another.
use Rattle.std.proofs.Common.{◌≡◌, ◌≢◌, ◌⊎◌, inl, inr, ℕ, ◌+◌, true, false, List, [], ◌∷◌, ◌++◌, Option, Some, None, refl, sym, ap, ◌∙◌, subst, arith, append_assoc}
use Rattle.std.specs.Prelude.{◌==◌, if◌then◌else◌, max}
use Rattle.std.specs.List.{cons_option, Contains}
use Rattle.std.specs.Option.{option_map, option_to_list}
use Rattle.std.proofs.lemmas.Bool.{eqb-true, eqb-false}
use Rattle.std.proofs.lemmas.Option.{same_Some}
use Rattle.std.proofs.lemmas.List.{append-nil}
use Rattle.std.proofs.lemmas.List.Elements.{Contains-append_left, Contains-append_cases, Contains-push, filter_map-append}
use Rattle.std.proofs.lemmas.List.Sums.{fold-append}
use Rattle.graph_model.specs.declared.event.Event.{Event}
use Rattle.graph_model.specs.declared.event.Event.TheVariants.{Seal}
use Rattle.graph_model.specs.declared.reply.Entry.{Entry}
use Rattle.graph_model.specs.declared.reply.Refusal.TheVariants.{DiskFault, Stopped}
use Rattle.graph_model.specs.declared.reply.Reply.{Reply}
use Rattle.graph_model.specs.declared.reply.Reply.TheVariants.{Begun, Sealed, Aborted, Durable, Flipped, Collecting, Scanned, Collected, Idle, Flushed, Clean, Refused}
use Rattle.graph_model.specs.Graph.{Graph}
use Rattle.graph_model.specs.ClosedGraph.{IsClosed, IsUnused}
use Rattle.graph_model.proofs.Whole.Closed.{run-SeesClosed, run-IsUnused}
use Rattle.graph_model.specs.Transaction.{Transaction, call, fresh_view, replies, run, serial, serial_replies}
use Rattle.graph_model.specs.History.{Account, account, account_after, nothing_yet, session_of, with_active, with_call, cut_short}
use Rattle.graph_model.specs.Replies.{IsCallReply}
use Rattle.graph_model.proofs.Runs.History.{account-append, call_replies-append, serial-append}
use Rattle.graph_model.specs.Plain.{view}
use Rattle.commit_order.specs.Heard.{Heard, nothing_heard, with_replies, with_reply, hear_cut, hear, heard_in}
use Rattle.graph_model.specs.Locking.{lock_of, locks_of, IsFree}
use Rattle.commit_order.proofs.CallLaws.{Conflict-sym, Contains-option}
use Rattle.commit_order.proofs.LockingLaws.{AreApart, AreApart-sym, locks_of_calls-append, runs_alike}
use Rattle.commit_order.specs.SerialOrder.{RefusesConflicts, AnswersByView, BeginsAnew, begun_number, numbers_begun, IsTwoPhase, HasPlainReplies}

-- Two active transactions have different numbers, and hold nothing in conflict.
pub record IsBeside (g : Graph) (t u : Transaction) : Type 0 where
  pub differ : t.number ≢ u.number
  pub apart : AreApart (locks_of g t) (locks_of g u)

-- What holds at each place of a history under two-phase locking, by the numbers begun, by what it said and by what was heard so far.
pub record IsOrdered (g0 : Graph) (numbers : List ℕ) (a : Account) (heard : Heard) : Type 0 where
  pub closed : IsClosed (serial g0 a.sealed)
  pub fresh : (n : ℕ) → IsUnused g0 n → (Contains numbers n → ⊥) → IsUnused (serial g0 a.sealed) n
  pub begun : (s : ℕ) (t : Transaction) → a.active s ≡ Some t → Contains numbers t.number
  pub unused : (s : ℕ) (t : Transaction) → a.active s ≡ Some t → IsUnused (serial g0 a.sealed) t.number
  pub beside : (s r : ℕ) (t u : Transaction) → s ≢ r → a.active s ≡ Some t → a.active r ≡ Some u → IsBeside (serial g0 a.sealed) t u
  pub sealed : heard.sealed ≡ serial_replies g0 a.sealed
  pub active : (s : ℕ) → heard.active s ≡ option_map (replies (serial g0 a.sealed)) (a.active s)

-- what the account keeps beside does not matter
recounted : (g0 : Graph) (numbers : List ℕ) (a : Account) (heard : Heard) (begun acknowledged entries : ℕ) → IsOrdered g0 numbers a heard
    → IsOrdered g0 numbers (record a { begun = begun; acknowledged = acknowledged; entries = entries }) heard
recounted g0 numbers a heard begun acknowledged entries o = record {
  closed = o.closed;
  fresh = o.fresh;
  begun = o.begun;
  unused = o.unused;
  beside = o.beside;
  sealed = o.sealed;
  active = o.active;
}

-- more numbers
grown : (g0 : Graph) (numbers more : List ℕ) (a : Account) (heard : Heard) → IsOrdered g0 numbers a heard → IsOrdered g0 (numbers ++ more) a heard
grown g0 numbers more a heard o = record {
  closed = o.closed;
  fresh = λ n none new. o.fresh n none (λ there. new (Contains-append_left numbers more n there));
  begun = λ s t is. Contains-append_left numbers more t.number (o.begun s t is);
  unused = o.unused;
  beside = o.beside;
  sealed = o.sealed;
  active = o.active;
}

-- the transaction of a session where that of session s was changed
pub changed : (active : ℕ → Option Transaction) (s : ℕ) (x : Option Transaction) (r : ℕ) (t : Transaction) → with_active active s x r ≡ Some t → ((r ≡ s) × (x ≡ Some t)) ⊎ ((r ≢ s) × (active r ≡ Some t))
changed active s x r t is =
    elim (r == s) as (λ b. (r == s) ≡ b → (if b then x else active r) ≡ Some t → ((r ≡ s) × (x ≡ Some t)) ⊎ ((r ≢ s) × (active r ≡ Some t))) [
      | true ↦ λ same now. inl (eqb-true r s same, now)
      | false ↦ λ other was. inr (eqb-false r s other, was)
    ] refl is

-- the replies of a session's transaction where those of session s were changed
changed_replies : (f : Transaction → List Reply) (told : ℕ → Option (List Reply)) (active : ℕ → Option Transaction) (s : ℕ) (own : Option (List Reply)) (x : Option Transaction) → own ≡ option_map f x
    → ((r : ℕ) → r ≢ s → told r ≡ option_map f (active r)) → (r : ℕ) → with_replies told s own r ≡ option_map f (with_active active s x r)
changed_replies f told active s own x now others r =
    elim (r == s) as (λ b. (r == s) ≡ b → (if b then own else told r) ≡ option_map f (if b then x else active r)) [
      | true ↦ λ same. now
      | false ↦ λ other. others r (eqb-false r s other)
    ] refl

beside_sym : (g : Graph) (t u : Transaction) → IsBeside g t u → IsBeside g u t
beside_sym g t u b = record { differ = λ same. b.differ (sym same); apart = AreApart-sym (locks_of g t) (locks_of g u) b.apart }

-- What is required of the transaction that session s has next.
record MayFollow (g0 : Graph) (numbers : List ℕ) (a : Account) (s : ℕ) (t : Transaction) : Type 0 where
  begun : Contains numbers t.number
  unused : IsUnused (serial g0 a.sealed) t.number
  beside : (r : ℕ) (u : Transaction) → s ≢ r → a.active r ≡ Some u → IsBeside (serial g0 a.sealed) t u

-- session s has another transaction, or none
updated : (g0 : Graph) (numbers : List ℕ) (a : Account) (heard : Heard) (s : ℕ) (x : Option Transaction) (own : Option (List Reply)) → own ≡ option_map (replies (serial g0 a.sealed)) x
    → ((t : Transaction) → x ≡ Some t → MayFollow g0 numbers a s t) → IsOrdered g0 numbers a heard
    → IsOrdered g0 numbers (record a { active = with_active a.active s x }) (record heard { active = with_replies heard.active s own })
updated g0 numbers a heard s x own told may o = record {
  closed = o.closed;
  fresh = o.fresh;
  begun = λ r t is. elim (changed a.active s x r t is) [ inl now ↦ (may t now.1).begun | inr was ↦ o.begun r t was.1 ];
  unused = λ r t is. elim (changed a.active s x r t is) [ inl now ↦ (may t now.1).unused | inr was ↦ o.unused r t was.1 ];
  beside = λ q r t u other first second.
      elim (changed a.active s x q t first) [
        | inl now ↦ elim (changed a.active s x r u second) [
          | inl also ↦ absurd (other (now.0 ∙ sym also.0))
          | inr was ↦ (may t now.1).beside r u (λ same. was.0 (sym same)) was.1
        ]
        | inr was ↦ elim (changed a.active s x r u second) [
          | inl now ↦ beside_sym (serial g0 a.sealed) u t ((may u now.1).beside q t (λ same. was.0 (sym same)) was.1)
          | inr also ↦ o.beside q r t u other was.1 also.1
        ]
      ];
  sealed = o.sealed;
  active = changed_replies (replies (serial g0 a.sealed)) heard.active a.active s own x told (λ r other. o.active r);
}

-- session s no longer has a transaction
ended : (g0 : Graph) (numbers : List ℕ) (a : Account) (heard : Heard) (s : ℕ) → IsOrdered g0 numbers a heard
    → IsOrdered g0 numbers (record a { active = with_active a.active s None }) (record heard { active = with_replies heard.active s None })
ended g0 numbers a heard s o = updated g0 numbers a heard s None None refl (λ t is. cc) o

-- the replies of one more transaction
pub serial_replies-append : (g : Graph) (ts : List Transaction) (t : Transaction) → serial_replies g (ts ++ t ∷ []) ≡ serial_replies g ts ++ replies (serial g ts) t ∷ []
serial_replies-append g [] t = refl
serial_replies-append g (u ∷ ts) t = ap (λ (l : List (List Reply)). replies g u ∷ l) (serial_replies-append (run g u).graph ts t)

-- the replies of a transaction that is beside one that is sealed
same_replies : (g h : Graph) (x : Option Transaction) → ((u : Transaction) → x ≡ Some u → replies g u ≡ replies h u) → option_map (replies g) x ≡ option_map (replies h) x
same_replies g h None same = refl
same_replies g h (Some u) same = ap Some (same u refl)

-- A transaction of session s is sealed: this does not change what the others see.
sealed_ordered : (g0 : Graph) (numbers : List ℕ) (a : Account) (heard : Heard) (s : ℕ) (t : Transaction) → a.active s ≡ Some t → IsOrdered g0 numbers a heard
    → IsOrdered g0 numbers (record a { active = with_active a.active s None; sealed = a.sealed ++ t ∷ [] }) (record heard { active = with_replies heard.active s None; sealed = heard.sealed ++ replies (serial g0 a.sealed) t ∷ [] })
sealed_ordered g0 numbers a heard s t is o =
    let g = serial g0 a.sealed in
    let h = serial g0 (a.sealed ++ t ∷ []) in
    let same : h ≡ (run g t).graph = serial-append g0 a.sealed t in
    let alike = λ (r : ℕ) (u : Transaction) (other : s ≢ r) (also : a.active r ≡ Some u).
    let b = o.beside s r t u other is also in runs_alike g t u o.closed (λ e. b.differ (sym e)) (o.unused s t is) b.apart in
    record {
      closed = subst IsClosed (sym same) (run-SeesClosed g t o.closed).graph;
      fresh = λ n none new.
          subst (λ k. IsUnused k n) (sym same) (run-IsUnused g t n o.closed (λ e. new (subst (Contains numbers) (sym e) (o.begun s t is))) (o.fresh n none new));
      begun = λ r u now. elim (changed a.active s None r u now) [ inl gone ↦ cc | inr was ↦ o.begun r u was.1 ];
      unused = λ r u now. elim (changed a.active s None r u now) [
        | inl gone ↦ cc
        | inr was ↦ subst (λ k. IsUnused k u.number) (sym same)
            (run-IsUnused g t u.number o.closed (λ e. (o.beside s r t u (λ x. was.0 (sym x)) is was.1).differ (sym e)) (o.unused r u was.1))
      ];
      beside = λ q r u v other first second. elim (changed a.active s None q u first) [
        | inl gone ↦ cc
        | inr was ↦ elim (changed a.active s None r v second) [
          | inl gone ↦ cc
          | inr also ↦
              let b = o.beside q r u v other was.1 also.1 in
              let one = (alike q u (λ x. was.0 (sym x)) was.1).locks ∙ ap (λ k. locks_of k u) (sym same) in
              let two = (alike r v (λ x. also.0 (sym x)) also.1).locks ∙ ap (λ k. locks_of k v) (sym same) in
              record { differ = b.differ; apart = subst (λ ls. AreApart ls (locks_of h v)) one (subst (λ ms. AreApart (locks_of g u) ms) two b.apart) }
        ]
      ];
      sealed = ap (λ l. l ++ replies g t ∷ []) o.sealed ∙ sym (serial_replies-append g0 a.sealed t);
      active = changed_replies (replies h) heard.active a.active s None None refl (λ r other.
          o.active r ∙ same_replies g h (a.active r) (λ u also. (alike r u (λ x. other (sym x)) also).answers ∙ ap (λ k. replies k u) (sym same)));
    }

-- a session's transaction is sealed, if it has one
seal_ordered : (g0 : Graph) (numbers : List ℕ) (a : Account) (heard : Heard) (s : ℕ) (x : Option Transaction) (own : Option (List Reply)) → a.active s ≡ x → own ≡ option_map (replies (serial g0 a.sealed)) x
    → IsOrdered g0 numbers a heard
    → IsOrdered g0 numbers (record a { active = with_active a.active s None; sealed = a.sealed ++ option_to_list x }) (record heard { active = with_replies heard.active s None; sealed = heard.sealed ++ option_to_list own })
seal_ordered g0 numbers a heard s None own is told o =
    let P : List Transaction → List (List Reply) → Type 0 = λ ts rs. IsOrdered g0 numbers (record a { active = with_active a.active s None; sealed = ts }) (record heard { active = with_replies heard.active s None; sealed = rs }) in
    subst (λ p. P (a.sealed ++ []) (heard.sealed ++ option_to_list p)) (sym told)
    (subst (λ ts. P ts (heard.sealed ++ [])) (sym (append-nil a.sealed)) (subst (P a.sealed) (sym (append-nil heard.sealed)) (ended g0 numbers a heard s o)))
seal_ordered g0 numbers a heard s (Some t) own is told o =
    subst (λ p. IsOrdered g0 numbers (record a { active = with_active a.active s None; sealed = a.sealed ++ t ∷ [] }) (record heard { active = with_replies heard.active s None; sealed = heard.sealed ++ option_to_list p }))
    (sym told) (sealed_ordered g0 numbers a heard s t is o)

-- a transaction begins
begin_ordered : (g0 : Graph) (numbers : List ℕ) (a : Account) (heard : Heard) (s n : ℕ) → (Contains numbers n → ⊥) → IsUnused g0 n → IsOrdered g0 numbers a heard
    → IsOrdered g0 (numbers ++ n ∷ []) (record a { active = with_active a.active s (Some (record { number = n; calls = [] })) }) (record heard { active = with_replies heard.active s (Some []) })
begin_ordered g0 numbers a heard s n new none o =
    let t : Transaction = record { number = n; calls = [] } in
    updated g0 (numbers ++ n ∷ []) a heard s (Some t) (Some []) refl (λ u is. subst (MayFollow g0 (numbers ++ n ∷ []) a s) (same_Some t u is) (record {
      begun = Contains-push numbers n;
      unused = o.fresh n none new;
      beside = λ r v other also. record {
        differ = λ same. new (subst (Contains numbers) (sym same) (o.begun r v also));
        apart = λ id m k here there conflict. absurd (omega (arith, here.1));
      };
    })) (grown g0 numbers (n ∷ []) a heard o)

-- the lock of a call that conflicts with no other's is apart from what others hold
call_apart : (g0 : Graph) (a : Account) (t : Transaction) (event : Event) (r : ℕ) (u : Transaction) → a.active r ≡ Some u → IsFree g0 a t.number (lock_of (view g0 a t).registers event) → IsBeside (serial g0 a.sealed) t u
    → AreApart (locks_of (serial g0 a.sealed) (record { number = t.number; calls = t.calls ++ event ∷ [] })) (locks_of (serial g0 a.sealed) u)
call_apart g0 a t event r u also free b =
    let g = serial g0 a.sealed in
    let lock = lock_of (view g0 a t).registers event in
    subst (λ ls. AreApart ls (locks_of g u)) (sym (locks_of_calls-append (fresh_view g) t.number t.calls event)) (λ id m n here there conflict.
    elim (Contains-append_cases (locks_of g t) (option_to_list lock) (id, m) here) [
      | inl before ↦ b.apart id m n before there conflict
      | inr now ↦
          let own = subst (IsFree g0 a t.number) (Contains-option lock (id, m) now) free in
          own u.number (record {
            differs = λ same. b.differ (sym same);
            mode = n;
            holds = record { session = r; transaction = u; active = also; number = refl; lock = there };
            conflicts = Conflict-sym m n conflict;
          })
    ])

-- a transaction makes a call
call_ordered : (g0 : Graph) (numbers : List ℕ) (a : Account) (heard : Heard) (s : ℕ) (event : Event) (reply : Reply) (x : Option Transaction) → a.active s ≡ x
    → ((t : Transaction) → x ≡ Some t → IsFree g0 a t.number (lock_of (view g0 a t).registers event)) → ((t : Transaction) → x ≡ Some t → reply ≡ (call (view g0 a t) t.number event).reply)
    → IsOrdered g0 numbers a heard
    → IsOrdered g0 numbers (record a { active = with_active a.active s (with_call x event) }) (record heard { active = with_replies heard.active s (option_map (with_reply reply) (heard.active s)) })
call_ordered g0 numbers a heard s event reply None is free answered o =
    updated g0 numbers a heard s None _ (ap (option_map (with_reply reply)) (o.active s ∙ ap (option_map (replies (serial g0 a.sealed))) is)) (λ t never. cc) o
call_ordered g0 numbers a heard s event reply (Some t) is free answered o =
    let g = serial g0 a.sealed in
    let next : Transaction = record { number = t.number; calls = t.calls ++ event ∷ [] } in
    updated g0 numbers a heard s (Some next) _
    (ap (option_map (with_reply reply)) (o.active s ∙ ap (option_map (replies g)) is)
    ∙ ap (λ r. Some (replies g t ++ r ∷ [])) (answered t refl)
    ∙ ap Some (sym (call_replies-append (fresh_view g) t.number t.calls event)))
    (λ u same. subst (MayFollow g0 numbers a s) (same_Some next u same) (record {
      begun = o.begun s t is;
      unused = o.unused s t is;
      beside = λ r v other also.
          let b = o.beside s r t v other is also in
          record { differ = b.differ; apart = call_apart g0 a t event r v also (free t refl) b };
    })) o

-- the disk fails or stops in an event
cut_ordered : (g0 : Graph) (numbers : List ℕ) (a : Account) (heard : Heard) (event : Event) → IsOrdered g0 numbers a heard → IsOrdered g0 numbers (cut_short a event) (hear_cut heard event)
cut_ordered g0 numbers a heard (Seal s) o = record {
  closed = o.closed;
  fresh = o.fresh;
  begun = o.begun;
  unused = o.unused;
  beside = o.beside;
  sealed = o.sealed;
  active = o.active;
}
cut_ordered g0 numbers a heard event o = record {
  closed = o.closed;
  fresh = o.fresh;
  begun = o.begun;
  unused = o.unused;
  beside = o.beside;
  sealed = o.sealed;
  active = o.active;
}

-- What is required of an entry at its place.
record IsAsked (g0 : Graph) (numbers : List ℕ) (a : Account) (event : Event) (reply : Reply) : Type 0 where
  locked : IsCallReply reply → (t : Transaction) → a.active (session_of event) ≡ Some t → IsFree g0 a t.number (lock_of (view g0 a t).registers event)
  answered : IsCallReply reply → (t : Transaction) → a.active (session_of event) ≡ Some t → reply ≡ (call (view g0 a t) t.number event).reply
  numbered : (n : ℕ) → reply ≡ Begun n → (Contains numbers n → ⊥) × IsUnused g0 n

-- One more entry.
entry_ordered : (g0 : Graph) (numbers : List ℕ) (a : Account) (heard : Heard) (event : Event) (reply : Reply) → IsAsked g0 numbers a event reply → IsOrdered g0 numbers a heard
    → IsOrdered g0 (numbers ++ option_to_list (begun_number reply)) (account_after a (record { event = event; reply = reply })) (hear heard event reply)
entry_ordered g0 numbers a heard event (Begun n) asked o =
    let new = asked.numbered n refl in
    recounted g0 (numbers ++ n ∷ []) _ _ (a.begun + 1) a.acknowledged (a.entries + 1) (begin_ordered g0 numbers a heard (session_of event) n new.0 new.1 o)
entry_ordered g0 numbers a heard event (Sealed n) asked o =
    let s = session_of event in
    recounted g0 (numbers ++ []) _ _ a.begun a.acknowledged (a.entries + 1)
    (grown g0 numbers [] _ _ (seal_ordered g0 numbers a heard s (a.active s) (heard.active s) refl (o.active s) o))
entry_ordered g0 numbers a heard event Aborted asked o =
    recounted g0 (numbers ++ []) _ _ a.begun a.acknowledged (a.entries + 1) (grown g0 numbers [] _ _ (ended g0 numbers a heard (session_of event) o))
entry_ordered g0 numbers a heard event (Durable n) asked o =
    recounted g0 (numbers ++ []) a heard a.begun (max a.acknowledged n) (a.entries + 1) (grown g0 numbers [] a heard o)
entry_ordered g0 numbers a heard event (Flipped objects words) asked o =
    recounted g0 (numbers ++ []) a heard a.begun a.acknowledged (a.entries + 1) (grown g0 numbers [] a heard o)
entry_ordered g0 numbers a heard event Collecting asked o =
    recounted g0 (numbers ++ []) a heard a.begun a.acknowledged (a.entries + 1) (grown g0 numbers [] a heard o)
entry_ordered g0 numbers a heard event (Scanned page objects words) asked o =
    recounted g0 (numbers ++ []) a heard a.begun a.acknowledged (a.entries + 1) (grown g0 numbers [] a heard o)
entry_ordered g0 numbers a heard event (Collected used) asked o =
    recounted g0 (numbers ++ []) a heard a.begun a.acknowledged (a.entries + 1) (grown g0 numbers [] a heard o)
entry_ordered g0 numbers a heard event Idle asked o =
    recounted g0 (numbers ++ []) a heard a.begun a.acknowledged (a.entries + 1) (grown g0 numbers [] a heard o)
entry_ordered g0 numbers a heard event (Flushed page) asked o =
    recounted g0 (numbers ++ []) a heard a.begun a.acknowledged (a.entries + 1) (grown g0 numbers [] a heard o)
entry_ordered g0 numbers a heard event (Clean page) asked o =
    recounted g0 (numbers ++ []) a heard a.begun a.acknowledged (a.entries + 1) (grown g0 numbers [] a heard o)
entry_ordered g0 numbers a heard event (Refused DiskFault) asked o =
    recounted g0 (numbers ++ []) _ _ _ _ _ (grown g0 numbers [] _ _ (cut_ordered g0 numbers a heard event o))
entry_ordered g0 numbers a heard event (Refused Stopped) asked o =
    recounted g0 (numbers ++ []) _ _ _ _ _ (grown g0 numbers [] _ _ (cut_ordered g0 numbers a heard event o))
entry_ordered g0 numbers a heard event (Refused why) asked o =
    recounted g0 (numbers ++ []) a heard a.begun a.acknowledged (a.entries + 1) (grown g0 numbers [] a heard o)
entry_ordered g0 numbers a heard event reply asked o =
    let s = session_of event in
    recounted g0 (numbers ++ []) _ _ a.begun a.acknowledged (a.entries + 1)
    (grown g0 numbers [] _ _ (call_ordered g0 numbers a heard s event reply (a.active s) refl (λ t is. asked.locked tt t is) (λ t is. asked.answered tt t is) o))

-- at first nothing has happened
pub nothing_ordered : (g0 : Graph) → IsClosed g0 → IsOrdered g0 [] nothing_yet nothing_heard
nothing_ordered g0 closed = record {
  closed = closed;
  fresh = λ n none new. none;
  begun = λ s t is. cc;
  unused = λ s t is. cc;
  beside = λ s r t u other is also. cc;
  sealed = refl;
  active = λ s. refl;
}

-- what is heard with one more entry
pub heard-append : (h : List Entry) (e : Entry) → heard_in (h ++ e ∷ []) ≡ hear (heard_in h) e.event e.reply
heard-append h e = fold-append (λ (heard : Heard) (entry : Entry). hear heard entry.event entry.reply) nothing_heard h (e ∷ [])

-- the numbers with one more entry
pub numbers-append : (h : List Entry) (e : Entry) → numbers_begun (h ++ e ∷ []) ≡ numbers_begun h ++ option_to_list (begun_number e.reply)
numbers-append h e = filter_map-append (λ (x : Entry). begun_number x.reply) h (e ∷ []) ∙ ap (λ ns. numbers_begun h ++ ns) (one (begun_number e.reply)) where
  one : (o : Option ℕ) → cons_option o [] ≡ option_to_list o
  one None = refl
  one (Some n) = refl

-- What holds at a place of a history holds after the next entry.
pub ordered_append : (g0 : Graph) (before : List Entry) (e : Entry) → RefusesConflicts g0 before e → AnswersByView g0 before e → BeginsAnew g0 before e
    → IsOrdered g0 (numbers_begun before) (account before) (heard_in before)
    → IsOrdered g0 (numbers_begun (before ++ e ∷ [])) (account (before ++ e ∷ [])) (heard_in (before ++ e ∷ []))
ordered_append g0 before e locked answered numbered o =
    let next = entry_ordered g0 (numbers_begun before) (account before) (heard_in before) e.event e.reply (record {
      locked = λ is t active. locked t (record { active = active; answered = is });
      answered = λ is t active. answered t (record { active = active; answered = is });
      numbered = numbered;
    }) o in
    subst (λ ns. IsOrdered g0 ns (account (before ++ e ∷ [])) (heard_in (before ++ e ∷ []))) (sym (numbers-append before e))
    (subst (λ a. IsOrdered g0 (numbers_begun before ++ option_to_list (begun_number e.reply)) a (heard_in (before ++ e ∷ []))) (sym (account-append before e))
    (subst (λ heard. IsOrdered g0 (numbers_begun before ++ option_to_list (begun_number e.reply)) (account_after (account before) e) heard) (sym (heard-append before e)) next))

ordered_rest : (g0 : Graph) (history before rest : List Entry) → HasPlainReplies g0 history → IsTwoPhase g0 history → history ≡ before ++ rest → IsOrdered g0 (numbers_begun before) (account before) (heard_in before)
    → IsOrdered g0 (numbers_begun history) (account history) (heard_in history)
ordered_rest g0 history before [] plain two_phase is o =
    subst (λ h. IsOrdered g0 (numbers_begun h) (account h) (heard_in h)) (sym (is ∙ append-nil before)) o
ordered_rest g0 history before (e ∷ rest) plain two_phase is o =
    ordered_rest g0 history (before ++ e ∷ []) rest plain two_phase (is ∙ sym (append_assoc before (e ∷ []) rest))
    (ordered_append g0 before e (two_phase.locked before e rest is) (plain.answered before e rest is) (plain.numbered before e rest is) o)

-- So it holds at the end of each history under two-phase locking.
pub two_phase_ordered : (g0 : Graph) (history : List Entry) → HasPlainReplies g0 history → IsTwoPhase g0 history → IsOrdered g0 (numbers_begun history) (account history) (heard_in history)
two_phase_ordered g0 history plain two_phase = ordered_rest g0 history [] history plain two_phase refl (nothing_ordered g0 plain.closed)
