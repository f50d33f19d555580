-- A tale says the same as the account of a history, and as what is heard in it.
use Rattle.std.proofs.Common.{◌≡◌, inl, inr, ◌⊎◌, ℕ, ◌+◌, ◌≤◌, ◌==◌, Bool, true, false, List, [], ◌∷◌, ◌++◌, Option, Some, None, is_some, length, max, map, option_and_then, if◌then◌else◌, refl, sym, ap, ◌∙◌, subst, arith, eq-eqb, append-nil, append_assoc}
use Rattle.std.specs.Option.{option_map, option_to_list}
use Rattle.std.proofs.lemmas.Bool.{cond-true}
use Rattle.std.proofs.lemmas.Option.{same_Some}
use Rattle.std.proofs.lemmas.List.{length-append, length-map, map-append}
use Rattle.std.proofs.lemmas.List.Sums.{fold-append}
use Rattle.graph_model.specs.declared.event.Event.{Event}
use Rattle.graph_model.specs.declared.event.Event.TheVariants.{Begin, Seal, Abort, Force, Flip, Scan, Flush}
use Rattle.graph_model.specs.declared.reply.Entry.{Entry}
use Rattle.graph_model.specs.declared.reply.Refusal.{Refusal}
use Rattle.graph_model.specs.declared.reply.Refusal.TheVariants.{DiskFault, Stopped}
use Rattle.graph_model.specs.declared.reply.Reply.{Reply}
use Rattle.graph_model.specs.declared.reply.Reply.TheVariants.{Begun, Sealed, Aborted, Durable, Flipped, Collecting, Scanned, Collected, Idle, Flushed, Clean, Refused}
use Rattle.graph_model.specs.Graph.{Graph}
use Rattle.graph_model.specs.Replies.{IsCallReply}
use Rattle.graph_model.specs.Transaction.{IsCall, Transaction, replies, serial}
use Rattle.graph_model.specs.History as says
use Rattle.graph_model.specs.History.{Account, account, answered, session_of, cut_short}
use Rattle.graph_model.proofs.Runs.History.{account-append}
use Rattle.commit_order.specs.Heard.{Heard, hear, hear_call, hear_cut, heard_in, replies_of_commits, with_reply}
use Rattle.commit_order.specs.SerialOrder.{EachEntry}
use Rattle.commit_order.proofs.OrderLaws.{heard-append}
use Rattle.black_box.specs.Told.{Fits, Grants, HaveReplies}
use Rattle.black_box.specs.Tale.{Tale, tell, tale, with_session, with_call, sealed_in, commits_in, committed}

-- a transaction with the replies to its calls
abbrev Answered : Type 0
Answered = Transaction × List Reply

abbrev transaction_of : Answered → Transaction
transaction_of own = own.0

abbrev replies_of : Answered → List Reply
replies_of own = own.1

-- A tale, an account and what is heard are of one history.
pub record Agree (t : Tale) (a : Account) (heard : Heard) : Type 0 where
  pub active : (s : ℕ) → option_map transaction_of (t.active s) ≡ a.active s
  pub hearing : (s : ℕ) → option_map replies_of (t.active s) ≡ heard.active s
  pub sealed : map transaction_of t.sealed ≡ a.sealed
  pub told : map replies_of t.sealed ≡ heard.sealed
  pub in_doubt : option_map transaction_of t.in_doubt ≡ a.in_doubt
  pub doubted : option_map replies_of t.in_doubt ≡ heard.in_doubt
  pub acknowledged : t.acknowledged ≡ a.acknowledged
  pub few : t.acknowledged ≤ length t.sealed

-- There is a tale, and it agrees.
abbrev HasTale : Option Tale → Account → Heard → Type 0
HasTale told a heard = (t : Tale) × (told ≡ Some t) × Agree t a heard

-- both of two values that a function leads to the other two
chosen : {X Y : Type 0} (f : X → Y) (b : Bool) (own other : X) (own' other' : Y) → f own ≡ own' → f other ≡ other' → f (if b then own else other) ≡ (if b then own' else other')
chosen f true own other own' other' first second = first
chosen f false own other own' other' first second = second

map_option : {X Y : Type 0} (f : X → Y) (o : Option X) → map f (option_to_list o) ≡ option_to_list (option_map f o)
map_option f None = refl
map_option f (Some x) = refl

-- one more is sealed, if there is one
map_sealed : {X Y : Type 0} (f : X → Y) (xs : List X) (o : Option X) (ys : List Y) (p : Option Y) → map f xs ≡ ys → option_map f o ≡ p → map f (xs ++ option_to_list o) ≡ ys ++ option_to_list p
map_sealed f xs o ys p is last =
    map-append f xs (option_to_list o) ∙ ap (λ l. l ++ map f (option_to_list o)) is ∙ ap (λ l. ys ++ l) (map_option f o ∙ ap option_to_list last)

-- a session without a transaction has none in a tale
none_there : (o : Option Answered) → option_map transaction_of o ≡ None → is_some o ≡ false
none_there None is = refl
none_there (Some own) is = cc

-- and one that has one has it there
one_there : (o : Option Answered) (t : Transaction) → option_map transaction_of o ≡ Some t → (own : Answered) × (o ≡ Some own)
one_there None t is = cc
one_there (Some own) t is = (own, refl)

-- session s has the same transaction in all
with_agree : (t : Tale) (a : Account) (heard : Heard) (s : ℕ) (own : Option Answered) (own' : Option Transaction) (replies' : Option (List Reply)) → Agree t a heard → option_map transaction_of own ≡ own' → option_map replies_of own ≡ replies'
    → Agree (with_session t s own) (record a { active = says.with_active a.active s own' }) (record heard { active = λ session. if session == s then replies' else heard.active session })
with_agree t a heard s own own' replies' agree is said = record {
  active = λ x. chosen (option_map transaction_of) (x == s) own (t.active x) own' (a.active x) is (agree.active x);
  hearing = λ x. chosen (option_map replies_of) (x == s) own (t.active x) replies' (heard.active x) said (agree.hearing x);
  sealed = agree.sealed;
  told = agree.told;
  in_doubt = agree.in_doubt;
  doubted = agree.doubted;
  acknowledged = agree.acknowledged;
  few = agree.few;
}

-- A session begins a transaction.
begin_told : (t : Tale) (a : Account) (heard : Heard) (s n : ℕ) → Agree t a heard → a.active s ≡ None → HasTale (tell t (Begin s) (Begun n)) (answered a (Begin s) (Begun n)) (hear heard (Begin s) (Begun n))
begin_told t a heard s n agree none =
    let own : Option Answered = Some (record { number = n; calls = [] }, []) in
    let it = with_agree t a heard s own (Some (record { number = n; calls = [] })) (Some []) agree refl refl in (
      with_session t s own,
      ap (λ b. if b then None else Some (with_session t s own)) (none_there (t.active s) (agree.active s ∙ none)),
      record { active = it.active; hearing = it.hearing; sealed = it.sealed; told = it.told; in_doubt = it.in_doubt; doubted = it.doubted; acknowledged = it.acknowledged; few = it.few },
    )

-- A transaction is sealed.
seal_told : (t : Tale) (a : Account) (heard : Heard) (s : ℕ) (own : Answered) → Agree t a heard → t.active s ≡ Some own
    → HasTale (tell t (Seal s) (Sealed (length a.sealed + 1))) (answered a (Seal s) (Sealed (length a.sealed + 1))) (hear heard (Seal s) (Sealed (length a.sealed + 1)))
seal_told t a heard s own agree is =
    let n = length a.sealed + 1 in
    let all : length a.sealed ≡ length t.sealed = ap length (sym agree.sealed) ∙ length-map t.sealed transaction_of in
    let ends : Answered → Tale = λ own. with_session (record t { sealed = t.sealed ++ own ∷ [] }) s None in (
      ends own,
      cond-true (n == length t.sealed + 1) (option_map ends (t.active s)) None (eq-eqb n (length t.sealed + 1) (ap (λ k. k + 1) all)) ∙ ap (option_map ends) is,
      record {
        active = λ x. chosen (option_map transaction_of) (x == s) None (t.active x) None (a.active x) refl (agree.active x);
        hearing = λ x. chosen (option_map replies_of) (x == s) None (t.active x) None (heard.active x) refl (agree.hearing x);
        sealed = map_sealed transaction_of t.sealed (Some own) a.sealed (a.active s) agree.sealed (ap (option_map transaction_of) (sym is) ∙ agree.active s);
        told = map_sealed replies_of t.sealed (Some own) heard.sealed (heard.active s) agree.told (ap (option_map replies_of) (sym is) ∙ agree.hearing s);
        in_doubt = agree.in_doubt;
        doubted = agree.doubted;
        acknowledged = agree.acknowledged;
        few = (let few = agree.few in let more = length-append t.sealed (own ∷ []) in omega (arith, few, more));
      },
    )

-- A transaction is aborted.
abort_told : (t : Tale) (a : Account) (heard : Heard) (s : ℕ) (own : Answered) → Agree t a heard → t.active s ≡ Some own → HasTale (tell t (Abort s) Aborted) (answered a (Abort s) Aborted) (hear heard (Abort s) Aborted)
abort_told t a heard s own agree is = (with_session t s None, ap (option_map (λ (own : Answered). with_session t s None)) is, with_agree t a heard s None None None agree refl refl)

greatest : (m n : ℕ) → m ≤ n → n ≡ max m n
greatest m n less = omega (arith, less)

-- All that was sealed is acknowledged.
force_told : (t : Tale) (a : Account) (heard : Heard) → Agree t a heard → HasTale (tell t Force (Durable (length a.sealed))) (answered a Force (Durable (length a.sealed))) (hear heard Force (Durable (length a.sealed)))
force_told t a heard agree =
    let n = length a.sealed in
    let all : n ≡ length t.sealed = ap length (sym agree.sealed) ∙ length-map t.sealed transaction_of in
    let last : Tale = record t { acknowledged = n } in
    let few : a.acknowledged ≤ n = (let few = agree.few in let same = agree.acknowledged in omega (arith, few, all, same)) in (
      last,
      cond-true (n == length t.sealed) (Some last) None (eq-eqb n (length t.sealed) all),
      record { active = agree.active; hearing = agree.hearing; sealed = agree.sealed; told = agree.told; in_doubt = agree.in_doubt; doubted = agree.doubted; acknowledged = greatest a.acknowledged n few; few = omega (arith, all) },
    )

-- A call.

-- what a call's reply adds to a tale, to an account, and to what is heard
tell_call : (t : Tale) (event : Event) (reply : Reply) → IsCall event → IsCallReply reply → tell t event reply ≡ with_call t (session_of event) event reply
tell_call t (Begin s) reply call is = absurd call
tell_call t (Seal s) reply call is = absurd call
tell_call t (Abort s) reply call is = absurd call
tell_call t Force reply call is = absurd call
tell_call t Flip reply call is = absurd call
tell_call t Scan reply call is = absurd call
tell_call t (Flush p) reply call is = absurd call
tell_call t event (Refused why) call is = absurd is
tell_call t event reply call is = refl

account_call : (a : Account) (event : Event) (reply : Reply) → IsCallReply reply → answered a event reply ≡ says.makes_call a (session_of event) event
account_call a event (Begun n) is = absurd is
account_call a event (Sealed n) is = absurd is
account_call a event Aborted is = absurd is
account_call a event (Durable n) is = absurd is
account_call a event (Flipped objects words) is = absurd is
account_call a event Collecting is = absurd is
account_call a event (Scanned page objects words) is = absurd is
account_call a event (Collected used) is = absurd is
account_call a event Idle is = absurd is
account_call a event (Flushed page) is = absurd is
account_call a event (Clean page) is = absurd is
account_call a event (Refused why) is = absurd is
account_call a event reply is = refl

hear_reply : (heard : Heard) (event : Event) (reply : Reply) → IsCallReply reply → hear heard event reply ≡ hear_call heard (session_of event) reply
hear_reply heard event (Begun n) is = absurd is
hear_reply heard event (Sealed n) is = absurd is
hear_reply heard event Aborted is = absurd is
hear_reply heard event (Durable n) is = absurd is
hear_reply heard event (Flipped objects words) is = absurd is
hear_reply heard event Collecting is = absurd is
hear_reply heard event (Scanned page objects words) is = absurd is
hear_reply heard event (Collected used) is = absurd is
hear_reply heard event Idle is = absurd is
hear_reply heard event (Flushed page) is = absurd is
hear_reply heard event (Clean page) is = absurd is
hear_reply heard event (Refused why) is = absurd is
hear_reply heard event reply is = refl

-- a transaction with one call more
abbrev with_one : Event → Reply → Answered → Answered
with_one event reply own = (record { number = own.0.number; calls = own.0.calls ++ event ∷ [] }, own.1 ++ reply ∷ [])

-- a call that was not refused
call_told : (t : Tale) (a : Account) (heard : Heard) (event : Event) (reply : Reply) (own : Answered) → Agree t a heard → IsCall event → IsCallReply reply → t.active (session_of event) ≡ Some own → HasTale (tell t event reply) (answered a event reply) (hear heard event reply)
call_told t a heard event reply own agree call is active =
    let s = session_of event in
    let own' = agree.active s in
    let replies' = agree.hearing s in
    let next = with_one event reply own in
    let it = with_agree t a heard s (Some next) (says.with_call (a.active s) event) (option_map (with_reply reply) (heard.active s)) agree
    (ap (λ o. says.with_call o event) (ap (option_map transaction_of) (sym active) ∙ own'))
    (ap (option_map (with_reply reply)) (ap (option_map replies_of) (sym active) ∙ replies')) in (
      with_session t s (Some next),
      tell_call t event reply call is ∙ ap (option_map (λ (own : Answered). with_session t s (Some (with_one event reply own)))) active,
      subst (λ (b : Account). Agree (with_session t s (Some next)) b (hear heard event reply)) (sym (account_call a event reply is))
          (subst (Agree (with_session t s (Some next)) (says.makes_call a s event)) (sym (hear_reply heard event reply is)) it),
    )

-- An entry more.

-- an event that the disk cut short: a seal is in doubt then
cut_told : (t : Tale) (a : Account) (heard : Heard) (event : Event) → Agree t a heard
    → HasTale (tell t event (Refused DiskFault)) (cut_short a event) (hear_cut heard event) × HasTale (tell t event (Refused Stopped)) (cut_short a event) (hear_cut heard event)
cut_told t a heard (Seal s) agree = (
  (record t { in_doubt = t.active s }, refl, record { active = agree.active; hearing = agree.hearing; sealed = agree.sealed; told = agree.told; in_doubt = agree.active s; doubted = agree.hearing s; acknowledged = agree.acknowledged; few = agree.few }),
  (record t { in_doubt = t.active s }, refl, record { active = agree.active; hearing = agree.hearing; sealed = agree.sealed; told = agree.told; in_doubt = agree.active s; doubted = agree.hearing s; acknowledged = agree.acknowledged; few = agree.few }),
)
cut_told t a heard event agree = (
  (t, refl, record { active = agree.active; hearing = agree.hearing; sealed = agree.sealed; told = agree.told; in_doubt = agree.in_doubt; doubted = agree.doubted; acknowledged = agree.acknowledged; few = agree.few }),
  (t, refl, record { active = agree.active; hearing = agree.hearing; sealed = agree.sealed; told = agree.told; in_doubt = agree.in_doubt; doubted = agree.doubted; acknowledged = agree.acknowledged; few = agree.few }),
)

-- the number of entries is nothing to it
counted_agree : (t : Tale) (a : Account) (heard : Heard) (n : ℕ) → Agree t a heard → Agree t (record a { entries = n }) heard
counted_agree t a heard n agree = record { active = agree.active; hearing = agree.hearing; sealed = agree.sealed; told = agree.told; in_doubt = agree.in_doubt; doubted = agree.doubted; acknowledged = agree.acknowledged; few = agree.few }

refused_told : (t : Tale) (a : Account) (heard : Heard) (event : Event) (why : Refusal) → Agree t a heard → HasTale (tell t event (Refused why)) (answered a event (Refused why)) (hear heard event (Refused why))
refused_told t a heard event DiskFault agree = (cut_told t a heard event agree).0
refused_told t a heard event Stopped agree = (cut_told t a heard event agree).1
refused_told t a heard event why agree = others event
  where
    others : (event : Event) → HasTale (tell t event (Refused why)) a heard
    others (Seal s) = (t, refl, agree)
    others event = (t, refl, agree)

module _ (t : Tale) (a : Account) (heard : Heard) (agree : Agree t a heard) where
  -- an entry leaves a tale
  abbrev Told : Event → Reply → Type 0
  Told event reply = HasTale (tell t event reply) (answered a event reply) (hear heard event reply)

  own_of : (s : ℕ) (own : Transaction) → a.active s ≡ Some own → (own : Answered) × (t.active s ≡ Some own)
  own_of s own is = one_there (t.active s) own (agree.active s ∙ is)

  this_page : (p : ℕ) → (if p == p then Some t else None) ≡ Some t
  this_page p = cond-true (p == p) (Some t) None (eq-eqb p p refl)

  granted_told : (event : Event) (reply : Reply) → Grants a event reply → Told event reply
  granted_told (Begin s) reply grants = subst (Told (Begin s)) (sym grants.2) (begin_told t a heard s grants.1 agree grants.0)
  granted_told (Seal s) reply grants =
      let own = own_of s grants.0.0 grants.0.1 in
      subst (Told (Seal s)) (sym grants.1) (seal_told t a heard s own.0 agree own.1)
  granted_told (Abort s) reply grants =
      let own = own_of s grants.0.0 grants.0.1 in
      subst (Told (Abort s)) (sym grants.1) (abort_told t a heard s own.0 agree own.1)
  granted_told Force reply grants = subst (Told Force) (sym grants) (force_told t a heard agree)
  granted_told Flip reply (inl is) = subst (Told Flip) (sym is) (t, refl, agree)
  granted_told Flip reply (inr is) = subst (Told Flip) (sym is.2) (t, refl, agree)
  granted_told Scan reply (inl is) = subst (Told Scan) (sym is) (t, refl, agree)
  granted_told Scan reply (inr (inl is)) = subst (Told Scan) (sym is.1) (t, refl, agree)
  granted_told Scan reply (inr (inr is)) = subst (Told Scan) (sym is.3) (t, refl, agree)
  granted_told (Flush p) reply (inl is) = subst (Told (Flush p)) (sym is) (t, this_page p, agree)
  granted_told (Flush p) reply (inr is) = subst (Told (Flush p)) (sym is) (t, this_page p, agree)
  granted_told event reply grants =
      let own = own_of (session_of event) grants.0.0 grants.0.1 in
      call_told t a heard event reply own.0 agree tt grants.1 own.1

  entry_told : (event : Event) (reply : Reply) → ((why : Refusal) × (reply ≡ Refused why)) ⊎ Grants a event reply → Told event reply
  entry_told event reply (inl refused) = subst (Told event) (sym refused.1) (refused_told t a heard event refused.0 agree)
  entry_told event reply (inr grants) = granted_told event reply grants

-- There is a tale of each history.
abbrev IsTold : List Entry → Type 0
IsTold history = HasTale (tale history) (account history) (heard_in history)

tale-append : (history : List Entry) (e : Entry) → tale (history ++ e ∷ []) ≡ option_and_then (λ t. tell t e.event e.reply) (tale history)
tale-append history e = fold-append (λ told (entry : Entry). option_and_then (λ t. tell t entry.event entry.reply) told) (Some (record { active = λ s. None; sealed = []; in_doubt = None; acknowledged = 0 })) history (e ∷ [])

told_on : (history : List Entry) (e : Entry) → IsTold history → Fits history e → IsTold (history ++ e ∷ [])
told_on history e told fits =
    let t = told.0 in
    let next = entry_told t (account history) (heard_in history) told.2 e.event e.reply fits in (
      next.0,
      tale-append history e ∙ ap (option_and_then (λ t. tell t e.event e.reply)) told.1 ∙ next.1,
      subst (λ (a : Account). Agree next.0 a (heard_in (history ++ e ∷ []))) (sym (account-append history e))
          (counted_agree next.0 (answered (account history) e.event e.reply) (heard_in (history ++ e ∷ [])) ((account history).entries + 1)
          (subst (Agree next.0 (answered (account history) e.event e.reply)) (sym (heard-append history e)) next.2)),
    )

rest_told : (history before rest : List Entry) → EachEntry Fits history → history ≡ before ++ rest → IsTold before → IsTold history
rest_told history before [] fits is told = subst IsTold (sym (is ∙ append-nil before)) told
rest_told history before (e ∷ rest) fits is told =
    rest_told history (before ++ e ∷ []) rest fits (is ∙ sym (append_assoc before (e ∷ []) rest)) (told_on before e told (fits before e rest is))

-- a history whose replies fit their events has a tale, which agrees with its account
pub fits_told : (history : List Entry) → EachEntry Fits history → (t : Tale) × (tale history ≡ Some t) × Agree t (account history) (heard_in history)
fits_told history fits =
    rest_told history [] history fits refl (record { active = λ s. None; sealed = []; in_doubt = None; acknowledged = 0 }, refl, record { active = λ s. refl; hearing = λ s. refl; sealed = refl; told = refl; in_doubt = refl; doubted = refl; acknowledged = refl; few = omega arith })

-- and in it the transactions have the replies so far that they have in the history
pub tale_so_far : (begins : Graph) (history : List Entry) (now : Tale) (s : ℕ) (own : Transaction × List Reply) → EachEntry Fits history → HaveReplies begins history → tale history ≡ Some now → now.active s ≡ Some own → own.1 ≡ replies (serial begins (sealed_in now)) own.0
tale_so_far begins history now s own fits have is active =
    let told = fits_told history fits in
    let agree = subst (λ (t : Tale). Agree t (account history) (heard_in history)) (same_Some told.0 now (sym told.1 ∙ is)) told.2 in
    let run = replies (serial begins (says.sealed history)) in
    same_Some own.1 (replies (serial begins (sealed_in now)) own.0)
    (ap (option_map replies_of) (sym active) ∙ agree.hearing s ∙ have s ∙ ap (option_map run) (sym (agree.active s) ∙ ap (option_map transaction_of) active) ∙ ap (λ (ts : List Transaction). Some (replies (serial begins ts) own.0)) (sym agree.sealed))

-- the commits of a tale are those of its history
pub tale_commits : (t : Tale) (history : List Entry) → Agree t (account history) (heard_in history) → committed t ≡ says.commits history
tale_commits t history agree = map_sealed transaction_of t.sealed t.in_doubt (says.sealed history) (account history).in_doubt agree.sealed agree.in_doubt

-- with the replies that they had
pub tale_replies : (t : Tale) (history : List Entry) → Agree t (account history) (heard_in history) → map replies_of (commits_in t) ≡ replies_of_commits history
tale_replies t history agree = map_sealed replies_of t.sealed t.in_doubt (heard_in history).sealed (heard_in history).in_doubt agree.told agree.doubted

-- and none is in doubt where none is there
pub tale_certain : (t : Tale) (history : List Entry) → Agree t (account history) (heard_in history) → (account history).in_doubt ≡ None → t.in_doubt ≡ None
tale_certain t history agree certain = none_in t.in_doubt (agree.in_doubt ∙ certain)
  where
    none_in : (o : Option Answered) → option_map transaction_of o ≡ None → o ≡ None
    none_in None is = refl
    none_in (Some own) is = cc
