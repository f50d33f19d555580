-- Committed transactions have numbers of their own.
use Rattle.std.proofs.Common.{◌≡◌, ◌≢◌, inl, inr, ℕ, ◌+◌, List, [], ◌∷◌, ◌++◌, Option, Some, None, get_or, refl, sym, ap, ◌∙◌, subst, arith, append-nil, append_assoc}
use Rattle.std.specs.List.{All, AllPairs, Contains}
use Rattle.std.specs.Option.{option_to_list}
use Rattle.std.proofs.lemmas.Option.{same_Some}
use Rattle.std.proofs.lemmas.List.Elements.{All-nil, All-push, Contains-append_left, Contains-append_right, Contains-push, filter_map-append}
use Rattle.std.proofs.lemmas.List.Quantifiers.{all_pairs_push}
use Rattle.graph_model.specs.declared.event.Event.{Event}
use Rattle.graph_model.specs.declared.event.Event.TheVariants.{Begin, Seal}
use Rattle.graph_model.specs.declared.reply.Entry.{Entry}
use Rattle.graph_model.specs.declared.reply.Refusal.TheVariants.{DiskFault, Failed, Stopped}
use Rattle.graph_model.specs.declared.reply.Reply.{Reply}
use Rattle.graph_model.specs.declared.reply.Reply.TheVariants.{Begun, Done, Null, Int, Reference, Yes, No, Length, Sealed, Aborted, Refused}
use Rattle.graph_model.specs.Graph.{Graph}
use Rattle.graph_model.specs.Transaction.{Transaction}
use Rattle.graph_model.specs.History.{Account, account, answered, commits, cut_short, first_failure, session_of, with_active, with_call}
use Rattle.graph_model.proofs.Runs.History.{account-append}
use Rattle.commit_order.specs.SerialOrder.{EachEntry, EndsWithFailure, HasPlainReplies, begun_number, numbers_begun}
use Rattle.commit_order.proofs.OrderLaws.{changed, numbers-append}

-- the numbers of two transactions differ
abbrev Differ : Transaction → Transaction → Type 0
Differ t u = t.number ≢ u.number

-- The transactions of the sessions and the sealed ones have different numbers, each of them begun.
record HaveNumbers (ns : List ℕ) (active : ℕ → Option Transaction) (done : List Transaction) : Type 0 where
  known : All (λ t. Contains ns t.number) done
  begun : (s : ℕ) (t : Transaction) → active s ≡ Some t → Contains ns t.number
  differ : AllPairs Differ done
  apart : (s : ℕ) (t : Transaction) → active s ≡ Some t → All (λ u. Differ u t) done
  beside : (s r : ℕ) (t u : Transaction) → s ≢ r → active s ≡ Some t → active r ≡ Some u → Differ t u

-- What is asked of the transaction that session s has next.
record MayHave (ns : List ℕ) (active : ℕ → Option Transaction) (done : List Transaction) (s : ℕ) (t : Transaction) : Type 0 where
  begun : Contains ns t.number
  apart : All (λ u. Differ u t) done
  beside : (r : ℕ) (u : Transaction) → s ≢ r → active r ≡ Some u → Differ t u

module _ (ns : List ℕ) (active : ℕ → Option Transaction) (done : List Transaction) where
  -- more numbers
  more_numbers : (more : List ℕ) → HaveNumbers ns active done → HaveNumbers (ns ++ more) active done
  more_numbers more h = record {
    known = λ k d within. Contains-append_left ns more (get_or done k d).number (h.known k d within);
    begun = λ s t is. Contains-append_left ns more t.number (h.begun s t is);
    differ = h.differ;
    apart = h.apart;
    beside = h.beside;
  }

  -- session s has another transaction, or none
  updated : (s : ℕ) (x : Option Transaction) → ((t : Transaction) → x ≡ Some t → MayHave ns active done s t) → HaveNumbers ns active done → HaveNumbers ns (with_active active s x) done
  updated s x may h = record {
    known = h.known;
    begun = λ r t is. elim (changed active s x r t is) [ inl now ↦ (may t now.1).begun | inr was ↦ h.begun r t was.1 ];
    differ = h.differ;
    apart = λ r t is. elim (changed active s x r t is) [ inl now ↦ (may t now.1).apart | inr was ↦ h.apart r t was.1 ];
    beside = λ q r t u other first second.
        elim (changed active s x q t first) [
          | inl now ↦ elim (changed active s x r u second) [
            | inl also ↦ absurd (other (now.0 ∙ sym also.0))
            | inr was ↦ (may t now.1).beside r u (λ same. was.0 (sym same)) was.1
          ]
          | inr was ↦ elim (changed active s x r u second) [
            | inl now ↦ λ same. (may u now.1).beside q t (λ same. was.0 (sym same)) was.1 (sym same)
            | inr also ↦ h.beside q r t u other was.1 also.1
          ]
        ];
  }

  -- session s has no transaction any more
  ended : (s : ℕ) → HaveNumbers ns active done → HaveNumbers ns (with_active active s None) done
  ended s h = updated s None (λ t is. cc) h

  -- a transaction makes a call
  called : (s : ℕ) (event : Event) (x : Option Transaction) → active s ≡ x → HaveNumbers ns active done → HaveNumbers ns (with_active active s (with_call x event)) done
  called s event None is h = ended s h
  called s event (Some t) is h =
      let next : Transaction = record { number = t.number; calls = t.calls ++ event ∷ [] } in
      updated s (Some next) (λ u same. subst (MayHave ns active done s) (same_Some next u same) (record {
        begun = h.begun s t is;
        apart = h.apart s t is;
        beside = λ r v other also. h.beside s r t v other is also;
      })) h

  -- a transaction is sealed
  sealed_one : (s : ℕ) (x : Option Transaction) → active s ≡ x → HaveNumbers ns active done → HaveNumbers ns (with_active active s None) (done ++ option_to_list x)
  sealed_one s None is h = subst (HaveNumbers ns (with_active active s None)) (sym (append-nil done)) (ended s h)
  sealed_one s (Some t) is h = record {
    known = All-push (λ u. Contains ns u.number) done t h.known (h.begun s t is);
    begun = λ r u now. elim (changed active s None r u now) [ inl gone ↦ cc | inr was ↦ h.begun r u was.1 ];
    differ = all_pairs_push Differ done t h.differ (h.apart s t is);
    apart = λ r u now. elim (changed active s None r u now) [
      | inl gone ↦ cc
      | inr was ↦ All-push (λ v. Differ v u) done t (h.apart r u was.1) (h.beside s r t u (λ same. was.0 (sym same)) is was.1)
    ];
    beside = λ q r u v other first second. elim (changed active s None q u first) [
      | inl gone ↦ cc
      | inr was ↦ elim (changed active s None r v second) [ inl gone ↦ cc | inr also ↦ h.beside q r u v other was.1 also.1 ]
    ];
  }

-- a transaction begins
begun_one : (ns : List ℕ) (active : ℕ → Option Transaction) (done : List Transaction) (s n : ℕ) → (Contains ns n → ⊥) → HaveNumbers ns active done → HaveNumbers (ns ++ n ∷ []) (with_active active s (Some (record { number = n; calls = [] }))) done
begun_one ns active done s n new h =
    let t : Transaction = record { number = n; calls = [] } in
    updated (ns ++ n ∷ []) active done s (Some t) (λ u is. subst (MayHave (ns ++ n ∷ []) active done s) (same_Some t u is) (record {
      begun = Contains-push ns n;
      apart = λ k d within same. new (subst (Contains ns) same (h.known k d within));
      beside = λ r v other also same. new (subst (Contains ns) (sym same) (h.begun r v also));
    })) (more_numbers ns active done (n ∷ []) h)

-- an event that the disk cut short
cut_numbers : (ns : List ℕ) (a : Account) (event : Event) → HaveNumbers ns a.active a.sealed → HaveNumbers ns (cut_short a event).active (cut_short a event).sealed
cut_numbers ns a (Seal s) h = h
cut_numbers ns a event h = h

-- One entry more.
entry_numbers : (ns : List ℕ) (a : Account) (event : Event) (reply : Reply) → ((n : ℕ) → reply ≡ Begun n → Contains ns n → ⊥) → HaveNumbers ns a.active a.sealed
    → HaveNumbers (ns ++ option_to_list (begun_number reply)) (answered a event reply).active (answered a event reply).sealed
entry_numbers ns a event (Begun n) new h = begun_one ns a.active a.sealed (session_of event) n (new n refl) h
entry_numbers ns a event (Sealed n) new h = more_numbers ns _ _ [] (sealed_one ns a.active a.sealed (session_of event) (a.active (session_of event)) refl h)
entry_numbers ns a event Aborted new h = more_numbers ns _ _ [] (ended ns a.active a.sealed (session_of event) h)
entry_numbers ns a event Done new h = more_numbers ns _ _ [] (called ns a.active a.sealed (session_of event) event (a.active (session_of event)) refl h)
entry_numbers ns a event Null new h = more_numbers ns _ _ [] (called ns a.active a.sealed (session_of event) event (a.active (session_of event)) refl h)
entry_numbers ns a event (Int v) new h = more_numbers ns _ _ [] (called ns a.active a.sealed (session_of event) event (a.active (session_of event)) refl h)
entry_numbers ns a event Reference new h = more_numbers ns _ _ [] (called ns a.active a.sealed (session_of event) event (a.active (session_of event)) refl h)
entry_numbers ns a event Yes new h = more_numbers ns _ _ [] (called ns a.active a.sealed (session_of event) event (a.active (session_of event)) refl h)
entry_numbers ns a event No new h = more_numbers ns _ _ [] (called ns a.active a.sealed (session_of event) event (a.active (session_of event)) refl h)
entry_numbers ns a event (Length n) new h = more_numbers ns _ _ [] (called ns a.active a.sealed (session_of event) event (a.active (session_of event)) refl h)
entry_numbers ns a event (Refused DiskFault) new h = more_numbers ns _ _ [] (cut_numbers ns a event h)
entry_numbers ns a event (Refused Stopped) new h = more_numbers ns _ _ [] (cut_numbers ns a event h)
entry_numbers ns a event reply new h = more_numbers ns a.active a.sealed [] h

-- The commits differ too, and none is in doubt while the disk has not failed.
record HaveCommits (ns : List ℕ) (a : Account) : Type 0 where
  numbers : HaveNumbers ns a.active a.sealed
  certain : a.failed ≡ None → a.in_doubt ≡ None
  differ : AllPairs Differ (a.sealed ++ option_to_list a.in_doubt)

-- the commits are the sealed ones where none is in doubt
alone : (ns : List ℕ) (a : Account) → HaveNumbers ns a.active a.sealed → a.in_doubt ≡ None → HaveCommits ns a
alone ns a h certain = record {
  numbers = h;
  certain = λ unfailed. certain;
  differ = subst (AllPairs Differ) (sym (append-nil a.sealed) ∙ ap (λ (o : Option Transaction). a.sealed ++ option_to_list o) (sym certain)) h.differ;
}

failed_now : (first : Option ℕ) (entry : ℕ) → first_failure first entry ≡ None → ⊥
failed_now None entry is = cc
failed_now (Some n) entry is = cc

-- one that a session has may be in doubt
doubted : (ns : List ℕ) (active : ℕ → Option Transaction) (done : List Transaction) (s : ℕ) (o : Option Transaction) → active s ≡ o → HaveNumbers ns active done → AllPairs Differ (done ++ option_to_list o)
doubted ns active done s None is h = subst (AllPairs Differ) (sym (append-nil done)) h.differ
doubted ns active done s (Some t) is h = all_pairs_push Differ done t h.differ (h.apart s t is)

cut_commits : (ns : List ℕ) (a : Account) (event : Event) → a.in_doubt ≡ None → HaveNumbers ns a.active a.sealed → HaveCommits ns (cut_short a event)
cut_commits ns a (Seal s) certain h = record { numbers = h; certain = λ unfailed. absurd (failed_now a.failed (a.entries + 1) unfailed); differ = doubted ns a.active a.sealed s (a.active s) refl h }
cut_commits ns a event certain h = alone ns (cut_short a event) h certain

-- One entry more, while the disk has not failed.
going_on : (ns : List ℕ) (a : Account) (event : Event) (reply : Reply) → a.in_doubt ≡ None → HaveNumbers ns a.active a.sealed → HaveNumbers ns (answered a event reply).active (answered a event reply).sealed → HaveCommits ns (answered a event reply)
going_on ns a event (Refused DiskFault) certain h next = cut_commits ns a event certain h
going_on ns a event (Refused Stopped) certain h next = cut_commits ns a event certain h
going_on ns a event reply certain h next = alone ns (answered a event reply) next certain

entry_commits : (ns : List ℕ) (a : Account) (event : Event) (reply : Reply) (failed : Option ℕ) → a.failed ≡ failed → ((n : ℕ) → a.failed ≡ Some n → reply ≡ Refused (Failed n)) → ((n : ℕ) → reply ≡ Begun n → Contains ns n → ⊥) → HaveCommits ns a
    → HaveCommits (ns ++ option_to_list (begun_number reply)) (answered a event reply)
entry_commits ns a event reply None is ends new h =
    let more = option_to_list (begun_number reply) in
    going_on (ns ++ more) a event reply (h.certain is) (more_numbers ns a.active a.sealed more h.numbers) (entry_numbers ns a event reply new h.numbers)
entry_commits ns a event reply (Some n) is ends new h =
    subst (λ (r : Reply). HaveCommits (ns ++ option_to_list (begun_number r)) (answered a event r)) (sym (ends n is))
    (record { numbers = more_numbers ns a.active a.sealed [] h.numbers; certain = h.certain; differ = h.differ })

rest_commits : (g0 : Graph) (history before rest : List Entry) → HasPlainReplies g0 history → EachEntry EndsWithFailure history → history ≡ before ++ rest → HaveCommits (numbers_begun before) (account before)
    → HaveCommits (numbers_begun history) (account history)
rest_commits g0 history before [] plain ends is h = subst (λ l. HaveCommits (numbers_begun l) (account l)) (sym (is ∙ append-nil before)) h
rest_commits g0 history before (e ∷ rest) plain ends is h =
    let one = entry_commits (numbers_begun before) (account before) e.event e.reply (account before).failed refl (ends before e rest is) (λ n now. (plain.numbered before e rest is n now).0) h in
    rest_commits g0 history (before ++ e ∷ []) rest plain ends (is ∙ sym (append_assoc before (e ∷ []) rest))
    (subst (λ ns. HaveCommits ns (account (before ++ e ∷ []))) (sym (numbers-append before e))
    (subst (HaveCommits (numbers_begun before ++ option_to_list (begun_number e.reply))) (sym (account-append before e))
    (record { numbers = one.numbers; certain = one.certain; differ = one.differ })))

-- No number begins two transactions of a history of plain replies.
pub begun_once : (g0 : Graph) (history first between rest : List Entry) (s r n : ℕ) → HasPlainReplies g0 history → history ≢ first ++ record { event = Begin s; reply = Begun n } ∷ between ++ record { event = Begin r; reply = Begun n } ∷ rest
begun_once g0 history first between rest s r n plain is =
    let one : Entry = record { event = Begin s; reply = Begun n } in
    let other : Entry = record { event = Begin r; reply = Begun n } in
    let before = first ++ one ∷ between in
    let there = Contains-append_right (numbers_begun first) (numbers_begun (one ∷ between)) n (Contains-append_left (n ∷ []) (numbers_begun between) n (Contains-push [] n)) in
    let numbers = filter_map-append (λ (e : Entry). begun_number e.reply) first (one ∷ between) in
    (plain.numbered before other rest is n refl).0 (subst (λ ns. Contains ns n) (sym numbers) there)

-- So commits have different numbers in each history of plain replies, also one that is in doubt.
pub numbers_differ : (g0 : Graph) (history : List Entry) → HasPlainReplies g0 history → EachEntry EndsWithFailure history → AllPairs Differ (commits history)
numbers_differ g0 history plain ends =
    (rest_commits g0 history [] history plain ends refl (alone (numbers_begun []) (account []) (record {
      known = All-nil (λ t. Contains (numbers_begun []) t.number);
      begun = λ s t is. cc;
      differ = λ i j d less within. absurd (omega (arith, within));
      apart = λ s t is. cc;
      beside = λ s r t u other is also. cc;
    }) refl)).differ
