-- The committed words, session by session: the writes of all active transactions are taken back, in the order of their sessions.
use Rattle.std.proofs.Common.{◌≡◌, ◌≢◌, ℕ, ◌+◌, ◌<◌, ◌≤◌, zero, suc, List, [], ◌∷◌, Option, Some, None, refl, sym, ap, ◌∙◌, subst, arith}
use Rattle.std.specs.Prelude.{fold, unwrap_or}
use Rattle.std.specs.List.{range_with_len}
use Rattle.std.specs.Ordering.{nat_cmp}
use Rattle.std.specs.FinMap.{FinMap, get, remove, entries}
use Rattle.std.proofs.lemmas.Option.{same_Some}
use Rattle.graph_model.specs.History.{Account, sessions}
use Rattle.graph_model.specs.Transaction.{Transaction}
use Rattle.commit_order.specs.Heard.{Heard}
use Rattle.commit_order.proofs.OrderLaws.{IsOrdered}
use Rattle.log_machine.specs.declared.UndoEntry.{UndoEntry}
use Rattle.log_machine.proofs.Fields.{IsApart, AreApart}
use Rattle.log_machine.proofs.TakenBackLaws.{all_taken_back-first}
use Rattle.log_machine.specs.Machine.{State, Loser, taken_back, each_taken_back, all_taken_back, undo_in, undo_of}
use Rattle.log_machine.specs.Entries.{EachKeyed}
use Rattle.log_machine.proofs.MapLaws.{each_remove, get_first, get_removed, get_kept}
use Rattle.log_machine.specs.Sound.{IsLoser}
use Rattle.heap_model.specs.Core.{Core, all_words}
use Rattle.heap_model.proofs.Step.Goes.{told_sound}
use Rattle.core_laws.proofs.Sessions.Apart.{own_apart}
use Rattle.core_laws.specs.Valid.{Agrees}

-- the writes of a session's transaction, if it has one
abbrev pub session_undo : (ℕ → List UndoEntry) → Option Transaction → List UndoEntry
session_undo undo None = []
session_undo undo (Some t) = undo t.number

-- the words when the writes of these sessions are taken back, one after another
abbrev pub taken_by : (ℕ → List UndoEntry) → Account → List ℕ → List ℕ → List ℕ
taken_by undo a ss now = fold (λ now s. taken_back (session_undo undo (a.active s)) now) now ss

-- the state with the losers that are left
abbrev left : State → FinMap nat_cmp (List UndoEntry) → State
left s undo = record s { undo = undo }

-- An active transaction of one of the `n` sessions from `from` on has the number `q`.
record IsFrom (a : Account) (from n q : ℕ) : Type 0 where
  session : ℕ
  transaction : Transaction
  active : a.active session ≡ Some transaction
  number : transaction.number ≡ q
  low : from ≤ session
  high : session < from + n

-- What is left when the sessions below one have been taken back: the writes of those from it on, as they were.
record IsLeft (a : Account) (s : State) (from n : ℕ) (undo : FinMap nat_cmp (List UndoEntry)) : Type 0 where
  losers : EachKeyed (λ q us. IsFrom a from n q) undo
  sound : EachKeyed (IsLoser s) undo
  same : (r : ℕ) (t : Transaction) → from ≤ r → a.active r ≡ Some t → undo_in undo t.number ≡ undo_of s t.number
  apart : (r : ℕ) (t : Transaction) → from ≤ r → a.active r ≡ Some t → EachKeyed (λ q vs. q ≢ t.number → AreApart (undo_of s t.number) vs) undo

no_losers : (es : List Loser) (undo : FinMap nat_cmp (List UndoEntry)) (now : List ℕ) → entries undo ≡ es → EachKeyed (λ q us. ⊥) undo → each_taken_back (entries undo) now ≡ now
no_losers [] undo now is none = ap (λ es. each_taken_back es now) is
no_losers (e ∷ es) undo now is none = absurd (none e.0 e.1 (get_first undo e.0 e.1 es is))

later : (a : Account) (from n q : ℕ) → ((t : Transaction) → a.active from ≡ Some t → t.number ≢ q) → IsFrom a from (suc n) q → IsFrom a (from + 1) n q
later a from n q first one =
    let low = one.low in
    let high = one.high in
    let differs : from ≢ one.session = λ same. first one.transaction (ap a.active same ∙ one.active) one.number in
    record {
      session = one.session;
      transaction = one.transaction;
      active = one.active;
      number = one.number;
      low = omega arith;
      high = omega arith;
    }

none_some : (us : List UndoEntry) → None ≡ Some us → ⊥
none_some us is = cc

module _ (a : Account) (s : State) (differ : (q r : ℕ) (t u : Transaction) → q ≢ r → a.active q ≡ Some t → a.active r ≡ Some u → t.number ≢ u.number) where
  -- a session without a transaction has nothing to be taken back
  skip : (from n : ℕ) (undo : FinMap nat_cmp (List UndoEntry)) → a.active from ≡ None → IsLeft a s from (suc n) undo → IsLeft a s (from + 1) n undo
  skip from n undo none h = record {
    losers = λ q us there. later a from n q (λ t active. let clash = sym none ∙ active in cc) (h.losers q us there);
    sound = h.sound;
    same = λ r t low active. h.same r t (omega arith) active;
    apart = λ r t low active. h.apart r t (omega arith) active;
  }

  -- the writes of one that has a transaction are taken back
  take_one : (from n : ℕ) (undo : FinMap nat_cmp (List UndoEntry)) (t : Transaction) → a.active from ≡ Some t → IsLeft a s from (suc n) undo → IsLeft a s (from + 1) n (remove undo t.number)
  take_one from n undo t is h = record {
    losers = λ q us there. later a from n q (λ u active same.
        let number : t.number ≡ q = ap (λ (x : Transaction). x.number) (same_Some t u (sym is ∙ active)) ∙ same in
        none_some us (sym (get_removed undo t.number) ∙ ap (get (remove undo t.number)) number ∙ there))
        (each_remove (λ q us. IsFrom a from (suc n) q) undo t.number h.losers q us there);
    sound = each_remove (IsLoser s) undo t.number h.sound;
    same = λ r u low active.
        ap (λ (o : Option (List UndoEntry)). unwrap_or o []) (get_kept undo t.number u.number (λ same. differ r from u t (omega arith) active is same)) ∙ h.same r u (omega arith) active;
    apart = λ r u low active. each_remove (λ q vs. q ≢ u.number → AreApart (undo_of s u.number) vs) undo t.number (h.apart r u (omega arith) active);
  }

  -- taken back first
  first_taken : (from n : ℕ) (undo : FinMap nat_cmp (List UndoEntry)) (t : Transaction) (now : List ℕ) → a.active from ≡ Some t → IsLeft a s from (suc n) undo
      → each_taken_back (entries undo) now ≡ each_taken_back (entries (remove undo t.number)) (taken_back (undo_of s t.number) now)
  first_taken from n undo t now is h =
      let own = h.same from t (omega arith) is in
      all_taken_back-first (left s undo) t.number now (λ q us there. let one = h.sound q us there in record { some = one.some; number = one.number; known = one.known; inside = one.inside })
      (subst (λ us. IsApart (left s undo) t.number us) (sym own) (h.apart from t (omega arith) is))
      ∙ ap (λ us. each_taken_back (entries (remove undo t.number)) (taken_back us now)) own

  -- what is still to be taken back when the sessions below one are done
  abbrev Rest : ℕ → ℕ → Type 0
  Rest from n = (undo : FinMap nat_cmp (List UndoEntry)) (now : List ℕ) → IsLeft a s from n undo → each_taken_back (entries undo) now ≡ taken_by (undo_of s) a (range_with_len from n) now

  taken_more : (from n : ℕ) (o : Option Transaction) → a.active from ≡ o → Rest (from + 1) n → Rest from (suc n)
  taken_more from n None is rest undo now h =
      rest undo now (skip from n undo is h) ∙ ap (λ o. taken_by (undo_of s) a (range_with_len (from + 1) n) (taken_back (session_undo (undo_of s) o) now)) (sym is)
  taken_more from n (Some t) is rest undo now h =
      first_taken from n undo t now is h
      ∙ rest (remove undo t.number) (taken_back (undo_of s t.number) now) (take_one from n undo t is h)
      ∙ ap (λ o. taken_by (undo_of s) a (range_with_len (from + 1) n) (taken_back (session_undo (undo_of s) o) now)) (sym is)

  taken_on : (from n : ℕ) → Rest from n
  taken_on from zero = λ undo now h. no_losers (entries undo) undo now refl (λ q us there. let one = h.losers q us there in let low = one.low in let high = one.high in absurd (omega arith))
  taken_on from (suc n) = taken_more from n (a.active from) refl (taken_on (from + 1) n)

-- The words of a core without the writes of transactions that have not ended are those when the writes of each session's are taken back.
pub committed_by_session : (a : Account) (c : Core) (h : Agrees a c) {numbers : List ℕ} {heard : Heard} (o : IsOrdered c.g0 numbers a heard)
    → taken_by (undo_of h.behind) a sessions (all_words c) ≡ all_taken_back h.behind (all_words c)
unfolding sessions
committed_by_session a c h o =
    let s = h.behind in
    let all : IsLeft a s 1 32 s.undo = record {
      losers = λ q us there.
          let one = h.losers q us there in
          let session = h.in_sessions one.session one.transaction one.active in
          let low = session.0 in
          let high = session.1 in
          record { session = one.session; transaction = one.transaction; active = one.active; number = one.number; low = low; high = omega arith };
      sound = told_sound h.told;
      same = λ r t low active. refl;
      apart = λ r t low active. own_apart a c h o r t active;
    } in
    sym (taken_on a s (λ q r t u other first second. (o.beside q r t u other first second).differ) 1 32 s.undo (all_words c) all)
