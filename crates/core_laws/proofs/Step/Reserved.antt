-- What the log keeps free for the ends of all active transactions: it is enough to take back all that may be taken back, and it changes
-- with the sessions.
use Rattle.std.proofs.Common.{◌≡◌, ◌≢◌, inl, inr, ℕ, zero, suc, ◌+◌, ◌<◌, ◌≤◌, List, [], ◌∷◌, length, Option, Some, None, refl, sym, ap, ◌∙◌, subst, arith, eq-eqb, ne_eqb}
use Rattle.std.specs.Prelude.{sum_by, unwrap_or, if◌then◌else◌}
use Rattle.std.specs.List.{range_with_len}
use Rattle.std.specs.Ordering.{nat_cmp}
use Rattle.std.specs.FinMap.{FinMap, get, remove, entries}
use Rattle.std.proofs.lemmas.Bool.{cases_eq}
use Rattle.std.proofs.lemmas.Option.{same_Some}
use Rattle.std.proofs.lemmas.List.Sums.{sum_by-cons}
use Rattle.graph_model.specs.Transaction.{Transaction}
use Rattle.graph_model.specs.History.{Account, IsSession, AreInSessions, sessions, with_active}
use Rattle.log_machine.specs.declared.UndoEntry.{UndoEntry}
use Rattle.log_machine.specs.Machine.{State, Loser, undo_in, undo_of, undo_bytes, reserve}
use Rattle.log_machine.specs.Entries.{EachKeyed, sum_over, bytes_over}
use Rattle.log_machine.proofs.MapLaws.{get_first, get_removed, get_kept, each_remove}
use Rattle.log_machine.proofs.ReserveLaws.{bytes_for, bytes_split}
use Rattle.log_machine.specs.Sound.{NoneEmpty, AreLosers}
use Rattle.log_machine.proofs.AbortLaws.{none_empty}
use Rattle.heap_model.specs.Core.{kept_for, reserved}
use Rattle.core_laws.specs.Valid.{IsActive}

-- Sums over numbers from one on.

sum_less : (f g : ℕ → ℕ) (from n : ℕ) → ((r : ℕ) → from ≤ r → f r ≤ g r) → sum_by f (range_with_len from n) ≤ sum_by g (range_with_len from n)
sum_less f g from zero less = omega arith
sum_less f g from (suc n) less =
    let here = less from (omega arith) in
    let rest = sum_less f g (from + 1) n (λ r low. less r (omega arith)) in
    let one = sum_by-cons f from (range_with_len (from + 1) n) in
    let other = sum_by-cons g from (range_with_len (from + 1) n) in
    omega arith

sum_same : (f g : ℕ → ℕ) (from n : ℕ) → ((r : ℕ) → from ≤ r → f r ≡ g r) → sum_by f (range_with_len from n) ≡ sum_by g (range_with_len from n)
sum_same f g from n same =
    let up = sum_less f g from n (λ r low. let here = same r low in omega arith) in
    let down = sum_less g f from n (λ r low. let here = same r low in omega arith) in
    omega arith

sum_but : (f g : ℕ → ℕ) (s x from n : ℕ) → from ≤ s → s < from + n → f s + x ≡ g s → ((r : ℕ) → r ≢ s → f r ≡ g r) → sum_by f (range_with_len from n) + x ≡ sum_by g (range_with_len from n)
sum_but f g s x from zero low high own others = absurd (omega arith)
sum_but f g s x from (suc n) low high own others =
    let one = sum_by-cons f from (range_with_len (from + 1) n) in
    let other = sum_by-cons g from (range_with_len (from + 1) n) in
    elim (cases_eq from s) [
      | inl is ↦
          let here : f from + x ≡ g from = subst (λ r. f r + x ≡ g r) (sym is) own in
          let rest = sum_same f g (from + 1) n (λ r above. others r (λ same. omega arith)) in
          omega arith
      | inr apart ↦
          let here = others from apart in
          let rest = sum_but f g s x (from + 1) n (omega arith) (omega arith) own others in
          omega arith
    ]

-- What is kept.

-- where as much is kept for each session, as much is kept
pub reserved_same : (undo other : ℕ → List UndoEntry) (a b : Account) → ((s : ℕ) → kept_for undo (a.active s) ≡ kept_for other (b.active s)) → reserved undo a ≡ reserved other b
unfolding sessions
reserved_same undo other a b same = sum_same (λ s. kept_for undo (a.active s)) (λ s. kept_for other (b.active s)) 1 32 (λ s low. same s)

-- where more is kept for one session and as much for the others, that much more is kept in all
pub reserved_but : (undo other : ℕ → List UndoEntry) (a b : Account) (s more : ℕ) → IsSession s → kept_for undo (a.active s) + more ≡ kept_for other (b.active s)
    → ((r : ℕ) → r ≢ s → kept_for undo (a.active r) ≡ kept_for other (b.active r)) → reserved undo a + more ≡ reserved other b
unfolding sessions
reserved_but undo other a b s more session own others =
    let low = session.0 in
    let high = session.1 in
    sum_but (λ r. kept_for undo (a.active r)) (λ r. kept_for other (b.active r)) s more 1 32 low (omega arith) own others

own_session : (active : ℕ → Option Transaction) (s : ℕ) (x : Option Transaction) → with_active active s x s ≡ x
own_session active s x = ap (λ b. if b then x else active s) (eq-eqb s s refl)

other_session : (active : ℕ → Option Transaction) (s : ℕ) (x : Option Transaction) (r : ℕ) → r ≢ s → with_active active s x r ≡ active r
other_session active s x r other = ap (λ b. if b then x else active r) (ne_eqb r s other)

-- what was kept for a transaction is free when it has ended
pub reserved_without : (undo : ℕ → List UndoEntry) (a : Account) (s : ℕ) (t : Transaction) → IsSession s → a.active s ≡ Some t
    → reserved undo (record a { active = with_active a.active s None }) + undo_bytes (undo t.number) ≡ reserved undo a
reserved_without undo a s t session is =
    let before = ap (kept_for undo) is in
    let after = ap (kept_for undo) (own_session a.active s None) in
    reserved_but undo undo (record a { active = with_active a.active s None }) a s (undo_bytes (undo t.number)) session (omega arith)
    (λ r other. ap (kept_for undo) (other_session a.active s None r other))

-- more is kept when one has begun
pub reserved_with : (undo : ℕ → List UndoEntry) (a : Account) (s : ℕ) (t : Transaction) → IsSession s → a.active s ≡ None
    → reserved undo (record a { active = with_active a.active s (Some t) }) ≡ reserved undo a + undo_bytes (undo t.number)
reserved_with undo a s t session none =
    let before = ap (kept_for undo) none in
    let after = ap (kept_for undo) (own_session a.active s (Some t)) in
    sym (reserved_but undo undo a (record a { active = with_active a.active s (Some t) }) s (undo_bytes (undo t.number)) session (omega arith)
    (λ r other. sym (ap (kept_for undo) (other_session a.active s (Some t) r other))))

-- What has to be kept.

-- the bytes that are kept for the end of a session's transaction
abbrev kept_in : Account → FinMap nat_cmp (List UndoEntry) → ℕ → ℕ
kept_in a undo s = kept_for (undo_in undo) (a.active s)

-- An active transaction of one of the `n` sessions from `from` on has the number `q`.
record IsActiveFrom (a : Account) (from n q : ℕ) : Type 0 where
  session : ℕ
  transaction : Transaction
  active : a.active session ≡ Some transaction
  number : transaction.number ≡ q
  low : from ≤ session
  high : session < from + n

no_entries : (es : List Loser) (undo : FinMap nat_cmp (List UndoEntry)) → entries undo ≡ es → EachKeyed (λ q us. ⊥) undo → bytes_over undo ≡ 0
no_entries [] undo is none = ap (λ es. sum_over undo_bytes es) is
no_entries (e ∷ es) undo is none = absurd (none e.0 e.1 (get_first undo e.0 e.1 es is))

few_bytes : (us : List UndoEntry) → bytes_for us ≤ undo_bytes us
few_bytes [] = omega arith
few_bytes (u ∷ us) = omega arith

fewer : (undo : FinMap nat_cmp (List UndoEntry)) (k q : ℕ) → length (undo_in (remove undo k) q) ≤ length (undo_in undo q)
fewer undo k q = elim (cases_eq q k) [
  | inl same ↦
      let none : length (undo_in (remove undo k) q) ≡ 0 = ap (λ n. length (undo_in (remove undo k) n)) same ∙ ap (λ o. length (unwrap_or o [])) (get_removed undo k) in
      omega arith
  | inr other ↦ let same = ap (λ o. length (unwrap_or o [])) (get_kept undo k q other) in omega arith
]

fewer_kept : (undo : FinMap nat_cmp (List UndoEntry)) (k : ℕ) (o : Option Transaction) → kept_for (undo_in (remove undo k)) o ≤ kept_for (undo_in undo) o
fewer_kept undo k None = omega arith
fewer_kept undo k (Some t) = let less = fewer undo k t.number in omega arith

none_is_some : (us : List UndoEntry) → None ≡ Some us → ⊥
none_is_some us is = cc

later_session : (a : Account) (from n q : ℕ) → ((t : Transaction) → a.active from ≡ Some t → t.number ≢ q) → IsActiveFrom a from (suc n) q → IsActiveFrom a (from + 1) n q
later_session a from n q first one =
    let low = one.low in
    let high = one.high in
    let apart : from ≢ one.session = λ same. first one.transaction (ap a.active same ∙ one.active) one.number in
    record {
      session = one.session;
      transaction = one.transaction;
      active = one.active;
      number = one.number;
      low = omega arith;
      high = omega arith;
    }

-- what is kept for these sessions is enough for the writes that their active transactions have made
abbrev IsEnough : Account → ℕ → ℕ → Type 0
IsEnough a from n =
    (undo : FinMap nat_cmp (List UndoEntry)) → NoneEmpty undo → EachKeyed (λ q us. IsActiveFrom a from n q) undo
    → bytes_over undo ≤ sum_by (kept_in a undo) (range_with_len from n)

enough_more : (a : Account) (from n : ℕ) (o : Option Transaction) → a.active from ≡ o → IsEnough a (from + 1) n → IsEnough a from (suc n)
enough_more a from n None is rest undo some each =
    let all = sum_by-cons (kept_in a undo) from (range_with_len (from + 1) n) in
    let others = rest undo some (λ q us there. later_session a from n q (λ t active. cc) (each q us there)) in
    omega arith
enough_more a from n (Some t) is rest undo some each =
    let all = sum_by-cons (kept_in a undo) from (range_with_len (from + 1) n) in
    let own = ap (kept_for (undo_in undo)) is in
    let parts = bytes_split undo t.number some in
    let few = few_bytes (undo_in undo t.number) in
    let without = remove undo t.number in
    let not_its = λ (q : ℕ) (us : List UndoEntry) (there : get without q ≡ Some us) (u : Transaction) (active : a.active from ≡ Some u) (same : u.number ≡ q).
    let number : t.number ≡ q = ap (λ (x : Transaction). x.number) (same_Some t u (sym is ∙ active)) ∙ same in
    let gone : None ≡ Some us = sym (get_removed undo t.number) ∙ ap (get without) number ∙ there in
    none_is_some us gone in
    let others = rest without (each_remove (λ q us. us ≢ []) undo t.number some)
    (λ q us there. later_session a from n q (not_its q us there) (each_remove (λ q us. IsActiveFrom a from (suc n) q) undo t.number each q us there)) in
    let less = sum_less (kept_in a without) (kept_in a undo) (from + 1) n (λ r low. fewer_kept undo t.number (a.active r)) in
    omega arith

enough : (a : Account) (from n : ℕ) → IsEnough a from n
enough a from zero undo some each =
    let none = no_entries (entries undo) undo refl (λ q us is. let one = each q us is in let low = one.low in let high = one.high in absurd (omega arith)) in
    omega arith
enough a from (suc n) undo some each = enough_more a from n (a.active from) refl (enough a (from + 1) n) undo some each

-- what is kept is enough to take all writes back that may be taken back, where active transactions wrote them
pub reserve_reserved : (a : Account) (s : State) → AreInSessions a → AreLosers s → EachKeyed (λ q us. IsActive a q) s.undo → reserve s ≤ reserved (undo_of s) a
unfolding sessions
reserve_reserved a s in_sessions sound losers = enough a 1 32 s.undo (none_empty s sound) (λ q us is.
    let one = losers q us is in
    let session = in_sessions one.session one.transaction one.active in
    let low = session.0 in
    let high = session.1 in
    record {
      session = one.session;
      transaction = one.transaction;
      active = one.active;
      number = one.number;
      low = low;
      high = omega arith;
    })
