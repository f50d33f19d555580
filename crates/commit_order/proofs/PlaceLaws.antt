-- What a heap that locks in this way can rely on, at each place of its history.
use Rattle.std.proofs.Common.{◌≡◌, ◌⊎◌, inl, inr, ℕ, List, [], ◌∷◌, ◌++◌, Some, refl, sym, ap, ◌∙◌, subst, append_assoc}
use Rattle.graph_model.specs.declared.reply.Entry.{Entry}
use Rattle.graph_model.specs.Graph.{Graph}
use Rattle.graph_model.specs.ClosedGraph.{IsClosed}
use Rattle.graph_model.specs.Transaction.{Transaction, serial}
use Rattle.graph_model.specs.History.{account, sealed}
use Rattle.graph_model.specs.Locking.{Lock, IsFree}
use Rattle.commit_order.proofs.LockingLaws.{locks_of-other}
use Rattle.commit_order.proofs.OrderLaws.{two_phase_ordered}
use Rattle.commit_order.specs.SerialOrder.{EachEntry, RefusesConflicts, AnswersByView, BeginsAnew, IsTwoPhase, HasPlainReplies}

same_head : {X : Type 0} (x y : X) (xs ys : List X) → x ∷ xs ≡ y ∷ ys → x ≡ y
same_head x y xs ys is = cc

same_tail : {X : Type 0} (x y : X) (xs ys : List X) → x ∷ xs ≡ y ∷ ys → xs ≡ ys
same_tail x y xs ys is = cc

not_nil : {X : Type 0} (xs : List X) (y : X) (ys : List X) → [] ≡ xs ++ y ∷ ys → ⊥
not_nil [] y ys is = cc
not_nil (x ∷ xs) y ys is = cc

-- an element of a list with one more after it is that one, or stands in the list
last_or_before : {X : Type 0} (xs : List X) (last : X) (before : List X) (x : X) (after : List X) → xs ++ last ∷ [] ≡ before ++ x ∷ after
    → ((before ≡ xs) × (x ≡ last)) ⊎ ((rest : List X) × (xs ≡ before ++ x ∷ rest))
last_or_before [] last [] x after is = inl (refl, sym (same_head last x [] after is))
last_or_before [] last (b ∷ before) x after is = absurd (not_nil before x after (same_tail last b [] (before ++ x ∷ after) is))
last_or_before (y ∷ xs) last [] x after is = inr (xs, ap (λ z. z ∷ xs) (same_head y x (xs ++ last ∷ []) after is))
last_or_before (y ∷ xs) last (b ∷ before) x after is =
    let same = same_head y b (xs ++ last ∷ []) (before ++ x ∷ after) is in
    elim (last_or_before xs last before x after (same_tail y b (xs ++ last ∷ []) (before ++ x ∷ after) is)) [
      | inl now ↦ inl (ap (λ l. b ∷ l) now.0 ∙ ap (λ z. z ∷ xs) (sym same), now.1)
      | inr earlier ↦ inr (earlier.0, ap (λ z. z ∷ xs) same ∙ ap (λ l. b ∷ l) earlier.1)
    ]

-- what holds of each entry holds of each with one more entry, if it holds of that one
pub EachEntry-append : (P : List Entry → Entry → Type 0) (history : List Entry) (e : Entry) → EachEntry P history → P history e → EachEntry P (history ++ e ∷ [])
EachEntry-append P history e each own before x after is =
    elim (last_or_before history e before x after is) [
      | inl now ↦ subst (λ h. P h x) (sym now.0) (subst (P history) (sym now.1) own)
      | inr earlier ↦ each before x earlier.0 earlier.1
    ]

-- what holds of each entry of a history holds of each of its first ones
pub EachEntry-before : (P : List Entry → Entry → Type 0) (history before rest : List Entry) → history ≡ before ++ rest → EachEntry P history → EachEntry P before
EachEntry-before P history before rest is each first x after here = each first x (after ++ rest) (is ∙ ap (λ h. h ++ rest) here ∙ append_assoc first (x ∷ after) rest)

-- A history in which nothing happened has plain replies, and is under two-phase locking.
pub nothing_plain : (g0 : Graph) → IsClosed g0 → HasPlainReplies g0 []
nothing_plain g0 closed = record {
  closed = closed;
  answered = λ before e after is. absurd (not_nil before e after is);
  numbered = λ before e after is. absurd (not_nil before e after is);
}

pub nothing_two_phase : (g0 : Graph) → IsTwoPhase g0 []
nothing_two_phase g0 = record { locked = λ before e after is. absurd (not_nil before e after is) }

-- So does one with one more entry that was answered by what its transaction saw,
pub plain_append : (g0 : Graph) (history : List Entry) (e : Entry) → AnswersByView g0 history e → BeginsAnew g0 history e → HasPlainReplies g0 history → HasPlainReplies g0 (history ++ e ∷ [])
plain_append g0 history e answered numbered plain = record {
  closed = plain.closed;
  answered = EachEntry-append (AnswersByView g0) history e plain.answered answered;
  numbered = EachEntry-append (BeginsAnew g0) history e plain.numbered numbered;
}

-- and is one that refuses conflicts.
pub two_phase_append : (g0 : Graph) (history : List Entry) (e : Entry) → RefusesConflicts g0 history e → IsTwoPhase g0 history → IsTwoPhase g0 (history ++ e ∷ [])
two_phase_append g0 history e locked two_phase = record { locked = EachEntry-append (RefusesConflicts g0) history e two_phase.locked locked }

-- The first entries of such a history are such a history.
pub plain_before : (g0 : Graph) (history before rest : List Entry) → history ≡ before ++ rest → HasPlainReplies g0 history → HasPlainReplies g0 before
plain_before g0 history before rest is plain = record {
  closed = plain.closed;
  answered = EachEntry-before (AnswersByView g0) history before rest is plain.answered;
  numbered = EachEntry-before (BeginsAnew g0) history before rest is plain.numbered;
}

pub two_phase_before : (g0 : Graph) (history before rest : List Entry) → history ≡ before ++ rest → IsTwoPhase g0 history → IsTwoPhase g0 before
two_phase_before g0 history before rest is two_phase = record { locked = EachEntry-before (RefusesConflicts g0) history before rest is two_phase.locked }

-- No other transaction holds what an active one made. So a transaction needs no lock on what it made itself.
pub made_is_free : (g0 : Graph) (history : List Entry) → HasPlainReplies g0 history → IsTwoPhase g0 history → (s : ℕ) (t : Transaction) (lock : Lock) → (account history).active s ≡ Some t → lock.0.t ≡ t.number
    → IsFree g0 (account history) t.number (Some lock)
made_is_free g0 history plain two_phase s t lock active own other way =
    let o = two_phase_ordered g0 history plain two_phase in
    let holds = way.holds in
    locks_of-other (serial g0 (sealed history)) holds.transaction t.number lock.0 way.mode o.closed (λ same. way.differs (sym holds.number ∙ same)) (o.unused s t active) holds.lock own
