-- What a worker has sent, and how all of them ended.
use Rattle.std.proofs.Common.{◌≡◌, ◌⊎◌, ◌+◌, ◌<◌, ℕ, suc, List, [], ◌∷◌, length, Result, Ok, Err, Some, slice_get, inl, inr, refl, sym, subst, arith, append_assoc, append-nil}
use Rattle.std.specs.Prelude.{◌↔◌, All, IsErr, IsOk, MatchResult}
use Rattle.std.specs.Result.{result_and}
use Rattle.std.proofs.lemmas.List.Elements.{All-cons, All-head, All-tail}
use Rattle.std.specs.declared.alloc.AllocError.{AllocError}
use Rattle.graph_model.specs.declared.event.Event.{Event}
use Rattle.graph_model.specs.declared.reply.Entry.{Entry}
use Rattle.graph_model.specs.declared.reply.Refusal.TheVariants.{Failed}
use Rattle.graph_model.specs.declared.reply.Reply.TheVariants.{Refused}
use Rattle.heap_workers.specs.Playing.{Played, IsBegun, IsUnfinished, Makes, calls_made}

-- Where nothing was sent yet, anything can follow.
pub nothing_begun : (tries : ℕ) (events : List Event) → 0 < tries → IsBegun tries events []
nothing_begun tries [] some = ([], refl)
nothing_begun tries (event ∷ events) some =
    let last : Entry = record { event = event; reply = Refused (Failed 1) } in
    let made : Makes tries event [] last = record { again = tt; last_is = inl (some, refl, refl) } in
    (last ∷ [], ([], last, [], refl, made, refl))

-- all that is sent has it as its beginning
pub played_is_begun : (tries : ℕ) (events : List Event) (part : List Entry) → Played tries events part → IsBegun tries events part
played_is_begun tries events part played = ([], subst (Played tries events) (sym (append-nil part)) played)

-- so does what goes on
pub unfinished_is_begun : (tries : ℕ) (events : List Event) (part : List Entry) → IsUnfinished tries events part → IsBegun tries events part
unfinished_is_begun tries events part (next, (more, is)) = (next ∷ more, subst (Played tries events) (append_assoc part (next ∷ []) more) is)

not_ok : {E : Type 0} (e : E) → IsOk {T = Unit {0}} (Err e) → ⊥
not_ok e is = cc

-- what one worker's own end says of its part holds for the end of all
pub part_of_all : {P Q R : Type 0} (own end : Result (Unit {0}) AllocError) → (IsOk end → IsOk own) → (P → R) → (Q → R) → MatchResult own (λ _. P) (λ _. Q) → MatchResult end (λ _. P) (λ _. R)
part_of_all (Ok done) (Ok all) so whole cut part = part
part_of_all (Ok done) (Err e) so whole cut part = whole part
part_of_all (Err e) (Ok all) so whole cut part = absurd (not_ok e (so refl))
part_of_all (Err e) (Err f) so whole cut part = cut part

pub not_both : {E : Type 0} (end : Result (Unit {0}) E) → IsOk end → IsErr end → ⊥
not_both (Ok done) ok err = cc
not_both (Err e) ok err = cc

-- each call was answered, or all but one
pub calls_ok : (end : Result (Unit {0}) AllocError) (part : List Entry) → IsOk end → calls_made end part ≡ length part
calls_ok (Ok done) part ok = refl
calls_ok (Err e) part ok = absurd (not_ok e ok)

pub calls_err : (end : Result (Unit {0}) AllocError) (part : List Entry) → IsErr end → calls_made end part ≡ length part + 1
calls_err (Ok done) part err = cc
calls_err (Err e) part err = refl

-- what the end of a worker that ran out of memory says of its part
pub err_part : (P : Type 0) {Q : Type 0} (end : Result (Unit {0}) AllocError) → IsErr end → MatchResult end (λ _. P) (λ _. Q) → Q
err_part P (Ok done) err part = absurd (not_both {E = AllocError} (Ok done) refl err)
err_part P (Err e) err part = part

-- all ended well, or this one did not
pub ends_found : {X E : Type 0} (end_of : X → Result (Unit {0}) E) (xs : List X) → All (λ s. IsOk (end_of s)) xs ⊎ ((i : ℕ) × (x : X) × (slice_get xs i ≡ Some x) × IsErr (end_of x))
ends_found end_of [] = inl (λ i d lt. absurd (omega arith))
ends_found {X = X} {E = E} end_of (x ∷ xs) =
    let Found : Type 0 = All (λ s. IsOk (end_of s)) (x ∷ xs) ⊎ ((i : ℕ) × (y : X) × (slice_get (x ∷ xs) i ≡ Some y) × IsErr (end_of y)) in
    let here : (end : Result (Unit {0}) E) → end_of x ≡ end → Found = λ end is. elim end as (λ e. end_of x ≡ e → Found) [
      | Err e ↦ λ is. inr (0, x, refl, subst IsErr (sym is) refl)
      | Ok done ↦ λ is. elim (ends_found end_of xs) as (λ _. Found) [
        | inl all ↦ inl (All-cons (λ s. IsOk (end_of s)) x xs (subst IsOk (sym is) refl) all)
        | inr found ↦ inr (suc found.0, found.1, found.2, found.3)
      ]
    ] is in
    here (end_of x) refl

ok_both : {E : Type 0} (a b : Result (Unit {0}) E) → (IsOk (result_and a b) → IsOk a × IsOk b) × (IsOk a → IsOk b → IsOk (result_and a b))
ok_both (Ok a) b = ((λ ok. (refl, ok)), (λ _ ok. ok))
ok_both (Err e) b = ((λ ok. absurd (not_ok e ok)), (λ ok _. absurd (not_ok e ok)))

-- all ends are good if one more is, and the others were
pub end_more : {X E : Type 0} (end_of : X → Result (Unit {0}) E) (x : X) (xs : List X) (end new : Result (Unit {0}) E) → new ≡ result_and end (end_of x) → (IsOk end ↔ All (λ s. IsOk (end_of s)) xs) → IsOk new ↔ All (λ s. IsOk (end_of s)) (x ∷ xs)
end_more end_of x xs end new is so =
    let both = ok_both end (end_of x) in (
      (λ ok. let own = both.0 (subst IsOk is ok) in All-cons (λ s. IsOk (end_of s)) x xs own.1 (so.0 own.0)),
      (λ all. subst IsOk (sym is) (both.1 (so.1 (All-tail (λ s. IsOk (end_of s)) x xs all)) (All-head (λ s. IsOk (end_of s)) x xs all))),
    )
