-- Laws of loads: one more round, the sessions of their events, and how many events there are.
use Rattle.std.proofs.Common.{◌≡◌, ℕ, suc, zero, ◌+◌, ◌*◌, ◌≤◌, Bool, true, false, List, [], ◌∷◌, ◌++◌, length, sym, ap, ◌∙◌, subst, arith, add-one, length-append}
use Rattle.std.proofs.lemmas.Grind.{flat_map-append}
use Rattle.std.specs.Prelude.{◌==◌, ◌&&◌, ◌%◌, ◌/◌, nat_le, if◌then◌else◌}
use Rattle.std.specs.List.{AllByRecursion}
use Rattle.graph_model.specs.declared.event.Event.{Event}
use Rattle.graph_model.specs.declared.event.Event.TheVariants.{New, Put, Link, Clear, Abort, Flush, Flip, Scan}
use Rattle.graph_model.specs.History.{IsSession, IsOfSession}
use Rattle.script_text.specs.declared.line.Line.{Line}
use Rattle.script_text.specs.declared.line.Line.TheVariants.{One, Commit}
use Rattle.script_text.specs.declared.load.Round.{Round}
use Rattle.script_text.specs.Line.{line_events, events}
use Rattle.script_text.specs.Load.{state_after_round, round_of, opening_lines, object_lines, change_lines, ending_line, upkeep_lines, round_lines, rounds_lines, load_lines}
use Rattle.script_text.proofs.ScriptLaws.{AllByRecursion-append}

-- the lines of one round, and of those that are left
pub rounds_next : (n m i j x y : ℕ) → n ≡ m + 1 → j ≡ i + 1 → y ≡ state_after_round x → rounds_lines n i x ≡ round_lines (round_of i x) ++ rounds_lines m j y
rounds_next n m i j x y more next after =
    ap (λ (k : ℕ). rounds_lines k i x) (more ∙ add-one m)
    ∙ ap (λ (k : ℕ). round_lines (round_of i x) ++ rounds_lines m k (state_after_round x)) (sym next)
    ∙ ap (λ (z : ℕ). round_lines (round_of i x) ++ rounds_lines m j z) (sym after)

-- The events of these lines are of sessions or of none, and there are at most n.
abbrev AreFew : ℕ → List Line → Type 0
AreFew n lines = AllByRecursion IsOfSession (events lines) × (length (events lines) ≤ n)

one : IsSession 1
one = (omega arith, omega arith)

event_few : (event : Event) → IsOfSession event → AreFew 1 (One event ∷ [])
event_few event own = ((own, tt), omega arith)

append_few : (m n : ℕ) (xs ys : List Line) → AreFew m xs → AreFew n ys → AreFew (m + n) (xs ++ ys)
append_few m n xs ys few more =
    let parts = flat_map-append line_events xs ys in
    (subst (AllByRecursion IsOfSession) (sym parts) (AllByRecursion-append IsOfSession (events xs) (events ys) few.0 more.0), omega (arith, ap length parts, length-append (events xs) (events ys), few.1, more.1))

if_few : (n : ℕ) (b : Bool) (xs ys : List Line) → AreFew n xs → AreFew n ys → AreFew n (if b then xs else ys)
if_few n true xs ys few other = few
if_few n false xs ys few other = other

none_few : (n : ℕ) → AreFew n []
none_few n = (tt, omega arith)

opening_few : (r : Round) → AreFew 3 (opening_lines r)
opening_few r = ((one, (one, (one, tt))), omega arith)

object_few : (r : Round) → AreFew 4 (object_lines r)
object_few r =
    let made = One (New 1 1 r.length) ∷ [] in
    let put = if nat_le 1 r.length then One (Put 1 1 0 r.number) ∷ [] else [] in
    let link = if nat_le 2 r.length && nat_le 4 r.act then One (Link 1 1 1 2) ∷ [] else [] in
    let few_put = if_few 1 (nat_le 1 r.length) (One (Put 1 1 0 r.number) ∷ []) [] (event_few (Put 1 1 0 r.number) one) (none_few 1) in
    let few_link = if_few 1 (nat_le 2 r.length && nat_le 4 r.act) (One (Link 1 1 1 2) ∷ []) [] (event_few (Link 1 1 1 2) one) (none_few 1) in
    let first = append_few 1 1 made put (event_few (New 1 1 r.length) one) few_put in
    append_few 3 1 ((made ++ put) ++ link) (One (Link 1 0 r.field 1) ∷ []) (append_few 2 1 (made ++ put) link first few_link) (event_few (Link 1 0 r.field 1) one)

clear_few : (r : Round) → AreFew 4 (One (Clear 1 0 r.field) ∷ [])
clear_few r = ((one, tt), omega arith)

change_few : (r : Round) → AreFew 4 (change_lines r)
change_few r = if_few 4 (r.act == 0) (One (Clear 1 0 r.field) ∷ []) (object_lines r) (clear_few r) (object_few r)

end_few : (b : Bool) → AreFew 2 ((if b then One (Abort 1) else Commit 1) ∷ [])
end_few true = ((one, tt), omega arith)
end_few false = ((one, (tt, tt)), omega arith)

upkeep_few : (i : ℕ) → AreFew 3 (upkeep_lines i)
upkeep_few i =
    let scan = One Scan ∷ [] in
    let flush = if i % 8 == 0 then One (Flush (i / 8 % 2)) ∷ [] else [] in
    let flip = if i % 16 == 0 then One Flip ∷ [] else [] in
    let few_flush = if_few 1 (i % 8 == 0) (One (Flush (i / 8 % 2)) ∷ []) [] (event_few (Flush (i / 8 % 2)) tt) (none_few 1) in
    append_few 2 1 (scan ++ flush) flip (append_few 1 1 scan flush (event_few Scan tt) few_flush) (if_few 1 (i % 16 == 0) (One Flip ∷ []) [] (event_few Flip tt) (none_few 1))

round_few : (r : Round) → AreFew 12 (round_lines r)
round_few r =
    let changed = opening_lines r ++ change_lines r in
    let ended = append_few 7 2 changed (ending_line r ∷ []) (append_few 3 4 (opening_lines r) (change_lines r) (opening_few r) (change_few r)) (end_few (r.act == 1)) in
    append_few 9 3 (changed ++ ending_line r ∷ []) (upkeep_lines r.number) ended (upkeep_few r.number)

rounds_few : (n i x : ℕ) → AreFew (12 * n) (rounds_lines n i x)
rounds_few zero i x = none_few (12 * 0)
rounds_few (suc n) i x =
    let both = append_few 12 (12 * n) (round_lines (round_of i x)) (rounds_lines n (i + 1) (state_after_round x)) (round_few (round_of i x)) (rounds_few n (i + 1) (state_after_round x)) in
    (both.0, omega (arith, both.1))

-- Each event of a load is of its session, or of none.
pub load_sessions : (seed n : ℕ) → AllByRecursion IsOfSession (events (load_lines seed n))
load_sessions seed n = (rounds_few n 1 seed).0

-- A round has at most 12 events.
pub load_few : (seed n : ℕ) → length (events (load_lines seed n)) ≤ 12 * n
load_few seed n = (rounds_few n 1 seed).1
