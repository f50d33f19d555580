-- Laws of how the state follows records, and of the first that can't follow.
use Rattle.std.proofs.Common.{◌≡◌, ℕ, ◌+◌, ◌-◌, ◌<◌, List, [], ◌∷◌, ◌++◌, length, get_or, take, drop, Option, None, Some, is_some, refl, sym, ◌∙◌, ap, subst, arith, take-append-drop}
use Rattle.std.specs.Prelude.{option_and_then}
use Rattle.std.proofs.lemmas.List.{take_more}
use Rattle.log_records.specs.declared.Record.{Record}
use Rattle.log_machine.specs.Machine.{State, start, after, after_all}
use Rattle.log_machine.proofs.ListLaws.{AllByRecursion-append}
use Rattle.log_machine.proofs.MachineLaws.{after_all-append}
use Rattle.log_machine.specs.Effect.{WritesBelow, EachWritesBelow}
use Rattle.log_machine.proofs.StateLaws.{sound_start, sound_after, leads_after, commits_few}
use Rattle.log_machine.proofs.ReserveLaws.{reserve-start, reserve-after}
use Rattle.log_machine.specs.Replay.{Bounds, IsFirstUnshaped}

-- before the first record
pub bounds_start : (pages first : ℕ) → Bounds pages 0 (start pages first)
bounds_start pages first =
    let none = reserve-start pages first in
    record { sound = sound_start pages first; same_pages = refl; few = omega arith; room = omega arith }

-- and with one more
pub bounds_on : (pages i : ℕ) (r : Record) (s n : State) → Bounds pages i s → after s r ≡ Some n → Bounds pages (i + 1) n
bounds_on pages i r s n b is =
    let leads = leads_after s n r is in
    let counted = commits_few s n r is in
    let kept = reserve-after s n r b.sound is in
    record { sound = sound_after s n r b.sound is; same_pages = leads.pages ∙ b.same_pages; few = omega (arith, b.few); room = omega (arith, b.room) }

-- records after one that can't follow
stuck_in : (o : Option State) (rs rest : List Record) → ((n : State) → after_all n rs ≡ None → after_all n (rs ++ rest) ≡ None)
    → option_and_then (λ n. after_all n rs) o ≡ None → option_and_then (λ n. after_all n (rs ++ rest)) o ≡ None
stuck_in None rs rest step stuck = refl
stuck_in (Some n) rs rest step stuck = step n stuck

stuck_behind : (s : State) (rs rest : List Record) → after_all s rs ≡ None → after_all s (rs ++ rest) ≡ None
stuck_behind s [] rest stuck = absurd (cc stuck)
stuck_behind s (r ∷ rs) rest stuck = stuck_in (after s r) rs rest (λ n. stuck_behind n rs rest) stuck

-- and then the records can't all follow one another
pub none_follow : (first : ℕ) (s : State) (rs : List Record) (lsn : ℕ) → IsFirstUnshaped first s rs lsn → after_all s rs ≡ None
none_follow first s rs lsn unshaped =
    let n = lsn + 1 - first in
    ap (λ (l : List Record). after_all s l) (sym (take-append-drop n rs)) ∙ stuck_behind s (take n rs) (drop n rs) unshaped.stuck
