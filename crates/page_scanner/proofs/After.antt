-- Records of a collection that can follow one another are records of a log that can.
use Rattle.std.proofs.Common.{◌≡◌, List, [], ◌∷◌, Some, ap, ◌∙◌}
use Rattle.std.specs.Prelude.{option_and_then}
use Rattle.std.proofs.lemmas.Option.{option_and_then_some}
use Rattle.log_records.specs.declared.Record.{Record}
use Rattle.log_records.specs.declared.Record.TheVariants.{Update, Base, Fix, Undo, Commit, End, Copy, Scan, Flip, Collected}
use Rattle.log_machine.specs.Machine.{State, after, after_all}
use Rattle.log_machine.specs.Collecting.{collecting_after}
use Rattle.page_scanner.specs.Passing.{collecting_after_all}

-- one
pub after_collecting : (s n : State) (rec : Record) → collecting_after s rec ≡ Some n → after s rec ≡ Some n
after_collecting s n (Copy from to words) e = e
after_collecting s n (Scan page writes) e = e
after_collecting s n (Flip copies) e = e
after_collecting s n Collected e = e
after_collecting s n (Update t object field was word) e = absurd (cc e)
after_collecting s n (Base t address words) e = absurd (cc e)
after_collecting s n (Fix t object field word) e = absurd (cc e)
after_collecting s n (Undo t object field word) e = absurd (cc e)
after_collecting s n (Commit t) e = absurd (cc e)
after_collecting s n (End t) e = absurd (cc e)

-- several
pub after_all_collecting : (s n : State) (rs : List Record) → collecting_after_all s rs ≡ Some n → after_all s rs ≡ Some n
after_all_collecting s n [] e = e
after_all_collecting s n (r ∷ rs) e =
    option_and_then_some (λ next. collecting_after_all next rs) (collecting_after s r) n e (λ next first rest.
    ap (λ o. option_and_then (λ m. after_all m rs) o) (after_collecting s next r first) ∙ after_all_collecting next n rs rest)
