use Rattle.std.proofs.Common.{◌≡◌, ◌+◌, ◌*◌, ◌<◌, ◌≤◌, ◌++◌, ℕ, List, [], ◌∷◌, length, ap, sym, subst, ◌∙◌, arith}
use Rattle.std.specs.List.{enumerate_from, flat_map, AllByRecursion}
use Rattle.log_machine.proofs.Addresses.{each_address}
use Rattle.log_machine.proofs.ListLaws.{AllByRecursion-append}
use Rattle.log_machine.proofs.WordsFrom.{from_below}
use Rattle.log_machine.specs.Effect.{WritesBelow}
use Rattle.log_machine.specs.Machine.{writes_of}
use Rattle.log_records.specs.Copies.{AreFew}
use Rattle.log_records.specs.declared.copies.ObjectCopy.{ObjectCopy}
use Rattle.log_records.specs.declared.Record.TheVariants.{Flip}
use Rattle.storage_tests.proofs.logged_pages_tests.flip.Goals as goal

abbrev Below : ℕ × ℕ → Type 0
Below w = w.0 < 512

-- what a copy writes
copy_below : (k : ObjectCopy) → k.from < 512 → k.to + length k.words ≤ 512 → AllByRecursion Below (writes_of k)
copy_below k from to = AllByRecursion-append Below (enumerate_from k.to k.words) ((k.from, 4 * k.to + 2) ∷ []) (from_below k.to 512 k.words to) (from, tt)

-- and two of them
two_below : (k l : ObjectCopy) → AllByRecursion Below (writes_of k) → AllByRecursion Below (writes_of l) → WritesBelow 512 (Flip (k ∷ l ∷ []))
two_below k l one other =
    each_address (λ a. a < 512) (flat_map writes_of (k ∷ l ∷ []))
    (AllByRecursion-append Below (writes_of k) (writes_of l ++ []) one (AllByRecursion-append Below (writes_of l) [] other tt))

-- the copies are these two
two_are : (none one two : List ObjectCopy) (k l : ObjectCopy) → none ≡ [] → one ≡ none ++ k ∷ [] → two ≡ one ++ l ∷ [] → two ≡ k ∷ l ∷ []
two_are none one two k l empty first second = second ∙ ap (λ (ks : List ObjectCopy). ks ++ l ∷ []) (first ∙ ap (λ (ks : List ObjectCopy). ks ++ k ∷ []) empty)

pub new-requires : goal.new-requires
new-requires c =
    let are = two_are c.new-copies.result.items c.push.new.self.items c.push-2.new.self.items c.in_ok-copied.field-0 c.in_ok-copied-2.field-0 c.new-copies.ensures.items c.in_ok-push.ensures.items c.in_ok-push-2.ensures.items in
    let one = c.in_ok-copied.ensures in
    let other = c.in_ok-copied-2.ensures in
    subst AreFew (sym are) (record { count = omega arith; words = (omega (arith, one.2), (omega (arith, other.2), tt)) })

pub returns : goal.returns
returns c =
    let are = two_are c.new-copies.result.items c.push.new.self.items c.push-2.new.self.items c.in_ok-copied.field-0 c.in_ok-copied-2.field-0 c.new-copies.ensures.items c.in_ok-push.ensures.items c.in_ok-push-2.ensures.items in
    let one = c.in_ok-copied.ensures in
    let other = c.in_ok-copied-2.ensures in
    let first = copy_below c.in_ok-copied.field-0 (omega (arith, one.0)) (omega (arith, one.1, one.2)) in
    let second = copy_below c.in_ok-copied-2.field-0 (omega (arith, other.0)) (omega (arith, other.1, other.2)) in
    let Fits : List ObjectCopy → Type 0 = λ ks. WritesBelow 512 (Flip ks) in
    subst Fits (sym (c.new.ensures ∙ are)) (two_below c.in_ok-copied.field-0 c.in_ok-copied-2.field-0 first second)
