-- The object is put among those that were found, if it isn't there.
use Rattle.std.proofs.Common.{◌≡◌, ℕ, ◌+◌, Bool, Equal, ◌∙◌, ap, sym, length, arith}
use Rattle.std.specs.Prelude.{if◌then◌else◌}
use Rattle.std.specs.Ordering.{nat_cmp}
use Rattle.std.specs.Cmp.{nat_cmp_total}
use Rattle.std.proofs.lemmas.Bool.{not-false, OnFalse_at}
use Rattle.std.proofs.lemmas.Map.Views.{btree_set_contains_iff}
use Rattle.stability_tracker.proofs.Steps.{meets_new, meets_old}
use Rattle.stability_tracker.proofs.search.Search.meet.Goals as goal

-- numbers that compare as equal are one
one_number : (x y : ℕ) → nat_cmp x y ≡ Equal → x ≡ y
one_number x y same = grind arith

pub returns-in_ok-push : goal.returns-in_ok-push
returns-in_ok-push c =
    let found = c.args.self.now.found.keys in
    let more : length c.insert.new.self.keys ≡ length found + 1 = c.in_ok-insert.ensures.len ∙ ap (λ (b : Bool). length found + (if b then 1 else 0)) c.if-branch.true in
    meets_new c.args.at found c.args.self.now.waiting.items c.insert.new.self.keys c.push.new.self.items c.in_ok-insert.ensures.keys more c.in_ok-insert.ensures.ordered c.in_ok-push.ensures.items

pub returns-else-branch : goal.returns-else-branch
returns-else-branch c =
    let found = c.args.self.now.found in
    meets_old c.args.at found.keys c.args.self.now.waiting.items c.insert.new.self.keys (OnFalse_at c.if-branch.false c.in_ok-insert.ensures.unchanged)
    ((btree_set_contains_iff nat_cmp_total one_number found c.args.at).0 (not-false _ (sym c.in_ok-insert.ensures.added ∙ c.if-branch.false)))
