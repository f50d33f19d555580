use Rattle.std.proofs.Common.{◌≡◌, ◌++◌, zip}
use Rattle.std.specs.List.{flat_map}
use Rattle.graph_words.specs.Promotion.{fix_of}
use Rattle.sealing.proofs.records.add_fixes.Given as goal

abbrev pub invariant-loop-object : goal.invariant-loop-object
invariant-loop-object l =
    let fixes = fix_of l.t l.words (zip l.objects l.addresses) in
    l.records.items ++ flat_map fixes l.object-iterator ≡ l.fn.records.items ++ flat_map fixes l.fields.keys
