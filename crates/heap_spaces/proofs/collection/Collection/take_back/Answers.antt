use Rattle.std.proofs.Common.{◌≡◌, ◌+◌, ◌==◌, ◌&&◌, Bool, [], ◌∷◌, ◌++◌, not, get_or, take, ap, ◌∙◌, sym, arith}
use Rattle.std.specs.List.{list_any}
use Rattle.std.specs.FinSet.{contains}
use Rattle.std.proofs.lemmas.List.{take_more}
use Rattle.std.proofs.lemmas.List.Sums.{sum_by_more, sum_by_more_le}
use Rattle.heap_spaces.specs.Addresses.{AddressState}
use Rattle.heap_spaces.specs.declared.collection.CopiedObject.{CopiedObject}
use Rattle.heap_spaces.proofs.AddressLaws.{any_push, removed_more}
use Rattle.heap_spaces.proofs.collection.Collection.take_back.Goals as goal

pub loop-copy-preserved : goal.loop-copy-preserved
loop-copy-preserved c =
    let xs = c.args.copies.now in
    let i = c.loop-copy.copy-index in
    let d : CopiedObject = record { from = 0; to = 0; header = 0; words = 0 } in
    let so_far = c.loop-copy.invariant in
    let within = c.loop-copy-test.true in
    let more : (p : CopiedObject → Bool) → list_any p (take (i + 1) xs) ≡ list_any p (take i xs ++ get_or xs i d ∷ []) = λ p. ap (list_any p) (take_more xs i d within) in
    let sum = sum_by_more (λ (k : CopiedObject). k.words) xs i d within in
    let least = sum_by_more_le (λ (k : CopiedObject). k.words) xs i d within in
    let few = c.requires in
    record {
      used = so_far.used;
      copied = omega (arith, so_far.copied, sum, least, few);
      moved = λ q.
          ap (λ (s : AddressState). contains s.set q) c.remove.ensures
          ∙ removed_more c.loop-copy.self-inside.moved.set (contains c.args.self.now.moved q) (list_any (λ (k : CopiedObject). k.from == q) (take i xs)) (get_or xs i d).from q (so_far.moved q)
          ∙ ap (λ b. contains c.args.self.now.moved q && not b) (sym (more (λ k. k.from == q) ∙ any_push (λ (k : CopiedObject). k.from == q) (take i xs) (get_or xs i d)));
      gray = λ q.
          ap (λ (s : AddressState). contains s.set q) c.remove-in-loop-copy.ensures
          ∙ removed_more c.loop-copy.self-inside.gray.set (contains c.args.self.now.gray q) (list_any (λ (k : CopiedObject). k.to == q) (take i xs)) (get_or xs i d).to q (so_far.gray q)
          ∙ ap (λ b. contains c.args.self.now.gray q && not b) (sym (more (λ k. k.to == q) ∙ any_push (λ (k : CopiedObject). k.to == q) (take i xs) (get_or xs i d)));
    }
