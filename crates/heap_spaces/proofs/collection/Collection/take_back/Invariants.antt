use Rattle.std.proofs.Common.{◌≡◌, ℕ, ◌+◌, ◌==◌, ◌&&◌, not, take, sum_by}
use Rattle.std.specs.List.{list_any}
use Rattle.std.specs.FinSet.{contains}
use Rattle.heap_spaces.specs.declared.collection.CopiedObject.{CopiedObject}
use Rattle.heap_spaces.proofs.collection.Collection.take_back.Given as goal

-- the copies so far are taken back
abbrev pub invariant-loop-copy : goal.invariant-loop-copy
invariant-loop-copy l = record {
  used : l.self-inside.used ≡ l.fn.self.used;
  copied : l.self-inside.copied + sum_by (λ (c : CopiedObject). c.words) (take l.copy-index l.copies) ≡ l.fn.self.copied;
  moved : (q : ℕ) → contains l.self-inside.moved.set q ≡ (contains l.fn.self.moved q && not (list_any (λ (c : CopiedObject). c.from == q) (take l.copy-index l.copies)));
  gray : (q : ℕ) → contains l.self-inside.gray.set q ≡ (contains l.fn.self.gray q && not (list_any (λ (c : CopiedObject). c.to == q) (take l.copy-index l.copies)));
}
