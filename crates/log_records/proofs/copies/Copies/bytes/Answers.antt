use Rattle.std.proofs.Common.{◌≡◌, ◌≤◌, ℕ, List, length, ap, sym, subst, arith}
use Rattle.std.specs.List.{AllByRecursion}
use Rattle.log_records.specs.declared.copies.ObjectCopy.{ObjectCopy}
use Rattle.log_records.specs.Copies.{copy_bytes}
use Rattle.log_records.proofs.Lists.{all_at, length_more}
use Rattle.log_records.proofs.RecordLaws.{length-copy_bytes}
use Rattle.log_records.proofs.copies.Copies.bytes.Goals as goal

pub loop-copy-preserved : goal.loop-copy-preserved
loop-copy-preserved c =
    let xs = c.deref-copy-items.result.now in
    let i = c.loop-copy.copy-index in
    let k = c.copy-item.result in
    let lt = c.loop-copy-test.true in
    let words = subst (λ (ks : List ObjectCopy). AllByRecursion (λ (copy : ObjectCopy). length copy.words ≤ 512) ks) (sym c.deref-copy-items.ensures.value) c.self.invariant.words in
    let few : length k.words ≤ 512 = subst (λ (copy : ObjectCopy). length copy.words ≤ 512) (sym c.copy-item.is) (all_at (λ (copy : ObjectCopy). length copy.words ≤ 512) xs i k lt words) in
    let size : length c.as_slice.result.now ≡ length k.words = ap (λ (l : List ℕ). length l) c.as_slice.ensures in
    let inv = c.loop-copy.invariant in
    record {
      so_far = omega (arith, length_more copy_bytes xs i k lt c.copy-item.is, length-copy_bytes k, size, inv.so_far);
      small = omega (arith, inv.small, size, few);
    }
