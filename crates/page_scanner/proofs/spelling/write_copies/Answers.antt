-- One copy more is spelled, after those before it.
use Rattle.std.proofs.Common.{◌≡◌, ℕ, ◌+◌, ◌-◌, ◌≤◌, List, [], ◌∷◌, ◌++◌, length, take, map, sym, ap, ◌∙◌, arith, append_assoc, length-append}
use borrow.Rule.Slice.PartMut.{put_mid}
use Rattle.log_records.specs.declared.copies.ObjectCopy.{ObjectCopy}
use Rattle.log_records.specs.Record.{copy_record, spelling, spellings}
use Rattle.page_scanner.specs.PageCopies.{copies_left}
use Rattle.page_scanner.proofs.Spelled.{spelled_more, spelled_at, length-replaced, take-replaced}
use Rattle.page_scanner.proofs.spelling.write_copies.Goals as goal

pub loop-copy-preserved : goal.loop-copy-preserved
loop-copy-preserved c =
    let l = c.loop-copy in
    let copy = c.in-Some.copy in
    let rest = copies_left c.next.new.self in
    let n = l.at + c.copy_length.result - l.at in
    let own = c.write_copy.new.into in
    let left : copies_left c.args.copies ≡ l.yielded ++ copy ∷ rest = l.invariant.left ∙ ap (λ (cs : List ObjectCopy). l.yielded ++ cs) c.in-Some.ensures.steps in
    let bytes = ap (λ (cs : List ObjectCopy). length (spellings (map copy_record cs))) left ∙ spelled_at l.yielded rest copy in
    let spelled : length own ≡ length (spelling (copy_record copy)) = ap (λ (b : List ℕ). length b) c.write_copy.ensures in
    let size : length own ≡ n = omega (arith, spelled, c.copy_length.ensures.value) in
    let within : l.at + n ≤ length l.into = omega (arith, bytes, l.invariant.size, l.invariant.place, c.copy_length.ensures.value) in
    let end : l.at + c.copy_length.result ≡ l.at + n = omega arith in
    record {
      can_next = tt;
      is_finite = tt;
      left = left ∙ sym (append_assoc l.yielded (copy ∷ []) rest);
      size = length-replaced l.at n l.into own within size ∙ l.invariant.size;
      place = omega (arith, l.invariant.place, c.copy_length.ensures.value, ap (λ (b : List ℕ). length b) (spelled_more l.yielded copy), length-append (spellings (map copy_record l.yielded)) (spelling (copy_record copy)));
      front =
          ap (λ (m : ℕ). take m (put_mid l.at n l.into own)) end
          ∙ take-replaced l.at n l.into own within size
          ∙ (λ i. l.invariant.front i ++ c.write_copy.ensures i)
          ∙ sym (spelled_more l.yielded copy);
    }
