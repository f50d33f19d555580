use Rattle.std.proofs.Common.{◌≡◌, ℕ, ◌+◌, ◌-◌, ◌*◌, List, [], ◌∷◌, ◌++◌, take, drop, refl, sym, ap, ◌∙◌, subst, arith}
use Rattle.page_store.specs.declared.frame.Stored.{Stored}
use Rattle.page_store.specs.declared.frame.Frame.TheVariants.{First, Second}
use Rattle.page_store.specs.Frame.{counting, lsn_in, words_or}
use Rattle.page_store.specs.Page.{frame_of, page_lsn, page_frame, stored_words, first_words}
use Rattle.page_store.specs.Reading.{IsReadTo}
use Rattle.page_store.proofs.Opening.{read_more, first_there, second_there}
use Rattle.page_store.proofs.store.take_pages.Goals as goal

pub loop-k-preserved : goal.loop-k-preserved
loop-k-preserved c =
    let k = c.loop-k.k in
    let p = c.args.first + k in
    let from = k * 1056 in
    let middle = from + 528 in
    let end = middle + 528 in
    let frames = c.args.frames.now in
    let stored = c.read_page.result.0 in
    let page = c.read_page.result.1 in
    record {
      pages = omega (arith, c.in_ok-push.ensures.len, c.loop-k.invariant.pages);
      size = omega (arith, c.in_ok-extend_from_slice.ensures.len, c.loop-k.invariant.size);
      read = λ log image is was.
          let first : take (middle - from) (drop from frames) ≡ frame_of log p image First = first_there log image c.args.first c.args.some k from middle frames is c.loop-k-test.true refl refl in
          let second : take (end - middle) (drop middle frames) ≡ frame_of log p image Second = second_there log image c.args.first c.args.some k middle end frames is c.loop-k-test.true refl refl in
          let lsn_is : stored.lsn ≡ page_lsn log p image = c.read_page.ensures.lsn ∙ ap (λ (l : List ℕ). lsn_in l (take (end - middle) (drop middle frames))) first ∙ ap (λ (l : List ℕ). lsn_in (frame_of log p image First) l) second in
          let frame_is : stored.counts ≡ page_frame log p image = c.read_page.ensures.counts ∙ ap (λ (l : List ℕ). counting l (take (end - middle) (drop middle frames))) first ∙ ap (λ (l : List ℕ). counting (frame_of log p image First) l) second in
          let page_is : page ≡ stored_words log p image = c.read_page.ensures.words ∙ ap (λ (l : List ℕ). words_or (first_words p) l (take (end - middle) (drop middle frames))) first ∙ ap (λ (l : List ℕ). words_or (first_words p) (frame_of log p image First) l) second in
          let more = read_more log image p c.loop-k.table.items c.loop-k.words.items stored page (c.loop-k.invariant.read log image is was) lsn_is frame_is page_is in
          let next : p + 1 ≡ c.args.first + (k + 1) = omega arith in
          let table : c.loop-k.table.items ++ stored ∷ [] ≡ c.push.new.self.items = sym c.in_ok-push.ensures.items in
          let words : c.loop-k.words.items ++ page ≡ c.extend_from_slice.new.self.items = sym c.in_ok-extend_from_slice.ensures.items in
          subst (λ (n : ℕ). IsReadTo log n c.push.new.self.items c.extend_from_slice.new.self.items image) next
          (subst (λ (l : List ℕ). IsReadTo log (p + 1) c.push.new.self.items l image) words (subst (λ (l : List Stored). IsReadTo log (p + 1) l (c.loop-k.words.items ++ page) image) table more));
    }
