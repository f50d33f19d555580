-- Each part is updated.
use Rattle.std.proofs.Common.{length, map, reverse, ap, ◌∙◌, subst, arith}
use Rattle.std.proofs.lemmas.List.{take_at}
use Rattle.log_machine.specs.Translation.{translated_entry, translated_list}
use Rattle.volatile_area.specs.Area.{AreaState, IsTranslated}
use Rattle.txn_table.specs.Table.{TransactionState}
use Rattle.txn_table.specs.Translation.{translated_handle}
use Rattle.txn_table.proofs.GoneAlong.{reverse_mapped}
use Rattle.txn_table.proofs.transaction.Transaction.translate.Goals as goal

pub returns : goal.returns
returns c =
    let pairs = c.args.pairs.now in
    let kept = c.self.inside in
    let In : AreaState → Type 0 = λ area. IsTranslated pairs area c.translate-2.new.self in
    record {
      number = ap (λ (t : TransactionState). t.number) c.self.view_is;
      handles = c.translate_handles.ensures ∙ ap (λ (t : TransactionState). map (translated_handle pairs) t.handles) c.self.view_is;
      undo =
          ap reverse (take_at c.translate.new.entries _ kept.undo.len (omega (arith, kept.undo.ok.0, c.translate.auto.entries, ap length c.deref_mut.ensures.value)))
          ∙ ap reverse (c.translate.ensures ∙ ap (translated_list pairs) c.deref_mut.ensures.value)
          ∙ reverse_mapped (translated_entry pairs) kept.undo.items
          ∙ ap (λ (t : TransactionState). translated_list pairs t.undo) c.self.view_is;
      area = subst In (ap (λ (t : TransactionState). t.area) c.self.view_is) c.translate-2.ensures;
      sound = c.words-words.ensures.sound;
    }
