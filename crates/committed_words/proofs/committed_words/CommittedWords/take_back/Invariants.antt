use Rattle.std.proofs.Common.{◌≡◌, ◌<◌, length, reverse}
use Rattle.std.specs.List.{AllByRecursion}
use Rattle.log_machine.specs.declared.UndoEntry.{UndoEntry}
use Rattle.log_machine.specs.Machine.{field_at, taken_back}
use Rattle.committed_words.specs.Committed.{words_of}
use Rattle.committed_words.proofs.TakenBack.{IsTakenBack}
use Rattle.committed_words.proofs.committed_words.CommittedWords.take_back.Given as goal

abbrev pub invariant-loop-entry : goal.invariant-loop-entry
invariant-loop-entry l = record {
  size : length (words_of l.self) ≡ length (words_of l.fn.self);
  inside : AllByRecursion (λ (u : UndoEntry). field_at u.object u.field < length (words_of l.fn.self)) l.entry-iterator.iter.rest.now;
  newest : IsTakenBack l.undo l.entry-iterator.iter.rest.now (words_of l.fn.self) (words_of l.self);
  so_far : taken_back (reverse l.entry-iterator.iter.rest.now) (words_of l.self) ≡ taken_back (reverse l.undo) (words_of l.fn.self);
}
