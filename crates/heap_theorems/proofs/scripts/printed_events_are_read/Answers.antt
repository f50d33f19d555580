use Rattle.script_text.proofs.PrintedLaws.{read_text-event_text}
use Rattle.heap_theorems.proofs.scripts.printed_events_are_read.Goals as goal

pub returns : goal.returns
returns c = read_text-event_text
