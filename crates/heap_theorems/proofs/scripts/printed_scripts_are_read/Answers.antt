use Rattle.heap_theorems.proofs.PrintedScript.{script_printed}
use Rattle.heap_theorems.proofs.scripts.printed_scripts_are_read.Goals as goal

pub returns : goal.returns
returns c = script_printed
