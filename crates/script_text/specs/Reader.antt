-- How far a script has been read, as a value.
use Rattle.script_text.specs.declared.script.Reader.{Reader}
use Rattle.script_text.specs.Script.{Reading}

abbrev pub reading_of : Reader → Reading
reading_of r = record { number = r.number; found = r.found.items }
