-- What records copy.
use Rattle.std.specs.Prelude.{List, []}
use Rattle.std.specs.List.{flat_map}
use Rattle.heap_spaces.specs.declared.collection.CopiedObject.{CopiedObject}
use Rattle.log_records.specs.declared.Record.{Record}
use Rattle.log_records.specs.declared.Record.TheVariants.{Flip}
use Rattle.log_records.specs.Copied.{copies_in}
use Rattle.log_machine.specs.Copied.{moved_objects}

-- what a record of a scan copies; no scan has a `Flip`, which copies too
abbrev pub copied_by : Record → List CopiedObject
copied_by (Flip copies) = []
copied_by rec = moved_objects (copies_in rec)

-- what these records copy
abbrev pub copied_in : List Record → List CopiedObject
copied_in records = flat_map copied_by records
