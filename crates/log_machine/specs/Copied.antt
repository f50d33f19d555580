-- What a collection keeps of the copies that a record lists.
use Rattle.std.specs.Prelude.{List, map}
use Rattle.heap_spaces.specs.declared.collection.CopiedObject.{CopiedObject}
use Rattle.log_records.specs.Copied.{copy_header, copy_size}
use Rattle.log_records.specs.declared.copies.ObjectCopy.{ObjectCopy}

-- what it keeps of a copy
abbrev pub moved_object : ObjectCopy → CopiedObject
moved_object copy = record { from = copy.from; to = copy.to; header = copy_header copy; words = copy_size copy }

abbrev pub moved_objects : List ObjectCopy → List CopiedObject
moved_objects copies = map moved_object copies
