-- The disk's answer in the result of a store's opening.
use Rattle.std.specs.Prelude.{Result, Ok, Err}
use Rattle.disk_model.specs.declared.disk.DiskError.{DiskError}
use Rattle.page_store.specs.declared.store.ReadPagesError.{ReadPagesError}
use Rattle.page_store.specs.declared.store.ReadPagesError.TheVariants.{NoMemory, Disk}

-- the disk's error, if it is one
abbrev pub open_device_result : {T : Type 0} → Result T ReadPagesError → Result (Unit {0}) DiskError
open_device_result (Ok x) = Ok tt
open_device_result (Err NoMemory) = Ok tt
open_device_result (Err (Disk e)) = Err e
