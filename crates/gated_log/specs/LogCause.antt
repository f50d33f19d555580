-- The disk's answer in the result of a log's opening.
use Rattle.std.specs.Prelude.{Result, Ok, Err}
use Rattle.disk_model.specs.declared.disk.DiskError.{DiskError}
use Rattle.gated_log.specs.declared.reading.LogError.{LogError}
use Rattle.gated_log.specs.declared.reading.LogError.TheVariants.{NoMemory, BadBatch, Disk}

-- the disk's error, if it is one
abbrev pub log_device_error : LogError → Result (Unit {0}) DiskError
log_device_error NoMemory = Ok tt
log_device_error (BadBatch at) = Ok tt
log_device_error (Disk e) = Err e

abbrev pub log_device_result : {T : Type 0} → Result T LogError → Result (Unit {0}) DiskError
log_device_result (Ok x) = Ok tt
log_device_result (Err e) = log_device_error e
