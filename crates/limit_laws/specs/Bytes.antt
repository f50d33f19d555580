-- How many bytes of the log a collection takes.
use Rattle.std.specs.Prelude.{ℕ, ◌+◌, ◌*◌, ◌≤◌, List, drop, length, sum_by, Option, None, Some, is_some, if◌then◌else◌}
use Rattle.std.specs.List.{AllByRecursion}
use Rattle.std.specs.FinSet.{len}
use Rattle.graph_model.specs.declared.event.Event.{Event}
use Rattle.graph_model.specs.History.{IsOfSession}
use Rattle.heap_spaces.specs.Collection.{Collection}
use Rattle.log_records.specs.declared.Record.{Record}
use Rattle.log_records.specs.declared.Record.TheVariants.{Scan, Flip}
use Rattle.log_records.specs.Record.{spelling}
use Rattle.log_records.specs.Copied.{copies_in, copied_size}
use Rattle.log_machine.specs.Machine.{State, number_of}
use Rattle.heap_model.specs.Core.{Core, IsRun, all_records, every_record, state_behind}
use Rattle.core_laws.specs.Valid.{IsReached}

-- the bytes of a record of a collection, and none of a transaction's
abbrev pub bytes_of : Record → ℕ
bytes_of rec = if is_some (number_of rec) then 0 else length (spelling rec)

-- how many words a record copies
abbrev pub moved_by_record : Record → ℕ
moved_by_record rec = copied_size (copies_in rec)

-- how many references it redirects to the current space
abbrev pub led_by : Record → ℕ
led_by (Scan page writes) = length writes
led_by rec = 0

-- how many collections it begins
abbrev pub begun_by : Record → ℕ
begun_by (Flip copies) = 1
begun_by rec = 0

-- the records that were appended since a core was this one
abbrev pub appended : Core → Core → List Record
appended c d = drop (length (every_record c)) (every_record d)

abbrev pub left_by : Option Collection → ℕ
left_by None = 0
left_by (Some k) = 7 * len k.gray + 1

-- the bytes, beside those of references, that a collection which runs takes for what is gray already, and to end
abbrev pub left_in : Option State → ℕ
left_in None = 0
left_in (Some s) = left_by s.collection

-- What collections append takes 16 bytes for each word that they copy, 12 for each reference that a scan redirects to the current space, and 6 for
-- each of them, to begin and to end. Scans and the barrier's are among them, however often they come. Where one runs from the first on, it has 7
-- more for each object that is gray then, and one byte to end.
abbrev pub BytesTheorem : Type 0
BytesTheorem =
    (c d : Core) (events : List Event) → IsReached c → AllByRecursion IsOfSession events → IsRun c events d
    → sum_by bytes_of (appended c d) ≤ 16 * sum_by moved_by_record (appended c d) + 12 * sum_by led_by (appended c d) + 6 * sum_by begun_by (appended c d) + left_in (state_behind c (all_records c))
