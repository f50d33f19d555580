-- A print that fails neither in the words nor in the disk ran out of memory.
use Rattle.std.proofs.Common.{◌≡◌, ◌≢◌, ℕ, refl}
use Rattle.disk_model.specs.declared.disk.DiskError.{DiskError}
use Rattle.graph_print.specs.declared.print_error.PrintError.{PrintError}
use Rattle.graph_print.specs.declared.print_error.PrintError.TheVariants as printing
use Rattle.heap_core.specs.declared.errors.GraphError.TheVariants as graphs
use Rattle.heap_core.specs.Causes.{graph_error}

pub only_memory : (e : PrintError) → ((at : ℕ) → e ≢ printing.Damaged at) → ((d : DiskError) → e ≢ printing.Disk d) → graph_error e ≡ graphs.NoMemory
only_memory printing.NoMemory whole works = refl
only_memory (printing.Damaged at) whole works = absurd (whole at refl)
only_memory (printing.Disk d) whole works = absurd (works d refl)
