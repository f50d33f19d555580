-- What reads leave of the words that are read.
use Rattle.std.specs.Prelude.{◌≡◌, ℕ, ◌≤◌, ◌++◌, List, length, Bool, IsTrue, Option, Some, None, Result, Ok, Err}
use Rattle.counts.specs.Count.{Rose}
use Rattle.disk_model.specs.declared.disk.DiskError.{DiskError}
use Rattle.disk_model.specs.declared.disk.DiskError.TheVariants.{Failed, Stopped}

-- Words were only read: none changed, all that their kind keeps was kept, neither count fell, an error was returned only if its count rose,
-- and the first stop was none of them.
pub record IsRead {S : Type 0} (tells : Bool) (extent : S → ℕ) (content : S → List ℕ) (keeps : S → S → Type 0) (faults stops : S → ℕ) (old new : S) (failure : Option DiskError) : Type 0 where
  pub same_words : IsTrue tells → content new ≡ content old
  pub same_extent : extent new ≡ extent old
  pub kept : keeps old new
  pub faults_kept : faults old ≤ faults new
  pub stops_kept : stops old ≤ stops new
  pub failed : failure ≡ Some Failed → Rose (faults old) (faults new)
  pub stopped : failure ≡ Some Stopped → Rose (stops old) (stops new)
  pub no_first_stop : stops old ≡ 0 → stops new ≡ 0

-- that many words stand after the others
abbrev pub HasRunAfter : List ℕ → List ℕ → ℕ → Type 0
HasRunAfter before after n = (run : List ℕ) × (after ≡ before ++ run) × (length run ≡ n)

-- the error of a read, if it has one
abbrev pub disk_failure : {T : Type 0} → Result T DiskError → Option DiskError
disk_failure (Ok x) = None
disk_failure (Err error) = Some error
