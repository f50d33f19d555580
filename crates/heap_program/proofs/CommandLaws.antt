-- What the command says of a run.
use Rattle.std.proofs.Common.{◌≡◌, ◌≢◌, ℕ, ◌+◌, List, Bool, Option, Some, None, refl, sym, subst, arith}
use Rattle.disk_model.specs.declared.disk.Disk.{Ghosts}
use Rattle.disk_model.specs.Disk.{Only}
use Rattle.disk_model.proofs.MomentLaws.{begins}
use Rattle.graph_model.specs.Graph.{Graph}
use Rattle.image_plan.specs.Plan.{log_offset}
use Rattle.heap_recovery.proofs.FaultLaws.{same_outside}
use Rattle.command_words.specs.declared.commands.Command.{Command}
use Rattle.command_words.specs.declared.commands.Command.TheVariants as asked
use Rattle.command_words.specs.declared.commands.CommandError.{CommandError}
use Rattle.command_words.specs.declared.commands.CommandError.TheVariants as asking
use Rattle.command_words.specs.declared.commands.Stop.{Stop}
use Rattle.heap_model.proofs.Opening.Held.{left_as_found}
use Rattle.heap_model.specs.Image.{StoredHeap, Holds, SameOutsideLog}
use Rattle.heap_model.specs.Opening.{IsLeftByOpening}
use Rattle.heap_program.specs.declared.status.Status.{Status}
use Rattle.heap_program.specs.declared.status.Status.TheVariants as status
use Rattle.heap_core.specs.declared.errors.FormatError.{FormatError}
use Rattle.heap_core.specs.declared.errors.FormatError.TheVariants as format
use Rattle.command_words.specs.declared.commands.Numbers.{Numbers}
use Rattle.heap_program.specs.Commands.{makes, IsEndOf, PrintsGraph}
use Rattle.heap_program.specs.Headline.{IsEndOfPlay, BlamesNoImage, graph_text, starts_asked, restarts_asked}
use Rattle.heap_program.specs.Load.{RunsLoad}
use Rattle.heap_program.specs.Causes.{IsInputError, IsOpenedEnd}
use Rattle.heap_program.proofs.RunLaws.{load_not_run}
use Rattle.heap_program.specs.StatusOf.{command_status, format_status}
use Rattle.heap_program.proofs.Written.{none_written}

-- words spell one command
pub same_play : (a : Option ℕ) (s : Option Stop) (b : Option ℕ) (t : Option Stop) → Some (asked.Play a s) ≡ Some (asked.Play b t) → (a ≡ b) × (s ≡ t)
same_play a s b t same = (cc, cc)

pub same_load : (x n : ℕ) (a : Option ℕ) (y m : ℕ) (b : Option ℕ) → asked.Load x n a ≡ asked.Load y m b → (x ≡ y) × (n ≡ m) × (a ≡ b)
same_load x n a y m b same = (cc, cc, cc)

-- words that are no command, or for which there was no memory, end in no run that is done
pub command_not_done : (e : CommandError) → command_status e ≡ status.Done → ⊥
command_not_done asking.Usage is = cc
command_not_done asking.NoMemory is = cc

pub command_not_refused : (e : CommandError) → command_status e ≡ status.WriteFault → ⊥
command_not_refused asking.Usage is = cc
command_not_refused asking.NoMemory is = cc

-- Memory ran out while the words were read: nothing was done.
pub graph_unread : {D : Type 0} (g : Ghosts D) (disk : D) (e : CommandError) (words : Option Command) → words ≡ Some asked.Graph → (e ≡ asking.Usage → words ≡ None) → (by : Status) → by ≡ command_status e
    → ((image : List ℕ) → g.left_since disk (g.moment disk) image → g.may_leave disk image) → Only (g.bytes disk) (g.may_leave disk) → (stored : StoredHeap) (graph : Graph) → Holds stored (g.bytes disk)
    → (told : Bool) (before : List ℕ) → PrintsGraph g stored graph disk disk by told before before
graph_unread g disk asking.Usage words is usage by by_is now only stored graph held told before = let none : words ≡ None = usage refl in cc
graph_unread g disk asking.NoMemory words is usage by by_is now only stored graph held told before =
    let still : (image : List ℕ) → g.may_leave disk image → IsLeftByOpening stored image = λ image may. left_as_found (subst (Holds stored) (sym (only image may)) held) in
    record {
      moments = begins g.moment g.left_since disk (IsLeftByOpening stored) (λ image since. still image (now image since));
      left = still;
      outside = begins g.moment g.left_since disk (SameOutsideLog stored.super (g.bytes disk))
          (λ image since. subst (SameOutsideLog stored.super (g.bytes disk)) (sym (only image (now image since))) (same_outside log_offset (log_offset + stored.super.log_bytes) (g.bytes disk)));
      calls = record { times = 0; most = omega arith; all = λ done. cc; told = refl };
      restarts = refl;
      holds = λ done. cc;
      settled = λ other. only;
      written = λ t. record { front = none_written before (graph_text graph); whole = λ done. cc };
      end = rw by_is tt;
    }

-- The same of a load.
pub load_unread : {D : Type 0} (g : Ghosts D) (disk : D) → Only (g.bytes disk) (g.may_leave disk) → ((image : List ℕ) → g.left_since disk (g.moment disk) image → g.may_leave disk image) → (seed count : ℕ) (fresh : Option ℕ) (e : CommandError) (words : Option Command)
    → words ≡ Some (asked.Load seed count fresh) → (e ≡ asking.Usage → words ≡ None) → (by : Status) → by ≡ command_status e → (told : Bool) (before : List ℕ) → RunsLoad g fresh seed count disk disk by told before before
load_unread g disk only now seed count fresh asking.Usage words is usage by by_is told before = let none : words ≡ None = usage refl in cc
load_unread g disk only now seed count fresh asking.NoMemory words is usage by by_is told before = load_not_run g disk only now fresh seed count by told before (rw by_is tt)

-- The statuses of a format: those of what it writes, and of its errors.
pub written_format : (n : Numbers) (s : Status) → IsEndOfPlay s → IsEndOf (asked.Format n) s
written_format n status.Done end = end
written_format n status.NoMemory end = end
written_format n status.Usage end = end
written_format n (status.Script line) end = end
written_format n status.ReadFault end = end
written_format n status.WriteFault end = end
written_format n status.DiskFault end = end
written_format n status.NotHeap end = end
written_format n (status.Damaged at) end = end
written_format n (status.TooSmall size need) end = absurd end

-- it says nothing against an image
pub format_sound : (n : Numbers) (s : Status) → IsEndOf (asked.Format n) s → BlamesNoImage s
format_sound n status.Done end = tt
format_sound n status.NoMemory end = tt
format_sound n status.Usage end = absurd end
format_sound n (status.Script line) end = absurd end
format_sound n status.ReadFault end = absurd end
format_sound n status.WriteFault end = tt
format_sound n status.DiskFault end = tt
format_sound n status.NotHeap end = absurd end
format_sound n (status.Damaged at) end = absurd end
format_sound n (status.TooSmall size need) end = tt

-- one that a stop asks for restarts a disk
pub starts_some : (again : Option ℕ) → starts_asked again ≡ 0 → ⊥
starts_some None asks = omega arith
starts_some (Some m) asks = omega arith

-- without a restart no stop was asked
pub no_stop : (stop : Option Stop) → restarts_asked stop ≡ 0 → stop ≡ None
no_stop None is = refl
no_stop (Some stop) is = absurd (starts_some stop.again is)

-- a load that makes no heap names no pages
pub load_made : (seed count : ℕ) (fresh : Option ℕ) → makes (asked.Load seed count fresh) ≡ None → fresh ≡ None
load_made seed count None none = refl
load_made seed count (Some pages) none = cc

pub none_loaded : (seed count : ℕ) (fresh : Option ℕ) → fresh ≡ None → makes (asked.Load seed count fresh) ≡ None
none_loaded seed count None none = refl
none_loaded seed count (Some pages) none = cc

-- a play that makes no heap names no pages
pub not_made : (fresh : Option ℕ) (stop : Option Stop) → makes (asked.Play fresh stop) ≡ None → fresh ≡ None
not_made None stop none = refl
not_made (Some pages) stop none = cc

pub none_made : (fresh : Option ℕ) (stop : Option Stop) → fresh ≡ None → makes (asked.Play fresh stop) ≡ None
none_made None stop none = refl
none_made (Some pages) stop none = cc

pub format_ends : (n : Numbers) (e : FormatError) → IsEndOf (asked.Format n) (format_status e)
format_ends n (format.TooSmall size need) = tt
format_ends n format.DiskFault = tt
format_ends n format.Stopped = tt

-- nor do words of a command that were not read say anything of an image
pub words_unread : (which : Command) (words : Option Command) (e : CommandError) → words ≡ Some which → (e ≡ asking.Usage → words ≡ None) → IsInputError (command_status e)
words_unread which words asking.Usage is usage = let none : words ≡ None = usage refl in cc
words_unread which words asking.NoMemory is usage = tt

-- those of a play
pub play_ends : (fresh : Option ℕ) (stop : Option Stop) (s : Status) → s ≢ status.Usage → IsEndOf (asked.Play fresh stop) s
play_ends fresh stop status.Done other = tt
play_ends fresh stop status.NoMemory other = tt
play_ends fresh stop status.Usage other = absurd (other refl)
play_ends fresh stop (status.Script line) other = tt
play_ends fresh stop status.ReadFault other = tt
play_ends fresh stop status.WriteFault other = tt
play_ends fresh stop status.DiskFault other = tt
play_ends fresh stop status.NotHeap other = tt
play_ends fresh stop (status.Damaged at) other = tt
play_ends fresh stop (status.TooSmall size need) other = tt

-- and that of words for which there was no memory
pub unread_ends : (which : Command) (words : Option Command) (e : CommandError) (by : Status) → words ≡ Some which → (e ≡ asking.Usage → words ≡ None) → by ≡ command_status e → IsEndOf which by
unread_ends which words asking.Usage by is usage by_is = let none : words ≡ None = usage refl in cc
unread_ends (asked.Format n) words asking.NoMemory by is usage by_is = rw by_is tt
unread_ends (asked.Play fresh stop) words asking.NoMemory by is usage by_is = rw by_is tt
unread_ends (asked.Threads fresh tries) words asking.NoMemory by is usage by_is = rw by_is tt
unread_ends asked.Graph words asking.NoMemory by is usage by_is = rw by_is tt
unread_ends (asked.Load seed count fresh) words asking.NoMemory by is usage by_is = rw by_is tt

-- the statuses of a load: those of a run that has opened a disk, or could not, and of a format
pub opened_load : (seed count : ℕ) (fresh : Option ℕ) (s : Status) → IsOpenedEnd s → IsEndOf (asked.Load seed count fresh) s
opened_load seed count fresh status.Done end = end
opened_load seed count fresh status.NoMemory end = end
opened_load seed count fresh status.Usage end = end
opened_load seed count fresh (status.Script line) end = end
opened_load seed count fresh status.ReadFault end = end
opened_load seed count fresh status.WriteFault end = end
opened_load seed count fresh status.DiskFault end = end
opened_load seed count fresh status.NotHeap end = end
opened_load seed count fresh (status.Damaged at) end = end
opened_load seed count fresh (status.TooSmall size need) end = tt

pub format_load : (seed count : ℕ) (fresh : Option ℕ) (e : FormatError) → IsEndOf (asked.Load seed count fresh) (format_status e)
format_load seed count fresh (format.TooSmall size need) = tt
format_load seed count fresh format.DiskFault = tt
format_load seed count fresh format.Stopped = tt
