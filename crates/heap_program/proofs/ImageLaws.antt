-- What a run says of an image, and does to it, from what an opening of it does.
use Rattle.std.proofs.Common.{◌≡◌, ℕ, ◌≤◌, List, Result, Err, refl, subst, sym, ap, ◌∙◌, arith}
use Rattle.std.specs.Prelude.{IsTrue}
use Rattle.counts.specs.Count.{Rose, counted}
use Rattle.disk_model.specs.declared.disk.Disk.{Ghosts}
use Rattle.disk_model.proofs.MomentLaws.{begins}
use Rattle.heap_core.specs.Causes.{recovery_error}
use Rattle.heap_core.specs.declared.errors.FormatError.{FormatError}
use Rattle.heap_core.specs.declared.errors.FormatError.TheVariants as format
use Rattle.heap_core.specs.declared.errors.OpenError.{OpenError}
use Rattle.heap_core.specs.declared.errors.OpenError.TheVariants as opening
use Rattle.heap_recovery.specs.declared.error.RecoverError.{RecoverError}
use Rattle.heap_recovery.specs.declared.error.RecoverError.TheVariants as recovery
use Rattle.heap_recovery.specs.Opens.{OpensImage}
use Rattle.heap_recovery.specs.Faults as faults
use Rattle.heap_recovery.specs.declared.at.At.{At}
use Rattle.heap_recovery.specs.declared.at.At.TheVariants.{Address}
use Rattle.heap_recovery.specs.Faults.{IsNoHeap, IsErrorOrOutside, IsFaultAt, IsLeftOf}
use Rattle.heap_program.specs.Causes.{IsInputError}
use Rattle.heap_program.specs.Headline.{OfTold, BlamesNoImage, RestartsDisk}
use Rattle.heap_program.specs.Refusals.{IsFault, IsWordFault, CallsOfOneOpening, CallsAtMostOneOpening, fault_calls, IsToldOf, IsToldOfEach, EndsRefused, IsLeftAlone, LeavesAlone, KeepsFault, AnswersImage, AnswersLeft}
use Rattle.heap_program.specs.StatusOf.{format_status, open_status}
use Rattle.heap_program.specs.declared.status.Status.{Status}
use Rattle.heap_program.specs.declared.status.Status.TheVariants as status
use Rattle.heap_program.proofs.PlayOpen.{opening_then}
use Rattle.heap_program.proofs.RefusalLaws.{told_status, refused_by, not_opened, fault_moments, left_moments, at_end, only_read, alone_read, alone_untouched, input_once, once_few, opens_once}
use Rattle.heap_program.proofs.RunLaws.{restarts_none}
use Rattle.heap_program.proofs.WordFaults.{untouched_log}

-- a status that says nothing against an image is true of each
sound_told : (s : Status) (image : List ℕ) → BlamesNoImage s → IsToldOf s image
sound_told status.Done image sound = tt
sound_told status.NoMemory image sound = tt
sound_told status.Usage image sound = tt
sound_told (status.Script line) image sound = tt
sound_told status.ReadFault image sound = tt
sound_told status.WriteFault image sound = tt
sound_told status.DiskFault image sound = tt
sound_told status.NotHeap image sound = absurd sound
sound_told (status.Damaged at) image sound = absurd sound
sound_told (status.TooSmall size need) image sound = tt

-- a run whose input fails says nothing against it, refuses what it was to refuse, and is not done
pub input_sound : (s : Status) → IsInputError s → BlamesNoImage s
input_sound status.Done input = tt
input_sound status.NoMemory input = tt
input_sound status.Usage input = tt
input_sound (status.Script line) input = tt
input_sound status.ReadFault input = tt
input_sound status.WriteFault input = tt
input_sound status.DiskFault input = tt
input_sound status.NotHeap input = absurd input
input_sound (status.Damaged at) input = absurd input
input_sound (status.TooSmall size need) input = tt

input_refused : (expected s : Status) → IsInputError s → EndsRefused expected s
input_refused expected status.Done input = absurd input
input_refused expected status.NoMemory input = tt
input_refused expected status.Usage input = absurd input
input_refused expected (status.Script line) input = tt
input_refused expected status.ReadFault input = tt
input_refused expected status.WriteFault input = absurd input
input_refused expected status.DiskFault input = absurd input
input_refused expected status.NotHeap input = absurd input
input_refused expected (status.Damaged at) input = absurd input
input_refused expected (status.TooSmall size need) input = absurd input

input_not_done : (s : Status) → IsInputError s → s ≡ status.Done → ⊥
input_not_done s input is = subst IsInputError is input

-- a run that could make no heap says nothing against it, is not done, and not refused by its output
pub format_error_sound : (e : FormatError) → BlamesNoImage (format_status e)
format_error_sound (format.TooSmall size need) = tt
format_error_sound format.DiskFault = tt
format_error_sound format.Stopped = tt

pub format_not_done : (e : FormatError) → format_status e ≡ status.Done → ⊥
format_not_done (format.TooSmall size need) is = cc
format_not_done format.DiskFault is = cc
format_not_done format.Stopped is = cc

pub format_not_refused : (e : FormatError) → format_status e ≡ status.WriteFault → ⊥
format_not_refused (format.TooSmall size need) is = cc
format_not_refused format.DiskFault is = cc
format_not_refused format.Stopped is = cc

module _ {D : Type 0} (g : Ghosts D) where
  -- An opening leaves such an image with its fault, however it ends.
  pub keeps_opening : (old new : D) (result : Result (Unit {0}) RecoverError) → OpensImage g old new result → OfTold g.tells (g.bytes old) (g.may_leave old) (KeepsFault g old new)
  keeps_opening old new result image tells only = record {
    keeps_fault = λ expected fault. fault_moments g expected (g.bytes old) old new fault (λ none. (image.not_heap tells none).moments only) (λ at damage. (image.damaged tells at damage).moments only);
    keeps_log = λ fault. left_moments g (g.bytes old) old new fault (λ stored state readable. (image.readable tells stored state readable).moments only);
  }

  -- what an opening's error says of the image that it read, its status says of each image that a crash may leave afterwards
  told_each : (old new : D) (e : OpenError) → faults.IsToldOf (recovery_error e) (g.bytes old) → KeepsFault g old new
      → ((t : ℕ) (image : List ℕ) → t ≤ g.moment new → g.may_leave new image → g.left_since new t image) → IsToldOfEach (open_status e) (g.may_leave new)
  told_each old new opening.NoMemory told keeps counts image may = tt
  told_each old new opening.NotHeap told keeps counts image may = at_end g old new IsNoHeap (keeps.keeps_fault status.NotHeap told) counts image may
  told_each old new (opening.Damaged at) told keeps counts image may = at_end g old new (IsFaultAt at) (keeps.keeps_fault (status.Damaged at) told) counts image may
  told_each old new opening.DiskFault told keeps counts image may = tt
  told_each old new opening.Stopped told keeps counts image may = tt

  module _ (asked : ℕ) (old new : D) (silent : Type 0) where
    -- The heap was not opened, and the run ends so.
    pub answers_refused : (e : OpenError) → silent → (IsTrue g.tells → faults.IsToldOf (recovery_error e) (g.bytes old)) → (IsTrue g.tells → IsNoHeap (g.bytes old) → IsErrorOrOutside recovery.NotHeap (recovery_error e))
        → (IsTrue g.tells → (at : At) → IsFaultAt at (g.bytes old) → IsErrorOrOutside (recovery.Damaged at) (recovery_error e))
        → (IsTrue g.tells → (expected : Status) → IsFault expected (g.bytes old) → IsLeftAlone expected → LeavesAlone g old new) → OfTold g.tells (g.bytes old) (g.may_leave old) (KeepsFault g old new)
        → (IsTrue g.tells → asked ≡ 0 → (fault : IsWordFault (g.bytes old)) → CallsOfOneOpening (fault_calls fault) (g.passed old) (g.passed new) (open_status e))
        → (IsTrue g.tells → (fault : IsWordFault (g.bytes old)) → CallsAtMostOneOpening (fault_calls fault) (g.passed old) (g.passed new) (open_status e))
        → (IsTrue g.tells → RestartsDisk asked (open_status e) (g.restarts old) (g.restarts new))
        → (IsTrue g.tells → (t : ℕ) (image : List ℕ) → t ≤ g.moment new → g.may_leave new image → g.left_since new t image) → AnswersImage g (Unit {0}) asked old new (open_status e) silent
    answers_refused e nothing told no_heap damaged alone keeps once few restarts counts = record {
      refuses = λ tells only own expected fault. (refused_by expected (g.bytes old) e fault (no_heap tells) (damaged tells), nothing);
      refused = λ tells own unstarted. told_status e (g.bytes old) (told tells);
      refused_at_end = λ tells only. told_each old new e (told tells) (keeps tells only) (counts tells);
      sound = λ tells only other. absurd (other tt);
      unwritten = λ unstopped against. nothing;
      left_alone = λ tells own expected fault here. alone tells expected fault here;
      keeps = λ tells only own. keeps tells only;
      opens_once = λ tells own unstopped fault. once tells unstopped fault;
      opens_few = λ tells own unstarted fault. few tells fault;
      restarts = restarts;
    }

    -- It was opened, and the run says nothing against its image.
    pub answers_opened : (by : Status) → BlamesNoImage by → (IsTrue g.tells → IsNoHeap (g.bytes old) → ⊥) → (IsTrue g.tells → (at : At) → IsFaultAt at (g.bytes old) → ⊥)
        → (IsTrue g.tells → RestartsDisk asked by (g.restarts old) (g.restarts new)) → AnswersImage g (Unit {0}) asked old new by silent
    answers_opened by sound no_heap damaged restarts = record {
      refuses = λ tells only own expected fault. absurd (not_opened expected (g.bytes old) fault (no_heap tells) (damaged tells));
      refused = λ tells own unstarted. sound_told by (g.bytes old) sound;
      refused_at_end = λ tells only image may. sound_told by image sound;
      sound = λ tells only other. sound;
      unwritten = λ unstopped against. absurd (against sound);
      left_alone = λ tells own expected fault here. absurd (not_opened expected (g.bytes old) fault (no_heap tells) (damaged tells));
      keeps = λ tells only own. record {
        keeps_fault = λ expected fault. absurd (not_opened expected (g.bytes old) fault (no_heap tells) (damaged tells));
        keeps_log = λ fault. absurd (damaged tells (Address fault.0) fault.1);
      };
      opens_once = λ tells own unstopped fault. absurd (damaged tells (Address fault.0) fault.1);
      opens_few = λ tells own unstarted fault. absurd (damaged tells (Address fault.0) fault.1);
      restarts = restarts;
    }

    -- A heap was made first, or none could be: then nothing is said against it.
    pub answers_made : (own : Type 0) (by : Status) → (own → ⊥) → OfTold g.tells (g.bytes old) (g.may_leave old) (BlamesNoImage by) → (asked ≡ 0 → ¬ BlamesNoImage by → silent)
        → (IsTrue g.tells → RestartsDisk asked by (g.restarts old) (g.restarts new)) → AnswersImage g own asked old new by silent
    answers_made own by never sound unwritten restarts = record {
      refuses = λ tells only here. absurd (never here);
      refused = λ tells here. absurd (never here);
      refused_at_end = λ tells only image may. sound_told by image (sound tells only);
      sound = λ tells only other. sound tells only;
      unwritten = unwritten;
      left_alone = λ tells here. absurd (never here);
      keeps = λ tells only here. absurd (never here);
      opens_once = λ tells here. absurd (never here);
      opens_few = λ tells here. absurd (never here);
      restarts = restarts;
    }

    -- The same, where it is said otherwise whether the image is the disk's own.
    pub answers_own : (own same : Type 0) (by : Status) → (own → same) → (same → own) → AnswersImage g own asked old new by silent → AnswersImage g same asked old new by silent
    answers_own own same by to from image = record {
      refuses = λ tells only here. image.refuses tells only (from here);
      refused = λ tells here. image.refused tells (from here);
      refused_at_end = image.refused_at_end;
      sound = λ tells only other. image.sound tells only (λ here. other (to here));
      unwritten = image.unwritten;
      left_alone = λ tells here. image.left_alone tells (from here);
      keeps = λ tells only here. image.keeps tells only (from here);
      opens_once = λ tells here. image.opens_once tells (from here);
      opens_few = λ tells here. image.opens_few tells (from here);
      restarts = image.restarts;
    }

    -- The disk stopped, in the opening or in an event of a heap that was opened, and was restarted. What was said after that is all if the image has a fault.
    pub answers_again : (stopped : D) (by : Status) (rest : Type 0) → (IsTrue g.tells → (expected : Status) → IsFault expected (g.bytes old) → rest → silent) → (asked ≡ 0 → ⊥) → (IsTrue g.tells → Rose (g.restarts stopped) (g.restarts new)) → (IsTrue g.tells → g.restarts stopped ≡ g.restarts old)
        → (IsTrue g.tells → (expected : Status) → IsFault expected (g.bytes old) → IsLeftAlone expected → ⊥) → OfTold g.tells (g.bytes old) (g.may_leave old) (KeepsFault g old stopped)
        → (IsTrue g.tells → (t : ℕ) (image : List ℕ) → t ≤ g.moment stopped → g.may_leave stopped image → g.left_since stopped t image)
        → (IsTrue g.tells → AnswersLeft g asked stopped new by rest) → AnswersImage g (Unit {0}) asked old new by silent
    answers_again stopped by rest all some rose still alone keeps counts left =
        let started = λ (tells : IsTrue g.tells) (unstarted : Rose (g.restarts old) (g.restarts new) → asked ≡ 0). some (unstarted (subst (λ (n : ℕ). Rose n (g.restarts new)) (still tells) (rose tells))) in
        record {
          refuses = λ tells only own expected fault.
              let moments = (keeps tells (only (λ none. some none))).keeps_fault expected fault in
              let refused = (left tells).refuses expected (at_end g old stopped (IsFault expected) moments (counts tells)) in
              (refused.0, all tells expected fault refused.1);
          refused = λ tells own unstarted. absurd (started tells unstarted);
          refused_at_end = λ tells only. (left tells).refused_at_end;
          sound = λ tells only other. absurd (other tt);
          unwritten = λ unstopped against. absurd (some unstopped);
          left_alone = λ tells own expected fault here. absurd (alone tells expected fault here);
          keeps = λ tells only own. record {
            keeps_fault = λ expected fault.
                let P = IsFault expected in
                let moments = (keeps tells only).keeps_fault expected fault in
                opening_then g.moment g.left_since old stopped new P P moments ((left tells).keeps_fault expected (at_end g old stopped P moments (counts tells))) (λ image same. same);
            keeps_log = λ fault.
                let P = IsLeftOf (g.bytes old) in
                let moments = (keeps tells only).keeps_log fault in
                opening_then g.moment g.left_since old stopped new P P moments ((left tells).keeps_log (g.bytes old) fault (at_end g old stopped P moments (counts tells))) (λ image same. same);
          };
          opens_once = λ tells own unstopped fault. absurd (some unstopped);
          opens_few = λ tells own unstarted fault. absurd (started tells unstarted);
          restarts = λ tells. subst (λ (n : ℕ). RestartsDisk asked by n (g.restarts new)) (still tells) (left tells).restarts;
        }

  -- The heap was not opened, by what is said of an opening.
  pub answers_failed : (old new : D) (silent : Type 0) (e : OpenError) → silent → OpensImage g old new (Err (recovery_error e)) → (IsTrue g.tells → (t : ℕ) (image : List ℕ) → t ≤ g.moment new → g.may_leave new image → g.left_since new t image)
      → AnswersImage g (Unit {0}) 0 old new (open_status e) silent
  answers_failed old new silent e nothing image counts =
      let once = λ (tells : IsTrue g.tells) (fault : IsWordFault (g.bytes old)). opens_once (g.bytes old) (g.passed old) (g.passed new) e fault (image.refused tells) (λ stored state readable. (image.readable tells stored state readable).passes) in
      answers_refused 0 old new silent e nothing image.refused (λ tells none. (image.not_heap tells none).told) (λ tells at damage. (image.damaged tells at damage).told)
      (λ tells expected fault alone. alone_read g old new _ tells (only_read g expected (g.bytes old) old new _ fault alone (λ none. (image.not_heap tells none).reads) (λ at damage early. (image.damaged tells at damage).reads early)))
      (keeps_opening old new (Err (recovery_error e)) image) (λ tells unstopped fault. once tells fault) (λ tells fault. once_few (fault_calls fault) (g.passed old) (g.passed new) (open_status e) (once tells fault))
      (λ tells. restarts_none 0 (open_status e) (g.restarts old) (g.restarts new) (λ done. refl) (image.disk.restarts tells)) counts

  -- A run whose input failed did nothing.
  pub answers_unread : (own : Type 0) (asked : ℕ) (disk : D) (by : Status) (silent : Type 0) → IsInputError by → silent → (IsTrue g.tells → (image : List ℕ) → g.left_since disk (g.moment disk) image → g.may_leave disk image)
      → AnswersImage g own asked disk disk by silent
  answers_unread own asked disk by silent input nothing now =
      let sound = input_sound by input in
      record {
        refuses = λ tells only here expected fault. (input_refused expected by input, nothing);
        refused = λ tells here unstarted. sound_told by (g.bytes disk) sound;
        refused_at_end = λ tells only image may. sound_told by image sound;
        sound = λ tells only other. sound;
        unwritten = λ unstopped against. nothing;
        left_alone = λ tells here expected fault alone. alone_untouched g disk (now tells);
        keeps = λ tells only here. record {
          keeps_fault = λ expected fault. begins g.moment g.left_since disk (IsFault expected) (λ image since. subst (IsFault expected) (sym (only image (now tells image since))) fault);
          keeps_log = λ fault. untouched_log g disk only (now tells) fault;
        };
        opens_once = λ tells here unstopped fault. input_once (fault_calls fault) (g.passed disk) by input;
        opens_few = λ tells here unstarted fault. once_few (fault_calls fault) (g.passed disk) (g.passed disk) by (input_once (fault_calls fault) (g.passed disk) by input);
        restarts = λ tells. restarts_none asked by (g.restarts disk) (g.restarts disk) (λ done. absurd (input_not_done by input done)) refl;
      }

-- a disk that is never to be restarted is not
pub never_restarted : (result : Status) (before now : ℕ) → RestartsDisk 0 result before now → now ≡ before
never_restarted result before now restarts = let none : restarts.times ≡ 0 = omega (arith, restarts.most) in restarts.told ∙ ap (λ (n : ℕ). counted n before) none
