-- Parts of a session, one after another.
use Rattle.std.proofs.Common.{true, false, Result, Ok, Err, ◌≡◌, ℕ, ◌≤◌, suc, zero, ◌++◌, List, refl, subst, inl, inr}
use Rattle.std.specs.Prelude.{IsTrue, IsErr, is_err, OnOk, OnErr}
use Rattle.counts.specs.Count.{Rose}
use Rattle.disk_model.specs.declared.disk.Disk.{Ghosts}
use Rattle.heap_io.specs.declared.sink.Sink as sinks
use Rattle.heap_io.specs.declared.source.Source as sources
use Rattle.heap_program.specs.declared.status.Status.{Status}
use Rattle.heap_program.specs.declared.status.Status.TheVariants as status
use Rattle.heap_program.specs.Play.{WroteFront}
use Rattle.session_program.specs.declared.parts.Next.{Next}
use Rattle.session_program.specs.declared.parts.Next.TheVariants as next
use Rattle.session_program.specs.Lines.{closed_line}
use Rattle.session_program.specs.Parts.{Place, Parts, Reopens, ServesPart, ServesParts, Untold}

-- what holds where a call was done
pub on_done : {T E P : Type 0} (r : Result T E) → is_err r ≡ false → OnOk r P → P
on_done (Ok x) is p = p
on_done (Err e) is p = absurd (cc is)

-- and where it was not
pub on_error : {T E P : Type 0} (r : Result T E) → is_err r ≡ true → OnErr r P → P
on_error (Ok x) is p = absurd (cc is)
on_error (Err e) is p = p

pub error_of : {T E : Type 0} (r : Result T E) → is_err r ≡ true → IsErr r
error_of r is = is

module _ {D S K : Type 0} (g : Ghosts D) (s : sources.Ghosts S) (k : sinks.Ghosts K) (old here : Place D S K) (count : ℕ) (parts : Parts g s k count old here) where
  -- the last part
  pub last_part : (by : Status) (n : Next) (new : Place D S K) → ServesPart g s k here by n new → n ≡ next.End → ServesParts g s k old by new
  last_part by n new part is = record { count = count; last = here; parts = parts; ends = inl (subst (λ (x : Next). ServesPart g s k here by x new) is part) }

  -- no memory was left
  pub no_part : ServesParts g s k old status.NoMemory here
  no_part = record { count = count; last = here; parts = parts; ends = inr (inr (refl, refl, refl, refl)) }

  module _ (by : Status) (n : Next) (closed : Place D S K) (part : ServesPart g s k here by n closed) (is : n ≡ next.Reopen) where
    done : by ≡ status.Done
    done = part.done is

    same : ServesPart g s k here status.Done next.Reopen closed
    same = subst (λ (x : Status). ServesPart g s k here x next.Reopen closed) done (subst (λ (x : Next). ServesPart g s k here by x closed) is part)

    -- it was reported that the heap was closed
    pub told_part : (sink : K) → k.faults closed.sink ≤ k.faults sink → (IsTrue k.tells → k.written sink ≡ k.written closed.sink ++ closed_line)
        → Parts g s k (suc count) old (record { disk = closed.disk; held = closed.held; source = closed.source; sink = sink })
    told_part sink kept told = (here, parts, record { closed = closed; part = same; disk = refl; held = refl; source = refl; sink = kept; told = told })

    -- and that could not be reported
    pub untold_part : (sink : K) → Rose (k.faults closed.sink) (k.faults sink) → (IsTrue k.tells → WroteFront (k.written closed.sink) closed_line (k.written sink))
        → ServesParts g s k old status.WriteFault (record { disk = closed.disk; held = closed.held; source = closed.source; sink = sink })
    untold_part sink rose front = record {
      count = count;
      last = here;
      parts = parts;
      ends = inr (inl (record { closed = closed; part = same; disk = refl; source = refl; status = refl; sink = rose; front = front }));
    }
