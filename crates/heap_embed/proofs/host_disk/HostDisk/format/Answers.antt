use Rattle.std.specs.Prelude.{Ok, Err}
use Rattle.std.proofs.Common.{rules, ap, refl}
use Rattle.disk_model.specs.Memory.{Memory}
use Rattle.heap_core.specs.declared.errors.FormatError.{FormatError}
use Rattle.heap_embed.proofs.host_disk.HostDisk.format.Goals as goal

pub returns-in-Ok : goal.returns-in-Ok
returns-in-Ok c =
    record {
      outcome = Ok tt;
      says = refl;
      small = λ is. absurd (c.in-Ok.ensures.small is);
      large = λ is. tt;
      disk = c.in-Ok.ensures.disk;
      made = c.in-Ok.ensures.made (search rules);
      empty = c.in-Ok.ensures.empty (search rules);
      outside = c.in-Ok.ensures.outside (search rules);
      moments = c.in-Ok.ensures.moments (search rules);
      moments_outside = c.in-Ok.ensures.moments_outside (search rules);
    }

pub returns-in-Err : goal.returns-in-Err
returns-in-Err c =
    record {
      outcome = Err c.in-Err.e;
      says = c.from.ensures;
      small = λ is. let both = c.in-Err.ensures.small is in (ap (λ (e : FormatError × Memory). Err e.0) both, ap (λ (e : FormatError × Memory). e.1) both);
      large = c.in-Err.ensures.large;
      disk = c.in-Err.ensures.disk;
      made = tt;
      empty = tt;
      outside = tt;
      moments = c.in-Err.ensures.moments (search rules);
      moments_outside = c.in-Err.ensures.moments_outside (search rules);
    }
