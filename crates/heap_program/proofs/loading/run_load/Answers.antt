use Rattle.std.proofs.Common.{inl, ◌≡◌, inr, ℕ, Some, None, sym, ◌∙◌, subst, refl}
use Rattle.heap_program.specs.Headline.{made_super, made_core}
use Rattle.heap_program.specs.Load.{PlaysLoad}
use Rattle.heap_program.proofs.CommandLaws.{opened_load, format_load}
use Rattle.heap_program.proofs.PlayOpen.{new_stored, no_calls}
use Rattle.heap_program.proofs.RunLaws.{large_made, end_sound, restarts_none}
use Rattle.heap_program.proofs.Unfaulted.{counts_on, keeps_counts, format_counts, load_not_disk}
use Rattle.heap_program.specs.Causes.{IsFaultlessLoad}
use Rattle.heap_program.proofs.ImageLaws.{answers_own, answers_made, never_restarted, format_not_done, format_not_refused, format_error_sound}
use Rattle.heap_program.proofs.loading.run_load.Goals as goal

pub returns-in-None-clause-ends : goal.returns-in-None-clause-ends
returns-in-None-clause-ends g c = opened_load c.args.seed c.args.count c.args.fresh c.load_whole.result.0 c.load_whole.ensures.end

pub returns-in-Ok-clause-ends : goal.returns-in-Ok-clause-ends
returns-in-Ok-clause-ends g c = opened_load c.args.seed c.args.count c.args.fresh c.load_whole-in-Ok.result.0 c.load_whole-in-Ok.ensures.end

pub returns-in-Err-clause-ends : goal.returns-in-Err-clause-ends
returns-in-Err-clause-ends g c = rw c.from.ensures (format_load c.args.seed c.args.count c.args.fresh c.in-Err.e)

pub returns-in-None-clause-loads : goal.returns-in-None-clause-loads
returns-in-None-clause-loads g c tells only = rw c.in-None.is (inr (λ stored. c.load_whole.ensures.played tells stored only))

pub returns-in-Ok-clause-loads : goal.returns-in-Ok-clause-loads
returns-in-Ok-clause-loads g c tells only =
    let d = g.D.Disk in
    let k = g.K.Sink in
    let pages = c.in-Some.pages in
    let final = c.load_whole-in-Ok.result in
    let e = c.in-Ok.ensures in
    let made = e.made tells in
    let stored = new_stored pages (d.bytes c.in-Ok.disk) made.0 in
    let played = c.load_whole-in-Ok.ensures.played tells stored made.1 in
    let first = made_core pages (d.bytes c.in-Ok.disk) in
    rw c.in-Some.is (inr (record {
      made = c.in-Ok.disk;
      format = record { moments = e.moments tells only; empty = made.0; zeros = e.empty tells; kept = e.outside tells; outside = e.moments_outside tells only; only = made.1; passed = (e.passes tells (large_made _ _ e.small)).ok; restarts = e.disk.restarts tells; still = keeps_counts d c.args.disk c.in-Ok.disk tt e.disk };
      plays = subst (λ (n : ℕ). PlaysLoad d c.args.seed c.args.count n first c.in-Ok.disk final.1 final.0 k.tells (k.written c.args.sink.now) (k.written c.load_whole-in-Ok.new.sink)) (no_calls (made_super pages)) played;
    }))

pub returns-in-Ok-clause-complete : goal.returns-in-Ok-clause-complete
returns-in-Ok-clause-complete g c tells only can =
    let made = c.in-Ok.ensures.made tells in
    let stored = new_stored c.in-Some.pages (g.D.Disk.bytes c.in-Ok.disk) made.0 in
    (c.load_whole-in-Ok.ensures.played tells stored made.1).played.end

pub returns-in-Err-clause-prints : goal.returns-in-Err-clause-prints
returns-in-Err-clause-prints g c tells = rw c.from.ensures (inl (format_not_done c.in-Err.e, format_not_refused c.in-Err.e, refl))

-- no fault of the disk was ignored
pub returns-in-Ok-clause-unfaulted : goal.returns-in-Ok-clause-unfaulted
returns-in-Ok-clause-unfaulted g c none =
    let d = g.D.Disk in
    counts_on d _ _ _ (keeps_counts d c.args.disk c.in-Ok.disk tt c.in-Ok.ensures.disk) (c.load_whole-in-Ok.ensures.unfaulted none)

pub returns-in-Err-clause-unfaulted : goal.returns-in-Err-clause-unfaulted
returns-in-Err-clause-unfaulted g c none = format_counts g.D.Disk c.args.disk c.in-Err.disk c.in-Err.e c.in-Err.ensures.disk (load_not_disk _ (subst IsFaultlessLoad c.from.ensures none))

-- the image is the disk's own
pub returns-in-None-clause-image : goal.returns-in-None-clause-image
returns-in-None-clause-image g c = answers_own g.D.Disk 0 c.args.disk _ _ _ _ _ (λ here. c.in-None.is) (λ none. tt) c.load_whole.ensures.image

-- or that of the heap that was made
pub returns-in-Ok-clause-image : goal.returns-in-Ok-clause-image
returns-in-Ok-clause-image g c =
    let image = c.load_whole-in-Ok.ensures.image in
    answers_made g.D.Disk 0 c.args.disk _ _ _ _ (λ none. let never : None ≡ Some c.in-Some.pages = sym none ∙ c.in-Some.is in cc never)
    (λ tells only.
    let made = c.in-Ok.ensures.made tells in
    let stored = new_stored c.in-Some.pages (g.D.Disk.bytes c.in-Ok.disk) made.0 in
    end_sound _ (c.load_whole-in-Ok.ensures.played tells stored made.1).played.end)
    image.unwritten (λ tells. restarts_none 0 _ _ _ (λ done. refl) (never_restarted _ _ _ (image.restarts tells) ∙ c.in-Ok.ensures.disk.restarts tells))

-- or none could be made
pub returns-in-Err-clause-image : goal.returns-in-Err-clause-image
returns-in-Err-clause-image g c =
    rw c.from.ensures (answers_made g.D.Disk 0 c.args.disk _ _ _ _ (λ none. let never : None ≡ Some c.in-Some.pages = sym none ∙ c.in-Some.is in cc never)
    (λ tells only. format_error_sound c.in-Err.e) (λ unstopped against. refl) (λ tells. restarts_none 0 _ _ _ (λ done. refl) (c.in-Err.ensures.disk.restarts tells)))
