-- A heap whose disk forgot what it told is the same one.
use Rattle.std.specs.Prelude.{◌≡◌, ℕ, List, Bool, true, false, IsTrue, IsFalse, refl}
use Rattle.std.proofs.Common.{sym, subst, rules, ◌∙◌}
use Rattle.disk_model.specs.Disk.{Narrows}
use Rattle.disk_model.specs.declared.disk.Disk.{Ghosts}
use Rattle.disk_model.specs.Memory.{Memory, Contents, MayLeave, now_of, settled_as, begun_anew}
use Rattle.disk_model.specs.MemoryLaws.{reads_an_image}
use Rattle.disk_model.proofs.Images.{same_images}
use Rattle.disk_model.proofs.Kept.{contents_of-nil}
use Rattle.heap_core.specs.declared.in_memory.HeapCore.{HeapCore}
use Rattle.heap_core.specs.Refinement.{IsCoreOn, IsHeapOn}
use Rattle.heap_engine.specs.EngineState.{memory}
use Rattle.heap_engine.specs.Refinement.{KnowsPages, IsLeftByStep}
use Rattle.heap_model.specs.Core.{Core}
use Rattle.heap_model.specs.CoreCrash.{held_of}
use Rattle.heap_model.specs.Image.{Holds}
use Rattle.image_plan.specs.declared.superblock.Super.{Super}

module _ {D : Type 0} (g : Ghosts D) (heap : HeapCore) (old new : D) (same : g.bytes new ≡ g.bytes old) (narrows : Narrows (g.may_leave old) (g.may_leave new)) where
  pub core_stays : (c : Core) → IsCoreOn g c heap old → IsCoreOn g c heap new
  core_stays c is = record {
    history = is.history;
    before = is.before;
    memory = is.memory;
    engine = λ none.
        let engine = is.engine none in
        record {
          unfailed = engine.unfailed;
          pages = λ tells. subst (KnowsPages c (memory heap.engine)) (sym same) (engine.pages tells);
          memory = engine.memory;
        };
  }

  pub heap_stays : (s : Super) (c : Core) → IsHeapOn g s c heap old → IsHeapOn g s c heap new
  heap_stays s c is = record {
    core = core_stays c is.core;
    disk = record {
      born = is.disk.born;
      unfailed = λ none.
          let on = is.disk.unfailed none in
          record {
            of = on.of;
            born = on.born;
            stored = on.stored;
            logged = on.logged;
            held = subst (Holds (held_of s c on.stored)) (sym same) on.held;
            only = λ image left. on.only image (narrows image left) ∙ sym same;
          };
      failed = λ some image left. subst (λ (bytes : List ℕ). IsLeftByStep c bytes image) (sym same) (is.disk.failed some image (narrows image left));
    };
  }

-- a disk that began anew leaves nothing but its bytes, which it might have left before
anew_leaves : (old : Memory) → Narrows (MayLeave (now_of old)) (MayLeave (now_of (begun_anew old)))
anew_leaves old image left =
    let now : now_of (begun_anew old) ≡ settled_as (now_of old).newest = contents_of-nil old.pick (now_of old).newest in
    let settled : MayLeave (settled_as (now_of old).newest) image = subst (λ (at : Contents). MayLeave at image) now left in
    let is : image ≡ (now_of old).newest = same_images image (now_of old).newest settled.size (λ k. settled.same k refl) in
    subst (MayLeave (now_of old)) (sym is) (reads_an_image old)

-- so does one that was asked to begin anew, and may not have done it
pub asked_leaves : (answer : Bool) (old new : Memory) → (IsTrue answer → new ≡ begun_anew old) → (IsFalse answer → new ≡ old) → Narrows (MayLeave (now_of old)) (MayLeave (now_of new))
asked_leaves true old new anew kept image left = anew_leaves old image (subst (λ (d : Memory). MayLeave (now_of d) image) (anew (search rules)) left)
asked_leaves false old new anew kept image left = subst (λ (d : Memory). MayLeave (now_of d) image) (kept (search rules)) left
