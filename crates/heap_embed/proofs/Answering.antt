-- What becomes of a heap where the place that it takes is known by its kind.
use Rattle.std.specs.Prelude.{◌≡◌, [], Option, Some, None, Result, ⊤, refl}
use Rattle.std.proofs.Common.{sym, ap, subst, ◌∙◌}
use Rattle.std.specs.declared.alloc.AllocError.{AllocError}
use Rattle.disk_model.specs.declared.disk.Disk.{Ghosts}
use Rattle.disk_model.specs.Memory.{Memory, now_of, begun_anew}
use Rattle.graph_model.specs.declared.event.Event.{Event}
use Rattle.graph_model.specs.declared.reply.Reply.{Reply}
use Rattle.heap_core.specs.declared.errors.OpenError.{OpenError}
use Rattle.heap_core.specs.declared.errors.OpenError.TheVariants as opening
use Rattle.heap_embed.specs.declared.answer.Answer.{Answer}
use Rattle.heap_embed.specs.declared.answer.Answer.TheVariants as answer
use Rattle.heap_embed.specs.declared.host_disk.HostDisk.{HostDisk}
use Rattle.heap_embed.specs.declared.open_heap.OpenHeap.{OpenHeap}
use Rattle.heap_embed.specs.declared.state.State.{State}
use Rattle.heap_embed.specs.declared.state.State.TheVariants.{Image, Closed, Open}
use Rattle.heap_embed.specs.Embedding.{disk_of, event_answer, MakesEvent, Forgets}
use Rattle.heap_embed.specs.OpenHeaps.{MakesStep, StaysHeap}
use Rattle.heap_embed.specs.Told.{open_answer}

abbrev heap_in : OpenHeap → State → OpenHeap
heap_in other (Image bytes) = other
heap_in other (Closed disk) = other
heap_in other (Open heap) = heap

pub same_heap : (was heap : OpenHeap) (state : State) → state ≡ Open was → state ≡ Open heap → was ≡ heap
same_heap was heap state first second = ap (heap_in was) (sym first ∙ second)

abbrev HasHeap : State → Type 0
HasHeap (Image bytes) = ⊥
HasHeap (Closed disk) = ⊥
HasHeap (Open heap) = ⊤

abbrev disk_in : Memory → Option Memory → Memory
disk_in other None = other
disk_in other (Some disk) = disk

same_disk : (was disk : Memory) (state : State) → disk_of state ≡ Some was → disk_of state ≡ Some disk → was ≡ disk
same_disk was disk state first second = ap (disk_in was) (sym first ∙ second)

abbrev IsDone : Answer → Type 0
IsDone answer.Done = ⊤
IsDone other = ⊥

-- no error of an opening is answered as done
pub not_done : (e : OpenError) → open_answer e ≡ answer.Done → ⊥
not_done opening.NoMemory is = subst IsDone (sym is) tt
not_done opening.NotHeap is = subst IsDone (sym is) tt
not_done (opening.Damaged at) is = subst IsDone (sym is) tt
not_done opening.DiskFault is = subst IsDone (sym is) tt
not_done opening.Stopped is = subst IsDone (sym is) tt

module _ (g : Ghosts Memory) where
  pub makes_event : (event : Event) (old : State) (was heap next : OpenHeap) (result : Result Reply AllocError) (answered : Answer) → old ≡ Open was → old ≡ Open heap → answered ≡ event_answer result → MakesStep g was.core was.disk event result next.core next.disk → MakesEvent g event answered (Open next) heap
  makes_event event old was heap next result answered first second says steps = record {
    result = result;
    says = says;
    next = next;
    still_open = refl;
    steps = subst (λ (h : OpenHeap). MakesStep g h.core h.disk event result next.core next.disk) (same_heap was heap old first second) steps;
  }

  pub closed_forgets : (old new : State) (was now : HostDisk) (disk : Memory) → old ≡ Closed was → new ≡ Closed now → disk_of old ≡ Some disk → (now_of was.disk).pending ≡ [] → now.disk ≡ begun_anew was.disk → Forgets g old new disk
  closed_forgets old new was now disk first second there synced anew =
      let same : was.disk ≡ disk = same_disk was.disk disk old (ap disk_of first) there in
      record {
        synced = subst (λ (d : Memory). (now_of d).pending ≡ []) same synced;
        anew = ap disk_of second ∙ ap Some (anew ∙ ap begun_anew same);
        closed = λ closed is. (now, second);
        heap = λ heap is. absurd (subst HasHeap (sym (sym first ∙ is)) tt);
      }

  pub open_forgets : (old new : State) (was now : OpenHeap) (disk : Memory) → old ≡ Open was → new ≡ Open now → disk_of old ≡ Some disk → (now_of was.disk).pending ≡ [] → now.disk ≡ begun_anew was.disk → now.core ≡ was.core → StaysHeap g was.core was.disk now.core now.disk → Forgets g old new disk
  open_forgets old new was now disk first second there synced anew core stays =
      let same : was.disk ≡ disk = same_disk was.disk disk old (ap disk_of first) there in
      record {
        synced = subst (λ (d : Memory). (now_of d).pending ≡ []) same synced;
        anew = ap disk_of second ∙ ap Some (anew ∙ ap begun_anew same);
        closed = λ closed is. absurd (subst HasHeap (sym first ∙ is) tt);
        heap = λ heap is. (now, second, core ∙ ap (λ (h : OpenHeap). h.core) (same_heap was heap old first is), subst (λ (h : OpenHeap). StaysHeap g h.core h.disk now.core now.disk) (same_heap was heap old first is) stays);
      }
