use Rattle.std.proofs.Common.{rules, ◌≡◌, ◌+◌, Ok, refl, sym, ap, ◌∙◌, subst}
use Rattle.graph_model.specs.declared.reply.Reply.{Reply}
use Rattle.graph_model.specs.declared.reply.Reply.TheVariants.{Begun, Done, Sealed, Aborted}
use Rattle.logged_pages.specs.State.{has_failed, store_of}
use Rattle.heap_memory.specs.Memory.{own}
use Rattle.heap_memory.specs.Refusals.{begin_refusal, handle_refusal, new_refusal, put_refusal, clear_refusal, link_refusal, seal_refusal, end_refusal}
use Rattle.heap_model.specs.Core.{transfers}
use Rattle.memory_laws.proofs.Does.{Does}
use Rattle.heap_engine.specs.declared.engine.Engine.{Engine}
use Rattle.heap_engine.specs.Ending.{NeedsNoMemory, Ends}
use Rattle.heap_engine.specs.EngineState.{memory}
use Rattle.heap_engine.specs.StepResult.{reply_device}
use Rattle.heap_engine.proofs.Answered.{clear_answered, end_answered, flip_answered, link_answered, put_answered, read_answered, scan_answered, seal_answered}
use Rattle.heap_engine.proofs.CallsCore.{begins, roots, drops, makes, puts, clears, links, gets, seals, aborts, flips, scans, compares, counts, either, answered, granted_or, never_lacks, read_or, flip_or, scan_or}
use Rattle.heap_engine.proofs.EventCore.{LeavesStored, leaves_same, same_as_it_was}
use Rattle.heap_engine.proofs.Ends.{ends_sealed, ends_aborted, ends_granted}
use Rattle.heap_engine.proofs.Found.{map_ok}
use Rattle.heap_engine.proofs.Stepped.{answered_aside, lacked_aside, no_call_aside, ok_if, same_Ok, never_err}
use Rattle.heap_engine.proofs.engine.Engine.step_on.Goals as goal

pub returns-in_ok-begin-in-Begin : goal.returns-in_ok-begin-in-Begin
returns-in_ok-begin-in-Begin g c =
    let old = c.args.self.now in
    let new = c.begin.new.self in
    let leaves = granted_or (begin_refusal (memory old) c.in-Begin.s) (Begun old.table.next) c.begin.result c.in_ok-begin-in-Begin.field-0 (LeavesStored old new) c.in_ok-begin-in-Begin.was c.begin.ensures.reply
    (λ done. let left = c.begin.ensures.begun old.table.next done in record { store = left.store; works = c.begin.ensures.works }) (λ why refused. leaves_same old new (c.begin.ensures.refused why refused)) in
    let o = answered_aside g.D.Disk c.args.event old new c.args.disk.now c.requires.inside c.requires.works (λ tells. g.met.D.Disk.only_now tells c.args.disk.now) c.in_ok-begin-in-Begin.field-0 c.requires.session (λ core. ap (transfers core) c.in-Begin.is) leaves
    (λ core is valid runs. answered c.begin.result c.in_ok-begin-in-Begin.field-0 (λ reply. Does core c.args.event reply (memory new)) c.in_ok-begin-in-Begin.was
    (begins (memory old) (memory new) core is valid runs c.args.event c.in-Begin.s c.begin.result c.in-Begin.is c.requires.session c.begin.ensures.reply c.begin.ensures.begun (λ why refused. ap memory (c.begin.ensures.refused why refused))))
    (search rules) (subst (λ e. Ends (memory old) (memory new) e c.in_ok-begin-in-Begin.field-0) (sym c.in-Begin.is) tt) in
    record { inside = o.inside; works = o.works; disk = o.disk; answered = o.answered; core = o.core; holds = o.holds; memory = o.memory; ends = o.ends }

pub returns-in_err-begin-in-Begin : goal.returns-in_err-begin-in-Begin
returns-in_err-begin-in-Begin g c =
    let old = c.args.self.now in
    let o = lacked_aside g.D.Disk c.args.event old c.begin.new.self c.args.disk.now c.requires.inside c.requires.works (λ tells. g.met.D.Disk.only_now tells c.args.disk.now) c.from_residual.result (search rules)
    c.in_err-begin-in-Begin.ensures.err c.begin.ensures.works (subst (NeedsNoMemory (memory old)) c.in-Begin.is) in
    record { inside = o.inside; works = o.works; disk = o.disk; answered = o.answered; core = o.core; holds = o.holds; memory = o.memory; ends = o.ends }

pub returns-in-Root : goal.returns-in-Root
returns-in-Root g c =
    let old = c.args.self.now in
    let new = c.root.new.self in
    let leaves = either (handle_refusal (own (memory old) c.in-Root.s) c.in-Root.h) Done c.root.result (LeavesStored old new) c.root.ensures.reply
    (λ done. let left = (c.root.ensures.done done).left in record { store = left.store; works = λ works. ap has_failed c.root.ensures.pages ∙ works }) (λ why refused. leaves_same old new (c.root.ensures.refused why refused)) in
    let o = answered_aside g.D.Disk c.args.event old new c.args.disk.now c.requires.inside c.requires.works (λ tells. g.met.D.Disk.only_now tells c.args.disk.now) c.root.result c.requires.session (λ core. ap (transfers core) c.in-Root.is) leaves
    (λ core is valid runs. roots (memory old) (memory new) core is valid runs c.args.event c.in-Root.s c.in-Root.h c.root.result c.in-Root.is c.root.ensures.reply c.root.ensures.done (λ why refused. ap memory (c.root.ensures.refused why refused)))
    (search rules) (subst (λ e. Ends (memory old) (memory new) e c.root.result) (sym c.in-Root.is) tt) in
    record { inside = o.inside; works = o.works; disk = o.disk; answered = o.answered; core = o.core; holds = o.holds; memory = o.memory; ends = o.ends }

pub returns-in-Drop : goal.returns-in-Drop
returns-in-Drop g c =
    let old = c.args.self.now in
    let new = c.drop_handle.new.self in
    let leaves = either (handle_refusal (own (memory old) c.in-Drop.s) c.in-Drop.h) Done c.drop_handle.result (LeavesStored old new) c.drop_handle.ensures.reply
    (λ done. let left = (c.drop_handle.ensures.done done).left in record { store = left.store; works = λ works. ap has_failed c.drop_handle.ensures.pages ∙ works }) (λ why refused. leaves_same old new (c.drop_handle.ensures.refused why refused)) in
    let o = answered_aside g.D.Disk c.args.event old new c.args.disk.now c.requires.inside c.requires.works (λ tells. g.met.D.Disk.only_now tells c.args.disk.now) c.drop_handle.result c.requires.session (λ core. ap (transfers core) c.in-Drop.is) leaves
    (λ core is valid runs. drops (memory old) (memory new) core is valid runs c.args.event c.in-Drop.s c.in-Drop.h c.drop_handle.result c.in-Drop.is c.drop_handle.ensures.reply c.drop_handle.ensures.done (λ why refused. ap memory (c.drop_handle.ensures.refused why refused)))
    (search rules) (subst (λ e. Ends (memory old) (memory new) e c.drop_handle.result) (sym c.in-Drop.is) tt) in
    record { inside = o.inside; works = o.works; disk = o.disk; answered = o.answered; core = o.core; holds = o.holds; memory = o.memory; ends = o.ends }

pub returns-in-Same : goal.returns-in-Same
returns-in-Same g c =
    let old = c.args.self.now in
    let o = answered_aside g.D.Disk c.args.event old old c.args.disk.now c.requires.inside c.requires.works (λ tells. g.met.D.Disk.only_now tells c.args.disk.now) c.same.result c.requires.session (λ core. ap (transfers core) c.in-Same.is) (leaves_same old old refl)
    (λ core is valid runs. compares (memory old) core is valid runs c.args.event c.in-Same.s c.in-Same.h c.in-Same.h2 c.same.result c.in-Same.is c.same.ensures)
    (search rules) (subst (λ e. Ends (memory old) (memory old) e c.same.result) (sym c.in-Same.is) tt) in
    record { inside = o.inside; works = o.works; disk = o.disk; answered = o.answered; core = o.core; holds = o.holds; memory = o.memory; ends = o.ends }

pub returns-in-Len : goal.returns-in-Len
returns-in-Len g c =
    let old = c.args.self.now in
    let o = answered_aside g.D.Disk c.args.event old old c.args.disk.now c.requires.inside c.requires.works (λ tells. g.met.D.Disk.only_now tells c.args.disk.now) c.len.result c.requires.session (λ core. ap (transfers core) c.in-Len.is) (leaves_same old old refl)
    (λ core is valid runs. counts (memory old) core is valid runs c.args.event c.in-Len.s c.in-Len.h c.len.result c.in-Len.is c.len.ensures)
    (search rules) (subst (λ e. Ends (memory old) (memory old) e c.len.result) (sym c.in-Len.is) tt) in
    record { inside = o.inside; works = o.works; disk = o.disk; answered = o.answered; core = o.core; holds = o.holds; memory = o.memory; ends = o.ends }

pub returns-in_ok-make-in-New : goal.returns-in_ok-make-in-New
returns-in_ok-make-in-New g c =
    let old = c.args.self.now in
    let new = c.make.new.self in
    let leaves = granted_or (new_refusal (own (memory old) c.in-New.s) c.in-New.h c.in-New.len) Done c.make.result c.in_ok-make-in-New.field-0 (LeavesStored old new) c.in_ok-make-in-New.was c.make.ensures.reply
    (λ done. let left = (c.make.ensures.done done).left in record { store = left.store; works = λ works. ap has_failed c.make.ensures.pages ∙ works }) (λ why refused. leaves_same old new (c.make.ensures.refused why refused)) in
    let o = answered_aside g.D.Disk c.args.event old new c.args.disk.now c.requires.inside c.requires.works (λ tells. g.met.D.Disk.only_now tells c.args.disk.now) c.in_ok-make-in-New.field-0 c.requires.session (λ core. ap (transfers core) c.in-New.is) leaves
    (λ core is valid runs. answered c.make.result c.in_ok-make-in-New.field-0 (λ reply. Does core c.args.event reply (memory new)) c.in_ok-make-in-New.was
    (makes (memory old) (memory new) core is valid runs c.args.event c.in-New.s c.in-New.h c.in-New.len c.make.result c.in-New.is c.make.ensures.reply c.make.ensures.done (λ why refused. ap memory (c.make.ensures.refused why refused))))
    (search rules) (subst (λ e. Ends (memory old) (memory new) e c.in_ok-make-in-New.field-0) (sym c.in-New.is) tt) in
    record { inside = o.inside; works = o.works; disk = o.disk; answered = o.answered; core = o.core; holds = o.holds; memory = o.memory; ends = o.ends }

pub returns-in_err-make-in-New : goal.returns-in_err-make-in-New
returns-in_err-make-in-New g c =
    let old = c.args.self.now in
    let new = c.make.new.self in
    let o = lacked_aside g.D.Disk c.args.event old new c.args.disk.now c.requires.inside c.requires.works (λ tells. g.met.D.Disk.only_now tells c.args.disk.now) c.from_residual-in_err-make-in-New.result (search rules)
    (same_as_it_was old new c.in_err-make-in-New.ensures.err) (λ works. ap has_failed c.make.ensures.pages ∙ works) (subst (NeedsNoMemory (memory old)) c.in-New.is) in
    record { inside = o.inside; works = o.works; disk = o.disk; answered = o.answered; core = o.core; holds = o.holds; memory = o.memory; ends = o.ends }

pub returns-in-Put : goal.returns-in-Put
returns-in-Put g c =
    let old = c.args.self.now in
    let new = c.put.new.self in
    let o = no_call_aside g.D.Disk c.args.event old new c.args.disk.now c.requires.inside c.requires.works (λ tells. g.met.D.Disk.only_now tells c.args.disk.now) c.requires.session (λ core. ap (transfers core) c.in-Put.is)
    c.put.new.disk c.put.result c.put.ensures.calls
    (λ x was. granted_or (put_refusal (memory old) c.in-Put.s c.in-Put.h c.in-Put.i c.in-Put.v) (Done) c.put.result x (store_of new.pages ≡ store_of old.pages) was c.put.ensures.reply (λ done. (c.put.ensures.done done).writes.left.store) (λ why refused. (c.put.ensures.refused why refused).store))
    (λ core is valid runs. puts (memory old) (memory new) core is valid runs c.args.event c.in-Put.s c.in-Put.h c.in-Put.i c.in-Put.v c.put.result c.in-Put.is c.put.ensures.reply c.put.ensures.done c.put.ensures.refused)
    (map_ok c.put.result _ (λ (x : Reply). reply_device x ≡ Ok tt) (λ x given. ap reply_device given ∙ put_answered (memory old) c.in-Put.s c.in-Put.h c.in-Put.i c.in-Put.v) c.put.ensures.reply)
    (ok_if c.put.result (λ x was. subst (λ e. Ends (memory old) (memory new) e x) (sym c.in-Put.is) tt))
    c.put.ensures.err (λ none. absurd (subst (NeedsNoMemory (memory old)) c.in-Put.is none)) in
    record { inside = o.inside; works = o.works; disk = o.disk; answered = o.answered; core = o.core; holds = o.holds; memory = o.memory; ends = o.ends }

pub returns-in-Clear : goal.returns-in-Clear
returns-in-Clear g c =
    let old = c.args.self.now in
    let new = c.clear.new.self in
    let o = no_call_aside g.D.Disk c.args.event old new c.args.disk.now c.requires.inside c.requires.works (λ tells. g.met.D.Disk.only_now tells c.args.disk.now) c.requires.session (λ core. ap (transfers core) c.in-Clear.is)
    c.clear.new.disk c.clear.result c.clear.ensures.calls
    (λ x was. granted_or (clear_refusal (memory old) c.in-Clear.s c.in-Clear.h c.in-Clear.i) (Done) c.clear.result x (store_of new.pages ≡ store_of old.pages) was c.clear.ensures.reply (λ done. (c.clear.ensures.done done).writes.left.store) (λ why refused. (c.clear.ensures.refused why refused).store))
    (λ core is valid runs. clears (memory old) (memory new) core is valid runs c.args.event c.in-Clear.s c.in-Clear.h c.in-Clear.i c.clear.result c.in-Clear.is c.clear.ensures.reply c.clear.ensures.done c.clear.ensures.refused)
    (map_ok c.clear.result _ (λ (x : Reply). reply_device x ≡ Ok tt) (λ x given. ap reply_device given ∙ clear_answered (memory old) c.in-Clear.s c.in-Clear.h c.in-Clear.i) c.clear.ensures.reply)
    (ok_if c.clear.result (λ x was. subst (λ e. Ends (memory old) (memory new) e x) (sym c.in-Clear.is) tt))
    c.clear.ensures.err (λ none. absurd (subst (NeedsNoMemory (memory old)) c.in-Clear.is none)) in
    record { inside = o.inside; works = o.works; disk = o.disk; answered = o.answered; core = o.core; holds = o.holds; memory = o.memory; ends = o.ends }

pub returns-in-Link : goal.returns-in-Link
returns-in-Link g c =
    let old = c.args.self.now in
    let new = c.link.new.self in
    let o = no_call_aside g.D.Disk c.args.event old new c.args.disk.now c.requires.inside c.requires.works (λ tells. g.met.D.Disk.only_now tells c.args.disk.now) c.requires.session (λ core. ap (transfers core) c.in-Link.is)
    c.link.new.disk c.link.result c.link.ensures.calls
    (λ x was. granted_or (link_refusal (memory old) c.in-Link.s c.in-Link.h c.in-Link.i c.in-Link.h2) (Done) c.link.result x (store_of new.pages ≡ store_of old.pages) was c.link.ensures.reply (λ done. (c.link.ensures.done done).writes.writes.left.store) (λ why refused. (c.link.ensures.refused why refused).store))
    (λ core is valid runs. links (memory old) (memory new) core is valid runs c.args.event c.in-Link.s c.in-Link.h c.in-Link.i c.in-Link.h2 c.link.result c.in-Link.is c.link.ensures.reply c.link.ensures.done c.link.ensures.refused)
    (map_ok c.link.result _ (λ (x : Reply). reply_device x ≡ Ok tt) (λ x given. ap reply_device given ∙ link_answered (memory old) c.in-Link.s c.in-Link.h c.in-Link.i c.in-Link.h2) c.link.ensures.reply)
    (ok_if c.link.result (λ x was. subst (λ e. Ends (memory old) (memory new) e x) (sym c.in-Link.is) tt))
    c.link.ensures.err (λ none. absurd (subst (NeedsNoMemory (memory old)) c.in-Link.is none)) in
    record { inside = o.inside; works = o.works; disk = o.disk; answered = o.answered; core = o.core; holds = o.holds; memory = o.memory; ends = o.ends }

pub returns-in-Get : goal.returns-in-Get
returns-in-Get g c =
    let old = c.args.self.now in
    let new = c.get.new.self in
    let o = no_call_aside g.D.Disk c.args.event old new c.args.disk.now c.requires.inside c.requires.works (λ tells. g.met.D.Disk.only_now tells c.args.disk.now) c.requires.session (λ core. ap (transfers core) c.in-Get.is)
    c.get.new.disk c.get.result c.get.ensures.calls
    (λ x was. read_or x (store_of new.pages ≡ store_of old.pages) (λ granted. (answered c.get.result x _ was c.get.ensures.got granted).gets.left.store) (λ why refused. (c.get.ensures.refused why (was ∙ ap Ok refused)).store))
    (λ core is valid runs. gets (memory old) (memory new) core is valid runs c.args.event c.in-Get.s c.in-Get.h c.in-Get.i c.in-Get.h2 c.get.result c.in-Get.is c.get.ensures.reply c.get.ensures.got c.get.ensures.refused)
    (map_ok c.get.result _ (λ (x : Reply). reply_device x ≡ Ok tt) (λ x given. ap reply_device given ∙ read_answered (memory old) c.in-Get.s c.in-Get.h c.in-Get.i c.in-Get.h2) c.get.ensures.reply)
    (ok_if c.get.result (λ x was. subst (λ e. Ends (memory old) (memory new) e x) (sym c.in-Get.is) tt))
    c.get.ensures.err (λ none. absurd (subst (NeedsNoMemory (memory old)) c.in-Get.is none)) in
    record { inside = o.inside; works = o.works; disk = o.disk; answered = o.answered; core = o.core; holds = o.holds; memory = o.memory; ends = o.ends }

pub returns-in-Seal : goal.returns-in-Seal
returns-in-Seal g c =
    let old = c.args.self.now in
    let new = c.seal.new.self in
    let o = no_call_aside g.D.Disk c.args.event old new c.args.disk.now c.requires.inside c.requires.works (λ tells. g.met.D.Disk.only_now tells c.args.disk.now) c.requires.session (λ core. ap (transfers core) c.in-Seal.is)
    c.seal.new.disk c.seal.result c.seal.ensures.calls
    (λ x was. granted_or (seal_refusal (memory old) c.in-Seal.s) (Sealed (old.sealed + 1)) c.seal.result x (store_of new.pages ≡ store_of old.pages) was c.seal.ensures.reply (λ done. (c.seal.ensures.sealed (old.sealed + 1) done).left.store) (λ why refused. (c.seal.ensures.refused why refused).store))
    (λ core is valid runs. seals (memory old) (memory new) core is valid runs c.args.event c.in-Seal.s c.seal.result c.in-Seal.is c.seal.ensures.reply c.seal.ensures.sealed c.seal.ensures.refused)
    (map_ok c.seal.result _ (λ (x : Reply). reply_device x ≡ Ok tt) (λ x given. ap reply_device given ∙ seal_answered (memory old) c.in-Seal.s (old.sealed + 1)) c.seal.ensures.reply)
    (ok_if c.seal.result (λ x was. subst (λ e. Ends (memory old) (memory new) e x) (sym c.in-Seal.is) (λ alone. let done = c.seal.ensures.alone alone in (cc (done, was), ends_sealed old new c.in-Seal.s (c.seal.ensures.sealed (old.sealed + 1) done)))))
    c.seal.ensures.err (λ none lacks. never_lacks c.seal.result _ _ lacks (c.seal.ensures.alone (subst (NeedsNoMemory (memory old)) c.in-Seal.is none))) in
    record { inside = o.inside; works = o.works; disk = o.disk; answered = o.answered; core = o.core; holds = o.holds; memory = o.memory; ends = o.ends }

pub returns-in-Abort : goal.returns-in-Abort
returns-in-Abort g c =
    let old = c.args.self.now in
    let new = c.abort.new.self in
    let o = no_call_aside g.D.Disk c.args.event old new c.args.disk.now c.requires.inside c.requires.works (λ tells. g.met.D.Disk.only_now tells c.args.disk.now) c.requires.session (λ core. ap (transfers core) c.in-Abort.is)
    c.abort.new.disk c.abort.result c.abort.ensures.calls
    (λ x was. either (end_refusal (own (memory old) c.in-Abort.s)) Aborted x (store_of new.pages ≡ store_of old.pages) (same_Ok x _ (sym was ∙ c.abort.ensures.reply)) (λ done. (c.abort.ensures.aborted (was ∙ ap Ok done)).left.store) (λ why refused. ap (λ (e : Engine). store_of e.pages) (c.abort.ensures.refused why (was ∙ ap Ok refused))))
    (λ core is valid runs. aborts (memory old) (memory new) core is valid runs c.args.event c.in-Abort.s c.abort.result c.in-Abort.is (ok_if c.abort.result (λ x was. same_Ok x _ (sym was ∙ c.abort.ensures.reply))) c.abort.ensures.aborted (λ why refused. ap memory (c.abort.ensures.refused why refused)))
    (ok_if c.abort.result (λ x was. ap reply_device (same_Ok x _ (sym was ∙ c.abort.ensures.reply)) ∙ end_answered (own (memory old) c.in-Abort.s)))
    (ok_if c.abort.result (λ x was. subst (λ e. Ends (memory old) (memory new) e x) (sym c.in-Abort.is) (λ some. let done = ends_granted (own (memory old) c.in-Abort.s) x some (same_Ok x _ (sym was ∙ c.abort.ensures.reply)) in (done, ends_aborted old new c.in-Abort.s (c.abort.ensures.aborted (was ∙ ap Ok done))))))
    (never_err _ c.abort.result _ c.abort.ensures.reply) (λ none lacks. never_lacks c.abort.result _ _ lacks c.abort.ensures.reply) in
    record { inside = o.inside; works = o.works; disk = o.disk; answered = o.answered; core = o.core; holds = o.holds; memory = o.memory; ends = o.ends }

pub returns-in-Flip : goal.returns-in-Flip
returns-in-Flip g c =
    let old = c.args.self.now in
    let new = c.flip.new.self in
    let o = no_call_aside g.D.Disk c.args.event old new c.args.disk.now c.requires.inside c.requires.works (λ tells. g.met.D.Disk.only_now tells c.args.disk.now) c.requires.session (λ core. ap (transfers core) c.in-Flip.is)
    c.flip.new.disk c.flip.result c.flip.ensures.calls
    (λ x was. flip_or (memory old) x (store_of new.pages ≡ store_of old.pages) (answered c.flip.result x _ was c.flip.ensures.reply) (λ objects words given. (c.flip.ensures.flipped objects words (was ∙ ap Ok given)).1.left.store) (λ given. ap (λ (e : Engine). store_of e.pages) (c.flip.ensures.still (was ∙ ap Ok given))) (λ why given. (c.flip.ensures.refused why (was ∙ ap Ok given)).store))
    (λ core is valid runs. flips (memory old) (memory new) core is valid c.args.event c.flip.result c.in-Flip.is c.flip.ensures.reply c.flip.ensures.flipped (λ given. ap memory (c.flip.ensures.still given)) c.flip.ensures.refused)
    (map_ok c.flip.result _ (λ (x : Reply). reply_device x ≡ Ok tt) (λ x given. ap reply_device given.2 ∙ flip_answered (memory old) given.0) c.flip.ensures.reply)
    (ok_if c.flip.result (λ x was. subst (λ e. Ends (memory old) (memory new) e x) (sym c.in-Flip.is) tt))
    c.flip.ensures.err (λ none. absurd (subst (NeedsNoMemory (memory old)) c.in-Flip.is none)) in
    record { inside = o.inside; works = o.works; disk = o.disk; answered = o.answered; core = o.core; holds = o.holds; memory = o.memory; ends = o.ends }

pub returns-in-Scan : goal.returns-in-Scan
returns-in-Scan g c =
    let old = c.args.self.now in
    let new = c.scan.new.self in
    let o = no_call_aside g.D.Disk c.args.event old new c.args.disk.now c.requires.inside c.requires.works (λ tells. g.met.D.Disk.only_now tells c.args.disk.now) c.requires.session (λ core. ap (transfers core) c.in-Scan.is)
    c.scan.new.disk c.scan.result c.scan.ensures.calls
    (λ x was. scan_or (memory old) x (store_of new.pages ≡ store_of old.pages) (answered c.scan.result x _ was c.scan.ensures.reply) (λ page objects words given. (c.scan.ensures.scanned page objects words (was ∙ ap Ok given)).left.store) (λ used given. (c.scan.ensures.collected used (was ∙ ap Ok given)).left.store) (λ given. ap (λ (e : Engine). store_of e.pages) (c.scan.ensures.still (was ∙ ap Ok given))) (λ why given. (c.scan.ensures.refused why (was ∙ ap Ok given)).store))
    (λ core is valid runs. scans (memory old) (memory new) core is valid c.args.event c.scan.result c.in-Scan.is c.scan.ensures.reply c.scan.ensures.scanned c.scan.ensures.collected (λ given. ap memory (c.scan.ensures.still given)) c.scan.ensures.refused)
    (map_ok c.scan.result _ (λ (x : Reply). reply_device x ≡ Ok tt) (λ x given. ap reply_device given.2 ∙ scan_answered (memory old) given.0) c.scan.ensures.reply)
    (ok_if c.scan.result (λ x was. subst (λ e. Ends (memory old) (memory new) e x) (sym c.in-Scan.is) tt))
    c.scan.ensures.err (λ none. absurd (subst (NeedsNoMemory (memory old)) c.in-Scan.is none)) in
    record { inside = o.inside; works = o.works; disk = o.disk; answered = o.answered; core = o.core; holds = o.holds; memory = o.memory; ends = o.ends }
