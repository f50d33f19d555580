use Rattle.std.proofs.Common.{rules, ◌≡◌, ℕ, ◌+◌, length-append, List, [], ◌∷◌, length, None, Some, refl, sym, ap, ◌∙◌, subst, arith}
use Rattle.std.specs.Prelude.{fold}
use Rattle.gated_log.specs.LogState.{HasSpare}
use Rattle.logged_pages.specs.State.{log_of, pages_in_memory}
use Rattle.heap_spaces.specs.Collection.{Collection}
use Rattle.heap_spaces.specs.Copying.{begun, with_copies}
use Rattle.heap_spaces.specs.Spaces.{SpacesState, flipped, with_copied}
use Rattle.log_machine.specs.Collecting.{pairs_of}
use Rattle.log_machine.specs.Effect.{EachWritesBelow}
use Rattle.log_machine.specs.Machine.{words_in, put_record}
use Rattle.log_records.specs.Record.{spelling}
use Rattle.log_records.specs.declared.Record.{Record}
use Rattle.log_records.specs.declared.Record.TheVariants.{Flip}
use Rattle.flip_copy.specs.Copied.{moved_objects, copied_size}
use Rattle.flip_copy.proofs.CopiesLaws.{planned_size}
use Rattle.object_locks.specs.Holdings.{rekeyed}
use Rattle.heap_model.specs.Lsns.{log_next_lsn}
use Rattle.page_redo.specs.Redo.{redo_all}
use Rattle.relocation.specs.Relocation.{IsRelocation}
use Rattle.txn_table.specs.Table.{TableState}
use Rattle.txn_table.specs.Translation.{HaveGoneAlong}
use Rattle.heap_memory.specs.Leaves.{Adds}
use Rattle.heap_engine.specs.EngineState.{memory}
use Rattle.heap_engine.specs.Reserve.{GoAlongBelow}
use Rattle.heap_engine.proofs.Carried.{adds_carried, carried}
use Rattle.heap_engine.proofs.FlipLeft.{flip_bytes, flip_below, flip_sound, flip_owes, flip_begins, flip_waits, flips_with}
use Rattle.heap_engine.proofs.FlipRoots.{some_roots}
use Rattle.heap_engine.proofs.FlipSound.{sound_along}
use Rattle.heap_engine.proofs.Left.{from_same}
use Rattle.heap_engine.proofs.Tables.{sound_same}
use Rattle.heap_engine.proofs.engine.Engine.flip.Goals as goal

pub make_room-requires : goal.make_room-requires
make_room-requires g c =
    let few = flip_bytes c.args.self.now.spaces c.in_ok-plan.plan c.used-used.ensures.sound c.in_ok-plan.ensures.copied in
    let long = c.length.ensures.value ∙ ap (λ (rec : Record). length (spelling rec)) c.record.ensures in
    record { few = omega (arith, few, long) }

pub add_copies-requires : goal.add_copies-requires
add_copies-requires g c =
    let size = planned_size c.args.self.now.spaces c.in_ok-plan.plan c.in_ok-plan.ensures.copied in
    let copied = ap (λ (k : Collection). k.copied) c.begin-collection.ensures in
    let used = ap (λ (k : Collection). k.used) c.begin-collection.ensures in
    omega (arith, size, c.moved.ensures.size, copied, used, c.used-used.ensures.used)

pub carry_out-requires-clause-inside : goal.carry_out-requires-clause-inside
carry_out-requires-clause-inside g c =
    let s = c.args.self.now in
    let end = length (pages_in_memory c.make_room.new.self.pages).words in
    let long : end ≡ words_in s.spaces.pages = ap length c.make_room.ensures.same.words ∙ s.sized in
    subst (λ (rec : Record). EachWritesBelow end (rec ∷ [])) (sym c.into_record.ensures) (flip_below s.spaces c.in_ok-plan.plan end c.used-used.ensures.sound c.in_ok-plan.ensures.copied long)

pub invariant_of-self-2-clause-owed : goal.invariant_of-self-2-clause-owed
invariant_of-self-2-clause-owed g c =
    let s = c.args.self.now in
    let copies = c.in_ok-plan.plan in
    let spaces = c.change_spaces-reply.ensures.spaces ∙ ap (λ (x : SpacesState). with_copied (flipped x) (copied_size copies)) c.make_room.ensures.same.spaces in
    let begins = flip_begins s.spaces copies c.moved.result.now c.begin-collection.result c.add_copies.new.self c.used-used.result c.begin-collection.ensures c.used-used.ensures.used c.moved.ensures.moved c.in_ok-add_copies.ensures.ok in
    flip_owes s.spaces c.change_spaces-reply.new.spaces copies (Some c.add_copies.new.self) spaces begins

pub invariant_of-self-2-clause-gray : goal.invariant_of-self-2-clause-gray
invariant_of-self-2-clause-gray g c =
    let s = c.args.self.now in
    let copies = c.in_ok-plan.plan in
    let spaces = c.change_spaces-reply.ensures.spaces ∙ ap (λ (x : SpacesState). with_copied (flipped x) (copied_size copies)) c.make_room.ensures.same.spaces in
    let begins = flip_begins s.spaces copies c.moved.result.now c.begin-collection.result c.add_copies.new.self c.used-used.result c.begin-collection.ensures c.used-used.ensures.used c.moved.ensures.moved c.in_ok-add_copies.ensures.ok in
    flip_sound s.spaces c.change_spaces-reply.new.spaces copies (Some c.add_copies.new.self) c.used-used.ensures.sound c.in_ok-plan.ensures.copied spaces begins

pub invariant_of-self-2-clause-sound : goal.invariant_of-self-2-clause-sound
invariant_of-self-2-clause-sound g c =
    let s = c.args.self.now in
    let mid = c.make_room.new.self in
    let pairs = pairs_of c.in_ok-plan.plan in
    let size = length (pages_in_memory mid.pages).words in
    let moves = subst IsRelocation c.pairs-2.ensures.pairs c.pairs-2.ensures.moves in
    let gone = subst (λ (ps : List (ℕ × ℕ)). HaveGoneAlong ps mid.table c.translate.new.self) c.pairs-2.ensures.pairs c.translate.ensures in
    let long : length (pages_in_memory s.pages).words ≡ size = ap length (sym c.make_room.ensures.same.words) in
    let below = subst (λ (table : TableState). GoAlongBelow size pairs table) (sym c.make_room.ensures.same.table) (subst (λ (n : ℕ). GoAlongBelow n pairs s.table) long c.in_ok-plan.ensures.along) in
    let sound = sound_along mid.table c.translate.new.self size mid.reserved mid.sealed pairs moves mid.sound gone below in
    sound_same c.translate.new.self c.translate.new.self size (length (pages_in_memory c.carry_out.new.pages).words) mid.reserved mid.reserved mid.sealed sound refl (carried c.carry_out.result c.carry_out.ensures.still.1 c.carry_out.ensures.carries).size refl

pub returns-clause-flipped : goal.returns-clause-flipped
returns-clause-flipped g c objects words is =
    let s = c.args.self.now in
    let mid = c.make_room.new.self in
    let same = c.make_room.ensures.same in
    let copies = c.in_ok-plan.plan in
    let roots = c.in_ok-plan.ensures.roots in
    let idle : s.collection ≡ None = search rules in
    let gone =
    subst (λ (table : TableState). HaveGoneAlong (pairs_of copies) table c.translate.new.self) same.table
    (subst (λ (ps : List (ℕ × ℕ)). HaveGoneAlong ps mid.table c.translate.new.self) c.pairs-2.ensures.pairs c.translate.ensures) in
    let log = subst (λ (rec : Record). Adds (log_of mid.pages) (log_of c.carry_out.new.pages) (rec ∷ [])) c.into_record.ensures (adds_carried _ _ _ c.in_ok-carry_out.ensures.carries) in
    let put = c.in_ok-carry_out.ensures.carries.words ∙ ap (λ (rec : Record). fold put_record (pages_in_memory mid.pages).words (rec ∷ [])) c.into_record.ensures in
    let lsns = c.in_ok-carry_out.ensures.carries.lsns ∙ ap (λ (rec : Record). (redo_all (log_next_lsn (log_of mid.pages)) (pages_in_memory mid.pages) (rec ∷ [])).lsns) c.into_record.ensures in
    let locks = c.in_ok-rekey.ensures.ok ∙ (λ i. rekeyed (c.pairs.ensures.pairs i) (same.locks i)) in
    let spaces = c.change_spaces-reply.ensures.spaces ∙ ap (λ (x : SpacesState). with_copied (flipped x) (copied_size copies)) same.spaces in
    let begins = flip_begins s.spaces copies c.moved.result.now c.begin-collection.result c.add_copies.new.self c.used-used.result c.begin-collection.ensures c.used-used.ensures.used c.moved.ensures.moved c.in_ok-add_copies.ensures.ok in (
      roots.0,
      flips_with (memory s) _ roots.0 copies roots.2 idle roots.1 gone
          (from_same (memory s) (memory mid) _ (Flip copies ∷ []) c.translate.new.self (rekeyed (pairs_of copies) s.locks) (with_copied (flipped s.spaces) (copied_size copies))
          (Some (with_copies (begun s.spaces.used) (moved_objects copies))) s.sealed same (record {
            log = log;
            words = put;
            lsns = lsns;
            store = c.in_ok-carry_out.ensures.carries.store;
            table = refl;
            locks = locks;
            spaces = spaces;
            collection = begins;
            sealed = same.sealed;
          })),
    )

pub returns-then-is_some-clause-reply : goal.returns-then-is_some-clause-reply
returns-then-is_some-clause-reply g c =
    let s = c.args.self.now in
    let roots = some_roots s.table s.locks (length (pages_in_memory s.pages).words) s.reserved s.sealed s.sound in
    (roots.0, roots.1, flip_waits (memory s) roots.0 (search rules))

pub invariant_of-self-2-clause-spare : goal.invariant_of-self-2-clause-spare
invariant_of-self-2-clause-spare g c =
    let mid = c.make_room.new.self in
    let spare : HasSpare (log_of mid.pages) (c.length.result + mid.reserved) = search rules in
    let long = c.length.ensures.value ∙ ap (λ (rec : Record). length (spelling rec)) (c.record.ensures ∙ sym c.into_record.ensures) in
    (carried c.carry_out.result c.carry_out.ensures.still.1 c.carry_out.ensures.carries).spare mid.reserved (omega (arith, spare, long, length-append (spelling c.into_record.result) []))
