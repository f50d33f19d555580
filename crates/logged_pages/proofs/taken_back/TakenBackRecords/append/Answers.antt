use Rattle.std.proofs.Common.{◌≡◌, ℕ, ◌+◌, List, [], ◌∷◌, ◌++◌, length, reverse, sym, ap, ◌∙◌, subst, arith, append_assoc}
use Rattle.std.proofs.lemmas.List.{length-reverse, length-append}
use Rattle.gated_log.specs.LogState.{log_used, log_need, Keeps}
use Rattle.log_machine.specs.declared.UndoEntry.{UndoEntry}
use Rattle.log_machine.specs.Machine.{abort_records}
use Rattle.log_machine.proofs.AbortLaws.{abort_length}
use Rattle.log_records.specs.declared.Record.{Record}
use Rattle.log_records.specs.Record.{spelling, spellings}
use Rattle.logged_pages.proofs.CarriedLaws.{ok_gives}
use Rattle.logged_pages.proofs.Spare.{size_after}
use Rattle.logged_pages.proofs.TakingBack.{newest}
use Rattle.logged_pages.proofs.taken_back.TakenBackRecords.append.Goals as goal

-- which takes nineteen bytes
bytes : (t : ℕ) (rest before : List UndoEntry) (u : UndoEntry) → rest ≡ before ++ u ∷ [] → length (spellings (abort_records t (reverse rest))) ≡ length (spellings (abort_records t (reverse before))) + 19
bytes t rest before u is =
    omega (arith, abort_length t (reverse rest), abort_length t (reverse before), length-reverse rest, length-reverse before, ap length is, length-append before (u ∷ []))

pub loop-entry-preserved : goal.loop-entry-preserved
loop-entry-preserved c =
    let t = c.args.self.now.t in
    let rest = c.loop-entry.entry-iterator.iter.rest.now in
    let before = c.next.new.self.iter.rest.now in
    let log = c.loop-entry.log in
    let is = c.in-Some.ensures.steps in
    let inv = c.loop-entry.invariant in
    let rec = c.undone.result in
    let nineteen : length (spelling rec) ≡ 19 = ap (λ (r : Record). length (spelling r)) c.undone.ensures in
    let less = bytes t rest before c.in-Some.entry.now is in
    let all = abort_records t (reverse c.args.self.now.undo.now) in
    let ok = c.append.ensures.in_room (omega (arith, nineteen, less, inv.size, inv.memory, c.requires.memory)) in
    let used : log_used c.append.new.self ≡ log_used log + log_need log (length (spelling rec)) = ok_gives c.append.result ok c.append.ensures.used in
    let size = size_after log c.append.new.self (length (spelling rec)) (omega (arith, nineteen)) c.append.ensures.place.tail used in
    let counted = ok_gives c.append.result ok c.append.ensures.count in
    let first = newest t rest before c.in-Some.entry.now is ∙ ap (λ (r : Record). r ∷ abort_records t (reverse before)) (sym c.undone.ensures) in
    record {
      place = record {
        at = c.append.ensures.place.at ∙ inv.place.at;
        room = c.append.ensures.place.room ∙ inv.place.room;
        tail = c.append.ensures.place.tail ∙ inv.place.tail;
        forced = c.append.ensures.place.forced ∙ inv.place.forced;
      };
      kept = λ batches pending keeps.
          let k = inv.kept batches pending keeps in
          let added = ok_gives c.append.result ok (c.append.ensures.added batches (pending ++ k.0) k.1) in (
            k.0 ++ rec ∷ [],
            subst (λ (rs : List Record). Keeps c.append.new.self batches rs) (append_assoc pending k.0 (rec ∷ [])) added,
            append_assoc k.0 (rec ∷ []) (abort_records t (reverse before)) ∙ ap (λ (rs : List Record). k.0 ++ rs) (sym first) ∙ k.2,
          );
      size = omega (arith, size, nineteen, less, inv.size);
      count = omega (arith, counted, ap length first, inv.count);
      memory = omega (arith, c.append.ensures.memory, inv.memory);
    }
