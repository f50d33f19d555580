use Rattle.std.proofs.Common.{◌≡◌, ◌≤◌, length, ◌++◌, [], ◌∷◌, List, sym, ap, ◌∙◌, subst, arith, append_assoc, append-nil, length-append, refl}
use Rattle.std.proofs.Math.ListN.{drop_of_length-le}
use Rattle.std.proofs.lemmas.Result.{MatchResult-from_err}
use Rattle.graph_model.specs.declared.event.Event.TheVariants.{Begin}
use Rattle.graph_model.specs.declared.reply.Entry.{Entry}
use Rattle.heap_workers.specs.Playing.{ends, Played, IsUnfinished}
use Rattle.heap_workers.proofs.PlayingLaws.{goes_on, goes_to_end, goes_unfinished, made_err}
use Rattle.heap_workers.proofs.worker.Worker.work.Goals as goal

pub returns-in_err-make-clause-sent : goal.returns-in_err-make-clause-sent
returns-in_err-make-clause-sent g c =
    let so_far = c.loop-place.invariant.sent in
    let made = c.in_err-make.ensures.made in
    let events = c.args.self.now.events.items in
    let tries = c.args.self.now.tries in
    let part : List Entry = so_far.0 ++ made.0 in (
      part,
      made.1 ∙ ap (λ (l : List Entry). l ++ made.0) so_far.1 ∙ append_assoc (g.C.HeapCalls.sent c.args.calls.now) so_far.0 made.0,
      omega (arith, made.4, so_far.2, length-append so_far.0 made.0, made_err c.from_residual.result part c.from_residual.ensures.0),
      MatchResult-from_err c.from_residual.result (λ _. Played tries events part) (λ _. IsUnfinished tries events part) c.from_residual.ensures.0
          (λ _. goes_unfinished tries c.deref-event-items.result.now events c.deref-event-items.ensures.value c.loop-place.place (Begin 0) c.loop-place-test.true so_far.0 so_far.3 made.0 made.2 made.3),
    )

pub loop-place-preserved : goal.loop-place-preserved
loop-place-preserved g c =
    let so_far = c.loop-place.invariant in
    let made = c.in_ok-make.ensures.made in
    let on : ends made.1.reply ≡ _ = ap ends made.4 ∙ sym c.ends_part.ensures ∙ c.if-ends_part.false in
    record {
      sent = (
        so_far.sent.0 ++ (made.0 ++ made.1 ∷ []),
        made.2 ∙ ap (λ (l : List Entry). l ++ (made.0 ++ made.1 ∷ [])) so_far.sent.1 ∙ append_assoc (g.C.HeapCalls.sent c.args.calls.now) so_far.sent.0 (made.0 ++ made.1 ∷ []),
        omega (arith, made.5, so_far.sent.2, length-append so_far.sent.0 (made.0 ++ made.1 ∷ []), length-append made.0 (made.1 ∷ [])),
        goes_on c.args.self.now.tries c.deref-event-items.result.now c.args.self.now.events.items c.deref-event-items.ensures.value c.loop-place.place (Begin 0) c.loop-place-test.true so_far.sent.0 so_far.sent.3
            made.0 made.1 made.3 on,
      );
      takes = λ event may. c.make.ensures.takes event (so_far.takes event may);
      origin = c.make.ensures.origin ∙ so_far.origin;
    }

pub returns-after-loop-place-clause-sent : goal.returns-after-loop-place-clause-sent
returns-after-loop-place-clause-sent g c =
    let so_far = c.loop-place.invariant.sent in
    let events = c.args.self.now.events.items in
    let tries = c.args.self.now.tries in
    (so_far.0, so_far.1, so_far.2, subst (Played tries events) (append-nil so_far.0) (so_far.3 [] (subst (λ l. Played tries l []) (sym (drop_of_length-le events (subst (λ l. length l ≤ c.loop-place.place) c.deref-event-items.ensures.value c.loop-place-test.false))) refl)))

pub returns-then-ends_part-clause-sent : goal.returns-then-ends_part-clause-sent
returns-then-ends_part-clause-sent g c =
    let so_far = c.loop-place.invariant.sent in
    let made = c.in_ok-make.ensures.made in
    let end : ends made.1.reply ≡ _ = ap ends made.4 ∙ sym c.ends_part.ensures ∙ c.if-ends_part.true in (
      so_far.0 ++ (made.0 ++ made.1 ∷ []),
      made.2 ∙ ap (λ (l : List Entry). l ++ (made.0 ++ made.1 ∷ [])) so_far.1 ∙ append_assoc (g.C.HeapCalls.sent c.args.calls.now) so_far.0 (made.0 ++ made.1 ∷ []),
      omega (arith, made.5, so_far.2, length-append so_far.0 (made.0 ++ made.1 ∷ []), length-append made.0 (made.1 ∷ [])),
      goes_to_end c.args.self.now.tries c.deref-event-items.result.now c.args.self.now.events.items c.deref-event-items.ensures.value c.loop-place.place (Begin 0) c.loop-place-test.true so_far.0 so_far.3
          made.0 made.1 made.3 end,
    )
