-- A collection that no session disturbs copies just what is reached, and makes nothing stable.
use Rattle.std.proofs.Common.{◌≡◌, false, List, [], ◌∷◌, drop, filter, length, refl, sym, ap, ◌∙◌, arith}
use Rattle.std.specs.List.{AllByRecursion}
use Rattle.std.proofs.lemmas.List.{append-nil}
use Rattle.std.proofs.Math.Seq.{drop-append_seam}
use Rattle.graph_model.specs.declared.event.Event.{Event}
use Rattle.graph_model.specs.declared.event.Event.TheVariants.{Flip}
use Rattle.graph_model.specs.declared.reply.Entry.{Entry}
use Rattle.graph_model.specs.declared.reply.Reply.{Reply}
use Rattle.graph_model.specs.History.{Account, account, account_after, IsOfSession}
use Rattle.graph_model.specs.Transaction.{Transaction}
use Rattle.graph_model.proofs.Runs.History.{account-append}
use Rattle.log_machine.proofs.ListLaws.{AllByRecursion-map}
use Rattle.heap_model.specs.Core.{Core, IsRun, after}
use Rattle.heap_model.proofs.Run.Calls.{step_history}
use Rattle.core_laws.proofs.Run.Events.{step_reached}
use Rattle.core_laws.proofs.Step.Sound.{reached_agrees}
use Rattle.core_laws.specs.Valid.{IsReached}
use Rattle.limit_laws.specs.Copies.{IsOfNone, UndisturbedTheorem, is_made_by, sealed_graph, sealed_since, words_of}
use Rattle.limit_laws.proofs.Copies.Begun.{flip_begins}
use Rattle.limit_laws.proofs.Copies.Counted.{all_named, keeps_none}
use Rattle.limit_laws.proofs.Copies.Exact.{exact_law}
use Rattle.limit_laws.proofs.Copies.Quiet.{of_none, still_granted, still_refused}
use Rattle.limit_laws.proofs.Events.Steps.{IsDone, granted, refused, step_done}

-- an event of no session seals nothing
done_still : (e f : Core) (event : Event) (reply : Reply) (s n : _) → IsOfNone event → IsDone e f event reply s n → (account_after (account e.history) (record { event = event; reply = reply })).sealed ≡ (account e.history).sealed
done_still e f event reply s n of (refused why says is same) = ap (λ (r : Reply). (account_after (account e.history) (record { event = event; reply = r })).sealed) says ∙ (still_refused (account e.history) event why of).sealed
done_still e f event reply s n of (granted may says is follows) = ap (λ (r : Reply). (account_after (account e.history) (record { event = event; reply = r })).sealed) says ∙ (still_granted e event of).sealed

run_still : (e d : Core) (events : List Event) → IsReached e → AllByRecursion IsOfNone events → IsRun e events d → (account d.history).sealed ≡ (account e.history).sealed
run_still e d [] reached of run = ap (λ (x : Core). (account x.history).sealed) run
run_still e d (event ∷ events) reached of run =
    let there = step_reached e run.1 event run.0 reached (of_none event of.0) run.2 in
    let entry : Entry = record { event = event; reply = run.0 } in
    let told : account run.1.history ≡ account_after (account e.history) entry = ap account (step_history e run.1 event run.0 run.2) ∙ account-append e.history entry in
    let done = step_done e run.1 event run.0 (reached_agrees e reached).behind (reached_agrees run.1 there).behind run.2 (reached_agrees e reached).told.reached (reached_agrees run.1 there).told.reached in
    run_still run.1 d events there of.1 run.3 ∙ ap (λ (a : Account). a.sealed) told ∙ done_still e run.1 event run.0 _ _ of.0 done

-- What an undisturbed collection copies is just what is reached.
pub undisturbed_law : UndisturbedTheorem
undisturbed_law c d events objects words used reached idle flips run of none is =
    let all = exact_law c c d [] events objects words used reached idle tt refl flips (AllByRecursion-map IsOfNone IsOfSession events of_none of) run none is in
    let begun = flip_begins c objects words reached flips in
    let sealed = run_still (after c Flip) d events begun.reached of run ∙ begun.sealed in
    let nothing : sealed_since c d ≡ [] =
    ap (drop (length (account c.history).sealed)) (sealed ∙ sym (append-nil (account c.history).sealed)) ∙ drop-append_seam (account c.history).sealed [] in
    let made : filter (λ p. is_made_by (sealed_since c d) p.0) d.places ≡ [] =
    ap (λ (ts : List Transaction). filter (λ p. is_made_by ts p.0) d.places) nothing ∙ keeps_none (λ p. is_made_by [] p.0) d.places (all_named (λ id. is_made_by [] id ≡ false) d.places (λ id has. refl)) in
    let count = all.words in
    let rest : words_of (sealed_graph d) (filter (λ p. is_made_by (sealed_since c d) p.0) d.places) ≡ 0 = ap (words_of (sealed_graph d)) made in
    record { exactly = all.exactly; words = omega arith }
