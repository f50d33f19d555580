-- The log always has room for an abort, a force, and a seal that makes no object stable.
use Rattle.std.proofs.Common.{◌≡◌, ℕ, ◌+◌, ◌≤◌, Bool, List, [], ◌∷◌, length, Option, None, Some, refl, sym, ap, ◌∙◌, subst, arith}
use Rattle.std.specs.Prelude.{if◌then◌else◌, unwrap_or, ◌-◌, ◌*◌}
use Rattle.std.proofs.lemmas.Bool.{le-ltb}
use Rattle.graph_model.specs.declared.event.Event.{Event}
use Rattle.graph_model.specs.declared.event.Event.TheVariants.{Seal, Abort, Force}
use Rattle.graph_model.specs.declared.reply.Refusal.TheVariants.{Exhausted, NotActive}
use Rattle.graph_model.specs.declared.reply.Refusal.{Refusal}
use Rattle.graph_model.specs.declared.reply.Reply.TheVariants.{Sealed}
use Rattle.graph_model.specs.History.{Account, account, account_after}
use Rattle.graph_model.specs.Plain.{call_conflict, call_refusal, conflict_refusal, event_refusal, first_of_two, model_refusal, refusal_of, view}
use Rattle.graph_model.specs.Transaction.{Transaction}
use Rattle.commit_order.specs.Heard.{Heard, heard_in}
use Rattle.commit_order.specs.SerialOrder.{numbers_begun}
use Rattle.commit_order.proofs.OrderLaws.{IsOrdered, two_phase_ordered}
use Rattle.log_records.specs.declared.Record.{Record}
use Rattle.log_records.specs.Record.{spellings}
use Rattle.log_machine.specs.Machine.{State, owed, undo_of}
use Rattle.log_machine.proofs.MapLaws.{get_kept}
use Rattle.stability_tracker.specs.Promotion.{need}
use Rattle.graph_words.specs.Promotion.{promoted_by}
use Rattle.heap_model.specs.Core as core
use Rattle.heap_model.specs.Core.{Core, IsRun, all_records, all_words, area_in, call_records, core_refusal, event_places, event_records, ground, log_refusal, next_number, reserved, room_refusal, seal_need, sealed_places, space_refusal, undo_with, words_refusal}
use Rattle.heap_model.specs.Opening.{opened}
use Rattle.heap_model.proofs.Run.Calls.{failed_refusal}
use Rattle.heap_model.proofs.Step.Room.{full_log-none}
use Rattle.core_laws.proofs.Opening.Again.{opening_law}
use Rattle.core_laws.proofs.Run.Ending.{abort_granted}
use Rattle.core_laws.proofs.Run.Events.{force_granted, run_reached}
use Rattle.core_laws.proofs.Seal.Cases as cases
use Rattle.core_laws.proofs.Seal.Told as seal
use Rattle.core_laws.proofs.Sessions.Actives.{ended_reserved}
use Rattle.core_laws.proofs.Step.Events.{unfailed_refusal}
use Rattle.core_laws.proofs.Step.Granted.{HasRoom}
use Rattle.core_laws.proofs.Step.Sound.{reached_agrees, sound_valid}
use Rattle.core_laws.specs.Active.{active_in}
use Rattle.core_laws.specs.Ended.{IsUnfailed}
use Rattle.core_laws.specs.Valid.{Agrees, IsReached, IsValid}
use Rattle.limit_laws.specs.Room.{EndsTheorem, FitsTheorem, IsEnd, RollbackTheorem, not_active, nothing_to_end, taken}
use Rattle.limit_laws.proofs.LogRoom.Seal.{none_promoted, seal_small}

-- What is used and kept.

-- it lies within the log of each core that is reached
pub reached_fits : (c : Core) → IsReached c → taken c ≤ c.room
reached_fits c reached =
    let h = reached_agrees c reached in
    let kept = ap (λ (o : Option State). reserved (undo_with o) (account c.history)) h.told.reached in
    omega (arith, h.room, kept)

pub fits_law : FitsTheorem
fits_law c d events reached sessions run = reached_fits d (run_reached c d events reached sessions run)

pub rollback_law : RollbackTheorem
rollback_law stored shaped born places g found =
    let opens = opening_law stored shaped (λ p. 0) born places g found in
    omega (arith, reached_fits (opened stored (λ p. 0) born places g) opens.reached)

-- A seal that makes no object stable.

need_grows : (pending : List Record) (records : List Record) → core.need pending records ≤ length (spellings records) + 5
need_grows pending [] = omega arith
need_grows [] (r ∷ rs) = omega arith
need_grows (p ∷ ps) (r ∷ rs) = omega arith

module _ (a : Account) (c : Core) (h : Agrees a c) {numbers : List ℕ} {heard : Heard} (o : IsOrdered c.g0 numbers a heard) (s : ℕ) (t : Transaction) (e : a.active s ≡ Some t)
    (none : promoted_by (seal.own_area a c h o s t e) (seal.own_words a c h o s t e) (seal.own_undo a c h o s t e) ≡ []) (space : seal.HasSpace a c h o s t e) (n : ℕ) where
  -- its records have room in what is kept for it
  quiet_room : HasRoom c (seal.records a c h o s t e) (account_after a (record { event = Seal s; reply = Sealed n }))
  quiet_room =
      let session = h.in_sessions s t e in
      let b : Account = account_after a (record { event = Seal s; reply = Sealed n }) in
      let last = seal.last a c h o s t e in
      let kept = ap (λ (x : Option State). reserved (undo_with x) b) (cases.reached a c h o s t e space) in
      let less = ended_reserved (undo_of h.behind) (undo_of last) a s t session e
      (λ r u other also. ap (λ x. unwrap_or x []) (get_kept h.behind.undo t.number u.number (let beside = o.beside r s u t other also e in beside.differ))) in
      let small = seal_small (seal.own_area a c h o s t e) (seal.own_words a c h o s t e) (seal.own_undo a c h o s t e) (seal.next_free a c h o s t e) none in
      let grows = need_grows c.pending (seal.records a c h o s t e) in
      let room = h.room in
      omega arith

-- the log has room for it
log_quiet_seal : (c : Core) (s : ℕ) (t : Transaction) (valid : IsValid c) (o : IsOrdered c.g0 (numbers_begun c.history) (account c.history) (heard_in c.history)) (e : active_in c s ≡ Some t)
    → promoted_by (seal.own_area (account c.history) c valid o s t e) (seal.own_words (account c.history) c valid o s t e) (seal.own_undo (account c.history) c valid o s t e) ≡ []
    → seal.HasSpace (account c.history) c valid o s t e → log_refusal c (Seal s) ≡ None
log_quiet_seal c s t valid o e none space =
    let a = account c.history in
    let b : Account = account_after a (record { event = Seal s; reply = Sealed (length a.sealed + 1) }) in
    let records : event_records c (Seal s) ≡ seal.records a c valid o s t e =
    ap (λ (x : Option Transaction). call_records (ground c) c.g0 a x (Seal s)) e ∙ seal.seal_is a c valid o s t e in
    full_log-none c.room (core.used c) (core.need c.pending (event_records c (Seal s))) (core.reserved_after c (Seal s))
    (subst (λ (rs : List Record). HasRoom c rs b) (sym records) (quiet_room a c valid o s t e none space (length a.sealed + 1)))

-- where no words are asked for there is room
nothing_fits : (s : State) → space_refusal (Some s) 0 ≡ None
nothing_fits s = ap (λ (b : Bool). if b then Some (Exhausted 0 (64 * s.pages - s.used) (owed s)) else None) (le-ltb (64 * s.pages - s.used - owed s) 0 (omega arith))

-- it asks for no words
no_words : (c : Core) (s : ℕ) (t : Transaction) (valid : IsValid c) → promoted_by (area_in c.places (view c.g0 (account c.history) t) t.number) (all_words c) (undo_of valid.behind t.number) ≡ []
    → space_refusal (ground c).state (seal_need (ground c) t.number (view c.g0 (account c.history) t)) ≡ None
no_words c s t valid none =
    let area = area_in c.places (view c.g0 (account c.history) t) t.number in
    ap (λ (x : Option State). space_refusal x (need area (promoted_by area (all_words c) (undo_with x t.number)))) valid.told.reached
    ∙ ap (λ (starts : List ℕ). space_refusal (Some valid.behind) (need area starts)) none
    ∙ nothing_fits valid.behind

-- a seal that makes no object stable is granted
seal_granted : (c : Core) (s : ℕ) (t : Transaction) → IsReached c → (valid : IsValid c) → active_in c s ≡ Some t → event_places c (Seal s) ≡ [] → core_refusal c (Seal s) ≡ None
seal_granted c s t reached valid e places =
    let a = account c.history in
    let o = two_phase_ordered c.g0 c.history reached.locked.plain reached.locked.two_phase in
    let there = sym (ap (sealed_places (ground c) c.g0 a) e) ∙ places in
    let own = sym (seal.places_are a c valid o s t e) ∙ there in
    let none = none_promoted (seal.own_area a c valid o s t e) (seal.own_words a c valid o s t e) (seal.own_undo a c valid o s t e) (seal.next_free a c valid o s t e) own in
    let area = area_in c.places (view c.g0 a t) t.number in
    let here = none_promoted area (all_words c) (undo_with (ground c).state t.number) (core.next_word (ground c).state) there in
    let raw = sym (ap (λ (x : Option State). promoted_by area (all_words c) (undo_with x t.number)) valid.told.reached) ∙ here in
    let space = no_words c s t valid raw in
    let asks : model_refusal (next_number c) c.g0 a (Seal s) ≡ None =
    ap (λ (x : Option Transaction). first_of_two (call_refusal c.g0 a x (Seal s)) (call_conflict c.g0 a x (Seal s))) e in
    let room : words_refusal c (Seal s) ≡ None = ap (λ (x : Option Transaction). room_refusal (ground c) c.g0 a x (Seal s)) e ∙ space in
    unfailed_refusal c (Seal s) valid.unfailed
    ∙ ap (λ (x : Option Refusal). first_of_two x (first_of_two (words_refusal c (Seal s)) (log_refusal c (Seal s)))) asks
    ∙ ap (λ (x : Option Refusal). first_of_two x (log_refusal c (Seal s))) room
    ∙ log_quiet_seal c s t valid o e none space

-- Ends.

-- that a session has no transaction is reported
told_idle : (c : Core) (event : Event) → (account c.history).failed ≡ None → event_refusal (next_number c) c.g0 (account c.history) event ≡ Some NotActive → core_refusal c event ≡ Some NotActive
told_idle c event unfailed idle =
    unfailed_refusal c event unfailed
    ∙ ap (λ (x : Option Refusal). first_of_two (first_of_two x (conflict_refusal c.g0 (account c.history) event)) (first_of_two (words_refusal c event) (log_refusal c event))) idle

abort_told : (c : Core) (s : ℕ) (o : Option Transaction) → active_in c s ≡ o → IsReached c → IsUnfailed c → core_refusal c (Abort s) ≡ not_active o
abort_told c s None is reached unfailed = told_idle c (Abort s) unfailed (ap (λ (x : Option Transaction). call_refusal c.g0 (account c.history) x (Abort s)) is)
abort_told c s (Some t) is reached unfailed = abort_granted c s t reached unfailed is

seal_told : (c : Core) (s : ℕ) (o : Option Transaction) → active_in c s ≡ o → IsReached c → IsUnfailed c → event_places c (Seal s) ≡ [] → core_refusal c (Seal s) ≡ not_active o
seal_told c s None is reached unfailed places = told_idle c (Seal s) unfailed (ap (λ (x : Option Transaction). call_refusal c.g0 (account c.history) x (Seal s)) is)
seal_told c s (Some t) is reached unfailed places = seal_granted c s t reached (sound_valid c reached.sound unfailed) is places

end_unfailed : (c : Core) (event : Event) → IsReached c → IsUnfailed c → IsEnd c event → core_refusal c event ≡ nothing_to_end c event
end_unfailed c (Abort s) reached unfailed is = abort_told c s (active_in c s) refl reached unfailed
end_unfailed c Force reached unfailed is = force_granted c (sound_valid c reached.sound unfailed)
end_unfailed c (Seal s) reached unfailed is = seal_told c s (active_in c s) refl reached unfailed is
end_unfailed c event reached unfailed is = absurd is

end_either : (c : Core) (event : Event) (o : Option ℕ) → (account c.history).failed ≡ o → IsReached c → IsEnd c event → core_refusal c event ≡ refusal_of o (nothing_to_end c event)
end_either c event None is reached end = end_unfailed c event reached is end
end_either c event (Some entry) is reached end = failed_refusal c event entry is

-- what an end may be refused for
pub ends_law : EndsTheorem
ends_law c d events event reached sessions run end =
    end_either d event (account d.history).failed refl (run_reached c d events reached sessions run) end
