-- A flip that is granted: what it leaves, and the scan that ends its collection.
use Rattle.std.proofs.Common.{◌≡◌, inl, inr, ℕ, List, [], ◌∷◌, ◌++◌, Option, None, Some, refl, sym, ap, ◌∙◌, subst}
use Rattle.std.specs.Prelude.{Contains, slice_get, is_some}
use Rattle.graph_model.specs.declared.event.Event.TheVariants.{Flip, Scan}
use Rattle.graph_model.specs.declared.id.Id.{Id}
use Rattle.graph_model.specs.declared.reply.Entry.{Entry}
use Rattle.graph_model.specs.declared.reply.Refusal.{Refusal}
use Rattle.graph_model.specs.declared.reply.Reply.{Reply}
use Rattle.graph_model.specs.declared.reply.Reply.TheVariants as reply
use Rattle.graph_model.specs.Graph.{Graph, fields}
use Rattle.graph_model.specs.History.{Account, account, account_after}
use Rattle.graph_model.specs.Locking.{Exclusive, locks_of}
use Rattle.graph_model.specs.Plain.{refusal_of, reply_of}
use Rattle.graph_model.specs.Transaction.{Transaction, run, serial}
use Rattle.graph_model.proofs.Runs.History.{account-append}
use Rattle.heap_spaces.specs.Collection.{Collection}
use Rattle.log_records.specs.declared.Record.{Record}
use Rattle.log_machine.specs.Machine.{State}
use Rattle.graph_words.specs.Places.{address_of}
use Rattle.graph_words.proofs.Places.Addresses.{some_address}
use Rattle.collection_words.specs.Placing.{Placing, moved_by_all}
use Rattle.collection_words.proofs.Copy.Named.{apart_of}
use Rattle.heap_model.specs.Collecting.{flip_records, flip_records_in, flip_reply, next_page, scan_reply, scan_reply_in}
use Rattle.heap_model.specs.Core.{Core, IsStep, after, after_refusal, every_record, all_words, answer, core_refusal, granted_by, ground, own_records, placing, roots}
use Rattle.heap_model.proofs.Run.Calls.{same_step, step_history}
use Rattle.core_laws.proofs.Collecting.Flip as flip
use Rattle.core_laws.proofs.Run.Events.{step_reached}
use Rattle.core_laws.proofs.Step.Goes.{writing_of}
use Rattle.core_laws.proofs.Step.Sound.{reached_agrees, sound_valid}
use Rattle.core_laws.specs.Valid.{Agrees, IsReached, IsValid}
use Rattle.limit_laws.specs.Copies.{sealed_graph}
use Rattle.limit_laws.proofs.Copies.Flips.{copied_from, flip_is, flip_kept, kept_closed, left_from, seen_within}
use Rattle.limit_laws.proofs.Copies.Kept.{IsKept}
use Rattle.limit_laws.proofs.Copies.Led.{KeepsLed}
use Rattle.limit_laws.proofs.Copies.Own.{own_all}
use Rattle.limit_laws.proofs.Copies.Quiet.{place_done}
use Rattle.limit_laws.proofs.Copies.References.{KeepsReferences}
use Rattle.limit_laws.proofs.Copies.Scans.{AreKept}
use Rattle.limit_laws.proofs.Copies.Steps.{not_made}
use Rattle.limit_laws.proofs.Copies.Uncopied.{seen_refers}
use Rattle.limit_laws.proofs.Copies.Within.{OwnOr}
use Rattle.limit_laws.proofs.Events.Appended.{every_done}

-- what is granted is granted by a core that has not failed
pub unfailed : (o : Option ℕ) (why : Option Refusal) → refusal_of o why ≡ None → o ≡ None
unfailed None why is = refl
unfailed (Some entry) why is = cc is

-- The flip.

no_flip : (o : Option Refusal) (r : Reply) (objects words : ℕ) → reply_of o r ≡ reply.Flipped objects words → (o ≡ None) × (r ≡ reply.Flipped objects words)
no_flip None r objects words is = (refl, is)
no_flip (Some why) r objects words is = absurd (cc is)

none_runs : (s : State) (words rs : List ℕ) (o : Option Collection) (objects size : ℕ) → flip_reply (flip_records_in s words rs o) ≡ reply.Flipped objects size → o ≡ None
none_runs s words rs None objects size is = refl
none_runs s words rs (Some k) objects size is = absurd (cc is)

-- What a flip leaves.
pub record IsBegun (c f : Core) : Type 0 where
  pub valid : IsValid c
  pub none : valid.behind.collection ≡ None
  pub reached : IsReached f
  pub active : (account f.history).active ≡ (account c.history).active
  pub sealed : (account f.history).sealed ≡ (account c.history).sealed
  pub g0 : f.g0 ≡ c.g0
  pub all : every_record f ≡ every_record c ++ own_records c Flip
  pub placed : placing f ≡ moved_by_all (placing c) (own_records c Flip)

pub flip_begins : (c : Core) (objects words : ℕ) → IsReached c → answer c Flip ≡ reply.Flipped objects words → IsBegun c (after c Flip)
flip_begins c objects words reached is =
    let parts = no_flip (core_refusal c Flip) (granted_by c Flip) objects words is in
    let valid = sound_valid c reached.sound (unfailed (account c.history).failed _ parts.0) in
    let known = ap (λ (o : Option State). flip_reply (flip_records o (all_words c) (roots (ground c) c.g0 (account c.history)))) (sym valid.told.reached) in
    let step : IsStep c Flip (answer c Flip) (after c Flip) = inl (refl, refl) in
    let entry : Entry = record { event = Flip; reply = answer c Flip } in
    let told : account (after c Flip).history ≡ account_after (account c.history) entry = ap account (step_history c (after c Flip) Flip (answer c Flip) step) ∙ account-append c.history entry in
    record {
      valid = valid;
      none = none_runs valid.behind (all_words c) (roots (ground c) c.g0 (account c.history)) valid.behind.collection objects words (known ∙ parts.1);
      reached = step_reached c (after c Flip) Flip (answer c Flip) reached tt step;
      active = ap (λ (a : Account). a.active) told ∙ ap (λ (r : Reply). (account_after (account c.history) (record { event = Flip; reply = r })).active) is;
      sealed = ap (λ (a : Account). a.sealed) told ∙ ap (λ (r : Reply). (account_after (account c.history) (record { event = Flip; reply = r })).sealed) is;
      g0 = (same_step c (after c Flip) Flip (answer c Flip) step).g0;
      all = ap (λ (o : Option Refusal). every_record (after_refusal o c Flip)) parts.0 ∙ every_done c Flip;
      placed = ap (λ (o : Option Refusal). placing (after_refusal o c Flip)) parts.0 ∙ place_done c Flip tt;
    }

-- What is kept.

module _ (c f : Core) (reached : IsReached c) (begun : IsBegun c f) where
  -- the graph stays
  pub begun_graph : sealed_graph f ≡ sealed_graph c
  begun_graph = ap (λ (x : Graph). serial x (account f.history).sealed) begun.g0 ∙ ap (serial c.g0) begun.sealed

  -- what stands in the current space then is kept
  pub begun_kept : AreKept (IsKept c) f.places
  begun_kept =
      subst (λ (p : Placing). AreKept (IsKept c) p.places) (sym begun.placed)
      (subst (λ (rs : List Record). AreKept (IsKept c) (moved_by_all (placing c) rs).places) (sym (flip_is c begun.valid reached.locked begun.none)) (flip_kept c begun.valid reached.locked begun.none))

  -- so is what it refers to
  pub begun_led : KeepsLed (IsKept c) (sealed_graph c) (account f.history) f (reached_agrees f begun.reached).behind
  begun_led = record {
    rest = λ z left. ap (λ (x : Graph). fields x z) begun_graph;
    leads = λ k run_is z y at i there gray refers left. kept_closed c begun.valid reached.locked begun.none z y i (begun_kept z at there) (ap (λ (x : Graph). slice_get (fields x z) i) (sym begun_graph) ∙ refers);
    seen = λ k run_is r t z y at i active lock there gray refers left.
        let before = ap (λ x. x r) (sym begun.active) ∙ active in
        let within = seen_within c begun.valid reached.locked begun.none r t before in
        let w = writing_of _ f r t active (reached_agrees f begun.reached) in
        let to = some_address (address_of f.remaining y) left in
        theirs t y (not_made t f.remaining y to.0 w.apart to.1) (within.leads z y i (inr (begun_kept z at there)) (ap (λ (x : Graph). slice_get (fields (run x t).graph z) i) (sym begun_graph) ∙ refers));
  }
    where
      theirs : (t : Transaction) (y : Id) → (y.t ≡ t.number → ⊥) → OwnOr (IsKept c) t.number y → IsKept c y
      theirs t y apart (inl own) = absurd (apart own)
      theirs t y apart (inr kept) = kept

  -- and each reference to what remains is as it was
  pub begun_refers : KeepsReferences (sealed_graph c) (account f.history) f (reached_agrees f begun.reached).behind
  begun_refers = record {
    sealed = λ k run_is z y at i there gray refers left. ap (λ (x : Graph). slice_get (fields x z) i) begun_graph ∙ refers;
    seen = λ k run_is r t z y at i active lock there gray refers left.
        let runs = reached.locked in
        let h = reached_agrees f begun.reached in
        let stood : placing f ≡ moved_by_all (placing c) (flip.rec (account c.history) c begun.valid begun.none ∷ []) = begun.placed ∙ ap (moved_by_all (placing c)) (flip_is c begun.valid runs begun.none) in
        let from = copied_from c begun.valid runs begun.none z at (ap (λ (p : Placing). address_of p.places z) (sym stood) ∙ there) in
        let to = left_from c begun.valid runs begun.none y (ap (λ (p : Placing). is_some (address_of p.remaining y)) (sym stood) ∙ left) in
        let last = some_address (address_of f.remaining y) left in
        let apart = ap (λ (p : Placing). address_of p.places y) (sym stood) ∙ apart_of f.places f.remaining y last.0 (own_all _ f h) last.1 in
        ap (λ (x : Graph). slice_get (fields (run x t).graph z) i) begun_graph
        ∙ seen_refers c begun.valid runs begun.none r t (ap (λ x. x r) (sym begun.active) ∙ active) z y i from.0 to.0 (subst (λ (x : Graph). Contains (locks_of x t) (z, Exclusive)) begun_graph lock) from.1 to.1 apart refers;
  }

-- The end.

-- A scan ends the collection: nothing is gray.
pub record EndsWith (s : State) (used : ℕ) : Type 0 where
  pub collection : Collection
  pub runs : s.collection ≡ Some collection
  pub black : next_page (Some collection) ≡ None
  pub size : used ≡ s.used

ends_with : (s : State) (rs : List Record) (o : Option Collection) (page : Option ℕ) (used : ℕ) → s.collection ≡ o → next_page o ≡ page → scan_reply_in s rs o page ≡ reply.Collected used → EndsWith s used
ends_with s rs None page used run next is = absurd (cc is)
ends_with s rs (Some k) (Some page) used run next is = absurd (cc is)
ends_with s rs (Some k) None used run next is = record { collection = k; runs = run; black = next; size = collected_one s.used used is }
  where
    collected_one : (x y : ℕ) → reply.Collected x ≡ reply.Collected y → y ≡ x
    collected_one x y same = cc same

not_refused : (o : Option Refusal) (r : Reply) (used : ℕ) → reply_of o r ≡ reply.Collected used → r ≡ reply.Collected used
not_refused None r used is = is
not_refused (Some why) r used is = absurd (cc is)

pub end_of_scan : (a : Account) (d : Core) (h : Agrees a d) (used : ℕ) → answer d Scan ≡ reply.Collected used → EndsWith h.behind used
end_of_scan a d h used is =
    let answered = not_refused (core_refusal d Scan) (granted_by d Scan) used is in
    ends_with h.behind (own_records d Scan) h.behind.collection (next_page h.behind.collection) used refl refl (ap (λ (o : Option State). scan_reply o (own_records d Scan)) (sym h.told.reached) ∙ answered)
