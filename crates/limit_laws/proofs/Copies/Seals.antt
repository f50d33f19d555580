-- What a seal leaves of a core while a collection is under way, and that it makes stable what its transaction made.
use Rattle.std.proofs.Common.{◌≡◌, ◌≢◌, ◌⊎◌, inl, inr, ℕ, true, false, List, [], ◌∷◌, ◌++◌, Option, None, Some, is_some, refl, sym, ap, ◌∙◌, subst}
use Rattle.std.specs.Prelude.{◌||◌, Contains, slice_get}
use Rattle.std.specs.List.{AllByRecursion}
use Rattle.std.specs.FinSet.{contains}
use Rattle.std.specs.Option.{option_to_list}
use Rattle.std.proofs.lemmas.Bool.{eq-eqb, ne_eqb}
use Rattle.std.proofs.lemmas.Option.{same_Some}
use Rattle.graph_model.specs.declared.id.Id.{Id}
use Rattle.graph_model.specs.declared.val.Val.{Val}
use Rattle.graph_model.specs.Graph.{Graph, fields}
use Rattle.graph_model.specs.History.{Account, account, account_after}
use Rattle.graph_model.specs.declared.event.Event.TheVariants.{Seal}
use Rattle.graph_model.specs.declared.reply.Reply.TheVariants.{Sealed}
use Rattle.graph_model.proofs.Runs.History.{serial-append}
use Rattle.graph_model.specs.Locking.{Exclusive, Lock, locks_of}
use Rattle.graph_model.specs.Transaction.{Transaction, run, serial}
use Rattle.commit_order.specs.Heard.{Heard, heard_in}
use Rattle.commit_order.specs.SerialOrder.{numbers_begun}
use Rattle.commit_order.proofs.LockingLaws.{exclusive_or_not, fields-run, runs_alike}
use Rattle.commit_order.proofs.OrderLaws.{IsOrdered}
use Rattle.heap_spaces.specs.Collection.{Collection}
use Rattle.log_records.specs.declared.Record.{Record}
use Rattle.log_machine.specs.Machine.{State, after_all, losing}
use Rattle.log_machine.proofs.MachineLaws.{after_all-append2}
use Rattle.graph_words.specs.Places.{Places, address_of}
use Rattle.graph_words.proofs.Places.Addresses.{address_of-one, some_address}
use Rattle.graph_words.proofs.Seal.Places.{address_of-append_left, address_of-append_right}
use Rattle.collection_words.specs.Completed.{future}
use Rattle.collection_words.specs.Placed.{HaveOwnNames}
use Rattle.collection_words.proofs.Copy.Named.{named, own_front}
use Rattle.collection_words.proofs.Copy.Stands.{completed_own}
use Rattle.collection_words.proofs.Laid.Names.{own_names}
use Rattle.collection_words.proofs.Laid.Sources.{here_ends}
use Rattle.collection_words.proofs.Laid.Underway.{underway}
use Rattle.seen_laws.proofs.States.{sealed_stands, writes_of_all}
use Rattle.heap_model.specs.Core.{Core, all_records, all_words, call_records, done, event_places, event_records, ground, log_start, placing, sealed_places}
use Rattle.core_laws.proofs.Collecting.Entries.{all_at}
use Rattle.core_laws.proofs.Step.Goes.{words_with, writing_of}
use Rattle.core_laws.proofs.Seal.Cases as cases
use Rattle.core_laws.proofs.Seal.Told as seal
use Rattle.core_laws.proofs.Sessions.Actives.{each_session}
use Rattle.core_laws.specs.Valid.{Agrees, IsValid}
use Rattle.limit_laws.specs.Copies.{is_made_by}
use Rattle.limit_laws.proofs.Copies.Counted.{Seals, all_named}
use Rattle.limit_laws.proofs.Copies.Disturbed.{own_apart, some_none}
use Rattle.limit_laws.proofs.Copies.Running.{IsPlaced}
use Rattle.limit_laws.proofs.Copies.Led.{HasLed, StaysLed}
use Rattle.limit_laws.proofs.Copies.Steps.{not_made}
use Rattle.limit_laws.proofs.Copies.References.{GraysRefer, KeepsReferences, StaysReferring}

-- What a seal leaves of a core: the same collection, the current objects and those that it made stable.
pub record IsSealedTo (a b : Account) (e f : Core) (s n : State) (session : ℕ) (t : Transaction) : Type 0 where
  pub graph : serial f.g0 b.sealed ≡ (run (serial e.g0 a.sealed) t).graph
  pub collection : n.collection ≡ s.collection
  pub gray : (k : Collection) → s.collection ≡ Some k → (z : Id) (at : ℕ) → address_of f.places z ≡ Some at → contains k.gray at ≡ true → address_of e.places z ≡ Some at
  pub places : (z : Id) (at : ℕ) → address_of f.places z ≡ Some at → (address_of e.places z ≡ Some at) ⊎ (z.t ≡ t.number)
  pub remaining : f.remaining ≡ e.remaining
  pub others : (r : ℕ) (u : Transaction) → b.active r ≡ Some u → (session ≢ r) × (a.active r ≡ Some u)

module _ (K : Id → Type 0) (g : Graph) (a b : Account) (e f : Core) (h : Agrees a e) (n : State) (session : ℕ) (t : Transaction) (active : a.active session ≡ Some t) {numbers : List ℕ} {heard : Heard} (o : IsOrdered e.g0 numbers a heard)
    (to : IsSealedTo a b e f h.behind n session t) (has : HasLed K g a e h) where
  abbrev before : Graph
  before = serial e.g0 a.sealed

  -- it made no current object, and none that remains
  others_current : (z : Id) (at : ℕ) → address_of e.places z ≡ Some at → z.t ≢ t.number
  others_current z at there = not_made t e.places z at (writing_of a e session t active h).made.apart there

  still_left : (y : Id) → is_some (address_of f.remaining y) ≡ true → is_some (address_of e.remaining y) ≡ true
  still_left y left = ap (λ (ps : Places). is_some (address_of ps y)) (sym to.remaining) ∙ left

  -- what it did not lock has the fields that it had
  free_fields : (z : Id) → z.t ≢ t.number → (Contains (locks_of (serial e.g0 a.sealed) t) (z, Exclusive) → ⊥) → fields (serial f.g0 b.sealed) z ≡ fields (serial e.g0 a.sealed) z
  free_fields z others free = ap (λ (x : Graph). fields x z) to.graph ∙ fields-run before t z others free

  -- so has what remains
  rest_fields : (z : Id) → is_some (address_of e.remaining z) ≡ true → fields (serial f.g0 b.sealed) z ≡ fields g z
  rest_fields z left =
      let w = writing_of a e session t active h in
      let at = some_address (address_of e.remaining z) left in
      free_fields z (not_made t e.remaining z at.0 w.apart at.1) (λ lock. some_none (all_at (λ (l : Lock). address_of e.remaining l.0 ≡ None) (locks_of before t) (z, Exclusive) w.unlocked lock) left)
      ∙ has.led.rest z left

  -- What another transaction holds and sees it held and saw.
  record SawBefore (r : ℕ) (u : Transaction) (z : Id) : Type 0 where
    active_before : a.active r ≡ Some u
    lock : Contains (locks_of (serial e.g0 a.sealed) u) (z, Exclusive)
    sees : (at : ℕ) → address_of e.places z ≡ Some at → fields (run (serial f.g0 b.sealed) u).graph z ≡ fields (run (serial e.g0 a.sealed) u).graph z

  saw_before : (r : ℕ) (u : Transaction) (z : Id) → b.active r ≡ Some u → Contains (locks_of (serial f.g0 b.sealed) u) (z, Exclusive) → SawBefore r u z
  saw_before r u z now lock =
      let also = to.others r u now in
      let beside = o.beside session r t u also.0 active also.1 in
      let differ = λ (same : u.number ≡ t.number). beside.differ (sym same) in
      let alike = runs_alike before t u o.closed differ (o.unused session t active) beside.apart in
      let held = subst (λ (ls : List Lock). Contains ls (z, Exclusive)) (sym alike.locks) (subst (λ (x : Graph). Contains (locks_of x u) (z, Exclusive)) to.graph lock) in
      record {
        active_before = also.1;
        lock = held;
        sees = λ at there. ap (λ (x : Graph). fields (run x u).graph z) to.graph ∙ sym (alike.views.objects z (others_current z at there) (λ mine. beside.apart z Exclusive Exclusive mine held refl));
      }

  pub led_sealed : StaysLed K g b e f n
  led_sealed = record {
    rest = rest_fields;
    led = record {
      rest = λ z left. rest_fields z (still_left z left);
      leads = λ k run_is z y at i there gray refers left.
          let was = sym to.collection ∙ run_is in
          let old = to.gray k was z at there gray in
          elim (exclusive_or_not (locks_of before t) z) [
            | inl lock ↦ has.led.seen k was session t z y at i active lock old gray (ap (λ (x : Graph). slice_get (fields x z) i) (sym to.graph) ∙ refers) (still_left y left)
            | inr free ↦ has.led.leads k was z y at i old gray (ap (λ (vs : List Val). slice_get vs i) (sym (free_fields z (others_current z at old) free)) ∙ refers) (still_left y left)
          ];
      seen = λ k run_is r u z y at i now lock there gray refers left.
          let was = sym to.collection ∙ run_is in
          let old = to.gray k was z at there gray in
          let saw = saw_before r u z now lock in
          has.led.seen k was r u z y at i saw.active_before saw.lock old gray (ap (λ (vs : List Val). slice_get vs i) (sym (saw.sees at old)) ∙ refers) (still_left y left);
    };
  }

  -- gray objects still refer to what remains, whether it locked them or not
  grays_refer : KeepsReferences g a e h.behind → GraysRefer g (serial f.g0 b.sealed) e h.behind
  grays_refer keeps k run_is z y at i there gray refers left = elim (exclusive_or_not (locks_of before t) z) [
    | inl lock ↦ ap (λ (x : Graph). slice_get (fields x z) i) to.graph ∙ keeps.seen k run_is session t z y at i active lock there gray refers left
    | inr free ↦ ap (λ (vs : List Val). slice_get vs i) (free_fields z (others_current z at there) free) ∙ keeps.sealed k run_is z y at i there gray refers left
  ]

  pub referring_sealed : KeepsReferences g a e h.behind → StaysReferring g b e f h.behind n
  referring_sealed keeps = record {
    before = grays_refer keeps;
    later = record {
      sealed = λ k run_is z y at i there gray refers left.
          let was = sym to.collection ∙ run_is in grays_refer keeps k was z y at i (to.gray k was z at there gray) gray refers (still_left y left);
      seen = λ k run_is r u z y at i now lock there gray refers left.
          let was = sym to.collection ∙ run_is in
          let old = to.gray k was z at there gray in
          let saw = saw_before r u z now lock in
          ap (λ (vs : List Val). slice_get vs i) (saw.sees at old) ∙ keeps.seen k was r u z y at i saw.active_before saw.lock old gray refers (still_left y left);
    };
  }

-- The seal of a core.

module _ (e : Core) (valid : IsValid e) (n : State) (s m : ℕ) (t : Transaction) (active : (account e.history).active s ≡ Some t)
    (o : IsOrdered e.g0 (numbers_begun e.history) (account e.history) (heard_in e.history)) (space : seal.HasSpace (account e.history) e valid o s t active) (follows : after_all valid.behind (event_records e (Seal s)) ≡ Some n) where
  abbrev a : Account
  a = account e.history

  records_are : event_records e (Seal s) ≡ seal.records a e valid o s t active
  records_are = ap (λ (x : Option Transaction). call_records (ground e) e.g0 a x (Seal s)) active ∙ seal.seal_is a e valid o s t active

  places_are : event_places e (Seal s) ≡ seal.placed a e valid o s t active
  places_are = ap (sealed_places (ground e) e.g0 a) active ∙ seal.places_are a e valid o s t active

  last_is : n ≡ seal.last a e valid o s t active
  last_is = same_Some n (seal.last a e valid o s t active)
      (sym follows ∙ sym (after_all-append2 (log_start e) valid.behind (all_records e) (event_records e (Seal s)) valid.told.reached)
      ∙ ap (λ (rs : List Record). after_all (log_start e) (all_records e ++ rs)) records_are ∙ cases.reached a e valid o s t active space)

  in_later : (z : Id) (at : ℕ) → address_of (done e (Seal s)).places z ≡ Some at → address_of (e.places ++ seal.placed a e valid o s t active) z ≡ Some at
  in_later z at there = ap (λ (ps : Places). address_of (e.places ++ ps) z) (sym places_are) ∙ there

  gray_old : (k : Collection) → valid.behind.collection ≡ Some k → (z : Id) (at : ℕ) → address_of (done e (Seal s)).places z ≡ Some at → contains k.gray at ≡ true → address_of e.places z ≡ Some at
  gray_old k run z at there gray =
      let heap = valid.told.heap in
      let collects = underway (record { run = run; spaced = heap.spaced; long = heap.long; small = heap.small; laid = heap.laid }) in
      let own = own_front e.places e.remaining (completed_own (writes_of_all (losing valid.behind)) collects (sealed_stands valid.behind e.places e.remaining (all_words e) valid.told.stands)) in
      let old = named e.places at own (collects.from.grays at gray) in
      let told = cases.sealed_told a e valid o s t active space in
      let later = e.places ++ seal.placed a e valid o s t active in
      let same : old.0 ≡ z = address_of-one _ _ later _ at old.0 z (here_ends told.heap.laid) (address_of-append_left e.places (seal.placed a e valid o s t active) old.0 at old.1) (in_later z at there) in
      subst (λ (x : Id). address_of e.places x ≡ Some at) same old.1

  pub sealed_to : IsSealedTo a (account_after a (record { event = Seal s; reply = Sealed m })) e (done e (Seal s)) valid.behind n s t
  sealed_to = record {
    graph = ap (λ (x : Option Transaction). serial e.g0 (a.sealed ++ option_to_list x)) active ∙ serial-append e.g0 a.sealed t;
    collection = ap (λ (x : State). x.collection) last_is;
    gray = gray_old;
    places = λ z at there. cases.old_or_new a e valid o s t active space z at (in_later z at there);
    remaining = refl;
    others = λ r u now.
        let P : ℕ → Option Transaction → Type 0 = λ q x. x ≡ Some u → (s ≢ q) × (a.active q ≡ Some u) in
        each_session P a.active s None (λ never. absurd (cc never)) (λ q other is. ((λ same. other (sym same)), is)) r now;
  }

  -- What becomes stable.

  mine : (id : Id) → id.t ≡ t.number → is_made_by (t ∷ []) id ≡ true
  mine id same = ap (λ b. b || false) (eq-eqb t.number id.t (sym same))

  not_mine : (id : Id) → id.t ≢ t.number → is_made_by (t ∷ []) id ≡ false
  not_mine id other = ap (λ b. b || false) (ne_eqb t.number id.t (λ same. other (sym same)))

  -- the transaction made it
  placed_mine : (id : Id) → is_some (address_of (seal.placed a e valid o s t active) id) ≡ true → is_made_by (t ∷ []) id ≡ true
  placed_mine id is =
      let placed = seal.placed a e valid o s t active in
      let told = cases.sealed_told a e valid o s t active space in
      let last = seal.last a e valid o s t active in
      let ends = future last (words_with e (seal.records a e valid o s t active)) e.remaining in
      let P = (e.places ++ placed) ++ ends in
      let own = own_front (e.places ++ placed) ends (own_names P _ last.base P _ told.stands.ends told.stands.names) in
      let at = some_address (address_of placed id) is in
      by (address_of e.places id) refl own at.0 at.1
    where
      by : (x : Option ℕ) → address_of e.places id ≡ x → HaveOwnNames (e.places ++ seal.placed a e valid o s t active) → (at : ℕ) → address_of (seal.placed a e valid o s t active) id ≡ Some at → is_made_by (t ∷ []) id ≡ true
      by (Some x) here own at there = absurd (some_none (own_apart e.places (seal.placed a e valid o s t active) id x own here) is)
      by None none own at there = elim (cases.old_or_new a e valid o s t active space id at (address_of-append_right e.places (seal.placed a e valid o s t active) id none ∙ there)) [
        | inl old ↦ let clash = sym none ∙ old in absurd (cc clash)
        | inr made ↦ mine id made
      ]

  -- and nothing that was current or remained
  others_not : (id : Id) → IsPlaced (placing e) id → is_made_by (t ∷ []) id ≡ false
  others_not id (inl here) = let at = some_address (address_of e.places id) here in not_mine id (not_made t e.places id at.0 (writing_of a e s t active valid).made.apart at.1)
  others_not id (inr left) = let at = some_address (address_of e.remaining id) left in not_mine id (not_made t e.remaining id at.0 (writing_of a e s t active valid).apart at.1)

  pub seal_seals : Seals e a.sealed (account_after a (record { event = Seal s; reply = Sealed m })).sealed (event_places e (Seal s))
  seal_seals = record {
    ts = t ∷ [];
    seals = ap (λ (x : Option Transaction). a.sealed ++ option_to_list x) active;
    made = subst (AllByRecursion (λ (p : Id × ℕ). is_made_by (t ∷ []) p.0 ≡ true)) (sym places_are) (all_named (λ id. is_made_by (t ∷ []) id ≡ true) (seal.placed a e valid o s t active) placed_mine);
    others = others_not;
  }
