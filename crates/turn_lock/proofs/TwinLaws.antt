-- The laws of steps for a device with its count of turns, in the words of contracts, where the count is left out.
use Rattle.std.proofs.Common.{◌≡◌, ◌≢◌, ℕ, ◌+◌, ◌%◌, ◌<◌, max, length, List, [], ◌∷◌, sym, refl, subst, inr, Option, Some, None}
use mathlib.Core.Option.{some}
use lib.ListN.{get_elem?}
use Rattle.std.proofs.lemmas.Option.{none-some, same_Some}
use Rattle.atomic_table.specs.Table.{State, Me, Allows, Splits, Joins, opening, Final, rest}
use Rattle.turn_lock.specs.declared.view.Stage.TheVariants.{Resting, Waiting, Turn, Raised}
use Rattle.turn_lock.specs.declared.twin_view.Cell.{Cell}
use Rattle.turn_lock.specs.declared.twin_view.Cell.TheVariants.{OfValue, OfDevice}
use Rattle.turn_lock.specs.declared.twin_view.Counted.{Counted}
use Rattle.turn_lock.specs.Turning.{IsBeginning, IsOneTurn, times}
use Rattle.turn_lock.specs.Twin.{device_part}
use Rattle.turn_lock.specs.Tied.{Seen, Covers, MayRaise, MayRaiseBoth, MayPut, TwinKept, no_entries, none_stood, no_front, turns_of, any_follows}
use Rattle.turn_lock.specs.Steps.{GoesBack}
use Rattle.turn_lock.specs.TwinSteps.{raises_value, raises_both, gave_device, value_queued, value_looked, value_passed, value_read, twin_raised, device_queued, device_looked, device_passed, twin_left, twin_dealt, twin_joined, twin_spent}
use Rattle.turn_lock.specs.TwinPasses.{uncounted}
use Rattle.turn_lock.proofs.TwinKeeps.{takes_value_ticket, looks_at_value, raises_value_front, raises_both_front, passes_value_on, reads_value_front, takes_device_ticket, looks_at_device, passes_device_on}
use Rattle.turn_lock.proofs.TwinDeals.{cell_value, cell_device}
use Rattle.turn_lock.proofs.TwinEnds.{twin_splits, twin_joins, twin_opens, twin_ends, TwinEnds}

-- the device that a pass saw, without its count
pub saw_known : {D : Type 0} (later : D → D → Type 0) (saw : Option (Counted D)) (device : D) → ((c : Counted D) → saw ≡ Some c → later c.device device) → (d : D) → uncounted saw ≡ Some d → later d device
saw_known later (Some c) device h d is = subst (λ x. later x device) (same_Some c.device d is) (h c refl)
saw_known later None device h d is = absurd (none-some d is)

module _ {T D : Type 0} (beside : T → D → Type 0) (later : D → D → Type 0) (owed : T → D → ℕ) where
  pub may_raise : (saw : Option (Counted D)) (old : T) (owes : ℕ) (new : T) (owes' : ℕ) → MayRaise beside later owed (uncounted saw) old owes new owes'
      → MayRaise (λ v (c : Counted D). beside v c.device) (λ c d. later c.device d.device) (λ v c. owed v c.device) saw old owes new owes'
  may_raise saw old owes new owes' may c known = may c.device (saw_known later saw c.device known)

  -- the device that is out, with its count
  pub counted_is : (x : Option (Counted D)) (d : D) → uncounted x ≡ Some d → (c : Counted D) × (x ≡ Some c) × (c.device ≡ d)
  counted_is (Some c) d is = (c, refl, same_Some c.device d is)
  counted_is None d is = absurd (none-some d is)

  pub may_raise_both : (old : T) (c : Counted D) (down : D) (owes : ℕ) (new : T) (n : Counted D) (owes' : ℕ) → c.device ≡ down → MayRaiseBoth beside later owed old down owes new n.device owes'
      → MayRaiseBoth (λ v (c : Counted D). beside v c.device) (λ c d. later c.device d.device) (λ v c. owed v c.device) old c owes new n owes'
  may_raise_both old c down owes new n owes' is may = subst (λ (x : D). MayRaiseBoth beside later owed old x owes new n.device owes') (sym is) may

  pub may_put : (possible : T → Type 0) (c : Counted D) (down : D) (owes : ℕ) (n : Counted D) (owes' : ℕ) → c.device ≡ down → MayPut beside later owed possible down owes n.device owes'
      → MayPut (λ v (c : Counted D). beside v c.device) (λ c d. later c.device d.device) (λ v c. owed v c.device) possible c owes n owes'
  may_put possible c down owes n owes' is may = subst (λ (x : D). MayPut beside later owed possible x owes n.device owes') (sym is) may

module _ {T D E : Type 0} (entries : T → List E) (stood : T → ℕ) (front : E → ℕ) (empty_turns : T → ℕ) (follows : T → T → Type 0) (beside : T → T → D → Type 0) (later : D → D → Type 0) (owed : T → D → ℕ)
    (first : T) (first' : Counted D) (passes : ℕ) where
  abbrev M : Type 0
  M = Me (Cell (Option T) (Option (Counted D))) (Seen T E (Counted D) ℕ)

  abbrev Rule : State (Cell (Option T) (Option (Counted D))) (Seen T E (Counted D) ℕ) → Type 0
  Rule = TwinKept entries stood front empty_turns follows beside later owed first first' passes

  pub queues : (id : ℕ) (me : M) → me.0.value.stage ≡ Resting → me.0.value.numbers ≢ [] → Allows Rule 2 id me 0 (λ n. (n + 1) % 18446744073709551616) (value_queued me)
  queues = takes_value_ticket entries stood front empty_turns follows first no_entries none_stood no_front turns_of any_follows first' passes (λ v c. beside first v c.device) (λ c d. later c.device d.device) (λ v c. owed v c.device)

  pub looks : (id : ℕ) (me : M) → me.0.value.stage ≡ Waiting → Allows Rule 2 id me 1 (λ n. n) (value_looked entries stood front empty_turns follows (λ f v (c : Counted D). beside f v c.device) (λ c d. later c.device d.device) me)
  looks = looks_at_value entries stood front empty_turns follows first no_entries none_stood no_front turns_of any_follows first' passes (λ v c. beside first v c.device) (λ c d. later c.device d.device) (λ v c. owed v c.device) (λ f v c. beside f v c.device) (λ v c b. b)

  pub raises : (id : ℕ) (me : M) (own own' : T) (k owes' : ℕ) → me.0.value.stage ≡ Turn → me.0.value.first ≡ Some first → me.0.value.numbers ≢ [] → IsOneTurn front me.0.value.seen me.0.value.empty (entries own') (empty_turns own') k
      → me.0.more.own ≡ Some own → follows first own' → MayRaise (beside first) later owed (uncounted me.0.more.saw) own me.0.more.owes own' owes'
      → Allows Rule 2 id me 2 (λ n. max n k) (λ _. twin_raised stood front (entries own') (empty_turns own') (raises_value me.0.more own' owes') me)
  raises id me own own' k owes' turn first_is number one own_is follows_is may = raises_value_front entries stood front empty_turns follows first no_entries none_stood no_front turns_of any_follows first' passes (λ v c. beside first v c.device) (λ c d. later c.device d.device) (λ v c. owed v c.device)
      id me (entries own') (empty_turns own') k own own' owes' turn first_is number one own_is refl follows_is (may_raise (beside first) later owed me.0.more.saw own me.0.more.owes own' owes' may)

  pub raises_with_device : (id : ℕ) (me : M) (own own' : T) (down : D) (down' : Counted D) (k owes' : ℕ) → me.0.value.stage ≡ Turn → me.0.device.stage ≡ Turn → me.0.value.first ≡ Some first → me.0.value.numbers ≢ []
      → IsOneTurn front me.0.value.seen me.0.value.empty (entries own') (empty_turns own') k → me.0.more.own ≡ Some own → uncounted me.0.more.down ≡ Some down → follows first own' → ((d : D) → later d d) → ((a b c : D) → later a b → later b c → later a c)
      → MayRaiseBoth (beside first) later owed own down me.0.more.owes own' down'.device owes'
      → Allows Rule 2 id me 2 (λ n. max n k) (λ _. twin_raised stood front (entries own') (empty_turns own') (raises_both me.0.more own' down' owes') me)
  raises_with_device id me own own' down down' k owes' turn device_turn first_is number one own_is down_is follows_is itself on may =
      let c = counted_is (beside first) later owed me.0.more.down down down_is in raises_both_front entries stood front empty_turns follows first no_entries none_stood no_front turns_of any_follows first' passes (λ v c. beside first v c.device) (λ c d. later c.device d.device) (λ v c. owed v c.device)
      id me (entries own') (empty_turns own') k own own' c.0 down' owes' turn device_turn first_is number one own_is c.1 refl follows_is (λ d. itself d.device) (λ a b e. on a.device b.device e.device)
      (may_raise_both (beside first) later owed own c.0 down me.0.more.owes own' down' owes' c.2 may)

  pub puts : (id : ℕ) (me : M) (value : T) → me.0.value.stage ≡ Raised → me.1 ≡ (0, OfValue (Some value)) ∷ [] → GoesBack entries stood empty_turns follows first me.0.value value → me.0.more.own ≡ Some value
      → Allows Rule 2 id me 1 (λ n. (n + 1) % 18446744073709551616) (λ _. value_passed me)
  puts = passes_value_on entries stood front empty_turns follows first no_entries none_stood no_front turns_of any_follows first' passes (λ v c. beside first v c.device) (λ c d. later c.device d.device) (λ v c. owed v c.device)

  pub reads : (id : ℕ) (me : M) → Allows Rule 2 id me 2 (λ n. n) (value_read me)
  reads = reads_value_front entries stood front empty_turns follows first no_entries none_stood no_front turns_of any_follows first' passes (λ v c. beside first v c.device) (λ c d. later c.device d.device) (λ v c. owed v c.device)

  pub queues_device : (id : ℕ) (me : M) → me.0.device.stage ≡ Resting → me.0.device.numbers ≢ [] → Allows Rule 2 id me 3 (λ n. (n + 1) % 18446744073709551616) (device_queued me)
  queues_device = takes_device_ticket entries stood front empty_turns follows first no_entries none_stood no_front turns_of any_follows first' passes (λ v c. beside first v c.device) (λ c d. later c.device d.device) (λ v c. owed v c.device)

  pub looks_for_device : (id : ℕ) (me : M) → ((d : D) → later d d) → me.0.device.stage ≡ Waiting → Allows Rule 2 id me 4 (λ n. n) (device_looked entries follows (λ f v (c : Counted D). beside f v c.device) no_entries turns_of (λ c d. later c.device d.device) me)
  looks_for_device id me itself wait = looks_at_device entries stood front empty_turns follows first no_entries none_stood no_front turns_of any_follows first' passes (λ v c. beside first v c.device) (λ c d. later c.device d.device) (λ v c. owed v c.device) (λ f v c. beside f v c.device) (λ v c b. b) id me (λ d. itself d.device) wait

  pub deals : (id : ℕ) (v : Seen T E (Counted D) ℕ) → v.value.stage ≡ Resting → v.value.mine ≡ [] → v.value.turns ≡ 0 → v.device.stage ≡ Resting → v.device.mine ≡ [] → v.device.turns ≡ 0 → v.more.owes ≡ 0 → Splits Rule id v (twin_left v) (twin_dealt v)
  deals = twin_splits entries stood front empty_turns follows first no_entries none_stood no_front turns_of any_follows first' passes (λ v c. beside first v c.device) (λ c d. later c.device d.device) (λ v c. owed v c.device)

  pub joins : (id : ℕ) (v : Seen T E (Counted D) ℕ) (other : ℕ) (u : Seen T E (Counted D) ℕ) → v.value.stage ≡ Resting → u.value.stage ≡ Resting → v.device.stage ≡ Resting → u.device.stage ≡ Resting → Joins Rule id v other u (twin_joined v u) twin_spent
  joins = twin_joins entries stood front empty_turns follows first no_entries none_stood no_front turns_of any_follows first' passes (λ v c. beside first v c.device) (λ c d. later c.device d.device) (λ v c. owed v c.device)

  -- The device is put back: the slot has it again, and one more turn is counted.
  pub puts_device : (id : ℕ) (me now : M) (counted : Counted D) (down : D) (owes' : ℕ) → now ≡ (me.0, (1, OfDevice (Some counted)) ∷ rest me.1) → me.0.device.stage ≡ Turn → me.0.device.first ≡ Some first' → me.0.value.numbers ≢ []
      → uncounted me.0.more.down ≡ Some down → device_part (rest me.1) ≡ [] → me.0.device.seen ≡ [] → counted.turns ≡ (me.0.device.empty + 1) % 18446744073709551616
      → ((d : D) → later d d) → ((a b c : D) → later a b → later b c → later a c) → MayPut (beside first) later owed (λ v. IsBeginning me.0.value.seen (entries v) × follows first v) down me.0.more.owes counted.device owes'
      → Allows (TwinKept entries stood front empty_turns follows beside later owed first first' passes) 2 id now 4 (λ n. (n + 1) % 18446744073709551616) (λ _. device_passed counted.turns (gave_device me.0.more counted owes') now)
  puts_device id me now counted down owes' now_is turn first_is number down_is alone none_seen turns itself on may =
      let c = counted_is (beside first) later owed me.0.more.down down down_is in
      subst (λ (m : M). Allows (TwinKept entries stood front empty_turns follows beside later owed first first' passes) 2 id m 4 (λ n. (n + 1) % 18446744073709551616) (λ _. device_passed counted.turns (gave_device me.0.more counted owes') m)) (sym now_is)
      (passes_device_on entries stood front empty_turns follows first no_entries none_stood no_front turns_of any_follows first' passes (λ v c. beside first v c.device) (λ c d. later c.device d.device) (λ v c. owed v c.device)
      id (me.0, (1, OfDevice (Some counted)) ∷ rest me.1) c.0 counted (rest me.1) counted.turns owes' turn first_is number c.1 refl alone (inr (refl, turns, refl))
      (λ known. record { entries_are = sym none_seen; empty_is = refl; stood_is = refl; follows_is = tt }) (λ d. itself d.device) (λ a b e. on a.device b.device e.device)
      (may_put (beside first) later owed (λ v. IsBeginning me.0.value.seen (entries v) × follows first v) c.0 down me.0.more.owes counted owes' c.2 may))

  pub opens : follows first first → stood first ≡ length (entries first) → empty_turns first ≡ 0 → first'.turns ≡ 0 → passes < 18446744073709551616 → beside first first first'.device → owed first first'.device ≡ 0 → ((d : D) → later d d)
      → Rule (opening (0 ∷ 0 ∷ 0 ∷ 0 ∷ 0 ∷ []) (OfValue (Some first) ∷ OfDevice (Some first') ∷ []) (Rattle.turn_lock.specs.Tied.twin_newcomer entries first first' passes))
  opens starts all none_empty no_turns few stands nothing itself = twin_opens entries stood front empty_turns follows first no_entries none_stood no_front turns_of any_follows first' passes (λ v c. beside first v c.device) (λ c d. later c.device d.device) (λ v c. owed v c.device) starts all none_empty tt refl no_turns few stands nothing (itself first'.device)

  abbrev pub Ending : Seen T E (Counted D) ℕ → T → Counted D → Type 0
  Ending = TwinEnds entries stood front empty_turns follows first no_entries none_stood no_front turns_of any_follows first' passes (λ v c. beside first v c.device) (λ c d. later c.device d.device) (λ v c. owed v c.device)

  pub ends : (ws : List ℕ) (xs : List (Cell (Option T) (Option (Counted D)))) (id : ℕ) (v : Seen T E (Counted D) ℕ) → v.value.stage ≡ Resting → v.device.stage ≡ Resting → ((n : ℕ) → n < passes → 0 < times n v.value.numbers)
      → v.device.numbers ≡ v.value.numbers → v.more.owes ≡ 0 → Final (Rattle.atomic_table.specs.Table.Seen Rule id v) ws xs
      → (value : T) × (device : Counted D) × (get_elem? xs 0 ≡ some (OfValue (Some value))) × (get_elem? xs 1 ≡ some (OfDevice (Some device))) × Ending v value device
  ends ws xs id v stage device_stage all same nothing f = twin_ends entries stood front empty_turns follows first no_entries none_stood no_front turns_of any_follows first' passes (λ v c. beside first v c.device) (λ c d. later c.device d.device) (λ v c. owed v c.device)
      ws xs id v stage device_stage all (λ n h. subst (λ (l : List ℕ). 0 < times n l) (sym same) (all n h)) nothing f

  pub same_ending : (v : Seen T E (Counted D) ℕ) (a a' : T) (d d' : Counted D) → ◌≡◌ {A = Cell (Option T) (Option (Counted D))} (OfValue (Some a)) (OfValue (Some a')) → ◌≡◌ {A = Cell (Option T) (Option (Counted D))} (OfDevice (Some d)) (OfDevice (Some d')) → Ending v a d → Ending v a' d'
  same_ending v a a' d d' value device end = subst (λ (x : Cell (Option T) (Option (Counted D)) × Cell (Option T) (Option (Counted D))). Ending v (cell_value a x.0) (cell_device d x.1)) (λ i. (value i, device i)) end
