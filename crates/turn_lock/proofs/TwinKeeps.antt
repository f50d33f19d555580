-- Each kind of step on a table with two turns keeps the whole rule: both turns, and what ties them.
use Rattle.std.proofs.Common.{◌≡◌, ◌≢◌, ℕ, ◌+◌, ◌%◌, List, [], ◌∷◌, max, ◌∙◌, get_or, sym, refl, ap, subst, ⊎_elim, arith, Option, Some}
use Rattle.atomic_table.specs.Table.{State, Me, Act, keeps, takes, gives, Allows, Splits, Joins, opening, Final, stepped}
use Rattle.turn_lock.specs.declared.view.View.{View}
use Rattle.turn_lock.specs.declared.view.Stage.TheVariants.{Resting, Waiting, Turn, Raised}
use Rattle.turn_lock.specs.declared.twin_view.Cell.{Cell}
use Rattle.turn_lock.specs.declared.twin_view.Cell.TheVariants.{OfValue, OfDevice}
use Rattle.turn_lock.proofs.Acts.{IsLook}
use Rattle.turn_lock.specs.Turning.{IsOneTurn, IsBeginning}
use Rattle.turn_lock.specs.Rule.{Kept, is_held}
use Rattle.turn_lock.specs.Steps.{queued, looked, raised, passed, read, raising, resting, GoesBack}
use Rattle.turn_lock.specs.Twin.{device_part, Together}
use Rattle.turn_lock.specs.Tied.{Seen, MayRaise, MayRaiseBoth, MayPut, Tied}
use Rattle.turn_lock.specs.TwinSteps.{raises_value, raises_both, gave_device, value_queued, value_looked, value_passed, value_read, twin_raised, device_queued, device_looked, device_passed}
use Rattle.turn_lock.proofs.Keeps.{takes_ticket_as, looks_as, raises_as, passes_on_as, reads_front_as}
use Rattle.turn_lock.proofs.TwinActs.{value_part, Plain, PlainDown, value_me, device_me}
use Rattle.turn_lock.proofs.TwinParts.{value_allows, device_allows, device_puts}
use Rattle.turn_lock.proofs.TwinTies.{tie_ticket, tie_look, tie_raise, tie_put, tie_front, tie_device_ticket, tie_device_look, tie_raise_both, tie_device_put}

abbrev W : ℕ
W = 18446744073709551616

module _ {T E D F : Type 0}
    (entries : T → List E) (stood : T → ℕ) (front : E → ℕ) (empty_turns : T → ℕ) (follows : T → T → Type 0) (first : T)
    (entries' : D → List F) (stood' : D → ℕ) (front' : F → ℕ) (empty_turns' : D → ℕ) (follows' : D → D → Type 0) (first' : D) (passes : ℕ)
    (beside : T → D → Type 0) (later : D → D → Type 0) (owed : T → D → ℕ) where
  abbrev M : Type 0
  M = Me (Cell (Option T) (Option D)) (Seen T E D F)

  abbrev St : Type 0
  St = State (Cell (Option T) (Option D)) (Seen T E D F)

  abbrev R : State (Option T) (View T E) → Type 0
  R = Kept entries stood front empty_turns follows first passes

  abbrev Q : State (Option D) (View D F) → Type 0
  Q = Kept entries' stood' front' empty_turns' follows' first' passes

  abbrev Tie : St → Type 0
  Tie = Tied entries follows first first' beside later owed

  abbrev Rule : St → Type 0
  Rule = Together R Q Tie

  plain_keeps : (c : List (ℕ × Cell (Option T) (Option D))) (a : Act (Option T)) → a ≡ keeps → Plain c a
  plain_keeps c a e = subst (Plain c) (sym e) tt

  plain_look : (c : List (ℕ × Cell (Option T) (Option D))) (a : Act (Option T)) → IsLook a → Plain c a
  plain_look c a e = ⊎_elim (λ k. subst (Plain c) (sym k) tt) (λ t. subst (Plain c) (sym t.1) refl) e

  down_keeps : (a : Act (Option D)) → a ≡ keeps → PlainDown a
  down_keeps a e = subst PlainDown (sym e) tt

  down_look : (a : Act (Option D)) → IsLook a → PlainDown a
  down_look a e = ⊎_elim (λ k. subst PlainDown (sym k) tt) (λ t. subst PlainDown (sym t.1) refl) e

  -- 1
  pub takes_value_ticket : (id : ℕ) (me : M) → me.0.value.stage ≡ Resting → me.0.value.numbers ≢ [] → Allows Rule 2 id me 0 (λ n. (n + 1) % W) (value_queued me)
  takes_value_ticket id me rest number = value_allows R Q (λ a. a ≡ keeps) Tie id me 0 (λ n. (n + 1) % W) (queued (value_me me)) (value_queued me) (omega arith) (plain_keeps me.1)
      (takes_ticket_as entries stood front empty_turns follows first passes 1 id (value_me me) rest number)
      (λ s k at w a is valid so. tie_ticket entries stood front empty_turns follows first entries' stood' front' empty_turns' follows' first' passes beside later owed id me 0 ((get_or s.words 0 0 + 1) % W) (get_or s.words 0 0) rest s k.ties at w a is so)

  -- 2, 3
  pub looks_at_value : (besides : T → T → D → Type 0) → ((v : T) (d : D) → beside v d → besides first v d) → (id : ℕ) (me : M) → me.0.value.stage ≡ Waiting → Allows Rule 2 id me 1 (λ n. n) (value_looked entries stood front empty_turns follows besides later me)
  looks_at_value besides is_beside id me wait = value_allows R Q IsLook Tie id me 1 (λ n. n) (looked entries stood front empty_turns follows (value_me me)) (value_looked entries stood front empty_turns follows besides later me) (omega arith) (plain_look me.1)
      (looks_as entries stood front empty_turns follows first passes 1 id (value_me me) wait)
      (λ s k at w a is valid so. tie_look entries stood front empty_turns follows first entries' stood' front' empty_turns' follows' first' passes beside later owed besides is_beside id me 1 (get_or s.words 1 0) (get_or s.words 1 0) wait s k.turn k.ties at w a is valid so)

  -- 4, with no device out
  pub raises_value_front : (id : ℕ) (me : M) (log' : List E) (empty' k : ℕ) (own own' : T) (owes' : ℕ) → me.0.value.stage ≡ Turn → me.0.value.first ≡ Some first → me.0.value.numbers ≢ [] → IsOneTurn front me.0.value.seen me.0.value.empty log' empty' k
      → me.0.more.own ≡ Some own → entries own' ≡ log' → follows first own' → MayRaise beside later owed me.0.more.saw own me.0.more.owes own' owes'
      → Allows Rule 2 id me 2 (λ n. max n k) (λ _. twin_raised stood front log' empty' (raises_value me.0.more own' owes') me)
  raises_value_front id me log' empty' k own own' owes' turn first_is number one own_is log_is follows_is may = value_allows R Q (λ a. a ≡ keeps) Tie id me 2 (λ n. max n k) (λ _. raised stood front log' empty' (value_me me))
      (λ _. twin_raised stood front log' empty' (raises_value me.0.more own' owes') me) (omega arith) (plain_keeps me.1)
      (raises_as entries stood front empty_turns follows first passes 1 id (value_me me) log' empty' k turn first_is one)
      (λ s r at w a is valid so. tie_raise entries stood front empty_turns follows first entries' stood' front' empty_turns' follows' first' passes beside later owed id me log' empty' 2 (max (get_or s.words 2 0) k) own own' owes'
      (ap is_held turn) number own_is log_is follows_is may s r.turn r.ties at w a is so)

  -- 4, with the device out
  pub raises_both_front : (id : ℕ) (me : M) (log' : List E) (empty' k : ℕ) (own own' : T) (old down' : D) (owes' : ℕ) → me.0.value.stage ≡ Turn → me.0.device.stage ≡ Turn → me.0.value.first ≡ Some first → me.0.value.numbers ≢ []
      → IsOneTurn front me.0.value.seen me.0.value.empty log' empty' k → me.0.more.own ≡ Some own → me.0.more.down ≡ Some old → entries own' ≡ log' → follows first own' → ((d : D) → later d d) → ((a b c : D) → later a b → later b c → later a c)
      → MayRaiseBoth beside later owed own old me.0.more.owes own' down' owes'
      → Allows Rule 2 id me 2 (λ n. max n k) (λ _. twin_raised stood front log' empty' (raises_both me.0.more own' down' owes') me)
  raises_both_front id me log' empty' k own own' old down' owes' turn device_turn first_is number one own_is down_is log_is follows_is itself on may = value_allows R Q (λ a. a ≡ keeps) Tie id me 2 (λ n. max n k) (λ _. raised stood front log' empty' (value_me me))
      (λ _. twin_raised stood front log' empty' (raises_both me.0.more own' down' owes') me) (omega arith) (plain_keeps me.1)
      (raises_as entries stood front empty_turns follows first passes 1 id (value_me me) log' empty' k turn first_is one)
      (λ s r at w a is valid so. tie_raise_both entries stood front empty_turns follows first entries' stood' front' empty_turns' follows' first' passes beside later owed id me log' empty' 2 (max (get_or s.words 2 0) k) own own' old down' owes'
      (ap is_held turn) (ap is_held device_turn) number own_is down_is log_is follows_is itself on may s r.turn r.other r.ties at w a is so)

  -- 5, 6: nothing else is out, so the device goes back first
  pub passes_value_on : (id : ℕ) (me : M) (value : T) → me.0.value.stage ≡ Raised → me.1 ≡ (0, OfValue (Some value)) ∷ [] → GoesBack entries stood empty_turns follows first me.0.value value → me.0.more.own ≡ Some value
      → Allows Rule 2 id me 1 (λ n. (n + 1) % W) (λ _. value_passed me)
  passes_value_on id me value stage top back own = value_allows R Q (λ a. a ≡ gives) Tie id me 1 (λ n. (n + 1) % W) (λ _. passed (value_me me)) (λ _. value_passed me) (omega arith) (λ a e. subst (Plain me.1) (sym e) (Some value, [], top))
      (passes_on_as entries stood front empty_turns follows first passes 1 id (value_me me) value stage (ap value_part top) back)
      (λ s r at w a is valid so. tie_put entries stood front empty_turns follows first entries' stood' front' empty_turns' follows' first' passes beside later owed id me value 1 ((get_or s.words 1 0 + 1) % W) stage own top s r.turn r.ties at w a is so)

  -- 7
  pub reads_value_front : (id : ℕ) (me : M) → Allows Rule 2 id me 2 (λ n. n) (value_read me)
  reads_value_front id me = value_allows R Q (λ a. a ≡ keeps) Tie id me 2 (λ n. n) (read (value_me me)) (value_read me) (omega arith) (plain_keeps me.1)
      (reads_front_as entries stood front empty_turns follows first passes 1 id (value_me me))
      (λ s r at w a is valid so. tie_front entries stood front empty_turns follows first entries' stood' front' empty_turns' follows' first' passes beside later owed id me 2 (get_or s.words 2 0) (get_or s.words 2 0) s r.ties at w a is so)

  -- 1, of the device
  pub takes_device_ticket : (id : ℕ) (me : M) → me.0.device.stage ≡ Resting → me.0.device.numbers ≢ [] → Allows Rule 2 id me 3 (λ n. (n + 1) % W) (device_queued me)
  takes_device_ticket id me rest number = device_allows R Q (λ a. a ≡ keeps) Tie id me 0 (λ n. (n + 1) % W) (queued (device_me me)) (device_queued me) (omega arith) down_keeps
      (takes_ticket_as entries' stood' front' empty_turns' follows' first' passes 1 id (device_me me) rest number)
      (λ s r at w a is valid so. tie_device_ticket entries stood front empty_turns follows first entries' stood' front' empty_turns' follows' first' passes beside later owed id me 3 ((get_or s.words 3 0 + 1) % W) (get_or s.words 3 0) rest s r.ties at w a is so)

  -- 2, 3, of the device
  pub looks_at_device : (besides : T → T → D → Type 0) → ((v : T) (d : D) → beside v d → besides first v d) → (id : ℕ) (me : M) → ((d : D) → later d d) → me.0.device.stage ≡ Waiting
      → Allows Rule 2 id me 4 (λ n. n) (device_looked entries follows besides entries' empty_turns' later me)
  looks_at_device besides is_beside id me itself wait = device_allows R Q IsLook Tie id me 1 (λ n. n) (looked entries' stood' front' empty_turns' follows' (device_me me)) (device_looked entries follows besides entries' empty_turns' later me) (omega arith) down_look
      (looks_as entries' stood' front' empty_turns' follows' first' passes 1 id (device_me me) wait)
      (λ s r at w a is valid so. tie_device_look entries stood front empty_turns follows first entries' stood' front' empty_turns' follows' first' passes beside later owed besides is_beside id me 4 (get_or s.words 4 0) (get_or s.words 4 0) itself wait s r.turn r.other r.ties at w a is valid so)

  -- 5, 6, of the device: an empty turn, after which the history is as it was
  pub passes_device_on : (id : ℕ) (me : M) (old value : D) (under : List (ℕ × Cell (Option T) (Option D))) (empty' owes' : ℕ) → me.0.device.stage ≡ Turn → me.0.device.first ≡ Some first' → me.0.value.numbers ≢ [] → me.0.more.down ≡ Some old
      → me.1 ≡ (1, OfDevice (Some value)) ∷ under → device_part under ≡ [] → IsOneTurn front' me.0.device.seen me.0.device.empty me.0.device.seen empty' 0
      → ((known : ℕ) → GoesBack entries' stood' empty_turns' follows' first' (raising me.0.device me.0.device.seen empty' known) value) → ((d : D) → later d d) → ((a b c : D) → later a b → later b c → later a c)
      → MayPut beside later owed (λ v. IsBeginning me.0.value.seen (entries v) × follows first v) old me.0.more.owes value owes'
      → Allows Rule 2 id me 4 (λ n. (n + 1) % W) (λ _. device_passed empty' (gave_device me.0.more value owes') me)
  passes_device_on id me old value under empty' owes' turn first_is number down_is top nothing one back itself on may =
      let parts : device_part me.1 ≡ (0, Some value) ∷ [] = ap device_part top ∙ ap (λ l. (0, Some value) ∷ l) nothing in
      device_puts R Q Tie id me (Some value) under (raised stood' front' me.0.device.seen empty' (device_me me)) (λ _ you. (known : ℕ) × (you.0 ≡ resting (raising me.0.device me.0.device.seen empty' known))) (λ _. device_passed empty' (gave_device me.0.more value owes') me) top
      (raises_as entries' stood' front' empty_turns' follows' first' passes 1 id (device_me me) me.0.device.seen empty' 0 turn first_is one)
      (λ w r s k two at small.
      let is : w ≡ raising me.0.device me.0.device.seen empty' r.0 = ap (λ (x : Me (Option D) (View D F)). x.0) r.1 in
      let p = passes_on_as entries' stood' front' empty_turns' follows' first' passes 1 id (w, device_part me.1) value (ap (λ (v : View D F). v.stage) is) parts
      (subst (λ (v : View D F). GoesBack entries' stood' empty_turns' follows' first' v value) (sym is) (back r.0)) s k two at small in
      (p.0, p.1, p.2, p.3, p.4, (r.0, ap (λ (x : Me (Option D) (View D F)). x.0) p.5 ∙ ap resting is)))
      (λ s k at w so. (
        gave_device me.0.more value owes',
        tie_device_put entries stood front empty_turns follows first entries' stood' front' empty_turns' follows' first' passes beside later owed id me old value under 4 ((get_or s.words 4 0 + 1) % W) owes' (ap is_held turn) number down_is top itself on may s k.turn k.other k.ties at w,
        (so.0, λ j. (Rattle.turn_lock.specs.TwinSteps.with_device me.0 (so.1 j) (gave_device me.0.more value owes'), Rattle.atomic_table.specs.Table.rest me.1)),
      ))
