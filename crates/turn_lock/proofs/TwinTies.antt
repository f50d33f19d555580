-- Each step keeps what ties the two turns, under what its caller is asked to show.
use Rattle.std.proofs.Common.{◌≡◌, ◌≢◌, ℕ, zero, suc, ◌+◌, ◌-◌, ◌%◌, ◌<◌, ◌≤◌, ◌⊎◌, Bool, true, false, List, [], ◌∷◌, map, max, ◌∙◌, length, take, drop, get_or, set, sym, refl, ap, subst, inl, inr, ⊎_elim, arith, Option, Some, None}
use mathlib.Core.Option.{none, some, some-injective, some-ne-none}
use mathlib.Core.Option as maybe
use mathlib.Core.Logic.{dite}
use native.Mathlib.Decide.{ℕ_discrete}
use lib.ListN.{get_elem?}
use Rattle.std.specs.List.{AllByRecursion}
use Rattle.std.proofs.lemmas.Option.{same_Some}
use Rattle.atomic_table.specs.Table.{State, Me, Act, keeps, takes, gives, stepped, carried_after, Valid, put_back}
use Rattle.atomic_table.proofs.Lists.{at_set, set_here, set_else}
use Rattle.turn_lock.specs.declared.view.View.{View}
use Rattle.turn_lock.specs.declared.view.Stage.TheVariants.{Resting, Waiting, Raised}
use Rattle.turn_lock.proofs.Acts.{IsLook}
use Rattle.turn_lock.specs.Turning.{total, IsBeginning}
use Rattle.turn_lock.specs.Rule.{Kept, is_held}
use Rattle.turn_lock.specs.Steps.{waiting, resting, queued, looked, raised, passed, read}
use Rattle.turn_lock.proofs.Counts.{at_within, total_set, total_same, term_le}
use Rattle.turn_lock.proofs.Keeps.{one_holder}
use Rattle.turn_lock.proofs.Lists.{all_on}
use Rattle.turn_lock.specs.declared.twin_view.Cell.{Cell}
use Rattle.turn_lock.specs.declared.twin_view.Cell.TheVariants.{OfValue, OfDevice}
use Rattle.turn_lock.specs.declared.twin_view.More.{More}
use Rattle.turn_lock.specs.Twin.{value_home, device_home, device_part, value_side, device_side}
use Rattle.turn_lock.specs.Tied.{Seen, IsOwn, IsDown, Covers, MayRaise, MayRaiseBoth, MayPut, Tied}
use Rattle.turn_lock.specs.TwinSteps.{LaterBeside, BesideKnown, with_value, with_device, raises_value, raises_both, gave_device, value_queued, value_looked, value_passed, value_read, twin_raised, device_queued, device_looked}
use Rattle.turn_lock.proofs.TwinActs.{value_part, up, down, value_me, device_me}
use Rattle.turn_lock.proofs.TwinParts.{value_of, device_of, at_map, value_at, device_at}

-- the given that was taken last
abbrev first_of : {A : Type 0} → A → List (ℕ × A) → A
first_of d [] = d
first_of d (x ∷ xs) = x.1

one_not_zero : ◌≡◌ {A = ℕ} 1 0 → ⊥
one_not_zero e = omega (arith, e)

longer_list : {A : Type 0} (xs : List A) (x : A) → xs ≡ x ∷ xs → ⊥
longer_list xs x e = let n : length xs ≡ suc (length xs) = ap length e in omega (arith, n)

pub no_bool : (b : Bool) → b ≡ true → b ≡ false → ⊥
no_bool b t f = search (Rattle.std.proofs.Common.rules, sym t ∙ f)

module _ {T D : Type 0} where
  abbrev pub value_in : T → maybe.Option (maybe.Option (Cell (Option T) (Option D))) → T
  value_in d (some (some (OfValue (Some x)))) = x
  value_in d (some (some (OfValue None))) = d
  value_in d (some (some (OfDevice y))) = d
  value_in d (some none) = d
  value_in d none = d

  abbrev pub device_in : D → maybe.Option (maybe.Option (Cell (Option T) (Option D))) → D
  device_in d (some (some (OfDevice (Some x)))) = x
  device_in d (some (some (OfDevice None))) = d
  device_in d (some (some (OfValue y))) = d
  device_in d (some none) = d
  device_in d none = d

  -- what stands in the projection where the slot is at home
  first_home : (hs : List (maybe.Option (Cell (Option T) (Option D)))) (x : T) (h : maybe.Option (Option T)) → get_elem? hs 0 ≡ some (some (OfValue (Some x))) → map value_home (take 1 hs) ≡ h ∷ [] → h ≡ some (Some x)
  first_home [] x h e is = absurd (some-ne-none (some (OfValue (Some x))) (sym e))
  first_home (k ∷ hs) x h e is = sym (ap (λ (l : List (maybe.Option (Option T))). head_or none l) is) ∙ ap value_home (some-injective k (some (OfValue (Some x))) e)
    where
      head_or : maybe.Option (Option T) → List (maybe.Option (Option T)) → maybe.Option (Option T)
      head_or d [] = d
      head_or d (x ∷ xs) = x

  second_home : (hs : List (maybe.Option (Cell (Option T) (Option D)))) (y : D) (h : maybe.Option (Option D)) → get_elem? hs 1 ≡ some (some (OfDevice (Some y))) → map device_home (drop 1 hs) ≡ h ∷ [] → h ≡ some (Some y)
  second_home [] y h e is = absurd (some-ne-none (some (OfDevice (Some y))) (sym e))
  second_home (k ∷ []) y h e is = absurd (some-ne-none (some (OfDevice (Some y))) (sym e))
  second_home (k ∷ l ∷ hs) y h e is = sym (ap (λ (x : List (maybe.Option (Option D))). head_or none x) is) ∙ ap device_home (some-injective l (some (OfDevice (Some y))) e)
    where
      head_or : maybe.Option (Option D) → List (maybe.Option (Option D)) → maybe.Option (Option D)
      head_or d [] = d
      head_or d (x ∷ xs) = x

  second_there : (hs : List (maybe.Option (Cell (Option T) (Option D)))) (h : maybe.Option (Option D)) → map device_home (drop 1 hs) ≡ h ∷ [] → 1 < length hs
  second_there [] h is = absurd (let e = ap length is in omega (arith, e))
  second_there (k ∷ []) h is = absurd (let e = ap length is in omega (arith, e))
  second_there (k ∷ l ∷ hs) h is = omega arith

  not_empty : (hs : List (maybe.Option (Cell (Option T) (Option D)))) (h : maybe.Option (Option T)) → map value_home (take 1 hs) ≡ h ∷ [] → 0 < length hs
  not_empty [] h is = absurd (let e = ap length is in omega (arith, e))
  not_empty (k ∷ hs) h is = omega arith

module _ {T E D F : Type 0} (entries : T → List E) (stood : T → ℕ) (front : E → ℕ) (empty_turns : T → ℕ) (follows : T → T → Type 0) (first : T) (passes : ℕ) where
  -- where the value is at home, no pass has it
  pub nobody_has : (s : State (Cell (Option T) (Option D)) (Seen T E D F)) (x : T) → Kept entries stood front empty_turns follows first passes (value_side s) → get_elem? s.homes 0 ≡ some (some (OfValue (Some x)))
      → (seat : ℕ) (v : Seen T E D F) → get_elem? s.views seat ≡ some v → is_held v.value.stage ≡ false
  nobody_has s x r home seat v at = ⊎_elim (λ h. h.nobody seat v.value (at_map value_of s.views seat v at))
      (λ o. absurd (some-ne-none (Some x) (sym (first_home s.homes x r.home home r.homes_are) ∙ o.home_is))) r.slot

module _ {T E D F : Type 0} (entries' : D → List F) (stood' : D → ℕ) (front' : F → ℕ) (empty_turns' : D → ℕ) (follows' : D → D → Type 0) (first' : D) (passes : ℕ) where
  pub nobody_down : (s : State (Cell (Option T) (Option D)) (Seen T E D F)) (y : D) → Kept entries' stood' front' empty_turns' follows' first' passes (device_side s) → get_elem? s.homes 1 ≡ some (some (OfDevice (Some y)))
      → (seat : ℕ) (v : Seen T E D F) → get_elem? s.views seat ≡ some v → is_held v.device.stage ≡ false
  nobody_down s y r home seat v at = ⊎_elim (λ h. h.nobody seat v.device (at_map device_of s.views seat v at))
      (λ o. absurd (some-ne-none (Some y) (sym (second_home s.homes y r.home home r.homes_are) ∙ o.home_is))) r.slot

module _ {T E D F : Type 0} where
  pub down_set : (views : List (Seen T E D F)) (id : ℕ) (v w : Seen T E D F) (device : D) → get_elem? views id ≡ some v → (is_held v.device.stage ≡ true → (is_held w.device.stage ≡ true) × (w.more.down ≡ v.more.down)) → IsDown views device → IsDown (set views id w) device
  down_set views id v w device at keep o = dite (ℕ_discrete o.seat id)
      (λ e. let is : o.view ≡ v = some-injective o.view v (sym o.seat_is ∙ (ap (get_elem? views) e ∙ at)) in let t = keep (subst (λ (u : Seen T E D F). is_held u.device.stage ≡ true) is o.held) in
      record { seat = id; view = w; seat_is = set_here views id w (at_within views id v at); held = t.0; down_is = t.1 ∙ (ap (λ (u : Seen T E D F). u.more.down) (sym is) ∙ o.down_is) })
      (λ n. record { seat = o.seat; view = o.view; seat_is = set_else views id o.seat w n ∙ o.seat_is; held = o.held; down_is = o.down_is })

  pub saw_set : (later : D → D → Type 0) (views : List (Seen T E D F)) (id : ℕ) (v w : Seen T E D F) (old new : D) → ((seat : ℕ) (u : Seen T E D F) → get_elem? views seat ≡ some u → (d : D) → u.more.saw ≡ Some d → later d old) → ((d : D) → later d old → later d new) → ((d : D) → w.more.saw ≡ Some d → later d new)
      → (seat : ℕ) (u : Seen T E D F) → get_elem? (set views id w) seat ≡ some u → (d : D) → u.more.saw ≡ Some d → later d new
  saw_set later views id v w old new seen grows mine seat u at d saw = ⊎_elim (λ t. mine d (ap (λ (x : Seen T E D F). x.more.saw) t.1 ∙ saw)) (λ t. grows d (seen seat u t.1 d saw)) (at_set views id seat w u at)

  pub parts_set : (later : D → D → Type 0) (views : List (Seen T E D F)) (id : ℕ) (w : Seen T E D F) (old new : D) → ((seat : ℕ) (u : Seen T E D F) → get_elem? views seat ≡ some u → AllByRecursion (λ d. later d old) u.more.parts) → ((d : D) → later d old → later d new) → AllByRecursion (λ d. later d new) w.more.parts
      → (seat : ℕ) (u : Seen T E D F) → get_elem? (set views id w) seat ≡ some u → AllByRecursion (λ d. later d new) u.more.parts
  parts_set later views id w old new parts grows mine seat u at = ⊎_elim (λ t. subst (λ (x : Seen T E D F). AllByRecursion (λ d. later d new) x.more.parts) t.1 mine) (λ t. all_on (λ d. later d old) (λ d. later d new) grows u.more.parts (parts seat u t.1)) (at_set views id seat w u at)

  -- the same where the pass has the parts that it had
  pub parts_kept : (later : D → D → Type 0) (views : List (Seen T E D F)) (id : ℕ) (v w : Seen T E D F) (old new : D) → get_elem? views id ≡ some v → w.more.parts ≡ v.more.parts → ((seat : ℕ) (u : Seen T E D F) → get_elem? views seat ≡ some u → AllByRecursion (λ d. later d old) u.more.parts) → ((d : D) → later d old → later d new)
      → (seat : ℕ) (u : Seen T E D F) → get_elem? (set views id w) seat ≡ some u → AllByRecursion (λ d. later d new) u.more.parts
  parts_kept later views id v w old new at same parts grows = parts_set later views id w old new parts grows (subst (AllByRecursion (λ d. later d new)) (sym same) (all_on (λ d. later d old) (λ d. later d new) grows v.more.parts (parts id v at)))

  pub idle_set : (views : List (Seen T E D F)) (id : ℕ) (w : Seen T E D F) → ((seat : ℕ) (u : Seen T E D F) → get_elem? views seat ≡ some u → u.value.numbers ≡ [] → u.more.owes ≡ 0) → (w.value.numbers ≡ [] → w.more.owes ≡ 0)
      → (seat : ℕ) (u : Seen T E D F) → get_elem? (set views id w) seat ≡ some u → u.value.numbers ≡ [] → u.more.owes ≡ 0
  idle_set views id w others mine seat u at = ⊎_elim (λ t. subst (λ (x : Seen T E D F). x.value.numbers ≡ [] → x.more.owes ≡ 0) t.1 mine) (λ t. others seat u t.1) (at_set views id seat w u at)

module _ {T E D F : Type 0} (entries : T → List E) (follows : T → T → Type 0) (first : T) where
  pub own_set : (views : List (Seen T E D F)) (id : ℕ) (v w : Seen T E D F) (value : T) → get_elem? views id ≡ some v
      → (is_held v.value.stage ≡ true → (is_held w.value.stage ≡ true) × (w.more.own ≡ v.more.own) × (w.value.seen ≡ v.value.seen)) → IsOwn entries follows first views value → IsOwn entries follows first (set views id w) value
  own_set views id v w value at keep o = dite (ℕ_discrete o.seat id)
      (λ e. let is : o.view ≡ v = some-injective o.view v (sym o.seat_is ∙ (ap (get_elem? views) e ∙ at)) in let t = keep (subst (λ (u : Seen T E D F). is_held u.value.stage ≡ true) is o.held) in
      record {
        seat = id;
        view = w;
        seat_is = set_here views id w (at_within views id v at);
        held = t.0;
        own_is = t.1 ∙ (ap (λ (u : Seen T E D F). u.more.own) (sym is) ∙ o.own_is);
        entries_are = o.entries_are ∙ (ap (λ (u : Seen T E D F). u.value.seen) is ∙ sym t.2);
        follows_is = o.follows_is;
      })
      (λ n. record { seat = o.seat; view = o.view; seat_is = set_else views id o.seat w n ∙ o.seat_is; held = o.held; own_is = o.own_is; entries_are = o.entries_are; follows_is = o.follows_is })

module _ {T E D F : Type 0}
    (entries : T → List E) (stood : T → ℕ) (front : E → ℕ) (empty_turns : T → ℕ) (follows : T → T → Type 0) (first : T)
    (entries' : D → List F) (stood' : D → ℕ) (front' : F → ℕ) (empty_turns' : D → ℕ) (follows' : D → D → Type 0) (first' : D) (passes : ℕ)
    (beside : T → D → Type 0) (later : D → D → Type 0) (owed : T → D → ℕ) where
  abbrev U : Type 0
  U = Seen T E D F

  abbrev S : Type 0
  S = State (Cell (Option T) (Option D)) U

  abbrev N : Type 0
  N = Me (Cell (Option T) (Option D)) U

  abbrev VM : Type 0
  VM = Me (Option T) (View T E)

  abbrev DM : Type 0
  DM = Me (Option D) (View D F)

  abbrev Tie : S → Type 0
  Tie = Tied entries follows first first' beside later owed

  abbrev ValueRule : State (Option T) (View T E) → Type 0
  ValueRule = Kept entries stood front empty_turns follows first passes

  abbrev DeviceRule : State (Option D) (View D F) → Type 0
  DeviceRule = Kept entries' stood' front' empty_turns' follows' first' passes

  -- a step that moves nothing and changes nothing that is known
  same_ties : (s : S) (ws : List ℕ) (id : ℕ) (v w : U) → get_elem? s.views id ≡ some v → Tie s → (is_held v.value.stage ≡ true → (is_held w.value.stage ≡ true) × (w.value.seen ≡ v.value.seen)) → (is_held v.device.stage ≡ true → is_held w.device.stage ≡ true)
      → w.value.numbers ≡ v.value.numbers → w.more ≡ v.more → Tie record { words = ws; homes = s.homes; views = set s.views id w }
  same_ties s ws id v w at k value_held device_held numbers same = record {
    value = k.value;
    device = k.device;
    value_is = ⊎_elim (λ h. inl h) (λ o. inr (own_set entries follows first s.views id v w k.value at (λ h. let t = value_held h in (t.0, ap (λ (m : More T D). m.own) same, t.1)) o)) k.value_is;
    device_is = ⊎_elim (λ h. inl h) (λ o. inr (down_set s.views id v w k.device at (λ h. (device_held h, ap (λ (m : More T D). m.down) same)) o)) k.device_is;
    beside_is = k.beside_is;
    since = k.since;
    parts_in = parts_kept later s.views id v w k.device k.device at (ap (λ (m : More T D). m.parts) same) k.parts_in (λ d l. l);
    seen_is = saw_set later s.views id v w k.device k.device k.seen_is (λ d l. l) (λ d saw. k.seen_is id v at d (ap (λ (m : More T D). m.saw) (sym same) ∙ saw));
    told = subst (λ (n : ℕ). owed k.value k.device ≤ n) (sym (total_same (λ (u : U). u.more.owes) s.views id v w at (ap (λ (m : More T D). m.owes) same))) k.told;
    idle = idle_set s.views id w k.idle (λ none. ap (λ (m : More T D). m.owes) same ∙ k.idle id v at (sym numbers ∙ none));
  }

  -- the value is out with the pass whose view says so
  out_only : (s : S) (id : ℕ) (v : U) → ValueRule (value_side s) → (k : Tie s) → get_elem? s.views id ≡ some v → is_held v.value.stage ≡ true → (v.more.own ≡ Some k.value) × (entries k.value ≡ v.value.seen) × follows first k.value
  out_only s id v r k at held = ⊎_elim (λ h. absurd (no_bool (is_held v.value.stage) held (nobody_has entries stood front empty_turns follows first passes s k.value r h id v at)))
      (λ o. let e : o.seat ≡ id = one_holder entries stood front empty_turns follows first passes (value_side s) r o.seat id o.view.value v.value (at_map value_of s.views o.seat o.view o.seat_is) (at_map value_of s.views id v at) o.held held in
      let is : o.view ≡ v = some-injective o.view v (sym o.seat_is ∙ (ap (get_elem? s.views) e ∙ at)) in
      (ap (λ (u : U). u.more.own) (sym is) ∙ o.own_is, o.entries_are ∙ ap (λ (u : U). u.value.seen) is, o.follows_is))
      k.value_is

  -- what a pass has seen of the history is a beginning of the value's, wherever the value is
  known_value : (s : S) (id : ℕ) (v : U) → ValueRule (value_side s) → (k : Tie s) → get_elem? s.views id ≡ some v → IsBeginning v.value.seen (entries k.value) × follows first k.value
  known_value s id v r k at =
      let begins : IsBeginning v.value.seen r.log = (r.knows.each id v.value (at_map value_of s.views id v at)).seen_in in
      ⊎_elim (λ h. let home = first_home s.homes k.value r.home h r.homes_are in
      ⊎_elim (λ t. let same : t.value ≡ k.value = same_Some t.value k.value (some-injective (Some t.value) (Some k.value) (sym t.home_is ∙ home)) in
      (subst (IsBeginning v.value.seen) (sym t.entries_are ∙ ap entries same) begins, subst (follows first) same t.follows_is))
      (λ o. absurd (some-ne-none (Some k.value) (sym home ∙ o.home_is))) r.slot)
      (λ o. ⊎_elim (λ t. absurd (no_bool (is_held o.view.value.stage) o.held (t.nobody o.seat o.view.value (at_map value_of s.views o.seat o.view o.seat_is))))
      (λ t. let e : t.seat ≡ o.seat = one_holder entries stood front empty_turns follows first passes (value_side s) r t.seat o.seat t.view o.view.value t.seat_is (at_map value_of s.views o.seat o.view o.seat_is) t.held o.held in
      let is : t.view ≡ o.view.value = some-injective t.view o.view.value (sym t.seat_is ∙ (ap (get_elem? (map value_of s.views)) e ∙ at_map value_of s.views o.seat o.view o.seat_is)) in
      (subst (IsBeginning v.value.seen) (sym t.seen_is ∙ (ap (λ (u : View T E). u.seen) is ∙ sym o.entries_are)) begins, o.follows_is)) r.slot)
      k.value_is

  -- the device is out with the pass whose view says so
  down_only : (s : S) (id : ℕ) (v : U) → DeviceRule (device_side s) → (k : Tie s) → get_elem? s.views id ≡ some v → is_held v.device.stage ≡ true → v.more.down ≡ Some k.device
  down_only s id v r k at held = ⊎_elim (λ h. absurd (no_bool (is_held v.device.stage) held (nobody_down entries' stood' front' empty_turns' follows' first' passes s k.device r h id v at)))
      (λ o. let e : o.seat ≡ id = one_holder entries' stood' front' empty_turns' follows' first' passes (device_side s) r o.seat id o.view.device v.device (at_map device_of s.views o.seat o.view o.seat_is) (at_map device_of s.views id v at) o.held held in
      let is : o.view ≡ v = some-injective o.view v (sym o.seat_is ∙ (ap (get_elem? s.views) e ∙ at)) in
      ap (λ (u : U). u.more.down) (sym is) ∙ o.down_is)
      k.device_is

  -- what passes owe after a step that changes what one of them owes
  covered : (s : S) (id : ℕ) (v w : U) (owed owed' : ℕ) → get_elem? s.views id ≡ some v → Covers owed v.more.owes owed' w.more.owes → owed ≤ total (λ (u : U). u.more.owes) s.views → owed' ≤ total (λ (u : U). u.more.owes) (set s.views id w)
  covered s id v w owed owed' at covers told =
      let all : ℕ = total (λ (u : U). u.more.owes) s.views in
      let sum : total (λ (u : U). u.more.owes) (set s.views id w) + v.more.owes ≡ all + w.more.owes = total_set (λ (u : U). u.more.owes) s.views id v w at in
      let part : v.more.owes ≤ all = term_le (λ (u : U). u.more.owes) s.views id v at in
      let split : all ≡ (all - v.more.owes) + v.more.owes = omega (arith, part) in
      let now : (all - v.more.owes) + w.more.owes ≡ total (λ (u : U). u.more.owes) (set s.views id w) = omega (arith, sum, part) in
      subst (λ (z : ℕ). owed' ≤ z) now (covers (all - v.more.owes) (subst (λ (z : ℕ). owed ≤ z) split told))

  kept_up : (c : List (ℕ × Cell (Option T) (Option D))) (a : Act (Option T)) → a ≡ keeps → carried_after c (up a) ≡ c
  kept_up c a is = ap (λ (b : Act (Option T)). carried_after c (up b)) is

  kept_down : (c : List (ℕ × Cell (Option T) (Option D))) (a : Act (Option D)) → a ≡ keeps → carried_after c (down a) ≡ c
  kept_down c a is = ap (λ (b : Act (Option D)). carried_after c (down b)) is

  -- 1: a ticket of the value's turn
  pub tie_ticket : (id : ℕ) (me : N) (i n r : ℕ) → me.0.value.stage ≡ Resting → (s : S) → Tie s → get_elem? s.views id ≡ some me.0 → (w : View T E) (a : Act (Option T)) → a ≡ keeps → queued (value_me me) r (w, carried_after (value_part me.1) a)
      → (m : More T D) × Tie (stepped s i n id me.1 (with_value me.0 w m) (up a)) × value_queued me r (with_value me.0 w m, carried_after me.1 (up a))
  tie_ticket id me i n r stage s k at w a is so =
      let w_is : w ≡ waiting me.0.value so.0 = ap (λ (x : VM). x.0) so.2 in (
        me.0.more,
        subst (λ (b : Act (Option T)). Tie (stepped s i n id me.1 (with_value me.0 w me.0.more) (up b))) (sym is)
            (same_ties s (set s.words i n) id me.0 (with_value me.0 w me.0.more) at k (λ h. absurd (no_bool (is_held me.0.value.stage) h (ap is_held stage))) (λ h. h) (ap (λ (u : View T E). u.numbers) w_is) refl),
        (so.0, so.1, (λ j. (with_value me.0 (w_is j) me.0.more, kept_up me.1 a is j))),
      )

  -- 7: a look at the front
  pub tie_front : (id : ℕ) (me : N) (i n r : ℕ) → (s : S) → Tie s → get_elem? s.views id ≡ some me.0 → (w : View T E) (a : Act (Option T)) → a ≡ keeps → read (value_me me) r (w, carried_after (value_part me.1) a)
      → (m : More T D) × Tie (stepped s i n id me.1 (with_value me.0 w m) (up a)) × value_read me r (with_value me.0 w m, carried_after me.1 (up a))
  tie_front id me i n r s k at w a is so =
      let w_is : w ≡ record me.0.value { front = r } = ap (λ (x : VM). x.0) so.0 in (
        me.0.more,
        subst (λ (b : Act (Option T)). Tie (stepped s i n id me.1 (with_value me.0 w me.0.more) (up b))) (sym is)
            (same_ties s (set s.words i n) id me.0 (with_value me.0 w me.0.more) at k (λ h. (ap (λ (u : View T E). is_held u.stage) w_is ∙ h, ap (λ (u : View T E). u.seen) w_is)) (λ h. h) (ap (λ (u : View T E). u.numbers) w_is) refl),
        ((λ j. (with_value me.0 (w_is j) me.0.more, kept_up me.1 a is j)), so.1),
      )

  -- 2: a look that finds another's turn
  tie_miss : (besides : T → T → D → Type 0) (id : ℕ) (me : N) (i n r : ℕ) → me.0.value.stage ≡ Waiting → (s : S) → Tie s → get_elem? s.views id ≡ some me.0 → (w : View T E) (a : Act (Option T)) → a ≡ keeps → looked entries stood front empty_turns follows (value_me me) r (w, carried_after (value_part me.1) a)
      → (m : More T D) × Tie (stepped s i n id me.1 (with_value me.0 w m) (up a)) × value_looked entries stood front empty_turns follows besides later me r (with_value me.0 w m, carried_after me.1 (up a))
  tie_miss besides id me i n r stage s k at w a is so =
      let kept : looked entries stood front empty_turns follows (value_me me) r (w, value_part me.1) = subst (λ (b : Act (Option T)). looked entries stood front empty_turns follows (value_me me) r (w, carried_after (value_part me.1) b)) is so in
      let missed : r ≡ me.0.value.ticket % 18446744073709551616 → ⊥ = λ hit. let g = kept.0 hit in longer_list (value_part me.1) (0, Some g.0) (ap (λ (y : VM). y.1) g.2) in
      let w_is : w ≡ me.0.value = ap (λ (x : VM). x.0) (kept.1 missed) in (
        me.0.more,
        subst (λ (b : Act (Option T)). Tie (stepped s i n id me.1 (with_value me.0 w me.0.more) (up b))) (sym is)
            (same_ties s (set s.words i n) id me.0 (with_value me.0 w me.0.more) at k (λ h. absurd (no_bool (is_held me.0.value.stage) h (ap is_held stage))) (λ h. h) (ap (λ (u : View T E). u.numbers) w_is) refl),
        ((λ hit. absurd (missed hit)), λ _. (λ j. (with_value me.0 (w_is j) me.0.more, kept_up me.1 a is j))),
      )

  -- 3: a look that takes the value
  tie_hit : (besides : T → T → D → Type 0) → ((v : T) (d : D) → beside v d → besides first v d) → (id : ℕ) (me : N) (i n r : ℕ) (x : T) → (s : S) → ValueRule (value_side s) → Tie s → get_elem? s.views id ≡ some me.0 → (w : View T E) (a : Act (Option T)) → a ≡ takes 0 (Some x) → Valid (value_side s).homes (value_part me.1) a
      → looked entries stood front empty_turns follows (value_me me) r (w, carried_after (value_part me.1) a)
      → (m : More T D) × Tie (stepped s i n id me.1 (with_value me.0 w m) (up a)) × value_looked entries stood front empty_turns follows besides later me r (with_value me.0 w m, carried_after me.1 (up a))
  tie_hit besides is_beside id me i n r x s rule k at w a is valid so =
      let m : More T D = record me.0.more { own = Some x } in
      let home : get_elem? s.homes 0 ≡ some (some (OfValue (Some x))) = value_at s.homes (Some x) (subst (Valid (value_side s).homes (value_part me.1)) is valid) in
      let got : looked entries stood front empty_turns follows (value_me me) r (w, (0, Some x) ∷ value_part me.1) = subst (λ (b : Act (Option T)). looked entries stood front empty_turns follows (value_me me) r (w, carried_after (value_part me.1) b)) is so in
      let value_is : k.value ≡ x = ⊎_elim (λ h. ap (value_in x) (sym h ∙ home)) (λ o. absurd (no_bool (is_held o.view.value.stage) o.held (nobody_has entries stood front empty_turns follows first passes s x rule home o.seat o.view o.seat_is))) k.value_is in
      let known = known_value s id me.0 rule k at in
      let not_missed : (r ≢ me.0.value.ticket % 18446744073709551616) → ⊥ = λ miss. longer_list (value_part me.1) (0, Some x) (sym (ap (λ (y : VM). y.1) (got.1 miss))) in
      let hit : r ≡ me.0.value.ticket % 18446744073709551616 = dite (ℕ_discrete r (me.0.value.ticket % 18446744073709551616)) (λ hit. hit) (λ miss. absurd (not_missed miss)) in
      let g = got.0 hit in
      let got_is : g.0 ≡ x = same_Some g.0 x (sym (ap (λ (y : VM). first_of (Some x) y.1) g.2)) in
      let carried : carried_after me.1 (up a) ≡ (0, OfValue (Some g.0)) ∷ me.1 = ap (λ (b : Act (Option T)). carried_after me.1 (up b)) is ∙ ap (λ (y : T). (0, OfValue (Some y)) ∷ me.1) (sym got_is) in
      let w_is = ap (λ (y : VM). y.0) g.2 in
      let same_first : (f : T) → me.0.value.first ≡ Some f → f ≡ first = (rule.knows.each id me.0.value (at_map value_of s.views id me.0 at)).first_is in
      let with_later : (f : T) → f ≡ first → LaterBeside (besides f) later me.0.more.saw g.0 = λ f e. (k.device, subst (λ (x : T). besides x g.0 k.device) (sym e) (is_beside g.0 k.device (subst (λ (x : T). beside x k.device) (value_is ∙ sym got_is) k.beside_is)), k.seen_is id me.0 at) in (
        m,
        subst (λ (b : Act (Option T)). Tie (stepped s i n id me.1 (with_value me.0 w m) (up b))) (sym is) record {
          value = k.value;
          device = k.device;
          value_is = inr record {
            seat = id;
            view = with_value me.0 w m;
            seat_is = set_here s.views id (with_value me.0 w m) (at_within s.views id me.0 at);
            held = ap (λ (y : View T E). is_held y.stage) w_is;
            own_is = ap Some (sym value_is);
            entries_are = ap entries (value_is ∙ sym got_is) ∙ sym (ap (λ (y : View T E). y.seen) w_is);
            follows_is = known.1;
          };
          device_is = ⊎_elim (λ h. inl (set_else s.homes 0 1 none one_not_zero ∙ h)) (λ o. inr (down_set s.views id me.0 (with_value me.0 w m) k.device at (λ h. (h, refl)) o)) k.device_is;
          beside_is = k.beside_is;
          since = k.since;
          parts_in = parts_kept later s.views id me.0 (with_value me.0 w m) k.device k.device at refl k.parts_in (λ d l. l);
          seen_is = saw_set later s.views id me.0 (with_value me.0 w m) k.device k.device k.seen_is (λ d l. l) (λ d saw. k.seen_is id me.0 at d saw);
          told = subst (λ (z : ℕ). owed k.value k.device ≤ z) (sym (total_same (λ (u : U). u.more.owes) s.views id me.0 (with_value me.0 w m) at refl)) k.told;
          idle = idle_set s.views id (with_value me.0 w m) k.idle (λ none. k.idle id me.0 at (sym (ap (λ (y : View T E). y.numbers) w_is) ∙ none));
        },
        ((λ _. (g.0, g.1, (λ j. (with_value me.0 (w_is j) (record me.0.more { own = Some (sym got_is j) }), carried j)), g.3, λ f f_is. with_later f (same_first f f_is))), λ miss. absurd (miss hit)),
      )

  -- 2, 3
  pub tie_look : (besides : T → T → D → Type 0) → ((v : T) (d : D) → beside v d → besides first v d) → (id : ℕ) (me : N) (i n r : ℕ) → me.0.value.stage ≡ Waiting → (s : S) → ValueRule (value_side s) → Tie s → get_elem? s.views id ≡ some me.0 → (w : View T E) (a : Act (Option T)) → IsLook a → Valid (value_side s).homes (value_part me.1) a
      → looked entries stood front empty_turns follows (value_me me) r (w, carried_after (value_part me.1) a)
      → (m : More T D) × Tie (stepped s i n id me.1 (with_value me.0 w m) (up a)) × value_looked entries stood front empty_turns follows besides later me r (with_value me.0 w m, carried_after me.1 (up a))
  tie_look besides is_beside id me i n r stage s rule k at w a look valid so = ⊎_elim (λ is. tie_miss besides id me i n r stage s k at w a is so) (λ t. tie_hit besides is_beside id me i n r t.0 s rule k at w a t.1 valid so) look

  -- 4: the front is raised, and what goes back is known: no device is out with the pass
  pub tie_raise : (id : ℕ) (me : N) (log' : List E) (empty' i n : ℕ) (own own' : T) (owes' : ℕ) → is_held me.0.value.stage ≡ true → me.0.value.numbers ≢ [] → me.0.more.own ≡ Some own → entries own' ≡ log' → follows first own'
      → MayRaise beside later owed me.0.more.saw own me.0.more.owes own' owes'
      → (s : S) → ValueRule (value_side s) → Tie s → get_elem? s.views id ≡ some me.0 → (w : View T E) (a : Act (Option T)) → a ≡ keeps → raised stood front log' empty' (value_me me) (w, carried_after (value_part me.1) a)
      → (m : More T D) × Tie (stepped s i n id me.1 (with_value me.0 w m) (up a)) × twin_raised stood front log' empty' (raises_value me.0.more own' owes') me (with_value me.0 w m, carried_after me.1 (up a))
  tie_raise id me log' empty' i n own own' owes' held some_number own_is log_is follows_is may s rule k at w a is so =
      let m : More T D = raises_value me.0.more own' owes' in
      let out = out_only s id me.0 rule k at held in
      let same : own ≡ k.value = same_Some own k.value (sym own_is ∙ out.0) in
      let w_is = ap (λ (y : VM). y.0) so.1 in
      let shown = may k.device (λ d saw. k.seen_is id me.0 at d saw) (subst (λ (y : T). beside y k.device) (sym same) k.beside_is) in (
        m,
        subst (λ (b : Act (Option T)). Tie (stepped s i n id me.1 (with_value me.0 w m) (up b))) (sym is) record {
          value = own';
          device = k.device;
          value_is = inr record {
            seat = id;
            view = with_value me.0 w m;
            seat_is = set_here s.views id (with_value me.0 w m) (at_within s.views id me.0 at);
            held = ap (λ (u : View T E). is_held u.stage) w_is;
            own_is = refl;
            entries_are = log_is ∙ sym (ap (λ (u : View T E). u.seen) w_is);
            follows_is = follows_is;
          };
          device_is = ⊎_elim (λ h. inl h) (λ o. inr (down_set s.views id me.0 (with_value me.0 w m) k.device at (λ h. (h, refl)) o)) k.device_is;
          beside_is = shown.0;
          since = k.since;
          parts_in = parts_kept later s.views id me.0 (with_value me.0 w m) k.device k.device at refl k.parts_in (λ d l. l);
          seen_is = saw_set later s.views id me.0 (with_value me.0 w m) k.device k.device k.seen_is (λ d l. l) (λ d saw. k.seen_is id me.0 at d saw);
          told = covered s id me.0 (with_value me.0 w m) (owed k.value k.device) (owed own' k.device) at (subst (λ (y : T). Covers (owed y k.device) me.0.more.owes (owed own' k.device) owes') same shown.1) k.told;
          idle = idle_set s.views id (with_value me.0 w m) k.idle (λ none. absurd (some_number (sym (ap (λ (y : View T E). y.numbers) w_is) ∙ none)));
        },
        (so.0, (λ j. (with_value me.0 (w_is j) m, kept_up me.1 a is j)), so.2, so.3),
      )

  -- 4 with the device out as well: both that go back are known
  pub tie_raise_both : (id : ℕ) (me : N) (log' : List E) (empty' i n : ℕ) (own own' : T) (old down' : D) (owes' : ℕ) → is_held me.0.value.stage ≡ true → is_held me.0.device.stage ≡ true → me.0.value.numbers ≢ [] → me.0.more.own ≡ Some own → me.0.more.down ≡ Some old
      → entries own' ≡ log' → follows first own' → ((d : D) → later d d) → ((a b c : D) → later a b → later b c → later a c) → MayRaiseBoth beside later owed own old me.0.more.owes own' down' owes'
      → (s : S) → ValueRule (value_side s) → DeviceRule (device_side s) → Tie s → get_elem? s.views id ≡ some me.0 → (w : View T E) (a : Act (Option T)) → a ≡ keeps → raised stood front log' empty' (value_me me) (w, carried_after (value_part me.1) a)
      → (m : More T D) × Tie (stepped s i n id me.1 (with_value me.0 w m) (up a)) × twin_raised stood front log' empty' (raises_both me.0.more own' down' owes') me (with_value me.0 w m, carried_after me.1 (up a))
  tie_raise_both id me log' empty' i n own own' old down' owes' held device_held some_number own_is down_is log_is follows_is itself on may s rule other k at w a is so =
      let m : More T D = raises_both me.0.more own' down' owes' in
      let out = out_only s id me.0 rule k at held in
      let low = down_only s id me.0 other k at device_held in
      let same : own ≡ k.value = same_Some own k.value (sym own_is ∙ out.0) in
      let same_device : old ≡ k.device = same_Some old k.device (sym down_is ∙ low) in
      let w_is = ap (λ (y : VM). y.0) so.1 in
      let shown = may (subst (λ (y : T × D). beside y.0 y.1) (λ j. (sym same j, sym same_device j)) k.beside_is) in
      let grows : later k.device down' = subst (λ (d : D). later d down') same_device shown.1 in (
        m,
        subst (λ (b : Act (Option T)). Tie (stepped s i n id me.1 (with_value me.0 w m) (up b))) (sym is) record {
          value = own';
          device = down';
          value_is = inr record {
            seat = id;
            view = with_value me.0 w m;
            seat_is = set_here s.views id (with_value me.0 w m) (at_within s.views id me.0 at);
            held = ap (λ (u : View T E). is_held u.stage) w_is;
            own_is = refl;
            entries_are = log_is ∙ sym (ap (λ (u : View T E). u.seen) w_is);
            follows_is = follows_is;
          };
          device_is = inr record {
            seat = id;
            view = with_value me.0 w m;
            seat_is = set_here s.views id (with_value me.0 w m) (at_within s.views id me.0 at);
            held = device_held;
            down_is = refl;
          };
          beside_is = shown.0;
          since = on first' k.device down' k.since grows;
          parts_in = parts_kept later s.views id me.0 (with_value me.0 w m) k.device down' at refl k.parts_in (λ d l. on d k.device down' l grows);
          seen_is = saw_set later s.views id me.0 (with_value me.0 w m) k.device down' k.seen_is (λ d l. on d k.device down' l grows) (λ d saw. subst (λ (z : D). later z down') (same_Some down' d saw) (itself down'));
          told = covered s id me.0 (with_value me.0 w m) (owed k.value k.device) (owed own' down') at (subst (λ (y : T × D). Covers (owed y.0 y.1) me.0.more.owes (owed own' down') owes') (λ j. (same j, same_device j)) shown.2) k.told;
          idle = idle_set s.views id (with_value me.0 w m) k.idle (λ none. absurd (some_number (sym (ap (λ (y : View T E). y.numbers) w_is) ∙ none)));
        },
        (so.0, (λ j. (with_value me.0 (w_is j) m, kept_up me.1 a is j)), so.2, so.3),
      )

  -- 5, 6: the value is put back
  pub tie_put : (id : ℕ) (me : N) (value : T) (i n : ℕ) → me.0.value.stage ≡ Raised → me.0.more.own ≡ Some value → me.1 ≡ (0, OfValue (Some value)) ∷ [] → (s : S) → ValueRule (value_side s) → Tie s → get_elem? s.views id ≡ some me.0
      → (w : View T E) (a : Act (Option T)) → a ≡ gives → passed (value_me me) (w, carried_after (value_part me.1) a) → (m : More T D) × Tie (stepped s i n id me.1 (with_value me.0 w m) (up a)) × value_passed me (with_value me.0 w m, carried_after me.1 (up a))
  tie_put id me value i n stage own top s rule k at w a is so =
      let m : More T D = me.0.more in
      let out = out_only s id me.0 rule k at (ap is_held stage) in
      let same : k.value ≡ value = same_Some k.value value (sym out.0 ∙ own) in
      let home : put_back s.homes me.1 ≡ set s.homes 0 (some (OfValue (Some value))) = ap (put_back s.homes) top in
      let w_is : w ≡ resting me.0.value = ap (λ (y : VM). y.0) so in
      let some_home : 0 < length s.homes = not_empty s.homes rule.home rule.homes_are in (
        m,
        subst (λ (b : Act (Option T)). Tie (stepped s i n id me.1 (with_value me.0 w m) (up b))) (sym is) record {
          value = k.value;
          device = k.device;
          value_is = inl (ap (λ hs. get_elem? hs 0) home ∙ (set_here s.homes 0 (some (OfValue (Some value))) some_home ∙ ap (λ (x : T). some (some (OfValue (Some x)))) (sym same)));
          device_is = ⊎_elim (λ h. inl (ap (λ hs. get_elem? hs 1) home ∙ (set_else s.homes 0 1 (some (OfValue (Some value))) one_not_zero ∙ h))) (λ o. inr (down_set s.views id me.0 (with_value me.0 w m) k.device at (λ h. (h, refl)) o)) k.device_is;
          beside_is = k.beside_is;
          since = k.since;
          parts_in = parts_kept later s.views id me.0 (with_value me.0 w m) k.device k.device at refl k.parts_in (λ d l. l);
          seen_is = saw_set later s.views id me.0 (with_value me.0 w m) k.device k.device k.seen_is (λ d l. l) (λ d saw. k.seen_is id me.0 at d saw);
          told = subst (λ (z : ℕ). owed k.value k.device ≤ z) (sym (total_same (λ (u : U). u.more.owes) s.views id me.0 (with_value me.0 w m) at refl)) k.told;
          idle = idle_set s.views id (with_value me.0 w m) k.idle (λ none. k.idle id me.0 at (sym (ap (λ (y : View T E). y.numbers) w_is) ∙ none));
        },
        (λ j. (with_value me.0 (w_is j) m, ap (λ (b : Act (Option T)). carried_after me.1 (up b)) is j)),
      )

  -- a ticket of the device's turn
  pub tie_device_ticket : (id : ℕ) (me : N) (i n r : ℕ) → me.0.device.stage ≡ Resting → (s : S) → Tie s → get_elem? s.views id ≡ some me.0 → (w : View D F) (a : Act (Option D)) → a ≡ keeps → queued (device_me me) r (w, carried_after (device_part me.1) a)
      → (m : More T D) × Tie (stepped s i n id me.1 (with_device me.0 w m) (down a)) × device_queued me r (with_device me.0 w m, carried_after me.1 (down a))
  tie_device_ticket id me i n r stage s k at w a is so =
      let w_is : w ≡ waiting me.0.device so.0 = ap (λ (x : DM). x.0) so.2 in (
        me.0.more,
        subst (λ (b : Act (Option D)). Tie (stepped s i n id me.1 (with_device me.0 w me.0.more) (down b))) (sym is)
            (same_ties s (set s.words i n) id me.0 (with_device me.0 w me.0.more) at k (λ h. (h, refl)) (λ h. absurd (no_bool (is_held me.0.device.stage) h (ap is_held stage))) refl refl),
        (so.0, so.1, (λ j. (with_device me.0 (w_is j) me.0.more, kept_down me.1 a is j))),
      )

  tie_device_miss : (besides : T → T → D → Type 0) (id : ℕ) (me : N) (i n r : ℕ) → me.0.device.stage ≡ Waiting → (s : S) → Tie s → get_elem? s.views id ≡ some me.0 → (w : View D F) (a : Act (Option D)) → a ≡ keeps → looked entries' stood' front' empty_turns' follows' (device_me me) r (w, carried_after (device_part me.1) a)
      → (m : More T D) × Tie (stepped s i n id me.1 (with_device me.0 w m) (down a)) × device_looked entries follows besides entries' empty_turns' later me r (with_device me.0 w m, carried_after me.1 (down a))
  tie_device_miss besides id me i n r stage s k at w a is so =
      let kept : looked entries' stood' front' empty_turns' follows' (device_me me) r (w, device_part me.1) = subst (λ (b : Act (Option D)). looked entries' stood' front' empty_turns' follows' (device_me me) r (w, carried_after (device_part me.1) b)) is so in
      let missed : r ≡ me.0.device.ticket % 18446744073709551616 → ⊥ = λ hit. let g = kept.0 hit in longer_list (device_part me.1) (0, Some g.0) (ap (λ (y : DM). y.1) g.2) in
      let w_is : w ≡ me.0.device = ap (λ (x : DM). x.0) (kept.1 missed) in (
        me.0.more,
        subst (λ (b : Act (Option D)). Tie (stepped s i n id me.1 (with_device me.0 w me.0.more) (down b))) (sym is)
            (same_ties s (set s.words i n) id me.0 (with_device me.0 w me.0.more) at k (λ h. (h, refl)) (λ h. absurd (no_bool (is_held me.0.device.stage) h (ap is_held stage))) refl refl),
        ((λ hit. absurd (missed hit)), λ _. (λ j. (with_device me.0 (w_is j) me.0.more, kept_down me.1 a is j))),
      )

  tie_device_hit : (besides : T → T → D → Type 0) → ((v : T) (d : D) → beside v d → besides first v d) → (id : ℕ) (me : N) (i n r : ℕ) (y : D) → ((d : D) → later d d) → (s : S) → ValueRule (value_side s) → DeviceRule (device_side s) → Tie s → get_elem? s.views id ≡ some me.0 → (w : View D F) (a : Act (Option D)) → a ≡ takes 0 (Some y) → Valid (device_side s).homes (device_part me.1) a
      → looked entries' stood' front' empty_turns' follows' (device_me me) r (w, carried_after (device_part me.1) a)
      → (m : More T D) × Tie (stepped s i n id me.1 (with_device me.0 w m) (down a)) × device_looked entries follows besides entries' empty_turns' later me r (with_device me.0 w m, carried_after me.1 (down a))
  tie_device_hit besides is_beside id me i n r y itself s value_rule rule k at w a is valid so =
      let m : More T D = record me.0.more { down = Some y; saw = Some y } in
      let home : get_elem? s.homes 1 ≡ some (some (OfDevice (Some y))) = device_at s.homes (Some y) (subst (Valid (device_side s).homes (device_part me.1)) is valid) in
      let got : looked entries' stood' front' empty_turns' follows' (device_me me) r (w, (0, Some y) ∷ device_part me.1) = subst (λ (b : Act (Option D)). looked entries' stood' front' empty_turns' follows' (device_me me) r (w, carried_after (device_part me.1) b)) is so in
      let device_is : k.device ≡ y = ⊎_elim (λ h. ap (device_in y) (sym h ∙ home)) (λ o. absurd (no_bool (is_held o.view.device.stage) o.held (nobody_down entries' stood' front' empty_turns' follows' first' passes s y rule home o.seat o.view o.seat_is))) k.device_is in
      let not_missed : (r ≢ me.0.device.ticket % 18446744073709551616) → ⊥ = λ miss. longer_list (device_part me.1) (0, Some y) (sym (ap (λ (x : DM). x.1) (got.1 miss))) in
      let hit : r ≡ me.0.device.ticket % 18446744073709551616 = dite (ℕ_discrete r (me.0.device.ticket % 18446744073709551616)) (λ hit. hit) (λ miss. absurd (not_missed miss)) in
      let g = got.0 hit in
      let got_is : g.0 ≡ y = same_Some g.0 y (sym (ap (λ (x : DM). first_of (Some y) x.1) g.2)) in
      let carried : carried_after me.1 (down a) ≡ (1, OfDevice (Some g.0)) ∷ me.1 = ap (λ (b : Act (Option D)). carried_after me.1 (down b)) is ∙ ap (λ (x : D). (1, OfDevice (Some x)) ∷ me.1) (sym got_is) in
      let w_is = ap (λ (x : DM). x.0) g.2 in
      let known = known_value s id me.0 value_rule k at in
      let same_first : (f : T) → me.0.value.first ≡ Some f → f ≡ first = (value_rule.knows.each id me.0.value (at_map value_of s.views id me.0 at)).first_is in
      let with_known : (f : T) → f ≡ first → BesideKnown entries (follows f) (besides f) me.0.value.seen (is_held me.0.value.stage) me.0.more.own g.0 = λ f e. (
        k.value,
        known.0,
        subst (λ (x : T). follows x k.value) (sym e) known.1,
        subst (λ (x : T). besides x k.value g.0) (sym e) (is_beside k.value g.0 (subst (beside k.value) (device_is ∙ sym got_is) k.beside_is)),
        λ held. (out_only s id me.0 value_rule k at held).0,
      ) in (
        m,
        subst (λ (b : Act (Option D)). Tie (stepped s i n id me.1 (with_device me.0 w m) (down b))) (sym is) record {
          value = k.value;
          device = k.device;
          value_is = ⊎_elim (λ h. inl (set_else s.homes 1 0 none (λ e. one_not_zero (sym e)) ∙ h)) (λ o. inr (own_set entries follows first s.views id me.0 (with_device me.0 w m) k.value at (λ h. (h, refl, refl)) o)) k.value_is;
          device_is = inr record {
            seat = id;
            view = with_device me.0 w m;
            seat_is = set_here s.views id (with_device me.0 w m) (at_within s.views id me.0 at);
            held = ap (λ (x : View D F). is_held x.stage) w_is;
            down_is = ap Some (sym device_is);
          };
          beside_is = k.beside_is;
          since = k.since;
          parts_in = parts_kept later s.views id me.0 (with_device me.0 w m) k.device k.device at refl k.parts_in (λ d l. l);
          seen_is = saw_set later s.views id me.0 (with_device me.0 w m) k.device k.device k.seen_is (λ d l. l) (λ d saw. subst (λ (z : D). later z k.device) (device_is ∙ same_Some y d saw) (itself k.device));
          told = subst (λ (z : ℕ). owed k.value k.device ≤ z) (sym (total_same (λ (u : U). u.more.owes) s.views id me.0 (with_device me.0 w m) at refl)) k.told;
          idle = idle_set s.views id (with_device me.0 w m) k.idle (λ none. k.idle id me.0 at none);
        },
        ((λ _. (g.0, g.1, (λ j. (with_device me.0 (w_is j) (record me.0.more { down = Some (sym got_is j); saw = Some (sym got_is j) }), carried j)), (λ d saw. subst (later d) (device_is ∙ sym got_is) (k.seen_is id me.0 at d saw)), λ f f_is. with_known f (same_first f f_is))), λ miss. absurd (miss hit)),
      )

  -- a look at the device's turn, which may take the device
  pub tie_device_look : (besides : T → T → D → Type 0) → ((v : T) (d : D) → beside v d → besides first v d) → (id : ℕ) (me : N) (i n r : ℕ) → ((d : D) → later d d) → me.0.device.stage ≡ Waiting → (s : S) → ValueRule (value_side s) → DeviceRule (device_side s) → Tie s → get_elem? s.views id ≡ some me.0 → (w : View D F) (a : Act (Option D)) → IsLook a → Valid (device_side s).homes (device_part me.1) a
      → looked entries' stood' front' empty_turns' follows' (device_me me) r (w, carried_after (device_part me.1) a)
      → (m : More T D) × Tie (stepped s i n id me.1 (with_device me.0 w m) (down a)) × device_looked entries follows besides entries' empty_turns' later me r (with_device me.0 w m, carried_after me.1 (down a))
  tie_device_look besides is_beside id me i n r itself stage s value_rule rule k at w a look valid so = ⊎_elim (λ is. tie_device_miss besides id me i n r stage s k at w a is so) (λ t. tie_device_hit besides is_beside id me i n r t.0 itself s value_rule rule k at w a t.1 valid so) look

  -- The device is put back: as it was raised beside the value, or as this pass alone has changed it, for each value that continues what the pass has seen.
  pub tie_device_put : (id : ℕ) (me : N) (old value : D) (under : List (ℕ × Cell (Option T) (Option D))) (i n owes' : ℕ) → is_held me.0.device.stage ≡ true → me.0.value.numbers ≢ [] → me.0.more.down ≡ Some old → me.1 ≡ (1, OfDevice (Some value)) ∷ under
      → ((d : D) → later d d) → ((a b c : D) → later a b → later b c → later a c) → MayPut beside later owed (λ v. IsBeginning me.0.value.seen (entries v) × follows first v) old me.0.more.owes value owes'
      → (s : S) → ValueRule (value_side s) → DeviceRule (device_side s) → Tie s → get_elem? s.views id ≡ some me.0 → (w : View D F) → Tie (stepped s i n id me.1 (with_device me.0 w (gave_device me.0.more value owes')) gives)
  tie_device_put id me old value under i n owes' held some_number down_is top itself on may s rule other k at w =
      let m : More T D = gave_device me.0.more value owes' in
      let low = down_only s id me.0 other k at held in
      let same : old ≡ k.device = same_Some old k.device (sym down_is ∙ low) in
      let shown = may k.value (known_value s id me.0 rule k at) (subst (beside k.value) (sym same) k.beside_is) in
      let grows : later k.device value = subst (λ (d : D). later d value) same shown.1 in
      let home : put_back s.homes me.1 ≡ set s.homes 1 (some (OfDevice (Some value))) = ap (put_back s.homes) top in
      let there : 1 < length s.homes = second_there s.homes other.home other.homes_are in
      record {
        value = k.value;
        device = value;
        value_is = ⊎_elim (λ h. inl (ap (λ hs. get_elem? hs 0) home ∙ (set_else s.homes 1 0 (some (OfDevice (Some value))) (λ e. one_not_zero (sym e)) ∙ h))) (λ o. inr (own_set entries follows first s.views id me.0 (with_device me.0 w m) k.value at (λ h. (h, refl, refl)) o)) k.value_is;
        device_is = inl (ap (λ hs. get_elem? hs 1) home ∙ set_here s.homes 1 (some (OfDevice (Some value))) there);
        beside_is = shown.0;
        since = on first' k.device value k.since grows;
        parts_in = parts_kept later s.views id me.0 (with_device me.0 w m) k.device value at refl k.parts_in (λ d l. on d k.device value l grows);
        seen_is = saw_set later s.views id me.0 (with_device me.0 w m) k.device value k.seen_is (λ d l. on d k.device value l grows) (λ d saw. subst (λ (z : D). later z value) (same_Some value d saw) (itself value));
        told = covered s id me.0 (with_device me.0 w m) (owed k.value k.device) (owed k.value value) at (subst (λ (d : D). Covers (owed k.value d) me.0.more.owes (owed k.value value) owes') same shown.2) k.told;
        idle = idle_set s.views id (with_device me.0 w m) k.idle (λ none. absurd (some_number none));
      }
