-- A table with two turns at its beginning and at its end, and passes that are made and joined.
use Rattle.std.proofs.Common.{◌≡◌, ℕ, zero, suc, ◌<◌, ◌≤◌, List, [], ◌∷◌, ◌++◌, map, ◌∙◌, length, set, sym, refl, ap, subst, inl, inr, ⊎_elim, arith, Option, Some, None}
use mathlib.Core.Option.{some, some-injective}
use mathlib.Core.Option as maybe
use lib.ListN.{get_elem?}
use Rattle.std.specs.List.{AllByRecursion}
use Rattle.std.proofs.lemmas.Option.{none-some, same_Some}
use Rattle.atomic_table.specs.Table.{State, Splits, Joins, opening, Final}
use Rattle.atomic_table.proofs.Lists.{at_snoc, at_longer, set_else}
use Rattle.turn_lock.specs.declared.view.View.{View}
use Rattle.turn_lock.specs.declared.view.Stage.TheVariants.{Resting}
use Rattle.turn_lock.specs.declared.twin_view.Cell.{Cell}
use Rattle.turn_lock.specs.declared.twin_view.Cell.TheVariants.{OfValue, OfDevice}
use Rattle.turn_lock.specs.Turning.{total, times}
use Rattle.turn_lock.specs.Rule.{Kept, is_held, newcomer}
use Rattle.turn_lock.specs.Steps.{spent}
use Rattle.turn_lock.specs.Twin.{value_side, device_side, Together}
use Rattle.turn_lock.specs.Tied.{Seen, IsOwn, IsDown, Tied}
use Rattle.turn_lock.specs.TwinSteps.{twin_left, twin_dealt, twin_joined, twin_spent, either_saw, what_saw}
use Rattle.turn_lock.proofs.Lists.{all_append}
use Rattle.turn_lock.proofs.Counts.{total_append, total_set, total_alone}
use Rattle.turn_lock.proofs.Keeps.{Ends, opens, splits, joins, ends_at, numbers_none, no_append}
use Rattle.turn_lock.proofs.TwinParts.{value_of, device_of, map_set, at_map, value_at, device_at}
use Rattle.turn_lock.proofs.TwinTies.{nobody_has, nobody_down, own_set, down_set, saw_set, parts_set, parts_kept, idle_set, value_in, device_in, no_bool}

module _ {A B : Type 0} where
  map_more : (f : A → B) (xs : List A) (v : A) → map f (xs ++ v ∷ []) ≡ map f xs ++ f v ∷ []
  map_more f [] v = refl
  map_more f (x ∷ xs) v = ap (λ l. f x ∷ l) (map_more f xs v)

either_later : {D : Type 0} (later : D → D → Type 0) (x y : Option D) (device : D) → ((d : D) → x ≡ Some d → later d device) → ((d : D) → y ≡ Some d → later d device) → (d : D) → either_saw x y ≡ Some d → later d device
either_later later (Some e) y device a b = a
either_later later None y device a b = b

saw_in : {D : Type 0} (later : D → D → Type 0) (x : Option D) (device : D) → ((d : D) → x ≡ Some d → later d device) → AllByRecursion (λ d. later d device) (what_saw x)
saw_in later (Some e) device a = (a e refl, tt)
saw_in later None device a = tt

module _ {A V : Type 0} (R : State A V → Type 0) where
  other_views : (ws : List ℕ) (hs : List (maybe.Option A)) (vs vs' : List V) → vs ≡ vs' → R record { words = ws; homes = hs; views = vs } → R record { words = ws; homes = hs; views = vs' }
  other_views ws hs vs vs' e r = subst (λ (x : List V). R record { words = ws; homes = hs; views = x }) e r

module _ {T E D F : Type 0}
    (entries : T → List E) (stood : T → ℕ) (front : E → ℕ) (empty_turns : T → ℕ) (follows : T → T → Type 0) (first : T)
    (entries' : D → List F) (stood' : D → ℕ) (front' : F → ℕ) (empty_turns' : D → ℕ) (follows' : D → D → Type 0) (first' : D) (passes : ℕ)
    (beside : T → D → Type 0) (later : D → D → Type 0) (owed : T → D → ℕ) where
  abbrev U : Type 0
  U = Seen T E D F

  abbrev St : Type 0
  St = State (Cell (Option T) (Option D)) U

  abbrev R : State (Option T) (View T E) → Type 0
  R = Kept entries stood front empty_turns follows first passes

  abbrev Q : State (Option D) (View D F) → Type 0
  Q = Kept entries' stood' front' empty_turns' follows' first' passes

  abbrev Tie : St → Type 0
  Tie = Tied entries follows first first' beside later owed

  abbrev Rule : St → Type 0
  Rule = Together R Q Tie

  own_more : (views : List U) (w : U) (value : T) → IsOwn entries follows first views value → IsOwn entries follows first (views ++ w ∷ []) value
  own_more views w value o = record { seat = o.seat; view = o.view; seat_is = at_longer views (w ∷ []) o.seat o.view o.seat_is; held = o.held; own_is = o.own_is; entries_are = o.entries_are; follows_is = o.follows_is }

  down_more : (views : List U) (w : U) (device : D) → IsDown views device → IsDown (views ++ w ∷ []) device
  down_more views w device o = record { seat = o.seat; view = o.view; seat_is = at_longer views (w ∷ []) o.seat o.view o.seat_is; held = o.held; down_is = o.down_is }

  split_ties : (s : St) (id : ℕ) (v : U) → v.value.stage ≡ Resting → v.device.stage ≡ Resting → v.more.owes ≡ 0 → get_elem? s.views id ≡ some v → Tie s → Tie record { words = s.words; homes = s.homes; views = set s.views id (twin_left v) ++ twin_dealt v ∷ [] }
  split_ties s id v stage device_stage nothing at k =
      let l : U = twin_left v in let d : U = twin_dealt v in let vs : List U = set s.views id l in record {
        value = k.value;
        device = k.device;
        value_is = ⊎_elim (λ h. inl h) (λ o. inr (own_more vs d k.value (own_set entries follows first s.views id v l k.value at (λ h. absurd (no_bool (is_held v.value.stage) h (ap is_held stage))) o))) k.value_is;
        device_is = ⊎_elim (λ h. inl h) (λ o. inr (down_more vs d k.device (down_set s.views id v l k.device at (λ h. absurd (no_bool (is_held v.device.stage) h (ap is_held device_stage))) o))) k.device_is;
        beside_is = k.beside_is;
        since = k.since;
        parts_in = λ seat u is. ⊎_elim (λ t. parts_kept later s.views id v l k.device k.device at refl k.parts_in (λ _ g. g) seat u t) (λ t. subst (λ (x : U). AllByRecursion (λ z. later z k.device) x.more.parts) t (k.parts_in id v at)) (at_snoc vs d u seat is);
        seen_is = λ seat u is e saw. ⊎_elim (λ t. saw_set later s.views id v l k.device k.device k.seen_is (λ _ g. g) (λ x g. k.seen_is id v at x g) seat u t e saw)
            (λ t. k.seen_is id v at e (ap (λ (x : U). x.more.saw) t ∙ saw)) (at_snoc vs d u seat is);
        told = subst (λ (n : ℕ). owed k.value k.device ≤ n) (let n : total (λ (u : U). u.more.owes) s.views ≡ total (λ (u : U). u.more.owes) (vs ++ d ∷ []) = omega (arith, total_append (λ (u : U). u.more.owes) vs (d ∷ []), total_set (λ (u : U). u.more.owes) s.views id v l at, nothing) in n) k.told;
        idle = λ seat u is. ⊎_elim (λ t. idle_set s.views id l k.idle (λ _. nothing) seat u t) (λ t. subst (λ (x : U). x.value.numbers ≡ [] → x.more.owes ≡ 0) t (λ _. nothing)) (at_snoc vs d u seat is);
      }

  -- step 8, a pass that is made
  pub twin_splits : (id : ℕ) (v : U) → v.value.stage ≡ Resting → v.value.mine ≡ [] → v.value.turns ≡ 0 → v.device.stage ≡ Resting → v.device.mine ≡ [] → v.device.turns ≡ 0 → v.more.owes ≡ 0 → Splits Rule id v (twin_left v) (twin_dealt v)
  twin_splits id v stage mine turns device_stage device_mine device_turns nothing s k at =
      let l : U = twin_left v in let d : U = twin_dealt v in let vs : List U = set s.views id l in record {
        turn = other_views R (value_side s).words (value_side s).homes (set (map value_of s.views) id l.value ++ d.value ∷ []) (map value_of (vs ++ d ∷ []))
            (sym (map_more value_of vs d ∙ ap (λ (x : List (View T E)). x ++ d.value ∷ []) (map_set value_of s.views id l)))
            (splits entries stood front empty_turns follows first passes id v.value stage mine turns (value_side s) k.turn (at_map value_of s.views id v at));
        other = other_views Q (device_side s).words (device_side s).homes (set (map device_of s.views) id l.device ++ d.device ∷ []) (map device_of (vs ++ d ∷ []))
            (sym (map_more device_of vs d ∙ ap (λ (x : List (View D F)). x ++ d.device ∷ []) (map_set device_of s.views id l)))
            (splits entries' stood' front' empty_turns' follows' first' passes id v.device device_stage device_mine device_turns (device_side s) k.other (at_map device_of s.views id v at));
        five = k.five;
        ties = split_ties s id v stage device_stage nothing at k.ties;
      }

  join_ties : (s : St) (id : ℕ) (v : U) (other : ℕ) (u : U) → v.value.stage ≡ Resting → u.value.stage ≡ Resting → v.device.stage ≡ Resting → u.device.stage ≡ Resting → get_elem? s.views id ≡ some v → get_elem? s.views other ≡ some u
      → get_elem? (set s.views id (twin_joined v u)) other ≡ some u → Tie s → Tie record { words = s.words; homes = s.homes; views = set (set s.views id (twin_joined v u)) other twin_spent }
  join_ties s id v other u sv su dv du at at_u at_other k =
      let w : U = twin_joined v u in let e : U = twin_spent in let vs : List U = set s.views id w in record {
        value = k.value;
        device = k.device;
        value_is = ⊎_elim (λ h. inl h) (λ o. inr (own_set entries follows first vs other u e k.value at_other (λ h. absurd (no_bool (is_held u.value.stage) h (ap is_held su)))
            (own_set entries follows first s.views id v w k.value at (λ h. absurd (no_bool (is_held v.value.stage) h (ap is_held sv))) o))) k.value_is;
        device_is = ⊎_elim (λ h. inl h) (λ o. inr (down_set vs other u e k.device at_other (λ h. absurd (no_bool (is_held u.device.stage) h (ap is_held du)))
            (down_set s.views id v w k.device at (λ h. absurd (no_bool (is_held v.device.stage) h (ap is_held dv))) o))) k.device_is;
        beside_is = k.beside_is;
        since = k.since;
        parts_in = parts_set later vs other e k.device k.device
            (parts_set later s.views id w k.device k.device k.parts_in (λ _ g. g)
            (all_append (λ d. later d k.device) (what_saw v.more.saw ++ what_saw u.more.saw) (v.more.parts ++ u.more.parts)
            (all_append (λ d. later d k.device) (what_saw v.more.saw) (what_saw u.more.saw) (saw_in later v.more.saw k.device (k.seen_is id v at)) (saw_in later u.more.saw k.device (k.seen_is other u at_u)))
            (all_append (λ d. later d k.device) v.more.parts u.more.parts (k.parts_in id v at) (k.parts_in other u at_u))))
            (λ _ g. g) tt;
        seen_is = saw_set later vs other u e k.device k.device
            (saw_set later s.views id v w k.device k.device k.seen_is (λ _ g. g) (either_later later v.more.saw u.more.saw k.device (λ d g. k.seen_is id v at d g) (λ d g. k.seen_is other u at_u d g)))
            (λ _ g. g) (λ d nothing. absurd (none-some d nothing));
        told = subst (λ (n : ℕ). owed k.value k.device ≤ n) (let n : total (λ (x : U). x.more.owes) s.views ≡ total (λ (x : U). x.more.owes) (set vs other e) = omega (arith, total_set (λ (x : U). x.more.owes) vs other u e at_other, total_set (λ (x : U). x.more.owes) s.views id v w at) in n) k.told;
        idle = idle_set vs other e (idle_set s.views id w k.idle (λ nothing. let n = no_append v.value.numbers u.value.numbers nothing in let a = k.idle id v at n.0 in let b = k.idle other u at_u n.1 in omega (arith, a, b))) (λ _. refl);
      }

  -- step 8, two passes that become one
  pub twin_joins : (id : ℕ) (v : U) (other : ℕ) (u : U) → v.value.stage ≡ Resting → u.value.stage ≡ Resting → v.device.stage ≡ Resting → u.device.stage ≡ Resting → Joins Rule id v other u (twin_joined v u) twin_spent
  twin_joins id v other u sv su dv du s k at apart at_other =
      let w : U = twin_joined v u in let e : U = twin_spent in let vs : List U = set s.views id w in
      let at_u : get_elem? s.views other ≡ some u = sym (set_else s.views id other w apart) ∙ at_other in record {
        turn = other_views R (value_side s).words (value_side s).homes (set (set (map value_of s.views) id w.value) other spent) (map value_of (set vs other e))
            (sym (map_set value_of vs other e ∙ ap (λ (x : List (View T E)). set x other spent) (map_set value_of s.views id w)))
            (joins entries stood front empty_turns follows first passes id v.value other u.value sv su (value_side s) k.turn (at_map value_of s.views id v at) apart
            (subst (λ (x : List (View T E)). get_elem? x other ≡ some u.value) (map_set value_of s.views id w) (at_map value_of vs other u at_other)));
        other = other_views Q (device_side s).words (device_side s).homes (set (set (map device_of s.views) id w.device) other spent) (map device_of (set vs other e))
            (sym (map_set device_of vs other e ∙ ap (λ (x : List (View D F)). set x other spent) (map_set device_of s.views id w)))
            (joins entries' stood' front' empty_turns' follows' first' passes id v.device other u.device dv du (device_side s) k.other (at_map device_of s.views id v at) apart
            (subst (λ (x : List (View D F)). get_elem? x other ≡ some u.device) (map_set device_of s.views id w) (at_map device_of vs other u at_other)));
        five = k.five;
        ties = join_ties s id v other u sv su dv du at at_u at_other k.ties;
      }

  abbrev opened : U
  opened = record { value = newcomer entries first passes; device = newcomer entries' first' passes; more = record { own = None; down = None; saw = Some first'; parts = []; owes = 0 } }

  only_view : (v : U) (j : ℕ) (u : U) → get_elem? (v ∷ []) j ≡ some u → u ≡ v
  only_view v zero u is = sym (some-injective v u is)
  only_view v (suc j) u is = absurd (mathlib.Core.Option.some-ne-none u (sym is))

  -- the table at the start
  pub twin_opens : follows first first → stood first ≡ length (entries first) → empty_turns first ≡ 0 → follows' first' first' → stood' first' ≡ length (entries' first') → empty_turns' first' ≡ 0 → passes < 18446744073709551616
      → beside first first' → owed first first' ≡ 0 → later first' first' → Rule (opening (0 ∷ 0 ∷ 0 ∷ 0 ∷ 0 ∷ []) (OfValue (Some first) ∷ OfDevice (Some first') ∷ []) opened)
  twin_opens starts all none_empty starts' all' none_empty' few stands nothing itself = record {
    turn = opens entries stood front empty_turns follows first passes starts all none_empty few;
    other = opens entries' stood' front' empty_turns' follows' first' passes starts' all' none_empty' few;
    five = refl;
    ties = record {
      value = first;
      device = first';
      value_is = inl refl;
      device_is = inl refl;
      beside_is = stands;
      since = itself;
      parts_in = λ seat u is. subst (λ (x : U). AllByRecursion (λ z. later z first') x.more.parts) (sym (only_view opened seat u is)) tt;
      seen_is = λ seat u is d saw. subst (λ (z : D). later z first') (same_Some first' d (sym (ap (λ (x : U). x.more.saw) (only_view opened seat u is)) ∙ saw)) itself;
      told = (let n = nothing in omega (arith, n));
      idle = λ seat u is _. ap (λ (x : U). x.more.owes) (only_view opened seat u is);
    };
  }

  -- What is known of the value and of the device once the lock is closed with a pass that has the numbers of all others and owes nothing.
  pub record TwinEnds (v : U) (value : T) (device : D) : Type 0 where
    pub value_ends : Ends entries stood front empty_turns follows first passes v.value value
    pub beside_is : beside value device
    pub saw_is : (d : D) → v.more.saw ≡ Some d → later d device
    pub since : later first' device
    pub parts_in : AllByRecursion (λ d. later d device) v.more.parts
    pub told : owed value device ≡ 0

  pub twin_ends : (ws : List ℕ) (xs : List (Cell (Option T) (Option D))) (id : ℕ) (v : U) → v.value.stage ≡ Resting → v.device.stage ≡ Resting → ((n : ℕ) → n < passes → 0 < times n v.value.numbers) → ((n : ℕ) → n < passes → 0 < times n v.device.numbers)
      → v.more.owes ≡ 0 → Final (Rattle.atomic_table.specs.Table.Seen Rule id v) ws xs
      → (value : T) × (device : D) × (get_elem? xs 0 ≡ some (OfValue (Some value))) × (get_elem? xs 1 ≡ some (OfDevice (Some device))) × TwinEnds v value device
  twin_ends ws xs id v stage device_stage all device_all nothing f =
      let s : St = f.0 in let k : Rule s = f.1.0 in let at = f.1.1 in
      let seat = at_map value_of s.views id v at in
      let a = ends_at entries stood front empty_turns follows first passes (value_side s) k.turn id v.value seat stage all in
      let b = ends_at entries' stood' front' empty_turns' follows' first' passes (device_side s) k.other id v.device (at_map device_of s.views id v at) device_stage device_all in
      let home : get_elem? s.homes 0 ≡ some (some (OfValue (Some a.0))) = value_at s.homes (Some a.0) a.1 in
      let device_home : get_elem? s.homes 1 ≡ some (some (OfDevice (Some b.0))) = device_at s.homes (Some b.0) b.1 in
      let same : k.ties.value ≡ a.0 = ⊎_elim (λ h. ap (value_in a.0) (sym h ∙ home)) (λ o. absurd (no_bool (is_held o.view.value.stage) o.held (nobody_has entries stood front empty_turns follows first passes s a.0 k.turn home o.seat o.view o.seat_is))) k.ties.value_is in
      let same_device : k.ties.device ≡ b.0 = ⊎_elim (λ h. ap (device_in b.0) (sym h ∙ device_home)) (λ o. absurd (no_bool (is_held o.view.device.stage) o.held (nobody_down entries' stood' front' empty_turns' follows' first' passes s b.0 k.other device_home o.seat o.view o.seat_is))) k.ties.device_is in
      let both : ◌≡◌ {A = T × D} (k.ties.value, k.ties.device) (a.0, b.0) = λ j. (same j, same_device j) in
      let alone : total (λ (u : U). u.more.owes) s.views ≡ v.more.owes = total_alone (λ (u : U). u.more.owes) s.views id v at
      (λ j u n is. k.ties.idle j u is (numbers_none entries stood front empty_turns follows first passes (value_side s) k.turn id v.value seat all j u.value n (at_map value_of s.views j u is))) in (
        a.0,
        b.0,
        f.4 0 (OfValue (Some a.0)) home,
        f.4 1 (OfDevice (Some b.0)) device_home,
        record {
          value_ends = a.2;
          beside_is = subst (λ (x : T × D). beside x.0 x.1) both k.ties.beside_is;
          saw_is = λ d saw. subst (later d) same_device (k.ties.seen_is id v at d saw);
          since = subst (later first') same_device k.ties.since;
          parts_in = subst (λ (x : D). AllByRecursion (λ d. later d x) v.more.parts) same_device (k.ties.parts_in id v at);
          told = (let n : owed a.0 b.0 ≤ total (λ (u : U). u.more.owes) s.views = subst (λ (x : T × D). owed x.0 x.1 ≤ total (λ (u : U). u.more.owes) s.views) both k.ties.told in omega (arith, n, alone, nothing));
        },
      )
