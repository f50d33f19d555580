-- Each kind of step keeps the rule.
use Rattle.std.proofs.Common.{◌≡◌, ℕ, zero, suc, ◌+◌, ◌-◌, ◌%◌, ◌^◌, ◌<◌, ◌≤◌, ◌≢◌, ◌⊎◌, eqb, Bool, true, false, List, [], ◌∷◌, ◌++◌, map, length, take, drop, get_or, set, max, cond, sym, refl, ap, ap₂, ◌∙◌, subst, inl, inr, ⊎_elim, arith, append-nil, length-append, Option, Some, None, slice_get}
use mathlib.Core.Option.{none, some, some-injective, some-ne-none}
use mathlib.Core.Option as maybe
use mathlib.Core.Logic.{dite}
use native.Mathlib.Decide.{ℕ_discrete}
use lib.ListN.{get_elem?}
use Rattle.std.proofs.Math.Nat.{mod-add-mod, add-mod-mod}
use Rattle.std.proofs.lemmas.List.{set-get_or}
use Rattle.std.proofs.lemmas.Option.{none-some}
use Rattle.atomic_table.specs.Table.{State, Me, Act, keeps, takes, gives, Allows, Splits, Joins, stepped, put_back, opening, Final, Seen}
use Rattle.atomic_table.proofs.Lists.{at_set, set_here, set_else, set_again, at_snoc, at_longer, one_turn}
use Rattle.turn_lock.specs.declared.view.View.{View}
use Rattle.turn_lock.specs.declared.view.Stage.{Stage}
use Rattle.turn_lock.specs.declared.view.Stage.TheVariants.{Resting, Waiting, Turn, Raised}
use Rattle.turn_lock.specs.Turning.{one, times, total, EachOnce, IsBeginning, greatest, places, StandIn, added, numbers_from, IsOneTurn}
use Rattle.turn_lock.proofs.Acts.{AllowsAs, IsLook, as_allows}
use Rattle.turn_lock.specs.Rule.{is_queued, is_held, ahead, tickets, tickets_of, times_at, Kept, Shared, Fits, AtHome, IsOut, HasTurns, newcomer}
use Rattle.turn_lock.specs.Steps.{waiting, in_turn, raising, resting, left_to_deal, dealt, joined, spent, queued, raised, passed, read, GoesBack, looked}
use Rattle.std.specs.List.{AllByRecursion}
use Rattle.turn_lock.proofs.Lists.{value_or, begins_longer, begin_more, begin_append, get_last, greatest_since}
use Rattle.turn_lock.proofs.TurnLaws.{begins_itself, begins_more, begins_length, stand_more, stand_append, added_one, added_none, times_append, places_append}
use Rattle.turn_lock.proofs.Counts.{one_same, at_within, total_append, total_set, total_same, term_le, terms_le, total_le, total_alone, once_same, once_grown, once_passed, once_bound, once_inside, length_numbers, once_numbers, next_number}

abbrev W : ℕ
W = 18446744073709551616

next_mod : (a b : ℕ) → a % W ≡ b % W → (a + 1) % W ≡ (b + 1) % W
next_mod a b h = sym (mod-add-mod a W 1) ∙ (ap (λ (z : ℕ). (z + 1) % W) h ∙ mod-add-mod b W 1)

no_bool : (b : Bool) → b ≡ true → b ≡ false → ⊥
no_bool b t f = search (Rattle.std.proofs.Common.rules, sym t ∙ f)

not_true : (b : Bool) → (b ≡ true → ⊥) → b ≡ false
not_true true h = absurd (h refl)
not_true false h = refl

-- a list with no number is empty
no_number : (l : List ℕ) → ((n : ℕ) → 0 < times n l → ⊥) → l ≡ []
no_number [] h = refl
no_number (x ∷ xs) h = absurd (h x (omega (arith, one_same x x refl)))

pub no_append : (xs ys : List ℕ) → xs ++ ys ≡ [] → (xs ≡ []) × (ys ≡ [])
no_append [] ys e = (refl, e)
no_append (x ∷ xs) ys e = absurd (let n : suc (length (xs ++ ys)) ≡ 0 = ap length e in omega arith)

cond_le : (b : Bool) → cond b 1 0 ≤ 1
cond_le true = omega arith
cond_le false = omega arith

empty_or : (l : List ℕ) → (l ≡ []) ⊎ (1 ≤ length l)
empty_or [] = inl refl
empty_or (x ∷ xs) = inr (omega arith)

module _ {T E : Type 0} (entries : T → List E) (stood : T → ℕ) (front : E → ℕ) (empty_turns : T → ℕ) (follows : T → T → Type 0) (first : T) (passes : ℕ) where
  abbrev V : Type 0
  V = View T E

  abbrev St : Type 0
  St = State (Option T) V

  abbrev M : Type 0
  M = Me (Option T) V

  abbrev Rule : St → Type 0
  Rule = Kept entries stood front empty_turns follows first passes

  abbrev Fit : ℕ → List E → V → Type 0
  Fit = Fits entries stood front empty_turns follows first passes

  abbrev Share : ℕ → ℕ → List E → List V → Type 0
  Share = Shared entries stood front empty_turns follows first passes

  abbrev Home : ℕ → List E → maybe.Option (Option T) → List V → Type 0
  Home = AtHome entries stood front empty_turns follows first passes

  abbrev Out : ℕ → List E → maybe.Option (Option T) → List V → Type 0
  Out = IsOut entries stood front empty_turns follows first passes

  abbrev fr : List E → ℕ
  fr log = greatest front (drop (stood first) log)

  -- two seats can't have one ticket
  alone : (taken served : ℕ) (log : List E) (views : List V) → Share taken served log views → (i j : ℕ) (v w : V) → get_elem? views i ≡ some v → get_elem? views j ≡ some w
      → is_queued v.stage ≡ true → is_queued w.stage ≡ true → v.ticket ≡ w.ticket → j ≡ i
  alone taken served log views k i j v w at bt qv qw same = dite (ℕ_discrete j i) (λ e. e) (λ n.
      let a : tickets_of v.ticket v ≡ 1 = ap (λ b. cond b (one v.ticket v.ticket) 0) qv ∙ one_same v.ticket v.ticket refl in
      let b : tickets_of v.ticket w ≡ 1 = ap (λ b. cond b (one v.ticket w.ticket) 0) qw ∙ one_same v.ticket w.ticket same in
      let both = terms_le (tickets_of v.ticket) views i j v w n at bt in
      let most = once_bound (λ t. total (tickets_of t) views) (λ t. total (tickets_of t) views) served taken k.tickets_once v.ticket in
      absurd (omega arith))

  queued_held : (s : Stage) → is_held s ≡ true → is_queued s ≡ true
  queued_held Resting h = h
  queued_held Waiting h = refl
  queued_held Turn h = refl
  queued_held Raised h = refl

  -- the seats after one of them changed
  each_set : (served served' : ℕ) (log log' : List E) (views : List V) (id : ℕ) (w : V) → ((j : ℕ) (v : V) → get_elem? views j ≡ some v → Fit served log v)
      → ((j : ℕ) (v : V) → j ≢ id → get_elem? views j ≡ some v → Fit served log v → Fit served' log' v) → Fit served' log' w
      → (j : ℕ) (v : V) → get_elem? (set views id w) j ≡ some v → Fit served' log' v
  each_set served served' log log' views id w old others mine j v at = ⊎_elim (λ t. subst (Fit served' log') t.1 mine) (λ t. others j v t.0 t.1 (old j v t.1)) (at_set views id j w v at)

  -- a seat that has not the value changes to a view that has it not
  slot_set : (served : ℕ) (log : List E) (home : maybe.Option (Option T)) (views : List V) (id : ℕ) (v w : V) → get_elem? views id ≡ some v → is_held v.stage ≡ false → is_held w.stage ≡ false
      → Home served log home views ⊎ Out served log home views → Home served log home (set views id w) ⊎ Out served log home (set views id w)
  slot_set served log home views id v w at hv hw (inl h) = inl record {
    value = h.value;
    home_is = h.home_is;
    entries_are = h.entries_are;
    stood_is = h.stood_is;
    follows_is = h.follows_is;
    turns_are = h.turns_are;
    nobody = λ j u is. ⊎_elim (λ t. subst (λ (x : V). is_held x.stage ≡ false) t.1 hw) (λ t. h.nobody j u t.1) (at_set views id j w u is);
  }
  slot_set served log home views id v w at hv hw (inr o) =
      let n : o.seat ≢ id = λ e. no_bool (is_held o.view.stage) o.held (ap (λ (x : V). is_held x.stage) (some-injective o.view v (sym o.seat_is ∙ (ap (get_elem? views) e ∙ at))) ∙ hv) in
      inr record { seat = o.seat; view = o.view; seat_is = set_else views id o.seat w n ∙ o.seat_is; held = o.held; home_is = o.home_is; seen_is = o.seen_is; front_is = o.front_is; turns_are = o.turns_are }

  -- step 1
  pub takes_ticket_as : (slots id : ℕ) (me : M) → me.0.stage ≡ Resting → me.0.numbers ≢ [] → AllowsAs (λ a. a ≡ keeps) Rule slots id me 0 (λ n. (n + 1) % W) (queued me)
  takes_ticket_as slots id me rest some_number s r wide at small =
      let v : V = me.0 in let w : V = waiting v r.taken in let k = r.knows in
      let qv : is_queued v.stage ≡ false = ap is_queued rest in let hv : is_held v.stage ≡ false = ap is_held rest in
      let of_v : (t : ℕ) → tickets_of t v ≡ 0 = λ t. ap (λ b. cond b (one t v.ticket) 0) qv in
      let n_v : tickets v ≡ 0 = ap (λ b. cond b 1 0) qv in
      let fit = k.each id v at in (
        w,
        keeps,
        refl,
        tt,
        record {
          taken = r.taken + 1;
          served = r.served;
          log = r.log;
          home = r.home;
          words_are = ap (λ ws. set ws 0 ((get_or ws 0 0 + 1) % W)) r.words_are ∙ ap (λ (z : ℕ). z ∷ r.served % W ∷ fr r.log ∷ []) (mod-add-mod r.taken W 1);
          homes_are = r.homes_are;
          few = r.few;
          long = r.long;
          knows = record {
            tickets_once = once_grown (λ t. total (tickets_of t) s.views) (λ t. total (tickets_of t) (set s.views id w)) r.served r.taken k.tickets_once (omega (arith, k.tickets_out)) (λ t. omega (arith, total_set (tickets_of t) s.views id v w at, of_v t));
            tickets_out = omega (arith, total_set tickets s.views id v w at, n_v, k.tickets_out);
            numbers_once = once_same (λ n. total (λ (u : V). times n u.numbers) s.views) (λ n. total (λ (u : V). times n u.numbers) (set s.views id w)) 0 passes k.numbers_once (λ n. total_same (λ (u : V). times n u.numbers) s.views id v w at refl);
            numbers_all = total_same (λ (u : V). length u.numbers) s.views id v w at refl ∙ k.numbers_all;
            places_once = once_same (λ n. total (times_at n) s.views) (λ n. total (times_at n) (set s.views id w)) (stood first) (length r.log) k.places_once (λ n. total_same (times_at n) s.views id v w at refl);
            turns_made = total_same (λ (u : V). u.turns) s.views id v w at refl ∙ k.turns_made;
            each = each_set r.served r.served r.log r.log s.views id w k.each (λ _ _ _ _ f. f)
                record { first_is = fit.first_is; seen_in = fit.seen_in; parts_in = fit.parts_in; mine_in = fit.mine_in; front_in = fit.front_in; turn_is = λ h. absurd (no_bool false h refl); idle = λ none. absurd (some_number none) };
          };
          slot = slot_set r.served r.log r.home s.views id v w at hv refl r.slot;
        },
        (r.taken, ap (λ ws. get_or ws 0 0) r.words_are, refl),
      )

  pub takes_ticket : (slots id : ℕ) (me : M) → me.0.stage ≡ Resting → me.0.numbers ≢ [] → Allows Rule slots id me 0 (λ n. (n + 1) % W) (queued me)
  takes_ticket slots id me a b = as_allows (λ a. a ≡ keeps) Rule slots id me 0 (λ n. (n + 1) % W) (queued me) (takes_ticket_as slots id me a b)

  unchanged : (s : St) → Rule s → (ws : List ℕ) (vs : List V) → ws ≡ s.words → vs ≡ s.views → Rule record { words = ws; homes = s.homes; views = vs }
  unchanged s r ws vs a b = subst (λ (x : List ℕ × List V). Rule record { words = x.0; homes = s.homes; views = x.1 }) (λ i. (sym a i, sym b i)) r

  -- the pass that has the value out is the one whose view says so
  holder : (s : St) (r : Rule s) (id : ℕ) (v : V) → get_elem? s.views id ≡ some v → is_held v.stage ≡ true → (o : Out r.served r.log r.home s.views) × (o.seat ≡ id) × (o.view ≡ v)
  holder s r id v at held = ⊎_elim (λ h. absurd (no_bool (is_held v.stage) held (h.nobody id v at)))
      (λ o. let k = r.knows in let mine = (k.each id v at).turn_is held in let its = (k.each o.seat o.view o.seat_is).turn_is o.held in
      let e : o.seat ≡ id = alone r.taken r.served r.log s.views k id o.seat v o.view at o.seat_is (queued_held v.stage held) (queued_held o.view.stage o.held) (mine ∙ sym its) in
      (o, e, some-injective o.view v (sym o.seat_is ∙ (ap (get_elem? s.views) e ∙ at))))
      r.slot

  -- one pass at most has its turn
  pub one_holder : (s : St) → Rule s → (i j : ℕ) (v w : V) → get_elem? s.views i ≡ some v → get_elem? s.views j ≡ some w → is_held v.stage ≡ true → is_held w.stage ≡ true → i ≡ j
  one_holder s r i j v w at bt hv hw = let k = r.knows in
      alone r.taken r.served r.log s.views k j i w v bt at (queued_held w.stage hw) (queued_held v.stage hv) ((k.each j w bt).turn_is hw ∙ sym ((k.each i v at).turn_is hv))

  ticket_le : (u : V) → (u.numbers ≡ [] → is_queued u.stage ≡ false) → tickets u ≤ length u.numbers
  ticket_le u h = ⊎_elim (λ none. omega (arith, ap {B = ℕ} (λ b. cond b 1 0) (h none))) (λ some_number. omega (arith, cond_le (is_queued u.stage))) (empty_or u.numbers)

  -- the ticket of a waiting pass is served if its remainder is the word of turns
  served_is : (s : St) (r : Rule s) (id : ℕ) (v : V) → get_elem? s.views id ≡ some v → is_queued v.stage ≡ true → get_or s.words 1 0 ≡ v.ticket % W → v.ticket ≡ r.served
  served_is s r id v at qv hit = let k = r.knows in
      let one_of : tickets_of v.ticket v ≡ 1 = ap (λ b. cond b (one v.ticket v.ticket) 0) qv ∙ one_same v.ticket v.ticket refl in
      let within = once_inside (λ t. total (tickets_of t) s.views) (λ t. total (tickets_of t) s.views) r.served r.taken k.tickets_once v.ticket (omega (arith, term_le (tickets_of v.ticket) s.views id v at, one_of)) in
      let out = total_le tickets (λ (u : V). length u.numbers) s.views (λ j u is. ticket_le u (λ none. ap is_queued ((k.each j u is).idle none).0)) in
      let near : v.ticket < r.served + W = omega (arith, within.1, out, k.tickets_out, k.numbers_all, r.few) in
      sym (one_turn r.served v.ticket W within.0 near (sym (ap (λ ws. get_or ws 1 0) r.words_are) ∙ hit))

  gets : (s : St) (r : Rule s) (slots id : ℕ) (me : M) → get_elem? s.views id ≡ some me.0 → me.0.stage ≡ Waiting → get_or s.words 1 0 ≡ me.0.ticket % W → Home r.served r.log r.home s.views
      → (w : V) × (a : Act (Option T)) × IsLook a × Rattle.atomic_table.specs.Table.Valid s.homes me.1 a × Rule (stepped s 1 (get_or s.words 1 0) id me.1 w a) × looked entries stood front empty_turns follows me (get_or s.words 1 0) (w, Rattle.atomic_table.specs.Table.carried_after me.1 a)
  gets s r slots id me at st hit h =
      let v : V = me.0 in let x : T = h.value in let k = r.knows in let fit = k.each id v at in
      let qv : is_queued v.stage ≡ true = ap is_queued st in
      let w : V = in_turn v (entries x) (empty_turns x) (fr (entries x)) in
      let fw : fr (entries x) ≡ fr r.log = ap fr h.entries_are in
      let mine = served_is s r id v at qv hit in (
        w,
        takes 0 (Some x),
        inr (x, refl),
        ap (λ hs. get_elem? hs 0) r.homes_are ∙ ap some h.home_is,
        record {
          taken = r.taken;
          served = r.served;
          log = r.log;
          home = none;
          words_are = set-get_or s.words 1 0 ∙ r.words_are;
          homes_are = ap (λ hs. set hs 0 none) r.homes_are;
          few = r.few;
          long = r.long;
          knows = record {
            tickets_once = once_same (λ t. total (tickets_of t) s.views) (λ t. total (tickets_of t) (set s.views id w)) r.served r.taken k.tickets_once (λ t. total_same (tickets_of t) s.views id v w at (sym (ap (λ b. cond b (one t v.ticket) 0) qv)));
            tickets_out = ap (λ n. n + r.served) (total_same tickets s.views id v w at (sym (ap (λ b. cond b 1 0) qv))) ∙ k.tickets_out;
            numbers_once = once_same (λ n. total (λ (u : V). times n u.numbers) s.views) (λ n. total (λ (u : V). times n u.numbers) (set s.views id w)) 0 passes k.numbers_once (λ n. total_same (λ (u : V). times n u.numbers) s.views id v w at refl);
            numbers_all = total_same (λ (u : V). length u.numbers) s.views id v w at refl ∙ k.numbers_all;
            places_once = once_same (λ n. total (times_at n) s.views) (λ n. total (times_at n) (set s.views id w)) (stood first) (length r.log) k.places_once (λ n. total_same (times_at n) s.views id v w at refl);
            turns_made = total_same (λ (u : V). u.turns) s.views id v w at refl ∙ k.turns_made;
            each = each_set r.served r.served r.log r.log s.views id w k.each (λ _ _ _ _ f. f)
                record {
                  first_is = fit.first_is;
                  seen_in = subst (λ l. IsBeginning l r.log) (sym h.entries_are) (begins_itself r.log);
                  parts_in = fit.parts_in;
                  mine_in = fit.mine_in;
                  front_in = omega (arith, fw);
                  turn_is = λ _. mine;
                  idle = λ no. absurd (no_bool (is_queued v.stage) qv (ap is_queued (fit.idle no).0));
                };
          };
          slot = inr record {
            seat = id;
            view = w;
            seat_is = set_here s.views id w (at_within s.views id v at);
            held = refl;
            home_is = refl;
            seen_is = h.entries_are;
            front_is = fw;
            turns_are = h.turns_are ∙ ap (λ (z : ℕ). z % W) (let e : r.served ≡ r.served + 0 = omega arith in e);
          };
        },
        (
          (λ _. (
            x,
            fr (entries x),
            refl,
            record {
              seen_in = subst (IsBeginning v.seen) (sym h.entries_are) fit.seen_in;
              mine_in = subst (λ l. StandIn l v.mine) (sym h.entries_are) fit.mine_in;
              stood_is = λ f e. h.stood_is ∙ ap stood (sym (fit.first_is f e));
              follows_is = λ f e. subst (λ (y : T). follows y x) (sym (fit.first_is f e)) h.follows_is;
              front_is = λ f e. ap (λ y. greatest front (drop (stood y) (entries x))) (sym (fit.first_is f e));
              front_up = omega (arith, fw, fit.front_in);
            },
          )),
          λ miss. absurd (miss hit),
        ),
      )

  -- steps 2 and 3
  pub looks_as : (slots id : ℕ) (me : M) → me.0.stage ≡ Waiting → AllowsAs IsLook Rule slots id me 1 (λ n. n) (looked entries stood front empty_turns follows me)
  looks_as slots id me st s r wide at small = let v : V = me.0 in
      dite (ℕ_discrete (get_or s.words 1 0) (v.ticket % W))
      (λ hit. ⊎_elim (gets s r slots id me at st hit)
      (λ o. let k = r.knows in let mine = served_is s r id v at (ap is_queued st) hit in let its = (k.each o.seat o.view o.seat_is).turn_is o.held in
      let e : o.seat ≡ id = alone r.taken r.served r.log s.views k id o.seat v o.view at o.seat_is (ap is_queued st) (queued_held o.view.stage o.held) (mine ∙ sym its) in
      let same : o.view ≡ v = some-injective o.view v (sym o.seat_is ∙ (ap (get_elem? s.views) e ∙ at)) in
      absurd (no_bool (is_held v.stage) (ap (λ (u : V). is_held u.stage) (sym same) ∙ o.held) (ap is_held st)))
      r.slot)
      (λ miss. (v, keeps, inl refl, tt, unchanged s r (set s.words 1 (get_or s.words 1 0)) (set s.views id v) (set-get_or s.words 1 0) (set_again s.views id v at), ((λ hit. absurd (miss hit)), λ _. refl)))

  pub looks : (slots id : ℕ) (me : M) → me.0.stage ≡ Waiting → Allows Rule slots id me 1 (λ n. n) (looked entries stood front empty_turns follows me)
  looks slots id me a = as_allows IsLook Rule slots id me 1 (λ n. n) (looked entries stood front empty_turns follows me) (looks_as slots id me a)

  grown : (log log' more : List E) (e : log' ≡ log ++ more) → fr log ≤ fr log' → (served : ℕ) (u : V) → Fit served log u → Fit served log' u
  grown log log' more e up served u f = record {
    first_is = f.first_is;
    seen_in = subst (IsBeginning u.seen) (sym e) (begins_more u.seen log more f.seen_in);
    parts_in = begin_more log more log' e u.parts f.parts_in;
    mine_in = subst (λ l. StandIn l u.mine) (sym e) (stand_more log more u.mine f.mine_in);
    front_in = omega (arith, f.front_in);
    turn_is = f.turn_is;
    idle = f.idle;
  }

  -- what is put back: the history log' is the one that was taken and `more`
  raises_with : (s : St) (r : Rule s) (id : ℕ) (me : M) (log' more : List E) (empty' k : ℕ) → get_elem? s.views id ≡ some me.0 → me.0.stage ≡ Turn → me.0.first ≡ Some first → log' ≡ r.log ++ more
      → max (fr r.log) k ≡ fr log' → added me.0.seen log' ≡ added r.log log' → StandIn log' (added r.log log')
      → EachOnce (λ n. total (times_at n) s.views + times n (places (added r.log log'))) (stood first) (length log')
      → HasTurns entries stood front empty_turns follows first passes log' empty' (r.served + 1)
      → (w : V) × (a : Act (Option T)) × (a ≡ keeps) × Rattle.atomic_table.specs.Table.Valid s.homes me.1 a × Rule (stepped s 2 (max (get_or s.words 2 0) k) id me.1 w a) × raised stood front log' empty' me (w, Rattle.atomic_table.specs.Table.carried_after me.1 a)
  raises_with s r id me log' more empty' k at st first_is is top fresh stand once turns =
      let v : V = me.0 in let sh = r.knows in let fit = sh.each id v at in
      let held : is_held v.stage ≡ true = ap is_held st in let qv : is_queued v.stage ≡ true = ap is_queued st in
      let out = holder s r id v at held in
      let w : V = raising v log' empty' (fr log') in
      let up : fr r.log ≤ fr log' = omega (arith, top) in
      let new = added r.log log' in
      let mine : w.mine ≡ v.mine ++ new = ap (λ l. v.mine ++ l) fresh in (
        w,
        keeps,
        refl,
        tt,
        record {
          taken = r.taken;
          served = r.served;
          log = log';
          home = r.home;
          words_are = ap (λ ws. set ws 2 (max (get_or ws 2 0) k)) r.words_are ∙ ap (λ (z : ℕ). r.taken % W ∷ r.served % W ∷ z ∷ []) top;
          homes_are = r.homes_are;
          few = r.few;
          long = (let n = r.long in let b = begins_length r.log log' (more, is) in omega arith);
          knows = record {
            tickets_once = once_same (λ t. total (tickets_of t) s.views) (λ t. total (tickets_of t) (set s.views id w)) r.served r.taken sh.tickets_once (λ t. total_same (tickets_of t) s.views id v w at (sym (ap (λ b. cond b (one t v.ticket) 0) qv)));
            tickets_out = ap (λ n. n + r.served) (total_same tickets s.views id v w at (sym (ap {B = ℕ} (λ b. cond b 1 0) qv))) ∙ sh.tickets_out;
            numbers_once = once_same (λ n. total (λ (u : V). times n u.numbers) s.views) (λ n. total (λ (u : V). times n u.numbers) (set s.views id w)) 0 passes sh.numbers_once (λ n. total_same (λ (u : V). times n u.numbers) s.views id v w at refl);
            numbers_all = total_same (λ (u : V). length u.numbers) s.views id v w at refl ∙ sh.numbers_all;
            places_once = once_same (λ n. total (times_at n) s.views + times n (places new)) (λ n. total (times_at n) (set s.views id w)) (stood first) (length log') once
                (λ n. omega (arith, total_set (times_at n) s.views id v w at, ap (λ l. times n (places l)) mine, places_append n v.mine new));
            turns_made = total_same (λ (u : V). u.turns) s.views id v w at refl ∙ sh.turns_made;
            each = each_set r.served r.served r.log log' s.views id w sh.each (λ j u _ _ f. grown r.log log' more is up r.served u f)
                record {
                  first_is = fit.first_is;
                  seen_in = begins_itself log';
                  parts_in = begin_more r.log more log' is v.parts fit.parts_in;
                  mine_in = subst (StandIn log') (sym mine) (stand_append log' v.mine new (subst (λ l. StandIn l v.mine) (sym is) (stand_more r.log more v.mine fit.mine_in)) stand);
                  front_in = omega arith;
                  turn_is = λ _. fit.turn_is held;
                  idle = λ no. absurd (no_bool (is_queued v.stage) qv (ap is_queued (fit.idle no).0));
                };
          };
          slot = inr record {
            seat = id;
            view = w;
            seat_is = set_here s.views id w (at_within s.views id v at);
            held = refl;
            home_is = out.0.home_is;
            seen_is = refl;
            front_is = refl;
            turns_are = turns;
          };
        },
        (fr log', refl, (λ f e. ap (λ (y : T). greatest front (drop (stood y) log')) (sym (fit.first_is f e))), omega (arith, up, fit.front_in)),
      )

  -- step 4
  pub raises_as : (slots id : ℕ) (me : M) (log' : List E) (empty' k : ℕ) → me.0.stage ≡ Turn → me.0.first ≡ Some first → IsOneTurn front me.0.seen me.0.empty log' empty' k
      → AllowsAs (λ a. a ≡ keeps) Rule slots id me 2 (λ n. max n k) (λ _. raised stood front log' empty' me)
  raises_as slots id me log' empty' k st first_is turn s r wide at small =
      let v : V = me.0 in let out = holder s r id v at (ap is_held st) in
      let seen : v.seen ≡ r.log = ap (λ (u : V). u.seen) (sym out.2) ∙ out.0.seen_is in
      let turns : HasTurns entries stood front empty_turns follows first passes r.log v.empty (r.served + 0) = subst (λ (u : V). HasTurns entries stood front empty_turns follows first passes r.log u.empty (r.served + ahead u.stage)) out.2 out.0.turns_are ∙ ap (λ (z : Stage). (r.served + ahead z) % W) st in
      let old : (length r.log - stood first + v.empty) % W ≡ r.served % W = turns ∙ ap (λ (z : ℕ). z % W) (let e : r.served + 0 ≡ r.served = omega arith in e) in
      let long : stood first ≤ length r.log = r.long in
      ⊎_elim
      (λ t. let e : E = t.0 in let is : log' ≡ r.log ++ e ∷ [] = t.1 ∙ ap (λ l. l ++ e ∷ []) seen in
      let one_more : length log' ≡ length r.log + 1 = ap length is ∙ length-append r.log (e ∷ []) in
      let new : added r.log log' ≡ (length r.log, e) ∷ [] = ap (added r.log) is ∙ added_one r.log e in
      raises_with s r id me log' (e ∷ []) empty' k at st first_is is
      (sym (ap fr is ∙ (greatest_since front (stood first) r.log e long ∙ ap (max (fr r.log)) (sym t.3))))
      (ap (λ l. added l log') seen)
      (subst (StandIn log') (sym new) (subst (λ l. slice_get l (length r.log) ≡ Some e) (sym is) (get_last r.log e), tt))
      (subst (EachOnce (λ n. total (times_at n) s.views + times n (places (added r.log log'))) (stood first)) (sym one_more)
      (once_grown (λ n. total (times_at n) s.views) (λ n. total (times_at n) s.views + times n (places (added r.log log'))) (stood first) (length r.log) r.knows.places_once long
      (λ n. omega (arith, ap (λ (l : List (ℕ × E)). times n (places l)) new))))
      (ap (λ (z : ℕ). z % W) (let a : length log' - stood first + empty' ≡ length r.log - stood first + v.empty + 1 = omega (arith, one_more, t.2) in a) ∙ next_mod (length r.log - stood first + v.empty) r.served old))
      (λ t. let is : log' ≡ r.log = t.0 ∙ seen in
      let none_new : added r.log log' ≡ [] = ap (added r.log) is ∙ added_none r.log in
      raises_with s r id me log' [] empty' k at st first_is (is ∙ sym (append-nil r.log))
      (sym (ap fr is ∙ (let z : fr r.log ≡ max (fr r.log) k = omega (arith, t.2) in z)))
      (ap (λ l. added l log') seen)
      (subst (StandIn log') (sym none_new) tt)
      (once_same (λ n. total (times_at n) s.views) (λ n. total (times_at n) s.views + times n (places (added r.log log'))) (stood first) (length log') (subst (λ (z : ℕ). EachOnce (λ n. total (times_at n) s.views) (stood first) z) (ap length (sym is)) r.knows.places_once)
      (λ n. omega (arith, ap (λ (l : List (ℕ × E)). times n (places l)) none_new)))
      (ap (λ (z : ℕ). (length log' - stood first + z) % W) t.1 ∙ (add-mod-mod (length log' - stood first) (v.empty + 1) W ∙ (ap (λ (z : ℕ). z % W) (let a : length log' - stood first + (v.empty + 1) ≡ length r.log - stood first + v.empty + 1 = omega (arith, ap length is) in a) ∙ next_mod (length r.log - stood first + v.empty) r.served old))))
      turn

  pub raises : (slots id : ℕ) (me : M) (log' : List E) (empty' k : ℕ) → me.0.stage ≡ Turn → me.0.first ≡ Some first → IsOneTurn front me.0.seen me.0.empty log' empty' k
      → Allows Rule slots id me 2 (λ n. max n k) (λ _. raised stood front log' empty' me)
  raises slots id me log' empty' k a b c = as_allows (λ a. a ≡ keeps) Rule slots id me 2 (λ n. max n k) (λ _. raised stood front log' empty' me) (raises_as slots id me log' empty' k a b c)

  -- steps 5 and 6
  pub passes_on_as : (slots id : ℕ) (me : M) (value : T) → me.0.stage ≡ Raised → me.1 ≡ (0, Some value) ∷ [] → GoesBack entries stood empty_turns follows first me.0 value
      → AllowsAs (λ a. a ≡ gives) Rule slots id me 1 (λ n. (n + 1) % W) (λ _. passed me)
  passes_on_as slots id me value st slot back s r wide at small =
      let v : V = me.0 in let w : V = resting v in let sh = r.knows in let fit = sh.each id v at in
      let held : is_held v.stage ≡ true = ap is_held st in let qv : is_queued v.stage ≡ true = ap is_queued st in
      let out = holder s r id v at held in let o = out.0 in
      let seen : v.seen ≡ r.log = ap (λ (u : V). u.seen) (sym out.2) ∙ o.seen_is in
      let turns : HasTurns entries stood front empty_turns follows first passes r.log v.empty (r.served + 1) = subst (λ (u : V). HasTurns entries stood front empty_turns follows first passes r.log u.empty (r.served + ahead u.stage)) out.2 o.turns_are ∙ ap (λ (z : Stage). (r.served + ahead z) % W) st in
      let mine : v.ticket ≡ r.served = fit.turn_is held in
      let of_v : (t : ℕ) → tickets_of t v ≡ one t r.served = λ t. ap (λ b. cond b (one t v.ticket) 0) qv ∙ ap (one t) mine in
      let n_v : tickets v ≡ 1 = ap (λ b. cond b 1 0) qv in
      let nobody : (j : ℕ) (u : V) → j ≢ id → get_elem? s.views j ≡ some u → is_held u.stage ≡ false = λ j u n is. not_true (is_held u.stage) (λ h.
      n (alone r.taken r.served r.log s.views sh id j v u at is qv (queued_held u.stage h) (mine ∙ sym ((sh.each j u is).turn_is h)))) in (
        w,
        gives,
        refl,
        tt,
        record {
          taken = r.taken;
          served = r.served + 1;
          log = r.log;
          home = some (Some value);
          words_are = ap (λ ws. set ws 1 ((get_or ws 1 0 + 1) % W)) r.words_are ∙ ap (λ (z : ℕ). r.taken % W ∷ z ∷ fr r.log ∷ []) (mod-add-mod r.served W 1);
          homes_are = ap₂ (λ hs c. put_back hs c) r.homes_are slot;
          few = r.few;
          long = r.long;
          knows = record {
            tickets_once = once_passed (λ t. total (tickets_of t) s.views) (λ t. total (tickets_of t) (set s.views id w)) r.served r.taken sh.tickets_once (λ t. omega (arith, total_set (tickets_of t) s.views id v w at, of_v t));
            tickets_out = omega (arith, total_set tickets s.views id v w at, n_v, sh.tickets_out);
            numbers_once = once_same (λ n. total (λ (u : V). times n u.numbers) s.views) (λ n. total (λ (u : V). times n u.numbers) (set s.views id w)) 0 passes sh.numbers_once (λ n. total_same (λ (u : V). times n u.numbers) s.views id v w at refl);
            numbers_all = total_same (λ (u : V). length u.numbers) s.views id v w at refl ∙ sh.numbers_all;
            places_once = once_same (λ n. total (times_at n) s.views) (λ n. total (times_at n) (set s.views id w)) (stood first) (length r.log) sh.places_once (λ n. total_same (times_at n) s.views id v w at refl);
            turns_made = omega (arith, total_set (λ (u : V). u.turns) s.views id v w at, sh.turns_made);
            each = each_set r.served (r.served + 1) r.log r.log s.views id w sh.each
                (λ j u n is f. record { first_is = f.first_is; seen_in = f.seen_in; parts_in = f.parts_in; mine_in = f.mine_in; front_in = f.front_in; turn_is = λ h. absurd (no_bool (is_held u.stage) h (nobody j u n is)); idle = f.idle })
                record { first_is = fit.first_is; seen_in = fit.seen_in; parts_in = fit.parts_in; mine_in = fit.mine_in; front_in = fit.front_in; turn_is = λ h. absurd (no_bool false h refl); idle = λ no. absurd (no_bool (is_queued v.stage) qv (ap is_queued (fit.idle no).0)) };
          };
          slot = inl record {
            value = value;
            home_is = refl;
            entries_are = back.entries_are ∙ seen;
            stood_is = back.stood_is;
            follows_is = back.follows_is;
            turns_are = ap (λ (z : ℕ). (length r.log - stood first + z) % W) back.empty_is ∙ turns;
            nobody = λ j u is. ⊎_elim (λ t. ap (λ (x : V). is_held x.stage) (sym t.1)) (λ t. nobody j u t.0 t.1) (at_set s.views id j w u is);
          };
        },
        refl,
      )

  pub passes_on : (slots id : ℕ) (me : M) (value : T) → me.0.stage ≡ Raised → me.1 ≡ (0, Some value) ∷ [] → GoesBack entries stood empty_turns follows first me.0 value
      → Allows Rule slots id me 1 (λ n. (n + 1) % W) (λ _. passed me)
  passes_on slots id me value a b c = as_allows (λ a. a ≡ gives) Rule slots id me 1 (λ n. (n + 1) % W) (λ _. passed me) (passes_on_as slots id me value a b c)

  -- step 7
  pub reads_front_as : (slots id : ℕ) (me : M) → AllowsAs (λ a. a ≡ keeps) Rule slots id me 2 (λ n. n) (read me)
  reads_front_as slots id me s r wide at small =
      let v : V = me.0 in let n : ℕ = get_or s.words 2 0 in let w : V = record v { front = n } in let sh = r.knows in let fit = sh.each id v at in
      let is : n ≡ fr r.log = ap (λ ws. get_or ws 2 0) r.words_are in (
        w,
        keeps,
        refl,
        tt,
        record {
          taken = r.taken;
          served = r.served;
          log = r.log;
          home = r.home;
          words_are = set-get_or s.words 2 0 ∙ r.words_are;
          homes_are = r.homes_are;
          few = r.few;
          long = r.long;
          knows = record {
            tickets_once = once_same (λ t. total (tickets_of t) s.views) (λ t. total (tickets_of t) (set s.views id w)) r.served r.taken sh.tickets_once (λ t. total_same (tickets_of t) s.views id v w at refl);
            tickets_out = ap (λ z. z + r.served) (total_same tickets s.views id v w at refl) ∙ sh.tickets_out;
            numbers_once = once_same (λ n. total (λ (u : V). times n u.numbers) s.views) (λ n. total (λ (u : V). times n u.numbers) (set s.views id w)) 0 passes sh.numbers_once (λ n. total_same (λ (u : V). times n u.numbers) s.views id v w at refl);
            numbers_all = total_same (λ (u : V). length u.numbers) s.views id v w at refl ∙ sh.numbers_all;
            places_once = once_same (λ n. total (times_at n) s.views) (λ n. total (times_at n) (set s.views id w)) (stood first) (length r.log) sh.places_once (λ n. total_same (times_at n) s.views id v w at refl);
            turns_made = total_same (λ (u : V). u.turns) s.views id v w at refl ∙ sh.turns_made;
            each = each_set r.served r.served r.log r.log s.views id w sh.each (λ _ _ _ _ f. f)
                record { first_is = fit.first_is; seen_in = fit.seen_in; parts_in = fit.parts_in; mine_in = fit.mine_in; front_in = omega (arith, is); turn_is = fit.turn_is; idle = fit.idle };
          };
          slot = ⊎_elim
              (λ h. inl record {
                value = h.value;
                home_is = h.home_is;
                entries_are = h.entries_are;
                stood_is = h.stood_is;
                follows_is = h.follows_is;
                turns_are = h.turns_are;
                nobody = λ j u at_j. ⊎_elim (λ t. ap (λ (x : V). is_held x.stage) (sym t.1) ∙ h.nobody id v at) (λ t. h.nobody j u t.1) (at_set s.views id j w u at_j);
              })
              (λ o. dite (ℕ_discrete o.seat id)
              (λ e. let same : o.view ≡ v = some-injective o.view v (sym o.seat_is ∙ (ap (get_elem? s.views) e ∙ at)) in inr record {
                seat = id;
                view = w;
                seat_is = set_here s.views id w (at_within s.views id v at);
                held = ap (λ (u : V). is_held u.stage) (sym same) ∙ o.held;
                home_is = o.home_is;
                seen_is = ap (λ (u : V). u.seen) (sym same) ∙ o.seen_is;
                front_is = is;
                turns_are = subst (λ (u : V). HasTurns entries stood front empty_turns follows first passes r.log u.empty (r.served + ahead u.stage)) same o.turns_are;
              })
              (λ n. inr record { seat = o.seat; view = o.view; seat_is = set_else s.views id o.seat w n ∙ o.seat_is; held = o.held; home_is = o.home_is; seen_is = o.seen_is; front_is = o.front_is; turns_are = o.turns_are }))
              r.slot;
        },
        (refl, omega (arith, is, fit.front_in)),
      )

  pub reads_front : (slots id : ℕ) (me : M) → Allows Rule slots id me 2 (λ n. n) (read me)
  reads_front slots id me = as_allows (λ a. a ≡ keeps) Rule slots id me 2 (λ n. n) (read me) (reads_front_as slots id me)

  slot_more : (served : ℕ) (log : List E) (home : maybe.Option (Option T)) (views : List V) (w : V) → is_held w.stage ≡ false
      → Home served log home views ⊎ Out served log home views → Home served log home (views ++ w ∷ []) ⊎ Out served log home (views ++ w ∷ [])
  slot_more served log home views w hw (inl h) = inl record {
    value = h.value;
    home_is = h.home_is;
    entries_are = h.entries_are;
    stood_is = h.stood_is;
    follows_is = h.follows_is;
    turns_are = h.turns_are;
    nobody = λ j u is. ⊎_elim (λ t. h.nobody j u t) (λ t. ap (λ (x : V). is_held x.stage) (sym t) ∙ hw) (at_snoc views w u j is);
  }
  slot_more served log home views w hw (inr o) = inr record { seat = o.seat; view = o.view; seat_is = at_longer views (w ∷ []) o.seat o.view o.seat_is; held = o.held; home_is = o.home_is; seen_is = o.seen_is; front_is = o.front_is; turns_are = o.turns_are }

  first_and_rest : (n : ℕ) (l : List ℕ) → times n (drop 1 l) + times n (take 1 l) ≡ times n l
  first_and_rest n [] = refl
  first_and_rest n (x ∷ xs) = omega arith

  first_and_rest_length : (l : List ℕ) → length (drop 1 l) + length (take 1 l) ≡ length l
  first_and_rest_length [] = refl
  first_and_rest_length (x ∷ xs) = omega arith

  -- step 8, a pass that is made
  pub splits : (id : ℕ) (v : V) → v.stage ≡ Resting → v.mine ≡ [] → v.turns ≡ 0 → Splits Rule id v (left_to_deal v) (dealt v)
  splits id v st no_mine no_turns s r at =
      let l : V = left_to_deal v in let d : V = dealt v in let sh = r.knows in let fit = sh.each id v at in
      let vs : List V = set s.views id l in let all : List V = vs ++ d ∷ [] in
      let hv : is_held v.stage ≡ false = ap is_held st in
      let more : (f : V → ℕ) → f l + f d ≡ f v → total f all ≡ total f s.views = λ f e. omega (arith, total_append f vs (d ∷ []), total_set f s.views id v l at, e) in
      let of_d : (t : ℕ) → tickets_of t d ≡ 0 = λ t. ap (λ b. cond b (one t v.ticket) 0) (ap is_queued st) in
      let n_d : tickets d ≡ 0 = ap (λ b. cond b 1 0) (ap is_queued st) in
      let at_d : (n : ℕ) → times_at n d ≡ 0 = λ n. ap (λ (m : List (ℕ × E)). times n (places m)) no_mine in
      record {
        taken = r.taken;
        served = r.served;
        log = r.log;
        home = r.home;
        words_are = r.words_are;
        homes_are = r.homes_are;
        few = r.few;
        long = r.long;
        knows = record {
          tickets_once = once_same (λ t. total (tickets_of t) s.views) (λ t. total (tickets_of t) all) r.served r.taken sh.tickets_once (λ t. more (tickets_of t) (omega (arith, of_d t)));
          tickets_out = ap (λ z. z + r.served) (more tickets (omega (arith, n_d))) ∙ sh.tickets_out;
          numbers_once = once_same (λ n. total (λ (u : V). times n u.numbers) s.views) (λ n. total (λ (u : V). times n u.numbers) all) 0 passes sh.numbers_once (λ n. more (λ u. times n u.numbers) (first_and_rest n v.numbers));
          numbers_all = more (λ u. length u.numbers) (first_and_rest_length v.numbers) ∙ sh.numbers_all;
          places_once = once_same (λ n. total (times_at n) s.views) (λ n. total (times_at n) all) (stood first) (length r.log) sh.places_once (λ n. more (times_at n) (omega (arith, at_d n)));
          turns_made = more (λ u. u.turns) (omega (arith, no_turns)) ∙ sh.turns_made;
          each = λ j u is. ⊎_elim
              (λ t. each_set r.served r.served r.log r.log s.views id l sh.each (λ _ _ _ _ f. f)
              record { first_is = fit.first_is; seen_in = fit.seen_in; parts_in = fit.parts_in; mine_in = fit.mine_in; front_in = fit.front_in; turn_is = fit.turn_is; idle = λ _. (st, no_mine, no_turns) } j u t)
              (λ t. subst (Fit r.served r.log) t
              record { first_is = fit.first_is; seen_in = fit.seen_in; parts_in = fit.parts_in; mine_in = fit.mine_in; front_in = fit.front_in; turn_is = fit.turn_is; idle = λ _. (st, no_mine, no_turns) })
              (at_snoc vs d u j is);
        };
        slot = slot_more r.served r.log r.home vs d hv (slot_set r.served r.log r.home s.views id v l at hv hv r.slot);
      }

  -- step 8, two passes that become one
  pub joins : (id : ℕ) (v : V) (other : ℕ) (u : V) → v.stage ≡ Resting → u.stage ≡ Resting → Joins Rule id v other u (joined v u) spent
  joins id v other u sv su s r at apart at_other =
      let w : V = joined v u in let e : V = spent in let sh = r.knows in
      let at_u : get_elem? s.views other ≡ some u = sym (set_else s.views id other w apart) ∙ at_other in
      let fv = sh.each id v at in let fu = sh.each other u at_u in
      let vs : List V = set s.views id w in let all : List V = set vs other e in
      let hv : is_held v.stage ≡ false = ap is_held sv in let hu : is_held u.stage ≡ false = ap is_held su in
      let more : (f : V → ℕ) → f w ≡ f v + f u → f e ≡ 0 → total f all ≡ total f s.views = λ f a b. omega (arith, total_set f vs other u e at_other, total_set f s.views id v w at, a, b) in
      let of_v : (t : ℕ) → tickets_of t v ≡ 0 = λ t. ap (λ b. cond b (one t v.ticket) 0) (ap is_queued sv) in
      let of_u : (t : ℕ) → tickets_of t u ≡ 0 = λ t. ap (λ b. cond b (one t u.ticket) 0) (ap is_queued su) in
      let n_v : tickets v ≡ 0 = ap (λ b. cond b 1 0) (ap is_queued sv) in
      let n_u : tickets u ≡ 0 = ap (λ b. cond b 1 0) (ap is_queued su) in
      let fit_w : Fit r.served r.log w = record {
        first_is = fv.first_is;
        seen_in = begins_longer v.seen u.seen r.log fv.seen_in fu.seen_in;
        parts_in = (fv.seen_in, (fu.seen_in, begin_append r.log v.parts u.parts fv.parts_in fu.parts_in));
        mine_in = stand_append r.log v.mine u.mine fv.mine_in fu.mine_in;
        front_in = omega (arith, fv.front_in, fu.front_in);
        turn_is = fv.turn_is;
        idle = λ none. let n = no_append v.numbers u.numbers none in let a = fv.idle n.0 in let b = fu.idle n.1 in (sv, (λ i. a.1 i ++ b.1 i), omega (arith, a.2, b.2));
      } in
      record {
        taken = r.taken;
        served = r.served;
        log = r.log;
        home = r.home;
        words_are = r.words_are;
        homes_are = r.homes_are;
        few = r.few;
        long = r.long;
        knows = record {
          tickets_once = once_same (λ t. total (tickets_of t) s.views) (λ t. total (tickets_of t) all) r.served r.taken sh.tickets_once (λ t. more (tickets_of t) (omega (arith, of_v t, of_u t)) refl);
          tickets_out = ap (λ z. z + r.served) (more tickets (omega (arith, n_v, n_u)) refl) ∙ sh.tickets_out;
          numbers_once = once_same (λ n. total (λ (x : V). times n x.numbers) s.views) (λ n. total (λ (x : V). times n x.numbers) all) 0 passes sh.numbers_once (λ n. more (λ x. times n x.numbers) (times_append n v.numbers u.numbers) refl);
          numbers_all = more (λ x. length x.numbers) (length-append v.numbers u.numbers) refl ∙ sh.numbers_all;
          places_once = once_same (λ n. total (times_at n) s.views) (λ n. total (times_at n) all) (stood first) (length r.log) sh.places_once (λ n. more (times_at n) (places_append n v.mine u.mine) refl);
          turns_made = more (λ x. x.turns) refl refl ∙ sh.turns_made;
          each = λ j x is. ⊎_elim
              (λ t. subst (Fit r.served r.log) t.1 record {
                first_is = λ value no. absurd (none-some value no);
                seen_in = (r.log, refl);
                parts_in = tt;
                mine_in = tt;
                front_in = omega arith;
                turn_is = λ h. absurd (no_bool false h refl);
                idle = λ _. (refl, refl, refl);
              })
              (λ t. each_set r.served r.served r.log r.log s.views id w sh.each (λ _ _ _ _ f. f) fit_w j x t.1)
              (at_set vs other j e x is);
        };
        slot = slot_set r.served r.log r.home vs other u e at_other hu refl (slot_set r.served r.log r.home s.views id v w at hv hv r.slot);
      }

  only_view : (v : V) (j : ℕ) (u : V) → get_elem? (v ∷ []) j ≡ some u → u ≡ v
  only_view v zero u is = sym (some-injective v u is)
  only_view v (suc j) u is = absurd (some-ne-none u (sym is))

  nothing_since : (log : List E) → drop (length log) log ≡ []
  nothing_since [] = refl
  nothing_since (x ∷ xs) = nothing_since xs

  -- the table at the start
  pub opens : follows first first → stood first ≡ length (entries first) → empty_turns first ≡ 0 → passes < W → Rule (opening (0 ∷ 0 ∷ 0 ∷ []) (Some first ∷ []) (newcomer entries first passes))
  opens starts all none_empty few =
      let v : V = newcomer entries first passes in
      let one_view : (f : V → ℕ) → total f (v ∷ []) ≡ f v = λ f. omega arith in
      let since : drop (stood first) (entries first) ≡ [] = ap (λ n. drop n (entries first)) all ∙ nothing_since (entries first) in
      let fit : Fit 0 (entries first) v = record {
        first_is = λ value e. sym (ap (λ o. value_or o first) e);
        seen_in = begins_itself (entries first);
        parts_in = tt;
        mine_in = tt;
        front_in = omega arith;
        turn_is = λ h. absurd (no_bool false h refl);
        idle = λ _. (refl, refl, refl);
      } in
      record {
        taken = 0;
        served = 0;
        log = entries first;
        home = some (Some first);
        words_are = ap (λ (l : List E). 0 ∷ 0 ∷ greatest front l ∷ []) (sym since);
        homes_are = refl;
        few = few;
        long = omega (arith, all);
        knows = record {
          tickets_once = record { inside = λ x a b. absurd (omega arith); below = λ x a. refl; above = λ x a. refl };
          tickets_out = refl;
          numbers_once = once_same (λ x. times x (numbers_from 0 passes)) (λ n. total (λ (u : V). times n u.numbers) (v ∷ [])) 0 passes (subst (EachOnce (λ x. times x (numbers_from 0 passes)) 0) (let e : 0 + passes ≡ passes = omega arith in e) (once_numbers 0 passes)) (λ n. one_view (λ u. times n u.numbers));
          numbers_all = one_view (λ u. length u.numbers) ∙ length_numbers 0 passes;
          places_once = record { inside = λ x a b. absurd (omega (arith, all)); below = λ x a. refl; above = λ x a. refl };
          turns_made = refl;
          each = λ j u is. subst (Fit 0 (entries first)) (sym (only_view v j u is)) fit;
        };
        slot = inl record {
          value = first;
          home_is = refl;
          entries_are = refl;
          stood_is = refl;
          follows_is = starts;
          turns_are = ap (λ (z : ℕ). z % W) (let z : length (entries first) - stood first + empty_turns first ≡ 0 = omega (arith, all, none_empty) in z);
          nobody = λ j u is. ap (λ (x : V). is_held x.stage) (only_view v j u is);
        };
      }

  -- What is known of the value once the lock is closed with a pass that has the numbers of all others.
  pub record Ends (v : V) (value : T) : Type 0 where
    pub stood_is : stood value ≡ stood first
    pub follows_is : follows first value
    pub seen_in : IsBeginning v.seen (entries value)
    pub parts_in : AllByRecursion (λ seen. IsBeginning seen (entries value)) v.parts
    pub mine_in : StandIn (entries value) v.mine
    pub once : EachOnce (λ k. times k (places v.mine)) (stood first) (length (entries value))
    pub turns_are : (length (entries value) - stood first + empty_turns value) % W ≡ v.turns % W
    pub front_in : v.front ≤ fr (entries value)

  pub numbers_none : (s : St) (r : Rule s) (id : ℕ) (v : V) → get_elem? s.views id ≡ some v → ((n : ℕ) → n < passes → 0 < times n v.numbers) → (j : ℕ) (u : V) → j ≢ id → get_elem? s.views j ≡ some u → u.numbers ≡ []
  numbers_none s r id v at all j u apart is = no_number u.numbers (λ n has.
      let f : V → ℕ = λ x. times n x.numbers in let c : ℕ → ℕ = λ k. total (λ (x : V). times k x.numbers) s.views in let sh = r.knows in
      let in_all = once_inside c c 0 passes sh.numbers_once n (omega (arith, term_le f s.views j u is, has)) in
      absurd (omega (arith, terms_le f s.views id j v u apart at is, has, all n in_all.1, once_bound c c 0 passes sh.numbers_once n)))

  pub ends_at : (s : St) → Rule s → (id : ℕ) (v : V) → get_elem? s.views id ≡ some v → v.stage ≡ Resting → ((n : ℕ) → n < passes → 0 < times n v.numbers) → (value : T) × (get_elem? s.homes 0 ≡ some (some (Some value))) × Ends v value
  ends_at s r id v at st all =
      let sh = r.knows in let fit = sh.each id v at in
      let others : (j : ℕ) (u : V) → j ≢ id → get_elem? s.views j ≡ some u → (u.stage ≡ Resting) × (u.mine ≡ []) × (u.turns ≡ 0) = λ j u n is. (sh.each j u is).idle (numbers_none s r id v at all j u n is) in
      let alone_at : (k : ℕ) → total (times_at k) s.views ≡ times_at k v = λ k. total_alone (times_at k) s.views id v at (λ j u n is. ap (λ (m : List (ℕ × E)). times k (places m)) (others j u n is).1) in
      let turns_alone : total (λ (u : V). u.turns) s.views ≡ v.turns = total_alone (λ (u : V). u.turns) s.views id v at (λ j u n is. (others j u n is).2) in
      ⊎_elim
      (λ h. let es = h.entries_are in (
        h.value,
        ap (λ hs. get_elem? hs 0) r.homes_are ∙ ap some h.home_is,
        record {
          stood_is = h.stood_is;
          follows_is = h.follows_is;
          seen_in = subst (IsBeginning v.seen) (sym es) fit.seen_in;
          parts_in = subst (λ l. AllByRecursion (λ seen. IsBeginning seen l) v.parts) (sym es) fit.parts_in;
          mine_in = subst (λ l. StandIn l v.mine) (sym es) fit.mine_in;
          once = once_same (λ k. total (times_at k) s.views) (λ k. times k (places v.mine)) (stood first) (length (entries h.value)) (subst (λ l. EachOnce (λ k. total (times_at k) s.views) (stood first) (length l)) (sym es) sh.places_once) (λ k. sym (alone_at k));
          turns_are = subst (λ l. (length l - stood first + empty_turns h.value) % W ≡ r.served % W) (sym es) h.turns_are ∙ ap (λ (z : ℕ). z % W) (sym sh.turns_made ∙ turns_alone);
          front_in = subst (λ l. v.front ≤ fr l) (sym es) fit.front_in;
        },
      ))
      (λ o. absurd (dite (ℕ_discrete o.seat id)
      (λ e. no_bool (is_held o.view.stage) o.held (ap (λ (x : V). is_held x.stage) (some-injective o.view v (sym o.seat_is ∙ (ap (get_elem? s.views) e ∙ at))) ∙ ap is_held st))
      (λ n. no_bool (is_held o.view.stage) o.held (ap is_held (others o.seat o.view n o.seat_is).0))))
      r.slot

  pub ends : (ws : List ℕ) (xs : List (Option T)) (id : ℕ) (v : V) → v.stage ≡ Resting → ((n : ℕ) → n < passes → 0 < times n v.numbers) → Final (Seen Rule id v) ws xs → (value : T) × (get_elem? xs 0 ≡ some (Some value)) × Ends v value
  ends ws xs id v st all f = let e = ends_at f.0 f.1.0 id v f.1.1 st all in (e.0, f.4 0 (Some e.0) e.1, e.2)

  -- the first seat once the passes below k have their numbers
  abbrev pub dealing : ℕ → V
  dealing k = record (newcomer entries first passes) { numbers = numbers_from k (passes - k) }

  pub deals_next : (k : ℕ) → k < passes → left_to_deal (dealing k) ≡ dealing (k + 1)
  deals_next k h = ap (λ (l : List ℕ). record (newcomer entries first passes) { numbers = drop 1 l }) (next_number k (passes - k) (omega arith))
      ∙ ap (λ (n : ℕ). record (newcomer entries first passes) { numbers = numbers_from (k + 1) n }) (let e : passes - k - 1 ≡ passes - (k + 1) = omega arith in e)

  pub deals_number : (k : ℕ) → k < passes → (dealt (dealing k)).numbers ≡ k ∷ []
  deals_number k h = ap (take 1) (next_number k (passes - k) (omega arith))
