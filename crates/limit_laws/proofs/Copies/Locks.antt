-- Which exclusive locks an event adds: a write's, of an object that is not gray after its barrier.
use Rattle.std.proofs.Common.{◌≡◌, ◌≢◌, inl, inr, ℕ, ◌+◌, ◌≤◌, false, List, [], ◌∷◌, ◌++◌, Option, None, Some, refl, sym, ap, ◌∙◌, subst, arith, append_assoc}
use Rattle.std.specs.Prelude.{Contains}
use Rattle.std.specs.List.{AllByRecursion}
use Rattle.std.specs.Option.{option_map, option_to_list}
use Rattle.std.proofs.lemmas.Option.{same_Some}
use Rattle.std.specs.FinSet.{contains}
use Rattle.std.proofs.lemmas.List.Elements.{Contains-append_cases}
use Rattle.graph_model.specs.declared.event.Event.{Event}
use Rattle.graph_model.specs.declared.event.Event.TheVariants.{Put, Clear, Link, Get}
use Rattle.graph_model.specs.declared.id.Id.{Id}
use Rattle.graph_model.specs.History.{Account, account, session_of, with_call}
use Rattle.graph_model.specs.Locking.{Exclusive, Lock, Mode, Shared, in_mode, lock_of, lock_on, locks_of}
use Rattle.graph_model.specs.Plain.{view}
use Rattle.graph_model.specs.Graph.{fields}
use Rattle.graph_model.specs.Transaction.{IsCall, Registers, Transaction, View, fresh_view, held, run, serial}
use Rattle.graph_model.proofs.Runs.History.{run-append}
use Rattle.commit_order.proofs.CallLaws.{Contains-Some, Contains-option, fields-call}
use Rattle.commit_order.proofs.LockingLaws.{exclusive_or_not, locks_of_calls-append}
use Rattle.heap_spaces.specs.Collection.{Collection}
use Rattle.log_records.specs.declared.Record.{Record}
use Rattle.log_machine.specs.Machine.{State, after_all}
use Rattle.log_machine.proofs.ListLaws.{AllByRecursion-map}
use Rattle.log_machine.proofs.MachineLaws.{after_all-append2}
use Rattle.gated_log.specs.Log.{records_of}
use Rattle.graph_words.specs.Places.{address_of}
use Rattle.graph_words.proofs.Places.Addresses.{some_address}
use Rattle.collection_words.specs.LaidOut.{is_gray_field}
use Rattle.collection_words.specs.Placing.{moved_by_all}
use Rattle.collection_words.proofs.Laid.Within.{placed_within}
use Rattle.heap_model.specs.Core.{Core, all_records, barrier_records, call_barrier, event_records, ground, log_start, moved, need, own_records, placing, reserved, undo_behind, used}
use Rattle.heap_model.proofs.Step.Moved.{moved_is}
use Rattle.core_laws.proofs.Collecting.Behind.{agrees_roomy, behind, black_call, roomy}
use Rattle.core_laws.proofs.Collecting.Events.{barrier_kept}
use Rattle.core_laws.proofs.Step.Goes.{writing_of}
use Rattle.core_laws.specs.Valid.{Agrees, IsValid}
use Rattle.limit_laws.proofs.Copies.Followed.{new_left}
use Rattle.limit_laws.proofs.Copies.Steps.{BlackOrHeld, not_made}
use Rattle.limit_laws.proofs.Events.Kinds.{IsNoFlip, IsOfScan, barrier_of_scan, no_flip_scan}
use Rattle.limit_laws.proofs.Progress.Black.{black_after_all}

-- What is written is not gray.

-- after its barrier, in a larger log
scanned : (a : Account) (e : Core) (h : Agrees a e) (rs : List Record) → ((more : ℕ) → used e + need e.pending rs + reserved (undo_behind e (all_records e ++ rs)) a ≤ e.room + more → Agrees a (moved (roomy e more) rs))
    → (more : ℕ) × Agrees a (behind (roomy e more) rs)
scanned a e h rs kept =
    let more = used e + need e.pending rs + reserved (undo_behind e (all_records e ++ rs)) a in
    (more, subst (Agrees a) (moved_is (roomy e more) rs) (kept more (omega arith)))

-- what is not gray after the barrier is not gray after the event
black_behind : (a : Account) (e : Core) (h : Agrees a e) (n : State) (rs own : List Record) (more : ℕ) (b : Agrees a (behind (roomy e more) rs)) → after_all h.behind (rs ++ own) ≡ Some n → AllByRecursion IsNoFlip own
    → (z : Id) (at i : ℕ) → address_of (moved_by_all (placing e) rs).places z ≡ Some at → is_gray_field b.behind.collection at i ≡ false → (k : Collection) → n.collection ≡ Some k → contains k.gray at ≡ false
black_behind a e h n rs own more b follows plain z at i there black k run =
    let mid = sym (after_all-append2 (log_start e) h.behind (all_records e) rs h.told.reached) ∙ ap (after_all (log_start e)) (append_assoc (records_of e.batches) e.pending rs) ∙ b.told.reached in
    let rest = sym (after_all-append2 h.behind b.behind rs own mid) ∙ follows in
    let within = placed_within b.told.heap.laid z at there in
    let high = within.below in
    (black_after_all at b.behind n own plain rest (record { black = λ j is. sym (ap (λ o. is_gray_field o at i) is) ∙ black; below = omega arith })).black k run

held_in : (o : Option Id) (mode : Mode) (z : Id) → option_map (in_mode mode) o ≡ Some (z, Exclusive) → (o ≡ Some z) × (mode ≡ Exclusive)
held_in None mode z is = absurd (cc is)
held_in (Some x) mode z is =
    let same : in_mode mode x ≡ (z, Exclusive) = same_Some (in_mode mode x) (z, Exclusive) is in
    (ap (λ (l : Lock). Some l.0) same, ap (λ (l : Lock). l.1) same)

-- the object that a write locks
locked_held : (rs : Registers) (h : ℕ) (mode : Mode) (z : Id) → lock_on rs h mode ≡ Some (z, Exclusive) → (held rs h ≡ Some z) × (mode ≡ Exclusive)
locked_held rs h mode z is = held_in (held rs h) mode z is

-- What a call locks exclusively is not gray after it.
module _ (e : Core) (valid : IsValid e) (n : State) where
  abbrev pub a : Account
  a = account e.history

  newly_black : (event : Event) (s : ℕ) (t : Transaction) (hd i : ℕ) (z : Id) (at : ℕ) → a.active s ≡ Some t → barrier_records e event ≡ call_barrier (ground e) e.g0 a (a.active s) hd i → held (view e.g0 a t).registers hd ≡ Some z
      → after_all valid.behind (event_records e event) ≡ Some n → AllByRecursion IsNoFlip (own_records e event) → address_of (moved_by_all (placing e) (barrier_records e event)).places z ≡ Some at
      → (k : Collection) → n.collection ≡ Some k → contains k.gray at ≡ false
  newly_black event s t hd i z at active barrier holds follows plain there =
      let rs = call_barrier (ground e) e.g0 a (a.active s) hd i in
      let mid = scanned a e valid rs (λ more room. subst (λ (x : List Record). Agrees a (moved (roomy e more) x)) barrier (barrier_kept a (roomy e more) (agrees_roomy a e more valid) event (subst (λ (x : List Record). used e + need e.pending x + reserved (undo_behind e (all_records e ++ x)) a ≤ e.room + more) (sym barrier) room))) in
      let black = black_call a (roomy e mid.0) (agrees_roomy a e mid.0 valid) s t active hd i z holds mid.1 at (subst (λ (x : List Record). address_of (moved_by_all (placing e) x).places z ≡ Some at) barrier there) in
      black_behind a e valid n rs (own_records e event) mid.0 mid.1 (ap (λ (x : List Record). after_all valid.behind (x ++ own_records e event)) (sym barrier) ∙ follows) plain z at i
      (subst (λ (x : List Record). address_of (moved_by_all (placing e) x).places z ≡ Some at) barrier there) black

  call_black : (event : Event) (t : Transaction) (z : Id) (at : ℕ) → IsCall event → a.active (session_of event) ≡ Some t → lock_of (view e.g0 a t).registers event ≡ Some (z, Exclusive)
      → after_all valid.behind (event_records e event) ≡ Some n → AllByRecursion IsNoFlip (own_records e event) → address_of (moved_by_all (placing e) (barrier_records e event)).places z ≡ Some at
      → (k : Collection) → n.collection ≡ Some k → contains k.gray at ≡ false
  call_black (Put s h i v) t z at is active lock follows plain there = newly_black (Put s h i v) s t h i z at active refl (locked_held (view e.g0 a t).registers h Exclusive z lock).0 follows plain there
  call_black (Clear s h i) t z at is active lock follows plain there = newly_black (Clear s h i) s t h i z at active refl (locked_held (view e.g0 a t).registers h Exclusive z lock).0 follows plain there
  call_black (Link s h i h2) t z at is active lock follows plain there = newly_black (Link s h i h2) s t h i z at active refl (locked_held (view e.g0 a t).registers h Exclusive z lock).0 follows plain there
  call_black (Get s h i h2) t z at is active lock follows plain there = let never = (locked_held (view e.g0 a t).registers h Shared z lock).1 in absurd (cc never)
  call_black event t z at is active lock follows plain there = absurd (cc lock)

  -- after a call
  abbrev pub OfSession : ℕ → Option Transaction → Type 0
  OfSession r o = (t : Transaction) (z : Id) (at : ℕ) → o ≡ Some t → Contains (locks_of (serial e.g0 (account e.history).sealed) t) (z, Exclusive) → BlackOrHeld (account e.history) (serial e.g0 (account e.history).sealed) n t z at

  pub held_still : (r : ℕ) → OfSession r (a.active r)
  held_still r t z at active lock = inr (record { session = r; transaction = t; active = active; lock = lock; sees = refl })

  -- a call leaves what its transaction sees of an object of others that it does not lock
  still_seen : (event : Event) (t : Transaction) (z : Id) (at : ℕ) → a.active (session_of event) ≡ Some t → address_of (moved_by_all (placing e) (barrier_records e event)).places z ≡ Some at
      → (lock_of (view e.g0 a t).registers event ≡ Some (z, Exclusive) → ⊥)
      → fields (run (serial e.g0 (account e.history).sealed) t).graph z ≡ fields (run (serial e.g0 (account e.history).sealed) (record { number = t.number; calls = t.calls ++ event ∷ [] })).graph z
  still_seen event t z at active there free =
      let g = serial e.g0 (account e.history).sealed in
      let w = writing_of a e (session_of event) t active valid in
      let rs = barrier_records e event in
      let plain = AllByRecursion-map IsOfScan IsNoFlip rs no_flip_scan (barrier_of_scan e event) in
      let others : z.t ≢ t.number = elim (new_left (placing e) rs plain z at there) [
        | inl old ↦ not_made t e.places z at w.made.apart old
        | inr left ↦ let to = some_address (address_of e.remaining z) left in not_made t e.remaining z to.0 w.apart to.1
      ] in
      sym (ap (λ (v : View). fields v.graph z) (run-append g t event) ∙ fields-call (run g t) t.number event z others free)

  pub own_call : (event : Event) → IsCall event → after_all valid.behind (event_records e event) ≡ Some n → AllByRecursion IsNoFlip (own_records e event) → (o : Option Transaction) → a.active (session_of event) ≡ o
      → (t : Transaction) (z : Id) (at : ℕ) → with_call o event ≡ Some t → Contains (locks_of (serial e.g0 (account e.history).sealed) t) (z, Exclusive) → address_of (moved_by_all (placing e) (barrier_records e event)).places z ≡ Some at
      → BlackOrHeld (account e.history) (serial e.g0 (account e.history).sealed) n t z at
  own_call event is follows plain None active t z at now lock there = absurd (cc now)
  own_call event is follows plain (Some t0) active t z at now lock there =
      let g = serial e.g0 (account e.history).sealed in
      let later : Transaction = record { number = t0.number; calls = t0.calls ++ event ∷ [] } in
      let same : later ≡ t = same_Some later t now in
      let asks = option_to_list (lock_of (view e.g0 a t0).registers event) in
      let held_now = subst (λ (x : Transaction). Contains (locks_of g x) (z, Exclusive)) (sym same) lock in
      let parts = subst (λ (ls : List Lock). Contains ls (z, Exclusive)) (locks_of_calls-append (fresh_view g) t0.number t0.calls event) held_now in
      elim (exclusive_or_not asks z) [
        | inl new ↦ inl (call_black event t0 z at is active (Contains-option (lock_of (view e.g0 a t0).registers event) (z, Exclusive) new) follows plain there)
        | inr free ↦ elim (Contains-append_cases (locks_of g t0) asks (z, Exclusive) parts) [
          | inl old ↦ inr (record {
            session = session_of event;
            transaction = t0;
            active = active;
            lock = old;
            sees = still_seen event t0 z at active there (λ asked. free (Contains-Some (lock_of (view e.g0 a t0).registers event) (z, Exclusive) asked)) ∙ ap (λ (x : Transaction). fields (run g x).graph z) same;
          })
          | inr new ↦ absurd (free new)
        ]
      ]
