-- What an event but a seal leaves of a core while a collection is under way.
use Rattle.std.proofs.Common.{◌≡◌, ◌≢◌, ◌⊎◌, inl, inr, ℕ, Bool, true, false, List, [], ◌∷◌, Option, None, Some, is_some, refl, sym, ap, ◌∙◌, subst, arith}
use Rattle.std.specs.Prelude.{Contains, slice_get, unwrap_or, if◌then◌else◌, not, ◌==◌}
use Rattle.std.specs.List.{AllByRecursion}
use Rattle.std.specs.FinSet.{contains}
use Rattle.graph_model.specs.declared.event.Event.{Event}
use Rattle.graph_model.specs.declared.id.Id.{Id}
use Rattle.graph_model.specs.Graph.{Graph, fields}
use Rattle.graph_model.specs.History.{Account, session_of}
use Rattle.graph_model.specs.Kinds.{used_field}
use Rattle.graph_model.specs.Locking.{Exclusive, Lock, locks_of}
use Rattle.graph_model.specs.Plain.{view}
use Rattle.graph_model.specs.declared.val.Val.{Val}
use Rattle.graph_model.specs.declared.val.Val.TheVariants.{Ref}
use Rattle.graph_model.specs.Transaction.{Transaction, held, run, serial}
use Rattle.heap_spaces.specs.Collection.{Collection}
use Rattle.log_records.specs.declared.Record.{Record}
use Rattle.log_records.specs.declared.Record.TheVariants.{Update, Base, Fix, Undo, Commit, End, Copy, Scan, Flip, Collected}
use Rattle.log_machine.specs.Machine.{State, after_all, spaces_of}
use Rattle.graph_words.specs.Places.{Places, address_of, made_by}
use Rattle.collection_words.specs.Placing.{Placing, moved_by, moved_by_all}
use Rattle.collection_words.proofs.Laid.Within.{placed_within}
use Rattle.read_barrier.specs.Barrier.{barrier_page_of}
use Rattle.heap_model.specs.Collecting.{barrier_at, is_gray_in, page_records, page_records_of}
use Rattle.heap_model.specs.Core.{Core, all_words, barrier_for, call_barrier, field_barrier, ground, held_barrier, placing}
use Rattle.core_laws.proofs.Collecting.Entries.{all_at}
use Rattle.core_laws.proofs.Step.Goes.{writing_of}
use Rattle.core_laws.specs.Valid.{Agrees}
use Rattle.limit_laws.proofs.Copies.Disturbed.{kept_some, some_none}
use Rattle.limit_laws.proofs.Copies.Led.{HasLed, StaysLed, page_new}
use Rattle.limit_laws.proofs.Copies.References.{KeepsReferences, StaysReferring}
use Rattle.limit_laws.proofs.Events.Kinds.{IsNoFlip}
use Rattle.limit_laws.proofs.Progress.Black.{black_after_all}

-- an object that has a place where none of the transaction has one is another's
pub not_made : (t : Transaction) (ps : Places) (z : Id) (at : ℕ) → ((k : ℕ) → address_of ps (made_by t.number k) ≡ None) → address_of ps z ≡ Some at → z.t ≢ t.number
not_made t ps z at apart there same = let clash = sym (apart z.k) ∙ ap (λ (m : ℕ). address_of ps (made_by m z.k)) (sym same) ∙ there in cc clash

-- What stands in these places stood in the current space, or is kept and remained.
abbrev pub IsOldOrKept : (Id → Type 0) → Core → Places → Type 0
IsOldOrKept K e places = (id : Id) (at : ℕ) → address_of places id ≡ Some at → (address_of e.places id ≡ Some at) ⊎ (K id × (is_some (address_of e.remaining id) ≡ true))

-- An exclusive lock was held before, by a transaction that saw these fields of the object.
pub record WasHeld (a : Account) (g : Graph) (z : Id) (vs : List Val) : Type 0 where
  pub session : ℕ
  pub transaction : Transaction
  pub active : a.active session ≡ Some transaction
  pub lock : Contains (locks_of g transaction) (z, Exclusive)
  pub sees : fields (run g transaction).graph z ≡ vs

-- An object that a transaction has locked exclusively is not gray, or was locked before, and what it sees there is as it was.
abbrev pub BlackOrHeld : Account → Graph → State → Transaction → Id → ℕ → Type 0
BlackOrHeld a g n t z at = ((k : Collection) → n.collection ≡ Some k → contains k.gray at ≡ false) ⊎ WasHeld a g z (fields (run g t).graph z)

-- What an event that seals nothing leaves.
pub record IsNext (K : Id → Type 0) (a b : Account) (e f : Core) (s n : State) : Type 0 where
  pub graph : serial f.g0 b.sealed ≡ serial e.g0 a.sealed
  pub records : List Record
  pub follows : after_all s records ≡ Some n
  pub plain : AllByRecursion IsNoFlip records
  pub places : IsOldOrKept K e f.places
  pub fewer : (id : Id) → is_some (address_of f.remaining id) ≡ true → is_some (address_of e.remaining id) ≡ true
  pub locks : (r : ℕ) (t : Transaction) (z : Id) (at : ℕ) → b.active r ≡ Some t → Contains (locks_of (serial e.g0 a.sealed) t) (z, Exclusive) → address_of f.places z ≡ Some at → BlackOrHeld a (serial e.g0 a.sealed) n t z at

-- a flag is not both
pub true_false : {b : Bool} → b ≡ true → b ≡ false → ⊥
true_false on off = cc (on, off)

module _ (K : Id → Type 0) (g : Graph) (a b : Account) (e f : Core) (h : Agrees a e) (n : State) (next : IsNext K a b e f h.behind n) (has : HasLed K g a e h) where
  -- where an object stood that was not gray nothing is gray
  stays_black : (z : Id) (at : ℕ) → address_of e.places z ≡ Some at → ((k : Collection) → h.behind.collection ≡ Some k → contains k.gray at ≡ false) → (k : Collection) → n.collection ≡ Some k → contains k.gray at ≡ false
  stays_black z at there black k run =
      let within = placed_within h.told.heap.laid z at there in
      let high = within.below in
      (black_after_all at h.behind n next.records next.plain next.follows (record { black = black; below = omega arith })).black k run

  was_gray : (z : Id) (at : ℕ) → address_of e.places z ≡ Some at → (k : Collection) → n.collection ≡ Some k → contains k.gray at ≡ true → (j : Collection) × (h.behind.collection ≡ Some j) × (contains j.gray at ≡ true)
  was_gray z at there k run gray = by h.behind.collection refl
    where
      by : (o : Option Collection) → h.behind.collection ≡ o → (j : Collection) × (h.behind.collection ≡ Some j) × (contains j.gray at ≡ true)
      by None none = absurd (true_false gray (stays_black z at there (λ j is. absurd (cc (sym none ∙ is))) k run))
      by (Some j) is = each (contains j.gray at) refl
        where
          each : (t : Bool) → contains j.gray at ≡ t → (j : Collection) × (h.behind.collection ≡ Some j) × (contains j.gray at ≡ true)
          each true on = (j, is, on)
          each false off = absurd (true_false gray (stays_black z at there (λ i has. ap (λ (x : Option Collection). contains (unwrap_or x j).gray at) (sym has ∙ is) ∙ off) k run))

  same_fields : (z : Id) → fields (serial f.g0 b.sealed) z ≡ fields (serial e.g0 a.sealed) z
  same_fields z = ap (λ (x : Graph). fields x z) next.graph

  -- what a transaction holds did not remain
  held_stood : (z : Id) (vs : List Val) → WasHeld a (serial e.g0 a.sealed) z vs → is_some (address_of e.remaining z) ≡ true → ⊥
  held_stood z vs held left =
      let w = writing_of a e held.session held.transaction held.active h in
      some_none (all_at (λ (lock : Lock). address_of e.remaining lock.0 ≡ None) (locks_of (serial e.g0 a.sealed) held.transaction) (z, Exclusive) w.unlocked held.lock) left

  -- what a transaction sees of a gray object that it has locked it saw before
  seen_next : (k : Collection) → n.collection ≡ Some k → (r : ℕ) (t : Transaction) (z y : Id) (at i : ℕ) → b.active r ≡ Some t → Contains (locks_of (serial f.g0 b.sealed) t) (z, Exclusive) → address_of f.places z ≡ Some at
      → contains k.gray at ≡ true → slice_get (fields (run (serial f.g0 b.sealed) t).graph z) i ≡ Some (Ref y) → is_some (address_of f.remaining y) ≡ true → K y
  seen_next k run_is r t z y at i active lock there gray refers left =
      elim (next.locks r t z at active (subst (λ (x : Graph). Contains (locks_of x t) (z, Exclusive)) next.graph lock) there) [
        | inl black ↦ absurd (true_false gray (black k run_is))
        | inr held ↦ elim (next.places z at there) [
          | inl old ↦
              let was = was_gray z at old k run_is gray in
              let edge = ap (λ (vs : List Val). slice_get vs i) (held.sees ∙ ap (λ (x : Graph). fields (run x t).graph z) (sym next.graph)) ∙ refers in
              has.led.seen was.0 was.1 held.session held.transaction z y at i held.active held.lock old was.2 edge (next.fewer y left)
          | inr new ↦ absurd (held_stood z _ held new.1)
        ]
      ]

  pub led_next : StaysLed K g b e f n
  led_next = record {
    rest = λ z left. same_fields z ∙ has.led.rest z left;
    led = record {
      rest = λ z left. same_fields z ∙ has.led.rest z (next.fewer z left);
      leads = λ k run_is z y at i there gray refers left.
          let edge = ap (λ (vs : List Val). slice_get vs i) (sym (same_fields z)) ∙ refers in
          elim (next.places z at there) [
            | inl old ↦ let was = was_gray z at old k run_is gray in has.led.leads was.0 was.1 z y at i old was.2 edge (next.fewer y left)
            | inr new ↦ has.closed z y i new.0 (ap (λ (vs : List Val). slice_get vs i) (sym (has.led.rest z new.1)) ∙ edge)
          ];
      seen = seen_next;
    };
  }

  -- what it saw there it still sees
  still_seen : KeepsReferences g a e h.behind → (k : Collection) → n.collection ≡ Some k → (r : ℕ) (t : Transaction) (z y : Id) (at i : ℕ) → b.active r ≡ Some t → Contains (locks_of (serial f.g0 b.sealed) t) (z, Exclusive)
      → address_of f.places z ≡ Some at → contains k.gray at ≡ true → slice_get (fields g z) i ≡ Some (Ref y) → is_some (address_of f.remaining y) ≡ true → slice_get (fields (run (serial f.g0 b.sealed) t).graph z) i ≡ Some (Ref y)
  still_seen keeps k run_is r t z y at i active lock there gray refers left =
      elim (next.locks r t z at active (subst (λ (x : Graph). Contains (locks_of x t) (z, Exclusive)) next.graph lock) there) [
        | inl black ↦ absurd (true_false gray (black k run_is))
        | inr held ↦ elim (next.places z at there) [
          | inl old ↦
              let was = was_gray z at old k run_is gray in
              ap (λ (vs : List Val). slice_get vs i) (sym (held.sees ∙ ap (λ (x : Graph). fields (run x t).graph z) (sym next.graph)))
              ∙ keeps.seen was.0 was.1 held.session held.transaction z y at i held.active held.lock old was.2 refers (next.fewer y left)
          | inr new ↦ absurd (held_stood z _ held new.1)
        ]
      ]

  pub referring_next : KeepsReferences g a e h.behind → StaysReferring g b e f h.behind n
  referring_next keeps = record {
    before = λ k run_is z y at i there gray refers left. ap (λ (vs : List Val). slice_get vs i) (same_fields z) ∙ keeps.sealed k run_is z y at i there gray refers left;
    later = record {
      sealed = λ k run_is z y at i there gray refers left.
          ap (λ (vs : List Val). slice_get vs i) (same_fields z) ∙ elim (next.places z at there) [
            | inl old ↦ let was = was_gray z at old k run_is gray in keeps.sealed was.0 was.1 z y at i old was.2 refers (next.fewer y left)
            | inr new ↦ ap (λ (vs : List Val). slice_get vs i) (has.led.rest z new.1) ∙ refers
          ];
      seen = still_seen keeps;
    };
  }

-- Places after a scan.

-- records of a collection leave no more to remain
pub moved_fewer : (p : Placing) (rs : List Record) → AllByRecursion IsNoFlip rs → (id : Id) → is_some (address_of (moved_by_all p rs).remaining id) ≡ true → is_some (address_of p.remaining id) ≡ true
moved_fewer p [] all id is = is
moved_fewer p (Copy from to words ∷ rs) all id is = kept_some p.remaining (λ q. not (q.1 == from)) id (moved_fewer (moved_by p (Copy from to words)) rs all.1 id is)
moved_fewer p (Collected ∷ rs) all id is = absurd (cc (moved_fewer (moved_by p Collected) rs all.1 id is))
moved_fewer p (Flip copies ∷ rs) all id is = absurd all.0
moved_fewer p (Update t object field was word ∷ rs) all id is = moved_fewer p rs all.1 id is
moved_fewer p (Base t address words ∷ rs) all id is = moved_fewer p rs all.1 id is
moved_fewer p (Fix t object field word ∷ rs) all id is = moved_fewer p rs all.1 id is
moved_fewer p (Undo t object field word ∷ rs) all id is = moved_fewer p rs all.1 id is
moved_fewer p (Commit t ∷ rs) all id is = moved_fewer p rs all.1 id is
moved_fewer p (End t ∷ rs) all id is = moved_fewer p rs all.1 id is
moved_fewer p (Scan page writes ∷ rs) all id is = moved_fewer p rs all.1 id is

abbrev pub NewIn : (Id → Type 0) → Core → List Record → Type 0
NewIn K e rs = IsOldOrKept K e (moved_by_all (placing e) rs).places

page_in : (K : Id → Type 0) (g : Graph) (a : Account) (e : Core) (h : Agrees a e) → HasLed K g a e h → (page : ℕ) (o : Option Collection) → h.behind.collection ≡ o → (p : Option (List Record)) → page_records_of (spaces_of h.behind) (all_words e) page o ≡ p → NewIn K e (unwrap_or p [])
page_in K g a e h has page o run None is = λ id at there. inl there
page_in K g a e h has page None run (Some records) is = absurd (cc is)
page_in K g a e h has page (Some k) run (Some records) is = page_new K g a e h has k run page records is

pub page_records_new : (K : Id → Type 0) (g : Graph) (a : Account) (e : Core) (h : Agrees a e) → HasLed K g a e h → (page : ℕ) → NewIn K e (page_records h.behind (all_words e) page)
page_records_new K g a e h has page = page_in K g a e h has page h.behind.collection refl (page_records_of (spaces_of h.behind) (all_words e) page h.behind.collection) refl

if_new : (K : Id → Type 0) (e : Core) (b : Bool) (rs : List Record) → NewIn K e rs → NewIn K e (if b then rs else [])
if_new K e true rs new = new
if_new K e false rs new = λ id at there. inl there

at_new : (K : Id → Type 0) (g : Graph) (a : Account) (e : Core) (h : Agrees a e) → HasLed K g a e h → (o : Option ℕ) (i : ℕ) → NewIn K e (barrier_at (Some h.behind) (all_words e) o i)
at_new K g a e h has None i = λ id at there. inl there
at_new K g a e h has (Some at) i = let page = barrier_page_of at i in if_new K e (is_gray_in h.behind.collection page) (page_records h.behind (all_words e) page) (page_records_new K g a e h has page)

held_new : (K : Id → Type 0) (g : Graph) (a : Account) (e : Core) (h : Agrees a e) → HasLed K g a e h → (o : Option Id) (i : ℕ) → NewIn K e (held_barrier (ground e) o i)
held_new K g a e h has None i = λ id at there. inl there
held_new K g a e h has (Some id) i = subst (λ (o : Option State). NewIn K e (barrier_at o (all_words e) (address_of e.places id) i)) (sym h.told.reached) (at_new K g a e h has (address_of e.places id) i)

call_new : (K : Id → Type 0) (g : Graph) (a : Account) (e : Core) (h : Agrees a e) → HasLed K g a e h → (o : Option Transaction) (hd i : ℕ) → NewIn K e (call_barrier (ground e) e.g0 a o hd i)
call_new K g a e h has None hd i = λ id at there. inl there
call_new K g a e h has (Some t) hd i = held_new K g a e h has (held (view e.g0 a t).registers hd) i

-- the barrier copies nothing but what is kept
pub barrier_new : (K : Id → Type 0) (g : Graph) (a : Account) (e : Core) (h : Agrees a e) → HasLed K g a e h → (event : Event) → NewIn K e (barrier_for (ground e) e.g0 a event)
barrier_new K g a e h has event = by (used_field event)
  where
    by : (used : Option (ℕ × ℕ)) → NewIn K e (field_barrier (ground e) e.g0 a (a.active (session_of event)) used)
    by None = λ id at there. inl there
    by (Some (hd, i)) = call_new K g a e h has (a.active (session_of event)) hd i
