-- What the other active transactions see after a seal: it stands in the words after the seal as before, whichever words these are.
use Rattle.std.proofs.Common.{◌≡◌, ◌≢◌, ◌⊎◌, inl, inr, ℕ, ◌+◌, ◌<◌, ◌≤◌, List, [], ◌++◌, length, get_or, Option, Some, None, unwrap_or, refl, sym, ap, ◌∙◌, subst, arith}
use Rattle.std.specs.Prelude.{Contains}
use Rattle.std.specs.List.{AllByRecursion}
use Rattle.std.specs.FinMap.{get}
use Rattle.std.proofs.lemmas.List.{map-id}
use Rattle.graph_model.specs.declared.id.Id.{Id}
use Rattle.graph_model.specs.Graph.{Graph, fields}
use Rattle.graph_model.specs.ClosedGraph.{IsThere}
use Rattle.graph_model.proofs.Whole.Closed.{IsThere-run, made_there, run-IsUnused}
use Rattle.graph_model.specs.Transaction.{Transaction, View, fresh_view, run, serial}
use Rattle.graph_model.specs.History.{Account}
use Rattle.graph_model.specs.Locking.{Exclusive, Lock, locks_of}
use Rattle.graph_model.specs.Plain.{view}
use Rattle.commit_order.proofs.CallLaws.{there_other}
use Rattle.commit_order.specs.Heard.{Heard}
use Rattle.commit_order.proofs.LockingLaws.{IsExclusive, RunAlike, fields-run, locks_of-other, runs_alike}
use Rattle.commit_order.proofs.OrderLaws.{IsOrdered}
use Rattle.log_machine.specs.declared.UndoEntry.{UndoEntry}
use Rattle.log_machine.proofs.Fields.{written, AreApart, IsApart}
use Rattle.log_machine.proofs.ListLaws.{AllByRecursion-map}
use Rattle.log_machine.specs.Apart.{others_taken_back}
use Rattle.log_machine.specs.Machine.{State, all_taken_back, field_at, taken_back, undo_of}
use Rattle.log_machine.specs.Sound.{AreLosers}
use Rattle.log_machine.proofs.MapLaws.{each_remove}
use Rattle.log_machine.proofs.StateLaws.{each_at}
use Rattle.object_layout.specs.Layout.{field_words}
use Rattle.graph_words.specs.Area.{HasMade}
use Rattle.graph_words.specs.Places.{Places, address_of, made_by}
use Rattle.graph_words.proofs.Places.Addresses.{none_or_some}
use Rattle.graph_words.proofs.Promotion.Sealed.{sealed_state}
use Rattle.graph_words.proofs.Seal.Places.{address_of-append_left}
use Rattle.graph_words.proofs.Stands.ReadBack.{changed_field_words}
use Rattle.graph_words.specs.Stands.{Stands, StandsCommitted, AreWritten, AreOfFields}
use Rattle.graph_words.proofs.Stands.Objects.{stands_get, stands_object, stands_within}
use Rattle.collection_words.specs.Completed.{completed_places}
use Rattle.collection_words.proofs.Heap.Front.{at_hand_front}
use Rattle.heap_model.specs.Core.{Core, all_words}
use Rattle.heap_model.specs.CoreTold.{HoldsAtHand}
use Rattle.core_laws.proofs.Sessions.Apart.{away_birth_all, away_field_all, away_header_all, free_shared, own_apart, own_free, same_length_all}
use Rattle.core_laws.proofs.Seal.Bystander.{Bystander, IsBystander, beside_fields, beside_made, beside_stands, beside_written}
use Rattle.core_laws.proofs.Step.Goes.{writing_of}
use Rattle.core_laws.proofs.Sessions.OtherWrites.{IsAway, length-others, others_get, undo_other}
use Rattle.core_laws.proofs.Seal.Words.{own_taken_back}
use Rattle.core_laws.specs.Valid.{AreLockedWrites, AreUnlocked, IsLockedWrite, Agrees}

-- Words, and where objects stand in them, before a seal and after it.
pub record Sealed : Type 0 where
  pub places : Places
  pub words : List ℕ
  pub used : ℕ
  pub later_places : Places
  pub later_words : List ℕ
  pub later_used : ℕ

-- The seal of a transaction leaves words so: their objects are objects of the completed words, more are only what it promotes, the words
-- that it did not write stay, and the graph that it leaves stands committed.
pub record IsSealed (c : Core) (state last : State) (t : ℕ) (after : Graph) (p : Sealed) : Type 0 where
  pub among : (id : Id) (at : ℕ) → address_of p.places id ≡ Some at → address_of (completed_places state c.places c.remaining (all_words c)) id ≡ Some at
  pub grown : (id : Id) (at : ℕ) → address_of p.places id ≡ Some at → address_of p.later_places id ≡ Some at
  pub old_or_new : (id : Id) (at : ℕ) → address_of p.later_places id ≡ Some at → (address_of p.places id ≡ Some at) ⊎ (id.t ≡ t)
  pub long : length p.later_words ≡ length p.words
  pub stays : (x : ℕ) → x < state.base + p.used → AllByRecursion (λ v. x ≢ written v) (undo_of state t) → get_or p.later_words x 0 ≡ get_or p.words x 0
  pub settled : StandsCommitted p.later_places after (all_taken_back last p.later_words) state.base p.later_used
  pub sound : AreLosers last

-- A transaction sees a graph in words, without the writes of the others, and what it made and wrote.
pub record Sees (state : State) (v : View) (u : ℕ) (undo : List UndoEntry) (places : Places) (words : List ℕ) (used : ℕ) : Type 0 where
  pub stands : Stands u v.made places v.graph (others_taken_back state u words) state.base used
  pub has : HasMade places v.graph u v.made
  pub written : AreWritten places v.graph undo
  pub of_fields : AreOfFields places v.graph undo

-- an object that is there in two graphs with the same fields is the same
get_same : (g k : Graph) (id : Id) → IsThere g id → IsThere k id → fields g id ≡ fields k id → get g id ≡ get k id
get_same g k id here there same =
    here.1 ∙ ap Some (sym (ap (λ o. unwrap_or o []) here.1) ∙ same ∙ ap (λ o. unwrap_or o []) there.1) ∙ sym there.1

module _ (a : Account) (c : Core) (h : Agrees a c) {numbers : List ℕ} {heard : Heard} (o : IsOrdered c.g0 numbers a heard) (s : ℕ) (t : Transaction) (e : a.active s ≡ Some t)
    (asked r : ℕ) (u : Transaction) (apart : s ≢ r) (also : a.active r ≡ Some u) where
  -- the graph that the sealed transactions left before
  abbrev pub left : Graph
  left = serial c.g0 a.sealed

  -- and the one that the seal leaves
  abbrev pub after : Graph
  after = (view c.g0 a t).graph

  -- what the other transaction sees before
  abbrev pub before : View
  before = view c.g0 a u

  -- and after the seal
  abbrev pub behind : View
  behind = run after u

  -- the state after the seal
  abbrev pub last : State
  last = sealed_state h.behind t.number asked

  -- what the other has written
  abbrev pub its_undo : List UndoEntry
  its_undo = undo_of h.behind u.number

  pub differ : t.number ≢ u.number
  differ = (o.beside s r t u apart e also).differ

  -- it runs alike on both graphs
  pub alike : RunAlike t.number (IsExclusive left t) (fresh_view left) (fresh_view after) u.number u.calls
  alike = runs_alike left t u o.closed (λ same. differ (sym same)) (o.unused s t e) (o.beside s r t u apart e also).apart

  pub same_undo : undo_of last u.number ≡ its_undo
  same_undo = undo_other h.behind t.number u.number [] 0 differ

  -- it sees what it made as before
  pub its_own : (k : ℕ) → 1 ≤ k → k ≤ before.made → get behind.graph (made_by u.number k) ≡ get before.graph (made_by u.number k)
  its_own k first final =
      let q = made_by u.number k in
      let made = alike.views.made in
      let here = made_there left u q (record { maker = refl; from = first; to = final }) in
      let there = made_there after u q (record { maker = refl; from = first; to = omega arith }) in
      let free = λ (holds : IsExclusive left t q). locks_of-other left t u.number q Exclusive o.closed differ (o.unused r u also) holds refl in
      sym (get_same before.graph behind.graph q here there (alike.views.objects q (λ same. differ (sym same)) free))

  -- it has locked what it wrote, with more objects in the current space
  pub locked_beside : (more : Places) → AreLockedWrites (c.places ++ more) (locks_of after u) (undo_of last u.number)
  locked_beside more =
      let w = writing_of a c r u also h in
      subst (λ us. AreLockedWrites (c.places ++ more) (locks_of after u) us) (sym same_undo)
      (subst (λ ls. AreLockedWrites (c.places ++ more) ls its_undo) alike.locks
      (AllByRecursion-map (IsLockedWrite c.places (locks_of left u)) (IsLockedWrite (c.places ++ more) (locks_of left u)) its_undo
      (λ v one. record { id = one.id; object = address_of-append_left c.places more one.id v.object one.object; lock = one.lock }) w.locked))

  -- and no locked object remains
  pub unlocked_beside : AreUnlocked c.remaining (locks_of after u)
  unlocked_beside = subst (AreUnlocked c.remaining) alike.locks (writing_of a c r u also h).unlocked

  handle_on : (more : Places) (x : Option Id) → HoldsAtHand c.places u.number before.made x → HoldsAtHand (c.places ++ more) u.number before.made x
  handle_on more None holds = tt
  handle_on more (Some id) holds = at_hand_front c.places more u.number before.made id holds

  -- and its handles hold objects at hand
  pub handles_beside : (more : Places) → AllByRecursion (HoldsAtHand (c.places ++ more) u.number behind.made) behind.registers
  handles_beside more =
      let w = writing_of a c r u also h in
      let here = AllByRecursion-map (HoldsAtHand c.places u.number before.made) (HoldsAtHand (c.places ++ more) u.number before.made) before.registers (handle_on more) w.handles in
      subst (λ m. AllByRecursion (HoldsAtHand (c.places ++ more) u.number m) behind.registers) alike.views.made
      (subst (λ rs. AllByRecursion (HoldsAtHand (c.places ++ more) u.number before.made) rs) alike.views.registers here)

  module _ (p : Sealed) (law : IsSealed c h.behind last t.number after p) (sees : Sees h.behind before u.number its_undo p.places p.words p.used)
      (locked : AreLockedWrites p.places (locks_of left u) its_undo) where
    -- the words as it sees them before
    abbrev its_words : List ℕ
    its_words = others_taken_back h.behind u.number p.words

    -- and then
    abbrev its_later_words : List ℕ
    its_later_words = others_taken_back last u.number p.later_words

    bystander : Bystander
    bystander = record {
      u = u.number;
      made = before.made;
      locks = locks_of left u;
      undo = its_undo;
      places = p.places;
      g = before.graph;
      words = its_words;
      base = h.behind.base;
      used = p.used;
      later_places = p.later_places;
      h = behind.graph;
      later_words = its_later_words;
      later_used = p.later_used;
      sealed = after;
      committed = all_taken_back last p.later_words;
    }

    -- The graphs.
    there_left : (id : Id) (at : ℕ) → address_of p.places id ≡ Some at → IsThere left id
    there_left id at there = (fields left id, stands_get h.told.stands id at (law.among id at there))

    there_after : (id : Id) (at : ℕ) → address_of p.later_places id ≡ Some at → IsThere after id
    there_after id at there = (fields after id, stands_get law.settled id at there)

    -- it sees what it holds as before
    its_held : (id : Id) (at : ℕ) → address_of p.places id ≡ Some at → Contains (locks_of left u) (id, Exclusive) → get behind.graph id ≡ get before.graph id
    its_held id at there holds =
        let was = there_left id at there in
        let free = λ (holds' : IsExclusive left t id). (o.beside s r t u apart e also).apart id Exclusive Exclusive holds' holds refl in
        sym (get_same before.graph behind.graph id (IsThere-run left u id was) (IsThere-run after u id (IsThere-run left t id was))
        (alike.views.objects id (there_other left t.number id (o.unused s t e) was) free))

    -- and all else as the seal left it
    its_others : (id : Id) (at : ℕ) → address_of p.later_places id ≡ Some at → (Contains (locks_of left u) (id, Exclusive) → ⊥) → get behind.graph id ≡ get after id
    its_others id at there free =
        let is = there_after id at there in
        let unused = run-IsUnused left t u.number o.closed (λ same. differ (sym same)) (o.unused r u also) in
        get_same behind.graph after id (IsThere-run after u id is) is
        (fields-run after u id (there_other after u.number id unused is) (λ holds. free (subst (λ (ls : List Lock). Contains ls (id, Exclusive)) (sym alike.locks) holds)))

    -- The places.
    -- what it holds stood there before
    its_placed : (id : Id) (at : ℕ) → address_of p.later_places id ≡ Some at → Contains (locks_of left u) (id, Exclusive) → address_of p.places id ≡ Some at
    its_placed id at there holds = elim (law.old_or_new id at there) [
      | inl old ↦ old
      | inr maker ↦ absurd (locks_of-other left u t.number id Exclusive o.closed (λ same. differ (sym same)) (o.unused s t e) holds maker)
    ]

    -- nothing that it made stands in the space
    its_apart : (k : ℕ) → address_of p.later_places (made_by u.number k) ≡ None
    its_apart k = elim (none_or_some (address_of p.later_places (made_by u.number k))) [
      | inl none ↦ none
      | inr (at, there) ↦ elim (law.old_or_new (made_by u.number k) at there) [
        | inl old ↦ let none = sees.has.apart k in cc
        | inr maker ↦ absurd (differ (sym maker))
      ]
    ]

    -- The words.
    -- a used word that no other transaction wrote is the same as it sees it
    word_same : (x : ℕ) → x < h.behind.base + p.used → IsAway h.behind u.number x → get_or its_later_words x 0 ≡ get_or its_words x 0
    word_same x below away =
        let Away : ℕ → List UndoEntry → Type 0 = λ q vs. q ≢ u.number → AllByRecursion (λ v. x ≢ written v) vs in
        let none : AllByRecursion (λ v. x ≢ written v) (undo_of h.behind t.number) = each_at Away h.behind.undo t.number (λ other. tt) away differ in
        others_get last u.number p.later_words x (each_remove Away h.behind.undo t.number away) ∙ law.stays x below none ∙ sym (others_get h.behind u.number p.words x away)

    its_length : length its_later_words ≡ length its_words
    its_length = length-others last u.number p.later_words ∙ law.long ∙ sym (length-others h.behind u.number p.words)

    -- what it holds has the same field words
    its_fields : (id : Id) (at : ℕ) → address_of p.places id ≡ Some at → Contains (locks_of left u) (id, Exclusive) → field_words its_later_words at ≡ field_words its_words at
    its_fields id at there holds =
        let n = length (fields before.graph id) in
        let lies = stands_within sees.stands id at there in
        let below = lies.below in
        let all = law.among id at there in
        let free = free_shared c.g0 a u.number id (own_free a c h o r u also id holds) in
        changed_field_words (λ x. x) its_words its_later_words at n (stands_object sees.stands id at there) (record {
          same = its_length;
          header_same = word_same at (omega arith) (away_header_all a c h o u.number id at all);
          birth_same = word_same (at + 1) (omega arith) (away_birth_all a c h o u.number id at all);
          fields_changed = λ i within. word_same (field_at at i) (omega arith) (away_field_all a c h o r u also id at i all within free);
        })
        ∙ map-id (field_words its_words at)

    apart_behind : IsApart last u.number (undo_of last u.number)
    apart_behind =
        let Apart : List UndoEntry → ℕ → List UndoEntry → Type 0 = λ us q vs. q ≢ u.number → AreApart us vs in
        subst (λ us. IsApart last u.number us) (sym same_undo) (each_remove (Apart its_undo) h.behind.undo t.number (own_apart a c h o r u also))

    -- its writes are all that is to be taken back of what it sees
    its_back : taken_back its_undo its_later_words ≡ all_taken_back last p.later_words
    its_back = ap (λ us. taken_back us its_later_words) (sym same_undo) ∙ own_taken_back last u.number p.later_words law.sound apart_behind

    -- so it continues beside the seal
    is_bystander : IsBystander bystander
    unfolding bystander
    is_bystander = record {
      stands = sees.stands;
      has = sees.has;
      written = sees.written;
      of_fields = sees.of_fields;
      locked = locked;
      settled = law.settled;
      back = its_back;
      grown = law.grown;
      apart = its_apart;
      held_placed = its_placed;
      lengths = λ id at there.
          let all = law.among id at there in
          same_length_all a c h o s t e id at all ∙ sym (same_length_all a c h o r u also id at all);
      own = its_own;
      held = its_held;
      others = its_others;
      held_words = its_fields;
    }

    -- What it sees stands in the words after the seal.
    pub sees_beside : Sees last behind u.number its_undo p.later_places p.later_words p.later_used
    unfolding bystander
    sees_beside = record {
      stands = subst (λ m. Stands u.number m p.later_places behind.graph its_later_words last.base p.later_used) alike.views.made (beside_stands bystander is_bystander);
      has = subst (λ m. HasMade p.later_places behind.graph u.number m) alike.views.made (beside_made bystander is_bystander);
      written = beside_written bystander is_bystander;
      of_fields = beside_fields bystander is_bystander;
    }
