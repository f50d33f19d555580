-- Records encode after a step of a collection what they encoded before, and a core that agreed with its history still does.
use Rattle.std.proofs.Common.{◌≡◌, ℕ, ◌+◌, true, false, Bool, List, [], ◌∷◌, ◌++◌, Option, None, Some, is_some, refl, sym, ap, ◌∙◌, subst, arith}
use Rattle.std.specs.Prelude.{IsTrue, if◌then◌else◌}
use Rattle.std.specs.List.{AllByRecursion}
use Rattle.std.proofs.lemmas.List.{append-nil}
use Rattle.graph_model.specs.declared.id.Id.{Id}
use Rattle.graph_model.specs.Graph.{Graph, is_same_id}
use Rattle.graph_model.specs.Transaction.{Transaction, serial}
use Rattle.graph_model.specs.History.{Account}
use Rattle.graph_model.specs.Locking.{locks_of}
use Rattle.graph_model.specs.Plain.{view}
use Rattle.log_records.specs.declared.Record.{Record}
use Rattle.log_records.specs.Record.{IsRecord}
use Rattle.log_machine.specs.Apart.{others_taken_back}
use Rattle.log_machine.specs.Machine.{State, after_all, all_taken_back, owed}
use Rattle.log_machine.proofs.ListLaws.{AllByRecursion-append}
use Rattle.log_machine.proofs.MachineLaws.{after_all-append2}
use Rattle.graph_words.specs.Places.{AreOld, IsOld, Places, address_of}
use Rattle.graph_words.specs.Stands.{Stands, StandsCommitted}
use Rattle.graph_words.proofs.Places.Addresses.{address_of-head, placed_as, some_address}
use Rattle.collection_words.specs.Completed.{completed, completed_places}
use Rattle.collection_words.specs.LaidOut.{AreHeapWords}
use Rattle.seen_laws.specs.Heap.{AreAllBacked}
use Rattle.walk_laws.specs.Heap.{TellsBirths}
use Rattle.seen_laws.proofs.Births.{completed_old}
use Rattle.heap_model.specs.Core.{Core, all_words}
use Rattle.heap_model.specs.Bits.{AreOf64Bits}
use Rattle.heap_model.specs.CoreTold.{IsTold}
use Rattle.heap_model.proofs.Step.Bits.{fit_behind}
use Rattle.core_laws.proofs.Collecting.Carried.{HasFewer, IsCarried, KeepsCurrent, carried_writing, was_there}
use Rattle.core_laws.proofs.Step.Goes.{goes_on, words_with}
use Rattle.core_laws.proofs.Step.Granted.{HasRoom, reserved_told}
use Rattle.core_laws.specs.Valid.{Agrees, IsWriter}

-- Names.

some_behind : (b : Bool) (x : ℕ) (o : Option ℕ) → is_some o ≡ true → is_some (if b then Some x else o) ≡ true
some_behind true x o is = refl
some_behind false x o is = is

-- what holds of the name of each object holds of each place
named_all : (Q : Id → Type 0) (ps : Places) → ((id : Id) → is_some (address_of ps id) ≡ true → Q id) → AllByRecursion (λ p. Q p.0) ps
named_all Q [] each = tt
named_all Q (p ∷ ps) each = (
  each p.0 (ap is_some (address_of-head p ps)),
  named_all Q ps (λ id there. each id (some_behind (is_same_id p.0 id) p.1 (address_of ps id) there)),
)

-- where no other objects are in a list, what holds of the names holds of its own
fewer_names : (Q : Id → Type 0) (ps qs : Places) → HasFewer ps qs → AllByRecursion (λ p. Q p.0) ps → AllByRecursion (λ p. Q p.0) qs
fewer_names Q ps qs fewer all =
    named_all Q qs (λ id there.
    let is = some_address (address_of qs id) there in
    let was = was_there ps qs fewer id is.0 is.1 in
    placed_as (λ p. Q p.0) ps id was.0 all was.1)

-- What the words are after a step of a collection, and what stands in them.
pub record IsLeft (s n : State) (born : Bool) (places remaining currents rest : Places) (g : Graph) (words others : List ℕ) : Type 0 where
  pub heap : AreHeapWords n currents rest others
  pub backed : AreAllBacked n currents others
  pub births : IsTrue born → TellsBirths s places remaining words → TellsBirths n currents rest others
  pub stands : StandsCommitted (completed_places n currents rest others) g (all_taken_back n (completed n currents rest others)) n.base (n.used + owed n)

-- Records encode the same after it.
pub carried_told : {from s n : State} {born : Bool} {places remaining currents rest : Places} {g : Graph} {k : ℕ} {records : List Record} {words others : List ℕ} (more : List Record)
    → IsTold from born places remaining g k records words s → IsCarried s n places remaining currents rest → AllByRecursion IsRecord more → after_all s more ≡ Some n
    → IsLeft s n born places remaining currents rest g words others → AreOf64Bits others → IsTold from born currents rest g k (records ++ more) others n
carried_told {from} {s} {n} {born} {places} {remaining} {currents} {rest} {g} {k} {records} {words} {others} more told carried good follows left fit =
    let there = completed_places n currents rest others in
    let names = (completed_old s.next s places remaining words).0 told.old in
    let old = (completed_old s.next n currents rest others).1 (fewer_names (IsOld s.next) (places ++ remaining) (currents ++ rest) carried.fewer names) in
    record {
      good = AllByRecursion-append IsRecord records more told.good good;
      reached = after_all-append2 from s records more told.reached ∙ follows;
      count = carried.commits ∙ told.count;
      heap = left.heap;
      fit = fit;
      backed = left.backed;
      stands = left.stands;
      old = subst (λ (next : ℕ). AreOld next there) (sym carried.next) old;
      births = λ by_birth. left.births by_birth (told.births by_birth);
    }

-- Sessions.

-- What a session's transaction sees stands after the step, if it has one.
abbrev pub IsSeen : State → Places → Places → List ℕ → Graph → Account → Places → Option Transaction → Type 0
IsSeen n currents rest others g0 a places None = Unit {0}
IsSeen n currents rest others g0 a places (Some t) =
    KeepsCurrent places currents (view g0 a t) t.number (locks_of (serial g0 a.sealed) t)
    × Stands t.number (view g0 a t).made (completed_places n currents rest others) (view g0 a t).graph (others_taken_back n t.number (completed n currents rest others)) n.base (n.used + owed n)

seen_writer : {s n : State} {places remaining currents rest : Places} (words others : List ℕ) (g0 : Graph) (a : Account) (o : Option Transaction) → IsCarried s n places remaining currents rest
    → IsSeen n currents rest others g0 a places o → IsWriter places remaining g0 a o words s → IsWriter currents rest g0 a o others n
seen_writer words others g0 a None carried seen w = tt
seen_writer words others g0 a (Some t) carried seen w = carried_writing w carried seen.0 seen.1

-- A step of a collection leaves a core that agrees with its history as before: its records follow, they leave what stood, and the log has
-- room for them.
pub carried_agrees : (a : Account) (c : Core) (h : Agrees a c) (n : State) (currents rest : Places) (more : List Record) → AllByRecursion IsRecord more → after_all h.behind more ≡ Some n
    → IsCarried h.behind n c.places c.remaining currents rest
    → IsLeft h.behind n c.born c.places c.remaining currents rest (serial c.g0 a.sealed) (all_words c) (words_with c more)
    → ((s : ℕ) → IsSeen n currents rest (words_with c more) c.g0 a c.places (a.active s))
    → HasRoom c more a
    → Agrees a (record c { pending = c.pending ++ more; places = currents; remaining = rest })
carried_agrees a c h n currents rest more good follows carried left seen room =
    let told = carried_told more h.told carried good follows left (fit_behind (all_words c) more h.told.fit good) in
    let kept = reserved_told c more a told in
    let next = carried.next in
    let known = h.next_known in
    goes_on a c a more currents rest h (record {
      unfailed = h.unfailed;
      certain = h.certain;
      acknowledged = refl;
      in_sessions = h.in_sessions;
      next_fits = h.next_fits;
      numbered = h.numbered;
      later = [];
      sealed = sym (append-nil a.sealed);
      behind = n;
      told = told;
      next_known = omega arith;
      losers = λ q vs there. let was = carried.keys q vs there in h.losers q was.0 was.1;
      writers = λ s. seen_writer (all_words c) (words_with c more) c.g0 a (a.active s) carried (seen s) (h.writers s);
      room = omega arith;
    })
