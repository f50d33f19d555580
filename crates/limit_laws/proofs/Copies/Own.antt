-- No two objects of a core have one name, and no two stand at one address.
use Rattle.std.proofs.Common.{◌≡◌, [], ◌++◌, Option, None, Some, refl, sym, subst}
use Rattle.std.specs.Prelude.{MatchOption}
use Rattle.std.proofs.lemmas.List.{append-nil}
use Rattle.graph_model.specs.History.{Account}
use Rattle.heap_spaces.specs.Collection.{Collection}
use Rattle.log_machine.specs.Machine.{losing}
use Rattle.graph_words.specs.Places.{Places}
use Rattle.graph_words.proofs.Seal.Places.{address_of-append_left}
use Rattle.graph_words.proofs.Stands.Objects.{stands_one}
use Rattle.collection_words.specs.Completed.{completed_places, future}
use Rattle.collection_words.specs.LaidOut.{IsFromSpace}
use Rattle.collection_words.specs.Placed.{HaveOwnNames}
use Rattle.collection_words.proofs.Copy.Named.{own_front}
use Rattle.collection_words.proofs.Copy.Stands.{completed_own}
use Rattle.collection_words.proofs.Laid.Names.{own_names}
use Rattle.collection_words.proofs.Laid.Underway.{underway}
use Rattle.seen_laws.proofs.States.{sealed_stands, writes_of_all}
use Rattle.heap_model.specs.Core.{Core, all_words}
use Rattle.core_laws.specs.Valid.{Agrees}
use Rattle.limit_laws.proofs.Copies.Edges.{StandApart}

-- no two objects of a core have one name
pub own_all : (a : Account) (e : Core) (h : Agrees a e) → HaveOwnNames (e.places ++ e.remaining)
own_all a e h = by h.behind.collection refl
  where
    by : (o : Option Collection) → h.behind.collection ≡ o → HaveOwnNames (e.places ++ e.remaining)
    by (Some k) run =
        let heap = h.told.heap in
        completed_own (writes_of_all (losing h.behind)) (underway (record { run = run; spaced = heap.spaced; long = heap.long; small = heap.small; laid = heap.laid }))
        (sealed_stands h.behind e.places e.remaining (all_words e) h.told.stands)
    by None none =
        let empty : e.remaining ≡ [] = subst (λ o. MatchOption o (e.remaining ≡ []) (λ k. IsFromSpace h.behind k e.places e.remaining (all_words e))) none h.told.heap.laid.from in
        let P = completed_places h.behind e.places e.remaining (all_words e) in
        let own = own_front e.places (future h.behind (all_words e) e.remaining) (own_names P _ h.behind.base P _ h.told.stands.ends h.told.stands.names) in
        subst (λ (ps : Places). HaveOwnNames (e.places ++ ps)) (sym empty) (subst HaveOwnNames (sym (append-nil e.places)) own)

pub stand_apart : (a : Account) (e : Core) (h : Agrees a e) → StandApart e.places
stand_apart a e h x y at one other =
    let later = future h.behind (all_words e) e.remaining in
    stands_one h.told.stands x y at (address_of-append_left e.places later x at one) (address_of-append_left e.places later y at other)
