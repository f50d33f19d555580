-- Where a scan redirects a reference of an object to a copy, the object refers to the copied one in each graph that stands in the words.
use Rattle.std.proofs.Common.{◌≡◌, ℕ, ◌+◌, ◌<◌, List, ◌++◌, length, Option, Some, None, refl, sym, ap, ◌∙◌, subst, arith}
use Rattle.std.specs.Prelude.{slice_get, slice_index, slice_index_or, if◌then◌else◌}
use Rattle.std.proofs.lemmas.Option.{slice_get-get_or}
use Rattle.graph_model.specs.declared.id.Id.{Id}
use Rattle.graph_model.specs.declared.val.Val.{Val}
use Rattle.graph_model.specs.declared.val.Val.TheVariants.{Null, Int, Ref}
use Rattle.graph_model.specs.Graph.{Graph, fields}
use Rattle.heap_words.specs.declared.Word.TheVariants as word
use Rattle.heap_words.specs.Header.{header}
use Rattle.heap_words.specs.Word.{bits}
use Rattle.heap_spaces.specs.Collection.{Collection}
use Rattle.log_machine.specs.declared.UndoEntry.{UndoEntry}
use Rattle.log_machine.specs.Machine.{State, field_at}
use Rattle.graph_words.specs.Places.{Places, address_of, addresses, bits_of, place_of}
use Rattle.graph_words.proofs.Stands.Objects.{stands_field, stands_one}
use Rattle.graph_words.proofs.Stands.Visible.{place_of-apart, place_of-placed}
use Rattle.collection_words.specs.Completed.{StandsCompleted, completed, end_of, followed, followed_by, future, moves_from}
use Rattle.collection_words.proofs.Laid.Completed.{move_made}
use Rattle.collection_words.proofs.Laid.Followed.{move_placed}
use Rattle.collection_words.proofs.Laid.Sources.{IsCollecting}
use Rattle.scan_laws.proofs.Copied.{IsLedWrite}
use Rattle.seen_laws.specs.Heap.{IsUnwritten}
use Rattle.seen_laws.proofs.Kept.{unwritten_word}

-- no two objects stand at one address
abbrev pub StandApart : Places → Type 0
StandApart places = (x y : Id) (at : ℕ) → address_of places x ≡ Some at → address_of places y ≡ Some at → x ≡ y

-- a value with the word of a reference to where an object stands refers to the object
pub value_refers : (places : Places) (g : Graph) → StandApart places → (v : Val) (to : ℕ) (y : Id) → bits_of (place_of places g) v ≡ bits (word.Stable to) → address_of places y ≡ Some to → v ≡ Ref y
value_refers places g one Null to y same there = absurd (omega arith)
value_refers places g one (Int n) to y same there = absurd (omega arith)
value_refers places g one (Ref id) to y same there = by (address_of places id) refl
  where
    by : (o : Option ℕ) → address_of places id ≡ o → Ref id ≡ Ref y
    by None none = let own = ap bits (sym (place_of-apart places g id none)) ∙ same in absurd (omega arith)
    by (Some at) here =
        let stood = ap bits (sym (place_of-placed places g id at here)) ∙ same in
        let address : at ≡ to = omega arith in
        ap Ref (one id y to (here ∙ ap Some address) there)

-- a write by which a scan has redirected a field that none of these writes has written
pub led_edge : {s : State} {k : Collection} {currents rest : Places} {words : List ℕ} {t made : ℕ} {g : Graph} {write : ℕ × ℕ} (us : List UndoEntry) → IsCollecting s k currents rest words
    → StandsCompleted t made currents rest g us words s → (w : IsLedWrite s currents words write) → IsUnwritten us (field_at w.object w.field)
    → (z y : Id) → w.is.fields ≡ length (fields g z) → address_of (currents ++ future s words rest) z ≡ Some w.object → address_of (currents ++ future s words rest) y ≡ Some w.to → slice_get (fields g z) w.field ≡ Some (Ref y)
led_edge {s} {k} {currents} {rest} {words} {t} {made} {g} {write} us is stands w unwritten z y size from to =
    let one = move_made is w.object w.object w.is.fields (move_placed is.laid w.object w.is.start) w.is.stands in
    let within : w.field < length (fields g z) = subst (λ (n : ℕ). w.field < n) size w.is.within in
    let moves = moves_from words (addresses rest) (s.base + s.used) in
    let was = slice_index words (field_at w.object w.field) in
    let follows : followed s words rest was ≡ bits (word.Stable w.to) =
    ap (followed_by s words moves was) w.back
    ∙ ap (λ t. if t then bits (word.Stable (end_of moves w.from (header (slice_index words w.from)))) else was) w.old
    ∙ ap (λ h. bits (word.Stable (end_of moves w.from h))) w.forward in
    let value = slice_index_or (fields g z) w.field Null in
    let same = sym (stands_field stands z w.object w.field from within) ∙ unwritten_word us (completed s currents rest words) (field_at w.object w.field) unwritten ∙ one.fields w.field w.is.within ∙ follows in
    slice_get-get_or (fields g z) w.field Null within ∙ ap Some (value_refers (currents ++ future s words rest) g (stands_one stands) value w.to y same to)
