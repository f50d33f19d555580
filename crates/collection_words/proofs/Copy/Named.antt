-- Which object a word refers to while a collection runs, and what the word is when it is followed.
use Rattle.std.proofs.Common.{◌≡◌, ◌⊎◌, ℕ, ◌+◌, inl, inr, Bool, true, false, not, List, [], ◌∷◌, ◌++◌, Option, None, Some, is_some, refl, sym, ap, ◌∙◌, subst}
use Rattle.std.specs.Prelude.{Contains, slice_index, if◌then◌else◌, unwrap_or}
use Rattle.std.specs.FinSet.{contains}
use Rattle.heap_words.specs.declared.Header.TheVariants.{Forward}
use Rattle.heap_words.specs.Header.{header}
use Rattle.heap_words.specs.declared.Word.{Word}
use Rattle.heap_words.specs.declared.Word.TheVariants as word
use Rattle.heap_words.specs.Word.{bits, is_stable, meaning, refers_to_stable}
use Rattle.heap_words.proofs.WordLaws.{bits-meaning}
use Rattle.heap_spaces.specs.Collection.{Collection}
use Rattle.graph_model.specs.declared.id.Id.{Id}
use Rattle.object_layout.proofs.LayoutLaws.{object_header}
use Rattle.relocation.specs.Relocation.{destination}
use Rattle.log_machine.specs.Collecting.{other_base}
use Rattle.log_machine.specs.Machine.{State}
use Rattle.graph_words.specs.Places.{Places, address_of, addresses}
use Rattle.graph_words.proofs.Places.Addresses.{address_of-Contains, address_of-rest, named_at, none_or_some, some_address}
use Rattle.graph_words.proofs.Seal.Places.{address_of-append_left, address_of-append_right}
use Rattle.collection_words.specs.Completed.{end_of, followed, followed_by, future, in_other_space, moves_from}
use Rattle.collection_words.specs.LaidOut.{StandsOrForwards, IsFromSpace, LeadsHere, MayLeadBack}
use Rattle.collection_words.specs.Placed.{Ascend, HaveOwnNames}
use Rattle.collection_words.proofs.Copy.Ascending.{ascend_chain, ascend_filter, put_destination}
use Rattle.collection_words.proofs.Copy.Moved.{behind_there, not_first}
use Rattle.collection_words.proofs.Laid.Followed.{followed_here}
use Rattle.collection_words.proofs.Laid.Names.{names_own}
use Rattle.collection_words.proofs.Laid.Old.{old_in_other}
use Rattle.collection_words.proofs.Laid.Sources.{IsCollecting, left_object}
use Rattle.collection_words.proofs.Laid.Write.{unmoved_left}
use Rattle.collection_words.proofs.Moves.Sources.{put_same}

-- A word refers to an object: to where it is current, to where it was copied from, or to where it remains.
pub data RefersTo (s : State) (places remaining : Places) (words : List ℕ) (w : ℕ) (id : Id) : Type 0 where
  current : (at : ℕ) → meaning w ≡ Some (word.Stable at) → address_of places id ≡ Some at → RefersTo s places remaining words w id
  forwarded : (from to : ℕ) → meaning w ≡ Some (word.Stable from) → in_other_space s from ≡ true → header (slice_index words from) ≡ Some (Forward to) → address_of places id ≡ Some to
      → RefersTo s places remaining words w id
  left : (from : ℕ) → meaning w ≡ Some (word.Stable from) → address_of remaining id ≡ Some from → RefersTo s places remaining words w id

-- names of the front are their own
pub own_front : (ps qs : Places) → HaveOwnNames (ps ++ qs) → HaveOwnNames ps
own_front [] qs own = tt
own_front (p ∷ ps) qs own = (front_none ps qs p.0 own.0, own_front ps qs own.1)
  where
    front_none : (ps qs : Places) (id : Id) → address_of (ps ++ qs) id ≡ None → address_of ps id ≡ None
    front_none ps qs id none = elim (none_or_some (address_of ps id)) [
      | inl is ↦ is
      | inr there ↦ let clash = sym none ∙ address_of-append_left ps qs id there.0 there.1 in cc
    ]

-- and those after it
pub own_behind : (ps qs : Places) → HaveOwnNames (ps ++ qs) → HaveOwnNames qs
own_behind [] qs own = own
own_behind (p ∷ ps) qs own = own_behind ps qs own.1

-- an object stands at each address
pub named : (ps : Places) (at : ℕ) → HaveOwnNames ps → Contains (addresses ps) at → (id : Id) × (address_of ps id ≡ Some at)
named ps at own has = named_at ps at (names_own ps own) has

-- what may lead back refers to an object, or is no reference to a stable one
pub refers : {s : State} {k : Collection} {places remaining : Places} {words : List ℕ} → IsCollecting s k places remaining words → HaveOwnNames (places ++ remaining) → (from : IsFromSpace s k places remaining words)
    → (w : ℕ) (meant : Option Word) → meaning w ≡ meant → ((at : ℕ) → Contains from.starts at → in_other_space s at ≡ true) → MayLeadBack (addresses places) from.starts meant
    → (refers_to_stable meant ≡ false) ⊎ ((id : Id) × RefersTo s places remaining words w id)
refers is own from w None means old (inl here) = absurd here
refers is own from w (Some word.Null) means old (inl here) = inl refl
refers is own from w (Some (word.Int n)) means old (inl here) = inl refl
refers is own from w (Some (word.Volatile index)) means old (inl here) = inl refl
refers {places = places} {remaining = remaining} is own from w (Some (word.Stable at)) means old (inl here) =
    let object = named places at (own_front places remaining own) here in inr (object.0, current at means object.1)
refers {s} {k} {places} {remaining} {words} is own from w meant means old (inr (at, leads, has)) =
    inr (by_moved (contains k.moved at) refl (from.forwarded at has))
  where
    by_moved : (b : Bool) → contains k.moved at ≡ b → StandsOrForwards words (addresses places) at b → (id : Id) × RefersTo s places remaining words w id
    by_moved true moved (to, forward, here) =
        let object = named places to (own_front places remaining own) here in (object.0, forwarded at to (means ∙ leads) (old at has) forward object.1)
    by_moved false unmoved object =
        let there = named remaining at (own_behind places remaining own) (unmoved_left from at has unmoved) in (there.0, left at (means ∙ leads) there.1)

-- what remains ascends
pub left_ascend : {s : State} {k : Collection} {places remaining : Places} {words : List ℕ} → IsCollecting s k places remaining words → Ascend (other_base s) (addresses remaining)
left_ascend {s} {k} {words = words} is =
    subst (Ascend (other_base s)) (sym is.from.left)
    (ascend_filter (λ at. not (contains k.moved at)) (other_base s) is.from.starts
    (ascend_chain words (other_base s) is.from.starts (other_base s + k.used) is.from.chain))

-- What a word that refers to an object becomes: a reference to where the object stands in the completed words.
pub record IsFollowedTo (s : State) (places remaining : Places) (words : List ℕ) (w : ℕ) (id : Id) : Type 0 where
  pub to : ℕ
  pub there : address_of (places ++ future s words remaining) id ≡ Some to
  pub is : followed s words remaining w ≡ bits (word.Stable to)

-- what remains is not current
pub apart_of : (ps qs : Places) (id : Id) (at : ℕ) → HaveOwnNames (ps ++ qs) → address_of qs id ≡ Some at → address_of ps id ≡ None
apart_of [] qs id at own is = refl
apart_of (p ∷ ps) qs id at own is =
    let later = behind_there ps qs id at own.1 is in
    address_of-rest p ps id (not_first p (ps ++ qs) id at own.0 later) ∙ apart_of ps qs id at own.1 is

followed_stable : (s : State) (words : List ℕ) (remaining : Places) (w at : ℕ) → meaning w ≡ Some (word.Stable at) → in_other_space s at ≡ true
    → followed s words remaining w ≡ bits (word.Stable (end_of (moves_from words (addresses remaining) (s.base + s.used)) at (header (slice_index words at))))
followed_stable s words remaining w at means other =
    let moves = moves_from words (addresses remaining) (s.base + s.used) in
    ap (followed_by s words moves w) means ∙ ap (λ b. if b then bits (word.Stable (end_of moves at (header (slice_index words at)))) else w) other

-- so it does
pub refers_followed : {s : State} {k : Collection} {places remaining : Places} {words : List ℕ} → IsCollecting s k places remaining words → HaveOwnNames (places ++ remaining) → (w : ℕ) (id : Id)
    → RefersTo s places remaining words w id → IsFollowedTo s places remaining words w id
refers_followed {s} {places = places} {remaining = remaining} {words = words} is own w id (current at means there) =
    let leads : LeadsHere (addresses places) (meaning w) = subst (LeadsHere (addresses places)) (sym means) (address_of-Contains places id at there) in
    record {
      to = at;
      there = address_of-append_left places (future s words remaining) id at there;
      is = followed_here is.spaced is.laid words w leads ∙ (bits-meaning w (word.Stable at) means).1;
    }
refers_followed {s} {places = places} {remaining = remaining} {words = words} is own w id (forwarded from to means other forward there) = record {
  to = to;
  there = address_of-append_left places (future s words remaining) id to there;
  is = followed_stable s words remaining w from means other ∙ ap (λ h. bits (word.Stable (end_of (moves_from words (addresses remaining) (s.base + s.used)) from h))) forward;
}
refers_followed {s} {k} {places} {remaining} {words} is own w id (left from means there) =
    let has = address_of-Contains remaining id from there in
    let object = left_object is.from from has in
    let moves = moves_from words (addresses remaining) (s.base + s.used) in
    let placed = put_destination words remaining (other_base s) (s.base + s.used) id from (left_ascend is) there in
    let some = some_address (address_of (future s words remaining) id) (put_same words remaining (s.base + s.used) id ∙ ap is_some there) in
    let goes : destination moves from ≡ Some some.0 = sym placed ∙ some.1 in
    record {
      to = some.0;
      there = address_of-append_right places (future s words remaining) id (apart_of places remaining id from own there) ∙ some.1;
      is = followed_stable s words remaining w from means (old_in_other is from object.start)
          ∙ ap (λ h. bits (word.Stable (end_of moves from h))) (object_header words from object.fields object.object).0
          ∙ ap (λ (o : Option ℕ). bits (word.Stable (unwrap_or o from))) goes;
    }

plain_by : (s : State) (words : List ℕ) (moves : List (ℕ × ℕ)) (w : ℕ) (meant : Option Word) → refers_to_stable meant ≡ false → followed_by s words moves w meant ≡ w
plain_by s words moves w None plain = refl
plain_by s words moves w (Some word.Null) plain = refl
plain_by s words moves w (Some (word.Int n)) plain = refl
plain_by s words moves w (Some (word.Volatile index)) plain = refl
plain_by s words moves w (Some (word.Stable at)) plain = cc

-- a word that is no reference to a stable object stays when it is followed
pub followed_plain : (s : State) (words : List ℕ) (remaining : Places) (w : ℕ) → is_stable w ≡ false → followed s words remaining w ≡ w
followed_plain s words remaining w plain = plain_by s words (moves_from words (addresses remaining) (s.base + s.used)) w (meaning w) plain
