-- Where a walk passes a graph stands, under any names that keep the objects apart.
use Rattle.std.proofs.Common.{Contains, List, None, Option, Some, [], ap, arith, get_or-take, inl, inr, is_some, length, map, option_and_then, refl, slice_get, subst, suc, sym, unwrap_or, zero, ℕ, ◌+◌, ◌-◌, ◌∙◌, ◌∷◌, ◌≡◌, ◌≤◌}
use Rattle.std.proofs.lemmas.Bool.{cases_lt}
use Rattle.std.proofs.lemmas.List.{length-map}
use Rattle.std.specs.FinMap.{get, get-empty}
use Rattle.std.specs.List.{AllByRecursion}
use Rattle.heap_words.specs.Header.{birth_bits, born_as, born_in}
use Rattle.heap_words.proofs.HeaderLaws.{birth_bits-born, born_as-birth_bits, born_in-birth_bits}
use Rattle.heap_words.specs.Word.{bits, meaning}
use Rattle.heap_words.proofs.WordLaws.{bits-meaning}
use Rattle.heap_words.specs.declared.Word.{Word}
use Rattle.heap_words.specs.declared.Word.TheVariants as word
use Rattle.graph_model.specs.Canon.{canon}
use Rattle.graph_model.specs.ClosedGraph.{IsThere}
use Rattle.graph_model.proofs.Whole.Closed.{there_insert}
use Rattle.graph_model.specs.Graph.{Graph, fields, id_cmp, root}
use Rattle.graph_model.proofs.Whole.Graph.{same_or_other}
use Rattle.graph_model.specs.declared.id.Id.{Id}
use Rattle.graph_model.specs.declared.val.Val.{Val}
use Rattle.graph_model.specs.declared.val.Val.TheVariants.{Ref}
use Rattle.object_layout.specs.Layout.{IsSeenAs, as_ref, birth_at, field_words, id_at, id_of, value}
use Rattle.object_layout.proofs.LayoutLaws.{length-field_words}
use Rattle.object_layout.proofs.ObjectLaws.{end_to_end_begins}
use Rattle.object_layout.specs.Walk.{AreBornBefore, AreEndToEnd, HaveOwnBirths, IsBornBefore, IsInside, IsWalked, used_words}
use Rattle.object_layout.proofs.WalkLaws.{Contains-cases, Contains-head, Contains-none, Contains-rest, object_take, object_take_end}
use Rattle.object_layout.proofs.WalkedLaws.{KeepApart, end_to_end_object, found, gathered, gathered_get, values_found, walked_base, walked_stand}
use Rattle.log_machine.proofs.MapLaws.{apart}
use Rattle.graph_words.specs.Places.{AreOld, IsOld, IsVisible, address_of, addresses, bits_of, made_by, place_of}
use Rattle.graph_words.proofs.Places.Names.{NamesPlaces, address_name, named_places}
use Rattle.graph_words.proofs.Places.Addresses.{address_of-Contains, address_of-cases, address_of-head, address_of-rest}
use Rattle.graph_words.specs.Stands.{AreNamedByBirth, ArePlaced, StandsAt, StandsCommitted}
use Rattle.graph_words.proofs.Stands.Seen.{stands_canon}
use Rattle.graph_words.proofs.Stands.Visible.{place_of-placed, placed_at_hand}

-- Places that names give.

-- the addresses of named objects are where they start
pub addresses-named_places : (name : ℕ → Id) (starts : List ℕ) → addresses (named_places name starts) ≡ starts
addresses-named_places name [] = refl
addresses-named_places name (a ∷ rest) = ap (λ xs. a ∷ xs) (addresses-named_places name rest)

rest_apart : (name : ℕ → Id) (a : ℕ) (rest : List ℕ) → KeepApart name (a ∷ rest) → KeepApart name rest
rest_apart name a rest apart x y one other = apart x y (Contains-rest a rest x one) (Contains-rest a rest y other)

-- an object stands where it starts
pub address_of-named_places : (name : ℕ → Id) (starts : List ℕ) (at : ℕ) → KeepApart name starts → Contains starts at → address_of (named_places name starts) (name at) ≡ Some at
address_of-named_places name [] at apart has = absurd (Contains-none at has)
address_of-named_places name (a ∷ rest) at apart has = elim (same_or_other (name a) (name at)) [
  | inl same ↦
      let here : a ≡ at = apart a at (Contains-head a rest) has same in
      ap (address_of (named_places name (a ∷ rest))) (sym same) ∙ address_of-head (name a, a) (named_places name rest) ∙ ap Some here
  | inr other ↦ elim (Contains-cases a rest at has) [
    | inl here ↦ absurd (other (ap name here))
    | inr later ↦ address_of-rest (name a, a) (named_places name rest) (name at) other ∙ address_of-named_places name rest at (rest_apart name a rest apart) later
  ]
]

-- what has an address has the name of what starts there
pub named_places_name : (name : ℕ → Id) (starts : List ℕ) → NamesPlaces name (named_places name starts)
named_places_name name [] id at is = cc
named_places_name name (a ∷ rest) id at is = elim (address_of-cases (name a, a) (named_places name rest) id at is) [
  | inl here ↦ ap name (sym here.1) ∙ here.0
  | inr later ↦ named_places_name name rest id at later
]

-- what has an address starts there
pub named_places_start : (name : ℕ → Id) (starts : List ℕ) (id : Id) (at : ℕ) → address_of (named_places name starts) id ≡ Some at → Contains starts at
named_places_start name starts id at is = subst (λ (xs : List ℕ). Contains xs at) (addresses-named_places name starts) (address_of-Contains (named_places name starts) id at is)

-- what holds of each name at its start holds of each place
pub named_places_each : (P : Id × ℕ → Type 0) (name : ℕ → Id) (starts : List ℕ) → ((at : ℕ) → Contains starts at → P (name at, at)) → AllByRecursion P (named_places name starts)
named_places_each P name [] each = tt
named_places_each P name (a ∷ rest) each = (each a (Contains-head a rest), named_places_each P name rest (λ at has. each at (Contains-rest a rest at has)))

-- The graph of the objects of a walk.

-- what is in the graph of these objects is one of them
pub gathered_from : (name : ℕ → Id) (words starts : List ℕ) (id : Id) → IsThere (gathered name words starts) id → (at : ℕ) × Contains starts at × (name at ≡ id)
gathered_from name words [] id there = let none = get-empty {X = List Val} id_cmp id in let some = there.1 in cc
gathered_from name words (a ∷ rest) id there = elim (there_insert (gathered name words rest) (name a) id (values_found name words a) there) [
  | inl here ↦ (a, Contains-head a rest, sym here)
  | inr later ↦
      let from = gathered_from name words rest id later in
      (from.0, Contains-rest a rest from.0 from.1, from.2)
]

-- so each stands in the space
pub gathered_placed : (name : ℕ → Id) (words starts : List ℕ) → KeepApart name starts → ArePlaced (named_places name starts) (gathered name words starts)
gathered_placed name words starts apart id there =
    let from = gathered_from name words starts id there in
    ap is_some (ap (address_of (named_places name starts)) (sym from.2) ∙ address_of-named_places name starts from.0 apart from.1)

found_stable : (name : ℕ → Id) (words : List ℕ) (base used b : ℕ) (walked : IsWalked words base used) → Contains walked.starts b → found (value name words (Some (word.Stable b))) ≡ Ref (name b)
found_stable name words base used b walked has = ap (λ o. found (option_and_then (as_ref name) o)) (walked_stand words base used b walked has)

found_bits : (name : ℕ → Id) (words : List ℕ) (base used : ℕ) (walked : IsWalked words base used) (g : Graph) → KeepApart name walked.starts → (meant : Option Word) (w : ℕ) → meaning w ≡ meant
    → IsInside walked.starts meant → w ≡ bits_of (place_of (named_places name walked.starts) g) (found (value name words meant))
found_bits name words base used walked g apart None w is within = absurd within
found_bits name words base used walked g apart (Some word.Null) w is within = (bits-meaning w word.Null is).1
found_bits name words base used walked g apart (Some (word.Int n)) w is within = (bits-meaning w (word.Int n) is).1
found_bits name words base used walked g apart (Some (word.Volatile k)) w is within = absurd within
found_bits name words base used walked g apart (Some (word.Stable b)) w is within =
    let places = named_places name walked.starts in
    (bits-meaning w (word.Stable b) is).1
    ∙ ap bits (sym (place_of-placed places g (name b) b (address_of-named_places name walked.starts b apart within)))
    ∙ ap (bits_of (place_of places g)) (sym (found_stable name words base used b walked within))

found_visible : (name : ℕ → Id) (words : List ℕ) (base used : ℕ) (walked : IsWalked words base used) → KeepApart name walked.starts → (meant : Option Word) (w : ℕ) → meaning w ≡ meant
    → IsInside walked.starts meant → IsVisible (named_places name walked.starts) 0 0 (found (value name words meant))
found_visible name words base used walked apart None w is within = absurd within
found_visible name words base used walked apart (Some word.Null) w is within = tt
found_visible name words base used walked apart (Some (word.Int n)) w is within = (bits-meaning w (word.Int n) is).0
found_visible name words base used walked apart (Some (word.Volatile k)) w is within = absurd within
found_visible name words base used walked apart (Some (word.Stable b)) w is within =
    let places = named_places name walked.starts in
    subst (IsVisible places 0 0) (sym (found_stable name words base used b walked within))
    (placed_at_hand places 0 0 (name b) b (address_of-named_places name walked.starts b apart within))

all_found_bits : (name : ℕ → Id) (words : List ℕ) (place : Id → Word) (ws : List ℕ)
    → ((i w : ℕ) → slice_get ws i ≡ Some w → w ≡ bits_of place (found (value name words (meaning w))))
    → ws ≡ map (bits_of place) (map found (map (λ w. value name words (meaning w)) ws))
all_found_bits name words place [] each = refl
all_found_bits name words place (w ∷ ws) each =
    ap (λ x. x ∷ ws) (each zero w refl)
    ∙ ap (λ xs. bits_of place (found (value name words (meaning w))) ∷ xs) (all_found_bits name words place ws (λ i. each (suc i)))

all_found_visible : (name : ℕ → Id) (words : List ℕ) (P : Val → Type 0) (ws : List ℕ) → ((i w : ℕ) → slice_get ws i ≡ Some w → P (found (value name words (meaning w))))
    → AllByRecursion P (map found (map (λ w. value name words (meaning w)) ws))
all_found_visible name words P [] each = tt
all_found_visible name words P (w ∷ ws) each = (each zero w refl, all_found_visible name words P ws (λ i. each (suc i)))

length-values_found : (name : ℕ → Id) (words : List ℕ) (at : ℕ) → length (values_found name words at) ≡ length (field_words words at)
length-values_found name words at =
    length-map (map (λ w. value name words (meaning w)) (field_words words at)) found ∙ length-map (field_words words at) (λ w. value name words (meaning w))

found_stands_at : (name : ℕ → Id) (words : List ℕ) (base used : ℕ) (walked : IsWalked words base used) → KeepApart name walked.starts → (id : Id) (at : ℕ)
    → address_of (named_places name walked.starts) id ≡ Some at
    → StandsAt (place_of (named_places name walked.starts) (gathered name words walked.starts)) (gathered name words walked.starts) words id at
found_stands_at name words base used walked apart id at is =
    let starts = walked.starts in
    let g = gathered name words starts in
    let has = named_places_start name starts id at is in
    let object = end_to_end_object (used_words words base used) base starts (base + used) at walked.filled.objects has in
    let whole = object_take words (base + used) at object.0 object.1 in
    record {
      values = values_found name words at;
      is = ap (get g) (sym (named_places_name name starts id at is)) ∙ gathered_get name words starts at apart has;
      object = whole ∙ ap Some (sym (length-values_found name words at ∙ length-field_words words at object.0 whole));
      fields = all_found_bits name words (place_of (named_places name starts) g) (field_words words at)
          (λ i w got. found_bits name words base used walked g apart (meaning w) w refl (walked.inside at has i w got));
    }

-- Where a walk passes the graph of its objects stands, if the base has the root's name and the names keep the objects apart.
pub walked_stands : (name : ℕ → Id) (words : List ℕ) (base used : ℕ) (walked : IsWalked words base used) → base + used ≤ 2097152 → name base ≡ root → KeepApart name walked.starts
    → StandsCommitted (named_places name walked.starts) (gathered name words walked.starts) words base used
walked_stands name words base used walked top named apart =
    let starts = walked.starts in
    let places = named_places name starts in
    let g = gathered name words starts in
    record {
      below = top;
      ends = subst (λ (xs : List ℕ). AreEndToEnd (used_words words base used) base xs (base + used)) (sym (addresses-named_places name starts)) walked.filled.objects;
      root_object = walked.filled.root;
      root_place = ap (address_of places) (sym named) ∙ address_of-named_places name starts base apart (walked_base words base used walked);
      names = named_places_each (λ p. address_of places p.0 ≡ Some p.1) name starts (λ at has. address_of-named_places name starts at apart has);
      each = found_stands_at name words base used walked apart;
      visible = λ id at is.
          let has = named_places_start name starts id at is in
          let values_are : fields g id ≡ values_found name words at =
          ap (fields g) (sym (named_places_name name starts id at is)) ∙ ap (λ o. unwrap_or o []) (gathered_get name words starts at apart has) in
          subst (AllByRecursion (IsVisible places 0 0)) (sym values_are)
          (all_found_visible name words (IsVisible places 0 0) (field_words words at)
          (λ i w got. found_visible name words base used walked apart (meaning w) w refl (walked.inside at has i w got)));
    }

-- Names.

-- names by address give that of the root to what stands at the base
pub address_name-base : (base : ℕ) → address_name base base ≡ root
address_name-base base = let none : base - base ≡ 0 = omega arith in ap (made_by 0) none

-- and keep objects apart
pub address_name-KeepApart : (words : List ℕ) (base used : ℕ) (walked : IsWalked words base used) → KeepApart (address_name base) walked.starts
address_name-KeepApart words base used walked a b one other same =
    let from = end_to_end_begins (used_words words base used) base walked.starts (base + used) a walked.filled.objects one in
    let from' = end_to_end_begins (used_words words base used) base walked.starts (base + used) b walked.filled.objects other in
    let far : a - base ≡ b - base = ap (λ (x : Id). x.k) same in omega arith

address_old : (base next at : ℕ) → 1 ≤ next → base ≤ at → IsOld next (address_name base at)
address_old base next at first from = elim (cases_lt base at) [
  | inl above ↦ inr (omega arith, omega arith)
  | inr here ↦ let none : at - base ≡ 0 = omega arith in inl (ap (made_by 0) none)
]

-- they are older than each transaction
pub address_name-AreOld : (words : List ℕ) (base used : ℕ) (walked : IsWalked words base used) (next : ℕ) → 1 ≤ next → AreOld next (named_places (address_name base) walked.starts)
address_name-AreOld words base used walked next first = named_places_each (λ p. IsOld next p.0) (address_name base) walked.starts (λ at has.
    address_old base next at first (end_to_end_begins (used_words words base used) base walked.starts (base + used) at walked.filled.objects has))

-- Where a walk passes a graph stands under names by address.
pub walked_stands_by_address : (words : List ℕ) (base used : ℕ) (walked : IsWalked words base used) → base + used ≤ 2097152
    → StandsCommitted (named_places (address_name base) walked.starts) (gathered (address_name base) words walked.starts) words base used
walked_stands_by_address words base used walked top =
    walked_stands (address_name base) words base used walked top (address_name-base base) (address_name-KeepApart words base used walked)

-- names by birth give that of the root to what stands at the base
pub id_at-base : (words : List ℕ) (base used : ℕ) → IsWalked words base used → id_at words base ≡ root
id_at-base words base used walked =
    let end = object_take_end words (base + used) base 4 walked.filled.root.length in
    ap id_of (sym (get_or-take (base + used) words (base + 1) 0 (omega arith)) ∙ walked.filled.root.birth)

-- and keep objects apart that have births of their own
pub id_at-KeepApart : (words starts : List ℕ) → HaveOwnBirths words starts → KeepApart (id_at words) starts
id_at-KeepApart words starts own a b one other same =
    own a b one other (sym (birth_bits-born (birth_at words a)) ∙ ap (λ (x : Id). birth_bits x.t x.k) same ∙ birth_bits-born (birth_at words b))

born_old : (next birth : ℕ) → IsBornBefore next birth → IsOld next (id_of birth)
born_old next birth (t, k, is, first, small, below) =
    let maker : born_in birth ≡ t = ap born_in is ∙ born_in-birth_bits t k small in
    let index : born_as birth ≡ k = ap born_as is ∙ born_as-birth_bits t k small in
    inr (omega arith, omega arith)

-- and are old where births are
pub id_at-AreOld : (words : List ℕ) (base used : ℕ) (walked : IsWalked words base used) (next : ℕ) → AreBornBefore next words base walked.starts → AreOld next (named_places (id_at words) walked.starts)
id_at-AreOld words base used walked next born = named_places_each (λ p. IsOld next p.0) (id_at words) walked.starts (λ at has. elim (born at has) [
  | inl here ↦ inl (ap (id_at words) here ∙ id_at-base words base used walked)
  | inr from ↦ born_old next (birth_at words at) from
])

-- Where a walk passes and births differ a graph stands under names by birth.
pub walked_stands_by_birth : (words : List ℕ) (base used : ℕ) (walked : IsWalked words base used) → base + used ≤ 2097152 → HaveOwnBirths words walked.starts
    → StandsCommitted (named_places (id_at words) walked.starts) (gathered (id_at words) words walked.starts) words base used
walked_stands_by_birth words base used walked top own =
    walked_stands (id_at words) words base used walked top (id_at-base words base used walked) (id_at-KeepApart words walked.starts own)

-- The canon.

-- all graphs that are seen in words whose walk passes have the canon of that of its objects
pub walked_canon : (name : ℕ → Id) (words : List ℕ) (base used : ℕ) (walked : IsWalked words base used) → base + used ≤ 2097152 → name base ≡ root → KeepApart name walked.starts
    → (other : ℕ → Id) (h : Graph) → IsSeenAs other words base h → canon h ≡ canon (gathered name words walked.starts)
walked_canon name words base used walked top named apart other h seen = stands_canon (walked_stands name words base used walked top named apart) other h seen
