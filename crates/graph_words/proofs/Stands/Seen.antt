-- What is seen in words in which a graph stands: the walk passes, and the graph is seen under the names of its places.
use Rattle.std.proofs.Common.{Contains, List, Some, [], ap, arith, inl, inr, length, map, option_and_then, refl, slice_get, subst, sym, ℕ, ◌+◌, ◌<◌, ◌∙◌, ◌∷◌, ◌≡◌, ◌≤◌}
use Rattle.std.proofs.lemmas.Option.{same_Some}
use Rattle.std.specs.FinMap.{get}
use Rattle.std.specs.List.{AllByRecursion}
use Rattle.heap_words.specs.Header.{born_as, born_in}
use Rattle.heap_words.proofs.HeaderLaws.{birth_bits-born}
use Rattle.heap_words.specs.Word.{bits, meaning}
use Rattle.heap_words.proofs.WordLaws.{meaning-bits}
use Rattle.heap_words.specs.declared.Word.{Word}
use Rattle.heap_words.specs.declared.Word.TheVariants as word
use Rattle.graph_model.specs.Canon.{canon}
use Rattle.graph_model.specs.Graph.{Graph, fields, root}
use Rattle.graph_model.specs.declared.id.Id.{Id}
use Rattle.graph_model.specs.declared.val.Val.{Val}
use Rattle.graph_model.specs.declared.val.Val.TheVariants.{Int, Null, Ref}
use Rattle.object_layout.specs.Layout.{IsKnown, IsMet, IsSeen, IsSeenAs, as_ref, birth_at, id_at, id_of, value}
use Rattle.object_layout.proofs.LayoutLaws.{stand_object}
use Rattle.object_layout.proofs.SeenLaws.{seen_canon}
use Rattle.object_layout.specs.Walk.{AreBornBefore, HaveOwnBirths, IsBornBefore, IsFilled, IsInside, IsWalked, KeepsInside, used_words}
use Rattle.object_layout.proofs.WalkedLaws.{KeepApart, walked_base, walked_met, walked_stand}
use Rattle.graph_words.proofs.Places.Lists.{AllByRecursion-get, got_of_map}
use Rattle.graph_words.specs.Places.{AreOld, IsOld, IsVisible, Places, address_of, addresses, bits_of, place_of}
use Rattle.graph_words.proofs.Places.Names.{NamesPlaces, name_at}
use Rattle.graph_words.proofs.Places.Addresses.{address_of-Contains, name_at-NamesPlaces, placed_as}
use Rattle.graph_words.specs.Stands.{AreNamedByBirth, Stands, StandsCommitted}
use Rattle.graph_words.proofs.Stands.Objects.{stands_get, stands_object, stands_placed, stands_within, stands_words}
use Rattle.graph_words.proofs.Stands.Visible.{committed_address, place_of-placed}

-- The walk.

-- the objects of a graph fill the used words
pub stands_filled : {t made : ℕ} {places : Places} {g : Graph} {words : List ℕ} {base used : ℕ} → Stands t made places g words base used → IsFilled words base used (addresses places)
stands_filled stands = record { root = stands.root_object; objects = stands.ends }

value_inside : (places : Places) (g : Graph) (v : Val) → ((at : ℕ) → Contains (addresses places) at → at < 2097152) → IsVisible places 0 0 v
    → IsInside (addresses places) (meaning (bits_of (place_of places g) v))
value_inside places g Null small seen = subst (IsInside (addresses places)) (sym (meaning-bits word.Null tt)) tt
value_inside places g (Int n) small seen = subst (IsInside (addresses places)) (sym (meaning-bits (word.Int n) seen)) tt
value_inside places g (Ref id) small seen =
    let there = committed_address places id seen in
    let has = address_of-Contains places id there.0 there.1 in
    subst (IsInside (addresses places)) (sym (ap (λ (x : Word). meaning (bits x)) (place_of-placed places g id there.0 there.1) ∙ meaning-bits (word.Stable there.0) (small there.0 has))) has

-- each address is one that a word can hold
pub stands_small : {t made : ℕ} {places : Places} {g : Graph} {words : List ℕ} {base used : ℕ} → Stands t made places g words base used
    → (at : ℕ) → Contains (addresses places) at → at < 2097152
stands_small stands at has =
    let there = stands_placed stands at has in
    let within = stands_within stands there.0 at there.1 in
    let ends = within.below in
    let top = stands.below in omega arith

-- no field leads out
pub stands_inside : {places : Places} {g : Graph} {words : List ℕ} {base used : ℕ} → StandsCommitted places g words base used
    → (at : ℕ) → Contains (addresses places) at → KeepsInside words (addresses places) at
stands_inside {places} {g} {words} stands at has i w is =
    let there = stands_placed stands at has in
    let value = got_of_map (bits_of (place_of places g)) (fields g there.0) i w (ap (λ ws. slice_get ws i) (sym (stands_words stands there.0 at there.1)) ∙ is) in
    let seen = AllByRecursion-get (IsVisible places 0 0) (fields g there.0) i value.0 (stands.visible there.0 at there.1) value.1 in
    subst (λ (x : ℕ). IsInside (addresses places) (meaning x)) value.2 (value_inside places g value.0 (stands_small stands) seen)

-- The walk of words in which a graph stands passes, and meets the objects of its places.
abbrev pub stands_walked : {places : Places} {g : Graph} {words : List ℕ} {base used : ℕ} → StandsCommitted places g words base used → IsWalked words base used
stands_walked {places} stands = record { starts = addresses places; filled = stands_filled stands; inside = stands_inside stands }

-- The graph that is seen.

seen_value : {places : Places} {g : Graph} {words : List ℕ} {base used : ℕ} (name : ℕ → Id) → StandsCommitted places g words base used → NamesPlaces name places
    → (v : Val) → IsVisible places 0 0 v → value name words (meaning (bits_of (place_of places g) v)) ≡ Some v
seen_value {words = words} name stands names Null seen = ap (value name words) (meaning-bits word.Null tt)
seen_value {words = words} name stands names (Int n) seen = ap (value name words) (meaning-bits (word.Int n) seen)
seen_value {places} {g} {words} name stands names (Ref id) seen =
    let there = committed_address places id seen in
    let small = stands_small stands there.0 (address_of-Contains places id there.0 there.1) in
    ap (λ (x : Word). value name words (meaning (bits x))) (place_of-placed places g id there.0 there.1)
    ∙ ap (value name words) (meaning-bits (word.Stable there.0) small)
    ∙ ap (option_and_then (as_ref name)) (stand_object words there.0 (length (fields g id)) (stands_object stands id there.0 there.1))
    ∙ ap (λ x. Some (Ref x)) (names id there.0 there.1)

seen_values : {places : Places} {g : Graph} {words : List ℕ} {base used : ℕ} (name : ℕ → Id) → StandsCommitted places g words base used → NamesPlaces name places
    → (vs : List Val) → AllByRecursion (IsVisible places 0 0) vs → map (λ w. value name words (meaning w)) (map (bits_of (place_of places g)) vs) ≡ map Some vs
seen_values name stands names [] seen = refl
seen_values {places} {g} {words} name stands names (v ∷ vs) seen =
    ap (λ x. x ∷ map (λ w. value name words (meaning w)) (map (bits_of (place_of places g)) vs)) (seen_value name stands names v seen.0)
    ∙ ap (λ xs. Some v ∷ xs) (seen_values name stands names vs seen.1)

seen_known : {places : Places} {g : Graph} {words : List ℕ} {base used : ℕ} (name : ℕ → Id) → StandsCommitted places g words base used → NamesPlaces name places
    → (at : ℕ) → IsMet words base at → IsKnown name words g at
seen_known {places} {g} {words} {base} {used} name stands names at met =
    let there = stands_placed stands at (walked_met words base used (stands_walked stands) at met) in
    record {
      fields = fields g there.0;
      is = ap (get g) (names there.0 at there.1) ∙ stands_get stands there.0 at there.1;
      values = ap (map (λ w. value name words (meaning w))) (stands_words stands there.0 at there.1) ∙ seen_values name stands names (fields g there.0) (stands.visible there.0 at there.1);
    }

-- objects of one name have one address
pub names_apart : {t made : ℕ} {places : Places} {g : Graph} {words : List ℕ} {base used : ℕ} (name : ℕ → Id) → Stands t made places g words base used → NamesPlaces name places
    → KeepApart name (addresses places)
names_apart {places = places} name stands names a b has has' same =
    let one = stands_placed stands a has in
    let other = stands_placed stands b has' in
    let equal : one.0 ≡ other.0 = sym (names one.0 a one.1) ∙ same ∙ names other.0 b other.1 in
    same_Some a b (sym one.1 ∙ ap (address_of places) equal ∙ other.1)

-- A graph that stands in words is seen in them, where the names are those of its places.
pub stands_seen_as : {places : Places} {g : Graph} {words : List ℕ} {base used : ℕ} (name : ℕ → Id) → StandsCommitted places g words base used → NamesPlaces name places
    → IsSeenAs name words base g
stands_seen_as {places} {g} {words} {base} {used} name stands names =
    let walked = stands_walked stands in
    record {
      first = base;
      stands = walked_stand words base used base walked (walked_base words base used walked);
      named = names root base stands.root_place;
      known = seen_known name stands names;
      apart = λ a b one other. names_apart name stands names a b (walked_met words base used walked a one) (walked_met words base used walked b other);
    }

-- the names that its places give
pub stands_names : {t made : ℕ} {places : Places} {g : Graph} {words : List ℕ} {base used : ℕ} → Stands t made places g words base used → NamesPlaces (name_at places) places
stands_names {places = places} {words = words} {base = base} {used = used} stands = name_at-NamesPlaces (used_words words base used) base places (base + used) stands.ends

-- under these it is seen
pub stands_seen_at : {places : Places} {g : Graph} {words : List ℕ} {base used : ℕ} → StandsCommitted places g words base used → IsSeenAs (name_at places) words base g
stands_seen_at {places} stands = stands_seen_as (name_at places) stands (stands_names stands)

-- births give the names where they do so of each place
pub births_name : (places : Places) (words : List ℕ) → AreNamedByBirth places words → NamesPlaces (id_at words) places
births_name places words born id at is = placed_as (λ p. id_at words p.1 ≡ p.0) places id at born is

-- All graphs that are seen in the words have the canon of the one that stands there, whatever the names.
pub stands_canon : {places : Places} {g : Graph} {words : List ℕ} {base used : ℕ} → StandsCommitted places g words base used
    → (name : ℕ → Id) (h : Graph) → IsSeenAs name words base h → canon h ≡ canon g
stands_canon {places} {g} {words} {base} stands name h seen = seen_canon name (name_at places) words base h g seen (stands_seen_at stands)

-- Births.

-- objects that births name have births of their own
pub stands_own_births : {t made : ℕ} {places : Places} {g : Graph} {words : List ℕ} {base used : ℕ} → Stands t made places g words base used → AreNamedByBirth places words
    → HaveOwnBirths words (addresses places)
stands_own_births {places = places} {words = words} stands born a b has has' same = names_apart (id_at words) stands (births_name places words born) a b has has' (ap id_of same)

born_before : (next birth : ℕ) (id : Id) → id_of birth ≡ id → 1 ≤ id.k → id.t < next → IsBornBefore next birth
born_before next birth id same first below =
    let index : born_as birth ≡ id.k = ap (λ (x : Id). x.k) same in
    let maker : born_in birth ≡ id.t = ap (λ (x : Id). x.t) same in
    (born_in birth, born_as birth, sym (birth_bits-born birth), omega arith, omega arith, omega arith)

-- and were born before the next transaction where their names are old
pub stands_born_before : {t made : ℕ} {places : Places} {g : Graph} {words : List ℕ} {base used : ℕ} → Stands t made places g words base used → AreNamedByBirth places words
    → (next : ℕ) → AreOld next places → AreBornBefore next words base (addresses places)
stands_born_before {places = places} {words = words} {base = base} stands born next old at has =
    let there = stands_placed stands at has in
    let name = births_name places words born there.0 at there.1 in
    elim (placed_as (λ p. IsOld next p.0) places there.0 at old there.1) [
      | inl root_there ↦ inl (same_Some at base (sym there.1 ∙ ap (address_of places) root_there ∙ stands.root_place))
      | inr from ↦ inr (born_before next (birth_at words at) there.0 name from.0 from.1)
    ]
