-- Births of the objects of both spaces, and names by them.
use Rattle.std.proofs.Common.{◌≡◌, ◌≢◌, ◌⊎◌, ℕ, ◌+◌, ◌<◌, ◌≤◌, inl, inr, Bool, true, false, List, [], ◌∷◌, ◌++◌, Option, None, Some, refl, sym, ap, ◌∙◌, subst, arith}
use Rattle.std.specs.Prelude.{Contains, filter}
use Rattle.std.specs.FinSet.{contains}
use Rattle.std.proofs.lemmas.List.{append-nil, map-append}
use Rattle.std.proofs.lemmas.List.Elements.{Contains-append_cases, Contains-append_left, Contains-append_right}
use Rattle.std.proofs.lemmas.Option.{same_Some}
use Rattle.heap_words.specs.Header.{birth_bits, born_as, born_in}
use Rattle.heap_words.proofs.HeaderLaws.{birth_bits-born, born_as-birth_bits, born_in-birth_bits}
use Rattle.heap_spaces.specs.Collection.{Collection}
use Rattle.graph_model.specs.Graph.{Graph, root}
use Rattle.graph_model.specs.declared.id.Id.{Id}
use Rattle.object_layout.specs.Layout.{birth_at, id_at, id_of}
use Rattle.object_layout.specs.Walk.{AreBornBefore, HaveOwnBirths, IsBornBefore}
use Rattle.object_layout.specs.CollectionWalk.{IsCollectionWalked, IsWalkedBeside}
use Rattle.object_layout.proofs.WalkLaws.{Contains-head, filled_one}
use Rattle.object_layout.proofs.WalkedLaws.{births_apart}
use Rattle.stability_tracker.proofs.ListLaws.{Contains-filter, Contains-from_filter}
use Rattle.log_machine.specs.Machine.{State}
use Rattle.log_machine.specs.Collecting.{other_base}
use Rattle.graph_words.specs.Places.{AreOld, IsOld, Places, address_of, addresses}
use Rattle.graph_words.specs.Stands.{AreNamedByBirth}
use Rattle.graph_words.proofs.Places.Addresses.{named_at, placed_as}
use Rattle.graph_words.proofs.Seal.Places.{address_of-append_left}
use Rattle.graph_words.proofs.Stands.Seen.{births_name, stands_born_before, stands_own_births}
use Rattle.graph_words.proofs.Stands.Walked.{named_places_each}
use Rattle.collection_words.specs.Completed.{StandsCompleted, completed, future}
use Rattle.collection_words.specs.LaidOut.{AreOldEndToEnd, StandsOrForwards, old_length}
use Rattle.collection_words.specs.Placed.{HaveOwnNames}
use Rattle.collection_words.proofs.Copy.Stands.{root_current}
use Rattle.collection_words.proofs.Laid.Filled.{filling}
use Rattle.collection_words.proofs.Laid.Names.{names_own, own_names, put_own}
use Rattle.collection_words.proofs.Laid.Old.{old_within}
use Rattle.collection_words.proofs.Laid.Completed.{completed_ends}
use Rattle.collection_words.proofs.Laid.Sources.{IsCollecting, all_places, collecting}
use Rattle.collection_words.proofs.Laid.Write.{unmoved_left}
use Rattle.collection_words.proofs.Moves.Ends.{addresses-append}
use Rattle.walk_laws.specs.Births.{AreBornBeside, AreBornBeforeOrRoot, AreBornInBoth, AreOriginals, HasOriginals, is_uncopied}
use Rattle.walk_laws.specs.Heap.{AreSpaces, HoldsBorn, HoldsWhole, current_starts, from_space_in, left_starts, places_by}
use Rattle.walk_laws.proofs.Graph.Beside.{none_left, stands_none}
use Rattle.walk_laws.proofs.Graph.Held.{spaces_apart, walked_held}
use Rattle.walk_laws.proofs.Walk.Laid.{emptied}
use Rattle.walk_laws.proofs.Walk.Olds.{chain_ends}

-- Births and the names that they give.

same_birth : (b c : ℕ) → id_of b ≡ id_of c → b ≡ c
same_birth b c same = sym (birth_bits-born b) ∙ ap (λ (x : Id). birth_bits x.t x.k) same ∙ birth_bits-born c

-- the root's name is given by 0 alone
root_birth : (b : ℕ) → id_of b ≡ root → b ≡ 0
root_birth b same = same_birth b 0 same

born_before : (next birth : ℕ) (id : Id) → id_of birth ≡ id → 1 ≤ id.k → id.t < next → IsBornBefore next birth
born_before next birth id same first below =
    let index : born_as birth ≡ id.k = ap (λ (x : Id). x.k) same in
    let maker : born_in birth ≡ id.t = ap (λ (x : Id). x.t) same in
    (born_in birth, born_as birth, sym (birth_bits-born birth), omega arith, omega arith, omega arith)

old_born : (next birth : ℕ) (id : Id) → id_of birth ≡ id → IsOld next id → (birth ≡ 0) ⊎ IsBornBefore next birth
old_born next birth id same (inl first) = inl (root_birth birth (same ∙ first))
old_born next birth id same (inr later) = inr (born_before next birth id same later.0 later.1)

born_old : (next birth : ℕ) → (birth ≡ 0) ⊎ IsBornBefore next birth → IsOld next (id_of birth)
born_old next birth (inl none) = inl (ap id_of none)
born_old next birth (inr (t, k, is, first, small, below)) =
    let maker : born_in birth ≡ t = ap born_in is ∙ born_in-birth_bits t k small in
    let index : born_as birth ≡ k = ap born_as is ∙ born_as-birth_bits t k small in
    inr (omega arith, omega arith)

-- The from-space's objects.

-- they stand end to end in one way
pub olds_once : (words : List ℕ) (from : ℕ) (xs ys : List ℕ) (end : ℕ) → AreOldEndToEnd words from xs end → AreOldEndToEnd words from ys end → xs ≡ ys
olds_once words from [] [] end one other = refl
olds_once words from [] (y ∷ ys) end one other =
    let lies = old_within words from (y ∷ ys) end y other (Contains-head y ys) in
    let above = lies.above in
    let below = lies.below in absurd (omega (arith, one))
olds_once words from (x ∷ xs) [] end one other =
    let lies = old_within words from (x ∷ xs) end x one (Contains-head x xs) in
    let above = lies.above in
    let below = lies.below in absurd (omega (arith, other))
olds_once words from (x ∷ xs) (y ∷ ys) end (n, same, long, more) (m, same', long', more') =
    let equal : x ≡ y = same ∙ sym same' in
    let size : n ≡ m = same_Some n m (sym long ∙ ap (old_length words) equal ∙ long') in
    let next : y + 2 + m ≡ x + 2 + n = omega (arith, equal, size) in
    ap (λ (z : ℕ). z ∷ xs) equal ∙ ap (λ (zs : List ℕ). y ∷ zs) (olds_once words (x + 2 + n) xs ys end more (subst (λ (z : ℕ). AreOldEndToEnd words z ys end) next more'))

-- From names to births.

-- no two objects of both spaces have one name
names_of : {s : State} {k : Collection} {places remaining : Places} {words : List ℕ} (g : Graph) → IsCollecting s k places remaining words → StandsCompleted 0 0 places remaining g [] words s
    → HaveOwnNames (places ++ remaining)
names_of {s} {places = places} {remaining = remaining} {words = words} g is stands =
    let all = places ++ future s words remaining in
    let own = own_names all (completed s places remaining words) s.base all _ (completed_ends is) stands.names in
    put_own words (places ++ remaining) s.base (subst HaveOwnNames (all_places is.laid) own)

pub named_births : (ps : Places) (words : List ℕ) → HaveOwnNames ps → AreNamedByBirth ps words → HaveOwnBirths words (addresses ps)
named_births ps words own names a b has has' same =
    let placed = names_own ps own in
    let one = named_at ps a placed has in
    let other = named_at ps b placed has' in
    let equal : one.0 ≡ other.0 = sym (births_name ps words names one.0 a one.1) ∙ ap id_of same ∙ births_name ps words names other.0 b other.1 in
    same_Some a b (sym one.1 ∙ ap (address_of ps) equal ∙ other.1)

-- The births of the objects of both spaces, as their places give them.
record HaveBirths (s : State) (k : Collection) (next : ℕ) (places remaining : Places) (words : List ℕ) : Type 0 where
  pub own : HaveOwnBirths words (addresses places ++ addresses remaining)
  pub here : AreBornBefore next words s.base (addresses places)
  pub left : AreBornBeforeOrRoot next words (addresses remaining)

have_births : {s : State} {k : Collection} {places remaining : Places} {words : List ℕ} (next : ℕ) (g : Graph) → IsCollecting s k places remaining words → HoldsBorn s next places remaining words g
    → HaveBirths s k next places remaining words
have_births {s} {k} {places} {remaining} {words} next g is born =
    let ps = places ++ remaining in
    let split = addresses-append places remaining in
    let own = names_of g is born.holds.stands in
    let placed = names_own ps own in
    let rooted = address_of-append_left places remaining root s.base (root_current is.laid born.holds.stands.root_place) in
    let name_old : (at : ℕ) → Contains (addresses ps) at → (id : Id) × (address_of ps id ≡ Some at) × (id_at words at ≡ id) × IsOld next id =
    λ at has.
    let one = named_at ps at placed has in
    (one.0, one.1, births_name ps words born.tells.names one.0 at one.1, placed_as (λ p. IsOld next p.0) ps one.0 at born.old one.1) in
    record {
      own = subst (HaveOwnBirths words) split (named_births ps words own born.tells.names);
      here = λ at has.
          let one = name_old at (subst (λ (xs : List ℕ). Contains xs at) (sym split) (Contains-append_left (addresses places) (addresses remaining) at has)) in
          elim one.3 [
            | inl first ↦ inl (same_Some at s.base (sym one.1 ∙ ap (address_of ps) first ∙ rooted))
            | inr later ↦ inr (born_before next (birth_at words at) one.0 one.2 later.0 later.1)
          ];
      left = λ at has.
          let one = name_old at (subst (λ (xs : List ℕ). Contains xs at) (sym split) (Contains-append_right (addresses places) (addresses remaining) at has)) in
          old_born next (birth_at words at) one.0 one.2 one.3;
    }

base_or_before : {s : State} {k : Collection} {places remaining : Places} {words : List ℕ} (next : ℕ) → IsCollecting s k places remaining words → AreBornBefore next words s.base (addresses places)
    → AreBornBeforeOrRoot next words (addresses places)
base_or_before {s} {places = places} {words = words} next is born at has = elim (born at has) [
  | inl here ↦ inl (ap (birth_at words) here ∙ (filling words s.base s.used (addresses places) is.laid.filled).birth)
  | inr before ↦ inr before
]

old_before : {s : State} {k : Collection} {places remaining : Places} {words : List ℕ} (next : ℕ) (is : IsCollecting s k places remaining words) → AreOriginals k words is.from.starts
    → HaveBirths s k next places remaining words → (at : ℕ) → Contains is.from.starts at → (moved : Bool) → contains k.moved at ≡ moved → StandsOrForwards words (addresses places) at moved
    → (birth_at words at ≡ 0) ⊎ IsBornBefore next (birth_at words at)
old_before {words = words} next is originals births at has true was (to, leads, current) =
    let kept = originals.kept at to has leads in
    subst (λ (b : ℕ). (b ≡ 0) ⊎ IsBornBefore next b) kept (base_or_before next is births.here to current)
old_before next is originals births at has false unmoved stands = births.left at (unmoved_left is.from at has unmoved)

-- stated of the same lists by other names
born_in_both : {s : State} {k : Collection} {places remaining : Places} {words : List ℕ} (next : ℕ) (is : IsCollecting s k places remaining words) → AreOriginals k words is.from.starts
    → HaveBirths s k next places remaining words → (walked : IsCollectionWalked words s.base s.used (emptied s k)) → addresses places ≡ walked.starts → is.from.starts ≡ walked.olds
    → AreBornInBoth next words s.base s.used (emptied s k) walked
born_in_both {s} {k} {places} {remaining} {words} next is originals births walked here old =
    let starts = addresses places in
    let lefts = addresses remaining in
    let olds = is.from.starts in
    let left_apart : (at b : ℕ) → Contains olds at → is_uncopied k at ≡ true → Contains starts b → birth_at words at ≢ birth_at words b =
    λ at b has left current same.
    let back = subst (λ (xs : List ℕ). Contains xs at) (sym is.from.left) (Contains-filter (is_uncopied k) olds at has left) in
    let equal = births.own at b (Contains-append_right starts lefts at back) (Contains-append_left starts lefts b current) same in
    spaces_apart is b current (subst (λ (x : ℕ). Contains lefts x) equal back) in
    record {
      own_births = subst (HaveOwnBirths words) here (λ a b one other. births.own a b (Contains-append_left starts lefts a one) (Contains-append_left starts lefts b other));
      born_before = subst (AreBornBefore next words s.base) here births.here;
      originals = subst (AreOriginals k words) old originals;
      old_born_before = subst (AreBornBeforeOrRoot next words) old (λ at has. old_before next is originals births at has (contains k.moved at) refl (is.from.forwarded at has));
      left_apart = subst (λ (xs : List ℕ). (at b : ℕ) → Contains xs at → is_uncopied k at ≡ true → Contains walked.starts b → birth_at words at ≢ birth_at words b) old
          (subst (λ (xs : List ℕ). (at b : ℕ) → Contains olds at → is_uncopied k at ≡ true → Contains xs b → birth_at words at ≢ birth_at words b) here left_apart);
    }

originals_in : (s : State) (words : List ℕ) (o : Option Collection) (k : Collection) → o ≡ Some k → HasOriginals s words o → HasOriginals s words (Some k)
originals_in s words o k run has = subst (HasOriginals s words) run has

-- Objects that births name have legal births.
pub named_born : (s : State) (next : ℕ) (places remaining : Places) (words : List ℕ) (g : Graph) → AreSpaces s words → HoldsBorn s next places remaining words g
    → (o : Option Collection) → s.collection ≡ o → (walked : IsWalkedBeside words s.base s.used (from_space_in s o)) → AreBornBeside next words s.base s.used (from_space_in s o) walked
named_born s next places remaining words g spaces born None none walked =
    let left = none_left s places remaining words none born.holds.laid in
    let same : places ++ remaining ≡ places = ap (λ (ps : Places). places ++ ps) left ∙ append-nil places in
    let stands = stands_none s places words g [] none (subst (λ (ps : Places). StandsCompleted 0 0 places ps g [] words s) left born.holds.stands) in
    let names = subst (λ (ps : Places). AreNamedByBirth ps words) same born.tells.names in
    let here = filled_one words s.base s.used (addresses places) walked.starts born.holds.laid.filled walked.filled in
    (subst (HaveOwnBirths words) here (stands_own_births stands names), subst (AreBornBefore next words s.base) here (stands_born_before stands names next (subst (AreOld next) same born.old)))
named_born s next places remaining words g spaces born (Some k) run walked =
    let is = collecting k run spaces.spaced spaces.long born.holds.laid in
    let from = emptied s k in
    let told = originals_in s words s.collection k run born.tells.originals in
    let own_olds = olds_once words (other_base s) told.0 is.from.starts (other_base s + k.used) told.1 is.from.chain in
    let ends = chain_ends words walked.starts from (other_base s) walked.olds (other_base s + k.used) walked.old_filled.objects in
    born_in_both next is (subst (AreOriginals k words) own_olds told.2) (have_births next g is born) walked
    (filled_one words s.base s.used (addresses places) walked.starts born.holds.laid.filled walked.filled)
    (olds_once words (other_base s) is.from.starts walked.olds (other_base s + k.used) is.from.chain ends)

-- From births to names.

start_born : (words : List ℕ) (base next : ℕ) (at : ℕ) → birth_at words base ≡ 0 → (at ≡ base) ⊎ IsBornBefore next (birth_at words at) → (birth_at words at ≡ 0) ⊎ IsBornBefore next (birth_at words at)
start_born words base next at none (inl here) = inl (ap (birth_at words) here ∙ none)
start_born words base next at none (inr before) = inr before

own_both : (words starts lefts : List ℕ) → HaveOwnBirths words starts → HaveOwnBirths words lefts → ((at b : ℕ) → Contains lefts at → Contains starts b → birth_at words at ≢ birth_at words b)
    → HaveOwnBirths words (starts ++ lefts)
own_both words starts lefts own own_left apart a b one other same = elim (Contains-append_cases starts lefts a one) [
  | inl here ↦ elim (Contains-append_cases starts lefts b other) [ inl here' ↦ own a b here here' same | inr there' ↦ absurd (apart b a there' here (sym same)) ]
  | inr there ↦ elim (Contains-append_cases starts lefts b other) [ inl here' ↦ absurd (apart a b there here' same) | inr there' ↦ own_left a b there there' same ]
]

-- What legal births say of the objects of a walk.
record AreLegal (words starts : List ℕ) (base next : ℕ) : Type 0 where
  pub own : HaveOwnBirths words starts
  pub before : AreBornBeforeOrRoot next words starts
  pub first : birth_at words base ≡ 0

legal_births : (s : State) (next : ℕ) (words : List ℕ) (o : Option Collection) (walked : IsWalkedBeside words s.base s.used (from_space_in s o)) → AreBornBeside next words s.base s.used (from_space_in s o) walked
    → AreLegal words (current_starts words s.base s.used (from_space_in s o) walked ++ left_starts words s.base s.used (from_space_in s o) walked) s.base next
legal_births s next words None walked (own, before) =
    let first = (filling words s.base s.used walked.starts walked.filled).birth in
    subst (λ (xs : List ℕ). AreLegal words xs s.base next) (sym (append-nil walked.starts))
    (record { own = own; before = λ at has. start_born words s.base next at first (before at has); first = first })
legal_births s next words (Some k) walked births =
    let lefts = filter (is_uncopied k) walked.olds in
    let first = (filling words s.base s.used walked.starts walked.filled).birth in
    let old : (at : ℕ) → Contains lefts at → Contains walked.olds at × (is_uncopied k at ≡ true) = λ at has. Contains-from_filter (is_uncopied k) walked.olds at has in
    record {
      own = own_both words walked.starts lefts births.own_births (λ a b one other. births.originals.own_births a b (old a one).0 (old b other).0)
          (λ at b left current. births.left_apart at b (old at left).0 (old at left).1 current);
      before = λ at has. elim (Contains-append_cases walked.starts lefts at has) [
        | inl here ↦ start_born words s.base next at first (births.born_before at here)
        | inr there ↦ births.old_born_before at (old at there).0
      ];
      first = first;
    }

legal_originals : (s : State) (next : ℕ) (words : List ℕ) (o : Option Collection) (walked : IsWalkedBeside words s.base s.used (from_space_in s o)) → AreBornBeside next words s.base s.used (from_space_in s o) walked
    → HasOriginals s words o
legal_originals s next words None walked births = tt
legal_originals s next words (Some k) walked births =
    (walked.olds, chain_ends words walked.starts (emptied s k) (other_base s) walked.olds (other_base s + k.used) walked.old_filled.objects, births.originals)

-- Legal births name the objects of a graph.
pub born_named : (s : State) (next : ℕ) (words : List ℕ) → AreSpaces s words → (o : Option Collection) → s.collection ≡ o → (walked : IsWalkedBeside words s.base s.used (from_space_in s o))
    → AreBornBeside next words s.base s.used (from_space_in s o) walked
    → (g : Graph) × HoldsBorn s next (places_by (id_at words) (current_starts words s.base s.used (from_space_in s o) walked)) (places_by (id_at words) (left_starts words s.base s.used (from_space_in s o) walked)) words g
    × HoldsWhole s (places_by (id_at words) (current_starts words s.base s.used (from_space_in s o) walked)) (places_by (id_at words) (left_starts words s.base s.used (from_space_in s o) walked)) words g
born_named s next words spaces o run walked births =
    let name = id_at words in
    let current = current_starts words s.base s.used (from_space_in s o) walked in
    let left = left_starts words s.base s.used (from_space_in s o) walked in
    let legal = legal_births s next words o walked births in
    let held = walked_held s words name spaces (ap id_of legal.first) o run walked (births_apart words (current ++ left) legal.own) in
    let split = map-append (λ at. (name at, at)) current left in (
      held.0,
      record {
        holds = held.1.holds;
        old = subst (AreOld next) split (named_places_each (λ p. IsOld next p.0) name (current ++ left) (λ at has. born_old next (birth_at words at) (legal.before at has)));
        tells = record {
          names = subst (λ (ps : Places). AreNamedByBirth ps words) split (named_places_each (λ p. id_at words p.1 ≡ p.0) name (current ++ left) (λ at has. refl));
          originals = subst (HasOriginals s words) (sym run) (legal_originals s next words o walked births);
        };
      },
      held.1,
    )
