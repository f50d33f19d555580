-- A graph stands in the completed words, where all fields lead to objects of the two spaces and no two objects have one name.
use Rattle.std.proofs.Common.{◌≡◌, ℕ, suc, ◌+◌, ◌≤◌, inl, inr, List, [], ◌∷◌, ◌++◌, Some, is_some, refl, sym, ap, ◌∙◌, subst, arith}
use Rattle.std.specs.Prelude.{Contains}
use Rattle.std.specs.List.{AllByRecursion}
use Rattle.std.proofs.lemmas.List.Elements.{Contains-append_cases}
use Rattle.std.proofs.lemmas.Option.{same_Some}
use Rattle.heap_spaces.specs.Collection.{Collection}
use Rattle.graph_model.specs.Graph.{Graph, root}
use Rattle.graph_model.specs.declared.id.Id.{Id}
use Rattle.object_layout.proofs.WalkLaws.{Contains-head, Contains-rest}
use Rattle.object_layout.proofs.WalkedLaws.{KeepApart, gathered}
use Rattle.log_machine.specs.Machine.{State, owed, words_in}
use Rattle.log_machine.proofs.ListLaws.{AllByRecursion-map}
use Rattle.graph_words.specs.Places.{Places, address_of, addresses}
use Rattle.graph_words.proofs.Places.Addresses.{name_at-NamesPlaces, named_at, none_or_some}
use Rattle.graph_words.proofs.Places.Names.{NamesPlaces, name_at, named_places}
use Rattle.graph_words.proofs.Seal.Places.{address_of-append_left}
use Rattle.graph_words.proofs.Stands.Walked.{gathered_placed, named_places_name, named_places_start, walked_stands}
use Rattle.graph_words.specs.Stands.{ArePlaced, StandsCommitted}
use Rattle.collection_words.specs.Completed.{completed, future, places_from}
use Rattle.collection_words.specs.Placed.{Ascend, HaveOwnNames}
use Rattle.collection_words.proofs.Copy.Ascending.{ascend_low}
use Rattle.collection_words.proofs.Laid.Completed.{completed_ends}
use Rattle.collection_words.proofs.Laid.Names.{names_own, own_put}
use Rattle.collection_words.proofs.Laid.Sources.{IsCollecting, all_places}
use Rattle.collection_words.proofs.Moves.Sources.{put_same}
use Rattle.walk_laws.specs.Heap.{HoldsWhole}
use Rattle.walk_laws.proofs.Walk.Completed.{all_starts, completed_top, completed_walked}
use Rattle.walk_laws.proofs.Walk.Walked.{ArePlain}

-- Names of places.

-- each place is the one that its name gives
named_again : (name : ℕ → Id) (ps : Places) → AllByRecursion (λ p. name p.1 ≡ p.0) ps → named_places name (addresses ps) ≡ ps
named_again name [] each = refl
named_again name (p ∷ ps) each = ap (λ (id : Id). (id, p.1) ∷ named_places name (addresses ps)) each.0 ∙ ap (λ (qs : Places). p ∷ qs) (named_again name ps each.1)

-- places whose objects have names of their own keep them apart
own_apart : (name : ℕ → Id) (ps : Places) → NamesPlaces name ps → AllByRecursion (λ p. address_of ps p.0 ≡ Some p.1) ps → KeepApart name (addresses ps)
own_apart name ps names own a b has has' same =
    let one = named_at ps a own has in
    let other = named_at ps b own has' in
    let equal : one.0 ≡ other.0 = sym (names one.0 a one.1) ∙ same ∙ names other.0 b other.1 in
    same_Some a b (sym one.1 ∙ ap (address_of ps) equal ∙ other.1)

-- The graph.

-- the names that places give, and the graph of the objects of the completed words
abbrev pub graph_of : State → Places → Places → List ℕ → Graph
graph_of s places remaining words = gathered (name_at (places ++ future s words remaining)) (completed s places remaining words) (all_starts s places remaining words)

-- objects have places before they are put where they have them then
placed_before : (s : State) (words : List ℕ) (places remaining : Places) (g : Graph) → places ++ future s words remaining ≡ places_from words (places ++ remaining) s.base → ArePlaced (places ++ future s words remaining) g
    → ArePlaced (places ++ remaining) g
placed_before s words places remaining g same placed id there =
    sym (put_same words (places ++ remaining) s.base id) ∙ ap (λ (ps : Places). is_some (address_of ps id)) (sym same) ∙ placed id there

-- It stands there.
pub laid_stands : {s : State} {k : Collection} {places remaining : Places} {words : List ℕ} → IsCollecting s k places remaining words → words_in s.pages ≤ 2097152 → ArePlain places words
    → HaveOwnNames (places ++ remaining) → address_of places root ≡ Some s.base → HoldsWhole s places remaining words (graph_of s places remaining words)
laid_stands {s} {places = places} {remaining = remaining} {words = words} is small plain own first =
    let all = places ++ future s words remaining in
    let V = completed s places remaining words in
    let used = s.used + owed s in
    let walked = completed_walked is small plain in
    let name = name_at all in
    let names = name_at-NamesPlaces V s.base all (s.base + used) (completed_ends is) in
    let put = subst HaveOwnNames (sym (all_places is.laid)) (own_put words (places ++ remaining) s.base own) in
    let own_places = names_own all put in
    let apart = own_apart name all names own_places in
    let again = named_again name all (AllByRecursion-map (λ p. address_of all p.0 ≡ Some p.1) (λ p. name p.1 ≡ p.0) all (λ p is_there. names p.0 p.1 is_there) own_places) in
    let rooted = names root s.base (address_of-append_left places (future s words remaining) root s.base first) in
    let g = graph_of s places remaining words in
    let placed = subst (λ (ps : Places). ArePlaced ps g) again (gathered_placed name V (all_starts s places remaining words) apart) in
    record {
      holds = record {
        laid = is.laid;
        stands = subst (λ (ps : Places). StandsCommitted ps g V s.base used) again (walked_stands name V s.base used walked (completed_top is small) rooted apart);
      };
      placed = placed_before s words places remaining g (all_places is.laid) placed;
      placed_in_completed = placed;
    }

-- Names of addresses that ascend.

-- no address stands twice among these
abbrev pub AreOnce : List ℕ → Type 0
AreOnce [] = Unit {0}
AreOnce (x ∷ xs) = (Contains xs x → ⊥) × AreOnce xs

pub ascend_once : (low : ℕ) (xs : List ℕ) → Ascend low xs → AreOnce xs
ascend_once low [] up = tt
ascend_once low (x ∷ xs) up = ((λ has. let above = ascend_low (suc x) xs x up.1 has in omega arith), ascend_once (suc x) xs up.1)

pub once_append : (xs ys : List ℕ) → AreOnce xs → AreOnce ys → ((at : ℕ) → Contains xs at → Contains ys at → ⊥) → AreOnce (xs ++ ys)
once_append [] ys one other apart = other
once_append (x ∷ xs) ys one other apart = (
  λ has. elim (Contains-append_cases xs ys x has) [ inl here ↦ one.0 here | inr there ↦ apart x (Contains-head x xs) there ],
  once_append xs ys one.1 other (λ at has. apart at (Contains-rest x xs at has)),
)

-- names that keep them apart are their own
pub apart_own : (name : ℕ → Id) (xs : List ℕ) → AreOnce xs → KeepApart name xs → HaveOwnNames (named_places name xs)
apart_own name [] once apart = tt
apart_own name (x ∷ xs) once apart = (
  elim (none_or_some (address_of (named_places name xs) (name x))) [
    | inl none ↦ none
    | inr there ↦
        let has = named_places_start name xs (name x) there.0 there.1 in
        let same = apart there.0 x (Contains-rest x xs there.0 has) (Contains-head x xs) (named_places_name name xs (name x) there.0 there.1) in
        absurd (once.0 (subst (λ (y : ℕ). Contains xs y) same has))
  ],
  apart_own name xs once.1 (λ a b one other. apart a b (Contains-rest x xs a one) (Contains-rest x xs b other)),
)
