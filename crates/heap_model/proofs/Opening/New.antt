-- A new heap: its log is empty and legal, and the root stands alone in its words, with four null fields.
use Rattle.std.proofs.Common.{◌≡◌, inl, inr, ℕ, suc, ◌-◌, true, List, [], ◌∷◌, replicate, None, Some, is_some, refl, sym, ap, ◌∙◌, subst, arith}
use Rattle.std.specs.Prelude.{slice_set}
use Rattle.std.specs.List.{AllByRecursion}
use Rattle.std.specs.FinMap.{empty, get-empty}
use Rattle.graph_model.specs.declared.id.Id.{Id}
use Rattle.graph_model.specs.declared.val.Val.{Val}
use Rattle.graph_model.specs.declared.val.Val.TheVariants.{Null}
use Rattle.graph_model.specs.Graph.{new_graph, id_cmp, root, fields}
use Rattle.graph_model.proofs.Whole.Graph.{get-insert_same, get-insert_other, same_or_other}
use Rattle.graph_model.proofs.Whole.Root.{fields-root_graph}
use Rattle.image_plan.specs.declared.superblock.Super.{Super}
use Rattle.image_plan.specs.Super.{IsSuper}
use Rattle.log_machine.specs.Machine.{start, words_in, first_contents}
use Rattle.log_machine.proofs.TakenBackLaws.{taken_back-settled}
use Rattle.log_machine.proofs.ReserveLaws.{reserve-start}
use Rattle.page_redo.specs.Pages.{first_pages}
use Rattle.page_redo.proofs.PrefixLaws.{first_pages-prefixes}
use Rattle.page_redo.proofs.RedoLaws.{EachLacks-prefixes}
use Rattle.object_layout.proofs.RootLaws.{StandsAlone, root_object, root_field_words}
use Rattle.graph_words.specs.Places.{address_of, place_of, IsVisible}
use Rattle.graph_words.proofs.Places.Addresses.{address_of-cases}
use Rattle.graph_words.specs.Stands.{StandsAt, StandsCommitted, ArePlaced, AreNamedByBirth}
use Rattle.graph_words.proofs.Stands.Seen.{stands_walked, stands_own_births, stands_born_before}
use Rattle.graph_words.proofs.Stands.Visible.{nulls_visible}
use Rattle.walk_laws.specs.Heap.{HoldsGraph}
use Rattle.walk_laws.proofs.Graph.Held.{stands_completed}
use Rattle.walk_laws.proofs.Graph.TakenBack.{committed_laid}
use Rattle.heap_model.proofs.Opening.Found.{found_of}
use Rattle.heap_model.specs.Bits.{AreOf64Bits}
use Rattle.heap_model.proofs.Step.Bits.{fit_first}
use Rattle.heap_model.specs.Image.{origin_of, words_of, IsLegalLog}
use Rattle.heap_model.specs.Opening.{IsFound}
use Rattle.heap_model.specs.NewHeap.{new_heap, root_place}

-- the words of the root with null fields, and any words after it
abbrev root_words : List ℕ → List ℕ
root_words rest = 17 ∷ 0 ∷ 0 ∷ 0 ∷ 0 ∷ 0 ∷ rest

abbrev nulls : List Val
nulls = replicate 4 Null

alone : (rest : List ℕ) → StandsAlone (root_words rest) 0 nulls
alone rest = record { header = refl; birth = refl; within = omega arith; fields = (refl, (refl, (refl, (refl, tt)))) }

only_root : (id : Id) (at : ℕ) → address_of root_place id ≡ Some at → (root ≡ id) × (0 ≡ at)
only_root id at is = elim (address_of-cases (root, 0) [] id at is) [ inl here ↦ here | inr none ↦ cc ]

root_stands_at : (rest : List ℕ) → StandsAt (place_of root_place new_graph) new_graph (root_words rest) root 0
root_stands_at rest = record {
  values = nulls;
  is = get-insert_same empty root nulls;
  object = root_object (root_words rest) 0 nulls (alone rest);
  fields = root_field_words (root_words rest) 0 nulls (alone rest);
}

each_stands : (rest : List ℕ) (id : Id) (at : ℕ) → address_of root_place id ≡ Some at → StandsAt (place_of root_place new_graph) new_graph (root_words rest) id at
each_stands rest id at is =
    let one = only_root id at is in
    subst (λ (q : Id). StandsAt (place_of root_place new_graph) new_graph (root_words rest) q at) one.0
    (subst (λ (n : ℕ). StandsAt (place_of root_place new_graph) new_graph (root_words rest) root n) one.1 (root_stands_at rest))

each_visible : (id : Id) (at : ℕ) → address_of root_place id ≡ Some at → AllByRecursion (IsVisible root_place 0 0) (fields new_graph id)
each_visible id at is =
    let one = only_root id at is in
    subst (λ (q : Id). AllByRecursion (IsVisible root_place 0 0) (fields new_graph q)) one.0
    (subst (λ vs. AllByRecursion (IsVisible root_place 0 0) vs) (sym (fields-root_graph nulls)) (nulls_visible root_place 0 0 4))

new_stands : (rest : List ℕ) → StandsCommitted root_place new_graph (root_words rest) 0 6
new_stands rest =
    let used = root_object (root_words []) 0 nulls (alone []) in
    record {
      below = omega arith;
      ends = (4, refl, used, refl);
      root_object = record { length = used; birth = refl };
      root_place = refl;
      names = (refl, tt);
      each = each_stands rest;
      visible = each_visible;
    }

abbrev first_words : ℕ → List ℕ
first_words n = slice_set (replicate n 0) 0 17

some_zeros : (n m : ℕ) → n ≡ suc (suc (suc (suc (suc (suc m))))) → first_words n ≡ root_words (replicate m 0)
some_zeros n m is = ap first_words is

-- the root is all that there is in a new graph
root_placed : ArePlaced root_place new_graph
root_placed id there = elim (same_or_other id root) [
  | inl same ↦ subst (λ q. is_some (address_of root_place q) ≡ true) (sym same) refl
  | inr other ↦ let none : None ≡ Some there.0 = sym (get-empty {X = List Val} id_cmp id) ∙ sym (get-insert_other empty root id nulls other) ∙ there.1 in cc none
]

module _ (s : Super) (limits : IsSuper s) where
  new_words : words_of (new_heap s) ≡ root_words (replicate (words_in s.pages - 6) 0)
  new_words =
      let some = limits.some_pages in
      taken_back-settled (start s.pages s.first) (first_contents s.pages) refl ∙ some_zeros (words_in s.pages) (words_in s.pages - 6) (omega arith)

  -- the root stands alone in the words of an empty log
  pub new_stand : StandsCommitted root_place new_graph (words_of (new_heap s)) 0 6
  new_stand = subst (λ ws. StandsCommitted root_place new_graph ws 0 6) (sym new_words) (new_stands (replicate (words_in s.pages - 6) 0))

  -- where its birth gives its name
  pub new_births : AreNamedByBirth root_place (words_of (new_heap s))
  new_births = subst (AreNamedByBirth root_place) (sym new_words) (refl, tt)

  -- so it does in the completed words
  new_holds : HoldsGraph (start s.pages s.first) root_place [] (words_of (new_heap s)) new_graph
  new_holds = record {
    laid = committed_laid (start s.pages s.first) root_place (words_of (new_heap s)) new_graph refl new_stand;
    stands = stands_completed (start s.pages s.first) root_place (words_of (new_heap s)) new_graph refl new_stand;
  }

  -- an empty log is legal beside pages that were never stored
  abbrev pub new_legal : IsLegalLog (new_heap s)
  new_legal =
      let some = limits.some_log in
      let none = reserve-start s.pages s.first in
      let prefixes = first_pages-prefixes s.pages s.first [] in
      record {
        shaped = record {
          limits = limits;
          good = tt;
          state = start s.pages s.first;
          reached = refl;
          room = omega arith;
          size = prefixes.size;
          lsns_size = prefixes.lsns_size;
          behind = EachLacks-prefixes (origin_of (new_heap s)) [] (first_pages s.pages) (omega arith) prefixes;
          fit = subst AreOf64Bits (sym (taken_back-settled (start s.pages s.first) (first_contents s.pages) refl)) (fit_first s.pages);
          walked = stands_walked new_stand;
        };
        prefixes = prefixes;
        births = (stands_own_births new_stand new_births, stands_born_before new_stand new_births s.first (inl refl, tt));
      }

  -- the root is found in it
  pub new_found : IsFound (new_heap s) new_legal.shaped true root_place new_graph
  new_found =
      found_of (new_heap s) new_legal.shaped true root_place [] new_graph (record { holds = new_holds; placed = root_placed; placed_in_completed = root_placed }) (inl refl, tt)
      (λ by_birth. record { names = new_births; originals = tt })
