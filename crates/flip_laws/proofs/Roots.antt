-- Roots from which a flip can be made: they are copied, and the others remain.
use Rattle.std.proofs.Common.{◌≡◌, ◌⊎◌, ℕ, ◌+◌, ◌==◌, inl, inr, Bool, true, false, not, List, [], ◌∷◌, Option, None, Some, map, refl, sym, ap, ◌∙◌, subst, arith}
use Rattle.std.specs.Prelude.{Contains, filter, slice_index, unwrap_or, if◌then◌else◌}
use Rattle.std.specs.List.{flat_map}
use Rattle.std.specs.FinMap.{get}
use Rattle.std.specs.FinSet.{contains}
use Rattle.std.specs.List.Sorted.{IsStrictlyIncreasing}
use Rattle.std.proofs.lemmas.Bool.{eqb-true}
use Rattle.heap_words.specs.Word.{is_volatile}
use Rattle.heap_spaces.specs.declared.collection.CopiedObject.{CopiedObject}
use Rattle.log_records.specs.declared.copies.ObjectCopy.{ObjectCopy}
use Rattle.log_machine.specs.declared.UndoEntry.{UndoEntry}
use Rattle.log_machine.specs.Collecting.{other_base, pairs_of}
use Rattle.log_machine.specs.Machine.{State, field_at, put_all, spaces_of, writes_of}
use Rattle.object_layout.proofs.WalkLaws.{Contains-cases, Contains-head, Contains-none}
use Rattle.stability_tracker.proofs.ListLaws.{Contains-filter, Contains-from_filter}
use Rattle.flip_copy.specs.Copied.{moved_objects, copied_size, with_base}
use Rattle.flip_copy.specs.Flipped.{IsPlanned, IsRooted}
use Rattle.flip_copy.proofs.CopiesLaws.{moved_size}
use Rattle.flip_copy.proofs.ObjectWordsLaws.{with_base_roots}
use Rattle.graph_words.specs.Places.{Places, addresses}
use Rattle.collection_words.specs.Completed.{moves_from, taken_at, taken_by}
use Rattle.collection_words.specs.Flipped.{HasBegun, IsFlipping, copies_of_flip, flipped_words}
use Rattle.collection_words.specs.Placed.{Ascend}
use Rattle.collection_words.proofs.Copy.Ascending.{ascend_filter}
use Rattle.collection_words.proofs.Laid.Filled.{filling}
use Rattle.collection_words.proofs.Laid.Sources.{here_ends}
use Rattle.collection_words.proofs.Laid.Within.{start_within}
use Rattle.flip_laws.specs.Flip.{CanFlip, HasEntry, IsEntryOf, collection_begun, copies_of, copy_places, left_places, root_places, state_behind, words_behind}
use Rattle.flip_laws.proofs.Copies.{flip_froms, flip_pairs, flip_size, flip_tos, grays_of, laid_copies, place_tos, same_copies}
use Rattle.flip_laws.proofs.Lists.{ascend_ends, ascend_one, ascend_strict, from_set, in_set}
use Rattle.flip_laws.proofs.Parts.{parts_same, passing_addresses, passing_place}

-- The roots, with the root object first.

with_base-cases : (base : ℕ) (roots : List ℕ) (at : ℕ) → Contains (with_base base roots) at → (base ≡ at) ⊎ Contains roots at
with_base-cases base [] at has = elim (Contains-cases base [] at has) [ inl here ↦ inl here | inr none ↦ absurd (Contains-none at none) ]
with_base-cases base (root ∷ roots) at has = choose (root == base) has
  where
    choose : (b : Bool) → Contains (if b then root ∷ roots else base ∷ root ∷ roots) at → (base ≡ at) ⊎ Contains (root ∷ roots) at
    choose true here = inr here
    choose false here = Contains-cases base (root ∷ roots) at here

-- the root object is the first
pub with_base-first : (base : ℕ) (roots : List ℕ) → (rest : List ℕ) × (with_base base roots ≡ base ∷ rest)
with_base-first base [] = ([], refl)
with_base-first base (root ∷ roots) = choose (root == base) refl
  where
    choose : (b : Bool) → (root == base) ≡ b → (rest : List ℕ) × ((if b then root ∷ roots else base ∷ root ∷ roots) ≡ base ∷ rest)
    choose true is = (roots, ap (λ (x : ℕ). x ∷ roots) (eqb-true root base is))
    choose false is = (root ∷ roots, refl)

-- each is an object
pub root_start : {s : State} {places : Places} {words roots : List ℕ} → CanFlip s places words roots → (at : ℕ) → Contains (with_base s.base roots) at → Contains (addresses places) at
root_start {s} {places} {words} {roots} can at has = elim (with_base-cases s.base roots at has) [
  | inl here ↦ subst (λ (x : ℕ). Contains (addresses places) x) here (filling words s.base s.used (addresses places) can.laid.filled).first
  | inr root ↦ can.among at root
]

-- and they ascend
pub roots_ascend : {s : State} {places : Places} {words roots : List ℕ} → CanFlip s places words roots → Ascend s.base (with_base s.base roots)
roots_ascend {s} {places} {words} {roots} can =
    let head = with_base-first s.base roots in
    let all = with_base_roots words (spaces_of s) roots (record { starts = addresses places; filled = can.laid.filled; ascending = can.ascending; among = can.among }) in
    subst (Ascend s.base) (sym head.1) (ascend_strict s.base s.base head.0 (omega arith) (subst (λ (xs : List ℕ). IsStrictlyIncreasing xs) head.1 all.ascending))

-- an undo entry is of roots
pub entry_rooted : {s : State} {places : Places} {words roots : List ℕ} → CanFlip s places words roots → (u : UndoEntry) → IsEntryOf s u → IsRooted words (with_base s.base roots) u
entry_rooted {s} {places} {words} {roots} can u (t, has) = found (get s.undo t) refl has
  where
    found : (o : Option (List UndoEntry)) → get s.undo t ≡ o → Contains (unwrap_or o []) u → IsRooted words (with_base s.base roots) u
    found None is none = absurd (Contains-none u none)
    found (Some us) is there = can.rooted t us is u there

-- The plan.

-- The copies of the roots are a plan.
pub flip_planned : {s : State} {places : Places} {words roots : List ℕ} → CanFlip s places words roots → IsPlanned s words roots (copies_of s words roots)
flip_planned {s} {places} {words} {roots} can = record {
  consistent = can.consistent;
  none = can.none;
  are = refl;
  copied = laid_copies can.laid s.base (other_base s) (with_base s.base roots) (omega arith) (roots_ascend can) (root_start can);
  rooted = can.rooted;
}

-- these copies
pub copies_are : {s : State} {places : Places} {words roots : List ℕ} → CanFlip s places words roots → copies_of s words roots ≡ copies_of_flip words (with_base s.base roots) (other_base s)
copies_are {s} {places} {words} {roots} can =
    same_copies words (other_base s) (with_base s.base roots) (λ at has. let object = start_within can.laid at (root_start can at has) in (object.fields, object.object))

-- What is copied.

moved_from : {s : State} {places : Places} {words roots : List ℕ} → CanFlip s places words roots
    → map (λ (c : CopiedObject). c.from) (moved_objects (copies_of s words roots)) ≡ with_base s.base roots
moved_from {s} {places} {words} {roots} can =
    ap (λ (cs : List ObjectCopy). map (λ (c : CopiedObject). c.from) (moved_objects cs)) (copies_are can) ∙ flip_froms words (with_base s.base roots) (other_base s)

-- each root
pub root_moved : {s : State} {places : Places} {words roots : List ℕ} → CanFlip s places words roots → (at : ℕ) → Contains (with_base s.base roots) at → contains (collection_begun s words roots).moved at ≡ true
root_moved {s} {places} {words} {roots} can at has =
    in_set (map (λ (c : CopiedObject). c.from) (moved_objects (copies_of s words roots))) at (subst (λ (xs : List ℕ). Contains xs at) (sym (moved_from can)) has)

-- and nothing else
pub moved_root : {s : State} {places : Places} {words roots : List ℕ} → CanFlip s places words roots → (at : ℕ) → contains (collection_begun s words roots).moved at ≡ true → Contains (with_base s.base roots) at
moved_root {s} {places} {words} {roots} can at has =
    subst (λ (xs : List ℕ). Contains xs at) (moved_from can) (from_set (map (λ (c : CopiedObject). c.from) (moved_objects (copies_of s words roots))) at has)

-- The objects that are copied are those of the roots.
pub roots_copied : {s : State} {places : Places} {words roots : List ℕ} → CanFlip s places words roots → addresses (root_places s words roots places) ≡ with_base s.base roots
roots_copied {s} {places} {words} {roots} can =
    let ats = with_base s.base roots in
    let starts = addresses places in
    let f : ℕ → Bool = λ at. contains (collection_begun s words roots).moved at in
    passing_addresses f places
    ∙ ascend_one s.base s.base (filter f starts) ats (ascend_filter f s.base starts (ascend_ends words s.base starts (s.base + s.used) (here_ends can.laid))) (roots_ascend can)
    (λ at has. moved_root can at (Contains-from_filter f starts at has).1)
    (λ at has. Contains-filter f starts at (root_start can at has) (root_moved can at has))

-- The copies of the roots part the objects.
pub flip_flipping : {s : State} {places : Places} {words roots : List ℕ} → CanFlip s places words roots → IsFlipping s places (root_places s words roots places) (left_places s words roots places) words
flip_flipping {s} {places} {words} {roots} can =
    let f : ℕ → Bool = λ at. contains (collection_begun s words roots).moved at in
    let copied = roots_copied can in
    record {
      spaced = can.consistent.spaced;
      long = can.long;
      small = can.consistent.addresses;
      laid = can.laid;
      up = subst (Ascend s.base) (sym copied) (roots_ascend can);
      starts = λ at has. root_start can at (subst (λ (xs : List ℕ). Contains xs at) copied has);
      parts = λ id at placed. elim (true_or_false (f at)) [
        | inl moved ↦ inl (passing_place f places id at placed moved)
        | inr still ↦ inr (
          passing_place (λ a. not (f a)) places id at placed (ap not still),
          λ has. let clash = sym still ∙ root_moved can at (subst (λ (xs : List ℕ). Contains xs at) copied has) in cc,
        )
      ];
      same = parts_same f places;
    }
  where
    true_or_false : (b : Bool) → (b ≡ true) ⊎ (b ≡ false)
    true_or_false true = inl refl
    true_or_false false = inr refl

-- The collection.

gray_places : {s : State} {places : Places} {words roots : List ℕ} → CanFlip s places words roots → addresses (copy_places s words roots places) ≡ grays_of (copies_of s words roots)
gray_places {s} {places} {words} {roots} can =
    let to = other_base s in
    place_tos words (root_places s words roots places) to
    ∙ ap (λ (xs : List ℕ). map (λ (m : ℕ × ℕ). m.1) (moves_from words xs to)) (roots_copied can)
    ∙ sym (flip_tos words (with_base s.base roots) to)
    ∙ sym (ap grays_of (copies_are can))

-- a field of an object that remains is not volatile
left_plain : {s : State} {places : Places} {words roots : List ℕ} → CanFlip s places words roots → (at w : ℕ) → (contains (collection_begun s words roots).moved at ≡ true → ⊥) → (is_volatile w ≡ true → HasEntry s at)
    → is_volatile w ≡ false
left_plain {s} {places} {words} {roots} can at w never written = decide (is_volatile w) (λ is. never (rooted (written is)))
  where
    rooted : HasEntry s at → contains (collection_begun s words roots).moved at ≡ true
    rooted (u, is_entry, same) = root_moved can at (subst (λ (x : ℕ). Contains (with_base s.base roots) x) same (entry_rooted can u is_entry).object)

    decide : (b : Bool) → (b ≡ true → ⊥) → b ≡ false
    decide true none = absurd (none refl)
    decide false none = refl

-- The state has the collection that has begun with the copies.
pub flip_begun : {s : State} {places : Places} {words roots : List ℕ} → CanFlip s places words roots
    → HasBegun s (state_behind s words roots) (collection_begun s words roots) places (root_places s words roots places) (left_places s words roots places) words
flip_begun {s} {places} {words} {roots} can =
    let to = other_base s in
    let ats = with_base s.base roots in
    let copies = copies_of s words roots in
    let starts = addresses places in
    let f : ℕ → Bool = λ at. contains (collection_begun s words roots).moved at in
    let copied = roots_copied can in
    let head = with_base-first s.base roots in
    let size : copied_size copies ≡ taken_by words (addresses (root_places s words roots places)) = ap copied_size (copies_are can) ∙ flip_size words ats to ∙ ap (taken_by words) (sym copied) in
    let counted = moved_size copies in
    record {
      flipped = record { base = refl; pages = refl };
      used = size;
      run = refl;
      words_left = refl;
      copied = omega (arith, counted, size);
      moved = passing_addresses f places;
      left = passing_addresses (λ a. not (f a)) places;
      grays = λ at has. subst (λ (xs : List ℕ). Contains xs at) (sym (gray_places can)) (from_set (grays_of copies) at has);
      gray = λ at has. in_set (grays_of copies) at (subst (λ (xs : List ℕ). Contains xs at) (gray_places can) has);
      first = subst (λ (xs : List ℕ). Contains (moves_from words xs to) (s.base, to)) (sym (copied ∙ head.1)) (Contains-head (s.base, to) (moves_from words head.0 (to + taken_at words s.base)));
      plain = λ at has n i object below.
          let kept = Contains-from_filter (λ (a : ℕ). not (f a)) starts at (subst (λ (xs : List ℕ). Contains xs at) (passing_addresses (λ a. not (f a)) places) has) in
          left_plain can at (slice_index words (field_at at i)) (λ moved. let clash = sym kept.1 ∙ ap not moved in cc) (can.written at kept.0 n i object below);
    }

-- Where the objects went, and the words.

pub pairs_are : {s : State} {places : Places} {words roots : List ℕ} → CanFlip s places words roots
    → pairs_of (copies_of s words roots) ≡ moves_from words (addresses (root_places s words roots places)) (other_base s)
pairs_are {s} {places} {words} {roots} can =
    ap pairs_of (copies_are can) ∙ flip_pairs words (with_base s.base roots) (other_base s) ∙ ap (λ (xs : List ℕ). moves_from words xs (other_base s)) (sym (roots_copied can))

pub words_are : {s : State} {places : Places} {words roots : List ℕ} → CanFlip s places words roots → flipped_words s words (addresses (root_places s words roots places)) ≡ words_behind s words roots
words_are {s} {places} {words} {roots} can =
    ap (flipped_words s words) (roots_copied can) ∙ sym (ap (λ (cs : List ObjectCopy). put_all words (flat_map writes_of cs)) (copies_are can))
