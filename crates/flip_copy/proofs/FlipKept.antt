-- What a flip leaves: the entries of each transaction, a state that is consistent, gray copies, and a record that has a spelling.
use Rattle.std.proofs.Common.{◌≡◌, ◌≢◌, ℕ, ◌+◌, ◌-◌, ◌==◌, ◌≤◌, ◌⊎◌, inl, inr, Bool, true, false, cond, List, [], ◌∷◌, length, Option, None, Some, refl, sym, ap, ◌∙◌, subst, arith}
use Rattle.std.specs.Prelude.{map, sum_by, unwrap_or, Contains, ◌||◌, if◌then◌else◌}
use Rattle.std.specs.List.{AllByRecursion, flat_map}
use Rattle.std.specs.Option.{option_map}
use Rattle.std.specs.Ordering.{nat_cmp, eq_by_cmp}
use Rattle.std.specs.Cmp.{nat_cmp_total}
use Rattle.std.specs.FinMap.{FinMap, get, entries, find, get-from_entries, get-entries}
use Rattle.std.specs.FinSet.{FinSet, empty, contains, insert, contains-insert}
use Rattle.heap_spaces.specs.Addresses.{with_all}
use Rattle.heap_spaces.specs.Collection.{gray_from}
use Rattle.heap_spaces.specs.Copying.{begun, with_copies}
use Rattle.heap_spaces.specs.Spaces.{with_copied, flipped}
use Rattle.heap_spaces.specs.declared.collection.CopiedObject.{CopiedObject}
use Rattle.log_machine.specs.Collecting.{other_base, pairs_of, copy_of, translated_undo}
use Rattle.log_machine.specs.Machine.{State, spaces_of, undo_of}
use Rattle.log_machine.specs.Sound.{AreLosers, IsSpaced, IsConsistent}
use Rattle.log_machine.specs.Translation.{translated_entry, translated_list}
use Rattle.log_machine.specs.UndoEntry.{LiesInside}
use Rattle.log_machine.specs.declared.UndoEntry.{UndoEntry}
use Rattle.log_machine.proofs.MapLaws.{itself}
use Rattle.log_records.specs.declared.copies.ObjectCopy.{ObjectCopy}
use Rattle.object_layout.proofs.WalkLaws.{Contains-head, Contains-rest, Contains-cases, Contains-none}
use Rattle.relocation.specs.Relocation.{destination, moved_to}
use Rattle.flip_copy.specs.Copied.{object_words_at, copies_from, with_base, moved_objects, copied_size}
use Rattle.flip_copy.specs.Flipped.{IsRooted, IsPlanned, with_flip}
use Rattle.flip_copy.specs.Plan.{HasObjectSize, StandEndToEnd}
use Rattle.flip_copy.proofs.CopiesLaws.{size_more, moved_size, ordered_size}
use Rattle.flip_copy.proofs.FlipLaws.{found_copy, found_size}
use Rattle.flip_copy.proofs.ObjectWordsLaws.{words_object, object_words-length}

-- The spaces.

pub flip_spaces : (s : State) (copies : List ObjectCopy) → spaces_of (with_flip s copies) ≡ with_copied (flipped (spaces_of s)) (copied_size copies)
flip_spaces s copies =
    let counted : s.used - (0 + sum_by (λ (c : CopiedObject). c.words) (moved_objects copies)) ≡ s.used - copied_size copies = let same = moved_size copies in omega arith in
    let used : copied_size copies ≡ 0 + copied_size copies = omega arith in
    λ i. record { pages = s.pages; base = other_base s; used = used i; owed = counted i }

-- The entries.

found_mapped : {X Y : Type 0} (f : X → Y) (es : List (ℕ × X)) (q : ℕ) → find nat_cmp q (map (λ e. (e.0, f e.1)) es) ≡ option_map f (find nat_cmp q es)
found_mapped f [] q = refl
found_mapped {X} {Y} f (e ∷ es) q = pick (eq_by_cmp nat_cmp q e.0) (find nat_cmp q (map (λ (x : ℕ × X). (x.0, f x.1)) es)) (find nat_cmp q es) (found_mapped f es q)
  where
    pick : (b : Bool) (left : Option Y) (right : Option X) → left ≡ option_map f right → cond b (Some (f e.1)) left ≡ option_map f (cond b (Some e.1) right)
    pick true left right same = refl
    pick false left right same = same

-- the entries of a transaction after the flip
pub translated_get : (pairs : List (ℕ × ℕ)) (undo : FinMap nat_cmp (List UndoEntry)) (t : ℕ) → get (translated_undo pairs undo) t ≡ option_map (translated_list pairs) (get undo t)
translated_get pairs undo t =
    get-from_entries nat_cmp_total (map (λ (e : ℕ × List UndoEntry). (e.0, translated_list pairs e.1)) (entries undo)) t
    ∙ found_mapped (translated_list pairs) (entries undo) t
    ∙ ap (option_map (translated_list pairs)) (sym (get-entries undo t))

unwrapped : (pairs : List (ℕ × ℕ)) (o : Option (List UndoEntry)) → unwrap_or (option_map (translated_list pairs) o) [] ≡ translated_list pairs (unwrap_or o [])
unwrapped pairs None = refl
unwrapped pairs (Some us) = refl

-- each transaction's entries are translated
pub flip_undo : (s : State) (copies : List ObjectCopy) (t : ℕ) → undo_of (with_flip s copies) t ≡ translated_list (pairs_of copies) (undo_of s t)
flip_undo s copies t = ap (λ (o : Option (List UndoEntry)). unwrap_or o []) (translated_get (pairs_of copies) s.undo t) ∙ unwrapped (pairs_of copies) (get s.undo t)

-- What entries name.

copy_goes : (copies : List ObjectCopy) (from : ℕ) (copy : ObjectCopy) → copy_of copies from ≡ Some copy → destination (pairs_of copies) from ≡ Some copy.to
copy_goes [] from copy is = absurd (cc is)
copy_goes (c ∷ copies) from copy is = choose (c.from == from) (copy_goes copies from copy) is
  where
    choose : (b : Bool) → (copy_of copies from ≡ Some copy → destination (pairs_of copies) from ≡ Some copy.to) → (if b then Some c else copy_of copies from) ≡ Some copy
        → (if b then Some c.to else destination (pairs_of copies) from) ≡ Some copy.to
    choose true later same = cc same
    choose false later same = later same

-- an object that is copied leads to its copy
copied_to : (copies : List ObjectCopy) (from : ℕ) (copy : ObjectCopy) → copy_of copies from ≡ Some copy → moved_to (pairs_of copies) from ≡ copy.to
copied_to copies from copy is = ap (λ (o : Option ℕ). unwrap_or o from) (copy_goes copies from copy is)

-- a copy lies within the words
abbrev LiesWithin : ℕ → ℕ → ObjectCopy → Type 0
LiesWithin to size copy = (to ≤ copy.to) × (copy.to + length copy.words ≤ to + size)

-- each copy lies within all words
copied_within : (copies : List ObjectCopy) (to from : ℕ) (copy : ObjectCopy) → StandEndToEnd to copies → copy_of copies from ≡ Some copy → LiesWithin to (copied_size copies) copy
copied_within [] to from copy together is = absurd (cc is)
copied_within (c ∷ copies) to from copy together is = choose (c.from == from) (copied_within copies (to + length c.words) from copy together.1) is
  where
    choose : (b : Bool) → (copy_of copies from ≡ Some copy → LiesWithin (to + length c.words) (copied_size copies) copy) → (if b then Some c else copy_of copies from) ≡ Some copy → LiesWithin to (copied_size (c ∷ copies)) copy
    choose true later e =
        let same : c ≡ copy = cc e in
        let here : copy.to ≡ to = sym (ap (λ (k : ObjectCopy). k.to) same) ∙ together.0 in
        let long : length c.words ≡ length copy.words = ap (λ (k : ObjectCopy). length k.words) same in
        let more = size_more c copies in
        (omega arith, omega arith)
    choose false later e =
        let rest = later e in
        let more = size_more c copies in
        (omega (arith, rest.0), omega (arith, rest.1))

-- an entry's field lies within the copies
entry_inside : (words : List ℕ) (to : ℕ) (ats : List ℕ) (u : UndoEntry) → let copies = copies_from words to ats in
    AllByRecursion HasObjectSize copies → StandEndToEnd to copies → IsRooted words ats u → LiesInside to (copied_size copies) (translated_entry (pairs_of copies) u)
entry_inside words to ats u sized together rooted =
    let copies = copies_from words to ats in
    let found = found_copy words to ats u.object rooted.object in
    let copy : ObjectCopy = record { from = u.object; to = found.0; words = object_words_at words u.object } in
    let size = (found_size copies u.object copy sized found.1).least in
    let object = words_object words u.object size in
    let long = object_words-length words u.object object.0 object.1 in
    let less = rooted.field object.0 object.1 in
    let within = copied_within copies to u.object copy together found.1 in
    let there : moved_to (pairs_of copies) u.object ≡ found.0 = copied_to copies u.object copy found.1 in
    record { above = omega (arith, within.0); below = omega (arith, within.1) }

entries_inside : (words : List ℕ) (to : ℕ) (ats : List ℕ) (us : List UndoEntry) → let copies = copies_from words to ats in
    AllByRecursion HasObjectSize copies → StandEndToEnd to copies → ((u : UndoEntry) → Contains us u → IsRooted words ats u)
    → AllByRecursion (LiesInside to (copied_size copies)) (translated_list (pairs_of copies) us)
entries_inside words to ats [] sized together each = tt
entries_inside words to ats (u ∷ us) sized together each = (
  entry_inside words to ats u sized together (each u (Contains-head u us)),
  entries_inside words to ats us sized together (λ v has. each v (Contains-rest u us v has)),
)

some_mapped : (pairs : List (ℕ × ℕ)) (us : List UndoEntry) → us ≢ [] → translated_list pairs us ≢ []
some_mapped pairs [] some none = some refl
some_mapped pairs (u ∷ us) some none = absurd (cc none)

mapped_back : (pairs : List (ℕ × ℕ)) (o : Option (List UndoEntry)) (us : List UndoEntry) → option_map (translated_list pairs) o ≡ Some us → (vs : List UndoEntry) × (o ≡ Some vs) × (translated_list pairs vs ≡ us)
mapped_back pairs None us is = absurd (cc is)
mapped_back pairs (Some vs) us is = (vs, refl, cc is)

flip_losers : (s : State) (words roots : List ℕ) → let copies = copies_from words (other_base s) (with_base s.base roots) in IsPlanned s words roots copies → AreLosers (with_flip s copies)
flip_losers s words roots is t us found =
    let ats = with_base s.base roots in
    let copies = copies_from words (other_base s) ats in
    let pairs = pairs_of copies in
    let back = mapped_back pairs (get s.undo t) us (sym (translated_get pairs s.undo t) ∙ found) in
    let loser = is.consistent.sound t back.0 back.1 in
    record {
      some = λ none. some_mapped pairs back.0 loser.some (back.2 ∙ none);
      number = loser.number;
      known = loser.known;
      inside = subst (λ (vs : List UndoEntry). AllByRecursion (LiesInside (other_base s) (copied_size copies)) vs) back.2
          (entries_inside words (other_base s) ats back.0 is.copied.sized is.copied.together (is.rooted t back.0 back.1));
    }

-- The state.

flip_spaced : (s : State) (words roots : List ℕ) (copies : List ObjectCopy) → IsPlanned s words roots copies → IsSpaced (with_flip s copies)
flip_spaced s words roots copies is =
    let spaced = is.consistent.spaced in
    let room = spaced.room in
    let fits = ordered_size s.base (s.base + s.used) copies is.copied.ordered in
    let counted = moved_size copies in
    record {
      first = elim spaced.first [ inl first ↦ inr (omega arith) | inr second ↦ inl (omega arith) ];
      room = omega arith;
      within = record { copied = omega arith; used = omega arith };
    }

-- the state after a flip is consistent: what is used and what is owed have room, and entries lie in the used words
pub flip_consistent : (s : State) (words roots : List ℕ) (copies : List ObjectCopy) → IsPlanned s words roots copies → IsConsistent (with_flip s copies)
flip_consistent s words roots copies is = record {
  sound = subst (λ (cs : List ObjectCopy). AreLosers (with_flip s cs)) (sym is.are) (flip_losers s words roots (subst (λ (cs : List ObjectCopy). IsPlanned s words roots cs) is.are is));
  addresses = is.consistent.addresses;
  spaced = flip_spaced s words roots copies is;
}

-- The gray objects.

or_true : (b c : Bool) → (b ≡ true) ⊎ (c ≡ true) → (b || c) ≡ true
or_true true c either = refl
or_true false c (inl is) = absurd (cc is)
or_true false c (inr is) = is

all_has : (set : FinSet nat_cmp) (xs : List ℕ) (x : ℕ) → (contains set x ≡ true) ⊎ Contains xs x → contains (with_all set xs) x ≡ true
all_has set [] x (inl has) = has
all_has set [] x (inr in_list) = absurd (Contains-none x in_list)
all_has set (y ∷ ys) x (inl has) = all_has (insert set y) ys x (inl (contains-insert nat_cmp_total set y x ∙ or_true (eq_by_cmp nat_cmp x y) (contains set x) (inr has)))
all_has set (y ∷ ys) x (inr in_list) = elim (Contains-cases y ys x in_list) [
  | inl here ↦ all_has (insert set y) ys x (inl (contains-insert nat_cmp_total set y x ∙ or_true (eq_by_cmp nat_cmp x y) (contains set x) (inl (ap (eq_by_cmp nat_cmp x) here ∙ itself x))))
  | inr behind ↦ all_has (insert set y) ys x (inr behind)
]

gray_named : (copies : List ObjectCopy) (copy : ObjectCopy) → Contains copies copy → Contains (flat_map (λ (c : CopiedObject). gray_from c.to c.header) (moved_objects copies)) copy.to
gray_named [] copy has = absurd (Contains-none copy has)
gray_named (c ∷ copies) copy has = elim (Contains-cases c copies copy has) [
  | inl here ↦ subst (λ (to : ℕ). Contains (c.to ∷ flat_map (λ (c : CopiedObject). gray_from c.to c.header) (moved_objects copies)) to) (ap (λ (k : ObjectCopy). k.to) here)
      (Contains-head c.to (flat_map (λ (c : CopiedObject). gray_from c.to c.header) (moved_objects copies)))
  | inr behind ↦ Contains-rest c.to (flat_map (λ (c : CopiedObject). gray_from c.to c.header) (moved_objects copies)) copy.to (gray_named copies copy behind)
]

-- each copy is gray
pub flip_gray : (used : ℕ) (copies : List ObjectCopy) (copy : ObjectCopy) → Contains copies copy → contains (with_copies (begun used) (moved_objects copies)).gray copy.to ≡ true
flip_gray used copies copy has = all_has empty (flat_map (λ (c : CopiedObject). gray_from c.to c.header) (moved_objects copies)) copy.to (inr (gray_named copies copy has))
