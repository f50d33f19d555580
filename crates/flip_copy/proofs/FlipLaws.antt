-- A flip with the copies of a plan can follow, and what state it leaves.
use Rattle.std.proofs.Common.{◌≡◌, ℕ, ◌+◌, ◌-◌, ◌==◌, ◌<◌, ◌≤◌, inl, inr, Bool, true, false, List, [], ◌∷◌, ◌++◌, length, Option, None, Some, is_some, refl, sym, ap, ◌∙◌, subst, arith}
use Rattle.std.specs.Prelude.{map, sum_by, slice_index, Contains, not, ◌&&◌, ◌||◌, option_and_then, if◌then◌else◌}
use Rattle.std.specs.List.{AllByRecursion, flat_map, list_all}
use Rattle.std.specs.Option.{option_map}
use Rattle.std.specs.Ordering.{nat_cmp, eq_by_cmp}
use Rattle.std.specs.Cmp.{nat_cmp_total}
use Rattle.std.specs.FinSet.{FinSet, contains, insert, contains-insert, contains-empty}
use Rattle.std.proofs.lemmas.Bool.{le-leb, lt-ltb, eq-eqb, eqb-true}
use Rattle.std.proofs.lemmas.List.Concat.{flat_map-cons}
use Rattle.std.proofs.lemmas.List.Sums.{sum_by-cons}
use Rattle.heap_words.specs.declared.Word.{Word}
use Rattle.heap_words.specs.declared.Word.TheVariants as word
use Rattle.heap_words.specs.Word.{meaning}
use Rattle.heap_spaces.specs.Addresses.{with_all}
use Rattle.heap_spaces.specs.Collection.{Collection, gray_from}
use Rattle.heap_spaces.specs.Copying.{begun, with_copies}
use Rattle.heap_spaces.specs.declared.collection.CopiedObject.{CopiedObject}
use Rattle.log_machine.specs.Collecting.{other_base, can_move, can_hold, with_moved, with_copy, copied_while, copy_after, copies_after, pairs_of, copy_of, has_field, follows_copies, can_translate, can_translate_all, translated_undo, begins_at, with_roles_changed, with_undo, flipped_in, collecting_after}
use Rattle.log_machine.specs.Machine.{State, space_words, spaces_of}
use Rattle.log_machine.specs.Sound.{IsSpaced}
use Rattle.log_machine.specs.declared.UndoEntry.{UndoEntry}
use Rattle.log_machine.proofs.MapLaws.{tied, each_entry}
use Rattle.log_records.specs.declared.copies.ObjectCopy.{ObjectCopy}
use Rattle.log_records.specs.declared.Record.TheVariants.{Flip}
use Rattle.object_layout.proofs.WalkLaws.{Contains-head, Contains-rest, Contains-cases, Contains-none}
use Rattle.flip_copy.specs.Copied.{object_words_at, copies_from, with_base, flip_record, moved_object, moved_objects, copied_size}
use Rattle.flip_copy.specs.Flipped.{IsRooted, IsPlanned, with_flip}
use Rattle.flip_copy.specs.Plan.{HasObjectSize, StoodInOrder, StandEndToEnd}
use Rattle.flip_copy.proofs.CopiesLaws.{size_more, ordered_size}
use Rattle.flip_copy.proofs.ObjectWordsLaws.{words_object, object_words-length}

-- Tests.

both_true : (a b : Bool) → a ≡ true → b ≡ true → (a && b) ≡ true
both_true true b one other = other
both_true false b one other = absurd (cc one)

is_false : (b : Bool) → (b ≡ true → ⊥) → b ≡ false
is_false true never = absurd (never refl)
is_false false never = refl

not_false : (b : Bool) → b ≡ false → not b ≡ true
not_false b e = ap not e

-- The copies, one after another.

-- the addresses of one list and then of another
with_all-append : (s : FinSet nat_cmp) (xs ys : List ℕ) → with_all s (xs ++ ys) ≡ with_all (with_all s xs) ys
with_all-append s [] ys = refl
with_all-append s (x ∷ xs) ys = with_all-append (insert s x) xs ys

-- the addresses of a set are below a bound
abbrev AreBelow : FinSet nat_cmp → ℕ → Type 0
AreBelow set bound = (q : ℕ) → contains set q ≡ true → q < bound

below_inserted : (b c : Bool) (q from next : ℕ) → (b ≡ true → q ≡ from) → (c ≡ true → q < from) → from < next → (b || c) ≡ true → q < next
below_inserted true c q from next same less far is = let here = same refl in omega arith
below_inserted false c q from next same less far is = let here = less is in omega arith

below_insert : (set : FinSet nat_cmp) (from bound next : ℕ) → AreBelow set bound → bound ≤ from → from < next → AreBelow (insert set from) next
below_insert set from bound next below after far q is =
    below_inserted (eq_by_cmp nat_cmp q from) (contains set q) q from next (tied q from) (λ has. let less = below q has in omega arith) far
    (sym (contains-insert nat_cmp_total set from q) ∙ is)

-- the state after these are copied in a collection
abbrev with_all_copied : State → Collection → List ObjectCopy → State
with_all_copied s k copies = record s { used = s.used + copied_size copies; collection = Some (with_copies k (moved_objects copies)) }

can_copy : (s : State) (k : Collection) (behind : ℕ) (copy : ObjectCopy) → 2 ≤ length copy.words → behind ≤ copy.from → copy.from + length copy.words ≤ other_base s + k.used → copy.to ≡ s.base + s.used
    → other_base s + k.copied ≤ behind → s.used ≡ k.copied → k.used ≤ space_words s.pages → AreBelow k.moved behind
    → (can_move s k copy.from (length copy.words) && can_hold s copy.to (length copy.words)) ≡ true
can_copy s k behind copy least after within here covered even few below =
    let size = length copy.words in
    let fresh : contains k.moved copy.from ≡ false = is_false (contains k.moved copy.from) (λ has. let less = below copy.from has in omega arith) in
    both_true _ _
    (both_true _ _ (both_true _ _ (both_true _ _ (le-leb 2 size least) (both_true _ _ (le-leb (other_base s) copy.from (omega arith)) (le-leb (copy.from + size) (other_base s + k.used) within)))
    (le-leb (k.copied + size) k.used (omega arith))) (not_false (contains k.moved copy.from) fresh))
    (both_true _ _ (eq-eqb copy.to (s.base + s.used) here) (le-leb (s.used + size) (space_words s.pages) (omega arith)))

copied_one : (s : State) (k : Collection) (copy : ObjectCopy) (test : Bool) → test ≡ true → (if test then Some (with_copy s k copy) else None) ≡ Some (with_copy s k copy)
copied_one s k copy true is = refl
copied_one s k copy false is = absurd (cc is)

-- copies of objects that stood in order pass their tests, one after another
all_copied : (copies : List ObjectCopy) (s : State) (k : Collection) (behind : ℕ) → s.collection ≡ Some k → AllByRecursion HasObjectSize copies
    → StoodInOrder behind (other_base s + k.used) copies → StandEndToEnd (s.base + s.used) copies
    → other_base s + k.copied ≤ behind → s.used ≡ k.copied → k.used ≤ space_words s.pages → AreBelow k.moved behind
    → copies_after s copies ≡ Some (with_all_copied s k copies)
all_copied [] s k behind runs sized ordered together covered even few below =
    let none : s.used ≡ s.used + copied_size [] = omega arith in
    let nothing : k.copied ≡ k.copied + sum_by (λ (c : CopiedObject). c.words) [] = omega arith in
    let same : s.collection ≡ Some (with_copies k []) = runs ∙ (λ i. Some (record k { copied = nothing i })) in
    λ i. Some (record s { used = none i; collection = same i })
all_copied (copy ∷ copies) s k behind runs sized ordered together covered even few below =
    let size = length copy.words in
    let least = sized.0.least in
    let fits = ordered_size (copy.from + size) (other_base s + k.used) copies ordered.1 in
    let test = can_copy s k behind copy least ordered.0 (omega arith) together.0 covered even few below in
    let first : copy_after s copy ≡ Some (with_copy s k copy) =
    ap (copied_while s copy) runs ∙ copied_one s k copy (can_move s k copy.from size && can_hold s copy.to size) test in
    let k' = with_moved k copy in
    let place : s.base + (s.used + size) ≡ s.base + s.used + size = omega arith in
    let rest : copies_after (with_copy s k copy) copies ≡ Some (with_all_copied (with_copy s k copy) k' copies) =
    all_copied copies (with_copy s k copy) k' (copy.from + size) refl sized.1 ordered.1
    (subst (λ (to : ℕ). StandEndToEnd to copies) (sym place) together.1)
    (let after = ordered.0 in omega arith) (omega arith) few (below_insert k.moved copy.from behind (copy.from + size) below ordered.0 (omega arith)) in
    let more = size_more copy copies in
    let used : s.used + size + copied_size copies ≡ s.used + copied_size (copy ∷ copies) = omega arith in
    let moved = sum_by-cons (λ (c : CopiedObject). c.words) (moved_object copy) (moved_objects copies) in
    let counted : k.copied + size + sum_by (λ (c : CopiedObject). c.words) (moved_objects copies) ≡ k.copied + sum_by (λ (c : CopiedObject). c.words) (moved_objects (copy ∷ copies)) = omega arith in
    let f = λ (c : CopiedObject). gray_from c.to c.header in
    let gray : with_all (with_all k.gray (gray_from copy.to (slice_index copy.words 0))) (flat_map f (moved_objects copies)) ≡ with_all k.gray (flat_map f (moved_objects (copy ∷ copies))) =
    sym (with_all-append k.gray (gray_from copy.to (slice_index copy.words 0)) (flat_map f (moved_objects copies)))
    ∙ ap (with_all k.gray) (sym (flat_map-cons f (moved_object copy) (moved_objects copies))) in
    let whole : with_all_copied (with_copy s k copy) k' copies ≡ with_all_copied s k (copy ∷ copies) =
    λ i. record s {
      used = used i;
      collection = Some (record k {
        copied = counted i;
        moved = with_all (insert k.moved copy.from) (map (λ (c : CopiedObject). c.from) (moved_objects copies));
        gray = gray i;
      });
    } in
    ap (option_and_then (λ next. copies_after next copies)) first ∙ rest ∙ ap Some whole

-- The entries.

-- the copy of an object is found among copies
abbrev pub IsFound : List ℕ → List ObjectCopy → ℕ → Type 0
IsFound words copies at = (place : ℕ) × (copy_of copies at ≡ Some (record { from = at; to = place; words = object_words_at words at }))

-- the copy of each object that is copied is
pub found_copy : (words : List ℕ) (to : ℕ) (ats : List ℕ) (at : ℕ) → Contains ats at → IsFound words (copies_from words to ats) at
found_copy words to [] at has = absurd (Contains-none at has)
found_copy words to (a ∷ ats) at has = choose (a == at) refl (λ behind. found_copy words (to + length (object_words_at words a)) ats at behind)
  where
    choose : (b : Bool) → (a == at) ≡ b → (Contains ats at → IsFound words (copies_from words (to + length (object_words_at words a)) ats) at)
        → (place : ℕ) × ((if b then Some (record { from = a; to = to; words = object_words_at words a }) else copy_of (copies_from words (to + length (object_words_at words a)) ats) at) ≡ Some (record { from = at; to = place; words = object_words_at words at }))
    choose true is later = (to, ap (λ (x : ℕ). Some (record { from = x; to = to; words = object_words_at words x })) (eqb-true a at is))
    choose false is later = elim (Contains-cases a ats at has) [
      | inl same ↦ let clash = sym is ∙ eq-eqb a at same in absurd (cc clash)
      | inr behind ↦ later behind
    ]

-- and has the size of an object
pub found_size : (copies : List ObjectCopy) (at : ℕ) (copy : ObjectCopy) → AllByRecursion HasObjectSize copies → copy_of copies at ≡ Some copy → HasObjectSize copy
found_size [] at copy sized is = absurd (cc is)
found_size (c ∷ copies) at copy sized is = choose (c.from == at) (found_size copies at copy sized.1) is
  where
    choose : (b : Bool) → (copy_of copies at ≡ Some copy → HasObjectSize copy) → (if b then Some c else copy_of copies at) ≡ Some copy → HasObjectSize copy
    choose true later e = let same : c ≡ copy = cc e in subst HasObjectSize same sized.0
    choose false later e = later e

-- a word leads to no stable object, or to one that is copied
word_follows : (copies : List ObjectCopy) (m : Option Word) → ((address : ℕ) → m ≡ Some (word.Stable address) → is_some (copy_of copies address) ≡ true) → follows_copies copies m ≡ true
word_follows copies None each = refl
word_follows copies (Some word.Null) each = refl
word_follows copies (Some (word.Int n)) each = refl
word_follows copies (Some (word.Stable address)) each = each address refl
word_follows copies (Some (word.Volatile index)) each = refl

-- an entry is translated
entry_follows : (words : List ℕ) (to : ℕ) (ats : List ℕ) (u : UndoEntry) → AllByRecursion HasObjectSize (copies_from words to ats) → IsRooted words ats u → can_translate (copies_from words to ats) u ≡ true
entry_follows words to ats u sized rooted =
    let copies = copies_from words to ats in
    let found = found_copy words to ats u.object rooted.object in
    let size = (found_size copies u.object (record { from = u.object; to = found.0; words = object_words_at words u.object }) sized found.1).least in
    let object = words_object words u.object size in
    let long = object_words-length words u.object object.0 object.1 in
    let less = rooted.field object.0 object.1 in
    both_true _ _
    (ap (has_field u.field) found.1 ∙ lt-ltb (u.field + 2) (length (object_words_at words u.object)) (omega arith))
    (word_follows copies (meaning u.was) (λ address is. ap is_some (found_copy words to ats address (rooted.was address is)).1))

entries_follow : (words : List ℕ) (to : ℕ) (ats : List ℕ) (us : List UndoEntry) → AllByRecursion HasObjectSize (copies_from words to ats) → ((u : UndoEntry) → Contains us u → IsRooted words ats u)
    → list_all (can_translate (copies_from words to ats)) us ≡ true
entries_follow words to ats [] sized each = refl
entries_follow words to ats (u ∷ us) sized each =
    both_true _ _ (entry_follows words to ats u sized (each u (Contains-head u us))) (entries_follow words to ats us sized (λ v has. each v (Contains-rest u us v has)))

all_follow : (words : List ℕ) (to : ℕ) (ats : List ℕ) (es : List (ℕ × List UndoEntry)) → AllByRecursion HasObjectSize (copies_from words to ats)
    → AllByRecursion (λ e. (u : UndoEntry) → Contains e.1 u → IsRooted words ats u) es → list_all (λ e. list_all (can_translate (copies_from words to ats)) e.1) es ≡ true
all_follow words to ats [] sized each = refl
all_follow words to ats (e ∷ es) sized each = both_true _ _ (entries_follow words to ats e.1 sized each.0) (all_follow words to ats es sized each.1)

-- The flip.

-- the root object is the first that is copied
begins : (words : List ℕ) (to base : ℕ) (roots : List ℕ) → begins_at base (copies_from words to (with_base base roots)) ≡ true
begins words to base [] = eq-eqb base base refl
begins words to base (root ∷ roots) = choose (root == base) refl
  where
    choose : (b : Bool) → (root == base) ≡ b → begins_at base (copies_from words to (if b then root ∷ roots else base ∷ root ∷ roots)) ≡ true
    choose true is = is
    choose false is = eq-eqb base base refl

-- the current space is the other one of the other
other_other : (s : State) → IsSpaced s → space_words s.pages - other_base s ≡ s.base
other_other s spaced = elim spaced.first [
  | inl first ↦ omega arith
  | inr second ↦ omega arith
]

flipped_one : (copies : List ObjectCopy) (s : State) (test : Bool) (left : Option State) (next : State) → test ≡ true → left ≡ Some next
    → (if test then option_map (λ n. with_undo n (translated_undo (pairs_of copies) s.undo)) left else None) ≡ Some (with_undo next (translated_undo (pairs_of copies) s.undo))
flipped_one copies s true left next is follows = ap (option_map (λ n. with_undo n (translated_undo (pairs_of copies) s.undo))) follows
flipped_one copies s false left next is follows = absurd (cc is)

-- A planned flip can follow, and leaves this state.
planned_follows : (s : State) (words roots : List ℕ) (copies : List ObjectCopy) → IsPlanned s words roots copies → flipped_in s copies None ≡ Some (with_flip s copies)
planned_follows s words roots copies is =
    let to = other_base s in
    let ats = with_base s.base roots in
    let made = copies_from words to ats in
    let spaced = is.consistent.spaced in
    let changed = with_roles_changed s in
    let same : copies ≡ made = is.are in
    let sized : AllByRecursion HasObjectSize made = subst (λ (cs : List ObjectCopy). AllByRecursion HasObjectSize cs) same is.copied.sized in
    let begin : begins_at s.base copies ≡ true = ap (begins_at s.base) same ∙ begins words to s.base roots in
    let each = each_entry (λ t us. (u : UndoEntry) → Contains us u → IsRooted words ats u) s.undo is.rooted in
    let go : can_translate_all copies s.undo ≡ true = ap (λ (cs : List ObjectCopy). can_translate_all cs s.undo) same ∙ all_follow words to ats _ sized each in
    let back = other_other s spaced in
    let few : s.used ≤ space_words s.pages = let room = spaced.room in omega arith in
    let here : other_base s + 0 ≡ other_base s = omega arith in
    let none : AreBelow (begun s.used).moved s.base = λ q has. absurd (cc (has, contains-empty nat_cmp q)) in
    let left : copies_after changed copies ≡ Some (with_all_copied changed (begun s.used) copies) =
    all_copied copies changed (begun s.used) s.base refl is.copied.sized
    (subst (λ (b : ℕ). StoodInOrder s.base (b + s.used) copies) (sym back) is.copied.ordered)
    (subst (λ (b : ℕ). StandEndToEnd b copies) (sym here) is.copied.together) (omega arith) refl few none in
    let used : 0 + copied_size copies ≡ copied_size copies = omega arith in
    flipped_one copies s (begins_at s.base copies && can_translate_all copies s.undo) (copies_after changed copies) (with_all_copied changed (begun s.used) copies) (both_true _ _ begin go) left
    ∙ (λ i. Some (record s { base = to; used = used i; collection = Some (with_copies (begun s.used) (moved_objects copies)); undo = translated_undo (pairs_of copies) s.undo }))

-- so the record machine accepts the record of the flip
pub planned_collects : (s : State) (words roots : List ℕ) (copies : List ObjectCopy) → IsPlanned s words roots copies → collecting_after s (flip_record (spaces_of s) words roots) ≡ Some (with_flip s copies)
planned_collects s words roots copies is =
    ap (λ (cs : List ObjectCopy). collecting_after s (Flip cs)) (sym is.are) ∙ ap (flipped_in s copies) is.none ∙ planned_follows s words roots copies is
