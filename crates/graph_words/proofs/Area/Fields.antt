-- Laws of the fields that writes wrote: they are those of the writes, each once, ascending, and no other list is so.
use Rattle.std.proofs.Common.{◌≡◌, ℕ, zero, suc, Bool, true, false, cond, List, [], ◌∷◌, map, Option, Some, is_some, Ordering, Less, Equal, Greater, refl, sym, ap, ◌∙◌, arith}
use Rattle.std.specs.Prelude.{T, Contains, ◌&&◌, ◌||◌}
use Rattle.std.specs.List.{AllByRecursion, list_any}
use Rattle.std.specs.List.Sorted.{IsStrictlySortedBy}
use Rattle.std.specs.Ordering.{nat_cmp, ordering_then, eq_by_cmp, is_eq, is_lt}
use Rattle.std.specs.Cmp.{IsTotalOrder, nat_cmp_total, then_total, on_total, eq_by_cmp_equiv}
use Rattle.std.specs.FinMap.{IsAntisymmetric, nat_cmp-IsAntisymmetric, entries, entries_sorted, from_entries, get-from_entries, contains_key-keys, find}
use Rattle.std.specs.FinMap.Entries.{below_all, is_sorted}
use Rattle.std.proofs.lemmas.Cmp.{tied_itself}
use Rattle.object_layout.proofs.WalkLaws.{Contains-head, Contains-rest, Contains-none}
use Rattle.std.proofs.lemmas.Map.Views.{Contains-from_any, list_any-from_Contains}
use Rattle.log_machine.specs.declared.UndoEntry.{UndoEntry}
use Rattle.graph_words.specs.Promotion.{Field, field_cmp, field_of, written_fields}
use Rattle.graph_words.specs.Stands.{IsWritten}

-- The order of fields.

-- fields are in a total order
pub field_cmp_total : IsTotalOrder field_cmp
field_cmp_total = then_total (on_total (λ (f : Field). f.0) nat_cmp_total) (on_total (λ (f : Field). f.1) nat_cmp_total)

first_ties : (a b : Ordering) → ordering_then a b ≡ Equal → (a ≡ Equal) × (b ≡ Equal)
first_ties Less b is = absurd (cc is)
first_ties Equal b is = (refl, is)
first_ties Greater b is = absurd (cc is)

-- only a field ties with itself
pub field_cmp_told : IsAntisymmetric field_cmp
field_cmp_told a b is =
    let both = first_ties (nat_cmp a.0 b.0) (nat_cmp a.1 b.1) is in
    ap (λ n. (n, a.1)) (nat_cmp-IsAntisymmetric a.0 b.0 both.0) ∙ ap (λ n. (b.0, n)) (nat_cmp-IsAntisymmetric a.1 b.1 both.1)

tied_fields : (a b : Field) → eq_by_cmp field_cmp a b ≡ true → a ≡ b
tied_fields a b is = field_cmp_told a b (equal (field_cmp a b) is)
  where
    equal : (o : Ordering) → is_eq o ≡ true → o ≡ Equal
    equal Less e = absurd (cc e)
    equal Equal e = refl
    equal Greater e = absurd (cc e)

-- The written fields.

abbrev marked : UndoEntry → Field × Unit {0}
marked u = (field_of u, tt)

found_or : (b : Bool) (o : Option (Unit {0})) → is_some (cond b (Some tt) o) ≡ (b || is_some o)
found_or true o = refl
found_or false o = refl

marked_found : (undo : List UndoEntry) (f : Field) → is_some (find field_cmp f (map marked undo)) ≡ list_any (eq_by_cmp field_cmp f) (map field_of undo)
marked_found [] f = refl
marked_found (u ∷ us) f =
    found_or (eq_by_cmp field_cmp f (field_of u)) (find field_cmp f (map marked us)) ∙ ap (λ b. eq_by_cmp field_cmp f (field_of u) || b) (marked_found us f)

told_among : (undo : List UndoEntry) (f : Field) → list_any (eq_by_cmp field_cmp f) (written_fields undo) ≡ list_any (eq_by_cmp field_cmp f) (map field_of undo)
told_among undo f =
    sym (contains_key-keys (from_entries {R = field_cmp} (map marked undo)) f)
    ∙ ap is_some (get-from_entries field_cmp_total (map marked undo) f)
    ∙ marked_found undo f

written_place : (undo : List UndoEntry) (f : Field) → Contains (map field_of undo) f → IsWritten undo f.0 f.1
written_place [] f (k, within, is) = absurd (omega arith)
written_place (u ∷ us) f (zero, within, is) = (0, u, omega arith, refl, (ap (λ x. x.0) is, ap (λ x. x.1) is))
written_place (u ∷ us) f (suc k, within, is) =
    let rest = written_place us f (k, omega arith, is) in
    (suc rest.0, rest.1, omega arith, rest.3, rest.4)

place_written : (undo : List UndoEntry) (at field : ℕ) → IsWritten undo at field → Contains (map field_of undo) (at, field)
place_written [] at field (k, u, within, is, same) = absurd (omega arith)
place_written (v ∷ us) at field (zero, u, within, is, same) = (0, omega arith, ap field_of is ∙ ap (λ n. (n, u.field)) same.0 ∙ ap (λ n. (at, n)) same.1)
place_written (v ∷ us) at field (suc k, u, within, is, same) =
    let rest = place_written us at field (k, u, omega arith, is, same) in
    (suc rest.0, omega arith, rest.2)

-- each of them is the field of a write
pub written_from_field : (undo : List UndoEntry) (f : Field) → Contains (written_fields undo) f → IsWritten undo f.0 f.1
written_from_field undo f has =
    written_place undo f (Contains-from_any tied_fields f (map field_of undo)
    (sym (told_among undo f) ∙ list_any-from_Contains (eq_by_cmp_equiv field_cmp_total) f (written_fields undo) has))

-- what holds of each write holds of one that wrote such a field
pub write_at : (P : UndoEntry → Type 0) (undo : List UndoEntry) (at field : ℕ) → AllByRecursion P undo → IsWritten undo at field → (u : UndoEntry) × P u × (u.object ≡ at) × (u.field ≡ field)
write_at P [] at field all (k, u, within, is, same) = absurd (omega arith)
write_at P (v ∷ us) at field all (zero, u, within, is, same) = (v, all.0, ap (λ (x : UndoEntry). x.object) is ∙ same.0, ap (λ (x : UndoEntry). x.field) is ∙ same.1)
write_at P (v ∷ us) at field all (suc k, u, within, is, same) = write_at P us at field all.1 (k, u, omega arith, is, same)

-- the field of each write is among them
pub field_from_written : (undo : List UndoEntry) (at field : ℕ) → IsWritten undo at field → Contains (written_fields undo) (at, field)
field_from_written undo at field is =
    let f : Field = (at, field) in
    Contains-from_any tied_fields f (written_fields undo)
    (told_among undo f ∙ list_any-from_Contains (eq_by_cmp_equiv field_cmp_total) f (map field_of undo) (place_written undo at field is))

less : (o : Ordering) → T (is_lt o) → o ≡ Less
less Less h = refl
less Equal h = absurd h
less Greater h = absurd h

both_parts : (a b : Bool) → T (a && b) → T a × T b
both_parts true b h = (tt, h)
both_parts false b h = absurd h

all_less : {X : Type 0} (f : Field) (es : List (Field × X)) → T (below_all field_cmp f es) → AllByRecursion (λ g. field_cmp f g ≡ Less) (map (λ e. e.0) es)
all_less f [] h = tt
all_less f (e ∷ es) h = let parts = both_parts _ _ h in (less _ parts.0, all_less f es parts.1)

strictly_sorted : {X : Type 0} (es : List (Field × X)) → T (is_sorted field_cmp es) → IsStrictlySortedBy field_cmp (map (λ e. e.0) es)
unfolding IsStrictlySortedBy
strictly_sorted [] h = tt
strictly_sorted (e ∷ es) h = let parts = both_parts _ _ h in (all_less e.0 es parts.0, strictly_sorted es parts.1)

-- they ascend, so each is there once
pub written_fields_ascend : (undo : List UndoEntry) → IsStrictlySortedBy field_cmp (written_fields undo)
written_fields_ascend undo = let set = from_entries {R = field_cmp} (map marked undo) in strictly_sorted (entries set) (entries_sorted set)

-- Ascending lists of the same fields are one.

after_head : (f : Field) (fs : List Field) (g : Field) → AllByRecursion (λ h. field_cmp f h ≡ Less) fs → Contains fs g → field_cmp f g ≡ Less
after_head f [] g less (k, within, is) = absurd (omega arith)
after_head f (h ∷ fs) g less (zero, within, is) = ap (field_cmp f) (sym is) ∙ less.0
after_head f (h ∷ fs) g less (suc k, within, is) = after_head f fs g less.1 (k, omega arith, is)

not_before_itself : (f : Field) → field_cmp f f ≡ Less → ⊥
not_before_itself f is = cc (is, tied_itself field_cmp_total f)

not_both_ways : (f g : Field) → field_cmp f g ≡ Less → field_cmp g f ≡ Less → ⊥
not_both_ways f g one two = not_before_itself f (field_cmp_total.trans f g f one two)

same_head : (f : Field) (fs : List Field) (g : Field) (gs : List Field) → AllByRecursion (λ h. field_cmp f h ≡ Less) fs → AllByRecursion (λ h. field_cmp g h ≡ Less) gs
    → Contains (g ∷ gs) f → Contains (f ∷ fs) g → f ≡ g
same_head f fs g gs below below' (zero, within, is) there = sym is
same_head f fs g gs below below' (suc k, within, is) (zero, within', is') = is'
same_head f fs g gs below below' (suc k, within, is) (suc j, within', is') =
    absurd (not_both_ways f g (after_head f fs g below (j, omega arith, is')) (after_head g gs f below' (k, omega arith, is)))

-- what else is in an ascending list is in its rest
in_rest : (f : Field) (fs : List Field) (g : Field) → field_cmp f g ≡ Less → Contains (f ∷ fs) g → Contains fs g
in_rest f fs g less (zero, within, is) = absurd (not_before_itself f (ap (field_cmp f) is ∙ less))
in_rest f fs g less (suc k, within, is) = (k, omega arith, is)

-- two ascending lists with the same fields are one
pub ascending_one : (fs gs : List Field) → IsStrictlySortedBy field_cmp fs → IsStrictlySortedBy field_cmp gs → ((f : Field) → Contains fs f → Contains gs f)
    → ((f : Field) → Contains gs f → Contains fs f) → fs ≡ gs
unfolding IsStrictlySortedBy
ascending_one [] [] up up' to from = refl
ascending_one [] (g ∷ gs) up up' to from = absurd (Contains-none g (from g (Contains-head g gs)))
ascending_one (f ∷ fs) [] up up' to from = absurd (Contains-none f (to f (Contains-head f fs)))
ascending_one (f ∷ fs) (g ∷ gs) up up' to from =
    let same : f ≡ g = same_head f fs g gs up.0 up'.0 (to f (Contains-head f fs)) (from g (Contains-head g gs)) in
    let rest : fs ≡ gs = ascending_one fs gs up.1 up'.1
    (λ h has. in_rest g gs h (ap (λ x. field_cmp x h) (sym same) ∙ after_head f fs h up.0 has) (to h (Contains-rest f fs h has)))
    (λ h has. in_rest f fs h (ap (λ x. field_cmp x h) same ∙ after_head g gs h up'.0 has) (from h (Contains-rest g gs h has))) in
    ap (λ x. x ∷ fs) same ∙ ap (λ xs. g ∷ xs) rest

-- an ascending list of the fields that were written, and of no others, is the written fields
pub written_fields_one : (undo : List UndoEntry) (fs : List Field) → IsStrictlySortedBy field_cmp fs → ((f : Field) → Contains fs f → IsWritten undo f.0 f.1)
    → ((f : Field) → IsWritten undo f.0 f.1 → Contains fs f) → fs ≡ written_fields undo
written_fields_one undo fs up to from =
    ascending_one fs (written_fields undo) up (written_fields_ascend undo) (λ f has. field_from_written undo f.0 f.1 (to f has)) (λ f has. from f (written_from_field undo f has))
