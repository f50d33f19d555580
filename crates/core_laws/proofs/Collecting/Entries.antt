-- The writes that may be taken back as objects move: those of a map of transactions, and as one list.
use Rattle.std.proofs.Common.{◌≡◌, ℕ, inl, inr, true, false, Bool, cond, List, [], ◌∷◌, ◌++◌, Option, Some, None, refl, sym, ap, ◌∙◌, subst}
use Rattle.std.specs.Prelude.{Contains, T, map, unwrap_or, ◌&&◌}
use Rattle.std.specs.List.{AllByRecursion}
use Rattle.std.specs.Option.{option_map}
use Rattle.std.specs.Ordering.{eq_by_cmp, is_lt, nat_cmp}
use Rattle.std.specs.FinMap.Entries.{below_all}
use Rattle.std.specs.FinMap.{FinMap, entries, entries-from_sorted, entries_sorted, from_sorted, get, get-from_entries, get-from_sorted, get-remove, is_sorted, nat_cmp-IsAntisymmetric, remove, same_map}
use Rattle.std.specs.Cmp.{nat_cmp_total}
use Rattle.std.proofs.lemmas.List.{map-append}
use Rattle.object_layout.proofs.WalkLaws.{Contains-cases, Contains-head, Contains-none, Contains-rest}
use Rattle.log_machine.specs.declared.UndoEntry.{UndoEntry}
use Rattle.log_machine.specs.Collecting.{translated_undo}
use Rattle.log_machine.specs.Entries.{EachKeyed}
use Rattle.log_machine.specs.Machine.{Loser, State, undo_in, undo_of}
use Rattle.log_machine.specs.Translation.{translated_entry, translated_list}
use Rattle.log_machine.proofs.FlipLaws.{get_translated}
use Rattle.log_machine.proofs.ListLaws.{AllByRecursion-append}
use Rattle.log_machine.proofs.MapLaws.{each_entry}
use Rattle.seen_laws.proofs.States.{writes_of_all}
use Rattle.flip_laws.specs.Flip.{AreEntriesOf, IsEntryOf}

-- Lists.

-- what holds of each element holds of all
pub all_from : {X : Type 0} (P : X → Type 0) (xs : List X) → ((x : X) → Contains xs x → P x) → AllByRecursion P xs
all_from P [] each = tt
all_from P (x ∷ xs) each = (each x (Contains-head x xs), all_from P xs (λ y has. each y (Contains-rest x xs y has)))

-- and the other way round
pub all_at : {X : Type 0} (P : X → Type 0) (xs : List X) (x : X) → AllByRecursion P xs → Contains xs x → P x
all_at P [] x all has = absurd (Contains-none x has)
all_at P (y ∷ ys) x all has = elim (Contains-cases y ys x has) [
  | inl here ↦ subst P here all.0
  | inr later ↦ all_at P ys x all.1 later
]

-- Entries.

-- the writes of some transactions of a state are entries of it
entries_in : (s : State) (es : List Loser) → AllByRecursion (λ (e : Loser). AllByRecursion (IsEntryOf s) e.1) es → AreEntriesOf s (writes_of_all es)
entries_in s [] all = tt
entries_in s (e ∷ es) all = AllByRecursion-append (IsEntryOf s) e.1 (writes_of_all es) all.0 (entries_in s es all.1)

-- those of one transaction
pub own_entries : (s : State) (q : ℕ) (us : List UndoEntry) → get s.undo q ≡ Some us → AreEntriesOf s us
own_entries s q us is =
    all_from (IsEntryOf s) us (λ u has. (q, subst (λ (vs : List UndoEntry). Contains vs u) (sym (ap (λ (o : Option (List UndoEntry)). unwrap_or o []) is)) has))

-- those that a state says of a transaction, none where it has none
pub known_entries : (s : State) (t : ℕ) → AreEntriesOf s (undo_of s t)
known_entries s t = all_from (IsEntryOf s) (undo_of s t) (λ u has. (t, has))

-- those of all transactions of a part of its map
pub part_entries : (s : State) (part : FinMap nat_cmp (List UndoEntry)) → EachKeyed (λ q us. get s.undo q ≡ Some us) part → AreEntriesOf s (writes_of_all (entries part))
part_entries s part known =
    entries_in s (entries part) (each_entry (λ q us. AllByRecursion (IsEntryOf s) us) part (λ q us is. own_entries s q us (known q us is)))

-- Objects that move.

-- one transaction's entries then
abbrev translated_loser : List (ℕ × ℕ) → Loser → Loser
translated_loser pairs e = (e.0, translated_list pairs e.1)

below_still : (pairs : List (ℕ × ℕ)) (k : ℕ) (es : List Loser) → below_all nat_cmp k (map (translated_loser pairs) es) ≡ below_all nat_cmp k es
below_still pairs k [] = refl
below_still pairs k (e ∷ es) = ap (λ (b : Bool). is_lt (nat_cmp k e.0) && b) (below_still pairs k es)

sorted_still : (pairs : List (ℕ × ℕ)) (es : List Loser) → is_sorted nat_cmp (map (translated_loser pairs) es) ≡ is_sorted nat_cmp es
sorted_still pairs [] = refl
sorted_still pairs (e ∷ es) =
    ap (λ (b : Bool). b && is_sorted nat_cmp (map (translated_loser pairs) es)) (below_still pairs e.0 es)
    ∙ ap (λ (b : Bool). below_all nat_cmp e.0 es && b) (sorted_still pairs es)

-- the entries of all transactions then, in their order
pub entries_translated : (pairs : List (ℕ × ℕ)) (undo : FinMap nat_cmp (List UndoEntry)) → entries (translated_undo pairs undo) ≡ map (translated_loser pairs) (entries undo)
entries_translated pairs undo =
    let es = map (translated_loser pairs) (entries undo) in
    let in_order : T (is_sorted nat_cmp es) = subst T (sym (sorted_still pairs (entries undo))) (entries_sorted undo) in
    let same : translated_undo pairs undo ≡ from_sorted es = same_map nat_cmp_total nat_cmp-IsAntisymmetric _ _ (λ q.
    get-from_entries nat_cmp_total es q ∙ sym (get-from_sorted nat_cmp es q in_order)) in
    ap entries same ∙ entries-from_sorted nat_cmp es in_order

none_or : (b : Bool) (f : List UndoEntry → List UndoEntry) (o : Option (List UndoEntry)) → cond b None (option_map f o) ≡ option_map f (cond b None o)
none_or true f o = refl
none_or false f o = refl

-- one transaction is left out before or after
pub remove_translated : (pairs : List (ℕ × ℕ)) (undo : FinMap nat_cmp (List UndoEntry)) (t : ℕ) → remove (translated_undo pairs undo) t ≡ translated_undo pairs (remove undo t)
remove_translated pairs undo t = same_map nat_cmp_total nat_cmp-IsAntisymmetric _ _ (λ q.
    get-remove nat_cmp_total (translated_undo pairs undo) t q
    ∙ ap (λ (x : Option (List UndoEntry)). cond (eq_by_cmp nat_cmp q t) None x) (get_translated pairs undo q)
    ∙ none_or (eq_by_cmp nat_cmp q t) (translated_list pairs) (get undo q)
    ∙ ap (λ (x : Option (List UndoEntry)). option_map (translated_list pairs) x) (sym (get-remove nat_cmp_total undo t q))
    ∙ sym (get_translated pairs (remove undo t) q))

writes_mapped : (pairs : List (ℕ × ℕ)) (es : List Loser) → writes_of_all (map (translated_loser pairs) es) ≡ translated_list pairs (writes_of_all es)
writes_mapped pairs [] = refl
writes_mapped pairs (e ∷ es) =
    ap (λ (l : List UndoEntry). translated_list pairs e.1 ++ l) (writes_mapped pairs es) ∙ sym (map-append (translated_entry pairs) e.1 (writes_of_all es))

-- as one list they are translated
pub writes_translated : (pairs : List (ℕ × ℕ)) (undo : FinMap nat_cmp (List UndoEntry)) → writes_of_all (entries (translated_undo pairs undo)) ≡ translated_list pairs (writes_of_all (entries undo))
writes_translated pairs undo = ap writes_of_all (entries_translated pairs undo) ∙ writes_mapped pairs (entries undo)

undo_mapped : (f : List UndoEntry → List UndoEntry) (o : Option (List UndoEntry)) → f [] ≡ [] → unwrap_or (option_map f o) [] ≡ f (unwrap_or o [])
undo_mapped f None none = sym none
undo_mapped f (Some us) none = refl

-- those of a transaction
pub undo_translated : (pairs : List (ℕ × ℕ)) (undo : FinMap nat_cmp (List UndoEntry)) (t : ℕ) → undo_in (translated_undo pairs undo) t ≡ translated_list pairs (undo_in undo t)
undo_translated pairs undo t =
    ap (λ (o : Option (List UndoEntry)). unwrap_or o []) (get_translated pairs undo t) ∙ undo_mapped (translated_list pairs) (get undo t) refl
