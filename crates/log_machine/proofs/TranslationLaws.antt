-- The lists in memory when their writes are translated to where objects have moved.
use Rattle.std.proofs.Common.{◌≡◌, ℕ, Bool, true, false, cond, List, [], ◌∷◌, ◌++◌, map, reverse, refl, sym, ap, ◌∙◌, subst, arith}
use Rattle.std.specs.Prelude.{T, ◌&&◌}
use Rattle.std.specs.List.{list_all}
use Rattle.std.specs.Ordering.{nat_cmp, is_lt}
use Rattle.std.specs.Cmp.{nat_cmp_total}
use Rattle.std.specs.Map.{keys_of}
use Rattle.std.specs.Map.Calls.{RetainsPairs}
use Rattle.std.specs.List.Sorted.{IsStrictlySortedBy}
use Rattle.std.specs.FinMap.Entries.{below_all}
use Rattle.std.specs.FinMap.{FinMap, from_entries, from_sorted, entries, entries_sorted, get, is_sorted, get-from_sorted, get-from_entries, entries-from_sorted, same_map, nat_cmp-IsAntisymmetric}
use Rattle.std.specs.Global.{Vec}
use Rattle.std.proofs.lemmas.List.{reverse-append, map-append, length-map}
use Rattle.std.proofs.lemmas.List.Sums.{sum_by-cons}
use Rattle.std.proofs.lemmas.List.Folds.{list_all-append}
use Rattle.log_records.specs.declared.copies.ObjectCopy.{ObjectCopy}
use Rattle.log_machine.specs.declared.UndoEntry.{UndoEntry}
use Rattle.log_machine.specs.Machine.{State, Loser, undo_bytes, reserve}
use Rattle.log_machine.specs.Entries.{sum_over}
use Rattle.log_machine.specs.Kept.{IsReserve}
use Rattle.log_machine.specs.Sound.{NoneEmpty}
use Rattle.log_machine.specs.Seen.{seen_loser, seen_undo}
use Rattle.log_machine.specs.Translation.{translated_entry, translated_list}
use Rattle.log_machine.specs.Collecting.{can_translate, can_translate_all, translated_undo, with_undo}
use Rattle.log_machine.proofs.Seen.{entries_seen}
use Rattle.log_machine.proofs.FlipLaws.{get_translated, some_mapped, some_translated}

-- the entries of a transaction are translated in either order
reverse_translated : (pairs : List (ℕ × ℕ)) (us : List UndoEntry) → reverse (translated_list pairs us) ≡ translated_list pairs (reverse us)
reverse_translated pairs [] = refl
reverse_translated pairs (u ∷ us) =
    reverse-append (translated_entry pairs u ∷ []) (translated_list pairs us)
    ∙ ap (λ l. l ++ translated_entry pairs u ∷ []) (reverse_translated pairs us)
    ∙ sym (map-append (translated_entry pairs) (reverse us) (u ∷ []))
    ∙ ap (translated_list pairs) (sym (reverse-append (u ∷ []) us))

-- a transaction with its entries
abbrev pub translated_loser : List (ℕ × ℕ) → Loser → Loser
translated_loser pairs e = (e.0, translated_list pairs e.1)

module _ {F : Type 0} (T : F → ℕ → Vec UndoEntry → Bool → Vec UndoEntry → F → Type 0) (pairs : List (ℕ × ℕ)) (f : F) where
  -- what is left where each list is translated and kept
  pub retained : ((k : ℕ) (v : Vec UndoEntry) (b : Bool) (w : Vec UndoEntry) (f' : F) → T f k v b w f' → (b ≡ true) × (w.items ≡ translated_list pairs v.items) × (f' ≡ f)) → (es kept : List (ℕ × Vec UndoEntry)) → RetainsPairs T f es kept
      → map seen_loser kept ≡ map (translated_loser pairs) (map seen_loser es)
  retained step [] kept none = ap (λ l. map seen_loser l) none
  retained step (e ∷ es) kept ran =
      let told = step e.0 e.1 ran.0 ran.1 ran.2 ran.4 in
      let rest = ran.3 in
      let others = retained step es rest (subst (λ g. RetainsPairs T g es rest) told.2 ran.5) in
      ap (λ l. map seen_loser l) (ran.6 ∙ ap (λ b. cond b ((e.0, ran.1) ∷ rest) rest) told.0)
      ∙ ap (λ us. (e.0, us) ∷ map seen_loser rest) (ap reverse told.1 ∙ reverse_translated pairs e.1.items)
      ∙ ap (λ l. (e.0, translated_list pairs (reverse e.1.items)) ∷ l) others

-- so the map has the translated entries
pub seen_translated : (pairs : List (ℕ × ℕ)) (es kept : List (ℕ × Vec UndoEntry)) → IsStrictlySortedBy nat_cmp (keys_of es) → map seen_loser kept ≡ map (translated_loser pairs) (map seen_loser es) → seen_undo kept ≡ translated_undo pairs (seen_undo es)
seen_translated pairs es kept sorted same = ap from_entries same ∙ ap (λ l. from_entries (map (translated_loser pairs) l)) (sym (entries_seen es sorted))

-- and as many bytes are kept
sum_translated : (pairs : List (ℕ × ℕ)) (es : List Loser) → sum_over undo_bytes (map (translated_loser pairs) es) ≡ sum_over undo_bytes es
sum_translated pairs [] = refl
sum_translated pairs (e ∷ es) =
    let before = sum_by-cons (λ (x : Loser). undo_bytes x.1) e es in
    let after = sum_by-cons (λ (x : Loser). undo_bytes x.1) (translated_loser pairs e) (map (translated_loser pairs) es) in
    let others = sum_translated pairs es in
    let long = length-map e.1 (translated_entry pairs) in
    omega arith

-- the transactions stay in order
below_along : (pairs : List (ℕ × ℕ)) (k : ℕ) (es : List Loser) → below_all nat_cmp k (map (translated_loser pairs) es) ≡ below_all nat_cmp k es
below_along pairs k [] = refl
below_along pairs k (e ∷ es) = ap (λ b. is_lt (nat_cmp k e.0) && b) (below_along pairs k es)

sorted_along : (pairs : List (ℕ × ℕ)) (es : List Loser) → is_sorted nat_cmp (map (translated_loser pairs) es) ≡ is_sorted nat_cmp es
sorted_along pairs [] = refl
sorted_along pairs (e ∷ es) =
    ap (λ b. b && is_sorted nat_cmp (map (translated_loser pairs) es)) (below_along pairs e.0 es)
    ∙ ap (λ b. below_all nat_cmp e.0 es && b) (sorted_along pairs es)

-- a map of entries in order has them in this order
in_order : (undo : FinMap nat_cmp (List UndoEntry)) (es : List Loser) → undo ≡ from_entries es → T (is_sorted nat_cmp es) → entries undo ≡ es
in_order undo es is sorted =
    let same : undo ≡ from_sorted es = is ∙ same_map nat_cmp_total nat_cmp-IsAntisymmetric _ _ (λ q. get-from_entries nat_cmp_total es q ∙ sym (get-from_sorted nat_cmp es q sorted)) in
    ap entries same ∙ entries-from_sorted nat_cmp es sorted

entries_translated : (pairs : List (ℕ × ℕ)) (undo : FinMap nat_cmp (List UndoEntry)) → entries (translated_undo pairs undo) ≡ map (translated_loser pairs) (entries undo)
entries_translated pairs undo = in_order (translated_undo pairs undo) (map (translated_loser pairs) (entries undo)) refl (subst T (sym (sorted_along pairs (entries undo))) (entries_sorted undo))

-- the log's bytes that are kept are as many after a flip
pub reserve-translated : (pairs : List (ℕ × ℕ)) (s n : State) → reserve (with_undo n (translated_undo pairs s.undo)) ≡ reserve s
reserve-translated pairs s n = ap (λ es. sum_over undo_bytes es) (entries_translated pairs s.undo) ∙ sum_translated pairs (entries s.undo)

some_each : (pairs : List (ℕ × ℕ)) (undo : FinMap nat_cmp (List UndoEntry)) → NoneEmpty undo → NoneEmpty (translated_undo pairs undo)
some_each pairs undo some q w found =
    let was = some_mapped (translated_list pairs) (get undo q) w (sym (get_translated pairs undo q) ∙ found) in
    subst (λ l. l ≡ [] → ⊥) was.2 (some_translated pairs was.0 (some q was.0 was.1))

pub kept_translated : (pairs : List (ℕ × ℕ)) (bytes : ℕ) (es kept : List (ℕ × Vec UndoEntry)) → IsReserve bytes (seen_undo es) → IsStrictlySortedBy nat_cmp (keys_of es) → IsStrictlySortedBy nat_cmp (keys_of kept)
    → map seen_loser kept ≡ map (translated_loser pairs) (map seen_loser es) → IsReserve bytes (seen_undo kept)
kept_translated pairs bytes es kept is sorted sorted' same =
    let all = ap (λ l. sum_over undo_bytes l) (entries_seen kept sorted' ∙ same) in
    let moved = sum_translated pairs (map seen_loser es) in
    let before = ap (λ l. sum_over undo_bytes l) (entries_seen es sorted) in
    let sum = is.sum in
    record {
      sum = omega arith;
      some = subst NoneEmpty (sym (seen_translated pairs es kept sorted same)) (some_each pairs (seen_undo es) is.some);
    }

-- Whether each can be translated.

and_swap : (a b : Bool) → (a && (b && true)) ≡ (b && a)
and_swap true true = refl
and_swap true false = refl
and_swap false true = refl
and_swap false false = refl

-- in either order
all_reverse : {X : Type 0} (p : X → Bool) (xs : List X) → list_all p (reverse xs) ≡ list_all p xs
all_reverse p [] = refl
all_reverse p (x ∷ xs) =
    ap (list_all p) (reverse-append (x ∷ []) xs)
    ∙ list_all-append p (reverse xs) (x ∷ [])
    ∙ ap (λ b. b && list_all p (x ∷ [])) (all_reverse p xs)
    ∙ and_swap (list_all p xs) (p x)

-- the lists in memory, with the first of them
pub pass_more : (copies : List ObjectCopy) (k : ℕ) (v : Vec UndoEntry) (b : Bool) (left rest : List (ℕ × Vec UndoEntry)) → left ≡ (k, v) ∷ rest → b ≡ list_all (can_translate copies) v.items
    → list_all (λ e. list_all (can_translate copies) e.1) (map seen_loser left) ≡ (b && list_all (λ e. list_all (can_translate copies) e.1) (map seen_loser rest))
pass_more copies k v b left rest e here =
    ap (λ l. list_all (λ e. list_all (can_translate copies) e.1) (map seen_loser l)) e
    ∙ ap (λ x. x && list_all (λ e. list_all (can_translate copies) e.1) (map seen_loser rest)) (all_reverse (can_translate copies) v.items ∙ sym here)

-- and all of them
pub pass_all : (copies : List ObjectCopy) (es : List (ℕ × Vec UndoEntry)) → IsStrictlySortedBy nat_cmp (keys_of es) → list_all (λ e. list_all (can_translate copies) e.1) (map seen_loser es) ≡ can_translate_all copies (seen_undo es)
pass_all copies es sorted = ap (λ l. list_all (λ e. list_all (can_translate copies) e.1) l) (sym (entries_seen es sorted))
