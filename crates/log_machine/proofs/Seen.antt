-- What a change of the lists in memory does to the map that contracts see.
use Rattle.std.proofs.Common.{◌≡◌, ℕ, Bool, true, false, cond, List, [], ◌∷◌, map, reverse, Option, None, Some, Less, refl, sym, ap, ◌∙◌}
use Rattle.std.specs.Prelude.{T, ◌&&◌, unwrap_or, option_map}
use Rattle.std.specs.List.{AllByRecursion}
use Rattle.std.specs.List.Sorted.{IsStrictlySortedBy}
use Rattle.std.specs.Ordering.{nat_cmp, eq_by_cmp, is_lt}
use Rattle.std.specs.Cmp.{nat_cmp_total}
use Rattle.std.specs.Map.{lookup, keys_of}
use Rattle.std.specs.BTreeMap.{is_at}
use Rattle.std.specs.FinMap.Entries.{below_all}
use Rattle.std.specs.FinMap.{get, insert, remove, entries, keys, find, is_sorted, from_sorted, get-from_sorted, entries-from_sorted, get-from_entries, get-insert, get-remove, same_map, nat_cmp-IsAntisymmetric}
use Rattle.std.specs.Global.{Vec}
use Rattle.log_machine.specs.declared.UndoEntry.{UndoEntry}
use Rattle.log_machine.specs.Machine.{undo_in}
use Rattle.log_machine.proofs.MapLaws.{tied, itself}
use Rattle.log_machine.specs.Seen.{seen_loser, seen_undo}

-- a list of writes as contracts see it
abbrev pub seen : Vec UndoEntry → List UndoEntry
seen v = reverse v.items

pub find_seen : (q : ℕ) (es : List (ℕ × Vec UndoEntry)) → find nat_cmp q (map seen_loser es) ≡ option_map seen (lookup (is_at (nat_cmp q)) es)
find_seen q [] = refl
find_seen q (e ∷ es) =
    elim (eq_by_cmp nat_cmp q e.0) as (λ b. cond b (Some (seen e.1)) (find nat_cmp q (map seen_loser es)) ≡ option_map seen (cond b (Some e.1) (lookup (is_at (nat_cmp q)) es))) [
      | true ↦ refl
      | false ↦ find_seen q es
    ]

-- what stands at a key
pub get_seen : (q : ℕ) (es : List (ℕ × Vec UndoEntry)) → get (seen_undo es) q ≡ option_map seen (lookup (is_at (nat_cmp q)) es)
get_seen q es = get-from_entries nat_cmp_total (map seen_loser es) q ∙ find_seen q es

-- the writes of a transaction
pub undo_seen : (q : ℕ) (es : List (ℕ × Vec UndoEntry)) (o : Option (Vec UndoEntry)) → o ≡ lookup (is_at (nat_cmp q)) es → undo_in (seen_undo es) q ≡ unwrap_or (option_map seen o) []
undo_seen q es o e = ap (λ x. unwrap_or x []) (get_seen q es ∙ ap (λ x. option_map seen x) (sym e))

-- a choice by a key, read from either side
turned_key : (q k : ℕ) (a b : Bool) → eq_by_cmp nat_cmp q k ≡ a → eq_by_cmp nat_cmp k q ≡ b → a ≡ b
turned_key q k true true e f = refl
turned_key q k true false e f = cc (f, itself k, tied q k e)
turned_key q k false true e f = cc (e, itself q, tied k q f)
turned_key q k false false e f = refl

chosen : (b : Bool) (w o : Option (Vec UndoEntry)) → option_map seen (cond b w o) ≡ cond b (option_map seen w) (option_map seen o)
chosen true w o = refl
chosen false w o = refl

-- what the map has at each key after one changed
changed : (m n : List (ℕ × Vec UndoEntry)) (k : ℕ) (w : Option (Vec UndoEntry)) (q : ℕ) → lookup (is_at (nat_cmp q)) n ≡ cond (is_at (nat_cmp k) q) w (lookup (is_at (nat_cmp q)) m)
    → get (seen_undo n) q ≡ cond (eq_by_cmp nat_cmp q k) (option_map seen w) (get (seen_undo m) q)
changed m n k w q e =
    get_seen q n
    ∙ ap (λ x. option_map seen x) e
    ∙ chosen (is_at (nat_cmp k) q) w (lookup (is_at (nat_cmp q)) m)
    ∙ ap (λ x. cond (is_at (nat_cmp k) q) (option_map seen w) x) (sym (get_seen q m))
    ∙ ap (λ b. cond b (option_map seen w) (get (seen_undo m) q)) (sym (turned_key q k _ _ refl refl))

-- One key changed: w stands there now, or nothing.
abbrev pub Changes : List (ℕ × Vec UndoEntry) → List (ℕ × Vec UndoEntry) → ℕ → Option (Vec UndoEntry) → Type 0
Changes m n k w = (q : ℕ) → lookup (is_at (nat_cmp q)) n ≡ cond (is_at (nat_cmp k) q) w (lookup (is_at (nat_cmp q)) m)

pub seen_insert : (m n : List (ℕ × Vec UndoEntry)) (k : ℕ) (v : Vec UndoEntry) → Changes m n k (Some v) → seen_undo n ≡ insert (seen_undo m) k (seen v)
seen_insert m n k v each = same_map nat_cmp_total nat_cmp-IsAntisymmetric _ _ (λ q. changed m n k (Some v) q (each q) ∙ sym (get-insert nat_cmp_total (seen_undo m) k (seen v) q))

pub seen_remove : (m n : List (ℕ × Vec UndoEntry)) (k : ℕ) → Changes m n k None → seen_undo n ≡ remove (seen_undo m) k
seen_remove m n k each = same_map nat_cmp_total nat_cmp-IsAntisymmetric _ _ (λ q. changed m n k None q (each q) ∙ sym (get-remove nat_cmp_total (seen_undo m) k q))

-- The lists in the order of their transactions.

both_true : (a b : Bool) → T a → T b → T (a && b)
both_true true b h k = k
both_true false b h k = absurd h

both_hold : (a b : Bool) → a ≡ true → T b → T (a && b)
both_hold true b h k = k
both_hold false b h k = absurd (cc h)

below_seen : (k : ℕ) (es : List (ℕ × Vec UndoEntry)) → AllByRecursion (λ q. nat_cmp k q ≡ Less) (keys_of es) → T (below_all nat_cmp k (map seen_loser es))
below_seen k [] below = tt
below_seen k (e ∷ es) below = both_hold _ _ (ap is_lt below.0) (below_seen k es below.1)

sorted_seen : (es : List (ℕ × Vec UndoEntry)) → IsStrictlySortedBy nat_cmp (keys_of es) → T (is_sorted nat_cmp (map seen_loser es))
unfolding IsStrictlySortedBy
sorted_seen [] sorted = tt
sorted_seen (e ∷ es) sorted = both_true _ _ (below_seen e.0 es sorted.0) (sorted_seen es sorted.1)

pub entries_seen : (es : List (ℕ × Vec UndoEntry)) → IsStrictlySortedBy nat_cmp (keys_of es) → entries (seen_undo es) ≡ map seen_loser es
entries_seen es sorted =
    let in_order = sorted_seen es sorted in
    let same : seen_undo es ≡ from_sorted (map seen_loser es) = same_map nat_cmp_total nat_cmp-IsAntisymmetric _ _ (λ q.
    get-from_entries nat_cmp_total (map seen_loser es) q ∙ sym (get-from_sorted nat_cmp (map seen_loser es) q in_order)) in
    ap entries same ∙ entries-from_sorted nat_cmp (map seen_loser es) in_order

keys_seen_in : (es : List (ℕ × Vec UndoEntry)) → map (λ e. e.0) (map seen_loser es) ≡ keys_of es
keys_seen_in [] = refl
keys_seen_in (e ∷ es) = ap (λ l. e.0 ∷ l) (keys_seen_in es)

pub keys_seen : (es : List (ℕ × Vec UndoEntry)) → IsStrictlySortedBy nat_cmp (keys_of es) → keys (seen_undo es) ≡ keys_of es
keys_seen es sorted = ap (λ l. map (λ e. e.0) l) (entries_seen es sorted) ∙ keys_seen_in es
