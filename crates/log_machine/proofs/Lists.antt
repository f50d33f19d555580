-- The lists in memory after a change, and the counter of the bytes that are kept for them.
use Rattle.std.proofs.Common.{◌≡◌, ◌≢◌, ℕ, ◌+◌, ◌-◌, ◌<◌, ◌≤◌, true, Result, Ok, Err, OnOk, OnErr, List, [], ◌∷◌, ◌++◌, length, reverse, drop, Option, None, Some, refl, sym, ap, ◌∙◌, subst, arith}
use Rattle.std.specs.Prelude.{unwrap_or, option_map, option_to_list, vec_len, is_some}
use Rattle.std.proofs.lemmas.List.{reverse-append, length-reverse}
use Rattle.std.specs.Ordering.{nat_cmp}
use Rattle.std.specs.Map.{lookup}
use Rattle.std.specs.BTreeMap.{is_at}
use Rattle.std.specs.FinMap.{FinMap, get, insert, remove}
use Rattle.std.specs.Global.{Vec}
use Rattle.log_machine.specs.declared.UndoEntry.{UndoEntry}
use Rattle.log_machine.specs.Machine.{undo_in, with_entries, undo_bytes, end_bytes}
use Rattle.log_machine.specs.Entries.{sum_over}
use Rattle.log_machine.proofs.MapLaws.{each_empty, each_insert, each_remove, insert_known, entries_empty}
use Rattle.log_machine.proofs.ReserveLaws.{bytes_for, bytes_split, bytes_with}
use Rattle.log_machine.specs.Entries.{bytes_over}
use Rattle.log_machine.specs.Sound.{NoneEmpty}
use Rattle.log_machine.specs.Kept.{IsReserve}
use Rattle.log_machine.specs.Seen.{seen_undo}
use Rattle.log_machine.proofs.Seen.{seen, Changes, get_seen, undo_seen, seen_insert, seen_remove}

-- nothing is kept for no lists
pub kept_empty : (es : List (ℕ × Vec UndoEntry)) → es ≡ [] → IsReserve 0 (seen_undo es)
kept_empty es none = subst (λ l. IsReserve 0 (seen_undo l)) (sym none) (record { sum = sym (ap (λ l. sum_over undo_bytes l) (entries_empty (List UndoEntry))); some = each_empty (λ t us. us ≢ []) })

-- a list that stands in memory
pub stands_at : (es : List (ℕ × Vec UndoEntry)) (t : ℕ) (v : Vec UndoEntry) → Some v ≡ lookup (is_at (nat_cmp t)) es → undo_in (seen_undo es) t ≡ seen v
stands_at es t v found = undo_seen t es (Some v) found

pub stands_not : (es : List (ℕ × Vec UndoEntry)) (t : ℕ) → None ≡ lookup (is_at (nat_cmp t)) es → undo_in (seen_undo es) t ≡ []
stands_not es t none = undo_seen t es None none

some_with : (undo : FinMap nat_cmp (List UndoEntry)) (t : ℕ) (us : List UndoEntry) → NoneEmpty undo → NoneEmpty (with_entries undo t us)
some_with undo t [] some = each_remove (λ q vs. vs ≢ []) undo t some
some_with undo t (u ∷ us) some = each_insert (λ q vs. vs ≢ []) undo t (u ∷ us) (λ none. absurd (cc none)) some

-- with another list
pub kept_with : (bytes new : ℕ) (undo : FinMap nat_cmp (List UndoEntry)) (t : ℕ) (us : List UndoEntry) → IsReserve bytes undo → new + bytes_for (undo_in undo t) ≡ bytes + bytes_for us → IsReserve new (with_entries undo t us)
kept_with bytes new undo t us kept e =
    let before = bytes_split undo t kept.some in
    let after = bytes_with undo t us in
    let sum = kept.sum in
    record { sum = omega arith; some = some_with undo t us kept.some }

-- a list that stands there is found
pub is_found : {X : Type 0} (o : Option X) (v : X) → Some v ≡ o → is_some o ≡ true
is_found o v e = ap is_some (sym e)

-- the map when a list was put
pub put_list : (es n : List (ℕ × Vec UndoEntry)) (now : FinMap nat_cmp (List UndoEntry)) (t : ℕ) (v : Vec UndoEntry) (us : List UndoEntry) → seen_undo es ≡ now → Changes es n t (Some v) → seen v ≡ us → seen_undo n ≡ insert now t us
put_list es n now t v us is changes same = seen_insert es n t v changes ∙ ap (λ undo. insert undo t (seen v)) is ∙ ap (λ l. insert now t l) same

-- and the counter
pub kept_put : (bytes new : ℕ) (es n : List (ℕ × Vec UndoEntry)) (t : ℕ) (v : Vec UndoEntry) (u : UndoEntry) (us : List UndoEntry) → IsReserve bytes (seen_undo es) → Changes es n t (Some v) → seen v ≡ u ∷ us
    → new + bytes_for (undo_in (seen_undo es) t) ≡ bytes + undo_bytes (u ∷ us) → IsReserve new (seen_undo n)
kept_put bytes new es n t v u us kept changes same e =
    subst (λ undo. IsReserve new undo) (sym (put_list es n (seen_undo es) t v (u ∷ us) refl changes same)) (kept_with bytes new (seen_undo es) t (u ∷ us) kept e)

-- one more write on a list
pub added : (old new : Vec UndoEntry) (u : UndoEntry) → new.items ≡ old.items ++ u ∷ [] → seen new ≡ u ∷ seen old
added old new u e = ap reverse e ∙ reverse-append old.items (u ∷ [])

-- the bytes that are kept for a list that stands in memory
pub bytes_standing : (undo : FinMap nat_cmp (List UndoEntry)) (t : ℕ) (us : List UndoEntry) → NoneEmpty undo → get undo t ≡ Some us → bytes_for (undo_in undo t) ≡ undo_bytes us
bytes_standing undo t [] some e = absurd (some t [] e refl)
bytes_standing undo t (u ∷ us) some e = ap (λ o. bytes_for (unwrap_or o [])) e

-- what stands in memory is seen
pub got : (es : List (ℕ × Vec UndoEntry)) (t : ℕ) (v : Vec UndoEntry) → Some v ≡ lookup (is_at (nat_cmp t)) es → get (seen_undo es) t ≡ Some (seen v)
got es t v found = get_seen t es ∙ ap (λ o. option_map seen o) (sym found)

length_seen : (v : Vec UndoEntry) → length (seen v) ≡ vec_len v
length_seen v = length-reverse v.items ∙ sym v.ok.0

-- the bytes for a list and for the others
pub bytes_taken : (bytes : ℕ) (es : List (ℕ × Vec UndoEntry)) (t : ℕ) (v : Vec UndoEntry) → IsReserve bytes (seen_undo es) → Some v ≡ lookup (is_at (nat_cmp t)) es
    → bytes ≡ end_bytes (vec_len v) + bytes_over (remove (seen_undo es) t)
bytes_taken bytes es t v kept found =
    let all = bytes_split (seen_undo es) t kept.some in
    let here = bytes_standing (seen_undo es) t (seen v) kept.some (got es t v found) in
    let sum = kept.sum in
    let long = length_seen v in
    omega arith

-- the counter when a list was dropped
pub kept_drop : (bytes new : ℕ) (es n : List (ℕ × Vec UndoEntry)) (t : ℕ) → IsReserve bytes (seen_undo es) → Changes es n t None → new ≡ bytes_over (remove (seen_undo es) t) → IsReserve new (seen_undo n)
kept_drop bytes new es n t kept changes e =
    subst (λ undo. IsReserve new undo) (sym (seen_remove es n t changes)) (record { sum = e; some = each_remove (λ q vs. vs ≢ []) (seen_undo es) t kept.some })

-- a list of which the newest was taken off
pub popped : (old new : Vec UndoEntry) (r : Option UndoEntry) → old.items ≡ new.items ++ option_to_list r → (0 < vec_len old → is_some r ≡ true) → 1 < length (seen old) → seen new ≡ drop 1 (seen old)
popped old new None e some long = let n = length_seen old in absurd (cc (some (omega arith)))
popped old new (Some u) e some long = sym (ap (λ l. drop 1 l) (ap reverse e ∙ reverse-append new.items (u ∷ [])))

-- a list in which nothing changed
pub same_list : (es n : List (ℕ × Vec UndoEntry)) (t : ℕ) (old v : Vec UndoEntry) → Some old ≡ lookup (is_at (nat_cmp t)) es → Changes es n t (Some v) → v.items ≡ old.items → seen_undo n ≡ seen_undo es
same_list es n t old v found changes same =
    seen_insert es n t v changes ∙ ap (λ l. insert (seen_undo es) t (reverse l)) same ∙ insert_known (seen_undo es) t (seen old) (got es t old found)

-- one write less on a list
shorter : (bytes : ℕ) (es n : List (ℕ × Vec UndoEntry)) (t : ℕ) (old v : Vec UndoEntry) (us : List UndoEntry) → us ≡ seen old → IsReserve bytes (seen_undo es) → Some old ≡ lookup (is_at (nat_cmp t)) es → Changes es n t (Some v)
    → seen v ≡ drop 1 us → 1 < length us → (19 ≤ bytes) × IsReserve (bytes - 19) (seen_undo n)
shorter bytes es n t old v [] is kept found changes rest long = absurd (omega arith)
shorter bytes es n t old v (u ∷ []) is kept found changes rest long = absurd (omega arith)
shorter bytes es n t old v (u ∷ w ∷ ws) is kept found changes rest long =
    let all = bytes_split (seen_undo es) t kept.some in
    let sum = kept.sum in
    let here : bytes_for (undo_in (seen_undo es) t) ≡ undo_bytes (u ∷ w ∷ ws) = ap bytes_for (stands_at es t old found ∙ sym is) in
    let enough : 19 ≤ bytes = omega arith in
    (enough, kept_put bytes (bytes - 19) es n t v w ws kept changes rest (omega arith))

pub kept_shorter : (bytes : ℕ) (es n : List (ℕ × Vec UndoEntry)) (t : ℕ) (old v : Vec UndoEntry) → IsReserve bytes (seen_undo es) → Some old ≡ lookup (is_at (nat_cmp t)) es → Changes es n t (Some v)
    → seen v ≡ drop 1 (seen old) → 1 < length (seen old) → (19 ≤ bytes) × IsReserve (bytes - 19) (seen_undo n)
kept_shorter bytes es n t old v kept found changes rest long = shorter bytes es n t old v (seen old) refl kept found changes rest long

-- what follows of an answer
pub on_ok : {X E : Type 0} (r : Result X E) {P Q : Type 0} → (P → Q) → OnOk r P → OnOk r Q
on_ok (Ok x) f h = f h
on_ok (Err e) f h = tt

pub on_err : {X E : Type 0} (r : Result X E) {P : Type 0} → P → OnErr r P
on_err (Ok x) h = tt
on_err (Err e) h = h
