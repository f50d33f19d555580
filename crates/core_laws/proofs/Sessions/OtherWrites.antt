-- Laws of the words when the writes of all other transactions are taken back: what one transaction writes leaves what the others see.
use Rattle.std.proofs.Common.{◌≡◌, ◌≢◌, ℕ, Bool, true, false, cond, List, [], ◌∷◌, length, get_or, set, Option, None, Some, Ordering, Less, Equal, Greater, refl, sym, ap, ◌∙◌, subst}
use Rattle.std.specs.Prelude.{fold, slice_index, unwrap_or}
use Rattle.std.specs.List.{AllByRecursion}
use Rattle.std.specs.Ordering.{nat_cmp, eq_by_cmp, is_eq}
use Rattle.std.specs.Cmp.{nat_cmp_total}
use Rattle.std.specs.FinMap.{FinMap, get, insert, remove, entries, find, put, same_map, get-insert, get-remove, get-entries, entries-insert, nat_cmp-IsAntisymmetric}
use Rattle.std.specs.FinMap.Entries.{by_order}
use Rattle.std.proofs.lemmas.List.{get_or-set_other, set-set, set_comm, set-get_or}
use Rattle.log_records.specs.declared.Record.{Record}
use Rattle.log_machine.specs.declared.UndoEntry.{UndoEntry}
use Rattle.log_machine.proofs.Addresses.{effect_any, effect_writes}
use Rattle.log_machine.specs.Machine.{State, Loser, field_at, effect, addresses, put_all, put_record, with_word, with_entries, undo_in, undo_of, turned, taken_back, each_taken_back, all_taken_back}
use Rattle.log_machine.proofs.Fields.{written, AreApart, IsApart}
use Rattle.log_machine.specs.Apart.{others_taken_back}
use Rattle.log_machine.specs.Entries.{EachKeyed}
use Rattle.log_machine.proofs.MapLaws.{tied, get_removed, insert_remove, insert_known, remove_absent, each_entry, each_remove, each_other}
use Rattle.log_machine.proofs.MachineLaws.{undo_beside, with_with}
use Rattle.log_machine.proofs.TakenBackLaws.{taken_back-swap}
use Rattle.log_machine.specs.Sound.{AreLosers}
use Rattle.log_machine.proofs.WordsLaws.{length-each_taken_back}

-- Addresses that the others have not written.

-- no other transaction's writes that may be taken back are to this address
abbrev pub IsAway : State → ℕ → ℕ → Type 0
IsAway s t at = EachKeyed (λ q vs. q ≢ t → AllByRecursion (λ v. at ≢ written v) vs) s.undo

-- the same of the entries of a list
abbrev AreAway : ℕ → List Loser → Type 0
AreAway at es = AllByRecursion (λ e. AllByRecursion (λ v. at ≢ written v) e.1) es

others_away : (s : State) (t at : ℕ) → IsAway s t at → AreAway at (entries (remove s.undo t))
others_away s t at away =
    each_entry (λ q vs. AllByRecursion (λ v. at ≢ written v) vs) (remove s.undo t) (each_other (λ q vs. AllByRecursion (λ v. at ≢ written v) vs) s.undo t away)

taken_at : (us : List UndoEntry) (now : List ℕ) (at : ℕ) → AllByRecursion (λ v. at ≢ written v) us → get_or (taken_back us now) at 0 ≡ get_or now at 0
taken_at [] now at away = refl
taken_at (u ∷ us) now at away = taken_at us (with_word now u.object u.field u.was) at away.1 ∙ get_or-set_other now (written u) at u.was 0 away.0

each_at : (es : List Loser) (now : List ℕ) (at : ℕ) → AreAway at es → get_or (each_taken_back es now) at 0 ≡ get_or now at 0
each_at [] now at away = refl
each_at (e ∷ es) now at away = each_at es (taken_back e.1 now) at away.1 ∙ taken_at e.1 now at away.0

-- the word at such an address stays when the writes of all others are taken back
pub others_get : (s : State) (t : ℕ) (now : List ℕ) (at : ℕ) → IsAway s t at → get_or (others_taken_back s t now) at 0 ≡ get_or now at 0
others_get s t now at away = each_at (entries (remove s.undo t)) now at (others_away s t at away)

-- the same, as a slice is read
pub others_at : (s : State) (t : ℕ) (now : List ℕ) (at : ℕ) → IsAway s t at → slice_index (others_taken_back s t now) at ≡ slice_index now at
others_at s t now at away = others_get s t now at away

-- the words keep their number
pub length-others : (s : State) (t : ℕ) (now : List ℕ) → length (others_taken_back s t now) ≡ length now
length-others s t now = length-each_taken_back (entries (remove s.undo t)) now

-- Writes to such addresses.

taken_set : (us : List UndoEntry) (now : List ℕ) (at word : ℕ) → AllByRecursion (λ v. at ≢ written v) us → taken_back us (set now at word) ≡ set (taken_back us now) at word
taken_set [] now at word away = refl
taken_set (u ∷ us) now at word away =
    ap (λ x. taken_back us x) (set_comm now at (written u) word u.was away.0) ∙ taken_set us (with_word now u.object u.field u.was) at word away.1

each_set : (es : List Loser) (now : List ℕ) (at word : ℕ) → AreAway at es → each_taken_back es (set now at word) ≡ set (each_taken_back es now) at word
each_set [] now at word away = refl
each_set (e ∷ es) now at word away = ap (λ x. each_taken_back es x) (taken_set e.1 now at word away.0) ∙ each_set es (taken_back e.1 now) at word away.1

-- a word is written before or after the writes of all others are taken back
pub others_set : (s : State) (t : ℕ) (now : List ℕ) (at word : ℕ) → IsAway s t at → others_taken_back s t (set now at word) ≡ set (others_taken_back s t now) at word
others_set s t now at word away = each_set (entries (remove s.undo t)) now at word (others_away s t at away)

-- so are several
pub others_put_all : (s : State) (t : ℕ) (now : List ℕ) (writes : List (ℕ × ℕ)) → AllByRecursion (λ w. IsAway s t w.0) writes → others_taken_back s t (put_all now writes) ≡ put_all (others_taken_back s t now) writes
others_put_all s t now [] away = refl
others_put_all s t now (w ∷ ws) away = others_put_all s t (set now w.0 w.1) ws away.1 ∙ ap (λ (x : List ℕ). put_all x ws) (others_set s t now w.0 w.1 away.0)

-- and those of records
pub others_records : (s : State) (t : ℕ) (now : List ℕ) (rs : List Record) → AllByRecursion (λ r. AllByRecursion (IsAway s t) (addresses r)) rs
    → others_taken_back s t (fold put_record now rs) ≡ fold put_record (others_taken_back s t now) rs
others_records s t now [] away = refl
others_records s t now (r ∷ rs) away = others_records s t (put_record now r) rs away.1 ∙ ap (λ (x : List ℕ). fold put_record x rs) (others_put_all s t now (effect now r) (effect_writes (IsAway s t) now r away.0) ∙ ap (put_all (others_taken_back s t now)) (effect_any now (others_taken_back s t now) r))

-- The transaction's own writes.

-- what it writes itself stands in what it sees, whatever of it may be taken back
pub others_own_write : (s : State) (t : ℕ) (us : List UndoEntry) (now : List ℕ) (object field word : ℕ) → IsAway s t (field_at object field)
    → others_taken_back (turned s t (with_entries s.undo t us) 0) t (with_word now object field word) ≡ with_word (others_taken_back s t now) object field word
others_own_write s t us now object field word away =
    ap (λ m. each_taken_back (entries m) (with_word now object field word)) (with_with s.undo t us []) ∙ others_set s t now (field_at object field) word away

-- One transaction's writes are taken back first.

put_step : (t : ℕ) (us : List UndoEntry) (e : Loser) (es put_in_rest : List Loser) (now : List ℕ) (r : Ordering) → cond (is_eq r) (Some e.1) (find nat_cmp t es) ≡ None → AreApart us e.1
    → (find nat_cmp t es ≡ None → each_taken_back put_in_rest (taken_back e.1 now) ≡ each_taken_back es (taken_back us (taken_back e.1 now)))
    → each_taken_back (by_order r ((t, us) ∷ e ∷ es) ((e.0, us) ∷ es) (e ∷ put_in_rest)) now ≡ each_taken_back (e ∷ es) (taken_back us now)
put_step t us e es put_in_rest now Less none apart rest = refl
put_step t us e es put_in_rest now Equal none apart rest = absurd (cc none)
put_step t us e es put_in_rest now Greater none apart rest = rest none ∙ ap (λ x. each_taken_back es x) (taken_back-swap us e.1 now apart)

each_put : (t : ℕ) (us : List UndoEntry) (es : List Loser) (now : List ℕ) → find nat_cmp t es ≡ None → AllByRecursion (λ e. AreApart us e.1) es
    → each_taken_back (put nat_cmp t us es) now ≡ each_taken_back es (taken_back us now)
each_put t us [] now none apart = refl
each_put t us (e ∷ es) now none apart =
    put_step t us e es (put nat_cmp t us es) now (nat_cmp t e.0) none apart.0 (λ gone. each_put t us es (taken_back e.1 now) gone apart.1)

-- these writes are to other fields than those of the other keys
abbrev AreApartIn : FinMap nat_cmp (List UndoEntry) → ℕ → List UndoEntry → Type 0
AreApartIn undo t us = EachKeyed (λ q vs. q ≢ t → AreApart us vs) undo

insert_first : (undo : FinMap nat_cmp (List UndoEntry)) (t : ℕ) (us : List UndoEntry) (now : List ℕ) → AreApartIn undo t us
    → each_taken_back (entries (insert undo t us)) now ≡ each_taken_back (entries (remove undo t)) (taken_back us now)
insert_first undo t us now apart =
    ap (λ m. each_taken_back (entries m) now) (sym (insert_remove undo t us))
    ∙ ap (λ es. each_taken_back es now) (entries-insert nat_cmp_total (remove undo t) t us)
    ∙ each_put t us (entries (remove undo t)) now (sym (get-entries (remove undo t) t) ∙ get_removed undo t)
    (each_entry (λ q vs. AreApart us vs) (remove undo t) (each_other (λ q vs. AreApart us vs) undo t apart))

first_as : (undo : FinMap nat_cmp (List UndoEntry)) (t : ℕ) (o : Option (List UndoEntry)) (now : List ℕ) → get undo t ≡ o → AreApartIn undo t (unwrap_or o [])
    → each_taken_back (entries undo) now ≡ each_taken_back (entries (remove undo t)) (taken_back (unwrap_or o []) now)
first_as undo t None now is apart = ap (λ m. each_taken_back (entries m) now) (sym (remove_absent undo t is))
first_as undo t (Some us) now is apart = ap (λ m. each_taken_back (entries m) now) (sym (insert_known undo t us is)) ∙ insert_first undo t us now apart

first : (undo : FinMap nat_cmp (List UndoEntry)) (t : ℕ) (now : List ℕ) → AreApartIn undo t (undo_in undo t)
    → each_taken_back (entries undo) now ≡ each_taken_back (entries (remove undo t)) (taken_back (undo_in undo t) now)
first undo t now apart = first_as undo t (get undo t) now refl apart

-- Two transactions.

inserted_removed : {A : Type 0} (b c : Bool) (v : A) (x : Option A) → (b ≡ true → c ≡ true → ⊥) → cond b None (cond c (Some v) x) ≡ cond c (Some v) (cond b None x)
inserted_removed true true v x apart = absurd (apart refl refl)
inserted_removed true false v x apart = refl
inserted_removed false c v x apart = refl

removed_removed : {A : Type 0} (b c : Bool) (x : Option A) → cond b None (cond c None x) ≡ cond c None (cond b None x)
removed_removed true true x = refl
removed_removed true false x = refl
removed_removed false c x = refl

not_both : (q t u : ℕ) → u ≢ t → eq_by_cmp nat_cmp q u ≡ true → eq_by_cmp nat_cmp q t ≡ true → ⊥
not_both q t u other one same = other (sym (tied q u one) ∙ tied q t same)

remove_insert_other : (undo : FinMap nat_cmp (List UndoEntry)) (t u : ℕ) (us : List UndoEntry) → u ≢ t → remove (insert undo t us) u ≡ insert (remove undo u) t us
remove_insert_other undo t u us other = same_map nat_cmp_total nat_cmp-IsAntisymmetric _ _ (λ q.
    get-remove nat_cmp_total (insert undo t us) u q
    ∙ ap (λ x. cond (eq_by_cmp nat_cmp q u) None x) (get-insert nat_cmp_total undo t us q)
    ∙ inserted_removed (eq_by_cmp nat_cmp q u) (eq_by_cmp nat_cmp q t) us (get undo q) (not_both q t u other)
    ∙ sym (get-insert nat_cmp_total (remove undo u) t us q ∙ ap (λ x. cond (eq_by_cmp nat_cmp q t) (Some us) x) (get-remove nat_cmp_total undo u q)))

remove_remove_other : (undo : FinMap nat_cmp (List UndoEntry)) (t u : ℕ) → remove (remove undo t) u ≡ remove (remove undo u) t
remove_remove_other undo t u = same_map nat_cmp_total nat_cmp-IsAntisymmetric _ _ (λ q.
    get-remove nat_cmp_total (remove undo t) u q
    ∙ ap (λ x. cond (eq_by_cmp nat_cmp q u) None x) (get-remove nat_cmp_total undo t q)
    ∙ removed_removed (eq_by_cmp nat_cmp q u) (eq_by_cmp nat_cmp q t) (get undo q)
    ∙ sym (get-remove nat_cmp_total (remove undo u) t q ∙ ap (λ x. cond (eq_by_cmp nat_cmp q t) None x) (get-remove nat_cmp_total undo u q)))

-- what may be taken back of another transaction stays
pub undo_other : (s : State) (t u : ℕ) (us : List UndoEntry) (more : ℕ) → t ≢ u → undo_of (turned s t (with_entries s.undo t us) more) u ≡ undo_of s u
undo_other s t u us more other = undo_beside s.undo t u us (λ same. other (sym same))

-- without the writes of u those of t are to be taken back first
without_other : (s : State) (t u : ℕ) (now : List ℕ) → u ≢ t → IsApart s t (undo_of s t) → others_taken_back s u now ≡ each_taken_back (entries (remove (remove s.undo u) t)) (taken_back (undo_of s t) now)
without_other s t u now other apart =
    let same : undo_in (remove s.undo u) t ≡ undo_of s t = undo_beside s.undo u t [] (λ e. other (sym e)) in
    let rest = each_remove (λ q vs. q ≢ t → AreApart (undo_of s t) vs) s.undo u apart in
    first (remove s.undo u) t now (subst (AreApartIn (remove s.undo u) t) (sym same) rest)
    ∙ ap (λ us. each_taken_back (entries (remove (remove s.undo u) t)) (taken_back us now)) same

-- a write of one transaction, with all of its writes taken back, leaves what another one sees
pub others_write : (s : State) (t u : ℕ) (now : List ℕ) (entry : UndoEntry) (word : ℕ) → u ≢ t → get_or now (field_at entry.object entry.field) 0 ≡ entry.was → IsApart s t (entry ∷ undo_of s t)
    → others_taken_back (turned s t (with_entries s.undo t (entry ∷ undo_of s t)) 0) u (with_word now entry.object entry.field word) ≡ others_taken_back s u now
others_write s t u now entry word other stood apart =
    let after = with_word now entry.object entry.field word in
    let rest = each_remove (λ q vs. q ≢ t → AreApart (entry ∷ undo_of s t) vs) s.undo u apart in
    ap (λ m. each_taken_back (entries m) after) (remove_insert_other s.undo t u (entry ∷ undo_of s t) other)
    ∙ insert_first (remove s.undo u) t (entry ∷ undo_of s t) after rest
    ∙ ap (λ x. each_taken_back (entries (remove (remove s.undo u) t)) (taken_back (undo_of s t) x))
    (set-set now (written entry) word entry.was ∙ ap (λ w. set now (written entry) w) (sym stood) ∙ set-get_or now (written entry) 0)
    ∙ sym (without_other s t u now other (λ q vs some far. (apart q vs some far).1))

-- nor do its writes that are taken back when it is aborted
pub others_abort : (s : State) (t u : ℕ) (now : List ℕ) → u ≢ t → AreLosers s → IsApart s t (undo_of s t)
    → others_taken_back (turned s t (with_entries s.undo t []) 0) u (taken_back (undo_of s t) now) ≡ others_taken_back s u now
others_abort s t u now other sound apart =
    ap (λ m. each_taken_back (entries m) (taken_back (undo_of s t) now)) (remove_remove_other s.undo t u) ∙ sym (without_other s t u now other apart)

-- where it has ended, its words are the committed ones
pub all_ended : (s r : State) (t : ℕ) (now : List ℕ) → r.undo ≡ remove s.undo t → all_taken_back r now ≡ others_taken_back s t now
all_ended s r t now is = ap (λ m. each_taken_back (entries m) now) is
