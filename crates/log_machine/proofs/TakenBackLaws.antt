-- Words with the writes of unfinished transactions taken back, after a record: a write leaves them as they are, and so does taking
-- writes back by records. Where several transactions have not ended, these write different fields.
use Rattle.std.proofs.Common.{◌≡◌, ◌≢◌, ℕ, cond, List, [], ◌∷◌, get_or, set, None, Some, Ordering, Less, Equal, Greater, refl, sym, ap, ◌∙◌}
use Rattle.std.specs.Prelude.{fold}
use Rattle.std.specs.List.{AllByRecursion}
use Rattle.std.specs.Ordering.{nat_cmp, is_eq}
use Rattle.std.specs.Cmp.{nat_cmp_total}
use Rattle.std.specs.FinMap.{FinMap, empty, insert, remove, entries, find, put, entries-insert, get-entries}
use Rattle.std.specs.FinMap.Entries.{by_order}
use Rattle.std.proofs.lemmas.List.{set-set, set_comm, set-get_or}
use Rattle.log_records.specs.declared.Record.TheVariants.{Update}
use Rattle.log_machine.specs.declared.UndoEntry.{UndoEntry}
use Rattle.log_machine.specs.Machine.{settled, State, Loser, field_at, undo_of, with_entries, with_word, turned, put_record, taken_back, each_taken_back, all_taken_back, abort_records, rollback}
use Rattle.log_machine.specs.Entries.{EachKeyed}
use Rattle.log_machine.proofs.MapLaws.{get_removed, insert_remove, insert_known, remove_absent, entries_empty, each_entry, each_other}
use Rattle.log_machine.proofs.MachineLaws.{standing}
use Rattle.log_machine.specs.Sound.{AreLosers}
use Rattle.log_machine.proofs.AbortLaws.{none_standing, none_empty, abort_words, rollback_words}
use Rattle.log_machine.proofs.Fields.{written, AreApart, IsApart}
use Rattle.log_machine.specs.Apart.{others_taken_back}
use Rattle.log_machine.specs.UndoEntry.{undo_entry}

-- Writes to different fields, in any order.

-- one write before others
write_before : (vs : List UndoEntry) (now : List ℕ) (at word : ℕ) → AllByRecursion (λ v. at ≢ written v) vs → taken_back vs (set now at word) ≡ set (taken_back vs now) at word
write_before [] now at word other = refl
write_before (v ∷ vs) now at word other =
    ap (λ x. taken_back vs x) (set_comm now at (written v) word v.was other.0)
    ∙ write_before vs (with_word now v.object v.field v.was) at word other.1

-- some writes before others
pub taken_back-swap : (us vs : List UndoEntry) (now : List ℕ) → AreApart us vs → taken_back us (taken_back vs now) ≡ taken_back vs (taken_back us now)
taken_back-swap [] vs now other = refl
taken_back-swap (u ∷ us) vs now other =
    ap (λ x. taken_back us x) (sym (write_before vs now (written u) u.was other.0))
    ∙ taken_back-swap us vs (with_word now u.object u.field u.was) other.1

-- one transaction's writes first, wherever it stands among the others
put_step : (t : ℕ) (us : List UndoEntry) (e : Loser) (es put_in_rest : List Loser) (now : List ℕ) (r : Ordering) → cond (is_eq r) (Some e.1) (find nat_cmp t es) ≡ None → AreApart us e.1
    → (find nat_cmp t es ≡ None → each_taken_back put_in_rest (taken_back e.1 now) ≡ each_taken_back es (taken_back us (taken_back e.1 now)))
    → each_taken_back (by_order r ((t, us) ∷ e ∷ es) ((e.0, us) ∷ es) (e ∷ put_in_rest)) now ≡ each_taken_back (e ∷ es) (taken_back us now)
put_step t us e es put_in_rest now Less none other rest = refl
put_step t us e es put_in_rest now Equal none other rest = absurd (cc none)
put_step t us e es put_in_rest now Greater none other rest = rest none ∙ ap (λ x. each_taken_back es x) (taken_back-swap us e.1 now other)

each_put : (t : ℕ) (us : List UndoEntry) (es : List Loser) (now : List ℕ) → find nat_cmp t es ≡ None → AllByRecursion (λ e. AreApart us e.1) es
    → each_taken_back (put nat_cmp t us es) now ≡ each_taken_back es (taken_back us now)
each_put t us [] now none other = refl
each_put t us (e ∷ es) now none other =
    put_step t us e es (put nat_cmp t us es) now (nat_cmp t e.0) none other.0 (λ gone. each_put t us es (taken_back e.1 now) gone other.1)

-- the same in a map
insert_first : (undo : FinMap nat_cmp (List UndoEntry)) (t : ℕ) (us : List UndoEntry) (now : List ℕ) → EachKeyed (λ q vs. q ≢ t → AreApart us vs) undo
    → each_taken_back (entries (insert undo t us)) now ≡ each_taken_back (entries (remove undo t)) (taken_back us now)
insert_first undo t us now other =
    ap (λ n. each_taken_back (entries n) now) (sym (insert_remove undo t us))
    ∙ ap (λ es. each_taken_back es now) (entries-insert nat_cmp_total (remove undo t) t us)
    ∙ each_put t us (entries (remove undo t)) now (sym (get-entries (remove undo t) t) ∙ get_removed undo t)
    (each_entry (λ q vs. AreApart us vs) (remove undo t) (each_other (λ q vs. AreApart us vs) undo t other))

taken_first : (s : State) (t : ℕ) (us : List UndoEntry) (now : List ℕ) → AreLosers s → undo_of s t ≡ us → IsApart s t us → all_taken_back s now ≡ others_taken_back s t (taken_back us now)
taken_first s t [] now sound own other = ap (λ n. each_taken_back (entries n) now) (sym (remove_absent s.undo t (none_standing s.undo t (none_empty s sound) own)))
taken_first s t (u ∷ us) now sound own other =
    ap (λ n. each_taken_back (entries n) now) (sym (insert_known s.undo t (u ∷ us) (standing s.undo t u us own)))
    ∙ insert_first s.undo t (u ∷ us) now other

-- a transaction's writes may be taken back first
pub all_taken_back-first : (s : State) (t : ℕ) (now : List ℕ) → AreLosers s → IsApart s t (undo_of s t) → all_taken_back s now ≡ others_taken_back s t (taken_back (undo_of s t) now)
all_taken_back-first s t now sound other = taken_first s t (undo_of s t) now sound refl other

-- After records.

-- a write is taken back with the others
pub taken_back-Update : (s : State) (now : List ℕ) (t object field was word : ℕ) → AreLosers s → get_or now (field_at object field) 0 ≡ was → IsApart s t (undo_entry object field was ∷ undo_of s t)
    → all_taken_back (turned s t (with_entries s.undo t (undo_entry object field was ∷ undo_of s t)) 0) (put_record now (Update t object field was word)) ≡ all_taken_back s now
taken_back-Update s now t object field was word sound stood other =
    let write : UndoEntry = undo_entry object field was in
    insert_first s.undo t (write ∷ undo_of s t) (with_word now object field word) other
    ∙ ap (λ x. others_taken_back s t (taken_back (undo_of s t) x))
    (set-set now (field_at object field) word was ∙ ap (λ w. set now (field_at object field) w) (sym stood) ∙ set-get_or now (field_at object field) 0)
    ∙ sym (all_taken_back-first s t now sound (λ q vs some apart. (other q vs some apart).1))

-- the records of an abort take its transaction's writes back before the others
pub taken_back-abort : (s : State) (now : List ℕ) (t : ℕ) → AreLosers s → IsApart s t (undo_of s t)
    → all_taken_back (turned s t (with_entries s.undo t []) 0) (fold put_record now (abort_records t (undo_of s t))) ≡ all_taken_back s now
taken_back-abort s now t sound other = ap (λ x. others_taken_back s t x) (abort_words t (undo_of s t) now) ∙ sym (all_taken_back-first s t now sound other)

-- where no transaction has writes the words stay as they are
pub taken_back-settled : (s : State) (now : List ℕ) → s.undo ≡ empty → all_taken_back s now ≡ now
taken_back-settled s now none = ap (λ undo. each_taken_back (entries undo) now) none ∙ ap (λ es. each_taken_back es now) (entries_empty (List UndoEntry))

-- the records of an opening take all of them back
pub taken_back-rollback : (s : State) (now : List ℕ) → all_taken_back (settled s) (fold put_record now (rollback s)) ≡ all_taken_back s now
taken_back-rollback s now = ap (λ es. each_taken_back es (fold put_record now (rollback s))) (entries_empty (List UndoEntry)) ∙ rollback_words s now
