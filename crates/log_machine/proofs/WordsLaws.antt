-- The words keep their number.
use Rattle.std.proofs.Common.{◌≡◌, ℕ, List, [], ◌∷◌, length, set, replicate, refl, ◌∙◌, length-set}
use Rattle.std.proofs.lemmas.List.{length-replicate}
use Rattle.std.specs.Prelude.{fold}
use Rattle.log_records.specs.declared.Record.{Record}
use Rattle.log_machine.specs.declared.UndoEntry.{UndoEntry}
use Rattle.log_machine.specs.Machine.{Loser, first_contents, words_in, effect, put_all, put_record, with_word, field_at, taken_back, each_taken_back}

pub length-put_all : (writes : List (ℕ × ℕ)) (now : List ℕ) → length (put_all now writes) ≡ length now
length-put_all [] now = refl
length-put_all (w ∷ ws) now = length-put_all ws (set now w.0 w.1) ∙ length-set now w.0 w.1

pub length-put_record : (now : List ℕ) (rec : Record) → length (put_record now rec) ≡ length now
length-put_record now rec = length-put_all (effect now rec) now

pub length-put_records : (records : List Record) (now : List ℕ) → length (fold put_record now records) ≡ length now
length-put_records [] now = refl
length-put_records (r ∷ rs) now = length-put_records rs (put_record now r) ∙ length-put_record now r

pub length-first_contents : (pages : ℕ) → length (first_contents pages) ≡ words_in pages
length-first_contents pages = length-set (replicate (words_in pages) 0) 0 17 ∙ length-replicate (words_in pages) 0

pub length-taken_back : (us : List UndoEntry) (now : List ℕ) → length (taken_back us now) ≡ length now
length-taken_back [] now = refl
length-taken_back (u ∷ us) now = length-taken_back us (with_word now u.object u.field u.was) ∙ length-set now (field_at u.object u.field) u.was

pub length-each_taken_back : (es : List Loser) (now : List ℕ) → length (each_taken_back es now) ≡ length now
length-each_taken_back [] now = refl
length-each_taken_back (e ∷ es) now = length-each_taken_back es (taken_back e.1 now) ∙ length-taken_back e.1 now
