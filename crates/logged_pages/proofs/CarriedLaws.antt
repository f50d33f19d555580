-- Records that were appended and put on their pages.
use Rattle.std.proofs.Common.{◌≡◌, ℕ, ◌+◌, ◌<◌, false, Result, Ok, Err, List, ◌++◌, length, get_or, take, refl, sym, ap, subst, ◌∙◌, arith, append_assoc, length-append}
use Rattle.std.specs.Prelude.{is_err, fold, IsOk, OnOk}
use Rattle.gated_log.specs.declared.log.Log.{Log}
use Rattle.gated_log.specs.Log.{records_of}
use Rattle.gated_log.specs.LogRoom.{used_bytes}
use Rattle.gated_log.specs.LogState.{log_used, log_used_with, HasSpare, Keeps}
use Rattle.log_machine.proofs.WordsLaws.{length-put_records}
use Rattle.log_machine.specs.Machine.{put_record}
use Rattle.page_redo.specs.Origin.{Origin, next_lsn}
use Rattle.log_records.specs.declared.Record.{Record}
use Rattle.log_records.specs.Record.{spellings}
use Rattle.page_redo.proofs.PrefixLaws.{present-append}
use Rattle.page_redo.proofs.RedoLaws.{redo_all-more, redo_all-words, words-redo_record}
use Rattle.page_redo.specs.Pages.{Pages}
use Rattle.page_redo.specs.Prefix.{HasAllWords, IsPresent}
use Rattle.page_redo.specs.Redo.{EachLacks, redo_all, redo_record}
use Rattle.logged_pages.specs.Appended.{IsAppended}
use Rattle.logged_pages.specs.Advancing.{was_forced}
use Rattle.logged_pages.specs.Carried.{Carries, HasCarried}
use Rattle.logged_pages.specs.declared.logged.LoggedPages.{LoggedPages}
use Rattle.logged_pages.specs.OnDisk.{batches_if, pending_if}
use Rattle.logged_pages.specs.State.{frames_of, log_of, next_lsn_in, pages_in_memory, store_of, IsUpToDate}
use Rattle.logged_pages.proofs.Batches.{all_if}

-- what follows where a call succeeds
pub on_ok : {A E P Q : Type 0} (r : Result A E) → (P → Q) → OnOk r P → OnOk r Q
on_ok (Ok a) f p = f p
on_ok (Err e) f p = tt

-- and from two things that hold there
pub on_both : {A E P Q R : Type 0} (r : Result A E) → (P → Q → R) → OnOk r P → OnOk r Q → OnOk r R
on_both (Ok a) f p q = f p q
on_both (Err e) f p q = tt

-- and what holds there
pub when_ok : {A E P : Type 0} (r : Result A E) → ((a : A) → r ≡ Ok a → P) → OnOk r P
when_ok (Ok a) holds = holds a refl
when_ok (Err e) holds = tt

pub its : {A E P : Type 0} (r : Result A E) (a : A) → r ≡ Ok a → OnOk r P → P
its {P = P} r a is holds = let Q : Result _ _ → Type 0 = λ r. OnOk r P in subst Q is holds

-- what holds of one that succeeds
pub ok_gives : {A E P : Type 0} (r : Result A E) → IsOk r → OnOk r P → P
ok_gives (Ok a) ok p = p
ok_gives (Err e) ok p = absurd (cc ok)

-- it reports no error
pub ok_no_err : {A E : Type 0} (r : Result A E) → IsOk r → is_err r ≡ false
ok_no_err (Ok a) ok = refl
ok_no_err (Err e) ok = absurd (cc ok)

-- the bytes that are used then
pub used_appended : (old new : Log) (records : List Record) → IsAppended old new records → log_used new ≡ log_used_with old (length (spellings records))
used_appended old new records is = λ i. used_bytes (is.place.tail i) (is.size i)

-- and the memory that is left
pub spare_appended : (old new : Log) (records : List Record) (more : ℕ) → IsAppended old new records → HasSpare old (length (spellings records) + more) → HasSpare new more
spare_appended old new records more is spare = omega (arith, is.size, is.memory, spare)

-- Records that are put on their pages, which lacked them.
module _ (old new : LoggedPages) (first : ℕ) (records : List Record) (begins : first ≡ next_lsn_in (log_of old)) (pages_are : pages_in_memory new ≡ redo_all first (pages_in_memory old) records) where
  pub now_pages : pages_in_memory new ≡ redo_all (next_lsn_in (log_of old)) (pages_in_memory old) records
  now_pages = pages_are ∙ ap (λ n. redo_all n (pages_in_memory old) records) begins

  pub now_words : (pages_in_memory new).words ≡ fold put_record (pages_in_memory old).words records
  now_words = ap (λ (at : Pages). at.words) now_pages ∙ redo_all-words (next_lsn_in (log_of old)) (pages_in_memory old) records old.logged

  pub now_size : length (pages_in_memory new).words ≡ length (pages_in_memory old).words
  now_size = ap length now_words ∙ length-put_records records (pages_in_memory old).words

  -- they are pending
  pub carries : IsAppended (log_of old) (log_of new) records → store_of new ≡ store_of old → frames_of new ≡ frames_of old → Carries old new records
  carries added store_is frames_are = record {
    log = record { place = added.place; kept = added.kept };
    used = used_appended (log_of old) (log_of new) records added;
    spare = λ more. spare_appended (log_of old) (log_of new) records more added;
    words = now_words;
    lsns = ap (λ (at : Pages). at.lsns) now_pages;
    size = now_size;
    store = store_is;
    frames = frames_are;
  }

  -- the pages have the effects of all records
  pub then_up_to_date : HasCarried old new records → (o : Origin) (batches : List (List Record)) (pending : List Record) → HasAllWords o → IsUpToDate o batches pending old
      → IsUpToDate o (batches_if (was_forced old new) batches (pending ++ records)) (pending_if (was_forced old new) (pending ++ records)) new
  then_up_to_date carried o batches pending whole current =
      let all = records_of batches ++ pending in
      let f = was_forced old new in
      let next : next_lsn_in (log_of old) ≡ next_lsn o all = omega (arith, current.log.count, current.first, length-append (records_of batches) pending) in
      let present = present-append o whole all records (pages_in_memory old) current.present in
      let here : IsPresent o (all ++ records) (pages_in_memory new) =
      subst (λ (at : Pages). IsPresent o (all ++ records) at) (sym (now_pages ∙ ap (λ n. redo_all n (pages_in_memory old) records) next)) present in
      let same : all ++ records ≡ records_of (batches_if f batches (pending ++ records)) ++ pending_if f (pending ++ records) = append_assoc (records_of batches) pending records ∙ sym (all_if f batches (pending ++ records)) in
      record {
        first = current.first;
        log = carried.kept batches pending current.log;
        present = subst (λ (rs : List Record). IsPresent o rs (pages_in_memory new)) same here;
      }
