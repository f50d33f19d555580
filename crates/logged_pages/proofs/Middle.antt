-- In the middle of records that are put on their pages each page has the effects of the records up to its LSN.
use Rattle.std.proofs.Common.{◌≡◌, ℕ, ◌+◌, ◌<◌, List, ◌++◌, length, get_or, take, drop, sym, ap, subst, ◌∙◌, arith, inl, inr, append_assoc}
use Rattle.std.proofs.lemmas.Bool.{cases_lt}
use Rattle.std.proofs.lemmas.List.{take-append-drop}
use Rattle.page_redo.specs.Origin.{Origin, next_lsn}
use Rattle.log_records.specs.declared.Record.{Record}
use Rattle.page_redo.proofs.PageLaws.{alike_page}
use Rattle.page_redo.proofs.PrefixLaws.{present-append, EachHoldsPrefix-append}
use Rattle.page_redo.proofs.RedoLaws.{redo_all-more, words-redo_record}
use Rattle.page_redo.specs.Pages.{Pages, page_words, lsn_of}
use Rattle.page_redo.specs.Prefix.{HasAllWords, HoldsPrefix, EachHoldsPrefix, IsPresent}
use Rattle.page_redo.specs.Redo.{redo_all, redo_record}
use Rattle.page_cache.proofs.ByPage.{IsPutBefore}

-- so it is where the record is on the pages before one alone, if it is before the record and after it
pub middle_prefixes : (o : Origin) (all : List Record) (lsn : ℕ) (rec : Record) (old now : Pages) (from : ℕ) → EachHoldsPrefix o all old → EachHoldsPrefix o all (redo_record lsn old rec) → IsPutBefore lsn rec old from now → EachHoldsPrefix o all now
middle_prefixes o all lsn rec old now from before after is = record {
  size = is.words ∙ before.size;
  lsns_size = is.lsns ∙ before.lsns_size;
  each = λ p lt.
      let P : ℕ → List ℕ → Type 0 = λ k l. HoldsPrefix o all p k l in
      elim (cases_lt p from) [
        | inl put ↦
            let redone = redo_record lsn old rec in
            let words : page_words now.words p ≡ page_words redone.words p =
            alike_page p now.words redone.words (is.words ∙ sym (words-redo_record lsn old rec)) (λ a there. is.put a (omega (arith, there, put))) in
            subst (λ (l : List ℕ). P (lsn_of now p) l) (sym words) (subst (λ (k : ℕ). P k (page_words redone.words p)) (sym (is.raised p put)) (after.each p lt))
        | inr left ↦
            let words : page_words now.words p ≡ page_words old.words p = alike_page p now.words old.words is.words (λ a there. is.left a (omega (arith, there, left))) in
            subst (λ (l : List ℕ). P (lsn_of now p) l) (sym words) (subst (λ (k : ℕ). P k (page_words old.words p)) (sym (is.kept p left)) (before.each p lt))
      ];
}

-- so it is between two of the records
pub between_prefixes : (o : Origin) → HasAllWords o → (records more : List Record) (k : ℕ) (at : Pages) → IsPresent o records at → EachHoldsPrefix o (records ++ more) (redo_all (next_lsn o records) at (take k more))
between_prefixes o whole records more k at is =
    let now = redo_all (next_lsn o records) at (take k more) in
    let here = (present-append o whole records (take k more) at is).prefixes in
    let joined : (records ++ take k more) ++ drop k more ≡ records ++ more = append_assoc records (take k more) (drop k more) ∙ ap (λ (l : List Record). records ++ l) (take-append-drop k more) in
    subst (λ (rs : List Record). EachHoldsPrefix o rs now) joined (EachHoldsPrefix-append o (records ++ take k more) (drop k more) now here)

-- and in the middle of one of them
pub carried_prefixes : (o : Origin) → HasAllWords o → (records more : List Record) (k : ℕ) (rec : Record) (at now : Pages) (from : ℕ) → IsPresent o records at → k < length more → rec ≡ get_or more k rec
    → IsPutBefore (next_lsn o records + k) rec (redo_all (next_lsn o records) at (take k more)) from now → EachHoldsPrefix o (records ++ more) now
carried_prefixes o whole records more k rec at now from is lt here put =
    let lsn = next_lsn o records in
    let before = redo_all lsn at (take k more) in
    let after = subst (EachHoldsPrefix o (records ++ more)) (redo_all-more lsn at more k rec lt here) (between_prefixes o whole records more (k + 1) at is) in
    middle_prefixes o (records ++ more) (lsn + k) rec before now from (between_prefixes o whole records more k at is) after put
