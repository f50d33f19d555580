-- What the records of a collection leave and keep of a state.
use Rattle.std.proofs.Common.{◌≡◌, ℕ, ◌≤◌, List, Option, None, Some, refl, sym, ap, ◌∙◌, subst}
use Rattle.std.specs.FinMap.{empty}
use Rattle.std.proofs.lemmas.Bool.{and_parts}
use Rattle.std.proofs.lemmas.Option.{cond_some}
use Rattle.log_records.specs.declared.copies.ObjectCopy.{ObjectCopy}
use Rattle.log_records.specs.declared.Record.{Record}
use Rattle.log_records.specs.declared.Record.TheVariants.{Update, Base, Fix, Undo, Commit, End, Copy, Scan, Flip, Collected}
use Rattle.heap_spaces.specs.Collection.{Collection}
use Rattle.heap_spaces.specs.Copying.{with_scanned}
use Rattle.log_machine.specs.Machine.{State, settled, words_in, reserve}
use Rattle.log_machine.specs.Sound.{AreLosers, IsSpaced, IsConsistent}
use Rattle.log_machine.specs.Collecting.{copy_after, copies_after, pairs_of, begins_at, can_translate_all, translated_undo, with_roles_changed, with_undo, flipped_in, scanned_in, collected_in, collecting_after}
use Rattle.log_machine.proofs.MachineLaws.{told_if}
use Rattle.log_machine.proofs.Bounds.{HaveSpellings}
use Rattle.log_machine.proofs.CopyRows.{copy_told, spaced_copy, sound_copy, consistent_copied, consistent_copies, spaced_scanned, spaced_collected, sound_beside, consistent_scanned, consistent_collected, copies_told, along_copies}
use Rattle.log_machine.proofs.FlipLaws.{some_mapped, consistent_roles, consistent_flipped, flip_told, spaced_flip, sound_flip, spelled_flip}
use Rattle.log_machine.proofs.TranslationLaws.{reserve-translated}

-- A consistent state.

-- a flip
consistent_flip_in : (s n : State) (copies : List ObjectCopy) (c : Option Collection) → IsConsistent s → flipped_in s copies c ≡ Some n → IsConsistent n
consistent_flip_in s n copies (Some k) is e = absurd (cc e)
consistent_flip_in s n copies None is e =
    let told = told_if _ _ _ e in
    let can = and_parts (begins_at s.base copies) (can_translate_all copies s.undo) told.0 in
    let found = some_mapped (λ (next : State). with_undo next (translated_undo (pairs_of copies) s.undo)) (copies_after (with_roles_changed s) copies) n told.1 in
    let there = along_copies (with_roles_changed s) found.0 copies empty found.1 in
    let here = consistent_copies (settled (with_roles_changed s)) (with_undo found.0 empty) copies (consistent_roles s is) there in
    subst IsConsistent found.2 (consistent_flipped s (with_undo found.0 empty) copies is can.1 (copies_told (settled (with_roles_changed s)) (with_undo found.0 empty) copies there) here)

-- a scan
consistent_scan_in : (s n : State) (page : ℕ) (writes : List (ℕ × ℕ)) (c : Option Collection) → s.collection ≡ c → IsConsistent s → scanned_in s page writes c ≡ Some n → IsConsistent n
consistent_scan_in s n page writes None own is e = absurd (cc e)
consistent_scan_in s n page writes (Some k) own is e = let told = cond_some _ _ _ e in subst IsConsistent told.1 (consistent_scanned s k (with_scanned k page) page is own refl)

-- the end
consistent_end_in : (s n : State) (c : Option Collection) → IsConsistent s → collected_in s c ≡ Some n → IsConsistent n
consistent_end_in s n None is e = absurd (cc e)
consistent_end_in s n (Some k) is e = let told = cond_some _ _ _ e in subst IsConsistent told.1 (consistent_collected s is)

-- each of them
pub consistent_collecting : (s n : State) (rec : Record) → IsConsistent s → collecting_after s rec ≡ Some n → IsConsistent n
consistent_collecting s n (Copy from to words) is e = consistent_copied s n (record { from = from; to = to; words = words }) is e
consistent_collecting s n (Scan page writes) is e = consistent_scan_in s n page writes s.collection refl is e
consistent_collecting s n (Flip copies) is e = consistent_flip_in s n copies s.collection is e
consistent_collecting s n Collected is e = consistent_end_in s n s.collection is e
consistent_collecting s n (Update t object field was word) is e = absurd (cc e)
consistent_collecting s n (Base t address words) is e = absurd (cc e)
consistent_collecting s n (Fix t object field word) is e = absurd (cc e)
consistent_collecting s n (Undo t object field word) is e = absurd (cc e)
consistent_collecting s n (Commit t) is e = absurd (cc e)
consistent_collecting s n (End t) is e = absurd (cc e)

-- Other states.

-- What a record of a collection keeps of a state, consistent or not.
pub record Collects (s n : State) : Type 0 where
  pub pages : n.pages ≡ s.pages
  pub commits : n.commits ≡ s.commits
  pub next : n.next ≡ s.next
  pub spaced : IsSpaced s → IsSpaced n
  pub sound : AreLosers s → AreLosers n
  pub spelled : IsSpaced s → words_in s.pages ≤ 2097152 → HaveSpellings s.undo → HaveSpellings n.undo
  pub bytes : reserve n ≡ reserve s

collects_copy : (s n : State) (copy : ObjectCopy) → copy_after s copy ≡ Some n → Collects s n
collects_copy s n copy e =
    let told = copy_told s n copy e in
    subst (Collects s) told.is
    (record { pages = refl; commits = refl; next = refl; spaced = λ is. spaced_copy s told.k copy is told.runs told.can; sound = λ sound. sound_copy s told.k copy sound; spelled = λ is few good. good; bytes = refl })

collects_scan : (s n : State) (page : ℕ) (writes : List (ℕ × ℕ)) (c : Option Collection) → s.collection ≡ c → scanned_in s page writes c ≡ Some n → Collects s n
collects_scan s n page writes None own e = absurd (cc e)
collects_scan s n page writes (Some k) own e =
    let told = cond_some _ _ _ e in
    subst (Collects s) told.1
    (record { pages = refl; commits = refl; next = refl; spaced = λ is. spaced_scanned s k page is own; sound = λ sound. sound_beside s (Some (with_scanned k page)) sound; spelled = λ is few good. good; bytes = refl })

collects_flip : (s n : State) (copies : List ObjectCopy) → flipped_in s copies s.collection ≡ Some n → Collects s n
collects_flip s n copies e =
    let told = flip_told s n copies s.collection e in
    let copied = copies_told (with_roles_changed s) told.m copies told.copied in
    record {
      pages = ap (λ (x : State). x.pages) (sym told.is) ∙ copied.pages;
      commits = ap (λ (x : State). x.commits) (sym told.is) ∙ copied.commits;
      next = ap (λ (x : State). x.next) (sym told.is) ∙ copied.next;
      spaced = λ is. spaced_flip s n copies is told;
      sound = λ sound. sound_flip s n copies sound told;
      spelled = λ is few good. spelled_flip s n copies is few good told;
      bytes = ap reserve (sym told.is) ∙ reserve-translated (pairs_of copies) s told.m;
    }

collects_end : (s n : State) (c : Option Collection) → collected_in s c ≡ Some n → Collects s n
collects_end s n None e = absurd (cc e)
collects_end s n (Some k) e =
    let told = cond_some _ _ _ e in
    subst (Collects s) told.1
    (record { pages = refl; commits = refl; next = refl; spaced = λ is. spaced_collected s is; sound = λ sound. sound_beside s None sound; spelled = λ is few good. good; bytes = refl })

-- each of them
pub collects : (s n : State) (rec : Record) → collecting_after s rec ≡ Some n → Collects s n
collects s n (Copy from to words) e = collects_copy s n (record { from = from; to = to; words = words }) e
collects s n (Scan page writes) e = collects_scan s n page writes s.collection refl e
collects s n (Flip copies) e = collects_flip s n copies e
collects s n Collected e = collects_end s n s.collection e
collects s n (Update t object field was word) e = absurd (cc e)
collects s n (Base t address words) e = absurd (cc e)
collects s n (Fix t object field word) e = absurd (cc e)
collects s n (Undo t object field word) e = absurd (cc e)
collects s n (Commit t) e = absurd (cc e)
collects s n (End t) e = absurd (cc e)
