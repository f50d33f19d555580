-- The writes that may be taken back, when a flip has moved their objects.
use Rattle.std.proofs.Common.{◌≡◌, ◌≢◌, ℕ, ◌+◌, ◌<◌, ◌≤◌, Bool, true, false, cond, List, [], ◌∷◌, length, map, Option, None, Some, is_some, refl, sym, ap, ◌∙◌, subst, arith}
use Rattle.std.specs.Prelude.{◌==◌, ◌&&◌, option_map, unwrap_or}
use Rattle.std.specs.List.{AllByRecursion, list_all}
use Rattle.std.specs.Ordering.{nat_cmp, eq_by_cmp}
use Rattle.std.specs.Cmp.{nat_cmp_total}
use Rattle.std.specs.FinMap.{FinMap, empty, get, entries, find, get-entries, get-from_entries}
use Rattle.std.proofs.lemmas.Bool.{and_parts, ltb-true}
use Rattle.log_records.specs.declared.copies.ObjectCopy.{ObjectCopy}
use Rattle.heap_spaces.specs.Collection.{Collection}
use Rattle.heap_spaces.specs.Copying.{begun}
use Rattle.heap_words.specs.declared.Word.{Word}
use Rattle.heap_words.specs.declared.Word.TheVariants.{Null, Int, Stable, Volatile}
use Rattle.heap_words.specs.Word.{IsFieldWord, meaning}
use Rattle.relocation.specs.Relocation.{destination, moved_to, translated_by}
use Rattle.log_machine.specs.declared.UndoEntry.{UndoEntry}
use Rattle.log_machine.specs.UndoEntry.{LiesInside}
use Rattle.log_machine.specs.Machine.{State, settled, words_in}
use Rattle.log_machine.specs.Sound.{AreLosers, IsSpaced, IsConsistent}
use Rattle.log_machine.specs.Translation.{translated_entry, translated_list}
use Rattle.log_machine.specs.Collecting.{other_base, copies_after, pairs_of, copy_of, has_field, follows_copies, can_translate, can_translate_all, translated_undo, begins_at, with_roles_changed, with_undo, flipped_in}
use Rattle.log_machine.proofs.CopyRows.{Stands, HaveCopied, consistent_flip, copies_told, copies_fit, along_copies, spaced_copies, spaced_roles}
use Rattle.log_machine.proofs.Entries.{IsEntry}
use Rattle.log_machine.proofs.Bounds.{HaveSpellings}
use Rattle.log_machine.proofs.MachineLaws.{told_if}

-- Where objects went.

chosen_of : (b : Bool) (copy : ObjectCopy) (copies : List ObjectCopy) (from : ℕ) → destination (pairs_of copies) from ≡ option_map (λ (c : ObjectCopy). c.to) (copy_of copies from)
    → cond b (Some copy.to) (destination (pairs_of copies) from) ≡ option_map (λ (c : ObjectCopy). c.to) (cond b (Some copy) (copy_of copies from))
chosen_of true copy copies from rest = refl
chosen_of false copy copies from rest = rest

-- the copy of an object says where it went
pub destination_of : (copies : List ObjectCopy) (from : ℕ) → destination (pairs_of copies) from ≡ option_map (λ (c : ObjectCopy). c.to) (copy_of copies from)
destination_of [] from = refl
destination_of (copy ∷ copies) from = chosen_of (copy.from == from) copy copies from (destination_of copies from)

each_of : (P : ObjectCopy → Type 0) (b : Bool) (copy : ObjectCopy) (copies : List ObjectCopy) (from : ℕ) (found : ObjectCopy) → AllByRecursion P (copy ∷ copies) → (copy_of copies from ≡ Some found → P found)
    → cond b (Some copy) (copy_of copies from) ≡ Some found → P found
each_of P true copy copies from found all rest e = let same : copy ≡ found = cc e in subst P same all.0
each_of P false copy copies from found all rest e = rest e

-- what holds of each copy holds of that of an object
pub copy_each : (P : ObjectCopy → Type 0) (copies : List ObjectCopy) (from : ℕ) (found : ObjectCopy) → AllByRecursion P copies → copy_of copies from ≡ Some found → P found
copy_each P [] from found all e = absurd (cc e)
copy_each P (copy ∷ copies) from found all e = each_of P (copy.from == from) copy copies from found all (copy_each P copies from found all.1) e

-- where an object stands that is copied
pub went : (copies : List ObjectCopy) (from : ℕ) (found : ObjectCopy) → copy_of copies from ≡ Some found → moved_to (pairs_of copies) from ≡ found.to
went copies from found e = ap (λ o. unwrap_or o from) (destination_of copies from ∙ ap (λ o. option_map (λ (c : ObjectCopy). c.to) o) e)

-- and one that isn't
pub stayed : (copies : List ObjectCopy) (from : ℕ) → copy_of copies from ≡ None → moved_to (pairs_of copies) from ≡ from
stayed copies from e = ap (λ o. unwrap_or o from) (destination_of copies from ∙ ap (λ o. option_map (λ (c : ObjectCopy). c.to) o) e)

-- One entry.

-- a copy with such a field
has_told : (field : ℕ) (o : Option ObjectCopy) → has_field field o ≡ true → (copy : ObjectCopy) × (o ≡ Some copy) × (field + 2 < length copy.words)
has_told field None e = absurd (cc e)
has_told field (Some copy) e = (copy, refl, ltb-true _ _ e)

-- an entry that is translated lies in the copy of its object
entry_inside : (base used : ℕ) (copies : List ObjectCopy) (u : UndoEntry) → AllByRecursion (Stands base used) copies → can_translate copies u ≡ true → LiesInside base used (translated_entry (pairs_of copies) u)
entry_inside base used copies u stand can =
    let found = has_told u.field (copy_of copies u.object) (and_parts _ _ can).0 in
    let here = copy_each (Stands base used) copies u.object found.0 stand found.1 in
    let goes : moved_to (pairs_of copies) u.object ≡ found.0.to = went copies u.object found.0 found.1 in
    let low = here.low in
    let high = here.high in
    let short = found.2 in
    record { above = omega arith; below = omega arith }

entries_inside : (base used : ℕ) (copies : List ObjectCopy) (us : List UndoEntry) → AllByRecursion (Stands base used) copies → list_all (can_translate copies) us ≡ true → AllByRecursion (LiesInside base used) (translated_list (pairs_of copies) us)
entries_inside base used copies [] stand can = tt
entries_inside base used copies (u ∷ us) stand can =
    let parts = and_parts (can_translate copies u) (list_all (can_translate copies) us) can in
    (entry_inside base used copies u stand parts.0, entries_inside base used copies us stand parts.1)

-- a copy is found
some_found : (o : Option ObjectCopy) → is_some o ≡ true → (copy : ObjectCopy) × (o ≡ Some copy)
some_found None e = absurd (cc e)
some_found (Some copy) e = (copy, refl)

-- a word of this meaning that is translated is still one that a field may have
word_spelled : (copies : List ObjectCopy) (word : ℕ) (m : Option Word) → AllByRecursion (λ (copy : ObjectCopy). copy.to < 2097152) copies → follows_copies copies m ≡ true → IsFieldWord word → IsFieldWord (translated_by (pairs_of copies) word m)
word_spelled copies word None fit follows good = good
word_spelled copies word (Some Null) fit follows good = good
word_spelled copies word (Some (Int n)) fit follows good = good
word_spelled copies word (Some (Stable address)) fit follows good =
    let found = some_found (copy_of copies address) follows in
    let goes : moved_to (pairs_of copies) address ≡ found.0.to = went copies address found.0 found.1 in
    let here : found.0.to < 2097152 = copy_each (λ (copy : ObjectCopy). copy.to < 2097152) copies address found.0 fit found.1 in
    let low : moved_to (pairs_of copies) address < 2097152 = omega arith in
    (Stable (moved_to (pairs_of copies) address), low, refl)
word_spelled copies word (Some (Volatile index)) fit follows good = good

-- an entry that is translated still has a spelling
entry_spelled : (copies : List ObjectCopy) (u : UndoEntry) → AllByRecursion (λ (copy : ObjectCopy). copy.to < 2097152) copies → can_translate copies u ≡ true → IsEntry u → IsEntry (translated_entry (pairs_of copies) u)
entry_spelled copies u fit can good =
    let parts = and_parts (has_field u.field (copy_of copies u.object)) (follows_copies copies (meaning u.was)) can in
    let found = has_told u.field (copy_of copies u.object) parts.0 in
    let goes : moved_to (pairs_of copies) u.object ≡ found.0.to = went copies u.object found.0 found.1 in
    let here : found.0.to < 2097152 = copy_each (λ (copy : ObjectCopy). copy.to < 2097152) copies u.object found.0 fit found.1 in
    record { object_fits = omega arith; field_fits = good.field_fits; was_word = word_spelled copies u.was (meaning u.was) fit parts.1 good.was_word }

entries_spelled : (copies : List ObjectCopy) (us : List UndoEntry) → AllByRecursion (λ (copy : ObjectCopy). copy.to < 2097152) copies → list_all (can_translate copies) us ≡ true → AllByRecursion IsEntry us
    → AllByRecursion IsEntry (translated_list (pairs_of copies) us)
entries_spelled copies [] fit can good = tt
entries_spelled copies (u ∷ us) fit can good =
    let parts = and_parts (can_translate copies u) (list_all (can_translate copies) us) can in
    (entry_spelled copies u fit parts.0 good.0, entries_spelled copies us fit parts.1 good.1)

-- All entries.

module _ {X : Type 0} where
  -- where values are mapped
  find_along : (b : Bool) (f : X → X) (v : X) (k : ℕ) (es : List (ℕ × X)) → find nat_cmp k (map (λ e. (e.0, f e.1)) es) ≡ option_map f (find nat_cmp k es)
      → cond b (Some (f v)) (find nat_cmp k (map (λ e. (e.0, f e.1)) es)) ≡ option_map f (cond b (Some v) (find nat_cmp k es))
  find_along true f v k es rest = refl
  find_along false f v k es rest = rest

  pub find_mapped : (f : X → X) (k : ℕ) (es : List (ℕ × X)) → find nat_cmp k (map (λ e. (e.0, f e.1)) es) ≡ option_map f (find nat_cmp k es)
  find_mapped f k [] = refl
  find_mapped f k (e ∷ es) = find_along (eq_by_cmp nat_cmp k e.0) f e.1 k es (find_mapped f k es)

  -- what a value passes that is found
  passes_at : (b : Bool) (p : X → Bool) (e : ℕ × X) (k : ℕ) (v : X) (es : List (ℕ × X)) → p e.1 ≡ true → (find nat_cmp k es ≡ Some v → p v ≡ true) → cond b (Some e.1) (find nat_cmp k es) ≡ Some v → p v ≡ true
  passes_at true p e k v es here rest is = let same : e.1 ≡ v = cc is in ap p (sym same) ∙ here
  passes_at false p e k v es here rest is = rest is

  pub passes_found : (p : X → Bool) (k : ℕ) (v : X) (es : List (ℕ × X)) → list_all (λ e. p e.1) es ≡ true → find nat_cmp k es ≡ Some v → p v ≡ true
  passes_found p k v [] all is = absurd (cc is)
  passes_found p k v (e ∷ es) all is =
      let parts = and_parts (p e.1) (list_all (λ e. p e.1) es) all in
      passes_at (eq_by_cmp nat_cmp k e.0) p e k v es parts.0 (passes_found p k v es parts.1) is

-- the translated entries of a transaction
pub get_translated : (pairs : List (ℕ × ℕ)) (undo : FinMap nat_cmp (List UndoEntry)) (t : ℕ) → get (translated_undo pairs undo) t ≡ option_map (translated_list pairs) (get undo t)
get_translated pairs undo t =
    get-from_entries nat_cmp_total (map (λ e. (e.0, translated_list pairs e.1)) (entries undo)) t
    ∙ find_mapped (translated_list pairs) t (entries undo)
    ∙ ap (λ o. option_map (translated_list pairs) o) (sym (get-entries undo t))

pub some_mapped : {X Y : Type 0} (f : X → Y) (o : Option X) (w : Y) → option_map f o ≡ Some w → (v : X) × (o ≡ Some v) × (f v ≡ w)
some_mapped f None w e = absurd (cc e)
some_mapped f (Some v) w e = (v, refl, cc e)

pub some_translated : (pairs : List (ℕ × ℕ)) (us : List UndoEntry) → us ≢ [] → translated_list pairs us ≢ []
some_translated pairs [] some e = some refl
some_translated pairs (u ∷ us) some e = cc e

-- The state.

-- what may be taken back is such after it is translated
pub sound_flipped : (s n : State) (copies : List ObjectCopy) → AreLosers s → can_translate_all copies s.undo ≡ true → s.next ≤ n.next → AllByRecursion (Stands n.base n.used) copies → AreLosers (with_undo n (translated_undo (pairs_of copies) s.undo))
sound_flipped s n copies sound can later stand = λ q w some.
    let found = some_mapped (translated_list (pairs_of copies)) (get s.undo q) w (sym (get_translated (pairs_of copies) s.undo q) ∙ some) in
    let loser = sound q found.0 found.1 in
    let passes = passes_found (λ us. list_all (can_translate copies) us) q found.0 (entries s.undo) can (sym (get-entries s.undo q) ∙ found.1) in
    let inside = entries_inside n.base n.used copies found.0 stand passes in
    record {
      some = subst (λ l. l ≢ []) found.2 (some_translated (pairs_of copies) found.0 loser.some);
      number = loser.number;
      known = omega (arith, loser.known, later);
      inside = subst (λ l. AllByRecursion (LiesInside n.base n.used) l) found.2 inside;
    }

-- and it has spellings still
spelled_flipped : (copies : List ObjectCopy) (undo : FinMap nat_cmp (List UndoEntry)) → AllByRecursion (λ (copy : ObjectCopy). copy.to < 2097152) copies → can_translate_all copies undo ≡ true → HaveSpellings undo → HaveSpellings (translated_undo (pairs_of copies) undo)
spelled_flipped copies undo fit can good = λ q w some.
    let found = some_mapped (translated_list (pairs_of copies)) (get undo q) w (sym (get_translated (pairs_of copies) undo q) ∙ some) in
    let passes = passes_found (λ us. list_all (can_translate copies) us) q found.0 (entries undo) can (sym (get-entries undo q) ∙ found.1) in
    subst (λ l. AllByRecursion IsEntry l) found.2 (entries_spelled copies found.0 fit passes (good q found.0 found.1))

-- the flip leaves a consistent state
pub consistent_flipped : (s n : State) (copies : List ObjectCopy) → IsConsistent s → can_translate_all copies s.undo ≡ true → HaveCopied (settled (with_roles_changed s)) copies n → IsConsistent n
    → IsConsistent (with_undo n (translated_undo (pairs_of copies) s.undo))
consistent_flipped s n copies is can told empty_is = record {
  sound = sound_flipped s n copies is.sound can (omega (arith, told.next)) told.stand;
  addresses = empty_is.addresses;
  spaced = record { first = empty_is.spaced.first; room = empty_is.spaced.room; within = empty_is.spaced.within };
}

-- What it says that a flip can follow.
pub record IsFlipped (s : State) (copies : List ObjectCopy) (n : State) : Type 0 where
  pub m : State
  pub along : can_translate_all copies s.undo ≡ true
  pub copied : copies_after (with_roles_changed s) copies ≡ Some m
  pub is : with_undo m (translated_undo (pairs_of copies) s.undo) ≡ n

pub flip_told : (s n : State) (copies : List ObjectCopy) (c : Option Collection) → flipped_in s copies c ≡ Some n → IsFlipped s copies n
flip_told s n copies (Some k) e = absurd (cc e)
flip_told s n copies None e =
    let told = told_if _ _ _ e in
    let can = and_parts (begins_at s.base copies) (can_translate_all copies s.undo) told.0 in
    let found = some_mapped (λ (next : State). with_undo next (translated_undo (pairs_of copies) s.undo)) (copies_after (with_roles_changed s) copies) n told.1 in
    record { m = found.0; along = can.1; copied = found.1; is = found.2 }

-- the spaces after one
pub spaced_flip : (s n : State) (copies : List ObjectCopy) → IsSpaced s → IsFlipped s copies n → IsSpaced n
spaced_flip s n copies is told =
    let there = spaced_copies (with_roles_changed s) told.m copies (spaced_roles s is) told.copied in
    subst IsSpaced told.is (record { first = there.first; room = there.room; within = there.within })

-- what may be taken back after one
pub sound_flip : (s n : State) (copies : List ObjectCopy) → AreLosers s → IsFlipped s copies n → AreLosers n
sound_flip s n copies sound told =
    let copied = copies_told (with_roles_changed s) told.m copies told.copied in
    subst AreLosers told.is (sound_flipped s told.m copies sound told.along (omega (arith, copied.next)) copied.stand)

-- and its spellings, where a reference has room for each address
pub spelled_flip : (s n : State) (copies : List ObjectCopy) → IsSpaced s → words_in s.pages ≤ 2097152 → HaveSpellings s.undo → IsFlipped s copies n → HaveSpellings n.undo
spelled_flip s n copies is few good told =
    let fit = copies_fit (with_roles_changed s) told.m copies (spaced_roles s is) few told.copied in
    subst (λ (x : State). HaveSpellings x.undo) told.is (spelled_flipped copies s.undo fit told.along good)

-- a flip that can follow
pub flip_follows : (s n : State) (copies : List ObjectCopy) → begins_at s.base copies ≡ true → can_translate_all copies s.undo ≡ true → copies_after (settled (with_roles_changed s)) copies ≡ Some n
    → flipped_in s copies None ≡ Some (with_undo n (translated_undo (pairs_of copies) s.undo))
flip_follows s n copies begins can e =
    let copied = along_copies (settled (with_roles_changed s)) n copies s.undo e in
    ap (λ b. cond (b && can_translate_all copies s.undo) (option_map (λ next. with_undo next (translated_undo (pairs_of copies) s.undo)) (copies_after (with_roles_changed s) copies)) None) begins
    ∙ ap (λ b. cond b (option_map (λ next. with_undo next (translated_undo (pairs_of copies) s.undo)) (copies_after (with_roles_changed s) copies)) None) can
    ∙ ap (λ o. option_map (λ next. with_undo next (translated_undo (pairs_of copies) s.undo)) o) copied

-- and those that can't: where the root object isn't the first,
pub flip_not_begun : (s : State) (copies : List ObjectCopy) → begins_at s.base copies ≡ false → flipped_in s copies None ≡ None
flip_not_begun s copies begins =
    ap (λ b. cond (b && can_translate_all copies s.undo) (option_map (λ next. with_undo next (translated_undo (pairs_of copies) s.undo)) (copies_after (with_roles_changed s) copies)) None) begins

-- if an entry can't be translated,
and_false : (a b : Bool) → b ≡ false → (a && b) ≡ false
and_false true b e = e
and_false false b e = refl

-- where a copy can't follow
none_chosen : (b : Bool) (o : Option State) → o ≡ None → cond b o None ≡ None
none_chosen true o none = none
none_chosen false o none = refl

none_copied : (s : State) (copies : List ObjectCopy) (o : Option State) → copies_after (with_roles_changed s) copies ≡ o → copies_after (settled (with_roles_changed s)) copies ≡ None → o ≡ None
none_copied s copies None e none = refl
none_copied s copies (Some n) e none = absurd (cc (along_copies (with_roles_changed s) n copies empty e, none))

pub flip_not_copied : (s : State) (copies : List ObjectCopy) → copies_after (settled (with_roles_changed s)) copies ≡ None → flipped_in s copies None ≡ None
flip_not_copied s copies none =
    none_chosen (begins_at s.base copies && can_translate_all copies s.undo) _
    (ap (λ o. option_map (λ next. with_undo next (translated_undo (pairs_of copies) s.undo)) o) (none_copied s copies _ refl none))

-- The state in memory.

none_of : (c : Option Collection) → is_some c ≡ false → c ≡ None
none_of None e = refl
none_of (Some k) e = absurd (cc e)

-- no collection runs
pub flip_first : (s : State) (copies : List ObjectCopy) → is_some s.collection ≡ false → flipped_in s copies s.collection ≡ flipped_in s copies None
flip_first s copies none = ap (λ c. flipped_in s copies c) (none_of s.collection none)

-- where nothing may be taken back, the spaces can change their roles
pub consistent_roles : (s : State) → IsConsistent s → IsConsistent (settled (with_roles_changed s))
consistent_roles s is = consistent_flip s empty (begun s.used) (other_base s) is refl refl refl

-- the copies of a flip can follow
pub flip_copies : (s n : State) (copies : List ObjectCopy) (c : Option Collection) → flipped_in s copies c ≡ Some n → (m : State) × (copies_after (settled (with_roles_changed s)) copies ≡ Some m)
flip_copies s n copies (Some k) e = absurd (cc e)
flip_copies s n copies None e =
    let told = told_if _ _ _ e in
    let found = some_mapped (λ (next : State). with_undo next (translated_undo (pairs_of copies) s.undo)) (copies_after (with_roles_changed s) copies) n told.1 in
    (with_undo found.0 empty, along_copies (with_roles_changed s) found.0 copies empty found.1)

-- the state after a flip, as it is put together in memory
abbrev pub flipped_state : State → State → FinMap nat_cmp (List UndoEntry) → State
flipped_state s n undo = record s { base = n.base; used = n.used; collection = n.collection; undo = undo }

put_together : (s n : State) (copies : List ObjectCopy) (undo : FinMap nat_cmp (List UndoEntry)) → HaveCopied (settled (with_roles_changed s)) copies n → with_undo n undo ≡ flipped_state s n undo
put_together s n copies undo told i = record (flipped_state s n undo) { pages = told.pages i; commits = told.commits i; next = told.next i }

-- as two states are seen
copies_seen : (s s' n n' : State) (copies : List ObjectCopy) → s ≡ s' → n ≡ n' → copies_after (settled (with_roles_changed s')) copies ≡ Some n' → copies_after (settled (with_roles_changed s)) copies ≡ Some n
copies_seen s s' n n' copies same same' e =
    ap (λ (x : State). copies_after (settled (with_roles_changed x)) copies) same ∙ e ∙ ap (λ (x : State). Some x) (sym same')

pub consistent_state : (s s' n n' : State) (copies : List ObjectCopy) (undo : FinMap nat_cmp (List UndoEntry)) → IsConsistent s → IsConsistent n → s ≡ s' → n ≡ n' → can_translate_all copies s.undo ≡ true
    → copies_after (settled (with_roles_changed s')) copies ≡ Some n' → undo ≡ translated_undo (pairs_of copies) s.undo → IsConsistent (flipped_state s n undo)
consistent_state s s' n n' copies undo is is' same same' can e translated =
    let told = copies_told (settled (with_roles_changed s)) n copies (copies_seen s s' n n' copies same same' e) in
    subst IsConsistent (put_together s n copies undo told)
    (subst (λ (u : FinMap nat_cmp (List UndoEntry)). IsConsistent (with_undo n u)) (sym translated) (consistent_flipped s n copies is can told is'))

pub flip_state : (s s' n n' : State) (copies : List ObjectCopy) (undo : FinMap nat_cmp (List UndoEntry)) → s ≡ s' → n ≡ n' → is_some s'.collection ≡ false → begins_at s.base copies ≡ true → can_translate_all copies s.undo ≡ true
    → copies_after (settled (with_roles_changed s')) copies ≡ Some n' → undo ≡ translated_undo (pairs_of copies) s.undo → flipped_in s' copies s'.collection ≡ Some (flipped_state s n undo)
flip_state s s' n n' copies undo same same' none begins can e translated =
    let here = copies_seen s s' n n' copies same same' e in
    let told = copies_told (settled (with_roles_changed s)) n copies here in
    flip_first s' copies none
    ∙ ap (λ (x : State). flipped_in x copies None) (sym same)
    ∙ flip_follows s n copies begins can here
    ∙ ap (λ (u : FinMap nat_cmp (List UndoEntry)). Some (with_undo n u)) (sym translated)
    ∙ ap (λ (x : State). Some x) (put_together s n copies undo told)
