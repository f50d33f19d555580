-- What it says that objects are copied, one and several: how the spaces are then, and where the copies stand.
use Rattle.std.proofs.Common.{◌≡◌, ℕ, ◌+◌, ◌-◌, ◌<◌, ◌≤◌, Bool, true, false, cond, List, [], ◌∷◌, length, Option, None, Some, ◌⊎◌, refl, sym, ap, ◌∙◌, subst, arith, inl, inr}
use Rattle.std.specs.Prelude.{◌&&◌, ◌==◌, ◌↔◌, IsTrue, option_and_then, option_map, MatchOption, sum_by, is_some}
use Rattle.std.specs.List.{AllByRecursion, list_all}
use Rattle.std.specs.Ordering.{nat_cmp}
use Rattle.std.specs.FinMap.{FinMap, empty}
use Rattle.std.specs.FinSet.{insert, len, len-empty, empty_of_len}
use Rattle.std.specs.FinSet.{empty as empty_set}
use Rattle.std.proofs.lemmas.Bool.{eq-eqb, eqb-true, leb-true, and_parts}
use Rattle.std.proofs.lemmas.List.Sums.{sum_by-cons}
use Rattle.std.proofs.lemmas.Option.{option_and_then_some, cond_some}
use Rattle.log_records.specs.declared.copies.ObjectCopy.{ObjectCopy}
use Rattle.heap_spaces.specs.Collection.{Collection, owed_by}
use Rattle.heap_spaces.specs.declared.collection.CopiedObject.{CopiedObject}
use Rattle.heap_spaces.specs.Copying.{begun, with_copies, with_scanned}
use Rattle.log_machine.specs.declared.UndoEntry.{UndoEntry}
use Rattle.log_machine.specs.Machine.{State, owed, space_words, words_in}
use Rattle.log_machine.specs.Sound.{IsLoser, AreLosers, IsSpaced, IsWithin, IsConsistent}
use Rattle.log_machine.specs.Collecting.{other_base, can_move, can_hold, with_moved, with_copy, copied_while, copy_after, copies_after, is_current_page, can_put, scanned_in, collected_in, with_roles_changed, with_undo}
use Rattle.log_machine.specs.CopyIndex.{StandInside}
use Rattle.log_machine.proofs.ListLaws.{AllByRecursion-at}
use Rattle.log_machine.proofs.MapLaws.{each_empty}
use Rattle.log_machine.proofs.Spaced.{inside_on, spaced_ends}

-- What it says that an object can be copied.
pub record CanCopy (s : State) (k : Collection) (copy : ObjectCopy) : Type 0 where
  pub front : 2 ≤ length copy.words
  pub low : other_base s ≤ copy.from
  pub high : copy.from + length copy.words ≤ other_base s + k.used
  pub left : k.copied + length copy.words ≤ k.used
  pub at : copy.to ≡ s.base + s.used
  pub room : s.used + length copy.words ≤ space_words s.pages

pub can_copy_told : (s : State) (k : Collection) (copy : ObjectCopy) → (can_move s k copy.from (length copy.words) && can_hold s copy.to (length copy.words)) ≡ true → CanCopy s k copy
can_copy_told s k copy e =
    let both = and_parts _ _ e in
    let moves = and_parts _ _ both.0 in
    let counts = and_parts _ _ moves.0 in
    let lies = and_parts _ _ counts.0 in
    let inside = and_parts _ _ lies.1 in
    let holds = and_parts _ _ both.1 in
    record {
      front = leb-true _ _ lies.0;
      low = leb-true _ _ inside.0;
      high = leb-true _ _ inside.1;
      left = leb-true _ _ counts.1;
      at = eqb-true _ _ holds.0;
      room = leb-true _ _ holds.1;
    }

-- a copy that can follow, in a collection that runs
pub record IsCopied (s : State) (copy : ObjectCopy) (n : State) : Type 0 where
  pub k : Collection
  pub runs : s.collection ≡ Some k
  pub can : CanCopy s k copy
  pub is : with_copy s k copy ≡ n

copied_told : (s n : State) (copy : ObjectCopy) (c : Option Collection) → s.collection ≡ c → copied_while s copy c ≡ Some n → IsCopied s copy n
copied_told s n copy None own e = absurd (cc e)
copied_told s n copy (Some k) own e = let told = cond_some _ _ _ e in record { k = k; runs = own; can = can_copy_told s k copy told.0; is = told.1 }

pub copy_told : (s n : State) (copy : ObjectCopy) → copy_after s copy ≡ Some n → IsCopied s copy n
copy_told s n copy e = copied_told s n copy s.collection refl e

-- the spaces of a collection that runs
within_at : (pages : ℕ) (c : Option Collection) (k : Collection) → c ≡ Some k → MatchOption c (Unit {0}) (IsWithin pages) → IsWithin pages k
within_at pages None k e is = absurd (cc e)
within_at pages (Some x) k e is = let same : x ≡ k = cc e in subst (IsWithin pages) same is

pub within : (s : State) (k : Collection) → IsSpaced s → s.collection ≡ Some k → IsWithin s.pages k
within s k is own = within_at s.pages s.collection k own is.within

-- they stay so where an object is copied
pub spaced_copy : (s : State) (k : Collection) (copy : ObjectCopy) → IsSpaced s → s.collection ≡ Some k → CanCopy s k copy → IsSpaced (with_copy s k copy)
spaced_copy s k copy is own can =
    let inside = within s k is own in
    let owing : owed s ≡ k.used - k.copied = ap owed_by own in
    let room = is.room in
    record { first = is.first; room = omega arith; within = record { copied = can.left; used = inside.used } }

-- and so do the writes that may be taken back
pub sound_copy : (s : State) (k : Collection) (copy : ObjectCopy) → AreLosers s → AreLosers (with_copy s k copy)
sound_copy s k copy sound = λ q w some.
    let loser = sound q w some in
    record { some = loser.some; number = loser.number; known = loser.known; inside = inside_on s.base s.used (s.used + length copy.words) w (omega arith) loser.inside }

pub spaced_copied : (s n : State) (copy : ObjectCopy) → IsSpaced s → copy_after s copy ≡ Some n → IsSpaced n
spaced_copied s n copy is e = let told = copy_told s n copy e in subst IsSpaced told.is (spaced_copy s told.k copy is told.runs told.can)

pub consistent_copy : (s : State) (k : Collection) (copy : ObjectCopy) → IsConsistent s → s.collection ≡ Some k → CanCopy s k copy → IsConsistent (with_copy s k copy)
consistent_copy s k copy is own can = record { sound = sound_copy s k copy is.sound; addresses = is.addresses; spaced = spaced_copy s k copy is.spaced own can }

pub consistent_copied : (s n : State) (copy : ObjectCopy) → IsConsistent s → copy_after s copy ≡ Some n → IsConsistent n
consistent_copied s n copy is e = let told = copy_told s n copy e in subst IsConsistent told.is (consistent_copy s told.k copy is told.runs told.can)

pub consistent_copies : (s n : State) (copies : List ObjectCopy) → IsConsistent s → copies_after s copies ≡ Some n → IsConsistent n
consistent_copies s n [] is e = let same : s ≡ n = cc e in subst IsConsistent same is
consistent_copies s n (copy ∷ copies) is e =
    option_and_then_some (λ next. copies_after next copies) (copy_after s copy) n e (λ next first rest. consistent_copies next n copies (consistent_copied s next copy is first) rest)

pub spaced_copies : (s n : State) (copies : List ObjectCopy) → IsSpaced s → copies_after s copies ≡ Some n → IsSpaced n
spaced_copies s n [] is e = let same : s ≡ n = cc e in subst IsSpaced same is
spaced_copies s n (copy ∷ copies) is e =
    option_and_then_some (λ next. copies_after next copies) (copy_after s copy) n e (λ next first rest. spaced_copies next n copies (spaced_copied s next copy is first) rest)

-- what is said of one object that was copied
one_words : (copied : ℕ) (object : CopiedObject) (words : List ℕ) → object.words ≡ length words → copied + sum_by (λ (x : CopiedObject). x.words) (object ∷ []) ≡ copied + length words
one_words copied object words same = let one = sum_by-cons (λ (x : CopiedObject). x.words) object [] in omega arith

pub one_copied : (k : Collection) (object : CopiedObject) (words : List ℕ) → object.words ≡ length words → with_copies k (object ∷ []) ≡ with_moved k (record { from = object.from; to = object.to; words = words })
one_copied k object words same =
    ap (λ (n : ℕ). record k { copied = n; moved = insert k.moved object.from; gray = insert k.gray object.to }) (one_words k.copied object words same)

passed : (s : State) (b : Bool) (n : State) → is_some (cond b (Some n) None) ≡ true → b ≡ true
passed s true n e = refl
passed s false n e = absurd (cc e)

-- an object that can be copied, where a collection runs
pub can_copy : (s : State) (k : Collection) (copy : ObjectCopy) → s.collection ≡ Some k → is_some (copy_after s copy) ≡ true → CanCopy s k copy
can_copy s k copy own e =
    let here : is_some (copied_while s copy (Some k)) ≡ true = ap (λ c. is_some (copied_while s copy c)) (sym own) ∙ e in
    can_copy_told s k copy (passed s _ _ here)

pub consistent_added : (s : State) (k now : Collection) (copy : ObjectCopy) (used : ℕ) → IsConsistent s → s.collection ≡ Some k → is_some (copy_after s copy) ≡ true → now ≡ with_moved k copy → used ≡ s.used + length copy.words
    → IsConsistent (record s { used = used; collection = Some now })
consistent_added s k now copy used is own e moved more =
    subst (λ (n : ℕ). IsConsistent (record s { used = n; collection = Some now })) (sym more)
    (subst (λ (x : Collection). IsConsistent (record s { used = s.used + length copy.words; collection = Some x })) (sym moved) (consistent_copy s k copy is own (can_copy s k copy own e)))

-- the from-space of a copy lies within the pages
pub from_below : (s n : State) (copy : ObjectCopy) → IsConsistent s → copy_after s copy ≡ Some n → copy.from < words_in s.pages
from_below s n copy is e =
    let told = copy_told s n copy e in
    let inside = within s told.k is.spaced told.runs in
    let used = inside.used in
    let front = told.can.front in
    let high = told.can.high in
    elim is.spaced.first [ inl low ↦ omega arith | inr top ↦ omega arith ]

-- and so does where it stands
pub to_below : (s n : State) (copy : ObjectCopy) → IsConsistent s → copy_after s copy ≡ Some n → copy.to + length copy.words ≤ words_in s.pages
to_below s n copy is e =
    let told = copy_told s n copy e in
    let at = told.can.at in
    let room = told.can.room in
    elim is.spaced.first [ inl low ↦ omega arith | inr top ↦ omega arith ]

-- What copies leave.

-- A copy stands in the used words of the current space.
pub record Stands (base used : ℕ) (copy : ObjectCopy) : Type 0 where
  pub front : 2 ≤ length copy.words
  pub low : base ≤ copy.to
  pub high : copy.to + length copy.words ≤ base + used

-- Where copies lead.
pub record HaveCopied (s : State) (copies : List ObjectCopy) (n : State) : Type 0 where
  pub pages : n.pages ≡ s.pages
  pub base : n.base ≡ s.base
  pub more : s.used ≤ n.used
  pub undo : n.undo ≡ s.undo
  pub next : n.next ≡ s.next
  pub commits : n.commits ≡ s.commits
  pub stand : AllByRecursion (Stands n.base n.used) copies

stands_one : (s n : State) (copy : ObjectCopy) → copy_after s copy ≡ Some n → HaveCopied s (copy ∷ []) n
stands_one s n copy e =
    let told = copy_told s n copy e in
    let front = told.can.front in
    let at = told.can.at in
    subst (HaveCopied s (copy ∷ [])) told.is
    (record { pages = refl; base = refl; more = omega arith; undo = refl; next = refl; commits = refl; stand = (record { front = front; low = omega arith; high = omega arith }, tt) })

stands_on : (base base' used used' : ℕ) (copy : ObjectCopy) → base' ≡ base → used ≤ used' → Stands base used copy → Stands base' used' copy
stands_on base base' used used' copy same more is = record { front = is.front; low = omega (arith, is.low, same); high = omega (arith, is.high, same, more) }

pub copies_told : (s n : State) (copies : List ObjectCopy) → copies_after s copies ≡ Some n → HaveCopied s copies n
copies_told s n [] e =
    let same : s ≡ n = cc e in
    subst (HaveCopied s []) same (record { pages = refl; base = refl; more = omega arith; undo = refl; next = refl; commits = refl; stand = tt })
copies_told s n (copy ∷ copies) e =
    option_and_then_some (λ next. copies_after next copies) (copy_after s copy) n e (λ next first rest.
    let one = stands_one s next copy first in
    let others = copies_told next n copies rest in
    record {
      pages = others.pages ∙ one.pages;
      base = others.base ∙ one.base;
      more = omega (arith, one.more, others.more);
      undo = others.undo ∙ one.undo;
      next = others.next ∙ one.next;
      commits = others.commits ∙ one.commits;
      stand = (stands_on next.base n.base next.used n.used copy others.base others.more one.stand.0, others.stand);
    })

-- a reference has room for where each of them stands
inside_each : (n : State) (copies : List ObjectCopy) → IsSpaced n → words_in n.pages ≤ 2097152 → AllByRecursion (Stands n.base n.used) copies → AllByRecursion (λ (copy : ObjectCopy). copy.to < 2097152) copies
inside_each n [] is few all = tt
inside_each n (copy ∷ copies) is few all =
    let here = all.0 in
    let front = here.front in
    let high = here.high in
    let ends = spaced_ends n is in
    (omega arith, inside_each n copies is few all.1)

pub copies_fit : (s n : State) (copies : List ObjectCopy) → IsSpaced s → words_in s.pages ≤ 2097152 → copies_after s copies ≡ Some n → AllByRecursion (λ (copy : ObjectCopy). copy.to < 2097152) copies
copies_fit s n copies is few e =
    let told = copies_told s n copies e in
    let same = told.pages in
    inside_each n copies (spaced_copies s n copies is e) (omega arith) told.stand

pub copies_inside : (s n : State) (copies : List ObjectCopy) → IsConsistent s → copies_after s copies ≡ Some n → StandInside copies
copies_inside s n copies is e = λ k d lt. AllByRecursion-at (λ (copy : ObjectCopy). copy.to < 2097152) copies k d lt (copies_fit s n copies is.spaced is.addresses e)

-- The other steps of a collection.

-- what may be taken back is such whatever collection runs
pub sound_beside : (s : State) (c : Option Collection) → AreLosers s → AreLosers (record s { collection = c })
sound_beside s c sound = λ q w some. let loser = sound q w some in record { some = loser.some; number = loser.number; known = loser.known; inside = loser.inside }

-- where a page was scanned
pub spaced_scanned : (s : State) (k : Collection) (page : ℕ) → IsSpaced s → s.collection ≡ Some k → IsSpaced (record s { collection = Some (with_scanned k page) })
spaced_scanned s k page is own =
    let inside = within s k is own in
    let owing : owed s ≡ k.used - k.copied = ap owed_by own in
    let room = is.room in
    record { first = is.first; room = omega arith; within = record { copied = inside.copied; used = inside.used } }

pub consistent_scanned : (s : State) (k now : Collection) (page : ℕ) → IsConsistent s → s.collection ≡ Some k → now ≡ with_scanned k page → IsConsistent (record s { collection = Some now })
consistent_scanned s k now page is own same =
    let whole : IsConsistent (record s { collection = Some (with_scanned k page) }) =
    record { sound = sound_beside s (Some (with_scanned k page)) is.sound; addresses = is.addresses; spaced = spaced_scanned s k page is.spaced own } in
    subst (λ (x : Collection). IsConsistent (record s { collection = Some x })) (sym same) whole

page_at : (s : State) (now : Option Collection) (page : ℕ) (c : Option Collection) → s.collection ≡ c → IsConsistent s → now ≡ option_map (λ (k : Collection). with_scanned k page) c → IsConsistent (record s { collection = now })
page_at s now page None own is same = subst (λ (x : Option Collection). IsConsistent (record s { collection = x })) (own ∙ sym same) is
page_at s now page (Some k) own is same = subst (λ (x : Option Collection). IsConsistent (record s { collection = x })) (sym same) (consistent_scanned s k (with_scanned k page) page is own refl)

pub consistent_page : (s : State) (now : Option Collection) (page : ℕ) → IsConsistent s → now ≡ option_map (λ (k : Collection). with_scanned k page) s.collection → IsConsistent (record s { collection = now })
consistent_page s now page is same = page_at s now page s.collection refl is same

-- and the scan of a page can follow
scanned_at : (s : State) (page : ℕ) (writes : List (ℕ × ℕ)) (c : Option Collection) (now : Option Collection) → is_some c ≡ true → (is_current_page s page && list_all (can_put s) writes) ≡ true → now ≡ option_map (λ (k : Collection). with_scanned k page) c
    → scanned_in s page writes c ≡ Some (record s { collection = now })
scanned_at s page writes None now runs can same = absurd (cc runs)
scanned_at s page writes (Some k) now runs can same =
    ap (λ b. cond b (Some (record s { collection = Some (with_scanned k page) })) None) can ∙ ap (λ (x : Option Collection). Some (record s { collection = x })) (sym same)

pub scan_follows : (s s' : State) (page : ℕ) (writes : List (ℕ × ℕ)) (now : Option Collection) → s ≡ s' → is_some s'.collection ≡ true → (is_current_page s' page && list_all (can_put s') writes) ≡ true
    → now ≡ option_map (λ (k : Collection). with_scanned k page) s.collection → scanned_in s' page writes s'.collection ≡ Some (record s { collection = now })
scan_follows s s' page writes now same runs can e =
    scanned_at s' page writes s'.collection now runs can (e ∙ ap (λ (x : State). option_map (λ (k : Collection). with_scanned k page) x.collection) same)
    ∙ ap (λ (x : State). Some (record x { collection = now })) (sym same)

-- where a collection has ended
pub spaced_collected : (s : State) → IsSpaced s → IsSpaced (record s { collection = None })
spaced_collected s is = let room = is.room in record { first = is.first; room = omega arith; within = tt }

pub consistent_collected : (s : State) → IsConsistent s → IsConsistent (record s { collection = None })
consistent_collected s is = record { sound = sound_beside s None is.sound; addresses = is.addresses; spaced = spaced_collected s is.spaced }

-- nothing is gray where the set has no address
none_gray : (k : Collection) (b t : Bool) → IsTrue b ↔ (k.gray ≡ empty_set) → (len k.gray == 0) ≡ t → b ≡ t
none_gray k true true told e = refl
none_gray k false false told e = refl
none_gray k true false told e =
    let none : len k.gray ≡ 0 = ap len (told.0 refl) ∙ len-empty nat_cmp in
    absurd (cc (eq-eqb (len k.gray) 0 none, e))
none_gray k false true told e = absurd (cc (told.1 (empty_of_len k.gray (eqb-true _ _ e))))

collected_of : (s : State) (b : Bool) → is_some (cond b (Some (record s { collection = None })) None) ≡ b
collected_of s true = refl
collected_of s false = refl

pub collected_told : (s : State) (k : Collection) (b : Bool) → s.collection ≡ Some k → IsTrue b ↔ (k.gray ≡ empty_set) → b ≡ is_some (collected_in s s.collection)
collected_told s k b own told =
    none_gray k b _ told refl ∙ sym (collected_of s (len k.gray == 0)) ∙ ap (λ c. is_some (collected_in s c)) (sym own)

-- where the spaces have changed their roles
pub spaced_roles : (s : State) → IsSpaced s → IsSpaced (with_roles_changed s)
spaced_roles s is =
    let room = is.room in
    let first : ((other_base s ≡ 0) ⊎ (other_base s ≡ space_words s.pages)) = elim is.first [ inl low ↦ inr (omega arith) | inr top ↦ inl (omega arith) ] in
    record { first = first; room = omega arith; within = record { copied = omega arith; used = omega arith } }

-- and nothing may be taken back
pub consistent_flip : (s : State) (undo : FinMap nat_cmp (List UndoEntry)) (k : Collection) (base : ℕ) → IsConsistent s → undo ≡ empty → k ≡ begun s.used → base ≡ other_base s
    → IsConsistent (record s { base = base; used = 0; collection = Some k; undo = undo })
consistent_flip s undo k base is none begins other =
    let roles = spaced_roles s is.spaced in
    let whole : IsConsistent (record s { base = other_base s; used = 0; collection = Some (begun s.used); undo = empty }) = record {
      sound = each_empty (IsLoser (record s { base = other_base s; used = 0; collection = Some (begun s.used); undo = empty }));
      addresses = is.addresses;
      spaced = record { first = roles.first; room = roles.room; within = roles.within };
    } in
    subst (λ (u : FinMap nat_cmp (List UndoEntry)). IsConsistent (record s { base = base; used = 0; collection = Some k; undo = u })) (sym none)
    (subst (λ (x : Collection). IsConsistent (record s { base = base; used = 0; collection = Some x; undo = empty })) (sym begins)
    (subst (λ (b : ℕ). IsConsistent (record s { base = b; used = 0; collection = Some (begun s.used); undo = empty })) (sym other) whole))

-- Other writes that may be taken back.

-- with a copy
along_copied : (s n : State) (copy : ObjectCopy) (undo : FinMap nat_cmp (List UndoEntry)) (c : Option Collection) → copied_while s copy c ≡ Some n → copied_while (with_undo s undo) copy c ≡ Some (with_undo n undo)
along_copied s n copy undo None e = absurd (cc e)
along_copied s n copy undo (Some k) e =
    let told = cond_some _ _ _ e in
    ap (λ b. cond b (Some (with_copy (with_undo s undo) k copy)) None) told.0 ∙ ap (λ (x : State). Some (with_undo x undo)) told.1

-- and with several
pub along_copies : (s n : State) (copies : List ObjectCopy) (undo : FinMap nat_cmp (List UndoEntry)) → copies_after s copies ≡ Some n → copies_after (with_undo s undo) copies ≡ Some (with_undo n undo)
along_copies s n [] undo e = let same : s ≡ n = cc e in ap (λ (x : State). Some (with_undo x undo)) same
along_copies s n (copy ∷ copies) undo e =
    option_and_then_some (λ next. copies_after next copies) (copy_after s copy) n e (λ next first rest.
    ap (λ o. option_and_then (λ next. copies_after next copies) o) (along_copied s next copy undo s.collection first) ∙ along_copies next n copies undo rest)
