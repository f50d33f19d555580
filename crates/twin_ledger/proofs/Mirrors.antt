-- What turns with a journal and with its mirror keep.
use Rattle.std.proofs.Common.{◌≡◌, ℕ, zero, suc, ◌-◌, ◌≤◌, ◌<◌, ◌⊎◌, Bool, true, false, List, [], ◌∷◌, ◌++◌, length, length-append, append-nil, MatchBool, drop, get_or, inl, inr, sym, refl, ap, ◌∙◌, subst, ⊎_elim, arith, Option, Some}
use Rattle.turn_lock.specs.Turning.{IsBeginning, StandIn, added, times}
use Rattle.turn_lock.specs.Tied.{MayRaise, MayRaiseBoth, MayPut}
use Rattle.turn_lock.proofs.TurnLaws.{begins_itself, begins_more, begins_length, added_one, added_none, rise_added}
use Rattle.turn_lock.proofs.TwinTies.{no_bool}
use Rattle.twin_ledger.specs.declared.ledger.Journal.{Journal}
use Rattle.twin_ledger.specs.declared.ledger.Mirror.{Mirror}
use Rattle.twin_ledger.specs.Mirrored.{Mirrors, IsGrown, flag}
use Rattle.twin_ledger.specs.Ready.{Lock, Pass, IsReady, IsRisen}
use Rattle.turn_lock.specs.Merging.{entries_of, Rise}
use Rattle.turn_lock.specs.TwinPasses.{IsNew, first_of, mine_of, seen_of}

abbrev pub Beside : Journal → Mirror → Type 0
Beside j m = Mirrors j.posts.items j.told m.copied.items m.failed

abbrev pub Later : Mirror → Mirror → Type 0
Later a b = IsGrown a.copied.items a.failed b.copied.items b.failed

abbrev pub Owed : Journal → Mirror → ℕ
Owed j m = flag m.failed - j.told

flag_le : (b : Bool) → flag b ≤ 1
flag_le true = omega arith
flag_le false = omega arith

-- the shorter of two beginnings of one list begins the longer
common : (a b r s : List ℕ) → a ++ r ≡ b ++ s → length a ≤ length b → IsBeginning a b
common [] b r s e h = (b, refl)
common (x ∷ a) [] r s e h = absurd (omega (arith, h))
common (x ∷ a) (y ∷ b) r s e h =
    let t = common a b r s (ap (drop 1) e) (omega (arith, h)) in let same : y ≡ x = sym (ap (λ (l : List ℕ). get_or l 0 0) e) in
    (t.0, λ i. same i ∷ t.1 i)

begins_both : (a b c : List ℕ) → IsBeginning a c → IsBeginning b c → length a ≤ length b → IsBeginning a b
begins_both a b c x y h = common a b x.0 y.0 (sym x.1 ∙ y.1) h

-- a turn that posts, or posts nothing
pub posting : (saw : Option Mirror) (old new : Journal) (more : List ℕ) (owes owes' : ℕ) → new.posts.items ≡ old.posts.items ++ more → new.told ≡ old.told → owes ≡ owes' → MayRaise Beside Later Owed saw old owes new owes'
posting saw old new more owes owes' posts told same m known b = (
  record { first = subst (IsBeginning m.copied.items) (sym posts) (begins_more m.copied.items old.posts.items more b.first); told_of = (let n = b.told_of in omega (arith, told, n)) },
  λ others h. omega (arith, told, same, h),
)

-- a count that is at most 1, and 1 more where it was 0
once : (old new : ℕ) → old ≤ 1 → (old ≡ 0 → new ≡ 1) × (0 < old → new ≡ old) → new ≡ 1
once zero new few does = does.0 refl
once (suc zero) new few does = does.1 (omega arith)
once (suc (suc k)) new few does = absurd (omega (arith, few))

-- the turn of a pass that tells of a failure that it saw, unless it was told
pub telling : (saw : Option Mirror) (mirror : Mirror) (old new : Journal) (owes : ℕ) → saw ≡ Some mirror → mirror.failed ≡ true → new.posts.items ≡ old.posts.items → (old.told ≡ 0 → new.told ≡ 1) × (0 < old.told → new.told ≡ old.told)
    → MayRaise Beside Later Owed saw old owes new 0
telling saw mirror old new owes is fails posts does m known b =
    let failed : flag m.failed ≡ 1 = ap flag ((known mirror is).still fails) in let before = b.told_of in let told : new.told ≡ 1 = once old.told new.told (omega (arith, before, failed)) does in (
      record {
        first = subst (IsBeginning m.copied.items) (sym posts) b.first;
        told_of = omega (arith, told, failed);
      },
      λ others h. omega (arith, failed, told),
    )

-- the mirror goes back with what was shown, or as it was
pub copied_on : (seen shown : List ℕ) (first : Journal) (old new : Mirror) (owes : ℕ) → shown ≡ seen → new.failed ≡ false → old.failed ≡ false → ((new.copied.items ≡ shown) × (length old.copied.items ≤ length shown)) ⊎ ((new.copied.items ≡ old.copied.items) × (length shown < length old.copied.items))
    → MayPut Beside Later Owed (λ v. IsBeginning seen v.posts.items × (v.name ≡ first.name)) old owes new 0
copied_on seen shown first old new owes same works worked copied v possible b =
    let in_posts : IsBeginning shown v.posts.items = subst (λ l. IsBeginning l v.posts.items) (sym same) possible.0 in
    let off : flag new.failed ≡ 0 = ap flag works in let was_off : flag old.failed ≡ 0 = ap flag worked in let before = b.told_of in (
      record {
        first = ⊎_elim (λ t. subst (λ l. IsBeginning l v.posts.items) (sym t.0) in_posts) (λ e. subst (λ l. IsBeginning l v.posts.items) (sym e.0) b.first) copied;
        told_of = omega (arith, off, was_off, before);
      },
      record {
        more = ⊎_elim (λ t. subst (IsBeginning old.copied.items) (sym t.0) (begins_both old.copied.items shown v.posts.items b.first in_posts t.1)) (λ e. subst (IsBeginning old.copied.items) (sym e.0) (begins_itself old.copied.items)) copied;
        still = λ h. absurd (no_bool old.failed h worked);
      },
      λ others h. omega (arith, off),
    )

-- the mirror goes back after a failure
pub failed_on : (possible : Journal → Type 0) (old new : Mirror) (owes : ℕ) → new.copied.items ≡ old.copied.items → new.failed ≡ true → MayPut Beside Later Owed possible old owes new 1
failed_on possible old new owes copied fails v may b =
    let on : flag new.failed ≡ 1 = ap flag fails in let before = b.told_of in let low = flag_le old.failed in (
      record { first = subst (λ l. IsBeginning l v.posts.items) (sym copied) b.first; told_of = omega (arith, on, before, low) },
      record { more = subst (IsBeginning old.copied.items) (sym copied) (begins_itself old.copied.items); still = λ _. fails },
      λ others h. omega (arith, on),
    )

drop_begun : (a r : List ℕ) → drop (length a) (a ++ r) ≡ r
drop_begun [] r = refl
drop_begun (x ∷ a) r = drop_begun a r

-- the mirror beside a journal has no more posts than that one once it posts
pub no_more : (copied before more shown : List ℕ) → IsBeginning copied before → shown ≡ before ++ more → length copied ≤ length shown
no_more copied before more shown begins is = begins_length copied shown (subst (IsBeginning copied) (sym is) (begins_more copied before more begins))

-- a turn with both, in which the mirror follows or fails
pub following : (old new : Journal) (down device : Mirror) (more shown : List ℕ) (owes owes' : ℕ) → shown ≡ new.posts.items → new.posts.items ≡ old.posts.items ++ more → new.told ≡ old.told
    → ((owes' ≡ 0) × (device.failed ≡ false) × (down.failed ≡ false) × (device.copied.items ≡ down.copied.items ++ drop (length down.copied.items) shown)) ⊎ ((owes' ≡ 1) × (device.failed ≡ true) × (device.copied.items ≡ down.copied.items))
    → MayRaiseBoth Beside Later Owed old down owes new device owes'
following old new down device more shown owes owes' same posts told does b =
    let longer : IsBeginning down.copied.items new.posts.items = subst (IsBeginning down.copied.items) (sym posts) (begins_more down.copied.items old.posts.items more b.first) in
    let before = b.told_of in let low = flag_le down.failed in ⊎_elim
    (λ w. let off : flag device.failed ≡ 0 = ap flag w.1 in let was_off : flag down.failed ≡ 0 = ap flag w.2 in
    let all : device.copied.items ≡ new.posts.items = w.3 ∙ (ap (λ l. down.copied.items ++ drop (length down.copied.items) l) (same ∙ longer.1) ∙ (ap (λ l. down.copied.items ++ l) (drop_begun down.copied.items longer.0) ∙ sym longer.1)) in (
      record { first = subst (λ l. IsBeginning l new.posts.items) (sym all) (begins_itself new.posts.items); told_of = omega (arith, off, was_off, before, told) },
      record { more = subst (IsBeginning down.copied.items) (sym all) longer; still = λ h. absurd (no_bool down.failed h w.2) },
      λ others h. omega (arith, off),
    ))
    (λ f. let on : flag device.failed ≡ 1 = ap flag f.1 in (
      record { first = subst (λ l. IsBeginning l new.posts.items) (sym f.2) longer; told_of = omega (arith, on, before, low, told) },
      record { more = subst (IsBeginning down.copied.items) (sym f.2) (begins_itself down.copied.items); still = λ _. f.1 },
      λ others h. omega (arith, on, f.0),
    ))
    does

-- the mirror goes back as it was raised
pub as_raised : (possible : Journal → Type 0) (m : Mirror) (owes owes' : ℕ) → owes ≡ owes' → MayPut Beside Later Owed possible m owes m owes'
as_raised possible m owes owes' same v may b = (b, record { more = begins_itself m.copied.items; still = λ e. e }, λ others h. omega (arith, h, same))

pub ready : {lock : Lock} {pass : Pass} {number label : ℕ} {log : List ℕ} → IsNew lock number label log pass → IsReady lock pass
ready new = record { of_lock = new.of_lock; at_rest = new.at_rest; nothing = new.owes }

pub two_numbers : (n : ℕ) → n < 2 → 0 < times n (0 ∷ 1 ∷ [])
two_numbers zero h = omega arith
two_numbers (suc zero) h = omega arith
two_numbers (suc (suc n)) h = absurd (omega (arith, h))

pub eight_numbers : (n : ℕ) → n < 8 → 0 < times n (0 ∷ 1 ∷ 2 ∷ 3 ∷ 4 ∷ 5 ∷ 6 ∷ 7 ∷ [])
eight_numbers zero h = omega arith
eight_numbers (suc zero) h = omega arith
eight_numbers (suc (suc zero)) h = omega arith
eight_numbers (suc (suc (suc zero))) h = omega arith
eight_numbers (suc (suc (suc (suc zero)))) h = omega arith
eight_numbers (suc (suc (suc (suc (suc zero))))) h = omega arith
eight_numbers (suc (suc (suc (suc (suc (suc zero)))))) h = omega arith
eight_numbers (suc (suc (suc (suc (suc (suc (suc zero))))))) h = omega arith
eight_numbers (suc (suc (suc (suc (suc (suc (suc (suc n)))))))) h = absurd (omega (arith, h))

-- a pass that was just made has no posts of its own
pub risen : {lock : Lock} {pass : Pass} {number label : ℕ} {log : List ℕ} → IsNew lock number label log pass → (first_of lock).before ≤ length log → IsRisen lock pass
risen {lock} new long = record { rise = subst (Rise (first_of lock).before) (sym new.mine) tt; long = (let n = ap length new.seen in omega (arith, n, long)) }

-- what is added to the own posts of a pass that posts one more, or none
own_more : (old : List (ℕ × ℕ)) (log log' : List ℕ) (e : ℕ) → log' ≡ log ++ e ∷ [] → entries_of (old ++ added log log') ≡ entries_of old ++ e ∷ []
own_more [] log log' e is = ap (λ l. entries_of (added log l)) is ∙ ap entries_of (added_one log e)
own_more (p ∷ ps) log log' e is = ap (λ l. p.1 ∷ l) (own_more ps log log' e is)

own_same : (old : List (ℕ × ℕ)) (log log' : List ℕ) → log' ≡ log → entries_of (old ++ added log log') ≡ entries_of old
own_same [] log log' is = ap (λ l. entries_of (added log l)) is ∙ ap entries_of (added_none log)
own_same (p ∷ ps) log log' is = ap (λ l. p.1 ∷ l) (own_same ps log log' is)

pub own_posts : (posted : Bool) (number : ℕ) (old new : List (ℕ × ℕ)) (log log' : List ℕ) → new ≡ old ++ added log log' → MatchBool posted (log' ≡ log ++ number ∷ []) (log' ≡ log)
    → MatchBool posted (entries_of new ≡ entries_of old ++ number ∷ []) (entries_of new ≡ entries_of old)
own_posts true number old new log log' mine is = ap entries_of mine ∙ own_more old log log' number is
own_posts false number old new log log' mine is = ap entries_of mine ∙ own_same old log log' is

-- with one more post at the end of the journal, or none
abbrev pub OneMore : List ℕ → List ℕ → Type 0
OneMore log log' = ((e : ℕ) × (log' ≡ log ++ e ∷ [])) ⊎ (log' ≡ log)

pub one_more : (posted : Bool) (number : ℕ) (log log' : List ℕ) → MatchBool posted (log' ≡ log ++ number ∷ []) (log' ≡ log) → OneMore log log'
one_more true number log log' is = inl (number, is)
one_more false number log log' is = inr is

pub more_posts : (posted : Bool) (number : ℕ) (log log' : List ℕ) → MatchBool posted (log' ≡ log ++ number ∷ []) (log' ≡ log) → (more : List ℕ) × (log' ≡ log ++ more)
more_posts true number log log' is = (number ∷ [], is)
more_posts false number log log' is = ([], is ∙ sym (append-nil log))

-- a turn that adds a post, or none, leaves the own posts of its pass in order
pub rises_on : (lock : Lock) (old mid new : Pass) → IsBeginning (seen_of old) (seen_of mid) → mine_of mid ≡ mine_of old → StandIn (seen_of mid) (mine_of mid) → mine_of new ≡ mine_of mid ++ added (seen_of mid) (seen_of new) → OneMore (seen_of mid) (seen_of new)
    → IsRisen lock old → IsRisen lock new
rises_on lock old mid new begins same stand mine more r =
    let low : ℕ = (first_of lock).before in let log : List ℕ = seen_of mid in
    let up : low ≤ length log = (let a = r.long in let b = begins_length (seen_of old) log begins in omega (arith, a, b)) in
    let rise : Rise low (mine_of mid) = subst (Rise low) (sym same) r.rise in ⊎_elim
    (λ m. record {
      rise = subst (Rise low) (sym mine) (rise_added low log (seen_of new) (mine_of mid) m.0 up rise stand m.1);
      long = (let n = ap length m.1 ∙ length-append log (m.0 ∷ []) in omega (arith, n, up));
    })
    (λ e. record {
      rise = subst (Rise low) (sym (mine ∙ (ap (λ l. mine_of mid ++ added log l) e ∙ (ap (λ l. mine_of mid ++ l) (added_none log) ∙ append-nil (mine_of mid))))) rise;
      long = (let n = ap length e in omega (arith, n, up));
    })
    more
