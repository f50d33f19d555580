-- Each rule is checked after those before it hold.
use Rattle.std.proofs.Common.{◌≡◌, ℕ, List, ◌+◌, ◌<◌, ◌≤◌, ◌^◌, ◌∙◌, Result, Ok, Err, refl, ap, sym, subst, arith}
use Rattle.std.specs.Prelude.{Contains, IsErrAnd, OnOk}
use Rattle.object_layout.specs.declared.walk_error.WalkError.{WalkError}
use Rattle.object_layout.specs.declared.walk_error.WalkError.TheVariants.{Damaged}
use Rattle.object_layout.specs.Walk.{used_words, AreAscending, IsFilled}
use Rattle.object_layout.specs.CollectionWalk.{given, from_end, old_object_at, targets, AreAmong, AllKeepInside, AreOldObjects, IsOldFilled, IsOldFault, IsFirstStray, IsFirstOut, breaks_off, old_fails, gray_strays, field_leads_out, old_field_leads_out}
use Rattle.object_layout.proofs.WalkLaws.{object_take_end}
use Rattle.object_layout.proofs.WalkedLaws.{end_to_end_object}
use Rattle.object_layout.proofs.Starts.{end_to_end_ascend}
use Rattle.object_layout.proofs.OldStarts.{chained_ascend}
use Rattle.object_layout.proofs.collection_walk.walk_both.Goals as goal

handed_on : (r : Result (Unit {0}) WalkError) (e : WalkError) (at : ℕ) → IsErrAnd r (λ y. y ≡ e) → r ≡ Err (Damaged at) → e ≡ Damaged at
handed_on (Ok done) e at is told = cc
handed_on (Err y) e at is told = cc

passed_on : (P Q : Type 0) (r : Result (Unit {0}) WalkError) → (P → Q) → OnOk r P → OnOk r Q
passed_on P Q (Ok done) f p = f p
passed_on P Q (Err e) f p = p

-- the same of equal words and lists
same_lists : (P : List ℕ → List ℕ → List ℕ → Type 0) (a a' b b' c c' : List ℕ) → a ≡ a' → b ≡ b' → c ≡ c' → P a b c → P a' b' c'
same_lists P a a' b b' c c' one two three p =
    subst (λ (k : List ℕ). P a' b' k) three (subst (λ (k : List ℕ). P a' k c) two (subst (λ (k : List ℕ). P k b c) one p))

-- an object of a space starts before its last word
start_below : (words : List ℕ) (base used : ℕ) (starts : List ℕ) (at : ℕ) → IsFilled words base used starts → Contains starts at → at + 2 ≤ base + used
start_below words base used starts at filled has =
    let object = end_to_end_object (used_words words base used) base starts (base + used) at filled.objects has in
    let ends = object_take_end words (base + used) at object.0 object.1 in
    omega arith

pub returns-in_err-starts-clause-fault : goal.returns-in_err-starts-clause-fault
returns-in_err-starts-clause-fault g c told at is =
    breaks_off (c.in_err-starts.ensures.fault told at c.args.used refl (ap Err (handed_on c.from_residual.result _ at c.from_residual.ensures.1 is)))

pub returns-in_err-olds-clause-fault : goal.returns-in_err-olds-clause-fault
returns-in_err-olds-clause-fault g c told at is =
    let words = g.W.Words.content c.args.words.now in
    let base = c.args.base in
    let used = c.args.used in
    let from = given c.args.from in
    let starts = c.in_ok-starts.starts.items in
    let filled : IsFilled words base used starts = c.in_ok-starts.ensures.filled told used refl in
    let ascend : AreAscending starts = end_to_end_ascend (used_words words base used) base starts (base + used) filled.objects in
    let found : g.W.Words.content c.find_starts.new.words ≡ words = c.in_ok-starts.ensures.read.same_words told in
    let here : c.deref.result.now ≡ starts = c.deref.ensures.value in
    let named = ap Err (handed_on c.from_residual-in_err-olds.result _ at c.from_residual-in_err-olds.ensures.1 is) in
    old_fails starts filled (same_lists (λ (ws xs ys : List ℕ). IsOldFault ws xs from at) _ _ _ _ starts starts found here refl
    (c.in_err-olds.ensures.fault told (subst AreAscending (sym here) ascend) at named))

pub returns-in-Some-clause-fault : goal.returns-in-Some-clause-fault
returns-in-Some-clause-fault g c told at is =
    let words = g.W.Words.content c.args.words.now in
    let base = c.args.base in
    let used = c.args.used in
    let from = given c.args.from in
    let starts = c.in_ok-starts.starts.items in
    let filled : IsFilled words base used starts = c.in_ok-starts.ensures.filled told used refl in
    let ascend : AreAscending starts = end_to_end_ascend (used_words words base used) base starts (base + used) filled.objects in
    let found : g.W.Words.content c.find_starts.new.words ≡ words = c.in_ok-starts.ensures.read.same_words told in
    let here : c.deref.result.now ≡ starts = c.deref.ensures.value in
    let olds = c.in_ok-olds.olds.items in
    let old_filled : IsOldFilled words starts from olds =
    same_lists (λ (ws xs ys : List ℕ). IsOldFilled ws xs from ys) _ _ _ _ _ _ found here refl (c.in_ok-olds.ensures.filled told (subst AreAscending (sym here) ascend)) in
    let ascend_olds : AreAscending olds = chained_ascend (old_object_at words starts from) from.base olds (from_end from) old_filled.objects in
    let searched : g.W.Words.content c.find_old_starts.new.words ≡ words = c.in_ok-olds.ensures.read.same_words told ∙ found in
    let there : c.deref-2.result.now ≡ starts = c.deref-2.ensures.value in
    let named : c.in-Some.address ≡ at = cc in
    gray_strays starts olds filled old_filled (subst (IsFirstStray from.collection.gray starts) named
    (subst (λ (xs : List ℕ). IsFirstStray from.collection.gray xs c.in-Some.address) there (c.in-Some.ensures.some (subst AreAscending (sym there) ascend))))

pub returns-in_err-check_fields-clause-fault : goal.returns-in_err-check_fields-clause-fault
returns-in_err-check_fields-clause-fault g c told at is =
    let words = g.W.Words.content c.args.words.now in
    let base = c.args.base in
    let used = c.args.used in
    let from = given c.args.from in
    let starts = c.in_ok-starts.starts.items in
    let filled : IsFilled words base used starts = c.in_ok-starts.ensures.filled told used refl in
    let ascend : AreAscending starts = end_to_end_ascend (used_words words base used) base starts (base + used) filled.objects in
    let found : g.W.Words.content c.find_starts.new.words ≡ words = c.in_ok-starts.ensures.read.same_words told in
    let here : c.deref.result.now ≡ starts = c.deref.ensures.value in
    let olds = c.in_ok-olds.olds.items in
    let old_filled : IsOldFilled words starts from olds =
    same_lists (λ (ws xs ys : List ℕ). IsOldFilled ws xs from ys) _ _ _ _ _ _ found here refl (c.in_ok-olds.ensures.filled told (subst AreAscending (sym here) ascend)) in
    let ascend_olds : AreAscending olds = chained_ascend (old_object_at words starts from) from.base olds (from_end from) old_filled.objects in
    let searched : g.W.Words.content c.find_old_starts.new.words ≡ words = c.in_ok-olds.ensures.read.same_words told ∙ found in
    let there : c.deref-2.result.now ≡ starts = c.deref-2.ensures.value in
    let few : (a : ℕ) → Contains starts a → a + 1 < 2 ^ 32 = λ a has.
    let below = start_below words base used starts a filled has in let room = c.requires.space in let size = c.size-size.ensures in let fits = c.size-size.type_inv in omega arith in
    let among : AreAmong from.collection.gray starts =
    subst (AreAmong from.collection.gray) there (c.in_default.ensures.none (subst AreAscending (sym there) ascend) (λ a has. few a (subst (λ (xs : List ℕ). Contains xs a) there has))) in
    let firsts : c.deref-3.result.now ≡ starts = c.deref-3.ensures.value in
    let seconds : c.deref-4.result.now ≡ olds = c.deref-4.ensures.value in
    let filled_now : IsFilled (g.W.Words.content c.find_old_starts.new.words) base used c.deref-3.result.now =
    same_lists (λ (ws xs ys : List ℕ). IsFilled ws base used xs) _ _ _ _ olds olds (sym searched) (sym firsts) refl filled in
    let ascend_now : AreAscending c.deref-4.result.now = subst AreAscending (sym seconds) ascend_olds in
    let named = ap Err (handed_on c.from_residual-in_err-check_fields.result _ at c.from_residual-in_err-check_fields.ensures.1 is) in
    field_leads_out starts olds filled old_filled among (same_lists (λ (ws xs ys : List ℕ). IsFirstOut ws (targets from.collection xs ys) xs at) _ _ _ _ _ _ searched firsts seconds
    (c.in_err-check_fields.ensures.fault told ascend_now at base used refl filled_now named))

pub returns-clause-passes : goal.returns-clause-passes
returns-clause-passes g c told =
    let words = g.W.Words.content c.args.words.now in
    let base = c.args.base in
    let used = c.args.used in
    let from = given c.args.from in
    let starts = c.in_ok-starts.starts.items in
    let filled : IsFilled words base used starts = c.in_ok-starts.ensures.filled told used refl in
    let ascend : AreAscending starts = end_to_end_ascend (used_words words base used) base starts (base + used) filled.objects in
    let found : g.W.Words.content c.find_starts.new.words ≡ words = c.in_ok-starts.ensures.read.same_words told in
    let here : c.deref.result.now ≡ starts = c.deref.ensures.value in
    let olds = c.in_ok-olds.olds.items in
    let old_filled : IsOldFilled words starts from olds =
    same_lists (λ (ws xs ys : List ℕ). IsOldFilled ws xs from ys) _ _ _ _ _ _ found here refl (c.in_ok-olds.ensures.filled told (subst AreAscending (sym here) ascend)) in
    let ascend_olds : AreAscending olds = chained_ascend (old_object_at words starts from) from.base olds (from_end from) old_filled.objects in
    let searched : g.W.Words.content c.find_old_starts.new.words ≡ words = c.in_ok-olds.ensures.read.same_words told ∙ found in
    let there : c.deref-2.result.now ≡ starts = c.deref-2.ensures.value in
    let few : (a : ℕ) → Contains starts a → a + 1 < 2 ^ 32 = λ a has.
    let below = start_below words base used starts a filled has in let room = c.requires.space in let size = c.size-size.ensures in let fits = c.size-size.type_inv in omega arith in
    let among : AreAmong from.collection.gray starts =
    subst (AreAmong from.collection.gray) there (c.in_default.ensures.none (subst AreAscending (sym there) ascend) (λ a has. few a (subst (λ (xs : List ℕ). Contains xs a) there has))) in
    let firsts : c.deref-3.result.now ≡ starts = c.deref-3.ensures.value in
    let seconds : c.deref-4.result.now ≡ olds = c.deref-4.ensures.value in
    let filled_now : IsFilled (g.W.Words.content c.find_old_starts.new.words) base used c.deref-3.result.now =
    same_lists (λ (ws xs ys : List ℕ). IsFilled ws base used xs) _ _ _ _ olds olds (sym searched) (sym firsts) refl filled in
    let ascend_now : AreAscending c.deref-4.result.now = subst AreAscending (sym seconds) ascend_olds in
    let inside : AllKeepInside words (targets from.collection starts olds) starts =
    same_lists (λ (ws xs ys : List ℕ). AllKeepInside ws (targets from.collection xs ys) xs) _ _ _ _ _ _ searched firsts seconds
    (c.in_ok-check_fields.ensures.passes told ascend_now base used refl filled_now) in
    let checked : g.W.Words.content c.check_fields.new.words ≡ words = c.in_ok-check_fields.ensures.read.same_words told ∙ searched in
    let thirds : c.deref-5.result.now ≡ olds = c.deref-5.ensures.value in
    let objects_now : AreOldObjects (g.W.Words.content c.check_fields.new.words) starts from c.deref-5.result.now (from_end from) =
    same_lists (λ (ws xs ys : List ℕ). AreOldObjects ws xs from ys (from_end from)) _ _ starts starts _ _ (sym checked) refl (sym thirds) old_filled.objects in
    passed_on _ _ c.check_old_fields.result
    (λ old_inside. record {
      starts = starts;
      olds = olds;
      filled = filled;
      old_filled = old_filled;
      grays = among;
      inside = inside;
      old_inside = same_lists (λ (ws xs ys : List ℕ). AllKeepInside ws (λ a. ys) ys) _ _ starts starts _ _ checked refl thirds (old_inside starts objects_now);
    })
    (c.check_old_fields.ensures.passes told)

pub returns-clause-fault : goal.returns-clause-fault
returns-clause-fault g c told at is =
    let words = g.W.Words.content c.args.words.now in
    let base = c.args.base in
    let used = c.args.used in
    let from = given c.args.from in
    let starts = c.in_ok-starts.starts.items in
    let filled : IsFilled words base used starts = c.in_ok-starts.ensures.filled told used refl in
    let ascend : AreAscending starts = end_to_end_ascend (used_words words base used) base starts (base + used) filled.objects in
    let found : g.W.Words.content c.find_starts.new.words ≡ words = c.in_ok-starts.ensures.read.same_words told in
    let here : c.deref.result.now ≡ starts = c.deref.ensures.value in
    let olds = c.in_ok-olds.olds.items in
    let old_filled : IsOldFilled words starts from olds =
    same_lists (λ (ws xs ys : List ℕ). IsOldFilled ws xs from ys) _ _ _ _ _ _ found here refl (c.in_ok-olds.ensures.filled told (subst AreAscending (sym here) ascend)) in
    let ascend_olds : AreAscending olds = chained_ascend (old_object_at words starts from) from.base olds (from_end from) old_filled.objects in
    let searched : g.W.Words.content c.find_old_starts.new.words ≡ words = c.in_ok-olds.ensures.read.same_words told ∙ found in
    let there : c.deref-2.result.now ≡ starts = c.deref-2.ensures.value in
    let few : (a : ℕ) → Contains starts a → a + 1 < 2 ^ 32 = λ a has.
    let below = start_below words base used starts a filled has in let room = c.requires.space in let size = c.size-size.ensures in let fits = c.size-size.type_inv in omega arith in
    let among : AreAmong from.collection.gray starts =
    subst (AreAmong from.collection.gray) there (c.in_default.ensures.none (subst AreAscending (sym there) ascend) (λ a has. few a (subst (λ (xs : List ℕ). Contains xs a) there has))) in
    let firsts : c.deref-3.result.now ≡ starts = c.deref-3.ensures.value in
    let seconds : c.deref-4.result.now ≡ olds = c.deref-4.ensures.value in
    let filled_now : IsFilled (g.W.Words.content c.find_old_starts.new.words) base used c.deref-3.result.now =
    same_lists (λ (ws xs ys : List ℕ). IsFilled ws base used xs) _ _ _ _ olds olds (sym searched) (sym firsts) refl filled in
    let ascend_now : AreAscending c.deref-4.result.now = subst AreAscending (sym seconds) ascend_olds in
    let inside : AllKeepInside words (targets from.collection starts olds) starts =
    same_lists (λ (ws xs ys : List ℕ). AllKeepInside ws (targets from.collection xs ys) xs) _ _ _ _ _ _ searched firsts seconds
    (c.in_ok-check_fields.ensures.passes told ascend_now base used refl filled_now) in
    let checked : g.W.Words.content c.check_fields.new.words ≡ words = c.in_ok-check_fields.ensures.read.same_words told ∙ searched in
    let thirds : c.deref-5.result.now ≡ olds = c.deref-5.ensures.value in
    let objects_now : AreOldObjects (g.W.Words.content c.check_fields.new.words) starts from c.deref-5.result.now (from_end from) =
    same_lists (λ (ws xs ys : List ℕ). AreOldObjects ws xs from ys (from_end from)) _ _ starts starts _ _ (sym checked) refl (sym thirds) old_filled.objects in
    old_field_leads_out starts olds filled old_filled among inside (same_lists (λ (ws xs ys : List ℕ). IsFirstOut ws (λ a. ys) ys at) _ _ starts starts _ _ checked refl thirds
    (c.check_old_fields.ensures.fault told at starts objects_now is))
