-- What the store of a page does, as a carry says it.
use Rattle.std.proofs.Common.{◌≡◌, ◌≢◌, ℕ, ◌+◌, ◌-◌, ◌*◌, ◌<◌, ◌≤◌, Bool, true, false, List, Result, Ok, Err, length, refl, sym, ap, subst, ◌∙◌, inl, inr, arith, lit<}
use Rattle.std.specs.Prelude.{◌==◌, min, nat_lt, if◌then◌else◌}
use Rattle.std.proofs.lemmas.Bool.{cases_eq, cases_lt, eq-eqb, ne_eqb, le-ltb, lt-ltb, ltb-true, cond-true, cond-false}
use Rattle.gated_log.specs.declared.log.Log.{Log}
use Rattle.gated_log.specs.LogState.{is_waiting, log_count, log_forced}
use Rattle.image_plan.specs.declared.plan.Plan.{Plan}
use Rattle.page_cache.specs.CacheState.{cache_log, cache_pages, cached_lsn, cached_page, flushed_lsn}
use Rattle.page_redo.specs.Carry.{Carry, kept_at, landed_to, stored_in}
use Rattle.page_redo.specs.Transfers.{opened_at, set_at, store_calls as calls_by_gates}
use Rattle.page_store.specs.Gates.{open_gates}
use Rattle.page_store.specs.Page.{page_lsn, HasPage, SamePage}
use Rattle.page_store.specs.StoreState.{store_plan, Knows}
use Rattle.log_records.specs.declared.Record.{Record}
use Rattle.page_redo.specs.Origin.{Origin}
use Rattle.logged_pages.specs.Advancing.{IsAt, HasGates, was_forced}
use Rattle.logged_pages.specs.declared.logged.LoggedPages.{LoggedPages}
use Rattle.logged_pages.specs.OnDisk.{batches_if, force_calls, is_ahead, store_calls, HasStored, IsLeft, Stands}
use Rattle.logged_pages.specs.State.{cache_of, log_of, store_of}
use Rattle.logged_pages.proofs.DiskLaws.{one_of}

-- Naturals.

forced_by : (a l n m : ℕ) → l ≤ n → m ≡ (if nat_lt a l then n else a) → nat_lt a m ≡ nat_lt a l
forced_by a l n m le is = elim (cases_lt a l) [
  | inl less ↦
      let now : m ≡ n = is ∙ cond-true (nat_lt a l) n a (lt-ltb a l less) in
      lt-ltb a m (omega (arith, now, less, le)) ∙ sym (lt-ltb a l less)
  | inr reached ↦
      let now : m ≡ a = is ∙ cond-false (nat_lt a l) n a (le-ltb a l reached) in
      le-ltb a m (omega (arith, now)) ∙ sym (le-ltb a l reached)
]

not_less : (a l n m : ℕ) → a ≤ n → m ≡ (if nat_lt a l then n else a) → a ≤ m
not_less a l n m le is = elim (cases_lt a l) [
  | inl less ↦ omega (arith, is ∙ cond-true (nat_lt a l) n a (lt-ltb a l less), le)
  | inr reached ↦ omega (arith, is ∙ cond-false (nat_lt a l) n a (le-ltb a l reached))
]

-- What lands.

-- the LSNs and the gates are as they were
pub landed_lsns : (l : ℕ) (k : Carry) → (landed_to l k).lsns ≡ k.lsns
landed_lsns l k = elim (cases_lt k.forced l) [
  | inl less ↦ ap (λ (j : Carry). j.lsns) (cond-true (nat_lt k.forced l) _ k (lt-ltb k.forced l less))
  | inr reached ↦ ap (λ (j : Carry). j.lsns) (cond-false (nat_lt k.forced l) _ k (le-ltb k.forced l reached))
]

pub landed_stored : (l : ℕ) (k : Carry) → (landed_to l k).stored ≡ k.stored
landed_stored l k = elim (cases_lt k.forced l) [
  | inl less ↦ ap (λ (j : Carry). j.stored) (cond-true (nat_lt k.forced l) _ k (lt-ltb k.forced l less))
  | inr reached ↦ ap (λ (j : Carry). j.stored) (cond-false (nat_lt k.forced l) _ k (le-ltb k.forced l reached))
]

pub landed_gates : (l : ℕ) (k : Carry) → (landed_to l k).gates ≡ k.gates
landed_gates l k = elim (cases_lt k.forced l) [
  | inl less ↦ ap (λ (j : Carry). j.gates) (cond-true (nat_lt k.forced l) _ k (lt-ltb k.forced l less))
  | inr reached ↦ ap (λ (j : Carry). j.gates) (cond-false (nat_lt k.forced l) _ k (le-ltb k.forced l reached))
]

pub landed_last : (l : ℕ) (k : Carry) → (landed_to l k).last ≡ k.last
landed_last l k = elim (cases_lt k.forced l) [
  | inl less ↦ ap (λ (j : Carry). j.last) (cond-true (nat_lt k.forced l) _ k (lt-ltb k.forced l less))
  | inr reached ↦ ap (λ (j : Carry). j.last) (cond-false (nat_lt k.forced l) _ k (le-ltb k.forced l reached))
]

pub landed_forced : (l : ℕ) (k : Carry) → (landed_to l k).forced ≡ (if nat_lt k.forced l then k.last else k.forced)
landed_forced l k = elim (cases_lt k.forced l) [
  | inl less ↦ ap (λ (j : Carry). j.forced) (cond-true (nat_lt k.forced l) _ k (lt-ltb k.forced l less)) ∙ sym (cond-true (nat_lt k.forced l) k.last k.forced (lt-ltb k.forced l less))
  | inr reached ↦ ap (λ (j : Carry). j.forced) (cond-false (nat_lt k.forced l) _ k (le-ltb k.forced l reached)) ∙ sym (cond-false (nat_lt k.forced l) k.last k.forced (le-ltb k.forced l reached))
]

pub landed_calls : (l : ℕ) (k : Carry) → (landed_to l k).calls ≡ k.calls + (if nat_lt k.forced l then 4 else 0)
landed_calls l k = elim (cases_lt k.forced l) [
  | inl less ↦ ap (λ (j : Carry). j.calls) (cond-true (nat_lt k.forced l) _ k (lt-ltb k.forced l less)) ∙ sym (ap (λ (n : ℕ). k.calls + n) (cond-true (nat_lt k.forced l) 4 0 (lt-ltb k.forced l less)))
  | inr reached ↦ let none : k.calls ≡ k.calls + 0 = omega arith in ap (λ (j : Carry). j.calls) (cond-false (nat_lt k.forced l) _ k (le-ltb k.forced l reached)) ∙ none ∙ sym (ap (λ (n : ℕ). k.calls + n) (cond-false (nat_lt k.forced l) 4 0 (le-ltb k.forced l reached)))
]

-- a store makes calls
some_by_gates : (n : ℕ) → 0 < calls_by_gates n
some_by_gates n = by_test (nat_lt n 2)
  where
    by_test : (b : Bool) → 0 < (if b then 4 else 6)
    by_test true = lit< tt
    by_test false = lit< tt

pub stored_some : (v : ℕ) (k : Carry) → k.calls < (stored_in v k).calls
stored_some v k = omega (arith, landed_calls (k.lsns v) k, some_by_gates ((landed_to (k.lsns v) k).gates v))

-- A page is stored.
module _ (old new : LoggedPages) (v : ℕ) (within : v < cache_pages (cache_of old)) where
  abbrev ahead : Bool
  ahead = is_ahead old v

  logged_lsn : cached_lsn (cache_of old) v ≤ log_count (log_of old)
  logged_lsn = omega (arith, old.logged v)

  pub was_ahead : log_forced (log_of new) ≡ (if ahead then log_count (log_of old) else log_forced (log_of old)) → was_forced old new ≡ ahead
  was_ahead is = forced_by (log_forced (log_of old)) (cached_lsn (cache_of old) v) (log_count (log_of old)) (log_forced (log_of new)) logged_lsn is

  pub still_forced : log_forced (log_of new) ≡ (if ahead then log_count (log_of old) else log_forced (log_of old)) → log_forced (log_of old) ≤ log_forced (log_of new)
  still_forced is = not_less (log_forced (log_of old)) (cached_lsn (cache_of old) v) (log_count (log_of old)) (log_forced (log_of new)) (omega arith) is

  -- The carry.
  module _ (k : Carry) (at : IsAt k old) where
    last_at : k.last ≡ log_count (log_of old)
    last_at = omega (arith, at.last)

    lsn_at : k.lsns v ≡ cached_lsn (cache_of old) v
    lsn_at = at.lsns v within

    pub at_stored : log_forced (log_of new) ≡ (if ahead then log_count (log_of old) else log_forced (log_of old)) → log_count (log_of new) ≡ log_count (log_of old) → cache_pages (cache_of new) ≡ cache_pages (cache_of old)
        → ((q : ℕ) → cached_lsn (cache_of new) q ≡ cached_lsn (cache_of old) q) → flushed_lsn (cache_of new) v ≡ cached_lsn (cache_of old) v → ((q : ℕ) → q ≢ v → flushed_lsn (cache_of new) q ≡ flushed_lsn (cache_of old) q) → IsAt (stored_in v k) new
    at_stored forced count pages lsns clean others = record {
      lsns = λ p lt. ap (λ (f : ℕ → ℕ). f p) (landed_lsns (k.lsns v) k) ∙ at.lsns p (omega (arith, lt, pages)) ∙ sym (lsns p);
      stored = λ p lt. elim (cases_eq p v) [
        | inl here ↦
            subst (λ (q : ℕ). set_at v ((landed_to (k.lsns v) k).lsns v) (landed_to (k.lsns v) k).stored q ≡ flushed_lsn (cache_of new) q) (sym here)
            (cond-true (v == v) ((landed_to (k.lsns v) k).lsns v) ((landed_to (k.lsns v) k).stored v) (eq-eqb v v refl) ∙ ap (λ (f : ℕ → ℕ). f v) (landed_lsns (k.lsns v) k) ∙ lsn_at ∙ sym clean)
        | inr apart ↦
            cond-false (p == v) ((landed_to (k.lsns v) k).lsns v) ((landed_to (k.lsns v) k).stored p) (ne_eqb p v apart)
            ∙ ap (λ (f : ℕ → ℕ). f p) (landed_stored (k.lsns v) k) ∙ at.stored p (omega (arith, lt, pages)) ∙ sym (others p apart)
      ];
      forced =
          landed_forced (k.lsns v) k
          ∙ ap (λ (n : ℕ). if nat_lt n (k.lsns v) then k.last else n) at.forced
          ∙ ap (λ (n : ℕ). if nat_lt (log_forced (log_of old)) n then k.last else log_forced (log_of old)) lsn_at
          ∙ ap (λ (n : ℕ). if ahead then n else log_forced (log_of old)) last_at
          ∙ sym forced;
      last = omega (arith, landed_last (k.lsns v) k, at.last, count);
    }

    -- a page that is ahead has a record that waits
    waits : (test : Bool) → nat_lt (log_forced (log_of old)) (cached_lsn (cache_of old) v) ≡ test → (if test then force_calls (is_waiting (log_of old)) else 0) ≡ (if test then 4 else 0)
    waits true is =
        let less : log_forced (log_of old) < cached_lsn (cache_of old) v = ltb-true (log_forced (log_of old)) (cached_lsn (cache_of old) v) is in
        let some : is_waiting (log_of old) ≡ true = lt-ltb 4 _ (omega (arith, less, logged_lsn, (log_of old).few_waiting)) in
        ap force_calls some
    waits false is = refl

    pub calls_stored : (image : List ℕ) → HasGates old k.gates image → (if ahead then force_calls (is_waiting (log_of old)) else 0) + store_calls old v image ≡ (stored_in v k).calls - k.calls
    calls_stored image gates =
        let first = waits ahead refl in
        let landed = landed_calls (k.lsns v) k
        ∙ ap (λ (n : ℕ). k.calls + (if nat_lt n (k.lsns v) then 4 else 0)) at.forced
        ∙ ap (λ (n : ℕ). k.calls + (if nat_lt (log_forced (log_of old)) n then 4 else 0)) lsn_at in
        let second = ap calls_by_gates (sym (gates v within)) in
        let gate = ap (λ (f : ℕ → ℕ). calls_by_gates (f v)) (landed_gates (k.lsns v) k) in
        omega (arith, first, landed, second, gate)

    pub gates_stored : (before after : List ℕ) → HasGates old k.gates before → HasStored old v before after → store_plan (store_of new) ≡ store_plan (store_of old) → HasGates new (stored_in v k).gates after
    gates_stored before after gates has plan p lt =
        let P : Plan → Type 0 = λ of. opened_at v (landed_to (k.lsns v) k).gates p ≡ open_gates of.log_bytes after p in
        let pages : cache_pages (cache_of new) ≡ cache_pages (cache_of old) = ap (λ (of : Plan). 2 * of.pages) plan in
        let there : p < cache_pages (cache_of old) = omega (arith, lt, pages) in
        let kept = ap (λ (f : ℕ → ℕ). opened_at v f p) (landed_gates (k.lsns v) k) in
        subst P (sym plan) (kept ∙ elim (cases_eq p v) [
          | inl here ↦
              subst (λ (q : ℕ). opened_at v k.gates q ≡ open_gates (cache_log (cache_of old)) after q) (sym here)
              (cond-true (v == v) (min 2 (k.gates v + 1)) (k.gates v) (eq-eqb v v refl) ∙ ap (λ (n : ℕ). min 2 (n + 1)) (gates v within) ∙ sym has.gates)
          | inr apart ↦ cond-false (p == v) (min 2 (k.gates p + 1)) (k.gates p) (ne_eqb p v apart) ∙ gates p there ∙ sym (has.other_gates p apart)
        ])

  -- The disk.

  pub left_stored : (o : Origin) (batches : List (List Record)) (pending : List Record) (before after : List ℕ) → Stands o (batches_if ahead batches pending) old after → Knows (store_of old) before → HasStored old v before after → IsLeft o batches pending old before after
  left_stored o batches pending before after stands knows has = record {
    stands = one_of ahead o batches pending old after stands;
    later = λ p lt. elim (cases_eq p v) [
      | inl here ↦
          subst (λ (q : ℕ). page_lsn (cache_log (cache_of old)) q before ≤ page_lsn (cache_log (cache_of old)) q after) (sym here)
          (let is_new = has.page.lsn_is in let known = knows.lsns v within in let front = (cache_of old).ahead v within in omega (arith, is_new, known, front))
      | inr apart ↦ let same = (has.others p apart).lsn_is in omega (arith, same)
    ];
    outside = has.outside;
  }
