-- One step of a search, and its end.
use Rattle.std.proofs.Common.{◌≡◌, ℕ, zero, suc, ◌+◌, ◌≤◌, ◌⊎◌, inl, inr, List, [], ◌∷◌, ◌++◌, length, true, Some, Ordering, Less, Equal, Greater, refl, sym, ap, ◌∙◌, subst, arith}
use Rattle.std.specs.Prelude.{slice_get, Contains, filter, ◌==◌}
use Rattle.std.specs.Ordering.{nat_cmp, match_ordering}
use Rattle.std.specs.BTreeSet.{insert_key}
use Rattle.std.specs.List.Sorted.{IsStrictlyIncreasing, IsStrictlySortedBy}
use Rattle.std.specs.List.{list_any}
use Rattle.std.proofs.lemmas.Bool.{eq-eqb, eqb-true}
use Rattle.std.proofs.lemmas.List.{length_push}
use Rattle.std.proofs.lemmas.List.Kept.{IsStrictlyIncreasing-filter}
use Rattle.std.proofs.lemmas.Option.{same_Some}
use Rattle.std.proofs.lemmas.List.Elements.{Contains-push, Contains-push_cases, Contains-append_left}
use Rattle.std.proofs.lemmas.Map.Keys.{IsStrictlyIncreasing-from_sorted}
use Rattle.heap_words.specs.declared.Word.TheVariants.{Volatile}
use Rattle.heap_words.specs.Word.{meaning}
use Rattle.object_layout.specs.Layout.{field_words}
use Rattle.object_layout.proofs.WalkLaws.{Contains-head, Contains-rest, Contains-cases, Contains-none}
use Rattle.volatile_area.specs.Area.{AreaState, starts_of}
use Rattle.volatile_area.proofs.AreaLaws.{length-starts_of, starts_of_increase, Contains-slice_get}
use Rattle.stability_tracker.proofs.ListLaws.{any_at, at_any, place_of, Contains-from_filter, Contains-filter, length-filter_le, same_rising}
use Rattle.stability_tracker.proofs.Reached.{IsReached, named, along}
use Rattle.stability_tracker.specs.Promotion.{promoted}
use Rattle.stability_tracker.proofs.PromotionLaws.{reached_promoted, promoted_one}
use Rattle.stability_tracker.specs.Search.{IsNamed, Meets, WereFollowed}
use Rattle.stability_tracker.proofs.Searching.{IsSearching}

-- One more key.

inserted_cases : (k y : ℕ) (ys : List ℕ) (x : ℕ) (o : Ordering) → (Contains (insert_key nat_cmp ys k) x → Contains ys x ⊎ (x ≡ k))
    → Contains (match_ordering o (k ∷ y ∷ ys) (y ∷ ys) (y ∷ insert_key nat_cmp ys k)) x → Contains (y ∷ ys) x ⊎ (x ≡ k)
inserted_cases k y ys x Less later has = elim (Contains-cases k (y ∷ ys) x has) [ inl here ↦ inr (sym here) | inr behind ↦ inl behind ]
inserted_cases k y ys x Equal later has = inl has
inserted_cases k y ys x Greater later has = elim (Contains-cases y (insert_key nat_cmp ys k) x has) [
  | inl here ↦ inl (subst (λ (z : ℕ). Contains (y ∷ ys) z) here (Contains-head y ys))
  | inr behind ↦ elim (later behind) [ inl old ↦ inl (Contains-rest y ys x old) | inr new ↦ inr new ]
]

inserted_from : (xs : List ℕ) (k x : ℕ) → Contains (insert_key nat_cmp xs k) x → Contains xs x ⊎ (x ≡ k)
inserted_from [] k x has = elim (Contains-cases k [] x has) [ inl here ↦ inr (sym here) | inr behind ↦ inl behind ]
inserted_from (y ∷ ys) k x has = inserted_cases k y ys x (nat_cmp k y) (inserted_from ys k x) has

kept_cases : (k y : ℕ) (ys : List ℕ) (x : ℕ) (o : Ordering) → (Contains ys x → Contains (insert_key nat_cmp ys k) x) → Contains (y ∷ ys) x
    → Contains (match_ordering o (k ∷ y ∷ ys) (y ∷ ys) (y ∷ insert_key nat_cmp ys k)) x
kept_cases k y ys x Less later has = Contains-rest k (y ∷ ys) x has
kept_cases k y ys x Equal later has = has
kept_cases k y ys x Greater later has = elim (Contains-cases y ys x has) [
  | inl here ↦ subst (λ (z : ℕ). Contains (y ∷ insert_key nat_cmp ys k) z) here (Contains-head y (insert_key nat_cmp ys k))
  | inr behind ↦ Contains-rest y (insert_key nat_cmp ys k) x (later behind)
]

inserted_keeps : (xs : List ℕ) (k x : ℕ) → Contains xs x → Contains (insert_key nat_cmp xs k) x
inserted_keeps [] k x has = absurd (Contains-none x has)
inserted_keeps (y ∷ ys) k x has = kept_cases k y ys x (nat_cmp k y) (inserted_keeps ys k x) has

there_cases : (k y : ℕ) (ys : List ℕ) (o : Ordering) → nat_cmp k y ≡ o → Contains (insert_key nat_cmp ys k) k → Contains (match_ordering o (k ∷ y ∷ ys) (y ∷ ys) (y ∷ insert_key nat_cmp ys k)) k
there_cases k y ys Less is later = Contains-head k (y ∷ ys)
there_cases k y ys Equal is later = let same : y ≡ k = grind arith in subst (λ (z : ℕ). Contains (y ∷ ys) z) same (Contains-head y ys)
there_cases k y ys Greater is later = Contains-rest y (insert_key nat_cmp ys k) k later

inserted_there : (xs : List ℕ) (k : ℕ) → Contains (insert_key nat_cmp xs k) k
inserted_there [] k = Contains-head k []
inserted_there (y ∷ ys) k = there_cases k y ys (nat_cmp k y) refl (inserted_there ys k)

-- an object was visited that was not found before
pub meets_new : (at : ℕ) (found waiting new_found new_waiting : List ℕ) → new_found ≡ insert_key nat_cmp found at → length new_found ≡ length found + 1 → IsStrictlySortedBy nat_cmp new_found
    → new_waiting ≡ waiting ++ at ∷ [] → Meets at found waiting new_found new_waiting
meets_new at found waiting new_found new_waiting keys more ordered pushed =
    let has : (b : ℕ) → Contains (insert_key nat_cmp found at) b → Contains new_found b = λ b. subst (λ (xs : List ℕ). Contains xs b) (sym keys) in
    let from : (b : ℕ) → Contains new_found b → Contains found b ⊎ (b ≡ at) = λ b there. inserted_from found at b (subst (λ (xs : List ℕ). Contains xs b) keys there) in
    let waits : (b : ℕ) → Contains (waiting ++ at ∷ []) b → Contains new_waiting b = λ b. subst (λ (xs : List ℕ). Contains xs b) (sym pushed) in
    record {
      met = has at (inserted_there found at);
      only = from;
      kept = λ b there. has b (inserted_keeps found at b there);
      waits = λ b there. elim (from b there) [
        | inl old ↦ inl old
        | inr new ↦ inr (waits b (subst (λ (x : ℕ). Contains (waiting ++ at ∷ []) x) (sym new) (Contains-push waiting at)))
      ];
      stays = λ b there. waits b (Contains-append_left waiting (at ∷ []) b there);
      known = λ b there. elim (Contains-push_cases waiting at b (subst (λ (xs : List ℕ). Contains xs b) pushed there)) [ inl old ↦ inl old | inr new ↦ inr (sym new) ];
      counted = omega (arith, ap length pushed, length_push waiting at);
      rises = λ rises. IsStrictlyIncreasing-from_sorted new_found ordered;
    }

-- an object was visited that was found before
pub meets_old : (at : ℕ) (found waiting new_found : List ℕ) → new_found ≡ found → Contains found at → Meets at found waiting new_found waiting
meets_old at found waiting new_found same has = record {
  met = subst (λ (xs : List ℕ). Contains xs at) (sym same) has;
  only = λ b there. inl (subst (λ (xs : List ℕ). Contains xs b) same there);
  kept = λ b there. subst (λ (xs : List ℕ). Contains xs b) (sym same) there;
  waits = λ b there. inl (subst (λ (xs : List ℕ). Contains xs b) same there);
  stays = λ b there. there;
  known = λ b there. inl there;
  counted = omega (arith, ap length same);
  rises = λ rises. subst IsStrictlyIncreasing (sym same) rises;
}

-- One more word.

got_push : (xs : List ℕ) (x i y : ℕ) → slice_get xs i ≡ Some y → slice_get (xs ++ x ∷ []) i ≡ Some y
got_push [] x i y is = absurd (cc is)
got_push (z ∷ xs) x zero y is = is
got_push (z ∷ xs) x (suc i) y is = got_push xs x i y is

got_last : (xs : List ℕ) (x : ℕ) → slice_get (xs ++ x ∷ []) (length xs) ≡ Some x
got_last [] x = refl
got_last (z ∷ xs) x = got_last xs x

named_before : (area : AreaState) (words : List ℕ) (w b : ℕ) → IsNamed area words b → IsNamed area (words ++ w ∷ []) b
named_before area words w b (i, v, is, meant, start) = (i, v, got_push words w i v is, meant, start)

named_last : (area : AreaState) (words : List ℕ) (w b : ℕ) → meaning w ≡ Some (Volatile b) → Contains (starts_of area) b → IsNamed area (words ++ w ∷ []) b
named_last area words w b meant start = (length words, w, got_last words w, meant, start)

got_cases : (xs : List ℕ) (x i y : ℕ) → slice_get (xs ++ x ∷ []) i ≡ Some y → (slice_get xs i ≡ Some y) ⊎ (x ≡ y)
got_cases [] x zero y is = inr (same_Some x y is)
got_cases [] x (suc i) y is = absurd (cc is)
got_cases (z ∷ xs) x zero y is = inl is
got_cases (z ∷ xs) x (suc i) y is = got_cases xs x i y is

named_cases : (area : AreaState) (words : List ℕ) (w b : ℕ) → IsNamed area (words ++ w ∷ []) b → IsNamed area words b ⊎ ((meaning w ≡ Some (Volatile b)) × Contains (starts_of area) b)
named_cases area words w b (i, v, is, meant, start) = elim (got_cases words w i v is) [
  | inl before ↦ inl (i, v, before, meant, start)
  | inr last ↦ inr (ap meaning last ∙ meant, start)
]

-- a word was followed that refers to no object of the area
pub follows_past : (area : AreaState) (words : List ℕ) (w : ℕ) (found waiting new_found new_waiting : List ℕ) → WereFollowed area words found waiting new_found new_waiting
    → ((b : ℕ) → meaning w ≡ Some (Volatile b) → Contains (starts_of area) b → ⊥) → WereFollowed area (words ++ w ∷ []) found waiting new_found new_waiting
follows_past area words w found waiting new_found new_waiting so_far none = record {
  met = λ b named. elim (named_cases area words w b named) [ inl before ↦ so_far.met b before | inr last ↦ absurd (none b last.0 last.1) ];
  only = λ b there. elim (so_far.only b there) [ inl old ↦ inl old | inr new ↦ inr (named_before area words w b new) ];
  kept = so_far.kept;
  waits = so_far.waits;
  stays = so_far.stays;
  known = so_far.known;
  counted = so_far.counted;
  rises = so_far.rises;
}

same_object : (w a b : ℕ) → meaning w ≡ Some (Volatile a) → meaning w ≡ Some (Volatile b) → a ≡ b
same_object w a b one other = let same : Some (Volatile a) ≡ Some (Volatile b) = sym one ∙ other in cc same

-- a word was followed that refers to an object of the area
pub follows_met : (area : AreaState) (words : List ℕ) (w at : ℕ) (found waiting mid_found mid_waiting new_found new_waiting : List ℕ) → WereFollowed area words found waiting mid_found mid_waiting
    → meaning w ≡ Some (Volatile at) → Contains (starts_of area) at → Meets at mid_found mid_waiting new_found new_waiting → WereFollowed area (words ++ w ∷ []) found waiting new_found new_waiting
follows_met area words w at found waiting mid_found mid_waiting new_found new_waiting so_far meant start meets =
    let counted = so_far.counted in
    let now = meets.counted in
    record {
      met = λ b named. elim (named_cases area words w b named) [
        | inl before ↦ meets.kept b (so_far.met b before)
        | inr last ↦ subst (λ (x : ℕ). Contains new_found x) (same_object w at b meant last.0) meets.met
      ];
      only = λ b there. elim (meets.only b there) [
        | inl mid ↦ elim (so_far.only b mid) [ inl old ↦ inl old | inr new ↦ inr (named_before area words w b new) ]
        | inr same ↦ inr (subst (λ (x : ℕ). IsNamed area (words ++ w ∷ []) x) (sym same) (named_last area words w at meant start))
      ];
      kept = λ b there. meets.kept b (so_far.kept b there);
      waits = λ b there. elim (meets.waits b there) [
        | inl mid ↦ elim (so_far.waits b mid) [ inl old ↦ inl old | inr new ↦ inr (meets.stays b new) ]
        | inr new ↦ inr new
      ];
      stays = λ b there. meets.stays b (so_far.stays b there);
      known = λ b there. elim (meets.known b there) [
        | inl mid ↦ elim (so_far.known b mid) [ inl old ↦ inl old | inr new ↦ inr (meets.kept b new) ]
        | inr same ↦ inr (subst (λ (x : ℕ). Contains new_found x) (sym same) meets.met)
      ];
      counted = omega arith;
      rises = λ rises. meets.rises (so_far.rises rises);
    }

-- The search.

-- it begins with the words that were written
pub searching_begins : (area : AreaState) (written found waiting : List ℕ) → WereFollowed area written [] [] found waiting → IsSearching area written found waiting
searching_begins area written found waiting follows = record {
  begun = follows.met;
  reached = λ b there. elim (follows.only b there) [ inl none ↦ absurd (Contains-none b none) | inr (i, w, is, meant, start) ↦ named i w is meant start ];
  followed = λ b there. elim (follows.waits b there) [ inl none ↦ absurd (Contains-none b none) | inr waits ↦ inl waits ];
  known = λ b there. elim (follows.known b there) [ inl none ↦ absurd (Contains-none b none) | inr found ↦ found ];
  rises = follows.rises (λ k within. absurd (omega arith));
}

-- and continues with the fields of a waiting object
pub searching_on : (area : AreaState) (written found waiting : List ℕ) (at : ℕ) (old_waiting new_found new_waiting : List ℕ) → IsSearching area written found old_waiting → old_waiting ≡ waiting ++ at ∷ []
    → WereFollowed area (field_words area.words at) found waiting new_found new_waiting → IsSearching area written new_found new_waiting
searching_on area written found waiting at old_waiting new_found new_waiting so_far popped follows =
    let waited : (b : ℕ) → Contains (waiting ++ at ∷ []) b → Contains old_waiting b = λ b. subst (λ (xs : List ℕ). Contains xs b) (sym popped) in
    let here : Contains found at = so_far.known at (waited at (Contains-push waiting at)) in
    record {
      begun = λ b there. follows.kept b (so_far.begun b there);
      reached = λ b there. elim (follows.only b there) [
        | inl old ↦ so_far.reached b old
        | inr (i, w, is, meant, start) ↦ along at i w (so_far.reached at here) is meant start
      ];
      followed = λ b there. elim (follows.waits b there) [
        | inl old ↦ elim (so_far.followed b old) [
          | inl waits ↦ elim (Contains-push_cases waiting at b (subst (λ (xs : List ℕ). Contains xs b) popped waits)) [
            | inl still ↦ inl (follows.stays b still)
            | inr same ↦ inr (subst (λ (x : ℕ). (c : ℕ) → IsNamed area (field_words area.words x) c → Contains new_found c) same follows.met)
          ]
          | inr done ↦ inr (λ c there. follows.kept c (done c there))
        ]
        | inr new ↦ inl new
      ];
      known = λ b there. elim (follows.known b there) [
        | inl still ↦ follows.kept b (so_far.known b (waited b (Contains-append_left waiting (at ∷ []) b still)))
        | inr found ↦ found
      ];
      rises = follows.rises so_far.rises;
    }

-- a waiting object was found
pub popped_found : (area : AreaState) (written found waiting : List ℕ) (at : ℕ) (old_waiting : List ℕ) → IsSearching area written found old_waiting → old_waiting ≡ waiting ++ at ∷ [] → Contains found at
popped_found area written found waiting at old_waiting so_far popped = so_far.known at (subst (λ (xs : List ℕ). Contains xs at) (sym popped) (Contains-push waiting at))

-- if nothing is waiting, all that is reached was found
pub searching_ends : (area : AreaState) (written found waiting : List ℕ) → IsSearching area written found waiting → length waiting ≡ 0 → found ≡ promoted area written
searching_ends area written found waiting done none = promoted_one area written found done.rises done.reached all
  where
    all : (b : ℕ) → IsReached area written b → Contains found b
    all b (named i w is meant start) = done.begun b (i, w, is, meant, start)
    all b (along from i w reached is meant start) = elim (done.followed from (all from reached)) [
      | inl (k, within, there) ↦ absurd (omega arith)
      | inr followed ↦ followed b (i, w, is, meant, start)
    ]

pub reached_starts : (area : AreaState) (written : List ℕ) (b : ℕ) → IsReached area written b → Contains (starts_of area) b
reached_starts area written b (named i w is meant start) = start
reached_starts area written b (along from i w reached is meant start) = start

-- it finds no more objects than there are
pub found_few : (area : AreaState) (written found waiting : List ℕ) → IsSearching area written found waiting → length found ≤ area.made
found_few area written found waiting searching =
    let test = λ (x : ℕ). list_any (λ y. y == x) found in
    let passes : (x : ℕ) → Contains found x → test x ≡ true = λ x there. let place = place_of found x there in at_any (λ y. y == x) found place.0 x place.1 (eq-eqb x x refl) in
    let there : (x : ℕ) → test x ≡ true → Contains found x = λ x is.
    let got = any_at (λ y. y == x) found is in
    subst (λ (z : ℕ). Contains found z) (eqb-true got.1 x got.3) (Contains-slice_get found got.0 got.1 got.2) in
    let same : found ≡ filter test (starts_of area) =
    same_rising found (filter test (starts_of area)) searching.rises (IsStrictlyIncreasing-filter test (starts_of area) (starts_of_increase area))
    (λ x has. Contains-filter test (starts_of area) x (reached_starts area written x (searching.reached x has)) (passes x has))
    (λ x has. there x (Contains-from_filter test (starts_of area) x has).1) in
    let few = length-filter_le test (starts_of area) in
    omega (arith, ap length same, length-starts_of area)

-- if an object was found something is promoted
pub some_promoted : (area : AreaState) (written : List ℕ) (b : ℕ) → IsReached area written b → promoted area written ≡ [] → ⊥
some_promoted area written b reached none = Contains-none b (subst (λ (xs : List ℕ). Contains xs b) none (reached_promoted area written b reached))

pub named_reached : (area : AreaState) (written : List ℕ) (b : ℕ) → IsNamed area written b → IsReached area written b
named_reached area written b (i, w, is, meant, start) = named i w is meant start
