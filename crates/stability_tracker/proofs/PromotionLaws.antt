-- Laws of promotion: exactly what is reached is promoted.
use Rattle.std.proofs.Common.{◌≡◌, ℕ, zero, suc, ◌≤◌, ◌⊎◌, inl, inr, List, [], ◌∷◌, length, true, Option, None, Some, refl, sym, ap, ◌∙◌, subst, arith}
use Rattle.std.specs.Prelude.{slice_get, Contains, filter, ◌||◌}
use Rattle.std.specs.List.{list_any}
use Rattle.std.specs.List.Sorted.{IsStrictlyIncreasing}
use Rattle.std.proofs.lemmas.Bool.{or_cases, or_left, or_right, eqb-true, eq-eqb}
use Rattle.std.proofs.lemmas.List.Kept.{IsStrictlyIncreasing-filter}
use Rattle.heap_words.specs.declared.Word.{Word}
use Rattle.heap_words.specs.declared.Word.TheVariants.{Null, Int, Stable, Volatile}
use Rattle.heap_words.specs.Word.{meaning}
use Rattle.object_layout.specs.Layout.{field_words}
use Rattle.object_layout.proofs.WalkLaws.{Contains-none}
use Rattle.volatile_area.specs.Area.{AreaState, starts_of}
use Rattle.volatile_area.proofs.AreaLaws.{length-starts_of, starts_of_increase, Contains-slice_get}
use Rattle.stability_tracker.proofs.ListLaws.{any_at, at_any, place_of, Contains-from_filter, Contains-filter, length-filter_le, filter_grows, same_rising}
use Rattle.stability_tracker.proofs.Reached.{IsReached, named, along}
use Rattle.stability_tracker.specs.Promotion.{refers, some_refers, is_led_to, reached_in, promoted}

-- References.

refers_meaning : (at : ℕ) (meant : Option Word) → refers at meant ≡ true → meant ≡ Some (Volatile at)
refers_meaning at None is = absurd (cc is)
refers_meaning at (Some Null) is = absurd (cc is)
refers_meaning at (Some (Int n)) is = absurd (cc is)
refers_meaning at (Some (Stable a)) is = absurd (cc is)
refers_meaning at (Some (Volatile b)) is = ap (λ k. Some (Volatile k)) (eqb-true b at is)

meaning_refers : (at : ℕ) (meant : Option Word) → meant ≡ Some (Volatile at) → refers at meant ≡ true
meaning_refers at meant is = ap (refers at) is ∙ eq-eqb at at refl

-- Steps.

-- only objects of the area are reached
reached_start : (steps : ℕ) (area : AreaState) (written : List ℕ) (at : ℕ) → Contains (reached_in steps area written) at → Contains (starts_of area) at
unfolding reached_in
reached_start zero area written at has = absurd (Contains-none at has)
reached_start (suc steps) area written at has = (Contains-from_filter (is_led_to area written (reached_in steps area written)) (starts_of area) at has).0

-- what is reached in a number of steps is reached
reached_is : (steps : ℕ) (area : AreaState) (written : List ℕ) (at : ℕ) → Contains (reached_in steps area written) at → IsReached area written at
unfolding reached_in
reached_is zero area written at has = absurd (Contains-none at has)
reached_is (suc steps) area written at has =
    let before = reached_in steps area written in
    let kept = Contains-from_filter (is_led_to area written before) (starts_of area) at has in
    elim (or_cases (some_refers at written) (list_any (λ from. some_refers at (field_words area.words from)) before) kept.1) [
      | inl there ↦
          let found = any_at (λ w. refers at (meaning w)) written there in
          named found.0 found.1 found.2 (refers_meaning at (meaning found.1) found.3) kept.0
      | inr through ↦
          let object = any_at (λ from. some_refers at (field_words area.words from)) before through in
          let field = any_at (λ w. refers at (meaning w)) (field_words area.words object.1) object.3 in
          along object.1 field.0 field.1 (reached_is steps area written object.1 (Contains-slice_get before object.0 object.1 object.2)) field.2
          (refers_meaning at (meaning field.1) field.3) kept.0
    ]

led_more : (area : AreaState) (written fewer more : List ℕ) (at : ℕ) → ((x : ℕ) → Contains fewer x → Contains more x) → is_led_to area written fewer at ≡ true → is_led_to area written more at ≡ true
led_more area written fewer more at also is =
    let through = λ (from : ℕ). some_refers at (field_words area.words from) in
    elim (or_cases (some_refers at written) (list_any through fewer) is) [
      | inl there ↦ or_left (some_refers at written) (list_any through more) there
      | inr before ↦
          let object = any_at through fewer before in
          let place = place_of more object.1 (also object.1 (Contains-slice_get fewer object.0 object.1 object.2)) in
          or_right (some_refers at written) (list_any through more) (at_any through more place.0 object.1 place.1 object.3)
    ]

-- no step reaches less
reached_more : (steps : ℕ) (area : AreaState) (written : List ℕ) (at : ℕ) → Contains (reached_in steps area written) at → Contains (reached_in (suc steps) area written) at
unfolding reached_in
reached_more zero area written at has = absurd (Contains-none at has)
reached_more (suc steps) area written at has =
    let before = reached_in steps area written in
    let now = reached_in (suc steps) area written in
    let kept = Contains-from_filter (is_led_to area written before) (starts_of area) at has in
    Contains-filter (is_led_to area written now) (starts_of area) at kept.0 (led_more area written before now at (reached_more steps area written) kept.1)

-- each step reaches a further object, or no later one does
reached_grows : (steps : ℕ) (area : AreaState) (written : List ℕ)
    → (reached_in (suc steps) area written ≡ reached_in steps area written) ⊎ (suc steps ≤ length (reached_in (suc steps) area written))
unfolding reached_in
reached_grows zero area written = first (reached_in (suc zero) area written) refl
  where
    first : (xs : List ℕ) → reached_in (suc zero) area written ≡ xs → (reached_in (suc zero) area written ≡ []) ⊎ (1 ≤ length (reached_in (suc zero) area written))
    first [] is = inl is
    first (x ∷ xs) is = inr (let long = ap length is in omega arith)
reached_grows (suc steps) area written = elim (reached_grows steps area written) [
  | inl same ↦ inl (ap (λ objects. filter (is_led_to area written objects) (starts_of area)) same)
  | inr many ↦
      let before = reached_in steps area written in
      let now = reached_in (suc steps) area written in
      elim (filter_grows (is_led_to area written before) (is_led_to area written now) (starts_of area) (λ at is. led_more area written before now at (reached_more steps area written) is)) [
        | inl same ↦ inl same
        | inr longer ↦ inr (omega arith)
      ]
]

-- as many steps suffice as there are objects
promoted_again : (area : AreaState) (written : List ℕ) → filter (is_led_to area written (promoted area written)) (starts_of area) ≡ promoted area written
unfolding reached_in promoted
promoted_again area written = elim (reached_grows area.made area written) [
  | inl same ↦ same
  | inr many ↦
      let few = length-filter_le (is_led_to area written (promoted area written)) (starts_of area) in
      let all = length-starts_of area in
      absurd (omega arith)
]

-- What is promoted.

-- only objects of the area are promoted
pub promoted_start : (area : AreaState) (written : List ℕ) (at : ℕ) → Contains (promoted area written) at → Contains (starts_of area) at
unfolding promoted
promoted_start area written at has = reached_start area.made area written at has

-- each is reached
pub promoted_reached : (area : AreaState) (written : List ℕ) (at : ℕ) → Contains (promoted area written) at → IsReached area written at
unfolding promoted
promoted_reached area written at has = reached_is area.made area written at has

led_promoted : (area : AreaState) (written : List ℕ) (at : ℕ) → Contains (starts_of area) at → is_led_to area written (promoted area written) at ≡ true → Contains (promoted area written) at
led_promoted area written at start is =
    subst (λ (xs : List ℕ). Contains xs at) (promoted_again area written) (Contains-filter (is_led_to area written (promoted area written)) (starts_of area) at start is)

-- an object is promoted if a word that was written refers to it
pub promoted_named : (area : AreaState) (written : List ℕ) (i w at : ℕ) → slice_get written i ≡ Some w → meaning w ≡ Some (Volatile at) → Contains (starts_of area) at
    → Contains (promoted area written) at
promoted_named area written i w at is meant start =
    led_promoted area written at start
    (or_left (some_refers at written) (list_any (λ from. some_refers at (field_words area.words from)) (promoted area written))
    (at_any (λ v. refers at (meaning v)) written i w is (meaning_refers at (meaning w) meant)))

-- and if a field of one that is promoted refers to it
pub promoted_along : (area : AreaState) (written : List ℕ) (from i w at : ℕ) → Contains (promoted area written) from → slice_get (field_words area.words from) i ≡ Some w
    → meaning w ≡ Some (Volatile at) → Contains (starts_of area) at → Contains (promoted area written) at
promoted_along area written from i w at has is meant start =
    let through = λ (object : ℕ). some_refers at (field_words area.words object) in
    let place = place_of (promoted area written) from has in
    led_promoted area written at start
    (or_right (some_refers at written) (list_any through (promoted area written))
    (at_any through (promoted area written) place.0 from place.1 (at_any (λ v. refers at (meaning v)) (field_words area.words from) i w is (meaning_refers at (meaning w) meant))))

-- each that is reached is promoted
pub reached_promoted : (area : AreaState) (written : List ℕ) (at : ℕ) → IsReached area written at → Contains (promoted area written) at
reached_promoted area written at (named i w is meant start) = promoted_named area written i w at is meant start
reached_promoted area written at (along from i w reached is meant start) =
    promoted_along area written from i w at (reached_promoted area written from reached) is meant start

reached_increase : (steps : ℕ) (area : AreaState) (written : List ℕ) → IsStrictlyIncreasing (reached_in steps area written)
unfolding reached_in
reached_increase zero area written = λ k within. absurd (omega arith)
reached_increase (suc steps) area written = IsStrictlyIncreasing-filter (is_led_to area written (reached_in steps area written)) (starts_of area) (starts_of_increase area)

-- they ascend, each once
pub promoted_increase : (area : AreaState) (written : List ℕ) → IsStrictlyIncreasing (promoted area written)
unfolding promoted
promoted_increase area written = reached_increase area.made area written

-- nothing else is promoted
pub promoted_one : (area : AreaState) (written xs : List ℕ) → IsStrictlyIncreasing xs → ((at : ℕ) → Contains xs at → IsReached area written at) → ((at : ℕ) → IsReached area written at → Contains xs at)
    → xs ≡ promoted area written
promoted_one area written xs rises only all =
    same_rising xs (promoted area written) rises (promoted_increase area written) (λ at has. reached_promoted area written at (only at has)) (λ at has. all at (promoted_reached area written at has))

-- if no word that was written refers to an object, none is promoted
pub promoted_none : (area : AreaState) (written : List ℕ) → ((i w at : ℕ) → slice_get written i ≡ Some w → meaning w ≡ Some (Volatile at) → Contains (starts_of area) at → ⊥) → promoted area written ≡ []
promoted_none area written no_word = sym (promoted_one area written [] (λ k within. absurd (omega arith)) (λ at has. absurd (Contains-none at has)) (λ at reached. absurd (none at reached)))
  where
    none : (at : ℕ) → IsReached area written at → ⊥
    none at (named i w is meant start) = no_word i w at is meant start
    none at (along from i w reached is meant start) = none from reached

-- Words that refer to the same objects.

reached_alike : (steps : ℕ) (area : AreaState) (written others : List ℕ) → ((at : ℕ) → some_refers at written ≡ some_refers at others) → reached_in steps area written ≡ reached_in steps area others
unfolding reached_in
reached_alike zero area written others same = refl
reached_alike (suc steps) area written others same =
    let before = reached_alike steps area written others same in
    λ i. filter (λ at. same at i || list_any (λ from. some_refers at (field_words area.words from)) (before i)) (starts_of area)

-- if the words that were written refer to the same objects as others, the same objects are promoted
pub promoted_alike : (area : AreaState) (written others : List ℕ) → ((at : ℕ) → some_refers at written ≡ some_refers at others) → promoted area written ≡ promoted area others
unfolding promoted
promoted_alike area written others same = reached_alike area.made area written others same

-- What the objects take.
