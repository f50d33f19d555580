-- The words after a promotion are laid out, with the promoted objects among the current ones.
use Rattle.std.proofs.Common.{◌≡◌, ◌⊎◌, ℕ, ◌<◌, ◌≤◌, ◌+◌, inl, inr, Bool, true, false, List, [], ◌++◌, map, length, get_or, Option, None, Some, refl, sym, ap, ◌∙◌, subst, arith}
use Rattle.std.specs.Prelude.{Contains, MatchOption, slice_index}
use Rattle.std.specs.FinSet.{contains}
use Rattle.std.proofs.lemmas.List.{length-map}
use Rattle.std.proofs.lemmas.List.Elements.{Contains-append_cases, Contains-append_left, Contains-append_right}
use Rattle.std.proofs.lemmas.Option.{same_Some}
use Rattle.heap_words.specs.Header.{header}
use Rattle.heap_words.specs.declared.Word.{Word}
use Rattle.heap_words.specs.declared.Word.TheVariants as word
use Rattle.heap_words.specs.Word.{meaning}
use Rattle.heap_words.proofs.WordLaws.{meaning-bits}
use Rattle.object_layout.specs.Layout.{field_words, led, object_at}
use Rattle.object_layout.specs.Walk.{AreEndToEnd, IsFilled, IsInside}
use Rattle.log_machine.specs.Collecting.{other_base}
use Rattle.log_machine.specs.Machine.{field_at, space_words}
use Rattle.graph_words.specs.Places.{addresses}
use Rattle.graph_words.specs.Promotion.{Move, moved, moved_word}
use Rattle.graph_words.proofs.Places.Addresses.{address_of-Contains}
use Rattle.graph_words.proofs.Places.Moved.{moved_word-moved, moved_word-plain}
use Rattle.graph_words.proofs.Places.Moves.{moved_to}
use Rattle.graph_words.proofs.Seal.Places.{addresses-promoted}
use Rattle.collection_words.specs.Completed.{IsMade}
use Rattle.collection_words.specs.LaidOut.{EachField, StandsOrForwards, IsFromSpace, LeadsHere, MayLeadBack, is_gray_field, old_length}
use Rattle.collection_words.proofs.Copy.Named.{named}
use Rattle.collection_words.proofs.Copy.Words.{kept_made}
use Rattle.collection_words.proofs.Laid.Filled.{filled_by, filling}
use Rattle.collection_words.proofs.Laid.Old.{left_within, old_in_other, old_length-object, other_bounds}
use Rattle.collection_words.proofs.Laid.Sources.{IsCollecting, left_object}
use Rattle.collection_words.proofs.Laid.Within.{start_within}
use Rattle.collection_words.proofs.Laid.Write.{old_ends_same, unmoved_left}
use Rattle.collection_words.proofs.Moves.Ends.{addresses-append, taken_object, taken_same}
use Rattle.seal_laws.proofs.Based.{based-before, based-behind, based_ends, based_object, based_word, length-based}
use Rattle.seal_laws.proofs.Promoting.{IsOwnWord, IsPromoting, Promoting, behind, currents, fits_here, here, moves_here, need, next, own_placed, placed_here, promoted_at, promoted_there}

-- What stays.

-- a current object is as before
pub kept_here : (p : Promoting) → IsPromoting p → (at n : ℕ) → Contains (addresses p.places) at → object_at p.words at ≡ Some n → IsMade (λ w. w) p.words (behind p) at at n
kept_here p is at n has object =
    let within = start_within is.is.laid at has in
    let same = same_Some within.fields n (sym within.object ∙ object) in
    let below = within.below in
    kept_made p.words (behind p) at n object (length-based p.area p.starts (here p) p.words) (λ j few. based-before p.area p.starts (here p) p.words (at + j) (omega arith))

-- so is each word of the from-space
pub kept_old : (p : Promoting) → IsPromoting p → (x : ℕ) → other_base p.s ≤ x → x < other_base p.s + space_words p.s.pages → slice_index (behind p) x ≡ slice_index p.words x
kept_old p is x above below =
    let room = is.room in
    elim is.is.spaced.first [
      | inl low ↦ based-behind p.area p.starts (here p) p.words x (omega arith)
      | inr high ↦ based-before p.area p.starts (here p) p.words x (omega arith)
    ]

-- and what remains
pub kept_left : (p : Promoting) → IsPromoting p → (at n : ℕ) → Contains (addresses p.remaining) at → object_at p.words at ≡ Some n → IsMade (λ w. w) p.words (behind p) at at n
kept_left p is at n has object =
    let lies = left_within is.is at has in
    let same = same_Some lies.fields n (sym lies.object ∙ object) in
    let above = lies.above in
    let below = lies.below in
    kept_made p.words (behind p) at n object (length-based p.area p.starts (here p) p.words) (λ j few. kept_old p is (at + j) (omega arith) (omega arith))

-- Current objects.

-- one that was current is
pub still_current : (p : Promoting) (at : ℕ) → Contains (addresses p.places) at → Contains (addresses (currents p)) at
still_current p at has = subst (λ xs. Contains xs at) (sym (addresses-append p.places (placed_here p))) (Contains-append_left (addresses p.places) (addresses (placed_here p)) at has)

-- and one that is promoted
pub new_current : (p : Promoting) (at : ℕ) → Contains (addresses (placed_here p)) at → Contains (addresses (currents p)) at
new_current p at has = subst (λ xs. Contains xs at) (sym (addresses-append p.places (placed_here p))) (Contains-append_right (addresses p.places) (addresses (placed_here p)) at has)

-- What stands at an address then: an object that was current, or one that is promoted.
abbrev pub IsNewAt : Promoting → ℕ → Type 0
IsNewAt p new = (at : ℕ) × Contains p.starts at × (moved (moves_here p) at ≡ Some new)

pub current_cases : (p : Promoting) → IsPromoting p → (at : ℕ) → Contains (addresses (currents p)) at → Contains (addresses p.places) at ⊎ IsNewAt p at
current_cases p is at has = elim (Contains-append_cases (addresses p.places) (addresses (placed_here p)) at (subst (λ xs. Contains xs at) (addresses-append p.places (placed_here p)) has)) [
  | inl old ↦ inl old
  | inr new ↦
      let one = named (placed_here p) at (own_placed p is (here p)) new in
      let there = promoted_at p is (here p) one.0 at one.1 in
      inr (_, there.has, there.goes)
]

-- Where words lead.

-- what leads to some objects leads to more
pub leads_on : (xs ys : List ℕ) → ((at : ℕ) → Contains xs at → Contains ys at) → (meant : Option Word) → LeadsHere xs meant → LeadsHere ys meant
leads_on xs ys more None leads = absurd leads
leads_on xs ys more (Some word.Null) leads = tt
leads_on xs ys more (Some (word.Int n)) leads = tt
leads_on xs ys more (Some (word.Volatile index)) leads = tt
leads_on xs ys more (Some (word.Stable at)) leads = more at leads

may_lead_on : (xs ys starts : List ℕ) → ((at : ℕ) → Contains xs at → Contains ys at) → (meant : Option Word) → MayLeadBack xs starts meant → MayLeadBack ys starts meant
may_lead_on xs ys starts more meant (inl leads) = inl (leads_on xs ys more meant leads)
may_lead_on xs ys starts more meant (inr back) = inr back

-- an address where something is promoted is one that a reference has room for
pub new_small : (p : Promoting) → IsPromoting p → (at : ℕ) → Contains p.starts at → (new : ℕ) × (moved (moves_here p) at ≡ Some new) × (new < 2097152)
new_small p is at has =
    let there = moved_to p.area p.starts (here p) at has in
    let below = there.1.below in
    let fits = fits_here p is in
    let long = is.is.long in
    let small = is.small in
    (there.0, there.1.is, omega arith)

-- a word of a promoted object leads to a current one after the move
pub moved_leads : (p : Promoting) → IsPromoting p → (w : ℕ) → IsOwnWord p.places p.starts w → LeadsHere (addresses (currents p)) (meaning (moved_word (moves_here p) w))
moved_leads p is w (inl (plain, leads)) =
    subst (λ (x : ℕ). LeadsHere (addresses (currents p)) (meaning x)) (sym (moved_word-plain (moves_here p) w plain))
    (leads_on (addresses p.places) (addresses (currents p)) (still_current p) (meaning w) leads)
moved_leads p is w (inr (at, means, has)) =
    let goes = new_small p is at has in
    let new = goes.0 in
    let id = promoted_there p is (here p) at new has goes.1 in
    subst (LeadsHere (addresses (currents p))) (sym (ap meaning (moved_word-moved (moves_here p) w at new means goes.1) ∙ meaning-bits (word.Stable new) goes.2))
    (new_current p new (address_of-Contains (placed_here p) id.0 new id.1))

-- so does each field of a promoted object
pub new_leads : (p : Promoting) → IsPromoting p → (new : ℕ) → IsNewAt p new → EachField (behind p) new (λ i w. LeadsHere (addresses (currents p)) (meaning w))
new_leads p is new (at, has, goes) n i object within =
    let fits = fits_here p is in
    let one = based_object is.are (here p) p.words fits at new has goes in
    let long = length-map (field_words p.area.words at) (moved_word (moves_here p)) in
    let many = same_Some (length (map (moved_word (moves_here p)) (field_words p.area.words at))) n (sym one.object ∙ object) in
    subst (λ (x : ℕ). LeadsHere (addresses (currents p)) (meaning x)) (sym (based_word is.are (here p) p.words fits at new i has goes (omega arith)))
    (moved_leads p is (get_or (field_words p.area.words at) i 0) (is.leads at i has (omega arith)))

-- a field of an object that was current keeps what holds of it
old_fields : (p : Promoting) → IsPromoting p → (P : ℕ → Type 0) (at : ℕ) → Contains (addresses p.places) at → EachField p.words at (λ i w. P w) → EachField (behind p) at (λ i w. P w)
old_fields p is P at has each n i object within =
    let there = start_within is.is.laid at has in
    let made = kept_here p is at there.fields has there.object in
    let same = same_Some there.fields n (sym made.is ∙ object) in
    subst P (sym (made.fields i (omega arith))) (each n i (made.was ∙ ap Some same) within)

-- The words.

laid_filled : (p : Promoting) → IsPromoting p → IsFilled (behind p) p.s.base (p.s.used + need p) (addresses (currents p))
laid_filled p is =
    let all = filling p.words p.s.base p.s.used (addresses p.places) is.is.laid.filled in
    let root = kept_here p is p.s.base 4 all.first all.root in
    let ends = based_ends is.are (here p) p.words p.s.base (addresses p.places) (fits_here p is) all.ends in
    let starts : addresses (currents p) ≡ addresses p.places ++ map (λ (m : Move). m.1) (moves_here p) =
    addresses-append p.places (placed_here p) ∙ ap (λ xs. addresses p.places ++ xs) (addresses-promoted p.area (moves_here p)) in
    let end : here p + need p ≡ p.s.base + (p.s.used + need p) = omega arith in
    filled_by (behind p) p.s.base (p.s.used + need p) (addresses (currents p)) (record {
      ends = subst (λ xs. AreEndToEnd (behind p) p.s.base xs (p.s.base + (p.s.used + need p))) (sym starts)
          (subst (AreEndToEnd (behind p) p.s.base (addresses p.places ++ map (λ (m : Move). m.1) (moves_here p))) end ends);
      first = still_current p p.s.base all.first;
      root = root.is;
      birth = root.birth ∙ all.birth;
    })

-- The from-space.

-- each object of it is forwarded as it was, with as many fields
pub old_each : (p : Promoting) → (is : IsPromoting p) → (at : ℕ) → Contains is.is.from.starts at
    → StandsOrForwards (behind p) (addresses (currents p)) at (contains p.k.moved at) × (old_length (behind p) at ≡ old_length p.words at)
old_each p is at has = by_moved (contains p.k.moved at) refl (is.is.from.forwarded at has)
  where
    bounds : (other_base p.s ≤ at) × (at < other_base p.s + space_words p.s.pages)
    bounds = other_bounds p.s at (old_in_other is.is at has)

    head : slice_index (behind p) at ≡ slice_index p.words at
    head = kept_old p is at bounds.0 bounds.1

    by_moved : (b : Bool) → contains p.k.moved at ≡ b → StandsOrForwards p.words (addresses p.places) at b
        → StandsOrForwards (behind p) (addresses (currents p)) at b × (old_length (behind p) at ≡ old_length p.words at)
    by_moved true moved (to, forward, stands) =
        let there = start_within is.is.laid to stands in
        let made = kept_here p is to there.fields stands there.object in (
          (to, ap header head ∙ forward, still_current p to stands),
          ap (λ h. object_at (behind p) (led at h)) (ap header head ∙ forward) ∙ made.is ∙ sym there.object ∙ sym (ap (λ h. object_at p.words (led at h)) forward),
        )
    by_moved false unmoved (n, object) =
        let made = kept_left p is at n (unmoved_left is.is.from at has unmoved) object in
        ((n, made.is), old_length-object (behind p) at n made.is ∙ sym (old_length-object p.words at n object))

laid_from : (p : Promoting) → IsPromoting p → IsFromSpace (next p) p.k (currents p) p.remaining (behind p)
laid_from p is =
    let from = is.is.from in
    record {
      starts = from.starts;
      chain = old_ends_same p.words (behind p) (other_base p.s) from.starts (other_base p.s + p.k.used) (λ at has. (old_each p is at has).1) from.chain;
      forwarded = λ at has. (old_each p is at has).0;
      left = from.left;
      sum =
          let sum = from.sum in
          let same = taken_same p.words (behind p) (addresses p.remaining) (λ at has.
          let object = left_object from at has in
          let kept = kept_left p is at object.fields has object.object in
          taken_object (behind p) at object.fields kept.is ∙ sym (taken_object p.words at object.fields object.object)) in
          omega arith;
      grays = λ at gray. still_current p at (from.grays at gray);
      back = λ at has. elim (current_cases p is at has) [
        | inl old ↦
            old_fields p is (λ w. MayLeadBack (addresses (currents p)) from.starts (meaning w)) at old (λ n i object within.
            may_lead_on (addresses p.places) (addresses (currents p)) from.starts (still_current p) (meaning (slice_index p.words (field_at at i))) (from.back at old n i object within))
        | inr new ↦ λ n i object within. inl (new_leads p is at new n i object within)
      ];
      inside = λ at has n i object within.
          let left = left_object from at has in
          let made = kept_left p is at left.fields has left.object in
          let same = same_Some left.fields n (sym made.is ∙ object) in
          subst (λ (x : ℕ). IsInside from.starts (meaning x)) (sym (made.fields i (omega arith))) (from.inside at has n i (made.was ∙ ap Some same) within);
    }

-- The words after the promotion are laid out.
pub promoted_laid : (p : Promoting) → IsPromoting p → IsCollecting (next p) p.k (currents p) p.remaining (behind p)
promoted_laid p is =
    let room = is.room in
    let space = laid_from p is in
    record {
      run = is.is.run;
      spaced = record { first = is.is.spaced.first; room = omega arith; within = is.is.spaced.within };
      long = length-based p.area p.starts (here p) p.words ∙ is.is.long;
      laid = record {
        filled = laid_filled p is;
        here = λ at has n i object within not_gray. elim (current_cases p is at has) [
          | inl old ↦
              let black : contains p.k.gray at ≡ false = sym (ap (λ o. is_gray_field o at i) is.is.run) ∙ not_gray in
              old_fields p is (λ w. LeadsHere (addresses (currents p)) (meaning w)) at old (λ m j was inside.
              leads_on (addresses p.places) (addresses (currents p)) (still_current p) (meaning (slice_index p.words (field_at at j)))
              (is.is.laid.here at old m j was inside (ap (λ o. is_gray_field o at j) is.is.run ∙ black))) n i object within
          | inr new ↦ new_leads p is at new n i object within
        ];
        from = subst (λ o. MatchOption o (p.remaining ≡ []) (λ k. IsFromSpace (next p) k (currents p) p.remaining (behind p))) (sym is.is.run) space;
      };
      from = space;
    }
