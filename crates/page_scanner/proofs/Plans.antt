-- A plan with one more copy.
use Rattle.std.proofs.Common.{◌≡◌, ℕ, zero, suc, ◌+◌, ◌≤◌, ◌<◌, max, Bool, true, false, List, [], ◌∷◌, ◌++◌, length, map, replicate, get_or, Option, None, Some, refl, sym, ap, ◌∙◌, arith, bit_or, length-append}
use Rattle.std.specs.Prelude.{◌==◌, ◌||◌, is_some, if◌then◌else◌}
use Rattle.std.specs.Int.{bit_at}
use Rattle.std.proofs.lemmas.Nat.Bits.{bit_at-zero, bit_at_or}
use Rattle.std.proofs.lemmas.Grind.{common_steps}
use Rattle.std.proofs.lemmas.List.{get_or-replicate}
use Rattle.std.proofs.lemmas.List.Sums.{fold-append}
use Rattle.heap_spaces.specs.Addresses.{is_set}
use Rattle.heap_spaces.specs.Collection.{Collection}
use Rattle.heap_spaces.specs.declared.collection.CopiedObject.{CopiedObject}
use Rattle.log_records.specs.declared.Record.TheVariants.{Copy}
use Rattle.log_records.specs.Record.{copy_record}
use Rattle.page_scanner.specs.declared.plan.Plan.{Plan}
use Rattle.page_scanner.specs.Destinations.{goes_to}
use Rattle.page_scanner.specs.PageScan.{copies_of}
use Rattle.page_scanner.specs.Plan.{planned, copy_records, with_source, ArePageBits, IsPlan}
use Rattle.page_scanner.specs.Scan.{copied_to, copied_from, is_gray}
use Rattle.page_scanner.proofs.Copies.{records_grown, words_more}
use Rattle.page_scanner.proofs.Following.{going_more}
use Rattle.page_scanner.proofs.Rising.{coming_more}

-- where copies come from that stand in the page, with one more
source_more : (sources : List (Option ℕ)) (first from to place : ℕ) → length sources ≡ 64 → place < 64
    → get_or (with_source sources first from to) place None ≡ (if to == first + place then Some from else get_or sources place None)
source_more sources first from to place all within = grind (arith, common_steps)

sources_all : (sources : List (Option ℕ)) (first from to : ℕ) → length (with_source sources first from to) ≡ length sources
sources_all sources first from to = grind (arith, common_steps)

some_more : (here : Bool) (from : ℕ) (o : Option ℕ) → (here || is_some o) ≡ is_some (if here then Some from else o)
some_more true from o = refl
some_more false from o = refl

bit_small : (bits place : ℕ) → bit_at bits place < 2
bit_small bits place = omega arith

max_set : (m n : ℕ) → m < 2 → n < 2 → (max m n == 1) ≡ (m == 1 || n == 1)
max_set zero zero a b = refl
max_set zero (suc zero) a b = refl
max_set (suc zero) zero a b = refl
max_set (suc zero) (suc zero) a b = refl
max_set zero (suc (suc n)) a b = absurd (omega (arith, b))
max_set (suc zero) (suc (suc n)) a b = absurd (omega (arith, b))
max_set (suc (suc m)) n a b = absurd (omega (arith, a))

-- the bits of a page's gray objects, with those of the copies in it
pub gray_by_bits : (p : Plan) (k : Collection) (gray : ℕ) → IsPlan p → ArePageBits gray k p.first → (place : ℕ) → place < 64 → is_gray k (planned p) (p.first + place) ≡ is_set (bit_or gray p.placed) place
gray_by_bits p k gray plan bits place low =
    (λ i. sym (bits place low) i || sym (plan.placing place low) i)
    ∙ sym (max_set (bit_at gray place) (bit_at p.placed place) (bit_small gray place) (bit_small p.placed place))
    ∙ ap (λ b. b == 1) (sym (bit_at_or gray p.placed place))

-- where an object goes with one more move
move_more : (moves : List (ℕ × ℕ)) (from to b : ℕ) → goes_to (moves ++ (from, to) ∷ []) b ≡ (if from == b then Some to else goes_to moves b)
move_more moves from to b = fold-append (λ (found : Option ℕ) (m : ℕ × ℕ). if m.0 == b then Some m.1 else found) None moves ((from, to) ∷ [])

-- It is a plan still.
pub plan_more : (p q : Plan) (c : CopiedObject) (run : List ℕ) → IsPlan p → 0 < c.words → length run ≡ c.words → c.header ≡ get_or run 0 0
    → q.copies.items ≡ p.copies.items ++ c ∷ [] → q.words.items ≡ p.words.items ++ run → q.size ≡ p.size + c.words → q.size ≤ 1048576
    → q.destinations ≡ p.destinations ++ (c.from, c.to) ∷ []
    → q.sources ≡ with_source p.sources p.first c.from c.to → ((place : ℕ) → place < 64 → is_set q.placed place ≡ (c.to == p.first + place || is_set p.placed place)) → q.first ≡ p.first → IsPlan q
plan_more p q c run plan some size header copies words more small going sources placed first =
    let records : copy_records q ≡ copy_records p ++ Copy c.from c.to run ∷ [] =
    records_grown p.copies.items q.copies.items p.words.items q.words.items c run plan.filled size copies words in
    record {
      filled = rw (copies, words) (words_more p.copies.items p.words.items c run plan.filled some size header);
      counted = let counted = plan.counted in let all = ap (λ (l : List ℕ). length l) words in omega (arith, more, counted, all, size, length-append p.words.items run);
      small = small;
      listed =
          let both = plan.listed in
          let objects = ap (λ (l : List CopiedObject). length l) copies in
          let moves = ap (λ (l : List (ℕ × ℕ)). length l) going in
          omega (arith, both, objects, moves, length-append p.copies.items (c ∷ []), length-append p.destinations ((c.from, c.to) ∷ []));
      going = λ b. ap (λ ms. goes_to ms b) going ∙ move_more p.destinations c.from c.to b ∙ ap (λ o. if c.from == b then Some c.to else o) (plan.going b) ∙ sym (going_more (copy_records p) c.from c.to run b) ∙ ap (λ rs. copied_to rs b) (sym records);
      places = ap (λ (l : List (Option ℕ)). length l) sources ∙ sources_all p.sources p.first c.from c.to ∙ plan.places;
      coming = λ place within.
          ap (λ (l : List (Option ℕ)). get_or l place None) sources
          ∙ source_more p.sources p.first c.from c.to place plan.places within
          ∙ ap (λ o. if c.to == p.first + place then Some c.from else o) (plan.coming place within)
          ∙ sym (coming_more (copy_records p) c.from c.to run (p.first + place))
          ∙ ap (λ rs. copied_from rs (p.first + place)) (sym records)
          ∙ ap (λ f. copied_from (copy_records q) (f + place)) (sym first);
      placing = λ place within.
          placed place within
          ∙ ap (λ b. c.to == p.first + place || b) (plan.placing place within)
          ∙ some_more (c.to == p.first + place) c.from (copied_from (copy_records p) (p.first + place))
          ∙ ap is_some (sym (coming_more (copy_records p) c.from c.to run (p.first + place)))
          ∙ ap (λ rs. is_some (copied_from rs (p.first + place))) (sym records)
          ∙ ap (λ f. is_some (copied_from (copy_records q) (f + place))) (sym first);
    }

-- where nothing is planned yet
pub plan_none : (p : Plan) → p.copies.items ≡ [] → p.words.items ≡ [] → p.size ≡ 0 → p.destinations ≡ [] → p.sources ≡ replicate 64 None → p.placed ≡ 0 → IsPlan p
plan_none p copies words size going sources placed = record {
  filled = rw (copies, words) refl;
  counted = size ∙ ap (λ (l : List ℕ). length l) (sym words);
  small = omega (arith, size);
  listed = ap (λ (l : List (ℕ × ℕ)). length l) going ∙ ap (λ (l : List CopiedObject). length l) (sym copies);
  going = λ b. ap (λ ms. goes_to ms b) going ∙ ap (λ rs. copied_to rs b) (sym none);
  places = ap (λ (l : List (Option ℕ)). length l) sources;
  coming = λ place within.
      ap (λ (l : List (Option ℕ)). get_or l place None) sources
      ∙ get_or-replicate {A = Option ℕ} 64 place None None within
      ∙ ap (λ rs. copied_from rs (p.first + place)) (sym none);
  placing = λ place within.
      ap (λ bits. is_set bits place) placed
      ∙ ap (λ b. b == 1) (bit_at-zero place)
      ∙ ap (λ rs. is_some (copied_from rs (p.first + place))) (sym none);
}
  where
    none : copy_records p ≡ []
    none = ap (λ (cs : List CopiedObject). map copy_record (copies_of cs p.words.items)) copies
