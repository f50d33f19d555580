-- Chains of moves, one for each bucket.
use Rattle.std.proofs.Common.{◌≡◌, ℕ, ◌+◌, ◌-◌, ◌%◌, ◌<◌, ◌≤◌, ◌^◌, inl, inr, Bool, true, false, List, [], ◌∷◌, ◌++◌, length, take, replicate, get_or, set, Option, None, Some, refl, sym, ap, ◌∙◌, subst, arith}
use Rattle.std.specs.Prelude.{◌==◌, if◌then◌else◌}
use Rattle.std.proofs.lemmas.Bool.{cases_eq, cases_lt, eqb-true}
use Rattle.std.proofs.lemmas.List.{length-append, nil_from_length, length-replicate, length-set, map-append, take-append-le, take_all, take_more, get_or_append_left, get_or-replicate, get_or-set_same, get_or-set_other}
use Rattle.std.proofs.lemmas.List.Sums.{fold-append}
use Rattle.std.proofs.Math.Seq.{get_or-append_seam}
use Rattle.page_scanner.specs.declared.destinations.Move.{Move}
use Rattle.page_scanner.specs.declared.destinations.TheConstants.{BUCKETS}
use Rattle.page_scanner.specs.Destinations.{goes_to, pairs, move_at, IsLink, AreChained}

-- where an object goes with one more move
goes_more : (moves : List Move) (m : Move) (b : ℕ) → goes_to (pairs (moves ++ m ∷ [])) b ≡ (if m.from == b then Some m.to else goes_to (pairs moves) b)
goes_more moves m b =
    ap (λ ps. goes_to ps b) (map-append (λ (k : Move). (k.from, k.to)) moves (m ∷ []))
    ∙ fold-append (λ (found : Option ℕ) (k : ℕ × ℕ). if k.0 == b then Some k.1 else found) None (pairs moves) ((m.from, m.to) ∷ [])

-- the first moves up to a place, and that one
pub goes_first : (moves : List Move) (i b : ℕ) → i < length moves
    → goes_to (pairs (take (i + 1) moves)) b ≡ (if (move_at moves i).from == b then Some (move_at moves i).to else goes_to (pairs (take i moves)) b)
goes_first moves i b within =
    ap (λ l. goes_to (pairs l) b) (take_more moves i (record { from = 0; to = 0; earlier = 0 }) within) ∙ goes_more (take i moves) (move_at moves i) b

-- a link stays one with one more move
link_on : (moves : List Move) (m : Move) (end link b : ℕ) → end ≤ length moves → IsLink moves end link b → IsLink (moves ++ m ∷ []) end link b
link_on moves m end link b within l =
    let before = l.before in
    record {
      before = l.before;
      bucket = λ some. ap (λ (k : Move). k.from % BUCKETS) (get_or_append_left moves (m ∷ []) (record { from = 0; to = 0; earlier = 0 }) (link - 1) (omega (arith, before, within, some))) ∙ l.bucket some;
      same =
          ap (λ l. goes_to (pairs l) b) (take-append-le end moves (m ∷ []) within)
          ∙ l.same
          ∙ ap (λ l. goes_to (pairs l) b) (sym (take-append-le link moves (m ∷ []) (omega (arith, before, within))));
    }

-- and leads past that one if it is in another bucket
link_over : (moves : List Move) (m : Move) (link b : ℕ) → (m.from == b) ≡ false → IsLink moves (length moves) link b → IsLink (moves ++ m ∷ []) (length (moves ++ m ∷ [])) link b
link_over moves m link b other l =
    let on = link_on moves m (length moves) link b (omega arith) l in
    let before = l.before in
    record {
      before = omega (arith, before, length-append moves (m ∷ []));
      bucket = on.bucket;
      same =
          ap (λ l. goes_to (pairs l) b) (take_all (length (moves ++ m ∷ [])) (moves ++ m ∷ []) (omega arith))
          ∙ goes_more moves m b
          ∙ ap (λ t. if t then Some m.to else goes_to (pairs moves) b) other
          ∙ ap (λ l. goes_to (pairs l) b) (sym (take_all (length moves) moves (omega arith)))
          ∙ ap (λ l. goes_to (pairs l) b) (sym (take-append-le (length moves) moves (m ∷ []) (omega arith)))
          ∙ on.same;
    }

-- the new move is the last one of its bucket
link_new : (moves : List Move) (m : Move) (b : ℕ) → m.from % BUCKETS ≡ b % BUCKETS → IsLink (moves ++ m ∷ []) (length (moves ++ m ∷ [])) (length moves + 1) b
link_new moves m b here =
    let one : length (moves ++ m ∷ []) ≡ length moves + 1 = length-append moves (m ∷ []) in
    record {
      before = omega (arith, one);
      bucket = λ some.
          let last : length moves + 1 - 1 ≡ length moves = omega arith in
          ap (λ i. (move_at (moves ++ m ∷ []) i).from % BUCKETS) last
          ∙ ap (λ (k : Move). k.from % BUCKETS) (get_or-append_seam moves m [] (record { from = 0; to = 0; earlier = 0 }))
          ∙ here;
      same = ap (λ n. goes_to (pairs (take n (moves ++ m ∷ []))) b) one;
    }

other_from : (m : Move) (b : ℕ) → (m.from % BUCKETS ≡ b % BUCKETS → ⊥) → (m.from == b) ≡ false
other_from m b apart = which (m.from == b) refl
  where
    which : (t : Bool) → (m.from == b) ≡ t → (m.from == b) ≡ false
    which true is = absurd (apart (ap (λ x. x % BUCKETS) (eqb-true m.from b is)))
    which false is = is

-- Chains with one more move, which is put at the head of its bucket.
pub chained_more : (moves : List Move) (heads : List ℕ) (m : Move) → AreChained moves heads → length heads ≡ BUCKETS → length moves + 1 < 2 ^ 32 → m.earlier ≡ get_or heads (m.from % BUCKETS) 0
    → AreChained (moves ++ m ∷ []) (set heads (m.from % BUCKETS) (length moves + 1))
chained_more moves heads m c all few first =
    let one : length (moves ++ m ∷ []) ≡ length moves + 1 = length-append moves (m ∷ []) in
    record {
      few = omega (arith, few, one);
      buckets = inr (length-set heads (m.from % BUCKETS) (length moves + 1) ∙ all);
      latest = λ b. elim (cases_eq (m.from % BUCKETS) (b % BUCKETS)) [
        | inl here ↦
            let inside : m.from % BUCKETS < length heads = omega (arith, all) in
            let found : get_or (set heads (m.from % BUCKETS) (length moves + 1)) (b % BUCKETS) 0 ≡ length moves + 1 =
            ap (λ i. get_or (set heads (m.from % BUCKETS) (length moves + 1)) i 0) (sym here) ∙ get_or-set_same heads (m.from % BUCKETS) (length moves + 1) 0 inside in
            subst (λ (l : ℕ). IsLink (moves ++ m ∷ []) (length (moves ++ m ∷ [])) l b) (sym found) (link_new moves m b here)
        | inr apart ↦
            let found : get_or (set heads (m.from % BUCKETS) (length moves + 1)) (b % BUCKETS) 0 ≡ get_or heads (b % BUCKETS) 0 =
            get_or-set_other heads (m.from % BUCKETS) (b % BUCKETS) (length moves + 1) 0 (λ same. apart (sym same)) in
            subst (λ (l : ℕ). IsLink (moves ++ m ∷ []) (length (moves ++ m ∷ [])) l b) (sym found) (link_over moves m (get_or heads (b % BUCKETS) 0) b (other_from m b apart) (c.latest b))
      ];
      earlier = λ i b within here. elim (cases_lt i (length moves)) [
        | inl old ↦
            let was : move_at (moves ++ m ∷ []) i ≡ move_at moves i = get_or_append_left moves (m ∷ []) (record { from = 0; to = 0; earlier = 0 }) i old in
            subst (λ (k : Move). IsLink (moves ++ m ∷ []) i k.earlier b) (sym was)
            (link_on moves m i (move_at moves i).earlier b (omega (arith, old)) (c.earlier i b old (ap (λ (k : Move). k.from % BUCKETS) (sym was) ∙ here)))
        | inr last ↦
            let place : length moves ≡ i = omega (arith, last, within, one) in
            let is : move_at (moves ++ m ∷ []) i ≡ m = ap (λ n. move_at (moves ++ m ∷ []) n) (sym place) ∙ get_or-append_seam moves m [] (record { from = 0; to = 0; earlier = 0 }) in
            let bucket : m.from % BUCKETS ≡ b % BUCKETS = ap (λ (k : Move). k.from % BUCKETS) (sym is) ∙ here in
            let link : get_or heads (b % BUCKETS) 0 ≡ (move_at (moves ++ m ∷ []) i).earlier =
            ap (λ n. get_or heads n 0) (sym bucket) ∙ sym first ∙ ap (λ (k : Move). k.earlier) (sym is) in
            subst (λ (l : ℕ). IsLink (moves ++ m ∷ []) i l b) link
            (subst (λ (n : ℕ). IsLink (moves ++ m ∷ []) n (get_or heads (b % BUCKETS) 0) b) place (link_on moves m (length moves) (get_or heads (b % BUCKETS) 0) b (omega arith) (c.latest b)))
      ];
    }

-- Heads that lead nowhere are as good as none.
pub chained_by_none : (moves : List Move) → AreChained moves [] → AreChained moves (replicate BUCKETS 0)
chained_by_none moves c = record {
  few = c.few;
  buckets = inr (length-replicate {A = ℕ} BUCKETS 0);
  latest = λ b.
      let empty : get_or (replicate BUCKETS 0) (b % BUCKETS) 0 ≡ 0 = get_or-replicate BUCKETS (b % BUCKETS) 0 0 (omega arith) in
      subst (λ (l : ℕ). IsLink moves (length moves) l b) (sym empty) (c.latest b);
  earlier = c.earlier;
}

-- Heads are there, of which each leads where it led.
pub record AreMade (moves : List Move) (heads : List ℕ) : Type 0 where
  pub chained : AreChained moves heads
  pub all : length heads ≡ BUCKETS

pub made_now : (moves : List Move) (heads made : List ℕ) (n : ℕ) → AreChained moves heads → length heads ≡ 0 → n ≡ 0 → made ≡ take BUCKETS heads ++ replicate (BUCKETS - n) 0
    → AreMade moves made
made_now moves heads made n c none zero is =
    let empty : heads ≡ [] = nil_from_length heads none in
    let whole : made ≡ replicate BUCKETS 0 = is ∙ ap (λ (l : List ℕ). take BUCKETS l ++ replicate (BUCKETS - n) 0) empty ∙ ap (λ k. replicate (BUCKETS - k) 0) zero in
    rw whole (record { chained = chained_by_none moves (subst (λ (l : List ℕ). AreChained moves l) empty c); all = length-replicate {A = ℕ} BUCKETS 0 })

pub made_before : (moves : List Move) (heads : List ℕ) → AreChained moves heads → (length heads ≡ 0 → ⊥) → AreMade moves heads
made_before moves heads c some = record { chained = c; all = elim c.buckets [ inl none ↦ absurd (some none) | inr all ↦ all ] }

-- Without moves there may be no heads.
pub chained_none : (moves : List Move) (heads : List ℕ) → moves ≡ [] → heads ≡ [] → AreChained moves heads
chained_none moves heads none empty = rw (none, empty) (record {
  few = omega arith;
  buckets = inl refl;
  latest = λ b. record { before = omega arith; bucket = λ some. absurd (omega (arith, some)); same = refl };
  earlier = λ i b within here. absurd (omega (arith, within));
})
