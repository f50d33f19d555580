use Rattle.std.proofs.Common.{◌≡◌, ◌+◌, ◌<◌, ◌==◌, ◌||◌, ℕ, refl, List, [], ◌∷◌, get_or, length, take, take_all, map, sum_by, ◌∙◌, ap, sym, subst, inl, inr, arith}
use Rattle.std.specs.List.{flat_map}
use Rattle.std.specs.Ordering.{nat_cmp}
use Rattle.std.specs.FinSet.{FinSet, contains}
use Rattle.std.proofs.lemmas.List.{take_more, map_more}
use Rattle.std.proofs.lemmas.List.Concat.{flat_map-append}
use Rattle.std.proofs.lemmas.List.Sums.{sum_by_more, sum_by_more_le}
use Rattle.std.proofs.lemmas.Bool.{cases_lt}
use Rattle.std.proofs.lemmas.Grind.{common_steps}
use Rattle.heap_spaces.specs.declared.collection.CopiedObject.{CopiedObject}
use Rattle.heap_spaces.specs.Addresses.{with_all}
use Rattle.heap_spaces.specs.PageAddresses.{waits_in}
use Rattle.heap_spaces.specs.Collection.{gray_from, page_of}
use Rattle.heap_spaces.specs.PageTable.{HasRoom}
use Rattle.heap_spaces.proofs.AddressLaws.{none_waiting, on_err, same_addresses, with_all-more}
use Rattle.heap_spaces.specs.declared.collection.Collection.TheInside.{Inside}
use Rattle.heap_spaces.proofs.collection.Collection.add_copies.Goals as goal
use Rattle.heap_spaces.proofs.collection.Collection.add_copies.Goals.{then-pages-last+in_ok-make_room+in_ok-make_room-2, else-pages-last+else-pages-last-2}

pub returns-in_err-make_room-clause-err : goal.returns-in_err-make_room-clause-err
returns-in_err-make_room-clause-err c =
    let so_far = c.room.invariant in
    on_err c.from_residual.result _ (λ i. record {
      used = so_far.used i;
      copied = so_far.copied i;
      moved = (c.make_room.ensures.same ∙ so_far.moved) i;
      gray = so_far.gray i;
    })

pub returns-in_err-make_room-2-clause-err : goal.returns-in_err-make_room-2-clause-err
returns-in_err-make_room-2-clause-err c =
    let so_far = c.room.invariant in
    on_err c.from_residual-in_err-make_room-2.result _ (λ i. record {
      used = so_far.used i;
      copied = so_far.copied i;
      moved = (c.make_room.ensures.same ∙ so_far.moved) i;
      gray = (c.make_room-then-pages-last.ensures.same ∙ so_far.gray) i;
    })

pub room-preserved : goal.room-preserved
room-preserved c =
    let xs = c.args.copies.now in
    let n = c.room.copy-index in
    let d : CopiedObject = record { from = 0; to = 0; header = 0; words = 0 } in
    let so_far = c.room.invariant in
    elim c.if-pages-last.branch [
      | then-pages-last+in_ok-make_room+in_ok-make_room-2 w ↦
          let inside = w.self-inside-is in
          let from : (k : ℕ) → k < n + 1 → HasRoom w.make_room.new.self.room (page_of (get_or xs k d).from) = λ k lt.
          elim (cases_lt k n) [
            | inl before ↦ w.make_room.ensures.grows (page_of (get_or xs k d).from) (so_far.from k before)
            | inr ge ↦ subst (λ i. HasRoom w.make_room.new.self.room (page_of (get_or xs i d).from)) (omega (arith, lt, ge)) w.in_ok-make_room.ensures.room
          ]
          in
          let to : (k : ℕ) → k < n + 1 → HasRoom w.make_room-then-pages-last.new.self.room (page_of (get_or xs k d).to) = λ k lt.
          elim (cases_lt k n) [
            | inl before ↦ w.make_room-then-pages-last.ensures.grows (page_of (get_or xs k d).to) (so_far.to k before)
            | inr ge ↦ subst (λ i. HasRoom w.make_room-then-pages-last.new.self.room (page_of (get_or xs i d).to)) (omega (arith, lt, ge)) w.in_ok-make_room-2.ensures.room
          ]
          in
          record {
            used = ap (λ (s : Inside). s.used) inside ∙ so_far.used;
            copied = ap (λ (s : Inside). s.copied) inside ∙ so_far.copied;
            moved = ap (λ (s : Inside). s.moved.set) inside ∙ w.make_room.ensures.same ∙ so_far.moved;
            gray = ap (λ (s : Inside). s.gray.set) inside ∙ w.make_room-then-pages-last.ensures.same ∙ so_far.gray;
            from = λ k lt. subst (λ (r : List ℕ). HasRoom r (page_of (get_or xs k d).from)) (sym (ap (λ (s : Inside). s.moved.room) inside)) (from k lt);
            to = λ k lt. subst (λ (r : List ℕ). HasRoom r (page_of (get_or xs k d).to)) (sym (ap (λ (s : Inside). s.gray.room) inside)) (to k lt);
            last_from = λ page is.
                let here : page_of (get_or xs n d).from ≡ page = omega (arith, is, ap (λ (l : ℕ × ℕ). l.0) w.last-is) in
                subst (λ (r : List ℕ). HasRoom r page) (sym (ap (λ (s : Inside). s.moved.room) inside)) (subst (HasRoom w.make_room.new.self.room) here (from n (omega arith)));
            last_to = λ page is.
                let here : page_of (get_or xs n d).to ≡ page = omega (arith, is, ap (λ (l : ℕ × ℕ). l.1) w.last-is) in
                subst (λ (r : List ℕ). HasRoom r page) (sym (ap (λ (s : Inside). s.gray.room) inside)) (subst (HasRoom w.make_room-then-pages-last.new.self.room) here (to n (omega arith)));
          }
      | else-pages-last+else-pages-last-2 w ↦
          let inside = w.self-inside-is in
          let from : (k : ℕ) → k < n + 1 → HasRoom c.room.self-inside.moved.room (page_of (get_or xs k d).from) = λ k lt.
          elim (cases_lt k n) [
            | inl before ↦ so_far.from k before
            | inr ge ↦
                let here : k ≡ n = omega (arith, lt, ge) in
                so_far.last_from (page_of (get_or xs k d).from) (omega (arith, w.if-pages-last.false, ap (λ i. (get_or xs i d).from) here))
          ]
          in
          let to : (k : ℕ) → k < n + 1 → HasRoom c.room.self-inside.gray.room (page_of (get_or xs k d).to) = λ k lt.
          elim (cases_lt k n) [
            | inl before ↦ so_far.to k before
            | inr ge ↦
                let here : k ≡ n = omega (arith, lt, ge) in
                so_far.last_to (page_of (get_or xs k d).to) (omega (arith, w.if-pages-last-2.false, ap (λ i. (get_or xs i d).to) here))
          ]
          in
          record {
            used = ap (λ (s : Inside). s.used) inside ∙ so_far.used;
            copied = ap (λ (s : Inside). s.copied) inside ∙ so_far.copied;
            moved = ap (λ (s : Inside). s.moved.set) inside ∙ so_far.moved;
            gray = ap (λ (s : Inside). s.gray.set) inside ∙ so_far.gray;
            from = λ k lt. subst (λ (r : List ℕ). HasRoom r (page_of (get_or xs k d).from)) (sym (ap (λ (s : Inside). s.moved.room) inside)) (from k lt);
            to = λ k lt. subst (λ (r : List ℕ). HasRoom r (page_of (get_or xs k d).to)) (sym (ap (λ (s : Inside). s.gray.room) inside)) (to k lt);
            last_from = λ page is. subst (λ (r : List ℕ). HasRoom r page) (sym (ap (λ (s : Inside). s.moved.room) inside)) (so_far.last_from page (is ∙ ap (λ (l : ℕ × ℕ). l.0) w.last-is));
            last_to = λ page is. subst (λ (r : List ℕ). HasRoom r page) (sym (ap (λ (s : Inside). s.gray.room) inside)) (so_far.last_to page (is ∙ ap (λ (l : ℕ × ℕ). l.1) w.last-is));
          }
    ]

pub copies-init : goal.copies-init
copies-init c =
    let so_far = c.room.invariant in
    record {
      used = so_far.used;
      copied = so_far.copied;
      words = refl;
      moved = λ q. none_waiting (contains c.room.self-inside.moved.set q) (waits_in c.new-from.result q) (c.new-from.ensures.none q) ∙ ap (λ (s : FinSet nat_cmp). contains s q) so_far.moved;
      gray = λ q. none_waiting (contains c.room.self-inside.gray.set q) (waits_in c.new-to.result q) (c.new-to.ensures.none q) ∙ ap (λ (s : FinSet nat_cmp). contains s q) so_far.gray;
      from = λ k lt. so_far.from k (omega arith);
      to = λ k lt. so_far.to k (omega arith);
      wait_from = c.new-from.ensures.room c.room.self-inside.moved.room;
      wait_to = c.new-to.ensures.room c.room.self-inside.gray.room;
    }

pub copies-preserved : goal.copies-preserved
copies-preserved c =
    let xs = c.args.copies.now in
    let i = c.copies.copy-index in
    let d : CopiedObject = record { from = 0; to = 0; header = 0; words = 0 } in
    let so_far = c.copies.invariant in
    let within : i < length xs = omega arith in
    let at = get_or xs i d in
    let froms = map_more (λ (k : CopiedObject). k.from) xs i d within in
    let gray_of = λ (k : CopiedObject). gray_from k.to k.header in
    let tos = ap (flat_map gray_of) (take_more xs i d within) ∙ flat_map-append gray_of (take i xs) (at ∷ []) in
    let moved = c.args.self.now.moved in
    let gray = c.args.self.now.gray in
    record {
      used = so_far.used;
      copied = so_far.copied;
      words = omega (arith, so_far.words, sum_by_more (λ (k : CopiedObject). k.words) xs i d within);
      moved = λ q.
          c.add.ensures.all q
          ∙ ap (λ b. q == at.from || b) (so_far.moved q)
          ∙ with_all-more moved (map (λ (k : CopiedObject). k.from) (take i xs)) at.from q
          ∙ ap (λ (ats : List ℕ). contains (with_all moved ats) q) (sym froms);
      gray = λ q.
          c.add-in-copies.ensures.all q
          ∙ ap (λ b. q == at.to || b) (so_far.gray q)
          ∙ with_all-more gray (flat_map gray_of (take i xs)) at.to q
          ∙ ap (λ (ats : List ℕ). contains (with_all gray ats) q) (sym tos);
      from = λ k lt. subst (λ (r : List ℕ). HasRoom r (page_of (get_or xs k d).from)) (sym c.add.ensures.room) (so_far.from k lt);
      to = λ k lt. subst (λ (r : List ℕ). HasRoom r (page_of (get_or xs k d).to)) (sym c.add-in-copies.ensures.room) (so_far.to k lt);
      wait_from = c.add.ensures.wait;
      wait_to = c.add-in-copies.ensures.wait;
    }

pub overflow_add-words : goal.overflow_add-words
overflow_add-words c =
    let xs = c.args.copies.now in
    let i = c.copies.copy-index in
    let d : CopiedObject = record { from = 0; to = 0; header = 0; words = 0 } in
    let so_far = c.copies.invariant in
    let least = sum_by_more_le (λ (k : CopiedObject). k.words) xs i d c.copies-test.true in
    grind (arith, common_steps, least, so_far.words)

pub returns-clause-ok : goal.returns-clause-ok
returns-clause-ok c =
    let xs = c.args.copies.now in
    let so_far = c.copies.invariant in
    let all = take_all c.copies.copy-index xs (omega arith) in
    let old = c.args.self.now in
    λ i. record {
      used = so_far.used i;
      copied = ((λ j. so_far.copied j + so_far.words j) ∙ ap (λ (l : List CopiedObject). old.copied + sum_by (λ (k : CopiedObject). k.words) l) all) i;
      moved = (same_addresses _ _ (λ q. c.add_all.ensures.all q ∙ so_far.moved q) ∙ ap (λ (l : List CopiedObject). with_all old.moved (map (λ (k : CopiedObject). k.from) l)) all) i;
      gray = (same_addresses _ _ (λ q. c.add_all-2.ensures.all q ∙ so_far.gray q) ∙ ap (λ (l : List CopiedObject). with_all old.gray (flat_map (λ (k : CopiedObject). gray_from k.to k.header) l)) all) i;
    }
