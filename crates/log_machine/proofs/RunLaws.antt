-- The runs of words that a record writes: one after another they are its effect.
use Rattle.std.proofs.Common.{rules, ◌≡◌, ℕ, ◌+◌, ◌<◌, ◌/◌, ◌%◌, zero, suc, List, [], ◌∷◌, ◌++◌, drop, refl, sym, ap, ◌∙◌, subst, append_assoc, arith}
use Rattle.std.specs.Prelude.{None, Some, slice_get, option_and_then}
use Rattle.std.specs.List.{AllByRecursion, enumerate_from, flat_map}
use Rattle.std.proofs.lemmas.Grind.{flat_map-append}
use Rattle.std.proofs.lemmas.List.{append-nil}
use Rattle.heap_words.specs.declared.Header.TheVariants.{Forward}
use Rattle.heap_words.specs.Header.{header_bits}
use Rattle.log_records.specs.declared.copies.ObjectCopy.{ObjectCopy}
use Rattle.log_records.specs.declared.Record.{Record}
use Rattle.log_records.specs.declared.Record.TheVariants.{Update, Base, Fix, Undo, Commit, End, Copy, Scan, Flip, Collected}
use Rattle.log_machine.specs.Machine.{effect, writes_of}
use Rattle.log_machine.specs.Effect.{WritesBelow}
use Rattle.log_machine.specs.Runs.{copy_runs, copies_runs, write_runs, runs}
use Rattle.log_machine.proofs.ListLaws.{AllByRecursion-front, AllByRecursion-behind}
use Rattle.log_machine.proofs.Addresses.{effect_writes}

-- what runs write, word by word
abbrev pub run_writes : List (ℕ × List ℕ) → List (ℕ × ℕ)
run_writes runs = flat_map (λ r. enumerate_from r.0 r.1) runs

-- the run at a place stands at the front of those from it on
pub left_some : {A : Type 0} (l : List A) (i : ℕ) (x : A) → Some x ≡ slice_get l i → drop i l ≡ x ∷ drop (i + 1) l
left_some [] i x is = search rules
left_some (y ∷ ys) zero x is = search rules
left_some (y ∷ ys) (suc i) x is =
    let next : suc (i + 1) ≡ suc i + 1 = omega arith in
    left_some ys i x is ∙ ap (λ (n : ℕ). x ∷ drop n (y ∷ ys)) next

-- past the last one none is left
pub left_none : {A : Type 0} (l : List A) (i : ℕ) → None ≡ slice_get l i → drop i l ≡ []
left_none [] zero is = refl
left_none [] (suc i) is = refl
left_none (y ∷ ys) zero is = search rules
left_none (y ∷ ys) (suc i) is = left_none ys i is

-- two runs of each copy
pub copies_at : (copies : List ObjectCopy) (i : ℕ) → slice_get (copies_runs copies) i ≡ option_and_then (λ k. slice_get (copy_runs k.from k.to k.words) (i % 2)) (slice_get copies (i / 2))
copies_at [] i = refl
copies_at (k ∷ ks) zero = refl
copies_at (k ∷ ks) (suc zero) = refl
copies_at (k ∷ ks) (suc (suc i)) =
    let half : suc (i / 2) ≡ suc (suc i) / 2 = omega arith in
    let rest : i % 2 ≡ suc (suc i) % 2 = omega arith in
    copies_at ks i
    ∙ ap (λ (r : ℕ). option_and_then (λ (c : ObjectCopy). slice_get (copy_runs c.from c.to c.words) r) (slice_get ks (i / 2))) rest
    ∙ ap (λ (h : ℕ). option_and_then (λ (c : ObjectCopy). slice_get (copy_runs c.from c.to c.words) (suc (suc i) % 2)) (slice_get (k ∷ ks) h)) half

-- what the runs of writes write, and those of copies
writes_each : (writes : List (ℕ × ℕ)) → run_writes (write_runs writes) ≡ writes
writes_each [] = refl
writes_each (w ∷ ws) = ap (λ (l : List (ℕ × ℕ)). w ∷ l) (writes_each ws)

copies_each : (copies : List ObjectCopy) → run_writes (copies_runs copies) ≡ flat_map writes_of copies
copies_each [] = refl
copies_each (k ∷ ks) =
    ap (λ (l : List (ℕ × ℕ)). enumerate_from k.to k.words ++ (k.from, header_bits (Forward k.to)) ∷ l) (copies_each ks)
    ∙ sym (append_assoc (enumerate_from k.to k.words) ((k.from, header_bits (Forward k.to)) ∷ []) (flat_map writes_of ks))

-- what the runs write is what the record writes, whatever words stood there before
pub runs-effect : (before : List ℕ) (rec : Record) → run_writes (runs rec) ≡ effect before rec
runs-effect before (Update t object field was word) = refl
runs-effect before (Base t address words) = append-nil (enumerate_from address words)
runs-effect before (Fix t object field word) = refl
runs-effect before (Undo t object field word) = refl
runs-effect before (Commit t) = refl
runs-effect before (End t) = refl
runs-effect before (Copy from to words) = refl
runs-effect before (Scan page writes) = writes_each writes
runs-effect before (Flip copies) = copies_each copies
runs-effect before Collected = refl

-- one more run
pub writes_more : (so_far : List (ℕ × List ℕ)) (run : ℕ × List ℕ) → run_writes (so_far ++ run ∷ []) ≡ run_writes so_far ++ enumerate_from run.0 run.1
writes_more so_far run =
    flat_map-append (λ (r : ℕ × List ℕ). enumerate_from r.0 r.1) so_far (run ∷ [])
    ∙ ap (λ (l : List (ℕ × ℕ)). run_writes so_far ++ l) (append-nil (enumerate_from run.0 run.1))

-- where none is left, those so far write what the record writes
pub runs_done : (before : List ℕ) (rec : Record) (so_far left : List (ℕ × List ℕ)) → runs rec ≡ so_far ++ left → left ≡ [] → run_writes so_far ≡ effect before rec
runs_done before rec so_far left all none =
    ap run_writes (sym (all ∙ ap (λ (l : List (ℕ × List ℕ)). so_far ++ l) none ∙ append-nil so_far)) ∙ runs-effect before rec

-- where all that the record writes lies below an address, so does what each run writes
pub run_below : (end : ℕ) (rec : Record) (so_far left after : List (ℕ × List ℕ)) (run : ℕ × List ℕ) → WritesBelow end rec → runs rec ≡ so_far ++ left → left ≡ run ∷ after
    → AllByRecursion (λ w. w.0 < end) (enumerate_from run.0 run.1)
run_below end rec so_far left after run below all first =
    let P : ℕ × ℕ → Type 0 = λ w. w.0 < end in
    let writes = flat_map-append (λ (r : ℕ × List ℕ). enumerate_from r.0 r.1) so_far (run ∷ after) in
    let is : effect [] rec ≡ run_writes so_far ++ run_writes (run ∷ after) = sym (runs-effect [] rec) ∙ ap run_writes (all ∙ ap (λ (l : List (ℕ × List ℕ)). so_far ++ l) first) ∙ writes in
    let these = subst (λ (l : List (ℕ × ℕ)). AllByRecursion P l) is (effect_writes (λ a. a < end) [] rec below) in
    AllByRecursion-front P (enumerate_from run.0 run.1) (run_writes after) (AllByRecursion-behind P (run_writes so_far) (run_writes (run ∷ after)) these)

-- the runs so far and those that are left, when the next one is taken
pub run_taken : (rec : Record) (so_far left after : List (ℕ × List ℕ)) (run : ℕ × List ℕ) → runs rec ≡ so_far ++ left → left ≡ run ∷ after → runs rec ≡ (so_far ++ run ∷ []) ++ after
run_taken rec so_far left after run all first = all ∙ ap (λ (l : List (ℕ × List ℕ)). so_far ++ l) first ∙ sym (append_assoc so_far (run ∷ []) after)
