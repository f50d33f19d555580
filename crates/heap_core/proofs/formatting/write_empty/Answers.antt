use Rattle.std.proofs.Common.{◌≡◌, ℕ, ◌-◌, ◌≤◌, List, take, drop, length, get_or, refl, ap, sym, ◌∙◌, arith, subst, Err, rules}
use Rattle.std.proofs.lemmas.Result.{on_ok_weaker}
use Rattle.counts.specs.Count.{counted}
use Rattle.disk_model.specs.Disk.{SameOutside}
use Rattle.disk_model.specs.Moments.{LeavesOnly}
use Rattle.disk_model.proofs.MomentLaws.{weaker}
use Rattle.gate_slot.specs.Gate.{filled, IsClosedInEach, SameButGate, IsFilling}
use Rattle.gate_slot.specs.Passing.{Passes}
use Rattle.image_plan.specs.declared.plan.Plan.{Plan}
use Rattle.image_plan.specs.Super.{superblock}
use Rattle.image_plan.specs.Plan.{image_size}
use Rattle.heap_core.specs.Format.{AreZero, IsEmptyHeap, IsFormatting, zero_writes}
use Rattle.heap_model.specs.Image.{IsLegal}
use Rattle.heap_core.proofs.Empty.{empty, empty_heap, zeroing, filling, closing_run, run_then, made_calls, gate_calls, zero_calls}
use Rattle.heap_core.proofs.Outside.{closed_outside, gate_outside, zeros_outside, filling_outside, filled_outside}
use Rattle.heap_core.proofs.formatting.write_empty.Goals as goal
use Rattle.heap_model.specs.NewHeap.{new_heap}

pub returns-clause-made : goal.returns-clause-made
returns-clause-made g c tells =
    let d = g.D.Disk in
    let s = c.args.of.now in
    let seen = d.bytes c.write_zeros.new.disk in
    let zero = c.in_ok-write_zeros.ensures.zero tells in
    let whole = g.met.D.Disk.same_size tells c.write_zeros.new.disk seen (g.met.D.Disk.reads_an_image tells c.write_zeros.new.disk) in
    let large : image_size s.pages s.log_bytes ≤ length seen = omega (arith, whole, c.write_zeros.ensures.disk.extent, c.close_gate.ensures.disk.extent, c.requires.inside) in
    let end : c.size.result ≡ image_size s.pages s.log_bytes = c.size.ensures ∙ ap (λ (p : Plan). image_size p.pages p.log_bytes) c.plan.ensures in
    let zero_all : AreZero 64 (image_size s.pages s.log_bytes) seen = subst (λ (n : ℕ). AreZero 64 n seen) end zero in
    let made : d.bytes c.fill_and_open.new.disk ≡ filled 0 1 (take 63 (drop 1 c.write_super-bytes.result)) seen → IsLegal (new_heap s) (d.bytes c.fill_and_open.new.disk) =
    λ is. subst (λ (x : List ℕ). IsLegal (new_heap s) x) (sym (is ∙ ap (λ (l : List ℕ). filled 0 1 (take 63 (drop 1 l)) seen) c.write_super-bytes.ensures)) (empty s seen large c.requires.good zero_all) in
    on_ok_weaker c.fill_and_open.result made (c.fill_and_open.ensures.filled tells)

pub returns-clause-empty : goal.returns-clause-empty
returns-clause-empty g c tells =
    let d = g.D.Disk in
    let s = c.args.of.now in
    let seen = d.bytes c.write_zeros.new.disk in
    let whole = g.met.D.Disk.same_size tells c.write_zeros.new.disk seen (g.met.D.Disk.reads_an_image tells c.write_zeros.new.disk) in
    let large : image_size s.pages s.log_bytes ≤ length seen = omega (arith, whole, c.write_zeros.ensures.disk.extent, c.close_gate.ensures.disk.extent, c.requires.inside) in
    let end : c.size.result ≡ image_size s.pages s.log_bytes = c.size.ensures ∙ ap (λ (p : Plan). image_size p.pages p.log_bytes) c.plan.ensures in
    let zero_all : AreZero 64 (image_size s.pages s.log_bytes) seen = subst (λ (n : ℕ). AreZero 64 n seen) end (c.in_ok-write_zeros.ensures.zero tells) in
    let made : d.bytes c.fill_and_open.new.disk ≡ filled 0 1 (take 63 (drop 1 c.write_super-bytes.result)) seen → IsEmptyHeap s (d.bytes c.fill_and_open.new.disk) =
    λ is. subst (λ (x : List ℕ). IsEmptyHeap s x) (sym (is ∙ ap (λ (l : List ℕ). filled 0 1 (take 63 (drop 1 l)) seen) c.write_super-bytes.ensures)) (empty_heap s seen large zero_all) in
    on_ok_weaker c.fill_and_open.result made (c.fill_and_open.ensures.filled tells)

pub returns-clause-moments : goal.returns-clause-moments
returns-clause-moments g c tells only =
    let d = g.D.Disk in
    let s = c.args.of.now in
    let old = d.bytes c.args.disk.now in
    let seen = d.bytes c.write_zeros.new.disk in
    let P = IsFormatting s old in
    let end : c.size.result ≡ image_size s.pages s.log_bytes = c.size.ensures ∙ ap (λ (p : Plan). image_size p.pages p.log_bytes) c.plan.ensures in
    let whole = g.met.D.Disk.same_size tells c.write_zeros.new.disk seen (g.met.D.Disk.reads_an_image tells c.write_zeros.new.disk) in
    let large : image_size s.pages s.log_bytes ≤ length seen = omega (arith, whole, c.write_zeros.ensures.disk.extent, c.close_gate.ensures.disk.extent, c.requires.inside) in
    let zero_all : AreZero 64 (image_size s.pages s.log_bytes) seen = subst (λ (n : ℕ). AreZero 64 n seen) end (c.in_ok-write_zeros.ensures.zero tells) in
    let sb : take 63 (drop 1 c.write_super-bytes.result) ≡ drop 1 (superblock s) = ap (λ (l : List ℕ). take 63 (drop 1 l)) c.write_super-bytes.ensures in
    let shut_1 = c.in_ok-close_gate.ensures.each tells (λ f left. ap (λ (l : List ℕ). get_or l 0 0) (only f left)) in
    let shut_2 : IsClosedInEach 0 (d.may_leave c.write_zeros.new.disk) = λ f left. let o = c.write_zeros.ensures.crash tells f left in λ is_open. shut_1 o.0 o.1 (sym (o.2.before 0 (omega arith)) ∙ is_open) in
    let first = closing_run d.moment d.left_since c.args.disk.now c.close_gate.new.disk s old (d.may_leave c.args.disk.now) only (c.close_gate.ensures.moments tells) (λ shut. ((c.close_gate.ensures.left_alone tells shut).contents tells).moments) in
    let second = weaker d.moment d.left_since c.close_gate.new.disk c.write_zeros.new.disk _ P (c.write_zeros.ensures.moments tells) (λ f left. zeroing s old left.0 f c.size.result (shut_1 left.0 left.1) left.2) in
    let third = weaker d.moment d.left_since c.write_zeros.new.disk c.fill_and_open.new.disk _ P (c.fill_and_open.ensures.moments tells shut_2)
    (λ f left. filling s old seen left.0 f large c.requires.good zero_all (subst (λ (t : List ℕ). IsFilling 0 1 t seen left.0 f) sb left.2)) in
    run_then d.moment d.left_since c.args.disk.now c.write_zeros.new.disk c.fill_and_open.new.disk P (run_then d.moment d.left_since c.args.disk.now c.close_gate.new.disk c.write_zeros.new.disk P first second) third

pub returns-clause-passes : goal.returns-clause-passes
returns-clause-passes g c tells =
    let d = g.D.Disk in
    let s = c.args.of.now in
    let end : c.size.result ≡ image_size s.pages s.log_bytes = c.size.ensures ∙ ap (λ (p : Plan). image_size p.pages p.log_bytes) c.plan.ensures in
    made_calls _ _ _ (d.passed c.fill_and_open.new.disk) (image_size s.pages s.log_bytes) (d.bytes c.args.disk.now) c.fill_and_open.result (c.in_ok-close_gate.ensures.passes tells).ok
    ((c.in_ok-write_zeros.ensures.passes tells).ok ∙ ap (λ (n : ℕ). counted (zero_writes (n - 64)) (d.passed c.close_gate.new.disk)) end)
    (c.fill_and_open.ensures.passes tells)

pub returns-in_err-close_gate-clause-passes : goal.returns-in_err-close_gate-clause-passes
returns-in_err-close_gate-clause-passes g c tells =
    let d = g.D.Disk in
    let s = c.args.of.now in
    let err : c.from_residual.result ≡ Err c.in_err-close_gate.field-0.0 = search rules in
    rw err (gate_calls (d.passed c.args.disk.now) (d.passed c.close_gate.new.disk) (image_size s.pages s.log_bytes) (d.bytes c.args.disk.now) c.in_err-close_gate.field-0.0 (c.in_err-close_gate.ensures.passes tells))

pub returns-in_err-write_zeros-clause-passes : goal.returns-in_err-write_zeros-clause-passes
returns-in_err-write_zeros-clause-passes g c tells =
    let d = g.D.Disk in
    let s = c.args.of.now in
    let end : c.size.result ≡ image_size s.pages s.log_bytes = c.size.ensures ∙ ap (λ (p : Plan). image_size p.pages p.log_bytes) c.plan.ensures in
    let err : c.from_residual-in_err-write_zeros.result ≡ Err c.in_err-write_zeros.field-0.0 = search rules in
    rw err (zero_calls (d.passed c.args.disk.now) (d.passed c.close_gate.new.disk) (d.passed c.write_zeros.new.disk) (image_size s.pages s.log_bytes) (d.bytes c.args.disk.now) c.in_err-write_zeros.field-0.0 (c.in_ok-close_gate.ensures.passes tells).ok
    (subst (λ (n : ℕ). Passes (zero_writes (n - 64)) (d.passed c.close_gate.new.disk) (d.passed c.write_zeros.new.disk) (Err c.in_err-write_zeros.field-0.0)) end (c.in_err-write_zeros.ensures.passes tells)))

pub returns-in_err-close_gate-clause-moments : goal.returns-in_err-close_gate-clause-moments
returns-in_err-close_gate-clause-moments g c tells only =
    let d = g.D.Disk in
    closing_run d.moment d.left_since c.args.disk.now c.close_gate.new.disk c.args.of.now (d.bytes c.args.disk.now) (d.may_leave c.args.disk.now) only (c.close_gate.ensures.moments tells) (λ shut. ((c.close_gate.ensures.left_alone tells shut).contents tells).moments)

pub returns-in_err-write_zeros-clause-moments : goal.returns-in_err-write_zeros-clause-moments
returns-in_err-write_zeros-clause-moments g c tells only =
    let d = g.D.Disk in
    let s = c.args.of.now in
    let old = d.bytes c.args.disk.now in
    let P = IsFormatting s old in
    let shut = c.in_ok-close_gate.ensures.each tells (λ f left. ap (λ (l : List ℕ). get_or l 0 0) (only f left)) in
    let first = closing_run d.moment d.left_since c.args.disk.now c.close_gate.new.disk s old (d.may_leave c.args.disk.now) only (c.close_gate.ensures.moments tells) (λ shut. ((c.close_gate.ensures.left_alone tells shut).contents tells).moments) in
    let second = weaker d.moment d.left_since c.close_gate.new.disk c.write_zeros.new.disk _ P (c.write_zeros.ensures.moments tells) (λ f left. zeroing s old left.0 f c.size.result (shut left.0 left.1) left.2) in
    run_then d.moment d.left_since c.args.disk.now c.close_gate.new.disk c.write_zeros.new.disk P first second

-- the bytes past the plan, at the end
pub returns-clause-outside : goal.returns-clause-outside
returns-clause-outside g c tells =
    let d = g.D.Disk in
    let s = c.args.of.now in
    let n = image_size s.pages s.log_bytes in
    let old = d.bytes c.args.disk.now in
    let seen = d.bytes c.write_zeros.new.disk in
    let whole = g.met.D.Disk.same_size tells c.write_zeros.new.disk seen (g.met.D.Disk.reads_an_image tells c.write_zeros.new.disk) in
    let first = g.met.D.Disk.same_size tells c.args.disk.now old (g.met.D.Disk.reads_an_image tells c.args.disk.now) in
    let large : n ≤ length seen = omega (arith, whole, c.write_zeros.ensures.disk.extent, c.close_gate.ensures.disk.extent, c.requires.inside) in
    let fits : n ≤ length old = omega (arith, first, c.requires.inside) in
    let end : c.size.result ≡ n = c.size.ensures ∙ ap (λ (p : Plan). image_size p.pages p.log_bytes) c.plan.ensures in
    let gate : SameOutside 0 n old (d.bytes c.close_gate.new.disk) = subst (λ (x : List ℕ). SameOutside 0 n old x) (sym (c.in_ok-close_gate.ensures.closed tells)) (closed_outside n (omega arith) old fits) in
    let zeros : SameOutside 0 n old seen = zeros_outside n (omega arith) old (d.bytes c.close_gate.new.disk) seen gate 64 c.size.result end (c.in_ok-write_zeros.ensures.outside tells) in
    let made : d.bytes c.fill_and_open.new.disk ≡ filled 0 1 (take 63 (drop 1 c.write_super-bytes.result)) seen → SameOutside 0 n old (d.bytes c.fill_and_open.new.disk) =
    λ is. subst (λ (x : List ℕ). SameOutside 0 n old x) (sym (is ∙ ap (λ (l : List ℕ). filled 0 1 (take 63 (drop 1 l)) seen) c.write_super-bytes.ensures)) (filled_outside s old seen large zeros) in
    on_ok_weaker c.fill_and_open.result made (c.fill_and_open.ensures.filled tells)

-- and at each moment
pub returns-clause-moments_outside : goal.returns-clause-moments_outside
returns-clause-moments_outside g c tells only =
    let d = g.D.Disk in
    let s = c.args.of.now in
    let n = image_size s.pages s.log_bytes in
    let old = d.bytes c.args.disk.now in
    let seen = d.bytes c.write_zeros.new.disk in
    let shut = c.close_gate.new.disk in
    let zeroed = c.write_zeros.new.disk in
    let P = SameOutside 0 n old in
    let end : c.size.result ≡ n = c.size.ensures ∙ ap (λ (p : Plan). image_size p.pages p.log_bytes) c.plan.ensures in
    let sb : take 63 (drop 1 c.write_super-bytes.result) ≡ drop 1 (superblock s) = ap (λ (l : List ℕ). take 63 (drop 1 l)) c.write_super-bytes.ensures in
    let shut_1 = c.in_ok-close_gate.ensures.each tells (λ f left. ap (λ (l : List ℕ). get_or l 0 0) (only f left)) in
    let shut_2 : IsClosedInEach 0 (d.may_leave zeroed) = λ f left. let o = c.write_zeros.ensures.crash tells f left in λ is_open. shut_1 o.0 o.1 (sym (o.2.before 0 (omega arith)) ∙ is_open) in
    let first : LeavesOnly d.moment d.left_since c.args.disk.now shut P = weaker d.moment d.left_since c.args.disk.now shut _ P (c.close_gate.ensures.moments tells)
    (λ f left. gate_outside n (omega arith) old f (subst (λ (x : List ℕ). SameButGate 0 x f) (only left.0 left.1) left.2)) in
    let in_first = λ (f : List ℕ) (may : d.may_leave shut f). first.each f (g.met.D.Disk.counts_now tells shut (d.moment c.args.disk.now) f first.later may) in
    let second : LeavesOnly d.moment d.left_since shut zeroed P = weaker d.moment d.left_since shut zeroed _ P (c.write_zeros.ensures.moments tells)
    (λ f left. zeros_outside n (omega arith) old left.0 f (in_first left.0 left.1) 64 c.size.result end left.2) in
    let in_second = λ (f : List ℕ) (may : d.may_leave zeroed f). second.each f (g.met.D.Disk.counts_now tells zeroed (d.moment shut) f second.later may) in
    let third : LeavesOnly d.moment d.left_since zeroed c.fill_and_open.new.disk P = weaker d.moment d.left_since zeroed c.fill_and_open.new.disk _ P (c.fill_and_open.ensures.moments tells shut_2)
    (λ f left. filling_outside n (omega arith) old left.0 f (in_second left.0 left.1) (drop 1 (superblock s)) seen refl (subst (λ (t : List ℕ). IsFilling 0 1 t seen left.0 f) sb left.2)) in
    run_then d.moment d.left_since c.args.disk.now zeroed c.fill_and_open.new.disk P (run_then d.moment d.left_since c.args.disk.now shut zeroed P first second) third

pub returns-in_err-close_gate-clause-moments_outside : goal.returns-in_err-close_gate-clause-moments_outside
returns-in_err-close_gate-clause-moments_outside g c tells only =
    let d = g.D.Disk in
    let s = c.args.of.now in
    let n = image_size s.pages s.log_bytes in
    let old = d.bytes c.args.disk.now in
    weaker d.moment d.left_since c.args.disk.now c.close_gate.new.disk _ (SameOutside 0 n old) (c.close_gate.ensures.moments tells)
    (λ f left. gate_outside n (omega arith) old f (subst (λ (x : List ℕ). SameButGate 0 x f) (only left.0 left.1) left.2))

pub returns-in_err-write_zeros-clause-moments_outside : goal.returns-in_err-write_zeros-clause-moments_outside
returns-in_err-write_zeros-clause-moments_outside g c tells only =
    let d = g.D.Disk in
    let s = c.args.of.now in
    let n = image_size s.pages s.log_bytes in
    let old = d.bytes c.args.disk.now in
    let shut = c.close_gate.new.disk in
    let P = SameOutside 0 n old in
    let end : c.size.result ≡ n = c.size.ensures ∙ ap (λ (p : Plan). image_size p.pages p.log_bytes) c.plan.ensures in
    let first : LeavesOnly d.moment d.left_since c.args.disk.now shut P = weaker d.moment d.left_since c.args.disk.now shut _ P (c.close_gate.ensures.moments tells)
    (λ f left. gate_outside n (omega arith) old f (subst (λ (x : List ℕ). SameButGate 0 x f) (only left.0 left.1) left.2)) in
    let in_first = λ (f : List ℕ) (may : d.may_leave shut f). first.each f (g.met.D.Disk.counts_now tells shut (d.moment c.args.disk.now) f first.later may) in
    let second : LeavesOnly d.moment d.left_since shut c.write_zeros.new.disk P = weaker d.moment d.left_since shut c.write_zeros.new.disk _ P (c.write_zeros.ensures.moments tells)
    (λ f left. zeros_outside n (omega arith) old left.0 f (in_first left.0 left.1) 64 c.size.result end left.2) in
    run_then d.moment d.left_since c.args.disk.now shut c.write_zeros.new.disk P first second
