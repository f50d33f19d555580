use Rattle.std.proofs.Common.{◌≡◌, ℕ, ◌+◌, ◌-◌, ◌≤◌, List, ◌++◌, length, drop, vec_len, ap, sym, ◌∙◌, arith, length-drop}
use Rattle.disk_model.specs.Disk.{part}
use Rattle.gated_log.specs.Reader.{held, held_size}
use Rattle.gated_log.proofs.Reader.{on_both, filled}
use Rattle.gated_log.proofs.reading.LogReader.fill.Goals as goal

pub invariant_of-self-clause-read : goal.invariant_of-self-clause-read
invariant_of-self-clause-read g c =
    let self = c.args.self.now in
    let front : c.drop-drain.new.self.0.items ≡ drop self.taken self.window.items = c.drop-drain.ensures.items ∙ c.drain.ensures.kept in
    let size : vec_len c.drop-drain.new.self.0 ≡ vec_len self.window - self.taken =
    c.drop-drain.new.self.0.ok.0 ∙ ap (λ (l : List ℕ). length l) front ∙ length-drop self.taken self.window.items ∙ ap (λ (k : ℕ). k - self.taken) (sym self.window.ok.0) in
    omega (arith, size, c.read_behind.ensures.most, c.min-size.ensures, c.len-2.ensures, self.read)

pub returns-clause-untaken : goal.returns-clause-untaken
returns-clause-untaken g c log is told =
    let self = c.args.self.now in
    let image = g.D.Disk.bytes c.args.disk.now in
    let n = c.min-size.result in
    let front : c.drop-drain.new.self.0.items ≡ held self = c.drop-drain.ensures.items ∙ c.drain.ensures.kept in
    let size : vec_len c.drop-drain.new.self.0 ≡ held_size self =
    c.drop-drain.new.self.0.ok.0 ∙ ap (λ (l : List ℕ). length l) front ∙ length-drop self.taken self.window.items ∙ ap (λ (k : ℕ). k - self.taken) (sym self.window.ok.0) in
    let from : self.next + c.len-2.result ≡ self.next + held_size self = omega (arith, c.len-2.ensures, size) in
    let fits : self.next + held_size self + n ≤ self.room = omega (arith, self.read, c.min-size.ensures, from) in
    on_both c.read_behind.result _ _ _ (c.read_behind.ensures.bytes told) c.read_behind.ensures.len (λ read longer.
    filled log image self.at self.room self.next n (held_size self) (vec_len c.read_behind.new.buffer) (held self) c.read_behind.new.buffer.items (is told) fits (omega (arith, longer, size))
    (read ∙ ap (λ (l : List ℕ). l ++ part image (self.at + (self.next + c.len-2.result)) n) front ∙ ap (λ (k : ℕ). held self ++ part image (self.at + k) n) from))
