use Rattle.std.proofs.Common.{ℕ, ◌+◌, ◌<◌, ◌≤◌, List, Ok, Some, length, get_or, eqb, refl, sym, ◌∙◌, ap, subst, arith}
use Rattle.std.specs.Prelude.{if◌then◌else◌}
use Rattle.disk_model.proofs.MomentLaws.{weaker}
use Rattle.gate_slot.specs.Passing.{Passes}
use Rattle.page_store.specs.Frame.{spare}
use Rattle.page_store.specs.Page.{frame_of, frame_place, page_lsn, page_frame, HasPage, SameButPage}
use Rattle.page_store.specs.Gates.{open_gates}
use Rattle.page_store.proofs.GateLaws.{other_gates}
use Rattle.page_store.proofs.PageLaws.{other_pages}
use Rattle.page_store.specs.StoreState.{store_log, stored_frame}
use Rattle.page_store.proofs.Storing.{is_stored_image, left_by, written_has, written_outside, written_page, written_frame, written_gates, knows_stored}
use Rattle.page_store.proofs.store.PageStore.store.Goals as goal

pub returns-clause-outside : goal.returns-clause-outside
returns-clause-outside g c told =
    let store = c.args.self.now in
    let image = g.D.Disk.bytes c.args.disk.now in
    let frame = spare (stored_frame store c.args.p) in
    let fits : frame_place (store_log store) c.args.p frame + 528 ≤ length image = omega (arith, g.met.D.Disk.same_size told c.args.disk.now image (g.met.D.Disk.reads_an_image told c.args.disk.now), c.requires.inside, c.spare-frame.ensures.inside, c.spare-frame.ensures.place) in
    let is = is_stored_image (store_log store) c.args.p frame image fits c.args.lsn c.args.words.now c.told-words _ _ _ c.spare-frame.ensures.place c.body_of.ensures (c.in_ok-refill.ensures.written told) in
    subst (λ (l : List ℕ). SameButPage (store_log store) c.args.p image l) (sym is) (written_outside (store_log store) c.args.p frame image fits c.args.lsn c.args.words.now c.told-words)

pub returns-clause-others : goal.returns-clause-others
returns-clause-others g c told q apart = other_pages c.args.self.now.plan.log_bytes c.args.p (g.D.Disk.bytes c.args.disk.now) _ (returns-clause-outside g c told) q apart

pub returns-clause-written : goal.returns-clause-written
returns-clause-written g c told =
    let store = c.args.self.now in
    let image = g.D.Disk.bytes c.args.disk.now in
    let frame = spare (stored_frame store c.args.p) in
    let fits : frame_place (store_log store) c.args.p frame + 528 ≤ length image = omega (arith, g.met.D.Disk.same_size told c.args.disk.now image (g.met.D.Disk.reads_an_image told c.args.disk.now), c.requires.inside, c.spare-frame.ensures.inside, c.spare-frame.ensures.place) in
    let is = is_stored_image (store_log store) c.args.p frame image fits c.args.lsn c.args.words.now c.told-words _ _ _ c.spare-frame.ensures.place c.body_of.ensures (c.in_ok-refill.ensures.written told) in
    ap (λ (l : List ℕ). frame_of (store_log store) c.args.p l frame) is ∙ written_has (store_log store) c.args.p frame image fits c.args.lsn c.args.words.now c.told-words

pub returns-clause-stored : goal.returns-clause-stored
returns-clause-stored g c told knows =
    let store = c.args.self.now in
    let image = g.D.Disk.bytes c.args.disk.now in
    let frame = spare (stored_frame store c.args.p) in
    let fits : frame_place (store_log store) c.args.p frame + 528 ≤ length image = omega (arith, g.met.D.Disk.same_size told c.args.disk.now image (g.met.D.Disk.reads_an_image told c.args.disk.now), c.requires.inside, c.spare-frame.ensures.inside, c.spare-frame.ensures.place) in
    let is = is_stored_image (store_log store) c.args.p frame image fits c.args.lsn c.args.words.now c.told-words _ _ _ c.spare-frame.ensures.place c.body_of.ensures (c.in_ok-refill.ensures.written told) in
    let greater : page_lsn (store_log store) c.args.p image < c.args.lsn = subst (λ (n : ℕ). n < c.args.lsn) (knows.lsns c.args.p c.requires.page) c.requires.newer in
    subst (λ (l : List ℕ). HasPage (store_log store) c.args.p c.args.lsn c.args.words.now l) (sym is)
    (written_page (store_log store) c.args.p frame image fits c.args.lsn c.args.words.now c.told-words (ap spare (knows.frames c.args.p c.requires.page)) c.ranges.lsn.fits greater c.fits-words)

pub returns-clause-gates : goal.returns-clause-gates
returns-clause-gates g c told knows =
    let store = c.args.self.now in
    let image = g.D.Disk.bytes c.args.disk.now in
    let frame = spare (stored_frame store c.args.p) in
    let fits : frame_place (store_log store) c.args.p frame + 528 ≤ length image = omega (arith, g.met.D.Disk.same_size told c.args.disk.now image (g.met.D.Disk.reads_an_image told c.args.disk.now), c.requires.inside, c.spare-frame.ensures.inside, c.spare-frame.ensures.place) in
    let is = is_stored_image (store_log store) c.args.p frame image fits c.args.lsn c.args.words.now c.told-words _ _ _ c.spare-frame.ensures.place c.body_of.ensures (c.in_ok-refill.ensures.written told) in
    ap (λ (l : List ℕ). open_gates (store_log store) l c.args.p) is ∙ written_gates (store_log store) c.args.p frame image fits c.args.lsn c.args.words.now c.told-words (ap spare (knows.frames c.args.p c.requires.page))

pub returns-clause-other_gates : goal.returns-clause-other_gates
returns-clause-other_gates g c told q apart = other_gates c.args.self.now.plan.log_bytes c.args.p (g.D.Disk.bytes c.args.disk.now) _ (returns-clause-outside g c told) q apart

pub returns-clause-known : goal.returns-clause-known
returns-clause-known g c told knows =
    let store = c.args.self.now in
    let image = g.D.Disk.bytes c.args.disk.now in
    let frame = spare (stored_frame store c.args.p) in
    let fits : frame_place (store_log store) c.args.p frame + 528 ≤ length image = omega (arith, g.met.D.Disk.same_size told c.args.disk.now image (g.met.D.Disk.reads_an_image told c.args.disk.now), c.requires.inside, c.spare-frame.ensures.inside, c.spare-frame.ensures.place) in
    let is = is_stored_image (store_log store) c.args.p frame image fits c.args.lsn c.args.words.now c.told-words _ _ _ c.spare-frame.ensures.place c.body_of.ensures (c.in_ok-refill.ensures.written told) in
    let greater : page_lsn (store_log store) c.args.p image < c.args.lsn = subst (λ (n : ℕ). n < c.args.lsn) (knows.lsns c.args.p c.requires.page) c.requires.newer in
    let counts = written_frame (store_log store) c.args.p frame image fits c.args.lsn c.args.words.now c.told-words (ap spare (knows.frames c.args.p c.requires.page)) c.ranges.lsn.fits greater c.fits-words in
    let inside : c.args.p < length store.table.items = omega (arith, store.whole, store.table.ok.0, c.requires.page) in
    knows_stored store _ c.args.p c.args.lsn c.spare-frame.result.0 image _ knows refl refl inside (returns-clause-stored g c told knows).lsn_is
    (ap (page_frame (store_log store) c.args.p) is ∙ counts ∙ ap (λ f. Some f) (sym c.spare-frame.ensures.frame)) (returns-clause-outside g c told)

pub returns-clause-moments : goal.returns-clause-moments
returns-clause-moments g c told knows only =
    let store = c.args.self.now in
    let image = g.D.Disk.bytes c.args.disk.now in
    let frame = spare (stored_frame store c.args.p) in
    let fits : frame_place (store_log store) c.args.p frame + 528 ≤ length image = omega (arith, g.met.D.Disk.same_size told c.args.disk.now image (g.met.D.Disk.reads_an_image told c.args.disk.now), c.requires.inside, c.spare-frame.ensures.inside, c.spare-frame.ensures.place) in
    let greater : page_lsn (store_log store) c.args.p image < c.args.lsn = subst (λ (n : ℕ). n < c.args.lsn) (knows.lsns c.args.p c.requires.page) c.requires.newer in
    weaker g.D.Disk.moment g.D.Disk.left_since c.args.disk.now c.refill.new.disk _ _ (c.refill.ensures.moments told only)
    (λ left refilling. left_by (store_log store) c.args.p frame image fits c.args.lsn c.args.words.now c.told-words (ap spare (knows.frames c.args.p c.requires.page)) c.ranges.lsn.fits greater c.fits-words _ _ left c.spare-frame.ensures.place c.body_of.ensures refilling)

pub returns-in_err-refill-clause-moments : goal.returns-in_err-refill-clause-moments
returns-in_err-refill-clause-moments g c told knows only =
    let store = c.args.self.now in
    let image = g.D.Disk.bytes c.args.disk.now in
    let frame = spare (stored_frame store c.args.p) in
    let fits : frame_place (store_log store) c.args.p frame + 528 ≤ length image = omega (arith, g.met.D.Disk.same_size told c.args.disk.now image (g.met.D.Disk.reads_an_image told c.args.disk.now), c.requires.inside, c.spare-frame.ensures.inside, c.spare-frame.ensures.place) in
    let greater : page_lsn (store_log store) c.args.p image < c.args.lsn = subst (λ (n : ℕ). n < c.args.lsn) (knows.lsns c.args.p c.requires.page) c.requires.newer in
    weaker g.D.Disk.moment g.D.Disk.left_since c.args.disk.now c.refill.new.disk _ _ (c.refill.ensures.moments told only)
    (λ left refilling. left_by (store_log store) c.args.p frame image fits c.args.lsn c.args.words.now c.told-words (ap spare (knows.frames c.args.p c.requires.page)) c.ranges.lsn.fits greater c.fits-words _ _ left c.spare-frame.ensures.place c.body_of.ensures refilling)

pub returns-clause-passes : goal.returns-clause-passes
returns-clause-passes g c told =
    subst (λ (k : ℕ). Passes (if eqb (get_or (g.D.Disk.bytes c.args.disk.now) k 0) 1 then 6 else 4) (g.D.Disk.passed c.args.disk.now) (g.D.Disk.passed c.refill.new.disk) (Ok tt)) c.spare-frame.ensures.place (c.in_ok-refill.ensures.passes told)
