use Rattle.std.proofs.Common.{ℕ, ◌<◌, List, length, reverse, get_or, nat_cmp, sym, subst, arith}
use Rattle.std.specs.Prelude.{All, Contains}
use Rattle.std.specs.List.{AllByRecursion}
use Rattle.std.specs.List.Sorted.{IsStrictlySortedBy}
use Rattle.std.proofs.lemmas.List.{get_or_default}
use Rattle.std.proofs.lemmas.List.Elements.{All-from_recursion}
use Rattle.std.proofs.lemmas.Map.Keys.{sorted_from_strictly_increasing}
use Rattle.log_machine.specs.declared.UndoEntry.{UndoEntry}
use Rattle.log_machine.specs.Machine.{field_at}
use Rattle.volatile_area.specs.Area.{AreaState, starts_of}
use Rattle.stability_tracker.proofs.PromotionLaws.{promoted_start, promoted_increase}
use Rattle.graph_words.specs.Promotion.{Field, written_fields, words_in_fields, promoted_by}
use Rattle.graph_words.proofs.Area.Fields.{written_from_field}
use Rattle.object_tests.proofs.sealing_tests.promote.Goals as goal

-- the fields that writes wrote lie where these did
fields_below : (end : ℕ) (undo : List UndoEntry) → AllByRecursion (λ (u : UndoEntry). field_at u.object u.field < end) undo → All (λ f. field_at f.0 f.1 < end) (written_fields undo)
fields_below end undo below k d within =
    let all = All-from_recursion (λ (u : UndoEntry). field_at u.object u.field < end) undo below in
    let f : Field = get_or (written_fields undo) k d in
    let w = written_from_field undo f (k, within, get_or_default (written_fields undo) k f d within) in
    let here = subst (λ (v : UndoEntry). field_at v.object v.field < end) w.3 (all w.0 w.1 w.2) in
    omega (arith, here, w.4.0, w.4.1)

-- what is promoted stands in the area
promoted_there : (area : AreaState) (words : List ℕ) (undo : List UndoEntry) → All (Contains (starts_of area)) (promoted_by area words undo)
promoted_there area words undo k d within =
    let at = get_or (promoted_by area words undo) k d in
    promoted_start area (words_in_fields words (written_fields undo)) at (k, within, get_or_default (promoted_by area words undo) k at d within)

promoted_ascend : (area : AreaState) (words : List ℕ) (undo : List UndoEntry) → IsStrictlySortedBy nat_cmp (promoted_by area words undo)
promoted_ascend area words undo = sorted_from_strictly_increasing (promoted_by area words undo) (promoted_increase area (words_in_fields words (written_fields undo)))

pub new-requires : goal.new-requires
new-requires g c = record { inside = fields_below (length c.args.words.now) (reverse c.args.undo.now) c.requires }

pub records-requires-clause-inside : goal.records-requires-clause-inside
records-requires-clause-inside g c =
    subst (λ (fs : List Field). All (λ f. field_at f.0 f.1 < length c.args.words.now) fs) (sym c.in_ok-sealing.ensures.fields) (fields_below (length c.args.words.now) (reverse c.args.undo.now) c.requires)

pub records-requires-clause-there : goal.records-requires-clause-there
records-requires-clause-there g c =
    subst (λ (xs : List ℕ). All (Contains (starts_of c.args.area.now)) xs) (sym c.in_ok-sealing.ensures.objects) (promoted_there c.args.area.now c.args.words.now (reverse c.args.undo.now))

pub records-requires-clause-ascend : goal.records-requires-clause-ascend
records-requires-clause-ascend g c =
    subst (λ (xs : List ℕ). IsStrictlySortedBy nat_cmp xs) (sym c.in_ok-sealing.ensures.objects) (promoted_ascend c.args.area.now c.args.words.now (reverse c.args.undo.now))
