-- The object ends within the words.
use Rattle.std.proofs.Common.{◌≡◌, ◌+◌, ◌-◌, take, drop, ◌∙◌, ap, sym, arith}
use Rattle.std.proofs.lemmas.List.Elements.{All-same}
use Rattle.heap_words.specs.Word.{IsFieldWord}
use Rattle.object_layout.specs.Layout.{field_words}
use Rattle.object_layout.proofs.ObjectLaws.{field_words_at}
use Rattle.volatile_area.specs.Area.{AreaState, area_of}
use Rattle.volatile_area.proofs.Kept.{stands_at, fields_meant}
use Rattle.volatile_area.proofs.area.Area.fields.Goals as goal

pub overflow_add-from : goal.overflow_add-from
overflow_add-from c =
    let kept = c.self.inside in
    let within = (stands_at kept.starts.items (area_of kept.transaction kept.starts.items kept.words.items) c.args.self.now c.args.object c.self.invariant c.self.view_is c.requires).within in
    let few = c.self.invariant.sound.few in
    omega arith

pub returns-clause-meant : goal.returns-clause-meant
returns-clause-meant c =
    let kept = c.self.inside in
    let now = c.args.self.now in
    let at = c.args.object in
    let n = c.length.result in
    let long : at + 2 + n - (at + 2) ≡ n = omega arith in
    let run : take (at + 2 + n - (at + 2)) (drop (at + 2) c.as_slice-words.result.now) ≡ field_words now.words at =
    ap (λ k. take k (drop (at + 2) c.as_slice-words.result.now)) long
    ∙ ap (λ ws. take n (drop (at + 2) ws)) (c.as_slice-words.ensures.value ∙ ap (λ (area : AreaState). area.words) c.self.view_is)
    ∙ sym (field_words_at now.words at n c.length.ensures.object) in
    All-same IsFieldWord _ (field_words now.words at) run (fields_meant kept.starts.items (area_of kept.transaction kept.starts.items kept.words.items) now at c.self.invariant c.self.view_is c.requires)
