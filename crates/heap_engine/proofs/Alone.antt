-- The seal of a transaction that wrote no reference to an object of its own appends its Commit alone, and no other one does.
use Rattle.std.proofs.Common.{◌≡◌, ℕ, ◌+◌, Bool, cond, true, false, List, [], ◌∷◌, length, reverse, get_or, Option, None, Some, refl, sym, ap, ◌∙◌, subst, arith}
use Rattle.std.specs.Prelude.{◌↔◌, IsSome, IfSome, IsTrue, count_by, not, slice_index}
use Rattle.std.specs.List.{AllByRecursion, list_all}
use Rattle.std.proofs.lemmas.List.{get_or_default, reverse-reverse}
use Rattle.std.proofs.lemmas.List.Elements.{recursion_from_All, All-from_recursion}
use Rattle.std.proofs.lemmas.List.Sums.{sum_by-cons, AllPass-from_list_all, list_all-from_AllPass}
use Rattle.heap_words.specs.Word.{is_volatile}
use Rattle.log_records.specs.declared.Record.{Record}
use Rattle.log_records.specs.declared.Record.TheVariants.{Commit}
use Rattle.log_records.specs.Record.{spellings}
use Rattle.log_machine.specs.declared.UndoEntry.{UndoEntry}
use Rattle.log_machine.specs.Machine.{field_at}
use Rattle.log_machine.proofs.ListLaws.{AllByRecursion-reverse}
use Rattle.volatile_area.specs.Area.{AreaState}
use Rattle.graph_words.specs.Promotion.{Field, written_fields, seal_records}
use Rattle.graph_words.proofs.Area.Fields.{written_from_field, field_from_written, write_at}
use Rattle.graph_words.proofs.Promotion.Bytes.{is_volatile_in, length-seal_records}
use Rattle.graph_words.proofs.Promotion.Nothing.{AreSettled, seal_none, promoted_by_none}
use Rattle.std.specs.Prelude.{◌≤◌, nat_lt, if◌then◌else◌}
use Rattle.std.proofs.lemmas.Bool.Decides.{nat_tests}
use Rattle.gated_log.specs.LogState.{log_room, log_used, log_used_with, log_need, HasSpare}
use Rattle.graph_model.specs.Plain.{first_of_two}
use Rattle.graph_model.specs.declared.reply.Refusal.TheVariants.{Exhausted, LogFull}
use Rattle.heap_spaces.specs.Spaces.{free_words, open_words}
use Rattle.log_machine.specs.Machine.{end_bytes}
use Rattle.logged_pages.specs.State.{log_of, pages_in_memory}
use Rattle.stability_tracker.specs.Promotion.{need}
use Rattle.txn_table.specs.Table.{TransactionState, transaction_of}
use Rattle.heap_memory.specs.Memory.{Memory}
use Rattle.heap_memory.specs.Refusals.{no_room, sealing_records, sealing_need, space_refusal, reserved_without, seal_refusal_of, seal_refusal}
use Rattle.heap_engine.specs.declared.engine.Engine.{Engine}
use Rattle.heap_engine.specs.EngineState.{memory}
use Rattle.heap_engine.specs.Ending.{is_settled, SealsAlone}
use Rattle.heap_engine.proofs.Room.{used_with_need, need_little}
use Rattle.heap_engine.proofs.Tables.{kept_own}

off : (b : Bool) → not b ≡ true → b ≡ false
off true is = absurd (cc is)
off false is = refl

settled_fields : (words : List ℕ) (undo : List UndoEntry) → AllByRecursion (λ (u : UndoEntry). is_settled words u ≡ true) undo → AreSettled words (written_fields undo)
settled_fields words undo all f has =
    let w = write_at (λ (u : UndoEntry). is_settled words u ≡ true) undo f.0 f.1 all (written_from_field undo f has) in
    sym (λ i. is_volatile (slice_index words (field_at (w.2 i) (w.3 i)))) ∙ off (is_volatile (slice_index words (field_at w.0.object w.0.field))) w.1

settled_writes : (words : List ℕ) (undo : List UndoEntry) → AreSettled words (written_fields undo) → AllByRecursion (λ (u : UndoEntry). is_settled words u ≡ true) undo
settled_writes words undo settled = recursion_from_All (λ (u : UndoEntry). is_settled words u ≡ true) undo (λ k d within.
    let u : UndoEntry = get_or undo k d in
    ap not (settled (u.object, u.field) (field_from_written undo u.object u.field (k, u, within, get_or_default undo k u d within, (refl, refl)))))

one_less : (b : Bool) (n : ℕ) → cond b 1 0 + n ≡ 0 → (b ≡ false) × (n ≡ 0)
one_less true n is = absurd (omega arith)
one_less false n is = (refl, omega (arith, is))

none_counted : (words : List ℕ) (fs : List Field) → count_by (is_volatile_in words) fs ≡ 0 → AllByRecursion (λ (f : Field). is_volatile_in words f ≡ false) fs
none_counted words [] none = tt
none_counted words (f ∷ fs) none =
    let more = sum_by-cons (λ (h : Field). cond (is_volatile_in words h) 1 0) f fs in
    let both = one_less (is_volatile_in words f) (count_by (is_volatile_in words) fs) (sym more ∙ none) in
    (both.0, none_counted words fs both.1)

pub alone_settled : (area : AreaState) (words : List ℕ) (undo : List UndoEntry) (address : ℕ) → seal_records area words undo address ≡ Commit area.transaction ∷ [] → AreSettled words (written_fields undo)
alone_settled area words undo address is f has =
    let bytes = length-seal_records area words undo address in
    let five : length (spellings (seal_records area words undo address)) ≡ 5 = ap (λ (rs : List Record). length (spellings rs)) is in
    let none : count_by (is_volatile_in words) (written_fields undo) ≡ 0 = omega (arith, bytes, five) in
    let P = λ (g : Field). is_volatile_in words g ≡ false in
    let all = All-from_recursion P (written_fields undo) (none_counted words (written_fields undo) none) has.0 f has.1 in
    subst P has.2 all

-- what the writes say, of which the newest stands last
pub alone_is : (area : AreaState) (words : List ℕ) (us undo : List UndoEntry) (address : ℕ) → reverse us ≡ undo
    → IsTrue (list_all (is_settled words) us) ↔ (seal_records area words undo address ≡ Commit area.transaction ∷ [])
alone_is area words us undo address is =
    let P = λ (u : UndoEntry). is_settled words u ≡ true in (
      λ yes.
          let each = AllByRecursion-reverse P us (recursion_from_All P us (AllPass-from_list_all (is_settled words) us yes)) in
          seal_none area words undo address (settled_fields words undo (subst (AllByRecursion P) is each)),
      λ alone.
          let each = AllByRecursion-reverse P undo (settled_writes words undo (alone_settled area words undo address alone)) in
          let back : reverse undo ≡ us = ap reverse (sym is) ∙ reverse-reverse us in
          list_all-from_AllPass (is_settled words) us (All-from_recursion P us (subst (AllByRecursion P) back each)),
    )

-- A transaction, as it is seen.
pub alone_told : (m : Memory) (o : Option TransactionState) (b : Bool) (words : List ℕ) (us : List UndoEntry) → IsSome o → IfSome o (λ t. reverse us ≡ t.undo) → words ≡ m.words → b ≡ list_all (is_settled words) us
    → IsTrue b ↔ SealsAlone m o
alone_told m None b words us some undo is told = absurd (cc some)
alone_told m (Some t) b words us some undo is told =
    let both = alone_is t.area m.words us t.undo (m.spaces.base + m.spaces.used) undo in
    let same : b ≡ list_all (is_settled m.words) us = told ∙ ap (λ (ws : List ℕ). list_all (is_settled ws) us) is in
    (λ yes. both.0 (sym same ∙ yes), λ alone. same ∙ both.1 alone)

-- it takes no words
pub alone_need : (m : Memory) (t : TransactionState) → SealsAlone m (Some t) → sealing_need m t ≡ 0
alone_need m t alone = ap (need t.area) (promoted_by_none t.area m.words t.undo (alone_settled t.area m.words t.undo (m.spaces.base + m.spaces.used) alone))

not_less : (a b : ℕ) → b ≤ a → nat_lt a b ≡ false
not_less a b le = grind (arith, nat_tests)

alone_bytes : (m : Memory) (t : TransactionState) → SealsAlone m (Some t) → length (spellings (sealing_records m t)) ≡ 5
alone_bytes m t alone = ap (λ (rs : List Record). length (spellings rs)) alone

module _ (e : Engine) (s : ℕ) (t : TransactionState) (is : transaction_of e.table s ≡ Some t) where
  own : end_bytes (length t.undo) ≤ e.reserved
  own = kept_own e.table (length (pages_in_memory e.pages).words) e.reserved e.sealed s t e.sound is

  -- the log has room for its Commit, and for what ends the others
  pub alone_room : log_used_with (log_of e.pages) 5 + reserved_without e.table t ≤ log_room (log_of e.pages)
  alone_room = omega (arith, own, e.room, e.sound.kept, used_with_need (log_of e.pages) 5, need_little (log_of e.pages) 5)

  -- and the memory
  pub alone_spare : HasSpare (log_of e.pages) (5 + reserved_without e.table t)
  alone_spare = omega (arith, own, e.spare, e.sound.kept)

  no_refusal : SealsAlone (memory e) (Some t) → seal_refusal_of (memory e) (Some t) ≡ None
  no_refusal alone =
      let space : space_refusal e.spaces (sealing_need (memory e) t) ≡ None =
      ap (space_refusal e.spaces) (alone_need (memory e) t alone) ∙ ap (λ b. if b then Some (Exhausted 0 (free_words e.spaces) e.spaces.owed) else None) (not_less (open_words e.spaces) 0 (omega arith)) in
      let five = alone_bytes (memory e) t alone in
      let fits : log_used (log_of e.pages) + log_need (log_of e.pages) 5 + reserved_without e.table t ≤ log_room (log_of e.pages) = omega (arith, own, e.room, e.sound.kept, need_little (log_of e.pages) 5) in
      let log : no_room (log_of e.pages) (log_need (log_of e.pages) 5) (reserved_without e.table t) ≡ None =
      ap (λ b. if b then Some (LogFull (log_used (log_of e.pages)) (log_need (log_of e.pages) 5) (reserved_without e.table t)) else None) (not_less (log_room (log_of e.pages)) (log_used (log_of e.pages) + log_need (log_of e.pages) 5 + reserved_without e.table t) fits) in
      (λ i. first_of_two (space i) (no_room (log_of e.pages) (log_need (log_of e.pages) (five i)) (reserved_without e.table t))) ∙ log

  -- so it is granted
  pub alone_granted : SealsAlone (memory e) (transaction_of e.table s) → seal_refusal (memory e) s ≡ None
  alone_granted alone = ap (seal_refusal_of (memory e)) is ∙ no_refusal (subst (SealsAlone (memory e)) is alone)
