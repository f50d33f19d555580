-- A seal among other active transactions: its records, which are those of the core, and the room that it has.
use Rattle.std.proofs.Common.{◌≡◌, ℕ, ◌+◌, ◌-◌, ◌*◌, ◌≤◌, Bool, true, false, cond, inl, List, [], ◌∷◌, length, Option, Some, None, refl, sym, ap, ◌∙◌, subst, arith}
use Rattle.std.specs.Prelude.{fold}
use Rattle.std.proofs.lemmas.Bool.{ltb-false}
use Rattle.graph_model.specs.declared.reply.Refusal.{Refusal}
use Rattle.graph_model.specs.declared.reply.Refusal.TheVariants.{Exhausted}
use Rattle.std.proofs.lemmas.List.Sums.{fold-append}
use Rattle.log_records.specs.declared.Record.TheVariants.{Commit}
use Rattle.graph_model.specs.Transaction.{Transaction, View}
use Rattle.graph_model.specs.History.{Account}
use Rattle.graph_model.specs.Plain.{view}
use Rattle.commit_order.specs.Heard.{Heard}
use Rattle.commit_order.proofs.OrderLaws.{IsOrdered}
use Rattle.log_records.specs.declared.Record.{Record}
use Rattle.log_machine.specs.declared.UndoEntry.{UndoEntry}
use Rattle.log_machine.specs.Apart.{others_taken_back}
use Rattle.log_machine.proofs.ListLaws.{AllByRecursion-map}
use Rattle.log_machine.specs.Machine.{State, start, owed, words_in, undo_of, put_record, field_at}
use Rattle.log_machine.proofs.StateLaws.{leads_after_all, spaced_more}
use Rattle.volatile_area.specs.Area.{AreaState}
use Rattle.graph_words.specs.Places.{Places}
use Rattle.graph_words.specs.Promotion.{Field, promoted_need, moves_of, seal_records, promotion_records, promoted_places, written_fields}
use Rattle.graph_words.proofs.Promotion.Alike.{AgreeIn, need_same, moves_same, records_same}
use Rattle.graph_words.proofs.Promotion.Sealed.{sealed_state}
use Rattle.heap_model.specs.Core.{Core, Ground, ground, all_records, all_words, area_in, seal_moves, seal_of, seal_need, space_refusal}
use Rattle.heap_model.proofs.Step.Goes.{told_sound}
use Rattle.core_laws.proofs.Sessions.Apart.{own_away}
use Rattle.core_laws.proofs.Step.Goes.{words_with}
use Rattle.core_laws.proofs.Sessions.OtherWrites.{IsAway, length-others, others_at}
use Rattle.core_laws.proofs.Seal.Words.{WriteAt, fields_written, promotion_writes, free_away}
use Rattle.core_laws.specs.Valid.{Agrees}

refused_or_not : (b : Bool) (why : Refusal) → cond b (Some why) None ≡ None → b ≡ false
refused_or_not true why e = cc
refused_or_not false why e = refl

space_fits : (s : State) (n : ℕ) → space_refusal (Some s) n ≡ None → n ≤ 64 * s.pages - s.used - owed s
space_fits s n e = let room = ltb-false (64 * s.pages - s.used - owed s) n (refused_or_not _ (Exhausted n (64 * s.pages - s.used) (owed s)) e) in omega arith

module _ (a : Account) (c : Core) (h : Agrees a c) {numbers : List ℕ} {heard : Heard} (o : IsOrdered c.g0 numbers a heard) (s : ℕ) (t : Transaction) (e : a.active s ≡ Some t) where
  -- what the transaction sees
  abbrev pub seen : View
  seen = view c.g0 a t

  -- its area
  abbrev pub own_area : AreaState
  own_area = area_in c.places seen t.number

  -- its writes that may be taken back
  abbrev pub own_undo : List UndoEntry
  own_undo = undo_of h.behind t.number

  -- all words
  abbrev pub now : List ℕ
  now = all_words c

  -- the words as it sees them
  abbrev pub own_words : List ℕ
  own_words = others_taken_back h.behind t.number now

  -- the address of the next free word
  abbrev pub next_free : ℕ
  next_free = h.behind.base + h.behind.used

  -- as many words as the promotion needs
  abbrev pub asked : ℕ
  asked = promoted_need own_area own_words own_undo

  -- the records of the promotion
  abbrev pub promotion : List Record
  promotion = promotion_records own_area own_words own_undo next_free

  -- those of the seal
  abbrev pub records : List Record
  records = seal_records own_area own_words own_undo next_free

  -- the places of what it promotes
  abbrev pub placed : Places
  placed = promoted_places own_area (moves_of own_area own_words own_undo next_free)

  -- the state after the seal
  abbrev pub last : State
  last = sealed_state h.behind t.number asked

  known : Ground
  known = record { places = c.places; remaining = c.remaining; words = now; state = Some h.behind }

  where_known : ground c ≡ known
  unfolding known
  where_known = ap (λ (x : Option State). record { places = c.places; remaining = c.remaining; words = now; state = x }) h.told.reached

  -- all words are like those that it sees in the fields that it wrote
  agree : AgreeIn own_words now (written_fields own_undo)
  agree =
      let Away : Field → Type 0 = λ f. IsAway h.behind t.number (field_at f.0 f.1) in
      AllByRecursion-map Away (λ f. _) (written_fields own_undo) (λ f away. inl (sym (others_at h.behind t.number now (field_at f.0 f.1) away)))
      (fields_written (IsAway h.behind t.number) own_undo (own_away a c h o s t e))

  -- so the core's records of a seal are these
  pub seal_is : seal_of (ground c) t.number seen ≡ records
  unfolding known
  seal_is = ap (λ (g : Ground). seal_of g t.number seen) where_known ∙ records_same own_area own_words now own_undo agree next_free

  -- and its places
  pub places_are : promoted_places own_area (seal_moves (ground c) t.number seen) ≡ placed
  unfolding known
  places_are = ap (λ (g : Ground). promoted_places own_area (seal_moves g t.number seen)) where_known ∙ ap (promoted_places own_area) (moves_same own_area own_words now own_undo agree next_free)

  -- the records write no word that others have written
  pub promotion_away : WriteAt (IsAway h.behind t.number) promotion
  promotion_away = promotion_writes (IsAway h.behind t.number) own_area own_words own_undo next_free (λ x above. free_away h.behind t.number x (told_sound h.told) above) (own_away a c h o s t e)

  -- The seal.
  -- the seal has room
  abbrev pub HasSpace : Type 0
  HasSpace = space_refusal (ground c).state (seal_need (ground c) t.number seen) ≡ None

  module _ (space : HasSpace) where
    -- what it promotes fits beside all that is owed
    pub fits : asked ≤ 64 * h.behind.pages - h.behind.used - owed h.behind
    unfolding known
    fits =
        let here = subst (λ (g : Ground). space_refusal g.state (seal_need g t.number seen) ≡ None) where_known space in
        let few = space_fits h.behind (promoted_need own_area now own_undo) here in
        omega (arith, need_same own_area own_words now own_undo agree)

    pub same_pages : h.behind.pages ≡ c.pages
    same_pages = (leads_after_all (start c.pages c.first_number) h.behind (all_records c) h.told.reached).pages

    -- the used words, and those that are owed, are words of the space
    inside : h.behind.used + owed h.behind ≤ 64 * h.behind.pages
    inside = h.told.heap.spaced.room

    -- so is what it promotes
    pub ends : h.behind.base + h.behind.used + asked ≤ words_in h.behind.pages
    ends = spaced_more h.behind asked h.told.heap.spaced (omega (arith, fits, inside))

    -- and words for what it promotes
    pub room : next_free + asked ≤ length own_words
    room = omega (arith, ends, h.told.heap.long, length-others h.behind t.number now)

    -- all words are those with the promotion
    pub words_behind : words_with c records ≡ fold put_record now promotion
    words_behind = fold-append put_record now promotion (Commit t.number ∷ [])
