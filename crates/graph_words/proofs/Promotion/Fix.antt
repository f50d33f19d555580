-- Laws of the fields that a seal puts right: which words they leave.
use Rattle.std.proofs.Common.{◌≡◌, ◌≢◌, ℕ, ◌<◌, inl, inr, Bool, true, false, List, [], ◌∷◌, length, drop, get_or, Option, None, Some, refl, sym, ap, ◌∙◌, arith}
use Rattle.std.specs.Prelude.{fold, Contains, slice_index}
use Rattle.std.specs.List.{flat_map}
use Rattle.std.proofs.lemmas.Bool.{cases_eq}
use Rattle.std.proofs.lemmas.List.{length-set, get_or-set_same, get_or-set_other, drop-set-lt}
use Rattle.std.proofs.lemmas.List.Sums.{fold-append}
use Rattle.heap_words.specs.declared.Word.{Word}
use Rattle.heap_words.specs.declared.Word.TheVariants.{Null, Int, Stable, Volatile}
use Rattle.heap_words.specs.Word.{meaning, is_volatile, refers_to_volatile}
use Rattle.log_records.specs.declared.Record.{Record}
use Rattle.log_machine.specs.Machine.{put_record, field_at}
use Rattle.object_layout.proofs.WalkLaws.{Contains-head, Contains-rest, Contains-none, Contains-cases}
use Rattle.graph_words.specs.Promotion.{Field, Move, moved_word, fix_meant, fix_of}

-- the record of a field puts a word there alone: the one after the move
record PutsRight (words now : List ℕ) (moves : List Move) (f : Field) (next : List ℕ) : Type 0 where
  same : length next ≡ length now
  there : field_at f.0 f.1 < length now → is_volatile (slice_index words (field_at f.0 f.1)) ≡ true → get_or next (field_at f.0 f.1) 0 ≡ moved_word moves (slice_index words (field_at f.0 f.1))
  beside : (x : ℕ) → field_at f.0 f.1 ≢ x → get_or next x 0 ≡ get_or now x 0
  plain : is_volatile (slice_index words (field_at f.0 f.1)) ≡ false → next ≡ now
  behind : (x : ℕ) → field_at f.0 f.1 < x → drop x next ≡ drop x now

nothing_put : (t : ℕ) (words now : List ℕ) (moves : List Move) (f : Field) → is_volatile (slice_index words (field_at f.0 f.1)) ≡ false → PutsRight words now moves f now
nothing_put t words now moves f other = record {
  same = refl;
  there = λ within is. cc;
  beside = λ x apart. refl;
  plain = λ is. refl;
  behind = λ x below. refl;
}

put_right_meant : (t : ℕ) (words now : List ℕ) (moves : List Move) (f : Field) (meant : Option Word) → meaning (slice_index words (field_at f.0 f.1)) ≡ meant
    → PutsRight words now moves f (fold put_record now (fix_meant t moves f (slice_index words (field_at f.0 f.1)) meant))
put_right_meant t words now moves f None is = nothing_put t words now moves f (ap refers_to_volatile is)
put_right_meant t words now moves f (Some Null) is = nothing_put t words now moves f (ap refers_to_volatile is)
put_right_meant t words now moves f (Some (Int n)) is = nothing_put t words now moves f (ap refers_to_volatile is)
put_right_meant t words now moves f (Some (Stable a)) is = nothing_put t words now moves f (ap refers_to_volatile is)
put_right_meant t words now moves f (Some (Volatile at)) is =
    let place = field_at f.0 f.1 in
    let word = moved_word moves (slice_index words place) in
    record {
      same = length-set now place word;
      there = λ within volatile. get_or-set_same now place word 0 within;
      beside = λ x apart. get_or-set_other now place x word 0 (λ same. apart (sym same));
      plain = λ no. absurd (cc (no, ap refers_to_volatile is));
      behind = λ x below. drop-set-lt x now place word below;
    }

put_right : (t : ℕ) (words now : List ℕ) (moves : List Move) (f : Field) → PutsRight words now moves f (fold put_record now (fix_of t words moves f))
put_right t words now moves f = put_right_meant t words now moves f (meaning (slice_index words (field_at f.0 f.1))) refl

-- the records that put these fields right
abbrev pub fixes : ℕ → List ℕ → List Move → List Field → List Record
fixes t words moves fields = flat_map (fix_of t words moves) fields

fixes_more : (t : ℕ) (words now : List ℕ) (moves : List Move) (f : Field) (fs : List Field)
    → fold put_record now (fixes t words moves (f ∷ fs)) ≡ fold put_record (fold put_record now (fix_of t words moves f)) (fixes t words moves fs)
fixes_more t words now moves f fs = fold-append put_record now (fix_of t words moves f) (fixes t words moves fs)

-- they put words into these fields alone
pub fixes_beside : (t : ℕ) (words now : List ℕ) (moves : List Move) (fs : List Field) (x : ℕ) → ((f : Field) → Contains fs f → field_at f.0 f.1 ≢ x)
    → get_or (fold put_record now (fixes t words moves fs)) x 0 ≡ get_or now x 0
fixes_beside t words now moves [] x apart = refl
fixes_beside t words now moves (f ∷ fs) x apart =
    let step = put_right t words now moves f in
    ap (λ ws. get_or ws x 0) (fixes_more t words now moves f fs)
    ∙ fixes_beside t words (fold put_record now (fix_of t words moves f)) moves fs x (λ g has. apart g (Contains-rest f fs g has))
    ∙ step.beside x (apart f (Contains-head f fs))

-- the words past them stay
pub fixes_behind : (t : ℕ) (words now : List ℕ) (moves : List Move) (fs : List Field) (x : ℕ) → ((f : Field) → Contains fs f → field_at f.0 f.1 < x)
    → drop x (fold put_record now (fixes t words moves fs)) ≡ drop x now
fixes_behind t words now moves [] x below = refl
fixes_behind t words now moves (f ∷ fs) x below =
    let step = put_right t words now moves f in
    ap (drop x) (fixes_more t words now moves f fs)
    ∙ fixes_behind t words (fold put_record now (fix_of t words moves f)) moves fs x (λ g has. below g (Contains-rest f fs g has))
    ∙ step.behind x (below f (Contains-head f fs))

right_step : (t : ℕ) (words now : List ℕ) (moves : List Move) (f : Field) (x : ℕ) (volatile : Bool) → is_volatile (slice_index words (field_at f.0 f.1)) ≡ volatile → x < length now
    → get_or now x 0 ≡ moved_word moves (slice_index words x) → get_or (fold put_record now (fix_of t words moves f)) x 0 ≡ moved_word moves (slice_index words x)
right_step t words now moves f x false is within right = ap (λ ws. get_or ws x 0) ((put_right t words now moves f).plain is) ∙ right
right_step t words now moves f x true is within right =
    let step = put_right t words now moves f in
    elim (cases_eq (field_at f.0 f.1) x) [
      | inl here ↦
          ap (λ y. get_or (fold put_record now (fix_of t words moves f)) y 0) (sym here) ∙ step.there (omega arith) is ∙ ap (λ y. moved_word moves (slice_index words y)) here
      | inr apart ↦ step.beside x apart ∙ right
    ]

-- a word that is right stays
pub fixes_right : (t : ℕ) (words now : List ℕ) (moves : List Move) (fs : List Field) (x : ℕ) → x < length now → get_or now x 0 ≡ moved_word moves (slice_index words x)
    → get_or (fold put_record now (fixes t words moves fs)) x 0 ≡ moved_word moves (slice_index words x)
fixes_right t words now moves [] x within right = right
fixes_right t words now moves (f ∷ fs) x within right =
    let next = fold put_record now (fix_of t words moves f) in
    let same = (put_right t words now moves f).same in
    ap (λ ws. get_or ws x 0) (fixes_more t words now moves f fs)
    ∙ fixes_right t words next moves fs x (omega arith) (right_step t words now moves f x (is_volatile (slice_index words (field_at f.0 f.1))) refl within right)

-- a word that refers to an object of the area is put right, if it stands in one of these fields
pub fixes_at : (t : ℕ) (words now : List ℕ) (moves : List Move) (fs : List Field) (f : Field) → Contains fs f → field_at f.0 f.1 < length now
    → is_volatile (slice_index words (field_at f.0 f.1)) ≡ true
    → get_or (fold put_record now (fixes t words moves fs)) (field_at f.0 f.1) 0 ≡ moved_word moves (slice_index words (field_at f.0 f.1))
fixes_at t words now moves [] f has within volatile = absurd (Contains-none f has)
fixes_at t words now moves (g ∷ fs) f has within volatile =
    let next = fold put_record now (fix_of t words moves g) in
    let step = put_right t words now moves g in
    let same = step.same in
    ap (λ ws. get_or ws (field_at f.0 f.1) 0) (fixes_more t words now moves g fs)
    ∙ elim (Contains-cases g fs f has) [
      | inl here ↦
          let at : field_at g.0 g.1 ≡ field_at f.0 f.1 = ap (λ (x : Field). field_at x.0 x.1) here in
          let right : get_or next (field_at f.0 f.1) 0 ≡ moved_word moves (slice_index words (field_at f.0 f.1)) =
          ap (λ y. get_or next y 0) (sym at) ∙ step.there (omega arith) (ap (λ x. is_volatile (slice_index words x)) at ∙ volatile) ∙ ap (λ x. moved_word moves (slice_index words x)) at in
          fixes_right t words next moves fs (field_at f.0 f.1) (omega arith) right
      | inr later ↦ fixes_at t words next moves fs f later (omega arith) volatile
    ]
