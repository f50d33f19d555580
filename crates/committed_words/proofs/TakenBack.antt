-- Writes that are taken back one after another.
use Rattle.std.proofs.Common.{◌≡◌, ◌<◌, ℕ, List, [], ◌∷◌, ◌++◌, length, reverse, take, refl, sym, ap, ◌∙◌, arith, length-append}
use Rattle.std.proofs.lemmas.List.{append_assoc, length-reverse, reverse-append, take_at}
use Rattle.log_machine.specs.declared.UndoEntry.{UndoEntry}
use Rattle.log_machine.specs.Machine.{taken_back, with_word}

-- The newest of the writes were taken back, and the rest are left.
pub record IsTakenBack (undo rest : List UndoEntry) (before after : List ℕ) : Type 0 where
  pub newest : List UndoEntry
  pub order : reverse undo ≡ newest ++ reverse rest
  pub words : after ≡ taken_back newest before

-- one more is taken back after the others
one_more : (us : List UndoEntry) (u : UndoEntry) (words : List ℕ) → taken_back (us ++ u ∷ []) words ≡ with_word (taken_back us words) u.object u.field u.was
one_more [] u words = refl
one_more (v ∷ us) u words = one_more us u (with_word words v.object v.field v.was)

turned : (front : List UndoEntry) (u : UndoEntry) → reverse (front ++ u ∷ []) ≡ u ∷ reverse front
turned front u = reverse-append front (u ∷ [])

pub next_taken_back : (undo front : List UndoEntry) (u : UndoEntry) (before mid after : List ℕ) → after ≡ with_word mid u.object u.field u.was → IsTakenBack undo (front ++ u ∷ []) before mid → IsTakenBack undo front before after
next_taken_back undo front u before mid after is so_far = record {
  newest = so_far.newest ++ u ∷ [];
  order = so_far.order ∙ ap (λ l. so_far.newest ++ l) (turned front u) ∙ sym (append_assoc so_far.newest (u ∷ []) (reverse front));
  words = is ∙ ap (λ ws. with_word ws u.object u.field u.was) so_far.words ∙ sym (one_more so_far.newest u before);
}

-- where the next one can't be taken back, those before it were
pub only_newest : (undo front : List UndoEntry) (u : UndoEntry) (before mid : List ℕ) → IsTakenBack undo (front ++ u ∷ []) before mid → (n : ℕ) × (n < length undo) × (mid ≡ taken_back (take n (reverse undo)) before)
only_newest undo front u before mid so_far =
    let all : reverse undo ≡ so_far.newest ++ (u ∷ reverse front) = so_far.order ∙ ap (λ l. so_far.newest ++ l) (turned front u) in
    let fewer : length so_far.newest < length undo = omega (arith, length-reverse undo, ap length all, length-append so_far.newest (u ∷ reverse front)) in
    let front_is : take (length so_far.newest) (reverse undo) ≡ so_far.newest = ap (take (length so_far.newest)) all ∙ take_at so_far.newest (u ∷ reverse front) (length so_far.newest) (omega arith) in
    (length so_far.newest, fewer, so_far.words ∙ ap (λ us. taken_back us before) (sym front_is))
