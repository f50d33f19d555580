-- Laws of words that are put one after the other: what stands there then, and that the words before and after stay.
use Rattle.std.proofs.Common.{◌≡◌, ℕ, ◌≤◌, ◌+◌, inl, inr, List, [], ◌∷◌, ◌++◌, length, map, take, drop, Some, sym, ap, ◌∙◌, arith}
use Rattle.std.specs.Prelude.{fold}
use Rattle.std.specs.List.{flat_map, enumerate_from}
use Rattle.std.proofs.lemmas.List.{append_assoc, length-append, length-map, length-take-le, take_at, drop_at, drop-drop, take-append-drop}
use Rattle.object_layout.specs.Layout.{field_words}
use Rattle.log_machine.specs.Machine.{put_all, put_record}
use Rattle.log_machine.proofs.WordsFrom.{put_from}
use Rattle.log_machine.proofs.WordsLaws.{length-put_record}
use Rattle.volatile_area.specs.Area.{AreaState}
use Rattle.graph_words.specs.Promotion.{Move, moved_word, words_taken, moves_to, moved, promoted_words, base_of}
use Rattle.graph_words.proofs.Places.Moves.{moved-cases, words_needed}

put_run : (now : List ℕ) (address : ℕ) (run : List ℕ) → address + length run ≤ length now
    → put_all now (enumerate_from address run) ≡ take address now ++ (run ++ drop (address + length run) now)
put_run now address run fits = put_from now address run fits ∙ append_assoc (take address now) run (drop (address + length run) now)

-- an object keeps its length when it moves
pub length-moved_words : (area : AreaState) (moves : List Move) (at : ℕ) → length (promoted_words area moves at) ≡ words_taken area at
length-moved_words area moves at = omega (arith, length-map (field_words area.words at) (moved_word moves))

-- the words of these objects after the move
abbrev pub all_moved : AreaState → List Move → List ℕ → List ℕ
all_moved area moves starts = flat_map (promoted_words area moves) starts

front_of_run : (now run : List ℕ) (address : ℕ) (rest : List ℕ) → address ≤ length now → take (address + length run) (take address now ++ (run ++ rest)) ≡ take address now ++ run
front_of_run now run address rest within =
    ap (take (address + length run)) (sym (append_assoc (take address now) run rest))
    ∙ take_at (take address now ++ run) rest (address + length run) (length-append (take address now) run ∙ ap (λ n. n + length run) (length-take-le address now within))

back_of_run : (now run : List ℕ) (address more : ℕ) → address ≤ length now
    → drop (address + length run + more) (take address now ++ (run ++ drop (address + length run) now)) ≡ drop (address + length run + more) now
back_of_run now run address more within =
    let behind = drop (address + length run) now in
    sym (drop-drop more (address + length run) (take address now ++ (run ++ behind)))
    ∙ ap (drop more) (ap (drop (address + length run)) (sym (append_assoc (take address now) run behind))
    ∙ drop_at (take address now ++ run) behind (address + length run) (length-append (take address now) run ∙ ap (λ n. n + length run) (length-take-le address now within)))
    ∙ drop-drop more (address + length run) now

-- the records of the objects put their words one after the other, and the others stay
pub put_bases : (area : AreaState) (moves : List Move) (starts : List ℕ) (address : ℕ) (now : List ℕ) → address + words_needed area starts ≤ length now
    → fold put_record now (map (base_of area moves) (moves_to area starts address))
    ≡ take address now ++ (all_moved area moves starts ++ drop (address + words_needed area starts) now)
put_bases area moves [] address now fits = sym (take-append-drop address now) ∙ ap (λ n. take address now ++ drop n now) (omega arith)
put_bases area moves (at ∷ rest) address now fits =
    let run = promoted_words area moves at in
    let long : length run ≡ words_taken area at = length-moved_words area moves at in
    let next = put_record now (base_of area moves (at, address)) in
    let is : next ≡ take address now ++ (run ++ drop (address + length run) now) = put_run now address run (omega arith) in
    let same : length next ≡ length now = length-put_record now (base_of area moves (at, address)) in
    let more = words_needed area rest in
    let whole : address + words_taken area at + more ≡ address + length run + more = omega arith in
    put_bases area moves rest (address + words_taken area at) next (omega arith)
    ∙ ap (λ xs. xs ++ (all_moved area moves rest ++ drop (address + words_taken area at + more) next))
    (ap (λ n. take n next) (ap (λ n. address + n) (sym long)) ∙ ap (take (address + length run)) is ∙ front_of_run now run address (drop (address + length run) now) (omega arith))
    ∙ append_assoc (take address now) run (all_moved area moves rest ++ drop (address + words_taken area at + more) next)
    ∙ ap (λ xs. take address now ++ xs) (sym (append_assoc run (all_moved area moves rest) (drop (address + words_taken area at + more) next)))
    ∙ ap (λ xs. take address now ++ ((run ++ all_moved area moves rest) ++ xs))
    (ap (λ n. drop n next) whole ∙ ap (drop (address + length run + more)) is ∙ back_of_run now run address more (omega arith) ∙ ap (λ n. drop n now) (omega arith))

-- what stands at an object's new address then are its words after the move
pub put_at : (area : AreaState) (moves : List Move) (starts : List ℕ) (address : ℕ) (before behind : List ℕ) (at new : ℕ) → length before ≡ address
    → moved (moves_to area starts address) at ≡ Some new → take (words_taken area at) (drop new (before ++ (all_moved area moves starts ++ behind))) ≡ promoted_words area moves at
put_at area moves [] address before behind at new long is = absurd (cc is)
put_at area moves (a ∷ rest) address before behind at new long is =
    let run = promoted_words area moves a in
    let taken : length run ≡ words_taken area a = length-moved_words area moves a in
    let later = all_moved area moves rest ++ behind in
    let grouped : before ++ (all_moved area moves (a ∷ rest) ++ behind) ≡ (before ++ run) ++ later =
    ap (λ xs. before ++ xs) (append_assoc run (all_moved area moves rest) behind) ∙ sym (append_assoc before run later) in
    elim (moved-cases (a, address) (moves_to area rest (address + words_taken area a)) at new is) [
      | inl here ↦
          ap (λ x. take (words_taken area x) (drop new (before ++ (all_moved area moves (a ∷ rest) ++ behind)))) (sym here.0)
          ∙ ap (λ x. take (words_taken area a) (drop x (before ++ (all_moved area moves (a ∷ rest) ++ behind)))) (sym here.1)
          ∙ ap (λ xs. take (words_taken area a) (drop address xs)) (ap (λ xs. before ++ xs) (append_assoc run (all_moved area moves rest) behind))
          ∙ ap (take (words_taken area a)) (drop_at before (run ++ later) address long)
          ∙ take_at run later (words_taken area a) taken
          ∙ ap (promoted_words area moves) here.0
      | inr other ↦
          ap (λ xs. take (words_taken area at) (drop new xs)) grouped
          ∙ put_at area moves rest (address + words_taken area a) (before ++ run) behind at new (omega (arith, length-append before run)) other.1
    ]
