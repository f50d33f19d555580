-- Laws of a move: where an object can be then, and what a word means then.
use Rattle.std.proofs.Common.{◌≡◌, ℕ, ◌<◌, List, [], ◌∷◌, Bool, true, false, Option, Some, refl, ap, ◌∙◌}
use Rattle.std.specs.Prelude.{◌==◌, All, unwrap_or, cond}
use Rattle.std.proofs.lemmas.List.Elements.{All-tail, All-head}
use Rattle.heap_words.specs.declared.Word.{Word}
use Rattle.heap_words.specs.declared.Word.TheVariants.{Null, Int, Stable, Volatile}
use Rattle.heap_words.specs.Word.{bits, IsWord, IsFieldWord}
use Rattle.heap_words.proofs.WordLaws.{meaning-bits}
use Rattle.relocation.specs.Relocation.{IsRelocation, destination, moved_to, translated_by, translated_word}

at_first : (x : ℕ × ℕ) (rest : Option ℕ) (from : ℕ) (b : Bool) → x.1 < 2097152 → unwrap_or rest from < 2097152 → unwrap_or (cond b (Some x.1) rest) from < 2097152
at_first x rest from true here there = here
at_first x rest from false here there = there

-- an address of the largest heap
abbrev IsInside : ℕ × ℕ → Type 0
IsInside pair = pair.1 < 2097152

moved_within : (pairs : List (ℕ × ℕ)) (from : ℕ) → All (λ pair. pair.1 < 2097152) pairs → from < 2097152 → moved_to pairs from < 2097152
moved_within [] from inside within = within
moved_within (x ∷ pairs) from inside within =
    at_first x (destination pairs from) from (x.0 == from) (All-head IsInside x pairs inside) (moved_within pairs from (All-tail IsInside x pairs inside) within)

-- an object within the largest heap is within it then
pub moved_to-within : (pairs : List (ℕ × ℕ)) (from : ℕ) → IsRelocation pairs → from < 2097152 → moved_to pairs from < 2097152
moved_to-within pairs from is within = moved_within pairs from is.inside within

-- what a word of this meaning means then
abbrev pub moved_meaning : List (ℕ × ℕ) → Word → Word
moved_meaning pairs Null = Null
moved_meaning pairs (Int n) = Int n
moved_meaning pairs (Stable address) = Stable (moved_to pairs address)
moved_meaning pairs (Volatile index) = Volatile index

-- the word of a meaning is the word of that meaning then
pub translated_word-bits : (pairs : List (ℕ × ℕ)) (word : Word) → IsWord word → translated_word pairs (bits word) ≡ bits (moved_meaning pairs word)
translated_word-bits pairs word within = ap (translated_by pairs (bits word)) (meaning-bits word within) ∙ each word
  where
    each : (w : Word) → translated_by pairs (bits w) (Some w) ≡ bits (moved_meaning pairs w)
    each Null = refl
    each (Int n) = refl
    each (Stable address) = refl
    each (Volatile index) = refl

-- which keeps the bounds
pub moved_meaning-within : (pairs : List (ℕ × ℕ)) (word : Word) → IsRelocation pairs → IsWord word → IsWord (moved_meaning pairs word)
moved_meaning-within pairs Null is within = within
moved_meaning-within pairs (Int n) is within = within
moved_meaning-within pairs (Stable address) is within = moved_to-within pairs address is within
moved_meaning-within pairs (Volatile index) is within = within

-- a field's word is one then
pub translated_word-meant : (pairs : List (ℕ × ℕ)) (w : ℕ) → IsRelocation pairs → IsFieldWord w → IsFieldWord (translated_word pairs w)
translated_word-meant pairs w is meant =
    (moved_meaning pairs meant.0, moved_meaning-within pairs meant.0 is meant.1, ap (translated_word pairs) meant.2 ∙ translated_word-bits pairs meant.0 meant.1)
