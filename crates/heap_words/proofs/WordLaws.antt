-- Field words are read as they are written, and no word has two readings.
use Rattle.std.proofs.Common.{◌≡◌, ℕ, Some, refl, ap, arith}
use Rattle.heap_words.specs.declared.Word.{Word}
use Rattle.heap_words.specs.declared.Word.TheVariants.{Null, Int, Stable, Volatile}
use Rattle.heap_words.specs.Word.{bits, IsWord, meaning, refers_to_stable, refers_to_volatile, is_stable, is_volatile}

-- a meaning's word is read as that meaning
pub meaning-bits : (word : Word) → IsWord word → meaning (bits word) ≡ Some word
unfolding meaning
meaning-bits Null within = refl
meaning-bits (Int n) within = grind arith
meaning-bits (Stable address) within = grind arith
meaning-bits (Volatile index) within = grind arith

-- a word that is read as a meaning is that meaning's word
pub bits-meaning : (w : ℕ) (word : Word) → meaning w ≡ Some word → IsWord word × (w ≡ bits word)
unfolding meaning
bits-meaning w Null is = (tt, grind arith)
bits-meaning w (Int n) is = (grind arith, grind arith)
bits-meaning w (Stable address) is = (grind arith, grind arith)
bits-meaning w (Volatile index) is = (grind arith, grind arith)

-- whether a word refers to a stable object follows from its meaning
pub is_stable-bits : (word : Word) → IsWord word → is_stable (bits word) ≡ refers_to_stable (Some word)
is_stable-bits word within = ap refers_to_stable (meaning-bits word within)

-- so is whether it refers to a volatile one
pub is_volatile-bits : (word : Word) → IsWord word → is_volatile (bits word) ≡ refers_to_volatile (Some word)
is_volatile-bits word within = ap refers_to_volatile (meaning-bits word within)
