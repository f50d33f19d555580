-- What a field's word means.
use Rattle.std.specs.Prelude.{◌≡◌, ℕ, ◌+◌, ◌*◌, ◌/◌, ◌%◌, ◌^◌, ◌<◌, ◌==◌, nat_lt, Bool, true, false, Option, None, Some, if◌then◌else◌}
use Rattle.heap_words.specs.declared.TheConstants.{STABLE_WORDS, VOLATILE_WORDS, NO_INT}
use Rattle.heap_words.specs.declared.Word.{Word}
use Rattle.heap_words.specs.declared.Word.TheVariants.{Null, Int, Stable, Volatile}

-- the word that has a meaning
abbrev pub bits : Word → ℕ
bits Null = 0
bits (Int n) = 4 * n + 1
bits (Stable address) = 4 * address + 2
bits (Volatile index) = 4 * index + 3

-- the bounds of a meaning
abbrev pub IsWord : Word → Type 0
IsWord Null = Unit {0}
IsWord (Int n) = n < NO_INT
IsWord (Stable address) = address < STABLE_WORDS
IsWord (Volatile index) = index < VOLATILE_WORDS

-- a word that a field may have
abbrev pub IsFieldWord : ℕ → Type 0
IsFieldWord w = (word : Word) × IsWord word × (w ≡ bits word)

-- what a word means, if it is a field's word
unfoldable pub meaning : ℕ → Option Word
meaning w =
    if w == 0 then Some Null
    else (if w % 4 == 1 then (if nat_lt (w / 4) NO_INT then Some (Int (w / 4)) else None)
    else (if w % 4 == 2 then (if nat_lt (w / 4) STABLE_WORDS then Some (Stable (w / 4)) else None)
    else (if w % 4 == 3 then (if nat_lt (w / 4) VOLATILE_WORDS then Some (Volatile (w / 4)) else None) else None)))

-- whether a meaning is a reference to a stable object
abbrev pub refers_to_stable : Option Word → Bool
refers_to_stable None = false
refers_to_stable (Some Null) = false
refers_to_stable (Some (Int n)) = false
refers_to_stable (Some (Stable address)) = true
refers_to_stable (Some (Volatile index)) = false

-- whether a meaning is a reference to a volatile object
abbrev pub refers_to_volatile : Option Word → Bool
refers_to_volatile None = false
refers_to_volatile (Some Null) = false
refers_to_volatile (Some (Int n)) = false
refers_to_volatile (Some (Stable address)) = false
refers_to_volatile (Some (Volatile index)) = true

-- whether a word is a reference to a stable object
abbrev pub is_stable : ℕ → Bool
is_stable w = refers_to_stable (meaning w)

-- whether a word is a reference to a volatile object
abbrev pub is_volatile : ℕ → Bool
is_volatile w = refers_to_volatile (meaning w)
