-- What a reader takes from a stream: from the bytes that it holds and those that its source has left.
use Rattle.std.specs.Prelude.{◌≡◌, ◌≢◌, ◌⊎◌, ℕ, ◌<◌, ◌≤◌, List, [], ◌∷◌, ◌++◌, length, Bool, IsTrue, IsFalse}
use Rattle.std.specs.List.{AllByRecursion}
use Rattle.line_reader.specs.declared.reader.Taken.{Taken}
use Rattle.line_reader.specs.declared.reader.Taken.TheVariants.{Line, TooLong, Part, End}
use Rattle.line_reader.specs.declared.reader.TheConstants.{MOST_LINE}

-- What a reader holds: bytes that it has had from its source, and whether those before them were the front of a line that is too long.
pub record Holding : Type 0 where
  pub held : List ℕ
  pub passing : Bool

-- No newline is among these bytes.
abbrev pub IsWithinLine : List ℕ → Type 0
IsWithinLine bytes = AllByRecursion (λ b. b ≢ 10) bytes

-- A whole line is among these bytes, with its newline.
pub record HasLine (bytes : List ℕ) : Type 0 where
  pub line : List ℕ
  pub behind : List ℕ
  pub parts : bytes ≡ line ++ 10 ∷ behind

-- The text stands first in a stream, up to the first newline or to the end, and the rest is what follows.
pub record IsCutAt (text stream rest : List ℕ) : Type 0 where
  pub within : IsWithinLine text
  pub parts : (stream ≡ text ++ 10 ∷ rest) ⊎ ((stream ≡ text) × (rest ≡ []))

-- The text is the first line of a stream, which has one.
pub record IsFirstLine (text stream rest : List ℕ) : Type 0 where
  pub cut : IsCutAt text stream rest
  pub some : 0 < length stream
  pub short : length text ≤ MOST_LINE

-- A line that is too long ends there, or the rest of one whose front was passed.
pub record EndsTooLong (passing : Bool) (stream rest : List ℕ) : Type 0 where
  pub text : List ℕ
  pub cut : IsCutAt text stream rest
  pub long : IsTrue passing ⊎ (MOST_LINE < length text)

-- More bytes than a line may have were passed, none of them a newline.
pub record PassesPart (stream rest : List ℕ) : Type 0 where
  pub text : List ℕ
  pub within : IsWithinLine text
  pub long : MOST_LINE < length text
  pub parts : stream ≡ text ++ rest

-- What was taken from a stream, which leaves the rest.
abbrev pub Takes : Taken → Bool → List ℕ → Bool → List ℕ → Type 0
Takes (Line text) passing stream passing' rest = IsFalse passing × IsFalse passing' × IsFirstLine text.items stream rest
Takes TooLong passing stream passing' rest = IsFalse passing' × EndsTooLong passing stream rest
Takes Part passing stream passing' rest = IsTrue passing' × PassesPart stream rest
Takes End passing stream passing' rest = IsFalse passing × IsFalse passing' × (stream ≡ []) × (rest ≡ [])

-- A line has no newline and is no longer than it may be.
abbrev pub IsTaken : Taken → Type 0
IsTaken (Line text) = IsWithinLine text.items × (length text.items ≤ MOST_LINE)
IsTaken taken = Unit {0}

-- The line of these bytes, or the rest of one whose front was passed.
abbrev pub IsLineOf : Taken → Bool → List ℕ → Type 0
IsLineOf (Line text) passing bytes = IsFalse passing × (text.items ≡ bytes) × (length bytes ≤ MOST_LINE)
IsLineOf TooLong passing bytes = IsTrue passing ⊎ (MOST_LINE < length bytes)
IsLineOf taken passing bytes = ⊥

-- The line of these bytes at the end of a stream, where it has one.
abbrev pub IsRestOf : Taken → Bool → List ℕ → Type 0
IsRestOf End passing bytes = IsFalse passing × (bytes ≡ [])
IsRestOf (Line text) passing bytes = IsLineOf (Line text) passing bytes × (0 < length bytes)
IsRestOf taken passing bytes = IsLineOf taken passing bytes
