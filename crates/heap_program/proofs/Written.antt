-- What is written of texts, one after the other.
use Rattle.std.proofs.Common.{◌≡◌, ℕ, ◌<◌, List, [], ◌++◌, length, take, drop, Result, Ok, Err, refl, sym, ap, ◌∙◌, append_assoc}
use Rattle.std.specs.Result.{IsErr}
use Rattle.std.proofs.lemmas.List.{append-nil, take-append-drop}
use Rattle.heap_program.specs.declared.output.WriteError.{WriteError}
use Rattle.heap_program.specs.Output.{WroteText}
use Rattle.heap_program.specs.Play.{WroteFront}

-- nothing was written
pub none_written : (before text : List ℕ) → WroteFront before text before
none_written before text = ([], text, refl, sym (append-nil before))

-- the sink took a prefix
pub front_written : (before text bytes after : List ℕ) → bytes ≡ text → (k : ℕ) × (k < length bytes) × (after ≡ before ++ take k bytes) → WroteFront before text after
front_written before text bytes after same front = (take front.0 bytes, drop front.0 bytes, sym same ∙ sym (take-append-drop front.0 bytes), front.2)

-- after a text that was written wholly, a prefix of another
pub then_front : (before first second between after : List ℕ) → between ≡ before ++ first → WroteFront between second after → WroteFront before (first ++ second) after
then_front before first second between after whole front = (
  first ++ front.0,
  front.1,
  ap (λ (l : List ℕ). first ++ l) front.2 ∙ sym (append_assoc first front.0 front.1),
  front.3 ∙ ap (λ (l : List ℕ). l ++ front.0) whole ∙ append_assoc before first front.0,
)

-- a prefix of a text is one of it and what follows
pub front_more : (before text more after : List ℕ) → WroteFront before text after → WroteFront before (text ++ more) after
front_more before text more after front = (front.0, front.1 ++ more, ap (λ (l : List ℕ). l ++ more) front.2 ∙ append_assoc front.0 front.1 more, front.3)

-- all of a text is a prefix of it
pub whole_front : (before text after : List ℕ) → after ≡ before ++ text → WroteFront before text after
whole_front before text after whole = (text, [], sym (append-nil text), whole)

-- all of a text was written, or a prefix of it
pub wrote_some : (r : Result (Unit {0}) WriteError) (before text after : List ℕ) → WroteText r before text after → WroteFront before text after
wrote_some (Ok done) before text after wrote = whole_front before text after wrote
wrote_some (Err e) before text after wrote = wrote

-- an error came before the first byte
pub wrote_nothing : (r : Result (Unit {0}) WriteError) (before text : List ℕ) → IsErr r → WroteText r before text before
wrote_nothing (Ok done) before text failed = cc
wrote_nothing (Err e) before text failed = none_written before text

-- it came when the sink had taken a prefix
pub wrote_front : (r : Result (Unit {0}) WriteError) (before bytes text after : List ℕ) → IsErr r → bytes ≡ text
    → (k : ℕ) × (k < length bytes) × (after ≡ before ++ take k bytes) → WroteText r before text after
wrote_front (Ok done) before bytes text after failed is front = cc
wrote_front (Err e) before bytes text after failed is front = front_written before text bytes after is front

-- more was to follow
pub wrote_less : (r : Result (Unit {0}) WriteError) (before text more after : List ℕ) → IsErr r → WroteText r before text after → WroteText r before (text ++ more) after
wrote_less (Ok done) before text more after failed wrote = cc
wrote_less (Err e) before text more after failed wrote = front_more before text more after wrote

-- more followed
pub wrote_then : (r : Result (Unit {0}) WriteError) (before text between more after : List ℕ) → between ≡ before ++ text → WroteText r between more after → WroteText r before (text ++ more) after
wrote_then (Ok done) before text between more after first wrote = wrote ∙ ap (λ (l : List ℕ). l ++ more) first ∙ append_assoc before text more
wrote_then (Err e) before text between more after first wrote = then_front before text more between after first wrote
