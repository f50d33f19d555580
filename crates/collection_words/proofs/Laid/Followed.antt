-- What following a word leads to: a word that leads here stays, and so do words whose from-space is the same.
use Rattle.std.proofs.Common.{◌≡◌, ◌⊎◌, inl, inr, ℕ, ◌+◌, ◌<◌, Bool, true, false, List, ◌++◌, Option, None, Some, refl, sym, ap, ◌∙◌, subst, arith}
use Rattle.std.specs.Prelude.{Contains, slice_index, if◌then◌else◌}
use Rattle.std.proofs.lemmas.List.Elements.{Contains-append_cases, Contains-append_left}
use Rattle.heap_words.specs.declared.Word.{Word}
use Rattle.heap_words.specs.declared.Word.TheVariants as word
use Rattle.heap_words.specs.Header.{header}
use Rattle.heap_words.specs.Word.{bits, meaning}
use Rattle.heap_spaces.specs.Collection.{Collection}
use Rattle.object_layout.specs.Layout.{object_at}
use Rattle.log_machine.specs.Machine.{State, field_at}
use Rattle.log_machine.specs.Sound.{IsSpaced}
use Rattle.graph_words.specs.Places.{Places, addresses}
use Rattle.collection_words.specs.Completed.{completed, end_of, followed, followed_by, in_other_space, moves_from, taken_by}
use Rattle.collection_words.specs.LaidOut.{IsLaidOut, LeadsHere, is_gray_field}
use Rattle.collection_words.proofs.Laid.Completed.{move_made}
use Rattle.collection_words.proofs.Laid.Old.{current_not_other}
use Rattle.collection_words.proofs.Laid.Sources.{IsCollecting, here_ends}
use Rattle.collection_words.proofs.Laid.Within.{start_within}
use Rattle.collection_words.proofs.Moves.Ends.{addresses-append, moves-append, taken_by-ends}
use Rattle.collection_words.proofs.Moves.Sources.{move_source}
use Rattle.collection_words.proofs.Words.Cover.{move_here, move_stays}

-- A word that leads here.

here_by : (s : State) (words : List ℕ) (moves : List (ℕ × ℕ)) (starts : List ℕ) (w : ℕ) (meant : Option Word) → ((at : ℕ) → Contains starts at → in_other_space s at ≡ false) → LeadsHere starts meant
    → followed_by s words moves w meant ≡ w
here_by s words moves starts w None current leads = absurd leads
here_by s words moves starts w (Some word.Null) current leads = refl
here_by s words moves starts w (Some (word.Int n)) current leads = refl
here_by s words moves starts w (Some (word.Volatile index)) current leads = refl
here_by s words moves starts w (Some (word.Stable at)) current leads =
    ap (λ b. if b then bits (word.Stable (end_of moves at (header (slice_index words at)))) else w) (current at leads)

-- no place lies in the other space
pub place_current : {s : State} {places remaining : Places} {words : List ℕ} → IsSpaced s → IsLaidOut s places remaining words → (at : ℕ) → Contains (addresses places) at → in_other_space s at ≡ false
place_current {s} spaced laid at has =
    let within = start_within laid at has in
    let below = within.below in
    let room = spaced.room in current_not_other s spaced at within.above (omega arith)

-- it stays when it is followed
pub followed_here : {s : State} {places remaining : Places} {words : List ℕ} → IsSpaced s → IsLaidOut s places remaining words → (others : List ℕ) (w : ℕ) → LeadsHere (addresses places) (meaning w)
    → followed s others remaining w ≡ w
followed_here {s} {places} {remaining} {words} spaced laid others w leads =
    here_by s others (moves_from others (addresses remaining) (s.base + s.used)) (addresses places) w (meaning w) (place_current spaced laid) leads

-- Words with the same from-space.

same_end : (s : State) (words others : List ℕ) (moves : List (ℕ × ℕ)) (w at : ℕ) (b : Bool) → (b ≡ true → slice_index others at ≡ slice_index words at)
    → (if b then bits (word.Stable (end_of moves at (header (slice_index others at)))) else w) ≡ (if b then bits (word.Stable (end_of moves at (header (slice_index words at)))) else w)
same_end s words others moves w at true same = ap (λ x. bits (word.Stable (end_of moves at (header x)))) (same refl)
same_end s words others moves w at false same = refl

same_by : (s : State) (words others : List ℕ) (moves : List (ℕ × ℕ)) (w : ℕ) (meant : Option Word) → ((at : ℕ) → in_other_space s at ≡ true → slice_index others at ≡ slice_index words at)
    → followed_by s others moves w meant ≡ followed_by s words moves w meant
same_by s words others moves w None same = refl
same_by s words others moves w (Some word.Null) same = refl
same_by s words others moves w (Some (word.Int n)) same = refl
same_by s words others moves w (Some (word.Volatile index)) same = refl
same_by s words others moves w (Some (word.Stable at)) same = same_end s words others moves w at (in_other_space s at) (same at)

-- words are followed alike where the other space has the same words and objects go to the same places
pub followed_same : (s : State) (words others : List ℕ) (remaining : Places) (w : ℕ) → ((at : ℕ) → in_other_space s at ≡ true → slice_index others at ≡ slice_index words at)
    → moves_from others (addresses remaining) (s.base + s.used) ≡ moves_from words (addresses remaining) (s.base + s.used) → followed s others remaining w ≡ followed s words remaining w
followed_same s words others remaining w same moves =
    ap (λ m. followed_by s others m w (meaning w)) moves ∙ same_by s words others (moves_from words (addresses remaining) (s.base + s.used)) w (meaning w) same

-- Fields that are not gray.

-- an object of places stays where it is in the completed words
pub move_placed : {s : State} {places remaining : Places} {words : List ℕ} → IsLaidOut s places remaining words → (at : ℕ) → Contains (addresses places) at
    → Contains (moves_from words (addresses (places ++ remaining)) s.base) (at, at)
move_placed {s} {places} {remaining} {words} laid at has =
    subst (λ m. Contains m (at, at)) (sym (ap (λ xs. moves_from words xs s.base) (addresses-append places remaining) ∙ moves-append words (addresses places) (addresses remaining) s.base))
    (Contains-append_left (moves_from words (addresses places) s.base) _ (at, at) (move_here words s.base (addresses places) (s.base + s.used) at (here_ends laid) has))

-- an object goes where it is, or remains and goes after the used words
pub move_kind : {s : State} {places remaining : Places} {words : List ℕ} → IsLaidOut s places remaining words → (at there : ℕ) → Contains (moves_from words (addresses (places ++ remaining)) s.base) (at, there)
    → (Contains (addresses places) at × (at ≡ there)) ⊎ Contains (moves_from words (addresses remaining) (s.base + s.used)) (at, there)
move_kind {s} {places} {remaining} {words} laid at there has =
    let split = ap (λ xs. moves_from words xs s.base) (addresses-append places remaining) ∙ moves-append words (addresses places) (addresses remaining) s.base in
    let next : s.base + taken_by words (addresses places) ≡ s.base + s.used = taken_by-ends words s.base (addresses places) (s.base + s.used) (here_ends laid) in
    elim (Contains-append_cases (moves_from words (addresses places) s.base) _ (at, there) (subst (λ m. Contains m (at, there)) split has)) [
      | inl here ↦ inl (move_source words (addresses places) s.base at there here, move_stays words s.base (addresses places) (s.base + s.used) at there (here_ends laid) here)
      | inr behind ↦ inr (subst (λ (x : ℕ). Contains (moves_from words (addresses remaining) x) (at, there)) next behind)
    ]

-- A field that is not gray has its own word in the completed words.
pub raw_word : {s : State} {k : Collection} {places remaining : Places} {words : List ℕ} → IsCollecting s k places remaining words → (at n i : ℕ) → Contains (addresses places) at → object_at words at ≡ Some n
    → i < n → is_gray_field s.collection at i ≡ false → slice_index (completed s places remaining words) (field_at at i) ≡ slice_index words (field_at at i)
raw_word {s} {places = places} {remaining = remaining} {words = words} is at n i has object below not_gray =
    (move_made is at at n (move_placed is.laid at has) object).fields i below
    ∙ followed_here is.spaced is.laid words (slice_index words (field_at at i)) (is.laid.here at has n i object below not_gray)
