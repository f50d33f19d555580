-- One more copy is planned.
use Rattle.std.proofs.Common.{◌≡◌, ℕ, suc, ◌+◌, ◌<◌, ◌≤◌, List, [], ◌∷◌, ◌++◌, length, drop, get_or, sym, ap, ◌∙◌, subst, append_assoc, arith}
use Rattle.std.specs.Prelude.{Contains}
use Rattle.std.proofs.Math.Seq.{drop-cons}
use Rattle.heap_spaces.specs.Spaces.{SpacesState}
use Rattle.log_records.specs.declared.copies.ObjectCopy.{ObjectCopy}
use Rattle.object_layout.proofs.WalkLaws.{object_take}
use Rattle.flip_copy.specs.Copied.{object_words_at, copies_from}
use Rattle.flip_copy.specs.Plan.{HasObjectSize, AreCopies, AreRootsIn}
use Rattle.flip_copy.proofs.CopiesLaws.{copy_first}
use Rattle.flip_copy.proofs.ObjectWordsLaws.{object_words-length, Contains-tail, Contains-drop, root_object, root_behind}

-- the copies to come are all, as long as nothing is copied
pub copies_begin : (behind base end to other : ℕ) (made rest : List ObjectCopy) → made ≡ [] → behind ≡ base → to ≡ other → AreCopies behind end to rest → AreCopies base end other (made ++ rest)
copies_begin behind base end to other made rest none here there are =
    subst (λ (xs : List ObjectCopy). AreCopies base end other (xs ++ rest)) (sym none)
    (subst (λ (b : ℕ). AreCopies b end other rest) here (subst (λ (t : ℕ). AreCopies behind end t rest) there are))

pub copied_begin : (words : List ℕ) (to other : ℕ) (ats : List ℕ) (made : List ObjectCopy) → made ≡ [] → to ≡ other → made ++ copies_from words to (drop 0 ats) ≡ copies_from words other ats
copied_begin words to other ats made none there =
    ap (λ (xs : List ObjectCopy). xs ++ copies_from words to ats) none ∙ ap (λ (t : ℕ). copies_from words t ats) there

-- with one more copied, the copies to come follow it
pub copies_push : (behind base end to other size : ℕ) (copy : ObjectCopy) (made more rest : List ObjectCopy) → ((xs : List ObjectCopy) → AreCopies behind end to xs → AreCopies base end other (made ++ xs))
    → more ≡ made ++ copy ∷ [] → behind ≤ copy.from → copy.to ≡ to → HasObjectSize copy → size ≡ length copy.words
    → AreCopies (copy.from + size) end (to + size) rest → AreCopies base end other (more ++ rest)
copies_push behind base end to other size copy made more rest so_far pushed after here sized long are =
    let whole = subst (λ (n : ℕ). AreCopies (copy.from + n) end (to + n) rest) long are in
    let all = so_far (copy ∷ rest) (copy_first behind end to copy rest after here sized whole) in
    subst (λ (xs : List ObjectCopy). AreCopies base end other (xs ++ rest)) (sym pushed) (subst (λ (xs : List ObjectCopy). AreCopies base end other xs) (sym (append_assoc made (copy ∷ []) rest)) all)

pub copied_push : (words : List ℕ) (to size i : ℕ) (ats : List ℕ) (copy : ObjectCopy) (made more : List ObjectCopy) → more ≡ made ++ copy ∷ [] → i < length ats
    → copy ≡ record { from = get_or ats i 0; to = to; words = object_words_at words (get_or ats i 0) } → size ≡ length (object_words_at words (get_or ats i 0))
    → more ++ copies_from words (to + size) (drop (i + 1) ats) ≡ made ++ copies_from words to (drop i ats)
copied_push words to size i ats copy made more pushed within is long =
    let at = get_or ats i 0 in
    let here : ObjectCopy = record { from = at; to = to; words = object_words_at words at } in
    let next : i + 1 ≡ suc i = omega arith in
    ap (λ (xs : List ObjectCopy). xs ++ copies_from words (to + size) (drop (i + 1) ats)) pushed
    ∙ append_assoc made (copy ∷ []) (copies_from words (to + size) (drop (i + 1) ats))
    ∙ ap (λ (c : ObjectCopy). made ++ c ∷ copies_from words (to + size) (drop (i + 1) ats)) is
    ∙ ap (λ (n : ℕ). made ++ here ∷ copies_from words (to + n) (drop (i + 1) ats)) long
    ∙ ap (λ (k : ℕ). made ++ here ∷ copies_from words (to + length (object_words_at words at)) (drop k ats)) next
    ∙ ap (λ (xs : List ℕ). made ++ copies_from words to xs) (sym (drop-cons ats i 0 within))

-- the next root stands after the words of this one
pub next_behind : (words : List ℕ) (spaces : SpacesState) (ats : List ℕ) (i size at : ℕ) → AreRootsIn words spaces ats → i < length ats
    → size ≡ length (object_words_at words (get_or ats i 0)) → Contains (drop (i + 1) ats) at → get_or ats i 0 + size ≤ at
next_behind words spaces ats i size at are within long has =
    let here = Contains-drop ats i (get_or ats i 0) (Contains-tail ats i within) in
    let object = root_object words spaces ats (get_or ats i 0) are here in
    let behind = root_behind words spaces ats i object.0 at are within object.1 has in
    let two = object_words-length words (get_or ats i 0) object.0 (object_take words (spaces.base + spaces.used) (get_or ats i 0) object.0 object.1) in
    omega arith
