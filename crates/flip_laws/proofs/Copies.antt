-- The copies of roots: what a plan makes of them, and how the two accounts of them agree.
use Rattle.std.proofs.Common.{◌≡◌, ℕ, suc, ◌+◌, ◌≤◌, inl, inr, List, [], ◌∷◌, length, map, take, drop, get_or, Some, refl, sym, ap, ◌∙◌, arith}
use Rattle.std.specs.Prelude.{Contains}
use Rattle.std.specs.List.{flat_map}
use Rattle.std.proofs.Math.Seq.{drop-cons}
use Rattle.heap_spaces.specs.Collection.{gray_from}
use Rattle.heap_spaces.specs.declared.collection.CopiedObject.{CopiedObject}
use Rattle.log_records.specs.declared.copies.ObjectCopy.{ObjectCopy}
use Rattle.log_machine.specs.Collecting.{pairs_of}
use Rattle.log_machine.specs.Machine.{State}
use Rattle.object_layout.specs.Layout.{field_words, object_at}
use Rattle.object_layout.proofs.LayoutLaws.{object_header, object_small}
use Rattle.object_layout.proofs.ObjectLaws.{end_to_end_apart, field_words_at}
use Rattle.object_layout.proofs.WalkLaws.{Contains-head, Contains-rest}
use Rattle.flip_copy.specs.Copied as planned
use Rattle.flip_copy.specs.Copied.{copies_from, moved_objects, copied_size}
use Rattle.flip_copy.specs.Plan.{AreCopies}
use Rattle.flip_copy.proofs.CopiesLaws.{copy_first, no_copies, size_more}
use Rattle.flip_copy.proofs.ObjectWordsLaws.{object_words, object_words-length}
use Rattle.graph_words.specs.Places.{Places, addresses}
use Rattle.collection_words.specs.Completed.{moves_from, places_from, taken_at, taken_by}
use Rattle.collection_words.specs.Copying.{words_to_copy}
use Rattle.collection_words.specs.Flipped.{copies_of_flip}
use Rattle.collection_words.specs.LaidOut.{IsLaidOut}
use Rattle.collection_words.specs.Placed.{Ascend}
use Rattle.collection_words.proofs.Copy.Ascending.{ascend_low}
use Rattle.collection_words.proofs.Laid.Sources.{here_ends}
use Rattle.collection_words.proofs.Laid.Within.{start_within}
use Rattle.flip_laws.proofs.Lists.{ascend_raise}

-- The copies are the same.

-- the words of an object are its header, its birth and its fields
object_parts : (words : List ℕ) (at n : ℕ) → object_at words at ≡ Some n → planned.object_words_at words at ≡ words_to_copy words at
object_parts words at n is =
    let within = (object_header words at n is).1 in
    let there : suc (suc at) ≡ at + 2 = omega arith in
    let long : 2 + n ≡ suc (suc n) = omega arith in
    let birth : suc at ≡ at + 1 = omega arith in
    object_words words at n is
    ∙ ap (λ (k : ℕ). take k (drop at words)) long
    ∙ ap (take (suc (suc n))) (drop-cons words at 0 (omega arith))
    ∙ ap (λ (ws : List ℕ). get_or words at 0 ∷ take (suc n) ws) (drop-cons words (suc at) 0 (omega arith))
    ∙ ap (λ (ws : List ℕ). get_or words at 0 ∷ get_or words (suc at) 0 ∷ ws) (ap (λ (k : ℕ). take n (drop k words)) there ∙ sym (field_words_at words at n is))
    ∙ ap (λ (k : ℕ). get_or words at 0 ∷ get_or words k 0 ∷ field_words words at) birth

-- an object stands at an address
abbrev pub Stands : List ℕ → ℕ → Type 0
Stands words at = (n : ℕ) × (object_at words at ≡ Some n)

-- where objects stand, their copies are those of a flip of completed words
pub same_copies : (words : List ℕ) (to : ℕ) (ats : List ℕ) → ((at : ℕ) → Contains ats at → Stands words at) → copies_from words to ats ≡ copies_of_flip words ats to
same_copies words to [] each = refl
same_copies words to (at ∷ ats) each =
    let object = each at (Contains-head at ats) in
    let same = object_parts words at object.0 object.1 in
    let size : length (planned.object_words_at words at) ≡ taken_at words at = omega (arith, ap length same) in
    let copy : List ℕ → ObjectCopy = λ ws. record { from = at; to = to; words = ws } in
    ap (λ (ws : List ℕ). copy ws ∷ copies_from words (to + length (planned.object_words_at words at)) ats) same
    ∙ ap (λ (n : ℕ). copy (words_to_copy words at) ∷ copies_from words (to + n) ats) size
    ∙ ap (λ (cs : List ObjectCopy). copy (words_to_copy words at) ∷ cs) (same_copies words (to + taken_at words at) ats (λ a has. each a (Contains-rest at ats a has)))

-- What they list.

-- as many words as the objects take
pub flip_size : (words xs : List ℕ) (to : ℕ) → copied_size (copies_of_flip words xs to) ≡ taken_by words xs
flip_size words [] to = refl
flip_size words (x ∷ xs) to =
    let copies = copies_of_flip words xs (to + taken_at words x) in
    let copy : ObjectCopy = record { from = x; to = to; words = words_to_copy words x } in
    let long : length (words_to_copy words x) ≡ taken_at words x = omega arith in
    size_more copy copies ∙ ap (λ (n : ℕ). n + copied_size copies) long ∙ ap (λ (n : ℕ). taken_at words x + n) (flip_size words xs (to + taken_at words x))

-- where the objects stood
pub flip_froms : (words xs : List ℕ) (to : ℕ) → map (λ (c : CopiedObject). c.from) (moved_objects (copies_of_flip words xs to)) ≡ xs
flip_froms words [] to = refl
flip_froms words (x ∷ xs) to = ap (λ (l : List ℕ). x ∷ l) (flip_froms words xs (to + taken_at words x))

-- what becomes gray
abbrev pub grays_of : List ObjectCopy → List ℕ
grays_of copies = flat_map (λ (c : CopiedObject). gray_from c.to c.header) (moved_objects copies)

-- which is where the copies stand
pub flip_tos : (words xs : List ℕ) (to : ℕ) → grays_of (copies_of_flip words xs to) ≡ map (λ (m : ℕ × ℕ). m.1) (moves_from words xs to)
flip_tos words [] to = refl
flip_tos words (x ∷ xs) to = ap (λ (l : List ℕ). to ∷ l) (flip_tos words xs (to + taken_at words x))

-- where each went
pub flip_pairs : (words xs : List ℕ) (to : ℕ) → pairs_of (copies_of_flip words xs to) ≡ moves_from words xs to
flip_pairs words [] to = refl
flip_pairs words (x ∷ xs) to = ap (λ (l : List (ℕ × ℕ)). (x, to) ∷ l) (flip_pairs words xs (to + taken_at words x))

-- and the new places
pub place_tos : (words : List ℕ) (ps : Places) (to : ℕ) → addresses (places_from words ps to) ≡ map (λ (m : ℕ × ℕ). m.1) (moves_from words (addresses ps) to)
place_tos words [] to = refl
place_tos words (p ∷ ps) to = ap (λ (l : List ℕ). to ∷ l) (place_tos words ps (to + taken_at words p.1))

-- The plan.

-- copies of some of the objects that fill the used words are those of a plan
pub laid_copies : {s : State} {places : Places} {words : List ℕ} → IsLaidOut s places [] words → (behind to : ℕ) (ats : List ℕ) → behind ≤ s.base + s.used → Ascend behind ats
    → ((at : ℕ) → Contains ats at → Contains (addresses places) at) → AreCopies behind (s.base + s.used) to (copies_from words to ats)
laid_copies {s} laid behind to [] within up among = no_copies behind (s.base + s.used) to within
laid_copies {s} {places} {words} laid behind to (at ∷ ats) within up among =
    let here = among at (Contains-head at ats) in
    let object = start_within laid at here in
    let n = object.fields in
    let close = object.below in
    let copy : ObjectCopy = record { from = at; to = to; words = planned.object_words_at words at } in
    let size = length (planned.object_words_at words at) in
    let long : size ≡ 2 + n = object_words-length words at n object.object in
    let small = object_small words at n object.object in
    let others : (x : ℕ) → Contains ats x → Contains (addresses places) x = λ x has. among x (Contains-rest at ats x has) in
    let next : Ascend (at + size) ats = ascend_raise (suc at) (at + size) ats up.1 (λ x has.
    let above = ascend_low (suc at) ats x up.1 has in
    let other = start_within laid x (others x has) in
    elim (end_to_end_apart words s.base (addresses places) (s.base + s.used) at n x other.fields (here_ends laid) here object.object (others x has) other.object) [
      | inl same ↦ absurd (omega arith)
      | inr (inl before) ↦ omega arith
      | inr (inr after) ↦ absurd (omega arith)
    ]) in
    copy_first behind (s.base + s.used) to copy (copies_from words (to + size) ats) up.0 refl (record { least = omega arith; most = omega arith })
    (laid_copies laid (at + size) (to + size) ats (omega arith) next others)
