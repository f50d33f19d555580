-- The words after the record of a flip: forwarding words where objects stood, and the objects where their copies stand.
use Rattle.std.proofs.Common.{◌≡◌, ◌≢◌, ℕ, ◌+◌, ◌<◌, ◌≤◌, ◌⊎◌, inl, inr, List, [], ◌∷◌, ◌++◌, length, drop, get_or, set, None, Some, refl, sym, ap, ◌∙◌, subst, arith, length-set, get_or-set_same, get_or-set_other}
use Rattle.std.specs.Prelude.{Contains, if◌then◌else◌}
use Rattle.std.specs.List.{AllByRecursion, enumerate_from, flat_map}
use Rattle.std.proofs.lemmas.Bool.{le-leb}
use Rattle.std.proofs.lemmas.List.{get_or-take, get_or-drop}
use Rattle.heap_words.specs.Header.{header, header_bits}
use Rattle.heap_words.specs.declared.Header.TheVariants.{Forward}
use Rattle.heap_spaces.specs.Spaces.{SpacesState, IsSpaces, flipped}
use Rattle.log_machine.specs.Machine.{writes_of, put_all, put_record, words_in}
use Rattle.log_machine.proofs.WordsFrom.{put_from-before, put_from-at, put_from-behind}
use Rattle.log_machine.proofs.WordsLaws.{length-put_all}
use Rattle.log_records.specs.declared.copies.ObjectCopy.{ObjectCopy}
use Rattle.object_layout.specs.Layout.{whole_length, object_at}
use Rattle.object_layout.proofs.LayoutLaws.{object_header}
use Rattle.object_layout.proofs.WalkLaws.{Contains-cases, Contains-none}
use Rattle.flip_copy.specs.Copied.{object_words_at, copies_from, with_base, root_copies, flip_record, copied_size}
use Rattle.flip_copy.specs.Moved.{IsCopiedObject}
use Rattle.flip_copy.specs.Plan.{HasObjectSize, StoodInOrder, StandEndToEnd, AreCopiesOf}
use Rattle.flip_copy.proofs.CopiesLaws.{size_more, ordered_size, planned_size}
use Rattle.flip_copy.proofs.ObjectWordsLaws.{object_words, object_words-length, words_object}

-- an address lies outside a run of words
abbrev LiesOutside : ℕ → ℕ → ℕ → Type 0
LiesOutside from end x = (x < from) ⊎ (end ≤ x)

put_all-append : (now : List ℕ) (xs ys : List (ℕ × ℕ)) → put_all now (xs ++ ys) ≡ put_all (put_all now xs) ys
put_all-append now [] ys = refl
put_all-append now (x ∷ xs) ys = put_all-append (set now x.0 x.1) xs ys

-- the words after one object is copied
abbrev with_one : List ℕ → ObjectCopy → List ℕ
with_one now copy = set (put_all now (enumerate_from copy.to copy.words)) copy.from (header_bits (Forward copy.to))

put_one : (now : List ℕ) (copy : ObjectCopy) → put_all now (writes_of copy) ≡ with_one now copy
put_one now copy = put_all-append now (enumerate_from copy.to copy.words) ((copy.from, header_bits (Forward copy.to)) ∷ [])

put_first : (now : List ℕ) (copy : ObjectCopy) (copies : List ObjectCopy) → put_all now (flat_map writes_of (copy ∷ copies)) ≡ put_all (with_one now copy) (flat_map writes_of copies)
put_first now copy copies =
    put_all-append now (writes_of copy) (flat_map writes_of copies)
    ∙ ap (λ (ws : List ℕ). put_all ws (flat_map writes_of copies)) (put_one now copy)

length-with_one : (now : List ℕ) (copy : ObjectCopy) → length (with_one now copy) ≡ length now
length-with_one now copy = length-set (put_all now (enumerate_from copy.to copy.words)) copy.from (header_bits (Forward copy.to)) ∙ length-put_all (enumerate_from copy.to copy.words) now

-- other words stay
one_beside : (now : List ℕ) (copy : ObjectCopy) (x : ℕ) → x ≢ copy.from → LiesOutside copy.to (copy.to + length copy.words) x → get_or (with_one now copy) x 0 ≡ get_or now x 0
one_beside now copy x other (inl before) =
    get_or-set_other (put_all now (enumerate_from copy.to copy.words)) copy.from x (header_bits (Forward copy.to)) 0 other ∙ put_from-before now copy.to x copy.words before
one_beside now copy x other (inr after) =
    get_or-set_other (put_all now (enumerate_from copy.to copy.words)) copy.from x (header_bits (Forward copy.to)) 0 other ∙ put_from-behind now copy.to x copy.words after

-- words stay that lie neither in the range where the objects stood nor among the copies
all_beside : (copies : List ObjectCopy) (now : List ℕ) (behind end to x : ℕ) → AllByRecursion HasObjectSize copies → StoodInOrder behind end copies → StandEndToEnd to copies
    → LiesOutside behind end x → LiesOutside to (to + copied_size copies) x → get_or (put_all now (flat_map writes_of copies)) x 0 ≡ get_or now x 0
all_beside [] now behind end to x sized ordered together stood copied = refl
all_beside (copy ∷ copies) now behind end to x sized ordered together stood copied =
    let size = length copy.words in
    let least = sized.0.least in
    let more = size_more copy copies in
    let fits = ordered_size (copy.from + size) end copies ordered.1 in
    let after = ordered.0 in
    let here = together.0 in
    let other : x ≢ copy.from = λ same. elim stood [ inl less ↦ omega arith | inr past ↦ omega arith ] in
    let one : LiesOutside copy.to (copy.to + size) x = elim copied [ inl less ↦ inl (omega arith) | inr past ↦ inr (omega arith) ] in
    let later : LiesOutside (copy.from + size) end x = elim stood [ inl less ↦ inl (omega arith) | inr past ↦ inr past ] in
    let rest : LiesOutside (to + size) (to + size + copied_size copies) x = elim copied [ inl less ↦ inl (omega arith) | inr past ↦ inr (omega arith) ] in
    ap (λ (ws : List ℕ). get_or ws x 0) (put_first now copy copies)
    ∙ all_beside copies (with_one now copy) (copy.from + size) end (to + size) x sized.1 ordered.1 together.1 later rest
    ∙ one_beside now copy x other one

-- what was written of a copy stands there
pub record IsWritten (after : List ℕ) (copy : ObjectCopy) : Type 0 where
  pub forwarded : get_or after copy.from 0 ≡ header_bits (Forward copy.to)
  pub copied : (i : ℕ) → i < length copy.words → get_or after (copy.to + i) 0 ≡ get_or copy.words i 0

one_written : (now : List ℕ) (copy : ObjectCopy) → copy.from < length now → copy.to + length copy.words ≤ length now → LiesOutside copy.to (copy.to + length copy.words) copy.from → IsWritten (with_one now copy) copy
one_written now copy low high outside =
    let long = length-put_all (enumerate_from copy.to copy.words) now in
    record {
      forwarded = get_or-set_same (put_all now (enumerate_from copy.to copy.words)) copy.from (header_bits (Forward copy.to)) 0 (omega arith);
      copied = λ i within.
          let other : copy.to + i ≢ copy.from = λ same. elim outside [ inl less ↦ omega arith | inr past ↦ omega arith ] in
          get_or-set_other (put_all now (enumerate_from copy.to copy.words)) copy.from (copy.to + i) (header_bits (Forward copy.to)) 0 other ∙ put_from-at now copy.to i copy.words high within;
    }

-- the same for all copies, if the spaces don't overlap
all_written : (copies : List ObjectCopy) (now : List ℕ) (behind end to : ℕ) (copy : ObjectCopy) → AllByRecursion HasObjectSize copies → StoodInOrder behind end copies → StandEndToEnd to copies
    → end ≤ length now → to + copied_size copies ≤ length now → (end ≤ to) ⊎ (to + copied_size copies ≤ behind) → Contains copies copy → IsWritten (put_all now (flat_map writes_of copies)) copy
all_written [] now behind end to copy sized ordered together low high apart has = absurd (Contains-none copy has)
all_written (c ∷ copies) now behind end to copy sized ordered together low high apart has =
    let size = length c.words in
    let least = sized.0.least in
    let more = size_more c copies in
    let fits = ordered_size (c.from + size) end copies ordered.1 in
    let after = ordered.0 in
    let here = together.0 in
    let long = length-with_one now c in
    let later : (end ≤ to + size) ⊎ (to + size + copied_size copies ≤ c.from + size) = elim apart [ inl first ↦ inl (omega arith) | inr second ↦ inr (omega arith) ] in
    let outside : LiesOutside c.to (c.to + size) c.from = elim apart [ inl first ↦ inl (omega arith) | inr second ↦ inr (omega arith) ] in
    let one = one_written now c (omega arith) (omega arith) outside in
    let all = put_all (with_one now c) (flat_map writes_of copies) in
    let stays : (x : ℕ) → LiesOutside (c.from + size) end x → LiesOutside (to + size) (to + size + copied_size copies) x → get_or all x 0 ≡ get_or (with_one now c) x 0 =
    λ x. all_beside copies (with_one now c) (c.from + size) end (to + size) x sized.1 ordered.1 together.1 in
    let first : IsWritten all c = record {
      forwarded = stays c.from (inl (omega arith)) (elim apart [ inl f ↦ inl (omega arith) | inr s ↦ inr (omega arith) ]) ∙ one.forwarded;
      copied = λ i within. stays (c.to + i) (elim apart [ inl f ↦ inr (omega arith) | inr s ↦ inl (omega arith) ]) (inl (omega arith)) ∙ one.copied i within;
    } in
    subst (λ (ws : List ℕ). IsWritten ws copy) (sym (put_first now c copies))
    (elim (Contains-cases c copies copy has) [
      | inl same ↦ subst (IsWritten all) same first
      | inr rest ↦ all_written copies (with_one now c) (c.from + size) end (to + size) copy sized.1 ordered.1 together.1 (omega arith) (omega arith) later rest
    ])

-- a copy's words are those of its object
pub copy_same : (words : List ℕ) (to : ℕ) (ats : List ℕ) (copy : ObjectCopy) → Contains (copies_from words to ats) copy → copy.words ≡ object_words_at words copy.from
copy_same words to [] copy has = absurd (Contains-none copy has)
copy_same words to (at ∷ ats) copy has =
    elim (Contains-cases (record { from = at; to = to; words = object_words_at words at }) (copies_from words (to + length (object_words_at words at)) ats) copy has) [
      | inl same ↦ subst (λ (c : ObjectCopy). c.words ≡ object_words_at words c.from) same refl
      | inr behind ↦ copy_same words (to + length (object_words_at words at)) ats copy behind
    ]

copy_sized : (copies : List ObjectCopy) (copy : ObjectCopy) → AllByRecursion HasObjectSize copies → Contains copies copy → HasObjectSize copy
copy_sized [] copy sized has = absurd (Contains-none copy has)
copy_sized (c ∷ copies) copy sized has = elim (Contains-cases c copies copy has) [
  | inl same ↦ subst HasObjectSize same sized.0
  | inr behind ↦ copy_sized copies copy sized.1 behind
]

-- a copy lies within all words
copy_ends : (copies : List ObjectCopy) (to : ℕ) (copy : ObjectCopy) → StandEndToEnd to copies → Contains copies copy → copy.to + length copy.words ≤ to + copied_size copies
copy_ends [] to copy together has = absurd (Contains-none copy has)
copy_ends (c ∷ copies) to copy together has =
    let more = size_more c copies in
    let here = together.0 in
    elim (Contains-cases c copies copy has) [
      | inl same ↦ subst (λ (k : ObjectCopy). k.to + length k.words ≤ to + copied_size (c ∷ copies)) same (omega arith)
      | inr behind ↦ let rest = copy_ends copies (to + length c.words) copy together.1 behind in omega arith
    ]

-- what is written of an object has moved
written_moved : (before after : List ℕ) (copy : ObjectCopy) (n : ℕ) → object_at before copy.from ≡ Some n → copy.words ≡ object_words_at before copy.from → copy.to + (2 + n) ≤ length after
    → IsWritten after copy → IsCopiedObject before after copy
written_moved before after copy n is same high written =
    let long : length copy.words ≡ 2 + n = ap length same ∙ object_words-length before copy.from n is in
    let word : (i : ℕ) → i < length copy.words → get_or copy.words i 0 ≡ get_or before (copy.from + i) 0 =
    λ i within.
    ap (λ (ws : List ℕ). get_or ws i 0) (same ∙ object_words before copy.from n is)
    ∙ get_or-take (2 + n) (drop copy.from before) i 0 (omega arith)
    ∙ get_or-drop copy.from before i 0 in
    let here : copy.to + 0 ≡ copy.to = omega arith in
    let there : copy.from + 0 ≡ copy.from = omega arith in
    let head : get_or after copy.to 0 ≡ get_or before copy.from 0 =
    ap (λ (x : ℕ). get_or after x 0) (sym here) ∙ written.copied 0 (omega arith) ∙ word 0 (omega arith) ∙ ap (λ (x : ℕ). get_or before x 0) there in
    record {
      forwarded = written.forwarded;
      object = object_moved before after copy.from copy.to n is head (omega arith) ∙ sym is;
      same_words = λ i within. written.copied i within ∙ word i within;
    }
  where
    object_moved : (words others : List ℕ) (from to m : ℕ) → object_at words from ≡ Some m → get_or others to 0 ≡ get_or words from 0 → to + 2 + m ≤ length others → object_at others to ≡ Some m
    object_moved words others from to m stands header_is within =
        ap (λ w. whole_length others to (header w)) header_is
        ∙ ap (whole_length others to) (object_header words from m stands).0
        ∙ ap (λ b. if b then Some m else None) (le-leb (to + 2 + m) (length others) within)

-- After the record of a planned flip each object that it copies has moved.
pub planned_moved : (spaces : SpacesState) (words roots : List ℕ) (copy : ObjectCopy) → IsSpaces spaces → words_in spaces.pages ≤ length words → AreCopiesOf spaces (root_copies spaces words roots)
    → Contains (root_copies spaces words roots) copy → IsCopiedObject words (put_record words (flip_record spaces words roots)) copy
planned_moved spaces words roots copy is long are has =
    let copies = root_copies spaces words roots in
    let to = (flipped spaces).base in
    let after = put_record words (flip_record spaces words roots) in
    let size = planned_size spaces copies are in
    let room = is.room in
    let low : spaces.base + spaces.used ≤ length words = elim is.first [ inl first ↦ omega arith | inr second ↦ omega arith ] in
    let high : to + copied_size copies ≤ length words = elim is.first [ inl first ↦ omega arith | inr second ↦ omega arith ] in
    let apart : (spaces.base + spaces.used ≤ to) ⊎ (to + copied_size copies ≤ spaces.base) = elim is.first [ inl first ↦ inl (omega arith) | inr second ↦ inr (omega arith) ] in
    let written = all_written copies words spaces.base (spaces.base + spaces.used) to copy are.sized are.ordered are.together low high apart has in
    let same = copy_same words to (with_base spaces.base roots) copy has in
    let least = (copy_sized copies copy are.sized has).least in
    let object = words_object words copy.from (subst (λ (ws : List ℕ). 2 ≤ length ws) same least) in
    let fits = ap length same ∙ object_words-length words copy.from object.0 object.1 in
    let ends = copy_ends copies to copy are.together has in
    let whole : length after ≡ length words = length-put_all (flat_map writes_of copies) words in
    written_moved words after copy object.0 object.1 same (omega arith) written
