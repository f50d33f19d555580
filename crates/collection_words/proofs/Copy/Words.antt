-- The words after a copy: the copy has the object's words, where that stood is a forwarding word, and all else is as before.
use Rattle.std.proofs.Common.{◌≡◌, ◌≢◌, ◌⊎◌, ℕ, suc, ◌+◌, ◌<◌, ◌≤◌, inl, inr, List, [], ◌∷◌, ◌++◌, length, get_or, Some, sym, ap, ◌∙◌, subst, arith}
use Rattle.std.specs.Prelude.{Contains, slice_index, slice_set}
use Rattle.std.specs.List.{enumerate_from}
use Rattle.std.proofs.lemmas.List.{get_or-set_other, get_or-set_same}
use Rattle.std.proofs.lemmas.Option.{same_Some}
use Rattle.heap_words.specs.declared.Header.TheVariants.{Forward}
use Rattle.heap_words.specs.Header.{header_bits}
use Rattle.heap_spaces.specs.Collection.{Collection}
use Rattle.graph_model.specs.declared.id.Id.{Id}
use Rattle.object_layout.specs.Layout.{object_at}
use Rattle.object_layout.proofs.LayoutLaws.{object_header}
use Rattle.object_layout.proofs.ObjectLaws.{object_same}
use Rattle.object_layout.proofs.WalkLaws.{Contains-cases, Contains-none}
use Rattle.log_machine.specs.Collecting.{other_base}
use Rattle.log_machine.specs.Machine.{State, field_at, put_all, space_words, writes_of}
use Rattle.log_machine.proofs.StateLaws.{spaced_more}
use Rattle.log_machine.proofs.WordsLaws.{length-put_all}
use Rattle.log_machine.proofs.WordsFrom.{put_from-at, put_from-before, put_from-behind}
use Rattle.graph_words.specs.Places.{Places, address_of, addresses}
use Rattle.graph_words.proofs.Places.Addresses.{address_of-Contains}
use Rattle.graph_words.proofs.Stands.Objects.{word_at_field}
use Rattle.collection_words.specs.Completed.{IsMade, taken_by, without}
use Rattle.collection_words.specs.Copying.{words_after_copy, next_copy, words_to_copy}
use Rattle.collection_words.specs.LaidOut.{AreOldEndToEnd, old_length}
use Rattle.collection_words.specs.Placed.{HaveOwnNames}
use Rattle.collection_words.proofs.Copy.Ascending.{addresses_without, taken_without}
use Rattle.collection_words.proofs.Copy.Named.{left_ascend}
use Rattle.collection_words.proofs.Laid.Old.{apart_spaces, left_within, old_length-object, old_within}
use Rattle.collection_words.proofs.Laid.Sources.{IsCollecting, left_object, left_taken}
use Rattle.collection_words.proofs.Laid.Within.{start_within}
use Rattle.collection_words.proofs.Moves.Ends.{taken_object}
use Rattle.collection_words.proofs.Words.Objects.{object_like}
use Rattle.collection_words.proofs.Words.Put.{put_all-append}

-- A collection can copy an object that remains.
pub record IsCopying (s : State) (k : Collection) (places remaining : Places) (words : List ℕ) (id : Id) (from : ℕ) : Type 0 where
  pub is : IsCollecting s k places remaining words
  pub own : HaveOwnNames (places ++ remaining)
  pub left : address_of remaining id ≡ Some from

-- What is known of the object and of the room for its copy.
pub record CopyRoom (s : State) (k : Collection) (places remaining : Places) (words : List ℕ) (from : ℕ) : Type 0 where
  pub fields : ℕ
  pub object : object_at words from ≡ Some fields
  pub size : length (words_to_copy words from) ≡ 2 + fields
  pub above : other_base s ≤ from
  pub below : from + 2 + fields ≤ other_base s + space_words s.pages
  pub rest : taken_by words (addresses remaining) ≡ 2 + fields + taken_by words (addresses (without remaining from))
  pub room : s.used + (2 + fields) ≤ space_words s.pages
  pub fits : s.base + s.used + (2 + fields) ≤ length words

pub copy_room : {s : State} {k : Collection} {places remaining : Places} {words : List ℕ} {id : Id} {from : ℕ} → IsCopying s k places remaining words id from → CopyRoom s k places remaining words from
copy_room {s} {k} {places} {remaining} {words} {id} {from} copying =
    let is = copying.is in
    let has = address_of-Contains remaining id from copying.left in
    let lies = left_within is from has in
    let n = lies.fields in
    let taken = taken_object words from n lies.object in
    let rest : taken_by words (addresses remaining) ≡ 2 + n + taken_by words (addresses (without remaining from)) =
    omega (arith, taken_without words from (other_base s) (addresses remaining) (left_ascend is) has, ap (taken_by words) (addresses_without remaining from)) in
    let all = left_taken is in
    let space = is.spaced.room in
    let room : s.used + (2 + n) ≤ space_words s.pages = omega arith in
    record {
      fields = n;
      object = lies.object;
      size = omega arith;
      above = lies.above;
      below = lies.below;
      rest = rest;
      room = room;
      fits = omega (arith, spaced_more s (2 + n) is.spaced room, is.long);
    }

copied_is : (s : State) (words : List ℕ) (from : ℕ)
    → words_after_copy s words from ≡ slice_set (put_all words (enumerate_from (s.base + s.used) (words_to_copy words from))) from (header_bits (Forward (s.base + s.used)))
copied_is s words from = put_all-append words (enumerate_from (s.base + s.used) (words_to_copy words from)) ((from, header_bits (Forward (s.base + s.used))) ∷ [])

-- the words stay as many
pub length-copied : (s : State) (words : List ℕ) (from : ℕ) → length (words_after_copy s words from) ≡ length words
length-copied s words from = length-put_all (writes_of (next_copy s words from)) words

-- no word of the copy is where the object stood
copy_apart : {s : State} {k : Collection} {places remaining : Places} {words : List ℕ} {id : Id} {from : ℕ} → IsCopying s k places remaining words id from → (at : ℕ) → s.base ≤ at
    → at < s.base + space_words s.pages → at ≢ from
copy_apart {s} {from = from} copying at above below =
    let room = copy_room copying in
    let ends = room.below in
    apart_spaces s copying.is.spaced at from above below room.above (omega arith)

-- each word of the object is one of the copy
pub copied_new : {s : State} {k : Collection} {places remaining : Places} {words : List ℕ} {id : Id} {from : ℕ} → (copying : IsCopying s k places remaining words id from) → (room : CopyRoom s k places remaining words from)
    → (j : ℕ) → j < 2 + room.fields → slice_index (words_after_copy s words from) (s.base + s.used + j) ≡ get_or (words_to_copy words from) j 0
copied_new {s} {words = words} {from = from} copying room j within =
    let to = s.base + s.used in
    let ws = words_to_copy words from in
    let size = room.size in
    let free = room.room in
    ap (λ (l : List ℕ). get_or l (to + j) 0) (copied_is s words from)
    ∙ get_or-set_other (put_all words (enumerate_from to ws)) from (to + j) (header_bits (Forward to)) 0 (copy_apart copying (to + j) (omega arith) (omega arith))
    ∙ put_from-at words to j ws (let fits = room.fits in omega arith) (omega arith)

-- where it stood is a forwarding word
pub copied_forward : {s : State} {k : Collection} {places remaining : Places} {words : List ℕ} {id : Id} {from : ℕ} → (copying : IsCopying s k places remaining words id from) → CopyRoom s k places remaining words from
    → slice_index (words_after_copy s words from) from ≡ header_bits (Forward (s.base + s.used))
copied_forward {s} {words = words} {from = from} copying room =
    let to = s.base + s.used in
    let long = length-put_all (enumerate_from to (words_to_copy words from)) words in
    let whole = (object_header words from room.fields room.object).1 in
    ap (λ (l : List ℕ). get_or l from 0) (copied_is s words from)
    ∙ get_or-set_same (put_all words (enumerate_from to (words_to_copy words from))) from (header_bits (Forward to)) 0 (omega arith)

-- every other word is as before
pub copied_kept : {s : State} {k : Collection} {places remaining : Places} {words : List ℕ} {from : ℕ} (room : CopyRoom s k places remaining words from) (i : ℕ) → i ≢ from
    → (i < s.base + s.used) ⊎ (s.base + s.used + (2 + room.fields) ≤ i) → slice_index (words_after_copy s words from) i ≡ slice_index words i
copied_kept {s} {words = words} {from = from} room i other (inl before) =
    let to = s.base + s.used in
    ap (λ (l : List ℕ). get_or l i 0) (copied_is s words from)
    ∙ get_or-set_other (put_all words (enumerate_from to (words_to_copy words from))) from i (header_bits (Forward to)) 0 other
    ∙ put_from-before words to i (words_to_copy words from) before
copied_kept {s} {words = words} {from = from} room i other (inr behind) =
    let to = s.base + s.used in
    let size = room.size in
    ap (λ (l : List ℕ). get_or l i 0) (copied_is s words from)
    ∙ get_or-set_other (put_all words (enumerate_from to (words_to_copy words from))) from i (header_bits (Forward to)) 0 other
    ∙ put_from-behind words to i (words_to_copy words from) (omega arith)

-- each used word is
pub copied_current : {s : State} {k : Collection} {places remaining : Places} {words : List ℕ} {id : Id} {from : ℕ} → (copying : IsCopying s k places remaining words id from) → CopyRoom s k places remaining words from
    → (i : ℕ) → s.base ≤ i → i < s.base + s.used → slice_index (words_after_copy s words from) i ≡ slice_index words i
copied_current copying room i above below =
    let free = room.room in
    copied_kept room i (copy_apart copying i above (omega arith)) (inl below)

-- and each other word of the from-space
pub copied_old : {s : State} {k : Collection} {places remaining : Places} {words : List ℕ} {id : Id} {from : ℕ} → (copying : IsCopying s k places remaining words id from) → CopyRoom s k places remaining words from
    → (i : ℕ) → other_base s ≤ i → i < other_base s + space_words s.pages → i ≢ from → slice_index (words_after_copy s words from) i ≡ slice_index words i
copied_old {s} copying room i above below other =
    let free = room.room in
    copied_kept room i other (elim copying.is.spaced.first [ inl low ↦ inr (omega arith) | inr high ↦ inl (omega arith) ])

-- Objects.

-- an object whose words are as before stays as it is
pub kept_made : (words others : List ℕ) (at n : ℕ) → object_at words at ≡ Some n → length others ≡ length words → ((j : ℕ) → j < 2 + n → slice_index others (at + j) ≡ slice_index words (at + j))
    → IsMade (λ w. w) words others at at n
kept_made words others at n is long same =
    let whole = (object_header words at n is).1 in
    let here : at + 0 ≡ at = omega arith in
    let head : slice_index others at ≡ slice_index words at = subst (λ (x : ℕ). slice_index others x ≡ slice_index words x) here (same 0 (omega arith)) in
    record {
      was = is;
      is = object_same words others at n is head (omega arith);
      birth = same 1 (omega arith);
      fields = λ i below. let place : at + (2 + i) ≡ field_at at i = omega arith in subst (λ (x : ℕ). slice_index others x ≡ slice_index words x) place (same (2 + i) (omega arith));
    }

-- a current object is as before
pub copied_here : {s : State} {k : Collection} {places remaining : Places} {words : List ℕ} {id : Id} {from : ℕ} → (copying : IsCopying s k places remaining words id from) → CopyRoom s k places remaining words from
    → (at n : ℕ) → Contains (addresses places) at → object_at words at ≡ Some n → IsMade (λ w. w) words (words_after_copy s words from) at at n
copied_here {s} {words = words} {from = from} copying room at n has object =
    let within = start_within copying.is.laid at has in
    let same = same_Some within.fields n (sym within.object ∙ object) in
    let above = within.above in
    let below = within.below in
    kept_made words (words_after_copy s words from) at n object (length-copied s words from) (λ j few. copied_current copying room (at + j) (omega arith) (omega arith))

-- two objects of the from-space are one, or lie apart
old_apart : (words : List ℕ) (from : ℕ) (starts : List ℕ) (end a n b : ℕ) → AreOldEndToEnd words from starts end → Contains starts a → old_length words a ≡ Some n → Contains starts b
    → (a ≡ b) ⊎ ((a + 2 + n ≤ b) ⊎ (b < a))
old_apart words from [] end a n b ends has long has' = absurd (Contains-none a has)
old_apart words from (x ∷ xs) end a n b (m, same, first, more) has long has' = elim (Contains-cases x xs a has) [
  | inl here ↦ elim (Contains-cases x xs b has') [
    | inl here' ↦ inl (sym here ∙ here')
    | inr later ↦
        let equal : m ≡ n = same_Some m n (sym first ∙ ap (old_length words) here ∙ long) in
        let far = (old_within words (x + 2 + m) xs end b more later).above in inr (inl (omega arith))
  ]
  | inr behind ↦ elim (Contains-cases x xs b has') [
    | inl here' ↦ let far = (old_within words (x + 2 + m) xs end a more behind).above in inr (inr (omega arith))
    | inr later ↦ old_apart words (x + 2 + m) xs end a n b more behind long later
  ]
]

-- so is another one that remains
pub copied_left : {s : State} {k : Collection} {places remaining : Places} {words : List ℕ} {id : Id} {from : ℕ} → (copying : IsCopying s k places remaining words id from) → CopyRoom s k places remaining words from
    → (at n : ℕ) → Contains (addresses remaining) at → at ≢ from → object_at words at ≡ Some n → IsMade (λ w. w) words (words_after_copy s words from) at at n
copied_left {s} {k} {remaining = remaining} {words = words} {id = id} {from = from} copying room at n has other object =
    let is = copying.is in
    let lies = left_within is at has in
    let same = same_Some lies.fields n (sym lies.object ∙ object) in
    let above = lies.above in
    let below = lies.below in
    let start = (left_object is.from at has).start in
    let gone = (left_object is.from from (address_of-Contains remaining id from copying.left)).start in
    let apart = old_apart words (other_base s) is.from.starts (other_base s + k.used) at n from is.from.chain start (old_length-object words at n object) gone in
    kept_made words (words_after_copy s words from) at n object (length-copied s words from) (λ j few.
    copied_old copying room (at + j) (omega arith) (omega arith) (λ equal. elim apart [
      | inl one ↦ other one
      | inr (inl before) ↦ omega arith
      | inr (inr behind) ↦ omega arith
    ]))

-- and the copy is the object
pub copied_made : {s : State} {k : Collection} {places remaining : Places} {words : List ℕ} {id : Id} {from : ℕ} → (copying : IsCopying s k places remaining words id from) → (room : CopyRoom s k places remaining words from)
    → IsMade (λ w. w) words (words_after_copy s words from) from (s.base + s.used) room.fields
copied_made {s} {words = words} {from = from} copying room =
    let to = s.base + s.used in
    let others = words_after_copy s words from in
    let n = room.fields in
    let fits = room.fits in
    let long = length-copied s words from in
    let here : to + 0 ≡ to = omega arith in
    let head : slice_index others to ≡ slice_index words from = ap (slice_index others) (sym here) ∙ copied_new copying room 0 (omega arith) in
    record {
      was = room.object;
      is = object_like words others from to n room.object head (omega arith);
      birth = copied_new copying room 1 (omega arith);
      fields = λ i below.
          let place : field_at to i ≡ to + suc (suc i) = omega arith in
          ap (slice_index others) place ∙ copied_new copying room (suc (suc i)) (omega arith) ∙ sym (word_at_field words from n i room.object below);
    }
