-- The copy of an object keeps births.
use Rattle.std.proofs.Common.{◌≡◌, ◌≢◌, ℕ, ◌+◌, ◌<◌, ◌≤◌, inl, inr, Bool, true, false, List, [], ◌∷◌, ◌++◌, Some, sym, ap, ◌∙◌, subst, arith}
use Rattle.std.specs.Prelude.{Contains, filter, slice_index, if◌then◌else◌}
use Rattle.std.specs.FinSet.{contains}
use Rattle.std.specs.List.{AllByRecursion}
use Rattle.std.proofs.lemmas.Bool.{cases_order}
use Rattle.heap_words.specs.declared.Header.TheVariants.{Forward}
use Rattle.heap_words.specs.Header.{header}
use Rattle.heap_words.proofs.HeaderLaws.{header-header_bits}
use Rattle.heap_spaces.specs.Collection.{Collection}
use Rattle.graph_model.specs.declared.id.Id.{Id}
use Rattle.object_layout.specs.Layout.{birth_at, id_at, id_of}
use Rattle.object_layout.proofs.WalkLaws.{Contains-cases, Contains-none}
use Rattle.log_machine.specs.Collecting.{other_base}
use Rattle.log_machine.specs.Machine.{State, words_in}
use Rattle.log_machine.proofs.ListLaws.{AllByRecursion-append}
use Rattle.graph_words.specs.Places.{Places, addresses}
use Rattle.graph_words.specs.Stands.{AreNamedByBirth}
use Rattle.graph_words.proofs.Places.Addresses.{address_of-Contains, placed_as}
use Rattle.graph_words.proofs.Stands.TakenBack.{renamed}
use Rattle.collection_words.specs.Completed.{without}
use Rattle.collection_words.specs.Copying.{words_after_copy, with_place}
use Rattle.collection_words.specs.LaidOut.{AreOldEndToEnd}
use Rattle.collection_words.proofs.Copy.Laid.{copied_collection, copied_state, old_each, still_left}
use Rattle.collection_words.proofs.Copy.Words.{CopyRoom, IsCopying, copied_forward, copied_here, copied_left, copied_made, copied_old, copy_room}
use Rattle.collection_words.proofs.Laid.Old.{collection_within, old_within}
use Rattle.collection_words.proofs.Laid.Sources.{left_object}
use Rattle.collection_words.proofs.Laid.Within.{start_within}
use Rattle.collection_words.proofs.Laid.Write.{old_ends_same}
use Rattle.collection_words.proofs.Steps.Addresses.{contains-other}
use Rattle.walk_laws.specs.Births.{HasOriginals}
use Rattle.walk_laws.specs.Heap.{TellsBirths}
use Rattle.walk_laws.proofs.Birth.Born.{olds_once}
use Rattle.walk_laws.proofs.Birth.Scanned.{first_all}
use Rattle.walk_laws.proofs.Birth.TakenBack.{forward_one}

-- Lists.

pub rest_all : {X : Type 0} (P : X → Type 0) (xs ys : List X) → AllByRecursion P (xs ++ ys) → AllByRecursion P ys
rest_all P [] ys all = all
rest_all P (x ∷ xs) ys all = rest_all P xs ys all.1

kept_one : {X : Type 0} (P : X → Type 0) (x : X) (xs : List X) (b : Bool) → P x → AllByRecursion P xs → AllByRecursion P (if b then x ∷ xs else xs)
kept_one P x xs true one all = (one, all)
kept_one P x xs false one all = all

kept_all : {X : Type 0} (P : X → Type 0) (q : X → Bool) (xs : List X) → AllByRecursion P xs → AllByRecursion P (filter q xs)
kept_all P q [] all = tt
kept_all P q (x ∷ xs) all = kept_one P x (filter q xs) (q x) all.0 (kept_all P q xs all.1)

-- no two objects of the from-space are next to one another
starts_apart : (words : List ℕ) (from : ℕ) (starts : List ℕ) (end a b : ℕ) → AreOldEndToEnd words from starts end → Contains starts a → Contains starts b → a + 1 ≢ b
starts_apart words from [] end a b ends one other same = Contains-none a one
starts_apart words from (x ∷ xs) end a b (n, equal, long, more) one other same = elim (Contains-cases x xs a one) [
  | inl here ↦ elim (Contains-cases x xs b other) [
    | inl here' ↦ omega arith
    | inr later ↦ let far = (old_within words (x + 2 + n) xs end b more later).above in omega arith
  ]
  | inr behind ↦ elim (Contains-cases x xs b other) [
    | inl here' ↦ let far = (old_within words (x + 2 + n) xs end a more behind).above in omega arith
    | inr later ↦ starts_apart words (x + 2 + n) xs end a b more behind later same
  ]
]

-- Names.

copied_names : {s : State} {k : Collection} {places remaining : Places} {words : List ℕ} {id : Id} {from : ℕ} (copying : IsCopying s k places remaining words id from) → CopyRoom s k places remaining words from
    → AreNamedByBirth (places ++ remaining) words → AreNamedByBirth (with_place s places id ++ without remaining from) (words_after_copy s words from)
copied_names {s} {k} {places} {remaining} {words} {id} {from} copying room names =
    let others = words_after_copy s words from in
    let Named : Id × ℕ → Type 0 = λ p. id_at words p.1 ≡ p.0 in
    let Named_then : Id × ℕ → Type 0 = λ p. id_at others p.1 ≡ p.0 in
    let names_left = rest_all Named places remaining names in
    let here = renamed places words others (λ at has. let there = start_within copying.is.laid at has in (copied_here copying room at there.fields has there.object).birth) (first_all Named places remaining names) in
    let new : id_at others (s.base + s.used) ≡ id = ap id_of (copied_made copying room).birth ∙ placed_as Named remaining id from names_left copying.left in
    let left = renamed (without remaining from) words others (λ at has.
    let still = still_left remaining from at has in
    let object = left_object copying.is.from at still.0 in
    (copied_left copying room at object.fields still.0 still.1 object.object).birth) (kept_all Named _ remaining names_left) in
    AllByRecursion-append Named_then (with_place s places id) (without remaining from) (AllByRecursion-append Named_then places ((id, s.base + s.used) ∷ []) here (new, tt)) left

-- The from-space's births.

copied_originals : {s : State} {k : Collection} {places remaining : Places} {words : List ℕ} {id : Id} {from : ℕ} (copying : IsCopying s k places remaining words id from) → words_in s.pages ≤ 2097152
    → HasOriginals s words (Some k) → HasOriginals (copied_state s k words from) (words_after_copy s words from) (Some (copied_collection s k words from))
copied_originals {s} {k} {places} {remaining} {words} {id} {from} copying limit (olds, ends, told) =
    let is = copying.is in
    let room = copy_room copying in
    let others = words_after_copy s words from in
    let to = s.base + s.used in
    let fits = room.fits in
    let whole = is.long in
    let small : to < 2097152 = omega arith in
    let same = olds_once words (other_base s) olds is.from.starts (other_base s + k.used) ends is.from.chain in
    let start : (at : ℕ) → Contains olds at → Contains is.from.starts at = λ at has. subst (λ (xs : List ℕ). Contains xs at) same has in
    let gone = subst (λ (xs : List ℕ). Contains xs from) (sym same) (left_object is.from from (address_of-Contains remaining id from copying.left)).start in
    let birth : (at : ℕ) → Contains olds at → birth_at others at ≡ birth_at words at = λ at has.
    let lies = old_within words (other_base s) olds (other_base s + k.used) at ends has in
    let above = lies.above in
    let below = lies.below in
    let space = (collection_within is).used in
    copied_old copying room (at + 1) (omega arith) (omega arith) (starts_apart words (other_base s) olds (other_base s + k.used) at from ends has gone) in (
      olds,
      old_ends_same words others (other_base s) olds (other_base s + k.used) (λ at has. (old_each copying room small at (start at has)).1) ends,
      record {
        own_births = λ a b one other equal. told.own_births a b one other (sym (birth a one) ∙ equal ∙ birth b other);
        kept = λ at there has leads. elim (cases_order at from) [
          | inl here ↦
              let head = ap header (ap (slice_index others) here ∙ copied_forward copying room) ∙ header-header_bits (Forward to) small in
              let one = forward_same to there (sym head ∙ leads) in
              ap (birth_at others) (sym one) ∙ (copied_made copying room).birth ∙ ap (birth_at words) (sym here) ∙ sym (birth at has)
          | inr beside ↦
              let other : at ≢ from = λ equal. elim beside [ inl less ↦ omega arith | inr more ↦ omega arith ] in
              let lies = old_within words (other_base s) olds (other_base s + k.used) at ends has in
              let above = lies.above in
              let below = lies.below in
              let space = (collection_within is).used in
              let led_words = sym (ap header (copied_old copying room at above (omega arith) other)) ∙ leads in
              let current = forward_one words (addresses places) at there (contains k.moved at) led_words (is.from.forwarded at (start at has)) in
              let within = start_within is.laid there current in
              (copied_here copying room there within.fields current within.object).birth ∙ told.kept at there has led_words ∙ sym (birth at has)
        ];
        moved = λ at moved. elim (cases_order at from) [
          | inl here ↦ subst (λ (x : ℕ). Contains olds x) (sym here) gone
          | inr beside ↦
              let other : at ≢ from = λ equal. elim beside [ inl less ↦ omega arith | inr more ↦ omega arith ] in
              told.moved at (sym (contains-other k.moved from at other) ∙ moved)
        ];
      },
    )
  where
    forward_same : (a b : ℕ) → Some (Forward a) ≡ Some (Forward b) → a ≡ b
    forward_same a b equal = cc

-- A copy keeps births.
pub copy_births : {s : State} {k : Collection} {places remaining : Places} {words : List ℕ} {id : Id} {from : ℕ} → IsCopying s k places remaining words id from → words_in s.pages ≤ 2097152 → TellsBirths s places remaining words
    → TellsBirths (copied_state s k words from) (with_place s places id) (without remaining from) (words_after_copy s words from)
copy_births {s} {k} {places} {remaining} {words} {id} {from} copying limit tells = record {
  names = copied_names copying (copy_room copying) tells.names;
  originals = copied_originals copying limit (subst (HasOriginals s words) copying.is.run tells.originals);
}
