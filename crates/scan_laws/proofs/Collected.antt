-- The words of a heap in a collection are such as a scan goes over.
use Rattle.std.proofs.Common.{◌≡◌, ℕ, suc, ◌+◌, ◌^◌, ◌<◌, ◌≤◌, inl, inr, Bool, true, false, List, ◌∷◌, length, take, drop, get_or, Option, None, Some, refl, sym, ap, ◌∙◌, subst, arith}
use Rattle.std.specs.Prelude.{Contains, slice_index}
use Rattle.std.specs.List.{AllByRecursion}
use Rattle.std.specs.FinSet.{contains}
use Rattle.std.proofs.Math.Seq.{drop-cons}
use Rattle.heap_words.specs.declared.Header.TheVariants.{Length}
use Rattle.heap_words.specs.declared.Word.{Word}
use Rattle.heap_words.specs.declared.Word.TheVariants as word
use Rattle.heap_words.specs.Header.{header_bits}
use Rattle.heap_words.specs.Word.{IsFieldWord, meaning}
use Rattle.heap_words.proofs.HeaderLaws.{bits-header}
use Rattle.heap_words.proofs.WordLaws.{bits-meaning}
use Rattle.heap_spaces.specs.Collection.{Collection, owed_by}
use Rattle.log_records.specs.Record.{IsObjectWords}
use Rattle.object_layout.specs.Layout.{field_words, object_at}
use Rattle.object_layout.specs.Walk.{IsInside}
use Rattle.object_layout.proofs.LayoutLaws.{length-field_words, object_header, object_small}
use Rattle.object_layout.proofs.ObjectLaws.{end_to_end_apart, field_words_at}
use Rattle.log_machine.specs.Collecting.{other_base}
use Rattle.log_machine.specs.Machine.{State, owed, space_words, spaces_of}
use Rattle.graph_words.specs.Places.{Places, addresses}
use Rattle.collection_words.specs.Completed.{in_other_space, taken_by}
use Rattle.collection_words.specs.LaidOut.{StandsOrForwards, LeadsHere, MayLeadBack}
use Rattle.collection_words.proofs.Laid.Old.{collection_within, current_not_other}
use Rattle.collection_words.proofs.Laid.Sources.{IsCollecting, here_ends, left_object}
use Rattle.collection_words.proofs.Laid.Within.{start_within}
use Rattle.collection_words.proofs.Laid.Write.{unmoved_left}
use Rattle.page_scanner.specs.Bounds.{AreGrayApart}
use Rattle.page_scanner.specs.Heap as scanned
use Rattle.page_scanner.specs.Heap.{IsCollected, IsWaiting, LeadsOn}
use Rattle.page_scanner.specs.Scan.{object_words}
use Rattle.scan_laws.proofs.Olds.{all_fields, old_size, old_size_object, olds_counted, olds_fill, olds_has, olds_of, olds_start}

-- Where fields lead.

-- a field that leads to an object of the from-space leads on
inside_on : (s : State) (words starts : List ℕ) (meant : Option Word) → IsInside starts meant → LeadsOn (spaces_of s) (olds_of words starts) meant
inside_on s words starts None inside = absurd inside
inside_on s words starts (Some word.Null) inside = tt
inside_on s words starts (Some (word.Int n)) inside = tt
inside_on s words starts (Some (word.Volatile index)) inside = absurd inside
inside_on s words starts (Some (word.Stable b)) inside = λ old. (_, olds_has words starts b inside)

-- one that leads to a current object leads to no other space
here_on : {s : State} {k : Collection} {places remaining : Places} {words : List ℕ} → IsCollecting s k places remaining words → (olds : List (ℕ × ℕ)) (meant : Option Word) → LeadsHere (addresses places) meant
    → LeadsOn (spaces_of s) olds meant
here_on is olds None leads = absurd leads
here_on is olds (Some word.Null) leads = tt
here_on is olds (Some (word.Int n)) leads = tt
here_on is olds (Some (word.Volatile index)) leads = tt
here_on {s} is olds (Some (word.Stable b)) leads = λ old.
    let within = start_within is.laid b leads in
    let above = within.above in
    let below = within.below in
    let room = is.spaced.room in
    let here : in_other_space s b ≡ false = current_not_other s is.spaced b above (omega (arith, below, room)) in absurd (cc (sym here ∙ old))

back_on : {s : State} {k : Collection} {places remaining : Places} {words : List ℕ} → IsCollecting s k places remaining words → (starts : List ℕ) (meant : Option Word)
    → MayLeadBack (addresses places) starts meant → LeadsOn (spaces_of s) (olds_of words starts) meant
back_on is starts meant (inl here) = here_on is (olds_of _ starts) meant here
back_on {s} {words = words} is starts meant (inr (from, leads, has)) =
    subst (LeadsOn (spaces_of s) (olds_of words starts)) (sym leads) (λ old. (_, olds_has words starts from has))

-- Words of a record.

inside_field : (starts : List ℕ) (w : ℕ) (meant : Option Word) → meaning w ≡ meant → IsInside starts meant → IsFieldWord w
inside_field starts w None is inside = absurd inside
inside_field starts w (Some m) is inside = let word = bits-meaning w m is in (m, word.0, word.1)

-- the words of an object are its header, its birth and its fields
pub object_parts : (words : List ℕ) (at n : ℕ) → object_at words at ≡ Some n → object_words words at n ≡ get_or words at 0 ∷ get_or words (suc at) 0 ∷ field_words words at
object_parts words at n is =
    let within = (object_header words at n is).1 in
    let there : suc (suc at) ≡ at + 2 = omega arith in
    let long : 2 + n ≡ suc (suc n) = omega arith in
    ap (λ (k : ℕ). take k (drop at words)) long
    ∙ ap (take (suc (suc n))) (drop-cons words at 0 (omega (arith, within)))
    ∙ ap (λ (ws : List ℕ). get_or words at 0 ∷ take (suc n) ws) (drop-cons words (suc at) 0 (omega (arith, within)))
    ∙ ap (λ (ws : List ℕ). get_or words at 0 ∷ get_or words (suc at) 0 ∷ ws) (ap (λ (k : ℕ). take n (drop k words)) there ∙ sym (field_words_at words at n is))

-- the words of an object are those of a record, where its fields have field words
object_recorded : (words : List ℕ) (at n : ℕ) → object_at words at ≡ Some n → ((i : ℕ) → slice_index words i < 2 ^ 64) → AllByRecursion IsFieldWord (field_words words at) → IsObjectWords (object_words words at n)
object_recorded words at n is fit fields =
    let long = length-field_words words at n is in
    let small = object_small words at n is in
    let head : get_or words at 0 ≡ header_bits (Length n) = (bits-header (slice_index words at) (Length n) (object_header words at n is).0).1 in
    subst IsObjectWords (sym (object_parts words at n is))
    (record { tells = head ∙ ap (λ (k : ℕ). header_bits (Length k)) (sym long); few = omega (arith, long, small); birth_fits = fit (suc at); field_words = fields })

-- The objects of the from-space.

forwarded_on : {s : State} {k : Collection} {places remaining : Places} {words : List ℕ} → IsCollecting s k places remaining words → (b : ℕ) (t : Bool) → t ≡ true → StandsOrForwards words (addresses places) b t
    → scanned.IsForwarded (spaces_of s) words b
forwarded_on is b false moved none = absurd (cc moved)
forwarded_on is b true moved (to, leads, has) =
    let within = start_within is.laid to has in
    let below = within.below in
    record { to = to; leads = leads; low = within.above; high = omega (arith, below) }

still_waits : {s : State} {k : Collection} {places remaining : Places} {words : List ℕ} (is : IsCollecting s k places remaining words) → ((i : ℕ) → slice_index words i < 2 ^ 64) → (b size : ℕ)
    → Contains is.from.starts b → size ≡ old_size words b → contains k.moved b ≡ false → IsWaiting (spaces_of s) words (olds_of words is.from.starts) b size
still_waits {s} {k} {remaining = remaining} {words = words} is fit b size has sized unmoved =
    let starts = is.from.starts in
    let left = unmoved_left is.from b has unmoved in
    let object = left_object is.from b left in
    let n = object.fields in
    let each = is.from.inside b left n in
    record {
      fields = n;
      stands = object.object;
      whole = sized ∙ old_size_object words b n object.object;
      lead = all_fields (λ w. LeadsOn (spaces_of s) (olds_of words starts) (meaning w)) words b n object.object (λ i below. inside_on s words starts _ (each i object.object below));
      spelled = object_recorded words b n object.object fit
          (all_fields IsFieldWord words b n object.object (λ i below. inside_field starts _ _ refl (each i object.object below)));
    }

-- Gray objects.

gray_within : {s : State} {k : Collection} {places remaining : Places} {words : List ℕ} → IsCollecting s k places remaining words → (a : ℕ) → contains k.gray a ≡ true
    → (s.base ≤ a) × (a + 2 + length (field_words words a) ≤ s.base + s.used)
gray_within {words = words} is a gray =
    let within = start_within is.laid a (is.from.grays a gray) in
    let below = within.below in
    let long = length-field_words words a within.fields within.object in (within.above, omega (arith, below, long))

-- gray objects lie apart, in the used words
pub gray_apart : {s : State} {k : Collection} {places remaining : Places} {words : List ℕ} → IsCollecting s k places remaining words → AreGrayApart (spaces_of s) k words
gray_apart {s} {k} {places} {remaining} {words} is = record { inside = λ a gray. (gray_within is a gray).1; apart = apart }
  where
    apart : (a b : ℕ) → contains k.gray a ≡ true → contains k.gray b ≡ true → a < b → a + 2 + length (field_words words a) ≤ b
    apart a b gray gray' less =
        let one = start_within is.laid a (is.from.grays a gray) in
        let two = start_within is.laid b (is.from.grays b gray') in
        let long = length-field_words words a one.fields one.object in
        elim (end_to_end_apart words s.base (addresses places) (s.base + s.used) a one.fields b two.fields (here_ends is.laid) (is.from.grays a gray) one.object (is.from.grays b gray') two.object) [
          | inl same ↦ absurd (omega (arith, same, less))
          | inr (inl before) ↦ omega (arith, before, long)
          | inr (inr behind) ↦ absurd (omega (arith, behind, less))
        ]

gray_on : {s : State} {k : Collection} {places remaining : Places} {words : List ℕ} (is : IsCollecting s k places remaining words) (a : ℕ) → contains k.gray a ≡ true
    → scanned.AllLeadOn (spaces_of s) (olds_of words is.from.starts) (field_words words a)
gray_on {s} {words = words} is a gray =
    let has = is.from.grays a gray in
    let within = start_within is.laid a has in
    let n = within.fields in
    all_fields (λ w. LeadsOn (spaces_of s) (olds_of words is.from.starts) (meaning w)) words a n within.object
    (λ i below. back_on is is.from.starts _ (is.from.back a has n i within.object below))

-- The words are such as a scan goes over.
pub collected : {s : State} {k : Collection} {places remaining : Places} {words : List ℕ} → IsCollecting s k places remaining words → space_words s.pages + space_words s.pages ≤ 2097152
    → ((i : ℕ) → slice_index words i < 2 ^ 64) → IsCollected (spaces_of s) k words
collected {s} {k} {places} {remaining} {words} is small fit =
    let starts = is.from.starts in
    let olds = olds_of words starts in
    let space = collection_within is in
    let room = is.spaced.room in
    let owes : owed s ≡ owed_by (Some k) = ap owed_by is.run in
    let unmoved = λ (at : ℕ) (has : Contains starts at) (left : contains k.moved at ≡ false). subst (StandsOrForwards words (addresses places) at) left (is.from.forwarded at has) in
    let all = olds_counted k words (other_base s) starts (other_base s + k.used) is.from.chain unmoved in
    let sum = is.from.sum in
    let left = ap (taken_by words) is.from.left in
    record {
      olds = olds;
      filled = olds_fill words (other_base s) starts (other_base s + k.used) is.from.chain;
      counted = omega (arith, all, sum, left);
      room = omega (arith, room, owes);
      fits = space.used;
      few = elim is.spaced.first [ inl low ↦ omega (arith, low, small) | inr high ↦ omega (arith, high, small) ];
      forwarded = λ b size has moved. forwarded_on is b (contains k.moved b) moved (is.from.forwarded b (olds_start words starts b size has).0);
      waiting = λ b size has left. let old = olds_start words starts b size has in still_waits is fit b size old.0 old.1 left;
      gray_apart = gray_apart is;
      gray_here = λ a gray. (gray_within is a gray).0;
      gray_lead = gray_on is;
    }
