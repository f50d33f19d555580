-- The records of the fields that a seal puts right are writes of these fields, of words that lead to what is promoted.
use Rattle.std.proofs.Common.{◌≡◌, ℕ, ◌+◌, inr, List, [], ◌∷◌, ◌++◌, Option, None, Some, refl, sym, ap, ◌∙◌, subst}
use Rattle.std.specs.Prelude.{Contains, fold, slice_index}
use Rattle.std.specs.List.{AllByRecursion, flat_map}
use Rattle.std.proofs.lemmas.List.{append_assoc}
use Rattle.std.proofs.lemmas.List.Sums.{fold-append}
use Rattle.heap_words.specs.declared.Word.{Word}
use Rattle.heap_words.specs.declared.Word.TheVariants as word
use Rattle.heap_words.specs.Word.{meaning}
use Rattle.heap_spaces.specs.Collection.{Collection}
use Rattle.graph_model.specs.declared.id.Id.{Id}
use Rattle.log_machine.specs.declared.UndoEntry.{UndoEntry}
use Rattle.log_machine.specs.Machine.{State, field_at, put_record, taken_back, with_word}
use Rattle.log_machine.proofs.ListLaws.{AllByRecursion-append, AllByRecursion-map}
use Rattle.log_machine.specs.UndoEntry.{undo_entry}
use Rattle.object_layout.proofs.WalkLaws.{Contains-head, Contains-rest}
use Rattle.graph_words.proofs.Area.Field.{AreFields, field_with_word}
use Rattle.graph_words.proofs.Places.Addresses.{address_of-Contains}
use Rattle.graph_words.proofs.Places.Moved.{moved_word-moved}
use Rattle.graph_words.proofs.Places.Moves.{moved_to}
use Rattle.graph_words.proofs.Promotion.Fix.{fixes}
use Rattle.graph_words.proofs.Seal.Places.{address_of-append_left}
use Rattle.graph_words.proofs.Stands.Field.{IsField}
use Rattle.graph_words.specs.Places.{Places, address_of, addresses}
use Rattle.graph_words.specs.Promotion.{Field, Move, fix_meant, fix_of, moved_word}
use Rattle.collection_words.specs.Completed.{future}
use Rattle.collection_words.specs.Relocated.{AreRelocatedEntries}
use Rattle.collection_words.specs.Writes.{AreBacked, IsCurrentField, IsHereWrite}
use Rattle.collection_words.proofs.Copy.Named.{named, own_front}
use Rattle.collection_words.proofs.Laid.Completed.{move_made}
use Rattle.collection_words.proofs.Laid.Followed.{move_placed}
use Rattle.collection_words.proofs.Laid.Sources.{IsCollecting, here_ends}
use Rattle.collection_words.proofs.Laid.TakenBack.{taken_back-append}
use Rattle.collection_words.proofs.Laid.Write.{as_field, of_field, write_laid}
use Rattle.collection_words.proofs.Relocated.Entries.{backed_entries}
use Rattle.seal_laws.proofs.Laid.{kept_here, leads_on, moved_leads, new_small, still_current}
use Rattle.seal_laws.proofs.Promoting.{IsPromoting, Promoting, all_behind, all_there, alls, behind, currents, moves_here, moves_there, next, placed_here, placed_there, there, whole_there}
use Rattle.seal_laws.proofs.Relocated.{kept_whole, new_led}

-- The writes.

abbrev entries_meant : List Move → Field → ℕ → Option Word → List UndoEntry
entries_meant moves f w (Some (word.Volatile at)) = undo_entry f.0 f.1 (moved_word moves w) ∷ []
entries_meant moves f w meant = []

-- the write of a field that is put right, if it is
abbrev entries_of : List ℕ → List Move → Field → List UndoEntry
entries_of words moves f = let w = slice_index words (field_at f.0 f.1) in entries_meant moves f w (meaning w)

-- those of several
abbrev pub fix_entries : List ℕ → List Move → List Field → List UndoEntry
fix_entries words moves fields = flat_map (entries_of words moves) fields

put_meant : (t : ℕ) (now : List ℕ) (moves : List Move) (f : Field) (w : ℕ) (meant : Option Word)
    → fold put_record now (fix_meant t moves f w meant) ≡ taken_back (entries_meant moves f w meant) now
put_meant t now moves f w None = refl
put_meant t now moves f w (Some word.Null) = refl
put_meant t now moves f w (Some (word.Int n)) = refl
put_meant t now moves f w (Some (word.Stable at)) = refl
put_meant t now moves f w (Some (word.Volatile at)) = refl

-- the records put these words
pub put_entries : (t : ℕ) (words now : List ℕ) (moves : List Move) (fs : List Field) → fold put_record now (fixes t words moves fs) ≡ taken_back (fix_entries words moves fs) now
put_entries t words now moves [] = refl
put_entries t words now moves (f ∷ fs) =
    let w = slice_index words (field_at f.0 f.1) in
    fold-append put_record now (fix_of t words moves f) (fixes t words moves fs)
    ∙ ap (λ ws. fold put_record ws (fixes t words moves fs)) (put_meant t now moves f w (meaning w))
    ∙ put_entries t words (taken_back (entries_of words moves f) now) moves fs
    ∙ sym (taken_back-append (entries_of words moves f) (fix_entries words moves fs) now)

each_meant : (P : UndoEntry → Type 0) (moves : List Move) (f : Field) (w : ℕ) (meant : Option Word)
    → ((at : ℕ) → meant ≡ Some (word.Volatile at) → P (undo_entry f.0 f.1 (moved_word moves w))) → AllByRecursion P (entries_meant moves f w meant)
each_meant P moves f w None each = tt
each_meant P moves f w (Some word.Null) each = tt
each_meant P moves f w (Some (word.Int n)) each = tt
each_meant P moves f w (Some (word.Stable at)) each = tt
each_meant P moves f w (Some (word.Volatile at)) each = (each at refl, tt)

-- what holds of the write of each field that refers to an object of the area holds of all
pub each_fix : (P : UndoEntry → Type 0) (words : List ℕ) (moves : List Move) (fs : List Field)
    → ((f : Field) → Contains fs f → (at : ℕ) → meaning (slice_index words (field_at f.0 f.1)) ≡ Some (word.Volatile at)
    → P (undo_entry f.0 f.1 (moved_word moves (slice_index words (field_at f.0 f.1)))))
    → AllByRecursion P (fix_entries words moves fs)
each_fix P words moves [] each = tt
each_fix P words moves (f ∷ fs) each =
    let w = slice_index words (field_at f.0 f.1) in
    AllByRecursion-append P (entries_of words moves f) (fix_entries words moves fs) (each_meant P moves f w (meaning w) (each f (Contains-head f fs)))
    (each_fix P words moves fs (λ g has. each g (Contains-rest f fs g has)))

-- The fields.

-- A field of a current object, that refers to what is promoted if to an object of the area.
pub record IsFixed (p : Promoting) (seen : List ℕ) (f : Field) : Type 0 where
  pub field : IsCurrentField p.places p.words f.0 f.1
  pub taken : (at : ℕ) → meaning (slice_index seen (field_at f.0 f.1)) ≡ Some (word.Volatile at) → Contains p.starts at

-- each of these is such
abbrev pub AreFixed : Promoting → List ℕ → List Field → Type 0
AreFixed p seen fs = (f : Field) → Contains fs f → IsFixed p seen f

-- its object is current after the promotion too
still_field : (p : Promoting) → IsPromoting p → (object field : ℕ) → IsCurrentField p.places p.words object field → IsCurrentField (currents p) (behind p) object field
still_field p is object field one = record {
  start = still_current p object one.start;
  fields = one.fields;
  stands = (kept_here p is object one.fields one.start one.stands).is;
  within = one.within;
}

-- a field of a current object, with the object's name, in the completed words
record IsNamedField (p : Promoting) (object field : ℕ) : Type 0 where
  id : Id
  old : address_of p.places id ≡ Some object
  before : address_of (all_there p) id ≡ Some object
  after : address_of (all_behind p) id ≡ Some object
  whole : IsField (whole_there p) (addresses (all_there p)) object field

named_field : (p : Promoting) → IsPromoting p → (object field : ℕ) → IsCurrentField p.places p.words object field → IsNamedField p object field
named_field p is object field one =
    let id = named p.places object (own_front p.places p.remaining is.own) one.start in
    let all = address_of-append_left p.places (future p.s p.words p.remaining) id.0 object id.1 in
    let before = address_of-append_left (alls p) (placed_there p) id.0 object all in
    let made = move_made is.is object object one.fields (move_placed is.is.laid object one.start) one.stands in
    record {
      id = id.0;
      old = id.1;
      before = before;
      after = address_of-append_left (currents p) (future (next p) (behind p) p.remaining) id.0 object (address_of-append_left p.places (placed_here p) id.0 object id.1);
      whole = record {
        start = address_of-Contains (all_there p) id.0 object before;
        fields = one.fields;
        stands = (kept_whole p is id.0 object one.fields all made.is).is;
        within = one.within;
      };
    }

-- The writes of the fields that are put right, in the words and in the completed words.
module _ (p : Promoting) (is : IsPromoting p) (seen : List ℕ) where
  -- they are of fields of the completed words
  pub fixed_fields : (fs : List Field) → AreFixed p seen fs → AreFields (whole_there p) (addresses (all_there p)) (fix_entries seen (moves_there p) fs)
  fixed_fields fs each =
      each_fix (λ u. IsField (whole_there p) (addresses (all_there p)) u.object u.field) seen (moves_there p) fs (λ f has at means. (named_field p is f.0 f.1 (each f has).field).whole)

  -- and in the words they put words that lead to current objects
  pub fixed_backed : (fs : List Field) → AreFixed p seen fs → AreBacked (currents p) (behind p) (fix_entries seen (moves_here p) fs)
  fixed_backed fs each =
      each_fix (λ u. IsHereWrite (currents p) (behind p) u.object u.field u.was) seen (moves_here p) fs (λ f has at means. record {
        is = still_field p is f.0 f.1 (each f has).field;
        leads = moved_leads p is (slice_index seen (field_at f.0 f.1)) (inr (at, means, (each f has).taken at means));
      })

  fixed_one : (f : Field) (meant : Option Word) (us vs : List UndoEntry) → meaning (slice_index seen (field_at f.0 f.1)) ≡ meant → IsFixed p seen f
      → AreRelocatedEntries (all_there p) (all_behind p) us vs
      → AreRelocatedEntries (all_there p) (all_behind p) (entries_meant (moves_there p) f (slice_index seen (field_at f.0 f.1)) meant ++ us)
      (entries_meant (moves_here p) f (slice_index seen (field_at f.0 f.1)) meant ++ vs)
  fixed_one f None us vs means one rest = rest
  fixed_one f (Some word.Null) us vs means one rest = rest
  fixed_one f (Some (word.Int n)) us vs means one rest = rest
  fixed_one f (Some (word.Stable at)) us vs means one rest = rest
  fixed_one f (Some (word.Volatile at)) us vs means one rest =
      let w = slice_index seen (field_at f.0 f.1) in
      let has = one.taken at means in
      let field = named_field p is f.0 f.1 one.field in
      let old = moved_to p.area p.starts (there p) at has in
      let new = new_small p is at has in (
        record {
          id = field.id;
          object = record { before = field.before; after = field.after };
          field = refl;
          was = new_led p is at old.0 new.0 (moved_word (moves_there p) w) (moved_word (moves_here p) w) has old.1.is new.1
              (moved_word-moved (moves_there p) w at old.0 means old.1.is) (moved_word-moved (moves_here p) w at new.0 means new.1);
        },
        rest,
      )

  -- these lead to the same objects as those of the completed words
  pub fixed_entries : (fs : List Field) → AreFixed p seen fs → (us vs : List UndoEntry) → AreRelocatedEntries (all_there p) (all_behind p) us vs
      → AreRelocatedEntries (all_there p) (all_behind p) (fix_entries seen (moves_there p) fs ++ us) (fix_entries seen (moves_here p) fs ++ vs)
  fixed_entries [] each us vs rest = rest
  fixed_entries (f ∷ fs) each us vs rest =
      let w = slice_index seen (field_at f.0 f.1) in
      let later = fixed_entries fs (λ g has. each g (Contains-rest f fs g has)) us vs rest in
      let Entries : List UndoEntry → List UndoEntry → Type 0 = AreRelocatedEntries (all_there p) (all_behind p) in
      let first = fixed_one f (meaning w) (fix_entries seen (moves_there p) fs ++ us) (fix_entries seen (moves_here p) fs ++ vs) refl (each f (Contains-head f fs)) later in
      subst (λ xs. Entries xs (fix_entries seen (moves_here p) (f ∷ fs) ++ vs)) (sym (append_assoc (entries_of seen (moves_there p) f) (fix_entries seen (moves_there p) fs) us))
      (subst (Entries (entries_of seen (moves_there p) f ++ (fix_entries seen (moves_there p) fs ++ us))) (sym (append_assoc (entries_of seen (moves_here p) f) (fix_entries seen (moves_here p) fs) vs)) first)

-- Other writes.

-- writes that may be taken back are of fields of the completed words
pub backed_whole : (p : Promoting) → IsPromoting p → (us : List UndoEntry) → AreBacked p.places p.words us → AreFields (whole_there p) (addresses (all_there p)) us
backed_whole p is us backed =
    AllByRecursion-map (λ u. IsHereWrite p.places p.words u.object u.field u.was) (λ u. IsField (whole_there p) (addresses (all_there p)) u.object u.field) us
    (λ u one. (named_field p is u.object u.field one.is).whole) backed

-- and may be taken back after the promotion
pub backed_still : (p : Promoting) → IsPromoting p → (us : List UndoEntry) → AreBacked p.places p.words us → AreBacked (currents p) (behind p) us
backed_still p is us backed =
    AllByRecursion-map (λ u. IsHereWrite p.places p.words u.object u.field u.was) (λ u. IsHereWrite (currents p) (behind p) u.object u.field u.was) us (λ u one. record {
      is = still_field p is u.object u.field one.is;
      leads = leads_on (addresses p.places) (addresses (currents p)) (still_current p) (meaning u.was) one.leads;
    }) backed

-- those of the completed words are the same
pub backed_led : (p : Promoting) → IsPromoting p → (us : List UndoEntry) → AreBacked p.places p.words us → AreRelocatedEntries (all_there p) (all_behind p) us us
backed_led p is us backed =
    backed_entries p.places (all_there p) (all_behind p) p.words us (own_front p.places p.remaining is.own)
    (λ id at stands. address_of-append_left (alls p) (placed_there p) id at (address_of-append_left p.places (future p.s p.words p.remaining) id at stands))
    (λ id at stands. address_of-append_left (currents p) (future (next p) (behind p) p.remaining) id at (address_of-append_left p.places (placed_here p) id at stands)) backed

-- they may be taken back where others were
pub backed_behind : (es : List UndoEntry) {s : State} {k : Collection} {places remaining : Places} {words : List ℕ} → IsCollecting s k places remaining words → AreBacked places words es
    → (us : List UndoEntry) → AreBacked places words us → AreBacked places (taken_back es words) us
backed_behind [] is all us more = more
backed_behind (e ∷ es) {s} {k} {places} {remaining} {words} is all us more = backed_behind es (write_laid is all.0) (after es all.1) us (after us more)
  where
    after : (vs : List UndoEntry) → AreBacked places words vs → AreBacked places (with_word words e.object e.field e.was) vs
    after vs each =
        AllByRecursion-map (λ v. IsHereWrite places words v.object v.field v.was) (λ v. IsHereWrite places (with_word words e.object e.field e.was) v.object v.field v.was) vs
        (λ v write. record {
          is = of_field (field_with_word words s.base (addresses places) (s.base + s.used) e.object e.field e.was v.object v.field (here_ends is.laid) (as_field all.0.is) (as_field write.is));
          leads = write.leads;
        }) each
