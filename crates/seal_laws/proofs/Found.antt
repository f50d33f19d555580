-- What a seal finds within a collection: a seal of the completed words, and a promotion in the words.
use Rattle.std.proofs.Common.{◌≡◌, ℕ, ◌<◌, ◌≤◌, ◌+◌, inl, inr, length, get_or, Some, refl, sym, ap, ◌∙◌, subst, arith}
use Rattle.std.specs.Prelude.{Contains, slice_index, slice_index_or}
use Rattle.std.specs.List.{AllByRecursion}
use Rattle.std.proofs.lemmas.List.{get_or-map}
use Rattle.std.proofs.lemmas.Option.{slice_get-get_or}
use Rattle.heap_words.specs.declared.Header.TheVariants.{Length}
use Rattle.heap_words.specs.Header.{header_bits}
use Rattle.heap_words.specs.declared.Word.TheVariants as word
use Rattle.heap_words.specs.Word.{meaning}
use Rattle.graph_model.specs.Graph.{fields}
use Rattle.graph_model.specs.declared.val.Val.{Val}
use Rattle.graph_model.specs.declared.val.Val.TheVariants.{Int, Null, Ref}
use Rattle.log_machine.specs.Machine.{field_at, owed, words_in}
use Rattle.log_machine.specs.UndoEntry.{LiesInside}
use Rattle.log_machine.proofs.ListLaws.{AllByRecursion-map}
use Rattle.log_machine.proofs.StateLaws.{spaced_more}
use Rattle.object_layout.specs.Layout.{field_words}
use Rattle.volatile_area.specs.Area.{AreaState}
use Rattle.graph_words.specs.Area.{area_of}
use Rattle.graph_words.specs.Places.{IsVisible, address_of, addresses, bits_of, index_of, place_of}
use Rattle.graph_words.specs.Promotion.{Field, promoted_by, promoted_need, written_fields}
use Rattle.graph_words.specs.Stands.{IsOfField}
use Rattle.graph_words.proofs.Area.Made.{own_apart, own_short, own_visible}
use Rattle.graph_words.proofs.Area.State.{own_words}
use Rattle.graph_words.proofs.Places.Addresses.{address_of-Contains, some_address}
use Rattle.graph_words.proofs.Places.Lists.{AllByRecursion-get}
use Rattle.graph_words.proofs.Places.Moves.{moved_given, needed-sum}
use Rattle.graph_words.proofs.Promotion.Seal.{CanSeal, is_sealing, sealing}
use Rattle.graph_words.proofs.Seal.Fields.{fixable, own_header, own_length}
use Rattle.graph_words.proofs.Seal.Places.{IsOwnAt, address_of-append_left}
use Rattle.graph_words.proofs.Seal.Sealing.{IsSealing, Sealing}
use Rattle.graph_words.proofs.Seal.Values.{IsTaken, not_volatile, own_at, own_taken, own_values_taken}
use Rattle.graph_words.proofs.Stands.Objects.{stands_inside, visible_meaning}
use Rattle.graph_words.proofs.Stands.Visible.{place_of-apart, place_of-placed}
use Rattle.collection_words.specs.Completed.{future}
use Rattle.collection_words.specs.LaidOut.{LeadsHere}
use Rattle.collection_words.specs.Writes.{IsHereWrite}
use Rattle.collection_words.proofs.Laid.Underway.{underway}
use Rattle.collection_words.proofs.Laid.Write.{write_within}
use Rattle.seal_laws.specs.Seal.{CanSealWithin, Seal, all, area, asked, free_then, seen_then, used_then}
use Rattle.seal_laws.proofs.Based.{AreWhole}
use Rattle.seal_laws.proofs.Fixed.{AreFixed}
use Rattle.seal_laws.proofs.Promoting.{IsOwnWord, IsPromoting, Promoting, need}
use Rattle.seal_laws.proofs.Seen.{area_same, asked_same, has_then, made_apart, of_fields_then, own, own_field, visible_then, written_then}

-- the promotion in the words
abbrev pub promotion : Seal → Promoting
promotion c = record {
  s = c.state;
  k = c.collection;
  places = c.places;
  remaining = c.remaining;
  words = c.words;
  area = area c;
  g = c.g;
  t = c.t;
  made = c.made;
  starts = promoted_by (area c) (seen_then c) c.undo;
}

-- the area, as all places give it
abbrev pub area_then : Seal → AreaState
area_then c = area_of (place_of (all c) c.g) c.g c.t c.made

-- What is known of an area, which is the transaction's.
record AreKnown (c : Seal) (area : AreaState) : Type 0 where
  are : AreWhole area (promoted_by area (seen_then c) c.undo)
  each : (at : ℕ) → Contains (promoted_by area (seen_then c) c.undo) at → IsOwnAt area c.g c.t c.made at
  leads : (at i : ℕ) → Contains (promoted_by area (seen_then c) c.undo) at → i < length (field_words area.words at)
      → IsOwnWord c.places (promoted_by area (seen_then c) c.undo) (get_or (field_words area.words at) i 0)
  fixed : (f : Field) → Contains (written_fields c.undo) f → (at : ℕ) → meaning (slice_index (seen_then c) (field_at f.0 f.1)) ≡ Some (word.Volatile at)
      → Contains (promoted_by area (seen_then c) c.undo) at

module _ (c : Seal) (can : CanSealWithin c) where
  -- The seal of the completed words.

  -- what is promoted has room past what is used and owed
  ends : c.state.base + (used_then c + asked c) ≤ words_in c.state.pages
  ends =
      let room = can.room in
      let more = spaced_more c.state (owed c.state + asked c) can.sees.underway.spaced (omega arith) in omega arith

  pub can_seal : (address : ℕ) → address ≤ free_then c → CanSeal (all c) c.g c.t c.made c.undo (seen_then c) c.state.base (used_then c) address
  can_seal address within = record {
    stands = can.sees.stands;
    has = has_then c can.sees;
    written = written_then c can.sees;
    of_fields = of_fields_then c can.sees;
    top =
        let small = can.sees.underway.small in
        omega (arith, ends, ap (λ a. promoted_need a (seen_then c) c.undo) (area_same c can.sees), asked_same c can.sees);
  }

  -- all that it has written lies in the used words
  pub undo_inside : AllByRecursion (LiesInside c.state.base c.state.used) c.undo
  undo_inside =
      AllByRecursion-map (λ u. IsHereWrite c.places c.words u.object u.field u.was) (LiesInside c.state.base c.state.used) c.undo
      (λ u write. let within = write_within (underway can.sees.underway).laid write in record { above = within.0; below = within.1 }) can.sees.backed

  abbrev then : Sealing
  then = sealing (all c) c.g c.t c.made c.undo (seen_then c) c.state.base (used_then c) (free_then c)

  is_then : IsSealing then
  is_then = is_sealing (can_seal (free_then c) (omega arith))

  -- The promotion.

  own_word : (v : Val) → IsVisible c.places c.t c.made v → IsTaken then v → IsOwnWord c.places then.starts (bits_of (place_of (all c) c.g) v)
  own_word Null sees taken =
      let means = visible_meaning is_then.stands is_then.has Null tt in
      inl (not_volatile then is_then Null tt word.Null refl refl, subst (LeadsHere (addresses c.places)) (sym means) tt)
  own_word (Int n) sees taken =
      let means = visible_meaning is_then.stands is_then.has (Int n) sees in
      inl (not_volatile then is_then (Int n) sees (word.Int n) refl refl, subst (LeadsHere (addresses c.places)) (sym means) tt)
  own_word (Ref id) (inl there) taken =
      let at = some_address (address_of c.places id) there in
      let sees = visible_then c can.sees (Ref id) (inl there) in
      let place = place_of-placed (all c) c.g id at.0 (address_of-append_left c.places (future c.state c.words c.remaining) id at.0 at.1) in
      let means = visible_meaning is_then.stands is_then.has (Ref id) sees ∙ ap Some place in
      inl (not_volatile then is_then (Ref id) sees (word.Stable at.0) place refl, subst (LeadsHere (addresses c.places)) (sym means) (address_of-Contains c.places id at.0 at.1))
  own_word (Ref id) (inr mine) taken =
      let sees = visible_then c can.sees (Ref id) (inr mine) in
      let means = visible_meaning is_then.stands is_then.has (Ref id) sees ∙ ap Some (place_of-apart (all c) c.g id (own_apart is_then.has mine)) in
      inr (index_of c.g id, means, own_taken then is_then id mine taken)

  known_then : AreKnown c (area_then c)
  known_then = record {
    are = record {
      distinct = is_then.promotion.distinct;
      few = λ at has.
          let one = own_at then is_then at has in
          let long = own_length then is_then one.id one.own in
          let short = own_short is_then.has one.own in
          let same : length (field_words (area_then c).words at) ≡ length (field_words (area_then c).words (index_of c.g one.id)) = ap (λ (x : ℕ). length (field_words (area_then c).words x)) (sym one.index) in
          omega arith;
      header = λ at has.
          let one = own_at then is_then at has in
          subst (λ (x : ℕ). slice_index (area_then c).words x ≡ header_bits (Length (length (field_words (area_then c).words x)))) one.index (own_header then is_then one.id one.own);
    };
    each = λ at has. own_at then is_then at has;
    leads = λ at i has within.
        let one = own_at then is_then at has in
        let id = one.id in
        let long = own_length then is_then id one.own in
        let same : length (field_words (area_then c).words at) ≡ length (field_words (area_then c).words (index_of c.g id)) = ap (λ (x : ℕ). length (field_words (area_then c).words x)) (sym one.index) in
        let inside : i < length (fields c.g id) = omega arith in
        let v = slice_index_or (fields c.g id) i Null in
        let got = slice_get-get_or (fields c.g id) i Null inside in
        let word : get_or (field_words (area_then c).words at) i 0 ≡ bits_of (place_of (all c) c.g) v =
        ap (λ (x : ℕ). get_or (field_words (area_then c).words x) i 0) (sym one.index) ∙ ap (λ ws. get_or ws i 0) (own_words is_then.has id one.own)
        ∙ get_or-map (bits_of (place_of (all c) c.g)) (fields c.g id) i Null 0 inside in
        let starts = subst (λ (x : ℕ). Contains then.starts x) (sym one.index) has in
        subst (IsOwnWord c.places then.starts) (sym word)
        (own_word v (AllByRecursion-get (IsVisible c.places c.t c.made) (fields c.g id) i v (own_visible can.sees.has one.own) got) (own_values_taken then is_then id one.own starts i v got));
    fixed = λ f has at means.
        let inside = AllByRecursion-map (IsOfField (all c) c.g) (LiesInside c.state.base (used_then c)) c.undo (stands_inside can.sees.stands) (of_fields_then c can.sees) in
        let goes = (fixable then is_then c.state.base (used_then c) inside f has).goes.goes at means in
        moved_given (area_then c) then.starts (free_then c) at goes.0 goes.1;
  }

  known : AreKnown c (area c)
  known = subst (AreKnown c) (area_same c can.sees) known_then

  pub need_is : need (promotion c) ≡ asked c
  need_is = sym (needed-sum (area c) (promotion c).starts) ∙ asked_same c can.sees

  pub is_promoting : IsPromoting (promotion c)
  is_promoting = record {
    is = underway can.sees.underway;
    small = can.sees.underway.small;
    own = own c can.sees;
    are = known.are;
    each = known.each;
    apart = made_apart c can.sees;
    leads = known.leads;
    room = let room = can.room in omega (arith, need_is);
  }

  -- and the fields that it puts right
  pub are_fixed : AreFixed (promotion c) (seen_then c) (written_fields c.undo)
  are_fixed f has = record { field = own_field c can.sees f has; taken = known.fixed f has }
