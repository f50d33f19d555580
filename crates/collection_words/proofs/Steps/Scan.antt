-- A scan: completed words are the same before and after, and the objects of its page are gray no longer.
use Rattle.std.proofs.Common.{◌≡◌, ◌≢◌, ◌⊎◌, ℕ, ◌+◌, ◌<◌, ◌≤◌, ◌==◌, inl, inr, Bool, true, false, not, List, [], ◌∷◌, ◌++◌, length, map, None, Some, refl, sym, ap, ◌∙◌, subst, arith, length-set}
use Rattle.std.specs.Prelude.{Contains, slice_index, slice_set, ◌&&◌, if◌then◌else◌}
use Rattle.std.specs.List.{AllByRecursion, list_all}
use Rattle.std.specs.FinSet.{contains}
use Rattle.std.proofs.lemmas.Bool.{and_from, cases_order, le-leb, lt-ltb}
use Rattle.std.proofs.lemmas.List.{get_or-set_other, get_or-set_same, set-get_or}
use Rattle.heap_words.specs.declared.Word.TheVariants as word
use Rattle.heap_words.specs.Word.{bits, meaning}
use Rattle.heap_words.proofs.WordLaws.{meaning-bits}
use Rattle.heap_spaces.specs.Collection.{Collection, owed_by, page_of}
use Rattle.heap_spaces.specs.Copying.{with_scanned}
use Rattle.graph_model.specs.Graph.{Graph}
use Rattle.object_layout.proofs.LayoutLaws.{object_header}
use Rattle.object_layout.proofs.WalkLaws.{Contains-cases, Contains-none}
use Rattle.log_machine.proofs.ListLaws.{AllByRecursion-map}
use Rattle.log_machine.specs.Collecting.{can_put, is_current_page, is_used, leads_to_used, scanned_in}
use Rattle.log_machine.specs.declared.UndoEntry.{UndoEntry}
use Rattle.log_machine.specs.Machine.{State, field_at, owed, put_all, taken_back, with_word, words_in}
use Rattle.graph_words.specs.Places.{Places, addresses}
use Rattle.graph_words.specs.Stands.{Stands}
use Rattle.graph_words.proofs.Area.Field.{field_with_word}
use Rattle.collection_words.specs.Completed.{StandsCompleted, completed, followed, future}
use Rattle.collection_words.specs.LaidOut.{EachField, IsFromSpace, IsLaidOut, LeadsHere, is_gray_field}
use Rattle.collection_words.specs.Writes.{IsHereWrite, IsScanWrite}
use Rattle.collection_words.proofs.Laid.Completed.{completed_put, move_made}
use Rattle.collection_words.proofs.Laid.Followed.{followed_here, move_placed}
use Rattle.collection_words.proofs.Laid.Old.{collection_within}
use Rattle.collection_words.proofs.Laid.Sources.{IsCollecting, here_ends}
use Rattle.collection_words.proofs.Laid.Within.{start_within}
use Rattle.collection_words.proofs.Laid.Write.{as_field, completed_write, has_left, of_field, write_followed, write_laid, write_other, write_taken, write_within}
use Rattle.collection_words.proofs.Moves.Ends.{places_taken_same}
use Rattle.collection_words.proofs.Steps.Addresses.{contains-without}

-- a reference to one of the objects of places leads here
pub stable_here : {s : State} {k : Collection} {places remaining : Places} {words : List ℕ} → IsCollecting s k places remaining words → words_in s.pages ≤ 2097152 → (to : ℕ) → Contains (addresses places) to
    → meaning (bits (word.Stable to)) ≡ Some (word.Stable to)
stable_here {s} is small to has =
    let within = start_within is.laid to has in
    let below = within.below in
    let room = is.spaced.room in
    let space : to < 2097152 = elim is.spaced.first [ inl low ↦ omega arith | inr high ↦ omega arith ] in
    meaning-bits (word.Stable to) space

-- it is a write of a word that leads here
pub scan_here : {s : State} {k : Collection} {places remaining : Places} {words : List ℕ} → IsCollecting s k places remaining words → words_in s.pages ≤ 2097152 → (write : ℕ × ℕ)
    → (w : IsScanWrite s places remaining words write) → IsHereWrite places words w.object w.field write.1
scan_here {places = places} is small write w = record {
  is = w.is;
  leads = subst (LeadsHere (addresses places)) (sym (ap meaning w.word ∙ stable_here is small w.to w.leads)) w.leads;
}

-- What a scan leaves as it was.
pub record IsAsComplete (s : State) (k : Collection) (places remaining : Places) (words others : List ℕ) : Type 0 where
  pub is : IsCollecting s k places remaining others
  pub same : completed s places remaining others ≡ completed s places remaining words
  pub future : future s others remaining ≡ future s words remaining

scan_step : {s : State} {k : Collection} {places remaining : Places} {words : List ℕ} → IsCollecting s k places remaining words → words_in s.pages ≤ 2097152 → (write : ℕ × ℕ)
    → IsScanWrite s places remaining words write → IsAsComplete s k places remaining words (slice_set words write.0 write.1)
scan_step {s} {k} {places} {remaining} {words} is small write w =
    let here = scan_here is small write w in
    let others = with_word words w.object w.field write.1 in
    let V = completed s places remaining words in
    let made = move_made is w.object w.object w.is.fields (move_placed is.laid w.object w.is.start) w.is.stands in
    let stood : slice_index V (field_at w.object w.field) ≡ write.1 =
    made.fields w.field w.is.within ∙ ap (λ (x : ℕ). followed s words remaining (slice_index words x)) (sym w.at) ∙ w.follows in
    let step : IsAsComplete s k places remaining words others = record {
      is = write_laid is here;
      same = completed_write is here ∙ ap (slice_set V (field_at w.object w.field)) (sym stood) ∙ set-get_or V (field_at w.object w.field) 0;
      future = places_taken_same words others remaining (s.base + s.used) (λ at has. write_taken is here at (has_left places remaining at has));
    } in
    subst (λ (x : ℕ). IsAsComplete s k places remaining words (slice_set words x write.1)) (sym w.at) step

-- a write that is still to come is one after the first
scan_later : {s : State} {k : Collection} {places remaining : Places} {words : List ℕ} → IsCollecting s k places remaining words → words_in s.pages ≤ 2097152 → (write : ℕ × ℕ)
    → IsScanWrite s places remaining words write → (y : ℕ × ℕ) → IsScanWrite s places remaining words y → IsScanWrite s places remaining (slice_set words write.0 write.1) y
scan_later {s} {k} {places} {remaining} {words} is small write w y v =
    let here = scan_here is small write w in
    let others = with_word words w.object w.field write.1 in
    let long = (object_header words w.object w.is.fields w.is.stands).1 in
    let below = w.is.within in
    let written : slice_index others (field_at w.object w.field) ≡ write.1 = get_or-set_same words (field_at w.object w.field) write.1 0 (omega arith) in
    let follows : followed s others remaining (slice_index others y.0) ≡ y.1 = elim (cases_order (field_at w.object w.field) y.0) [
      | inl same ↦
          let one : write.0 ≡ y.0 = w.at ∙ same in
          ap (followed s others remaining) (ap (slice_index others) (sym same) ∙ written)
          ∙ followed_here is.spaced is.laid others write.1 here.leads
          ∙ sym w.follows
          ∙ ap (λ (x : ℕ). followed s words remaining (slice_index words x)) one
          ∙ v.follows
      | inr beside ↦
          let apart : field_at w.object w.field ≢ y.0 = λ same. elim beside [ inl less ↦ omega arith | inr more ↦ omega arith ] in
          ap (followed s others remaining) (write_other words w.object w.field write.1 y.0 apart) ∙ write_followed is here (slice_index words y.0) ∙ v.follows
    ] in
    let step : IsScanWrite s places remaining others y = record {
      object = v.object;
      field = v.field;
      to = v.to;
      at = v.at;
      is = of_field (field_with_word words s.base (addresses places) (s.base + s.used) w.object w.field write.1 v.object v.field (here_ends is.laid) (as_field w.is) (as_field v.is));
      word = v.word;
      leads = v.leads;
      follows = follows;
    } in
    subst (λ (x : ℕ). IsScanWrite s places remaining (slice_set words x write.1) y) (sym w.at) step

-- Completed words are the same before and after the writes of a scan, and the words stay laid out.
pub scan_same : (writes : List (ℕ × ℕ)) {s : State} {k : Collection} {places remaining : Places} {words : List ℕ} → IsCollecting s k places remaining words → words_in s.pages ≤ 2097152
    → AllByRecursion (IsScanWrite s places remaining words) writes → IsAsComplete s k places remaining words (put_all words writes)
scan_same [] is small all = record { is = is; same = refl; future = refl }
scan_same (w ∷ ws) {s} {k} {places} {remaining} {words} is small all =
    let first = scan_step is small w all.0 in
    let rest = scan_same ws first.is small (AllByRecursion-map (IsScanWrite s places remaining words) (IsScanWrite s places remaining (slice_set words w.0 w.1)) ws (scan_later is small w all.0) all.1) in
    record { is = rest.is; same = rest.same ∙ first.same; future = rest.future ∙ first.future }

-- The row.

used_here : {s : State} {places remaining : Places} {words : List ℕ} → IsLaidOut s places remaining words → (at : ℕ) → Contains (addresses places) at → is_used s at ≡ true
used_here {s} laid at has =
    let within = start_within laid at has in
    let below = within.below in
    and_from _ _ (le-leb s.base at within.above) (lt-ltb at (s.base + s.used) (omega arith))

-- each of its writes can follow
scan_can : {s : State} {k : Collection} {places remaining : Places} {words : List ℕ} → IsCollecting s k places remaining words → words_in s.pages ≤ 2097152 → (write : ℕ × ℕ)
    → IsScanWrite s places remaining words write → can_put s write ≡ true
scan_can {s} is small write w =
    let here = scan_here is small write w in
    let bounds = write_within is.laid here in
    let first = bounds.0 in
    let last = bounds.1 in
    let place = w.at in
    let field = and_from _ _ (le-leb s.base write.0 (omega arith)) (lt-ltb write.0 (s.base + s.used) (omega arith)) in
    and_from _ _ field (ap (leads_to_used s) (ap meaning w.word ∙ stable_here is small w.to w.leads) ∙ used_here is.laid w.to w.leads)

scan_can_all : (writes : List (ℕ × ℕ)) {s : State} {k : Collection} {places remaining : Places} {words : List ℕ} → IsCollecting s k places remaining words → words_in s.pages ≤ 2097152
    → AllByRecursion (IsScanWrite s places remaining words) writes → list_all (can_put s) writes ≡ true
scan_can_all [] is small all = refl
scan_can_all (w ∷ ws) is small all = and_from _ _ (scan_can is small w all.0) (scan_can_all ws is small all.1)

-- the state after the scan of a page
abbrev pub scanned_state : State → Collection → ℕ → State
scanned_state s k page = record s { collection = Some (with_scanned k page) }

-- the scan can follow
pub scan_row : {s : State} {k : Collection} {places remaining : Places} {words : List ℕ} → IsCollecting s k places remaining words → words_in s.pages ≤ 2097152 → (page : ℕ) (writes : List (ℕ × ℕ))
    → is_current_page s page ≡ true → AllByRecursion (IsScanWrite s places remaining words) writes → scanned_in s page writes s.collection ≡ Some (scanned_state s k page)
scan_row {s} {k} is small page writes current all =
    ap (scanned_in s page writes) is.run
    ∙ ap (λ b. if b then Some (scanned_state s k page) else None) (and_from _ _ current (scan_can_all writes is small all))

-- What is gray no longer.

-- what holds of each word that is written holds of the word at an address, if that is written or it held of the word before
pub put_named : (P : ℕ → Type 0) (writes : List (ℕ × ℕ)) (words : List ℕ) (at : ℕ) → at < length words → AllByRecursion (λ w. P w.1) writes
    → Contains (map (λ w. w.0) writes) at ⊎ P (slice_index words at) → P (slice_index (put_all words writes) at)
put_named P [] words at within all (inl named) = absurd (Contains-none at named)
put_named P [] words at within all (inr was) = was
put_named P (w ∷ ws) words at within all given =
    let long = length-set words w.0 w.1 in
    put_named P ws (slice_set words w.0 w.1) at (omega arith) all.1 (elim (cases_order w.0 at) [
      | inl same ↦ inr (subst P (sym (ap (slice_index (slice_set words w.0 w.1)) (sym same) ∙ get_or-set_same words w.0 w.1 0 (omega arith))) all.0)
      | inr beside ↦
          let apart : at ≢ w.0 = λ same. elim beside [ inl less ↦ omega arith | inr more ↦ omega arith ] in
          elim given [
            | inl named ↦ elim (Contains-cases w.0 (map (λ x. x.0) ws) at named) [ inl here ↦ absurd (apart (sym here)) | inr later ↦ inl later ]
            | inr was ↦ inr (subst P (sym (get_or-set_other words w.0 at w.1 0 apart)) was)
          ]
    ])

gray_left : (b c : Bool) → (b && not c) ≡ false → (b ≡ false) ⊎ ((b ≡ true) × (c ≡ true))
gray_left false c is = inl refl
gray_left true true is = inr (refl, refl)
gray_left true false is = absurd (cc is)

gray_before : (b c : Bool) → (b && c) ≡ true → b ≡ true
gray_before true c is = refl
gray_before false c is = absurd (cc is)

-- The words stay laid out after the scan of a page, if the fields of its gray objects lead here.
pub scan_laid : {s : State} {k : Collection} {places remaining : Places} {words : List ℕ} → IsCollecting s k places remaining words → (page : ℕ)
    → ((at : ℕ) → contains k.gray at ≡ true → (page_of at == page) ≡ true → EachField words at (λ i w. LeadsHere (addresses places) (meaning w)))
    → IsCollecting (scanned_state s k page) (with_scanned k page) places remaining words
scan_laid {s} {k} {places} {remaining} {words} is page each =
    let n = scanned_state s k page in
    let from : IsFromSpace n (with_scanned k page) places remaining words = record {
      starts = is.from.starts;
      chain = is.from.chain;
      forwarded = is.from.forwarded;
      left = is.from.left;
      sum = is.from.sum;
      grays = λ at gray. is.from.grays at (gray_before (contains k.gray at) (not (page_of at == page)) (sym (contains-without k.gray page at) ∙ gray));
      back = is.from.back;
      inside = is.from.inside;
    } in
    let room = is.spaced.room in
    record {
      run = refl;
      spaced = record { first = is.spaced.first; room = omega (arith, ap owed_by is.run); within = record { copied = (collection_within is).copied; used = (collection_within is).used } };
      long = is.long;
      laid = record {
        filled = is.laid.filled;
        here = λ at has m i there below not_gray. elim (gray_left (contains k.gray at) (page_of at == page) (sym (contains-without k.gray page at) ∙ not_gray)) [
          | inl black ↦ is.laid.here at has m i there below (ap (λ o. is_gray_field o at i) is.run ∙ black)
          | inr scanned ↦ each at scanned.0 scanned.1 m i there below
        ];
        from = from;
      };
      from = from;
    }

-- its completed words are those before
pub scan_completed : {s : State} {k : Collection} {places remaining : Places} {words : List ℕ} → IsCollecting s k places remaining words → (page : ℕ)
    → completed (scanned_state s k page) places remaining words ≡ completed s places remaining words
scan_completed is page = sym (completed_put is)

scan_owed : {s : State} {k : Collection} {places remaining : Places} {words : List ℕ} → IsCollecting s k places remaining words → (page : ℕ) → owed s ≡ owed (scanned_state s k page)
scan_owed is page = ap owed_by is.run

-- A graph that stood in the completed words stands there after the scan of a page.
pub scan_stands : {s : State} {k : Collection} {places remaining : Places} {words : List ℕ} → IsCollecting s k places remaining words → words_in s.pages ≤ 2097152 → (page : ℕ) (writes : List (ℕ × ℕ))
    → AllByRecursion (IsScanWrite s places remaining words) writes → (t made : ℕ) (g : Graph) (us : List UndoEntry)
    → StandsCompleted t made places remaining g us words s → StandsCompleted t made places remaining g us (put_all words writes) (scanned_state s k page)
scan_stands {s} {k} {places} {remaining} {words} is small page writes all t made g us stands =
    let others = put_all words writes in
    let step = scan_same writes is small all in
    subst (λ (ps : Places). Stands t made (places ++ ps) g (taken_back us (completed (scanned_state s k page) places remaining others)) s.base (s.used + owed (scanned_state s k page))) (sym step.future)
    (subst (λ (ws : List ℕ). Stands t made (places ++ future s words remaining) g (taken_back us ws) s.base (s.used + owed (scanned_state s k page))) (sym (scan_completed step.is page ∙ step.same))
    (subst (λ (n : ℕ). Stands t made (places ++ future s words remaining) g (taken_back us (completed s places remaining words)) s.base (s.used + n)) (scan_owed is page) stands))
