-- Records other than flips begin no collection: one that runs after them ran before them, and loses sight of no object.
use Rattle.std.proofs.Common.{◌≡◌, ◌⊎◌, inl, inr, ℕ, Bool, true, false, List, [], ◌∷◌, ◌++◌, Option, None, Some, is_some, refl, sym, ap, ◌∙◌}
use Rattle.std.specs.Prelude.{map, filter, not, option_and_then, if◌then◌else◌, ◌==◌}
use Rattle.std.specs.List.{AllByRecursion}
use Rattle.std.proofs.lemmas.Option.{cond_some, option_and_then_some, same_Some}
use Rattle.graph_model.specs.declared.id.Id.{Id}
use Rattle.graph_model.specs.Graph.{is_same_id}
use Rattle.heap_spaces.specs.Collection.{Collection}
use Rattle.log_records.specs.declared.Record.{Record}
use Rattle.log_records.specs.declared.Record.TheVariants.{Update, Base, Fix, Undo, Commit, End, Copy, Scan, Flip, Collected}
use Rattle.log_machine.specs.declared.UndoEntry.{UndoEntry}
use Rattle.log_machine.specs.Collecting.{collected_in, scanned_in}
use Rattle.log_machine.specs.Machine.{State, after, after_all, is_number_or_none, number_of, row_after, turned, undo_of, with_entries, without_newest}
use Rattle.log_machine.proofs.CopyRows.{copy_told}
use Rattle.log_machine.specs.UndoEntry.{undo_entry}
use Rattle.graph_words.specs.Places.{Places, address_of}
use Rattle.graph_words.proofs.Places.Addresses.{some_address}
use Rattle.graph_words.proofs.Seal.Places.{address_of-append_left, address_of-append_right}
use Rattle.collection_words.specs.Completed.{without}
use Rattle.collection_words.specs.Placing.{Placing, moved_by, moved_by_all, put_at}
use Rattle.limit_laws.proofs.Events.Kinds.{IsNoFlip}
use Rattle.limit_laws.proofs.Progress.Rows.{passed}

-- Collections.

undone_run : (s n : State) (t : ℕ) (o : Option (List UndoEntry)) → option_and_then (λ rest. Some (turned s t (with_entries s.undo t rest) 0)) o ≡ Some n → n.collection ≡ s.collection
undone_run s n t None e = absurd (cc e)
undone_run s n t (Some rest) e = let m = turned s t (with_entries s.undo t rest) 0 in ap (λ (x : State). x.collection) (sym (same_Some m n e))

scanned_none : (s n : State) (page : ℕ) (writes : List (ℕ × ℕ)) (o : Option Collection) → o ≡ None → scanned_in s page writes o ≡ Some n → n.collection ≡ None
scanned_none s n page writes None none e = absurd (cc e)
scanned_none s n page writes (Some k) none e = absurd (cc none)

ended_none : (s n : State) (o : Option Collection) → collected_in s o ≡ Some n → n.collection ≡ None
ended_none s n None e = absurd (cc e)
ended_none s n (Some k) e = ap (λ (x : State). x.collection) (sym (cond_some _ _ _ e).1)

row_none : (s n : State) (rec : Record) → IsNoFlip rec → row_after s rec ≡ Some n → s.collection ≡ None → n.collection ≡ None
row_none s n (Update t object field was word) plain e none = ap (λ (x : State). x.collection) (sym (cond_some _ _ _ e).1) ∙ none
row_none s n (Base t address words) plain e none = ap (λ (x : State). x.collection) (sym (cond_some _ _ _ e).1) ∙ none
row_none s n (Fix t object field word) plain e none = ap (λ (x : State). x.collection) (sym (cond_some _ _ _ e).1) ∙ none
row_none s n (Undo t object field word) plain e none = undone_run s n t (without_newest (undo_of s t) (undo_entry object field word)) e ∙ none
row_none s n (Commit t) plain e none = ap (λ (x : State). x.collection) (sym (same_Some _ n e)) ∙ none
row_none s n (End t) plain e none = ap (λ (x : State). x.collection) (sym (cond_some _ _ _ e).1) ∙ none
row_none s n (Copy from to words) plain e none = let never = sym none ∙ (copy_told s n (record { from = from; to = to; words = words }) e).runs in absurd (cc never)
row_none s n (Scan page writes) plain e none = scanned_none s n page writes s.collection none e
row_none s n (Flip copies) plain e none = absurd plain
row_none s n Collected plain e none = ended_none s n s.collection e

-- where none runs none runs after records other than flips
none_after_all : (s n : State) (records : List Record) → AllByRecursion IsNoFlip records → after_all s records ≡ Some n → s.collection ≡ None → n.collection ≡ None
none_after_all s n [] plain e none = ap (λ (x : State). x.collection) (sym (same_Some s n e)) ∙ none
none_after_all s n (r ∷ rs) plain e none =
    option_and_then_some (λ next. after_all next rs) (after s r) n e (λ next one rest.
    none_after_all next n rs plain.1 rest (row_none s next r plain.0 (passed (is_number_or_none (number_of r)) (row_after s r) next one) none))

-- so one that runs after them ran before them
pub ran : (s n : State) (records : List Record) → AllByRecursion IsNoFlip records → after_all s records ≡ Some n → (k : Collection) → n.collection ≡ Some k → (j : Collection) × (s.collection ≡ Some j)
ran s n records plain e k run = by s.collection refl
  where
    by : (o : Option Collection) → s.collection ≡ o → (j : Collection) × (s.collection ≡ Some j)
    by None none = let never = sym (none_after_all s n records plain e none) ∙ run in absurd (cc never)
    by (Some j) is = (j, is)

-- Objects.

-- an object is current, or remains
abbrev pub IsPlaced : Placing → Id → Type 0
IsPlaced p id = (is_some (address_of p.places id) ≡ true) ⊎ (is_some (address_of p.remaining id) ≡ true)

pub some_left : (ps qs : Places) (id : Id) → is_some (address_of ps id) ≡ true → is_some (address_of (ps ++ qs) id) ≡ true
some_left ps qs id is = let at = some_address (address_of ps id) is in ap is_some (address_of-append_left ps qs id at.0 at.1)

pub some_right : (ps qs : Places) (id : Id) → is_some (address_of qs id) ≡ true → is_some (address_of (ps ++ qs) id) ≡ true
some_right ps qs id is = by (address_of ps id) refl
  where
    by : (o : Option ℕ) → address_of ps id ≡ o → is_some (address_of (ps ++ qs) id) ≡ true
    by None none = ap is_some (address_of-append_right ps qs id none) ∙ is
    by (Some at) here = ap is_some (address_of-append_left ps qs id at here)

here_or : (t : Bool) (x y : ℕ) (o l r : Option ℕ) → is_some (if t then Some x else o) ≡ true → (is_some o ≡ true → (is_some l ≡ true) ⊎ (is_some r ≡ true)) → (is_some (if t then Some y else l) ≡ true) ⊎ (is_some r ≡ true)
here_or true x y o l r is later = inl refl
here_or false x y o l r is later = later is

or_here : (t : Bool) (x y : ℕ) (o l r : Option ℕ) → is_some (if t then Some x else o) ≡ true → (is_some o ≡ true → (is_some l ≡ true) ⊎ (is_some r ≡ true)) → (is_some l ≡ true) ⊎ (is_some (if t then Some y else r) ≡ true)
or_here true x y o l r is later = inr refl
or_here false x y o l r is later = later is

-- what remained is put elsewhere by a copy, or remains
put_or_left : (ps : Places) (from to : ℕ) (id : Id) → is_some (address_of ps id) ≡ true → (is_some (address_of (put_at ps from to) id) ≡ true) ⊎ (is_some (address_of (without ps from) id) ≡ true)
put_or_left [] from to id is = inl is
put_or_left (p ∷ ps) from to id is = by (p.1 == from) (put_or_left ps from to id)
  where
    by : (b : Bool) → (is_some (address_of ps id) ≡ true → (is_some (address_of (put_at ps from to) id) ≡ true) ⊎ (is_some (address_of (without ps from) id) ≡ true))
        → (is_some (address_of (map (λ q. (q.0, to)) (if b then p ∷ filter (λ q. q.1 == from) ps else filter (λ q. q.1 == from) ps)) id) ≡ true)
        ⊎ (is_some (address_of (if not b then p ∷ filter (λ q. not (q.1 == from)) ps else filter (λ q. not (q.1 == from)) ps) id) ≡ true)
    by true later = here_or (is_same_id p.0 id) p.1 to (address_of ps id) (address_of (put_at ps from to) id) (address_of (without ps from) id) is later
    by false later = or_here (is_same_id p.0 id) p.1 p.1 (address_of ps id) (address_of (put_at ps from to) id) (address_of (without ps from) id) is later

copy_placed : (p : Placing) (from to : ℕ) (words : List ℕ) (id : Id) → IsPlaced p id → IsPlaced (moved_by p (Copy from to words)) id
copy_placed p from to words id (inl here) = inl (some_left p.places (put_at p.remaining from to) id here)
copy_placed p from to words id (inr left) = elim (put_or_left p.remaining from to id left) [
  | inl put ↦ inl (some_right p.places (put_at p.remaining from to) id put)
  | inr still ↦ inr still
]

row_placed : (s n : State) (k : Collection) (p : Placing) (rec : Record) (id : Id) → IsNoFlip rec → row_after s rec ≡ Some n → n.collection ≡ Some k → IsPlaced p id → IsPlaced (moved_by p rec) id
row_placed s n k p (Copy from to words) id plain e run is = copy_placed p from to words id is
row_placed s n k p (Flip copies) id plain e run is = absurd plain
row_placed s n k p Collected id plain e run is = let never = sym (ended_none s n s.collection e) ∙ run in absurd (cc never)
row_placed s n k p rec id plain e run is = is

-- an object that is current or remains does so after records other than flips, as long as the collection runs
pub all_placed : (s n : State) (k : Collection) (p : Placing) (records : List Record) (id : Id) → AllByRecursion IsNoFlip records → after_all s records ≡ Some n → n.collection ≡ Some k → IsPlaced p id → IsPlaced (moved_by_all p records) id
all_placed s n k p [] id plain e run is = is
all_placed s n k p (r ∷ rs) id plain e run is =
    option_and_then_some (λ next. after_all next rs) (after s r) n e (λ next one rest.
    let now = ran next n rs plain.1 rest k run in
    all_placed next n k (moved_by p r) rs id plain.1 rest run (row_placed s next now.0 p r id plain.0 (passed (is_number_or_none (number_of r)) (row_after s r) next one) now.1 is))
