-- Fields and rows as they are printed, one after another.
use Rattle.std.proofs.Common.{◌≡◌, ℕ, zero, suc, ◌+◌, ◌≤◌, inl, inr, List, [], ◌∷◌, ◌++◌, length, take, Option, Some, None, refl, sym, ap, ◌∙◌, subst, arith, append_assoc}
use Rattle.std.specs.Prelude.{slice_get, codes, IsSome, Result, Ok, Err, IsErrAnd}
use Rattle.std.specs.Fmt.{decimal}
use Rattle.std.proofs.lemmas.List.{map-append, length-map, length-append, length-take-le, take_all}
use Rattle.std.proofs.lemmas.Option.{same_Some, slice_get_within, slice_get-get_or}
use Rattle.std.proofs.lemmas.Bool.{cases_lt}
use Rattle.heap_words.specs.declared.Word.{Word}
use Rattle.heap_words.specs.declared.Word.TheVariants as word
use Rattle.heap_words.specs.Word.{meaning}
use Rattle.graph_model.specs.declared.id.Id.{Id}
use Rattle.graph_model.specs.Graph.{Graph}
use Rattle.graph_model.specs.Canon.{canon}
use Rattle.graph_model.specs.Text.{field_text, fields_text, rows_text, canon_text}
use Rattle.object_layout.specs.Layout.{object_at, field_words, referred, IsMet, at_start, along, IsSeenAs}
use Rattle.object_layout.proofs.LayoutLaws.{object_stand}
use Rattle.graph_print.specs.Order.{with_place, with_places, target, targets, IsWholeField, AreWhole, IsOrder, first, next, shown_word, row}
use Rattle.graph_print.proofs.Rows0.{rows}
use Rattle.graph_print.proofs.OrderLaws.{order_met, met_get, order_canon}
use Rattle.graph_print.proofs.NumberLaws.{places_grow, places_push, targets_numbered, row_push, rows_push, AreNumbered}
use Rattle.graph_print.proofs.TextLaws.{fields_text_push, row_text, rows_text_push}
use Rattle.object_layout.specs.declared.read_error.ReadError.{ReadError}
use Rattle.object_layout.specs.declared.read_error.ReadError.TheVariants as read
use Rattle.graph_print.specs.declared.print_error.PrintError.{PrintError}
use Rattle.graph_print.specs.declared.print_error.PrintError.TheVariants.{Damaged}
use Rattle.graph_print.specs.FromRead.{print_error}
use Rattle.graph_print.specs.Printed.{IsFieldPrinted, AreFieldsPrinted}
use Rattle.graph_print.specs.Numbered.{IsFieldNumbered, AreFieldsNumbered}

whole_push : (words ws : List ℕ) (w : ℕ) → AreWhole words ws → IsWholeField words (meaning w) → AreWhole words (ws ++ w ∷ [])
whole_push words [] w all whole zero v is = subst (λ (x : ℕ). IsWholeField words (meaning x)) (same_Some w v is) whole
whole_push words [] w all whole (suc i) v is = cc
whole_push words (x ∷ ws) w all whole zero v is = all zero v is
whole_push words (x ∷ ws) w all whole (suc i) v is = whole_push words ws w (λ k. all (suc k)) whole i v is

order_push : (words p0 p1 p2 ws : List ℕ) (w : ℕ) → p1 ≡ with_places p0 (targets words ws) → p2 ≡ with_place p1 (target words w) → p2 ≡ with_places p0 (targets words (ws ++ w ∷ []))
order_push words p0 p1 p2 ws w all one =
    one
    ∙ ap (λ ps. with_place ps (target words w)) all
    ∙ sym (places_push p0 (targets words ws) (target words w))
    ∙ ap (with_places p0) (sym (map-append (target words) ws (w ∷ [])))

-- one more field, without its text
pub numbered_more : (words p0 p1 p2 ws : List ℕ) (w : ℕ) → AreFieldsNumbered words p0 p1 ws → IsFieldNumbered words p1 p2 w → AreFieldsNumbered words p0 p2 (ws ++ w ∷ [])
numbered_more words p0 p1 p2 ws w all one = record {
  whole = whole_push words ws w all.whole one.whole;
  order = order_push words p0 p1 p2 ws w all.order one.order;
}

-- one more field
pub fields_more : (words p0 p1 p2 t0 t1 t2 ws : List ℕ) (w : ℕ) → AreFieldsPrinted words p0 p1 t0 t1 ws → IsFieldPrinted words p1 p2 t1 t2 w → AreFieldsPrinted words p0 p2 t0 t2 (ws ++ w ∷ [])
fields_more words p0 p1 p2 t0 t1 t2 ws w all one =
    let order = order_push words p0 p1 p2 ws w all.order one.order in
    let Known : List ℕ → Type 0 = λ ps. AreNumbered words ps ws in
    let known = subst Known (sym all.order) (targets_numbered words p0 ws) in
    let shown = field_text (shown_word words p2 (meaning w)) in
    let rows_is : row words p2 (ws ++ w ∷ []) ≡ row words p1 ws ++ shown_word words p2 (meaning w) ∷ [] =
    ap (λ ps. row words ps (ws ++ w ∷ [])) one.order
    ∙ row_push words p1 ws w known
    ∙ ap (λ ps. row words p1 ws ++ shown_word words ps (meaning w) ∷ []) (sym one.order) in
    record {
      whole = whole_push words ws w all.whole one.whole;
      order = order;
      bytes = one.bytes
          ∙ ap (λ t. t ++ shown) all.bytes
          ∙ append_assoc t0 (fields_text (row words p1 ws)) shown
          ∙ ap (λ t. t0 ++ t) (sym (ap fields_text rows_is ∙ fields_text_push (row words p1 ws) (shown_word words p2 (meaning w))));
    }

some_object : (words : List ℕ) (o : Option ℕ) (n : ℕ) → o ≡ Some n → IsSome o
some_object words None n is = cc
some_object words (Some m) n is = refl

referred_object : (words : List ℕ) (meant : Option Word) (at : ℕ) → referred words meant ≡ Some at → IsSome (object_at words at)
referred_object words None at is = cc
referred_object words (Some word.Null) at is = cc
referred_object words (Some (word.Int n)) at is = cc
referred_object words (Some (word.Volatile k)) at is = cc
referred_object words (Some (word.Stable b)) at is = let object = object_stand words b at is in some_object words (object_at words at) object.0 object.1

met_object : (words : List ℕ) (start at : ℕ) → IsMet words start at → IsSome (object_at words at)
met_object words start at (at_start is) = let object = object_stand words start at is in some_object words (object_at words at) object.0 object.1
met_object words start at (along i w t met is leads) = referred_object words (meaning w) at leads

-- at each numbered place an object stands
pub order_object : (words : List ℕ) (start count : ℕ) (places : List ℕ) (i at : ℕ) → IsOrder words start count places → slice_get places i ≡ Some at → IsSome (object_at words at)
order_object words start count places i at order is = met_object words start at (met_get words start places i at (order_met words start count places order) is)

order_within : (words : List ℕ) (start count : ℕ) (places : List ℕ) → IsOrder words start count places → count ≤ length places
order_within words start count places (first is) = omega arith
order_within words start count places (next {count = before} {places = ps} at order is whole) =
    let more = places_grow ps (targets words (field_words words at)) in
    let inside = slice_get_within ps before at is in
    let long : length places ≡ length ps + length more.0 = ap length more.1 ∙ length-append ps more.0 in
    omega arith

regroup : (t d c f n : List ℕ) → (((t ++ d) ++ c) ++ f) ++ n ≡ t ++ (((d ++ c) ++ f) ++ n)
regroup t d c f n = simp append_assoc

-- one more row
pub rows_more : (words : List ℕ) (start count : ℕ) (places after text printed : List ℕ) (at : ℕ) → IsOrder words start count places → slice_get places count ≡ Some at
    → text ≡ rows_text 0 (rows words places (take count places))
    → AreFieldsPrinted words places after (text ++ decimal count ++ codes ":") printed (field_words words at)
    → IsOrder words start (count + 1) after × (printed ++ 10 ∷ [] ≡ rows_text 0 (rows words after (take (count + 1) after)))
rows_more words start count places after text printed at order is told fields =
    let ws = field_words words at in
    let os = targets words ws in
    let inside = slice_get_within places count at is in
    let before = rows words places (take count places) in
    let long : length before ≡ count = length-map (take count places) (λ x. row words places (field_words words x)) ∙ length-take-le count places (omega arith) in
    let many : 0 + length before ≡ count = omega arith in
    let filled = with_places places os in
    let r = row words filled ws in
    let Order : List ℕ → Type 0 = λ ps. IsOrder words start (count + 1) ps in (
      subst Order (sym fields.order) (next at order is fields.whole),
      ap (λ t. t ++ 10 ∷ []) fields.bytes
          ∙ regroup text (decimal count) (codes ":") (fields_text (row words after ws)) (10 ∷ [])
          ∙ ap (λ t. t ++ row_text count (row words after ws)) told
          ∙ ap (λ ps. rows_text 0 before ++ row_text count (row words ps ws)) fields.order
          ∙ ap (λ n. rows_text 0 before ++ row_text n r) (sym many)
          ∙ sym (ap (rows_text 0) (rows_push words start count places at order is) ∙ rows_text_push 0 before r)
          ∙ ap (λ ps. rows_text 0 (rows words ps (take (count + 1) ps))) (sym fields.order),
    )

no_more : (xs : List ℕ) (i : ℕ) → slice_get xs i ≡ None → length xs ≤ i
no_more xs i none = elim (cases_lt i (length xs)) [
  | inl less ↦ let clash = sym none ∙ slice_get-get_or xs i 0 less in cc
  | inr past ↦ past
]

rows_count : (words : List ℕ) (start count : ℕ) (places : List ℕ) → IsOrder words start count places → slice_get places count ≡ None → count ≡ length (rows words places places)
rows_count words start count places order over =
    let past = no_more places count over in
    let within = order_within words start count places order in
    let long = length-map places (λ x. row words places (field_words words x)) in
    omega arith

-- once all are visited, they are as many as the canon has rows
pub order_count : (name : ℕ → Id) (words : List ℕ) (start : ℕ) (g : Graph) (count : ℕ) (places : List ℕ) → IsSeenAs name words start g → IsOrder words start count places
    → slice_get places count ≡ None → count ≡ length (canon g)
order_count name words start g count places seen order over =
    rows_count words start count places order over ∙ ap length (sym (order_canon name words start g count places seen order over))

-- all rows
pub rows_all : (name : ℕ → Id) (words : List ℕ) (start : ℕ) (g : Graph) (count : ℕ) (places text : List ℕ) → IsSeenAs name words start g → IsOrder words start count places
    → slice_get places count ≡ None → text ≡ rows_text 0 (rows words places (take count places))
    → codes "graph " ++ decimal count ++ 10 ∷ text ≡ canon_text (canon g)
rows_all name words start g count places text seen order over told =
    let past = no_more places count over in
    let many = rows_count words start count places order over in
    ap (λ t. codes "graph " ++ decimal count ++ 10 ∷ t) (told ∙ ap (λ ps. rows_text 0 (rows words places ps)) (take_all count places past))
    ∙ ap (λ n. codes "graph " ++ decimal n ++ 10 ∷ rows_text 0 (rows words places places)) many
    ∙ ap canon_text (sym (order_canon name words start g count places seen order over))

-- what could not be read is no damage
pub no_damage : {T : Type 0} (r : Result T PrintError) (e : ReadError) (at : ℕ) → IsErrAnd r (λ y. y ≡ print_error e) → r ≡ Err (Damaged at) → ⊥
no_damage (Ok x) e at is told = cc
no_damage (Err y) (read.Disk error) at is told = cc
no_damage (Err y) read.NoMemory at is told = cc
