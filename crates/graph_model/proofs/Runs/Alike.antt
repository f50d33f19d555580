-- Views that are alike stay so, and are answered alike: what a transaction does is the same whatever names the objects have.
use Rattle.std.proofs.Common.{◌≡◌, ◌≢◌, ◌⊎◌, inl, inr, ℕ, zero, suc, ◌+◌, List, [], ◌∷◌, replicate, Option, Some, None, refl, sym, ap, ◌∙◌, subst, arith}
use Rattle.std.specs.Prelude.{slice_set, slice_index_or, if◌then◌else◌}
use Rattle.std.specs.FinMap.{insert}
use Rattle.std.proofs.lemmas.Bool.{cases_eq}
use Rattle.graph_model.specs.declared.id.Id.{Id}
use Rattle.graph_model.specs.declared.val.Val.{Val}
use Rattle.graph_model.specs.declared.val.Val.TheVariants.{Null, Int, Ref}
use Rattle.graph_model.specs.declared.event.Event.{Event}
use Rattle.graph_model.specs.declared.event.Event.TheVariants.{Root, New, Put, Clear, Link, Drop, Get, Same, Len}
use Rattle.graph_model.specs.declared.reply.Reply.TheVariants as answer
use Rattle.graph_model.specs.Graph.{Graph, root, fields}
use Rattle.graph_model.proofs.Whole.Graph.{fields-insert, fields-insert_other, fields_by_insert}
use Rattle.graph_model.specs.Transaction.{Registers, View, held, fields_of, put_value, with_referred, value_reply, same_reply, next_id, make, write, reference_to, call, after_calls, call_replies}
use Rattle.graph_model.proofs.Whole.Names.{IsNameOf}
use Rattle.graph_model.specs.Isomorphism.{MatchValues, MatchRows}
use Rattle.graph_model.proofs.Canon.MatchRows.{rows_wider, rows_length, rows_at, rows_set, rows_null, tests_alike}
use Rattle.graph_model.proofs.Runs.AlikeViews.{WithMade, MatchHeld, MatchRegisters, AreAlike, IsOneToOne, IsApartFrom}

held_match : (R : Id → Id → Type 0) (rs ss : Registers) (h : ℕ) → MatchRegisters R rs ss → MatchHeld R (held rs h) (held ss h)
held_match R [] [] h match = tt
held_match R [] (p ∷ ss) h match = absurd match
held_match R (o ∷ rs) [] h match = absurd match
held_match R (o ∷ rs) (p ∷ ss) zero match = match.0
held_match R (o ∷ rs) (p ∷ ss) (suc h) match = held_match R rs ss h match.1

set_match : (R : Id → Id → Type 0) (rs ss : Registers) (h : ℕ) (o p : Option Id) → MatchHeld R o p → MatchRegisters R rs ss → MatchRegisters R (slice_set rs h o) (slice_set ss h p)
set_match R [] [] h o p op match = tt
set_match R [] (q ∷ ss) h o p op match = absurd match
set_match R (q ∷ rs) [] h o p op match = absurd match
set_match R (q ∷ rs) (r ∷ ss) zero o p op match = (op, match.1)
set_match R (q ∷ rs) (r ∷ ss) (suc h) o p op match = (match.0, set_match R rs ss h o p op match.1)

held_wider : (R S : Id → Id → Type 0) (o p : Option Id) → ((a b : Id) → R a b → S a b) → MatchHeld R o p → MatchHeld S o p
held_wider R S None None wider match = tt
held_wider R S None (Some b) wider match = absurd match
held_wider R S (Some a) None wider match = absurd match
held_wider R S (Some a) (Some b) wider match = wider a b match

registers_wider : (R S : Id → Id → Type 0) (rs ss : Registers) → ((a b : Id) → R a b → S a b) → MatchRegisters R rs ss → MatchRegisters S rs ss
registers_wider R S [] [] wider match = tt
registers_wider R S [] (p ∷ ss) wider match = absurd match
registers_wider R S (o ∷ rs) [] wider match = absurd match
registers_wider R S (o ∷ rs) (p ∷ ss) wider match = (held_wider R S o p wider match.0, registers_wider R S rs ss wider match.1)

referred_match : (R : Id → Id → Type 0) (rs ss : Registers) (h : ℕ) (x y : Val) → MatchValues R x y → MatchRegisters R rs ss → MatchRegisters R (with_referred rs h x) (with_referred ss h y)
referred_match R rs ss h Null Null xy match = match
referred_match R rs ss h (Int n) (Int k) xy match = match
referred_match R rs ss h (Ref a) (Ref b) xy match = set_match R rs ss h (Some a) (Some b) xy match
referred_match R rs ss h Null (Int k) xy match = absurd xy
referred_match R rs ss h Null (Ref b) xy match = absurd xy
referred_match R rs ss h (Int n) Null xy match = absurd xy
referred_match R rs ss h (Int n) (Ref b) xy match = absurd xy
referred_match R rs ss h (Ref a) Null xy match = absurd xy
referred_match R rs ss h (Ref a) (Int k) xy match = absurd xy

reply_match : (R : Id → Id → Type 0) (x y : Val) → MatchValues R x y → value_reply x ≡ value_reply y
reply_match R Null Null xy = refl
reply_match R (Int n) (Int k) xy = ap answer.Int xy
reply_match R (Ref a) (Ref b) xy = refl
reply_match R Null (Int k) xy = absurd xy
reply_match R Null (Ref b) xy = absurd xy
reply_match R (Int n) Null xy = absurd xy
reply_match R (Int n) (Ref b) xy = absurd xy
reply_match R (Ref a) Null xy = absurd xy
reply_match R (Ref a) (Int k) xy = absurd xy

same_match : (R : Id → Id → Type 0) (o p q r : Option Id) → IsOneToOne R → MatchHeld R o p → MatchHeld R q r → same_reply o q ≡ same_reply p r
same_match R None None q r one op qr = refl
same_match R None (Some b) q r one op qr = absurd op
same_match R (Some a) None q r one op qr = absurd op
same_match R (Some a) (Some b) None None one op qr = refl
same_match R (Some a) (Some b) None (Some y) one op qr = absurd qr
same_match R (Some a) (Some b) (Some x) None one op qr = absurd qr
same_match R (Some a) (Some b) (Some x) (Some y) one op qr = ap (λ t. if t then answer.Yes else answer.No) (tests_alike a b x y (one a b x y op qr))

reference_match : (R : Id → Id → Type 0) (o p : Option Id) → MatchHeld R o p → MatchValues R (reference_to o) (reference_to p)
reference_match R None None op = tt
reference_match R None (Some b) op = absurd op
reference_match R (Some a) None op = absurd op
reference_match R (Some a) (Some b) op = op

fields_match : (R : Id → Id → Type 0) (v w : View) (o p : Option Id) → AreAlike R v w → MatchHeld R o p → MatchRows R (fields_of v.graph o) (fields_of w.graph p)
fields_match R v w None None alike op = tt
fields_match R v w None (Some b) alike op = absurd op
fields_match R v w (Some a) None alike op = absurd op
fields_match R v w (Some a) (Some b) alike op = alike.same_fields a b op

written_match : (R : Id → Id → Type 0) (v w : View) (o p : Option Id) (i : ℕ) (x y : Val) (a b : Id) → IsOneToOne R → AreAlike R v w → MatchHeld R o p → MatchValues R x y → R a b
    → MatchRows R (fields (put_value v.graph o i x) a) (fields (put_value w.graph p i y) b)
written_match R v w None None i x y a b one alike op xy ab = alike.same_fields a b ab
written_match R v w None (Some d) i x y a b one alike op xy ab = absurd op
written_match R v w (Some c) None i x y a b one alike op xy ab = absurd op
written_match R v w (Some c) (Some d) i x y a b one alike op xy ab =
    let vs = slice_set (fields v.graph c) i x in
    let ws = slice_set (fields w.graph d) i y in
    fields_by_insert (λ us. MatchRows R us (fields (insert w.graph d ws) b)) v.graph c a vs
    (λ same. fields_by_insert (MatchRows R vs) w.graph d b ws
    (λ same'. rows_set R (fields v.graph c) (fields w.graph d) i x y xy (alike.same_fields c d op))
    (λ other. absurd (other ((one a b c d ab op).0 same))))
    (λ other. fields_by_insert (MatchRows R (fields v.graph a)) w.graph d b ws
    (λ same'. absurd (other ((one a b c d ab op).1 same')))
    (λ other'. alike.same_fields a b ab))

write_alike : (R : Id → Id → Type 0) (v w : View) (h i : ℕ) (x y : Val) → IsOneToOne R → AreAlike R v w → MatchValues R x y → AreAlike R (write v h i x).view (write w h i y).view
write_alike R v w h i x y one alike xy = record {
  roots = alike.roots;
  registers = alike.registers;
  same_fields = λ a b. written_match R v w (held v.registers h) (held w.registers h) i x y a b one alike (held_match R v.registers w.registers h alike.registers) xy;
  made = alike.made;
}

registers_alike : (R : Id → Id → Type 0) (v w : View) (rs ss : Registers) → AreAlike R v w → MatchRegisters R rs ss → AreAlike R (record v { registers = rs }) (record w { registers = ss })
registers_alike R v w rs ss alike match = record { roots = alike.roots; registers = match; same_fields = alike.same_fields; made = alike.made }

name_wider : (t n : ℕ) (id : Id) → IsNameOf t n id → IsNameOf t (n + 1) id
name_wider t n id name = let to = name.to in record { maker = name.maker; from = name.from; to = omega arith }

made_wider : (R : Id → Id → Type 0) (t n : ℕ) (a b : Id) → WithMade R t n a b → WithMade R t (n + 1) a b
made_wider R t n a b (inl ab) = inl ab
made_wider R t n a b (inr (same, name)) = inr (same, name_wider t n a name)

name_cases : (t n : ℕ) (id : Id) → IsNameOf t (n + 1) id → (id ≡ record { t = t; k = n + 1 }) ⊎ IsNameOf t n id
name_cases t n id name =
    let to = name.to in
    elim (cases_eq id.k (n + 1)) [
      | inl last ↦ inl (ap (λ m. record { t = m; k = id.k }) name.maker ∙ ap (λ m. record { t = t; k = m }) last)
      | inr other ↦ inr (record { maker = name.maker; from = name.from; to = omega arith })
    ]

-- it is one to one, where the objects that match have other names
pub made_one_to_one : (R : Id → Id → Type 0) (t n : ℕ) → IsOneToOne R → IsApartFrom R t → IsOneToOne (WithMade R t n)
made_one_to_one R t n one apart a b x y (inl ab) (inl xy) = one a b x y ab xy
made_one_to_one R t n one apart a b x y (inl ab) (inr (same, name)) = (
  λ e. absurd ((apart a b ab).0 (ap (λ (i : Id). i.t) e ∙ name.maker)),
  λ e. absurd ((apart a b ab).1 (ap (λ (i : Id). i.t) (e ∙ sym same) ∙ name.maker)),
)
made_one_to_one R t n one apart a b x y (inr (same, name)) (inl xy) = (
  λ e. absurd ((apart x y xy).0 (ap (λ (i : Id). i.t) (sym e) ∙ name.maker)),
  λ e. absurd ((apart x y xy).1 (ap (λ (i : Id). i.t) (sym e ∙ sym same) ∙ name.maker)),
)
made_one_to_one R t n one apart a b x y (inr (same, name)) (inr (same', name')) = (λ e. sym same ∙ e ∙ same', λ e. same ∙ e ∙ sym same')

other_rows : (S : Id → Id → Type 0) (g h : Graph) (c d a b : Id) (vs ws : List Val) → a ≢ c → b ≢ d → MatchRows S (fields g a) (fields h b) → MatchRows S (fields (insert g c vs) a) (fields (insert h d ws) b)
other_rows S g h c d a b vs ws other other' match =
    let Here : List Val → Type 0 = λ us. MatchRows S us (fields (insert h d ws) b) in
    let There : List Val → Type 0 = λ us. MatchRows S (fields g a) us in
    subst Here (sym (fields-insert_other g c a vs other)) (subst There (sym (fields-insert_other h d b ws other')) match)

new_rows : (S : Id → Id → Type 0) (g h : Graph) (c d a b : Id) (vs : List Val) → a ≡ c → b ≡ d → MatchRows S vs vs → MatchRows S (fields (insert g c vs) a) (fields (insert h d vs) b)
new_rows S g h c d a b vs same same' match =
    let Here : List Val → Type 0 = λ us. MatchRows S us (fields (insert h d vs) b) in
    let There : List Val → Type 0 = λ us. MatchRows S vs us in
    subst Here (sym (ap (fields (insert g c vs)) same ∙ fields-insert g c vs)) (subst There (sym (ap (fields (insert h d vs)) same' ∙ fields-insert h d vs)) match)

module _ (R : Id → Id → Type 0) (t : ℕ) (one : IsOneToOne R) (apart : IsApartFrom R t) where
  -- views that are alike, by the relation and what transaction t has made
  abbrev Alike : View → View → Type 0
  Alike v w = AreAlike (WithMade R t v.made) v w

  same_next : (v w : View) → v.made ≡ w.made → next_id v t ≡ next_id w t
  same_next v w made = ap (λ n. record { t = t; k = n + 1 }) made

  made_rows : (v w : View) (len : ℕ) (a b : Id) → Alike v w → WithMade R t (v.made + 1) a b
      → MatchRows (WithMade R t (v.made + 1)) (fields (insert v.graph (next_id v t) (replicate len Null)) a) (fields (insert w.graph (next_id w t) (replicate len Null)) b)
  made_rows v w len a b alike (inl ab) =
      other_rows (WithMade R t (v.made + 1)) v.graph w.graph (next_id v t) (next_id w t) a b (replicate len Null) (replicate len Null)
      (λ e. (apart a b ab).0 (ap (λ (i : Id). i.t) e)) (λ e. (apart a b ab).1 (ap (λ (i : Id). i.t) e))
      (rows_wider (WithMade R t v.made) (WithMade R t (v.made + 1)) (fields v.graph a) (fields w.graph b) (made_wider R t v.made) (alike.same_fields a b (inl ab)))
  made_rows v w len a b alike (inr (same, name)) =
      elim (name_cases t v.made a name) [
        | inl new ↦
            new_rows (WithMade R t (v.made + 1)) v.graph w.graph (next_id v t) (next_id w t) a b (replicate len Null) new (sym same ∙ new ∙ same_next v w alike.made)
            (rows_null (WithMade R t (v.made + 1)) len)
        | inr old ↦
            let to = old.to in
            let made = alike.made in
            other_rows (WithMade R t (v.made + 1)) v.graph w.graph (next_id v t) (next_id w t) a b (replicate len Null) (replicate len Null)
            (λ e. let last : a.k ≡ v.made + 1 = ap (λ (i : Id). i.k) e in omega arith)
            (λ e. let last : a.k ≡ w.made + 1 = ap (λ (i : Id). i.k) (same ∙ e) in omega arith)
            (rows_wider (WithMade R t v.made) (WithMade R t (v.made + 1)) (fields v.graph a) (fields w.graph b) (made_wider R t v.made) (alike.same_fields a b (inr (same, old))))
      ]

  make_alike : (v w : View) (h len : ℕ) → Alike v w → Alike (make v t h len).view (make w t h len).view
  make_alike v w h len alike =
      let S = WithMade R t (v.made + 1) in
      let name : IsNameOf t (v.made + 1) (next_id v t) = record { maker = refl; from = omega arith; to = omega arith } in
      record {
        roots = made_wider R t v.made root root alike.roots;
        registers = set_match S v.registers w.registers h (Some (next_id v t)) (Some (next_id w t)) (inr (same_next v w alike.made, name))
            (registers_wider (WithMade R t v.made) S v.registers w.registers (made_wider R t v.made) alike.registers);
        same_fields = λ a b. made_rows v w len a b alike;
        made = ap (λ n. n + 1) alike.made;
      }

  -- a call is answered alike, and leaves views that are alike
  pub call_alike : (v w : View) (c : Event) → Alike v w → ((call v t c).reply ≡ (call w t c).reply) × Alike (call v t c).view (call w t c).view
  call_alike v w (Root s h) alike =
      let S = WithMade R t v.made in
      (refl, registers_alike S v w _ _ alike (set_match S v.registers w.registers h (Some root) (Some root) alike.roots alike.registers))
  call_alike v w (New s h len) alike = (refl, make_alike v w h len alike)
  call_alike v w (Put s h i n) alike = (refl, write_alike (WithMade R t v.made) v w h i (Int n) (Int n) (made_one_to_one R t v.made one apart) alike refl)
  call_alike v w (Clear s h i) alike = (refl, write_alike (WithMade R t v.made) v w h i Null Null (made_one_to_one R t v.made one apart) alike tt)
  call_alike v w (Link s h i h2) alike =
      let S = WithMade R t v.made in (
        refl,
        write_alike S v w h i (reference_to (held v.registers h2)) (reference_to (held w.registers h2)) (made_one_to_one R t v.made one apart) alike
            (reference_match S (held v.registers h2) (held w.registers h2) (held_match S v.registers w.registers h2 alike.registers)),
      )
  call_alike v w (Drop s h) alike =
      let S = WithMade R t v.made in
      (refl, registers_alike S v w _ _ alike (set_match S v.registers w.registers h None None tt alike.registers))
  call_alike v w (Get s h i h2) alike =
      let S = WithMade R t v.made in
      let x = slice_index_or (fields_of v.graph (held v.registers h)) i Null in
      let y = slice_index_or (fields_of w.graph (held w.registers h)) i Null in
      let rows = fields_match S v w (held v.registers h) (held w.registers h) alike (held_match S v.registers w.registers h alike.registers) in
      let xy : MatchValues S x y = rows_at S (fields_of v.graph (held v.registers h)) (fields_of w.graph (held w.registers h)) i rows in
      (reply_match S x y xy, registers_alike S v w _ _ alike (referred_match S v.registers w.registers h2 x y xy alike.registers))
  call_alike v w (Same s h h2) alike =
      let S = WithMade R t v.made in (
        same_match S (held v.registers h) (held w.registers h) (held v.registers h2) (held w.registers h2) (made_one_to_one R t v.made one apart)
            (held_match S v.registers w.registers h alike.registers) (held_match S v.registers w.registers h2 alike.registers),
        alike,
      )
  call_alike v w (Len s h) alike =
      let S = WithMade R t v.made in
      let rows = fields_match S v w (held v.registers h) (held w.registers h) alike (held_match S v.registers w.registers h alike.registers) in
      (ap answer.Length (rows_length S (fields_of v.graph (held v.registers h)) (fields_of w.graph (held w.registers h)) rows), alike)
  call_alike v w c alike = (refl, alike)

  -- so are calls
  pub calls_alike : (v w : View) (cs : List Event) → Alike v w → (call_replies v t cs ≡ call_replies w t cs) × Alike (after_calls v t cs) (after_calls w t cs)
  calls_alike v w [] alike = (refl, alike)
  calls_alike v w (c ∷ cs) alike =
      let one_call = call_alike v w c alike in
      let rest = calls_alike (call v t c).view (call w t c).view cs one_call.1 in (
        ap (λ r. r ∷ call_replies (call v t c).view t cs) one_call.0 ∙ ap (λ rs. (call w t c).reply ∷ rs) rest.0,
        rest.1,
      )
