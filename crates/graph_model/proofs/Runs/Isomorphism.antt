-- Transactions keep isomorphism: run on isomorphic graphs they are answered the same, and leave isomorphic graphs.
use Rattle.std.proofs.Common.{◌≡◌, ◌≢◌, inl, inr, ℕ, zero, suc, List, [], ◌∷◌, replicate, None, refl, sym, ap, ◌∙◌, arith}
use Rattle.std.specs.List.{AllByRecursion}
use Rattle.graph_model.specs.declared.id.Id.{Id}
use Rattle.graph_model.specs.Graph.{Graph, root, fields}
use Rattle.graph_model.specs.Canon.{Reached, at_root, along}
use Rattle.graph_model.specs.Transaction.{Transaction, fresh_view, run, replies, serial, serial_replies}
use Rattle.graph_model.specs.Isomorphism.{MatchRows, IsIsomorphism}
use Rattle.graph_model.proofs.Canon.Isomorphism.{AreIsomorphic}
use Rattle.graph_model.proofs.Canon.MatchRows.{rows_wider, rows_reference, rows_turned, rows_both}
use Rattle.graph_model.specs.NewNumbers.{IsNewNumber, HaveNewNumbers, HaveOwnNumbers}
use Rattle.graph_model.proofs.Runs.AlikeViews.{WithMade, MatchRegisters, AreAlike, IsOneToOne, IsApartFrom}
use Rattle.graph_model.proofs.Runs.Alike.{made_one_to_one, calls_alike}

-- objects that match have fields that match
abbrev KeepsFields : (Id → Id → Type 0) → Graph → Graph → Type 0
KeepsFields S g h = (a b : Id) → S a b → MatchRows S (fields g a) (fields h b)

-- objects that match, each reached in its graph
abbrev pub BothReached : Graph → Graph → (Id → Id → Type 0) → Id → Id → Type 0
BothReached g h S a b = Reached g a × Reached h b × S a b

reached_match : (S : Id → Id → Type 0) (g h : Graph) (a : Id) → S root root → KeepsFields S g h → Reached g a → (b : Id) × BothReached g h S a b
reached_match S g h a roots keeps at_root = (root, (at_root, at_root, roots))
reached_match S g h a roots keeps (along {id = x} i target reached is) =
    let there = reached_match S g h x roots keeps reached in
    let other = rows_reference S (fields g x) (fields h there.0) i a (keeps x there.0 (there.1).2) is in
    (other.0, (along i a reached is, along i other.0 (there.1).1 other.2, other.1))

turned_keeps : (S : Id → Id → Type 0) (g h : Graph) → KeepsFields S g h → KeepsFields (λ a b. S b a) h g
turned_keeps S g h keeps a b ba = rows_turned S (fields g b) (fields h a) (keeps b a ba)

turned_match : (S : Id → Id → Type 0) (g h : Graph) (b : Id) → (a : Id) × BothReached h g (λ x y. S y x) b a → (a : Id) × BothReached g h S a b
turned_match S g h b (a, (there, here, ab)) = (a, (here, there, ab))

-- a one-to-one match of the roots and of all that matching fields refer to is an isomorphism
pub reached-IsIsomorphism : (S : Id → Id → Type 0) (g h : Graph) → S root root → IsOneToOne S → KeepsFields S g h → IsIsomorphism (BothReached g h S) g h
reached-IsIsomorphism S g h roots one keeps = record {
  roots = (at_root, at_root, roots);
  reached = λ a b (here, there, ab). (here, there);
  each = λ a reached. reached_match S g h a roots keeps reached;
  each_back = λ b reached. turned_match S g h b (reached_match (λ x y. S y x) h g b roots (turned_keeps S g h keeps) reached);
  one_to_one = λ a b x y (here, there, ab) (here', there', xy). one a b x y ab xy;
  same_fields = λ a b (here, there, ab).
      rows_both S (Reached g) (Reached h) (fields g a) (fields h b) (λ i x is. along i x here is) (λ i y is. along i y there is) (keeps a b ab);
}

none_match : (S : Id → Id → Type 0) (n : ℕ) → MatchRegisters S (replicate n None) (replicate n None)
none_match S zero = tt
none_match S (suc n) = (tt, none_match S n)

fresh_fields : (R : Id → Id → Type 0) (g h : Graph) (t : ℕ) (a b : Id) → IsIsomorphism R g h → WithMade R t 0 a b → MatchRows (WithMade R t 0) (fields g a) (fields h b)
fresh_fields R g h t a b iso (inl ab) = rows_wider R (WithMade R t 0) (fields g a) (fields h b) (λ x y xy. inl xy) (iso.same_fields a b ab)
fresh_fields R g h t a b iso (inr (same, name)) = let from = name.from in let to = name.to in absurd (omega arith)

fresh_alike : (R : Id → Id → Type 0) (g h : Graph) (t : ℕ) → IsIsomorphism R g h → AreAlike (WithMade R t 0) (fresh_view g) (fresh_view h)
fresh_alike R g h t iso = record {
  roots = inl iso.roots;
  registers = none_match (WithMade R t 0) 64;
  same_fields = λ a b. fresh_fields R g h t a b iso;
  made = refl;
}

apart_from : (R : Id → Id → Type 0) (g h : Graph) (n : ℕ) → IsIsomorphism R g h → IsNewNumber g n → IsNewNumber h n → IsApartFrom R n
apart_from R g h n iso new new' a b ab = let both = iso.reached a b ab in (new a both.0, new' b both.1)

-- the relation of what is reached once transaction t has run
abbrev pub AfterRun : (Id → Id → Type 0) → Graph → Graph → Transaction → Id → Id → Type 0
AfterRun R g h t = BothReached (run g t).graph (run h t).graph (WithMade R t.number (run g t).made)

-- A transaction with a new number, run on isomorphic graphs, is answered the same and leaves isomorphic graphs.
pub run-IsIsomorphism : (R : Id → Id → Type 0) (g h : Graph) (t : Transaction) → IsIsomorphism R g h → IsNewNumber g t.number → IsNewNumber h t.number
    → (replies g t ≡ replies h t) × IsIsomorphism (AfterRun R g h t) (run g t).graph (run h t).graph
run-IsIsomorphism R g h t iso new new' =
    let apart = apart_from R g h t.number iso new new' in
    let after = calls_alike R t.number iso.one_to_one apart (fresh_view g) (fresh_view h) t.calls (fresh_alike R g h t.number iso) in
    let S = WithMade R t.number (run g t).made in (
      after.0,
      reached-IsIsomorphism S (run g t).graph (run h t).graph (after.1).roots (made_one_to_one R t.number (run g t).made iso.one_to_one apart) (after.1).same_fields,
    )

other_name : (R : Id → Id → Type 0) (g h : Graph) (t : Transaction) (n : ℕ) (a b : Id) → IsIsomorphism R g h → IsNewNumber g n → IsNewNumber h n → n ≢ t.number
    → WithMade R t.number (run g t).made a b → (a.t ≢ n) × (b.t ≢ n)
other_name R g h t n a b iso new new' other (inl ab) = apart_from R g h n iso new new' a b ab
other_name R g h t n a b iso new new' other (inr (same, name)) =
    (λ e. other (sym e ∙ name.maker), λ e. other (sym e ∙ ap (λ (i : Id). i.t) (sym same) ∙ name.maker))

numbers_kept : (R : Id → Id → Type 0) (g h : Graph) (t : Transaction) (n : ℕ) → IsIsomorphism R g h → IsIsomorphism (AfterRun R g h t) (run g t).graph (run h t).graph
    → IsNewNumber g n → IsNewNumber h n → n ≢ t.number → IsNewNumber (run g t).graph n × IsNewNumber (run h t).graph n
numbers_kept R g h t n iso after new new' other = (
  λ a reached. let there = after.each a reached in (other_name R g h t n a there.0 iso new new' other (there.1).2).0,
  λ b reached. let here = after.each_back b reached in (other_name R g h t n here.0 b iso new new' other (here.1).2).1,
)

all_kept : (R : Id → Id → Type 0) (g h : Graph) (t : Transaction) (ts : List Transaction) → IsIsomorphism R g h → IsIsomorphism (AfterRun R g h t) (run g t).graph (run h t).graph
    → AllByRecursion (λ (u : Transaction). u.number ≢ t.number) ts → HaveNewNumbers g ts → HaveNewNumbers h ts → HaveNewNumbers (run g t).graph ts × HaveNewNumbers (run h t).graph ts
all_kept R g h t [] iso after others new new' = (tt, tt)
all_kept R g h t (u ∷ ts) iso after others new new' =
    let here = numbers_kept R g h t u.number iso after new.0 new'.0 others.0 in
    let rest = all_kept R g h t ts iso after others.1 new.1 new'.1 in
    ((here.0, rest.0), (here.1, rest.1))

serial_from : (R : Id → Id → Type 0) (g h : Graph) (ts : List Transaction) → IsIsomorphism R g h → HaveOwnNumbers ts → HaveNewNumbers g ts → HaveNewNumbers h ts
    → (serial_replies g ts ≡ serial_replies h ts) × AreIsomorphic (serial g ts) (serial h ts)
serial_from R g h [] iso own new new' = (refl, (R, iso))
serial_from R g h (t ∷ ts) iso own new new' =
    let one = run-IsIsomorphism R g h t iso new.0 new'.0 in
    let later = all_kept R g h t ts iso one.1 own.0 new.1 new'.1 in
    let rest = serial_from (AfterRun R g h t) (run g t).graph (run h t).graph ts one.1 own.1 later.0 later.1 in (
      ap (λ r. r ∷ serial_replies (run g t).graph ts) one.0 ∙ ap (λ rs. replies h t ∷ rs) rest.0,
      rest.1,
    )

-- Transactions with new numbers, run one after another on isomorphic graphs, are answered the same and leave isomorphic graphs.
pub serial_isomorphic : (g h : Graph) (ts : List Transaction) → AreIsomorphic g h → HaveOwnNumbers ts → HaveNewNumbers g ts → HaveNewNumbers h ts
    → (serial_replies g ts ≡ serial_replies h ts) × AreIsomorphic (serial g ts) (serial h ts)
serial_isomorphic g h ts (R, iso) own new new' = serial_from R g h ts iso own new new'
