-- What stands where words are laid over others.
use Rattle.std.proofs.Common.{◌≡◌, ◌≢◌, ℕ, ◌<◌, Bool, true, false, cond, List, [], ◌∷◌, length, Some, refl, sym, ap, subst, ◌∙◌, length-set}
use Rattle.std.specs.Prelude.{slice_set, slice_index}
use Rattle.std.specs.Option.{unwrap_or}
use Rattle.std.specs.BTreeMap.{insert_entry, is_at}
use Rattle.std.specs.Map.{lookup}
use Rattle.std.specs.declared.cmp.Ordering.{Ordering}
use Rattle.std.specs.declared.cmp.Ordering.TheVariants.{Less, Equal, Greater}
use Rattle.std.specs.Ordering.{nat_cmp, is_eq, match_ordering}
use Rattle.std.proofs.lemmas.List.{get_or-set_same, get_or-set_other, set-set, set_comm}
use Rattle.log_machine.proofs.MapLaws.{tied, itself}
use Rattle.committed_words.specs.LaidOver.{laid_over}

pub length-laid_over : (words : List ℕ) (over : List (ℕ × ℕ)) → length (laid_over words over) ≡ length words
length-laid_over words [] = refl
length-laid_over words (w ∷ ws) = length-set (laid_over words ws) w.0 w.1 ∙ length-laid_over words ws

-- two numbers of which one comes before the other differ
differ : (k q : ℕ) → is_eq (nat_cmp k q) ≡ false → k ≢ q
differ k q off same = absurd (cc (subst (λ n. is_eq (nat_cmp k n) ≡ true) same (itself k), off))

by_order : (words : List ℕ) (w : ℕ × ℕ) (ws : List (ℕ × ℕ)) (k v : ℕ) (r : Ordering) → nat_cmp k w.0 ≡ r → laid_over words (insert_entry nat_cmp ws k v) ≡ slice_set (laid_over words ws) k v
    → laid_over words (match_ordering r ((k, v) ∷ w ∷ ws) ((w.0, v) ∷ ws) (w ∷ insert_entry nat_cmp ws k v)) ≡ slice_set (laid_over words (w ∷ ws)) k v
by_order words w ws k v Less is rest = refl
by_order words w ws k v Equal is rest =
    let same : k ≡ w.0 = tied k w.0 (ap is_eq is) in
    sym (ap (λ i. slice_set (slice_set (laid_over words ws) w.0 w.1) i v) same ∙ set-set (laid_over words ws) w.0 w.1 v)
by_order words w ws k v Greater is rest =
    ap (λ l. slice_set l w.0 w.1) rest ∙ set_comm (laid_over words ws) k w.0 v w.1 (differ k w.0 (ap is_eq is))

-- one more word is laid over them, or in the place of the one that was laid there
pub laid_over-insert : (words : List ℕ) (over : List (ℕ × ℕ)) (k v : ℕ) → laid_over words (insert_entry nat_cmp over k v) ≡ slice_set (laid_over words over) k v
laid_over-insert words [] k v = refl
laid_over-insert words (w ∷ ws) k v = by_order words w ws k v (nat_cmp k w.0) refl (laid_over-insert words ws k v)

here : (words : List ℕ) (w : ℕ × ℕ) (ws : List (ℕ × ℕ)) (i : ℕ) (b : Bool) → is_eq (nat_cmp i w.0) ≡ b → i < length words
    → slice_index (laid_over words ws) i ≡ unwrap_or (lookup (is_at (nat_cmp i)) ws) (slice_index words i)
    → slice_index (slice_set (laid_over words ws) w.0 w.1) i ≡ unwrap_or (cond b (Some w.1) (lookup (is_at (nat_cmp i)) ws)) (slice_index words i)
here words w ws i true is lt rest =
    let same : i ≡ w.0 = tied i w.0 is in
    let inside : w.0 < length (laid_over words ws) = subst (λ n. w.0 < n) (sym (length-laid_over words ws)) (subst (λ n. n < length words) same lt) in
    ap (λ n. slice_index (slice_set (laid_over words ws) w.0 w.1) n) same ∙ get_or-set_same (laid_over words ws) w.0 w.1 0 inside
here words w ws i false is lt rest = get_or-set_other (laid_over words ws) w.0 i w.1 0 (differ i w.0 is) ∙ rest

-- the word at an address: the one that is laid there, or the one beneath
pub laid_over-at : (words : List ℕ) (over : List (ℕ × ℕ)) (i : ℕ) → i < length words → slice_index (laid_over words over) i ≡ unwrap_or (lookup (is_at (nat_cmp i)) over) (slice_index words i)
laid_over-at words [] i lt = refl
laid_over-at words (w ∷ ws) i lt = here words w ws i (is_eq (nat_cmp i w.0)) refl lt (laid_over-at words ws i lt)
