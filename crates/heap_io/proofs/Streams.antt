-- Streams as lists: what went through, and what is left.
use Rattle.std.proofs.Common.{◌≡◌, ℕ, ◌+◌, ◌≤◌, List, ◌++◌, length, take, drop, refl, sym, ap, ◌∙◌, append_assoc}
use Rattle.std.proofs.Math.Seq.{take-add}
use Rattle.std.proofs.lemmas.List.{drop_at, drop-drop, take_at, length-take-le, take-append-drop}

-- one more piece to be written
pub put_further : (done n : ℕ) (bytes piece old now next : List ℕ) → piece ≡ drop done bytes → now ≡ old ++ take done bytes → next ≡ now ++ take n piece → next ≡ old ++ take (done + n) bytes
put_further done n bytes piece old now next is here there =
    rw (there, here, is, take-add done n bytes, append_assoc)

-- what follows a prefix is what is left without it
pub left_is_drop : (front left whole : List ℕ) → whole ≡ front ++ left → (k : ℕ) × (left ≡ drop k whole)
left_is_drop front left whole e = (length front, sym (ap (λ s. drop (length front) s) e ∙ drop_at front left (length front) refl))

-- what is left of what is left
pub left_is_drop_further : (k : ℕ) (front left next whole : List ℕ) → whole ≡ front ++ left → next ≡ drop k left → (j : ℕ) × (next ≡ drop j whole)
left_is_drop_further k front left next whole e f =
    let g = left_is_drop front left whole e in
    (g.0 + k, f ∙ ap (λ s. drop k s) g.1 ∙ drop-drop k g.0 whole)

-- a prefix that was taken, and what follows it
pub taken_front : (at n : ℕ) (bytes left into next : List ℕ) → left ≡ drop at bytes → n ≤ length left → next ≡ take n left ++ drop n into → left ≡ take n next ++ drop (at + n) bytes
taken_front at n bytes left into next is le filled =
    let front : take n next ≡ take n left = ap (λ s. take n s) filled ∙ take_at (take n left) (drop n into) n (length-take-le n left le) in
    let behind : drop (at + n) bytes ≡ drop n left = sym (ap (λ s. drop n s) is ∙ drop-drop n at bytes) in
    rw (front, behind) (sym (take-append-drop n left))
