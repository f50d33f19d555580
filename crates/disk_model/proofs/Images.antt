-- The bytes of an image, place by place.
use Rattle.std.proofs.Common.{◌≡◌, ℕ, ◌+◌, ◌-◌, ◌<◌, ◌≤◌, true, false, List, ◌++◌, length, get_or, take, drop, ap, ◌∙◌, ◌⊎◌, inl, inr, ⊎_elim, arith, length-append, length-take, length-drop}
use Rattle.std.specs.Prelude.{nat_le, nat_lt}
use Rattle.std.specs.Prelude.{Vec}
use Rattle.std.specs.Vec.{with_items}
use Rattle.std.proofs.lemmas.Bool.{and_parts, and_cases, leb-true, ltb-true, leb-false, ltb-false}
use Rattle.std.proofs.lemmas.List.{ext_get_or, get_or_append_left, get_or-append_right, get_or-take, get_or-drop, with_items_is, length-take-le}
use Rattle.disk_model.specs.Disk.{overwrite, part}
use Rattle.disk_model.specs.Memory.{is_in}

pub is_in-bounds : (range : ℕ × ℕ) (k : ℕ) → is_in range k ≡ true → (range.0 ≤ k) × (k < range.0 + range.1)
unfolding is_in
is_in-bounds range k h =
    let both = and_parts (nat_le range.0 k) (nat_lt k (range.0 + range.1)) h in
    (leb-true range.0 k both.0, ltb-true k (range.0 + range.1) both.1)

pub is_in-outside : (range : ℕ × ℕ) (k : ℕ) → is_in range k ≡ false → (k < range.0) ⊎ (range.0 + range.1 ≤ k)
unfolding is_in
is_in-outside range k h =
    ⊎_elim (λ below. inl (leb-false range.0 k below)) (λ above. inr (ltb-false k (range.0 + range.1) above)) (and_cases (nat_le range.0 k) (nat_lt k (range.0 + range.1)) h)

pub length-overwrite : (image : List ℕ) (at : ℕ) (bytes : List ℕ) → at + length bytes ≤ length image → length (overwrite image at bytes) ≡ length image
length-overwrite image at bytes le =
    omega (arith, length-append (take at image ++ bytes) (drop (at + length bytes) image), length-append (take at image) bytes, length-take at image, length-drop (at + length bytes) image)

pub length-part : (image : List ℕ) (at n : ℕ) → at + n ≤ length image → length (part image at n) ≡ n
length-part image at n le = omega (arith, length-take n (drop at image), length-drop at image)

pub get_or-part : (image : List ℕ) (at n k : ℕ) → k < n → get_or (part image at n) k 0 ≡ get_or image (at + k) 0
get_or-part image at n k lt = get_or-take n (drop at image) k 0 lt ∙ get_or-drop at image k 0

module _ (image : List ℕ) (at : ℕ) (bytes : List ℕ) (le : at + length bytes ≤ length image) where
  pub get_or-overwrite_below : (k : ℕ) → k < at → get_or (overwrite image at bytes) k 0 ≡ get_or image k 0
  get_or-overwrite_below k lt =
      let n : length (take at image) ≡ at = length-take-le at image (omega arith) in
      let m = length-append (take at image) bytes in
      get_or_append_left (take at image ++ bytes) (drop (at + length bytes) image) 0 k (omega arith)
      ∙ get_or_append_left (take at image) bytes 0 k (omega arith)
      ∙ get_or-take at image k 0 lt

  pub get_or-overwrite_inside : (k : ℕ) → at ≤ k → k < at + length bytes → get_or (overwrite image at bytes) k 0 ≡ get_or bytes (k - at) 0
  get_or-overwrite_inside k from lt =
      let n : length (take at image) ≡ at = length-take-le at image (omega arith) in
      let m = length-append (take at image) bytes in
      get_or_append_left (take at image ++ bytes) (drop (at + length bytes) image) 0 k (omega arith)
      ∙ get_or-append_right (take at image) bytes at k 0 n from

  pub get_or-overwrite_above : (k : ℕ) → at + length bytes ≤ k → get_or (overwrite image at bytes) k 0 ≡ get_or image k 0
  get_or-overwrite_above k from =
      let n : length (take at image) ≡ at = length-take-le at image (omega arith) in
      let m : length (take at image ++ bytes) ≡ at + length bytes = omega (arith, length-append (take at image) bytes) in
      let e : (at + length bytes) + (k - (at + length bytes)) ≡ k = omega arith in
      get_or-append_right (take at image ++ bytes) (drop (at + length bytes) image) (at + length bytes) k 0 m from
      ∙ get_or-drop (at + length bytes) image (k - (at + length bytes)) 0
      ∙ ap (λ i. get_or image i 0) e

  pub get_or-overwrite_outside : (k : ℕ) → is_in (at, length bytes) k ≡ false → get_or (overwrite image at bytes) k 0 ≡ get_or image k 0
  get_or-overwrite_outside k out = ⊎_elim (get_or-overwrite_below k) (get_or-overwrite_above k) (is_in-outside (at, length bytes) k out)

-- two images of one size with the same bytes in and outside of a range are the same
pub same_images : (a b : List ℕ) → length a ≡ length b → ((k : ℕ) → get_or a k 0 ≡ get_or b k 0) → a ≡ b
same_images a b size same = ext_get_or 0 a b size (λ i lt. same i)

-- what a `Vec` holds after its elements, as a slice, were replaced by as many others
pub items_replaced : {Z : Type 0} (v : Vec ℕ Z) (ws xs : List ℕ) → ws ≡ xs → length xs ≡ length v.items → (with_items v ws).items ≡ xs
items_replaced v ws xs same size =
    let fits : length ws ≡ v.len = omega (arith, ap length same, size, v.ok.0) in
    with_items_is v ws fits ∙ same
