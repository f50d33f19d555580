-- An image made of two, by ranges.
use Rattle.std.proofs.Common.{◌≡◌, ℕ, ◌+◌, ◌-◌, ◌<◌, ◌≤◌, Bool, true, false, cond, ◌||◌, List, [], ◌∷◌, ◌++◌, length, get_or, refl, sym, ap, ◌∙◌, ⊎_elim, arith}
use Rattle.std.proofs.lemmas.Bool.{cases_lt, cases_Bool, or_right}
use Rattle.std.proofs.lemmas.List.{get_or_past}
use Rattle.std.proofs.lemmas.List.FromFn.{length-map-range_with_len, get_or-map-range_with_len}
use Rattle.disk_model.specs.Disk.{overwrite, part}
use Rattle.disk_model.specs.Memory.{is_in, is_within, blended}
use Rattle.disk_model.proofs.Images.{is_in-bounds, length-overwrite, length-part, get_or-part, get_or-overwrite_inside, get_or-overwrite_outside, same_images}

or_false : (b : Bool) → (b || false) ≡ b
or_false b = elim b as (λ v. (v || false) ≡ v) [ true ↦ refl | false ↦ refl ]

pub is_within-push : (ranges : List (ℕ × ℕ)) (range : ℕ × ℕ) (k : ℕ) → is_within (ranges ++ range ∷ []) k ≡ (is_within ranges k || is_in range k)
is_within-push [] range k = elim (is_in range k) as (λ b. (b || false) ≡ (false || b)) [ true ↦ refl | false ↦ refl ]
is_within-push (r ∷ ranges) range k =
    let e = is_within-push ranges range k in
    elim (is_in r k) as (λ b. (b || is_within (ranges ++ range ∷ []) k) ≡ ((b || is_within ranges k) || is_in range k)) [ true ↦ refl | false ↦ e ]

pub length-blended : (ranges : List (ℕ × ℕ)) (inside outside : List ℕ) → length (blended ranges inside outside) ≡ length outside
unfolding blended
length-blended ranges inside outside = length-map-range_with_len _ 0 (length outside)

module _ (ranges : List (ℕ × ℕ)) (inside outside : List ℕ) where
  pub get_or-blended : (k : ℕ) → k < length outside → get_or (blended ranges inside outside) k 0 ≡ cond (is_within ranges k) (get_or inside k 0) (get_or outside k 0)
  unfolding blended
  get_or-blended k lt = get_or-map-range_with_len (λ i. cond (is_within ranges i) (get_or inside i 0) (get_or outside i 0)) 0 (length outside) k k 0 lt (omega arith)

  pub get_or-blended_outside : (k : ℕ) → is_within ranges k ≡ false → get_or (blended ranges inside outside) k 0 ≡ get_or outside k 0
  get_or-blended_outside k out =
      ⊎_elim
      (λ lt. get_or-blended k lt ∙ ap (λ b. cond b (get_or inside k 0) (get_or outside k 0)) out)
      (λ past. let n = length-blended ranges inside outside in get_or_past (blended ranges inside outside) k 0 (omega arith) ∙ sym (get_or_past outside k 0 past))
      (cases_lt k (length outside))

  pub get_or-blended_inside : (k : ℕ) → length inside ≡ length outside → is_within ranges k ≡ true → get_or (blended ranges inside outside) k 0 ≡ get_or inside k 0
  get_or-blended_inside k size in_ =
      ⊎_elim
      (λ lt. get_or-blended k lt ∙ ap (λ b. cond b (get_or inside k 0) (get_or outside k 0)) in_)
      (λ past. let n = length-blended ranges inside outside in get_or_past (blended ranges inside outside) k 0 (omega arith) ∙ sym (get_or_past inside k 0 (omega arith)))
      (cases_lt k (length outside))

pub blended-nil : (inside outside : List ℕ) → blended [] inside outside ≡ outside
blended-nil inside outside = same_images _ _ (length-blended [] inside outside) (λ k. get_or-blended_outside [] inside outside k refl)

-- one more range
pub blended-push : (ranges : List (ℕ × ℕ)) (inside outside : List ℕ) (at n : ℕ) → length inside ≡ length outside → at + n ≤ length outside → blended (ranges ++ (at, n) ∷ []) inside outside ≡ overwrite (blended ranges inside outside) at (part inside at n)
blended-push ranges inside outside at n size le =
    let old = length-blended ranges inside outside in
    let new = length-blended (ranges ++ (at, n) ∷ []) inside outside in
    let m = length-part inside at n (omega arith) in
    let fits : at + length (part inside at n) ≤ length (blended ranges inside outside) = omega arith in
    let total = length-overwrite (blended ranges inside outside) at (part inside at n) fits in
    same_images _ _ (omega arith) (λ k.
    ⊎_elim
    (λ (in_ : is_in (at, n) k ≡ true).
    let bounds = is_in-bounds (at, n) k in_ in
    let e : at + (k - at) ≡ k = omega arith in
    let within : is_within (ranges ++ (at, n) ∷ []) k ≡ true = is_within-push ranges (at, n) k ∙ or_right _ _ in_ in
    get_or-blended_inside (ranges ++ (at, n) ∷ []) inside outside k size within
    ∙ sym (get_or-overwrite_inside (blended ranges inside outside) at (part inside at n) fits k bounds.0 (omega arith)
    ∙ get_or-part inside at n (k - at) (omega arith)
    ∙ ap (λ i. get_or inside i 0) e))
    (λ (out : is_in (at, n) k ≡ false).
    let out' : is_in (at, length (part inside at n)) k ≡ false = rw m out in
    let beside : is_within (ranges ++ (at, n) ∷ []) k ≡ is_within ranges k = is_within-push ranges (at, n) k ∙ ap (λ b. is_within ranges k || b) out ∙ or_false (is_within ranges k) in
    ⊎_elim
    (λ (in_ : is_within ranges k ≡ true).
    get_or-blended_inside (ranges ++ (at, n) ∷ []) inside outside k size (beside ∙ in_)
    ∙ sym (get_or-overwrite_outside (blended ranges inside outside) at (part inside at n) fits k out' ∙ get_or-blended_inside ranges inside outside k size in_))
    (λ (none : is_within ranges k ≡ false).
    get_or-blended_outside (ranges ++ (at, n) ∷ []) inside outside k (beside ∙ none)
    ∙ sym (get_or-overwrite_outside (blended ranges inside outside) at (part inside at n) fits k out' ∙ get_or-blended_outside ranges inside outside k none))
    (cases_Bool (is_within ranges k)))
    (cases_Bool (is_in (at, n) k)))
