-- The ranges of the calls of the record, one after another.
use Rattle.std.proofs.Common.{◌≡◌, ℕ, ◌+◌, ◌<◌, ◌≤◌, List, [], ◌∷◌, ◌++◌, length, get_or, take, map, sym, ap, subst, ◌∙◌, arith}
use Rattle.std.specs.List.{All}
use Rattle.std.specs.Prelude.{replicate}
use Rattle.std.proofs.lemmas.List.{get_or-map, map_more, length-map, take-replicate, drop-replicate}
use Rattle.disk_model.specs.declared.memory.Call.{Call}
use Rattle.disk_model.specs.Disk.{overwrite, part}
use Rattle.disk_model.specs.Memory.{blended}
use Rattle.disk_model.specs.Range.{range_of, Fits}
use Rattle.disk_model.proofs.Blended.{blended-push}

module _ (calls : List Call) (i : ℕ) (d : Call) (lt : i < length calls) where
  pub fits_at : (size : ℕ) (range : ℕ × ℕ) → range ≡ range_of (get_or calls i d) → All (Fits size) (map range_of calls) → range.0 + range.1 ≤ size
  fits_at size range is fit =
      let lt' : i < length (map range_of calls) = omega (arith, length-map calls range_of) in
      subst (Fits size) (get_or-map range_of calls i d (0, 0) lt ∙ sym is) (fit i (0, 0) lt')

  pub blended_more : (inside outside : List ℕ) (range : ℕ × ℕ) → range ≡ range_of (get_or calls i d) → length inside ≡ length outside → range.0 + range.1 ≤ length outside → overwrite (blended (map range_of (take i calls)) inside outside) range.0 (part inside range.0 range.1) ≡ blended (map range_of (take (i + 1) calls)) inside outside
  blended_more inside outside range is size le =
      sym (ap (λ rs. blended rs inside outside) (map_more range_of calls i d lt ∙ ap (λ r. map range_of (take i calls) ++ r ∷ []) (sym is)) ∙ blended-push (map range_of (take i calls)) inside outside range.0 range.1 size le)

pub part-replicate : (size at n x : ℕ) → at + n ≤ size → part (replicate size x) at n ≡ replicate n x
part-replicate size at n x le = ap (take n) (drop-replicate at size x) ∙ take-replicate n _ x (omega arith)
