-- The moments of the disk in memory.
use Rattle.std.proofs.Common.{◌≡◌, ℕ, ◌<◌, ◌≤◌, [], ◌∷◌, ◌++◌, sym, ap, subst, inl, inr, ⊎_elim, arith}
use Rattle.std.proofs.lemmas.Bool.{cases_lt}
use Rattle.std.proofs.lemmas.List.{take_all, take-append-le, length_push}
use Rattle.disk_model.specs.Disk.{Elapses}
use Rattle.disk_model.specs.Memory.{Memory, Change, Contents, MayLeave, MightHaveLeft, changes_of, changed, contents_of, at_moment, now_of}

module _ (disk : Memory) (change : Change) where
  at_earlier : (k : ℕ) → k ≤ changes_of disk → at_moment (changed disk change) k ≡ at_moment disk k
  at_earlier k le = ap (contents_of disk.pick disk.first) (take-append-le k disk.changes (change ∷ []) le)

  at_end : (k : ℕ) → k ≤ changes_of (changed disk change) → changes_of disk < k → at_moment (changed disk change) k ≡ now_of (changed disk change)
  at_end k le later = ap (contents_of disk.pick disk.first) (take_all k (disk.changes ++ change ∷ []) (omega (arith, length_push disk.changes change)))

  -- one more change
  pub elapses_change : Elapses (changes_of disk) (changes_of (changed disk change)) (MightHaveLeft disk) (MightHaveLeft (changed disk change)) (MayLeave (now_of (changed disk change)))
  elapses_change =
      let more = length_push disk.changes change in
      record {
        later = omega arith;
        nothing_else = λ t image le (k, from, to, leaves).
            ⊎_elim
            (λ (later : changes_of disk < k). inr (subst (λ (at : Contents). MayLeave at image) (at_end k to later) leaves))
            (λ (earlier : k ≤ changes_of disk). inl (k, from, earlier, subst (λ (at : Contents). MayLeave at image) (at_earlier k earlier) leaves))
            (cases_lt (changes_of disk) k);
        keeps = λ t image le (k, from, to, leaves).
            let reached : k ≤ changes_of (changed disk change) = omega arith in
            (k, from, reached, subst (λ (at : Contents). MayLeave at image) (sym (at_earlier k to)) leaves);
      }

-- no change
pub elapses_still : (disk : Memory) → Elapses (changes_of disk) (changes_of disk) (MightHaveLeft disk) (MightHaveLeft disk) (MayLeave (now_of disk))
elapses_still disk = record { later = omega arith; nothing_else = λ t image le might. inl might; keeps = λ t image le might. might }
