-- Laws of histories and of the turns that stand in them, for callers that combine the turns of several passes.
use Rattle.std.proofs.Common.{◌≡◌, ℕ, zero, suc, ◌+◌, ◌<◌, ◌≤◌, List, [], ◌∷◌, ◌++◌, length, drop, sym, refl, ap, ◌∙◌, subst, arith, append_assoc, append-nil, length-append, Some, slice_get}
use Rattle.std.proofs.lemmas.Option.{none-some}
use Rattle.turn_lock.specs.Turning.{times, IsBeginning, places, StandIn, placed, added}
use Rattle.turn_lock.specs.Merging.{Rise}

pub times_append : (k : ℕ) (xs ys : List ℕ) → times k (xs ++ ys) ≡ times k xs + times k ys
times_append k [] ys = omega arith
times_append k (x ∷ xs) ys = omega (arith, times_append k xs ys)

module _ {E : Type 0} where
  pub begins_itself : (xs : List E) → IsBeginning xs xs
  begins_itself xs = ([], sym (append-nil xs))

  pub begins_more : (xs ys zs : List E) → IsBeginning xs ys → IsBeginning xs (ys ++ zs)
  begins_more xs ys zs b = (b.0 ++ zs, ap (λ l. l ++ zs) b.1 ∙ append_assoc xs b.0 zs)

  pub begins_length : (xs ys : List E) → IsBeginning xs ys → length xs ≤ length ys
  begins_length xs ys b = omega (arith, ap length b.1, length-append xs b.0)

  get_longer : (xs rest : List E) (k : ℕ) (e : E) → slice_get xs k ≡ Some e → slice_get (xs ++ rest) k ≡ Some e
  get_longer [] rest k e at = absurd (none-some e at)
  get_longer (x ∷ xs) rest zero e at = at
  get_longer (x ∷ xs) rest (suc k) e at = get_longer xs rest k e at

  pub stand_more : (xs rest : List E) (ps : List (ℕ × E)) → StandIn xs ps → StandIn (xs ++ rest) ps
  stand_more xs rest [] h = tt
  stand_more xs rest (p ∷ ps) h = (get_longer xs rest p.0 p.1 h.0, stand_more xs rest ps h.1)

  pub stand_append : (log : List E) (ps qs : List (ℕ × E)) → StandIn log ps → StandIn log qs → StandIn log (ps ++ qs)
  stand_append log [] qs a b = b
  stand_append log (p ∷ ps) qs a b = (a.0, stand_append log ps qs a.1 b)

  pub places_append : (k : ℕ) (ps qs : List (ℕ × E)) → times k (places (ps ++ qs)) ≡ times k (places ps) + times k (places qs)
  places_append k [] qs = omega arith
  places_append k (p ∷ ps) qs = omega (arith, places_append k ps qs)

  drop_all : (xs ys : List E) → drop (length xs) (xs ++ ys) ≡ ys
  drop_all [] ys = refl
  drop_all (x ∷ xs) ys = drop_all xs ys

  pub added_one : (log : List E) (e : E) → added log (log ++ e ∷ []) ≡ (length log, e) ∷ []
  added_one log e = ap (placed (length log)) (drop_all log (e ∷ []))

  pub added_none : (log : List E) → added log log ≡ []
  added_none log = ap (λ l. placed (length log) (drop (length log) l)) (sym (append-nil log)) ∙ ap (placed (length log)) (drop_all log [])

  within : (log : List E) (k : ℕ) (e : E) → slice_get log k ≡ Some e → k < length log
  within [] k e at = absurd (none-some e at)
  within (x ∷ xs) zero e at = omega arith
  within (x ∷ xs) (suc k) e at = omega (arith, within xs k e at)

  -- one more turn, after all that stand in the history
  pub rise_more : (low : ℕ) (log : List E) (ps : List (ℕ × E)) (e : E) → low ≤ length log → Rise low ps → StandIn log ps → Rise low (ps ++ (length log, e) ∷ [])
  rise_more low log [] e le r h = (le, tt)
  rise_more low log (p ∷ ps) e le r h = (r.0, rise_more (p.0 + 1) log ps e (omega (arith, within log p.0 p.1 h.0)) r.1 h.1)

  pub rise_added : (low : ℕ) (log log' : List E) (ps : List (ℕ × E)) (e : E) → low ≤ length log → Rise low ps → StandIn log ps → log' ≡ log ++ e ∷ [] → Rise low (ps ++ added log log')
  rise_added low log log' ps e le r h is = subst (λ l. Rise low (ps ++ l)) (sym (ap (added log) is ∙ added_one log e)) (rise_more low log ps e le r h)
