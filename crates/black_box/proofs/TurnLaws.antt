-- One more turn.
use Rattle.std.proofs.Common.{ℕ, List, [], ◌∷◌, ◌++◌, refl, subst}
use Rattle.graph_model.specs.Graph.{Graph}
use Rattle.black_box.specs.declared.turns.Turn.{Turn}
use Rattle.black_box.specs.Tales.{TellsTurn, TellTurns}

module _ {S K : Type 0} (left : S → List ℕ) (written : K → List ℕ) where
  -- One more turn follows turns that reported what they did.
  pub tell_more : (begins mid kept : Graph) (turns turns' : List (Turn S K)) (turn turn' : Turn S K) → TellTurns left written begins turns turns' mid → TellsTurn left written mid turn turn' kept
      → TellTurns left written begins (turns ++ turn ∷ []) (turns' ++ turn' ∷ []) kept
  tell_more begins mid kept [] [] turn turn' tell one = (kept, subst (λ (x : Graph). TellsTurn left written x turn turn' kept) tell one, refl)
  tell_more begins mid kept (t ∷ ts) (u ∷ us) turn turn' tell one = (tell.0, tell.1, tell_more tell.0 mid kept ts us turn turn' tell.2 one)
  tell_more begins mid kept [] (u ∷ us) turn turn' tell one = absurd tell
  tell_more begins mid kept (t ∷ ts) [] turn turn' tell one = absurd tell
