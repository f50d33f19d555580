-- Names after a seal: births give them if they did before, and no transaction from a later number on can give one of them.
use Rattle.std.proofs.Common.{◌≡◌, ℕ, ◌<◌, ◌≤◌, inl, inr, List, [], ◌∷◌, Some, sym, ap, ◌∙◌, subst, arith}
use Rattle.std.specs.Prelude.{Contains}
use Rattle.std.specs.List.{AllByRecursion}
use Rattle.graph_model.specs.declared.id.Id.{Id}
use Rattle.log_machine.proofs.ListLaws.{AllByRecursion-append, AllByRecursion-map}
use Rattle.object_layout.specs.Layout.{birth_at, id_at, id_of}
use Rattle.graph_words.specs.Places.{address_of, IsOld, AreOld}
use Rattle.graph_words.specs.Stands.{AreNamedByBirth}
use Rattle.graph_words.specs.Promotion.{Move, promoted_places}
use Rattle.graph_words.proofs.Seal.Sealing.{Sealing, IsSealing, Appends, area, moves, later_words, later_places}
use Rattle.graph_words.proofs.Seal.Words.{later_changed, later_object}
use Rattle.graph_words.proofs.Seal.Stands.{move_of, promoted_within, all_of_map}

-- an object that stood in the space has its birth
pub later_old_birth : (c : Sealing) → Appends c → (id : Id) (at : ℕ) → address_of c.places id ≡ Some at → birth_at (later_words c) at ≡ birth_at c.words at
later_old_birth c is id at there = (later_changed c is id at there).birth_same

-- and one that is promoted the birth that it had in the area
pub later_new_birth : (c : Sealing) → Appends c → (m : Move) → Contains (moves c) m → birth_at (later_words c) m.1 ≡ birth_at (area c).words m.0
later_new_birth c is m has =
    let one = move_of c is.sealing m has in
    (later_object c is one.id m.1 one.to.own one.to.moves_there (promoted_within c is.sealing one.id m.1 one.to).above).birth_word ∙ ap (birth_at (area c).words) one.index

both_hold : {X : Type 0} (P Q R : X → Type 0) (xs : List X) → ((x : X) → P x → Q x → R x) → AllByRecursion P xs → AllByRecursion Q xs → AllByRecursion R xs
both_hold P Q R [] f p q = tt
both_hold P Q R (x ∷ xs) f p q = (f x p.0 q.0, both_hold P Q R xs f p.1 q.1)

-- where births give the names they do so after the seal
pub later_births : (c : Sealing) → Appends c → AreNamedByBirth c.places c.words → AreNamedByBirth (later_places c) (later_words c)
later_births c is named =
    let Named : Id × ℕ → Type 0 = λ p. id_at (later_words c) p.1 ≡ p.0 in
    AllByRecursion-append Named c.places (promoted_places (area c) (moves c))
    (both_hold (λ p. address_of c.places p.0 ≡ Some p.1) (λ p. id_at c.words p.1 ≡ p.0) Named c.places
    (λ p there name. ap id_of (later_old_birth c is p.0 p.1 there) ∙ name) is.sealing.stands.names named)
    (all_of_map Named (λ (m : Move). (id_at (area c).words m.0, m.1)) (moves c) (λ m has. ap id_of (later_new_birth c is m has)))

old_on : (next later : ℕ) (id : Id) → next ≤ later → IsOld next id → IsOld later id
old_on next later id more (inl is) = inl is
old_on next later id more (inr old) = let below = old.1 in inr (old.0, omega arith)

-- no transaction from a later number on gives one of the names
pub later_old_names : (c : Sealing) → IsSealing c → (next later : ℕ) → AreOld next c.places → c.t < later → next ≤ later → AreOld later (later_places c)
later_old_names c is next later old below more =
    let Old : Id × ℕ → Type 0 = λ p. IsOld later p.0 in
    AllByRecursion-append Old c.places (promoted_places (area c) (moves c))
    (AllByRecursion-map (λ p. IsOld next p.0) Old c.places (λ p is_old. old_on next later p.0 more is_old) old)
    (all_of_map Old (λ (m : Move). (id_at (area c).words m.0, m.1)) (moves c) (λ m has.
    let one = move_of c is m has in
    let maker = one.to.own.maker in
    let mine : IsOld later one.id = inr (one.to.own.first, omega arith) in
    subst (IsOld later) (sym one.name) mine))
