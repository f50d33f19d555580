-- A pass that was just made.
use Rattle.std.proofs.Common.{◌≡◌, ℕ, suc, List, [], ◌∷◌, length, ap, sym, ◌∙◌, arith, subst, Some}
use Rattle.turn_lock.specs.declared.view.View.{View}
use Rattle.turn_lock.specs.declared.view.Stage.TheVariants.{Resting}
use Rattle.turn_lock.specs.declared.lock.TurnLock.{TurnLock}
use Rattle.turn_lock.specs.declared.pass.Pass.{Pass}
use Rattle.turn_lock.specs.Passes.{first_of, IsNew}
use Rattle.turn_lock.specs.Steps.{dealt}

not_none : (k : ℕ) (l : List ℕ) → l ≡ k ∷ [] → l ≡ [] → ⊥
not_none k l is none = let n : suc 0 ≡ 0 = ap length (sym is ∙ none) in omega arith

pub new_pass : {T E : Type 0} (lock : TurnLock T E) (y : Pass T E) (k label : ℕ) (log : List E) (v : View T E) → y.seat.table_id ≡ lock.table.shared.table_id → y.seat.me ≡ (dealt v, []) → v.first ≡ Some (first_of lock)
    → v.stage ≡ Resting → (dealt v).numbers ≡ k ∷ [] → v.seen ≡ log → v.parts ≡ [] → v.mine ≡ [] → v.turns ≡ 0 → v.front ≡ 0 → y.label ≡ label → IsNew lock k label log y
new_pass lock y k label log v table me first rests number seen parts mine turns front label_is =
    let n = ap (λ m. m.0.numbers) me ∙ number in record {
      of_lock = record { lock_is = table; first_is = ap (λ m. m.0.first) me ∙ first; number = not_none k y.seat.me.0.numbers n };
      resting = record { stage = ap (λ m. m.0.stage) me ∙ rests; slots = ap (λ m. m.1) me };
      label_is = label_is;
      number_is = n;
      seen = ap (λ m. m.0.seen) me ∙ seen;
      parts = ap (λ m. m.0.parts) me ∙ parts;
      mine = ap (λ m. m.0.mine) me ∙ mine;
      turns = ap (λ m. m.0.turns) me ∙ turns;
      front = ap (λ m. m.0.front) me ∙ front;
    }

pub new_of : {T E : Type 0} (entries : T → List E) (a b : T) → a ≡ b → (lock : TurnLock T E) (k label : ℕ) (pass : Pass T E) → IsNew lock k label (entries a) pass → IsNew lock k label (entries b) pass
new_of entries a b same lock k label pass h = subst (λ v. IsNew lock k label (entries v) pass) same h
