-- Where the copies of a scan go, and which objects stand there.
use Rattle.std.proofs.Common.{◌≡◌, ◌⊎◌, inl, inr, ℕ, ◌<◌, Bool, true, false, List, [], ◌∷◌, ◌++◌, map, filter, Option, None, Some, refl, sym, ◌∙◌, subst}
use Rattle.std.specs.Prelude.{◌==◌, Contains, if◌then◌else◌}
use Rattle.std.specs.List.{AllByRecursion}
use Rattle.graph_model.specs.declared.id.Id.{Id}
use Rattle.heap_words.specs.declared.Word.TheVariants as word
use Rattle.heap_words.specs.Word.{bits}
use Rattle.log_records.specs.declared.Record.{Record}
use Rattle.log_records.specs.declared.Record.TheVariants.{Copy}
use Rattle.graph_words.specs.Places.{Places, address_of}
use Rattle.graph_words.proofs.Places.Addresses.{address_of-cases}
use Rattle.graph_words.proofs.Seal.Places.{address_of-append_left, address_of-append_right}
use Rattle.collection_words.specs.Placing.{put_at}
use Rattle.limit_laws.proofs.Copies.Refers.{HasReference}

-- Where copies go.

-- one of these copies goes to an address
abbrev pub GoesTo : ℕ → List Record → Type 0
GoesTo at [] = ⊥
GoesTo at (Copy from to words ∷ rs) = (to ≡ at) ⊎ GoesTo at rs
GoesTo at (r ∷ rs) = GoesTo at rs

pub referred_to : (writes : List (ℕ × ℕ)) (copies : List Record) (at : ℕ) → AllByRecursion (HasReference writes) copies → GoesTo at copies → (x : ℕ) × Contains writes (x, bits (word.Stable at)) × (x < at)
referred_to writes [] at all goes = absurd goes
referred_to writes (Copy from to words ∷ rs) at all (inl here) = subst (λ (n : ℕ). (x : ℕ) × Contains writes (x, bits (word.Stable n)) × (x < n)) here all.0
referred_to writes (Copy from to words ∷ rs) at all (inr later) = referred_to writes rs at all.1 later
referred_to writes (r ∷ rs) at all goes = referred_to writes rs at all.1 goes

pub put_to : (ps : Places) (from to : ℕ) (id : Id) (at : ℕ) → address_of (put_at ps from to) id ≡ Some at → to ≡ at
put_to [] from to id at is = absurd (cc is)
put_to (p ∷ ps) from to id at is = by (p.1 == from) refl is (put_to ps from to id at)
  where
    by : (b : Bool) → (p.1 == from) ≡ b → address_of (map (λ q. (q.0, to)) (if b then p ∷ filter (λ q. q.1 == from) ps else filter (λ q. q.1 == from) ps)) id ≡ Some at
        → (address_of (put_at ps from to) id ≡ Some at → to ≡ at) → to ≡ at
    by true here is later = elim (address_of-cases (p.0, to) (put_at ps from to) id at is) [ inl first ↦ first.1 | inr rest ↦ later rest ]
    by false here is later = later is

pub address_cases : (ps qs : Places) (id : Id) (at : ℕ) → address_of (ps ++ qs) id ≡ Some at → (address_of ps id ≡ Some at) ⊎ (address_of qs id ≡ Some at)
address_cases ps qs id at is = by (address_of ps id) refl
  where
    by : (o : Option ℕ) → address_of ps id ≡ o → (address_of ps id ≡ Some at) ⊎ (address_of qs id ≡ Some at)
    by None none = inr (sym (address_of-append_right ps qs id none) ∙ is)
    by (Some x) there = inl (there ∙ sym (address_of-append_left ps qs id x there) ∙ is)

-- each of these objects is kept
abbrev pub AreKept : (Id → Type 0) → Places → Type 0
AreKept K places = (id : Id) (at : ℕ) → address_of places id ≡ Some at → K id
