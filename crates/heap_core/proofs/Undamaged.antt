-- Words in which a graph is seen are printed without damage.
use Rattle.std.proofs.Common.{◌≡◌, inl, inr, ℕ, zero, suc, List, [], ◌∷◌, map, Option, Some, None, refl, sym, ◌∙◌, subst, arith}
use Rattle.std.specs.Prelude.{option_and_then, IsSome}
use Rattle.counts.specs.Count.{Rose}
use Rattle.disk_model.specs.declared.disk.DiskError.{DiskError}
use Rattle.disk_model.specs.declared.disk.DiskError.TheVariants.{Failed, Stopped}
use Rattle.graph_model.specs.declared.id.Id.{Id}
use Rattle.graph_model.specs.declared.val.Val.{Val}
use Rattle.graph_model.specs.Graph.{Graph}
use Rattle.heap_words.specs.declared.Word.{Word}
use Rattle.heap_words.specs.declared.Word.TheVariants as word
use Rattle.heap_words.specs.Word.{meaning}
use Rattle.object_layout.specs.Layout.{field_words, stand, as_ref, value, IsSeenAs}
use Rattle.graph_print.specs.Order.{IsWholeField, AreWhole, IsDamage, no_root, no_object}
use Rattle.graph_print.proofs.OrderLaws.{met_get, order_met}

some_of : {A B : Type 0} (f : A → Option B) (o : Option A) (v : B) → option_and_then f o ≡ Some v → IsSome o
some_of f None v e = cc e
some_of f (Some x) v e = refl

-- a field that has a value is whole
value_whole : (name : ℕ → Id) (words : List ℕ) (meant : Option Word) (v : Val) → value name words meant ≡ Some v → IsWholeField words meant
value_whole name words None v e = cc e
value_whole name words (Some word.Null) v e = tt
value_whole name words (Some (word.Int n)) v e = tt
value_whole name words (Some (word.Stable b)) v e = some_of (as_ref name) (stand words b) v e
value_whole name words (Some (word.Volatile i)) v e = cc e

are_whole : (name : ℕ → Id) (words ws : List ℕ) (fields : List Val) → map (λ w. value name words (meaning w)) ws ≡ map Some fields → AreWhole words ws
are_whole name words [] fields e i w here = cc here
are_whole name words (x ∷ xs) [] e i w here = cc e
are_whole name words (x ∷ xs) (f ∷ fs) e zero w here =
    let first : value name words (meaning x) ≡ Some f = cc e in
    let same : x ≡ w = cc here in
    subst (λ (k : ℕ). IsWholeField words (meaning k)) same (value_whole name words (meaning x) f first)
are_whole name words (x ∷ xs) (f ∷ fs) e (suc i) w here =
    let rest : map (λ w. value name words (meaning w)) xs ≡ map Some fs = cc e in
    are_whole name words xs fs rest i w here

pub undamaged : (name : ℕ → Id) (words : List ℕ) (start : ℕ) (g : Graph) (at : ℕ) → IsSeenAs name words start g → IsDamage words start at → ⊥
undamaged name words start g at seen (no_root none) = let never : None ≡ Some seen.first = sym none ∙ seen.stands in cc never
undamaged name words start g at seen (no_object {count = count} {places = places} a order there broken) =
    let known = seen.known a (met_get words start places count a (order_met words start count places order) there) in
    broken (are_whole name words (field_words words a) known.fields known.values)

never_rose : Rose 0 0 → ⊥
never_rose (inl less) = absurd (omega (arith, less))
never_rose (inr full) = absurd (omega (arith, full))

-- words in memory fail no read
pub no_failure : (failure : Option DiskError) → (failure ≡ Some Failed → Rose 0 0) → (failure ≡ Some Stopped → Rose 0 0) → (d : DiskError) → failure ≡ Some d → ⊥
no_failure failure failed stopped Failed is = never_rose (failed is)
no_failure failure failed stopped Stopped is = never_rose (stopped is)
