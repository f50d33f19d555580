-- The handles of a transaction hold objects at hand: those that stand in the current space, and those that it has made.
use Rattle.std.proofs.Common.{◌≡◌, inl, inr, ℕ, zero, suc, true, ◌≤◌, List, [], ◌∷◌, replicate, Option, Some, None, is_some, subst, arith}
use Rattle.std.specs.Prelude.{slice_index_or}
use Rattle.std.specs.List.{AllByRecursion}
use Rattle.graph_model.specs.declared.id.Id.{Id}
use Rattle.graph_model.specs.declared.val.Val.{Val}
use Rattle.graph_model.specs.declared.val.Val.TheVariants.{Null, Int, Ref}
use Rattle.graph_model.specs.declared.event.Event.{Event}
use Rattle.graph_model.specs.declared.event.Event.TheVariants.{Begin, Root, New, Put, Clear, Link, Drop, Get, Same, Len, Seal, Abort, Force, Flip, Scan, Flush}
use Rattle.graph_model.specs.Graph.{Graph, root, fields}
use Rattle.graph_model.specs.Transaction.{View, Registers, held, fields_of, with_referred, call}
use Rattle.graph_words.specs.Places.{Places, IsAtHand, IsVisible, address_of}
use Rattle.graph_words.proofs.Places.Addresses.{some_address}
use Rattle.graph_words.proofs.Area.Made.{own_visible}
use Rattle.graph_words.specs.Area.{HasMade}
use Rattle.graph_words.specs.Stands.{Stands}
use Rattle.graph_words.proofs.Stands.Visible.{more_at_hand}
use Rattle.heap_model.specs.CoreTold.{HoldsAtHand}
use Rattle.heap_model.proofs.ListLaws.{AllByRecursion-set, AllByRecursion-map}

-- all handles hold objects at hand
abbrev pub HoldAllAtHand : Places → ℕ → ℕ → Registers → Type 0
HoldAllAtHand places t made registers = AllByRecursion (HoldsAtHand places t made) registers

-- empty handles do
pub none_at_hand : (places : Places) (t made n : ℕ) → HoldAllAtHand places t made (replicate n None)
none_at_hand places t made zero = tt
none_at_hand places t made (suc n) = (tt, none_at_hand places t made n)

-- what a handle holds is at hand
pub held_at_hand : (places : Places) (t made : ℕ) (registers : Registers) (h : ℕ) (id : Id) → HoldAllAtHand places t made registers → held registers h ≡ Some id → IsAtHand places t made id
held_at_hand places t made [] h id all is = cc
held_at_hand places t made (r ∷ rs) zero id all is = subst (HoldsAtHand places t made) is all.0
held_at_hand places t made (r ∷ rs) (suc h) id all is = held_at_hand places t made rs h id all.1 is

more_held : (places : Places) (t made more : ℕ) → made ≤ more → (o : Option Id) → HoldsAtHand places t made o → HoldsAtHand places t more o
more_held places t made more le None holds = tt
more_held places t made more le (Some id) holds = more_at_hand places t made more le id holds

-- where more was made it still is
pub more_handles : (places : Places) (t made more : ℕ) (registers : Registers) → made ≤ more → HoldAllAtHand places t made registers → HoldAllAtHand places t more registers
more_handles places t made more registers le all = AllByRecursion-map (HoldsAtHand places t made) (HoldsAtHand places t more) registers (more_held places t made more le) all

-- the values of an object at hand can be seen
pub at_hand_visible : {t made : ℕ} {places : Places} {g : Graph} {words : List ℕ} {base used : ℕ} → Stands t made places g words base used → HasMade places g t made
    → (id : Id) → IsAtHand places t made id → AllByRecursion (IsVisible places t made) (fields g id)
at_hand_visible {places = places} stands has id (inl there) = let place = some_address (address_of places id) there in stands.visible id place.0 place.1
at_hand_visible stands has id (inr own) = own_visible has own

referred_at_hand : (places : Places) (t made : ℕ) (registers : Registers) (h : ℕ) (v : Val) → IsVisible places t made v → HoldAllAtHand places t made registers
    → HoldAllAtHand places t made (with_referred registers h v)
referred_at_hand places t made registers h Null seen all = all
referred_at_hand places t made registers h (Int n) seen all = all
referred_at_hand places t made registers h (Ref id) seen all = AllByRecursion-set (HoldsAtHand places t made) registers h (Some id) all seen

-- what a call reads is seen: the value of the field that a get reads
abbrev pub ReadsVisible : Places → ℕ → ℕ → View → Event → Type 0
ReadsVisible places t made v (Get s h i h2) = IsVisible places t made (slice_index_or (fields_of v.graph (held v.registers h)) i Null)
ReadsVisible places t made v event = Unit {0}

-- a call that makes nothing leaves objects at hand in the handles
pub call_at_hand : (places : Places) (t made : ℕ) (v : View) → is_some (address_of places root) ≡ true → HoldAllAtHand places t made v.registers → (event : Event) → ReadsVisible places t made v event
    → (call v t event).view.made ≡ v.made → HoldAllAtHand places t made (call v t event).view.registers
call_at_hand places t made v rooted all (Begin s) reads same = all
call_at_hand places t made v rooted all (Root s h) reads same = AllByRecursion-set (HoldsAtHand places t made) v.registers h (Some root) all (inl rooted)
call_at_hand places t made v rooted all (New s h len) reads same = absurd (omega arith)
call_at_hand places t made v rooted all (Put s h i n) reads same = all
call_at_hand places t made v rooted all (Clear s h i) reads same = all
call_at_hand places t made v rooted all (Link s h i h2) reads same = all
call_at_hand places t made v rooted all (Drop s h) reads same = AllByRecursion-set (HoldsAtHand places t made) v.registers h None all tt
call_at_hand places t made v rooted all (Get s h i h2) reads same = referred_at_hand places t made v.registers h2 (slice_index_or (fields_of v.graph (held v.registers h)) i Null) reads all
call_at_hand places t made v rooted all (Same s h h2) reads same = all
call_at_hand places t made v rooted all (Len s h) reads same = all
call_at_hand places t made v rooted all (Seal s) reads same = all
call_at_hand places t made v rooted all (Abort s) reads same = all
call_at_hand places t made v rooted all Force reads same = all
call_at_hand places t made v rooted all Flip reads same = all
call_at_hand places t made v rooted all Scan reads same = all
call_at_hand places t made v rooted all (Flush p) reads same = all
