-- Objects in words, and the graph that is seen in them. Words are the heap's 64-bit words by address; an object stands where its header does.
use Rattle.std.specs.Prelude.{◌≡◌, ℕ, ◌+◌, nat_le, List, [], length, map, take, drop, slice_get, slice_index, Option, None, Some, is_some, option_and_then, if◌then◌else◌}
use Rattle.heap_words.specs.declared.Header.{Header}
use Rattle.heap_words.specs.declared.Header.TheVariants.{Length, Forward}
use Rattle.heap_words.specs.declared.Word.{Word}
use Rattle.heap_words.specs.declared.Word.TheVariants as word
use Rattle.heap_words.specs.Header.{header, born_in, born_as}
use Rattle.heap_words.specs.Word.{meaning}
use Rattle.graph_model.specs.declared.id.Id.{Id}
use Rattle.graph_model.specs.declared.val.Val.{Val}
use Rattle.graph_model.specs.declared.val.Val.TheVariants.{Null, Int, Ref}
use Rattle.graph_model.specs.Graph.{Graph, root}
use Rattle.std.specs.FinMap.{get}
use Rattle.std.specs.Option.{option_map}

-- the length, if the words of an object with that header are all there
abbrev pub whole_length : List ℕ → ℕ → Option Header → Option ℕ
whole_length words at (Some (Length n)) = if nat_le (at + 2 + n) (length words) then Some n else None
whole_length words at h = None

-- the number of fields of the object that stands at an address, if one does
abbrev pub object_at : List ℕ → ℕ → Option ℕ
object_at words at = whole_length words at (header (slice_index words at))

-- the words of the fields of an object of that length
abbrev pub words_of : List ℕ → ℕ → Option ℕ → List ℕ
words_of words at (Some n) = take n (drop (at + 2) words)
words_of words at None = []

-- the words of the fields of the object that stands at an address, in order, and none where there is no object
abbrev pub field_words : List ℕ → ℕ → List ℕ
field_words words at = words_of words at (object_at words at)

-- the same as an option: none where there is no object
abbrev pub fields_at : List ℕ → ℕ → Option (List ℕ)
fields_at words at = option_map (λ n. words_of words at (Some n)) (object_at words at)

-- the birth word of the object at an address, and the id that it gives
abbrev pub birth_at : List ℕ → ℕ → ℕ
birth_at words at = slice_index words (at + 1)

abbrev pub id_of : ℕ → Id
id_of birth = record { t = born_in birth; k = born_as birth }

abbrev pub id_at : List ℕ → ℕ → Id
id_at words at = id_of (birth_at words at)

-- where to look for the object: at the address, or where a forwarding word leads
abbrev pub led : ℕ → Option Header → ℕ
led at (Some (Forward b)) = b
led at h = at

-- the address, if an object stands there
abbrev pub standing : List ℕ → ℕ → Option ℕ
standing words at = if is_some (object_at words at) then Some at else None

-- where the object that an address names stands: there, or where it was moved
abbrev pub stand : List ℕ → ℕ → Option ℕ
stand words at = standing words (led at (header (slice_index words at)))

-- where the object that a field refers to stands
abbrev pub referred : List ℕ → Option Word → Option ℕ
referred words (Some (word.Stable b)) = stand words b
referred words meant = None

-- a reference to the object that stands at an address, by the object's name
abbrev pub as_ref : (ℕ → Id) → ℕ → Option Val
as_ref name at = Some (Ref (name at))

-- The value of a field, by the names of the objects; none if it names no object, and none for a volatile word or one that is no field's.
abbrev pub value : (ℕ → Id) → List ℕ → Option Word → Option Val
value name words (Some word.Null) = Some Null
value name words (Some (word.Int n)) = Some (Int n)
value name words meant = option_and_then (as_ref name) (referred words meant)

-- the values of the fields of the object at an address
abbrev pub values : (ℕ → Id) → List ℕ → ℕ → List (Option Val)
values name words at = map (λ w. value name words (meaning w)) (field_words words at)

-- the object that an address names is met from it, and so is each that a field of one that is met refers to
pub data IsMet (words : List ℕ) (start : ℕ) : ℕ → Type 0 where
  at_start : {at : ℕ} → stand words start ≡ Some at → IsMet words start at
  along : {at : ℕ} (i w target : ℕ) → IsMet words start at → slice_get (field_words words at) i ≡ Some w → referred words (meaning w) ≡ Some target → IsMet words start target

-- the object at an address is in the graph under its name, with its fields
pub record IsKnown (name : ℕ → Id) (words : List ℕ) (g : Graph) (at : ℕ) : Type 0 where
  pub fields : List Val
  pub is : get g (name at) ≡ Some fields
  pub values : values name words at ≡ map Some fields

-- A graph is seen from an address, where objects have these names: all that is met is in it, the first object is the root, and no two
-- objects that are met have one name. What is not met is left open.
pub record IsSeenAs (name : ℕ → Id) (words : List ℕ) (start : ℕ) (g : Graph) : Type 0 where
  pub first : ℕ
  pub stands : stand words start ≡ Some first
  pub named : name first ≡ root
  pub known : (at : ℕ) → IsMet words start at → IsKnown name words g at
  pub apart : (a b : ℕ) → IsMet words start a → IsMet words start b → name a ≡ name b → a ≡ b

-- a graph is seen from an address: an object's birth gives its id
abbrev pub IsSeen : List ℕ → ℕ → Graph → Type 0
IsSeen words = IsSeenAs (id_at words) words
