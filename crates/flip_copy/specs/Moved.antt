-- What words show of objects that were copied.
use Rattle.std.specs.Prelude.{◌≡◌, ℕ, ◌+◌, ◌<◌, List, length, slice_index}
use Rattle.heap_words.specs.Header.{header_bits}
use Rattle.heap_words.specs.declared.Header.TheVariants.{Forward}
use Rattle.log_records.specs.declared.copies.ObjectCopy.{ObjectCopy}
use Rattle.object_layout.specs.Layout.{object_at}

-- An object was copied: where it stood a forwarding word leads to the copy, and the copy is an object of the same length, with its words.
pub record IsCopiedObject (before after : List ℕ) (copy : ObjectCopy) : Type 0 where
  pub forwarded : slice_index after copy.from ≡ header_bits (Forward copy.to)
  pub object : object_at after copy.to ≡ object_at before copy.from
  pub same_words : (i : ℕ) → i < length copy.words → slice_index after (copy.to + i) ≡ slice_index before (copy.from + i)
