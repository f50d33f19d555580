-- What has to be scanned before a field is read or written.
use Rattle.std.specs.Prelude.{◌≡◌, ℕ, true, Option, None, Some}
use Rattle.std.specs.FinSet.{contains}
use Rattle.heap_spaces.specs.Collection.{Collection, page_of}

-- the page that is checked before a field of the object at an address is read or written
abbrev pub barrier_page_of : ℕ → ℕ → ℕ
barrier_page_of object field = page_of object

-- a collection runs, and a gray object starts in the page
abbrev pub IsGrayIn : Option Collection → ℕ → Type 0
IsGrayIn None page = ⊥
IsGrayIn (Some k) page = (at : ℕ) × (contains k.gray at ≡ true) × (page_of at ≡ page)
