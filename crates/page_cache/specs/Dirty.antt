-- The list of a cache's dirty pages.
use Rattle.std.specs.Prelude.{◌≡◌, ℕ, ◌<◌, Bool, true, length, slice_index, vec_len}
use Rattle.std.specs.List.{filter, range_with_len}
use Rattle.page_cache.specs.declared.dirty.DirtyPages.{DirtyPages}

-- how many pages there are, dirty or not
abbrev pub page_count : DirtyPages → ℕ
page_count dirty = vec_len dirty.places

-- how many are listed
abbrev pub dirty_count : DirtyPages → ℕ
dirty_count dirty = dirty.count

-- the page at a place of the list
abbrev pub page_at : DirtyPages → ℕ → ℕ
page_at dirty i = slice_index dirty.listed.items i

-- the place at which page p stands if it is listed
abbrev pub place_of : DirtyPages → ℕ → ℕ
place_of dirty p = slice_index dirty.places.items p

-- The list has each page that passes a test once, and no other one.
pub record Lists (test : ℕ → Bool) (dirty : DirtyPages) : Type 0 where
  pub passes : (i : ℕ) → i < dirty_count dirty → test (page_at dirty i) ≡ true
  pub place : (i : ℕ) → i < dirty_count dirty → place_of dirty (page_at dirty i) ≡ i
  pub found : (p : ℕ) → p < page_count dirty → test p ≡ true → (place_of dirty p < dirty_count dirty) × (page_at dirty (place_of dirty p) ≡ p)
  pub count : dirty_count dirty ≡ length (filter test (range_with_len 0 (page_count dirty)))
