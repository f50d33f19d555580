-- What the steps of a collection do to what the records say of it.
use Rattle.std.specs.Prelude.{◌≡◌, ℕ, ◌+◌, ◌≤◌, true, false, Contains, List, map, sum_by}
use Rattle.std.specs.List.{flat_map}
use Rattle.std.specs.FinSet.{empty, contains}
use Rattle.heap_spaces.specs.declared.collection.CopiedObject.{CopiedObject}
use Rattle.heap_spaces.specs.Collection.{Collection, gray_from, page_of}
use Rattle.heap_spaces.specs.Addresses.{with_all, without_page}

-- a collection whose from-space has objects of that many words, of which none is copied
abbrev pub begun : ℕ → Collection
begun used = record { used = used; copied = 0; moved = empty; gray = empty }

-- the collection when these objects have been copied, one after another
abbrev pub with_copies : Collection → List CopiedObject → Collection
with_copies k copies = record k {
  copied = k.copied + sum_by (λ (c : CopiedObject). c.words) copies;
  moved = with_all k.moved (map (λ (c : CopiedObject). c.from) copies);
  gray = with_all k.gray (flat_map (λ (c : CopiedObject). gray_from c.to c.header) copies);
}

-- None of these copies is of an object that was copied before, and none stands at an address that is gray.
pub record AreNew (k : Collection) (copies : List CopiedObject) : Type 0 where
  pub from : (c : CopiedObject) → Contains copies c → contains k.moved c.from ≡ false
  pub to : (c : CopiedObject) → Contains copies c → contains k.gray c.to ≡ false

-- the collection when the objects that start in a page have been scanned
abbrev pub with_scanned : Collection → ℕ → Collection
with_scanned k page = record k { gray = without_page k.gray page }

-- The least page in which a gray object starts.
pub record IsLeastGrayPage (k : Collection) (page : ℕ) : Type 0 where
  pub at : ℕ
  pub gray : contains k.gray at ≡ true
  pub here : page_of at ≡ page
  pub least : (other : ℕ) → contains k.gray other ≡ true → page ≤ page_of other
