-- A plan as it lies in memory.
use Rattle.std.specs.Prelude.{◌≡◌, ℕ, ◌+◌, ◌-◌, ◌≤◌, ◌<◌, ◌&&◌, nat_le, nat_lt, Bool, List, length, map, slice_index_or, slice_set, Option, None, Some, is_some, if◌then◌else◌}
use Rattle.std.specs.FinSet.{contains}
use Rattle.heap_spaces.specs.Addresses.{is_set}
use Rattle.heap_spaces.specs.Collection.{Collection}
use Rattle.heap_words.specs.declared.TheConstants.{PAGE_WORDS}
use Rattle.log_records.specs.declared.Record.{Record}
use Rattle.log_records.specs.Record.{copy_record}
use Rattle.page_scanner.specs.declared.plan.Plan.{Plan}
use Rattle.page_scanner.specs.Destinations.{goes_to}
use Rattle.page_scanner.specs.PageScan.{copies_of, HaveWords}
use Rattle.page_scanner.specs.Scan.{Planned, copied_to, copied_from}

-- the records of its copies
abbrev pub copy_records : Plan → List Record
copy_records plan = map copy_record (copies_of plan.copies.items plan.words.items)

-- what it says
abbrev pub planned : Plan → Planned
planned plan = record { copies = copy_records plan; writes = plan.writes.items; size = plan.size }

-- a word address lies in the page that begins at `first`
abbrev pub is_in_page : ℕ → ℕ → Bool
is_in_page first at = nat_le first at && nat_lt (at - first) PAGE_WORDS

-- the sources of the copies in a page, by their places there, with one more copy, if that one stands in the page
abbrev pub with_source : List (Option ℕ) → ℕ → ℕ → ℕ → List (Option ℕ)
with_source sources first from to = if is_in_page first to then slice_set sources (to - first) (Some from) else sources

-- bits say at which places of the page that begins at `first` a gray object starts
abbrev pub ArePageBits : ℕ → Collection → ℕ → Type 0
ArePageBits gray k first = (place : ℕ) → place < PAGE_WORDS → is_set gray place ≡ contains k.gray (first + place)

-- It has the words of its copies, no more than the largest space, and knows where each object goes, and where each copy in the page stands and comes
-- from.
pub record IsPlan (plan : Plan) : Type 0 where
  pub filled : HaveWords plan.copies.items plan.words.items
  pub counted : plan.size ≡ length plan.words.items
  pub small : plan.size ≤ 1048576
  pub listed : length plan.destinations ≡ length plan.copies.items
  pub going : (b : ℕ) → goes_to plan.destinations b ≡ copied_to (copy_records plan) b
  pub places : length plan.sources ≡ PAGE_WORDS
  pub coming : (place : ℕ) → place < PAGE_WORDS → slice_index_or plan.sources place None ≡ copied_from (copy_records plan) (plan.first + place)
  pub placing : (place : ℕ) → place < PAGE_WORDS → is_set plan.placed place ≡ is_some (copied_from (copy_records plan) (plan.first + place))
