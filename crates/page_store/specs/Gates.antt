-- How many gates of a page's two frames are open, and how many after a store.
use Rattle.std.specs.Prelude.{ℕ, ◌+◌, Bool, true, false, List}
use Rattle.page_store.specs.declared.frame.Frame.TheVariants.{First, Second}
use Rattle.page_store.specs.Frame.{is_frame_open}
use Rattle.page_store.specs.Page.{frame_of}

-- one for an open gate
abbrev pub one_if : Bool → ℕ
one_if true = 1
one_if false = 0

-- how many gates of the frames of page p are open
abbrev pub open_gates : ℕ → List ℕ → ℕ → ℕ
open_gates log_bytes image p = one_if (is_frame_open (frame_of log_bytes p image First)) + one_if (is_frame_open (frame_of log_bytes p image Second))
