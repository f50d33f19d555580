-- The 528 bytes of a frame: a gate, seven bytes that are never read, an LSN and 64 words.
use Rattle.std.specs.Prelude.{ℕ, zero, suc, ◌==◌, nat_lt, Bool, true, false, List, [], ◌∷◌, ◌++◌, drop, replicate, slice_index, Option, Some, None, if◌then◌else◌}
use Rattle.std.specs.Option.{option_map_or}
use Rattle.std.specs.List.{flat_map}
use Rattle.std.specs.Int.{w64, to_le_bytes}
use Rattle.byteorder.specs.Endian.{little_number}
use Rattle.page_store.specs.declared.frame.Frame.{Frame}
use Rattle.page_store.specs.declared.frame.Frame.TheVariants.{First, Second}
use Rattle.heap_words.specs.declared.TheConstants.{PAGE_WORDS}

-- the bytes of a frame behind its gate, as they are written: seven zeros, the LSN and the words
abbrev pub frame_body : ℕ → List ℕ → List ℕ
frame_body lsn words = replicate 7 0 ++ to_le_bytes w64 lsn ++ flat_map (to_le_bytes w64) words

-- the bytes of a frame that was stored: an open gate, and the rest
abbrev pub frame_bytes : ℕ → List ℕ → List ℕ
frame_bytes lsn words = 1 ∷ frame_body lsn words

-- a frame's gate is open exactly if its byte is 1
abbrev pub is_frame_open : List ℕ → Bool
is_frame_open frame = slice_index frame 0 == 1

-- the LSN in a frame
abbrev pub frame_lsn : List ℕ → ℕ
frame_lsn frame = little_number 8 (drop 8 frame)

-- the first n words that bytes spell
unfoldable pub spelled_words : ℕ → List ℕ → List ℕ
spelled_words zero bytes = []
spelled_words (suc n) bytes = little_number 8 bytes ∷ spelled_words n (drop 8 bytes)

-- the words in a frame
abbrev pub frame_words : List ℕ → List ℕ
frame_words frame = spelled_words PAGE_WORDS (drop 16 frame)

-- Of two frames the open one counts; of two open ones the one with the greater LSN, or the first if the LSNs are equal.
abbrev pub newest : Bool → Bool → ℕ → ℕ → Option Frame
newest false false lsn lsn' = None
newest true false lsn lsn' = Some First
newest false true lsn lsn' = Some Second
newest true true lsn lsn' = if nat_lt lsn lsn' then Some Second else Some First

-- which of a page's two frames counts, by their bytes
abbrev pub counting : List ℕ → List ℕ → Option Frame
counting first second = newest (is_frame_open first) (is_frame_open second) (frame_lsn first) (frame_lsn second)

-- the bytes of that one of the two frames
abbrev pub bytes_of : List ℕ → List ℕ → Frame → List ℕ
bytes_of first second First = first
bytes_of first second Second = second

-- the LSN of a page with these two frames: that of the frame that counts, or 0
abbrev pub lsn_in : List ℕ → List ℕ → ℕ
lsn_in first second = option_map_or (λ frame. frame_lsn (bytes_of first second frame)) (counting first second) 0

-- its words: those of the frame that counts, or the first contents
abbrev pub words_or : List ℕ → List ℕ → List ℕ → List ℕ
words_or stood first second = option_map_or (λ frame. frame_words (bytes_of first second frame)) (counting first second) stood

-- the frame that a store writes: the one that doesn't count, or the first if none does
abbrev pub spare : Option Frame → Frame
spare None = First
spare (Some First) = Second
spare (Some Second) = First
