-- Where the parts of an image lie.
use Rattle.std.specs.Prelude.{ℕ, ◌+◌, ◌*◌}
use Rattle.image_plan.specs.declared.plan.TheConstants.{SUPER_BYTES, FRAME_BYTES, FRAMES, SPACES}

-- where the log begins
abbrev pub log_offset : ℕ
log_offset = SUPER_BYTES

-- the bytes of an image: the superblock, the log, and two frames of 528 bytes for each page of two spaces
abbrev pub image_size : ℕ → ℕ → ℕ
image_size pages log_bytes = SUPER_BYTES + log_bytes + SPACES * FRAMES * FRAME_BYTES * pages

-- where frame f (0 or 1) of page p begins
abbrev pub frame_offset : ℕ → ℕ → ℕ → ℕ
frame_offset log_bytes p f = SUPER_BYTES + log_bytes + (FRAMES * p + f) * FRAME_BYTES
