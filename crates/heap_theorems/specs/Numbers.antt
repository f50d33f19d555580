-- The numbers of `docs/FORMATS.md`, as they stand there.
use Rattle.std.specs.Prelude.{◌≡◌, ℕ, ◌+◌, ◌*◌}
use Rattle.heap_words.specs.declared.TheConstants.{STABLE_WORDS, VOLATILE_WORDS, PAGE_WORDS, MOST_FIELDS, FIELDS_AT, ROOT_FIELDS}
use Rattle.log_records.specs.declared.TheConstants.{FIRST_LSN, UPDATE_BYTES, PUT_BYTES, COMMIT_BYTES, END_BYTES, BATCH_BYTES}
use Rattle.image_plan.specs.declared.plan.TheConstants.{LEAST_LOG, MOST_LOG, MOST_PAGES}
use Rattle.image_plan.specs.Plan.{image_size, frame_offset}
use Rattle.script_text.specs.declared.script.TheConstants.{MOST_BYTES}
use Rattle.heap_program.specs.declared.playing.TheConstants.{LOG_BYTES}

-- the words of a heap: how far addresses reach, and how large pages and objects are
pub record HasWords : Type 0 where
  pub stable : STABLE_WORDS ≡ 2097152
  pub volatile : VOLATILE_WORDS ≡ 4096
  pub page : PAGE_WORDS ≡ 64
  pub fields : MOST_FIELDS ≡ 510
  pub fields_at : FIELDS_AT ≡ 2
  pub root : ROOT_FIELDS ≡ 4

-- the log: its first number, and the bytes of what has a length of its own
pub record HasRecords : Type 0 where
  pub first : FIRST_LSN ≡ 1
  pub update : UPDATE_BYTES ≡ 27
  pub put : PUT_BYTES ≡ 19
  pub commit : COMMIT_BYTES ≡ 5
  pub end : END_BYTES ≡ 5
  pub batch : BATCH_BYTES ≡ 5

-- an image: how large its log and its spaces may be, and where its parts lie
pub record HasPlan : Type 0 where
  pub least_log : LEAST_LOG ≡ 64
  pub most_log : MOST_LOG ≡ 1073741824
  pub most_pages : MOST_PAGES ≡ 16384
  pub size : (p l : ℕ) → image_size p l ≡ 64 + l + 2112 * p
  pub frame : (p l f : ℕ) → frame_offset l p f ≡ 64 + l + (2 * p + f) * 528

-- The numbers of heaps, logs and images, of the log that a run makes, and of the longest script.
pub record HasNumbers : Type 0 where
  pub words : HasWords
  pub records : HasRecords
  pub plan : HasPlan
  pub log_made : LOG_BYTES ≡ 1048576
  pub script : MOST_BYTES ≡ 1048576
