-- The words that bytes spell are those that were written.
use Rattle.std.specs.Prelude.{◌≡◌, ℕ, zero, suc, ◌+◌, ◌*◌, ◌^◌, ◌<◌, List, [], ◌∷◌, ◌++◌, length, drop, replicate, get_or}
use Rattle.std.specs.List.{flat_map}
use Rattle.std.specs.Int.{w64, to_le_bytes}
use Rattle.std.proofs.Common.{refl, sym, ap, ◌∙◌, arith, append_assoc, length-append}
use Rattle.std.proofs.lemmas.List.{drop-drop, drop_at, append-nil}
use Rattle.byteorder.specs.Endian.{little_number}
use Rattle.byteorder.specs.Numbers.{little_number-reads_back, length-bytes_low_first}
use Rattle.page_store.specs.Frame.{frame_body, frame_bytes, frame_lsn, frame_words, spelled_words}

-- words that are each spelled by the bytes at their place are all that these bytes spell
pub words_in-each : (n : ℕ) (bytes words : List ℕ) → length words ≡ n → ((k : ℕ) → k < n → get_or words k 0 ≡ little_number 8 (drop (8 * k) bytes)) → words ≡ spelled_words n bytes
unfolding spelled_words
words_in-each zero bytes [] size each = refl
words_in-each zero bytes (w ∷ ws) size each = absurd (omega (arith, size))
words_in-each (suc n) bytes [] size each = absurd (omega (arith, size))
words_in-each (suc n) bytes (w ∷ ws) size each =
    let first : w ≡ little_number 8 bytes = each 0 (omega arith) in
    let behind : (k : ℕ) → k < n → get_or ws k 0 ≡ little_number 8 (drop (8 * k) (drop 8 bytes)) = λ k below.
    let along : 8 * suc k ≡ 8 + 8 * k = omega arith in
    each (suc k) (omega arith) ∙ ap (λ (m : ℕ). little_number 8 (drop m bytes)) along ∙ ap (little_number 8) (sym (drop-drop (8 * k) 8 bytes)) in
    let rest = words_in-each n (drop 8 bytes) ws (omega (arith, size)) behind in
    ap (λ (x : ℕ). x ∷ ws) first ∙ ap (λ (l : List ℕ). little_number 8 bytes ∷ l) rest

-- they are n
pub length-words_in : (n : ℕ) (bytes : List ℕ) → length (spelled_words n bytes) ≡ n
unfolding spelled_words
length-words_in zero bytes = refl
length-words_in (suc n) bytes = let rest = length-words_in n (drop 8 bytes) in omega (arith, rest)

-- words are read back
pub words_in-written : (n : ℕ) (words rest : List ℕ) → length words ≡ n → ((k : ℕ) → get_or words k 0 < 2 ^ 64) → spelled_words n (flat_map (to_le_bytes w64) words ++ rest) ≡ words
unfolding spelled_words
words_in-written zero [] rest size small = refl
words_in-written zero (w ∷ ws) rest size small = absurd (omega (arith, size))
words_in-written (suc n) [] rest size small = absurd (omega (arith, size))
words_in-written (suc n) (w ∷ ws) rest size small =
    let behind = flat_map (to_le_bytes w64) ws ++ rest in
    let front : flat_map (to_le_bytes w64) (w ∷ ws) ++ rest ≡ to_le_bytes w64 w ++ behind = append_assoc (to_le_bytes w64 w) (flat_map (to_le_bytes w64) ws) rest in
    let first : little_number 8 (to_le_bytes w64 w ++ behind) ≡ w = little_number-reads_back 8 w behind (small 0) in
    let dropped : drop 8 (to_le_bytes w64 w ++ behind) ≡ behind = drop_at (to_le_bytes w64 w) behind 8 (length-bytes_low_first 0 8 w) in
    let more = words_in-written n ws rest (omega (arith, size)) (λ k. small (suc k)) in
    ap (λ (l : List ℕ). little_number 8 l ∷ spelled_words n (drop 8 l)) front
    ∙ ap (λ (x : ℕ). x ∷ spelled_words n (drop 8 (to_le_bytes w64 w ++ behind))) first
    ∙ ap (λ (l : List ℕ). w ∷ spelled_words n l) dropped
    ∙ ap (λ (l : List ℕ). w ∷ l) more

-- how many bytes words take
pub length-written : (words : List ℕ) → length (flat_map (to_le_bytes w64) words) ≡ 8 * length words
length-written [] = refl
length-written (w ∷ ws) =
    let rest = length-written ws in
    omega (arith, rest, length-append (to_le_bytes w64 w) (flat_map (to_le_bytes w64) ws), length-bytes_low_first 0 8 w)

module _ (lsn : ℕ) (words : List ℕ) where
  -- what is written behind a frame's gate
  pub length-frame_body : length words ≡ 64 → length (frame_body lsn words) ≡ 527
  length-frame_body size = omega (arith, size, length-written words, length-append (replicate 7 0 ++ to_le_bytes w64 lsn) (flat_map (to_le_bytes w64) words))

  -- a frame has the LSN that was written into it
  pub frame_lsn-written : lsn < 2 ^ 64 → frame_lsn (frame_bytes lsn words) ≡ lsn
  frame_lsn-written small = little_number-reads_back 8 lsn (flat_map (to_le_bytes w64) words) small

  -- and the words
  pub frame_words-written : length words ≡ 64 → ((k : ℕ) → get_or words k 0 < 2 ^ 64) → frame_words (frame_bytes lsn words) ≡ words
  frame_words-written size small =
      let all : flat_map (to_le_bytes w64) words ≡ flat_map (to_le_bytes w64) words ++ [] = sym (append-nil (flat_map (to_le_bytes w64) words)) in
      ap (spelled_words 64) all ∙ words_in-written 64 words [] size small
