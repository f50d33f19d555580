-- Reads one after another are reads.
use Rattle.std.proofs.Common.{ℕ, ◌≤◌, inl, inr, List, Bool, Option, None, refl, ◌∙◌, arith}
use Rattle.std.proofs.lemmas.Bool.{cases_order}
use Rattle.counts.specs.Count.{Rose}
use Rattle.disk_model.specs.declared.disk.DiskError.{DiskError}
use Rattle.object_layout.specs.Read.{IsRead}

-- what rose later rose since before
rose_before : (a b c : ℕ) → a ≤ b → b ≤ c → Rose b c → Rose a c
rose_before a b c first then (inl more) = inl (omega arith)
rose_before a b c first then (inr most) = elim (cases_order a c) [
  | inl same ↦ inr (omega arith)
  | inr (inl below) ↦ inl below
  | inr (inr above) ↦ absurd (omega arith)
]

-- no read is a read
pub not_read : {S : Type 0} (tells : Bool) (extent : S → ℕ) (content : S → List ℕ) (keeps : S → S → Type 0) (faults stops : S → ℕ) (all : S)
    → ((x : S) → keeps x x) → IsRead tells extent content keeps faults stops all all None
not_read tells extent content keeps faults stops all itself = record {
  same_words = λ told. refl;
  same_extent = refl;
  kept = itself all;
  faults_kept = omega arith;
  stops_kept = omega arith;
  failed = λ none. cc;
  stopped = λ none. cc;
  no_first_stop = λ none. none;
}

-- reads one after another, of which the last may have failed
pub read_on : {S : Type 0} (tells : Bool) (extent : S → ℕ) (content : S → List ℕ) (keeps : S → S → Type 0) (faults stops : S → ℕ) (old mid new : S) (failure : Option DiskError)
    → ((x y z : S) → keeps x y → keeps y z → keeps x z) → IsRead tells extent content keeps faults stops old mid None
    → IsRead tells extent content keeps faults stops mid new failure → IsRead tells extent content keeps faults stops old new failure
read_on tells extent content keeps faults stops old mid new failure on one two = record {
  same_words = λ told. two.same_words told ∙ one.same_words told;
  same_extent = two.same_extent ∙ one.same_extent;
  kept = on old mid new one.kept two.kept;
  faults_kept = omega arith;
  stops_kept = omega arith;
  failed = λ is. rose_before (faults old) (faults mid) (faults new) one.faults_kept two.faults_kept (two.failed is);
  stopped = λ is. rose_before (stops old) (stops mid) (stops new) one.stops_kept two.stops_kept (two.stopped is);
  no_first_stop = λ none. two.no_first_stop (one.no_first_stop none);
}
