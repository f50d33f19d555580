-- What an event leaves of a core that agrees with its history.
use Rattle.std.proofs.Common.{◌≡◌, ℕ, ◌+◌, ◌<◌, ◌≤◌, true, List, [], ◌++◌, length, take, Option, Some, None, sym, ap, ◌∙◌, subst, arith, length-append, append_assoc}
use Rattle.std.specs.Prelude.{fold}
use Rattle.std.proofs.lemmas.List.Sums.{fold-append}
use Rattle.std.proofs.lemmas.List.{append-nil}
use Rattle.graph_model.specs.declared.reply.Entry.{Entry}
use Rattle.graph_model.specs.Graph.{Graph}
use Rattle.graph_model.specs.Transaction.{Transaction, serial}
use Rattle.graph_model.specs.History.{Account, AreInSessions}
use Rattle.graph_model.proofs.Runs.History.{serial-take}
use Rattle.graph_model.specs.Locking.{locks_of}
use Rattle.graph_model.specs.Plain.{view, no_number}
use Rattle.log_records.specs.declared.Record.{Record}
use Rattle.log_machine.specs.Machine.{State, start, after_all, put_record, is_number, undo_of}
use Rattle.log_machine.proofs.MachineLaws.{number_in_range, after_all-append2}
use Rattle.log_machine.specs.Entries.{EachKeyed}
use Rattle.log_machine.proofs.StateLaws.{leads_after_all}
use Rattle.gated_log.specs.Log.{records_of}
use Rattle.graph_words.specs.Places.{Places}
use Rattle.heap_model.specs.Core.{Core, log_start, all_records, all_words, used, need, reserved}
use Rattle.heap_model.proofs.Step.Goes.{used-append}
use Rattle.heap_model.specs.CoreTold.{IsTold, IsNumbered}
use Rattle.core_laws.specs.Valid.{IsWriting, IsWriter, IsActive, DiskAgrees, Agrees}

-- the words with these records after all that there are
abbrev pub words_with : Core → List Record → List ℕ
words_with c more = fold put_record (all_words c) more

-- what the transaction of a session sees stands in the words
pub writing_of : (a : Account) (c : Core) (s : ℕ) (t : Transaction) → a.active s ≡ Some t → (h : Agrees a c)
    → IsWriting c.places c.remaining (view c.g0 a t) t.number (locks_of (serial c.g0 a.sealed) t) (all_words c) h.behind
writing_of a c s t e h = let P : Option Transaction → Type 0 = λ o. IsWriter c.places c.remaining c.g0 a o (all_words c) h.behind in subst P e (h.writers s)

-- its number is below the next one
pub number_below : (a : Account) (c : Core) (s : ℕ) (t : Transaction) → a.active s ≡ Some t → Agrees a c → (1 ≤ t.number) × (t.number < c.first + a.begun)
number_below a c s t e h = let P : Option Transaction → Type 0 = λ o. IsNumbered (c.first + a.begun) o in subst P e (h.numbered s)

-- and is one that a transaction can have
pub numbered_as : (a : Account) (c : Core) (s : ℕ) (t : Transaction) → a.active s ≡ Some t → Agrees a c → is_number t.number ≡ true
numbered_as a c s t e h =
    let n = number_below a c s t e h in
    let fits = h.next_fits in
    let some = n.0 in
    let below = n.1 in
    number_in_range t.number some (omega arith)

-- all records know the numbers that were given before the opening
pub known_on : (a : Account) (c : Core) → (h : Agrees a c) → c.first ≤ h.behind.next
known_on a c h =
    let pending : after_all h.disk.state c.pending ≡ Some h.behind = sym (after_all-append2 (start c.pages c.first_number) h.disk.state (records_of c.batches) c.pending h.disk.told.reached) ∙ h.told.reached in
    let grows = (leads_after_all h.disk.state h.behind c.pending pending).grows in
    let known = h.disk.first_known in
    omega arith

-- Another history, or more pending records.

-- another history changes nothing of this
pub agrees_history : (a : Account) (c : Core) (history : List Entry) → Agrees a c → Agrees a (record c { history = history })
agrees_history a c history h = record {
  unfailed = h.unfailed;
  certain = h.certain;
  in_sessions = h.in_sessions;
  in_range = h.in_range;
  next_fits = h.next_fits;
  numbered = h.numbered;
  disk = h.disk;
  behind = h.behind;
  told = h.told;
  next_known = h.next_known;
  losers = h.losers;
  writers = h.writers;
  room = h.room;
}

-- What an event leaves of a core that agrees with its history: what the history says of the transactions, and what all records encode
-- with those that it appends, where these objects stand in the current space then, and these remain.
pub record Goes (a : Account) (c : Core) (b : Account) (more : List Record) (places remaining : Places) : Type 0 where
  pub unfailed : b.failed ≡ None
  pub certain : b.in_doubt ≡ None
  pub acknowledged : b.acknowledged ≡ a.acknowledged
  pub in_sessions : AreInSessions b
  pub next_fits : c.first + b.begun ≤ no_number
  pub numbered : (s : ℕ) → IsNumbered (c.first + b.begun) (b.active s)
  pub later : List Transaction
  pub sealed : b.sealed ≡ a.sealed ++ later
  pub behind : State
  pub told : IsTold (log_start c) c.born places remaining (serial c.g0 b.sealed) (c.before + length b.sealed) (all_records c ++ more) (words_with c more) behind
  pub next_known : behind.next ≤ c.first + b.begun
  pub losers : EachKeyed (λ q us. IsActive b q) behind.undo
  pub writers : (s : ℕ) → IsWriter places remaining c.g0 b (b.active s) (words_with c more) behind
  pub room : used c + need c.pending more + reserved (undo_of behind) b ≤ c.room

-- the disk still agrees where more is sealed and no more acknowledged
disk_on : (a b : Account) (c : Core) (later : List Transaction) → b.sealed ≡ a.sealed ++ later → b.acknowledged ≡ a.acknowledged → DiskAgrees a c → DiskAgrees b c
disk_on a b c later sealed acknowledged disk =
    let k = disk.commits in
    let first = disk.sealed_first in
    let last = disk.acknowledged_last in
    let longer : length b.sealed ≡ length a.sealed + length later = ap (λ (ts : List Transaction). length ts) sealed ∙ length-append a.sealed later in
    let graph : serial c.g0 (take k b.sealed) ≡ serial c.g0 (take k a.sealed) = ap (λ (ts : List Transaction). serial c.g0 (take k ts)) sealed ∙ serial-take c.g0 a.sealed later k first in
    record {
      commits = k;
      sealed_first = omega arith;
      acknowledged_last = omega arith;
      state = disk.state;
      places = disk.places;
      remaining = disk.remaining;
      told = subst (λ (g : Graph). IsTold (log_start c) c.born disk.places disk.remaining g (c.before + k) (records_of c.batches) c.words disk.state) (sym graph) disk.told;
      first_known = disk.first_known;
      has_room = disk.has_room;
    }

-- so a core is left that agrees with its history
pub goes_on : (a : Account) (c : Core) (b : Account) (more : List Record) (places remaining : Places) → Agrees a c → Goes a c b more places remaining
    → Agrees b (record c { pending = c.pending ++ more; places = places; remaining = remaining })
goes_on a c b more places remaining h go =
    let all = used-append c more in
    let room = go.room in
    let records = append_assoc (records_of c.batches) c.pending more in
    let words = sym (fold-append put_record c.words c.pending more) in
    record {
      unfailed = go.unfailed;
      certain = go.certain;
      in_sessions = go.in_sessions;
      in_range = h.in_range;
      next_fits = go.next_fits;
      numbered = go.numbered;
      disk = disk_on a b c go.later go.sealed go.acknowledged h.disk;
      behind = go.behind;
      told =
          let told = subst (λ (rs : List Record). IsTold (log_start c) c.born places remaining (serial c.g0 b.sealed) (c.before + length b.sealed) rs (words_with c more) go.behind) records go.told in
          subst (λ (ws : List ℕ). IsTold (log_start c) c.born places remaining (serial c.g0 b.sealed) (c.before + length b.sealed) (records_of c.batches ++ (c.pending ++ more)) ws go.behind) words told;
      next_known = go.next_known;
      losers = go.losers;
      writers = λ s. subst (λ (ws : List ℕ). IsWriter places remaining c.g0 b (b.active s) ws go.behind) words (go.writers s);
      room = omega arith;
    }

-- with no more records appended the same is encoded
pub as_told : (a : Account) (c : Core) → (h : Agrees a c)
    → IsTold (log_start c) c.born c.places c.remaining (serial c.g0 a.sealed) (c.before + length a.sealed) (all_records c ++ []) (words_with c []) h.behind
as_told a c h =
    subst (λ (rs : List Record). IsTold (log_start c) c.born c.places c.remaining (serial c.g0 a.sealed) (c.before + length a.sealed) rs (all_words c) h.behind) (sym (append-nil (all_records c))) h.told

-- no more places are those that there are
pub places_still : (c : Core) (more : List Record) → record c { pending = c.pending ++ more; places = c.places ++ [] } ≡ record c { pending = c.pending ++ more }
places_still c more = ap (λ (ps : Places). record c { pending = c.pending ++ more; places = ps }) (append-nil c.places)
