-- What a crash leaves of a reached core: the graph of the first k commits since its opening, with all that were acknowledged among them.
use Rattle.std.proofs.Common.{◌≡◌, ◌⊎◌, inl, inr, ℕ, ◌+◌, ◌≤◌, List, ◌++◌, length, take, Option, None, sym, ap, ◌∙◌, subst, arith}
use Rattle.std.specs.Prelude.{IsTrue}
use Rattle.std.specs.Option.{option_to_list}
use Rattle.std.proofs.lemmas.List.{append-nil, length-append, take-append-le}
use Rattle.graph_model.specs.declared.reply.Entry.{Entry}
use Rattle.graph_model.specs.Transaction.{Transaction, serial}
use Rattle.graph_model.specs.History.{Account, account, sealed, commits, acknowledged}
use Rattle.log_records.specs.declared.Record.{Record}
use Rattle.gated_log.specs.Log.{batches_bytes, records_of, with_batch}
use Rattle.log_machine.specs.Machine.{State, start, reserve}
use Rattle.page_redo.specs.Origin.{Origin, commits_in}
use Rattle.page_redo.specs.Pages.{Pages}
use Rattle.page_redo.specs.Prefix.{EachHoldsPrefix}
use Rattle.page_redo.specs.Redo.{words_from}
use Rattle.page_redo.proofs.PrefixLaws.{EachHoldsPrefix-append}
use Rattle.graph_words.specs.Places.{Places}
use Rattle.heap_model.specs.Core.{Core, log_origin, log_start, commits_on_disk, all_words}
use Rattle.heap_model.specs.CoreCrash.{HasLogWords, IsLogged, IsOnDisk, IsSuperOf}
use Rattle.heap_model.specs.CoreTold.{IsTold}
use Rattle.heap_model.proofs.Step.Goes.{told_sound}
use Rattle.heap_model.proofs.Opening.Legal.{told_says}
use Rattle.heap_model.proofs.Step.Logged.{super_origin, all_logged}
use Rattle.heap_model.proofs.Step.Transfers.{stage_is}
use Rattle.heap_model.proofs.Step.Room.{records_of-with_batch, length-with_batch}
use Rattle.heap_model.specs.Image.{StoredHeap, origin_of, Says, records_in}
use Rattle.heap_model.specs.Opening.{next_of, next_in}
use Rattle.core_laws.proofs.Step.Goes.{known_on}
use Rattle.core_laws.proofs.Step.GrantedEnds.{all_on_disk}
use Rattle.core_laws.proofs.Step.Reserved.{reserve_reserved}
use Rattle.core_laws.proofs.Step.Sound.{sound_agrees}
use Rattle.core_laws.specs.Theorems.{CrashTheorem}
use Rattle.core_laws.specs.Valid.{Agrees, IsValid, IsSound}

-- Records encode the first k commits of a core since its opening, and all that was acknowledged or forced is among them; the log has room
-- to take back what else they hold.
pub record TellFirst (c : Core) (k : ℕ) (batches : List (List Record)) : Type 0 where
  pub state : State
  pub places : Places
  pub remaining : Places
  pub words : List ℕ
  pub told : IsTold (log_start c) c.born places remaining (serial c.g0 (take k (commits c.history))) (c.before + k) (records_of batches) words state
  pub logged : words ≡ words_from (log_origin c) (records_of batches)
  pub room : length (batches_bytes batches) + 1 + reserve state ≤ c.room
  pub next : c.first ≤ state.next
  pub kept : acknowledged c.history ≤ k
  pub forced : commits_on_disk c ≤ c.before + k
  pub some : k ≤ length (commits c.history)

-- until the disk fails no seal is in doubt, and the commits are the sealed transactions
pub commits-sealed : (c : Core) → IsValid c → commits c.history ≡ sealed c.history
commits-sealed c h = ap (λ (o : Option Transaction). sealed c.history ++ option_to_list o) h.certain ∙ append-nil (sealed c.history)

-- in any case the sealed ones are the first of the commits
pub sealed-first : (k : ℕ) (history : List Entry) → k ≤ length (sealed history) → take k (commits history) ≡ take k (sealed history)
sealed-first k history few = take-append-le k (sealed history) (option_to_list (account history).in_doubt) few

pub sealed-few : (history : List Entry) → length (sealed history) ≤ length (commits history)
sealed-few history = omega (arith, length-append (sealed history) (option_to_list (account history).in_doubt))

tell_sealed : (c : Core) (k : ℕ) (batches : List (List Record)) (places remaining : Places) (now : List ℕ) (state : State)
    → IsTold (log_start c) c.born places remaining (serial c.g0 (take k (sealed c.history))) (c.before + k) (records_of batches) now state → now ≡ words_from (log_origin c) (records_of batches)
    → length (batches_bytes batches) + 1 + reserve state ≤ c.room → c.first ≤ state.next → acknowledged c.history ≤ k → commits_on_disk c ≤ c.before + k
    → k ≤ length (sealed c.history) → TellFirst c k batches
tell_sealed c k batches places remaining now state told logged room next kept forced some =
    record {
      state = state;
      places = places;
      remaining = remaining;
      words = now;
      told = subst (λ (ts : List Transaction). IsTold (log_start c) c.born places remaining (serial c.g0 ts) (c.before + k) (records_of batches) now state) (sym (sealed-first k c.history some)) told;
      logged = logged;
      room = room;
      next = next;
      kept = kept;
      forced = forced;
      some = omega (arith, some, sealed-few c.history);
    }

-- the commits of the log on the disk are those before the opening and those since then
pub forced_commits : (a : Account) (c : Core) → (b : Agrees a c) → commits_on_disk c ≡ c.before + b.disk.commits
forced_commits a c b = ap commits_in b.disk.told.reached ∙ b.disk.told.count

-- pages that may stand beside the forced records may stand beside these batches
pub prefixes_on : (c : Core) (batches : List (List Record)) (stored : Pages) → IsLogged c stored → IsOnDisk c batches → EachHoldsPrefix (log_origin c) (records_of batches) stored
prefixes_on c batches stored logged on = prefixes_at (stage_is c batches on)
  where
    prefixes_at : (batches ≡ c.batches) ⊎ (batches ≡ with_batch c.batches c.pending) → EachHoldsPrefix (log_origin c) (records_of batches) stored
    prefixes_at (inl is) = subst (λ (bs : List (List Record)). EachHoldsPrefix (log_origin c) (records_of bs) stored) (sym is) logged.prefixes
    prefixes_at (inr is) =
        subst (λ (rs : List Record). EachHoldsPrefix (log_origin c) rs stored) (sym (ap records_of is ∙ records_of-with_batch c.batches c.pending))
        (EachHoldsPrefix-append (log_origin c) (records_of c.batches) c.pending stored logged.prefixes)

-- the batches on the disk encode a commit prefix
tell_at : (c : Core) (batches : List (List Record)) → IsSound c → HasLogWords c → (batches ≡ c.batches) ⊎ (batches ≡ with_batch c.batches c.pending) → (k : ℕ) × TellFirst c k batches
tell_at c batches h logged (inl is) =
    let b = sound_agrees c h in
    let forced = forced_commits (record (account c.history) { failed = None; in_doubt = None }) c b in
    let P : List (List Record) → Type 0 = λ bs. TellFirst c b.disk.commits bs in
    (b.disk.commits, subst P (sym is) (tell_sealed c b.disk.commits c.batches b.disk.places b.disk.remaining c.words b.disk.state b.disk.told logged b.disk.has_room b.disk.first_known b.disk.acknowledged_last (omega arith) b.disk.sealed_first))
tell_at c batches h logged (inr is) =
    let b = sound_agrees c h in
    let a = record (account c.history) { failed = None; in_doubt = None } in
    let all = length (sealed c.history) in
    let last = b.disk.acknowledged_last in
    let first = b.disk.sealed_first in
    let records = ap records_of is ∙ records_of-with_batch c.batches c.pending in
    let told = all_on_disk a c batches b records in
    let words = all_logged c logged ∙ ap (words_from (log_origin c)) (sym records) in
    let size = ap (λ (bs : List (List Record)). length (batches_bytes bs)) is in
    let whole = length-with_batch c.batches c.pending in
    let fits = reserve_reserved a b.behind b.in_sessions (told_sound b.told) b.losers in
    let room = b.room in
    let known = known_on a c b in
    let forced = forced_commits a c b in
    (all, tell_sealed c all batches c.places c.remaining (all_words c) b.behind told words (omega arith) known (omega arith) (omega arith) (omega arith))

pub tell_first : (c : Core) (batches : List (List Record)) → IsSound c → HasLogWords c → IsOnDisk c batches → (k : ℕ) × TellFirst c k batches
tell_first c batches h logged on = tell_at c batches h logged (stage_is c batches on)

module _ (c : Core) (stored : StoredHeap) (h : IsSound c) (logged : HasLogWords c) (beside : EachHoldsPrefix (log_origin c) (records_in stored) stored.pages) (on : IsOnDisk c stored.batches) (of : IsSuperOf stored.super c) where
  first : (k : ℕ) × TellFirst c k stored.batches
  first = tell_first c stored.batches h logged on

  told : IsTold (origin_of stored).state c.born first.1.places first.1.remaining (serial c.g0 (take first.0 (commits c.history))) (c.before + first.0) (records_in stored) first.1.words first.1.state
  told =
      let P : ℕ → ℕ → Type 0 = λ pages first_number. IsTold (start pages first_number) c.born first.1.places first.1.remaining (serial c.g0 (take first.0 (commits c.history))) (c.before + first.0) (records_in stored) first.1.words first.1.state in
      subst (λ pages. P pages stored.super.first) (sym of.pages) (subst (λ first_number. P c.pages first_number) (sym of.first) first.1.told)

  -- the log on the disk begins where the core's does
  same_origin : origin_of stored ≡ log_origin c
  same_origin = super_origin stored c of

  fits : length (batches_bytes stored.batches) + 1 + reserve first.1.state ≤ stored.super.log_bytes
  fits = let room = first.1.room in let same = of.room in omega arith

  -- the pages on the disk may stand beside the log there
  prefixes : EachHoldsPrefix (origin_of stored) (records_in stored) stored.pages
  prefixes = subst (λ (o : Origin). EachHoldsPrefix o (records_in stored) stored.pages) (sym same_origin) beside

  words_are : first.1.words ≡ words_from (origin_of stored) (records_in stored)
  words_are = first.1.logged ∙ ap (λ (o : Origin). words_from o (records_in stored)) (sym same_origin)

  -- its next transaction number is not below the first of this opening
  disk_next : c.first ≤ next_of stored
  disk_next = let same : next_of stored ≡ first.1.state.next = ap next_in told.reached in let next = first.1.next in omega arith

  -- where births give the names it is legal, and says the first k commits since the opening, with all that was acknowledged or forced
  pub disk_says : IsTrue c.born → (k : ℕ) × Says (serial c.g0 (take k (commits c.history))) (c.before + k) stored × (c.first ≤ next_of stored) × (acknowledged c.history ≤ k) × (commits_on_disk c ≤ c.before + k) × (k ≤ length (commits c.history))
  disk_says by_birth = (
    first.0,
    told_says stored c.born first.1.places first.1.remaining (serial c.g0 (take first.0 (commits c.history))) (c.before + first.0) first.1.words first.1.state of.limits told words_are prefixes fits by_birth,
    disk_next,
    first.1.kept,
    first.1.forced,
    first.1.some,
  )

-- A crash leaves an image of a commit prefix.
pub crash_law : CrashTheorem
crash_law c stored sound by_birth logged beside on of image held =
    let says = disk_says c stored sound logged beside on of by_birth in
    (says.0, record { stands = record { stored = stored; says = says.1; held = held }; of = of; next = says.2; kept = says.3; forced = says.4; some = says.5 })
