-- The log's room after the barrier's records.
use Rattle.std.proofs.Common.{◌≡◌, List, ◌++◌, sym, ap, ◌∙◌, arith, append_assoc}
use Rattle.graph_model.specs.History.{Account}
use Rattle.log_records.specs.declared.Record.{Record}
use Rattle.gated_log.specs.Log.{records_of}
use Rattle.graph_words.specs.Places.{Places}
use Rattle.heap_model.specs.Core.{Core, all_records, reserved, undo_behind}
use Rattle.heap_model.proofs.Step.Goes.{used-append}
use Rattle.heap_model.proofs.Step.Room.{need-parts}
use Rattle.core_laws.proofs.Step.Granted.{HasRoom}

-- a core with records after the pending ones, and its objects elsewhere
abbrev pub appended : Core → List Record → Places → Places → Core
appended c records places remaining = record c { pending = c.pending ++ records; places = places; remaining = remaining }

all_appended : (c : Core) (records : List Record) (places remaining : Places) (more : List Record) → all_records (appended c records places remaining) ++ more ≡ all_records c ++ (records ++ more)
all_appended c records places remaining more =
    ap (λ (l : List Record). l ++ more) (sym (append_assoc (records_of c.batches) c.pending records)) ∙ append_assoc (all_records c) records more

-- Where the log has room for the barrier's records and an event's own, it has room for the event's own after those of the barrier.
pub room_behind : (c : Core) (records : List Record) (places remaining : Places) (own : List Record) (b : Account) → HasRoom c (records ++ own) b → HasRoom (appended c records places remaining) own b
room_behind c records places remaining own b room =
    let front = used-append c records in
    let parts = need-parts c.pending records own in
    let kept = ap (λ (l : List Record). reserved (undo_behind c l) b) (all_appended c records places remaining own) in
    omega arith
