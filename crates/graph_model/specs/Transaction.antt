-- What transactions do to a graph, one after another.
use Rattle.std.specs.Prelude.{ℕ, ◌+◌, List, [], ◌∷◌, length, Option, None, Some, replicate, slice_get, slice_index_or, slice_set, option_and_then, if◌then◌else◌}
use Rattle.std.specs.FinMap.{insert}
use Rattle.graph_model.specs.declared.id.Id.{Id}
use Rattle.graph_model.specs.declared.val.Val.{Val}
use Rattle.graph_model.specs.declared.val.Val.TheVariants.{Null, Int, Ref}
use Rattle.graph_model.specs.declared.event.Event.{Event}
use Rattle.graph_model.specs.declared.event.Event.TheVariants.{Root, New, Put, Clear, Link, Drop, Get, Same, Len}
use Rattle.graph_model.specs.declared.reply.Reply.{Reply}
use Rattle.graph_model.specs.declared.reply.Reply.TheVariants as answer
use Rattle.graph_model.specs.Graph.{Graph, is_same_id, root, fields, with_field}
use Rattle.graph_model.specs.Kinds.{kind_of, AreCalls}

-- the 64 handles of a transaction, and what each of them holds
abbrev pub Registers : Type 0
Registers = List (Option Id)

abbrev pub no_registers : Registers
no_registers = replicate 64 None

-- what a handle holds
abbrev pub held : Registers → ℕ → Option Id
held registers h = option_and_then (λ id. id) (slice_get registers h)

-- A graph and the registers of a transaction on it.
pub record View : Type 0 where
  pub graph : Graph
  pub registers : Registers
  pub made : ℕ  -- how many objects the transaction has made

-- a call's view afterwards, and its reply
pub record Outcome : Type 0 where
  pub view : View
  pub reply : Reply

-- the fields of an object, and none where there is no object
abbrev pub fields_of : Graph → Option Id → List Val
fields_of g None = []
fields_of g (Some id) = fields g id

-- the graph in which a field of an object has another value
abbrev pub put_value : Graph → Option Id → ℕ → Val → Graph
put_value g None i v = g
put_value g (Some id) i v = with_field g id i v

-- the handles where h holds what a value refers to; they stay as they are if it is no reference
abbrev pub with_referred : Registers → ℕ → Val → Registers
with_referred registers h (Ref id) = slice_set registers h (Some id)
with_referred registers h v = registers

-- what a read of that value is answered
abbrev pub value_reply : Val → Reply
value_reply Null = answer.Null
value_reply (Int v) = answer.Int v
value_reply (Ref id) = answer.Reference

-- whether two handles hold the same object
abbrev pub same_reply : Option Id → Option Id → Reply
same_reply (Some id) (Some other) = if is_same_id id other then answer.Yes else answer.No
same_reply o p = answer.No

-- handle h holds this object, or nothing
abbrev pub hold : View → ℕ → Option Id → Outcome
hold view h o = record { view = record view { registers = slice_set view.registers h o }; reply = answer.Done }

-- the name of the next object that transaction t makes
abbrev pub next_id : View → ℕ → Id
next_id view t = record { t = t; k = view.made + 1 }

-- transaction t makes an object of that many null fields, and handle h holds it
abbrev pub make : View → ℕ → ℕ → ℕ → Outcome
make view t h len =
    let id = next_id view t in
    record {
      view = record {
        graph = insert view.graph id (replicate len Null);
        registers = slice_set view.registers h (Some id);
        made = view.made + 1;
      };
      reply = answer.Done;
    }

-- field i of what handle h holds has this value
abbrev pub write : View → ℕ → ℕ → Val → Outcome
write view h i v = record { view = record view { graph = put_value view.graph (held view.registers h) i v }; reply = answer.Done }

-- a reference to what a handle holds, and null where it holds nothing
abbrev pub reference_to : Option Id → Val
reference_to None = Null
reference_to (Some id) = Ref id

-- a field of this value is read, and handle h holds what it refers to
abbrev pub read : View → ℕ → Val → Outcome
read view h v = record { view = record view { registers = with_referred view.registers h v }; reply = value_reply v }

-- nothing changes, and this is answered
abbrev pub tell : View → Reply → Outcome
tell view reply = record { view = view; reply = reply }

-- a call is what a transaction does between its begin and its end
abbrev pub IsCall : Event → Type 0
IsCall event = AreCalls (kind_of event)

-- one call of transaction t; other events call nothing
abbrev pub call : View → ℕ → Event → Outcome
call view t (Root s h) = hold view h (Some root)
call view t (New s h len) = make view t h len
call view t (Put s h i v) = write view h i (Int v)
call view t (Clear s h i) = write view h i Null
call view t (Link s h i h2) = write view h i (reference_to (held view.registers h2))
call view t (Drop s h) = hold view h None
call view t (Get s h i h2) = read view h2 (slice_index_or (fields_of view.graph (held view.registers h)) i Null)
call view t (Same s h h2) = tell view (same_reply (held view.registers h) (held view.registers h2))
call view t (Len s h) = tell view (answer.Length (length (fields_of view.graph (held view.registers h))))
call view t event = tell view answer.Done

-- a transaction: its number, and its calls that were not refused, in order
pub record Transaction : Type 0 where
  pub number : ℕ
  pub calls : List Event

-- the view after these calls, one after another
abbrev pub after_calls : View → ℕ → List Event → View
after_calls view t [] = view
after_calls view t (c ∷ cs) = after_calls (call view t c).view t cs

-- the replies of these calls, one after another
abbrev pub call_replies : View → ℕ → List Event → List Reply
call_replies view t [] = []
call_replies view t (c ∷ cs) = (call view t c).reply ∷ call_replies (call view t c).view t cs

-- a transaction begins with empty registers, and has made nothing
abbrev pub fresh_view : Graph → View
fresh_view g = record { graph = g; registers = no_registers; made = 0 }

-- what a transaction sees after its calls, and what they were answered
abbrev pub run : Graph → Transaction → View
run g t = after_calls (fresh_view g) t.number t.calls

abbrev pub replies : Graph → Transaction → List Reply
replies g t = call_replies (fresh_view g) t.number t.calls

-- the graph after these transactions, each on what the one before left
abbrev pub serial : Graph → List Transaction → Graph
serial g [] = g
serial g (t ∷ ts) = serial (run g t).graph ts

-- the replies of these transactions, run so
abbrev pub serial_replies : Graph → List Transaction → List (List Reply)
serial_replies g [] = []
serial_replies g (t ∷ ts) = replies g t ∷ serial_replies (run g t).graph ts
