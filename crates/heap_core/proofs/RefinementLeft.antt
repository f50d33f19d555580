-- What a crash leaves of a heap whose history gets an entry that neither commits nor acknowledges anything.
use Rattle.std.proofs.Common.{◌≡◌, ℕ, ◌+◌, List, [], ◌∷◌, ◌++◌, sym, ap, ◌∙◌}
use Rattle.std.specs.Option.{option_to_list}
use Rattle.std.proofs.lemmas.List.{append-nil}
use Rattle.graph_model.specs.declared.event.Event.{Event}
use Rattle.graph_model.specs.declared.reply.Entry.{Entry}
use Rattle.graph_model.specs.declared.reply.Refusal.{Refusal}
use Rattle.graph_model.specs.declared.reply.Reply.TheVariants.{Refused}
use Rattle.graph_model.specs.History.{Account, account, commits}
use Rattle.graph_model.proofs.Runs.History.{account-append}
use Rattle.graph_model.proofs.Refusals.Plain.{IsNoFault, account_after-refused}
use Rattle.heap_model.specs.Core.{Core, with_entry}
use Rattle.heap_model.specs.CoreCrash.{IsCommitPrefix}
use Rattle.core_laws.proofs.Crash.Cut.{prefix_on}

-- a refusal that doesn't come from the disk
pub keeps_refused : (c : Core) (event : Event) (why : Refusal) (image : List ℕ) → IsNoFault why → IsCommitPrefix c image → IsCommitPrefix (with_entry c event (Refused why)) image
keeps_refused c event why image sound kept =
    let a = account c.history in
    let entry : Entry = record { event = event; reply = Refused why } in
    let said : account (c.history ++ entry ∷ []) ≡ record a { entries = a.entries + 1 } = account-append c.history entry ∙ account_after-refused a event why sound in
    let all : commits (c.history ++ entry ∷ []) ≡ commits c.history ++ [] = ap (λ (b : Account). b.sealed ++ option_to_list b.in_doubt) said ∙ sym (append-nil (commits c.history)) in
    prefix_on c (c.history ++ entry ∷ []) [] image all (ap (λ (b : Account). b.acknowledged) said) kept
