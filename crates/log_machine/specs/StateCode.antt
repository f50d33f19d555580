-- How a state is stored, so that it can be what contracts see of a struct.
use Rattle.std.specs.Prelude.{ℕ, List, Option}
use Rattle.std.specs.Coded.{Coded, code_by, coded×, coded_ℕ, coded_list, coded_option}
use Rattle.std.specs.Ordering.{nat_cmp}
use Rattle.std.specs.FinMap.{FinMap}
use Rattle.std.specs.FinMap as map
use Rattle.std.proofs.Common.{refl}
use Rattle.heap_spaces.specs.Collection.{Collection}
use Rattle.heap_spaces.specs.CollectionCode.{collection_code}
use Rattle.log_machine.specs.declared.UndoEntry.{UndoEntry}
use Rattle.log_machine.specs.Machine.{State}
use Rattle.log_machine.specs.UndoEntry.{undo_entry}

abbrev pub entry_code : Coded UndoEntry
entry_code =
    code_by (ℕ × (ℕ × ℕ)) (coded× coded_ℕ (coded× coded_ℕ coded_ℕ)) (λ u. (u.object, (u.field, u.was))) (λ p. undo_entry p.0 p.1.0 p.1.1) (λ _. refl)

abbrev pub undo_code : Coded (FinMap nat_cmp (List UndoEntry))
undo_code = map.code coded_ℕ (coded_list entry_code)

abbrev pub state_code : Coded State
state_code =
    code_by (ℕ × (ℕ × (ℕ × (Option Collection × (FinMap nat_cmp (List UndoEntry) × (ℕ × ℕ)))))) (coded× coded_ℕ (coded× coded_ℕ (coded× coded_ℕ (coded× (coded_option collection_code) (coded× undo_code (coded× coded_ℕ coded_ℕ))))))
    (λ s. (s.pages, (s.base, (s.used, (s.collection, (s.undo, (s.commits, s.next)))))))
    (λ p. record { pages = p.0; base = p.1.0; used = p.1.1.0; collection = p.1.1.1.0; undo = p.1.1.1.1.0; commits = p.1.1.1.1.1.0; next = p.1.1.1.1.1.1 })
    (λ _. refl)
