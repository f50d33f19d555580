-- A core that was opened on a shaped log is reached, whatever graph stands in its words, under whatever names.
use Rattle.std.proofs.Common.{◌≡◌, ℕ, ◌+◌, true, false, List, [], ◌∷◌, ◌++◌, Some, unwrap_or, refl, sym, ap, ◌∙◌, arith}
use Rattle.std.proofs.lemmas.Option.{option_and_then_some}
use Rattle.graph_model.specs.Graph.{Graph}
use Rattle.log_records.specs.declared.Record.{Record}
use Rattle.log_machine.specs.Machine.{State, start, after, after_all, number_of, next_with}
use Rattle.log_machine.proofs.StateLaws.{turns, leads_after_all}
use Rattle.object_layout.specs.Layout.{id_at}
use Rattle.object_layout.proofs.SeenLaws.{seen_canon}
use Rattle.graph_words.specs.Places.{Places}
use Rattle.walk_laws.specs.Heap.{address_name_beside, current_of, left_of, places_by}
use Rattle.walk_laws.proofs.Birth.Born.{born_named}
use Rattle.walk_laws.proofs.Graph.ByAddress.{address_apart, address_base, walked_lies, walked_old, walked_room}
use Rattle.walk_laws.proofs.Graph.Held.{walked_held}
use Rattle.heap_model.proofs.Opening.Found.{born_seen, found_of, found_seen}
use Rattle.heap_model.proofs.Opening.Held.{later_has, later_next, later_of}
use Rattle.heap_model.specs.CoreCrash.{IsCommitPrefix}
use Rattle.heap_model.proofs.Opening.Rolled.{next_is, commits_are, rolled_commits, rolled_says, shaped_spaces}
use Rattle.heap_model.specs.Theorems.{SayingTheorem, SaysOn}
use Rattle.heap_model.specs.Image.{StoredHeap, origin_of, words_of, IsShapedLog, IsLegalLog, Shows, Says, records_in}
use Rattle.heap_model.specs.Opening.{rolled_back, next_of, commits_of, next_behind, opened, IsFound, IsLeftByOpening}

-- The number of the next transaction.

next_after : (s n : State) (r : Record) → after s r ≡ Some n → next_with s.next (number_of r) ≡ n.next
next_after s n r is = sym (turns s n r is).next

next_all : (s x : State) (rs : List Record) → after_all s rs ≡ Some x → x.next ≡ next_behind s.next rs
next_all s x [] is = let same : Some s ≡ Some x = is in ap (λ o. (unwrap_or o s).next) (sym is)
next_all s x (r ∷ rs) is = option_and_then_some (λ next. after_all next rs) (after s r) x is (λ next first rest.
    next_all next x rs rest ∙ ap (λ n. next_behind n rs) (sym (next_after s next r first)))

-- a transaction begun after an opening has the greater of the next number with which the log begins and one more than the greatest in it
pub next_pinned : (stored : StoredHeap) → IsShapedLog stored → next_of stored ≡ next_behind (origin_of stored).state.next (records_in stored)
next_pinned stored shaped = next_is stored shaped ∙ next_all (origin_of stored).state shaped.state (records_in stored) shaped.reached

-- What a legal log says.

module _ (stored : StoredHeap) (legal : IsLegalLog stored) (g : Graph) (shows : Shows stored legal g) where
  -- the log that was found says the graph
  pub found_says : Says g (commits_of stored) stored
  found_says = record { legal = legal; seen = g; shows = shows; graph = refl; count = sym (commits_are stored legal.shaped) }

  -- so does the one after the opening
  pub left_says : Says g (commits_of stored) (rolled_back stored)
  left_says = rolled_says g (commits_of stored) stored found_says

-- what a graph that stands under the names of births is said of
pub says_found : (stored : StoredHeap) (legal : IsLegalLog stored) (places : Places) (g : Graph) → IsFound stored legal.shaped true places g → SaysOn g stored
says_found stored legal places g found =
    let shows = found_seen stored legal.shaped places g found in
    record { found = found_says stored legal g shows; left = left_says stored legal g shows }

-- In what a shaped log leaves a graph stands under names by address, so each heap that is opened is a core.
pub address_found : (stored : StoredHeap) (shaped : IsShapedLog stored) → (places : Places) × (g : Graph) × IsFound stored shaped false places g
address_found stored shaped =
    let state = shaped.state in
    let words = words_of stored in
    let spaces = shaped_spaces stored shaped in
    let name = address_name_beside state in
    let current = places_by name (current_of state words shaped.walked) in
    let left = places_by name (left_of state words shaped.walked) in
    let grows = (leads_after_all (start stored.super.pages stored.super.first) state (records_in stored) shaped.reached).grows in
    let first = shaped.limits.some_first in
    let held = walked_held state words name spaces (address_base state spaces.spaced (walked_room state words spaces state.collection shaped.walked)) state.collection refl shaped.walked
    (address_apart state (current_of state words shaped.walked ++ left_of state words shaped.walked) spaces.spaced (walked_lies state words spaces state.collection refl shaped.walked)) in
    let old = walked_old state words state.next spaces (omega arith) state.collection refl shaped.walked in
    (current ++ left, held.0, found_of stored shaped false current left held.0 held.1 old (λ by_birth. cc))

-- A legal log says the graph of its objects, under the names of their births.
pub saying_law : SayingTheorem
saying_law stored legal g shows =
    let shaped = legal.shaped in
    let state = shaped.state in
    let words = words_of stored in
    let current = places_by (id_at words) (current_of state words shaped.walked) in
    let left = places_by (id_at words) (left_of state words shaped.walked) in
    let born = born_named state state.next words (shaped_spaces stored shaped) state.collection refl shaped.walked legal.births in
    let h = born.0 in
    let found : IsFound stored shaped true (current ++ left) h = found_of stored shaped true current left h born.2 born.1.old (λ by_birth. born.1.tells) in
    (current ++ left, h, found, seen_canon (id_at words) (id_at words) words state.base h g (found_seen stored shaped (current ++ left) h found) shows, says_found stored legal (current ++ left) h found)

-- A legal log shows a graph.
pub legal_shows : (stored : StoredHeap) (legal : IsLegalLog stored) → (g : Graph) × Shows stored legal g
legal_shows stored legal =
    let shaped = legal.shaped in
    let spaces = shaped_spaces stored shaped in
    let born = born_named shaped.state shaped.state.next (words_of stored) spaces shaped.state.collection refl shaped.walked legal.births in (born.0, born_seen spaces born.1)

module _ (stored : StoredHeap) (legal : IsLegalLog stored) (places : Places) (g : Graph) (found : IsFound stored legal.shaped true places g) where
  none_since : (later : StoredHeap) → Says g (commits_of stored) later → Says g (commits_of stored + 0) later
  none_since later says = record { legal = says.legal; seen = says.seen; shows = says.shows; graph = says.graph; count = omega (arith, says.count) }

  -- an opening rolls transactions back, and commits none
  same_commits : commits_of (rolled_back stored) ≡ commits_of stored
  same_commits = rolled_commits stored legal.shaped

  -- an image that an opening leaves keeps all commits, wherever the opening was stopped
  pub opened_keeps : (gates : ℕ → ℕ) (image : List ℕ) → IsLeftByOpening stored image → IsCommitPrefix (opened stored gates true places g) image
  opened_keeps gates image left =
      let said = says_found stored legal places g found in
      let shaped = legal.shaped in (
        0,
        record {
          stands = record { stored = left.0; says = none_since left.0 (later_has (Says g (commits_of stored)) left.1 said.found said.left); held = left.2 };
          of = later_of {c = opened stored gates true places g} left.1 (record { limits = shaped.limits; pages = refl; room = refl; first = refl });
          next = later_next (next_of stored) left.1 shaped (omega arith);
          kept = omega arith;
          forced = omega (arith, same_commits);
          some = omega arith;
        },
      )
