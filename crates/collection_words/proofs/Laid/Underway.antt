-- A collection that is under way, with its from-space, and the other way round.
use Rattle.std.proofs.Common.{ℕ, ◌≤◌, List}
use Rattle.heap_spaces.specs.Collection.{Collection}
use Rattle.log_machine.specs.Machine.{State, words_in}
use Rattle.graph_words.specs.Places.{Places}
use Rattle.collection_words.specs.LaidOut.{IsUnderway}
use Rattle.collection_words.proofs.Laid.Sources.{IsCollecting, collecting}

pub underway : {s : State} {k : Collection} {places remaining : Places} {words : List ℕ} → IsUnderway s k places remaining words → IsCollecting s k places remaining words
underway {k = k} is = collecting k is.run is.spaced is.long is.laid

pub still_underway : {s : State} {k : Collection} {places remaining : Places} {words : List ℕ} → words_in s.pages ≤ 2097152 → IsCollecting s k places remaining words → IsUnderway s k places remaining words
still_underway small is = record { run = is.run; spaced = is.spaced; long = is.long; small = small; laid = is.laid }
