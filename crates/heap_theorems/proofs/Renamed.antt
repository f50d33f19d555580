-- What is said of isomorphic graphs, said of renamed ones: the two are the same of whole graphs.
use Rattle.std.proofs.Common.{◌≡◌, ℕ, ◌^◌, ◌<◌, List, length}
use Rattle.std.specs.Prelude.{◌↔◌, Bool, IsTrue}
use Rattle.graph_model.specs.declared.id.Id.{Id}
use Rattle.graph_model.specs.Canon.{canon}
use Rattle.graph_model.specs.ClosedGraph.{IsWhole}
use Rattle.graph_model.specs.Graph.{Graph}
use Rattle.graph_model.specs.Isomorphism.{AreRenamed, IsIsomorphism}
use Rattle.graph_model.specs.NewNumbers.{HaveNewNumbers, HaveOwnNumbers}
use Rattle.graph_model.specs.Printable.{IsPrintable}
use Rattle.graph_model.specs.Text.{canon_text}
use Rattle.graph_model.specs.Transaction.{Transaction, serial, serial_replies}
use Rattle.graph_model.proofs.Canon.Isomorphism.{AreIsomorphic, canon_tells_isomorphism}
use Rattle.graph_model.proofs.Canon.Renaming.{canon_tells_renaming}
use Rattle.graph_model.proofs.Runs.Isomorphism.{serial_isomorphic}
use Rattle.graph_model.proofs.Text.Printable.{text_tells_isomorphism}
use Rattle.graph_model.proofs.Whole.Whole.{serial-IsWhole}
use Rattle.object_layout.specs.Layout.{IsSeenAs}
use Rattle.object_layout.proofs.SeenLaws.{seen_whole}
use Rattle.object_layout.proofs.SeenPrintable.{seen_text_tells}

renamed : (g h : Graph) → IsWhole g → IsWhole h → AreIsomorphic g h → AreRenamed g h
renamed g h whole whole' iso = (canon_tells_renaming g h whole whole').0 ((canon_tells_isomorphism g h whole whole').1 iso)

isomorphic : (g h : Graph) → IsWhole g → IsWhole h → AreRenamed g h → AreIsomorphic g h
isomorphic g h whole whole' are = (canon_tells_isomorphism g h whole whole').0 ((canon_tells_renaming g h whole whole').1 are)

-- a match of ids that is given as a test, and is an isomorphism, leaves one canon
pub isomorphic_canon : (g h : Graph) (R : Id → Id → Bool) → IsWhole g → IsWhole h → IsIsomorphism (λ a b. IsTrue (R a b)) g h → canon g ≡ canon h
isomorphic_canon g h R whole whole' iso = (canon_tells_isomorphism g h whole whole').1 ((λ a b. IsTrue (R a b)), iso)

-- the text tells whole graphs apart that are not one up to renaming objects, where numbers are short
pub text_tells_renaming : (g h : Graph) → IsWhole g → IsWhole h → IsPrintable g → IsPrintable h → (canon_text (canon g) ≡ canon_text (canon h)) ↔ AreRenamed g h
text_tells_renaming g h whole whole' printable printable' =
    let tells = text_tells_isomorphism g h whole whole' printable printable' in (
      λ same. renamed g h whole whole' (tells.0 same),
      λ are. tells.1 (isomorphic g h whole whole' are),
    )

-- so does the text of a graph that is seen in words
pub seen_text_tells_renaming : (name : ℕ → Id) (words : List ℕ) (start : ℕ) (g h : Graph) → IsSeenAs name words start g → length words < 2 ^ 64 → IsWhole h → IsPrintable h
    → (canon_text (canon g) ≡ canon_text (canon h)) ↔ AreRenamed g h
seen_text_tells_renaming name words start g h seen few whole printable =
    let tells = seen_text_tells name words start g h seen few whole printable in
    let own = seen_whole name words start g seen in (
      λ same. renamed g h own whole (tells.0 same),
      λ are. tells.1 (isomorphic g h own whole are),
    )

-- transactions with new numbers, run on graphs that are one up to renaming objects, are answered the same and leave such graphs
pub serial_renamed : (g h : Graph) (ts : List Transaction) → IsWhole g → IsWhole h → AreRenamed g h → HaveOwnNumbers ts → HaveNewNumbers g ts → HaveNewNumbers h ts
    → (serial_replies g ts ≡ serial_replies h ts) × AreRenamed (serial g ts) (serial h ts)
serial_renamed g h ts whole whole' are own new new' =
    let runs = serial_isomorphic g h ts (isomorphic g h whole whole' are) own new new' in
    (runs.0, renamed (serial g ts) (serial h ts) (serial-IsWhole g ts whole) (serial-IsWhole h ts whole') runs.1)
