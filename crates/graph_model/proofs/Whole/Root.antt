-- The graph that is the root object alone.
use Rattle.std.proofs.Common.{◌≡◌, List}
use Rattle.std.specs.FinMap.{empty}
use Rattle.graph_model.specs.declared.val.Val.{Val}
use Rattle.graph_model.specs.Graph.{root, fields, root_graph}
pub use Rattle.graph_model.proofs.Whole.Graph.{id_cmp_total, id_cmp-IsAntisymmetric, id_cmp_itself, get-insert_same, fields-insert, insert-insert}

-- the fields of the root
pub fields-root_graph : (vs : List Val) → fields (root_graph vs) root ≡ vs
fields-root_graph vs = fields-insert empty root vs
