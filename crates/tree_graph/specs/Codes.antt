-- How rows and a topology are stored as a ghost value.
use Rattle.std.specs.Prelude.{ℕ, List, refl}
use Rattle.std.specs.Coded.{Coded, code_by, coded×, coded_ℕ, coded_list}
use base.Stored.{coded_unit}
use Rattle.tree_defs.specs.Topology.{Topology}
use Rattle.tree_defs.specs.Codes.{tree_code}
use Rattle.tree_graph.specs.Row.{Row, row}
use Rattle.tree_graph.specs.Preorder.{Numbered, numbered}

abbrev pub row_code : Coded Row
row_code = code_by (ℕ × (List ℕ × List ℕ)) (coded× coded_ℕ (coded× (coded_list coded_ℕ) (coded_list coded_ℕ))) (λ r. (r.node, (r.address, r.children))) (λ p. row p.0 p.1.0 p.1.1) (λ _. refl)

abbrev pub numbered_code : Coded Numbered
numbered_code = code_by (List Row × Topology) (coded× (coded_list row_code) (tree_code coded_unit)) (λ p. (p.rows, p.topology)) (λ p. numbered p.0 p.1) (λ _. refl)
