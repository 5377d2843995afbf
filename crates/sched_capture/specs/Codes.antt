-- How a placed policy is stored as a ghost value.
use Rattle.std.specs.Prelude.{refl}
use Rattle.std.specs.Coded.{Coded, code_by, coded×, coded_ℕ, coded_list}
use Rattle.tree_defs.specs.Tree.{Tree, Address}
use Rattle.tree_defs.specs.Codes.{tree_code}
use Rattle.target_core.specs.declared.target.Target.{Target}
use Rattle.target_core.specs.contracts.target.Target as target_row
use Rattle.policy_rules.specs.Resolved.{Resolved}
use Rattle.policy_core.specs.Codes.{resolved_code}
use Rattle.sched_capture.specs.Placements.{Placed}

abbrev target_code : Coded Target
target_code = target_row.the_row.coded

abbrev pub placed_code : Coded Placed
placed_code =
    code_by (Resolved × (Target × Tree Address)) (coded× resolved_code (coded× target_code (tree_code (coded_list coded_ℕ))))
    (λ p. (p.policy, (p.target, p.map))) (λ t. record { policy = t.0; target = t.1.0; map = t.1.1 }) (λ _. refl)
