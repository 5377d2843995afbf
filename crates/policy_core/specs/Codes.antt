-- How a policy is stored as a ghost value.
use Rattle.std.specs.Prelude.{ℕ, List, refl}
use Rattle.std.specs.Coded.{Coded, code_by, coded×, coded_ℕ, coded_list}
use Rattle.tree_defs.specs.Tree.{Tree, Address}
use Rattle.tree_defs.specs.Codes.{tree_code}
use Rattle.rank_defs.specs.declared.flow_group.FlowGroup.{FlowGroup}
use Rattle.rank_defs.specs.contracts.flow_group.FlowGroup as group_row
use Rattle.rank_defs.specs.Programs.{Program}
use Rattle.range_core.specs.Codes.{program_code}
use Rattle.policy_defs.specs.declared.limits.Limits.{Limits}
use Rattle.policy_defs.specs.contracts.limits.Limits as limits_row
use Rattle.policy_defs.specs.Policy.{Policy, Node, Class, Marks}
use Rattle.policy_text_defs.specs.declared.test.Test.{Test}
use Rattle.policy_text_defs.specs.contracts.test.Test as test_row
use Rattle.policy_rules.specs.Resolved.{Resolved}

abbrev test_code : Coded Test
test_code = test_row.the_row.coded

abbrev pub marks_code : Coded Marks
marks_code = code_by (ℕ × (ℕ × ℕ)) (coded× coded_ℕ (coded× coded_ℕ coded_ℕ)) (λ m. (m.prio, (m.weight, m.slack))) (λ p. record { prio = p.0; weight = p.1.0; slack = p.1.1 }) (λ _. refl)

abbrev limits_code : Coded Limits
limits_code = limits_row.the_row.coded

abbrev group_code : Coded FlowGroup
group_code = group_row.the_row.coded

abbrev pub node_code : Coded Node
node_code =
    code_by (List ℕ × (List ℕ × (Program × (Marks × (Limits × FlowGroup)))))
    (coded× (coded_list coded_ℕ) (coded× (coded_list coded_ℕ) (coded× program_code (coded× marks_code (coded× limits_code group_code)))))
    (λ n. (n.name, (n.using, (n.program, (n.marks, (n.limits, n.group)))))) (λ p. record { name = p.0; using = p.1.0; program = p.1.1.0; marks = p.1.1.1.0; limits = p.1.1.1.1.0; group = p.1.1.1.1.1 }) (λ _. refl)

abbrev pub class_code : Coded Class
class_code = code_by (Marks × Address) (coded× marks_code (coded_list coded_ℕ)) (λ c. (c.marks, c.leaf)) (λ p. record { marks = p.0; leaf = p.1 }) (λ _. refl)

abbrev pub policy_code : Coded Policy
policy_code =
    code_by (ℕ × (Tree Node × List Class)) (coded× coded_ℕ (coded× (tree_code node_code) (coded_list class_code)))
    (λ p. (p.version, (p.tree, p.classes))) (λ p. record { version = p.0; tree = p.1.0; classes = p.1.1 }) (λ _. refl)

abbrev pub resolved_code : Coded Resolved
resolved_code = code_by (Policy × List (List (List Test))) (coded× policy_code (coded_list (coded_list (coded_list test_code)))) (λ r. (r.policy, r.conditions)) (λ p. record { policy = p.0; conditions = p.1 }) (λ _. refl)
