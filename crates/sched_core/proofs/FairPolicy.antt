-- The policy of the tests is accepted.
use Rattle.sched_core.proofs.Prelude.{arith, ◌≡◌, ℕ, List, length, subst, Some, [], ◌∷◌, ◌≤◌, suc, zero, rules, codes, told, IsAccepted, AreMarksInRange, IsNodeReady, Node, node_at, IsShaped, Address}
use Rattle.rank_defs.specs.Builtins.{strict, stfq}
use Rattle.rank_defs.specs.Checks.{IsChecked}
use Rattle.policy_core.specs.declared.parts.Marks.{Marks}
use Rattle.policy_core.specs.Samples.{node, plain, urgent}
use Rattle.sched_core.specs.Samples.{fair}
use Rattle.sched_core.proofs.TreeParts.{some-is}

shaped : IsShaped stfq
shaped = search rules

checked : IsChecked stfq
checked = search rules

plain-in_range : AreMarksInRange (told plain)
plain-in_range = record { prio = omega arith; weight_low = omega arith; weight_high = omega arith; slack = omega arith }

urgent-in_range : AreMarksInRange (told urgent)
urgent-in_range = record { prio = omega arith; weight_low = omega arith; weight_high = omega arith; slack = omega arith }

ready : (name : List ℕ) (m : Marks) → AreMarksInRange (told m) → length name ≤ 64 → IsNodeReady (node name (codes "stfq") stfq m)
ready name m range short = record { shaped = shaped; checked = checked; marks = range; name = short }

ready-strict : IsNodeReady (node (codes "right") (codes "strict") strict plain)
ready-strict = record { shaped = search rules; checked = search rules; marks = plain-in_range; name = omega arith }

nodes-ready : (a : Address) (n : Node) → node_at fair.policy.tree a ≡ Some n → IsNodeReady n
nodes-ready [] n e = subst IsNodeReady (some-is e) (ready _ plain plain-in_range (omega arith))
nodes-ready (zero ∷ []) n e = subst IsNodeReady (some-is e) (ready _ urgent urgent-in_range (omega arith))
nodes-ready (zero ∷ zero ∷ []) n e = subst IsNodeReady (some-is e) (ready _ plain plain-in_range (omega arith))
nodes-ready (zero ∷ zero ∷ i ∷ a) n e = cc
nodes-ready (zero ∷ suc i ∷ a) n e = cc
nodes-ready (suc zero ∷ []) n e = subst IsNodeReady (some-is e) ready-strict
nodes-ready (suc zero ∷ i ∷ a) n e = cc
nodes-ready (suc (suc i) ∷ a) n e = cc

pub fair-accepted : IsAccepted fair.policy
fair-accepted = record {
  nodes = nodes-ready;
  classes = (record { marks = urgent-in_range; leaf_address = tt }, (record { marks = plain-in_range; leaf_address = tt }, tt));
  some_class = omega arith;
  levels = omega arith;
  children = (omega arith, ((omega arith, (tt, tt)), (tt, tt)));
}
