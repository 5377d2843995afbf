use Rattle.policy_core.proofs.Prelude.{take, ArePut}
use Rattle.policy_core.proofs.homes.put.Given as goal

abbrev pub invariant-loop-name : goal.invariant-loop-name
invariant-loop-name l = ArePut l.classes (take l.name-index l.listed) l.leaf l.fn.leaves l.leaves
