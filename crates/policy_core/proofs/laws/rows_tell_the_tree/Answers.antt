use Rattle.policy_core.proofs.RowTrees.{rows-told}
use Rattle.policy_core.proofs.laws.rows_tell_the_tree.Goals as goal

pub returns : goal.returns
returns c = record { law = λ f t. rows-told f t }
