use Rattle.rank_core.proofs.Prelude.{◌≡◌, take, firsts}
use Rattle.rank_core.proofs.node.first_values.Given as goal

abbrev pub invariant-loop-span : goal.invariant-loop-span
invariant-loop-span l = l.values.items ≡ firsts (take l.span-index l.spans)
