use Rattle.size_core.proofs.Prelude.{◌∙◌, ℕ, sym, ap, List, arith, heads_in}
use Rattle.size_core.proofs.StoreLaws.{heads-none}
use Rattle.size_core.proofs.stores.Stores.new.Goals as goal

pub invariant_of-result : goal.invariant_of-result
invariant_of-result c = (
  sym (ap (λ (z : List (List ℕ)). heads_in z) c.in_ok-no_flows.ensures.empty ∙ heads-none c.args.flows),
  omega arith,
  omega (arith, c.requires.some, c.in_ok-no_flows.ensures.count),
)
