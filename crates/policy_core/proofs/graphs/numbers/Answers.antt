use Rattle.policy_core.proofs.Prelude.{List, ◌≡◌, ℕ, sym, subst, true, has}
use Rattle.policy_core.proofs.NumberedPlaces.{all-at}
use Rattle.policy_core.proofs.graphs.numbers.Goals as goal

pub number-requires-clause-declared : goal.number-requires-clause-declared
number-requires-clause-declared c =
    subst (λ (a : List ℕ). has c.args.nodes.now a ≡ true) (sym c.as_str.ensures)
    (all-at (has c.args.nodes.now) c.args.names.now c.loop-name.name-index c.name-item.result c.requires.declared c.loop-name-test.true c.name-item.is)
