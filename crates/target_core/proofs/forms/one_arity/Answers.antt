use Rattle.target_core.proofs.Prelude.{arith, ◌≡◌, Some, one_arity}
use Rattle.target_core.proofs.forms.one_arity.Goals as goal

pub returns-clause-accepted : goal.returns-clause-accepted
returns-clause-accepted c =
    let arity : c.number_at.result ≡ Some c.in_ok-arity.arity = grind arith in
    let height : c.number_at-2.result ≡ Some c.in_ok-height.height = grind arith in
    rw (c.from_vec.ensures, c.in_ok-arities.ensures.items_if_clones_equal (λ y same. same))
    (one_arity c.in_ok-arity.arity c.in_ok-height.height c.requires (rw arity at c.number_at.ensures.number) (rw height at c.number_at-2.ensures.number))
