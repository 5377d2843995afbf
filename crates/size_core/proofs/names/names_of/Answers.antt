use Rattle.size_core.proofs.Prelude.{◌≡◌, ◌∙◌, ℕ, length, sym, ap, List, arith, subst, ◌+◌, IfSome, Some, Option, get_or, length-set, slice_get, HasAt, IsServed}
use Rattle.size_core.proofs.Lists.{each_set}
use Rattle.size_core.proofs.NameLaws.{served-own, served-other}
use Rattle.size_core.proofs.names.names_of.Goals as goal

pub overflow_cast-number : goal.overflow_cast-number
overflow_cast-number c = omega (arith, c.loop-number-test.true, c.requires.few)

pub loop-number-preserved : goal.loop-number-preserved
loop-number-preserved c =
    let tree = c.args.policy.now.policy.tree in
    let indices = c.args.indices.now in
    let n = c.loop-number.number in
    let names = c.loop-number.names.items in
    let k = get_or indices n 0 in
    let x : Option (List ℕ) = Some c.in_ok-name.name in
    let at : HasAt tree n (λ node. c.in_ok-name.name ≡ node.name) = subst (λ (text : List ℕ). HasAt tree n (λ node. text ≡ node.name)) (sym c.in_ok-name.ensures) c.name.ensures.name in
    record {
      count = ap (λ (z : List (Option (List ℕ))). length z) c.serve.ensures ∙ length-set names k x ∙ c.loop-number.invariant.count;
      each = subst (λ (z : List (Option (List ℕ))). (i : ℕ) → IfSome (slice_get z i) (λ name. IsServed tree indices (n + 1) i name)) (sym c.serve.ensures)
          (each_set (λ i name. IsServed tree indices n i name) (λ i name. IsServed tree indices (n + 1) i name) names k x c.loop-number.invariant.each
          (served-own tree indices n c.in_ok-name.name c.loop-number-test.true at) (λ i y other h. served-other tree indices n i y c.loop-number-test.true other h));
    }
