use Rattle.std.proofs.Common.{◌∙◌, sym}
use Rattle.library_tests.proofs.Roots.{has_a_node, none_are, unlimited_root}
use Rattle.library_tests.proofs.fabrics.is_root_limited.Goals as goal

pub limits-limits-requires : goal.limits-limits-requires
limits-limits-requires c = record { there = has_a_node c.args.policy.now.policy.tree }

pub returns : goal.returns
returns c = record {
  limits = λ no. unlimited_root c.args.policy.now.policy.tree c.limits-limits.result c.limits-limits.ensures.limits
      (none_are c.limits-limits.result (sym c.is_some.ensures ∙ c.if-is_some.false) (sym c.is_some-else-is_some.ensures ∙ c.if-is_some-2.false) (sym c.is_some-2.ensures ∙ no));
}
