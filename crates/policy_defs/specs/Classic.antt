-- The policies that versions 1 and 2 of the language can write.
use Rattle.std.specs.Prelude.{◌≡◌, ◌⊎◌}
use Rattle.tree_defs.specs.Tree.{Address, LeadsToLeaf}
use Rattle.rank_defs.specs.declared.flow_group.FlowGroup.TheVariants.{FiveTuple}
use Rattle.policy_defs.specs.Policy.{Policy, no_limits, at_most, limits_at, group_at}

-- only leaves have limits, these are on packets alone, and flows are those of the five fields
pub record IsClassic (policy : Policy) : Type 0 where
  pub at_leaves : (a : Address) → (limits_at policy a ≡ no_limits) ⊎ LeadsToLeaf policy.tree a
  pub of_packets : (a : Address) → limits_at policy a ≡ at_most (limits_at policy a).packets
  pub groups : (a : Address) → group_at policy a ≡ FiveTuple
