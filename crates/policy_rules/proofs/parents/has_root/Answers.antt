use Rattle.policy_rules.proofs.Prelude.{◌∙◌, rules, tests, YieldsList-from_slice, any_from_yields_List, sense_of, is_root}
use Rattle.policy_rules.proofs.Roots.{has_root-any}
use Rattle.policy_rules.proofs.parents.has_root.Goals as goal

pub returns : goal.returns
returns c =
    any_from_yields_List (λ l. is_root (sense_of l.1)) _ _ _ c.any.ensures.ran (YieldsList-from_slice c.args.lines.now c.iter.ensures.rest) (λ x b q k. search (rules, tests))
    ∙ has_root-any c.args.lines.now
