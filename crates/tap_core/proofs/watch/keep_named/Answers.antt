use Rattle.tap_core.proofs.Prelude.{◌∙◌, ap, rules, entries, is_named}
use Rattle.tap_core.proofs.Entries.{entries-filter, kept_by}
use Rattle.tap_core.proofs.watch.keep_named.Goals as goal

pub returns-clause-kept : goal.returns-clause-kept
returns-clause-kept g c =
    ap (entries g.T.Tap.kind_of g.T.Tap.state_of)
    (kept_by _ _ _ _ c.retain.ensures.filtered (λ b. is_named c.args.named (g.T.Tap.kind_of b)) (λ x b f' k. search rules))
    ∙ entries-filter g.T.Tap.kind_of _ (is_named c.args.named) _
