use Rattle.std.proofs.Common.{◌∙◌}
use Rattle.front_upgrade.proofs.UpgradeLaws.{joined, upgraded_so}
use Rattle.front_upgrade.proofs.text.upgraded_text.Goals as goal

pub returns : goal.returns
returns c = upgraded_so c.args.lines.now _
    (joined _ _ _ _ _ _ _ c.new-text.ensures.items c.in_ok-extend_from_slice.ensures.items c.in_ok-extend_from_slice-2.ensures.items c.behind_first_line.ensures (c.as_slice.ensures ∙ c.in_ok-printed.ensures.text))
