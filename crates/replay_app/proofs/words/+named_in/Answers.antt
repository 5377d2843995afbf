use Rattle.std.proofs.Common.{rules, ◌∙◌}
use Rattle.replay_app.proofs.WordLaws.{pair_first}
use Rattle.replay_app.proofs.words.+named_in.Goals as goal

pub returns-in_ok-with-in-len2-up : goal.returns-in_ok-with-in-len2-up
returns-in_ok-with-in-len2-up n c =
    c.named_in.ensures ∙ pair_first c.args.named _ c.args.words.now c.word-item.result c.name-item.result c.in-len2-up.len_at_least c.word-item.is c.name-item.is (search rules) (search rules)
