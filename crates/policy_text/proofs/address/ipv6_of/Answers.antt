use Rattle.policy_text.proofs.Prelude.{sym}
use Rattle.policy_text_defs.proofs.TestLaws.{ipv6_none}
use Rattle.policy_text.proofs.address.ipv6_of.Goals as goal

pub returns-in-Err : goal.returns-in-Err
returns-in-Err c = sym (ipv6_none c.args.word.now c.in-Err.ensures)
