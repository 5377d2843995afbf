use Rattle.std.proofs.Common.{◌∙◌}
use Rattle.study.proofs.SumLaws.{text_made}
use Rattle.study.proofs.sums.sums_text.Goals as goal

pub returns-in-Text : goal.returns-in-Text
returns-in-Text c = rw c.in-Text.is (text_made _ _ _ _ _ _ c.put_text.result c.in_ok-groups.ensures (c.deref.ensures.value ∙ c.in_ok-classes.ensures) c.put_text.ensures)

pub returns : goal.returns
returns c = rw c.in-Json.is (text_made _ _ _ _ _ _ c.put_json.result c.in_ok-groups.ensures (c.deref.ensures.value ∙ c.in_ok-classes.ensures) c.put_json.ensures)
