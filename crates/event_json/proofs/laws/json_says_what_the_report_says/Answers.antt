use Rattle.event_json.proofs.ReadOutcomes.{json_says_the_report}
use Rattle.event_json.proofs.laws.json_says_what_the_report_says.Goals as goal

pub returns : goal.returns
returns c = json_says_the_report
