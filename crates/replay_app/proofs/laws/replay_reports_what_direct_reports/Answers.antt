use Rattle.replay_app.proofs.SameReports.{replay_reports_what_direct_reports-holds}
use Rattle.replay_app.proofs.laws.replay_reports_what_direct_reports.Goals as goal

pub returns : goal.returns
returns c = record { law = replay_reports_what_direct_reports-holds }
