use Rattle.policy_text.proofs.Prelude.{length}
use Rattle.policy_text.proofs.printing.test.+put_flags_among.Given as goal

abbrev pub decreases-put_flags_among : goal.decreases-put_flags_among
decreases-put_flags_among l = length l.among.now
