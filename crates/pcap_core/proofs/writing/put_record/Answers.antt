use Rattle.std.proofs.Common.{subst}
use Rattle.std.proofs.lemmas.Result.{err_from_is_err_and, on_ok_weaker, on_err_weaker}
use Rattle.outside_core.specs.Written.{Appended, AppendedPrefix}
use Rattle.outside_core.proofs.WrittenLaws.{appended_in_turn, prefix_in_turn, prefix_of_longer}
use Rattle.pcap_core.proofs.writing.put_record.Goals as goal

pub returns-in_err-write_all-clause-part : goal.returns-in_err-write_all-clause-part
returns-in_err-write_all-clause-part g c =
    let p = err_from_is_err_and c.from_residual.result c.from_residual.ensures.1 in
    rw p.1 (prefix_of_longer _ _ _ _ (subst (AppendedPrefix _ _) c.record_front.ensures c.in_err-write_all.ensures.refused))

pub returns-clause-bytes : goal.returns-clause-bytes
returns-clause-bytes g c =
    on_ok_weaker _ (appended_in_turn _ _ _ _ _ (subst (Appended _ _) c.record_front.ensures c.in_ok-write_all.ensures.appended)) c.write_all-2.ensures.appended

pub returns-clause-part : goal.returns-clause-part
returns-clause-part g c =
    on_err_weaker _ (prefix_in_turn _ _ _ _ _ (subst (Appended _ _) c.record_front.ensures c.in_ok-write_all.ensures.appended)) c.write_all-2.ensures.refused
