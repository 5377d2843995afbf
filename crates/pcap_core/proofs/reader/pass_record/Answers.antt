use Rattle.std.proofs.Common.{arith}
use Rattle.pcap_core.proofs.Records.{short-passed, data-broken, record-passed}
use Rattle.pcap_core.proofs.reader.pass_record.Goals as goal

pub returns-then-passed-captured-clause-fault : goal.returns-then-passed-captured-clause-fault
returns-then-passed-captured-clause-fault g c =
    let p = rw c.in-Some.is at c.in_ok-preface.ensures in
    data-broken c.args.head c.args.count _ c.in-Some.preface _ _ p.told
    (short-passed c.in-Some.preface.captured c.in_ok-passed.passed _ (c.in_ok-passed.ensures.end c.if-passed-captured.true) c.if-passed-captured.true)
    p.limits.few (omega (arith, c.from.ensures)) p.limits.short

pub returns-clause-found : goal.returns-clause-found
returns-clause-found g c some =
    let p = rw c.in-Some.is at c.in_ok-preface.ensures in
    record-passed c.args.head c.in_ok-passed.passed c.in-Some.preface _ _ _ p.told c.in_ok-passed.ensures.passed
    (omega (arith, c.if-passed-captured.false, c.in_ok-passed.ensures.bound)) p.limits.short
