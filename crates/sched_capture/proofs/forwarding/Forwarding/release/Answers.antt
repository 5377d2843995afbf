use Rattle.std.specs.Prelude.{nat_eq}
use Rattle.indexmap.specs.IndexMap.{get}
use Rattle.sched_capture.proofs.SentRecords.{short_of}
use Rattle.sched_capture.proofs.forwarding.Forwarding.release.Goals as goal

pub returns-clause-short : goal.returns-clause-short
returns-clause-short c =
    short_of (λ v. v.items) (get nat_eq c.args.self.now.held c.args.number) c.swap_remove.result c.swap_remove.ensures.value (λ bytes e. c.args.self.now.short c.args.number bytes e)
