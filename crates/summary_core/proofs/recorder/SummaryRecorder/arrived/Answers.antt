use Rattle.std.proofs.Common.{refl}
use Rattle.summary_core.proofs.recorder.SummaryRecorder.arrived.Goals as goal

-- after the call only `live` changes, which `Sums` doesn't mention
pub returns-clause-ok : goal.returns-clause-ok
returns-clause-ok g c bytes policy a same name =
    let ok = rw c.in_ok-counted.was at c.count_arrival-counted.ensures.ok in
    let made = ok a c.args._ranks.now in
    record {
      sums = record {
        rate = made.rate;
        table = made.table;
        timestamps = made.timestamps;
        sums = λ whole.
            let added = made.sums whole in
            record { whole = added.whole; table = added.table; all = added.all; leaves = added.leaves; classes = added.classes; delays = added.delays };
      };
      unwritten = refl;
    }
