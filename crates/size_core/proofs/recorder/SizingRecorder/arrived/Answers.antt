use Rattle.std.proofs.Common.{refl}
use Rattle.size_core.proofs.recorder.SizingRecorder.arrived.Goals as goal

-- after the call only `live` changes, which `WatchesAll` doesn't mention
pub returns-clause-ok : goal.returns-clause-ok
returns-clause-ok g c bytes policy a same name =
    let ok = rw c.in_ok-pushed.was at c.push-pushed.ensures.ok in
    let made = ok a in
    record {
      uses = record {
        stays = record { class_hops = made.stays.class_hops; known = made.stays.known; names = made.stays.names; count = made.stays.count; limits = made.stays.limits; height = made.stays.height };
        uses = λ s h. let after = made.uses s h in record { nodes = after.nodes; passed = after.passed };
      };
      unwritten = refl;
    }
