use Rattle.std.proofs.Common.{refl, sym, ap}
use Rattle.packet_defs.specs.declared.packet.Departed.{Departed}
use Rattle.summary_core.proofs.recorder.SummaryRecorder.departed.Goals as goal

pub returns-clause-ok : goal.returns-clause-ok
returns-clause-ok g c bytes policy p a at name =
    let sums = c.count_departure.ensures.ok p a c.args._ranks.now
    (sym (ap (λ (d : Departed). d.packet) at)) (sym (ap (λ (d : Departed). d.class) at)) (sym (ap (λ (d : Departed). d.len) at)) in
    record { sums = sums; unwritten = refl }
