use Rattle.std.proofs.Common.{refl, sym, ap}
use Rattle.packet_defs.specs.declared.packet.Departed.{Departed}
use Rattle.size_core.proofs.recorder.SizingRecorder.departed.Goals as goal

pub returns-clause-ok : goal.returns-clause-ok
returns-clause-ok g c bytes policy p a at name = record {
  uses = c.pop.ensures.ok c.args._event p a c.args._ranks.now c.args._start (sym (ap (λ (d : Departed). d.class) at));
  unwritten = refl;
}
