use Rattle.sched_core.proofs.Prelude.{ap, ◌∙◌, sym, Some, Option, is_some, nat_eq, true≢false, get, Packet, or_stray}
use Rattle.sched_core.specs.Chunks.{packet_from}
use Rattle.sched_core.specs.Held.{held_at}
use Rattle.sched_core.proofs.SlotLaws.{split, if_same, if_other}
use Rattle.sched_core.proofs.held.Held.move_outliers.Goals as goal

pub put_stray-requires : goal.put_stray-requires
unfolding packet_from
put_stray-requires c = record {
  before = λ far. absurd (true≢false (sym (ap is_some c.in-Some.ensures) ∙ ap is_some (c.loop-packet.self.window.behind c.in-Some.packet.number far)));
}

pub loop-packet-preserved : goal.loop-packet-preserved
unfolding held_at
loop-packet-preserved c =
    let h = c.loop-packet.self in
    let p = c.in-Some.packet in
    record {
      held = λ n. c.in_ok-put_stray.ensures.ok n
          ∙ split n p.number
          (λ same. if_same n p.number (Some p) (held_at h n) same ∙ sym (ap (held_at h) same ∙ ap (λ (o : Option Packet). or_stray o (get nat_eq h.strays p.number)) c.in-Some.ensures))
          (λ other. if_other n p.number (Some p) (held_at h n) other)
          ∙ c.loop-packet.invariant.held n;
      end = c.put_stray.ensures.end ∙ c.loop-packet.invariant.end;
    }
