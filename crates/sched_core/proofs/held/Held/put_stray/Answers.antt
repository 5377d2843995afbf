use Rattle.sched_core.proofs.Prelude.{ap, ℕ, List, nat_eq, err_from_is_err_and, get, Packet, or_stray, packet_at}
use Rattle.std.specs.Map.{lookup}
use Rattle.sched_core.specs.Held.{held_at}
use Rattle.sched_core.proofs.HeldNumbers.{was-given, put-beside}
use Rattle.sched_core.proofs.held.Held.put_stray.Goals as goal

pub returns-in_err-insert-clause-err : goal.returns-in_err-insert-clause-err
unfolding held_at
returns-in_err-insert-clause-err c =
    let p = err_from_is_err_and c.from_residual.result c.from_residual.ensures.1 in
    rw (p.1) (λ n. ap (λ (es : List (ℕ × Packet)). or_stray (packet_at c.args.self.now.window n) (lookup (nat_eq n) es)) c.in_err-insert.ensures.err)

pub returns-clause-ok : goal.returns-clause-ok
unfolding held_at
returns-clause-ok c = λ n.
    let h = c.args.self.now in
    let p = c.args.packet.now in
    put-beside n p.number p (packet_at h.window n) (packet_at c.clear.new.self n) (get nat_eq h.strays n) (get nat_eq c.insert.new.self n) (c.clear.ensures.packets n) (c.in_ok-insert.ensures.updates.0 n)

pub returns-clause-fewer : goal.returns-clause-fewer
returns-clause-fewer c = λ some. c.clear.ensures.fewer (was-given c.clear.result c.clear.new.packet (packet_at c.args.self.now.window c.args.packet.now.number) c.clear.ensures.value some)
