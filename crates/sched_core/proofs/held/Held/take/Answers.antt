use Rattle.sched_core.proofs.Prelude.{◌≡◌, ap, ◌∙◌, ℕ, Option, is_some, nat_eq, get, Packet, or_stray, packet_at}
use Rattle.sched_core.specs.Held.{held_at}
use Rattle.sched_core.proofs.HeldNumbers.{take-slot, take-both}
use Rattle.sched_core.proofs.held.Held.take.Goals as goal

pub returns-then-clear-clause-value : goal.returns-then-clear-clause-value
unfolding held_at
returns-then-clear-clause-value c = ap (λ (o : Option Packet). or_stray o (get nat_eq c.args.self.now.strays c.args.number)) c.if-clear.ensures.value

pub returns-then-clear-clause-rest : goal.returns-then-clear-clause-rest
unfolding held_at
returns-then-clear-clause-rest c = λ n.
    let h = c.args.self.now in
    take-slot n c.args.number (packet_at h.window n) (packet_at c.clear.new.self n) (get nat_eq h.strays n) (c.clear.ensures.packets n)
    (λ (same : n ≡ c.args.number). h.apart n (ap (λ (m : ℕ). is_some (packet_at h.window m)) same ∙ ap is_some c.if-clear.ensures.value))

-- ---- no packet with the number was in the window: if one is queued it is the stray
pub returns-clause-value : goal.returns-clause-value
unfolding held_at
returns-clause-value c = ap (λ (o : Option Packet). or_stray o (get nat_eq c.args.self.now.strays c.args.number)) c.if-clear.ensures.value ∙ c.take_stray.ensures.value

pub returns-clause-rest : goal.returns-clause-rest
unfolding held_at
returns-clause-rest c = λ n.
    let h = c.args.self.now in
    take-both n c.args.number (packet_at h.window n) (packet_at c.clear.new.self n) (get nat_eq h.strays n) (get nat_eq c.take_stray.new.strays n) (c.clear.ensures.packets n) (c.take_stray.ensures.rest n)
