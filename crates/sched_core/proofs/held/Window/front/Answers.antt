use Rattle.sched_core.proofs.Prelude.{arith, ◌≡◌, ◌∙◌, sym, refl, ℕ, ◌+◌, ◌%◌, subst, Some, Option, IfSome, Packet}
use Rattle.std.specs.Prelude.{◌*◌}
use Rattle.sched_core.specs.Chunks.{packet_from}
use Rattle.sched_core.specs.Windows.{packet_at}
use Rattle.sched_core.proofs.ChunkLaws.{told, found-self}
use Rattle.sched_core.proofs.held.Window.front.Goals as goal

-- the packet is in the first chunk
pub returns : goal.returns
unfolding packet_from
returns c =
    let w = c.args.self.now in
    let n : ℕ = w.first * 64 + c.from-place.result % 64 in
    let is = told w.first w.chunks.items 0 c.in_ok-chunk.chunk.now n (omega (arith, c.in_ok-chunk.ensures.variant.0 refl, w.chunks.ok)) (omega arith) c.in_ok-chunk.ensures.item.1 in
    subst (λ (o : Option Packet). IfSome o (λ p. packet_at w p.number ≡ Some p)) (sym (c.packet.ensures ∙ is)) (found-self w.first w.chunks.items n)
