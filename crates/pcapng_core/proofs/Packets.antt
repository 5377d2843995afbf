-- The reading up to the next packet.
use Rattle.pcapng_core.proofs.Prelude.{◌≡◌, ℕ, List, ◌∙◌, ap, Option, Some, None, IfSome, ◌≢◌, [], IsWhole, LeavesNothing, CapturedPacket, reads_faults, goes_block_by_block, Carried, BlockFault, broken, front_of, Reading, at_front, behind, reading_of, ended, packets_in, GoesOn, IsOver, TakesBlock}

-- after one more block
pub goes-more : (c mid_c after : Carried) (packet : Option CapturedPacket) (old mid new : Option (List ℕ)) → GoesOn c [] mid_c old mid → TakesBlock mid_c packet after mid new → GoesOn c (packets_in packet) after old new
goes-more c mid_c after packet None mid new goes takes = tt
goes-more c mid_c after packet (Some old) None new goes takes = absurd goes
goes-more c mid_c after packet (Some old) (Some mid) None goes takes = absurd takes
goes-more c mid_c after packet (Some old) (Some mid) (Some new) goes takes =
    goes ∙ ap (behind []) (goes_block_by_block mid_c mid ∙ ap (at_front reading_of mid_c) takes)

over-as : (c c1 : Carried) (fault : Option BlockFault) (rest : List ℕ) → reading_of c rest ≡ ended c1 fault → IsOver c fault rest
over-as c c1 fault rest e = record { none = ap (λ (r : Reading). r.packets) e; ends = ap (λ (r : Reading). r.fault) e }

-- if nothing is left
pub goes-over : (c mid_c : Carried) (old mid : Option (List ℕ)) → GoesOn c [] mid_c old mid → IsWhole mid → mid_c.blocks ≢ 0 → IfSome old (IsOver c None)
goes-over c mid_c None mid goes whole some = tt
goes-over c mid_c (Some old) None goes whole some = absurd goes
goes-over c mid_c (Some old) (Some mid) goes whole some =
    over-as c mid_c None old
    (goes ∙ ap (behind []) (goes_block_by_block mid_c mid ∙ ap (at_front reading_of mid_c) ((reads_faults.ends mid_c mid).0 (whole, some))))

pub goes-leaves : (c mid_c : Carried) (old mid new : Option (List ℕ)) → GoesOn c [] mid_c old mid → LeavesNothing mid new → LeavesNothing old new
goes-leaves c mid_c None mid new goes nothing = tt
goes-leaves c mid_c (Some old) None new goes nothing = absurd goes
goes-leaves c mid_c (Some old) (Some mid) new goes nothing = nothing

-- if there is a fault
pub goes-broken : (c mid_c : Carried) (fault : BlockFault) (old mid : Option (List ℕ)) → GoesOn c [] mid_c old mid → IfSome mid (λ left. front_of mid_c left ≡ broken fault) → IfSome old (IsOver c (Some fault))
goes-broken c mid_c fault None mid goes broke = tt
goes-broken c mid_c fault (Some old) None goes broke = absurd goes
goes-broken c mid_c fault (Some old) (Some mid) goes broke =
    over-as c mid_c (Some fault) old (goes ∙ ap (behind []) (goes_block_by_block mid_c mid ∙ ap (at_front reading_of mid_c) broke))
