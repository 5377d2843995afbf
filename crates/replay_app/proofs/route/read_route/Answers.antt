use Rattle.replay_app.proofs.Prelude.{subst, IsVerdict, topology, topology_of}
use Rattle.replay_app.proofs.ViaInputs.{nodes_named}
use Rattle.replay_app.proofs.route.read_route.Goals as goal

pub pair_text-requires : goal.pair_text-requires
pair_text-requires g c =
    let p = c.args.policy.now.policy in
    let t = c.in_ok-map_file.map_file in
    record { nodes = nodes_named p (topology c.args.middle.now) t.given c.in-Some.fault (subst (IsVerdict (topology_of p.tree) (topology c.args.middle.now) t.given) c.in-Some.is c.in_ok-map_file.ensures.sound.verdict) }
