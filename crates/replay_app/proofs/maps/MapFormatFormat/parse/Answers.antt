use Rattle.std.proofs.Common.{rules}
use Rattle.replay_app.proofs.Prelude.{subst, sym, ℕ, List, IsGivenFor, IsVerdict, IsWithinLimits, Fits, topology, Topology}
use Rattle.replay_app.proofs.TextFaults.{map_refused, map_answer}
use Rattle.replay_app.proofs.ViaInputs.{given_fits}
use Rattle.replay_app.proofs.maps.MapFormatFormat.parse.Goals as goal

pub first_broken-fault-requires-clause-topo : goal.first_broken-fault-requires-clause-topo
first_broken-fault-requires-clause-topo c =
    subst IsWithinLimits (sym c.topo.ensures.topology) (record { few = c.topo.ensures.few; low = c.topo.ensures.levels; branched = c.topo.ensures.branched })

pub first_broken-fault-requires-clause-given : goal.first_broken-fault-requires-clause-given
first_broken-fault-requires-clause-given c =
    let p = c.args.self.now.policy.now.policy in
    subst (λ (s : Topology). IsGivenFor s c.in-Ok.given) (sym c.topo.ensures.topology)
    (given_fits p c.in-Ok.given (subst (λ (ns : List (List ℕ)). Fits ns c.in-Ok.given) c.in_ok-names.ensures.names c.in-Ok.ensures.given))

pub returns-in-Ok-clause-read : goal.returns-in-Ok-clause-read
returns-in-Ok-clause-read c =
    let f = c.args.self.now in
    record {
      read = map_answer f.policy.now.policy c.args.text.now _ c.policy_edition.ensures _ c.in_ok-names.ensures.names c.read_map.result c.in-Ok.given c.in-Ok.is c.read_map.ensures.answer;
      verdict = subst (λ (s : Topology). IsVerdict s (topology f.middle.now) c.in-Ok.given c.first_broken-fault.result) c.topo.ensures.topology c.first_broken-fault.ensures;
    }

pub returns-in-Ok-clause-sound : goal.returns-in-Ok-clause-sound
returns-in-Ok-clause-sound c =
    let f = c.args.self.now in
    record {
      given_for = given_fits f.policy.now.policy c.in-Ok.given (subst (λ (ns : List (List ℕ)). Fits ns c.in-Ok.given) c.in_ok-names.ensures.names c.in-Ok.ensures.given);
      verdict = subst (λ (s : Topology). IsVerdict s (topology f.middle.now) c.in-Ok.given c.first_broken-fault.result) c.topo.ensures.topology c.first_broken-fault.ensures;
    }

pub returns-clause-read : goal.returns-clause-read
returns-clause-read c =
    rw (c.code.ensures, c.place.ensures)
    (map_refused c.args.self.now.policy.now.policy c.args.text.now _ c.policy_edition.ensures _ c.in_ok-names.ensures.names c.read_map.result c.in-Err.fault c.in-Err.is (search rules) c.read_map.ensures.answer)
