use Rattle.library_tests.proofs.Prelude.{arith, sym, ◌≢◌, Packet, IsAccepted, Policy, IsSendable}
use Rattle.rank_defs.specs.declared.environment.FlowKey.{FlowKey}
use Rattle.library_tests.proofs.Exchanges.{both_come, stands_exchanged}
use Rattle.library_tests.proofs.fabrics.exchange.Goals as goal

abbrev no_flow : FlowKey
no_flow = record { version = 0; source = 0; target = 0; proto = 0; sport = 0; dport = 0 }

abbrev early : Packet
early = record { number = 1; class = 0; len = 4; moment = 5; flow = no_flow }

abbrev late : Packet
late = record { number = 2; class = 0; len = 4; moment = 9; flow = no_flow }

early_sent : (policy : Policy) → IsAccepted policy → IsSendable policy early
early_sent policy accepted = record { known = record { class = accepted.some_class; len = omega arith }; moment = omega arith }

late_sent : (policy : Policy) → IsAccepted policy → IsSendable policy late
late_sent policy accepted = record { known = record { class = accepted.some_class; len = omega arith }; moment = omega arith }

apart : early.number ≢ late.number
apart e = omega (arith, e)

pub fill-requires-clause-can : goal.fill-requires-clause-can
fill-requires-clause-can g c =
    let policy = c.args.policy.now.policy in
    let accepted = c.is_plain_leaf.ensures.accepted in
    both_come policy accepted early late apart (early_sent policy accepted) (late_sent policy accepted)

pub fill-requires-2-clause-can : goal.fill-requires-2-clause-can
fill-requires-2-clause-can g c =
    let policy = c.args.policy.now.policy in
    let accepted = c.is_plain_leaf.ensures.accepted in
    both_come policy accepted late early (λ e. apart (sym e)) (late_sent policy accepted) (early_sent policy accepted)

pub depart_three-requires-clause-stands : goal.depart_three-requires-clause-stands
depart_three-requires-clause-stands g c =
    let policy = c.args.policy.now.policy in
    let accepted = c.is_plain_leaf.ensures.accepted in
    let plain = c.is_plain_leaf.ensures.plain c.if-not-is_plain_leaf.false in
    stands_exchanged g.F.Fabric policy c.args.target.now accepted plain early late apart (early_sent policy accepted) (late_sent policy accepted) c.in_ok-first.first c.in_ok-_second._second c.fill.new.fabric c.fill-2.new.fabric c.in_ok-first.ensures c.in_ok-_second.ensures
