use Rattle.rank_core.proofs.Prelude.{sym, subst, arith, IsSome, numbers_at}
use Rattle.rank_core.proofs.FlowPlaces.{place-within, has-numbers}
use Rattle.rank_core.proofs.node.NodeState.reserve.Goals as goal

pub returns-in-Some-clause-room : goal.returns-in-Some-clause-room
returns-in-Some-clause-room c =
    let t = c.place.new.self
    in subst (λ o. IsSome (numbers_at t.numbers.items o)) c.in-Some.ensures.place
    (has-numbers t.numbers.items c.in-Some.field-0 (omega (arith, t.even, place-within t.places t.flows.items c.args.flow.now c.in-Some.field-0 t.there (sym c.in-Some.ensures.place))))
