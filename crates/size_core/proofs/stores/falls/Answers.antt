use Rattle.std.proofs.Common.{◌<◌, ◌-◌, nat_lt, ap, ◌∙◌, arith, rules, deque_len, get_or}
use Rattle.size_core.proofs.StoreLaws.{last_is}
use Rattle.size_core.proofs.stores.falls.Goals as goal

pub returns-in-Some : goal.returns-in-Some
returns-in-Some c =
    let some : 0 < deque_len c.args.store.now = search rules in
    ap (λ z. nat_lt c.args.rank z) (c.in-Some.ensures.lookup ∙ ap (λ n. get_or c.args.store.now.items (n - 1) c.in-Some.last.now) c.args.store.now.ok.0 ∙ last_is c.args.store.now.items c.in-Some.last.now (omega (arith, some, c.args.store.now.ok.0)))
