use Rattle.std.proofs.Common.{◌≡◌, ap, ◌∙◌, sym, ℕ, subst, refl, Option, Some, IsSome}
use Rattle.std.specs.Prelude.{unwrap_or}
use Rattle.sched_core.specs.NodeTotals.{count_in}
use Rattle.sched_core.proofs.FlowCounts.{found, entry-there, entry-kept, count-same, some-there, none-counted}
use Rattle.sched_core.proofs.node_totals.enter.Goals as goal

pub returns-then-contains_key-clause-room : goal.returns-then-contains_key-clause-room
returns-then-contains_key-clause-room c =
    subst IsSome (found c.args.flows.now c.args.flow.now c.key_of-key.ensures) (some-there _ c.contains_key.result c.contains_key.ensures c.if-contains_key.true)

pub returns-clause-room : goal.returns-clause-room
returns-clause-room c =
    subst IsSome (sym (entry-there c.args.flows.now c.insert.new.self c.args.flow.now (Some 0) c.key_of-key.ensures c.in_ok-insert.ensures.updates)) refl

pub returns-clause-kept : goal.returns-clause-kept
returns-clause-kept c = entry-kept c.args.flows.now c.insert.new.self c.args.flow.now (Some 0) c.key_of-key.ensures c.in_ok-insert.ensures.updates refl

pub returns-clause-counts : goal.returns-clause-counts
returns-clause-counts c =
    let none : count_in c.args.flows.now c.args.flow.now ≡ 0
    = ap (λ (o : Option ℕ). unwrap_or o 0) (sym (found c.args.flows.now c.args.flow.now c.key_of-key.ensures)) ∙ none-counted _ c.contains_key.result c.contains_key.ensures c.if-contains_key.false in
    count-same c.args.flows.now c.insert.new.self c.args.flow.now (Some 0) c.key_of-key.ensures c.in_ok-insert.ensures.updates (sym none)
