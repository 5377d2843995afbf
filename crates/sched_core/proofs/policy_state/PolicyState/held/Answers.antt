use Rattle.sched_core.proofs.Prelude.{◌∙◌, subst, Option, ◌↔◌, IsSome, Contains, Packet, numbers_in, policy_in}
use Rattle.sched_defs.proofs.Leaving.{held_count}
use Rattle.sched_core.proofs.policy_state.PolicyState.held.Goals as goal

pub returns : goal.returns
returns c = λ s sound own.
    let numbers = numbers_in c.args.self.now.held in
    c.len.ensures.len
    ∙ held_count (policy_in c.args.self.now) s numbers sound (record {
      distinct = c.len.ensures.numbers.distinct;
      each = λ n. subst (λ (o : Option Packet). Contains numbers n ↔ IsSome o) (own.held n) (c.len.ensures.numbers.each n);
    })
