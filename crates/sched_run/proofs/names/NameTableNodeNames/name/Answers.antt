use Rattle.sched_run.proofs.Prelude.{◌<◌, arith, ℕ, refl, sym, subst, length, nodes}
use Rattle.std.proofs.lemmas.Option.{slice_get_read}
use Rattle.policy_defs.specs.Numbers.{IsNameOf}
use Rattle.policy_rules.specs.Resolved.{Resolved}
use Rattle.sched_run.proofs.NameLaws.{each-at}
use Rattle.sched_run.proofs.names.NameTableNodeNames.name.Goals as goal

pub returns : goal.returns
returns c =
    let names = c.self.inside.names.items in
    let policy = c.self.inside.policy.now.policy in
    let within : c.args.node < nodes policy.tree = subst (λ (r : Resolved). c.args.node < nodes r.policy.tree) (sym c.self.view_is) c.requires.node in
    let named : IsNameOf policy c.args.node c.index.result.now.now = each-at (λ (n : ℕ) name. IsNameOf policy n name.now) names c.args.node c.index.result.now c.self.invariant.each
    (slice_get_read names (length names) c.args.node c.index.result.now refl (omega (arith, within, c.self.invariant.all)) c.index.ensures) in
    record { name = subst (λ (r : Resolved). IsNameOf r.policy c.args.node c.index.result.now.now) c.self.view_is named }
