use Rattle.mapcheck_core.proofs.Prelude.{◌≡◌, arith, knows, has}
use Rattle.std.proofs.lemmas.Grind.{common_steps}
use Rattle.mapcheck_core.proofs.map_text.first_unknown.Goals as goal

pub returns-then-not-contains : goal.returns-then-not-contains
returns-then-not-contains c = λ names same.
    let told : knows c.args.known.now c.entry-item.result.name.now ≡ has names c.entry-item.result.name.now = same c.entry-item.result.name.now in
    grind (arith, common_steps, told, c.loop-entry.invariant names same)

pub loop-entry-preserved : goal.loop-entry-preserved
loop-entry-preserved c = λ names same.
    let told : knows c.args.known.now c.entry-item.result.name.now ≡ has names c.entry-item.result.name.now = same c.entry-item.result.name.now in
    grind (arith, common_steps, told, c.loop-entry.invariant names same)
