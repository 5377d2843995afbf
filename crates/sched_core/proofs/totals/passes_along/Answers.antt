use Rattle.std.proofs.Common.{arith, ◌∙◌, ◌+◌, refl, sym, ap, drop}
use Rattle.std.specs.Prelude.{◌||◌}
use Rattle.std.specs.List.{list_any}
use Rattle.sched_defs.specs.SourceState.{way_to}
use Rattle.sched_core.specs.Totals.{passes_on}
use Rattle.sched_core.proofs.TotalsLaws.{node-inside, passes-next, way-end}
use Rattle.sched_core.proofs.totals.passes_along.Goals as goal

pub bounds-nodes-path : goal.bounds-nodes-path
bounds-nodes-path c = node-inside c.args.path.now c.loop-level.level _ (omega (arith, c.loop-level-test.true)) _ _ c.requires.inside refl

pub returns-then-passes : goal.returns-then-passes
returns-then-passes c = record {
  passes = λ policy leaf values leads is h.
      sym (c.loop-level.invariant policy leaf values leads is h
      ∙ passes-next c.args.path.now c.loop-level.level _ (omega (arith, c.loop-level-test.true)) c.args.nodes.now c.index-nodes-path.result (node-inside c.args.path.now c.loop-level.level _ (omega (arith, c.loop-level-test.true)) _ _ c.requires.inside refl) c.index-nodes-path.is c.args.packet.now c.passes.result c.passes.ensures.passes policy leaf values leads is h
      ∙ ap (λ b. b || list_any (passes_on policy values c.args.packet.now) (drop (c.loop-level.level + 1) (way_to leaf))) c.if-passes.true);
}

pub loop-level-preserved : goal.loop-level-preserved
loop-level-preserved c = λ policy leaf values leads is h.
    c.loop-level.invariant policy leaf values leads is h
    ∙ passes-next c.args.path.now c.loop-level.level _ (omega (arith, c.loop-level-test.true)) c.args.nodes.now c.index-nodes-path.result (node-inside c.args.path.now c.loop-level.level _ (omega (arith, c.loop-level-test.true)) _ _ c.requires.inside refl) c.index-nodes-path.is c.args.packet.now c.passes.result c.passes.ensures.passes policy leaf values leads is h
    ∙ ap (λ b. b || list_any (passes_on policy values c.args.packet.now) (drop (c.loop-level.level + 1) (way_to leaf))) c.if-passes.false

pub returns : goal.returns
returns c = record {
  passes = λ policy leaf values leads is h.
      sym (c.loop-level.invariant policy leaf values leads is h
      ∙ ap (list_any (passes_on policy values c.args.packet.now)) (way-end policy.tree leaf c.args.path.now c.loop-level.level is (omega (arith, c.loop-level-test.false))));
}
