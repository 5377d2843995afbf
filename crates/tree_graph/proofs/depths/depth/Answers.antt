use Rattle.tree_graph.proofs.Prelude.{arith, ℕ, sym, ◌≡◌, subst, ◌+◌, suc, get_or, Leads}
use Rattle.tree_graph.proofs.Steps.{depth-none, depth-up, depth-found}
use Rattle.tree_graph.proofs.depths.depth.Goals as goal

pub returns : goal.returns
returns c = record {
  depth = λ g forest p.
      (let all : c.loop-depth.depth ≡ 65 = omega arith in
      depth-none g c.args.root c.loop-depth.at c.args.node forest (omega (arith, p.len)) (subst (λ (n : ℕ). Leads g n c.loop-depth.at c.args.node) all (c.loop-depth.invariant.1 g forest p)));
}

pub returns-then-at-root : goal.returns-then-at-root
returns-then-at-root c = record { depth = λ g forest p. (omega arith, depth-found g c.loop-depth.depth c.loop-depth.at c.args.root c.args.node (c.loop-depth.invariant.1 g forest p) c.if-at-root.true) }

pub loop-depth-preserved : goal.loop-depth-preserved
loop-depth-preserved c = (
  c.requires.in_range c.loop-depth.at 0 c.loop-depth.invariant.0,
  λ g forest p.
      (let e : c.loop-depth.depth + 1 ≡ suc c.loop-depth.depth = omega arith in
      subst (λ (n : ℕ). Leads g n (get_or c.args.parents.now c.loop-depth.at 0) c.args.node) (sym e)
      (depth-up g c.args.root c.args.parents.now c.loop-depth.depth c.loop-depth.at c.args.node forest p c.loop-depth.invariant.0 c.if-at-root.false (c.loop-depth.invariant.1 g forest p))),
)
